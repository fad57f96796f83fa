-- How far a frame has gone: at the start, past its own port, past another, at the end. Assumes nothing.
use mathlib.Core.Path.{◌≡◌, sym, ◌∙◌}
use mathlib.Core.Logic.{inl}
use mathlib.Core.List.{List}
use Prim.Native.Nat.{ℕ, ◌+◌, ◌-◌, ◌*◌, ◌^◌, ◌≤◌, ◌<◌}
use native.Mathlib.Omega.{arith}
use lib.ListN.{length}
use Rattle.filter.specs.declared.Asked.{Asked}
use Rattle.filter.specs.Filter.{block_size as filter_length}
use Rattle.identifier.specs.Identifier.{sa_of}
use Rattle.queue.specs.declared.Frame.{Frame}
use Rattle.unit.specs.Model.{Rest, model_of, pairs_from, record_length}
use Rattle.unit.proofs.Count.{pairs_most}
use Rattle.forwarding.specs.declared.Offered.{Offered}
use Rattle.forwarding.specs.declared.Way.{Way}
use Rattle.forwarding.specs.Forwarding.{verdict}
use Rattle.forwarding.specs.Steps.{Sending, SendingAt, Standing, way_after, way_past, way_share, Room, Gone, Offering}
use Rattle.forwarding.proofs.Sends.{send_self, stand_self, stand_pair, stand_count, stand_next}
use Rattle.forwarding.proofs.Loop.{Going, asked_still, going_start, going_more, going_self, going_done, reasons_small, compared_small, sets_small, bit_small, weight_small}

-- what is asked of a port
abbrev question : ℕ → ℕ → ℕ → Frame → Rest → ℕ → Asked
question ports p pgn f rest = verdict ports rest p pgn (sa_of f.id)

abbrev At : ℕ → List ℕ → ℕ → ℕ → Frame → List ℕ → Way → Type 0
At ports start p pgn f words way =
    Going ports start (question ports p pgn f (model_of ports start).rest) f words way.accepted way.lost way.reasons way.compared way.bit way.weight way.to

module _ {ports : ℕ} {start : List ℕ} {p pgn : ℕ} {f : Frame} (few : ports ≤ 8) where
  going : {words : List ℕ} {way : Way} → Gone ports start words p pgn f way → At ports start p pgn f words way
  going G = record {
    along = record { few = few; whole = G.whole; within = G.few; weight = G.bit; state = G.state };
    place = G.weight;
    answer = G.answer;
    small = G.small;
  }

  gone : {words : List ℕ} (way : Way) → At ports start p pgn f words way → Standing ports p way.at way.to → Gone ports start words p pgn f way
  gone way G L = record {
    few = G.along.within;
    whole = G.along.whole;
    bit = G.along.weight;
    weight = G.place;
    answer = G.answer;
    small = G.small;
    state = G.along.state;
    standing = L;
  }

  pub gone_start : {at : ℕ} → length start ≡ record_length ports → at ≡ pairs_from ports + filter_length * ((ports - 1) * p)
      → Gone ports start start p pgn f (record { accepted = 0; lost = 0; reasons = 0; compared = 0; bit = 1; weight = 1; at = at; to = 0 })
  gone_start {at} long e =
      gone (record { accepted = 0; lost = 0; reasons = 0; compared = 0; bit = 1; weight = 1; at = at; to = 0 }) (going_start few long) (inl (omega arith, omega arith))

  pub gone_done : {words : List ℕ} {way : Way} → Gone ports start words p pgn f way → way.to ≡ ports
      → Offering ports start words (question ports p pgn f (model_of ports start).rest) f (way_share way)
  gone_done G e = going_done e (going G)

  module _ {words : List ℕ} {way : Way} {to : ℕ} (port : p < ports) (G : Gone ports start words p pgn f way) (is : way.to ≡ to) (to_more : to < ports) where
    more : way.to < ports
    more = omega (arith, is)

    pub gone_past : p ≡ to → Gone ports start words p pgn f (way_past way) × ((way_past way).to ≡ to + 1)
    unfolding way_past
    gone_past own =
        let e : p ≡ way.to = own ∙ sym is in
        (gone (way_past way) (going_self (going G) more (asked_still (question ports p pgn f) (going G) (send_self pgn e))) (stand_self port G.standing e), omega (arith, is))

    pub past_small : (way.bit ≤ 128) × (way.weight ≤ 2 ^ 28) × (way.to ≤ 8)
    past_small = (bit_small (going G).along more, weight_small (going G) more, omega arith)

    module _ (away : p ≡ to → ⊥) where
      other : p ≡ way.to → ⊥
      other e = away (e ∙ is)

      -- the pair's filter lies in the record
      pub pair_in_lem : way.at + filter_length ≤ length words
      pair_in_lem = omega (arith, G.whole, stand_pair port G.standing other, stand_count port G.standing other more)

      module _ {after : List ℕ} {s : Offered} (S : SendingAt words after way.at to pgn f s) where
        came : Sending ports words after (question ports p pgn f (model_of ports start).rest way.to) way.to f s
        came =
            let T : SendingAt words after way.at way.to pgn f s = rw is S in
            asked_still (question ports p pgn f) (going G) (T ports p more other (stand_count port G.standing other more) (stand_pair port G.standing other))

        pub gone_after : length after ≡ length words → Gone ports start after p pgn f (way_after way s) × ((way_after way s).to ≡ to + 1)
        unfolding way_after
        gone_after long = (gone (way_after way s) (going_more (going G) came more (omega (arith, long, G.whole))) (stand_next port G.standing other), omega (arith, is))

        pub room : Room way s
        room = record {
          sets = sets_small (going G) more;
          reasons = reasons_small (going G) came more;
          compared = compared_small (going G) came more;
          bit = bit_small (going G).along more;
          weight = weight_small (going G) more;
          at = omega (arith, stand_pair port G.standing other, stand_count port G.standing other more, pairs_most {ports = ports} few);
          to = omega arith;
        }
