-- The contracts of the loops over the ports: what each does to the model of a record, at one port and at all.
-- Assumes nothing.
use Rattle.std.specs.Prelude.{ℕ, ◌+◌, ◌-◌, ◌*◌, ◌^◌, ◌≤◌, ◌<◌, Bool, true, false, cond, ◌⊎◌, ◌≡◌, List, [], ◌∷◌, length, Option, Some}
use Rattle.delivery.specs.Row.{room}
use Rattle.filter.specs.declared.Asked.{Asked}
use Rattle.filter.specs.Filter.{crosses, reason_number, block_size as filter_length}
use Rattle.sorted_list.specs.SortedList.{most_probes}
use Rattle.name_entries.specs.NameEntries.{most_names}
use Rattle.identifier.specs.Identifier.{sa_of}
use Rattle.queue.specs.declared.Frame.{Frame}
use Rattle.queue.specs.Queue.{Queued, size, sent_all, joined}
use Rattle.unit.specs.Ports.{each, in_turn, mask, digits, total}
use Rattle.unit.specs.Model.{Model, queue_on, row_at, with_queue, with_queues, with_losses, pairs_from, pair_at, record_length, model_of}
use Rattle.unit.specs.Count.{pair_count}
use Rattle.unit.specs.Own.{frames_sent}
use Rattle.forwarding.specs.declared.Came.{Came}
use Rattle.forwarding.specs.declared.Offered.{Offered}
use Rattle.forwarding.specs.declared.Share.{Share}
use Rattle.forwarding.specs.declared.Way.{Way}
use Rattle.forwarding.specs.Forwarding.{verdict, sent_if, accepts, loses, loses_own, lost_from, lost_own}

-- ---- any change of the queues at the first n ports, each by itself, and what is counted where a frame is lost
abbrev pub changed_to : ℕ → Model → (ℕ → Queued → Queued) → (ℕ → Bool) → (ℕ → List ℕ → List ℕ) → Model
changed_to n m change lost count = record {
  rest = m.rest;
  queues = each change n m.queues;
  seen = record { losses = in_turn lost count n m.seen.losses };
}

-- ---- a frame from port p was lost at port q, and at those that a test holds of
pub record Losing (ports : ℕ) (before after : List ℕ) (p q : ℕ) : Type 0 where
  pub state : model_of ports after ≡ with_losses (model_of ports before) (lost_from ports p q (model_of ports before).seen.losses)

pub record LosingAll (ports : ℕ) (before after : List ℕ) (p : ℕ) (lost : ℕ → Bool) : Type 0 where
  pub state : model_of ports after ≡ with_losses (model_of ports before) (in_turn lost (lost_from ports p) ports (model_of ports before).seen.losses)

-- ---- a frame from port p joins port q's queue, or is lost there
abbrev pub joined_from : ℕ → Model → ℕ → ℕ → Frame → Model
joined_from ports m p q f =
    with_losses (with_queue m q (joined (queue_on m q) f)) (cond (room size (row_at m q)) m.seen.losses (lost_from ports p q m.seen.losses))

pub record Joining (ports : ℕ) (before after : List ℕ) (p q : ℕ) (f : Frame) (r : Bool) : Type 0 where
  pub answer : r ≡ room size (row_at (model_of ports before) q)
  pub state : model_of ports after ≡ joined_from ports (model_of ports before) p q f

-- ---- a frame, by any question that is asked of a port: where port q answered v, and where the first n ports answered `question`
abbrev pub came_of : Asked → List Frame → Came
came_of v row = cond (crosses v.reason) (cond (room size row) Came.Joined Came.Lost) Came.Stopped

-- whether a frame joined, and whether it was lost
abbrev pub joins : Came → Bool
joins Came.Stopped = false
joins Came.Joined = true
joins Came.Lost = false

abbrev pub misses : Came → Bool
misses Came.Stopped = false
misses Came.Joined = false
misses Came.Lost = true

pub record Sending (ports : ℕ) (before after : List ℕ) (v : Asked) (q : ℕ) (f : Frame) (r : Offered) : Type 0 where
  pub answer : r ≡ record { came = came_of v (row_at (model_of ports before) q); reason = reason_number v.reason; compared = v.compared }
  pub state : model_of ports after ≡ with_queue (model_of ports before) q (sent_all (queue_on (model_of ports before) q) (sent_if v f))
  pub small : r.compared ≤ most_probes + most_names

-- from any other port, by the pair whose filter begins at a word, whatever the number of ports
abbrev pub SendingAt : (before after : List ℕ) (at q pgn : ℕ) (f : Frame) (r : Offered) → Type 0
SendingAt before after at q pgn f r =
    (ports p : ℕ) → q < ports → (p ≡ q → ⊥) → pair_at ports p q < pair_count ports → at ≡ pairs_from ports + filter_length * pair_at ports p q
    → Sending ports before after (verdict ports (model_of ports before).rest p pgn (sa_of f.id) q) q f r

-- where the filter begins that port p's frame meets next, before port n: port p itself has none
abbrev pub Standing : ℕ → ℕ → ℕ → ℕ → Type 0
Standing ports p at n =
    ((n ≤ p) × (at ≡ pairs_from ports + filter_length * ((ports - 1) * p + n))) ⊎ ((p < n) × (at + filter_length ≡ pairs_from ports + filter_length * ((ports - 1) * p + n)))

-- what came of a frame at the port where it is, and at its own; and what it is told by then
unfoldable pub way_after : Way → Offered → Way
way_after way s = record {
  accepted = way.accepted + cond (joins s.came) way.bit 0;
  lost = way.lost + cond (misses s.came) way.bit 0;
  reasons = way.reasons + way.weight * s.reason;
  compared = way.compared + s.compared;
  bit = 2 * way.bit;
  weight = 16 * way.weight;
  at = way.at + filter_length;
  to = way.to + 1;
}

unfoldable pub way_past : Way → Way
way_past way = record {
  accepted = way.accepted;
  lost = way.lost;
  reasons = way.reasons;
  compared = way.compared;
  bit = 2 * way.bit;
  weight = 16 * way.weight;
  at = way.at;
  to = way.to + 1;
}

abbrev pub way_share : Way → Share
way_share way = record { accepted = way.accepted; lost = way.lost; reasons = way.reasons; compared = way.compared }

-- no sum on the way overflows
pub record Room (way : Way) (s : Offered) : Type 0 where
  pub sets : (way.accepted + way.bit < 256) × (way.lost + way.bit < 256)
  pub reasons : way.reasons + way.weight * s.reason < 2 ^ 36
  pub compared : way.compared + s.compared < 360
  pub bit : way.bit ≤ 128
  pub weight : way.weight ≤ 2 ^ 28
  pub at : way.at ≤ 65536
  pub to : way.to ≤ 8

unfoldable pub forwarded_to : ℕ → Model → ℕ → (ℕ → Asked) → Frame → Model
forwarded_to ports m p question f =
    changed_to ports m (λ q x. sent_all x (sent_if (question q) f)) (λ q. loses (question q) (row_at m q)) (lost_from ports p)

unfoldable pub shares_to : ℕ → Model → (ℕ → Asked) → Share
shares_to n m question = record {
  accepted = mask (λ q. accepts (question q) (row_at m q)) n;
  lost = mask (λ q. loses (question q) (row_at m q)) n;
  reasons = digits (λ q. reason_number (question q).reason) n;
  compared = total (λ q. (question q).compared) n;
}

-- a frame from port p has gone as far as its way says, and stands before the pair to that port
pub record Gone (ports : ℕ) (start words : List ℕ) (p pgn : ℕ) (f : Frame) (way : Way) : Type 0 where
  pub few : way.to ≤ ports
  pub whole : length words ≡ record_length ports
  pub bit : way.bit ≡ 2 ^ way.to
  pub weight : way.weight ≡ 16 ^ way.to
  pub answer : way_share way ≡ shares_to way.to (model_of ports start) (verdict ports (model_of ports start).rest p pgn (sa_of f.id))
  pub small : way.compared ≤ (most_probes + most_names) * way.to
  pub state : model_of ports words
      ≡ changed_to way.to (model_of ports start) (λ q x. sent_all x (sent_if (verdict ports (model_of ports start).rest p pgn (sa_of f.id) q) f)) (λ q. false) (λ q l. l)
  pub standing : Standing ports p way.at way.to

-- every queue by itself, nothing counted yet
pub record Offering (ports : ℕ) (before after : List ℕ) (question : ℕ → Asked) (f : Frame) (r : Share) : Type 0 where
  pub answer : r ≡ shares_to ports (model_of ports before) question
  pub state : model_of ports after ≡ with_queues (model_of ports before) (each (λ q x. sent_all x (sent_if (question q) f)) ports (model_of ports before).queues)

pub record Forwarding (ports : ℕ) (before after : List ℕ) (p : ℕ) (question : ℕ → Asked) (f : Frame) (r : Share) : Type 0 where
  pub answer : r ≡ shares_to ports (model_of ports before) question
  pub state : model_of ports after ≡ forwarded_to ports (model_of ports before) p question f

-- ---- the unit's own frame
unfoldable pub announced_to : ℕ → Model → Option Frame → Model
announced_to ports m s = changed_to ports m (λ q x. sent_all x (frames_sent s)) (λ q. loses_own s (row_at m q)) (λ q. lost_own ports)

unfoldable pub unsent_to : ℕ → Model → Option Frame → ℕ
unsent_to n m s = mask (λ q. loses_own s (row_at m q)) n

-- at port q
pub record OwnJoining (ports : ℕ) (before after : List ℕ) (q bit : ℕ) (f : Frame) (r : ℕ) : Type 0 where
  pub answer : r ≡ cond (loses_own (Some f) (row_at (model_of ports before) q)) bit 0
  pub state : model_of ports after
      ≡ with_losses
      (with_queue (model_of ports before) q (sent_all (queue_on (model_of ports before) q) (f ∷ [])))
      (cond (loses_own (Some f) (row_at (model_of ports before) q)) (lost_own ports (model_of ports before).seen.losses) (model_of ports before).seen.losses)

pub record Announcing (ports : ℕ) (before after : List ℕ) (s : Option Frame) (r : ℕ) : Type 0 where
  pub answer : r ≡ unsent_to ports (model_of ports before) s
  pub state : model_of ports after ≡ announced_to ports (model_of ports before) s
