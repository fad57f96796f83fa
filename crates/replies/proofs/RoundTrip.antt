-- A list with entries that is reported and sent back as Create is decoded to that list: the filling of one entry is filling there too, and longer ones
-- end with their last entry. Assumes nothing.
use mathlib.Core.Path.{◌≡◌, refl}
use mathlib.Core.Bool.{true, false}
use mathlib.Core.List.{List, [], ◌∷◌, ◌++◌}
use Prim.Native.Nat.{ℕ, ◌+◌, ◌-◌, ◌*◌, ◌%◌, ◌≤◌}
use native.Mathlib.Omega.{arith}
use borrow.Author.Tests.{eq-eqb, ne_eqb}
use lib.Dec.{ltb}
use lib.ListN.{length, replicate, length-append, length-replicate}
use lib.Seq.{take_at}
use Rattle.storage.specs.Bytes.{bytes_of}
use Rattle.identifier.specs.Identifier.{is_pgn}
use Rattle.filter.specs.Filter.{Mode, cleared, block, pass, Filter, reported_mode}
use Rattle.entries.specs.Entries.{listed, every, first_wrong, reported}
use Rattle.entries.proofs.Reported.{pgns_small, reported_back, reported_long}
use Rattle.network_message.specs.Decoding.{judged, from_of, to_of, is_known, is_general, is_pair, names_ports, may_name, holds_parameter, is_filling, entries_end, between, holds_entries, has_good_body, wrong_in, wrong_entry, has_wrong_mode, refusal_of, command_of, decoded}
use Rattle.replies.specs.Replies.{filled, list_body, list_reply}
use Rattle.replies.specs.SentBack.{as_create, SentBack}

mode_good : (m : Mode) → ltb 1 (reported_mode m) ≡ false
unfolding reported_mode
mode_good cleared = refl
mode_good block = refl
mode_good pass = refl

-- the payload
abbrev sent : ℕ → ℕ → List ℕ → List ℕ
sent pair mode es = 6 ∷ pair ∷ mode ∷ (reported es ++ replicate (8 - length (6 ∷ pair ∷ mode ∷ reported es)) 255)

sent_is : (pair : ℕ) (f : Filter) → as_create (list_reply pair f) ≡ sent pair (reported_mode f.mode) f.entries
unfolding as_create list_reply filled list_body
sent_is pair f = refl

sent_long : (pair mode : ℕ) (es : List ℕ) → length (sent pair mode es) ≡ 3 + 3 * length es + (8 - (3 + 3 * length es))
sent_long pair mode es =
    let k = 8 - length (6 ∷ pair ∷ mode ∷ reported es) in
    omega (arith, length-append (reported es) (replicate k 255), length-replicate {A = ℕ} k 255, reported_long es)

-- one entry is filled to 8 bytes, more are not
sent_end : (pair mode : ℕ) (es : List ℕ) → 1 ≤ length es → entries_end 3 (sent pair mode es) ≡ 3 + 3 * length es
unfolding entries_end reported bytes_of is_filling every
sent_end pair mode [] some = absurd (omega arith)
sent_end pair mode (e ∷ []) some = refl
sent_end pair mode (e ∷ d ∷ es) some =
    rw (ne_eqb (length (sent pair mode (e ∷ d ∷ es))) 8 (λ h. omega (arith, sent_long pair mode (e ∷ d ∷ es))))
    (omega (arith, sent_long pair mode (e ∷ d ∷ es)))

sent_part : (pair mode : ℕ) (es : List ℕ) → between 3 (3 + 3 * length es) (sent pair mode es) ≡ reported es
sent_part pair mode es = take_at (reported es) (replicate (8 - length (6 ∷ pair ∷ mode ∷ reported es)) 255) (3 + 3 * length es - 3) (omega (arith, reported_long es))

module _ (pair mode : ℕ) (es : List ℕ) (some : 1 ≤ length es) (pgns : every is_pgn es ≡ true) where
  sent_holds : holds_entries 3 (sent pair mode es) ≡ true
  unfolding holds_entries
  sent_holds =
      rw (
        sent_end pair mode es some,
        sent_part pair mode es,
        eq-eqb (length (reported es) % 3) 0 (omega (arith, reported_long es)),
      )

  sent_right : wrong_in 3 (sent pair mode es) ≡ 0
  unfolding wrong_in first_wrong
  sent_right =
      rw (
        sent_end pair mode es some,
        sent_part pair mode es,
        reported_back es (pgns_small es pgns),
        pgns,
      )

  sent_passes : (ports port : ℕ) → is_pair ports 6 (from_of pair) (to_of pair) ≡ true → may_name ports port 6 (from_of pair) (to_of pair) ≡ true → ltb 1 mode ≡ false → refusal_of ports port 6 (from_of pair) (to_of pair) (sent pair mode es) ≡ 0
  unfolding refusal_of is_known is_general listed names_ports holds_parameter has_good_body wrong_entry has_wrong_mode
  sent_passes ports port named may good = rw (named, may, sent_holds, sent_right, good)

-- for a tool that may name the pair
pub round_trip : (ports port pair : ℕ) (f : Filter) → is_pair ports 6 (from_of pair) (to_of pair) ≡ true → may_name ports port 6 (from_of pair) (to_of pair) ≡ true → 1 ≤ length f.entries → every is_pgn f.entries ≡ true → SentBack ports port pair f (as_create (list_reply pair f))
unfolding decoded judged command_of
round_trip ports port pair f named may some pgns =
    let es = f.entries in
    let mode = reported_mode f.mode in
    rw (sent_is pair f)
    (record {
      command = rw (sent_passes pair mode es some pgns ports port named may (mode_good f.mode), sent_end pair mode es some);
      bytes = sent_part pair mode es;
      list = rw (sent_part pair mode es) (reported_back es (pgns_small es pgns));
      long = sent_long pair mode es;
    })
