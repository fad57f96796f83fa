-- Asking a pair: a cleared one permits all, and another answers by its search, and where that found nothing by its NAME entries. Assumes nothing.
use mathlib.Core.Path.{◌≡◌, refl, sym}
use mathlib.Core.Bool.{Bool, true, false, cond, ◌||◌}
use Rattle.std.specs.Prelude.{Option, None, Some}
use mathlib.Core.List.{List, []}
use Prim.Native.Nat.{ℕ, ◌+◌, ◌≤◌, ◌<◌, zero-le}
use native.Mathlib.Omega.{arith}
use lib.ListN.{get_or}
use Rattle.entries.specs.Entries.{listed}
use Rattle.sorted_list.specs.SortedList.{halving_in, halved, Finding}
use Rattle.filter.specs.declared.Reason.{Reason}
use Rattle.filter.specs.declared.Asked.{Asked}
use Rattle.filter.specs.Filter.{mode_place, list_of, names_in, sorted_in, front_of, filter_of, meant, is_permanent, reason_of, reason_by_list, asked, Asking}
use Rattle.name_entries.specs.NameEntries.{NameEntry, names_of, any_match, place_in, matched_by, place_of, Searching}
use Rattle.filter.proofs.Meaning.{plain_names, with_names_lem}

abbrev answer : Reason → ℕ → Asked
answer r n = record { reason = r; compared = n }

-- what the mode word and being listed or not say of the reason
abbrev Why : List ℕ → Bool → Reason → Type 0
Why words here r = (es : List ℕ) (ns : List NameEntry) (ss : List ℕ) → r ≡ reason_of (meant (get_or words mode_place 0) es ns ss).mode here

why : (words : List ℕ) (here : Bool) {r : Reason} → Why words here r → r ≡ reason_of (filter_of words).mode here
unfolding filter_of
why words here reason = reason (front_of words (list_of words)) (names_of (names_in words)) (front_of words (sorted_in words))

-- ---- by the list alone
pub list_permanent : (words : List ℕ) (pgn : ℕ) → is_permanent pgn ≡ true → Reason.Permanent ≡ reason_by_list (filter_of words) pgn
unfolding reason_by_list
list_permanent words pgn h = rw h

pub list_decides : (words : List ℕ) (pgn : ℕ) {here : Bool} {r : Reason} → is_permanent pgn ≡ false → here ≡ listed pgn (filter_of words).entries
    → Why words here r → r ≡ reason_by_list (filter_of words) pgn
unfolding reason_by_list
list_decides words pgn {here} other h reason = rw (other, ← h) (why words here reason)

-- ---- by the search and the NAME entries
pub ask_permanent : {words : List ℕ} {pgn : ℕ} {sender : Option ℕ} → is_permanent pgn ≡ true → Asking words pgn sender (answer Reason.Permanent 0)
unfolding asked
ask_permanent h = record { answer = rw h; small = zero-le }

-- without NAME entries the search alone answers
none_match : (pgn : ℕ) (sender : Option ℕ) → (matched_by pgn sender [] ≡ false) × (place_of pgn sender [] ≡ 0)
unfolding any_match place_in
none_match pgn None = (refl, refl)
none_match pgn (Some name) = (refl, refl)

pub ask_cleared : {words : List ℕ} {pgn : ℕ} (sender : Option ℕ) → is_permanent pgn ≡ false → get_or words mode_place 0 ≡ 0
    → Asking words pgn sender (answer Reason.Cleared 0)
unfolding asked filter_of meant reason_of halved halving_in
ask_cleared {pgn = pgn} sender other h = record { answer = rw (other, h, (none_match pgn sender).1) refl; small = zero-le }

module _ (words : List ℕ) (pgn : ℕ) {found : Bool} {probes : ℕ} (other : is_permanent pgn ≡ false) (F : Finding (filter_of words).sorted pgn found probes) where
  by_search : (sender : Option ℕ) (n : ℕ) (here : Bool) {reason : Reason} → Why words here reason
      → (found || matched_by pgn sender (filter_of words).named) ≡ here
      → probes + cond found 0 (place_of pgn sender (filter_of words).named) ≡ n
      → answer reason n ≡ asked (filter_of words) pgn sender
  unfolding asked
  by_search sender n here reason l q = rw (other, ← F.answer, l, q, why words here reason)

  -- the search alone answers
  alone : (b : Bool) → ((b || false) ≡ b) × (probes + cond b 0 0 ≡ probes)
  alone true = (refl, omega arith)
  alone false = (refl, omega arith)

  pub ask_listed : (sender : Option ℕ) {reason : Reason} → get_or words mode_place 0 < 3 → Why words found reason → Asking words pgn sender (answer reason probes)
  unfolding filter_of
  ask_listed sender low reason =
      let no_names = plain_names (get_or words mode_place 0) (front_of words (list_of words)) (names_of (names_in words)) (front_of words (sorted_in words)) low in
      record {
        answer = by_search sender probes found reason (rw (no_names, (none_match pgn sender).0) (alone found).0) (rw (no_names, (none_match pgn sender).1) (alone found).1);
        small = omega (arith, F.few);
      }

  pub ask_found : {sender : Option ℕ} {reason : Reason} → found ≡ true → Why words true reason → Asking words pgn sender (answer reason probes)
  ask_found {sender} e reason = record { answer = by_search sender probes true reason (rw e) (rw e (omega arith)); small = omega (arith, F.few) }

  pub ask_names : {sender : Option ℕ} {reason : Reason} {matched : Bool} {compared : ℕ} → found ≡ false → 3 ≤ get_or words mode_place 0
      → Searching (names_in words) pgn sender matched compared → Why words matched reason → Asking words pgn sender (answer reason (probes + compared))
  unfolding filter_of
  ask_names {sender} {matched = matched} {compared = compared} e high S reason =
      let names = with_names_lem (get_or words mode_place 0) (front_of words (list_of words)) (names_of (names_in words)) (front_of words (sorted_in words)) high in
      record {
        answer = by_search sender (probes + compared) matched reason (rw (e, names) (sym S.answer)) (rw (e, names) (omega (arith, S.count)));
        small = omega (arith, F.few, S.small);
      }
