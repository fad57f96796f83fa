-- What the words of a block mean: the mode word decides, and the PGNs stand at the front of the list. Assumes nothing.
use mathlib.Core.Path.{◌≡◌, refl, sym, ap, ◌∙◌}
use mathlib.Core.Bool.{Bool, true, false, cond, ◌||◌, false≢true, true≢false}
use mathlib.Core.List.{List, [], ◌∷◌}
use Prim.Native.Nat.{ℕ, zero, suc, ◌+◌, ◌-◌, ◌≤◌, ◌<◌, min, zero-le}
use native.Mathlib.Omega.{arith}
use borrow.Author.Tests.{lt-ltb, ne_eqb}
use lib.Dec.{eqb, ltb, eqb-suc-zero}
use lib.ListN.{length, get_or, take, drop, set, length-take, length-drop}
use lib.Seq.{get_or-take, get_or-drop, take-take, length-take-le}
use Rattle.filter.specs.declared.Reason.{Reason}
use Rattle.filter.specs.Filter.{mode_place, count_place, list_place, list_of, names_place, names_in, sorted_place, sorted_in, front_of, block_size, clear, is_block, meant, filter_of, reported_mode, reason_of, Counting, is_cleared}
use Rattle.pgn_list.specs.PgnList.{list_size}
use Rattle.name_entries.specs.NameEntries.{NameEntry, names_of}

-- ---- the mode word
pub cleared_test : (m : ℕ) (es : List ℕ) (ns : List NameEntry) (ss : List ℕ) → is_cleared (meant m es ns ss).mode ≡ eqb m 0
unfolding is_cleared meant
cleared_test zero es ns ss = refl
cleared_test (suc zero) es ns ss = refl
cleared_test (suc (suc zero)) es ns ss = refl
cleared_test (suc (suc (suc zero))) es ns ss = refl
cleared_test (suc (suc (suc (suc m)))) es ns ss = sym (eqb-suc-zero (suc (suc (suc m))))

pub reported_test : (m : ℕ) (es : List ℕ) (ns : List NameEntry) (ss : List ℕ) → reported_mode (meant m es ns ss).mode ≡ cond (eqb m 2) 1 (cond (ltb 3 m) 1 0)
unfolding reported_mode meant
reported_test zero es ns ss = refl
reported_test (suc zero) es ns ss = refl
reported_test (suc (suc zero)) es ns ss = refl
reported_test (suc (suc (suc zero))) es ns ss = refl
reported_test (suc (suc (suc (suc m)))) es ns ss = rw (ne_eqb (suc (suc (suc (suc m)))) 2 (λ e. omega (arith, e)), lt-ltb 3 (suc (suc (suc (suc m)))) (omega arith))

-- the reason, by the mode word
pub reason_cleared : {m : ℕ} (es : List ℕ) (ns : List NameEntry) (ss : List ℕ) (here : Bool) → m ≡ 0 → Reason.Cleared ≡ reason_of (meant m es ns ss).mode here
unfolding reason_of meant
reason_cleared es ns ss here e = rw e

pub reason_block : (m : ℕ) (es : List ℕ) (ns : List NameEntry) (ss : List ℕ) (here : Bool) → is_block m ≡ true → cond here Reason.StoppedAsListed Reason.NotListedInBlock ≡ reason_of (meant m es ns ss).mode here
unfolding reason_of meant is_block
reason_block zero es ns ss here e = absurd (false≢true e)
reason_block (suc zero) es ns ss true e = refl
reason_block (suc zero) es ns ss false e = refl
reason_block (suc (suc zero)) es ns ss here e = absurd (false≢true e)
reason_block (suc (suc (suc zero))) es ns ss true e = refl
reason_block (suc (suc (suc zero))) es ns ss false e = refl
reason_block (suc (suc (suc (suc m)))) es ns ss here e = absurd (false≢true (sym (past m) ∙ e))
  where
    past : (m : ℕ) → (eqb (suc (suc (suc (suc m)))) 1 || eqb (suc (suc (suc (suc m)))) 3) ≡ false
    past m = rw (ne_eqb (suc (suc (suc (suc m)))) 1 (λ e. omega (arith, e)), ne_eqb (suc (suc (suc (suc m)))) 3 (λ e. omega (arith, e)))

pub reason_pass : (m : ℕ) (es : List ℕ) (ns : List NameEntry) (ss : List ℕ) (here : Bool) → (m ≡ 0 → ⊥) → is_block m ≡ false → cond here Reason.ListedInPass Reason.StoppedAsNotListed ≡ reason_of (meant m es ns ss).mode here
unfolding reason_of meant is_block
reason_pass zero es ns ss here h k = absurd (h refl)
reason_pass (suc zero) es ns ss here h k = absurd (true≢false k)
reason_pass (suc (suc zero)) es ns ss true h k = refl
reason_pass (suc (suc zero)) es ns ss false h k = refl
reason_pass (suc (suc (suc zero))) es ns ss here h k = absurd (true≢false k)
reason_pass (suc (suc (suc (suc m)))) es ns ss true h k = refl
reason_pass (suc (suc (suc (suc m)))) es ns ss false h k = refl

-- ---- the list
pub list_long : (words : List ℕ) → names_place ≤ length words → length (list_of words) ≡ list_size
list_long words long = length-take-le list_size (drop list_place words) (omega (arith, length-drop list_place words))

pub list_at : (words : List ℕ) (i : ℕ) → i < list_size → get_or (list_of words) i 0 ≡ get_or words (list_place + i) 0
list_at words i h = get_or-take list_size (drop list_place words) i 0 h ∙ get_or-drop list_place words i 0

pub meant_entries : (m : ℕ) (es : List ℕ) (ns : List NameEntry) (ss : List ℕ) → (m ≡ 0 → ⊥) → (meant m es ns ss).entries ≡ es
unfolding meant
meant_entries zero es ns ss h = absurd (h refl)
meant_entries (suc zero) es ns ss h = refl
meant_entries (suc (suc zero)) es ns ss h = refl
meant_entries (suc (suc (suc zero))) es ns ss h = refl
meant_entries (suc (suc (suc (suc m)))) es ns ss h = refl

none_of : (m : ℕ) (es : List ℕ) (ns : List NameEntry) (ss : List ℕ) → is_cleared (meant m es ns ss).mode ≡ true → (meant m es ns ss).entries ≡ []
unfolding meant is_cleared
none_of zero es ns ss e = refl
none_of (suc zero) es ns ss e = absurd (false≢true e)
none_of (suc (suc zero)) es ns ss e = absurd (false≢true e)
none_of (suc (suc (suc zero))) es ns ss e = absurd (false≢true e)
none_of (suc (suc (suc (suc m)))) es ns ss e = absurd (false≢true e)

pub cleared_none : (words : List ℕ) → is_cleared (filter_of words).mode ≡ true → (filter_of words).entries ≡ []
unfolding filter_of
cleared_none words e = none_of (get_or words mode_place 0) (front_of words (list_of words)) (names_of (names_in words)) (front_of words (sorted_in words)) e

-- as many of one list as are taken of another that is as long
take_as : (c : ℕ) (l s : List ℕ) → length l ≡ length s → take (length (take c l)) s ≡ take c s
take_as zero l s h = refl
take_as (suc c) [] [] h = refl
take_as (suc c) [] (y ∷ s) h = absurd (omega arith)
take_as (suc c) (x ∷ l) [] h = absurd (omega arith)
take_as (suc c) (x ∷ l) (y ∷ s) h = ap {B = List ℕ} (λ r. y ∷ r) (take_as c l s (omega arith))

front_of_lem : (m c : ℕ) (l : List ℕ) (ns : List NameEntry) (ss : List ℕ) → take (length (meant m (take c l) ns ss).entries) l ≡ (meant m (take c l) ns ss).entries
unfolding meant
front_of_lem zero c l ns ss = refl
front_of_lem (suc zero) c l ns ss = take_as c l l refl
front_of_lem (suc (suc zero)) c l ns ss = take_as c l l refl
front_of_lem (suc (suc (suc zero))) c l ns ss = take_as c l l refl
front_of_lem (suc (suc (suc (suc m)))) c l ns ss = take_as c l l refl

-- the first n of the PGNs are the list, where n is how many it holds
pub front : {words : List ℕ} {n : ℕ} → Counting words n → take n (list_of words) ≡ (filter_of words).entries
unfolding filter_of
front {words} {n} C = rw C.number (front_of_lem (get_or words mode_place 0) (get_or words count_place 0) (list_of words) (names_of (names_in words)) (front_of words (sorted_in words)))

-- and so with the PGNs that are searched
pub sorted_long : (words : List ℕ) → length words ≡ block_size → length (sorted_in words) ≡ list_size
sorted_long words long = length-take-le list_size (drop sorted_place words) (omega (arith, length-drop sorted_place words))

sorted_of : (m c : ℕ) (l : List ℕ) (ns : List NameEntry) (s : List ℕ) → length l ≡ length s
    → take (length (meant m (take c l) ns (take c s)).entries) s ≡ (meant m (take c l) ns (take c s)).sorted
unfolding meant
sorted_of zero c l ns s h = refl
sorted_of (suc zero) c l ns s h = take_as c l s h
sorted_of (suc (suc zero)) c l ns s h = take_as c l s h
sorted_of (suc (suc (suc zero))) c l ns s h = take_as c l s h
sorted_of (suc (suc (suc (suc m)))) c l ns s h = take_as c l s h

pub sorted_front : {words : List ℕ} {n : ℕ} → length words ≡ block_size → Counting words n → take n (sorted_in words) ≡ (filter_of words).sorted
unfolding filter_of
sorted_front {words} {n} long C =
    let same : length (list_of words) ≡ length (sorted_in words) = list_long words (omega (arith, long)) ∙ sym (sorted_long words long) in
    rw C.number (sorted_of (get_or words mode_place 0) (get_or words count_place 0) (list_of words) (names_of (names_in words)) (sorted_in words) same)

-- the first n from a place on, as a slice has them, where k follow it
pub front_part : (a n k : ℕ) (words : List ℕ) → n ≤ k → take (a + n - a) (drop a words) ≡ take n (take k (drop a words))
front_part a n k words h = let e : a + n - a ≡ n = omega arith in rw (e, take-take n k (drop a words) h)

-- ---- counting
module _ {words : List ℕ} (long : names_place ≤ length words) where
  pub count_cleared : get_or words mode_place 0 ≡ 0 → Counting words 0
  unfolding filter_of meant
  count_cleared h = record { number = rw h refl; small = zero-le }

  pub count_listed : {n : ℕ} → (get_or words mode_place 0 ≡ 0 → ⊥) → n ≡ min (get_or words count_place 0) list_size → Counting words n
  unfolding filter_of
  count_listed {n} h e =
      let l : length (take (get_or words count_place 0) (list_of words)) ≡ min (get_or words count_place 0) list_size = length-take (get_or words count_place 0) (list_of words) ∙ rw (list_long words long) in
      record { number = rw (meant_entries (get_or words mode_place 0) (front_of words (list_of words)) (names_of (names_in words)) (front_of words (sorted_in words)) h) (e ∙ sym l); small = omega arith }

few_of : (m c : ℕ) (l : List ℕ) (ns : List NameEntry) (ss : List ℕ) → length l ≡ list_size → length (meant m (take c l) ns ss).entries ≤ list_size
unfolding meant
few_of zero c l ns ss h = zero-le
few_of (suc zero) c l ns ss h = omega (arith, length-take c l)
few_of (suc (suc zero)) c l ns ss h = omega (arith, length-take c l)
few_of (suc (suc (suc zero))) c l ns ss h = omega (arith, length-take c l)
few_of (suc (suc (suc (suc m)))) c l ns ss h = omega (arith, length-take c l)

pub counting : (words : List ℕ) → names_place ≤ length words → Counting words (length (filter_of words).entries)
unfolding filter_of
counting words long = record { number = refl; small = few_of (get_or words mode_place 0) (get_or words count_place 0) (list_of words) (names_of (names_in words)) (front_of words (sorted_in words)) (list_long words long) }

pub pgn_is : (words : List ℕ) (i : ℕ) → names_place ≤ length words → i < length (filter_of words).entries → get_or words (list_place + i) 0 ≡ get_or (filter_of words).entries i 0
pgn_is words i long h =
    let C = counting words long in
    rw (← (front C), get_or-take (length (filter_of words).entries) (list_of words) i 0 h, list_at words i (omega (arith, C.small)))

pub cleared_is : (words : List ℕ) → filter_of (set words 0 0) ≡ clear
unfolding filter_of meant
cleared_is [] = refl
cleared_is (m ∷ words) = refl

-- a mode word below 3 has no NAME entries, one from 3 on those that stand behind the list
pub plain_names : (m : ℕ) (es : List ℕ) (ns : List NameEntry) (ss : List ℕ) → m < 3 → (meant m es ns ss).named ≡ []
unfolding meant
plain_names zero es ns ss h = refl
plain_names (suc zero) es ns ss h = refl
plain_names (suc (suc zero)) es ns ss h = refl
plain_names (suc (suc (suc zero))) es ns ss h = absurd (omega arith)
plain_names (suc (suc (suc (suc m)))) es ns ss h = absurd (omega arith)

pub with_names_lem : (m : ℕ) (es : List ℕ) (ns : List NameEntry) (ss : List ℕ) → 3 ≤ m → (meant m es ns ss).named ≡ ns
unfolding meant
with_names_lem zero es ns ss h = absurd (omega arith)
with_names_lem (suc zero) es ns ss h = absurd (omega arith)
with_names_lem (suc (suc zero)) es ns ss h = absurd (omega arith)
with_names_lem (suc (suc (suc zero))) es ns ss h = refl
with_names_lem (suc (suc (suc (suc m)))) es ns ss h = refl

-- of a whole block
pub list_whole : (words : List ℕ) → length words ≡ block_size → length (list_of words) ≡ list_size
list_whole words long = list_long words (omega (arith, long))

-- as many are searched as there are
pub sorted_many : (words : List ℕ) → length words ≡ block_size → length (filter_of words).sorted ≡ length (filter_of words).entries
sorted_many words long =
    let C = counting words (omega (arith, long)) in
    ap length (sym (sorted_front long C))
    ∙ length-take-le (length (filter_of words).entries) (sorted_in words) (omega (arith, C.small, sorted_long words long))
