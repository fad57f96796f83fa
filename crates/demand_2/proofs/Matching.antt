-- What asking a pair answers is what the data say: an entry matches by its bits and by the words of the table. Assumes nothing.
use mathlib.Core.Path.{◌≡◌, refl, sym, ap, ◌∙◌}
use mathlib.Core.Logic.{inl, inr, ⊎_elim}
use mathlib.Core.Bool.{Bool, true, false, cond, ◌&&◌, ◌||◌, false≢true}
use mathlib.Core.List.{List, []}
use Rattle.std.specs.Prelude.{Option, None, Some}
use Prim.Native.Nat.{ℕ, zero, suc, ◌+◌, ◌*◌, ◌/◌, ◌%◌, ◌^◌, ◌≤◌, ◌<◌, zero-le}
use native.Mathlib.Nat.{pow-succ', div-div-eq-div-mul, div-one, not-suc-le-zero, le_of_suc-le-suc}
use native.Mathlib.Decide.{dec_lt}
use native.Mathlib.Omega.{arith}
use borrow.Author.Tests.{eqb-true, eqb-false, eq-eqb, ne_eqb}
use lib.Dec.{eqb}
use lib.ListN.{length, get_or, take, drop, length-take, get_or-eq_default}
use lib.Seq.{get_or-take, get_or-drop}
use Rattle.storage.specs.Blocks.{blocks_of}
use Rattle.addresses.specs.Table.{table_length, place_from, table_of, name_in, name_at, held}
use Rattle.addresses.proofs.Words.{table_length_lem, place_at}
use Rattle.unit.specs.Model.{model_of}
use Rattle.name_entries.specs.NameEntries.{NameEntry, agree_in, agrees, matches, matched_by, place_in, place_of, names_of}
use Rattle.identifier.specs.Identifier.{pgn_of}
use Rattle.entries.specs.Entries.{listed}
use Rattle.filter.specs.declared.Reason.{Reason}
use Rattle.filter.specs.declared.Asked.{Asked}
use Rattle.filter.specs.Filter.{Mode, cleared, block, pass, Filter, clear, is_cleared, meant, filter_of, mode_place, count_place, list_of, names_in}
use Rattle.filter.specs.Filter.{sorted_place, sorted_in, front_of, is_permanent, reason_of, asked}
use Rattle.filter_commands.specs.Changes.{Sound}
use Rattle.pgn_list.specs.PgnList.{list_size}
use Rattle.sorted_list.specs.SortedList.{Probed, halving_in, halved, insert_all}
use Rattle.demand_2.proofs.Searches.{any, listed_any, match_any, place_in_up_to, counted, somewhere, nowhere}
use Rattle.demand_2.proofs.Probes.{halves_all, in_order}
use Rattle.demand_2.specs.Matching.{Gives, bit, InList, InNames, Among, Listed, UpTo, all, Permanent, Unsearched, Halving, Compares, nothing, found, not_found}

-- ---- bit by bit
-- bit i of a half is bit i + 1
half_bit : (i n : ℕ) → bit i (n / 2) ≡ bit (suc i) n
half_bit i n = ap (λ (m : ℕ). m % 2) (div-div-eq-div-mul n 2 (2 ^ i) ∙ rw (pow-succ' 2 i))

low_bit : (n : ℕ) → bit 0 n ≡ n % 2
low_bit n = rw (div-one n)

both : (x y : Bool) → (x && y) ≡ true → (x ≡ true) × (y ≡ true)
both true y h = (refl, h)
both false y h = absurd (false≢true h)

either : (x y : Bool) → (x || y) ≡ true → (x ≡ false) → y ≡ true
either true y h e = absurd (false≢true (sym e))
either false y h e = h

abbrev Agree : ℕ → ℕ → ℕ → ℕ → Type 0
Agree k mask a b = (i : ℕ) → i < k → bit i mask ≡ 1 → bit i a ≡ bit i b

bits_of : (k mask a b : ℕ) → agree_in k mask a b ≡ true → Agree k mask a b
unfolding agree_in
bits_of zero mask a b h i l s = absurd (not-suc-le-zero l)
bits_of (suc k) mask a b h zero l s =
    let t = (both (eqb (mask % 2) 0 || eqb (a % 2) (b % 2)) (agree_in k (mask / 2) (a / 2) (b / 2)) h).0 in
    let set : eqb (mask % 2) 0 ≡ false = ne_eqb (mask % 2) 0 (λ z. omega (arith, z, s, low_bit mask)) in
    low_bit a ∙ eqb-true (a % 2) (b % 2) (either (eqb (mask % 2) 0) (eqb (a % 2) (b % 2)) t set) ∙ sym (low_bit b)
bits_of (suc k) mask a b h (suc i) l s =
    let t = (both (eqb (mask % 2) 0 || eqb (a % 2) (b % 2)) (agree_in k (mask / 2) (a / 2) (b / 2)) h).1 in
    sym (half_bit i a) ∙ bits_of k (mask / 2) (a / 2) (b / 2) t i (le_of_suc-le-suc l) (half_bit i mask ∙ s) ∙ half_bit i b

of_bits : (k mask a b : ℕ) → Agree k mask a b → agree_in k mask a b ≡ true
unfolding agree_in
of_bits zero mask a b h = refl
of_bits (suc k) mask a b h =
    rw (of_bits k (mask / 2) (a / 2) (b / 2) (λ i l s. half_bit i a ∙ h (suc i) (omega arith) (sym (half_bit i mask) ∙ s) ∙ sym (half_bit i b)))
    (go (eqb (mask % 2) 0) refl)
  where
    go : (x : Bool) → eqb (mask % 2) 0 ≡ x → ((x || eqb (a % 2) (b % 2)) && true) ≡ true
    go true e = refl
    go false e =
        let ne = eqb-false (mask % 2) 0 e in
        let s : mask % 2 ≡ 1 = omega (arith, ne) in
        let t = sym (low_bit a) ∙ h 0 (omega arith) (low_bit mask ∙ s) ∙ low_bit b in
        rw (eq-eqb (a % 2) (b % 2) t)

-- an entry matches a PGN and a NAME
pub matched : (pgn name : ℕ) (e : NameEntry) → matches pgn name e ≡ true → (e.pgn ≡ pgn) × Agree 64 e.mask e.name name
unfolding matches agrees
matched pgn name e h =
    let t = both (eqb e.pgn pgn) (agree_in 64 e.mask e.name name) h in
    (eqb-true e.pgn pgn t.0, bits_of 64 e.mask e.name name t.1)

pub it_matches : (pgn name : ℕ) (e : NameEntry) → e.pgn ≡ pgn → Agree 64 e.mask e.name name → matches pgn name e ≡ true
unfolding matches agrees
it_matches pgn name e p h = rw (eq-eqb e.pgn pgn p, of_bits 64 e.mask e.name name h)

-- ---- the NAME that the table gives an address
module _ (ports : ℕ) (words : List ℕ) (a : ℕ) where
  abbrev pub sender : Option ℕ
  sender = name_at (model_of ports words).rest.table a

  read_word : (k : ℕ) → k < table_length → get_or (take table_length (drop 5 words)) k 0 ≡ get_or words (5 + k) 0
  read_word k h = get_or-take table_length (drop 5 words) k 0 h ∙ get_or-drop 5 words k 0

  sender_in : a < 254 → sender ≡ name_in (place_from (get_or words (5 + 2 * a) 0) (get_or words (6 + 2 * a) 0))
  unfolding name_at model_of
  sender_in h =
      let e : 5 + (2 * a + 1) ≡ 6 + 2 * a = omega arith in
      ap name_in (place_at (take table_length (drop 5 words)) a h ∙ rw (read_word (2 * a) (omega arith), read_word (2 * a + 1) (omega arith), e))

  sender_past : 254 ≤ a → sender ≡ None
  unfolding name_at model_of name_in
  sender_past h =
      let e : length (table_of (take table_length (drop 5 words))) ≤ a = omega (arith, table_length_lem (take table_length (drop 5 words))) in
      rw (get_or-eq_default (table_of (take table_length (drop 5 words))) None e)

  -- both ways
  pub given : {name : ℕ} → sender ≡ Some name → Gives words a name
  unfolding name_in place_from
  given {name} e = elim (dec_lt a 254) [
    | Prim.yes h ↦ go h (eqb (get_or words (5 + 2 * a) 0) 0) refl (sym (sender_in h) ∙ e)
    | Prim.no h ↦ let past = sender_past (omega arith) in let z : ◌≡◌ {A = ℕ} 0 1 = cc in absurd (omega arith)
  ]
    where
      go : a < 254 → (b : Bool) → eqb (get_or words (5 + 2 * a) 0) 0 ≡ b → name_in (cond b None (held (get_or words (5 + 2 * a) 0) (get_or words (6 + 2 * a) 0))) ≡ Some name → Gives words a name
      go h true t q = let z : ◌≡◌ {A = ℕ} 0 1 = cc in absurd (omega arith)
      go h false t q = record { inside = h; held = eqb-false _ 0 t; named = cc }

  pub gives : {name : ℕ} → Gives words a name → sender ≡ Some name
  unfolding name_in place_from
  gives G = sender_in G.inside ∙ rw (ne_eqb _ 0 G.held, G.named)

-- ---- a cleared pair
cleared_is : (m : Mode) → is_cleared m ≡ true → m ≡ cleared
unfolding is_cleared
cleared_is cleared e = refl
cleared_is block e = absurd (false≢true e)
cleared_is pass e = absurd (false≢true e)

not_cleared : {m : Mode} → is_cleared m ≡ false → m ≡ cleared → ⊥
unfolding is_cleared
not_cleared e c = false≢true (sym e ∙ ap is_cleared c)

-- ---- what is searched is not longer than a list, whatever words a block has
meant_few : (m : ℕ) (es : List ℕ) (ns : List NameEntry) (ss : List ℕ) → length ss ≤ list_size → length (meant m es ns ss).sorted ≤ list_size
unfolding meant
meant_few zero es ns ss h = zero-le
meant_few (suc zero) es ns ss h = h
meant_few (suc (suc zero)) es ns ss h = h
meant_few (suc (suc (suc zero))) es ns ss h = h
meant_few (suc (suc (suc (suc m)))) es ns ss h = h

block_few : (words : List ℕ) → length (filter_of words).sorted ≤ list_size
unfolding filter_of
block_few words =
    meant_few (get_or words mode_place 0) (front_of words (list_of words)) (names_of (names_in words)) (front_of words (sorted_in words))
    (omega (arith, length-take (get_or words count_place 0) (sorted_in words), length-take list_size (drop sorted_place words)))

pub pair_few : (start size count : ℕ) (words : List ℕ) (i : ℕ) → length (get_or (blocks_of start size count filter_of words) i clear).sorted ≤ list_size
unfolding blocks_of
pair_few start size zero words i = zero-le
pair_few start size (suc n) words zero = block_few (take size (drop start words))
pair_few start size (suc n) words (suc i) = pair_few (start + size) size n words i

-- ---- what asking a pair answers
module _ (ports : ℕ) (words : List ℕ) (id : ℕ) (f : Filter) where
  abbrev pub name : Option ℕ
  name = sender ports words (id % 256)

  abbrev empty : NameEntry
  empty = record { pgn = 0; name = 0; mask = 0 }

  abbrev has : ℕ → Bool
  has x = eqb x (pgn_of id)

  in_list_lem : listed (pgn_of id) f.entries ≡ true → Among (length f.entries) (InList id f)
  in_list_lem e = somewhere has f.entries 0 (InList id f) (λ k. eqb-true _ (pgn_of id)) (λ k. eq-eqb _ (pgn_of id)) (sym (listed_any (pgn_of id) f.entries) ∙ e)

  not_in_list : listed (pgn_of id) f.entries ≡ false → Among (length f.entries) (InList id f) → ⊥
  not_in_list e = nowhere has f.entries 0 (InList id f) (λ k. eqb-true _ (pgn_of id)) (λ k. eq-eqb _ (pgn_of id)) (sym (listed_any (pgn_of id) f.entries) ∙ e)

  -- a sender that the table does not know is matched by nothing
  unknown : name ≡ None → (k : ℕ) → InNames words id f k → ⊥
  unknown e k M =
      let g = gives ports words (id % 256) M.known in
      let z : ◌≡◌ {A = ℕ} 0 1 = cc in
      omega arith

  module _ {n : ℕ} (e : name ≡ Some n) where
    yes : (k : ℕ) → matches (pgn_of id) n (get_or f.named k empty) ≡ true → InNames words id f k
    yes k h =
        let m = matched (pgn_of id) n (get_or f.named k empty) h in
        record { pgn = m.0; sender = n; known = given ports words (id % 256) e; agrees = m.1 }

    no : (k : ℕ) → InNames words id f k → matches (pgn_of id) n (get_or f.named k empty) ≡ true
    no k M =
        let g = gives ports words (id % 256) M.known in
        let same : M.sender ≡ n = cc in
        it_matches (pgn_of id) n (get_or f.named k empty) M.pgn (rw same at M.agrees)

  names_counted : (s : Option ℕ) → name ≡ s → UpTo (length f.named) (InNames words id f) (place_of (pgn_of id) s f.named)
  names_counted None e = all (λ j h. unknown e j)
  names_counted (Some n) e =
      rw (place_in_up_to (pgn_of id) n f.named)
      (counted (matches (pgn_of id) n) f.named empty (InNames words id f) (yes e) (no e) (any (matches (pgn_of id) n) f.named) refl)

  in_names_lem : (s : Option ℕ) → name ≡ s → matched_by (pgn_of id) s f.named ≡ true → Among (length f.named) (InNames words id f)
  in_names_lem None e h = absurd (false≢true h)
  in_names_lem (Some n) e h = somewhere (matches (pgn_of id) n) f.named empty (InNames words id f) (yes e) (no e) (sym (match_any (pgn_of id) n f.named) ∙ h)

  not_in_names : (s : Option ℕ) → name ≡ s → matched_by (pgn_of id) s f.named ≡ false → Among (length f.named) (InNames words id f) → ⊥
  not_in_names None e h = λ s. unknown e s.0 s.2
  not_in_names (Some n) e h = nowhere (matches (pgn_of id) n) f.named empty (InNames words id f) (yes e) (no e) (sym (match_any (pgn_of id) n f.named) ∙ h)

  -- listed, by the list or by a match
  abbrev pub here : Bool
  here = listed (pgn_of id) f.entries || matched_by (pgn_of id) name f.named

  pub listed_here : here ≡ true → Listed words id f
  listed_here = go (listed (pgn_of id) f.entries) (matched_by (pgn_of id) name f.named) refl refl
    where
      go : (x y : Bool) → listed (pgn_of id) f.entries ≡ x → matched_by (pgn_of id) name f.named ≡ y → (x || y) ≡ true → Listed words id f
      go true y p q h = inl (in_list_lem p)
      go false true p q h = inr (in_names_lem name refl q)
      go false false p q h = absurd (false≢true h)

  pub not_listed_here : here ≡ false → Listed words id f → ⊥
  not_listed_here = go (listed (pgn_of id) f.entries) (matched_by (pgn_of id) name f.named) refl refl
    where
      go : (x y : Bool) → listed (pgn_of id) f.entries ≡ x → matched_by (pgn_of id) name f.named ≡ y → (x || y) ≡ false → Listed words id f → ⊥
      go true y p q h = absurd (false≢true (sym h))
      go false true p q h = absurd (false≢true (sym h))
      go false false p q h = ⊎_elim (not_in_list p) (not_in_names name refl q)

  abbrev probe : Probed
  probe = halved (pgn_of id) f.sorted

  module _ (S : Sound f) where
    -- a cleared pair holds nothing and compares nothing
    no_sum : is_cleared f.mode ≡ true → probe.probes + cond probe.found 0 (place_of (pgn_of id) name f.named) ≡ 0
    unfolding halved halving_in insert_all place_in
    no_sum e = rw (S.in_order, S.none e, S.unnamed e) (none_of name)
      where
        none_of : (s : Option ℕ) → 0 + place_of (pgn_of id) s [] ≡ 0
        none_of None = refl
        none_of (Some n) = refl

    pub compares : Compares words id f (asked f (pgn_of id) name).compared
    unfolding asked is_permanent
    compares = go (eqb (pgn_of id) 60928) (eqb (pgn_of id) 59904) refl refl
      where
        sum : Bool → ℕ
        sum l = probe.probes + cond l 0 (place_of (pgn_of id) name f.named)

        halving : {l : Bool} → probe.found ≡ l → Halving f.sorted (pgn_of id) 0 (length f.sorted) l probe.probes
        halving e = rw e at (halves_all (pgn_of id) f.sorted)

        counts : (Unsearched id f → ⊥) → (l : Bool) → probe.found ≡ l → Compares words id f (sum l)
        counts ne true e = let z : sum true ≡ probe.probes = omega arith in rw z (found ne (in_order f S) (halving e))
        counts ne false e = not_found ne (in_order f S) (halving e) (names_counted name refl)

        by_mode : (Permanent id → ⊥) → (b : Bool) → is_cleared f.mode ≡ b → Compares words id f (sum probe.found)
        by_mode ne true e = rw (no_sum e) (nothing (inr (cleared_is f.mode e)))
        by_mode ne false e = counts (⊎_elim ne (not_cleared e)) probe.found refl

        go : (x y : Bool) → eqb (pgn_of id) 60928 ≡ x → eqb (pgn_of id) 59904 ≡ y
            → Compares words id f
            (cond {A = Asked} (x || y) (record { reason = Reason.Permanent; compared = 0 })
            (record { reason = reason_of f.mode (probe.found || matched_by (pgn_of id) name f.named); compared = sum probe.found })).compared
        go true y p q = nothing (inl (inl (eqb-true (pgn_of id) 60928 p)))
        go false true p q = nothing (inl (inr (eqb-true (pgn_of id) 59904 q)))
        go false false p q = by_mode (⊎_elim (eqb-false (pgn_of id) 60928 p) (eqb-false (pgn_of id) 59904 q)) (is_cleared f.mode) refl
