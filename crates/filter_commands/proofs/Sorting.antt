-- The PGNs to be searched, after a command changed the list: what was appended is put in, one after the other, what was deleted is taken out.
-- Assumes nothing.
use mathlib.Core.Path.{◌≡◌, refl, sym, ap, ◌∙◌}
use mathlib.Core.List.{List, [], ◌∷◌, ◌++◌}
use Prim.Native.Nat.{ℕ, suc, ◌+◌, ◌≤◌, ◌<◌}
use native.Mathlib.Numerals.{add-one}
use native.Mathlib.Omega.{arith}
use lib.ListN.{length, get_or, set, take, drop, length-take, length-set, drop_of_length-le, get_or-append}
use lib.Seq.{length-take-le, get_or-take, take_at, take-suc, drop-append-le}
use Rattle.storage.proofs.Parts.{back, length_back, part_in, part_before, part_after}
use Rattle.pgn_list.specs.PgnList.{list_size, delete_all}
use Rattle.pgn_list.specs.Steps.{Keeping}
use Rattle.sorted_list.specs.SortedList.{put_one, put_all, fitted}
use Rattle.sorted_list.proofs.Order.{put_all_snoc}
use Rattle.filter.specs.Filter.{mode_place, count_place, list_place, list_of, names_place, names_in, sorted_place, sorted_in, block_size}
use Rattle.name_entries.specs.NameEntries.{names_length}
use Rattle.filter.proofs.Meaning.{list_whole, list_at, sorted_long}
use Rattle.filter_commands.specs.Steps.{Relisted, Resorted}

-- a word before a part that came back is as it was
pub word_before : (a k : ℕ) (words ys : List ℕ) → length ys ≡ k → a + k ≤ length words → (i : ℕ) → i < a → get_or (back a k words ys) i 0 ≡ get_or words i 0
word_before a k words ys l fits i h =
    get_or-append (take a words) (ys ++ drop k (drop a words)) 0 i (omega (arith, length-take-le a words (omega arith)))
    ∙ get_or-take a words i 0 h

-- ---- the part of a block that is searched, lent and come back
pub back_resorted : (words ys : List ℕ) (r : ℕ) {ss : List ℕ} → length words ≡ block_size → length ys ≡ list_size → take r ys ≡ ss
    → Resorted words (back sorted_place list_size words ys) ss r
back_resorted words ys r long h e = record {
  mode = word_before sorted_place list_size words ys h (omega arith) mode_place (omega arith);
  count = word_before sorted_place list_size words ys h (omega arith) count_place (omega arith);
  list = part_before sorted_place list_size words ys h (omega arith) list_place list_size (omega arith);
  names = part_before sorted_place list_size words ys h (omega arith) names_place names_length (omega arith);
  sorted = ap (take r) (part_in sorted_place list_size words ys h (omega arith)) ∙ e;
  long = length_back sorted_place list_size words ys h (omega arith);
}

pub then_resorted : {a b c ss ts : List ℕ} {r t : ℕ} → Resorted a b ss r → Resorted b c ts t → Resorted a c ts t
then_resorted R T = record {
  mode = T.mode ∙ R.mode;
  count = T.count ∙ R.count;
  list = T.list ∙ R.list;
  names = T.names ∙ R.names;
  sorted = T.sorted;
  long = T.long ∙ R.long;
}

-- ---- put in, one after the other
module _ (words : List ℕ) (n : ℕ) where
  -- those up to index i are put in
  abbrev pub PutTo : List ℕ → ℕ → Type 0
  PutTo block i = Resorted words block (put_all (take n (sorted_in words)) (drop n (take i (list_of words)))) i

  pub put_none : PutTo words n
  unfolding put_all
  put_none =
      let e : drop n (take n (list_of words)) ≡ [] = drop_of_length-le (take n (list_of words)) {i = n} (omega (arith, length-take n (list_of words))) in
      record { mode = refl; count = refl; list = refl; names = refl; sorted = rw e; long = refl }

  pub put_one_lem : {block : List ℕ} (ys : List ℕ) {i x : ℕ} → length words ≡ block_size → n ≤ i → i < list_size → x ≡ get_or block (list_place + i) 0 → length ys ≡ list_size
      → take (i + 1) ys ≡ put_one (take i (sorted_in block)) x → PutTo block i → PutTo (back sorted_place list_size block ys) (i + 1)
  put_one_lem {block} ys {i} {x} long low high v l t R =
      let whole = list_whole words long in
      let x' : x ≡ get_or (list_of words) i 0 = v ∙ sym (list_at block i high) ∙ rw R.list in
      let one : take (suc i) (list_of words) ≡ take i (list_of words) ++ (get_or (list_of words) i 0 ∷ []) = take-suc (list_of words) i 0 (omega arith) in
      let behind = drop-append-le n (take i (list_of words)) (get_or (list_of words) i 0 ∷ []) (omega (arith, length-take-le i (list_of words) (omega arith))) in
      let last = put_all_snoc (take n (sorted_in words)) (drop n (take i (list_of words))) (get_or (list_of words) i 0) in
      then_resorted R
      (back_resorted block ys (i + 1) (R.long ∙ long) l (t ∙ rw (R.sorted, x') (sym (rw (add-one i, one, behind) last))))

-- ---- taken out
-- the part that came back is lent again
pub part_long : (words ys : List ℕ) → length words ≡ block_size → length ys ≡ list_size → length (sorted_in (back sorted_place list_size words ys)) ≡ list_size
part_long words ys long l = sorted_long (back sorted_place list_size words ys) (length_back sorted_place list_size words ys l (omega arith) ∙ long)

pub taken_out : (words ys zs xs : List ℕ) {n kept held : ℕ} → length words ≡ block_size → length ys ≡ list_size → length zs ≡ list_size
    → Keeping (sorted_in words) ys n xs kept → take held zs ≡ fitted held (take kept (sorted_in (back sorted_place list_size words ys)))
    → Resorted words (back sorted_place list_size (back sorted_place list_size words ys) zs) (fitted held (delete_all (take n (sorted_in words)) xs)) held
taken_out words ys zs xs {n} {kept} {held} long l m K t =
    let first = back_resorted words ys kept long l K.entries in
    then_resorted first (back_resorted (back sorted_place list_size words ys) zs held (first.long ∙ long) m (t ∙ rw first.sorted))

-- ---- a block whose list and count alone were written
pub record Written (entry exit ys : List ℕ) (r : ℕ) : Type 0 where
  pub mode : get_or exit mode_place 0 ≡ get_or entry mode_place 0
  pub count : get_or exit count_place 0 ≡ r
  pub list : list_of exit ≡ ys
  pub names : names_in exit ≡ names_in entry
  pub behind : sorted_in exit ≡ sorted_in entry
  pub long : length exit ≡ length entry

pub written : (words ys : List ℕ) (r : ℕ) → length words ≡ block_size → length ys ≡ list_size → Written words (set (back list_place list_size words ys) count_place r) ys r
written [] ys r long h = absurd (omega arith)
written (m ∷ []) ys r long h = absurd (omega arith)
written (m ∷ n ∷ words) ys r long h = record {
  mode = refl;
  count = refl;
  list = take_at ys (drop list_size words) list_size h;
  names = ap (take names_length) (part_after list_place list_size (m ∷ n ∷ words) ys h (omega arith) names_place (omega arith));
  behind = ap (take list_size) (part_after list_place list_size (m ∷ n ∷ words) ys h (omega arith) sorted_place (omega arith));
  long = length-set (back list_place list_size (m ∷ n ∷ words) ys) count_place r ∙ length_back list_place list_size (m ∷ n ∷ words) ys h (omega arith);
}

pub put_in_order : {words mid exit ys es ss : List ℕ} {r : ℕ} → Written words mid ys r → take r ys ≡ es → Resorted mid exit ss r → Relisted words exit es ss
put_in_order W e R = record {
  mode = R.mode ∙ W.mode;
  list = rw (R.count, W.count, R.list, W.list) e;
  names = R.names ∙ W.names;
  sorted = rw (R.count, W.count) R.sorted;
  long = R.long ∙ W.long;
}
