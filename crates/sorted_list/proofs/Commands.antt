-- The sorted list of a pair's PGNs is `insert_all []` of them: one list for every order of addition, and what Add and Delete make of the PGNs is what they
-- make of the sorted list. Assumes nothing.
use mathlib.Core.Path.{◌≡◌, refl, sym, ap, ◌∙◌}
use mathlib.Core.Bool.{Bool, true, false, not, true≢false}
use mathlib.Core.List.{List, [], ◌∷◌, ◌++◌}
use Prim.Native.Nat.{ℕ, ◌≤◌}
use native.Mathlib.Omega.{arith}
use borrow.Author.Tests.{ne_eqb, not-true}
use lib.ListN.{length, take, length-append, take-append-drop}
use lib.Seq.{take-length, take-take, take-append_seam}
use Rattle.checks.proofs.Tests.{both, neither}
use Rattle.entries.specs.Entries.{listed}
use Rattle.entries.proofs.Listed.{listed_append}
use Rattle.pgn_list.specs.PgnList.{add_one, add_all, delete_all, once}
use Rattle.pgn_list.proofs.Changes.{one_listed, one_new}
use Rattle.pgn_list.proofs.Lists.{added_listed, deleted_listed, add_once, delete_once}
use Rattle.sorted_list.specs.SortedList.{rising, Rising, put_all, insert_all, appended, fitted}
use Rattle.sorted_list.proofs.Fitting.{fitted_same}
use Rattle.sorted_list.proofs.Order.{put_inserts, insert_all_listed, insert_all_rising, insert_append, insert_all_longer, same_list, delete_rising}

-- ---- the sorted list
pub sorted_rising : (es : List ℕ) → Rising (insert_all [] es)
unfolding rising
sorted_rising es = insert_all_rising [] es refl

pub sorted_listed : (z : ℕ) (es : List ℕ) → listed z (insert_all [] es) ≡ listed z es
unfolding listed
sorted_listed z es = insert_all_listed z [] es

pub sorted_length : (es : List ℕ) → once es ≡ true → length (insert_all [] es) ≡ length es
unfolding listed
sorted_length es h = insert_all_longer [] es h (λ z l. refl) ∙ omega arith

-- the same PGNs in any order of addition
pub sorted_same : (es ds : List ℕ) → ((z : ℕ) → listed z es ≡ listed z ds) → insert_all [] es ≡ insert_all [] ds
sorted_same es ds m = same_list (insert_all [] es) (insert_all [] ds) (sorted_rising es) (sorted_rising ds) (λ z. sorted_listed z es ∙ m z ∙ sym (sorted_listed z ds))

-- ---- Add
-- those that were there stand in front
add_front : (es xs : List ℕ) → take (length es) (add_all es xs) ≡ es
unfolding add_all
add_front es [] = take-length es
add_front es (x ∷ xs) = go (listed x es) refl (add_front (add_one es x) xs)
  where
    go : (b : Bool) → listed x es ≡ b → take (length (add_one es x)) (add_all (add_one es x) xs) ≡ add_one es x → take (length es) (add_all (add_one es x) xs) ≡ es
    go true l ih = let e = one_listed es x l in rw e (rw e at ih)
    go false l ih =
        let n = one_new es x l in
        let k : length es ≤ length (add_one es x) = rw n (omega (arith, length-append es (x ∷ []))) in
        sym (take-take (length es) (length (add_one es x)) (add_all (add_one es x) xs) k) ∙ rw (ih, n) (take-append_seam es (x ∷ []))

pub add_split : (es xs : List ℕ) → add_all es xs ≡ es ++ appended es xs
add_split es xs = sym (take-append-drop (length es) (add_all es xs)) ∙ ap (λ l. l ++ appended es xs) (add_front es xs)

pub sorted_added : (es xs : List ℕ) → insert_all [] (add_all es xs) ≡ insert_all (insert_all [] es) (appended es xs)
sorted_added es xs = ap (λ l. insert_all [] l) (add_split es xs) ∙ insert_append [] es (appended es xs)

-- those that are listed already do no harm
pub sorted_added_all : (es xs : List ℕ) → insert_all [] (add_all es xs) ≡ insert_all (insert_all [] es) xs
sorted_added_all es xs =
    same_list (insert_all [] (add_all es xs)) (insert_all (insert_all [] es) xs) (sorted_rising (add_all es xs)) (insert_all_rising (insert_all [] es) xs (sorted_rising es))
    (λ z. sorted_listed z (add_all es xs) ∙ added_listed z es xs ∙ sym (insert_all_listed z (insert_all [] es) xs ∙ rw (sorted_listed z es)))

-- ---- Delete
pub sorted_deleted : (es xs : List ℕ) → insert_all [] (delete_all es xs) ≡ delete_all (insert_all [] es) xs
sorted_deleted es xs =
    same_list (insert_all [] (delete_all es xs)) (delete_all (insert_all [] es) xs) (sorted_rising (delete_all es xs)) (delete_rising (insert_all [] es) xs (sorted_rising es))
    (λ z. sorted_listed z (delete_all es xs) ∙ deleted_listed z es xs ∙ sym (deleted_listed z (insert_all [] es) xs ∙ rw (sorted_listed z es)))

-- ---- a pair's PGNs and its sorted list stay in step
once_behind : (es ds : List ℕ) → once (es ++ ds) ≡ true → once ds ≡ true
unfolding once
once_behind [] ds h = h
once_behind (e ∷ es) ds h = once_behind es ds (both (not (listed e (es ++ ds))) (once (es ++ ds)) h).1

once_apart : (es ds : List ℕ) (z : ℕ) → once (es ++ ds) ≡ true → listed z ds ≡ true → listed z es ≡ false
unfolding once listed
once_apart [] ds z h l = refl
once_apart (e ∷ es) ds z h l =
    let p = both (not (listed e (es ++ ds))) (once (es ++ ds)) h in
    let n = neither (listed e es) (listed e ds) (sym (listed_append e es ds) ∙ not-true (listed e (es ++ ds)) p.0) in
    rw (ne_eqb e z (λ q. true≢false (sym l ∙ rw (← q) n.1))) (once_apart es ds z p.1 l)

module _ (es xs sorted : List ℕ) (different : once es ≡ true) (step : sorted ≡ insert_all [] es) where
  -- Add, and Create with nothing before: what was appended is put in, one after the other
  pub in_step_added : put_all sorted (appended es xs) ≡ insert_all [] (add_all es xs)
  in_step_added =
      let all : once (es ++ appended es xs) ≡ true = rw (← (add_split es xs)) (add_once es xs different) in
      rw (step, sorted_added es xs)
      (put_inserts (insert_all [] es) (appended es xs) (once_behind es (appended es xs) all) (λ z l. sorted_listed z es ∙ once_apart es (appended es xs) z all l))

  -- Delete: what is named is taken out
  pub in_step_deleted : fitted (length (delete_all es xs)) (delete_all sorted xs) ≡ insert_all [] (delete_all es xs)
  in_step_deleted =
      rw (step, ← (sorted_deleted es xs))
      (fitted_same (length (delete_all es xs)) (insert_all [] (delete_all es xs)) (sorted_length (delete_all es xs) (delete_once es xs different)))

-- different PGNs, put in one after the other
pub put_sorts : (es : List ℕ) → once es ≡ true → put_all [] es ≡ insert_all [] es
unfolding listed
put_sorts es h = put_inserts [] es h (λ z l. refl)
