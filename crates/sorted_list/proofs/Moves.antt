-- A PGN put in: those above it moved up by one, and what the list is then. Assumes nothing.
use mathlib.Core.Path.{◌≡◌, refl, sym, ap, ◌∙◌}
use mathlib.Core.Bool.{Bool, true, false}
use mathlib.Core.List.{List, [], ◌∷◌, ◌++◌, append_assoc}
use Prim.Native.Nat.{ℕ, zero, suc, ◌+◌, ◌-◌, ◌≤◌, ◌<◌}
use native.Mathlib.Nat.{not-suc-le-zero, le_of_suc-le-suc, le_refl}
use native.Mathlib.Omega.{arith}
use borrow.Author.Tests.{lt-ltb, le-ltb, ltb-true}
use lib.Dec.{ltb}
use lib.ListN.{length, get_or, set, take, drop, length-append, length-set, length-drop, drop_of_length-le, get_or-append}
use lib.Seq.{take-take, take_at, get_or-take, length-take-le, take-suc, drop-cons, split_at, append_snoc, set_at}
use Rattle.checks.proofs.Tests.{both}
use Rattle.entries.specs.Entries.{every}
use Rattle.entries.proofs.Leading.{every_at}
use Rattle.pgn_list.specs.PgnList.{list_size}
use Rattle.sorted_list.specs.SortedList.{put_one}
use Rattle.sorted_list.specs.Steps.{moved_up, MakingRoom}

-- ---- up by one, from the end
-- what stands before them is as it was
up_read : (i n : ℕ) (xs : List ℕ) → i < n → n < length xs → get_or (moved_up (suc i) n xs) i 0 ≡ get_or xs i 0
up_read i n xs h k =
    let rest = get_or xs (suc i) 0 ∷ (drop (suc i) (take n xs) ++ drop (suc n) xs) in
    get_or-append (take (suc i) xs) rest 0 i (omega (arith, length-take-le (suc i) xs (omega arith))) ∙ get_or-take (suc i) xs i 0 (omega arith)

up_one : (i n : ℕ) (xs : List ℕ) → i < n → n < length xs → set (moved_up (suc i) n xs) (suc i) (get_or (moved_up (suc i) n xs) i 0) ≡ moved_up i n xs
up_one i n xs h k =
    let rest = drop (suc i) (take n xs) ++ drop (suc n) xs in
    let d : drop i (take n xs) ≡ get_or xs i 0 ∷ drop (suc i) (take n xs) = drop-cons (take n xs) i 0 (omega (arith, length-take-le n xs (omega arith))) ∙ rw (get_or-take n xs i 0 h) in
    let s : take (suc i) xs ≡ take i xs ++ (get_or xs i 0 ∷ []) = take-suc xs i 0 (omega arith) in
    ap (λ v. set (moved_up (suc i) n xs) (suc i) v) (up_read i n xs h k)
    ∙ set_at (take (suc i) xs) (get_or xs (suc i) 0) rest (get_or xs i 0) (suc i) (length-take-le (suc i) xs (omega arith))
    ∙ rw (d, s) (append_snoc (take i xs) (get_or xs i 0) (get_or xs i 0 ∷ rest))

-- those from i on are above x and have moved
pub record Making (entry list : List ℕ) (n x i : ℕ) : Type 0 where
  pub inside : i ≤ n
  pub long : length list ≡ length entry
  pub words : list ≡ moved_up i n entry
  pub above : every (λ y. ltb x y) (drop i (take n entry)) ≡ true

pub making_none : (list : List ℕ) (n x : ℕ) → n < length list → Making list list n x n
unfolding every
making_none list n x h =
    let e : drop n (take n list) ≡ [] = drop_of_length-le (take n list) {i = n} (omega (arith, length-take-le n list (omega arith))) in
    record { inside = le_refl n; long = refl; words = split_at list n 0 h ∙ rw e; above = rw e }

module _ {entry list : List ℕ} {n x : ℕ} (room : n < length entry) where
  read_at : (i : ℕ) → Making entry list n x (suc i) → get_or list i 0 ≡ get_or entry i 0
  read_at i M = rw M.words (up_read i n entry M.inside room)

  one_more_lem : (i : ℕ) → Making entry list n x (suc i) → x < get_or list i 0 → Making entry (set list (suc i) (get_or list i 0)) n x i
  unfolding every
  one_more_lem i M l =
      let h : i < n = M.inside in
      let e : drop i (take n entry) ≡ get_or entry i 0 ∷ drop (suc i) (take n entry) = drop-cons (take n entry) i 0 (omega (arith, length-take-le n entry (omega arith))) ∙ rw (get_or-take n entry i 0 h) in
      record {
        inside = omega arith;
        long = length-set list (suc i) (get_or list i 0) ∙ M.long;
        words = rw M.words (up_one i n entry h room);
        above = rw (e, ← (read_at i M), lt-ltb x (get_or list i 0) l) M.above;
      }

  pub making_one : (i : ℕ) → Making entry list n x i → 0 < i → x < get_or list (i - 1) 0 → Making entry (set list i (get_or list (i - 1) 0)) n x (i - 1)
  making_one zero M h l = absurd (not-suc-le-zero h)
  making_one (suc i) M h l = let e : suc i - 1 ≡ i = omega arith in rw e (one_more_lem i M (rw e at l))

  pub made_some : (i : ℕ) → Making entry list n x i → 0 < i → get_or list (i - 1) 0 ≤ x → MakingRoom entry list n x i
  made_some i M h l = record { inside = M.inside; words = M.words; above = M.above; ends = go i M l }
    where
      go : (i : ℕ) → Making entry list n x i → get_or list (i - 1) 0 ≤ x → (j : ℕ) → i ≡ suc j → get_or entry j 0 ≤ x
      go i M l j e =
          let M' : Making entry list n x (suc j) = rw e at M in
          let q : i - 1 ≡ j = omega arith in
          let l' : get_or list j 0 ≤ x = rw q at l in
          omega (arith, read_at j M')

  pub made_all : (i : ℕ) → Making entry list n x i → i ≡ 0 → MakingRoom entry list n x 0
  made_all i M z =
      let M' : Making entry list n x 0 = rw z at M in
      record { inside = M'.inside; words = M'.words; above = M'.above; ends = λ j e. absurd (omega arith) }

-- ---- a PGN put behind the last that is not above it
some_not : (x : ℕ) (ys : List ℕ) (j : ℕ) → j < length ys → get_or ys j 0 ≤ x → every (λ z. ltb x z) ys ≡ false
some_not x ys j h l = go (every (λ z. ltb x z) ys) refl
  where
    go : (b : Bool) → every (λ z. ltb x z) ys ≡ b → every (λ z. ltb x z) ys ≡ false
    go true e = absurd (omega (arith, ltb-true x (get_or ys j 0) (every_at (λ z. ltb x z) ys j e h)))
    go false e = e

put_joins : (x : ℕ) (es : List ℕ) (i : ℕ) → i ≤ length es → every (λ z. ltb x z) (drop i es) ≡ true → ((j : ℕ) → i ≡ suc j → get_or es j 0 ≤ x) → put_one es x ≡ take i es ++ (x ∷ drop i es)
unfolding put_one every
put_joins x [] zero h a l = refl
put_joins x [] (suc i) h a l = absurd (not-suc-le-zero h)
put_joins x (y ∷ ys) zero h a l = let p = both (ltb x y) (every (λ z. ltb x z) ys) a in rw (p.1, p.0)
put_joins x (y ∷ ys) (suc zero) h a l = rw (a, le-ltb x y (l 0 refl))
put_joins x (y ∷ ys) (suc (suc i)) h a l =
    rw (some_not x ys i (le_of_suc-le-suc h) (l (suc i) refl))
    (ap (λ l. y ∷ l) (put_joins x ys (suc i) (le_of_suc-le-suc h) a (λ j e. l (suc j) (ap suc e))))

pub joins : (list : List ℕ) (n x : ℕ) {made : List ℕ} {at : ℕ} → length list ≡ list_size → n < list_size → MakingRoom list made n x at
    → take (n + 1) (set made at x) ≡ put_one (take n list) x
joins list n x {made} {at} long room M =
    let first : length (take n list) ≡ n = length-take-le n list (omega arith) in
    let ends : (j : ℕ) → at ≡ suc j → get_or (take n list) j 0 ≤ x = λ j e. rw (get_or-take n list j 0 (omega (arith, M.inside))) (M.ends j e) in
    let s : put_one (take n list) x ≡ take at list ++ (x ∷ drop at (take n list)) =
    put_joins x (take n list) at (omega (arith, first, M.inside)) M.above ends ∙ rw (take-take at n list M.inside) in
    let a : length (take at list) ≡ at = length-take-le at list (omega (arith, M.inside)) in
    let m : n + 1 ≡ length (take at list ++ (x ∷ drop at (take n list))) =
    omega (arith, length-append (take at list) (x ∷ drop at (take n list)), a, length-drop at (take n list), first, M.inside) in
    let w : set (moved_up at n list) at x ≡ (take at list ++ (x ∷ drop at (take n list))) ++ drop (suc n) list =
    set_at (take at list) (get_or list at 0) (drop at (take n list) ++ drop (suc n) list) x at a
    ∙ sym (append_assoc (take at list) (x ∷ drop at (take n list)) (drop (suc n) list)) in
    rw (s, M.words, w) (take_at (take at list ++ (x ∷ drop at (take n list))) (drop (suc n) list) (n + 1) (sym m))
