-- Lists in rising order: what is listed after a PGN was put into one, that it rises still, and that two with the same PGNs are one list. Assumes nothing.
use mathlib.Core.Path.{◌≡◌, refl, sym, ap, ◌∙◌}
use mathlib.Core.Bool.{Bool, true, false, cond, not, ◌||◌, true≢false, or_assoc, or_comm, or-false}
use mathlib.Core.List.{List, [], ◌∷◌, ◌++◌}
use Prim.Native.Nat.{ℕ, suc, ◌+◌, ◌≤◌, ◌<◌}
use native.Mathlib.Omega.{arith}
use borrow.Author.Tests.{eq-eqb, ne_eqb, eqb-true, eqb-false, ltb-true, ltb-false, lt-ltb, not-true}
use lib.Dec.{eqb, ltb}
use lib.ListN.{length}
use Rattle.checks.proofs.Tests.{both, neither}
use Rattle.entries.specs.Entries.{listed, every}
use Rattle.entries.proofs.Listed.{every_weaker}
use Rattle.pgn_list.specs.PgnList.{delete_all, once}
use Rattle.pgn_list.proofs.Lists.{delete_every}
use Rattle.sorted_list.specs.SortedList.{rising, Rising, put_one, put_all, insert_one, insert_all}

-- ---- one PGN put behind the last that is not above it
-- what was listed, and it
put_listed : (z x : ℕ) (xs : List ℕ) → listed z (put_one xs x) ≡ (listed z xs || eqb x z)
unfolding listed put_one
put_listed z x [] = or-false (eqb x z)
put_listed z x (y ∷ ys) = go (every (λ z. ltb x z) ys) (ltb x y) (put_listed z x ys)
  where
    go : (b c : Bool) → listed z (put_one ys x) ≡ (listed z ys || eqb x z) → listed z (cond b (cond c (x ∷ y ∷ ys) (y ∷ x ∷ ys)) (y ∷ put_one ys x)) ≡ ((eqb y z || listed z ys) || eqb x z)
    go true true ih = or_comm (eqb x z) (eqb y z || listed z ys)
    go true false ih = rw (or_comm (eqb x z) (listed z ys)) (sym (or_assoc (eqb y z) (listed z ys) (eqb x z)))
    go false c ih = rw ih (sym (or_assoc (eqb y z) (listed z ys) (eqb x z)))

-- a test that holds of every one and of x
put_every : (test : ℕ → Bool) (xs : List ℕ) (x : ℕ) → every test xs ≡ true → test x ≡ true → every test (put_one xs x) ≡ true
unfolding every put_one
put_every test [] x h t = rw t
put_every test (y ∷ ys) x h t =
    let p = both (test y) (every test ys) h in
    go (every (λ z. ltb x z) ys) (ltb x y) p.0 p.1 (put_every test ys x p.1 t)
  where
    go : (b c : Bool) → test y ≡ true → every test ys ≡ true → every test (put_one ys x) ≡ true → every test (cond b (cond c (x ∷ y ∷ ys) (y ∷ x ∷ ys)) (y ∷ put_one ys x)) ≡ true
    go true true u v ih = rw t h
    go true false u v ih = rw (u, t) v
    go false c u v ih = rw u ih

-- one that is below all of a list is below x, unless x is so too
not_all : (y x : ℕ) (ys : List ℕ) → every (λ z. ltb y z) ys ≡ true → every (λ z. ltb x z) ys ≡ false → y < x
not_all y x ys a e = go (ltb y x) refl
  where
    go : (b : Bool) → ltb y x ≡ b → y < x
    go true l = ltb-true y x l
    go false l = absurd (true≢false (sym (every_weaker (λ z. ltb y z) (λ z. ltb x z) (λ z t. lt-ltb x z (omega (arith, ltb-true y z t, ltb-false y x l))) ys a) ∙ e))

-- it rises still, if x was not listed
put_rising : (xs : List ℕ) (x : ℕ) → Rising xs → listed x xs ≡ false → Rising (put_one xs x)
unfolding rising every put_one listed
put_rising [] x h f = refl
put_rising (y ∷ ys) x h f =
    let p = both (every (λ z. ltb y z) ys) (rising ys) h in
    let q = neither (eqb y x) (listed x ys) f in
    go (every (λ z. ltb x z) ys) (ltb x y) refl refl q.0 p.0 p.1 (put_rising ys x p.1 q.1)
  where
    go : (b c : Bool) → every (λ z. ltb x z) ys ≡ b → ltb x y ≡ c → eqb y x ≡ false → every (λ z. ltb y z) ys ≡ true → rising ys ≡ true → rising (put_one ys x) ≡ true
        → rising (cond b (cond c (x ∷ y ∷ ys) (y ∷ x ∷ ys)) (y ∷ put_one ys x)) ≡ true
    go true true e l q a r ih = rw (l, e) h
    go true false e l q a r ih = rw (lt-ltb y x (omega (arith, ltb-false x y l, eqb-false y x q)), a, e) r
    go false c e l q a r ih = rw (put_every (λ z. ltb y z) ys x a (lt-ltb y x (not_all y x ys a e))) ih

pub put_longer : (xs : List ℕ) (x : ℕ) → length (put_one xs x) ≡ suc (length xs)
unfolding put_one
put_longer [] x = refl
put_longer (y ∷ ys) x = go (every (λ z. ltb x z) ys) (ltb x y) (put_longer ys x)
  where
    go : (b c : Bool) → length (put_one ys x) ≡ suc (length ys) → length (cond b (cond c (x ∷ y ∷ ys) (y ∷ x ∷ ys)) (y ∷ put_one ys x)) ≡ suc (suc (length ys))
    go true true ih = refl
    go true false ih = refl
    go false c ih = ap suc ih

-- ---- where it belongs
pub insert_new : (xs : List ℕ) (x : ℕ) → listed x xs ≡ false → insert_one xs x ≡ put_one xs x
unfolding insert_one
insert_new xs x f = rw f

pub insert_listed : (z x : ℕ) (xs : List ℕ) → listed z (insert_one xs x) ≡ (listed z xs || eqb x z)
unfolding insert_one
insert_listed z x xs = go (listed x xs) (eqb x z) refl refl
  where
    or_true : (b : Bool) → true ≡ (b || true)
    or_true true = refl
    or_true false = refl

    go : (b c : Bool) → listed x xs ≡ b → eqb x z ≡ c → listed z (cond b xs (put_one xs x)) ≡ (listed z xs || c)
    go true true f q = let h : listed z xs ≡ true = rw (eqb-true x z q) at f in h ∙ or_true (listed z xs)
    go true false f q = sym (or-false (listed z xs))
    go false c f q = put_listed z x xs ∙ rw q

pub insert_rising : (xs : List ℕ) (x : ℕ) → Rising xs → Rising (insert_one xs x)
unfolding insert_one
insert_rising xs x h = go (listed x xs) refl
  where
    go : (b : Bool) → listed x xs ≡ b → Rising (cond b xs (put_one xs x))
    go true f = h
    go false f = put_rising xs x h f

-- ---- several
pub insert_all_listed : (z : ℕ) (xs ys : List ℕ) → listed z (insert_all xs ys) ≡ (listed z xs || listed z ys)
unfolding insert_all listed
insert_all_listed z xs [] = sym (or-false (listed z xs))
insert_all_listed z xs (y ∷ ys) = insert_all_listed z (insert_one xs y) ys ∙ rw (insert_listed z y xs) (or_assoc (listed z xs) (eqb y z) (listed z ys))

pub insert_all_rising : (xs ys : List ℕ) → Rising xs → Rising (insert_all xs ys)
unfolding insert_all
insert_all_rising xs [] h = h
insert_all_rising xs (y ∷ ys) h = insert_all_rising (insert_one xs y) ys (insert_rising xs y h)

pub insert_append : (xs es ds : List ℕ) → insert_all xs (es ++ ds) ≡ insert_all (insert_all xs es) ds
unfolding insert_all
insert_append xs [] ds = refl
insert_append xs (e ∷ es) ds = insert_append (insert_one xs e) es ds

-- different PGNs that are not listed make it longer by as many
pub insert_all_longer : (xs ys : List ℕ) → once ys ≡ true → ((z : ℕ) → listed z ys ≡ true → listed z xs ≡ false) → length (insert_all xs ys) ≡ length xs + length ys
unfolding insert_all once listed
insert_all_longer xs [] h apart = omega arith
insert_all_longer xs (y ∷ ys) h apart =
    let p = both (not (listed y ys)) (once ys) h in
    let new : listed y xs ≡ false = apart y (rw (eq-eqb y y refl)) in
    let i = insert_all_longer (insert_one xs y) ys p.1 (λ z l. rw (insert_listed z y xs, apart z (rw l (or_true' (eqb y z)))) (ne_eqb y z (λ e. true≢false (sym l ∙ rw (← e) (not-true (listed y ys) p.0))))) in
    let e = insert_new xs y new in omega (arith, i, ap length e, put_longer xs y)
  where
    or_true' : (b : Bool) → (b || true) ≡ true
    or_true' true = refl
    or_true' false = refl

-- the last of them is put in last
pub put_all_snoc : (xs ys : List ℕ) (y : ℕ) → put_all xs (ys ++ (y ∷ [])) ≡ put_one (put_all xs ys) y
unfolding put_all
put_all_snoc xs [] y = refl
put_all_snoc xs (z ∷ ys) y = put_all_snoc (put_one xs z) ys y

pub put_all_longer : (xs ys : List ℕ) → length (put_all xs ys) ≡ length xs + length ys
unfolding put_all
put_all_longer xs [] = omega arith
put_all_longer xs (y ∷ ys) = omega (arith, put_all_longer (put_one xs y) ys, put_longer xs y)

-- different PGNs that are not listed are put where they belong
pub put_inserts : (xs ys : List ℕ) → once ys ≡ true → ((z : ℕ) → listed z ys ≡ true → listed z xs ≡ false) → put_all xs ys ≡ insert_all xs ys
unfolding put_all insert_all once listed
put_inserts xs [] h apart = refl
put_inserts xs (y ∷ ys) h apart =
    let p = both (not (listed y ys)) (once ys) h in
    let e = insert_new xs y (apart y (rw (eq-eqb y y refl))) in
    rw e (put_inserts (put_one xs y) ys p.1 (λ z l. rw (put_listed z y xs, apart z (rw l (or_true' (eqb y z)))) (ne_eqb y z (λ e. true≢false (sym l ∙ rw (← e) (not-true (listed y ys) p.0))))))
  where
    or_true' : (b : Bool) → (b || true) ≡ true
    or_true' true = refl
    or_true' false = refl

-- ---- two lists in rising order with the same PGNs
-- what is not above x is not among those that are
pub above_absent : (x z : ℕ) (xs : List ℕ) → every (λ y. ltb x y) xs ≡ true → z ≤ x → listed z xs ≡ false
unfolding every listed
above_absent x z [] h l = refl
above_absent x z (y ∷ ys) h l =
    let p = both (ltb x y) (every (λ y. ltb x y) ys) h in
    rw (ne_eqb y z (λ e. omega (arith, ltb-true x y p.0))) (above_absent x z ys p.1 l)

not_below : (x y : ℕ) (xs ys : List ℕ) → every (λ z. ltb y z) ys ≡ true → listed x (x ∷ xs) ≡ listed x (y ∷ ys) → x < y → ⊥
unfolding listed
not_below x y xs ys b m l = true≢false (rw (eq-eqb x x refl, ne_eqb y x (λ e. omega arith), above_absent y x ys b (omega arith)) at m)

tail_same : (x z : ℕ) (xs ys : List ℕ) → every (λ y. ltb x y) xs ≡ true → every (λ y. ltb x y) ys ≡ true → listed z (x ∷ xs) ≡ listed z (x ∷ ys) → listed z xs ≡ listed z ys
unfolding listed
tail_same x z xs ys a b m = go (eqb x z) refl m
  where
    go : (c : Bool) → eqb x z ≡ c → (c || listed z xs) ≡ (c || listed z ys) → listed z xs ≡ listed z ys
    go true q m = above_absent x z xs a (omega (arith, eqb-true x z q)) ∙ sym (above_absent x z ys b (omega (arith, eqb-true x z q)))
    go false q m = m

not_none : (x : ℕ) (xs : List ℕ) → listed x (x ∷ xs) ≡ listed x [] → ⊥
unfolding listed
not_none x xs m = true≢false (rw (eq-eqb x x refl) at m)

pub same_list : (xs ys : List ℕ) → Rising xs → Rising ys → ((z : ℕ) → listed z xs ≡ listed z ys) → xs ≡ ys
unfolding rising
same_list [] [] h g m = refl
same_list [] (y ∷ ys) h g m = absurd (not_none y ys (sym (m y)))
same_list (x ∷ xs) [] h g m = absurd (not_none x xs (m x))
same_list (x ∷ xs) (y ∷ ys) h g m =
    let a = both (every (λ z. ltb x z) xs) (rising xs) h in
    let b = both (every (λ z. ltb y z) ys) (rising ys) g in
    let e : x ≡ y = omega (arith, not_below x y xs ys b.0 (m x), not_below y x ys xs a.0 (sym (m y))) in
    rw e (ap (λ l. y ∷ l) (same_list xs ys a.1 b.1 (λ z. tail_same y z xs ys (rw e at a.0) b.0 (rw e at (m z)))))

-- ---- Delete
pub delete_rising : (xs ys : List ℕ) → Rising xs → Rising (delete_all xs ys)
unfolding rising delete_all
delete_rising [] ys h = refl
delete_rising (x ∷ xs) ys h =
    let p = both (every (λ y. ltb x y) xs) (rising xs) h in
    go (listed x ys) (delete_every (λ y. ltb x y) xs ys p.0) (delete_rising xs ys p.1)
  where
    go : (b : Bool) → every (λ y. ltb x y) (delete_all xs ys) ≡ true → rising (delete_all xs ys) ≡ true → rising (cond b (delete_all xs ys) (x ∷ delete_all xs ys)) ≡ true
    go true a ih = ih
    go false a ih = rw a ih
