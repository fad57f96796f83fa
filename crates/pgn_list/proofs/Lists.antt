-- The lists that commands make: what is listed in them, that they hold no PGN twice, and how long they are. By induction on the lists. Assumes nothing.
use mathlib.Core.Path.{◌≡◌, refl, sym, ap, ◌∙◌}
use mathlib.Core.Bool.{Bool, true, false, cond, not, ◌&&◌, ◌||◌, true≢false, and-false, or_assoc, or-false}
use mathlib.Core.List.{List, [], ◌∷◌, ◌++◌, append-nil, append_assoc}
use Prim.Native.Nat.{ℕ, zero, suc, ◌≤◌, ◌<◌, zero-le}
use native.Mathlib.Nat.{not-suc-le-zero, le_of_suc-le-suc}
use native.Mathlib.Omega.{arith}
use borrow.Author.Tests.{eqb-true, not-true}
use lib.Dec.{eqb}
use lib.ListN.{length, take, drop}
use Rattle.checks.proofs.Tests.{both, neither}
use Rattle.entries.specs.Entries.{listed, every}
use Rattle.entries.proofs.Listed.{same_test, listed_append, one_every}
use Rattle.pgn_list.specs.PgnList.{add_one, add_all, delete_all, once}
use Rattle.pgn_list.specs.Steps.{index_of}
use Rattle.pgn_list.proofs.Changes.{one_listed, one_new}

-- ---- what is listed after a command
one_says : (x y : ℕ) (es : List ℕ) → listed x (add_one es y) ≡ (listed x es || eqb y x)
unfolding listed
one_says x y es = go (listed y es) (eqb y x) refl refl
  where
    go : (b c : Bool) → listed y es ≡ b → eqb y x ≡ c → listed x (add_one es y) ≡ (listed x es || c)
    go true true l q = rw (one_listed es y l, rw (eqb-true y x q) at l)
    go true false l q = rw (one_listed es y l) (sym (or-false (listed x es)))
    go false c l q = rw (one_new es y l, listed_append x es (y ∷ []), ← q) (ap (λ r. listed x es || r) (or-false (eqb y x)))

-- after Add: what was listed, and what was named
pub added_listed : (x : ℕ) (es xs : List ℕ) → listed x (add_all es xs) ≡ (listed x es || listed x xs)
unfolding add_all listed
added_listed x es [] = sym (or-false (listed x es))
added_listed x es (y ∷ ys) = added_listed x (add_one es y) ys ∙ rw (one_says x y es) (or_assoc (listed x es) (eqb y x) (listed x ys))

-- after Delete: what was listed and was not named
pub deleted_listed : (x : ℕ) (es xs : List ℕ) → listed x (delete_all es xs) ≡ (listed x es && not (listed x xs))
unfolding delete_all listed
deleted_listed x [] xs = refl
deleted_listed x (e ∷ es) xs = go (listed e xs) (eqb e x) refl refl (deleted_listed x es xs)
  where
    go : (b c : Bool) → listed e xs ≡ b → eqb e x ≡ c → listed x (delete_all es xs) ≡ (listed x es && not (listed x xs)) → listed x (cond b (delete_all es xs) (e ∷ delete_all es xs)) ≡ ((c || listed x es) && not (listed x xs))
    go true true l q ih = let h : listed x xs ≡ true = rw (eqb-true e x q) at l in ih ∙ rw h (and-false (listed x es))
    go true false l q ih = ih
    go false true l q ih = let h : listed x xs ≡ false = rw (eqb-true e x q) at l in rw (q, h)
    go false false l q ih = rw q ih

-- ---- Delete, one PGN after the other
pub delete_none : (es : List ℕ) → delete_all es [] ≡ es
unfolding delete_all listed
delete_none [] = refl
delete_none (e ∷ es) = ap (λ l. e ∷ l) (delete_none es)

pub delete_next : (es : List ℕ) (x : ℕ) (xs : List ℕ) → delete_all es (x ∷ xs) ≡ delete_all (delete_all es (x ∷ [])) xs
unfolding delete_all listed
delete_next [] x xs = refl
delete_next (e ∷ es) x xs = go (eqb x e) (delete_next es x xs)
  where
    go : (b : Bool) → delete_all es (x ∷ xs) ≡ delete_all (delete_all es (x ∷ [])) xs → cond (b || listed e xs) (delete_all es (x ∷ xs)) (e ∷ delete_all es (x ∷ xs)) ≡ delete_all (cond (b || false) (delete_all es (x ∷ [])) (e ∷ delete_all es (x ∷ []))) xs
    go true ih = ih
    go false ih = rw ih

-- those before the first that is x stay
pub delete_from : (x : ℕ) (es : List ℕ) (k : ℕ) → k ≤ index_of x es → delete_all es (x ∷ []) ≡ take k es ++ delete_all (drop k es) (x ∷ [])
unfolding delete_all listed index_of
delete_from x es zero h = refl
delete_from x [] (suc k) h = refl
delete_from x (e ∷ es) (suc k) h = go (eqb e x) refl h (delete_from x es k)
  where
    go : (b : Bool) → eqb e x ≡ b → suc k ≤ cond b 0 (suc (index_of x es)) → (k ≤ index_of x es → delete_all es (x ∷ []) ≡ take k es ++ delete_all (drop k es) (x ∷ [])) → delete_all (e ∷ es) (x ∷ []) ≡ e ∷ (take k es ++ delete_all (drop k es) (x ∷ []))
    go true q l ih = absurd (not-suc-le-zero l)
    go false q l ih = rw (same_test x e, q) (ap (λ l. e ∷ l) (ih (le_of_suc-le-suc l)))

-- ---- no PGN twice
once_end : (es : List ℕ) (x : ℕ) → once es ≡ true → listed x es ≡ false → once (es ++ (x ∷ [])) ≡ true
unfolding once listed
once_end [] x h l = refl
once_end (e ∷ es) x h l =
    let p = both (not (listed e es)) (once es) h in
    let q = neither (eqb e x) (listed x es) l in
    rw (listed_append e es (x ∷ []), not-true (listed e es) p.0, same_test x e, q.0, once_end es x p.1 q.1)

one_once : (es : List ℕ) (x : ℕ) → once es ≡ true → once (add_one es x) ≡ true
one_once es x h = go (listed x es) refl
  where
    go : (b : Bool) → listed x es ≡ b → once (add_one es x) ≡ true
    go true l = rw (one_listed es x l) h
    go false l = rw (one_new es x l) (once_end es x h l)

pub add_once : (es xs : List ℕ) → once es ≡ true → once (add_all es xs) ≡ true
unfolding add_all
add_once es [] h = h
add_once es (x ∷ xs) h = add_once (add_one es x) xs (one_once es x h)

pub delete_once : (es xs : List ℕ) → once es ≡ true → once (delete_all es xs) ≡ true
unfolding delete_all once
delete_once [] xs h = refl
delete_once (e ∷ es) xs h = let p = both (not (listed e es)) (once es) h in go (listed e xs) p.0 (delete_once es xs p.1)
  where
    go : (b : Bool) → not (listed e es) ≡ true → once (delete_all es xs) ≡ true → once (cond b (delete_all es xs) (e ∷ delete_all es xs)) ≡ true
    go true n ih = ih
    go false n ih = rw (deleted_listed e es xs, not-true (listed e es) n) ih

-- ---- how long
pub delete_shorter : (es xs : List ℕ) → length (delete_all es xs) ≤ length es
unfolding delete_all
delete_shorter [] xs = zero-le
delete_shorter (e ∷ es) xs = go (listed e xs) (delete_shorter es xs)
  where
    go : (b : Bool) → length (delete_all es xs) ≤ length es → length (cond b (delete_all es xs) (e ∷ delete_all es xs)) ≤ suc (length es)
    go true h = omega arith
    go false h = omega arith

pub delete_less : (es : List ℕ) (x : ℕ) → listed x es ≡ true → length (delete_all es (x ∷ [])) < length es
unfolding listed delete_all
delete_less [] x l = absurd (true≢false (sym l))
delete_less (e ∷ es) x l = go (eqb e x) refl l (delete_less es x)
  where
    go : (b : Bool) → eqb e x ≡ b → (b || listed x es) ≡ true → (listed x es ≡ true → length (delete_all es (x ∷ [])) < length es) → length (delete_all (e ∷ es) (x ∷ [])) < suc (length es)
    go true q l ih = rw (same_test x e, q) (omega (arith, delete_shorter es (x ∷ [])))
    go false q l ih = rw (same_test x e, q) (omega (arith, ih l))

-- different PGNs that a list has none of join its end in their order
once_apart : (es : List ℕ) (x : ℕ) (xs : List ℕ) → once (es ++ (x ∷ xs)) ≡ true → listed x es ≡ false
unfolding once listed
once_apart [] x xs h = refl
once_apart (e ∷ es) x xs h =
    let p = both (not (listed e (es ++ (x ∷ xs)))) (once (es ++ (x ∷ xs))) h in
    let q = neither (listed e es) (eqb x e || listed e xs) (sym (listed_append e es (x ∷ xs)) ∙ not-true (listed e (es ++ (x ∷ xs))) p.0) in
    rw (same_test e x, (neither (eqb x e) (listed e xs) q.1).0) (once_apart es x xs p.1)

pub add_different : (es xs : List ℕ) → once (es ++ xs) ≡ true → add_all es xs ≡ es ++ xs
unfolding add_all
add_different es [] h = sym (append-nil es)
add_different es (x ∷ xs) h =
    let a : (es ++ (x ∷ [])) ++ xs ≡ es ++ (x ∷ xs) = append_assoc es (x ∷ []) xs in
    rw (one_new es x (once_apart es x xs h)) (add_different (es ++ (x ∷ [])) xs (rw a h) ∙ a)

-- ---- a test that holds of every entry
pub add_every : (test : ℕ → Bool) (es xs : List ℕ) → every test es ≡ true → every test xs ≡ true → every test (add_all es xs) ≡ true
unfolding add_all every
add_every test es [] h g = h
add_every test es (x ∷ xs) h g = let p = both (test x) (every test xs) g in add_every test (add_one es x) xs (go (listed x es) refl p.0) p.1
  where
    go : (b : Bool) → listed x es ≡ b → test x ≡ true → every test (add_one es x) ≡ true
    go true l t = rw (one_listed es x l) h
    go false l t = rw (one_new es x l) (one_every test es x h t)

pub delete_every : (test : ℕ → Bool) (es xs : List ℕ) → every test es ≡ true → every test (delete_all es xs) ≡ true
unfolding delete_all every
delete_every test [] xs h = refl
delete_every test (e ∷ es) xs h = let p = both (test e) (every test es) h in go (listed e xs) p.0 (delete_every test es xs p.1)
  where
    go : (b : Bool) → test e ≡ true → every test (delete_all es xs) ≡ true → every test (cond b (delete_all es xs) (e ∷ delete_all es xs)) ≡ true
    go true t ih = ih
    go false t ih = rw t ih
