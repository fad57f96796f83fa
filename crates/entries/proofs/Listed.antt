-- What is listed, and a test that holds of every entry. By induction on the lists. Assumes nothing.
use mathlib.Core.Path.{◌≡◌, refl, sym, ◌∙◌}
use mathlib.Core.Bool.{Bool, true, false, cond, ◌||◌, or_assoc}
use mathlib.Core.List.{List, [], ◌∷◌, ◌++◌}
use Prim.Native.Nat.{ℕ, suc}
use native.Mathlib.Omega.{arith}
use borrow.Author.Tests.{eq-eqb, ne_eqb, eqb-true, eqb-false}
use lib.Dec.{eqb}
use Rattle.checks.proofs.Tests.{both}
use Rattle.entries.specs.Entries.{listed, every, entries_of, whole, well_formed, leading, first_wrong}
use Rattle.identifier.specs.Identifier.{is_pgn}

pub same_test : (x y : ℕ) → eqb x y ≡ eqb y x
same_test x y = go (eqb x y) refl
  where
    go : (b : Bool) → eqb x y ≡ b → eqb x y ≡ eqb y x
    go true e = e ∙ sym (eq-eqb y x (sym (eqb-true x y e)))
    go false e = e ∙ sym (ne_eqb y x (λ q. eqb-false x y e (sym q)))

pub listed_append : (x : ℕ) (es ys : List ℕ) → listed x (es ++ ys) ≡ (listed x es || listed x ys)
unfolding listed
listed_append x [] ys = refl
listed_append x (e ∷ es) ys = rw (listed_append x es ys) (sym (or_assoc (eqb e x) (listed x es) (listed x ys)))

-- ---- every entry
pub one_every : (test : ℕ → Bool) (es : List ℕ) (x : ℕ) → every test es ≡ true → test x ≡ true → every test (es ++ (x ∷ [])) ≡ true
unfolding every
one_every test [] x h t = rw t
one_every test (e ∷ es) x h t = let p = both (test e) (every test es) h in rw p.0 (one_every test es x p.1 t)

pub every_weaker : (test other : ℕ → Bool) → ((x : ℕ) → test x ≡ true → other x ≡ true) → (es : List ℕ) → every test es ≡ true → every other es ≡ true
unfolding every
every_weaker test other w [] h = refl
every_weaker test other w (e ∷ es) h = let p = both (test e) (every test es) h in rw (w e p.0) (every_weaker test other w es p.1)

-- bytes that neither 12 nor 22 refuses are well formed
pub formed : (bytes : List ℕ) → whole bytes ≡ true → first_wrong (entries_of bytes) ≡ 0 → well_formed bytes ≡ true
unfolding well_formed first_wrong
formed bytes w z = rw w (go (every is_pgn (entries_of bytes)) refl z)
  where
    go : (b : Bool) → every is_pgn (entries_of bytes) ≡ b → cond b 0 (suc (leading is_pgn (entries_of bytes))) ≡ 0 → every is_pgn (entries_of bytes) ≡ true
    go true e z = e
    go false e z = absurd (omega arith)
