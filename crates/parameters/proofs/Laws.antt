-- Which of the four is chosen. Assumes nothing.
use mathlib.Core.Path.{◌≡◌}
use Prim.Native.Nat.{ℕ}
use borrow.Author.Tests.{ne_eqb}
use Rattle.parameters.specs.Parameters.{chosen}

pub chosen_last : (parameter buffer list entries lost : ℕ) → (parameter ≡ 1 → ⊥) → (parameter ≡ 2 → ⊥) → (parameter ≡ 3 → ⊥) → chosen parameter buffer list entries lost ≡ lost
chosen_last parameter buffer list entries lost a b c = rw (ne_eqb parameter 1 a, ne_eqb parameter 2 b, ne_eqb parameter 3 c)
