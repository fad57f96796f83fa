-- Delete by a search for each entry: what stands before the first place of a PGN stays, and what one entry leaves is left to the next. Assumes nothing.
use mathlib.Core.Path.{◌≡◌, refl, sym, ◌∙◌}
use mathlib.Core.Bool.{true, false}
use mathlib.Core.List.{List, [], ◌∷◌}
use Prim.Native.Nat.{ℕ, ◌+◌, ◌≤◌, ◌<◌}
use native.Mathlib.Nat.{le_refl, le_trans}
use native.Mathlib.Omega.{arith}
use borrow.Author.Tests.{eq-eqb, ne_eqb}
use lib.ListN.{length, get_or, take}
use lib.Seq.{take-take, length-take-le}
use Rattle.storage.proofs.Walk.{Left, left_all, left_one, left_none}
use Rattle.entries.specs.Entries.{listed}
use Rattle.pgn_list.specs.PgnList.{delete_all}
use Rattle.pgn_list.specs.Steps.{Finding, Keeping}
use Rattle.pgn_list.proofs.Changes.{Kept}
use Rattle.pgn_list.proofs.Lists.{delete_none, delete_next, delete_from}

-- ---- one PGN
pub kept_before : {list : List ℕ} {n x r : ℕ} → n ≤ length list → Finding list n x r → Kept (x ∷ []) list list n r r
kept_before {list} {n} {x} {r} fits F =
    let h : r ≤ length (take n list) = omega (arith, F.inside, length-take-le n list fits) in
    record {
      left = record { inside = h; value = delete_from x (take n list) r (omega (arith, F.index)) ∙ rw (take-take r n list F.inside) };
      inside = le_refl r;
      rest = refl;
      long = refl;
    }

pub lone_other : {x y : ℕ} → (y ≡ x → ⊥) → false ≡ listed y (x ∷ [])
unfolding listed
lone_other {x} {y} ne = rw (ne_eqb x y (λ e. ne (sym e)))

pub lone_same : {x y : ℕ} → y ≡ x → true ≡ listed y (x ∷ [])
unfolding listed
lone_same {x} {y} e = rw (eq-eqb x y (sym e))

-- ---- one entry after the other
pub record Removed (list₀ list : List ℕ) (n : ℕ) (xs : List ℕ) (kept i : ℕ) : Type 0 where
  pub left : Left (delete_all (take n list₀) xs) (delete_all (take kept list)) xs i
  pub inside : kept ≤ n
  pub long : length list ≡ length list₀

pub removed_none : {list xs : List ℕ} {n : ℕ} → Removed list list n xs n 0
removed_none {list} {xs} {n} = record { left = left_all refl; inside = le_refl n; long = refl }

pub removed_one : {list₀ list list' xs : List ℕ} {n kept i x r : ℕ} → Removed list₀ list n xs kept i → i < length xs → x ≡ get_or xs i 0 → length list' ≡ length list → Keeping list list' kept (x ∷ []) r → Removed list₀ list' n xs r (i + 1)
removed_one {list₀} {list} {list'} {xs} {n} {kept} {i} {x} {r} R turn e l K = record {
  left = left_one R.left turn (rw (← e, K.entries) (delete_next (take kept list) x _));
  inside = le_trans K.inside R.inside;
  long = l ∙ R.long;
}

pub removed_all : {list₀ list xs : List ℕ} {n kept i : ℕ} → Removed list₀ list n xs kept i → length xs ≤ i → Keeping list₀ list n xs kept
removed_all {list₀} {list} {xs} {n} {kept} R done =
    record { entries = sym (left_none R.left done ∙ delete_none (take kept list)); inside = R.inside }
