-- Histories one after the other, and a test counted over a row that a frame joined or left. Assumes nothing.
use mathlib.Core.Path.{◌≡◌, refl, sym, ap, ◌∙◌}
use mathlib.Core.Bool.{Bool, true, false, cond}
use mathlib.Core.List.{List, [], ◌∷◌, ◌++◌, append_assoc}
use Prim.Native.Nat.{suc, ◌+◌, ◌≤◌}
use native.Mathlib.Omega.{arith}
use lib.ListN.{length}
use Rattle.delivery.specs.Row.{pull, given, kept}
use Rattle.delivery.specs.Port.{Event, Join, Take, joined, count, row_after}
use Rattle.queue.specs.declared.Frame.{Frame}
use Rattle.queue.specs.Queue.{priority}
use Rattle.tallies.specs.Tallies.{frames, gone}

pub joined_append : (h g : List (Event Frame)) → joined (h ++ g) ≡ joined h ++ joined g
joined_append [] g = refl
joined_append (Join f ∷ h) g = ap (λ l. f ∷ l) (joined_append h g)
joined_append (Take ∷ h) g = joined_append h g

pub row_append : (row : List Frame) (h g : List (Event Frame)) → row_after priority row (h ++ g) ≡ row_after priority (row_after priority row h) g
row_append row [] g = refl
row_append row (Join f ∷ h) g = row_append (row ++ (f ∷ [])) h g
row_append row (Take ∷ h) g = row_append (kept (pull priority row)) h g

pub gone_append : (row : List Frame) (h g : List (Event Frame)) → gone row (h ++ g) ≡ gone row h ++ gone (row_after priority row h) g
gone_append row [] g = refl
gone_append row (Join f ∷ h) g = gone_append (row ++ (f ∷ [])) h g
gone_append row (Take ∷ h) g =
    ap (λ l. frames (given (pull priority row)) ++ l) (gone_append (kept (pull priority row)) h g)
    ∙ sym (append_assoc (frames (given (pull priority row))) (gone (kept (pull priority row)) h) (gone (row_after priority (kept (pull priority row)) h) g))

-- ---- a test counted
module _ (test : Frame → Bool) where
  pub count_append : (xs ys : List Frame) → count test (xs ++ ys) ≡ count test xs + count test ys
  count_append [] ys = omega arith
  count_append (x ∷ xs) ys = omega (arith, count_append xs ys)

  pub count_few : (xs : List Frame) → count test xs ≤ length xs
  count_few [] = omega arith
  count_few (x ∷ xs) = go (test x) (count_few xs)
    where
      go : (b : Bool) → count test xs ≤ length xs → cond b 1 0 + count test xs ≤ suc (length xs)
      go true h = omega arith
      go false h = omega arith
