-- A part of a list that was lent and came back: what then stands in it, before it and after it. Assumes nothing.
use mathlib.Core.Path.{◌≡◌, sym, ap, ◌∙◌}
use mathlib.Core.Logic.{◌⊎◌, ⊎_elim}
use mathlib.Core.List.{List, [], ◌∷◌, ◌++◌}
use Prim.Native.Nat.{ℕ, ◌+◌, ◌-◌, ◌≤◌, ◌<◌}
use native.Mathlib.Numerals.{add-one}
use native.Mathlib.Omega.{arith}
use lib.ListN.{length, set, take, drop, length-drop, length-append, take-append-drop}
use lib.Seq.{take_at, drop_at, take-append-le, drop-append-le, length-take-le, drop-drop, set_split}

-- xs after `&mut xs[a..a + k]` was lent and came back as ys, as the borrow checker says it
abbrev pub back {ℓ} : {A : Type ℓ} → ℕ → ℕ → List A → List A → List A
back a k xs ys = take a xs ++ (ys ++ drop k (drop a xs))

-- the size of a part, as a range says it
pub range_size : (a k : ℕ) → a + k - a ≡ k
range_size a k = omega arith

module _ {ℓ} {A : Type ℓ} (a k : ℕ) (xs ys : List A) (long : length ys ≡ k) (fits : a + k ≤ length xs) where
  head_long : length (take a xs) ≡ a
  head_long = length-take-le a xs (omega arith)

  pub length_back : length (back a k xs ys) ≡ length xs
  length_back = simp (length-append, length-drop, head_long) (omega arith)

  -- the part itself holds what came back
  pub part_in : take k (drop a (back a k xs ys)) ≡ ys
  part_in = rw (drop_at (take a xs) (ys ++ drop k (drop a xs)) a head_long, take_at ys (drop k (drop a xs)) k long)

  front : (b j : ℕ) (zs : List A) → b + j ≤ a → take j (drop b (take a xs ++ zs)) ≡ take j (drop b (take a xs))
  front b j zs h =
      rw (
        drop-append-le b (take a xs) zs (omega (arith, head_long)),
        take-append-le j (drop b (take a xs)) zs (omega (arith, head_long, length-drop b (take a xs))),
      )

  -- what ends before it is as it was
  pub part_before : (b j : ℕ) → b + j ≤ a → take j (drop b (back a k xs ys)) ≡ take j (drop b xs)
  part_before b j h =
      front b j (ys ++ drop k (drop a xs)) h
      ∙ sym (front b j (drop a xs) h)
      ∙ ap {B = List A} (λ l. take j (drop b l)) (take-append-drop a xs)

  rest : drop (a + k) (back a k xs ys) ≡ drop (a + k) xs
  rest =
      sym (drop-drop k a (back a k xs ys))
      ∙ ap {B = List A} (λ l. drop k l) (drop_at (take a xs) (ys ++ drop k (drop a xs)) a head_long)
      ∙ drop_at ys (drop k (drop a xs)) k long
      ∙ drop-drop k a xs

  after_at : (j b : ℕ) → b ≡ a + k + j → drop b (back a k xs ys) ≡ drop b xs
  after_at j b e =
      rw e (sym (drop-drop j (a + k) (back a k xs ys)) ∙ ap {B = List A} (λ l. drop j l) rest ∙ drop-drop j (a + k) xs)

  -- what starts after it is as it was
  pub part_after : (b : ℕ) → a + k ≤ b → drop b (back a k xs ys) ≡ drop b xs
  part_after b h = after_at (b - (a + k)) b (omega arith)

  -- what does not overlap it is as it was
  pub part_apart : (b j : ℕ) → (b + j ≤ a) ⊎ (a + k ≤ b) → take j (drop b (back a k xs ys)) ≡ take j (drop b xs)
  part_apart b j = ⊎_elim (part_before b j) (λ h. ap {B = List A} (λ l. take j l) (part_after b h))

-- one element stored is a part of one that came back
pub store_back {ℓ} : {A : Type ℓ} (i : ℕ) (xs : List A) (v : A) → i < length xs → set xs i v ≡ back i 1 xs (v ∷ [])
store_back i xs v h = set_split xs i v h ∙ ap (λ l. take i xs ++ (v ∷ l)) (rw (drop-drop 1 i xs, add-one i))
