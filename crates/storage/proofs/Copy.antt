-- A copy of s into d from index `at` on, an element at a time. Assumes nothing.
use mathlib.Core.Path.{◌≡◌, ◌∙◌}
use mathlib.Core.List.{List, ◌++◌, append-nil}
use Prim.Native.Nat.{ℕ, ◌+◌, ◌≤◌, ◌<◌, zero-le}
use native.Mathlib.Numerals.{add-one}
use native.Mathlib.Omega.{arith}
use lib.ListN.{length, get_or, set, take, drop_of_length-le}
use lib.Seq.{take_all, paste, paste-zero, paste-suc, length-paste}

-- after i elements
pub record Copied (d : List ℕ) (at : ℕ) (s x : List ℕ) (i : ℕ) : Type 0 where
  pub inside : i ≤ length s
  pub copy : x ≡ paste d at s i

pub copied_none : {d s : List ℕ} {at : ℕ} → Copied d at s d 0
copied_none {d} {s} {at} = record { inside = zero-le; copy = paste-zero d at s }

module _ {d s x : List ℕ} {at i : ℕ} (fits : at + length s ≡ length d) (C : Copied d at s x i) where
  pub copied_long : length x ≡ length d
  copied_long = rw C.copy (length-paste d at s i (omega (arith, C.inside)) C.inside)

  pub copied_one : i < length s → Copied d at s (set x (at + i) (get_or s i 0)) (i + 1)
  copied_one h = record { inside = omega arith; copy = rw (C.copy, add-one i) (paste-suc d at s i 0 (omega arith) h) }

  pub copied_all : length s ≤ i → x ≡ take at d ++ s
  copied_all h =
      C.copy
      ∙ rw (take_all i s h, drop_of_length-le d {i = at + i} (omega arith)) (append-nil (take at d ++ s))
