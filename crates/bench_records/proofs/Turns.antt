-- What is left of a slice from a place on, as it is lent. Assumes nothing.
use mathlib.Core.Path.{◌≡◌}
use mathlib.Core.List.{List}
use Prim.Native.Nat.{ℕ, ◌-◌}
use native.Mathlib.Omega.{arith}
use lib.ListN.{length, take, drop, length-drop}
use lib.Seq.{length-take-le, take_all}

pub part_long : (xs : List ℕ) (a : ℕ) → length (take (length xs - a) (drop a xs)) ≡ length xs - a
part_long xs a = length-take-le (length xs - a) (drop a xs) (omega (arith, length-drop a xs))

pub part_whole : (xs : List ℕ) (a : ℕ) → take (length xs - a) (drop a xs) ≡ drop a xs
part_whole xs a = take_all (length xs - a) (drop a xs) (omega (arith, length-drop a xs))
