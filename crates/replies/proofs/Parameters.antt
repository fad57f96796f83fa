-- The eight bytes of a reply with a parameter (docs/RULES.md, "Parameters"), one by one, for a value that two bytes hold. Assumes nothing.
use mathlib.Core.Path.{◌≡◌}
use mathlib.Core.List.{[], ◌∷◌}
use Prim.Native.Nat.{ℕ, ◌/◌, ◌%◌, ◌<◌}
use native.Mathlib.Omega.{arith}
use lib.ListN.{take, drop}
use Rattle.storage.specs.Bytes.{packed, bytes_of}
use Rattle.replies.specs.Replies.{filled, parameter_reply}

module _ (function named parameter value : ℕ) (small : value < 65536) where
  pub parameter_bytes : parameter_reply function named parameter value ≡ function ∷ named ∷ parameter ∷ value % 256 ∷ value / 256 ∷ 0xFF ∷ 0xFF ∷ 0xFF ∷ []
  unfolding parameter_reply filled bytes_of
  parameter_bytes =
      let high : value / 256 % 256 ≡ value / 256 = omega arith in
      rw high

  -- and read again they are the value
  pub parameter_value : packed (take 2 (drop 3 (parameter_reply function named parameter value))) ≡ value
  unfolding packed
  parameter_value = rw parameter_bytes (omega arith)
