-- The frame that the code makes is the one that was handed in. Assumes nothing.
use mathlib.Core.Path.{◌≡◌}
use mathlib.Core.List.{List}
use Prim.Native.Nat.{ℕ, ◌≤◌}
use native.Mathlib.Omega.{arith}
use lib.ListN.{length, take}
use lib.Seq.{take_all}
use Rattle.storage.specs.Bytes.{packed}
use Rattle.claims.specs.Claims.{frame_of}

pub frame_is : {id n word : ℕ} (bytes : List ℕ) → n ≡ length bytes → n ≤ 8 → word ≡ packed (take 8 bytes) → record { id = id; len = n; bytes = word } ≡ frame_of id bytes
frame_is bytes e h w = rw (w, take_all 8 bytes (omega arith), e)
