-- Ports and bytes, put together. Assumes nothing.
use mathlib.Core.Path.{◌≡◌, sym, ◌∙◌}
use mathlib.Core.List.{List, [], ◌∷◌}
use Prim.Native.Nat.{ℕ, ◌≤◌, ◌<◌}
use native.Mathlib.Omega.{arith}
use lib.ListN.{length, take}
use lib.Seq.{take_all}
use Rattle.storage.specs.Bytes.{bytes_of}
use Rattle.storage.proofs.Bytes.{bytes_of_length}
use Rattle.text.specs.Writing.{Writing}
use Rattle.text.proofs.Writing.{writing_join}
use Rattle.bench_lines.specs.Lines.{or_dash}

-- no port was written: -
pub no_ports : {a b c : List ℕ} {at m n : ℕ} (s : List ℕ) → Writing a b at s m → m ≡ at → Writing b c at (45 ∷ []) n → at ≤ length a → Writing a c at (or_dash s) n
no_ports {a} {b} {c} {at} {m} {n} [] v e w fits = writing_join v (rw (← e) at w) (omega arith)
no_ports {a} {b} {c} {at} {m} {n} (x ∷ s) v e w fits = absurd (omega (arith, v.next))

pub some_ports : {a b : List ℕ} {at m : ℕ} (s : List ℕ) → Writing a b at s m → (m ≡ at → ⊥) → Writing a b at (or_dash s) m
some_ports {a} {b} {at} {m} [] v n = absurd (n (v.next ∙ omega arith))
some_ports {a} {b} {at} {m} (x ∷ s) v n = v

-- a word has eight bytes
pub no_ninth : (len bytes : ℕ) → 8 < len → take len (bytes_of 8 bytes) ≡ take 8 (bytes_of 8 bytes)
no_ninth len bytes h =
    take_all len (bytes_of 8 bytes) (omega (arith, bytes_of_length 8 bytes)) ∙ sym (take_all 8 (bytes_of 8 bytes) (omega (arith, bytes_of_length 8 bytes)))
