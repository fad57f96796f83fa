-- What a pair byte names, and where the entries of a payload end. Assumes nothing.
use mathlib.Core.Path.{◌≡◌}
use mathlib.Core.Bool.{Bool, true, false, cond, ◌&&◌, and-true}
use mathlib.Core.List.{List}
use Prim.Native.Nat.{ℕ, ◌+◌, ◌-◌, ◌≤◌}
use native.Mathlib.Omega.{arith}
use borrow.Author.Tests.{eq-eqb, ne_eqb}
use lib.Dec.{eqb}
use lib.ListN.{length, take, drop, length-drop}
use lib.Seq.{take_all}
use Rattle.checks.proofs.Ports.{port_bounds}
use Rattle.checks.specs.Ports.{is_port}
use Rattle.network_message.specs.Decoding.{all_ports, may_be_all, is_pair, is_filling, entries_end}

-- ---- ports
-- 15 is no port, so From is another
pub pair_all : (ports function from to : ℕ) → ports ≤ 8 → is_port ports from ≡ true → is_port ports to ≡ false → to ≡ all_ports → is_pair ports function from to ≡ may_be_all function
unfolding is_pair
pair_all ports function from to few f t e =
    rw (f, t, eq-eqb to all_ports e, ne_eqb from to (λ s. omega (arith, (port_bounds ports from f).1))) (and-true (may_be_all function))

-- ---- where the entries end
module _ (start : ℕ) (payload : List ℕ) where
  -- 8 bytes: what stands after the first entry decides
  pub end_eight : {b : Bool} → length payload ≡ 8 → b ≡ is_filling (take (length payload - (start + 3)) (drop (start + 3) payload)) → entries_end start payload ≡ cond b (start + 3) (length payload)
  unfolding entries_end
  end_eight {b} e f =
      let all = take_all (length payload - (start + 3)) (drop (start + 3) payload) (omega (arith, length-drop (start + 3) payload)) in
      let g : b ≡ is_filling (drop (start + 3) payload) = rw all at f in
      rw (eq-eqb (length payload) 8 e, ← g)

  pub end_bounds : start ≤ 3 → 8 ≤ length payload → (start ≤ entries_end start payload) × (entries_end start payload ≤ length payload)
  unfolding entries_end
  end_bounds s l = go (eqb (length payload) 8 && is_filling (drop (start + 3) payload))
    where
      go : (b : Bool) → (start ≤ cond b (start + 3) (length payload)) × (cond b (start + 3) (length payload) ≤ length payload)
      go true = (omega arith, omega arith)
      go false = (omega arith, omega arith)
