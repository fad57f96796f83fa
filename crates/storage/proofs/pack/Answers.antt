-- `storage::pack` meets its contract: eight bytes, or four and those behind them, or fewer. Assumes nothing.
use mathlib.Core.Path.{◌≡◌, ap, ◌∙◌}
use Prim.Native.Nat.{◌<◌}
use native.Mathlib.Omega.{arith}
use lib.ListN.{length}
use lib.Seq.{take_all, length-take-le}
use Rattle.storage.specs.Bytes.{packed}
use Rattle.storage.proofs.Bytes.{word_of_four, word_of_eight, packed_from_four}
use Rattle.storage.proofs.pack.Goals as goal

pub returns-in-Some : goal.returns-in-Some
returns-in-Some c =
    let h = c.in-Some.ensures.cases in
    c.from_le_bytes.ensures ∙ word_of_eight c.in-Some.eight.now (ap length h.same ∙ length-take-le 8 c.args.bytes.now h.enough) ∙ ap packed h.same

pub returns-in-Some-split_first_chunk : goal.returns-in-Some-split_first_chunk
returns-in-Some-split_first_chunk c =
    let bytes = c.args.bytes.now in
    let h = c.in-Some-split_first_chunk.ensures.cases in
    let four = c.in-Some-split_first_chunk.four.now in
    let some : length four ≡ 4 = ap length h.0 ∙ length-take-le 4 bytes (omega (arith, h.2)) in
    let low : c.from_le_bytes-in-Some-split_first_chunk.result ≡ packed four = c.from_le_bytes-in-Some-split_first_chunk.ensures ∙ word_of_four four some in
    let few : length bytes < 8 = c.in_default.ensures.cases in
    rw (take_all 8 bytes (omega arith)) (omega (arith, low, ap packed h.0, ap packed h.1, packed_from_four bytes (omega (arith, h.2)), c.pack_few.ensures.number, c.pack_few.ensures.small))
