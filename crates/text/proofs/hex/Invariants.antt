-- `hex` meets its contract. The invariant: the digits of the bytes passed are written. Assumes nothing.
use Rattle.std.proofs.Common.{◌≡◌, ◌+◌, ◌*◌, length, take}
use Rattle.text.specs.Digits.{hex_of}
use Rattle.text.specs.Writing.{Writing}
use Rattle.text.proofs.hex.Given as goal

abbrev pub invariant-loop-value : goal.invariant-loop-value
invariant-loop-value l = (length l.out ≡ length l.initial.out) × (l.next ≡ l.at + 2 * l.value-index) × Writing l.initial.out l.out l.at (hex_of (take l.value-index l.bytes)) l.next
