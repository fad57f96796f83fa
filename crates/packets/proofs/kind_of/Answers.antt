-- `packets::kind_of` meets its contract: what it is about, then the first byte. Assumes nothing.
use Rattle.std.proofs.Common.{◌≡◌, sym, ◌+◌, ◌*◌, get_or, arith}
use borrow.Author.Tests.{ne_eqb}
use Rattle.packets.proofs.Frames.{kind_about, kind_other}
use Rattle.packets.proofs.kind_of.Goals as goal

pub returns-then-about-ne-ABOUT : goal.returns-then-about-ne-ABOUT
returns-then-about-ne-ABOUT c = sym (kind_other c.args.word (omega arith) (λ z. omega arith))

pub returns-in-16 : goal.returns-in-16
returns-in-16 c =
    let bytes = c.to_le_bytes.result in
    let first : get_or bytes 0 0 ≡ 16 = omega arith in
    let size : c.from_le_bytes.result ≡ get_or bytes 1 0 + 256 * get_or bytes 2 0 = omega arith in
    rw (size, kind_about c.args.word bytes (omega arith) c.to_le_bytes.ensures (omega arith), first)

pub returns-in-17 : goal.returns-in-17
returns-in-17 c =
    let bytes = c.to_le_bytes.result in
    let first : get_or bytes 0 0 ≡ 17 = omega arith in
    rw (kind_about c.args.word bytes (omega arith) c.to_le_bytes.ensures (omega arith), first)

pub returns-in-19 : goal.returns-in-19
returns-in-19 c =
    let bytes = c.to_le_bytes.result in
    let first : get_or bytes 0 0 ≡ 19 = omega arith in
    rw (kind_about c.args.word bytes (omega arith) c.to_le_bytes.ensures (omega arith), first)

pub returns-in-255 : goal.returns-in-255
returns-in-255 c =
    let bytes = c.to_le_bytes.result in
    let first : get_or bytes 0 0 ≡ 255 = omega arith in
    rw (kind_about c.args.word bytes (omega arith) c.to_le_bytes.ensures (omega arith), first)

pub returns-in_default : goal.returns-in_default
returns-in_default c =
    let bytes = c.to_le_bytes.result in
    rw (
      kind_about c.args.word bytes (omega arith) c.to_le_bytes.ensures (omega arith),
      ne_eqb (get_or bytes 0 0) 16 (λ z. omega arith),
      ne_eqb (get_or bytes 0 0) 17 (λ z. omega arith),
      ne_eqb (get_or bytes 0 0) 19 (λ z. omega arith),
      ne_eqb (get_or bytes 0 0) 255 (λ z. omega arith),
    )
