-- `put_record` meets its contract: its parts, one after the other. Assumes nothing.
use native.Mathlib.Omega.{arith}
use mathlib.Core.Path.{◌∙◌}
use Rattle.text.proofs.Digits.{word_bytes}
use Rattle.text.proofs.Writing.{writing_join}
use Rattle.storage.proofs.Bytes.{bytes_of_length}
use Rattle.bench_records.specs.Records.{record_of}
use Rattle.bench_records.proofs.put_record.Goals as goal

pub returns : goal.returns
unfolding record_of
returns c = let long = bytes_of_length 8 c.args.a.bytes in
    let id = rw c.to_be_bytes.ensures at c.copy-next.ensures in
    let bytes = rw (c.to_le_bytes.ensures ∙ word_bytes c.args.a.bytes) at c.copy.ensures in
    let rest = writing_join c.byte-next-3.ensures bytes (omega arith) in
    writing_join c.byte-next.ensures (writing_join c.byte-next-2.ensures (writing_join id rest (omega arith)) (omega arith)) (omega arith)
