-- `to_text` meets its contract: refused, or the line of the record. Assumes nothing.
use mathlib.Core.Path.{sym, ◌∙◌}
use Rattle.bench_records.proofs.Records.{text_written}
use Rattle.bench_records.proofs.to_text.Goals as goal

pub returns : goal.returns
returns c = text_written (sym c.check_record.ensures ∙ c.in_ok-check_record.was) (rw c.arrival_of.ensures at c.write_line.ensures)
