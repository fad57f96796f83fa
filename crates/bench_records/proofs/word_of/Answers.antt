-- `word_of` meets its contract: the bytes up to the length, or all eight. Assumes nothing.
use mathlib.Core.Path.{◌∙◌}
use Rattle.bench_records.proofs.Records.{word_upto}
use Rattle.bench_records.proofs.word_of.Goals as goal

pub returns : goal.returns
returns c = c.pack.ensures ∙ word_upto c.args.log.now c.min-len.result (rw c.from.ensures at c.min-len.ensures)
