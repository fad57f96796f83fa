-- `record::clear` meets its contract: the filter's block was lent and came back. Assumes nothing.
use native.Mathlib.Omega.{arith}
use Rattle.storage.proofs.Parts.{range_size}
use Rattle.filter.specs.Filter.{clear, block_size as filter_length}
use Rattle.record.proofs.Regions.{pair_changed}
use borrow.Author.Rules.{rules}
use Rattle.record.proofs.clear.Goals as goal

pub returns : goal.returns
returns c = let args = c.args in
    rw (range_size c.filter_at-a.result filter_length, c.filter_at-a.ensures)
    (pair_changed args.ports args.words.now args.i (search rules) (search rules) c.clear.new.block (λ _. clear) (omega arith) c.clear.ensures.state)
