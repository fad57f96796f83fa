-- `record::filter_block` meets its contract: the words lent are the filter of pair i. Assumes nothing.
use Rattle.std.proofs.Common.{arith, rules}
use Rattle.storage.proofs.Parts.{range_size}
use Rattle.filter.specs.Filter.{block_size as filter_length}
use Rattle.record.proofs.Regions.{pair_of}
use Rattle.record.proofs.filter_block.Goals as goal

pub returns : goal.returns
returns c = let args = c.args in
    (omega arith, rw (pair_of args.ports args.words.now args.i (search rules) (search rules), range_size c.filter_at-a.result filter_length, c.filter_at-a.ensures))
