-- `record::has_names` meets its contract: the filter's mode word is read. Assumes nothing.
use native.Mathlib.Omega.{arith}
use Rattle.storage.proofs.Parts.{range_size}
use Rattle.filter.specs.Filter.{block_size as filter_length}
use Rattle.record.proofs.Regions.{first_word}
use Rattle.record.proofs.has_names.Goals as goal

pub returns : goal.returns
returns c = let args = c.args in
    rw (range_size args.a filter_length, first_word args.words.now args.a filter_length (omega arith)) at c.has_names.ensures
