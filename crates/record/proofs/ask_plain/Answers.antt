-- `record::ask_plain` meets its contract: the filter's block is lent to be read. Without NAME entries the sender has no say. Assumes nothing.
use mathlib.Core.Path.{refl}
use native.Mathlib.Omega.{arith}
use Rattle.storage.proofs.Parts.{range_size}
use Rattle.filter.specs.Filter.{block_size as filter_length}
use Rattle.unit.specs.Model.{pair_at}
use Rattle.record.proofs.Regions.{first_word, pair_asked}
use borrow.Author.Rules.{rules}
use Rattle.record.proofs.ask_plain.Goals as goal

pub ask_plain-requires : goal.ask_plain-requires
ask_plain-requires c = (search rules, rw (range_size c.args.a filter_length, first_word c.args.words.now c.args.a filter_length (omega arith)) c.requires.1)

pub returns : goal.returns
returns c = let args = c.args in
    let A = rw (range_size args.a filter_length) at c.ask_plain.ensures in
    ((λ ports p q sender h e. pair_asked ports args.words.now p q args.pgn (pair_at ports p q) sender c.ask_plain.result refl h (rw e at (A.0 sender))), A.1)
