-- `record::losses_at` meets its contract: the counter's word is lent to be read. Assumes nothing.
use Rattle.record.proofs.Regions.{losses_of_lem}
use borrow.Author.Rules.{rules}
use Rattle.record.proofs.losses_at.Goals as goal

pub returns : goal.returns
returns c = let args = c.args in
    rw (losses_of_lem args.ports args.words.now args.i (search rules) (search rules) c.counter_at-a.result c.counter_at-a.ensures) c.counted.ensures
