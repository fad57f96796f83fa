-- `record::count_loss` meets its contract: the counter's word was lent and came back. Assumes nothing.
use Rattle.losses.specs.Losses.{one_more}
use Rattle.record.proofs.Regions.{losses_changed}
use borrow.Author.Rules.{rules}
use Rattle.record.proofs.count_loss.Goals as goal

pub returns : goal.returns
returns c = let args = c.args in
    losses_changed args.ports args.words.now args.i (search rules) (search rules) c.counter_at-a.result c.counter_at-a.ensures c.count.new.counter one_more c.count.ensures
