-- `record::reset_losses` meets its contract: the counter's word was lent and came back. Assumes nothing.
use Rattle.record.proofs.Regions.{losses_changed}
use borrow.Author.Rules.{rules}
use Rattle.record.proofs.reset_losses.Goals as goal

pub returns : goal.returns
returns c = let args = c.args in
    losses_changed args.ports args.words.now args.i (search rules) (search rules) c.counter_at-a.result c.counter_at-a.ensures c.reset.new.counter (λ n. 0) c.reset.ensures
