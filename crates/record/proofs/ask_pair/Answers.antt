-- `record::ask_pair` meets its contract: the pair's filter is asked. Assumes nothing.
use Rattle.record.proofs.ask_pair.Goals as goal

pub returns : goal.returns
returns c = let args = c.args in
    let e = c.pair_at-i.ensures in
    c.ask_filter.ensures.0 args.ports args.from args.to (rw e.0 at e.1) (rw e.0 at c.filter_at-a.ensures)
