-- `Walk::permits` meets its contract: asking the pair's part of the lists. Assumes nothing.
use Rattle.plan_walk.proofs.Ask.{permit_is}
use Rattle.plan_walk.proofs.Walk.permits.Goals as goal

pub returns : goal.returns
returns c = let args = c.args in permit_is args.self.now.lists.now args.unit args.from args.to args.self.now.pgn c.pair_at-start.result c.pair_at-start.ensures.0 c.reason_by_list.ensures c.crosses.ensures
