-- `bridge::share` meets its contract: forwarded, or left. Assumes nothing.
use Rattle.bridge.proofs.Passes.{kept_still, shared}
use Rattle.bridge.proofs.share.Goals as goal

pub returns-then-consumed : goal.returns-then-consumed
returns-then-consumed c = kept_still c.if-consumed.true

pub returns : goal.returns
returns c = shared c.if-consumed.false c.pgn.ensures c.forward.ensures
