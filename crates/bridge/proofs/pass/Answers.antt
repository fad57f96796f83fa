-- `bridge::pass` meets its contract: shared out, then acted on. Assumes nothing.
use Rattle.bridge.proofs.Passes.{passed}
use Rattle.bridge.proofs.pass.Goals as goal

pub returns : goal.returns
returns c = let args = c.args in
    passed args.port args.f c.is_for_unit-consumed.result c.share-s.result c.respond-r.result (c.is_for_unit-consumed.ensures _) c.share-s.ensures c.respond-r.ensures
