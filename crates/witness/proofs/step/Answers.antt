-- `step` meets its contract: five words are a call. Assumes nothing.
use Rattle.witness.specs.Encoding.{call_of}
use Rattle.witness.proofs.Steps.{part_is}
use lib.ListN.{get_or}
use Rattle.witness.proofs.step.Goals as goal

pub returns : goal.returns
unfolding call_of
returns c = let args = c.args in
    let end = c.min-end in
    let start = c.min-start in
    rw (part_is args.bytes.now (get_or args.call.now 3 0) (get_or args.call.now 4 0) start.result end.result end.ensures start.ensures)
    at c.perform.ensures
