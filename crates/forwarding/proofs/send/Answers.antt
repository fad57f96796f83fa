-- `forwarding::send` meets its contract: what the pair answered is done. Assumes nothing.
use Rattle.forwarding.proofs.Sends.{sent_by}
use Rattle.forwarding.proofs.send.Goals as goal

pub returns : goal.returns
returns c = λ ports from more ne h e.
    let args = c.args in
    sent_by args.pgn ne (rw c.sa.ensures at (c.ask_filter-v.ensures.0 ports from args.to h e)) (c.carry.ensures ports more)
