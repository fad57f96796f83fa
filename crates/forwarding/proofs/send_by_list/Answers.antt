-- `forwarding::send_by_list` meets its contract: what the pair answered, whoever sent the frame, is done. Assumes nothing.
use Rattle.forwarding.proofs.Sends.{sent_by}
use Rattle.forwarding.proofs.send_by_list.Goals as goal

pub returns : goal.returns
returns c = λ ports from more ne h e.
    let args = c.args in
    sent_by args.pgn ne (c.ask_plain-v.ensures.0 ports from args.to _ h e) (c.carry.ensures ports more)
