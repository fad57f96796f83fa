-- `message_answers::change` meets its contract, by what the command and its acknowledgment ensure. Assumes nothing.
use mathlib.Core.Path.{refl}
use Rattle.message_answers.specs.Messages.{absent_told}
use Rattle.message_answers.proofs.Replies.{change_told}
use Rattle.message_answers.proofs.change.Goals.{in-Ok, in-Err}
use Rattle.message_answers.proofs.change.Goals as goal

pub returns : goal.returns
unfolding absent_told
returns c = let args = c.args in
    elim c.match-command.branch [
      | in-Ok w ↦ change_told args.requester args.payload.now args.what args.from args.to args.start args.end w.in-Ok.ensures (λ _. refl) (rw w.outcome-is at c.acknowledge.ensures)
      | in-Err w ↦ change_told args.requester args.payload.now args.what args.from args.to args.start args.end w.in-Err.ensures w.denied_by_lists.ensures.told (rw (w.outcome-is, w.denied_by_lists.ensures.number) at c.acknowledge.ensures)
    ]
