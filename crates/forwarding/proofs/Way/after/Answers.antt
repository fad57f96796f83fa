-- `forwarding::Way::after` meets its contract, by what became of the frame. Assumes nothing.
use native.Mathlib.Nat.{add-zero}
use Rattle.forwarding.specs.Steps.{way_after}
use Rattle.forwarding.proofs.Way.after.Goals.{in-Stopped, in-Joined, in-Lost}
use Rattle.forwarding.proofs.Way.after.Goals as goal

pub returns : goal.returns
unfolding way_after
returns c = let args = c.args in
    let accepted = add-zero args.self.accepted in
    let lost = add-zero args.self.lost in
    elim c.match-s.branch [
      | in-Stopped w ↦ rw (w.accepted-is, w.lost-is, w.in-Stopped.is, accepted, lost)
      | in-Joined w ↦ rw (w.accepted-is, w.lost-is, w.in-Joined.is, lost)
      | in-Lost w ↦ rw (w.accepted-is, w.lost-is, w.in-Lost.is, accepted)
    ]
