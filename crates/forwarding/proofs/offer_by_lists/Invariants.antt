-- `forwarding::offer_by_lists` meets its contract: the loop over the ports, which passes over the port itself and ends at a pair with NAME entries. Assumes nothing.
use Rattle.std.proofs.Common.{◌≡◌}
use Rattle.forwarding.specs.Steps.{Gone}
use Rattle.forwarding.proofs.offer_by_lists.Given as goal

abbrev pub invariant-loop-to : goal.invariant-loop-to
invariant-loop-to l = Gone l.ports l.initial.words l.words l.from l.pgn l.f l.way × (l.way.to ≡ l.to)
