-- `forwarding::offer_rest` meets its contract: the loop over the ports that are left, for every record that the way began on. Assumes nothing.
use Rattle.std.proofs.Common.{◌≡◌, ℕ, List}
use Rattle.forwarding.specs.Steps.{Gone}
use Rattle.forwarding.proofs.offer_rest.Given as goal

abbrev pub invariant-loop-to : goal.invariant-loop-to
invariant-loop-to l = ((start : List ℕ) → Gone l.ports start l.initial.words l.from l.pgn l.f l.initial.way → Gone l.ports start l.words l.from l.pgn l.f l.way) × (l.way.to ≡ l.to)
