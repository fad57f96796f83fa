-- The code meets the contracts that are cited: the theorems that the check of `bridge` proved, by name, and by computation. Assumes nothing.
use Rattle.std.specs.Prelude.{refl}
use Rattle.unit.proofs.Unit.power_on_ports.Met as power_on_met
use Rattle.bridge.proofs.frame.Met as frame_met
use Rattle.bridge.proofs.take.Met as take_met
use Rattle.bridge.proofs.message.Met as message_met
use Rattle.bridge.proofs.start.Met as start_met
use Rattle.bridge.proofs.quiet.Met as quiet_met
use Rattle.bridge.proofs.unit.Met as unit_met
use Rattle.bridge.proofs.counts.Met as counts_met
use Rattle.meets.specs.Meets.{EveryMeets, IsCited, EveryClause}

pub meets : EveryMeets
meets M = record {
  powers_on = power_on_met.met;
  frames = frame_met.met;
  takes = take_met.met;
  messages = message_met.met;
  starts = start_met.met;
  quiets = quiet_met.met;
  tells = unit_met.met;
  counted = counts_met.met;
}

pub is_cited : IsCited
is_cited = record {
  power_on_is = λ w u κs name preferred count r. refl;
  frame_is = λ w u κs bytes bytes' port id r. refl;
  take_is = λ w u κs port r. refl;
  message_is = λ w u κs payload payload' reply reply' port requester r. refl;
  start_is = λ w u κs r. refl;
  quiet_is = λ w u κs r. refl;
  unit_is = λ w u κs r. refl;
  counts_is = λ w u κs port r. refl;
}

pub clauses : EveryClause
clauses M 𝓤 𝓛 mem run = record {
  power_on_clause = λ w u κs name preferred count r. refl;
  frame_clause = λ w u κs bytes bytes' port id r. refl;
  take_clause = λ w u κs port r. refl;
  message_clause = λ w u κs payload payload' reply reply' port requester r. refl;
  start_clause = λ w u κs r. refl;
  quiet_clause = λ w u κs r. refl;
  unit_clause = λ w u κs r. refl;
  counts_clause = λ w u κs port r. refl;
}
