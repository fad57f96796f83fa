-- Each exported function has the clauses of the function of `deorasaeng` that it stands for, whatever names its source brings in: by computing. Assumes nothing.
use mathlib.Core.Path.{◌≡◌, refl}
use base.Logic.{SProp}
use contract.Monad.{Fun}
use prog.Memory.{Memory}
use prog.Routine.{Routine}
use seplogic.Ra.Ura.{Ura}
use types.Logic.{Logic}
use Rattle.deorasaeng.specs.contracts.deorasaeng_version as version
use Rattle.deorasaeng_c.specs.contracts.deorasaeng_version as exported_version
use Rattle.deorasaeng.specs.contracts.deorasaeng_power_on as power_on
use Rattle.deorasaeng_c.specs.contracts.deorasaeng_power_on as exported_power_on
use Rattle.deorasaeng.specs.contracts.deorasaeng_power_on_ports as power_on_ports
use Rattle.deorasaeng_c.specs.contracts.deorasaeng_power_on_ports as exported_power_on_ports
use Rattle.deorasaeng.specs.contracts.deorasaeng_frame as frame
use Rattle.deorasaeng_c.specs.contracts.deorasaeng_frame as exported_frame
use Rattle.deorasaeng.specs.contracts.deorasaeng_take as take
use Rattle.deorasaeng_c.specs.contracts.deorasaeng_take as exported_take
use Rattle.deorasaeng.specs.contracts.deorasaeng_message as message
use Rattle.deorasaeng_c.specs.contracts.deorasaeng_message as exported_message
use Rattle.deorasaeng.specs.contracts.deorasaeng_start as start
use Rattle.deorasaeng_c.specs.contracts.deorasaeng_start as exported_start
use Rattle.deorasaeng.specs.contracts.deorasaeng_quiet as quiet
use Rattle.deorasaeng_c.specs.contracts.deorasaeng_quiet as exported_quiet
use Rattle.deorasaeng.specs.contracts.deorasaeng_unit as unit
use Rattle.deorasaeng_c.specs.contracts.deorasaeng_unit as exported_unit
use Rattle.deorasaeng.specs.contracts.deorasaeng_counts as counts
use Rattle.deorasaeng_c.specs.contracts.deorasaeng_counts as exported_counts
use Rattle.deorasaeng.specs.contracts.deorasaeng_take_queue as take_queue
use Rattle.deorasaeng_c.specs.contracts.deorasaeng_take_queue as exported_take_queue
use Rattle.deorasaeng.specs.contracts.deorasaeng_plan as plan
use Rattle.deorasaeng_c.specs.contracts.deorasaeng_plan as exported_plan
use Rattle.deorasaeng.specs.contracts.deorasaeng_plan_links as plan_links
use Rattle.deorasaeng_c.specs.contracts.deorasaeng_plan_links as exported_plan_links

pub record Exported {M : Type 1} {𝓤 : Ura M} (𝓛 : Logic 𝓤) (mem : Memory → SProp 𝓤) (run : Routine → Fun 𝓤) : Type 2 where
  pub version_clauses : exported_version.clauses 𝓛 mem run ≡ version.clauses 𝓛 mem run
  pub power_on_clauses : exported_power_on.clauses 𝓛 mem run ≡ power_on.clauses 𝓛 mem run
  pub power_on_ports_clauses : exported_power_on_ports.clauses 𝓛 mem run ≡ power_on_ports.clauses 𝓛 mem run
  pub frame_clauses : exported_frame.clauses 𝓛 mem run ≡ frame.clauses 𝓛 mem run
  pub take_clauses : exported_take.clauses 𝓛 mem run ≡ take.clauses 𝓛 mem run
  pub message_clauses : exported_message.clauses 𝓛 mem run ≡ message.clauses 𝓛 mem run
  pub start_clauses : exported_start.clauses 𝓛 mem run ≡ start.clauses 𝓛 mem run
  pub quiet_clauses : exported_quiet.clauses 𝓛 mem run ≡ quiet.clauses 𝓛 mem run
  pub unit_clauses : exported_unit.clauses 𝓛 mem run ≡ unit.clauses 𝓛 mem run
  pub counts_clauses : exported_counts.clauses 𝓛 mem run ≡ counts.clauses 𝓛 mem run
  pub take_queue_clauses : exported_take_queue.clauses 𝓛 mem run ≡ take_queue.clauses 𝓛 mem run
  pub plan_clauses : exported_plan.clauses 𝓛 mem run ≡ plan.clauses 𝓛 mem run
  pub plan_links_clauses : exported_plan_links.clauses 𝓛 mem run ≡ plan_links.clauses 𝓛 mem run

pub exported : (M : Type 1) (𝓤 : Ura M) (𝓛 : Logic 𝓤) (mem : Memory → SProp 𝓤) (run : Routine → Fun 𝓤) → Exported 𝓛 mem run
exported M 𝓤 𝓛 mem run = record {
  version_clauses = refl;
  power_on_clauses = refl;
  power_on_ports_clauses = refl;
  frame_clauses = refl;
  take_clauses = refl;
  message_clauses = refl;
  start_clauses = refl;
  quiet_clauses = refl;
  unit_clauses = refl;
  counts_clauses = refl;
  take_queue_clauses = refl;
  plan_clauses = refl;
  plan_links_clauses = refl;
}
