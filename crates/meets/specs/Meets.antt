-- The functions whose contracts `made` cites meet them, and what is cited there as `Post` is the contract that the code states. Proved as `meets`,
-- `is_cited` and `clauses` in proofs/Meets.antt. Assumes nothing.
use Rattle.std.specs.Prelude.{◌≡◌, ℕ, List, Option, Result, ⊤}
use contract.Lifetimes.{Lfts}
use Rattle.std.specs.Borrow.{Bor, MutBor}
use contract.Notation as N
use contract.Monad.{Fun}
use base.Logic.{SProp}
use prog.Memory.{Memory}
use prog.Routine.{Routine}
use types.Logic.{Logic}
use seplogic.Ra.Ura.{Ura}
use Rattle.checks.specs.declared.refusal.Refusal.{Refusal}
use Rattle.checks.specs.Refusals.{number_in}
use Rattle.queue.specs.declared.Frame.{Frame}
use Rattle.queue.specs.declared.Tally.{Tally}
use Rattle.unit.specs.declared.Unit.{Unit}
use Rattle.message_answers.specs.declared.MessageAnswer.{MessageAnswer}
use Rattle.message_answers.specs.Answers.{message_told}
use Rattle.bridge.specs.declared.FrameAnswer.{FrameAnswer}
use Rattle.bridge.specs.declared.Started.{Started as StartAnswer}
use Rattle.bridge.specs.Told.{frame_told, take_told, start_told, unit_told, counts_told}
use Rattle.unit.specs.Count.{ports_of}
use Rattle.unit.specs.PowerOn.{PoweringOn}
use Rattle.bridge.specs.Calls.{Framing, TakingOut, Messaging, Starting, Quieting, Reading, Counting}
use Rattle.unit.proofs.Unit.power_on_ports.Statement as power_on
use Rattle.unit.proofs.Unit.power_on_ports.Reads as power_on_reads
use Rattle.unit.specs.contracts.Unit.power_on_ports as power_on_contract
use Rattle.bridge.proofs.frame.Statement as frame
use Rattle.bridge.proofs.frame.Reads as frame_reads
use Rattle.bridge.specs.contracts.frame as frame_contract
use Rattle.bridge.proofs.take.Statement as take
use Rattle.bridge.proofs.take.Reads as take_reads
use Rattle.bridge.specs.contracts.take as take_contract
use Rattle.bridge.proofs.message.Statement as message
use Rattle.bridge.proofs.message.Reads as message_reads
use Rattle.bridge.specs.contracts.message as message_contract
use Rattle.bridge.proofs.start.Statement as start
use Rattle.bridge.proofs.start.Reads as start_reads
use Rattle.bridge.specs.contracts.start as start_contract
use Rattle.bridge.proofs.quiet.Statement as quiet
use Rattle.bridge.proofs.quiet.Reads as quiet_reads
use Rattle.bridge.specs.contracts.quiet as quiet_contract
use Rattle.bridge.proofs.unit.Statement as unit
use Rattle.bridge.proofs.unit.Reads as unit_reads
use Rattle.bridge.specs.contracts.unit as unit_contract
use Rattle.bridge.proofs.counts.Statement as counts
use Rattle.bridge.proofs.counts.Reads as counts_reads
use Rattle.bridge.specs.contracts.counts as counts_contract

-- ---- the code meets its contracts
pub record Meets (M : Type 1) : Type 2 where
  pub powers_on : power_on.statement M
  pub frames : frame.statement M
  pub takes : take.statement M
  pub messages : message.statement M
  pub starts : start.statement M
  pub quiets : quiet.statement M
  pub tells : unit.statement M
  pub counted : counts.statement M

abbrev pub EveryMeets : Type 2
EveryMeets = (M : Type 1) → Meets M

-- ---- what is cited is the contract
pub record IsCited : Type 1 where
  pub power_on_is : (w u : MutBor (List ℕ)) (κs : Lfts 1) (name preferred count : ℕ) (r : Result ⊤ Refusal)
      → ◌≡◌ {A = Type 0} (power_on_reads.Post κs (w, (name, (preferred, (count, tt)))) r (u, (name, (preferred, (count, tt))))) (PoweringOn count w.now u.now name preferred (number_in r))
  pub frame_is : (w u : MutBor (List ℕ)) (κs : Lfts 2) (bytes bytes' : Bor (List ℕ)) (port id : ℕ) (r : Result FrameAnswer Refusal)
      → ◌≡◌ {A = Type 0} (frame_reads.Post κs (w, (port, (id, (bytes, tt)))) r (u, (port, (id, (bytes', tt))))) (Framing (ports_of w.now) w.now u.now port id bytes.now (frame_told r))
  pub take_is : (w u : MutBor (List ℕ)) (κs : Lfts 1) (port : ℕ) (r : Result (Option Frame) Refusal)
      → ◌≡◌ {A = Type 0} (take_reads.Post κs (w, (port, tt)) r (u, (port, tt))) (TakingOut (ports_of w.now) w.now u.now port (take_told r))
  pub message_is : (w u : MutBor (List ℕ)) (κs : Lfts 3) (payload payload' : Bor (List ℕ)) (reply reply' : MutBor (List ℕ)) (port requester : ℕ) (r : MessageAnswer)
      → ◌≡◌ {A = Type 0}
      (message_reads.Post κs (w, (port, (requester, (payload, (reply, tt))))) r (u, (port, (requester, (payload', (reply', tt))))))
      (Messaging (ports_of w.now) w.now u.now port requester payload.now reply.now reply'.now (message_told r))
  pub start_is : (w u : MutBor (List ℕ)) (κs : Lfts 1) (r : Result StartAnswer Refusal) → ◌≡◌ {A = Type 0} (start_reads.Post κs (w, tt) r (u, tt)) (Starting (ports_of w.now) w.now u.now (start_told r))
  pub quiet_is : (w u : MutBor (List ℕ)) (κs : Lfts 1) (r : Result ⊤ Refusal) → ◌≡◌ {A = Type 0} (quiet_reads.Post κs (w, tt) r (u, tt)) (Quieting (ports_of w.now) w.now u.now (number_in r))
  pub unit_is : (w u : Bor (List ℕ)) (κs : Lfts 1) (r : Result Unit Refusal) → ◌≡◌ {A = Type 0} (unit_reads.Post κs (w, tt) r (u, tt)) (Reading (ports_of w.now) w.now (unit_told r))
  pub counts_is : (w u : Bor (List ℕ)) (κs : Lfts 1) (port : ℕ) (r : Result Tally Refusal) → ◌≡◌ {A = Type 0} (counts_reads.Post κs (w, (port, tt)) r (u, (port, tt))) (Counting (ports_of w.now) w.now port (counts_told r))

-- and so is the clause inside each theorem of `Meets`
pub record Clauses {M : Type 1} {𝓤 : Ura M} (𝓛 : Logic 𝓤) (mem : Memory → SProp 𝓤) (run : Routine → Fun 𝓤) : Type 2 where
  pub power_on_clause : (w u : MutBor (List ℕ)) (κs : Lfts 1) (name preferred count : ℕ) (r : Result ⊤ Refusal)
      → power_on_contract.ensures-1 𝓛 κs mem run w name preferred count (record { entry = w; exit = u }) (record { entry = name; exit = name }) (record { entry = preferred; exit = preferred }) (record { entry = count; exit = count }) r
      ≡ (N.connectives 𝓤).⌜◌⌝ (PoweringOn count w.now u.now name preferred (number_in r))
  pub frame_clause : (w u : MutBor (List ℕ)) (κs : Lfts 2) (bytes bytes' : Bor (List ℕ)) (port id : ℕ) (r : Result FrameAnswer Refusal)
      → frame_contract.ensures-1 𝓛 κs mem run w port id bytes (record { entry = w; exit = u }) (record { entry = port; exit = port }) (record { entry = id; exit = id }) (record { entry = bytes; exit = bytes' }) r
      ≡ (N.connectives 𝓤).⌜◌⌝ (Framing (ports_of w.now) w.now u.now port id bytes.now (frame_told r))
  pub take_clause : (w u : MutBor (List ℕ)) (κs : Lfts 1) (port : ℕ) (r : Result (Option Frame) Refusal)
      → take_contract.ensures-1 𝓛 κs mem run w port (record { entry = w; exit = u }) (record { entry = port; exit = port }) r ≡ (N.connectives 𝓤).⌜◌⌝ (TakingOut (ports_of w.now) w.now u.now port (take_told r))
  pub message_clause : (w u : MutBor (List ℕ)) (κs : Lfts 3) (payload payload' : Bor (List ℕ)) (reply reply' : MutBor (List ℕ)) (port requester : ℕ) (r : MessageAnswer)
      → message_contract.ensures-1 𝓛 κs mem run w port requester payload reply (record { entry = w; exit = u }) (record { entry = port; exit = port }) (record { entry = requester; exit = requester }) (record { entry = payload; exit = payload' }) (record { entry = reply; exit = reply' }) r
      ≡ (N.connectives 𝓤).⌜◌⌝ (Messaging (ports_of w.now) w.now u.now port requester payload.now reply.now reply'.now (message_told r))
  pub start_clause : (w u : MutBor (List ℕ)) (κs : Lfts 1) (r : Result StartAnswer Refusal)
      → start_contract.ensures-1 𝓛 κs mem run w (record { entry = w; exit = u }) r ≡ (N.connectives 𝓤).⌜◌⌝ (Starting (ports_of w.now) w.now u.now (start_told r))
  pub quiet_clause : (w u : MutBor (List ℕ)) (κs : Lfts 1) (r : Result ⊤ Refusal)
      → quiet_contract.ensures-1 𝓛 κs mem run w (record { entry = w; exit = u }) r ≡ (N.connectives 𝓤).⌜◌⌝ (Quieting (ports_of w.now) w.now u.now (number_in r))
  pub unit_clause : (w u : Bor (List ℕ)) (κs : Lfts 1) (r : Result Unit Refusal)
      → unit_contract.ensures-1 𝓛 κs mem run w (record { entry = w; exit = u }) r ≡ (N.connectives 𝓤).⌜◌⌝ (Reading (ports_of w.now) w.now (unit_told r))
  pub counts_clause : (w u : Bor (List ℕ)) (κs : Lfts 1) (port : ℕ) (r : Result Tally Refusal)
      → counts_contract.ensures-1 𝓛 κs mem run w port (record { entry = w; exit = u }) (record { entry = port; exit = port }) r ≡ (N.connectives 𝓤).⌜◌⌝ (Counting (ports_of w.now) w.now port (counts_told r))

abbrev pub EveryClause : Type 2
EveryClause = (M : Type 1) (𝓤 : Ura M) (𝓛 : Logic 𝓤) (mem : Memory → SProp 𝓤) (run : Routine → Fun 𝓤) → Clauses 𝓛 mem run
