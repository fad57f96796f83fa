-- The other way of `Cited` of `made`: of a call that was made, what its function requires gives what it ensures, as the toolchain reads both off the code. So the calls
-- that the demands speak of are those of the functions' contracts, no more and no fewer. Proved as `given` in proofs/Given.antt. Assumes nothing.
use Rattle.std.specs.Prelude.{List, ℕ, Option, Result, ⊤}
use contract.Lifetimes.{Lfts}
use Rattle.std.specs.Borrow.{Bor, MutBor}
use Rattle.checks.specs.declared.refusal.Refusal.{Refusal}
use Rattle.checks.specs.Refusals.{number_in}
use Rattle.queue.specs.declared.Frame.{Frame}
use Rattle.queue.specs.declared.Tally.{Tally}
use Rattle.unit.specs.declared.Unit.{Unit}
use Rattle.message_answers.specs.declared.MessageAnswer.{MessageAnswer}
use Rattle.message_answers.specs.Answers.{message_told}
use Rattle.bridge.specs.declared.FrameAnswer.{FrameAnswer}
use Rattle.bridge.specs.declared.Started.{Started as StartAnswer}
use Rattle.bridge.specs.Told.{frame_told, take_told, start_told, unit_told, counts_told}
use Rattle.unit.proofs.Unit.power_on_ports.Reads as power_on
use Rattle.bridge.proofs.frame.Reads as frame
use Rattle.bridge.proofs.take.Reads as take
use Rattle.bridge.proofs.message.Reads as message
use Rattle.bridge.proofs.start.Reads as start
use Rattle.bridge.proofs.quiet.Reads as quiet
use Rattle.bridge.proofs.unit.Reads as unit
use Rattle.bridge.proofs.counts.Reads as counts
use Rattle.made.specs.Made.{Powered, Arrived, Took, Handed, Started, Quieted, Told, Counted}

pub record Given : Type 0 where
  -- power-on, with a NAME, a preferred address and a count of ports
  pub powered : (κs : Lfts 1) (w w' : MutBor (List ℕ)) (name preferred count : ℕ) (r : Result ⊤ Refusal)
      → Powered w.now name preferred count (number_in r) w'.now
      → power_on.Pre κs (w, (name, (preferred, (count, tt))))
      → power_on.Post κs (w, (name, (preferred, (count, tt)))) r (w', (name, (preferred, (count, tt))))
  -- a frame arrived at a port
  pub arrived : (κs : Lfts 2) (w w' : MutBor (List ℕ)) (b b' : Bor (List ℕ)) (port id : ℕ) (r : Result FrameAnswer Refusal)
      → Arrived w.now port id b.now (frame_told r) w'.now
      → frame.Pre κs (w, (port, (id, (b, tt))))
      → frame.Post κs (w, (port, (id, (b, tt)))) r (w', (port, (id, (b', tt))))
  -- a take was made on a port
  pub took : (κs : Lfts 1) (w w' : MutBor (List ℕ)) (port : ℕ) (r : Result (Option Frame) Refusal)
      → Took w.now port (take_told r) w'.now
      → take.Pre κs (w, (port, tt))
      → take.Post κs (w, (port, tt)) r (w', (port, tt))
  -- a message was handed in, with a reply buffer `lent` that was left as `back`
  pub handed : (κs : Lfts 3) (w w' : MutBor (List ℕ)) (p p' : Bor (List ℕ)) (b b' : MutBor (List ℕ)) (port requester : ℕ) (r : MessageAnswer)
      → Handed w.now port requester p.now b.now (message_told r) w'.now b'.now
      → message.Pre κs (w, (port, (requester, (p, (b, tt)))))
      → message.Post κs (w, (port, (requester, (p, (b, tt))))) r (w', (port, (requester, (p', (b', tt)))))
  -- Start
  pub started : (κs : Lfts 1) (w w' : MutBor (List ℕ)) (r : Result StartAnswer Refusal)
      → Started w.now (start_told r) w'.now
      → start.Pre κs (w, tt)
      → start.Post κs (w, tt) r (w', tt)
  -- Quiet
  pub quieted : (κs : Lfts 1) (w w' : MutBor (List ℕ)) (r : Result ⊤ Refusal)
      → Quieted w.now (number_in r) w'.now
      → quiet.Pre κs (w, tt)
      → quiet.Post κs (w, tt) r (w', tt)
  -- the unit was read: the record is lent to be read alone, so it is left as it was
  pub told : (κs : Lfts 1) (w w' : Bor (List ℕ)) (r : Result Unit Refusal)
      → Told w.now (unit_told r)
      → unit.Pre κs (w, tt)
      → unit.Post κs (w, tt) r (w', tt)
  -- so with the counts of a port
  pub counted : (κs : Lfts 1) (w w' : Bor (List ℕ)) (port : ℕ) (r : Result Tally Refusal)
      → Counted w.now port (counts_told r)
      → counts.Pre κs (w, (port, tt))
      → counts.Post κs (w, (port, tt)) r (w', (port, tt))
