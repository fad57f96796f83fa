-- Every call that was made was answered with a result of its function: what it was told is what is told of that result, and of that result the function's contract
-- holds, as the toolchain reads it off the code. `Given` says that of each result that is told so; this says that there is one, so that no call is told anything that
-- no function tells. That it is the only one is `Fixed`. Proved as `answered` in proofs/Answered.antt. Assumes nothing.
use Rattle.std.specs.Prelude.{List, ℕ, ◌≡◌}
use contract.Lifetimes.{Lfts}
use Rattle.std.specs.Borrow.{Bor, MutBor}
use Rattle.checks.specs.Refusals.{number_in}
use Rattle.message_answers.specs.Messages.{MessageTold}
use Rattle.message_answers.specs.Answers.{message_told}
use Rattle.bridge.specs.Told.{FrameTold, frame_told, TakeTold, take_told, StartTold, start_told, UnitTold, unit_told, CountsTold, counts_told}
use Rattle.unit.proofs.Unit.power_on_ports.Reads as power_on
use Rattle.bridge.proofs.frame.Reads as frame
use Rattle.bridge.proofs.take.Reads as take
use Rattle.bridge.proofs.message.Reads as message
use Rattle.bridge.proofs.start.Reads as start
use Rattle.bridge.proofs.quiet.Reads as quiet
use Rattle.bridge.proofs.unit.Reads as unit
use Rattle.bridge.proofs.counts.Reads as counts
use Rattle.made.specs.Made.{Powered, Arrived, Took, Handed, Started, Quieted, Told, Counted}

-- there is a result that this is told of, and it has what a contract says of it
pub record Of {R T : Type 0} (told : R → T) (t : T) (Holds : R → Type 0) : Type 0 where
  pub result : R
  pub is : t ≡ told result
  pub holds : Holds result

pub record Answered : Type 0 where
  -- power-on, with a NAME, a preferred address and a count of ports
  pub powered : (κs : Lfts 1) (w w' : MutBor (List ℕ)) (name preferred count t : ℕ)
      → Powered w.now name preferred count t w'.now
      → power_on.Pre κs (w, (name, (preferred, (count, tt))))
      → Of number_in t (λ r. power_on.Post κs (w, (name, (preferred, (count, tt)))) r (w', (name, (preferred, (count, tt)))))
  -- a frame arrived at a port
  pub arrived : (κs : Lfts 2) (w w' : MutBor (List ℕ)) (b b' : Bor (List ℕ)) (port id : ℕ) (t : FrameTold)
      → Arrived w.now port id b.now t w'.now
      → frame.Pre κs (w, (port, (id, (b, tt))))
      → Of frame_told t (λ r. frame.Post κs (w, (port, (id, (b, tt)))) r (w', (port, (id, (b', tt)))))
  -- a take was made on a port
  pub took : (κs : Lfts 1) (w w' : MutBor (List ℕ)) (port : ℕ) (t : TakeTold)
      → Took w.now port t w'.now
      → take.Pre κs (w, (port, tt))
      → Of take_told t (λ r. take.Post κs (w, (port, tt)) r (w', (port, tt)))
  -- a message was handed in, with a reply buffer `lent` that was left as `back`
  pub handed : (κs : Lfts 3) (w w' : MutBor (List ℕ)) (p p' : Bor (List ℕ)) (b b' : MutBor (List ℕ)) (port requester : ℕ) (t : MessageTold)
      → Handed w.now port requester p.now b.now t w'.now b'.now
      → message.Pre κs (w, (port, (requester, (p, (b, tt)))))
      → Of message_told t (λ r. message.Post κs (w, (port, (requester, (p, (b, tt))))) r (w', (port, (requester, (p', (b', tt))))))
  -- Start
  pub started : (κs : Lfts 1) (w w' : MutBor (List ℕ)) (t : StartTold)
      → Started w.now t w'.now
      → start.Pre κs (w, tt)
      → Of start_told t (λ r. start.Post κs (w, tt) r (w', tt))
  -- Quiet
  pub quieted : (κs : Lfts 1) (w w' : MutBor (List ℕ)) (t : ℕ)
      → Quieted w.now t w'.now
      → quiet.Pre κs (w, tt)
      → Of number_in t (λ r. quiet.Post κs (w, tt) r (w', tt))
  -- the unit was read: the record is lent to be read alone, so it is left as it was
  pub told : (κs : Lfts 1) (w w' : Bor (List ℕ)) (t : UnitTold)
      → Told w.now t
      → unit.Pre κs (w, tt)
      → Of unit_told t (λ r. unit.Post κs (w, tt) r (w', tt))
  -- so with the counts of a port
  pub counted : (κs : Lfts 1) (w w' : Bor (List ℕ)) (port : ℕ) (t : CountsTold)
      → Counted w.now port t
      → counts.Pre κs (w, (port, tt))
      → Of counts_told t (λ r. counts.Post κs (w, (port, tt)) r (w', (port, tt)))
