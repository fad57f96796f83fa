-- A call of an exported function that was made, by the contract of the function alone, `Pre → Post`, as Made.antt of the crate `made` has it for the bridge's. `answer`
-- and `told` are the lent words of the answer before and after, `bytes` and `written` those of a taken frame, `reply` and `back` those of the reply buffer.
use Rattle.std.specs.Prelude.{◌≡◌, true, List, ◌++◌, ℕ, ◌+◌, take, drop}
use contract.Lifetimes.{Lfts}
use Rattle.std.specs.Borrow.{Bor, MutBor}
use Rattle.checks.specs.Ports.{is_port}
use Rattle.unit.specs.Count.{ports_of}
use Rattle.queue.specs.Queue.{block_length}
use Rattle.bridge.specs.Calls.{queue_at}
use Rattle.deorasaeng.specs.Interface.{QueueCall}
use Rattle.deorasaeng.proofs.deorasaeng_power_on_ports.Reads as power_on
use Rattle.deorasaeng.proofs.deorasaeng_power_on.Reads as power_on_four
use Rattle.deorasaeng.proofs.deorasaeng_frame.Reads as frame
use Rattle.deorasaeng.proofs.deorasaeng_take.Reads as take_out
use Rattle.deorasaeng.proofs.deorasaeng_message.Reads as message
use Rattle.deorasaeng.proofs.deorasaeng_start.Reads as start
use Rattle.deorasaeng.proofs.deorasaeng_quiet.Reads as quiet
use Rattle.deorasaeng.proofs.deorasaeng_unit.Reads as unit
use Rattle.deorasaeng.proofs.deorasaeng_counts.Reads as counts

-- deorasaeng_power_on_ports
pub data Powered : (words : List ℕ) (name preferred count r : ℕ) (after : List ℕ) → Type 0 where
  powered : (κs : Lfts 1) (w w' : MutBor (List ℕ)) (name preferred count r : ℕ)
      → (power_on.Pre κs (w, (name, (preferred, (count, tt)))) → power_on.Post κs (w, (name, (preferred, (count, tt)))) r (w', (name, (preferred, (count, tt)))))
      → Powered w.now name preferred count r w'.now

-- deorasaeng_power_on, with four ports
pub data PoweredFour : (words : List ℕ) (name preferred r : ℕ) (after : List ℕ) → Type 0 where
  powered_four : (κs : Lfts 1) (w w' : MutBor (List ℕ)) (name preferred r : ℕ)
      → (power_on_four.Pre κs (w, (name, (preferred, tt))) → power_on_four.Post κs (w, (name, (preferred, tt))) r (w', (name, (preferred, tt))))
      → PoweredFour w.now name preferred r w'.now

-- deorasaeng_frame
pub data Arrived : (words : List ℕ) (port id : ℕ) (bytes answer : List ℕ) (r : ℕ) (after told : List ℕ) → Type 0 where
  arrived : (κs : Lfts 3) (w w' : MutBor (List ℕ)) (b b' : Bor (List ℕ)) (a a' : MutBor (List ℕ)) (port id r : ℕ)
      → (frame.Pre κs (w, (port, (id, (b, (a, tt))))) → frame.Post κs (w, (port, (id, (b, (a, tt))))) r (w', (port, (id, (b', (a', tt))))))
      → Arrived w.now port id b.now a.now r w'.now a'.now

-- deorasaeng_take
pub data Took : (words : List ℕ) (port : ℕ) (answer bytes : List ℕ) (r : ℕ) (after told written : List ℕ) → Type 0 where
  took : (κs : Lfts 3) (w w' a a' b b' : MutBor (List ℕ)) (port r : ℕ)
      → (take_out.Pre κs (w, (port, (a, (b, tt)))) → take_out.Post κs (w, (port, (a, (b, tt)))) r (w', (port, (a', (b', tt)))))
      → Took w.now port a.now b.now r w'.now a'.now b'.now

-- deorasaeng_message
pub data Handed : (words : List ℕ) (port requester : ℕ) (payload reply answer : List ℕ) (r : ℕ) (after back told : List ℕ) → Type 0 where
  handed : (κs : Lfts 4) (w w' : MutBor (List ℕ)) (p p' : Bor (List ℕ)) (b b' a a' : MutBor (List ℕ)) (port requester r : ℕ)
      → (message.Pre κs (w, (port, (requester, (p, (b, (a, tt))))))
      → message.Post κs (w, (port, (requester, (p, (b, (a, tt)))))) r (w', (port, (requester, (p', (b', (a', tt)))))))
      → Handed w.now port requester p.now b.now a.now r w'.now b'.now a'.now

-- deorasaeng_start
pub data Started : (words answer : List ℕ) (r : ℕ) (after told : List ℕ) → Type 0 where
  started : (κs : Lfts 2) (w w' a a' : MutBor (List ℕ)) (r : ℕ)
      → (start.Pre κs (w, (a, tt)) → start.Post κs (w, (a, tt)) r (w', (a', tt)))
      → Started w.now a.now r w'.now a'.now

-- deorasaeng_quiet
pub data Quieted : (words : List ℕ) (r : ℕ) (after : List ℕ) → Type 0 where
  quieted : (κs : Lfts 1) (w w' : MutBor (List ℕ)) (r : ℕ)
      → (quiet.Pre κs (w, tt) → quiet.Post κs (w, tt) r (w', tt))
      → Quieted w.now r w'.now

-- deorasaeng_unit: the record is lent to be read alone
pub data ToldUnit : (words answer : List ℕ) (r : ℕ) (told : List ℕ) → Type 0 where
  told_unit : (κs : Lfts 2) (w w' : Bor (List ℕ)) (a a' : MutBor (List ℕ)) (r : ℕ)
      → (unit.Pre κs (w, (a, tt)) → unit.Post κs (w, (a, tt)) r (w', (a', tt)))
      → ToldUnit w.now a.now r a'.now

-- deorasaeng_counts: so it is here
pub data ToldCounts : (words : List ℕ) (port : ℕ) (answer : List ℕ) (r : ℕ) (told : List ℕ) → Type 0 where
  told_counts : (κs : Lfts 2) (w w' : Bor (List ℕ)) (a a' : MutBor (List ℕ)) (port r : ℕ)
      → (counts.Pre κs (w, (port, (a, tt))) → counts.Post κs (w, (port, (a, tt))) r (w', (port, (a', tt))))
      → ToldCounts w.now port a.now r a'.now

-- deorasaeng_take_queue on the queue of a port that there is, where it lies in the record: that block was lent and came back, and no other word was. Its contract
-- is `QueueCall`, the clause of the code (`queue_clause` of Clauses.antt).
abbrev pub block_of : List ℕ → ℕ → List ℕ
block_of words port = take block_length (drop (queue_at port) words)

abbrev pub with_block : List ℕ → ℕ → List ℕ → List ℕ
with_block words port block = take (queue_at port) words ++ (block ++ drop block_length (drop (queue_at port) words))

pub data TookQueue : (words : List ℕ) (port : ℕ) (answer bytes : List ℕ) (r : ℕ) (after told written : List ℕ) → Type 0 where
  took_queue : (κs : Lfts 1) (w w' : Bor (List ℕ)) (port : ℕ) (answer bytes : List ℕ) (r : ℕ) (block told written : List ℕ)
      → is_port (ports_of w.now) port ≡ true
      → QueueCall (block_of w.now port) block answer told bytes written r
      → w'.now ≡ with_block w.now port block
      → TookQueue w.now port answer bytes r w'.now told written
