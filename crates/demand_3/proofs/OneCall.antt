-- One call, by its contract, follows the book. Assumes nothing.
use mathlib.Core.Path.{◌≡◌, refl, ap, ◌∙◌}
use mathlib.Core.List.{List, ◌++◌}
use Prim.Native.Nat.{ℕ}
use lib.ListN.{length, take, drop}
use lib.Seq.{take_at}
use Rattle.delivery.specs.Calls.{Step, Simulates}
use Rattle.unit.specs.Count.{ports_of}
use Rattle.unit.specs.Model.{Seen, model_of}
use Rattle.message_answers.specs.Messages.{Replied, MessageTold}
use Rattle.bridge.specs.Calls.{messaged}
use Rattle.bridge.specs.Calls.{Call}
use Rattle.message_answers.specs.Messages.{message_answer}
use Rattle.made.proofs.Made.{framing, taking, messaging, starting, quieting, reading, counting}
use Rattle.demand_3.specs.Demand3.{Answer, ToFrame, ToTake, ToMessage, ToStart, ToQuiet, ToUnit, ToCounts, Made, frame_made, take_made, message_made, start_made, quiet_made, unit_made, counts_made, words, next, answer}

module _ (ports : ℕ) where
  -- what every call keeps: the number of ports, and the record's length
  abbrev pub Good : List ℕ → Type 0
  Good w = (length w ≡ words ports) × (ports_of w ≡ ports)

  -- the reply is what was written
  replied : (reply : Replied) (seen : Seen) (r : MessageTold) (lent back : List ℕ) → r ≡ message_answer reply seen
      → back ≡ reply.written seen ++ drop (length (reply.written seen)) lent
      → ToMessage r (take r.length back) ≡ ToMessage (message_answer reply seen) (reply.written seen)
  replied reply seen r lent back e b =
      rw (e, b, take_at (reply.written seen) (drop (length (reply.written seen)) lent) (length (reply.written seen)) refl)

  one_call : {u v : List ℕ} {k : Call} {x : Answer} → Good u → (made : Made u k x v) → Step Made Good (model_of ports) (next ports) (answer ports) made
  unfolding answer
  one_call g (frame_made h) =
      let l = rw g.1 at (framing h) in record { good = (l.call.long ∙ g.0, l.call.count ∙ g.1); said = ap ToFrame (rw g.0 at l.answer); moved = rw g.0 at l.call.state }
  one_call g (take_made h) =
      let l = rw g.1 at (taking h) in record { good = (l.call.long ∙ g.0, l.call.count ∙ g.1); said = ap ToTake (rw g.0 at l.answer); moved = rw g.0 at l.call.state }
  one_call {u = u} g (message_made {payload = payload} {lent = lent} {back = back} {port = port} {requester = requester} {r = r} h) =
      let l = rw g.1 at (messaging h) in
      let done = messaged ports (words ports) (length lent) (model_of ports u).rest port requester payload in
      record { good = (l.call.long ∙ g.0, l.call.count ∙ g.1); said = replied done (model_of ports u).seen r lent back (rw g.0 at l.answer) (rw g.0 at l.written); moved = rw g.0 at l.call.state }
  one_call g (start_made h) =
      let l = rw g.1 at (starting h) in record { good = (l.call.long ∙ g.0, l.call.count ∙ g.1); said = ap ToStart (rw g.0 at l.answer); moved = rw g.0 at l.call.state }
  one_call g (quiet_made h) =
      let l = rw g.1 at (quieting h) in record { good = (l.call.long ∙ g.0, l.call.count ∙ g.1); said = ap ToQuiet (rw g.0 at l.answer); moved = rw g.0 at l.call.state }
  one_call g (unit_made h) =
      let l = rw g.1 at (reading h) in record { good = g; said = ap ToUnit (rw g.0 at l.answer); moved = rw g.0 at l.call.state }
  one_call g (counts_made h) =
      let l = rw g.1 at (counting h) in record { good = g; said = ap ToCounts (rw g.0 at l.answer); moved = rw g.0 at l.call.state }

  pub simulates : Simulates Made Good (model_of ports) (next ports) (answer ports)
  simulates = record { step = one_call }
