-- The parts that a frame's call is made of, as calls of their own: a frame arrives, one pair is asked, a frame is sent to one port, a claim or request is
-- acted on, the unit's own frame is sent. Each says what it answers and what it does to the model; another product is built on these alone.
-- Assumes nothing.
use Rattle.std.specs.Prelude.{ℕ, ◌+◌, ◌-◌, ◌≤◌, Bool, not, ◌&&◌, cond, ◌≡◌, List, length, eqb, Option, Result}
use Rattle.identifier.specs.Identifier.{pgn_of, sa_of}
use Rattle.delivery.specs.Row.{room}
use Rattle.filter.specs.declared.Asked.{Asked}
use Rattle.sorted_list.specs.SortedList.{most_probes}
use Rattle.name_entries.specs.NameEntries.{most_names}
use Rattle.queue.specs.declared.Frame.{Frame}
use Rattle.queue.specs.Queue.{size}
use Rattle.frame_parts.specs.declared.Arrival.{Arrival}
use Rattle.unit.specs.Count.{ports_of}
use Rattle.unit.specs.Model.{Rest, Model, row_at, with_rest, model_of}
use Rattle.unit.specs.Own.{consumes}
use Rattle.checks.specs.Ports.{no_port}
use Rattle.checks.specs.Refusals.{number_in}
use Rattle.checks.specs.declared.refusal.Refusal.{Refusal}
use Rattle.std.specs.Result.{IfOk}
use Rattle.claims.specs.declared.Acted.{Acted as Done}
use Rattle.refusals.specs.Refusals.{frame_refusal, length_refusal}
use Rattle.forwarding.specs.Forwarding.{verdict}
use Rattle.claims.specs.Claims.{is_claim, Acted, frame_acted}
use Rattle.forwarding.specs.Steps.{joined_from, announced_to, unsent_to}

-- a part that changes the record: refused, or the model is changed
pub record Changing (ports : ℕ) (before after : List ℕ) (refusal : ℕ) (then : Model) : Type 0 where
  pub long : length after ≡ length before
  pub state : model_of ports after ≡ cond (eqb refusal 0) then (model_of ports before)
  pub count : ports_of after ≡ ports_of before
  pub refused : (refusal ≡ 0 → ⊥) → after ≡ before

-- what a part answers: refused with a number, which is 0 for none, or a value
pub record Answering {A : Type 0} (refusal : ℕ) (value : A) (r : Result A Refusal) : Type 0 where
  pub number : number_in r ≡ refusal
  pub given : IfOk r (λ x. x ≡ value)

-- ---- a frame arrives: refused as a whole call would be (1 to 5), or told whether it is for the unit (rule 1) and whether it is a claim
abbrev pub arrived : Rest → Frame → Arrival
arrived rest f = record { frame = f; consumed = consumes rest.own f.id; claim = is_claim f }

-- ---- a frame from one port to another: 1 is either port's, then 2 to 5 as the table has them
unfoldable pub pair_refusal : ℕ → ℕ → ℕ → ℕ → ℕ → ℕ → ℕ
pair_refusal ports lent from to id len = cond (no_port ports to) 1 (frame_refusal ports lent from id len)

-- ---- ask one pair (rule 2): by the identifier alone, which has no length; the arrival port is no target
abbrev pub ask_answer : ℕ → Rest → ℕ → ℕ → ℕ → Asked
ask_answer ports rest from to id = verdict ports rest (from - 1) (pgn_of id) (sa_of id) (to - 1)

pub record PartAsking (ports : ℕ) (words : List ℕ) (from to id : ℕ) (r : Result Asked Refusal) : Type 0 where
  pub answer : Answering (pair_refusal ports (length words) from to id 0) (ask_answer ports (model_of ports words).rest from to id) r
  pub small : IfOk r (λ v. v.compared ≤ most_probes + most_names)

-- ---- send a frame to one port (rule 3), where a loss is counted: the arrival port is no target
abbrev pub join_answer : Model → ℕ → ℕ → Bool
join_answer m from to = not (eqb from to) && room size (row_at m (to - 1))

unfoldable pub joined_model : ℕ → Model → ℕ → ℕ → Frame → Model
joined_model ports m from to f = cond (eqb from to) m (joined_from ports m (from - 1) (to - 1) f)

pub record PartJoining (ports : ℕ) (before after : List ℕ) (from to : ℕ) (f : Frame) (r : Result Bool Refusal) : Type 0 where
  pub answer : Answering (pair_refusal ports (length before) from to f.id f.len) (join_answer (model_of ports before) from to) r
  pub change : Changing ports before after (pair_refusal ports (length before) from to f.id f.len) (joined_model ports (model_of ports before) from to f)

-- ---- act on a claim or request
abbrev pub act_answer : Acted → Done
act_answer a = record { event = a.event; sent = a.sent }

pub record PartActing (ports : ℕ) (before after : List ℕ) (port : ℕ) (consumed : Bool) (f : Frame) (r : Result Done Refusal) : Type 0 where
  pub answer : Answering (frame_refusal ports (length before) port f.id f.len) (act_answer (frame_acted (model_of ports before).rest port consumed f)) r
  pub change : Changing ports before after (frame_refusal ports (length before) port f.id f.len)
      (with_rest (model_of ports before) (frame_acted (model_of ports before).rest port consumed f).rest)

-- ---- send the unit's own frame (rule 3 at every port)
pub record PartAnnouncing (ports : ℕ) (before after : List ℕ) (s : Option Frame) (r : Result ℕ Refusal) : Type 0 where
  pub answer : Answering (length_refusal ports (length before)) (unsent_to ports (model_of ports before) s) r
  pub change : Changing ports before after (length_refusal ports (length before)) (announced_to ports (model_of ports before) s)
