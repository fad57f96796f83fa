-- The contracts of the steps inside a frame's call. Only private functions cite these.
-- Assumes nothing.
use Rattle.std.specs.Prelude.{ℕ, ◌-◌, Bool, true, false, ◌≡◌, List}
use Rattle.identifier.specs.Identifier.{pgn_of, sa_of}
use Rattle.queue.specs.declared.Frame.{Frame}
use Rattle.queue.specs.Queue.{sent_all}
use Rattle.unit.specs.Ports.{each}
use Rattle.unit.specs.Model.{Model, with_rest, model_of}
use Rattle.forwarding.specs.declared.Share.{Share}
use Rattle.forwarding.specs.Forwarding.{verdict}
use Rattle.forwarding.specs.Steps.{Forwarding, announced_to, unsent_to}
use Rattle.claims.specs.Claims.{Acted}
use Rattle.bridge.specs.Told.{FrameTold}
use Rattle.bridge.specs.declared.Response.{Response}
use Rattle.bridge.specs.Calls.{frame_done, frame_sends, frame_losses, frame_passed}

-- a frame for others was forwarded, one for the unit was not
pub record Sharing (ports : ℕ) (before after : List ℕ) (port : ℕ) (consumed : Bool) (f : Frame) (r : Share) : Type 0 where
  pub kept : consumed ≡ true → (after ≡ before) × (r ≡ record { accepted = 0; lost = 0; reasons = 0; compared = 0 })
  pub sent : consumed ≡ false → Forwarding ports before after (port - 1) (verdict ports (model_of ports before).rest (port - 1) (pgn_of f.id) (sa_of f.id)) f r

-- the event, and the ports where the unit's own frame was lost
pub record Responding (ports : ℕ) (before after : List ℕ) (a : Acted) (r : Response) : Type 0 where
  pub event : r.event ≡ a.event
  pub unsent : r.unsent ≡ unsent_to ports (model_of ports before) a.sent
  pub state : model_of ports after ≡ announced_to ports (with_rest (model_of ports before) a.rest) a.sent

-- a frame that is not refused
abbrev pub framed : ℕ → Model → ℕ → Frame → Model
framed ports m port f = record {
  rest = (frame_done m.rest port f).rest;
  queues = each (λ q x. sent_all x (frame_sends ports m.rest port f q)) ports m.queues;
  seen = record { losses = frame_losses ports m port f };
}

pub record Passing (ports : ℕ) (before after : List ℕ) (port : ℕ) (f : Frame) (r : FrameTold) : Type 0 where
  pub answer : r ≡ frame_passed ports (model_of ports before) port f
  pub state : model_of ports after ≡ framed ports (model_of ports before) port f
