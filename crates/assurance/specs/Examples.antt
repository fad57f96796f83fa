-- docs/RULES.md, "Examples": P1 to P11, as one table, proved in proofs/Examples.antt.
use Rattle.bridge.specs.Told.{FrameTold, Took}
use Rattle.std.specs.Prelude.{◌≡◌, List, [], ◌∷◌, ℕ, drop, replicate, None, Some}
use Rattle.delivery.specs.Calls.{answers_of}
use Rattle.queue.specs.declared.Frame.{Frame}
use Rattle.queue.specs.Queue.{idle}
use Rattle.filter.specs.Filter.{Filter, pass, clear}
use Rattle.unit.specs.declared.Claim.TheVariants.{Claimed}
use Rattle.unit.specs.Model.{Model}
use Rattle.message_answers.specs.Messages.{Replied}
use Rattle.bridge.specs.Calls.{Call, FrameIn, TakeOut, frame_answer, messaged}
use Rattle.identifier.specs.Identifier.{priority_of, pgn_of, destination_of}
use Rattle.demand_3.specs.Demand3.{ToTake, next, answer}

-- an empty frame
abbrev pub frame : ℕ → Frame
frame id = record { id = id; len = 0; bytes = 0 }

-- P11's frames, by priority
abbrev pub six₁ : Frame
six₁ = frame 0x18FEF121

abbrev pub six₂ : Frame
six₂ = frame 0x18FEF122

abbrev pub three : Frame
three = frame 0x0CF00400

-- and its calls: they come in at port 1, and three takes are made on port 2
abbrev pub calls : List Call
calls = FrameIn 1 0x18FEF121 [] ∷ FrameIn 1 0x18FEF122 [] ∷ FrameIn 1 0x0CF00400 [] ∷ TakeOut 2 ∷ TakeOut 2 ∷ TakeOut 2 ∷ []

-- "Before P5 the unit is Claimed at an address no example uses, all pairs are cleared and all queues empty"; nothing is lost yet
abbrev pub with : List Filter → Model
with pairs = record {
  rest = record { own = record { claim = Claimed; address = 0x90; preferred = 0x90; name = 1; ports = 4 }; pairs = pairs; table = replicate 254 None };
  queues = replicate 4 idle;
  seen = record { losses = replicate 13 0 };
}

abbrev pub before_p5 : Model
before_p5 = with (replicate 12 clear)

-- after P5 pair 1 to 2 passes PGN 65265 alone
abbrev pub after_p5 : Model
after_p5 = with (record { mode = pass; entries = 65265 ∷ []; named = []; sorted = 65265 ∷ [] } ∷ replicate 11 clear)

-- what a frame from port 1 with no bytes is answered
abbrev pub frame_in : Model → ℕ → FrameTold
frame_in m id = frame_answer 4 1918 m 1 id []

-- "Unless said, the tool is on port 1 with requester 21 and the buffer is long enough"
abbrev pub message : Model → ℕ → List ℕ → Replied
message m port payload = messaged 4 1918 1785 m.rest port 0x21 payload

abbrev pub create : List ℕ
create = 0x06 ∷ 0x12 ∷ 0x01 ∷ 0xF1 ∷ 0xFE ∷ 0x00 ∷ 0xFF ∷ 0xFF ∷ []

abbrev pub ask : List ℕ
ask = 0x00 ∷ 0x12 ∷ 0xFF ∷ 0xFF ∷ 0xFF ∷ 0xFF ∷ 0xFF ∷ 0xFF ∷ []

abbrev pub add : ℕ → ℕ → ℕ → ℕ → List ℕ
add pair a b c = 0x02 ∷ pair ∷ a ∷ b ∷ c ∷ 0xFF ∷ 0xFF ∷ 0xFF ∷ []

pub record Examples : Type 0 where
  -- id 0CF00400: priority 3, PGN 61444
  pub p1 : (priority_of 0x0CF00400 ≡ 3) × (pgn_of 0x0CF00400 ≡ 61444)
  -- id 0CEF2A80: PGN 61184, destination 2A
  pub p2 : (pgn_of 0x0CEF2A80 ≡ 61184) × (destination_of 0x0CEF2A80 ≡ 0x2A)
  -- id 20000000: refused with 3
  pub p3 : (frame_in before_p5 0x20000000).refusal ≡ 3
  -- id 1FFFFFFF: refused with 5
  pub p4 : (frame_in before_p5 0x1FFFFFFF).refusal ≡ 5
  -- 06 12 01 F1 FE 00 FF FF, port 1, requester 21: 00 06 FF FF 21 00 ED 00, and it is done
  pub p5 : ((message before_p5 1 create).number ≡ 0)
      × ((message before_p5 1 create).written before_p5.seen ≡ 0x00 ∷ 0x06 ∷ 0xFF ∷ 0xFF ∷ 0x21 ∷ 0x00 ∷ 0xED ∷ 0x00 ∷ [])
      × ((message before_p5 1 create).pairs ≡ after_p5.rest.pairs)
  -- then 00 12 and six FF: 01 12 01 F1 FE 00 FF FF
  pub p6 : ((message after_p5 1 ask).number ≡ 0) × ((message after_p5 1 ask).written after_p5.seen ≡ 0x01 ∷ 0x12 ∷ 0x01 ∷ 0xF1 ∷ 0xFE ∷ 0x00 ∷ 0xFF ∷ 0xFF ∷ [])
  -- P6 from port 3: 11; 02 00 FF FF 21 00 ED 00
  pub p7 : ((message after_p5 3 ask).number ≡ 11) × ((message after_p5 3 ask).written after_p5.seen ≡ 0x02 ∷ 0x00 ∷ 0xFF ∷ 0xFF ∷ 0x21 ∷ 0x00 ∷ 0xED ∷ 0x00 ∷ [])
  -- 02 11 F1 FE 00 FF FF FF: 10
  pub p8 : (message after_p5 1 (add 0x11 0xF1 0xFE 0x00)).number ≡ 10
  -- 02 12 FF FF FF FF FF FF, after P5: 22, and the first entry is told
  pub p9 : ((message after_p5 1 (add 0x12 0xFF 0xFF 0xFF)).number ≡ 22) × ((message after_p5 1 (add 0x12 0xFF 0xFF 0xFF)).told ≡ record { entry = 1; to = 0; pgn = 0 })
  -- after P5, PGN 61444 from port 1: out of 3 and 4 (bits 2 and 3), compared 1
  pub p10 : ((frame_in after_p5 0x0CF00400).refusal ≡ 0)
      × ((frame_in after_p5 0x0CF00400).accepted ≡ 0b1100)
      × ((frame_in after_p5 0x0CF00400).lost ≡ 0)
      × ((frame_in after_p5 0x0CF00400).compared ≡ 1)
  -- priorities 6, 6, 3 accepted; three takes: 3, first 6, second 6
  pub p11 : drop 3 (answers_of (next 4) (answer 4) before_p5 calls) ≡ ToTake (Took (Some three)) ∷ ToTake (Took (Some six₁)) ∷ ToTake (Took (Some six₂)) ∷ []
