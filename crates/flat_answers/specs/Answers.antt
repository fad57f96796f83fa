-- What an answer is as words and bytes, in the order of include/deorasaeng.h.
-- Assumes nothing.
use Rattle.std.specs.Prelude.{ℕ, ◌-◌, cond, ◌≡◌, List, [], ◌∷◌, ◌++◌, take, replicate, get_or, Option, Some, None}
use Rattle.storage.specs.Bytes.{bytes_of}
use Rattle.queue.specs.declared.Frame.{Frame}
use Rattle.queue.specs.declared.Tally.{Tally}
use Rattle.address_claims.specs.Events.{event_number, old_name}
use Rattle.bridge.specs.Told.{FrameTold}
use Rattle.unit.specs.declared.Unit.{Unit}
use Rattle.unit.specs.Own.{claim_word}

-- ---- a frame
abbrev pub frame_length : ℕ
frame_length = 8

-- consumed (0, 1), accepted ports, lost ports, claim event, old NAME, ports where the unit's own frame was lost, entries compared, reasons
abbrev pub frame_words : FrameTold → List ℕ
frame_words a = cond a.consumed 1 0 ∷ a.accepted ∷ a.lost ∷ event_number a.event ∷ old_name a.event ∷ a.unsent ∷ a.compared ∷ a.reasons ∷ []

-- ---- a take
abbrev pub take_length : ℕ
take_length = 3

abbrev pub bytes_length : ℕ
bytes_length = 8

-- 1 for a frame and 0 for nothing waiting, identifier, length
abbrev pub take_words : Option Frame → List ℕ
take_words (Some f) = 1 ∷ f.id ∷ f.len ∷ []
take_words None = 0 ∷ 0 ∷ 0 ∷ []

-- "the frame's bytes, 0 past its length"
unfoldable pub bytes_of_frame : Frame → List ℕ
bytes_of_frame f = take f.len (bytes_of bytes_length f.bytes) ++ replicate (bytes_length - f.len) 0

-- "untouched when nothing waits"
abbrev pub bytes_of_taken : Option Frame → List ℕ → List ℕ
bytes_of_taken (Some f) bytes = bytes_of_frame f
bytes_of_taken None bytes = bytes

-- the contract of telling a take that is done
pub record Telling (told bytes written : List ℕ) (taken : Option Frame) : Type 0 where
  pub tells : told ≡ take_words taken
  pub writes : written ≡ bytes_of_taken taken bytes

-- ---- the unit
abbrev pub unit_length : ℕ
unit_length = 5

-- claim state (0 Unstarted, 1 Claiming, 2 Claimed, 3 Lost), address (254 for none), preferred address, NAME, number of ports
abbrev pub unit_words : Unit → List ℕ
unit_words own = claim_word own.claim ∷ own.address ∷ own.preferred ∷ own.name ∷ own.ports ∷ []

-- ---- what is counted at a port
abbrev pub counts_length : ℕ
counts_length = 10

-- frames waiting at a priority
abbrev pub waiting_at : Tally → ℕ → ℕ
waiting_at t rank = get_or t.waiting rank 0

-- frames waiting at priority 0 to 7, accepted, taken
abbrev pub counts_words : Tally → List ℕ
counts_words t =
    waiting_at t 0 ∷ waiting_at t 1 ∷ waiting_at t 2 ∷ waiting_at t 3 ∷ waiting_at t 4 ∷ waiting_at t 5 ∷ waiting_at t 6 ∷ waiting_at t 7 ∷ t.accepted ∷ t.taken ∷ []
