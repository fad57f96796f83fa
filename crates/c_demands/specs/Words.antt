-- The words of the answers in their literals, word by word in the order of include/deorasaeng.h. They share nothing with the code's own definitions (Answers.antt of
-- `flat_answers`), so that two words exchanged, or one cut, in code and definition together is refused. Assumes nothing.
use Rattle.message_answers.specs.Messages.{MessageTold}
use Rattle.bridge.specs.Told.{FrameTold, StartTold}
use Rattle.std.specs.Prelude.{ℕ, cond, List, [], ◌∷◌, eqb, get_or}
use Rattle.address_claims.specs.declared.Event.{Event}
use Rattle.address_claims.specs.declared.Event.TheVariants.{Nothing, Withdrew, Defended, Displaced, Recorded, Refreshed, TookOver, Beaten}
use Rattle.queue.specs.declared.Tally.{Tally}
use Rattle.unit.specs.declared.Claim.{Claim}
use Rattle.unit.specs.declared.Claim.TheVariants.{Unstarted, Claiming, Claimed, Lost}
use Rattle.unit.specs.declared.Unit.{Unit}

-- none, Withdrew, Defended, Displaced, Recorded, Refreshed, TookOver, Beaten
abbrev pub event_word : Event → ℕ
event_word Nothing = 0
event_word Withdrew = 1
event_word Defended = 2
event_word Displaced = 3
event_word Recorded = 4
event_word Refreshed = 5
event_word (TookOver old) = 6
event_word Beaten = 7

-- "the NAME that was taken over from, 0 unless TookOver"
abbrev pub old_name_word : Event → ℕ
old_name_word Nothing = 0
old_name_word Withdrew = 0
old_name_word Defended = 0
old_name_word Displaced = 0
old_name_word Recorded = 0
old_name_word Refreshed = 0
old_name_word (TookOver old) = old
old_name_word Beaten = 0

abbrev pub state_word : Claim → ℕ
state_word Unstarted = 0
state_word Claiming = 1
state_word Claimed = 2
state_word Lost = 3

-- consumed, accepted, lost, event, old NAME, own frame lost, compared, reasons
abbrev pub words_of_frame : FrameTold → List ℕ
words_of_frame a = cond a.consumed 1 0 ∷ a.accepted ∷ a.lost ∷ event_word a.event ∷ old_name_word a.event ∷ a.unsent ∷ a.compared ∷ a.reasons ∷ []

-- PGN, length, and which entry was wrong: its number, the To port, the PGN
abbrev pub words_of : MessageTold → List ℕ
words_of r = r.pgn ∷ r.length ∷ r.told.entry ∷ r.told.to ∷ r.told.pgn ∷ []

-- own frame lost, state
abbrev pub words_of_start : StartTold → List ℕ
words_of_start a = a.unsent ∷ state_word a.claim ∷ []

-- state, address, preferred address, NAME, ports
abbrev pub words_of_unit : Unit → List ℕ
words_of_unit own = state_word own.claim ∷ own.address ∷ own.preferred ∷ own.name ∷ own.ports ∷ []

-- waiting at priority 0 to 7, accepted, taken
abbrev pub words_of_counts : Tally → List ℕ
words_of_counts t =
    get_or t.waiting 0 0
    ∷ get_or t.waiting 1 0
    ∷ get_or t.waiting 2 0
    ∷ get_or t.waiting 3 0
    ∷ get_or t.waiting 4 0
    ∷ get_or t.waiting 5 0
    ∷ get_or t.waiting 6 0
    ∷ get_or t.waiting 7 0
    ∷ t.accepted
    ∷ t.taken
    ∷ []

-- "On a refusal it is left as it was."
abbrev pub unless_refused : ℕ → List ℕ → List ℕ → List ℕ
unless_refused number words answer = cond (eqb number 0) words answer
