-- docs/RULES.md, "Forwarding", rules 2, 3 and 5, at each port by itself; and what is counted of the frames that are lost there.
-- Assumes nothing.
use Rattle.std.specs.Prelude.{ℕ, Bool, false, not, ◌&&◌, cond, List, [], ◌∷◌, get_or, set, eqb, None, Option, Some}
use Rattle.delivery.specs.Row.{room}
use Rattle.filter.specs.declared.Reason.{Reason}
use Rattle.filter.specs.declared.Asked.{Asked}
use Rattle.filter.specs.Filter.{clear, crosses, asked}
use Rattle.queue.specs.declared.Frame.{Frame}
use Rattle.queue.specs.Queue.{size}
use Rattle.losses.specs.Losses.{one_more}
use Rattle.unit.specs.Model.{Rest, pair_at, general_at}
use Rattle.addresses.specs.Table.{name_at}

-- ---- rule 2, and what rule 5 counts: what is answered for port q
-- where no pair is asked: nothing crosses and nothing is compared
abbrev pub silent : Asked
silent = record { reason = Reason.NotAsked; compared = 0 }

-- the pair p to q is asked about the PGN and the NAME that the table gives the sender's address; the arrival port is no target
unfoldable pub verdict : ℕ → Rest → ℕ → ℕ → ℕ → ℕ → Asked
verdict ports rest p pgn sa q = cond (eqb p q) silent (asked (get_or rest.pairs (pair_at ports p q) clear) pgn (name_at rest.table sa))

-- ---- rule 3: what is sent to port q, and whether it is accepted or lost there
abbrev pub sent_if : Asked → Frame → List Frame
sent_if v f = cond (crosses v.reason) (f ∷ []) []

abbrev pub accepts : Asked → List Frame → Bool
accepts v row = crosses v.reason && room size row

abbrev pub loses : Asked → List Frame → Bool
loses v row = crosses v.reason && not (room size row)

-- whether the unit's own frame is lost at a row
abbrev pub loses_own : Option Frame → List Frame → Bool
loses_own None row = false
loses_own (Some f) row = not (room size row)

-- ---- docs/RULES.md, "Parameters": losses count "one for each frame and lost port"
-- one more in the counter in place i
abbrev pub counted_at : ℕ → List ℕ → List ℕ
counted_at i losses = set losses i (one_more (get_or losses i 0))

-- a frame from port p is lost at port q: for the pair, and in general
abbrev pub lost_from : ℕ → ℕ → ℕ → List ℕ → List ℕ
lost_from ports p q losses = counted_at (general_at ports) (counted_at (pair_at ports p q) losses)

-- "the unit's own lost frames count in general only"
abbrev pub lost_own : ℕ → List ℕ → List ℕ
lost_own ports losses = counted_at (general_at ports) losses
