-- The layout before the lists were kept sorted: a pair's block has 59 words and no sorted list, and a PGN is looked up
-- in order of addition. These are the definitions of that time, word for word but for their names and for the field
-- `sorted`, which the old layout has not, and which is [] everywhere. What the sorted lists changed nothing of (what
-- refuses a call, what is written back, what a claim and Start do) is used as it is. Two things are said in another way:
-- the pairs after a message stand by themselves (`old_pairs_after`; they were a field of `messaged`), and `as_lent`.
-- Assumes nothing.
use Rattle.bridge.specs.Told.{FrameTold}
use Rattle.std.specs.Prelude.{ℕ, suc, ◌+◌, ◌-◌, ◌*◌, Bool, cond, ◌||◌, ◌≡◌, List, [], ◌∷◌, ◌++◌, length, take, drop, get_or, eqb, Option}
use Rattle.storage.specs.Blocks.{blocks_of}
use Rattle.identifier.specs.Identifier.{pgn_of, sa_of}
use Rattle.entries.specs.Entries.{entries_of, listed}
use Rattle.pgn_list.specs.PgnList.{add_all, delete_all}
use Rattle.delivery.specs.Unit.{join_all}
use Rattle.name_entries.specs.NameEntries.{NameEntry, names_length, names_of, matched_by, place_of, is_there}
use Rattle.filter.specs.declared.Reason.{Reason}
use Rattle.filter.specs.declared.Asked.{Asked}
use Rattle.filter.specs.Filter.{mode_place, list_of, names_place, names_in, Filter, clear, meant, front_of, is_permanent}
use Rattle.filter.specs.Filter.{reason_of, reason_number}
use Rattle.filter_commands.specs.declared.pairs.Change.{Change}
use Rattle.filter_commands.specs.declared.pairs.Change.TheVariants.{Adds, Deletes, Creates, Names}
use Rattle.filter_commands.specs.Changes.{entry_of, may_add, may_delete, may_create, may_name, mode_for}
use Rattle.network_message.specs.Asked.{Asked as Command, Refused, Request, WithEntries, Clear, AddressList, Parameter, Reset, PairParameter, PairReset}
use Rattle.network_message.specs.Decoding.{between, decoded}
use Rattle.list_commands.specs.Commands.{change_named, list_refusal}
use Rattle.queue.specs.declared.Frame.{Frame}
use Rattle.queue.specs.Queue.{size, queue_of, queue_next, block_length as queue_length}
use Rattle.losses.specs.Losses.{counter_length, losses_of}
use Rattle.addresses.specs.Table.{table_length, table_of, name_at}
use Rattle.unit.specs.Count.{count_of, ports_of, pair_count}
use Rattle.unit.specs.Ports.{each, in_turn, mask, total, digits}
use Rattle.unit.specs.Model.{Rest, Model, row_at, pair_at, with_own, with_pairs, own_length, unit_of, table_from, rows_from}
use Rattle.unit.specs.Model.{pairs_from, record_length}
use Rattle.unit.specs.PowerOn.{power_on_refusal, fresh}
use Rattle.unit.specs.declared.Claim.TheVariants.{Claimed}
use Rattle.unit.specs.Own.{consumes, moved, frames_sent}
use Rattle.forwarding.specs.Forwarding.{silent, sent_if, accepts, loses, loses_own, lost_from, lost_own}
use Rattle.claims.specs.Claims.{started}
use Rattle.message_answers.specs.Messages.{message_answer}
use Rattle.refusals.specs.Refusals.{frame_refusal, quiet_refusal, message_refusal}
use Rattle.bridge.specs.Calls.{Call, FrameIn, TakeOut, Message, Start, Quiet, ReadUnit, ReadCounts, frame_of, messaged}
use Rattle.bridge.specs.Calls.{refusal, frame_done}
use Rattle.bridge.specs.Calls.{asks, start_unsent_at, frame_refused, take_answer, start_answer, unit_answer, counts_answer}
use Rattle.demand_3.specs.Demand3.{Answer, ToFrame, ToTake, ToMessage, ToStart, ToQuiet, ToUnit, ToCounts}

-- ---- a block: mode, count, 32 PGNs, and the words of the NAME entries
abbrev pub old_block : ℕ
old_block = names_place + names_length

unfoldable pub old_filter_of : List ℕ → Filter
old_filter_of words = meant (get_or words mode_place 0) (front_of words (list_of words)) (names_of (names_in words)) []

-- ---- the record: its regions are in the same order
abbrev pub old_losses_from : ℕ → ℕ
old_losses_from ports = pairs_from ports + old_block * pair_count ports

abbrev pub old_length : ℕ → ℕ
old_length ports = old_losses_from ports + counter_length * (pair_count ports + 1)

unfoldable pub old_model_of : ℕ → List ℕ → Model
old_model_of ports words = record {
  rest = record {
    own = unit_of (take own_length words);
    pairs = blocks_of (pairs_from ports) old_block (pair_count ports) old_filter_of words;
    table = table_of (take table_length (drop table_from words));
  };
  queues = blocks_of rows_from queue_length ports queue_of words;
  seen = record { losses = blocks_of (old_losses_from ports) counter_length (pair_count ports + 1) losses_of words };
}

-- the published length was the old one. What refuses a call compares with today's, so the right length stands for the
-- right one, and a wrong one for 0, which is wrong (`lent` in Same.antt)
unfoldable pub as_lent : ℕ → ℕ → ℕ
as_lent ports lent = cond (eqb lent (old_length ports)) (record_length ports) 0

-- ---- asking a pair
-- forwarding rule 5: the place of x in a list, counted from 1, or the list's length if absent
unfoldable pub place : ℕ → List ℕ → ℕ
place x [] = 0
place x (y ∷ ys) = cond (eqb y x) 1 (suc (place x ys))

-- what asking a pair answers, by the PGN and the sender's NAME: "A match counts as listed. The compared count runs over
-- the plain list and then, if the PGN wasn't found, these entries up to the first match."
unfoldable pub old_asked : Filter → ℕ → Option ℕ → Asked
old_asked f pgn sender =
    cond (is_permanent pgn)
    (record { reason = Reason.Permanent; compared = 0 })
    (record {
      reason = reason_of f.mode (listed pgn f.entries || matched_by pgn sender f.named);
      compared = place pgn f.entries + cond (listed pgn f.entries) 0 (place_of pgn sender f.named);
    })

unfoldable pub old_verdict : ℕ → Rest → ℕ → ℕ → ℕ → ℕ → Asked
old_verdict ports rest p pgn sa q =
    cond (eqb p q) silent (old_asked (get_or rest.pairs (pair_at ports p q) clear) pgn (name_at rest.table sa))

unfoldable pub old_offered : ℕ → Rest → ℕ → ℕ → ℕ → Asked
old_offered ports rest p id q = cond (consumes rest.own id) silent (old_verdict ports rest p (pgn_of id) (sa_of id) q)

-- ---- the commands on one pair
unfoldable pub old_added : Filter → List ℕ → Filter
old_added f xs =
    cond (may_add f xs) (record { mode = f.mode; entries = add_all f.entries xs; named = f.named; sorted = [] }) f

unfoldable pub old_deleted : Filter → List ℕ → Filter
old_deleted f xs =
    cond (may_delete f xs) (record { mode = f.mode; entries = delete_all f.entries xs; named = f.named; sorted = [] }) f

unfoldable pub old_created : Bool → Filter → List ℕ → Filter
old_created passing f xs =
    cond (may_create f xs) (record { mode = mode_for passing; entries = add_all [] xs; named = []; sorted = [] }) f

unfoldable pub old_named : Filter → NameEntry → Filter
old_named f e =
    cond (may_name f e)
    (record {
      mode = f.mode;
      entries = f.entries;
      named = cond (is_there e f.named) f.named (f.named ++ e ∷ []);
      sorted = [];
    })
    f

unfoldable pub old_change_of : Change → List ℕ → Filter → Filter
old_change_of Adds xs f = old_added f xs
old_change_of Deletes xs f = old_deleted f xs
old_change_of (Creates passing) xs f = old_created passing f xs
old_change_of (Names name mask) xs f = old_named f (entry_of xs name mask)

-- ---- on the pairs that a message names
unfoldable pub old_commanded : ℕ → Change → List ℕ → ℕ → ℕ → List Filter → List Filter
old_commanded ports change xs from to pairs =
    cond (eqb (list_refusal ports change xs from to pairs) 0)
    (change_named ports (ports - 1) (old_change_of change xs) from to pairs)
    pairs

unfoldable pub old_pairs_by : ℕ → Rest → List ℕ → Command → List Filter
old_pairs_by ports rest payload (Refused number entry) = rest.pairs
old_pairs_by ports rest payload (Request from to) = rest.pairs
old_pairs_by ports rest payload (WithEntries change from to start end) =
    old_commanded ports change (entries_of (between start end payload)) from to rest.pairs
old_pairs_by ports rest payload (Clear from to) = change_named ports (ports - 1) (λ _. clear) from to rest.pairs
old_pairs_by ports rest payload (AddressList port) = rest.pairs
old_pairs_by ports rest payload (Parameter parameter) = rest.pairs
old_pairs_by ports rest payload Reset = rest.pairs
old_pairs_by ports rest payload (PairParameter from to parameter) = rest.pairs
old_pairs_by ports rest payload (PairReset from to) = rest.pairs

unfoldable pub old_pairs_after : ℕ → ℕ → ℕ → Rest → ℕ → ℕ → List ℕ → List Filter
old_pairs_after ports lent lentReply rest port requester payload =
    cond (eqb (message_refusal ports (as_lent ports lent) lentReply rest port requester (length payload)) 0)
    (old_pairs_by ports rest payload (decoded ports port payload))
    rest.pairs

-- ---- what a call does
unfoldable pub old_refusal : ℕ → ℕ → Rest → Call → ℕ
old_refusal ports lent rest k = refusal ports (as_lent ports lent) rest k

unfoldable pub old_rest_after : ℕ → ℕ → Rest → Call → Rest
old_rest_after ports lent rest (FrameIn port id bytes) = (frame_done rest port (frame_of id bytes)).rest
old_rest_after ports lent rest (TakeOut port) = rest
old_rest_after ports lent rest (Message port requester payload lentReply) =
    with_pairs rest (old_pairs_after ports lent lentReply rest port requester payload)
old_rest_after ports lent rest Start = (started rest).rest
old_rest_after ports lent rest Quiet = with_own rest (moved rest.own Claimed rest.own.address)
old_rest_after ports lent rest ReadUnit = rest
old_rest_after ports lent rest (ReadCounts port) = rest

abbrev pub old_frame_sends : ℕ → Rest → ℕ → Frame → ℕ → List Frame
old_frame_sends ports rest port f q =
    sent_if (old_offered ports rest (port - 1) f.id q) f ++ frames_sent (frame_done rest port f).sent

unfoldable pub old_sends : ℕ → Rest → Call → ℕ → List Frame
old_sends ports rest (FrameIn port id bytes) q = old_frame_sends ports rest port (frame_of id bytes) q
old_sends ports rest (TakeOut port) q = []
old_sends ports rest (Message port requester payload lentReply) q = []
old_sends ports rest Start q = frames_sent (started rest).sent
old_sends ports rest Quiet q = []
old_sends ports rest ReadUnit q = []
old_sends ports rest (ReadCounts port) q = []

abbrev pub old_lost_at : ℕ → Model → ℕ → Frame → ℕ → Bool
old_lost_at ports m port f q = loses (old_offered ports m.rest (port - 1) f.id q) (row_at m q)

abbrev pub old_unsent_at : ℕ → Model → ℕ → Frame → ℕ → Bool
old_unsent_at ports m port f q =
    loses_own (frame_done m.rest port f).sent
    (join_all size (row_at m q) (sent_if (old_offered ports m.rest (port - 1) f.id q) f))

abbrev pub old_frame_losses : ℕ → Model → ℕ → Frame → List ℕ
old_frame_losses ports m port f =
    in_turn (λ q. old_unsent_at ports m port f q) (λ q. lost_own ports) ports
    (in_turn (λ q. old_lost_at ports m port f q) (lost_from ports (port - 1)) ports m.seen.losses)

unfoldable pub old_losses_after : ℕ → ℕ → Model → Call → List ℕ
old_losses_after ports lent m (FrameIn port id bytes) = old_frame_losses ports m port (frame_of id bytes)
old_losses_after ports lent m (TakeOut port) = m.seen.losses
old_losses_after ports lent m (Message port requester payload lentReply) =
    (messaged ports (as_lent ports lent) lentReply m.rest port requester payload).losses m.seen.losses
old_losses_after ports lent m Start = in_turn (λ q. start_unsent_at m q) (λ q. lost_own ports) ports m.seen.losses
old_losses_after ports lent m Quiet = m.seen.losses
old_losses_after ports lent m ReadUnit = m.seen.losses
old_losses_after ports lent m (ReadCounts port) = m.seen.losses

unfoldable pub old_performed : ℕ → ℕ → Model → Call → Model
old_performed ports lent m k = record {
  rest = old_rest_after ports lent m.rest k;
  queues = each (λ q x. queue_next (asks k) q x (old_sends ports m.rest k q)) ports m.queues;
  seen = record { losses = old_losses_after ports lent m k };
}

unfoldable pub old_next : ℕ → ℕ → Model → Call → Model
old_next ports lent m k = cond (eqb (old_refusal ports lent m.rest k) 0) (old_performed ports lent m k) m

-- ---- what a call answers
unfoldable pub old_frame_passed : ℕ → Model → ℕ → Frame → FrameTold
old_frame_passed ports m port f = record {
  refusal = 0;
  consumed = consumes m.rest.own f.id;
  accepted = mask (λ q. accepts (old_offered ports m.rest (port - 1) f.id q) (row_at m q)) ports;
  lost = mask (λ q. old_lost_at ports m port f q) ports;
  event = (frame_done m.rest port f).event;
  unsent = mask (λ q. old_unsent_at ports m port f q) ports;
  compared = total (λ q. (old_offered ports m.rest (port - 1) f.id q).compared) ports;
  reasons = digits (λ q. reason_number (old_offered ports m.rest (port - 1) f.id q).reason) ports;
}

unfoldable pub old_frame_answer : ℕ → ℕ → Model → ℕ → ℕ → List ℕ → FrameTold
old_frame_answer ports lent m port id bytes =
    cond (eqb (frame_refusal ports (as_lent ports lent) port id (length bytes)) 0)
    (old_frame_passed ports m port (frame_of id bytes))
    (frame_refused (frame_refusal ports (as_lent ports lent) port id (length bytes)))

unfoldable pub old_answer : ℕ → ℕ → Model → Call → Answer
old_answer ports lent m (FrameIn port id bytes) = ToFrame (old_frame_answer ports lent m port id bytes)
old_answer ports lent m (TakeOut port) = ToTake (take_answer ports (as_lent ports lent) m port)
old_answer ports lent m (Message port requester payload lentReply) =
    ToMessage (message_answer (messaged ports (as_lent ports lent) lentReply m.rest port requester payload) m.seen)
    ((messaged ports (as_lent ports lent) lentReply m.rest port requester payload).written m.seen)
old_answer ports lent m Start = ToStart (start_answer ports (as_lent ports lent) m)
old_answer ports lent m Quiet = ToQuiet (quiet_refusal ports (as_lent ports lent) m.rest.own)
old_answer ports lent m ReadUnit = ToUnit (unit_answer ports (as_lent ports lent) m)
old_answer ports lent m (ReadCounts port) = ToCounts (counts_answer ports (as_lent ports lent) m port)

-- ---- the contracts
-- power-on, with any count of ports: 2 changes no word, 27 is a power-on all the same
pub record OldPowered (before : List ℕ) (name preferred count r : ℕ) (after : List ℕ) : Type 0 where
  pub long : length after ≡ length before
  pub answer : r ≡ power_on_refusal count (as_lent (count_of count) (length before))
  pub state : (r ≡ 2 → ⊥) → old_model_of (count_of count) after ≡ fresh (count_of count) name preferred
  pub refused : r ≡ 2 → after ≡ before

-- the call k on the record `before` was answered x and left the record `after`
pub record OldMade (before : List ℕ) (k : Call) (x : Answer) (after : List ℕ) : Type 0 where
  pub long : length after ≡ length before
  pub count : ports_of after ≡ ports_of before
  pub state : old_model_of (ports_of before) after
      ≡ old_next (ports_of before) (length before) (old_model_of (ports_of before) before) k
  pub answer : x ≡ old_answer (ports_of before) (length before) (old_model_of (ports_of before) before) k
  pub refused : (old_refusal (ports_of before) (length before) (old_model_of (ports_of before) before).rest k ≡ 0 → ⊥)
      → after ≡ before
