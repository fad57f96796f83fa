-- Demand 2, by the contracts of the functions alone. Proved in proofs/Demand2.antt. The quoted words are the customer's.
-- About any records: no frame goes back, claims and requests cross, no plain list takes more than 6 compares, a command changes the pairs and the counter
-- that it names, Clear and Create leave no NAME entry, a tool sees its own. About records that calls from power-on led to: what crosses is told with its
-- reason and with what was compared, lists are searched in rising order, a list that is reported and sent back is that list.
use Rattle.message_answers.specs.Messages.{MessageTold}
use Rattle.bridge.specs.Told.{FrameTold}
use Rattle.addresses.specs.Table.{held}
use Rattle.std.specs.Prelude.{◌≡◌, ◌⊎◌, ◌↔◌, Bool, true, false, not, ◌&&◌, ◌||◌, cond, List, [], ◌∷◌, ℕ, zero, suc, ◌+◌, ◌-◌, ◌*◌, ◌/◌, ◌%◌, ◌≤◌, ◌<◌, min, length, take, drop, get_or, eqb, ltb, None}
use Rattle.identifier.specs.Identifier.{pgn_of}
use Rattle.delivery.specs.Calls.{Run}
use Rattle.delivery.specs.Unit.{join_all}
use Rattle.filter.specs.Filter.{Mode, cleared, block, pass, Filter, clear, block_size as filter_length}
use Rattle.entries.specs.Entries.{listed}
use Rattle.queue.specs.Queue.{size}
use Rattle.checks.specs.Ports.{is_port}
use Rattle.unit.specs.declared.Claim.TheVariants.{Claimed}
use Rattle.unit.specs.Ports.{bit_at, digit_at}
use Rattle.unit.specs.Count.{ports_of}
use Rattle.unit.specs.Model.{Model, Rest, row_at, pair_at, pairs_from, losses_from, model_of}
use Rattle.bridge.specs.Calls.{frame_of}
use Rattle.unit.specs.Own.{frames_sent}
use Rattle.list_commands.specs.Commands.{IsPair}
use Rattle.bridge.specs.Calls.{Call, frame_done}
use Rattle.demand_2.specs.Matching.{Listed, Permanent, InOrder, Compares}
use Rattle.made.specs.Made.{Powered, Arrived, Handed}
use Rattle.demand_3.specs.Demand3.{Made, Answer}

-- what a record means, with the number of ports that it holds
abbrev pub unit_in : List ℕ → Model
unit_in words = model_of (ports_of words) words

abbrev pub rest_of : List ℕ → Rest
rest_of words = (unit_in words).rest

-- the filter of the pair from port a to port b
abbrev pub pair_on : List ℕ → ℕ → ℕ → Filter
pair_on words a b = get_or (rest_of words).pairs (pair_at (ports_of words) (a - 1) (b - 1)) clear

-- the word that counts the losses of the pair from port a to port b, and the one behind them all, which counts in general
abbrev pub counter_on : ℕ → ℕ → ℕ → ℕ
counter_on ports a b = losses_from ports + pair_at ports (a - 1) (b - 1)

abbrev pub general_counter : ℕ → ℕ
general_counter ports = losses_from ports + ports * (ports - 1)

-- what a pair's counter tells, whatever its word holds: losses "stay at 64,255"
abbrev pub losses_on : List ℕ → ℕ → ℕ → ℕ
losses_on words a b = min (get_or words (counter_on (ports_of words) a b) 0) 64255

-- a record that a power-on, with any count of ports, and then any list of calls led to, made by the real functions, of which the contracts alone are known
pub data Reached : List ℕ → Type 0 where
  reached : {w u v : List ℕ} {name preferred count r : ℕ} {ks : List Call} {xs : List Answer}
      → Powered w name preferred count r u → (r ≡ 2 → ⊥) → Run Made u ks xs v → Reached v

-- ---- "No frame is sent back to its arrival port."
-- The row there is as it was, but for the unit's own frame, which asks no pair; and the arrival port is never named as accepted or lost.
pub record NotBack (words : List ℕ) (port id : ℕ) (bytes : List ℕ) (r : FrameTold) (after : List ℕ) : Type 0 where
  pub row : (row_at (unit_in after) (port - 1) ≡ row_at (unit_in words) (port - 1))
      ⊎ (row_at (unit_in after) (port - 1)
      ≡ join_all size (row_at (unit_in words) (port - 1)) (frames_sent (frame_done (rest_of words) port (frame_of id bytes)).sent))
  pub accepted : bit_at r.accepted (port - 1) ≡ false
  pub lost : bit_at r.lost (port - 1) ≡ false

-- ---- ticket 3: "PGNs 60928 and 59904 cross every pair whatever its mode and list, given room. .. Their compared count is 0."
-- At every port but the arrival port such a frame is accepted, or lost where 32 wait, whatever the lists hold.
pub record Crossing (words : List ℕ) (port : ℕ) (r : FrameTold) : Type 0 where
  pub accepted : (q : ℕ) → is_port (ports_of words) q ≡ true → (port ≡ q → ⊥) → bit_at r.accepted (q - 1) ≡ ltb (length (row_at (unit_in words) (q - 1))) 32
  pub lost : (q : ℕ) → is_port (ports_of words) q ≡ true → (port ≡ q → ⊥) → bit_at r.lost (q - 1) ≡ not (ltb (length (row_at (unit_in words) (q - 1))) 32)
  pub compared : r.compared ≡ 0

-- ---- ticket 11: "a reason: permanent, else cleared, listed in pass, not listed in block, stopped as listed, stopped as not listed", 1 to 6 in
-- this order, by the pair's mode and by what its list and its NAME entries hold; "or ‘not asked’ where rule 2 asks no pair", 0
abbrev pub list_reason : Mode → Bool → ℕ
list_reason cleared here = 2
list_reason pass true = 3
list_reason block false = 4
list_reason block true = 5
list_reason pass false = 6

abbrev pub pair_reason : Filter → ℕ → Bool → ℕ
pair_reason f pgn here = cond (eqb pgn 60928 || eqb pgn 59904) 1 (list_reason f.mode here)

pub data Tells (words : List ℕ) (id : ℕ) (f : Filter) : ℕ → Type 0 where
  as_listed : Listed words id f → Tells words id f (pair_reason f (pgn_of id) true)
  as_not_listed : (Listed words id f → ⊥) → Tells words id f (pair_reason f (pgn_of id) false)

-- what the answer tells for port q: four bits a port
abbrev pub reason_at : FrameTold → ℕ → ℕ
reason_at r q = digit_at r.reasons (q - 1)

pub record Reasons (words : List ℕ) (port id : ℕ) (r : FrameTold) : Type 0 where
  pub asked : Reached words → r.refusal ≡ 0 → r.consumed ≡ false → (q : ℕ) → is_port (ports_of words) q ≡ true → (port ≡ q → ⊥) → Tells words id (pair_on words port q) (reason_at r q)
  -- not asked: the arrival port, a port that the unit has not, a refused frame, a consumed one
  pub back : 1 ≤ port → reason_at r port ≡ 0
  pub past : (q : ℕ) → ports_of words < q → reason_at r q ≡ 0
  pub refused : (r.refusal ≡ 0 → ⊥) → r.reasons ≡ 0
  pub consumed : r.consumed ≡ true → r.reasons ≡ 0

-- ---- rule 5, the number of entries compared, as ticket 6 counts it: "The three pairs are added. A consumed or refused frame has 0."
-- the sum over the ports 1 to n
unfoldable pub sum_to : (ℕ → ℕ) → ℕ → ℕ
sum_to count zero = 0
sum_to count (suc n) = sum_to count n + count (suc n)

-- what is counted for each port by itself: what its pair compared, 0 at the arrival port, which has none
pub record Counted (words : List ℕ) (port id compared : ℕ) : Type 0 where
  pub count : ℕ → ℕ
  pub pair : (q : ℕ) → is_port (ports_of words) q ≡ true → (port ≡ q → ⊥) → Compares words id (pair_on words port q) (count q)
  pub back : count port ≡ 0
  pub sum : compared ≡ sum_to count (ports_of words)

-- "at most 6 for each plain list", whatever the record holds; of NAME entries not more than there are
pub record Ceiling (words : List ℕ) (port compared : ℕ) : Type 0 where
  pub plain : ℕ → ℕ
  pub named : ℕ → ℕ
  pub most : (q : ℕ) → plain q ≤ 6
  pub there : (q : ℕ) → named q ≤ length (pair_on words port q).named
  pub back : plain port + named port ≡ 0
  pub sum : compared ≡ sum_to (λ q. plain q + named q) (ports_of words)

pub record Counts (words : List ℕ) (port id : ℕ) (r : FrameTold) : Type 0 where
  pub asked : Reached words → r.refusal ≡ 0 → r.consumed ≡ false → Counted words port id r.compared
  pub ceiling : Ceiling words port r.compared
  pub refused : (r.refusal ≡ 0 → ⊥) → r.compared ≡ 0
  pub consumed : r.consumed ≡ true → r.compared ≡ 0

-- ---- "A command changes the pairs it names and no other."
-- The pairs that a payload names, by its own bytes: in functions 2, 3, 4, 6 and 7, "byte 2 holds From in the upper four bits, To in the lower. To may be 15,
-- all pairs from that port", but in 7 (ticket 4), "To 15 not allowed". No other function changes a pair.
abbrev pub names_pair : List ℕ → ℕ → ℕ → Bool
names_pair payload a b =
    listed (get_or payload 0 0) (2 ∷ 3 ∷ 4 ∷ 6 ∷ 7 ∷ [])
    && (eqb a (get_or payload 1 0 / 16) && ((not (eqb (get_or payload 0 0) 7) && eqb (get_or payload 1 0 % 16) 15) || eqb b (get_or payload 1 0 % 16)))

-- "A reset touches the named counter only": 133 names the pair's, 130 the general one. No other function changes a counter.
abbrev pub resets_pair : List ℕ → ℕ → ℕ → Bool
resets_pair payload a b = eqb (get_or payload 0 0) 133 && (eqb a (get_or payload 1 0 / 16) && eqb b (get_or payload 1 0 % 16))

abbrev pub resets_general : List ℕ → Bool
resets_general payload = eqb (get_or payload 0 0) 130

-- word n of the record lies outside the block of the pair from a to b
abbrev pub Outside : ℕ → ℕ → ℕ → ℕ → Type 0
Outside ports a b n =
    (n < pairs_from ports + filter_length * pair_at ports (a - 1) (b - 1)) ⊎ (pairs_from ports + filter_length * pair_at ports (a - 1) (b - 1) + filter_length ≤ n)

-- word n is in no block of a pair that a payload names, and is no counter that it resets
pub record Unnamed (ports : ℕ) (payload : List ℕ) (n : ℕ) : Type 0 where
  pub block : (a b : ℕ) → IsPair ports a b → names_pair payload a b ≡ true → Outside ports a b n
  pub counter : (a b : ℕ) → IsPair ports a b → resets_pair payload a b ≡ true → n ≡ counter_on ports a b → ⊥
  pub general : resets_general payload ≡ true → n ≡ general_counter ports → ⊥

pub record OnlyNamed (words : List ℕ) (port : ℕ) (payload after : List ℕ) : Type 0 where
  pub pairs : (a b : ℕ) → IsPair (ports_of words) a b → names_pair payload a b ≡ false → pair_on after a b ≡ pair_on words a b
  pub losses : (a b : ℕ) → IsPair (ports_of words) a b → resets_pair payload a b ≡ false → get_or after (counter_on (ports_of words) a b) 0 ≡ get_or words (counter_on (ports_of words) a b) 0
  pub general : resets_general payload ≡ false → get_or after (general_counter (ports_of words)) 0 ≡ get_or words (general_counter (ports_of words)) 0
  -- word for word: every word but the blocks of the pairs and the counter that are named is as it was, those too that no rule reads
  pub others : (n : ℕ) → Unnamed (ports_of words) payload n → get_or after n 0 ≡ get_or words n 0
  pub long : length after ≡ length words
  -- nor does it change anything else
  pub own : (rest_of after).own ≡ (rest_of words).own
  pub table : (rest_of after).table ≡ (rest_of words).table
  pub queues : (unit_in after).queues ≡ (unit_in words).queues

-- ---- ticket 4: "Clear empties both." A Create that is done leaves no NAME entry either, whatever the words behind the list held.
pub record Emptied (words payload after : List ℕ) : Type 0 where
  pub cleared : get_or payload 0 0 ≡ 4 → (a b : ℕ) → IsPair (ports_of words) a b → names_pair payload a b ≡ true → pair_on after a b ≡ clear
  pub created : get_or payload 0 0 ≡ 6 → (a b : ℕ) → IsPair (ports_of words) a b → names_pair payload a b ≡ true → (pair_on after a b).named ≡ []

-- ---- "For a tool on port p of 2 to 4, with the unit's claim state and address given, reply and refusal are the same whatever the lists and address tables
-- hold beyond p's own pairs and the addresses recorded on p." With another number of ports p is of 2 to that number.
pub record SameTo (p : ℕ) (x y : List ℕ) : Type 0 where
  pub claim : (rest_of x).own.claim ≡ (rest_of y).own.claim
  pub address : (rest_of x).own.address ≡ (rest_of y).own.address
  -- "Demand 2's privacy rule lets a tool's answers depend on its own pairs' counters too" (ticket 8), on no other: the general functions are 11 for it
  pub pairs : (a b : ℕ) → IsPair (ports_of x) a b → (a ≡ p) ⊎ (b ≡ p) → (pair_on x a b ≡ pair_on y a b) × (losses_on x a b ≡ losses_on y a b)
  -- an address is held on p under a NAME in the one exactly if in the other
  pub table : (a name : ℕ) → a < 254 → (get_or (rest_of x).table a None ≡ held p name) ↔ (get_or (rest_of y).table a None ≡ held p name)

-- ---- "A reported list with entries, sent back as Create to a cleared pair, gives that list again."
-- the list of the pair that a payload names, which is the one that a Request reports
abbrev pub list_of : List ℕ → List ℕ → Filter
list_of words payload = pair_on words (get_or payload 1 0 / 16) (get_or payload 1 0 % 16)

-- a pair's mode and list without its NAME entries
abbrev pub plain : Filter → Filter
plain f = record { mode = f.mode; entries = f.entries; named = []; sorted = f.sorted }

-- A tool that may send a Create for the pair from a to b to this unit: 1, 2, 6, 8 and 11 don't apply. (Its port is 1, a or b, so the unit has it.)
pub record MayCreate (words : List ℕ) (port requester a b : ℕ) (lent : List ℕ) : Type 0 where
  pub room : 1785 ≤ length lent
  pub claimed : (rest_of words).own.claim ≡ Claimed
  pub address : requester < 254
  pub right : (port ≡ 1) ⊎ ((a ≡ port) ⊎ (b ≡ port))

-- ---- the whole
pub record Demand2 : Type 0 where
  pub not_back : {words bytes after : List ℕ} {port id : ℕ} {r : FrameTold} → Arrived words port id bytes r after → NotBack words port id bytes r after
  -- a frame of such a PGN that is neither refused nor consumed
  pub always : {words bytes after : List ℕ} {port id : ℕ} {r : FrameTold} → Arrived words port id bytes r after
      → r.refusal ≡ 0 → r.consumed ≡ false → Permanent id → Crossing words port r
  pub why : {words bytes after : List ℕ} {port id : ℕ} {r : FrameTold} → Arrived words port id bytes r after → Reasons words port id r
  pub told : {words bytes after : List ℕ} {port id : ℕ} {r : FrameTold} → Arrived words port id bytes r after → Counts words port id r
  -- "Keep each plain list sorted", in every list of calls
  pub ordered : {words : List ℕ} → Reached words → (a b : ℕ) → InOrder (pair_on words a b).entries (pair_on words a b).sorted
  pub only_named : {words payload lent after back : List ℕ} {port requester : ℕ} {r : MessageTold} → Handed words port requester payload lent r after back
      → OnlyNamed words port payload after
  -- a command that is done
  pub emptied : {words payload lent after back : List ℕ} {port requester : ℕ} {r : MessageTold} → Handed words port requester payload lent r after back
      → r.refusal ≡ 0 → Emptied words payload after
  -- two records that a tool on port p cannot tell apart, the same message, the same buffer
  pub private : {words other payload lent after back after₂ back₂ : List ℕ} {p requester : ℕ} {r r₂ : MessageTold}
      → 2 ≤ p → p ≤ ports_of words → ports_of words ≡ ports_of other → length words ≡ length other → SameTo p words other
      → Handed words p requester payload lent r after back → Handed other p requester payload lent r₂ after₂ back₂
      → (r ≡ r₂) × (back ≡ back₂)
  -- A unit, after any list of calls, answered a Request with a list that has entries. What it wrote is sent back to a unit, this or another, of as many ports
  -- or not, after any list of calls, as Create for a pair, that one or another, which is cleared there: 6, the pair byte, and the mode and the PGNs as they
  -- were reported. It is done, and the pair has that list and that mode, and no NAME entry: "List replies leave these out."
  pub again : {words payload lent after back other lent₂ after₂ back₂ : List ℕ} {port requester port₂ requester₂ a b : ℕ} {r r₂ : MessageTold}
      → Reached words → Handed words port requester payload lent r after back → get_or payload 0 0 ≡ 0 → r.refusal ≡ 0 → 1 ≤ length (list_of words payload).entries
      → Reached other → IsPair (ports_of other) a b → pair_on other a b ≡ clear → MayCreate other port₂ requester₂ a b lent₂
      → Handed other port₂ requester₂ (6 ∷ (16 * a + b) ∷ drop 2 (take r.length back)) lent₂ r₂ after₂ back₂
      → (r₂.refusal ≡ 0) × (pair_on after₂ a b ≡ plain (list_of words payload))
