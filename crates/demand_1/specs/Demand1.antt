-- Demand 1 about any record and any input, by the contracts alone: "Any frame, message, port number or buffer gets a defined answer. Bad input is refused by a
-- number" of docs/RULES.md; "a refusal changes no list, queue or table, and writes the acknowledgment or nothing." Proved in proofs/Demand1.antt.
use Rattle.message_answers.specs.Messages.{MessageTold}
use Rattle.bridge.specs.Told.{FrameTold, TakeTold, StartTold, UnitTold, CountsTold}
use Rattle.std.specs.Prelude.{◌≡◌, ◌↔◌, Bool, true, false, cond, not, ◌&&◌, ◌||◌, List, [], ◌∷◌, ◌++◌, ℕ, ◌-◌, ◌≤◌, ◌<◌, length, get_or, drop, ltb, leb, eqb}
use contract.Lifetimes.{Lfts}
use Rattle.std.specs.Borrow.{Bor, MutBor}
use Rattle.identifier.specs.Identifier.{is_pgn, too_wide, wrong_source}
use Rattle.filter.specs.Filter.{Filter, clear, is_cleared}
use Rattle.entries.specs.Entries.{listed, every, entries_of}
use Rattle.name_entries.specs.NameEntries.{NameEntry}
use Rattle.filter_commands.specs.Changes.{would_pass, lacks, passes_names}
use Rattle.checks.specs.Checks.{Check, check, acknowledges}
use Rattle.network_message.specs.Decoding.{function_of, pair_of, from_of, to_of, is_known, names_ports, may_name, has_good_body, has_wrong_mode, entries_start, entries_end, between, name_of, mask_of, longest}
use Rattle.replies.specs.Replies.{control_of, acknowledgment}
use Rattle.unit.specs.Count.{is_count, count_of, ports_of}
use Rattle.unit.specs.Model.{Rest, pair_at, model_of}
use Rattle.checks.specs.Ports.{is_port, no_port}
use Rattle.unit.specs.PowerOn.{not_long, fresh}
use Rattle.unit.specs.Own.{is_unstarted, is_claiming}
use Rattle.unit.specs.Own.{is_claimed}
use Rattle.list_commands.specs.declared.Absent.{Absent}
use Rattle.list_commands.specs.Commands.{any_named}
use Rattle.bridge.specs.Calls.{frame_refused, take_number, read_number, start_refused, counts_refused}
use Rattle.unit.proofs.Unit.power_on_ports.Reads as power_on
use Rattle.bridge.proofs.frame.Reads as frame
use Rattle.bridge.proofs.take.Reads as take
use Rattle.bridge.proofs.message.Reads as message
use Rattle.bridge.proofs.start.Reads as start
use Rattle.bridge.proofs.quiet.Reads as quiet
use Rattle.bridge.proofs.unit.Reads as unit
use Rattle.bridge.proofs.counts.Reads as counts
use Rattle.made.specs.Made as made

-- ---- the table "Numbers given back": the numbers of each call with their conditions, in the order in which they are given; `ports` are the unit's, by the
-- count in its record, `lent` the record's length
-- power-on: with a count that is none the record is that of four ports
abbrev pub power_on_numbers : ℕ → ℕ → List Check
power_on_numbers count lent = check (not_long (count_of count) lent) 2 ∷ check (not (is_count count)) 27 ∷ []

abbrev pub frame_numbers : ℕ → ℕ → ℕ → ℕ → ℕ → List Check
frame_numbers ports lent port id len =
    check (no_port ports port) 1
    ∷ check (not_long ports lent) 2
    ∷ check (too_wide id) 3
    ∷ check (ltb 8 len) 4
    ∷ check (wrong_source id) 5
    ∷ []

abbrev pub take_numbers : ℕ → ℕ → ℕ → List Check
take_numbers ports lent port = check (no_port ports port) 1 ∷ check (not_long ports lent) 2 ∷ []

-- "at Start 18 comes before 8"
abbrev pub start_numbers : ℕ → ℕ → Rest → List Check
start_numbers ports lent rest =
    check (not_long ports lent) 2 ∷ check (not (is_unstarted rest.own.claim)) 18 ∷ check (ltb 253 rest.own.preferred) 8 ∷ []

abbrev pub quiet_numbers : ℕ → ℕ → Rest → List Check
quiet_numbers ports lent rest = check (not_long ports lent) 2 ∷ check (not (is_claiming rest.own.claim)) 18 ∷ []

abbrev pub unit_numbers : ℕ → ℕ → List Check
unit_numbers ports lent = check (not_long ports lent) 2 ∷ []

abbrev pub counts_numbers : ℕ → ℕ → ℕ → List Check
counts_numbers ports lent port = check (no_port ports port) 1 ∷ check (not_long ports lent) 2 ∷ []

-- what a payload says, bad or not: its function, From and To, its entries
abbrev pub function : List ℕ → ℕ
function payload = function_of payload

abbrev pub from : List ℕ → ℕ
from payload = from_of (pair_of payload)

abbrev pub to : List ℕ → ℕ
to payload = to_of (pair_of payload)

-- ticket 4: function 7 has one, in bytes 3 to 5
abbrev pub entries : List ℕ → List ℕ
entries payload =
    entries_of
    (cond (eqb (function payload) 7)
    (between 2 5 payload)
    (between (entries_start (function payload)) (entries_end (entries_start (function payload)) payload) payload))

-- and with it a NAME and a mask
abbrev pub name_entry : List ℕ → NameEntry
name_entry payload = record { pgn = get_or (entries payload) 0 0; name = name_of payload; mask = mask_of payload }

-- ticket 8: "128 .. and 130 are the general request .. and reset", 131 and 133 a pair's; the parameter stands in byte 3
abbrev pub asks_parameter : List ℕ → Bool
asks_parameter payload = listed (function payload) (128 ∷ 130 ∷ 131 ∷ 133 ∷ [])

abbrev pub resets : List ℕ → Bool
resets payload = listed (function payload) (130 ∷ 133 ∷ [])

abbrev pub parameter : List ℕ → ℕ
parameter payload = get_or payload 2 0

-- whether a test holds of a pair that it names
abbrev pub a_named_pair : ℕ → Rest → List ℕ → (Filter → Bool) → Bool
a_named_pair ports rest payload test = any_named ports (ports - 1) test (from payload) (to payload) rest.pairs

abbrev pub message_numbers : ℕ → ℕ → ℕ → Rest → ℕ → ℕ → List ℕ → List Check
message_numbers ports lent lentReply rest port requester payload =
    check (no_port ports port) 1
    ∷ check (not_long ports lent || ltb lentReply longest) 2
    ∷ check (not (is_claimed rest.own.claim)) 6
    ∷ check (not (leb 8 (length payload) && leb (length payload) longest)) 7
    ∷ check (ltb 253 requester) 8
    ∷ check (not (is_known (function payload))) 9
    ∷ check (not (names_ports ports (function payload) (from payload) (to payload))) 10
    ∷ check (not (may_name ports port (function payload) (from payload) (to payload))) 11
    ∷ check (asks_parameter payload && (not (listed (parameter payload) (1 ∷ 2 ∷ 3 ∷ 9 ∷ [])) || (resets payload && not (eqb (parameter payload) 9)))) 23
    ∷ check (not (has_good_body (function payload) payload)) 12
    ∷ check (listed (function payload) (2 ∷ 3 ∷ 6 ∷ 7 ∷ []) && not (every is_pgn (entries payload))) 22
    ∷ check (has_wrong_mode (function payload) payload) 13
    ∷ check (eqb (function payload) 6 && a_named_pair ports rest payload (λ f. not (is_cleared f.mode))) 14
    ∷ check (listed (function payload) (2 ∷ 3 ∷ 7 ∷ []) && a_named_pair ports rest payload (λ f. is_cleared f.mode)) 15
    ∷ check (listed (function payload) (2 ∷ 6 ∷ []) && a_named_pair ports rest payload (λ f. would_pass f (entries payload))) 16
    ∷ check (eqb (function payload) 7 && a_named_pair ports rest payload (λ f. passes_names f (name_entry payload))) 16
    ∷ check (eqb (function payload) 3 && a_named_pair ports rest payload (λ f. lacks f (entries payload))) 17
    ∷ []

-- ---- "each is given exactly then": where it applies and nothing that stands before it in the table does
abbrev pub none_applies : List Check → Bool
none_applies [] = true
none_applies (c ∷ cs) = not c.applies && none_applies cs

pub record Given (table : List Check) (n : ℕ) : Type 0 where
  pub before : List Check
  pub behind : List Check
  pub place : table ≡ before ++ check true n ∷ behind
  pub first : none_applies before ≡ true

pub record Exact (table : List Check) (r : ℕ) : Type 0 where
  pub given : (n : ℕ) → (n ≡ 0 → ⊥) → (r ≡ n) ↔ Given table n
  pub done : (r ≡ 0) ↔ (none_applies table ≡ true)

-- ---- "a refusal changes no list, queue or table": not a word of the record
abbrev pub Unchanged : ℕ → List ℕ → List ℕ → Type 0
Unchanged r words after = (r ≡ 0 → ⊥) → after ≡ words

-- "27, port count not 2 to 8, is new at power-on, which then hands back the unit as with four ports; that counts as a power-on, and demand 1's rule .. that a
-- refusal changes nothing is not about it": 2 changes not a word, 27 leaves a fresh unit of four ports
pub record ByPowerOn (words after : List ℕ) (name preferred r : ℕ) : Type 0 where
  pub kept : r ≡ 2 → after ≡ words
  pub four : r ≡ 27 → (length after ≡ 1918) × (ports_of after ≡ 4) × (model_of 4 after ≡ fresh 4 name preferred)

-- "and writes the acknowledgment or nothing": eight bytes for the numbers that write one, nothing for the others, and the answer says which
pub record Writes (lent back payload : List ℕ) (requester : ℕ) (r : MessageTold) : Type 0 where
  pub nothing : (r.refusal ≡ 0 → ⊥) → acknowledges r.refusal ≡ false → (back ≡ lent) × (r.pgn ≡ 0) × (r.length ≡ 0)
  pub acknowledged : acknowledges r.refusal ≡ true
      → (back ≡ acknowledgment (control_of r.refusal) (function_of payload) requester ++ drop 8 lent) × (r.pgn ≡ 59392) × (r.length ≡ 8)

-- what a record means besides its rows
abbrev pub rest_of : List ℕ → Rest
rest_of words = (model_of (ports_of words) words).rest

-- ---- ticket 2: what the answer tells of an entry
-- the kth of a payload, from 1
abbrev pub entry_no : List ℕ → ℕ → ℕ
entry_no payload k = get_or (entries payload) (k - 1) 0

-- "With 22 the answer to the caller gives the first such entry's number from 1": it is no PGN, each before it is one
pub record FirstWrong (payload : List ℕ) (told : Absent) : Type 0 where
  pub least : 1 ≤ told.entry
  pub most : told.entry ≤ length (entries payload)
  pub wrong : is_pgn (entry_no payload told.entry) ≡ false
  pub before : (k : ℕ) → 1 ≤ k → k < told.entry → is_pgn (entry_no payload k) ≡ true
  pub to : told.to ≡ 0
  pub pgn : told.pgn ≡ 0

-- a pair that the payload names leads to port q: "To may be 15, all pairs from that port"
abbrev pub leads_to : ℕ → List ℕ → ℕ → Bool
leads_to ports payload q = is_port ports q && (not (eqb q (from payload)) && (eqb (to payload) 15 || eqb (to payload) q))

-- the list of the pair to port q holds the kth entry's PGN
abbrev pub holds : List ℕ → List ℕ → ℕ → ℕ → Bool
holds words payload q k = listed (entry_no payload k) (get_or (rest_of words).pairs (pair_at (ports_of words) (from payload - 1) (q - 1)) clear).entries

-- "For 17, give the first pair in rising To order and the first PGN in it that is absent": each before it is there, and all are in the pairs before
pub record FirstAbsent (words payload : List ℕ) (told : Absent) : Type 0 where
  pub pair : leads_to (ports_of words) payload told.to ≡ true
  pub least : 1 ≤ told.entry
  pub most : told.entry ≤ length (entries payload)
  pub absent : holds words payload told.to told.entry ≡ false
  pub before : (k : ℕ) → 1 ≤ k → k < told.entry → holds words payload told.to k ≡ true
  pub pairs : (q k : ℕ) → leads_to (ports_of words) payload q ≡ true → q < told.to → 1 ≤ k → k ≤ length (entries payload) → holds words payload q k ≡ true
  pub pgn : told.pgn ≡ entry_no payload told.entry

pub record Tells (words payload : List ℕ) (r : MessageTold) : Type 0 where
  pub wrong : r.refusal ≡ 22 → FirstWrong payload r.told
  pub absent : r.refusal ≡ 17 → FirstAbsent words payload r.told
  pub nothing : (r.refusal ≡ 22 → ⊥) → (r.refusal ≡ 17 → ⊥) → r.told ≡ record { entry = 0; to = 0; pgn = 0 }

-- ---- the whole
pub record Demand1 : Type 0 where
  -- "Any frame, message, port number or buffer gets a defined answer": no call requires anything.
  pub defined : ((κs : Lfts 1) (w : MutBor (List ℕ)) (name preferred count : ℕ) → power_on.Pre κs (w, (name, (preferred, (count, tt)))))
      × ((κs : Lfts 2) (w : MutBor (List ℕ)) (b : Bor (List ℕ)) (port id : ℕ) → frame.Pre κs (w, (port, (id, (b, tt)))))
      × ((κs : Lfts 1) (w : MutBor (List ℕ)) (port : ℕ) → take.Pre κs (w, (port, tt)))
      × ((κs : Lfts 3) (w : MutBor (List ℕ)) (p : Bor (List ℕ)) (b : MutBor (List ℕ)) (port requester : ℕ) → message.Pre κs (w, (port, (requester, (p, (b, tt))))))
      × ((κs : Lfts 1) (w : MutBor (List ℕ)) → start.Pre κs (w, tt))
      × ((κs : Lfts 1) (w : MutBor (List ℕ)) → quiet.Pre κs (w, tt))
      × ((κs : Lfts 1) (w : Bor (List ℕ)) → unit.Pre κs (w, tt))
      × ((κs : Lfts 1) (w : Bor (List ℕ)) (port : ℕ) → counts.Pre κs (w, (port, tt)))
  pub power_on : {words after : List ℕ} {name preferred count r : ℕ} → made.Powered words name preferred count r after
      → Exact (power_on_numbers count (length words)) r × ByPowerOn words after name preferred r
  -- "A refused frame has no ports, no event, is not consumed and compares 0"
  pub frame : {words bytes after : List ℕ} {port id : ℕ} {r : FrameTold} → made.Arrived words port id bytes r after
      → Exact (frame_numbers (ports_of words) (length words) port id (length bytes)) r.refusal × Unchanged r.refusal words after
      × ((r.refusal ≡ 0 → ⊥) → r ≡ frame_refused r.refusal)
  pub take : {words after : List ℕ} {port : ℕ} {r : TakeTold} → made.Took words port r after
      → Exact (take_numbers (ports_of words) (length words) port) (take_number r) × Unchanged (take_number r) words after
  pub message : {words payload lent after back : List ℕ} {port requester : ℕ} {r : MessageTold} → made.Handed words port requester payload lent r after back
      → Exact (message_numbers (ports_of words) (length words) (length lent) (rest_of words) port requester payload) r.refusal
      × Unchanged r.refusal words after × Writes lent back payload requester r × Tells words payload r
  pub start : {words after : List ℕ} {r : StartTold} → made.Started words r after
      → Exact (start_numbers (ports_of words) (length words) (rest_of words)) r.refusal × Unchanged r.refusal words after × ((r.refusal ≡ 0 → ⊥) → r ≡ start_refused r.refusal)
  pub quiet : {words after : List ℕ} {r : ℕ} → made.Quieted words r after → Exact (quiet_numbers (ports_of words) (length words) (rest_of words)) r × Unchanged r words after
  pub unit : {words : List ℕ} {r : UnitTold} → made.Told words r → Exact (unit_numbers (ports_of words) (length words)) (read_number r)
  pub counts : {words : List ℕ} {port : ℕ} {r : CountsTold} → made.Counted words port r
      → Exact (counts_numbers (ports_of words) (length words) port) r.refusal × ((r.refusal ≡ 0 → ⊥) → r ≡ counts_refused r.refusal)
