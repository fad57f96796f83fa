-- The C interface has the demands. An exported function that is lent answers of their published lengths is a call of the bridge, with its answer as words and
-- bytes, so what is proved of every list of the bridge's calls holds of every list of the exported ones; one that is lent another length is refused with 2, or
-- with 1 where there is no such port, and is no call at all. `deorasaeng_take_queue` on the block of port q is a take on port q.
-- `c_demands` of proofs/CDemands.antt proves it. The quoted words are the customer's.
use Rattle.message_answers.specs.Messages.{MessageTold}
use Rattle.bridge.specs.Told.{TakeTold, FrameTold, StartTold, UnitTold, CountsTold, Took, Told}
use Rattle.queue.specs.declared.Frame.{Frame}
use Rattle.std.specs.Prelude.{◌≡◌, ◌⊎◌, Bool, true, false, not, cond, ◌&&◌, ◌||◌, ℕ, ◌+◌, ◌-◌, ◌≤◌, ◌<◌, eqb, ltb, length, get_or, drop, replicate, Option}
use mathlib.Core.List.{List, [], ◌∷◌, ◌++◌, Memᴰ}
use contract.Lifetimes.{Lfts}
use Rattle.std.specs.Borrow.{Bor, MutBor}
use Rattle.storage.specs.Bytes.{bytes_of}
use Rattle.checks.specs.Checks.{Check, check}
use Rattle.checks.specs.Ports.{no_port}
use Rattle.identifier.specs.Identifier.{too_wide, wrong_source}
use Rattle.unit.specs.Count.{count_of, ports_of}
use Rattle.unit.specs.Model.{record_length}
use Rattle.unit.specs.PowerOn.{not_long}
use Rattle.unit.specs.Own.{is_unstarted, is_claiming}
use Rattle.delivery.specs.Calls.{Run}
use Rattle.unit.specs.declared.Unit.{Unit}
use Rattle.bridge.specs.Calls.{Call, FrameIn, TakeOut, Message, Start, Quiet, ReadUnit, ReadCounts}
use Rattle.flat_answers.specs.Answers.{take_words, bytes_of_taken}
use Rattle.deorasaeng.specs.Interface.{over}
use Rattle.deorasaeng.proofs.deorasaeng_power_on_ports.Reads as power_on
use Rattle.deorasaeng.proofs.deorasaeng_power_on.Reads as power_on_four
use Rattle.deorasaeng.proofs.deorasaeng_frame.Reads as frame
use Rattle.deorasaeng.proofs.deorasaeng_take.Reads as take_out
use Rattle.deorasaeng.proofs.deorasaeng_message.Reads as message
use Rattle.deorasaeng.proofs.deorasaeng_start.Reads as start
use Rattle.deorasaeng.proofs.deorasaeng_quiet.Reads as quiet
use Rattle.deorasaeng.proofs.deorasaeng_unit.Reads as unit
use Rattle.deorasaeng.proofs.deorasaeng_counts.Reads as counts
use Rattle.demand_1.specs.Demand1.{Exact, message_numbers, rest_of}
use Rattle.demand_2.specs.Demand2.{SameTo}
use Rattle.demand_3.specs.Demand3.{Answer, ToFrame, ToTake, ToMessage, ToStart, ToQuiet, ToUnit, ToCounts, Demand3}
use Rattle.demand_3.specs.Demand3 as demand_3
use Rattle.c_demands.specs.Exported.{Powered, PoweredFour, Arrived, Handed, Started, Quieted, ToldUnit, ToldCounts, TookQueue}
use Rattle.c_demands.specs.Exported.{Took as TookOut}
use Rattle.c_demands.specs.Words.{words_of_frame, words_of, words_of_start, words_of_unit, words_of_counts, unless_refused}

-- ---- 1. the exported calls
-- a call by its arguments, the lent words and bytes as they were, in the order of include/deorasaeng.h
pub data Exported : Type 0 where
  CFrame : (port id : ℕ) (bytes answer : List ℕ) → Exported
  CTake : (port : ℕ) (answer bytes : List ℕ) → Exported
  CMessage : (port requester : ℕ) (payload reply answer : List ℕ) → Exported
  CStart : (answer : List ℕ) → Exported
  CQuiet : Exported
  CUnit : (answer : List ℕ) → Exported
  CCounts : (port : ℕ) (answer : List ℕ) → Exported
  CTakeQueue : (port : ℕ) (answer bytes : List ℕ) → Exported

-- what it gave back: the number, and the lent words and bytes as they were left; none where none are lent
pub record Gave : Type 0 where
  pub number : ℕ
  pub told : List ℕ
  pub written : List ℕ

abbrev pub gave : ℕ → List ℕ → List ℕ → Gave
gave number told written = record { number = number; told = told; written = written }

-- An exported function was called on the record w and left it as w'; of the function its contract alone is known (Exported.antt).
pub data Made : List ℕ → Exported → Gave → List ℕ → Type 0 where
  frame_made : {w bytes answer w' told : List ℕ} {port id r : ℕ} → Arrived w port id bytes answer r w' told
      → Made w (CFrame port id bytes answer) (gave r told []) w'
  take_made : {w answer bytes w' told written : List ℕ} {port r : ℕ} → TookOut w port answer bytes r w' told written
      → Made w (CTake port answer bytes) (gave r told written) w'
  message_made : {w payload reply answer w' back told : List ℕ} {port requester r : ℕ} → Handed w port requester payload reply answer r w' back told
      → Made w (CMessage port requester payload reply answer) (gave r told back) w'
  start_made : {w answer w' told : List ℕ} {r : ℕ} → Started w answer r w' told → Made w (CStart answer) (gave r told []) w'
  quiet_made : {w w' : List ℕ} {r : ℕ} → Quieted w r w' → Made w CQuiet (gave r [] []) w'
  unit_made : {w answer told : List ℕ} {r : ℕ} → ToldUnit w answer r told → Made w (CUnit answer) (gave r told []) w
  counts_made : {w answer told : List ℕ} {port r : ℕ} → ToldCounts w port answer r told → Made w (CCounts port answer) (gave r told []) w
  queue_made : {w answer bytes w' told written : List ℕ} {port r : ℕ} → TookQueue w port answer bytes r w' told written
      → Made w (CTakeQueue port answer bytes) (gave r told written) w'

-- No exported function is missing.
pub record EveryCall : Type 0 where
  pub frames : {w bytes answer w' told : List ℕ} {port id r : ℕ} → Arrived w port id bytes answer r w' told
      → Made w (CFrame port id bytes answer) (gave r told []) w'
  pub takes : {w answer bytes w' told written : List ℕ} {port r : ℕ} → TookOut w port answer bytes r w' told written
      → Made w (CTake port answer bytes) (gave r told written) w'
  pub messages : {w payload reply answer w' back told : List ℕ} {port requester r : ℕ} → Handed w port requester payload reply answer r w' back told
      → Made w (CMessage port requester payload reply answer) (gave r told back) w'
  pub starts : {w answer w' told : List ℕ} {r : ℕ} → Started w answer r w' told → Made w (CStart answer) (gave r told []) w'
  pub quiets : {w w' : List ℕ} {r : ℕ} → Quieted w r w' → Made w CQuiet (gave r [] []) w'
  pub units : {w answer told : List ℕ} {r : ℕ} → ToldUnit w answer r told → Made w (CUnit answer) (gave r told []) w
  pub counts : {w answer told : List ℕ} {port r : ℕ} → ToldCounts w port answer r told → Made w (CCounts port answer) (gave r told []) w
  pub queues : {w answer bytes w' told written : List ℕ} {port r : ℕ} → TookQueue w port answer bytes r w' told written
      → Made w (CTakeQueue port answer bytes) (gave r told written) w'

-- ---- 2. as calls of the bridge
-- the answer's words and the frame's bytes are of their published lengths
abbrev pub lends : Exported → Bool
lends (CFrame port id bytes answer) = eqb (length answer) 8
lends (CTake port answer bytes) = eqb (length answer) 3 && eqb (length bytes) 8
lends (CMessage port requester payload reply answer) = eqb (length answer) 5
lends (CStart answer) = eqb (length answer) 2
lends CQuiet = true
lends (CUnit answer) = eqb (length answer) 5
lends (CCounts port answer) = eqb (length answer) 10
lends (CTakeQueue port answer bytes) = eqb (length answer) 3 && eqb (length bytes) 8

-- the bridge's call that it is then
abbrev pub call_of : Exported → Call
call_of (CFrame port id bytes answer) = FrameIn port id bytes
call_of (CTake port answer bytes) = TakeOut port
call_of (CMessage port requester payload reply answer) = Message port requester payload (length reply)
call_of (CStart answer) = Start
call_of CQuiet = Quiet
call_of (CUnit answer) = ReadUnit
call_of (CCounts port answer) = ReadCounts port
call_of (CTakeQueue port answer bytes) = TakeOut port

-- what it gave is that call's answer, in the words of Words.antt: "on a refusal the answer is left as it was"
pub data Tells : Exported → Answer → Gave → Type 0 where
  of_frame : {port id : ℕ} {bytes answer : List ℕ} {g : Gave} (r : FrameTold) → g ≡ gave r.refusal (unless_refused r.refusal (words_of_frame r) answer) []
      → Tells (CFrame port id bytes answer) (ToFrame r) g
  of_take : {port : ℕ} {answer bytes : List ℕ} {g : Gave} (taken : Option Frame) → g ≡ gave 0 (take_words taken) (bytes_of_taken taken bytes)
      → Tells (CTake port answer bytes) (ToTake (Took taken)) g
  of_refused_take : {port : ℕ} {answer bytes : List ℕ} {g : Gave} (number : ℕ) → (number ≡ 0 → ⊥) → g ≡ gave number answer bytes
      → Tells (CTake port answer bytes) (ToTake (TakeTold.Refused number)) g
  of_message : {port requester : ℕ} {payload reply answer : List ℕ} {g : Gave} (r : MessageTold) (written : List ℕ)
      → g ≡ gave r.refusal (words_of r) (over written reply) → Tells (CMessage port requester payload reply answer) (ToMessage r written) g
  of_start : {answer : List ℕ} {g : Gave} (r : StartTold) → g ≡ gave r.refusal (unless_refused r.refusal (words_of_start r) answer) [] → Tells (CStart answer) (ToStart r) g
  of_quiet : {g : Gave} (number : ℕ) → g ≡ gave number [] [] → Tells CQuiet (ToQuiet number) g
  of_unit_lem : {answer : List ℕ} {g : Gave} (own : Unit) → g ≡ gave 0 (words_of_unit own) [] → Tells (CUnit answer) (ToUnit (Told own)) g
  of_refused_unit : {answer : List ℕ} {g : Gave} (number : ℕ) → (number ≡ 0 → ⊥) → g ≡ gave number answer [] → Tells (CUnit answer) (ToUnit (UnitTold.Refused number)) g
  of_counts : {port : ℕ} {answer : List ℕ} {g : Gave} (r : CountsTold) → g ≡ gave r.refusal (unless_refused r.refusal (words_of_counts r.tally) answer) []
      → Tells (CCounts port answer) (ToCounts r) g
  of_queue : {port : ℕ} {answer bytes : List ℕ} {g : Gave} (taken : Option Frame) → g ≡ gave 0 (take_words taken) (bytes_of_taken taken bytes)
      → Tells (CTakeQueue port answer bytes) (ToTake (Took taken)) g

-- lent another length: refused with 2, or with 1 where there is no such port, and nothing is touched
abbrev pub portless : ℕ → ℕ → ℕ
portless ports port = cond (no_port ports port) 1 2

abbrev pub refused_lent : ℕ → Exported → Gave
refused_lent ports (CFrame port id bytes answer) = gave (portless ports port) answer []
refused_lent ports (CTake port answer bytes) = gave (portless ports port) answer bytes
refused_lent ports (CMessage port requester payload reply answer) = gave (portless ports port) answer reply
refused_lent ports (CStart answer) = gave 2 answer []
refused_lent ports CQuiet = gave 2 [] []
refused_lent ports (CUnit answer) = gave 2 answer []
refused_lent ports (CCounts port answer) = gave (portless ports port) answer []
refused_lent ports (CTakeQueue port answer bytes) = gave 2 answer bytes

-- the exported call c on the record w is the bridge's call
pub record IsCall (w : List ℕ) (c : Exported) (g : Gave) (w' : List ℕ) : Type 0 where
  pub answer : Answer
  pub made : demand_3.Made w (call_of c) answer w'
  pub tells : Tells c answer g

pub record IsNone (w : List ℕ) (c : Exported) (g : Gave) (w' : List ℕ) : Type 0 where
  pub unchanged : w' ≡ w
  pub refused : g ≡ refused_lent (ports_of w) c

-- the calls ks of the bridge, answered xs, are those that the exported calls cs are, which gave gs, on a unit of so many ports
pub data Same (ports : ℕ) : List Exported → List Gave → List Call → List Answer → Type 0 where
  none : Same ports [] [] [] []
  called : {c : Exported} {g : Gave} {x : Answer} {cs : List Exported} {gs : List Gave} {ks : List Call} {xs : List Answer}
      → lends c ≡ true → Tells c x g → Same ports cs gs ks xs → Same ports (c ∷ cs) (g ∷ gs) (call_of c ∷ ks) (x ∷ xs)
  passed : {c : Exported} {g : Gave} {cs : List Exported} {gs : List Gave} {ks : List Call} {xs : List Answer}
      → lends c ≡ false → g ≡ refused_lent ports c → Same ports cs gs ks xs → Same ports (c ∷ cs) (g ∷ gs) ks xs

-- ---- 3. "leaves there once, unchanged": the bytes that a take writes
-- a take of a frame, by either function
pub data Takes : Exported → Type 0 where
  by_port : {port : ℕ} {answer bytes : List ℕ} → Takes (CTake port answer bytes)
  by_queue : {port : ℕ} {answer bytes : List ℕ} → Takes (CTakeQueue port answer bytes)

-- what is handed in are bytes
abbrev pub Bytes : List Exported → Type 0
Bytes cs = (port id : ℕ) (bytes answer : List ℕ) → Memᴰ (CFrame port id bytes answer) cs → (i : ℕ) → get_or bytes i 0 < 256

-- The identifier, the length and the eight bytes are those of a frame that an earlier call handed in, with 0 past its length; or of the unit's own frame, with
-- the NAME of power-on.
pub data AsHandedIn (name : ℕ) (before : List Exported) (id len : ℕ) (written : List ℕ) : Type 0 where
  handed : (port : ℕ) (bytes answer : List ℕ) → Memᴰ (CFrame port id bytes answer) before → length bytes ≤ 8 → len ≡ length bytes
      → written ≡ bytes ++ replicate (8 - length bytes) 0 → AsHandedIn name before id len written
  of_unit : (address : ℕ) → (id ≡ 0x18EEFF00 + address) ⊎ (id ≡ 0x18EEFFFE) → len ≡ 8 → written ≡ bytes_of 8 name → AsHandedIn name before id len written

-- ---- 4. demand 1: the numbers of each function with their conditions, in the order in which they are given. Number 2 is for every lent length
abbrev pub numbers : List ℕ → Exported → List Check
numbers w (CFrame port id bytes answer) =
    check (no_port (ports_of w) port) 1
    ∷ check (not_long (ports_of w) (length w) || not (eqb (length answer) 8)) 2
    ∷ check (too_wide id) 3
    ∷ check (ltb 8 (length bytes)) 4
    ∷ check (wrong_source id) 5
    ∷ []
numbers w (CTake port answer bytes) = check (no_port (ports_of w) port) 1 ∷ check (not_long (ports_of w) (length w) || not (eqb (length answer) 3) || not (eqb (length bytes) 8)) 2 ∷ []
numbers w (CMessage port requester payload reply answer) =
    check (no_port (ports_of w) port) 1
    ∷ check (not_long (ports_of w) (length w) || ltb (length reply) 1785 || not (eqb (length answer) 5)) 2
    ∷ drop 2 (message_numbers (ports_of w) (length w) (length reply) (rest_of w) port requester payload)
numbers w (CStart answer) =
    check (not_long (ports_of w) (length w) || not (eqb (length answer) 2)) 2
    ∷ check (not (is_unstarted (rest_of w).own.claim)) 18
    ∷ check (ltb 253 (rest_of w).own.preferred) 8
    ∷ []
numbers w CQuiet = check (not_long (ports_of w) (length w)) 2 ∷ check (not (is_claiming (rest_of w).own.claim)) 18 ∷ []
numbers w (CUnit answer) = check (not_long (ports_of w) (length w) || not (eqb (length answer) 5)) 2 ∷ []
numbers w (CCounts port answer) = check (no_port (ports_of w) port) 1 ∷ check (not_long (ports_of w) (length w) || not (eqb (length answer) 10)) 2 ∷ []
numbers w (CTakeQueue port answer bytes) = check (not (eqb (length answer) 3) || not (eqb (length bytes) 8)) 2 ∷ []

-- ---- 5. the claim
-- The exported calls cs were made from power-on on, gave gs and left the record v.
pub record Listed (ports name preferred : ℕ) (cs : List Exported) (gs : List Gave) (v : List ℕ) : Type 0 where
  pub ks : List Call
  pub xs : List Answer
  pub same : Same ports cs gs ks xs
  pub demand_3 : Demand3 ports name preferred ks xs v
  pub unchanged : (before later : List Exported) (c : Exported) (gsBefore gsLater : List Gave) (id len : ℕ) (written : List ℕ) → Bytes cs
      → cs ≡ before ++ c ∷ later → gs ≡ gsBefore ++ gave 0 (1 ∷ id ∷ len ∷ []) written ∷ gsLater → length gsBefore ≡ length before → Takes c
      → AsHandedIn name before id len written

pub record CDemands : Type 0 where
  pub calls : EveryCall
  -- "Any frame, message, port number or buffer gets a defined answer": no function requires anything (Clauses.antt has all thirteen, by the clauses of the code)
  pub defined : ((κs : Lfts 1) (w : MutBor (List ℕ)) (name preferred count : ℕ) → power_on.Pre κs (w, (name, (preferred, (count, tt)))))
      × ((κs : Lfts 1) (w : MutBor (List ℕ)) (name preferred : ℕ) → power_on_four.Pre κs (w, (name, (preferred, tt))))
      × ((κs : Lfts 3) (w : MutBor (List ℕ)) (b : Bor (List ℕ)) (a : MutBor (List ℕ)) (port id : ℕ) → frame.Pre κs (w, (port, (id, (b, (a, tt))))))
      × ((κs : Lfts 3) (w a b : MutBor (List ℕ)) (port : ℕ) → take_out.Pre κs (w, (port, (a, (b, tt)))))
      × ((κs : Lfts 4) (w : MutBor (List ℕ)) (p : Bor (List ℕ)) (b a : MutBor (List ℕ)) (port requester : ℕ) → message.Pre κs (w, (port, (requester, (p, (b, (a, tt)))))))
      × ((κs : Lfts 2) (w a : MutBor (List ℕ)) → start.Pre κs (w, (a, tt)))
      × ((κs : Lfts 1) (w : MutBor (List ℕ)) → quiet.Pre κs (w, tt))
      × ((κs : Lfts 2) (w : Bor (List ℕ)) (a : MutBor (List ℕ)) → unit.Pre κs (w, (a, tt)))
      × ((κs : Lfts 2) (w : Bor (List ℕ)) (a : MutBor (List ℕ)) (port : ℕ) → counts.Pre κs (w, (port, (a, tt))))
  -- "Bad input is refused by a number" of docs/RULES.md; "a refusal changes no list, queue or table"
  pub exact : {w w' : List ℕ} {c : Exported} {g : Gave} → Made w c g w' → Exact (numbers w c) g.number × ((g.number ≡ 0 → ⊥) → w' ≡ w)
  -- what is said of the bridge's calls, demands 1 and 2 and the claims in any order too, is said of the exported ones: this is what they are
  pub is_call : {w w' : List ℕ} {c : Exported} {g : Gave} → length w ≡ record_length (ports_of w) → Made w c g w' → lends c ≡ true → IsCall w c g w'
  pub is_none : {w w' : List ℕ} {c : Exported} {g : Gave} → Made w c g w' → lends c ≡ false → IsNone w c g w'
  -- "reply and refusal are the same whatever the lists and address tables hold beyond p's own pairs and the addresses recorded on p"
  pub private : {w other payload reply answer w' back told other' back₂ told₂ : List ℕ} {p requester r r₂ : ℕ}
      → 2 ≤ p → p ≤ ports_of w → ports_of w ≡ ports_of other → length w ≡ length other → SameTo p w other
      → Handed w p requester payload reply answer r w' back told → Handed other p requester payload reply answer r₂ other' back₂ told₂
      → (r ≡ r₂) × (back ≡ back₂) × (told ≡ told₂)
  -- "For every list of calls on one unit from one power-on to the next"
  pub every : {w u : List ℕ} {name preferred count r : ℕ} → Powered w name preferred count r u → (r ≡ 2 → ⊥)
      → (cs : List Exported) (gs : List Gave) (v : List ℕ) → Run Made u cs gs v → Listed (count_of count) name preferred cs gs v
  pub none : {w u : List ℕ} {name preferred count r : ℕ} → Powered w name preferred count r u → r ≡ 2 → u ≡ w
  -- `deorasaeng_power_on` is a power-on with four ports
  pub four : {w u : List ℕ} {name preferred r : ℕ} → PoweredFour w name preferred r u
      → ((r ≡ 2 → ⊥) → (cs : List Exported) (gs : List Gave) (v : List ℕ) → Run Made u cs gs v → Listed 4 name preferred cs gs v) × (r ≡ 2 → u ≡ w)
