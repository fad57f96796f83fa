-- docs/RULES.md, "Parameters": what a tool is answered that asks for a parameter or resets one, by the bytes of its message and what the record holds, for
-- every number of ports. The quoted words are ticket 8's. `parameters` of proofs/Parameters.antt proves it.
-- Assumes nothing.
use Rattle.message_answers.specs.Messages.{MessageTold}
use Rattle.std.specs.Prelude.{◌≡◌, ◌⊎◌, true, not, cond, ◌&&◌, ◌||◌, List, [], ◌∷◌, ℕ, ◌+◌, ◌-◌, ◌*◌, ◌/◌, ◌%◌, length, get_or, take, drop, eqb}
use Rattle.filter.specs.Filter.{Filter, clear}
use Rattle.entries.specs.Entries.{listed}
use Rattle.checks.specs.Ports.{is_port}
use Rattle.unit.specs.Count.{ports_of}
use Rattle.unit.specs.Model.{pair_at, model_of}
use Rattle.made.specs.Made.{Handed}
use Rattle.demand_1.specs.Demand1.{function, from, to, parameter, rest_of, message_numbers, none_applies}

-- ---- its number
-- what stands before 23: "The general functions are port 1's alone (11)", and their pair byte is ignored; the others name one pair, To 15 is none, and a tool
-- on another port names its own
abbrev pub in_general : ℕ → ℕ → ℕ
in_general port late = cond (not (eqb port 1)) 11 late

abbrev pub of_aPair : ℕ → ℕ → List ℕ → ℕ → ℕ
of_aPair ports port payload late =
    cond (not (is_port ports (from payload) && (is_port ports (to payload) && not (eqb (from payload) (to payload))))) 10
    (cond (not (eqb port 1 || (eqb (from payload) port || eqb (to payload) port))) 11
    late)

-- "23 parameter not held, or a reset of one other than 9"; 12: "Each has 8 bytes"
abbrev pub if_held : List ℕ → ℕ
if_held payload = cond (not (listed (parameter payload) (1 ∷ 2 ∷ 3 ∷ 9 ∷ []))) 23 (cond (not (eqb (length payload) 8)) 12 0)

abbrev pub if_nine : List ℕ → ℕ
if_nine payload = cond (not (eqb (parameter payload) 9)) 23 (cond (not (eqb (length payload) 8)) 12 0)

-- of a message that none of 1 to 8 refuses
pub record Numbered (words payload : List ℕ) (port : ℕ) (r : MessageTold) : Type 0 where
  pub request : function payload ≡ 128 → r.refusal ≡ in_general port (if_held payload)
  pub reset : function payload ≡ 130 → r.refusal ≡ in_general port (if_nine payload)
  pub pair_request : function payload ≡ 131 → r.refusal ≡ of_aPair (ports_of words) port payload (if_held payload)
  pub pair_reset : function payload ≡ 133 → r.refusal ≡ of_aPair (ports_of words) port payload (if_nine payload)
  -- "A reply sent to us gets 9"
  pub reply : (function payload ≡ 129) ⊎ (function payload ≡ 132) → r.refusal ≡ 9

-- ---- what is written
-- "8 bytes: function, pair byte .., parameter, in a reply the value in two bytes, least significant first", and FF; the rest of the buffer is untouched
pub record Says (lent back : List ℕ) (r : MessageTold) (function pair parameter value : ℕ) : Type 0 where
  pub bytes : back ≡ function ∷ pair ∷ parameter ∷ value % 256 ∷ value / 256 ∷ 0xFF ∷ 0xFF ∷ 0xFF ∷ drop 8 lent
  pub pgn : r.pgn ≡ 60672
  pub length : r.length ≡ 8

-- "Entries are those of the plain lists"
abbrev pub entries_in : List Filter → ℕ
entries_in [] = 0
entries_in (f ∷ fs) = length f.entries + entries_in fs

-- the counters of losses: the pairs', in the pairs' order, and the general one behind them
abbrev pub losses_in : List ℕ → List ℕ
losses_in words = (model_of (ports_of words) words).seen.losses

-- the place of the pair that a payload names
abbrev pub pair_place : List ℕ → List ℕ → ℕ
pair_place words payload = pair_at (ports_of words) (from payload - 1) (to payload - 1)

-- "parameters 1, 2, 3 and 9 (buffer size, list size, entries, messages lost to a full buffer)": "416 and 96 for a pair, .. 1,664 and 1,152 in general" with
-- four ports, and in general with n a queue of 416 for each port and a list of 96 for each of the n(n - 1) pairs
pub record Replied (words payload lent back : List ℕ) (r : MessageTold) : Type 0 where
  pub buffer : function payload ≡ 128 → parameter payload ≡ 1 → Says lent back r 129 0xFF 1 (416 * ports_of words)
  pub list : function payload ≡ 128 → parameter payload ≡ 2 → Says lent back r 129 0xFF 2 (96 * (ports_of words * (ports_of words - 1)))
  pub entries : function payload ≡ 128 → parameter payload ≡ 3 → Says lent back r 129 0xFF 3 (entries_in (rest_of words).pairs)
  pub lost : function payload ≡ 128 → parameter payload ≡ 9 → Says lent back r 129 0xFF 9 (get_or (losses_in words) (ports_of words * (ports_of words - 1)) 0)
  pub pair_buffer : function payload ≡ 131 → parameter payload ≡ 1 → Says lent back r 132 (get_or payload 1 0) 1 416
  pub pair_list : function payload ≡ 131 → parameter payload ≡ 2 → Says lent back r 132 (get_or payload 1 0) 2 96
  pub pair_entries : function payload ≡ 131 → parameter payload ≡ 3
      → Says lent back r 132 (get_or payload 1 0) 3 (length (get_or (rest_of words).pairs (pair_place words payload) clear).entries)
  pub pair_lost : function payload ≡ 131 → parameter payload ≡ 9 → Says lent back r 132 (get_or payload 1 0) 9 (get_or (losses_in words) (pair_place words payload) 0)

-- "a reset done is acknowledged like Clear"
pub record Acknowledged (lent back : List ℕ) (r : MessageTold) (function requester : ℕ) : Type 0 where
  pub bytes : back ≡ 0x00 ∷ function ∷ 0xFF ∷ 0xFF ∷ requester ∷ 0x00 ∷ 0xED ∷ 0x00 ∷ drop 8 lent
  pub pgn : r.pgn ≡ 59392
  pub length : r.length ≡ 8

-- ---- the whole
pub record Parameters : Type 0 where
  pub number : {words payload lent after back : List ℕ} {port requester : ℕ} {r : MessageTold} → Handed words port requester payload lent r after back
      → none_applies (take 5 (message_numbers (ports_of words) (length words) (length lent) (rest_of words) port requester payload)) ≡ true
      → Numbered words payload port r
  pub replied : {words payload lent after back : List ℕ} {port requester : ℕ} {r : MessageTold} → Handed words port requester payload lent r after back
      → r.refusal ≡ 0 → Replied words payload lent back r
  pub acknowledged : {words payload lent after back : List ℕ} {port requester : ℕ} {r : MessageTold} → Handed words port requester payload lent r after back
      → r.refusal ≡ 0 → (function payload ≡ 130) ⊎ (function payload ≡ 133) → Acknowledged lent back r (function payload) requester
