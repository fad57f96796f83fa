-- docs/RULES.md, "Network messages" and "Parameters", and its numbers 9 to 13, 22 and 23: what a payload says. All is over the number of ports; ports are
-- counted from 1 here, as on the wire.
-- Assumes nothing.
use Rattle.std.specs.Prelude.{Bool, true, cond, not, ◌&&◌, ◌||◌, List, [], ◌∷◌, ℕ, ◌+◌, ◌-◌, ◌/◌, ◌%◌, length, get_or, take, drop, ltb, eqb}
use Rattle.std.specs.List.{list_all}
use Rattle.storage.specs.Bytes.{packed}
use Rattle.entries.specs.Entries.{listed, entries_of, whole, first_wrong}
use Rattle.network_message.specs.Asked.{Asked, Refused, Request, WithEntries, Clear, AddressList, Parameter, Reset, PairParameter, PairReset}
use Rattle.filter_commands.specs.declared.pairs.Change.TheVariants.{Adds, Deletes, Creates, Names}
use Rattle.checks.specs.Checks.{Check, check, first}
use Rattle.checks.specs.Ports.{is_port}

-- number 7: a message has at most 1,785 bytes; number 2: a reply buffer has room for them
abbrev pub longest : ℕ
longest = 1785

-- byte 1
abbrev pub function_of : List ℕ → ℕ
function_of payload = get_or payload 0 0

-- "Byte 2 holds From in the upper four bits, To in the lower"
abbrev pub pair_of : List ℕ → ℕ
pair_of payload = get_or payload 1 0

abbrev pub from_of : ℕ → ℕ
from_of pair = pair / 16

abbrev pub to_of : ℕ → ℕ
to_of pair = pair % 16

-- byte 3 of a parameter's function; bytes 4 to 8 are not read
abbrev pub parameter_of : List ℕ → ℕ
parameter_of payload = get_or payload 2 0

-- the bytes from `start` up to `end`, counted from 0
abbrev pub between : ℕ → ℕ → List ℕ → List ℕ
between start end payload = take (end - start) (drop start payload)

-- "function 7 in 23 bytes: 7, pair byte, PGN, NAME, mask, and two of rate reduction, ignored; least significant byte first":
-- bytes 3 to 5 are the PGN, 6 to 13 the NAME and 14 to 21 the mask; 22 and 23 are not read
abbrev pub name_entry_length : ℕ
name_entry_length = 23

unfoldable pub name_of : List ℕ → ℕ
name_of payload = packed (between 5 13 payload)

unfoldable pub mask_of : List ℕ → ℕ
mask_of payload = packed (between 13 21 payload)

-- ---- 9: function not listed
-- 0 Request, 2 Add, 3 Delete, 4 Clear, 6 Create, 7 Add by NAME, 64 the address list; 128 the general request for a parameter, 130 the general reset,
-- 131 and 133 a pair's; "a reply sent to us gets 9": 129 and 132 are not listed
unfoldable pub is_known : ℕ → Bool
is_known function = listed function (0 ∷ 2 ∷ 3 ∷ 4 ∷ 6 ∷ 7 ∷ 64 ∷ 128 ∷ 130 ∷ 131 ∷ 133 ∷ [])

-- the general functions, of the unit as a whole
unfoldable pub is_general : ℕ → Bool
is_general function = listed function (128 ∷ 130 ∷ [])

-- ---- 10: port outside 1 to the number of ports (and 15 as allowed), or From equals To
-- "To may be 15, all pairs from that port, in functions 2, 3, 4 and 6"; in 7 "To 15 not allowed"
abbrev pub all_ports : ℕ
all_ports = 15

unfoldable pub may_be_all : ℕ → Bool
may_be_all function = listed function (2 ∷ 3 ∷ 4 ∷ 6 ∷ [])

unfoldable pub is_pair : ℕ → ℕ → ℕ → ℕ → Bool
is_pair ports function from to =
    is_port ports from && ((is_port ports to || (eqb to all_ports && may_be_all function)) && not (eqb from to))

-- 64: "port in the lower half of byte 2, upper half ignored"; "pair byte (general: ignored ..)"
unfoldable pub names_ports : ℕ → ℕ → ℕ → ℕ → Bool
names_ports ports function from to =
    is_general function || cond (eqb function 64) (is_port ports to) (is_pair ports function from to)

-- ---- 11: pair or port not this tool's
-- "A tool on port 1 may name any pair or port. On port p of 2 to 4, every named pair must have p as From or To, and 64 must name p."
-- All pairs from another port are the tool's where that is one pair, in a unit of two ports (`right_exact` of the proofs).
-- "The general functions are port 1's alone"
unfoldable pub may_name : ℕ → ℕ → ℕ → ℕ → ℕ → Bool
may_name ports port function from to =
    eqb port 1
    || (not (is_general function) && (eqb to port || (not (eqb function 64) && (eqb from port || (eqb to all_ports && eqb ports 2)))))

-- ---- 23: parameter not held, or a reset of one other than 9
-- 1 buffer size, 2 list size, 3 entries, 9 messages lost to a full buffer
abbrev pub is_held : ℕ → Bool
is_held parameter = listed parameter (1 ∷ 2 ∷ 3 ∷ 9 ∷ [])

unfoldable pub holds_parameter : ℕ → ℕ → Bool
holds_parameter function parameter =
    cond (listed function (128 ∷ 131 ∷ [])) (is_held parameter)
    (cond (listed function (130 ∷ 133 ∷ [])) (eqb parameter 9)
    true)

-- ---- 12: body wrong: length or filling
-- Add, Delete and Create hold entries
abbrev pub has_entries : ℕ → Bool
has_entries function = listed function (2 ∷ 3 ∷ 6 ∷ [])

-- "entries from byte 3", in Create "from byte 4"; bytes are counted from 0 here
abbrev pub entries_start : ℕ → ℕ
entries_start function = cond (eqb function 6) 3 2

-- "Only an 8-byte payload may have filling: after the first entry", FF to the last byte; "longer ones hold entries to the last byte"
unfoldable pub is_filling : List ℕ → Bool
is_filling bytes = list_all (λ b. eqb b 0xFF) bytes

unfoldable pub entries_end : ℕ → List ℕ → ℕ
entries_end start payload = cond (eqb (length payload) 8 && is_filling (drop (start + 3) payload)) (start + 3) (length payload)

unfoldable pub holds_entries : ℕ → List ℕ → Bool
holds_entries start payload = whole (between start (entries_end start payload) payload)

-- Add by NAME is of 23 bytes, the others are of 8
unfoldable pub has_good_body : ℕ → List ℕ → Bool
has_good_body function payload =
    cond (has_entries function) (holds_entries (entries_start function) payload)
    (cond (eqb function 7) (eqb (length payload) name_entry_length)
    (eqb (length payload) 8))

-- ---- 22: three bytes that aren't a PGN
-- "the first such entry's number from 1", 0 where there is none
unfoldable pub wrong_in : ℕ → List ℕ → ℕ
wrong_in start payload = first_wrong (entries_of (between start (entries_end start payload) payload))

-- of Add by NAME its one PGN, in bytes 3 to 5
unfoldable pub wrong_entry : ℕ → List ℕ → ℕ
wrong_entry function payload =
    cond (has_entries function) (wrong_in (entries_start function) payload)
    (cond (eqb function 7) (first_wrong (entries_of (between 2 5 payload)))
    0)

-- ---- 13: Create mode, in byte 3, not 0 or 1
unfoldable pub has_wrong_mode : ℕ → List ℕ → Bool
has_wrong_mode function payload = eqb function 6 && ltb 1 (get_or payload 2 0)

-- ---- the whole
abbrev pub payload_checks : ℕ → ℕ → ℕ → ℕ → ℕ → List ℕ → List Check
payload_checks ports port function from to payload =
    check (not (is_known function)) 9
    ∷ check (not (names_ports ports function from to)) 10
    ∷ check (not (may_name ports port function from to)) 11
    ∷ check (not (holds_parameter function (parameter_of payload))) 23
    ∷ check (not (has_good_body function payload)) 12
    ∷ check (not (eqb (wrong_entry function payload) 0)) 22
    ∷ check (has_wrong_mode function payload) 13
    ∷ []

unfoldable pub refusal_of : ℕ → ℕ → ℕ → ℕ → ℕ → List ℕ → ℕ
refusal_of ports port function from to payload = first (payload_checks ports port function from to payload)

unfoldable pub command_of : ℕ → ℕ → ℕ → List ℕ → Asked
command_of function from to payload =
    cond (eqb function 0) (Request from to)
    (cond (eqb function 2) (WithEntries Adds from to 2 (entries_end 2 payload))
    (cond (eqb function 3) (WithEntries Deletes from to 2 (entries_end 2 payload))
    (cond (eqb function 4) (Clear from to)
    (cond (eqb function 6) (WithEntries (Creates (eqb (get_or payload 2 0) 1)) from to 3 (entries_end 3 payload))
    (cond (eqb function 7) (WithEntries (Names (name_of payload) (mask_of payload)) from to 2 5)
    (cond (eqb function 64) (AddressList to)
    (cond (eqb function 128) (Parameter (parameter_of payload))
    (cond (eqb function 130) Reset
    (cond (eqb function 131) (PairParameter from to (parameter_of payload))
    (PairReset from to))))))))))

-- what a payload is judged: the number that refuses it, and with 22 which entry
pub record Judged : Type 0 where
  pub number : ℕ
  pub entry : ℕ

unfoldable pub judged : ℕ → ℕ → ℕ → ℕ → ℕ → List ℕ → Judged
judged ports port function from to payload = record {
  number = refusal_of ports port function from to payload;
  entry = cond (eqb (refusal_of ports port function from to payload) 22) (wrong_entry function payload) 0;
}

-- a payload that arrived at a port is refused with the first number that applies, else it is its command
abbrev pub answered : Judged → Asked → Asked
answered j command = cond (eqb j.number 0) command (Refused j.number j.entry)

unfoldable pub decoded : ℕ → ℕ → List ℕ → Asked
decoded ports port payload =
    answered
    (judged ports port (function_of payload) (from_of (pair_of payload)) (to_of (pair_of payload)) payload)
    (command_of (function_of payload) (from_of (pair_of payload)) (to_of (pair_of payload)) payload)
