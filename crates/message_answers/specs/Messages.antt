-- docs/RULES.md, "Network messages": what a message does, and what is written back. What a payload says is the crate `network_message`'s.
-- Assumes nothing.
use Rattle.std.specs.Prelude.{ℕ, ◌+◌, ◌-◌, cond, ◌≡◌, List, eqb, length, get_or, set}
use Rattle.filter.specs.Filter.{Filter, clear}
use Rattle.entries.specs.Entries.{entries_of}
use Rattle.network_message.specs.Asked.{Asked, Refused, Request, WithEntries, Clear, AddressList, Parameter, Reset, PairParameter, PairReset}
use Rattle.network_message.specs.Decoding.{function_of, pair_of, between}
use Rattle.replies.specs.Replies.{control_of, acknowledgment, list_reply, address_reply, parameter_reply}
use Rattle.unit.specs.Model.{Rest, Seen, pair_at, general_at, losses_from}
use Rattle.parameters.specs.Parameters.{pair_parameter, general_parameter}
use Rattle.filter_commands.specs.declared.pairs.Change.{Change}
use Rattle.list_commands.specs.Commands.{Beside, change_named, list_refusal, commanded, absent_at}
use Rattle.list_commands.specs.declared.Absent.{Absent}

-- what a message does: the number that it is refused with, the pairs and the counters of losses then, the PGN and the bytes that are written. The bytes alone
-- may show what is only looked at
pub record Replied : Type 0 where
  pub number : ℕ
  pub pairs : List Filter
  pub losses : List ℕ → List ℕ
  pub pgn : ℕ
  pub written : Seen → List ℕ
  -- which entry was wrong
  pub told : Absent

abbrev pub nothing_told : Absent
nothing_told = record { entry = 0; to = 0; pgn = 0 }

-- "With 22 the answer to the caller gives the first such entry's number from 1."
abbrev pub wrong_told : ℕ → Absent
wrong_told entry = record { entry = entry; to = 0; pgn = 0 }

-- "For 17, give the first pair in rising To order and the first PGN in it that is absent."
unfoldable pub absent_told : ℕ → ℕ → List ℕ → ℕ → ℕ → List Filter → Absent
absent_told ports number xs from to pairs = cond (eqb number 17) (absent_at ports xs from to pairs) nothing_told

-- PGN 59392, "0, the function, FF, FF, the requester's address, 00, ED, 00", or with 1 or 2 for a refusal
abbrev pub acknowledged : ℕ → ℕ → List ℕ → List Filter → Absent → Replied
acknowledged number requester payload pairs told = record {
  number = number;
  pairs = pairs;
  losses = λ losses. losses;
  pgn = 59392;
  written = λ seen. acknowledgment (control_of number) (function_of payload) requester;
  told = told;
}

abbrev pub replied : (Seen → List ℕ) → List Filter → Replied
replied bytes pairs = record { number = 0; pairs = pairs; losses = λ losses. losses; pgn = 60672; written = bytes; told = nothing_told }

-- "A reset touches the named counter only", in place i; "a reset done is acknowledged like Clear"
abbrev pub reset_at : ℕ → ℕ → List ℕ → List Filter → Replied
reset_at i requester payload pairs = record {
  number = 0;
  pairs = pairs;
  losses = λ losses. set losses i 0;
  pgn = 59392;
  written = λ seen. acknowledgment 0 (function_of payload) requester;
  told = nothing_told;
}

-- Add, Delete, Create or Add by NAME on the pairs, with its entries
abbrev pub changed_by : ℕ → Rest → ℕ → List ℕ → Change → ℕ → ℕ → ℕ → ℕ → Replied
changed_by ports rest requester payload change from to start end =
    acknowledged (list_refusal ports change (entries_of (between start end payload)) from to rest.pairs) requester payload
    (commanded ports change (entries_of (between start end payload)) from to rest.pairs)
    (absent_told ports (list_refusal ports change (entries_of (between start end payload)) from to rest.pairs) (entries_of (between start end payload)) from to rest.pairs)

-- Clear, which nothing refuses
abbrev pub cleared_by : ℕ → Rest → ℕ → List ℕ → ℕ → ℕ → Replied
cleared_by ports rest requester payload from to =
    acknowledged 0 requester payload (change_named ports (ports - 1) (λ _. clear) from to rest.pairs) nothing_told

unfoldable pub performed_by : ℕ → Rest → ℕ → List ℕ → Asked → Replied
performed_by ports rest requester payload (Refused number entry) = acknowledged number requester payload rest.pairs (wrong_told entry)
performed_by ports rest requester payload (Request from to) =
    replied (λ seen. list_reply (pair_of payload) (get_or rest.pairs (pair_at ports (from - 1) (to - 1)) clear)) rest.pairs
performed_by ports rest requester payload (WithEntries change from to start end) = changed_by ports rest requester payload change from to start end
performed_by ports rest requester payload (Clear from to) = cleared_by ports rest requester payload from to
performed_by ports rest requester payload (AddressList port) = replied (λ seen. address_reply port rest.own.address rest.table) rest.pairs
performed_by ports rest requester payload (Parameter parameter) =
    replied (λ seen. parameter_reply 129 0xFF parameter (general_parameter ports rest seen parameter)) rest.pairs
performed_by ports rest requester payload Reset = reset_at (general_at ports) requester payload rest.pairs
performed_by ports rest requester payload (PairParameter from to parameter) =
    replied (λ seen. parameter_reply 132 (pair_of payload) parameter (pair_parameter ports rest seen (from - 1) (to - 1) parameter)) rest.pairs
performed_by ports rest requester payload (PairReset from to) = reset_at (pair_at ports (from - 1) (to - 1)) requester payload rest.pairs

-- word n of the record lies outside the blocks of the pairs that a command changes, and is not the counter that it resets
abbrev pub Untouched : ℕ → Asked → ℕ → Type 0
Untouched ports (Refused number entry) = λ n. Unit {0}
Untouched ports (Request from to) = λ n. Unit {0}
Untouched ports (WithEntries change from to start end) = Beside ports from to
Untouched ports (Clear from to) = Beside ports from to
Untouched ports (AddressList port) = λ n. Unit {0}
Untouched ports (Parameter parameter) = λ n. Unit {0}
Untouched ports Reset = λ n. n ≡ losses_from ports + general_at ports → ⊥
Untouched ports (PairParameter from to parameter) = λ n. Unit {0}
Untouched ports (PairReset from to) = λ n. n ≡ losses_from ports + pair_at ports (from - 1) (to - 1) → ⊥

-- "The answer gives the PGN and the length of what was written, 0 and 0 for nothing; buffer bytes past that length are untouched."
-- `told`: with 22 the number from 1 of the first entry that is no PGN; with 17 where a PGN is absent; else 0
pub record MessageTold : Type 0 where
  pub refusal : ℕ
  pub pgn : ℕ
  pub length : ℕ
  pub told : Absent

abbrev pub message_answer : Replied → Seen → MessageTold
message_answer r seen = record { refusal = r.number; pgn = r.pgn; length = length (r.written seen); told = r.told }
