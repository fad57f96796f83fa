-- What a payload asks, in the words of the rules: a command, or the number that refuses it, with 22 the first wrong entry's number from 1, else 0.
-- Ports are counted from 1, and a `to` of 15 is all pairs from that port. The entries are the payload's bytes from `start` up to `end`.
-- Assumes nothing.
use Rattle.std.specs.Prelude.{ℕ, Result, Ok, Err}
use Rattle.checks.specs.Refusals.{number}
use Rattle.filter_commands.specs.declared.pairs.Change.{Change}
use Rattle.network_message.specs.declared.Command.{Command}
use Rattle.network_message.specs.declared.Wrong.{Wrong}

pub data Asked : Type 0 where
  Refused : (number entry : ℕ) → Asked
  Request : (from to : ℕ) → Asked
  WithEntries : (change : Change) (from to start end : ℕ) → Asked
  Clear : (from to : ℕ) → Asked
  AddressList : (port : ℕ) → Asked
  Parameter : (parameter : ℕ) → Asked
  Reset : Asked
  PairParameter : (from to parameter : ℕ) → Asked
  PairReset : (from to : ℕ) → Asked

-- the number that refuses a payload, and which entry is wrong
abbrev pub wrong_number : Wrong → ℕ
wrong_number (Wrong.Entry entry) = 22
wrong_number (Wrong.Refused refusal) = number refusal

abbrev pub wrong_at : Wrong → ℕ
wrong_at (Wrong.Entry entry) = entry
wrong_at (Wrong.Refused refusal) = 0

-- what the decoder gives
abbrev pub asked_by : Command → Asked
asked_by (Command.Request from to) = Request from to
asked_by (Command.WithEntries change from to start end) = WithEntries change from to start end
asked_by (Command.Clear from to) = Clear from to
asked_by (Command.AddressList port) = AddressList port
asked_by (Command.Parameter parameter) = Parameter parameter
asked_by Command.Reset = Reset
asked_by (Command.PairParameter from to parameter) = PairParameter from to parameter
asked_by (Command.PairReset from to) = PairReset from to

abbrev pub asked : Result Command Wrong → Asked
asked (Ok command) = asked_by command
asked (Err wrong) = Refused (wrong_number wrong) (wrong_at wrong)
