-- What the code answers to a message, in the words of the rules: the number that refuses it, 0 for none, and what is told of an entry.
-- Assumes nothing.
use Rattle.std.specs.Prelude.{ℕ, Result, Ok, Err}
use Rattle.checks.specs.Refusals.{number}
use Rattle.network_message.specs.declared.Wrong.{Wrong}
use Rattle.list_commands.specs.declared.Absent.{Absent}
use Rattle.message_answers.specs.declared.Denied.{Denied}
use Rattle.message_answers.specs.declared.MessageAnswer.{MessageAnswer}
use Rattle.message_answers.specs.Messages.{MessageTold, nothing_told, wrong_told}

abbrev pub denied_by : Wrong → Denied
denied_by (Wrong.Entry entry) = Denied.WrongEntry entry
denied_by (Wrong.Refused refusal) = Denied.Refused refusal

abbrev pub denied_number : Denied → ℕ
denied_number (Denied.WrongEntry entry) = 22
denied_number (Denied.Absent absent) = 17
denied_number (Denied.Refused refusal) = number refusal

abbrev pub denied_told : Denied → Absent
denied_told (Denied.WrongEntry entry) = wrong_told entry
denied_told (Denied.Absent absent) = absent
denied_told (Denied.Refused refusal) = nothing_told

abbrev pub outcome_number : Result (Unit {0}) Denied → ℕ
outcome_number (Ok done) = 0
outcome_number (Err denied) = denied_number denied

abbrev pub outcome_told : Result (Unit {0}) Denied → Absent
outcome_told (Ok done) = nothing_told
outcome_told (Err denied) = denied_told denied

abbrev pub message_told : MessageAnswer → MessageTold
message_told a = record { refusal = outcome_number a.outcome; pgn = a.pgn; length = a.length; told = outcome_told a.outcome }
