-- What the judging of a payload gives, in the words of the rules: the number that refuses it, 0 for none, and with 22 which entry.
-- Assumes nothing.
use Rattle.std.specs.Prelude.{Result, Ok, Err}
use Rattle.network_message.specs.declared.Wrong.{Wrong}
use Rattle.network_message.specs.Asked.{wrong_number, wrong_at}
use Rattle.network_message.specs.Decoding.{Judged}

abbrev pub judgement : Result (Unit {0}) Wrong → Judged
judgement (Ok done) = record { number = 0; entry = 0 }
judgement (Err wrong) = record { number = wrong_number wrong; entry = wrong_at wrong }
