-- Ticket 9: "Frames written as candump text .. and read again are the same frames", by the contracts of the two turnings, and of our records.
-- `record_again` and `there_and_back` of proofs/ prove it. Assumes nothing.
use Rattle.std.specs.Prelude.{◌≡◌, List, ℕ, ◌≤◌, length, take, Result, Ok, IsOkAnd}
use Rattle.candump.specs.declared.Arrival.{Arrival}
use Rattle.candump.specs.declared.refusal.Refusal.{Refusal}
use Rattle.candump.specs.Line.{Good}
use Rattle.bench_records.specs.Records.{record_of, arrival_of}
use Rattle.bench_records.specs.Turning.{ToRecord, ToText}

-- the record of a frame, read again, is that frame
abbrev pub RecordAgain : Arrival → Type 0
RecordAgain a = Good a → arrival_of (record_of a) ≡ a

-- a frame's record was turned into a line, and that line into a record: neither is refused, and it is the same record
abbrev pub ThereAndBack : Arrival → Type 0
ThereAndBack a =
    (lent back lent' back' : List ℕ) (w : Result ℕ Refusal) (r : Result Unit Refusal) → Good a → 51 ≤ length lent → 15 ≤ length lent' → ToText (record_of a) lent back w
    → IsOkAnd w (λ n. ToRecord (take n back) lent' back' r → (r ≡ Ok tt) × (take 15 back' ≡ record_of a))
