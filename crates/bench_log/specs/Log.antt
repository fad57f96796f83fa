-- docs/RULES.md, "The bench log": the calls of a log. Assumes nothing.
use Rattle.std.specs.Prelude.{ℕ, zero, suc, Bool, cond, List, [], ◌∷◌, eqb, ltb, length, take, drop, get_or, replicate}
use Rattle.bench_records.specs.Records.{kind_of, size_of, log_number, id_of}
use Rattle.bridge.specs.Calls.{Call, FrameIn, TakeOut}

-- The bytes of a frame. A record has eight: of a frame that is said to be longer none is read, and it is refused for its length (4).
abbrev pub bytes_in : List ℕ → List ℕ
bytes_in log = cond (ltb 8 (get_or log 6 0)) (replicate (get_or log 6 0) 0) (take (get_or log 6 0) (drop 7 log))

-- the call that a record stands for
unfoldable pub call_of : List ℕ → Call
call_of log = cond (eqb (kind_of log) 1) (FrameIn (get_or log 1 0) (id_of log) (bytes_in log)) (TakeOut (get_or log 1 0))

-- ---- a log
abbrev pub is_record : List ℕ → Bool
is_record log = eqb (log_number log) 0

abbrev pub after : List ℕ → List ℕ
after log = drop (size_of (kind_of log)) log

-- the calls of the first records, as long as there are whole ones, at most n
unfoldable pub calls_in : ℕ → List ℕ → List Call
calls_in zero log = []
calls_in (suc n) log = cond (is_record log) (call_of log ∷ calls_in n (after log)) []

-- what follows them
unfoldable pub rest_in : ℕ → List ℕ → List ℕ
rest_in zero log = log
rest_in (suc n) log = cond (is_record log) (rest_in n (after log)) log

-- of a whole log, which has no more records than bytes
abbrev pub calls_of : List ℕ → List Call
calls_of log = calls_in (length log) log

abbrev pub rest_of : List ℕ → List ℕ
rest_of log = rest_in (length log) log
