-- The records of a log: one, then the rest; and a record that is whole in a piece is the same in the log. Assumes nothing.
use mathlib.Core.Path.{◌≡◌, refl, sym, ap, ◌∙◌}
use mathlib.Core.Bool.{Bool, true, false, cond, ◌||◌}
use mathlib.Core.List.{List, [], ◌∷◌, ◌++◌}
use Prim.Native.Nat.{ℕ, zero, suc, ◌-◌, ◌≤◌, ◌<◌}
use native.Mathlib.Omega.{arith}
use borrow.Author.Tests.{le-ltb, ltb-false, eqb-true}
use lib.Dec.{eqb, ltb}
use lib.ListN.{length, drop, get_or, length-drop, length-append, get_or-append}
use lib.Seq.{take-append-le, drop-append-le}
use Rattle.bench_records.specs.Records.{kind_of, size_of, log_number, id_of}
use Rattle.bench_records.proofs.Numbers.{size_least, cut_number, record_whole}
use Rattle.bridge.specs.Calls.{FrameIn, TakeOut}
use Rattle.bench_log.specs.Log.{bytes_in, call_of, is_record, after, calls_in, rest_in, calls_of, rest_of}

-- an empty log has no record: kind 0
empty : (log : List ℕ) → length log ≤ 0 → is_record log ≡ false
unfolding log_number
empty [] h = refl
empty (c ∷ log) h = absurd (omega arith)

shorter : (n : ℕ) (log : List ℕ) → is_record log ≡ true → length log ≤ suc n → length (after log) ≤ n
shorter n log h l = omega (arith, length-drop (size_of (kind_of log)) log, size_least (kind_of log), record_whole log h)

-- no record
none_calls : (n : ℕ) (log : List ℕ) → is_record log ≡ false → calls_in n log ≡ []
unfolding calls_in
none_calls zero log e = refl
none_calls (suc n) log e = rw e

none_rest : (n : ℕ) (log : List ℕ) → is_record log ≡ false → rest_in n log ≡ log
unfolding rest_in
none_rest zero log e = refl
none_rest (suc n) log e = rw e

-- ---- enough turns are enough
calls_case : (n k : ℕ) (log : List ℕ) (b : Bool) → is_record log ≡ b → (is_record log ≡ true → calls_in n (after log) ≡ calls_in k (after log))
    → calls_in (suc n) log ≡ calls_in (suc k) log
unfolding calls_in
calls_case n k log true e h = rw e (ap (λ ks. call_of log ∷ ks) (h e))
calls_case n k log false e h = rw e

calls_enough : (n k : ℕ) (log : List ℕ) → length log ≤ n → length log ≤ k → calls_in n log ≡ calls_in k log
unfolding calls_in
calls_enough zero zero log h l = refl
calls_enough zero (suc k) log h l = sym (none_calls (suc k) log (empty log h))
calls_enough (suc n) zero log h l = none_calls (suc n) log (empty log l)
calls_enough (suc n) (suc k) log h l = calls_case n k log (is_record log) refl (λ e. calls_enough n k (after log) (shorter n log e h) (shorter k log e l))

rest_case : (n k : ℕ) (log : List ℕ) (b : Bool) → is_record log ≡ b → (is_record log ≡ true → rest_in n (after log) ≡ rest_in k (after log))
    → rest_in (suc n) log ≡ rest_in (suc k) log
unfolding rest_in
rest_case n k log true e h = rw e (h e)
rest_case n k log false e h = rw e

rest_enough : (n k : ℕ) (log : List ℕ) → length log ≤ n → length log ≤ k → rest_in n log ≡ rest_in k log
unfolding rest_in
rest_enough zero zero log h l = refl
rest_enough zero (suc k) log h l = sym (none_rest (suc k) log (empty log h))
rest_enough (suc n) zero log h l = none_rest (suc n) log (empty log l)
rest_enough (suc n) (suc k) log h l = rest_case n k log (is_record log) refl (λ e. rest_enough n k (after log) (shorter n log e h) (shorter k log e l))

-- ---- one record, then the rest
calls_one : (n : ℕ) (log : List ℕ) → length log ≡ suc n → is_record log ≡ true → calls_of log ≡ call_of log ∷ calls_of (after log)
unfolding calls_in
calls_one n log l e =
    ap (λ k. calls_in k log) l ∙ rw e (ap (λ ks. call_of log ∷ ks) (calls_enough n (length (after log)) (after log) (shorter n log e (omega arith)) (omega arith)))

pub calls_step : (log : List ℕ) → is_record log ≡ true → calls_of log ≡ call_of log ∷ calls_of (after log)
calls_step log e = calls_one (length log - 1) log (omega (arith, record_whole log e, size_least (kind_of log))) e

rest_one : (n : ℕ) (log : List ℕ) → length log ≡ suc n → is_record log ≡ true → rest_of log ≡ rest_of (after log)
unfolding rest_in
rest_one n log l e = ap (λ k. rest_in k log) l ∙ rw e (rest_enough n (length (after log)) (after log) (shorter n log e (omega arith)) (omega arith))

pub rest_step : (log : List ℕ) → is_record log ≡ true → rest_of log ≡ rest_of (after log)
rest_step log e = rest_one (length log - 1) log (omega (arith, record_whole log e, size_least (kind_of log))) e

pub calls_none : (log : List ℕ) → is_record log ≡ false → calls_of log ≡ []
calls_none log e = none_calls (length log) log e

pub rest_none : (log : List ℕ) → is_record log ≡ false → rest_of log ≡ log
rest_none log e = none_rest (length log) log e

-- ---- a piece of a log
-- and back
numbers : (log : List ℕ) (b c : Bool) → (eqb (kind_of log) 1 || eqb (kind_of log) 2) ≡ b → ltb (length log) (size_of (kind_of log)) ≡ c → log_number log ≡ cond b (cond c 25 0) 24
unfolding log_number
numbers log b c e f = rw (e, f)

-- which of the three it is
pub data Which (log : List ℕ) : Type 0 where
  whole : log_number log ≡ 0 → Which log
  short : log_number log ≡ 25 → Which log
  unknown : log_number log ≡ 24 → (eqb (kind_of log) 1 || eqb (kind_of log) 2) ≡ false → Which log

pub which : (log : List ℕ) → Which log
which log = by (eqb (kind_of log) 1 || eqb (kind_of log) 2) (ltb (length log) (size_of (kind_of log))) refl refl
  where
    by : (b c : Bool) → (eqb (kind_of log) 1 || eqb (kind_of log) 2) ≡ b → ltb (length log) (size_of (kind_of log)) ≡ c → Which log
    by true true e f = short (numbers log true true e f)
    by true false e f = whole (numbers log true false e f)
    by false c e f = unknown (numbers log false c e f) e

module _ (p l : List ℕ) where
  pub kind_piece : 0 < length p → kind_of (p ++ l) ≡ kind_of p
  kind_piece h = get_or-append p l 0 0 h

  pub unknown_piece : 0 < length p → (eqb (kind_of p) 1 || eqb (kind_of p) 2) ≡ false → log_number (p ++ l) ≡ 24
  unfolding log_number
  unknown_piece h e = rw (kind_piece h, e)

  module _ (e : is_record p ≡ true) where
    some : 2 ≤ length p
    some = omega (arith, record_whole p e, size_least (kind_of p))

    pub record_piece : is_record (p ++ l) ≡ true
    unfolding log_number
    record_piece =
        let known = (cut_number (eqb (kind_of p) 1 || eqb (kind_of p) 2) (ltb (length p) (size_of (kind_of p))) (eqb-true (log_number p) 0 e)).0 in
        let long = length-append p l in
        rw (kind_piece (omega (arith, some)), known, le-ltb (length (p ++ l)) (size_of (kind_of p)) (omega (arith, record_whole p e)))

    byte : (i : ℕ) → i < length p → get_or (p ++ l) i 0 ≡ get_or p i 0
    byte i h = get_or-append p l 0 i h

    bytes_piece : 15 ≤ length p → bytes_in (p ++ l) ≡ bytes_in p
    bytes_piece h = by (ltb 8 (get_or p 6 0)) refl
      where
        by : (b : Bool) → ltb 8 (get_or p 6 0) ≡ b → bytes_in (p ++ l) ≡ bytes_in p
        by true f = rw (byte 6 (omega arith), f)
        by false f =
            rw (
              byte 6 (omega arith),
              f,
              drop-append-le 7 p l (omega arith),
              take-append-le (get_or p 6 0) (drop 7 p) l (omega (arith, length-drop 7 p, ltb-false 8 (get_or p 6 0) f)),
            )

    frame_piece : 15 ≤ length p → FrameIn (get_or (p ++ l) 1 0) (id_of (p ++ l)) (bytes_in (p ++ l)) ≡ FrameIn (get_or p 1 0) (id_of p) (bytes_in p)
    frame_piece h =
        rw (byte 1 (omega arith), byte 2 (omega arith), byte 3 (omega arith), byte 4 (omega arith), byte 5 (omega arith), bytes_piece h)

    pub call_piece : call_of (p ++ l) ≡ call_of p
    unfolding call_of
    call_piece = by (eqb (kind_of p) 1) refl
      where
        by : (b : Bool) → eqb (kind_of p) 1 ≡ b → cond (eqb (kind_of (p ++ l)) 1) (FrameIn (get_or (p ++ l) 1 0) (id_of (p ++ l)) (bytes_in (p ++ l))) (TakeOut (get_or (p ++ l) 1 0)) ≡ cond (eqb (kind_of p) 1) (FrameIn (get_or p 1 0) (id_of p) (bytes_in p)) (TakeOut (get_or p 1 0))
        by true f =
            let fifteen : 15 ≤ length p = rw f at (record_whole p e) in
            rw (kind_piece (omega (arith, some)), f) (frame_piece fifteen)
        by false f = rw (kind_piece (omega (arith, some)), f, byte 1 (omega (arith, some)))
