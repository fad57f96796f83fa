-- The number of a log by its kind and its length, and what stands at its front. Assumes nothing.
use mathlib.Core.Path.{◌≡◌, refl, sym}
use mathlib.Core.Bool.{Bool, true, false, cond, ◌||◌}
use mathlib.Core.List.{List, [], ◌∷◌}
use Prim.Native.Nat.{ℕ, ◌≤◌, ◌<◌}
use native.Mathlib.Omega.{arith}
use borrow.Author.Tests.{lt-ltb, le-ltb, ltb-false, ne_eqb, eqb-true}
use lib.Dec.{eqb, ltb}
use lib.ListN.{length}
use Rattle.std.specs.Prelude.{Ok, Err}
use Rattle.candump.specs.declared.refusal.Refusal.{Refusal}
use Rattle.candump.specs.Refusals.{number}
use Rattle.bench_records.specs.Records.{kind_of, size_of, log_number}
use Rattle.bench_records.specs.Turning.{Fronting}

-- a size is 2 or 15
pub size_least : (kind : ℕ) → 2 ≤ size_of kind
size_least kind = by (eqb kind 1) refl
  where
    by : (b : Bool) → eqb kind 1 ≡ b → 2 ≤ size_of kind
    by true e = rw e (omega arith)
    by false e = rw e (omega arith)

-- the number of a log that is known or not, whole or not
pub cut_number : (b c : Bool) → ◌≡◌ {A = ℕ} (cond b (cond c 25 0) 24) 0 → (b ≡ true) × (c ≡ false)
cut_number true true h = absurd (omega arith)
cut_number true false h = (refl, refl)
cut_number false c h = absurd (omega arith)

pub record_whole : (log : List ℕ) → eqb (log_number log) 0 ≡ true → size_of (kind_of log) ≤ length log
unfolding log_number
record_whole log h = ltb-false (length log) (size_of (kind_of log)) (cut_number (eqb (kind_of log) 1 || eqb (kind_of log) 2) (ltb (length log) (size_of (kind_of log))) (eqb-true (log_number log) 0 h)).1

-- the kind and the number of a record
pub number_frame : (log : List ℕ) → kind_of log ≡ 1 → 15 ≤ length log → log_number log ≡ 0
unfolding log_number
number_frame log k h = rw (k, le-ltb (length log) 15 h)

pub number_take : (log : List ℕ) → kind_of log ≡ 2 → 2 ≤ length log → log_number log ≡ 0
unfolding log_number
number_take log k h = rw (k, le-ltb (length log) 2 h)

pub number_cut_frame : (log : List ℕ) → kind_of log ≡ 1 → length log < 15 → log_number log ≡ 25
unfolding log_number
number_cut_frame log k h = rw (k, lt-ltb (length log) 15 h)

pub number_cut_take : (log : List ℕ) → kind_of log ≡ 2 → length log < 2 → log_number log ≡ 25
unfolding log_number
number_cut_take log k h = rw (k, lt-ltb (length log) 2 h)

pub number_unknown : (log : List ℕ) → (kind_of log ≡ 1 → ⊥) → (kind_of log ≡ 2 → ⊥) → log_number log ≡ 24
unfolding log_number
number_unknown log m n = rw (ne_eqb (kind_of log) 1 m, ne_eqb (kind_of log) 2 n)

-- ---- the front
front_whole : {log : List ℕ} {n : ℕ} → log_number log ≡ 0 → size_of (kind_of log) ≡ n → n ≤ length log → Fronting log (Ok n)
front_whole z e h = record { number = sym z; size = sym e; fits = h }

pub front_frame : {log : List ℕ} → kind_of log ≡ 1 → 15 ≤ length log → Fronting log (Ok 15)
front_frame {log} k h = front_whole (number_frame log k h) (rw k) h

pub front_take : {log : List ℕ} → kind_of log ≡ 2 → 2 ≤ length log → Fronting log (Ok 2)
front_take {log} k h = front_whole (number_take log k h) (rw k) h

pub front_refused : {log : List ℕ} {e : Refusal} → log_number log ≡ number e → Fronting log (Err e)
front_refused h = record { number = sym h; size = tt; fits = tt }

pub empty_unknown : (log : List ℕ) → length log ≡ 0 → log_number log ≡ 24
unfolding log_number
empty_unknown [] e = refl
empty_unknown (c ∷ log) e = absurd (omega arith)
