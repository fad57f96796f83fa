-- Power-on: what it is refused with, the model that it leaves, and its contract. `lent` is the length of the record that was lent.
-- Assumes nothing.
use Rattle.std.specs.Prelude.{ℕ, ◌+◌, Bool, not, List, [], ◌∷◌, ◌≡◌, eqb, length, replicate, None}
use Rattle.filter.specs.Filter.{clear}
use Rattle.queue.specs.Queue.{idle}
use Rattle.addresses.specs.Table.{places}
use Rattle.checks.specs.Checks.{check, first}
use Rattle.unit.specs.Count.{is_count, count_of, pair_count}
use Rattle.unit.specs.Model.{record_length, Model, model_of}
use Rattle.unit.specs.Own.{fresh_unit}

-- 2: lent storage not of its published length
abbrev pub not_long : ℕ → ℕ → Bool
not_long ports lent = not (eqb lent (record_length ports))

-- 27: "port count not 2 to 8, is new at power-on, which then hands back the unit as with four ports"
unfoldable pub power_on_refusal : ℕ → ℕ → ℕ
power_on_refusal count lent = first (check (not_long (count_of count) lent) 2 ∷ check (not (is_count count)) 27 ∷ [])

-- power-on: every pair cleared, every queue empty and nothing counted, no loss, the table empty, the unit Unstarted
abbrev pub fresh : ℕ → ℕ → ℕ → Model
fresh ports name preferred = record {
  rest = record { own = fresh_unit name preferred ports; pairs = replicate (pair_count ports) clear; table = replicate places None };
  queues = replicate ports idle;
  seen = record { losses = replicate (pair_count ports + 1) 0 };
}

-- with any count of ports: 2 changes no word, 27 is a power-on all the same
pub record PoweringOn (count : ℕ) (before after : List ℕ) (name preferred r : ℕ) : Type 0 where
  pub long : length after ≡ length before
  pub answer : r ≡ power_on_refusal count (length before)
  pub state : (r ≡ 2 → ⊥) → model_of (count_of count) after ≡ fresh (count_of count) name preferred
  pub refused : r ≡ 2 → after ≡ before
