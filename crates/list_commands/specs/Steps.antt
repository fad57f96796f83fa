-- The contracts of a command: what it does to the model of a record.
-- Assumes nothing.
use Rattle.std.specs.Prelude.{ℕ, ◌+◌, ◌-◌, ◌≤◌, ◌<◌, Bool, true, false, ◌≡◌, List, get_or, Option, MatchOption}
use Rattle.checks.specs.Checks.{Check as Numbered, check}
use Rattle.checks.specs.Refusals.{number}
use Rattle.filter.specs.Filter.{Filter, clear}
use Rattle.filter_commands.specs.Changes.{lacks}
use Rattle.unit.specs.Model.{with_rest, with_pairs, model_of}
use Rattle.filter_commands.specs.declared.pairs.Change.{Change}
use Rattle.filter_commands.specs.Pairs.{holds_of, change_of}
use Rattle.list_commands.specs.declared.Check.{Check}
use Rattle.list_commands.specs.declared.Stop.{Stop}
use Rattle.list_commands.specs.Commands.{first_pair, names, Beside, any_named, change_named, list_refusal, commanded, held_before}

-- the pairs from a port that are named, by their places among the pairs: those from `first` up to `end`, and no other
pub record Naming (ports from to first end : ℕ) : Type 0 where
  pub low : 1 ≤ from
  pub high : from ≤ ports
  pub least : first_pair ports from ≤ first
  pub forward : first ≤ end
  pub most : end ≤ first_pair ports from + (ports - 1)
  pub before : (k : ℕ) → first_pair ports from + k < first → names from to k ≡ false
  pub inside : (k : ℕ) → first ≤ first_pair ports from + k → first_pair ports from + k < end → names from to k ≡ true
  pub behind : (k : ℕ) → end ≤ first_pair ports from + k → k < ports - 1 → names from to k ≡ false

-- the pairs that are named were changed, and no word outside their blocks
pub record PairsChanging (ports : ℕ) (before after : List ℕ) (from to : ℕ) (change : Filter → Filter) : Type 0 where
  pub state : model_of ports after
      ≡ with_rest (model_of ports before) (with_pairs (model_of ports before).rest (change_named ports (ports - 1) change from to (model_of ports before).rest.pairs))
  pub others : (n : ℕ) → Beside ports from to n → get_or after n 0 ≡ get_or before n 0

-- a command was tried on them one after the other: done on all, which the lists allow, or they refuse it; a single pair is then as it was
pub record Trying (ports : ℕ) (before after : List ℕ) (from to first end : ℕ) (change : Change) (xs : List ℕ) (r : Bool) : Type 0 where
  pub done : r ≡ true → (list_refusal ports change xs from to (model_of ports before).rest.pairs ≡ 0) × PairsChanging ports before after from to (change_of change xs)
  pub refused : r ≡ false → (list_refusal ports change xs from to (model_of ports before).rest.pairs ≡ 0 → ⊥) × (end ≤ first + 1 → after ≡ before)

-- a command with entries: done, or refused
pub record Commanding (ports : ℕ) (before after : List ℕ) (from to : ℕ) (change : Change) (xs : List ℕ) (r : ℕ) : Type 0 where
  pub answer : r ≡ list_refusal ports change xs from to (model_of ports before).rest.pairs
  pub state : model_of ports after
      ≡ with_rest (model_of ports before) (with_pairs (model_of ports before).rest (commanded ports change xs from to (model_of ports before).rest.pairs))
  pub refused : (r ≡ 0 → ⊥) → after ≡ before
  -- a word outside the blocks of the pairs that it names is as it was
  pub others : (n : ℕ) → Beside ports from to n → get_or after n 0 ≡ get_or before n 0

-- the search for an absent PGN stopped at the pair in place i, after k of the entries: no pair before it lacks one; where it is one of those searched it lacks
-- one, and k stand before the first
pub record Stopping (pairs : List Filter) (xs : List ℕ) (first end i k : ℕ) : Type 0 where
  pub least : first ≤ i
  pub most : i ≤ end
  pub before : (j : ℕ) → first ≤ j → j < i → lacks (get_or pairs j clear) xs ≡ false
  pub here : i < end → (lacks (get_or pairs i clear) xs ≡ true) × (k ≡ held_before (get_or pairs i clear).entries xs)

-- none of the pairs lacks one, or where the search stopped
abbrev pub Seeking : List Filter → List ℕ → ℕ → ℕ → Option Stop → Type 0
Seeking pairs xs first end r =
    MatchOption r ((j : ℕ) → first ≤ j → j < end → lacks (get_or pairs j clear) xs ≡ false)
    (λ stop. Stopping pairs xs first end stop.pair (stop.entry - 1) × (stop.pair < end) × (0 < stop.entry) × (stop.pgn ≡ get_or xs (stop.entry - 1) 0))

-- a check, as the rules have it
abbrev pub asked_of : Check → ℕ → List ℕ → ℕ → ℕ → List Filter → Numbered
asked_of c ports xs from to pairs = check (any_named ports (ports - 1) (holds_of c.question xs) from to pairs) (number c.refusal)
