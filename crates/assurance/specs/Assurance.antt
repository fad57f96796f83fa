-- What is promised, whole: the customer's three demands, the numbers of docs/RULES.md in their literals, and its examples. Proved in proofs/Assurance.antt.
use Rattle.std.specs.Prelude.{◌≡◌, List, ℕ}
use Rattle.made.specs.Made.{Powered}
use Rattle.made.specs.Cited.{Cited}
use Rattle.demand_1.specs.Demand1.{Demand1}
use Rattle.demand_1.specs.Literals.{Literals}
use Rattle.demand_1.specs.Parameters.{Parameters}
use Rattle.demand_2.specs.Demand2.{Demand2}
use Rattle.demand_3.specs.Demand3.{EveryList}
use Rattle.tallies.specs.Tallies.{EveryCount}
use Rattle.loss_counts.specs.LossCounts.{EveryLoss}
use Rattle.old_layout.specs.Same.{SameAnswers}
use Rattle.assurance.specs.Examples.{Examples}
use Rattle.assurance.specs.Given.{Given}
use Rattle.assurance.specs.Answered.{Answered}
use Rattle.assurance.specs.Fixed.{Fixed}

pub record Assurance : Type 0 where
  -- the calls that are spoken of are those of the functions' contracts, as the toolchain reads them off the code
  pub cited : Cited
  pub given : Given
  -- and each was answered with a result, which is fixed by what is told of it
  pub answered : Answered
  pub fixed : Fixed
  pub demand_1 : Demand1
  pub demand_2 : Demand2
  -- power-on was called on the words w, whatever they held, with any NAME, preferred address and count of ports, was answered r and left u
  pub demand_3 : {w u : List ℕ} {name preferred count r : ℕ} → Powered w name preferred count r u → EveryList w u name preferred count r
  -- docs/RULES.md, "How full a queue is"
  pub counts : {w u : List ℕ} {name preferred count r : ℕ} → Powered w name preferred count r u → (r ≡ 2 → ⊥) → EveryCount u name preferred count
  -- docs/RULES.md, "Parameters"
  pub losses : {w u : List ℕ} {name preferred count r : ℕ} → Powered w name preferred count r u → (r ≡ 2 → ⊥) → EveryLoss u count
  pub parameters : Parameters
  -- ticket 6: "All answers but the compared count are proved the same as the old layout, lent its own storage, gave for the same calls from power-on."
  pub same : (name preferred count : ℕ) → SameAnswers name preferred count
  pub literals : Literals
  pub examples : Examples
