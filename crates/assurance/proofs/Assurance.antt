-- Assumes nothing.
use Rattle.made.proofs.Cited.{cited}
use Rattle.demand_1.proofs.Demand1.{demand_1}
use Rattle.demand_1.proofs.Literals.{literals}
use Rattle.demand_1.proofs.Parameters.{parameters}
use Rattle.demand_2.proofs.Demand2.{demand_2}
use Rattle.demand_3.proofs.Demand3.{demand_3}
use Rattle.tallies.proofs.Tallies.{every_count}
use Rattle.loss_counts.proofs.LossCounts.{every_loss}
use Rattle.old_layout.proofs.Same.{same_answers}
use Rattle.assurance.specs.Assurance.{Assurance}
use Rattle.assurance.proofs.Examples.{examples}
use Rattle.assurance.proofs.Given.{given}
use Rattle.assurance.proofs.Answered.{answered}
use Rattle.assurance.proofs.Fixed.{fixed}

pub assurance : Assurance
assurance = record {
  cited = cited;
  given = given;
  answered = answered;
  fixed = fixed;
  demand_1 = demand_1;
  demand_2 = demand_2;
  demand_3 = demand_3;
  counts = every_count;
  losses = every_loss;
  parameters = parameters;
  same = same_answers;
  literals = literals;
  examples = examples;
}
