-- The contract of acting: what it does to the model of a record, and what it answers.
-- Assumes nothing.
use Rattle.std.specs.Prelude.{ℕ, ◌≡◌, List}
use Rattle.unit.specs.Model.{with_rest, model_of}
use Rattle.claims.specs.declared.Acted.{Acted as Done}
use Rattle.claims.specs.Claims.{Acted}

pub record Acting (ports : ℕ) (before after : List ℕ) (a : Acted) (r : Done) : Type 0 where
  pub event : r.event ≡ a.event
  pub sent : r.sent ≡ a.sent
  pub state : model_of ports after ≡ with_rest (model_of ports before) a.rest
