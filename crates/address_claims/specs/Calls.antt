-- The contracts: the table after a call, and the answer.
-- Assumes nothing.
use Rattle.std.specs.Prelude.{ℕ, Bool, ◌≡◌, List}
use Rattle.addresses.specs.Table.{table_of}
use Rattle.address_claims.specs.declared.Event.{Event}
use Rattle.address_claims.specs.Claims.{others_dropped, stands_elsewhere, claimed, claim_event, withdrawn, withdraw_event}

pub record Dropping (before after : List ℕ) (name keep : ℕ) (r : Bool) : Type 0 where
  pub table : table_of after ≡ others_dropped name keep (table_of before)
  pub answer : r ≡ stands_elsewhere name keep (table_of before)

pub record Claiming (before after : List ℕ) (port address name : ℕ) (r : Event) : Type 0 where
  pub table : table_of after ≡ claimed port address name (table_of before)
  pub event : r ≡ claim_event address name (table_of before)

pub record Withdrawing (before after : List ℕ) (name : ℕ) (r : Event) : Type 0 where
  pub table : table_of after ≡ withdrawn name (table_of before)
  pub event : r ≡ withdraw_event name (table_of before)
