-- The contracts of the calls on the tables.
-- Assumes nothing.
use Rattle.std.specs.Prelude.{ℕ, ◌≡◌, List, [], ◌∷◌, ◌++◌, length, Result, OnOk, OnErr}
use Rattle.checks.specs.Refusals.{number_in}
use Rattle.checks.specs.declared.refusal.Refusal.{Refusal}
use Rattle.address_pairs.specs.AddressPairs.{AddressPair, pair_of, pair_at, pairs_of, tables_of, refusal_of, added}

-- the pair of two words
abbrev pub pair_in : List ℕ → AddressPair
pair_in words = pair_at words 0

-- a pair put behind the others of a table
pub record Appending (entry exit : List ℕ) (outer inner : ℕ) : Type 0 where
  pub pairs : pairs_of exit ≡ pairs_of entry ++ pair_of outer inner ∷ []
  pub long : length exit ≡ length entry

-- an entry added to the table of a port
pub record Adding (entry exit : List ℕ) (port outer inner : ℕ) (r : Result (Unit {0}) Refusal) : Type 0 where
  pub number : number_in r ≡ refusal_of (tables_of entry) port outer inner
  pub done : OnOk r (tables_of exit ≡ added (tables_of entry) port outer inner)
  -- a refusal changes no word
  pub refused : OnErr r (exit ≡ entry)
  pub long : length exit ≡ length entry
