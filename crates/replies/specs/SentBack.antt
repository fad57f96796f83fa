-- Demand 2: a reply to a Request, sent back as Create.
-- Assumes nothing.
use Rattle.std.specs.Prelude.{◌≡◌, List, ◌∷◌, ℕ, ◌+◌, ◌-◌, ◌*◌, length, drop, eqb}
use Rattle.entries.specs.Entries.{entries_of, reported}
use Rattle.filter.specs.Filter.{Filter, reported_mode}
use Rattle.filter_commands.specs.declared.pairs.Change.TheVariants.{Creates}
use Rattle.network_message.specs.Asked.{WithEntries}
use Rattle.network_message.specs.Decoding.{from_of, to_of, between, decoded}

unfoldable pub as_create : List ℕ → List ℕ
as_create reply = 6 ∷ drop 1 reply

-- what it is decoded to: the pair, the mode and the list that were reported
pub record SentBack (ports port pair : ℕ) (f : Filter) (payload : List ℕ) : Type 0 where
  pub command : decoded ports port payload ≡ WithEntries (Creates (eqb (reported_mode f.mode) 1)) (from_of pair) (to_of pair) 3 (3 + 3 * length f.entries)
  pub bytes : between 3 (3 + 3 * length f.entries) payload ≡ reported f.entries
  pub list : entries_of (between 3 (3 + 3 * length f.entries) payload) ≡ f.entries
  pub long : length payload ≡ 3 + 3 * length f.entries + (8 - (3 + 3 * length f.entries))
