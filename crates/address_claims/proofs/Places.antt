-- What a claim does, place by place: the table after it at each address. Assumes nothing.
use Rattle.std.specs.Prelude.{None}
use mathlib.Core.Path.{◌≡◌, sym, ◌∙◌}
use mathlib.Core.List.{List}
use Prim.Native.Nat.{ℕ, ◌≤◌, ◌<◌}
use native.Mathlib.Decide.{dec_lt}
use native.Mathlib.Omega.{arith}
use lib.ListN.{length, get_or, length-set, length-map, get_or-map, get_or-eq_default}
use lib.Seq.{get_or-set_same, get_or-set_other, set_out}
use Rattle.addresses.specs.Table.{held_by, Place}
use Rattle.address_claims.specs.Claims.{without, withdrawn, moved_to, others_dropped}

-- ---- a withdrawal
pub withdrawn_length : (name : ℕ) (table : List Place) → length (withdrawn name table) ≡ length table
unfolding withdrawn
withdrawn_length name table = length-map table (without name)

pub withdrawn_at : (name : ℕ) (table : List Place) (i : ℕ) → get_or (withdrawn name table) i None ≡ without name (get_or table i None)
unfolding withdrawn without held_by
withdrawn_at name table i = get_or-map (without name) table i None

-- ---- a NAME that moves: its address is the new place, and it leaves every other
module _ (name address : ℕ) (place : Place) (table : List Place) where
  pub moved_length : length (moved_to name address place table) ≡ length table
  unfolding moved_to
  moved_length = length-set (withdrawn name table) address place ∙ withdrawn_length name table

  pub moved_here : address < length table → get_or (moved_to name address place table) address None ≡ place
  unfolding moved_to
  moved_here h = get_or-set_same (withdrawn name table) address place None (omega (arith, withdrawn_length name table))

  pub moved_other : (i : ℕ) → (i ≡ address → ⊥) → get_or (moved_to name address place table) i None ≡ without name (get_or table i None)
  unfolding moved_to
  moved_other i ne = get_or-set_other (withdrawn name table) address i place None ne ∙ withdrawn_at name table i

  -- where the number is no address, it leaves every one
  pub moved_out : length table ≤ address → moved_to name address place table ≡ withdrawn name table
  unfolding moved_to
  moved_out h = set_out (withdrawn name table) address place (omega (arith, withdrawn_length name table))

-- the drop alone leaves the address as it was, whatever the number
pub dropped_kept : (name keep : ℕ) (table : List Place) → get_or (others_dropped name keep table) keep None ≡ get_or table keep None
dropped_kept name keep table =
    elim (dec_lt keep (length table)) [
      | yes h ↦ moved_here name keep (get_or table keep None) table h
      | no h ↦
          get_or-eq_default (others_dropped name keep table) None {n = keep} (omega (arith, moved_length name keep (get_or table keep None) table))
          ∙ sym (get_or-eq_default table None {n = keep} (omega arith))
    ]
