-- The contracts of the claims, from what the drop and the store did to the table. Assumes nothing.
use Rattle.std.specs.Prelude.{None}
use mathlib.Core.Path.{◌≡◌, sym, ap, ◌∙◌}
use mathlib.Core.Bool.{Bool, true, false}
use mathlib.Core.List.{List}
use Prim.Native.Nat.{ℕ, ◌≤◌}
use native.Mathlib.Omega.{arith}
use lib.ListN.{get_or}
use lib.Seq.{set_out}
use Rattle.address_claims.specs.declared.Event.{Event}
use Rattle.address_claims.specs.declared.Event.TheVariants.{Nothing, Withdrew, Beaten}
use Rattle.addresses.specs.Table.{places, table_of, stands_in, Place}
use Rattle.address_claims.specs.Claims.{withdrawn, withdraw_event, moved_to, settled, stands_elsewhere, contested, contest_event}
use Rattle.address_claims.specs.Calls.{Dropping, Claiming, Withdrawing}
use Rattle.addresses.proofs.Words.{table_length_lem}
use Rattle.address_claims.proofs.Places.{moved_out}
use Rattle.address_claims.proofs.Claims.{beaten_leaves, unbeaten_records}

-- ---- a claim: the place was contested, and then the claimant was dropped elsewhere or settled there
module _ {before : List ℕ} {address name : ℕ} {place : Place} {event : Event} (asked : place ≡ get_or (table_of before) address None) (came : event ≡ contest_event name place) where
  claiming : {after : List ℕ} {port : ℕ} → table_of after ≡ moved_to name address (contested port name place) (table_of before) → Claiming before after port address name event
  claiming t = record { table = rw (← asked) t; event = rw (← asked) came }

  pub claim_beaten : {after : List ℕ} {port : ℕ} {dropped : Bool} → event ≡ Beaten → Dropping before after name address dropped → Claiming before after port address name event
  claim_beaten {after} {port} e D = claiming {after = after} {port = port} (rw (beaten_leaves port name place (sym came ∙ e), asked) D.table)

  pub claim_settled : {after : List ℕ} {port : ℕ} → (event ≡ Beaten → ⊥) → table_of after ≡ settled port address name (table_of before) → Claiming before after port address name event
  claim_settled {after} {port} ne t = claiming {after = after} {port = port} (rw (unbeaten_records port name place (λ e. ne (came ∙ e))) t)

-- ---- a withdrawal: the drop kept no address
module _ {before after : List ℕ} {name keep : ℕ} {dropped : Bool} (D : Dropping before after name keep dropped) (none : places ≤ keep) where
  pub gone : table_of after ≡ withdrawn name (table_of before)
  gone = D.table ∙ moved_out name keep (get_or (table_of before) keep None) (table_of before) (omega (arith, table_length_lem before))

  stood : stands_in name (table_of before) ≡ dropped
  unfolding stands_elsewhere
  stood = sym (D.answer ∙ ap (stands_in name) (set_out (table_of before) keep None (omega (arith, table_length_lem before))))

  pub withdrew : dropped ≡ true → Withdrawing before after name Withdrew
  unfolding withdraw_event
  withdrew t = record { table = gone; event = rw (stood, t) }

  pub held_nothing : dropped ≡ false → Withdrawing before after name Nothing
  unfolding withdraw_event
  held_nothing f = record { table = gone; event = rw (stood, f) }
