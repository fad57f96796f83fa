-- Nothing that is done about a claim, a request or Start changes the number of ports. Assumes nothing.
use Rattle.std.specs.Prelude.{None}
use mathlib.Core.Path.{◌≡◌, refl}
use mathlib.Core.Bool.{Bool, true, false, cond}
use Prim.Native.Nat.{ℕ}
use lib.ListN.{get_or}
use lib.Dec.{ltb, eqb}
use Rattle.identifier.specs.Identifier.{sa_of}
use Rattle.queue.specs.declared.Frame.{Frame}
use Rattle.unit.specs.Model.{Rest}
use Rattle.unit.specs.Own.{is_own}
use Rattle.claims.specs.Claims.{Acted, is_claim, is_request_to_unit, contested, claim_acted, frame_acted, held_under, started}

module _ (rest : Rest) where
  abbrev Kept : Acted → Type 0
  Kept a = a.rest.own.ports ≡ rest.own.ports

  either : (b : Bool) (x y : Acted) → Kept x → Kept y → Kept (cond b x y)
  either true x y p q = p
  either false x y p q = q

  contest_kept : (port address name : ℕ) → Kept (contested rest port address name)
  unfolding contested
  contest_kept port address name = either (ltb rest.own.name name) _ _ refl refl

  claim_kept : (port : ℕ) (f : Frame) → Kept (claim_acted rest port f)
  unfolding claim_acted
  claim_kept port f =
      either (eqb f.bytes rest.own.name) _ _ refl
      (either (eqb (sa_of f.id) 254) _ _ refl
      (either (is_own rest.own (sa_of f.id)) _ _ (contest_kept port (sa_of f.id) f.bytes) refl))

  pub acted_ports : (port : ℕ) (consumed : Bool) (f : Frame) → (frame_acted rest port consumed f).rest.own.ports ≡ rest.own.ports
  unfolding frame_acted
  acted_ports port consumed f = either (is_claim f) _ _ (claim_kept port f) (either (is_request_to_unit f consumed) _ _ refl refl)

  pub started_ports : (started rest).rest.own.ports ≡ rest.own.ports
  unfolding started
  started_ports = either (held_under rest.own.name (get_or rest.table rest.own.preferred None)) _ _ refl refl
