-- What the rules say of a call, read off the model. Assumes nothing.
use mathlib.Core.Path.{◌≡◌, refl, ◌∙◌}
use mathlib.Core.Bool.{Bool, true, false, cond}
use mathlib.Core.List.{[]}
use Prim.Native.Nat.{ℕ, ◌-◌, ◌<◌}
use borrow.Author.Tests.{eq-eqb}
use Rattle.queue.specs.declared.Frame.{Frame}
use Rattle.unit.specs.Ports.{bit_at}
use Rattle.unit.specs.Model.{Rest, Model, row_at}
use Rattle.forwarding.specs.Forwarding.{verdict, silent, sent_if, accepts, loses}
use Rattle.bridge.specs.Calls.{offered, frame_passed}
use Rattle.unit.specs.Own.{consumes}
use Rattle.unit.proofs.Ports.{mask_bit}

-- "No frame is sent back to its arrival port": the pair from a port to itself is never asked
pub not_offered_back : (ports : ℕ) (rest : Rest) (p id : ℕ) → offered ports rest p id p ≡ silent
unfolding offered verdict
not_offered_back ports rest p id = rw (eq-eqb p p refl) (either (consumes rest.own id))
  where
    either : (b : Bool) → cond b silent silent ≡ silent
    either true = refl
    either false = refl

-- so nothing but the unit's own frame is sent there
pub not_sent_back : (ports : ℕ) (rest : Rest) (port : ℕ) (f : Frame) → sent_if (offered ports rest (port - 1) f.id (port - 1)) f ≡ []
not_sent_back ports rest port f = rw (not_offered_back ports rest (port - 1) f.id)

-- bit q of the accepted ports is rule 3 at port q; so of the lost
pub accepted_at : (ports : ℕ) (m : Model) (port : ℕ) (f : Frame) (q : ℕ) → q < ports → bit_at (frame_passed ports m port f).accepted q ≡ accepts (offered ports m.rest (port - 1) f.id q) (row_at m q)
unfolding frame_passed
accepted_at ports m port f q h = mask_bit (λ q. accepts (offered ports m.rest (port - 1) f.id q) (row_at m q)) ports q h

pub lost_at_lem : (ports : ℕ) (m : Model) (port : ℕ) (f : Frame) (q : ℕ) → q < ports → bit_at (frame_passed ports m port f).lost q ≡ loses (offered ports m.rest (port - 1) f.id q) (row_at m q)
unfolding frame_passed
lost_at_lem ports m port f q h = mask_bit (λ q. loses (offered ports m.rest (port - 1) f.id q) (row_at m q)) ports q h

-- the arrival port is neither
pub not_accepted_back : (ports : ℕ) (m : Model) (port : ℕ) (f : Frame) → port - 1 < ports → bit_at (frame_passed ports m port f).accepted (port - 1) ≡ false
not_accepted_back ports m port f h = accepted_at ports m port f (port - 1) h ∙ rw (not_offered_back ports m.rest (port - 1) f.id)
