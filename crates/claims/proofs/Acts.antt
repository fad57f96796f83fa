-- What is done about a claim, a request or Start, by the way that the code went. Assumes nothing.
use Rattle.std.specs.Prelude.{None, Some}
use mathlib.Core.Path.{◌≡◌, refl, sym, ◌∙◌}
use mathlib.Core.Bool.{Bool, true, false}
use mathlib.Core.List.{List}
use Prim.Native.Nat.{ℕ, ◌≤◌, ◌<◌}
use borrow.Author.Tests.{lt-ltb, le-ltb, eq-eqb, ne_eqb}
use lib.ListN.{get_or, set}
use lib.Dec.{ltb, eqb}
use Rattle.identifier.specs.Identifier.{pgn_of, sa_of}
use Rattle.queue.specs.declared.Frame.{Frame}
use Rattle.address_claims.specs.declared.Event.{Event}
use Rattle.address_claims.specs.declared.Event.TheVariants.{Nothing, Defended, Displaced}
use Rattle.address_claims.specs.Claims.{others_dropped, settled, claimed, claim_event, withdrawn, withdraw_event}
use Rattle.unit.specs.declared.Claim.TheVariants.{Claiming, Lost}
use Rattle.unit.specs.declared.Unit.{Unit}
use Rattle.claims.specs.declared.Acted.{Acted as Done}
use Rattle.unit.specs.Model.{model_of, with_own, with_rest}
use Rattle.unit.specs.Own.{is_own, moved, claim_frame, cannot_claim_frame, request_answer}
use Rattle.claims.specs.Claims.{is_claim, is_request, is_request_to_unit, contested, claim_acted, frame_acted, held_under, started}
use Rattle.record.specs.Steps.{TableChanging, TableClaiming}
use Rattle.claims.specs.Steps.{Acting}

-- a unit was stored into a record
abbrev Stored : ℕ → List ℕ → List ℕ → Unit → Type 0
Stored ports before after u = model_of ports after ≡ with_rest (model_of ports before) (with_own (model_of ports before).rest u)

module _ (ports : ℕ) (words : List ℕ) (u : Unit) (own : u ≡ (model_of ports words).rest.own) where
  -- ---- a claim of the unit's address
  module _ (port address name : ℕ) where
    pub defended : {after : List ℕ} {f : Frame} → u.name < name → TableChanging ports words after (others_dropped name address) → f ≡ claim_frame u
        → Acting ports words after (contested (model_of ports words).rest port address name) (record { event = Defended; sent = Some f })
    unfolding contested
    defended h T e =
        let t : ltb (model_of ports words).rest.own.name name ≡ true = rw (← own) (lt-ltb u.name name h) in
        record { event = rw t; sent = rw (t, e, own); state = rw t T.state }

    pub displaced : {mid after : List ℕ} {v : Unit} {f : Frame} → name ≤ u.name → TableChanging ports words mid (settled port address name) → v ≡ moved u Lost 254 → Stored ports mid after v
        → f ≡ cannot_claim_frame u → Acting ports words after (contested (model_of ports words).rest port address name) (record { event = Displaced; sent = Some f })
    unfolding contested
    displaced h T m S e =
        let t : ltb (model_of ports words).rest.own.name name ≡ false = rw (← own) (le-ltb u.name name h) in
        record { event = rw t; sent = rw (t, e, own); state = rw t (S ∙ rw (T.state, m, own)) }

  -- ---- a claim
  module _ (port : ℕ) (f : Frame) (r : Done) where
    pub own_claim : f.bytes ≡ u.name → (r.event ≡ Nothing) × (r.sent ≡ None) → Acting ports words words (claim_acted (model_of ports words).rest port f) r
    unfolding claim_acted
    own_claim h A =
        let t : eqb f.bytes (model_of ports words).rest.own.name ≡ true = rw (← own) (eq-eqb f.bytes u.name h) in
        record { event = rw t A.0; sent = rw t A.1; state = rw t }

    module _ (other : f.bytes ≡ u.name → ⊥) (source : ℕ) (is : source ≡ sa_of f.id) where
      another : eqb f.bytes (model_of ports words).rest.own.name ≡ false
      another = rw (← own) (ne_eqb f.bytes u.name other)

      pub withdrawal : {after : List ℕ} {e : Event} → source ≡ 254 → TableClaiming ports words after (withdrawn f.bytes) (withdraw_event f.bytes) e
          → (r.event ≡ e) × (r.sent ≡ None) → Acting ports words after (claim_acted (model_of ports words).rest port f) r
      unfolding claim_acted
      withdrawal h T A =
          let s : eqb (sa_of f.id) 254 ≡ true = rw (← is) (eq-eqb source 254 h) in
          record { event = rw (another, s) (A.0 ∙ T.event); sent = rw (another, s) A.1; state = rw (another, s) T.state }

      module _ (held : source ≡ 254 → ⊥) (b : Bool) (mine : b ≡ is_own u source) where
        address : eqb (sa_of f.id) 254 ≡ false
        address = rw (← is) (ne_eqb source 254 held)

        mine_is : is_own (model_of ports words).rest.own (sa_of f.id) ≡ b
        mine_is = rw (← own, ← is) (sym mine)

        pub contesting : {after : List ℕ} → b ≡ true → Acting ports words after (contested (model_of ports words).rest port source f.bytes) r → Acting ports words after (claim_acted (model_of ports words).rest port f) r
        unfolding claim_acted
        contesting t C = rw (another, address, mine_is, t, ← is) C

        pub claiming : {after : List ℕ} {e : Event} → b ≡ false → TableClaiming ports words after (claimed port source f.bytes) (claim_event source f.bytes) e
            → (r.event ≡ e) × (r.sent ≡ None) → Acting ports words after (claim_acted (model_of ports words).rest port f) r
        unfolding claim_acted
        claiming t T A =
            record {
              event = rw (another, address, mine_is, t, ← is) (A.0 ∙ T.event);
              sent = rw (another, address, mine_is, t) A.1;
              state = rw (another, address, mine_is, t, ← is) T.state;
            }

-- ---- a frame
-- by its PGN alone
module _ (f : Frame) (pgn : ℕ) (is : pgn ≡ pgn_of f.id) where
  pub no_claim : (pgn ≡ 60928 → ⊥) → is_claim f ≡ false
  unfolding is_claim
  no_claim other = rw (← is, ne_eqb pgn 60928 other) refl

  pub no_request : (consumed : Bool) → (pgn ≡ 59904 → ⊥) → is_request_to_unit f consumed ≡ false
  unfolding is_request_to_unit is_request
  no_request consumed other = rw (← is, ne_eqb pgn 59904 other) refl

module _ (ports : ℕ) (words : List ℕ) (port : ℕ) (consumed : Bool) (f : Frame) (r : Done) where
  pub claim_acted_lem : {after : List ℕ} → is_claim f ≡ true → Acting ports words after (claim_acted (model_of ports words).rest port f) r → Acting ports words after (frame_acted (model_of ports words).rest port consumed f) r
  unfolding frame_acted
  claim_acted_lem t A = rw t A

  pub request_acted : is_claim f ≡ false → is_request_to_unit f consumed ≡ true → r.event ≡ Nothing → r.sent ≡ request_answer (model_of ports words).rest.own (model_of ports words).rest.own.claim
      → Acting ports words words (frame_acted (model_of ports words).rest port consumed f) r
  unfolding frame_acted
  request_acted n t e s = record { event = rw (n, t) e; sent = rw (n, t) s; state = rw (n, t) }

  pub not_acted : is_claim f ≡ false → is_request_to_unit f consumed ≡ false → (r.event ≡ Nothing) × (r.sent ≡ None) → Acting ports words words (frame_acted (model_of ports words).rest port consumed f) r
  unfolding frame_acted
  not_acted n t A = record { event = rw (n, t) A.0; sent = rw (n, t) A.1; state = rw (n, t) }

-- ---- Start
module _ (ports : ℕ) (words : List ℕ) (u : Unit) (own : u ≡ (model_of ports words).rest.own) (b : Bool) (under : b ≡ held_under u.name (get_or (model_of ports words).rest.table u.preferred None)) where
  under_is : held_under (model_of ports words).rest.own.name (get_or (model_of ports words).rest.table (model_of ports words).rest.own.preferred None) ≡ b
  under_is = rw (← own) (sym under)

  pub start_lost : {after : List ℕ} {v : Unit} {f : Frame} → b ≡ true → v ≡ moved u Lost 254 → Stored ports words after v → f ≡ cannot_claim_frame u
      → Acting ports words after (started (model_of ports words).rest) (record { event = Nothing; sent = Some f })
  unfolding started
  start_lost t m S e = record { event = rw (under_is, t); sent = rw (under_is, t, e, own); state = rw (under_is, t) (S ∙ rw (m, own)) }

  pub start_claiming : {mid after : List ℕ} {v : Unit} {f : Frame} → b ≡ false → TableChanging ports words mid (λ t. set t u.preferred None) → v ≡ moved u Claiming u.preferred → Stored ports mid after v
      → f ≡ claim_frame v → Acting ports words after (started (model_of ports words).rest) (record { event = Nothing; sent = Some f })
  unfolding started
  start_claiming t T m S e = record {
    event = rw (under_is, t);
    sent = rw (under_is, t, e, m, own);
    state = rw (under_is, t) (S ∙ rw (T.state, m, own));
  }
