-- A list of calls leaves the table settled: claims and Start make a step each, and no other call touches table or unit, but for Quiet's claim state.
-- For any number of ports. Assumes nothing.
use mathlib.Core.Path.{◌≡◌, refl, sym, ◌∙◌}
use mathlib.Core.Logic.{⊎_elim}
use mathlib.Core.Bool.{Bool, true, false, not, cond, true≢false, ◌&&◌, ◌||◌, or-false}
use mathlib.Core.List.{List, [], ◌∷◌, ◌++◌, append-nil, append_assoc, Memᴰ}
use Prim.Native.Nat.{ℕ, ◌<◌}
use native.Mathlib.Omega.{arith}
use borrow.Author.Tests.{eq-eqb, leb-true, leb-false, lt-ltb, le-ltb}
use lib.Dec.{eqb, leb, ltb}
use lib.ListN.{length}
use Rattle.identifier.specs.Identifier.{sa_of, too_wide, wrong_source}
use Rattle.addresses.specs.Table.{places}
use Rattle.delivery.specs.Calls.{after_calls}
use Rattle.unit.specs.declared.Claim.{Claim}
use Rattle.unit.specs.declared.Claim.TheVariants.{Unstarted, Claiming, Claimed, Lost}
use Rattle.unit.specs.declared.Unit.{Unit}
use Rattle.unit.specs.Model.{Rest, Model, record_length}
use Rattle.unit.specs.Own.{is_unstarted, is_claiming, holds_address, consumes}
use Rattle.unit.specs.PowerOn.{not_long, fresh}
use Rattle.claims.specs.Claims.{is_request_to_unit, frame_acted, claim_acted, started}
use Rattle.claims.specs.Claims.{frame_of, is_claim as is_claim_frame}
use Rattle.checks.specs.Ports.{no_port}
use Rattle.refusals.specs.Refusals.{frame_refusal, take_refusal, start_refusal, quiet_refusal, length_refusal}
use Rattle.refusals.proofs.Checks.{none, port_in, source_in}
use Rattle.bridge.specs.Calls.{Call, FrameIn, TakeOut, Message, Start, Quiet, ReadUnit, ReadCounts, refusal, rest_after, performed, next}
use Rattle.any_order.specs.Claimants.{Claimant, Stands, unstarted, keeps, loses}
use Rattle.any_order.specs.Mornings.{is_claim, claimant_in, claim_of, claimants, calls_start, has_started, OneAddress, NoneWithdraws, NoneIsTheUnit, Unrefused, Holds, Orderly}
use Rattle.any_order.proofs.Lowest.{grown_behind}
use Rattle.any_order.proofs.Steps.{by_test, SettledIn, claim_settles, start_settles, quiet_settles, fresh_settled}

-- ---- what is refused
long_enough : (ports : ℕ) → not_long ports (record_length ports) ≡ false
long_enough ports = rw (eq-eqb (record_length ports) (record_length ports) refl)

-- a frame that is not refused came from a port, and not from SA 255
frame_in_lem : (ports lent port id len : ℕ) → frame_refusal ports lent port id len ≡ 0 → (0 < port) × (sa_of id < 255)
unfolding frame_refusal
frame_in_lem ports lent port id len e =
    let a = none (no_port ports port) 1 (omega arith) e in
    let b = none (not_long ports lent) 2 (omega arith) a.1 in
    let c = none (too_wide id) 3 (omega arith) b.1 in
    let d = none (ltb 8 len) 4 (omega arith) c.1 in
    let s = none (wrong_source id) 5 (omega arith) d.1 in
    ((port_in ports port a.0).0, source_in id s.0)

-- Start goes for an Unstarted unit with a good preferred address, and for no other
start_goes : (ports : ℕ) (own : Unit) → eqb (start_refusal ports (record_length ports) own) 0 ≡ (is_unstarted own.claim && leb own.preferred 253)
unfolding start_refusal
start_goes ports own = rw (long_enough ports) (go (is_unstarted own.claim) (leb own.preferred 253) refl)
  where
    go : (x y : Bool) → leb own.preferred 253 ≡ y → eqb (cond (not x) 18 (cond (ltb 253 own.preferred) 8 0)) 0 ≡ (x && y)
    go false y e = refl
    go true true e = rw (le-ltb 253 own.preferred (leb-true own.preferred 253 e))
    go true false e = rw (lt-ltb 253 own.preferred (leb-false own.preferred 253 e))

quiet_goes : (ports lent : ℕ) (own : Unit) → eqb (quiet_refusal ports lent own) 0 ≡ true → is_claiming own.claim ≡ true
unfolding quiet_refusal
quiet_goes ports lent own = go (not_long ports lent) (is_claiming own.claim)
  where
    go : (x y : Bool) → eqb (cond x 2 (cond (not y) 18 0)) 0 ≡ true → y ≡ true
    go true y e = absurd (true≢false (sym e))
    go false true e = refl
    go false false e = absurd (true≢false (sym e))

-- ---- a frame that is no claim leaves the rest of the model
no_claim : (rest : Rest) (port id : ℕ) (bytes : List ℕ) → is_claim id bytes ≡ false → (frame_acted rest port (consumes rest.own id) (frame_of id bytes)).rest ≡ rest
unfolding frame_acted is_claim_frame is_claim
no_claim rest port id bytes n =
    rw n (by_test (λ r. r ≡ rest) (is_request_to_unit (frame_of id bytes) (consumes rest.own id)) _ _ (λ _. refl) (λ _. refl))

a_claim : (rest : Rest) (port id : ℕ) (bytes : List ℕ) → is_claim id bytes ≡ true
    → (frame_acted rest port (consumes rest.own id) (frame_of id bytes)).rest ≡ (claim_acted rest port (frame_of id bytes)).rest
unfolding frame_acted is_claim_frame is_claim
a_claim rest port id bytes t = rw t

-- ---- one call
-- a refused call changes nothing
pub rest_next_lem : (ports lent : ℕ) (m : Model) (k : Call)
    → (next ports lent m k).rest ≡ cond (eqb (refusal ports lent m.rest k) 0) (rest_after ports lent m.rest k) m.rest
unfolding next performed
rest_next_lem ports lent m k = go (eqb (refusal ports lent m.rest k) 0)
  where
    go : (x : Bool) → (cond x (performed ports lent m k) m).rest ≡ cond x (rest_after ports lent m.rest k) m.rest
    go true = refl
    go false = refl

-- a call that keeps it where it goes keeps it
either_way : (P : Rest → Type 0) (x : Bool) (then rest : Rest) → (x ≡ true → P then) → P rest → P (cond x then rest)
either_way P true then rest h p = h refl
either_way P false then rest h p = p

-- whether the unit waits for Start is told by how it stands
begun : {name preferred : ℕ} {cs : List Claimant} {claim : Claim} {address : ℕ} → Stands name preferred cs true claim address → is_unstarted claim ≡ false
begun (keeps claim h L) = go claim h
  where
    go : (claim : Claim) → holds_address claim ≡ true → is_unstarted claim ≡ false
    go Unstarted h = absurd (true≢false (sym h))
    go Claiming h = refl
    go Claimed h = refl
    go Lost h = refl
begun (loses c m at low) = refl

waiting : {name preferred : ℕ} {cs : List Claimant} {claim : Claim} {address : ℕ} → Stands name preferred cs false claim address → is_unstarted claim ≡ true
waiting unstarted = refl

-- ---- the first call and the others
claims_more : (k : Call) (ks : List Call) → claimants (k ∷ ks) ≡ claimants (k ∷ []) ++ claimants ks
claims_more (FrameIn port id bytes) ks = rw (append-nil (claim_of port id bytes))
claims_more (TakeOut port) ks = refl
claims_more (Message port requester payload lentReply) ks = refl
claims_more Start ks = refl
claims_more Quiet ks = refl
claims_more ReadUnit ks = refl
claims_more (ReadCounts port) ks = refl

starts_more : (k : Call) (ks : List Call) → calls_start (k ∷ ks) ≡ (calls_start (k ∷ []) || calls_start ks)
starts_more (FrameIn port id bytes) ks = refl
starts_more (TakeOut port) ks = refl
starts_more (Message port requester payload lentReply) ks = refl
starts_more Start ks = refl
starts_more Quiet ks = refl
starts_more ReadUnit ks = refl
starts_more (ReadCounts port) ks = refl

begun_more : (preferred : ℕ) (b : Bool) (k : Call) (ks : List Call)
    → (b || has_started preferred (k ∷ ks)) ≡ ((b || has_started preferred (k ∷ [])) || has_started preferred ks)
begun_more preferred b k ks = rw (starts_more k ks) (go b (calls_start (k ∷ [])) (calls_start ks) (leb preferred 253))
  where
    go : (b x y z : Bool) → (b || ((x || y) && z)) ≡ ((b || (x && z)) || (y && z))
    go true x y z = refl
    go false true true true = refl
    go false true true false = refl
    go false true false true = refl
    go false true false false = refl
    go false false y z = refl

one_of : {A : Type 0} {a k : A} {ks : List A} → Memᴰ a (k ∷ []) → Memᴰ a (k ∷ ks)
one_of m = mathlib.Core.List.Memᴰ.head (mathlib.Core.List.Memᴰ.eq_of_singleton m)

-- the claims of the day, of which some have come
module _ (ports name preferred : ℕ) (day : List Call) (one : Holds ports name day OneAddress) (stays : Holds ports name day NoneWithdraws)
    (others : Holds ports name day NoneIsTheUnit) where
  abbrev Among : List Claimant → Type 0
  Among cs = (d : Claimant) → Memᴰ d cs → Memᴰ d (claimants day)

  after_frame : {b : Bool} {cs : List Claimant} (rest : Rest) (port id : ℕ) (bytes : List ℕ) → Among cs
      → Among (claim_of port id bytes)
      → (is_claim id bytes ≡ true → frame_refusal ports (record_length ports) port id (length bytes) ≡ 0) → SettledIn b name preferred cs rest
      → SettledIn b name preferred (cs ++ claim_of port id bytes)
      (cond (eqb (frame_refusal ports (record_length ports) port id (length bytes)) 0) (rest_after ports (record_length ports) rest (FrameIn port id bytes)) rest)
  unfolding rest_after claim_of
  after_frame {b} {cs} rest port id bytes seen now goes S = go (is_claim id bytes) refl
    where
      lent : ℕ
      lent = record_length ports

      go : (x : Bool) → is_claim id bytes ≡ x
          → SettledIn b name preferred (cs ++ cond x (claimant_in port id bytes ∷ []) [])
          (cond (eqb (frame_refusal ports lent port id (length bytes)) 0) (frame_acted rest port (consumes rest.own id) (frame_of id bytes)).rest rest)
      go false n = rw (append-nil cs, no_claim rest port id bytes n) (either_way (SettledIn b name preferred cs) (eqb (frame_refusal ports lent port id (length bytes)) 0) rest rest (λ _. S) S)
      go true t =
          let c = claimant_in port id bytes in
          let mine : Memᴰ c (claimants day) = now c (rw t (mathlib.Core.List.Memᴰ.head refl)) in
          let number = goes t in
          let real = frame_in_lem ports lent port id (length bytes) number in
          let small : sa_of id < places = let n = stays c mine in omega (arith, real.1) in
          rw (eq-eqb (frame_refusal ports lent port id (length bytes)) 0 number, a_claim rest port id bytes t)
          (claim_settles rest port (frame_of id bytes) (grown_behind cs c)
          record {
            one = λ d m same. one d c (seen d m) mine same (S.inside d m) small;
            other = others c mine;
            port = real.0;
            small = small;
          }
          S)

  after_start : (b : Bool) {cs : List Claimant} (rest : Rest) → SettledIn b name preferred cs rest
      → SettledIn (b || leb preferred 253) name preferred cs
      (cond (eqb (start_refusal ports (record_length ports) rest.own) 0) (rest_after ports (record_length ports) rest Start) rest)
  unfolding rest_after
  after_start true rest S = rw (start_goes ports rest.own, begun S.stands) S
  after_start false {cs} rest S =
      let number : eqb (start_refusal ports (record_length ports) rest.own) 0 ≡ leb preferred 253 = start_goes ports rest.own ∙ rw (waiting S.stands, S.wants) in
      rw number (go (leb preferred 253) refl)
    where
      go : (x : Bool) → leb preferred 253 ≡ x → SettledIn x name preferred cs (cond x (started rest).rest rest)
      go true t = start_settles rest (let l = leb-true preferred 253 t in omega arith) S
      go false t = S

  -- ---- one call
  after_call : (b : Bool) {cs : List Claimant} (rest : Rest) (k : Call) → Among cs
      → Among (claimants (k ∷ []))
      → Holds ports name (k ∷ []) Unrefused
      → SettledIn b name preferred cs rest
      → SettledIn (b || has_started preferred (k ∷ [])) name preferred (cs ++ claimants (k ∷ []))
      (cond (eqb (refusal ports (record_length ports) rest k) 0) (rest_after ports (record_length ports) rest k) rest)
  unfolding refusal rest_after
  after_call b {cs} rest (FrameIn port id bytes) seen now goes S =
      rw (append-nil (claim_of port id bytes), or-false b)
      (after_frame rest port id bytes seen (λ d m. now d (mathlib.Core.List.Memᴰ.append_left [] m)) (goes port id bytes (mathlib.Core.List.Memᴰ.head refl)) S)
  after_call b {cs} rest (TakeOut port) seen now goes S =
      rw (append-nil cs, or-false b) (either_way (SettledIn b name preferred cs) (eqb (take_refusal ports (record_length ports) port) 0) rest rest (λ _. S) S)
  after_call b {cs} rest (Message port requester payload lentReply) seen now goes S =
      let k = Message port requester payload lentReply in
      rw (append-nil cs, or-false b)
      (either_way (SettledIn b name preferred cs) (eqb (refusal ports (record_length ports) rest k) 0) (rest_after ports (record_length ports) rest k) rest (λ _. S) S)
  after_call b {cs} rest Start seen now goes S = rw (append-nil cs) (after_start b rest S)
  after_call b {cs} rest Quiet seen now goes S =
      let number = quiet_refusal ports (record_length ports) rest.own in
      rw (append-nil cs, or-false b)
      (either_way (SettledIn b name preferred cs) (eqb number 0) (rest_after ports (record_length ports) rest Quiet) rest
      (λ t. quiet_settles rest (quiet_goes ports (record_length ports) rest.own t) S) S)
  after_call b {cs} rest ReadUnit seen now goes S =
      rw (append-nil cs, or-false b) (either_way (SettledIn b name preferred cs) (eqb (length_refusal ports (record_length ports)) 0) rest rest (λ _. S) S)
  after_call b {cs} rest (ReadCounts port) seen now goes S =
      rw (append-nil cs, or-false b) (either_way (SettledIn b name preferred cs) (eqb (take_refusal ports (record_length ports) port) 0) rest rest (λ _. S) S)

  -- ---- a list of calls
  after_list : (b : Bool) (cs : List Claimant) (m : Model) (ks : List Call) → Among cs
      → Among (claimants ks)
      → Holds ports name ks Unrefused
      → SettledIn b name preferred cs m.rest
      → SettledIn (b || has_started preferred ks) name preferred (cs ++ claimants ks) (after_calls (next ports (record_length ports)) m ks).rest
  after_list b cs m [] seen left goes S = rw (append-nil cs, or-false b) S
  after_list b cs m (k ∷ ks) seen left goes S =
      let now : Among (claimants (k ∷ [])) = λ d h. left d (rw (claims_more k ks) (mathlib.Core.List.Memᴰ.append_left (claimants ks) h)) in
      let later : Among (claimants ks) = λ d h. left d (rw (claims_more k ks) (mathlib.Core.List.Memᴰ.append_right (claimants (k ∷ [])) h)) in
      let both : Among (cs ++ claimants (k ∷ [])) = λ d h. ⊎_elim (λ o. seen d o) (λ n. now d n) (mathlib.Core.List.Memᴰ.append_cases cs h) in
      let first : SettledIn (b || has_started preferred (k ∷ [])) name preferred (cs ++ claimants (k ∷ [])) (next ports (record_length ports) m k).rest =
      rw (rest_next_lem ports (record_length ports) m k) (after_call b m.rest k seen now (λ port id bytes h. goes port id bytes (one_of h)) S) in
      rw (begun_more preferred b k ks, claims_more k ks, ← (append_assoc cs (claimants (k ∷ [])) (claimants ks)))
      (after_list (b || has_started preferred (k ∷ [])) (cs ++ claimants (k ∷ [])) (next ports (record_length ports) m k) ks both later
      (λ port id bytes h. goes port id bytes (mathlib.Core.List.Memᴰ.tail h)) first)

-- every list of calls from power-on
pub settled_after : (ports name preferred : ℕ) (ks : List Call) → Orderly ports name ks
    → SettledIn (has_started preferred ks) name preferred (claimants ks) (after_calls (next ports (record_length ports)) (fresh ports name preferred) ks).rest
settled_after ports name preferred ks O =
    after_list ports name preferred ks (O OneAddress) (O NoneWithdraws) (O NoneIsTheUnit) false [] (fresh ports name preferred) ks
    (λ d m. absurd (mathlib.Core.List.Memᴰ.not-nil m)) (λ d m. m) (O Unrefused) (fresh_settled ports name preferred)
