-- Where no check applies, what the checks test holds. Assumes nothing.
use mathlib.Core.Path.{◌≡◌, refl}
use mathlib.Core.Bool.{Bool, true, false, not, ◌&&◌, ◌||◌, cond}
use Prim.Native.Nat.{ℕ, ◌≤◌, ◌<◌}
use native.Mathlib.Nat.{mod-lt}
use native.Mathlib.Omega.{arith}
use borrow.Author.Tests.{leb-true, ltb-false, eqb-true, eqb-false, not-false}
use lib.Dec.{ltb, leb, eqb}
use Rattle.identifier.specs.Identifier.{sa_of, too_wide, wrong_source}
use Rattle.unit.specs.declared.Unit.{Unit}
use Rattle.unit.specs.Model.{record_length, Rest}
use Rattle.checks.specs.Ports.{no_port, is_port}
use Rattle.refusals.specs.Refusals.{frame_refusal, length_refusal, take_refusal, message_refusal}
use Rattle.unit.specs.PowerOn.{not_long}
use Rattle.unit.specs.Own.{is_unstarted, start_checks, is_claimed}
use Rattle.checks.specs.Checks.{first}
use Rattle.checks.proofs.Tests.{both}
use Rattle.checks.proofs.Ports.{port_bounds}
use Rattle.network_message.specs.Decoding.{longest}

pub none : (b : Bool) (n : ℕ) {rest : ℕ} → 0 < n → cond b n rest ≡ 0 → (b ≡ false) × (rest ≡ 0)
none true n h e = absurd (omega arith)
none false n h e = (refl, e)

first_two : (a b : Bool) (rest : ℕ) → 0 < cond a 1 (cond b 2 0) → cond a 1 (cond b 2 rest) ≡ cond a 1 (cond b 2 0)
first_two true b rest h = refl
first_two false true rest h = refl
first_two false false rest h = absurd (omega arith)

first_two_or : (a b b' : Bool) (rest : ℕ) → 0 < cond a 1 (cond b 2 0) → cond a 1 (cond (b || b') 2 rest) ≡ cond a 1 (cond b 2 0)
first_two_or true b b' rest h = refl
first_two_or false true b' rest h = refl
first_two_or false false b' rest h = absurd (omega arith)

-- the checks of a take stand first among those of a frame and of a message
pub frame_refused : (ports lent port id len : ℕ) → 0 < take_refusal ports lent port → frame_refusal ports lent port id len ≡ take_refusal ports lent port
unfolding frame_refusal take_refusal
frame_refused ports lent port id len h = first_two (no_port ports port) (not_long ports lent) _ h

pub message_refused : (ports lent reply : ℕ) (rest : Rest) (port requester size : ℕ) → 0 < take_refusal ports lent port → message_refusal ports lent reply rest port requester size ≡ take_refusal ports lent port
unfolding message_refusal take_refusal
message_refused ports lent reply rest port requester size h = first_two_or (no_port ports port) (not_long ports lent) (ltb reply longest) _ h

pub port_in : (ports port : ℕ) → no_port ports port ≡ false → (1 ≤ port) × (port ≤ ports)
port_in ports port h = port_bounds ports port (not-false (is_port ports port) h)

pub long_in : (ports lent : ℕ) → not_long ports lent ≡ false → lent ≡ record_length ports
long_in ports lent h = eqb-true lent (record_length ports) (not-false (eqb lent (record_length ports)) h)

pub source_in : (id : ℕ) → wrong_source id ≡ false → sa_of id < 255
unfolding wrong_source
source_in id h =
    let not255 = eqb-false (sa_of id) 255 (left (eqb (sa_of id) 255) _ h) in
    let small = mod-lt id {m = 256} (omega arith) in
    elim_lt (sa_of id) small not255
  where
    left : (a b : Bool) → a || b ≡ false → a ≡ false
    left true b e = e
    left false b e = refl

    elim_lt : (x : ℕ) → x < 256 → (x ≡ 255 → ⊥) → x < 255
    elim_lt x l h = omega arith

-- the length of the record alone
pub length_stops : (ports lent : ℕ) {n : ℕ} → n ≡ length_refusal ports lent → 0 < n → (n ≡ 2) × (lent ≡ record_length ports → ⊥)
unfolding length_refusal
length_stops ports lent e h = go (eqb lent (record_length ports)) refl e h
  where
    go : (b : Bool) {n : ℕ} → eqb lent (record_length ports) ≡ b → n ≡ cond (not b) 2 0 → 0 < n → (n ≡ 2) × (lent ≡ record_length ports → ⊥)
    go true t e h = absurd (omega arith)
    go false t e h = (e, eqb-false lent (record_length ports) t)

pub length_goes : (ports lent : ℕ) → length_refusal ports lent ≡ 0 → lent ≡ record_length ports
unfolding length_refusal
length_goes ports lent e = long_in ports lent (none (not_long ports lent) 2 (omega arith) e).0

pub take_goes : (ports lent port : ℕ) → take_refusal ports lent port ≡ 0 → (lent ≡ record_length ports) × (1 ≤ port) × (port ≤ ports)
unfolding take_refusal
take_goes ports lent port e =
    let a = none (no_port ports port) 1 (omega arith) e in
    let b = none (not_long ports lent) 2 (omega arith) a.1 in
    let p = port_in ports port a.0 in
    (long_in ports lent b.0, p.0, p.1)

pub frame_goes : (ports lent port id len : ℕ) → frame_refusal ports lent port id len ≡ 0 → (lent ≡ record_length ports) × (1 ≤ port) × (port ≤ ports) × (len ≤ 8) × (sa_of id < 255)
unfolding frame_refusal
frame_goes ports lent port id len e =
    let a = none (no_port ports port) 1 (omega arith) e in
    let b = none (not_long ports lent) 2 (omega arith) a.1 in
    let d = none (too_wide id) 3 (omega arith) b.1 in
    let f = none (ltb 8 len) 4 (omega arith) d.1 in
    let g = none (wrong_source id) 5 (omega arith) f.1 in
    let p = port_in ports port a.0 in
    (long_in ports lent b.0, p.0, p.1, ltb-false 8 len f.0, source_in id g.0)

pub start_goes : (own : Unit) → first (start_checks own) ≡ 0 → own.preferred < 254
start_goes own e =
    let a = none (not (is_unstarted own.claim)) 18 (omega arith) e in
    let b = none (ltb 253 own.preferred) 8 (omega arith) a.1 in
    omega (arith, ltb-false 253 own.preferred b.0)

-- ---- a message: 2 is the buffer's too
either : (a b : Bool) → a || b ≡ false → (a ≡ false) × (b ≡ false)
either true b e = let z : ◌≡◌ {A = ℕ} 0 1 = cc in absurd (omega arith)
either false b e = (refl, e)

-- where none of 1, 2, 6, 7, 8 applies
pub message_goes : (ports lent lentReply : ℕ) (rest : Rest) (port requester size : ℕ) → message_refusal ports lent lentReply rest port requester size ≡ 0
    → (lent ≡ record_length ports) × (longest ≤ lentReply) × (8 ≤ size) × (requester < 254)
unfolding message_refusal
message_goes ports lent lentReply rest port requester size e =
    let a = none (no_port ports port) 1 (omega arith) e in
    let b = none (not_long ports lent || ltb lentReply longest) 2 (omega arith) a.1 in
    let two = either (not_long ports lent) (ltb lentReply longest) b.0 in
    let d = none (not (is_claimed rest.own.claim)) 6 (omega arith) b.1 in
    let f = none (not (leb 8 size && leb size longest)) 7 (omega arith) d.1 in
    let sizes = both (leb 8 size) (leb size longest) (not-false (leb 8 size && leb size longest) f.0) in
    let g = none (ltb 253 requester) 8 (omega arith) f.1 in
    (long_in ports lent two.0, ltb-false lentReply longest two.1, leb-true 8 size sizes.0, omega (arith, ltb-false 253 requester g.0))
