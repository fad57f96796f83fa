-- Where no check applies, what the checks test holds; and a command, by its function. Assumes nothing.
use mathlib.Core.Path.{◌≡◌, refl, sym}
use mathlib.Core.Bool.{Bool, true, false, cond, not, ◌||◌}
use mathlib.Core.List.{List}
use Prim.Native.Nat.{ℕ, ◌<◌}
use native.Mathlib.Omega.{arith}
use borrow.Author.Tests.{ne_eqb, eqb-true, eqb-false}
use lib.Dec.{eqb}
use Rattle.entries.specs.Entries.{listed}
use Rattle.network_message.specs.Asked.{Asked, Refused, Request, WithEntries, Clear, AddressList, Parameter, Reset, PairParameter, PairReset}
use Rattle.filter_commands.specs.declared.pairs.Change.TheVariants.{Adds, Deletes, Creates, Names}
use Rattle.checks.specs.Checks.{acknowledges}
use Rattle.network_message.specs.Decoding.{parameter_of, name_of, mask_of, is_known, names_ports, may_name, holds_parameter, entries_end, has_good_body, wrong_entry, payload_checks, refusal_of, judged, command_of, answered}
use Rattle.checks.proofs.FirstNumber.{first_in}

-- ---- what a payload that is not refused has passed
pub record Passed (ports port function from to : ℕ) (payload : List ℕ) : Type 0 where
  pub known : is_known function ≡ true
  pub ported : names_ports ports function from to ≡ true
  pub allowed : may_name ports port function from to ≡ true
  pub held : holds_parameter function (parameter_of payload) ≡ true
  pub bodied : has_good_body function payload ≡ true
  pub entered : eqb (wrong_entry function payload) 0 ≡ true

next : (b : Bool) (n : ℕ) {rest : ℕ} → 0 < n → cond (not b) n rest ≡ 0 → (b ≡ true) × (rest ≡ 0)
next true n h e = (refl, e)
next false n h e = absurd (omega arith)

-- ---- a choice, by its test
choose : (P : Asked → Type 0) (b : Bool) {x y : Asked} → (b ≡ true → P x) → (b ≡ false → P y) → P (cond b x y)
choose P true this other = this refl
choose P false this other = other refl

module _ (ports port function from to : ℕ) (payload : List ℕ) where
  passed : refusal_of ports port function from to payload ≡ 0 → Passed ports port function from to payload
  unfolding refusal_of
  passed e =
      let a = next (is_known function) 9 (omega arith) e in
      let b = next (names_ports ports function from to) 10 (omega arith) a.1 in
      let c = next (may_name ports port function from to) 11 (omega arith) b.1 in
      let p = next (holds_parameter function (parameter_of payload)) 23 (omega arith) c.1 in
      let d = next (has_good_body function payload) 12 (omega arith) p.1 in
      let f = next (eqb (wrong_entry function payload) 0) 22 (omega arith) d.1 in
      record { known = a.0; ported = b.0; allowed = c.0; held = p.0; bodied = d.0; entered = f.0 }

  told : (refusal_of ports port function from to payload ≡ 0 → ⊥) → acknowledges (refusal_of ports port function from to payload) ≡ true
  unfolding refusal_of
  told h = first_in acknowledges (payload_checks ports port function from to payload) refl h

  -- refused with a number that is acknowledged, or a command that has passed
  pub answered_by : (Q : Asked → Type 0) → ((n e : ℕ) → acknowledges n ≡ true → Q (Refused n e)) → (Passed ports port function from to payload → Q (command_of function from to payload)) → Q (answered (judged ports port function from to payload) (command_of function from to payload))
  unfolding judged
  answered_by Q refused command =
      let n = refusal_of ports port function from to payload in
      choose Q (eqb n 0) (λ e. command (passed (eqb-true n 0 e))) (λ e. refused n (judged ports port function from to payload).entry (told (eqb-false n 0 e)))

-- ---- a command, by its function
-- a known function that is none of the others is 133
last_known : (function : ℕ) → is_known function ≡ true
    → eqb function 0 ≡ false → eqb function 2 ≡ false → eqb function 3 ≡ false → eqb function 4 ≡ false → eqb function 6 ≡ false
    → eqb function 7 ≡ false → eqb function 64 ≡ false → eqb function 128 ≡ false → eqb function 130 ≡ false → eqb function 131 ≡ false
    → function ≡ 133
unfolding is_known listed
last_known function known n0 n2 n3 n4 n6 n7 n64 n128 n130 n131 =
    let k = rw (turn 0 n0, turn 2 n2, turn 3 n3, turn 4 n4, turn 6 n6, turn 7 n7, turn 64 n64, turn 128 n128, turn 130 n130, turn 131 n131) at known in
    sym (eqb-true 133 function (only (eqb 133 function) k))
  where
    turn : (k : ℕ) → eqb function k ≡ false → eqb k function ≡ false
    turn k e = ne_eqb k function (λ s. eqb-false function k e (sym s))

    only : (b : Bool) → (b || false) ≡ true → b ≡ true
    only true e = refl
    only false e = e

pub by_function : (P : Asked → Type 0) (function from to : ℕ) (payload : List ℕ) → is_known function ≡ true
    → (function ≡ 0 → P (Request from to))
    → (function ≡ 2 → P (WithEntries Adds from to 2 (entries_end 2 payload)))
    → (function ≡ 3 → P (WithEntries Deletes from to 2 (entries_end 2 payload)))
    → (function ≡ 4 → P (Clear from to))
    → ((pass : Bool) → function ≡ 6 → P (WithEntries (Creates pass) from to 3 (entries_end 3 payload)))
    → (function ≡ 7 → P (WithEntries (Names (name_of payload) (mask_of payload)) from to 2 5))
    → (function ≡ 64 → P (AddressList to))
    → (function ≡ 128 → P (Parameter (parameter_of payload)))
    → (function ≡ 130 → P Reset)
    → (function ≡ 131 → P (PairParameter from to (parameter_of payload)))
    → (function ≡ 133 → P (PairReset from to))
    → P (command_of function from to payload)
unfolding command_of
by_function P function from to payload known request add delete clear create name list parameter reset pair-parameter pair_reset =
    choose P (eqb function 0) (λ e. request (eqb-true function 0 e))
    (λ n0. choose P (eqb function 2) (λ e. add (eqb-true function 2 e))
    (λ n2. choose P (eqb function 3) (λ e. delete (eqb-true function 3 e))
    (λ n3. choose P (eqb function 4) (λ e. clear (eqb-true function 4 e))
    (λ n4. choose P (eqb function 6) (λ e. create _ (eqb-true function 6 e))
    (λ n6. choose P (eqb function 7) (λ e. name (eqb-true function 7 e))
    (λ n7. choose P (eqb function 64) (λ e. list (eqb-true function 64 e))
    (λ n64. choose P (eqb function 128) (λ e. parameter (eqb-true function 128 e))
    (λ n128. choose P (eqb function 130) (λ e. reset (eqb-true function 130 e))
    (λ n130. choose P (eqb function 131) (λ e. pair-parameter (eqb-true function 131 e))
    (λ n131. pair_reset (last_known function known n0 n2 n3 n4 n6 n7 n64 n128 n130 n131)))))))))))
