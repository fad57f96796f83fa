-- Every command that is decoded: its ports are ports, its entries are entries within the payload, and a tool on a port other than 1 named its own alone.
-- From what the payload has passed, function by function. Assumes nothing.
use mathlib.Core.Path.{◌≡◌, refl}
use mathlib.Core.Logic.{◌⊎◌, inl, inr}
use mathlib.Core.Bool.{Bool, true, false, not, ◌&&◌, ◌||◌}
use mathlib.Core.List.{List}
use Prim.Native.Nat.{ℕ, ◌≤◌}
use native.Mathlib.Omega.{arith}
use borrow.Author.Tests.{ne_eqb, eqb-true, eqb-false, not-true}
use lib.Dec.{eqb}
use lib.ListN.{length, drop, length-drop}
use lib.Seq.{length-take-le}
use Rattle.entries.specs.Entries.{listed, entries_of, first_wrong}
use Rattle.entries.proofs.Listed.{formed}
use Rattle.checks.proofs.Tests.{both}
use Rattle.network_message.specs.Decoding.{function_of, pair_of, from_of, to_of, is_general, all_ports, may_be_all, is_pair, names_ports, holds_parameter, entries_end, holds_entries, has_good_body, wrong_in, wrong_entry, between, judged, command_of, answered, decoded}
use Rattle.checks.specs.Ports.{is_port}
use Rattle.network_message.specs.Commands.{named, pairs, Own, Ports, Holding, Good}
use Rattle.checks.proofs.Ports.{port_bounds}
use Rattle.network_message.proofs.Naming.{end_bounds}
use Rattle.network_message.proofs.Passing.{Passed, answered_by, by_function}
use Rattle.network_message.proofs.Rights.{own_pairs, own_port, own_whole}

-- ---- ports
pub pair_ports : (ports function from to : ℕ) → is_pair ports function from to ≡ true → Ports ports from to
unfolding is_pair
pair_ports ports function from to e =
    let a = both (is_port ports from) _ e in
    let b = both (is_port ports to || (eqb to all_ports && may_be_all function)) (not (eqb from to)) a.1 in
    let from_in = port_bounds ports from a.0 in
    record {
      least = from_in.0;
      most = from_in.1;
      other = to_in (is_port ports to) (eqb to all_ports) (may_be_all function) refl refl b.0;
      apart = eqb-false from to (not-true (eqb from to) b.1);
    }
  where
    to_in : (p a m : Bool) → is_port ports to ≡ p → eqb to all_ports ≡ a → (p || (a && m)) ≡ true → ((1 ≤ to) × (to ≤ ports)) ⊎ (to ≡ all_ports)
    to_in true a m ep ea e = inl (port_bounds ports to ep)
    to_in false true m ep ea e = inr (eqb-true to all_ports ea)
    to_in false false m ep ea e = let z : ◌≡◌ {A = ℕ} 0 1 = cc in absurd (omega arith)

-- To is 15 in no Request, and in no function of a parameter
one_port_lem : (ports function from to : ℕ) → may_be_all function ≡ false → is_pair ports function from to ≡ true → to ≤ ports
unfolding is_pair
one_port_lem ports function from to m e =
    let a = both (is_port ports from) _ (rw m at e) in
    let b = both (is_port ports to || (eqb to all_ports && false)) (not (eqb from to)) a.1 in
    (port_bounds ports to (one (is_port ports to) (eqb to all_ports) b.0)).1
  where
    one : (p a : Bool) → (p || (a && false)) ≡ true → p ≡ true
    one true a e = refl
    one false true e = e
    one false false e = e

-- ---- every command
module _ (ports port function from to : ℕ) (payload : List ℕ) (P : Passed ports port function from to payload) where
  pairs_named : is_general function ≡ false → (function ≡ 64 → ⊥) → is_pair ports function from to ≡ true
  unfolding names_ports
  pairs_named g h = rw (g, ne_eqb function 64 h) at P.ported

  port_named : function ≡ 64 → is_port ports to ≡ true
  unfolding names_ports is_general listed
  port_named e = rw e at P.ported

  held : (start : ℕ) → start ≤ 3 → 8 ≤ length payload → holds_entries start payload ≡ true → eqb (wrong_in start payload) 0 ≡ true → Holding start (entries_end start payload) payload
  unfolding holds_entries wrong_in
  held start s l e w =
      let b = end_bounds start payload s l in
      record { forward = b.0; inside = b.1; formed = formed (between start (entries_end start payload) payload) e (eqb-true _ 0 w) }

  -- of a NAME entry: three bytes, and they make a PGN
  named_held : 8 ≤ length payload → eqb (first_wrong (entries_of (between 2 5 payload))) 0 ≡ true → Holding 2 5 payload
  named_held l w =
      let three : length (between 2 5 payload) ≡ 3 = length-take-le 3 (drop 2 payload) (omega (arith, length-drop 2 payload)) in
      record { forward = omega arith; inside = omega arith; formed = formed (between 2 5 payload) (rw three) (eqb-true _ 0 w) }

  pub command_good : 8 ≤ length payload → Good ports payload (command_of function from to payload)
  unfolding is_general may_be_all holds_parameter has_good_body wrong_entry listed
  command_good l =
      by_function (Good ports payload) function from to payload P.known
      (λ e. one (rw e) (rw e) (λ h. omega arith))
      (λ e. (here (rw e) (λ h. omega arith), held 2 (omega arith) l (rw e at P.bodied) (rw e at P.entered)))
      (λ e. (here (rw e) (λ h. omega arith), held 2 (omega arith) l (rw e at P.bodied) (rw e at P.entered)))
      (λ e. here (rw e) (λ h. omega arith))
      (λ _ e. (here (rw e) (λ h. omega arith), held 3 (omega arith) l (rw e at P.bodied) (rw e at P.entered)))
      (λ e. (here (rw e) (λ h. omega arith), named_held l (rw e at P.entered)))
      (λ e. port_bounds ports to (port_named e))
      (λ e. rw e at P.held)
      (λ e. tt)
      (λ e. let o = one (rw e) (rw e) (λ h. omega arith) in (o.0, o.1, rw e at P.held))
      (λ e. one (rw e) (rw e) (λ h. omega arith))
    where
      here : is_general function ≡ false → (function ≡ 64 → ⊥) → Ports ports from to
      here g h = pair_ports ports function from to (pairs_named g h)

      one : is_general function ≡ false → may_be_all function ≡ false → (function ≡ 64 → ⊥) → Ports ports from to × (to ≤ ports)
      one g m h = (here g h, one_port_lem ports function from to m (pairs_named g h))

  -- the pairs that a tool names are its own
  own : 2 ≤ port → port ≤ ports → ports ≤ 8 → is_general function ≡ false → (function ≡ 64 → ⊥) → Own ports port (pairs from to)
  own tool there few g h =
      let named = pair_ports ports function from to (pairs_named g h) in
      own_pairs ports port function from to tool there few named.least named.most P.allowed

-- ---- what is decoded
module _ (ports port : ℕ) (payload : List ℕ) where
  pub decoded_good : 8 ≤ length payload → Good ports payload (decoded ports port payload)
  unfolding decoded
  decoded_good l = go (function_of payload) (from_of (pair_of payload)) (to_of (pair_of payload))
    where
      go : (function from to : ℕ) → Good ports payload (answered (judged ports port function from to payload) (command_of function from to payload))
      go function from to =
          answered_by ports port function from to payload (Good ports payload)
          (λ n e r. r)
          (λ P. command_good ports port function from to payload P l)

  pub decoded_own : 2 ≤ port → port ≤ ports → ports ≤ 8 → Own ports port (named (decoded ports port payload))
  unfolding decoded named is_general listed
  decoded_own tool there few = go (function_of payload) (from_of (pair_of payload)) (to_of (pair_of payload))
    where
      go : (function from to : ℕ) → Own ports port (named (answered (judged ports port function from to payload) (command_of function from to payload)))
      go function from to =
          answered_by ports port function from to payload (λ c. Own ports port (named c))
          (λ n e r. tt)
          (λ P.
          let mine = own ports port function from to payload P tool there few in
          let all = own_whole ports port function from to tool there few P.allowed in
          by_function (λ c. Own ports port (named c)) function from to payload P.known
          (λ e. mine (rw e) (λ h. omega arith))
          (λ e. mine (rw e) (λ h. omega arith))
          (λ e. mine (rw e) (λ h. omega arith))
          (λ e. mine (rw e) (λ h. omega arith))
          (λ _ e. mine (rw e) (λ h. omega arith))
          (λ e. mine (rw e) (λ h. omega arith))
          (own_port ports port function from to tool there few P.allowed)
          (λ e. all (rw e))
          (λ e. all (rw e))
          (λ e. mine (rw e) (λ h. omega arith))
          (λ e. mine (rw e) (λ h. omega arith)))
