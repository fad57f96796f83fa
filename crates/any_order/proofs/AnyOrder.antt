-- The ticket's sentences, of every list of calls by the real functions: by their contracts the record means what the book of the rules holds (demand 3), and
-- the book's table is settled. Assumes nothing.
use mathlib.Core.Path.{◌≡◌, refl, sym, ap, ◌∙◌}
use mathlib.Core.Bool.{Bool, true, false}
use mathlib.Core.List.{List, [], ◌∷◌, ◌++◌, Memᴰ}
use Prim.Native.Nat.{ℕ, ◌<◌}
use native.Mathlib.Omega.{arith}
use borrow.Author.Tests.{le-leb, lt-leb}
use Rattle.unit.specs.Model.{model_of}
use Rattle.bridge.specs.Calls.{Call, FrameIn, TakeOut, Message, Start, Quiet, ReadUnit, ReadCounts}
use Rattle.demand_3.specs.Demand3.{model_after}
use Rattle.demand_3.proofs.Demand3.{demand_3}
use Rattle.any_order.specs.Claimants.{Same}
use Rattle.any_order.specs.Mornings.{claimants, calls_start, has_started, OnePort, NoneIsTheUnit, Orderly}
use Rattle.any_order.specs.AnyOrder.{Morning, Outcome, Alike, Begins, unstarted, started, AnyOrder}
use Rattle.any_order.proofs.Lowest.{turned, same_in_order}
use Rattle.any_order.proofs.Steps.{SettledIn}
use Rattle.any_order.proofs.Calls.{settled_after}
use Rattle.any_order.proofs.Unique.{one_table, stands_alike}

-- what the record means after a morning
pub rest_in_lem : {ports name preferred : ℕ} {ks : List Call} {v : List ℕ} → Morning ports name preferred ks v → (model_of ports v).rest ≡ (model_after ports name preferred ks).rest
rest_in_lem {ks = ks} {v = v} M =
    let D = demand_3 M.powers_on in
    let same = (D.chosen M.goes_on).0 in
    ap (λ m. m.rest) (rw same at (D.every (λ e. omega (arith, M.goes_on, e)) ks M.answers v M.run).state)

settled_in : {ports name preferred : ℕ} {ks : List Call} {v : List ℕ} → Morning ports name preferred ks v → Orderly ports name ks
    → SettledIn (has_started preferred ks) name preferred (claimants ks) (model_of ports v).rest
settled_in {ports} {name} {preferred} {ks} M O = rw (rest_in_lem M) (settled_after ports name preferred ks O)

-- ---- the unit at the beginning
never : (preferred : ℕ) (ks : List Call) → (Memᴰ Start ks → 253 < preferred) → has_started preferred ks ≡ false
never preferred [] n = refl
never preferred (FrameIn port id bytes ∷ ks) n = never preferred ks (λ m. n (Memᴰ.tail m))
never preferred (TakeOut port ∷ ks) n = never preferred ks (λ m. n (Memᴰ.tail m))
never preferred (Message port requester payload lentReply ∷ ks) n = never preferred ks (λ m. n (Memᴰ.tail m))
never preferred (Start ∷ ks) n = lt-leb preferred 253 (n (Memᴰ.head refl))
never preferred (Quiet ∷ ks) n = never preferred ks (λ m. n (Memᴰ.tail m))
never preferred (ReadUnit ∷ ks) n = never preferred ks (λ m. n (Memᴰ.tail m))
never preferred (ReadCounts port ∷ ks) n = never preferred ks (λ m. n (Memᴰ.tail m))

once : (js later : List Call) → calls_start (js ++ Start ∷ later) ≡ true
once [] later = refl
once (FrameIn port id bytes ∷ js) later = once js later
once (TakeOut port ∷ js) later = once js later
once (Message port requester payload lentReply ∷ js) later = once js later
once (Start ∷ js) later = refl
once (Quiet ∷ js) later = once js later
once (ReadUnit ∷ js) later = once js later
once (ReadCounts port ∷ js) later = once js later

begins : {preferred : ℕ} {ks : List Call} {b : Bool} → Begins preferred ks b → has_started preferred ks ≡ b
begins {preferred = preferred} {ks = ks} (unstarted n) = never preferred ks n
begins {preferred = preferred} (started js later e none good) = rw (e, once js later, le-leb preferred 253 good)

-- ---- the theorem
lowest : {ports name preferred : ℕ} {ks : List Call} {v : List ℕ} → Morning ports name preferred ks v → Orderly ports name ks → Outcome ports name preferred ks v
lowest M O = let S = settled_in M O in record { table = S.goes; unit = S.stands }

same : {ports name preferred : ℕ} {ks ks' : List Call} {v v' : List ℕ} → Morning ports name preferred ks v → Morning ports name preferred ks' v'
    → Orderly ports name ks → Orderly ports name ks' → has_started preferred ks ≡ has_started preferred ks' → Same (claimants ks) (claimants ks') → Alike ports v v'
same {ports} {name} {preferred} {ks} {ks'} {v} {v'} M M' O O' b s =
    let S = settled_in M O in
    let S' : SettledIn (has_started preferred ks) name preferred (claimants ks') (model_of ports v').rest = rw b (settled_in M' O') in
    let unit = stands_alike s S.stands S'.stands in
    record {
      table =
          one_table name preferred (claimants ks) (O OnePort) (O NoneIsTheUnit) (has_started preferred ks) (model_of ports v).rest.table
          (model_of ports v').rest.table (turned s) S.long S'.long S.goes S'.goes;
      claim = unit.0;
      address = unit.1;
    }

pub any_order : AnyOrder
any_order = record {
  lowest = λ M O. lowest M O;
  order = λ M M' O O' B B' p. same M M' O O' (begins B ∙ sym (begins B')) (same_in_order p);
  same = λ M M' O O' b s. same M M' O O' b s;
}
