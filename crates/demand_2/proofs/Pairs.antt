-- A command changes the pairs that it names and no other. Assumes nothing.
use mathlib.Core.Path.{◌≡◌, refl, ap, ◌∙◌}
use mathlib.Core.Bool.{Bool, true, false, cond, ◌&&◌}
use mathlib.Core.List.{List, ◌++◌}
use Prim.Native.Nat.{ℕ, suc, ◌+◌, ◌-◌, ◌*◌, ◌≤◌, ◌<◌}
use native.Mathlib.Decide.{dec_lt}
use native.Mathlib.Nat.{mul-suc, mul-le-mul_left}
use native.Mathlib.Omega.{arith}
use borrow.Author.Tests.{eqb-true, eqb-false, le-leb}
use lib.ListN.{length, get_or, take, drop, length-drop, get_or-append}
use lib.Seq.{length-take-le, get_or-append-add, get_or-take, get_or-drop}
use lib.Dec.{eqb}
use Rattle.filter.specs.Filter.{Filter, clear}
use Rattle.checks.proofs.Ports.{port_bounds}
use Rattle.checks.specs.Ports.{is_port}
use Rattle.network_message.specs.Commands.{reaches, Ports}
use Rattle.message_answers.proofs.Replies.{one_port_lem}
use Rattle.unit.specs.Ports.{each}
use Rattle.unit.specs.Count.{ports_of, pair_count}
use Rattle.unit.specs.Model.{pair_at, model_of}
use Rattle.list_commands.specs.Commands.{IsPair, first_pair, change_at, change_named}
use Rattle.list_commands.proofs.Ranks.{rank, rank_small, names_is}
use Rattle.unit.proofs.Count.{row_below, pair_below}
use Rattle.unit.proofs.Ports.{each_at, each_later}
use Rattle.demand_2.specs.Demand2.{unit_in, pair_on}

-- ---- a record read with a number of ports that is its own
module _ (words : List ℕ) {ports : ℕ} (same : ports_of words ≡ ports) where
  pub unit_in_lem : unit_in words ≡ model_of ports words
  unit_in_lem = ap (λ n. model_of n words) same

  pub pair_in_lem : (a b : ℕ) → pair_on words a b ≡ get_or (model_of ports words).rest.pairs (pair_at ports (a - 1) (b - 1)) clear
  pair_in_lem a b = ap (λ n. get_or (model_of n words).rest.pairs (pair_at n (a - 1) (b - 1)) clear) same

-- ---- pairs
-- a pair that a command names alone
pub pair_is : {ports from to : ℕ} → ports ≤ 8 → Ports ports from to → to ≤ ports → IsPair ports from to
unfolding is_port
pair_is {ports} {from} {to} few ps one = record {
  from = rw (le-leb 1 from ps.least, le-leb from ports ps.most);
  to = rw (le-leb 1 to (one_port_lem few ps one), le-leb to ports one);
  apart = ps.apart;
}

-- places among the pairs that are equal are from the same port
pub row_is : (ports : ℕ) {a b j k : ℕ} → j < ports - 1 → k < ports - 1 → 1 ≤ a → 1 ≤ b → first_pair ports a + j ≡ first_pair ports b + k → a ≡ b
row_is ports {a} {b} {j} {k} l m one other e =
    elim (dec_lt a b) [
      | yes h ↦ absurd (omega (arith, later a b one h))
      | no h ↦ elim (dec_lt b a) [
        | yes g ↦ absurd (omega (arith, later b a other g))
        | no g ↦ omega arith
      ]
    ]
  where
    later : (x y : ℕ) → 1 ≤ x → x < y → (ports - 1) * (x - 1) + (ports - 1) ≤ (ports - 1) * (y - 1)
    later x y least h =
        let row : (ports - 1) * suc (x - 1) ≤ (ports - 1) * (y - 1) = mul-le-mul_left (ports - 1) (omega arith) in
        omega (arith, row, mul-suc (ports - 1) (x - 1))

-- ---- a change of the pairs that are named
module _ (ports from to : ℕ) (change : Filter → Filter) (pairs : List Filter) (long : length pairs ≡ pair_count ports) (low : 1 ≤ from) (high : from ≤ ports) where
  head_long : length (take (first_pair ports from) pairs) ≡ first_pair ports from
  head_long = length-take-le (first_pair ports from) pairs (rw long (row_below {p = from - 1} (omega arith)))

  abbrev behind : List Filter
  behind = each (change_at change from to) (ports - 1) (drop (first_pair ports from) pairs)

  -- the kth from that port
  pub changed_at : (k : ℕ) → k < ports - 1 → get_or (change_named ports (ports - 1) change from to pairs) (first_pair ports from + k) clear ≡ change_at change from to k (get_or pairs (first_pair ports from + k) clear)
  unfolding change_named
  changed_at k l =
      by_length (first_pair ports from) head_long
      ∙ each_at (change_at change from to) (ports - 1) (drop (first_pair ports from) pairs) k clear l (simp length-drop (omega (arith, pair_below {ports = ports} {p = from - 1} {k = k} (omega arith) l)))
      ∙ rw (get_or-drop (first_pair ports from) pairs k clear)
    where
      by_length : (s : ℕ) → length (take (first_pair ports from) pairs) ≡ s → get_or (take (first_pair ports from) pairs ++ behind) (s + k) clear ≡ get_or behind k clear
      by_length s e = rw (← e) (get_or-append-add (take (first_pair ports from) pairs) behind k clear)

  -- one from a lower port, or from a higher one
  below_still : (i : ℕ) → i < first_pair ports from → get_or (change_named ports (ports - 1) change from to pairs) i clear ≡ get_or pairs i clear
  unfolding change_named
  below_still i l =
      get_or-append (take (first_pair ports from) pairs) behind clear i (omega (arith, head_long))
      ∙ get_or-take (first_pair ports from) pairs i clear l

  above_still : (k : ℕ) → ports - 1 ≤ k → get_or (change_named ports (ports - 1) change from to pairs) (first_pair ports from + k) clear ≡ get_or pairs (first_pair ports from + k) clear
  unfolding change_named
  above_still k l =
      by_length (first_pair ports from) head_long
      ∙ each_later (change_at change from to) (ports - 1) (drop (first_pair ports from) pairs) k clear l
      ∙ get_or-drop (first_pair ports from) pairs k clear
    where
      by_length : (s : ℕ) → length (take (first_pair ports from) pairs) ≡ s → get_or (take (first_pair ports from) pairs ++ behind) (s + k) clear ≡ get_or behind k clear
      by_length s e = rw (← e) (get_or-append-add (take (first_pair ports from) pairs) behind k clear)

  pub else_still : (i : ℕ) → ((k : ℕ) → k < ports - 1 → i ≡ first_pair ports from + k → ⊥) → get_or (change_named ports (ports - 1) change from to pairs) i clear ≡ get_or pairs i clear
  else_still i h =
      elim (dec_lt i (first_pair ports from)) [
        | yes l ↦ below_still i l
        | no l ↦
            let e : i ≡ first_pair ports from + (i - first_pair ports from) = omega arith in
            let far : ports - 1 ≤ i - first_pair ports from = elim (dec_lt (i - first_pair ports from) (ports - 1)) [
              | yes s ↦ absurd (h (i - first_pair ports from) s e)
              | no s ↦ omega arith
            ] in
            there (i - first_pair ports from) e far
      ]
    where
      there : (k : ℕ) → i ≡ first_pair ports from + k → ports - 1 ≤ k → get_or (change_named ports (ports - 1) change from to pairs) i clear ≡ get_or pairs i clear
      there k e far = rw e (above_still k far)

  -- the pair from a to b
  pub changed_pair : (a b : ℕ) (P : IsPair ports a b) → get_or (change_named ports (ports - 1) change from to pairs) (pair_at ports (a - 1) (b - 1)) clear ≡ cond (eqb a from && reaches ports from to b) (change (get_or pairs (pair_at ports (a - 1) (b - 1)) clear)) (get_or pairs (pair_at ports (a - 1) (b - 1)) clear)
  changed_pair a b P = go (eqb a from) refl
    where
      here : a ≡ from → get_or (change_named ports (ports - 1) change from to pairs) (pair_at ports (a - 1) (b - 1)) clear ≡ cond (reaches ports from to b) (change (get_or pairs (pair_at ports (a - 1) (b - 1)) clear)) (get_or pairs (pair_at ports (a - 1) (b - 1)) clear)
      here e = rw e (changed_at (rank from b) (rank_small ports from b (rw e at P)) ∙ rw (names_is ports from b (rw e at P) to))

      go : (t : Bool) → eqb a from ≡ t → get_or (change_named ports (ports - 1) change from to pairs) (pair_at ports (a - 1) (b - 1)) clear ≡ cond (t && reaches ports from to b) (change (get_or pairs (pair_at ports (a - 1) (b - 1)) clear)) (get_or pairs (pair_at ports (a - 1) (b - 1)) clear)
      go true e = here (eqb-true a from e)
      go false e =
          else_still (pair_at ports (a - 1) (b - 1))
          (λ k l h. eqb-false a from e (row_is ports (rank_small ports a b P) l (port_bounds ports a P.from).0 low h))
