-- The words that count losses: what a pair's tells is what the model says; no two pairs have one, none is the general one, and none lies in a pair's block.
-- Assumes nothing.
use mathlib.Core.Path.{◌≡◌, refl, sym, ap, ◌∙◌}
use mathlib.Core.Logic.{inr}
use mathlib.Core.Bool.{Bool, true, false, cond, true≢false}
use mathlib.Core.List.{List}
use Prim.Native.Nat.{ℕ, suc, ◌+◌, ◌-◌, ◌*◌, ◌<◌, min}
use native.Mathlib.Omega.{arith}
use borrow.Author.Tests.{ltb-true, ltb-false}
use lib.ListN.{take, drop, get_or}
use lib.Seq.{get_or-take, get_or-drop}
use lib.Dec.{ltb}
use Rattle.storage.specs.Blocks.{block_at}
use Rattle.storage.proofs.Blocks.{blocks_at}
use Rattle.losses.specs.Losses.{most, held, counter_length, losses_of}
use Rattle.checks.proofs.Ports.{port_bounds}
use Rattle.unit.specs.Count.{ports_of, pair_count}
use Rattle.unit.specs.Model.{pair_at, losses_from, model_of}
use Rattle.unit.proofs.Count.{pair_below}
use Rattle.list_commands.specs.Commands.{IsPair, target_of, first_pair}
use Rattle.list_commands.proofs.Ranks.{rank, rank_small, rank_target}
use Rattle.demand_2.specs.Demand2.{counter_on, general_counter, losses_on, resets_pair, resets_general, Outside, Unnamed}
use Rattle.demand_2.proofs.Pairs.{row_is}

-- ---- the place of a pair
module _ (ports : ℕ) where
  place_below : {a b : ℕ} → IsPair ports a b → pair_at ports (a - 1) (b - 1) < pair_count ports
  place_below {a} {b} P = pair_below {ports = ports} {p = a - 1} {k = rank a b} (omega (arith, port_bounds ports a P.from)) (rank_small ports a b P)

  one_place : {a b c d : ℕ} → IsPair ports a b → IsPair ports c d → pair_at ports (a - 1) (b - 1) ≡ pair_at ports (c - 1) (d - 1) → (a ≡ c) × (b ≡ d)
  one_place {a} {b} {c} {d} P Q e = (from, to c (sym from) Q e)
    where
      from : a ≡ c
      from = row_is ports (rank_small ports a b P) (rank_small ports c d Q) (port_bounds ports a P.from).0 (port_bounds ports c Q.from).0 e

      to : (c : ℕ) → c ≡ a → IsPair ports c d → first_pair ports a + rank a b ≡ first_pair ports c + rank c d → b ≡ d
      to c same R h =
          let k : rank a b ≡ rank a d = omega (arith, rw same at h) in
          sym (rank_target ports a b P) ∙ ap (λ n. suc (target_of (a - 1) n)) k ∙ rank_target ports a d (rw same at R)

  -- the counters stand behind the blocks
  outside : {a b : ℕ} → IsPair ports a b → (i : ℕ) → Outside ports a b (losses_from ports + i)
  outside P i = inr (omega (arith, place_below P))

  module _ (payload : List ℕ) where
    pub counter_unnamed : (a b : ℕ) → IsPair ports a b → resets_pair payload a b ≡ false → Unnamed ports payload (counter_on ports a b)
    unfolding pair_count
    counter_unnamed a b P e = record {
      block = λ c d Q _. outside Q _;
      counter = λ c d Q r same.
          let one = one_place P Q (omega arith) in
          true≢false (sym r ∙ rw (← one.0, ← one.1) e);
      general = λ _ same. omega (arith, place_below P, same);
    }

    pub general_unnamed : resets_general payload ≡ false → Unnamed ports payload (general_counter ports)
    unfolding pair_count
    general_unnamed e = record {
      block = λ c d Q _. outside Q _;
      counter = λ c d Q _ same. omega (arith, place_below Q, same);
      general = λ r _. true≢false (sym r ∙ e);
    }

-- ---- what a counter tells
told_is : (word : ℕ) → min word 64255 ≡ held word
unfolding held
told_is word = go (ltb word most) refl
  where
    go : (t : Bool) → ltb word most ≡ t → min word 64255 ≡ cond t word most
    go true e = let l = ltb-true word most e in omega arith
    go false e = let l = ltb-false word most e in omega arith

-- in a record read with a number of ports that is its own
pub losses_in_lem : (words : List ℕ) {ports : ℕ} → ports_of words ≡ ports → (a b : ℕ) → IsPair ports a b → losses_on words a b ≡ get_or (model_of ports words).seen.losses (pair_at ports (a - 1) (b - 1)) 0
unfolding model_of losses_of block_at
losses_in_lem words {ports} same a b P =
    ap (λ n. min (get_or words (counter_on n a b) 0) 64255) same
    ∙ told_is (get_or words (counter_on ports a b) 0)
    ∙ ap held (sym word)
    ∙ sym (blocks_at losses_of counter_length (losses_from ports) (pair_count ports + 1) words i 0 (omega (arith, place_below ports P)))
  where
    i : ℕ
    i = pair_at ports (a - 1) (b - 1)

    word : get_or (take counter_length (drop (losses_from ports + counter_length * i) words)) 0 0 ≡ get_or words (counter_on ports a b) 0
    word =
        get_or-take 1 (drop (losses_from ports + counter_length * i) words) 0 0 (omega arith)
        ∙ get_or-drop (losses_from ports + counter_length * i) words 0 0
        ∙ ap (λ n. get_or words n 0) (omega arith)
