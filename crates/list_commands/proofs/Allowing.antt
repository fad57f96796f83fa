-- A command is refused by no list exactly if it may be done on every pair that it names. Assumes nothing.
use mathlib.Core.Path.{◌≡◌, refl, sym, ◌∙◌}
use mathlib.Core.Bool.{Bool, true, false, cond, not, ◌&&◌, true≢false}
use mathlib.Core.List.{List}
use Prim.Native.Nat.{ℕ, ◌+◌, ◌-◌, ◌≤◌, ◌<◌}
use native.Mathlib.Omega.{arith}
use native.Mathlib.Decide.{ℕ_discrete, dec_lt}
use lib.ListN.{length, get_or}
use Rattle.filter.specs.Filter.{Filter, clear, is_cleared}
use Rattle.filter_commands.specs.Changes.{would_pass, may_add, may_delete, may_create, may_name}
use Rattle.filter_commands.specs.declared.pairs.Change.{Change}
use Rattle.filter_commands.specs.declared.pairs.Change.TheVariants.{Adds, Deletes, Creates, Names}
use Rattle.filter_commands.specs.declared.pairs.Question.TheVariants.{IsCleared, IsNotCleared, WouldPass, Lacks, NamesFull}
use Rattle.filter_commands.specs.Pairs.{holds_of, may_of, change_of}
use Rattle.unit.specs.Model.{record_length}
use Rattle.record.specs.Steps.{PairJudging}
use Rattle.list_commands.specs.Commands.{first_pair, names, any_below, holds_at, any_named, list_checks, list_refusal}
use Rattle.list_commands.specs.Steps.{Naming, Trying}
use Rattle.list_commands.proofs.PairLoop.{pairs_in, any_found, any_none, Walking, walk_start, walk_more, walk_next, walk_done}

module _ (ports from to : ℕ) (pairs : List Filter) where
  -- what holds of each pair that is named
  abbrev Each : (Filter → Type 0) → Type 0
  Each P = (k : ℕ) → k < ports - 1 → names from to k ≡ true → P (get_or pairs (first_pair ports from + k) clear)

  -- one question: no to it for every pair that is named
  module _ (test : Filter → Bool) where
    none_here : Each (λ f. test f ≡ false) → any_named ports (ports - 1) test from to pairs ≡ false
    unfolding any_named any_below
    none_here h = sym (any_none (holds_at ports test from to pairs) 0 (ports - 1) (omega arith) (λ k _ l. go k l (names from to k) refl) refl)
      where
        go : (k : ℕ) → k < ports - 1 → (b : Bool) → names from to k ≡ b → holds_at ports test from to pairs k ≡ false
        go k l true e = rw e (h k l e)
        go k l false e = rw e

    none_there : any_named ports (ports - 1) test from to pairs ≡ false → Each (λ f. test f ≡ false)
    unfolding any_named
    none_there none k l n = go (test (get_or pairs (first_pair ports from + k) clear)) refl
      where
        go : (b : Bool) → test (get_or pairs (first_pair ports from + k) clear) ≡ b → test (get_or pairs (first_pair ports from + k) clear) ≡ false
        go true e = absurd (true≢false (any_found (holds_at ports test from to pairs) (ports - 1) k l (rw (n, e)) ∙ none))
        go false e = e

  -- two questions, whose numbers are not 0
  module _ (test other : Filter → Bool) (m n : ℕ) (p : 0 < m) (q : 0 < n) where
    two_pass : Each (λ f. (test f ≡ false) × (other f ≡ false)) → cond (any_named ports (ports - 1) test from to pairs) m (cond (any_named ports (ports - 1) other from to pairs) n 0) ≡ 0
    two_pass h = rw (none_here test (λ k l e. (h k l e).0), none_here other (λ k l e. (h k l e).1))

    two_passed : cond (any_named ports (ports - 1) test from to pairs) m (cond (any_named ports (ports - 1) other from to pairs) n 0) ≡ 0 → Each (λ f. (test f ≡ false) × (other f ≡ false))
    two_passed z k l e =
        let none = go (any_named ports (ports - 1) test from to pairs) (any_named ports (ports - 1) other from to pairs) z in
        (none_there test none.0 k l e, none_there other none.1 k l e)
      where
        go : (a b : Bool) → cond a m (cond b n 0) ≡ 0 → (a ≡ false) × (b ≡ false)
        go true b z = absurd (omega arith)
        go false true z = absurd (omega arith)
        go false false z = (refl, refl)

  -- what may be done, by the two questions of each change
  both_no : (a b : Bool) → (not a && not b) ≡ true → (a ≡ false) × (b ≡ false)
  both_no true b e = absurd (true≢false (sym e))
  both_no false true e = absurd (true≢false (sym e))
  both_no false false e = (refl, refl)

  create_no : (a b : Bool) → (a && not b) ≡ true → (not a ≡ false) × (b ≡ false)
  create_no true true e = absurd (true≢false (sym e))
  create_no true false e = (refl, refl)
  create_no false b e = absurd (true≢false (sym e))

  create_may : (a b : Bool) → not a ≡ false → b ≡ false → (a && not b) ≡ true
  create_may true true n e = absurd (true≢false e)
  create_may true false n e = refl
  create_may false b n e = absurd (true≢false n)

  pub allowed : (change : Change) (xs : List ℕ) → Each (λ f. may_of change xs f ≡ true) → list_refusal ports change xs from to pairs ≡ 0
  unfolding list_refusal list_checks holds_of may_of may_add may_delete may_create may_name
  allowed Adds xs h = two_pass (holds_of IsCleared xs) (holds_of WouldPass xs) 15 16 (omega arith) (omega arith) (λ k l e. both_no _ _ (h k l e))
  allowed Deletes xs h = two_pass (holds_of IsCleared xs) (holds_of Lacks xs) 15 17 (omega arith) (omega arith) (λ k l e. both_no _ _ (h k l e))
  allowed (Creates passing) xs h = two_pass (holds_of IsNotCleared xs) (holds_of WouldPass xs) 14 16 (omega arith) (omega arith) (λ k l e. create_no (is_cleared (get_or pairs (first_pair ports from + k) clear).mode) (would_pass (get_or pairs (first_pair ports from + k) clear) xs) (h k l e))
  allowed (Names name mask) xs h = two_pass (holds_of IsCleared xs) (holds_of (NamesFull name mask) xs) 15 16 (omega arith) (omega arith) (λ k l e. both_no _ _ (h k l e))

  pub allows : (change : Change) (xs : List ℕ) → list_refusal ports change xs from to pairs ≡ 0 → Each (λ f. may_of change xs f ≡ true)
  unfolding list_refusal list_checks holds_of may_of may_add may_delete may_create may_name
  allows Adds xs z k l e = let n = two_passed (holds_of IsCleared xs) (holds_of WouldPass xs) 15 16 (omega arith) (omega arith) z k l e in rw (n.0, n.1)
  allows Deletes xs z k l e = let n = two_passed (holds_of IsCleared xs) (holds_of Lacks xs) 15 17 (omega arith) (omega arith) z k l e in rw (n.0, n.1)
  allows (Creates passing) xs z k l e = let n = two_passed (holds_of IsNotCleared xs) (holds_of WouldPass xs) 14 16 (omega arith) (omega arith) z k l e in create_may (is_cleared (get_or pairs (first_pair ports from + k) clear).mode) (would_pass (get_or pairs (first_pair ports from + k) clear) xs) n.0 n.1
  allows (Names name mask) xs z k l e = let n = two_passed (holds_of IsCleared xs) (holds_of (NamesFull name mask) xs) 15 16 (omega arith) (omega arith) z k l e in rw (n.0, n.1)

-- where the loop stands at pair i: those that are named and stand before it might be changed, and are
pub record Going (ports first end : ℕ) (start words : List ℕ) (change : Change) (xs : List ℕ) (i : ℕ) : Type 0 where
  pub walking : Walking ports first end start words (change_of change xs) i
  pub might : (from to : ℕ) → Naming ports from to first end → (j : ℕ) → first ≤ j → j < i → may_of change xs (get_or (pairs_in ports start) j clear) ≡ true
  pub fresh : i ≡ first → words ≡ start

module _ {ports first end : ℕ} {start : List ℕ} {change : Change} {xs : List ℕ} where
  pub go_start : length start ≡ record_length ports → Going ports first end start start change xs first
  go_start h = record { walking = walk_start h; might = λ _ _ _ j a b. absurd (omega arith); fresh = λ _. refl }

  module _ {words after : List ℕ} {i : ℕ} {r : Bool} (G : Going ports first end start words change xs i) (a : first ≤ i) (b : i < end) (P : PairJudging ports words after i (may_of change xs) (change_of change xs) r) where
    here : (from to : ℕ) → Naming ports from to first end → r ≡ may_of change xs (get_or (pairs_in ports start) i clear)
    here from to N = P.done ∙ rw (walk_next G.walking a from to N)

    pub go_more : r ≡ true → length after ≡ record_length ports → Going ports first end start after change xs (i + 1)
    go_more e h = record {
      walking = walk_more G.walking a b h P.changed;
      might = λ from to N j low high.
          elim (ℕ_discrete j i) [
            | yes z ↦ rw z (sym (here from to N) ∙ e)
            | no z ↦ G.might from to N j low (omega arith)
          ];
      fresh = λ z. absurd (omega arith);
    }

    pub go_refused : r ≡ false → (from to : ℕ) → Naming ports from to first end → Trying ports start after from to first end change xs false
    go_refused e from to N = record {
      done = λ t. absurd (true≢false (sym t));
      refused = λ _. (
        (λ z.
            let k = i - first_pair ports from in
            let at : i ≡ first_pair ports from + k = omega (arith, N.least) in
            let may = allows ports from to (pairs_in ports start) change xs z k (omega (arith, N.most)) (N.inside k (omega arith) (omega arith)) in
            true≢false (sym (rw (← at) at may) ∙ (sym (here from to N) ∙ e))),
        λ one. P.refused e ∙ G.fresh (omega arith),
      );
    }

  pub go_done : {words : List ℕ} → Going ports first end start words change xs end → (from to : ℕ) → Naming ports from to first end → Trying ports start words from to first end change xs true
  go_done G from to N = record {
    done = λ _. (
      allowed ports from to (pairs_in ports start) change xs (λ k l n. G.might from to N (first_pair ports from + k) (after_first k n) (before_end k l n)),
      walk_done G.walking from to N,
    );
    refused = λ f. absurd (true≢false f);
  }
    where
      after_first : (k : ℕ) → names from to k ≡ true → first ≤ first_pair ports from + k
      after_first k n =
          elim (dec_lt (first_pair ports from + k) first) [
            | yes l ↦ absurd (true≢false (sym n ∙ N.before k l))
            | no l ↦ omega arith
          ]

      before_end : (k : ℕ) → k < ports - 1 → names from to k ≡ true → first_pair ports from + k < end
      before_end k l n =
          elim (dec_lt (first_pair ports from + k) end) [
            | yes s ↦ s
            | no s ↦ absurd (true≢false (sym n ∙ N.behind k (omega arith) l))
          ]
