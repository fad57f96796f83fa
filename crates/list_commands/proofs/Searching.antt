-- The search for an absent PGN: entries of a command that a list holds, one after the other, and the first that it lacks; pair after pair. Assumes nothing.
use mathlib.Core.Path.{◌≡◌, refl, sym, ◌∙◌}
use mathlib.Core.Bool.{Bool, true, false, cond, ◌||◌, and-false, true≢false}
use mathlib.Core.List.{List}
use Prim.Native.Nat.{ℕ, zero, suc, ◌+◌, ◌-◌, ◌≤◌, ◌<◌}
use native.Mathlib.Nat.{not-suc-le-zero}
use native.Mathlib.Decide.{ℕ_discrete, dec_lt}
use native.Mathlib.Omega.{arith}
use borrow.Author.Tests.{not-true}
use lib.ListN.{length, get_or}
use Rattle.storage.proofs.Walk.{Left, left_all, left_next, left_one, left_none}
use Rattle.entries.specs.Entries.{listed, every, leading}
use Rattle.entries.proofs.Leading.{leading_all, leading_some, leading_short}
use Rattle.filter.specs.Filter.{Filter, clear}
use Rattle.filter_commands.specs.Changes.{lacks}
use Rattle.filter_commands.specs.declared.pairs.Question.TheVariants.{IsCleared, IsNotCleared, WouldPass, Lacks, NamesFull}
use Rattle.filter_commands.specs.declared.pairs.Change.{Change}
use Rattle.filter_commands.specs.declared.pairs.Change.TheVariants.{Adds, Deletes, Creates, Names}
use Rattle.filter_commands.specs.Pairs.{holds_of}
use Rattle.list_commands.specs.declared.Absent.{Absent}
use Rattle.list_commands.specs.Commands.{target_of, first_pair, names, holds_at, any_below, any_named, first_below, held_before, absent_in, absent_at, list_checks, list_refusal}
use Rattle.list_commands.specs.Steps.{Naming, Stopping}
use Rattle.list_commands.proofs.PairLoop.{any_found, any_none}

-- ---- in one list: after k entries that it holds
abbrev pub Held : List ℕ → List ℕ → ℕ → Type 0
Held es xs k = Left (held_before es xs) (λ ys. k + held_before es ys) xs k

pub held_none : (es xs : List ℕ) → Held es xs 0
held_none es xs = left_all (omega arith)

module _ (es : List ℕ) {xs : List ℕ} {k : ℕ} (H : Held es xs k) where
  pub held_one : k < length xs → listed (get_or xs k 0) es ≡ true → Held es xs (k + 1)
  unfolding leading
  held_one turn e = left_one H turn (rw e (omega arith))

  held_stop : k < length xs → listed (get_or xs k 0) es ≡ false → k ≡ held_before es xs
  unfolding leading
  held_stop turn e = sym (left_next H turn ∙ rw e (omega arith))

  held_all : length xs ≤ k → length xs ≡ held_before es xs
  unfolding leading
  held_all done = omega (arith, left_none H done, H.inside)

-- the first that it lacks is one of them
pub lacking_short : (f : Filter) (xs : List ℕ) → lacks f xs ≡ true → held_before f.entries xs < length xs
unfolding lacks
lacking_short f xs l = leading_short (λ x. listed x f.entries) xs (not-true (every (λ x. listed x f.entries) xs) l)

-- ---- pair after pair: none before i lacks one
pub record Searched (pairs : List Filter) (xs : List ℕ) (first end i : ℕ) : Type 0 where
  pub least : first ≤ i
  pub most : i ≤ end
  pub before : (j : ℕ) → first ≤ j → j < i → lacks (get_or pairs j clear) xs ≡ false

module _ {pairs : List Filter} {xs : List ℕ} {first end : ℕ} where
  pub searched_none : first ≤ end → Searched pairs xs first end first
  searched_none h = record { least = omega arith; most = h; before = λ j a b. absurd (omega arith) }

  module _ {i : ℕ} (S : Searched pairs xs first end i) where
    pub searched_one : {k : ℕ} → i < end → Held (get_or pairs i clear).entries xs k → length xs ≤ k → Searched pairs xs first end (i + 1)
    unfolding lacks
    searched_one {k} more H done = record {
      least = omega (arith, S.least);
      most = omega arith;
      before = λ j a b.
          elim (ℕ_discrete j i) [
            | yes e ↦ rw (e, leading_all (λ x. listed x (get_or pairs i clear).entries) xs (held_all (get_or pairs i clear).entries H done))
            | no ne ↦ S.before j a (omega arith)
          ];
    }

    pub stopped_here : {k : ℕ} → i < end → Held (get_or pairs i clear).entries xs k → k < length xs → listed (get_or xs k 0) (get_or pairs i clear).entries ≡ false → Stopping pairs xs first end i k
    unfolding lacks
    stopped_here {k} more H turn absent =
        let e = held_stop (get_or pairs i clear).entries H turn absent in
        record {
          least = S.least;
          most = S.most;
          before = S.before;
          here = λ _. (rw (leading_some (λ x. listed x (get_or pairs i clear).entries) xs (omega (arith, e))), e);
        }

    pub stopped_none : {k : ℕ} → end ≤ i → Stopping pairs xs first end i k
    stopped_none done = record { least = S.least; most = S.most; before = S.before; here = λ h. absurd (omega arith) }

-- ---- the first of them, as the rules name it
first_below_lem : (test : ℕ → Bool) (n k : ℕ) → k < n → test k ≡ true → ((j : ℕ) → j < k → test j ≡ false) → first_below test n ≡ k
unfolding first_below any_below
first_below_lem test zero k h t none = absurd (not-suc-le-zero h)
first_below_lem test (suc n) k h t none =
    elim (ℕ_discrete k n) [
      | yes e ↦ rw (sym (any_none test 0 n (omega arith) (λ j _ l. none j (omega arith)) refl), ← e, t)
      | no ne ↦ rw (sym (any_found test n k (omega arith) t)) (first_below_lem test n k (omega arith) t none)
    ]

-- a test that holds of one below n holds of the first, and of none before it
none_below : (test : ℕ → Bool) (n j : ℕ) → any_below test n ≡ false → j < n → test j ≡ false
none_below test n j e h = go (test j) refl
  where
    go : (b : Bool) → test j ≡ b → b ≡ false
    go true t = absurd (true≢false (any_found test n j h t ∙ e))
    go false t = refl

pub first_found : (test : ℕ → Bool) (n : ℕ) → any_below test n ≡ true → (first_below test n < n) × (test (first_below test n) ≡ true) × ((j : ℕ) → j < first_below test n → test j ≡ false)
unfolding first_below any_below
first_found test zero e = absurd (true≢false (sym e))
first_found test (suc n) e = go (any_below test n) refl e (first_found test n)
  where
    go : (b : Bool) → any_below test n ≡ b → b || test n ≡ true → (any_below test n ≡ true → (first_below test n < n) × (test (first_below test n) ≡ true) × ((j : ℕ) → j < first_below test n → test j ≡ false)) → (cond b (first_below test n) (cond (test n) n (suc n)) < suc n) × (test (cond b (first_below test n) (cond (test n) n (suc n))) ≡ true) × ((j : ℕ) → j < cond b (first_below test n) (cond (test n) n (suc n)) → test j ≡ false)
    go true a e ih = let f = ih a in (omega (arith, f.0), f.1, f.2)
    go false a e ih = rw e (omega arith, e, λ j h. none_below test n j a h)

module _ {ports from to first end : ℕ} (N : Naming ports from to first end) {pairs : List Filter} {xs : List ℕ} {i k : ℕ} (S : Stopping pairs xs first end i k) (lacking : any_named ports (ports - 1) (holds_of Lacks xs) from to pairs ≡ true) where
  abbrev test : ℕ → Bool
  test = holds_at ports (holds_of Lacks xs) from to pairs

  -- none before it
  none_before : (j : ℕ) → first_pair ports from + j < i → test j ≡ false
  unfolding holds_of
  none_before j h =
      elim (dec_lt (first_pair ports from + j) first) [
        | yes l ↦ rw (N.before j l)
        | no nl ↦ rw (S.before (first_pair ports from + j) (omega arith) h) (and-false (names from to j))
      ]

  inside : i < end
  unfolding any_named any_below
  inside =
      elim (dec_lt i end) [
        | yes l ↦ l
        | no nl ↦ absurd (true≢false (sym lacking ∙ sym (any_none test 0 (ports - 1) (omega arith) (λ j _ l. past j l (omega arith)) refl)))
      ]
    where
      past : (j : ℕ) → j < ports - 1 → end ≤ i → test j ≡ false
      past j l done =
          elim (dec_lt (first_pair ports from + j) end) [
            | yes h ↦ none_before j (omega arith)
            | no nh ↦ rw (N.behind j (omega arith) l)
          ]

  place : first_pair ports from + (i - first_pair ports from) ≡ i
  place = omega (arith, N.least, S.least)

  here : test (i - first_pair ports from) ≡ true
  unfolding holds_of
  here = rw (place, N.inside (i - first_pair ports from) (omega (arith, place, S.least)) (omega (arith, place, inside)), (S.here inside).0)

  first_is : first_below test (ports - 1) ≡ i - first_pair ports from
  first_is = first_below_lem test (ports - 1) (i - first_pair ports from) (omega (arith, inside, N.most, N.least, S.least)) here (λ j l. none_before j (omega (arith, place)))

  pub absent_is : absent_in xs from (i - first_pair ports from) (get_or pairs i clear) ≡ absent_at ports xs from to pairs
  unfolding absent_at
  absent_is = rw (first_is, place)

  pub entry_is : k ≡ held_before (get_or pairs i clear).entries xs
  entry_is = (S.here inside).1

  pub entry_short : k < length xs
  entry_short = rw entry_is (lacking_short (get_or pairs i clear) xs (S.here inside).0)

  -- where the search stopped is what the rules name
  pub absent_found : (entry pgn port : ℕ) → k ≡ entry - 1 → 0 < entry → pgn ≡ get_or xs k 0 → port ≡ suc (target_of (from - 1) (i - first_pair ports from))
      → ◌≡◌ {A = Absent} (record { entry = entry; pgn = pgn; to = port }) (absent_at ports xs from to pairs)
  absent_found entry pgn port e more p q =
      let f : entry ≡ suc (held_before (get_or pairs i clear).entries xs) = omega (arith, entry_is) in
      rw (← absent_is) (rw (f, p, q, entry_is))

-- a search that found none of them found none that lacks one
pub none_absent : {ports from to first end : ℕ} → Naming ports from to first end → (pairs : List Filter) (xs : List ℕ)
    → ((j : ℕ) → first ≤ j → j < end → lacks (get_or pairs j clear) xs ≡ false) → any_named ports (ports - 1) (holds_of Lacks xs) from to pairs ≡ true → ⊥
none_absent {ports} {from} {to} {first} {end} N pairs xs none lacking =
    let S : Stopping pairs xs first end end 0 = record { least = N.forward; most = omega arith; before = none; here = λ h. absurd (omega arith) } in
    omega (arith, inside N S lacking)

-- ---- 17 is given for a PGN that is absent, and for nothing else
two : (m n : ℕ) (a b : Bool) → (m ≡ 17 → ⊥) → (n ≡ 17 → ⊥) → cond a m (cond b n 0) ≡ 17 → ⊥
two m n true b h k e = h e
two m n false true h k e = k e
two m n false false h k e = omega arith

pub refused_17 : (ports : ℕ) (change : Change) (xs : List ℕ) (from to : ℕ) (pairs : List Filter) → list_refusal ports change xs from to pairs ≡ 17 → any_named ports (ports - 1) (holds_of Lacks xs) from to pairs ≡ true
unfolding list_refusal list_checks
refused_17 ports Adds xs from to pairs e = absurd (two 15 16 (any_named ports (ports - 1) (holds_of IsCleared xs) from to pairs) (any_named ports (ports - 1) (holds_of WouldPass xs) from to pairs) (λ z. omega arith) (λ z. omega arith) e)
refused_17 ports Deletes xs from to pairs e = go (any_named ports (ports - 1) (holds_of IsCleared xs) from to pairs) (any_named ports (ports - 1) (holds_of Lacks xs) from to pairs) refl e
  where
    go : (a b : Bool) → any_named ports (ports - 1) (holds_of Lacks xs) from to pairs ≡ b → cond {A = ℕ} a 15 (cond b 17 0) ≡ 17 → any_named ports (ports - 1) (holds_of Lacks xs) from to pairs ≡ true
    go true b t e = absurd (omega arith)
    go false true t e = t
    go false false t e = absurd (omega arith)
refused_17 ports (Creates passing) xs from to pairs e = absurd (two 14 16 (any_named ports (ports - 1) (holds_of IsNotCleared xs) from to pairs) (any_named ports (ports - 1) (holds_of WouldPass xs) from to pairs) (λ z. omega arith) (λ z. omega arith) e)
refused_17 ports (Names name mask) xs from to pairs e = absurd (two 15 16 (any_named ports (ports - 1) (holds_of IsCleared xs) from to pairs) (any_named ports (ports - 1) (holds_of (NamesFull name mask) xs) from to pairs) (λ z. omega arith) (λ z. omega arith) e)
