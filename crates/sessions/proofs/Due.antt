-- The first that passes a test ends, again and again: those that pass end in their order, and the others stay. Assumes nothing.
use mathlib.Core.Path.{◌≡◌, refl, sym, ap, ◌∙◌}
use mathlib.Core.Bool.{Bool, true, false}
use mathlib.Core.List.{List, [], ◌∷◌}
use Prim.Native.Nat.{ℕ, zero, suc, ◌≤◌, ◌<◌}
use native.Mathlib.Nat.{not-suc-le-zero, le_of_suc-le-suc, le_refl}
use native.Mathlib.Omega.{arith}
use lib.ListN.{length, get_or}
use lib.Dec.{ltb}
use borrow.Author.Tests.{lt-ltb, le-ltb, ltb-true, ltb-false}
use Rattle.session.specs.Session.{Session}
use Rattle.sessions.specs.Sessions.{talk_of, none, place_of, remove_at}
use Rattle.sessions.specs.Due.{those, others, first_due, Ending, Next, Over, ending, leaving, InTime}
use Rattle.std.specs.Prelude.{None, Some}
use Rattle.sessions.proofs.Steps.{past_none, removed_long}

module _ (test : Session → Bool) where
  next_case : (x : Session) (ss : List Session) (b : Bool) → test x ≡ b → (place_of test ss < length ss → Next test ss) → place_of test (x ∷ ss) < length (x ∷ ss) → Next test (x ∷ ss)
  unfolding those place_of remove_at
  next_case x ss true t more h = record { ends = rw t; stay = rw t }
  next_case x ss false t more h =
      let g : suc (place_of test ss) < suc (length ss) = rw t at h in
      let N = more (le_of_suc-le-suc g) in
      record { ends = rw t (rw t N.ends); stay = rw t (rw t (ap {A = List Session} (λ l. x ∷ l) N.stay)) }

  pub next_due : (ss : List Session) → place_of test ss < length ss → Next test ss
  next_due [] h = absurd (not-suc-le-zero h)
  next_due (x ∷ ss) h = next_case x ss (test x) refl (next_due ss) h

  over_case : (x : Session) (ss : List Session) (b : Bool) → test x ≡ b → (length ss ≤ place_of test ss → Over test ss) → length (x ∷ ss) ≤ place_of test (x ∷ ss) → Over test (x ∷ ss)
  unfolding those place_of
  over_case x ss true t more h = absurd (not-suc-le-zero (rw t at h))
  over_case x ss false t more h =
      let g : suc (length ss) ≤ suc (place_of test ss) = rw t at h in
      let N = more (le_of_suc-le-suc g) in
      record { ends = rw t N.ends; stay = rw t (ap {A = List Session} (λ l. x ∷ l) N.stay) }

  pub none_due : (ss : List Session) → length ss ≤ place_of test ss → Over test ss
  unfolding those
  none_due [] h = record { ends = refl; stay = refl }
  none_due (x ∷ ss) h = over_case x ss (test x) refl (none_due ss) h

  -- ---- steps one after the other
  step_ended : (n : ℕ) (ss : List Session) (b : Bool) → ltb (place_of test ss) (length ss) ≡ b → length ss ≤ suc n
      → ((ts : List Session) → length ts ≤ n → ending n test ts ≡ those test ts) → ending (suc n) test ss ≡ those test ss
  unfolding ending
  step_ended n ss true t h more =
      let inside = ltb-true (place_of test ss) (length ss) t in
      rw t
      (ap {A = List Session} (λ l. get_or ss (place_of test ss) none ∷ l) (more (remove_at (place_of test ss) ss) (omega (arith, removed_long (place_of test ss) ss inside)))
      ∙ sym (next_due ss inside).ends)
  step_ended n ss false t h more = rw t (sym (none_due ss (ltb-false (place_of test ss) (length ss) t)).ends)

  all_ended : (n : ℕ) (ss : List Session) → length ss ≤ n → ending n test ss ≡ those test ss
  unfolding ending those
  all_ended zero [] h = refl
  all_ended zero (x ∷ ss) h = absurd (not-suc-le-zero h)
  all_ended (suc n) ss h = step_ended n ss (ltb (place_of test ss) (length ss)) refl h (all_ended n)

  step_left : (n : ℕ) (ss : List Session) (b : Bool) → ltb (place_of test ss) (length ss) ≡ b → length ss ≤ suc n
      → ((ts : List Session) → length ts ≤ n → leaving n test ts ≡ others test ts) → leaving (suc n) test ss ≡ others test ss
  unfolding leaving
  step_left n ss true t h more =
      let inside = ltb-true (place_of test ss) (length ss) t in
      rw t
      (more (remove_at (place_of test ss) ss) (omega (arith, removed_long (place_of test ss) ss inside))
      ∙ sym (next_due ss inside).stay)
  step_left n ss false t h more = rw t (sym (none_due ss (ltb-false (place_of test ss) (length ss) t)).stay)

  all_left : (n : ℕ) (ss : List Session) → length ss ≤ n → leaving n test ss ≡ others test ss
  unfolding leaving those
  all_left zero [] h = refl
  all_left zero (x ∷ ss) h = absurd (not-suc-le-zero h)
  all_left (suc n) ss h = step_left n ss (ltb (place_of test ss) (length ss)) refl h (all_left n)

  pub in_time : (ss : List Session) → InTime test ss
  in_time ss = record { ended = all_ended (length ss) ss (le_refl (length ss)); left = all_left (length ss) ss (le_refl (length ss)) }

-- ---- one step of the code
module _ (before : List ℕ) (time : ℕ) where
  pub ends_nothing : length (talk_of before) ≤ first_due time (talk_of before) → Ending before before time None
  ends_nothing h = record {
    talk = past_none (first_due time (talk_of before)) (talk_of before) h;
    answer = rw (le-ltb (first_due time (talk_of before)) (length (talk_of before)) h);
  }

  pub ends_one : {after : List ℕ} {i peer : ℕ} → i ≡ first_due time (talk_of before) → i < length (talk_of before) → peer ≡ (get_or (talk_of before) i none).peer → talk_of after ≡ remove_at i (talk_of before)
      → Ending before after time (Some peer)
  ends_one {after} {i} {peer} e h p t =
      let inside : first_due time (talk_of before) < length (talk_of before) = rw (← e) h in
      record {
        talk = t ∙ ap {A = ℕ} (λ n. remove_at n (talk_of before)) e;
        answer = rw (lt-ltb (first_due time (talk_of before)) (length (talk_of before)) inside, p, e);
      }
