-- A search along a list. Assumes nothing.
use Rattle.std.proofs.Common.{◌≡◌, refl, ◌∙◌, ℕ, suc, ◌+◌, ◌≤◌, ◌<◌, Bool, true, false, cond, List, [], ◌∷◌, length, map, Option, None, Some, arith}
use lib.Dec.{ltb}
use borrow.Author.Tests.{ltb-true, ltb-false}
use Rattle.std.specs.List.{position_or_len}
use Rattle.std.proofs.lemmas.List.{length-map}
use Rattle.std.proofs.lemmas.List.Recursion.{is_position_or_len}
use Rattle.session.specs.Session.{Session, session_of}
use Rattle.std.specs.Option.{IfSome, is_some, unwrap_or}
use Rattle.sessions.specs.Sessions.{place_of, place_in, remove_at, removed_if}
use Rattle.sessions.proofs.Steps.{past_none}

-- as the library finds it among the blocks
pub place_is : (test : Session → Bool) (blocks : List (List ℕ)) → place_of test (map session_of blocks) ≡ position_or_len (λ b. test (session_of b)) blocks
unfolding place_of
place_is test blocks = is_position_or_len (λ bs. place_of test (map session_of bs)) (λ b. test (session_of b)) refl (λ b bs. more (test (session_of b)) (place_of test (map session_of bs))) blocks
  where
    more : (b : Bool) (n : ℕ) → cond b 0 (suc n) ≡ cond b 0 (1 + n)
    more true n = refl
    more false n = omega arith

pub place_by : (test : Session → Bool) (blocks : List (List ℕ)) {ss : List Session} {r : Option ℕ} → map session_of blocks ≡ ss
    → r ≡ cond (ltb (position_or_len (λ b. test (session_of b)) blocks) (length blocks)) (Some (position_or_len (λ b. test (session_of b)) blocks)) None
    → r ≡ place_in test ss
place_by test blocks m e = e ∙ rw (← m, place_is test blocks, length-map blocks session_of)

module _ (test : Session → Bool) (ss : List Session) where
  pub place_some : {i : ℕ} → Some i ≡ place_in test ss → (i ≡ place_of test ss) × (place_of test ss < length ss)
  place_some {i} e = go (ltb (place_of test ss) (length ss)) refl e
    where
      go : (b : Bool) → ltb (place_of test ss) (length ss) ≡ b → Some i ≡ cond b (Some (place_of test ss)) None → (i ≡ place_of test ss) × (place_of test ss < length ss)
      go true t e = (cc, ltb-true (place_of test ss) (length ss) t)
      go false t e = absurd (let z : ◌≡◌ {A = ℕ} 0 1 = cc in omega arith)

  pub place_none : None ≡ place_in test ss → length ss ≤ place_of test ss
  place_none e = go (ltb (place_of test ss) (length ss)) refl e
    where
      go : (b : Bool) → ltb (place_of test ss) (length ss) ≡ b → None ≡ cond b (Some (place_of test ss)) None → length ss ≤ place_of test ss
      go true t e = absurd (let z : ◌≡◌ {A = ℕ} 0 1 = cc in omega arith)
      go false t e = ltb-false (place_of test ss) (length ss) t

  pub place_inside : place_of test ss ≤ length ss
  unfolding place_of
  place_inside = bound ss
    where
      case : (b : Bool) {n m : ℕ} → n ≤ m → cond b 0 (suc n) ≤ suc m
      case true h = omega arith
      case false h = omega arith

      bound : (ss : List Session) → place_of test ss ≤ length ss
      bound [] = omega arith
      bound (s ∷ ss) = case (test s) (bound ss)

  pub place_if : IfSome (place_in test ss) (λ i. i < length ss)
  place_if = go (ltb (place_of test ss) (length ss)) refl
    where
      go : (b : Bool) → ltb (place_of test ss) (length ss) ≡ b → IfSome (cond b (Some (place_of test ss)) None) (λ i. i < length ss)
      go true t = ltb-true (place_of test ss) (length ss) t
      go false t = tt

  pub place_is_some : is_some (place_in test ss) ≡ ltb (place_of test ss) (length ss)
  place_is_some = go (ltb (place_of test ss) (length ss))
    where
      go : (b : Bool) → is_some (cond b (Some (place_of test ss)) None) ≡ b
      go true = refl
      go false = refl

  pub place_or : unwrap_or (place_in test ss) (length ss) ≡ place_of test ss
  place_or = go (ltb (place_of test ss) (length ss)) refl
    where
      go : (b : Bool) → ltb (place_of test ss) (length ss) ≡ b → unwrap_or (cond b (Some (place_of test ss)) None) (length ss) ≡ place_of test ss
      go true t = refl
      go false t = omega (arith, ltb-false (place_of test ss) (length ss) t, place_inside)

  pub place_removed : removed_if (place_in test ss) ss ≡ remove_at (place_of test ss) ss
  place_removed = go (ltb (place_of test ss) (length ss)) refl
    where
      go : (b : Bool) → ltb (place_of test ss) (length ss) ≡ b → removed_if (cond b (Some (place_of test ss)) None) ss ≡ remove_at (place_of test ss) ss
      go true t = refl
      go false t = past_none (place_of test ss) ss (ltb-false (place_of test ss) (length ss) t)
