-- What a counter's word means, and one more. Assumes nothing.
use mathlib.Core.Path.{◌≡◌, refl}
use mathlib.Core.Bool.{Bool, true, false, cond}
use Prim.Native.Nat.{ℕ, suc, ◌≤◌, ◌<◌}
use native.Mathlib.Omega.{arith}
use borrow.Author.Tests.{lt-ltb, le-ltb, ltb-true, ltb-false}
use lib.Dec.{ltb}
use Rattle.losses.specs.Losses.{most, one_more, held}

pub held_most : (word : ℕ) → held word ≤ most
unfolding held
held_most word = go (ltb word most) refl
  where
    go : (b : Bool) → ltb word most ≡ b → cond b word most ≤ most
    go true e = omega (arith, ltb-true word most e)
    go false e = omega arith

pub held_below : {word : ℕ} → word < most → held word ≡ word
unfolding held
held_below {word} h = rw (lt-ltb word most h)

pub held_beyond : {word : ℕ} → most ≤ word → held word ≡ most
unfolding held
held_beyond {word} h = rw (le-ltb word most h)

-- a count is what it means
pub held_count : {n : ℕ} → n ≤ most → held n ≡ n
unfolding held
held_count {n} h = go (ltb n most) refl
  where
    go : (b : Bool) → ltb n most ≡ b → cond b n most ≡ n
    go true e = refl
    go false e = omega (arith, ltb-false n most e)

pub more_below : {n : ℕ} → n < most → one_more n ≡ suc n
unfolding one_more
more_below {n} h = rw (lt-ltb n most h)

pub more_stays : one_more most ≡ most
unfolding one_more
more_stays = refl
