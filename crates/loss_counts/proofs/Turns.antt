-- A counter when something is counted for each port in turn: once, or for every port. Assumes nothing.
use mathlib.Core.Path.{◌≡◌, refl, sym, ap, ◌∙◌}
use mathlib.Core.Bool.{Bool, true, false, cond}
use mathlib.Core.List.{List}
use Prim.Native.Nat.{ℕ, zero, suc, ◌+◌, ◌≤◌, ◌<◌}
use native.Mathlib.Nat.{not-suc-le-zero, add-zero, add-suc}
use native.Mathlib.Decide.{ℕ_discrete}
use native.Mathlib.Omega.{arith}
use borrow.Author.Tests.{lt-ltb, le-ltb, ltb-true, ltb-false}
use lib.Dec.{ltb}
use lib.ListN.{length, get_or, length-set}
use lib.Seq.{get_or-set_same, get_or-set_other}
use Rattle.losses.specs.Losses.{one_more}
use Rattle.losses.proofs.Counters.{more_below, more_stays}
use Rattle.unit.specs.Ports.{in_turn, total}
use Rattle.forwarding.specs.Forwarding.{counted_at}
use Rattle.loss_counts.specs.LossCounts.{stayed}

-- ---- k more
unfoldable pub up : ℕ → ℕ → ℕ
up zero c = c
up (suc k) c = one_more (up k c)

stayed_below : {n : ℕ} → n < 64255 → stayed n ≡ n
stayed_below {n} h = rw (lt-ltb n 64255 h)

stayed_beyond : {n : ℕ} → 64255 ≤ n → stayed n ≡ 64255
stayed_beyond {n} h = rw (le-ltb n 64255 h)

stayed_more : (n : ℕ) → one_more (stayed n) ≡ stayed (suc n)
stayed_more n = go (ltb n 64255) refl
  where
    go : (b : Bool) → ltb n 64255 ≡ b → one_more (stayed n) ≡ stayed (suc n)
    go true e =
        let l = ltb-true n 64255 e in
        ap one_more (stayed_below l) ∙ more_below l ∙ top (ltb (suc n) 64255) refl
      where
        top : (b : Bool) → ltb (suc n) 64255 ≡ b → suc n ≡ stayed (suc n)
        top true z = sym (stayed_below (ltb-true (suc n) 64255 z))
        top false z = let far = ltb-false (suc n) 64255 z in let s : suc n ≡ 64255 = omega (arith, far, ltb-true n 64255 e) in s ∙ sym (stayed_beyond far)
    go false e =
        let far = ltb-false n 64255 e in
        ap one_more (stayed_beyond far) ∙ more_stays ∙ sym (stayed_beyond {n = suc n} (omega (arith, far)))

pub up_stayed : (k n : ℕ) → up k (stayed n) ≡ stayed (n + k)
unfolding up
up_stayed zero n = ap stayed (sym (add-zero n))
up_stayed (suc k) n = ap one_more (up_stayed k n) ∙ stayed_more (n + k) ∙ ap stayed (sym (add-suc n k))

pub up_up : (j k c : ℕ) → up j (up k c) ≡ up (k + j) c
unfolding up
up_up zero k c = ap (λ n. up n c) (sym (add-zero k))
up_up (suc j) k c = ap one_more (up_up j k c) ∙ ap (λ n. up n c) (sym (add-suc k j))

-- ---- one counter
pub counted_long : (i : ℕ) (l : List ℕ) → length (counted_at i l) ≡ length l
counted_long i l = length-set l i (one_more (get_or l i 0))

pub counted_here : (i : ℕ) (l : List ℕ) → i < length l → get_or (counted_at i l) i 0 ≡ one_more (get_or l i 0)
counted_here i l h = get_or-set_same l i (one_more (get_or l i 0)) 0 h

pub counted_other : (i j : ℕ) (l : List ℕ) → (j ≡ i → ⊥) → get_or (counted_at i l) j 0 ≡ get_or l j 0
counted_other i j l ne = get_or-set_other l i j (one_more (get_or l i 0)) 0 ne

-- ---- in turn, by a test and any change that keeps the length
module _ (test : ℕ → Bool) (change : ℕ → List ℕ → List ℕ) (long : (q : ℕ) (l : List ℕ) → length (change q l) ≡ length l) where
  pub turns_long : (n : ℕ) (l : List ℕ) → length (in_turn test change n l) ≡ length l
  unfolding in_turn
  turns_long zero l = refl
  turns_long (suc n) l = go (test n) (turns_long n l)
    where
      go : (b : Bool) → length (in_turn test change n l) ≡ length l → length (cond b (change n (in_turn test change n l)) (in_turn test change n l)) ≡ length l
      go true e = long n (in_turn test change n l) ∙ e
      go false e = e

  -- a counter that no turn touches
  pub turns_other : (i n : ℕ) (l : List ℕ) → ((q : ℕ) → q < n → test q ≡ true → (x : List ℕ) → get_or (change q x) i 0 ≡ get_or x i 0) → get_or (in_turn test change n l) i 0 ≡ get_or l i 0
  unfolding in_turn
  turns_other i zero l h = refl
  turns_other i (suc n) l h = go (test n) refl (turns_other i n l (λ q z. h q (omega arith)))
    where
      go : (b : Bool) → test n ≡ b → get_or (in_turn test change n l) i 0 ≡ get_or l i 0 → get_or (cond b (change n (in_turn test change n l)) (in_turn test change n l)) i 0 ≡ get_or l i 0
      go true e still = h n (omega arith) e (in_turn test change n l) ∙ still
      go false e still = still

  -- one that port r's turn counts up, and no other's
  pub turns_once : (i r n : ℕ) (l : List ℕ) → i < length l → r < n → ((x : List ℕ) → i < length x → get_or (change r x) i 0 ≡ one_more (get_or x i 0))
      → ((q : ℕ) → q < n → (q ≡ r → ⊥) → test q ≡ true → (x : List ℕ) → get_or (change q x) i 0 ≡ get_or x i 0)
      → get_or (in_turn test change n l) i 0 ≡ cond (test r) (one_more (get_or l i 0)) (get_or l i 0)
  unfolding in_turn
  turns_once i r zero l within h here other = absurd (not-suc-le-zero h)
  turns_once i r (suc n) l within h here other =
      elim (ℕ_discrete r n) [
        | yes e ↦ rw e (mine (test n) (turns_other i n l (λ q z. other q (omega arith) (λ s. omega (arith, e, s, z)))) (rw e at (here (in_turn test change n l) (rw (turns_long n l) within))))
        | no ne ↦ later ne (test n) refl (turns_once i r n l within (omega (arith, h, ne)) here (λ q z. other q (omega arith)))
      ]
    where
      mine : (b : Bool) → get_or (in_turn test change n l) i 0 ≡ get_or l i 0 → get_or (change n (in_turn test change n l)) i 0 ≡ one_more (get_or (in_turn test change n l) i 0)
          → get_or (cond b (change n (in_turn test change n l)) (in_turn test change n l)) i 0 ≡ cond b (one_more (get_or l i 0)) (get_or l i 0)
      mine true still c = c ∙ ap one_more still
      mine false still c = still

      later : (r ≡ n → ⊥) → (b : Bool) → test n ≡ b → get_or (in_turn test change n l) i 0 ≡ cond (test r) (one_more (get_or l i 0)) (get_or l i 0)
          → get_or (cond b (change n (in_turn test change n l)) (in_turn test change n l)) i 0 ≡ cond (test r) (one_more (get_or l i 0)) (get_or l i 0)
      later ne true t before = other n (omega arith) (λ s. ne (sym s)) t (in_turn test change n l) ∙ before
      later ne false t before = before

  -- one that every turn counts up
  pub turns_each : (i n : ℕ) (l : List ℕ) → i < length l → ((q : ℕ) (x : List ℕ) → q < n → test q ≡ true → i < length x → get_or (change q x) i 0 ≡ one_more (get_or x i 0))
      → get_or (in_turn test change n l) i 0 ≡ up (total (λ q. cond (test q) 1 0) n) (get_or l i 0)
  unfolding in_turn total up
  turns_each i zero l within each = refl
  turns_each i (suc n) l within each = go (test n) refl (turns_each i n l within (λ q x z. each q x (omega arith)))
    where
      one : (k : ℕ) → suc k ≡ k + 1
      one k = omega arith

      go : (b : Bool) → test n ≡ b → get_or (in_turn test change n l) i 0 ≡ up (total (λ q. cond (test q) 1 0) n) (get_or l i 0)
          → get_or (cond b (change n (in_turn test change n l)) (in_turn test change n l)) i 0 ≡ up (total (λ q. cond (test q) 1 0) n + cond b 1 0) (get_or l i 0)
      go true t before =
          each n (in_turn test change n l) (omega arith) t (rw (turns_long n l) within) ∙ ap one_more before
          ∙ ap (λ k. up k (get_or l i 0)) (one (total (λ q. cond (test q) 1 0) n))
      go false t before = before ∙ ap (λ k. up k (get_or l i 0)) (sym (add-zero (total (λ q. cond (test q) 1 0) n)))
