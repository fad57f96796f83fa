-- A message cut and put together is the same message, packet by packet. Assumes nothing.
use Prim.Native.Nat.{ℕ, zero, suc, ◌+◌, ◌-◌, ◌*◌, ◌≤◌, ◌<◌}
use mathlib.Core.Path.{◌≡◌, refl, sym, ap, ◌∙◌}
use mathlib.Core.List.{List, [], ◌∷◌, ◌++◌, append_assoc, append-nil}
use native.Mathlib.Decide.{dec_lt}
use native.Mathlib.Omega.{arith}
use lib.ListN.{length, take, drop, replicate, length-drop, length-append, take-append-drop}
use lib.Seq.{take_all, take-append_seam, length-take-le}
use Rattle.packets.specs.Packets.{packets_of, packets_from, carried, Cut}

pub many_from : (n k : ℕ) (m : List ℕ) → length (packets_from n k m) ≡ n
unfolding packets_from
many_from zero k m = refl
many_from (suc n) k m = ap {A = ℕ} suc (many_from n (suc k) (drop 7 m))

-- more is taken than the first part has
past : (xs ys : List ℕ) (n k : ℕ) → k ≡ length xs + n → take k (xs ++ ys) ≡ xs ++ take n ys
past [] ys n k e = let same : k ≡ n = omega arith in rw same refl
past (x ∷ xs) ys n zero e = absurd (omega arith)
past (x ∷ xs) ys n (suc k) e = ap {A = List ℕ} (λ l. x ∷ l) (past xs ys n k (omega arith))

nothing_left : (m : List ℕ) → length m ≤ 0 → m ≡ []
nothing_left [] h = refl
nothing_left (x ∷ m) h = absurd (omega arith)

-- the last packet: the filling is cut off
short : (m fill rest : List ℕ) → take (length m) ((m ++ fill) ++ rest) ≡ m
short m fill rest = rw (append_assoc m fill rest) (take-append_seam m (fill ++ rest))

-- seven bytes of more: no filling
long : (m rest : List ℕ) → 7 < length m
    → take (length m) ((take 7 m ++ replicate (7 - length (take 7 m)) 0xFF) ++ rest) ≡ take 7 m ++ take (length (drop 7 m)) rest
long m rest h =
    let seven = length-take-le 7 m (omega arith) in
    let all : length m ≡ length (take 7 m) + length (drop 7 m) = ap length (sym (take-append-drop 7 m)) ∙ length-append (take 7 m) (drop 7 m) in
    ap {A = ℕ} (λ n. take (length m) ((take 7 m ++ replicate (7 - n) 0xFF) ++ rest)) seven
    ∙ ap {A = List ℕ} (λ l. take (length m) (l ++ rest)) (append-nil (take 7 m))
    ∙ past (take 7 m) rest (length (drop 7 m)) (length m) all

pub same_from : (n k : ℕ) (m : List ℕ) → length m ≤ 7 * n → take (length m) (carried (packets_from n k m)) ≡ m
unfolding packets_from carried
same_from zero k m h = rw (nothing_left m (omega arith)) refl
same_from (suc n) k m h =
    elim (dec_lt 7 (length m)) [
      | yes more ↦
          long m (carried (packets_from n (suc k) (drop 7 m))) more
          ∙ ap {A = List ℕ} (λ l. take 7 m ++ l) (same_from n (suc k) (drop 7 m) (omega (arith, length-drop 7 m)))
          ∙ take-append-drop 7 m
      | no less ↦
          ap {A = List ℕ} (λ l. take (length m) ((l ++ replicate (7 - length l) 0xFF) ++ carried (packets_from n (suc k) (drop 7 m)))) (take_all 7 m (omega arith))
          ∙ short m (replicate (7 - length m) 0xFF) (carried (packets_from n (suc k) (drop 7 m)))
    ]

pub cut_same : (m : List ℕ) → Cut m
cut_same m = record {
  same = same_from (packets_of (length m)) 1 m (omega arith);
  many = many_from (packets_of (length m)) 1 m;
  few = λ h. rw (many_from (packets_of (length m)) 1 m) (omega arith);
}
