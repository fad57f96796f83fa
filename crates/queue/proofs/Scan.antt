-- The search for the frame that a take gives: a row that grows by one frame gives that frame if its number is lower than the lowest so far. Assumes nothing.
use Rattle.std.proofs.Common.{◌≡◌, ℕ, suc, ◌+◌, ◌<◌, ◌≤◌, List, [], ◌∷◌, ◌++◌, length, get_or, take, drop, refl, ◌∙◌, append_assoc, append-nil, not-suc-le-zero, add-one, arith, length-append, drop_of_length-le, length-take-le, take-suc, take_at}
use Rattle.std.specs.Prelude.{Some}
use lib.ListN.{get_or-append}
use lib.Seq.{get_or_at, take-append-le, drop-append-le}
use Rattle.delivery.specs.Row.{pull}
use Rattle.delivery.proofs.Take.{pull_snoc_lower, pull_snoc_keep}
use Rattle.queue.specs.declared.Frame.{Frame}
use Rattle.queue.specs.Queue.{priority}
use Rattle.queue.specs.Steps.{blank, remove_at, pulled_at, First}

-- of a row, the frame that a take gives is at `at`, and its number is low
pub record Scan (row : List Frame) (at low : ℕ) : Type 0 where
  pub inside : at < length row
  pub pulled : pull priority row ≡ Some (pulled_at at row)
  pub number : low ≡ priority (get_or row at blank)

-- the last of a row goes out
last_at : (row : List Frame) (x : Frame) (n : ℕ) → length row ≡ n → pulled_at n (row ++ (x ∷ [])) ≡ record { frame = x; others = row }
unfolding remove_at
last_at row x n h =
    rw (
      get_or_at row x [] blank n h,
      take_at row (x ∷ []) n h,
      drop_of_length-le (row ++ (x ∷ [])) {i = suc n} (omega (arith, length-append row (x ∷ []))),
      append-nil row,
    )

-- one before the last goes out
earlier_at : (row : List Frame) (x : Frame) (n : ℕ) → n < length row
    → pulled_at n (row ++ (x ∷ [])) ≡ record { frame = get_or row n blank; others = remove_at n row ++ (x ∷ []) }
unfolding remove_at
earlier_at row x n h =
    rw (
      get_or-append row (x ∷ []) blank n h,
      take-append-le n row (x ∷ []) (omega arith),
      drop-append-le (suc n) row (x ∷ []) h,
      append_assoc (take n row) (drop (suc n) row) (x ∷ []),
    )

module _ {row : List Frame} {at low : ℕ} (S : Scan row at low) (x : Frame) where
  lower : (n : ℕ) → length row ≡ n → priority x < low → Scan (row ++ (x ∷ [])) n (priority x)
  lower n e l = record {
    inside = omega (arith, length-append row (x ∷ []));
    pulled = rw (last_at row x n e) (pull_snoc_lower priority row x (pulled_at at row) S.pulled (omega (arith, S.number)));
    number = rw (get_or_at row x [] blank n e);
  }

  keep : low ≤ priority x → Scan (row ++ (x ∷ [])) at low
  keep l = record {
    inside = omega (arith, length-append row (x ∷ []), S.inside);
    pulled = rw (earlier_at row x at S.inside) (pull_snoc_keep priority row x (pulled_at at row) S.pulled (omega (arith, S.number)));
    number = S.number ∙ rw (get_or-append row (x ∷ []) blank at S.inside);
  }

-- ---- the same as a loop over the frames fs does it: the row is the first i
pub scan_start : (fs : List Frame) (p : ℕ) → 0 < length fs → p ≡ priority (get_or fs 0 blank) → Scan (take 1 fs) 0 p
unfolding remove_at
scan_start [] p h e = absurd (not-suc-le-zero h)
scan_start (f ∷ fs) p h e = record { inside = omega arith; pulled = refl; number = e }

module _ (fs : List Frame) (i at low p : ℕ) (inside : i < length fs) (S : Scan (take i fs) at low) (e : p ≡ priority (get_or fs i blank)) where
  pub scan_lower : p < low → Scan (take (i + 1) fs) i p
  scan_lower l = rw (add-one i, take-suc fs i blank inside, e) (lower S (get_or fs i blank) i (length-take-le i fs (omega arith)) (omega arith))

  pub scan_keep : low ≤ p → Scan (take (i + 1) fs) at low
  scan_keep l = rw (add-one i, take-suc fs i blank inside) (keep S (get_or fs i blank) (omega arith))

pub scan_done : (fs : List Frame) (n at low : ℕ) → n ≤ length fs → Scan (take n fs) at low → First fs n at
scan_done fs n at low h S = record { inside = omega (arith, S.inside, length-take-le n fs h); pulled = S.pulled }
