-- Bytes laid at the start of a buffer, a run after the other: past them the buffer is as it was. Assumes nothing.
use mathlib.Core.Path.{◌≡◌, refl, sym, ap, ◌∙◌}
use mathlib.Core.List.{List, [], ◌++◌}
use Prim.Native.Nat.{ℕ, ◌+◌, ◌-◌, ◌≤◌, zero-le}
use native.Mathlib.Omega.{arith}
use lib.ListN.{length, take, drop, length-append, length-drop}
use lib.Seq.{take_at, drop-append-add, drop-drop, sets, sets-eq}
use Rattle.replies.specs.Replies.{Writing}

pub record Laid (bytes before after : List ℕ) : Type 0 where
  pub written : after ≡ bytes ++ drop (length bytes) before
  pub inside : length bytes ≤ length before

pub laid_none : {before : List ℕ} → Laid [] before before
laid_none = record { written = refl; inside = zero-le }

module _ {bytes before after : List ℕ} (L : Laid bytes before after) where
  pub laid_long : length after ≡ length before
  laid_long = rw (L.written, length-append bytes (drop (length bytes) before), length-drop (length bytes) before) (omega (arith, L.inside))

  pub laid_front : {n : ℕ} → n ≡ length bytes → take n after ≡ bytes
  laid_front {n} e = rw L.written (take_at bytes (drop (length bytes) before) n (sym e))

  pub laid_past : (k : ℕ) → drop (length bytes + k) after ≡ drop (length bytes + k) before
  laid_past k = rw (L.written, drop-append-add bytes (drop (length bytes) before) k, drop-drop k (length bytes) before)

  -- a run of stores just past them
  pub laid_more : {at : ℕ} (more : List ℕ) → at ≡ length bytes → at + length more ≤ length before → Laid (bytes ++ more) before (sets after at more)
  laid_more {at} more e h = record {
    written =
        sets-eq more after at (omega (arith, laid_long))
        ∙ rw (laid_front e, e, laid_past (length more), length-append bytes more);
    inside = rw (length-append bytes more) (omega arith);
  }

  -- bytes written over them, at least as many
  pub laid_over : {more last : List ℕ} {most r : ℕ} → length bytes ≤ length more → Writing more after last most r → Writing more before last most r
  laid_over {more} {last} h W =
      let e : length bytes + (length more - length bytes) ≡ length more = omega arith in
      record {
        written = W.written ∙ ap (λ l. more ++ l) (rw e at (laid_past (length more - length bytes)));
        answer = W.answer;
        small = W.small;
      }
