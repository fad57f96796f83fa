-- Text put after text is one text. Assumes nothing.
use mathlib.Core.Path.{◌≡◌, refl, sym, ◌∙◌}
use mathlib.Core.List.{List, [], ◌∷◌, ◌++◌, append_assoc}
use Prim.Native.Nat.{ℕ, ◌+◌, ◌≤◌, ◌<◌}
use native.Mathlib.Nat.{add-zero, add_assoc}
use native.Mathlib.Numerals.{add-one}
use native.Mathlib.Omega.{arith}
use lib.ListN.{length, get_or, set, take, drop, length-append, length-drop, take-append-drop}
use lib.Seq.{take_at, take-suc, drop_at, drop-drop, length-take-le, set_split}
use Rattle.text.specs.Writing.{put, Writing}

module _ (lent : List ℕ) (at : ℕ) where
  pub put_long : (text : List ℕ) → at + length text ≤ length lent → length (put at text lent) ≡ length lent
  put_long text fits = let h = length-take-le at lent (omega arith) in simp (length-append, length-drop, h) (omega arith)

  -- text behind text
  pub put_more : (s t : List ℕ) → at + length s ≤ length lent → put (at + length s) t (put at s lent) ≡ put at (s ++ t) lent
  put_more s t fits =
      let head : length (take at lent ++ s) ≡ at + length s = length-append (take at lent) s ∙ rw (length-take-le at lent (omega arith)) in
      let whole : put at s lent ≡ (take at lent ++ s) ++ drop (at + length s) lent = sym (append_assoc (take at lent) s (drop (at + length s) lent)) in
      let sum : length (s ++ t) ≡ length s + length t = length-append s t in
      rw (
        whole,
        take_at (take at lent ++ s) (drop (at + length s) lent) (at + length s) head,
        ← (drop-drop (length t) (at + length s) ((take at lent ++ s) ++ drop (at + length s) lent)),
        drop_at (take at lent ++ s) (drop (at + length s) lent) (at + length s) head,
        drop-drop (length t) (at + length s) lent,
        sum,
        ← (add_assoc at (length s) (length t)),
        append_assoc (take at lent) s (t ++ drop (at + length s + length t) lent),
        append_assoc s t (drop (at + length s + length t) lent),
      )

-- one character stored
pub writing_one : {lent : List ℕ} {at b : ℕ} → at < length lent → Writing lent (set lent at b) at (b ∷ []) (at + 1)
writing_one {lent} {at} {b} h = record { next = refl; bytes = set_split lent at b h ∙ rw (← (add-one at)) }

-- nothing yet
pub writing_none : {lent : List ℕ} {at : ℕ} → Writing lent lent at [] at
writing_none {lent} {at} = record { next = omega arith; bytes = sym (rw (add-zero at) (take-append-drop at lent)) }

-- one after the other
pub writing_join : {a b c : List ℕ} {at m n : ℕ} {s t : List ℕ} → Writing a b at s m → Writing b c m t n → at + length s ≤ length a → Writing a c at (s ++ t) n
writing_join {a} {b} {c} {at} {m} {n} {s} {t} v w fits = record {
  next = omega (arith, v.next, w.next, length-append s t);
  bytes = w.bytes ∙ rw (v.bytes, v.next) (put_more a at s t fits);
}

pub writing_long : {a b : List ℕ} {at m : ℕ} {s : List ℕ} → Writing a b at s m → at + length s ≤ length a → length b ≡ length a
writing_long {a} {b} {at} {m} {s} v fits = rw v.bytes (put_long a at s fits)

-- one more character of a list
pub copy_more : {a b c : List ℕ} {at m n : ℕ} (i : ℕ) (cs : List ℕ) → Writing a b at (take i cs) m → Writing b c m (get_or cs i 0 ∷ []) n
    → i < length cs → at + i ≤ length a → Writing a c at (take (i + 1) cs) n
copy_more {a} {b} {c} {at} {m} {n} i cs v w h fits =
    rw (add-one i, take-suc cs i 0 h) (writing_join v w (omega (arith, length-take-le i cs (omega arith))))
