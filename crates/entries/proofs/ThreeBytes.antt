-- Entries, three bytes each: the chunks of three are the entries, the one at an index is the number at three times the index, and the first that is no PGN. Assumes nothing.
use mathlib.Core.Path.{◌≡◌, refl, sym, ap, ◌∙◌}
use mathlib.Core.Bool.{Bool, true, false, cond, ◌||◌}
use mathlib.Core.List.{List, [], ◌∷◌}
use Prim.Native.Nat.{ℕ, zero, suc, ◌+◌, ◌-◌, ◌*◌, ◌/◌, ◌≤◌, ◌<◌}
use native.Mathlib.Nat.{not-suc-le-zero, le_of_suc-le-suc, zero-add, add-suc, suc-add}
use native.Mathlib.Numerals.{add-one}
use native.Mathlib.Omega.{arith}
use borrow.Author.Tests.{le-leb, lt-leb}
use lib.Dec.{eqb}
use lib.ListN.{length, get_or, take, drop, length-drop}
use lib.Seq.{take_all}
use Rattle.std.specs.Prelude.{None, Some, map}
use Rattle.std.specs.List.{list_any, slice_range}
use Rattle.std.specs.Simd.{first_chunks}
use Rattle.std.specs.Int.{w32, from_le_bytes}
use Rattle.storage.specs.Bytes.{packed}
use Rattle.storage.proofs.Bytes.{packed_step, packed_none}
use Rattle.storage.proofs.Walk.{Left, left_all, left_next, left_one, left_none}
use Rattle.identifier.specs.Identifier.{is_pgn}
use Rattle.entries.specs.Entries.{three_at, entries_of, entry_at, listed, every, leading, first_wrong}

-- ---- how many, and which
pub entries_count : (bytes : List ℕ) → length (entries_of bytes) ≡ length bytes / 3
unfolding entries_of
entries_count [] = refl
entries_count (a ∷ []) = refl
entries_count (a ∷ b ∷ []) = refl
entries_count (a ∷ b ∷ c ∷ bytes) = omega (arith, entries_count bytes)

pub entry_is : (bytes : List ℕ) (i : ℕ) → i < length (entries_of bytes) → get_or (entries_of bytes) i 0 ≡ three_at bytes (3 * i)
unfolding entries_of
entry_is [] i h = absurd (not-suc-le-zero h)
entry_is (a ∷ []) i h = absurd (not-suc-le-zero h)
entry_is (a ∷ b ∷ []) i h = absurd (not-suc-le-zero h)
entry_is (a ∷ b ∷ c ∷ bytes) zero h = refl
entry_is (a ∷ b ∷ c ∷ bytes) (suc i) h =
    let e : 3 * suc i ≡ suc (suc (suc (3 * i))) = omega arith in
    entry_is bytes i (le_of_suc-le-suc h) ∙ rw e

pub chunks_are : (bytes : List ℕ) → map packed (first_chunks 3 (length bytes / 3) bytes) ≡ entries_of bytes
unfolding entries_of
chunks_are [] = refl
chunks_are (a ∷ []) = refl
chunks_are (a ∷ b ∷ []) = refl
chunks_are (a ∷ b ∷ c ∷ bytes) =
    let e : length (a ∷ b ∷ c ∷ bytes) / 3 ≡ suc (length bytes / 3) = omega arith in
    rw e (ap (λ es. packed (a ∷ b ∷ c ∷ []) ∷ es) (chunks_are bytes))

-- three bytes and a 0 make the number of the three
pub number_of_three : (entry : List ℕ) {r : ℕ} → length entry ≡ 3 → r ≡ from_le_bytes w32 (get_or entry 0 0 ∷ get_or entry 1 0 ∷ get_or entry 2 0 ∷ 0 ∷ []) → r ≡ packed entry
number_of_three entry l e = omega (arith, e, packed_step entry 0 (omega arith), packed_step entry 1 (omega arith), packed_step entry 2 (omega arith), packed_none entry 3 (omega arith))

-- ---- one of them
pub some_listed : {A : Type 0} (number : A → ℕ) (x : ℕ) (es : List A) → list_any (λ e. eqb (number e) x) es ≡ listed x (map number es)
unfolding listed
some_listed number x [] = refl
some_listed number x (e ∷ es) = ap (λ b. eqb (number e) x || b) (some_listed number x es)

-- ---- the reader
pub entry_short : (bytes : List ℕ) (at : ℕ) → length bytes < at + 3 → None ≡ entry_at bytes at
unfolding entry_at
entry_short bytes at h = rw (lt-leb (at + 3) (length bytes) h)

pub entry_read : (bytes : List ℕ) (at : ℕ) {r : ℕ} (b : Bool) → at + 3 ≤ length bytes → r ≡ three_at bytes at → is_pgn r ≡ b → cond b (Some r) None ≡ entry_at bytes at
unfolding entry_at
entry_read bytes at b h R e = rw (le-leb (at + 3) (length bytes) h, ← R, e)

-- the first three bytes of those from `at` on
pub three_here : (bytes : List ℕ) (at : ℕ) {behind three : List ℕ} → behind ≡ slice_range bytes at (length bytes) → three ≡ take 3 behind → packed three ≡ three_at bytes at
three_here bytes at e h = rw (h, e, take_all (length bytes - at) (drop at bytes) (simp length-drop (omega arith)))

-- ---- the first that is no PGN: after i PGNs the number v is told by those that are left
abbrev pub Judged : ℕ → List ℕ → ℕ → Type 0
Judged v xs i = Left v (λ es. cond (every is_pgn es) 0 (suc (i + leading is_pgn es))) xs i

pub judged_none : (xs : List ℕ) → Judged (first_wrong xs) xs 0
unfolding first_wrong
judged_none xs = left_all (rw (zero-add (leading is_pgn xs)))

module _ (bytes : List ℕ) {v i : ℕ} (J : Judged v (entries_of bytes) i) (turn : i < length (entries_of bytes)) where
  room : 3 * i + 3 ≤ length bytes
  room = omega (arith, entries_count bytes)

  -- what the reader says of entry i
  told : (b : Bool) → is_pgn (three_at bytes (3 * i)) ≡ b → entry_at bytes (3 * i) ≡ cond b (Some (three_at bytes (3 * i))) None
  unfolding entry_at
  told b e = rw (le-leb (3 * i + 3) (length bytes) room, e)

  pub judged_pgn : {p : ℕ} → entry_at bytes (3 * i) ≡ Some p → Judged v (entries_of bytes) (i + 1)
  unfolding every leading
  judged_pgn {p} e = go (is_pgn (three_at bytes (3 * i))) refl
    where
      go : (b : Bool) → is_pgn (three_at bytes (3 * i)) ≡ b → Judged v (entries_of bytes) (i + 1)
      go true is = left_one J turn (rw (entry_is bytes i turn, is, add-suc i (leading is_pgn (drop (i + 1) (entries_of bytes))), add-one i, suc-add i (leading is_pgn (drop (suc i) (entries_of bytes)))))
      go false is = let w = sym (told false is) ∙ e in let z : ◌≡◌ {A = ℕ} 0 1 = cc in absurd (omega arith)

  pub judged_wrong : entry_at bytes (3 * i) ≡ None → i + 1 ≡ v
  unfolding every leading
  judged_wrong e = go (is_pgn (three_at bytes (3 * i))) refl
    where
      go : (b : Bool) → is_pgn (three_at bytes (3 * i)) ≡ b → i + 1 ≡ v
      go true is = let w = sym (told true is) ∙ e in let z : ◌≡◌ {A = ℕ} 0 1 = cc in absurd (omega arith)
      go false is = sym (left_next J turn ∙ rw (entry_is bytes i turn, is) (omega arith))

pub judged_all : {xs : List ℕ} {v i : ℕ} → Judged v xs i → length xs ≤ i → 0 ≡ v
unfolding every
judged_all J done = sym (left_none J done)
