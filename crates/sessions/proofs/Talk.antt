-- The sessions in order: what a count and the blocks mean together. Assumes nothing.
use mathlib.Core.Path.{◌≡◌, refl, sym, ap, subst, ◌∙◌}
use mathlib.Core.List.{List, [], ◌∷◌, ◌++◌, append-nil}
use Prim.Native.Nat.{ℕ, zero, suc, ◌+◌, ◌-◌, ◌*◌, ◌/◌, ◌<◌, min}
use native.Mathlib.Numerals.{add-one}
use native.Mathlib.Omega.{arith}
use lib.ListN.{length, get_or, set, take, drop, length-take, length-drop, length-append, drop_of_length-le}
use lib.Seq.{get_or-take, take_all, take-set-lt, take-suc-set}
use Rattle.std.specs.Simd.{first_chunks}
use Rattle.storage.proofs.Chunks.{chunks_mean}
use Rattle.session.specs.Session.{Session, session_of}
use Rattle.sessions.specs.Sessions.{port_length, blocks_in, talk_of, none, remove_at}
use Rattle.sessions.proofs.Region.{blocks_long, count_apart, block_is, block_set}
use Rattle.std.proofs.Common.{map}
use Rattle.std.proofs.lemmas.List.{get_or-map, length-map}
use Rattle.sessions.specs.Steps.{LendingFirst, Lending}
use Rattle.sessions.proofs.Lists.{take_held, shifted, shift_done}

pub talk_long : (words : List ℕ) → length (talk_of words) ≡ min (get_or words 0 0) 4
unfolding talk_of
talk_long words = length-take (get_or words 0 0) (blocks_in words) ∙ rw (blocks_long words)

-- the first n blocks
pub talk_first : (words : List ℕ) {n : ℕ} → n ≡ length (talk_of words) → talk_of words ≡ take n (blocks_in words)
unfolding talk_of
talk_first words {n} e = take_held (get_or words 0 0) (blocks_in words) ∙ rw e

pub talk_at : (words : List ℕ) (i : ℕ) → i < length (talk_of words) → get_or (talk_of words) i none ≡ get_or (blocks_in words) i none
unfolding talk_of
talk_at words i h = get_or-take (get_or words 0 0) (blocks_in words) i none (omega (arith, talk_long words))

-- a count is stored
counted : (words : List ℕ) (n : ℕ) → 0 < length words → talk_of (set words 0 n) ≡ take n (blocks_in words)
unfolding talk_of
counted [] n h = absurd (omega arith)
counted (w ∷ ws) n h = rw (count_apart (w ∷ ws) n h)

-- none is open
pub empties : (words : List ℕ) → 0 < length words → talk_of (set words 0 0) ≡ []
empties words h = counted words 0 h

pub closes : (start words : List ℕ) (i n : ℕ) → length words ≡ port_length → n ≡ length (talk_of start) → i < n → blocks_in words ≡ shifted i (n - 1) (blocks_in start)
    → talk_of (set words 0 (n - 1)) ≡ remove_at i (talk_of start)
closes start words i n long e h shift =
    counted words (n - 1) (omega arith)
    ∙ rw shift (shift_done i n (blocks_in start) h (omega (arith, talk_long start, blocks_long start)))
    ∙ ap {A = List Session} (remove_at i) (sym (talk_first start e))

pub opens : (start words : List ℕ) (n : ℕ) (s : Session) → length words ≡ port_length → n ≡ length (talk_of start) → n < 4 → blocks_in words ≡ set (blocks_in start) n s
    → talk_of (set words 0 (n + 1)) ≡ talk_of start ++ (s ∷ [])
opens start words n s long e h put =
    counted words (n + 1) (omega arith)
    ∙ rw (put, add-one n, talk_first start e) (take-suc-set (blocks_in start) n s (omega (arith, blocks_long start)))

-- the session at a place is changed
changes : (start words : List ℕ) (i : ℕ) (s : Session) → i < length (talk_of start) → get_or words 0 0 ≡ get_or start 0 0 → blocks_in words ≡ set (blocks_in start) i s
    → talk_of words ≡ set (talk_of start) i s
unfolding talk_of
changes start words i s h same put = rw (same, put) (take-set-lt (get_or start 0 0) (blocks_in start) i s (omega (arith, talk_long start)))

pub head_kept : (words zs : List ℕ) (n : ℕ) → 0 < length words → get_or (take (1 + n) words ++ zs) 0 0 ≡ get_or words 0 0
head_kept [] zs n h = absurd (omega arith)
head_kept (w ∷ ws) zs n h = let e : 1 + n ≡ suc n = omega arith in rw e

-- the block of the session at a place was changed in place
module _ {R : List ℕ → Unit {0} → List ℕ → Type 0} {words after : List ℕ} {i : ℕ} (long : length words ≡ port_length) (L : Lending R i words after) where
  pub head_stays : get_or after 0 0 ≡ get_or words 0 0
  head_stays = rw L.back (head_kept words (L.block ++ drop 263 (drop (1 + 263 * i) words)) (263 * i) (omega arith))

  pub block_put : i < 4 → blocks_in after ≡ set (blocks_in words) i (session_of L.block)
  block_put four = rw L.back (block_set words i four L.block long L.long)

  pub changed : (change : Session → Session) → i < length (talk_of words) → session_of L.block ≡ change (session_of (take 263 (drop (1 + 263 * i) words)))
      → talk_of after ≡ set (talk_of words) i (change (get_or (talk_of words) i none))
  changed change h meets =
      let four : i < 4 = omega (arith, talk_long words) in
      changes words after i (change (get_or (talk_of words) i none)) h head_stays
      (block_put four ∙ ap (λ (s : Session). set (blocks_in words) i s) (meets ∙ ap change (block_is words i four ∙ sym (talk_at words i h))))

-- the session at a place is read
pub lent : (blocks : List (List ℕ)) {ss : List Session} (i : ℕ) → map session_of blocks ≡ ss → i < length ss → session_of (get_or blocks i []) ≡ get_or ss i none
lent blocks i e h = rw (← e) (sym (get_or-map session_of blocks i [] none (omega (arith, ap length e, length-map blocks session_of))))

taken : (n : ℕ) (blocks : List (List ℕ)) → map session_of (take n blocks) ≡ take n (map session_of blocks)
taken zero blocks = refl
taken (suc n) [] = refl
taken (suc n) (b ∷ bs) = ap {B = List Session} (λ ss. session_of b ∷ ss) (taken n bs)

-- they are what the chunks mean
pub blocks_are : (words : List ℕ) (n : ℕ) → length words ≡ port_length → n ≡ length (talk_of words)
    → map session_of (take n (first_chunks 263 (length (take 1052 (drop 1 words)) / 263) (take 1052 (drop 1 words)))) ≡ talk_of words
unfolding blocks_in
blocks_are words n long e =
    let all : take 1052 (drop 1 words) ≡ drop 1 words = take_all 1052 (drop 1 words) (simp length-drop (omega arith)) in
    let four : length (drop 1 words) / 263 ≡ 4 = omega (arith, length-drop 1 words) in
    rw (all, four) (taken n (first_chunks 263 4 (drop 1 words)) ∙ rw (chunks_mean session_of 263 1 4 words) (sym (talk_first words e)))

-- a block is lent to a function
pub lends : {R : List ℕ → Unit {0} → List ℕ → Type 0} (words : List ℕ) (i : ℕ) {ys : List ℕ} → length words ≡ port_length → i < 4
    → length ys ≡ length (take (1053 - (1 + 263 * i)) (drop (1 + 263 * i) words)) → LendingFirst R (take (1053 - (1 + 263 * i)) (drop (1 + 263 * i) words)) ys
    → Lending R i words (take (1 + 263 * i) words ++ (ys ++ drop (1053 - (1 + 263 * i)) (drop (1 + 263 * i) words)))
lends {R} words i {ys} long inside same F =
    let tail = drop (1 + 263 * i) words in
    let rest : take (1053 - (1 + 263 * i)) (drop (1 + 263 * i) words) ≡ drop (1 + 263 * i) words = take_all (1053 - (1 + 263 * i)) (drop (1 + 263 * i) words) (simp length-drop (omega arith)) in
    let end : drop (1053 - (1 + 263 * i)) (drop (1 + 263 * i) words) ≡ [] = drop_of_length-le (drop (1 + 263 * i) words) {i = 1053 - (1 + 263 * i)} (simp length-drop (omega arith)) in
    let L : LendingFirst R (drop (1 + 263 * i) words) ys = subst (λ (x : List ℕ). LendingFirst R x ys) rest F in
    record {
      block = L.block;
      long = omega (arith, rw rest at same, ap length L.back, length-append L.block (drop 263 tail), length-drop 263 tail, length-drop (1 + 263 * i) words);
      changed = L.changed;
      back = rw (end, append-nil ys, L.back);
    }
