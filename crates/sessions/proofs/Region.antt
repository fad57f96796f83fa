-- The four blocks of a port: one is lent and comes back, or copied down. Assumes nothing.
use mathlib.Core.Path.{◌≡◌, refl, sym, ap, ◌∙◌}
use mathlib.Core.Logic.{inr}
use mathlib.Core.List.{List, [], ◌∷◌, ◌++◌, append_assoc}
use Prim.Native.Nat.{ℕ, ◌+◌, ◌-◌, ◌*◌, ◌<◌}
use native.Mathlib.Omega.{arith}
use lib.ListN.{length, get_or, set, take, drop, length-drop}
use lib.Seq.{drop-drop, length-take-le}
use Rattle.storage.specs.Blocks.{block_at, blocks_of}
use Rattle.storage.proofs.Parts.{back, store_back}
use Rattle.storage.proofs.Blocks.{blocks_at, blocks_set, blocks_apart, length_blocks}
use Rattle.session.specs.Session.{Session, session_of}
use Rattle.std.specs.List.{copy_within}
use Rattle.sessions.specs.Sessions.{most, port_length, blocks_in, none}

pub blocks_long : (words : List ℕ) → length (blocks_in words) ≡ 4
unfolding blocks_in
blocks_long words = length_blocks session_of 263 1 4 words

-- the count is in none of them
pub count_apart : (words : List ℕ) (n : ℕ) → 0 < length words → blocks_in (set words 0 n) ≡ blocks_in words
unfolding blocks_in
count_apart words n h =
    ap {A = List ℕ} (λ l. blocks_of 1 263 4 session_of l) (store_back 0 words n h)
    ∙ blocks_apart 0 1 words (n ∷ []) refl (omega arith) session_of 263 1 4 (inr (omega arith))

module _ (words : List ℕ) (i : ℕ) (inside : i < most) where
  pub block_is : session_of (take 263 (drop (1 + 263 * i) words)) ≡ get_or (blocks_in words) i none
  unfolding blocks_in block_at
  block_is = sym (blocks_at session_of 263 1 4 words i none inside)

  pub block_set : (ys : List ℕ) → length words ≡ port_length → length ys ≡ 263 → blocks_in (back (1 + 263 * i) 263 words ys) ≡ set (blocks_in words) i (session_of ys)
  unfolding blocks_in
  block_set ys long size = blocks_set 1 263 words ys i size (omega arith) session_of 4 inside

-- a block is copied down
pub moved : (words : List ℕ) (i : ℕ) → length words ≡ port_length → i + 1 < most
    → blocks_in (copy_within words (1 + 263 * i + 263) (1 + 263 * i + 263 + 263) (1 + 263 * i)) ≡ set (blocks_in words) i (get_or (blocks_in words) (i + 1) none)
moved words i long inside =
    let next = take 263 (drop (1 + 263 * i + 263) words) in
    let whole : length next ≡ 263 = length-take-le 263 (drop (1 + 263 * i + 263) words) (omega (arith, length-drop (1 + 263 * i + 263) words)) in
    let size : 1 + 263 * i + 263 + 263 - (1 + 263 * i + 263) ≡ 263 = omega arith in
    let here : 1 + 263 * i + 263 ≡ 1 + 263 * (i + 1) = omega arith in
    rw size
    (ap {A = List ℕ} blocks_in
    (append_assoc (take (1 + 263 * i) words) next (drop (1 + 263 * i + 263) words) ∙ ap {A = List ℕ} (λ l. take (1 + 263 * i) words ++ (next ++ l)) (sym (drop-drop 263 (1 + 263 * i) words)))
    ∙ block_set words i (omega arith) next long whole
    ∙ ap {A = Session} (λ s. set (blocks_in words) i s) (rw here (block_is words (i + 1) inside)))
