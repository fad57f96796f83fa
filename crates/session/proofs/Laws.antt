-- What the stores of each function do to the session. Assumes nothing.
use mathlib.Core.Path.{◌≡◌, refl, sym, ap, ◌∙◌}
use mathlib.Core.List.{List, [], ◌∷◌, ◌++◌}
use Prim.Native.Nat.{ℕ, suc, ◌+◌, ◌-◌, ◌%◌, ◌≤◌, ◌<◌, min}
use native.Mathlib.Numerals.{add-one}
use native.Mathlib.Decide.{dec_lt}
use native.Mathlib.Omega.{arith}
use lib.Dec.{leb}
use borrow.Author.Tests.{le-leb, lt-leb}
use lib.ListN.{length, get_or, set, take, drop, length-take, length-drop, length-append}
use lib.Seq.{get_or-drop, get_or-take, take-suc-set, take_all, take_at}
use Rattle.session.specs.Session.{most_bytes, block_length, session_of, opened, with_packets, with_packet, timed, asking}
use Rattle.std.specs.Prelude.{Option, None, Some}
use Rattle.session.specs.Way.{word, word_in}
use Rattle.session.specs.declared.opening.Way.{Way}
use Rattle.session.specs.declared.opening.Way.TheVariants.{Receiving, Sending}
use Rattle.session.proofs.Eight.{eight}

module _ (block : List ℕ) (long : length block ≡ block_length) where
  pub opens : (way peer size through limit timer since : ℕ) → way ≤ 2 → peer < 256 → size ≤ most_bytes → limit ≤ 16
      → session_of (set (set (set (set (set (set (set (set block 0 way) 1 peer) 2 size) 3 0) 4 through) 5 limit) 6 timer) 7 since) ≡ opened way peer size through limit timer since
  unfolding session_of
  opens way peer size through limit timer since w p s l =
      let fw : min way 2 ≡ way = omega arith in
      let fp : peer % 256 ≡ peer = omega arith in
      let fs : min size 1785 ≡ size = omega arith in
      let fl : min limit 16 ≡ limit = omega arith in
      eight (λ block. session_of (set (set (set (set (set (set (set (set block 0 way) 1 peer) 2 size) 3 0) 4 through) 5 limit) 6 timer) 7 since) ≡ opened way peer size through limit timer since)
      (λ a b c d e f g h ps n. rw (fw, fp, fs, fl)) block long

  pub stored_is : length (session_of block).packets ≡ min (get_or block 3 0) 255
  unfolding session_of
  stored_is = length-take (get_or block 3 0) (drop 8 block) ∙ rw (length-drop 8 block, long)

  -- a packet more
  pub stores : (k word : ℕ) → k ≡ min (get_or block 3 0) 255 → k < 255 → session_of (set (set block (8 + k) word) 3 (k + 1)) ≡ with_packet word (session_of block)
  unfolding session_of with_packet
  stores k word =
      eight (λ block. k ≡ min (get_or block 3 0) 255 → k < 255 → session_of (set (set block (8 + k) word) 3 (k + 1)) ≡ with_packet word (session_of block))
      (λ a b c d e f g h ps n q l.
      let nth : 8 + k ≡ suc (suc (suc (suc (suc (suc (suc (suc k))))))) = omega arith in
      let same : d ≡ k = omega arith in
      let more : take (k + 1) (set ps k word) ≡ take k ps ++ (word ∷ []) = rw (add-one k) (take-suc-set ps k word (omega arith)) in
      let few : take 255 (take k ps ++ (word ∷ [])) ≡ take k ps ++ (word ∷ []) = take_all 255 (take k ps ++ (word ∷ [])) (omega (arith, length-append (take k ps) (word ∷ []), length-take k ps)) in
      rw (nth, same, more, few))
      block long

  -- a 256th is not taken
  pub stays : (k word : ℕ) → k ≡ min (get_or block 3 0) 255 → 255 ≤ k → session_of block ≡ with_packet word (session_of block)
  unfolding with_packet
  stays k word q l =
      let full : 255 ≡ length (session_of block).packets = omega (arith, stored_is) in
      ap (λ (ps : List ℕ). with_packets ps (session_of block)) (sym (take_at (session_of block).packets (word ∷ []) 255 (sym full)))

  pub times : (timer since : ℕ) → session_of (set (set block 6 timer) 7 since) ≡ timed timer since (session_of block)
  unfolding session_of timed
  times timer since = eight (λ block. session_of (set (set block 6 timer) 7 since) ≡ timed timer since (session_of block)) (λ a b c d e f g h ps n. refl) block long

  pub asks : (through : ℕ) → session_of (set block 4 through) ≡ asking through (session_of block)
  unfolding session_of asking
  asks through = eight (λ block. session_of (set block 4 through) ≡ asking through (session_of block)) (λ a b c d e f g h ps n. refl) block long

  pub packet_is : (k : ℕ) → 1 ≤ k → k ≤ length (session_of block).packets → get_or block (7 + k) 0 ≡ get_or (session_of block).packets (k - 1) 0
  unfolding session_of
  packet_is k h l =
      let e : 7 + k ≡ 8 + (k - 1) = omega arith in
      rw (e, get_or-take (get_or block 3 0) (drop 8 block) (k - 1) 0 (omega (arith, stored_is)), get_or-drop 8 block (k - 1) 0)

-- "elapsed" by a difference is what it is by a sum
pub due_same : (timer since time : ℕ) → since ≤ time → leb timer (time - since) ≡ leb (since + timer) time
due_same timer since time h =
    elim (dec_lt (time - since) timer) [
      | yes l ↦ lt-leb timer (time - since) l ∙ sym (lt-leb (since + timer) time (omega arith))
      | no l ↦ le-leb timer (time - since) (omega arith) ∙ sym (le-leb (since + timer) time (omega arith))
    ]

pub word_small : (way : Way) → word way ≤ 2
word_small Receiving = omega arith
word_small Sending = omega arith

pub word_in_small : (way : Option Way) → word_in way ≤ 2
word_in_small None = omega arith
word_in_small (Some way) = word_small way
