-- A message cut into the words of the packets, and put together from them. Assumes nothing.
use Rattle.std.proofs.Common.{◌≡◌, refl, sym, ap, ◌∙◌, ℕ, ◌+◌, ◌-◌, ◌*◌, ◌/◌, ◌≤◌, ◌<◌, min, List, ◌++◌, length, get_or, set, take, drop, arith}
use lib.ListN.{length-take}
use lib.Seq.{get_or-drop, get_or-take, take_at, drop_at, take_all, take-add, take-take, drop-drop, length-take-le}
use Rattle.std.proofs.lemmas.List.{drop-take, take_rest}
use mathlib.Core.List.{append_assoc}
use Rattle.std.specs.Int.{w64, to_le_bytes}
use Rattle.storage.specs.Bytes.{packed, bytes_of}
use Rattle.storage.proofs.Bytes.{AllBytes}
use Rattle.packets.specs.Packets.{packets_of, packet}
use Rattle.packets.specs.Words.{cut_words, carried_in}
use Rattle.packets.proofs.Frames.{word_bytes}
use Rattle.packets.proofs.Words.{words_at, words_many, words_same, carried_part, carried_long}
use Rattle.session.specs.Session.{most_bytes, block_length, Session, session_of, with_packets, message}
use Rattle.session.specs.Calls.{Writing, Written}
use Rattle.session.proofs.Eight.{eight}
use Rattle.session.proofs.Laws.{stored_is}
use Rattle.session.proofs.Paste.{Pasted, pasted_none, pasted_one, pasted_all}

-- ---- fill
pub fill_start : (block bytes : List ℕ) → length block ≡ block_length → length bytes ≤ most_bytes → Pasted block 8 (cut_words bytes) block 0
fill_start block bytes l b = pasted_none (omega (arith, words_many (packets_of (length bytes)) 1 bytes))

pub fill_one : (bytes : List ℕ) {block x : List ℕ} {i w : ℕ} → i < (length bytes + 6) / 7 → Pasted block 8 (cut_words bytes) x i → w ≡ packed (packet (i + 1) (take (length bytes - 7 * i) (drop (7 * i) bytes)))
    → Pasted block 8 (cut_words bytes) (set x (8 + i) w) (i + 1)
fill_one bytes {block} {x} {i} {w} h P e =
    let n : i + 1 ≡ 1 + i = omega arith in
    pasted_one P (omega (arith, words_many (packets_of (length bytes)) 1 bytes)) w (e ∙ rw (take_rest bytes (7 * i), n) (sym (words_at (packets_of (length bytes)) 1 bytes i h)))

behind : (block ps rest : List ℕ) (n : ℕ) → length block ≡ block_length → length ps ≡ n → session_of (set (take 8 block ++ (ps ++ rest)) 3 n) ≡ with_packets ps (session_of block)
unfolding session_of
behind block ps rest n l m =
    eight (λ block. session_of (set (take 8 block ++ (ps ++ rest)) 3 n) ≡ with_packets ps (session_of block))
    (λ a b c d e f g h qs k. rw (take_at ps rest n m)) block l

pub fill_done : (bytes : List ℕ) {block x : List ℕ} {i : ℕ} → length block ≡ block_length → (length bytes + 6) / 7 ≤ i → Pasted block 8 (cut_words bytes) x i
    → session_of (set x 3 ((length bytes + 6) / 7)) ≡ with_packets (cut_words bytes) (session_of block)
fill_done bytes {block} {x} {i} l h P =
    let many = words_many (packets_of (length bytes)) 1 bytes in
    rw (pasted_all P (omega (arith, many)))
    (behind block (cut_words bytes) (drop (8 + length (cut_words bytes)) block) ((length bytes + 6) / 7) l many)

-- ---- write out
pub message_long : (s : Session) → length (message s) ≡ min s.size (7 * length s.packets)
unfolding message
message_long s = length-take s.size (carried_in s.packets) ∙ rw (carried_long s.packets)

-- ---- j bytes of packet k
within : (a j n : ℕ) (xs : List ℕ) → a + j ≤ n → take j (drop a (take n xs)) ≡ take j (drop a xs)
within a j n xs h =
    let e : n ≡ a + (n - a) = omega arith in
    ap {A = ℕ} (λ m. take j (drop a (take m xs))) e
    ∙ ap {A = List ℕ} (λ ys. take j ys) (drop-take a (n - a) xs)
    ∙ take-take j (n - a) (drop a xs) (omega arith)

pub message_part : (block : List ℕ) (k j : ℕ) → length block ≡ block_length → 0 < j → j ≤ 7 → 7 * k + j ≤ length (message (session_of block))
    → take j (drop (7 * k) (message (session_of block))) ≡ take j (drop 1 (bytes_of 8 (get_or block (8 + k) 0)))
unfolding message session_of
message_part block k j l some few h =
    let long = message_long (session_of block) in
    let there = stored_is block l in
    within (7 * k) j (min (get_or block 2 0) most_bytes) (carried_in (take (get_or block 3 0) (drop 8 block))) (omega (arith, long))
    ∙ carried_part (take (get_or block 3 0) (drop 8 block)) k j (omega (arith, long)) few
    ∙ rw (get_or-take (get_or block 3 0) (drop 8 block) k 0 (omega (arith, long, there)), get_or-drop 8 block k 0)

-- ---- a message written piece by piece
pub written_none : (m before : List ℕ) → Written m before before 0
written_none m before = record { inside = omega arith; bytes = refl }

pub written_more : (m before : List ℕ) {x ys : List ℕ} {i : ℕ} (j : ℕ) → length m ≤ length before → i + j ≤ length m → ys ≡ take j (drop i m) → Written m before x i
    → Written m before (take i x ++ (ys ++ drop j (drop i x))) (i + j)
written_more m before {x} {ys} {i} j room h e W = record {
  inside = h;
  bytes =
      rw (e, W.bytes, take_at (take i m) (drop i before) i front, drop_at (take i m) (drop i before) i front, drop-drop j i before)
      (sym (ap {A = List ℕ} (λ l. l ++ drop (i + j) before) (take-add i j m) ∙ append_assoc (take i m) (take j (drop i m)) (drop (i + j) before)));
}
  where
    front : length (take i m) ≡ i
    front = length-take-le i m (omega arith)

-- the bytes of packet k, as far as the message goes
pub write_step : (block : List ℕ) {before x ys bytes : List ℕ} (k n end : ℕ) → length block ≡ block_length → n ≡ length (message (session_of block)) → n ≤ length before
    → k < (n + 6) / 7 → end ≡ min n (7 * k + 7) → bytes ≡ to_le_bytes w64 (get_or block (8 + k) 0) → ys ≡ take (1 + end - 7 * k - 1) (drop 1 bytes)
    → Written (message (session_of block)) before x (min (7 * k) n)
    → Written (message (session_of block)) before (take (7 * k) x ++ (ys ++ drop (end - 7 * k) (drop (7 * k) x))) (min (7 * (k + 1)) n)
write_step block {before} {x} {ys} {bytes} k n end l long room turn e b y W =
    let i : min (7 * k) n ≡ 7 * k = omega arith in
    let to : min (7 * (k + 1)) n ≡ 7 * k + (end - 7 * k) = omega arith in
    let j : 1 + end - 7 * k - 1 ≡ end - 7 * k = omega arith in
    rw to
    (written_more (message (session_of block)) before (end - 7 * k) (omega arith) (omega arith)
    (y ∙ rw (j, b ∙ word_bytes (get_or block (8 + k) 0)) (sym (message_part block k (end - 7 * k) l (omega arith) (omega arith) (omega arith))))
    (rw i at W))

pub write_done : (block : List ℕ) {out x : List ℕ} {r : ℕ} → r ≡ length (message (session_of block)) → r ≤ most_bytes → Written (message (session_of block)) out x r → Writing block out x r
write_done block {out} {x} {r} e s W = record { written = W.bytes ∙ rw (take_all r (message (session_of block)) (omega arith)); answer = e; small = s }

-- ---- a message that was cut and came whole is the message
pub received : (m : List ℕ) (s : Session) → AllBytes m → length m ≤ most_bytes → s.size ≡ length m → s.packets ≡ cut_words m → message s ≡ m
unfolding message
received m s h few size came = rw (size, came) (words_same m few h)
