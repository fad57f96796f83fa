-- A message whose packets come in order is given out whole, whatever other peers send between. Assumes nothing.
use mathlib.Core.Path.{◌≡◌, refl, sym, ap, ◌∙◌}
use mathlib.Core.Bool.{Bool, true, false, cond, ◌&&◌}
use mathlib.Core.List.{List, [], ◌∷◌, ◌++◌}
use Rattle.std.specs.Prelude.{Option, Some}
use Prim.Native.Nat.{ℕ, zero, suc, ◌+◌, ◌*◌, ◌%◌, ◌≤◌, ◌<◌}
use native.Mathlib.Nat.{not-suc-le-zero, le_of_suc-le-suc}
use native.Mathlib.Numerals.{add-one}
use native.Mathlib.Omega.{arith}
use lib.ListN.{length, get_or, set, take, drop}
use lib.Seq.{take-suc, length-take-le, take_all}
use lib.Dec.{eqb, ltb}
use borrow.Author.Tests.{eqb-true, eq-eqb, ne_eqb, ltb-true, lt-ltb}
use Rattle.storage.specs.Bytes.{packed}
use Rattle.storage.proofs.Bytes.{AllBytes}
use Rattle.packets.specs.Packets.{packets_of, packet}
use Rattle.packets.specs.Words.{cut_words}
use Rattle.packets.proofs.Words.{words_at, words_many}
use Rattle.session.specs.Session.{Session, most_bytes, next, is_last, is_asked, with_packet, timed, asking, message}
use Rattle.sessions.specs.Sessions.{place_of, is_with, remove_at}
use Rattle.sessions.specs.Sessions as S
use Rattle.sessions.specs.Heard.{kept, asked, asked_next, by_row, data_talk, data_message}
use Rattle.sessions.specs.Sessions.{receiving}
use Rattle.sessions.specs.Received.{first, Getting}
use Rattle.session.proofs.Bytes.{received}
use Rattle.sessions.proofs.Steps.{row_last}

-- ---- the first that passes a test, where others change
pub record Found (test : Session → Bool) (ss : List Session) (s : Session) : Type 0 where
  pub inside : place_of test ss < length ss
  pub is : get_or ss (place_of test ss) S.none ≡ s
  pub passes : test s ≡ true

module _ (test : Session → Bool) where
  found_case : (x : Session) (ss : List Session) (s : Session) (b : Bool) → test x ≡ b → (first test ss ≡ Some s → Found test ss s) → first test (x ∷ ss) ≡ Some s → Found test (x ∷ ss) s
  unfolding first place_of
  found_case x ss s true t more e =
      let got : Some x ≡ Some s = rw t at e in
      let same : x ≡ s = cc in
      record { inside = rw t (omega arith); is = rw t same; passes = rw (← same) t }
  found_case x ss s false t more e =
      let F = more (rw t at e) in
      record { inside = rw t (omega (arith, F.inside)); is = rw t F.is; passes = F.passes }

  pub found : (ss : List Session) (s : Session) → first test ss ≡ Some s → Found test ss s
  unfolding first
  found [] s e = absurd (let z : ◌≡◌ {A = ℕ} 0 1 = cc in omega arith)
  found (x ∷ ss) s e = found_case x ss s (test x) refl (found ss s) e

  pub first_other : (ss : List Session) (i : ℕ) → i < length ss → test (get_or ss i S.none) ≡ false → first test (remove_at i ss) ≡ first test ss
  unfolding first remove_at
  first_other [] i h t = absurd (not-suc-le-zero h)
  first_other (x ∷ ss) zero h t = rw t
  first_other (x ∷ ss) (suc i) h t = ap {A = Option Session} (λ o. cond (test x) (Some x) o) (first_other ss i (le_of_suc-le-suc h) t)

  pub first_set : (ss : List Session) (i : ℕ) (y : Session) → i < length ss → test (get_or ss i S.none) ≡ false → test y ≡ false → first test (set ss i y) ≡ first test ss
  unfolding first
  first_set [] i y h t u = absurd (not-suc-le-zero h)
  first_set (x ∷ ss) zero y h t u = rw (t, u)
  first_set (x ∷ ss) (suc i) y h t u = ap {A = Option Session} (λ o. cond (test x) (Some x) o) (first_set ss i y (le_of_suc-le-suc h) t u)

  first_own_case : (x : Session) (ss : List Session) (y : Session) (b : Bool) → test x ≡ b → (place_of test ss < length ss → first test (set ss (place_of test ss) y) ≡ Some y)
      → place_of test (x ∷ ss) < length (x ∷ ss) → test y ≡ true → first test (set (x ∷ ss) (place_of test (x ∷ ss)) y) ≡ Some y
  unfolding first place_of
  first_own_case x ss y true t more h u = rw t (rw u)
  first_own_case x ss y false t more h u = let g : suc (place_of test ss) < suc (length ss) = rw t at h in rw t (rw t (more (le_of_suc-le-suc g)))

  pub first_own : (ss : List Session) (y : Session) → place_of test ss < length ss → test y ≡ true → first test (set ss (place_of test ss) y) ≡ Some y
  first_own [] y h u = absurd (not-suc-le-zero h)
  first_own (x ∷ ss) y h u = first_own_case x ss y (test x) refl (λ g. first_own ss y g u) h u

  first_more_case : (x : Session) (ss ts : List Session) (s : Session) (b : Bool) → test x ≡ b → (first test ss ≡ Some s → first test (ss ++ ts) ≡ Some s) → first test (x ∷ ss) ≡ Some s → first test ((x ∷ ss) ++ ts) ≡ Some s
  unfolding first
  first_more_case x ss ts s true t more e = rw t (rw t at e)
  first_more_case x ss ts s false t more e = rw t (more (rw t at e))

  pub first_more : (ss ts : List Session) (s : Session) → first test ss ≡ Some s → first test (ss ++ ts) ≡ Some s
  unfolding first
  first_more [] ts s e = absurd (let z : ◌≡◌ {A = ℕ} 0 1 = cc in omega arith)
  first_more (x ∷ ss) ts s e = first_more_case x ss ts s (test x) refl (first_more ss ts s) e

  place_case : (x : Session) (ss : List Session) (b : Bool) → test x ≡ b → (place_of test ss < length ss → test (get_or ss (place_of test ss) S.none) ≡ true)
      → place_of test (x ∷ ss) < length (x ∷ ss) → test (get_or (x ∷ ss) (place_of test (x ∷ ss)) S.none) ≡ true
  unfolding place_of
  place_case x ss true t more h = rw t t
  place_case x ss false t more h = let g : suc (place_of test ss) < suc (length ss) = rw t at h in rw t (more (le_of_suc-le-suc g))

  pub place_passes : (ss : List Session) → place_of test ss < length ss → test (get_or ss (place_of test ss) S.none) ≡ true
  place_passes [] h = absurd (not-suc-le-zero h)
  place_passes (x ∷ ss) h = place_case x ss (test x) refl (place_passes ss) h

-- ---- whatever the row
rows : {A : Type 0} (P : A → Type 0) (b1 b2 b3 b4 : Bool) (absent other last through rest : A)
    → P absent → (b1 ≡ true → P other) → (b1 ≡ true → P last) → (b1 ≡ true → P through) → (b1 ≡ true → P rest)
    → P (cond b1 (cond b2 (cond b3 last (cond b4 through rest)) other) absent)
rows P false b2 b3 b4 absent other last through rest a o l t r = a
rows P true false b3 b4 absent other last through rest a o l t r = o refl
rows P true true true b4 absent other last through rest a o l t r = l refl
rows P true true false true absent other last through rest a o l t r = t refl
rows P true true false false absent other last through rest a o l t r = r refl

and_right : (a : Bool) {b : Bool} → a && b ≡ true → b ≡ true
and_right true e = e
and_right false e = absurd (let z : ◌≡◌ {A = ℕ} 0 1 = cc in omega arith)

and_false : (a : Bool) {b : Bool} → b ≡ false → a && b ≡ false
and_false true e = e
and_false false e = refl

-- the session of another peer is not the one
another : (s : Session) (peer other : ℕ) → (other ≡ peer → ⊥) → is_with 1 other s ≡ true → is_with 1 peer s ≡ false
another s peer other n e =
    let same : s.peer ≡ other = eqb-true s.peer other (and_right (eqb s.way 1) e) in
    and_false (eqb s.way 1) (ne_eqb s.peer peer (λ z. n (sym same ∙ z)))

-- a packet from another peer
pub other_first : (peer other word time : ℕ) (ss : List Session) → (other ≡ peer → ⊥) → first (is_with 1 peer) (data_talk (receiving other ss) word time ss) ≡ first (is_with 1 peer) ss
unfolding data_talk by_row asked_next kept timed asking with_packet
other_first peer other word time ss n =
    let i = receiving other ss in
    let at : ltb i (length ss) ≡ true → is_with 1 peer (get_or ss i S.none) ≡ false = λ e. another (get_or ss i S.none) peer other n (place_passes (is_with 1 other) ss (ltb-true i (length ss) e)) in
    rows (λ (x : List Session). first (is_with 1 peer) x ≡ first (is_with 1 peer) ss)
    (ltb i (length ss)) (eqb (word % 256) (next (get_or ss i S.none))) (is_last (get_or ss i S.none)) (is_asked (get_or ss i S.none))
    ss ss (remove_at i ss) (set ss i (asked word time (get_or ss i S.none))) (set ss i (kept word time (get_or ss i S.none)))
    refl (λ e. refl)
    (λ e. first_other (is_with 1 peer) ss i (ltb-true i (length ss) e) (at e))
    (λ e. first_set (is_with 1 peer) ss i (asked word time (get_or ss i S.none)) (ltb-true i (length ss) e) (at e) (at e))
    (λ e. first_set (is_with 1 peer) ss i (kept word time (get_or ss i S.none)) (ltb-true i (length ss) e) (at e) (at e))

pub getting_other : (m : List ℕ) (peer j other word time : ℕ) (ss : List Session) → (other ≡ peer → ⊥) → Getting m peer j ss → Getting m peer j (data_talk (receiving other ss) word time ss)
getting_other m peer j other word time ss n G = record { session = G.session; found = other_first peer other word time ss n ∙ G.found; size = G.size; came = G.came }

-- ---- a packet from the peer itself
-- the word of the packet numbered k, of a message's bytes from `at` on
abbrev pub word_at : List ℕ → ℕ → ℕ → ℕ
word_at bytes at k = packed (packet k (drop at bytes))

number : (m : List ℕ) (at k : ℕ) → k < 256 → word_at m at k % 256 ≡ k
unfolding packed
number m at k h = omega arith

module _ (m : List ℕ) (peer j time : ℕ) (ss : List Session) (bytes : AllBytes m) (few : length m ≤ most_bytes) (before : j < packets_of (length m)) (G : Getting m peer j ss) where
  i : ℕ
  i = receiving peer ss

  word : ℕ
  word = word_at m (7 * j) (j + 1)

  F : Found (is_with 1 peer) ss G.session
  F = found (is_with 1 peer) ss G.session G.found

  many : length (cut_words m) ≡ packets_of (length m)
  many = words_many (packets_of (length m)) 1 m

  long : length G.session.packets ≡ j
  long = rw G.came (length-take-le j (cut_words m) (omega (arith, many)))

  right : word % 256 ≡ next (get_or ss i S.none)
  unfolding i word
  right = number m (7 * j) (j + 1) (omega arith) ∙ rw (F.is, long)

  -- one packet more
  grown : (with_packet word G.session).packets ≡ take (j + 1) (cut_words m)
  unfolding word with_packet
  grown =
      let e : j + 1 ≡ 1 + j = omega arith in
      let w : word_at m (7 * j) (j + 1) ≡ get_or (cut_words m) j 0 = rw e (sym (words_at (packets_of (length m)) 1 m j before)) in
      let more : take (j + 1) (cut_words m) ≡ take j (cut_words m) ++ (get_or (cut_words m) j 0 ∷ []) = rw (add-one j) (take-suc (cut_words m) j 0 (omega (arith, many))) in
      rw (G.came, w, ← more) (take_all 255 (take (j + 1) (cut_words m)) (omega (arith, length-take-le (j + 1) (cut_words m) (omega (arith, many)))))

  last_is : is_last (get_or ss i S.none) ≡ eqb (j + 1) (packets_of (length m))
  unfolding i
  last_is = rw (F.is, long, G.size)

  size_kept : (with_packet word G.session).size ≡ length m
  unfolding with_packet
  size_kept = G.size

  -- the last one gives the message out
  pub given : j + 1 ≡ packets_of (length m) → data_message (receiving peer ss) (word_at m (7 * j) (j + 1)) ss ≡ m
  unfolding i word data_message
  given e =
      row_last {A = List ℕ} i word ss [] [] (message (with_packet word (get_or ss i S.none))) [] [] F.inside right (last_is ∙ eq-eqb (j + 1) (packets_of (length m)) e)
      ∙ rw F.is (received m (with_packet word G.session) bytes few size_kept (grown ∙ take_all (j + 1) (cut_words m) (omega (arith, many))))

  -- any before it gives out nothing
  pub not_yet : j + 1 < packets_of (length m) → data_message (receiving peer ss) (word_at m (7 * j) (j + 1)) ss ≡ []
  unfolding i word data_message by_row
  not_yet h =
      rw (lt-ltb i (length ss) F.inside, eq-eqb (word % 256) (next (get_or ss i S.none)) right, last_is ∙ ne_eqb (j + 1) (packets_of (length m)) (λ e. omega arith))
      (same (is_asked (get_or ss i S.none)))
    where
      same : (b : Bool) → cond {A = List ℕ} b [] [] ≡ []
      same true = refl
      same false = refl

  -- and brings it one packet further
  got : (y : Session) → y.way ≡ G.session.way → y.peer ≡ G.session.peer → y.size ≡ length m → y.packets ≡ take (j + 1) (cut_words m) → Getting m peer (j + 1) (set ss i y)
  unfolding i
  got y w p z c = record {
    session = y;
    found = first_own (is_with 1 peer) ss y F.inside (rw (w, p) F.passes);
    size = z;
    came = c;
  }

  got_either : (b : Bool) → Getting m peer (j + 1) (cond b (set ss i (asked word time G.session)) (set ss i (kept word time G.session)))
  unfolding asked_next kept timed asking with_packet
  got_either true = got (asked word time G.session) refl refl G.size grown
  got_either false = got (kept word time G.session) refl refl G.size grown

  pub getting_own : j + 1 < packets_of (length m) → Getting m peer (j + 1) (data_talk (receiving peer ss) (word_at m (7 * j) (j + 1)) time ss)
  unfolding i word data_talk by_row
  getting_own h =
      rw (lt-ltb i (length ss) F.inside, eq-eqb (word % 256) (next (get_or ss i S.none)) right, last_is ∙ ne_eqb (j + 1) (packets_of (length m)) (λ e. omega arith), F.is)
      (got_either (is_asked G.session))
