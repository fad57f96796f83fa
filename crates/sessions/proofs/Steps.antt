-- The rows of a data packet, of a request to send and of a clear to send, and the steps of the first. Assumes nothing.
use mathlib.Core.Path.{◌≡◌, refl, sym, ap, ◌∙◌}
use mathlib.Core.Bool.{Bool, true, false, ◌&&◌}
use mathlib.Core.List.{List, [], ◌∷◌, ◌++◌, append-nil}
use Prim.Native.Nat.{ℕ, zero, suc, ◌+◌, ◌%◌, ◌≤◌, ◌<◌, min}
use native.Mathlib.Omega.{arith}
use lib.ListN.{length, get_or, set, drop, length-set, drop_of_length-le, length-append}
use lib.Seq.{set-set, get_or-set_same, take_all, get_or_at, set_at}
use lib.Dec.{eqb, leb}
use native.Mathlib.Decide.{dec_lt}
use borrow.Author.Tests.{lt-ltb, le-ltb, eq-eqb, ne_eqb, le-leb, lt-leb, leb-true}
use Rattle.packets.specs.Packets.{packets_of}
use Rattle.session.specs.Session.{Session, session_of, opened, next, is_last, is_asked, with_packet, timed, asking, message}
use Rattle.sessions.specs.declared.Data.{Data}
use Rattle.sessions.specs.declared.Data.TheVariants.{Stored, Ask, Given}
use Rattle.checks.specs.declared.refusal.Refusal.{Refusal}
use Rattle.checks.specs.declared.refusal.Refusal.TheVariants.{ManySessions, WrongPacket, WrongSize}
use Rattle.std.specs.Prelude.{Option, None, Some, Result, Ok, Err}
use Rattle.sessions.specs.Sessions.{talk_of, none, remove_at}
use Rattle.sessions.specs.Heard.{ask_count, ask_of, T1, T2, kept, asked_next, by_row, data_talk, data_message, data_answer, Hearing, is_right, request_talk, request_answer, Requesting, T3, T4, by_clear, clear_talk, through_of, window_of, clear_answer, Clearing}
use Rattle.session.specs.Calls.{Writing}
use Rattle.sessions.specs.Steps.{AskingNext, TakingAsked, TakingLast}

-- the session at a place is changed, and once more
module _ (a : List Session) (i : ℕ) (x : Session) {b : List Session} (p : b ≡ set a i x) where
  again : (y : Session) {c : List Session} → c ≡ set b i y → c ≡ set a i y
  again y q = q ∙ rw p (set-set a i x y)

  changed_at : i < length a → get_or b i none ≡ x
  changed_at h = rw p (get_or-set_same a i x none h)

  as_long : length b ≡ length a
  as_long = rw p (length-set a i x)

-- one that was changed goes out
removed : (a : List Session) (i : ℕ) (x : Session) → remove_at i (set a i x) ≡ remove_at i a
unfolding remove_at
removed [] i x = refl
removed (s ∷ ss) zero x = refl
removed (s ∷ ss) (suc i) x = ap {B = List Session} (λ l. s ∷ l) (removed ss i x)

module _ (a : List Session) (i : ℕ) (f : Session → Session) {b : List Session} (p : b ≡ set a i (f (get_or a i none))) where
  pub still : length b ≡ length a
  still = as_long a i (f (get_or a i none)) p

  pub there : i < length a → get_or b i none ≡ f (get_or a i none)
  there h = changed_at a i (f (get_or a i none)) p h

  pub twice : (g : Session → Session) {c : List Session} → i < length a → c ≡ set b i (g (get_or b i none)) → c ≡ set a i (g (f (get_or a i none)))
  twice g h q = again a i (f (get_or a i none)) p (g (f (get_or a i none))) (q ∙ ap (λ (s : Session). set b i (g s)) (there h))

  pub gone : {c : List Session} → c ≡ remove_at i b → c ≡ remove_at i a
  gone q = q ∙ rw p (removed a i (f (get_or a i none)))

-- ---- the steps
pub asks_next : (before : List ℕ) (i time k n : ℕ) {b : List Session} {after : List ℕ} → i < length (talk_of before)
    → n ≡ ask_count (get_or (talk_of before) i none) → k ≡ length (get_or (talk_of before) i none).packets
    → b ≡ set (talk_of before) i (asking (k + n) (get_or (talk_of before) i none)) → talk_of after ≡ set b i (timed T2 time (get_or b i none))
    → AskingNext before after i time (Ask n (k + 1))
unfolding asked_next
asks_next before i time k n {b} {after} h en ek p q = record {
  talk = twice (talk_of before) i (asking (k + n)) p (timed T2 time) h q ∙ rw (en, ek);
  answer = rw (en, ek);
}

pub takes_asked : (before : List ℕ) (i word time : ℕ) {between after : List ℕ} {r : Data} → i < length (talk_of before)
    → talk_of between ≡ set (talk_of before) i (with_packet word (get_or (talk_of before) i none)) → AskingNext between after i time r → TakingAsked before after i word time r
takes_asked before i word time {between} {after} {r} h p A = record {
  talk = twice (talk_of before) i (with_packet word) p (asked_next time) h A.talk;
  answer = A.answer ∙ ap ask_of (there (talk_of before) i (with_packet word) p h);
}

pub takes_kept : (a : List Session) (i word time : ℕ) {b c : List Session} → i < length a
    → b ≡ set a i (with_packet word (get_or a i none)) → c ≡ set b i (timed T1 time (get_or b i none)) → c ≡ set a i (kept word time (get_or a i none))
unfolding kept
takes_kept a i word time h p q = twice a i (with_packet word) p (timed T1 time) h q

pub takes_last : (before between : List ℕ) (i word : ℕ) {after out given : List ℕ} {r : ℕ} → i < length (talk_of before)
    → talk_of between ≡ set (talk_of before) i (with_packet word (get_or (talk_of before) i none)) → {block : List ℕ} → session_of block ≡ get_or (talk_of between) i none → Writing block out given r → talk_of after ≡ remove_at i (talk_of between)
    → TakingLast before after i word out given r
takes_last before between i word {after} {out} {given} {r} h p {block} lent W q = record {
  talk = gone (talk_of before) i (with_packet word) p q;
  written = W.written ∙ ap (λ (s : Session). message s ++ drop r out) (lent ∙ there (talk_of before) i (with_packet word) p h);
  answer = W.answer ∙ ap (λ (s : Session). length (message s)) (lent ∙ there (talk_of before) i (with_packet word) p h);
}

-- ---- the rows
module _ {A : Type 0} (i word : ℕ) (ss : List Session) (absent other last through rest : A) where
  pub row_absent : length ss ≤ i → by_row i word ss absent other last through rest ≡ absent
  unfolding by_row
  row_absent h = rw (le-ltb i (length ss) h)

  module _ (h : i < length ss) where
    pub row_other : (word % 256 ≡ next (get_or ss i none) → ⊥) → by_row i word ss absent other last through rest ≡ other
    unfolding by_row
    row_other n = rw (lt-ltb i (length ss) h, ne_eqb (word % 256) (next (get_or ss i none)) n)

    module _ (k : word % 256 ≡ next (get_or ss i none)) where
      pub row_last : is_last (get_or ss i none) ≡ true → by_row i word ss absent other last through rest ≡ last
      unfolding by_row
      row_last l = rw (lt-ltb i (length ss) h, eq-eqb (word % 256) (next (get_or ss i none)) k, l)

      pub row_through : is_last (get_or ss i none) ≡ false → is_asked (get_or ss i none) ≡ true → by_row i word ss absent other last through rest ≡ through
      unfolding by_row
      row_through l a = rw (lt-ltb i (length ss) h, eq-eqb (word % 256) (next (get_or ss i none)) k, l, a)

      pub row_rest : is_last (get_or ss i none) ≡ false → is_asked (get_or ss i none) ≡ false → by_row i word ss absent other last through rest ≡ rest
      unfolding by_row
      row_rest l a = rw (lt-ltb i (length ss) h, eq-eqb (word % 256) (next (get_or ss i none)) k, l, a)

-- ---- the call, row by row
abbrev ok_some : Data → Result (Option Data) Refusal
ok_some d = Ok (Some d)

module _ (before : List ℕ) (i word time : ℕ) (out : List ℕ) where
  pub hears_none : length (talk_of before) ≤ i → Hearing before before i word time out out (Ok None)
  unfolding data_talk data_answer data_message
  hears_none h = record {
    talk = sym (row_absent i word (talk_of before) _ _ _ _ _ h);
    answer = sym (row_absent i word (talk_of before) _ _ _ _ _ h);
    written = rw (row_absent {A = List ℕ} i word (talk_of before) [] [] (message (with_packet word (get_or (talk_of before) i none))) [] [] h);
  }

  module _ (h : i < length (talk_of before)) where
    pub hears_other : (word % 256 ≡ next (get_or (talk_of before) i none) → ⊥) → Hearing before before i word time out out (Err WrongPacket)
    unfolding data_talk data_answer data_message
    hears_other n = record {
      talk = sym (row_other i word (talk_of before) _ _ _ _ _ h n);
      answer = sym (row_other i word (talk_of before) _ _ _ _ _ h n);
      written = rw (row_other {A = List ℕ} i word (talk_of before) [] [] (message (with_packet word (get_or (talk_of before) i none))) [] [] h n);
    }

    module _ (k : word % 256 ≡ next (get_or (talk_of before) i none)) where
      pub hears_last : {after given : List ℕ} {r : ℕ} → is_last (get_or (talk_of before) i none) ≡ true → TakingLast before after i word out given r → Hearing before after i word time out given (Ok (Some (Given r)))
      unfolding data_talk data_answer data_message
      hears_last {after} {given} {r} l T = record {
        talk = T.talk ∙ sym (row_last i word (talk_of before) _ _ _ _ _ h k l);
        answer = ap (λ (n : ℕ). ok_some (Given n)) T.answer ∙ sym (row_last i word (talk_of before) _ _ _ _ _ h k l);
        written = T.written ∙ rw (row_last {A = List ℕ} i word (talk_of before) [] [] (message (with_packet word (get_or (talk_of before) i none))) [] [] h k l, T.answer);
      }

      pub hears_asked : {after : List ℕ} {r : Data} → is_last (get_or (talk_of before) i none) ≡ false → is_asked (get_or (talk_of before) i none) ≡ true → TakingAsked before after i word time r → Hearing before after i word time out out (Ok (Some r))
      unfolding data_talk data_answer data_message
      hears_asked l a T = record {
        talk = T.talk ∙ sym (row_through i word (talk_of before) _ _ _ _ _ h k l a);
        answer = ap (λ (d : Data). ok_some d) T.answer ∙ sym (row_through i word (talk_of before) _ _ _ _ _ h k l a);
        written = rw (row_through {A = List ℕ} i word (talk_of before) [] [] (message (with_packet word (get_or (talk_of before) i none))) [] [] h k l a);
      }

      pub hears_kept : {after : List ℕ} → is_last (get_or (talk_of before) i none) ≡ false → is_asked (get_or (talk_of before) i none) ≡ false
          → talk_of after ≡ set (talk_of before) i (kept word time (get_or (talk_of before) i none)) → Hearing before after i word time out out (Ok (Some Stored))
      unfolding data_talk data_answer data_message
      hears_kept l a T = record {
        talk = T ∙ sym (row_rest i word (talk_of before) _ _ _ _ _ h k l a);
        answer = sym (row_rest i word (talk_of before) _ _ _ _ _ h k l a);
        written = rw (row_rest {A = List ℕ} i word (talk_of before) [] [] (message (with_packet word (get_or (talk_of before) i none))) [] [] h k l a);
      }

-- ---- a request to send
pub past_none : (i : ℕ) (ss : List Session) → length ss ≤ i → ss ≡ remove_at i ss
unfolding remove_at
past_none i ss h = sym (rw (take_all i ss h, drop_of_length-le ss {i = suc i} (omega arith)) (append-nil ss))

pub removed_long : (i : ℕ) (ss : List Session) → i < length ss → suc (length (remove_at i ss)) ≡ length ss
unfolding remove_at
removed_long i [] h = absurd (omega arith)
removed_long zero (s ∷ ss) h = refl
removed_long (suc i) (s ∷ ss) h = ap {A = ℕ} suc (removed_long i ss (omega arith))

pub room : (i : ℕ) (ss : List Session) → length ss ≤ 4 → i < 4 → length (remove_at i ss) < 4
room i ss l h =
    elim (dec_lt i (length ss)) [
      | yes y ↦ omega (arith, removed_long i ss y)
      | no n ↦ rw (← (past_none i ss (omega arith))) (omega arith)
    ]

module _ (before : List ℕ) (i peer size packets limit time : ℕ) where
  pub full : 4 ≤ i → Requesting before before i peer size packets limit time (Err ManySessions)
  unfolding request_talk request_answer
  full h = record { talk = rw (le-leb 4 i h); answer = rw (le-leb 4 i h) }

  module _ (h : i < 4) where
    pub wrong : is_right size packets ≡ false → Requesting before before i peer size packets limit time (Err WrongSize)
    unfolding request_talk request_answer
    wrong e = record { talk = rw (lt-leb 4 i h, e); answer = rw (lt-leb 4 i h, e) }

    pub opened_for : {after : List ℕ} (most c : ℕ) → is_right size packets ≡ true → most ≡ min limit 16 → c ≡ min packets most
        → talk_of after ≡ remove_at i (talk_of before) ++ (opened 1 peer size c most T2 time ∷ []) → Requesting before after i peer size packets limit time (Ok c)
    unfolding request_talk request_answer
    opened_for most c e m n t = record { talk = t ∙ rw (lt-leb 4 i h, e, n, m); answer = rw (lt-leb 4 i h, e, n, m) }

-- the youngest is changed
pub sends : (a : List Session) (s : Session) (f : Session → Session) {b c : List Session} (n : ℕ) → n ≡ length a → b ≡ a ++ (s ∷ []) → c ≡ set b n (f (get_or b n none)) → c ≡ a ++ (f s ∷ [])
sends a s f n e p q = q ∙ rw (p, get_or_at a s [] none n (sym e), set_at a s [] (f s) n (sym e))

pub one_more_lem : (a : List Session) (s : Session) {b : List Session} → b ≡ a ++ (s ∷ []) → length b ≡ length a + 1
one_more_lem a s p = rw p (length-append a (s ∷ []))

-- ---- a clear to send
module _ {A : Type 0} (i count first : ℕ) (ss : List Session) (absent held past send : A) where
  clear_absent : length ss ≤ i → by_clear i count first ss absent held past send ≡ absent
  unfolding by_clear
  clear_absent h = rw (le-ltb i (length ss) h)

  module _ (h : i < length ss) where
    clear_held : count ≡ 0 → by_clear i count first ss absent held past send ≡ held
    unfolding by_clear
    clear_held z = rw (lt-ltb i (length ss) h, eq-eqb count 0 z)

    module _ (n : count ≡ 0 → ⊥) where
      clear_zero : first ≡ 0 → by_clear i count first ss absent held past send ≡ past
      unfolding by_clear
      clear_zero z = rw (lt-ltb i (length ss) h, ne_eqb count 0 n, eq-eqb first 0 z)

      module _ (m : first ≡ 0 → ⊥) where
        clear_past : length (get_or ss i none).packets < first → by_clear i count first ss absent held past send ≡ past
        unfolding by_clear
        clear_past p = rw (lt-ltb i (length ss) h, ne_eqb count 0 n, ne_eqb first 0 m, lt-ltb (length (get_or ss i none).packets) first p)

        clear_send : first ≤ length (get_or ss i none).packets → by_clear i count first ss absent held past send ≡ send
        unfolding by_clear
        clear_send p = rw (lt-ltb i (length ss) h, ne_eqb count 0 n, ne_eqb first 0 m, le-ltb (length (get_or ss i none).packets) first p)

module _ (before : List ℕ) (i count first time : ℕ) where
  pub clears_none : length (talk_of before) ≤ i → Clearing before before i count first time None
  unfolding clear_talk clear_answer
  clears_none h = record {
    talk = sym (clear_absent i count first (talk_of before) _ _ _ _ h);
    answer = sym (clear_absent i count first (talk_of before) _ _ _ _ h);
  }

  module _ (h : i < length (talk_of before)) where
    pub clears_held : {after : List ℕ} → count ≡ 0 → talk_of after ≡ set (talk_of before) i (timed T4 time (get_or (talk_of before) i none))
        → Clearing before after i count first time None
    unfolding clear_talk clear_answer
    clears_held z t = record {
      talk = t ∙ sym (clear_held i count first (talk_of before) _ _ _ _ h z);
      answer = sym (clear_held i count first (talk_of before) _ _ _ _ h z);
    }

    module _ (n : count ≡ 0 → ⊥) where
      pub clears_zero : first ≡ 0 → Clearing before before i count first time None
      unfolding clear_talk clear_answer
      clears_zero z = record {
        talk = sym (clear_zero i count first (talk_of before) _ _ _ _ h n z);
        answer = sym (clear_zero i count first (talk_of before) _ _ _ _ h n z);
      }

      module _ (m : first ≡ 0 → ⊥) where
        pub clears_past : length (get_or (talk_of before) i none).packets < first → Clearing before before i count first time None
        unfolding clear_talk clear_answer
        clears_past p = record {
          talk = sym (clear_past i count first (talk_of before) _ _ _ _ h n m p);
          answer = sym (clear_past i count first (talk_of before) _ _ _ _ h n m p);
        }

        pub clears_send : {after : List ℕ} {through : ℕ} → first ≤ length (get_or (talk_of before) i none).packets
            → talk_of after ≡ set (talk_of before) i (timed T3 time (get_or (talk_of before) i none))
            → through ≡ through_of count first (get_or (talk_of before) i none)
            → Clearing before after i count first time (Some (window_of i first through))
        unfolding clear_talk clear_answer
        clears_send p t e = record {
          talk = t ∙ sym (clear_send i count first (talk_of before) _ _ _ _ h n m p);
          answer = rw e (sym (clear_send i count first (talk_of before) _ _ _ _ h n m p));
        }

-- a right size is one that a session has
pub right_bounds : (size packets : ℕ) → is_right size packets ≡ true → size ≤ 1785
right_bounds size packets e = leb-true size 1785 (and_left (leb size 1785) (eqb packets (packets_of size)) (and_right (leb 9 size) e))
  where
    and_right : (a : Bool) {b : Bool} → a && b ≡ true → b ≡ true
    and_right true e = e
    and_right false e = absurd (let z : ◌≡◌ {A = ℕ} 0 1 = cc in omega arith)

    and_left : (a b : Bool) → a && b ≡ true → a ≡ true
    and_left true b e = refl
    and_left false b e = e
