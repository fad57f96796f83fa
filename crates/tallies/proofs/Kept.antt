-- What is counted at a port equals a recount, and stays so when a frame is sent there and when a take is made. Assumes nothing.
use mathlib.Core.Path.{◌≡◌, refl, sym, ap, ◌∙◌}
use mathlib.Core.Bool.{Bool, true, false, cond}
use mathlib.Core.List.{List, [], ◌∷◌, ◌++◌, map, append_assoc, append-nil}
use Rattle.std.specs.Prelude.{Option, None, Some}
use Prim.Native.Nat.{ℕ, zero, suc, ◌+◌, ◌%◌, ◌^◌, ◌≤◌, ◌<◌}
use native.Mathlib.Decide.{ℕ_discrete}
use native.Mathlib.Omega.{arith}
use borrow.Author.Tests.{eq-eqb, ne_eqb, ltb-true}
use lib.Dec.{eqb}
use lib.ListN.{length, get_or, set, length-set, length-append, replicate}
use lib.Seq.{get_or-set_same, get_or-set_other}
use Rattle.delivery.specs.Row.{room, pull, Pulls, nothing, first}
use Rattle.delivery.specs.Port.{Event, Join, Take, joined, count, row_after}
use Rattle.delivery.specs.Unit.{accepted, happens}
use Rattle.delivery.proofs.Take.{pulls}
use Rattle.queue.specs.declared.Frame.{Frame}
use Rattle.queue.specs.Queue.{size, priority, one_more, one_less, counted_in, counted_out, Queued, taking, sent_all, queue_next, idle}
use Rattle.queue.specs.Queue.{joined as joined_to}
use Rattle.tallies.specs.Tallies.{gone}
use Rattle.tallies.proofs.Histories.{joined_append, row_append, gone_append, count_append, count_few}

-- the frames of a rank
abbrev pub of : ℕ → Frame → Bool
of rank f = eqb (priority f) rank

-- after the history h a port's queue is x
pub record Kept (x : Queued) (h : List (Event Frame)) : Type 0 where
  pub row : row_after priority [] h ≡ x.row
  pub few : length x.row ≤ 32
  pub eight : length x.tally.waiting ≡ 8
  pub waiting : (rank : ℕ) → rank < 8 → get_or x.tally.waiting rank 0 ≡ count (of rank) x.row
  pub accepted : x.tally.accepted ≡ length (joined h) % 2 ^ 64
  pub taken : x.tally.taken ≡ length (gone [] h) % 2 ^ 64
  pub sum : length (joined h) ≡ length (gone [] h) + length x.row

zeros : (n i : ℕ) → ◌≡◌ {A = ℕ} (get_or (replicate n 0) i 0) 0
zeros zero i = refl
zeros (suc n) zero = refl
zeros (suc n) (suc i) = zeros n i

pub kept_idle : Kept idle []
kept_idle = record { row = refl; few = omega arith; eight = refl; waiting = λ rank _. zeros 8 rank; accepted = refl; taken = refl; sum = refl }

rank_small : (f : Frame) → priority f < 8
rank_small f = omega arith

-- one more, modulo 2^64
more : (n a : ℕ) → a ≡ n % 2 ^ 64 → one_more a ≡ (n + 1) % 2 ^ 64
more n a e = omega arith

module _ {x : Queued} {h : List (Event Frame)} (K : Kept x h) where
  -- ---- a frame is accepted
  joins : (f : Frame) → length x.row < 32 → Kept (record { row = x.row ++ (f ∷ []); tally = counted_in (priority f) x.tally }) (h ++ (Join f ∷ []))
  unfolding counted_in
  joins f room-is =
      let p = priority f in
      let w = x.tally.waiting in
      record {
        row = row_append [] h (Join f ∷ []) ∙ rw K.row;
        few = omega (arith, length-append x.row (f ∷ []));
        eight = length-set w p _ ∙ K.eight;
        waiting = λ rank l. counts rank l;
        accepted = more (length (joined h)) x.tally.accepted K.accepted ∙ ap (λ n. n % 2 ^ 64) (sym joined_more);
        taken = K.taken ∙ ap (λ n. n % 2 ^ 64) (sym gone_same);
        sum = omega (arith, joined_more, gone_same, length-append x.row (f ∷ []), K.sum);
      }
    where
      joined_more : length (joined (h ++ (Join f ∷ []))) ≡ length (joined h) + 1
      joined_more = rw (joined_append h (Join f ∷ [])) (length-append (joined h) (f ∷ []))

      gone_same : length (gone [] (h ++ (Join f ∷ []))) ≡ length (gone [] h)
      gone_same = rw (gone_append [] h (Join f ∷ []), append-nil (gone [] h))

      counts : (rank : ℕ) → rank < 8 → get_or (set x.tally.waiting (priority f) (one_more (get_or x.tally.waiting (priority f) 0))) rank 0 ≡ count (of rank) (x.row ++ (f ∷ []))
      counts rank l =
          elim (ℕ_discrete rank (priority f)) [
            | yes e ↦
                let n = count_few (of (priority f)) x.row in
                let same = K.waiting (priority f) (rank_small f) in
                rw (e, get_or-set_same x.tally.waiting (priority f) (one_more (get_or x.tally.waiting (priority f) 0)) 0 (omega (arith, K.eight, rank_small f)), count_append (of (priority f)) x.row (f ∷ []), eq-eqb (priority f) (priority f) refl, same) (omega (arith, n))
            | no ne ↦
                rw (get_or-set_other x.tally.waiting (priority f) rank (one_more (get_or x.tally.waiting (priority f) 0)) 0 ne, count_append (of rank) x.row (f ∷ []), ne_eqb (priority f) rank (λ z. ne (sym z))) (K.waiting rank l ∙ omega arith)
          ]

  -- ---- a take that gives a frame
  leaves : (f : Frame) (before behind : List Frame) → x.row ≡ before ++ f ∷ behind → pull priority x.row ≡ Some (record { frame = f; others = before ++ behind })
      → Kept (record { row = before ++ behind; tally = counted_out (priority f) x.tally }) (h ++ (Take ∷ []))
  unfolding counted_out
  leaves f before behind split gives =
      record {
        row = row_append [] h (Take ∷ []) ∙ rw (K.row, gives);
        few = omega (arith, shorter, K.few);
        eight = length-set x.tally.waiting (priority f) _ ∙ K.eight;
        waiting = counts;
        accepted = K.accepted ∙ ap (λ n. n % 2 ^ 64) (sym joined_same);
        taken = more (length (gone [] h)) x.tally.taken K.taken ∙ ap (λ n. n % 2 ^ 64) (sym gone_more);
        sum = omega (arith, joined_same, gone_more, shorter, K.sum);
      }
    where
      shorter : length x.row ≡ length (before ++ behind) + 1
      shorter = rw split (omega (arith, length-append before (f ∷ behind), length-append before behind))

      joined_same : length (joined (h ++ (Take ∷ []))) ≡ length (joined h)
      joined_same = rw (joined_append h (Take ∷ []), append-nil (joined h))

      gone_more : length (gone [] (h ++ (Take ∷ []))) ≡ length (gone [] h) + 1
      gone_more = rw (gone_append [] h (Take ∷ []), K.row, gives) (length-append (gone [] h) (f ∷ []))

      parts : (rank : ℕ) → count (of rank) x.row ≡ count (of rank) (before ++ behind) + cond (of rank f) 1 0
      parts rank = rw split (omega (arith, count_append (of rank) before (f ∷ behind), count_append (of rank) before behind))

      counts : (rank : ℕ) → rank < 8 → get_or (set x.tally.waiting (priority f) (one_less (get_or x.tally.waiting (priority f) 0))) rank 0 ≡ count (of rank) (before ++ behind)
      counts rank l =
          elim (ℕ_discrete rank (priority f)) [
            | yes e ↦
                let n = count_few (of (priority f)) x.row in
                let one = rw (eq-eqb (priority f) (priority f) refl) at (parts (priority f)) in
                rw (e, get_or-set_same x.tally.waiting (priority f) (one_less (get_or x.tally.waiting (priority f) 0)) 0 (omega (arith, K.eight, rank_small f)), K.waiting (priority f) (rank_small f)) (omega (arith, n, one, K.few))
            | no ne ↦
                let None = rw (ne_eqb (priority f) rank (λ z. ne (sym z))) at (parts rank) in
                rw (get_or-set_other x.tally.waiting (priority f) rank (one_less (get_or x.tally.waiting (priority f) 0)) 0 ne) (K.waiting rank l ∙ omega (arith, None))
          ]

  -- ---- a take of an empty row
  empties : x.row ≡ [] → pull priority x.row ≡ None → Kept (record { row = []; tally = x.tally }) (h ++ (Take ∷ []))
  empties empty gives = record {
    row = row_append [] h (Take ∷ []) ∙ rw (K.row, gives);
    few = omega arith;
    eight = K.eight;
    waiting = λ rank l. rw empty at (K.waiting rank l);
    accepted = K.accepted ∙ ap (λ n. n % 2 ^ 64) (sym joined_same);
    taken = K.taken ∙ ap (λ n. n % 2 ^ 64) (sym gone_same);
    sum = rw (joined_same, gone_same) (rw empty at K.sum);
  }
    where
      joined_same : length (joined (h ++ (Take ∷ []))) ≡ length (joined h)
      joined_same = rw (joined_append h (Take ∷ []), append-nil (joined h))

      gone_same : length (gone [] (h ++ (Take ∷ []))) ≡ length (gone [] h)
      gone_same = rw (gone_append [] h (Take ∷ []), K.row, gives, append-nil (gone [] h))

  pub kept_taking : Kept (taking x) (h ++ (Take ∷ []))
  kept_taking = go (pulls priority x.row)
    where
      go : Pulls priority x.row → Kept (taking x) (h ++ (Take ∷ []))
      go (nothing empty gives) = rw gives (empties empty gives)
      go (first before behind f split gives above below) = rw gives (leaves f before behind split gives)

-- ---- frames are sent, one after the other
pub kept_sent : (x : Queued) (h : List (Event Frame)) → Kept x h → (fs : List Frame) → Kept (sent_all x fs) (h ++ map Join (accepted size x.row fs))
kept_sent x h K [] = rw (append-nil h) K
kept_sent x h K (f ∷ fs) = go (room size x.row) refl (λ y g J. kept_sent y g J fs)
  where
    go : (b : Bool) → room size x.row ≡ b → ((y : Queued) (g : List (Event Frame)) → Kept y g → Kept (sent_all y fs) (g ++ map Join (accepted size y.row fs)))
        → Kept (sent_all (joined_to x f) fs) (h ++ map Join (accepted size x.row (f ∷ fs)))
    go true e ih = rw (e, ← (append_assoc h (Join f ∷ []) (map Join (accepted size (x.row ++ (f ∷ [])) fs)))) (ih _ _ (joins K f (ltb-true (length x.row) size e)))
    go false e ih = rw e (ih x h K)

-- ---- a call, by what it asks and sends
pub kept_next : {x : Queued} {h : List (Event Frame)} → Kept x h → (a : Option ℕ) (q : ℕ) (fs : List Frame) → Kept (queue_next a q x fs) (h ++ happens size a q x.row fs)
kept_next {x} {h} K None q fs = kept_sent x h K fs
kept_next {x} {h} K (Some p) q fs = go (eqb p q)
  where
    go : (b : Bool) → Kept (cond b (taking x) x) (h ++ cond b (Take ∷ []) [])
    go true = kept_taking K
    go false = rw (append-nil h) K
