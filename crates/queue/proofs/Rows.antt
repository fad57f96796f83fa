-- The row of a queue moves by the rules of `delivery`, whatever is counted. Assumes nothing.
use Rattle.std.proofs.Common.{◌≡◌, ℕ, Bool, true, false, cond, eqb, List, [], ◌∷◌, ◌++◌, refl}
use Rattle.std.specs.Prelude.{Option, None, Some}
use Rattle.delivery.specs.Row.{pull, kept}
use Rattle.delivery.specs.Unit.{join_all, row_next}
use Rattle.queue.specs.declared.Frame.{Frame}
use Rattle.queue.specs.Queue.{size, priority, Queued, joined, taking, sent_all, queue_next}

pub row_sent : (x : Queued) (fs : List Frame) → (sent_all x fs).row ≡ join_all size x.row fs
row_sent x [] = refl
row_sent x (f ∷ fs) = row_sent (joined x f) fs

pub row_next_lem : (a : Option ℕ) (q : ℕ) (x : Queued) (fs : List Frame) → (queue_next a q x fs).row ≡ row_next priority size a q x.row fs
row_next_lem None q x fs = row_sent x fs
row_next_lem (Some p) q x fs = go (eqb p q)
  where
    go : (b : Bool) → (cond b (taking x) x).row ≡ cond b (kept (pull priority x.row)) x.row
    go true = refl
    go false = refl

pub sent_append : (x : Queued) (fs gs : List Frame) → sent_all x (fs ++ gs) ≡ sent_all (sent_all x fs) gs
sent_append x [] gs = refl
sent_append x (f ∷ fs) gs = sent_append (joined x f) fs gs
