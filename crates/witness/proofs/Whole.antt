-- What `replay` did obeys demand 3: its contract gives the whole claim for the list of calls that its words say. Assumes nothing.
use mathlib.Core.Path.{◌≡◌, refl}
use mathlib.Core.List.{List}
use Prim.Native.Nat.{ℕ}
use Rattle.delivery.specs.Calls.{answers_of}
use Rattle.unit.specs.Count.{count_of}
use Rattle.unit.specs.PowerOn.{fresh}
use Rattle.demand_3.specs.Demand3.{next, answer, Demand3}
use Rattle.demand_3.proofs.Demand3.{from_book}
use Rattle.witness.specs.Replay.{calls_of, count, Replaying}

pub replay_obeys : {before after calls bytes lent back : List ℕ} {name preferred ports lentReply r : ℕ} → Replaying before after name preferred ports calls bytes lentReply lent back r
    → (r ≡ 2 → ⊥) → Demand3 (count_of ports) name preferred (calls_of calls bytes lentReply (count calls lent))
    (answers_of (next (count_of ports)) (answer (count_of ports)) (fresh (count_of ports) name preferred) (calls_of calls bytes lentReply (count calls lent))) after
replay_obeys {before} {after} {calls} {bytes} {lent} {back} {name} {preferred} {ports} {lentReply} R n =
    from_book (count_of ports) name preferred (calls_of calls bytes lentReply (count calls lent))
    (answers_of (next (count_of ports)) (answer (count_of ports)) (fresh (count_of ports) name preferred) (calls_of calls bytes lentReply (count calls lent))) after refl (R.state n)
