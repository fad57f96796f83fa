-- If one call follows the model, so does every list of calls, by induction on the list. Assumes nothing.
use mathlib.Core.Path.{◌≡◌, refl}
use mathlib.Core.List.{List, [], ◌∷◌, ◌++◌}
use lib.ListN.{length}
use Rattle.delivery.specs.Calls.{Run, stop, call, after_calls, answers_of, Simulates, Follows}

pub after_append : {M C : Type 0} (next : M → C → M) (m : M) (ks js : List C) → after_calls next m (ks ++ js) ≡ after_calls next (after_calls next m ks) js
after_append next m [] js = refl
after_append next m (k ∷ ks) js = after_append next (next m k) ks js

-- The answer of a call in a list is the model's after the calls before it.
pub answers_append : {M C X : Type 0} (next : M → C → M) (answer : M → C → X) (m : M) (ks js : List C)
    → answers_of next answer m (ks ++ js) ≡ answers_of next answer m ks ++ answers_of next answer (after_calls next m ks) js
answers_append next answer m [] js = refl
answers_append next answer m (k ∷ ks) js = rw (answers_append next answer (next m k) ks js)

-- And there are as many answers as calls.
pub length_answers : {M C X : Type 0} (next : M → C → M) (answer : M → C → X) (m : M) (ks : List C) → length (answers_of next answer m ks) ≡ length ks
length_answers next answer m [] = refl
length_answers next answer m (k ∷ ks) = rw (length_answers next answer (next m k) ks)

module _ {U C X M : Type 0} (Made : U → C → X → U → Type 0) (Good : U → Type 0) (model_of : U → M) (next : M → C → M) (answer : M → C → X) where
  pub every_list : Simulates Made Good model_of next answer → {u v : U} {ks : List C} {xs : List X} → Good u → (run : Run Made u ks xs v)
      → Follows Made Good model_of next answer run
  every_list sim g stop = record { good = g; said = refl; moved = refl }
  every_list sim g (call m r) =
      let h = sim.step g m in
      let j = every_list sim h.good r in
      record { good = j.good; said = rw (h.said, j.said, h.moved); moved = rw (j.moved, h.moved) }
