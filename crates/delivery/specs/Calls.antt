-- A list of calls on one unit, made by the real functions, and a model (the book of docs/RULES.md, "Delivery") that is fed the calls' arguments alone.
-- `Made u k x v`: the call k on the record u gave the answer x and left the record v, of which only the contract of the function called is known.
-- `every_list` of proofs/Calls.antt: if one call follows the model, so does every list of calls.
use Rattle.std.specs.Prelude.{◌≡◌, List, [], ◌∷◌}

-- "Each is given the unit's record as the last call left it."
pub data Run {U C X : Type 0} (Made : U → C → X → U → Type 0) : U → List C → List X → U → Type 0 where
  stop : {u : U} → Run Made u [] [] u
  call : {u v w : U} {k : C} {x : X} {ks : List C} {xs : List X} → Made u k x v → Run Made v ks xs w → Run Made u (k ∷ ks) (x ∷ xs) w

-- The model after a list of calls, and its answers.
abbrev pub after_calls : {M C : Type 0} → (M → C → M) → M → List C → M
after_calls next m [] = m
after_calls next m (k ∷ ks) = after_calls next (next m k) ks

abbrev pub answers_of : {M C X : Type 0} → (M → C → M) → (M → C → X) → M → List C → List X
answers_of next answer m [] = []
answers_of next answer m (k ∷ ks) = answer m k ∷ answers_of next answer (next m k) ks

-- `Good` is what the functions keep of a record, and what they require; `model_of` is a record's meaning.
module _ {U C X M : Type 0} (Made : U → C → X → U → Type 0) (Good : U → Type 0) (model_of : U → M) (next : M → C → M) (answer : M → C → X) where
  -- One call on a good record leaves a good record, answers as the model does, and moves the record as the model moves.
  pub record Step {u v : U} {k : C} {x : X} (made : Made u k x v) : Type 0 where
    pub good : Good v
    pub said : x ≡ answer (model_of u) k
    pub moved : model_of v ≡ next (model_of u) k

  pub record Simulates : Type 0 where
    pub step : {u v : U} {k : C} {x : X} → Good u → (made : Made u k x v) → Step made

  -- And so does a list of calls.
  pub record Follows {u v : U} {ks : List C} {xs : List X} (run : Run Made u ks xs v) : Type 0 where
    pub good : Good v
    pub said : xs ≡ answers_of next answer (model_of u) ks
    pub moved : model_of v ≡ after_calls next (model_of u) ks
