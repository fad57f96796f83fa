-- What `replay` promises of a whole list of calls, and its steps of one and of several. Assumes nothing.
use Rattle.std.specs.Prelude.{ℕ, ◌*◌, ◌/◌, min, ◌≡◌, List, ◌++◌, length, drop}
use Rattle.storage.specs.Blocks.{blocks_of}
use Rattle.delivery.specs.Calls.{after_calls, answers_of}
use Rattle.unit.specs.Count.{count_of, ports_of}
use Rattle.unit.specs.Model.{model_of}
use Rattle.unit.specs.PowerOn.{power_on_refusal}
use Rattle.bridge.specs.Calls.{Call}
use Rattle.unit.specs.PowerOn.{fresh}
use Rattle.demand_3.specs.Demand3.{next, answer}
use Rattle.witness.specs.Encoding.{call_words, answer_words, call_of, code, codes}

-- one call
pub record Stepping (before after : List ℕ) (k : Call) (out : List ℕ) : Type 0 where
  pub state : model_of (ports_of before) after ≡ next (ports_of before) (model_of (ports_of before) before) k
  pub answer : out ≡ code (answer (ports_of before) (model_of (ports_of before) before) k)
  pub ports : ports_of after ≡ ports_of before

-- the first n calls of the words
abbrev pub calls_of : List ℕ → List ℕ → ℕ → ℕ → List Call
calls_of calls bytes lentReply n = blocks_of 0 call_words n (call_of bytes lentReply) calls

-- n calls: the record and every answer are the book's, and the words behind the answers are untouched
pub record Running (before after calls bytes : List ℕ) (lentReply : ℕ) (lent back : List ℕ) (n : ℕ) : Type 0 where
  pub state : model_of (ports_of before) after ≡ after_calls (next (ports_of before)) (model_of (ports_of before) before) (calls_of calls bytes lentReply n)
  pub answers : back
      ≡ codes (answers_of (next (ports_of before)) (answer (ports_of before)) (model_of (ports_of before) before) (calls_of calls bytes lentReply n)) ++ drop (answer_words * n) lent
  pub ports : ports_of after ≡ ports_of before

-- as many calls as have all their words, and room for the answer
abbrev pub count : List ℕ → List ℕ → ℕ
count calls lent = min (length calls / call_words) (length lent / answer_words)

-- The whole list, from power-on on, with any NAME, preferred address and count of ports, whatever the record held.
pub record Replaying (before after : List ℕ) (name preferred ports : ℕ) (calls bytes : List ℕ) (lentReply : ℕ) (lent back : List ℕ) (r : ℕ) : Type 0 where
  pub number : r ≡ power_on_refusal ports (length before)
  pub state : (r ≡ 2 → ⊥)
      → model_of (count_of ports) after ≡ after_calls (next (count_of ports)) (fresh (count_of ports) name preferred) (calls_of calls bytes lentReply (count calls lent))
  pub answers : (r ≡ 2 → ⊥)
      → back
      ≡ codes (answers_of (next (count_of ports)) (answer (count_of ports)) (fresh (count_of ports) name preferred) (calls_of calls bytes lentReply (count calls lent)))
      ++ drop (answer_words * count calls lent) lent
  -- "A power-on refused with 2 counts as none": nothing is changed and nothing written.
  pub refused : r ≡ 2 → (after ≡ before) × (back ≡ lent)
