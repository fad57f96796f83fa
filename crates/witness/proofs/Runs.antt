-- A list of calls: one more call, and its answer behind the others. Assumes nothing.
use mathlib.Core.Path.{◌≡◌, refl, sym, ap, ◌∙◌}
use mathlib.Core.List.{List, [], ◌∷◌, ◌++◌, append_assoc, append-nil}
use Prim.Native.Nat.{ℕ, zero, suc, ◌+◌, ◌*◌}
use native.Mathlib.Nat.{mul-suc, zero-add}
use native.Mathlib.Numerals.{add-one}
use native.Mathlib.Omega.{arith}
use lib.ListN.{length, take, drop, length-append}
use lib.Seq.{take_at, drop_at, drop-drop}
use Rattle.storage.specs.Blocks.{block_at, blocks_of}
use Rattle.storage.proofs.Blocks.{length_blocks}
use Rattle.storage.proofs.Parts.{back}
use Rattle.delivery.specs.Calls.{after_calls, answers_of}
use Rattle.delivery.proofs.Calls.{after_append, answers_append, length_answers}
use Rattle.std.specs.Prelude.{Some, None}
use Rattle.bridge.specs.Told.{Refused, Took, UnitTold, Told}
use Rattle.unit.specs.Count.{count_of, ports_of}
use Rattle.unit.specs.Model.{Model, model_of, record_length}
use Rattle.unit.specs.PowerOn.{PoweringOn}
use Rattle.demand_3.specs.Demand3.{Answer, ToFrame, ToTake, ToMessage, ToStart, ToQuiet, ToUnit, ToCounts, next, answer}
use Rattle.unit.proofs.Own.{own_ports}
use Rattle.demand_3.proofs.Demand3.{power_on_goes}
use Rattle.witness.specs.Encoding.{call_words, answer_words, call_of, code, codes}
use Rattle.witness.specs.Replay.{Stepping, calls_of, Running, count, Replaying}

-- ---- words
code_long : (x : Answer) → length (code x) ≡ answer_words
unfolding code
code_long (ToFrame r) = refl
code_long (ToTake (Refused number)) = refl
code_long (ToTake (Took (Some f))) = refl
code_long (ToTake (Took None)) = refl
code_long (ToMessage r reply) = refl
code_long (ToStart r) = refl
code_long (ToQuiet number) = refl
code_long (ToUnit (UnitTold.Refused number)) = refl
code_long (ToUnit (Told own)) = refl
code_long (ToCounts r) = refl

codes_long : (xs : List Answer) → length (codes xs) ≡ answer_words * length xs
codes_long [] = refl
codes_long (x ∷ xs) = length-append (code x) (codes xs) ∙ omega (arith, code_long x, codes_long xs)

codes_append : (xs ys : List Answer) → codes (xs ++ ys) ≡ codes xs ++ codes ys
codes_append [] ys = refl
codes_append (x ∷ xs) ys = rw (codes_append xs ys) (sym (append_assoc (code x) (codes xs) (codes ys)))

-- one more block
blocks_more : {M : Type 0} (meaning : List ℕ → M) (start size n : ℕ) (words : List ℕ)
    → blocks_of start size (suc n) meaning words ≡ blocks_of start size n meaning words ++ (meaning (block_at start size n words) ∷ [])
unfolding blocks_of block_at
blocks_more meaning start size zero words = let e : start ≡ start + size * 0 = omega arith in ap (λ a. meaning (take size (drop a words)) ∷ []) e
blocks_more meaning start size (suc n) words =
    let e : start + size + size * n ≡ start + size * suc n = omega (arith, mul-suc size n) in
    ap (λ l. meaning (take size (drop start words)) ∷ l) (blocks_more meaning (start + size) size n words ∙ rw e)

-- one more call
more : (calls bytes : List ℕ) (lentReply i : ℕ)
    → calls_of calls bytes lentReply (i + 1) ≡ calls_of calls bytes lentReply i ++ (call_of bytes lentReply (take call_words (drop (call_words * i) calls)) ∷ [])
unfolding block_at
more calls bytes lentReply i = rw (add-one i) (blocks_more (call_of bytes lentReply) 0 call_words i calls ∙ rw (zero-add (call_words * i)))

-- ---- the loop
-- an answer put behind the others
behind : (f out lent : List ℕ) (i : ℕ) → length f ≡ answer_words * i
    → back (answer_words * i) answer_words (f ++ drop (answer_words * i) lent) out ≡ (f ++ out) ++ drop (answer_words * (i + 1)) lent
behind f out lent i l =
    let e : answer_words * i + answer_words ≡ answer_words * (i + 1) = omega arith in
    rw (
      take_at f (drop (answer_words * i) lent) (answer_words * i) l,
      drop_at f (drop (answer_words * i) lent) (answer_words * i) l,
      drop-drop answer_words (answer_words * i) lent,
      e,
    )
    (sym (append_assoc f out (drop (answer_words * (i + 1)) lent)))

module _ {words₀ calls bytes : List ℕ} {lentReply : ℕ} {lent : List ℕ} where
  pub running_start : Running words₀ words₀ calls bytes lentReply lent lent 0
  unfolding blocks_of
  running_start = record { state = refl; answers = refl; ports = refl }

  pub running_step : {words words' answers out : List ℕ} {i : ℕ} → Running words₀ words calls bytes lentReply lent answers i
      → Stepping words words' (call_of bytes lentReply (take call_words (drop (call_words * i) calls))) out
      → Running words₀ words' calls bytes lentReply lent (back (answer_words * i) answer_words answers out) (i + 1)
  running_step {words} {words'} {answers} {out} {i} r s =
      let ports = ports_of words₀ in
      let m = model_of ports words₀ in
      let ks = calls_of calls bytes lentReply i in
      let k = call_of bytes lentReply (take call_words (drop (call_words * i) calls)) in
      let long : length (codes (answers_of (next ports) (answer ports) m ks)) ≡ answer_words * i =
      codes_long (answers_of (next ports) (answer ports) m ks) ∙ rw (length_answers (next ports) (answer ports) m ks, length_blocks (call_of bytes lentReply) call_words 0 i calls) in
      let told : out ≡ code (answer ports (after_calls (next ports) m ks) k) = rw (r.ports, r.state) at s.answer in
      record {
        state = (rw r.ports at s.state) ∙ rw (r.state, more calls bytes lentReply i) (sym (after_append (next ports) m ks (k ∷ [])));
        answers =
            rw (
              r.answers,
              more calls bytes lentReply i,
              answers_append (next ports) (answer ports) m ks (k ∷ []),
              codes_append (answers_of (next ports) (answer ports) m ks) (answer ports (after_calls (next ports) m ks) k ∷ []),
              append-nil (code (answer ports (after_calls (next ports) m ks) k)),
              ← told,
            )
            (behind (codes (answers_of (next ports) (answer ports) m ks)) out lent i long);
        ports = s.ports ∙ r.ports;
      }

-- ---- from power-on on
module _ {w u : List ℕ} {name preferred ports r : ℕ} (p : PoweringOn ports w u name preferred r) where
  -- the record has the ports that power-on gave it, and is of their length
  powered_ports : (r ≡ 2 → ⊥) → ports_of u ≡ count_of ports
  powered_ports n = sym (own_ports (count_of ports) u) ∙ ap (λ (m : Model). m.rest.own.ports) (p.state n)

  pub powered_long : (r ≡ 2 → ⊥) → length u ≡ record_length (ports_of u)
  powered_long n = rw (powered_ports n) (p.long ∙ power_on_goes ports (length w) (λ e. n (p.answer ∙ e)))

  pub not_replayed : {calls bytes : List ℕ} {lentReply : ℕ} {lent : List ℕ} → r ≡ 2 → Replaying w u name preferred ports calls bytes lentReply lent lent r
  not_replayed z = record { number = p.answer; state = λ n. absurd (n z); answers = λ n. absurd (n z); refused = λ z. (p.refused z, refl) }

  pub replayed : {v calls bytes : List ℕ} {lentReply : ℕ} {lent back : List ℕ} {k : ℕ} → (r ≡ 2 → ⊥) → k ≡ count calls lent
      → Running u v calls bytes lentReply lent back k → Replaying w v name preferred ports calls bytes lentReply lent back r
  replayed n e l = record {
    number = p.answer;
    state = λ _. rw (powered_ports n, p.state n, e) at l.state;
    answers = λ _. rw (powered_ports n, p.state n, e) at l.answers;
    refused = λ z. absurd (n z);
  }
