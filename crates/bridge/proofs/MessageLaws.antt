-- A message as a whole call: refused, or what it asks done and answered. Assumes nothing.
use mathlib.Core.Path.{◌≡◌, refl, sym, ap, ◌∙◌}
use mathlib.Core.List.{List}
use Prim.Native.Nat.{ℕ}
use native.Mathlib.Decide.{ℕ_discrete}
use borrow.Author.Tests.{eq-eqb, ne_eqb}
use lib.ListN.{length}
use Rattle.network_message.specs.Asked.{Asked}
use Rattle.network_message.specs.Decoding.{decoded}
use Rattle.unit.specs.Model.{model_of}
use Rattle.message_answers.specs.Messages.{Replied, MessageTold, performed_by, Untouched}
use Rattle.message_answers.specs.Messages.{nothing_told}
use Rattle.bridge.specs.Calls.{silent_reply, messaged, Message, refusal, rest_after, losses_after, asks, sends, performed, Calling, Messaging}
use Rattle.refusals.specs.Refusals.{message_refusal}
use Rattle.message_answers.specs.Steps.{Replying}
use Rattle.unit.proofs.Ports.{each_none}
use Rattle.bridge.proofs.Answers.{call_refused, call_done}

-- ---- the whole call
module _ (ports : ℕ) (words lent : List ℕ) (port requester : ℕ) (payload : List ℕ) where
  abbrev outcome : Replied
  outcome = messaged ports (length words) (length lent) (model_of ports words).rest port requester payload

  done : {after back : List ℕ} {Still : ℕ → Type 0} {r : MessageTold} → outcome.number ≡ 0 → length after ≡ length words → Replying ports words after lent back outcome Still r → Calling ports words after (Message port requester payload (length lent))
  unfolding refusal performed rest_after losses_after asks sends
  done z long S = call_done z long (S.state ∙ rw (each_none ports (model_of ports words).queues))

  undone : {after back : List ℕ} {Still : ℕ → Type 0} {r : MessageTold} → (outcome.number ≡ 0 → ⊥) → Replying ports words after lent back outcome Still r → Calling ports words after (Message port requester payload (length lent))
  unfolding refusal
  undone h S = rw (S.refused h) (call_refused h)

  module _ {n : ℕ} (e : n ≡ message_refusal ports (length words) (length lent) (model_of ports words).rest port requester (length payload)) where
    silenced : (n ≡ 0 → ⊥) → outcome ≡ silent_reply n (model_of ports words).rest.pairs
    unfolding messaged
    silenced h = rw (← e, ne_eqb n 0 h)

    pub message_refused : (n ≡ 0 → ⊥) → Messaging ports words words port requester payload lent lent (record { refusal = n; pgn = 0; length = 0; told = nothing_told })
    unfolding refusal
    message_refused h = record {
      call = call_refused (λ z. h (sym (ap (λ (r : Replied). r.number) (silenced h)) ∙ z));
      answer = rw (silenced h);
      written = rw (silenced h);
      others = λ _ _. refl;
    }

    outcome_is : {command : Asked} → n ≡ 0 → command ≡ decoded ports port payload → outcome ≡ performed_by ports (model_of ports words).rest requester payload command
    unfolding messaged
    outcome_is z c = rw (← e, eq-eqb n 0 z, c)

    called : {after back : List ℕ} {Still : ℕ → Type 0} {r : MessageTold} → length after ≡ length words → Replying ports words after lent back outcome Still r → Calling ports words after (Message port requester payload (length lent))
    called long S =
        elim (ℕ_discrete outcome.number 0) [
          | yes z ↦ done z long S
          | no h ↦ undone h S
        ]

    pub message_done : {after back : List ℕ} {command : Asked} {r : MessageTold} → n ≡ 0 → command ≡ decoded ports port payload → length after ≡ length words
        → Replying ports words after lent back (performed_by ports (model_of ports words).rest requester payload command) (Untouched ports command) r → Messaging ports words after port requester payload lent back r
    message_done z c long R =
        let S = rw (← (outcome_is z c)) at R in
        record { call = called long S; answer = S.answer; written = S.written; others = rw c at R.others }
