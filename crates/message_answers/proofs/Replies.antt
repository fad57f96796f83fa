-- What is answered to a message: a reply, or an acknowledgment of what was done or refused. Assumes nothing.
use mathlib.Core.Path.{◌≡◌, refl, sym, ◌∙◌}
use mathlib.Core.Bool.{Bool, true, false, true≢false}
use mathlib.Core.Logic.{⊎_elim}
use mathlib.Core.List.{List}
use Prim.Native.Nat.{ℕ, ◌+◌, ◌-◌, ◌≤◌, ◌<◌}
use borrow.Author.Tests.{ne_eqb, eqb-true, eqb-false, ltb-true, ltb-false}
use lib.Dec.{eqb, ltb}
use native.Mathlib.Omega.{arith}
use Rattle.entries.specs.Entries.{listed, entries_of}
use Rattle.filter.specs.Filter.{clear}
use Rattle.network_message.specs.Commands.{Ports}
use Rattle.network_message.specs.Decoding.{function_of, between, is_held}
use Rattle.replies.specs.Replies.{control_of, acknowledgment, Writing}
use Rattle.filter_commands.specs.declared.pairs.Change.{Change}
use Rattle.network_message.specs.declared.Wrong.{Wrong}
use Rattle.network_message.specs.Asked.{wrong_number, wrong_at}
use Rattle.message_answers.specs.Answers.{denied_by, denied_number, denied_told}
use Rattle.unit.specs.Model.{Seen, losses_from, model_of}
use Rattle.message_answers.specs.Messages.{MessageTold, nothing_told, wrong_told, absent_told, acknowledged, replied, reset_at, changed_by, cleared_by}
use Rattle.list_commands.specs.Commands.{Beside, any_named}
use Rattle.list_commands.specs.declared.Absent.{Absent}
use Rattle.filter_commands.specs.Pairs.{holds_of}
use Rattle.filter_commands.specs.declared.pairs.Question.TheVariants.{Lacks}
use Rattle.list_commands.proofs.Searching.{refused_17}
use Rattle.record.specs.Steps.{LossesChanging}
use Rattle.list_commands.specs.Steps.{PairsChanging, Commanding}
use Rattle.message_answers.specs.Steps.{Telling, Reporting, Replying}

-- a request names one other port
pub one_port_lem : {ports from to : ℕ} → ports ≤ 8 → Ports ports from to → to ≤ ports → 1 ≤ to
one_port_lem few P h = ⊎_elim (λ p. p.0) (λ e. absurd (omega (arith, e))) P.other

-- a parameter that is held fits a byte
far_none : (parameter : ℕ) → 256 ≤ parameter → is_held parameter ≡ false
unfolding listed
far_none parameter far =
    rw (ne_eqb 1 parameter (λ e. omega arith), ne_eqb 2 parameter (λ e. omega arith), ne_eqb 3 parameter (λ e. omega arith), ne_eqb 9 parameter (λ e. omega arith))

pub held_small : (parameter : ℕ) → is_held parameter ≡ true → parameter < 256
held_small parameter h = go (ltb parameter 256) refl
  where
    go : (b : Bool) → ltb parameter 256 ≡ b → parameter < 256
    go true e = ltb-true parameter 256 e
    go false e = let z : true ≡ false = sym h ∙ far_none parameter (ltb-false parameter 256 e) in absurd (true≢false z)

-- a payload that is refused is denied for the same reason
pub number_by : (wrong : Wrong) → denied_number (denied_by wrong) ≡ wrong_number wrong
number_by (Wrong.Entry entry) = refl
number_by (Wrong.Refused refusal) = refl

pub told_by : (wrong : Wrong) → denied_told (denied_by wrong) ≡ wrong_told (wrong_at wrong)
told_by (Wrong.Entry entry) = refl
told_by (Wrong.Refused refusal) = refl

pub reported_of : {bytes before after : List ℕ} {most n : ℕ} → Writing bytes before after most n → Reporting bytes before after (record { refusal = 0; pgn = 60672; length = n; told = nothing_told })
reported_of W = record { answer = rw W.answer; written = W.written }

module _ {ports : ℕ} {words lent back : List ℕ} {Still : ℕ → Type 0} {r : MessageTold} where
  pub reply_given : (bytes : Seen → List ℕ) → Reporting (bytes (model_of ports words).seen) lent back r → Replying ports words words lent back (replied bytes (model_of ports words).rest.pairs) Still r
  reply_given bytes R = record { answer = R.answer; written = R.written; state = refl; refused = λ _. refl; others = λ _ _. refl }

  pub refusal_told : (number entry requester : ℕ) (payload : List ℕ) → Telling lent back number (function_of payload) requester (wrong_told entry) r → Replying ports words words lent back (acknowledged number requester payload (model_of ports words).rest.pairs (wrong_told entry)) Still r
  unfolding acknowledgment
  refusal_told number entry requester payload T = record { answer = T.answer; written = T.written; state = refl; refused = λ _. refl; others = λ _ _. refl }

module _ {ports : ℕ} {words lent back : List ℕ} {r : MessageTold} where
  -- a counter was reset
  pub reset_told : {after : List ℕ} (i requester : ℕ) (payload : List ℕ) → LossesChanging ports words after i (λ n. 0) → Telling lent back 0 (function_of payload) requester nothing_told r
      → Replying ports words after lent back (reset_at i requester payload (model_of ports words).rest.pairs) (λ n. n ≡ losses_from ports + i → ⊥) r
  unfolding acknowledgment control_of
  reset_told i requester payload C T = record { answer = T.answer; written = T.written; state = C.state; refused = λ h. absurd (h refl); others = C.others }

  pub clear_told : {after : List ℕ} (requester : ℕ) (payload : List ℕ) (from to : ℕ) → PairsChanging ports words after from to (λ _. clear) → Telling lent back 0 (function_of payload) requester nothing_told r
      → Replying ports words after lent back (cleared_by ports (model_of ports words).rest requester payload from to) (Beside ports from to) r
  unfolding acknowledgment control_of
  clear_told requester payload from to P T = record { answer = T.answer; written = T.written; state = P.state; refused = λ h. absurd (h refl); others = P.others }

  pub change_told : {after : List ℕ} {n : ℕ} {told : Absent} (requester : ℕ) (payload : List ℕ) (change : Change) (from to start end : ℕ)
      → Commanding ports words after from to change (entries_of (between start end payload)) n
      → ((n ≡ 17 → any_named ports (ports - 1) (holds_of Lacks (entries_of (between start end payload))) from to (model_of ports after).rest.pairs ≡ true) → told ≡ absent_told ports n (entries_of (between start end payload)) from to (model_of ports after).rest.pairs)
      → Telling lent back n (function_of payload) requester told r
      → Replying ports words after lent back (changed_by ports (model_of ports words).rest requester payload change from to start end) (Beside ports from to) r
  unfolding acknowledgment absent_told
  change_told {after} {n} {told} requester payload change from to start end C A T = record {
    answer = rw (← C.answer, ← (told_is (eqb n 17) refl)) T.answer;
    written = rw (← C.answer) T.written;
    state = C.state;
    refused = λ h. C.refused (λ z. h (sym C.answer ∙ z));
    others = C.others;
  }
    where
      -- what is told is read on the record as the command left it, and with 17 it left it as it was
      told_is : (b : Bool) → eqb n 17 ≡ b → told ≡ absent_told ports n (entries_of (between start end payload)) from to (model_of ports words).rest.pairs
      told_is true e =
          let z = eqb-true n 17 e in
          let still : after ≡ words = C.refused (λ w. omega arith) in
          rw still at (A (λ _. rw still (refused_17 ports change (entries_of (between start end payload)) from to (model_of ports words).rest.pairs (sym C.answer ∙ z))))
      told_is false e = A (λ z. absurd (eqb-false n 17 e z)) ∙ rw e
