-- The contracts of the steps inside a message: what each writes, and what it does to the model of a record.
-- Assumes nothing.
use Rattle.std.specs.Prelude.{ℕ, ◌≡◌, List, ◌++◌, length, get_or, drop}
use Rattle.replies.specs.Replies.{control_of, acknowledgment}
use Rattle.list_commands.specs.declared.Absent.{Absent}
use Rattle.unit.specs.Model.{with_rest, with_pairs, with_losses, model_of}
use Rattle.message_answers.specs.Messages.{Replied, MessageTold, nothing_told, message_answer}

-- a command was acknowledged
pub record Telling (before after : List ℕ) (number function requester : ℕ) (told : Absent) (r : MessageTold) : Type 0 where
  pub answer : r ≡ record { refusal = number; pgn = 59392; length = 8; told = told }
  pub written : after ≡ acknowledgment (control_of number) function requester ++ drop 8 before

-- a reply was written
pub record Reporting (bytes before after : List ℕ) (r : MessageTold) : Type 0 where
  pub answer : r ≡ record { refusal = 0; pgn = 60672; length = length bytes; told = nothing_told }
  pub written : after ≡ bytes ++ drop (length bytes) before

-- what a message does and is answered, and the words of the record that are as they were
pub record Replying (ports : ℕ) (before after lent back : List ℕ) (reply : Replied) (Still : ℕ → Type 0) (r : MessageTold) : Type 0 where
  pub answer : r ≡ message_answer reply (model_of ports before).seen
  pub written : back ≡ reply.written (model_of ports before).seen ++ drop (length (reply.written (model_of ports before).seen)) lent
  pub state : model_of ports after
      ≡ with_losses (with_rest (model_of ports before) (with_pairs (model_of ports before).rest reply.pairs)) (reply.losses (model_of ports before).seen.losses)
  pub refused : (reply.number ≡ 0 → ⊥) → after ≡ before
  pub others : (n : ℕ) → Still n → get_or after n 0 ≡ get_or before n 0
