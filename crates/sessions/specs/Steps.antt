-- What the steps of a data packet promise one another. Only private functions cite these; the rows are in `Heard.antt`.
use Rattle.std.specs.Prelude.{ℕ, ◌+◌, ◌*◌, ◌≡◌, List, ◌++◌, length, take, drop, get_or, set}
use Rattle.session.specs.Session.{block_length, with_packet, message}
use Rattle.sessions.specs.declared.Data.{Data}
use Rattle.sessions.specs.Sessions.{talk_of, none, remove_at}
use Rattle.sessions.specs.Heard.{asked_next, asked, ask_of}

-- the block at the front of some words was changed in place
pub record LendingFirst (R : List ℕ → Unit {0} → List ℕ → Type 0) (before after : List ℕ) : Type 0 where
  pub block : List ℕ
  pub changed : R (take block_length before) tt block
  pub back : after ≡ block ++ drop block_length before

-- block i of a port
pub record Lending (R : List ℕ → Unit {0} → List ℕ → Type 0) (i : ℕ) (before after : List ℕ) : Type 0 where
  pub block : List ℕ
  pub long : length block ≡ block_length
  pub changed : R (take block_length (drop (1 + block_length * i) before)) tt block
  pub back : after ≡ take (1 + block_length * i) before ++ (block ++ drop block_length (drop (1 + block_length * i) before))

pub record AskingNext (before after : List ℕ) (i time : ℕ) (r : Data) : Type 0 where
  pub talk : talk_of after ≡ set (talk_of before) i (asked_next time (get_or (talk_of before) i none))
  pub answer : r ≡ ask_of (get_or (talk_of before) i none)

pub record TakingAsked (before after : List ℕ) (i word time : ℕ) (r : Data) : Type 0 where
  pub talk : talk_of after ≡ set (talk_of before) i (asked word time (get_or (talk_of before) i none))
  pub answer : r ≡ ask_of (with_packet word (get_or (talk_of before) i none))

pub record TakingLast (before after : List ℕ) (i word : ℕ) (out given : List ℕ) (r : ℕ) : Type 0 where
  pub talk : talk_of after ≡ remove_at i (talk_of before)
  pub written : given ≡ message (with_packet word (get_or (talk_of before) i none)) ++ drop r out
  pub answer : r ≡ length (message (with_packet word (get_or (talk_of before) i none)))
