-- The sessions of every port behind the time that was last told: a word, and 1,053 words for each port.
-- Assumes nothing.
use Rattle.std.specs.Prelude.{ℕ, ◌+◌, ◌*◌, max, ◌≡◌, List, [], get_or, replicate}
use Rattle.storage.specs.Blocks.{blocks_of}
use Rattle.session.specs.Session.{Session}
use Rattle.sessions.specs.Sessions.{port_length, talk_of}

abbrev pub region_length : ℕ → ℕ
region_length ports = 1 + port_length * ports

-- in milliseconds, "0 at power-on"
abbrev pub time_of : List ℕ → ℕ
time_of words = get_or words 0 0

-- each port's sessions
unfoldable pub talks_of : ℕ → List ℕ → List (List Session)
talks_of ports words = blocks_of 1 port_length ports talk_of words

-- "an earlier time counts as the last"
pub record Telling (before after : List ℕ) (ports told : ℕ) : Type 0 where
  pub time : time_of after ≡ max (time_of before) told
  pub talks : talks_of ports after ≡ talks_of ports before

-- "A unit that becomes Lost drops its sessions": those of every port; the time goes on
pub record Dropping (before after : List ℕ) (ports : ℕ) : Type 0 where
  pub time : time_of after ≡ time_of before
  pub talks : talks_of ports after ≡ replicate ports []
