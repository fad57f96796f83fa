-- Ticket 1, "long messages over the wire": one session, what a block of 263 words means, and what is asked of it. Of the
-- packets only those that are there mean anything, so that nothing of another message is ever in one.
-- Assumes nothing.
use Rattle.std.specs.Prelude.{ℕ, ◌+◌, ◌%◌, min, Bool, List, [], ◌∷◌, ◌++◌, length, take, drop, get_or, leb, eqb}
use Rattle.packets.specs.Packets.{packets_of}
use Rattle.packets.specs.Words.{together_in}

abbrev pub head_length : ℕ
head_length = 8

abbrev pub packet_words : ℕ
packet_words = 255

abbrev pub block_length : ℕ
block_length = head_length + packet_words

-- "9 to 1,785 bytes"
abbrev pub most_bytes : ℕ
most_bytes = 1785

pub record Session : Type 0 where
  -- 1 receiving, 2 sending
  pub way : ℕ
  pub peer : ℕ
  -- the bytes of its message
  pub size : ℕ
  -- the number of the last packet that was asked for
  pub through : ℕ
  -- how many packets may be asked for at a time
  pub limit : ℕ
  -- how many milliseconds without an answer end it, and since when
  pub timer : ℕ
  pub since : ℕ
  -- those that are there, each the word of its frame
  pub packets : List ℕ

-- every block means a session. Word 3 says how many packets are there, all 255 where it says more
unfoldable pub session_of : List ℕ → Session
session_of block = record {
  way = min (get_or block 0 0) 2;
  peer = get_or block 1 0 % 256;
  size = min (get_or block 2 0) most_bytes;
  through = get_or block 4 0;
  limit = min (get_or block 5 0) 16;
  timer = get_or block 6 0;
  since = get_or block 7 0;
  packets = take (get_or block 3 0) (drop head_length block);
}

-- its packets put together
unfoldable pub message : Session → List ℕ
message s = together_in s.size s.packets

-- the number of the packet that is to come
abbrev pub next : Session → ℕ
next s = length s.packets + 1

-- that packet is the last of the message
abbrev pub is_last : Session → Bool
is_last s = eqb (next s) (packets_of s.size)

-- it is the last that was asked for, or past it
abbrev pub is_asked : Session → Bool
is_asked s = leb s.through (next s)

-- "at their limit": the time that has gone by is the timer's, or more
abbrev pub is_due : ℕ → Session → Bool
is_due time s = leb (s.since + s.timer) time

-- ---- what is done
abbrev pub opened : ℕ → ℕ → ℕ → ℕ → ℕ → ℕ → ℕ → Session
opened way peer size through limit timer since =
    record { way = way; peer = peer; size = size; through = through; limit = limit; timer = timer; since = since; packets = [] }

abbrev pub with_packets : List ℕ → Session → Session
with_packets ps s =
    record { way = s.way; peer = s.peer; size = s.size; through = s.through; limit = s.limit; timer = s.timer; since = s.since; packets = ps }

-- one packet more; a 256th is none
unfoldable pub with_packet : ℕ → Session → Session
with_packet word s = with_packets (take packet_words (s.packets ++ (word ∷ []))) s

-- a timer starts
unfoldable pub timed : ℕ → ℕ → Session → Session
timed timer since s =
    record { way = s.way; peer = s.peer; size = s.size; through = s.through; limit = s.limit; timer = timer; since = since; packets = s.packets }

-- packets up to a number are asked for
unfoldable pub asking : ℕ → Session → Session
asking through s =
    record { way = s.way; peer = s.peer; size = s.size; through = through; limit = s.limit; timer = s.timer; since = s.since; packets = s.packets }
