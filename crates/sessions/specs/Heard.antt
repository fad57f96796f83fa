-- What each frame of the transport protocol does to a port's sessions and what it comes to, by the rows of the table of heard
-- frames: a data packet, a request to send, a clear to send; and what a reply over 8 bytes does. An end takes out the session
-- that sends to its sender, an abort both (`without`).
-- Assumes nothing.
use Rattle.std.specs.Prelude.{ℕ, ◌+◌, ◌-◌, ◌%◌, min, Bool, cond, ◌&&◌, ◌||◌, ◌≡◌, List, [], ◌∷◌, ◌++◌, length, drop, get_or, set, eqb, ltb, leb, Option, None, Some, Result, Ok, Err}
use Rattle.packets.specs.Packets.{packets_of}
use Rattle.packets.specs.Words.{cut_words}
use Rattle.session.specs.Session.{most_bytes, Session, opened, with_packets, next, is_last, is_asked, with_packet, timed, asking, message}
use Rattle.checks.specs.declared.refusal.Refusal.{Refusal}
use Rattle.checks.specs.declared.refusal.Refusal.TheVariants.{ManySessions, WrongPacket, WrongSize}
use Rattle.sessions.specs.declared.Data.{Data}
use Rattle.sessions.specs.declared.Data.TheVariants.{Stored, Ask, Given}
use Rattle.sessions.specs.declared.Window.{Window}
use Rattle.sessions.specs.Sessions.{most, talk_of, none, sending, remove_at}

-- "T1 to T4 are 750, 1,250, 1,250 and 1,050 ms"
abbrev pub T1 : ℕ
T1 = 750

abbrev pub T2 : ℕ
T2 = 1250

abbrev pub T3 : ℕ
T3 = 1250

abbrev pub T4 : ℕ
T4 = 1050

-- "16, which is also the limit we send"
abbrev pub window : ℕ
window = 16

-- ---- a data packet
-- "A clear to send asks for all packets left, up to the sender's limit and 16": the limit is kept as 16 at most
abbrev pub ask_count : Session → ℕ
ask_count s = min (packets_of s.size - length s.packets) s.limit

-- a packet is stored, and the next is awaited
unfoldable pub kept : ℕ → ℕ → Session → Session
kept word time s = timed T1 time (with_packet word s)

-- more packets are asked for
unfoldable pub asked_next : ℕ → Session → Session
asked_next time s = timed T2 time (asking (length s.packets + ask_count s) s)

abbrev pub asked : ℕ → ℕ → Session → Session
asked word time s = asked_next time (with_packet word s)

abbrev pub ask_of : Session → Data
ask_of s = Ask (ask_count s) (length s.packets + 1)

-- any value that goes by the rows: no session; not the next; the last; the last asked for; else
unfoldable pub by_row : {A : Type 0} → ℕ → ℕ → List Session → A → A → A → A → A → A
by_row i word ss absent other last through rest =
    cond (ltb i (length ss))
    (cond (eqb (word % 256) (next (get_or ss i none)))
    (cond (is_last (get_or ss i none)) last
    (cond (is_asked (get_or ss i none)) through rest))
    other)
    absent

-- the sessions behind it, for the one at place i: it ends with the last packet
unfoldable pub data_talk : ℕ → ℕ → ℕ → List Session → List Session
data_talk i word time ss =
    by_row i word ss ss ss (remove_at i ss) (set ss i (asked word time (get_or ss i none))) (set ss i (kept word time (get_or ss i none)))

-- "The last packet received gives it out and ends its session"
unfoldable pub data_message : ℕ → ℕ → List Session → List ℕ
data_message i word ss = by_row i word ss [] [] (message (with_packet word (get_or ss i none))) [] []

-- none where no session is there for it; 20, "wrong packet"
unfoldable pub data_answer : ℕ → ℕ → List Session → Result (Option Data) Refusal
data_answer i word ss =
    by_row i word ss (Ok None) (Err WrongPacket) (Ok (Some (Given (length (message (with_packet word (get_or ss i none)))))))
    (Ok (Some (ask_of (with_packet word (get_or ss i none))))) (Ok (Some Stored))

pub record Hearing (before after : List ℕ) (i word time : ℕ) (out given : List ℕ) (r : Result (Option Data) Refusal) : Type 0 where
  pub talk : talk_of after ≡ data_talk i word time (talk_of before)
  pub answer : r ≡ data_answer i word (talk_of before)
  pub written : given ≡ data_message i word (talk_of before) ++ drop (length (data_message i word (talk_of before))) out

-- ---- a request to send
-- 19, "no free session on that port (a second request to send replaces its sender's first)": i is the place of its sender's
-- session, where there is none how many there are
abbrev pub is_full : ℕ → Bool
is_full i = leb most i

-- else 21, "packet count and size disagree, or size not 9 to 1,785"
abbrev pub is_right : ℕ → ℕ → Bool
is_right size packets = leb 9 size && (leb size most_bytes && eqb packets (packets_of size))

abbrev pub first_count : ℕ → ℕ → ℕ
first_count packets limit = min packets (min limit window)

-- else its sender's session is dropped silently, and a new one is the youngest
unfoldable pub request_talk : ℕ → ℕ → ℕ → ℕ → ℕ → ℕ → List Session → List Session
request_talk i peer size packets limit time ss =
    cond (is_full i) ss
    (cond (is_right size packets)
    (remove_at i ss ++ (opened 1 peer size (first_count packets limit) (min limit window) T2 time ∷ []))
    ss)

unfoldable pub request_answer : ℕ → ℕ → ℕ → ℕ → Result ℕ Refusal
request_answer i size packets limit =
    cond (is_full i) (Err ManySessions) (cond (is_right size packets) (Ok (first_count packets limit)) (Err WrongSize))

pub record Requesting (before after : List ℕ) (i peer size packets limit time : ℕ) (r : Result ℕ Refusal) : Type 0 where
  pub talk : talk_of after ≡ request_talk i peer size packets limit time (talk_of before)
  pub answer : r ≡ request_answer i size packets limit

-- ---- a reply over 8 bytes
-- 19, "no free session on that port or, for a reply, one there already replying to that address"
abbrev pub is_busy : ℕ → List Session → Bool
is_busy peer ss = leb most (length ss) || ltb (sending peer ss) (length ss)

-- the session that sends it, whole
abbrev pub sending_of : ℕ → List ℕ → ℕ → Session
sending_of peer m time = with_packets (cut_words m) (opened 2 peer (length m) 0 0 T3 time)

-- ---- a clear to send
-- any value that goes by the rows: no session; held; no such packet; packets to be sent
unfoldable pub by_clear : {A : Type 0} → ℕ → ℕ → ℕ → List Session → A → A → A → A → A
by_clear i count first ss absent held past send =
    cond (ltb i (length ss))
    (cond (eqb count 0) held
    (cond (eqb first 0) past
    (cond (ltb (length (get_or ss i none).packets) first) past send)))
    absent

unfoldable pub clear_talk : ℕ → ℕ → ℕ → ℕ → List Session → List Session
clear_talk i count first time ss =
    by_clear i count first ss ss (set ss i (timed T4 time (get_or ss i none))) ss (set ss i (timed T3 time (get_or ss i none)))

-- of so many packets from `first` on at most 16, and none past the last
abbrev pub through_of : ℕ → ℕ → Session → ℕ
through_of count first s = min (first + min count window - 1) (length s.packets)

abbrev pub window_of : ℕ → ℕ → ℕ → Window
window_of at first through = record { at = at; first = first; through = through }

unfoldable pub clear_answer : ℕ → ℕ → ℕ → List Session → Option Window
clear_answer i count first ss =
    by_clear i count first ss None None None (Some (window_of i first (through_of count first (get_or ss i none))))

pub record Clearing (before after : List ℕ) (i count first time : ℕ) (r : Option Window) : Type 0 where
  pub talk : talk_of after ≡ clear_talk i count first time (talk_of before)
  pub answer : r ≡ clear_answer i count first (talk_of before)
