-- The numbers of docs/RULES.md in their literals, for every argument: the boundaries of the refusals, the replies' and the unit's frames' fixed bytes, the
-- events. Each says that the definition which the contracts cite is that number. `literals` of proofs/Literals.antt proves it.
-- Assumes nothing.
use Rattle.std.specs.Prelude.{◌≡◌, Bool, false, not, cond, ◌&&◌, ◌||◌, List, [], ◌∷◌, ◌++◌, ℕ, ◌+◌, ◌*◌, ◌/◌, ◌%◌, ◌^◌, ◌<◌, length, get_or, take, drop, ltb, leb, eqb, None}
use Rattle.identifier.specs.Identifier.{priority_of, extended_data_page_of, data_page_of, pf_of, ps_of, sa_of, has_destination, pgn_of, is_pgn, too_wide, wrong_source}
use Rattle.storage.specs.Bytes.{packed}
use Rattle.entries.specs.Entries.{listed, entries_of}
use Rattle.filter.specs.Filter.{Filter}
use Rattle.queue.specs.declared.Frame.{Frame}
use Rattle.queue.specs.Queue.{size}
use Rattle.pgn_list.specs.PgnList.{list_size}
use Rattle.addresses.specs.Table.{places, Place}
use Rattle.address_claims.specs.declared.Event.{Event}
use Rattle.address_claims.specs.Events.{event_number}
use Rattle.checks.specs.Checks.{acknowledges}
use Rattle.checks.specs.Ports.{is_port}
use Rattle.name_entries.specs.NameEntries.{NameEntry, is_there}
use Rattle.filter_commands.specs.Changes.{passes_names}
use Rattle.network_message.specs.Decoding.{function_of, pair_of, from_of, to_of, is_known, has_good_body, has_wrong_mode, longest}
use Rattle.replies.specs.Replies.{control_of, acknowledgment, list_reply, address_reply}
use Rattle.unit.specs.declared.Claim.TheVariants.{Unstarted, Claiming, Claimed, Lost}
use Rattle.unit.specs.declared.Unit.{Unit}
use Rattle.unit.specs.Count.{is_count, count_of, ports_of}
use Rattle.unit.specs.Model.{Rest, record_length}
use Rattle.unit.specs.PowerOn.{not_long}
use Rattle.unit.specs.Own.{claim_frame, cannot_claim_frame, claim_word}
use Rattle.claims.specs.Claims.{is_claim, is_request, held_under, started}
use Rattle.demand_1.specs.Demand1.{entries, name_entry}

abbrev pub three_bytes : ℕ → ℕ → ℕ → ℕ
three_bytes a b c = a + 256 * (b + 256 * c)

abbrev pub eight_bytes : ℕ → ℕ → ℕ → ℕ → ℕ → ℕ → ℕ → ℕ → ℕ
eight_bytes a b c d e f g h = a + 256 * (b + 256 * (c + 256 * (d + 256 * (e + 256 * (f + 256 * (g + 256 * h))))))

-- the entries of six bytes, of which the last three may be filling
abbrev pub one_or_two : ℕ → ℕ → ℕ → ℕ → ℕ → ℕ → List ℕ
one_or_two a b c d e f = three_bytes a b c ∷ cond (eqb d 0xFF && (eqb e 0xFF && eqb f 0xFF)) [] (three_bytes d e f ∷ [])

pub record Literals : Type 0 where
  -- "a number of ports from 2 to 8, chosen at power-on" and held in the record's fifth word; four where it is none
  pub port : (ports p : ℕ) → is_port ports p ≡ leb 1 p && leb p ports
  pub count : (n : ℕ) → is_count n ≡ leb 2 n && leb n 8
  pub ports : (words : List ℕ) → ports_of words ≡ cond (leb 2 (get_or words 4 0) && leb (get_or words 4 0) 8) (get_or words 4 0) 4
  pub at_power_on : (n : ℕ) → count_of n ≡ cond (leb 2 n && leb n 8) n 4
  -- "a list of at most 32 PGNs", "one queue of at most 32 frames"; the published length of the record, with four ports and with 2 to 8
  pub list : list_size ≡ 32
  pub queue : size ≡ 32
  pub record_words : (lent : ℕ) → not_long 4 lent ≡ not (eqb lent 1918)
  pub lengths : record_length 2 ∷ record_length 3 ∷ record_length 4 ∷ record_length 5 ∷ record_length 6 ∷ record_length 7 ∷ record_length 8 ∷ []
      ≡ 848 ∷ 1291 ∷ 1918 ∷ 2729 ∷ 3724 ∷ 4903 ∷ 6266 ∷ []
  -- "Bits 28 to 26 are the priority, 25 the extended data page, 24 the data page, 23 to 16 PF, 15 to 8 PS, 7 to 0 the source address"
  pub priority : (id : ℕ) → priority_of id ≡ id / 2 ^ 26 % 8
  pub extended : (id : ℕ) → extended_data_page_of id ≡ id / 2 ^ 25 % 2
  pub page : (id : ℕ) → data_page_of id ≡ id / 2 ^ 24 % 2
  pub pf : (id : ℕ) → pf_of id ≡ id / 2 ^ 16 % 256
  pub ps : (id : ℕ) → ps_of id ≡ id / 2 ^ 8 % 256
  pub sa : (id : ℕ) → sa_of id ≡ id % 256
  pub destination : (id : ℕ) → has_destination id ≡ ltb (id / 2 ^ 16 % 256) 240
  -- "The PGN is bits 25 to 8, with the PS byte as 0 where PF is below 240"; "a PGN if it is below 2^18 and, where its PF is below 240, its low byte is 0"
  pub pgn : (id : ℕ)
      → pgn_of id ≡ id / 2 ^ 25 % 2 * 131072 + id / 2 ^ 24 % 2 * 65536 + id / 2 ^ 16 % 256 * 256 + cond (ltb (id / 2 ^ 16 % 256) 240) 0 (id / 2 ^ 8 % 256)
  pub is_pgn_lem : (n : ℕ) → is_pgn n ≡ ltb n 262144 && (leb 240 (n / 256 % 256) || eqb (n % 256) 0)
  -- 3: "identifier 2^29 or more"; 5: "SA 255, or SA 254 in neither PGN 59904 nor PGN 60928 with PS 255"
  pub wide : (id : ℕ) → too_wide id ≡ leb 536870912 id
  pub source : (id : ℕ)
      → wrong_source id
      ≡ eqb (id % 256) 255 || (eqb (id % 256) 254 && not (eqb (pgn_of id) 59904 || (eqb (pgn_of id) 60928 && eqb (id / 2 ^ 8 % 256) 255)))
  -- "payload not 8 to 1,785 bytes", "function not listed", "Create mode not 0 or 1"
  pub long : longest ≡ 1785
  pub known : (function : ℕ) → is_known function ≡ listed function (0 ∷ 2 ∷ 3 ∷ 4 ∷ 6 ∷ 7 ∷ 64 ∷ 128 ∷ 130 ∷ 131 ∷ 133 ∷ [])
  pub mode : (function : ℕ) (payload : List ℕ) → has_wrong_mode function payload ≡ eqb function 6 && ltb 1 (get_or payload 2 0)
  pub function : (payload : List ℕ) → function_of payload ≡ get_or payload 0 0
  pub pair : (payload : List ℕ) → pair_of payload ≡ get_or payload 1 0
  pub from : (pair : ℕ) → from_of pair ≡ pair / 16
  pub to : (pair : ℕ) → to_of pair ≡ pair % 16
  -- entries are three bytes, least significant first, from byte 3, in Create from byte 4, to the last byte; in 8 bytes, after the first entry, FF to the last
  -- byte is filling and no entry: "in an 8-byte Add or Delete the last three bytes are an entry unless all are FF"
  pub added : (pair a b c d e f : ℕ) → entries (2 ∷ pair ∷ a ∷ b ∷ c ∷ d ∷ e ∷ f ∷ []) ≡ one_or_two a b c d e f
  pub deleted : (pair a b c d e f : ℕ) → entries (3 ∷ pair ∷ a ∷ b ∷ c ∷ d ∷ e ∷ f ∷ []) ≡ one_or_two a b c d e f
  pub created : (pair mode a b c : ℕ) → entries (6 ∷ pair ∷ mode ∷ a ∷ b ∷ c ∷ 0xFF ∷ 0xFF ∷ []) ≡ three_bytes a b c ∷ []
  pub longer : (function pair : ℕ) (bytes : List ℕ) → eqb function 6 ≡ false → eqb function 7 ≡ false → 6 < length bytes → entries (function ∷ pair ∷ bytes) ≡ entries_of bytes
  pub longer_create : (pair mode : ℕ) (bytes : List ℕ) → 5 < length bytes → entries (6 ∷ pair ∷ mode ∷ bytes) ≡ entries_of bytes
  pub next_entry : (a b c : ℕ) (bytes : List ℕ) → entries_of (a ∷ b ∷ c ∷ bytes) ≡ three_bytes a b c ∷ entries_of bytes
  -- ticket 4: "function 7 in 23 bytes: 7, pair byte, PGN, NAME, mask, and two of rate reduction, ignored; least significant byte first"
  pub named : (pair a b c n0 n1 n2 n3 n4 n5 n6 n7 m0 m1 m2 m3 m4 m5 m6 m7 : ℕ) (rate : List ℕ)
      → name_entry (7 ∷ pair ∷ a ∷ b ∷ c ∷ n0 ∷ n1 ∷ n2 ∷ n3 ∷ n4 ∷ n5 ∷ n6 ∷ n7 ∷ m0 ∷ m1 ∷ m2 ∷ m3 ∷ m4 ∷ m5 ∷ m6 ∷ m7 ∷ rate)
      ≡ record { pgn = three_bytes a b c; name = eight_bytes n0 n1 n2 n3 n4 n5 n6 n7; mask = eight_bytes m0 m1 m2 m3 m4 m5 m6 m7 }
  pub named_long : (payload : List ℕ) → has_good_body 7 payload ≡ eqb (length payload) 23
  -- "16 at the ninth", "one already there": PGN, NAME and mask equal
  pub ninth : (f : Filter) (e : NameEntry) → passes_names f e ≡ not (is_there e f.named) && leb 8 (length f.named)
  pub there : (e d : NameEntry) (ds : List NameEntry)
      → is_there e (d ∷ ds) ≡ (eqb d.pgn e.pgn && (eqb d.name e.name && eqb d.mask e.mask)) || is_there e ds
  pub not_there : (e : NameEntry) → is_there e [] ≡ false
  -- "9 to 17 write eight bytes, the acknowledgment with first byte 1 (2 for number 11)", 22 and 23 too; "0, the function, FF, FF, the requester's address, 00, ED, 00"
  pub told : (n : ℕ) → acknowledges n ≡ (leb 9 n && leb n 17) || (eqb n 22 || eqb n 23)
  pub control : (n : ℕ) → control_of n ≡ cond (eqb n 0) 0 (cond (eqb n 11) 2 1)
  pub acknowledged : (control function requester : ℕ)
      → acknowledgment control function requester ≡ control ∷ function ∷ 0xFF ∷ 0xFF ∷ requester ∷ 0x00 ∷ 0xED ∷ 0x00 ∷ []
  -- "Reply is 1, the pair byte", "Reply is 65, the port"
  pub listed_reply : (pair : ℕ) (f : Filter) → take 2 (list_reply pair f) ≡ 1 ∷ pair ∷ []
  pub addressed_reply : (port except : ℕ) (table : List Place) → take 2 (address_reply port except table) ≡ 65 ∷ port ∷ []
  -- "SA 0 to 253"; "a claim is PGN 60928, PS 255, length 8"; "PGN 59904, length 3, bytes 00 EE 00"
  pub addresses : places ≡ 254
  pub claim : (f : Frame) → is_claim f ≡ eqb (pgn_of f.id) 60928 && (eqb (ps_of f.id) 255 && eqb f.len 8)
  pub request : (f : Frame) → is_request f ≡ eqb (pgn_of f.id) 59904 && (eqb f.len 3 && eqb f.bytes (0x00 + 256 * (0xEE + 256 * 0x00)))
  -- "18EEFF00 (hex) plus its address, or 18EEFFFE, length 8, its NAME"
  pub claims : (own : Unit) → claim_frame own ≡ record { id = 0x18EEFF00 + own.address; len = 8; bytes = own.name }
  pub cannot : (own : Unit) → cannot_claim_frame own ≡ record { id = 0x18EEFFFE; len = 8; bytes = own.name }
  -- Start: "if the table holds the preferred address under a lower NAME, the unit becomes Lost; else .. Claiming"; Unstarted, Claiming, Claimed, Lost as words
  pub starts : (rest : Rest) → (started rest).rest.own.claim ≡ cond (held_under rest.own.name (get_or rest.table rest.own.preferred None)) Lost Claiming
  pub states : claim_word Unstarted ∷ claim_word Claiming ∷ claim_word Claimed ∷ claim_word Lost ∷ [] ≡ 0 ∷ 1 ∷ 2 ∷ 3 ∷ []
  -- none, Withdrew, Defended, Displaced, Recorded, Refreshed, TookOver, Beaten
  pub events : (old : ℕ)
      → event_number Event.Nothing ∷ event_number Event.Withdrew ∷ event_number Event.Defended ∷ event_number Event.Displaced ∷ event_number Event.Recorded
      ∷ event_number Event.Refreshed ∷ event_number (Event.TookOver old) ∷ event_number Event.Beaten ∷ []
      ≡ 0 ∷ 1 ∷ 2 ∷ 3 ∷ 4 ∷ 5 ∷ 6 ∷ 7 ∷ []
