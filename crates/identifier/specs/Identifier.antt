-- docs/RULES.md, "Frames and numbers": a frame's identifier, field by field, and what is read off it.
-- Assumes nothing.
use Rattle.std.specs.Prelude.{ℕ, ◌+◌, ◌*◌, ◌/◌, ◌%◌, ◌^◌, Bool, cond, not, ◌&&◌, ◌||◌, ltb, leb, eqb}

-- ---- the six fields, from the highest bit down
-- bits 28 to 26: the priority, 0 is the highest rank
abbrev pub priority_of : ℕ → ℕ
priority_of id = id / 2 ^ 26 % 8

-- bit 25: the extended data page
abbrev pub extended_data_page_of : ℕ → ℕ
extended_data_page_of id = id / 2 ^ 25 % 2

-- bit 24: the data page
abbrev pub data_page_of : ℕ → ℕ
data_page_of id = id / 2 ^ 24 % 2

-- bits 23 to 16: PF
abbrev pub pf_of : ℕ → ℕ
pf_of id = id / 2 ^ 16 % 256

-- bits 15 to 8: PS
abbrev pub ps_of : ℕ → ℕ
ps_of id = id / 2 ^ 8 % 256

-- bits 7 to 0: the source address
abbrev pub sa_of : ℕ → ℕ
sa_of id = id % 256

-- ---- what the fields say together
-- where PF is below 240, PS is the destination
abbrev pub has_destination : ℕ → Bool
has_destination id = ltb (pf_of id) 240

-- the PGN: bits 25 to 8, with the PS byte as 0 where PS is the destination
unfoldable pub pgn_of : ℕ → ℕ
pgn_of id = extended_data_page_of id * 2 ^ 17 + data_page_of id * 2 ^ 16 + pf_of id * 2 ^ 8 + cond (has_destination id) 0 (ps_of id)

-- the destination; a frame without one goes to all, whose address is 255
unfoldable pub destination_of : ℕ → ℕ
destination_of id = cond (has_destination id) (ps_of id) 255

-- a number is a PGN if it is below 2^18 and, where its PF is below 240, its low byte is 0
unfoldable pub is_pgn : ℕ → Bool
is_pgn n = ltb n (2 ^ 18) && (leb 240 (n / 256 % 256) || eqb (n % 256) 0)

-- ---- what is refused ("Numbers given back")
-- number 3: identifier 2^29 or more
abbrev pub too_wide : ℕ → Bool
too_wide id = leb (2 ^ 29) id

-- a request for a PGN, and an address claim: what a source without an address, SA 254, may send
abbrev pub request : ℕ
request = 59904

abbrev pub address_claimed : ℕ
address_claimed = 60928

unfoldable pub sent_without_address : ℕ → Bool
sent_without_address id = eqb (pgn_of id) request || (eqb (pgn_of id) address_claimed && eqb (ps_of id) 255)

-- number 5: SA 255, or SA 254 in neither PGN 59904 nor PGN 60928 with PS 255
unfoldable pub wrong_source : ℕ → Bool
wrong_source id = eqb (sa_of id) 255 || (eqb (sa_of id) 254 && not (sent_without_address id))
