-- docs/RULES.md, "Network messages": what is written to the reply buffer, as lists of bytes.
-- Assumes nothing.
use Rattle.std.specs.Prelude.{cond, ◌≡◌, List, [], ◌∷◌, ◌++◌, ℕ, ◌-◌, ◌≤◌, length, drop, replicate, eqb}
use Rattle.storage.specs.Bytes.{bytes_of}
use Rattle.filter.specs.Filter.{Filter, reported_mode}
use Rattle.entries.specs.Entries.{reported}
use Rattle.addresses.specs.Table.{addresses_on, Place}

-- ---- the acknowledgment, PGN 59392
-- by the number that the command is refused with, 0 for success: "the acknowledgment with first byte 1 (2 for number 11)"
unfoldable pub control_of : ℕ → ℕ
control_of number = cond (eqb number 0) 0 (cond (eqb number 11) 2 1)

unfoldable pub acknowledgment : ℕ → ℕ → ℕ → List ℕ
acknowledgment control function requester = control ∷ function ∷ 0xFF ∷ 0xFF ∷ requester ∷ 0x00 ∷ 0xED ∷ 0x00 ∷ []

-- ---- replies, PGN 60672
-- "Replies under 8 bytes are filled with FF"
unfoldable pub filled : List ℕ → List ℕ
filled bytes = bytes ++ replicate (8 - length bytes) 0xFF

-- 0 Request: "reply is 1, the pair byte, the mode, the PGNs in order of addition, least significant byte first"
unfoldable pub list_body : Filter → List ℕ
list_body f = reported_mode f.mode ∷ reported f.entries

unfoldable pub list_reply : ℕ → Filter → List ℕ
list_reply pair f = filled (1 ∷ pair ∷ list_body f)

-- the second byte of reply 65: the plain port number
abbrev pub port_byte : ℕ → ℕ
port_byte port = port

-- 64: "Reply is 65, the port, its addresses in rising order; the unit's own is left out"
unfoldable pub address_reply : ℕ → ℕ → List Place → List ℕ
address_reply port except table = filled (65 ∷ port_byte port ∷ addresses_on port except table)

-- 129 and 132, ticket 8: "function, pair byte (general: .. FF in the reply), parameter, in a reply the value in two bytes, least significant first"
unfoldable pub parameter_reply : ℕ → ℕ → ℕ → ℕ → List ℕ
parameter_reply function named parameter value = filled (function ∷ named ∷ parameter ∷ bytes_of 2 value)

-- ---- the contract of writing at the start of a buffer: the bytes, all past them as it was, and how many they are
pub record Writing (bytes before after : List ℕ) (most r : ℕ) : Type 0 where
  pub written : after ≡ bytes ++ drop (length bytes) before
  pub answer : r ≡ length bytes
  pub small : r ≤ most
