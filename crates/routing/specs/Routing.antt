-- Ticket 14: with which identifier a frame crosses from a port to another, if it does.
-- Assumes nothing.
use Rattle.std.specs.Prelude.{ℕ, Bool, cond, not, ◌&&◌, List, eqb, Option, None, Some}
use Rattle.identifier.specs.Identifier.{pgn_of, ps_of, sa_of, has_destination, address_claimed}
use Rattle.identifier.specs.Turning.{with_source, with_destination}
use Rattle.address_pairs.specs.AddressPairs.{AddressPair, out_of, in_to, table_of}

-- "each claim that arrives": PGN 60928 to all, of eight bytes; one that says "cannot claim" too
unfoldable pub is_claim : ℕ → ℕ → Bool
is_claim id len = eqb (pgn_of id) address_claimed && (eqb (ps_of id) 255 && eqb len 8)

-- "Towards port 1 the SA turns"
unfoldable pub turns_source : ℕ → ℕ → Bool
turns_source from to = not (eqb from 1) && eqb to 1

-- "From port 1 the destination turns .., unless it is 255 or PF is 240 and up."
unfoldable pub turns_destination : ℕ → ℕ → ℕ → Bool
turns_destination from to id = (eqb from 1 && not (eqb to 1)) && (has_destination id && not (eqb (ps_of id) 255))

-- what the entry makes of it; "A frame whose address needs turning and has no entry does not cross"
abbrev pub by_entry : (ℕ → ℕ) → Option ℕ → Option ℕ
by_entry change None = None
by_entry change (Some address) = Some (change address)

-- by the table of the port other than 1; else, between two others too, as it is
unfoldable pub turn : List (List AddressPair) → ℕ → ℕ → ℕ → Option ℕ
turn tables from to id =
    cond (turns_source from to) (by_entry (with_source id) (out_of (table_of tables from) (sa_of id)))
    (cond (turns_destination from to id) (by_entry (with_destination id) (in_to (table_of tables to) (ps_of id)))
    (Some id))

-- "The same goes for each claim that arrives, on every pair"
unfoldable pub turned : List (List AddressPair) → ℕ → ℕ → ℕ → ℕ → Option ℕ
turned tables from to id len = cond (is_claim id len) None (turn tables from to id)
