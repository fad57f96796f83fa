-- What a claim does to the table (docs/RULES.md, "Addresses"), for a NAME that is not the unit's.
-- Assumes nothing.
use Rattle.std.specs.Prelude.{ℕ, Bool, cond, List, map, get_or, set, eqb, ltb, leb, None, Some}
use Rattle.address_claims.specs.declared.Event.{Event}
use Rattle.address_claims.specs.declared.Event.TheVariants.{Nothing, Withdrew, Recorded, Refreshed, TookOver, Beaten}
use Rattle.addresses.specs.Table.{Place, place_from, held_by, stands_in}

-- ---- SA 254: "the NAME leaves the table (Withdrew), or no event if it held nothing"
unfoldable pub without : ℕ → Place → Place
without name place = cond (held_by name place) None place

unfoldable pub withdrawn : ℕ → List Place → List Place
withdrawn name table = map (without name) table

unfoldable pub withdraw_event : ℕ → List Place → Event
withdraw_event name table = cond (stands_in name table) Withdrew Nothing

-- ---- SA 0 to 253: "any other address of that NAME is dropped first", and then the address is this place
unfoldable pub moved_to : ℕ → ℕ → Place → List Place → List Place
moved_to name address place table = set (withdrawn name table) address place

-- the place as it was: the drop alone. A number that is no address keeps none.
abbrev pub others_dropped : ℕ → ℕ → List Place → List Place
others_dropped name keep table = moved_to name keep (get_or table keep None) table

unfoldable pub stands_elsewhere : ℕ → ℕ → List Place → Bool
stands_elsewhere name keep table = stands_in name (set table keep None)

-- recorded with arrival port, whatever the place was; so on the unit's address "a lower NAME is recorded" (Displaced)
abbrev pub settled : ℕ → ℕ → ℕ → List Place → List Place
settled port address name table = moved_to name address (place_from port name) table

-- on any other address: "free address, recorded with arrival port (Recorded); same NAME, arrival port updated (Refreshed);
-- lower than the holder, replaces it (TookOver, naming the old NAME); higher, not recorded (Beaten)"
unfoldable pub contest_event : ℕ → Place → Event
contest_event name None = Recorded
contest_event name (Some holder) = cond (eqb name holder.name) Refreshed (cond (ltb name holder.name) (TookOver holder.name) Beaten)

-- what the place then is
unfoldable pub contested : ℕ → ℕ → Place → Place
contested port name None = place_from port name
contested port name (Some holder) = cond (leb name holder.name) (place_from port name) (Some holder)

abbrev pub claim_event : ℕ → ℕ → List Place → Event
claim_event address name table = contest_event name (get_or table address None)

abbrev pub claimed : ℕ → ℕ → ℕ → List Place → List Place
claimed port address name table = moved_to name address (contested port name (get_or table address None)) table
