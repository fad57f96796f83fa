-- One directed pair's filter: what its block of words means, and what asking it answers.
-- Assumes nothing.
use Rattle.std.specs.Prelude.{ℕ, zero, suc, ◌+◌, ◌≤◌, Bool, true, false, cond, not, ◌||◌, ◌≡◌, List, [], length, take, drop, get_or, eqb, Option}
use Rattle.identifier.specs.Identifier.{request, address_claimed}
use Rattle.entries.specs.Entries.{listed}
use Rattle.pgn_list.specs.PgnList.{list_size}
use Rattle.name_entries.specs.NameEntries.{NameEntry, names_length, names_of, matched_by, place_of, most_names}
use Rattle.sorted_list.specs.SortedList.{halved, most_probes}
use Rattle.filter.specs.declared.Reason.{Reason}
use Rattle.filter.specs.declared.Asked.{Asked}

-- where a block has its mode, its count and its list, which is of as many words as a list holds
abbrev pub mode_place : ℕ
mode_place = 0

abbrev pub count_place : ℕ
count_place = 1

abbrev pub list_place : ℕ
list_place = 2

abbrev pub list_of : List ℕ → List ℕ
list_of words = take list_size (drop list_place words)

-- where it has its NAME entries, behind the list. A plan's block ends there
abbrev pub names_place : ℕ
names_place = list_place + list_size

abbrev pub names_in : List ℕ → List ℕ
names_in words = take names_length (drop names_place words)

-- where it has the PGNs of its list in rising order
abbrev pub sorted_place : ℕ
sorted_place = names_place + names_length

abbrev pub sorted_in : List ℕ → List ℕ
sorted_in words = take list_size (drop sorted_place words)

-- the words of a block
abbrev pub block_size : ℕ
block_size = sorted_place + list_size

-- cleared, block (mode 0) or pass (mode 1)
pub data Mode : Type 0 where
  cleared : Mode
  block : Mode
  pass : Mode

-- a pair's filter: its PGNs and its NAME entries, each in order of addition, and the PGNs as they are searched, which commands keep in
-- rising order
pub record Filter : Type 0 where
  pub mode : Mode
  pub entries : List ℕ
  pub named : List NameEntry
  pub sorted : List ℕ

abbrev pub clear : Filter
clear = record { mode = cleared; entries = []; named = []; sorted = [] }

-- 15, Add and Delete: the pair is cleared. 14, Create: it is not.
unfoldable pub is_cleared : Mode → Bool
is_cleared cleared = true
is_cleared block = false
is_cleared pass = false

-- by the mode word: 0 is cleared and has no entries, whatever the count says; 1 and 3 block, any other passes. Below 3 there are no
-- NAME entries, whatever stands behind the list
unfoldable pub meant : ℕ → List ℕ → List NameEntry → List ℕ → Filter
meant zero es ns ss = clear
meant (suc zero) es ns ss = record { mode = block; entries = es; named = []; sorted = ss }
meant (suc (suc zero)) es ns ss = record { mode = pass; entries = es; named = []; sorted = ss }
meant (suc (suc (suc zero))) es ns ss = record { mode = block; entries = es; named = ns; sorted = ss }
meant (suc (suc (suc (suc m)))) es ns ss = record { mode = pass; entries = es; named = ns; sorted = ss }

-- whether a mode word blocks
unfoldable pub is_block : ℕ → Bool
is_block m = eqb m 1 || eqb m 3

-- the first `count` of a block's list, and of the words that are searched. Those past the count are the block's free part.
abbrev pub front_of : List ℕ → List ℕ → List ℕ
front_of words list = take (get_or words count_place 0) list

-- what a block means
unfoldable pub filter_of : List ℕ → Filter
filter_of words = meant (get_or words mode_place 0) (front_of words (list_of words)) (names_of (names_in words)) (front_of words (sorted_in words))

-- forwarding rule 2: what a pair of that mode permits, by whether the PGN is listed
unfoldable pub permits : Mode → Bool → Bool
permits cleared here = true
permits block here = not here
permits pass here = here

-- docs/RULES.md, "Forwarding", rule 2, permanent: address claims and requests, by the PGN alone, cross every pair whatever its mode and list
unfoldable pub is_permanent : ℕ → Bool
is_permanent pgn = eqb pgn address_claimed || eqb pgn request

-- whether a pair permits a PGN by its list alone, as a plan asks it
unfoldable pub permitted : Filter → ℕ → Bool
permitted f pgn = is_permanent pgn || permits f.mode (listed pgn f.entries)

-- docs/RULES.md, "Forwarding": the reason why a PGN that is not permanent crosses a pair of that mode or not, by whether it is listed
unfoldable pub reason_of : Mode → Bool → Reason
reason_of cleared here = Reason.Cleared
reason_of block true = Reason.StoppedAsListed
reason_of block false = Reason.NotListedInBlock
reason_of pass true = Reason.ListedInPass
reason_of pass false = Reason.StoppedAsNotListed

-- whether it crosses with that reason: proved to be what the pair permits (proofs/Reasons.antt)
abbrev pub crosses : Reason → Bool
crosses Reason.NotAsked = false
crosses Reason.Permanent = true
crosses Reason.Cleared = true
crosses Reason.ListedInPass = true
crosses Reason.NotListedInBlock = true
crosses Reason.StoppedAsListed = false
crosses Reason.StoppedAsNotListed = false

-- the number of a reason, as C has it
abbrev pub reason_number : Reason → ℕ
reason_number Reason.NotAsked = 0
reason_number Reason.Permanent = 1
reason_number Reason.Cleared = 2
reason_number Reason.ListedInPass = 3
reason_number Reason.NotListedInBlock = 4
reason_number Reason.StoppedAsListed = 5
reason_number Reason.StoppedAsNotListed = 6

-- the reason by a pair's list alone, as a plan asks it
unfoldable pub reason_by_list : Filter → ℕ → Reason
reason_by_list f pgn = cond (is_permanent pgn) Reason.Permanent (reason_of f.mode (listed pgn f.entries))

-- what asking a pair answers, by the PGN and the sender's NAME. A permanent PGN is looked up in no list. Another is looked up by halving, and
-- what is compared are the probes; a cleared pair has no entries, so it compares 0. "A match counts as listed", and if the PGN wasn't found,
-- the NAME entries up to the first match are added.
unfoldable pub asked : Filter → ℕ → Option ℕ → Asked
asked f pgn sender =
    cond (is_permanent pgn)
    (record { reason = Reason.Permanent; compared = 0 })
    (record {
      reason = reason_of f.mode ((halved pgn f.sorted).found || matched_by pgn sender f.named);
      compared = (halved pgn f.sorted).probes + cond (halved pgn f.sorted).found 0 (place_of pgn sender f.named);
    })

-- function 0: the mode as it is reported; a cleared pair shows mode 0
unfoldable pub reported_mode : Mode → ℕ
reported_mode cleared = 0
reported_mode block = 0
reported_mode pass = 1

-- the contract of asking a block
pub record Asking (words : List ℕ) (pgn : ℕ) (sender : Option ℕ) (r : Asked) : Type 0 where
  pub answer : r ≡ asked (filter_of words) pgn sender
  pub small : r.compared ≤ most_probes + most_names

-- the contract of counting a block's entries
pub record Counting (words : List ℕ) (r : ℕ) : Type 0 where
  pub number : r ≡ length (filter_of words).entries
  pub small : r ≤ list_size
