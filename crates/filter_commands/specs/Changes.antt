-- The commands on one pair: Add (function 2), Delete (3), Clear (4) and Create (6), for the entries xs, and Add by NAME (7).
-- Whether one may be done is said by the same definitions that the questions of a caller answer.
-- Assumes nothing.
use Rattle.std.specs.Prelude.{ℕ, ◌≤◌, Bool, true, false, cond, not, ◌&&◌, ◌≡◌, List, [], ◌∷◌, ◌++◌, length, get_or, ltb, leb}
use Rattle.entries.specs.Entries.{listed, every}
use Rattle.pgn_list.specs.PgnList.{list_size, add_all, delete_all, once}
use Rattle.name_entries.specs.NameEntries.{NameEntry, most_names, is_there}
use Rattle.sorted_list.specs.SortedList.{put_all, insert_all, appended, fitted}
use Rattle.filter.specs.Filter.{Mode, block, pass, Filter, clear, filter_of, is_cleared}

-- ---- the questions
-- 16: the different PGNs of list and command together are more than a list holds
unfoldable pub would_pass : Filter → List ℕ → Bool
would_pass f xs = ltb list_size (length (add_all f.entries xs))

-- 17: a PGN of the command is absent from the list before the command
unfoldable pub lacks : Filter → List ℕ → Bool
lacks f xs = not (every (λ x. listed x f.entries) xs)

-- the NAME entry of a command: its one PGN, its NAME and its mask
abbrev pub entry_of : List ℕ → ℕ → ℕ → NameEntry
entry_of xs name mask = record { pgn = get_or xs 0 0; name = name; mask = mask }

-- 16 of a NAME entry: "at the ninth"; "one already there changes nothing", and is done where there are eight
unfoldable pub passes_names : Filter → NameEntry → Bool
passes_names f e = not (is_there e f.named) && leb most_names (length f.named)

-- ---- what may be done
unfoldable pub may_add : Filter → List ℕ → Bool
may_add f xs = not (is_cleared f.mode) && not (would_pass f xs)

unfoldable pub may_delete : Filter → List ℕ → Bool
may_delete f xs = not (is_cleared f.mode) && not (lacks f xs)

unfoldable pub may_create : Filter → List ℕ → Bool
may_create f xs = is_cleared f.mode && not (would_pass f xs)

unfoldable pub may_name : Filter → NameEntry → Bool
may_name f e = not (is_cleared f.mode) && not (passes_names f e)

-- ---- the filter after a command: as it was, where the command may not be done. What is searched follows: what Add appends is put in where it
-- belongs, one after the other, and what Delete names is taken out; it stays as long as the list
abbrev pub with_list : Filter → List ℕ → List ℕ → Filter
with_list f es ss = record { mode = f.mode; entries = es; named = f.named; sorted = ss }

unfoldable pub added : Filter → List ℕ → Filter
added f xs = cond (may_add f xs) (with_list f (add_all f.entries xs) (put_all f.sorted (appended f.entries xs))) f

unfoldable pub deleted : Filter → List ℕ → Filter
deleted f xs =
    cond (may_delete f xs) (with_list f (delete_all f.entries xs) (fitted (length (delete_all f.entries xs)) (delete_all f.sorted xs))) f

-- Create's mode 1 is pass, its mode 0 block
unfoldable pub mode_for : Bool → Mode
mode_for true = pass
mode_for false = block

unfoldable pub created : Bool → Filter → List ℕ → Filter
created passing f xs =
    cond (may_create f xs) (record { mode = mode_for passing; entries = add_all [] xs; named = []; sorted = put_all [] (add_all [] xs) }) f

abbrev pub with_names : Filter → List NameEntry → Filter
with_names f ns = record { mode = f.mode; entries = f.entries; named = ns; sorted = f.sorted }

unfoldable pub named : Filter → NameEntry → Filter
named f e = cond (may_name f e) (with_names f (cond (is_there e f.named) f.named (f.named ++ e ∷ []))) f

-- ---- the contracts on a block: done exactly if it may be, the filter after, and every word as it was where it may not be done.
-- Of the free part of a block that was changed nothing is promised.
pub record Changing (entry exit : List ℕ) (may : Bool) (after : Filter) (r : Bool) : Type 0 where
  pub done : r ≡ may
  pub state : filter_of exit ≡ after
  pub long : length exit ≡ length entry
  pub refused : may ≡ false → exit ≡ entry

abbrev pub Adding : List ℕ → List ℕ → List ℕ → Bool → Type 0
Adding entry exit xs r = Changing entry exit (may_add (filter_of entry) xs) (added (filter_of entry) xs) r

abbrev pub Deleting : List ℕ → List ℕ → List ℕ → Bool → Type 0
Deleting entry exit xs r = Changing entry exit (may_delete (filter_of entry) xs) (deleted (filter_of entry) xs) r

abbrev pub Creating : Bool → List ℕ → List ℕ → List ℕ → Bool → Type 0
Creating passing entry exit xs r = Changing entry exit (may_create (filter_of entry) xs) (created passing (filter_of entry) xs) r

abbrev pub Naming : List ℕ → List ℕ → NameEntry → Bool → Type 0
Naming entry exit e r = Changing entry exit (may_name (filter_of entry) e) (named (filter_of entry) e) r

-- Clear is never refused
pub record Clearing (entry exit : List ℕ) : Type 0 where
  pub state : filter_of exit ≡ clear
  pub long : length exit ≡ length entry

-- ---- the invariant
-- a cleared pair has no entries and no NAME entries, a list never holds a PGN twice nor more than it can, there are at most eight NAME entries,
-- and what is searched are the list's PGNs in rising order
pub record Sound (f : Filter) : Type 0 where
  pub none : is_cleared f.mode ≡ true → f.entries ≡ []
  pub different : once f.entries ≡ true
  pub few : length f.entries ≤ list_size
  pub unnamed : is_cleared f.mode ≡ true → f.named ≡ []
  pub few_names : length f.named ≤ most_names
  pub in_order : f.sorted ≡ insert_all [] f.entries
