-- What the steps of the crate promise one another: a block that gets another list.
-- Assumes nothing.
use Rattle.std.specs.Prelude.{ℕ, Bool, true, false, not, ◌≡◌, List, length, get_or, take, ltb}
use Rattle.pgn_list.specs.PgnList.{list_size, add_all}
use Rattle.sorted_list.specs.SortedList.{put_all, appended}
use Rattle.filter.specs.Filter.{mode_place, count_place, list_of, names_in, sorted_in, front_of}

-- a block whose mode word is as it was, whose list is es and whose PGNs to be searched are ss
pub record Relisted (entry exit es ss : List ℕ) : Type 0 where
  pub mode : get_or exit mode_place 0 ≡ get_or entry mode_place 0
  pub list : front_of exit (list_of exit) ≡ es
  pub names : names_in exit ≡ names_in entry
  pub sorted : front_of exit (sorted_in exit) ≡ ss
  pub long : length exit ≡ length entry

-- a block of which the PGNs to be searched alone were changed: the first r are ss
pub record Resorted (entry exit ss : List ℕ) (r : ℕ) : Type 0 where
  pub mode : get_or exit mode_place 0 ≡ get_or entry mode_place 0
  pub count : get_or exit count_place 0 ≡ get_or entry count_place 0
  pub list : list_of exit ≡ list_of entry
  pub names : names_in exit ≡ names_in entry
  pub sorted : take r (sorted_in exit) ≡ ss
  pub long : length exit ≡ length entry

-- xs added to the first n of a block's list, or no word changed where a list does not hold them
pub record Growing (entry exit : List ℕ) (n : ℕ) (xs : List ℕ) (r : Bool) : Type 0 where
  pub done : r ≡ not (ltb list_size (length (add_all (take n (list_of entry)) xs)))
  pub grown : r ≡ true
      → Relisted entry exit (add_all (take n (list_of entry)) xs) (put_all (take n (sorted_in entry)) (appended (take n (list_of entry)) xs))
  pub refused : r ≡ false → exit ≡ entry
