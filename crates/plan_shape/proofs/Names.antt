-- A pair of a plan has no NAME entries, whatever its mode word says: its words end where a record's block has them. Assumes nothing.
use mathlib.Core.Path.{◌≡◌, refl}
use mathlib.Core.List.{List, []}
use Prim.Native.Nat.{ℕ, zero, suc, ◌+◌, ◌*◌}
use native.Mathlib.Omega.{arith}
use lib.ListN.{get_or, drop, length-take, drop_of_length-le}
use Rattle.storage.specs.Blocks.{block_at}
use Rattle.name_entries.specs.NameEntries.{names_of, entries_in}
use Rattle.filter.specs.Filter.{mode_place, list_of, names_place, sorted_in, front_of, meant, filter_of}
use Rattle.unit.specs.Model.{pair_at}
use Rattle.plan_shape.specs.Plan.{block_of, pair_of, plan_block_size, pairs_of_unit, port_count}

none_meant : (m : ℕ) (es ss : List ℕ) → (meant m es [] ss).named ≡ []
unfolding meant
none_meant zero es ss = refl
none_meant (suc zero) es ss = refl
none_meant (suc (suc zero)) es ss = refl
none_meant (suc (suc (suc zero))) es ss = refl
none_meant (suc (suc (suc (suc m)))) es ss = refl

none_behind : (words : List ℕ) → drop names_place words ≡ [] → (filter_of words).named ≡ []
unfolding filter_of names_of entries_in
none_behind words e = rw e (none_meant (get_or words mode_place 0) (front_of words (list_of words)) (front_of words (sorted_in words)))

block_ends : (lists : List ℕ) (place : ℕ) → drop names_place (block_of lists place) ≡ []
unfolding block_at
block_ends lists place = drop_of_length-le (block_of lists place) {i = names_place} (omega (arith, length-take plan_block_size (drop (0 + plan_block_size * place) lists)))

pub no_names : (lists : List ℕ) (unit from to : ℕ) → (pair_of lists unit from to).named ≡ []
unfolding pair_of
no_names lists unit from to =
    let place = pairs_of_unit * unit + pair_at port_count from to in
    none_behind (block_of lists place) (block_ends lists place)
