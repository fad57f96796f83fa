-- Asking one pair of a plan. Assumes nothing.
use mathlib.Core.Path.{◌≡◌, ap, ◌∙◌}
use mathlib.Core.Bool.{Bool}
use mathlib.Core.List.{List}
use Prim.Native.Nat.{ℕ, ◌+◌, ◌-◌, ◌*◌}
use native.Mathlib.Omega.{arith}
use lib.ListN.{take, drop}
use Rattle.storage.specs.Blocks.{block_at}
use Rattle.filter.specs.declared.Reason.{Reason}
use Rattle.filter.specs.Filter.{filter_of, permitted, crosses, reason_by_list}
use Rattle.filter.proofs.Reasons.{crosses_same}
use Rattle.unit.specs.Model.{pair_at}
use Rattle.plan_shape.specs.Plan.{pair_of, plan_block_size, pairs_of_unit, port_count}

pub permit_is : (lists : List ℕ) (unit from to pgn i : ℕ) {r : Reason} {b : Bool} → i ≡ pairs_of_unit * unit + pair_at port_count from to
    → r ≡ reason_by_list (filter_of (take (plan_block_size * i + plan_block_size - plan_block_size * i) (drop (plan_block_size * i) lists))) pgn → b ≡ crosses r → b ≡ permitted (pair_of lists unit from to) pgn
unfolding pair_of block_at
permit_is lists unit from to pgn i {r} e A b =
    let size : plan_block_size * i + plan_block_size - plan_block_size * i ≡ plan_block_size = omega arith in
    let start : 0 + plan_block_size * i ≡ plan_block_size * i = omega arith in
    rw (← e, start) (b ∙ ap crosses (rw size at A) ∙ crosses_same (filter_of (take plan_block_size (drop (plan_block_size * i) lists))) pgn)
