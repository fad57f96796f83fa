-- `pgn_list::first_by_fours` meets its contract: fours that do not have x are passed over, and the rest is searched. Assumes nothing.
use mathlib.Core.Path.{◌≡◌, sym, ap, ◌∙◌}
use mathlib.Core.List.{List}
use Prim.Native.Nat.{ℕ, ◌-◌, ◌*◌, ◌/◌}
use native.Mathlib.Omega.{arith}
use lib.Dec.{eqb}
use lib.ListN.{length, drop, length-drop}
use lib.Seq.{take_all}
use Rattle.std.specs.Prelude.{Option, position, unwrap_or}
use Rattle.std.specs.List.{list_any}
use Rattle.std.specs.Simd.{first_chunks}
use Rattle.pgn_list.proofs.Search.{fours, fours_room, or_all, found_behind, none_behind}
use Rattle.pgn_list.proofs.first_by_fours.Goals as goal

-- how many are passed over
passed : (x : ℕ) (list : List ℕ) {fs : List (List ℕ)} {p : Option ℕ} {r : ℕ} → fs ≡ first_chunks 4 (length list / 4) list → p ≡ position (λ four. list_any (λ y. eqb y x) four) fs → r ≡ unwrap_or p (length fs) → 4 * r ≡ 4 * fours x list
passed x list e h u = ap (λ n. 4 * n) (u ∙ rw (h, e) (or_all (λ four. list_any (λ y. eqb y x) four) (first_chunks 4 (length list / 4) list)))

pub overflow_mul-passed : goal.overflow_mul-passed
overflow_mul-passed c = let list = c.args.list.now in
    omega (arith, passed c.args.x list c.as_chunks.ensures.front c.first_four.ensures c.unwrap_or-passed.ensures, fours_room c.args.x list)

pub returns-in_err-place : goal.returns-in_err-place
returns-in_err-place c =
    let list = c.args.list.now in
    let e = rw (take_all (length list - 4 * c.unwrap_or-passed.result) (drop (4 * c.unwrap_or-passed.result) list) (simp length-drop (omega arith))) at c.first.ensures in
    c.from_residual.ensures
    ∙ none_behind c.args.x list (passed c.args.x list c.as_chunks.ensures.front c.first_four.ensures c.unwrap_or-passed.ensures) (sym e ∙ c.in_err-place.was)

pub returns : goal.returns
returns c =
    let list = c.args.list.now in
    let e = rw (take_all (length list - 4 * c.unwrap_or-passed.result) (drop (4 * c.unwrap_or-passed.result) list) (simp length-drop (omega arith))) at c.first.ensures in
    found_behind c.args.x list (passed c.args.x list c.as_chunks.ensures.front c.first_four.ensures c.unwrap_or-passed.ensures) (sym e ∙ c.in_ok-place.was)
