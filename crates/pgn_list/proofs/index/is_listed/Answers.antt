-- `pgn_list::index::is_listed` meets its contract: by its slot, by the place noted there, or by a search. Assumes nothing.
use mathlib.Core.Path.{◌≡◌, sym, ◌∙◌}
use native.Mathlib.Omega.{arith}
use lib.ListN.{get_or}
use Rattle.pgn_list.specs.Slots.{slot_of}
use Rattle.pgn_list.proofs.Slots.{slot_small, slot_free, slot_held}
use Rattle.pgn_list.proofs.index.is_listed.Goals as goal

pub bounds-index-slot : goal.bounds-index-slot
bounds-index-slot c = omega (arith, slot_small c.args.x, c.slot.ensures)

pub returns-then-place-eq0 : goal.returns-then-place-eq0
returns-then-place-eq0 c = let p : c.from-place.result ≡ get_or c.args.index.now (slot_of c.args.x) 0 = c.from-place.ensures ∙ rw c.slot.ensures in
    sym (slot_free c.args.x c.requires (sym p ∙ c.if-place-eq0.true))

pub bounds-list-place : goal.bounds-list-place
bounds-list-place c = let p : c.from-place.result ≡ get_or c.args.index.now (slot_of c.args.x) 0 = c.from-place.ensures ∙ rw c.slot.ensures in
    omega (arith, c.requires.inside (slot_of c.args.x), p)

pub returns-then-list-place : goal.returns-then-list-place
returns-then-list-place c = let p : c.from-place.result ≡ get_or c.args.index.now (slot_of c.args.x) 0 = c.from-place.ensures ∙ rw c.slot.ensures in
    sym (slot_held c.args.x c.requires p c.if-place-eq0.false c.if-list-place.true)
