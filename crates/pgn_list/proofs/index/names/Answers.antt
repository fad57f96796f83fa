-- `pgn_list::index::names` meets its contract: by its slot, by the entry noted there, or by a look through the entries. Assumes nothing.
use mathlib.Core.Path.{◌≡◌, sym, ◌∙◌}
use mathlib.Core.List.{List}
use Prim.Native.Nat.{ℕ}
use native.Mathlib.Omega.{arith}
use lib.ListN.{length, get_or}
use Rattle.std.specs.Prelude.{map}
use Rattle.storage.specs.Bytes.{packed}
use Rattle.entries.proofs.ThreeBytes.{some_listed}
use Rattle.pgn_list.specs.Slots.{slot_of, Indexed}
use Rattle.pgn_list.proofs.Changes.{entry_here, entries_long}
use Rattle.pgn_list.proofs.Slots.{slot_small, slot_free, slot_held}
use Rattle.pgn_list.proofs.index.names.Goals as goal

whole : (es : List (List ℕ)) {index : List ℕ} → Indexed (map packed es) (length es) index → Indexed (map packed es) (length (map packed es)) index
whole es I = rw (entries_long es) I

pub bounds-index-slot : goal.bounds-index-slot
bounds-index-slot c = omega (arith, slot_small c.args.x, c.slot.ensures)

pub returns-then-place-eq0 : goal.returns-then-place-eq0
returns-then-place-eq0 c = let p : c.from-place.result ≡ get_or c.args.index.now (slot_of c.args.x) 0 = c.from-place.ensures ∙ rw c.slot.ensures in
    sym (slot_free c.args.x (whole c.args.entries.now c.requires) (sym p ∙ c.if-place-eq0.true))

pub bounds-entries-place : goal.bounds-entries-place
bounds-entries-place c = let p : c.from-place.result ≡ get_or c.args.index.now (slot_of c.args.x) 0 = c.from-place.ensures ∙ rw c.slot.ensures in
    omega (arith, c.requires.inside (slot_of c.args.x), p)

pub returns-then-number-x : goal.returns-then-number-x
returns-then-number-x c = let p : c.from-place.result ≡ get_or c.args.index.now (slot_of c.args.x) 0 = c.from-place.ensures ∙ rw c.slot.ensures in
    sym (slot_held c.args.x (whole c.args.entries.now c.requires) p c.if-place-eq0.false (sym (entry_here c.args.entries.now (omega (arith, c.requires.inside (slot_of c.args.x), p)) c.number.ensures) ∙ c.if-number-x.true))

pub returns : goal.returns
returns c = c.has.ensures ∙ some_listed packed c.args.x c.args.entries.now
