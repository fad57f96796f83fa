-- `plan_shape::is_in_range` meets its contract: the numbers, then the ports, then the lists. Assumes nothing.
use mathlib.Core.Path.{sym, ◌∙◌}
use native.Mathlib.Omega.{arith}
use Rattle.plan_shape.specs.Plan.{in_range}
use Rattle.plan_shape.proofs.Ranges.{numbers, length_pairs, in_parts}
use Rattle.plan_shape.proofs.is_in_range.Goals as goal

pub returns-then-not-are_numbers : goal.returns-then-not-are_numbers
unfolding in_range
returns-then-not-are_numbers c = rw (sym c.are_numbers.ensures ∙ c.if-not-are_numbers.true)

pub shared_ref_as_front-are_ports : goal.shared_ref_as_front-are_ports
shared_ref_as_front-are_ports c = let args = c.args in
    omega (arith, (numbers args.segments args.units args.first args.pgn (sym c.are_numbers.ensures ∙ c.if-not-are_numbers.false)).few)

pub slice_bounds-as_chunks-end-2 : goal.slice_bounds-as_chunks-end-2
slice_bounds-as_chunks-end-2 c = let args = c.args in
    let few = (numbers args.segments args.units args.first args.pgn (sym c.are_numbers.ensures ∙ c.if-not-are_numbers.false)).few in
    rw c.as_chunks.ensures.front (sym (length_pairs args.units args.lists.now few c.told-lists))

pub returns-then-are_ports : goal.returns-then-are_ports
returns-then-are_ports c = let args = c.args in
    let known = sym c.are_numbers.ensures ∙ c.if-not-are_numbers.false in
    let few = (numbers args.segments args.units args.first args.pgn known).few in
    rw (in_parts args.segments args.units args.first args.pgn args.ports.now args.lists.now few c.told-ports c.told-lists, known, sym c.are_ports.ensures ∙ c.if-are_ports.true, ← c.as_chunks.ensures.front, ← c.as_chunks-2.ensures.front) c.are_pairs.ensures

pub returns-else-are_ports : goal.returns-else-are_ports
returns-else-are_ports c = let args = c.args in
    let known = sym c.are_numbers.ensures ∙ c.if-not-are_numbers.false in
    let few = (numbers args.segments args.units args.first args.pgn known).few in
    rw (in_parts args.segments args.units args.first args.pgn args.ports.now args.lists.now few c.told-ports c.told-lists, known, sym c.are_ports.ensures ∙ c.if-are_ports.false) c.if-are_ports.false
