-- `forwarding::offer_by_lists` meets its contract: the loop over the ports, which passes over the port itself and ends at a pair with NAME entries. Assumes nothing.
use Rattle.std.proofs.Common.{refl, sym, ◌∙◌, arith, get_or}
use borrow.Author.Tests.{leb-false}
use Rattle.forwarding.proofs.Ways.{gone_start, gone_past, past_small, pair_in_lem, gone_after, room}
use Rattle.forwarding.proofs.offer_by_lists.Goals.{then-from-to, else-from-to+else-has_names}
use Rattle.forwarding.proofs.offer_by_lists.Goals as goal

pub loop-to-init : goal.loop-to-init
loop-to-init c = (gone_start c.requires.0 c.requires.1 c.filters_from.ensures, refl)

pub past-way-requires : goal.past-way-requires
past-way-requires c = let gone = c.loop-to.invariant in
    past_small c.requires.0 c.requires.2 gone.0 gone.1 c.loop-to-test.true

pub has_names-requires : goal.has_names-requires
has_names-requires c = let gone = c.loop-to.invariant in
    pair_in_lem c.requires.0 c.requires.2 gone.0 gone.1 c.loop-to-test.true c.if-from-to.false

pub returns-then-has_names : goal.returns-then-has_names
returns-then-has_names c = c.loop-to.invariant.0

pub send_by_list-s-requires : goal.send_by_list-s-requires
send_by_list-s-requires c = let gone = c.loop-to.invariant in
    let more = c.loop-to-test.true in (
      pair_in_lem c.requires.0 c.requires.2 gone.0 gone.1 more c.if-from-to.false,
      omega (arith, gone.0.whole),
      leb-false 3 (get_or c.loop-to.words c.loop-to.way.at 0) (sym c.has_names.ensures ∙ c.if-has_names.false),
    )

pub after-way-requires : goal.after-way-requires
after-way-requires c = let gone = c.loop-to.invariant in
    room c.requires.0 c.requires.2 gone.0 gone.1 c.loop-to-test.true c.if-from-to.false c.send_by_list-s.ensures

pub loop-to-preserved : goal.loop-to-preserved
loop-to-preserved c = let gone = c.loop-to.invariant in
    let more = c.loop-to-test.true in
    elim c.if-from-to.branch [
      | then-from-to w ↦ rw (w.way'-is, w.words-is, w.past-way.ensures) (gone_past c.requires.0 c.requires.2 gone.0 gone.1 more w.if-from-to.true)
      | else-from-to+else-has_names w ↦
          rw (w.way'-is, w.words-is, w.after-way.ensures)
          (gone_after c.requires.0 c.requires.2 gone.0 gone.1 more w.if-from-to.false w.send_by_list-s.ensures (omega arith))
    ]

pub returns : goal.returns
returns c = c.loop-to.invariant.0
