-- `forwarding::offer_rest` meets its contract: the loop over the ports that are left, for every record that the way began on. Assumes nothing.
use Rattle.std.proofs.Common.{refl, arith}
use Rattle.forwarding.proofs.Ways.{gone_past, past_small, pair_in_lem, gone_after, room, gone_done}
use Rattle.forwarding.proofs.offer_rest.Goals.{then-from-to, else-from-to}
use Rattle.forwarding.proofs.offer_rest.Goals as goal

pub loop-to-init : goal.loop-to-init
loop-to-init c = ((λ start G. G), refl)

pub past-way-requires : goal.past-way-requires
past-way-requires c = let gone = c.loop-to.invariant in
    past_small c.requires.0 c.requires.1 (gone.0 c.requires.2.0 c.requires.2.1) gone.1 c.loop-to-test.true

pub send-s-requires : goal.send-s-requires
send-s-requires c = let gone = c.loop-to.invariant in
    let G = gone.0 c.requires.2.0 c.requires.2.1 in
    (pair_in_lem c.requires.0 c.requires.1 G gone.1 c.loop-to-test.true c.if-from-to.false, omega (arith, G.whole))

pub after-way-requires : goal.after-way-requires
after-way-requires c = let gone = c.loop-to.invariant in
    room c.requires.0 c.requires.1 (gone.0 c.requires.2.0 c.requires.2.1) gone.1 c.loop-to-test.true c.if-from-to.false c.send-s.ensures

pub loop-to-preserved : goal.loop-to-preserved
loop-to-preserved c = let gone = c.loop-to.invariant in
    let more = c.loop-to-test.true in
    elim c.if-from-to.branch [
      | then-from-to w ↦
          rw (w.way'-is, w.words-is, w.past-way.ensures) (
            (λ begun H. (gone_past c.requires.0 c.requires.1 (gone.0 begun H) gone.1 more w.if-from-to.true).0),
            (gone_past c.requires.0 c.requires.1 (gone.0 c.requires.2.0 c.requires.2.1) gone.1 more w.if-from-to.true).1,
          )
      | else-from-to w ↦
          rw (w.way'-is, w.words-is, w.after-way.ensures) (
            (λ begun H. (gone_after c.requires.0 c.requires.1 (gone.0 begun H) gone.1 more w.if-from-to.false w.send-s.ensures (omega arith)).0),
            (gone_after c.requires.0 c.requires.1 (gone.0 c.requires.2.0 c.requires.2.1) gone.1 more w.if-from-to.false w.send-s.ensures (omega arith)).1,
          )
    ]

pub shape_of-words : goal.shape_of-words
shape_of-words c = let begun = c.requires.2 in
    omega (arith, begun.1.whole, (c.loop-to.invariant.0 begun.0 begun.1).whole)

pub returns : goal.returns
returns c = λ begun H.
    let G = c.loop-to.invariant.0 begun H in
    rw c.share.ensures (gone_done c.requires.0 G (omega (arith, G.few, c.loop-to.invariant.1, c.requires.2.1.few)))
