-- `addresses::past_others` meets its contract: a loop that passes over four others at a time. Assumes nothing.
use native.Mathlib.Omega.{arith}
use Rattle.addresses.proofs.Skipping.{skip_none, skip_four}
use Rattle.addresses.proofs.past_others.Goals as goal

pub loop-address-init : goal.loop-address-init
loop-address-init c = skip_none c.requires.2

pub four_others-requires : goal.four_others-requires
four_others-requires c = (c.requires.0, c.requires.1, c.loop-address.invariant.within)

pub overflow_add-address : goal.overflow_add-address
overflow_add-address c = let room = (c.four_others.ensures c.loop-address-test.true).room in omega arith

pub loop-address-smaller : goal.loop-address-smaller
loop-address-smaller c = let room = (c.four_others.ensures c.loop-address-test.true).room in omega arith

pub loop-address-preserved : goal.loop-address-preserved
loop-address-preserved c = skip_four c.loop-address.invariant (c.four_others.ensures c.loop-address-test.true)

pub returns : goal.returns
returns c = c.loop-address.invariant
