-- `network_message::word_at` meets its contract: eight bytes of what is left, and none past the end. Assumes nothing.
use Prim.Native.Nat.{◌-◌}
use native.Mathlib.Omega.{arith}
use lib.ListN.{length, drop, length-drop, drop_of_length-le}
use lib.Seq.{take_all}
use Rattle.storage.specs.Bytes.{packed}
use Rattle.network_message.proofs.word_at.Goals as goal

pub returns-then-payload-at : goal.returns-then-payload-at
unfolding packed
returns-then-payload-at c = let args = c.args in rw (drop_of_length-le args.payload.now {i = args.at} (omega arith))

pub returns : goal.returns
returns c = let args = c.args in
    let payload = args.payload.now in
    rw (take_all (length payload - args.at) (drop args.at payload) (omega (arith, length-drop args.at payload))) at c.pack.ensures
