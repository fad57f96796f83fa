-- `replies::put_entry` meets its contract: a run of three stores. Assumes nothing.
use mathlib.Core.Path.{◌≡◌}
use Prim.Native.Nat.{◌+◌, suc}
use native.Mathlib.Omega.{arith}
use native.Mathlib.Numerals.{add-one}
use lib.ListN.{length-set}
use Rattle.storage.specs.Bytes.{bytes_of}
use Rattle.replies.proofs.put_entry.Goals as goal

pub bounds-out-at-2 : goal.bounds-out-at-2
bounds-out-at-2 c = simp length-set (omega arith)

pub bounds-out-at-3 : goal.bounds-out-at-3
bounds-out-at-3 c = simp length-set (omega arith)

pub shape_of-out : goal.shape_of-out
shape_of-out c = simp length-set

pub returns : goal.returns
unfolding bytes_of
returns c = let at = c.args.at in
    let two : at + 2 ≡ suc (suc at) = omega arith in
    rw (c.byte_at.ensures, c.byte_at-2.ensures, c.byte_at-3.ensures, add-one at, two)
