-- `flat_answers::write_bytes` meets its contract: the word as it is, or cut after the frame's bytes. Assumes nothing.
use mathlib.Core.Path.{◌∙◌}
use Prim.Native.Nat.{◌*◌}
use native.Mathlib.Omega.{arith}
use lib.Pow.{pow_pos}
use Rattle.flat_answers.proofs.Words.{shifted, cut_frame, short_frame, whole_frame}
use Rattle.flat_answers.proofs.write_bytes.Goals as goal

pub returns-then-f-ge8 : goal.returns-then-f-ge8
returns-then-f-ge8 c = c.write_word.ensures ∙ whole_frame c.args.f (omega arith)

pub returns-then-f-limit : goal.returns-then-f-limit
returns-then-f-limit c = let f = c.args.f in
    c.write_word-then-f-limit.ensures ∙ short_frame f (omega arith) (rw (shifted f.len (omega arith)) at c.if-f-limit.true)

pub nonzero_rem-f : goal.nonzero_rem-f
nonzero_rem-f c = let len = c.args.f.len in
    rw (shifted len (omega arith)) (pow_pos (8 * len))

pub returns : goal.returns
returns c = let f = c.args.f in
    c.write_word-2.ensures ∙ rw (shifted f.len (omega arith)) (cut_frame f (omega arith))
