-- `write_line` meets its contract: refused, or the whole line. Assumes nothing.
use mathlib.Core.Path.{sym, ◌∙◌}
use Rattle.candump.proofs.Lines.{goes}
use Rattle.candump.proofs.write_line.Goals as goal

pub put-requires : goal.put-requires
put-requires c = let went = goes _ c.args.a (sym c.check_frame.ensures ∙ c.in_ok-check_frame.was) in
    (went.fits, went.named, went.short)
