-- `filter_commands::would_pass` meets its contract: few entries can't pass, and the others are counted on a copy. Assumes nothing.
use mathlib.Core.Path.{sym, ◌∙◌}
use native.Mathlib.Omega.{arith}
use Rattle.filter_commands.proofs.Commands.{pass_few, pass_tried, not_same}
use Rattle.filter_commands.proofs.would_pass.Goals as goal

pub returns-then-count-n : goal.returns-then-count-n
returns-then-count-n c = sym (pass_few _ c.requires c.count-n.ensures (omega arith))

pub returns : goal.returns
returns c = not_same _ _ (sym c.is_none.ensures ∙ pass_tried _ c.requires c.count-n.ensures _ c.extend.new.list c.extend.result c.copied-list.ensures c.extend.ensures)
