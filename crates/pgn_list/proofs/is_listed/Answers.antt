-- `pgn_list::is_listed` meets its contract: x is listed where a place has it. Assumes nothing.
use mathlib.Core.Path.{ap, ◌∙◌}
use Rattle.std.specs.Prelude.{is_some}
use Rattle.pgn_list.proofs.Search.{found_says}
use Rattle.pgn_list.proofs.is_listed.Goals as goal

pub returns : goal.returns
returns c = c.is_some.ensures ∙ ap is_some c.find.ensures ∙ found_says c.args.x c.args.list.now
