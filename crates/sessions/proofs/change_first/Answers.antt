-- `sessions::change_first` meets its contract: the function leaves a block in place of the first. Assumes nothing.
use Rattle.std.proofs.Common.{rules, refl}
use Rattle.sessions.proofs.change_first.Goals as goal

pub returns-in-Some : goal.returns-in-Some
returns-in-Some g c = record {
  block = c.change.new.arg2;
  changed = record { shown = _; shows = search rules; left = _; met = c.change.ensures; leaves = refl };
  back = refl;
}
