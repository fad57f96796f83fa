-- `entries::count` meets its contract: three bytes make an entry. Assumes nothing.
use mathlib.Core.Path.{sym}
use Rattle.entries.proofs.ThreeBytes.{entries_count}
use Rattle.entries.proofs.count.Goals as goal

pub returns : goal.returns
returns c = sym (entries_count c.args.bytes.now)
