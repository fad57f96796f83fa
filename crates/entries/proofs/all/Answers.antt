-- `entries::all` meets its contract: the chunks of three bytes are the entries. Assumes nothing.
use mathlib.Core.Path.{ap, ◌∙◌}
use Rattle.std.specs.Prelude.{map}
use Rattle.storage.specs.Bytes.{packed}
use Rattle.entries.proofs.ThreeBytes.{chunks_are}
use Rattle.entries.proofs.all.Goals as goal

pub returns : goal.returns
returns c = ap (map packed) c.as_chunks.ensures.front ∙ chunks_are c.args.bytes.now
