-- `name_entries::first_entries` meets its contract: the first n chunks of three words. Assumes nothing.
use mathlib.Core.Path.{◌≡◌, ap, ◌∙◌}
use mathlib.Core.List.{List}
use Prim.Native.Nat.{ℕ, ◌-◌, ◌/◌}
use native.Mathlib.Omega.{arith}
use lib.ListN.{length, take, drop, length-drop}
use lib.Seq.{take_all, length-take-le}
use Rattle.std.specs.Prelude.{map}
use Rattle.name_entries.specs.NameEntries.{NameEntry, entry_at}
use Rattle.name_entries.proofs.Matching.{chunks_are}
use Rattle.name_entries.proofs.first_entries.Goals as goal

pub returns : goal.returns
returns c =
    let block = c.args.block.now in
    let n = c.args.n in
    let whole : take (length block - 1) (drop 1 block) ≡ drop 1 block = take_all (length block - 1) (drop 1 block) (simp length-drop (omega arith)) in
    let front = rw whole at c.as_chunks.ensures.front in
    let long = rw whole at c.as_chunks.ensures.front_len in (
      ap {B = List NameEntry} (λ (es : List (List ℕ)). map (λ entry. entry_at entry 0) (take n es)) front
          ∙ chunks_are n (length (drop 1 block) / 3) (drop 1 block) (omega (arith, length-drop 1 block)),
      length-take-le n c.as_chunks.result.0.now (omega (arith, long, length-drop 1 block)),
    )
