-- `pgn_list::lists_all` meets its contract, by a search or by an index. Assumes nothing.
use mathlib.Core.Path.{ap, ◌∙◌}
use mathlib.Core.Bool.{Bool}
use Prim.Native.Nat.{ℕ}
use Rattle.storage.specs.Bytes.{packed}
use Rattle.entries.specs.Entries.{listed, every}
use Rattle.pgn_list.proofs.Changes.{every_said}
use Rattle.pgn_list.proofs.lists_all.Goals as goal

pub returns-then-entries-lt-MANY : goal.returns-then-entries-lt-MANY
returns-then-entries-lt-MANY c = let test : ℕ → Bool = λ x. listed x c.args.list.now in
    c.lists_each.ensures ∙ every_said packed test c.all-entries.result.now ∙ ap (every test) c.all-entries.ensures

pub returns : goal.returns
returns c = let test : ℕ → Bool = λ x. listed x c.args.list.now in
    c.lists_each-2.ensures ∙ every_said packed test c.all-entries.result.now ∙ ap (every test) c.all-entries.ensures
