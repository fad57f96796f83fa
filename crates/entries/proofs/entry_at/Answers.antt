-- `entries::entry_at` meets its contract. Assumes nothing.
use mathlib.Core.Path.{sym, ap, ◌∙◌}
use mathlib.Core.List.{[]}
use native.Mathlib.Omega.{arith}
use lib.ListN.{length, get_or}
use Rattle.storage.specs.Bytes.{packed}
use Rattle.std.proofs.lemmas.List.{length-map, get_or-map}
use Rattle.entries.proofs.entry_at.Goals as goal

pub bounds-all-i : goal.bounds-all-i
bounds-all-i c = omega (arith, length-map c.all.result.now packed, ap length c.all.ensures)

pub returns : goal.returns
returns c =
    c.number.ensures
    ∙ sym (get_or-map packed c.all.result.now c.args.i [] 0 (omega (arith, length-map c.all.result.now packed, ap length c.all.ensures)))
    ∙ ap (λ es. get_or es c.args.i 0) c.all.ensures
