-- `entries::read_entry` meets its contract: each way out by what led there. Assumes nothing.
use mathlib.Core.Path.{sym, ◌∙◌}
use mathlib.Core.Logic.{⊎_elim}
use mathlib.Core.Bool.{true, false}
use native.Mathlib.Omega.{arith}
use Rattle.entries.proofs.ThreeBytes.{entry_short, entry_read, three_here}
use Rattle.entries.proofs.read_entry.Goals as goal

pub returns-in_err-get : goal.returns-in_err-get
returns-in_err-get c = c.from_residual.ensures ∙ entry_short c.args.bytes.now c.args.at (⊎_elim (λ h. omega arith) (λ h. omega arith) c.in_err-get.ensures.lookup.0)

pub returns-in_err-first_chunk : goal.returns-in_err-first_chunk
returns-in_err-first_chunk c =
    c.from_residual-in_err-first_chunk.ensures ∙ entry_short c.args.bytes.now c.args.at (omega (arith, c.in_ok-get.ensures.lookup.0.3, c.in_err-first_chunk.ensures.cases))

pub returns-then-is_pgn : goal.returns-then-is_pgn
returns-then-is_pgn c =
    let part = c.in_ok-get.ensures.lookup.0 in
    let three = c.in_ok-first_chunk.ensures.cases in
    entry_read c.args.bytes.now c.args.at true (omega (arith, part.3, three.enough)) (c.number-pgn.ensures ∙ three_here c.args.bytes.now c.args.at part.2 three.same) (sym c.is_pgn.ensures ∙ c.if-is_pgn.true)

pub returns-else-is_pgn : goal.returns-else-is_pgn
returns-else-is_pgn c =
    let part = c.in_ok-get.ensures.lookup.0 in
    let three = c.in_ok-first_chunk.ensures.cases in
    entry_read c.args.bytes.now c.args.at false (omega (arith, part.3, three.enough)) (c.number-pgn.ensures ∙ three_here c.args.bytes.now c.args.at part.2 three.same) (sym c.is_pgn.ensures ∙ c.if-is_pgn.false)
