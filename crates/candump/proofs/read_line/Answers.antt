-- `read_line` meets its contract: by the tests on the way. Assumes nothing.
use mathlib.Core.Path.{sym, ◌∙◌}
use Rattle.candump.proofs.Lines.{short_line, long_line, frame_parts, shows_part, read_refused, read_frame, no_frame_lem, not_written}
use Rattle.candump.proofs.read_line.Goals.{then-line-lt-SHORTEST-via-then-line-lt-SHORTEST, then-line-lt-SHORTEST-via-else-line-lt-SHORTEST+then-line, else-is_frame-via-then-is_frame+else-is_written, else-is_frame-via-else-is_frame}
use Rattle.candump.proofs.read_line.Goals as goal

pub returns-then-line-lt-SHORTEST : goal.returns-then-line-lt-SHORTEST
returns-then-line-lt-SHORTEST c = elim c.then-line-lt-SHORTEST.branch [
  | then-line-lt-SHORTEST-via-then-line-lt-SHORTEST w ↦ read_refused _ (short_line c.args.line.now w.if-line-lt-SHORTEST.true)
  | then-line-lt-SHORTEST-via-else-line-lt-SHORTEST+then-line w ↦ read_refused _ (long_line c.args.line.now w.if-line.true)
]

pub is_written-requires : goal.is_written-requires
is_written-requires c = let parts = frame_parts c.arrival_in-a.result (sym c.is_frame.ensures ∙ c.if-is_frame.true) in
    (parts.last, parts.short)

pub returns-then-is_written : goal.returns-then-is_written
returns-then-is_written c = read_frame c.args.line.now (c.arrival_in-a.ensures ∙ shows_part c.args.line.now) (sym c.is_frame.ensures ∙ c.if-is_frame.true)
    (sym c.is_written.ensures ∙ c.if-is_written.true)

pub returns-else-is_frame : goal.returns-else-is_frame
returns-else-is_frame c = let line = c.args.line.now in
    let shown = c.arrival_in-a.ensures ∙ shows_part line in
    elim c.else-is_frame.branch [
      | else-is_frame-via-then-is_frame+else-is_written w ↦ read_refused line (not_written line shown (sym w.is_written.ensures ∙ w.if-is_written.false))
      | else-is_frame-via-else-is_frame w ↦ read_refused line (no_frame_lem line shown (sym c.is_frame.ensures ∙ w.if-is_frame.false))
    ]
