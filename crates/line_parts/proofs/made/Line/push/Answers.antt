use Rattle.std.proofs.Common.{rules, ◌≡◌, ◌++◌, ◌∙◌, take, ◌+◌, ap}
use Rattle.std.proofs.lemmas.Slice.{take-put_mid}
use Rattle.line_parts.specs.declared.made.TheConstants.{ROOM}
use Rattle.line_parts.proofs.Pushed.{pushed}
use Rattle.line_parts.proofs.made.Line.push.Goals as goal

pub returns : goal.returns
returns c =
    let len = c.self.inside.len in
    let held = take len c.self.inside.bytes in
    let copied : c.copy_from_slice.new.self ≡ take c.min-n.result c.args.bytes.now = search rules in
    take-put_mid len _ c.self.inside.bytes c.copy_from_slice.new.self (len + c.min-n.result) (search rules) (search rules)
    ∙ ap (λ t. held ++ t) (copied ∙ ap (λ k. take k c.args.bytes.now) c.min-n.ensures)
    ∙ pushed ROOM len c.self.inside.bytes c.args.bytes.now c.self.invariant c.self.told
    ∙ ap (λ l. take ROOM (l ++ c.args.bytes.now)) c.self.view_is
