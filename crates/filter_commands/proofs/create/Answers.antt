-- `filter_commands::create` meets its contract: refused on a pair that is not cleared, else the list begins anew and the mode is stored. Assumes nothing.
use mathlib.Core.Path.{sym, ◌∙◌}
use Rattle.filter_commands.proofs.Commands.{create_listing, create_over, create_pass, create_block}
use Rattle.filter_commands.proofs.create.Goals as goal

pub returns-then-not-is_cleared : goal.returns-then-not-is_cleared
returns-then-not-is_cleared c = create_listing _ _ _ (sym c.is_cleared.ensures ∙ c.if-not-is_cleared.true)

pub returns-then-not-begin : goal.returns-then-not-begin
returns-then-not-begin c = create_over _ _ _ (sym c.is_cleared.ensures ∙ c.if-not-is_cleared.false) c.if-not-begin.true c.begin.ensures

pub returns-then-pass : goal.returns-then-pass
returns-then-pass c = create_pass _ _ _ (sym c.is_cleared.ensures ∙ c.if-not-is_cleared.false) c.requires c.if-not-begin.false c.begin.ensures c.if-pass.true

pub returns-else-pass : goal.returns-else-pass
returns-else-pass c = create_block _ _ _ (sym c.is_cleared.ensures ∙ c.if-not-is_cleared.false) c.requires c.if-not-begin.false c.begin.ensures c.if-pass.false
