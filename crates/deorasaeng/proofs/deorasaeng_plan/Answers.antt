-- `deorasaeng_plan` meets its contract: the plan's answer is handed on. Assumes nothing.
use Rattle.deorasaeng.proofs.deorasaeng_plan.Goals as goal

pub returns : goal.returns
returns c = (c.hear-planned.result, (c.hear-planned.ensures, c.tell_plan.ensures))
