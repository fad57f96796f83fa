-- `Unit::record_length` meets its contract: each arm is the length for its number. Assumes nothing.
use Rattle.unit.proofs.Unit.record_length.Goals as goal

pub returns-in-2 : goal.returns-in-2
returns-in-2 c = cc

pub returns-in-3 : goal.returns-in-3
returns-in-3 c = cc

pub returns-in-4 : goal.returns-in-4
returns-in-4 c = cc

pub returns-in-5 : goal.returns-in-5
returns-in-5 c = cc

pub returns-in-6 : goal.returns-in-6
returns-in-6 c = cc

pub returns-in-7 : goal.returns-in-7
returns-in-7 c = cc

pub returns-in-8 : goal.returns-in-8
returns-in-8 c = cc
