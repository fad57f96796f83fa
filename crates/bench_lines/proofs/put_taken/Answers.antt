-- `put_taken` meets its contract: by what was taken. Assumes nothing.
use Rattle.bench_lines.proofs.put_taken.Goals as goal

pub returns-in-Some : goal.returns-in-Some
returns-in-Some c = rw c.in-Some.is c.put_given.ensures

pub returns-in-None : goal.returns-in-None
returns-in-None c = rw c.in-None.is c.copy.ensures
