-- `queue::Queue::take` meets its contract: it is the take on the queue's own words. Assumes nothing.
use Rattle.queue.proofs.Queue.take.Goals as goal

pub returns : goal.returns
returns c = c.take-t.ensures
