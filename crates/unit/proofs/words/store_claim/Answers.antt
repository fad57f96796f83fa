-- `words::store_claim` meets its contract: the first word is stored. Assumes nothing.
use native.Mathlib.Omega.{arith}
use Rattle.unit.proofs.Own.{claim_stored}
use Rattle.unit.proofs.words.store_claim.Goals as goal

pub returns : goal.returns
returns c = let args = c.args in claim_stored args.words.now args.claim c.word.result (omega arith) c.word.ensures
