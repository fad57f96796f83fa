-- `storage::pack_few` meets its contract: the bytes that are there, one after the other. Assumes nothing.
use native.Mathlib.Omega.{arith}
use Rattle.storage.proofs.Bytes.{packed_step, packed_none}
use Rattle.storage.proofs.pack_few.Goals as goal

pub returns-in-empty-clause-number : goal.returns-in-empty-clause-number
returns-in-empty-clause-number c = let bytes = c.args.bytes.now in omega (arith, packed_none bytes 0 (omega arith))

pub returns-in-len1-clause-number : goal.returns-in-len1-clause-number
returns-in-len1-clause-number c = let bytes = c.args.bytes.now in omega (arith, packed_step bytes 0 (omega arith), packed_none bytes 1 (omega arith))

pub returns-in-len2-clause-number : goal.returns-in-len2-clause-number
returns-in-len2-clause-number c = let bytes = c.args.bytes.now in
    omega (arith, c.from_le_bytes.ensures, packed_step bytes 0 (omega arith), packed_step bytes 1 (omega arith), packed_none bytes 2 (omega arith))

pub returns-in-len3-up-clause-number : goal.returns-in-len3-up-clause-number
returns-in-len3-up-clause-number c = let bytes = c.args.bytes.now in
    omega (arith, c.from_le_bytes-in-len3-up.ensures, packed_step bytes 0 (omega arith), packed_step bytes 1 (omega arith), packed_step bytes 2 (omega arith), packed_none bytes 3 (omega arith))
