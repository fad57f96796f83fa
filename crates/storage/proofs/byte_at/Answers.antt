-- `storage::byte_at` meets its contract: a shift by 8 i bits is a division by 256 ^ i, and past the eighth byte there is none. Assumes nothing.
use mathlib.Core.Path.{sym}
use borrow.Author.Rules.{rules}
use Rattle.storage.proofs.Bytes.{byte_shift, past}
use Rattle.storage.proofs.byte_at.Goals as goal

pub returns-then-i-ge8 : goal.returns-then-i-ge8
returns-then-i-ge8 c = sym (past 8 c.args.word c.args.i c.if-i-ge8.true)

pub returns : goal.returns
returns c = byte_shift 8 c.args.word c.args.i (search rules)
