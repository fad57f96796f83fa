-- `identifier::pgn` meets its contract: it is that sum. Assumes nothing.
use native.Mathlib.Omega.{arith}
use Rattle.identifier.specs.Identifier.{pgn_of}
use Rattle.identifier.proofs.Numbers.{extension_small}
use Rattle.identifier.proofs.pgn.Goals as goal

pub overflow_add-result-3 : goal.overflow_add-result-3
overflow_add-result-3 c = omega (arith, c.group_extension.ensures, extension_small c.args.id)

pub returns : goal.returns
unfolding pgn_of
returns c = cc
