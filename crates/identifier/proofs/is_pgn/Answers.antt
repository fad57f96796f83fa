-- `identifier::is_pgn` meets its contract: by the tests on the way, and by where the number's bytes stand in the identifier. Assumes nothing.
use mathlib.Core.Path.{sym, ◌∙◌}
use Prim.Native.Nat.{◌*◌, ◌/◌, ◌%◌}
use borrow.Author.Tests.{lt-ltb, le-ltb, le-leb, lt-leb, ltb-true, ltb-false}
use Rattle.identifier.specs.Identifier.{pf_of, is_pgn}
use Rattle.identifier.proofs.Numbers.{pf_of_number, ps_of_number}
use Rattle.identifier.proofs.is_pgn.Goals as goal

pub returns-then-number-ge262144 : goal.returns-then-number-ge262144
unfolding is_pgn
returns-then-number-ge262144 c = simp (le-ltb _ _ c.if-number-ge262144.true)

pub returns-then-has_destination : goal.returns-then-has_destination
unfolding is_pgn
returns-then-has_destination c = let n = c.args.number in
    let to_one = ltb-true (pf_of (n * 256)) 240 (sym c.has_destination.ensures ∙ c.if-has_destination.true) in
    rw (c.ps.ensures, ps_of_number n, lt-ltb n 262144 c.if-number-ge262144.false, lt-leb 240 (n / 256 % 256) (rw (pf_of_number n) at to_one))

pub returns : goal.returns
unfolding is_pgn
returns c = let n = c.args.number in
    let to-all = ltb-false (pf_of (n * 256)) 240 (sym c.has_destination.ensures ∙ c.if-has_destination.false) in
    rw (lt-ltb n 262144 c.if-number-ge262144.false, le-leb 240 (n / 256 % 256) (rw (pf_of_number n) at to-all))
