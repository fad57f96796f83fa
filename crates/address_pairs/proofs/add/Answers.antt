-- `address_pairs::add` meets its contract: refused, or the table is lent and comes back with one more pair. Assumes nothing.
use Rattle.std.proofs.Common.{sym, ◌-◌, ◌*◌}
use Rattle.storage.proofs.Parts.{range_size}
use Rattle.address_pairs.specs.AddressPairs.{pairs_length}
use Rattle.address_pairs.proofs.Adding.{may_append, put_in}
use Rattle.address_pairs.proofs.add.Goals as goal

pub append-requires-clause-room : goal.append-requires-clause-room
append-requires-clause-room c =
    let a = c.args in
    rw (range_size (pairs_length * (a.port - 2)) pairs_length) (may_append a.tables.now a.port a.outer a.inner c.requires.0 c.requires.1 (sym c.in_ok-check.ensures)).1

pub append-requires-clause-addresses : goal.append-requires-clause-addresses
append-requires-clause-addresses c =
    let a = c.args in
    let may = may_append a.tables.now a.port a.outer a.inner c.requires.0 c.requires.1 (sym c.in_ok-check.ensures) in
    (may.2, may.3)

pub returns : goal.returns
returns c =
    let a = c.args in
    let lent = range_size (pairs_length * (a.port - 2)) pairs_length in
    rw lent (put_in a.tables.now a.port a.outer a.inner c.requires.0 c.requires.1 (sym c.in_ok-check.ensures) c.append.new.table (rw lent at c.append.ensures))
