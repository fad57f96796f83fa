-- `address_pairs::check` meets its contract: by the tests on the way. Assumes nothing.
use Rattle.std.proofs.Common.{arith, ◌≡◌, sym, ◌∙◌}
use Rattle.address_pairs.specs.AddressPairs.{inner_side, stands, tables_of, table_of}
use Rattle.address_pairs.proofs.Adding.{either_wrong, inner_twice, outer_twice, is_full, not_full, table_full, none_applies_lem}
use Rattle.address_pairs.proofs.check.Goals.{then-stands-via-then-stands, then-stands-via-else-stands+then-any_outer}
use Rattle.address_pairs.proofs.check.Goals as goal

pub returns-then-greater-ge-ADDRESSES : goal.returns-then-greater-ge-ADDRESSES
returns-then-greater-ge-ADDRESSES c =
    let a = c.args in
    either_wrong (tables_of a.tables.now) a.port a.outer a.inner (rw (← c.max-greater.ensures) c.if-greater-ge-ADDRESSES.true)

pub returns-then-stands : goal.returns-then-stands
returns-then-stands c =
    let a = c.args in
    let here : c.stands.result ≡ stands inner_side (table_of (tables_of a.tables.now) a.port) a.inner = c.stands.ensures ∙ rw c.table-own.ensures in
    elim c.then-stands.branch [
      | then-stands-via-then-stands w ↦
          inner_twice (tables_of a.tables.now) a.port a.outer a.inner (omega arith) (omega arith) (sym here ∙ w.if-stands.true)
      | then-stands-via-else-stands+then-any_outer w ↦
          outer_twice (tables_of a.tables.now) a.port a.outer a.inner (omega arith) (omega arith)
          (sym here ∙ w.if-stands.false) (sym w.any_outer.ensures ∙ w.if-any_outer.true)
    ]

pub returns-then-count-ge-MOST : goal.returns-then-count-ge-MOST
returns-then-count-ge-MOST c =
    let a = c.args in
    let here : c.stands.result ≡ stands inner_side (table_of (tables_of a.tables.now) a.port) a.inner = c.stands.ensures ∙ rw c.table-own.ensures in
    table_full (tables_of a.tables.now) a.port a.outer a.inner (omega arith) (omega arith)
    (sym here ∙ c.if-stands.false) (sym c.any_outer.ensures ∙ c.if-any_outer.false) (is_full (table_of (tables_of a.tables.now) a.port) (c.count.ensures.0 ∙ rw c.table-own.ensures) c.if-count-ge-MOST.true)

pub returns : goal.returns
returns c =
    let a = c.args in
    let here : c.stands.result ≡ stands inner_side (table_of (tables_of a.tables.now) a.port) a.inner = c.stands.ensures ∙ rw c.table-own.ensures in
    none_applies_lem (tables_of a.tables.now) a.port a.outer a.inner (omega arith) (omega arith)
    (sym here ∙ c.if-stands.false) (sym c.any_outer.ensures ∙ c.if-any_outer.false) (not_full (table_of (tables_of a.tables.now) a.port) (c.count.ensures.0 ∙ rw c.table-own.ensures) c.if-count-ge-MOST.false)
