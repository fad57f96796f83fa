-- `record::ask_filter` meets its contract: where the pair has NAME entries the sender's NAME is looked up, and the filter's block is lent to be read. Assumes nothing.
use mathlib.Core.Path.{refl, sym, ◌∙◌}
use borrow.Author.Tests.{leb-true, leb-false}
use native.Mathlib.Omega.{arith}
use lib.ListN.{get_or}
use Rattle.storage.proofs.Parts.{range_size}
use Rattle.addresses.specs.Table.{name_at}
use Rattle.filter.specs.Filter.{block_size as filter_length}
use Rattle.unit.specs.Model.{pair_at, model_of}
use Rattle.record.proofs.Regions.{first_word, pair_asked}
use borrow.Author.Rules.{rules}
use Rattle.record.proofs.ask_filter.Goals as goal

pub ask_named-requires : goal.ask_named-requires
ask_named-requires c = let args = c.args in
    let named = leb-true 3 (get_or args.words.now args.a 0) (sym c.has_names.ensures ∙ c.if-has_names.true) in
    (search rules, rw (range_size args.a filter_length, first_word args.words.now args.a filter_length (omega arith)) named)

pub returns-then-has_names : goal.returns-then-has_names
returns-then-has_names c = let args = c.args in
    let A = rw (range_size args.a filter_length) at c.ask_named.ensures in (
      (λ ports p q h e.
          pair_asked ports args.words.now p q args.pgn (pair_at ports p q) _ c.ask_named.result refl h (rw (e, c.sender-from.ensures ports) at A)),
      A.small,
    )

pub ask_plain-requires : goal.ask_plain-requires
ask_plain-requires c = (search rules, leb-false 3 _ (sym c.has_names.ensures ∙ c.if-has_names.false))

pub returns : goal.returns
returns c = let args = c.args in
    let E = c.ask_plain.ensures in
    ((λ ports p q h e. E.0 ports p q (name_at (model_of ports args.words.now).rest.table args.address) h e), omega (arith, E.1))
