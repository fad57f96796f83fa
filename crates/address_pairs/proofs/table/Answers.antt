-- `address_pairs::table` meets its contract: one of the tables. Assumes nothing.
use Rattle.std.proofs.Common.{[], ◌-◌, sym, arith}
use Rattle.std.proofs.lemmas.List.{get_or-map}
use Rattle.address_pairs.specs.AddressPairs.{pairs_of}
use Rattle.address_pairs.proofs.table.Goals as goal

pub returns : goal.returns
returns c = rw (← c.whole.ensures.value) (sym (get_or-map pairs_of c.whole.result.now (c.args.port - 2) [] [] (omega arith)))
