-- `address_pairs::whole` meets its contract: the words are cut into tables. Assumes nothing.
use Rattle.std.proofs.Common.{length, ◌/◌}
use Rattle.storage.proofs.Chunks.{chunks_mean}
use Rattle.address_pairs.specs.AddressPairs.{pairs_length, pairs_of, tables_of}
use Rattle.address_pairs.proofs.whole.Goals as goal

pub returns : goal.returns
unfolding tables_of
returns c =
    let words = c.args.tables.now in
    record {
      value = rw c.as_chunks.ensures.front (chunks_mean pairs_of pairs_length 0 (length words / pairs_length) words);
      many = c.as_chunks.ensures.front_len;
    }
