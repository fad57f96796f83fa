-- The model of a unit, which is the book of docs/RULES.md: the pairs, the address table, the unit itself, and for each port a row of frames in order of
-- joining, with what is counted there. And what a record of words means as a model. All is over the number of ports; ports are counted from 0 here.
-- Assumes nothing.
use Rattle.std.specs.Prelude.{ℕ, zero, suc, ◌+◌, ◌-◌, ◌*◌, ◌%◌, ◌^◌, cond, List, take, drop, get_or, set, ltb}
use Rattle.storage.specs.Blocks.{blocks_of}
use Rattle.filter.specs.Filter.{Filter, filter_of}
use Rattle.filter.specs.Filter.{block_size as filter_length}
use Rattle.queue.specs.declared.Frame.{Frame}
use Rattle.queue.specs.Queue.{Queued, queue_of, idle}
use Rattle.queue.specs.Queue.{block_length as queue_length}
use Rattle.losses.specs.Losses.{counter_length, losses_of}
use Rattle.addresses.specs.Table.{table_length, table_of, Place}
use Rattle.unit.specs.declared.Claim.{Claim}
use Rattle.unit.specs.declared.Claim.TheVariants.{Unstarted, Claiming, Claimed, Lost}
use Rattle.unit.specs.declared.Unit.{Unit}
use Rattle.unit.specs.Count.{ports_of, pair_count}

-- ---- the model
-- what the rules keep besides the rows: no row has a say in it
pub record Rest : Type 0 where
  pub own : Unit
  pub pairs : List Filter
  pub table : List Place

-- what is only looked at, by a reply: it moves neither the rest nor a row, and no number depends on it. A counter of losses for each pair, in the pairs'
-- order, and the general one behind them (docs/RULES.md, "Parameters")
pub record Seen : Type 0 where
  pub losses : List ℕ

pub record Model : Type 0 where
  pub rest : Rest
  pub queues : List Queued
  pub seen : Seen

-- port q's queue, and its row
abbrev pub queue_on : Model → ℕ → Queued
queue_on m q = get_or m.queues q idle

abbrev pub row_at : Model → ℕ → List Frame
row_at m q = (queue_on m q).row

-- the place of pair p to q, which are not equal, among the pairs: in order of p, then of q
abbrev pub pair_at : ℕ → ℕ → ℕ → ℕ
pair_at ports p q = (ports - 1) * p + cond (ltb q p) q (q - 1)

-- the place of the general counter, which is no pair's, among the counters
abbrev pub general_at : ℕ → ℕ
general_at ports = pair_count ports

-- one thing changed
abbrev pub with_own : Rest → Unit → Rest
with_own rest own = record { own = own; pairs = rest.pairs; table = rest.table }

abbrev pub with_pairs : Rest → List Filter → Rest
with_pairs rest pairs = record { own = rest.own; pairs = pairs; table = rest.table }

abbrev pub with_table : Rest → List Place → Rest
with_table rest table = record { own = rest.own; pairs = rest.pairs; table = table }

abbrev pub with_rest : Model → Rest → Model
with_rest m rest = record { rest = rest; queues = m.queues; seen = m.seen }

abbrev pub with_queues : Model → List Queued → Model
with_queues m queues = record { rest = m.rest; queues = queues; seen = m.seen }

abbrev pub with_losses : Model → List ℕ → Model
with_losses m losses = record { rest = m.rest; queues = m.queues; seen = record { losses = losses } }

abbrev pub with_queue : Model → ℕ → Queued → Model
with_queue m q x = with_queues m (set m.queues q x)

-- ---- the record
-- the unit's own words: claim state, address, preferred address, NAME, number of ports
abbrev pub own_length : ℕ
own_length = 5

unfoldable pub claim_from : ℕ → Claim
claim_from zero = Unstarted
claim_from (suc zero) = Claiming
claim_from (suc (suc zero)) = Claimed
claim_from (suc (suc (suc n))) = Lost

unfoldable pub unit_of : List ℕ → Unit
unit_of words = record {
  claim = claim_from (get_or words 0 0);
  address = get_or words 1 0 % 256;
  preferred = get_or words 2 0 % 2 ^ 32;
  name = get_or words 3 0;
  ports = ports_of words;
}

-- the regions: own, the address table, a queue for each port, a filter for each pair, a counter of losses for each pair and the general one; so a queue's place does not depend on the number of ports
abbrev pub table_from : ℕ
table_from = own_length

abbrev pub rows_from : ℕ
rows_from = table_from + table_length

abbrev pub pairs_from : ℕ → ℕ
pairs_from ports = rows_from + queue_length * ports

abbrev pub losses_from : ℕ → ℕ
losses_from ports = pairs_from ports + filter_length * pair_count ports

abbrev pub record_length : ℕ → ℕ
record_length ports = losses_from ports + counter_length * (pair_count ports + 1)

unfoldable pub model_of : ℕ → List ℕ → Model
model_of ports words = record {
  rest = record {
    own = unit_of (take own_length words);
    pairs = blocks_of (pairs_from ports) filter_length (pair_count ports) filter_of words;
    table = table_of (take table_length (drop table_from words));
  };
  queues = blocks_of rows_from queue_length ports queue_of words;
  seen = record { losses = blocks_of (losses_from ports) counter_length (pair_count ports + 1) losses_of words };
}
