-- The clauses of the exported functions and where C finds the fields of a link: by computing. Assumes nothing.
use Rattle.std.specs.Prelude.{refl}
use Rattle.c_demands.specs.Clauses.{EveryClause, LinkLayout}

pub clauses : EveryClause
clauses M 𝓤 𝓛 mem run = record {
  version_clause = λ κs. refl;
  power_on_clause = λ κs w w' name preferred count r. (refl, refl);
  power_on_four_clause = λ κs w w' name preferred count r. (refl, refl);
  quiet_clause = λ κs w w' name preferred count r. (refl, refl);
  start_clause = λ κs w w' a a' r. (refl, refl);
  unit_clause = λ κs w w' a a' port r. (refl, refl);
  counts_clause = λ κs w w' a a' port r. (refl, refl);
  frame_clause = λ κs w w' a a' port id r b b'. (refl, refl);
  take_clause = λ κs w w' a a' port id r b b'. (refl, refl);
  message_clause = λ κs w w' p p' b b' a a' port requester r. (refl, refl);
  queue_clause = λ κs q q' a a' b b' r. (refl, refl);
  plan_clause = λ κs segments units first pgn r ls ls' a a' ps ps'. (refl, refl);
  links_clause = λ κs segments units first pgn r ls ls' a a' ks ks'. (refl, refl);
}

pub link_layout : LinkLayout
link_layout = record { link_bytes = refl; link_offsets = (refl, refl, refl); link_fields = λ l. refl }
