-- The unit's own words: read, stored, and as power_on leaves them. Assumes nothing.
use Rattle.std.specs.Prelude.{None}
use mathlib.Core.Path.{◌≡◌, refl, sym, ◌∙◌}
use mathlib.Core.Bool.{Bool, true, false, not, cond}
use mathlib.Core.Logic.{inr}
use mathlib.Core.List.{List, [], ◌∷◌, ◌++◌}
use Prim.Native.Nat.{ℕ, zero, suc, ◌+◌, ◌%◌, ◌^◌, ◌≤◌, ◌<◌}
use native.Mathlib.Nat.{mod-lt, mod-eq_of_lt}
use native.Mathlib.Omega.{arith}
use borrow.Author.Tests.{eq-eqb, ne_eqb}
use lib.ListN.{length, get_or, set, take, drop, replicate}
use lib.Seq.{get_or-take}
use Rattle.storage.proofs.Parts.{part_in, part_apart, store_back}
use Rattle.storage.proofs.Blocks.{blocks_apart, blocks_filled, part_filled}
use Rattle.filter.specs.Filter.{filter_of, meant, clear}
use Rattle.filter.specs.Filter.{block_size as filter_length}
use Rattle.queue.specs.Queue.{row_of, tally_of, queue_of, idle}
use Rattle.queue.specs.Queue.{block_length as queue_length}
use Rattle.losses.specs.Losses.{held, counter_length, losses_of}
use Rattle.addresses.specs.Table.{places, place_from, place_of, table_of, table_length}
use Rattle.unit.specs.declared.Claim.{Claim}
use Rattle.unit.specs.declared.Claim.TheVariants.{Unstarted, Claiming, Claimed, Lost}
use Rattle.unit.specs.declared.Unit.{Unit}
use Rattle.unit.specs.Count.{is_count, count_of, ports_of, pair_count}
use Rattle.unit.specs.Model.{table_from, rows_from, pairs_from, losses_from, record_length, claim_from, unit_of, model_of, with_own, with_rest}
use Rattle.unit.specs.Own.{claim_word, fresh_unit, moved}
use Rattle.unit.specs.PowerOn.{power_on_refusal, PoweringOn}
use Rattle.unit.proofs.Count.{count_same, count_taken, count_refused, ports_bounds, ports_taken}

-- ---- reading
pub lost_from_lem : (word : ℕ) → 2 < word → Lost ≡ claim_from word
unfolding claim_from
lost_from_lem zero h = absurd (omega arith)
lost_from_lem (suc zero) h = absurd (omega arith)
lost_from_lem (suc (suc zero)) h = absurd (omega arith)
lost_from_lem (suc (suc (suc n))) h = refl

module _ (ports : ℕ) (words : List ℕ) where
  pub own_read : record {
    claim = claim_from (get_or words 0 0);
    address = get_or words 1 0 % 256;
    preferred = get_or words 2 0 % 2 ^ 32;
    name = get_or words 3 0;
    ports = count_of (get_or words 4 0);
  } ≡ (model_of ports words).rest.own
  unfolding model_of unit_of ports_of
  own_read =
      rw (
        get_or-take 5 words 0 0 (omega arith),
        get_or-take 5 words 1 0 (omega arith),
        get_or-take 5 words 2 0 (omega arith),
        get_or-take 5 words 3 0 (omega arith),
        get_or-take 5 words 4 0 (omega arith),
      )

  pub address_small : (model_of ports words).rest.own.address < 256
  unfolding model_of unit_of
  address_small = mod-lt (get_or (take 5 words) 1 0) (omega arith)

  -- the unit's number of ports is the record's
  pub own_ports : (model_of ports words).rest.own.ports ≡ ports_of words
  unfolding model_of unit_of
  own_ports = ports_taken words

  pub own_count : (2 ≤ (model_of ports words).rest.own.ports) × ((model_of ports words).rest.own.ports ≤ 8)
  own_count = rw own_ports (ports_bounds words)

-- a unit in another claim state has as many ports
pub moved_count : (ports : ℕ) (words : List ℕ) {u v : Unit} {claim : Claim} {address : ℕ} → u ≡ (model_of ports words).rest.own → v ≡ moved u claim address → (2 ≤ v.ports) × (v.ports ≤ 8)
moved_count ports words own m = rw (m, own) (own_count ports words)

-- ---- storing
back_word : (claim : Claim) → claim_from (claim_word claim) ≡ claim
unfolding claim_from
back_word Unstarted = refl
back_word Claiming = refl
back_word Claimed = refl
back_word Lost = refl

unit_of_five : (u : Unit) → u.address < 256 → u.preferred < 2 ^ 32 → 2 ≤ u.ports → u.ports ≤ 8 → unit_of (claim_word u.claim ∷ u.address ∷ u.preferred ∷ u.name ∷ u.ports ∷ []) ≡ u
unfolding unit_of ports_of
unit_of_five u a p l m = rw (back_word u.claim, mod-eq_of_lt a, mod-eq_of_lt p, count_same l m)

pub own_stored : (words : List ℕ) (u : Unit) → 5 ≤ length words → u.address < 256 → u.preferred < 2 ^ 32 → 2 ≤ u.ports → u.ports ≤ 8 → (ports : ℕ)
    → model_of ports ((claim_word u.claim ∷ u.address ∷ u.preferred ∷ u.name ∷ u.ports ∷ []) ++ drop 5 words) ≡ with_rest (model_of ports words) (with_own (model_of ports words).rest u)
unfolding model_of
own_stored words u full a p l m ports =
    let ys = claim_word u.claim ∷ u.address ∷ u.preferred ∷ u.name ∷ u.ports ∷ [] in
    rw (
      part_in 0 5 words ys refl (omega arith),
      unit_of_five u a p l m,
      blocks_apart 0 5 words ys refl (omega arith) filter_of filter_length (pairs_from ports) (pair_count ports) (inr (omega arith)),
      blocks_apart 0 5 words ys refl (omega arith) queue_of queue_length rows_from ports (inr (omega arith)),
      blocks_apart 0 5 words ys refl (omega arith) losses_of counter_length (losses_from ports) (pair_count ports + 1) (inr (omega arith)),
      part_apart 0 5 words ys refl (omega arith) table_from table_length (inr (omega arith)),
    )

-- the claim's word alone
own_moved : (words : List ℕ) (claim : Claim) → 5 ≤ length words → unit_of (take 5 (set words 0 (claim_word claim))) ≡ moved (unit_of (take 5 words)) claim (unit_of (take 5 words)).address
unfolding unit_of ports_of
own_moved [] claim h = absurd (omega arith)
own_moved (x ∷ []) claim h = absurd (omega arith)
own_moved (x ∷ y ∷ []) claim h = absurd (omega arith)
own_moved (x ∷ y ∷ z ∷ []) claim h = absurd (omega arith)
own_moved (x ∷ y ∷ z ∷ t ∷ []) claim h = absurd (omega arith)
own_moved (x ∷ y ∷ z ∷ t ∷ u ∷ rest) claim h = rw (back_word claim)

pub claim_stored : (words : List ℕ) (claim : Claim) (w : ℕ) → 5 ≤ length words → w ≡ claim_word claim → (ports : ℕ)
    → model_of ports (set words 0 w) ≡ with_rest (model_of ports words) (with_own (model_of ports words).rest (moved (model_of ports words).rest.own claim (model_of ports words).rest.own.address))
unfolding model_of
claim_stored words claim w full e ports =
    let ys = claim_word claim ∷ [] in
    rw (
      e,
      own_moved words claim full,
      store_back 0 words (claim_word claim) (omega arith),
      blocks_apart 0 1 words ys refl (omega arith) filter_of filter_length (pairs_from ports) (pair_count ports) (inr (omega arith)),
      blocks_apart 0 1 words ys refl (omega arith) queue_of queue_length rows_from ports (inr (omega arith)),
      blocks_apart 0 1 words ys refl (omega arith) losses_of counter_length (losses_from ports) (pair_count ports + 1) (inr (omega arith)),
      part_apart 0 1 words ys refl (omega arith) table_from table_length (inr (omega arith)),
    )

-- ---- power_on: a record of zeros, with the fresh unit
no_filter : filter_of (replicate filter_length 0) ≡ clear
unfolding filter_of meant
no_filter = refl

no_queue : queue_of (replicate queue_length 0) ≡ idle
unfolding queue_of row_of tally_of
no_queue = refl

no_losses : losses_of (replicate counter_length 0) ≡ 0
unfolding losses_of held
no_losses = refl

no_place : place_of (replicate 2 0) ≡ None
unfolding place_of place_from
no_place = refl

no_table : (n : ℕ) → n ≡ table_length → table_of (replicate n 0) ≡ replicate places None
unfolding table_of
no_table n e = rw (blocks_filled n 0 place_of 2 0 254 (omega arith), no_place)

pub wiped : (n ports : ℕ) (u : Unit) → n ≡ record_length ports → with_rest (model_of ports (replicate n 0)) (with_own (model_of ports (replicate n 0)).rest u) ≡ record {
  rest = record { own = u; pairs = replicate (pair_count ports) clear; table = replicate places None };
  queues = replicate ports idle;
  seen = record { losses = replicate (pair_count ports + 1) 0 };
}
unfolding model_of
wiped n ports u e =
    rw (
      blocks_filled n 0 filter_of filter_length (pairs_from ports) (pair_count ports) (omega arith),
      blocks_filled n 0 queue_of queue_length rows_from ports (omega arith),
      blocks_filled n 0 losses_of counter_length (losses_from ports) (pair_count ports + 1) (omega arith),
      part_filled n 0 table_from table_length (omega arith),
      no_table table_length refl,
      no_filter,
      no_queue,
      no_losses,
    )

module _ {words : List ℕ} {count name preferred : ℕ} where
  -- the record was of its length, with the number that the count is answered with
  module _ {zeros after : List ℕ} {ports : ℕ} {u : Unit} (is : ports ≡ count_of count) (full : length words ≡ record_length ports) (long : length after ≡ length words) (z : zeros ≡ replicate (length words) 0)
      (fresh : u ≡ fresh_unit name preferred ports) (state : model_of ports after ≡ with_rest (model_of ports zeros) (with_own (model_of ports zeros).rest u)) where
    made : (r : ℕ) → r ≡ cond (not (is_count count)) 27 0 → PoweringOn count words after name preferred r
    unfolding power_on_refusal
    made r e = record {
      long = long;
      answer = e ∙ rw (← is, eq-eqb (length words) (record_length ports) full);
      state = λ _. rw (← is) (state ∙ rw (z, fresh) (wiped (length words) ports (fresh_unit name preferred ports) full));
      refused = λ h. absurd (neither (is_count count) (sym e ∙ h));
    }
      where
        neither : (b : Bool) → ◌≡◌ {A = ℕ} (cond (not b) 27 0) 2 → ⊥
        neither true h = omega arith
        neither false h = omega arith

    pub powered : ports ≡ count → PoweringOn count words after name preferred 0
    powered same = made 0 (rw (count_taken count (sym is ∙ same)))

    pub powered_with_four : (ports ≡ count → ⊥) → PoweringOn count words after name preferred 27
    powered_with_four other = made 27 (rw (count_refused count (λ e. other (is ∙ e))))

  pub not_powered : {ports : ℕ} → ports ≡ count_of count → (length words ≡ record_length ports → ⊥) → PoweringOn count words words name preferred 2
  unfolding power_on_refusal
  not_powered {ports} is h = record {
    long = refl;
    answer = rw (← is, ne_eqb (length words) (record_length ports) h);
    state = λ z. absurd (z refl);
    refused = λ _. refl;
  }
