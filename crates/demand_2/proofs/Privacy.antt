-- What a tool is told depends on what is its own alone: the pairs that a payload names are its own (`decoded_own`), so is the port of an address list, and
-- nothing else is read. By the kind of the command. Assumes nothing.
use Rattle.std.specs.Prelude.{None, Some}
use mathlib.Core.Path.{◌≡◌, refl, sym, ap, subst, ◌∙◌}
use mathlib.Core.Logic.{◌⊎◌, ◌↔◌}
use mathlib.Core.Bool.{Bool, true, false, cond, true≢false}
use mathlib.Core.List.{List}
use Prim.Native.Nat.{ℕ, zero, suc, ◌+◌, ◌-◌, ◌≤◌, ◌<◌}
use native.Mathlib.Omega.{arith}
use borrow.Author.Tests.{eq-eqb, ne_eqb, eqb-true}
use lib.ListN.{length, get_or}
use lib.Dec.{eqb}
use Rattle.checks.proofs.Tests.{both}
use Rattle.filter.specs.Filter.{Filter, clear}
use Rattle.entries.specs.Entries.{entries_of}
use Rattle.addresses.specs.Table.{held_on, Place, held}
use Rattle.addresses.proofs.Listed.{list_same}
use Rattle.network_message.specs.Asked.{Asked, Refused, Request, WithEntries, Clear, AddressList, Parameter, Reset, PairParameter, PairReset}
use Rattle.network_message.specs.Decoding.{all_ports, between, decoded}
use Rattle.network_message.specs.Commands.{Named, named, reaches, Own, Ports, Good}
use Rattle.replies.specs.Replies.{address_reply}
use Rattle.network_message.proofs.Decoding.{decoded_good, decoded_own}
use Rattle.filter_commands.specs.declared.pairs.Change.{Change}
use Rattle.filter_commands.specs.declared.pairs.Change.TheVariants.{Adds, Deletes, Creates, Names}
use Rattle.unit.specs.Count.{ports_of}
use Rattle.unit.specs.Model.{Model, Rest, Seen, pair_at, model_of}
use Rattle.filter_commands.specs.declared.pairs.Question.TheVariants.{Lacks}
use Rattle.filter_commands.specs.Pairs.{holds_of}
use Rattle.parameters.specs.Parameters.{pair_parameter}
use Rattle.list_commands.specs.Commands.{IsPair, first_pair, names, any_below, any_named, first_below, holds_at, absent_in, absent_at, list_refusal, list_checks}
use Rattle.list_commands.proofs.Ranks.{names_is, target, target_pair, target_rank, target_at}
use Rattle.list_commands.proofs.Searching.{first_found, refused_17}
use Rattle.message_answers.specs.Messages.{changed_by, Replied, nothing_told, absent_told, performed_by}
use Rattle.bridge.specs.Calls.{silent_reply, messaged}
use Rattle.refusals.specs.Refusals.{message_refusal}
use Rattle.refusals.proofs.Checks.{message_goes}
use Rattle.unit.proofs.Count.{ports_bounds}
use Rattle.demand_2.specs.Demand2.{unit_in, rest_of, SameTo}
use Rattle.demand_2.proofs.Pairs.{unit_in_lem, pair_in_lem, pair_is}
use Rattle.demand_2.proofs.Counters.{losses_in_lem}

-- ---- an address that is held on p in the one is held on p in the other
held_is : (p : ℕ) (u : Place) → held_on p u ≡ true → (name : ℕ) × (u ≡ held p name)
unfolding held_on
held_is p None e = absurd (true≢false (sym e))
held_is p (Some holder) e = (holder.name, ap (λ x. held x holder.name) (eqb-true holder.port p e))

is_held : (p name : ℕ) (u : Place) → u ≡ held p name → held_on p u ≡ true
unfolding held_on
is_held p name u e = rw e (eq-eqb p p refl)

held_same : (p : ℕ) (u v : Place) → ((name : ℕ) → (u ≡ held p name) ↔ (v ≡ held p name)) → held_on p u ≡ held_on p v
held_same p u v h = go (held_on p u) (held_on p v) refl refl
  where
    go : (b c : Bool) → held_on p u ≡ b → held_on p v ≡ c → b ≡ c
    go true true e f = refl
    go false false e f = refl
    go true false e f = let k = held_is p u e in absurd (true≢false (sym (is_held p k.0 v ((h k.0).0 k.1)) ∙ f))
    go false true e f = let k = held_is p v f in absurd (true≢false (sym (is_held p k.0 u ((h k.0).1 k.1)) ∙ e))

-- ---- a question to the pairs from a port
any_same : (s t : ℕ → Bool) (n : ℕ) → ((k : ℕ) → k < n → s k ≡ t k) → any_below s n ≡ any_below t n
unfolding any_below
any_same s t zero h = refl
any_same s t (suc n) h = rw (any_same s t n (λ k l. h k (omega arith)), h n (omega arith))

first_same : (s t : ℕ → Bool) (n : ℕ) → ((k : ℕ) → k < n → s k ≡ t k) → first_below s n ≡ first_below t n
unfolding first_below
first_same s t zero h = refl
first_same s t (suc n) h = rw (any_same s t n (λ k l. h k (omega arith)), first_same s t n (λ k l. h k (omega arith)), h n (omega arith))

-- lists of pairs that agree in those that are named
abbrev Agree : ℕ → List Filter → List Filter → ℕ → ℕ → Type 0
Agree ports ps qs from to = (k : ℕ) → k < ports - 1 → names from to k ≡ true → get_or ps (first_pair ports from + k) clear ≡ get_or qs (first_pair ports from + k) clear

module _ (ports : ℕ) (ps qs : List Filter) (from to : ℕ) (same : Agree ports ps qs from to) where
  held_at : (test : Filter → Bool) (k : ℕ) → k < ports - 1 → holds_at ports test from to ps k ≡ holds_at ports test from to qs k
  held_at test k l = go (names from to k) refl
    where
      go : (t : Bool) → names from to k ≡ t → holds_at ports test from to ps k ≡ holds_at ports test from to qs k
      go true e = rw (e, same k l e)
      go false e = rw e

  asked_same : (test : Filter → Bool) → any_named ports (ports - 1) test from to ps ≡ any_named ports (ports - 1) test from to qs
  unfolding any_named
  asked_same test = any_same (holds_at ports test from to ps) (holds_at ports test from to qs) (ports - 1) (held_at test)

  refused_same : (change : Change) (xs : List ℕ) → list_refusal ports change xs from to ps ≡ list_refusal ports change xs from to qs
  unfolding list_refusal list_checks
  refused_same Adds xs = rw (asked_same _, asked_same _)
  refused_same Deletes xs = rw (asked_same _, asked_same _)
  refused_same (Creates passing) xs = rw (asked_same _, asked_same _)
  refused_same (Names name mask) xs = rw (asked_same _, asked_same _)

  -- the first pair that lacks a PGN is named, so it is the same, and its list too
  absent_same : (xs : List ℕ) → any_named ports (ports - 1) (holds_of Lacks xs) from to ps ≡ true → absent_at ports xs from to ps ≡ absent_at ports xs from to qs
  unfolding any_named absent_at
  absent_same xs lacking =
      let test = holds_at ports (holds_of Lacks xs) from to ps in
      let k = first_below test (ports - 1) in
      let first = first_found test (ports - 1) lacking in
      let is-named = both (names from to k) (holds_of Lacks xs (get_or ps (first_pair ports from + k) clear)) first.1 in
      let one : k ≡ first_below (holds_at ports (holds_of Lacks xs) from to qs) (ports - 1) = first_same test (holds_at ports (holds_of Lacks xs) from to qs) (ports - 1) (held_at (holds_of Lacks xs)) in
      rw (same k first.0 is-named.0) (ap (λ j. absent_in xs from j (get_or qs (first_pair ports from + j) clear)) one)

  told_same : (change : Change) (xs : List ℕ) → absent_told ports (list_refusal ports change xs from to ps) xs from to ps ≡ absent_told ports (list_refusal ports change xs from to qs) xs from to qs
  unfolding absent_told
  told_same change xs = rw (← (refused_same change xs)) (go (eqb n 17) refl)
    where
      n : ℕ
      n = list_refusal ports change xs from to ps

      go : (t : Bool) → eqb n 17 ≡ t → cond t (absent_at ports xs from to ps) nothing_told ≡ cond t (absent_at ports xs from to qs) nothing_told
      go true e = absent_same xs (refused_17 ports change xs from to ps (eqb-true n 17 e))
      go false e = refl

-- ---- what is its own
-- two records with the same number of ports, read with that number
module _ (p : ℕ) (words other : List ℕ) (same : ports_of words ≡ ports_of other) (S : SameTo p words other) where
  abbrev ports : ℕ
  ports = ports_of words

  abbrev x : Rest
  x = rest_of words

  abbrev y : Rest
  y = (model_of (ports_of words) other).rest

  abbrev seen : Seen
  seen = (unit_in words).seen

  abbrev seen₂ : Seen
  seen₂ = (model_of (ports_of words) other).seen

  -- what is told: the number, the PGN, the bytes and which entry was wrong
  abbrev pub Told : Replied → Replied → Type 0
  Told r s = (r.number ≡ s.number) × (r.pgn ≡ s.pgn) × (r.written seen ≡ s.written seen₂) × (r.told ≡ s.told)

  pair_same : (a b : ℕ) → IsPair ports a b → (a ≡ p) ⊎ (b ≡ p) → get_or x.pairs (pair_at ports (a - 1) (b - 1)) clear ≡ get_or y.pairs (pair_at ports (a - 1) (b - 1)) clear
  pair_same a b P h = (S.pairs a b P h).0 ∙ pair_in_lem other (sym same) a b

  losses_same : (a b : ℕ) → IsPair ports a b → (a ≡ p) ⊎ (b ≡ p) → get_or seen.losses (pair_at ports (a - 1) (b - 1)) 0 ≡ get_or seen₂.losses (pair_at ports (a - 1) (b - 1)) 0
  losses_same a b P h = sym (losses_in_lem words refl a b P) ∙ (S.pairs a b P h).1 ∙ losses_in_lem other (sym same) a b P

  claim_same : x.own.claim ≡ y.own.claim
  claim_same = S.claim ∙ ap (λ (m : Model). m.rest.own.claim) (unit_in_lem other (sym same))

  address_same : x.own.address ≡ y.own.address
  address_same = S.address ∙ ap (λ (m : Model). m.rest.own.address) (unit_in_lem other (sym same))

  place_same : (a name : ℕ) → a < 254 → (get_or x.table a None ≡ held p name) ↔ (get_or y.table a None ≡ held p name)
  place_same a name l = subst (λ (m : Model). (get_or x.table a None ≡ held p name) ↔ (get_or m.rest.table a None ≡ held p name)) (unit_in_lem other (sym same)) (S.table a name l)

  own_agree : (from to : ℕ) → Ports ports from to → Own ports p (Named.pairs from to) → Agree ports x.pairs y.pairs from to
  own_agree from to ps own k l e =
      let P = target_pair ports from k ps.least ps.most l in
      let b = target ports from k ps.least ps.most l in
      let r = target_rank ports from k ps.least ps.most l in
      rw (target_at ports from k ps.least ps.most l) at (pair_same from b P (own b (sym (names_is ports from b P to) ∙ rw r e)))

  -- one pair that is named: its list and its counter
  own_pair : (from to : ℕ) → Ports ports from to → to ≤ ports → Own ports p (Named.pairs from to)
      → (get_or x.pairs (pair_at ports (from - 1) (to - 1)) clear ≡ get_or y.pairs (pair_at ports (from - 1) (to - 1)) clear)
      × (get_or seen.losses (pair_at ports (from - 1) (to - 1)) 0 ≡ get_or seen₂.losses (pair_at ports (from - 1) (to - 1)) 0)
  unfolding reaches
  own_pair from to ps h own =
      let few = (ports_bounds words).1 in
      let P = pair_is few ps h in
      let mine = own to (rw (ne_eqb to all_ports (λ e. omega arith), eq-eqb to to refl)) in
      (pair_same from to P mine, losses_same from to P mine)

  -- ---- what is told of each command
  module _ (requester : ℕ) (payload : List ℕ) where
    changed_told : (change : Change) (from to start end : ℕ) → Ports ports from to → Own ports p (Named.pairs from to) → Told (changed_by ports x requester payload change from to start end) (changed_by ports y requester payload change from to start end)
    changed_told change from to start end ps own =
        let n = refused_same ports x.pairs y.pairs from to (own_agree from to ps own) change (entries_of (between start end payload)) in
        (n, refl, rw n, told_same ports x.pairs y.pairs from to (own_agree from to ps own) change (entries_of (between start end payload)))

    performed_told : 2 ≤ p → (c : Asked) → Good ports payload c → Own ports p (named c) → Told (performed_by ports x requester payload c) (performed_by ports y requester payload c)
    unfolding performed_by named address_reply pair_parameter
    performed_told least (Refused number entry) g own = (refl, refl, refl, refl)
    performed_told least (Request from to) g own = (refl, refl, rw (own_pair from to g.0 g.1 own).0, refl)
    performed_told least (WithEntries change from to start end) g own = changed_told change from to start end g.0 own
    performed_told least (Clear from to) g own = (refl, refl, refl, refl)
    performed_told least (AddressList q) g own = (refl, refl, rw (own, address_same, list_same p y.own.address x.table y.table (λ a l. held_same p (get_or x.table a None) (get_or y.table a None) (λ name. place_same a name l))), refl)
    performed_told least (Parameter parameter) g own = absurd (omega (arith, least, own))
    performed_told least Reset g own = (refl, refl, refl, refl)
    performed_told least (PairParameter from to parameter) g own = let mine = own_pair from to g.0 g.1 own in (refl, refl, rw (mine.0, mine.1), refl)
    performed_told least (PairReset from to) g own = (refl, refl, refl, refl)

    refusal_same : (lent lentReply : ℕ) → message_refusal ports lent lentReply x p requester (length payload) ≡ message_refusal ports lent lentReply y p requester (length payload)
    unfolding message_refusal
    refusal_same lent lentReply = rw claim_same

    -- and of every message
    pub messaged_told : 2 ≤ p → p ≤ ports → (lent lentReply : ℕ) → Told (messaged ports lent lentReply x p requester payload) (messaged ports lent lentReply y p requester payload)
    unfolding messaged
    messaged_told least most lent lentReply = rw (refusal_same lent lentReply) (go (eqb n 0) refl)
      where
        n : ℕ
        n = message_refusal ports lent lentReply y p requester (length payload)

        go : (t : Bool) → eqb n 0 ≡ t → Told (cond t (performed_by ports x requester payload (decoded ports p payload)) (silent_reply n x.pairs)) (cond t (performed_by ports y requester payload (decoded ports p payload)) (silent_reply n y.pairs))
        go true z =
            performed_told least (decoded ports p payload)
            (decoded_good ports p payload (message_goes ports lent lentReply y p requester (length payload) (eqb-true n 0 z)).2)
            (decoded_own ports p payload least most (ports_bounds words).1)
        go false z = (refl, refl, refl, refl)
