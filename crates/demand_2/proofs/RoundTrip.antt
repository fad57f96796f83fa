-- A list that a Request is answered with, sent back as Create, is created again: the reply is decoded to the pair, the mode and the list that it reports
-- (`round_trip` of network_message), a cleared pair takes any sound list, and what is created is the list (`restored` of filter). Assumes nothing.
use mathlib.Core.Path.{◌≡◌, refl, sym, ap, ◌∙◌}
use mathlib.Core.Bool.{Bool, true, false, cond, ◌||◌, or-true}
use mathlib.Core.Logic.{◌⊎◌, ⊎_elim}
use mathlib.Core.List.{List, [], ◌∷◌}
use Prim.Native.Nat.{ℕ, zero, suc, ◌+◌, ◌-◌, ◌*◌, ◌≤◌, ◌<◌}
use native.Mathlib.Omega.{arith}
use borrow.Author.Tests.{eq-eqb, ne_eqb, eqb-true, eqb-false, le-leb, le-ltb}
use lib.ListN.{length, drop, get_or}
use lib.Dec.{eqb}
use Rattle.identifier.specs.Identifier.{is_pgn}
use Rattle.filter.specs.Filter.{Filter, clear, reported_mode, is_cleared}
use Rattle.pgn_list.specs.PgnList.{list_size}
use Rattle.entries.specs.Entries.{every, listed}
use Rattle.filter_commands.specs.Changes.{would_pass, Sound}
use Rattle.pgn_list.proofs.Lists.{add_different}
use Rattle.entries.proofs.Reported.{pgns_small, reported_back}
use Rattle.filter_commands.proofs.Laws.{restored}
use Rattle.network_message.specs.Asked.{Refused, Request}
use Rattle.network_message.specs.Decoding.{Judged, function_of, pair_of, from_of, to_of, is_pair, all_ports, is_general, may_name, judged, command_of, answered, decoded, longest}
use Rattle.checks.specs.Ports.{is_port}
use Rattle.checks.proofs.Ports.{port_bounds}
use Rattle.network_message.specs.Commands.{reaches}
use Rattle.replies.specs.SentBack.{as_create}
use Rattle.replies.specs.Replies.{filled, list_body, list_reply}
use Rattle.replies.proofs.RoundTrip.{round_trip}
use Rattle.unit.specs.declared.Claim.TheVariants.{Claimed}
use Rattle.filter_commands.specs.declared.pairs.Question.TheVariants.{IsNotCleared, WouldPass}
use Rattle.filter_commands.specs.declared.pairs.Change.TheVariants.{Creates}
use Rattle.unit.specs.Count.{pair_count}
use Rattle.unit.specs.Model.{Rest, Seen, pair_at, record_length}
use Rattle.list_commands.specs.Commands.{IsPair, first_pair, names, any_below, any_named, holds_at, list_refusal, list_checks, commanded}
use Rattle.filter_commands.specs.Pairs.{holds_of, change_of}
use Rattle.message_answers.specs.Messages.{Replied, performed_by}
use Rattle.bridge.specs.Calls.{silent_reply, messaged}
use Rattle.refusals.specs.Refusals.{message_refusal}
use Rattle.list_commands.proofs.Ranks.{names_is, target, target_pair, target_rank, target_at}
use Rattle.demand_2.specs.Demand2.{plain}
use Rattle.demand_2.proofs.Commands.{commanded_named}

abbrev pair_in : ℕ → Rest → ℕ → ℕ → Filter
pair_in ports rest a b = get_or rest.pairs (pair_at ports (a - 1) (b - 1)) clear

-- ---- the Request
-- what a Request that was not refused wrote
abbrev Reported : ℕ → Rest → List ℕ → Replied → Type 0
Reported ports rest payload r = (seen : Seen) → r.written seen ≡ list_reply (pair_of payload) (pair_in ports rest (from_of (pair_of payload)) (to_of (pair_of payload)))

module _ (ports : ℕ) (rest : Rest) (requester : ℕ) (payload : List ℕ) where
  request_done : (j : Judged) (from to : ℕ) → (performed_by ports rest requester payload (answered j (Request from to))).number ≡ 0
      → (seen : Seen) → (performed_by ports rest requester payload (answered j (Request from to))).written seen ≡ list_reply (pair_of payload) (pair_in ports rest from to)
  unfolding performed_by
  request_done j from to = go (eqb j.number 0) refl
    where
      go : (t : Bool) → eqb j.number 0 ≡ t → (performed_by ports rest requester payload (cond t (Request from to) (Refused j.number j.entry))).number ≡ 0
          → (seen : Seen) → (performed_by ports rest requester payload (cond t (Request from to) (Refused j.number j.entry))).written seen ≡ list_reply (pair_of payload) (pair_in ports rest from to)
      go true e z seen = refl
      go false e z seen = absurd (eqb-false j.number 0 e z)

  pub request_reported : (lent lentReply port : ℕ) → function_of payload ≡ 0 → (messaged ports lent lentReply rest port requester payload).number ≡ 0 → Reported ports rest payload (messaged ports lent lentReply rest port requester payload)
  unfolding messaged decoded command_of
  request_reported lent lentReply port f z = go (eqb n 0) refl z
    where
      n : ℕ
      n = message_refusal ports lent lentReply rest port requester (length payload)

      go : (t : Bool) → eqb n 0 ≡ t → (cond t (performed_by ports rest requester payload (decoded ports port payload)) (silent_reply n rest.pairs)).number ≡ 0
          → Reported ports rest payload (cond t (performed_by ports rest requester payload (decoded ports port payload)) (silent_reply n rest.pairs))
      go true e h seen =
          rw f (request_done (judged ports port 0 (from_of (pair_of payload)) (to_of (pair_of payload)) payload) (from_of (pair_of payload)) (to_of (pair_of payload)) (rw f at h) seen)
      go false e h seen = absurd (eqb-false n 0 e h)

-- ---- the Create
any_none : (test : ℕ → Bool) (n : ℕ) → ((k : ℕ) → k < n → test k ≡ false) → any_below test n ≡ false
unfolding any_below
any_none test zero h = refl
any_none test (suc n) h = rw (any_none test n (λ k l. h k (omega arith)), h n (omega arith))

-- a sound list fits on a cleared pair
fits : (f : Filter) → Sound f → would_pass clear f.entries ≡ false
unfolding would_pass
fits f S = rw (add_different [] f.entries S.different) (le-ltb list_size (length f.entries) S.few)

-- a pair with entries is not cleared
with_entries : (f : Filter) → Sound f → 1 ≤ length f.entries → is_cleared f.mode ≡ false
with_entries f S some = go (is_cleared f.mode) refl
  where
    go : (t : Bool) → is_cleared f.mode ≡ t → t ≡ false
    go true e = let z : length f.entries ≡ 0 = ap length (S.none e) in absurd (omega arith)
    go false e = refl

module _ (ports : ℕ) (few : ports ≤ 8) (from to : ℕ) (P : IsPair ports from to) where
  one : (1 ≤ to) × (to ≤ ports)
  one = port_bounds ports to P.to

  pair_named : is_pair ports 6 from to ≡ true
  unfolding is_pair
  pair_named = rw (P.from, P.to, ne_eqb from to P.apart)

  reaches_it : reaches ports from to to ≡ true
  unfolding reaches
  reaches_it = rw (ne_eqb to all_ports (λ e. omega (arith, one)), eq-eqb to to refl)

  -- where the pair is cleared, no pair that is named is anything else
  module _ (other : Rest) (empty : pair_in ports other from to ≡ clear) (test : Filter → Bool) (no : test clear ≡ false) where
    none_holds : any_named ports (ports - 1) test from to other.pairs ≡ false
    unfolding any_named reaches
    none_holds = any_none (holds_at ports test from to other.pairs) (ports - 1) (λ k l. go k l (names from to k) refl)
      where
        named_to : (b : ℕ) → reaches ports from to b ≡ true → b ≡ to
        named_to b e = eqb-true b to (rw (ne_eqb to all_ports (λ h. omega (arith, one))) at e)

        it_is : (k : ℕ) → k < ports - 1 → names from to k ≡ true → get_or other.pairs (first_pair ports from + k) clear ≡ clear
        it_is k l e =
            let low = port_bounds ports from P.from in
            let Q = target_pair ports from k low.0 low.1 l in
            let b = target ports from k low.0 low.1 l in
            let h = named_to b (sym (names_is ports from b Q to) ∙ rw (target_rank ports from k low.0 low.1 l) e) in
            rw (← (target_at ports from k low.0 low.1 l), h) empty

        go : (k : ℕ) → k < ports - 1 → (t : Bool) → names from to k ≡ t → holds_at ports test from to other.pairs k ≡ false
        go k l true e = rw (e, it_is k l e) no
        go k l false e = rw e

-- the Create is done, and the pair is the one that was reported, without its NAME entries
module _ (ports : ℕ) (few : ports ≤ 8) (other : Rest) (long : length other.pairs ≡ pair_count ports) (f : Filter) (S : Sound f) (pgns : every is_pgn f.entries ≡ true) (some : 1 ≤ length f.entries) (from to : ℕ) (P : IsPair ports from to) (empty : pair_in ports other from to ≡ clear) where
  abbrev passing : Bool
  passing = eqb (reported_mode f.mode) 1

  pub create_allowed : list_refusal ports (Creates passing) f.entries from to other.pairs ≡ 0
  unfolding list_refusal list_checks holds_of is_cleared
  create_allowed =
      rw (none_holds ports few from to P other empty (holds_of IsNotCleared f.entries) cleared_is, none_holds ports few from to P other empty (holds_of WouldPass f.entries) fitting)
    where
      cleared_is : holds_of IsNotCleared f.entries clear ≡ false
      cleared_is = refl

      fitting : holds_of WouldPass f.entries clear ≡ false
      fitting = fits f S

  pub create_done : get_or (commanded ports (Creates passing) f.entries from to other.pairs) (pair_at ports (from - 1) (to - 1)) clear ≡ plain f
  unfolding change_of
  create_done =
      let low = port_bounds ports from P.from in
      commanded_named ports (Creates passing) f.entries from to other.pairs long low.0 low.1 from to P (rw (eq-eqb from from refl) (reaches_it ports few from to P)) create_allowed
      ∙ rw empty (rw (reported_back f.entries (pgns_small f.entries pgns)) at (restored f S pgns (with_entries f S some)))

-- ---- the message that holds it
goes : (ports : ℕ) (other : Rest) (lent lentReply port requester n : ℕ) → lent ≡ record_length ports → longest ≤ lentReply → is_port ports port ≡ true → other.own.claim ≡ Claimed → requester < 254 → 8 ≤ n → n ≤ longest → message_refusal ports lent lentReply other port requester n ≡ 0
unfolding message_refusal is_port
goes ports other lent lentReply port requester n l b p c q least most =
    rw (
      p,
      eq-eqb lent (record_length ports) l,
      le-ltb lentReply longest b,
      c,
      le-leb 8 n least,
      le-leb n longest most,
      le-ltb 253 requester (omega arith),
    )

-- a tool that may name the pair
may_name_lem : (ports port a b : ℕ) → (port ≡ 1) ⊎ ((a ≡ port) ⊎ (b ≡ port)) → may_name ports port 6 a b ≡ true
unfolding may_name is_general listed
may_name_lem ports port a b =
    ⊎_elim (λ e. rw (eq-eqb port 1 e)) (⊎_elim (λ e. rw (eq-eqb a port e) (last (eqb port 1) (eqb b port))) (λ e. rw (eq-eqb b port e) (or-true (eqb port 1))))
  where
    last : (x y : Bool) → (x || (y || true)) ≡ true
    last true y = refl
    last false y = or-true y

-- and its port is one of the unit's
pub tool_port : {ports port a b : ℕ} → 2 ≤ ports → IsPair ports a b → (port ≡ 1) ⊎ ((a ≡ port) ⊎ (b ≡ port)) → is_port ports port ≡ true
unfolding is_port
tool_port {ports} least P = ⊎_elim (λ e. rw (e, le-leb 1 ports (omega arith))) (⊎_elim (λ e. rw (← e) P.from) (λ e. rw (← e) P.to))

-- the list f was reported by a Request with the pair byte `asked`, and is sent for the pair from a to b
module _ (ports : ℕ) (few : ports ≤ 8) (other : Rest) (long : length other.pairs ≡ pair_count ports) (f : Filter) (S : Sound f) (pgns : every is_pgn f.entries ≡ true) (some : 1 ≤ length f.entries) (asked a b : ℕ) (P : IsPair ports a b) (empty : pair_in ports other a b ≡ clear) where
  abbrev pair : ℕ
  pair = 16 * a + b

  -- the pair byte of the reply is not sent back
  sent_is : 6 ∷ pair ∷ drop 2 (list_reply asked f) ≡ as_create (list_reply pair f)
  unfolding as_create list_reply filled list_body
  sent_is = refl

  create_sent : (lent lentReply port requester : ℕ) → lent ≡ record_length ports → longest ≤ lentReply → is_port ports port ≡ true → other.own.claim ≡ Claimed → requester < 254 → (port ≡ 1) ⊎ ((a ≡ port) ⊎ (b ≡ port))
      → ((messaged ports lent lentReply other port requester (as_create (list_reply pair f))).number ≡ 0)
      × (get_or (messaged ports lent lentReply other port requester (as_create (list_reply pair f))).pairs (pair_at ports (a - 1) (b - 1)) clear ≡ plain f)
  unfolding messaged performed_by
  create_sent lent lentReply port requester l t p c q may =
      let to = port_bounds ports b P.to in
      let from_is : from_of pair ≡ a = omega arith in
      let to_is : to_of pair ≡ b = omega arith in
      let B = round_trip ports port pair f (rw (from_is, to_is) (pair_named ports few a b P)) (rw (from_is, to_is) (may_name_lem ports port a b may)) some pgns in
      let least : 8 ≤ length (as_create (list_reply pair f)) = omega (arith, B.long) in
      let most : length (as_create (list_reply pair f)) ≤ longest = omega (arith, B.long, S.few) in
      rw (goes ports other lent lentReply port requester (length (as_create (list_reply pair f))) l t p c q least most, B.command, from_is, to_is, B.list)
      (create_allowed ports few other long f S pgns some a b P empty, create_done ports few other long f S pgns some a b P empty)

  pub sent_back : (lent lentReply port requester : ℕ) → lent ≡ record_length ports → longest ≤ lentReply → is_port ports port ≡ true → other.own.claim ≡ Claimed → requester < 254 → (port ≡ 1) ⊎ ((a ≡ port) ⊎ (b ≡ port))
      → ((messaged ports lent lentReply other port requester (6 ∷ pair ∷ drop 2 (list_reply asked f))).number ≡ 0)
      × (get_or (messaged ports lent lentReply other port requester (6 ∷ pair ∷ drop 2 (list_reply asked f))).pairs (pair_at ports (a - 1) (b - 1)) clear ≡ plain f)
  sent_back lent lentReply port requester l t p c q may = rw sent_is (create_sent lent lentReply port requester l t p c q may)
