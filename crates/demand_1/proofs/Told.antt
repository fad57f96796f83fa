-- What a message's answer tells of an entry: with 22 the first that is no PGN, with 17 the first that is absent, with any other number nothing. By the kind of
-- the command. Assumes nothing.
use mathlib.Core.Path.{◌≡◌, refl, sym, ap, ◌∙◌}
use mathlib.Core.Bool.{Bool, true, false, cond, not, ◌&&◌, ◌||◌, true≢false}
use mathlib.Core.List.{List, [], ◌∷◌}
use Prim.Native.Nat.{ℕ, suc, ◌+◌, ◌-◌, ◌≤◌, ◌<◌}
use native.Mathlib.Omega.{arith}
use borrow.Author.Tests.{eq-eqb, ne_eqb, eqb-true, eqb-false, ltb-true, ltb-false, not-false, not-true}
use lib.ListN.{length, get_or}
use lib.Dec.{eqb, ltb}
use Rattle.checks.specs.Checks.{acknowledges}
use Rattle.checks.specs.Ports.{is_port}
use Rattle.checks.proofs.FirstNumber.{first_in}
use Rattle.checks.proofs.Tests.{both}
use Rattle.identifier.specs.Identifier.{is_pgn}
use Rattle.filter.specs.Filter.{Filter, clear}
use Rattle.entries.specs.Entries.{listed, every, leading, first_wrong, entries_of}
use Rattle.entries.proofs.Leading.{leading_short, leading_holds, leading_fails, every_at}
use Rattle.filter_commands.specs.Changes.{lacks}
use Rattle.filter_commands.specs.declared.pairs.Question.TheVariants.{Lacks}
use Rattle.filter_commands.specs.declared.pairs.Change.{Change}
use Rattle.filter_commands.specs.declared.pairs.Change.TheVariants.{Adds, Deletes, Creates, Names}
use Rattle.filter_commands.specs.Pairs.{holds_of}
use Rattle.network_message.specs.Asked.{Asked, Refused}
use Rattle.network_message.specs.Decoding.{is_known, names_ports, may_name, holds_parameter, parameter_of, has_good_body, has_wrong_mode, entries_start, entries_end, between, name_of, mask_of, wrong_in, wrong_entry, payload_checks, refusal_of, judged, command_of, decoded}
use Rattle.network_message.specs.Commands.{Ports, Good}
use Rattle.network_message.proofs.Passing.{by_function}
use Rattle.network_message.proofs.Decoding.{decoded_good}
use Rattle.unit.specs.Count.{ports_of}
use Rattle.unit.specs.Model.{Rest, pair_at}
use Rattle.list_commands.specs.declared.Absent.{Absent}
use Rattle.list_commands.specs.Commands.{IsPair, target_of, first_pair, names, holds_at, any_named, first_below, held_before, absent_at, list_checks, list_refusal}
use Rattle.list_commands.proofs.Searching.{first_found, lacking_short, refused_17}
use Rattle.list_commands.proofs.Ranks.{rank, rank_target, target, target_pair, target_at}
use Rattle.message_answers.specs.Messages.{nothing_told, wrong_told, absent_told, performed_by}
use Rattle.bridge.specs.Calls.{silent_reply, messaged}
use Rattle.refusals.specs.Refusals.{message_checks, message_refusal}
use Rattle.refusals.proofs.Checks.{message_goes}
use Rattle.demand_1.specs.Demand1.{function, from, to, entries, rest_of, FirstWrong, leads_to, FirstAbsent}

-- a number that the test turns down is none that the test holds of
not_of_lem : (test : ℕ → Bool) {n m : ℕ} → test n ≡ true → test m ≡ false → n ≡ m → ⊥
not_of_lem test h k e = true≢false (sym h ∙ ap test e ∙ k)

-- entries are counted from 1
down : (n : ℕ) → suc n - 1 ≡ n
down n = omega arith

-- ---- 22
module _ (payload : List ℕ) where
  abbrev xs : List ℕ
  xs = entries payload

  -- the number of the first entry that is no PGN, of a command with entries
  wrong_entry_lem : wrong_entry (function payload) payload ≡ cond (listed (function payload) (2 ∷ 3 ∷ 6 ∷ 7 ∷ [])) (cond (every is_pgn xs) 0 (suc (leading is_pgn xs))) 0
  unfolding wrong_entry wrong_in first_wrong listed
  wrong_entry_lem = go (eqb 2 f) (eqb 3 f) (eqb 6 f) (eqb f 7) (eqb 7 f) refl refl refl refl refl
    where
      f : ℕ
      f = function payload

      -- of the entries that begin and end somewhere
      first_wrong_lem : List ℕ → ℕ
      first_wrong_lem ys = cond (every is_pgn ys) 0 (suc (leading is_pgn ys))

      listed_ones : List ℕ
      listed_ones = entries_of (between (entries_start f) (entries_end (entries_start f) payload) payload)

      go : (a b c d g : Bool) → eqb 2 f ≡ a → eqb 3 f ≡ b → eqb 6 f ≡ c → eqb f 7 ≡ d → eqb 7 f ≡ g
          → cond (a || (b || (c || false))) (first_wrong_lem listed_ones) (cond d (first_wrong_lem (entries_of (between 2 5 payload))) 0)
          ≡ cond (a || (b || (c || (g || false)))) (first_wrong_lem (entries_of (cond d (between 2 5 payload) (between (entries_start f) (entries_end (entries_start f) payload) payload)))) 0
      go a b c true false x y z w v = absurd (eqb-false 7 f v (sym (eqb-true f 7 w)))
      go a b c false true x y z w v = absurd (eqb-false f 7 w (sym (eqb-true 7 f v)))
      go true b c true true x y z w v = absurd (omega (arith, eqb-true 2 f x, eqb-true f 7 w))
      go false true c true true x y z w v = absurd (omega (arith, eqb-true 3 f y, eqb-true f 7 w))
      go false false true true true x y z w v = absurd (omega (arith, eqb-true 6 f z, eqb-true f 7 w))
      go false false false true true x y z w v = refl
      go true b c false false x y z w v = refl
      go false true c false false x y z w v = refl
      go false false true false false x y z w v = refl
      go false false false false false x y z w v = refl

  -- there is a wrong entry exactly if one of a command with entries is no PGN
  pub wrong_is : not (eqb (wrong_entry (function payload) payload) 0) ≡ listed (function payload) (2 ∷ 3 ∷ 6 ∷ 7 ∷ []) && not (every is_pgn xs)
  wrong_is = rw wrong_entry_lem (go (listed (function payload) (2 ∷ 3 ∷ 6 ∷ 7 ∷ [])) (every is_pgn xs))
    where
      go : (a b : Bool) → not (eqb (cond a (cond b 0 (suc (leading is_pgn xs))) 0) 0) ≡ a && not b
      go true true = refl
      go true false = rw (ne_eqb (suc (leading is_pgn xs)) 0 (λ e. omega arith))
      go false b = refl

  wrong_first : not (eqb (wrong_entry (function payload) payload) 0) ≡ true → FirstWrong payload (record { entry = wrong_entry (function payload) payload; to = 0; pgn = 0 })
  wrong_first e = rw wrong_entry_lem (go (listed (function payload) (2 ∷ 3 ∷ 6 ∷ 7 ∷ [])) (every is_pgn xs) refl (rw wrong_entry_lem at e))
    where
      go : (a b : Bool) → every is_pgn xs ≡ b → not (eqb (cond a (cond b 0 (suc (leading is_pgn xs))) 0) 0) ≡ true → FirstWrong payload (record { entry = cond a (cond b 0 (suc (leading is_pgn xs))) 0; to = 0; pgn = 0 })
      go false b h e = absurd (true≢false (sym e))
      go true true h e = absurd (true≢false (sym e))
      go true false h e = record {
        least = omega arith;
        most = leading_short is_pgn xs h;
        wrong = rw (down (leading is_pgn xs)) (leading_fails is_pgn xs (leading_short is_pgn xs h));
        before = λ k a b. leading_holds is_pgn xs (k - 1) (omega arith);
        to = refl;
        pgn = refl;
      }

-- where the pairs from port p lead rises
lower_target : (p j k : ℕ) → target_of p j < target_of p k → j < k
lower_target p j k h = go (ltb j p) (ltb k p) refl refl h
  where
    go : (a b : Bool) → ltb j p ≡ a → ltb k p ≡ b → cond a j (suc j) < cond b k (suc k) → j < k
    go true true e f h = h
    go true false e f h = omega (arith, ltb-true j p e, ltb-false k p f)
    go false true e f h = omega arith
    go false false e f h = omega arith

module _ (words payload : List ℕ) where
  abbrev ports : ℕ
  ports = ports_of words

  abbrev rest : Rest
  rest = rest_of words

  -- ---- 17
  module _ (ps : Ports ports (from payload) (to payload)) (lacking : any_named ports (ports - 1) (holds_of Lacks (entries payload)) (from payload) (to payload) rest.pairs ≡ true) where
    abbrev es : List ℕ
    es = entries payload

    abbrev test : ℕ → Bool
    test = holds_at ports (holds_of Lacks es) (from payload) (to payload) rest.pairs

    -- the first pair that lacks one, and where it leads
    abbrev k : ℕ
    k = first_below test (ports - 1)

    abbrev pair_at_lem : ℕ → Filter
    pair_at_lem j = get_or rest.pairs (first_pair ports (from payload) + j) clear

    first_pair_lem : (k < ports - 1) × (test k ≡ true) × ((j : ℕ) → j < k → test j ≡ false)
    unfolding any_named
    first_pair_lem = first_found test (ports - 1) lacking

    named_lacks : (names (from payload) (to payload) k ≡ true) × (lacks (pair_at_lem k) es ≡ true)
    unfolding holds_of
    named_lacks = both (names (from payload) (to payload) k) (lacks (pair_at_lem k) es) first_pair_lem.1

    short : held_before (pair_at_lem k).entries es < length es
    short = lacking_short (pair_at_lem k) es named_lacks.1

    abbrev q₀ : ℕ
    q₀ = target ports (from payload) k ps.least ps.most first_pair_lem.0

    here : pair_at ports (from payload - 1) (q₀ - 1) ≡ first_pair ports (from payload) + k
    here = target_at ports (from payload) k ps.least ps.most first_pair_lem.0

    -- a pair before it that is named lacks none
    before_it : (q : ℕ) → leads_to ports payload q ≡ true → q < q₀ → lacks (get_or rest.pairs (pair_at ports (from payload - 1) (q - 1)) clear) es ≡ false
    unfolding holds_of names is_port
    before_it q leads l =
        let port_is = both (is_port ports q) _ leads in
        let other = both (not (eqb q (from payload))) _ port_is.1 in
        let P : IsPair ports (from payload) q = record {
          from = (target_pair ports (from payload) k ps.least ps.most first_pair_lem.0).from;
          to = port_is.0;
          apart = λ e. eqb-false q (from payload) (not-true (eqb q (from payload)) other.0) (sym e);
        } in
        let r = rank (from payload) q in
        let t : suc (target_of (from payload - 1) r) ≡ q = rank_target ports (from payload) q P in
        let low : r < k = lower_target (from payload - 1) r k (omega (arith, t, l)) in
        let none : (eqb (to payload) 15 || eqb (to payload) (suc (target_of (from payload - 1) r))) && lacks (pair_at_lem r) es ≡ false = first_pair_lem.2 r low in
        rw (t, other.1) at none

    absent_first : FirstAbsent words payload (absent_at ports es (from payload) (to payload) rest.pairs)
    unfolding absent_at names lacks
    absent_first = record {
      pair =
          let P = target_pair ports (from payload) k ps.least ps.most first_pair_lem.0 in
          rw (P.to, ne_eqb q₀ (from payload) (λ e. P.apart (sym e))) named_lacks.0;
      least = omega arith;
      most = short;
      absent = rw (here, down (held_before (pair_at_lem k).entries es)) (leading_fails (λ x. listed x (pair_at_lem k).entries) es short);
      before = λ j a b. rw here (leading_holds (λ x. listed x (pair_at_lem k).entries) es (j - 1) (omega arith));
      pairs = λ q j leads l a b.
          every_at (λ x. listed x (get_or rest.pairs (pair_at ports (from payload - 1) (q - 1)) clear).entries) es (j - 1) (not-false _ (before_it q leads l)) (omega arith);
      pgn = rw (down (held_before (pair_at_lem k).entries es));
    }

  -- ---- by the number
  abbrev pub Telling : ℕ → Absent → Type 0
  Telling n told = (n ≡ 22 → FirstWrong payload told) × (n ≡ 17 → FirstAbsent words payload told) × ((n ≡ 22 → ⊥) → (n ≡ 17 → ⊥) → told ≡ nothing_told)

  nothing_telling : (n : ℕ) → (n ≡ 22 → ⊥) → (n ≡ 17 → ⊥) → Telling n nothing_told
  nothing_telling n a b = ((λ e. absurd (a e)), (λ e. absurd (b e)), (λ _ _. refl))

  -- where it is done
  told_nothing : Telling 0 nothing_told
  told_nothing = nothing_telling 0 (λ z. omega arith) (λ z. omega arith)

  -- a payload that is refused
  module _ (port : ℕ) where
    abbrev number : ℕ
    number = refusal_of ports port (function payload) (from payload) (to payload) payload

    applies : (a b c p d e f : Bool) → ◌≡◌ {A = ℕ} (cond a 9 (cond b 10 (cond c 11 (cond p 23 (cond d 12 (cond e 22 (cond f 13 0))))))) 22 → e ≡ true
    applies true b c p d e f h = absurd (omega arith)
    applies false true c p d e f h = absurd (omega arith)
    applies false false true p d e f h = absurd (omega arith)
    applies false false false true d e f h = absurd (omega arith)
    applies false false false false true e f h = absurd (omega arith)
    applies false false false false false true f h = refl
    applies false false false false false false true h = absurd (omega arith)
    applies false false false false false false false h = absurd (omega arith)

    -- what is told with it
    abbrev entry : ℕ
    entry = cond (eqb number 22) (wrong_entry (function payload) payload) 0

    refused_telling : (number ≡ 0 → ⊥) → Telling number (wrong_told entry)
    unfolding refusal_of
    refused_telling z = (
      (λ e. rw (eq-eqb number 22 e) (wrong_first payload (applies (not (is_known (function payload))) (not (names_ports ports (function payload) (from payload) (to payload))) (not (may_name ports port (function payload) (from payload) (to payload))) (not (holds_parameter (function payload) (parameter_of payload))) (not (has_good_body (function payload) payload)) (not (eqb (wrong_entry (function payload) payload) 0)) (has_wrong_mode (function payload) payload) e))),
      (λ e. absurd (not_of_lem (λ n. not (eqb n 17)) (first_in (λ n. not (eqb n 17)) (payload_checks ports port (function payload) (from payload) (to payload) payload) refl z) refl e)),
      (λ a _. rw (ne_eqb number 22 a)),
    )

  -- a command on the lists
  not_22 : (change : Change) (es : List ℕ) → list_refusal ports change es (from payload) (to payload) rest.pairs ≡ 22 → ⊥
  unfolding list_refusal list_checks
  not_22 Adds es e = not_of_lem (λ n. not (eqb n 22)) (first_in (λ n. not (eqb n 22)) (list_checks ports Adds es (from payload) (to payload) rest.pairs) refl (λ z. omega arith)) refl e
  not_22 Deletes es e = not_of_lem (λ n. not (eqb n 22)) (first_in (λ n. not (eqb n 22)) (list_checks ports Deletes es (from payload) (to payload) rest.pairs) refl (λ z. omega arith)) refl e
  not_22 (Creates passing) es e = not_of_lem (λ n. not (eqb n 22)) (first_in (λ n. not (eqb n 22)) (list_checks ports (Creates passing) es (from payload) (to payload) rest.pairs) refl (λ z. omega arith)) refl e
  not_22 (Names name mask) es e = not_of_lem (λ n. not (eqb n 22)) (first_in (λ n. not (eqb n 22)) (list_checks ports (Names name mask) es (from payload) (to payload) rest.pairs) refl (λ z. omega arith)) refl e

  changed_telling : (change : Change) → Ports ports (from payload) (to payload) → Telling (list_refusal ports change (entries payload) (from payload) (to payload) rest.pairs) (absent_told ports (list_refusal ports change (entries payload) (from payload) (to payload) rest.pairs) (entries payload) (from payload) (to payload) rest.pairs)
  unfolding absent_told
  changed_telling change ps =
      let n = list_refusal ports change (entries payload) (from payload) (to payload) rest.pairs in (
        (λ e. absurd (not_22 change (entries payload) e)),
        (λ e. rw (eq-eqb n 17 e) (absent_first ps (refused_17 ports change (entries payload) (from payload) (to payload) rest.pairs e))),
        (λ _ b. rw (ne_eqb n 17 b)),
      )

  entries_by : (start : ℕ) → entries_start (function payload) ≡ start → eqb (function payload) 7 ≡ false → entries_of (between start (entries_end start payload) payload) ≡ entries payload
  entries_by start e other = rw (other, e)

  entries_named : eqb (function payload) 7 ≡ true → entries_of (between 2 5 payload) ≡ entries payload
  entries_named e = rw e

  module _ (requester : ℕ) where
    abbrev Told_by : Asked → Type 0
    Told_by c = Telling (performed_by ports rest requester payload c).number (performed_by ports rest requester payload c).told

    command_telling : is_known (function payload) ≡ true → Good ports payload (command_of (function payload) (from payload) (to payload) payload) → Told_by (command_of (function payload) (from payload) (to payload) payload)
    unfolding performed_by list_refusal list_checks absent_told
    command_telling known =
        by_function (λ c. Good ports payload c → Told_by c) (function payload) (from payload) (to payload) payload known
        (λ e g. told_nothing)
        (λ e g. rw (entries_by 2 (rw e) (rw e)) (changed_telling Adds g.0))
        (λ e g. rw (entries_by 2 (rw e) (rw e)) (changed_telling Deletes g.0))
        (λ e g. told_nothing)
        (λ pass e g. rw (entries_by 3 (rw e) (rw e)) (changed_telling (Creates pass) g.0))
        (λ e g. rw (entries_named (rw e)) (changed_telling (Names (name_of payload) (mask_of payload)) g.0))
        (λ e g. told_nothing)
        (λ e g. told_nothing)
        (λ e g. told_nothing)
        (λ e g. told_nothing)
        (λ e g. told_nothing)

    is_known_lem : (b : Bool) (m : ℕ) → cond (not b) 9 m ≡ 0 → b ≡ true
    is_known_lem true m e = refl
    is_known_lem false m e = absurd (omega arith)

    decoded_telling : (port : ℕ) → 8 ≤ length payload → Told_by (decoded ports port payload)
    unfolding decoded judged performed_by refusal_of
    decoded_telling port long = go (eqb (number port) 0) refl (decoded_good ports port payload long)
      where
        go : (t : Bool) → eqb (number port) 0 ≡ t → Good ports payload (cond t (command_of (function payload) (from payload) (to payload) payload) (Refused (number port) (entry port))) → Told_by (cond t (command_of (function payload) (from payload) (to payload) payload) (Refused (number port) (entry port)))
        go true e g = command_telling (is_known_lem (is_known (function payload)) _ (eqb-true (number port) 0 e)) g
        go false e g = refused_telling port (eqb-false (number port) 0 e)

    pub messaged_telling : (lent lentReply port : ℕ) → Telling (messaged ports lent lentReply rest port requester payload).number (messaged ports lent lentReply rest port requester payload).told
    unfolding messaged message_refusal
    messaged_telling lent lentReply port = go (eqb n 0) refl
      where
        n : ℕ
        n = message_refusal ports lent lentReply rest port requester (length payload)

        go : (t : Bool) → eqb n 0 ≡ t → Telling (cond t (performed_by ports rest requester payload (decoded ports port payload)) (silent_reply n rest.pairs)).number (cond t (performed_by ports rest requester payload (decoded ports port payload)) (silent_reply n rest.pairs)).told
        go true z = decoded_telling port (message_goes ports lent lentReply rest port requester (length payload) (eqb-true n 0 z)).2
        go false z =
            let quiet : not (acknowledges n) ≡ true = first_in (λ k. not (acknowledges k)) (message_checks ports lent lentReply rest port requester (length payload)) refl (eqb-false n 0 z) in
            nothing_telling n (not_of_lem (λ k. not (acknowledges k)) quiet refl) (not_of_lem (λ k. not (acknowledges k)) quiet refl)
