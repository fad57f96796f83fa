-- What a message does to a pair: as it was, where the payload does not name it; changed, where it does and the command may be done; emptied by a Clear or a
-- Create. By the kind of the command. Assumes nothing.
use mathlib.Core.Path.{◌≡◌, refl, sym, ap, ◌∙◌}
use mathlib.Core.Bool.{Bool, true, false, cond, not, ◌&&◌, ◌||◌, true≢false}
use mathlib.Core.List.{List, []}
use Prim.Native.Nat.{ℕ, ◌-◌, ◌≤◌}
use native.Mathlib.Omega.{arith}
use borrow.Author.Tests.{eqb-true, eqb-false, eq-eqb, ne_eqb}
use lib.ListN.{length, get_or}
use lib.Dec.{eqb}
use Rattle.filter.specs.Filter.{Filter, clear}
use Rattle.entries.specs.Entries.{listed}
use Rattle.network_message.specs.Asked.{Asked}
use Rattle.network_message.specs.Decoding.{function_of, pair_of, from_of, to_of, is_general, may_be_all, is_pair, names_ports, decoded}
use Rattle.network_message.specs.Commands.{reaches, Ports, Good}
use Rattle.network_message.proofs.Passing.{answered_by, by_function}
use Rattle.checks.specs.Checks.{acknowledges}
use Rattle.checks.specs.Ports.{is_port}
use Rattle.checks.proofs.Ports.{port_bounds}
use Rattle.checks.proofs.Tests.{both}
use Rattle.network_message.proofs.Decoding.{decoded_good}
use Rattle.filter_commands.specs.declared.pairs.Change.{Change}
use Rattle.filter_commands.specs.declared.pairs.Change.TheVariants.{Adds, Deletes, Creates, Names}
use Rattle.unit.specs.Count.{pair_count}
use Rattle.unit.specs.Model.{Rest, pair_at}
use Rattle.message_answers.specs.Messages.{Replied, performed_by, Untouched}
use Rattle.filter_commands.specs.Changes.{may_create, created}
use Rattle.filter_commands.specs.Pairs.{may_of, change_of}
use Rattle.list_commands.specs.Commands.{IsPair, Beside, names, change_named, list_refusal, commanded}
use Rattle.refusals.specs.Refusals.{message_refusal}
use Rattle.bridge.specs.Calls.{silent_reply, messaged}
use Rattle.refusals.proofs.Checks.{message_goes}
use Rattle.list_commands.proofs.Allowing.{allows}
use Rattle.list_commands.proofs.Ranks.{rank, rank_small, names_is, target, target_pair, target_rank, target_at}
use Rattle.demand_2.specs.Demand2.{names_pair, Unnamed}
use Rattle.demand_2.proofs.Pairs.{pair_is, changed_pair}

-- ---- what is reached is what the payload's bytes name
reached_named : (ports a b from to : ℕ) → (eqb a from && reaches ports from to b) ≡ true → (eqb a from && (eqb to 15 || eqb b to)) ≡ true
unfolding reaches
reached_named ports a b from to = go (eqb a from) (eqb to 15)
  where
    go : (x y : Bool) → (x && cond y (is_port ports b && not (eqb b from)) (eqb b to)) ≡ true → (x && (y || eqb b to)) ≡ true
    go false y h = h
    go true true h = refl
    go true false h = h

not_reached : (ports a b from to : ℕ) → (eqb a from && (eqb to 15 || eqb b to)) ≡ false → (eqb a from && reaches ports from to b) ≡ false
not_reached ports a b from to h = go (eqb a from && reaches ports from to b) refl
  where
    go : (t : Bool) → (eqb a from && reaches ports from to b) ≡ t → t ≡ false
    go true e = sym (reached_named ports a b from to e) ∙ h
    go false e = refl

-- a pair that is named is reached
named_reached : (ports a b from to : ℕ) → IsPair ports a b → (eqb a from && (eqb to 15 || eqb b to)) ≡ true → (eqb a from && reaches ports from to b) ≡ true
unfolding reaches
named_reached ports a b from to P = go (eqb a from) (eqb to 15) refl
  where
    go : (x y : Bool) → eqb a from ≡ x → (x && (y || eqb b to)) ≡ true → (x && cond y (is_port ports b && not (eqb b from)) (eqb b to)) ≡ true
    go false y e h = h
    go true true e h = rw (P.to, ne_eqb b from (λ s. P.apart (eqb-true a from e ∙ sym s)))
    go true false e h = h

-- function 7 names one pair: To 15 is refused with 10
not_all : (ports from to : ℕ) → ports ≤ 8 → names_ports ports 7 from to ≡ true → eqb to 15 ≡ false
unfolding names_ports is_general is_pair may_be_all listed
not_all ports from to few h = go (eqb to 15) refl
  where
    rest : ((is_port ports to || (eqb to 15 && false)) && not (eqb from to)) ≡ true
    rest = (both (is_port ports from) ((is_port ports to || (eqb to 15 && false)) && not (eqb from to)) h).1

    named : (x y : Bool) → (x || (y && false)) ≡ true → x ≡ true
    named true y e = refl
    named false true e = e
    named false false e = e

    go : (t : Bool) → eqb to 15 ≡ t → t ≡ false
    go true e =
        let p = named (is_port ports to) (eqb to 15) (both (is_port ports to || (eqb to 15 && false)) (not (eqb from to)) rest).0 in
        let b = port_bounds ports to p in
        absurd (omega (arith, b.1, eqb-true to 15 e))
    go false e = refl

-- and a word that is not named is one that the command leaves as it was
module _ (ports : ℕ) (payload : List ℕ) (n : ℕ) (H : Unnamed ports payload n) where
  abbrev from : ℕ
  from = from_of (pair_of payload)

  abbrev to : ℕ
  to = to_of (pair_of payload)

  beside : Ports ports from to → ((b : ℕ) → (eqb from from && (eqb to 15 || eqb b to)) ≡ true → names_pair payload from b ≡ true) → Beside ports from to n
  beside ps is-named k l e =
      let b = target ports from k ps.least ps.most l in
      let P = target_pair ports from k ps.least ps.most l in
      let reached : reaches ports from to b ≡ true = sym (names_is ports from b P to) ∙ rw (target_rank ports from k ps.least ps.most l) e in
      rw (target_at ports from k ps.least ps.most l)
      at (H.block from b P (is-named b (reached_named ports from b from to (rw (eq-eqb from from refl) reached))))

  pub untouched : (port : ℕ) → ports ≤ 8 → 8 ≤ length payload → Untouched ports (decoded ports port payload) n
  unfolding decoded listed pair_count
  untouched port few long =
      answered_by ports port (function_of payload) from to payload (λ c. Good ports payload c → Untouched ports c n) (λ _ _ _ _. tt)
      (λ P. by_function (λ c. Good ports payload c → Untouched ports c n) (function_of payload) from to payload P.known
      (λ e g. tt)
      (λ e g. beside g.0 (λ b h. rw e h))
      (λ e g. beside g.0 (λ b h. rw e h))
      (λ e g. beside g (λ b h. rw e h))
      (λ _ e g. beside g.0 (λ b h. rw e h))
      (λ e g. beside g.0 (λ b h. rw e (rw (not_all ports from to few (rw e at P.ported)) at h)))
      (λ e g. tt)
      (λ e g. tt)
      (λ e g. H.general (rw e))
      (λ e g. tt)
      (λ e g. H.counter from to (pair_is few g.0 g.1) (rw e itself)))
      (decoded_good ports port payload long)
    where
      itself : (eqb from from && eqb to to) ≡ true
      itself = rw (eq-eqb from from refl, eq-eqb to to refl)

-- a command on the pairs
module _ (ports : ℕ) (change : Change) (xs : List ℕ) (from to : ℕ) (pairs : List Filter) (long : length pairs ≡ pair_count ports) (low : 1 ≤ from) (high : from ≤ ports) (a b : ℕ) (P : IsPair ports a b) where
  abbrev at : List Filter → Filter
  at ps = get_or ps (pair_at ports (a - 1) (b - 1)) clear

  pub commanded_other : (eqb a from && reaches ports from to b) ≡ false → at (commanded ports change xs from to pairs) ≡ at pairs
  unfolding commanded
  commanded_other e = go (eqb (list_refusal ports change xs from to pairs) 0)
    where
      go : (t : Bool) → at (cond t (change_named ports (ports - 1) (change_of change xs) from to pairs) pairs) ≡ at pairs
      go true = changed_pair ports from to (change_of change xs) pairs long low high a b P ∙ rw e
      go false = refl

  pub commanded_named : (eqb a from && reaches ports from to b) ≡ true → list_refusal ports change xs from to pairs ≡ 0 → at (commanded ports change xs from to pairs) ≡ change_of change xs (at pairs)
  unfolding commanded
  commanded_named e z = rw z (changed_pair ports from to (change_of change xs) pairs long low high a b P ∙ rw e)

  -- and might be done there
  commanded_may : (eqb a from && reaches ports from to b) ≡ true → list_refusal ports change xs from to pairs ≡ 0 → may_of change xs (at pairs) ≡ true
  commanded_may e z = go (eqb-true a from (both (eqb a from) (reaches ports from to b) e).0)
    where
      go : a ≡ from → may_of change xs (at pairs) ≡ true
      go s =
          let named : names a to (rank a b) ≡ true = names_is ports a b P to ∙ rw s (both (eqb a from) (reaches ports from to b) e).1 in
          allows ports a to pairs change xs (rw s z) (rank a b) (rank_small ports a b P) named

-- a function that is neither Clear nor Create
neither : {X Y : Type 0} (k function : ℕ) → eqb k 4 ≡ false → eqb k 6 ≡ false → function ≡ k → (function ≡ 4 → X) × (function ≡ 6 → Y)
neither k function n4 n6 e = ((λ s. absurd (eqb-false k 4 n4 (sym e ∙ s))), (λ s. absurd (eqb-false k 6 n6 (sym e ∙ s))))

created_none : (passing : Bool) (xs : List ℕ) (f : Filter) → may_create f xs ≡ true → (created passing f xs).named ≡ []
unfolding created
created_none passing xs f e = rw e

-- what a payload asks
module _ (ports : ℕ) (rest : Rest) (long : length rest.pairs ≡ pair_count ports) (a b : ℕ) (P : IsPair ports a b) where
  abbrev here : List Filter → Filter
  here ps = get_or ps (pair_at ports (a - 1) (b - 1)) clear

  changed_other : (change : Change) (xs : List ℕ) (from to : ℕ) → Ports ports from to → (eqb a from && reaches ports from to b) ≡ false → here (commanded ports change xs from to rest.pairs) ≡ here rest.pairs
  changed_other change xs from to ps e = commanded_other ports change xs from to rest.pairs long ps.least ps.most a b P e

  performed_other : ports ≤ 8 → (port requester : ℕ) (payload : List ℕ) → 8 ≤ length payload → names_pair payload a b ≡ false → here (performed_by ports rest requester payload (decoded ports port payload)).pairs ≡ here rest.pairs
  unfolding performed_by decoded listed
  performed_other few port requester payload least h =
      answered_by ports port (function_of payload) from to payload Still (λ _ _ _ _. refl)
      (λ passed. by_function Still (function_of payload) from to payload passed.known
      (λ e g. refl)
      (λ e g. changed_other Adds _ from to g.0 (not_reached ports a b from to (rw e at h)))
      (λ e g. changed_other Deletes _ from to g.0 (not_reached ports a b from to (rw e at h)))
      (λ e g. changed_pair ports from to (λ _. clear) rest.pairs long g.least g.most a b P ∙ rw (not_reached ports a b from to (rw e at h)))
      (λ passing e g. changed_other (Creates passing) _ from to g.0 (not_reached ports a b from to (rw e at h)))
      (λ e g. changed_other (Names _ _) _ from to g.0 (not_reached ports a b from to (rw (not_all ports from to few (rw e at passed.ported)) (rw e at h))))
      (λ e g. refl)
      (λ e g. refl)
      (λ e g. refl)
      (λ e g. refl)
      (λ e g. refl))
      (decoded_good ports port payload least)
    where
      from : ℕ
      from = from_of (pair_of payload)

      to : ℕ
      to = to_of (pair_of payload)

      Still : Asked → Type 0
      Still c = Good ports payload c → here (performed_by ports rest requester payload c).pairs ≡ here rest.pairs

  pub messaged_other : ports ≤ 8 → (lent lentReply port requester : ℕ) (payload : List ℕ) → names_pair payload a b ≡ false → here (messaged ports lent lentReply rest port requester payload).pairs ≡ here rest.pairs
  unfolding messaged
  messaged_other few lent lentReply port requester payload e = go (eqb n 0) refl
    where
      n : ℕ
      n = message_refusal ports lent lentReply rest port requester (length payload)

      go : (t : Bool) → eqb n 0 ≡ t → here (messaged ports lent lentReply rest port requester payload).pairs ≡ here rest.pairs
      go true z =
          rw z
          (performed_other few port requester payload (message_goes ports lent lentReply rest port requester (length payload) (eqb-true n 0 z)).2 e)
      go false z = rw z

  -- ---- a Clear or a Create that is done
  abbrev Empties : List ℕ → Replied → Type 0
  Empties payload r = (function_of payload ≡ 4 → here r.pairs ≡ clear) × (function_of payload ≡ 6 → (here r.pairs).named ≡ [])

  performed_emptied : (port requester : ℕ) (payload : List ℕ) → 8 ≤ length payload → names_pair payload a b ≡ true
      → (performed_by ports rest requester payload (decoded ports port payload)).number ≡ 0 → Empties payload (performed_by ports rest requester payload (decoded ports port payload))
  unfolding performed_by decoded listed may_of change_of
  performed_emptied port requester payload least h =
      answered_by ports port (function_of payload) from to payload Done (λ n e k g z. absurd (true≢false (sym k ∙ ap acknowledges z)))
      (λ passed. by_function Done (function_of payload) from to payload passed.known
      (λ e g z. neither 0 (function_of payload) refl refl e)
      (λ e g z. neither 2 (function_of payload) refl refl e)
      (λ e g z. neither 3 (function_of payload) refl refl e)
      (λ e g z. (
        (λ _. changed_pair ports from to (λ _. clear) rest.pairs long g.least g.most a b P ∙ rw (named_reached ports a b from to P (rw e at h))),
        (λ s. absurd (eqb-false 4 6 refl (sym e ∙ s))),
      ))
      (λ passing e g z.
      let r = named_reached ports a b from to P (rw e at h) in
      let may = commanded_may ports (Creates passing) _ from to rest.pairs long g.0.least g.0.most a b P r z in (
        (λ s. absurd (eqb-false 6 4 refl (sym e ∙ s))),
        (λ _.
            ap (λ (f : Filter). f.named) (commanded_named ports (Creates passing) _ from to rest.pairs long g.0.least g.0.most a b P r z)
            ∙ created_none passing _ (here rest.pairs) may),
      ))
      (λ e g z. neither 7 (function_of payload) refl refl e)
      (λ e g z. neither 64 (function_of payload) refl refl e)
      (λ e g z. neither 128 (function_of payload) refl refl e)
      (λ e g z. neither 130 (function_of payload) refl refl e)
      (λ e g z. neither 131 (function_of payload) refl refl e)
      (λ e g z. neither 133 (function_of payload) refl refl e))
      (decoded_good ports port payload least)
    where
      from : ℕ
      from = from_of (pair_of payload)

      to : ℕ
      to = to_of (pair_of payload)

      Done : Asked → Type 0
      Done c = Good ports payload c → (performed_by ports rest requester payload c).number ≡ 0 → Empties payload (performed_by ports rest requester payload c)

  pub messaged_emptied : (lent lentReply port requester : ℕ) (payload : List ℕ) → names_pair payload a b ≡ true
      → (messaged ports lent lentReply rest port requester payload).number ≡ 0 → Empties payload (messaged ports lent lentReply rest port requester payload)
  unfolding messaged
  messaged_emptied lent lentReply port requester payload e = go (eqb n 0) refl
    where
      n : ℕ
      n = message_refusal ports lent lentReply rest port requester (length payload)

      go : (t : Bool) → eqb n 0 ≡ t → (cond t (performed_by ports rest requester payload (decoded ports port payload)) (silent_reply n rest.pairs)).number ≡ 0
          → Empties payload (cond t (performed_by ports rest requester payload (decoded ports port payload)) (silent_reply n rest.pairs))
      go true t z = performed_emptied port requester payload (message_goes ports lent lentReply rest port requester (length payload) (eqb-true n 0 t)).2 e z
      go false t z = absurd (eqb-false n 0 t z)
