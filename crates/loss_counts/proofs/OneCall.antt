-- What one call does to a counter, by its answer. Assumes nothing.
use mathlib.Core.Path.{◌≡◌, refl, sym, ap, ◌∙◌}
use mathlib.Core.Bool.{Bool, true, false, cond, ◌&&◌, true≢false}
use mathlib.Core.Logic.{⊎_elim}
use mathlib.Core.List.{List}
use Prim.Native.Nat.{ℕ, zero, suc, ◌+◌, ◌-◌, ◌/◌, ◌%◌, ◌≤◌, ◌<◌}
use native.Mathlib.Nat.{zero-add}
use native.Mathlib.Decide.{ℕ_discrete}
use native.Mathlib.Omega.{arith}
use borrow.Author.Tests.{eq-eqb, ne_eqb, eqb-true, eqb-false}
use lib.Dec.{eqb}
use lib.ListN.{length, get_or, set, length-set}
use lib.Seq.{get_or-set_same, get_or-set_other}
use Rattle.losses.specs.Losses.{one_more}
use Rattle.queue.specs.declared.Frame.{Frame}
use Rattle.network_message.specs.Commands.{Ports, Good}
use Rattle.network_message.specs.Asked.{Asked, Refused, Request, WithEntries, Clear, AddressList, Parameter, Reset, PairParameter, PairReset}
use Rattle.network_message.specs.Decoding.{function_of, pair_of, from_of, to_of, decoded}
use Rattle.network_message.proofs.Passing.{answered_by, by_function}
use Rattle.network_message.proofs.Decoding.{decoded_good}
use Rattle.unit.specs.Count.{pair_count}
use Rattle.unit.specs.Ports.{in_turn, mask, bit_at, total}
use Rattle.unit.specs.Model.{Rest, Model, row_at, pair_at, general_at}
use Rattle.unit.specs.Own.{consumes}
use Rattle.unit.proofs.Ports.{mask_bit, mask_none, total_none}
use Rattle.forwarding.specs.Forwarding.{silent, verdict, loses, lost_from, lost_own, counted_at}
use Rattle.claims.specs.Claims.{started}
use Rattle.message_answers.specs.Messages.{performed_by, Replied}
use Rattle.refusals.specs.Refusals.{frame_refusal, take_refusal, start_refusal, quiet_refusal, length_refusal, message_refusal}
use Rattle.refusals.proofs.Checks.{frame_goes, message_goes}
use Rattle.bridge.specs.Calls.{Call, FrameIn, TakeOut, Message, Start, Quiet, ReadUnit, ReadCounts, frame_of, offered, refusal, losses_after, performed, lost_at, unsent_at, start_unsent_at, frame_refused, frame_passed, frame_answer, start_refused, start_answer, silent_reply, messaged}
use Rattle.bridge.specs.Calls.{next as next_of}
use Rattle.demand_3.specs.Demand3.{words, next, answer}
use Rattle.loss_counts.specs.LossCounts.{lost_between, named, lost_anywhere, resets_pair, resets_general}
use Rattle.loss_counts.proofs.Places.{place_below, place_same}
use Rattle.loss_counts.proofs.Turns.{up, up_up, counted_long, counted_here, counted_other, turns_long, turns_other, turns_once, turns_each}

-- ---- ports that are named
-- none by 0
no_bit : (ports q : ℕ) → q < ports → bit_at 0 q ≡ false
no_bit ports q h = (rw (mask_none ports) at (mask_bit (λ q. false) ports q h))

total_same : (f g : ℕ → ℕ) (n : ℕ) → ((q : ℕ) → q < n → f q ≡ g q) → total f n ≡ total g n
unfolding total
total_same f g zero h = refl
total_same f g (suc n) h = rw (h n (omega arith), total_same f g n (λ q l. h q (omega arith)))

none_named : (ports : ℕ) → named ports 0 ≡ 0
none_named ports = total_same (λ q. cond (bit_at 0 q) 1 0) (λ q. 0) ports (λ q l. rw (no_bit ports q l)) ∙ total_none ports

mask_named : (test : ℕ → Bool) (ports : ℕ) → named ports (mask test ports) ≡ total (λ q. cond (test q) 1 0) ports
mask_named test ports = total_same (λ q. cond (bit_at (mask test ports) q) 1 0) (λ q. cond (test q) 1 0) ports (λ q l. rw (mask_bit test ports q l))

-- ---- a reset
-- what a message that is not refused does to the counters, by its function: 130 and 133 set one to 0, another changes none
abbrev Resetting : ℕ → List ℕ → (List ℕ → List ℕ) → Type 0
Resetting ports payload losses =
    (function_of payload ≡ 130 → (l : List ℕ) → losses l ≡ set l (general_at ports) 0)
    × (function_of payload ≡ 133
    → (Ports ports (from_of (pair_of payload)) (to_of (pair_of payload)) × (to_of (pair_of payload) ≤ ports))
    × ((l : List ℕ) → losses l ≡ set l (pair_at ports (from_of (pair_of payload) - 1) (to_of (pair_of payload) - 1)) 0))
    × ((function_of payload ≡ 130 → ⊥) → (function_of payload ≡ 133 → ⊥) → (l : List ℕ) → losses l ≡ l)

abbrev Does : ℕ → Rest → ℕ → List ℕ → Asked → Type 0
Does ports rest requester payload c =
    Good ports payload c → (performed_by ports rest requester payload c).number ≡ 0 → Resetting ports payload (performed_by ports rest requester payload c).losses

module _ (ports : ℕ) (rest : Rest) (port requester : ℕ) (payload : List ℕ) where
  does : Does ports rest requester payload (decoded ports port payload)
  unfolding decoded performed_by
  does =
      answered_by ports port (function_of payload) (from_of (pair_of payload)) (to_of (pair_of payload)) payload (Does ports rest requester payload)
      (λ n e a g z. absurd (true≢false (sym (rw z at a))))
      (λ P. by_function (Does ports rest requester payload) (function_of payload) (from_of (pair_of payload)) (to_of (pair_of payload)) payload P.known
      (λ f g z. ((λ h. absurd (omega (arith, f, h))), (λ h. absurd (omega (arith, f, h))), (λ _ _ l. refl)))
      (λ f g z. ((λ h. absurd (omega (arith, f, h))), (λ h. absurd (omega (arith, f, h))), (λ _ _ l. refl)))
      (λ f g z. ((λ h. absurd (omega (arith, f, h))), (λ h. absurd (omega (arith, f, h))), (λ _ _ l. refl)))
      (λ f g z. ((λ h. absurd (omega (arith, f, h))), (λ h. absurd (omega (arith, f, h))), (λ _ _ l. refl)))
      (λ pass f g z. ((λ h. absurd (omega (arith, f, h))), (λ h. absurd (omega (arith, f, h))), (λ _ _ l. refl)))
      (λ f g z. ((λ h. absurd (omega (arith, f, h))), (λ h. absurd (omega (arith, f, h))), (λ _ _ l. refl)))
      (λ f g z. ((λ h. absurd (omega (arith, f, h))), (λ h. absurd (omega (arith, f, h))), (λ _ _ l. refl)))
      (λ f g z. ((λ h. absurd (omega (arith, f, h))), (λ h. absurd (omega (arith, f, h))), (λ _ _ l. refl)))
      (λ f g z. ((λ _ l. refl), (λ h. absurd (omega (arith, f, h))), (λ n _. absurd (n f))))
      (λ f g z. ((λ h. absurd (omega (arith, f, h))), (λ h. absurd (omega (arith, f, h))), (λ _ _ l. refl)))
      (λ f g z. ((λ h. absurd (omega (arith, f, h))), (λ _. (g, (λ l. refl))), (λ _ n. absurd (n f)))))

  -- the whole message
  message_does : (lent lentReply : ℕ) → (messaged ports lent lentReply rest port requester payload).number ≡ 0 → Resetting ports payload (messaged ports lent lentReply rest port requester payload).losses
  unfolding messaged
  message_does lent lentReply z = go (eqb (message_refusal ports lent lentReply rest port requester (length payload)) 0) refl z
    where
      came : Bool → Replied
      came b =
          cond b (performed_by ports rest requester payload (decoded ports port payload))
          (silent_reply (message_refusal ports lent lentReply rest port requester (length payload)) rest.pairs)

      go : (b : Bool) → eqb (message_refusal ports lent lentReply rest port requester (length payload)) 0 ≡ b → (came b).number ≡ 0 → Resetting ports payload (came b).losses
      go true e y =
          let G = message_goes ports lent lentReply rest port requester (length payload) (eqb-true (message_refusal ports lent lentReply rest port requester (length payload)) 0 e) in
          does (decoded_good ports port payload G.2) y
      go false e y = absurd (eqb-false (message_refusal ports lent lentReply rest port requester (length payload)) 0 e y)

-- ---- how many counters there are stays
losses_long : (ports : ℕ) (rest : Rest) (requester : ℕ) (payload : List ℕ) (c : Asked) (l : List ℕ) → length ((performed_by ports rest requester payload c).losses l) ≡ length l
unfolding performed_by
losses_long ports rest requester payload (Refused number entry) l = refl
losses_long ports rest requester payload (Request from to) l = refl
losses_long ports rest requester payload (WithEntries change from to start end) l = refl
losses_long ports rest requester payload (Clear from to) l = refl
losses_long ports rest requester payload (AddressList p) l = refl
losses_long ports rest requester payload (Parameter parameter) l = refl
losses_long ports rest requester payload Reset l = length-set l (general_at ports) 0
losses_long ports rest requester payload (PairParameter from to parameter) l = refl
losses_long ports rest requester payload (PairReset from to) l = length-set l (pair_at ports (from - 1) (to - 1)) 0

message_long : (ports lent lentReply : ℕ) (rest : Rest) (port requester : ℕ) (payload l : List ℕ) → length ((messaged ports lent lentReply rest port requester payload).losses l) ≡ length l
unfolding messaged
message_long ports lent lentReply rest port requester payload l = go (eqb (message_refusal ports lent lentReply rest port requester (length payload)) 0)
  where
    go : (b : Bool) → length ((cond b (performed_by ports rest requester payload (decoded ports port payload)) (silent_reply (message_refusal ports lent lentReply rest port requester (length payload)) rest.pairs)).losses l) ≡ length l
    go true = losses_long ports rest requester payload (decoded ports port payload) l
    go false = refl

module _ (ports : ℕ) where
  from_long : (p q : ℕ) (l : List ℕ) → length (lost_from ports p q l) ≡ length l
  from_long p q l = counted_long (general_at ports) (counted_at (pair_at ports p q) l) ∙ counted_long (pair_at ports p q) l

  own_long : (q : ℕ) (l : List ℕ) → length (lost_own ports l) ≡ length l
  own_long q l = counted_long (general_at ports) l

  after_long : (lent : ℕ) (m : Model) (k : Call) → length (losses_after ports lent m k) ≡ length m.seen.losses
  unfolding losses_after
  after_long lent m (FrameIn port id bytes) =
      turns_long (λ q. unsent_at ports m port (frame_of id bytes) q) (λ q. lost_own ports) own_long ports (in_turn (λ q. lost_at ports m port (frame_of id bytes) q) (lost_from ports (port - 1)) ports m.seen.losses)
      ∙ turns_long (λ q. lost_at ports m port (frame_of id bytes) q) (lost_from ports (port - 1)) (from_long (port - 1)) ports m.seen.losses
  after_long lent m (TakeOut port) = refl
  after_long lent m (Message port requester payload lentReply) = message_long ports lent lentReply m.rest port requester payload m.seen.losses
  after_long lent m Start = turns_long (λ q. start_unsent_at m q) (λ q. lost_own ports) own_long ports m.seen.losses
  after_long lent m Quiet = refl
  after_long lent m ReadUnit = refl
  after_long lent m (ReadCounts port) = refl

  -- a counter for each pair, and the general one
  unfoldable pub Fine : Model → Type 0
  Fine m = length m.seen.losses ≡ pair_count ports + 1

  pub stays_fine : (m : Model) (k : Call) → Fine m → Fine (next ports m k)
  unfolding Fine next_of performed
  stays_fine m k h = go (eqb (refusal ports (words ports) m.rest k) 0)
    where
      go : (b : Bool) → length (cond b (performed ports (words ports) m k) m).seen.losses ≡ pair_count ports + 1
      go true = after_long (words ports) m k ∙ h
      go false = h

  -- ---- no frame is lost at the port that it came from
  home : (m : Model) (port : ℕ) (f : Frame) → lost_at ports m port f (port - 1) ≡ false
  unfolding offered verdict
  home m port f = rw (eq-eqb (port - 1) (port - 1) refl) (go (consumes m.rest.own f.id))
    where
      go : (b : Bool) → loses (cond b silent silent) (row_at m (port - 1)) ≡ false
      go true = refl
      go false = refl

  away : (m : Model) (port : ℕ) (f : Frame) (q : ℕ) → lost_at ports m port f q ≡ true → port - 1 ≡ q → ⊥
  away m port f q t e = true≢false (sym t ∙ ap (λ x. lost_at ports m port f x) (sym e) ∙ home m port f)

  -- ---- what is lost of a frame, at a pair's counter and at the general one
  module _ (m : Model) (fine : Fine m) (port : ℕ) (f : Frame) (low : 1 ≤ port) (high : port ≤ ports) where
    abbrev forwarded : List ℕ
    forwarded = in_turn (λ q. lost_at ports m port f q) (lost_from ports (port - 1)) ports m.seen.losses

    abbrev all : List ℕ
    all = in_turn (λ q. unsent_at ports m port f q) (λ q. lost_own ports) ports forwarded

    forwarded_long : length forwarded ≡ pair_count ports + 1
    unfolding Fine
    forwarded_long = turns_long (λ q. lost_at ports m port f q) (lost_from ports (port - 1)) (from_long (port - 1)) ports m.seen.losses ∙ fine

    module _ (p q : ℕ) (h : p < ports) (k : q < ports) (ne : p ≡ q → ⊥) where
      abbrev place : ℕ
      place = pair_at ports p q

      not_general : place ≡ general_at ports → ⊥
      not_general e = let b = place_below h k ne in omega (arith, e, b)

      own_apart : get_or all place 0 ≡ get_or forwarded place 0
      own_apart = turns_other (λ q. unsent_at ports m port f q) (λ q. lost_own ports) own_long place ports forwarded (λ r l t x. counted_other (general_at ports) place x not_general)

      -- a frame from this port counts at its pairs alone
      from_other : (r : ℕ) → r < ports → (port - 1 ≡ r → ⊥) → (place ≡ pair_at ports (port - 1) r → ⊥) → (x : List ℕ) → get_or (lost_from ports (port - 1) r x) place 0 ≡ get_or x place 0
      from_other r l nr np x = counted_other (general_at ports) place (counted_at (pair_at ports (port - 1) r) x) not_general ∙ counted_other (pair_at ports (port - 1) r) place x np

      pub pair_lost : get_or all place 0 ≡ up (cond (eqb port (suc p) && lost_at ports m port f q) 1 0) (get_or m.seen.losses place 0)
      unfolding Fine up
      pair_lost =
          own_apart
          ∙ elim (ℕ_discrete port (suc p)) [
            | yes e ↦
                let back : port - 1 ≡ p = omega (arith, e) in
                turns_once (λ q. lost_at ports m port f q) (lost_from ports (port - 1)) (from_long (port - 1)) place q ports m.seen.losses
                (omega (arith, fine, place_below h k ne)) k (here back)
                (λ r l nr t. from_other r l (away m port f r t) (λ z. nr (sym (place_same h k ne (rw back h) l (away m port f r t) z).1)))
                ∙ rw (eq-eqb port (suc p) e) (mine (lost_at ports m port f q))
            | no n ↦
                turns_other (λ q. lost_at ports m port f q) (lost_from ports (port - 1)) (from_long (port - 1)) place ports m.seen.losses
                (λ r l t. from_other r l (away m port f r t) (λ z. n (behind (place_same h k ne (omega arith) l (away m port f r t) z).0)))
                ∙ rw (ne_eqb port (suc p) n)
          ]
        where
          behind : p ≡ port - 1 → port ≡ suc p
          behind e = omega (arith, e)

          here : port - 1 ≡ p → (x : List ℕ) → place < length x → get_or (lost_from ports (port - 1) q x) place 0 ≡ one_more (get_or x place 0)
          here e x l =
              counted_other (general_at ports) place (counted_at (pair_at ports (port - 1) q) x) not_general
              ∙ ap (λ i. get_or (counted_at (pair_at ports i q) x) place 0) e ∙ counted_here place x l

          mine : (b : Bool) → cond b (one_more (get_or m.seen.losses place 0)) (get_or m.seen.losses place 0) ≡ up (cond b 1 0) (get_or m.seen.losses place 0)
          mine true = refl
          mine false = refl

    pub general_lost : get_or all (general_at ports) 0
        ≡ up (total (λ q. cond (lost_at ports m port f q) 1 0) ports + total (λ q. cond (unsent_at ports m port f q) 1 0) ports) (get_or m.seen.losses (general_at ports) 0)
    unfolding Fine
    general_lost =
        turns_each (λ q. unsent_at ports m port f q) (λ q. lost_own ports) own_long (general_at ports) ports forwarded (omega (arith, forwarded_long)) (λ r x l t w. counted_here (general_at ports) x w)
        ∙ ap (up (total (λ q. cond (unsent_at ports m port f q) 1 0) ports))
        (turns_each (λ q. lost_at ports m port f q) (lost_from ports (port - 1)) (from_long (port - 1)) (general_at ports) ports m.seen.losses (omega (arith, fine)) up_here)
        ∙ up_up (total (λ q. cond (unsent_at ports m port f q) 1 0) ports) (total (λ q. cond (lost_at ports m port f q) 1 0) ports) (get_or m.seen.losses (general_at ports) 0)
      where
        up_here : (r : ℕ) (x : List ℕ) → r < ports → lost_at ports m port f r ≡ true → general_at ports < length x → get_or (lost_from ports (port - 1) r x) (general_at ports) 0 ≡ one_more (get_or x (general_at ports) 0)
        up_here r x l t w =
            let b = place_below {ports = ports} {p = port - 1} {q = r} (omega arith) l (away m port f r t) in
            counted_here (general_at ports) (counted_at (pair_at ports (port - 1) r) x) (rw (counted_long (pair_at ports (port - 1) r) x) w)
            ∙ ap one_more (counted_other (pair_at ports (port - 1) r) (general_at ports) x (λ e. omega (arith, e, b)))

  -- ---- a reset of the pair from port a to port b, at the counter of the pair p to q
  reset_at_lem : (a b : ℕ) → Ports ports a b × (b ≤ ports) → (p q : ℕ) → p < ports → q < ports → (p ≡ q → ⊥) → (l : List ℕ) → length l ≡ pair_count ports + 1
      → get_or (set l (pair_at ports (a - 1) (b - 1)) 0) (pair_at ports p q) 0 ≡ cond (eqb a (suc p) && eqb b (suc q)) 0 (get_or l (pair_at ports p q) 0)
  reset_at_lem a b P p q h k ne l long =
      elim (ℕ_discrete a (suc p)) [
        | yes e ↦
            elim (ℕ_discrete b (suc q)) [
              | yes g ↦ rw (eq-eqb a (suc p) e, eq-eqb b (suc q) g) (same e g)
              | no n ↦ rw (eq-eqb a (suc p) e, ne_eqb b (suc q) n) (other (λ x y. n (omega (arith, y, least))))
            ]
        | no n ↦ rw (ne_eqb a (suc p) n) (other (λ x y. n (omega (arith, x, P.0.least))))
      ]
    where
      least : 1 ≤ b
      least = ⊎_elim (λ s. s.0) (λ s. omega (arith, s)) P.0.other

      below : pair_at ports p q < length l
      below = let b = place_below h k ne in omega (arith, long, b)

      same : a ≡ suc p → b ≡ suc q → get_or (set l (pair_at ports (a - 1) (b - 1)) 0) (pair_at ports p q) 0 ≡ 0
      same e g =
          let x : a - 1 ≡ p = omega (arith, e) in
          let y : b - 1 ≡ q = omega (arith, g) in
          rw (x, y) (get_or-set_same l (pair_at ports p q) 0 0 below)

      other : (p ≡ a - 1 → q ≡ b - 1 → ⊥) → get_or (set l (pair_at ports (a - 1) (b - 1)) 0) (pair_at ports p q) 0 ≡ get_or l (pair_at ports p q) 0
      other n =
          get_or-set_other l (pair_at ports (a - 1) (b - 1)) (pair_at ports p q) 0 0
          (λ z. let s = place_same h k ne {r = a - 1} {s = b - 1} (omega (arith, P.0.most, P.0.least)) (omega (arith, P.1, least)) (λ w. P.0.apart (omega (arith, w, P.0.least, least))) z in n s.0 s.1)

  -- ---- what a message does to a pair's counter, and to the general one, by the payload's bytes
  module _ (payload l : List ℕ) (losses : List ℕ → List ℕ) (D : Resetting ports payload losses) (long : length l ≡ pair_count ports + 1) where
    pair_reset : (p q : ℕ) → p < ports → q < ports → (p ≡ q → ⊥)
        → get_or (losses l) (pair_at ports p q) 0 ≡ cond (eqb (get_or payload 0 0) 133 && (eqb (get_or payload 1 0 / 16) (suc p) && eqb (get_or payload 1 0 % 16) (suc q))) 0 (get_or l (pair_at ports p q) 0)
    pair_reset p q h k ne =
        elim (ℕ_discrete (function_of payload) 133) [
          | yes e ↦ rw (eq-eqb (get_or payload 0 0) 133 e, (D.1 e).1 l) (reset_at_lem (from_of (pair_of payload)) (to_of (pair_of payload)) (D.1 e).0 p q h k ne l long)
          | no n ↦ rw (ne_eqb (get_or payload 0 0) 133 n) (elim (ℕ_discrete (function_of payload) 130) [
            | yes e ↦ rw (D.0 e l) (get_or-set_other l (general_at ports) (pair_at ports p q) 0 0 (λ z. let b = place_below h k ne in omega (arith, z, b)))
            | no o ↦ ap (λ x. get_or x (pair_at ports p q) 0) (D.2 o n l)
          ])
        ]

    general_reset : get_or (losses l) (general_at ports) 0 ≡ cond (eqb (get_or payload 0 0) 130) 0 (get_or l (general_at ports) 0)
    general_reset =
        elim (ℕ_discrete (function_of payload) 130) [
          | yes e ↦ rw (eq-eqb (get_or payload 0 0) 130 e, D.0 e l) (get_or-set_same l (general_at ports) 0 0 (omega (arith, long)))
          | no n ↦ rw (ne_eqb (get_or payload 0 0) 130 n) (elim (ℕ_discrete (function_of payload) 133) [
            | yes e ↦ rw ((D.1 e).1 l) (get_or-set_other l _ (general_at ports) 0 0 (λ z. absurd (apart (D.1 e).0 z)))
            | no o ↦ ap (λ x. get_or x (general_at ports) 0) (D.2 n o l)
          ])
        ]
      where
        apart : Ports ports (from_of (pair_of payload)) (to_of (pair_of payload)) × (to_of (pair_of payload) ≤ ports) → general_at ports ≡ pair_at ports (from_of (pair_of payload) - 1) (to_of (pair_of payload) - 1) → ⊥
        apart P z =
            let least : 1 ≤ to_of (pair_of payload) = ⊎_elim (λ s. s.0) (λ s. omega (arith, s)) P.0.other in
            let b = place_below {ports = ports} {p = from_of (pair_of payload) - 1} {q = to_of (pair_of payload) - 1} (omega (arith, P.0.most, P.0.least)) (omega (arith, P.1, least)) (λ w. P.0.apart (omega (arith, w, P.0.least, least))) in
            omega (arith, z, b)

  -- ---- one call, at a pair's counter
  module _ (m : Model) (fine : Fine m) (p q : ℕ) (h : p < ports) (k : q < ports) (ne : p ≡ q → ⊥) where
    -- a frame
    pair_frame : (port id : ℕ) (bytes : List ℕ) → let c = FrameIn port id bytes in
        get_or (next ports m c).seen.losses (pair_at ports p q) 0 ≡ up (lost_between p q c (answer ports m c)) (get_or m.seen.losses (pair_at ports p q) 0)
    unfolding next_of performed refusal losses_after answer frame_answer frame_passed up
    pair_frame port id bytes = go (eqb (frame_refusal ports (words ports) port id (length bytes)) 0) refl
      where
        none : (b : Bool) → get_or m.seen.losses (pair_at ports p q) 0 ≡ up (cond (b && false) 1 0) (get_or m.seen.losses (pair_at ports p q) 0)
        none true = refl
        none false = refl

        go : (b : Bool) → eqb (frame_refusal ports (words ports) port id (length bytes)) 0 ≡ b
            → get_or (cond b (performed ports (words ports) m (FrameIn port id bytes)) m).seen.losses (pair_at ports p q) 0
            ≡ up (cond (eqb port (suc p) && bit_at (cond b (frame_passed ports m port (frame_of id bytes)) (frame_refused (frame_refusal ports (words ports) port id (length bytes)))).lost q) 1 0) (get_or m.seen.losses (pair_at ports p q) 0)
        go true e =
            let G = frame_goes ports (words ports) port id (length bytes) (eqb-true (frame_refusal ports (words ports) port id (length bytes)) 0 e) in
            pair_lost m fine port (frame_of id bytes) G.1 G.2 p q h k ne
            ∙ ap (λ b. up (cond (eqb port (suc p) && b) 1 0) (get_or m.seen.losses (pair_at ports p q) 0)) (sym (mask_bit (λ r. lost_at ports m port (frame_of id bytes) r) ports q k))
        go false e = none (eqb port (suc p)) ∙ ap (λ b. up (cond (eqb port (suc p) && b) 1 0) (get_or m.seen.losses (pair_at ports p q) 0)) (sym (no_bit ports q k))

    -- any call
    pub pair_step : (c : Call) → get_or (next ports m c).seen.losses (pair_at ports p q) 0
        ≡ cond (resets_pair p q c (answer ports m c)) 0 (up (lost_between p q c (answer ports m c)) (get_or m.seen.losses (pair_at ports p q) 0))
    unfolding next_of performed refusal losses_after answer Fine up
    pair_step (FrameIn port id bytes) = pair_frame port id bytes
    pair_step (TakeOut port) = still (eqb (take_refusal ports (words ports) port) 0)
      where
        still : (b : Bool) → get_or (cond b (performed ports (words ports) m (TakeOut port)) m).seen.losses (pair_at ports p q) 0 ≡ get_or m.seen.losses (pair_at ports p q) 0
        still true = refl
        still false = refl
    pair_step (Message port requester payload lentReply) = go (eqb (messaged ports (words ports) lentReply m.rest port requester payload).number 0) refl
      where
        go : (b : Bool) → eqb (messaged ports (words ports) lentReply m.rest port requester payload).number 0 ≡ b
            → get_or (cond b (performed ports (words ports) m (Message port requester payload lentReply)) m).seen.losses (pair_at ports p q) 0
            ≡ cond (b && (eqb (get_or payload 0 0) 133 && (eqb (get_or payload 1 0 / 16) (suc p) && eqb (get_or payload 1 0 % 16) (suc q)))) 0 (get_or m.seen.losses (pair_at ports p q) 0)
        go true e =
            pair_reset payload m.seen.losses (messaged ports (words ports) lentReply m.rest port requester payload).losses
            (message_does ports m.rest port requester payload (words ports) lentReply (eqb-true (messaged ports (words ports) lentReply m.rest port requester payload).number 0 e)) fine p q h k ne
        go false e = refl
    pair_step Start = go (eqb (start_refusal ports (words ports) m.rest.own) 0)
      where
        go : (b : Bool) → get_or (cond b (performed ports (words ports) m Start) m).seen.losses (pair_at ports p q) 0 ≡ get_or m.seen.losses (pair_at ports p q) 0
        go true =
            turns_other (λ q. start_unsent_at m q) (λ q. lost_own ports) own_long (pair_at ports p q) ports m.seen.losses
            (λ r l t x. counted_other (general_at ports) (pair_at ports p q) x (λ e. let b = place_below h k ne in omega (arith, e, b)))
        go false = refl
    pair_step Quiet = still (eqb (quiet_refusal ports (words ports) m.rest.own) 0)
      where
        still : (b : Bool) → get_or (cond b (performed ports (words ports) m Quiet) m).seen.losses (pair_at ports p q) 0 ≡ get_or m.seen.losses (pair_at ports p q) 0
        still true = refl
        still false = refl
    pair_step ReadUnit = still (eqb (length_refusal ports (words ports)) 0)
      where
        still : (b : Bool) → get_or (cond b (performed ports (words ports) m ReadUnit) m).seen.losses (pair_at ports p q) 0 ≡ get_or m.seen.losses (pair_at ports p q) 0
        still true = refl
        still false = refl
    pair_step (ReadCounts port) = still (eqb (take_refusal ports (words ports) port) 0)
      where
        still : (b : Bool) → get_or (cond b (performed ports (words ports) m (ReadCounts port)) m).seen.losses (pair_at ports p q) 0 ≡ get_or m.seen.losses (pair_at ports p q) 0
        still true = refl
        still false = refl

  -- ---- one call, at the general counter
  module _ (m : Model) (fine : Fine m) where
    abbrev general : ℕ
    general = get_or m.seen.losses (general_at ports) 0

    -- a call that is answered without a port
    silent_call : general ≡ up (named ports 0 + named ports 0) general
    unfolding up
    silent_call = let z : 0 ≡ named ports 0 + named ports 0 = rw (none_named ports) refl in ap (λ n. up n general) z

    pub general_step : (c : Call) → get_or (next ports m c).seen.losses (general_at ports) 0 ≡ cond (resets_general c (answer ports m c)) 0 (up (lost_anywhere ports c (answer ports m c)) general)
    unfolding next_of performed refusal losses_after answer frame_answer frame_passed start_answer Fine
    general_step (FrameIn port id bytes) = go (eqb (frame_refusal ports (words ports) port id (length bytes)) 0) refl
      where
        go : (b : Bool) → eqb (frame_refusal ports (words ports) port id (length bytes)) 0 ≡ b
            → get_or (cond b (performed ports (words ports) m (FrameIn port id bytes)) m).seen.losses (general_at ports) 0
            ≡ up (named ports (cond b (frame_passed ports m port (frame_of id bytes)) (frame_refused (frame_refusal ports (words ports) port id (length bytes)))).lost
            + named ports (cond b (frame_passed ports m port (frame_of id bytes)) (frame_refused (frame_refusal ports (words ports) port id (length bytes)))).unsent) general
        go true e =
            let G = frame_goes ports (words ports) port id (length bytes) (eqb-true (frame_refusal ports (words ports) port id (length bytes)) 0 e) in
            general_lost m fine port (frame_of id bytes) G.1 G.2
            ∙ rw (mask_named (λ q. lost_at ports m port (frame_of id bytes) q) ports, mask_named (λ q. unsent_at ports m port (frame_of id bytes) q) ports) refl
        go false e = silent_call
    general_step (TakeOut port) = still (eqb (take_refusal ports (words ports) port) 0) ∙ silent_call
      where
        still : (b : Bool) → get_or (cond b (performed ports (words ports) m (TakeOut port)) m).seen.losses (general_at ports) 0 ≡ general
        still true = refl
        still false = refl
    general_step (Message port requester payload lentReply) =
        go (eqb (messaged ports (words ports) lentReply m.rest port requester payload).number 0) refl
        ∙ ap (cond (eqb (messaged ports (words ports) lentReply m.rest port requester payload).number 0 && eqb (get_or payload 0 0) 130) 0) silent_call
      where
        go : (b : Bool) → eqb (messaged ports (words ports) lentReply m.rest port requester payload).number 0 ≡ b
            → get_or (cond b (performed ports (words ports) m (Message port requester payload lentReply)) m).seen.losses (general_at ports) 0 ≡ cond (b && eqb (get_or payload 0 0) 130) 0 general
        go true e =
            general_reset payload m.seen.losses (messaged ports (words ports) lentReply m.rest port requester payload).losses
            (message_does ports m.rest port requester payload (words ports) lentReply (eqb-true (messaged ports (words ports) lentReply m.rest port requester payload).number 0 e)) fine
        go false e = refl
    general_step Start = go (eqb (start_refusal ports (words ports) m.rest.own) 0)
      where
        go : (b : Bool) → get_or (cond b (performed ports (words ports) m Start) m).seen.losses (general_at ports) 0
            ≡ up (named ports 0 + named ports (cond b (record { refusal = 0; unsent = mask (λ q. start_unsent_at m q) ports; claim = (started m.rest).rest.own.claim }) (start_refused (start_refusal ports (words ports) m.rest.own))).unsent) general
        go true =
            turns_each (λ q. start_unsent_at m q) (λ q. lost_own ports) own_long (general_at ports) ports m.seen.losses (omega (arith, fine)) (λ r x l t w. counted_here (general_at ports) x w)
            ∙ (let z : total (λ q. cond (start_unsent_at m q) 1 0) ports ≡ named ports 0 + named ports (mask (λ q. start_unsent_at m q) ports) = rw (none_named ports, mask_named (λ q. start_unsent_at m q) ports) (sym (zero-add (total (λ q. cond (start_unsent_at m q) 1 0) ports))) in ap (λ n. up n general) z)
        go false = silent_call
    general_step Quiet = still (eqb (quiet_refusal ports (words ports) m.rest.own) 0) ∙ silent_call
      where
        still : (b : Bool) → get_or (cond b (performed ports (words ports) m Quiet) m).seen.losses (general_at ports) 0 ≡ general
        still true = refl
        still false = refl
    general_step ReadUnit = still (eqb (length_refusal ports (words ports)) 0) ∙ silent_call
      where
        still : (b : Bool) → get_or (cond b (performed ports (words ports) m ReadUnit) m).seen.losses (general_at ports) 0 ≡ general
        still true = refl
        still false = refl
    general_step (ReadCounts port) = still (eqb (take_refusal ports (words ports) port) 0) ∙ silent_call
      where
        still : (b : Bool) → get_or (cond b (performed ports (words ports) m (ReadCounts port)) m).seen.losses (general_at ports) 0 ≡ general
        still true = refl
        still false = refl
