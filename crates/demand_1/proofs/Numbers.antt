-- The number of the first check that applies is given exactly so; and the numbers of a message, which the unit finds in three steps, are one table. Assumes nothing.
use mathlib.Core.Path.{◌≡◌, refl, sym, ap, ◌∙◌}
use mathlib.Core.Bool.{Bool, true, false, cond, not, ◌&&◌, ◌||◌, or-true, or-false, true≢false}
use mathlib.Core.List.{List, [], ◌∷◌, ◌++◌}
use Prim.Native.Nat.{ℕ}
use native.Mathlib.Omega.{arith}
use borrow.Author.Tests.{eqb-true, ltb-true, not-false}
use lib.ListN.{length}
use lib.Dec.{eqb, ltb, leb}
use Rattle.checks.proofs.Tests.{both}
use Rattle.checks.specs.Checks.{Check, check, first}
use Rattle.checks.proofs.FirstNumber.{all_numbers}
use Rattle.filter.specs.Filter.{Filter, is_cleared}
use Rattle.entries.specs.Entries.{listed}
use Rattle.filter_commands.specs.Changes.{would_pass, lacks, passes_names}
use Rattle.network_message.specs.Asked.{Asked, Refused}
use Rattle.network_message.specs.Decoding.{is_known, names_ports, may_name, holds_parameter, has_good_body, wrong_entry, has_wrong_mode, refusal_of, judged, command_of, decoded, longest}
use Rattle.network_message.proofs.Passing.{by_function}
use Rattle.unit.specs.Model.{Rest}
use Rattle.checks.specs.Ports.{no_port}
use Rattle.unit.specs.PowerOn.{not_long}
use Rattle.unit.specs.Own.{is_claimed}
use Rattle.list_commands.specs.Commands.{list_refusal, list_checks}
use Rattle.filter_commands.specs.Pairs.{holds_of}
use Rattle.message_answers.specs.Messages.{Replied, performed_by}
use Rattle.bridge.specs.Calls.{silent_reply, messaged}
use Rattle.refusals.specs.Refusals.{message_refusal}
use Rattle.demand_1.proofs.Told.{wrong_is}
use Rattle.demand_1.specs.Demand1.{function, from, to, parameter, asks_parameter, resets, entries, name_entry, a_named_pair, message_numbers, none_applies, Given, Exact}

-- ---- the first check that applies
-- no number is 0
abbrev pub positive : ℕ → Bool
positive n = ltb 0 n

apart : true ≡ false → ⊥
apart e = true≢false e

-- it is the head, or it stands in the tail
given_head : (n : ℕ) (cs : List Check) → Given (check true n ∷ cs) n
given_head n cs = record { before = []; behind = cs; place = refl; first = refl }

head_given : (m n : ℕ) (cs before behind : List Check) → check true m ∷ cs ≡ before ++ check true n ∷ behind → none_applies before ≡ true → m ≡ n
head_given m n cs [] behind e f =
    let w : check true m ≡ check true n = cc in
    ap (λ (c : Check). c.number) w
head_given m n cs (b ∷ before) behind e f =
    let w : check true m ≡ b = cc in
    absurd (apart (sym (rw (← w) at f)))

given_tail : (m n : ℕ) (cs : List Check) → Given cs n → Given (check false m ∷ cs) n
given_tail m n cs g = record { before = check false m ∷ g.before; behind = g.behind; place = ap (λ l. check false m ∷ l) g.place; first = g.first }

tail_given : (m n : ℕ) (cs before behind : List Check) → check false m ∷ cs ≡ before ++ check true n ∷ behind → none_applies before ≡ true → Given cs n
tail_given m n cs [] behind e f =
    let w : check false m ≡ check true n = cc in
    absurd (apart (sym (ap (λ (c : Check). c.applies) w)))
tail_given m n cs (b ∷ before) behind e f =
    let w : check false m ≡ b = cc in
    let t : cs ≡ before ++ check true n ∷ behind = cc in
    record { before = before; behind = behind; place = t; first = rw (← w) at f }

nowhere : (n : ℕ) (before behind : List Check) → [] ≡ before ++ check true n ∷ behind → ⊥
nowhere n [] behind e = let z : ◌≡◌ {A = ℕ} 0 1 = cc in omega arith
nowhere n (b ∷ before) behind e = let z : ◌≡◌ {A = ℕ} 0 1 = cc in omega arith

exact_here : (m : ℕ) (cs : List Check) → ltb 0 m ≡ true → Exact (check true m ∷ cs) m
exact_here m cs p = record {
  given = λ n z. ((λ e. rw (← e) (given_head m cs)), (λ g. head_given m n cs g.before g.behind g.place g.first));
  done = ((λ e. absurd (omega (arith, ltb-true 0 m p))), (λ f. absurd (apart (sym f))));
}

exact_later : (m r : ℕ) (cs : List Check) → Exact cs r → Exact (check false m ∷ cs) r
exact_later m r cs E = record {
  given = λ n z. ((λ e. given_tail m n cs ((E.given n z).0 e)), (λ g. (E.given n z).1 (tail_given m n cs g.before g.behind g.place g.first)));
  done = E.done;
}

pub exact : (cs : List Check) → all_numbers positive cs ≡ true → Exact cs (first cs)
exact [] h = record { given = λ n z. ((λ e. absurd (z (sym e))), (λ g. absurd (nowhere n g.before g.behind g.place))); done = ((λ e. refl), (λ f. refl)) }
exact (c ∷ cs) h = let p = both (positive c.number) (all_numbers positive cs) h in go c.applies p.0 (exact cs p.1)
  where
    go : (b : Bool) → positive c.number ≡ true → Exact cs (first cs) → Exact (check b c.number ∷ cs) (cond b c.number (first cs))
    go true p E = exact_here c.number cs p
    go false p E = exact_later c.number (first cs) cs E

-- ---- the numbers of a message
-- 1 to 8, before the payload is read
early : (a b c d e : Bool) (r : Replied) (pairs : List Filter) → (cond (eqb (cond a 1 (cond b 2 (cond c 6 (cond d 7 (cond e 8 0))))) 0) r (silent_reply (cond a 1 (cond b 2 (cond c 6 (cond d 7 (cond e 8 0))))) pairs)).number ≡ cond a 1 (cond b 2 (cond c 6 (cond d 7 (cond e 8 r.number))))
early true b c d e r pairs = refl
early false true c d e r pairs = refl
early false false true d e r pairs = refl
early false false false true e r pairs = refl
early false false false false true r pairs = refl
early false false false false false r pairs = refl

-- 23: 9 is held, so that a reset of any other is refused whether it is held or not; by the function
pub held_is : (payload : List ℕ)
    → not (holds_parameter (function payload) (parameter payload)) ≡ asks_parameter payload && (not (listed (parameter payload) (1 ∷ 2 ∷ 3 ∷ 9 ∷ [])) || (resets payload && not (eqb (parameter payload) 9)))
unfolding holds_parameter listed
held_is payload = go (eqb 128 f) (eqb 130 f) (eqb 131 f) (eqb 133 f) refl refl refl refl
  where
    f : ℕ
    f = function payload

    p : ℕ
    p = parameter payload

    held : Bool
    held = listed p (1 ∷ 2 ∷ 3 ∷ 9 ∷ [])

    nine : (t : Bool) → eqb p 9 ≡ t → not held || not t ≡ not t
    nine true e = rw (eqb-true p 9 e)
    nine false e = or-true (not held)

    go : (a b c d : Bool) → eqb 128 f ≡ a → eqb 130 f ≡ b → eqb 131 f ≡ c → eqb 133 f ≡ d
        → not (cond (a || (c || false)) held (cond (b || (d || false)) (eqb p 9) true)) ≡ (a || (b || (c || (d || false)))) && (not held || ((b || (d || false)) && not (eqb p 9)))
    go true true c d x y z w = absurd (omega (arith, eqb-true 128 f x, eqb-true 130 f y))
    go true false c true x y z w = absurd (omega (arith, eqb-true 128 f x, eqb-true 133 f w))
    go true false c false x y z w = sym (or-false (not held))
    go false true true d x y z w = absurd (omega (arith, eqb-true 130 f y, eqb-true 131 f z))
    go false true false d x y z w = sym (nine (eqb p 9) refl)
    go false false true true x y z w = absurd (omega (arith, eqb-true 131 f z, eqb-true 133 f w))
    go false false true false x y z w = sym (or-false (not held))
    go false false false true x y z w = sym (nine (eqb p 9) refl)
    go false false false false x y z w = refl

module _ (ports : ℕ) (rest : Rest) (requester : ℕ) (payload : List ℕ) where
  -- from the payload
  late : (f g h p i w j : Bool) (n : ℕ) (k : Asked) → (performed_by ports rest requester payload (cond (eqb (cond f 9 (cond g 10 (cond h 11 (cond p 23 (cond i 12 (cond w 22 (cond j 13 0))))))) 0) k (Refused (cond f 9 (cond g 10 (cond h 11 (cond p 23 (cond i 12 (cond w 22 (cond j 13 0))))))) n))).number ≡ cond f 9 (cond g 10 (cond h 11 (cond p 23 (cond i 12 (cond w 22 (cond j 13 (performed_by ports rest requester payload k).number))))))
  unfolding performed_by
  late true g h p i w j n k = refl
  late false true h p i w j n k = refl
  late false false true p i w j n k = refl
  late false false false true i w j n k = refl
  late false false false false true w j n k = refl
  late false false false false false true j n k = refl
  late false false false false false false true n k = refl
  late false false false false false false false n k = refl

  -- 14 to 17, from the lists
  abbrev lists : ℕ
  lists =
      first
      (check (eqb (function payload) 6 && a_named_pair ports rest payload (λ f. not (is_cleared f.mode))) 14
      ∷ check (listed (function payload) (2 ∷ 3 ∷ 7 ∷ []) && a_named_pair ports rest payload (λ f. is_cleared f.mode)) 15
      ∷ check (listed (function payload) (2 ∷ 6 ∷ []) && a_named_pair ports rest payload (λ f. would_pass f (entries payload))) 16
      ∷ check (eqb (function payload) 7 && a_named_pair ports rest payload (λ f. passes_names f (name_entry payload))) 16
      ∷ check (eqb (function payload) 3 && a_named_pair ports rest payload (λ f. lacks f (entries payload))) 17
      ∷ [])

  by_lists : is_known (function payload) ≡ true → (performed_by ports rest requester payload (command_of (function payload) (from payload) (to payload) payload)).number ≡ lists
  unfolding performed_by listed list_refusal list_checks holds_of
  by_lists known =
      by_function (λ k. (performed_by ports rest requester payload k).number ≡ lists) (function payload) (from payload) (to payload) payload known
      (λ e. rw e)
      (λ e. rw e)
      (λ e. rw e)
      (λ e. rw e)
      (λ _ e. rw e)
      (λ e. rw e)
      (λ e. rw e)
      (λ e. rw e)
      (λ e. rw e)
      (λ e. rw e)
      (λ e. rw e)

  below_known : (f g h p i w j : Bool) (m n : ℕ) → (f ≡ false → m ≡ n) → cond f 9 (cond g 10 (cond h 11 (cond p 23 (cond i 12 (cond w 22 (cond j 13 m)))))) ≡ cond f 9 (cond g 10 (cond h 11 (cond p 23 (cond i 12 (cond w 22 (cond j 13 n))))))
  below_known true g h p i w j m n e = refl
  below_known false g h p i w j m n e = rw (e refl)

  pub message_number_lem : (lent lentReply port : ℕ) → (messaged ports lent lentReply rest port requester payload).number ≡ first (message_numbers ports lent lentReply rest port requester payload)
  unfolding messaged message_refusal decoded judged refusal_of
  message_number_lem lent lentReply port =
      let f = not (is_known (function payload)) in
      let g = not (names_ports ports (function payload) (from payload) (to payload)) in
      let h = not (may_name ports port (function payload) (from payload) (to payload)) in
      let p = not (holds_parameter (function payload) (parameter payload)) in
      let i = not (has_good_body (function payload) payload) in
      let w = not (eqb (wrong_entry (function payload) payload) 0) in
      let j = has_wrong_mode (function payload) payload in
      let k = command_of (function payload) (from payload) (to payload) payload in
      early (no_port ports port) (not_long ports lent || ltb lentReply longest) (not (is_claimed rest.own.claim)) (not (leb 8 (length payload) && leb (length payload) longest)) (ltb 253 requester) (performed_by ports rest requester payload (decoded ports port payload)) rest.pairs
      ∙ rw (late f g h p i w j (judged ports port (function payload) (from payload) (to payload) payload).entry k ∙ below_known f g h p i w j (performed_by ports rest requester payload k).number lists (λ e. by_lists (not-false (is_known (function payload)) e)), wrong_is payload, held_is payload)
