-- No command, reply or refusal reads what is searched: on pairs without it a message is answered the same, and the old
-- commands leave the same pairs without it.
-- Assumes nothing.
use mathlib.Core.Path.{◌≡◌, refl, sym, ap, fun_ext, ◌∙◌}
use mathlib.Core.Bool.{Bool, true, false, cond}
use mathlib.Core.List.{List, [], ◌∷◌, ◌++◌, map}
use Prim.Native.Nat.{ℕ, zero, suc, ◌+◌, ◌-◌}
use lib.Dec.{eqb}
use lib.ListN.{length, take, drop, get_or}
use Rattle.entries.specs.Entries.{entries_of}
use Rattle.filter.specs.Filter.{Filter, clear}
use Rattle.filter_commands.specs.Changes.{would_pass, lacks, passes_names, entry_of, may_add, may_delete, may_create, may_name}
use Rattle.filter_commands.specs.Changes.{added, deleted, created, named}
use Rattle.filter_commands.specs.Pairs.{holds_of, change_of}
use Rattle.filter_commands.specs.declared.pairs.Question.{Question}
use Rattle.filter_commands.specs.declared.pairs.Question.TheVariants.{IsCleared, IsNotCleared, WouldPass, Lacks}
use Rattle.filter_commands.specs.declared.pairs.Question.TheVariants.{NamesFull}
use Rattle.filter_commands.specs.declared.pairs.Change.{Change}
use Rattle.filter_commands.specs.declared.pairs.Change.TheVariants.{Adds, Deletes, Creates, Names}
use Rattle.network_message.specs.Asked.{Asked, Refused, Request, WithEntries, Clear, AddressList, Parameter, Reset, PairParameter, PairReset}
use Rattle.network_message.specs.Decoding.{pair_of, between, decoded}
use Rattle.replies.specs.Replies.{list_reply, list_body, parameter_reply}
use Rattle.unit.specs.Ports.{each, total}
use Rattle.unit.specs.Model.{Rest, Seen, Model, pair_at, with_pairs, with_rest}
use Rattle.unit.specs.Count.{pair_count}
use Rattle.list_commands.specs.Commands.{first_pair, names, any_below, holds_at, change_at, any_named, change_named}
use Rattle.list_commands.specs.Commands.{list_checks, list_refusal, commanded, first_below, absent_in, absent_at}
use Rattle.parameters.specs.Parameters.{entries_at, pair_parameter, general_parameter}
use Rattle.message_answers.specs.Messages.{Replied, absent_told, replied, performed_by}
use Rattle.refusals.specs.Refusals.{message_refusal}
use Rattle.bridge.specs.Calls.{silent_reply, messaged}
use Rattle.old_layout.specs.OldLayout.{as_lent, old_added, old_deleted, old_created, old_named, old_change_of}
use Rattle.old_layout.specs.OldLayout.{old_commanded, old_pairs_by, old_pairs_after}

-- ---- without what is searched: a filter, and every pair of a unit
abbrev pub forget : Filter → Filter
forget f = record { mode = f.mode; entries = f.entries; named = f.named; sorted = [] }

abbrev pub forgotten_rest : Rest → Rest
forgotten_rest rest = with_pairs rest (map forget rest.pairs)

abbrev pub forgotten : Model → Model
forgotten m = with_rest m (forgotten_rest m.rest)

-- ---- one pair
same_test : (q : Question) (xs : List ℕ) (f : Filter) → holds_of q xs (forget f) ≡ holds_of q xs f
unfolding holds_of would_pass lacks passes_names
same_test IsCleared xs f = refl
same_test IsNotCleared xs f = refl
same_test WouldPass xs f = refl
same_test Lacks xs f = refl
same_test (NamesFull name mask) xs f = refl

-- a change, or none
either : (b : Bool) (x y x' y' : Filter) → x' ≡ forget x → y' ≡ forget y → cond b x' y' ≡ forget (cond b x y)
either true x y x' y' p q = p
either false x y x' y' p q = q

same_change : (change : Change) (xs : List ℕ) (f : Filter)
    → old_change_of change xs (forget f) ≡ forget (change_of change xs f)
unfolding change_of added deleted created named old_change_of old_added old_deleted old_created old_named may_add may_delete may_create may_name would_pass lacks passes_names
same_change Adds xs f = either (may_add f xs) _ f _ (forget f) refl refl
same_change Deletes xs f = either (may_delete f xs) _ f _ (forget f) refl refl
same_change (Creates passing) xs f = either (may_create f xs) _ f _ (forget f) refl refl
same_change (Names name mask) xs f = either (may_name f (entry_of xs name mask)) _ f _ (forget f) refl refl

-- ---- the pairs
pub forget_at : (fs : List Filter) (i : ℕ) → get_or (map forget fs) i clear ≡ forget (get_or fs i clear)
forget_at [] i = refl
forget_at (f ∷ fs) zero = refl
forget_at (f ∷ fs) (suc i) = forget_at fs i

forget_append : (fs gs : List Filter) → map forget (fs ++ gs) ≡ map forget fs ++ map forget gs
forget_append [] gs = refl
forget_append (f ∷ fs) gs = ap (λ l. forget f ∷ l) (forget_append fs gs)

forget_take : (n : ℕ) (fs : List Filter) → take n (map forget fs) ≡ map forget (take n fs)
forget_take zero fs = refl
forget_take (suc n) [] = refl
forget_take (suc n) (f ∷ fs) = ap (λ l. forget f ∷ l) (forget_take n fs)

forget_drop : (n : ℕ) (fs : List Filter) → drop n (map forget fs) ≡ map forget (drop n fs)
forget_drop zero fs = refl
forget_drop (suc n) [] = refl
forget_drop (suc n) (f ∷ fs) = forget_drop n fs

each_same : (old new : ℕ → Filter → Filter) → ((k : ℕ) (f : Filter) → old k (forget f) ≡ forget (new k f))
    → (n : ℕ) (fs : List Filter)
    → each old n (map forget fs) ≡ map forget (each new n fs)
unfolding each
each_same old new h zero fs = refl
each_same old new h (suc n) [] = refl
each_same old new h (suc n) (f ∷ fs) = rw (h zero f, each_same (λ q. old (suc q)) (λ q. new (suc q)) (λ k. h (suc k)) n fs)

module _ (ports from to : ℕ) (pairs : List Filter) where
  named_same : (old new : Filter → Filter) → ((f : Filter) → old (forget f) ≡ forget (new f))
      → change_named ports (ports - 1) old from to (map forget pairs)
      ≡ map forget (change_named ports (ports - 1) new from to pairs)
  unfolding change_named
  named_same old new h =
      let n = first_pair ports from in
      rw (
        forget_take n pairs,
        forget_drop n pairs,
        each_same (change_at old from to) (change_at new from to)
            (λ k f. either (names from to k) (new f) f (old (forget f)) (forget f) (h f) refl) (ports - 1) (drop n pairs),
      )
      (sym (forget_append (take n pairs) (each (change_at new from to) (ports - 1) (drop n pairs))))

  module _ (q : Question) (xs : List ℕ) where
    holds_same : (k : ℕ)
        → holds_at ports (holds_of q xs) from to (map forget pairs) k ≡ holds_at ports (holds_of q xs) from to pairs k
    holds_same k = rw (forget_at pairs (first_pair ports from + k), same_test q xs (get_or pairs (first_pair ports from + k) clear))

    any_same : (n : ℕ)
        → any_named ports n (holds_of q xs) from to (map forget pairs) ≡ any_named ports n (holds_of q xs) from to pairs
    unfolding any_named
    any_same n = ap (λ (test : ℕ → Bool). any_below test n) (fun_ext holds_same)

  module _ (xs : List ℕ) where
    refusal_same : (change : Change)
        → list_refusal ports change xs from to (map forget pairs) ≡ list_refusal ports change xs from to pairs
    unfolding list_refusal list_checks
    refusal_same Adds = rw (any_same IsCleared xs (ports - 1), any_same WouldPass xs (ports - 1))
    refusal_same Deletes = rw (any_same IsCleared xs (ports - 1), any_same Lacks xs (ports - 1))
    refusal_same (Creates passing) = rw (any_same IsNotCleared xs (ports - 1), any_same WouldPass xs (ports - 1))
    refusal_same (Names name mask) = rw (any_same IsCleared xs (ports - 1), any_same (NamesFull name mask) xs (ports - 1))

    commanded_same : (change : Change)
        → old_commanded ports change xs from to (map forget pairs) ≡ map forget (commanded ports change xs from to pairs)
    unfolding commanded old_commanded
    commanded_same change = rw (refusal_same change) (go (eqb (list_refusal ports change xs from to pairs) 0))
      where
        go : (b : Bool)
            → cond b (change_named ports (ports - 1) (old_change_of change xs) from to (map forget pairs)) (map forget pairs)
            ≡ map forget (cond b (change_named ports (ports - 1) (change_of change xs) from to pairs) pairs)
        go true = named_same (old_change_of change xs) (change_of change xs) (same_change change xs)
        go false = refl

    absent_same : absent_at ports xs from to (map forget pairs) ≡ absent_at ports xs from to pairs
    unfolding absent_at
    absent_same =
        ap
        (λ (test : ℕ → Bool).
        absent_in xs from (first_below test (ports - 1))
        (get_or (map forget pairs) (first_pair ports from + first_below test (ports - 1)) clear))
        (fun_ext (holds_same Lacks xs))
        ∙ rw (forget_at pairs (first_pair ports from + first_below (holds_at ports (holds_of Lacks xs) from to pairs) (ports - 1)))

    told_same : (number : ℕ)
        → absent_told ports number xs from to (map forget pairs) ≡ absent_told ports number xs from to pairs
    unfolding absent_told
    told_same number = rw absent_same

-- ---- a message, besides the pairs that it leaves
abbrev pub besides : Replied → Replied
besides r = record { number = r.number; pairs = []; losses = r.losses; pgn = r.pgn; written = r.written; told = r.told }

module _ (ports : ℕ) (rest : Rest) where
  entries_same : (i : ℕ) → entries_at (forgotten_rest rest) i ≡ entries_at rest i
  entries_same i = rw (forget_at rest.pairs i)

  pair_same : (seen : Seen) (p q parameter : ℕ)
      → pair_parameter ports (forgotten_rest rest) seen p q parameter ≡ pair_parameter ports rest seen p q parameter
  unfolding pair_parameter
  pair_same seen p q parameter = rw (entries_same (pair_at ports p q))

  general_same : (seen : Seen) (parameter : ℕ)
      → general_parameter ports (forgotten_rest rest) seen parameter ≡ general_parameter ports rest seen parameter
  unfolding general_parameter
  general_same seen parameter = rw (ap (λ (f : ℕ → ℕ). total f (pair_count ports)) (fun_ext entries_same))

  list_same : (pair i : ℕ)
      → list_reply pair (get_or (map forget rest.pairs) i clear) ≡ list_reply pair (get_or rest.pairs i clear)
  unfolding list_reply list_body
  list_same pair i = rw (forget_at rest.pairs i)

  -- a reply that shows the same
  shown : {before after : Seen → List ℕ} → ((seen : Seen) → before seen ≡ after seen)
      → besides (replied before (map forget rest.pairs)) ≡ besides (replied after rest.pairs)
  shown h = ap (λ (bytes : Seen → List ℕ). besides (replied bytes [])) (fun_ext h)

  performed_same : (requester : ℕ) (payload : List ℕ) (c : Asked)
      → besides (performed_by ports (forgotten_rest rest) requester payload c)
      ≡ besides (performed_by ports rest requester payload c)
  unfolding performed_by
  performed_same requester payload (Refused number entry) = refl
  performed_same requester payload (Request from to) =
      shown (λ seen. list_same (pair_of payload) (pair_at ports (from - 1) (to - 1)))
  performed_same requester payload (WithEntries change from to start end) =
      let xs = entries_of (between start end payload) in
      rw (
        refusal_same ports from to rest.pairs xs change,
        told_same ports from to rest.pairs xs (list_refusal ports change xs from to rest.pairs),
      )
  performed_same requester payload (Clear from to) = refl
  performed_same requester payload (AddressList port) = refl
  performed_same requester payload (Parameter parameter) =
      shown (λ seen. ap (parameter_reply 129 0xFF parameter) (general_same seen parameter))
  performed_same requester payload Reset = refl
  performed_same requester payload (PairParameter from to parameter) =
      shown (λ seen. ap (parameter_reply 132 (pair_of payload) parameter) (pair_same seen (from - 1) (to - 1) parameter))
  performed_same requester payload (PairReset from to) = refl

  pairs_same : (requester : ℕ) (payload : List ℕ) (c : Asked)
      → old_pairs_by ports (forgotten_rest rest) payload c ≡ map forget (performed_by ports rest requester payload c).pairs
  unfolding performed_by old_pairs_by
  pairs_same requester payload (Refused number entry) = refl
  pairs_same requester payload (Request from to) = refl
  pairs_same requester payload (WithEntries change from to start end) =
      commanded_same ports from to rest.pairs (entries_of (between start end payload)) change
  pairs_same requester payload (Clear from to) = named_same ports from to rest.pairs (λ _. clear) (λ _. clear) (λ _. refl)
  pairs_same requester payload (AddressList port) = refl
  pairs_same requester payload (Parameter parameter) = refl
  pairs_same requester payload Reset = refl
  pairs_same requester payload (PairParameter from to parameter) = refl
  pairs_same requester payload (PairReset from to) = refl

  module _ (lent lentReply port requester : ℕ) (payload : List ℕ) where
    abbrev done : Rest → Replied
    done r = performed_by ports r requester payload (decoded ports port payload)

    pub messaged_same : besides (messaged ports lent lentReply (forgotten_rest rest) port requester payload)
        ≡ besides (messaged ports lent lentReply rest port requester payload)
    unfolding messaged message_refusal
    messaged_same = go (eqb n 0)
      where
        n : ℕ
        n = message_refusal ports lent lentReply rest port requester (length payload)

        go : (b : Bool)
            → besides (cond b (done (forgotten_rest rest)) (silent_reply n (map forget rest.pairs)))
            ≡ besides (cond b (done rest) (silent_reply n rest.pairs))
        go true = performed_same requester payload (decoded ports port payload)
        go false = refl

    -- and the pairs
    pub left_same : old_pairs_after ports lent lentReply (forgotten_rest rest) port requester payload
        ≡ map forget (messaged ports (as_lent ports lent) lentReply rest port requester payload).pairs
    unfolding messaged message_refusal old_pairs_after
    left_same = go (eqb n 0)
      where
        n : ℕ
        n = message_refusal ports (as_lent ports lent) lentReply rest port requester (length payload)

        go : (b : Bool)
            → cond b (old_pairs_by ports (forgotten_rest rest) payload (decoded ports port payload)) (map forget rest.pairs)
            ≡ map forget (cond b (done rest) (silent_reply n rest.pairs)).pairs
        go true = pairs_same requester payload (decoded ports port payload)
        go false = refl
