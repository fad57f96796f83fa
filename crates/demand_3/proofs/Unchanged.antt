-- What a call sends is what was handed in, or the unit's own frame. By the kind of the call, and of what a claim or request does. Assumes nothing.
use Rattle.std.specs.Prelude.{None, Option}
use mathlib.Core.Path.{◌≡◌, refl, ◌∙◌}
use mathlib.Core.Bool.{Bool, true, false, cond}
use mathlib.Core.Logic.{◌⊎◌, inl, inr}
use mathlib.Core.List.Memᴰ
use mathlib.Core.List.{List, [], ◌∷◌, ◌++◌, append-nil, Memᴰ}
use Prim.Native.Nat.{ℕ, ◌-◌, ◌<◌}
use native.Mathlib.Omega.{arith}
use lib.ListN.{length, get_or}
use lib.Dec.{eqb, ltb}
use Rattle.storage.specs.Bytes.{packed, bytes_of}
use Rattle.storage.proofs.Bytes.{packed_back}
use Rattle.identifier.specs.Identifier.{sa_of}
use Rattle.delivery.specs.Calls.{after_calls}
use Rattle.delivery.proofs.Calls.{after_append}
use Rattle.filter.specs.Filter.{crosses}
use Rattle.queue.specs.declared.Frame.{Frame}
use Rattle.address_claims.specs.declared.Event.{Event}
use Rattle.unit.specs.declared.Claim.{Claim}
use Rattle.unit.specs.declared.Claim.TheVariants.{Unstarted, Claiming, Claimed, Lost}
use Rattle.unit.specs.declared.Unit.{Unit}
use Rattle.unit.specs.Model.{Rest, Model}
use Rattle.unit.specs.Own.{is_own, consumes, request_answer, frames_sent}
use Rattle.unit.specs.PowerOn.{fresh}
use Rattle.claims.specs.Claims.{frame_of, Acted, is_claim, is_request_to_unit, contested, claim_acted, frame_acted, held_under, started}
use Rattle.bridge.specs.Calls.{Call, FrameIn, TakeOut, Message, Start, Quiet, ReadUnit, ReadCounts, offered, rest_after}
use Rattle.demand_3.specs.Demand3.{words, next, goes, rest_next, forwarded, forwards, announced, announces, sends, AsHandedIn, handed, of_unit, bytes_in, model_after}
use Rattle.demand_3.proofs.Moves.{rest_moves}

module _ (ports : ℕ) where
  -- ---- the unit's own frame, by what was done
  -- what holds of an act: its frame is the unit's as it then is, and the unit keeps its NAME
  record Ours (name : ℕ) (a : Acted) : Type 0 where
    frame : (k : Call) (f : Frame) → Memᴰ f (frames_sent a.sent) → AsHandedIn a.rest.own k f
    keeps : a.rest.own.name ≡ name

  none_sent : {own : Unit} (k : Call) (f : Frame) → Memᴰ f [] → AsHandedIn own k f
  none_sent k f m = absurd (Memᴰ.not-nil m)

  either : (name : ℕ) (b : Bool) {x y : Acted} → Ours name x → Ours name y → Ours name (cond b x y)
  either name true p q = p
  either name false p q = q

  module _ (rest : Rest) where
    silent : (a : Acted) → a.sent ≡ None → a.rest.own.name ≡ rest.own.name → Ours rest.own.name a
    silent a s n = record { frame = λ k f m. absurd (Memᴰ.not-nil (rw s at m)); keeps = n }

    request_ours : (e : Event) (c : Claim) → Ours rest.own.name (record { rest = rest; event = e; sent = request_answer rest.own c })
    request_ours e Unstarted = record { frame = λ k f m. none_sent k f m; keeps = refl }
    request_ours e Claiming = record { frame = λ k f m. claim_of_lem k f m; keeps = refl }
      where
        claim_of_lem : (k : Call) (f : Frame) → Memᴰ f (frames_sent (request_answer rest.own Claiming)) → AsHandedIn rest.own k f
        claim_of_lem k f m = rw (Memᴰ.eq_of_singleton m) (of_unit (inl refl) refl refl)
    request_ours e Claimed = record { frame = λ k f m. claim_of_lem k f m; keeps = refl }
      where
        claim_of_lem : (k : Call) (f : Frame) → Memᴰ f (frames_sent (request_answer rest.own Claimed)) → AsHandedIn rest.own k f
        claim_of_lem k f m = rw (Memᴰ.eq_of_singleton m) (of_unit (inl refl) refl refl)
    request_ours e Lost = record { frame = λ k f m. cannot_of k f m; keeps = refl }
      where
        cannot_of : (k : Call) (f : Frame) → Memᴰ f (frames_sent (request_answer rest.own Lost)) → AsHandedIn rest.own k f
        cannot_of k f m = rw (Memᴰ.eq_of_singleton m) (of_unit (inr refl) refl refl)

    contested_ours : (port address name : ℕ) → Ours rest.own.name (contested rest port address name)
    unfolding contested
    contested_ours port address name =
        either rest.own.name (ltb rest.own.name name)
        (record { frame = λ k f m. rw (Memᴰ.eq_of_singleton m) (of_unit (inl refl) refl refl); keeps = refl })
        (record { frame = λ k f m. rw (Memᴰ.eq_of_singleton m) (of_unit (inr refl) refl refl); keeps = refl })

    claim_ours : (port : ℕ) (f : Frame) → Ours rest.own.name (claim_acted rest port f)
    unfolding claim_acted
    claim_ours port f =
        either rest.own.name (eqb f.bytes rest.own.name) (silent _ refl refl)
        (either rest.own.name (eqb (sa_of f.id) 254) (silent _ refl refl)
        (either rest.own.name (is_own rest.own (sa_of f.id)) (contested_ours port (sa_of f.id) f.bytes) (silent _ refl refl)))

    frame_ours : (port : ℕ) (consumed : Bool) (f : Frame) → Ours rest.own.name (frame_acted rest port consumed f)
    unfolding frame_acted
    frame_ours port consumed f =
        either rest.own.name (is_claim f) (claim_ours port f)
        (either rest.own.name (is_request_to_unit f consumed) (request_ours Event.Nothing rest.own.claim) (silent _ refl refl))

    start_ours : Ours rest.own.name (started rest)
    unfolding started
    start_ours =
        either rest.own.name (held_under rest.own.name (get_or rest.table rest.own.preferred None))
        (record { frame = λ k f m. rw (Memᴰ.eq_of_singleton m) (of_unit (inr refl) refl refl); keeps = refl })
        (record { frame = λ k f m. rw (Memᴰ.eq_of_singleton m) (of_unit (inl refl) refl refl); keeps = refl })

    -- ---- a call that is not refused
    kept_name : (k : Call) → (rest_after ports (words ports) rest k).own.name ≡ rest.own.name
    unfolding rest_after
    kept_name (FrameIn port id bytes) = (frame_ours port (consumes rest.own id) (frame_of id bytes)).keeps
    kept_name (TakeOut port) = refl
    kept_name (Message port requester payload lentReply) = refl
    kept_name Start = start_ours.keeps
    kept_name Quiet = refl
    kept_name ReadUnit = refl
    kept_name (ReadCounts port) = refl

    -- the frame that was handed in
    as_bytes : (bytes : List ℕ) → ((i : ℕ) → get_or bytes i 0 < 256) → bytes_of (length bytes) (packed bytes) ≡ bytes
    as_bytes bytes small =
        let none : length bytes - length bytes ≡ 0 = omega arith in
        packed_back (length bytes) bytes (omega arith) small ∙ rw none (append-nil bytes)

    permitted : (own : Unit) (k : Call) (port id : ℕ) (bytes : List ℕ) (b : Bool) (f : Frame) → k ≡ FrameIn port id bytes → ((i : ℕ) → get_or bytes i 0 < 256)
        → Memᴰ f (cond b (frame_of id bytes ∷ []) []) → AsHandedIn own k f
    permitted own k port id bytes true f e small m =
        rw (Memᴰ.eq_of_singleton m) (handed port id bytes e refl refl (as_bytes bytes small))
    permitted own k port id bytes false f e small m = none_sent k f m

    forwarded_so : (own : Unit) (k : Call) (q : ℕ) (f : Frame) → ((i : ℕ) → get_or (bytes_in k) i 0 < 256) → Memᴰ f (forwarded ports rest k q) → AsHandedIn own k f
    forwarded_so own (FrameIn port id bytes) q f small m = permitted own (FrameIn port id bytes) port id bytes (crosses (offered ports rest (port - 1) id q).reason) f refl small m
    forwarded_so own (TakeOut port) q f small m = none_sent (TakeOut port) f m
    forwarded_so own (Message port requester payload lentReply) q f small m = none_sent (Message port requester payload lentReply) f m
    forwarded_so own Start q f small m = none_sent Start f m
    forwarded_so own Quiet q f small m = none_sent Quiet f m
    forwarded_so own ReadUnit q f small m = none_sent ReadUnit f m
    forwarded_so own (ReadCounts port) q f small m = none_sent (ReadCounts port) f m

    announced_so : (k : Call) (f : Frame) → Memᴰ f (announced ports rest k) → AsHandedIn (rest_after ports (words ports) rest k).own k f
    unfolding rest_after
    announced_so (FrameIn port id bytes) f m = (frame_ours port (consumes rest.own id) (frame_of id bytes)).frame (FrameIn port id bytes) f m
    announced_so (TakeOut port) f m = none_sent (TakeOut port) f m
    announced_so (Message port requester payload lentReply) f m = none_sent (Message port requester payload lentReply) f m
    announced_so Start f m = start_ours.frame Start f m
    announced_so Quiet f m = none_sent Quiet f m
    announced_so ReadUnit f m = none_sent ReadUnit f m
    announced_so (ReadCounts port) f m = none_sent (ReadCounts port) f m

    sent_so : (k : Call) (q : ℕ) (f : Frame) → ((i : ℕ) → get_or (bytes_in k) i 0 < 256) → Memᴰ f (sends ports rest k q) → AsHandedIn (rest_next ports rest k).own k f
    unfolding forwards announces rest_next
    sent_so k q f small m = go (goes ports rest k) m
      where
        one : Memᴰ f (forwarded ports rest k q) ⊎ Memᴰ f (announced ports rest k) → AsHandedIn (rest_after ports (words ports) rest k).own k f
        one (inl i) = forwarded_so (rest_after ports (words ports) rest k).own k q f small i
        one (inr i) = announced_so k f i

        go : (b : Bool) → Memᴰ f (cond b (forwarded ports rest k q) [] ++ cond b (announced ports rest k) []) → AsHandedIn (cond b (rest_after ports (words ports) rest k) rest).own k f
        go true i = one (Memᴰ.append_cases (forwarded ports rest k q) i)
        go false i = none_sent k f i

  -- ---- after a list of calls
  name_next : (m : Model) (k : Call) → (next ports m k).rest.own.name ≡ m.rest.own.name
  unfolding rest_next
  name_next m k = rw (rest_moves ports m k) (go (goes ports m.rest k))
    where
      go : (b : Bool) → (cond b (rest_after ports (words ports) m.rest k) m.rest).own.name ≡ m.rest.own.name
      go true = kept_name m.rest k
      go false = refl

  name_after : (m : Model) (js : List Call) → (after_calls (next ports) m js).rest.own.name ≡ m.rest.own.name
  name_after m [] = refl
  name_after m (k ∷ js) = name_after (next ports m k) js ∙ name_next m k

  module _ (name preferred : ℕ) where
    pub named_so : (js : List Call) → (model_after ports name preferred js).rest.own.name ≡ name
    named_so js = name_after (fresh ports name preferred) js

    pub unchanged : (js : List Call) (k : Call) (q : ℕ) (f : Frame) → ((i : ℕ) → get_or (bytes_in k) i 0 < 256)
        → Memᴰ f (sends ports (model_after ports name preferred js).rest k q) → AsHandedIn (model_after ports name preferred (js ++ (k ∷ []))).rest.own k f
    unchanged js k q f small m =
        rw (after_append (next ports) (fresh ports name preferred) js (k ∷ []), (rest_moves ports) (model_after ports name preferred js) k)
        (sent_so (model_after ports name preferred js).rest k q f small m)
