-- The bytes that a take writes: the frame that leaves was accepted, what is accepted was sent, and what is sent was handed in or is the unit's own. Assumes nothing.
use Rattle.bridge.specs.Told.{Took}
use Rattle.std.specs.Prelude.{Some, None}
use mathlib.Core.Path.{◌≡◌, refl, sym, ap, ◌∙◌}
use mathlib.Core.Logic.{⊎_elim}
use mathlib.Core.Bool.{Bool, true, false, cond}
use mathlib.Core.List.Memᴰ
use mathlib.Core.List.{List, [], ◌∷◌, ◌++◌, Memᴰ}
use Prim.Native.Nat.{ℕ, zero, suc, ◌-◌, ◌%◌, ◌/◌, ◌≤◌, ◌<◌}
use native.Mathlib.Nat.{not-suc-le-zero, le_of_suc-le-suc}
use native.Mathlib.Omega.{arith}
use borrow.Author.Tests.{eqb-true}
use lib.ListN.{length, get_or, take, replicate}
use Rattle.storage.specs.Bytes.{bytes_of}
use Rattle.delivery.specs.Calls.{answers_of}
use Rattle.delivery.specs.Port.{Event}
use Rattle.delivery.specs.Product.{Answered, Obeys, Came, Gave, frame_that_leaves, nothing_waiting}
use Rattle.delivery.proofs.Product.{obeys}
use Rattle.queue.specs.declared.Frame.{Frame}
use Rattle.checks.specs.Ports.{no_port}
use Rattle.flat_answers.specs.Answers.{bytes_of_frame}
use Rattle.bridge.specs.Calls.{Call, FrameIn, TakeOut, Message, Start, Quiet, ReadUnit, ReadCounts, refusal}
use Rattle.unit.specs.Model.{Rest}
use Rattle.unit.specs.PowerOn.{fresh}
use Rattle.refusals.specs.Refusals.{frame_refusal, take_refusal}
use Rattle.refusals.proofs.Checks.{take_goes, frame_goes}
use Rattle.demand_3.specs.Demand3.{Answer, ToTake, words, next, answer, goes, forwards, announces, sends, bridge, bytes_in, model_after, Demand3}
use Rattle.demand_3.specs.Demand3 as demand_3
use Rattle.demand_3.proofs.AtPort.{Fine, lawful, powered_on}
use Rattle.demand_3.proofs.Unchanged.{unchanged, named_so}
use Rattle.flat_answers.proofs.Words.{whole_frame}
use Rattle.c_demands.specs.CDemands.{Exported, CFrame, CTake, CMessage, CStart, CQuiet, CUnit, CCounts, CTakeQueue, gave, call_of, Tells, of_take, of_refused_take, of_queue, refused_lent, Same, Takes, by_port, by_queue, Bytes, AsHandedIn}
use Rattle.c_demands.specs.CDemands.{Gave as Given-back}
use Rattle.c_demands.specs.CDemands as claim

-- ---- the bytes of a frame, read off its word
first_bytes : (n m w : ℕ) → n ≤ m → take n (bytes_of m w) ≡ bytes_of n w
unfolding bytes_of
first_bytes zero m w h = refl
first_bytes (suc n) zero w h = absurd (not-suc-le-zero h)
first_bytes (suc n) (suc m) w h = ap (λ (l : List ℕ). w % 256 ∷ l) (first_bytes n m (w / 256) (le_of_suc-le-suc h))

written_as : (f : Frame) (bytes : List ℕ) → f.len ≡ length bytes → length bytes ≤ 8 → bytes_of (length bytes) f.bytes ≡ bytes
    → bytes_of_frame f ≡ bytes ++ replicate (8 - length bytes) 0
unfolding bytes_of_frame
written_as f bytes l h b = rw (l, first_bytes (length bytes) 8 f.bytes h, b)

-- ---- a frame that was sent is not refused, so it has at most eight bytes
sent_goes : (ports : ℕ) (rest : Rest) (k : Call) (q : ℕ) (f : Frame) → Memᴰ f (sends ports rest k q) → goes ports rest k ≡ true
unfolding forwards announces
sent_goes ports rest k q f m = go (goes ports rest k) refl m
  where
    go : (b : Bool) → goes ports rest k ≡ b → Memᴰ f (cond b (demand_3.forwarded ports rest k q) [] ++ cond b (demand_3.announced ports rest k) []) → goes ports rest k ≡ true
    go true e m = e
    go false e m = absurd (Memᴰ.not-nil m)

short : (ports : ℕ) (rest : Rest) (port id : ℕ) (bytes : List ℕ) → goes ports rest (FrameIn port id bytes) ≡ true → length bytes ≤ 8
unfolding refusal
short ports rest port id bytes e = (frame_goes ports (words ports) port id (length bytes) (eqb-true (frame_refusal ports (words ports) port id (length bytes)) 0 e)).3

-- ---- a place in the list of exported calls
heads : {A : Type 0} {x y : A} {xs ys : List A} → x ∷ xs ≡ y ∷ ys → x ≡ y
heads e = cc

tails : {A : Type 0} {x y : A} {xs ys : List A} → x ∷ xs ≡ y ∷ ys → xs ≡ ys
tails e = cc

in_front : {A : Type 0} {a : A} (xs ys : List A) → Memᴰ a xs → Memᴰ a (xs ++ ys)
in_front [] ys m = absurd (Memᴰ.not-nil m)
in_front (x ∷ xs) ys m = ⊎_elim (λ e. Memᴰ.head e) (λ i. Memᴰ.tail (in_front xs ys i)) (Memᴰ.cases_cons m)

from_frame : (c : Exported) (port id : ℕ) (bytes : List ℕ) → FrameIn port id bytes ≡ call_of c → (answer : List ℕ) × (c ≡ CFrame port id bytes answer)
from_frame (CFrame p i b answer) port id bytes e = (answer, cc)
from_frame (CTake p answer b) port id bytes e = let z : ◌≡◌ {A = ℕ} 0 1 = cc in absurd (omega arith)
from_frame (CMessage p requester payload reply answer) port id bytes e = let z : ◌≡◌ {A = ℕ} 0 1 = cc in absurd (omega arith)
from_frame (CStart answer) port id bytes e = let z : ◌≡◌ {A = ℕ} 0 1 = cc in absurd (omega arith)
from_frame CQuiet port id bytes e = let z : ◌≡◌ {A = ℕ} 0 1 = cc in absurd (omega arith)
from_frame (CUnit answer) port id bytes e = let z : ◌≡◌ {A = ℕ} 0 1 = cc in absurd (omega arith)
from_frame (CCounts p answer) port id bytes e = let z : ◌≡◌ {A = ℕ} 0 1 = cc in absurd (omega arith)
from_frame (CTakeQueue p answer b) port id bytes e = let z : ◌≡◌ {A = ℕ} 0 1 = cc in absurd (omega arith)

-- the frames among the bridge's calls are frames among the exported
abbrev Frames : List Call → List Exported → Type 0
Frames js before = (port id : ℕ) (bytes : List ℕ) → Memᴰ (FrameIn port id bytes) js → (answer : List ℕ) × Memᴰ (CFrame port id bytes answer) before

-- the bridge's call at the place of c, with its answer
record At (ks : List Call) (xs : List Answer) (before : List Exported) (c : Exported) (g : Given-back) : Type 0 where
  js : List Call
  x : Answer
  at : Answered ks xs js (call_of c) x
  tells : Tells c x g
  frames : Frames js before

frames_none : (before : List Exported) → Frames [] before
frames_none before port id bytes m = absurd (Memᴰ.not-nil m)

frames_passed : {js : List Call} {before : List Exported} (c : Exported) → Frames js before → Frames js (c ∷ before)
frames_passed c F port id bytes m = let n = F port id bytes m in (n.0, Memᴰ.tail n.1)

frames_more : {js : List Call} {before : List Exported} (c b : Exported) → c ≡ b → Frames js before → Frames (call_of c ∷ js) (b ∷ before)
frames_more c b same F port id bytes m =
    ⊎_elim
    (λ e. let n = from_frame c port id bytes e in (n.0, Memᴰ.head (sym n.1 ∙ same)))
    (λ i. let n = F port id bytes i in (n.0, Memᴰ.tail n.1))
    (Memᴰ.cases_cons m)

at_more : {ks js : List Call} {xs : List Answer} {k : Call} {x : Answer} (k' : Call) (x' : Answer) → Answered ks xs js k x → Answered (k' ∷ ks) (x' ∷ xs) (k' ∷ js) k x
at_more k' x' A = record {
  later = A.later;
  answers_before = x' ∷ A.answers_before;
  answers_later = A.answers_later;
  calls = ap (λ (l : List Call). k' ∷ l) A.calls;
  answers = ap (λ (l : List Answer). x' ∷ l) A.answers;
  place = ap suc A.place;
}

find : {ports : ℕ} {cs : List Exported} {gs : List Given-back} {ks : List Call} {xs : List Answer} → Same ports cs gs ks xs
    → (before later : List Exported) (c : Exported) (gsBefore gsLater : List Given-back) (g : Given-back)
    → cs ≡ before ++ c ∷ later → gs ≡ gsBefore ++ g ∷ gsLater → length gsBefore ≡ length before → (g ≡ refused_lent ports c → ⊥) → At ks xs before c g
find claim.none [] later c gsBefore gsLater g e e' l n = let z : ◌≡◌ {A = ℕ} 0 1 = cc in absurd (omega arith)
find claim.none (b ∷ before) later c gsBefore gsLater g e e' l n = let z : ◌≡◌ {A = ℕ} 0 1 = cc in absurd (omega arith)
find (claim.called {x = x} {ks = ks} {xs = xs} y t s) [] later c [] gsLater g e e' l n =
    let same = heads e in
    let got = heads e' in
    record {
      js = [];
      x = x;
      at = record { later = ks; answers_before = []; answers_later = xs; calls = rw same; answers = refl; place = refl };
      tells = rw (same, got) at t;
      frames = frames_none [];
    }
find (claim.called y t s) [] later c (h ∷ gsBefore) gsLater g e e' l n = absurd (omega arith)
find (claim.called y t s) (b ∷ before) later c [] gsLater g e e' l n = absurd (omega arith)
find (claim.called {c = c'} {x = x} y t s) (b ∷ before) later c (h ∷ gsBefore) gsLater g e e' l n =
    let A = find s before later c gsBefore gsLater g (tails e) (tails e') (omega arith) n in
    record {
      js = call_of c' ∷ A.js;
      x = A.x;
      at = at_more (call_of c') x A.at;
      tells = A.tells;
      frames = frames_more c' b (heads e) A.frames;
    }
find {ports = ports} (claim.passed {c = c'} y t s) [] later c [] gsLater g e e' l n = absurd (n (sym (heads e') ∙ t ∙ ap (refused_lent ports) (heads e)))
find (claim.passed y t s) [] later c (h ∷ gsBefore) gsLater g e e' l n = absurd (omega arith)
find (claim.passed y t s) (b ∷ before) later c [] gsLater g e e' l n = absurd (omega arith)
find (claim.passed y t s) (b ∷ before) later c (h ∷ gsBefore) gsLater g e e' l n =
    let A = find s before later c gsBefore gsLater g (tails e) (tails e') (omega arith) n in
    record { js = A.js; x = A.x; at = A.at; tells = A.tells; frames = frames_passed b A.frames }

-- ---- what a take told
record Told (c : Exported) (x : Answer) (id len : ℕ) (written : List ℕ) : Type 0 where
  port : ℕ
  f : Frame
  call : call_of c ≡ TakeOut port
  is : x ≡ ToTake (Took (Some f))
  same_id : f.id ≡ id
  same_len : f.len ≡ len
  same_bytes : written ≡ bytes_of_frame f

told_of : {id len : ℕ} {written : List ℕ} (f : Frame) → gave 0 (1 ∷ id ∷ len ∷ []) written ≡ gave 0 (1 ∷ f.id ∷ f.len ∷ []) (bytes_of_frame f)
    → (f.id ≡ id) × (f.len ≡ len) × (written ≡ bytes_of_frame f)
told_of f e =
    let t = ap (λ (g : Given-back). g.told) e in
    let w = ap (λ (g : Given-back). g.written) e in
    (cc, cc, w)

not_told : {id len : ℕ} {written bytes : List ℕ} → gave 0 (1 ∷ id ∷ len ∷ []) written ≡ gave 0 (0 ∷ 0 ∷ 0 ∷ []) bytes → ⊥
not_told e = let t = ap (λ (g : Given-back). g.told) e in let z : ◌≡◌ {A = ℕ} 1 0 = cc in omega arith

told_by : {c : Exported} {x : Answer} {id len : ℕ} {written : List ℕ} → Takes c → Tells c x (gave 0 (1 ∷ id ∷ len ∷ []) written) → Told c x id len written
told_by by_port (of_take (Some f) e) = let t = told_of f e in record { port = _; f = f; call = refl; is = refl; same_id = t.0; same_len = t.1; same_bytes = t.2 }
told_by by_port (of_take None e) = absurd (not_told e)
told_by by_port (of_refused_take number n e) = absurd (n (sym (ap (λ (g : Given-back). g.number) e)))
told_by by_queue (of_queue (Some f) e) = let t = told_of f e in record { port = _; f = f; call = refl; is = refl; same_id = t.0; same_len = t.1; same_bytes = t.2 }
told_by by_queue (of_queue None e) = absurd (not_told e)

not_refused : (ports : ℕ) {c : Exported} {told written : List ℕ} → Takes c → gave 0 told written ≡ refused_lent ports c → ⊥
not_refused ports (by_port {port = port}) e = nonzero (no_port ports port) (ap (λ (g : Given-back). g.number) e)
  where
    nonzero : (b : Bool) → ◌≡◌ {A = ℕ} 0 (cond b 1 2) → ⊥
    nonzero true z = omega arith
    nonzero false z = omega arith
not_refused ports by_queue e = let z : ◌≡◌ {A = ℕ} 0 2 = ap (λ (g : Given-back). g.number) e in omega arith

given_same : (f g : Frame) → ToTake (Took (Some f)) ≡ ToTake (Took (Some g)) → f ≡ g
given_same f g e = cc

nothing_given : (f : Frame) → ToTake (Took None) ≡ ToTake (Took (Some f)) → ⊥
nothing_given f e = let z : ◌≡◌ {A = ℕ} 0 1 = cc in omega arith

-- ---- where it came from
small_in : (k : Call) → ((port id : ℕ) (bytes : List ℕ) → k ≡ FrameIn port id bytes → (i : ℕ) → get_or bytes i 0 < 256) → (i : ℕ) → get_or (bytes_in k) i 0 < 256
small_in (FrameIn port id bytes) h i = h port id bytes refl i
small_in (TakeOut port) h i = omega arith
small_in (Message port requester payload lentReply) h i = omega arith
small_in Start h i = omega arith
small_in Quiet h i = omega arith
small_in ReadUnit h i = omega arith
small_in (ReadCounts port) h i = omega arith

mem_mid : {A : Type 0} (xs : List A) (a : A) (ys : List A) → Memᴰ a (xs ++ a ∷ ys)
mem_mid [] a ys = Memᴰ.head refl
mem_mid (x ∷ xs) a ys = Memᴰ.tail (mem_mid xs a ys)

handed_as : {name : ℕ} {before : List Exported} (f : Frame) (port id : ℕ) (bytes answer : List ℕ) → f.id ≡ id → Memᴰ (CFrame port id bytes answer) before → length bytes ≤ 8
    → f.len ≡ length bytes → bytes_of (length bytes) f.bytes ≡ bytes → AsHandedIn name before f.id f.len (bytes_of_frame f)
handed_as f port id bytes answer is m few l b = claim.handed port bytes answer (rw is m) few l (written_as f bytes l few b)

module _ (ports name preferred : ℕ) {before : List Exported} {js : List Call} (F : Frames js before) (bytes-in : Bytes before) where
  came_from : (q : ℕ) → q < ports → (earlier : List (Event Frame)) (f : Frame) → Came (bridge ports) (fresh ports name preferred) q js earlier f
      → AsHandedIn name before f.id f.len (bytes_of_frame f)
  came_from q h earlier f C = go (unchanged ports name preferred C.js C.k q f (small_in C.k small) C.sent)
    where
      here : (port id : ℕ) (bytes : List ℕ) → C.k ≡ FrameIn port id bytes → (answer : List ℕ) × Memᴰ (CFrame port id bytes answer) before
      here port id bytes e = F port id bytes (rw (← e, C.calls) (mem_mid C.js C.k C.later))

      small : (port id : ℕ) (bytes : List ℕ) → C.k ≡ FrameIn port id bytes → (i : ℕ) → get_or bytes i 0 < 256
      small port id bytes e i = let n = here port id bytes e in bytes-in port id bytes n.0 n.1 i

      go : demand_3.AsHandedIn (model_after ports name preferred (C.js ++ (C.k ∷ []))).rest.own C.k f → AsHandedIn name before f.id f.len (bytes_of_frame f)
      go (demand_3.handed port id bytes e is l b) =
          let n = here port id bytes e in
          let few = short ports (model_after ports name preferred C.js).rest port id bytes (rw e at (sent_goes ports (model_after ports name preferred C.js).rest C.k q f C.sent)) in
          handed_as f port id bytes n.0 is n.1 few l b
      go (demand_3.of_unit is l b) =
          claim.of_unit (model_after ports name preferred (C.js ++ (C.k ∷ []))).rest.own.address is l
          (sym (whole_frame f (omega arith)) ∙ rw (b, named_so ports name preferred (C.js ++ (C.k ∷ []))))

-- ---- the whole
module _ {ports name preferred : ℕ} {cs : List Exported} {gs : List Given-back} {ks : List Call} {xs : List Answer} {v : List ℕ} (S : Same ports cs gs ks xs) (D : Demand3 ports name preferred ks xs v) where
  given_frame : {js : List Call} {before : List Exported} {x : Answer} (f : Frame) (q : ℕ) → q < ports → Frames js before → Bytes before
      → Answered ks xs js (TakeOut (suc q)) x → x ≡ ToTake (Took (Some f)) → AsHandedIn name before f.id f.len (bytes_of_frame f)
  given_frame {js} {before} {x} f q h F B A is = go (D.obeys.gives q h js x A)
    where
      book : Obeys (bridge ports) (fresh ports name preferred) js (answers_of (next ports) (answer ports) (fresh ports name preferred) js)
      book = obeys (bridge ports) (Fine ports) (lawful ports) (fresh ports name preferred) (powered_on ports name preferred) js (answers_of (next ports) (answer ports) (fresh ports name preferred) js) refl

      go : Gave (bridge ports) (fresh ports name preferred) q js x → AsHandedIn name before f.id f.len (bytes_of_frame f)
      go (frame_that_leaves earlier since f' L e) =
          let same : f' ≡ f = given_same f' f (sym e ∙ is) in
          came_from ports name preferred F B q h earlier f (rw same at (book.came q h earlier f' since L.accepted))
      go (nothing_waiting w e) = absurd (nothing_given f (sym e ∙ is))

  taken_frame : {js : List Call} {before : List Exported} (port : ℕ) (f : Frame) (k : Call) (x : Answer) → k ≡ TakeOut port → x ≡ ToTake (Took (Some f))
      → Answered ks xs js k x → Frames js before → Bytes before → AsHandedIn name before f.id f.len (bytes_of_frame f)
  unfolding refusal
  taken_frame {js} port f k x call is A F B =
      let done : take_refusal ports (words ports) port ≡ 0 = sym (rw (call, is) at (D.refuses js k x A)) in
      let goes_in = take_goes ports (words ports) port done in
      let from_1 : port ≡ suc (port - 1) = omega (arith, goes_in.1) in
      given_frame f (port - 1) (omega (arith, goes_in.1, goes_in.2)) F B (rw (call ∙ ap TakeOut from_1) at A) is

  pub unchanged_c : (before later : List Exported) (c : Exported) (gsBefore gsLater : List Given-back) (id len : ℕ) (written : List ℕ) → Bytes cs
      → cs ≡ before ++ c ∷ later → gs ≡ gsBefore ++ gave 0 (1 ∷ id ∷ len ∷ []) written ∷ gsLater → length gsBefore ≡ length before → Takes c
      → AsHandedIn name before id len written
  unchanged_c before later c gsBefore gsLater id len written B e e' l T =
      let A = find S before later c gsBefore gsLater (gave 0 (1 ∷ id ∷ len ∷ []) written) e e' l (not_refused ports T) in
      let t = told_by T A.tells in
      as_told t.f t.same_id t.same_len t.same_bytes
      (taken_frame t.port t.f (call_of c) A.x t.call t.is A.at A.frames (λ p i b a m. B p i b a (rw e (in_front before (c ∷ later) m))))
    where
      as_told : (f : Frame) → f.id ≡ id → f.len ≡ len → written ≡ bytes_of_frame f → AsHandedIn name before f.id f.len (bytes_of_frame f) → AsHandedIn name before id len written
      as_told f i l w H = rw (← i, ← l, w) H
