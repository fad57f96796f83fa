-- Demand 3 from a port to a unit: the row of a port after a list of calls is the row after what happened there, and every take there is a call. Assumes nothing.
use mathlib.Core.Path.{◌≡◌, refl, sym, ◌∙◌, ap}
use mathlib.Core.Bool.{Bool, true, false, cond}
use mathlib.Core.List.{List, [], ◌∷◌, ◌++◌, append_assoc, append-nil, map}
use Rattle.std.specs.Prelude.{Option, None, Some}
use Prim.Native.Nat.{ℕ}
use native.Mathlib.Omega.{arith}
use lib.Dec.{eqb}
use borrow.Author.Tests.{eqb-true}
use Rattle.delivery.specs.Row.{room, join, pull, given, kept}
use Rattle.delivery.specs.Port.{Event, Join, Take, row_after, Due, NotYet, waiting, gives, ticket_of, frame_of, Fate, left, stays}
use Rattle.delivery.specs.Calls.{after_calls}
use Rattle.delivery.specs.Unit.{join_all, accepted, row_next, happens, row_step, row_at, events, history, TakeCall, Story, left_at, stays_on, Demand3}
use Rattle.delivery.proofs.Port.{port_law}

module _ {F : Type 0} (priority : F → ℕ) (size : ℕ) where
  after_append : (row : List F) (h j : List (Event F)) → row_after priority row (h ++ j) ≡ row_after priority (row_after priority row h) j
  after_append row [] j = refl
  after_append row (Join f ∷ h) j = after_append (row ++ (f ∷ [])) h j
  after_append row (Take ∷ h) j = after_append (kept (pull priority row)) h j

  -- The accepted frames join one by one.
  joins_all : (row sent : List F) → row_after priority row (map Join (accepted size row sent)) ≡ join_all size row sent
  joins_all row [] = refl
  joins_all row (f ∷ sent) = go (λ r. joins_all r sent) (room size row) refl
    where
      go : ((r : List F) → row_after priority r (map Join (accepted size r sent)) ≡ join_all size r sent) → (b : Bool) → room size row ≡ b
          → row_after priority row (map Join (cond (room size row) (f ∷ []) [] ++ accepted size (join size row f) sent)) ≡ join_all size (join size row f) sent
      go ih true e = rw e (ih (row ++ (f ∷ [])))
      go ih false e = rw e (ih row)

  one_take : (b : Bool) (row : List F) → row_after priority row (cond b (Take ∷ []) []) ≡ cond b (kept (pull priority row)) row
  one_take true row = refl
  one_take false row = refl

  one_call : (o : Option ℕ) (q : ℕ) (row sent : List F) → row_after priority row (happens size o q row sent) ≡ row_next priority size o q row sent
  one_call None q row sent = joins_all row sent
  one_call (Some p) q row sent = one_take (eqb p q) row

module _ {F S C : Type 0} (priority : F → ℕ) (size : ℕ) (next : S → C → S) (asks : S → C → Option ℕ) (sends : S → C → ℕ → List F) where
  -- The unit's definitions, with its functions filled in.
  abbrev step : ℕ → S → List F → C → List F
  step = row_step priority size next asks sends

  abbrev row : ℕ → S → List F → List C → List F
  row = row_at priority size next asks sends

  abbrev here : ℕ → S → List F → C → List (Event F)
  here = events priority size next asks sends

  abbrev past : ℕ → S → List F → List C → List (Event F)
  past = history priority size next asks sends

  abbrev Taking : ℕ → S → List F → List C → List (Event F) → Type 0
  Taking = TakeCall priority size next asks sends

  abbrev Told : ℕ → S → List C → List (Event F) → F → List (Event F) → Type 0
  Told = Story priority size next asks sends

  -- The row of a port is the row after what happened there.
  row_is : (q : ℕ) (s : S) (r : List F) (ks : List C) → row q s r ks ≡ row_after priority r (past q s r ks)
  row_is q s r [] = refl
  row_is q s r (k ∷ ks) =
      row_is q (next s k) (step q s r k) ks ∙ sym (after_append priority size r (here q s r k) (past q (next s k) (step q s r k) ks)
      ∙ rw (one_call priority size (asks s k) q r (sends s k q)))

  -- The row of a model that keeps the rows beside the rest, if one call moves both as the unit's functions say. `Fine` is what the model keeps besides.
  pub model_row : {M : Type 0} (move : M → C → M) (Fine : M → Type 0) (rest : M → S) (row_in : M → List F) (q : ℕ)
      → ((m : M) (k : C) → Fine m → Fine (move m k)) → ((m : M) (k : C) → Fine m → rest (move m k) ≡ next (rest m) k)
      → ((m : M) (k : C) → Fine m → row_in (move m k) ≡ step q (rest m) (row_in m) k)
      → (m : M) (ks : List C) → Fine m → row_in (after_calls move m ks) ≡ row q (rest m) (row_in m) ks
  model_row move Fine rest row_in q keeps moves rows m [] g = refl
  model_row move Fine rest row_in q keeps moves rows m (k ∷ ks) g =
      model_row move Fine rest row_in q keeps moves rows (move m k) ks (keeps m k g) ∙ rw (moves m k g, rows m k g)

  past_append : (q : ℕ) (s : S) (r : List F) (ks js : List C) → past q s r (ks ++ js) ≡ past q s r ks ++ past q (after_calls next s ks) (row q s r ks) js
  past_append q s r [] js = refl
  past_append q s r (k ∷ ks) js =
      rw (past_append q (next s k) (step q s r k) ks js)
      (sym (append_assoc (here q s r k) (past q (next s k) (step q s r k) ks) (past q (after_calls next (next s k) ks) (row q (next s k) (step q s r k) ks) js)))

  -- ---- every take is a call
  -- (Lemmas, and no `let`: `rw` sees through a `let`, and would rewrite inside the equations by which it was made.)
  strip_cons : (f : F) (fs : List F) (x : Event F) (g p h : List (Event F)) → x ≡ Join f
      → (p' : List (Event F)) × (p ≡ map Join fs ++ p') × (g ≡ p' ++ Take ∷ h)
      → (p' : List (Event F)) × (x ∷ p ≡ Join f ∷ (map Join fs ++ p')) × (g ≡ p' ++ Take ∷ h)
  strip_cons f fs x g p h w u = (u.0, rw (w, u.1), u.2)

  -- A take after joins is a take of the rest.
  strip : (fs : List F) (g p h : List (Event F)) → map Join fs ++ g ≡ p ++ Take ∷ h
      → (p' : List (Event F)) × (p ≡ map Join fs ++ p') × (g ≡ p' ++ Take ∷ h)
  strip [] g p h e = (p, refl, e)
  strip (f ∷ fs) g [] h e = let z : ◌≡◌ {A = ℕ} 0 1 = cc in absurd (omega arith)
  strip (f ∷ fs) g (x ∷ p) h e =
      let v : map Join fs ++ g ≡ p ++ Take ∷ h = cc in
      let w : x ≡ Join f = cc in
      strip_cons f fs x g p h w (strip fs g p h v)

  later : (q : ℕ) (s : S) (r : List F) (k : C) (ks : List C) (p p' : List (Event F)) → p ≡ here q s r k ++ p'
      → Taking q (next s k) (step q s r k) ks p' → Taking q s r (k ∷ ks) p
  later q s r k ks p p' e t = (k ∷ t.0, t.1, t.2, rw t.3, t.4, rw (t.5, e))

  -- The call that asks is the take, or the take is a later call.
  cut_take : (q : ℕ) (s : S) (r : List F) (k : C) (ks : List C) (p h : List (Event F)) (m : ℕ) (b : Bool) → asks s k ≡ Some m → eqb m q ≡ b
      → cond b (Take ∷ []) [] ++ past q (next s k) (step q s r k) ks ≡ p ++ Take ∷ h
      → ((p' : List (Event F)) → past q (next s k) (step q s r k) ks ≡ p' ++ Take ∷ h → Taking q (next s k) (step q s r k) ks p')
      → Taking q s r (k ∷ ks) p
  cut_take q s r k ks [] h m true a c e ih = ([], k, ks, refl, a ∙ ap Some (eqb-true m q c), refl)
  cut_take q s r k ks (x ∷ p) h m true a c e ih =
      let v : past q (next s k) (step q s r k) ks ≡ p ++ Take ∷ h = cc in
      let w : x ≡ Take = cc in
      later q s r k ks (x ∷ p) p (rw (a, c, w)) (ih p v)
  cut_take q s r k ks p h m false a c e ih = later q s r k ks p p (rw (a, c)) (ih p e)

  cut_at : (q : ℕ) (s : S) (r : List F) (k : C) (ks : List C) (p h : List (Event F)) (o : Option ℕ) → asks s k ≡ o
      → happens size o q r (sends s k q) ++ past q (next s k) (step q s r k) ks ≡ p ++ Take ∷ h
      → ((p' : List (Event F)) → past q (next s k) (step q s r k) ks ≡ p' ++ Take ∷ h → Taking q (next s k) (step q s r k) ks p')
      → Taking q s r (k ∷ ks) p
  cut_at q s r k ks p h None a e ih = go (strip (accepted size r (sends s k q)) (past q (next s k) (step q s r k) ks) p h e)
    where
      go : (p' : List (Event F)) × (p ≡ map Join (accepted size r (sends s k q)) ++ p') × (past q (next s k) (step q s r k) ks ≡ p' ++ Take ∷ h)
          → Taking q s r (k ∷ ks) p
      go u = later q s r k ks p u.0 (rw a u.1) (ih u.0 u.2)
  cut_at q s r k ks p h (Some m) a e ih = cut_take q s r k ks p h m (eqb m q) a refl e ih

  cut : (q : ℕ) (s : S) (r : List F) (ks : List C) (p h : List (Event F)) → past q s r ks ≡ p ++ Take ∷ h → Taking q s r ks p
  cut q s r [] [] h e = let z : ◌≡◌ {A = ℕ} 0 1 = cc in absurd (omega arith)
  cut q s r [] (x ∷ p) h e = let z : ◌≡◌ {A = ℕ} 0 1 = cc in absurd (omega arith)
  cut q s r (k ∷ ks) p h e = cut_at q s r k ks p h (asks s k) refl e (λ p' e'. cut q (next s k) (step q s r k) ks p' h e')

  -- ---- the fields of demand 3
  holds : (q : ℕ) (s : S) (ks : List C) → row q s [] ks ≡ map (λ t. t.frame) (waiting priority (past q s [] ks))
  holds q s ks = row_is q s [] ks ∙ sym ((port_law priority).frames (past q s [] ks))

  answers : (q : ℕ) (s : S) (ks : List C) → given (pull priority (row q s [] ks)) ≡ frame_of priority (gives priority (past q s [] ks))
  answers q s ks = rw (row_is q s [] ks) ((port_law priority).answer (past q s [] ks))

  left_by : (q : ℕ) (s : S) (ks : List C) (before : List (Event F)) (f : F) (after p r : List (Event F)) → after ≡ p ++ Take ∷ r
      → Due priority before f p → NotYet priority before f p → gives priority (before ++ Join f ∷ p) ≡ Some (ticket_of priority before f)
      → Taking q s [] ks (before ++ Join f ∷ p) → Told q s ks before f after
  left_by q s ks before f after p r h d n g t = left_at t.0 t.1 t.2 t.3 t.4 p r h t.5 d n (rw (answers q s t.0, t.5, g))

  stories : (q : ℕ) (s : S) (ks : List C) (before : List (Event F)) (f : F) (after : List (Event F)) → past q s [] ks ≡ before ++ Join f ∷ after
      → Told q s ks before f after
  stories q s ks before f after e = go ((port_law priority).fate before f after)
    where
      go : Fate priority before f after → Told q s ks before f after
      go (left p r h d n g) =
          let j : past q s [] ks ≡ before ++ Join f ∷ p ++ Take ∷ r = e ∙ rw h (sym (append_assoc before (Join f ∷ p) (Take ∷ r))) in
          left_by q s ks before f after p r h d n g (cut q s [] ks (before ++ Join f ∷ p) r j)
      go (stays n m) = stays_on n (rw e m)

  pub demand3 : (q : ℕ) (s : S) → Demand3 priority size next asks sends q s
  demand3 q s = record {
    grows = λ ks k. past_append q s [] ks (k ∷ []) ∙ rw (append-nil (here q (after_calls next s ks) (row q s [] ks) k));
    holds = holds q s;
    answers = answers q s;
    calls = cut q s [];
    stories = stories q s;
    obeys = port_law priority;
  }
