-- Every frame that joined was sent by a call: a list of calls is cut at that call. Assumes nothing.
use mathlib.Core.Path.{◌≡◌, refl, sym, ap, ◌∙◌}
use mathlib.Core.Bool.{Bool, true, false, cond}
use mathlib.Core.Logic.{◌⊎◌, inl, inr}
use mathlib.Core.List.Memᴰ
use mathlib.Core.List.{List, [], ◌∷◌, ◌++◌, map, append_assoc, Memᴰ}
use Rattle.std.specs.Prelude.{Option, None, Some}
use Prim.Native.Nat.{ℕ}
use native.Mathlib.Omega.{arith}
use lib.Dec.{eqb}
use Rattle.delivery.specs.Row.{room, join}
use Rattle.delivery.specs.Port.{Event, Join, Take}
use Rattle.delivery.specs.Calls.{after_calls}
use Rattle.delivery.specs.Unit.{accepted, happens, row_step, events, history}

-- ---- a list cut at an element
-- It stands in the first list, or in the second.
data Cut {A : Type 0} (u v p : List A) (x : A) (r : List A) : Type 0 where
  in_first : (c : List A) → u ≡ p ++ x ∷ c → Cut u v p x r
  in_second : (p' : List A) → p ≡ u ++ p' → v ≡ p' ++ x ∷ r → Cut u v p x r

cut_cons : {A : Type 0} (a b : A) (u v p : List A) (x : A) (r : List A) → a ≡ b → Cut u v p x r → Cut (a ∷ u) v (b ∷ p) x r
cut_cons a b u v p x r e (in_first c w) = in_first c (rw (e, w))
cut_cons a b u v p x r e (in_second p' w z) = in_second p' (rw (e, w)) z

cut : {A : Type 0} (u v p : List A) (x : A) (r : List A) → u ++ v ≡ p ++ x ∷ r → Cut u v p x r
cut [] v p x r e = in_second p refl e
cut (a ∷ u) v [] x r e = let w : a ≡ x = cc in in_first u (rw w)
cut (a ∷ u) v (b ∷ p) x r e =
    let w : a ≡ b = cc in
    let t : u ++ v ≡ p ++ x ∷ r = cc in
    cut_cons a b u v p x r w (cut u v p x r t)

module _ {F : Type 0} where
  -- Among joins a frame is one of those that joined.
  joined_cons : (g : F) (fs : List F) (f : F) (b : Event F) (p : List (Event F)) → Join g ≡ b
      → (earlier : List F) × (p ≡ map Join earlier) × Memᴰ f fs → (earlier : List F) × (b ∷ p ≡ map Join earlier) × Memᴰ f (g ∷ fs)
  joined_cons g fs f b p e u = (g ∷ u.0, rw (← e, u.1), Memᴰ.tail u.2)

  among_joins : (fs : List F) (p : List (Event F)) (f : F) (c : List (Event F)) → map Join fs ≡ p ++ Join f ∷ c
      → (earlier : List F) × (p ≡ map Join earlier) × Memᴰ f fs
  among_joins [] [] f c e = let z : ◌≡◌ {A = ℕ} 0 1 = cc in absurd (omega arith)
  among_joins [] (b ∷ p) f c e = let z : ◌≡◌ {A = ℕ} 0 1 = cc in absurd (omega arith)
  among_joins (g ∷ fs) [] f c e = let w : f ≡ g = cc in ([], refl, Memᴰ.head w)
  among_joins (g ∷ fs) (b ∷ p) f c e =
      let w : Join g ≡ b = cc in
      let t : map Join fs ≡ p ++ Join f ∷ c = cc in
      joined_cons g fs f b p w (among_joins fs p f c t)

  -- What was accepted was sent.
  was_sent : (n : ℕ) (row sent : List F) (f : F) → Memᴰ f (accepted n row sent) → Memᴰ f sent
  was_sent n row [] f m = absurd (Memᴰ.not-nil m)
  was_sent n row (g ∷ sent) f m =
      first (λ i. was_sent n (join n row g) sent f i) (room n row) (Memᴰ.append_cases (cond (room n row) (g ∷ []) []) m)
    where
      first : (Memᴰ f (accepted n (join n row g) sent) → Memᴰ f sent) → (b : Bool)
          → Memᴰ f (cond b (g ∷ []) []) ⊎ Memᴰ f (accepted n (join n row g) sent) → Memᴰ f (g ∷ sent)
      first later true (inl i) = Memᴰ.head (Memᴰ.eq_of_singleton i)
      first later false (inl i) = absurd (Memᴰ.not-nil i)
      first later b (inr i) = Memᴰ.tail (later i)

  no_join : (b : Bool) (p : List (Event F)) (f : F) (c : List (Event F)) → cond b (Take ∷ []) [] ≡ p ++ Join f ∷ c → ⊥
  no_join true [] f c e = let z : ◌≡◌ {A = ℕ} 0 1 = cc in omega arith
  no_join true (x ∷ []) f c e = let z : ◌≡◌ {A = ℕ} 0 1 = cc in omega arith
  no_join true (x ∷ y ∷ p) f c e = let z : ◌≡◌ {A = ℕ} 0 1 = cc in omega arith
  no_join false [] f c e = let z : ◌≡◌ {A = ℕ} 0 1 = cc in omega arith
  no_join false (x ∷ p) f c e = let z : ◌≡◌ {A = ℕ} 0 1 = cc in omega arith

  -- one call
  in_call : (n : ℕ) (o : Option ℕ) (q : ℕ) (row sent : List F) (p : List (Event F)) (f : F) (c : List (Event F)) → happens n o q row sent ≡ p ++ Join f ∷ c
      → (earlier : List F) × (p ≡ map Join earlier) × Memᴰ f sent
  in_call n None q row sent p f c e = go (among_joins (accepted n row sent) p f c e)
    where
      go : (earlier : List F) × (p ≡ map Join earlier) × Memᴰ f (accepted n row sent) → (earlier : List F) × (p ≡ map Join earlier) × Memᴰ f sent
      go u = (u.0, u.1, was_sent n row sent f u.2)
  in_call n (Some a) q row sent p f c e = absurd (no_join (eqb a q) p f c e)

-- ---- a list of calls
module _ {F S C : Type 0} (priority : F → ℕ) (size : ℕ) (next : S → C → S) (asks : S → C → Option ℕ) (sends : S → C → ℕ → List F) (q : ℕ) where
  abbrev past : S → List F → List C → List (Event F)
  past = history priority size next asks sends q

  abbrev here : S → List F → C → List (Event F)
  here = events priority size next asks sends q

  abbrev step : S → List F → C → List F
  step = row_step priority size next asks sends q

  pub record Found (s : S) (row : List F) (ks : List C) (before : List (Event F)) (f : F) : Type 0 where
    pub js : List C
    pub k : C
    pub later : List C
    pub earlier : List F
    pub calls : ks ≡ js ++ k ∷ later
    pub sent : Memᴰ f (sends (after_calls next s js) k q)
    pub until : before ≡ past s row js ++ map Join earlier

  found_now : (s : S) (row : List F) (k : C) (ks : List C) (before : List (Event F)) (f : F)
      → (earlier : List F) × (before ≡ map Join earlier) × Memᴰ f (sends s k q) → Found s row (k ∷ ks) before f
  found_now s row k ks before f u = record { js = []; k = k; later = ks; earlier = u.0; calls = refl; sent = u.2; until = u.1 }

  found_later : (s : S) (row : List F) (k : C) (ks : List C) (before p : List (Event F)) (f : F) → before ≡ here s row k ++ p
      → Found (next s k) (step s row k) ks p f → Found s row (k ∷ ks) before f
  found_later s row k ks before p f e u = record {
    js = k ∷ u.js;
    k = u.k;
    later = u.later;
    earlier = u.earlier;
    calls = ap (λ l. k ∷ l) u.calls;
    sent = u.sent;
    until = e ∙ rw u.until (sym (append_assoc (here s row k) (past (next s k) (step s row k) u.js) (map Join u.earlier)));
  }

  found_if : (s : S) (row : List F) (k : C) (ks : List C) (before : List (Event F)) (f : F) (after : List (Event F))
      → ((p : List (Event F)) → past (next s k) (step s row k) ks ≡ p ++ Join f ∷ after → Found (next s k) (step s row k) ks p f)
      → Cut (here s row k) (past (next s k) (step s row k) ks) before (Join f) after → Found s row (k ∷ ks) before f
  found_if s row k ks before f after ih (in_first c w) = found_now s row k ks before f (in_call size (asks s k) q row (sends s k q) before f c w)
  found_if s row k ks before f after ih (in_second p w z) = found_later s row k ks before p f w (ih p z)

  pub found : (s : S) (row : List F) (ks : List C) (before : List (Event F)) (f : F) (after : List (Event F))
      → past s row ks ≡ before ++ Join f ∷ after → Found s row ks before f
  found s row [] [] f after e = let z : ◌≡◌ {A = ℕ} 0 1 = cc in absurd (omega arith)
  found s row [] (x ∷ before) f after e = let z : ◌≡◌ {A = ℕ} 0 1 = cc in absurd (omega arith)
  found s row (k ∷ ks) before f after e =
      found_if s row k ks before f after (λ p z. found (next s k) (step s row k) ks p f after z)
      (cut (here s row k) (past (next s k) (step s row k) ks) before (Join f) after e)
