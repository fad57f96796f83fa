-- One port's row of waiting frames, in order of joining: what a join and what a take does to it.
-- `priority` is a frame's priority number: the lower the number, the higher the rank.
use Rattle.std.specs.Prelude.{◌≡◌, Bool, cond, List, [], ◌∷◌, ◌++◌, ℕ, ◌≤◌, ◌<◌, length, leb, ltb, Option, None, Some}

-- ---- join (forwarding rule 3)
-- Whether the row has room: fewer than `size` wait.
abbrev pub room : {F : Type 0} → ℕ → List F → Bool
room size row = ltb (length row) size

-- The row after a frame was sent to it: it joins the row's end, or it is lost where there is no room.
abbrev pub join : {F : Type 0} → ℕ → List F → F → List F
join size row f = cond (room size row) (row ++ (f ∷ [])) row

-- ---- take (forwarding rule 4)
-- A frame that leaves a row, and the others in their order.
pub record Pulled (F : Type 0) : Type 0 where
  pub frame : F
  pub others : List F

module _ {F : Type 0} (priority : F → ℕ) where
  -- A frame, the row behind it, and what a take does to that row: the earlier of two leaves, unless the later has the higher rank.
  abbrev pub pull_before : F → List F → Option (Pulled F) → Option (Pulled F)
  pull_before f row None = Some (record { frame = f; others = row })
  pull_before f row (Some p) =
      Some (cond (leb (priority f) (priority p.frame)) (record { frame = f; others = row }) (record { frame = p.frame; others = f ∷ p.others }))

  -- "A take removes, of the frames with the lowest priority number in the row, the first; an empty row stays empty."
  abbrev pub pull : List F → Option (Pulled F)
  pull [] = None
  pull (f ∷ row) = pull_before f row (pull row)

-- What a take gives: a frame, or nothing.
abbrev pub given : {F : Type 0} → Option (Pulled F) → Option F
given None = None
given (Some p) = Some p.frame

-- The row that a take leaves.
abbrev pub kept : {F : Type 0} → Option (Pulled F) → List F
kept None = []
kept (Some p) = p.others

-- ---- the rule of the take without a recursion
abbrev pub All : {F : Type 0} → (F → Type 0) → List F → Type 0
All P [] = Unit {0}
All P (f ∷ fs) = P f × All P fs

-- The row is empty and a take gives nothing; or a frame leaves, and those before it have higher priority numbers, those behind it none lower, and these
-- stay in their order. `pulls` of proofs/Take.antt: so it is at every row.
pub data Pulls {F : Type 0} (priority : F → ℕ) (row : List F) : Type 0 where
  nothing : row ≡ [] → pull priority row ≡ None → Pulls priority row
  first : (before behind : List F) (f : F) → row ≡ before ++ f ∷ behind
      → pull priority row ≡ Some (record { frame = f; others = before ++ behind })
      → All (λ g. priority f < priority g) before → All (λ g. priority f ≤ priority g) behind → Pulls priority row
