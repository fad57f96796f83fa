-- The definitions on small histories and on a small unit, by computation. A frame is a number, its priority the last decimal digit. Assumes nothing.
use mathlib.Core.Path.{◌≡◌, refl}
use mathlib.Core.Bool.{Bool, true, false, cond}
use mathlib.Core.List.{List, [], ◌∷◌}
use Rattle.std.specs.Prelude.{Option, None, Some}
use Prim.Native.Nat.{ℕ, ◌%◌}
use Rattle.delivery.specs.Row.{pull, given}
use Rattle.delivery.specs.Port.{Join, Take, ticket, gives, Due}
use Rattle.delivery.specs.Unit.{history, row_at, Demand3}
use Rattle.delivery.proofs.Unit.{demand3}

abbrev digit : ℕ → ℕ
digit f = f % 10

-- ---- one port. P11: priorities 6, 6, 3 accepted; three takes give 3, the first 6, the second 6.
p11_1 : gives digit (Join 16 ∷ Join 26 ∷ Join 3 ∷ []) ≡ Some (ticket 2 3)
p11_1 = refl

p11_2 : gives digit (Join 16 ∷ Join 26 ∷ Join 3 ∷ Take ∷ []) ≡ Some (ticket 0 16)
p11_2 = refl

p11_3 : gives digit (Join 16 ∷ Join 26 ∷ Join 3 ∷ Take ∷ Take ∷ []) ≡ Some (ticket 1 26)
p11_3 = refl

p11_4 : gives digit (Join 16 ∷ Join 26 ∷ Join 3 ∷ Take ∷ Take ∷ Take ∷ []) ≡ None
p11_4 = refl

-- The second 6 has A = 1, the first 6, and B = 1, the 3: it leaves at take number 3.
second_6 : Due digit (Join 16 ∷ []) 26 (Join 3 ∷ Take ∷ Take ∷ [])
second_6 = refl

-- "The first take" is needed: a frame with A = 0 leaves at take 1; once a frame of higher rank is accepted after that, take 2 has the number 1 + A + B again.
due_1 : Due digit [] 6 []
due_1 = refl

due_2 : Due digit [] 6 (Take ∷ Join 3 ∷ [])
due_2 = refl

-- Two equal frames: each leaves by its own number.
equal_1 : gives digit (Join 6 ∷ Join 6 ∷ []) ≡ Some (ticket 0 6)
equal_1 = refl

equal_2 : gives digit (Join 6 ∷ Join 6 ∷ Take ∷ []) ≡ Some (ticket 1 6)
equal_2 = refl

-- ---- a unit with room for four at a port. Start sends its own frame, 6, to every port, and does not take. Once it is started, a relayed frame is
-- followed by another 6: two joins at one port in one call.
data Call : Type 0 where
  Start : Call
  Relay : ℕ → Call
  TakeOn : ℕ → Call

next : Bool → Call → Bool
next started Start = true
next started (Relay f) = started
next started (TakeOn q) = started

asks : Bool → Call → Option ℕ
asks started Start = None
asks started (Relay f) = None
asks started (TakeOn q) = Some q

sends : Bool → Call → ℕ → List ℕ
sends started Start q = 6 ∷ []
sends started (Relay f) q = cond started (f ∷ 6 ∷ []) (f ∷ [])
sends started (TakeOn q) p = []

-- The second relay finds room for one frame: 11 is accepted, the 6 after it is lost.
calls : List Call
calls = Start ∷ Relay 13 ∷ Relay 11 ∷ TakeOn 2 ∷ []

happened : history digit 4 next asks sends 2 false [] calls ≡ Join 6 ∷ Join 13 ∷ Join 6 ∷ Join 11 ∷ Take ∷ []
unfolding next asks sends calls
happened = refl

-- A take on port 2 is none on port 1.
elsewhere : history digit 4 next asks sends 1 false [] calls ≡ Join 6 ∷ Join 13 ∷ Join 6 ∷ Join 11 ∷ []
unfolding next asks sends calls
elsewhere = refl

left_there : row_at digit 4 next asks sends 2 false [] calls ≡ 6 ∷ 13 ∷ 6 ∷ []
unfolding next asks sends calls
left_there = refl

-- The take gives 11; the next will give 13, and then the 6 of Start before the 6 of the relay.
gave : given (pull digit (row_at digit 4 next asks sends 2 false [] (Start ∷ Relay 13 ∷ Relay 11 ∷ []))) ≡ Some 11
unfolding next asks sends
gave = refl

obeyed : Demand3 digit 4 next asks sends 2 false
obeyed = demand3 digit 4 next asks sends 2 false
