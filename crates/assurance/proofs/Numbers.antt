-- Each number of the tables is a refusal's, and of one refusal alone. Assumes nothing.
use mathlib.Core.Path.{◌≡◌, refl, sym, ap, ◌∙◌}
use mathlib.Core.Bool.{Bool, true, false, cond}
use mathlib.Core.List.{List, [], ◌∷◌, ◌++◌}
use Prim.Native.Nat.{ℕ}
use native.Mathlib.Omega.{arith}
use borrow.Author.Tests.{eqb-true, eqb-false}
use lib.Dec.{eqb}
use Rattle.std.specs.Prelude.{Result, Ok, Err, ⊤}
use Rattle.checks.specs.declared.refusal.Refusal.{Refusal}
use Rattle.checks.specs.declared.refusal.Refusal.TheVariants.{NoPort, WrongLength, WideIdentifier, LongFrame, WrongSource, NotClaimed, PayloadLength, NoAddress, UnknownFunction, NoPair, ForeignPair, WrongBody, WrongMode, NotCleared, Cleared, Full, Absent, WrongState, ManySessions, WrongPacket, WrongSize, WrongEntry, UnknownParameter, PortCount, OutsidePlan, TwoPaths, TwicePaired, FullTable, WrongAddress}
use Rattle.checks.specs.Refusals.{number, number_in}
use Rattle.checks.specs.Checks.{Check, check}
use Rattle.checks.proofs.Refusals.{number_positive}
use Rattle.checks.proofs.FirstNumber.{all_numbers}
use Rattle.checks.proofs.Tests.{both}
use Rattle.demand_1.specs.Demand1.{Given, Exact}

-- ---- the refusal that a number is of
abbrev every : List Refusal
every =
    NoPort ∷ WrongLength ∷ WideIdentifier ∷ LongFrame ∷ WrongSource ∷ NotClaimed ∷ PayloadLength ∷ NoAddress ∷ UnknownFunction ∷ NoPair ∷ ForeignPair ∷ WrongBody ∷ WrongMode ∷ NotCleared ∷ Cleared ∷ Full ∷ Absent ∷ WrongState ∷ ManySessions ∷ WrongPacket ∷ WrongSize ∷ WrongEntry ∷ UnknownParameter ∷ PortCount ∷ OutsidePlan ∷ TwoPaths ∷ TwicePaired ∷ FullTable ∷ WrongAddress ∷ []

abbrev look_up : List Refusal → ℕ → Refusal
look_up [] n = NoPort
look_up (r ∷ rs) n = cond (eqb (number r) n) r (look_up rs n)

-- of a number that no refusal has, any
unfoldable pub refusal_of : ℕ → Refusal
refusal_of n = look_up every n

found_again : (a : Refusal) → refusal_of (number a) ≡ a
unfolding refusal_of
found_again NoPort = refl
found_again WrongLength = refl
found_again WideIdentifier = refl
found_again LongFrame = refl
found_again WrongSource = refl
found_again NotClaimed = refl
found_again PayloadLength = refl
found_again NoAddress = refl
found_again UnknownFunction = refl
found_again NoPair = refl
found_again ForeignPair = refl
found_again WrongBody = refl
found_again WrongMode = refl
found_again NotCleared = refl
found_again Cleared = refl
found_again Full = refl
found_again Absent = refl
found_again WrongState = refl
found_again ManySessions = refl
found_again WrongPacket = refl
found_again WrongSize = refl
found_again WrongEntry = refl
found_again UnknownParameter = refl
found_again PortCount = refl
found_again OutsidePlan = refl
found_again TwoPaths = refl
found_again TwicePaired = refl
found_again FullTable = refl
found_again WrongAddress = refl

pub number_fixed : (a b : Refusal) → number a ≡ number b → a ≡ b
number_fixed a b e = sym (found_again a) ∙ ap refusal_of e ∙ found_again b

pub number_not_0 : (a : Refusal) → number a ≡ 0 → ⊥
number_not_0 a e = let p = number_positive a in omega (arith, p, e)

-- ---- the numbers of a table
unfoldable pub is_number : ℕ → Bool
is_number n = eqb (number (refusal_of n)) n

-- a number that is a result's
pub record Numbered (n : ℕ) : Type 0 where
  pub result : Result ⊤ Refusal
  pub is : n ≡ number_in result

-- what a test holds of each number of a table, it holds of one that stands there
standing : (test : ℕ → Bool) (c : Check) (before behind : List Check) → all_numbers test (before ++ c ∷ behind) ≡ true → test c.number ≡ true
standing test c [] behind h = (both (test c.number) (all_numbers test behind) h).0
standing test c (b ∷ before) behind h = standing test c before behind (both (test b.number) (all_numbers test (before ++ c ∷ behind)) h).1

pub numbered : (table : List Check) (n : ℕ) → all_numbers is_number table ≡ true → Exact table n → Numbered n
unfolding is_number
numbered table n h E = go (eqb n 0) refl
  where
    go : (t : Bool) → eqb n 0 ≡ t → Numbered n
    go true e = record { result = Ok tt; is = eqb-true n 0 e }
    go false e =
        let g : Given table n = (E.given n (eqb-false n 0 e)).0 refl in
        record {
          result = Err (refusal_of n);
          is = sym (eqb-true (number (refusal_of n)) n (standing is_number (check true n) g.before g.behind (rw g.place at h)));
        }
