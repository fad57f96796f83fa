-- The premises, tested by computing on a list of calls. Assumes nothing.
use mathlib.Core.Path.{◌≡◌, refl, sym, ap, ◌∙◌}
use mathlib.Core.Logic.{⊎_elim}
use mathlib.Core.Bool.{Bool, true, false, not, true≢false, ◌&&◌, ◌||◌}
use mathlib.Core.List.Memᴰ
use mathlib.Core.List.{List, [], ◌∷◌, Memᴰ}
use Prim.Native.Nat.{ℕ, zero, suc}
use borrow.Author.Tests.{eqb-true, eq-eqb, lt-ltb}
use lib.Dec.{eqb, ltb}
use lib.ListN.{length}
use Rattle.addresses.specs.Table.{places}
use Rattle.unit.specs.Model.{record_length}
use Rattle.refusals.specs.Refusals.{frame_refusal}
use Rattle.bridge.specs.Calls.{Call, FrameIn, TakeOut, Message, Start, Quiet, ReadUnit, ReadCounts}
use Rattle.any_order.specs.Claimants.{Claimant}
use Rattle.any_order.specs.Mornings.{is_claim, claimants, Premise, Unrefused, OneAddress, OnePort, NoneWithdraws, NoneIsTheUnit, Holds}

unfoldable pub every : {A : Type 0} → (A → Bool) → List A → Bool
every test [] = true
every test (x ∷ xs) = test x && every test xs

left : (x y : Bool) → x && y ≡ true → x ≡ true
left true y e = refl
left false y e = e

right : (x y : Bool) → x && y ≡ true → y ≡ true
right true y e = e
right false y e = absurd (true≢false (sym e))

of_every : {A : Type 0} (test : A → Bool) (xs : List A) → every test xs ≡ true → (x : A) → Memᴰ x xs → test x ≡ true
unfolding every
of_every test [] h x m = absurd (Memᴰ.not-nil m)
of_every test (y ∷ ys) h x m =
    ⊎_elim (λ e. rw e (left (test y) (every test ys) h)) (λ t. of_every test ys (right (test y) (every test ys) h) x t) (Memᴰ.cases_cons m)

-- if x then y
unfoldable pub implies : Bool → Bool → Bool
implies x y = not x || y

from_implies : (x y : Bool) → implies x y ≡ true → x ≡ true → y ≡ true
unfolding implies
from_implies true y h e = h
from_implies false y h e = absurd (true≢false (sym e))

-- ---- the tests
unfoldable pub passes : ℕ → Call → Bool
passes ports (FrameIn port id bytes) = implies (is_claim id bytes) (eqb (frame_refusal ports (record_length ports) port id (length bytes)) 0)
passes ports (TakeOut port) = true
passes ports (Message port requester payload lentReply) = true
passes ports Start = true
passes ports Quiet = true
passes ports ReadUnit = true
passes ports (ReadCounts port) = true

unfoldable pub agree_on_address : Claimant → Claimant → Bool
agree_on_address c d = implies (eqb c.name d.name) (implies (ltb c.address places) (implies (ltb d.address places) (eqb c.address d.address)))

unfoldable pub agree_on_port : Claimant → Claimant → Bool
agree_on_port c d = implies (eqb c.name d.name) (eqb c.port d.port)

unfoldable pub every_two : (Claimant → Claimant → Bool) → List Claimant → Bool
every_two test cs = every (λ c. every (test c) cs) cs

unfoldable pub test : ℕ → ℕ → List Call → Premise → Bool
test ports name ks Unrefused = every (passes ports) ks
test ports name ks OneAddress = every_two agree_on_address (claimants ks)
test ports name ks OnePort = every_two agree_on_port (claimants ks)
test ports name ks NoneWithdraws = every (λ c. not (eqb c.address 254)) (claimants ks)
test ports name ks NoneIsTheUnit = every (λ c. not (eqb c.name name)) (claimants ks)

never_equal : (a b : ℕ) → not (eqb a b) ≡ true → a ≡ b → ⊥
never_equal a b h e = true≢false (sym h ∙ rw (eq-eqb a b e))

module _ (ports name : ℕ) (ks : List Call) where
  one_address_lem : every_two agree_on_address (claimants ks) ≡ true → Holds ports name ks OneAddress
  unfolding every_two agree_on_address
  one_address_lem h c d m n e s r =
      let two = of_every (agree_on_address c) (claimants ks) (of_every (λ x. every (agree_on_address x) (claimants ks)) (claimants ks) h c m) d n in
      let near = from_implies (eqb c.name d.name) (implies (ltb c.address places) (implies (ltb d.address places) (eqb c.address d.address))) two (eq-eqb c.name d.name e) in
      let nearer = from_implies (ltb c.address places) (implies (ltb d.address places) (eqb c.address d.address)) near (lt-ltb c.address places s) in
      eqb-true c.address d.address (from_implies (ltb d.address places) (eqb c.address d.address) nearer (lt-ltb d.address places r))

  one_port_lem : every_two agree_on_port (claimants ks) ≡ true → Holds ports name ks OnePort
  unfolding every_two agree_on_port
  one_port_lem h c d m n e =
      let two = of_every (agree_on_port c) (claimants ks) (of_every (λ x. every (agree_on_port x) (claimants ks)) (claimants ks) h c m) d n in
      eqb-true c.port d.port (from_implies (eqb c.name d.name) (eqb c.port d.port) two (eq-eqb c.name d.name e))

  pub tested : (p : Premise) → test ports name ks p ≡ true → Holds ports name ks p
  unfolding test passes
  tested Unrefused h =
      λ port id bytes m t.
      eqb-true (frame_refusal ports (record_length ports) port id (length bytes)) 0
      (from_implies (is_claim id bytes) (eqb (frame_refusal ports (record_length ports) port id (length bytes)) 0) (of_every (passes ports) ks h (FrameIn port id bytes) m) t)
  tested OneAddress h = one_address_lem h
  tested OnePort h = one_port_lem h
  tested NoneWithdraws h = λ c m. never_equal c.address 254 (of_every (λ x. not (eqb x.address 254)) (claimants ks) h c m)
  tested NoneIsTheUnit h = λ c m. never_equal c.name name (of_every (λ x. not (eqb x.name name)) (claimants ks) h c m)

-- ---- every premise but one
unfoldable pub place : Premise → ℕ
place Unrefused = 0
place OneAddress = 1
place OnePort = 2
place NoneWithdraws = 3
place NoneIsTheUnit = 4

unfoldable pub from_place : ℕ → Premise
from_place zero = Unrefused
from_place (suc zero) = OneAddress
from_place (suc (suc zero)) = OnePort
from_place (suc (suc (suc zero))) = NoneWithdraws
from_place (suc (suc (suc (suc n)))) = NoneIsTheUnit

place_back : (p : Premise) → from_place (place p) ≡ p
unfolding place from_place
place_back Unrefused = refl
place_back OneAddress = refl
place_back OnePort = refl
place_back NoneWithdraws = refl
place_back NoneIsTheUnit = refl

unfoldable pub but : Premise → (Premise → Bool) → Premise → Bool
but p t q = eqb (place q) (place p) || t q

unfoldable pub all : (Premise → Bool) → Bool
all t = t Unrefused && (t OneAddress && (t OnePort && (t NoneWithdraws && t NoneIsTheUnit)))

of_all : (t : Premise → Bool) (p : Premise) → all t ≡ true → t p ≡ true
unfolding all
of_all t Unrefused h = left (t Unrefused) _ h
of_all t OneAddress h = left (t OneAddress) _ (right (t Unrefused) _ h)
of_all t OnePort h = left (t OnePort) _ (right (t OneAddress) _ (right (t Unrefused) _ h))
of_all t NoneWithdraws h = left (t NoneWithdraws) _ (right (t OnePort) _ (right (t OneAddress) _ (right (t Unrefused) _ h)))
of_all t NoneIsTheUnit h = right (t NoneWithdraws) _ (right (t OnePort) _ (right (t OneAddress) _ (right (t Unrefused) _ h)))

pub tested_but : (p : Premise) (ports name : ℕ) (ks : List Call) → all (but p (test ports name ks)) ≡ true → (q : Premise) → (q ≡ p → ⊥) → Holds ports name ks q
unfolding but
tested_but p ports name ks h q ne = go (eqb (place q) (place p)) refl (of_all (but p (test ports name ks)) q h)
  where
    go : (x : Bool) → eqb (place q) (place p) ≡ x → (x || test ports name ks q) ≡ true → Holds ports name ks q
    go true e t = absurd (ne (sym (place_back q) ∙ ap from_place (eqb-true (place q) (place p) e) ∙ place_back p))
    go false e t = tested ports name ks q t

pub all_tested : (ports name : ℕ) (ks : List Call) → all (test ports name ks) ≡ true → (q : Premise) → Holds ports name ks q
all_tested ports name ks h q = tested ports name ks q (of_all (test ports name ks) q h)
