-- What the definitions of `specs/` say of small tables: each thing that can come of a claim. Assumes nothing.
use Rattle.std.specs.Prelude.{None}
use mathlib.Core.Path.{◌≡◌, refl}
use mathlib.Core.List.{List, [], ◌∷◌}
use Rattle.address_claims.specs.declared.Event.TheVariants.{Nothing, Withdrew, Recorded, Refreshed, TookOver, Beaten}
use Rattle.addresses.specs.Table.{place_from, held_by, stands_in, Place, held}
use Rattle.address_claims.specs.Claims.{without, withdrawn, withdraw_event, moved_to, contested, contest_event, claimed, claim_event}

-- NAME 7 at address 0 on port 2, NAME 5 at address 1 on port 3
abbrev two : List Place
two = held 2 7 ∷ held 3 5 ∷ None ∷ []

-- NAME 7 moves to the free address
moves : (claim_event 2 7 two ≡ Recorded) × (claimed 2 2 7 two ≡ None ∷ held 3 5 ∷ held 2 7 ∷ [])
unfolding moved_to withdrawn without held_by contested contest_event place_from
moves = (refl, refl)

-- NAME 7 claims its own address from port 4
refreshes : (claim_event 0 7 two ≡ Refreshed) × (claimed 4 0 7 two ≡ held 4 7 ∷ held 3 5 ∷ None ∷ [])
unfolding moved_to withdrawn without held_by contested contest_event place_from
refreshes = (refl, refl)

-- NAME 5 takes address 0 over
takes_over : (claim_event 0 5 two ≡ TookOver 7) × (claimed 3 0 5 two ≡ held 3 5 ∷ None ∷ None ∷ [])
unfolding moved_to withdrawn without held_by contested contest_event place_from
takes_over = (refl, refl)

-- NAME 7 claims address 1, is beaten, and holds nothing
beaten : (claim_event 1 7 two ≡ Beaten) × (claimed 2 1 7 two ≡ None ∷ held 3 5 ∷ None ∷ [])
unfolding moved_to withdrawn without held_by contested contest_event place_from
beaten = (refl, refl)

-- NAME 5 withdraws, NAME 6 has nothing to withdraw
withdraws : (withdraw_event 5 two ≡ Withdrew) × (withdrawn 5 two ≡ held 2 7 ∷ None ∷ None ∷ [])
unfolding withdrawn without held_by withdraw_event stands_in
withdraws = (refl, refl)

withdraws_nothing : (withdraw_event 6 two ≡ Nothing) × (withdrawn 6 two ≡ two)
unfolding withdrawn without held_by withdraw_event stands_in
withdraws_nothing = (refl, refl)
