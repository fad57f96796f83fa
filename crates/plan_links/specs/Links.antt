-- A plan by its links, in place of a word for each port: a link puts a segment on a port of a unit, each counted from 1. Assumes nothing.
use Rattle.std.specs.Prelude.{ℕ, ◌+◌, ◌-◌, ◌*◌, ◌≡◌, Bool, true, false, cond, not, ◌&&◌, ◌||◌, List, [], ◌∷◌, Option, Some, None, Result, Err, option_and_then, length, get_or, set, replicate, leb, eqb}
use Rattle.plan_shape.specs.Plan.{plan_of, most_units, port_count, ports_length, lists_length}
use Rattle.checks.specs.declared.refusal.Refusal.{Refusal}
use Rattle.checks.specs.declared.refusal.Refusal.TheVariants.{WrongLength, OutsidePlan}
use Rattle.plans.specs.Plans.{Planning}
use Rattle.plan_links.specs.declared.Link.{Link}

-- the place of a link's port among those of all units
abbrev pub place_of : Link → ℕ
place_of link = port_count * (link.unit - 1) + (link.port - 1)

-- a link's numbers are of the plan
unfoldable pub link_in_range : ℕ → ℕ → Link → Bool
link_in_range segments units link =
    leb 1 link.unit
    && (leb link.unit units
    && (leb link.unit most_units
    && (leb 1 link.port
    && (leb link.port port_count
    && (leb 1 link.segment
    && leb link.segment segments)))))

-- a port is named by one of the links
unfoldable pub named : Link → List Link → Bool
named link [] = false
named link (l ∷ ls) = (eqb l.unit link.unit && eqb l.port link.port) || named link ls

-- each link is of the plan, and none names a port that one before it named
unfoldable pub good_after : ℕ → ℕ → List Link → List Link → Bool
good_after segments units before [] = true
good_after segments units before (l ∷ ls) = link_in_range segments units l && (not (named l before) && good_after segments units (l ∷ before) ls)

abbrev pub good_links : ℕ → ℕ → List Link → Bool
good_links segments units links = good_after segments units [] links

-- the segments on the ports, by the links
unfoldable pub linked : List ℕ → List Link → List ℕ
linked ports [] = ports
linked ports (l ∷ ls) = linked (set ports (place_of l) l.segment) ls

abbrev pub ports_of : List Link → List ℕ
ports_of links = linked (replicate ports_length 0) links

-- good links answer as their ports do; others are refused with 28, where the lists have their length
pub record LinkPlanning (segments units : ℕ) (links : List Link) (lists : List ℕ) (first pgn : ℕ) (r : Result ℕ Refusal) : Type 0 where
  pub good : good_links segments units links ≡ true → Planning segments (plan_of units (ports_of links) lists) first pgn r
  pub bad : good_links segments units links ≡ false → length lists ≡ lists_length → r ≡ Err OutsidePlan
  pub wrong : (length lists ≡ lists_length → ⊥) → r ≡ Err WrongLength

-- ---- one link after the other
-- the ports with one link more; none where it is out of range, or its port has a segment
unfoldable pub put : ℕ → ℕ → List ℕ → Link → Option (List ℕ)
put segments units ports link =
    cond (link_in_range segments units link && eqb (get_or ports (place_of link) 0) 0)
    (Some (set ports (place_of link) link.segment))
    None

unfoldable pub put_all : ℕ → ℕ → List ℕ → List Link → Option (List ℕ)
put_all segments units ports [] = Some ports
put_all segments units ports (l ∷ ls) = option_and_then (λ after. put_all segments units after ls) (put segments units ports l)
