-- Links put on the ports one after the other: that goes exactly while they are good, and the ports have their segments. Assumes nothing.
use mathlib.Core.Path.{◌≡◌, refl, sym, ap, ◌∙◌}
use mathlib.Core.Bool.{Bool, true, false, not, ◌&&◌, ◌||◌, true≢false}
use mathlib.Core.List.{List, [], ◌∷◌, ◌++◌}
use Prim.Native.Nat.{ℕ, zero, suc, ◌+◌, ◌≤◌, ◌<◌}
use native.Mathlib.Decide.{ℕ_discrete}
use native.Mathlib.Omega.{arith}
use borrow.Author.Tests.{leb-true, eqb-true, eq-eqb, ne_eqb, not-true}
use lib.ListN.{length, get_or, set, take, drop, replicate, length-set, length-replicate}
use lib.Seq.{get_or-set_same, get_or-set_other, take-suc, take-length}
use native.Mathlib.Numerals.{add-one}
use lib.Dec.{leb, eqb}
use Rattle.checks.proofs.Tests.{both, neither}
use Rattle.plan_shape.specs.Plan.{plan_of, most_units, port_count, ports_length, lists_length}
use Rattle.std.specs.Prelude.{Option, Some, None, option_and_then, Result, Err}
use Rattle.std.proofs.lemmas.List.{take-append-drop}
use Rattle.checks.specs.declared.refusal.Refusal.{Refusal}
use Rattle.checks.specs.declared.refusal.Refusal.TheVariants.{OutsidePlan}
use Rattle.plans.specs.Plans.{Planning}
use Rattle.plan_links.specs.declared.Link.{Link}
use Rattle.plan_links.specs.Links.{place_of, link_in_range, named, good_after, linked, put, put_all, LinkPlanning}

-- ---- a link in range
pub record Ranged (segments : ℕ) (link : Link) : Type 0 where
  pub unit : 1 ≤ link.unit
  pub few : link.unit ≤ most_units
  pub port : 1 ≤ link.port
  pub eight : link.port ≤ port_count
  pub segment : 1 ≤ link.segment

pub ranged : (segments units : ℕ) (link : Link) → link_in_range segments units link ≡ true → Ranged segments link
unfolding link_in_range
ranged segments units link e =
    let a = both (leb 1 link.unit) _ e in
    let b = both (leb link.unit units) _ a.1 in
    let c = both (leb link.unit most_units) _ b.1 in
    let d = both (leb 1 link.port) _ c.1 in
    let f = both (leb link.port port_count) _ d.1 in
    let g = both (leb 1 link.segment) _ f.1 in
    record {
      unit = leb-true 1 link.unit a.0;
      few = leb-true link.unit most_units c.0;
      port = leb-true 1 link.port d.0;
      eight = leb-true link.port port_count f.0;
      segment = leb-true 1 link.segment g.0;
    }

-- ---- one link
module _ (segments units : ℕ) (ports : List ℕ) (link : Link) where
  pub put_good : link_in_range segments units link ≡ true → get_or ports (place_of link) 0 ≡ 0 → put segments units ports link ≡ Some (set ports (place_of link) link.segment)
  unfolding put
  put_good e z = rw (e, eq-eqb (get_or ports (place_of link) 0) 0 z)

  pub put_again : link_in_range segments units link ≡ true → (get_or ports (place_of link) 0 ≡ 0 → ⊥) → put segments units ports link ≡ None
  unfolding put
  put_again e ne = rw (e, ne_eqb (get_or ports (place_of link) 0) 0 ne)

  pub put_outside : link_in_range segments units link ≡ false → put segments units ports link ≡ None
  unfolding put
  put_outside e = rw e

-- ---- which ports are named
-- the ports have a segment exactly where a link before named them
record Seen (segments : ℕ) (before : List Link) (ports : List ℕ) : Type 0 where
  pub long : length ports ≡ ports_length
  pub free : (link : Link) → Ranged segments link → named link before ≡ false → get_or ports (place_of link) 0 ≡ 0
  pub taken : (link : Link) → Ranged segments link → named link before ≡ true → get_or ports (place_of link) 0 ≡ 0 → ⊥

nothing_put : (n i : ℕ) → ◌≡◌ {A = ℕ} (get_or (replicate n 0) i 0) 0
nothing_put zero i = refl
nothing_put (suc n) zero = refl
nothing_put (suc n) (suc i) = nothing_put n i

seen_none : (segments n : ℕ) → n ≡ ports_length → Seen segments [] (replicate n 0)
unfolding named
seen_none segments n e = record { long = length-replicate n 0 ∙ e; free = λ link R h. nothing_put n (place_of link); taken = λ link R h. absurd (true≢false (sym h)) }

same_port : (segments : ℕ) (l m : Link) → Ranged segments l → Ranged segments m → place_of l ≡ place_of m → (l.unit ≡ m.unit) × (l.port ≡ m.port)
same_port segments l m R S e =
    let a = R.unit in
    let b = R.port in
    let c = R.eight in
    let d = S.unit in
    let f = S.port in
    let g = S.eight in
    (omega arith, omega arith)

seen_more : (segments : ℕ) (before : List Link) (ports : List ℕ) (l : Link) → Ranged segments l → Seen segments before ports → Seen segments (l ∷ before) (set ports (place_of l) l.segment)
unfolding named
seen_more segments before ports l R S = record {
  long = length-set ports (place_of l) l.segment ∙ S.long;
  free = λ m Q h. let p = neither (eqb l.unit m.unit && eqb l.port m.port) (named m before) h in other m Q (apart m Q p.0) ∙ S.free m Q p.1;
  taken = λ m Q h. elim (ℕ_discrete (place_of m) (place_of l)) [
    | yes e ↦ (λ z. some (sym (get_or-set_same ports (place_of l) l.segment 0 inside) ∙ (rw e at z)))
    | no ne ↦ (λ z. S.taken m Q (later m Q ne h) (sym (other m Q ne) ∙ z))
  ];
}
  where
    inside : place_of l < length ports
    inside =
        let a = R.unit in
        let b = R.few in
        let c = R.port in
        let d = R.eight in
        omega (arith, S.long)

    some : l.segment ≡ 0 → ⊥
    some z = let a = R.segment in omega arith

    other : (m : Link) → Ranged segments m → (place_of m ≡ place_of l → ⊥) → get_or (set ports (place_of l) l.segment) (place_of m) 0 ≡ get_or ports (place_of m) 0
    other m Q ne = get_or-set_other ports (place_of l) (place_of m) l.segment 0 ne

    -- another port is another place
    apart : (m : Link) → Ranged segments m → (eqb l.unit m.unit && eqb l.port m.port) ≡ false → place_of m ≡ place_of l → ⊥
    apart m Q f e =
        let p = same_port segments l m R Q (sym e) in
        true≢false (sym (rw (eq-eqb l.unit m.unit p.0, eq-eqb l.port m.port p.1)) ∙ f)

    later : (m : Link) → Ranged segments m → (place_of m ≡ place_of l → ⊥) → ((eqb l.unit m.unit && eqb l.port m.port) || named m before) ≡ true → named m before ≡ true
    later m Q ne h = go (eqb l.unit m.unit && eqb l.port m.port) refl h
      where
        go : (b : Bool) → (eqb l.unit m.unit && eqb l.port m.port) ≡ b → (b || named m before) ≡ true → named m before ≡ true
        go true e h =
            let p = both (eqb l.unit m.unit) (eqb l.port m.port) e in
            let u : l.unit ≡ m.unit = eqb-true l.unit m.unit p.0 in
            let q : l.port ≡ m.port = eqb-true l.port m.port p.1 in
            absurd (ne (rw (u, q)))
        go false e h = h

-- ---- all links
module _ (segments units : ℕ) where
  all_put : (before : List Link) (ports : List ℕ) (links : List Link) → Seen segments before ports → good_after segments units before links ≡ true
      → put_all segments units ports links ≡ Some (linked ports links)
  unfolding good_after put_all linked
  all_put before ports [] S e = refl
  all_put before ports (l ∷ ls) S e =
      let a = both (link_in_range segments units l) (not (named l before) && good_after segments units (l ∷ before) ls) e in
      let b = both (not (named l before)) (good_after segments units (l ∷ before) ls) a.1 in
      let R = ranged segments units l a.0 in
      rw (put_good segments units ports l a.0 (S.free l R (not-true (named l before) b.0))) (all_put (l ∷ before) (set ports (place_of l) l.segment) ls (seen_more segments before ports l R S) b.1)

  all_refused : (before : List Link) (ports : List ℕ) (links : List Link) → Seen segments before ports → good_after segments units before links ≡ false
      → put_all segments units ports links ≡ None
  unfolding good_after put_all
  all_refused before ports [] S e = absurd (true≢false e)
  all_refused before ports (l ∷ ls) S e = go (link_in_range segments units l) refl (named l before) refl e (all_refused (l ∷ before) (set ports (place_of l) l.segment) ls)
    where
      go : (b : Bool) → link_in_range segments units l ≡ b → (d : Bool) → named l before ≡ d → (b && (not d && good_after segments units (l ∷ before) ls)) ≡ false
          → (Seen segments (l ∷ before) (set ports (place_of l) l.segment) → good_after segments units (l ∷ before) ls ≡ false → put_all segments units (set ports (place_of l) l.segment) ls ≡ None)
          → option_and_then (λ after. put_all segments units after ls) (put segments units ports l) ≡ None
      go false p d q h ih = rw (put_outside segments units ports l p)
      go true p true q h ih = rw (put_again segments units ports l p (S.taken l (ranged segments units l p) q))
      go true p false q h ih = let R = ranged segments units l p in rw (put_good segments units ports l p (S.free l R q)) (ih (seen_more segments before ports l R S) h)

  -- one part after the other
  put_parts : (ports : List ℕ) (xs ys : List Link) → put_all segments units ports (xs ++ ys) ≡ option_and_then (λ after. put_all segments units after ys) (put_all segments units ports xs)
  unfolding put_all
  put_parts ports [] ys = refl
  put_parts ports (x ∷ xs) ys = go (λ after. put_parts after xs ys) (put segments units ports x)
    where
      go : ((after : List ℕ) → put_all segments units after (xs ++ ys) ≡ option_and_then (λ after. put_all segments units after ys) (put_all segments units after xs)) → (o : Option (List ℕ)) → option_and_then (λ after. put_all segments units after (xs ++ ys)) o ≡ option_and_then (λ after. put_all segments units after ys) (option_and_then (λ after. put_all segments units after xs) o)
      go later None = refl
      go later (Some after) = later after

  put_one : (ports : List ℕ) (l : Link) → put_all segments units ports (l ∷ []) ≡ put segments units ports l
  unfolding put_all
  put_one ports l = go (put segments units ports l)
    where
      go : (o : Option (List ℕ)) → option_and_then (λ after. Some after) o ≡ o
      go None = refl
      go (Some after) = refl

  pub put_none : (ports : List ℕ) → put_all segments units ports [] ≡ Some ports
  unfolding put_all
  put_none ports = refl

  pub put_next : (ports : List ℕ) {after : List ℕ} (links : List Link) (i : ℕ) (d : Link) → i < length links → put_all segments units ports (take i links) ≡ Some after
      → put_all segments units ports (take (i + 1) links) ≡ put segments units after (get_or links i d)
  put_next ports {after} links i d h e =
      rw (add-one i, take-suc links i d h, put_parts ports (take i links) (get_or links i d ∷ []), e) (put_one after (get_or links i d))

  pub refused_all : (ports : List ℕ) (links : List Link) (i : ℕ) → put_all segments units ports (take i links) ≡ None → put_all segments units ports links ≡ None
  refused_all ports links i e =
      ap (put_all segments units ports) (sym (take-append-drop i links)) ∙ put_parts ports (take i links) (drop i links) ∙ rw e

pub put_whole : (segments units : ℕ) (ports : List ℕ) (links : List Link) → put_all segments units ports (take (length links) links) ≡ put_all segments units ports links
put_whole segments units ports links = rw (take-length links)

-- ---- what a plan by its links is answered with
module _ {segments units : ℕ} {links : List Link} {lists : List ℕ} {first pgn : ℕ} where
  pub bad : length lists ≡ lists_length → put_all segments units (replicate ports_length 0) links ≡ None → LinkPlanning segments units links lists first pgn (Err OutsidePlan)
  bad h e = record {
    good = λ g. absurd (none (sym e ∙ all_put segments units [] (replicate ports_length 0) links (seen_none segments ports_length refl) g));
    bad = λ _ _. refl;
    wrong = λ w. absurd (w h);
  }
    where
      none : {xs : List ℕ} → ◌≡◌ {A = Option (List ℕ)} None (Some xs) → ⊥
      none q = cc

  pub good : {r : Result ℕ Refusal} {ports : List ℕ} → length lists ≡ lists_length → put_all segments units (replicate ports_length 0) links ≡ Some ports
      → Planning segments (plan_of units ports lists) first pgn r → LinkPlanning segments units links lists first pgn r
  good {r} {ports} h e P = record {
    good = λ g. rw (some (sym e ∙ all_put segments units [] (replicate ports_length 0) links (seen_none segments ports_length refl) g)) at P;
    bad = λ b _. absurd (none (sym (all_refused segments units [] (replicate ports_length 0) links (seen_none segments ports_length refl) b) ∙ e));
    wrong = λ w. absurd (w h);
  }
    where
      some : {xs ys : List ℕ} → ◌≡◌ {A = Option (List ℕ)} (Some xs) (Some ys) → xs ≡ ys
      some q = cc

      none : {xs : List ℕ} → ◌≡◌ {A = Option (List ℕ)} None (Some xs) → ⊥
      none q = cc
