-- What the loops keep: what a command makes is always that of the list so far and the entries that are left. Assumes nothing.
use mathlib.Core.Path.{◌≡◌, refl, sym, ap, ◌∙◌}
use mathlib.Core.Bool.{Bool, true, false, cond, ◌&&◌}
use mathlib.Core.List.{List, [], ◌∷◌, ◌++◌, append_assoc, append-nil}
use Prim.Native.Nat.{ℕ, ◌+◌, ◌≤◌, ◌<◌, zero-le}
use native.Mathlib.Nat.{le_refl, le_trans}
use native.Mathlib.Numerals.{add-one}
use native.Mathlib.Omega.{arith}
use lib.ListN.{length, get_or, set, take, drop, length-append, length-set}
use lib.Seq.{take-suc-set, drop-set-lt, drop-drop, get_or-take, get_or-drop, length-take-le}
use Rattle.std.specs.Prelude.{None, Some, map}
use Rattle.std.specs.List.{list_all}
use Rattle.std.proofs.lemmas.List.{length-map, get_or-map}
use Rattle.storage.specs.Bytes.{packed}
use Rattle.entries.specs.Entries.{listed, every}
use Rattle.pgn_list.specs.PgnList.{list_size, add_one, add_all, delete_all}
use Rattle.pgn_list.specs.Steps.{Extending, Keeping}
use Rattle.storage.proofs.Walk.{Left, left_all, left_next, left_one, left_none}

-- ---- adding one
pub one_listed : (es : List ℕ) (x : ℕ) → listed x es ≡ true → add_one es x ≡ es
unfolding add_one
one_listed es x e = rw e

pub one_new : (es : List ℕ) (x : ℕ) → listed x es ≡ false → add_one es x ≡ es ++ (x ∷ [])
unfolding add_one
one_new es x e = rw e

one_longer : (es : List ℕ) (x : ℕ) → length es ≤ length (add_one es x)
unfolding add_one
one_longer es x = go (listed x es)
  where
    go : (b : Bool) → length es ≤ length (cond b es (es ++ (x ∷ [])))
    go true = le_refl (length es)
    go false = omega (arith, length-append es (x ∷ []))

one_not_longer : (es : List ℕ) (x : ℕ) → length (add_one es x) ≤ length es + 1
unfolding add_one
one_not_longer es x = go (listed x es)
  where
    go : (b : Bool) → length (cond b es (es ++ (x ∷ []))) ≤ length es + 1
    go true = omega arith
    go false = omega (arith, length-append es (x ∷ []))

pub longer : (es xs : List ℕ) → length es ≤ length (add_all es xs)
unfolding add_all
longer es [] = le_refl (length es)
longer es (x ∷ xs) = le_trans (one_longer es x) (longer (add_one es x) xs)

-- n entries more make a list longer by n at most
pub not_longer : (es xs : List ℕ) → length (add_all es xs) ≤ length es + length xs
unfolding add_all
not_longer es [] = omega arith
not_longer es (x ∷ xs) = omega (arith, not_longer (add_one es x) xs, one_not_longer es x)

-- ---- Add: what is held so far, with the entries that are left, makes the same
pub record Held (entry list : List ℕ) (n : ℕ) (xs : List ℕ) (held i : ℕ) : Type 0 where
  pub left : Left (add_all (take n entry) xs) (add_all (take held list)) xs i
  pub few : held ≤ list_size
  pub long : length list ≡ list_size

module _ {entry list : List ℕ} {n : ℕ} {xs : List ℕ} {held i x : ℕ} (H : Held entry list n xs held i) (turn : i < length xs) (e : x ≡ get_or xs i 0) where
  held_fits : held ≤ length list
  held_fits = omega (arith, H.few, H.long)

  next : (ys : List ℕ) → add_one (take held list) x ≡ ys → add_all (take held list) (get_or xs i 0 ∷ drop (i + 1) xs) ≡ add_all ys (drop (i + 1) xs)
  unfolding add_all
  next ys h = rw (← e) (ap (λ l. add_all l (drop (i + 1) xs)) h)

  pub held_listed : listed x (take held list) ≡ true → Held entry list n xs held (i + 1)
  held_listed h =
      record { left = left_one H.left turn (next (take held list) (one_listed (take held list) x h)); few = H.few; long = H.long }

  pub held_new : listed x (take held list) ≡ false → (held ≡ list_size → ⊥) → Held entry (set list held x) n xs (held + 1) (i + 1)
  held_new h room =
      let s : take (held + 1) (set list held x) ≡ take held list ++ (x ∷ []) = rw (add-one held) (take-suc-set list held x (omega (arith, H.few, H.long))) in
      record {
        left = left_one H.left turn (next (take (held + 1) (set list held x)) (one_new (take held list) x h ∙ sym s));
        few = omega (arith, H.few);
        long = length-set list held x ∙ H.long;
      }

  pub held_over : listed x (take held list) ≡ false → held ≡ list_size → Extending entry list n xs None
  held_over h full =
      let ys = take held list ++ (x ∷ []) in
      let v : add_all (take n entry) xs ≡ add_all ys (drop (i + 1) xs) = left_next H.left turn ∙ next ys (one_new (take held list) x h) in
      rw v (omega (arith, longer ys (drop (i + 1) xs), length-append (take held list) (x ∷ []), length-take-le held list held_fits))

pub held_all : {entry list : List ℕ} {n : ℕ} {xs : List ℕ} {held i : ℕ} → Held entry list n xs held i → length xs ≤ i → Extending entry list n xs (Some held)
unfolding add_all
held_all {entry} {list} {n} {xs} {held} {i} H done =
    let v : add_all (take n entry) xs ≡ take held list = left_none H.left done in
    record { number = rw v (sym (length-take-le held list (omega (arith, H.few, H.long)))); entries = sym v; inside = H.few }

-- a single entry
module _ {list : List ℕ} {n x : ℕ} (long : length list ≡ list_size) (few : n ≤ list_size) where
  one_start : Held list list n (x ∷ []) n 0
  one_start = record { left = left_all refl; few = few; long = long }

  pub one_stays : listed x (take n list) ≡ true → Extending list list n (x ∷ []) (Some n)
  one_stays h = held_all (held_listed one_start (omega arith) refl h) (omega arith)

  pub one_joins : listed x (take n list) ≡ false → (n ≡ list_size → ⊥) → Extending list (set list n x) n (x ∷ []) (Some (n + 1))
  one_joins h room = held_all (held_new one_start (omega arith) refl h room) (omega arith)

pub one_over : (list : List ℕ) (n x : ℕ) → length list ≡ list_size → n ≤ list_size → listed x (take n list) ≡ false → n ≡ list_size → Extending list list n (x ∷ []) None
one_over list n x long few h full = held_over (one_start {list = list} {n = n} {x = x} long few) (omega arith) refl h full

-- ---- entries
pub entry_here : (es : List (List ℕ)) {i x : ℕ} → i < length es → x ≡ packed (get_or es i []) → x ≡ get_or (map packed es) i 0
entry_here es {i} h e = e ∙ sym (get_or-map packed es i [] 0 h)

pub entries_long : (es : List (List ℕ)) → length (map packed es) ≡ length es
entries_long es = length-map es packed

pub every_said : {A : Type 0} (number : A → ℕ) (test : ℕ → Bool) (es : List A) → list_all (λ e. test (number e)) es ≡ every test (map number es)
unfolding every
every_said number test [] = refl
every_said number test (e ∷ es) = ap (λ b. test (number e) && b) (every_said number test es)

-- ---- Delete: what was kept, and what of the rest is not named
pub record Kept (xs list₀ list : List ℕ) (n kept i : ℕ) : Type 0 where
  pub left : Left (delete_all (take n list₀) xs) (λ es. take kept list ++ delete_all es xs) (take n list₀) i
  pub inside : kept ≤ i
  pub rest : drop i list ≡ drop i list₀
  pub long : length list ≡ length list₀

pub kept_none : {xs list : List ℕ} {n : ℕ} → Kept xs list list n 0 0
kept_none = record { left = left_all refl; inside = zero-le; rest = refl; long = refl }

module _ {xs list₀ list : List ℕ} {n kept i : ℕ} {b : Bool} (fits : n ≤ length list₀) (K : Kept xs list₀ list n kept i) (turn : i < n) (named : b ≡ listed (get_or list i 0) xs) where
  turn' : i < length (take n list₀)
  turn' = omega (arith, length-take-le n list₀ fits)

  same : get_or (take n list₀) i 0 ≡ get_or list i 0
  same =
      let z : i + 0 ≡ i = omega arith in
      get_or-take n list₀ i 0 turn ∙ rw (← z) (sym (get_or-drop i list₀ 0 0) ∙ rw (← K.rest) (get_or-drop i list 0 0))

  rest_on : drop (i + 1) list ≡ drop (i + 1) list₀
  rest_on = sym (drop-drop 1 i list) ∙ rw K.rest (drop-drop 1 i list₀)

  pub kept_not : b ≡ true → Kept xs list₀ list n kept (i + 1)
  unfolding delete_all
  kept_not h = record { left = left_one K.left turn' (rw (same, ← named, h)); inside = omega (arith, K.inside); rest = rest_on; long = K.long }

  pub kept_one : b ≡ false → Kept xs list₀ (set list kept (get_or list i 0)) n (kept + 1) (i + 1)
  unfolding delete_all
  kept_one h =
      let x = get_or list i 0 in
      let s : take (kept + 1) (set list kept x) ≡ take kept list ++ (x ∷ []) = rw (add-one kept) (take-suc-set list kept x (omega (arith, K.inside, K.long))) in
      record {
        left = left_one K.left turn' (rw (same, ← named, h, s) (sym (append_assoc (take kept list) (x ∷ []) (delete_all (drop (i + 1) (take n list₀)) xs))));
        inside = omega (arith, K.inside);
        rest = drop-set-lt (i + 1) list kept x (omega (arith, K.inside)) ∙ rest_on;
        long = length-set list kept x ∙ K.long;
      }

pub kept_all : {xs list₀ list : List ℕ} {n kept i : ℕ} → n ≤ length list₀ → Kept xs list₀ list n kept i → n ≡ i → Keeping list₀ list n xs kept
unfolding delete_all
kept_all {xs} {list₀} {list} {n} {kept} {i} fits K done =
    record { entries = sym (left_none K.left (omega (arith, length-take-le n list₀ fits)) ∙ append-nil (take kept list)); inside = omega (arith, K.inside) }
