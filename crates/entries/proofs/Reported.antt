-- The bytes that report a list: they are its entries again, three to an entry. Assumes nothing.
use mathlib.Core.Path.{◌≡◌, refl, sym, ap}
use mathlib.Core.Bool.{true, ◌||◌}
use mathlib.Core.List.{List, [], ◌∷◌, ◌++◌, append_assoc}
use Prim.Native.Nat.{ℕ, ◌*◌, ◌/◌, ◌%◌, ◌^◌}
use native.Mathlib.Nat.{le_trans}
use native.Mathlib.Omega.{arith}
use borrow.Author.Tests.{ltb-true, lt-ltb}
use lib.Dec.{ltb, leb, eqb, lit≤}
use lib.ListN.{length, length-append}
use Rattle.checks.proofs.Tests.{both}
use Rattle.storage.specs.Bytes.{bytes_of}
use Rattle.storage.proofs.Bytes.{bytes_back, bytes_of_length}
use Rattle.identifier.specs.Identifier.{is_pgn}
use Rattle.entries.specs.Entries.{entries_of, every, reported}
use Rattle.entries.proofs.Listed.{every_weaker}

-- PGNs are numbers of three bytes
pub pgns_small : (es : List ℕ) → every is_pgn es ≡ true → every (λ x. ltb x (2 ^ 24)) es ≡ true
unfolding is_pgn
pgns_small es h =
    every_weaker is_pgn (λ x. ltb x (2 ^ 24))
    (λ x p. lt-ltb x (2 ^ 24) (le_trans (ltb-true x (2 ^ 18) (both (ltb x (2 ^ 18)) (leb 240 (x / 256 % 256) || eqb (x % 256) 0) p).0) (lit≤ tt)))
    es h

-- the bytes that report a list of numbers of three bytes are its entries
pub reported_back : (es : List ℕ) → every (λ x. ltb x (2 ^ 24)) es ≡ true → entries_of (reported es) ≡ es
unfolding reported entries_of every bytes_of
reported_back [] h = refl
reported_back (x ∷ xs) h =
    let p = both (ltb x (2 ^ 24)) (every (λ y. ltb y (2 ^ 24)) xs) h in
    rw (reported_back xs p.1) (ap (λ y. y ∷ xs) (bytes_back 3 x (ltb-true x (2 ^ 24) p.0)))

-- ---- how long, and one list after another
pub reported_long : (es : List ℕ) → length (reported es) ≡ 3 * length es
unfolding reported
reported_long [] = refl
reported_long (e ∷ es) = rw (length-append (bytes_of 3 e) (reported es), bytes_of_length 3 e) (omega (arith, reported_long es))

pub reported_append : (es fs : List ℕ) → reported (es ++ fs) ≡ reported es ++ reported fs
unfolding reported
reported_append [] fs = refl
reported_append (e ∷ es) fs = rw (reported_append es fs) (sym (append_assoc (bytes_of 3 e) (reported es) (reported fs)))
