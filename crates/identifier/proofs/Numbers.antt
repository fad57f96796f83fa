-- The PGN of every identifier is a PGN; and a number that is asked whether it is one stands a byte up in an identifier. Assumes nothing.
use mathlib.Core.Path.{◌≡◌, refl}
use mathlib.Core.Bool.{Bool, true, false, cond, ◌||◌}
use Prim.Native.Nat.{ℕ, ◌+◌, ◌*◌, ◌/◌, ◌%◌, ◌^◌, ◌≤◌, ◌<◌}
use native.Mathlib.Omega.{arith}
use borrow.Author.Tests.{ltb-false, lt-ltb, le-leb}
use lib.Dec.{leb}
use Rattle.identifier.specs.Identifier.{extended_data_page_of, data_page_of, pf_of, ps_of, has_destination, pgn_of, is_pgn}
use Rattle.identifier.specs.Picture.{InRange, fields_of}
use Rattle.identifier.proofs.Picture.{in_range_lem}

pub pf_of_number : (n : ℕ) → pf_of (n * 256) ≡ n / 256 % 256
pf_of_number n = omega arith

pub ps_of_number : (n : ℕ) → ps_of (n * 256) ≡ n % 256
ps_of_number n = omega arith

-- what PS is in the PGN is a byte
pub extension_small : (id : ℕ) → cond (has_destination id) 0 (ps_of id) < 256
extension_small id = go (has_destination id) (ps_of id) (in_range_lem id).ps
  where
    go : (b : Bool) (s : ℕ) → s < 256 → cond b 0 s < 256
    go true s h = omega arith
    go false s h = h

or_true : (b : Bool) → b || true ≡ true
or_true true = refl
or_true false = refl

-- two pages, PF and a low byte at their places: a PGN where PF is 240 or more, or the low byte is 0
upper : (e d f s : ℕ) → e < 2 → d < 2 → f < 256 → s < 256 → 240 ≤ f → is_pgn (e * 2 ^ 17 + d * 2 ^ 16 + f * 2 ^ 8 + s) ≡ true
unfolding is_pgn
upper e d f s he hd hf hs h =
    let n = e * 2 ^ 17 + d * 2 ^ 16 + f * 2 ^ 8 + s in
    let q : n / 256 % 256 ≡ f = omega arith in
    rw (lt-ltb n (2 ^ 18) (omega arith), q, le-leb 240 f h)

lower : (e d f : ℕ) → e < 2 → d < 2 → f < 256 → is_pgn (e * 2 ^ 17 + d * 2 ^ 16 + f * 2 ^ 8 + 0) ≡ true
unfolding is_pgn
lower e d f he hd hf =
    let n = e * 2 ^ 17 + d * 2 ^ 16 + f * 2 ^ 8 + 0 in
    let q : n % 256 ≡ 0 = omega arith in
    rw (lt-ltb n (2 ^ 18) (omega arith), q) (or_true (leb 240 (n / 256 % 256)))

pub pgn_is_pgn : (id : ℕ) → is_pgn (pgn_of id) ≡ true
unfolding pgn_of
pgn_is_pgn id = by_case (has_destination id) refl
  where
    r : InRange (fields_of id)
    r = in_range_lem id

    by_case : (b : Bool) → has_destination id ≡ b → is_pgn (pgn_of id) ≡ true
    by_case true h = rw h (lower (extended_data_page_of id) (data_page_of id) (pf_of id) r.extended_data_page r.data_page r.pf)
    by_case false h =
        rw h
        (upper (extended_data_page_of id) (data_page_of id) (pf_of id) (ps_of id) r.extended_data_page r.data_page r.pf r.ps (ltb-false (pf_of id) 240 h))
