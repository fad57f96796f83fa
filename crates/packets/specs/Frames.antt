-- The frames of PGN 60416, byte by byte; each ends with the PGN that it is about, in bytes 6 to 8. A frame of PGN 60160 is a
-- packet (`Packets.antt`).
-- Assumes nothing.
use Rattle.std.specs.Prelude.{ℕ, ◌+◌, ◌*◌, ◌/◌, ◌%◌, Bool, cond, List, [], ◌∷◌, get_or, eqb}
use Rattle.packets.specs.declared.Kind.{Kind}
use Rattle.packets.specs.declared.Kind.TheVariants.{RequestToSend, ClearToSend, End, Abort, Other}

-- ---- the frames that are sent, two bytes of a size with the least significant first
-- "up to the sender's limit and 16, which is also the limit we send"
abbrev pub request_bytes : ℕ → ℕ → List ℕ
request_bytes size packets = 0x10 ∷ size % 256 ∷ size / 256 ∷ packets ∷ 0x10 ∷ 0x00 ∷ 0xED ∷ 0x00 ∷ []

abbrev pub clear_bytes : ℕ → ℕ → List ℕ
clear_bytes count first = 0x11 ∷ count ∷ first ∷ 0xFF ∷ 0xFF ∷ 0x00 ∷ 0xED ∷ 0x00 ∷ []

abbrev pub end_bytes : ℕ → ℕ → List ℕ
end_bytes size packets = 0x13 ∷ size % 256 ∷ size / 256 ∷ packets ∷ 0xFF ∷ 0x00 ∷ 0xED ∷ 0x00 ∷ []

-- reason 3, a time that ran out
abbrev pub abort_bytes : List ℕ
abort_bytes = 0xFF ∷ 0x03 ∷ 0xFF ∷ 0xFF ∷ 0xFF ∷ 0x00 ∷ 0xED ∷ 0x00 ∷ []

-- ---- what a frame that is heard says
-- bytes 6 to 8 are `00 ED 00`, PGN 60672: "others ignored"
abbrev pub is_about : List ℕ → Bool
is_about bytes = eqb (get_or bytes 5 0 + 256 * get_or bytes 6 0 + 65536 * get_or bytes 7 0) 0xED00

-- by its first byte; the bytes that nothing is read from may be any
abbrev pub by_first : List ℕ → Kind
by_first bytes =
    cond (eqb (get_or bytes 0 0) 0x10)
    (RequestToSend (get_or bytes 1 0 + 256 * get_or bytes 2 0) (get_or bytes 3 0) (get_or bytes 4 0))
    (cond (eqb (get_or bytes 0 0) 0x11) (ClearToSend (get_or bytes 1 0) (get_or bytes 2 0))
    (cond (eqb (get_or bytes 0 0) 0x13) End
    (cond (eqb (get_or bytes 0 0) 0xFF) Abort Other)))

unfoldable pub kind_of : List ℕ → Kind
kind_of bytes = cond (is_about bytes) (by_first bytes) Other
