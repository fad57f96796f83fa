-- The payloads P5 to P9 of docs/RULES.md, and payloads of parameters and of NAME entries, decoded by computing. Assumes nothing.
use mathlib.Core.Path.{◌≡◌, refl}
use mathlib.Core.Bool.{true}
use mathlib.Core.List.{List, [], ◌∷◌}
use Prim.Native.Nat.{ℕ}
use Rattle.storage.specs.Bytes.{packed}
use Rattle.identifier.specs.Identifier.{is_pgn}
use Rattle.entries.specs.Entries.{listed, entries_of, every, leading, first_wrong}
use Rattle.filter_commands.specs.declared.pairs.Change.TheVariants.{Creates, Names}
use Rattle.network_message.specs.Asked.{Refused, Request, WithEntries, Parameter, Reset, PairParameter, PairReset}
use Rattle.network_message.specs.Decoding.{name_of, mask_of, is_known, is_general, may_be_all, is_pair, names_ports, may_name, holds_parameter, is_filling, entries_end, holds_entries, has_good_body, wrong_in, wrong_entry, has_wrong_mode, refusal_of, judged, command_of, decoded}
use Rattle.checks.specs.Ports.{is_port}

payloads :
    (decoded 4 1 (0x06 ∷ 0x12 ∷ 0x01 ∷ 0xF1 ∷ 0xFE ∷ 0x00 ∷ 0xFF ∷ 0xFF ∷ []) ≡ WithEntries (Creates true) 1 2 3 6)
    × (decoded 4 1 (0x00 ∷ 0x12 ∷ 0xFF ∷ 0xFF ∷ 0xFF ∷ 0xFF ∷ 0xFF ∷ 0xFF ∷ []) ≡ Request 1 2)
    × (decoded 4 3 (0x00 ∷ 0x12 ∷ 0xFF ∷ 0xFF ∷ 0xFF ∷ 0xFF ∷ 0xFF ∷ 0xFF ∷ []) ≡ Refused 11 0)
    × (decoded 4 1 (0x02 ∷ 0x11 ∷ 0xF1 ∷ 0xFE ∷ 0x00 ∷ 0xFF ∷ 0xFF ∷ 0xFF ∷ []) ≡ Refused 10 0)
    × (decoded 4 1 (0x02 ∷ 0x12 ∷ 0xFF ∷ 0xFF ∷ 0xFF ∷ 0xFF ∷ 0xFF ∷ 0xFF ∷ []) ≡ Refused 22 1)
unfolding decoded judged refusal_of command_of is_known is_general listed names_ports is_pair is_port may_be_all may_name holds_parameter has_good_body holds_entries entries_end is_filling every leading first_wrong wrong_in wrong_entry entries_of packed is_pgn has_wrong_mode
payloads = (refl, refl, refl, refl, refl)

-- the general functions' pair byte is not judged, nor are bytes 4 to 8; 23 is judged before 12, after 11 and 10; a reply is not listed
parameters :
    (decoded 4 1 (0x80 ∷ 0xFF ∷ 0x09 ∷ 0xFF ∷ 0xFF ∷ 0xFF ∷ 0xFF ∷ 0xFF ∷ []) ≡ Parameter 9)
    × (decoded 4 1 (0x80 ∷ 0x11 ∷ 0x01 ∷ 0x02 ∷ 0x03 ∷ 0x00 ∷ 0x00 ∷ 0x00 ∷ []) ≡ Parameter 1)
    × (decoded 4 1 (0x82 ∷ 0xFF ∷ 0x09 ∷ 0xFF ∷ 0xFF ∷ 0xFF ∷ 0xFF ∷ 0xFF ∷ []) ≡ Reset)
    × (decoded 4 2 (0x83 ∷ 0x12 ∷ 0x02 ∷ 0xFF ∷ 0xFF ∷ 0xFF ∷ 0xFF ∷ 0xFF ∷ []) ≡ PairParameter 1 2 2)
    × (decoded 4 2 (0x85 ∷ 0x21 ∷ 0x09 ∷ 0xFF ∷ 0xFF ∷ 0xFF ∷ 0xFF ∷ 0xFF ∷ []) ≡ PairReset 2 1)
    × (decoded 4 1 (0x81 ∷ 0xFF ∷ 0x09 ∷ 0x00 ∷ 0x00 ∷ 0xFF ∷ 0xFF ∷ 0xFF ∷ []) ≡ Refused 9 0)
    × (decoded 4 1 (0x84 ∷ 0x12 ∷ 0x09 ∷ 0x00 ∷ 0x00 ∷ 0xFF ∷ 0xFF ∷ 0xFF ∷ []) ≡ Refused 9 0)
    × (decoded 4 1 (0x83 ∷ 0x1F ∷ 0x09 ∷ 0xFF ∷ 0xFF ∷ 0xFF ∷ 0xFF ∷ 0xFF ∷ []) ≡ Refused 10 0)
    × (decoded 4 2 (0x80 ∷ 0x12 ∷ 0x07 ∷ 0xFF ∷ 0xFF ∷ 0xFF ∷ 0xFF ∷ 0xFF ∷ []) ≡ Refused 11 0)
    × (decoded 4 3 (0x85 ∷ 0x12 ∷ 0x07 ∷ 0xFF ∷ 0xFF ∷ 0xFF ∷ 0xFF ∷ 0xFF ∷ []) ≡ Refused 11 0)
    × (decoded 4 1 (0x80 ∷ 0x09 ∷ 0xFF ∷ 0xFF ∷ 0xFF ∷ 0xFF ∷ 0xFF ∷ 0xFF ∷ []) ≡ Refused 23 0)
    × (decoded 4 1 (0x85 ∷ 0x12 ∷ 0x03 ∷ 0xFF ∷ 0xFF ∷ 0xFF ∷ 0xFF ∷ 0xFF ∷ []) ≡ Refused 23 0)
    × (decoded 4 1 (0x83 ∷ 0x12 ∷ 0x04 ∷ 0xFF ∷ 0xFF ∷ 0xFF ∷ 0xFF ∷ 0xFF ∷ 0xFF ∷ []) ≡ Refused 23 0)
    × (decoded 4 1 (0x83 ∷ 0x12 ∷ 0x09 ∷ 0xFF ∷ 0xFF ∷ 0xFF ∷ 0xFF ∷ 0xFF ∷ 0xFF ∷ []) ≡ Refused 12 0)
unfolding decoded judged refusal_of command_of is_known is_general listed names_ports is_pair is_port may_be_all may_name holds_parameter has_good_body wrong_entry has_wrong_mode
parameters = (refl, refl, refl, refl, refl, refl, refl, refl, refl, refl, refl, refl, refl, refl)

-- the NAME and the mask of function 7, least significant byte first, and its two bytes of rate that are not read; To 15 is 10, another length 12 before 22
abbrev named : ℕ → ℕ → ℕ → List ℕ → List ℕ
named pair low high rest =
    0x07 ∷ pair ∷ low ∷ high ∷ 0x00
    ∷ 0x01 ∷ 0x02 ∷ 0x03 ∷ 0x04 ∷ 0x05 ∷ 0x06 ∷ 0x07 ∷ 0x80
    ∷ 0xFF ∷ 0x00 ∷ 0x00 ∷ 0x00 ∷ 0x00 ∷ 0x00 ∷ 0x00 ∷ 0x10 ∷ rest

names :
    (decoded 4 2 (named 0x12 0xF1 0xFE (0x05 ∷ 0x00 ∷ [])) ≡ WithEntries (Names 0x8007060504030201 0x10000000000000FF) 1 2 2 5)
    × (decoded 4 1 (named 0x1F 0xF1 0xFE (0x05 ∷ 0x00 ∷ [])) ≡ Refused 10 0)
    × (decoded 4 3 (named 0x12 0xF1 0xFE (0x05 ∷ 0x00 ∷ [])) ≡ Refused 11 0)
    × (decoded 4 1 (named 0x12 0xFF 0xFF (0x05 ∷ [])) ≡ Refused 12 0)
    × (decoded 4 1 (named 0x12 0xFF 0xFF (0x05 ∷ 0x00 ∷ 0x00 ∷ [])) ≡ Refused 12 0)
    × (decoded 4 1 (named 0x12 0x01 0xEF (0x05 ∷ 0x00 ∷ [])) ≡ Refused 22 1)
unfolding decoded judged refusal_of command_of is_known is_general listed names_ports is_pair is_port may_be_all may_name holds_parameter has_good_body every leading first_wrong wrong_entry entries_of packed is_pgn has_wrong_mode name_of mask_of
names = (refl, refl, refl, refl, refl, refl)
