-- Tickets 4 and 6 on the data: which NAME entries a frame matches, what is listed, and how many entries a pair compares. The quoted words are the customer's.
-- Assumes nothing.
use Rattle.std.specs.Prelude.{◌≡◌, ◌⊎◌, ◌↔◌, Bool, true, false, List, ℕ, ◌+◌, ◌-◌, ◌*◌, ◌/◌, ◌%◌, ◌^◌, ◌≤◌, ◌<◌, length, get_or}
use Rattle.identifier.specs.Identifier.{pgn_of}
use Rattle.name_entries.specs.NameEntries.{NameEntry}
use Rattle.filter.specs.Filter.{cleared, Filter}

-- ---- "It matches when the PGN is equal and the table gives the SA a NAME that agrees in every bit set in the mask."
-- The table begins at word 5 and has two words for each of the addresses 0 to 253: the arrival port, 0 where the address is free, and the NAME.
pub record Gives (words : List ℕ) (address name : ℕ) : Type 0 where
  pub inside : address < 254
  pub held : get_or words (5 + 2 * address) 0 ≡ 0 → ⊥
  pub named : get_or words (6 + 2 * address) 0 ≡ name

abbrev pub bit : ℕ → ℕ → ℕ
bit i n = n / 2 ^ i % 2

-- of a frame the identifier tells the PGN, and in bits 7 to 0 the SA
pub record Matches (words : List ℕ) (id : ℕ) (e : NameEntry) : Type 0 where
  pub pgn : e.pgn ≡ pgn_of id
  pub sender : ℕ
  pub known : Gives words (id % 256) sender
  pub agrees : (i : ℕ) → i < 64 → bit i e.mask ≡ 1 → bit i e.name ≡ bit i sender

-- place k of a pair's list has the PGN; the NAME entry in place k matches. Places are counted from 0 here
abbrev pub InList : ℕ → Filter → ℕ → Type 0
InList id f k = get_or f.entries k 0 ≡ pgn_of id

abbrev pub InNames : List ℕ → ℕ → Filter → ℕ → Type 0
InNames words id f k = Matches words id (get_or f.named k (record { pgn = 0; name = 0; mask = 0 }))

-- ---- "A match counts as listed."
-- one of the first n places is sought
abbrev pub Among : ℕ → (ℕ → Type 0) → Type 0
Among n sought = (k : ℕ) × (k < n) × sought k

abbrev pub Listed : List ℕ → ℕ → Filter → Type 0
Listed words id f = Among (length f.entries) (InList id f) ⊎ Among (length f.named) (InNames words id f)

-- ---- how many entries a pair compares
abbrev pub Permanent : ℕ → Type 0
Permanent id = (pgn_of id ≡ 60928) ⊎ (pgn_of id ≡ 59904)

-- rule 5: "0 for a cleared pair"; claims and requests (ticket 3): "Their compared count is 0."
abbrev pub Unsearched : ℕ → Filter → Type 0
Unsearched id f = Permanent id ⊎ (f.mode ≡ cleared)

-- ticket 6: "Keep each plain list sorted": the PGNs of a list in rising order, each once
pub record InOrder (entries sorted : List ℕ) : Type 0 where
  pub rising : (i j : ℕ) → i < j → j < length sorted → get_or sorted i 0 < get_or sorted j 0
  pub same : (x : ℕ) → Among (length sorted) (λ k. get_or sorted k 0 ≡ x) ↔ Among (length entries) (λ k. get_or entries k 0 ≡ x)

-- "each the middle place of those left, the lower of two": of the places from lo on, up to hi, which is not among them
abbrev pub middle : ℕ → ℕ → ℕ
middle lo hi = lo + (hi - lo - 1) / 2

-- "the probes of the halving rule, .. ending where it is equal": whether x was found, and after how many probes
pub data Halving (list : List ℕ) (x : ℕ) : (lo hi : ℕ) (found : Bool) (probes : ℕ) → Type 0 where
  none_left : {lo hi : ℕ} → hi ≤ lo → Halving list x lo hi false 0
  equal : {lo hi : ℕ} → lo < hi → get_or list (middle lo hi) 0 ≡ x → Halving list x lo hi true 1
  above : {lo hi : ℕ} {found : Bool} {n : ℕ} → lo < hi → get_or list (middle lo hi) 0 < x → Halving list x (middle lo hi + 1) hi found n
      → Halving list x lo hi found (n + 1)
  below : {lo hi : ℕ} {found : Bool} {n : ℕ} → lo < hi → x < get_or list (middle lo hi) 0 → Halving list x lo (middle lo hi) found n
      → Halving list x lo hi found (n + 1)

-- NAME entries: one place after the other up to the first that is sought, or all n
pub data UpTo (n : ℕ) (sought : ℕ → Type 0) : ℕ → Type 0 where
  first : {k : ℕ} → k < n → sought k → ((j : ℕ) → j < k → sought j → ⊥) → UpTo n sought (k + 1)
  all : ((j : ℕ) → j < n → sought j → ⊥) → UpTo n sought n

-- the probes in the list in rising order, and "those of Ticket 4 are added as before": if the PGN wasn't found, "these entries up to the first match"
pub data Compares (words : List ℕ) (id : ℕ) (f : Filter) : ℕ → Type 0 where
  nothing : Unsearched id f → Compares words id f 0
  found : {sorted : List ℕ} {n : ℕ} → (Unsearched id f → ⊥) → InOrder f.entries sorted → Halving sorted (pgn_of id) 0 (length sorted) true n
      → Compares words id f n
  not_found : {sorted : List ℕ} {n k : ℕ} → (Unsearched id f → ⊥) → InOrder f.entries sorted → Halving sorted (pgn_of id) 0 (length sorted) false n
      → UpTo (length f.named) (InNames words id f) k → Compares words id f (n + k)
