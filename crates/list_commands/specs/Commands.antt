-- docs/RULES.md, "Network messages": which pairs a command names, what it is refused with by the lists, and what it does to them.
-- Assumes nothing.
use Rattle.std.specs.Prelude.{ℕ, zero, suc, ◌+◌, ◌-◌, ◌*◌, ◌≤◌, ◌<◌, Bool, true, false, ◌&&◌, ◌||◌, cond, ◌⊎◌, ◌≡◌, List, [], ◌∷◌, ◌++◌, take, drop, get_or, ltb, eqb}
use Rattle.filter.specs.Filter.{Filter, clear, block_size as filter_length}
use Rattle.entries.specs.Entries.{listed, leading}
use Rattle.checks.specs.Checks.{Check, check, first}
use Rattle.checks.specs.Ports.{is_port}
use Rattle.network_message.specs.Decoding.{all_ports}
use Rattle.unit.specs.Ports.{each}
use Rattle.unit.specs.Model.{pairs_from}
use Rattle.filter_commands.specs.declared.pairs.Question.TheVariants.{IsCleared, IsNotCleared, WouldPass, Lacks, NamesFull}
use Rattle.filter_commands.specs.declared.pairs.Change.{Change}
use Rattle.filter_commands.specs.declared.pairs.Change.TheVariants.{Adds, Deletes, Creates, Names}
use Rattle.filter_commands.specs.Pairs.{holds_of, change_of}
use Rattle.list_commands.specs.declared.Absent.{Absent}

-- two ports that make a pair, in a unit of that many
pub record IsPair (ports a b : ℕ) : Type 0 where
  pub from : is_port ports a ≡ true
  pub to : is_port ports b ≡ true
  pub apart : a ≡ b → ⊥

-- ---- the pairs that a command names: from a port to one other, or to all others (15)
-- the other port that the kth pair from port p (from 0) leads to
abbrev pub target_of : ℕ → ℕ → ℕ
target_of p k = cond (ltb k p) k (suc k)

abbrev pub first_pair : ℕ → ℕ → ℕ
first_pair ports from = (ports - 1) * (from - 1)

-- whether the kth pair from that port is named
unfoldable pub names : ℕ → ℕ → ℕ → Bool
names from to k = eqb to all_ports || eqb to (suc (target_of (from - 1) k))

unfoldable pub any_below : (ℕ → Bool) → ℕ → Bool
any_below test zero = false
any_below test (suc n) = any_below test n || test n

-- whether the kth pair from that port is named and a test holds of it
abbrev pub holds_at : ℕ → (Filter → Bool) → ℕ → ℕ → List Filter → ℕ → Bool
holds_at ports test from to pairs k = names from to k && test (get_or pairs (first_pair ports from + k) clear)

-- the kth pair from that port, changed if it is named
abbrev pub change_at : (Filter → Filter) → ℕ → ℕ → ℕ → Filter → Filter
change_at change from to k f = cond (names from to k) (change f) f

-- word n of the record lies outside the blocks of the pairs that are named
abbrev pub Beside : ℕ → ℕ → ℕ → ℕ → Type 0
Beside ports from to n = (k : ℕ) → k < ports - 1 → names from to k ≡ true
    → (n < pairs_from ports + filter_length * (first_pair ports from + k)) ⊎ (pairs_from ports + filter_length * (first_pair ports from + k) + filter_length ≤ n)

-- whether a test holds of one of the first n pairs from that port that is named
unfoldable pub any_named : ℕ → ℕ → (Filter → Bool) → ℕ → ℕ → List Filter → Bool
any_named ports n test from to pairs = any_below (holds_at ports test from to pairs) n

-- the named ones among the first n pairs from that port are changed, and no other
unfoldable pub change_named : ℕ → ℕ → (Filter → Filter) → ℕ → ℕ → List Filter → List Filter
change_named ports n change from to pairs =
    take (first_pair ports from) pairs ++ each (change_at change from to) n (drop (first_pair ports from) pairs)

-- ---- 14 to 17: each asked over all named pairs before the next
unfoldable pub list_checks : ℕ → Change → List ℕ → ℕ → ℕ → List Filter → List Check
list_checks ports Adds xs from to pairs =
    check (any_named ports (ports - 1) (holds_of IsCleared xs) from to pairs) 15
    ∷ check (any_named ports (ports - 1) (holds_of WouldPass xs) from to pairs) 16
    ∷ []
list_checks ports Deletes xs from to pairs =
    check (any_named ports (ports - 1) (holds_of IsCleared xs) from to pairs) 15
    ∷ check (any_named ports (ports - 1) (holds_of Lacks xs) from to pairs) 17
    ∷ []
list_checks ports (Creates passing) xs from to pairs =
    check (any_named ports (ports - 1) (holds_of IsNotCleared xs) from to pairs) 14
    ∷ check (any_named ports (ports - 1) (holds_of WouldPass xs) from to pairs) 16
    ∷ []
list_checks ports (Names name mask) xs from to pairs =
    check (any_named ports (ports - 1) (holds_of IsCleared xs) from to pairs) 15
    ∷ check (any_named ports (ports - 1) (holds_of (NamesFull name mask) xs) from to pairs) 16
    ∷ []

unfoldable pub list_refusal : ℕ → Change → List ℕ → ℕ → ℕ → List Filter → ℕ
list_refusal ports change xs from to pairs = first (list_checks ports change xs from to pairs)

-- "A multi-pair command is done on all its pairs or none."
unfoldable pub commanded : ℕ → Change → List ℕ → ℕ → ℕ → List Filter → List Filter
commanded ports change xs from to pairs =
    cond (eqb (list_refusal ports change xs from to pairs) 0) (change_named ports (ports - 1) (change_of change xs) from to pairs) pairs

-- ---- ticket 2: for 17, "the first pair in rising To order and the first PGN in it that is absent"
-- the first below n for which a test holds, or n
unfoldable pub first_below : (ℕ → Bool) → ℕ → ℕ
first_below test zero = 0
first_below test (suc n) = cond (any_below test n) (first_below test n) (cond (test n) n (suc n))

-- how many of xs stand before the first that a list lacks
abbrev pub held_before : List ℕ → List ℕ → ℕ
held_before es xs = leading (λ x. listed x es) xs

-- in the kth pair from that port: the number of the entry from 1, the pair's To port, the PGN
abbrev pub absent_in : List ℕ → ℕ → ℕ → Filter → Absent
absent_in xs from k f = record {
  entry = suc (held_before f.entries xs);
  to = suc (target_of (from - 1) k);
  pgn = get_or xs (held_before f.entries xs) 0;
}

unfoldable pub absent_at : ℕ → List ℕ → ℕ → ℕ → List Filter → Absent
absent_at ports xs from to pairs =
    absent_in xs from (first_below (holds_at ports (holds_of Lacks xs) from to pairs) (ports - 1))
    (get_or pairs (first_pair ports from + first_below (holds_at ports (holds_of Lacks xs) from to pairs) (ports - 1)) clear)
