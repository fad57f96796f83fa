-- A region of a record: `count` blocks of `size` words each, from word `start` on.
-- Assumes nothing.
use Rattle.std.specs.Prelude.{ℕ, zero, suc, ◌+◌, ◌*◌, List, [], ◌∷◌, take, drop}

-- the words of block i
unfoldable pub block_at : ℕ → ℕ → ℕ → List ℕ → List ℕ
block_at start size i words = take size (drop (start + size * i) words)

-- what the blocks mean, in order, for any meaning of a block
unfoldable pub blocks_of : {M : Type 0} → ℕ → ℕ → ℕ → (List ℕ → M) → List ℕ → List M
blocks_of start size zero meaning words = []
blocks_of start size (suc n) meaning words = meaning (take size (drop start words)) ∷ blocks_of (start + size) size n meaning words
