-- A block has eight words of its own, and the packets behind them. Assumes nothing.
use mathlib.Core.Path.{◌≡◌}
use mathlib.Core.List.{List, [], ◌∷◌}
use Prim.Native.Nat.{ℕ}
use native.Mathlib.Omega.{arith}
use lib.ListN.{length}
use Rattle.session.specs.Session.{block_length, packet_words}

pub eight : (P : List ℕ → Type 0)
    → ((a b c d e f g h : ℕ) (ps : List ℕ) → length ps ≡ packet_words → P (a ∷ b ∷ c ∷ d ∷ e ∷ f ∷ g ∷ h ∷ ps))
    → (block : List ℕ) → length block ≡ block_length → P block
eight P f [] l = absurd (omega arith)
eight P f (a ∷ []) l = absurd (omega arith)
eight P f (a ∷ b ∷ []) l = absurd (omega arith)
eight P f (a ∷ b ∷ c ∷ []) l = absurd (omega arith)
eight P f (a ∷ b ∷ c ∷ d ∷ []) l = absurd (omega arith)
eight P f (a ∷ b ∷ c ∷ d ∷ e ∷ []) l = absurd (omega arith)
eight P f (a ∷ b ∷ c ∷ d ∷ e ∷ g ∷ []) l = absurd (omega arith)
eight P f (a ∷ b ∷ c ∷ d ∷ e ∷ g ∷ h ∷ []) l = absurd (omega arith)
eight P f (a ∷ b ∷ c ∷ d ∷ e ∷ g ∷ h ∷ i ∷ ps) l = f a b c d e g h i ps (omega arith)
