-- The functions, each by its number.
-- Assumes nothing.
use Rattle.std.specs.Prelude.{◌≡◌, ℕ, false, Result, MatchResult}
use Rattle.checks.specs.declared.refusal.Refusal.{Refusal}
use Rattle.checks.specs.declared.refusal.Refusal.TheVariants.{UnknownFunction}
use Rattle.network_message.specs.declared.function.Function.{Function}
use Rattle.network_message.specs.declared.function.Function.TheVariants.{Request, Add, Delete, Clear, Create, AddByName, AddressList, Parameter, Reset, PairParameter, PairReset}
use Rattle.network_message.specs.Decoding.{is_known}

abbrev pub number_of : Function → ℕ
number_of Request = 0
number_of Add = 2
number_of Delete = 3
number_of Clear = 4
number_of Create = 6
number_of AddByName = 7
number_of AddressList = 64
number_of Parameter = 128
number_of Reset = 130
number_of PairParameter = 131
number_of PairReset = 133

-- the function of that number, or 9 where none is listed
abbrev pub Listed : ℕ → Result Function Refusal → Type 0
Listed number r = MatchResult r (λ function. number_of function ≡ number) (λ refusal. (refusal ≡ UnknownFunction) × (is_known number ≡ false))
