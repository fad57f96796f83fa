-- Each function is listed by its number. Assumes nothing.
use Rattle.std.specs.Prelude.{◌≡◌, true, refl}
use Rattle.entries.specs.Entries.{listed}
use Rattle.network_message.specs.declared.function.Function.{Function}
use Rattle.network_message.specs.declared.function.Function.TheVariants.{Request, Add, Delete, Clear, Create, AddByName, AddressList, Parameter, Reset, PairParameter, PairReset}
use Rattle.network_message.specs.Decoding.{is_known}
use Rattle.network_message.specs.Functions.{number_of}

pub known : (function : Function) → is_known (number_of function) ≡ true
unfolding is_known listed
known Request = refl
known Add = refl
known Delete = refl
known Clear = refl
known Create = refl
known AddByName = refl
known AddressList = refl
known Parameter = refl
known Reset = refl
known PairParameter = refl
known PairReset = refl
