-- A number that is read lies in its range.
use Rattle.std.proofs.Common.{◌≡◌, ℕ, ◌≤◌, Option, None, Some, Ok, arith}
use Rattle.std.proofs.lemmas.Grind.{common_steps}
use Rattle.std.specs.Prelude.{option_and_then}
use Rattle.std.specs.Option.{ok_or}
use Rattle.clap.specs.Words.{Text}
use Rattle.bac_command_line.specs.Numbers.{between, number_in}
use Rattle.bac_keep_command_line.specs.declared.fault.Fault.{Fault}

-- what is there is what was said
pub is_said : (read : Option ℕ) (fault : Fault) (n : ℕ) → ok_or read fault ≡ Ok n → read ≡ Some n
is_said None fault n e = grind (arith, common_steps)
is_said (Some m) fault n e = grind (arith, common_steps)

pub at_least : (low high : ℕ) (digits : Option ℕ) (n : ℕ) → option_and_then (between low high) digits ≡ Some n → low ≤ n
at_least low high None n e = grind (arith, common_steps)
at_least low high (Some m) n e = grind (arith, common_steps)

pub at_most : (low high : ℕ) (digits : Option ℕ) (n : ℕ) → option_and_then (between low high) digits ≡ Some n → n ≤ high
at_most low high None n e = grind (arith, common_steps)
at_most low high (Some m) n e = grind (arith, common_steps)

-- from the lowest one
pub from_low : (low high n : ℕ) (text : Text) → number_in low high text ≡ Some n → low ≤ n
unfolding number_in
from_low low high n text e = at_least low high _ n e

-- up to the highest
pub up_to_high : (low high n : ℕ) (text : Text) → number_in low high text ≡ Some n → n ≤ high
unfolding number_in
up_to_high low high n text e = at_most low high _ n e
