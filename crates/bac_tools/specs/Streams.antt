-- The streams, the sockets and the clock of the program.
use Rattle.std.specs.Prelude.{◌≡◌}
use Rattle.bac_print.specs.Output.{Held}
use Rattle.bac_tools.specs.Sockets.{Outlets, Outside, Pipes, outlets, outside, pipes}

-- what the input has left, what the output and the errors hold, each if that is known, the sockets, and the clock
pub record Streams (S C : Type 0) : Type 0 where
  pub input : Held
  pub output : Held
  pub errors : Held
  pub sockets : S
  pub clock : C

-- the streams, the sockets and the clock that are these
abbrev pub streams : {S C : Type 0} → Held → Held → Held → S → C → Streams S C
streams input output errors sockets clock =
    record { input = input; output = output; errors = errors; sockets = sockets; clock = clock }

-- the same streams, the errors holding this
abbrev pub with_errors : {S C : Type 0} → Held → Streams S C → Streams S C
with_errors errors all = streams all.input all.output errors all.sockets all.clock

-- their sockets and their output
abbrev pub outside_of : {S C : Type 0} → Streams S C → Outside S
outside_of all = outside all.sockets all.output

-- and their errors
abbrev pub outlets_of : {S C : Type 0} → Streams S C → Outlets S
outlets_of all = outlets all.sockets all.output all.errors

-- and their input
abbrev pub pipes_of : {S C : Type 0} → Streams S C → Pipes S
pipes_of all = pipes all.sockets all.input all.output

-- nothing is told, and the clock isn't looked at
abbrev pub IsQuiet : {S C : Type 0} → Streams S C → Streams S C → Type 0
IsQuiet old new = (new.errors ≡ old.errors) × (new.clock ≡ old.clock)

-- nothing is told or opened, and the clock isn't looked at
abbrev pub IsIdle : {S C : Type 0} → Streams S C → Streams S C → Type 0
IsIdle old new = IsQuiet old new × (new.sockets ≡ old.sockets)

-- nothing is read or opened, and the clock isn't looked at
abbrev pub IsUntouched : {S C : Type 0} → Streams S C → Streams S C → Type 0
IsUntouched old new = (new.input ≡ old.input) × (new.sockets ≡ old.sockets) × (new.clock ≡ old.clock)
