-- Lists that are read one element after the other.
use Rattle.std.proofs.Common.{List, ◌++◌, Result, Ok, Err}
use Rattle.bac_keep_command_line.specs.declared.fault.Fault.{Fault}

-- what was read stands before what is read of the rest
abbrev pub ahead : {A : Type 0} → List A → Result (List A) Fault → Result (List A) Fault
ahead done (Ok rest) = Ok (done ++ rest)
ahead done (Err fault) = Err fault
