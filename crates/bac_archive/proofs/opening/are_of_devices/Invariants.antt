use Rattle.std.proofs.Common.{take, All}
use Rattle.bac_archive.specs.Archive.{IsOfDevice}
use Rattle.bac_archive.proofs.opening.are_of_devices.Given as goal

abbrev pub invariant-loop-log : goal.invariant-loop-log
invariant-loop-log l = All (IsOfDevice l.devices 1) (take l.log-index l.logs)
