use Rattle.std.proofs.Common.{◌≡◌, [], take, None}
use Rattle.bac_objects.specs.Build.{objects_fault}
use Rattle.bac_objects.proofs.build.compared_fault.Given as goal

abbrev pub invariant-loop-place : goal.invariant-loop-place
invariant-loop-place l = objects_fault l.device [] (take l.place l.lines) ≡ None
