use Rattle.std.proofs.Common.{◌≡◌, replicate}
use Rattle.bac_resume.specs.Rows.{untold}
use Rattle.bac_resume.proofs.rows.untold.Given as goal

abbrev pub invariant-loop : goal.invariant-loop
invariant-loop l = l.all.items ≡ replicate l.counter untold
