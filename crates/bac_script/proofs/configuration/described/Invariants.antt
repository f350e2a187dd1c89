use Rattle.std.specs.Str.Lines.{lines}
use Rattle.std.proofs.Common.{◌≡◌, ◌+◌, ◌≤◌, length, None}
use Rattle.bac_script.specs.Configuration.{kept_plan, plan_of}
use Rattle.bac_script.proofs.configuration.described.Given as goal

abbrev pub invariant-loop-line : goal.invariant-loop-line
invariant-loop-line l =
    (plan_of 1 None (lines l.text) ≡ plan_of l.number (kept_plan l.kept) (lines l.rest)) × (l.number + length l.rest ≤ 1 + length l.text)

abbrev pub decreases-loop-line : goal.decreases-loop-line
decreases-loop-line l = length l.rest
