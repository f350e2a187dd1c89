use Rattle.std.proofs.Common.{◌≡◌, ◌+◌, ◌≤◌, length}
use Rattle.std.specs.Str.Lines.{lines}
use Rattle.bac_script.specs.Reason.{number_of}
use Rattle.bac_script.proofs.replay.mending.number_of.Given as goal

abbrev pub invariant-loop-line : goal.invariant-loop-line
invariant-loop-line l =
    (number_of l.id l.others 1 (lines l.script) ≡ number_of l.id l.left l.number (lines l.rest)) × (l.number + length l.rest ≤ 1 + length l.script)

abbrev pub decreases-loop-line : goal.decreases-loop-line
decreases-loop-line l = length l.rest
