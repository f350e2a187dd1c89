use Rattle.std.specs.Str.Lines.{lines}
use Rattle.std.proofs.Common.{◌≡◌, length, None}
use Rattle.bac_script.specs.Configuration.{kept_plan}
use Rattle.bac_script.specs.Reason.{described}
use Rattle.bac_script.proofs.configuration.described_before_events.Given as goal

abbrev pub invariant-loop-line : goal.invariant-loop-line
invariant-loop-line l = described None (lines l.text) ≡ described (kept_plan l.kept) (lines l.rest)

abbrev pub decreases-loop-line : goal.decreases-loop-line
decreases-loop-line l = length l.rest
