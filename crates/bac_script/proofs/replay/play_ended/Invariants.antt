use Rattle.bac_script.specs.Views.{state_of}
use Rattle.std.proofs.Common.{◌≡◌, ◌+◌, ◌≤◌, length}
use Rattle.bac_script.specs.Script.Lines.{ended_lines, open_line}
use Rattle.bac_script.proofs.PlayLemmas.{Progress}
use Rattle.bac_script.proofs.replay.play_ended.Given as goal

abbrev pub invariant-loop-line : goal.invariant-loop-line
invariant-loop-line g l =
    Progress (g.W.Write.contents l.initial.writer) (g.W.Write.contents l.writer) (state_of l.initial.session) (ended_lines l.script) (ended_lines l.rest) l.number (state_of l.session)
    × (open_line l.script ≡ open_line l.rest) × (l.number + length l.rest ≤ 1 + length l.script)

abbrev pub decreases-loop-line : goal.decreases-loop-line
decreases-loop-line g l = length l.rest
