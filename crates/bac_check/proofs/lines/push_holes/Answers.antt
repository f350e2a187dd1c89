use Rattle.bac_check.specs.Lines.{hole_line}
use Rattle.bac_check.proofs.EachLemmas.{text_at}
use Rattle.bac_check.proofs.lines.push_holes.Goals as goal

pub loop-hole-preserved : goal.loop-hole-preserved
loop-hole-preserved c =
    text_at hole_line c.args.holes.now c.loop-hole.hole-index _ c.args.text.now.items c.loop-hole.text.items c.push_hole.new.text.items
    c.loop-hole-test.true c.loop-hole.invariant c.in_ok-push_hole.ensures
