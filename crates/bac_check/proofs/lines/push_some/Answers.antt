use Rattle.bac_check.specs.Lines.{some_doubtful}
use Rattle.bac_check.proofs.AskedLemmas.{on_ok_then}
use Rattle.bac_check.proofs.EachLemmas.{three}
use Rattle.bac_check.proofs.lines.push_some.Goals as goal

pub returns : goal.returns
unfolding some_doubtful
returns c =
    on_ok_then c.push_count-2.result _ _ c.push_count-2.ensures
    (three c.args.text.now.items _ _ _ c.extend_from_slice.new.self.items c.push_count.new.text.items c.push_count-2.new.text.items c.in_ok-extend_from_slice.ensures.items c.in_ok-push_count.ensures)
