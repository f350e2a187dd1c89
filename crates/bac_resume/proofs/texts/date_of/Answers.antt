use Rattle.std.proofs.Common.{inr, sym, ◌∙◌}
use Rattle.bac_resume.proofs.Written.{no_stamp}
use Rattle.bac_resume.proofs.texts.date_of.Goals as goal

pub returns : goal.returns
returns c = inr (no_stamp c.args.text.now c.read-at.result c.read-at.ensures (sym c.in_ok-is_written.ensures ∙ c.if-branch.false), c.unknown.ensures)
