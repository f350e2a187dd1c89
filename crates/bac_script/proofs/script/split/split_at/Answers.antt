use Rattle.std.proofs.Common.{sym, ap, ◌∙◌, ◌∷◌, take}
use Rattle.std.specs.List.{slice_split}
use Rattle.std.proofs.lemmas.List.{take_rest}
use Rattle.std.proofs.lemmas.List.Splits.{slice_split_none}
use Rattle.bac_script.specs.Script.Split.{is_octet}
use Rattle.bac_script.proofs.Splits.{slice_split-position}
use Rattle.bac_script.proofs.script.split.split_at.Goals as goal

pub returns-in_err-at-clause-last : goal.returns-in_err-at-clause-last
returns-in_err-at-clause-last c = rw c.from_residual.ensures (slice_split_none (is_octet c.args.mark) c.args.text.now c.in_err-at.ensures.none)

pub returns-clause-parts : goal.returns-clause-parts
returns-clause-parts c =
    let at = c.in_ok-at.at in
    slice_split-position (is_octet c.args.mark) c.args.text.now at (sym c.in_ok-at.ensures.place)
    ∙ ap (λ rest. take at c.args.text.now ∷ slice_split (is_octet c.args.mark) rest) (sym (take_rest c.args.text.now _))
