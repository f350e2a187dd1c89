use Rattle.std.proofs.Common.{◌++◌, ap, ◌∙◌, codes}
use Rattle.bac_query.specs.Lines.{facts_text, named}
use Rattle.bac_print.proofs.Parts.{three}
use Rattle.bac_query.proofs.line.push_facts.Goals as goal

pub returns : goal.returns
unfolding facts_text
returns c =
    three c.push_named-3.result c.args.text.now.items (named (codes " max-apdu ") c.args.i_am.now.max_apdu)
    (named (codes " segmentation ") c.args.i_am.now.segmentation) (named (codes " vendor ") c.args.i_am.now.vendor) _ _ _
    c.in_ok-push_named.ensures
    (c.in_ok-push_named-2.ensures ∙ ap (λ n. c.push_named.new.text.items ++ named (codes " segmentation ") n) c.from.ensures)
    c.push_named-3.ensures
