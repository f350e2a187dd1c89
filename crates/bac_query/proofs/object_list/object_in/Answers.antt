use Rattle.std.proofs.Common.{subst, sym, ◌∙◌}
use Rattle.std.proofs.lemmas.Option.{same_Some}
use Rattle.bac_query.specs.ObjectList.{IsObject}
use Rattle.bac_query.proofs.object_list.object_in.Goals as goal

pub returns-clause-none : goal.returns-clause-none
returns-clause-none c = λ none object tells.
    let same = same_Some tells.0 c.in_ok-values_in.field-0.now (sym tells.1 ∙ c.in_ok-values_in.ensures) in
    c.object_of.ensures.none none object (subst (λ v. IsObject object v) same tells.2)
