use Rattle.std.proofs.Common.{subst, sym, ◌∙◌}
use Rattle.std.proofs.lemmas.Option.{same_Some}
use Rattle.bac_query.specs.ObjectList.{AreObjects}
use Rattle.bac_query.proofs.object_list.objects_in.Goals as goal

pub returns-then-are_objects-clause-found : goal.returns-then-are_objects-clause-found
returns-then-are_objects-clause-found c = (c.in_ok-values.ensures, c.are_objects.ensures.are c.if-are_objects.true)

pub returns-else-are_objects-clause-none : goal.returns-else-are_objects-clause-none
returns-else-are_objects-clause-none c = λ no values tells.
    let same = same_Some values c.in_ok-values.values.now (sym tells.0 ∙ c.in_ok-values.ensures) in
    c.are_objects.ensures.none c.if-are_objects.false (subst (λ v. AreObjects c.args.count v) same tells.1)
