use Rattle.std.proofs.Common.{◌≡◌, ap, subst, sym, take, ◌∙◌}
use Rattle.bac_query.specs.ObjectList.{IsObject, octets_at}
use Rattle.bac_query.proofs.object_list.object_at.Goals as goal

pub returns-clause-none : goal.returns-clause-none
returns-clause-none c = λ none object is.
    let at : c.split_at-2.result.0.now ≡ octets_at c.args.place c.args.values.now = c.split_at-2.ensures.front ∙ ap (λ l. take 5 l) c.split_at.ensures.back in
    c.object_of.ensures.none none object (subst (λ v. IsObject object v) (sym at) is)
