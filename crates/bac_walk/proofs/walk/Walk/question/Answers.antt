use Rattle.std.proofs.Common.{ap, subst, arith}
use Rattle.bac_wire.specs.Primitive.{Id}
use Rattle.bac_link.specs.declared.request.Request.{Request}
use Rattle.bac_link.specs.Requests.{IsTooLong}
use Rattle.bac_link.specs.Standard.{IsCount}
use Rattle.bac_link.proofs.Verdicts.{question_fits}
use Rattle.bac_walk.specs.Walks.{question_of}
use Rattle.bac_walk.proofs.Asking.{ranged_of, question_is}
use Rattle.bac_walk.proofs.walk.Walk.question.Goals as goal

pub returns-clause-asks : goal.returns-clause-asks
returns-clause-asks c =
    let w = c.args.self.now in
    let kind = ap (λ (i : Id). i.kind) c.log-object.ensures.log in
    let instance = ap (λ (i : Id). i.instance) c.log-object.ensures.log in (
      question_is w c.log-object.result c.extent-extent.result c.log-object.ensures.log c.extent-extent.ensures,
      ranged_of w (omega (arith, c.next_number-next.ensures.next)) (subst IsCount c.count-count.ensures.count c.count-count.ensures.bounds),
      (omega (arith, kind, c.kind-kind.ensures.value, c.kind-kind.ensures.bound), omega (arith, instance, c.instance-instance.ensures.value, c.instance-instance.ensures.bound)),
    )

pub returns-clause-fits : goal.returns-clause-fits
returns-clause-fits c =
    let asks = returns-clause-asks c in
    λ long.
    let P : Request → Type 0 = λ r. IsTooLong r in
    question_fits c.args.self.now.log (question_of c.args.self.now) (subst P asks.0 long)
