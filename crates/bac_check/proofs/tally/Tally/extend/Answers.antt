use Rattle.std.proofs.Common.{◌<◌, ◌+◌, ◌∙◌, ap, arith, rules, if◌then◌else◌, is_none}
use Rattle.bac_check.specs.Tallies.{doubted_numbers, is_doubted, is_sure, last_in, sure_numbers}
use Rattle.bac_check.proofs.TallyLemmas.{one_more}
use Rattle.bac_check.proofs.tally.Tally.extend.Goals as goal

pub returns-clause-counted : goal.returns-clause-counted
returns-clause-counted c spans was up in_order =
    let fits : last_in c.args.self.now < 4294967296 = search rules in
    let same = c.in_ok-leave.ensures.same in
    let kept = c.count.ensures.same in
    one_more spans c.args.self.now _ c.args.span was up in_order
    (kept.0 ∙ same.0)
    (search rules)
    (c.count.ensures.records (omega (arith, same.2, was.few, fits)) ∙ ap (λ n. n + (if is_none c.args.span.last then 1 else 0)) same.2)
    (c.count.ensures.gaps (omega (arith, same.3, was.few, fits)) ∙ ap (λ n. n + (if is_sure c.args.span then 1 else 0)) same.3)
    (c.count.ensures.gone (omega (arith, same.4, was.once, fits)) in_order ∙ ap (λ n. n + sure_numbers c.args.span) same.4)
    (c.count.ensures.doubtful (omega (arith, same.5, was.few, fits)) ∙ ap (λ n. n + (if is_doubted c.args.span then 1 else 0)) same.5)
    (c.count.ensures.doubted (omega (arith, same.6, was.once, fits)) in_order ∙ ap (λ n. n + doubted_numbers c.args.span) same.6)
    (ap (λ v. v.items) kept.2 ∙ c.in_ok-leave.ensures.holes up)
