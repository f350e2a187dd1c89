use Rattle.std.proofs.Common.{None, ap, ◌∙◌, arith}
use Rattle.bac_link.specs.declared.transactions.Transactions.{Transactions}
use Rattle.bac_client_tests.proofs.Honest.{honest_run}
use Rattle.bac_client_tests.proofs.Foreign.{most_asked}
use Rattle.bac_client_tests.proofs.honest_callers.records_that_came.Goals as goal

pub returns : goal.returns
returns g c = λ r M H k low ours here window above below.
    let run = c.collect.ensures.brought in
    let all = honest_run g.L.LogLink.asks (λ link N. g.L.LogLink.is_ours link c.args.log r N H) c.args.link.now c.collect.new.link c.new-transactions.result.route c.new-transactions.result.retries
    c.in_ok-walk.walk c.collect.new.walk c.args.steps run.0 run.3.0 c.collect.result.items.items run.1 c.collect.result.why c.args.log c.args.s H M low k
    (ap (λ (t : Transactions). t.route) c.new-transactions.ensures) c.in_ok-walk.ensures.some
    (c.honest_is_delivered.ensures.ours c.args.log r H)
    (c.ours_are_honest.ensures None c.args.log 100 r H low tt (omega (arith, c.kind-kind.ensures.value, c.kind-kind.ensures.bound), omega (arith, c.instance-instance.ensures.value, c.instance-instance.ensures.bound)) most_asked) ours run.2 run.3.1 here (c.moments_never_go_back.ensures r M H (g.met.L.LogLink.serves c.args.link.now c.args.log r M H ours)) window above below in
    ((all.0.0, all.0.1, c.collect.ensures.next ∙ all.0.2, all.0.3), all.1)
