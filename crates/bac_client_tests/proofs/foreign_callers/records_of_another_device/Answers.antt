use Rattle.std.proofs.Common.{ap, ◌∙◌}
use Rattle.bac_wire.specs.Primitive.{Id}
use Rattle.bac_link.specs.declared.transactions.Transactions.{Transactions}
use Rattle.bac_walk.specs.Place.{walk_at}
use Rattle.bac_client_tests.proofs.Foreign.{all_delivered}
use Rattle.bac_client_tests.proofs.foreign_callers.records_of_another_device.Goals as goal

pub returns : goal.returns
returns c = λ is.
    let run = c.collect.ensures.brought in
    let all = all_delivered c.args.link.now c.collect.new.link c.new-transactions.result.route c.new-transactions.result.retries c.in_ok-walk.walk c.collect.new.walk
    c.args.steps run.0 run.3.0 c.collect.result.items.items run.1 c.collect.result.why
    (ap (λ (t : Transactions). t.route) c.new-transactions.ensures)
    (c.in_ok-walk.ensures.some ∙ ap (λ (i : Id). walk_at i 7) is)
    c.brought_is_delivered.ensures run.2 run.3.1 in
    ((all.0.0, all.0.1, c.collect.ensures.next ∙ all.0.2, all.0.3), all.1)
