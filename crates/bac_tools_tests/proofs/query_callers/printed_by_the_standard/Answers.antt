use Rattle.std.proofs.Common.{ap}
use Rattle.bac_link.specs.declared.transactions.Transactions.{Transactions}
use Rattle.bac_query.specs.Ahead.{port_asks}
use Rattle.bac_tools_tests.proofs.Honest.{prints_said}
use Rattle.bac_tools_tests.proofs.query_callers.printed_by_the_standard.Goals as goal

pub returns : goal.returns
returns g c =
    prints_said (port_asks g.P.Port.sends g.P.Port.receives) c.args.link.now c.fetch_log_ahead.new.link c.new-transactions.result c.fetch_log_ahead.new.transactions c.in_ok-walk.walk c.args.log c.args.s c.args.steps
    c.fetch_log_ahead.result (g.W.Write.contents c.args.out.now) (g.W.Write.contents c.fetch_log_ahead.new.out)
    c.honest_is_delivered.ensures.honest c.links_are_honest.ensures.goes_on c.transacted_is_brought.ensures (ap (λ (t : Transactions). t.route) c.new-transactions.ensures) c.in_ok-walk.ensures.some c.fetch_log_ahead.ensures.came
