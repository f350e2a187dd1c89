use Rattle.bac_link.specs.Path.{towards}
use Rattle.bac_query.specs.Ahead.{port_asks}
use Rattle.bac_query.proofs.Flaws.{tells_flaw}
use Rattle.bac_query.proofs.fetching_ahead.fetch_told.Goals as goal

pub returns-in-Ok-clause-printed : goal.returns-in-Ok-clause-printed
returns-in-Ok-clause-printed g c = rw c.with_flaw.ensures (rw c.in-Ok.is at c.fetch.ensures.printed)

pub returns-in-Ok-clause-came : goal.returns-in-Ok-clause-came
returns-in-Ok-clause-came g c = rw c.with_flaw.ensures (rw c.in-Ok.is at c.fetch.ensures.came)

pub returns-in-Ok-clause-flaw : goal.returns-in-Ok-clause-flaw
returns-in-Ok-clause-flaw g c =
    let told = rw c.in-Ok.is at c.fetch.ensures.flaw in
    rw c.with_flaw.ensures (tells_flaw (port_asks g.P.Port.sends g.P.Port.receives) (towards c.args.transactions.now.route) c.args.transactions.now.retries c.args.walk.log c.in-Ok.fetched
    c.fetch.new.ahead.flaw c.fetch.new.ahead.link.now told)
