use Rattle.std.proofs.Common.{◌≡◌, rules}
use Rattle.bac_query.proofs.fetching_ahead.fetch_log_ahead.Goals as goal

pub returns-clause-printed : goal.returns-clause-printed
returns-clause-printed g c =
    let link : c.fetch_told.new.ahead.link.now ≡ c.link-1.given.0 = search rules in
    let out : c.fetch_told.new.ahead.out.now ≡ c.out-1.given.0 = search rules in
    rw (c.new-ahead.ensures.link, c.new-ahead.ensures.out, c.new-ahead.ensures.layout, link, out) at c.fetch_told.ensures.printed

pub returns-clause-came : goal.returns-clause-came
returns-clause-came g c =
    let link : c.fetch_told.new.ahead.link.now ≡ c.link-1.given.0 = search rules in
    let out : c.fetch_told.new.ahead.out.now ≡ c.out-1.given.0 = search rules in
    rw (c.new-ahead.ensures.link, c.new-ahead.ensures.out, c.new-ahead.ensures.layout, link, out) at c.fetch_told.ensures.came

pub returns-clause-flaw : goal.returns-clause-flaw
returns-clause-flaw g c =
    let link : c.fetch_told.new.ahead.link.now ≡ c.link-1.given.0 = search rules in
    rw link at c.fetch_told.ensures.flaw
