use Rattle.std.proofs.Common.{rules, ◌≡◌, [], sym, length, append-nil}
use Rattle.bac_query.proofs.answers.only_value.Goals as goal

pub returns-in_default-clause-only : goal.returns-in_default-clause-only
returns-in_default-clause-only c value spelt = c.in_default.ensures.only c.args.octets.now [] value spelt (sym (append-nil c.args.octets.now))

pub returns-then-len-octets-clause-only : goal.returns-then-len-octets-clause-only
returns-then-len-octets-clause-only c value spelt = (c.in-Ok.ensures.only c.args.octets.now [] value spelt (sym (append-nil c.args.octets.now))).0

pub returns-else-len-octets-clause-only : goal.returns-else-len-octets-clause-only
returns-else-len-octets-clause-only c value spelt =
    let same : c.in-Ok.len ≡ length c.args.octets.now = (c.in-Ok.ensures.only c.args.octets.now [] value spelt (sym (append-nil c.args.octets.now))).1 in
    search rules
