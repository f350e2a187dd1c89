use Rattle.std.proofs.Common.{Err, ap, arith, inl, inr, refl}
use Rattle.bac_ports.specs.Sockets.{link_over, socket_asks, socket_rules}
use Rattle.bac_tools.proofs.Fetched.{begun_with, quiet_as, quiet_end, run_of}
use Rattle.bac_tools.proofs.asking.log.Goals as goal

-- what stands before the items wasn't printed
pub returns-in-Err-clause-fetches : goal.returns-in-Err-clause-fetches
returns-in-Err-clause-fetches g c =
    let (opened, linked, begun) = c.in_ok-link.ensures.ok in
    inr (
      c.in_ok-link.field-0.link.port,
      _,
      c.into_port.result,
      opened,
      (
        Err c.in-Err.fault,
        c.in_ok-link.field-0.link,
        (inl (c.in-Err.fault, rw c.in-Err.is at c.begin_layout.ensures, refl, linked), refl),
        c.into_port.ensures,
        ap Err c.of_query.ensures,
      ),
      c.close.ensures,
    )

pub returns-in-Ok-clause-fetches : goal.returns-in-Ok-clause-fetches
returns-in-Ok-clause-fetches g c =
    let rules = socket_rules g.S.Sockets.opens g.S.Sockets.closes g.S.Socket.Port.sends g.S.Socket.Port.receives g.S.Socket.Port.receives_within in
    let (opened, linked, begun) = c.in_ok-link.ensures.ok in
    let (items, prints, run) = c.fetch_log_ahead-fetched.ensures.printed in
    let most = rw begun at c.fetch_log_ahead-fetched.ensures.begun in
    inr (
      c.in_ok-link.field-0.link.port,
      _,
      c.into_port-2.result,
      opened,
      (
        c.fetch_log_ahead-fetched.result,
        c.fetch_log_ahead-fetched.new.link,
        (
          inr (
            g.O.Write.contents c.begin_layout.new.out,
            begun_with c.args.asking.layout c.begin_layout.result _ _ c.in_default.not-Err c.begin_layout.ensures,
            (
              (c.fetch_log_ahead-fetched.new.transactions, rw (linked, begun) at c.fetch_log_ahead-fetched.ensures.came, omega (arith, most)),
              run_of rules c.args.asking.layout c.args.asked c.args.asking.walk _ _ _ _ _ _ (link_over c.args.asked.address c.in_ok-link.field-0.link.port) c.fetch_log_ahead-fetched.new.link _ _ items prints (rw (linked, begun) at run),
              rw begun at c.fetch_log_ahead-fetched.ensures.flaw,
            ),
          ),
          rw c.in-Ok.is c.say_more.ensures,
        ),
        c.into_port-2.ensures,
        rw (c.in-Ok.is, c.ended_as.ensures, c.ending_of-ended.ensures) refl,
      ),
      c.close-2.ensures,
    )

pub returns-in-Err-fetched-clause-fetches : goal.returns-in-Err-fetched-clause-fetches
returns-in-Err-fetched-clause-fetches g c =
    let rules = socket_rules g.S.Sockets.opens g.S.Sockets.closes g.S.Socket.Port.sends g.S.Socket.Port.receives g.S.Socket.Port.receives_within in
    let (opened, linked, begun) = c.in_ok-link.ensures.ok in
    let (items, prints, run) = c.fetch_log_ahead-fetched.ensures.printed in
    let most = rw begun at c.fetch_log_ahead-fetched.ensures.begun in
    inr (
      c.in_ok-link.field-0.link.port,
      _,
      c.into_port-2.result,
      opened,
      (
        c.fetch_log_ahead-fetched.result,
        c.fetch_log_ahead-fetched.new.link,
        (
          inr (
            g.O.Write.contents c.begin_layout.new.out,
            begun_with c.args.asking.layout c.begin_layout.result _ _ c.in_default.not-Err c.begin_layout.ensures,
            (
              (c.fetch_log_ahead-fetched.new.transactions, rw (linked, begun) at c.fetch_log_ahead-fetched.ensures.came, omega (arith, most)),
              run_of rules c.args.asking.layout c.args.asked c.args.asking.walk _ _ _ _ _ _ (link_over c.args.asked.address c.in_ok-link.field-0.link.port) c.fetch_log_ahead-fetched.new.link _ _ items prints (rw (linked, begun) at run),
              rw begun at c.fetch_log_ahead-fetched.ensures.flaw,
            ),
          ),
          rw c.in-Err-fetched.is refl,
        ),
        c.into_port-2.ensures,
        rw c.in-Err-fetched.is (ap Err c.of_query-in-Err-fetched.ensures),
      ),
      c.close-2.ensures,
    )

pub returns-in-Ok-clause-quiet : goal.returns-in-Ok-clause-quiet
returns-in-Ok-clause-quiet g c =
    let rules = socket_rules g.S.Sockets.opens g.S.Sockets.closes g.S.Socket.Port.sends g.S.Socket.Port.receives g.S.Socket.Port.receives_within in
    let (came, items, n, ended, after, half, mid, brought, tells, headline, more) = rw c.in-Ok.is at c.fetch_log_ahead-fetched.ensures.came in
    let flawed = rw c.in-Ok.is at c.fetch_log_ahead-fetched.ensures.flaw in
    let quiet = quiet_end (socket_asks rules) _ _ _ _ c.fetch_log_ahead-fetched.new.link c.args.asked.address c.in-Ok.fetched.why c.in-Ok.fetched.flaw c.in-Ok.fetched.said_more _ _ _ flawed more c.say_more.ensures in
    rw (c.ended_as.ensures, c.ending_of-ended.ensures) (quiet_as c.args.asking.layout c.in-Ok.fetched.why _ _ _ quiet)
