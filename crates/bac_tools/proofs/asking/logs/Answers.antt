use Rattle.std.proofs.Common.{Err, ap, inr, refl}
use Rattle.bac_tools.proofs.asking.logs.Goals as goal

pub returns-in-Ok : goal.returns-in-Ok
returns-in-Ok g c =
    let (opened, linked, begun) = c.in_ok-link.ensures.ok in
    inr (
      c.in_ok-link.field-0.link.port,
      _,
      c.into_port.result,
      opened,
      (
        c.list_logs-listed.result,
        c.list_logs-listed.new.link,
        (c.list_logs-listed.new.transactions, rw (linked, begun) at c.list_logs-listed.ensures),
        c.into_port.ensures,
        rw c.in-Ok.is refl,
      ),
      c.close.ensures,
    )

pub returns-in-Err : goal.returns-in-Err
returns-in-Err g c =
    let (opened, linked, begun) = c.in_ok-link.ensures.ok in
    inr (
      c.in_ok-link.field-0.link.port,
      _,
      c.into_port.result,
      opened,
      (
        c.list_logs-listed.result,
        c.list_logs-listed.new.link,
        (c.list_logs-listed.new.transactions, rw (linked, begun) at c.list_logs-listed.ensures),
        c.into_port.ensures,
        rw c.in-Err.is (ap Err c.of_query.ensures),
      ),
      c.close.ensures,
    )
