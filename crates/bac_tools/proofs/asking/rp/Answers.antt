use Rattle.std.proofs.Common.{Err, ap, inr, refl}
use Rattle.bac_tools.proofs.asking.rp.Goals as goal

pub returns-in-Ok : goal.returns-in-Ok
returns-in-Ok g c =
    let (opened, linked, begun) = c.in_ok-link.ensures.ok in
    inr (
      c.in_ok-link.field-0.link.port,
      _,
      c.into_port.result,
      opened,
      (
        c.read_property-answered.result,
        c.read_property-answered.new.link,
        rw (linked, begun) at c.read_property-answered.ensures.asked,
        c.into_port.ensures,
        rw c.in-Ok.is refl,
      ),
      c.close.ensures,
    )

pub returns-in-Err : goal.returns-in-Err
returns-in-Err g c =
    let (opened, linked, begun) = c.in_ok-link.ensures.ok in
    inr (
      c.in_ok-link.field-0.link.port,
      _,
      c.into_port.result,
      opened,
      (
        c.read_property-answered.result,
        c.read_property-answered.new.link,
        rw (linked, begun) at c.read_property-answered.ensures.asked,
        c.into_port.ensures,
        rw c.in-Err.is (ap Err c.of_query.ensures),
      ),
      c.close.ensures,
    )
