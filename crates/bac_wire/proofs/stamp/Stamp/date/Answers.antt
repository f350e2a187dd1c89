use Rattle.std.proofs.Common.{arith}
use Rattle.jiff_core.proofs.SignedLemmas.{signed_arith}
use Rattle.bac_wire.proofs.Calendar.{weekday_is, date_is}
use Rattle.bac_wire.proofs.stamp.Stamp.date.Goals as goal

pub returns-clause-value : goal.returns-clause-value
returns-clause-value c =
    let e = c.civil.ensures.value in
    let d = c.civil.result in
    let weekday = weekday_is c.args.self.now d.year d.month d.day c.civil.ensures.exists e.0 e.1 e.2 in
    date_is _ _ _ c.self.view_is (omega (arith, signed_arith, weekday, c.weekday.ensures, c.to_monday_one_offset.ensures.value))
