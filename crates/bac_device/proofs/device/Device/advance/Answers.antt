use Rattle.std.proofs.Common.{◌≤◌, refl, ap, arith}
use Rattle.std.proofs.lemmas.Bool.{le-ltb}
use Rattle.bac_wire.specs.Stamp.{ticks_of}
use Rattle.bac_device.specs.Clock.{advanced}
use Rattle.bac_device.proofs.device.Device.advance.Goals as goal

pub returns-clause-advanced : goal.returns-clause-advanced
unfolding advanced
returns-clause-advanced c =
    let on : ticks_of c.self.inside.database.clock ≤ ticks_of c.args.stamp = omega (arith, c.ticks.ensures.value, c.ticks-2.ensures.value, c.if-ticks.false, ap ticks_of c.clock.ensures.value) in
    rw (← c.self.view_is, le-ltb (ticks_of c.args.stamp) (ticks_of c.self.inside.database.clock) on, c.advance.ensures.count, c.advance.ensures.state) refl
