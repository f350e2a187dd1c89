use Rattle.std.proofs.Common.{◌≡◌, pos, ◌+◌, ◌-ℤ◌, ◌<◌, ◌∙◌, w32, to_z, of_z, arith}
use Rattle.jiff_core.proofs.SignedLemmas.{signed_arith}
use Rattle.bac_wire.specs.Stamp.{day_number}
use Rattle.bac_wire.proofs.Calendar.{days_is, since_1990}
use Rattle.bac_wire.proofs.stamp.Stamp.days.Goals as goal

later : (c : goal.After-to_unix_epoch_day) → c.to_unix_epoch_day.result ≡ pos (7305 + day_number c.args.self.now)
later c =
    let e = c.civil.ensures.value in
    let d = c.civil.result in
    c.to_unix_epoch_day.ensures.value ∙ days_is c.args.self.now d.year d.month d.day c.civil.ensures.exists e.0 e.1 e.2

few : (c : goal.After-to_unix_epoch_day) → day_number c.args.self.now < 3000000
few c = omega (arith, signed_arith, later c, c.to_unix_epoch_day.ensures.bound)

days : (c : goal.After-to_unix_epoch_day) → to_z w32 (of_z w32 (to_z w32 (of_z w32 c.to_unix_epoch_day.result) -ℤ pos 7305)) ≡ pos (day_number c.args.self.now)
days c = since_1990 c.to_unix_epoch_day.result (day_number c.args.self.now) (later c) (few c)

pub overflow_cast-result : goal.overflow_cast-result
overflow_cast-result c = rw (days c) (omega (arith, signed_arith, few c))

pub returns-clause-value : goal.returns-clause-value
returns-clause-value c = rw (days c)

pub returns-clause-bound : goal.returns-clause-bound
returns-clause-bound c = rw (days c) (few c)
