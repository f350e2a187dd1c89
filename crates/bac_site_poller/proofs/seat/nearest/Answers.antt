use Rattle.std.proofs.Common.{◌<◌, ◌∙◌, ℕ, length, min, ap, arith, sym}
use Rattle.bac_site_poller.specs.Seat.{until}
use Rattle.bac_site_poller.proofs.Places.{nearer, nearest_is}
use Rattle.bac_site_poller.proofs.seat.nearest.Goals as goal

pub loop-seat-init : goal.loop-seat-init
loop-seat-init c = record {
  least = λ k d below. omega arith;
  one = (0, c.in_ok-first.field-0.now, sym c.in_ok-first.ensures.value, c.until-nearest.ensures);
}

pub loop-seat-preserved : goal.loop-seat-preserved
loop-seat-preserved c =
    let wanted = until c.args.is_wanted c.args.now in
    let least = c.min-nearest.ensures ∙ ap (λ (n : ℕ). min c.loop-seat.nearest n) c.until.ensures in
    let below : c.loop-seat.seat-index < length c.args.seats.now = omega arith in
    let both = nearer wanted c.args.seats.now c.loop-seat.seat-index c.loop-seat.nearest c.min-nearest.result c.seat-item.result below c.seat-item.is least c.loop-seat.invariant.least c.loop-seat.invariant.one in
    record { least = both.0; one = both.1 }

pub returns-clause-some : goal.returns-clause-some
returns-clause-some c =
    nearest_is (until c.args.is_wanted c.args.now) c.args.seats.now c.loop-seat.seat-index c.loop-seat.nearest (omega arith) c.loop-seat.invariant.least c.loop-seat.invariant.one
