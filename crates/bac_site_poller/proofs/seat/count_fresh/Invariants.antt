use Rattle.std.proofs.Common.{◌≡◌, ◌≤◌, count_by, take}
use Rattle.bac_site_poller.specs.Seat.{is_fresh}
use Rattle.bac_site_poller.proofs.seat.count_fresh.Given as goal

abbrev pub invariant-loop-seat : goal.invariant-loop-seat
invariant-loop-seat l = record { few : l.count ≤ l.seat-index; counted : l.count ≡ count_by (is_fresh l.now) (take l.seat-index l.seats) }
