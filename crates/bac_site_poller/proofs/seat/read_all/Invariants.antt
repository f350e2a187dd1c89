use Rattle.std.proofs.Common.{◌≡◌, ◌++◌, map, take, drop}
use Rattle.bac_site_poller.specs.Seat.{seat_read}
use Rattle.bac_site_poller.proofs.seat.read_all.Given as goal

abbrev pub invariant-loop-seat : goal.invariant-loop-seat
invariant-loop-seat l = l.seats ≡ map (seat_read l.now) (take l.seat-index l.fn.seats) ++ drop l.seat-index l.fn.seats
