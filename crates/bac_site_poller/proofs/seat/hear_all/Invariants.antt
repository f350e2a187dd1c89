use Rattle.std.proofs.Common.{◌≡◌, ◌++◌, map, take, drop}
use Rattle.bac_site_poller.specs.Seat.{seat_heard}
use Rattle.bac_site_poller.proofs.seat.hear_all.Given as goal

abbrev pub invariant-loop-seat : goal.invariant-loop-seat
invariant-loop-seat l = l.seats ≡ map (seat_heard l.from l.datagram l.now) (take l.seat-index l.fn.seats) ++ drop l.seat-index l.fn.seats
