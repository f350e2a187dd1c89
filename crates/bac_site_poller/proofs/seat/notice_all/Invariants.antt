use Rattle.std.proofs.Common.{◌≡◌, ◌++◌, map, take, drop}
use Rattle.bac_site_poller.specs.Seat.{noticed}
use Rattle.bac_site_poller.proofs.seat.notice_all.Given as goal

abbrev pub invariant-loop-seat : goal.invariant-loop-seat
invariant-loop-seat l = l.seats ≡ map (noticed l.from l.datagram) (take l.seat-index l.fn.seats) ++ drop l.seat-index l.fn.seats
