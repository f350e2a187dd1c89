use Rattle.std.proofs.Common.{◌≡◌, fold, take}
use Rattle.bac_site_poller.specs.Status.{with_seat}
use Rattle.bac_site_poller.proofs.seat.greatest.Given as goal

-- so far it is the greatest
abbrev pub invariant-loop-seat : goal.invariant-loop-seat
invariant-loop-seat l = l.greatest ≡ fold with_seat l.fn.status (take l.seat-index l.seats)
