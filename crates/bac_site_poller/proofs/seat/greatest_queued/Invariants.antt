use Rattle.std.proofs.Common.{◌≡◌, fold}
use Rattle.std.specs.VecDeque.Iter.{deque_iter_rest}
use Rattle.bac_site_poller.specs.Status.{with_seat}
use Rattle.bac_site_poller.proofs.seat.greatest_queued.Given as goal

-- with what is left it is the greatest of all
abbrev pub invariant-loop-seat : goal.invariant-loop-seat
invariant-loop-seat l = fold with_seat l.greatest (deque_iter_rest l.seat-iterator) ≡ fold with_seat l.fn.status l.seats.items
