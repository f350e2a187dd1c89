use Rattle.std.proofs.Common.{◌≡◌, ◌≤◌, count_by, take}
use Rattle.bac_site_poller.specs.Seat.{is_at}
use Rattle.bac_site_poller.proofs.seat.count_at.Given as goal

abbrev pub invariant-loop-seat : goal.invariant-loop-seat
invariant-loop-seat l = record { few : l.count ≤ l.seat-index; counted : l.count ≡ count_by (is_at l.peer) (take l.seat-index l.seats) }
