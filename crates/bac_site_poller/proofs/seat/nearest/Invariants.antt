use Rattle.std.proofs.Common.{◌≡◌, ◌≤◌, ℕ, All, Some, slice_get, take}
use Rattle.bac_site_poller.specs.Seat.{until}
use Rattle.bac_site_poller.specs.declared.seat.Seat.{Seat}
use Rattle.bac_site_poller.proofs.seat.nearest.Given as goal

-- none so far is waited for until before, and one of all is until then
abbrev pub invariant-loop-seat : goal.invariant-loop-seat
invariant-loop-seat l = record {
  least : All (λ s. l.nearest ≤ until l.is_wanted l.now s) (take l.seat-index l.seats);
  one : (place : ℕ) × (s : Seat) × (slice_get l.seats place ≡ Some s) × (l.nearest ≡ until l.is_wanted l.now s);
}
