-- The status that the polls of a site leave. Read `site_status`.
use Rattle.std.specs.Prelude.{ℕ, ◌≤◌, All, fold}
use Rattle.bac_wire.specs.Stamp.{CivilTime}
use Rattle.bac_ports.specs.Port.{Receiving}
use Rattle.bac_drive.specs.declared.machine.Next.{Next}
use Rattle.bac_device_poller.specs.Status.{code, greater_of}
use Rattle.bac_device_poller.specs.StatusLaws.{left_status}
use Rattle.bac_device_poller.specs.declared.status.Status.{Status}
use Rattle.bac_device_poller.specs.declared.status.Status.TheVariants.{Done}
use Rattle.bac_site_poller.specs.Site.{GivesSite, SiteState, site_heard, site_read}
use Rattle.bac_site_poller.specs.SiteLaws.{IsUnasked, seats_of}
use Rattle.bac_site_poller.specs.declared.seat.Seat.{Seat}

-- with that of one device more
abbrev pub with_seat : Status → Seat → Status
with_seat status s = greater_of status s.poller.rows.status

-- The greatest of all its devices: of those that are asked, that wait for their turn, and that have ended.
abbrev pub site_status : SiteState → Status
site_status s = fold with_seat Done (seats_of s)

-- ---- laws

-- a status is no less than that of why nothing more is asked of a device, if nothing is
abbrev pub IsCountedIn : Status → Seat → Type 0
IsCountedIn status s = code (left_status s.poller.doing) ≤ code status

-- in its own one each device of a site is counted
abbrev pub AreCounted : SiteState → Type 0
AreCounted s = All (λ seat. IsCountedIn seat.poller.rows.status seat) (seats_of s)

-- the status of a site doesn't fall, and each of its devices stays counted
pub record Rises (old new : SiteState) : Type 0 where
  pub rises : code (site_status old) ≤ code (site_status new)
  pub counts : AreCounted old → AreCounted new

-- So it is with all that a site wants, with what comes, and with time.
abbrev pub StatusNeverFalls : Type 0
StatusNeverFalls =
    ((old new : SiteState) (wanted : Next) → GivesSite old wanted new → Rises old new)
    × ((s : SiteState) (now : CivilTime) (heard : Receiving) → Rises s (site_heard now heard s))
    × ((s : SiteState) (ms : ℕ) → Rises s (site_read ms s))

-- In a site that has asked none of its devices each is counted; and where each is, the status of the site is no less
-- than that of any device's end: one that is silent, or another one, isn't left out.
abbrev pub EndsAreCounted : Type 0
EndsAreCounted =
    ((s : SiteState) → IsUnasked s → AreCounted s)
    × ((s : SiteState) → AreCounted s → All (IsCountedIn (site_status s)) (seats_of s))
