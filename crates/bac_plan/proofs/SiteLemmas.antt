-- The seats of a site.
use Rattle.std.proofs.Common.{◌≡◌, ℕ, ◌<◌, ◌++◌, Bool, true, false, not, MatchBool, List, [], ◌∷◌, Some, length, get_or, refl, sym, ap, subst, ◌∙◌}
use Rattle.std.specs.List.{AllZip, Contains, filter, slice_get}
use Rattle.std.specs.List.Sorted.{IsPermutation}
use Rattle.std.specs.Option.{unwrap_or}
use Rattle.std.proofs.lemmas.List.Elements.{All-contains, All-contains_itself, All-filter}
use Rattle.std.proofs.lemmas.List.Sorted.{Contains-permutation, IsPermutation-sym}
use Rattle.bac_archive.specs.declared.row.DeviceRow.{DeviceRow}
use Rattle.bac_archive.specs.declared.row.LogRow.{LogRow}
use Rattle.bac_archive.specs.declared.standing.Standing.{Standing}
use Rattle.bac_resume.specs.Rows.{LogTold}
use Rattle.bac_site_poller.specs.Site.{SiteState}
use Rattle.bac_site_poller.specs.declared.seat.Seat.{Seat}
use Rattle.bac_plan.specs.Devices.{is_polled}
use Rattle.bac_plan.specs.Logs.{group_at, is_of}
use Rattle.bac_plan.specs.Site.{IsAddFault, IsAdded, IsSeatOf, IsSeatWith, IsSiteFault, no_devices}
use Rattle.bac_plan.specs.declared.fault.PlanFault.{PlanFault}
use Rattle.bac_plan.specs.declared.fault.PlanFault.TheVariants.{Device, Log, Memory}
use Rattle.bac_plan.specs.declared.options.Options.{Options}
use Rattle.bac_plan.proofs.Shares.{zip_failing, zip_passing, zip_weaker}

-- a device with the logs of its group
pub record SeatIn (options : Options) (told : List LogTold) (groups : List (List LogRow)) (d : DeviceRow) (seat : Seat) : Type 0 where
  pub few : d.id < 65536
  pub is : IsSeatWith options told (group_at groups d.id) d seat

-- these devices have seats, if they aren't stopped
abbrev pub Seated : Options → List LogTold → List (List LogRow) → (next : ℕ) → List DeviceRow → SiteState → Type 0
Seated options told groups next devices site =
    (seats : List Seat) × AllZip (SeatIn options told groups) (filter is_polled devices) seats × (site ≡ record (no_devices options next) { waiting = seats })

more_by : (options : Options) (told : List LogTold) (groups : List (List LogRow)) (next : ℕ) (devices : List DeviceRow) (d : DeviceRow) (old new : SiteState) (b : Bool) → d.stopped ≡ b
    → d.id < 65536 → Seated options told groups next devices old
    → MatchBool b (new ≡ old) ((seat : Seat) × IsSeatWith options told (group_at groups d.id) d seat × (new ≡ record old { waiting = old.waiting ++ seat ∷ [] }))
    → Seated options told groups next (devices ++ d ∷ []) new
more_by options told groups next devices d old new true is few has same =
    (has.0, zip_failing (SeatIn options told groups) is_polled devices has.0 d (ap not is) has.1, same ∙ has.2)
more_by options told groups next devices d old new false is few has more = (
  has.0 ++ more.0 ∷ [],
  zip_passing (SeatIn options told groups) is_polled devices has.0 d more.0 (ap not is) has.1 (record { few = few; is = more.1 }),
  more.2 ∙ ap (λ (s : SiteState). record s { waiting = s.waiting ++ more.0 ∷ [] }) has.2,
)

-- one device more
pub one_seated : (options : Options) (told told' : List LogTold) (groups groups' : List (List LogRow)) (next : ℕ) (devices : List DeviceRow) (d : DeviceRow) (old new : SiteState)
    → told' ≡ told → groups' ≡ groups → d.id < 65536 → Seated options told groups next devices old
    → IsAdded options told' (group_at groups' d.id) d old new → Seated options told groups next (devices ++ d ∷ []) new
one_seated options told told' groups groups' next devices d old new same alike few has added =
    more_by options told groups next devices d old new d.stopped refl few has
    (subst (λ (t : List LogTold). IsAdded options t (group_at groups d.id) d old new) same
    (subst (λ (g : List (List LogRow)). IsAdded options told' (group_at g d.id) d old new) alike added))

-- the group of a device is its logs among those of all
pub group_is : (groups : List (List LogRow)) (logs : List LogRow) (id : ℕ) → slice_get groups id ≡ Some (filter (is_of id) logs) → group_at groups id ≡ filter (is_of id) logs
group_is groups logs id is = ap (λ (o : _). unwrap_or o []) is

-- so its seat has those
pub all_seated : (options : Options) (told : List LogTold) (groups : List (List LogRow)) (logs : List LogRow) (devices : List DeviceRow) (seats : List Seat)
    → ((id : ℕ) → id < 65536 → slice_get groups id ≡ Some (filter (is_of id) logs)) → AllZip (SeatIn options told groups) devices seats
    → AllZip (IsSeatOf options told logs) devices seats
all_seated options told groups logs devices seats grouped all =
    zip_weaker (SeatIn options told groups) (IsSeatOf options told logs)
    (λ d seat has. subst (λ (l : List LogRow). IsSeatWith options told l d seat) (group_is groups logs d.id (grouped d.id has.few)) has.is) devices seats all

-- ---- why there is none

-- one that was taken is there
pub is_there : {X : Type 0} (xs ys : List X) (i : ℕ) (x : X) → IsPermutation xs ys → (i < length ys) × (x ≡ get_or ys i x) → Contains xs x
is_there xs ys i x moved at = Contains-permutation ys xs x (IsPermutation-sym xs ys moved) (i, at.0, sym at.1)

log_there : (s : Standing) (logs : List LogRow) (id : ℕ) (l : LogRow) → IsPermutation s.logs.items logs → Contains (filter (is_of id) logs) l → Contains s.logs.items l
log_there s logs id l moved there =
    Contains-permutation logs s.logs.items l (IsPermutation-sym s.logs.items logs moved)
    (All-contains (Contains logs) (filter (is_of id) logs) l (All-filter (is_of id) (Contains logs) logs (All-contains_itself logs)) there)

pub site_fault : (s : Standing) (groups' groups : List (List LogRow)) (logs : List LogRow) (d : DeviceRow) (e : PlanFault) → groups' ≡ groups
    → ((id : ℕ) → id < 65536 → slice_get groups id ≡ Some (filter (is_of id) logs)) → IsPermutation s.logs.items logs → d.id < 65536 → Contains s.devices.items d
    → IsAddFault d (group_at groups' d.id) e → IsSiteFault s e
site_fault s groups' groups logs d Memory alike grouped moved few there fault = fault
site_fault s groups' groups logs d (Device id) alike grouped moved few there fault = (d, there, fault.0, fault.1, fault.2)
site_fault s groups' groups logs d (Log id) alike grouped moved few there fault = (
  fault.0,
  log_there s logs d.id fault.0 moved
      (subst (λ (l : List LogRow). Contains l fault.0) (ap (λ (g : List (List LogRow)). group_at g d.id) alike ∙ group_is groups logs d.id (grouped d.id few)) fault.1),
  fault.2,
  fault.3,
)
