-- The events of a site, as those of each of its devices. Read `RowsAreOwn`.
use Rattle.std.specs.Prelude.{◌≡◌, ℕ, ◌+◌, List, All, map}
use Rattle.std.specs.List.{sum_by}
use Rattle.bac_drive.specs.Chain.{Chain}
use Rattle.bac_drive.specs.Event.{Event}
use Rattle.bac_drive.specs.Laws.{puts_of}
use Rattle.bac_batch.specs.Batch.{Batched}
use Rattle.bac_batch.specs.Laws.{HoldsNothing}
use Rattle.bac_device_poller.specs.Puts.{PutAs, put_as}
use Rattle.bac_site_poller.specs.Site.{SiteState}
use Rattle.bac_site_poller.specs.SiteLaws.{Own, OwnStep, SiteBatchSteps, SiteSteps, seats_of}
use Rattle.bac_site_poller.specs.declared.seat.Seat.{Seat}
use Rattle.bac_site_laws.specs.Own.{kept_of, rows_in}

-- one device in a run: as it was at first, what happened to its poll, and as it is then
pub record Track : Type 0 where
  pub start : Seat
  pub own : List Own
  pub now : Seat

-- its poll is what these steps made of it
abbrev pub IsTrack : Track → Type 0
IsTrack t = Chain OwnStep t.start.poller t.own t.now.poller

-- the rows of logs that events put
abbrev pub rows_put : List Event → List PutAs
rows_put es = rows_in (map put_as (puts_of es))

-- Each device of a site has its own steps, and no other; and what a site puts of logs is what they keep, each row as
-- often: whatever is counted of rows, there is as much of it.
pub record AreTracks (old new : SiteState) (es : List Event) (tracks : List Track) : Type 0 where
  pub own : All IsTrack tracks
  pub now : map (λ (t : Track). t.now) tracks ≡ seats_of new
  pub each : (count : Seat → ℕ) → sum_by (λ (t : Track). count t.start) tracks ≡ sum_by count (seats_of old)
  pub rows : (count : PutAs → ℕ) →
      sum_by count (rows_put es) ≡ sum_by (λ (t : Track). sum_by count (kept_of t.own)) tracks

-- So it is with all that happens to a site.
abbrev pub RowsAreOwn : Type 0
RowsAreOwn =
    (old new : SiteState) (es : List Event) → Chain SiteSteps old es new →
    (tracks : List Track) × AreTracks old new es tracks

-- The same of a site whose rows are put in batches: of what is kept some rows may still be held.
pub record AreBatchedTracks (old new : Batched SiteState) (es : List Event) (tracks : List Track) : Type 0 where
  pub own : All IsTrack tracks
  pub each : (count : Seat → ℕ) → sum_by (λ (t : Track). count t.start) tracks ≡ sum_by count (seats_of old.machine)
  pub rows : (count : PutAs → ℕ) →
      sum_by count (rows_put es) + sum_by count (rows_in (map put_as new.puts))
      ≡ sum_by (λ (t : Track). sum_by count (kept_of t.own)) tracks

-- So nothing of it is lost or made up by the batches.
abbrev pub BatchedRowsAreOwn : Type 0
BatchedRowsAreOwn =
    (old new : Batched SiteState) (es : List Event) → HoldsNothing old → Chain SiteBatchSteps old es new →
    (tracks : List Track) × AreBatchedTracks old new es tracks
