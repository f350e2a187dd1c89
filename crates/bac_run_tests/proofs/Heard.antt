-- Where the status of a site is 0, each of its devices was heard to the end.
use Rattle.std.proofs.Common.{◌≡◌, ◌∙◌, ◌≤◌, ℕ, List, [], ◌∷◌, ◌++◌, All, ap, arith, count_by, get_or, refl, sym, subst}
use Rattle.std.proofs.lemmas.List.Elements.{All-cons, All-nil}
use Rattle.std.specs.List.{AllZip}
use Rattle.bac_archive.specs.declared.row.DeviceRow.{DeviceRow}
use Rattle.bac_archive.specs.declared.row.LogRow.{LogRow}
use Rattle.bac_archive.specs.declared.standing.Standing.{Standing}
use Rattle.sqlite.specs.Effect.{Database}
use Rattle.bac_batch.specs.Batch.{Batched, fresh_batch}
use Rattle.bac_batch.specs.Laws.{EndsWhole, StepsHappen}
use Rattle.bac_device_poll.specs.declared.turn.DeviceEnd.{DeviceEnd}
use Rattle.bac_device_poll.specs.declared.turn.DeviceEnd.TheVariants as end
use Rattle.bac_device_poller.specs.Poller.{PollerAs}
use Rattle.bac_device_poller.specs.Status.{code, status_at}
use Rattle.bac_device_poller.specs.StatusLaws.{left_status}
use Rattle.bac_device_poller.specs.declared.doing.Doing.{Doing}
use Rattle.bac_device_poller.specs.declared.doing.Doing.TheVariants.{Ended}
use Rattle.bac_device_poller.specs.declared.status.Status.{Status}
use Rattle.bac_device_poller.specs.declared.status.Status.TheVariants.{Done}
use Rattle.bac_drive.specs.Chain.{Chain}
use Rattle.bac_drive.specs.Event.{Event, Kept, Printed, Read, Sent, Waited, Warned}
use Rattle.bac_drive.specs.Happens.{Learns, Runs}
use Rattle.bac_drive.specs.declared.machine.Next.TheVariants as next
use Rattle.bac_keeping.specs.Keeping.{Around, amid, at_first}
use Rattle.bac_plan.specs.Site.{IsSeatOf, IsSite}
use Rattle.bac_plan.specs.declared.options.Options.{Options}
use Rattle.bac_ports.specs.Port.{Receiving, Sending}
use Rattle.bac_resume.specs.Rows.{LogTold}
use Rattle.bac_run_tests.specs.Done.{AreHeardOut, IsHeardOut}
use Rattle.bac_site_poller.specs.Site.{GivesSite, SiteHears, SiteState}
use Rattle.bac_site_poller.specs.SiteLaws.{BatchesEnd, HasEnded, is_of, IsNew, IsUnasked, SiteReads, SiteSteps, seats_of, site_acts}
use Rattle.bac_site_poller.specs.Status.{AreCounted, EndsAreCounted, IsCountedIn, StatusNeverFalls, site_status}
use Rattle.bac_site_poller.specs.declared.seat.Seat.{Seat}

-- nothing is asked of a site as it is made
new_seat : (options : Options) (told : List LogTold) (logs : List LogRow) (row : DeviceRow) (seat : Seat) → IsSeatOf options told logs row seat → IsNew seat
new_seat options told logs row seat (p, of, is) =
    subst IsNew (sym is) (ap (λ (x : PollerAs). x.doing) of.is, ap (λ (x : PollerAs). x.transactions.pending) of.is, refl)

new_seats : (options : Options) (told : List LogTold) (logs : List LogRow) (rows : List DeviceRow) (seats : List Seat) → AllZip (IsSeatOf options told logs) rows seats → All IsNew seats
new_seats options told logs [] [] are = All-nil IsNew
new_seats options told logs [] (seat ∷ seats) are = absurd are
new_seats options told logs (row ∷ rows) [] are = absurd are
new_seats options told logs (row ∷ rows) (seat ∷ seats) are = All-cons IsNew seat seats (new_seat options told logs row seat are.0) (new_seats options told logs rows seats are.1)

pub site_unasked : (options : Options) (told : Standing) (site : SiteState) → IsSite options told site → IsUnasked site
site_unasked options told site is =
    subst IsUnasked (sym is.is) (refl, new_seats options is.told is.logs _ is.seats is.seats_are, refl)

-- a status that is counted as 0 is none
none_left : (why : DeviceEnd) → code (status_at why) ≤ 0 → why ≡ end.Done
none_left end.Done low = refl
none_left end.Foreign low = absurd (omega (arith, low))
none_left end.Silent low = absurd (omega (arith, low))
none_left end.Unreached low = absurd (omega (arith, low))

heard_out : (seat : Seat) → HasEnded seat → IsCountedIn Done seat → IsHeardOut seat
heard_out seat (why, is) counted =
    let low : code (status_at why) ≤ 0 = subst (λ (d : Doing). code (left_status d) ≤ 0) is counted in
    is ∙ ap Ended (none_left why low)

module _ (rises : StatusNeverFalls) where
  learns_count : (e : Event) (old new : SiteState) → Learns SiteHears SiteReads old e new → AreCounted old → AreCounted new
  learns_count (Waited within heard) old new (now, after, is) was = subst AreCounted (sym is) ((rises.1 old now heard).counts was)
  learns_count (Read ms) old new is was = subst AreCounted (sym is) ((rises.2 old ms).counts was)
  learns_count (Sent octets to answer) old new is was = subst AreCounted (sym is) was
  learns_count (Kept puts) old new is was = subst AreCounted (sym is) was
  learns_count (Printed text) old new is was = subst AreCounted (sym is) was
  learns_count (Warned text) old new is was = subst AreCounted (sym is) was

  chain_counts : (es : List Event) (old new : SiteState) → Chain SiteSteps old es new → AreCounted old → AreCounted new
  chain_counts [] old new same was = subst AreCounted (sym same) was
  chain_counts (e ∷ es) old new (mid, (wanted, given, gives, does, learns), chain) was =
      chain_counts es mid new chain (learns_count e given mid learns ((rises.0 old given wanted gives).counts was))

module _ {P C : Type 0} (sends : P → List ℕ → List ℕ → Sending → P → Type 0) (receives : P → ℕ → Receiving → P → Type 0) (tells : C → ℕ → C → Type 0)
    (happen : StepsHappen (site_acts sends receives tells)) (whole : EndsWhole GivesSite SiteHears SiteReads) (batches : BatchesEnd) (rises : StatusNeverFalls) (counted : EndsAreCounted) where
  pub heard_all : (site : SiteState) (begun kept : Database) (by left : Around P C) (last : Batched SiteState) → IsUnasked site → Runs (site_acts sends receives tells) (at_first by site begun) (amid left last kept)
      → Done ≡ site_status last.machine → AreHeardOut site last.machine
  heard_all site begun kept by left last unasked (es, at, chain, ends) zero =
      let steps = happen (at_first by site begun) at es chain in
      let inside = whole (fresh_batch site) at.machine last es (refl, refl) steps ends.0 in
      let ended = batches (fresh_batch site) at.machine last es (refl, refl) unasked steps ends.0 in
      let mid = chain_counts rises inside.0 site inside.1 inside.2 (counted.0 site unasked) in
      let all = counted.1 last.machine ((rises.0 inside.1 last.machine next.End inside.3).counts mid) in
      let seats : seats_of last.machine ≡ last.machine.ended =
      ap (λ (xs : List Seat). xs ++ (last.machine.waiting ++ last.machine.ended)) ended.0 ∙ ap (λ (xs : List Seat). xs ++ last.machine.ended) ended.1 in
      let each : All (IsCountedIn Done) last.machine.ended = subst (λ (st : Status). All (IsCountedIn st) last.machine.ended) (sym zero) (subst (λ (xs : List Seat). All (IsCountedIn (site_status last.machine)) xs) seats all) in (
        subst (All IsHeardOut) (sym seats) (λ k d low. heard_out (get_or last.machine.ended k d) (ended.2 k d low) (each k d low)),
        λ peer. ap (λ (xs : List Seat). count_by (is_of peer) xs) seats ∙ ended.3 peer,
      )
