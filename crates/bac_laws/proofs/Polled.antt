-- What a site that is polled sends: it reads, or asks one device who it is.
use Rattle.std.proofs.Common.{◌≡◌, ◌⊎◌, ◌∙◌, inl, inr, ℕ, Bool, true, false, List, [], ◌∷◌, ◌++◌, All, Option, None, Some, append-nil, append_assoc, ap, refl, sym, subst}
use Rattle.std.specs.List.{AllZip, filter}
use Rattle.std.proofs.lemmas.List.Elements.{All-cons, All-contains, All-filter, All-head, All-nil, All-push, All-tail}
use Rattle.bac_apdu.specs.declared.service.read_property.ReadProperty.{ReadProperty}
use Rattle.bac_apdu.specs.declared.service.read_range.ReadRange.{ReadRange}
use Rattle.bac_archive.specs.declared.row.DeviceRow.{DeviceRow}
use Rattle.bac_archive.specs.declared.row.LogRow.{LogRow}
use Rattle.bac_archive.specs.declared.standing.Standing.{Standing}
use Rattle.bac_batch.proofs.Inside.{loses_nothing}
use Rattle.bac_batch.specs.Batch.{Batched}
use Rattle.bac_batch.specs.Laws.{AreCutShort, HoldsNothing, IsCutShort, is_traffic, traffic_of}
use Rattle.bac_device_poll.specs.Poll.{asked_of_device, asks_log, question_at}
use Rattle.bac_device_poll.specs.State.{DeviceState}
use Rattle.bac_device_poll.specs.declared.question.Question.{Question}
use Rattle.bac_device_poll.specs.declared.question.Question.TheVariants.{Confirmed, Nothing, WhoIs}
use Rattle.bac_device_poll.specs.declared.stage.Stage.{Stage}
use Rattle.bac_device_poll.specs.declared.stage.Stage.TheVariants as stage
use Rattle.bac_device_poll.specs.declared.task.Polled.{Polled}
use Rattle.bac_device_poll.specs.declared.turn.DeviceEnd.{DeviceEnd}
use Rattle.bac_device_poller.specs.Poller.{AsksNext, PollerAs, TellsNext}
use Rattle.bac_device_poller.specs.Telling.{IsToldBy, LineAs}
use Rattle.bac_device_poller.specs.declared.doing.Doing.{Doing}
use Rattle.bac_device_poller.specs.declared.doing.Doing.TheVariants as doing
use Rattle.bac_drive.specs.Chain.{Chain}
use Rattle.bac_drive.specs.Event.{Event, Kept, Printed, Read, Sent, Waited, Warned}
use Rattle.bac_drive.specs.Happens.{Does}
use Rattle.bac_drive.specs.declared.machine.Next.{Next}
use Rattle.bac_drive.specs.declared.machine.Next.TheVariants as next
use Rattle.bac_laws.specs.Sends.{AsksItself, IsRead, Requests}
use Rattle.bac_link.specs.Path.{towards}
use Rattle.bac_link.specs.Requests.{next_invoke}
use Rattle.bac_link.specs.declared.request.Request.TheVariants as request
use Rattle.bac_plan.specs.Devices.{is_polled}
use Rattle.bac_plan.specs.Site.{IsSeatOf, IsSite, no_devices}
use Rattle.bac_plan.specs.declared.options.Options.{Options}
use Rattle.bac_poll_steps.specs.Asked.{question_at as log_question}
use Rattle.bac_poll_steps.specs.State.{PollState}
use Rattle.bac_poll_steps.specs.declared.stage.Stage.{Stage as LogStage}
use Rattle.bac_poll_steps.specs.declared.stage.Stage.TheVariants as at
use Rattle.bac_resume.specs.Rows.{LogTold}
use Rattle.bac_site_poller.proofs.Places.{at_place}
use Rattle.bac_site_poller.proofs.Seated.{Queues, Seated, Sits, sits_sent, told_seated, unasked_seated, wants_seated}
use Rattle.bac_site_poller.proofs.Sound.{IsSound, lent_sound}
use Rattle.bac_site_poller.proofs.Told.{told_site}
use Rattle.bac_site_poller.specs.Asked.{question_of}
use Rattle.bac_site_poller.specs.News.{news_line}
use Rattle.bac_site_poller.specs.Seat.{Wants, lent, sent_at}
use Rattle.bac_site_poller.specs.Site.{GivesFrom, GivesNews, GivesSite, GivesWaiting, SiteHears, SiteState}
use Rattle.bac_site_poller.specs.SiteLaws.{IsNew, IsUnasked, SiteBatchSteps, SiteReads, SiteSteps}
use Rattle.bac_site_poller.specs.declared.news.News.{News}
use Rattle.bac_site_poller.specs.declared.seat.Seat.{Seat}

-- such a datagram
abbrev pub Reads : List ℕ → Type 0
Reads octets = Requests IsRead octets ⊎ AsksItself octets

-- what an event sends is one
abbrev pub SendsRead : Event → Type 0
SendsRead (Sent octets to answer) = Reads octets
SendsRead (Waited within heard) = Unit {0}
SendsRead (Read ms) = Unit {0}
SendsRead (Kept puts) = Unit {0}
SendsRead (Printed text) = Unit {0}
SendsRead (Warned text) = Unit {0}

-- ---- what is asked

property_reads : (asked : ReadProperty) → IsRead (request.ReadProperty asked)
property_reads asked = inl (asked, refl)

range_reads : (asked : ReadRange) → IsRead (request.ReadRange asked)
range_reads asked = inr (asked, refl)

log_reads : (p : PollState) (s : LogStage) → IsRead (log_question p s)
log_reads p at.Joins = range_reads _
log_reads p at.Prior = range_reads _
log_reads p at.Ahead = range_reads _
log_reads p at.Again = range_reads _
log_reads p at.Each = range_reads _
log_reads p at.ByNumber = range_reads _
log_reads p (at.Oldest aim) = range_reads _
log_reads p (at.Counts aim) = property_reads _
log_reads p (at.UpTo aim) = range_reads _
log_reads p (at.Back aim) = range_reads _
log_reads p at.Revision = property_reads _
log_reads p at.Restart = property_reads _

-- a request that is asked reads
abbrev AsksRead : Question → Type 0
AsksRead (Confirmed request) = IsRead request
AsksRead WhoIs = Unit {0}
AsksRead Nothing = Unit {0}

polled_reads : (polled : Option Polled) → AsksRead (asks_log polled)
polled_reads None = tt
polled_reads (Some q) = log_reads q.poll q.poll.stage

device_reads : (p : DeviceState) (s : Stage) → AsksRead (question_at p s)
device_reads p stage.Instance = property_reads _
device_reads p stage.IAm = tt
device_reads p stage.Name = property_reads _
device_reads p stage.Restart = property_reads _
device_reads p stage.Revision = property_reads _
device_reads p stage.Date = property_reads _
device_reads p (stage.Time date) = property_reads _
device_reads p stage.Objects = property_reads _
device_reads p stage.Count = property_reads _
device_reads p (stage.Element index count) = property_reads _
device_reads p (stage.LogName log) = property_reads _
device_reads p (stage.Source log) = property_reads _
device_reads p (stage.Units log) = property_reads _
device_reads p (stage.Description log) = property_reads _
device_reads p stage.Log = polled_reads p.polled
device_reads p stage.Between = tt
device_reads p stage.Ended = tt

-- ---- what a site sends

asks_reads : (k : Question) (p q : PollerAs) (octets to : List ℕ) → AsksRead k → AsksNext k p (next.Send octets to) q → Reads octets
asks_reads (Confirmed request) p q octets to reads (is, peer, same) =
    inl (towards p.transactions.route, next_invoke p.transactions.invoke, request, reads, is)
asks_reads WhoIs p q octets to reads (is, peer, same) = inr (p.way.route, is)
asks_reads Nothing p q octets to reads g = absurd g

no_read : (octets to : List ℕ) → next.Send octets to ≡ next.Read → ⊥
no_read octets to is = absurd (let e : next.Send octets to ≡ next.Read = is in cc)

no_text : (good : Bool) (text octets to : List ℕ) → IsToldBy good text (next.Send octets to) → ⊥
no_text true text octets to told = told
no_text false text octets to told = told

no_line : (lines : List LineAs) (end : Option DeviceEnd) (p q : PollerAs) (octets to : List ℕ) → TellsNext lines end p (next.Send octets to) q → ⊥
no_line (line ∷ lines) end p q octets to g = no_text line.good line.text octets to g.0
no_line [] end p q octets to g = no_read octets to g.0

wants_reads : (events : List Event) (what : Doing) (p q : PollerAs) (octets to : List ℕ) → All SendsRead events → IsSound events p what
    → Wants what p (next.Send octets to) q → Reads octets
wants_reads events doing.Asks p q octets to all sound g = asks_reads (asked_of_device p.poll) p q octets to (device_reads p.poll p.poll.stage) g
wants_reads events (doing.Resends datagram) p q octets to all (((answer, there), opened), is) g =
    subst Reads (sym (g.0 ∙ is)) (All-contains SendsRead events (Sent (question_of p) p.way.peer answer) all there)
wants_reads events doing.Waits p q octets to all sound g = absurd (no_read octets to g.0)
wants_reads events (doing.Hears came) p q octets to all sound g = absurd g
wants_reads events doing.Loses p q octets to all sound g = absurd g
wants_reads events (doing.Tells end) p q octets to all sound g = absurd (no_line p.rows.lines end p q octets to g)
wants_reads events (doing.Ended why) p q octets to all sound g = absurd (no_read octets to g.0)

module _ (start : List Seat) (events : List Event) (octets to : List ℕ) (all : All SendsRead events) where
  from_reads : (old : SiteState) (s : Seat) (new : SiteState) → Sits start events s → GivesFrom old s (next.Send octets to) new → Reads octets
  from_reads old s new sits (p, gives, is) =
      wants_reads events s.poller.doing (lent old.ids s.poller) p octets to all (lent_sound old.ids events s.poller s.poller.doing sits.sound) gives

  waiting_reads : (stale : Bool) (old new : SiteState) → Seated start events old → GivesWaiting stale old (next.Send octets to) new → Reads octets
  waiting_reads true old new seated (is, same) = absurd (no_read octets to is)
  waiting_reads false old new seated (inl (place, s, there, asked, gives)) =
      from_reads _ (sent_at old.time s) new (sits_sent start events old.time s (at_place (Queues start) old.waiting place s seated.waiting there)) gives
  waiting_reads false old new seated (inr (none, rests, same)) = absurd rests

  news_reads : (l : List News) (old new : SiteState) → Seated start events old → GivesNews l old (next.Send octets to) new → Reads octets
  news_reads (news ∷ others) old new seated (told, is) = absurd (no_text false (news_line news) octets to told)
  news_reads [] old new seated (inl (place, s, there, not, gives)) =
      from_reads _ s new (at_place (Sits start events) old.active place s seated.active there) gives
  news_reads [] old new seated (inr (none, gives)) = waiting_reads old.is_stale old new seated gives

event_reads : (start : List Seat) (events : List Event) (old new : SiteState) (wanted : Next) (e : Event) → All SendsRead events → Seated start events old
    → GivesSite old wanted new → Does wanted e → SendsRead e
event_reads start events old new (next.Send octets to) (Sent sent peer answer) all seated gives does =
    subst Reads (sym does.0) (news_reads start events octets to all old.news old new seated gives)
event_reads start events old new (next.Wait most) (Sent sent peer answer) all seated gives does = absurd does
event_reads start events old new next.Read (Sent sent peer answer) all seated gives does = absurd does
event_reads start events old new (next.Keep puts) (Sent sent peer answer) all seated gives does = absurd does
event_reads start events old new (next.Print text) (Sent sent peer answer) all seated gives does = absurd does
event_reads start events old new (next.Warn text) (Sent sent peer answer) all seated gives does = absurd does
event_reads start events old new next.End (Sent sent peer answer) all seated gives does = absurd does
event_reads start events old new wanted (Waited within heard) all seated gives does = tt
event_reads start events old new wanted (Read ms) all seated gives does = tt
event_reads start events old new wanted (Kept puts) all seated gives does = tt
event_reads start events old new wanted (Printed text) all seated gives does = tt
event_reads start events old new wanted (Warned text) all seated gives does = tt

chain_reads : (start : List Seat) (front es : List Event) (old new : SiteState) → All SendsRead front → Seated start front old → Chain SiteSteps old es new
    → All SendsRead (front ++ es)
chain_reads start front [] old new all seated same = subst (All SendsRead) (sym (append-nil front)) all
chain_reads start front (e ∷ es) old new all seated (mid, (wanted, half, gives, does, is), more) =
    let one = told_seated start front e half mid (wants_seated start front e old wanted half seated gives does) (told_site half mid e is) in
    let now = All-push SendsRead front e all (event_reads start front old half wanted e all seated gives does) in
    subst (All SendsRead) (append_assoc front (e ∷ []) es) (chain_reads start (front ++ e ∷ []) es mid new now one more)

-- ---- the same of its batches

cut_reads : (e f : Event) → IsCutShort e f → SendsRead f → SendsRead e
cut_reads (Sent octets to answer) (Sent sent peer got) is reads = subst SendsRead (sym is) reads
cut_reads (Sent octets to answer) (Waited within heard) is reads = subst SendsRead (sym is) reads
cut_reads (Sent octets to answer) (Read ms) is reads = subst SendsRead (sym is) reads
cut_reads (Sent octets to answer) (Kept puts) is reads = subst SendsRead (sym is) reads
cut_reads (Sent octets to answer) (Printed text) is reads = subst SendsRead (sym is) reads
cut_reads (Sent octets to answer) (Warned text) is reads = subst SendsRead (sym is) reads
cut_reads (Waited within heard) f is reads = tt
cut_reads (Read ms) f is reads = tt
cut_reads (Kept puts) f is reads = tt
cut_reads (Printed text) f is reads = tt
cut_reads (Warned text) f is reads = tt

all_cut : (es fs : List Event) → AreCutShort es fs → All SendsRead fs → All SendsRead es
all_cut [] [] cut all = All-nil SendsRead
all_cut (e ∷ es) (f ∷ fs) (one, more) all =
    All-cons SendsRead e es (cut_reads e f one (All-head SendsRead f fs all)) (all_cut es fs more (All-tail SendsRead f fs all))
all_cut [] (f ∷ fs) cut all = absurd cut
all_cut (e ∷ es) [] cut all = absurd cut

-- nothing else than traffic sends
of_traffic : (es : List Event) → All SendsRead (traffic_of es) → All SendsRead es
of_traffic [] all = All-nil SendsRead
of_traffic (Sent octets to answer ∷ es) all =
    let e : Event = Sent octets to answer in
    All-cons SendsRead e es (All-head SendsRead e (traffic_of es) all) (of_traffic es (All-tail SendsRead e (traffic_of es) all))
of_traffic (Waited within heard ∷ es) all =
    let e : Event = Waited within heard in
    All-cons SendsRead e es tt (of_traffic es (All-tail SendsRead e (traffic_of es) all))
of_traffic (Read ms ∷ es) all =
    let e : Event = Read ms in
    All-cons SendsRead e es tt (of_traffic es (All-tail SendsRead e (traffic_of es) all))
of_traffic (Kept puts ∷ es) all = All-cons SendsRead (Kept puts) es tt (of_traffic es all)
of_traffic (Printed text ∷ es) all = All-cons SendsRead (Printed text) es tt (of_traffic es all)
of_traffic (Warned text ∷ es) all = All-cons SendsRead (Warned text) es tt (of_traffic es all)

pub batches_read : (old new : Batched SiteState) (es : List Event) → HoldsNothing old → IsUnasked old.machine → Chain SiteBatchSteps old es new
    → All SendsRead es
batches_read old new es nothing unasked chain =
    let (inner, last, inside) = loses_nothing GivesSite SiteHears SiteReads old new es nothing chain in
    let reads = chain_reads old.machine.waiting [] inner old.machine last (All-nil SendsRead) (unasked_seated old.machine unasked) inside.run in
    of_traffic es (all_cut (traffic_of es) (traffic_of inner) inside.traffic (All-filter is_traffic SendsRead inner reads))

-- ---- the site of an archive

seats_new : (options : Options) (told : List LogTold) (logs : List LogRow) (ds : List DeviceRow) (seats : List Seat)
    → AllZip (IsSeatOf options told logs) ds seats → All IsNew seats
seats_new options told logs [] [] zip = All-nil IsNew
seats_new options told logs (d ∷ ds) (seat ∷ seats) ((p, poller, is), more) =
    let new : IsNew (record { poller = p; due = 0; sent = 0; is_repeated = false; stray = None }) =
    (ap (λ (x : PollerAs). x.doing) poller.is, ap (λ (x : PollerAs). x.transactions.pending) poller.is, refl) in
    All-cons IsNew seat seats (subst IsNew (sym is) new) (seats_new options told logs ds seats more)
seats_new options told logs [] (seat ∷ seats) zip = absurd zip
seats_new options told logs (d ∷ ds) [] zip = absurd zip

pub site_unasked : (options : Options) (s : Standing) (site : SiteState) → IsSite options s site → IsUnasked site
site_unasked options s site it =
    let new : IsUnasked (record (no_devices options s.next_log) { waiting = it.seats }) =
    (refl, seats_new options it.told it.logs (filter is_polled it.devices) it.seats it.seats_are, refl) in
    subst IsUnasked (sym it.is) new
