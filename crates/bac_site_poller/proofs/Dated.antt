-- Open questions were sent as the clock told what stands at their devices.
use Rattle.std.proofs.Common.{◌≡◌, ◌+◌, ◌∙◌, ◌++◌, inl, inr, ℕ, Bool, true, false, if◌then◌else◌, nat_le, nat_lt, max}
use Rattle.std.proofs.Common.{is_some, List, [], ◌∷◌, All, map, remove, get_or, Option, Some, None, Ok, Err, refl, sym}
use Rattle.std.proofs.Common.{ap, subst, append_assoc, append-nil}
use Rattle.std.proofs.lemmas.Bool.{and_parts}
use Rattle.std.proofs.lemmas.List.Elements.{All-map, All-nil, All-push, All-weaker}
use Rattle.bac_archive.specs.declared.row.Put.{Put}
use Rattle.bac_drive.specs.Chain.{Chain}
use Rattle.bac_drive.specs.Event.{Event, Kept, Printed, Read, Sent, Waited, Warned}
use Rattle.bac_drive.specs.Happens.{Does}
use Rattle.bac_drive.specs.declared.machine.Next.{Next}
use Rattle.bac_drive.specs.declared.machine.Next.TheVariants as next
use Rattle.bac_link.specs.Transactions.{begun_with}
use Rattle.bac_link.specs.declared.transactions.Pending.{Pending}
use Rattle.bac_ports.specs.Port.{Receiving, Sending}
use Rattle.bac_wire.specs.Stamp.{CivilTime}
use Rattle.bac_device_poll.specs.Logs.{after_end}
use Rattle.bac_device_poll.specs.Poll.{asked_of_device}
use Rattle.bac_device_poll.specs.Turns.{Turned}
use Rattle.bac_device_poll.specs.Way.{who_is_octets}
use Rattle.bac_device_poll.specs.declared.question.Question.{Question}
use Rattle.bac_device_poll.specs.declared.question.Question.TheVariants.{Confirmed, Nothing, WhoIs}
use Rattle.bac_device_poll.specs.declared.turn.DeviceEnd.{DeviceEnd}
use Rattle.bac_device_poller.specs.Entries.{RowsAs}
use Rattle.bac_device_poller.specs.Poller.{AsksNext, PollerAs, Settles, TellsNext, doing_behind, doing_with, end_at}
use Rattle.bac_device_poller.specs.Poller.{given_up, hearing, is_answer, is_none_told, is_waiting, lost_of, missed}
use Rattle.bac_device_poller.specs.Poller.{rows_with}
use Rattle.bac_device_poller.specs.Poller.{seeks, sought_again, stepped, without_answer}
use Rattle.bac_device_poller.specs.Telling.{LineAs}
use Rattle.bac_device_poller.specs.declared.doing.Doing.{Doing}
use Rattle.bac_device_poller.specs.declared.doing.Doing.TheVariants as doing
use Rattle.bac_device_poller.specs.declared.ids.Ids.{Ids}
use Rattle.bac_site_poller.specs.Asked.{octets_of, question_of}
use Rattle.bac_site_poller.specs.Seat.{Wants, is_due, lent, seat_heard, seat_read, sent_at}
use Rattle.bac_site_poller.specs.Site.{GivesFrom, GivesNews, GivesWaiting, SiteState, given, noted}
use Rattle.bac_site_poller.specs.Site.{is_asked_at, put_by, site_heard, site_read}
use Rattle.bac_site_poller.specs.SiteLaws.{SendsAreDated, SiteSteps, WasSentAt, clock_behind, is_open, is_out}
use Rattle.bac_site_poller.specs.declared.news.News.{News}
use Rattle.bac_site_poller.specs.declared.seat.Seat.{Seat}
use Rattle.bac_site_poller.proofs.Places.{at_place, but_one}
use Rattle.bac_site_poller.proofs.Seated.{Queues, Seated, Sits, told_seated, unasked_seated, wants_seated}
use Rattle.bac_site_poller.proofs.SeatedRun.{not_open, run as seated_run}
use Rattle.bac_site_poller.proofs.Sound.{IsClosed, IsSound, behind_send}
use Rattle.bac_site_poller.proofs.Strays.{all_heeded}
use Rattle.bac_site_poller.proofs.Told.{ToldSite, told_site}

-- ---- the clock

clock_later : (time : ℕ) (events more : List Event) → clock_behind time (events ++ more) ≡ clock_behind (clock_behind time events) more
clock_later time [] more = refl
clock_later time (Sent octets to answer ∷ events) more = clock_later time events more
clock_later time (Waited within heard ∷ events) more = clock_later time events more
clock_later time (Read ms ∷ events) more = clock_later (max time ms) events more
clock_later time (Kept puts ∷ events) more = clock_later time events more
clock_later time (Printed text ∷ events) more = clock_later time events more
clock_later time (Warned text ∷ events) more = clock_later time events more

-- ---- one device

-- whether its next question is to be sent
abbrev is_asking : Doing → Bool
is_asking doing.Asks = true
is_asking doing.Waits = false
is_asking (doing.Resends datagram) = false
is_asking (doing.Hears came) = false
is_asking doing.Loses = false
is_asking (doing.Tells end) = false
is_asking (doing.Ended why) = false

-- a question that is waited for, or sent again, was sent so
abbrev IsDatedAt : (time : ℕ) → List Event → (sent : ℕ) → PollerAs → Doing → Type 0
IsDatedAt time events sent p doing.Asks = Unit {0}
IsDatedAt time events sent p doing.Waits = WasSentAt time events sent p
IsDatedAt time events sent p (doing.Resends datagram) = WasSentAt time events sent p
IsDatedAt time events sent p (doing.Hears came) = Unit {0}
IsDatedAt time events sent p doing.Loses = Unit {0}
IsDatedAt time events sent p (doing.Tells end) = Unit {0}
IsDatedAt time events sent p (doing.Ended why) = Unit {0}

-- by what it is at
abbrev IsDated : (time : ℕ) → List Event → (sent : ℕ) → PollerAs → Type 0
IsDated time events sent p = IsDatedAt time events sent p p.doing

-- one that was asked
abbrev Dated : (time : ℕ) → List Event → (sent : ℕ) → PollerAs → Type 0
Dated time events sent p = IsDated time events sent p × (is_asking p.doing ≡ false)

-- its seat
abbrev DatedSeat : (time : ℕ) → List Event → Seat → Type 0
DatedSeat time events s = Dated time events s.sent s.poller

-- all that were asked
record DatedSite (time : ℕ) (events : List Event) (s : SiteState) : Type 0 where
  pub clock : s.time ≡ clock_behind time events
  pub active : All (DatedSeat time events) s.active

-- ---- behind more events

sent_later : (time : ℕ) (events more : List Event) (sent : ℕ) (p : PollerAs) → WasSentAt time events sent p → WasSentAt time (events ++ more) sent p
sent_later time events more sent p (front, behind, answer, is, at) = (
  front,
  behind ++ more,
  answer,
  ap (λ (es : List Event). es ++ more) is ∙ append_assoc front (Sent (question_of p) p.way.peer answer ∷ behind) more,
  at,
)

later_at : (time : ℕ) (events more : List Event) (sent : ℕ) (p : PollerAs) (what : Doing) → IsDatedAt time events sent p what → IsDatedAt time (events ++ more) sent p what
later_at time events more sent p doing.Asks dated = tt
later_at time events more sent p doing.Waits dated = sent_later time events more sent p dated
later_at time events more sent p (doing.Resends datagram) dated = sent_later time events more sent p dated
later_at time events more sent p (doing.Hears came) dated = tt
later_at time events more sent p doing.Loses dated = tt
later_at time events more sent p (doing.Tells end) dated = tt
later_at time events more sent p (doing.Ended why) dated = tt

seat_later : (time : ℕ) (events more : List Event) (s : Seat) → DatedSeat time events s → DatedSeat time (events ++ more) s
seat_later time events more s (dated, asked) = (later_at time events more s.sent s.poller s.poller.doing dated, asked)

all_later : (time : ℕ) (events more : List Event) (seats : List Seat) → All (DatedSeat time events) seats → All (DatedSeat time (events ++ more)) seats
all_later time events more seats all = All-weaker (DatedSeat time events) (DatedSeat time (events ++ more)) (seat_later time events more) seats all

-- where they don't tell the time
site_later : (time : ℕ) (events more : List Event) (s : SiteState) → clock_behind (clock_behind time events) more ≡ clock_behind time events → DatedSite time events s → DatedSite time (events ++ more) s
site_later time events more s still dated = record {
  clock = dated.clock ∙ sym (clock_later time events more ∙ still);
  active = all_later time events more s.active dated.active;
}

site_send : (time : ℕ) (events : List Event) (e : Event) (s : SiteState) → DatedSite time events s → DatedSite time (behind_send events e) s
site_send time events (Sent octets to answer) s dated = site_later time events (Sent octets to answer ∷ []) s refl dated
site_send time events (Waited most heard) s dated = dated
site_send time events (Read ms) s dated = dated
site_send time events (Kept puts) s dated = dated
site_send time events (Printed text) s dated = dated
site_send time events (Warned text) s dated = dated

send_at : (time : ℕ) (events : List Event) (e : Event) (sent : ℕ) (p : PollerAs) (what : Doing) → IsDatedAt time events sent p what → IsDatedAt time (behind_send events e) sent p what
send_at time events (Sent octets to answer) sent p what dated = later_at time events (Sent octets to answer ∷ []) sent p what dated
send_at time events (Waited most heard) sent p what dated = dated
send_at time events (Read ms) sent p what dated = dated
send_at time events (Kept puts) sent p what dated = dated
send_at time events (Printed text) sent p what dated = dated
send_at time events (Warned text) sent p what dated = dated

-- ---- what it wants

-- ids that are free change nothing of it
lent_at : (ids : Ids) (time : ℕ) (events : List Event) (sent : ℕ) (p : PollerAs) (what : Doing) → IsDatedAt time events sent p what → IsDatedAt time events sent (lent ids p) what
lent_at ids time events sent p doing.Asks dated = tt
lent_at ids time events sent p doing.Waits dated = dated
lent_at ids time events sent p (doing.Resends datagram) dated = dated
lent_at ids time events sent p (doing.Hears came) dated = tt
lent_at ids time events sent p doing.Loses dated = tt
lent_at ids time events sent p (doing.Tells end) dated = tt
lent_at ids time events sent p (doing.Ended why) dated = tt

behind_at : (time : ℕ) (events : List Event) (sent : ℕ) (q : PollerAs) (end : Option DeviceEnd) → IsDatedAt time events sent q (doing_behind end)
behind_at time events sent q None = tt
behind_at time events sent q (Some why) = tt

with_at : (time : ℕ) (events : List Event) (sent : ℕ) (q : PollerAs) (end : Option DeviceEnd) (b : Bool) → IsDatedAt time events sent q (doing_with end b)
with_at time events sent q end true = behind_at time events sent q end
with_at time events sent q end false = tt

settled_dated : (time : ℕ) (events : List Event) (sent : ℕ) (t : Turned) (p q : PollerAs) (puts : List Put) → Settles t p puts q → IsDated time events sent q
settled_dated time events sent t p q puts (mid, takes, ended) =
    let D : Doing → Type 0 = λ d. IsDatedAt time events sent q d in
    let u : Turned = stepped t.step t.device in
    let r : RowsAs = rows_with t.entries u (is_some t.device.polled) mid in
    subst D (sym (ap (λ (x : PollerAs). x.doing) ended.1)) (with_at time events sent q (end_at u.step) (is_none_told r.lines))

told_dated : (time : ℕ) (events : List Event) (sent : ℕ) (lines : List LineAs) (end : Option DeviceEnd) (p q : PollerAs) (wanted : Next) → TellsNext lines end p wanted q → IsDated time events sent q
told_dated time events sent (line ∷ lines) end p q wanted g =
    let D : Doing → Type 0 = λ d. IsDatedAt time events sent q d in
    subst D (sym (ap (λ (x : PollerAs). x.doing) g.1)) (with_at time events sent q end (is_none_told lines))
told_dated time events sent [] end p q wanted g =
    let D : Doing → Type 0 = λ d. IsDatedAt time events sent q d in
    subst D (sym (ap (λ (x : PollerAs). x.doing) g.1)) (behind_at time events sent q end)

same_dated : (time : ℕ) (events : List Event) (e : Event) (sent : ℕ) (what : Doing) (p q : PollerAs) → p.doing ≡ what → IsDatedAt time events sent p what → q ≡ p → IsDated time (behind_send events e) sent q
same_dated time events e sent what p q was dated is =
    let P : PollerAs → Type 0 = λ x. IsDated time (behind_send events e) sent x in
    let D : Doing → Type 0 = λ d. IsDatedAt time (behind_send events e) sent p d in
    subst P (sym is) (subst D (sym was) (send_at time events e sent p what dated))

-- it is sent, as the clock tells then
now_sent : (time : ℕ) (events : List Event) (sent : ℕ) (q : PollerAs) (o t : List ℕ) (answer : Sending) → o ≡ question_of q → t ≡ q.way.peer → sent ≡ clock_behind time events →
    WasSentAt time (events ++ Sent o t answer ∷ []) sent q
now_sent time events sent q o t answer is at told =
    let e : Sent o t answer ≡ Sent (question_of q) q.way.peer answer =
    ap (λ (x : List ℕ). Sent x t answer) is ∙ ap (λ (x : List ℕ). Sent (question_of q) x answer) at in
    (events, [], answer, ap (λ (x : Event). events ++ x ∷ []) e, told)

asked_dated : (time : ℕ) (events : List Event) (sent : ℕ) (k : Question) (p q : PollerAs) (wanted : Next) (e : Event) → asked_of_device p.poll ≡ k → sent ≡ clock_behind time events → AsksNext k p wanted q → Does wanted e →
    IsDated time (behind_send events e) sent q
asked_dated time events sent (Confirmed request) p q (next.Send octets to) (Sent o t a) is told g does =
    let new : PollerAs = record p { transactions = begun_with request p.transactions; doing = doing.Waits } in
    let F : Question → List ℕ = λ x. octets_of x new.transactions.route new.transactions.invoke new.way.route in
    let asked : question_of new ≡ F (Confirmed request) = ap F is in
    let P : PollerAs → Type 0 = λ x. IsDated time (events ++ Sent o t a ∷ []) sent x in
    subst P (sym g.2) (now_sent time events sent new o t a (does.0 ∙ g.0 ∙ sym asked) (does.1 ∙ g.1) told)
asked_dated time events sent (Confirmed request) p q (next.Send octets to) e is told g does = absurd does
asked_dated time events sent (Confirmed request) p q wanted e is told g does = absurd g
asked_dated time events sent WhoIs p q (next.Send octets to) (Sent o t a) is told g does =
    let new : PollerAs = record p { sought = 0; doing = doing.Waits } in
    let F : Question → List ℕ = λ x. octets_of x new.transactions.route new.transactions.invoke new.way.route in
    let asked : question_of new ≡ F WhoIs = ap F is in
    let P : PollerAs → Type 0 = λ x. IsDated time (events ++ Sent o t a ∷ []) sent x in
    subst P (sym g.2) (now_sent time events sent new o t a (does.0 ∙ g.0 ∙ sym asked) (does.1 ∙ g.1) told)
asked_dated time events sent WhoIs p q (next.Send octets to) e is told g does = absurd does
asked_dated time events sent WhoIs p q wanted e is told g does = absurd g
asked_dated time events sent Nothing p q (next.Keep puts) e is told g does = settled_dated time (behind_send events e) sent (after_end p.poll) p q puts.items g
asked_dated time events sent Nothing p q wanted e is told g does = absurd g

wants_dated : (time : ℕ) (events : List Event) (sent : ℕ) (what : Doing) (p q : PollerAs) (wanted : Next) (e : Event) → p.doing ≡ what → is_asking what ≡ false → IsDatedAt time events sent p what → Wants what p wanted q → Does wanted e →
    IsDated time (behind_send events e) sent q
wants_dated time events sent doing.Asks p q wanted e was not dated g does = absurd (let f : true ≡ false = not in cc)
wants_dated time events sent (doing.Resends datagram) p q (next.Send octets to) (Sent o t a) was not dated g does =
    let P : PollerAs → Type 0 = λ x. IsDated time (events ++ Sent o t a ∷ []) sent x in
    subst P (sym g.2) (sent_later time events (Sent o t a ∷ []) sent p dated)
wants_dated time events sent (doing.Resends datagram) p q (next.Send octets to) e was not dated g does = absurd does
wants_dated time events sent (doing.Resends datagram) p q wanted e was not dated g does = absurd g
wants_dated time events sent doing.Waits p q wanted e was not dated g does = same_dated time events e sent doing.Waits p q was dated g.1
wants_dated time events sent (doing.Hears came) p q (next.Keep puts) e was not dated (t, comes, settles) does = settled_dated time (behind_send events e) sent t p q puts.items settles
wants_dated time events sent (doing.Hears came) p q wanted e was not dated g does = absurd g
wants_dated time events sent doing.Loses p q (next.Keep puts) e was not dated g does = settled_dated time (behind_send events e) sent (lost_of p) p q puts.items g
wants_dated time events sent doing.Loses p q wanted e was not dated g does = absurd g
wants_dated time events sent (doing.Tells end) p q wanted e was not dated g does = told_dated time (behind_send events e) sent p.rows.lines end p q wanted g
wants_dated time events sent (doing.Ended why) p q wanted e was not dated g does = same_dated time events e sent (doing.Ended why) p q was tt g.1

-- ---- where it goes

seat_more : (time : ℕ) (events : List Event) (s : SiteState) (seat : Seat) → DatedSite time events s → DatedSeat time events seat → DatedSite time events (record s { active = s.active ++ seat ∷ [] })
seat_more time events s seat dated one = record { clock = dated.clock; active = All-push (DatedSeat time events) s.active seat dated.active one }

put_dated : (time : ℕ) (events : List Event) (what : Doing) (s : SiteState) (seat : Seat) → seat.poller.doing ≡ what → DatedSite time events s → IsDated time events seat.sent seat.poller → DatedSite time events (put_by what s seat)
put_dated time events doing.Asks s seat was dated one = record { clock = dated.clock; active = dated.active }
put_dated time events doing.Waits s seat was dated one = seat_more time events s (record seat { due = _ }) dated (one, ap is_asking was)
put_dated time events (doing.Resends datagram) s seat was dated one = seat_more time events s seat dated (one, ap is_asking was)
put_dated time events (doing.Hears came) s seat was dated one = seat_more time events s seat dated (one, ap is_asking was)
put_dated time events doing.Loses s seat was dated one = seat_more time events s seat dated (one, ap is_asking was)
put_dated time events (doing.Tells end) s seat was dated one = seat_more time events s seat dated (one, ap is_asking was)
put_dated time events (doing.Ended why) s seat was dated one = record { clock = dated.clock; active = dated.active }

from_dated : (time : ℕ) (events : List Event) (e : Event) (old : SiteState) (s : Seat) (wanted : Next) (new : SiteState) → DatedSite time events old →
    ((p : PollerAs) → Wants s.poller.doing (lent old.ids s.poller) wanted p → IsDated time (behind_send events e) s.sent p) → GivesFrom old s wanted new → DatedSite time (behind_send events e) new
from_dated time events e old s wanted new dated one (p, gives, is) =
    let P : SiteState → Type 0 = λ x. DatedSite time (behind_send events e) x in
    let on = site_send time events e old dated in
    let before : DatedSite time (behind_send events e) (record old { ids = p.rows.ids }) = record { clock = on.clock; active = on.active } in
    subst P (sym is) (put_dated time (behind_send events e) p.doing (record old { ids = p.rows.ids }) (record s { poller = p }) refl before (one p gives))

waiting_dated : (time : ℕ) (start : List Seat) (events : List Event) (e : Event) (stale : Bool) (old : SiteState) (wanted : Next) (new : SiteState) → Seated start events old → DatedSite time events old → GivesWaiting stale old wanted new → Does wanted e →
    DatedSite time (behind_send events e) new
waiting_dated time start events e true old wanted new seated dated (is_read, same) does =
    let P : SiteState → Type 0 = λ x. DatedSite time (behind_send events e) x in subst P (sym same) (site_send time events e old dated)
waiting_dated time start events e false old wanted new seated dated (inl (place, s, there, asked, gives)) does =
    let queues = at_place (Queues start) old.waiting place s seated.waiting there in
    from_dated time events e (record old { waiting = remove old.waiting place }) (sent_at old.time s) wanted new (record { clock = dated.clock; active = dated.active })
    (λ p wants.
    let W : Doing → Type 0 = λ d. Wants d (lent old.ids s.poller) wanted p in
    asked_dated time events old.time (asked_of_device s.poller.poll) (lent old.ids s.poller) p wanted e refl dated.clock (subst W queues.asks wants) does)
    gives
waiting_dated time start events e false old wanted new seated dated (inr (none, rests, same)) does =
    let P : SiteState → Type 0 = λ x. DatedSite time (behind_send events e) x in subst P (sym same) (site_send time events e old dated)

news_dated : (time : ℕ) (start : List Seat) (events : List Event) (e : Event) (l : List News) (old : SiteState) (wanted : Next) (new : SiteState) → Seated start events old → DatedSite time events old → GivesNews l old wanted new → Does wanted e →
    DatedSite time (behind_send events e) new
news_dated time start events e (news ∷ others) old wanted new seated dated (told, is) does =
    let P : SiteState → Type 0 = λ x. DatedSite time (behind_send events e) x in
    let on = site_send time events e old dated in
    subst P (sym is) (record { clock = on.clock; active = on.active })
news_dated time start events e [] old wanted new seated dated (inl (place, s, there, not, gives)) does =
    let this = at_place (DatedSeat time events) old.active place s dated.active there in
    let what = s.poller.doing in
    from_dated time events e (noted (record old { active = remove old.active place }) s) s wanted new
    (record { clock = dated.clock; active = but_one (DatedSeat time events) old.active place dated.active })
    (λ p wants. wants_dated time events s.sent what (lent old.ids s.poller) p wanted e refl this.1 (lent_at old.ids time events s.sent s.poller what this.0) wants does)
    gives
news_dated time start events e [] old wanted new seated dated (inr (none, gives)) does = waiting_dated time start events e old.is_stale old wanted new seated dated gives does

-- ---- what it hears

heard_dated : (time : ℕ) (events : List Event) (from datagram : List ℕ) (now : CivilTime) (s : Seat) → DatedSeat time events s → DatedSeat time events (seat_heard from datagram now s)
heard_dated time events from datagram now s dated = by (is_answer s.poller from datagram)
  where
    taken : PollerAs
    taken = hearing from datagram now s.poller

    by : (b : Bool) → Dated time events s.sent (if b then taken else s.poller)
    by true = (tt, refl)
    by false = dated

site_heard_dated : (time : ℕ) (events : List Event) (now : CivilTime) (heard : Receiving) (s : SiteState) → DatedSite time events s → DatedSite time events (site_heard now heard s)
site_heard_dated time events now (Err fault) s dated = record { clock = dated.clock; active = dated.active }
site_heard_dated time events now (Ok heard) s dated = record { clock = dated.clock; active = by heard.datagram }
  where
    by : (o : Option (List ℕ)) → All (DatedSeat time events) (given (is_asked_at s heard.from) heard.from o now s.active)
    by None = dated.active
    by (Some datagram) =
        all_heeded (DatedSeat time events) heard.from datagram (λ x one. one) (is_asked_at s heard.from) (map (seat_heard heard.from datagram now) s.active)
        (All-map (DatedSeat time events) (seat_heard heard.from datagram now) s.active
        (All-weaker (DatedSeat time events) (λ x. DatedSeat time events (seat_heard heard.from datagram now x)) (heard_dated time events heard.from datagram now) s.active dated.active))

-- ---- what time makes of it

waiting_sent : (time : ℕ) (events : List Event) (sent : ℕ) (p : PollerAs) (what : Doing) → IsDatedAt time events sent p what → is_waiting what ≡ true → WasSentAt time events sent p
waiting_sent time events sent p doing.Waits dated waits = dated
waiting_sent time events sent p doing.Asks dated waits = absurd (let e : false ≡ true = waits in cc)
waiting_sent time events sent p (doing.Resends datagram) dated waits = dated
waiting_sent time events sent p (doing.Hears came) dated waits = absurd (let e : false ≡ true = waits in cc)
waiting_sent time events sent p doing.Loses dated waits = absurd (let e : false ≡ true = waits in cc)
waiting_sent time events sent p (doing.Tells end) dated waits = absurd (let e : false ≡ true = waits in cc)
waiting_sent time events sent p (doing.Ended why) dated waits = absurd (let e : false ≡ true = waits in cc)

of_both : (time : ℕ) (events : List Event) (sent : ℕ) (b : Bool) (p q : PollerAs) → Dated time events sent p → Dated time events sent q → Dated time events sent (if b then p else q)
of_both time events sent true p q one other = one
of_both time events sent false p q one other = other

without_dated : (time : ℕ) (events : List Event) (sent : ℕ) (p : PollerAs) (o : Option Pending) → WasSentAt time events sent p → Dated time events sent (without_answer p o)
without_dated time events sent p None was = (tt, refl)
without_dated time events sent p (Some request) was =
    of_both time events sent (nat_le p.transactions.retries request.repeats) (given_up p)
    (record p {
      transactions = record p.transactions { pending = Some (record request { repeats = request.repeats + 1 }) };
      doing = doing.Resends request.request;
    })
    (tt, refl) (was, refl)

sought_dated : (time : ℕ) (events : List Event) (sent : ℕ) (p : PollerAs) → WasSentAt time events sent p → Dated time events sent (sought_again p)
sought_dated time events sent p was =
    of_both time events sent (nat_lt p.sought p.retries) (record p { sought = p.sought + 1; doing = doing.Resends (who_is_octets p.way.route) }) (given_up p) (was, refl) (tt, refl)

missed_dated : (time : ℕ) (events : List Event) (sent : ℕ) (p : PollerAs) → WasSentAt time events sent p → Dated time events sent (missed p)
missed_dated time events sent p was =
    let last = without_answer p p.transactions.pending in
    of_both time events sent (seeks p) (sought_again p) (if p.poll.doubt then given_up p else last) (sought_dated time events sent p was)
    (of_both time events sent p.poll.doubt (given_up p) last (tt, refl) (without_dated time events sent p p.transactions.pending was))

read_dated : (time : ℕ) (events : List Event) (now : ℕ) (s : Seat) → DatedSeat time events s → DatedSeat time events (seat_read now s)
read_dated time events now s dated = by (is_due now s) refl
  where
    by : (b : Bool) → is_due now s ≡ b → DatedSeat time events (if b then record s { poller = missed s.poller; is_repeated = true } else s)
    by true due =
        let both = and_parts (is_waiting s.poller.doing) _ due in
        missed_dated time events s.sent s.poller (waiting_sent time events s.sent s.poller s.poller.doing dated.0 both.0)
    by false due = dated

site_read_dated : (time : ℕ) (events : List Event) (ms : ℕ) (s : SiteState) → DatedSite time events s → DatedSite time (events ++ Read ms ∷ []) (site_read ms s)
site_read_dated time events ms s dated =
    let now = max s.time ms in
    let P : Seat → Type 0 = DatedSeat time events in record {
      clock = ap (λ (t : ℕ). max t ms) dated.clock ∙ sym (clock_later time events (Read ms ∷ []));
      active = all_later time events (Read ms ∷ []) (map (seat_read now) s.active)
          (All-map P (seat_read now) s.active (All-weaker P (λ x. P (seat_read now x)) (read_dated time events now) s.active dated.active));
    }

told_dated_site : (time : ℕ) (events : List Event) (e : Event) (mid new : SiteState) → DatedSite time (behind_send events e) mid → ToldSite mid e new → DatedSite time (events ++ e ∷ []) new
told_dated_site time events (Waited within heard) mid new dated (now, moment, is) =
    let P : SiteState → Type 0 = λ x. DatedSite time (events ++ Waited within heard ∷ []) x in
    subst P (sym is) (site_heard_dated time (events ++ Waited within heard ∷ []) now heard mid (site_later time events (Waited within heard ∷ []) mid refl dated))
told_dated_site time events (Read ms) mid new dated is =
    let P : SiteState → Type 0 = λ x. DatedSite time (events ++ Read ms ∷ []) x in subst P (sym is) (site_read_dated time events ms mid dated)
told_dated_site time events (Sent octets to answer) mid new dated is =
    let P : SiteState → Type 0 = λ x. DatedSite time (events ++ Sent octets to answer ∷ []) x in subst P (sym is) dated
told_dated_site time events (Kept puts) mid new dated is =
    let P : SiteState → Type 0 = λ x. DatedSite time (events ++ Kept puts ∷ []) x in subst P (sym is) (site_later time events (Kept puts ∷ []) mid refl dated)
told_dated_site time events (Printed text) mid new dated is =
    let P : SiteState → Type 0 = λ x. DatedSite time (events ++ Printed text ∷ []) x in subst P (sym is) (site_later time events (Printed text ∷ []) mid refl dated)
told_dated_site time events (Warned text) mid new dated is =
    let P : SiteState → Type 0 = λ x. DatedSite time (events ++ Warned text ∷ []) x in subst P (sym is) (site_later time events (Warned text ∷ []) mid refl dated)

-- ---- the law

run : (time : ℕ) (start : List Seat) (front es : List Event) (old new : SiteState) → Seated start front old → DatedSite time front old → Chain SiteSteps old es new → DatedSite time (front ++ es) new
run time start front [] old new seated dated same =
    let Q : SiteState → Type 0 = λ s. DatedSite time front s in
    let R : List Event → Type 0 = λ es. DatedSite time es new in
    subst R (sym (append-nil front)) (subst Q (sym same) dated)
run time start front (e ∷ es) old new seated dated (mid, (wanted, half, gives, does, is), more) =
    let R : List Event → Type 0 = λ es. DatedSite time es new in
    let told = told_site half mid e is in
    let sits = told_seated start front e half mid (wants_seated start front e old wanted half seated gives does) told in
    let one = told_dated_site time front e half mid (news_dated time start front e old.news old wanted half seated dated gives does) told in
    subst R (append_assoc front (e ∷ []) es) (run time start (front ++ e ∷ []) es mid new sits one more)

-- what is open is waited for, or sent again
open_sent : (time : ℕ) (start : List Seat) (events : List Event) (s : Seat) → Sits start events s → DatedSeat time events s → is_open s ≡ true → WasSentAt time events s.sent s.poller
open_sent time start events s sits dated opened = by s.poller.doing refl sits.sound dated.0
  where
    shut : (what : Doing) → s.poller.doing ≡ what → IsClosed s.poller → is_out what ≡ false → WasSentAt time events s.sent s.poller
    shut what was closed out = absurd (let e : false ≡ true = sym (not_open s closed (ap is_out was ∙ out)) ∙ opened in cc)

    by : (what : Doing) → s.poller.doing ≡ what → IsSound events s.poller what → IsDatedAt time events s.sent s.poller what → WasSentAt time events s.sent s.poller
    by doing.Waits was sound sent = sent
    by (doing.Resends datagram) was sound sent = sent
    by doing.Asks was sound sent = shut doing.Asks was sound refl
    by (doing.Hears came) was sound sent = shut (doing.Hears came) was sound.0 refl
    by doing.Loses was sound sent = shut doing.Loses was sound refl
    by (doing.Tells end) was sound sent = shut (doing.Tells end) was sound refl
    by (doing.Ended why) was sound sent = shut (doing.Ended why) was sound refl

begins_dated : (s : SiteState) → s.active ≡ [] → DatedSite s.time [] s
begins_dated s none = record {
  clock = refl;
  active = let P : List Seat → Type 0 = λ l. All (DatedSeat s.time []) l in subst P (sym none) (All-nil (DatedSeat s.time []));
}

pub sends_are_dated : SendsAreDated
sends_are_dated = λ old new es unasked chain.
    let start = old.waiting in
    let begins = unasked_seated old unasked in
    let seated = seated_run start [] es old new begins chain in
    let dated = run old.time start [] es old new begins (begins_dated old unasked.0) chain in
    λ k d below. open_sent old.time start es (get_or new.active k d) (seated.active k d below) (dated.active k d below)
