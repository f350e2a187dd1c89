-- What a whole run of a site sends and puts.
use Rattle.std.proofs.Common.{◌≡◌, ◌∙◌, ◌&&◌, ◌||◌, inl, inr, ℕ, Bool, true, false, is_some, List, [], ◌∷◌, ◌++◌}
use Rattle.std.proofs.Common.{Option, refl, sym, ap, subst, append_assoc, append-nil}
use Rattle.std.proofs.lemmas.List.Elements.{All-weaker}
use Rattle.bac_archive.specs.declared.row.Put.{Put}
use Rattle.bac_drive.specs.Chain.{Chain}
use Rattle.bac_link.specs.Transactions.{begun_with}
use Rattle.bac_link.specs.declared.transactions.Pending.{Pending}
use Rattle.bac_drive.specs.Event.{Event, Kept, Printed, Read, Sent, Waited, Warned}
use Rattle.bac_drive.specs.Happens.{Does}
use Rattle.bac_drive.specs.declared.machine.Next.{Next}
use Rattle.bac_drive.specs.declared.machine.Next.TheVariants as next
use Rattle.bac_device_poll.specs.Poll.{asked_of_device}
use Rattle.bac_device_poll.specs.declared.question.Question.{Question}
use Rattle.bac_device_poll.specs.declared.question.Question.TheVariants.{Confirmed, Nothing, WhoIs}
use Rattle.bac_device_poll.specs.declared.turn.DeviceEnd.{DeviceEnd}
use Rattle.bac_device_poller.specs.Poller.{AsksNext, PollerAs, TellsNext, seeks}
use Rattle.bac_device_poller.specs.Telling.{IsToldBy, LineAs}
use Rattle.bac_device_poller.specs.declared.doing.Doing.{Doing}
use Rattle.bac_device_poller.specs.declared.doing.Doing.TheVariants as doing
use Rattle.bac_site_poller.specs.Asked.{AreCome, IsOf, octets_of, question_of}
use Rattle.bac_site_poller.specs.News.{news_line}
use Rattle.bac_site_poller.specs.Seat.{Wants, lent, sent_at}
use Rattle.bac_site_poller.specs.Site.{GivesFrom, GivesNews, GivesSite, GivesWaiting, Rests, SiteState}
use Rattle.bac_site_poller.specs.SiteLaws.{IsMarked, RepeatsAreMarked, SiteRowsCame, SiteSendsAsk, is_open}
use Rattle.bac_site_poller.specs.SiteLaws.{is_out, SiteSteps}
use Rattle.bac_site_poller.specs.declared.news.News.{News}
use Rattle.bac_site_poller.specs.declared.seat.Seat.{Seat}
use Rattle.bac_site_poller.proofs.Marked.{IsMarkedAt}
use Rattle.bac_site_poller.proofs.Places.{at_place}
use Rattle.bac_site_poller.proofs.Seated.{Queues, Seated, Sits, sits_sent, told_seated, unasked_seated, wants_seated}
use Rattle.bac_site_poller.proofs.Sound.{IsClosed, IsSound, lent_sound}
use Rattle.bac_site_poller.proofs.Told.{told_site}

split : {S E : Type 0} (step : S → E → S → Type 0) (a c : S) (es fs : List E) → Chain step a (es ++ fs) c → (b : S) × Chain step a es b × Chain step b fs c
split step a c [] fs chain = (a, refl, chain)
split step a c (e ∷ es) fs (mid, one, more) = let rest = split step mid c es fs more in (rest.0, (mid, one, rest.1), rest.2)

pub run : (start : List Seat) (front es : List Event) (old new : SiteState) → Seated start front old → Chain SiteSteps old es new →
    Seated start (front ++ es) new
run start front [] old new seated same =
    let Q : SiteState → Type 0 = λ s. Seated start front s in
    let R : List Event → Type 0 = λ es. Seated start es new in
    subst R (sym (append-nil front)) (subst Q (sym same) seated)
run start front (e ∷ es) old new seated (mid, (wanted, half, gives, does, is), more) =
    let R : List Event → Type 0 = λ es. Seated start es new in
    let one = told_seated start front e half mid (wants_seated start front e old wanted half seated gives does) (told_site half mid e is) in
    subst R (append_assoc front (e ∷ []) es) (run start (front ++ e ∷ []) es mid new one more)

-- ---- what an event says of the poll that wants it

-- octets that are sent
abbrev AreAsked : List Seat → List ℕ → List ℕ → Type 0
AreAsked start octets to = (one : PollerAs) × IsOf start one × (to ≡ one.way.peer) × (octets ≡ question_of one)

abbrev SaysOf : List Seat → List Event → Event → Type 0
SaysOf start events (Kept puts) = AreCome start events puts
SaysOf start events (Sent octets to answer) = AreAsked start octets to
SaysOf start events (Waited within heard) = Unit {0}
SaysOf start events (Read ms) = Unit {0}
SaysOf start events (Printed text) = Unit {0}
SaysOf start events (Warned text) = Unit {0}

-- what is only printed, read or waited for
abbrev IsSilent : Event → Type 0
IsSilent (Printed text) = Unit {0}
IsSilent (Warned text) = Unit {0}
IsSilent (Read ms) = Unit {0}
IsSilent (Waited within heard) = Unit {0}
IsSilent (Sent octets to answer) = ⊥
IsSilent (Kept puts) = ⊥

silent_says : (start : List Seat) (events : List Event) (e : Event) → IsSilent e → SaysOf start events e
silent_says start events (Printed text) is = tt
silent_says start events (Warned text) is = tt
silent_says start events (Read ms) is = tt
silent_says start events (Waited within heard) is = tt
silent_says start events (Sent octets to answer) is = absurd is
silent_says start events (Kept puts) is = absurd is

read_silent : (wanted : Next) (e : Event) → wanted ≡ next.Read → Does wanted e → IsSilent e
read_silent wanted e is does = let P : Next → Type 0 = λ w. Does w e in by e (subst P is does)
  where
    by : (e : Event) → Does next.Read e → IsSilent e
    by (Read ms) does = tt
    by (Printed text) does = tt
    by (Warned text) does = tt
    by (Waited within heard) does = tt
    by (Sent octets to answer) does = absurd does
    by (Kept puts) does = absurd does

text_silent : (good : Bool) (text : List ℕ) (wanted : Next) (e : Event) → IsToldBy good text wanted → Does wanted e → IsSilent e
text_silent true text (next.Print line) (Printed all) told does = tt
text_silent true text (next.Print line) e told does = absurd does
text_silent true text wanted e told does = absurd told
text_silent false text (next.Warn line) (Warned all) told does = tt
text_silent false text (next.Warn line) e told does = absurd does
text_silent false text wanted e told does = absurd told

rests_silent : (s : SiteState) (wanted : Next) (e : Event) → Rests s wanted → Does wanted e → IsSilent e
rests_silent s (next.Wait most) (Waited within heard) rests does = tt
rests_silent s (next.Wait most) e rests does = absurd does
rests_silent s next.End e rests does = absurd does
rests_silent s wanted e rests does = absurd rests

lines_silent : (lines : List LineAs) (end : Option DeviceEnd) (p q : PollerAs) (wanted : Next) (e : Event) → TellsNext lines end p wanted q → Does wanted e → IsSilent e
lines_silent (line ∷ lines) end p q wanted e g does = text_silent line.good line.text wanted e g.0 does
lines_silent [] end p q wanted e g does = read_silent wanted e g.0 does

-- what it asks
asks_says : (start : List Seat) (events : List Event) (k : Question) (p q : PollerAs) (wanted : Next) (e : Event) → asked_of_device p.poll ≡ k → IsOf start p → AsksNext k p wanted q → Does wanted e → SaysOf start events e
asks_says start events (Confirmed request) p q (next.Send octets to) (Sent o t a) is home g does =
    let new : PollerAs = record p { transactions = begun_with request p.transactions; doing = doing.Waits } in
    let F : Question → List ℕ = λ x. octets_of x new.transactions.route new.transactions.invoke new.way.route in
    let asked : question_of new ≡ F (Confirmed request) = ap F is in
    (new, home, does.1 ∙ g.1, does.0 ∙ g.0 ∙ sym asked)
asks_says start events (Confirmed request) p q (next.Send octets to) e is home g does = absurd does
asks_says start events (Confirmed request) p q wanted e is home g does = absurd g
asks_says start events WhoIs p q (next.Send octets to) (Sent o t a) is home g does =
    let F : Question → List ℕ = λ x. octets_of x p.transactions.route p.transactions.invoke p.way.route in
    let asked : question_of p ≡ F WhoIs = ap F is in
    (p, home, does.1 ∙ g.1, does.0 ∙ g.0 ∙ sym asked)
asks_says start events WhoIs p q (next.Send octets to) e is home g does = absurd does
asks_says start events WhoIs p q wanted e is home g does = absurd g
asks_says start events Nothing p q (next.Keep puts) (Kept all) is home g does =
    let P : List Put → Type 0 = λ l. AreCome start events l in
    subst P (sym does) (p, q, home, inr (inr g))
asks_says start events Nothing p q (next.Keep puts) e is home g does = absurd does
asks_says start events Nothing p q wanted e is home g does = absurd g

wants_says_of : (start : List Seat) (events : List Event) (what : Doing) (p q : PollerAs) (wanted : Next) (e : Event) → IsSound events p what → IsOf start p → Wants what p wanted q → Does wanted e → SaysOf start events e
wants_says_of start events doing.Asks p q wanted e sound home g does = asks_says start events (asked_of_device p.poll) p q wanted e refl home g does
wants_says_of start events (doing.Resends datagram) p q (next.Send octets to) (Sent o t a) sound home g does = (p, home, does.1 ∙ g.1, does.0 ∙ g.0 ∙ sound.1)
wants_says_of start events (doing.Resends datagram) p q (next.Send octets to) e sound home g does = absurd does
wants_says_of start events (doing.Resends datagram) p q wanted e sound home g does = absurd g
wants_says_of start events doing.Waits p q wanted e sound home g does = silent_says start events e (read_silent wanted e g.0 does)
wants_says_of start events (doing.Hears came) p q (next.Keep puts) (Kept all) sound home (t, comes, settles) does =
    let P : List Put → Type 0 = λ l. AreCome start events l in
    subst P (sym does) (p, q, home, inl (came, sound.1, (t, comes, settles)))
wants_says_of start events (doing.Hears came) p q (next.Keep puts) e sound home g does = absurd does
wants_says_of start events (doing.Hears came) p q wanted e sound home g does = absurd g
wants_says_of start events doing.Loses p q (next.Keep puts) (Kept all) sound home g does =
    let P : List Put → Type 0 = λ l. AreCome start events l in
    subst P (sym does) (p, q, home, inr (inl g))
wants_says_of start events doing.Loses p q (next.Keep puts) e sound home g does = absurd does
wants_says_of start events doing.Loses p q wanted e sound home g does = absurd g
wants_says_of start events (doing.Tells end) p q wanted e sound home g does = silent_says start events e (lines_silent p.rows.lines end p q wanted e g does)
wants_says_of start events (doing.Ended why) p q wanted e sound home g does = silent_says start events e (read_silent wanted e g.0 does)

from_says : (start : List Seat) (events : List Event) (e : Event) (old : SiteState) (s : Seat) (wanted : Next) (new : SiteState) → Sits start events s → GivesFrom old s wanted new → Does wanted e → SaysOf start events e
from_says start events e old s wanted new sits (p, gives, is) does =
    let what = s.poller.doing in
    wants_says_of start events what (lent old.ids s.poller) p wanted e (lent_sound old.ids events s.poller what sits.sound) sits.home gives does

waiting_says : (start : List Seat) (events : List Event) (e : Event) (stale : Bool) (old : SiteState) (wanted : Next) (new : SiteState) → Seated start events old → GivesWaiting stale old wanted new → Does wanted e → SaysOf start events e
waiting_says start events e true old wanted new seated (is_read, same) does = silent_says start events e (read_silent wanted e is_read does)
waiting_says start events e false old wanted new seated (inl (place, s, there, asked, gives)) does =
    from_says start events e _ (sent_at old.time s) wanted new (sits_sent start events old.time s (at_place (Queues start) old.waiting place s seated.waiting there)) gives does
waiting_says start events e false old wanted new seated (inr (none, rests, same)) does = silent_says start events e (rests_silent old wanted e rests does)

news_says : (start : List Seat) (events : List Event) (e : Event) (l : List News) (old : SiteState) (wanted : Next) (new : SiteState) → Seated start events old → GivesNews l old wanted new → Does wanted e → SaysOf start events e
news_says start events e (news ∷ others) old wanted new seated (told, is) does = silent_says start events e (text_silent false (news_line news) wanted e told does)
news_says start events e [] old wanted new seated (inl (place, s, there, not, gives)) does =
    from_says start events e _ s wanted new (at_place (Sits start events) old.active place s seated.active there) gives does
news_says start events e [] old wanted new seated (inr (none, gives)) does = waiting_says start events e old.is_stale old wanted new seated gives does

wants_says : (start : List Seat) (events : List Event) (e : Event) (old : SiteState) (wanted : Next) (new : SiteState) → Seated start events old → GivesSite old wanted new → Does wanted e → SaysOf start events e
wants_says start events e old wanted new seated gives does = news_says start events e old.news old wanted new seated gives does

-- ---- the laws

pub site_rows_came : SiteRowsCame
site_rows_came = λ old new front behind puts unasked chain.
    let start = old.waiting in
    let parts = split SiteSteps old new front (Kept puts ∷ behind) chain in
    let seated = run start [] front old parts.0 (unasked_seated old unasked) parts.1 in
    let (mid, (wanted, half, gives, does, is), more) = parts.2 in
    wants_says start front (Kept puts) parts.0 wanted half seated gives does

pub site_sends_ask : SiteSendsAsk
site_sends_ask = λ old new front behind octets to answer unasked chain.
    let start = old.waiting in
    let parts = split SiteSteps old new front (Sent octets to answer ∷ behind) chain in
    let seated = run start [] front old parts.0 (unasked_seated old unasked) parts.1 in
    let (mid, (wanted, half, gives, does, is), more) = parts.2 in
    wants_says start front (Sent octets to answer) parts.0 wanted half seated gives does

-- ---- what is open

and_false : (k : Bool) → (k && false) ≡ false
and_false true = refl
and_false false = refl

-- what has no request, and isn't out, isn't open
pub not_open : (s : Seat) → IsClosed s.poller → is_out s.poller.doing ≡ false → is_open s ≡ false
not_open s closed out =
    ap (λ (o : Option Pending). is_some o || (seeks s.poller && is_out s.poller.doing)) closed
    ∙ ap (λ (b : Bool). seeks s.poller && b) out ∙ and_false (seeks s.poller)

-- what is open is waited for, or sent again: its mark tells
marked_of : (start : List Seat) (events : List Event) (s : Seat) → Sits start events s → IsMarked s
marked_of start events s sits = by s.poller.doing refl sits.sound sits.marked
  where
    shut : (what : Doing) → s.poller.doing ≡ what → IsClosed s.poller → is_out what ≡ false → IsMarked s
    shut what was closed out = λ opened. absurd (let e : false ≡ true = sym (not_open s closed (ap is_out was ∙ out)) ∙ opened in cc)

    by : (what : Doing) → s.poller.doing ≡ what → IsSound events s.poller what → IsMarkedAt s.is_repeated s.poller what → IsMarked s
    by doing.Waits was sound marked = λ opened. marked
    by (doing.Resends datagram) was sound marked = λ opened. marked
    by doing.Asks was sound marked = shut doing.Asks was sound refl
    by (doing.Hears came) was sound marked = shut (doing.Hears came) was sound.0 refl
    by doing.Loses was sound marked = shut doing.Loses was sound refl
    by (doing.Tells end) was sound marked = shut (doing.Tells end) was sound refl
    by (doing.Ended why) was sound marked = shut (doing.Ended why) was sound refl

pub repeats_are_marked : RepeatsAreMarked
repeats_are_marked = λ old new es unasked chain.
    let start = old.waiting in
    let seated = run start [] es old new (unasked_seated old unasked) chain in
    All-weaker (Sits start es) IsMarked (marked_of start es) new.active seated.active
