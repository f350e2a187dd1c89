-- What the poll of a device has open and has heard, behind events.
use Rattle.std.proofs.Common.{◌≡◌, ◌⊎◌, ◌∙◌, inl, inr, ℕ, ◌+◌, ◌&&◌, ◌||◌, Bool, true, false, nat_le, nat_lt, is_some}
use Rattle.std.proofs.Common.{if◌then◌else◌, List, [], ◌∷◌, ◌++◌, Option, Some, None, Ok, refl, sym, ap, subst}
use Rattle.std.proofs.Common.{append_assoc, arith}
use Rattle.std.specs.List.{Contains}
use Rattle.std.specs.Str.{bytes_eq}
use Rattle.std.proofs.lemmas.Bool.{and_parts, or_left, or_right}
use Rattle.std.proofs.lemmas.List.Elements.{Contains-append_left, Contains-push}
use Rattle.bac_apdu.specs.Npdu.{Place}
use Rattle.bac_archive.specs.declared.row.Put.{Put}
use Rattle.bac_wire.specs.Stamp.{CivilTime}
use Rattle.bac_link.specs.Datagrams.{answers_to}
use Rattle.bac_link.specs.Transactions.{begun_with, is_awaited}
use Rattle.bac_link.specs.declared.transactions.Pending.{Pending}
use Rattle.bac_ports.specs.Port.{Sending}
use Rattle.bac_ports.specs.declared.port.Heard.{Heard}
use Rattle.bac_drive.specs.Event.{Event, Kept, Printed, Read, Sent, Waited, Warned}
use Rattle.bac_drive.specs.Happens.{Does}
use Rattle.bac_drive.specs.declared.machine.Next.{Next}
use Rattle.bac_drive.specs.declared.machine.Next.TheVariants as next
use Rattle.bac_device_poll.specs.Logs.{after_end}
use Rattle.bac_device_poll.specs.Poll.{asked_of_device}
use Rattle.bac_device_poll.specs.Rejects.{reject_by}
use Rattle.bac_device_poll.specs.Turns.{Turned}
use Rattle.bac_device_poll.specs.Way.{i_am_by, who_is_octets}
use Rattle.bac_device_poll.specs.declared.question.Question.{Question}
use Rattle.bac_device_poll.specs.declared.question.Question.TheVariants.{Confirmed, Nothing, WhoIs}
use Rattle.bac_device_poll.specs.declared.turn.DeviceEnd.{DeviceEnd}
use Rattle.bac_device_poller.specs.Poller.{AsksNext, PollerAs, Settles, TellsNext, doing_behind, doing_with, end_at}
use Rattle.bac_device_poller.specs.Poller.{given_up, heard_by, hearing, is_answer, is_rejected, is_told, is_waiting}
use Rattle.bac_device_poller.specs.Poller.{is_none_told, is_who_is, lost_of}
use Rattle.bac_device_poller.specs.Poller.{missed, rows_with, seeks, sought_again, stepped, without_answer}
use Rattle.bac_device_poller.specs.Entries.{RowsAs}
use Rattle.bac_device_poller.specs.Telling.{LineAs}
use Rattle.bac_device_poller.specs.declared.doing.Doing.{Doing}
use Rattle.bac_device_poller.specs.declared.doing.Doing.TheVariants as doing
use Rattle.bac_device_poller.specs.declared.ids.Ids.{Ids}
use Rattle.bac_site_poller.specs.Asked.{WasAnswered, WasAsked, is_answered_by, is_told_by, octets_of, question_of}
use Rattle.bac_site_poller.specs.Seat.{Wants, lent}

-- nothing is open
abbrev pub IsClosed : PollerAs → Type 0
IsClosed p = p.transactions.pending ≡ None

-- a question is open: of a Who-Is no transaction has a request, and else one has it
abbrev pub IsOpenBy : (seeks : Bool) → Option Pending → (question : List ℕ) → Type 0
IsOpenBy true pending question = pending ≡ None
IsOpenBy false pending question = (request : Pending) × (pending ≡ Some request) × (request.request ≡ question)

-- its question is open, and was sent to its device
abbrev pub IsOut : List Event → PollerAs → Type 0
IsOut events p = WasAsked events p × IsOpenBy (seeks p) p.transactions.pending (question_of p)

-- by what it is at
abbrev pub IsSound : List Event → PollerAs → Doing → Type 0
IsSound events p doing.Asks = IsClosed p
IsSound events p doing.Waits = IsOut events p
IsSound events p (doing.Resends datagram) = IsOut events p × (datagram ≡ question_of p)
IsSound events p (doing.Hears came) = IsClosed p × WasAnswered events p came.from came.datagram
IsSound events p doing.Loses = IsClosed p
IsSound events p (doing.Tells end) = IsClosed p
IsSound events p (doing.Ended why) = IsClosed p

-- ---- behind more events

out_later : (events more : List Event) (p : PollerAs) → IsOut events p → IsOut (events ++ more) p
out_later events more p ((answer, there), opened) =
    ((answer, Contains-append_left events more (Sent (question_of p) p.way.peer answer) there), opened)

answered_later : (events more : List Event) (p : PollerAs) (from datagram : List ℕ) → WasAnswered events p from datagram → WasAnswered (events ++ more) p from datagram
answered_later events more p from datagram (before, behind, is, asked, (within, heard, there, at, same), answers) = (
  before,
  behind ++ more,
  ap (λ (es : List Event). es ++ more) is ∙ append_assoc before behind more,
  asked,
  (within, heard, Contains-append_left behind more (Waited within (Ok heard)) there, at, same),
  answers,
)

pub later : (events more : List Event) (p : PollerAs) (what : Doing) → IsSound events p what → IsSound (events ++ more) p what
later events more p doing.Asks sound = sound
later events more p doing.Waits sound = out_later events more p sound
later events more p (doing.Resends datagram) sound = (out_later events more p sound.0, sound.1)
later events more p (doing.Hears came) sound = (sound.0, answered_later events more p came.from came.datagram sound.1)
later events more p doing.Loses sound = sound
later events more p (doing.Tells end) sound = sound
later events more p (doing.Ended why) sound = sound

-- ids that are free change nothing of it
pub lent_sound : (ids : Ids) (events : List Event) (p : PollerAs) (what : Doing) → IsSound events p what → IsSound events (lent ids p) what
lent_sound ids events p doing.Asks sound = sound
lent_sound ids events p doing.Waits sound = sound
lent_sound ids events p (doing.Resends datagram) sound = sound
lent_sound ids events p (doing.Hears came) sound = sound
lent_sound ids events p doing.Loses sound = sound
lent_sound ids events p (doing.Tells end) sound = sound
lent_sound ids events p (doing.Ended why) sound = sound

-- what is known as soon as an event is wanted: of a send, that it was sent
abbrev pub behind_send : List Event → Event → List Event
behind_send events (Sent octets to answer) = events ++ Sent octets to answer ∷ []
behind_send events (Waited most heard) = events
behind_send events (Read ms) = events
behind_send events (Kept puts) = events
behind_send events (Printed text) = events
behind_send events (Warned text) = events

pub sound_send : (events : List Event) (e : Event) (p : PollerAs) (what : Doing) → IsSound events p what → IsSound (behind_send events e) p what
sound_send events (Sent octets to answer) p what sound = later events (Sent octets to answer ∷ []) p what sound
sound_send events (Waited most heard) p what sound = sound
sound_send events (Read ms) p what sound = sound
sound_send events (Kept puts) p what sound = sound
sound_send events (Printed text) p what sound = sound
sound_send events (Warned text) p what sound = sound

-- ---- what it wants

behind_sound : (events : List Event) (q : PollerAs) (end : Option DeviceEnd) → IsClosed q → IsSound events q (doing_behind end)
behind_sound events q None closed = closed
behind_sound events q (Some why) closed = closed

with_sound : (events : List Event) (q : PollerAs) (end : Option DeviceEnd) (b : Bool) → IsClosed q → IsSound events q (doing_with end b)
with_sound events q end true closed = behind_sound events q end closed
with_sound events q end false closed = closed

pub settled_sound : (events : List Event) (t : Turned) (p q : PollerAs) (puts : List Put) → IsClosed p → Settles t p puts q → IsSound events q q.doing
settled_sound events t p q puts closed (mid, takes, ended) =
    let none : IsClosed q = ap (λ (x : PollerAs). x.transactions.pending) ended.1 ∙ closed in
    let D : Doing → Type 0 = λ d. IsSound events q d in
    let u : Turned = stepped t.step t.device in
    let r : RowsAs = rows_with t.entries u (is_some t.device.polled) mid in
    subst D (sym (ap (λ (x : PollerAs). x.doing) ended.1)) (with_sound events q (end_at u.step) (is_none_told r.lines) none)

-- it is sent, as it is then
sent_out : (events : List Event) (q : PollerAs) (o t : List ℕ) (answer : Sending) → o ≡ question_of q → t ≡ q.way.peer → IsOpenBy (seeks q) q.transactions.pending (question_of q) →
    IsOut (events ++ Sent o t answer ∷ []) q
sent_out events q o t answer is at opened =
    let e : Sent o t answer ≡ Sent (question_of q) q.way.peer answer =
    ap (λ (x : List ℕ). Sent x t answer) is ∙ ap (λ (x : List ℕ). Sent (question_of q) x answer) at in
    let C : Event → Type 0 = λ x. Contains (events ++ Sent o t answer ∷ []) x in
    ((answer, subst C e (Contains-push events (Sent o t answer))), opened)

asked_sound : (events : List Event) (k : Question) (p q : PollerAs) (wanted : Next) (e : Event) → asked_of_device p.poll ≡ k → IsClosed p → AsksNext k p wanted q → Does wanted e →
    IsSound (behind_send events e) q q.doing
asked_sound events (Confirmed request) p q (next.Send octets to) (Sent o t a) is closed g does =
    let new : PollerAs = record p { transactions = begun_with request p.transactions; doing = doing.Waits } in
    let F : Question → List ℕ = λ x. octets_of x new.transactions.route new.transactions.invoke new.way.route in
    let asked : question_of new ≡ F (Confirmed request) = ap F is in
    let K : Question → Type 0 = λ x. IsOpenBy (is_who_is x) new.transactions.pending (question_of new) in
    let first : Pending = record { request = F (Confirmed request); repeats = 0 } in
    let opened : IsOpenBy (seeks new) new.transactions.pending (question_of new) = subst K (sym is) (first, refl, sym asked) in
    let P : PollerAs → Type 0 = λ x. IsSound (events ++ Sent o t a ∷ []) x x.doing in
    subst P (sym g.2) (sent_out events new o t a (does.0 ∙ g.0 ∙ sym asked) (does.1 ∙ g.1) opened)
asked_sound events (Confirmed request) p q (next.Send octets to) e is closed g does = absurd does
asked_sound events (Confirmed request) p q wanted e is closed g does = absurd g
asked_sound events WhoIs p q (next.Send octets to) (Sent o t a) is closed g does =
    let new : PollerAs = record p { sought = 0; doing = doing.Waits } in
    let F : Question → List ℕ = λ x. octets_of x new.transactions.route new.transactions.invoke new.way.route in
    let asked : question_of new ≡ F WhoIs = ap F is in
    let K : Question → Type 0 = λ x. IsOpenBy (is_who_is x) new.transactions.pending (question_of new) in
    let opened : IsOpenBy (seeks new) new.transactions.pending (question_of new) = subst K (sym is) closed in
    let P : PollerAs → Type 0 = λ x. IsSound (events ++ Sent o t a ∷ []) x x.doing in
    subst P (sym g.2) (sent_out events new o t a (does.0 ∙ g.0 ∙ sym asked) (does.1 ∙ g.1) opened)
asked_sound events WhoIs p q (next.Send octets to) e is closed g does = absurd does
asked_sound events WhoIs p q wanted e is closed g does = absurd g
asked_sound events Nothing p q (next.Keep puts) e is closed g does = sound_send events e q q.doing (settled_sound events (after_end p.poll) p q puts.items closed g)
asked_sound events Nothing p q wanted e is closed g does = absurd g

told_sound : (events : List Event) (lines : List LineAs) (end : Option DeviceEnd) (p q : PollerAs) (wanted : Next) → IsClosed p → TellsNext lines end p wanted q → IsSound events q q.doing
told_sound events (line ∷ lines) end p q wanted closed g =
    let none : IsClosed q = ap (λ (x : PollerAs). x.transactions.pending) g.1 ∙ closed in
    let D : Doing → Type 0 = λ d. IsSound events q d in
    subst D (sym (ap (λ (x : PollerAs). x.doing) g.1)) (with_sound events q end (is_none_told lines) none)
told_sound events [] end p q wanted closed g =
    let none : IsClosed q = ap (λ (x : PollerAs). x.transactions.pending) g.1 ∙ closed in
    let D : Doing → Type 0 = λ d. IsSound events q d in
    subst D (sym (ap (λ (x : PollerAs). x.doing) g.1)) (behind_sound events q end none)

same_sound : (events : List Event) (e : Event) (what : Doing) (p q : PollerAs) → p.doing ≡ what → IsSound events p what → q ≡ p → IsSound (behind_send events e) q q.doing
same_sound events e what p q was sound is =
    let P : PollerAs → Type 0 = λ x. IsSound (behind_send events e) x x.doing in
    let D : Doing → Type 0 = λ d. IsSound (behind_send events e) p d in
    subst P (sym is) (subst D (sym was) (sound_send events e p what sound))

pub wants_sound : (events : List Event) (what : Doing) (p q : PollerAs) (wanted : Next) (e : Event) → p.doing ≡ what → IsSound events p what → Wants what p wanted q → Does wanted e →
    IsSound (behind_send events e) q q.doing
wants_sound events doing.Asks p q wanted e was sound g does = asked_sound events (asked_of_device p.poll) p q wanted e refl sound g does
wants_sound events (doing.Resends datagram) p q (next.Send octets to) (Sent o t a) was sound g does =
    let P : PollerAs → Type 0 = λ x. IsSound (events ++ Sent o t a ∷ []) x x.doing in
    subst P (sym g.2) (out_later events (Sent o t a ∷ []) p sound.0)
wants_sound events (doing.Resends datagram) p q (next.Send octets to) e was sound g does = absurd does
wants_sound events (doing.Resends datagram) p q wanted e was sound g does = absurd g
wants_sound events doing.Waits p q wanted e was sound g does = same_sound events e doing.Waits p q was sound g.1
wants_sound events (doing.Hears came) p q (next.Keep puts) e was sound (t, comes, settles) does = sound_send events e q q.doing (settled_sound events t p q puts.items sound.0 settles)
wants_sound events (doing.Hears came) p q wanted e was sound g does = absurd g
wants_sound events doing.Loses p q (next.Keep puts) e was sound g does = sound_send events e q q.doing (settled_sound events (lost_of p) p q puts.items sound g)
wants_sound events doing.Loses p q wanted e was sound g does = absurd g
wants_sound events (doing.Tells end) p q wanted e was sound g does = sound_send events e q q.doing (told_sound events p.rows.lines end p q wanted sound g)
wants_sound events (doing.Ended why) p q wanted e was sound g does = same_sound events e (doing.Ended why) p q was sound g.1

-- ---- what it hears

none_by : (p : PollerAs) (datagram : List ℕ) → IsClosed p → is_awaited p.transactions.pending datagram ≡ true → ⊥
none_by p datagram closed awaited =
    let A : Option Pending → Type 0 = λ o. is_awaited o datagram ≡ true in
    let e : false ≡ true = subst A closed awaited in
    absurd (cc)

-- a request that is awaited is out
awaited_out : (events : List Event) (p : PollerAs) (what : Doing) (datagram : List ℕ) → IsSound events p what → is_awaited p.transactions.pending datagram ≡ true → IsOut events p
awaited_out events p doing.Asks datagram sound awaited = absurd (none_by p datagram sound awaited)
awaited_out events p doing.Waits datagram sound awaited = sound
awaited_out events p (doing.Resends again) datagram sound awaited = sound.0
awaited_out events p (doing.Hears came) datagram sound awaited = absurd (none_by p datagram sound.0 awaited)
awaited_out events p doing.Loses datagram sound awaited = absurd (none_by p datagram sound awaited)
awaited_out events p (doing.Tells end) datagram sound awaited = absurd (none_by p datagram sound awaited)
awaited_out events p (doing.Ended why) datagram sound awaited = absurd (none_by p datagram sound awaited)

-- so is one that is waited for
pub waiting_out : (events : List Event) (p : PollerAs) (what : Doing) → IsSound events p what → is_waiting what ≡ true → IsOut events p
waiting_out events p doing.Waits sound waits = sound
waiting_out events p doing.Asks sound waits = absurd (let e : false ≡ true = waits in cc)
waiting_out events p (doing.Resends datagram) sound waits = absurd (let e : false ≡ true = waits in cc)
waiting_out events p (doing.Hears came) sound waits = absurd (let e : false ≡ true = waits in cc)
waiting_out events p doing.Loses sound waits = absurd (let e : false ≡ true = waits in cc)
waiting_out events p (doing.Tells end) sound waits = absurd (let e : false ≡ true = waits in cc)
waiting_out events p (doing.Ended why) sound waits = absurd (let e : false ≡ true = waits in cc)

-- an answer of the device answers its question, which was sent
told_out : (events : List Event) (p : PollerAs) (from datagram : List ℕ) → IsSound events p p.doing → is_told p from datagram ≡ true → WasAsked events p × (is_told_by p from datagram ≡ true)
told_out events p from datagram sound fits = by (seeks p) refl fits
  where
    by : (k : Bool) → seeks p ≡ k →
        (if k then (is_waiting p.doing && is_some (i_am_by p.way from datagram)) else (bytes_eq from p.way.peer && is_awaited p.transactions.pending datagram)) ≡ true →
        WasAsked events p × ((if k then is_some (i_am_by p.way from datagram) else (bytes_eq from p.way.peer && answers_to (question_of p) datagram)) ≡ true)
    by true is fit =
        let both = and_parts (is_waiting p.doing) (is_some (i_am_by p.way from datagram)) fit in
        ((waiting_out events p p.doing sound both.0).0, both.1)
    by false is fit =
        let both = and_parts (bytes_eq from p.way.peer) (is_awaited p.transactions.pending datagram) fit in
        let (asked, opened) = awaited_out events p p.doing datagram sound both.1 in
        let K : Bool → Type 0 = λ x. IsOpenBy x p.transactions.pending (question_of p) in
        let (request, there, same) = subst K is opened in
        let A : Option Pending → Type 0 = λ o. is_awaited o datagram ≡ true in
        let R : List ℕ → Type 0 = λ r. answers_to r datagram ≡ true in
        let answers = subst R same (subst A there both.1) in
        let B : Bool → Type 0 = λ b. (b && answers_to (question_of p) datagram) ≡ true in
        (asked, subst B (sym both.0) answers)

-- so does a rejection
answered_out : (events : List Event) (p : PollerAs) (from datagram : List ℕ) → IsSound events p p.doing → is_answer p from datagram ≡ true → WasAsked events p × (is_answered_by p from datagram ≡ true)
answered_out events p from datagram sound fits = by (is_told p from datagram) refl fits
  where
    some : Bool
    some = is_some (reject_by p.way from datagram)

    by : (b : Bool) → is_told p from datagram ≡ b → (b || is_rejected p from datagram) ≡ true → WasAsked events p × (is_answered_by p from datagram ≡ true)
    by true is fit =
        let told = told_out events p from datagram sound is in (told.0, or_left (is_told_by p from datagram) some told.1)
    by false is fit =
        let both = and_parts (is_waiting p.doing) some fit in
        ((waiting_out events p p.doing sound both.0).0, or_right (is_told_by p from datagram) some both.1)

pub heard_sound : (events : List Event) (within : ℕ) (heard : Heard) (datagram : List ℕ) (now : CivilTime) (p : PollerAs) → heard.datagram ≡ Some datagram → IsSound events p p.doing →
    IsSound (events ++ Waited within (Ok heard) ∷ []) (heard_by heard.from datagram now p) (heard_by heard.from datagram now p).doing
heard_sound events within heard datagram now p is sound = by (is_answer p heard.from datagram) refl
  where
    taken : PollerAs
    taken = hearing heard.from datagram now p

    by : (b : Bool) → is_answer p heard.from datagram ≡ b → IsSound (events ++ Waited within (Ok heard) ∷ []) (if b then taken else p) (if b then taken else p).doing
    by true fits =
        let both = answered_out events p heard.from datagram sound fits in
        (refl, (events, Waited within (Ok heard) ∷ [], refl, both.0, (within, heard, Contains-push [] (Waited within (Ok heard)), refl, is), both.1))
    by false fits = later events (Waited within (Ok heard) ∷ []) p p.doing sound

-- ---- what time makes of it

-- what a poll that seeks asks is a Who-Is
who_is : (k : Question) (route : Option Place) (invoke : ℕ) (place : Option Place) → is_who_is k ≡ true → octets_of k route invoke place ≡ who_is_octets place
who_is WhoIs route invoke place is = refl
who_is (Confirmed request) route invoke place is = absurd (let e : false ≡ true = is in cc)
who_is Nothing route invoke place is = absurd (let e : false ≡ true = is in cc)

sought_sound : (events : List Event) (p : PollerAs) → seeks p ≡ true → IsOut events p → IsSound events (sought_again p) (sought_again p).doing
sought_sound events p is out = by (nat_lt p.sought p.retries)
  where
    again : PollerAs
    again = record p { sought = p.sought + 1; doing = doing.Resends (who_is_octets p.way.route) }

    by : (b : Bool) → IsSound events (if b then again else given_up p) (if b then again else given_up p).doing
    by true = (out, sym (who_is (asked_of_device p.poll) p.transactions.route p.transactions.invoke p.way.route is))
    by false = refl

without_sound : (events : List Event) (p : PollerAs) → seeks p ≡ false → IsOut events p → IsSound events (without_answer p p.transactions.pending) (without_answer p p.transactions.pending).doing
without_sound events p is (asked, opened) =
    let K : Bool → Type 0 = λ x. IsOpenBy x p.transactions.pending (question_of p) in
    let (request, there, same) = subst K is opened in
    let P : Option Pending → Type 0 = λ o. IsSound events (without_answer p o) (without_answer p o).doing in
    subst P (sym there) (by request same (nat_le p.transactions.retries request.repeats))
  where
    again : Pending → PollerAs
    again request = record p {
      transactions = record p.transactions { pending = Some (record request { repeats = request.repeats + 1 }) };
      doing = doing.Resends request.request;
    }

    by : (request : Pending) → request.request ≡ question_of p → (b : Bool) → IsSound events (if b then given_up p else again request) (if b then given_up p else again request).doing
    by request same true = refl
    by request same false =
        let L : Bool → Type 0 = λ x. IsOpenBy x (Some (record request { repeats = request.repeats + 1 })) (question_of p) in
        ((asked, subst L (sym is) (record request { repeats = request.repeats + 1 }, refl, same)), same)

pub missed_sound : (events : List Event) (p : PollerAs) → IsOut events p → IsSound events (missed p) (missed p).doing
missed_sound events p out = by (seeks p) refl
  where
    doubted : (b : Bool) → seeks p ≡ false → IsSound events (if b then given_up p else without_answer p p.transactions.pending) (if b then given_up p else without_answer p p.transactions.pending).doing
    doubted true is = refl
    doubted false is = without_sound events p is out

    by : (k : Bool) → seeks p ≡ k → IsSound events (if k then sought_again p else (if p.poll.doubt then given_up p else without_answer p p.transactions.pending)) (if k then sought_again p else (if p.poll.doubt then given_up p else without_answer p p.transactions.pending)).doing
    by true is = sought_sound events p is out
    by false is = doubted p.poll.doubt is
