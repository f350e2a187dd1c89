-- Whether the open question of a device was sent more than once, and its mark.
use Rattle.std.proofs.Common.{◌≡◌, ◌∙◌, ◌<◌, ℕ, ◌+◌, ◌&&◌, Bool, true, false, nat_le, nat_lt, arith, is_some}
use Rattle.std.proofs.Common.{if◌then◌else◌, List, [], ◌∷◌, Option, Some, None, refl, sym, ap, subst}
use Rattle.std.proofs.lemmas.Bool.{lt-ltb}
use Rattle.bac_archive.specs.declared.row.Put.{Put}
use Rattle.bac_wire.specs.Stamp.{CivilTime}
use Rattle.bac_link.specs.Transactions.{begun_with}
use Rattle.bac_link.specs.declared.transactions.Pending.{Pending}
use Rattle.bac_drive.specs.Event.{Event}
use Rattle.bac_drive.specs.declared.machine.Next.{Next}
use Rattle.bac_drive.specs.declared.machine.Next.TheVariants as next
use Rattle.bac_device_poll.specs.Logs.{after_end}
use Rattle.bac_device_poll.specs.Poll.{asked_of_device}
use Rattle.bac_device_poll.specs.Turns.{Turned}
use Rattle.bac_device_poll.specs.Way.{who_is_octets}
use Rattle.bac_device_poll.specs.declared.question.Question.{Question}
use Rattle.bac_device_poll.specs.declared.question.Question.TheVariants.{Confirmed, Nothing, WhoIs}
use Rattle.bac_device_poll.specs.declared.turn.DeviceEnd.{DeviceEnd}
use Rattle.bac_device_poller.specs.Poller.{AsksNext, PollerAs, Settles, TellsNext, doing_behind, doing_with, end_at}
use Rattle.bac_device_poller.specs.Poller.{given_up, heard_by, hearing, is_answer, is_none_told, is_who_is, lost_of}
use Rattle.bac_device_poller.specs.Poller.{missed}
use Rattle.bac_device_poller.specs.Poller.{rows_with, seeks, sought_again, stepped, without_answer}
use Rattle.bac_device_poller.specs.Entries.{RowsAs}
use Rattle.bac_device_poller.specs.Telling.{LineAs}
use Rattle.bac_device_poller.specs.declared.doing.Doing.{Doing}
use Rattle.bac_device_poller.specs.declared.doing.Doing.TheVariants as doing
use Rattle.bac_device_poller.specs.declared.ids.Ids.{Ids}
use Rattle.bac_site_poller.specs.Asked.{question_of}
use Rattle.bac_site_poller.specs.Seat.{Wants, lent}
use Rattle.bac_site_poller.specs.SiteLaws.{again_of, repeats_of}
use Rattle.bac_site_poller.proofs.Sound.{IsOpenBy, IsOut}

-- a mark tells it
abbrev pub Tells : Bool → PollerAs → Type 0
Tells repeated p = repeated ≡ nat_lt 0 (again_of p)

-- while it is waited for, or sent again; one that is to be sent isn't marked
abbrev pub IsMarkedAt : Bool → PollerAs → Doing → Type 0
IsMarkedAt repeated p doing.Asks = repeated ≡ false
IsMarkedAt repeated p doing.Waits = Tells repeated p
IsMarkedAt repeated p (doing.Resends datagram) = Tells repeated p
IsMarkedAt repeated p (doing.Hears came) = Unit {0}
IsMarkedAt repeated p doing.Loses = Unit {0}
IsMarkedAt repeated p (doing.Tells end) = Unit {0}
IsMarkedAt repeated p (doing.Ended why) = Unit {0}

-- but for one that is to be sent, which goes to those that wait, and loses its mark
abbrev pub IsMarkedFor : Bool → PollerAs → Doing → Type 0
IsMarkedFor repeated p doing.Asks = Unit {0}
IsMarkedFor repeated p doing.Waits = Tells repeated p
IsMarkedFor repeated p (doing.Resends datagram) = Tells repeated p
IsMarkedFor repeated p (doing.Hears came) = Unit {0}
IsMarkedFor repeated p doing.Loses = Unit {0}
IsMarkedFor repeated p (doing.Tells end) = Unit {0}
IsMarkedFor repeated p (doing.Ended why) = Unit {0}

pub weaker : (repeated : Bool) (p : PollerAs) (what : Doing) → IsMarkedAt repeated p what → IsMarkedFor repeated p what
weaker repeated p doing.Asks marked = tt
weaker repeated p doing.Waits marked = marked
weaker repeated p (doing.Resends datagram) marked = marked
weaker repeated p (doing.Hears came) marked = tt
weaker repeated p doing.Loses marked = tt
weaker repeated p (doing.Tells end) marked = tt
weaker repeated p (doing.Ended why) marked = tt

pub lent_marked : (ids : Ids) (repeated : Bool) (p : PollerAs) (what : Doing) → IsMarkedAt repeated p what → IsMarkedAt repeated (lent ids p) what
lent_marked ids repeated p doing.Asks marked = marked
lent_marked ids repeated p doing.Waits marked = marked
lent_marked ids repeated p (doing.Resends datagram) marked = marked
lent_marked ids repeated p (doing.Hears came) marked = tt
lent_marked ids repeated p doing.Loses marked = tt
lent_marked ids repeated p (doing.Tells end) marked = tt
lent_marked ids repeated p (doing.Ended why) marked = tt

-- ---- what it wants

behind_marked : (repeated : Bool) (q : PollerAs) (end : Option DeviceEnd) → IsMarkedFor repeated q (doing_behind end)
behind_marked repeated q None = tt
behind_marked repeated q (Some why) = tt

with_marked : (repeated : Bool) (q : PollerAs) (end : Option DeviceEnd) (b : Bool) → IsMarkedFor repeated q (doing_with end b)
with_marked repeated q end true = behind_marked repeated q end
with_marked repeated q end false = tt

settled_marked : (repeated : Bool) (t : Turned) (p q : PollerAs) (puts : List Put) → Settles t p puts q → IsMarkedFor repeated q q.doing
settled_marked repeated t p q puts (mid, takes, ended) =
    let D : Doing → Type 0 = λ d. IsMarkedFor repeated q d in
    let u : Turned = stepped t.step t.device in
    let r : RowsAs = rows_with t.entries u (is_some t.device.polled) mid in
    subst D (sym (ap (λ (x : PollerAs). x.doing) ended.1)) (with_marked repeated q (end_at u.step) (is_none_told r.lines))

asked_marked : (repeated : Bool) (k : Question) (p q : PollerAs) (wanted : Next) → asked_of_device p.poll ≡ k → repeated ≡ false → AsksNext k p wanted q → IsMarkedFor repeated q q.doing
asked_marked repeated (Confirmed request) p q (next.Send octets to) is fresh g =
    let new : PollerAs = record p { transactions = begun_with request p.transactions; doing = doing.Waits } in
    let F : Question → Bool = λ x. nat_lt 0 (if is_who_is x then new.sought else repeats_of new.transactions.pending) in
    let never : nat_lt 0 (again_of new) ≡ false = ap F is in
    let P : PollerAs → Type 0 = λ x. IsMarkedFor repeated x x.doing in
    subst P (sym g.2) (fresh ∙ sym never)
asked_marked repeated (Confirmed request) p q wanted is fresh g = absurd g
asked_marked repeated WhoIs p q (next.Send octets to) is fresh g =
    let new : PollerAs = record p { sought = 0; doing = doing.Waits } in
    let F : Question → Bool = λ x. nat_lt 0 (if is_who_is x then new.sought else repeats_of new.transactions.pending) in
    let never : nat_lt 0 (again_of new) ≡ false = ap F is in
    let P : PollerAs → Type 0 = λ x. IsMarkedFor repeated x x.doing in
    subst P (sym g.2) (fresh ∙ sym never)
asked_marked repeated WhoIs p q wanted is fresh g = absurd g
asked_marked repeated Nothing p q (next.Keep puts) is fresh g = settled_marked repeated (after_end p.poll) p q puts.items g
asked_marked repeated Nothing p q wanted is fresh g = absurd g

told_marked : (repeated : Bool) (lines : List LineAs) (end : Option DeviceEnd) (p q : PollerAs) (wanted : Next) → TellsNext lines end p wanted q → IsMarkedFor repeated q q.doing
told_marked repeated (line ∷ lines) end p q wanted g =
    let D : Doing → Type 0 = λ d. IsMarkedFor repeated q d in
    subst D (sym (ap (λ (x : PollerAs). x.doing) g.1)) (with_marked repeated q end (is_none_told lines))
told_marked repeated [] end p q wanted g =
    let D : Doing → Type 0 = λ d. IsMarkedFor repeated q d in
    subst D (sym (ap (λ (x : PollerAs). x.doing) g.1)) (behind_marked repeated q end)

same_marked : (repeated : Bool) (what : Doing) (p q : PollerAs) → p.doing ≡ what → IsMarkedFor repeated p what → q ≡ p → IsMarkedFor repeated q q.doing
same_marked repeated what p q was marked is =
    let P : PollerAs → Type 0 = λ x. IsMarkedFor repeated x x.doing in
    let D : Doing → Type 0 = λ d. IsMarkedFor repeated p d in
    subst P (sym is) (subst D (sym was) marked)

pub wants_marked : (repeated : Bool) (what : Doing) (p q : PollerAs) (wanted : Next) → p.doing ≡ what → IsMarkedAt repeated p what → Wants what p wanted q → IsMarkedFor repeated q q.doing
wants_marked repeated doing.Asks p q wanted was marked g = asked_marked repeated (asked_of_device p.poll) p q wanted refl marked g
wants_marked repeated (doing.Resends datagram) p q (next.Send octets to) was marked g =
    let P : PollerAs → Type 0 = λ x. IsMarkedFor repeated x x.doing in subst P (sym g.2) marked
wants_marked repeated (doing.Resends datagram) p q wanted was marked g = absurd g
wants_marked repeated doing.Waits p q wanted was marked g = same_marked repeated doing.Waits p q was marked g.1
wants_marked repeated (doing.Hears came) p q (next.Keep puts) was marked (t, comes, settles) = settled_marked repeated t p q puts.items settles
wants_marked repeated (doing.Hears came) p q wanted was marked g = absurd g
wants_marked repeated doing.Loses p q (next.Keep puts) was marked g = settled_marked repeated (lost_of p) p q puts.items g
wants_marked repeated doing.Loses p q wanted was marked g = absurd g
wants_marked repeated (doing.Tells end) p q wanted was marked g = told_marked repeated p.rows.lines end p q wanted g
wants_marked repeated (doing.Ended why) p q wanted was marked g = same_marked repeated (doing.Ended why) p q was tt g.1

-- ---- what it hears

pub heard_marked : (repeated : Bool) (from datagram : List ℕ) (now : CivilTime) (p : PollerAs) → IsMarkedAt repeated p p.doing → IsMarkedAt repeated (heard_by from datagram now p) (heard_by from datagram now p).doing
heard_marked repeated from datagram now p marked = by (is_answer p from datagram)
  where
    taken : PollerAs
    taken = hearing from datagram now p

    by : (b : Bool) → IsMarkedAt repeated (if b then taken else p) (if b then taken else p).doing
    by true = tt
    by false = marked

-- ---- what time makes of it: what was sent again, or is given up

more_than : (n : ℕ) → true ≡ nat_lt 0 (n + 1)
more_than n = let less : 0 < n + 1 = omega arith in sym (lt-ltb 0 (n + 1) less)

sought_marked : (p : PollerAs) → seeks p ≡ true → IsMarkedAt true (sought_again p) (sought_again p).doing
sought_marked p is = by (nat_lt p.sought p.retries)
  where
    again : PollerAs
    again = record p { sought = p.sought + 1; doing = doing.Resends (who_is_octets p.way.route) }

    by : (b : Bool) → IsMarkedAt true (if b then again else given_up p) (if b then again else given_up p).doing
    by true =
        let F : Bool → Bool = λ k. nat_lt 0 (if k then p.sought + 1 else repeats_of p.transactions.pending) in
        more_than p.sought ∙ sym (ap F is)
    by false = tt

without_marked : (events : List Event) (p : PollerAs) → seeks p ≡ false → IsOut events p → IsMarkedAt true (without_answer p p.transactions.pending) (without_answer p p.transactions.pending).doing
without_marked events p is (asked, opened) =
    let K : Bool → Type 0 = λ x. IsOpenBy x p.transactions.pending (question_of p) in
    let (request, there, same) = subst K is opened in
    let P : Option Pending → Type 0 = λ o. IsMarkedAt true (without_answer p o) (without_answer p o).doing in
    subst P (sym there) (by request (nat_le p.transactions.retries request.repeats))
  where
    again : Pending → PollerAs
    again request = record p {
      transactions = record p.transactions { pending = Some (record request { repeats = request.repeats + 1 }) };
      doing = doing.Resends request.request;
    }

    by : (request : Pending) (b : Bool) → IsMarkedAt true (if b then given_up p else again request) (if b then given_up p else again request).doing
    by request true = tt
    by request false =
        let F : Bool → Bool = λ k. nat_lt 0 (if k then p.sought else request.repeats + 1) in
        more_than request.repeats ∙ sym (ap F is)

pub missed_marked : (events : List Event) (p : PollerAs) → IsOut events p → IsMarkedAt true (missed p) (missed p).doing
missed_marked events p out = by (seeks p) refl
  where
    doubted : (b : Bool) → seeks p ≡ false → IsMarkedAt true (if b then given_up p else without_answer p p.transactions.pending) (if b then given_up p else without_answer p p.transactions.pending).doing
    doubted true is = tt
    doubted false is = without_marked events p is out

    by : (k : Bool) → seeks p ≡ k → IsMarkedAt true (if k then sought_again p else (if p.poll.doubt then given_up p else without_answer p p.transactions.pending)) (if k then sought_again p else (if p.poll.doubt then given_up p else without_answer p p.transactions.pending)).doing
    by true is = sought_marked p is
    by false is = doubted p.poll.doubt is
