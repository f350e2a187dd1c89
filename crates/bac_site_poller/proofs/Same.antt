-- Where a device is asked stays, whatever comes of its poll.
use Rattle.std.proofs.Common.{◌≡◌, ◌∙◌, ℕ, Bool, true, false, if◌then◌else◌, nat_le, nat_lt, List, [], ◌∷◌, Option}
use Rattle.std.proofs.Common.{Some, None, refl, sym, ap, subst}
use Rattle.bac_wire.specs.Stamp.{CivilTime}
use Rattle.bac_link.specs.declared.transactions.Pending.{Pending}
use Rattle.bac_link.specs.declared.transactions.Transactions.{Transactions}
use Rattle.bac_archive.specs.declared.row.Put.{Put}
use Rattle.bac_drive.specs.declared.machine.Next.{Next}
use Rattle.bac_drive.specs.declared.machine.Next.TheVariants as next
use Rattle.bac_device_poll.specs.Logs.{after_end}
use Rattle.bac_device_poll.specs.Poll.{asked_of_device}
use Rattle.bac_device_poll.specs.Turns.{Turned}
use Rattle.bac_device_poll.specs.declared.question.Question.{Question}
use Rattle.bac_device_poll.specs.declared.question.Question.TheVariants.{Confirmed, Nothing, WhoIs}
use Rattle.bac_device_poll.specs.declared.turn.DeviceEnd.{DeviceEnd}
use Rattle.bac_answers.specs.declared.way.Way.{Way}
use Rattle.bac_device_poller.specs.Poller.{AsksNext, GivesBy, PollerAs, Settles, TellsNext, given_up, heard_by}
use Rattle.bac_device_poller.specs.Poller.{is_answer, lost_of, missed, seeks, sought_again, without_answer}
use Rattle.bac_device_poller.specs.Telling.{LineAs}
use Rattle.bac_device_poller.specs.declared.doing.Doing.{Doing}
use Rattle.bac_device_poller.specs.declared.doing.Doing.TheVariants as doing
use Rattle.bac_device_poller.specs.declared.ids.Ids.{Ids}
use Rattle.bac_site_poller.specs.Asked.{HomeAs, home_of}
use Rattle.bac_site_poller.specs.Seat.{Wants, lent}

-- ---- what it wants

pub home_settled : (t : Turned) (old new : PollerAs) (puts : List Put) → Settles t old puts new → home_of new ≡ home_of old
home_settled t old new puts (mid, takes, ended) = ap home_of ended.1

pub home_asked : (q : Question) (old new : PollerAs) (wanted : Next) → AsksNext q old wanted new → home_of new ≡ home_of old
home_asked (Confirmed request) old new (next.Send octets to) g = ap home_of g.2
home_asked (Confirmed request) old new wanted g = absurd g
home_asked WhoIs old new (next.Send octets to) g = ap home_of g.2
home_asked WhoIs old new wanted g = absurd g
home_asked Nothing old new (next.Keep puts) g = home_settled (after_end old.poll) old new puts.items g
home_asked Nothing old new wanted g = absurd g

home_told : (lines : List LineAs) (end : Option DeviceEnd) (old new : PollerAs) (wanted : Next) → TellsNext lines end old wanted new → home_of new ≡ home_of old
home_told (line ∷ lines) end old new wanted g = ap home_of g.1
home_told [] end old new wanted g = ap home_of g.1

pub home_given : (what : Doing) (old new : PollerAs) (wanted : Next) → GivesBy what old wanted new → home_of new ≡ home_of old
home_given doing.Asks old new wanted g = home_asked (asked_of_device old.poll) old new wanted g
home_given (doing.Resends datagram) old new (next.Send octets to) g = ap home_of g.2
home_given (doing.Resends datagram) old new wanted g = absurd g
home_given doing.Waits old new wanted g = ap home_of g.1
home_given (doing.Hears came) old new (next.Keep puts) (t, comes, settles) = home_settled t old new puts.items settles
home_given (doing.Hears came) old new wanted g = absurd g
home_given doing.Loses old new (next.Keep puts) g = home_settled (lost_of old) old new puts.items g
home_given doing.Loses old new wanted g = absurd g
home_given (doing.Tells end) old new wanted g = home_told old.rows.lines end old new wanted g
home_given (doing.Ended why) old new wanted g = ap home_of g.1

pub home_wanted : (what : Doing) (old new : PollerAs) (wanted : Next) → Wants what old wanted new → home_of new ≡ home_of old
home_wanted (doing.Ended why) old new wanted g = ap home_of g.1
home_wanted doing.Asks old new wanted g = home_given doing.Asks old new wanted g
home_wanted (doing.Resends datagram) old new wanted g = home_given (doing.Resends datagram) old new wanted g
home_wanted doing.Waits old new wanted g = home_given doing.Waits old new wanted g
home_wanted (doing.Hears came) old new wanted g = home_given (doing.Hears came) old new wanted g
home_wanted doing.Loses old new wanted g = home_given doing.Loses old new wanted g
home_wanted (doing.Tells end) old new wanted g = home_given (doing.Tells end) old new wanted g

-- ---- what it makes of what comes, and of time

of_both : (home : HomeAs) (b : Bool) (p q : PollerAs) → home_of p ≡ home → home_of q ≡ home → home_of (if b then p else q) ≡ home
of_both home true p q is also = is
of_both home false p q is also = also

pub home_heard : (from datagram : List ℕ) (now : CivilTime) (p : PollerAs) → home_of (heard_by from datagram now p) ≡ home_of p
home_heard from datagram now p = of_both (home_of p) (is_answer p from datagram) _ p refl refl

home_without : (p : PollerAs) (o : Option Pending) → home_of (without_answer p o) ≡ home_of p
home_without p None = refl
home_without p (Some request) = of_both (home_of p) (nat_le p.transactions.retries request.repeats) (given_up p) _ refl refl

home_sought : (p : PollerAs) → home_of (sought_again p) ≡ home_of p
home_sought p = of_both (home_of p) (nat_lt p.sought p.retries) _ (given_up p) refl refl

pub home_missed : (p : PollerAs) → home_of (missed p) ≡ home_of p
home_missed p =
    of_both (home_of p) (seeks p) (sought_again p) _ (home_sought p)
    (of_both (home_of p) p.poll.doubt (given_up p) _ refl (home_without p p.transactions.pending))

-- ---- so its address does

pub way_wanted : (what : Doing) (old new : PollerAs) (wanted : Next) → Wants what old wanted new → new.way ≡ old.way
way_wanted what old new wanted g = ap (λ (h : HomeAs). h.way) (home_wanted what old new wanted g)

pub way_heard : (from datagram : List ℕ) (now : CivilTime) (p : PollerAs) → (heard_by from datagram now p).way ≡ p.way
way_heard from datagram now p = ap (λ (h : HomeAs). h.way) (home_heard from datagram now p)

pub way_missed : (p : PollerAs) → (missed p).way ≡ p.way
way_missed p = ap (λ (h : HomeAs). h.way) (home_missed p)
