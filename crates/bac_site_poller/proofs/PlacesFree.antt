-- While devices wait for a place among those in flight, a site waits for no longer than a request has one.
use Rattle.std.proofs.Common.{◌≡◌, ◌≤◌, ◌<◌, ◌+◌, ◌-◌, inl, inr, ℕ, Bool, true, false, cond, nat_le, nat_lt, min}
use Rattle.std.proofs.Common.{if◌then◌else◌, List, [], ◌∷◌, All, count_by, length, Option, remove, refl, ap, subst, arith}
use Rattle.std.proofs.lemmas.Bool.{and_parts, leb-true}
use Rattle.std.proofs.lemmas.List.Elements.{All-head, All-tail}
use Rattle.std.proofs.lemmas.List.Sums.{sum_by-cons}
use Rattle.bac_drive.specs.declared.machine.Next.TheVariants as next
use Rattle.bac_device_poll.specs.Poll.{asked_of_device}
use Rattle.bac_device_poll.specs.declared.question.Question.{Question}
use Rattle.bac_device_poll.specs.declared.question.Question.TheVariants.{Confirmed, Nothing, WhoIs}
use Rattle.bac_device_poll.specs.declared.turn.DeviceEnd.{DeviceEnd}
use Rattle.bac_device_poller.specs.Poller.{AsksNext, PollerAs, TellsNext}
use Rattle.bac_device_poller.specs.Telling.{IsToldBy, LineAs}
use Rattle.bac_device_poller.specs.declared.doing.Doing.{Doing}
use Rattle.bac_device_poller.specs.declared.doing.Doing.TheVariants as doing
use Rattle.bac_site_poller.specs.News.{news_line}
use Rattle.bac_site_poller.specs.Seat.{Wants, age, fresh_ms, is_fresh, lent, sent_at, until}
use Rattle.bac_site_poller.specs.Site.{GivesFrom, GivesNews, GivesWaiting, IsNearest, Rests, SiteState, fresh_count}
use Rattle.bac_site_poller.specs.Site.{is_place_wanted, noted}
use Rattle.bac_site_poller.specs.SiteLaws.{PlacesComeFree}
use Rattle.bac_site_poller.specs.declared.news.News.{News}
use Rattle.bac_site_poller.specs.declared.seat.Seat.{Seat}

abbrev tally : Bool → ℕ
tally b = cond b 1 0

-- ---- a device alone doesn't want the site to wait

reads_on : (within : ℕ) → next.Wait within ≡ next.Read → ⊥
reads_on within read = cc

asks_on : (within : ℕ) (k : Question) (p q : PollerAs) → AsksNext k p (next.Wait within) q → ⊥
asks_on within (Confirmed request) p q g = g
asks_on within WhoIs p q g = g
asks_on within Nothing p q g = g

good_on : (within : ℕ) (good : Bool) (text : List ℕ) → IsToldBy good text (next.Wait within) → ⊥
good_on within true text told = told
good_on within false text told = told

tells_on : (within : ℕ) (lines : List LineAs) (end : Option DeviceEnd) (p q : PollerAs) → TellsNext lines end p (next.Wait within) q → ⊥
tells_on within (line ∷ lines) end p q g = good_on within line.good line.text g.0
tells_on within [] end p q g = reads_on within g.0

wants_on : (within : ℕ) (what : Doing) (p q : PollerAs) → Wants what p (next.Wait within) q → ⊥
wants_on within doing.Asks p q g = asks_on within (asked_of_device p.poll) p q g
wants_on within (doing.Resends datagram) p q g = g
wants_on within doing.Waits p q g = reads_on within g.0
wants_on within (doing.Hears came) p q g = g
wants_on within doing.Loses p q g = g
wants_on within (doing.Tells end) p q g = tells_on within p.rows.lines end p q g
wants_on within (doing.Ended why) p q g = reads_on within g.0

from_on : (within : ℕ) (old : SiteState) (s : Seat) (new : SiteState) → GivesFrom old s (next.Wait within) new → ⊥
from_on within old s new (p, gives, is) = wants_on within s.poller.doing (lent old.ids s.poller) p gives

-- ---- the first that gives up its place

-- a fresh one is waited for no longer than it is so
until_soon : (now : ℕ) (s : Seat) → is_fresh now s ≡ true → until true now s ≤ now + fresh_ms
until_soon now s fresh =
    let F : Bool → ℕ = λ b. if b then min s.due (now + (fresh_ms - age now s)) else s.due in
    let e : until true now s ≡ F true = ap F fresh in
    omega (arith, e)

-- if one of them is fresh, so it is of all of them
nearest_soon : (now due : ℕ) (seats : List Seat) → All (λ s. due ≤ until true now s) seats → 0 < count_by (is_fresh now) seats → due ≤ now + fresh_ms
nearest_soon now due [] least some = absurd (omega (arith, some))
nearest_soon now due (s ∷ seats) least some =
    let P : Seat → Type 0 = λ x. due ≤ until true now x in
    by (is_fresh now s) refl (All-head P s seats least) (λ more. nearest_soon now due seats (All-tail P s seats least) more)
  where
    by : (b : Bool) → is_fresh now s ≡ b → due ≤ until true now s → (0 < count_by (is_fresh now) seats → due ≤ now + fresh_ms) → due ≤ now + fresh_ms
    by true fresh first rest = omega (arith, first, until_soon now s fresh)
    by false old first rest =
        let none : tally (is_fresh now s) ≡ 0 = ap tally old in
        rest (omega (arith, none, some, sum_by-cons (λ (x : Seat). tally (is_fresh now x)) s seats))

-- where a place is wanted, all are held, and there is one at least
held : (s : SiteState) → is_place_wanted s ≡ true → 0 < fresh_count s
held s wanted =
    let both = and_parts (nat_lt 0 (length s.waiting)) (nat_le s.limits.at_once (fresh_count s)) wanted in
    omega (arith, leb-true s.limits.at_once (fresh_count s) both.1, s.limits.some_at_once)

rests_soon : (s : SiteState) (within : ℕ) → is_place_wanted s ≡ true → Rests s (next.Wait within) → within ≤ fresh_ms
rests_soon s within wanted (due, nearest, is) =
    let P : Bool → Type 0 = λ b. IsNearest (until b s.time) s.active due in
    let (least, one) = subst P wanted nearest in
    omega (arith, is, nearest_soon s.time due s.active least (held s wanted))

-- ---- what a site wants

waiting_soon : (stale : Bool) (old : SiteState) (within : ℕ) (new : SiteState) → is_place_wanted old ≡ true → GivesWaiting stale old (next.Wait within) new → within ≤ fresh_ms
waiting_soon true old within new wanted (is_read, same) = absurd (reads_on within is_read)
waiting_soon false old within new wanted (inl (place, s, there, asked, gives)) =
    absurd (from_on within (record old { waiting = remove old.waiting place }) (sent_at old.time s) new gives)
waiting_soon false old within new wanted (inr (none, rests, same)) = rests_soon old within wanted rests

news_soon : (l : List News) (old : SiteState) (within : ℕ) (new : SiteState) → is_place_wanted old ≡ true → GivesNews l old (next.Wait within) new → within ≤ fresh_ms
news_soon (news ∷ others) old within new wanted (told, is) = absurd (good_on within false (news_line news) told)
news_soon [] old within new wanted (inl (place, s, there, not, gives)) =
    absurd (from_on within (noted (record old { active = remove old.active place }) s) s new gives)
news_soon [] old within new wanted (inr (none, gives)) = waiting_soon old.is_stale old within new wanted gives

pub places_come_free : PlacesComeFree
places_come_free = λ old new within gives wanted. news_soon old.news old within new wanted gives
