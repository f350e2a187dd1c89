-- Never more questions are open than the limits say.
use Rattle.std.proofs.Common.{◌≡◌, ◌≤◌, ◌&&◌, ◌==◌, ◌∙◌, inl, inr, ℕ, Bool, true, false, not, cond, nat_lt, List, []}
use Rattle.std.proofs.Common.{◌∷◌, ◌++◌, All, Ok, Err, length, get_or, remove, refl, sym, ap, subst}
use Rattle.std.proofs.Common.{arith}
use Rattle.std.specs.List.{count_by}
use Rattle.std.proofs.lemmas.Bool.{and_parts, eqb-true}
use Rattle.std.proofs.lemmas.List.Elements.{All-head, All-tail, All-weaker}
use Rattle.std.proofs.lemmas.List.Sums.{sum_by-append, sum_by-cons}
use Rattle.bac_drive.specs.Chain.{Chain}
use Rattle.bac_ports.specs.Port.{Receiving}
use Rattle.bac_drive.specs.Event.{Event, Kept, Printed, Read, Sent, Waited, Warned}
use Rattle.bac_drive.specs.declared.machine.Next.{Next}
use Rattle.bac_device_poller.specs.declared.doing.Doing.{Doing}
use Rattle.bac_device_poller.specs.declared.doing.Doing.TheVariants as doing
use Rattle.bac_site_poller.specs.Seat.{age, fresh_ms, is_at, is_first, is_fresh, sent_at}
use Rattle.bac_site_poller.specs.Site.{GivesFrom, GivesNews, GivesWaiting, IsWithin, SiteState, noted}
use Rattle.bac_site_poller.specs.Site.{put_by, site_heard}
use Rattle.bac_site_poller.specs.SiteLaws.{IsMarked, IsUnasked, OpenWithin, again_of, is_open, is_open_at, is_open_fresh, is_open_once}
use Rattle.bac_site_poller.specs.SiteLaws.{is_out, SiteSteps}
use Rattle.bac_site_poller.specs.declared.limits.Limits.{Limits}
use Rattle.bac_site_poller.specs.declared.news.News.{News}
use Rattle.bac_site_poller.specs.declared.seat.Seat.{Seat}
use Rattle.bac_site_poller.proofs.Seated.{Queues, Stays, unasked_seated}
use Rattle.bac_site_poller.proofs.SeatedRun.{not_open, repeats_are_marked, run as seated_run}
use Rattle.bac_site_poller.proofs.Told.{ToldSite, told_site}
use Rattle.bac_site_poller.proofs.WithinEvents.{within_limits}

abbrev tally : Bool → ℕ
tally b = cond b 1 0

-- ---- the limits stay

put_same : (what : Doing) (s : SiteState) (seat : Seat) → (put_by what s seat).limits ≡ s.limits
put_same doing.Asks s seat = refl
put_same doing.Waits s seat = refl
put_same (doing.Resends datagram) s seat = refl
put_same (doing.Hears came) s seat = refl
put_same doing.Loses s seat = refl
put_same (doing.Tells end) s seat = refl
put_same (doing.Ended why) s seat = refl

from_same : (old : SiteState) (s : Seat) (wanted : Next) (new : SiteState) → GivesFrom old s wanted new → new.limits ≡ old.limits
from_same old s wanted new (p, gives, is) = ap (λ (x : SiteState). x.limits) is ∙ put_same p.doing (record old { ids = p.rows.ids }) (record s { poller = p })

waiting_same : (stale : Bool) (old : SiteState) (wanted : Next) (new : SiteState) → GivesWaiting stale old wanted new → new.limits ≡ old.limits
waiting_same true old wanted new (is_read, same) = ap (λ (x : SiteState). x.limits) same
waiting_same false old wanted new (inl (place, s, there, asked, gives)) = from_same (record old { waiting = remove old.waiting place }) (sent_at old.time s) wanted new gives
waiting_same false old wanted new (inr (none, rests, same)) = ap (λ (x : SiteState). x.limits) same

news_same : (l : List News) (old : SiteState) (wanted : Next) (new : SiteState) → GivesNews l old wanted new → new.limits ≡ old.limits
news_same (news ∷ others) old wanted new (told, is) = ap (λ (x : SiteState). x.limits) is
news_same [] old wanted new (inl (place, s, there, not, gives)) = from_same (noted (record old { active = remove old.active place }) s) s wanted new gives
news_same [] old wanted new (inr (none, gives)) = waiting_same old.is_stale old wanted new gives

told_same : (e : Event) (mid new : SiteState) → ToldSite mid e new → new.limits ≡ mid.limits
told_same (Waited within heard) mid new (now, moment, is) = ap (λ (x : SiteState). x.limits) is ∙ heard_same heard
  where
    heard_same : (h : Receiving) → (site_heard now h mid).limits ≡ mid.limits
    heard_same (Err fault) = refl
    heard_same (Ok heard) = refl
told_same (Read ms) mid new is = ap (λ (x : SiteState). x.limits) is
told_same (Sent octets to answer) mid new is = ap (λ (x : SiteState). x.limits) is
told_same (Kept puts) mid new is = ap (λ (x : SiteState). x.limits) is
told_same (Printed text) mid new is = ap (λ (x : SiteState). x.limits) is
told_same (Warned text) mid new is = ap (λ (x : SiteState). x.limits) is

run_same : (es : List Event) (old new : SiteState) → Chain SiteSteps old es new → new.limits ≡ old.limits
run_same [] old new same = ap (λ (s : SiteState). s.limits) same
run_same (e ∷ es) old new (mid, (wanted, half, gives, does, is), more) =
    run_same es mid new more ∙ told_same e half mid (told_site half mid e is) ∙ news_same old.news old wanted half gives

-- ---- what is open is active

-- one test passes where another does
fewer : (p q : Seat → Bool) (seats : List Seat) → All (λ s. tally (p s) ≤ tally (q s)) seats → count_by p seats ≤ count_by q seats
fewer p q [] all = omega arith
fewer p q (s ∷ seats) all =
    let P : Seat → Type 0 = λ x. tally (p x) ≤ tally (q x) in
    let first : tally (p s) ≤ tally (q s) = All-head P s seats all in
    let rest = fewer p q seats (All-tail P s seats all) in
    omega (arith, first, rest, sum_by-cons (λ (x : Seat). tally (p x)) s seats, sum_by-cons (λ (x : Seat). tally (q x)) s seats)

-- one test passes nowhere
none_of : (p : Seat → Bool) (seats : List Seat) → All (λ s. p s ≡ false) seats → count_by p seats ≡ 0
none_of p [] all = refl
none_of p (s ∷ seats) all =
    let P : Seat → Type 0 = λ x. p x ≡ false in
    let first : tally (p s) ≡ 0 = ap tally (All-head P s seats all) in
    let rest = none_of p seats (All-tail P s seats all) in
    omega (arith, first, rest, sum_by-cons (λ (x : Seat). tally (p x)) s seats)

-- of all seats, those that are active are counted
counted : (p : Seat → Bool) (s : SiteState) → All (λ x. p x ≡ false) s.waiting → All (λ x. p x ≡ false) s.ended → count_by p (s.active ++ (s.waiting ++ s.ended)) ≡ count_by p s.active
counted p s waiting ended =
    let f : Seat → ℕ = λ x. tally (p x) in
    omega (arith, sum_by-append f s.active (s.waiting ++ s.ended), sum_by-append f s.waiting s.ended, none_of p s.waiting waiting, none_of p s.ended ended)

-- those that wait for their turn, and those that have ended, aren't open
queues_not : (start : List Seat) (s : Seat) → Queues start s → is_open s ≡ false
queues_not start s queues = not_open s queues.closed (ap is_out queues.asks)

stays_not : (s : Seat) → Stays s → is_open s ≡ false
stays_not s stays = not_open s stays.closed (ap is_out stays.ended)

-- so they pass no test that asks for that
fresh_not : (now : ℕ) (s : Seat) → is_open s ≡ false → is_open_fresh now s ≡ false
fresh_not now s not = ap (λ (b : Bool). (b && again_of s.poller == 0) && nat_lt (age now s) fresh_ms) not

at_not : (peer : List ℕ) (s : Seat) → is_open s ≡ false → is_open_at peer s ≡ false
at_not peer s not = ap (λ (b : Bool). b && is_at peer s) not

at_most : (b : Bool) → tally b ≤ 1
at_most true = omega arith
at_most false = omega arith

-- what was sent once isn't marked
once_first : (s : Seat) → IsMarked s → tally (is_open_once s) ≤ tally (is_first s)
once_first s marked = by (is_open_once s) refl
  where
    by : (b : Bool) → is_open_once s ≡ b → tally (is_open_once s) ≤ tally (is_first s)
    by false shut = let e : tally (is_open_once s) ≡ 0 = ap tally shut in omega (arith, e)
    by true once =
        let both = and_parts (is_open s) (again_of s.poller == 0) once in
        let never : again_of s.poller ≡ 0 = eqb-true (again_of s.poller) 0 both.1 in
        let fresh : s.is_repeated ≡ false = marked both.0 ∙ ap (λ (n : ℕ). nat_lt 0 n) never in
        let one : tally (is_first s) ≡ 1 = ap (λ (b : Bool). tally (not b)) fresh in
        omega (arith, one, at_most (is_open_once s))

both : (a b c : Bool) → tally a ≤ tally b → tally (a && c) ≤ tally (b && c)
both true true c less = omega arith
both true false c less = absurd (omega (arith, less))
both false b c less = omega arith

-- so it is of what is fresh
open_fresh : (now : ℕ) (s : Seat) → IsMarked s → tally (is_open_fresh now s) ≤ tally (is_fresh now s)
open_fresh now s marked = both (is_open_once s) (is_first s) (nat_lt (age now s) fresh_ms) (once_first s marked)

open_at : (peer : List ℕ) (s : Seat) → tally (is_open_at peer s) ≤ tally (is_at peer s)
open_at peer s = by (is_open s)
  where
    by : (b : Bool) → tally (b && is_at peer s) ≤ tally (is_at peer s)
    by true = omega arith
    by false = omega arith

-- at most all
all_of : (p : Seat → Bool) (seats : List Seat) → count_by p seats ≤ length seats
all_of p [] = omega arith
all_of p (s ∷ seats) = let rest = all_of p seats in omega (arith, rest, at_most (p s), sum_by-cons (λ (x : Seat). tally (p x)) s seats)

begins_within : (s : SiteState) → IsUnasked s → IsWithin s
begins_within s (none, new, untold) =
    let P : List Seat → Type 0 = λ l. (count_by (is_fresh s.time) l ≤ s.limits.at_once) × (length l ≤ s.limits.most) × ((peer : List ℕ) → count_by (is_at peer) l ≤ s.limits.at_host) in
    subst P (sym none) (omega arith, omega arith, λ peer. omega arith)

pub open_within : OpenWithin
open_within = λ old new es unasked chain.
    let start = old.waiting in
    let seated = seated_run start [] es old new (unasked_seated old unasked) chain in
    let same = run_same es old new chain in
    let within = within_limits old new es (begins_within old unasked) chain in
    let marked = repeats_are_marked old new es unasked chain in
    let s = new in
    let waiting = All-weaker (Queues start) (λ x. is_open x ≡ false) (queues_not start) s.waiting seated.waiting in
    let ended = All-weaker Stays (λ x. is_open x ≡ false) stays_not s.ended seated.ended in
    let now = s.time in
    let fresh = fewer (is_open_fresh now) (is_fresh now) s.active (All-weaker IsMarked (λ x. tally (is_open_fresh now x) ≤ tally (is_fresh now x)) (open_fresh now) s.active marked) in
    let fresh_is = counted (is_open_fresh now) s (All-weaker (λ x. is_open x ≡ false) (λ x. is_open_fresh now x ≡ false) (fresh_not now) s.waiting waiting) (All-weaker (λ x. is_open x ≡ false) (λ x. is_open_fresh now x ≡ false) (fresh_not now) s.ended ended) in
    let open_is = counted is_open s waiting ended in
    let at_once = ap (λ (l : Limits). l.at_once) same in
    let most = ap (λ (l : Limits). l.most) same in
    let at_host = ap (λ (l : Limits). l.at_host) same in (
      same,
      omega (arith, fresh, fresh_is, within.0, at_once),
      omega (arith, all_of is_open s.active, open_is, within.1, most),
      λ peer.
          let one = fewer (is_open_at peer) (is_at peer) s.active (λ k d below. open_at peer (get_or s.active k d)) in
          let at_is = counted (is_open_at peer) s (All-weaker (λ x. is_open x ≡ false) (λ x. is_open_at peer x ≡ false) (at_not peer) s.waiting waiting) (All-weaker (λ x. is_open x ≡ false) (λ x. is_open_at peer x ≡ false) (at_not peer) s.ended ended) in
          let before = within.2 peer in
          omega (arith, one, at_is, before, at_host),
    )
