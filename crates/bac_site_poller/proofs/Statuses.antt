-- The status of a site.
use Rattle.std.proofs.Common.{◌≡◌, ◌≤◌, ◌+◌, inl, inr, ℕ, Bool, true, false, cond, if◌then◌else◌, nat_lt, nat_le, List}
use Rattle.std.proofs.Common.{[], ◌∷◌, ◌++◌, All, fold, map, max, remove, slice_get, get_or, Option, Some, None, Ok, Err}
use Rattle.std.proofs.Common.{refl, sym, ap, subst, arith}
use Rattle.std.proofs.lemmas.Bool.{ltb-false, ltb-true}
use Rattle.std.proofs.lemmas.List.Elements.{All-append, All-cons, All-contains, All-contains_itself, All-map, All-nil}
use Rattle.std.proofs.lemmas.List.Elements.{All-push, All-weaker, Contains-append_left, Contains-append_right}
use Rattle.std.proofs.lemmas.List.Sums.{sum_by-append, sum_by-cons, sum_by-remove}
use Rattle.std.proofs.lemmas.Option.{get_or_from_slice_get, slice_get_within}
use Rattle.std.specs.List.{Contains, count_by}
use Rattle.bac_wire.specs.Stamp.{CivilTime}
use Rattle.bac_link.specs.declared.transactions.Pending.{Pending}
use Rattle.bac_ports.specs.Port.{Receiving}
use Rattle.bac_drive.specs.declared.machine.Next.{Next}
use Rattle.bac_device_poller.specs.Poller.{PollerAs, given_up, heard_by, is_answer, missed, seeks, sought_again}
use Rattle.bac_device_poller.specs.Poller.{without_answer}
use Rattle.bac_device_poller.specs.Status.{code, greater_of}
use Rattle.bac_device_poller.specs.StatusLaws.{RisesAsTold, left_status}
use Rattle.bac_device_poller.specs.declared.doing.Doing.{Doing}
use Rattle.bac_device_poller.specs.declared.doing.Doing.TheVariants as doing
use Rattle.bac_device_poller.specs.declared.status.Status.{Status}
use Rattle.bac_device_poller.specs.declared.status.Status.TheVariants.{Done}
use Rattle.bac_device_poller.proofs.Statuses.{greater_left, greater_right, wants}
use Rattle.bac_site_poller.specs.Seat.{Wants, is_due, lent, seat_heard, seat_read, sent_at}
use Rattle.bac_site_poller.specs.Site.{GivesFrom, GivesNews, GivesWaiting, SiteState, due_from, given, noted}
use Rattle.bac_site_poller.specs.Site.{is_asked_at, put_by, site_heard, site_read}
use Rattle.bac_site_poller.specs.SiteLaws.{IsNew, seats_of}
use Rattle.bac_site_poller.specs.Status.{AreCounted, EndsAreCounted, IsCountedIn, StatusNeverFalls, site_status}
use Rattle.bac_site_poller.specs.Status.{with_seat}
use Rattle.bac_site_poller.specs.declared.news.News.{News}
use Rattle.bac_site_poller.specs.declared.seat.Seat.{Seat}
use Rattle.bac_site_poller.proofs.Places.{at_place, but_one}
use Rattle.bac_site_poller.proofs.Strays.{all_heeded, sum_heeded}

-- ---- one poll

-- the status of a poll rises, and what is counted stays so
record Keeps (p q : PollerAs) : Type 0 where
  pub rises : code p.rows.status ≤ code q.rows.status
  pub counts : code (left_status p.doing) ≤ code p.rows.status → code (left_status q.doing) ≤ code q.rows.status

stays : (p : PollerAs) → Keeps p p
stays p = record { rises = omega arith; counts = λ c. c }

of_tells : (p q : PollerAs) → RisesAsTold p q → Keeps p q
of_tells p q tells = record { rises = tells.grows; counts = tells.counts }

wants_keeps : (what : Doing) (p q : PollerAs) (wanted : Next) → p.doing ≡ what → Wants what p wanted q → Keeps p q
wants_keeps (doing.Ended why) p q wanted was g = let K : PollerAs → Type 0 = λ x. Keeps p x in subst K (sym g.1) (stays p)
wants_keeps doing.Asks p q wanted was g = of_tells p q (wants doing.Asks p q wanted was g)
wants_keeps (doing.Resends datagram) p q wanted was g = of_tells p q (wants (doing.Resends datagram) p q wanted was g)
wants_keeps doing.Waits p q wanted was g = of_tells p q (wants doing.Waits p q wanted was g)
wants_keeps (doing.Hears came) p q wanted was g = of_tells p q (wants (doing.Hears came) p q wanted was g)
wants_keeps doing.Loses p q wanted was g = of_tells p q (wants doing.Loses p q wanted was g)
wants_keeps (doing.Tells end) p q wanted was g = of_tells p q (wants (doing.Tells end) p q wanted was g)

-- the same of one of two
of_both : (p : PollerAs) (b : Bool) (q r : PollerAs) → Keeps p q → Keeps p r → Keeps p (if b then q else r)
of_both p true q r is also = is
of_both p false q r is also = also

heard_keeps : (from datagram : List ℕ) (now : CivilTime) (p : PollerAs) → Keeps p (heard_by from datagram now p)
heard_keeps from datagram now p = of_both p (is_answer p from datagram) _ p (record { rises = omega arith; counts = λ c. omega arith }) (stays p)

gives_up : (p : PollerAs) → Keeps p (given_up p)
gives_up p = record { rises = omega arith; counts = λ c. omega arith }

without_keeps : (p : PollerAs) (o : Option Pending) → Keeps p (without_answer p o)
without_keeps p None = gives_up p
without_keeps p (Some request) =
    of_both p (nat_le p.transactions.retries request.repeats) (given_up p) _ (gives_up p) (record { rises = omega arith; counts = λ c. omega arith })

missed_keeps : (p : PollerAs) → Keeps p (missed p)
missed_keeps p =
    of_both p (seeks p) (sought_again p) _ (of_both p (nat_lt p.sought p.retries) _ (given_up p) (record { rises = omega arith; counts = λ c. omega arith }) (gives_up p))
    (of_both p p.poll.doubt (given_up p) _ (gives_up p) (without_keeps p p.transactions.pending))

read_keeps : (now : ℕ) (s : Seat) → Keeps s.poller (seat_read now s).poller
read_keeps now s = by (is_due now s)
  where
    by : (b : Bool) → Keeps s.poller (if b then record s { poller = missed s.poller; is_repeated = true } else s).poller
    by true = missed_keeps s.poller
    by false = stays s.poller

given_keeps : (old : SiteState) (s : Seat) (p : PollerAs) (wanted : Next) → Wants s.poller.doing (lent old.ids s.poller) wanted p → Keeps s.poller p
given_keeps old s p wanted gives =
    let k = wants_keeps s.poller.doing (lent old.ids s.poller) p wanted refl gives in
    record { rises = k.rises; counts = k.counts }

-- ---- the greatest status

greater_most : (n : ℕ) (a b : Status) → code a ≤ n → code b ≤ n → code (greater_of a b) ≤ n
greater_most n a b first second = by (nat_lt (code a) (code b))
  where
    by : (t : Bool) → code (if t then b else a) ≤ n
    by true = second
    by false = first

folded_least : (a : Status) (seats : List Seat) → code a ≤ code (fold with_seat a seats)
folded_least a [] = omega arith
folded_least a (s ∷ seats) =
    let x = greater_left a s.poller.rows.status in let y = folded_least (with_seat a s) seats in omega (arith, x, y)

-- whether the status of a device is greater than a number
abbrev is_above : ℕ → Seat → Bool
is_above n s = nat_lt n (code s.poller.rows.status)

abbrev tally : Bool → ℕ
tally b = cond b 1 0

-- one that isn't counts nothing
none_one : (n : ℕ) (s : Seat) → code s.poller.rows.status ≤ n → tally (is_above n s) ≡ 0
none_one n s most = by (is_above n s) refl
  where
    by : (b : Bool) → nat_lt n (code s.poller.rows.status) ≡ b → tally b ≡ 0
    by true above = absurd (omega (arith, ltb-true n (code s.poller.rows.status) above, most))
    by false above = refl

one_most : (n : ℕ) (s : Seat) → tally (is_above n s) ≡ 0 → code s.poller.rows.status ≤ n
one_most n s none = by (is_above n s) refl none
  where
    by : (b : Bool) → nat_lt n (code s.poller.rows.status) ≡ b → tally b ≡ 0 → code s.poller.rows.status ≤ n
    by true above zero = absurd (omega (arith, zero))
    by false above zero = omega (arith, ltb-false n (code s.poller.rows.status) above)

none_above : (n : ℕ) (a : Status) (seats : List Seat) → code (fold with_seat a seats) ≤ n → count_by (is_above n) seats ≡ 0
none_above n a [] most = refl
none_above n a (s ∷ seats) most =
    let f : Seat → ℕ = λ x. tally (is_above n x) in
    let b = with_seat a s in
    let own : code s.poller.rows.status ≤ n =
    let x = greater_right a s.poller.rows.status in let y = folded_least b seats in omega (arith, x, y, most) in
    let first : f s ≡ 0 = none_one n s own in
    let rest = none_above n b seats most in
    omega (arith, first, rest, sum_by-cons f s seats)

most_of : (n : ℕ) (a : Status) (seats : List Seat) → code a ≤ n → count_by (is_above n) seats ≡ 0 → code (fold with_seat a seats) ≤ n
most_of n a [] most none = most
most_of n a (s ∷ seats) most none =
    let f : Seat → ℕ = λ x. tally (is_above n x) in
    let cons = sum_by-cons f s seats in
    let first : f s ≡ 0 = omega (arith, none, cons) in
    let rest : count_by (is_above n) seats ≡ 0 = omega (arith, none, cons) in
    most_of n (with_seat a s) seats (greater_most n a s.poller.rows.status most (one_most n s first)) rest

-- each is no greater
each_most : (a : Status) (seats : List Seat) → All (λ s. code s.poller.rows.status ≤ code (fold with_seat a seats)) seats
each_most a [] = All-nil (λ s. code s.poller.rows.status ≤ code a)
each_most a (s ∷ seats) =
    let b = with_seat a s in
    let own : code s.poller.rows.status ≤ code (fold with_seat b seats) =
    let x = greater_right a s.poller.rows.status in let y = folded_least b seats in omega (arith, x, y) in
    All-cons (λ x. code x.poller.rows.status ≤ code (fold with_seat b seats)) s seats own (each_most b seats)

-- ---- how many are above a number

abbrev count_above : ℕ → SiteState → ℕ
count_above n s = count_by (is_above n) s.active + count_by (is_above n) s.waiting + count_by (is_above n) s.ended

all_above : (n : ℕ) (s : SiteState) → count_by (is_above n) (seats_of s) ≡ count_above n s
all_above n s =
    let f : Seat → ℕ = λ x. tally (is_above n x) in
    omega (arith, sum_by-append f s.active (s.waiting ++ s.ended), sum_by-append f s.waiting s.ended)

one_more : (n : ℕ) (seats : List Seat) (seat : Seat) → count_by (is_above n) (seats ++ seat ∷ []) ≡ count_by (is_above n) seats + tally (is_above n seat)
one_more n seats seat = let f : Seat → ℕ = λ x. tally (is_above n x) in omega (arith, sum_by-append f seats (seat ∷ []), sum_by-cons f seat [])

less_one : (n : ℕ) (seats : List Seat) (place : ℕ) (s : Seat) → slice_get seats place ≡ Some s → count_by (is_above n) (remove seats place) + tally (is_above n s) ≡ count_by (is_above n) seats
less_one n seats place s there =
    let f : Seat → ℕ = λ x. tally (is_above n x) in
    let is : f (get_or seats place s) ≡ f s = ap f (get_or_from_slice_get seats place s s there) in
    omega (arith, is, sum_by-remove f seats place s (slice_get_within seats place s there))

put_above : (n : ℕ) (what : Doing) (s : SiteState) (seat : Seat) → count_above n (put_by what s seat) ≡ count_above n s + tally (is_above n seat)
put_above n doing.Asks s seat = omega (arith, one_more n s.waiting (record seat { is_repeated = false; stray = None }))
put_above n doing.Waits s seat = omega (arith, one_more n s.active (record seat { due = due_from s }))
put_above n (doing.Resends datagram) s seat = omega (arith, one_more n s.active seat)
put_above n (doing.Hears came) s seat = omega (arith, one_more n s.active seat)
put_above n doing.Loses s seat = omega (arith, one_more n s.active seat)
put_above n (doing.Tells end) s seat = omega (arith, one_more n s.active seat)
put_above n (doing.Ended why) s seat = omega (arith, one_more n s.ended seat)

higher : (n a b : ℕ) → a ≤ b → tally (nat_lt n a) ≤ tally (nat_lt n b)
higher n a b less = by (nat_lt n a) (nat_lt n b) refl refl
  where
    by : (x y : Bool) → nat_lt n a ≡ x → nat_lt n b ≡ y → tally x ≤ tally y
    by true true is also = omega arith
    by true false is also = absurd (omega (arith, ltb-true n a is, ltb-false n b also, less))
    by false y is also = omega arith

from_above : (n : ℕ) (old : SiteState) (s : Seat) (wanted : Next) (new : SiteState) → GivesFrom old s wanted new → count_above n old + tally (is_above n s) ≤ count_above n new
from_above n old s wanted new (p, gives, is) =
    let t : Seat = record s { poller = p } in
    let o : SiteState = record old { ids = p.rows.ids } in
    let e : count_above n new ≡ count_above n (put_by p.doing o t) = ap (count_above n) is in
    let k = given_keeps old s p wanted gives in
    omega (arith, e, put_above n p.doing o t, higher n (code s.poller.rows.status) (code p.rows.status) k.rises)

same_above : (n : ℕ) (old new : SiteState) → new ≡ old → count_above n old ≤ count_above n new
same_above n old new same = let e : count_above n new ≡ count_above n old = ap (count_above n) same in omega (arith, e)

waiting_above : (n : ℕ) (stale : Bool) (old : SiteState) (wanted : Next) (new : SiteState) → GivesWaiting stale old wanted new → count_above n old ≤ count_above n new
waiting_above n true old wanted new (is_read, same) = same_above n old new same
waiting_above n false old wanted new (inl (place, s, there, asked, gives)) =
    omega (arith, from_above n (record old { waiting = remove old.waiting place }) (sent_at old.time s) wanted new gives, less_one n old.waiting place s there)
waiting_above n false old wanted new (inr (none, rests, same)) = same_above n old new same

news_above : (n : ℕ) (l : List News) (old : SiteState) (wanted : Next) (new : SiteState) → GivesNews l old wanted new → count_above n old ≤ count_above n new
news_above n (news ∷ others) old wanted new (told, is) = let e : count_above n new ≡ count_above n old = ap (count_above n) is in omega (arith, e)
news_above n [] old wanted new (inl (place, s, there, not, gives)) =
    omega (arith, from_above n (noted (record old { active = remove old.active place }) s) s wanted new gives, less_one n old.active place s there)
news_above n [] old wanted new (inr (none, gives)) = waiting_above n old.is_stale old wanted new gives

mapped_above : (n : ℕ) (f : Seat → Seat) → ((s : Seat) → Keeps s.poller (f s).poller) → (seats : List Seat) → count_by (is_above n) seats ≤ count_by (is_above n) (map f seats)
mapped_above n f keeps [] = omega arith
mapped_above n f keeps (s ∷ seats) =
    let g : Seat → ℕ = λ x. tally (is_above n x) in
    let k = keeps s in
    let first = higher n (code s.poller.rows.status) (code (f s).poller.rows.status) k.rises in
    omega (arith, first, mapped_above n f keeps seats, sum_by-cons g s seats, sum_by-cons g (f s) (map f seats))

given_above : (n : ℕ) (known : Bool) (from : List ℕ) (o : Option (List ℕ)) (now : CivilTime) (seats : List Seat) →
    count_by (is_above n) seats ≤ count_by (is_above n) (given known from o now seats)
given_above n known from None now seats = omega arith
given_above n known from (Some datagram) now seats =
    let f : Seat → Seat = seat_heard from datagram now in
    omega (
      arith,
      mapped_above n f (λ x. heard_keeps from datagram now x.poller) seats,
      sum_heeded (λ (x : Seat). tally (is_above n x)) from datagram (λ x. refl) known (map f seats),
    )

heard_above : (n : ℕ) (now : CivilTime) (heard : Receiving) (s : SiteState) → count_above n s ≤ count_above n (site_heard now heard s)
heard_above n now (Err fault) s = omega arith
heard_above n now (Ok heard) s = omega (arith, given_above n (is_asked_at s heard.from) heard.from heard.datagram now s.active)

read_above : (n ms : ℕ) (s : SiteState) → count_above n s ≤ count_above n (site_read ms s)
read_above n ms s = omega (arith, mapped_above n (seat_read (max s.time ms)) (read_keeps (max s.time ms)) s.active)

-- so the greatest doesn't fall
rises_by : (old new : SiteState) → ((n : ℕ) → count_above n old ≤ count_above n new) → code (site_status old) ≤ code (site_status new)
rises_by old new more =
    let n = code (site_status new) in
    let none = none_above n Done (seats_of new) (omega arith) in
    most_of n Done (seats_of old) (omega arith) (omega (arith, none, all_above n new, all_above n old, more n))

-- ---- what is counted

abbrev Counts : Seat → Type 0
Counts s = IsCountedIn s.poller.rows.status s

-- all of a site, where they are
record Held (s : SiteState) : Type 0 where
  pub active : All Counts s.active
  pub waiting : All Counts s.waiting
  pub ended : All Counts s.ended

of_left : (P : Seat → Type 0) (xs ys : List Seat) → All P (xs ++ ys) → All P xs
of_left P xs ys all = All-weaker (Contains xs) P (λ x within. All-contains P (xs ++ ys) x all (Contains-append_left xs ys x within)) xs (All-contains_itself xs)

of_right : (P : Seat → Type 0) (xs ys : List Seat) → All P (xs ++ ys) → All P ys
of_right P xs ys all = All-weaker (Contains ys) P (λ x within. All-contains P (xs ++ ys) x all (Contains-append_right xs ys x within)) ys (All-contains_itself ys)

held : (s : SiteState) → AreCounted s → Held s
held s all =
    let others = of_right Counts s.active (s.waiting ++ s.ended) all in
    record { active = of_left Counts s.active (s.waiting ++ s.ended) all; waiting = of_left Counts s.waiting s.ended others; ended = of_right Counts s.waiting s.ended others }

released : (s : SiteState) → Held s → AreCounted s
released s h = All-append Counts s.active (s.waiting ++ s.ended) h.active (All-append Counts s.waiting s.ended h.waiting h.ended)

active_more : (s : SiteState) (seat : Seat) → Held s → Counts seat → Held (record s { active = s.active ++ seat ∷ [] })
active_more s seat h on = record { active = All-push Counts s.active seat h.active on; waiting = h.waiting; ended = h.ended }

put_held : (what : Doing) (s : SiteState) (seat : Seat) → Held s → Counts seat → Held (put_by what s seat)
put_held doing.Asks s seat h on = record {
  active = h.active;
  waiting = All-push Counts s.waiting (record seat { is_repeated = false; stray = None }) h.waiting on;
  ended = h.ended;
}
put_held doing.Waits s seat h on = active_more s (record seat { due = due_from s }) h on
put_held (doing.Resends datagram) s seat h on = active_more s seat h on
put_held (doing.Hears came) s seat h on = active_more s seat h on
put_held doing.Loses s seat h on = active_more s seat h on
put_held (doing.Tells end) s seat h on = active_more s seat h on
put_held (doing.Ended why) s seat h on = record { active = h.active; waiting = h.waiting; ended = All-push Counts s.ended seat h.ended on }

from_held : (old : SiteState) (s : Seat) (wanted : Next) (new : SiteState) → Held old → Counts s → GivesFrom old s wanted new → Held new
from_held old s wanted new h on (p, gives, is) =
    let k = given_keeps old s p wanted gives in
    let o : SiteState = record old { ids = p.rows.ids } in
    subst Held (sym is) (put_held p.doing o (record s { poller = p }) (record { active = h.active; waiting = h.waiting; ended = h.ended }) (k.counts on))

waiting_held : (stale : Bool) (old : SiteState) (wanted : Next) (new : SiteState) → Held old → GivesWaiting stale old wanted new → Held new
waiting_held true old wanted new h (is_read, same) = subst Held (sym same) h
waiting_held false old wanted new h (inl (place, s, there, asked, gives)) =
    from_held (record old { waiting = remove old.waiting place }) (sent_at old.time s) wanted new
    (record { active = h.active; waiting = but_one Counts old.waiting place h.waiting; ended = h.ended }) (at_place Counts old.waiting place s h.waiting there) gives
waiting_held false old wanted new h (inr (none, rests, same)) = subst Held (sym same) h

news_held : (l : List News) (old : SiteState) (wanted : Next) (new : SiteState) → Held old → GivesNews l old wanted new → Held new
news_held (news ∷ others) old wanted new h (told, is) = subst Held (sym is) (record { active = h.active; waiting = h.waiting; ended = h.ended })
news_held [] old wanted new h (inl (place, s, there, not, gives)) =
    from_held (noted (record old { active = remove old.active place }) s) s wanted new
    (record { active = but_one Counts old.active place h.active; waiting = h.waiting; ended = h.ended }) (at_place Counts old.active place s h.active there) gives
news_held [] old wanted new h (inr (none, gives)) = waiting_held old.is_stale old wanted new h gives

mapped_held : (f : Seat → Seat) → ((s : Seat) → Keeps s.poller (f s).poller) → (seats : List Seat) → All Counts seats → All Counts (map f seats)
mapped_held f keeps seats all =
    All-map Counts f seats (All-weaker Counts (λ x. Counts (f x)) (λ x on. let k = keeps x in k.counts on) seats all)

heard_held : (now : CivilTime) (heard : Receiving) (s : SiteState) → Held s → Held (site_heard now heard s)
heard_held now (Err fault) s h = record { active = h.active; waiting = h.waiting; ended = h.ended }
heard_held now (Ok heard) s h = record { active = by heard.datagram; waiting = h.waiting; ended = h.ended }
  where
    by : (o : Option (List ℕ)) → All Counts (given (is_asked_at s heard.from) heard.from o now s.active)
    by None = h.active
    by (Some datagram) =
        let f : Seat → Seat = seat_heard heard.from datagram now in
        all_heeded Counts heard.from datagram (λ x on. on) (is_asked_at s heard.from) (map f s.active)
        (mapped_held f (λ x. heard_keeps heard.from datagram now x.poller) s.active h.active)

read_held : (ms : ℕ) (s : SiteState) → Held s → Held (site_read ms s)
read_held ms s h = record { active = mapped_held (seat_read (max s.time ms)) (read_keeps (max s.time ms)) s.active h.active; waiting = h.waiting; ended = h.ended }

-- ---- the laws

pub status_never_falls : StatusNeverFalls
status_never_falls = (
  λ old new wanted gives. record {
    rises = rises_by old new (λ n. news_above n old.news old wanted new gives);
    counts = λ all. released new (news_held old.news old wanted new (held old all) gives);
  },
  λ s now heard. record {
    rises = rises_by s (site_heard now heard s) (λ n. heard_above n now heard s);
    counts = λ all. released (site_heard now heard s) (heard_held now heard s (held s all));
  },
  λ s ms. record {
    rises = rises_by s (site_read ms s) (λ n. read_above n ms s);
    counts = λ all. released (site_read ms s) (read_held ms s (held s all));
  },
)

-- one that isn't asked yet hasn't ended
new_counts : (s : Seat) → IsNew s → Counts s
new_counts s new =
    let e : code (left_status s.poller.doing) ≡ 0 = ap (λ (d : Doing). code (left_status d)) new.0 in omega (arith, e)

pub ends_are_counted : EndsAreCounted
ends_are_counted = (
  λ s unasked.
      let A : List Seat → Type 0 = λ l. All Counts l in
      released s (record {
        active = subst A (sym unasked.0) (All-nil Counts);
        waiting = All-weaker IsNew Counts new_counts s.waiting unasked.1;
        ended = subst A (sym unasked.2) (All-nil Counts);
      }),
  λ s all.
      let seats = seats_of s in
      let most : Seat → Type 0 = λ x. code x.poller.rows.status ≤ code (site_status s) in
      λ k d below.
      let own = all k d below in
      let top = each_most Done seats k d below in
      omega (arith, own, top),
)
