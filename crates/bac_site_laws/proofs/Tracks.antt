-- Each device of a site has its own steps, and what a site puts of logs is what they keep.
use Rattle.std.proofs.Common.{◌≡◌, ◌∙◌, inl, inr, ℕ, ◌+◌, ◌&&◌, nat_le, suc, zero, max, Bool, true, false, if◌then◌else◌, All, List, [], ◌∷◌, ◌++◌}
use Rattle.std.proofs.Common.{append-nil, append_assoc, drop, get_or, map, remove, slice_get, take, Option, Some, None, Ok, Err, refl, sym, ap, subst, arith}
use Rattle.std.specs.List.{sum_by}
use Rattle.std.proofs.lemmas.List.{map-append}
use Rattle.std.proofs.lemmas.List.Elements.{All-append, All-cons, All-drop, All-head, All-nil, All-push, All-tail}
use Rattle.std.proofs.lemmas.List.Elements.{All-take}
use Rattle.std.proofs.lemmas.List.Sums.{sum_by-append, sum_by-cons, sum_by-remove}
use Rattle.std.proofs.lemmas.Option.{get_or_from_slice_get, slice_get_within}
use Rattle.bac_wire.specs.Stamp.{CivilTime}
use Rattle.bac_drive.specs.Chain.{Chain}
use Rattle.bac_drive.proofs.Chains.{get_map}
use Rattle.bac_ports.specs.Port.{Receiving}
use Rattle.bac_drive.specs.Event.{Event, Kept, Printed, Read, Sent, Waited, Warned}
use Rattle.bac_drive.specs.Happens.{Learns}
use Rattle.bac_drive.specs.declared.machine.Next.{Next}
use Rattle.bac_device_poller.specs.Poller.{PollerAs, is_answer, is_waiting, missed}
use Rattle.bac_device_poller.specs.Puts.{PutAs}
use Rattle.bac_device_poller.specs.declared.doing.Doing.{Doing}
use Rattle.bac_device_poller.specs.declared.doing.Doing.TheVariants as doing
use Rattle.bac_site_poller.specs.News.{news_line}
use Rattle.bac_site_poller.specs.Seat.{noticed, seat_heard, seat_read, sent_at}
use Rattle.bac_site_poller.specs.Site.{GivesFrom, GivesNews, GivesWaiting, SiteState, due_from, given, heeded}
use Rattle.bac_site_poller.specs.Site.{SiteHears, is_asked_at, noted, put_by, site_heard}
use Rattle.bac_site_poller.specs.SiteLaws.{Answered, Missed, Own, OwnStep, SiteReads, SiteSteps, Wanted}
use Rattle.bac_site_poller.specs.declared.news.News.{News}
use Rattle.bac_site_poller.specs.declared.seat.Seat.{Seat}
use Rattle.bac_site_laws.specs.Own.{kept_of, wanted_rows}
use Rattle.bac_site_laws.specs.Tracks.{IsTrack, RowsAreOwn, Track, rows_put}
use Rattle.bac_site_laws.proofs.EventRows.{rows_more, does_rows, told_none, rests_none, own_kept, own_more, chain_more}

-- ---- tracks of a site

record Lists : Type 0 where
  active : List Track
  waiting : List Track
  ended : List Track

now_of : Track → Seat
now_of t = t.now

-- what is counted of a device at first, and of its steps
abbrev of_track : (Seat → List Own → ℕ) → Track → ℕ
of_track f t = f t.start t.own

total : (Seat → List Own → ℕ) → Lists → ℕ
total f l = sum_by (of_track f) l.active + sum_by (of_track f) l.waiting + sum_by (of_track f) l.ended

record At (s : SiteState) (l : Lists) : Type 0 where
  active : map now_of l.active ≡ s.active
  waiting : map now_of l.waiting ≡ s.waiting
  ended : map now_of l.ended ≡ s.ended
  goes : All IsTrack l.active
  stands : All IsTrack l.waiting
  done : All IsTrack l.ended

push_sum : (f : Seat → List Own → ℕ) (ts : List Track) (t : Track) → sum_by (of_track f) (ts ++ t ∷ []) ≡ sum_by (of_track f) ts + f t.start t.own
push_sum f ts t = omega (arith, sum_by-append (of_track f) ts (t ∷ []), sum_by-cons (of_track f) t [])

push_now : (ts : List Track) (t : Track) (seats : List Seat) → map now_of ts ≡ seats → map now_of (ts ++ t ∷ []) ≡ seats ++ t.now ∷ []
unfolding now_of
push_now ts t seats is = map-append now_of ts (t ∷ []) ∙ ap (λ (l : List Seat). l ++ t.now ∷ []) is

record Placed (what : Doing) (s : SiteState) (l : Lists) (t : Track) : Type 0 where
  lists : Lists
  at : At (put_by what s t.now) lists
  more : (f : Seat → List Own → ℕ) → total f lists ≡ total f l + f t.start t.own

active_more : (s : SiteState) (l : Lists) (t : Track) (seat : Seat) → At s l → Chain OwnStep t.start.poller t.own seat.poller →
    At (record s { active = s.active ++ seat ∷ [] }) (record l { active = l.active ++ record t { now = seat } ∷ [] })
unfolding now_of
active_more s l t seat at chain = record {
  active = push_now l.active (record t { now = seat }) s.active at.active;
  waiting = at.waiting;
  ended = at.ended;
  goes = All-push IsTrack l.active (record t { now = seat }) at.goes chain;
  stands = at.stands;
  done = at.done;
}

active_sum : (f : Seat → List Own → ℕ) (l : Lists) (t : Track) (seat : Seat) →
    total f (record l { active = l.active ++ record t { now = seat } ∷ [] }) ≡ total f l + f t.start t.own
unfolding total
active_sum f l t seat = omega (arith, push_sum f l.active (record t { now = seat }))

put_track : (what : Doing) (s : SiteState) (l : Lists) (t : Track) → At s l → IsTrack t → Placed what s l t
unfolding now_of total active_sum
put_track doing.Asks s l t at is =
    let u : Track = record t { now = record t.now { is_repeated = false; stray = None } } in
    record {
      lists = record l { waiting = l.waiting ++ u ∷ [] };
      at = record {
        active = at.active;
        waiting = push_now l.waiting u s.waiting at.waiting;
        ended = at.ended;
        goes = at.goes;
        stands = All-push IsTrack l.waiting u at.stands is;
        done = at.done;
      };
      more = λ f. omega (arith, push_sum f l.waiting u);
    }
put_track doing.Waits s l t at is =
    record { lists = _; at = active_more s l t (record t.now { due = due_from s }) at is; more = λ f. active_sum f l t (record t.now { due = due_from s }) }
put_track (doing.Resends datagram) s l t at is = record { lists = _; at = active_more s l t t.now at is; more = λ f. active_sum f l t t.now }
put_track (doing.Hears came) s l t at is = record { lists = _; at = active_more s l t t.now at is; more = λ f. active_sum f l t t.now }
put_track doing.Loses s l t at is = record { lists = _; at = active_more s l t t.now at is; more = λ f. active_sum f l t t.now }
put_track (doing.Tells end) s l t at is = record { lists = _; at = active_more s l t t.now at is; more = λ f. active_sum f l t t.now }
put_track (doing.Ended why) s l t at is =
    record {
      lists = record l { ended = l.ended ++ t ∷ [] };
      at = record {
        active = at.active;
        waiting = at.waiting;
        ended = push_now l.ended t s.ended at.ended;
        goes = at.goes;
        stands = at.stands;
        done = All-push IsTrack l.ended t at.done is;
      };
      more = λ f. omega (arith, push_sum f l.ended t);
    }

-- ---- the one at a place

map_remove : (ts : List Track) (place : ℕ) → map now_of (remove ts place) ≡ remove (map now_of ts) place
unfolding now_of
map_remove [] zero = refl
map_remove [] (suc place) = refl
map_remove (t ∷ ts) zero = refl
map_remove (t ∷ ts) (suc place) = ap (λ (l : List Seat). t.now ∷ l) (map_remove ts place)

at_place : (ts : List Track) (place : ℕ) (t : Track) → All IsTrack ts → slice_get ts place ≡ Some t → IsTrack t
at_place ts place t all is = subst IsTrack (get_or_from_slice_get ts place t t is) (all place t (slice_get_within ts place t is))

but_one : (ts : List Track) (place : ℕ) → All IsTrack ts → All IsTrack (remove ts place)
but_one ts place all = All-append IsTrack (take place ts) (drop (suc place) ts) (All-take IsTrack place ts all) (All-drop IsTrack (suc place) ts all)

one_sum : (f : Seat → List Own → ℕ) (ts : List Track) (place : ℕ) (t : Track) → slice_get ts place ≡ Some t →
    sum_by (of_track f) (remove ts place) + f t.start t.own ≡ sum_by (of_track f) ts
one_sum f ts place t there =
    let is : of_track f (get_or ts place t) ≡ of_track f t = ap (of_track f) (get_or_from_slice_get ts place t t there) in
    omega (arith, is, sum_by-remove (of_track f) ts place t (slice_get_within ts place t there))

seat_is : (s : Seat) (t : Track) → s ≡ now_of t → s ≡ t.now
unfolding now_of
seat_is s t is = is

-- ---- what it wants

-- what is counted then, with what these rows have
record Gave (l : Lists) (wanted : Next) (new : SiteState) : Type 0 where
  lists : Lists
  at : At new lists
  each : (w : Seat → ℕ) → total (λ s own. w s) lists ≡ total (λ s own. w s) l
  rows : (g : PutAs → ℕ) → total (λ s own. sum_by g (kept_of own)) lists ≡ total (λ s own. sum_by g (kept_of own)) l + sum_by g (wanted_rows wanted)

from_gave : (old : SiteState) (l rest : Lists) (t : Track) (s : Seat) (wanted : Next) (new : SiteState) → At old rest → IsTrack t → s ≡ t.now →
    ((f : Seat → List Own → ℕ) → total f rest + f t.start t.own ≡ total f l) → GivesFrom old s wanted new → Gave l wanted new
from_gave old l rest t s wanted new at is same whole (p, gives, put) =
    let o : SiteState = record old { ids = p.rows.ids } in
    let u : Track = record { start = t.start; own = t.own ++ Wanted old.ids wanted ∷ []; now = record s { poller = p } } in
    let C : Seat → Type 0 = λ x. Chain OwnStep t.start.poller t.own x.poller in
    let chain : IsTrack u = chain_more t.start.poller t.own s.poller p (Wanted old.ids wanted) (subst C (sym same) is) gives in
    let at_o : At o rest = record { active = at.active; waiting = at.waiting; ended = at.ended; goes = at.goes; stands = at.stands; done = at.done } in
    let placed = put_track p.doing o rest u at_o chain in
    let X : SiteState → Type 0 = λ x. At x placed.lists in
    record {
      lists = placed.lists;
      at = subst X (sym put) placed.at;
      each = λ w. placed.more (λ x own. w x) ∙ whole (λ x own. w x);
      rows = λ g. omega (
        arith,
        placed.more (λ x own. sum_by g (kept_of own)),
        whole (λ x own. sum_by g (kept_of own)),
        own_more g t.own (Wanted old.ids wanted),
      );
    }

same_gave : (l : Lists) (wanted : Next) (old new : SiteState) → At old l → new.active ≡ old.active → new.waiting ≡ old.waiting → new.ended ≡ old.ended → wanted_rows wanted ≡ [] → Gave l wanted new
same_gave l wanted old new at active waiting ended none = record {
  lists = l;
  at = record {
    active = at.active ∙ sym active;
    waiting = at.waiting ∙ sym waiting;
    ended = at.ended ∙ sym ended;
    goes = at.goes;
    stands = at.stands;
    done = at.done;
  };
  each = λ w. refl;
  rows = λ g. omega (arith, ap (sum_by g) none);
}

waiting_gave : (l : Lists) (stale : Bool) (old : SiteState) (wanted : Next) (new : SiteState) → At old l → GivesWaiting stale old wanted new → Gave l wanted new
unfolding total
waiting_gave l true old wanted new at (is_read, same) =
    same_gave l wanted old new at (ap (λ (x : SiteState). x.active) same) (ap (λ (x : SiteState). x.waiting) same) (ap (λ (x : SiteState). x.ended) same) (ap wanted_rows is_read)
waiting_gave l false old wanted new at (inl (place, s, there, asked, gives)) =
    let X : List Seat → Type 0 = λ x. slice_get x place ≡ Some s in
    let (t, found, is) = get_map now_of l.waiting place s (subst X (sym at.waiting) there) in
    let rest : Lists = record l { waiting = remove l.waiting place } in
    let at_rest : At (record old { waiting = remove old.waiting place }) rest = record {
      active = at.active;
      waiting = map_remove l.waiting place ∙ ap (λ (x : List Seat). remove x place) at.waiting;
      ended = at.ended;
      goes = at.goes;
      stands = but_one l.waiting place at.stands;
      done = at.done;
    } in
    let sent : Track = record t { now = sent_at old.time t.now } in
    from_gave (record old { waiting = remove old.waiting place }) l rest sent (sent_at old.time s) wanted new at_rest (at_place l.waiting place t at.stands found)
    (ap (sent_at old.time) (seat_is s t is)) (λ f. omega (arith, one_sum f l.waiting place t found)) gives
waiting_gave l false old wanted new at (inr (none, rests, same)) =
    same_gave l wanted old new at (ap (λ (x : SiteState). x.active) same) (ap (λ (x : SiteState). x.waiting) same) (ap (λ (x : SiteState). x.ended) same) (rests_none old wanted rests)

news_gave : (l : Lists) (news : List News) (old : SiteState) (wanted : Next) (new : SiteState) → At old l → GivesNews news old wanted new → Gave l wanted new
unfolding total
news_gave l (news ∷ others) old wanted new at (told, same) =
    same_gave l wanted old new at (ap (λ (x : SiteState). x.active) same) (ap (λ (x : SiteState). x.waiting) same) (ap (λ (x : SiteState). x.ended) same)
    (told_none false (news_line news) wanted told)
news_gave l [] old wanted new at (inl (place, s, there, not, gives)) =
    let X : List Seat → Type 0 = λ x. slice_get x place ≡ Some s in
    let (t, found, is) = get_map now_of l.active place s (subst X (sym at.active) there) in
    let rest : Lists = record l { active = remove l.active place } in
    let at_rest : At (noted (record old { active = remove old.active place }) s) rest = record {
      active = map_remove l.active place ∙ ap (λ (x : List Seat). remove x place) at.active;
      waiting = at.waiting;
      ended = at.ended;
      goes = but_one l.active place at.goes;
      stands = at.stands;
      done = at.done;
    } in
    from_gave (noted (record old { active = remove old.active place }) s) l rest t s wanted new at_rest (at_place l.active place t at.goes found) (seat_is s t is)
    (λ f. omega (arith, one_sum f l.active place t found)) gives
news_gave l [] old wanted new at (inr (none, gives)) = waiting_gave l old.is_stale old wanted new at gives

-- ---- what it makes of events

-- steps that keep nothing, of one device
record Went (t : Track) (seat : Seat) : Type 0 where
  own : List Own
  chain : Chain OwnStep t.start.poller own seat.poller
  none : (g : PutAs → ℕ) → sum_by g (kept_of own) ≡ sum_by g (kept_of t.own)

went_on : (t : Track) (seat : Seat) (step : Own) → IsTrack t → OwnStep t.now.poller step seat.poller → own_kept step ≡ [] → Went t seat
went_on t seat step is stepped none = record {
  own = t.own ++ step ∷ [];
  chain = chain_more t.start.poller t.own t.now.poller seat.poller step is stepped;
  none = λ g. omega (arith, own_more g t.own step, ap (sum_by g) none);
}

went_not : (t : Track) (seat : Seat) → IsTrack t → seat.poller ≡ t.now.poller → Went t seat
went_not t seat is same =
    let C : PollerAs → Type 0 = λ x. Chain OwnStep t.start.poller t.own x in
    record { own = t.own; chain = subst C (sym same) is; none = λ g. refl }

-- each of some devices goes on so
record AllWent (h : Seat → Seat) (ts : List Track) : Type 0 where
  lists : List Track
  now : map now_of lists ≡ map h (map now_of ts)
  all : All IsTrack lists
  each : (w : Seat → ℕ) → sum_by (of_track (λ s own. w s)) lists ≡ sum_by (of_track (λ s own. w s)) ts
  rows : (g : PutAs → ℕ) → sum_by (of_track (λ s own. sum_by g (kept_of own))) lists ≡ sum_by (of_track (λ s own. sum_by g (kept_of own))) ts

all_went : (h : Seat → Seat) → ((t : Track) → IsTrack t → Went t (h t.now)) → (ts : List Track) → All IsTrack ts → AllWent h ts
unfolding now_of
all_went h one [] all = record { lists = []; now = refl; all = All-nil IsTrack; each = λ w. refl; rows = λ g. refl }
all_went h one (t ∷ ts) all =
    let w = one t (All-head IsTrack t ts all) in
    let rest = all_went h one ts (All-tail IsTrack t ts all) in
    let u : Track = record { start = t.start; own = w.own; now = h t.now } in
    record {
      lists = u ∷ rest.lists;
      now = ap (λ (l : List Seat). h t.now ∷ l) rest.now;
      all = All-cons IsTrack u rest.lists w.chain rest.all;
      each = λ x. omega (arith, rest.each x, sum_by-cons (of_track (λ s own. x s)) u rest.lists, sum_by-cons (of_track (λ s own. x s)) t ts);
      rows = λ g. omega (
        arith,
        rest.rows g,
        w.none g,
        sum_by-cons (of_track (λ s own. sum_by g (kept_of own))) u rest.lists,
        sum_by-cons (of_track (λ s own. sum_by g (kept_of own))) t ts,
      );
    }

heard_went : (from datagram : List ℕ) (now : CivilTime) (t : Track) → IsTrack t → Went t (seat_heard from datagram now t.now)
heard_went from datagram now t is = by (is_answer t.now.poller from datagram) refl
  where
    none : (b : Bool) (x : PollerAs) → b ≡ false → (if b then x else t.now.poller) ≡ t.now.poller
    none true x is = absurd (cc)
    none false x is = refl

    by : (b : Bool) → is_answer t.now.poller from datagram ≡ b → Went t (seat_heard from datagram now t.now)
    by true fits = went_on t (seat_heard from datagram now t.now) (Answered from datagram now) is (fits, refl) refl
    by false fits = went_not t (seat_heard from datagram now t.now) is (none (is_answer t.now.poller from datagram) _ fits)

noticed_went : (from datagram : List ℕ) (t : Track) → IsTrack t → Went t (noticed from datagram t.now)
noticed_went from datagram t is = went_not t (noticed from datagram t.now) is refl

read_went : (ms : ℕ) (t : Track) → IsTrack t → Went t (seat_read ms t.now)
read_went ms t is = by (is_waiting t.now.poller.doing) refl
  where
    by : (w : Bool) → is_waiting t.now.poller.doing ≡ w →
        Went t (if w && nat_le t.now.due ms then record t.now { poller = missed t.now.poller; is_repeated = true } else t.now)
    by true waits = due (nat_le t.now.due ms)
      where
        due : (b : Bool) → Went t (if b then record t.now { poller = missed t.now.poller; is_repeated = true } else t.now)
        due true = went_on t (record t.now { poller = missed t.now.poller; is_repeated = true }) Missed is (waits, refl) refl
        due false = went_not t t.now is refl
    by false waits = went_not t t.now is refl

-- what is counted stays as it is
record Told (l : Lists) (new : SiteState) : Type 0 where
  lists : Lists
  at : At new lists
  each : (w : Seat → ℕ) → total (λ s own. w s) lists ≡ total (λ s own. w s) l
  rows : (g : PutAs → ℕ) → total (λ s own. sum_by g (kept_of own)) lists ≡ total (λ s own. sum_by g (kept_of own)) l

active_told : (l : Lists) (old new : SiteState) (h : Seat → Seat) → At old l → AllWent h l.active → new.active ≡ map h old.active → new.waiting ≡ old.waiting → new.ended ≡ old.ended → Told l new
unfolding total
active_told l old new h at w active waiting ended = record {
  lists = record l { active = w.lists };
  at = record {
    active = w.now ∙ ap (map h) at.active ∙ sym active;
    waiting = at.waiting ∙ sym waiting;
    ended = at.ended ∙ sym ended;
    goes = w.all;
    stands = at.stands;
    done = at.done;
  };
  each = λ x. omega (arith, w.each x);
  rows = λ g. omega (arith, w.rows g);
}

same_told : (l : Lists) (old new : SiteState) → At old l → new.active ≡ old.active → new.waiting ≡ old.waiting → new.ended ≡ old.ended → Told l new
same_told l old new at active waiting ended = record {
  lists = l;
  at = record {
    active = at.active ∙ sym active;
    waiting = at.waiting ∙ sym waiting;
    ended = at.ended ∙ sym ended;
    goes = at.goes;
    stands = at.stands;
    done = at.done;
  };
  each = λ w. refl;
  rows = λ g. refl;
}

heard_told : (l : Lists) (s : SiteState) (now : CivilTime) (heard : Receiving) → At s l → Told l (site_heard now heard s)
unfolding total
heard_told l s now (Err fault) at = same_told l s (site_heard now (Err fault) s) at refl refl refl
heard_told l s now (Ok heard) at = by heard.datagram (site_heard now (Ok heard) s) refl refl refl
  where
    by : (o : Option (List ℕ)) (new : SiteState) → new.active ≡ given (is_asked_at s heard.from) heard.from o now s.active → new.waiting ≡ s.waiting → new.ended ≡ s.ended → Told l new
    by None new active waiting ended = same_told l s new at active waiting ended
    by (Some datagram) new active waiting ended = known (is_asked_at s heard.from) active
      where
        first : AllWent (seat_heard heard.from datagram now) l.active
        first = all_went (seat_heard heard.from datagram now) (heard_went heard.from datagram now) l.active at.goes

        known : (b : Bool) → new.active ≡ heeded b heard.from datagram (map (seat_heard heard.from datagram now) s.active) → Told l new
        known true active = active_told l s new (seat_heard heard.from datagram now) at first active waiting ended
        known false active = then_noticed (all_went (noticed heard.from datagram) (noticed_went heard.from datagram) first.lists first.all)
          where
            then_noticed : AllWent (noticed heard.from datagram) first.lists → Told l new
            then_noticed w = record {
              lists = record l { active = w.lists };
              at = record {
                active = w.now ∙ ap (map (noticed heard.from datagram)) (first.now ∙ ap (map (seat_heard heard.from datagram now)) at.active) ∙ sym active;
                waiting = at.waiting ∙ sym waiting;
                ended = at.ended ∙ sym ended;
                goes = w.all;
                stands = at.stands;
                done = at.done;
              };
              each = λ x. omega (arith, w.each x, first.each x);
              rows = λ g. omega (arith, w.rows g, first.rows g);
            }

event_told : (l : Lists) (e : Event) (old new : SiteState) → At old l → Learns SiteHears SiteReads old e new → Told l new
event_told l (Waited within heard) old new at (now, moment, is) = let X : SiteState → Type 0 = λ x. Told l x in subst X (sym is) (heard_told l old now heard at)
event_told l (Read ms) old new at is =
    active_told l old new (seat_read (max old.time ms)) at (all_went (seat_read (max old.time ms)) (read_went (max old.time ms)) l.active at.goes)
    (ap (λ (x : SiteState). x.active) is) (ap (λ (x : SiteState). x.waiting) is) (ap (λ (x : SiteState). x.ended) is)
event_told l (Sent octets to answer) old new at is = same_told l old new at (ap (λ (x : SiteState). x.active) is) (ap (λ (x : SiteState). x.waiting) is) (ap (λ (x : SiteState). x.ended) is)
event_told l (Kept puts) old new at is = same_told l old new at (ap (λ (x : SiteState). x.active) is) (ap (λ (x : SiteState). x.waiting) is) (ap (λ (x : SiteState). x.ended) is)
event_told l (Printed text) old new at is = same_told l old new at (ap (λ (x : SiteState). x.active) is) (ap (λ (x : SiteState). x.waiting) is) (ap (λ (x : SiteState). x.ended) is)
event_told l (Warned text) old new at is = same_told l old new at (ap (λ (x : SiteState). x.active) is) (ap (λ (x : SiteState). x.waiting) is) (ap (λ (x : SiteState). x.ended) is)

-- ---- a run

record Ran (start : SiteState) (done : List Event) (s : SiteState) : Type 0 where
  lists : Lists
  at : At s lists
  each : (w : Seat → ℕ) → total (λ x own. w x) lists ≡ sum_by w start.active + sum_by w start.waiting + sum_by w start.ended
  rows : (g : PutAs → ℕ) → total (λ x own. sum_by g (kept_of own)) lists ≡ sum_by g (rows_put done)

one_event : (start : SiteState) (done : List Event) (old new : SiteState) (e : Event) → Ran start done old → SiteSteps old e new → Ran start (done ++ e ∷ []) new
one_event start done old new e ran (wanted, half, gives, does, learns) =
    let gave = news_gave ran.lists old.news old wanted half ran.at gives in
    let told = event_told gave.lists e half new gave.at learns in
    record {
      lists = told.lists;
      at = told.at;
      each = λ w. told.each w ∙ gave.each w ∙ ran.each w;
      rows = λ g. omega (arith, told.rows g, gave.rows g, ran.rows g, rows_more g done e, ap (sum_by g) (does_rows wanted e does));
    }

run : (start : SiteState) (done es : List Event) (old new : SiteState) → Ran start done old → Chain SiteSteps old es new → Ran start (done ++ es) new
run start done [] old new ran same =
    let X : List Event → Type 0 = λ l. Ran start l new in
    let Y : SiteState → Type 0 = λ x. Ran start done x in
    subst X (sym (append-nil done)) (subst Y (sym same) ran)
run start done (e ∷ es) old new ran (mid, steps, more) =
    let X : List Event → Type 0 = λ l. Ran start l new in
    subst X (append_assoc done (e ∷ []) es) (run start (done ++ e ∷ []) es mid new (one_event start done old mid e ran steps) more)

-- ---- the beginning

first_tracks : List Seat → List Track
first_tracks [] = []
first_tracks (s ∷ seats) = record { start = s; own = []; now = s } ∷ first_tracks seats

first_now : (seats : List Seat) → map now_of (first_tracks seats) ≡ seats
unfolding first_tracks now_of
first_now [] = refl
first_now (s ∷ seats) = ap (λ (l : List Seat). s ∷ l) (first_now seats)

first_all : (seats : List Seat) → All IsTrack (first_tracks seats)
unfolding first_tracks
first_all [] = All-nil IsTrack
first_all (s ∷ seats) = All-cons IsTrack (record { start = s; own = []; now = s }) (first_tracks seats) refl (first_all seats)

first_each : (w : Seat → ℕ) (seats : List Seat) → sum_by (of_track (λ x own. w x)) (first_tracks seats) ≡ sum_by w seats
unfolding first_tracks
first_each w [] = refl
first_each w (s ∷ seats) =
    let t : Track = record { start = s; own = []; now = s } in
    omega (arith, first_each w seats, sum_by-cons (of_track (λ x own. w x)) t (first_tracks seats), sum_by-cons w s seats)

first_rows : (g : PutAs → ℕ) (seats : List Seat) → sum_by (of_track (λ x own. sum_by g (kept_of own))) (first_tracks seats) ≡ 0
unfolding first_tracks
first_rows g [] = refl
first_rows g (s ∷ seats) =
    let t : Track = record { start = s; own = []; now = s } in
    omega (arith, first_rows g seats, sum_by-cons (of_track (λ x own. sum_by g (kept_of own))) t (first_tracks seats))

begins : (s : SiteState) → Ran s [] s
unfolding total
begins s = record {
  lists = record { active = first_tracks s.active; waiting = first_tracks s.waiting; ended = first_tracks s.ended };
  at = record {
    active = first_now s.active;
    waiting = first_now s.waiting;
    ended = first_now s.ended;
    goes = first_all s.active;
    stands = first_all s.waiting;
    done = first_all s.ended;
  };
  each = λ w. omega (arith, first_each w s.active, first_each w s.waiting, first_each w s.ended);
  rows = λ g. omega (arith, first_rows g s.active, first_rows g s.waiting, first_rows g s.ended);
}

pub rows_are_own : RowsAreOwn
unfolding total now_of
rows_are_own = λ old new es chain.
    let ran = run old [] es old new (begins old) chain in
    let l = ran.lists in
    let ts = l.active ++ (l.waiting ++ l.ended) in (
      ts,
      record {
        own = All-append IsTrack l.active (l.waiting ++ l.ended) ran.at.goes (All-append IsTrack l.waiting l.ended ran.at.stands ran.at.done);
        now = map-append now_of l.active (l.waiting ++ l.ended)
            ∙ ap (λ (x : List Seat). map now_of l.active ++ x) (map-append now_of l.waiting l.ended)
            ∙ ap (λ (x : List Seat). x ++ (map now_of l.waiting ++ map now_of l.ended)) ran.at.active
            ∙ ap (λ (x : List Seat). new.active ++ (x ++ map now_of l.ended)) ran.at.waiting
            ∙ ap (λ (x : List Seat). new.active ++ (new.waiting ++ x)) ran.at.ended;
        each = λ w. omega (
          arith,
          ran.each w,
          sum_by-append (of_track (λ x own. w x)) l.active (l.waiting ++ l.ended),
          sum_by-append (of_track (λ x own. w x)) l.waiting l.ended,
          sum_by-append w old.active (old.waiting ++ old.ended),
          sum_by-append w old.waiting old.ended,
        );
        rows = λ g. omega (
          arith,
          ran.rows g,
          sum_by-append (of_track (λ x own. sum_by g (kept_of own))) l.active (l.waiting ++ l.ended),
          sum_by-append (of_track (λ x own. sum_by g (kept_of own))) l.waiting l.ended,
        );
      },
    )
