-- Whose turn it is, by the places of a list.
use Rattle.std.proofs.Common.{◌≡◌, ◌≤◌, ◌<◌, ◌+◌, ◌∙◌, ◌⊎◌, ◌↔◌, inl, inr, ℕ, Bool, true, false, min, All, Option, None}
use Rattle.std.proofs.Common.{Some, List, [], ◌∷◌, count_by, length, get_or, slice_get, take, drop, remove, suc}
use Rattle.std.proofs.Common.{refl, sym, subst, ap, arith}
use Rattle.std.proofs.lemmas.Bool.{cases_eq}
use Rattle.std.proofs.lemmas.List.Elements.{All-append, All-drop, All-more, All-take, All-weaker}
use Rattle.std.proofs.lemmas.Option.{get_or_from_slice_get, same_Some, slice_get_read, slice_get_within}
use Rattle.std.proofs.Math.Seq.{take-length}
use Rattle.std.specs.Bool.{OnFalse, OnTrue}
use Rattle.bac_device_poller.specs.Poller.{is_waiting}
use Rattle.bac_site_poller.specs.Seat.{is_at, is_fresh}
use Rattle.bac_site_poller.specs.Hosts.{host_at, limit_of}
use Rattle.bac_site_poller.specs.Site.{HasPlace, HasPlaceAt, HasRoom, IsNearest, MayAct, MayAsk, NoneActs, NoneAsked}
use Rattle.bac_site_poller.specs.Site.{SiteState, limit_at}
use Rattle.bac_site_poller.specs.declared.hosts.Host.{Host}
use Rattle.bac_site_poller.specs.declared.seat.Seat.{Seat}

-- ---- the one at a place, and all others

pub at_place : (P : Seat → Type 0) (seats : List Seat) (place : ℕ) (s : Seat) → All P seats → slice_get seats place ≡ Some s → P s
at_place P seats place s all is = subst P (get_or_from_slice_get seats place s s is) (all place s (slice_get_within seats place s is))

pub but_one : (P : Seat → Type 0) (seats : List Seat) (place : ℕ) → All P seats → All P (remove seats place)
but_one P seats place all = All-append P (take place seats) (drop (suc place) seats) (All-take P place seats all) (All-drop P (suc place) seats all)

-- ---- those that aren't waiting

pub may_act : (seats : List Seat) (place : ℕ) (s : Seat) → place < length seats → s ≡ get_or seats place s → is_waiting s.poller.doing ≡ false → MayAct seats place
may_act seats place s below is not = (s, slice_get_read seats (length seats) place s refl below is, not)

-- one that waits isn't one of them
pub waits : (seats : List Seat) (place : ℕ) (s : Seat) → place < length seats → s ≡ get_or seats place s → is_waiting s.poller.doing ≡ true → MayAct seats place → ⊥
waits seats place s below is waiting (t, there, not) =
    let e : Some s ≡ Some t = sym (slice_get_read seats (length seats) place s refl below is) ∙ there in
    let same : s ≡ t = same_Some s t e in
    absurd (let f : true ≡ false = sym waiting ∙ ap (λ (x : Seat). is_waiting x.poller.doing) same ∙ not in cc)

-- none in the whole list
pub none_acts : (seats : List Seat) (n : ℕ) → length seats ≤ n → ((k : ℕ) → k < n → MayAct seats k → ⊥) → NoneActs seats
none_acts seats n all none place (s, there, not) =
    let below = slice_get_within seats place s there in none place (omega (arith, below, all)) (s, there, not)

-- ---- the first that is due

-- this is the time of one
abbrev pub IsTimeOfOne : (Seat → ℕ) → List Seat → ℕ → Type 0
IsTimeOfOne times seats due = (place : ℕ) × (s : Seat) × (slice_get seats place ≡ Some s) × (due ≡ times s)

-- one seat more
pub nearer : (times : Seat → ℕ) (seats : List Seat) (i due new : ℕ) (s : Seat) → i < length seats → s ≡ get_or seats i s → new ≡ min due (times s) →
    All (λ x. due ≤ times x) (take i seats) → IsTimeOfOne times seats due → All (λ x. new ≤ times x) (take (i + 1) seats) × IsTimeOfOne times seats new
nearer times seats i due new s below is least all one = (
  All-more (λ x. new ≤ times x) seats i s below
      (All-weaker (λ x. due ≤ times x) (λ x. new ≤ times x) (λ x less. omega (arith, less, least)) (take i seats) all)
      (subst (λ (x : Seat). new ≤ times x) is (omega (arith, least))),
  by (cases_eq new due),
)
  where
    by : (new ≡ due) ⊎ (new ≡ due → ⊥) → IsTimeOfOne times seats new
    by (inl same) = (one.0, one.1, one.2, same ∙ one.3)
    by (inr other) =
        let e : new ≡ times s = omega (arith, least, other) in
        (i, s, slice_get_read seats (length seats) i s refl below is, e)

-- all of them
pub nearest_is : (times : Seat → ℕ) (seats : List Seat) (i due : ℕ) → i ≡ length seats → All (λ x. due ≤ times x) (take i seats) → IsTimeOfOne times seats due → IsNearest times seats due
nearest_is times seats i due all least one =
    (subst (λ (xs : List Seat). All (λ x. due ≤ times x) xs) (ap (λ (n : ℕ). take n seats) all ∙ take-length seats) least, one)

-- ---- those that wait for their turn

pub may_ask : (old : SiteState) (place : ℕ) (seat : Seat) (b : Bool) → slice_get old.waiting place ≡ Some seat → HasPlace old → ((b ≡ true) ↔ HasPlaceAt old seat.poller.way.peer) →
    OnTrue b (MayAsk old place) × OnFalse b (MayAsk old place → ⊥)
may_ask old place seat true there room is = ((seat, there, (room, is.0 refl)), tt)
may_ask old place seat false there room is = (
  tt,
  λ (s, also, rooms).
      let P : Seat → Type 0 = λ x. HasPlaceAt old x.poller.way.peer in
      let e : Some s ≡ Some seat = sym also ∙ there in
      let has = is.1 (subst P (same_Some s seat e) rooms.1) in
      absurd (cc),
)

-- none in the whole list
pub none_asked : (old : SiteState) (n : ℕ) → length old.waiting ≤ n → ((k : ℕ) → k < n → MayAsk old k → ⊥) → NoneAsked old
none_asked old n all none place (s, there, rooms) =
    let below = slice_get_within old.waiting place s there in none place (omega (arith, below, all)) (s, there, rooms)

-- one may be open at any host, and no more than at every other
pub limit_some : (most : ℕ) (o : Option Host) → 0 < limit_of most o
limit_some most None = omega arith
limit_some most (Some h) = omega arith

pub limit_most : (most : ℕ) (o : Option Host) → 0 < most → limit_of most o ≤ most
limit_most most None some = omega (arith, some)
limit_most most (Some h) some = omega (arith, some)

-- while none is asked, the first that waits has room
first_room : (old : SiteState) (seat : Seat) → old.active ≡ [] → HasRoom old seat
first_room old seat none =
    let P : List Seat → Type 0 = λ l. ((count_by (is_fresh old.time) l < old.limits.at_once) × (length l < old.limits.most)) × (count_by (is_at seat.poller.way.peer) l < limit_at old seat.poller.way.peer) in
    subst P (sym none) ((old.limits.some_at_once, old.limits.some), limit_some old.limits.at_host (host_at seat.poller.way.peer old.hosts))

pub none_waits : (old : SiteState) → old.active ≡ [] → NoneAsked old → old.waiting ≡ []
none_waits old none asked = by old.waiting refl
  where
    by : (l : List Seat) → old.waiting ≡ l → old.waiting ≡ []
    by [] is = is
    by (s ∷ seats) is =
        let P : List Seat → Type 0 = λ l. slice_get l 0 ≡ Some s in
        absurd (asked 0 (s, subst P (sym is) refl, first_room old s none))
