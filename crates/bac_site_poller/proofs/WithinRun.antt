-- What a site wants keeps the limits, and so does a whole run.
use Rattle.std.proofs.Common.{◌≡◌, ◌<◌, ◌≤◌, ◌+◌, inl, inr, ℕ, Bool, true, false, not, cond, List, [], ◌∷◌, ◌++◌, take}
use Rattle.std.proofs.Common.{length, get_or, Some, refl, sym, ap, subst, arith, ◌∙◌}
use Rattle.std.proofs.lemmas.List.{length-append}
use Rattle.std.proofs.lemmas.List.Edits.{length-remove}
use Rattle.std.proofs.lemmas.List.Sums.{sum_by-append, sum_by-cons, sum_by-remove}
use Rattle.std.proofs.lemmas.Option.{get_or_from_slice_get, same_Some, slice_get_within}
use Rattle.std.proofs.lemmas.Slice.Eq.{bytes_eq-Decides}
use Rattle.std.specs.List.{count_by, remove, slice_get}
use Rattle.std.specs.Str.{bytes_eq}
use Rattle.bac_drive.specs.declared.machine.Next.{Next}
use Rattle.bac_answers.specs.declared.way.Way.{Way}
use Rattle.bac_device_poller.specs.Poller.{PollerAs}
use Rattle.bac_device_poller.specs.declared.doing.Doing.{Doing}
use Rattle.bac_device_poller.specs.declared.doing.Doing.TheVariants as doing
use Rattle.bac_device_poller.specs.declared.ids.Ids.{Ids}
use Rattle.bac_site_poller.specs.Seat.{Wants, is_at, is_fresh, lent, sent_at}
use Rattle.bac_site_poller.specs.Hosts.{host_at}
use Rattle.bac_site_poller.specs.Site.{GivesFrom, GivesNews, GivesWaiting, HasRoom, IsAsked, IsWithin, SiteState, fresh_count, noted}
use Rattle.bac_site_poller.specs.Site.{put_by}
use Rattle.bac_site_poller.specs.SiteLaws.{WantsWithin}
use Rattle.bac_site_poller.specs.declared.news.News.{News}
use Rattle.bac_site_poller.specs.declared.seat.Seat.{Seat}
use Rattle.bac_site_poller.proofs.Places.{limit_most}
use Rattle.bac_site_poller.proofs.Same.{way_wanted}

abbrev tally : Bool → ℕ
tally b = cond b 1 0

pub peer_given : (ids : Ids) (what : Doing) (old new : PollerAs) (wanted : Next) → Wants what (lent ids old) wanted new → new.way.peer ≡ old.way.peer
peer_given ids what old new wanted g = ap (λ (way : Way). way.peer) (way_wanted what (lent ids old) new wanted g)

-- ---- one more

-- there is a place for this one
record HasPlaceFor (old : SiteState) (s : Seat) : Type 0 where
  pub fresh : fresh_count old + tally (is_fresh old.time s) ≤ old.limits.at_once
  pub few : length old.active < old.limits.most
  pub each : (peer : List ℕ) → count_by (is_at peer) old.active + tally (is_at peer s) ≤ old.limits.at_host

one_more : (old : SiteState) (s : Seat) → HasPlaceFor old s → IsWithin (record old { active = old.active ++ s ∷ [] })
one_more old s place = (
  let f : Seat → ℕ = λ x. tally (is_fresh old.time x) in omega (arith, place.fresh, sum_by-append f old.active (s ∷ []), sum_by-cons f s []),
  omega (arith, place.few, length-append old.active (s ∷ [])),
  λ peer.
      let f : Seat → ℕ = λ x. tally (is_at peer x) in
      let e = place.each peer in
      omega (arith, e, sum_by-append f old.active (s ∷ []), sum_by-cons f s []),
)

none_more : (old : SiteState) (s : Seat) → HasPlaceFor old s → IsWithin old
none_more old s place = (omega (arith, place.fresh), omega (arith, place.few), λ peer. let e = place.each peer in omega arith)

put_within : (what : Doing) (old : SiteState) (s : Seat) → HasPlaceFor old s → IsWithin (put_by what old s)
put_within doing.Asks old s place = none_more old s place
put_within doing.Waits old s place = one_more old (record s { due = _ }) (record { fresh = place.fresh; few = place.few; each = place.each })
put_within (doing.Resends datagram) old s place = one_more old s place
put_within (doing.Hears came) old s place = one_more old s place
put_within doing.Loses old s place = one_more old s place
put_within (doing.Tells end) old s place = one_more old s place
put_within (doing.Ended why) old s place = none_more old s place

-- one with the same address, which is as fresh
same_place : (old : SiteState) (s t : Seat) → t.poller.way.peer ≡ s.poller.way.peer → is_fresh old.time t ≡ is_fresh old.time s → HasPlaceFor old s → HasPlaceFor old t
same_place old s t same sent place = record {
  fresh = let e : tally (is_fresh old.time t) ≡ tally (is_fresh old.time s) = ap tally sent in let f = place.fresh in omega (arith, e, f);
  few = place.few;
  each = λ peer. let e = place.each peer in
      let at : tally (is_at peer t) ≡ tally (is_at peer s) = ap (λ (p : List ℕ). tally (bytes_eq (take 4 p) (take 4 peer))) same in omega (arith, e, at);
}

from_within : (old : SiteState) (s : Seat) (wanted : Next) (new : SiteState) → HasPlaceFor old s → GivesFrom old s wanted new → IsWithin new
from_within old s wanted new place (p, gives, is) =
    let P : SiteState → Type 0 = λ x. IsWithin x in
    let here = same_place old s (record s { poller = p }) (peer_given old.ids s.poller.doing s.poller p wanted gives) refl place in
    subst P (sym is) (put_within p.doing (record old { ids = p.rows.ids }) (record s { poller = p }) (record { fresh = here.fresh; few = here.few; each = here.each }))

-- ---- one that was asked

left_place : (old : SiteState) (place : ℕ) (s : Seat) → IsWithin old → slice_get old.active place ≡ Some s → HasPlaceFor (record old { active = remove old.active place }) s
left_place old place s (fresh, few, each) there =
    let below = slice_get_within old.active place s there in record {
      fresh =
          let f : Seat → ℕ = λ x. tally (is_fresh old.time x) in
          let is : f (get_or old.active place s) ≡ f s = ap f (get_or_from_slice_get old.active place s s there) in
          omega (arith, fresh, is, sum_by-remove f old.active place s below);
      few = omega (arith, few, length-remove old.active place below);
      each = λ peer.
          let f : Seat → ℕ = λ x. tally (is_at peer x) in
          let e = each peer in
          let is : f (get_or old.active place s) ≡ f s = ap f (get_or_from_slice_get old.active place s s there) in
          omega (arith, e, is, sum_by-remove f old.active place s below);
    }

-- ---- one that is asked

room_place : (old : SiteState) (s : Seat) → IsWithin old → HasRoom old s → HasPlaceFor old s
room_place old s within (place, room) = record {
  fresh = one (is_fresh old.time s);
  few = place.1;
  each = λ peer. by peer (is_at peer s) refl;
}
  where
    one : (b : Bool) → fresh_count old + tally b ≤ old.limits.at_once
    one true = let less = place.0 in omega (arith, less)
    one false = let less = place.0 in omega (arith, less)

    by : (peer : List ℕ) (b : Bool) → is_at peer s ≡ b → count_by (is_at peer) old.active + tally (is_at peer s) ≤ old.limits.at_host
    by peer true here =
        let e : take 4 s.poller.way.peer ≡ take 4 peer = (bytes_eq-Decides (take 4 s.poller.way.peer) (take 4 peer)).0 here in
        let P : List ℕ → Type 0 = λ h. count_by (λ x. bytes_eq (take 4 x.poller.way.peer) h) old.active < old.limits.at_host in
        let bound = limit_most old.limits.at_host (host_at s.poller.way.peer old.hosts) old.limits.some_at_host in
        let fewer : count_by (is_at s.poller.way.peer) old.active < old.limits.at_host = omega (arith, room, bound) in
        let less : count_by (is_at peer) old.active < old.limits.at_host = subst P e fewer in
        let one : tally (is_at peer s) ≡ 1 = ap tally here in
        omega (arith, less, one)
    by peer false here =
        let before = within.2 peer in
        let none : tally (is_at peer s) ≡ 0 = ap tally here in
        omega (arith, before, none)

-- the one at a place that may be asked is this one
room_of : (old : SiteState) (place : ℕ) (s t : Seat) → slice_get old.waiting place ≡ Some s → slice_get old.waiting place ≡ Some t → HasRoom old t → HasRoom old s
room_of old place s t there also room =
    let P : Seat → Type 0 = λ x. HasRoom old x in
    let e : Some t ≡ Some s = sym also ∙ there in
    subst P (same_Some t s e) room

asked_within : (old new : SiteState) (wanted : Next) → IsWithin old → IsAsked old wanted new → IsWithin new
asked_within old new wanted within (place, s, there, ((t, also, room), before), gives) =
    from_within (record old { waiting = remove old.waiting place }) (sent_at old.time s) wanted new (record { fresh = p.fresh; few = p.few; each = p.each }) gives
  where
    p : HasPlaceFor old (sent_at old.time s)
    p = room_place old (sent_at old.time s) within (room_of old place s t there also room)

waiting_within : (stale : Bool) (old new : SiteState) (wanted : Next) → IsWithin old → GivesWaiting stale old wanted new → IsWithin new
waiting_within true old new wanted within (is_read, same) = let P : SiteState → Type 0 = λ x. IsWithin x in subst P (sym same) within
waiting_within false old new wanted within (inl asked) = asked_within old new wanted within asked
waiting_within false old new wanted within (inr (none, rests, same)) = let P : SiteState → Type 0 = λ x. IsWithin x in subst P (sym same) within

news_within : (l : List News) (old new : SiteState) (wanted : Next) → IsWithin old → GivesNews l old wanted new → IsWithin new
news_within (news ∷ others) old new wanted within (told, is) = let P : SiteState → Type 0 = λ x. IsWithin x in subst P (sym is) within
news_within [] old new wanted within (inl (place, s, there, not, acts)) =
    let p = left_place old place s within there in
    from_within (noted (record old { active = remove old.active place }) s) s wanted new (record { fresh = p.fresh; few = p.few; each = p.each }) acts
news_within [] old new wanted within (inr (none, gives)) = waiting_within old.is_stale old new wanted within gives

pub wants_within : WantsWithin
wants_within old new wanted within gives = news_within old.news old new wanted within gives
