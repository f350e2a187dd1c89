-- Those that wait keep their order.
use Rattle.std.proofs.Common.{◌≡◌, ◌⊎◌, inl, inr, Bool, true, false, [], ◌∷◌, ◌++◌, List, None, remove, refl, sym, ap}
use Rattle.std.proofs.Common.{subst}
use Rattle.bac_drive.specs.declared.machine.Next.{Next}
use Rattle.bac_device_poller.specs.declared.doing.Doing.{Doing}
use Rattle.bac_device_poller.specs.declared.doing.Doing.TheVariants as doing
use Rattle.bac_site_poller.specs.Seat.{sent_at}
use Rattle.bac_site_poller.specs.Site.{GivesFrom, GivesNews, GivesWaiting, SiteState, noted, put_by}
use Rattle.bac_site_poller.specs.SiteLaws.{AskInTurn, IsInTurn}
use Rattle.bac_site_poller.specs.declared.news.News.{News}
use Rattle.bac_site_poller.specs.declared.seat.Seat.{Seat}

-- one comes behind these, or none does
abbrev IsBehind : List Seat → SiteState → Type 0
IsBehind seats new = ((s : Seat) × (new.waiting ≡ seats ++ s ∷ [])) ⊎ (new.waiting ≡ seats)

put_behind : (what : Doing) (s : SiteState) (seat : Seat) → IsBehind s.waiting (put_by what s seat)
put_behind doing.Asks s seat = inl (record seat { is_repeated = false; stray = None }, refl)
put_behind doing.Waits s seat = inr refl
put_behind (doing.Resends datagram) s seat = inr refl
put_behind (doing.Hears came) s seat = inr refl
put_behind doing.Loses s seat = inr refl
put_behind (doing.Tells end) s seat = inr refl
put_behind (doing.Ended why) s seat = inr refl

from_behind : (old : SiteState) (s : Seat) (wanted : Next) (new : SiteState) → GivesFrom old s wanted new → IsBehind old.waiting new
from_behind old s wanted new (p, gives, is) =
    let P : SiteState → Type 0 = λ x. IsBehind old.waiting x in
    subst P (sym is) (put_behind p.doing (record old { ids = p.rows.ids }) (record s { poller = p }))

-- the other way round
swapped : (seats : List Seat) (new : SiteState) → IsBehind seats new → (new.waiting ≡ seats) ⊎ ((s : Seat) × (new.waiting ≡ seats ++ s ∷ []))
swapped seats new (inl behind) = inr behind
swapped seats new (inr same) = inl same

waiting_turn : (stale : Bool) (old : SiteState) (wanted : Next) (new : SiteState) → GivesWaiting stale old wanted new → IsInTurn old new
waiting_turn true old wanted new (is_read, same) = inr (inr (ap (λ (x : SiteState). x.waiting) same))
waiting_turn false old wanted new (inl (place, s, there, asked, gives)) =
    let rest = remove old.waiting place in
    inl (place, asked, swapped rest new (from_behind (record old { waiting = rest }) (sent_at old.time s) wanted new gives))
waiting_turn false old wanted new (inr (none, rests, same)) = inr (inr (ap (λ (x : SiteState). x.waiting) same))

news_turn : (l : List News) (old new : SiteState) (wanted : Next) → GivesNews l old wanted new → IsInTurn old new
news_turn (news ∷ others) old new wanted (told, is) = inr (inr (ap (λ (x : SiteState). x.waiting) is))
news_turn [] old new wanted (inl (place, s, there, not, gives)) =
    inr (from_behind (noted (record old { active = remove old.active place }) s) s wanted new gives)
news_turn [] old new wanted (inr (none, gives)) = waiting_turn old.is_stale old wanted new gives

pub ask_in_turn : AskInTurn
ask_in_turn old new wanted gives = news_turn old.news old new wanted gives
