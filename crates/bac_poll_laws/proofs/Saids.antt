-- What replies by the standard show.
use Rattle.std.proofs.Common.{◌≡◌, ℕ, ◌+◌, ◌==◌, ◌&&◌, Bool, true, false, if◌then◌else◌, Option, None, Some, List, []}
use Rattle.std.proofs.Common.{◌∷◌, length, sym, ap, subst, ◌∙◌}
use Rattle.bac_log.specs.TrendLog.{sequence_number}
use Rattle.bac_log.specs.declared.entry.Entry.{Entry}
use Rattle.bac_link.specs.Delivery.{History, Moment}
use Rattle.bac_link.specs.Heard.{AckParameters}
use Rattle.bac_link.specs.Ordinals.{number_after}
use Rattle.bac_link.specs.Standard.{AreHeldFrom, Asked, FromNumber, FromOldest, SaysAt}
use Rattle.bac_walk.specs.Walks.{Ask, Bring, End, NextAct, Refuse, asks_oldest_now, fits, is_past, verdict}
use Rattle.bac_walk.specs.Walks.{with_numbers}
use Rattle.bac_walk.specs.declared.batch.Numbered.{Numbered}
use Rattle.bac_walk.proofs.Shown.{after-number}
use Rattle.bac_poll_laws.specs.Laws.{Answer, Answers, AreAnswers, Counted, HoldsOfEach, Replied, Restarted, Revised}
use Rattle.bac_poll_laws.specs.Laws.{ShowsOnly, after_answer}
use Rattle.bac_poll_laws.specs.Logged.{AreSaid, AreShown, IsLogged, IsSaid, IsShownAt, KeptIsLogged, SaidIsShown}
use Rattle.bac_poll.specs.Poll.{ack_in, are_asked, has_last, has_more, reply_from, reply_in, reply_of}
use Rattle.bac_poll.specs.State.{PollState}
use Rattle.bac_poll.specs.Turns.{first_number}
use Rattle.bac_poll_laws.proofs.Once.{whole_epochs}

says_shown : (m : Moment) (H : History) (asked : Asked) (first : Option ℕ) (es : List Entry) → SaysAt m H asked first es → AreShown m H first es
says_shown m H (FromNumber n count) first [] says = tt
says_shown m H (FromNumber n count) first (e ∷ es) says = (says.0, says.1.0, says.1.2)
says_shown m H (FromOldest count) first [] says = tt
says_shown m H (FromOldest count) first (e ∷ es) says = (m.oldest, says.0, says.2)

pub said_shown : SaidIsShown
said_shown m H log asked datagram said =
    record { heard = said.heard; reads = said.reads; shows = says_shown m H asked said.heard.first said.heard.entries said.says }

-- ---- records that are held are entries

held_logged : (H : History) (m : Moment) (k n : ℕ) (es : List Entry) → n ≡ sequence_number k → AreHeldFrom H m k es →
    HoldsOfEach (IsLogged H) (with_numbers n es)
held_logged H m k n [] is held = tt
held_logged H m k n (e ∷ es) is held =
    ((k, is, held.1), held_logged H m (k + 1) (number_after n 1) es (ap (λ (x : ℕ). number_after x 1) is ∙ after-number k 1) held.2)

asked_shows : (H : History) (b : Bool) (records : List Numbered) (last more : Bool) → HoldsOfEach (IsLogged H) records →
    ShowsOnly (IsLogged H) (if b then Some (record { records = records; last = last; more = more }) else None)
asked_shows H true records last more all = all
asked_shows H false records last more all = tt

act_split : (T : NextAct → Type 0) (b : Bool) (x y : NextAct) → T x → T y → T (if b then x else y)
act_split T true x y f g = f
act_split T false x y f g = g

first_shows : (H : History) (m : Moment) (p : PollState) (first : Option ℕ) (count : ℕ) (es : List Entry) (last more : Bool) → AreShown m H first es →
    ShowsOnly (IsLogged H) (reply_of p (verdict p.walk first count es) es last more)
first_shows H m p first count [] last more shows =
    act_split (λ act. ShowsOnly (IsLogged H) (reply_of p act [] last more)) (asks_oldest_now p.walk) End Ask tt tt
first_shows H m p None count (e ∷ es) last more shows = tt
first_shows H m p (Some first) count (e ∷ es) last more shows =
    let same : first ≡ sequence_number shows.0 = cc in
    let all = held_logged H m shows.0 first (e ∷ es) same shows.2 in
    act_split (λ act. ShowsOnly (IsLogged H) (reply_of p act (e ∷ es) last more)) (is_past p.walk first) End _ tt
    (act_split (λ act. ShowsOnly (IsLogged H) (reply_of p act (e ∷ es) last more))
    ((count == length (e ∷ es)) && fits p.walk first (length (e ∷ es))) (Bring first) Refuse
    (asked_shows H (are_asked p p.stage (first_number (with_numbers first (e ∷ es))) (length (with_numbers first (e ∷ es)))) (with_numbers first (e ∷ es)) last more all)
    tt)

pub reply_shows : (H : History) (m : Moment) (p : PollState) (datagram : List ℕ) → IsShownAt m H p.walk.log datagram →
    ShowsOnly (IsLogged H) (reply_in p datagram)
reply_shows H m p datagram shown =
    let last = has_last (ack_in datagram) in
    let more = has_more (ack_in datagram) in
    let T : Option AckParameters → Type 0 = λ heard. ShowsOnly (IsLogged H) (reply_from p heard last more) in
    subst T (sym shown.reads) (first_shows H m p shown.heard.first shown.heard.count shown.heard.entries last more shown.shows)

one_said : (H : History) (p : PollState) (answer : Answer) → IsSaid H p answer → Answers (IsLogged H) p answer
one_said H p (Replied datagram) said = reply_shows H said.0 p datagram said.1
one_said H p (Counted count) said = tt
one_said H p (Revised revision) said = said
one_said H p (Restarted restart moment) said = said

all_said : (H : History) (p : PollState) (answers : List Answer) → AreSaid H p answers → AreAnswers (IsLogged H) p answers
all_said H p [] said = tt
all_said H p (answer ∷ answers) said = (one_said H p answer said.0, said.1, all_said H (after_answer p answer).poll answers said.2)

pub kept_logged : KeptIsLogged
kept_logged H p e answers is covers said = whole_epochs (IsLogged H) p e answers is covers (all_said H p answers said)
