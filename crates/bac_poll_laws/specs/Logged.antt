-- What is kept of a log that goes on, where its device answers by the standard.
use Rattle.std.specs.Prelude.{◌≡◌, ℕ, Option, Some, List, [], ◌∷◌}
use Rattle.bac_wire.specs.Primitive.{Id}
use Rattle.bac_log.specs.TrendLog.{sequence_number}
use Rattle.bac_log.specs.declared.entry.Entry.{Entry}
use Rattle.bac_link.specs.Delivery.{History, IsEntry, Moment}
use Rattle.bac_link.specs.Heard.{AckParameters, heard_in}
use Rattle.bac_link.specs.Standard.{AreHeldFrom, Asked, IsSaidAt}
use Rattle.bac_walk.specs.declared.batch.Numbered.{Numbered}
use Rattle.bac_poll_laws.specs.Laws.{Answer, Counted, Covers, Epoch, IsLast, IsStanding, Replied, Restarted}
use Rattle.bac_poll_laws.specs.Laws.{Revised, Whichever, after_all, after_answer, epoch_after_all}
use Rattle.bac_poll.specs.State.{PollState}
use Rattle.bac_poll_steps.specs.declared.stage.Stage.TheVariants.{Revision, Restart}

-- a record is an entry of the log, under its number
abbrev pub IsLogged : History → Numbered → Type 0
IsLogged H held = (k : ℕ) × (held.number ≡ sequence_number k) × IsEntry H k held.entry

-- records that the log holds at a moment, from one of its ordinals on
abbrev pub AreShown : Moment → History → Option ℕ → List Entry → Type 0
AreShown m H first [] = Unit {0}
AreShown m H first (e ∷ es) = (k : ℕ) × (first ≡ Some (sequence_number k)) × AreHeldFrom H m k (e ∷ es)

-- a reply, forwards or backwards, shows none but such records
pub record IsShownAt (m : Moment) (H : History) (log : Id) (datagram : List ℕ) : Type 0 where
  pub heard : AckParameters
  pub reads : heard_in log datagram ≡ Some heard
  pub shows : AreShown m H heard.first heard.entries

-- as one by the standard does
abbrev pub SaidIsShown : Type 0
SaidIsShown = (m : Moment) (H : History) (log : Id) (asked : Asked) (datagram : List ℕ) →
    IsSaidAt m H log asked datagram →
    IsShownAt m H log datagram

-- an answer that shows none but records that the log holds, at whatever moment
abbrev pub IsSaid : History → PollState → Answer → Type 0
IsSaid H p (Replied datagram) = (m : Moment) × IsShownAt m H p.walk.log datagram
IsSaid H p (Counted count) = Unit {0}
IsSaid H p (Revised revision) = p.stage ≡ Revision
IsSaid H p (Restarted restart moment) = p.stage ≡ Restart

-- such answers, one after the other, none of which but the last ends the poll
abbrev pub AreSaid : History → PollState → List Answer → Type 0
AreSaid H p [] = Unit {0}
AreSaid H p (answer ∷ others) =
    IsSaid H p answer × IsLast (after_answer p answer) others × AreSaid H (after_answer p answer).poll others

-- What is kept of an epoch then covers each number once, from its first up to the one that comes next; and each record
-- of it is an entry of the log, under its number. So it is behind the answer that ends the poll, too.
abbrev pub KeptIsLogged : Type 0
KeptIsLogged =
    (H : History) (p : PollState) (e : Epoch) (answers : List Answer) → IsStanding (IsLogged H) Whichever p →
    Covers (IsLogged H) e.first e.items p.next → AreSaid H p answers →
    Covers (IsLogged H) (epoch_after_all e p answers).first (epoch_after_all e p answers).items
    (after_all p answers).next
