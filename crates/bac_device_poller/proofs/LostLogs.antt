-- Behind a log that is lost: the next one, unless no answer came since the log before was lost.
use Rattle.std.proofs.Common.{◌≡◌, ◌≢◌, ◌∙◌, Bool, true, false, List, [], ◌∷◌, Option, None, Some, ap, sym, refl, subst}
use Rattle.bac_link.specs.declared.request.Request.{Request}
use Rattle.bac_drive.specs.declared.machine.Next.{Next}
use Rattle.bac_drive.specs.declared.machine.Next.TheVariants as next
use Rattle.bac_poll.specs.Poll.{asked_by_poll}
use Rattle.bac_device_poll.specs.Identity.{device_of}
use Rattle.bac_device_poll.specs.Logs.{begins_with}
use Rattle.bac_device_poll.specs.Loss.{after_loss}
use Rattle.bac_device_poll.specs.Rejects.{reject_by}
use Rattle.bac_device_poll.specs.State.{DeviceState, LogAs, begun}
use Rattle.bac_device_poll.specs.Turns.{Turned}
use Rattle.bac_answers.specs.declared.reject.NoRoute.{NoRoute}
use Rattle.bac_device_poll.specs.declared.question.Question.{Question}
use Rattle.bac_device_poll.specs.declared.question.Question.TheVariants.{Confirmed}
use Rattle.bac_device_poll.specs.declared.stage.Stage.TheVariants as stage
use Rattle.bac_device_poll.specs.declared.task.Polled.{Polled}
use Rattle.bac_device_poll.specs.declared.turn.DeviceEnd.{DeviceEnd}
use Rattle.bac_device_poller.specs.Poller.{AsksNext, ComesBy, GivesBy, PollerAs, Settles, TellsNext, end_at}
use Rattle.bac_device_poller.specs.Silence.{Answered, Happening, Happens, IsBegun, IsPolling, Lent, LostStopsNone, Missed}
use Rattle.bac_device_poller.specs.Silence.{Wanted, asks_next}
use Rattle.bac_device_poller.specs.Telling.{LineAs}
use Rattle.bac_device_poller.specs.declared.doing.Came.{Came}
use Rattle.bac_device_poller.specs.declared.doing.Doing.{Doing}
use Rattle.bac_device_poller.specs.declared.doing.Doing.TheVariants as doing
use Rattle.bac_device_poller.proofs.LogTurns.{at_log, behind}
use Rattle.bac_device_poller.proofs.Silence.{Settled, asked_is, asks_with, by_log, comes_polls, doubt_behind, lost_is, settled}
use Rattle.bac_device_poller.proofs.SilentSteps.{heard_is}
use Rattle.bac_device_poller.proofs.SilentRuns.{missed_poll}

-- ---- the next log

record NextOf (task : LogAs) (rest : List LogAs) (p : DeviceState) (u : Turned) : Type 0 where
  pub stage : u.device.stage ≡ stage.Log
  pub polled : u.device.polled ≡ Some (record {
    log = task.log;
    poll = begun task.log (device_of p.who) p.many p.told task.begin;
    left = p.steps;
  })
  pub logs : u.device.logs ≡ rest
  pub goes : end_at u.step ≡ None

next_of : (p : DeviceState) (logs : List LogAs) (task : LogAs) (rest : List LogAs) → logs ≡ task ∷ rest → NextOf task rest p (begins_with p logs [])
next_of p logs task rest is =
    subst (λ (l : List LogAs). NextOf task rest p (begins_with p l [])) (sym is) (record { stage = refl; polled = refl; logs = refl; goes = refl })

lost_next : (doubt : Bool) (p : DeviceState) (q : Polled) (task : LogAs) (rest : List LogAs) → doubt ≡ false → p.logs ≡ task ∷ rest →
    NextOf task rest p (behind (after_loss (at_log p q doubt)))
lost_next false p q task rest none is =
    let n = next_of (behind_end p q) p.logs task rest is in record { stage = n.stage; polled = n.polled; logs = n.logs; goes = n.goes }
  where
    behind_end : DeviceState → Polled → DeviceState
    behind_end p q = (after_loss (at_log p q false)).device
lost_next true p q task rest none is = absurd (cc)

begun_next : (old new : PollerAs) (q : Polled) (task : LogAs) (rest : List LogAs) → IsPolling old q → old.poll.doubt ≡ false →
    old.poll.logs ≡ task ∷ rest → Settled (after_loss old.poll) old new → IsBegun task rest old new
begun_next old new q task rest on sure logs s =
    let n : NextOf task rest old.poll (behind (after_loss old.poll)) =
    by_log (λ (d : DeviceState). d.doubt ≡ false → d.logs ≡ task ∷ rest → NextOf task rest d (behind (after_loss d))) old q on
    (lost_at old.poll.doubt) sure logs in record {
      stage = ap (λ (d : DeviceState). d.stage) s.poll ∙ n.stage;
      polled = ap (λ (d : DeviceState). d.polled) s.poll ∙ n.polled;
      logs = ap (λ (d : DeviceState). d.logs) s.poll ∙ n.logs;
      asks = ap asks_next s.doing ∙ asks_with (end_at (behind (after_loss old.poll)).step) s.told n.goes;
    }
  where
    lost_at : (b : Bool) → b ≡ false → old.poll.logs ≡ task ∷ rest → NextOf task rest (at_log old.poll q b) (behind (after_loss (at_log old.poll q b)))
    lost_at b none is = let n = lost_next b old.poll q task rest none is in record { stage = n.stage; polled = n.polled; logs = n.logs; goes = n.goes }

-- ---- only a loss puts the next one in doubt

-- behind an answer, or a rejection
heard_doubt : (o : Option NoRoute) (old new : PollerAs) (q : Polled) (came : Came) (wanted : Next) → IsPolling old q →
    reject_by old.way came.from came.datagram ≡ o → GivesBy (doing.Hears came) old wanted new →
    new.poll.doubt ≡ doubt_behind o old.poll.doubt
heard_doubt o old new q came (next.Keep puts) on is (t, comes, settles) =
    let C : Option NoRoute → Type 0 = λ r. ComesBy r old came t in
    ap (λ (d : DeviceState). d.doubt) (settled t old puts.items new settles).poll
    ∙ (comes_polls o old q came t on (subst C is comes)).doubt
heard_doubt o old new q came wanted on is gives = absurd gives

by_answer : (old new : PollerAs) (q : Polled) (came : Came) (wanted : Next) → IsPolling old q →
    reject_by old.way came.from came.datagram ≡ None → GivesBy (doing.Hears came) old wanted new → new.poll.doubt ≡ false
by_answer old new q came wanted on none gives = heard_doubt None old new q came wanted on none gives

sure_behind : (o : Option NoRoute) (was : Bool) → was ≡ false → doubt_behind o was ≡ false
sure_behind None was sure = refl
sure_behind (Some reject) was sure = sure

sure_same : (old new : PollerAs) → new.poll ≡ old.poll → old.poll.doubt ≡ false → new.poll.doubt ≡ false
sure_same old new is sure = ap (λ (d : DeviceState). d.doubt) is ∙ sure

sure_asks : (request : Request) (old : PollerAs) (wanted : Next) (new : PollerAs) → AsksNext (Confirmed request) old wanted new → new.poll ≡ old.poll
sure_asks request old (next.Send octets to) new (o, t, is) = ap (λ (x : PollerAs). x.poll) is
sure_asks request old wanted new asks = absurd asks

sure_tells : (lines : List LineAs) (end : Option DeviceEnd) (old : PollerAs) (wanted : Next) (new : PollerAs) →
    TellsNext lines end old wanted new → new.poll ≡ old.poll
sure_tells [] end old wanted new (w, is) = ap (λ (x : PollerAs). x.poll) is
sure_tells (line ∷ lines) end old wanted new (w, is) = ap (λ (x : PollerAs). x.poll) is

sure_gives : (what : Doing) (old : PollerAs) (wanted : Next) (new : PollerAs) (q : Polled) → IsPolling old q → old.poll.doubt ≡ false →
    what ≢ doing.Loses → GivesBy what old wanted new → new.poll.doubt ≡ false
sure_gives doing.Asks old wanted new q on sure other gives =
    sure_same old new (sure_asks (asked_by_poll q.poll) old wanted new (subst (λ (x : Question). AsksNext x old wanted new) (asked_is old q on) gives)) sure
sure_gives (doing.Resends datagram) old (next.Send octets to) new q on sure other (o, t, is) = sure_same old new (ap (λ (x : PollerAs). x.poll) is) sure
sure_gives (doing.Resends datagram) old wanted new q on sure other gives = absurd gives
sure_gives doing.Waits old wanted new q on sure other (w, is) = sure_same old new (ap (λ (x : PollerAs). x.poll) is) sure
sure_gives (doing.Hears came) old wanted new q on sure other gives =
    let o : Option NoRoute = reject_by old.way came.from came.datagram in
    heard_doubt o old new q came wanted on refl gives ∙ sure_behind o old.poll.doubt sure
sure_gives doing.Loses old wanted new q on sure other gives = absurd (other refl)
sure_gives (doing.Tells end) old wanted new q on sure other gives = sure_same old new (sure_tells old.rows.lines end old wanted new gives) sure
sure_gives (doing.Ended why) old wanted new q on sure other (w, is) = sure_same old new (ap (λ (x : PollerAs). x.poll) is) sure

stays_sure : (old new : PollerAs) (q : Polled) (h : Happening) → IsPolling old q → old.poll.doubt ≡ false →
    old.doing ≢ doing.Loses → Happens old h new → new.poll.doubt ≡ false
stays_sure old new q (Lent ids) on sure other is = sure_same old new (ap (λ (x : PollerAs). x.poll) is) sure
stays_sure old new q (Wanted wanted) on sure other gives = sure_gives old.doing old wanted new q on sure other gives
stays_sure old new q (Answered from datagram now) on sure other (fits, is) =
    sure_same old new (ap (λ (x : PollerAs). x.poll) (is ∙ heard_is old from datagram now fits)) sure
stays_sure old new q Missed on sure other (waits, is) = sure_same old new (ap (λ (x : PollerAs). x.poll) is ∙ missed_poll old) sure

pub lost_stops_none : LostStopsNone
lost_stops_none = (by_loss, by_answer, stays_sure)
  where
    by_loss : (old new : PollerAs) (q : Polled) (task : LogAs) (rest : List LogAs) (wanted : Next) → IsPolling old q →
        old.poll.doubt ≡ false → old.poll.logs ≡ task ∷ rest → GivesBy doing.Loses old wanted new → IsBegun task rest old new
    by_loss old new q task rest (next.Keep puts) on sure logs settles =
        begun_next old new q task rest on sure logs (settled (after_loss old.poll) old puts.items new
        (subst (λ (t : Turned). Settles t old puts.items new) (lost_is old q on) settles))
    by_loss old new q task rest wanted on sure logs gives = absurd gives
