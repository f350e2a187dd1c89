-- Behind a question that isn't answered: the next one is asked once, or nothing is.
use Rattle.std.proofs.Common.{◌≡◌, ◌&&◌, not, Bool, true, false, if◌then◌else◌, List, [], ◌∷◌, ◌++◌, map, Option, None, Some}
use Rattle.std.proofs.Common.{◌∙◌, refl, sym}
use Rattle.bac_link.specs.declared.request.Request.{Request}
use Rattle.bac_wire.specs.Primitive.{Id}
use Rattle.bac_poll.specs.Turns.{ends}
use Rattle.bac_poll_steps.specs.declared.turn.PollEnd.TheVariants.{Fault}
use Rattle.bac_walk.specs.declared.outcome.WalkFault.TheVariants as walk
use Rattle.bac_answers.specs.declared.entry.Entry.{Entry}
use Rattle.bac_answers.specs.declared.entry.Entry.TheVariants as entry
use Rattle.bac_device_poll.specs.Listing.{lists, may_differ}
use Rattle.bac_device_poll.specs.Logs.{begins_with, with_log}
use Rattle.bac_device_poll.specs.Loss.{after_loss, is_count, is_last, loss_at, passed_over, unanswered, unread}
use Rattle.bac_device_poll.specs.Naming.{after_description, is_changed, names, names_next, names_with, told_read}
use Rattle.bac_device_poll.specs.Naming.{unnamed}
use Rattle.bac_device_poll.specs.Poll.{asked_of_device}
use Rattle.bac_device_poll.specs.State.{DeviceState, LogAs}
use Rattle.bac_device_poll.specs.Turns.{Turned, asks, leaves}
use Rattle.bac_device_poll.specs.declared.question.Question.TheVariants.{Confirmed}
use Rattle.bac_device_poll.specs.declared.stage.Stage.{Stage}
use Rattle.bac_device_poll.specs.declared.stage.Stage.TheVariants as stage
use Rattle.bac_device_poll.specs.declared.task.Polled.{Polled}
use Rattle.bac_device_poll.specs.declared.turn.DeviceEnd.{DeviceEnd}
use Rattle.bac_device_poll.specs.declared.turn.DeviceEnd.TheVariants.{Silent}
use Rattle.bac_device_poller.specs.Poller.{end_at}
use Rattle.bac_device_poller.specs.Silence.{IsMet, is_objects}
use Rattle.bac_device_poller.proofs.LogTurns.{behind}

-- a request of a device that told who it is
abbrev pub AsksOn : DeviceState → Type 0
AsksOn p = (request : Request) × (asked_of_device p ≡ Confirmed request) × IsMet p.stage

-- so it is, unless nothing more is asked
abbrev pub GoesMet : Option DeviceEnd → DeviceState → Type 0
GoesMet None p = AsksOn p
GoesMet (Some why) p = Unit {0}

-- what a turn leaves, and what it does with the next log begun; how many elements its list has is asked then only if so
record Next (counts : Bool) (p : DeviceState) (t : Turned) : Type 0 where
  pub log : t.log ≡ None
  pub on : GoesMet (end_at t.step) t.device
  pub doubt : t.device.doubt ≡ p.doubt
  pub count : is_count t.device.stage ≡ counts
  pub on_behind : GoesMet (end_at (behind t).step) (behind t).device
  pub doubt_behind : (behind t).device.doubt ≡ p.doubt
  pub count_behind : is_count (behind t).device.stage ≡ counts

-- ---- the next question

begins_next : (p : DeviceState) (logs : List LogAs) (es : List Entry) → Next false p (begins_with p logs es)
begins_next p [] es = record { log = refl; on = tt; doubt = refl; count = refl; on_behind = tt; doubt_behind = refl; count_behind = refl }
begins_next p (task ∷ logs) es =
    record {
      log = refl;
      on = (_, refl, tt);
      doubt = refl;
      count = refl;
      on_behind = (_, refl, tt);
      doubt_behind = refl;
      count_behind = refl;
    }

-- the same of a device that was the same but for what a turn doesn't look at
same_next : (c : Bool) (p q : DeviceState) (t : Turned) → q.doubt ≡ p.doubt → Next c q t → Next c p t
same_next c p q t same n = record {
  log = n.log;
  on = n.on;
  doubt = n.doubt ∙ same;
  count = n.count;
  on_behind = n.on_behind;
  doubt_behind = n.doubt_behind ∙ same;
  count_behind = n.count_behind;
}

named_next : (p : DeviceState) (logs : List Id) (es : List Entry) → Next false p (names_with p logs es)
named_next p [] es = begins_next p p.logs (es ++ told_read p)
named_next p (log ∷ logs) es =
    record {
      log = refl;
      on = (_, refl, tt);
      doubt = refl;
      count = refl;
      on_behind = (_, refl, tt);
      doubt_behind = refl;
      count_behind = refl;
    }

names_by : (b : Bool) (p : DeviceState) (logs : List Id) (es : List Entry) →
    Next false p (if b then names_next (record p { unnamed = logs }) es else names_next p es)
names_by true p logs es = same_next false p (record p { unnamed = logs }) _ refl (named_next (record p { unnamed = logs }) logs es)
names_by false p logs es = named_next p p.unnamed es

names_on : (p : DeviceState) (es : List Entry) → Next false p (names p es)
names_on p es = names_by (is_changed p.revision p.told.revision) p (map (λ (t : LogAs). t.log) p.logs) es

lists_by : (b : Bool) (p : DeviceState) (es : List Entry) →
    Next false p (if b then asks (record p { stage = stage.Objects }) es else names p es)
lists_by true p es =
    record {
      log = refl;
      on = (_, refl, tt);
      doubt = refl;
      count = refl;
      on_behind = (_, refl, tt);
      doubt_behind = refl;
      count_behind = refl;
    }
lists_by false p es = names_on p es

lists_on : (p : DeviceState) (es : List Entry) → Next false p (lists p es)
lists_on p es = lists_by (p.whole && may_differ p.revision p.told.revision) p es

clocks_by : (b : Bool) (p : DeviceState) → Next false p (if b then asks (record p { stage = stage.Date }) [] else lists p [])
clocks_by true p =
    record {
      log = refl;
      on = (_, refl, tt);
      doubt = refl;
      count = refl;
      on_behind = (_, refl, tt);
      doubt_behind = refl;
      count_behind = refl;
    }
clocks_by false p = lists_on p []

-- ---- a question that isn't answered

asked_next : (p q : DeviceState) → AsksOn q → q.doubt ≡ p.doubt → Next (is_count q.stage) p (asks q [])
asked_next p q on same =
    record { log = refl; on = on; doubt = same; count = refl; on_behind = on; doubt_behind = same; count_behind = refl }

unlisted_next : (p : DeviceState) → Next false p (names (record p { objects = [] }) (entry.Unlisted walk.Lost ∷ []))
unlisted_next p = same_next false p (record p { objects = [] }) _ refl (names_on (record p { objects = [] }) (entry.Unlisted walk.Lost ∷ []))

left_next : (p : DeviceState) → Next false p (leaves p [] Silent)
left_next p = record { log = refl; on = tt; doubt = refl; count = refl; on_behind = tt; doubt_behind = refl; count_behind = refl }

-- what it logs, or the description, so the next log
described_next : (p : DeviceState) (log : Id) → Next false p (after_description (unread p) log None)
described_next p log =
    let q : DeviceState = record (unread p) { naming = unnamed } in
    same_next false p q _ refl (named_next q p.unnamed (entry.Named log (record p.naming { description = None }) ∷ []))

passed_next : (s : Stage) (p : DeviceState) → Next (is_objects s) p (passed_over s p)
passed_next stage.Instance p = left_next p
passed_next stage.IAm p = left_next p
passed_next stage.Name p = left_next p
passed_next stage.Restart p = asked_next p _ (_, refl, tt) refl
passed_next stage.Revision p =
    let q : DeviceState = record p { told = record p.told { revision = None } } in same_next false p q _ refl (clocks_by p.clock q)
passed_next stage.Date p = lists_on p (entry.Clock None ∷ [])
passed_next (stage.Time date) p = lists_on p (entry.Clock None ∷ [])
passed_next stage.Objects p = asked_next p _ (_, refl, tt) refl
passed_next stage.Count p = unlisted_next p
passed_next (stage.Element index count) p = unlisted_next p
passed_next (stage.LogName log) p = asked_next p _ (_, refl, tt) refl
passed_next (stage.Source log) p = described_next p log
passed_next (stage.Units log) p = asked_next p _ (_, refl, tt) refl
passed_next (stage.Description log) p = described_next p log
passed_next stage.Log p = left_next p
passed_next stage.Between p = left_next p
passed_next stage.Ended p = left_next p

log_none : (b : Bool) (p : DeviceState) → (if b then leaves p [] Silent else passed_over p.stage (record p { doubt = true })).log ≡ None
log_none true p = refl
log_none false p = (passed_next p.stage (record p { doubt = true })).log

-- it brings nothing of a log
pub brings_no_log : (p : DeviceState) → (unanswered p).log ≡ None
brings_no_log p = log_none (is_last p) p

-- behind it, where the question before was answered, or wasn't
pub record Passes (was : Bool) (at : Stage) (u : Turned) : Type 0 where
  pub silent : was ≡ true → is_count at ≡ false → end_at u.step ≡ Some Silent
  pub on : GoesMet (end_at u.step) u.device
  pub doubt : u.device.doubt ≡ true
  pub count : is_count u.device.stage ≡ true → is_objects at ≡ true

-- the last question in doubt
in_doubt : (doubt counts : Bool) → (doubt && not counts) ≡ true → doubt ≡ true
in_doubt true counts is = refl
in_doubt false counts is = absurd (cc)

not_last : {A : Type 0} (doubt counts : Bool) → (doubt && not counts) ≡ false → doubt ≡ true → counts ≡ false → A
not_last true true is sure none = absurd (cc)
not_last true false is sure none = absurd (cc)
not_last false counts is sure none = absurd (cc)

passed : (b : Bool) (p : DeviceState) → is_last p ≡ b →
    Passes p.doubt p.stage (behind (if b then leaves p [] Silent else passed_over p.stage (record p { doubt = true })))
passed true p is = record {
  silent = λ sure none. refl;
  on = tt;
  doubt = in_doubt p.doubt (is_count p.stage) is;
  count = λ no. absurd (cc);
}
passed false p is =
    let n = passed_next p.stage (record p { doubt = true }) in record {
      silent = λ sure none. not_last p.doubt (is_count p.stage) is sure none;
      on = n.on_behind;
      doubt = n.doubt_behind;
      count = λ counts. sym n.count_behind ∙ counts;
    }

log_passed : (b : Bool) (p : DeviceState) (q : Polled) → p.doubt ≡ b →
    Passes b p.stage (behind (if b
    then record (leaves (record p { polled = Some q }) [] Silent) { log = Some (ends q.poll (Fault walk.Lost)) }
    else with_log (record p { doubt = true }) q (ends q.poll (Fault walk.Lost))))
log_passed true p q is = record { silent = λ sure none. refl; on = tt; doubt = is; count = λ no. absurd (cc) }
log_passed false p q is =
    let d : DeviceState = (with_log (record p { doubt = true }) q (ends q.poll (Fault walk.Lost))).device in
    let n = begins_next d p.logs [] in record {
      silent = λ no none. absurd (cc);
      on = n.on;
      doubt = n.doubt;
      count = λ counts. absurd (let e : false ≡ true = sym n.count ∙ counts in cc);
    }

by_polled : (p : DeviceState) (o : Option Polled) → Passes p.doubt p.stage (behind (loss_at p o))
by_polled p None = passed (is_last p) p refl
by_polled p (Some q) = log_passed p.doubt p q refl

pub passes : (p : DeviceState) → Passes p.doubt p.stage (behind (after_loss p))
passes p = by_polled p p.polled
