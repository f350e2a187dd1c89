-- What comes of the question of a log: which logs are left then.
use Rattle.std.proofs.Common.{◌≡◌, ◌∙◌, ℕ, ◌&&◌, nat_lt, Bool, true, false, if◌then◌else◌, List, [], ◌∷◌}
use Rattle.std.proofs.Common.{◌++◌, map, MatchBool, Option, None, Some, ap, sym, refl, subst, append-nil}
use Rattle.bac_wire.specs.Primitive.{Id}
use Rattle.bac_wire.specs.Stamp.{CivilTime}
use Rattle.bac_link.specs.Datagrams.{apdu_in}
use Rattle.bac_link.specs.declared.exchanges.Verdict.{Verdict}
use Rattle.bac_poll.specs.Turns.{Turned as LogTurned, ends}
use Rattle.bac_poll_steps.specs.declared.turn.PollEnd.TheVariants.{Fault}
use Rattle.bac_walk.specs.declared.outcome.WalkFault.TheVariants as walk
use Rattle.bac_device_poll.specs.Laws.{ended_by, ended_in, left, not_asked_in, waiting}
use Rattle.bac_device_poll.specs.Logs.{after_end, begins_with, halved, has_ended, is_too_many, left_behind}
use Rattle.bac_device_poll.specs.Logs.{log_after, logged, with_log}
use Rattle.bac_device_poll.specs.Loss.{after_loss}
use Rattle.bac_device_poll.specs.Poll.{Takes, answered, asked_of_device, verdict_to}
use Rattle.bac_device_poll.specs.Refusals.{is_busy}
use Rattle.bac_device_poll.specs.Rejects.{after_reject}
use Rattle.bac_device_poll.specs.State.{DeviceState, LogAs}
use Rattle.bac_device_poll.specs.Turns.{Turned, not_asked}
use Rattle.bac_answers.specs.declared.reject.NoRoute.{NoRoute}
use Rattle.bac_device_poll.specs.declared.stage.Stage.TheVariants as stage
use Rattle.bac_device_poll.specs.declared.task.Polled.{Polled}
use Rattle.bac_device_poll.specs.declared.turn.DeviceEnd.{DeviceEnd}
use Rattle.bac_device_poller.specs.Poller.{end_at, stepped}

-- a device whose logs are polled, this one now
abbrev pub at_log : DeviceState → Polled → (doubt : Bool) → DeviceState
at_log p q doubt = record p { stage = stage.Log; polled = Some q; doubt = doubt }

-- its logs are polled still, unless nothing more is asked
abbrev pub GoesOn : Option DeviceEnd → DeviceState → Type 0
GoesOn None p = (q : Polled) × (p.stage ≡ stage.Log) × (p.polled ≡ Some q)
GoesOn (Some why) p = Unit {0}

-- what a turn makes of it, with the next log begun behind the end of one
abbrev pub behind : Turned → Turned
behind t = stepped t.step t.device

-- which logs are left then, and whether the next question is in doubt
pub record Polls (p : DeviceState) (now : Bool) (t : Turned) : Type 0 where
  pub left : left p ≡ ended_in t.log p.polled ++ (not_asked_in t.entries ++ left (behind t).device)
  pub goes : GoesOn (end_at (behind t).step) (behind t).device
  pub doubt : (behind t).device.doubt ≡ now

-- ---- the next log

record Begins (p : DeviceState) (t : Turned) : Type 0 where
  pub left : left t.device ≡ waiting p
  pub goes : GoesOn (end_at t.step) t.device
  pub doubt : t.device.doubt ≡ p.doubt

begins : (p : DeviceState) (logs : List LogAs) → p.logs ≡ logs → Begins p (begins_with p logs [])
begins p [] is = record { left = refl; goes = tt; doubt = refl }
begins p (task ∷ logs) is = record {
  left = sym (ap (map (λ (t : LogAs). t.log)) is);
  goes = (_, refl, refl);
  doubt = refl;
}

-- ---- a turn of the log that is polled

logged_by : (ended : Bool) (p : DeviceState) (q : Polled) (t : LogTurned) (was now : Bool) (busy : ℕ) →
    has_ended t.end (left_behind q.left t.records) ≡ ended →
    Polls (at_log p q was) now (logged ended (at_log (record p { busy = busy }) q now) q t)
logged_by false p q t was now busy is = record {
  left = ap (λ (e : Bool). ended_by e q.log ++ (q.log ∷ waiting p)) (sym is);
  goes = (_, refl, refl);
  doubt = refl;
}
logged_by true p q t was now busy is =
    let d : DeviceState = (logged true (at_log (record p { busy = busy }) q now) q t).device in
    let b = begins d p.logs refl in record {
      left = ap (λ (l : List Id). q.log ∷ l) (sym b.left) ∙ ap (λ (e : Bool). ended_by e q.log ++ left (after_end d).device) (sym is);
      goes = b.goes;
      doubt = b.doubt;
    }

turn_polls : (p : DeviceState) (q : Polled) (t : LogTurned) (was now : Bool) (busy : ℕ) →
    Polls (at_log p q was) now (with_log (at_log (record p { busy = busy }) q now) q t)
turn_polls p q t was now busy = logged_by (has_ended t.end (left_behind q.left t.records)) p q t was now busy refl

-- ---- an answer

matched : {A B C : Type 0} (b : Bool) → MatchBool b A B → (A → C) → (B → C) → C
matched true m f g = f m
matched false m f g = g m

answer : (many : Bool) (p : DeviceState) (q : Polled) (t : LogTurned) (doubt : Bool) →
    Polls (at_log p q doubt) false (if many then halved (answered (at_log p q doubt)) q else with_log (answered (at_log p q doubt)) q t)
answer true p q t doubt = record { left = refl; goes = (_, refl, refl); doubt = refl }
answer false p q t doubt = turn_polls p q t doubt false 0

pub came : (p : DeviceState) (q : Polled) (doubt : Bool) (datagram : List ℕ) (now : CivilTime) (t : Turned) →
    Takes (at_log p q doubt) datagram now t → Polls (at_log p q doubt) false t
came p q doubt datagram now t takes =
    let d : DeviceState = at_log p q doubt in
    let v : Verdict = verdict_to (asked_of_device d) (apdu_in datagram) in
    matched (is_busy v && nat_lt d.busy d.retries) takes
    (λ is. subst (Polls d false) (sym is) (record { left = refl; goes = (q, refl, refl); doubt = refl }))
    (λ is. subst (Polls d false) (sym is) (answer (is_too_many q.poll v) p q (log_after q.poll v datagram) doubt))

-- ---- none

all_told : (logs : List LogAs) → not_asked_in (map not_asked logs) ≡ map (λ (t : LogAs). t.log) logs
all_told [] = refl
all_told (task ∷ logs) = ap (λ (l : List Id). task.log ∷ l) (all_told logs)

pub lost : (p : DeviceState) (q : Polled) (doubt : Bool) → Polls (at_log p q doubt) true (after_loss (at_log p q doubt))
lost p q false = turn_polls p q (ends q.poll (Fault walk.Lost)) false true p.busy
lost p q true = record {
  left = ap (λ (l : List Id). q.log ∷ l) (sym (all_told p.logs) ∙ sym (append-nil (not_asked_in (map not_asked p.logs))));
  goes = tt;
  doubt = refl;
}

-- ---- a rejection

pub rejected : (p : DeviceState) (q : Polled) (doubt : Bool) (reject : NoRoute) →
    Polls (at_log p q doubt) doubt (after_reject (at_log p q doubt) reject)
rejected p q doubt reject = record {
  left = ap (λ (l : List Id). q.log ∷ l) (sym (all_told p.logs) ∙ sym (append-nil (not_asked_in (map not_asked p.logs))));
  goes = tt;
  doubt = refl;
}
