-- No log of a device is left out: a step, and a run.
use Rattle.std.proofs.Common.{◌≡◌, ◌∙◌, ℕ, ◌+◌, ◌&&◌, Bool, true, false, if◌then◌else◌, List, [], ◌∷◌, ◌++◌, map, MatchBool, Option}
use Rattle.std.proofs.Common.{None, Some, ap, sym, refl, subst, append-nil, append_assoc, inl, inr, ◌⊎◌, nat_lt}
use Rattle.bac_wire.specs.Primitive.{Id}
use Rattle.bac_wire.specs.Stamp.{CivilTime}
use Rattle.bac_link.specs.declared.exchanges.Verdict.{Verdict}
use Rattle.bac_poll.specs.Turns.{Turned as LogTurned, ends}
use Rattle.bac_poll_steps.specs.declared.turn.PollEnd.TheVariants.{Fault}
use Rattle.bac_walk.specs.declared.outcome.WalkFault.TheVariants as walk
use Rattle.bac_device_poll.specs.Laws.{ComesAt, IsHeard, IsRejected, NoneLeftOut, Runs, added_in, at_stage}
use Rattle.bac_device_poll.specs.Laws.{behind as after_all, ended_in}
use Rattle.bac_device_poll.specs.Laws.{found_in, left, not_asked_in, settled, waiting}
use Rattle.bac_device_poll.specs.Logs.{after_end, after_log, begins_with, is_too_many, log_after, log_at}
use Rattle.bac_device_poll.specs.Loss.{after_loss, loss_at}
use Rattle.bac_device_poll.specs.Refusals.{is_busy}
use Rattle.bac_device_poll.specs.Rejects.{after_reject, lost_log}
use Rattle.bac_device_poll.specs.Identity.{after_i_am}
use Rattle.bac_link.specs.Datagrams.{apdu_in}
use Rattle.bac_device_poll.specs.Poll.{Answers, Takes, answered, asked_of_device, fresh, later, verdict_to}
use Rattle.bac_device_poll.specs.Poll.{with_steps}
use Rattle.bac_device_poll.specs.State.{DeviceState, LogAs}
use Rattle.bac_device_poll.specs.Turns.{Turned, leaves}
use Rattle.bac_answers.specs.declared.entry.Entry.TheVariants as entry
use Rattle.bac_answers.specs.declared.reject.NoRoute.{NoRoute}
use Rattle.bac_device_poll.specs.declared.stage.Stage.{Stage}
use Rattle.bac_device_poll.specs.declared.stage.Stage.TheVariants as stage
use Rattle.bac_device_poll.specs.declared.task.Polled.{Polled}
use Rattle.bac_device_poll.specs.declared.turn.DeviceEnd.TheVariants.{Silent, Unreached}
use Rattle.bac_device_poll.proofs.LeftOut.{Accounts, Goes, IsApt, PollsOn, Stays, accounts, answer_polls, answers_go}
use Rattle.bac_device_poll.proofs.LeftOut.{begun, i_am_goes, loss_goes, lost_if, rejected_goes, rejected_polls}

-- ---- one step

record Step (p : DeviceState) (t : Turned) : Type 0 where
  accounts : Accounts p t
  apt : IsApt t.device.stage t.device

goes_on : (p : DeviceState) (t : Turned) → p.polled ≡ None → Goes p t → Step p t
goes_on p t none goes = record { accounts = accounts p t none goes; apt = goes.apt }

-- at any log that is polled
at_log : (p : DeviceState) (q : Polled) (f : Option Polled → Turned) → p.polled ≡ Some q → p.stage ≡ stage.Log →
    PollsOn p (Some q) stage.Log (f (Some q)) → Step p (f p.polled)
at_log p q f is at polls =
    let on : PollsOn p p.polled p.stage (f p.polled) = subst (λ (o : Option Polled). PollsOn p o p.stage (f o)) (sym is) (subst (λ (s : Stage). PollsOn p (Some q) s (f (Some q))) (sym at) polls) in
    record { accounts = on.0; apt = on.1 }

-- only how often it was busy, and whether it is in doubt, is another
apt_busy : (p : DeviceState) (busy : ℕ) (doubt : Bool) (s : Stage) → IsApt s p → IsApt s (record p { busy = busy; doubt = doubt })
apt_busy p busy doubt stage.Instance apt = apt
apt_busy p busy doubt stage.IAm apt = apt
apt_busy p busy doubt stage.Name apt = apt
apt_busy p busy doubt stage.Restart apt = apt
apt_busy p busy doubt stage.Revision apt = apt
apt_busy p busy doubt stage.Date apt = apt
apt_busy p busy doubt (stage.Time date) apt = apt
apt_busy p busy doubt stage.Objects apt = apt
apt_busy p busy doubt stage.Count apt = apt
apt_busy p busy doubt (stage.Element index count) apt = apt
apt_busy p busy doubt (stage.LogName log) apt = apt
apt_busy p busy doubt (stage.Source log) apt = apt
apt_busy p busy doubt (stage.Units log) apt = apt
apt_busy p busy doubt (stage.Description log) apt = apt
apt_busy p busy doubt stage.Log apt = apt
apt_busy p busy doubt stage.Between apt = apt
apt_busy p busy doubt stage.Ended apt = apt

-- it is asked again
later_steps : (p : DeviceState) → IsApt p.stage p → Step p (later p)
later_steps p apt = record { accounts = sym (append-nil (left p)); apt = apt_busy p (p.busy + 1) false p.stage apt }

-- it answers
apt_answered : (p : DeviceState) (s : Stage) → IsApt s p → IsApt s (answered p)
apt_answered p s apt = apt_busy p 0 false s apt

step_answered : (p : DeviceState) (t : Turned) → Step (answered p) t → Step p t
step_answered p t step = record { accounts = step.accounts; apt = step.apt }

pub matched : {A B C : Type 0} (b : Bool) → MatchBool b A B → (A → C) → (B → C) → C
matched true m f g = f m
matched false m f g = g m

-- an answer, before its logs are polled
heard : (p : DeviceState) (t : Turned) → p.polled ≡ None → IsApt p.stage p → IsHeard p t → Step p t
heard p t none apt (inl came) =
    let v : Verdict = verdict_to (asked_of_device p) (apdu_in came.0) in
    matched (is_busy v && nat_lt p.busy p.retries) came.2
    (λ is. subst (Step p) (sym is) (later_steps p apt))
    (λ is. step_answered p t (goes_on (answered p) t none (answers_go (answered p) p.stage v came.0 came.1 t none (apt_answered p p.stage apt) is)))
heard p t none apt (inr lost) = subst (Step p) (sym lost) (goes_on p _ none (loss_goes p none))

-- while one is
log_heard : (p : DeviceState) (q : Polled) (t : Turned) → p.stage ≡ stage.Log → p.polled ≡ Some q → IsApt p.stage p → IsHeard p t → Step p t
log_heard p q t at is apt (inl came) =
    let v : Verdict = verdict_to (asked_of_device p) (apdu_in came.0) in
    matched (is_busy v && nat_lt p.busy p.retries) came.2
    (λ same. subst (Step p) (sym same) (later_steps p apt))
    (λ same. subst (Step p) (sym (subst (λ (s : Stage). Answers (answered p) s v came.0 came.1 t) at same))
    (step_answered p (after_log (answered p) v came.0) (at_log (answered p) q (λ (o : Option Polled). log_at (answered p) o v came.0) is at
    (answer_polls (is_too_many q.poll v) (answered p) q (log_after q.poll v came.0) at))))
log_heard p q t at is apt (inr lost) =
    subst (Step p) (sym lost) (at_log p q (loss_at p) is at (lost_if p.doubt p q (ends q.poll (Fault walk.Lost)) Silent (Fault walk.Lost) refl))

-- a rejection ends the poll
rejected : (p : DeviceState) (t : Turned) → ((reject : NoRoute) → Step p (after_reject p reject)) → IsRejected p t → Step p t
rejected p t ends is = subst (Step p) (sym is.1) (ends is.0)

-- before its logs are polled, or while one is
none_ends : (p : DeviceState) → p.polled ≡ None → (reject : NoRoute) → Step p (after_reject p reject)
none_ends p none reject = goes_on p (after_reject p reject) none (rejected_goes p reject none)

log_ends : (p : DeviceState) (q : Polled) → p.stage ≡ stage.Log → p.polled ≡ Some q → (reject : NoRoute) → Step p (after_reject p reject)
log_ends p q at is reject =
    at_log p q (λ (o : Option Polled). record (leaves p (entry.Rejected reject ∷ []) Unreached) { log = lost_log o }) is at (rejected_polls p q reject)

-- whatever comes
comes_to : (p : DeviceState) (t : Turned) → p.polled ≡ None → IsApt p.stage p → IsHeard p t ⊎ IsRejected p t → Step p t
comes_to p t none apt (inl is) = heard p t none apt is
comes_to p t none apt (inr is) = rejected p t (none_ends p none) is

comes_to_log : (p : DeviceState) (q : Polled) (t : Turned) → p.stage ≡ stage.Log → p.polled ≡ Some q → IsApt p.stage p → IsHeard p t ⊎ IsRejected p t → Step p t
comes_to_log p q t at is apt (inl came) = log_heard p q t at is apt came
comes_to_log p q t at is apt (inr came) = rejected p t (log_ends p q at is) came

i_am_comes : (p : DeviceState) (t : Turned) → p.polled ≡ None → IsApt p.stage p → ((device : Option Id) × (t ≡ after_i_am p device)) ⊎ IsRejected p t → Step p t
i_am_comes p t none apt (inl came) = subst (Step p) (sym came.1) (goes_on p _ none (i_am_goes p came.0 none))
i_am_comes p t none apt (inr is) = rejected p t (none_ends p none) is

-- the next one
begun_apt : (p : DeviceState) (logs : List LogAs) → p.logs ≡ logs → IsApt (begins_with p logs []).device.stage (begins_with p logs []).device
begun_apt p [] is = is
begun_apt p (task ∷ logs) is = (_, refl)

end_steps : (p : DeviceState) → p.stage ≡ stage.Between → Step p (after_end p)
end_steps p is =
    let stays : Stays p [] (after_end p) = begun p p.logs [] refl in
    record {
      accounts = ap (λ (l : Option LogTurned). ended_in l p.polled ++ (not_asked_in (after_end p).entries ++ left (after_end p).device)) stays.log
          ∙ ap (λ (l : List Id). l ++ left (after_end p).device) stays.asked ∙ stays.left
          ∙ sym (ap (λ (s : Stage). at_stage s p.polled ++ waiting p) is) ∙ sym (append-nil (left p))
          ∙ ap (λ (l : List Id). left p ++ l) (sym stays.added);
      apt = begun_apt p p.logs refl;
    }

steps_at : (p : DeviceState) (s : Stage) (t : Turned) → p.stage ≡ s → IsApt p.stage p → IsApt s p → ComesAt s p t → Step p t
steps_at p stage.Instance t at apt none comes = comes_to p t none apt comes
steps_at p stage.IAm t at apt none comes = i_am_comes p t none apt comes
steps_at p stage.Name t at apt none comes = comes_to p t none apt comes
steps_at p stage.Restart t at apt none comes = comes_to p t none apt comes
steps_at p stage.Revision t at apt none comes = comes_to p t none apt comes
steps_at p stage.Date t at apt none comes = comes_to p t none apt comes
steps_at p (stage.Time date) t at apt none comes = comes_to p t none apt comes
steps_at p stage.Objects t at apt none comes = comes_to p t none apt comes
steps_at p stage.Count t at apt none comes = comes_to p t none apt comes
steps_at p (stage.Element index count) t at apt none comes = comes_to p t none apt comes
steps_at p (stage.LogName log) t at apt none comes = comes_to p t none apt comes
steps_at p (stage.Source log) t at apt none comes = comes_to p t none apt comes
steps_at p (stage.Units log) t at apt none comes = comes_to p t none apt comes
steps_at p (stage.Description log) t at apt none comes = comes_to p t none apt comes
steps_at p stage.Log t at apt polls comes = comes_to_log p polls.0 t at polls.1 apt comes
steps_at p stage.Between t at apt any comes = subst (Step p) (sym comes) (end_steps p at)
steps_at p stage.Ended t at apt done comes = absurd comes

-- ---- a run

record Run (p : DeviceState) (turns : List Turned) : Type 0 where
  accounts : settled p turns ++ left (after_all p turns) ≡ left p ++ found_in turns
  apt : IsApt (after_all p turns).stage (after_all p turns)

-- one step more, in front
joined : (done told more l found old new : List Id) → done ++ (told ++ l) ≡ old ++ new → (rest : List Id) → more ++ rest ≡ l ++ found →
    ((done ++ told) ++ more) ++ rest ≡ old ++ (new ++ found)
joined done told more l found old new first rest second =
    append_assoc (done ++ told) more rest ∙ ap (λ (x : List Id). (done ++ told) ++ x) second
    ∙ sym (append_assoc (done ++ told) l found) ∙ ap (λ (x : List Id). x ++ found) (append_assoc done told l ∙ first)
    ∙ append_assoc old new found

runs : (p : DeviceState) (turns : List Turned) → IsApt p.stage p → Runs p turns → Run p turns
runs p [] apt run = record { accounts = sym (append-nil (left p)); apt = apt }
runs p (t ∷ turns) apt run =
    let step : Step p t = steps_at p p.stage t refl apt apt run.0 in
    let rest : Run t.device turns = runs t.device turns step.apt run.1 in
    record {
      accounts = joined (ended_in t.log p.polled) (not_asked_in t.entries) (settled t.device turns) (left t.device) (found_in turns) (left p) (added_in t.entries) step.accounts (left (after_all t.device turns)) rest.accounts;
      apt = rest.apt;
    }

-- at the end none waits
none_waits : (p : DeviceState) → IsApt p.stage p → p.stage ≡ stage.Ended → left p ≡ []
none_waits p apt at =
    ap (λ (s : Stage). at_stage s p.polled ++ waiting p) at ∙ ap (map (λ (t : LogAs). t.log)) (subst (λ (s : Stage). IsApt s p) at apt)

pub none_left_out : NoneLeftOut
none_left_out known logs many retries clock steps turns run =
    let all : Run (with_steps steps (fresh known logs many retries clock)) turns = runs _ turns refl run in
    (all.accounts, λ at. none_waits _ all.apt at)
