-- How many replies with records a log has in a run.
use Rattle.std.proofs.Common.{◌≡◌, ◌∙◌, ◌<◌, ◌+◌, ◌-◌, ◌==◌, ◌&&◌, ℕ, nat_lt, cond, Bool, true, false, List, [], ◌∷◌}
use Rattle.std.proofs.Common.{if◌then◌else◌, Option, None, Some, ap, sym, refl, subst, arith, inl, inr}
use Rattle.std.proofs.lemmas.Bool.{eqb-false}
use Rattle.std.proofs.lemmas.List.Sums.{sum_by-cons}
use Rattle.bac_link.specs.Datagrams.{apdu_in}
use Rattle.bac_link.specs.declared.exchanges.Verdict.{Verdict}
use Rattle.bac_walk.specs.declared.batch.Numbered.{Numbered}
use Rattle.bac_walk.specs.declared.outcome.WalkFault.TheVariants as walk
use Rattle.bac_poll.specs.Turns.{Turned as LogTurned, ends}
use Rattle.bac_poll_steps.specs.declared.turn.PollEnd.{PollEnd}
use Rattle.bac_poll_steps.specs.declared.turn.PollEnd.TheVariants.{Fault}
use Rattle.bac_device_poll.specs.Laws.{ComesAt, StepsAreCounted, brings, has_records}
use Rattle.bac_device_poll.specs.Logs.{halved, has_ended, is_too_many, left_behind, log_after, log_at}
use Rattle.bac_device_poll.specs.Logs.{polled_behind, stage_behind, with_log}
use Rattle.bac_device_poll.specs.Loss.{loss_at}
use Rattle.bac_device_poll.specs.Poll.{Answers, answered, asked_of_device, verdict_to}
use Rattle.bac_device_poll.specs.Refusals.{is_busy}
use Rattle.bac_device_poll.specs.Rejects.{after_reject}
use Rattle.bac_answers.specs.declared.reject.NoRoute.{NoRoute}
use Rattle.bac_device_poll.specs.State.{DeviceState}
use Rattle.bac_device_poll.specs.Turns.{Turned, leaves}
use Rattle.bac_device_poll.specs.declared.stage.Stage.{Stage}
use Rattle.bac_device_poll.specs.declared.stage.Stage.TheVariants as stage
use Rattle.bac_device_poll.specs.declared.task.Polled.{Polled}
use Rattle.bac_device_poll.specs.declared.turn.DeviceEnd.TheVariants.{Silent}
use Rattle.bac_device_poll.proofs.LeftOutRuns.{matched}

-- one for each that passes a test
abbrev tally : Bool → ℕ
tally b = cond b 1 0

-- the log that is polled then may have so many fewer
record Left (n : ℕ) (t : Turned) : Type 0 where
  q : Polled
  polled : t.device.polled ≡ Some q
  m : ℕ
  left : q.left ≡ Some m
  some : 0 < m
  counts : tally (brings t) + m ≡ n

-- if it is polled still
abbrev Counted : ℕ → Turned → Type 0
Counted n t = t.device.stage ≡ stage.Log → Left n t

-- ---- a turn

by_one : (n : ℕ) (b : Bool) → (n - 1 == 0) ≡ b → stage_behind b ≡ stage.Log → 0 < n - 1
by_one n true is at = absurd (cc)
by_one n false is at = let no = eqb-false (n - 1) 0 is in omega (arith, no)

turn_counts : (p : DeviceState) (q : Polled) (t : LogTurned) (n : ℕ) → q.left ≡ Some n → 0 < n → Counted n (with_log p q t)
turn_counts p q t n left some = by t.records t.end refl refl
  where
    by : (records : List Numbered) (end : Option PollEnd) → t.records ≡ records → t.end ≡ end → Counted n (with_log p q t)
    by records (Some why) is ends at =
        let no : stage.Between ≡ stage.Log = ap (λ (e : Option PollEnd). stage_behind (has_ended e (left_behind q.left t.records))) (sym ends) ∙ at in
        absurd (cc)
    by [] None is ends at =
        let none : tally (has_records t.records) ≡ 0 = ap (λ (r : List Numbered). tally (has_records r)) is in
        record {
          q = polled_behind q t;
          polled = refl;
          m = n;
          left = ap (λ (o : Option ℕ). left_behind o t.records) left ∙ ap (λ (r : List Numbered). left_behind (Some n) r) is;
          some = some;
          counts = omega (arith, none);
        }
    by (first ∷ others) None is ends at =
        let one : tally (has_records t.records) ≡ 1 = ap (λ (r : List Numbered). tally (has_records r)) is in
        let same : left_behind q.left t.records ≡ Some (n - 1) = ap (λ (o : Option ℕ). left_behind o t.records) left ∙ ap (λ (r : List Numbered). left_behind (Some n) r) is in
        let goes : stage_behind (n - 1 == 0) ≡ stage.Log =
        ap (λ (o : Option ℕ). stage_behind (has_ended None o)) (sym same) ∙ ap (λ (e : Option PollEnd). stage_behind (has_ended e (left_behind q.left t.records))) (sym ends) ∙ at in
        let more = by_one n (n - 1 == 0) refl goes in
        record {
          q = polled_behind q t;
          polled = refl;
          m = n - 1;
          left = same;
          some = more;
          counts = omega (arith, one, some);
        }

-- ---- what comes

log_counts : (many : Bool) (p : DeviceState) (q : Polled) (t : LogTurned) (n : ℕ) → q.left ≡ Some n → 0 < n →
    Counted n (if many then halved p q else with_log p q t)
log_counts true p q t n left some at = record { q = _; polled = refl; m = n; left = left; some = some; counts = omega arith }
log_counts false p q t n left some at = turn_counts p q t n left some at

lost_counts : (doubt : Bool) (p : DeviceState) (q : Polled) (t : LogTurned) (n : ℕ) → q.left ≡ Some n → 0 < n →
    Counted n (if doubt then record (leaves (record p { polled = Some q }) [] Silent) { log = Some t } else with_log (record p { doubt = true }) q t)
lost_counts true p q t n left some at = absurd (cc)
lost_counts false p q t n left some at = turn_counts (record p { doubt = true }) q t n left some at

reject_counts : (p : DeviceState) (reject : NoRoute) (n : ℕ) → Counted n (after_reject p reject)
reject_counts p reject n at = absurd (cc)

came_counts : (p : DeviceState) (q : Polled) (n : ℕ) (t : Turned) → p.stage ≡ stage.Log → p.polled ≡ Some q → q.left ≡ Some n → 0 < n →
    ComesAt stage.Log p t → Counted n t
came_counts p q n t at is left some (inl (inl came)) =
    let v : Verdict = verdict_to (asked_of_device p) (apdu_in came.0) in
    matched (is_busy v && nat_lt p.busy p.retries) came.2
    (λ same. subst (Counted n) (sym same) (λ still. record { q = q; polled = is; m = n; left = left; some = some; counts = omega arith }))
    (λ same.
    let log : t ≡ log_at (answered p) p.polled v came.0 = subst (λ (s : Stage). Answers (answered p) s v came.0 came.1 t) at same in
    subst (Counted n) (sym (log ∙ ap (λ (o : Option Polled). log_at (answered p) o v came.0) is))
    (log_counts (is_too_many q.poll v) (answered p) q (log_after q.poll v came.0) n left some))
came_counts p q n t at is left some (inl (inr lost)) =
    subst (Counted n) (sym (lost ∙ ap (loss_at p) is)) (lost_counts p.doubt p q (ends q.poll (Fault walk.Lost)) n left some)
came_counts p q n t at is left some (inr rejected) =
    subst (Counted n) (sym rejected.1) (reject_counts p rejected.0 n)

-- ---- a run

pub steps_are_counted : StepsAreCounted
steps_are_counted p q n [] at is left some run still = some
steps_are_counted p q n (t ∷ turns) at is left some run still =
    let comes : ComesAt stage.Log p t = subst (λ (s : Stage). ComesAt s p t) at run.0 in
    let l : Left n t = came_counts p q n t at is left some comes still.0 in
    let rest = steps_are_counted t.device l.q l.m turns still.0 l.polled l.left l.some run.1 still.1 in
    omega (arith, rest, l.counts, sum_by-cons (λ (x : Turned). tally (brings x)) t turns)
