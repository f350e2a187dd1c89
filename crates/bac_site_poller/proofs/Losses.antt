-- What no answer brings.
use Rattle.std.proofs.Common.{◌≡◌, Bool, true, false, if◌then◌else◌, List, [], ◌∷◌, Option, Some, None, refl, subst, sym}
use Rattle.bac_poll.specs.Turns.{Turned as LogTurned, ends}
use Rattle.bac_poll_steps.specs.declared.turn.PollEnd.TheVariants.{Fault}
use Rattle.bac_walk.specs.declared.outcome.WalkFault.TheVariants.{Lost}
use Rattle.bac_device_poll.specs.Identity.{after_i_am}
use Rattle.bac_device_poll.specs.Logs.{after_end, begins_with, with_log}
use Rattle.bac_device_poll.specs.Loss.{after_loss, loss_at}
use Rattle.bac_device_poll.specs.State.{DeviceState, LogAs}
use Rattle.bac_device_poll.specs.Turns.{Turned, leaves}
use Rattle.bac_device_poll.specs.declared.task.Polled.{Polled}
use Rattle.bac_device_poll.specs.declared.turn.DeviceEnd.TheVariants.{Silent}
use Rattle.bac_device_poller.specs.Poller.{PollerAs, seeks}
use Rattle.bac_device_poller.proofs.Passing.{brings_no_log}
use Rattle.bac_site_poller.specs.SiteLaws.{BringsNone, LossesBringNone}

loss_none : (p : DeviceState) (o : Option Polled) → BringsNone (loss_at p o).log
loss_none p None = subst (λ (o : Option LogTurned). BringsNone o) (sym (brings_no_log p)) tt
loss_none p (Some q) = by p.doubt
  where
    by : (b : Bool) → BringsNone (if b
        then record (leaves (record p { polled = Some q }) [] Silent) { log = Some (ends q.poll (Fault Lost)) }
        else with_log (record p { doubt = true }) q (ends q.poll (Fault Lost))).log
    by true = (refl, refl, refl, refl, refl)
    by false = (refl, refl, refl, refl, refl)

end_none : (p : DeviceState) (logs : List LogAs) → BringsNone (begins_with p logs []).log
end_none p [] = tt
end_none p (task ∷ logs) = tt

pub losses_bring_none : LossesBringNone
losses_bring_none p = (by (seeks p), end_none p.poll p.poll.logs)
  where
    by : (k : Bool) → BringsNone (if k then after_i_am p.poll None else after_loss p.poll).log
    by true = tt
    by false = loss_none p.poll p.poll.polled
