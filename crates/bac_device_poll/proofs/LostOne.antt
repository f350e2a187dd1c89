-- A question that isn't answered ends what was asked, and nothing else.
use Rattle.std.proofs.Common.{◌≡◌, ◌≢◌, ◌∙◌, ◌⊎◌, ◌&&◌, not, Bool, true, false, if◌then◌else◌, [], None, ap, sym, refl}
use Rattle.std.proofs.Common.{subst, inl, inr}
use Rattle.bac_walk.specs.declared.outcome.WalkFault.TheVariants as walk
use Rattle.bac_device_poll.specs.Laws.{LossesEndOne, LostAt}
use Rattle.bac_device_poll.specs.Loss.{after_loss, is_count, is_last, loss_at, passed_over, unread}
use Rattle.bac_device_poll.specs.State.{DeviceState}
use Rattle.bac_device_poll.specs.Turns.{Turned, leaves}
use Rattle.bac_device_poll.specs.declared.stage.Stage.{Stage}
use Rattle.bac_device_poll.specs.declared.stage.Stage.TheVariants as stage
use Rattle.bac_device_poll.specs.declared.turn.DeviceEnd.TheVariants.{Silent}
use Rattle.bac_device_poll.proofs.LeftOut.{clocks_stay}
use Rattle.bac_device_poll.proofs.RefusedOne.{clock_unknown, description_unknown, list_unknown, unknown_as}

-- by what was asked
lost_at : (p : DeviceState) (s : Stage) → LostAt s p (passed_over s p)
lost_at p stage.Instance = refl
lost_at p stage.IAm = tt
lost_at p stage.Name = refl
lost_at p stage.Restart = record { device = refl; naming = tt; logs = refl; told = refl; records = refl }
lost_at p stage.Revision =
    unknown_as stage.Revision p [] _ (clocks_stay (record p { told = record p.told { revision = None } })) refl refl tt
lost_at p stage.Date = clock_unknown stage.Date p None refl tt
lost_at p (stage.Time date) = clock_unknown (stage.Time date) p None refl tt
lost_at p stage.Objects = record { device = refl; naming = tt; logs = refl; told = refl; records = refl }
lost_at p stage.Count = list_unknown stage.Count p walk.Lost refl tt
lost_at p (stage.Element index count) = list_unknown (stage.Element index count) p walk.Lost refl tt
lost_at p (stage.LogName log) = record { device = refl; naming = refl; logs = refl; told = refl; records = refl }
lost_at p (stage.Source log) = description_unknown (unread p) log
lost_at p (stage.Units log) = record { device = refl; naming = refl; logs = refl; told = refl; records = refl }
lost_at p (stage.Description log) = description_unknown (unread p) log
lost_at p stage.Log = tt
lost_at p stage.Between = tt
lost_at p stage.Ended = tt

-- where no log is polled
abbrev turn : Bool → DeviceState → Turned
turn b p = if b then leaves p [] Silent else passed_over p.stage (record p { doubt = true })

loss_is : (p : DeviceState) (b : Bool) → p.polled ≡ None → is_last p ≡ b → after_loss p ≡ turn b p
loss_is p b none is = ap (loss_at p) none ∙ ap (λ (b : Bool). turn b p) is

-- the question before was answered, or was the list that this one is about
and_false : (b : Bool) → (b && false) ≡ false
and_false true = refl
and_false false = refl

not_last : (p : DeviceState) → (p.doubt ≡ false) ⊎ (p.stage ≡ stage.Count) → is_last p ≡ false
not_last p (inl sure) = ap (λ (b : Bool). b && not (is_count p.stage)) sure
not_last p (inr count) = ap (λ (s : Stage). p.doubt && not (is_count s)) count ∙ and_false p.doubt

no_count : (s : Stage) → s ≢ stage.Count → is_count s ≡ false
no_count stage.Instance other = refl
no_count stage.IAm other = refl
no_count stage.Name other = refl
no_count stage.Restart other = refl
no_count stage.Revision other = refl
no_count stage.Date other = refl
no_count (stage.Time date) other = refl
no_count stage.Objects other = refl
no_count stage.Count other = absurd (other refl)
no_count (stage.Element index count) other = refl
no_count (stage.LogName log) other = refl
no_count (stage.Source log) other = refl
no_count (stage.Units log) other = refl
no_count (stage.Description log) other = refl
no_count stage.Log other = refl
no_count stage.Between other = refl
no_count stage.Ended other = refl

last : (p : DeviceState) → p.doubt ≡ true → p.stage ≢ stage.Count → is_last p ≡ true
last p doubt other = ap (λ (b : Bool). b && not (is_count p.stage)) doubt ∙ ap not (no_count p.stage other)

pub losses_end_one : LossesEndOne
losses_end_one p none = (
  λ sure. subst (LostAt p.stage (record p { doubt = true })) (sym (loss_is p false none (not_last p sure))) (lost_at (record p { doubt = true }) p.stage),
  λ doubt other. loss_is p true none (last p doubt other),
)
