-- What words name is stopped, and the rest goes on.
use Rattle.std.proofs.Common.{◌≡◌, ◌&&◌, ◌||◌, not, Bool, true, false, if◌then◌else◌, [], ◌∷◌, Option, refl, ap, ◌∙◌}
use Rattle.std.proofs.lemmas.Bool.{cond-false}
use Rattle.bac_archive.specs.declared.row.DeviceRow.{DeviceRow}
use Rattle.bac_device_poller.specs.Rows.{DeviceAs, device_as, device_put}
use Rattle.bac_plan.specs.Changes.{device_of, log_put_again, names_whole}
use Rattle.bac_plan.specs.Named.{has_instance, is_at, is_whole}
use Rattle.bac_plan.specs.Stopping.{stops_of}
use Rattle.bac_plan.specs.StoppingLaws.{NamedAreStopped, OthersGoOn}
use Rattle.bac_plan.specs.declared.named.Named.{Named}
use Rattle.bac_plan.proofs.NamedLemmas.{and_none, any_there, any_weaker, whole_there}

if_stopped : (b : Bool) (d : DeviceAs) → b ≡ (true && not d.stopped) → (if b then record d { stopped = true } else d).stopped ≡ true
if_stopped true d is = refl
if_stopped false d is = by d.stopped is
  where
    by : (c : Bool) → false ≡ (true && not c) → c ≡ true
    by true h = refl
    by false h = h

or_stops : (st : Bool) → (st || (not st && true)) ≡ true
or_stops true = refl
or_stops false = refl

pub named_stopped : NamedAreStopped
named_stopped named devices n d there at = (
  λ whole. if_stopped (names_whole named (device_as d) && not d.stopped) (device_as d) (ap (λ (b : Bool). b && not d.stopped) (whole_there named n (device_as d) there at whole)),
  λ l of has.
      ap (λ (o : Option DeviceRow). l.stopped || stops_of named l o) of
      ∙ ap (λ (b : Bool). l.stopped || (not l.stopped && b))
      (any_there (λ (m : Named). is_at m (device_as d) && (has_instance l.instance m || is_whole m)) named n there
      (ap (λ (b : Bool). b && (has_instance l.instance n || is_whole n)) at ∙ has))
      ∙ or_stops l.stopped,
)

pub others_go_on : OthersGoOn
others_go_on named devices d none = (
  cond-false (names_whole named (device_as d) && not d.stopped) (device_put (record (device_as d) { stopped = true }) ∷ []) []
      (ap (λ (b : Bool). b && not d.stopped)
      (any_weaker (λ (n : Named). is_at n (device_as d)) (λ (n : Named). is_at n (device_as d) && is_whole n) (λ n is. ap (λ (b : Bool). b && is_whole n) is) named none)),
  λ l of.
      cond-false (stops_of named l (device_of l.device devices)) (log_put_again true l ∷ []) []
      (ap (λ (o : Option DeviceRow). stops_of named l o) of
      ∙ ap (λ (b : Bool). not l.stopped && b)
      (any_weaker (λ (n : Named). is_at n (device_as d)) (λ (n : Named). is_at n (device_as d) && (has_instance l.instance n || is_whole n))
      (λ n is. ap (λ (b : Bool). b && (has_instance l.instance n || is_whole n)) is) named none)
      ∙ and_none (not l.stopped)),
)
