-- What is true of every device between two calls.
use Rattle.std.specs.Prelude.{ℕ, ◌≡◌, ◌<◌, ◌≤◌, Some}
use Rattle.std.specs.Map.{lookup}
use Rattle.bac_wire.specs.Primitive.{Id}
use Rattle.bac_wire.specs.Stamp.{CivilTime, IsCivilTime, ticks_of}
use Rattle.bac_log.specs.TrendLog.{Log, IsLog}
use Rattle.bac_objects.specs.Sampling.{log_id, log_of}
use Rattle.bac_objects.specs.State.{State, is_id}
use Rattle.bac_objects.specs.declared.object.Body.TheVariants as body
use Rattle.bac_objects.specs.declared.object.Logger.{Logger}
use Rattle.bac_objects.specs.declared.object.Object as object

-- an object of the type Trend Log has records
abbrev pub HasLogs : State → Type 0
HasLogs d = (instance : ℕ) (o : object.Object) →
    lookup (is_id (log_id instance)) d.objects ≡ Some o → (l : Logger) × (o.body ≡ body.Log l)

-- a clock that began at a civil time, and never went back since
pub record IsClocked (origin clock : CivilTime) : Type 0 where
  pub begun : IsCivilTime origin
  pub shown : IsCivilTime clock
  pub since : ticks_of origin ≤ ticks_of clock

-- Its instance isn't the one that stands for all devices, its replies fit into a datagram, its clock goes on, each
-- Trend Log and no other object has records, and those of each are what a log can hold.
pub record IsSound (d : State) : Type 0 where
  pub instance : d.instance ≤ 4194302
  pub least_reply : 50 ≤ d.reply_size
  pub greatest_reply : d.reply_size ≤ 1476
  pub clocked : IsClocked d.origin d.clock
  pub has : HasLogs d
  pub only : (id : Id) (o : object.Object) (l : Logger) →
      lookup (is_id id) d.objects ≡ Some o → o.body ≡ body.Log l → (id.kind ≡ 20) × (id.instance < 4194304)
  pub logs : (n : ℕ) (log : Log) → log_of d n ≡ Some log → IsLog log
