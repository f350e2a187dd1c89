-- What words name: devices, and trend logs of them.
use Rattle.std.specs.Prelude.{ℕ, ◌==◌, ◌&&◌, Bool, true, false, List}
use Rattle.std.specs.List.{list_any}
use Rattle.std.specs.Str.{bytes_eq}
use Rattle.std.specs.String.{string_bytes}
use Rattle.bac_archive.specs.Items.{text_at}
use Rattle.bac_device_poller.specs.Rows.{DeviceAs}
use Rattle.bac_plan.specs.declared.named.Choice.{Choice}
use Rattle.bac_plan.specs.declared.named.Choice.TheVariants.{Logs, Whole}
use Rattle.bac_plan.specs.declared.named.Named.{Named}

-- the device of a row is at the place that is named
abbrev pub is_at : Named → DeviceAs → Bool
is_at n d =
    bytes_eq (text_at d.address) (string_bytes n.address)
    && (d.dnet == n.dnet) && bytes_eq (text_at d.dadr) (string_bytes n.dadr)

-- one of these numbers is this one
abbrev pub list_has : List ℕ → ℕ → Bool
list_has numbers number = list_any (λ one. one == number) numbers

-- all trend logs of the device are named
abbrev pub all_of : Choice → Bool
all_of Whole = true
all_of (Logs instances) = false

-- the one with this instance is named for itself
abbrev pub one_of : (instance : ℕ) → Choice → Bool
one_of instance Whole = false
one_of instance (Logs instances) = list_has instances.items instance

-- all trend logs of a device that is named
abbrev pub is_whole : Named → Bool
is_whole n = all_of n.choice

-- one of them for itself
abbrev pub has_instance : (instance : ℕ) → Named → Bool
has_instance instance n = one_of instance n.choice
