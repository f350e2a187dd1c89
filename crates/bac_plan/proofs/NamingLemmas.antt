-- The rows that are put, one kind after the other.
use Rattle.std.proofs.Common.{◌≡◌, List, [], ◌∷◌, ◌++◌, map, refl, ap, ◌∙◌}
use Rattle.std.specs.List.{flat_map}
use Rattle.bac_archive.specs.declared.row.DeviceRow.{DeviceRow}
use Rattle.bac_archive.specs.declared.row.LogRow.{LogRow}
use Rattle.bac_archive.specs.declared.standing.Standing.{Standing}
use Rattle.bac_device_poller.specs.Puts.{PutAs}
use Rattle.bac_device_poller.specs.Rows.{device_as}
use Rattle.bac_plan.specs.Changes.{device_change, log_change}
use Rattle.bac_plan.specs.Naming.{new_device_put, new_log_put, rows_of}
use Rattle.bac_plan.specs.declared.fresh_log.FreshLog.{FreshLog}
use Rattle.bac_plan.specs.declared.named.Named.{Named}

map_seen : (rows : List DeviceRow) → map (λ d. new_device_put (device_as d)) rows ≡ map new_device_put (map device_as rows)
map_seen [] = refl
map_seen (d ∷ ds) = ap (λ (l : List PutAs). new_device_put (device_as d) ∷ l) (map_seen ds)

abbrev changed_devices : List Named → List DeviceRow → List PutAs
changed_devices named ds = flat_map (λ d. device_change named (device_as d)) ds

pub all_rows : (s : Standing) (named : List Named) (ds es : List DeviceRow) (ls : List LogRow) (rows : List DeviceRow) (fresh : List FreshLog) (p q r t u : List PutAs)
    → ds ≡ s.devices.items → es ≡ s.devices.items → ls ≡ s.logs.items → p ≡ []
    → q ≡ p ++ changed_devices named ds → r ≡ q ++ map (λ d. new_device_put (device_as d)) rows → t ≡ r ++ flat_map (log_change named es) ls
    → u ≡ t ++ map new_log_put fresh → u ≡ rows_of s named (map device_as rows) fresh
all_rows s named ds es ls rows fresh p q r t u same alike logs none one two three four =
    let first : q ≡ changed_devices named s.devices.items = one ∙ ap (λ (l : List PutAs). l ++ changed_devices named ds) none ∙ ap (changed_devices named) same in
    let second : r ≡ changed_devices named s.devices.items ++ map new_device_put (map device_as rows) =
    two ∙ ap (λ (l : List PutAs). l ++ map (λ d. new_device_put (device_as d)) rows) first
    ∙ ap (λ (l : List PutAs). changed_devices named s.devices.items ++ l) (map_seen rows) in
    let third : t ≡ changed_devices named s.devices.items ++ map new_device_put (map device_as rows) ++ flat_map (log_change named s.devices.items) s.logs.items =
    three ∙ ap (λ (l : List PutAs). l ++ flat_map (log_change named es) ls) second
    ∙ ap (λ (l : List PutAs). changed_devices named s.devices.items ++ map new_device_put (map device_as rows) ++ l)
    (ap (λ (xs : List DeviceRow). flat_map (log_change named xs) ls) alike ∙ ap (flat_map (log_change named s.devices.items)) logs) in
    four ∙ ap (λ (l : List PutAs). l ++ map new_log_put fresh) third
