-- The ids of new rows.
use Rattle.std.proofs.Common.{arith, ◌≡◌, ℕ, ◌+◌, ◌≤◌, ◌++◌, ◌||◌, nat_lt, Bool, true, false, if◌then◌else◌, List, [], ◌∷◌, map, length, Option, None, Some, Result, Ok, Err, refl, sym, subst}
use Rattle.std.proofs.lemmas.Bool.{ltb-false}
use Rattle.std.proofs.lemmas.List.{length-append, length-map, map-append}
use Rattle.bac_archive.specs.declared.row.DeviceRow.{DeviceRow}
use Rattle.bac_archive.specs.declared.row.LogRow.{LogRow}
use Rattle.bac_device_poller.specs.Rows.{DeviceAs}
use Rattle.bac_plan.specs.Fresh.{FreshDevicesAs, FreshLogsAs, ◌>>=◌, device_added, fresh_device, has_log, has_place, id_at, id_of, is_fresh_at, is_fresh_log, log_added, with_choice, with_device, with_devices, with_instances, with_log, with_logs}
use Rattle.bac_plan.specs.NamingLaws.{DeviceIdsAreNext, LogIdsAreNext, RiseFrom}
use Rattle.bac_plan.specs.declared.fault.NamingFault.{NamingFault}
use Rattle.bac_plan.specs.declared.fresh_log.FreshLog.{FreshLog}
use Rattle.bac_plan.specs.declared.named.Choice.{Choice}
use Rattle.bac_plan.specs.declared.named.Choice.TheVariants.{Logs, Whole}
use Rattle.bac_plan.specs.declared.named.Named.{Named}

-- one more id
rise_more : (next : ℕ) (ids : List ℕ) (id : ℕ) → RiseFrom next ids → id ≡ next + length ids → id ≤ 65535 → RiseFrom next (ids ++ id ∷ [])
rise_more next [] id all is few = (omega (arith, is), few, tt)
rise_more next (one ∷ others) id all is few = (all.0, all.1, rise_more (next + 1) others id all.2 (omega (arith, is)) few)

some_same : (a b : ℕ) → Some a ≡ Some b → a ≡ b
some_same a b is = cc

-- the id that is free is the next one
free_is : (next id : ℕ) → id_at next ≡ Some id → (id ≡ next) × (id ≤ 65535)
free_is next id is = by (nat_lt 65535 next) refl is
  where
    by : (b : Bool) → nat_lt 65535 next ≡ b → (if b then None else Some next) ≡ Some id → (id ≡ next) × (id ≤ 65535)
    by true more h = cc
    by false few h =
        let same : next ≡ id = some_same next id h in
        let low : next ≤ 65535 = ltb-false 65535 next few in
        (sym same, omega (arith, same, low))

-- ---- devices

record Good (start : ℕ) (f : FreshDevicesAs) : Type 0 where
  next : f.next ≡ start + length f.devices
  rise : RiseFrom start (map (λ d. d.id) f.devices)

abbrev made : FreshDevicesAs → Result FreshDevicesAs NamingFault
made f = Ok f

ok_same : (f g : FreshDevicesAs) → made f ≡ made g → f ≡ g
ok_same f g is = cc

good_added : (start : ℕ) (named : List Named) (f g : FreshDevicesAs) (n : Named) (o : Option ℕ) → id_at f.next ≡ o → Good start f → device_added named f n o ≡ Ok g → Good start g
good_added start named f g n None at good is = cc
good_added start named f g n (Some id) at good is = subst (Good start) (ok_same _ g is) more
  where
    more : Good start (record { devices = f.devices ++ fresh_device named id n ∷ []; next = f.next + 1 })
    more =
        let its = free_is f.next id at in
        let long : length (f.devices ++ fresh_device named id n ∷ []) ≡ length f.devices + 1 = length-append f.devices (fresh_device named id n ∷ []) in
        let ids : length (map (λ (d : DeviceAs). d.id) f.devices) ≡ length f.devices = length-map f.devices (λ (d : DeviceAs). d.id) in
        record {
          next = omega (arith, good.next, long);
          rise = subst (RiseFrom start) (sym (map-append (λ (d : DeviceAs). d.id) f.devices (fresh_device named id n ∷ [])))
              (rise_more start (map (λ (d : DeviceAs). d.id) f.devices) id good.rise (omega (arith, its.0, good.next, ids)) its.1);
        }

good_of : (start : ℕ) (named : List Named) (devices : List DeviceRow) (f g : FreshDevicesAs) (n : Named) → Good start f → with_device named devices f n ≡ Ok g → Good start g
good_of start named devices f g n good is = by (has_place n devices || is_fresh_at n f.devices) is
  where
    by : (b : Bool) → (if b then Ok f else device_added named f n (id_at f.next)) ≡ Ok g → Good start g
    by true h = subst (Good start) (ok_same f g h) good
    by false h = good_added start named f g n (id_at f.next) refl good h

all_good : (start : ℕ) (named : List Named) (devices : List DeviceRow) (f g : FreshDevicesAs) (ns : List Named) → Good start f → with_devices named devices f ns ≡ Ok g → Good start g
all_good start named devices f g [] good is = subst (Good start) (ok_same f g is) good
all_good start named devices f g (n ∷ ns) good is = by (with_device named devices f n) refl is (λ h. all_good start named devices h g ns)
  where
    by : (r : Result FreshDevicesAs NamingFault) → with_device named devices f n ≡ r → (r >>= λ h. with_devices named devices h ns) ≡ Ok g
        → ((h : FreshDevicesAs) → Good start h → with_devices named devices h ns ≡ Ok g → Good start g) → Good start g
    by (Err e) was h rest = cc
    by (Ok x) was h rest = rest x (good_of start named devices f x n good was) h

pub device_ids : DeviceIdsAreNext
device_ids named devices next f is = (all_good next named devices (record { devices = []; next = next }) f named (record { next = omega arith; rise = tt }) is).rise

-- ---- trend logs

record GoodLogs (start : ℕ) (f : FreshLogsAs) : Type 0 where
  next : f.next ≡ start + length f.logs
  rise : RiseFrom start (map (λ l. l.id) f.logs)

abbrev made_logs : FreshLogsAs → Result FreshLogsAs NamingFault
made_logs f = Ok f

same_logs : (f g : FreshLogsAs) → made_logs f ≡ made_logs g → f ≡ g
same_logs f g is = cc

log_good : (start device instance : ℕ) (f g : FreshLogsAs) (o : Option ℕ) → id_at f.next ≡ o → GoodLogs start f → log_added f device instance o ≡ Ok g → GoodLogs start g
log_good start device instance f g None at good is = cc
log_good start device instance f g (Some id) at good is = subst (GoodLogs start) (same_logs _ g is) more
  where
    more : GoodLogs start (record { logs = f.logs ++ record { id = id; device = device; instance = instance } ∷ []; next = f.next + 1 })
    more =
        let its = free_is f.next id at in
        let long : length (f.logs ++ record { id = id; device = device; instance = instance } ∷ []) ≡ length f.logs + 1 = length-append f.logs (record { id = id; device = device; instance = instance } ∷ []) in
        let ids : length (map (λ (l : FreshLog). l.id) f.logs) ≡ length f.logs = length-map f.logs (λ (l : FreshLog). l.id) in
        record {
          next = omega (arith, good.next, long);
          rise = subst (RiseFrom start) (sym (map-append (λ (l : FreshLog). l.id) f.logs (record { id = id; device = device; instance = instance } ∷ [])))
              (rise_more start (map (λ (l : FreshLog). l.id) f.logs) id good.rise (omega (arith, its.0, good.next, ids)) its.1);
        }

one_good : (start : ℕ) (logs : List LogRow) (device instance : ℕ) (f g : FreshLogsAs) → GoodLogs start f → with_log logs device f instance ≡ Ok g → GoodLogs start g
one_good start logs device instance f g good is = by (has_log device instance logs || is_fresh_log device instance f.logs) is
  where
    by : (b : Bool) → (if b then Ok f else log_added f device instance (id_at f.next)) ≡ Ok g → GoodLogs start g
    by true h = subst (GoodLogs start) (same_logs f g h) good
    by false h = log_good start device instance f g (id_at f.next) refl good h

instances_good : (start : ℕ) (logs : List LogRow) (device : ℕ) (f g : FreshLogsAs) (instances : List ℕ) → GoodLogs start f → with_instances logs device f instances ≡ Ok g → GoodLogs start g
instances_good start logs device f g [] good is = subst (GoodLogs start) (same_logs f g is) good
instances_good start logs device f g (one ∷ others) good is = by (with_log logs device f one) refl is (λ h. instances_good start logs device h g others)
  where
    by : (r : Result FreshLogsAs NamingFault) → with_log logs device f one ≡ r → (r >>= λ h. with_instances logs device h others) ≡ Ok g
        → ((h : FreshLogsAs) → GoodLogs start h → with_instances logs device h others ≡ Ok g → GoodLogs start g) → GoodLogs start g
    by (Err e) was h rest = cc
    by (Ok x) was h rest = rest x (one_good start logs device one f x good was) h

choice_good : (start : ℕ) (logs : List LogRow) (o : Option ℕ) (f g : FreshLogsAs) (choice : Choice) → GoodLogs start f → with_choice logs o f choice ≡ Ok g → GoodLogs start g
choice_good start logs o f g Whole good is = subst (GoodLogs start) (same_logs f g is) good
choice_good start logs None f g (Logs instances) good is = subst (GoodLogs start) (same_logs f g is) good
choice_good start logs (Some device) f g (Logs instances) good is = instances_good start logs device f g instances.items good is

logs_good : (start : ℕ) (devices : List DeviceRow) (fresh : List DeviceAs) (logs : List LogRow) (f g : FreshLogsAs) (ns : List Named) → GoodLogs start f → with_logs devices fresh logs f ns ≡ Ok g → GoodLogs start g
logs_good start devices fresh logs f g [] good is = subst (GoodLogs start) (same_logs f g is) good
logs_good start devices fresh logs f g (n ∷ ns) good is = by (with_choice logs (id_of n devices fresh) f n.choice) refl is (λ h. logs_good start devices fresh logs h g ns)
  where
    by : (r : Result FreshLogsAs NamingFault) → with_choice logs (id_of n devices fresh) f n.choice ≡ r → (r >>= λ h. with_logs devices fresh logs h ns) ≡ Ok g
        → ((h : FreshLogsAs) → GoodLogs start h → with_logs devices fresh logs h ns ≡ Ok g → GoodLogs start g) → GoodLogs start g
    by (Err e) was h rest = cc
    by (Ok x) was h rest = rest x (choice_good start logs (id_of n devices fresh) f x n.choice good was) h

pub log_ids : LogIdsAreNext
log_ids named devices fresh logs next g is = (logs_good next devices fresh logs (record { logs = []; next = next }) g named (record { next = omega arith; rise = tt }) is).rise
