-- New rows of what words name.
use Rattle.std.proofs.Common.{◌≡◌, ℕ, ◌+◌, ◌++◌, ◌||◌, Bool, true, false, List, [], ◌∷◌, map, Option, None, Some, Ok, Err, refl, sym, ap, ◌∙◌}
use Rattle.std.specs.Option.{option_map}
use Rattle.std.proofs.lemmas.Bool.{cond-false, cond-true}
use Rattle.std.proofs.lemmas.List.{map-append}
use Rattle.bac_archive.specs.declared.row.DeviceRow.{DeviceRow}
use Rattle.bac_device_poller.specs.Rows.{DeviceAs, device_as}
use Rattle.bac_plan.specs.Fresh.{FreshDevicesAs, device_added, fresh_device, fresh_id_in, has_place, id_at, id_in, is_fresh_at, with_device}
use Rattle.bac_plan.specs.Named.{is_at}
use Rattle.bac_plan.specs.declared.fault.NamingFault.TheVariants.{DevicesFull}
use Rattle.bac_plan.specs.declared.named.Named.{Named}

-- the rows of devices and what they are seen as have the same places
fresh_at : (n : Named) (rows : List DeviceRow) → is_fresh_at n (map device_as rows) ≡ has_place n rows
fresh_at n [] = refl
fresh_at n (d ∷ ds) = ap (λ (b : Bool). is_at n (device_as d) || b) (fresh_at n ds)

abbrev id_by : Option DeviceAs → Option ℕ
id_by o = option_map (λ d. d.id) o

abbrev id_by_row : Option DeviceRow → Option ℕ
id_by_row o = option_map (λ d. d.id) o

-- and the same ids there
pub fresh_id : (n : Named) (rows : List DeviceRow) → fresh_id_in n (map device_as rows) ≡ id_in n rows
fresh_id n [] = refl
fresh_id n (d ∷ ds) = by (is_at n (device_as d)) refl (fresh_id n ds)
  where
    by : (b : Bool) → is_at n (device_as d) ≡ b → fresh_id_in n (map device_as ds) ≡ id_in n ds → fresh_id_in n (map device_as (d ∷ ds)) ≡ id_in n (d ∷ ds)
    by true is rest =
        ap (λ (o : Option DeviceAs). id_by o) (cond-true (is_at n (device_as d)) _ _ is) ∙ sym (ap (λ (o : Option DeviceRow). id_by_row o) (cond-true (is_at n (device_as d)) _ _ is))
    by false is rest =
        ap (λ (o : Option DeviceAs). id_by o) (cond-false (is_at n (device_as d)) _ _ is) ∙ rest ∙ sym (ap (λ (o : Option DeviceRow). id_by_row o) (cond-false (is_at n (device_as d)) _ _ is))

-- as new devices are seen
abbrev pub seen : List DeviceRow → (next : ℕ) → FreshDevicesAs
seen rows next = record { devices = map device_as rows; next = next }

there_by : (named : List Named) (devices : List DeviceRow) (f : FreshDevicesAs) (n : Named) → (has_place n devices || is_fresh_at n f.devices) ≡ true → with_device named devices f n ≡ Ok f
there_by named devices f n is = cond-true (has_place n devices || is_fresh_at n f.devices) (Ok f) (device_added named f n (id_at f.next)) is

-- none is new where one is on record
pub known_there : (named : List Named) (devices : List DeviceRow) (f : FreshDevicesAs) (n : Named) → has_place n devices ≡ true → with_device named devices f n ≡ Ok f
known_there named devices f n is = there_by named devices f n (ap (λ (b : Bool). b || is_fresh_at n f.devices) is)

or_true : (b : Bool) → (b || true) ≡ true
or_true true = refl
or_true false = refl

-- or new already
pub fresh_there : (named : List Named) (devices : List DeviceRow) (f : FreshDevicesAs) (n : Named) (rows : List DeviceRow) (next : ℕ) → seen rows next ≡ f → has_place n rows ≡ true
    → with_device named devices f n ≡ Ok f
fresh_there named devices f n rows next view is =
    there_by named devices f n
    (ap (λ (b : Bool). has_place n devices || b) (sym (ap (λ (g : FreshDevicesAs). is_fresh_at n g.devices) view) ∙ fresh_at n rows ∙ is) ∙ or_true (has_place n devices))

none_there : (named : List Named) (devices : List DeviceRow) (n : Named) (rows : List DeviceRow) (next : ℕ) → has_place n devices ≡ false → has_place n rows ≡ false
    → with_device named devices (seen rows next) n ≡ device_added named (seen rows next) n (id_at next)
none_there named devices n rows next known fresh =
    cond-false (has_place n devices || is_fresh_at n (map device_as rows)) (Ok (seen rows next)) (device_added named (seen rows next) n (id_at next))
    (ap (λ (b : Bool). b || is_fresh_at n (map device_as rows)) known ∙ fresh_at n rows ∙ fresh)

-- else it is, with the next id
pub one_added : (named : List Named) (devices : List DeviceRow) (f : FreshDevicesAs) (n : Named) (rows : List DeviceRow) (next : ℕ) (id : ℕ) (row : DeviceRow) (more : List DeviceRow)
    → seen rows next ≡ f → has_place n devices ≡ false → has_place n rows ≡ false → id_at next ≡ Some id → device_as row ≡ fresh_device named id n → more ≡ rows ++ row ∷ []
    → with_device named devices f n ≡ Ok (seen more (next + 1))
one_added named devices f n rows next id row more view known fresh is made added =
    sym (ap (λ (g : FreshDevicesAs). with_device named devices g n) view)
    ∙ none_there named devices n rows next known fresh
    ∙ ap (device_added named (seen rows next) n) is
    ∙ ap (λ (l : List DeviceAs). Ok (record { devices = l; next = next + 1 }))
    (sym (ap (map device_as) added ∙ map-append device_as rows (row ∷ []) ∙ ap (λ (d : DeviceAs). map device_as rows ++ d ∷ []) made))

-- if one is left
pub none_left : (named : List Named) (devices : List DeviceRow) (f : FreshDevicesAs) (n : Named) (rows : List DeviceRow) (next : ℕ)
    → seen rows next ≡ f → has_place n devices ≡ false → has_place n rows ≡ false → id_at next ≡ None → with_device named devices f n ≡ Err DevicesFull
none_left named devices f n rows next view known fresh is =
    sym (ap (λ (g : FreshDevicesAs). with_device named devices g n) view)
    ∙ none_there named devices n rows next known fresh
    ∙ ap (device_added named (seen rows next) n) is
