-- The device that lines without a fault describe.
use Rattle.std.proofs.Common.{◌≡◌, ◌≤◌, ◌<◌, ◌++◌, arith, rules, refl, ℕ, Bool, true, false, ◌||◌, not, nat_lt, List, [], ◌∷◌, map, slice_get, Some, None}
use Rattle.std.specs.List.{AllByRecursion}
use Rattle.std.specs.Map.{lookup}
use Rattle.std.specs.Str.{bytes_eq}
use Rattle.std.proofs.lemmas.Bool.Decides.{nat_tests}
use Rattle.bac_wire.specs.Stamp.{IsCivilTime}
use Rattle.bac_objects.specs.Build.{IsCounted, body_of, build_fault, built, device_fault, entry_of, first_of, has_id, has_name, id_of, instance_of, is_name, name_of, object_fault, objects_fault, own_tests}
use Rattle.bac_objects.specs.Kept.{AreObjects, IsBody}
use Rattle.bac_objects.specs.Sound.{IsSound}
use Rattle.bac_objects.specs.State.{is_id}
use Rattle.bac_objects.specs.declared.build.BuildFault.{BuildFault}
use Rattle.bac_objects.specs.declared.build.BuildFault.TheVariants.{BadInstance, DuplicateId, BadName, DuplicateName, BadCapacity, BadInterval}
use Rattle.bac_objects.specs.declared.lines.DeviceLine.{DeviceLine}
use Rattle.bac_objects.specs.declared.lines.ObjectLine.{ObjectLine}
use Rattle.bac_objects.specs.declared.lines.ObjectLine.TheVariants.{Binary, Multistate, Integer, Log}
use Rattle.bac_objects.proofs.Builds.{found, left_none, right_none, in_range}
use Rattle.bac_objects.proofs.Kept.{line_sound}

first_and_last : (a b c d : Bool) (rest : List (Bool × BuildFault)) → first_of ((a, BadInstance) ∷ (b, DuplicateId) ∷ (c, BadName) ∷ (d, DuplicateName) ∷ rest) ≡ None → (a ≡ false) × (first_of rest ≡ None)
first_and_last true b c d rest h = search rules
first_and_last false true c d rest h = search rules
first_and_last false false true d rest h = search rules
first_and_last false false false true rest h = search rules
first_and_last false false false false rest h = (refl, h)

capacity_first : (a b : Bool) → first_of ((a, BadCapacity) ∷ (b, BadInterval) ∷ []) ≡ None → a ≡ false
capacity_first true b h = search rules
capacity_first false b h = refl

capacity_in : (n : ℕ) → (nat_lt n 1 || nat_lt 65535 n) ≡ false → (1 ≤ n) × (n ≤ 65535)
capacity_in n h = (grind (arith, nat_tests), grind (arith, nat_tests))

body_is : (line : ObjectLine) → instance_of line < 4194304 → first_of (own_tests line) ≡ None → IsCounted line → IsBody (id_of line) (body_of line)
body_is (Binary instance name default) within none counted = λ e. omega (arith, e)
body_is (Multistate instance name states default) within none counted = λ e. omega (arith, e)
body_is (Integer instance name default) within none counted = λ e. omega (arith, e)
body_is (Log instance name source capacity interval logged) within none counted = (
  refl,
  within,
  record {
    capacity = capacity_in capacity (capacity_first _ _ none);
    within = omega arith;
    numbered = omega (arith, counted);
    loggable = λ i e is. search rules;
  },
)

are_objects : (device : DeviceLine) (before lines : List ObjectLine) → objects_fault device before lines ≡ None → AllByRecursion IsCounted lines → AreObjects (map entry_of lines)
are_objects device before [] none counted = tt
are_objects device before (line ∷ lines) none counted =
    let own : object_fault device before line ≡ None = left_none (object_fault device before line) (objects_fault device (before ++ line ∷ []) lines) none in
    let tests = first_and_last (nat_lt 4194302 (instance_of line)) (has_id (id_of line) before) (not (is_name (name_of line))) (bytes_eq (name_of line) device.name || has_name (name_of line) before) (own_tests line) own in (
      body_is line (in_range (instance_of line) tests.0) tests.1 counted.0,
      are_objects device (before ++ line ∷ []) lines (right_none _ _ none) counted.1,
    )

pub described_sound : (device : DeviceLine) (lines : List ObjectLine) → build_fault device lines ≡ None → IsCivilTime device.clock → AllByRecursion IsCounted lines → IsSound (built device lines)
described_sound device lines none shown counted =
    (line_sound device device.name (map entry_of lines) (left_none (device_fault device) (objects_fault device [] lines) none) shown
    (are_objects device [] lines (right_none (device_fault device) (objects_fault device [] lines) none) counted)).0

pub described_found : (device : DeviceLine) (lines : List ObjectLine) (i : ℕ) (line : ObjectLine) → build_fault device lines ≡ None → slice_get lines i ≡ Some line →
    lookup (is_id (id_of line)) (built device lines).objects ≡ Some (entry_of line).1
described_found device lines i line none at = found device [] lines i line (right_none (device_fault device) (objects_fault device [] lines) none) at
