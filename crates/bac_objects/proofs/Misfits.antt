-- The line that is to mend.
use Rattle.std.proofs.Common.{◌≡◌, ap, ◌∙◌, refl, inl, inr, Bool, true, false, ◌||◌, not, nat_lt, if◌then◌else◌, List, [], ◌∷◌, ℕ, Option, Some}
use Rattle.std.specs.List.{find}
use Rattle.std.specs.Option.{IsSome, option_map, option_or}
use Rattle.std.specs.Str.{bytes_eq}
use Rattle.bac_objects.specs.Build.{build_fault, device_fault, first_of, has_id, has_name, id_of, instance_of, is_name, name_of, object_fault, objects_fault, own_tests}
use Rattle.bac_objects.specs.Misfit.{IsMisfit, IsFaulty, device_line, earlier_named, namesake_of, object_line}
use Rattle.bac_objects.specs.declared.build.BuildFault.{BuildFault}
use Rattle.bac_objects.specs.declared.build.BuildFault.TheVariants.{BadInstance, DuplicateId, BadName, DuplicateName, BadReplySize}
use Rattle.bac_objects.specs.declared.build.Misfit.{Misfit}
use Rattle.bac_objects.specs.declared.lines.DeviceLine.{DeviceLine}
use Rattle.bac_objects.specs.declared.lines.LineId.{LineId}
use Rattle.bac_objects.specs.declared.lines.ObjectLine.{ObjectLine}
use Rattle.bac_objects.proofs.Builds.{faulty_told, left_none, right_none, no_own, none_of_three}

-- ---- its fault is the first

pub first_told : (device : DeviceLine) (lines : List ObjectLine) (m : Misfit) → IsMisfit device lines m → build_fault device lines ≡ Some m.fault
first_told device lines m (inl d) = ap (λ (o : Option BuildFault). option_or o (objects_fault device [] lines)) d.fault
first_told device lines m (inr o) =
    let faulty : IsFaulty device lines o.before o.faulty m.fault = record {
      after = o.after;
      split = o.split;
      first = right_none (device_fault device) (objects_fault device [] o.before) o.first;
      refused = o.fault;
    } in
    ap (λ (f : Option BuildFault). option_or f (objects_fault device [] lines)) (left_none (device_fault device) (objects_fault device [] o.before) o.first)
    ∙ faulty_told device lines o.before o.faulty m.fault faulty

-- ---- a duplicate name is that of a line before

abbrev Never : Option BuildFault → Type 0
Never said = said ≡ Some DuplicateName → ⊥

fourth : (a b c d : Bool) (rest : List (Bool × BuildFault)) → Never (first_of rest) → first_of ((a, BadInstance) ∷ (b, DuplicateId) ∷ (c, BadName) ∷ (d, DuplicateName) ∷ rest) ≡ Some DuplicateName → d ≡ true
fourth true b c d rest never h = absurd cc
fourth false true c d rest never h = absurd cc
fourth false false true d rest never h = absurd cc
fourth false false false true rest never h = refl
fourth false false false false rest never h = absurd (never h)

found_here : (b : Bool) (x : ObjectLine) (more : Option ObjectLine) (any : Bool) → (any ≡ true → IsSome (option_map object_line more)) → (b || any) ≡ true → IsSome (option_map object_line (if b then Some x else more))
found_here true x more any rest h = refl
found_here false x more any rest h = rest h

found : (name : List ℕ) (before : List ObjectLine) → has_name name before ≡ true → IsSome (option_map object_line (find (λ line. bytes_eq name (name_of line)) before))
found name [] h = absurd cc
found name (x ∷ before) h = found_here (bytes_eq name (name_of x)) x (find (λ line. bytes_eq name (name_of line)) before) (has_name name before) (found name before) h

earlier : (b any : Bool) (id : LineId) (o : Option LineId) → (any ≡ true → IsSome o) → (b || any) ≡ true → IsSome (if b then Some id else o)
earlier true any id o rest h = refl
earlier false any id o rest h = rest h

named : (device : DeviceLine) (before : List ObjectLine) (line : ObjectLine) → object_fault device before line ≡ Some DuplicateName → IsSome (earlier_named device before (name_of line))
named device before line h =
    let same = fourth (nat_lt 4194302 (instance_of line)) (has_id (id_of line) before) (not (is_name (name_of line))) (bytes_eq (name_of line) device.name || has_name (name_of line) before) (own_tests line) (no_own DuplicateName line refl) h in
    earlier (bytes_eq (name_of line) device.name) (has_name (name_of line) before) (device_line device) _ (found (name_of line) before) same

pub namesake_there : (device : DeviceLine) (lines : List ObjectLine) (m : Misfit) → IsMisfit device lines m → m.fault ≡ DuplicateName → IsSome m.namesake
namesake_there device lines m (inl d) is = absurd (none_of_three DuplicateName BadInstance BadName BadReplySize _ _ _ (λ e. cc) (λ e. cc) (λ e. cc) (d.fault ∙ ap Some is))
namesake_there device lines m (inr o) is =
    let said : m.namesake ≡ earlier_named device o.before (name_of o.faulty) = o.namesake ∙ ap (λ (f : BuildFault). namesake_of f device o.before o.faulty) is in
    rw said (named device o.before o.faulty (o.fault ∙ ap Some is))
