-- Devices that were built of lines.
use Rattle.std.proofs.Common.{◌≡◌, ◌==◌, refl, ap, sym, subst, ◌∙◌, arith, ℕ, zero, suc, ◌+◌, ◌-◌, ◌<◌, true, false, List, [], ◌∷◌, length, map, slice_get, Option, Some, None, Ok, inl, inr}
use Rattle.std.specs.List.{range_with_len, repeat}
use Rattle.std.specs.Map.{lookup, keys_of}
use Rattle.std.specs.Option.{option_or, unwrap_or}
use Rattle.std.proofs.lemmas.Bool.{eq-eqb}
use Rattle.std.proofs.lemmas.Map.{keys-set_value}
use Rattle.bac_wire.specs.Primitive.{Id, Object, Primitive}
use Rattle.bac_objects.specs.Build.{build_fault, built, device_fault, entry_of, id_of, objects_fault}
use Rattle.bac_objects.specs.Command.{commanded, present}
use Rattle.bac_objects.specs.Properties.{slot_value, value_of}
use Rattle.bac_objects.specs.Reading.{read_of, values_octets}
use Rattle.bac_objects.specs.State.{State, is_id}
use Rattle.bac_objects.specs.declared.command.Command.{Command}
use Rattle.bac_objects.specs.declared.command.Range.{Range}
use Rattle.bac_objects.specs.declared.command.Range.TheVariants as range
use Rattle.bac_objects.specs.declared.command.Setting.{Setting}
use Rattle.bac_objects.specs.declared.command.Setting.TheVariants as setting
use Rattle.bac_objects.specs.declared.lines.DeviceLine.{DeviceLine}
use Rattle.bac_objects.specs.declared.lines.ObjectLine.{ObjectLine}
use Rattle.bac_objects.specs.declared.lines.ObjectLine.TheVariants.{Binary, Multistate, Integer, Log}
use Rattle.bac_objects.specs.declared.object.Body.TheVariants as body
use Rattle.bac_objects.specs.declared.object.Object as object
use Rattle.bac_objects.proofs.Builds.{found, right_none}
use Rattle.bac_device.specs.Answer.{answer}
use Rattle.bac_device.specs.History.{after, default_of, ids_in_order, last_at, slot_after, with_slots, write_asked, writes, IsCommanded}
use Rattle.bac_device.proofs.History.{stands, wrote}
use Rattle.bac_device.proofs.Told.{Told, told}

-- ---- what no datagram changes

record Keeps (d new : State) : Type 0 where
  keys : keys_of new.objects ≡ keys_of d.objects
  instance : new.instance ≡ d.instance

keeps_one : (d : State) (x : List ℕ) → Told d (answer d x) (write_asked x) → Keeps d (answer d x).1
keeps_one d x (inl t) = record { keys = ap (λ (s : State). keys_of s.objects) t.1; instance = ap (λ (s : State). s.instance) t.1 }
keeps_one d x (inr t) =
    let w = wrote d t.0 (answer d x).1 t.3 in
    record {
      keys = ap (λ (s : State). keys_of s.objects) w.is ∙ keys-set_value (is_id t.0.object) d.objects w.n;
      instance = ap (λ (s : State). s.instance) w.is;
    }

keeps_all : (xs : List (List ℕ)) (d : State) → Keeps d (after d xs)
keeps_all [] d = record { keys = refl; instance = refl }
keeps_all (x ∷ xs) d =
    let one = keeps_one d x (told d x) in
    let all = keeps_all xs (answer d x).1 in
    record { keys = all.keys ∙ one.keys; instance = all.instance ∙ one.instance }

keys_of_lines : (lines : List ObjectLine) → map (λ id. Object id) (keys_of (map entry_of lines)) ≡ map (λ line. Object (id_of line)) lines
keys_of_lines [] = refl
keys_of_lines (line ∷ lines) = ap (λ (l : List Primitive). Object (id_of line) ∷ l) (keys_of_lines lines)

list_read : (d : State) (n : ℕ) → d.instance ≡ n → read_of d (record { object = record { kind = 8; instance = n }; property = 76; index = None }) ≡ Ok (values_octets (Object (record { kind = 8; instance = n }) ∷ map (λ id. Object id) (keys_of d.objects)))
list_read d n e = let same : (n == d.instance) ≡ true = eq-eqb n d.instance (sym e) in rw (same, e) refl

pub in_order : (device : DeviceLine) (lines : List ObjectLine) (xs : List (List ℕ))
    → read_of (after (built device lines) xs) (record { object = record { kind = 8; instance = device.instance }; property = 76; index = None }) ≡ Ok (values_octets (ids_in_order device lines))
in_order device lines xs =
    let keeps = keeps_all xs (built device lines) in
    list_read (after (built device lines) xs) device.instance keeps.instance
    ∙ ap (λ (ids : List Primitive). Ok (values_octets (Object (record { kind = 8; instance = device.instance }) ∷ ids))) (ap (λ (ids : List Id). map (λ id. Object id) ids) keeps.keys ∙ keys_of_lines lines)

-- ---- commandable objects

-- a list is what its elements say
module _ {X : Type 0} where
  pub by_places : (xs : List X) (from n : ℕ) (f : ℕ → X) → length xs ≡ n → ((i : ℕ) → i < n → slice_get xs i ≡ Some (f (from + i))) → xs ≡ map f (range_with_len from n)
  by_places [] from zero f size at = refl
  by_places [] from (suc n) f size at = absurd (omega (arith, size))
  by_places (x ∷ xs) from zero f size at = absurd (omega (arith, size))
  by_places (x ∷ xs) from (suc n) f size at =
      let first : x ≡ f from = same x (f from) (at 0 (omega arith) ∙ ap (λ k. Some (f k)) (let e : from + 0 ≡ from = omega arith in e)) in
      let rest = by_places xs (from + 1) n f (omega (arith, size)) (λ i lt. at (suc i) (omega (arith, lt)) ∙ ap (λ k. Some (f k)) (let e : from + suc i ≡ from + 1 + i = omega arith in e)) in
      ap (λ (y : X). y ∷ xs) first ∙ ap (λ (ys : List X). f from ∷ ys) rest
    where
      same : (a b : X) → (let r : Option X = Some a in r) ≡ Some b → a ≡ b
      same a b e = cc

or_null : (last : Option (Option Setting)) → option_or last (Some None) ≡ Some (unwrap_or last None)
or_null None = refl
or_null (Some slot) = refl

nulls : (n i : ℕ) → i < n → slice_get (repeat n ((let none : Option Setting = None in none) ∷ [])) i ≡ Some None
nulls zero i lt = absurd (omega (arith, lt))
nulls (suc n) zero lt = refl
nulls (suc n) (suc i) lt = nulls n i (omega (arith, lt))

map_map : (f : ℕ → Option Setting) (ns : List ℕ) → map slot_value (map f ns) ≡ map (λ n. slot_value (f n)) ns
map_map f [] = refl
map_map f (n ∷ ns) = ap (λ (vs : List Primitive). slot_value (f n) ∷ vs) (map_map f ns)

array_read : (d : State) (id : Id) (o : object.Object) (c : Command) (slots : List (Option Setting)) → (id.kind == 8) ≡ false → lookup (is_id id) d.objects ≡ Some (with_slots o c slots)
    → read_of d (record { object = id; property = 87; index = None }) ≡ Ok (values_octets (map slot_value slots))
array_read d id o c slots k h = rw (k, h) refl

default_read : (d : State) (id : Id) (o : object.Object) (c : Command) (slots : List (Option Setting)) → (id.kind == 8) ≡ false → lookup (is_id id) d.objects ≡ Some (with_slots o c slots)
    → read_of d (record { object = id; property = 104; index = None }) ≡ Ok (values_octets (value_of c.default ∷ []))
default_read d id o c slots k h = rw (k, h) refl

commanded_at : (d : State) (xs : List (List ℕ)) (id : Id) (o : object.Object) (r : Range) (default : Setting) → lookup (is_id id) d.objects ≡ Some o → o.body ≡ body.Command (commanded r default) → (id.kind == 8) ≡ false
    → IsCommanded (after d xs) id (writes d xs) default
commanded_at d xs id o r default h is k =
    let c = commanded r default in
    let s = stands d xs id o c h is refl k in
    let slots : s.slots ≡ map (slot_after id (writes d xs)) (range_with_len 1 16) =
    by_places s.slots 1 16 (slot_after id (writes d xs)) s.size
    (λ i lt. ap (slice_get s.slots) (let e : i ≡ 1 + i - 1 = omega arith in e) ∙ s.last (1 + i) (omega arith) (omega (arith, lt))
    ∙ ap (option_or (last_at id (1 + i) (writes d xs))) (ap (slice_get c.slots) (let e : 1 + i - 1 ≡ i = omega arith in e) ∙ nulls 16 i lt)
    ∙ or_null (last_at id (1 + i) (writes d xs))) in
    record {
      array = array_read (after d xs) id o c s.slots k s.held ∙ ap (λ (l : List (Option Setting)). Ok (values_octets (map slot_value l))) slots ∙ ap (λ (vs : List Primitive). Ok (values_octets vs)) (map_map (slot_after id (writes d xs)) (range_with_len 1 16));
      present_value = s.read ∙ ap (λ (l : List (Option Setting)). Ok (values_octets (value_of (present l default) ∷ []))) slots;
      default_value = default_read (after d xs) id o c s.slots k s.held;
    }

setting_same : (a b : Setting) → (let r : Option Setting = Some a in r) ≡ Some b → a ≡ b
setting_same a b e = cc

no_setting : (a : Setting) → (let none : Option Setting = None in none) ≡ Some a → ⊥
no_setting a e = cc

abbrev is_so : State → List (List ℕ) → ObjectLine → Setting → Type 0
is_so d xs line default = IsCommanded (after d xs) (id_of line) (writes d xs) default

of_line : (d : State) (xs : List (List ℕ)) (line : ObjectLine) (default : Setting) → lookup (is_id (id_of line)) d.objects ≡ Some (entry_of line).1 → default_of line ≡ Some default → is_so d xs line default
of_line d xs (Binary instance name value) default h e =
    subst (is_so d xs (Binary instance name value)) (setting_same _ default e) (commanded_at d xs (id_of (Binary instance name value)) (entry_of (Binary instance name value)).1 range.Binary (setting.Enumerated value) h refl refl)
of_line d xs (Multistate instance name states value) default h e =
    subst (is_so d xs (Multistate instance name states value)) (setting_same _ default e)
    (commanded_at d xs (id_of (Multistate instance name states value)) (entry_of (Multistate instance name states value)).1 (range.Multistate states) (setting.Unsigned value) h refl refl)
of_line d xs (Integer instance name value) default h e =
    subst (is_so d xs (Integer instance name value)) (setting_same _ default e) (commanded_at d xs (id_of (Integer instance name value)) (entry_of (Integer instance name value)).1 range.Integer (setting.Signed value) h refl refl)
of_line d xs (Log instance name source capacity interval logged) default h e = absurd (no_setting default e)

pub are_commanded : (device : DeviceLine) (lines : List ObjectLine) (xs : List (List ℕ)) (i : ℕ) (line : ObjectLine) (default : Setting) → build_fault device lines ≡ None → slice_get lines i ≡ Some line → default_of line ≡ Some default
    → IsCommanded (after (built device lines) xs) (id_of line) (writes (built device lines) xs) default
are_commanded device lines xs i line default h at e =
    of_line (built device lines) xs line default (found device [] lines i line (right_none (device_fault device) (objects_fault device [] lines) h) at) e
