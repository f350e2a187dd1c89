-- Lines without a fault.
use Rattle.std.proofs.Common.{◌≡◌, refl, subst, ap, sym, rules, arith, ℕ, zero, suc, ◌<◌, ◌++◌, Bool, true, false, ◌||◌, not, List, [], ◌∷◌, length, map, take, slice_get, get_or, Option, Some, None, nat_lt, append-nil, append_assoc, ◌∙◌}
use Rattle.std.specs.List.{list_any}
use Rattle.std.specs.Option.{option_or}
use Rattle.std.specs.Map.{lookup}
use Rattle.std.specs.Str.{bytes_eq}
use Rattle.std.proofs.lemmas.Bool.Decides.{nat_tests}
use Rattle.std.proofs.lemmas.Bool.{false≢true}
use Rattle.std.proofs.lemmas.Option.{none-some, same_Some}
use Rattle.indexmap.specs.IndexMap.{insert_entry}
use Rattle.indexmap.proofs.MapLemmas.{absent_from_lookup, insert_entry-absent}
use Rattle.bac_wire.specs.Primitive.{Id}
use Rattle.bac_objects.specs.Build.{is_name, first_of, id_of, instance_of, name_of, has_id, has_name, own_tests, object_fault, objects_fault, device_fault, build_fault, entry_of, body_of, Finds, Refuses}
use Rattle.bac_objects.specs.Misfit.{IsFaulty}
use Rattle.bac_objects.specs.State.{is_id}
use Rattle.bac_objects.specs.declared.lines.DeviceLine.{DeviceLine}
use Rattle.bac_objects.specs.declared.lines.ObjectLine.{ObjectLine}
use Rattle.bac_objects.specs.declared.lines.ObjectLine.TheVariants.{Binary, Multistate, Integer, Log}
use Rattle.bac_objects.specs.declared.object.Body.{Body}
use Rattle.bac_objects.specs.declared.object.Object.{Object}
use Rattle.bac_objects.specs.declared.build.BuildFault.{BuildFault}
use Rattle.bac_objects.specs.declared.build.BuildFault.TheVariants.{BadInstance, DuplicateId, BadName, DuplicateName, BadStates, BadDefault, BadCapacity, BadInterval, Memory, BadReplySize}

-- ---- no fault of a line is that memory ran out

abbrev Never : Option BuildFault → Type 0
Never said = said ≡ Some Memory → ⊥

never_or : (a b : Option BuildFault) → Never a → Never b → Never (option_or a b)
never_or None b h k is = k is
never_or (Some x) b h k is = h is

-- the faults of a line by itself
abbrev pub is_own : BuildFault → Bool
is_own BadStates = true
is_own BadDefault = true
is_own BadCapacity = true
is_own BadInterval = true
is_own fault = false

told_own : (own fault : BuildFault) → is_own own ≡ true → Some own ≡ Some fault → is_own fault ≡ true
told_own own fault is e = subst (λ (x : BuildFault). is_own x ≡ true) (same_Some own fault e) is

two_own : (a b : Bool) (x y fault : BuildFault) → is_own x ≡ true → is_own y ≡ true → first_of ((a, x) ∷ (b, y) ∷ []) ≡ Some fault → is_own fault ≡ true
two_own true b x y fault is k e = told_own x fault is e
two_own false true x y fault is k e = told_own y fault k e
two_own false false x y fault is k e = absurd (none-some fault e)

one_own : (a : Bool) (x fault : BuildFault) → is_own x ≡ true → first_of ((a, x) ∷ []) ≡ Some fault → is_own fault ≡ true
one_own true x fault is e = told_own x fault is e
one_own false x fault is e = absurd (none-some fault e)

-- each fault of a line by itself is one of these
pub own_told : (line : ObjectLine) (fault : BuildFault) → first_of (own_tests line) ≡ Some fault → is_own fault ≡ true
own_told (Binary instance name default) fault e = one_own _ BadDefault fault refl e
own_told (Multistate instance name states default) fault e = two_own _ _ BadStates BadDefault fault refl refl e
own_told (Integer instance name default) fault e = absurd (none-some fault e)
own_told (Log instance name source capacity interval logged) fault e = two_own _ _ BadCapacity BadInterval fault refl refl e

-- no other fault is one of a line by itself, nor of three tests
pub no_own : (fault : BuildFault) (line : ObjectLine) → is_own fault ≡ false → first_of (own_tests line) ≡ Some fault → ⊥
no_own fault line other e = absurd (false≢true (sym other ∙ own_told line fault e))

pub none_of_three : (fault x y z : BuildFault) (a b c : Bool) → (x ≡ fault → ⊥) → (y ≡ fault → ⊥) → (z ≡ fault → ⊥)
    → first_of ((a, x) ∷ (b, y) ∷ (c, z) ∷ []) ≡ Some fault → ⊥
none_of_three fault x y z true b c p q r e = p (same_Some x fault e)
none_of_three fault x y z false true c p q r e = q (same_Some y fault e)
none_of_three fault x y z false false true p q r e = r (same_Some z fault e)
none_of_three fault x y z false false false p q r e = none-some fault e

never_four : (a b c d : Bool) (rest : List (Bool × BuildFault)) → Never (first_of rest) → Never (first_of ((a, BadInstance) ∷ (b, DuplicateId) ∷ (c, BadName) ∷ (d, DuplicateName) ∷ rest))
never_four true b c d rest k h = search rules
never_four false true c d rest k h = search rules
never_four false false true d rest k h = search rules
never_four false false false true rest k h = search rules
never_four false false false false rest k h = k h

never_objects : (device : DeviceLine) (before lines : List ObjectLine) → Never (objects_fault device before lines)
never_objects device before [] h = search rules
never_objects device before (line ∷ lines) h =
    never_or (object_fault device before line) (objects_fault device (before ++ line ∷ []) lines) (never_four _ _ _ _ (own_tests line) (no_own Memory line refl)) (never_objects device (before ++ line ∷ []) lines) h

pub never_memory : (device : DeviceLine) (lines : List ObjectLine) → Never (build_fault device lines)
never_memory device lines = never_or (device_fault device) (objects_fault device [] lines) (none_of_three Memory BadInstance BadName BadReplySize _ _ _ (λ e. cc) (λ e. cc) (λ e. cc)) (never_objects device [] lines)

refuses : (fault : BuildFault) (said : Option BuildFault) → Never said → said ≡ Some fault → Refuses fault said
refuses Memory said never is = absurd (never is)
refuses fault said never is = is

-- ---- lines in parts

option_or-assoc : (a b c : Option BuildFault) → option_or a (option_or b c) ≡ option_or (option_or a b) c
option_or-assoc None b c = refl
option_or-assoc (Some x) b c = refl

pub objects_fault-append : (device : DeviceLine) (before xs ys : List ObjectLine) → objects_fault device before (xs ++ ys) ≡ option_or (objects_fault device before xs) (objects_fault device (before ++ xs) ys)
objects_fault-append device before [] ys = ap (λ (b : List ObjectLine). objects_fault device b ys) (sym (append-nil before))
objects_fault-append device before (x ∷ xs) ys =
    let rest = objects_fault-append device (before ++ x ∷ []) xs ys
    ∙ ap (λ (b : List ObjectLine). option_or (objects_fault device (before ++ x ∷ []) xs) (objects_fault device b ys)) (append_assoc before (x ∷ []) xs) in
    ap (option_or (object_fault device before x)) rest
    ∙ option_or-assoc (object_fault device before x) (objects_fault device (before ++ x ∷ []) xs) (objects_fault device (before ++ x ∷ xs) ys)

-- the first fault of object lines is that of the first line with one
pub faulty_told : (device : DeviceLine) (lines before : List ObjectLine) (line : ObjectLine) (fault : BuildFault) → IsFaulty device lines before line fault → objects_fault device [] lines ≡ Some fault
faulty_told device lines before line fault f =
    ap (objects_fault device []) f.split
    ∙ objects_fault-append device [] before (line ∷ f.after)
    ∙ ap (λ (o : Option BuildFault). option_or o (objects_fault device before (line ∷ f.after))) f.first
    ∙ ap (λ (o : Option BuildFault). option_or o (objects_fault device (before ++ line ∷ []) f.after)) f.refused

-- the fault that lines have is told
pub told : (device : DeviceLine) (lines : List ObjectLine) (found : Option BuildFault) → found ≡ objects_fault device [] lines → Finds found (objects_fault device [] lines)
told device lines None is = sym is
told device lines (Some fault) is = refuses fault (objects_fault device [] lines) (never_objects device [] lines) (sym is)

-- ---- each line by itself

pub right_none : (a b : Option BuildFault) → option_or a b ≡ None → b ≡ None
right_none None b h = h
right_none (Some x) b h = search rules

pub left_none : (a b : Option BuildFault) → option_or a b ≡ None → a ≡ None
left_none None b h = refl
left_none (Some x) b h = absurd cc

first_none : (device : DeviceLine) (before : List ObjectLine) (x : ObjectLine) (lines : List ObjectLine) (line : ObjectLine) → objects_fault device before (x ∷ lines) ≡ None → Some x ≡ Some line → object_fault device (before ++ []) line ≡ None
first_none device before x lines line h at =
    let same : x ≡ line = cc in
    let none : object_fault device before x ≡ None = left_none (object_fault device before x) (objects_fault device (before ++ x ∷ []) lines) h in
    subst (λ (l : ObjectLine). object_fault device (before ++ []) l ≡ None) same (subst (λ (m : List ObjectLine). object_fault device m x ≡ None) (sym (append-nil before)) none)

append_one : (before : List ObjectLine) (line : ObjectLine) (n : ℕ) (lines : List ObjectLine) → (before ++ line ∷ []) ++ take n lines ≡ before ++ line ∷ take n lines
append_one [] line n lines = refl
append_one (x ∷ before) line n lines = ap (λ m. x ∷ m) (append_one before line n lines)

line_none : (device : DeviceLine) (before lines : List ObjectLine) (i : ℕ) (line : ObjectLine) → objects_fault device before lines ≡ None → slice_get lines i ≡ Some line → object_fault device (before ++ take i lines) line ≡ None
line_none device before [] i line h at = search rules
line_none device before (x ∷ lines) zero line h at = first_none device before x lines line h at
line_none device before (x ∷ lines) (suc i) line h at =
    subst (λ m. object_fault device m line ≡ None) (append_one before x i lines) (line_none device (before ++ x ∷ []) lines i line (right_none _ _ h) at)

two : (a b c d : Bool) (rest : List (Bool × BuildFault)) → first_of ((a, BadInstance) ∷ (b, DuplicateId) ∷ (c, BadName) ∷ (d, DuplicateName) ∷ rest) ≡ None → (a ≡ false) × (b ≡ false)
two true b c d rest h = search rules
two false true c d rest h = search rules
two false false c d rest h = (refl, refl)

pub in_range : (n : ℕ) → nat_lt 4194302 n ≡ false → n < 4194304
in_range n h = grind (arith, nat_tests)

-- a new object comes last
pub added : (es : List (Id × Object)) (id : Id) (name : List ℕ) (body : Body) (line : ObjectLine) → id ≡ id_of line → name ≡ name_of line → body ≡ body_of line → lookup (is_id (id_of line)) es ≡ None
    → (let object : Object = record { name = name; body = body } in insert_entry is_id es id object) ≡ es ++ entry_of line ∷ []
added es id name body line same named made none = rw (same, named, made) (insert_entry-absent is_id (id_of line) _ es (absent_from_lookup (is_id (id_of line)) es none))

-- what the adding of an object needs of its line
pub record IsFaultless (before : List ObjectLine) (line : ObjectLine) : Type 0 where
  pub within : instance_of line < 4194304
  pub other : has_id (id_of line) before ≡ false

is_faultless : (device : DeviceLine) (before : List ObjectLine) (line : ObjectLine) → object_fault device before line ≡ None → IsFaultless before line
is_faultless device before line h =
    let f = two (nat_lt 4194302 (instance_of line)) (has_id (id_of line) before) (not (is_name (name_of line))) (bytes_eq (name_of line) device.name || has_name (name_of line) before) (own_tests line) h in
    record { within = in_range (instance_of line) f.0; other = f.1 }

fresh_at : (b : Bool) (id : Id) (x : ObjectLine) (before : List ObjectLine) → is_id id (id_of x) ≡ b → has_id id (x ∷ before) ≡ false → (has_id id before ≡ false → lookup (is_id id) (map entry_of before) ≡ None) → lookup (is_id id) (map entry_of (x ∷ before)) ≡ None
fresh_at true id x before e h rest = search rules
fresh_at false id x before e h rest = search rules

pub fresh : (id : Id) (before : List ObjectLine) → has_id id before ≡ false → lookup (is_id id) (map entry_of before) ≡ None
fresh id [] h = refl
fresh id (x ∷ before) h = fresh_at (is_id id (id_of x)) id x before refl h (fresh id before)

at_index : (lines : List ObjectLine) (i : ℕ) (line : ObjectLine) → i < length lines → line ≡ get_or lines i line → slice_get lines i ≡ Some line
at_index [] i line lt e = absurd (omega (arith, lt))
at_index (x ∷ lines) zero line lt e = ap Some (sym e)
at_index (x ∷ lines) (suc i) line lt e = at_index lines i line (omega (arith, lt)) e

pub line_sound : (device : DeviceLine) (lines : List ObjectLine) (i : ℕ) (line : ObjectLine) → objects_fault device [] lines ≡ None → i < length lines → line ≡ get_or lines i line → IsFaultless (take i lines) line
line_sound device lines i line h lt e = is_faultless device (take i lines) line (line_none device [] lines i line h (at_index lines i line lt e))

-- ---- the object of a line in the table

any_in : {X : Type 0} (test : X → Bool) (b : Bool) (before : List X) (x : X) (rest : List X) → test x ≡ b → list_any test (before ++ x ∷ rest) ≡ false → test x ≡ false
any_in test true [] x rest e h = search rules
any_in test false [] x rest e h = e
any_in test b (y ∷ before) x rest e h = any_in test b before x rest e (or_right (test y) (list_any test (before ++ x ∷ rest)) h)
  where
    or_right : (a c : Bool) → (a || c) ≡ false → c ≡ false
    or_right true c k = search rules
    or_right false c k = k

same_id : (a : Id) → is_id a a ≡ true
same_id a = grind (arith, nat_tests)

is_first : (x line : ObjectLine) → Some x ≡ Some line → x ≡ line
is_first x line e = cc

other_id : (device : DeviceLine) (before : List ObjectLine) (x : ObjectLine) (lines : List ObjectLine) (i : ℕ) (line : ObjectLine)
    → objects_fault device before (x ∷ lines) ≡ None → slice_get lines i ≡ Some line → is_id (id_of line) (id_of x) ≡ false
other_id device before x lines i line h at =
    let none : object_fault device (before ++ x ∷ take i lines) line ≡ None =
    subst (λ m. object_fault device m line ≡ None) (append_one before x i lines) (line_none device (before ++ x ∷ []) lines i line (right_none _ _ h) at) in
    any_in (λ l. is_id (id_of line) (id_of l)) (is_id (id_of line) (id_of x)) before x (take i lines) refl (is_faultless device (before ++ x ∷ take i lines) line none).other

-- each line's object is found under its identifier
pub found : (device : DeviceLine) (before lines : List ObjectLine) (i : ℕ) (line : ObjectLine) → objects_fault device before lines ≡ None → slice_get lines i ≡ Some line
    → lookup (is_id (id_of line)) (map entry_of lines) ≡ Some (entry_of line).1
found device before [] i line h at = search rules
found device before (x ∷ lines) zero line h at = let e : x ≡ line = is_first x line at in rw (e, same_id (id_of line)) refl
found device before (x ∷ lines) (suc i) line h at =
    rw (other_id device before x lines i line h at) (found device (before ++ x ∷ []) lines i line (right_none _ _ h) at)
