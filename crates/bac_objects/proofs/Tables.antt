-- Lines looked up in tables of identifiers and names.
use Rattle.std.proofs.Common.{◌≡◌, refl, ap, sym, ◌∙◌, arith, rules, ℕ, suc, ◌+◌, ◌<◌, ◌≤◌, Bool, true, false, ◌||◌, not, nat_lt, cond, List, [], ◌∷◌, ◌++◌, length, take, drop, get_or, Option, Some, None, ◌⊎◌, inl, inr, Bor}
use Rattle.std.specs.List.{list_any}
use Rattle.std.specs.Option.{option_or}
use Rattle.std.specs.Str.{bytes_eq}
use Rattle.std.proofs.Math.Seq.{drop-cons}
use Rattle.std.proofs.lemmas.Bool.Decides.{nat_tests}
use Rattle.std.proofs.lemmas.List.{take-append-drop, take_more}
use Rattle.std.proofs.lemmas.List.Folds.{list_any-append}
use Rattle.std.proofs.lemmas.Bool.{or_parts}
use Rattle.indexmap.specs.IndexSet.{insert_key}
use Rattle.bac_wire.specs.Primitive.{Id}
use Rattle.bac_objects.specs.Build.{first_of, has_id, has_name, id_of, instance_of, is_name, line_tests, name_of, object_fault, objects_fault, own_tests}
use Rattle.bac_objects.specs.Misfit.{IsFaulty}
use Rattle.bac_objects.specs.State.{is_id}
use Rattle.bac_objects.specs.declared.build.BuildFault.{BuildFault}
use Rattle.bac_objects.specs.declared.build.BuildFault.TheVariants.{BadInstance, DuplicateId, BadName, DuplicateName}
use Rattle.bac_objects.specs.declared.lines.DeviceLine.{DeviceLine}
use Rattle.bac_objects.specs.declared.lines.ObjectLine.{ObjectLine}
use Rattle.bac_objects.proofs.Builds.{objects_fault-append}

-- ---- one line more

here : (lines : List ObjectLine) (i : ℕ) (line : ObjectLine) → i < length lines → line ≡ get_or lines i line → drop i lines ≡ line ∷ drop (i + 1) lines
here lines i line lt e =
    drop-cons lines i line lt ∙ ap (λ (x : ObjectLine). x ∷ drop (suc i) lines) (sym e) ∙ ap (λ (n : ℕ). line ∷ drop n lines) (let s : suc i ≡ i + 1 = omega arith in s)

pub before_more : (lines : List ObjectLine) (i : ℕ) (line : ObjectLine) → i < length lines → line ≡ get_or lines i line → take (i + 1) lines ≡ take i lines ++ line ∷ []
before_more lines i line lt e = take_more lines i line lt ∙ ap (λ (x : ObjectLine). take i lines ++ x ∷ []) (sym e)

pub is_faulty : (device : DeviceLine) (lines before : List ObjectLine) (i : ℕ) (line : ObjectLine) (fault : BuildFault) → before ≡ take i lines → i < length lines → line ≡ get_or lines i line
    → objects_fault device [] (take i lines) ≡ None → object_fault device (take i lines) line ≡ Some fault → IsFaulty device lines before line fault
is_faulty device lines before i line fault is lt e first h = record {
  after = drop (i + 1) lines;
  split = sym (take-append-drop i lines) ∙ ap (λ (l : List ObjectLine). take i lines ++ l) (here lines i line lt e) ∙ ap (λ (l : List ObjectLine). l ++ line ∷ drop (i + 1) lines) (sym is);
  first = ap (objects_fault device []) is ∙ first;
  refused = ap (λ (l : List ObjectLine). object_fault device l line) is ∙ h;
}

pub first_more : (device : DeviceLine) (lines : List ObjectLine) (i : ℕ) (line : ObjectLine) → i < length lines → line ≡ get_or lines i line
    → objects_fault device [] (take i lines) ≡ None → object_fault device (take i lines) line ≡ None → objects_fault device [] (take (i + 1) lines) ≡ None
first_more device lines i line lt e first h =
    ap (objects_fault device []) (before_more lines i line lt e)
    ∙ objects_fault-append device [] (take i lines) (line ∷ [])
    ∙ ap (λ (o : Option BuildFault). option_or o (objects_fault device (take i lines) (line ∷ []))) first
    ∙ ap (λ (o : Option BuildFault). option_or o None) h

-- ---- its fault

over : (n : ℕ) → 4194304 ≤ n → nat_lt 4194302 n ≡ true
over n le = grind (arith, nat_tests)

pub no_id : (device : DeviceLine) (before : List ObjectLine) (line : ObjectLine) (kind instance : ℕ) → kind < 1024 → instance ≡ instance_of line → (1024 ≤ kind) ⊎ (4194304 ≤ instance)
    → object_fault device before line ≡ Some BadInstance
no_id device before line kind instance bound e (inl large) = absurd (omega (arith, bound, large))
no_id device before line kind instance bound e (inr large) = rw (over (instance_of line) (omega (arith, large, e))) refl

pub line_fault : (device : DeviceLine) (before : List ObjectLine) (line : ObjectLine) (same_id same_name : Bool) (r : Option BuildFault) → same_id ≡ has_id (id_of line) before → same_name ≡ has_name (name_of line) before
    → r ≡ first_of (line_tests device line same_id same_name) → object_fault device before line ≡ r
line_fault device before line same_id same_name r i n e =
    sym (e ∙ ap (λ (b : Bool). first_of (line_tests device line b same_name)) i ∙ ap (λ (b : Bool). first_of (line_tests device line (has_id (id_of line) before) b)) n)

-- a line without a fault is none that was there

second_and_fourth : (a b c d : Bool) (rest : List (Bool × BuildFault)) → first_of ((a, BadInstance) ∷ (b, DuplicateId) ∷ (c, BadName) ∷ (d, DuplicateName) ∷ rest) ≡ None → (b ≡ false) × (d ≡ false)
second_and_fourth true b c d rest h = search rules
second_and_fourth false true c d rest h = search rules
second_and_fourth false false true d rest h = search rules
second_and_fourth false false false true rest h = search rules
second_and_fourth false false false false rest h = (refl, refl)

pub is_new : (device : DeviceLine) (before : List ObjectLine) (line : ObjectLine) → object_fault device before line ≡ None → (has_id (id_of line) before ≡ false) × (has_name (name_of line) before ≡ false)
is_new device before line h =
    let f = second_and_fourth (nat_lt 4194302 (instance_of line)) (has_id (id_of line) before) (not (is_name (name_of line))) (bytes_eq (name_of line) device.name || has_name (name_of line) before) (own_tests line) h in
    (f.0, (or_parts (bytes_eq (name_of line) device.name) (has_name (name_of line) before) f.1).1)

-- ---- the tables

pub ids_more : (keys new : List Id) (before : List ObjectLine) (line : ObjectLine) (id : Id) → id ≡ id_of line → ((x : Id) → list_any (is_id x) keys ≡ has_id x before) → has_id (id_of line) before ≡ false
    → new ≡ insert_key is_id keys id → (x : Id) → list_any (is_id x) new ≡ has_id x (before ++ line ∷ [])
ids_more keys new before line id e same absent is x =
    let none : list_any (is_id id) keys ≡ false = same id ∙ ap (λ (i : Id). has_id i before) e ∙ absent in
    let pushed : new ≡ keys ++ id ∷ [] = is ∙ ap (λ (b : Bool). cond b keys (keys ++ id ∷ [])) none in
    ap (λ (ks : List Id). list_any (is_id x) ks) pushed
    ∙ list_any-append (is_id x) keys (id ∷ [])
    ∙ ap (λ (b : Bool). b || (is_id x id || false)) (same x)
    ∙ ap (λ (i : Id). has_id x before || (is_id x i || false)) e
    ∙ sym (list_any-append (λ (l : ObjectLine). is_id x (id_of l)) before (line ∷ []))

pub names_more : (keys new : List (Bor (List ℕ))) (before : List ObjectLine) (line : ObjectLine) (name : Bor (List ℕ)) → name.now ≡ name_of line → ((x : List ℕ) → list_any (λ (key : Bor (List ℕ)). bytes_eq x key.now) keys ≡ has_name x before)
    → has_name (name_of line) before ≡ false → new ≡ insert_key (λ (a b : Bor (List ℕ)). bytes_eq a.now b.now) keys name → (x : List ℕ) → list_any (λ (key : Bor (List ℕ)). bytes_eq x key.now) new ≡ has_name x (before ++ line ∷ [])
names_more keys new before line name e same absent is x =
    let none : list_any (λ (key : Bor (List ℕ)). bytes_eq name.now key.now) keys ≡ false = same name.now ∙ ap (λ (n : List ℕ). has_name n before) e ∙ absent in
    let pushed : new ≡ keys ++ name ∷ [] = is ∙ ap (λ (b : Bool). cond b keys (keys ++ name ∷ [])) none in
    ap (λ (ks : List (Bor (List ℕ))). list_any (λ (key : Bor (List ℕ)). bytes_eq x key.now) ks) pushed
    ∙ list_any-append (λ (key : Bor (List ℕ)). bytes_eq x key.now) keys (name ∷ [])
    ∙ ap (λ (b : Bool). b || (bytes_eq x name.now || false)) (same x)
    ∙ ap (λ (n : List ℕ). has_name x before || (bytes_eq x n || false)) e
    ∙ sym (list_any-append (λ (l : ObjectLine). bytes_eq x (name_of l)) before (line ∷ []))
