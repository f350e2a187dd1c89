-- Each object is kept, and what follows of the device.
use Rattle.std.proofs.Common.{◌≡◌, ◌<◌, ◌≤◌, ◌++◌, refl, ap, sym, ◌∙◌, rules, arith, subst, ℕ, zero, suc, Bool, true, false, ◌||◌, not, cond, List, [], ◌∷◌, slice_get, nat_lt, Option, Some, None}
use Rattle.std.specs.Option.{unwrap_or}
use Rattle.std.specs.List.{AllByRecursion}
use Rattle.std.specs.Map.{lookup, set_value}
use Rattle.std.proofs.lemmas.Bool.Decides.{nat_tests}
use Rattle.indexmap.specs.IndexMap.{set_value_at}
use Rattle.bac_wire.specs.Primitive.{Id}
use Rattle.bac_wire.specs.Stamp.{CivilTime, IsCivilTime, ticks_of}
use Rattle.bac_log.specs.TrendLog.{Log, IsLog}
use Rattle.bac_objects.specs.Build.{body_of, built, device_fault, entry_of, first_of, id_of, is_name}
use Rattle.bac_objects.specs.Kept.{AreObjects, AreQuiet, IsBody, IsQuiet, KeepsBody, interval_in}
use Rattle.bac_objects.specs.Sampling.{is_due, log_id, log_in, logger_in, records_in}
use Rattle.bac_objects.specs.Sound.{IsClocked, IsSound}
use Rattle.bac_objects.specs.State.{State, is_id}
use Rattle.bac_objects.specs.declared.build.BuildFault.TheVariants.{BadInstance, BadName, BadReplySize}
use Rattle.bac_objects.specs.declared.lines.DeviceLine.{DeviceLine}
use Rattle.bac_objects.specs.declared.lines.ObjectLine.{ObjectLine}
use Rattle.bac_objects.specs.declared.object.Body.{Body}
use Rattle.bac_objects.specs.declared.object.Body.TheVariants as body
use Rattle.bac_objects.specs.declared.object.Logger.{Logger}
use Rattle.bac_objects.specs.declared.object.Object as object

-- ---- one object in the table

same_kind : (a b : Id) → is_id a b ≡ true → b.kind ≡ a.kind
same_kind a b h = grind (arith, nat_tests)

same_instance : (a b : Id) → is_id a b ≡ true → b.instance ≡ a.instance
same_instance a b h = grind (arith, nat_tests)

same_id : (a b : Id) → is_id a b ≡ true → b ≡ a
same_id a b h =
    ap (λ k. let id : Id = record { kind = k; instance = b.instance } in id) (same_kind a b h) ∙ ap (λ i. let id : Id = record { kind = a.kind; instance = i } in id) (same_instance a b h)

some_is : (a b : object.Object) → Some a ≡ Some b → a ≡ b
some_is a b e = cc

found_at : (b : Bool) (id : Id) (e : Id × object.Object) (found : Option object.Object) (o : object.Object) → is_id id e.0 ≡ b → IsBody e.0 e.1.body
    → (found ≡ Some o → IsBody id o.body) → cond b (Some e.1) found ≡ Some o → IsBody id o.body
found_at true id e found o same is rest h = subst (λ (k : Id). IsBody k o.body) (same_id id e.0 same) (subst (λ (x : object.Object). IsBody e.0 x.body) (some_is e.1 o h) is)
found_at false id e found o same is rest h = rest h

-- what is found under an identifier is of its type
pub body_found : (es : List (Id × object.Object)) (id : Id) (o : object.Object) → AreObjects es → lookup (is_id id) es ≡ Some o → IsBody id o.body
body_found [] id o are h = search rules
body_found (e ∷ es) id o are h = found_at (is_id id e.0) id e (lookup (is_id id) es) o refl are.0 (body_found es id o are.1) h

second : (e : Id × object.Object) (k : Id) (o : object.Object) → Some e ≡ Some (k, o) → e.1 ≡ o
second e k o h = ap (λ (x : Option (Id × object.Object)). (unwrap_or x e).1) h

-- what is true of each object under its identifier
module _ (P : Id → Body → Type 0) where
  abbrev Each : List (Id × object.Object) → Type 0
  Each es = AllByRecursion (λ e. P e.0 e.1.body) es

  -- a change of one of them that leaves it so
  abbrev Leaves : Body → Body → Type 0
  Leaves old new = (id : Id) → P id old → P id new

  set_at : (b : Bool) (test : Id → Bool) (e : Id × object.Object) (es : List (Id × object.Object)) (o new : object.Object) → Leaves o.body new.body → P e.0 e.1.body → Each es
      → (lookup test es ≡ Some o → Each (set_value test es new)) → cond b (Some e.1) (lookup test es) ≡ Some o → Each (cond b ((e.0, new) ∷ es) (e ∷ set_value test es new))
  set_at true test e es o new keeps is are rest h = (keeps e.0 (subst (λ (x : object.Object). P e.0 x.body) (some_is e.1 o h) is), are)
  set_at false test e es o new keeps is are rest h = (is, rest h)

  -- an object that is found
  pub set_each : (test : Id → Bool) (es : List (Id × object.Object)) (o new : object.Object) → Leaves o.body new.body → Each es → lookup test es ≡ Some o → Each (set_value test es new)
  set_each test [] o new keeps are h = tt
  set_each test (e ∷ es) o new keeps are h = set_at (test e.0) test e es o new keeps are.0 are.1 (set_each test es o new keeps are.1) h

  -- an object at a place
  pub place_each : (es : List (Id × object.Object)) (i : ℕ) (k : Id) (o new : object.Object) → Leaves o.body new.body → Each es → slice_get es i ≡ Some (k, o) → Each (set_value_at es i new)
  place_each [] i k o new keeps are at = tt
  place_each (e ∷ es) zero k o new keeps are at = (keeps e.0 (subst (λ (x : object.Object). P e.0 x.body) (second e k o at) are.0), are.1)
  place_each (e ∷ es) (suc i) k o new keeps are at = (are.0, place_each es i k o new keeps are.1 at)

  -- an object more
  pub push_each : (es : List (Id × object.Object)) (e : Id × object.Object) → Each es → P e.0 e.1.body → Each (es ++ e ∷ [])
  push_each [] e are is = (is, tt)
  push_each (x ∷ es) e are is = (are.0, push_each es e are.1 is)

-- ---- the device

log_body : (n : ℕ) (b : Body) → IsBody (log_id n) b → (l : Logger) × (b ≡ body.Log l)
log_body n (body.Command c) is = absurd (is refl)
log_body n (body.Log l) is = (l, refl)

log_named : (id : Id) (b : Body) (l : Logger) → IsBody id b → b ≡ body.Log l → (id.kind ≡ 20) × (id.instance < 4194304)
log_named id (body.Command c) l is e = absurd cc
log_named id (body.Log m) l is e = (is.0, is.1)

body_log : (n : ℕ) (b : Body) (log : Log) → IsBody (log_id n) b → records_in (logger_in b) ≡ Some log → IsLog log
body_log n (body.Command c) log is e = absurd cc
body_log n (body.Log l) log is e = let same : l.log ≡ log = cc in subst (λ (x : Log). IsLog x) same is.2

found_log : (n : ℕ) (found : Option object.Object) (log : Log) → ((o : object.Object) → found ≡ Some o → IsBody (log_id n) o.body) → log_in found ≡ Some log → IsLog log
found_log n None log is e = absurd cc
found_log n (Some o) log is e = body_log n o.body log (is o refl) e

log_held : (far : Bool) (n : ℕ) (es : List (Id × object.Object)) (log : Log) → AreObjects es → log_in (cond far None (lookup (is_id (log_id n)) es)) ≡ Some log → IsLog log
log_held true n es log are e = absurd cc
log_held false n es log are e = found_log n (lookup (is_id (log_id n)) es) log (λ o h. body_found es (log_id n) o are h) e

pub sound : (d : State) → d.instance ≤ 4194302 → 50 ≤ d.reply_size → d.reply_size ≤ 1476 → IsClocked d.origin d.clock → AreObjects d.objects → IsSound d
sound d within least greatest clocked are = record {
  instance = within;
  least_reply = least;
  greatest_reply = greatest;
  clocked = clocked;
  has = λ n o h. log_body n o.body (body_found d.objects (log_id n) o are h);
  only = λ id o l h e. log_named id o.body l (body_found d.objects id o are h) e;
  logs = λ n log e. log_held (nat_lt 4194303 n) n d.objects log are e;
}

-- after a change of its objects alone
abbrev StaysSound : State → ℕ → List (Id × object.Object) → Type 0
StaysSound d due es = (let new : State = record d { objects = es } in IsSound new) × AreObjects es × AreQuiet (ticks_of d.origin) (ticks_of d.clock) due es

with_objects : (d : State) (due : ℕ) (es : List (Id × object.Object)) → IsSound d → AreObjects es → AreQuiet (ticks_of d.origin) (ticks_of d.clock) due es → StaysSound d due es
with_objects d due es is are quiet = (sound (record d { objects = es }) is.instance is.least_reply is.greatest_reply is.clocked are, are, quiet)

still_quiet : (origin clock due : ℕ) (old new : Body) → interval_in new ≡ interval_in old → IsQuiet origin clock due old → IsQuiet origin clock due new
still_quiet origin clock due old new same quiet n from to = ap (is_due origin clock n) same ∙ quiet n from to

abbrev Sound : State → ℕ → Type 0
Sound d due = IsSound d × AreObjects d.objects × AreQuiet (ticks_of d.origin) (ticks_of d.clock) due d.objects

pub found_sound : (d : State) (due : ℕ) (id : Id) (o new : object.Object) (es : List (Id × object.Object)) → Sound d due → KeepsBody o.body new.body
    → lookup (is_id id) d.objects ≡ Some o → es ≡ set_value (is_id id) d.objects new → StaysSound d due es
found_sound d due id o new es is keeps at e =
    let quiet = set_each (λ k b. IsQuiet (ticks_of d.origin) (ticks_of d.clock) due b) (is_id id) d.objects o new (λ k. still_quiet (ticks_of d.origin) (ticks_of d.clock) due o.body new.body keeps.1) is.2 at in
    with_objects d due es is.0 (subst AreObjects (sym e) (set_each IsBody (is_id id) d.objects o new keeps.0 is.1 at))
    (subst (AreQuiet (ticks_of d.origin) (ticks_of d.clock) due) (sym e) quiet)

pub place_sound : (d : State) (due : ℕ) (i : ℕ) (k : Id) (o new : object.Object) → Sound d due → KeepsBody o.body new.body
    → slice_get d.objects i ≡ Some (k, o) → StaysSound d due (set_value_at d.objects i new)
place_sound d due i k o new is keeps at =
    with_objects d due (set_value_at d.objects i new) is.0 (place_each IsBody d.objects i k o new keeps.0 is.1 at)
    (place_each (λ k b. IsQuiet (ticks_of d.origin) (ticks_of d.clock) due b) d.objects i k o new (λ k. still_quiet (ticks_of d.origin) (ticks_of d.clock) due o.body new.body keeps.1) is.2 at)

-- a clock that goes on
pub clock_sound : (d : State) (stamp : CivilTime) → IsCivilTime stamp → ticks_of d.clock ≤ ticks_of stamp → IsSound d → AreObjects d.objects → (let new : State = record d { clock = stamp } in IsSound new)
clock_sound d stamp shown on is are =
    let clocked : IsClocked d.origin stamp = record { begun = is.clocked.begun; shown = shown; since = omega (arith, is.clocked.since, on) } in
    sound (record d { clock = stamp }) is.instance is.least_reply is.greatest_reply clocked are

-- ---- the lines of a device

three_none : (a b c : Bool) → first_of ((a, BadInstance) ∷ (b, BadName) ∷ (c, BadReplySize) ∷ []) ≡ None → (a ≡ false) × (c ≡ false)
three_none true b c h = search rules
three_none false true c h = search rules
three_none false false true h = search rules
three_none false false false h = (refl, refl)

line_bounds : (n size : ℕ) → nat_lt 4194302 n ≡ false → (nat_lt size 50 || nat_lt 1476 size) ≡ false → (n ≤ 4194302) × (50 ≤ size) × (size ≤ 1476)
line_bounds n size h k = (grind (arith, nat_tests), grind (arith, nat_tests), grind (arith, nat_tests))

none_quiet : (origin clock : ℕ) (es : List (Id × object.Object)) → AreQuiet origin clock clock es
none_quiet origin clock [] = tt
none_quiet origin clock (e ∷ es) = (λ n from to. absurd (omega (arith, from, to)), none_quiet origin clock es)

pub line_sound : (line : DeviceLine) (name : List ℕ) (es : List (Id × object.Object)) → device_fault line ≡ None → IsCivilTime line.clock → AreObjects es
    → (let new : State = record (built line []) { name = name; objects = es } in Sound new (ticks_of line.clock))
line_sound line name es none shown are =
    let clocked : IsClocked line.clock line.clock = record { begun = shown; shown = shown; since = omega arith } in
    let tests = three_none (nat_lt 4194302 line.instance) (not (is_name line.name)) (nat_lt line.reply_size 50 || nat_lt 1476 line.reply_size) none in
    let bounds = line_bounds line.instance line.reply_size tests.0 tests.1 in
    (sound (record (built line []) { name = name; objects = es }) bounds.0 bounds.1 bounds.2 clocked are, are, none_quiet (ticks_of line.clock) (ticks_of line.clock) es)

pub added_kept : (es new : List (Id × object.Object)) (line : ObjectLine) (b : Body) → AreObjects es → IsBody (id_of line) b → b ≡ body_of line → new ≡ es ++ entry_of line ∷ [] → AreObjects new
added_kept es new line b are is same e = subst AreObjects (sym e) (push_each IsBody es (entry_of line) are (subst (IsBody (id_of line)) same is))
