-- Logs that words name are asked.
use Rattle.std.proofs.Common.{arith, ◌≡◌, ℕ, ◌≤◌, ◌==◌, ◌++◌, ◌&&◌, ◌||◌, not, Bool, true, false, if◌then◌else◌, List, [], ◌∷◌, map, length, Option, None, Some, Result, Ok, Err, refl, sym, ap, subst, ◌∙◌}
use Rattle.std.specs.List.{AllByRecursion, Contains, filter, find, list_any}
use Rattle.std.specs.Option.{option_map}
use Rattle.std.proofs.lemmas.Bool.{cond-false, cond-true, eq-eqb, eqb-true, false≢true}
use Rattle.std.proofs.lemmas.List.Elements.{All-contains, All-from_recursion}
use Rattle.bac_archive.specs.declared.row.DeviceRow.{DeviceRow}
use Rattle.bac_archive.specs.declared.row.LogRow.{LogRow}
use Rattle.bac_archive.specs.declared.standing.Standing.{Standing}
use Rattle.bac_device_poller.specs.Rows.{DeviceAs, device_as}
use Rattle.bac_plan.specs.Changes.{asks_again, asks_again_of, device_of, names_log}
use Rattle.bac_plan.specs.Fresh.{FreshLogsAs, ◌>>=◌, fresh_id_in, has_log, id_at, id_in, id_of, is_fresh_log, log_added, or_else, with_choice, with_instances, with_log, with_logs}
use Rattle.bac_plan.specs.Laws.{HaveOwnIds}
use Rattle.bac_plan.specs.Named.{has_instance, is_at, is_whole, list_has, one_of}
use Rattle.bac_plan.specs.NamingLaws.{FreshLogsAreAsked, LogNow, NamedLogsAreAsked, fresh_after, log_after}
use Rattle.bac_plan.specs.declared.fault.NamingFault.{NamingFault}
use Rattle.bac_plan.specs.declared.fresh_log.FreshLog.{FreshLog}
use Rattle.bac_plan.specs.declared.named.Choice.{Choice}
use Rattle.bac_plan.specs.declared.named.Choice.TheVariants.{Logs, Whole}
use Rattle.bac_plan.specs.declared.named.Named.{Named}
use Rattle.bac_plan.proofs.NamedLemmas.{any_left, any_mapped, any_right, any_there, or_right}

-- ---- new logs

abbrev made : FreshLogsAs → Result FreshLogsAs NamingFault
made f = Ok f

ok_same : (f g : FreshLogsAs) → made f ≡ made g → f ≡ g
ok_same f g is = cc

-- what is there stays there
abbrev Keeps : FreshLogsAs → FreshLogsAs → Type 0
Keeps f g = (device instance : ℕ) → is_fresh_log device instance f.logs ≡ true → is_fresh_log device instance g.logs ≡ true

-- a log is on record, or new
abbrev IsThere : List LogRow → (device instance : ℕ) → FreshLogsAs → Type 0
IsThere logs device instance g = (has_log device instance logs || is_fresh_log device instance g.logs) ≡ true

keep_there : (logs : List LogRow) (device instance : ℕ) (f g : FreshLogsAs) → Keeps f g → IsThere logs device instance f → IsThere logs device instance g
keep_there logs device instance f g keeps there = by (has_log device instance logs) there
  where
    by : (b : Bool) → (b || is_fresh_log device instance f.logs) ≡ true → (b || is_fresh_log device instance g.logs) ≡ true
    by true h = refl
    by false h = keeps device instance h

log_comes : (logs : List LogRow) (device : ℕ) (f g : FreshLogsAs) (instance : ℕ) → with_log logs device f instance ≡ Ok g → Keeps f g × IsThere logs device instance g
log_comes logs device f g instance is = by (has_log device instance logs || is_fresh_log device instance f.logs) refl is
  where
    added : (o : Option ℕ) → log_added f device instance o ≡ Ok g → Keeps f g × IsThere logs device instance g
    added None h = cc
    added (Some id) h =
        let same : f.logs ++ record { id = id; device = device; instance = instance } ∷ [] ≡ g.logs = ap (λ (x : FreshLogsAs). x.logs) (ok_same _ g h) in
        let own : is_fresh_log device instance (record { id = id; device = device; instance = instance } ∷ []) ≡ true =
        ap (λ (b : Bool). (b && (instance == instance)) || false) (eq-eqb device device refl) ∙ ap (λ (b : Bool). b || false) (eq-eqb instance instance refl) in (
          λ d i some. sym (ap (λ (l : List FreshLog). is_fresh_log d i l) same)
              ∙ any_left (λ (l : FreshLog). (l.device == d) && (l.instance == i)) f.logs (record { id = id; device = device; instance = instance } ∷ []) some,
          sym (ap (λ (l : List FreshLog). has_log device instance logs || is_fresh_log device instance l) same)
              ∙ ap (λ (b : Bool). has_log device instance logs || b)
              (any_right (λ (l : FreshLog). (l.device == device) && (l.instance == instance)) f.logs (record { id = id; device = device; instance = instance } ∷ []) own)
              ∙ or_right (has_log device instance logs),
        )

    by : (b : Bool) → (has_log device instance logs || is_fresh_log device instance f.logs) ≡ b
        → (if b then Ok f else log_added f device instance (id_at f.next)) ≡ Ok g → Keeps f g × IsThere logs device instance g
    by true there h = (
      λ d i some. sym (ap (λ (x : FreshLogsAs). is_fresh_log d i x.logs) (ok_same f g h)) ∙ some,
      sym (ap (λ (x : FreshLogsAs). has_log device instance logs || is_fresh_log device instance x.logs) (ok_same f g h)) ∙ there,
    )
    by false there h = added (id_at f.next) h

instances_come : (logs : List LogRow) (device : ℕ) (f g : FreshLogsAs) (instances : List ℕ) → with_instances logs device f instances ≡ Ok g
    → Keeps f g × ((instance : ℕ) → list_has instances instance ≡ true → IsThere logs device instance g)
instances_come logs device f g [] is = (λ d i some. sym (ap (λ (x : FreshLogsAs). is_fresh_log d i x.logs) (ok_same f g is)) ∙ some, λ i has. absurd (false≢true has))
instances_come logs device f g (one ∷ others) is = by (with_log logs device f one) refl is (λ h. instances_come logs device h g others)
  where
    by : (r : Result FreshLogsAs NamingFault) → with_log logs device f one ≡ r → (r >>= λ h. with_instances logs device h others) ≡ Ok g
        → ((h : FreshLogsAs) → with_instances logs device h others ≡ Ok g → Keeps h g × ((instance : ℕ) → list_has others instance ≡ true → IsThere logs device instance g))
        → Keeps f g × ((instance : ℕ) → list_has (one ∷ others) instance ≡ true → IsThere logs device instance g)
    by (Err e) was h rest = cc
    by (Ok x) was h rest =
        let first = log_comes logs device f x one was in
        let behind = rest x h in
        (λ d i some. behind.0 d i (first.0 d i some), λ i has. at i (one == i) refl has (keep_there logs device one x g behind.0 first.1) (behind.1 i))
      where
        at : (i : ℕ) (b : Bool) → (one == i) ≡ b → (b || list_has others i) ≡ true → IsThere logs device one g → (list_has others i ≡ true → IsThere logs device i g) → IsThere logs device i g
        at i true same has there more = subst (λ (k : ℕ). IsThere logs device k g) (eqb-true one i same) there
        at i false same has there more = more has

choice_comes : (logs : List LogRow) (o : Option ℕ) (f g : FreshLogsAs) (choice : Choice) → with_choice logs o f choice ≡ Ok g
    → Keeps f g × ((id instance : ℕ) → o ≡ Some id → one_of instance choice ≡ true → IsThere logs id instance g)
choice_comes logs o f g Whole is = (λ d i some. sym (ap (λ (x : FreshLogsAs). is_fresh_log d i x.logs) (ok_same f g is)) ∙ some, λ id i at has. absurd (false≢true has))
choice_comes logs None f g (Logs instances) is = (λ d i some. sym (ap (λ (x : FreshLogsAs). is_fresh_log d i x.logs) (ok_same f g is)) ∙ some, λ id i at has. cc)
choice_comes logs (Some device) f g (Logs instances) is =
    let come = instances_come logs device f g instances.items is in
    (come.0, λ id i at has. subst (λ (k : ℕ). IsThere logs k i g) (some_same device id at) (come.1 i has))
  where
    some_same : (a b : ℕ) → Some a ≡ Some b → a ≡ b
    some_same a b is = cc

all_come : (devices : List DeviceRow) (fresh : List DeviceAs) (logs : List LogRow) (f g : FreshLogsAs) (ns : List Named) → with_logs devices fresh logs f ns ≡ Ok g
    → Keeps f g × AllByRecursion (λ n. (id instance : ℕ) → id_of n devices fresh ≡ Some id → has_instance instance n ≡ true → IsThere logs id instance g) ns
all_come devices fresh logs f g [] is = (λ d i some. sym (ap (λ (x : FreshLogsAs). is_fresh_log d i x.logs) (ok_same f g is)) ∙ some, tt)
all_come devices fresh logs f g (n ∷ ns) is = by (with_choice logs (id_of n devices fresh) f n.choice) refl is (λ h. all_come devices fresh logs h g ns)
  where
    by : (r : Result FreshLogsAs NamingFault) → with_choice logs (id_of n devices fresh) f n.choice ≡ r → (r >>= λ h. with_logs devices fresh logs h ns) ≡ Ok g
        → ((h : FreshLogsAs) → with_logs devices fresh logs h ns ≡ Ok g
        → Keeps h g × AllByRecursion (λ m. (id instance : ℕ) → id_of m devices fresh ≡ Some id → has_instance instance m ≡ true → IsThere logs id instance g) ns)
        → Keeps f g × AllByRecursion (λ m. (id instance : ℕ) → id_of m devices fresh ≡ Some id → has_instance instance m ≡ true → IsThere logs id instance g) (n ∷ ns)
    by (Err e) was h rest = cc
    by (Ok x) was h rest =
        let first = choice_comes logs (id_of n devices fresh) f x n.choice was in
        let behind = rest x h in
        (λ d i some. behind.0 d i (first.0 d i some), (λ id i at has. keep_there logs id i x g behind.0 (first.1 id i at has), behind.1))

named_there : (s : Standing) (named : List Named) (fresh : List DeviceAs) (g : FreshLogsAs) (n : Named) (id instance : ℕ)
    → with_logs s.devices.items fresh s.logs.items (record { logs = []; next = s.next_log }) named ≡ Ok g
    → Contains named n → has_instance instance n ≡ true → id_of n s.devices.items fresh ≡ Some id → IsThere s.logs.items id instance g
named_there s named fresh g n id instance is there has at =
    All-contains (λ (m : Named). (k i : ℕ) → id_of m s.devices.items fresh ≡ Some k → has_instance i m ≡ true → IsThere s.logs.items k i g) named n
    (All-from_recursion _ named (all_come s.devices.items fresh s.logs.items (record { logs = []; next = s.next_log }) g named is).1) there id instance at has

-- ---- they aren't stopped

abbrev asks : (id instance : ℕ) → LogNow → Bool
asks id instance l = (l.device == id) && ((l.instance == instance) && not l.stopped)

fresh_goes : (id instance : ℕ) (l : FreshLog) → ((l.device == id) && (l.instance == instance)) ≡ true → asks id instance (fresh_after l) ≡ true
fresh_goes id instance l is = ap (λ (b : Bool). (l.device == id) && b) (and_true (l.instance == instance)) ∙ is
  where
    and_true : (b : Bool) → (b && true) ≡ b
    and_true true = refl
    and_true false = refl

pub fresh_asked : FreshLogsAreAsked
fresh_asked s named f g n id instance is there has at none =
    let or : IsThere s.logs.items id instance g = named_there s named f.devices g n id instance is there has at in
    let new : is_fresh_log id instance g.logs ≡ true = sym (ap (λ (b : Bool). b || is_fresh_log id instance g.logs) none) ∙ or in
    any_right (asks id instance) (map (log_after named s.devices.items) s.logs.items) (map fresh_after g.logs)
    (any_mapped (λ (l : FreshLog). (l.device == id) && (l.instance == instance)) (asks id instance) fresh_after (fresh_goes id instance) g.logs new)

-- ---- of those on record

abbrev some_row : DeviceRow → Option DeviceRow
some_row d = Some d

row_same : (x y : DeviceRow) → some_row x ≡ some_row y → x ≡ y
row_same x y is = cc

-- one that is found passes
found_passes : (p : DeviceRow → Bool) (xs : List DeviceRow) (x : DeviceRow) → find p xs ≡ Some x → p x ≡ true
found_passes p [] x is = cc
found_passes p (y ∷ ys) x is = by (p y) refl is (found_passes p ys x)
  where
    by : (b : Bool) → p y ≡ b → (if b then Some y else find p ys) ≡ Some x → (find p ys ≡ Some x → p x ≡ true) → p x ≡ true
    by true passes is rest = sym (ap p (row_same y x is)) ∙ passes
    by false fails is rest = rest is

found_there : (p q : DeviceRow → Bool) (xs : List DeviceRow) (x : DeviceRow) → find p xs ≡ Some x → q x ≡ true → filter q xs ≡ [] → ⊥
found_there p q [] x is passes none = cc
found_there p q (y ∷ ys) x is passes none = by (p y) (q y) refl is none (found_there p q ys x)
  where
    by : (a b : Bool) → q y ≡ b → (if a then Some y else find p ys) ≡ Some x → (if b then y ∷ filter q ys else filter q ys) ≡ []
        → (find p ys ≡ Some x → q x ≡ true → filter q ys ≡ [] → ⊥) → ⊥
    by a true at is none rest = cc
    by true false at is none rest = false≢true (sym at ∙ ap q (row_same y x is) ∙ passes)
    by false false at is none rest = rest is passes none

none_behind : (y : DeviceRow) (ys : List DeviceRow) → length (y ∷ ys) ≤ 1 → ys ≡ []
none_behind y [] few = refl
none_behind y (z ∷ zs) few = absurd (omega (arith, few))

-- where one at most passes, the one that does is found
alone : (p q : DeviceRow → Bool) (xs : List DeviceRow) (x : DeviceRow) → find p xs ≡ Some x → q x ≡ true → length (filter q xs) ≤ 1 → find q xs ≡ Some x
alone p q [] x is passes few = cc
alone p q (y ∷ ys) x is passes few = by (p y) (q y) refl is few (alone p q ys x) (found_there p q ys x)
  where
    by : (a b : Bool) → q y ≡ b → (if a then Some y else find p ys) ≡ Some x → length (if b then y ∷ filter q ys else filter q ys) ≤ 1
        → (find p ys ≡ Some x → q x ≡ true → length (filter q ys) ≤ 1 → find q ys ≡ Some x) → (find p ys ≡ Some x → q x ≡ true → filter q ys ≡ [] → ⊥)
        → (if q y then Some y else find q ys) ≡ Some x
    by true b at is few rest other = cond-true (q y) (Some y) (find q ys) (ap q (row_same y x is) ∙ passes) ∙ is
    by false true at is few rest other = absurd (other is passes (none_behind y (filter q ys) few))
    by false false at is few rest other = cond-false (q y) (Some y) (find q ys) at ∙ rest is passes few

-- the device at a place, by its id
device_at : (n : Named) (devices : List DeviceRow) (id : ℕ) → HaveOwnIds devices → id_in n devices ≡ Some id
    → (d : DeviceRow) × (is_at n (device_as d) ≡ true) × (device_of id devices ≡ Some d)
device_at n devices id own is = by (find (λ (d : DeviceRow). is_at n (device_as d)) devices) refl is
  where
    some_same : (a b : ℕ) → Some a ≡ Some b → a ≡ b
    some_same a b is = cc

    by : (o : Option DeviceRow) → find (λ (d : DeviceRow). is_at n (device_as d)) devices ≡ o → option_map (λ (d : DeviceRow). d.id) o ≡ Some id
        → (d : DeviceRow) × (is_at n (device_as d) ≡ true) × (device_of id devices ≡ Some d)
    by None found at = cc
    by (Some d) found at = (
      d,
      found_passes (λ (e : DeviceRow). is_at n (device_as e)) devices d found,
      alone (λ (e : DeviceRow). is_at n (device_as e)) (λ (e : DeviceRow). e.id == id) devices d found (eq-eqb d.id id (some_same d.id id at)) (own id),
    )

goes_on : (st : Bool) → not (st && not (st && true)) ≡ true
goes_on true = refl
goes_on false = refl

both : (a b : Bool) → (a && b) ≡ true → (a ≡ true) × (b ≡ true)
both true true is = (refl, refl)
both true false is = absurd (false≢true is)
both false b is = absurd (false≢true is)

known_goes : (named : List Named) (devices : List DeviceRow) (n : Named) (d : DeviceRow) (id instance : ℕ) → Contains named n → has_instance instance n ≡ true
    → is_at n (device_as d) ≡ true → device_of id devices ≡ Some d → (l : LogRow) → ((l.device == id) && (l.instance == instance)) ≡ true
    → asks id instance (log_after named devices l) ≡ true
known_goes named devices n d id instance there has at of l is =
    let two = both (l.device == id) (l.instance == instance) is in
    let its : device_of l.device devices ≡ Some d = ap (λ (k : ℕ). device_of k devices) (eqb-true l.device id two.0) ∙ of in
    let own : has_instance l.instance n ≡ true = ap (λ (k : ℕ). has_instance k n) (eqb-true l.instance instance two.1) ∙ has in
    let names : names_log named (device_as d) l.instance ≡ true =
    any_there (λ (m : Named). is_at m (device_as d) && (has_instance l.instance m || (is_whole m && d.stopped))) named n there
    (ap (λ (b : Bool). b && (has_instance l.instance n || (is_whole n && d.stopped))) at ∙ ap (λ (b : Bool). b || (is_whole n && d.stopped)) own) in
    let again : asks_again named devices l ≡ (l.stopped && true) = ap (asks_again_of named l) its ∙ ap (λ (b : Bool). l.stopped && b) names in
    ap (λ (b : Bool). b && ((l.instance == instance) && not (l.stopped && not (asks_again named devices l)))) two.0
    ∙ ap (λ (b : Bool). b && not (l.stopped && not (asks_again named devices l))) two.1
    ∙ ap (λ (b : Bool). not (l.stopped && not b)) again
    ∙ goes_on l.stopped

pub named_asked : NamedLogsAreAsked
named_asked s named f g n id instance own is there has at =
    by (has_log id instance s.logs.items) refl
    (named_there s named f.devices g n id instance is there has (ap (λ (o : Option ℕ). or_else o (fresh_id_in n f.devices)) at))
    (device_at n s.devices.items id own at)
  where
    by : (b : Bool) → has_log id instance s.logs.items ≡ b → (b || is_fresh_log id instance g.logs) ≡ true
        → ((d : DeviceRow) × (is_at n (device_as d) ≡ true) × (device_of id s.devices.items ≡ Some d))
        → list_any (asks id instance) (map (log_after named s.devices.items) s.logs.items ++ map fresh_after g.logs) ≡ true
    by true known or d =
        any_left (asks id instance) (map (log_after named s.devices.items) s.logs.items) (map fresh_after g.logs)
        (any_mapped (λ (l : LogRow). (l.device == id) && (l.instance == instance)) (asks id instance) (log_after named s.devices.items)
        (known_goes named s.devices.items n d.0 id instance there has d.1 d.2) s.logs.items known)
    by false none or d =
        any_right (asks id instance) (map (log_after named s.devices.items) s.logs.items) (map fresh_after g.logs)
        (any_mapped (λ (l : FreshLog). (l.device == id) && (l.instance == instance)) (asks id instance) fresh_after (fresh_goes id instance) g.logs or)
