-- What words name is polled, and the rest stays.
use Rattle.std.proofs.Common.{◌≡◌, ℕ, ◌==◌, ◌++◌, ◌&&◌, ◌||◌, not, Bool, true, false, if◌then◌else◌, List, [], ◌∷◌, map, Option, None, Some, Result, Ok, Err, refl, sym, ap, subst, ◌∙◌}
use Rattle.std.specs.List.{AllByRecursion, Contains, list_any}
use Rattle.std.specs.Str.{bytes_eq}
use Rattle.std.specs.String.{string_bytes}
use Rattle.std.proofs.lemmas.Bool.{cond-false, cond-true, eq-eqb, false≢true}
use Rattle.std.proofs.lemmas.List.Elements.{All-contains, All-contains_itself, All-from_recursion, recursion_from_All}
use Rattle.std.proofs.lemmas.List.Folds.{list_any-append, list_any_at}
use Rattle.std.proofs.lemmas.Slice.Eq.{bytes_eq-Decides}
use Rattle.bac_archive.specs.declared.row.DeviceRow.{DeviceRow}
use Rattle.bac_archive.specs.declared.row.LogRow.{LogRow}
use Rattle.bac_device_poller.specs.Rows.{DeviceAs, device_as, device_put}
use Rattle.bac_plan.specs.Changes.{asks_again_of, changes_device, device_change, device_of, log_change, log_put_again, named_as, names_device, names_log, names_whole}
use Rattle.bac_plan.specs.Fresh.{FreshDevicesAs, ◌>>=◌, device_added, fresh_device, has_place, id_at, is_fresh_at, new_device, with_device, with_devices}
use Rattle.bac_plan.specs.Named.{has_instance, is_at, is_whole}
use Rattle.bac_plan.specs.NamingLaws.{NamedArePolled, OthersStay, device_after}
use Rattle.bac_plan.specs.declared.fault.NamingFault.{NamingFault}
use Rattle.bac_plan.specs.declared.named.Named.{Named}

-- ---- tests of any

pub any_weaker : {X : Type 0} (p q : X → Bool) → ((x : X) → p x ≡ false → q x ≡ false) → (xs : List X) → list_any p xs ≡ false → list_any q xs ≡ false
any_weaker p q less [] none = refl
any_weaker p q less (x ∷ xs) none = by (p x) refl none (any_weaker p q less xs)
  where
    by : (b : Bool) → p x ≡ b → (b || list_any p xs) ≡ false → (list_any p xs ≡ false → list_any q xs ≡ false) → (q x || list_any q xs) ≡ false
    by true is none rest = absurd (false≢true (sym none))
    by false is none rest = ap (λ (c : Bool). c || list_any q xs) (less x is) ∙ rest none

pub any_mapped : {X Y : Type 0} (p : X → Bool) (q : Y → Bool) (f : X → Y) → ((x : X) → p x ≡ true → q (f x) ≡ true) → (xs : List X) → list_any p xs ≡ true → list_any q (map f xs) ≡ true
any_mapped p q f more [] some = absurd (false≢true some)
any_mapped p q f more (x ∷ xs) some = by (p x) refl some (any_mapped p q f more xs)
  where
    or_true : (b : Bool) → (b || true) ≡ true
    or_true true = refl
    or_true false = refl

    by : (b : Bool) → p x ≡ b → (b || list_any p xs) ≡ true → (list_any p xs ≡ true → list_any q (map f xs) ≡ true) → (q (f x) || list_any q (map f xs)) ≡ true
    by true is some rest = ap (λ (c : Bool). c || list_any q (map f xs)) (more x is)
    by false is some rest = ap (λ (c : Bool). q (f x) || c) (rest some) ∙ or_true (q (f x))

pub any_there : {X : Type 0} (p : X → Bool) (xs : List X) (x : X) → Contains xs x → p x ≡ true → list_any p xs ≡ true
any_there p xs x there is = list_any_at p xs there.0 x there.1 (ap p there.2 ∙ is)

pub or_right : (b : Bool) → (b || true) ≡ true
or_right true = refl
or_right false = refl

pub any_left : {X : Type 0} (p : X → Bool) (xs ys : List X) → list_any p xs ≡ true → list_any p (xs ++ ys) ≡ true
any_left p xs ys is = list_any-append p xs ys ∙ ap (λ (b : Bool). b || list_any p ys) is

pub any_right : {X : Type 0} (p : X → Bool) (xs ys : List X) → list_any p ys ≡ true → list_any p (xs ++ ys) ≡ true
any_right p xs ys is = list_any-append p xs ys ∙ ap (λ (b : Bool). list_any p xs || b) is ∙ or_right (list_any p xs)

-- ---- the rest stays

pub and_none : (b : Bool) → (b && false) ≡ false
and_none true = refl
and_none false = refl

no_change : (named : List Named) (d : DeviceAs) → names_device named d ≡ false → device_change named d ≡ []
no_change named d none =
    let whole : names_whole named d ≡ false = any_weaker (λ n. is_at n d) (λ n. is_at n d && is_whole n) (λ n is. ap (λ (b : Bool). b && is_whole n) is) named none in
    cond-false (changes_device named d) (device_put (named_as (names_whole named d) d) ∷ []) []
    (ap (λ (b : Bool). (d.stopped && b) || (names_whole named d && not d.whole)) none
    ∙ ap (λ (b : Bool). (d.stopped && false) || (b && not d.whole)) whole
    ∙ ap (λ (b : Bool). b || (false && not d.whole)) (and_none d.stopped))

no_log : (named : List Named) (d : DeviceAs) (instance : ℕ) → names_device named d ≡ false → names_log named d instance ≡ false
no_log named d instance none =
    any_weaker (λ n. is_at n d) (λ n. is_at n d && (has_instance instance n || (is_whole n && d.stopped)))
    (λ n is. ap (λ (b : Bool). b && (has_instance instance n || (is_whole n && d.stopped))) is) named none

no_log_change : (named : List Named) (devices : List DeviceRow) (d : DeviceRow) (l : LogRow) → device_of l.device devices ≡ Some d → names_log named (device_as d) l.instance ≡ false
    → log_change named devices l ≡ []
no_log_change named devices d l is none =
    cond-false (asks_again_of named l (device_of l.device devices)) (log_put_again false l ∷ []) []
    (ap (asks_again_of named l) is ∙ ap (λ (b : Bool). l.stopped && b) none ∙ and_none l.stopped)

pub others_stay : OthersStay
others_stay s named d = (no_change named (device_as d), λ l is none. no_log_change named s.devices.items d l is none, no_log named (device_as d))

-- ---- what is named is polled

-- a device is as words name it
abbrev is_named_as : Named → DeviceAs → Bool
is_named_as n d = is_at n d && (not d.stopped && (d.whole || not (is_whole n)))

whole_then : (wh nw isw : Bool) → (isw ≡ true → nw ≡ true) → ((wh || nw) || not isw) ≡ true
whole_then true nw isw h = refl
whole_then false true isw h = refl
whole_then false false false h = refl
whole_then false false true h = absurd (false≢true (h refl))

same_then : (st wh nw isw : Bool) → ((st && true) || (nw && not wh)) ≡ false → (isw ≡ true → nw ≡ true) → (not st && (wh || not isw)) ≡ true
same_then true wh nw isw e h = absurd (false≢true (sym e))
same_then false true nw isw e h = refl
same_then false false false false e h = refl
same_then false false false true e h = absurd (false≢true (h refl))
same_then false false true isw e h = absurd (false≢true (sym e))

pub whole_there : (named : List Named) (n : Named) (d : DeviceAs) → Contains named n → is_at n d ≡ true → is_whole n ≡ true → names_whole named d ≡ true
whole_there named n d there at whole =
    any_there (λ m. is_at m d && is_whole m) named n there (ap (λ (b : Bool). b && is_whole n) at ∙ whole)

known_as : (named : List Named) (n : Named) (d : DeviceAs) → Contains named n → is_at n d ≡ true → is_named_as n (device_after named d) ≡ true
known_as named n d there at = by (changes_device named d) refl
  where
    nd : names_device named d ≡ true
    nd = any_there (λ m. is_at m d) named n there at

    by : (b : Bool) → changes_device named d ≡ b → is_named_as n (device_after named d) ≡ true
    by true is =
        ap (λ (e : DeviceAs). is_named_as n e) (cond-true (changes_device named d) (named_as (names_whole named d) d) d is)
        ∙ ap (λ (b : Bool). b && ((d.whole || names_whole named d) || not (is_whole n))) at
        ∙ whole_then d.whole (names_whole named d) (is_whole n) (whole_there named n d there at)
    by false is =
        ap (λ (e : DeviceAs). is_named_as n e) (cond-false (changes_device named d) (named_as (names_whole named d) d) d is)
        ∙ ap (λ (b : Bool). b && (not d.stopped && (d.whole || not (is_whole n)))) at
        ∙ same_then d.stopped d.whole (names_whole named d) (is_whole n)
        (ap (λ (b : Bool). (d.stopped && b) || (names_whole named d && not d.whole)) (sym nd) ∙ is) (whole_there named n d there at)

-- ---- new devices

-- a new one isn't stopped, and is kept whole if it is named so
pub record IsFine (named : List Named) (d : DeviceAs) : Type 0 where
  pub goes : d.stopped ≡ false
  pub whole : d.whole ≡ names_whole named d

fine_as : (named : List Named) (n : Named) (d : DeviceAs) → Contains named n → IsFine named d → is_at n d ≡ true → is_named_as n d ≡ true
fine_as named n d there fine at =
    ap (λ (b : Bool). b && (not d.stopped && (d.whole || not (is_whole n)))) at
    ∙ ap (λ (b : Bool). not b && (d.whole || not (is_whole n))) fine.goes
    ∙ ap (λ (b : Bool). b || not (is_whole n)) fine.whole
    ∙ whole_then false (names_whole named d) (is_whole n) (whole_there named n d there at)

fine_any : (named : List Named) (n : Named) → Contains named n → (ds : List DeviceAs) → AllByRecursion (IsFine named) ds → is_fresh_at n ds ≡ true → list_any (is_named_as n) ds ≡ true
fine_any named n there [] all some = absurd (false≢true some)
fine_any named n there (d ∷ ds) all some = by (is_at n d) refl some (fine_any named n there ds all.1)
  where
    by : (b : Bool) → is_at n d ≡ b → (b || is_fresh_at n ds) ≡ true → (is_fresh_at n ds ≡ true → list_any (is_named_as n) ds ≡ true) → (is_named_as n d || list_any (is_named_as n) ds) ≡ true
    by true is some rest = ap (λ (c : Bool). c || list_any (is_named_as n) ds) (fine_as named n d there all.0 is)
    by false is some rest = ap (λ (c : Bool). is_named_as n d || c) (rest some) ∙ or_right (is_named_as n d)

pub same_bytes : (xs : List ℕ) → bytes_eq xs xs ≡ true
same_bytes xs = (bytes_eq-Decides xs xs).1 refl

own_place : (n : Named) (id : ℕ) → is_at n (new_device id n) ≡ true
own_place n id =
    ap (λ (b : Bool). b && (n.dnet == n.dnet) && bytes_eq (string_bytes n.dadr) (string_bytes n.dadr)) (same_bytes (string_bytes n.address))
    ∙ ap (λ (b : Bool). (true && b) && bytes_eq (string_bytes n.dadr) (string_bytes n.dadr)) (eq-eqb n.dnet n.dnet refl)
    ∙ same_bytes (string_bytes n.dadr)

fine_new : (named : List Named) (id : ℕ) (n : Named) → IsFine named (fresh_device named id n)
fine_new named id n = record { goes = refl; whole = refl }

fine_more : (named : List Named) (ds : List DeviceAs) (d : DeviceAs) → AllByRecursion (IsFine named) ds → IsFine named d → AllByRecursion (IsFine named) (ds ++ d ∷ [])
fine_more named [] d all one = (one, tt)
fine_more named (e ∷ ds) d all one = (all.0, fine_more named ds d all.1 one)

-- what comes of one more that is named: it is there as it is named, those that were fine are, and none is left out
pub record Comes (named : List Named) (devices : List DeviceRow) (f g : FreshDevicesAs) (n : Named) : Type 0 where
  pub fine : AllByRecursion (IsFine named) g.devices
  pub keeps : (m : Named) → list_any (is_named_as m) f.devices ≡ true → list_any (is_named_as m) g.devices ≡ true
  pub there : has_place n devices ≡ false → list_any (is_named_as n) g.devices ≡ true

abbrev made : FreshDevicesAs → Result FreshDevicesAs NamingFault
made f = Ok f

ok_same : (f g : FreshDevicesAs) → made f ≡ made g → f ≡ g
ok_same f g is = cc

comes_added : (named : List Named) (devices : List DeviceRow) (f g : FreshDevicesAs) (n : Named) (o : Option ℕ) → Contains named n → AllByRecursion (IsFine named) f.devices
    → device_added named f n o ≡ Ok g → Comes named devices f g n
comes_added named devices f g n None there all is = cc
comes_added named devices f g n (Some id) there all is =
    let same : f.devices ++ fresh_device named id n ∷ [] ≡ g.devices = ap (λ (x : FreshDevicesAs). x.devices) (ok_same _ g is) in
    record {
      fine = subst (AllByRecursion (IsFine named)) same (fine_more named f.devices (fresh_device named id n) all (fine_new named id n));
      keeps = λ m some. sym (ap (λ (l : List DeviceAs). list_any (is_named_as m) l) same) ∙ any_left (is_named_as m) f.devices (fresh_device named id n ∷ []) some;
      there = λ _. sym (ap (λ (l : List DeviceAs). list_any (is_named_as n) l) same)
          ∙ any_right (is_named_as n) f.devices (fresh_device named id n ∷ [])
          (ap (λ (b : Bool). b || false) (fine_as named n (fresh_device named id n) there (fine_new named id n) (own_place n id)));
    }

comes_of : (named : List Named) (devices : List DeviceRow) (f g : FreshDevicesAs) (n : Named) → Contains named n → AllByRecursion (IsFine named) f.devices
    → with_device named devices f n ≡ Ok g → Comes named devices f g n
comes_of named devices f g n there all is = by (has_place n devices) (is_fresh_at n f.devices) refl refl is
  where
    stays : (same : f ≡ g) → (has_place n devices ≡ false → is_fresh_at n f.devices ≡ true) → Comes named devices f g n
    stays same known = record {
      fine = subst (λ (x : FreshDevicesAs). AllByRecursion (IsFine named) x.devices) same all;
      keeps = λ m some. sym (ap (λ (x : FreshDevicesAs). list_any (is_named_as m) x.devices) same) ∙ some;
      there = λ none. sym (ap (λ (x : FreshDevicesAs). list_any (is_named_as n) x.devices) same) ∙ fine_any named n there f.devices all (known none);
    }

    by : (a b : Bool) → has_place n devices ≡ a → is_fresh_at n f.devices ≡ b → (if a || b then Ok f else device_added named f n (id_at f.next)) ≡ Ok g → Comes named devices f g n
    by true b known fresh is = stays (ok_same f g is) (λ none. absurd (false≢true (sym none ∙ known)))
    by false true known fresh is = stays (ok_same f g is) (λ _. fresh)
    by false false known fresh is = comes_added named devices f g n (id_at f.next) there all is

-- of all of them
all_come : (named : List Named) (devices : List DeviceRow) (f g : FreshDevicesAs) (ns : List Named) → AllByRecursion (Contains named) ns → AllByRecursion (IsFine named) f.devices
    → with_devices named devices f ns ≡ Ok g
    → ((m : Named) → list_any (is_named_as m) f.devices ≡ true → list_any (is_named_as m) g.devices ≡ true)
    × AllByRecursion (λ n. has_place n devices ≡ false → list_any (is_named_as n) g.devices ≡ true) ns
all_come named devices f g [] there all is = (λ m some. sym (ap (λ (x : FreshDevicesAs). list_any (is_named_as m) x.devices) (ok_same f g is)) ∙ some, tt)
all_come named devices f g (n ∷ ns) there all is = by (with_device named devices f n) refl is (λ h. all_come named devices h g ns there.1)
  where
    by : (r : Result FreshDevicesAs NamingFault) → with_device named devices f n ≡ r → (r >>= λ h. with_devices named devices h ns) ≡ Ok g
        → ((h : FreshDevicesAs) → AllByRecursion (IsFine named) h.devices → with_devices named devices h ns ≡ Ok g
        → ((m : Named) → list_any (is_named_as m) h.devices ≡ true → list_any (is_named_as m) g.devices ≡ true)
        × AllByRecursion (λ m. has_place m devices ≡ false → list_any (is_named_as m) g.devices ≡ true) ns)
        → ((m : Named) → list_any (is_named_as m) f.devices ≡ true → list_any (is_named_as m) g.devices ≡ true)
        × AllByRecursion (λ m. has_place m devices ≡ false → list_any (is_named_as m) g.devices ≡ true) (n ∷ ns)
    by (Err e) was is rest = cc
    by (Ok h) was is rest =
        let one = comes_of named devices f h n there.0 all was in
        let others = rest h one.fine is in
        (λ m some. others.0 m (one.keeps m some), (λ none. others.0 n (one.there none), others.1))

pub named_polled : NamedArePolled
named_polled s named f n is there = by (has_place n s.devices.items) refl
  where
    by : (b : Bool) → has_place n s.devices.items ≡ b → list_any (is_named_as n) (map (λ (d : DeviceRow). device_after named (device_as d)) s.devices.items ++ f.devices) ≡ true
    by true known =
        any_left (is_named_as n) (map (λ (d : DeviceRow). device_after named (device_as d)) s.devices.items) f.devices
        (any_mapped (λ (d : DeviceRow). is_at n (device_as d)) (is_named_as n) (λ (d : DeviceRow). device_after named (device_as d))
        (λ d at. known_as named n (device_as d) there at) s.devices.items known)
    by false none =
        any_right (is_named_as n) (map (λ (d : DeviceRow). device_after named (device_as d)) s.devices.items) f.devices
        (All-contains (λ (m : Named). has_place m s.devices.items ≡ false → list_any (is_named_as m) f.devices ≡ true) named n
        (All-from_recursion _ named
        ((all_come named s.devices.items (record { devices = []; next = s.next_device }) f named (recursion_from_All (Contains named) named (All-contains_itself named)) tt is).1)) there none)
