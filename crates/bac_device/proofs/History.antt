-- Accepted writes stand, and refusals change nothing.
use Rattle.std.proofs.Common.{◌≡◌, ◌==◌, refl, ap, sym, subst, ◌∙◌, arith, ℕ, zero, suc, ◌-◌, ◌<◌, ◌≤◌, nat_lt, nat_le, Bool, true, false, not, ◌&&◌, ◌||◌, cond, List, [], ◌∷◌, length, slice_get, slice_set, Option, Some, None, Result, Ok, Err, inl, inr}
use Rattle.std.proofs.lemmas.Bool.Decides.{nat_tests}
use Rattle.std.specs.Map.{lookup, set_value}
use Rattle.std.specs.Option.{option_or}
use Rattle.bac_wire.specs.Primitive.{Primitive, Null, Boolean, Unsigned, Signed, Real, Double, Octets, Chars, Bits, Enumerated, Date, Time, Object, Id}
use Rattle.bac_wire.specs.Chain.{◌>>=◌}
use Rattle.std.proofs.lemmas.Bool.{eq-eqb}
use Rattle.std.proofs.lemmas.Option.{none-some, same_Some}
use Rattle.std.specs.Result.{result_ok}
use Rattle.bac_apdu.specs.Frame.{frame_at}
use Rattle.bac_apdu.specs.Apdu.{Apdu, Confirmed, Unconfirmed, Simple, Complex, SegmentAck, Error, Reject, Abort}
use Rattle.bac_apdu.specs.declared.reason.Reason.{Reason}
use Rattle.bac_device.proofs.Priorities.{write_prioritized}
use Rattle.bac_device.specs.Receiving.{ReceivedApdu}
use Rattle.bac_objects.specs.Chain.{or_fault}
use Rattle.bac_objects.specs.Command.{present}
use Rattle.bac_objects.specs.State.{State, is_id}
use Rattle.bac_apdu.specs.Service.WriteProperty.{PropertyWrite, write_property_at}
use Rattle.bac_objects.specs.Properties.{row, object_table, value_of}
use Rattle.bac_objects.specs.Reading.{read_of, values_octets}
use Rattle.bac_wire.specs.Stamp.{CivilTime}
use Rattle.bac_objects.specs.Writing.{priority_of, is_i32, setting_of, checked, command_written, object_written, is_device, write_of}
use Rattle.bac_objects.specs.declared.command.Command.{Command}
use Rattle.bac_objects.specs.declared.command.Range.{Range}
use Rattle.bac_objects.specs.declared.command.Range.TheVariants as range
use Rattle.bac_objects.specs.declared.command.Setting.{Setting}
use Rattle.bac_objects.specs.declared.command.Setting.TheVariants as setting
use Rattle.bac_objects.specs.declared.object.Body.{Body}
use Rattle.bac_objects.specs.declared.object.Body.TheVariants as body
use Rattle.bac_device.specs.Answer.{answer}
use Rattle.bac_device.specs.History.{heard_in, write_in_apdu, write_heard, is_done, write_asked, after, accepted, with_first, writes, set_to, last_at, with_slots, Stands}
use Rattle.bac_objects.specs.declared.fault.Fault.{Fault}
use Rattle.bac_objects.specs.declared.fault.Fault.TheVariants.{UnknownObject, WriteDenied, BadValue}
use Rattle.bac_objects.specs.declared.object.Object as object
use Rattle.bac_device.proofs.Told.{Told, told}

true_false : true ≡ false → ⊥
true_false e = cc

-- ---- refusals

pub refused : (d : State) (datagram : List ℕ) → is_done (answer d datagram).0 ≡ false → (answer d datagram).1 ≡ d
refused d datagram e = of (told d datagram)
  where
    of : Told d (answer d datagram) (write_asked datagram) → (answer d datagram).1 ≡ d
    of (inl t) = t.1
    of (inr t) = absurd (true_false (sym t.2 ∙ e))

pub no_write : (d : State) (datagram : List ℕ) → write_asked datagram ≡ None → (answer d datagram).1 ≡ d
no_write d datagram e = of (told d datagram)
  where
    gone : (b : Bool) (a : Option PropertyWrite) (w : PropertyWrite) → a ≡ None → cond b a None ≡ Some w → ⊥
    gone true a w e h = none-some w (sym e ∙ h)
    gone false a w e h = none-some w h

    of : Told d (answer d datagram) (write_asked datagram) → (answer d datagram).1 ≡ d
    of (inl t) = t.1
    of (inr t) = absurd (gone (is_done (answer d datagram).0) (write_asked datagram) t.0 e t.1)

-- ---- one write

pub same_id : (a b : Id) → is_id a b ≡ true → a ≡ b
same_id a b e =
    let kind : a.kind ≡ b.kind = grind (arith, nat_tests) in
    let instance : a.instance ≡ b.instance = grind (arith, nat_tests) in
    ap (λ (n : ℕ). let x : Id = record { kind = n; instance = a.instance } in x) kind ∙ ap (λ (n : ℕ). let x : Id = record { kind = b.kind; instance = n } in x) instance

pub apart : (a b k : Id) → is_id a b ≡ false → is_id b k ≡ true → is_id a k ≡ false
apart a b k e h = let same : b ≡ k = same_id b k h in rw (← same) e

nothing_there : {X : Type 0} (v : X) → (let none : Option X = None in none) ≡ Some v → ⊥
nothing_there v h = cc

module _ {K X : Type 0} (test other : K → Bool) where
  set_here : (b : Bool) (p : K × X) (es : List (K × X)) (v w : X) → test p.0 ≡ b → (lookup test es ≡ Some v → lookup test (set_value test es w) ≡ Some w)
      → cond b (Some p.1) (lookup test es) ≡ Some v → lookup test (cond b ((p.0, w) ∷ es) (p ∷ set_value test es w)) ≡ Some w
  set_here true p es v w e rest h = rw e refl
  set_here false p es v w e rest h = rw e (rest h)

  pub looked_same : (es : List (K × X)) (v w : X) → lookup test es ≡ Some v → lookup test (set_value test es w) ≡ Some w
  looked_same [] v w h = absurd (nothing_there v h)
  looked_same (p ∷ es) v w h = set_here (test p.0) p es v w refl (looked_same es v w) h

  set_there : (b : Bool) (p : K × X) (es : List (K × X)) (w : X) → test p.0 ≡ b → (test p.0 ≡ true → other p.0 ≡ false) → lookup other (set_value test es w) ≡ lookup other es
      → lookup other (cond b ((p.0, w) ∷ es) (p ∷ set_value test es w)) ≡ lookup other (p ∷ es)
  set_there true p es w e no_ rest = rw (no_ e) refl
  set_there false p es w e no_ rest = ap (λ (o : Option X). cond (other p.0) (Some p.1) o) rest

  pub looked_other : ((k : K) → test k ≡ true → other k ≡ false) → (es : List (K × X)) (w : X) → lookup other (set_value test es w) ≡ lookup other es
  looked_other no_ [] w = refl
  looked_other no_ (p ∷ es) w = set_there (test p.0) p es w refl (no_ p.0) (looked_other no_ es w)

abbrev written_slots : PropertyWrite → List (Option Setting) → List (Option Setting)
written_slots w slots = slice_set slots (priority_of w - 1) (set_to w.value)

-- what an accepted write did
pub record Wrote (d : State) (w : PropertyWrite) (new : State) : Type 0 where
  pub o : object.Object
  pub n : object.Object
  pub at : lookup (is_id w.object) d.objects ≡ Some o
  pub did : object_written d.clock w o ≡ Ok n
  pub is : new ≡ record d { objects = set_value (is_id w.object) d.objects n }

ok_same : {X : Type 0} (a b : X) → (let r : Result X Fault = Ok a in r) ≡ Ok b → a ≡ b
ok_same a b e = cc

err_ok : {X : Type 0} (f : Fault) (b : X) → (let r : Result X Fault = Err f in r) ≡ Ok b → ⊥
err_ok f b e = cc

set_some : (b : Bool) (v : Setting) (slot : Option Setting) → cond b (let r : Result (Option Setting) Fault = Ok (Some v) in r) (Err BadValue) ≡ Ok slot → slot ≡ Some v
set_some true v slot e = sym (ok_same (Some v) slot e)
set_some false v slot e = absurd (err_ok _ slot e)

set_is : (r : Range) (v : Primitive) (slot : Option Setting) → setting_of r v ≡ Ok slot → slot ≡ set_to v
set_is range.Binary Null slot e = sym (ok_same None slot e)
set_is range.Binary (Enumerated n) slot e = set_some (nat_lt n 2) (setting.Enumerated n) slot e
set_is range.Binary (Boolean b) slot e = absurd (err_ok _ slot e)
set_is range.Binary (Unsigned n) slot e = absurd (err_ok _ slot e)
set_is range.Binary (Signed z) slot e = absurd (err_ok _ slot e)
set_is range.Binary (Real octets) slot e = absurd (err_ok _ slot e)
set_is range.Binary (Double octets) slot e = absurd (err_ok _ slot e)
set_is range.Binary (Octets octets) slot e = absurd (err_ok _ slot e)
set_is range.Binary (Chars set octets) slot e = absurd (err_ok _ slot e)
set_is range.Binary (Bits bits) slot e = absurd (err_ok _ slot e)
set_is range.Binary (Date octets) slot e = absurd (err_ok _ slot e)
set_is range.Binary (Time octets) slot e = absurd (err_ok _ slot e)
set_is range.Binary (Object id) slot e = absurd (err_ok _ slot e)
set_is (range.Multistate states) Null slot e = sym (ok_same None slot e)
set_is (range.Multistate states) (Enumerated n) slot e = absurd (err_ok _ slot e)
set_is (range.Multistate states) (Boolean b) slot e = absurd (err_ok _ slot e)
set_is (range.Multistate states) (Unsigned n) slot e = set_some (nat_le 1 n && nat_le n states) (setting.Unsigned n) slot e
set_is (range.Multistate states) (Signed z) slot e = absurd (err_ok _ slot e)
set_is (range.Multistate states) (Real octets) slot e = absurd (err_ok _ slot e)
set_is (range.Multistate states) (Double octets) slot e = absurd (err_ok _ slot e)
set_is (range.Multistate states) (Octets octets) slot e = absurd (err_ok _ slot e)
set_is (range.Multistate states) (Chars set octets) slot e = absurd (err_ok _ slot e)
set_is (range.Multistate states) (Bits bits) slot e = absurd (err_ok _ slot e)
set_is (range.Multistate states) (Date octets) slot e = absurd (err_ok _ slot e)
set_is (range.Multistate states) (Time octets) slot e = absurd (err_ok _ slot e)
set_is (range.Multistate states) (Object id) slot e = absurd (err_ok _ slot e)
set_is range.Integer Null slot e = sym (ok_same None slot e)
set_is range.Integer (Enumerated n) slot e = absurd (err_ok _ slot e)
set_is range.Integer (Boolean b) slot e = absurd (err_ok _ slot e)
set_is range.Integer (Unsigned n) slot e = absurd (err_ok _ slot e)
set_is range.Integer (Signed z) slot e = set_some (is_i32 z) (setting.Signed z) slot e
set_is range.Integer (Real octets) slot e = absurd (err_ok _ slot e)
set_is range.Integer (Double octets) slot e = absurd (err_ok _ slot e)
set_is range.Integer (Octets octets) slot e = absurd (err_ok _ slot e)
set_is range.Integer (Chars set octets) slot e = absurd (err_ok _ slot e)
set_is range.Integer (Bits bits) slot e = absurd (err_ok _ slot e)
set_is range.Integer (Date octets) slot e = absurd (err_ok _ slot e)
set_is range.Integer (Time octets) slot e = absurd (err_ok _ slot e)
set_is range.Integer (Object id) slot e = absurd (err_ok _ slot e)

command_end : (w : PropertyWrite) (c new : Command) (b : Bool) (x : Result (Option Setting) Fault) → setting_of c.range w.value ≡ x
    → cond b (Err WriteDenied) (x >>= (λ slot. Ok (let n : Command = record c { slots = slice_set c.slots (priority_of w - 1) slot } in n))) ≡ Ok new → new ≡ record c { slots = written_slots w c.slots }
command_end w c new true x s e = absurd (err_ok _ new e)
command_end w c new false (Err f) s e = absurd (err_ok _ new e)
command_end w c new false (Ok slot) s e = sym (ok_same _ new e) ∙ ap (λ (v : Option Setting). let n : Command = record c { slots = slice_set c.slots (priority_of w - 1) v } in n) (set_is c.range w.value slot s)

object_end : (w : PropertyWrite) (o n : object.Object) (c : Command) (ok : Result (Unit {0}) Fault) (x : Result Command Fault) → command_written w c ≡ x
    → (ok >>= (λ u. x >>= (λ k. Ok (body.Command k)) >>= (λ b. Ok (let m : object.Object = record o { body = b } in m)))) ≡ Ok n → n ≡ with_slots o c (written_slots w c.slots)
object_end w o n c (Err f) x s e = absurd (err_ok _ n e)
object_end w o n c (Ok u) (Err f) s e = absurd (err_ok _ n e)
object_end w o n c (Ok u) (Ok new) s e =
    sym (ok_same _ n e) ∙ ap (λ (k : Command). let m : object.Object = record o { body = body.Command k } in m) (command_end w c new (not (w.property == 85) || (priority_of w == 6)) (setting_of c.range w.value) refl s)

-- of a commandable object
commanded_end : (clock : CivilTime) (w : PropertyWrite) (o n : object.Object) (c : Command) (slots : List (Option Setting)) → object_written clock w (with_slots o c slots) ≡ Ok n → n ≡ with_slots o c (written_slots w slots)
commanded_end clock w o n c slots e =
    object_end w o n (record c { slots = slots }) (checked (row w.property (object_table w.object (with_slots o c slots))) w.index) (command_written w (record c { slots = slots })) refl e

write_end : (d : State) (w : PropertyWrite) (new : State) (o : object.Object) (x : Result object.Object Fault) → lookup (is_id w.object) d.objects ≡ Some o → object_written d.clock w o ≡ x
    → (x >>= (λ n. Ok (let s : State = record d { objects = set_value (is_id w.object) d.objects n } in s))) ≡ Ok new → Wrote d w new
write_end d w new o (Err f) at s e = absurd (err_ok _ new e)
write_end d w new o (Ok n) at s e = record { o = o; n = n; at = at; did = s; is = sym (ok_same _ new e) }

wrote_at : (b : Bool) (l : Option object.Object) (f : Fault) (d : State) (w : PropertyWrite) (new : State) → lookup (is_id w.object) d.objects ≡ l
    → cond b (Err f) (or_fault l UnknownObject >>= (λ o. object_written d.clock w o >>= (λ n. Ok (let s : State = record d { objects = set_value (is_id w.object) d.objects n } in s)))) ≡ Ok new → Wrote d w new
wrote_at true l f d w new at e = absurd (err_ok _ new e)
wrote_at false None f d w new at e = absurd (err_ok _ new e)
wrote_at false (Some o) f d w new at e = write_end d w new o (object_written d.clock w o) at refl e

pub wrote : (d : State) (w : PropertyWrite) (new : State) → write_of d w ≡ Ok new → Wrote d w new
wrote d w new e = wrote_at (is_device d w.object) (lookup (is_id w.object) d.objects) _ d w new refl e

-- ---- slots after writes

abbrev slots_after : Id → List (Option Setting) → List PropertyWrite → List (Option Setting)
slots_after id slots [] = slots
slots_after id slots (w ∷ ws) = slots_after id (cond (is_id id w.object) (written_slots w slots) slots) ws

one_write : (b : Bool) (d : State) (w : PropertyWrite) (new : State) (id : Id) (o : object.Object) (c : Command) (slots : List (Option Setting)) → is_id id w.object ≡ b → Wrote d w new
    → lookup (is_id id) d.objects ≡ Some (with_slots o c slots) → lookup (is_id id) new.objects ≡ Some (with_slots o c (cond b (written_slots w slots) slots))
one_write true d w new id o c slots e t h =
    let same : w.object ≡ id = sym (same_id id w.object e) in
    let at : lookup (is_id id) d.objects ≡ Some t.o = subst (λ (x : Id). lookup (is_id x) d.objects ≡ Some t.o) same t.at in
    let found : t.o ≡ with_slots o c slots = same_Some t.o (with_slots o c slots) (sym at ∙ h) in
    let did : object_written d.clock w (with_slots o c slots) ≡ Ok t.n = subst (λ (x : object.Object). object_written d.clock w x ≡ Ok t.n) found t.did in
    let n : t.n ≡ with_slots o c (written_slots w slots) = commanded_end d.clock w o t.n c slots did in
    ap (λ (s : State). lookup (is_id id) s.objects) t.is
    ∙ ap (λ (x : Id). lookup (is_id id) (set_value (is_id x) d.objects t.n)) same
    ∙ ap (λ (x : object.Object). lookup (is_id id) (set_value (is_id id) d.objects x)) n
    ∙ looked_same (is_id id) (is_id id) d.objects (with_slots o c slots) (with_slots o c (written_slots w slots)) h
one_write false d w new id o c slots e t h =
    ap (λ (s : State). lookup (is_id id) s.objects) t.is
    ∙ looked_other (is_id w.object) (is_id id) (λ k y. apart id w.object k e y) d.objects t.n
    ∙ h

-- one datagram more, if the rest is known
next_write : (x : List ℕ) (xs : List (List ℕ)) (d : State) (id : Id) (o : object.Object) (c : Command) (slots : List (Option Setting)) → lookup (is_id id) d.objects ≡ Some (with_slots o c slots)
    → ((s : List (Option Setting)) → lookup (is_id id) (answer d x).1.objects ≡ Some (with_slots o c s) → lookup (is_id id) (after (answer d x).1 xs).objects ≡ Some (with_slots o c (slots_after id s (writes (answer d x).1 xs))))
    → Told d (answer d x) (write_asked x)
    → lookup (is_id id) (after d (x ∷ xs)).objects ≡ Some (with_slots o c (slots_after id slots (writes d (x ∷ xs))))
next_write x xs d id o c slots h rest (inl t) =
    rest slots (ap (λ (s : State). lookup (is_id id) s.objects) t.1 ∙ h)
    ∙ ap (λ (a : Option PropertyWrite). let r : Option object.Object = Some (with_slots o c (slots_after id slots (with_first a (writes (answer d x).1 xs)))) in r) (sym t.0)
next_write x xs d id o c slots h rest (inr t) =
    rest (cond (is_id id t.0.object) (written_slots t.0 slots) slots) (one_write (is_id id t.0.object) d t.0 (answer d x).1 id o c slots refl (wrote d t.0 (answer d x).1 t.3) h)
    ∙ ap (λ (a : Option PropertyWrite). let r : Option object.Object = Some (with_slots o c (slots_after id slots (with_first a (writes (answer d x).1 xs)))) in r) (sym t.1)

pub all_writes : (xs : List (List ℕ)) (d : State) (id : Id) (o : object.Object) (c : Command) (slots : List (Option Setting)) → lookup (is_id id) d.objects ≡ Some (with_slots o c slots)
    → lookup (is_id id) (after d xs).objects ≡ Some (with_slots o c (slots_after id slots (writes d xs)))
all_writes [] d id o c slots h = h
all_writes (x ∷ xs) d id o c slots h = next_write x xs d id o c slots h (λ s k. all_writes xs (answer d x).1 id o c s k) (told d x)

-- ---- the last of them

length_set : {X : Type 0} (xs : List X) (i : ℕ) (x : X) → length (slice_set xs i x) ≡ length xs
length_set [] i x = refl
length_set (y ∷ xs) zero x = refl
length_set (y ∷ xs) (suc i) x = ap suc (length_set xs i x)

get_same : {X : Type 0} (xs : List X) (i : ℕ) (x : X) → i < length xs → slice_get (slice_set xs i x) i ≡ Some x
get_same [] i x lt = absurd (omega (arith, lt))
get_same (y ∷ xs) zero x lt = refl
get_same (y ∷ xs) (suc i) x lt = get_same xs i x (omega (arith, lt))

get_other : {X : Type 0} (xs : List X) (i j : ℕ) (x : X) → (i ≡ j → ⊥) → slice_get (slice_set xs i x) j ≡ slice_get xs j
get_other [] i j x far = refl
get_other (y ∷ xs) zero zero x far = absurd (far refl)
get_other (y ∷ xs) zero (suc j) x far = refl
get_other (y ∷ xs) (suc i) zero x far = refl
get_other (y ∷ xs) (suc i) (suc j) x far = get_other xs i j x (λ e. far (ap suc e))

differ : (i j : ℕ) → (i == j) ≡ false → i ≡ j → ⊥
differ i j far e = grind (arith, nat_tests)

alike : (i j : ℕ) → (i == j) ≡ true → i ≡ j
alike i j e = grind (arith, nat_tests)

one_at : (b : Bool) (xs : List (Option Setting)) (i j : ℕ) (x : Option Setting) → (i == j) ≡ b → j < length xs → slice_get (slice_set xs i x) j ≡ option_or (cond b (Some x) None) (slice_get xs j)
one_at true xs i j x e lt = let same : i ≡ j = alike i j e in rw same (get_same xs j x lt)
one_at false xs i j x e lt = get_other xs i j x (differ i j e)

same_place : (i j : ℕ) → 1 ≤ i → 1 ≤ j → (i == j) ≡ (i - 1 == j - 1)
same_place i j low lower = at (i == j) refl
  where
    at : (b : Bool) → (i == j) ≡ b → (i == j) ≡ (i - 1 == j - 1)
    at true e = let s : i ≡ j = alike i j e in e ∙ sym (eq-eqb (i - 1) (j - 1) (ap (λ n. n - 1) s))
    at false e = let far : i ≡ j → ⊥ = differ i j e in grind (arith, nat_tests)

joined : (last : Option (Option Setting)) (mine b : Bool) (xs : List (Option Setting)) (i j : ℕ) (x : Option Setting) → (i == j) ≡ b → j < length xs
    → option_or last (slice_get (cond mine (slice_set xs i x) xs) j) ≡ option_or (option_or last (cond (mine && b) (Some x) None)) (slice_get xs j)
joined (Some y) mine b xs i j x e lt = refl
joined None true b xs i j x e lt = one_at b xs i j x e lt
joined None false b xs i j x e lt = refl

size_kept : (mine : Bool) (xs : List (Option Setting)) (i : ℕ) (x : Option Setting) → length (cond mine (slice_set xs i x) xs) ≡ length xs
size_kept true xs i x = length_set xs i x
size_kept false xs i x = refl

-- each has a priority from 1 on
abbrev AreWrites : List PropertyWrite → Type 0
AreWrites [] = Unit {0}
AreWrites (w ∷ ws) = (1 ≤ priority_of w) × AreWrites ws

pub stands_at : (id : Id) (slots : List (Option Setting)) (ws : List PropertyWrite) (p : ℕ) → AreWrites ws → 1 ≤ p → p - 1 < length slots → slice_get (slots_after id slots ws) (p - 1) ≡ option_or (last_at id p ws) (slice_get slots (p - 1))
stands_at id slots [] p are low lt = refl
stands_at id slots (w ∷ ws) p are low lt =
    let size = size_kept (is_id id w.object) slots (priority_of w - 1) (set_to w.value) in
    stands_at id (cond (is_id id w.object) (written_slots w slots) slots) ws p are.1 low (omega (arith, lt, size))
    ∙ joined (last_at id p ws) (is_id id w.object) (priority_of w == p) slots (priority_of w - 1) (p - 1) (set_to w.value) (sym (same_place (priority_of w) p are.0 low)) lt

kept_size : (id : Id) (slots : List (Option Setting)) (ws : List PropertyWrite) → length (slots_after id slots ws) ≡ length slots
kept_size id slots [] = refl
kept_size id slots (w ∷ ws) =
    kept_size id (cond (is_id id w.object) (written_slots w slots) slots) ws ∙ size_kept (is_id id w.object) slots (priority_of w - 1) (set_to w.value)

-- ---- the writes among datagrams

from_apdu : (m : Apdu) (w : PropertyWrite) → write_in_apdu m ≡ Some w → 1 ≤ priority_of w
from_apdu (Confirmed segmented size invoke service parameters) w h = from_test (not segmented && (service == 15)) parameters w h
  where
    from_read : (parameters : List ℕ) (r : Result PropertyWrite Reason) (w : PropertyWrite) → write_property_at parameters ≡ r → result_ok r ≡ Some w → 1 ≤ priority_of w
    from_read parameters (Ok v) w e h = (write_prioritized parameters w (e ∙ ap (λ (x : PropertyWrite). let r : Result PropertyWrite Reason = Ok x in r) (let s : v ≡ w = cc in s))).0
    from_read parameters (Err f) w e h = absurd (none-some w h)

    from_test : (b : Bool) (parameters : List ℕ) (w : PropertyWrite) → cond b (result_ok (write_property_at parameters)) None ≡ Some w → 1 ≤ priority_of w
    from_test true parameters w h = from_read parameters (write_property_at parameters) w refl h
    from_test false parameters w h = absurd (none-some w h)
from_apdu (Unconfirmed service parameters) w h = absurd (none-some w h)
from_apdu (Simple invoke service) w h = absurd (none-some w h)
from_apdu (Complex segmented invoke service parameters) w h = absurd (none-some w h)
from_apdu (SegmentAck invoke) w h = absurd (none-some w h)
from_apdu (Error invoke service class code) w h = absurd (none-some w h)
from_apdu (Reject invoke reason) w h = absurd (none-some w h)
from_apdu (Abort by_server invoke reason) w h = absurd (none-some w h)

from_heard_at : (b : Bool) (m : Apdu) (w : PropertyWrite) → cond b None (write_in_apdu m) ≡ Some w → 1 ≤ priority_of w
from_heard_at true m w h = absurd (none-some w h)
from_heard_at false m w h = from_apdu m w h

from_heard : (x : Option ReceivedApdu) (w : PropertyWrite) → write_heard x ≡ Some w → 1 ≤ priority_of w
from_heard None w h = absurd (none-some w h)
from_heard (Some x) w h = from_heard_at x.to_all x.apdu w h

from_accepted : (b : Bool) (x : Option ReceivedApdu) (w : PropertyWrite) → cond b (write_heard x) None ≡ Some w → 1 ≤ priority_of w
from_accepted true x w h = from_heard x w h
from_accepted false x w h = absurd (none-some w h)

are_first : (a : Option PropertyWrite) (ws : List PropertyWrite) → ((w : PropertyWrite) → a ≡ Some w → 1 ≤ priority_of w) → AreWrites ws → AreWrites (with_first a ws)
are_first None ws low are = are
are_first (Some w) ws low are = (low w refl, are)

are_writes : (xs : List (List ℕ)) (d : State) → AreWrites (writes d xs)
are_writes [] d = tt
are_writes (x ∷ xs) d = are_first (accepted d x) (writes (answer d x).1 xs) (λ w h. from_accepted (is_done (answer d x).0) (heard_in (frame_at x)) w h) (are_writes xs (answer d x).1)

-- ---- and Present_Value

present_read : (d : State) (id : Id) (o : object.Object) (c : Command) (slots : List (Option Setting)) → (id.kind == 8) ≡ false → lookup (is_id id) d.objects ≡ Some (with_slots o c slots)
    → read_of d (record { object = id; property = 85; index = None }) ≡ Ok (values_octets (value_of (present slots c.default) ∷ []))
present_read d id o c slots k h = rw (k, h) refl

pub stands : (d : State) (xs : List (List ℕ)) (id : Id) (o : object.Object) (c : Command) → lookup (is_id id) d.objects ≡ Some o → o.body ≡ body.Command c → length c.slots ≡ 16 → (id.kind == 8) ≡ false → Stands d xs id o c
stands d xs id o c h is size k =
    let same : o ≡ with_slots o c c.slots = ap (λ (b : Body). let m : object.Object = record o { body = b } in m) is in
    let held = all_writes xs d id o c c.slots (h ∙ ap (λ (m : object.Object). let r : Option object.Object = Some m in r) same) in
    record {
      slots = slots_after id c.slots (writes d xs);
      size = kept_size id c.slots (writes d xs) ∙ size;
      last = λ p low high. stands_at id c.slots (writes d xs) p (are_writes xs d) low (omega (arith, low, high, size));
      held = held;
      read = present_read (after d xs) id o c (slots_after id c.slots (writes d xs)) k held;
    }
