-- The priority of a write that was read is from 1 to 16.
use Rattle.std.proofs.Common.{◌≡◌, refl, ap, subst, sym, ◌∙◌, arith, ℕ, ◌≤◌, nat_lt, Bool, true, false, ◌&&◌, cond, List, ◌∷◌, Option, None, Result, Ok, Err}
use Rattle.std.proofs.lemmas.Bool.Decides.{nat_tests}
use Rattle.std.specs.Option.{unwrap_or}
use Rattle.bac_wire.specs.Primitive.{Primitive, Null, Boolean, Unsigned, Signed, Real, Double, Octets, Chars, Bits, Enumerated, Date, Time, Object}
use Rattle.bac_wire.specs.Chain.{◌>>=◌}
use Rattle.bac_wire.specs.Reading.{context_at, contents_as}
use Rattle.bac_apdu.specs.Form.{Form, Row, Parameter, Value, Absent, end, row, optional, context, unsigned, value_next}
use Rattle.bac_apdu.specs.FormReading.{form_at, row_at, optional_at, ranged}
use Rattle.bac_apdu.specs.Reason.{reasoned}
use Rattle.bac_apdu.specs.Service.WriteProperty.{write_property, is_priority}
use Rattle.bac_apdu.specs.declared.reason.Reason.{Reason}
use Rattle.bac_apdu.specs.declared.reason.Reason.TheVariants.{OutOfRange}
use Rattle.bac_wire.specs.Chain.{result_map}
use Rattle.bac_apdu.specs.Fields.{number_in}
use Rattle.bac_apdu.specs.Service.WriteProperty.{PropertyWrite, write_in, write_property_at}

ok_same : {X : Type 0} (a b : X) → (let r : Result X Reason = Ok a in r) ≡ Ok b → a ≡ b
ok_same a b e = cc

err_ok : {X : Type 0} (f : Reason) (b : X) → (let r : Result X Reason = Err f in r) ≡ Ok b → ⊥
err_ok f b e = cc

-- the items after the first
record Rest (form : Form) (items : List Parameter) : Type 0 where
  item : Parameter
  tail : List Parameter
  bytes : List ℕ
  is : items ≡ item ∷ tail
  read : form_at form bytes ≡ Ok tail

rest_end : (form : Form) (item : Parameter) (bytes : List ℕ) (items : List Parameter) (y : Result (List Parameter) Reason) → form_at form bytes ≡ y
    → (y >>= (λ tail. Ok (item ∷ tail))) ≡ Ok items → Rest form items
rest_end form item bytes items (Ok tail) e h = record { item = item; tail = tail; bytes = bytes; is = sym (ok_same (item ∷ tail) items h); read = e }
rest_end form item bytes items (Err f) e h = absurd (err_ok f items h)

rest_of : (form : Form) (items : List Parameter) (x : Result (Parameter × List ℕ) Reason) → (x >>= (λ item. form_at form item.1 >>= (λ tail. Ok (item.0 ∷ tail)))) ≡ Ok items → Rest form items
rest_of form items (Ok x) h = rest_end form x.0 x.1 items (form_at form x.1) refl h
rest_of form items (Err f) h = absurd (err_ok f items h)

behind_row : (p : Row) (form : Form) (bytes : List ℕ) (items : List Parameter) → form_at (row p form) bytes ≡ Ok items → Rest form items
unfolding form_at
behind_row p form bytes items h = rest_of form items (row_at p bytes) h

behind_maybe : (tag type : ℕ) (fits : Primitive → Bool) (form : Form) (bytes : List ℕ) (items : List Parameter) → form_at (optional tag type fits form) bytes ≡ Ok items → Rest form items
unfolding form_at
behind_maybe tag type fits form bytes items h = rest_of form items (optional_at tag type fits bytes) h

-- ---- the last parameter

abbrev IsPrioritized : Option ℕ → Type 0
IsPrioritized n = (1 ≤ unwrap_or n 16) × (unwrap_or n 16 ≤ 16)

in_range : (n : ℕ) → (nat_lt 0 n && nat_lt n 17) ≡ true → (1 ≤ n) × (n ≤ 16)
in_range n h = (grind (arith, nat_tests), grind (arith, nat_tests))

no_number : IsPrioritized None
no_number = (omega arith, omega arith)

prioritized : (v : Primitive) → is_priority v ≡ true → IsPrioritized (number_in (Value v))
prioritized (Unsigned n) h = in_range n h
prioritized Null h = no_number
prioritized (Boolean b) h = no_number
prioritized (Signed z) h = no_number
prioritized (Real octets) h = no_number
prioritized (Double octets) h = no_number
prioritized (Octets octets) h = no_number
prioritized (Chars set octets) h = no_number
prioritized (Bits bits) h = no_number
prioritized (Enumerated n) h = no_number
prioritized (Date octets) h = no_number
prioritized (Time octets) h = no_number
prioritized (Object id) h = no_number

ranged_is : (b : Bool) (v : Primitive) (rest : List ℕ) (x : Parameter × List ℕ) → is_priority v ≡ b → cond b (let r : Result (Parameter × List ℕ) Reason = Ok (Value v, rest) in r) (Err OutOfRange) ≡ Ok x → IsPrioritized (number_in x.0)
ranged_is true v rest x e h = subst (λ (y : Parameter × List ℕ). IsPrioritized (number_in y.0)) (ok_same (Value v, rest) x h) (prioritized v e)
ranged_is false v rest x e h = absurd (err_ok _ x h)

value_is : (rest : List ℕ) (r : Result Primitive Reason) (x : Parameter × List ℕ) → (r >>= (λ v. ranged is_priority v rest)) ≡ Ok x → IsPrioritized (number_in x.0)
value_is rest (Ok v) x h = ranged_is (is_priority v) v rest x refl h
value_is rest (Err f) x h = absurd (err_ok f x h)

contents_is : (r : Result (List ℕ × List ℕ) Reason) (x : Parameter × List ℕ) → (r >>= (λ c. reasoned (contents_as 2 c.0) >>= (λ v. ranged is_priority v c.1))) ≡ Ok x → IsPrioritized (number_in x.0)
contents_is (Ok c) x h = value_is c.1 (reasoned (contents_as 2 c.0)) x h
contents_is (Err f) x h = absurd (err_ok f x h)

there_is : (b : Bool) (bytes : List ℕ) (x : Parameter × List ℕ) → cond b (row_at (context 4 unsigned is_priority) bytes) (Ok (Absent, bytes)) ≡ Ok x → IsPrioritized (number_in x.0)
unfolding row_at
there_is true bytes x h = contents_is (reasoned (context_at 4 bytes)) x h
there_is false bytes x h = subst (λ (y : Parameter × List ℕ). IsPrioritized (number_in y.0)) (ok_same (Absent, bytes) x h) no_number

last_end : (x : Parameter × List ℕ) (items : List Parameter) (y : Result (List Parameter) Reason) → IsPrioritized (number_in x.0) → (y >>= (λ tail. Ok (x.0 ∷ tail))) ≡ Ok items → (item : Parameter) × (tail : List Parameter) × (items ≡ item ∷ tail) × IsPrioritized (number_in item)
last_end x items (Ok tail) p h = (x.0, tail, sym (ok_same (x.0 ∷ tail) items h), p)
last_end x items (Err f) p h = absurd (err_ok f items h)

last_of : (r : Result (Parameter × List ℕ) Reason) (items : List Parameter) → ((x : Parameter × List ℕ) → r ≡ Ok x → IsPrioritized (number_in x.0)) → (r >>= (λ item. form_at end item.1 >>= (λ tail. Ok (item.0 ∷ tail)))) ≡ Ok items
    → (item : Parameter) × (tail : List Parameter) × (items ≡ item ∷ tail) × IsPrioritized (number_in item)
last_of (Ok x) items p h = last_end x items (form_at end x.1) (p x refl) h
last_of (Err f) items p h = absurd (err_ok f items h)

last_item : (bytes : List ℕ) (items : List Parameter) → form_at (optional 4 unsigned is_priority end) bytes ≡ Ok items → (item : Parameter) × (tail : List Parameter) × (items ≡ item ∷ tail) × IsPrioritized (number_in item)
unfolding form_at optional_at
last_item bytes items h = last_of (optional_at 4 unsigned is_priority bytes) items (λ x e. there_is (value_next 4 bytes) bytes x e) h

items_prioritized : (bytes : List ℕ) (items : List Parameter) → form_at write_property bytes ≡ Ok items → IsPrioritized ((write_in items).priority)
items_prioritized bytes items h =
    let a = behind_row _ _ bytes items h in
    let b = behind_row _ _ a.bytes a.tail a.read in
    let c = behind_maybe _ _ _ _ b.bytes b.tail b.read in
    let d = behind_row _ _ c.bytes c.tail c.read in
    let e = behind_row _ _ d.bytes d.tail d.read in
    let f = behind_row _ _ e.bytes e.tail e.read in
    let g = last_item f.bytes f.tail f.read in
    let all : items ≡ a.item ∷ b.item ∷ c.item ∷ d.item ∷ e.item ∷ f.item ∷ g.0 ∷ g.1 =
    a.is ∙ ap (λ l. a.item ∷ l) (b.is ∙ ap (λ l. b.item ∷ l) (c.is ∙ ap (λ l. c.item ∷ l) (d.is ∙ ap (λ l. d.item ∷ l) (e.is ∙ ap (λ l. e.item ∷ l) (f.is ∙ ap (λ l. f.item ∷ l) g.2))))) in
    rw all g.3

read_prioritized : (bytes : List ℕ) (r : Result (List Parameter) Reason) (w : PropertyWrite) → form_at write_property bytes ≡ r → result_map write_in r ≡ Ok w → IsPrioritized w.priority
read_prioritized bytes (Ok items) w e h = subst (λ (v : PropertyWrite). IsPrioritized v.priority) (ok_same (write_in items) w h) (items_prioritized bytes items e)
read_prioritized bytes (Err f) w e h = absurd (err_ok f w h)

pub write_prioritized : (bytes : List ℕ) (w : PropertyWrite) → write_property_at bytes ≡ Ok w → IsPrioritized w.priority
unfolding write_property_at
write_prioritized bytes w h = read_prioritized bytes (form_at write_property bytes) w refl h
