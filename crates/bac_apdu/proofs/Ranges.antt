-- What was read is in range, so that it may be written.
use Rattle.std.proofs.Common.{◌≡◌, ℕ, ◌^◌, ◌<◌, ltb, Bool, true, false, List, [], ◌∷◌, Result, Ok, Err, refl, ap, subst, sym, ◌∙◌, ◌⊎◌, inl, inr}
use Rattle.std.proofs.lemmas.Bool.{ltb-true, and_parts}
use Rattle.std.specs.Prelude.{IfOk}
use Rattle.bac_wire.specs.Primitive.{Primitive, Null, Boolean, Unsigned, Signed, Real, Double, Octets, Chars, Bits, Enumerated, Date, Time, Object}
use Rattle.bac_wire.specs.Chain.{◌>>=◌, Gives, result_map}
use Rattle.bac_wire.specs.Reading.{context_at, contents_as, mark_at}
use Rattle.bac_wire.specs.Stamp.{date_octets, time_octets}
use Rattle.bac_wire.proofs.Steps.{bind_ok, want_ok, chosen, ok_is}
use Rattle.bac_apdu.specs.declared.reason.Reason.{Reason}
use Rattle.bac_apdu.specs.declared.reason.Reason.TheVariants.{OutOfRange}
use Rattle.bac_apdu.specs.declared.service.read_range.ReadRange.{ReadRange}
use Rattle.bac_apdu.specs.Reason.{reasoned}
use Rattle.bac_apdu.specs.Form.{Form, Row, Parameter, Value, Mark, Absent, end, row, optional, choice, context, application, opening, unsigned, signed, date, time, is_u32, value_next, opening_next}
use Rattle.bac_apdu.specs.FormReading.{form_at, row_at, optional_at, typed_at, ranged}
use Rattle.bac_apdu.specs.Fields.{number_in, unsigned_in, signed_in, date_in, time_in}
use Rattle.bac_apdu.specs.Service.Extent.{range, by_reference, by_time, extent_in, is_count, is_date, is_time, date_fits, time_fits, IsExtent}
use Rattle.bac_apdu.specs.Service.ReadRange.{read_range, read_range_at, range_in}
use Rattle.bac_apdu.specs.declared.service.write_property.WriteProperty.{WriteProperty}
use Rattle.bac_apdu.specs.Service.WriteProperty.{PropertyWrite, write_property, write_property_at, write_in, write_of_code, is_priority, IsPriority}

-- ---- one parameter off the front

record Behind (read : List ℕ → Result (Parameter × List ℕ) Reason) (form : Form) (items : List Parameter) : Type 0 where
  item : Parameter
  tail : List Parameter
  front : List ℕ
  bytes : List ℕ
  is : items ≡ item ∷ tail
  at : read front ≡ Ok (item, bytes)
  rest : form_at form bytes ≡ Ok tail

behind : (read : List ℕ → Result (Parameter × List ℕ) Reason) (form : Form) (bytes : List ℕ) (items : List Parameter) → (read bytes >>= (λ item. form_at form item.1 >>= (λ tail. Ok (item.0 ∷ tail)))) ≡ Ok items → Behind read form items
behind read form bytes items h =
    let a = bind_ok (read bytes) (λ item. form_at form item.1 >>= (λ tail. Ok (item.0 ∷ tail))) items h in
    let b = bind_ok (form_at form a.0.1) (λ tail. Ok (a.0.0 ∷ tail)) items a.2 in
    record { item = a.0.0; tail = b.0; front = bytes; bytes = a.0.1; is = sym (ok_is {F = Reason} (a.0.0 ∷ b.0) items b.2); at = a.1; rest = b.1 }

behind_row : (p : Row) (form : Form) (bytes : List ℕ) (items : List Parameter) → form_at (row p form) bytes ≡ Ok items → Behind (row_at p) form items
unfolding form_at
behind_row p form bytes items h = behind (row_at p) form bytes items h

behind_optional : (tag type : ℕ) (fits : Primitive → Bool) (form : Form) (bytes : List ℕ) (items : List Parameter) → form_at (optional tag type fits form) bytes ≡ Ok items → Behind (optional_at tag type fits) form items
unfolding form_at
behind_optional tag type fits form bytes items h = behind (optional_at tag type fits) form bytes items h

way : (tag : ℕ) (there otherwise : Form) (bytes : List ℕ) (items : List Parameter) → form_at (choice tag there otherwise) bytes ≡ Ok items → (form_at there bytes ≡ Ok items) ⊎ (form_at otherwise bytes ≡ Ok items)
unfolding form_at
way tag there otherwise bytes items h = elim (chosen (opening_next tag bytes) (form_at there bytes) (form_at otherwise bytes) items h) [
  | inl a ↦ inl a.1
  | inr a ↦ inr a.1
]

nothing_left : (bytes : List ℕ) (items : List Parameter) → form_at end bytes ≡ Ok items → items ≡ []
unfolding form_at
nothing_left [] items h = sym (ok_is {F = Reason} [] items h)
nothing_left (octet ∷ bytes) items h = absurd cc

-- ---- its item

abbrev IsValue : (Primitive → Bool) → Parameter → Type 0
IsValue fits item = (v : Primitive) × (item ≡ Value v) × (fits v ≡ true)

ranged_is : (fits : Primitive → Bool) (v : Primitive) (rest : List ℕ) (x : Parameter × List ℕ) → ranged fits v rest ≡ Ok x → IsValue fits x.0
ranged_is fits v rest x h =
    let w = want_ok (fits v) OutOfRange (Ok (Value v, rest)) x h in
    (v, ap (λ (y : Parameter × List ℕ). y.0) (sym (ok_is {F = Reason} (Value v, rest) x w.1)), w.0)

application_is : (type : ℕ) (fits : Primitive → Bool) (bytes : List ℕ) (x : Parameter × List ℕ) → row_at (application type fits) bytes ≡ Ok x → IsValue fits x.0
unfolding row_at
application_is type fits bytes x h =
    let v = bind_ok (typed_at type bytes) (λ value. ranged fits value.0 value.1) x h in
    ranged_is fits v.0.0 v.0.1 x v.2

context_is : (tag type : ℕ) (fits : Primitive → Bool) (bytes : List ℕ) (x : Parameter × List ℕ) → row_at (context tag type fits) bytes ≡ Ok x → IsValue fits x.0
unfolding row_at
context_is tag type fits bytes x h =
    let c = bind_ok (reasoned (context_at tag bytes)) (λ c. reasoned (contents_as type c.0) >>= (λ v. ranged fits v c.1)) x h in
    let v = bind_ok (reasoned (contents_as type c.0.0)) (λ v. ranged fits v c.0.1) x c.2 in
    ranged_is fits v.0 c.0.1 x v.2

opening_is : (tag : ℕ) (bytes : List ℕ) (x : Parameter × List ℕ) → row_at (opening tag) bytes ≡ Ok x → x.0 ≡ Mark tag
unfolding row_at
opening_is tag bytes x h =
    let m = bind_ok (reasoned (mark_at 6 tag bytes)) (λ mark. Ok (Mark tag, mark.1)) x h in
    ap (λ (y : Parameter × List ℕ). y.0) (sym (ok_is {F = Reason} (Mark tag, m.0.1) x m.2))

optional_is : (tag type : ℕ) (fits : Primitive → Bool) (bytes : List ℕ) (x : Parameter × List ℕ) → optional_at tag type fits bytes ≡ Ok x → IsValue fits x.0 ⊎ (x.0 ≡ Absent)
unfolding optional_at
optional_is tag type fits bytes x h = elim (chosen (value_next tag bytes) (row_at (context tag type fits) bytes) (Ok (Absent, bytes)) x h) [
  | inl a ↦ inl (context_is tag type fits bytes x a.1)
  | inr a ↦ inr (ap (λ (y : Parameter × List ℕ). y.0) (sym (ok_is {F = Reason} (Absent, bytes) x a.1)))
]

-- ---- values in range

no_value : {P : Type 0} → false ≡ true → P
no_value e = absurd cc

u32_in : (v : Primitive) → is_u32 v ≡ true → unsigned_in (Value v) < 2 ^ 32
u32_in (Unsigned n) h = ltb-true _ _ h
u32_in Null h = no_value h
u32_in (Boolean b) h = no_value h
u32_in (Signed z) h = no_value h
u32_in (Real octets) h = no_value h
u32_in (Double octets) h = no_value h
u32_in (Octets octets) h = no_value h
u32_in (Chars set octets) h = no_value h
u32_in (Bits bits) h = no_value h
u32_in (Enumerated n) h = no_value h
u32_in (Date octets) h = no_value h
u32_in (Time octets) h = no_value h
u32_in (Object id) h = no_value h

count_in : (v : Primitive) → is_count v ≡ true → is_count (Signed (signed_in (Value v))) ≡ true
count_in (Signed z) h = h
count_in Null h = no_value h
count_in (Boolean b) h = no_value h
count_in (Unsigned n) h = no_value h
count_in (Real octets) h = no_value h
count_in (Double octets) h = no_value h
count_in (Octets octets) h = no_value h
count_in (Chars set octets) h = no_value h
count_in (Bits bits) h = no_value h
count_in (Enumerated n) h = no_value h
count_in (Date octets) h = no_value h
count_in (Time octets) h = no_value h
count_in (Object id) h = no_value h

four_date : (octets : List ℕ) → date_fits octets ≡ true → date_fits (date_octets (date_in (Value (Date octets)))) ≡ true
four_date [] h = no_value h
four_date (a ∷ []) h = no_value h
four_date (a ∷ b ∷ []) h = no_value h
four_date (a ∷ b ∷ c ∷ []) h = no_value h
four_date (a ∷ b ∷ c ∷ d ∷ []) h = h
four_date (a ∷ b ∷ c ∷ d ∷ e ∷ more) h = no_value h

dates_in : (v : Primitive) → is_date v ≡ true → date_fits (date_octets (date_in (Value v))) ≡ true
dates_in (Date octets) h = four_date octets h
dates_in Null h = no_value h
dates_in (Boolean b) h = no_value h
dates_in (Unsigned n) h = no_value h
dates_in (Signed z) h = no_value h
dates_in (Real octets) h = no_value h
dates_in (Double octets) h = no_value h
dates_in (Octets octets) h = no_value h
dates_in (Chars set octets) h = no_value h
dates_in (Bits bits) h = no_value h
dates_in (Enumerated n) h = no_value h
dates_in (Time octets) h = no_value h
dates_in (Object id) h = no_value h

four_time : (octets : List ℕ) → time_fits octets ≡ true → time_fits (time_octets (time_in (Value (Time octets)))) ≡ true
four_time [] h = no_value h
four_time (a ∷ []) h = no_value h
four_time (a ∷ b ∷ []) h = no_value h
four_time (a ∷ b ∷ c ∷ []) h = no_value h
four_time (a ∷ b ∷ c ∷ d ∷ []) h = h
four_time (a ∷ b ∷ c ∷ d ∷ e ∷ more) h = no_value h

times_in : (v : Primitive) → is_time v ≡ true → time_fits (time_octets (time_in (Value v))) ≡ true
times_in (Time octets) h = four_time octets h
times_in Null h = no_value h
times_in (Boolean b) h = no_value h
times_in (Unsigned n) h = no_value h
times_in (Signed z) h = no_value h
times_in (Real octets) h = no_value h
times_in (Double octets) h = no_value h
times_in (Octets octets) h = no_value h
times_in (Chars set octets) h = no_value h
times_in (Bits bits) h = no_value h
times_in (Enumerated n) h = no_value h
times_in (Date octets) h = no_value h
times_in (Object id) h = no_value h

-- ---- the range of ReadRange

record Referred (tag : ℕ) (items : List Parameter) : Type 0 where
  reference : Primitive
  count : Primitive
  others : List Parameter
  is : items ≡ Mark tag ∷ Value reference ∷ Value count ∷ others
  small : is_u32 reference ≡ true
  counted : is_count count ≡ true

referred : (tag : ℕ) (bytes : List ℕ) (items : List Parameter) → form_at (by_reference tag) bytes ≡ Ok items → Referred tag items
referred tag bytes items h =
    let a = behind_row (opening tag) _ bytes items h in
    let b = behind_row (application unsigned is_u32) _ a.bytes a.tail a.rest in
    let c = behind_row (application signed is_count) _ b.bytes b.tail b.rest in
    let reference = application_is unsigned is_u32 b.front (b.item, b.bytes) b.at in
    let count = application_is signed is_count c.front (c.item, c.bytes) c.at in
    let mark = opening_is tag a.front (a.item, a.bytes) a.at in
    let all : items ≡ a.item ∷ b.item ∷ c.item ∷ c.tail = a.is ∙ ap (λ l. a.item ∷ l) (b.is ∙ ap (λ l. b.item ∷ l) c.is) in
    record { reference = reference.0; count = count.0; others = c.tail; is = all ∙ three_same mark reference.1 count.1; small = reference.2; counted = count.2 }
  where
    three_same : {x y z a b c : Parameter} {l : List Parameter} → x ≡ a → y ≡ b → z ≡ c → x ∷ y ∷ z ∷ l ≡ a ∷ b ∷ c ∷ l
    three_same e f g = cc

record Timed (items : List Parameter) : Type 0 where
  day : Primitive
  clock : Primitive
  count : Primitive
  others : List Parameter
  is : items ≡ Mark 7 ∷ Value day ∷ Value clock ∷ Value count ∷ others
  dated : is_date day ≡ true
  timed : is_time clock ≡ true
  counted : is_count count ≡ true

timed : (bytes : List ℕ) (items : List Parameter) → form_at by_time bytes ≡ Ok items → Timed items
timed bytes items h =
    let a = behind_row (opening 7) _ bytes items h in
    let b = behind_row (application date is_date) _ a.bytes a.tail a.rest in
    let c = behind_row (application time is_time) _ b.bytes b.tail b.rest in
    let d = behind_row (application signed is_count) _ c.bytes c.tail c.rest in
    let day = application_is date is_date b.front (b.item, b.bytes) b.at in
    let clock = application_is time is_time c.front (c.item, c.bytes) c.at in
    let count = application_is signed is_count d.front (d.item, d.bytes) d.at in
    let mark = opening_is 7 a.front (a.item, a.bytes) a.at in
    let all : items ≡ a.item ∷ b.item ∷ c.item ∷ d.item ∷ d.tail = a.is ∙ ap (λ l. a.item ∷ l) (b.is ∙ ap (λ l. b.item ∷ l) (c.is ∙ ap (λ l. c.item ∷ l) d.is)) in
    record { day = day.0; clock = clock.0; count = count.0; others = d.tail; is = all ∙ four_same mark day.1 clock.1 count.1; dated = day.2; timed = clock.2; counted = count.2 }
  where
    four_same : {x y z w a b c d : Parameter} {l : List Parameter} → x ≡ a → y ≡ b → z ≡ c → w ≡ d → x ∷ y ∷ z ∷ w ∷ l ≡ a ∷ b ∷ c ∷ d ∷ l
    four_same e f g h = cc

extent_valid : (bytes : List ℕ) (items : List Parameter) → form_at range bytes ≡ Ok items → IsExtent (extent_in items)
extent_valid bytes items h = elim (way 3 (by_reference 3) (choice 6 (by_reference 6) (choice 7 by_time end)) bytes items h) [
  | inl a ↦ let r = referred 3 bytes items a in rw r.is (u32_in r.reference r.small, count_in r.count r.counted)
  | inr a ↦ elim (way 6 (by_reference 6) (choice 7 by_time end) bytes items a) [
    | inl b ↦ let r = referred 6 bytes items b in rw r.is (u32_in r.reference r.small, count_in r.count r.counted)
    | inr b ↦ elim (way 7 by_time end bytes items b) [
      | inl c ↦ let t = timed bytes items c in rw t.is (dates_in t.day t.dated, times_in t.clock t.timed, count_in t.count t.counted)
      | inr c ↦ rw (nothing_left bytes items c) tt
    ]
  ]
]

items_valid : (bytes : List ℕ) (items : List Parameter) → form_at read_range bytes ≡ Ok items → IsExtent ((range_in items).extent)
items_valid bytes items h =
    let a = behind_row _ _ bytes items h in
    let b = behind_row _ _ a.bytes a.tail a.rest in
    let c = behind_optional _ _ _ _ b.bytes b.tail b.rest in
    let all : items ≡ a.item ∷ b.item ∷ c.item ∷ c.tail = a.is ∙ ap (λ l. a.item ∷ l) (b.is ∙ ap (λ l. b.item ∷ l) c.is) in
    rw all (extent_valid c.bytes c.tail c.rest)

range_read : (bytes : List ℕ) (read : Result (List Parameter) Reason) (r : ReadRange) → form_at read_range bytes ≡ read → result_map range_in read ≡ Ok r → IsExtent r.extent
range_read bytes (Ok items) r e h = subst (λ (x : ReadRange). IsExtent x.extent) (ok_is {F = Reason} (range_in items) r h) (items_valid bytes items e)
range_read bytes (Err reason) r e h = absurd cc

pub extents_valid : (bytes : List ℕ) (r : ReadRange) → read_range_at bytes ≡ Ok r → IsExtent r.extent
unfolding read_range_at
extents_valid bytes r h = range_read bytes (form_at read_range bytes) r refl h

pub extent_bounded : (bytes : List ℕ) (r : Result ReadRange Reason) → r ≡ read_range_at bytes → IfOk r (λ x. IsExtent x.extent)
extent_bounded bytes (Ok r) e = extents_valid bytes r (sym e)
extent_bounded bytes (Err reason) e = tt

-- ---- the priority of WriteProperty

priority_in : (v : Primitive) → is_priority v ≡ true → IsPriority (number_in (Value v))
priority_in (Unsigned n) h = let p = and_parts (ltb 0 n) (ltb n 17) h in (ltb-true _ _ p.0, ltb-true _ _ p.1)
priority_in Null h = tt
priority_in (Boolean b) h = tt
priority_in (Signed z) h = tt
priority_in (Real octets) h = tt
priority_in (Double octets) h = tt
priority_in (Octets octets) h = tt
priority_in (Chars set octets) h = tt
priority_in (Bits bits) h = tt
priority_in (Enumerated n) h = tt
priority_in (Date octets) h = tt
priority_in (Time octets) h = tt
priority_in (Object id) h = tt

optional_priority : (item : Parameter) → IsValue is_priority item ⊎ (item ≡ Absent) → IsPriority (number_in item)
optional_priority item (inl v) = rw v.1 (priority_in v.0 v.2)
optional_priority item (inr e) = rw e tt

write_valid : (bytes : List ℕ) (items : List Parameter) → form_at write_property bytes ≡ Ok items → IsPriority ((write_in items).priority)
write_valid bytes items h =
    let a = behind_row _ _ bytes items h in
    let b = behind_row _ _ a.bytes a.tail a.rest in
    let c = behind_optional _ _ _ _ b.bytes b.tail b.rest in
    let d = behind_row _ _ c.bytes c.tail c.rest in
    let e = behind_row _ _ d.bytes d.tail d.rest in
    let f = behind_row _ _ e.bytes e.tail e.rest in
    let g = behind_optional 4 unsigned is_priority end f.bytes f.tail f.rest in
    let last = optional_priority g.item (optional_is 4 unsigned is_priority g.front (g.item, g.bytes) g.at) in
    let all : items ≡ a.item ∷ b.item ∷ c.item ∷ d.item ∷ e.item ∷ f.item ∷ g.item ∷ g.tail =
    a.is ∙ ap (λ l. a.item ∷ l) (b.is ∙ ap (λ l. b.item ∷ l) (c.is ∙ ap (λ l. c.item ∷ l) (d.is ∙ ap (λ l. d.item ∷ l) (e.is ∙ ap (λ l. e.item ∷ l) (f.is ∙ ap (λ l. f.item ∷ l) g.is))))) in
    rw all last

write_read : (bytes : List ℕ) (read : Result (List Parameter) Reason) (w : PropertyWrite) → form_at write_property bytes ≡ read → result_map write_in read ≡ Ok w → IsPriority w.priority
write_read bytes (Ok items) w e h = subst (λ (v : PropertyWrite). IsPriority v.priority) (ok_is {F = Reason} (write_in items) w h) (write_valid bytes items e)
write_read bytes (Err reason) w e h = absurd cc

pub priorities_valid : (bytes : List ℕ) (w : PropertyWrite) → write_property_at bytes ≡ Ok w → IsPriority w.priority
unfolding write_property_at
priorities_valid bytes w h = write_read bytes (form_at write_property bytes) w refl h

pub priority_bounded : (bytes : List ℕ) (r : Result WriteProperty Reason) → Gives write_of_code r (write_property_at bytes) → IfOk r (λ w. IsPriority w.priority)
priority_bounded bytes (Ok w) e = priorities_valid bytes (write_of_code w) e
priority_bounded bytes (Err reason) e = tt
