-- What a service shows of its fields is all of them.
use Rattle.std.proofs.Common.{◌≡◌, ℕ, ◌/◌, ◌%◌, ◌^◌, ◌<◌, eqb, List, [], ◌∷◌, Option, Some, None, refl, ap, ◌∙◌, arith, inl, inr}
use Rattle.std.proofs.lemmas.Bool.{cases_Bool, eqb-true, eqb-false}
use Rattle.bac_wire.specs.Number.{bit}
use Rattle.bac_wire.specs.Primitive.{Id, Primitive, Unsigned, Bits, Enumerated, Object}
use Rattle.bac_wire.specs.Stamp.{date_octets, time_octets}
use Rattle.bac_wire.specs.declared.stamp.Date4.{Date4}
use Rattle.bac_wire.specs.declared.stamp.Time4.{Time4}
use Rattle.bac_wire.specs.View.{view}
use Rattle.bac_apdu.specs.declared.service.who_is.WhoIs.{WhoIs}
use Rattle.bac_apdu.specs.declared.service.i_am.IAm.{IAm}
use Rattle.bac_apdu.specs.declared.service.read_property.ReadProperty.{ReadProperty}
use Rattle.bac_apdu.specs.declared.service.read_property_ack.ReadPropertyAck.{ReadPropertyAck}
use Rattle.bac_apdu.specs.declared.service.write_property.WriteProperty.{WriteProperty}
use Rattle.bac_apdu.specs.declared.service.extent.Extent.{Extent}
use Rattle.bac_apdu.specs.declared.service.extent.Extent.TheVariants.{All, ByPosition, ByNumber, ByTime}
use Rattle.bac_apdu.specs.declared.service.read_range.ReadRange.{ReadRange}
use Rattle.bac_apdu.specs.declared.service.read_range_ack.ReadRangeAck.{ReadRangeAck}
use Rattle.bac_apdu.specs.Form.{Parameter, Value, Mark, Inside, number_parameter}
use Rattle.bac_apdu.specs.Service.WhoIs.{limit_parameters, who_is_parameters}
use Rattle.bac_apdu.specs.Service.IAm.{i_am_parameters}
use Rattle.bac_apdu.specs.Service.ReadProperty.{property_parameters}
use Rattle.bac_apdu.specs.Service.ReadPropertyAck.{property_ack_parameters}
use Rattle.bac_apdu.specs.Service.WriteProperty.{write_parameters}
use Rattle.bac_apdu.specs.Service.Extent.{extent_parameters}
use Rattle.bac_apdu.specs.Service.ReadRange.{range_parameters}
use Rattle.bac_apdu.specs.Service.ReadRangeAck.{flag_bits, ack_parameters}

-- ---- lists of items

first_item : (a b : Parameter) (l m : List Parameter) → a ∷ l ≡ b ∷ m → a ≡ b
first_item a b l m e = cc

other_items : (a b : Parameter) (l m : List Parameter) → a ∷ l ≡ b ∷ m → l ≡ m
other_items a b l m e = cc

same_object : (a b : Id) → Value (Object a) ≡ Value (Object b) → a ≡ b
same_object a b e = cc

same_enumerated : (a b : ℕ) → Value (Enumerated a) ≡ Value (Enumerated b) → a ≡ b
same_enumerated a b e = cc

same_value : (a b : Primitive) → Value a ≡ Value b → a ≡ b
same_value a b e = cc

same_inside : (a b : List ℕ) → Inside a ≡ Inside b → a ≡ b
same_inside a b e = cc

same_number : (a b : Option ℕ) → number_parameter a ≡ number_parameter b → a ≡ b
same_number None None e = refl
same_number None (Some n) e = absurd cc
same_number (Some m) None e = absurd cc
same_number (Some m) (Some n) e = cc

-- object, property and index, before what each service has after them
record SameTrio (a b : Id) (p q : ℕ) (i j : Option ℕ) (l m : List Parameter) : Type 0 where
  object : a ≡ b
  property : p ≡ q
  index : i ≡ j
  others : l ≡ m

same_trio : (a b : Id) (p q : ℕ) (i j : Option ℕ) (l m : List Parameter) → Value (Object a) ∷ Value (Enumerated p) ∷ number_parameter i ∷ l ≡ Value (Object b) ∷ Value (Enumerated q) ∷ number_parameter j ∷ m → SameTrio a b p q i j l m
same_trio a b p q i j l m e =
    let one = other_items (Value (Object a)) (Value (Object b)) (Value (Enumerated p) ∷ number_parameter i ∷ l) (Value (Enumerated q) ∷ number_parameter j ∷ m) e in
    let two = other_items (Value (Enumerated p)) (Value (Enumerated q)) (number_parameter i ∷ l) (number_parameter j ∷ m) one in
    record {
      object = same_object a b (first_item (Value (Object a)) (Value (Object b)) (Value (Enumerated p) ∷ number_parameter i ∷ l) (Value (Enumerated q) ∷ number_parameter j ∷ m) e);
      property = same_enumerated p q (first_item (Value (Enumerated p)) (Value (Enumerated q)) (number_parameter i ∷ l) (number_parameter j ∷ m) one);
      index = same_number i j (first_item (number_parameter i) (number_parameter j) l m two);
      others = other_items (number_parameter i) (number_parameter j) l m two;
    }

-- ---- Who-Is and I-Am

same_limits : (a b : Option (ℕ × ℕ)) → limit_parameters a ≡ limit_parameters b → a ≡ b
same_limits None None e = refl
same_limits None (Some b) e = absurd cc
same_limits (Some a) None e = absurd cc
same_limits (Some (a, b)) (Some (c, d)) e =
    let low : a ≡ c = cc in
    let high : b ≡ d = cc in
    rw (low, high) refl

abbrev who_is_with : Option (ℕ × ℕ) → WhoIs
who_is_with limits = record { limits = limits }

pub same_who_is : (v w : WhoIs) → who_is_parameters v ≡ who_is_parameters w → v ≡ w
same_who_is v w e = ap who_is_with (same_limits v.limits w.limits e)

abbrev announcement_with : Id → ℕ → ℕ → ℕ → IAm
announcement_with device max segmentation vendor = record { device = device; max_apdu = max; segmentation = segmentation; vendor = vendor }

announced : (a b : Id) (m n s t v w : ℕ) → a ≡ b → m ≡ n → s ≡ t → v ≡ w → announcement_with a m s v ≡ announcement_with b n t w
announced a b m n s t v w d x y z = rw (d, x, y, z) refl

pub same_announcement : (a b : IAm) → i_am_parameters a ≡ i_am_parameters b → a ≡ b
same_announcement a b e =
    let device : a.device ≡ b.device = cc in
    let max : a.max_apdu ≡ b.max_apdu = cc in
    let segmentation : a.segmentation ≡ b.segmentation = cc in
    let vendor : a.vendor ≡ b.vendor = cc in
    announced a.device b.device a.max_apdu b.max_apdu a.segmentation b.segmentation a.vendor b.vendor device max segmentation vendor

-- ---- properties

abbrev property_with : Id → ℕ → Option ℕ → ReadProperty
property_with object property index = record { object = object; property = property; index = index }

three : (a b : Id) (p q : ℕ) (i j : Option ℕ) → a ≡ b → p ≡ q → i ≡ j → property_with a p i ≡ property_with b q j
three a b p q i j x y z = rw (x, y, z) refl

pub same_property : (p q : ReadProperty) → property_parameters p ≡ property_parameters q → p ≡ q
same_property p q e =
    let t = same_trio p.object q.object p.property q.property p.index q.index [] [] e in
    three p.object q.object p.property q.property p.index q.index t.object t.property t.index

pub same_property_ack : (a b : ReadPropertyAck) → property_ack_parameters a ≡ property_ack_parameters b → (a.object ≡ b.object) × (a.property ≡ b.property) × (a.index ≡ b.index) × (a.values.now ≡ b.values.now)
same_property_ack a b e =
    let t = same_trio a.object b.object a.property b.property a.index b.index (Mark 3 ∷ Inside a.values.now ∷ []) (Mark 3 ∷ Inside b.values.now ∷ []) e in
    let others = other_items (Mark 3) (Mark 3) (Inside a.values.now ∷ []) (Inside b.values.now ∷ []) t.others in
    (t.object, t.property, t.index, same_inside a.values.now b.values.now (first_item (Inside a.values.now) (Inside b.values.now) [] [] others))

pub same_write : (v w : WriteProperty) → write_parameters v ≡ write_parameters w → (v.object ≡ w.object) × (v.property ≡ w.property) × (v.index ≡ w.index) × (view v.value ≡ view w.value) × (v.priority ≡ w.priority)
same_write v w e =
    let t = same_trio v.object w.object v.property w.property v.index w.index (Mark 3 ∷ Value (view v.value) ∷ Mark 3 ∷ number_parameter v.priority ∷ []) (Mark 3 ∷ Value (view w.value) ∷ Mark 3 ∷ number_parameter w.priority ∷ []) e in
    let one = other_items (Mark 3) (Mark 3) (Value (view v.value) ∷ Mark 3 ∷ number_parameter v.priority ∷ []) (Value (view w.value) ∷ Mark 3 ∷ number_parameter w.priority ∷ []) t.others in
    let two = other_items (Value (view v.value)) (Value (view w.value)) (Mark 3 ∷ number_parameter v.priority ∷ []) (Mark 3 ∷ number_parameter w.priority ∷ []) one in
    let three = other_items (Mark 3) (Mark 3) (number_parameter v.priority ∷ []) (number_parameter w.priority ∷ []) two in (
      t.object,
      t.property,
      t.index,
      same_value (view v.value) (view w.value) (first_item (Value (view v.value)) (Value (view w.value)) (Mark 3 ∷ number_parameter v.priority ∷ []) (Mark 3 ∷ number_parameter w.priority ∷ []) one),
      same_number v.priority w.priority (first_item (number_parameter v.priority) (number_parameter w.priority) [] [] three),
    )

-- ---- ranges

abbrev date_with : ℕ → ℕ → ℕ → ℕ → Date4
date_with y m d w = record { year = y; month = m; day = d; weekday = w }

dated : (a b c d e f g h : ℕ) → a ≡ e → b ≡ f → c ≡ g → d ≡ h → date_with a b c d ≡ date_with e f g h
dated a b c d e f g h w x y z = rw (w, x, y, z) refl

same_date : (a b : Date4) → date_octets a ≡ date_octets b → a ≡ b
same_date a b e =
    let year : a.year ≡ b.year = cc in
    let month : a.month ≡ b.month = cc in
    let day : a.day ≡ b.day = cc in
    let weekday : a.weekday ≡ b.weekday = cc in
    dated a.year a.month a.day a.weekday b.year b.month b.day b.weekday year month day weekday

abbrev time_with : ℕ → ℕ → ℕ → ℕ → Time4
time_with h m s c = record { hour = h; minute = m; second = s; hundredth = c }

timed : (a b c d e f g h : ℕ) → a ≡ e → b ≡ f → c ≡ g → d ≡ h → time_with a b c d ≡ time_with e f g h
timed a b c d e f g h w x y z = rw (w, x, y, z) refl

same_time : (a b : Time4) → time_octets a ≡ time_octets b → a ≡ b
same_time a b e =
    let hour : a.hour ≡ b.hour = cc in
    let minute : a.minute ≡ b.minute = cc in
    let second : a.second ≡ b.second = cc in
    let hundredth : a.hundredth ≡ b.hundredth = cc in
    timed a.hour a.minute a.second a.hundredth b.hour b.minute b.second b.hundredth hour minute second hundredth

same_extent : (a b : Extent) → extent_parameters a ≡ extent_parameters b → a ≡ b
same_extent All All e = refl
same_extent All (ByPosition r c) e = absurd cc
same_extent All (ByNumber r c) e = absurd cc
same_extent All (ByTime d t c) e = absurd cc
same_extent (ByPosition r c) All e = absurd cc
same_extent (ByPosition r c) (ByPosition s k) e =
    let one : r ≡ s = cc in
    let two : c ≡ k = cc in
    rw (one, two) refl
same_extent (ByPosition r c) (ByNumber s k) e = absurd cc
same_extent (ByPosition r c) (ByTime d t k) e = absurd cc
same_extent (ByNumber r c) All e = absurd cc
same_extent (ByNumber r c) (ByPosition s k) e = absurd cc
same_extent (ByNumber r c) (ByNumber s k) e =
    let one : r ≡ s = cc in
    let two : c ≡ k = cc in
    rw (one, two) refl
same_extent (ByNumber r c) (ByTime d t k) e = absurd cc
same_extent (ByTime d t c) All e = absurd cc
same_extent (ByTime d t c) (ByPosition s k) e = absurd cc
same_extent (ByTime d t c) (ByNumber s k) e = absurd cc
same_extent (ByTime d t c) (ByTime f u k) e =
    let dates : date_octets d ≡ date_octets f = cc in
    let times : time_octets t ≡ time_octets u = cc in
    let count : c ≡ k = cc in
    rw (same_date d f dates, same_time t u times, count) refl

abbrev range_with : Id → ℕ → Option ℕ → Extent → ReadRange
range_with object property index extent = record { object = object; property = property; index = index; extent = extent }

four : (a b : Id) (p q : ℕ) (i j : Option ℕ) (x y : Extent) → a ≡ b → p ≡ q → i ≡ j → x ≡ y → range_with a p i x ≡ range_with b q j y
four a b p q i j x y e f g h = rw (e, f, g, h) refl

pub same_range : (r s : ReadRange) → range_parameters r ≡ range_parameters s → r ≡ s
same_range r s e =
    let t = same_trio r.object s.object r.property s.property r.index s.index (extent_parameters r.extent) (extent_parameters s.extent) e in
    four r.object s.object r.property s.property r.index s.index r.extent s.extent t.object t.property t.index (same_extent r.extent s.extent t.others)

-- ---- the ACK of ReadRange

same_bit : (x y : ℕ) → x < 2 → y < 2 → eqb x 1 ≡ eqb y 1 → x ≡ y
same_bit x y small low e = elim (cases_Bool (eqb y 1)) [
  | inl set ↦ omega (arith, eqb-true x 1 (e ∙ set), eqb-true y 1 set)
  | inr clear ↦ omega (arith, eqb-false x 1 (e ∙ clear), eqb-false y 1 clear)
]

same_flags : (f g : ℕ) → f < 256 → g < 256 → f % 32 ≡ 0 → g % 32 ≡ 0 → flag_bits f ≡ flag_bits g → f ≡ g
same_flags f g small low rest clear e =
    let seven : bit f 7 ≡ bit g 7 = cc in
    let six : bit f 6 ≡ bit g 6 = cc in
    let five : bit f 5 ≡ bit g 5 = cc in
    let a = same_bit ((f / 2 ^ 7) % 2) ((g / 2 ^ 7) % 2) (omega arith) (omega arith) seven in
    let b = same_bit ((f / 2 ^ 6) % 2) ((g / 2 ^ 6) % 2) (omega arith) (omega arith) six in
    let c = same_bit ((f / 2 ^ 5) % 2) ((g / 2 ^ 5) % 2) (omega arith) (omega arith) five in
    omega arith

pub same_range_ack : (a b : ReadRangeAck) → a.flags < 256 → b.flags < 256 → a.flags % 32 ≡ 0 → b.flags % 32 ≡ 0 → ack_parameters a ≡ ack_parameters b
    → (a.object ≡ b.object) × (a.property ≡ b.property) × (a.index ≡ b.index) × (a.flags ≡ b.flags) × (a.count ≡ b.count) × (a.items.now ≡ b.items.now) × (a.first_number ≡ b.first_number)
same_range_ack a b small low rest clear e =
    let t = same_trio a.object b.object a.property b.property a.index b.index
    (Value (Bits (flag_bits a.flags)) ∷ Value (Unsigned a.count) ∷ Mark 5 ∷ Inside a.items.now ∷ number_parameter a.first_number ∷ [])
    (Value (Bits (flag_bits b.flags)) ∷ Value (Unsigned b.count) ∷ Mark 5 ∷ Inside b.items.now ∷ number_parameter b.first_number ∷ []) e in
    let others = t.others in
    let flags : flag_bits a.flags ≡ flag_bits b.flags = cc in
    let count : a.count ≡ b.count = cc in
    let items : a.items.now ≡ b.items.now = cc in
    let first : number_parameter a.first_number ≡ number_parameter b.first_number = cc in
    (t.object, t.property, t.index, same_flags a.flags b.flags small low rest clear flags, count, items, same_number a.first_number b.first_number first)
