-- What octets encode is in range, so that it may be written.
use Rattle.std.proofs.Common.{◌≡◌, ℕ, ◌+◌, ◌-◌, ◌*◌, ◌^◌, ◌<◌, ◌≤◌, ℤ, ltb, Bool, List, [], ◌∷◌, ◌++◌, length, get_or, take, Option, Some, None, Result, Ok, Err, refl, ap, sym, subst, ◌∙◌, length-append, arith, inl, inr, FitsSigned}
use Rattle.std.proofs.lemmas.Bool.{ltb-true, leb-true, and_parts, cases_lt}
use Rattle.std.proofs.lemmas.List.{length-take, take_all, take_at}
use Rattle.std.proofs.lemmas.Int.{ints}
use Rattle.std.specs.Int.{w64}
use Rattle.std.specs.Prelude.{IfOk, IfSome}
use Rattle.bac_wire.specs.Primitive.{Id, Primitive, Null, Boolean, Unsigned, Signed, Real, Double, Octets, Chars, Bits, Enumerated, Date, Time, Object}
use Rattle.bac_wire.specs.Number.{number, signed, bits_of}
use Rattle.bac_wire.specs.Spelling.{IsTagged, StandsFor, IsShort, Spells}
use Rattle.bac_wire.specs.Canon.{IsValid}
use Rattle.bac_wire.specs.View.{view}
use Rattle.bac_wire.proofs.Numbers.{IsBytes, IsBytes-take, number_small, signed_low, signed_high}
use Rattle.bac_wire.proofs.Values.{IsBytes-after}
use Rattle.bac_apdu.specs.declared.service.who_is.WhoIs.{WhoIs}
use Rattle.bac_apdu.specs.declared.service.i_am.IAm.{IAm}
use Rattle.bac_apdu.specs.declared.service.read_property.ReadProperty.{ReadProperty}
use Rattle.bac_apdu.specs.declared.service.read_property_ack.ReadPropertyAck.{ReadPropertyAck}
use Rattle.bac_apdu.specs.declared.service.write_property.WriteProperty.{WriteProperty}
use Rattle.bac_apdu.specs.declared.service.read_range_ack.ReadRangeAck.{ReadRangeAck}
use Rattle.bac_apdu.specs.Form.{Form, end, optional, Parameter, Reads, unsigned, is_u32, number_parameter}
use Rattle.bac_apdu.specs.Service.WhoIs.{who_is, who_is_parameters, limit_parameters, AreLimits}
use Rattle.bac_apdu.specs.Service.IAm.{i_am, i_am_parameters, IsAnnouncement}
use Rattle.bac_apdu.specs.Service.PropertyReference.{property_then, property_parameters_then, IsIndex, IsProperty}
use Rattle.bac_apdu.specs.Service.ReadProperty.{read_property, property_parameters}
use Rattle.bac_apdu.specs.Service.ReadPropertyAck.{read_property_ack, property_ack_parameters, property_ack_of, value_parameters, values, IsPropertyAck}
use Rattle.bac_apdu.specs.Service.WriteProperty.{write_property, write_parameters, write_of_code, setting, setting_parameters, IsPriority, IsPropertyWrite}
use Rattle.bac_apdu.specs.declared.service.read_range.ReadRange.{ReadRange}
use Rattle.bac_apdu.specs.Service.Extent.{range, extent_parameters, IsExtent}
use Rattle.bac_apdu.specs.Service.ReadRange.{read_range, range_parameters, IsRange}
use Rattle.bac_apdu.specs.Service.ReadRangeAck.{read_range_ack, ack_parameters, range_ack_of, records, record_parameters, is_first, IsFirst, IsRangeAck}

-- ---- from what was found to what holds of it

module _ {X : Type 0} {P Q : X → Type 0} (step : (x : X) → P x → Q x) where
  pub if_ok : {F : Type 0} (r : Result X F) → IfOk r P → IfOk r Q
  if_ok (Ok x) p = step x p
  if_ok (Err e) p = tt

  pub if_some : (r : Option X) → IfSome r P → IfSome r Q
  if_some (Some x) p = step x p
  if_some None p = tt

module _ {X : Type 0} {P Q R : X → Type 0} (step : (x : X) → P x → Q x → R x) where
  pub both_ok : {F : Type 0} (r : Result X F) → IfOk r P → IfOk r Q → IfOk r R
  both_ok (Ok x) p q = step x p q
  both_ok (Err e) p q = tt

-- ---- contents

unsigned_small : (contents : List ℕ) (n : ℕ) → IsBytes contents → IsShort contents → number contents ≡ n → n < 2 ^ 64
unsigned_small contents n octets short e =
    let below = number_small contents 8 8 octets (omega arith) in
    let all : take 8 contents ≡ contents = take_all 8 contents short.1 in
    omega (arith, subst (λ (l : List ℕ). number l < 256 ^ 8) all below, e)

signed_small : (contents : List ℕ) (z : ℤ) → IsBytes contents → IsShort contents → signed contents ≡ z → FitsSigned w64 z
signed_small contents z octets short e = elim (cases_lt (get_or contents 0 0) 128) [
  | inl low ↦ let s = signed_low contents short.0 short.1 octets low in subst (λ (y : ℤ). FitsSigned w64 y) (sym s.0 ∙ e) (omega (arith, ints, s.1))
  | inr high ↦ let s = signed_high contents short.0 short.1 octets high in subst (λ (y : ℤ). FitsSigned w64 y) (sym s.0 ∙ e) (omega (arith, ints, s.1))
]

object_small : (contents : List ℕ) (id : Id) → IsBytes contents → length contents ≡ 4 → id.instance < 2 ^ 22 → number contents ≡ id.kind * 2 ^ 22 + id.instance → IsValid (Object id)
object_small contents id octets four instance e =
    let below = number_small contents 4 4 octets (omega arith) in
    let all : take 4 contents ≡ contents = take_all 4 contents (omega (arith, four)) in
    (omega (arith, subst (λ (l : List ℕ). number l < 256 ^ 4) all below, e), instance)

few_bits : (unused : ℕ) (octets : List ℕ) (bits : List Bool) → take (8 * length octets - unused) (bits_of octets) ≡ bits → length bits ≤ 8 * length octets
few_bits unused octets bits e = omega (arith, length-take (8 * length octets - unused) (bits_of octets), ap (λ (l : List Bool). length l) e)

-- A value is valid if its contents have fewer than 2 ^ 29 octets.
stands_valid : (contents : List ℕ) (value : Primitive) → IsBytes contents → length contents < 2 ^ 29 → StandsFor contents value → IsValid value
stands_valid contents Null octets few s = tt
stands_valid contents (Boolean b) octets few s = tt
stands_valid contents (Unsigned n) octets few s = unsigned_small contents n octets s.0 s.1
stands_valid contents (Signed z) octets few s = signed_small contents z octets s.0 s.1
stands_valid contents (Real o) octets few s = subst (λ (l : List ℕ). length l ≡ 4) s.1 s.0
stands_valid contents (Double o) octets few s = subst (λ (l : List ℕ). length l ≡ 8) s.1 s.0
stands_valid contents (Octets o) octets few s = omega (arith, few, ap (λ (l : List ℕ). length l) s)
stands_valid contents (Chars set o) octets few s = omega (arith, few, ap (λ (l : List ℕ). length l) s)
stands_valid contents (Bits bits) octets few s = omega (arith, few, ap (λ (l : List ℕ). length l) s.2, few_bits s.0 s.1 bits s.5)
stands_valid contents (Enumerated n) octets few s = s.2
stands_valid contents (Date o) octets few s = subst (λ (l : List ℕ). length l ≡ 4) s.1 s.0
stands_valid contents (Time o) octets few s = subst (λ (l : List ℕ). length l ≡ 4) s.1 s.0
stands_valid contents (Object id) octets few s = object_small contents id octets s.0 s.1 s.2

-- ---- a tag with its contents

contents_bytes : (class tag : ℕ) (contents text : List ℕ) → IsBytes text → IsTagged class tag contents text → IsBytes contents
contents_bytes class tag contents text octets t = λ i. IsBytes-after t.size (t.size ++ contents) contents refl (λ j. IsBytes-after t.head text (t.size ++ contents) t.parts octets j) i

contents_few : (class tag : ℕ) (contents text : List ℕ) → IsTagged class tag contents text → length contents ≤ length text
contents_few class tag contents text t = omega (arith, ap (λ (l : List ℕ). length l) t.parts, length-append t.head (t.size ++ contents), length-append t.size contents)

tagged_valid : (class tag : ℕ) (value : Primitive) (contents text : List ℕ) → IsBytes text → length text < 2 ^ 29 → IsTagged class tag contents text → StandsFor contents value → IsValid value
tagged_valid class tag value contents text octets few t s = stands_valid contents value (λ i. contents_bytes class tag contents text octets t i) (omega (arith, few, contents_few class tag contents text t)) s

spelled_valid : (value : Primitive) (text : List ℕ) → IsBytes text → length text < 2 ^ 29 → Spells text value → IsValid value
spelled_valid Null text octets few s = tt
spelled_valid (Boolean b) text octets few s = tt
spelled_valid (Unsigned n) text octets few s = tagged_valid 0 2 (Unsigned n) s.0 text octets few s.1 s.2
spelled_valid (Signed z) text octets few s = tagged_valid 0 3 (Signed z) s.0 text octets few s.1 s.2
spelled_valid (Real o) text octets few s = tagged_valid 0 4 (Real o) s.0 text octets few s.1 s.2
spelled_valid (Double o) text octets few s = tagged_valid 0 5 (Double o) s.0 text octets few s.1 s.2
spelled_valid (Octets o) text octets few s = tagged_valid 0 6 (Octets o) s.0 text octets few s.1 s.2
spelled_valid (Chars set o) text octets few s = tagged_valid 0 7 (Chars set o) s.0 text octets few s.1 s.2
spelled_valid (Bits bits) text octets few s = tagged_valid 0 8 (Bits bits) s.0 text octets few s.1 s.2
spelled_valid (Enumerated n) text octets few s = tagged_valid 0 9 (Enumerated n) s.0 text octets few s.1 s.2
spelled_valid (Date o) text octets few s = tagged_valid 0 10 (Date o) s.0 text octets few s.1 s.2
spelled_valid (Time o) text octets few s = tagged_valid 0 11 (Time o) s.0 text octets few s.1 s.2
spelled_valid (Object id) text octets few s = tagged_valid 0 12 (Object id) s.0 text octets few s.1 s.2

-- ---- parts of octets

front_bytes : (front rest text : List ℕ) → text ≡ front ++ rest → IsBytes text → IsBytes front
front_bytes front rest text e octets = λ i. subst (λ (l : List ℕ). get_or l i 0 < 256) (ap (λ (l : List ℕ). take (length front) l) e ∙ take_at front rest (length front) refl) (IsBytes-take (length front) text octets i)

parts_length : (front rest text : List ℕ) → text ≡ front ++ rest → length text ≡ length front + length rest
parts_length front rest text e = ap (λ (l : List ℕ). length l) e ∙ length-append front rest

-- ---- Who-Is and I-Am

limits_in_range : (limits : Option (ℕ × ℕ)) (bytes : List ℕ) → Reads who_is bytes (limit_parameters limits) → AreLimits limits
limits_in_range None bytes r = tt
limits_in_range (Some limits) [] r = absurd cc
limits_in_range (Some limits) (octet ∷ bytes) r = (leb-true _ _ r.3.4, leb-true _ _ r.4.3.4)

pub who_is_in_range : (bytes : List ℕ) (w : WhoIs) → Reads who_is bytes (who_is_parameters w) → AreLimits w.limits
who_is_in_range bytes w r = limits_in_range w.limits bytes r

-- ---- object, property and index, and what follows them

index_in_range : (form : Form) (text : List ℕ) (index : Option ℕ) (items : List Parameter) → Reads (optional 2 unsigned is_u32 form) text (number_parameter index ∷ items) → IsIndex index
index_in_range form text None items r = tt
index_in_range form text (Some n) items (inl r) = ltb-true _ _ r.4.4
index_in_range form text (Some n) items (inr r) = absurd cc

record After (form : Form) (text : List ℕ) (items : List Parameter) : Type 0 where
  rest : List ℕ
  octets : IsBytes rest
  few : length rest ≤ length text
  reads : Reads form rest items

after_index : (form : Form) (text : List ℕ) (item : Parameter) (items : List Parameter) → IsBytes text → Reads (optional 2 unsigned is_u32 form) text (item ∷ items) → After form text items
after_index form text item items octets (inl r) = record { rest = r.2; octets = λ i. IsBytes-after r.1 text r.2 r.3 octets i; few = omega (arith, parts_length r.1 r.2 text r.3); reads = r.5 }
after_index form text item items octets (inr r) = record { rest = text; octets = octets; few = omega arith; reads = r.2 }

module _ (form : Form) (text : List ℕ) (object : Id) (property : ℕ) (index : Option ℕ) (items : List Parameter) (octets : IsBytes text) (r : Reads (property_then form) text (property_parameters_then object property index items)) where
  property_in_range : IsProperty object property index
  property_in_range =
      let front : IsBytes r.0 = λ i. front_bytes r.0 r.1 text r.2 octets i in
      let id = object_small r.3.0 object (λ i. contents_bytes 8 0 r.3.0 r.0 front r.3.1 i) r.3.3.0 r.3.3.1 r.3.3.2 in
      (id, r.4.3.3.2, index_in_range form r.4.1 index items r.4.4)

  property_after : After form text items
  property_after =
      let tail : IsBytes r.1 = λ i. IsBytes-after r.0 text r.1 r.2 octets i in
      let a = after_index form r.4.1 (number_parameter index) items (λ i. IsBytes-after r.4.0 r.1 r.4.1 r.4.2 tail i) r.4.4 in
      record { rest = a.rest; octets = a.octets; few = omega (arith, a.few, parts_length r.0 r.1 text r.2, parts_length r.4.0 r.4.1 r.1 r.4.2); reads = a.reads }

pub read_property_in_range : (bytes : List ℕ) → IsBytes bytes → (p : ReadProperty) → Reads read_property bytes (property_parameters p) → IsProperty p.object p.property p.index
read_property_in_range bytes octets p r = property_in_range end bytes p.object p.property p.index [] octets r

pub property_ack_in_range : (bytes : List ℕ) → IsBytes bytes → (a : ReadPropertyAck) → Reads read_property_ack bytes (property_ack_parameters a) → IsPropertyAck (property_ack_of a)
property_ack_in_range bytes octets a r =
    let after = property_after values bytes a.object a.property a.index (value_parameters a) octets r in
    (property_in_range values bytes a.object a.property a.index (value_parameters a) octets r, after.reads.4.3.2)

pub range_in_range : (bytes : List ℕ) → IsBytes bytes → (r : ReadRange) → Reads read_range bytes (range_parameters r) → IsExtent r.extent → IsRange r
range_in_range bytes octets r reads extent = (property_in_range range bytes r.object r.property r.index (extent_parameters r.extent) octets reads, extent)

pub write_in_range : (bytes : List ℕ) → IsBytes bytes → length bytes < 2 ^ 29 → (w : WriteProperty) → Reads write_property bytes (write_parameters w) → IsPriority w.priority → IsPropertyWrite (write_of_code w)
write_in_range bytes octets few w r priority =
    let after = property_after setting bytes w.object w.property w.index (setting_parameters w) octets r in
    let rest = after.reads in
    let tail : IsBytes rest.1 = λ i. IsBytes-after rest.0 after.rest rest.1 rest.2 (λ j. after.octets j) i in
    let value : IsBytes rest.4.0 = λ i. front_bytes rest.4.0 rest.4.1 rest.1 rest.4.2 tail i in
    let less : length rest.4.0 < 2 ^ 29 = omega (arith, few, after.few, parts_length rest.0 rest.1 after.rest rest.2, parts_length rest.4.0 rest.4.1 rest.1 rest.4.2) in
    (property_in_range setting bytes w.object w.property w.index (setting_parameters w) octets r, spelled_valid (view w.value) rest.4.0 value less rest.4.3, priority)

first_in_range : (text : List ℕ) (first : Option ℕ) → Reads (optional 6 unsigned is_first end) text (number_parameter first ∷ []) → IsFirst first
first_in_range text None r = tt
first_in_range text (Some n) (inl r) = let p = and_parts (ltb 0 n) (ltb n (2 ^ 32)) r.4.4 in (ltb-true _ _ p.0, ltb-true _ _ p.1)
first_in_range text (Some n) (inr r) = absurd cc

pub range_ack_in_range : (bytes : List ℕ) → IsBytes bytes → (a : ReadRangeAck) → Reads read_range_ack bytes (ack_parameters a) → IsRangeAck (range_ack_of a)
range_ack_in_range bytes octets a r =
    let after = property_after records bytes a.object a.property a.index (record_parameters a) octets r in
    let flags = after.reads in
    let tail : IsBytes flags.1 = λ i. IsBytes-after flags.0 after.rest flags.1 flags.2 (λ j. after.octets j) i in
    let count = flags.4 in
    let front : IsBytes count.0 = λ i. front_bytes count.0 count.1 flags.1 count.2 tail i in
    let counted : a.count < 2 ^ 64 = unsigned_small count.3.0 a.count (λ i. contents_bytes 8 4 count.3.0 count.0 front count.3.1 i) count.3.3.0 count.3.3.1 in
    (property_in_range records bytes a.object a.property a.index (record_parameters a) octets r, counted, first_in_range count.4.4.1 a.first_number count.4.4.4, count.4.4.3.2)

pub i_am_in_range : (bytes : List ℕ) → IsBytes bytes → (a : IAm) → Reads i_am bytes (i_am_parameters a) → IsAnnouncement a
i_am_in_range bytes octets a r =
    let object : IsBytes r.0 = λ i. front_bytes r.0 r.1 bytes r.2 octets i in
    let tail : IsBytes r.1 = λ i. IsBytes-after r.0 bytes r.1 r.2 octets i in
    let size = r.4 in
    let front : IsBytes size.0 = λ i. front_bytes size.0 size.1 r.1 size.2 tail i in
    let after : IsBytes size.1 = λ i. IsBytes-after size.0 r.1 size.1 size.2 tail i in
    let segmentation = size.4 in
    let rest : IsBytes segmentation.1 = λ i. IsBytes-after segmentation.0 size.1 segmentation.1 segmentation.2 after i in
    let vendor = segmentation.4 in
    let last : IsBytes vendor.0 = λ i. front_bytes vendor.0 vendor.1 segmentation.1 vendor.2 rest i in
    let id = object_small r.3.0.0 a.device (λ i. contents_bytes 0 12 r.3.0.0 r.0 object r.3.0.1 i) r.3.0.2.0 r.3.0.2.1 r.3.0.2.2 in
    let octets_of = λ (n : ℕ) (text : List ℕ) (fits : IsBytes text) (s : Spells text (Unsigned n)). unsigned_small s.0 n (λ i. contents_bytes 0 2 s.0 text fits s.1 i) s.2.0 s.2.1 in
    (id, octets_of a.max_apdu size.0 front size.3.0, segmentation.3.0.2.2, octets_of a.vendor vendor.0 last vendor.3.0)
