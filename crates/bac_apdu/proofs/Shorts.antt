-- Requests and short APDUs fit a datagram.
use Rattle.std.proofs.Common.{◌≡◌, ℕ, ◌+◌, ◌<◌, ◌≤◌, ℤ, Bool, false, List, [], ◌∷◌, ◌++◌, length, Option, Some, None, refl, arith, length-append}
use Rattle.bac_wire.specs.Primitive.{Id, Primitive, Unsigned, Signed, Enumerated, Object, Date, Time}
use Rattle.bac_wire.specs.Stamp.{date_octets, time_octets}
use Rattle.bac_wire.proofs.Sizes.{length-unsigned, length-signed, few_octets, some_octets, few_behind, some_behind}
use Rattle.bac_apdu.specs.declared.service.read_property.ReadProperty.{ReadProperty}
use Rattle.bac_apdu.specs.declared.service.read_range.ReadRange.{ReadRange}
use Rattle.bac_apdu.specs.declared.service.i_am.IAm.{IAm}
use Rattle.bac_apdu.specs.declared.service.extent.Extent.{Extent}
use Rattle.bac_apdu.specs.declared.service.extent.Extent.TheVariants.{All, ByPosition, ByNumber, ByTime}
use Rattle.bac_apdu.specs.Adding.{context_octets, value_octets, open_octets, close_octets}
use Rattle.bac_apdu.specs.Apdu.{Confirmed, Error, apdu_octets}
use Rattle.bac_apdu.specs.Form.{Form, end, optional, unsigned, is_u32, Parameter, number_parameter}
use Rattle.bac_apdu.specs.FormCanon.{canon_form}
use Rattle.bac_apdu.specs.Frame.{frame_octets}
use Rattle.bac_apdu.specs.Npdu.{Header, place_octets, header_octets, Place, hops_octets, IsPlace}
use Rattle.bac_apdu.specs.Service.Choice.{read_range_service}
use Rattle.bac_apdu.specs.Service.ReadProperty.{read_property, property_parameters}
use Rattle.bac_apdu.specs.Service.ReadRange.{read_range, range_parameters}
use Rattle.bac_apdu.specs.Service.Extent.{range, extent_parameters}
use Rattle.bac_apdu.specs.Service.IAm.{i_am, i_am_parameters}
use Rattle.bac_apdu.specs.Route.{IsWay}

-- ---- single parameters

object_behind : (tag : ℕ) (id : Id) → tag < 15 → length (context_octets tag (Object id)) ≡ 5
object_behind tag id low = few_behind tag (Object id) low (omega arith)

pub number_behind : (tag n : ℕ) → tag < 15 → length (context_octets tag (Unsigned n)) ≤ 10
number_behind tag n low = omega (arith, some_behind tag (Unsigned n) low (omega (arith, length-unsigned n)), length-unsigned n)

enumerated_behind : (tag n : ℕ) → tag < 15 → length (context_octets tag (Enumerated n)) ≤ 10
enumerated_behind tag n low = omega (arith, some_behind tag (Enumerated n) low (omega (arith, length-unsigned n)), length-unsigned n)

number_short : (n : ℕ) → length (value_octets (Unsigned n)) ≤ 10
number_short n = omega (arith, some_octets (Unsigned n) (omega (arith, length-unsigned n)), length-unsigned n)

enumerated_short : (n : ℕ) → length (value_octets (Enumerated n)) ≤ 10
enumerated_short n = omega (arith, some_octets (Enumerated n) (omega (arith, length-unsigned n)), length-unsigned n)

signed_short : (z : ℤ) → length (value_octets (Signed z)) ≤ 10
signed_short z = omega (arith, some_octets (Signed z) (omega (arith, length-signed z)), length-signed z)

object_short : (id : Id) → length (value_octets (Object id)) ≤ 5
object_short id = few_octets (Object id) (omega arith)

date_short : (octets : List ℕ) → length octets ≡ 4 → length (value_octets (Date octets)) ≤ 5
date_short octets four = omega (arith, few_octets (Date octets) (omega arith), four)

time_short : (octets : List ℕ) → length octets ≡ 4 → length (value_octets (Time octets)) ≤ 5
time_short octets four = omega (arith, few_octets (Time octets) (omega arith), four)

marks_three : length (open_octets 3) + length (close_octets 3) ≡ 2
unfolding open_octets close_octets
marks_three = refl

marks_six : length (open_octets 6) + length (close_octets 6) ≡ 2
unfolding open_octets close_octets
marks_six = refl

marks_seven : length (open_octets 7) + length (close_octets 7) ≡ 2
unfolding open_octets close_octets
marks_seven = refl

optional_short : (tag : ℕ) (fits : Primitive → Bool) (o : Option ℕ) (form : Form) (items : List Parameter) → tag < 15 → length (canon_form (optional tag unsigned fits form) (number_parameter o ∷ items)) ≤ 10 + length (canon_form form items)
optional_short tag fits None form items low = omega arith
optional_short tag fits (Some n) form items low = omega (arith, length-append (context_octets tag (Unsigned n)) (canon_form form items), number_behind tag n low)

-- ---- requests

length-four : (a b c d : List ℕ) → length (a ++ (b ++ (c ++ (d ++ [])))) ≡ length a + length b + length c + length d
length-four a b c d = omega (arith, length-append a (b ++ (c ++ (d ++ []))), length-append b (c ++ (d ++ [])), length-append c (d ++ []), length-append {A = ℕ} d [])

extent_short : (extent : Extent) → length (canon_form range (extent_parameters extent)) ≤ 22
extent_short All = omega arith
extent_short (ByPosition reference count) = omega (arith, length-four (open_octets 3) (value_octets (Unsigned reference)) (value_octets (Signed count)) (close_octets 3), number_short reference, signed_short count, marks_three)
extent_short (ByNumber reference count) = omega (arith, length-four (open_octets 6) (value_octets (Unsigned reference)) (value_octets (Signed count)) (close_octets 6), number_short reference, signed_short count, marks_six)
extent_short (ByTime date time count) =
    let d = value_octets (Date (date_octets date)) in
    let t = value_octets (Time (time_octets time)) in
    let c = value_octets (Signed count) in
    omega (arith, length-append (open_octets 7) (d ++ (t ++ (c ++ (close_octets 7 ++ [])))), length-four d t c (close_octets 7), date_short (date_octets date) refl, time_short (time_octets time) refl, signed_short count, marks_seven)

-- object, property and index, before what each service has after them
trio_short : (object : Id) (property : ℕ) (index : Option ℕ) (form : Form) (items : List Parameter)
    → length (context_octets 0 (Object object) ++ (context_octets 1 (Enumerated property) ++ canon_form (optional 2 unsigned is_u32 form) (number_parameter index ∷ items))) ≤ 25 + length (canon_form form items)
trio_short object property index form items =
    let rest = canon_form (optional 2 unsigned is_u32 form) (number_parameter index ∷ items) in
    omega (
      arith,
      length-append (context_octets 0 (Object object)) (context_octets 1 (Enumerated property) ++ rest),
      length-append (context_octets 1 (Enumerated property)) rest,
      object_behind 0 object (omega arith),
      enumerated_behind 1 property (omega arith),
      optional_short 2 is_u32 index form items (omega arith),
    )

pub property_short : (p : ReadProperty) → length (canon_form read_property (property_parameters p)) ≤ 25
property_short p = trio_short p.object p.property p.index end []

pub range_short : (r : ReadRange) → length (canon_form read_range (range_parameters r)) ≤ 47
range_short r = omega (arith, trio_short r.object r.property r.index range (extent_parameters r.extent), extent_short r.extent)

pub range_apdu_short : (r : ReadRange) (size invoke : ℕ) → length (apdu_octets (Confirmed false size invoke read_range_service (canon_form read_range (range_parameters r)))) ≤ 51
range_apdu_short r size invoke = omega (arith, range_short r)

pub i_am_short : (a : IAm) → length (canon_form i_am (i_am_parameters a)) ≤ 35
i_am_short a = omega (
  arith,
  length-four (value_octets (Object a.device)) (value_octets (Unsigned a.max_apdu)) (value_octets (Enumerated a.segmentation)) (value_octets (Unsigned a.vendor)),
  object_short a.device,
  number_short a.max_apdu,
  enumerated_short a.segmentation,
  number_short a.vendor,
)

-- ---- APDUs, headers and frames

pub error_short : (invoke service class code : ℕ) → length (apdu_octets (Error invoke service class code)) ≤ 23
error_short invoke service class code = omega (arith, length-append (value_octets (Enumerated class)) (value_octets (Enumerated code)), enumerated_short class, enumerated_short code)

pub length-header : (h : Header) → h.dest ≡ None → h.source ≡ None → length (header_octets h) ≡ 2
unfolding place_octets
length-header h dest source = rw (dest, source) refl

pub length-frame : (body : List ℕ) → length (frame_octets body) ≡ 4 + length body
unfolding frame_octets
length-frame body = omega arith

-- ---- places

pub length-place : (place : Option Place) → IsWay place → length (place_octets place) ≤ 18
unfolding place_octets
length-place None way = omega arith
length-place (Some place) way = omega (arith, way.3)

pub length-no_place : length (place_octets None) ≡ 0
unfolding place_octets
length-no_place = refl

pub length-hops : (place : Option Place) (hops : ℕ) → length (hops_octets place hops) ≤ 1
length-hops None hops = omega arith
length-hops (Some place) hops = omega arith

-- what can be told of a way can be written
pub place_valid : (place : Option Place) → IsWay place → IsPlace place
place_valid None way = tt
place_valid (Some place) way = (omega (arith, way.1), omega (arith, way.3))
