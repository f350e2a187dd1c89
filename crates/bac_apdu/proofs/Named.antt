-- What was read as a list of items, read as a record with named fields.
use Rattle.std.proofs.Common.{◌≡◌, ℕ, List, Option, Some, None, Result, Ok, Err, refl, sym, ap}
use Rattle.std.specs.Option.{option_map}
use Rattle.std.specs.Result.{result_ok}
use Rattle.bac_wire.specs.Chain.{Gives, result_map}
use Rattle.bac_wire.specs.OptionChain.{GivesSome}
use Rattle.bac_apdu.specs.declared.reason.Reason.{Reason}
use Rattle.bac_apdu.specs.declared.service.who_is.WhoIs.{WhoIs}
use Rattle.bac_apdu.specs.declared.service.i_am.IAm.{IAm}
use Rattle.bac_apdu.specs.declared.service.read_property.ReadProperty.{ReadProperty}
use Rattle.bac_apdu.specs.declared.service.read_property_ack.ReadPropertyAck.{ReadPropertyAck}
use Rattle.bac_apdu.specs.declared.service.write_property.WriteProperty.{WriteProperty}
use Rattle.bac_apdu.specs.declared.service.extent.Extent.{Extent}
use Rattle.bac_apdu.specs.declared.service.extent.Extent.TheVariants.{All, ByPosition, ByNumber, ByTime}
use Rattle.bac_apdu.specs.declared.service.read_range.ReadRange.{ReadRange}
use Rattle.bac_apdu.specs.declared.service.read_range_ack.ReadRangeAck.{ReadRangeAck}
use Rattle.bac_apdu.specs.Form.{Form, Parameter, number_parameter, Reads}
use Rattle.bac_apdu.specs.FormReading.{form_at}
use Rattle.bac_apdu.specs.Fields.{number_in}
use Rattle.bac_apdu.specs.Service.WhoIs.{who_is_parameters, limit_parameters, who_is_in}
use Rattle.bac_apdu.specs.Service.IAm.{i_am_parameters, i_am_in}
use Rattle.bac_apdu.specs.Service.ReadProperty.{property_parameters, property_in}
use Rattle.bac_apdu.specs.Service.ReadPropertyAck.{PropertyAck, property_ack_parameters, property_ack_of, property_ack_in, property_ack_fields}
use Rattle.bac_apdu.specs.Service.WriteProperty.{write_parameters, write_of_code, write_in}
use Rattle.bac_apdu.specs.Service.Extent.{extent_parameters, extent_in}
use Rattle.bac_apdu.specs.Service.ReadRange.{range_parameters, range_in}
use Rattle.bac_apdu.specs.Service.ReadRangeAck.{RangeAck, ack_parameters, range_ack_of, range_ack_in, range_ack_fields}
use Rattle.bac_apdu.proofs.Forms.{form_again}

-- ---- what a reader returned

abbrev ok : {X : Type 0} → X → Result X Reason
ok x = Ok x

abbrev some : {X : Type 0} → X → Option X
some x = Some x

module _ {X Y : Type 0} (items_of : X → List Parameter) (back : List Parameter → Y) (shown : X → Y) (same : (x : X) → back (items_of x) ≡ shown x) where
  -- if the reason of a fault is told
  pub is_named : (r : Result X Reason) (read : Result (List Parameter) Reason) → Gives items_of r read → Gives shown r (result_map back read)
  is_named (Ok x) read e = rw e (ap ok (same x))
  is_named (Err reason) read e = rw e refl

  -- if it is left out
  pub is_named_some : (r : Option X) (read : Option (List Parameter)) → GivesSome items_of r read → GivesSome shown r (option_map back read)
  is_named_some (Some x) read e = rw e (ap some (same x))
  is_named_some None read e = rw e refl

-- the same reading, with the reason left out
pub gives_ok : {X : Type 0} (items_of : X → List Parameter) (r : Result X Reason) (read : Result (List Parameter) Reason) (given : Option X) → given ≡ result_ok r → Gives items_of r read → GivesSome items_of given (result_ok read)
gives_ok items_of (Ok x) read given same e = rw (same, e) refl
gives_ok items_of (Err reason) read given same e = rw (same, e) refl

-- if the record of the code is the record of the definitions

pub is_same : {X : Type 0} (r : Result X Reason) (s : Result X Reason) → Gives (λ x. x) r s → r ≡ s
is_same (Ok x) s e = sym e
is_same (Err reason) s e = sym e

pub is_same_some : {X : Type 0} (r : Option X) (s : Option X) → GivesSome (λ x. x) r s → r ≡ s
is_same_some (Some x) s e = sym e
is_same_some None s e = sym e

-- ---- what a writer wrote

module _ {Y : Type 0} (back : List Parameter → Y) (form : Form) (text : List ℕ) (items : List Parameter) (y : Y) (reads : Reads form text items) (same : back items ≡ y) where
  pub fields_again : result_map back (form_at form text) ≡ Ok y
  fields_again = rw (form_again form text items reads) (ap ok same)

  pub fields_again_some : option_map back (result_ok (form_at form text)) ≡ Some y
  fields_again_some = rw (form_again form text items reads) (ap some same)

-- ---- each service shows its fields

pub same_number : (n : Option ℕ) → number_in (number_parameter n) ≡ n
same_number None = refl
same_number (Some n) = refl

pub property_back : (p : ReadProperty) → property_in (property_parameters p) ≡ p
property_back p = rw (same_number p.index) refl

pub write_back : (w : WriteProperty) → write_in (write_parameters w) ≡ write_of_code w
write_back w = rw (same_number w.index, same_number w.priority) refl

limits_back : (limits : Option (ℕ × ℕ)) (w : WhoIs) → w ≡ record { limits = limits } → who_is_in (limit_parameters limits) ≡ w
limits_back None w e = sym e
limits_back (Some limits) w e = sym e

pub who_is_back : (w : WhoIs) → who_is_in (who_is_parameters w) ≡ w
who_is_back w = limits_back w.limits w refl

pub i_am_back : (a : IAm) → i_am_in (i_am_parameters a) ≡ a
i_am_back a = refl

extent_back : (extent : Extent) → extent_in (extent_parameters extent) ≡ extent
extent_back All = refl
extent_back (ByPosition reference count) = refl
extent_back (ByNumber reference count) = refl
extent_back (ByTime date time count) = refl

pub range_back : (r : ReadRange) → range_in (range_parameters r) ≡ r
range_back r = rw (same_number r.index, extent_back r.extent) refl

pub property_ack_back : (a : PropertyAck) → property_ack_in (property_ack_fields a) ≡ a
property_ack_back a = rw (same_number a.index) refl

pub property_ack_shown : (a : ReadPropertyAck) → property_ack_in (property_ack_parameters a) ≡ property_ack_of a
property_ack_shown a = property_ack_back (property_ack_of a)

pub range_ack_back : (a : RangeAck) → range_ack_in (range_ack_fields a) ≡ a
range_ack_back a = rw (same_number a.index, same_number a.first_number) refl

pub range_ack_shown : (a : ReadRangeAck) → range_ack_in (ack_parameters a) ≡ range_ack_of a
range_ack_shown a = range_ack_back (range_ack_of a)
