-- What the parameters of an ACK say to a walk.
use Rattle.std.proofs.Common.{◌≡◌, ℕ, true, false, List, Option, Some, None, Result, ap, ◌∙◌}
use Rattle.std.specs.Result.{result_ok}
use Rattle.std.proofs.lemmas.Bool.{cond-true, cond-false}
use Rattle.bac_wire.specs.declared.fault.WireFault.{WireFault}
use Rattle.bac_wire.specs.Primitive.{Id}
use Rattle.bac_apdu.specs.Form.{Parameter}
use Rattle.bac_apdu.specs.FormReading.{form_at}
use Rattle.bac_apdu.specs.Service.ReadRangeAck.{read_range_ack, ack_parameters, range_ack_in, range_ack_of, read_range_ack_at}
use Rattle.bac_apdu.specs.declared.service.read_range_ack.ReadRangeAck.{ReadRangeAck}
use Rattle.bac_log.specs.declared.entry.Entry.{Entry}
use Rattle.bac_link.specs.Heard.{heard_at, heard_if, heard_of, heard_with, is_of_log, records_in}
use Rattle.std.specs.Option.{option_map}
use Rattle.bac_apdu.proofs.Named.{range_ack_shown}

option_of_none : (parameters : Option (List Parameter)) → parameters ≡ None → option_map range_ack_in parameters ≡ None
option_of_none items e = ap (option_map range_ack_in) e

pub heard_none : (log : Id) (bytes : List ℕ) → result_ok (form_at read_range_ack bytes) ≡ None → heard_at log bytes ≡ None
unfolding heard_at read_range_ack_at
heard_none log bytes e = ap (heard_if log) (option_of_none (result_ok (form_at read_range_ack bytes)) e)

heard_fields : (log : Id) (bytes : List ℕ) (a : ReadRangeAck) → result_ok (form_at read_range_ack bytes) ≡ Some (ack_parameters a) →
    heard_at log bytes ≡ heard_of log (range_ack_of a)
unfolding heard_at read_range_ack_at
heard_fields log bytes a e =
    ap (λ (o : Option (List Parameter)). heard_if log (option_map range_ack_in o)) e ∙ ap (heard_of log) (range_ack_shown a)

pub heard_other : (log : Id) (bytes : List ℕ) (a : ReadRangeAck) → result_ok (form_at read_range_ack bytes) ≡ Some (ack_parameters a) →
    is_of_log log (range_ack_of a) ≡ false → heard_at log bytes ≡ None
heard_other log bytes a e other =
    heard_fields log bytes a e ∙ cond-false (is_of_log log (range_ack_of a)) (heard_with a.first_number a.count (result_ok (records_in a.items.now))) None other

pub heard_read : (log : Id) (bytes : List ℕ) (a : ReadRangeAck) (r : Result (List Entry) WireFault) → result_ok (form_at read_range_ack bytes) ≡ Some (ack_parameters a) →
    is_of_log log (range_ack_of a) ≡ true → records_in a.items.now ≡ r → heard_at log bytes ≡ heard_with a.first_number a.count (result_ok r)
heard_read log bytes a r e own is =
    heard_fields log bytes a e ∙ cond-true (is_of_log log (range_ack_of a)) (heard_with a.first_number a.count (result_ok (records_in a.items.now))) None own
    ∙ ap (λ (x : Result (List Entry) WireFault). heard_with a.first_number a.count (result_ok x)) is
