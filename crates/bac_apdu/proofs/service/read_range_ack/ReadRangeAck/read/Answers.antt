use Rattle.std.proofs.Common.{arith, rules, refl, Ok, Err}
use Rattle.bac_apdu.specs.declared.service.read_range_ack.ReadRangeAck.{ReadRangeAck}
use Rattle.bac_apdu.specs.Service.ReadRangeAck.{read_range_ack, ack_parameters}
use Rattle.bac_apdu.proofs.Forms.{is_found, is_only}
use Rattle.std.proofs.Common.{◌≡◌, ℕ, List, Option, Result, Some, None}
use Rattle.bac_wire.specs.Chain.{Gives}
use Rattle.bac_wire.specs.OptionChain.{GivesSome}
use Rattle.bac_apdu.specs.declared.reason.Reason.{Reason}
use Rattle.std.specs.Result.{result_ok}
use Rattle.bac_apdu.specs.FormReading.{form_at}
use Rattle.bac_apdu.specs.Service.ReadRangeAck.{range_ack_of, range_ack_in, read_range_ack_at}
use Rattle.bac_apdu.proofs.Named.{is_named_some, gives_ok, range_ack_shown}
use Rattle.bac_apdu.proofs.Encoded.{range_ack_in_range}
use Rattle.bac_apdu.proofs.service.read_range_ack.ReadRangeAck.read.Goals as goal

pub returns-in-Ok-clause-found : goal.returns-in-Ok-clause-found
returns-in-Ok-clause-found c = is_found ReadRangeAck ack_parameters read_range_ack c.args.bytes.now (Ok c.in-Ok.ack) (search rules) (λ i. omega (arith, c.type_inv.bytes i)) c.in-Ok.ensures.exact

pub returns-in-Ok-clause-only : goal.returns-in-Ok-clause-only
returns-in-Ok-clause-only c = is_only ReadRangeAck ack_parameters read_range_ack c.args.bytes.now (Ok c.in-Ok.ack) c.in-Ok.ensures.exact

pub returns-in-Err-clause-only : goal.returns-in-Err-clause-only
returns-in-Err-clause-only c = is_only ReadRangeAck ack_parameters read_range_ack c.args.bytes.now (Err c.in-Err.field-0) c.in-Err.ensures.exact

-- what was read, with named fields
named : (bytes : List ℕ) (r : Result ReadRangeAck Reason) (given : Option ReadRangeAck) → given ≡ result_ok r → Gives ack_parameters r (form_at read_range_ack bytes) → GivesSome range_ack_of given (read_range_ack_at bytes)
unfolding read_range_ack_at
named bytes r given same e = is_named_some ack_parameters range_ack_in range_ack_of range_ack_shown given (result_ok (form_at read_range_ack bytes)) (gives_ok ack_parameters r (form_at read_range_ack bytes) given same e)

pub returns-in-Ok-clause-named : goal.returns-in-Ok-clause-named
returns-in-Ok-clause-named c = named c.args.bytes.now (Ok c.in-Ok.ack) (Some c.in-Ok.ack) refl c.in-Ok.ensures.exact

pub returns-in-Err-clause-named : goal.returns-in-Err-clause-named
returns-in-Err-clause-named c = named c.args.bytes.now (Err c.in-Err.field-0) None refl c.in-Err.ensures.exact

pub returns-in-Ok-clause-in_range : goal.returns-in-Ok-clause-in_range
returns-in-Ok-clause-in_range c = range_ack_in_range c.args.bytes.now (λ i. omega (arith, c.type_inv.bytes i)) c.in-Ok.ack (returns-in-Ok-clause-found c)
