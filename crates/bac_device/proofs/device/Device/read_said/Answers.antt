use Rattle.std.proofs.Common.{rules, ◌≡◌, ap, subst, ◌∙◌, List, ℕ, Ok, Err, false}
use Rattle.bac_wire.specs.Primitive.{Id}
use Rattle.bac_apdu.specs.Apdu.{Complex}
use Rattle.bac_objects.specs.Reading.{fitted, read_of}
use Rattle.bac_objects.specs.State.{State}
use Rattle.bac_device.specs.Answer.{ack_octets}
use Rattle.bac_device.specs.Reply.{datagram_octets, error, limited}
use Rattle.bac_device.proofs.Acks.{said_fault, said_long, said_ok}
use Rattle.bac_device.proofs.device.Device.read_said.Goals as goal

pub returns-in-Ok : goal.returns-in-Ok
returns-in-Ok c =
    let d = c.args.self.now in
    let r = c.args.request.now in
    let read = subst (λ (s : State). Ok c.read_into.new.values ≡ fitted (read_of s r)) c.self.view_is c.in-Ok.ensures.told in
    c.acknowledge.ensures
    ∙ ap (λ (id : Id). datagram_octets (limited c.args.limit c.args.invoke (Complex false c.args.invoke 12 (ack_octets id r.property r.index c.octets.result.now)))) c.own_id.ensures
    ∙ said_ok d c.args.limit c.args.invoke r c.octets.result.now (read_of d r) (ap (λ (l : List ℕ). Ok l) c.octets.ensures.value ∙ read)

pub returns-in-Err-Fault : goal.returns-in-Err-Fault
returns-in-Err-Fault c =
    let d = c.args.self.now in
    let r = c.args.request.now in
    let read = subst (λ (s : State). Err c.in-Err-Fault.field-0 ≡ fitted (read_of s r)) c.self.view_is c.in-Err-Fault.ensures.told in
    let said : c.error.new.out ≡ datagram_octets (error c.args.invoke 12 c.in-Err-Fault.fault) = search rules in
    said ∙ said_fault d c.args.limit c.args.invoke r c.in-Err-Fault.fault c.in-Err-Fault.field-0 (read_of d r) c.in-Err-Fault.field-0-is read

pub returns-in-Err-TooLong : goal.returns-in-Err-TooLong
returns-in-Err-TooLong c =
    let d = c.args.self.now in
    let r = c.args.request.now in
    let read = subst (λ (s : State). Err c.in-Err-TooLong.field-0 ≡ fitted (read_of s r)) c.self.view_is c.in-Err-TooLong.ensures.told in
    c.abort.ensures ∙ said_long d c.args.limit c.args.invoke r c.in-Err-TooLong.field-0 (read_of d r) c.requires c.in-Err-TooLong.field-0-is read
