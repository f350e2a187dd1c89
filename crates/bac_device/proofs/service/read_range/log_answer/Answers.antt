use Rattle.std.proofs.Common.{[], List, ℕ, ap, ◌∙◌}
use Rattle.bac_log.specs.Select.{IsTooSmall, answer_octets}
use Rattle.bac_log.specs.declared.ack.AnswerFault.TheVariants as fault
use Rattle.bac_device.specs.Answer.{records_ack}
use Rattle.bac_device.specs.Reply.{begun}
use Rattle.bac_device.proofs.Ranges.{ack_text, err_is, not_err, said_ack, said_refused}
use Rattle.bac_device.proofs.Replies.{begun_room, begun_size, begun_with}
use Rattle.bac_device.proofs.service.read_range.log_answer.Goals as goal

pub end_within-requires : goal.end_within-requires
end_within-requires c =
    begun_room c.answer_into.new.datagram _ (begun_with c.begin.new.out c.answer_into.new.datagram [] _ c.begin.ensures (c.in-Ok.ensures {u = tt}).written)

pub returns-in-Ok : goal.returns-in-Ok
returns-in-Ok c =
    let told = c.in-Ok.ensures {u = tt} in
    let r = c.args.request.now in
    let text = begun_with c.begin.new.out c.answer_into.new.datagram [] (answer_octets c.args.invoke r.object c.args.log.now r.extent c.args.limit) c.begin.ensures told.written
    ∙ ap (λ (l : List ℕ). begun l) (ack_text c.args.invoke r.object c.args.log.now r.extent c.args.limit) in
    let fits : IsTooSmall c.args.log.now r.extent c.args.limit → ⊥ = λ small. not_err c.in-Ok.field-0 fault.TooSmall (told.too_small.1 small) in
    c.end_within.ensures (records_ack c.args.limit c.args.invoke r.object r.extent c.args.log.now) text ∙ said_ack c.args.limit c.args.invoke r.object r.extent c.args.log.now fits

pub returns-in-Err : goal.returns-in-Err
returns-in-Err c =
    let told = c.in-Err.ensures {u = tt} in
    let r = c.args.request.now in
    c.abort.ensures ∙ said_refused c.args.limit c.args.invoke r.object r.extent c.args.log.now c.begin.new.out c.in-Err.field-0 c.requires.limit (begun_size c.begin.new.out [] c.begin.ensures) (λ e. told.too_small.0 (err_is c.in-Err.field-0 fault.TooSmall e)) (λ e. told.full.0 (err_is c.in-Err.field-0 fault.Full e))
