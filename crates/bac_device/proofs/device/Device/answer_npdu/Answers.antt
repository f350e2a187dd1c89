use Rattle.std.proofs.Common.{◌≡◌, ap, arith, Option, Some, sym, subst, ◌∙◌}
use Rattle.bac_wire.specs.OptionChain.{GivesSome}
use Rattle.bac_apdu.specs.Apdu.{apdu_of}
use Rattle.bac_objects.specs.State.{State}
use Rattle.bac_device.specs.Answer.{answer_apdu}
use Rattle.bac_device.specs.Receiving.{heard_at}
use Rattle.bac_device.specs.Views.{heard_of}
use Rattle.bac_device.specs.declared.receiving.Heard.{Heard as Code}
use Rattle.bac_device.proofs.Said.{heads_there, sent_back}
use Rattle.bac_device.proofs.Told.{heard_way}
use Rattle.bac_device.proofs.device.Device.answer_npdu.Goals as goal

pub send_back-requires-clause-heads : goal.send_back-requires-clause-heads
send_back-requires-clause-heads c =
    heads_there (answer_apdu c.args.self.now c.in-Some.heard.to_all (apdu_of c.in-Some.heard.apdu)).0 c.answer_apdu.new.out
    (sym c.answer_apdu.ensures.answered ∙ c.if-answer_apdu.true) c.answer_apdu.ensures.apdu

pub send_back-requires-clause-way : goal.send_back-requires-clause-way
send_back-requires-clause-way c =
    let heard : heard_at c.args.to_all c.args.npdu.now ≡ Some (heard_of c.in-Some.heard) =
    subst (λ (o : Option Code). GivesSome heard_of o (heard_at c.args.to_all c.args.npdu.now)) c.in-Some.is c.heard_at.ensures in
    heard_way c.args.to_all c.args.npdu.now (heard_of c.in-Some.heard) heard

pub returns-then-answer_apdu-clause-octets : goal.returns-then-answer_apdu-clause-octets
returns-then-answer_apdu-clause-octets c =
    let heard : heard_at c.args.to_all c.args.npdu.now ≡ Some (heard_of c.in-Some.heard) =
    subst (λ (o : Option Code). GivesSome heard_of o (heard_at c.args.to_all c.args.npdu.now)) c.in-Some.is c.heard_at.ensures in
    sent_back c.args.self.now c.args.to c.args.to_all c.args.npdu.now (heard_of c.in-Some.heard) c.answer_apdu.new.out c.send_back.new.out heard (omega (arith, c.self.invariant.greatest_reply, ap (λ (d : State). d.reply_size) c.self.view_is))
    (sym c.answer_apdu.ensures.answered ∙ c.if-answer_apdu.true) c.answer_apdu.ensures.apdu c.send_back.ensures
