use Rattle.std.proofs.Common.{◌≡◌, IfOk, None, Option, Some, sym, ap, subst, ◌∙◌}
use Rattle.bac_apdu.specs.Service.ReadRangeAck.{RangeAck}
use Rattle.bac_link.specs.Heard.{heard_if}
use Rattle.bac_poll_steps.specs.Asked.{has_last, has_more, reply_from}
use Rattle.bac_poll_steps.specs.State.{PollState, Reply, maybe_reply}
use Rattle.bac_poll_steps.proofs.Taken.{heard_is}
use Rattle.bac_poll_steps.proofs.state.LogState.read.Goals as goal

pub returns-in-Some : goal.returns-in-Some
returns-in-Some c =
    let p : PollState = c.args.self.now in
    let is = heard_is p c.args.datagram.now ∙ ap (λ (o : Option RangeAck). reply_from p (heard_if p.walk.log o) (has_last o) (has_more o)) (c.in-Some.ensures {u = tt}) in
    subst (λ (x : Option Reply). IfOk c.read_ack.result (λ reply. maybe_reply reply ≡ x)) (sym is) c.read_ack.ensures

pub returns-in-None : goal.returns-in-None
returns-in-None c =
    let p : PollState = c.args.self.now in
    sym (heard_is p c.args.datagram.now ∙ ap (λ (o : Option RangeAck). reply_from p (heard_if p.walk.log o) (has_last o) (has_more o)) (c.in-None.ensures {u = tt}))
