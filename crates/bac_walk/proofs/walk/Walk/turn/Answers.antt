use Rattle.std.proofs.Common.{Ok, Err, ap, inl, refl, subst}
use Rattle.bac_apdu.specs.declared.service.extent.Extent.{Extent}
use Rattle.bac_link.specs.Delivery.{now}
use Rattle.bac_link.specs.Links.{IsReply, our_question}
use Rattle.bac_link.specs.Path.{towards}
use Rattle.bac_link.specs.Requests.{next_invoke}
use Rattle.bac_link.specs.declared.exchanges.ExchangeFault.{ExchangeFault}
use Rattle.bac_link.specs.Heard.{heard_in}
use Rattle.bac_walk.specs.Replied.{progress_of}
use Rattle.bac_walk.specs.Walks.{question_of, wanted_at}
use Rattle.bac_walk.proofs.Asking.{asks_at, near_to, small_of, some_of, lost_is, refused_is, bad_reply_is}
use Rattle.bac_walk.proofs.Turns.{turn_of}
use Rattle.bac_walk.proofs.OurReply.{says_in}
use Rattle.bac_walk.proofs.Hearing.{turned_of, turned_goes}
use Rattle.bac_walk.proofs.Told.{has_asked, told_bad, told_turned}
use Rattle.bac_walk.proofs.Transacted.{asks_from, came_bad, came_turned}
use Rattle.bac_walk.proofs.walk.Walk.turn.Goals as goal

pub returns-in-Ok-hear-clause-ours : goal.returns-in-Ok-hear-clause-ours
returns-in-Ok-hear-clause-ours g c = λ r M H s ours next near.
    let w = c.args.self.now in
    let served = g.met.L.LogLink.serves c.args.link.now w.log r M H ours in
    let a = (c.in-Ok.ensures.ours w.log r M H (question_of w) ours c.question-question.ensures.asks).0 in
    let P : Extent → Type 0 = λ x. IsReply (our_question r M H w.log x (towards c.args.transactions.now.route)) a.0.0 c.in-Ok.datagram in
    let says = says_in c.in-Ok.datagram r M H w.log (wanted_at w s) (towards c.args.transactions.now.route) a.0.0 served (small_of w s c.question-question.ensures.asks.1) (near_to w s (now M) near) c.question-question.ensures.asks.2 (subst P (asks_at w s next) a.0.1) in
    turned_of (λ N. g.L.LogLink.is_ours c.exchange.new.link w.log r N H) r M H s w c.args.transactions.now.retries
    (g.L.LogLink.failures c.args.link.now) (g.L.LogLink.failures c.exchange.new.link) c.in-Ok-hear.turned c.hear.new.self
    (turn_of H M r s w (heard_in w.log c.in-Ok.datagram) (progress_of (Ok c.in-Ok-hear.turned)) c.hear.new.self (some_of w c.question-question.ensures.asks.1) next near served says (c.in-Ok-hear.ensures {u = tt})) a.1

pub returns-in-Err-clause-ours : goal.returns-in-Err-clause-ours
returns-in-Err-clause-ours g c = λ r M H s ours next near.
    let w = c.args.self.now in
    let served = g.met.L.LogLink.serves c.args.link.now w.log r M H ours in
    let a = (c.in-Ok.ensures.ours w.log r M H (question_of w) ours c.question-question.ensures.asks).0 in
    let P : Extent → Type 0 = λ x. IsReply (our_question r M H w.log x (towards c.args.transactions.now.route)) a.0.0 c.in-Ok.datagram in
    let says = says_in c.in-Ok.datagram r M H w.log (wanted_at w s) (towards c.args.transactions.now.route) a.0.0 served (small_of w s c.question-question.ensures.asks.1) (near_to w s (now M) near) c.question-question.ensures.asks.2 (subst P (asks_at w s next) a.0.1) in
    turn_of H M r s w (heard_in w.log c.in-Ok.datagram) (Err c.in-Err.field-0) c.hear.new.self (some_of w c.question-question.ensures.asks.1) next near served says (c.in-Err.ensures {u = tt})

pub returns-in-Ok-hear-clause-goes : goal.returns-in-Ok-hear-clause-goes
returns-in-Ok-hear-clause-goes g c = λ s. turned_goes c.args.self.now s (heard_in c.args.self.now.log c.in-Ok.datagram) c.in-Ok-hear.turned c.hear.new.self (c.in-Ok-hear.ensures {u = tt})

pub returns-in-Ok-hear-clause-lacking : goal.returns-in-Ok-hear-clause-lacking
returns-in-Ok-hear-clause-lacking g c = λ lacks.
    absurd (c.in-Ok.ensures.lacking c.args.self.now.log (question_of c.args.self.now) lacks c.question-question.ensures.asks).0

pub returns-in-Err-clause-lacking : goal.returns-in-Err-clause-lacking
returns-in-Err-clause-lacking g c = λ lacks.
    absurd (c.in-Ok.ensures.lacking c.args.self.now.log (question_of c.args.self.now) lacks c.question-question.ensures.asks).0

pub returns-in-Err-Lost-clause-lacking : goal.returns-in-Err-Lost-clause-lacking
returns-in-Err-Lost-clause-lacking g c = λ lacks.
    let e = (c.in-Err-Lost.ensures {u = tt}).lacking c.args.self.now.log (question_of c.args.self.now) lacks c.question-question.ensures.asks in
    (tt, e.1, λ sure. lost_is c.in-Err-Lost.field-0 c.in-Err-Lost.field-0-is (e.2 sure))

pub returns-in-Err-Refused-clause-lacking : goal.returns-in-Err-Refused-clause-lacking
returns-in-Err-Refused-clause-lacking g c = λ lacks.
    let e = (c.in-Err-Refused.ensures {u = tt}).lacking c.args.self.now.log (question_of c.args.self.now) lacks c.question-question.ensures.asks in
    (refused_is c.args.transactions.now.retries (g.L.LogLink.failures c.args.link.now) (g.L.LogLink.failures c.exchange.new.link) c.in-Err-Refused.field-0 c.in-Err-Refused.refusal c.in-Err-Refused.field-0-is e.0, e.1, λ sure. tt)

pub returns-in-Err-BadReply-clause-lacking : goal.returns-in-Err-BadReply-clause-lacking
returns-in-Err-BadReply-clause-lacking g c = λ lacks.
    let e = (c.in-Err-BadReply.ensures {u = tt}).lacking c.args.self.now.log (question_of c.args.self.now) lacks c.question-question.ensures.asks in
    absurd (bad_reply_is c.args.transactions.now.retries (g.L.LogLink.failures c.args.link.now) (g.L.LogLink.failures c.exchange.new.link) c.in-Err-BadReply.field-0 c.in-Err-BadReply.field-0-is e.0)

pub returns-in-Err-Lost-clause-told : goal.returns-in-Err-Lost-clause-told
returns-in-Err-Lost-clause-told g c = (
  Err c.in-Err-Lost.field-0,
  has_asked g.L.LogLink.asks (towards c.args.transactions.now.route) c.args.transactions.now.retries c.args.self.now (next_invoke c.args.transactions.now.invoke)
      c.question-question.result c.args.link.now (Err c.in-Err-Lost.field-0) c.exchange.new.link c.question-question.ensures.asks.0 (c.in-Err-Lost.ensures {u = tt}).exchanges,
  ap (λ (f : ExchangeFault). Err f) c.in-Err-Lost.field-0-is,
)

pub returns-in-Err-Refused-clause-told : goal.returns-in-Err-Refused-clause-told
returns-in-Err-Refused-clause-told g c = (
  Err c.in-Err-Refused.field-0,
  has_asked g.L.LogLink.asks (towards c.args.transactions.now.route) c.args.transactions.now.retries c.args.self.now (next_invoke c.args.transactions.now.invoke)
      c.question-question.result c.args.link.now (Err c.in-Err-Refused.field-0) c.exchange.new.link c.question-question.ensures.asks.0 (c.in-Err-Refused.ensures {u = tt}).exchanges,
  ap (λ (f : ExchangeFault). Err f) c.in-Err-Refused.field-0-is,
)

pub returns-in-Err-BadReply-clause-told : goal.returns-in-Err-BadReply-clause-told
returns-in-Err-BadReply-clause-told g c = (
  Err c.in-Err-BadReply.field-0,
  has_asked g.L.LogLink.asks (towards c.args.transactions.now.route) c.args.transactions.now.retries c.args.self.now (next_invoke c.args.transactions.now.invoke)
      c.question-question.result c.args.link.now (Err c.in-Err-BadReply.field-0) c.exchange.new.link c.question-question.ensures.asks.0 (c.in-Err-BadReply.ensures {u = tt}).exchanges,
  inl (ap (λ (f : ExchangeFault). Err f) c.in-Err-BadReply.field-0-is),
)

pub returns-in-Ok-hear-clause-told : goal.returns-in-Ok-hear-clause-told
returns-in-Ok-hear-clause-told g c =
    let asked = has_asked g.L.LogLink.asks (towards c.args.transactions.now.route) c.args.transactions.now.retries c.args.self.now (next_invoke c.args.transactions.now.invoke)
    c.question-question.result c.args.link.now (Ok c.in-Ok.datagram) c.exchange.new.link c.question-question.ensures.asks.0 c.in-Ok.ensures.exchanges in
    told_turned g.L.LogLink.asks (towards c.args.transactions.now.route) c.args.transactions.now.retries c.args.self.now c.in-Ok.datagram c.in-Ok-hear.turned
    c.hear.new.self c.exchange.new.link asked (c.in-Ok-hear.ensures {u = tt})

pub returns-in-Err-clause-told : goal.returns-in-Err-clause-told
returns-in-Err-clause-told g c =
    let asked = has_asked g.L.LogLink.asks (towards c.args.transactions.now.route) c.args.transactions.now.retries c.args.self.now (next_invoke c.args.transactions.now.invoke)
    c.question-question.result c.args.link.now (Ok c.in-Ok.datagram) c.exchange.new.link c.question-question.ensures.asks.0 c.in-Ok.ensures.exchanges in
    told_bad g.L.LogLink.asks (towards c.args.transactions.now.route) c.args.transactions.now.retries c.args.self.now c.in-Ok.datagram c.in-Err.field-0
    c.hear.new.self c.exchange.new.link asked (c.in-Err.ensures {u = tt})

pub returns-in-Err-Lost-clause-came : goal.returns-in-Err-Lost-clause-came
returns-in-Err-Lost-clause-came g c = (
  Err c.in-Err-Lost.field-0,
  asks_from g.L.LogLink.asks c.args.transactions.now c.args.self.now c.question-question.result c.args.link.now (Err c.in-Err-Lost.field-0) c.exchange.new.link c.question-question.ensures.asks.0 (c.in-Err-Lost.ensures {u = tt}).exchanges,
  ap (λ (f : ExchangeFault). Err f) c.in-Err-Lost.field-0-is,
  refl,
)

pub returns-in-Err-Refused-clause-came : goal.returns-in-Err-Refused-clause-came
returns-in-Err-Refused-clause-came g c = (
  Err c.in-Err-Refused.field-0,
  asks_from g.L.LogLink.asks c.args.transactions.now c.args.self.now c.question-question.result c.args.link.now (Err c.in-Err-Refused.field-0) c.exchange.new.link c.question-question.ensures.asks.0 (c.in-Err-Refused.ensures {u = tt}).exchanges,
  ap (λ (f : ExchangeFault). Err f) c.in-Err-Refused.field-0-is,
  refl,
)

pub returns-in-Err-BadReply-clause-came : goal.returns-in-Err-BadReply-clause-came
returns-in-Err-BadReply-clause-came g c = (
  Err c.in-Err-BadReply.field-0,
  asks_from g.L.LogLink.asks c.args.transactions.now c.args.self.now c.question-question.result c.args.link.now (Err c.in-Err-BadReply.field-0) c.exchange.new.link c.question-question.ensures.asks.0 (c.in-Err-BadReply.ensures {u = tt}).exchanges,
  inl (ap (λ (f : ExchangeFault). Err f) c.in-Err-BadReply.field-0-is),
  refl,
)

pub returns-in-Ok-hear-clause-came : goal.returns-in-Ok-hear-clause-came
returns-in-Ok-hear-clause-came g c =
    let asked = asks_from g.L.LogLink.asks c.args.transactions.now c.args.self.now c.question-question.result c.args.link.now (Ok c.in-Ok.datagram) c.exchange.new.link c.question-question.ensures.asks.0 c.in-Ok.ensures.exchanges in
    came_turned g.L.LogLink.asks c.args.transactions.now c.args.link.now c.args.self.now c.in-Ok.datagram c.in-Ok-hear.turned
    c.hear.new.self c.exchange.new.link asked (c.in-Ok-hear.ensures {u = tt})

pub returns-in-Err-clause-came : goal.returns-in-Err-clause-came
returns-in-Err-clause-came g c =
    let asked = asks_from g.L.LogLink.asks c.args.transactions.now c.args.self.now c.question-question.result c.args.link.now (Ok c.in-Ok.datagram) c.exchange.new.link c.question-question.ensures.asks.0 c.in-Ok.ensures.exchanges in
    came_bad g.L.LogLink.asks c.args.transactions.now c.args.link.now c.args.self.now c.in-Ok.datagram c.in-Err.field-0
    c.hear.new.self c.exchange.new.link asked (c.in-Err.ensures {u = tt})
