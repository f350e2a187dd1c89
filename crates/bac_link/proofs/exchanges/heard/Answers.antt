use Rattle.std.proofs.Common.{◌≡◌, true}
use Rattle.bac_link.specs.Datagrams.{answers_to}
use Rattle.bac_link.specs.Delivery.{now}
use Rattle.bac_link.specs.Moments.{log_at}
use Rattle.bac_link.specs.Path.{towards}
use Rattle.bac_link.proofs.Verdicts.{our_answers, unknown_answers}
use Rattle.bac_link.proofs.exchanges.heard.Goals as goal

pub returns-else-answers-clause-ours : goal.returns-else-answers-clause-ours
returns-else-answers-clause-ours g c = λ id r M H extent place invoke h asks.
    let a = c.in-Ok.ensures.ours id r M H extent (towards place) invoke h asks in
    let d : answers_to c.args.request.now c.in-Ok.reply ≡ true = our_answers r (log_at (now M) H) id extent place invoke c.args.request.now c.in-Ok.reply asks a.0.1 in
    absurd (cc (d, c.octets.ensures.value, c.answers.ensures, c.if-answers.false))

pub returns-else-answers-clause-lacking : goal.returns-else-answers-clause-lacking
returns-else-answers-clause-lacking g c = λ id extent place invoke h asks.
    let a = c.in-Ok.ensures.lacking id extent (towards place) invoke h asks in
    let d : answers_to c.args.request.now c.in-Ok.reply ≡ true = unknown_answers id extent place invoke c.args.request.now c.in-Ok.reply asks a.0 in
    absurd (cc (d, c.octets.ensures.value, c.answers.ensures, c.if-answers.false))
