use Rattle.std.proofs.Common.{◌≡◌, ◌≤◌, ◌+◌, ℕ, refl, subst, ap, ◌∙◌, arith}
use Rattle.std.proofs.lemmas.Bool.{false≢true}
use Rattle.bac_link.specs.declared.transactions.Transactions.{Transactions}
use Rattle.bac_link.specs.declared.exchanges.Verdict.TheVariants.{Ack, BadReply, Refused}
use Rattle.bac_link.specs.Requests.{request_octets, next_invoke, IsTooLong}
use Rattle.bac_link.specs.Links.{IsQuestion}
use Rattle.bac_link.specs.Delivery.{now}
use Rattle.bac_link.specs.Moments.{log_at}
use Rattle.bac_link.specs.Path.{towards}
use Rattle.bac_link.specs.Exchanges.{Unanswered}
use Rattle.bac_link.proofs.Tries.{answered_by, one_more}
use Rattle.bac_link.proofs.Verdicts.{question_fits, our_verdict, rises_more}
use Rattle.bac_link.proofs.exchanges.exchange.Goals as goal

pub returns-in_default-clause-ours : goal.returns-in_default-clause-ours
returns-in_default-clause-ours g c = λ id r M H extent h asks. absurd (question_fits id extent (subst IsTooLong asks.0 ((c.in_default.ensures {u = tt}).full.0 refl)))

pub returns-in_default-clause-lacking : goal.returns-in_default-clause-lacking
returns-in_default-clause-lacking g c = λ id extent h asks. absurd (question_fits id extent (subst IsTooLong asks.0 ((c.in_default.ensures {u = tt}).full.0 refl)))

pub returns-in-Ack-clause-ours : goal.returns-in-Ack-clause-ours
returns-in-Ack-clause-ours g c = λ id r M H extent h asks.
    let i = c.loop-tried.invariant.ours id r M H extent h asks in
    let n = next_invoke c.args.transactions.now.invoke in
    let route = c.args.transactions.now.route in
    let is : IsQuestion id extent (towards route) n c.octets.result.now = (c.octets.ensures.value ∙ (c.in-Ok.ensures {u = tt}).datagram ∙ ap (request_octets (towards route) n) asks.0, asks.1, asks.2, ((c.in-Ok.ensures {u = tt}).way, tt)) in
    let a = (c.in-Some.ensures {u = tt}).ours id r M H extent route n i.1 is in
    (((n, a.0.0), a.0.1), λ sure. tt)

pub returns-in-Refused-clause-ours : goal.returns-in-Refused-clause-ours
returns-in-Refused-clause-ours g c = λ id r M H extent h asks.
    let i = c.loop-tried.invariant.ours id r M H extent h asks in
    let n = next_invoke c.args.transactions.now.invoke in
    let route = c.args.transactions.now.route in
    let is : IsQuestion id extent (towards route) n c.octets.result.now = (c.octets.ensures.value ∙ (c.in-Ok.ensures {u = tt}).datagram ∙ ap (request_octets (towards route) n) asks.0, asks.1, asks.2, ((c.in-Ok.ensures {u = tt}).way, tt)) in
    let a = (c.in-Some.ensures {u = tt}).ours id r M H extent route n i.1 is in
    let v = our_verdict r (log_at (now M) H) id extent (towards route) n c.in-Some.reply a.0.0.1 in
    absurd (cc (v, asks.0, c.octets-in-Some.ensures.value, c.in-Refused.ensures {u = tt}))

pub returns-in-BadReply-clause-ours : goal.returns-in-BadReply-clause-ours
returns-in-BadReply-clause-ours g c = λ id r M H extent h asks.
    let i = c.loop-tried.invariant.ours id r M H extent h asks in
    let n = next_invoke c.args.transactions.now.invoke in
    let route = c.args.transactions.now.route in
    let is : IsQuestion id extent (towards route) n c.octets.result.now = (c.octets.ensures.value ∙ (c.in-Ok.ensures {u = tt}).datagram ∙ ap (request_octets (towards route) n) asks.0, asks.1, asks.2, ((c.in-Ok.ensures {u = tt}).way, tt)) in
    let a = (c.in-Some.ensures {u = tt}).ours id r M H extent route n i.1 is in
    let v = our_verdict r (log_at (now M) H) id extent (towards route) n c.in-Some.reply a.0.0.1 in
    absurd (cc (v, asks.0, c.octets-in-Some.ensures.value, c.in-BadReply.ensures {u = tt}))

pub loop-tried-preserved : goal.loop-tried-preserved
loop-tried-preserved g c =
    let n = next_invoke c.args.transactions.now.invoke in
    let route = c.args.transactions.now.route in
    let heard = c.in_default-heard.ensures {u = tt} in
    let before = g.L.LogLink.failures c.args.link.now in
    let mid = g.L.LogLink.failures c.loop-tried.link in
    let after = g.L.LogLink.failures c.heard.new.link in
    let sent : c.octets.result.now ≡ request_octets (towards route) n c.args.request.now = c.octets.ensures.value ∙ (c.in-Ok.ensures {u = tt}).datagram in
    record {
      begun = c.loop-tried.invariant.begun;
      unanswered = one_more g.L.LogLink.asks (request_octets (towards route) n c.args.request.now) c.octets.result.now c.loop-tried.tried
          c.args.link.now c.loop-tried.link c.heard.new.link heard.tried.0 sent c.loop-tried.invariant.unanswered heard.tried.1 heard.tried.2;
      never_falls = omega (arith, c.loop-tried.invariant.never_falls, heard.never_falls);
      sure = λ path s. heard.stays_sure path (c.loop-tried.invariant.sure path s);
      kept = λ id extent s asks.
          let is : IsQuestion id extent (towards route) n c.octets.result.now = (c.octets.ensures.value ∙ (c.in-Ok.ensures {u = tt}).datagram ∙ ap (request_octets (towards route) n) asks.0, asks.1, asks.2, ((c.in-Ok.ensures {u = tt}).way, tt)) in
          g.met.L.LogLink.keeps_on c.args.link.now c.loop-tried.link c.heard.new.link
          (c.loop-tried.invariant.kept id extent s asks) (heard.kept id extent route n (c.loop-tried.invariant.sure (towards route) s) is);
      ours = λ id r M H extent h asks.
          let i = c.loop-tried.invariant.ours id r M H extent h asks in
          let is : IsQuestion id extent (towards route) n c.octets.result.now = (c.octets.ensures.value ∙ (c.in-Ok.ensures {u = tt}).datagram ∙ ap (request_octets (towards route) n) asks.0, asks.1, asks.2, ((c.in-Ok.ensures {u = tt}).way, tt)) in
          let a = heard.ours id r M H extent route n i.1 is in
          (rises_more c.loop-tried.tried before mid after i.0 a.0.0, a.0.1, λ s. absurd (false≢true (a.1 (c.loop-tried.invariant.sure (towards route) s))));
      lacking = λ id extent h asks.
          let i = c.loop-tried.invariant.lacking id extent h asks in
          let is : IsQuestion id extent (towards route) n c.octets.result.now = (c.octets.ensures.value ∙ (c.in-Ok.ensures {u = tt}).datagram ∙ ap (request_octets (towards route) n) asks.0, asks.1, asks.2, ((c.in-Ok.ensures {u = tt}).way, tt)) in
          let a = heard.lacking id extent route n i.1 is in
          (rises_more c.loop-tried.tried before mid after i.0 a.0, a.1, λ s. absurd (false≢true (a.2 (c.loop-tried.invariant.sure (towards route) s))));
    }

pub returns-clause-ours : goal.returns-clause-ours
returns-clause-ours g c = λ id r M H extent h asks.
    let i = c.loop-tried.invariant.ours id r M H extent h asks in
    let kept = ap (λ (t : Transactions). t.retries) (c.in-Ok.ensures {u = tt}).passed in (
      (omega (arith, i.0, c.loop-tried.auto.tried-end, c.loop-tried-test.false, c.from-tries.ensures, c.retries.ensures, kept), i.1),
      λ s. omega (arith, i.2 s, c.loop-tried.auto.tried-end, c.loop-tried-test.false),
    )

pub returns-clause-lacking : goal.returns-clause-lacking
returns-clause-lacking g c = λ id extent h asks.
    let i = c.loop-tried.invariant.lacking id extent h asks in
    let kept = ap (λ (t : Transactions). t.retries) (c.in-Ok.ensures {u = tt}).passed in (
      omega (arith, i.0, c.loop-tried.auto.tried-end, c.loop-tried-test.false, c.from-tries.ensures, c.retries.ensures, kept),
      i.1,
      λ s. omega (arith, i.2 s, c.loop-tried.auto.tried-end, c.loop-tried-test.false),
    )

pub returns-in-Ack-clause-exchanges : goal.returns-in-Ack-clause-exchanges
returns-in-Ack-clause-exchanges g c =
    let n = next_invoke c.args.transactions.now.invoke in
    let path = towards c.args.transactions.now.route in
    let kept = ap (λ (t : Transactions). t.retries) (c.in-Ok.ensures {u = tt}).passed in
    let sent : c.octets.result.now ≡ request_octets path n c.args.request.now = c.octets.ensures.value ∙ (c.in-Ok.ensures {u = tt}).datagram in
    let few : c.loop-tried.tried ≤ c.args.transactions.now.retries = omega (arith, c.loop-tried-test.true, c.from-tries.ensures, c.retries.ensures, kept) in
    let heard = c.in-Some.ensures {u = tt} in
    answered_by g.L.LogLink.asks path n c.args.request.now c.args.transactions.now.retries Ack c.octets.result.now c.in-Some.reply c.octets-in-Some.result.now
    c.loop-tried.tried c.args.link.now c.loop-tried.link c.heard.new.link sent c.octets-in-Some.ensures.value few
    c.loop-tried.invariant.unanswered heard.tried heard.answers (c.in-Ack.ensures {u = tt})

pub returns-in-Refused-clause-exchanges : goal.returns-in-Refused-clause-exchanges
returns-in-Refused-clause-exchanges g c =
    let n = next_invoke c.args.transactions.now.invoke in
    let path = towards c.args.transactions.now.route in
    let kept = ap (λ (t : Transactions). t.retries) (c.in-Ok.ensures {u = tt}).passed in
    let sent : c.octets.result.now ≡ request_octets path n c.args.request.now = c.octets.ensures.value ∙ (c.in-Ok.ensures {u = tt}).datagram in
    let few : c.loop-tried.tried ≤ c.args.transactions.now.retries = omega (arith, c.loop-tried-test.true, c.from-tries.ensures, c.retries.ensures, kept) in
    let heard = c.in-Some.ensures {u = tt} in (
      c.in-Some.reply,
      answered_by g.L.LogLink.asks path n c.args.request.now c.args.transactions.now.retries (Refused c.in-Refused.refusal) c.octets.result.now c.in-Some.reply c.octets-in-Some.result.now
          c.loop-tried.tried c.args.link.now c.loop-tried.link c.heard.new.link sent c.octets-in-Some.ensures.value few
          c.loop-tried.invariant.unanswered heard.tried heard.answers (c.in-Refused.ensures {u = tt}),
    )

pub returns-in-BadReply-clause-exchanges : goal.returns-in-BadReply-clause-exchanges
returns-in-BadReply-clause-exchanges g c =
    let n = next_invoke c.args.transactions.now.invoke in
    let path = towards c.args.transactions.now.route in
    let kept = ap (λ (t : Transactions). t.retries) (c.in-Ok.ensures {u = tt}).passed in
    let sent : c.octets.result.now ≡ request_octets path n c.args.request.now = c.octets.ensures.value ∙ (c.in-Ok.ensures {u = tt}).datagram in
    let few : c.loop-tried.tried ≤ c.args.transactions.now.retries = omega (arith, c.loop-tried-test.true, c.from-tries.ensures, c.retries.ensures, kept) in
    let heard = c.in-Some.ensures {u = tt} in (
      c.in-Some.reply,
      answered_by g.L.LogLink.asks path n c.args.request.now c.args.transactions.now.retries BadReply c.octets.result.now c.in-Some.reply c.octets-in-Some.result.now
          c.loop-tried.tried c.args.link.now c.loop-tried.link c.heard.new.link sent c.octets-in-Some.ensures.value few
          c.loop-tried.invariant.unanswered heard.tried heard.answers (c.in-BadReply.ensures {u = tt}),
    )

pub returns-clause-exchanges : goal.returns-clause-exchanges
returns-clause-exchanges g c =
    let kept = ap (λ (t : Transactions). t.retries) (c.in-Ok.ensures {u = tt}).passed in
    let all : c.loop-tried.tried ≡ c.args.transactions.now.retries + 1 =
    omega (arith, c.loop-tried.auto.tried-end, c.loop-tried-test.false, c.from-tries.ensures, c.retries.ensures, kept) in
    let P : ℕ → Type 0 = λ k. Unanswered g.L.LogLink.asks (request_octets (towards c.args.transactions.now.route) (next_invoke c.args.transactions.now.invoke) c.args.request.now) k c.args.link.now c.loop-tried.link in
    subst P all c.loop-tried.invariant.unanswered
