use Rattle.std.proofs.Common.{ℕ, List, Option, Some, Ok, Err, false, refl, sym, ap, subst, ◌∙◌}
use Rattle.bac_apdu.specs.Apdu.{Complex, Error}
use Rattle.bac_log.specs.Ack.{read_range_service}
use Rattle.bac_link.specs.Delivery.{now}
use Rattle.bac_link.specs.Links.{IsQuestion, IsReply, IsUnknown, reply_parameters, our_question}
use Rattle.bac_link.specs.Moments.{log_at}
use Rattle.bac_link.specs.Path.{Path, back, towards}
use Rattle.bac_memory_link.specs.Routing.{handed_on, PassesOn}
use Rattle.bac_memory_link.proofs.Routing.{fits_back, question_handed, reply_back}
use Rattle.bac_memory_link.proofs.Fitting.{reply_small}
use Rattle.bac_memory_link.proofs.Asks.{lost}
use Rattle.bac_memory_link.proofs.routed_link.RoutedLink.pass.Goals as goal

pub returns-in-Err-clause-ours : goal.returns-in-Err-clause-ours
returns-in-Err-clause-ours g c = λ id r M H extent path invoke h asks.
    let far = c.args.self.now.far in
    let near = c.args.self.now.near in
    let q = question_handed far near path id extent invoke c.args.request.now c.in-Some.inner c.in-Some.ensures.source asks (sym c.in-Some.ensures.handed) in
    let is = subst (λ (o : List ℕ). IsQuestion id extent (back (towards (Some near))) invoke o) (sym c.octets.ensures.value) q.0 in
    c.in-Err.ensures.ours id r M H extent (back (towards (Some near))) invoke h is

pub returns-in-Err-clause-lacking : goal.returns-in-Err-clause-lacking
returns-in-Err-clause-lacking g c = λ id extent path invoke h asks.
    let far = c.args.self.now.far in
    let near = c.args.self.now.near in
    let q = question_handed far near path id extent invoke c.args.request.now c.in-Some.inner c.in-Some.ensures.source asks (sym c.in-Some.ensures.handed) in
    let is = subst (λ (o : List ℕ). IsQuestion id extent (back (towards (Some near))) invoke o) (sym c.octets.ensures.value) q.0 in
    (tt, (c.in-Err.ensures.lacking id extent (back (towards (Some near))) invoke h is).1)

pub returns-in-Some-handed_on-clause-ours : goal.returns-in-Some-handed_on-clause-ours
returns-in-Some-handed_on-clause-ours g c = λ id r M H extent path invoke h asks.
    let far = c.args.self.now.far in
    let near = c.args.self.now.near in
    let q = question_handed far near path id extent invoke c.args.request.now c.in-Some.inner c.in-Some.ensures.source asks (sym c.in-Some.ensures.handed) in
    let is = subst (λ (o : List ℕ). IsQuestion id extent (back (towards (Some near))) invoke o) (sym c.octets.ensures.value) q.0 in
    let a = c.in-Ok.ensures.ours id r M H extent (back (towards (Some near))) invoke h is in
    let m = Complex false invoke read_range_service (reply_parameters id (log_at (now M) H) extent r) in
    let on = ap (λ (o : List ℕ). handed_on near far o) (sym c.octets-2.ensures.value) ∙ sym c.in-Some-handed_on.ensures.handed in
    let back_is = reply_back far near c.in-Ok.reply c.in-Some-handed_on.datagram m c.in-Some.ensures.dest a.0.1 on in
    (subst (λ (p : Path). IsReply (our_question r M H id extent p) invoke c.in-Some-handed_on.datagram) (sym q.1) (a.0.0, back_is), a.1)

pub returns-in-Some-handed_on-clause-lacking : goal.returns-in-Some-handed_on-clause-lacking
returns-in-Some-handed_on-clause-lacking g c = λ id extent path invoke h asks.
    let far = c.args.self.now.far in
    let near = c.args.self.now.near in
    let q = question_handed far near path id extent invoke c.args.request.now c.in-Some.inner c.in-Some.ensures.source asks (sym c.in-Some.ensures.handed) in
    let is = subst (λ (o : List ℕ). IsQuestion id extent (back (towards (Some near))) invoke o) (sym c.octets.ensures.value) q.0 in
    let a = c.in-Ok.ensures.lacking id extent (back (towards (Some near))) invoke h is in
    let on = ap (λ (o : List ℕ). handed_on near far o) (sym c.octets-2.ensures.value) ∙ sym c.in-Some-handed_on.ensures.handed in
    let back_is = reply_back far near c.in-Ok.reply c.in-Some-handed_on.datagram (Error invoke read_range_service 1 31) c.in-Some.ensures.dest a.0 on in
    (subst (λ (p : Path). IsUnknown p invoke c.in-Some-handed_on.datagram) (sym q.1) back_is, a.1)

pub returns-in-None-clause-ours : goal.returns-in-None-clause-ours
returns-in-None-clause-ours g c = λ id r M H extent path invoke h asks.
    let far = c.args.self.now.far in
    let near = c.args.self.now.near in
    let q = question_handed far near path id extent invoke c.args.request.now c.in-Some.inner c.in-Some.ensures.source asks (sym c.in-Some.ensures.handed) in
    let is = subst (λ (o : List ℕ). IsQuestion id extent (back (towards (Some near))) invoke o) (sym c.octets.ensures.value) q.0 in
    let a = c.in-Ok.ensures.ours id r M H extent (back (towards (Some near))) invoke h is in
    let small = reply_small r M H id extent (g.met.L.LogLink.serves c.args.self.now.inner id r M H h) a.0.0 in
    let off = ap (λ (o : List ℕ). handed_on near far o) (sym c.octets-2.ensures.value) ∙ sym c.in-None.ensures.handed in
    absurd (fits_back far near c.in-Ok.reply invoke read_range_service (reply_parameters id (log_at (now M) H) extent r) c.in-Some.ensures.dest a.0.1 small off)

pub returns-in-None-clause-lacking : goal.returns-in-None-clause-lacking
returns-in-None-clause-lacking g c = λ id extent path invoke h asks.
    let far = c.args.self.now.far in
    let near = c.args.self.now.near in
    let q = question_handed far near path id extent invoke c.args.request.now c.in-Some.inner c.in-Some.ensures.source asks (sym c.in-Some.ensures.handed) in
    let is = subst (λ (o : List ℕ). IsQuestion id extent (back (towards (Some near))) invoke o) (sym c.octets.ensures.value) q.0 in
    (tt, (c.in-Ok.ensures.lacking id extent (back (towards (Some near))) invoke h is).1)

pub returns-in-Err-clause-passes : goal.returns-in-Err-clause-passes
returns-in-Err-clause-passes g c =
    let far = c.args.self.now.far in
    let near = c.args.self.now.near in
    let P : Option (List ℕ) → Type 0 = λ o. PassesOn g.L.LogLink.asks far near o c.args.self.now.inner (Err lost) c.ask.new.self in
    let Q : List ℕ → Type 0 = λ o. g.L.LogLink.asks c.args.self.now.inner o (Err c.in-Err.field-0) c.ask.new.self in
    subst P c.in-Some.ensures.handed ((Err c.in-Err.field-0), subst Q c.octets.ensures.value c.in-Err.ensures.asked, refl)

pub returns-in-Some-handed_on-clause-passes : goal.returns-in-Some-handed_on-clause-passes
returns-in-Some-handed_on-clause-passes g c =
    let far = c.args.self.now.far in
    let near = c.args.self.now.near in
    let P : Option (List ℕ) → Type 0 = λ o. PassesOn g.L.LogLink.asks far near o c.args.self.now.inner (Ok c.in-Some-handed_on.datagram) c.ask.new.self in
    let Q : List ℕ → Type 0 = λ o. g.L.LogLink.asks c.args.self.now.inner o (Ok c.in-Ok.reply) c.ask.new.self in
    subst P c.in-Some.ensures.handed ((Ok c.in-Ok.reply), subst Q c.octets.ensures.value c.in-Ok.ensures.asked, c.in-Some-handed_on.ensures.handed ∙ ap (λ (o : List ℕ). handed_on near far o) c.octets-2.ensures.value)

pub returns-in-None-clause-passes : goal.returns-in-None-clause-passes
returns-in-None-clause-passes g c =
    let far = c.args.self.now.far in
    let near = c.args.self.now.near in
    let P : Option (List ℕ) → Type 0 = λ o. PassesOn g.L.LogLink.asks far near o c.args.self.now.inner (Err lost) c.ask.new.self in
    let Q : List ℕ → Type 0 = λ o. g.L.LogLink.asks c.args.self.now.inner o (Ok c.in-Ok.reply) c.ask.new.self in
    subst P c.in-Some.ensures.handed ((Ok c.in-Ok.reply), subst Q c.octets.ensures.value c.in-Ok.ensures.asked, c.in-None.ensures.handed ∙ ap (λ (o : List ℕ). handed_on near far o) c.octets-2.ensures.value)
