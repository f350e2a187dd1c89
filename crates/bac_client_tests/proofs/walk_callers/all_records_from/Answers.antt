use Rattle.std.proofs.Common.{[], ◌∷◌, Option, inl, inr, arith, sym, ap, subst, ◌∙◌}
use Rattle.bac_wire.specs.Primitive.{Id}
use Rattle.bac_apdu.specs.Npdu.{Place as Far}
use Rattle.bac_link.specs.Path.{towards}
use Rattle.bac_link.specs.declared.transactions.Transactions.{Transactions}
use Rattle.bac_walk.specs.Place.{WalkPlace}
use Rattle.bac_walk.specs.Rests.{Rested, rest, Rests}
use Rattle.bac_client_tests.proofs.Loggable.{all_loggable}
use Rattle.bac_client_tests.proofs.walk_callers.all_records_from.Goals as goal

pub returns : goal.returns
returns g c = λ r m H k sure ours here near enough.
    let is = (c.in-Some.ensures {u = tt}).some in
    let log = ap (λ (w : WalkPlace). w.log) is in
    let K : Id → Type 0 = λ n. g.L.LogLink.is_ours c.args.link.now n r (m ∷ []) H in
    let S : Option Far → Type 0 = λ way. g.L.LogLink.is_sure c.args.link.now (towards way) in
    let R : WalkPlace → Type 0 = λ w. Rests (rest r w.count H m w.fresh k c.args.steps) c.args.steps c.collect.result.items.items c.collect.result.next c.collect.result.why in
    let run = c.collect.ensures.brought in
    elim (subst R is (c.collect.ensures.resting r m H k (subst S (sym (ap (λ (t : Transactions). t.route) c.new-transactions.ensures)) sure) (subst K (sym log) ours) (ap (λ (w : WalkPlace). w.next) is ∙ here) (λ old. near))) [
      | inl memory ↦ inl memory
      | inr rests ↦
          elim (all_loggable g.L.LogLink.asks (λ link id r M H. g.L.LogLink.is_ours link id r M H) c.replies_are_loggable.ensures c.new-transactions.result.route c.new-transactions.result.retries c.args.steps run.0 run.3.0
          c.collect.result.items.items run.1 c.collect.result.why c.in-Some.walk c.collect.new.walk c.args.link.now c.collect.new.link c.args.log c.args.s r k m H
          (ap (λ (t : Transactions). t.route) c.new-transactions.ensures) is here
          (omega (arith, c.kind-kind.ensures.value, c.kind-kind.ensures.bound), omega (arith, c.instance-instance.ensures.value, c.instance-instance.ensures.bound)) ours (omega (arith, enough)) rests.2 run.2 run.3.1) [
            | inl memory ↦ inl memory
            | inr loggable ↦ inr (rests.0 ∙ ap (λ (x : Rested). x.items) (c.rests_all.ensures r 100 H m k c.args.steps (omega arith) (g.met.L.LogLink.serves c.args.link.now c.args.log r (m ∷ []) H ours) loggable enough))
          ]
    ]
