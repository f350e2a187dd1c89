use Rattle.std.proofs.Common.{◌≡◌, ℕ, List, [], ◌∷◌, Option, max, nat_lt, inl, inr, refl, sym, ap, subst, ◌∙◌, arith}
use Rattle.bac_wire.specs.Primitive.{Id}
use Rattle.bac_apdu.specs.Npdu.{Place as Far}
use Rattle.bac_link.specs.Delivery.{Moment}
use Rattle.bac_link.specs.Path.{towards}
use Rattle.bac_link.specs.declared.transactions.Transactions.{Transactions}
use Rattle.bac_link.proofs.Delivers.{after_one}
use Rattle.bac_log.specs.TrendLog.{sequence_number}
use Rattle.bac_walk.specs.Place.{WalkPlace}
use Rattle.bac_walk.specs.Rests.{Rested, rest, Rests}
use Rattle.bac_client_tests.proofs.Again.{after_all, caught_up, is_up}
use Rattle.bac_client_tests.proofs.again_callers.nothing_more.Goals as goal

pub returns : goal.returns
returns g c = λ r m H k low sure ours here near window above below loggable enough ran.
    let n : ℕ = c.args.steps in
    let is = (c.in_ok-walk.ensures {u = tt}).some in
    let log = ap (λ (w : WalkPlace). w.log) is in
    let K : Id → Type 0 = λ i. g.L.LogLink.is_ours c.args.link.now i r (m ∷ []) H in
    let S : Option Far → Type 0 = λ way. g.L.LogLink.is_sure c.args.link.now (towards way) in
    let F : WalkPlace → Type 0 = λ w. Rests (rest r w.count H m w.fresh k n) n c.collect-first.result.items.items c.collect-first.result.next c.collect-first.result.why in
    let served = g.met.L.LogLink.serves c.args.link.now c.args.log r (m ∷ []) H ours in
    let certain = subst S (sym (ap (λ (t : Transactions). t.route) c.new-transactions.ensures)) sure in
    let there = subst K (sym log) ours in
    let at = ap (λ (w : WalkPlace). w.next) is ∙ here in
    let whole = c.rests_all.ensures r 100 H m k n (omega arith) served loggable enough in
    let end = after_all H m k low (nat_lt m.newest (max k m.oldest)) refl near window in
    let later = c.collect-first.ensures.ours r (m ∷ []) H k low there at (window, tt) (λ old. (above, below)) in
    let M : List Moment → Type 0 = λ l. g.L.LogLink.is_ours c.collect-first.new.link c.in_ok-walk.walk.log r l H in
    let N : Id → Type 0 = λ i. g.L.LogLink.is_ours c.collect-first.new.link i r (m ∷ []) H in
    let is_more = (c.in_ok-more.ensures {u = tt}).some in
    let log_more = ap (λ (w : WalkPlace). w.log) is_more in
    let G : WalkPlace → Type 0 = λ w. Rests (rest r w.count H m w.fresh end.0 n) n c.collect-second.result.items.items c.collect-second.result.next c.collect-second.result.why in
    let E : Rested → Type 0 = λ x. Rests x n c.collect-second.result.items.items c.collect-second.result.next c.collect-second.result.why in
    elim (subst F is (c.collect-first.ensures.resting r m H k certain there at (λ old. near))) [
      | inl memory ↦ absurd (ran memory)
      | inr rests ↦
          let here_more : c.collect-first.result.next ≡ sequence_number end.0 = rests.1 ∙ ap (λ (x : Rested). sequence_number x.next) whole ∙ ap sequence_number end.1 in
          let ours_more = subst N (log ∙ sym log_more) (subst M (after_one later.1 m) later.6) in
          let second = c.collect-second.ensures.resting r m H end.0 (c.collect-first.ensures.sure certain) ours_more
          (ap (λ (w : WalkPlace). w.next) is_more ∙ here_more) (λ old. end.3) in
          let rested = c.rests_all.ensures r 100 H m end.0 n (omega arith) served loggable (omega (arith, enough, end.2)) ∙ caught_up H m end.0 end.2 in
          elim (subst E rested (subst G is_more second)) [
            | inl memory ↦ inl memory
            | inr more ↦ inr (more.0, more.1 ∙ sym here_more, is_up c.collect-second.result.why n more.2)
          ]
    ]
