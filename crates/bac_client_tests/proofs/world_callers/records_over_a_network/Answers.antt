use Rattle.std.proofs.Common.{◌≡◌, ℕ, ◌<◌, length, refl, sym, ap, subst, ◌∙◌, arith}
use Rattle.bac_log.specs.TrendLog.{sequence_number}
use Rattle.bac_link.specs.Delivery.{DeliversTo}
use Rattle.bac_walk.specs.Place.{WalkPlace, walk_at}
use Rattle.bac_world.specs.Network.{Network, started}
use Rattle.bac_world.specs.Runs.{IsNearAll, history_of, moments_of}
use Rattle.bac_world.specs.Sources.{WasAnswered}
use Rattle.bac_world.specs.Views.{network_of}
use Rattle.bac_client_tests.proofs.world_callers.records_over_a_network.Goals as goal

pub returns-in-Ok-clause-delivers : goal.returns-in-Ok-clause-delivers
returns-in-Ok-clause-delivers c = λ rounds k low there here window above below.
    let n = c.args.log.instance in
    let es = c.args.events.now in
    let walk : WalkPlace = walk_at c.args.log c.args.s in
    let first : Network = started c.args.device walk c.args.retries in
    let begins : network_of c.new-world.result ≡ first =
    c.new-world.ensures ∙ ap (λ (w : WalkPlace). started c.args.device w c.args.retries) (c.in-Some.ensures {u = tt}).some in
    let N : Network → Type 0 = λ x. IsNearAll rounds walk k x es in
    let near = c.windows_stay_near.ensures rounds low k walk first es window (λ old. (above, below)) in
    let said = c.in-Ok.ensures.headline c.args.device walk c.args.retries k rounds begins refl there here (subst N (sym begins) near) in
    let w = network_of c.play_all.new.self in
    let P : ℕ → Type 0 = λ b. DeliversTo (history_of rounds n (network_of c.new-world.result) es) b w.items said.1
    (moments_of rounds n (network_of c.new-world.result) es) (length (moments_of rounds n (network_of c.new-world.result) es)) in
    let Q : Network → Type 0 = λ x. DeliversTo (history_of rounds n x es) k w.items said.1 (moments_of rounds n x es) (length (moments_of rounds n x es)) in
    (said.1, said.3, subst Q begins (subst P (said.2 refl) said.4))

pub returns-in-Ok-clause-answered : goal.returns-in-Ok-clause-answered
returns-in-Ok-clause-answered c = λ there before k after parts.
    let walk : WalkPlace = walk_at c.args.log c.args.s in
    let begins : network_of c.new-world.result ≡ started c.args.device walk c.args.retries =
    c.new-world.ensures ∙ ap (λ (w : WalkPlace). started c.args.device w c.args.retries) (c.in-Some.ensures {u = tt}).some in
    let some : 0 < c.args.s = ((c.in-Some.ensures {u = tt}).is_some.0 refl).0 in
    let here : c.args.s ≡ sequence_number c.args.s = omega (arith, some) in
    let P : Network → Type 0 = λ w. WasAnswered w before k in
    subst P begins ((c.in-Ok.ensures.withstands c.args.device walk c.args.retries c.args.s 0 begins refl there here).1 before k after parts).1
