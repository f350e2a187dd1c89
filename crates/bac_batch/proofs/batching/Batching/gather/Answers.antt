use Rattle.std.proofs.Common.{◌≡◌, inl, inr, ap, refl, arith}
use Rattle.std.proofs.lemmas.Grind.{common_steps}
use Rattle.bac_batch.specs.Batch.{Batched}
use Rattle.bac_batch.proofs.batching.Batching.gather.Goals as goal

pub returns-then-self-gt0 : goal.returns-then-self-gt0
returns-then-self-gt0 g c =
    let room : c.self.inside.room ≡ c.hold.new.self.room = ap (λ (b : Batched g.row.M.Denot). b.room) c.self.view_is in
    inr (λ none. grind (arith, common_steps), (c.hold.new.self, c.in_ok-hold.ensures, inl (omega (arith, room, c.if-self-gt0.true), (c.nothing-then-self-gt0.ensures, refl))))

pub returns : goal.returns
returns g c =
    let room : c.self.inside.room ≡ c.hold.new.self.room = ap (λ (b : Batched g.row.M.Denot). b.room) c.self.view_is in
    inr (λ none. grind (arith, common_steps), (c.hold.new.self, c.in_ok-hold.ensures, inr (omega (arith, room, c.if-self-gt0.false), c.give.ensures)))
