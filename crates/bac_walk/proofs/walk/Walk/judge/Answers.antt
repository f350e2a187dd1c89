use Rattle.std.proofs.Common.{ap, sym, ◌∙◌, arith}
use Rattle.bac_wire.specs.Primitive.{Id}
use Rattle.bac_link.specs.Heard.{heard_at}
use Rattle.bac_walk.specs.Walks.{fits}
use Rattle.bac_walk.specs.Spelled.{data_in}
use Rattle.bac_walk.proofs.WalkTakes.{taken, fits_few}
use Rattle.bac_walk.proofs.Spellings.{whole_of, records_are}
use Rattle.bac_walk.proofs.walk.Walk.judge.Goals as goal

pub returns : goal.returns
returns c =
    let s = c.in-Some.ensures {u = tt} in
    let few = fits_few c.args.self.now c.in-Some-first.first c.in-Some.said.total (sym c.fits.ensures ∙ c.if-not-fits.false) in
    let said = ap (λ (l : Id). heard_at l c.args.ack.now) (sym c.log.ensures.log) ∙ s.1 in
    let whole = whole_of c.in-Some-first.first (data_in c.args.ack.now) s.0.entries s.5 (omega (arith, s.4, c.if-total-eq0.false)) (omega (arith, s.4, few, c.asked_count-most.ensures.count, c.asked_count-most.ensures.bounds.most)) in (
      whole,
      taken c.args.self.now s.0 _ c.in-Some-first.first _ _ said (sym s.2 ∙ c.in-Some-first.is) (omega (arith, s.4, c.if-total-eq0.false)) (sym c.is_past.ensures ∙ c.if-is_past.false)
          (omega (arith, s.3, s.4, c.if-said-total.false)) (ap (λ n. fits c.args.self.now c.in-Some-first.first n) (sym s.4) ∙ sym c.fits.ensures ∙ c.if-not-fits.false)
          c.gap_up_to-gap.ensures (records_are c.in-Some-first.first (data_in c.args.ack.now) s.0.entries s.5) (cc),
      s.6,
    )
