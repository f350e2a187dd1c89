use Rattle.std.proofs.Common.{Bool, length, subst, ap, arith}
use Rattle.std.specs.Bool.{OnFalse}
use borrow.Author.Count.{below_more}
use Rattle.bac_site_poller.specs.Site.{MayAsk, SiteState}
use Rattle.bac_site_poller.proofs.Places.{none_asked}
use Rattle.bac_site_poller.proofs.site.SitePoller.free.Goals as goal

pub loop-place-preserved : goal.loop-place-preserved
loop-place-preserved c =
    let P : Bool → Type 0 = λ b. OnFalse b (MayAsk c.args.self.now c.loop-place.place → ⊥) in
    below_more (λ k. MayAsk c.args.self.now k → ⊥) c.loop-place.place c.loop-place.invariant (subst P c.if-is_free.false c.is_free.ensures.full)

pub returns-clause-none : goal.returns-clause-none
returns-clause-none c =
    let same = ap (λ (s : SiteState). length s.waiting) c.self.view_is in
    none_asked c.args.self.now c.loop-place.place (omega (arith, same)) c.loop-place.invariant
