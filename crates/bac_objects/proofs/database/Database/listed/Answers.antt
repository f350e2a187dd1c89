use Rattle.std.proofs.Common.{◌≡◌, ◌≤◌, ◌-◌, ap, sym, ◌∙◌, arith, slice_get, Some}
use Rattle.bac_objects.specs.State.{State}
use Rattle.bac_objects.proofs.Listing.{listed}
use Rattle.bac_objects.proofs.database.Database.listed.Goals as goal

pub returns-in-Some : goal.returns-in-Some
returns-in-Some c =
    let some : 1 ≤ c.args.place = omega (arith, c.if-place-eq0.false) in
    let at : slice_get c.args.self.now.objects (c.args.place - 1) ≡ Some (c.in-Some.entry.0.now, c.in-Some.entry.1.now) =
    ap (λ (s : State). slice_get s.objects (c.args.place - 1)) (sym c.self.view_is) ∙ sym c.in-Some.ensures.entry in
    sym (listed c.args.self.now c.args.place (c.in-Some.entry.0.now, c.in-Some.entry.1.now) some at)
