use Rattle.std.proofs.Common.{Err, refl, subst}
use Rattle.bac_parts.specs.Visits.{Barred, Read}
use Rattle.bac_parts.proofs.parts.visit.Goals as goal

pub returns-in-Ok : goal.returns-in-Ok
returns-in-Ok g c =
    let it = c.in-Ok.ensures.read in
    (Read c.args.path.now it.0 c.in-Ok.shut, refl, (it.1, c.requires _ _ it.0 _ _ it.2, (c.read.new.reader, it.2, c.end.ensures)))

pub returns-in-Err : goal.returns-in-Err
returns-in-Err g c =
    let it = c.in-Err.ensures in
    (Barred c.args.path.now c.in-Err.why, refl, (it.barred, it.unread.1, subst (λ v. g.V.Visitor.ends v c.args.path.now (Err c.in-Err.why) c.end-in-Err.new.self) it.unread.0 c.end-in-Err.ensures))
