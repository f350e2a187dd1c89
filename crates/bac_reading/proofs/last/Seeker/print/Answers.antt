use Rattle.std.proofs.Common.{Err, subst, sym}
use Rattle.std.proofs.KnownBytes.{Appends-kept}
use Rattle.bac_print.proofs.Octets.{whole_part}
use Rattle.bac_reading.specs.Last.{PrintsOf}
use Rattle.bac_reading.specs.declared.fault.Fault.TheVariants.{Write}
use Rattle.bac_reading.proofs.last.Seeker.print.Goals as goal

pub returns-in-Err-flush : goal.returns-in-Err-flush
returns-in-Err-flush g c =
    let it = c.in-Ok-print.ensures.ok in
    let before = g.O.Write.contents c.args.output.now in
    let mid = g.O.Write.contents c.print.new.output in
    let after = g.O.Write.contents c.flush.new.self in
    subst (λ l. PrintsOf c.args.self.now.words l (Err Write) before after) (sym c.in-Some.is) (it.0, it.1, whole_part before after it.0 (Appends-kept before mid after it.0 it.2 c.flush.ensures.bytes))
