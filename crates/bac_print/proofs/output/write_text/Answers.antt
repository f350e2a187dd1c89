use Rattle.bac_print.proofs.Octets.{writes_on}
use Rattle.bac_print.proofs.output.write_text.Goals as goal

pub loop-rest-preserved : goal.loop-rest-preserved
loop-rest-preserved g c = writes_on _ _ _ _ c.loop-rest.rest.now c.in-Ok.n c.loop-rest.invariant c.in-Ok.ensures.bytes
