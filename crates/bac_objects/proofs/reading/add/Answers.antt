use Rattle.std.proofs.Common.{refl}
use Rattle.bac_apdu.specs.Adding.{value_octets}
use Rattle.bac_wire.specs.View.{view}
use Rattle.bac_objects.proofs.Encodings.{appended}
use Rattle.bac_objects.proofs.reading.add.Goals as goal

pub returns-in-Ok : goal.returns-in-Ok
unfolding value_octets
returns-in-Ok c = let w = (c.in-Ok.ensures {u = tt}).written in (w.0, appended (view c.args.value.now) _ _ w.0 w.1)

pub returns-in-Err : goal.returns-in-Err
unfolding value_octets
returns-in-Err c = (refl, (c.in-Err.ensures {u = tt}).written.1)
