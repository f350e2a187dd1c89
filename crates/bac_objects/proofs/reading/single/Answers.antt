use Rattle.bac_wire.specs.View.{view}
use Rattle.bac_objects.proofs.Encodings.{single_ok, single_long}
use Rattle.bac_objects.proofs.reading.single.Goals as goal

pub returns-in-Ok : goal.returns-in-Ok
returns-in-Ok c = let w = c.in-Ok.ensures {u = tt} in single_ok (view c.args.value.now) c.args.out.now c.add.new.out c.requires.empty w.0 w.1

pub returns-in-Err : goal.returns-in-Err
returns-in-Err c = let w = c.in-Err.ensures {u = tt} in single_long (view c.args.value.now) c.args.out.now c.in-Err.fault c.requires.empty w.0 w.1
