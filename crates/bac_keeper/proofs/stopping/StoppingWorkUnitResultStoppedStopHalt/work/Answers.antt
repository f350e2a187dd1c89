use Rattle.std.proofs.Common.{List, subst}
use Rattle.sqlite.specs.Held.{state}
use Rattle.bac_historian.proofs.Remains.{left_by}
use Rattle.bac_keeping.specs.Stopping.{MayHaveStopped}
use Rattle.bac_parts.specs.Works.{passage}
use Rattle.bac_plan.specs.declared.named.Named.{Named}
use Rattle.bac_keeper.specs.Stops.{StopsBy}
use Rattle.bac_keeper.proofs.stopping.StoppingWorkUnitResultStoppedStopHalt.work.Goals as goal

pub returns : goal.returns
returns g c =
    let old = state g.A.Store c.args.conn.now in
    let new = state g.A.Store c.stop_named.new.conn in
    let did = c.stop_named.ensures in
    subst (λ (named : List Named). StopsBy named (passage g.A.Store c.args.conn.now c.stop_named.new.conn) c.stop_named.result) c.as_slice.ensures.value (record {
      all = did.all;
      neither = did.neither;
      settled = did.settled;
      crash = did.crash;
      left = left_by old new (MayHaveStopped c.as_slice.result.now old.now) (λ db is may. g.met.A.Store.settled c.args.conn.now.store db is may) (λ is. g.met.A.Store.stays c.stop_named.new.conn.store is) did.crash;
    })
