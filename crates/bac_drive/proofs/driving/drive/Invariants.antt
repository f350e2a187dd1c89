use Rattle.std.proofs.Common.{◌≡◌, length, List}
use Rattle.sqlite.specs.Held.{state}
use Rattle.sqlite.specs.State.{HasCleanDisk, Survives}
use Rattle.bac_drive.specs.Chain.{Chain}
use Rattle.bac_drive.specs.Event.{Event}
use Rattle.bac_drive.specs.Happens.{Happens, Leaves, acting, scene}
use Rattle.bac_drive.proofs.driving.drive.Given as goal

-- so far events lead here
abbrev pub invariant-loop-done : goal.invariant-loop-done
invariant-loop-done g l = record {
  runs : HasCleanDisk (state g.S.Store l.conn) → (es : List Event)
      × Chain (Happens (acting g.M.Machine.gives g.M.Machine.hears g.M.Machine.reads g.P.Port.sends g.P.Port.receives_within g.C.Clock.reads))
      (scene l.fn.machine l.fn.port l.fn.clock (state g.S.Store l.fn.conn).now (g.W.Write.contents l.fn.output) (g.V.Write.contents l.fn.errors)) es
      (scene l.machine l.port l.clock (state g.S.Store l.conn).now (g.W.Write.contents l.output) (g.V.Write.contents l.errors)) × (length es ≡ l.done);
  crash : Survives (state g.S.Store l.fn.conn) (state g.S.Store l.conn)
      (Leaves (acting g.M.Machine.gives g.M.Machine.hears g.M.Machine.reads g.P.Port.sends g.P.Port.receives_within g.C.Clock.reads)
      (scene l.fn.machine l.fn.port l.fn.clock (state g.S.Store l.fn.conn).now (g.W.Write.contents l.fn.output) (g.V.Write.contents l.fn.errors)));
  settled : HasCleanDisk (state g.S.Store l.conn) → (state g.S.Store l.fn.conn).committed ≡ (state g.S.Store l.fn.conn).now
      → (state g.S.Store l.conn).committed ≡ (state g.S.Store l.conn).now;
}
