use Rattle.std.proofs.Common.{◌∙◌, ap, Bool, Err, [], ◌∷◌, ◌++◌, refl, subst, arith}
use Rattle.std.proofs.lemmas.List.{length_push}
use Rattle.sqlite.specs.Held.{state}
use Rattle.sqlite.specs.State.{HasCleanDisk}
use Rattle.sqlite.proofs.StateLemmas.{survives_then, survives_weaker}
use Rattle.bac_drive.proofs.Chains.{pushed}
use Rattle.bac_drive.specs.Happens.{Happens, Takes, acting, scene}
use Rattle.bac_drive.proofs.Leaving.{archive_stays, is_no_end, leaves_then, stays}
use Rattle.bac_drive.proofs.driving.drive.Goals as goal

pub loop-done-init : goal.loop-done-init
loop-done-init g c = record {
  runs = λ clean. ([], refl, refl);
  crash = survives_weaker (state g.S.Store c.args.conn.now) (state g.S.Store c.args.conn.now) _ _ (λ clean db none. absurd none) (stays (state g.S.Store c.args.conn.now));
  settled = λ clean same. same;
}

pub step-requires : goal.step-requires
step-requires g c clean =
    let acts = acting g.M.Machine.gives g.M.Machine.hears g.M.Machine.reads g.P.Port.sends g.P.Port.receives_within g.C.Clock.reads in
    let first : HasCleanDisk (state g.S.Store c.args.conn.now) = omega (arith, clean, c.loop-done.invariant.crash.clean) in
    let so_far = c.loop-done.invariant.runs clean in
    archive_stays acts _ _ so_far.0 so_far.1 (c.requires first)

pub returns-in-Err-clause-crash : goal.returns-in-Err-clause-crash
returns-in-Err-clause-crash g c = survives_then (state g.S.Store c.args.conn.now) (state g.S.Store c.loop-done.conn) (state g.S.Store c.step.new.conn) _ _ _
    (λ clean db it. it)
    (λ clean db it.
    let early : HasCleanDisk (state g.S.Store c.loop-done.conn) = omega (arith, clean, c.step.ensures.crash.clean) in
    let so_far = c.loop-done.invariant.runs early in
    leaves_then _ _ _ so_far.0 db so_far.1 it)
    c.loop-done.invariant.crash c.step.ensures.crash

pub returns-in-Ok-true-clause-crash : goal.returns-in-Ok-true-clause-crash
returns-in-Ok-true-clause-crash g c = survives_then (state g.S.Store c.args.conn.now) (state g.S.Store c.loop-done.conn) (state g.S.Store c.step.new.conn) _ _ _
    (λ clean db it. it)
    (λ clean db it.
    let early : HasCleanDisk (state g.S.Store c.loop-done.conn) = omega (arith, clean, c.step.ensures.crash.clean) in
    let so_far = c.loop-done.invariant.runs early in
    leaves_then _ _ _ so_far.0 db so_far.1 it)
    c.loop-done.invariant.crash c.step.ensures.crash

pub returns-in-Ok-true-clause-runs : goal.returns-in-Ok-true-clause-runs
returns-in-Ok-true-clause-runs g c clean =
    let acts = acting g.M.Machine.gives g.M.Machine.hears g.M.Machine.reads g.P.Port.sends g.P.Port.receives_within g.C.Clock.reads in
    let early : HasCleanDisk (state g.S.Store c.loop-done.conn) = omega (arith, clean, c.step.ensures.crash.clean) in
    let so_far = c.loop-done.invariant.runs early in
    let at = scene c.loop-done.machine c.loop-done.port c.loop-done.clock (state g.S.Store c.loop-done.conn).now (g.W.Write.contents c.loop-done.output) (g.V.Write.contents c.loop-done.errors) in
    let new = scene c.step.new.machine c.step.new.port c.step.new.clock (state g.S.Store c.step.new.conn).now (g.W.Write.contents c.step.new.output) (g.V.Write.contents c.step.new.errors) in
    let P : Bool → Type 0 = λ ended. Takes acts at new ended in
    (so_far.0, at, so_far.1, subst P c.in-Ok-true.field-0-test (c.in-Ok-true.ensures.takes clean))

pub loop-done-preserved : goal.loop-done-preserved
loop-done-preserved g c = record {
  runs = λ clean.
      let acts = acting g.M.Machine.gives g.M.Machine.hears g.M.Machine.reads g.P.Port.sends g.P.Port.receives_within g.C.Clock.reads in
      let early : HasCleanDisk (state g.S.Store c.loop-done.conn) = omega (arith, clean, c.step.ensures.crash.clean) in
      let so_far = c.loop-done.invariant.runs early in
      let old = scene c.args.machine.now c.args.port.now c.args.clock.now (state g.S.Store c.args.conn.now).now (g.W.Write.contents c.args.output.now) (g.V.Write.contents c.args.errors.now) in
      let at = scene c.loop-done.machine c.loop-done.port c.loop-done.clock (state g.S.Store c.loop-done.conn).now (g.W.Write.contents c.loop-done.output) (g.V.Write.contents c.loop-done.errors) in
      let new = scene c.step.new.machine c.step.new.port c.step.new.clock (state g.S.Store c.step.new.conn).now (g.W.Write.contents c.step.new.output) (g.V.Write.contents c.step.new.errors) in
      let P : Bool → Type 0 = λ ended. Takes acts at new ended in
      let one = subst P c.in-Ok-false.field-0-test (c.in-Ok-false.ensures.takes clean) in
      (so_far.0 ++ one.0 ∷ [], pushed (Happens acts) old at new so_far.0 one.0 so_far.1 one.1, omega (arith, length_push so_far.0 one.0, so_far.2));
  crash = survives_then (state g.S.Store c.args.conn.now) (state g.S.Store c.loop-done.conn) (state g.S.Store c.step.new.conn) _ _ _
      (λ clean db it. it)
      (λ clean db it.
      let early : HasCleanDisk (state g.S.Store c.loop-done.conn) = omega (arith, clean, c.step.ensures.crash.clean) in
      let so_far = c.loop-done.invariant.runs early in
      leaves_then _ _ _ so_far.0 db so_far.1 it)
      c.loop-done.invariant.crash c.step.ensures.crash;
  settled = λ clean same.
      let early : HasCleanDisk (state g.S.Store c.loop-done.conn) = omega (arith, clean, c.step.ensures.crash.clean) in
      c.in-Ok-false.ensures.settled clean (c.loop-done.invariant.settled early same);
}

pub returns-in-Err-clause-stops : goal.returns-in-Err-clause-stops
returns-in-Err-clause-stops g c clean =
    let early : HasCleanDisk (state g.S.Store c.loop-done.conn) = omega (arith, clean, c.step.ensures.crash.clean) in
    let so_far = c.loop-done.invariant.runs early in
    let at = scene c.loop-done.machine c.loop-done.port c.loop-done.clock (state g.S.Store c.loop-done.conn).now (g.W.Write.contents c.loop-done.output) (g.V.Write.contents c.loop-done.errors) in
    (so_far.0, at, so_far.1, c.in-Err.ensures.stops clean, is_no_end so_far.0 c.in-Err.fault (λ is. c.step.ensures.ends (c.in-Err.is ∙ ap Err is)))

pub returns-clause-stops : goal.returns-clause-stops
returns-clause-stops g c clean =
    let so_far = c.loop-done.invariant.runs clean in
    let at = scene c.loop-done.machine c.loop-done.port c.loop-done.clock (state g.S.Store c.loop-done.conn).now (g.W.Write.contents c.loop-done.output) (g.V.Write.contents c.loop-done.errors) in
    (so_far.0, at, so_far.1, (refl, λ is_open. refl), omega (arith, so_far.2, c.loop-done-test.false, c.loop-done.auto.done-end))

pub returns-in-Ok-true-clause-settled : goal.returns-in-Ok-true-clause-settled
returns-in-Ok-true-clause-settled g c clean same =
    let early : HasCleanDisk (state g.S.Store c.loop-done.conn) = omega (arith, clean, c.step.ensures.crash.clean) in
    c.in-Ok-true.ensures.settled clean (c.loop-done.invariant.settled early same)

pub returns-in-Err-clause-settled : goal.returns-in-Err-clause-settled
returns-in-Err-clause-settled g c clean same is_open =
    let early : HasCleanDisk (state g.S.Store c.loop-done.conn) = omega (arith, clean, c.step.ensures.crash.clean) in
    c.in-Err.ensures.settled clean (c.loop-done.invariant.settled early same) is_open

pub returns-clause-settled : goal.returns-clause-settled
returns-clause-settled g c clean same is_open = c.loop-done.invariant.settled clean same
