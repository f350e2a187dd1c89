use Rattle.std.proofs.Common.{inr, refl, ap, subst, ◌∙◌, arith}
use Rattle.sqlite.specs.Held.{state}
use Rattle.sqlite.specs.State.{HasCleanDisk}
use Rattle.bac_drive.specs.Happens.{Runs, Stops}
use Rattle.bac_batch.specs.Batch.{Batched}
use Rattle.bac_site_poller.specs.Site.{SiteState}
use Rattle.bac_site_poller.specs.SiteLaws.{site_acts}
use Rattle.bac_site_poller.specs.Status.{site_status}
use Rattle.bac_keeping.specs.Keeping.{amid, around}
use Rattle.bac_keeping.proofs.Begun.{polled_crash}
use Rattle.bac_keeping.proofs.keeping.keep_site.Goals as goal

pub returns-in-Ok-poll_devices-clause-keeps : goal.returns-in-Ok-poll_devices-clause-keeps
returns-in-Ok-poll_devices-clause-keeps g c clean =
    let mid = state g.S.Store c.begin.new.conn in
    let new = state g.S.Store c.poll_devices.new.conn in
    let early : HasCleanDisk mid = omega (arith, clean, c.poll_devices.ensures.crash.clean) in
    let acts = site_acts g.P.Port.sends g.P.Port.receives_within g.C.Clock.reads in
    let by = around c.args.port.now c.args.clock.now (g.W.Write.contents c.args.output.now) (g.V.Write.contents c.args.errors.now) in
    let left = around c.poll_devices.new.port c.poll_devices.new.clock (g.W.Write.contents c.poll_devices.new.output) (g.V.Write.contents c.poll_devices.new.errors) in
    let at : Batched SiteState → Type 0 = λ b. Runs acts (amid by b mid.now) (amid left c.poll_devices.new.site new.now) in (
      mid.now,
      c.in-Ok.site,
      c.poll_devices.new.site,
      c.in-Ok.ensures.set early,
      subst at c.new-site.ensures (c.in-Ok-poll_devices.ensures.runs clean),
      c.status.ensures ∙ ap site_status c.machine.ensures,
    )

pub returns-in-Ok-clause-halts : goal.returns-in-Ok-clause-halts
returns-in-Ok-clause-halts g c clean =
    let mid = state g.S.Store c.begin.new.conn in
    let new = state g.S.Store c.poll_devices.new.conn in
    let early : HasCleanDisk mid = omega (arith, clean, c.poll_devices.ensures.crash.clean) in
    let acts = site_acts g.P.Port.sends g.P.Port.receives_within g.C.Clock.reads in
    let by = around c.args.port.now c.args.clock.now (g.W.Write.contents c.args.output.now) (g.V.Write.contents c.args.errors.now) in
    let left = around c.poll_devices.new.port c.poll_devices.new.clock (g.W.Write.contents c.poll_devices.new.output) (g.V.Write.contents c.poll_devices.new.errors) in
    let at : Batched SiteState → Type 0 = λ b. Stops g.S.Store acts (amid by b mid.now) (amid left c.poll_devices.new.site new.now) new.is_open c.in-Err-poll_devices.why in
    inr (
      c.in-Err-poll_devices.why,
      refl,
      (mid.now, c.in-Ok.site, c.poll_devices.new.site, c.in-Ok.ensures.set early, subst at c.new-site.ensures (c.in-Err-poll_devices.ensures.stops clean)),
    )

pub returns-in-Ok-poll_devices-clause-crash : goal.returns-in-Ok-poll_devices-clause-crash
returns-in-Ok-poll_devices-clause-crash g c =
    polled_crash (site_acts g.P.Port.sends g.P.Port.receives_within g.C.Clock.reads) c.args.run.now
    (around c.args.port.now c.args.clock.now (g.W.Write.contents c.args.output.now) (g.V.Write.contents c.args.errors.now)) (state g.S.Store c.args.conn.now) (state g.S.Store c.begin.new.conn)
    (state g.S.Store c.poll_devices.new.conn) c.in-Ok.site _ c.new-site.ensures c.in-Ok.ensures.set c.begin.ensures.crash c.poll_devices.ensures.crash

pub returns-in-Ok-clause-crash : goal.returns-in-Ok-clause-crash
returns-in-Ok-clause-crash g c =
    polled_crash (site_acts g.P.Port.sends g.P.Port.receives_within g.C.Clock.reads) c.args.run.now
    (around c.args.port.now c.args.clock.now (g.W.Write.contents c.args.output.now) (g.V.Write.contents c.args.errors.now)) (state g.S.Store c.args.conn.now) (state g.S.Store c.begin.new.conn)
    (state g.S.Store c.poll_devices.new.conn) c.in-Ok.site _ c.new-site.ensures c.in-Ok.ensures.set c.begin.ensures.crash c.poll_devices.ensures.crash

pub returns-in-Ok-poll_devices-clause-committed : goal.returns-in-Ok-poll_devices-clause-committed
returns-in-Ok-poll_devices-clause-committed g c clean =
    let early : HasCleanDisk (state g.S.Store c.begin.new.conn) = omega (arith, clean, c.poll_devices.ensures.crash.clean) in
    c.in-Ok-poll_devices.ensures.settled clean (c.in-Ok.ensures.committed early)

pub returns-in-Ok-poll_devices-clause-settled : goal.returns-in-Ok-poll_devices-clause-settled
returns-in-Ok-poll_devices-clause-settled g c clean was =
    let early : HasCleanDisk (state g.S.Store c.begin.new.conn) = omega (arith, clean, c.poll_devices.ensures.crash.clean) in
    c.in-Ok-poll_devices.ensures.settled clean (c.in-Ok.ensures.committed early)

pub returns-in-Ok-clause-settled : goal.returns-in-Ok-clause-settled
returns-in-Ok-clause-settled g c clean was is_open =
    let early : HasCleanDisk (state g.S.Store c.begin.new.conn) = omega (arith, clean, c.poll_devices.ensures.crash.clean) in
    c.in-Err-poll_devices.ensures.settled clean (c.in-Ok.ensures.committed early) is_open
