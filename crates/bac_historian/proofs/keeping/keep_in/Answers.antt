use Rattle.std.proofs.Common.{List, ℕ, inl, refl, arith, subst}
use Rattle.sqlite.specs.Held.{state}
use Rattle.sqlite.specs.State.{HasCleanDisk}
use Rattle.sqlite.proofs.StateLemmas.{survives_weaker}
use Rattle.sqlite_wal.specs.Files.{image_at}
use Rattle.bac_files.proofs.FileGhosts.{file_ghosts}
use Rattle.bac_parts.specs.Begun.{WhyNotBegun}
use Rattle.bac_site_poller.specs.SiteLaws.{site_acts}
use Rattle.bac_historian.specs.Kept.{RemainsFrom}
use Rattle.bac_historian.specs.Room.{in_room}
use Rattle.bac_historian.proofs.Remains.{left_by, ready_committed, ready_in, run_crash}
use Rattle.bac_historian.proofs.keeping.keep_in.Goals as goal

pub returns-in-Ok-keep_site-clause-keeps : goal.returns-in-Ok-keep_site-clause-keeps
returns-in-Ok-keep_site-clause-keeps g c clean =
    let mid = state g.A.Store c.make_ready.new.conn in
    let early : HasCleanDisk mid = omega (arith, clean, c.keep_site.ensures.crash.clean) in
    let disk = file_ghosts g.row.G g.G.Start g.G.Start-dict g.G.Destruct-dict in
    let ready = ready_in disk (image_at g.G.Start) g.A.Store c.args.place.now.before c.make_ready.new.parts c.args.conn.now c.make_ready.new.conn (c.in-Ok.ensures.ready early) in
    (mid.now, ready, c.in-Ok-keep_site.ensures.keeps clean)

pub returns-in-Ok-keep_site-clause-crash : goal.returns-in-Ok-keep_site-clause-crash
returns-in-Ok-keep_site-clause-crash g c =
    let disk = file_ghosts g.row.G g.G.Start g.G.Start-dict g.G.Destruct-dict in
    run_crash disk (image_at g.G.Start) (site_acts g.P.Port.sends g.P.Port.receives_within g.C.Clock.reads) c.args.run.now c.args.place.now.before c.make_ready.new.parts
    (in_room g.W.Write.contents g.V.Write.contents c.args.room.now) (state g.A.Store c.args.conn.now) (state g.A.Store c.make_ready.new.conn) (state g.A.Store c.keep_site.new.conn)
    (λ early. ready_in disk (image_at g.G.Start) g.A.Store c.args.place.now.before c.make_ready.new.parts c.args.conn.now c.make_ready.new.conn (c.in-Ok.ensures.ready early)) c.make_ready.ensures.crash c.keep_site.ensures.crash

pub returns-in-Ok-keep_site-clause-left : goal.returns-in-Ok-keep_site-clause-left
returns-in-Ok-keep_site-clause-left g c =
    let disk = file_ghosts g.row.G g.G.Start g.G.Start-dict g.G.Destruct-dict in
    let acts = site_acts g.P.Port.sends g.P.Port.receives_within g.C.Clock.reads in
    let by = in_room g.W.Write.contents g.V.Write.contents c.args.room.now in
    let old = state g.A.Store c.args.conn.now in
    let mid = state g.A.Store c.make_ready.new.conn in
    let new = state g.A.Store c.keep_site.new.conn in
    left_by old new (RemainsFrom disk (image_at g.G.Start) acts c.args.run.now c.args.place.now.before c.make_ready.new.parts by old.now)
    (λ db is may. g.met.A.Store.settled c.args.conn.now.store db is may) (λ is. g.met.A.Store.stays c.keep_site.new.conn.store is)
    (run_crash disk (image_at g.G.Start) acts c.args.run.now c.args.place.now.before c.make_ready.new.parts by old mid new (λ early. ready_in disk (image_at g.G.Start) g.A.Store c.args.place.now.before c.make_ready.new.parts c.args.conn.now c.make_ready.new.conn (c.in-Ok.ensures.ready early)) c.make_ready.ensures.crash c.keep_site.ensures.crash)

pub returns-in-Err-keep_site-clause-halts : goal.returns-in-Err-keep_site-clause-halts
returns-in-Err-keep_site-clause-halts g c = (
  c.in-Ok.ensures.blamed,
  λ clean.
      let mid = state g.A.Store c.make_ready.new.conn in
      let early : HasCleanDisk mid = omega (arith, clean, c.keep_site.ensures.crash.clean) in
      (c.make_ready.new.conn, c.in-Ok.ensures.ready early, c.in-Err-keep_site.ensures.halts clean),
)

pub returns-in-Err-keep_site-clause-committed : goal.returns-in-Err-keep_site-clause-committed
returns-in-Err-keep_site-clause-committed g c clean was is_open =
    let mid = state g.A.Store c.make_ready.new.conn in
    let early : HasCleanDisk mid = omega (arith, clean, c.keep_site.ensures.crash.clean) in
    let disk = file_ghosts g.row.G g.G.Start g.G.Start-dict g.G.Destruct-dict in
    let committed = ready_committed disk (image_at g.G.Start) g.A.Store c.args.place.now.before c.make_ready.new.parts c.args.conn.now c.make_ready.new.conn (c.in-Ok.ensures.ready early) was in
    c.in-Err-keep_site.ensures.settled clean committed is_open

pub returns-in-Err-keep_site-clause-crash : goal.returns-in-Err-keep_site-clause-crash
returns-in-Err-keep_site-clause-crash g c =
    let disk = file_ghosts g.row.G g.G.Start g.G.Start-dict g.G.Destruct-dict in
    run_crash disk (image_at g.G.Start) (site_acts g.P.Port.sends g.P.Port.receives_within g.C.Clock.reads) c.args.run.now c.args.place.now.before c.make_ready.new.parts
    (in_room g.W.Write.contents g.V.Write.contents c.args.room.now) (state g.A.Store c.args.conn.now) (state g.A.Store c.make_ready.new.conn) (state g.A.Store c.keep_site.new.conn)
    (λ early. ready_in disk (image_at g.G.Start) g.A.Store c.args.place.now.before c.make_ready.new.parts c.args.conn.now c.make_ready.new.conn (c.in-Ok.ensures.ready early)) c.make_ready.ensures.crash c.keep_site.ensures.crash

pub returns-in-Err-keep_site-clause-left : goal.returns-in-Err-keep_site-clause-left
returns-in-Err-keep_site-clause-left g c =
    let disk = file_ghosts g.row.G g.G.Start g.G.Start-dict g.G.Destruct-dict in
    let acts = site_acts g.P.Port.sends g.P.Port.receives_within g.C.Clock.reads in
    let by = in_room g.W.Write.contents g.V.Write.contents c.args.room.now in
    let old = state g.A.Store c.args.conn.now in
    let mid = state g.A.Store c.make_ready.new.conn in
    let new = state g.A.Store c.keep_site.new.conn in
    left_by old new (RemainsFrom disk (image_at g.G.Start) acts c.args.run.now c.args.place.now.before c.make_ready.new.parts by old.now)
    (λ db is may. g.met.A.Store.settled c.args.conn.now.store db is may) (λ is. g.met.A.Store.stays c.keep_site.new.conn.store is)
    (run_crash disk (image_at g.G.Start) acts c.args.run.now c.args.place.now.before c.make_ready.new.parts by old mid new (λ early. ready_in disk (image_at g.G.Start) g.A.Store c.args.place.now.before c.make_ready.new.parts c.args.conn.now c.make_ready.new.conn (c.in-Ok.ensures.ready early)) c.make_ready.ensures.crash c.keep_site.ensures.crash)

pub returns-in-Err-clause-halts : goal.returns-in-Err-clause-halts
returns-in-Err-clause-halts g c =
    let disk = file_ghosts g.row.G g.G.Start g.G.Start-dict g.G.Destruct-dict in (
      subst (λ (m : List ℕ). WhyNotBegun disk (image_at g.G.Start) g.A.Store m c.args.place.now.before c.make_ready.new.place.blames_before c.make_ready.new.parts c.args.conn.now c.make_ready.new.conn c.in-Err.why) c.as_str.ensures.value c.in-Err.ensures.refused,
      refl,
    )

pub returns-in-Err-clause-crash : goal.returns-in-Err-clause-crash
returns-in-Err-clause-crash g c =
    survives_weaker (state g.A.Store c.args.conn.now) (state g.A.Store c.make_ready.new.conn) _ _ (λ clean trees it. inl it) c.make_ready.ensures.crash

pub returns-in-Err-clause-left : goal.returns-in-Err-clause-left
returns-in-Err-clause-left g c =
    let disk = file_ghosts g.row.G g.G.Start g.G.Start-dict g.G.Destruct-dict in
    let acts = site_acts g.P.Port.sends g.P.Port.receives_within g.C.Clock.reads in
    let by = in_room g.W.Write.contents g.V.Write.contents c.args.room.now in
    let old = state g.A.Store c.args.conn.now in
    let new = state g.A.Store c.make_ready.new.conn in
    left_by old new (RemainsFrom disk (image_at g.G.Start) acts c.args.run.now c.args.place.now.before c.make_ready.new.parts by old.now)
    (λ db is may. g.met.A.Store.settled c.args.conn.now.store db is may) (λ is. g.met.A.Store.stays c.make_ready.new.conn.store is)
    (survives_weaker old new _ _ (λ clean trees it. inl it) c.make_ready.ensures.crash)
