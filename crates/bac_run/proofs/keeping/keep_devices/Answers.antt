use Rattle.std.proofs.Common.{◌≡◌, None, Ok, false, refl, true}
use Rattle.sqlite_wal.specs.Files.{image_at}
use Rattle.bac_files.proofs.FileGhosts.{file_ghosts}
use Rattle.bac_ports.specs.Sockets.{socket_rules}
use Rattle.bac_run.proofs.Ran.{keeps_over}
use Rattle.bac_run.specs.Setup.{setup_over}
use Rattle.bac_site_poller.specs.SiteLaws.{site_acts}
use Rattle.bac_command_line.specs.Jobs.{reads_input, with_groups}
use Rattle.bac_run.proofs.keeping.keep_devices.Goals as goal

pub returns-then-not-reads_input-clause-ran : goal.returns-then-not-reads_input-clause-ran
returns-then-not-reads_input-clause-ran g c =
    let disk = file_ghosts g.row.F g.F.Start g.F.Start-dict g.F.Destruct-dict in
    let part = file_ghosts g.row.G g.G.Start g.G.Start-dict g.G.Destruct-dict in
    let rules = socket_rules g.S.Sockets.opens g.S.Sockets.closes g.S.Socket.Port.sends g.S.Socket.Port.receives g.S.Socket.Port.receives_within in
    let acts = site_acts g.S.Socket.Port.sends g.S.Socket.Port.receives_within g.W.Clock.reads in
    let done = c.keep_and_tell in
    let reads : reads_input c.args.asked ≡ false = first_of (search rules, cc) in
    let old = setup_over None (g.O.Write.contents c.args.output.now) (g.E.Write.contents c.args.errors.now) c.args.machine.now in
    let new = setup_over None (g.O.Write.contents done.new.output) (g.E.Write.contents done.new.errors) done.new.machine in
    rw reads (
      keeps_over rules acts disk (image_at g.F.Start) part (image_at g.G.Start) c.args.waits g.C.Clock.tells c.args.asked.stop c.args.asked old new
          (g.I.Read.remaining c.args.input.now) (g.I.Read.remaining c.args.input.now) done.result done.ensures.ran,
      refl {a = g.I.Read.remaining c.args.input.now},
    )

pub returns-in-Ok-clause-ran : goal.returns-in-Ok-clause-ran
returns-in-Ok-clause-ran g c =
    let disk = file_ghosts g.row.F g.F.Start g.F.Start-dict g.F.Destruct-dict in
    let part = file_ghosts g.row.G g.G.Start g.G.Start-dict g.G.Destruct-dict in
    let rules = socket_rules g.S.Sockets.opens g.S.Sockets.closes g.S.Socket.Port.sends g.S.Socket.Port.receives g.S.Socket.Port.receives_within in
    let acts = site_acts g.S.Socket.Port.sends g.S.Socket.Port.receives_within g.W.Clock.reads in
    let done = c.keep_and_tell-in-Ok in
    let reads : reads_input c.args.asked ≡ true = first_of (search rules, cc) in
    let old = setup_over None (g.O.Write.contents c.args.output.now) (g.E.Write.contents c.args.errors.now) c.args.machine.now in
    let new = setup_over None (g.O.Write.contents done.new.output) (g.E.Write.contents done.new.errors) done.new.machine in
    let list = rw c.in-Ok.is at c.listed_devices.ensures in
    rw reads (
      Ok c.in-Ok.groups,
      list,
      keeps_over rules acts disk (image_at g.F.Start) part (image_at g.G.Start) c.args.waits g.C.Clock.tells c.args.asked.stop (with_groups c.args.asked c.in-Ok.groups) old new
          (g.I.Read.remaining c.args.input.now) (g.I.Read.remaining c.listed_devices.new.input) done.result (rw c.with_groups-asked.ensures at done.ensures.ran),
    )
