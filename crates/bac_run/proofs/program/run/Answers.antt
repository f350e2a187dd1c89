use Rattle.std.proofs.Common.{Err, Ok, ap, map, refl, ◌∙◌}
use Rattle.std.specs.String.{string_bytes}
use Rattle.sqlite_wal.specs.Files.{image_at}
use Rattle.bac_files.proofs.FileGhosts.{file_ghosts}
use Rattle.bac_files.specs.Parts.{part_rules}
use Rattle.bac_ports.specs.Sockets.{socket_rules}
use Rattle.bac_site_poller.specs.SiteLaws.{site_acts}
use Rattle.bac_run.proofs.Lost.{same_loses, same_part, told_loses}
use Rattle.bac_run.proofs.Ran.{job_done, told_beside, unread}
use Rattle.bac_run.specs.Setup.{setup}
use Rattle.bac_tools.proofs.Told.{explained_of, never_both, wrong_of}
use Rattle.bac_tools.specs.Streams.{streams}
use Rattle.bac_command_line.specs.Outcome.{job_in}
use Rattle.bac_run.proofs.program.run.Goals as goal

pub returns-in-Ok-clause-done : goal.returns-in-Ok-clause-done
returns-in-Ok-clause-done g c asked ask =
    let disk = file_ghosts g.row.F g.F.Start g.F.Start-dict g.F.Destruct-dict in
    let part = file_ghosts g.row.G g.G.Start g.G.Start-dict g.G.Destruct-dict in
    let rules = socket_rules g.S.Sockets.opens g.S.Sockets.closes g.S.Socket.Port.sends g.S.Socket.Port.receives g.S.Socket.Port.receives_within in
    let acts = site_acts g.S.Socket.Port.sends g.S.Socket.Port.receives_within g.W.Clock.reads in
    let old = setup g.I.Read.remaining g.O.Write.contents g.E.Write.contents c.args.machine.now c.args.console.now in
    let new = setup g.I.Read.remaining g.O.Write.contents g.E.Write.contents c.run_told.new.machine c.run_told.new.console in
    job_done rules acts disk (image_at g.F.Start) part (image_at g.G.Start) (part_rules g.Q.Parts.lists g.Q.Parts.holds g.Q.Parts.bars) g.S.Heeds.passes g.C.Clock.tells c.args.waits old new c.run_told.result g.S.Tracing.traces
    (map string_bytes c.args.words.now) c.in-Ok.job asked c.in-Ok.ensures.ok.1 ask c.run_told.ensures.ran

pub returns-in-Err-clause-done : goal.returns-in-Err-clause-done
returns-in-Err-clause-done g c asked ask =
    let disk = file_ghosts g.row.F g.F.Start g.F.Start-dict g.F.Destruct-dict in
    let part = file_ghosts g.row.G g.G.Start g.G.Start-dict g.G.Destruct-dict in
    let rules = socket_rules g.S.Sockets.opens g.S.Sockets.closes g.S.Socket.Port.sends g.S.Socket.Port.receives g.S.Socket.Port.receives_within in
    let acts = site_acts g.S.Socket.Port.sends g.S.Socket.Port.receives_within g.W.Clock.reads in
    let old = setup g.I.Read.remaining g.O.Write.contents g.E.Write.contents c.args.machine.now c.args.console.now in
    let new = record old { streams = streams (g.I.Read.remaining c.run_read.new.input) (g.O.Write.contents c.run_read.new.output) (g.E.Write.contents c.run_read.new.errors) c.run_read.new.sockets c.run_read.new.clock } in
    unread rules acts disk (image_at g.F.Start) part (image_at g.G.Start) (part_rules g.Q.Parts.lists g.Q.Parts.holds g.Q.Parts.bars) g.S.Heeds.passes g.C.Clock.tells c.args.waits old new c.run_read.result g.S.Tracing.traces
    (map string_bytes c.args.words.now) c.in-Err.fault c.in-Err.ensures.err c.run_read.ensures ((refl, refl), refl) asked ask

pub returns-in-Ok-clause-stays : goal.returns-in-Ok-clause-stays
returns-in-Ok-clause-stays g c =
    let disk = file_ghosts g.row.F g.F.Start g.F.Start-dict g.F.Destruct-dict in
    let part = file_ghosts g.row.G g.G.Start g.G.Start-dict g.G.Destruct-dict in
    let rules = socket_rules g.S.Sockets.opens g.S.Sockets.closes g.S.Socket.Port.sends g.S.Socket.Port.receives g.S.Socket.Port.receives_within in
    let acts = site_acts g.S.Socket.Port.sends g.S.Socket.Port.receives_within g.W.Clock.reads in
    let old = setup g.I.Read.remaining g.O.Write.contents g.E.Write.contents c.args.machine.now c.args.console.now in
    let new = setup g.I.Read.remaining g.O.Write.contents g.E.Write.contents c.run_told.new.machine c.run_told.new.console in
    told_loses rules acts disk (image_at g.F.Start) part (image_at g.G.Start) (part_rules g.Q.Parts.lists g.Q.Parts.holds g.Q.Parts.bars) g.S.Heeds.passes g.C.Clock.tells c.args.waits c.tool_loses_nothing.ensures
    c.stop_loses_nothing.ensures g.S.Tracing.traces c.in-Ok.job old new c.run_told.result c.run_told.ensures.ran

pub returns-in-Err-clause-stays : goal.returns-in-Err-clause-stays
returns-in-Err-clause-stays g c =
    same_loses (file_ghosts g.row.F g.F.Start g.F.Start-dict g.F.Destruct-dict) (image_at g.F.Start) c.args.machine.now.files c.args.machine.now.files refl

pub returns-in-Ok-clause-part : goal.returns-in-Ok-clause-part
returns-in-Ok-clause-part g c = c.run_told.ensures.part

pub returns-in-Err-clause-part : goal.returns-in-Err-clause-part
returns-in-Err-clause-part g c =
    same_part (file_ghosts g.row.G g.G.Start g.G.Start-dict g.G.Destruct-dict) (image_at g.G.Start) c.args.machine.now.parts c.args.machine.now.parts refl

pub returns-in-Ok-clause-beside : goal.returns-in-Ok-clause-beside
returns-in-Ok-clause-beside g c none =
    let disk = file_ghosts g.row.F g.F.Start g.F.Start-dict g.F.Destruct-dict in
    let part = file_ghosts g.row.G g.G.Start g.G.Start-dict g.G.Destruct-dict in
    let rules = socket_rules g.S.Sockets.opens g.S.Sockets.closes g.S.Socket.Port.sends g.S.Socket.Port.receives g.S.Socket.Port.receives_within in
    let acts = site_acts g.S.Socket.Port.sends g.S.Socket.Port.receives_within g.W.Clock.reads in
    let old = setup g.I.Read.remaining g.O.Write.contents g.E.Write.contents c.args.machine.now c.args.console.now in
    let new = setup g.I.Read.remaining g.O.Write.contents g.E.Write.contents c.run_told.new.machine c.run_told.new.console in
    told_beside rules acts disk (image_at g.F.Start) part (image_at g.G.Start) (part_rules g.Q.Parts.lists g.Q.Parts.holds g.Q.Parts.bars) g.S.Heeds.passes g.C.Clock.tells c.args.waits old new c.run_told.result g.S.Tracing.traces
    c.in-Ok.job (λ asked is. none (asked, (c.in-Ok.ensures.ok.0, c.in-Ok.ensures.ok.1 ∙ ap Ok is))) c.run_told.ensures.ran

pub returns-in-Ok-clause-bad_value : goal.returns-in-Ok-clause-bad_value
returns-in-Ok-clause-bad_value g c word wrong =
    never_both (job_in (map string_bytes c.args.words.now)) c.in-Ok.job word c.in-Ok.ensures.ok.1 wrong.1

pub returns-in-Err-clause-bad_value : goal.returns-in-Err-clause-bad_value
returns-in-Err-clause-bad_value g c word wrong =
    let rules = socket_rules g.S.Sockets.opens g.S.Sockets.closes g.S.Socket.Port.sends g.S.Socket.Port.receives g.S.Socket.Port.receives_within in
    let old = setup g.I.Read.remaining g.O.Write.contents g.E.Write.contents c.args.machine.now c.args.console.now in
    let new = streams (g.I.Read.remaining c.run_read.new.input) (g.O.Write.contents c.run_read.new.output) (g.E.Write.contents c.run_read.new.errors) c.run_read.new.sockets c.run_read.new.clock in (
      ((refl {a = old.files}, refl {a = old.parts}), refl {a = old.folders}),
      wrong_of rules g.S.Heeds.passes g.C.Clock.tells (map string_bytes c.args.words.now) (Err c.in-Err.fault) old.streams c.run_read.result new tt c.in-Err.ensures.err c.run_read.ensures word wrong,
    )

pub returns-in-Ok-clause-explained : goal.returns-in-Ok-clause-explained
returns-in-Ok-clause-explained g c mistaken = absurd (mistaken c.in-Ok.ensures.ok.0)

pub returns-in-Err-clause-explained : goal.returns-in-Err-clause-explained
returns-in-Err-clause-explained g c mistaken =
    let rules = socket_rules g.S.Sockets.opens g.S.Sockets.closes g.S.Socket.Port.sends g.S.Socket.Port.receives g.S.Socket.Port.receives_within in
    let old = setup g.I.Read.remaining g.O.Write.contents g.E.Write.contents c.args.machine.now c.args.console.now in
    let new = streams (g.I.Read.remaining c.run_read.new.input) (g.O.Write.contents c.run_read.new.output) (g.E.Write.contents c.run_read.new.errors) c.run_read.new.sockets c.run_read.new.clock in (
      ((refl {a = old.files}, refl {a = old.parts}), refl {a = old.folders}),
      explained_of rules g.S.Heeds.passes g.C.Clock.tells (map string_bytes c.args.words.now) (Err c.in-Err.fault) old.streams c.run_read.result new tt c.in-Err.ensures.err c.run_read.ensures mistaken,
    )
