use Rattle.sqlite_wal.specs.Files.{image_at}
use Rattle.bac_files.proofs.FileGhosts.{file_ghosts}
use Rattle.bac_ports.specs.Sockets.{socket_rules}
use Rattle.bac_site_poller.specs.SiteLaws.{site_acts}
use Rattle.bac_keeper.proofs.Left.{tool_loses}
use Rattle.bac_keeper.proofs.laws.tool_loses_nothing.Goals as goal

pub returns : goal.returns
returns g c = λ keep begun old new result runs.
    tool_loses (socket_rules g.S.Sockets.opens g.S.Sockets.closes g.S.Socket.Port.sends g.S.Socket.Port.receives g.S.Socket.Port.receives_within)
    (site_acts g.S.Socket.Port.sends g.S.Socket.Port.receives_within g.C.Clock.reads) (file_ghosts g.row.F g.F.Start g.F.Start-dict g.F.Destruct-dict) (image_at g.F.Start)
    (file_ghosts g.row.G g.G.Start g.G.Start-dict g.G.Destruct-dict) (image_at g.G.Start) c.kill_loses_nothing.ensures keep begun old new result runs
