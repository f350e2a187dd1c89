use Rattle.std.proofs.Common.{None, ap, inr, refl}
use Rattle.std.proofs.lemmas.Result.{err_from_is_err_and}
use Rattle.bac_tools.proofs.Parts.{unserved}
use Rattle.bac_ports.specs.Sockets.{socket_rules}
use Rattle.bac_tools.specs.Streams.{streams}
use Rattle.bac_tools.proofs.serving.serve_at.Goals as goal

pub returns-in_err-port : goal.returns-in_err-port
returns-in_err-port g c =
    let p = err_from_is_err_and c.from_residual.result c.from_residual.ensures.1 in
    let down = c.in_err-port.ensures.err in
    unserved (socket_rules g.S.Sockets.opens g.S.Sockets.closes g.S.Socket.Port.sends g.S.Socket.Port.receives
    g.S.Socket.Port.receives_within) g.C.Clock.tells c.args.place.address c.args.place.wait c.args.count c.args.device.now
    (streams None None _ _ _) (streams None None _ _ _)
    c.from_residual.result c.in_err-port.field-0.0 (rw (p.1, p.2) refl) (ap g.E.Write.contents down.0) refl down.1

pub returns-in-Ok : goal.returns-in-Ok
returns-in-Ok g c =
    let up = c.in_ok-port.ensures.ok in
    inr (inr (
      c.in_ok-port.port,
      _,
      c.serve-served.new.port,
      up.0,
      (c.serve-served.result, c.serve-served.new.device, up.1, c.serve-served.ensures, rw c.in-Ok.is refl),
      c.close.ensures,
    ))

pub returns-in-Err : goal.returns-in-Err
returns-in-Err g c =
    let up = c.in_ok-port.ensures.ok in
    inr (inr (
      c.in_ok-port.port,
      _,
      c.serve-served.new.port,
      up.0,
      (c.serve-served.result, c.serve-served.new.device, up.1, c.serve-served.ensures, rw c.in-Err.is refl),
      c.close.ensures,
    ))
