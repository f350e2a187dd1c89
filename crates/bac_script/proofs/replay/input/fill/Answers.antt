use Rattle.std.proofs.Common.{rules, arith, sym, subst, length-take-le}
use Rattle.std.specs.Io.KnownBytes.{Consumes}
use Rattle.std.proofs.KnownBytes.{Consumes-trans}
use Rattle.std.proofs.lemmas.List.{places}
use Rattle.bac_script.proofs.Octets.{take-filled}
use Rattle.bac_script.proofs.replay.input.fill.Goals as goal

pub loop-filled-preserved : goal.loop-filled-preserved
loop-filled-preserved g c =
    let buffer = c.loop-filled.buffer in
    let filled = c.loop-filled.filled in
    let now = take-filled _ c.read_again.new.buffer _ filled c.in-Ok.n (length-take-le filled buffer (omega arith)) (omega (arith, c.in-Ok.ensures.bound)) in
    (search (rules, places), subst (Consumes _ _) (sym now) (Consumes-trans _ _ _ _ _ c.loop-filled.invariant.1 c.in-Ok.ensures.bytes.0))
