use Rattle.bac_files.specs.Waiting.{WaitsInVain, at_wait}
use Rattle.bac_files.proofs.waiting.ask_again.Given as goal

-- so often it waited and found the file in use
abbrev pub invariant-loop-step : goal.invariant-loop-step
invariant-loop-step g l = WaitsInVain g.U.Shared.asks g.P.Port.receives_within l.step (at_wait l.fn.file l.fn.port) (at_wait l.file l.port)
