-- What the answers about some words of a script open: a name for the definitions that each of them needs together.
use Rattle.std.specs.Prelude.{⊤}
use Rattle.bac_script.specs.Script.Line.{log_line}
use Rattle.bac_script.specs.Script.Stamp.{moment_at, stamp_in}

-- the line of a log
unfoldable pub log : ⊤
unfolding log_line
log = tt

-- a moment
unfoldable pub stamp : ⊤
unfolding stamp_in moment_at
stamp = tt
