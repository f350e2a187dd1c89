use Rattle.std.proofs.Common.{◌≡◌, Result, Ok, Err, OnOk, sym}
use Rattle.bac_script.specs.Reason.{without_reason}
use Rattle.bac_script.specs.declared.replay.fault.Refused.{Refused}
use Rattle.bac_script.specs.declared.replay.fault.ReplayFault.{ReplayFault}
use Rattle.bac_script.proofs.EndLemmas.{Ends-refused}
use Rattle.bac_script.proofs.replay.explained_within.Goals as goal

-- what holds where all was played
of_played : (P : Type 0) (r : Result (Unit {0}) Refused) (played : Result (Unit {0}) ReplayFault) → without_reason r ≡ played → OnOk played P → OnOk r P
of_played P (Ok x) played e h = rw (sym e) at h
of_played P (Err refused) played e h = tt

pub returns-in_default-clause-ends : goal.returns-in_default-clause-ends
returns-in_default-clause-ends g c =
    Ends-refused c.args.limit (g.R.Read.remaining c.args.reader.now) (g.R.Read.remaining c.args.reader.now) (g.W.Write.contents c.args.writer.now)

pub returns-clause-ends : goal.returns-clause-ends
returns-clause-ends g c = rw c.explained.ensures.played c.replay_in-filled.ensures.ends

pub returns-clause-whole : goal.returns-clause-whole
returns-clause-whole g c = of_played _ c.explained.result _ c.explained.ensures.played c.replay_in-filled.ensures.whole

pub returns-clause-build_memory : goal.returns-clause-build_memory
returns-clause-build_memory g c = rw c.explained.ensures.played c.replay_in-filled.ensures.build_memory
