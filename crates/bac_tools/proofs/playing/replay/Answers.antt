use Rattle.std.proofs.Common.{ap, refl, sym, Err, None}
use Rattle.bac_tools.specs.Playing.{of_replay}
use Rattle.bac_script.proofs.EndLemmas.{Replays-kept, Replays-unwritten}
use Rattle.bac_script.specs.Reason.{without_reason}
use Rattle.bac_script.specs.declared.replay.fault.ReplayFault.TheVariants.{Write}
use Rattle.bac_tools.proofs.playing.replay.Goals as goal

pub returns-then-is_err : goal.returns-then-is_err
returns-then-is_err g c =
    let read = c.run_replay_explained-played.ensures.read in (
      Err (record { fault = Write; reason = None }),
      Replays-unwritten _ (g.I.Read.remaining c.args.input.now) (g.I.Read.remaining c.run_replay_explained-played.new.reader) (g.O.Write.contents c.args.output.now) _
          (g.O.Write.contents c.flush.new.self) (without_reason c.run_replay_explained-played.result) c.run_replay_explained-played.ensures.ends c.flush.ensures.bytes,
      (read.0, read.1, refl),
      rw c.from.ensures refl,
    )

pub returns-in-Ok : goal.returns-in-Ok
returns-in-Ok g c = (
  c.run_replay_explained-played.result,
  Replays-kept _ (g.I.Read.remaining c.args.input.now) (g.I.Read.remaining c.run_replay_explained-played.new.reader) (g.O.Write.contents c.args.output.now) _
      (g.O.Write.contents c.flush.new.self) (without_reason c.run_replay_explained-played.result) c.run_replay_explained-played.ensures.ends c.flush.ensures.bytes,
  c.run_replay_explained-played.ensures.explained,
  sym (ap of_replay c.in-Ok.is),
)

pub returns-in-Err : goal.returns-in-Err
returns-in-Err g c = (
  c.run_replay_explained-played.result,
  Replays-kept _ (g.I.Read.remaining c.args.input.now) (g.I.Read.remaining c.run_replay_explained-played.new.reader) (g.O.Write.contents c.args.output.now) _
      (g.O.Write.contents c.flush.new.self) (without_reason c.run_replay_explained-played.result) c.run_replay_explained-played.ensures.ends c.flush.ensures.bytes,
  c.run_replay_explained-played.ensures.explained,
  sym (ap of_replay c.in-Err.is),
)
