use Rattle.bac_script.proofs.Outcomes.{told_done, told_bad_line, told_build, told_too_long, told_unread, told_unwritten, told_cut_short}
use Rattle.bac_script.proofs.replay.run_replay.Goals as goal

pub returns-clause-done : goal.returns-clause-done
returns-clause-done g c =
    told_done _ (g.R.Read.remaining c.args.reader.now) (g.R.Read.remaining c.replay_within.new.reader) (g.W.Write.contents c.args.writer.now) (g.W.Write.contents c.replay_within.new.writer) c.replay_within.result c.replay_within.ensures.ends

pub returns-clause-bad_line : goal.returns-clause-bad_line
returns-clause-bad_line g c =
    told_bad_line _ (g.R.Read.remaining c.args.reader.now) (g.R.Read.remaining c.replay_within.new.reader) (g.W.Write.contents c.args.writer.now) (g.W.Write.contents c.replay_within.new.writer) c.replay_within.result c.replay_within.ensures.ends

pub returns-clause-build : goal.returns-clause-build
returns-clause-build g c =
    told_build _ (g.R.Read.remaining c.args.reader.now) (g.R.Read.remaining c.replay_within.new.reader) (g.W.Write.contents c.args.writer.now) (g.W.Write.contents c.replay_within.new.writer) c.replay_within.result c.replay_within.ensures.ends

pub returns-clause-too_long : goal.returns-clause-too_long
returns-clause-too_long g c =
    told_too_long _ (g.R.Read.remaining c.args.reader.now) (g.R.Read.remaining c.replay_within.new.reader) (g.W.Write.contents c.args.writer.now) (g.W.Write.contents c.replay_within.new.writer) c.replay_within.result c.replay_within.ensures.ends

pub returns-clause-read_fault : goal.returns-clause-read_fault
returns-clause-read_fault g c =
    told_unread _ (g.R.Read.remaining c.args.reader.now) (g.R.Read.remaining c.replay_within.new.reader) (g.W.Write.contents c.args.writer.now) (g.W.Write.contents c.replay_within.new.writer) c.replay_within.result c.replay_within.ensures.ends

pub returns-clause-write_fault : goal.returns-clause-write_fault
returns-clause-write_fault g c =
    told_unwritten _ (g.R.Read.remaining c.args.reader.now) (g.R.Read.remaining c.replay_within.new.reader) (g.W.Write.contents c.args.writer.now) (g.W.Write.contents c.replay_within.new.writer) c.replay_within.result c.replay_within.ensures.ends

pub returns-clause-memory : goal.returns-clause-memory
returns-clause-memory g c =
    told_cut_short _ (g.R.Read.remaining c.args.reader.now) (g.R.Read.remaining c.replay_within.new.reader) (g.W.Write.contents c.args.writer.now) (g.W.Write.contents c.replay_within.new.writer) c.replay_within.result c.replay_within.ensures.ends
