use Rattle.std.proofs.Common.{Err, refl, take}
use Rattle.std.proofs.lemmas.Result.{err_from_is_err_and}
use Rattle.bac_script.specs.Script.Lines.{ended_lines, open_line}
use Rattle.bac_script.specs.Session.{Empty}
use Rattle.bac_script.proofs.NeverMemory.{cut_never, whole_never}
use Rattle.bac_script.proofs.EndLemmas.{Ends-read, Ends-full, Ends-full_stopped, Ends-cut, Ends-cut_stopped}
use Rattle.bac_script.proofs.Unbuilt.{cut_result, front_lines, whole_result}
use Rattle.bac_script.proofs.LineLemmas.{lines-parts}
use Rattle.bac_script.proofs.replay.play_read.Goals as goal

pub returns-in-End-clause-ends : goal.returns-in-End-clause-ends
returns-in-End-clause-ends g c have left consumed end =
    Ends-read c.args.limit have left (g.W.Write.contents c.args.writer.now) (g.W.Write.contents c.play_whole.new.writer) c.args.text.now consumed (end c.in-End.is) (c.requires.end c.in-End.is) c.play_whole.result c.play_whole.ensures.ok c.play_whole.ensures.err

pub returns-in_ok-play_cut-in-Refused-clause-ends : goal.returns-in_ok-play_cut-in-Refused-clause-ends
returns-in_ok-play_cut-in-Refused-clause-ends g c have left consumed end =
    let (t, played) = c.in_ok-play_cut-in-Refused.ensures.ok in
    Ends-cut c.args.limit have left (g.W.Write.contents c.args.writer.now) (g.W.Write.contents c.play_cut-in-Refused.new.writer) c.args.text.now t consumed (c.requires.refused c.in-Refused.is) played

pub returns-in_err-play_cut-in-Refused-clause-ends : goal.returns-in_err-play_cut-in-Refused-clause-ends
returns-in_err-play_cut-in-Refused-clause-ends g c have left consumed end =
    let p = err_from_is_err_and c.from_residual-in_err-play_cut-in-Refused.result c.from_residual-in_err-play_cut-in-Refused.ensures.1 in
    rw (p.1, p.2) (Ends-cut_stopped c.args.limit have left (g.W.Write.contents c.args.writer.now) (g.W.Write.contents c.play_cut-in-Refused.new.writer) c.args.text.now c.in_err-play_cut-in-Refused.field-0.0 consumed (c.requires.refused c.in-Refused.is) c.in_err-play_cut-in-Refused.ensures.err)

pub returns-in_ok-play_cut-in-Full-clause-ends : goal.returns-in_ok-play_cut-in-Full-clause-ends
returns-in_ok-play_cut-in-Full-clause-ends g c have left consumed end =
    let (t, played) = c.in_ok-play_cut-in-Full.ensures.ok in
    Ends-full c.args.limit (g.W.Write.contents c.args.writer.now) (g.W.Write.contents c.play_cut.new.writer) c.args.text.now (c.requires.full c.in-Full.is) have left t consumed played

pub returns-in_err-play_cut-in-Full-clause-ends : goal.returns-in_err-play_cut-in-Full-clause-ends
returns-in_err-play_cut-in-Full-clause-ends g c have left consumed end =
    let p = err_from_is_err_and c.from_residual.result c.from_residual.ensures.1 in
    rw (p.1, p.2) (Ends-full_stopped c.args.limit (g.W.Write.contents c.args.writer.now) (g.W.Write.contents c.play_cut.new.writer) c.args.text.now (c.requires.full c.in-Full.is) have left c.in_err-play_cut-in-Full.field-0.0 consumed c.in_err-play_cut-in-Full.ensures.err)

pub returns-in-End-clause-build_memory : goal.returns-in-End-clause-build_memory
returns-in-End-clause-build_memory g c =
    whole_never (g.W.Write.contents c.args.writer.now) (g.W.Write.contents c.play_whole.new.writer) c.args.text.now c.play_whole.result
    c.play_whole.ensures.err

pub returns-in_err-play_cut-in-Refused-clause-build_memory : goal.returns-in_err-play_cut-in-Refused-clause-build_memory
returns-in_err-play_cut-in-Refused-clause-build_memory g c =
    let p = err_from_is_err_and c.from_residual-in_err-play_cut-in-Refused.result c.from_residual-in_err-play_cut-in-Refused.ensures.1 in
    rw (p.1, p.2) (cut_never (g.W.Write.contents c.args.writer.now) (g.W.Write.contents c.play_cut-in-Refused.new.writer) Empty
    (ended_lines c.args.text.now)
    c.in_err-play_cut-in-Refused.field-0.0 (Err c.in_err-play_cut-in-Refused.field-0.0) refl c.in_err-play_cut-in-Refused.ensures.err)

pub returns-in_err-play_cut-in-Full-clause-build_memory : goal.returns-in_err-play_cut-in-Full-clause-build_memory
returns-in_err-play_cut-in-Full-clause-build_memory g c =
    let p = err_from_is_err_and c.from_residual.result c.from_residual.ensures.1 in
    rw (p.1, p.2) (cut_never (g.W.Write.contents c.args.writer.now) (g.W.Write.contents c.play_cut.new.writer) Empty
    (ended_lines (take c.args.limit c.args.text.now))
    c.in_err-play_cut-in-Full.field-0.0 (Err c.in_err-play_cut-in-Full.field-0.0) refl c.in_err-play_cut-in-Full.ensures.err)

pub returns-in-End-clause-unbuilt : goal.returns-in-End-clause-unbuilt
returns-in-End-clause-unbuilt g c =
    whole_result (g.W.Write.contents c.args.writer.now) (g.W.Write.contents c.play_whole.new.writer) c.args.text.now c.play_whole.result
    c.play_whole.ensures.err

pub returns-in_err-play_cut-in-Refused-clause-unbuilt : goal.returns-in_err-play_cut-in-Refused-clause-unbuilt
returns-in_err-play_cut-in-Refused-clause-unbuilt g c =
    let p = err_from_is_err_and c.from_residual-in_err-play_cut-in-Refused.result c.from_residual-in_err-play_cut-in-Refused.ensures.1 in
    let text = c.args.text.now in
    let fault = c.in_err-play_cut-in-Refused.field-0.0 in
    rw (p.1, p.2) (cut_result (g.W.Write.contents c.args.writer.now) (g.W.Write.contents c.play_cut-in-Refused.new.writer) text text
    (open_line text) fault (Err fault) refl (lines-parts text) c.in_err-play_cut-in-Refused.ensures.err)

pub returns-in_err-play_cut-in-Full-clause-unbuilt : goal.returns-in_err-play_cut-in-Full-clause-unbuilt
returns-in_err-play_cut-in-Full-clause-unbuilt g c =
    let p = err_from_is_err_and c.from_residual.result c.from_residual.ensures.1 in
    let text = c.args.text.now in
    let fault = c.in_err-play_cut-in-Full.field-0.0 in
    let (more, split) = front_lines c.args.limit text in
    rw (p.1, p.2) (cut_result (g.W.Write.contents c.args.writer.now) (g.W.Write.contents c.play_cut.new.writer) text (take c.args.limit text)
    more fault (Err fault) refl split c.in_err-play_cut-in-Full.ensures.err)
