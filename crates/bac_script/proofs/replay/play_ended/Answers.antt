use Rattle.std.proofs.Common.{◌∷◌, arith, sym, ap, ◌∙◌}
use Rattle.std.proofs.lemmas.Result.{err_from_is_err_and}
use Rattle.bac_script.specs.Script.Lines.{ended_lines}
use Rattle.bac_script.proofs.LineLemmas.{ended_lines-first, open_line-first}
use Rattle.bac_script.proofs.PlayLemmas.{Progress-more, Stops-from_line}
use Rattle.bac_script.proofs.replay.play_ended.Goals as goal

pub returns-in_err-play_line-clause-err : goal.returns-in_err-play_line-clause-err
returns-in_err-play_line-clause-err g c =
    let p = err_from_is_err_and c.from_residual.result c.from_residual.ensures.1 in
    let rest = c.loop-line.rest.now in
    let line = c.in-Some.line.now in
    let more = c.in-Some.more.now in
    let lines-are = sym c.without_return.ensures in
    let first = ended_lines-first rest line more c.in-Some.ensures.parts ∙ ap (λ l. l ∷ ended_lines more) lines-are in
    let now = rw first at c.loop-line.invariant.0 in
    rw (p.1, p.2) (Stops-from_line _ _ _ _ _ _ _ _ _ now _ c.in_err-play_line.ensures.err)

pub loop-line-preserved : goal.loop-line-preserved
loop-line-preserved g c =
    let rest = c.loop-line.rest.now in
    let line = c.in-Some.line.now in
    let more = c.in-Some.more.now in
    let lines-are = sym c.without_return.ensures in
    let first = ended_lines-first rest line more c.in-Some.ensures.parts ∙ ap (λ l. l ∷ ended_lines more) lines-are in
    let now = rw first at c.loop-line.invariant.0 in
    let (text, stepped, written) = c.in_ok-play_line.ensures.ok in (
      Progress-more _ _ _ _ _ _ _ _ _ now text _ stepped written,
      c.loop-line.invariant.1 ∙ open_line-first rest line more c.in-Some.ensures.parts,
      omega (arith, c.loop-line.invariant.2, c.in-Some.ensures.shorter),
    )
