use Rattle.bac_script.specs.Views.{state_of}
use Rattle.std.proofs.Common.{arith, ◌≡◌, ◌<◌, [], ◌∷◌, length}
use Rattle.std.proofs.lemmas.Result.{err_from_is_err_and, on_ok_weaker, IfErr-weaker}
use Rattle.std.proofs.lemmas.Grind.{common_steps}
use Rattle.std.specs.Str.Lines.{lines}
use Rattle.bac_script.specs.Stops.{LineStops, Stops}
use Rattle.bac_script.proofs.EndLemmas.{Stops-ended, no_last_line, last_line, last_played}
use Rattle.bac_script.proofs.PlayLemmas.{Progress, Stops-from_line}
use Rattle.bac_script.proofs.replay.play_all.Goals as goal
use Rattle.bac_script.proofs.replay.play_all.Goals.{After-play_line}

pub returns-in_err-number-clause-err : goal.returns-in_err-number-clause-err
returns-in_err-number-clause-err g c =
    let p = err_from_is_err_and c.from_residual.result c.from_residual.ensures.1 in
    let old = g.W.Write.contents c.args.writer.now in
    let new = g.W.Write.contents c.play_ended.new.writer in
    rw (p.1, p.2) (Stops-ended old new (state_of c.args.session.now) c.args.script.now c.in_err-number.field-0.0 c.in_err-number.ensures.err)

pub returns-then-is_empty-clause-ok : goal.returns-then-is_empty-clause-ok
returns-then-is_empty-clause-ok g c =
    let old = g.W.Write.contents c.args.writer.now in
    let mid = g.W.Write.contents c.play_ended.new.writer in
    let empty : length c.in_ok-number.rest.now ≡ 0 = grind (arith, common_steps) in
    no_last_line old mid (state_of c.args.session.now) c.args.script.now c.in_ok-number.rest.now c.in_ok-number.number (state_of c.play_ended.new.session) c.in_ok-number.ensures.rest c.in_ok-number.ensures.all empty

last : (g : _) (c : After-play_line g) → Progress (g.W.Write.contents c.args.writer.now) (g.W.Write.contents c.play_ended.new.writer) (state_of c.args.session.now) (lines c.args.script.now) (c.in_ok-number.rest.now ∷ []) c.in_ok-number.number (state_of c.play_ended.new.session)
last g c =
    let old = g.W.Write.contents c.args.writer.now in
    let mid = g.W.Write.contents c.play_ended.new.writer in
    let some : 0 < length c.in_ok-number.rest.now = grind (arith, common_steps) in
    last_line old mid (state_of c.args.session.now) c.args.script.now c.in_ok-number.rest.now c.in_ok-number.number (state_of c.play_ended.new.session) c.in_ok-number.ensures.rest c.in_ok-number.ensures.all some c.in_ok-number.ensures.number

pub returns-clause-ok : goal.returns-clause-ok
returns-clause-ok g c =
    let old = g.W.Write.contents c.args.writer.now in
    let mid = g.W.Write.contents c.play_ended.new.writer in
    let new = g.W.Write.contents c.play_line.new.writer in
    on_ok_weaker c.play_line.result (last_played old mid new (state_of c.args.session.now) (lines c.args.script.now) c.in_ok-number.rest.now c.in_ok-number.number (state_of c.play_ended.new.session) (state_of c.play_line.new.session) (last g c)) c.play_line.ensures.ok

pub returns-clause-err : goal.returns-clause-err
returns-clause-err g c =
    let old = g.W.Write.contents c.args.writer.now in
    let mid = g.W.Write.contents c.play_ended.new.writer in
    let new = g.W.Write.contents c.play_line.new.writer in
    let line = c.in_ok-number.rest.now in
    let number = c.in_ok-number.number in
    let at = (state_of c.play_ended.new.session) in
    IfErr-weaker c.play_line.result (LineStops mid new number at line) (Stops old new (state_of c.args.session.now) (lines c.args.script.now))
    (λ f h. Stops-from_line old mid new (state_of c.args.session.now) (lines c.args.script.now) line [] number at (last g c) f h) c.play_line.ensures.err
