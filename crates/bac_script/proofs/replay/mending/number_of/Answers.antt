use Rattle.std.proofs.Common.{ℕ, ◌<◌, ◌+◌, ◌≤◌, length, sym, ap, arith, ◌∙◌}
use Rattle.std.specs.Str.Lines.{lines}
use Rattle.bac_script.specs.Reason.{number_of}
use Rattle.bac_script.proofs.Numbers.{number-here, number-next, number-past}
use Rattle.bac_script.proofs.replay.mending.number_of.Goals as goal
use Rattle.bac_script.proofs.replay.mending.number_of.Goals.{then-is_of+else-left-eq0, else-is_of}

pub returns-then-left-eq0 : goal.returns-then-left-eq0
returns-then-left-eq0 c =
    sym (c.loop-line.invariant.0
    ∙ number-here c.args.id c.loop-line.left c.loop-line.number c.loop-line.rest.now c.in-Some.line.now c.in-Some.more.now c.without_return.result.now
    c.in-Some.ensures.parts c.without_return.ensures (sym c.is_of.ensures ∙ c.if-is_of.true) c.if-left-eq0.true)

pub loop-line-preserved : goal.loop-line-preserved
loop-line-preserved c =
    let bound : c.loop-line.number + 1 + length c.in-Some.more.now ≤ 1 + length c.args.script.now = omega (arith, c.loop-line.invariant.1, c.in-Some.ensures.shorter) in
    let next = λ (k : ℕ). number_of c.args.id k (c.loop-line.number + 1) (lines c.in-Some.more.now) in
    elim c.if-is_of.branch [
      | then-is_of+else-left-eq0 w ↦
          let some : 0 < c.loop-line.left = omega (arith, w.if-left-eq0.false) in (
            c.loop-line.invariant.0
                ∙ number-next c.args.id c.loop-line.left c.loop-line.number c.loop-line.rest.now c.in-Some.line.now c.in-Some.more.now c.without_return.result.now
                c.in-Some.ensures.parts c.without_return.ensures (sym c.is_of.ensures ∙ w.if-is_of.true) some
                ∙ ap next (sym w.left-is),
            bound,
          )
      | else-is_of w ↦ (
        c.loop-line.invariant.0
            ∙ number-past c.args.id c.loop-line.left c.loop-line.number c.loop-line.rest.now c.in-Some.line.now c.in-Some.more.now c.without_return.result.now
            c.in-Some.ensures.parts c.without_return.ensures (sym c.is_of.ensures ∙ w.if-is_of.false)
            ∙ ap next (sym w.left-is),
        bound,
      )
    ]
