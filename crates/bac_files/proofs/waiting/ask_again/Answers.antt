use Rattle.std.proofs.Common.{◌≡◌, ◌≢◌, Err, inl, inr, refl, rules, subst, true, false}
use Rattle.bac_files.specs.Waiting.{at_wait}
use Rattle.bac_files.proofs.WaitLemmas.{vain_more}
use Rattle.bac_files.proofs.waiting.ask_again.Goals as goal

pub returns-then-has_failed : goal.returns-then-has_failed
returns-then-has_failed g c =
    inr (
      c.loop-step.step,
      c.loop-step-test.true,
      at_wait c.loop-step.file c.loop-step.port,
      c.loop-step.invariant,
      (c.receive_within-heard.result, c.receive_within-heard.ensures, inl (c.has_failed.ensures.0 c.if-has_failed.true, refl, refl)),
    )

pub returns-then-not-is_in_use : goal.returns-then-not-is_in_use
returns-then-not-is_in_use g c =
    let free : c.is_in_use.result ≡ false = search rules in
    inr (
      c.loop-step.step,
      c.loop-step-test.true,
      at_wait c.loop-step.file c.loop-step.port,
      c.loop-step.invariant,
      (
        c.receive_within-heard.result,
        c.receive_within-heard.ensures,
        inr (
          (λ is. let yes : c.has_failed.result ≡ true = c.has_failed.ensures.1 is in search rules),
          refl,
          subst (λ r. g.U.Shared.asks c.loop-step.file r c.is_in_use.new.self) free c.is_in_use.ensures,
        ),
      ),
    )

pub loop-step-preserved : goal.loop-step-preserved
loop-step-preserved g c =
    let used : c.is_in_use.result ≡ true = search rules in
    vain_more g.U.Shared.asks g.P.Port.receives_within c.loop-step.step (at_wait c.args.file.now c.args.port.now) (at_wait c.loop-step.file c.loop-step.port)
    (at_wait c.is_in_use.new.self c.receive_within-heard.new.self) c.receive_within-heard.result c.loop-step.invariant
    (λ is. let yes : c.has_failed.result ≡ true = c.has_failed.ensures.1 is in search rules) c.receive_within-heard.ensures
    (subst (λ r. g.U.Shared.asks c.loop-step.file r c.is_in_use.new.self) used c.is_in_use.ensures)
