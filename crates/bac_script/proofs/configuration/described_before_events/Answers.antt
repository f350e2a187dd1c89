use Rattle.std.proofs.Common.{◌≡◌, sym, ◌∙◌, None}
use Rattle.std.specs.Str.Lines.{lines}
use Rattle.bac_script.specs.Configuration.{kept_plan, with_text}
use Rattle.bac_script.proofs.ConfigurationLemmas.{described-cut, described-line, described-stop}
use Rattle.bac_script.proofs.configuration.described_before_events.Goals as goal

pub loop-line-preserved : goal.loop-line-preserved
loop-line-preserved c =
    let plan = kept_plan c.loop-line.kept in
    let first = c.without_return.result.now in
    let more = c.in-Some.more.now in
    let cut = described-cut _ plan c.loop-line.rest.now c.in-Some.line.now more first c.loop-line.invariant c.in-Some.ensures.parts c.without_return.ensures in
    described-line _ plan (kept_plan c.add_text.new.kept) first (lines more) cut c.in-Ok.ensures.added

pub returns-in-Err-Bad : goal.returns-in-Err-Bad
returns-in-Err-Bad c =
    let plan = kept_plan c.loop-line.kept in
    let first = c.without_return.result.now in
    let more = c.in-Some.more.now in
    let cut = described-cut _ plan c.loop-line.rest.now c.in-Some.line.now more first c.loop-line.invariant c.in-Some.ensures.parts c.without_return.ensures in
    let bad : with_text plan first ≡ None = rw c.in-Err-Bad.field-0-is at c.in-Err-Bad.ensures.added in
    c.in-Err-Bad.ensures.err ∙ sym (described-stop _ plan first (lines more) cut bad)
