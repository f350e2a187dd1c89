use Rattle.std.proofs.Common.{◌≡◌, ℕ, ◌+◌, ◌<◌, ◌∙◌, Ok, ap, sym, length, arith}
use Rattle.std.proofs.lemmas.Bool.Decides.{nat_tests}
use Rattle.std.proofs.lemmas.Result.{err_from_is_err_and}
use Rattle.bac_command_line.specs.Listing.{said_in}
use Rattle.bac_command_line.proofs.Lining.{at_line, added, at_end, at_fault, none_listed, some_listed}
use Rattle.bac_command_line.proofs.listing.listed.Goals as goal

pub loop-line-preserved : goal.loop-line-preserved
loop-line-preserved c =
    let here = at_line said_in c.args.lines.now (λ line. line.now) c.loop-line.line-index _ _ c.loop-line.list.items c.loop-line.number c.loop-line-test.true c.without_return.ensures in
    (added _ _ _ _ (c.loop-line.invariant.0 ∙ here) c.in_ok-add_line.ensures, ap (λ (n : ℕ). n + 1) c.loop-line.invariant.1)

pub returns-in_err-add_line : goal.returns-in_err-add_line
returns-in_err-add_line c =
    let here = at_line said_in c.args.lines.now (λ line. line.now) c.loop-line.line-index _ _ c.loop-line.list.items c.loop-line.number c.loop-line-test.true c.without_return.ensures in
    let p = err_from_is_err_and c.from_residual.result c.from_residual.ensures.1 in
    rw (p.1, p.2) (at_fault _ _ _ _ _ (c.loop-line.invariant.0 ∙ here) c.in_err-add_line.ensures)

pub returns-then-is_empty : goal.returns-then-is_empty
returns-then-is_empty c =
    let items = c.loop-line.list.items in
    let none : length items ≡ 0 = grind (arith, nat_tests, c.loop-line.list.ok.0) in
    at_end said_in c.args.lines.now (λ line. line.now) _ items _ _ c.loop-line-test.false c.loop-line.invariant.0 ∙ none_listed items none

pub returns : goal.returns
returns c =
    let items = c.loop-line.list.items in
    let some : 0 < length items = grind (arith, nat_tests, c.loop-line.list.ok.0) in
    at_end said_in c.args.lines.now (λ line. line.now) _ items _ _ c.loop-line-test.false c.loop-line.invariant.0
    ∙ some_listed items some ∙ ap Ok (sym c.of.ensures)
