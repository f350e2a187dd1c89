use Rattle.std.proofs.Common.{refl, ap, ◌∙◌}
use Rattle.bac_query.proofs.Pending.{prints_all}
use Rattle.bac_query.proofs.fetching_ahead.turn.Goals as goal

pub returns-in-Ok-clause-ran : goal.returns-in-Ok-clause-ran
returns-in-Ok-clause-ran g c =
    let (items, kept, run) = c.step-ended.ensures.ran in
    (c.step-ended.result, items, (refl, λ on. ap (λ v. v.items) c.swap.ensures.x_after ∙ kept on), rw (c.print_left.ensures.link, c.print_left.ensures.said_more) run)

pub returns-in-Ok-clause-prints : goal.returns-in-Ok-clause-prints
returns-in-Ok-clause-prints g c =
    let (same, first) = rw c.requires at c.step-ended.ensures.beside.0 in
    let all = prints_all c.args.ahead.now.layout c.args.ahead.now.left.now.items c.step-ended.new.ahead.left.now.items (g.W.Write.contents c.args.ahead.now.out.now) (g.W.Write.contents c.step-ended.new.ahead.out.now)
    (g.W.Write.contents c.print_left.new.self.out.now) c.step-ended.new.ahead.is_refused c.print_left.result first (rw same at c.print_left.ensures.prints) c.print_left.ensures.refused in
    rw c.in-Ok.is at all

pub returns-in-Err-clause-ran : goal.returns-in-Err-clause-ran
returns-in-Err-clause-ran g c =
    let (items, kept, run) = c.step-ended.ensures.ran in
    (c.step-ended.result, items, tt, rw (c.print_left.ensures.link, c.print_left.ensures.said_more) run)

pub returns-in-Err-clause-prints : goal.returns-in-Err-clause-prints
returns-in-Err-clause-prints g c =
    let (same, first) = rw c.requires at c.step-ended.ensures.beside.0 in
    let all = prints_all c.args.ahead.now.layout c.args.ahead.now.left.now.items c.step-ended.new.ahead.left.now.items (g.W.Write.contents c.args.ahead.now.out.now) (g.W.Write.contents c.step-ended.new.ahead.out.now)
    (g.W.Write.contents c.print_left.new.self.out.now) c.step-ended.new.ahead.is_refused c.print_left.result first (rw same at c.print_left.ensures.prints) c.print_left.ensures.refused in
    rw c.in-Err.is at all

pub returns-in-Ok-clause-flaw : goal.returns-in-Ok-clause-flaw
returns-in-Ok-clause-flaw g c = λ bad. rw (c.print_left.ensures.link, c.print_left.ensures.flaw) (c.step-ended.ensures.flaw bad)
