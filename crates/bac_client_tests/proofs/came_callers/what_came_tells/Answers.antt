use Rattle.std.proofs.Common.{ℕ, sym, subst}
use Rattle.bac_link.specs.Path.{towards}
use Rattle.bac_walk.specs.Collects.{Goes}
use Rattle.bac_client_tests.proofs.came_callers.what_came_tells.Goals as goal

pub returns : goal.returns
returns g c =
    let t = c.args.transactions.now in
    let w = c.args.walk.now in
    let run = c.collect.ensures.brought in
    let items = c.collect.result.items.items in
    let told = c.brought_tells_why.ensures (towards t.route) t.retries c.args.link.now c.collect.new.link w c.collect.new.walk run.0 run.3.0 items run.1 run.3.1 in
    let goes = c.brought_goes_on.ensures (towards t.route) t.retries c.args.link.now c.collect.new.link w c.collect.new.walk run.0 run.3.0 items run.1 run.3.1 in
    let P : ℕ → Type 0 = λ n. (s : ℕ) → Goes w.fresh w.next s items c.collect.new.walk.fresh n in
    (run.0, run.1, run.2, told, subst P (sym c.collect.ensures.next) goes)
