use Rattle.std.proofs.Common.{ℕ, Option, map, sym, ap, ◌∙◌}
use Rattle.bac_device_poller.specs.Rows.{device_as}
use Rattle.bac_plan.specs.Fresh.{fresh_id_in, or_else}
use Rattle.bac_plan.proofs.FreshLemmas.{fresh_id}
use Rattle.bac_plan.proofs.fresh_log.id_of.Goals as goal

pub returns-in-None : goal.returns-in-None
returns-in-None c =
    c.id_in-in-None.ensures ∙ sym (fresh_id c.args.one.now c.args.fresh.now)
    ∙ ap (λ (o : Option ℕ). or_else o (fresh_id_in c.args.one.now (map device_as c.args.fresh.now))) c.in-None.ensures
