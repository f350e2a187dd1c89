use Rattle.std.proofs.Common.{◌∙◌, subst, ap}
use Rattle.std.specs.Prelude.{Bool, is_err}
use Rattle.bac_batch.specs.Batch.{Batched}
use Rattle.bac_batch.proofs.batching.Batching.take.Goals as goal

pub returns : goal.returns
returns g c =
    let inside = c.self.inside in
    let H : Batched g.row.M.Denot → Type 0 = λ b. g.M.Machine.hears b.machine c.args.heard c.hear.new.self in
    let Q : Bool → Batched g.row.M.Denot = λ quiet. record {
      machine = c.hear.new.self;
      puts = inside.puts.items;
      room = inside.room;
      since = inside.since;
      time = inside.time;
      behind = inside.behind.items;
      quiet = quiet;
    } in
    let F : Batched g.row.M.Denot → Batched g.row.M.Denot =
    λ b. record b { machine = c.hear.new.self; quiet = is_err c.args.heard } in
    (c.hear.new.self, subst H c.self.view_is c.hear.ensures, ap Q c.is_err-quiet.ensures.value ∙ ap F c.self.view_is)
