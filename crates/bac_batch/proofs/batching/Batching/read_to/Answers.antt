use Rattle.std.proofs.Common.{◌∙◌, ℕ, max, subst, ap}
use Rattle.bac_batch.specs.Batch.{Batched}
use Rattle.bac_batch.proofs.batching.Batching.read_to.Goals as goal

pub returns : goal.returns
returns g c =
    let inside = c.self.inside in
    let R : Batched g.row.M.Denot → Type 0 = λ b. g.M.Machine.reads b.machine c.args.ms c.read.new.self in
    let T : ℕ → Batched g.row.M.Denot = λ time. record {
      machine = c.read.new.self;
      puts = inside.puts.items;
      room = inside.room;
      since = inside.since;
      time = time;
      behind = inside.behind.items;
      quiet = inside.quiet;
    } in
    let F : Batched g.row.M.Denot → Batched g.row.M.Denot = λ b. record b { machine = c.read.new.self; time = max b.time c.args.ms } in
    (c.read.new.self, subst R c.self.view_is c.read.ensures, ap T c.max-self-inside.ensures ∙ ap F c.self.view_is)
