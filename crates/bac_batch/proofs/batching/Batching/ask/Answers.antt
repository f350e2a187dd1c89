use Rattle.std.proofs.Common.{subst}
use Rattle.std.proofs.lemmas.Result.{IfOk-weaker}
use Rattle.bac_batch.specs.Batch.{Answers, Asks, Batched}
use Rattle.bac_batch.proofs.batching.Batching.ask.Goals as goal

pub returns : goal.returns
returns g c =
    let old = c.args.self.now in
    let new = c.answer.new.self in
    let wanted = c.in_ok-wanted.wanted in
    let mid = c.next.new.self in
    let inside = c.self.inside in
    let b : Batched g.row.M.Denot = record {
      machine = mid;
      puts = inside.puts.items;
      room = inside.room;
      since = inside.since;
      time = inside.time;
      behind = inside.behind.items;
      quiet = inside.quiet;
    } in
    let G : Batched g.row.M.Denot → Type 0 = λ b. g.M.Machine.gives b.machine wanted mid in
    IfOk-weaker c.answer.result (λ next. Answers wanted b next new) (λ next. Asks g.M.Machine.gives old next new)
    (λ next answers.
    let A : Batched g.row.M.Denot → Type 0 = λ x. Answers wanted (record x { machine = mid }) next new in
    (wanted, mid, subst G c.self.view_is c.in_ok-wanted.ensures, subst A c.self.view_is answers))
    c.answer.ensures
