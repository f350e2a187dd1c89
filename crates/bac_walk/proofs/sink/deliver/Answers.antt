use Rattle.std.proofs.Common.{◌≡◌, ◌≢◌, ◌+◌, ◌<◌, ℕ, List, length, refl, sym, ap, subst, ◌∙◌, arith}
use Rattle.bac_wire.specs.Primitive.{Id}
use Rattle.bac_walk.specs.declared.outcome.Ended.{Ended}
use Rattle.bac_walk.specs.declared.outcome.Ended.TheVariants.{CaughtUp, StepLimit, Stopped, Fault}
use Rattle.bac_link.specs.Delivery.{History, Moment}
use Rattle.bac_link.specs.Laws.{after_answers}
use Rattle.bac_walk.specs.Sinks.{Delivery, put_items, sink_filled, ours_around}
use Rattle.bac_walk.specs.Collects.{MissingEnd, losses_of}
use Rattle.bac_walk.specs.Near.{StaysNear}
use Rattle.bac_walk.proofs.Near.{fewer_steps, next_step}
use Rattle.bac_walk.proofs.Runs.{no_delivery, join_delivers, delivers_early, headline_of}
use Rattle.bac_walk.proofs.Told.{told_same}
use Rattle.bac_walk.proofs.Window.{in_window_of}
use Rattle.bac_walk.proofs.TransactedRuns.{no_into, into_joins, into_early}
use Rattle.bac_walk.proofs.Transacted.{into_plain}
use Rattle.bac_walk.specs.Transacted.{BroughtIntoBy, walk_by}
use Rattle.bac_link.specs.Path.{towards}
use Rattle.bac_walk.proofs.Growing.{into_growing}
use Rattle.bac_walk.proofs.Honest.{into_said}
use Rattle.bac_walk.proofs.sink.deliver.Goals as goal

missing_more : (n : ℕ) (ended : Ended) → ended ≢ StepLimit → 0 < n → MissingEnd 1 ended → MissingEnd n ended
missing_more n CaughtUp not_limit some h = absurd h
missing_more n StepLimit not_limit some h = absurd (not_limit refl)
missing_more n Stopped not_limit some h = absurd h
missing_more n (Fault e) not_limit some h = (some, h.1)

pub loop-done-init : goal.loop-done-init
loop-done-init g c = record {
  log = refl;
  count = refl;
  retries = refl;
  route = refl;
  begun = omega arith;
  never_falls = omega arith;
  sure = λ h. h;
  unchanged = λ h. g.met.L.LogLink.keeps_itself c.args.link.now;
  missing = λ h. (h, refl);
  none = λ h. (refl, refl, refl, refl, refl);
  delivers = no_delivery g.S.Sink.puts c.args.sink.now (λ r M H. g.L.LogLink.is_ours c.args.link.now c.args.walk.now.log r M H)
      c.args.transactions.now.retries (g.L.LogLink.failures c.args.link.now) c.args.walk.now;
  transacted = no_into g.L.LogLink.asks c.args.transactions.now g.S.Sink.puts c.args.link.now c.args.sink.now c.args.walk.now;
}

pub returns-in_default : goal.returns-in_default
returns-in_default g c =
    let was : ℕ → List Moment → History → Type 0 = λ r M H. g.L.LogLink.is_ours c.args.link.now c.args.walk.now.log r M H in
    let mid : ℕ → List Moment → History → Type 0 = λ r M H. g.L.LogLink.is_ours c.loop-done.link c.args.walk.now.log r M H in
    let is : ℕ → List Moment → History → Type 0 = λ r M H. g.L.LogLink.is_ours c.deliver_step.new.link c.args.walk.now.log r M H in
    let P : Id → Type 0 = λ n. Delivery (sink_filled g.S.Sink.puts c.loop-done.sink c.deliver_step.new.sink) (ours_around (λ r M H. g.L.LogLink.is_ours c.loop-done.link n r M H) (λ r M H. g.L.LogLink.is_ours c.deliver_step.new.link n r M H)) (losses_of c.loop-done.transactions.retries (g.L.LogLink.failures c.loop-done.link) (g.L.LogLink.failures c.deliver_step.new.link)) c.loop-done.walk c.deliver_step.new.walk 1 c.deliver_step.result in
    let Q : ℕ → Type 0 = λ n. Delivery (sink_filled g.S.Sink.puts c.loop-done.sink c.deliver_step.new.sink) (ours_around mid is) (losses_of n (g.L.LogLink.failures c.loop-done.link) (g.L.LogLink.failures c.deliver_step.new.link)) c.loop-done.walk c.deliver_step.new.walk 1 c.deliver_step.result in
    let step = subst Q c.loop-done.invariant.retries (subst P c.loop-done.invariant.log c.deliver_step.ensures.delivers) in
    let not_limit : c.deliver_step.result ≢ StepLimit = c.in_default.not-StepLimit in
    let K : Id → Type 0 = λ n. g.L.LogLink.lacks c.loop-done.link n in
    let L : Id → Type 0 = λ n. g.L.LogLink.lacks c.deliver_step.new.link n in
    let delivers = delivers_early g.S.Sink.puts c.args.sink.now c.deliver_step.new.sink was is c.args.transactions.now.retries
    (g.L.LogLink.failures c.args.link.now) (g.L.LogLink.failures c.deliver_step.new.link) c.args.walk.now c.deliver_step.new.walk
    (c.loop-done.done + 1) c.args.steps c.deliver_step.result not_limit (omega arith)
    (join_delivers g.S.Sink.puts c.args.sink.now c.loop-done.sink c.deliver_step.new.sink was mid is c.args.transactions.now.retries
    (g.L.LogLink.failures c.args.link.now) (g.L.LogLink.failures c.loop-done.link) (g.L.LogLink.failures c.deliver_step.new.link)
    c.args.walk.now c.loop-done.walk c.deliver_step.new.walk c.loop-done.done c.deliver_step.result
    c.loop-done.invariant.delivers step c.loop-done.invariant.never_falls c.loop-done.invariant.count) in
    let transacted = into_early g.L.LogLink.asks c.args.transactions.now c.deliver_step.new.transactions g.S.Sink.puts c.args.link.now c.deliver_step.new.link
    c.args.sink.now c.deliver_step.new.sink c.args.walk.now c.deliver_step.new.walk (c.loop-done.done + 1) c.args.steps c.deliver_step.result not_limit (omega arith)
    (into_joins g.L.LogLink.asks c.args.transactions.now c.loop-done.transactions c.deliver_step.new.transactions g.S.Sink.puts c.args.link.now c.loop-done.link c.deliver_step.new.link
    c.args.sink.now c.loop-done.sink c.deliver_step.new.sink c.args.walk.now c.loop-done.walk c.deliver_step.new.walk c.loop-done.done 1 c.deliver_step.result
    c.loop-done.invariant.transacted
    c.deliver_step.ensures.transacted) in
    let brought = into_plain g.L.LogLink.asks c.args.transactions.now c.deliver_step.new.transactions g.S.Sink.puts c.args.link.now c.deliver_step.new.link
    c.args.sink.now c.deliver_step.new.sink c.args.walk.now c.deliver_step.new.walk c.args.steps c.deliver_step.result transacted in
    record {
      none = λ h. absurd (omega (arith, h));
      transacted = transacted;
      brought = brought;
      headline = into_said g.L.LogLink.asks c.args.transactions.now c.deliver_step.new.transactions g.S.Sink.puts c.args.link.now c.deliver_step.new.link
          c.args.sink.now c.deliver_step.new.sink c.args.walk.now c.deliver_step.new.walk c.args.steps c.deliver_step.result transacted;
      growing = into_growing g.L.LogLink.asks c.args.transactions.now c.deliver_step.new.transactions g.S.Sink.puts c.args.link.now c.deliver_step.new.link
          c.args.sink.now c.deliver_step.new.sink c.args.walk.now c.deliver_step.new.walk c.args.steps c.deliver_step.result transacted;
      told = told_same g.L.LogLink.asks (towards c.args.transactions.now.route) (towards c.loop-done.transactions.route) c.args.transactions.now.retries c.loop-done.transactions.retries
          c.deliver_step.result c.deliver_step.new.walk c.deliver_step.new.link (ap towards c.loop-done.invariant.route) c.loop-done.invariant.retries c.deliver_step.ensures.told;
      near = (
        delivers.0,
        delivers.1,
        headline_of was is c.args.transactions.now.retries (g.L.LogLink.failures c.args.link.now) (g.L.LogLink.failures c.deliver_step.new.link)
            c.args.walk.now c.deliver_step.new.walk c.args.steps c.deliver_step.result (put_items delivers.0) delivers.4,
      );
      ours = (
        delivers.0,
        delivers.1,
        in_window_of was is c.args.walk.now c.deliver_step.new.walk c.args.steps (put_items delivers.0)
            (λ r M H ours. g.met.L.LogLink.serves c.args.link.now c.args.walk.now.log r M H ours)
            (headline_of was is c.args.transactions.now.retries (g.L.LogLink.failures c.args.link.now) (g.L.LogLink.failures c.deliver_step.new.link)
            c.args.walk.now c.deliver_step.new.walk c.args.steps c.deliver_step.result (put_items delivers.0) delivers.4),
      );
      never_falls = omega (arith, c.loop-done.invariant.never_falls, c.deliver_step.ensures.never_falls);
      retries = c.deliver_step.ensures.retries ∙ c.loop-done.invariant.retries;
      route = c.deliver_step.ensures.route ∙ c.loop-done.invariant.route;
      begun = omega (arith, c.loop-done.invariant.begun, c.deliver_step.ensures.begun);
      log = c.deliver_step.ensures.log ∙ c.loop-done.invariant.log;
      count = c.deliver_step.ensures.count ∙ c.loop-done.invariant.count;
      delivers = delivers;
      sure = λ h. c.deliver_step.ensures.sure (c.loop-done.invariant.sure h);
      kept = λ h. g.met.L.LogLink.keeps_on c.args.link.now c.loop-done.link c.deliver_step.new.link
          (c.loop-done.invariant.unchanged h) (c.deliver_step.ensures.kept (c.loop-done.invariant.sure h));
      answered = λ r M H s sure ours next near.
          let run = c.loop-done.invariant.delivers.4.1 r M H s ours next (fewer_steps r c.args.walk.now.count H M c.args.walk.now.fresh s c.loop-done.done c.args.steps (omega arith) near) in
          let N : Id → Type 0 = λ n. g.L.LogLink.is_ours c.loop-done.link n r (after_answers (length run.0) M) H in
          let S : ℕ → Type 0 = λ n. StaysNear r n H (after_answers (length run.0) M) c.loop-done.walk.fresh run.1 1 in
          c.deliver_step.ensures.answered r (after_answers (length run.0) M) H run.1 (c.loop-done.invariant.sure sure)
          (subst N (sym c.loop-done.invariant.log) run.4) run.2
          (subst S (sym c.loop-done.invariant.count) (next_step r c.args.walk.now.count H M c.args.walk.now.fresh c.loop-done.walk.fresh s c.loop-done.done c.args.transactions.now.retries
          (g.L.LogLink.failures c.args.link.now) (g.L.LogLink.failures c.loop-done.link) run.1 (put_items c.loop-done.invariant.delivers.0) run.0
          (fewer_steps r c.args.walk.now.count H M c.args.walk.now.fresh s (c.loop-done.done + 1) c.args.steps (omega arith) near) run.3 run.5));
      lacking = λ lacks.
          let here = c.loop-done.invariant.missing lacks in
          let gone = c.deliver_step.ensures.lacking (subst K (sym c.loop-done.invariant.log) here.0) in
          let same = c.loop-done.invariant.none here.1 in
          (missing_more c.args.steps c.deliver_step.result not_limit (omega arith) gone.0, gone.1 ∙ same.0, gone.2 ∙ same.1, subst L c.loop-done.invariant.log gone.3);
      refused = λ lacks sure.
          c.deliver_step.ensures.refused (subst K (sym c.loop-done.invariant.log) (c.loop-done.invariant.missing lacks).0) (c.loop-done.invariant.sure sure);
    }

pub loop-done-preserved : goal.loop-done-preserved
loop-done-preserved g c =
    let was : ℕ → List Moment → History → Type 0 = λ r M H. g.L.LogLink.is_ours c.args.link.now c.args.walk.now.log r M H in
    let mid : ℕ → List Moment → History → Type 0 = λ r M H. g.L.LogLink.is_ours c.loop-done.link c.args.walk.now.log r M H in
    let is : ℕ → List Moment → History → Type 0 = λ r M H. g.L.LogLink.is_ours c.deliver_step.new.link c.args.walk.now.log r M H in
    let P : Id → Type 0 = λ n. Delivery (sink_filled g.S.Sink.puts c.loop-done.sink c.deliver_step.new.sink) (ours_around (λ r M H. g.L.LogLink.is_ours c.loop-done.link n r M H) (λ r M H. g.L.LogLink.is_ours c.deliver_step.new.link n r M H)) (losses_of c.loop-done.transactions.retries (g.L.LogLink.failures c.loop-done.link) (g.L.LogLink.failures c.deliver_step.new.link)) c.loop-done.walk c.deliver_step.new.walk 1 c.deliver_step.result in
    let Q : ℕ → Type 0 = λ n. Delivery (sink_filled g.S.Sink.puts c.loop-done.sink c.deliver_step.new.sink) (ours_around mid is) (losses_of n (g.L.LogLink.failures c.loop-done.link) (g.L.LogLink.failures c.deliver_step.new.link)) c.loop-done.walk c.deliver_step.new.walk 1 c.deliver_step.result in
    let R : Ended → Type 0 = λ e. Delivery (sink_filled g.S.Sink.puts c.loop-done.sink c.deliver_step.new.sink) (ours_around mid is) (losses_of c.args.transactions.now.retries (g.L.LogLink.failures c.loop-done.link) (g.L.LogLink.failures c.deliver_step.new.link)) c.loop-done.walk c.deliver_step.new.walk 1 e in
    let step = subst R c.in-StepLimit.is (subst Q c.loop-done.invariant.retries (subst P c.loop-done.invariant.log c.deliver_step.ensures.delivers)) in
    let K : Id → Type 0 = λ n. g.L.LogLink.lacks c.loop-done.link n in
    let E : Ended → Type 0 = λ e. MissingEnd 1 e in
    record {
      log = c.deliver_step.ensures.log ∙ c.loop-done.invariant.log;
      count = c.deliver_step.ensures.count ∙ c.loop-done.invariant.count;
      retries = c.deliver_step.ensures.retries ∙ c.loop-done.invariant.retries;
      route = c.deliver_step.ensures.route ∙ c.loop-done.invariant.route;
      begun = omega (arith, c.loop-done.invariant.begun, c.deliver_step.ensures.begun);
      never_falls = omega (arith, c.loop-done.invariant.never_falls, c.deliver_step.ensures.never_falls);
      sure = λ h. c.deliver_step.ensures.sure (c.loop-done.invariant.sure h);
      unchanged = λ h. g.met.L.LogLink.keeps_on c.args.link.now c.loop-done.link c.deliver_step.new.link
          (c.loop-done.invariant.unchanged h) (c.deliver_step.ensures.kept (c.loop-done.invariant.sure h));
      missing = λ lacks.
          let gone = c.deliver_step.ensures.lacking (subst K (sym c.loop-done.invariant.log) (c.loop-done.invariant.missing lacks).0) in
          absurd (omega (arith, subst E c.in-StepLimit.is gone.0));
      none = λ h. absurd (omega (arith, h));
      delivers = join_delivers g.S.Sink.puts c.args.sink.now c.loop-done.sink c.deliver_step.new.sink was mid is c.args.transactions.now.retries
          (g.L.LogLink.failures c.args.link.now) (g.L.LogLink.failures c.loop-done.link) (g.L.LogLink.failures c.deliver_step.new.link)
          c.args.walk.now c.loop-done.walk c.deliver_step.new.walk c.loop-done.done StepLimit
          c.loop-done.invariant.delivers step c.loop-done.invariant.never_falls c.loop-done.invariant.count;
      transacted =
          let B : Ended → Type 0 = λ e. BroughtIntoBy g.L.LogLink.asks (sink_filled g.S.Sink.puts c.loop-done.sink c.deliver_step.new.sink) (walk_by c.loop-done.link c.loop-done.transactions c.loop-done.walk) 1 e (walk_by c.deliver_step.new.link c.deliver_step.new.transactions c.deliver_step.new.walk) in
          into_joins g.L.LogLink.asks c.args.transactions.now c.loop-done.transactions c.deliver_step.new.transactions g.S.Sink.puts c.args.link.now c.loop-done.link c.deliver_step.new.link
          c.args.sink.now c.loop-done.sink c.deliver_step.new.sink c.args.walk.now c.loop-done.walk c.deliver_step.new.walk c.loop-done.done 1 StepLimit
          c.loop-done.invariant.transacted
          (subst B c.in-StepLimit.is c.deliver_step.ensures.transacted);
    }

pub returns-clause-delivers : goal.returns-clause-delivers
returns-clause-delivers g c =
    let all : c.loop-done.done ≡ c.args.steps = omega arith in
    let P : ℕ → Type 0 = λ n. Delivery (sink_filled g.S.Sink.puts c.args.sink.now c.loop-done.sink) (ours_around (λ r M H. g.L.LogLink.is_ours c.args.link.now c.args.walk.now.log r M H) (λ r M H. g.L.LogLink.is_ours c.loop-done.link c.args.walk.now.log r M H)) (losses_of c.args.transactions.now.retries (g.L.LogLink.failures c.args.link.now) (g.L.LogLink.failures c.loop-done.link)) c.args.walk.now c.loop-done.walk n StepLimit in
    subst P all c.loop-done.invariant.delivers

pub returns-clause-near : goal.returns-clause-near
unfolding returns-clause-delivers
returns-clause-near g c =
    let d = returns-clause-delivers g c in (
      d.0,
      d.1,
      headline_of (λ r M H. g.L.LogLink.is_ours c.args.link.now c.args.walk.now.log r M H) (λ r M H. g.L.LogLink.is_ours c.loop-done.link c.args.walk.now.log r M H)
          c.args.transactions.now.retries (g.L.LogLink.failures c.args.link.now) (g.L.LogLink.failures c.loop-done.link) c.args.walk.now c.loop-done.walk c.args.steps StepLimit (put_items d.0) d.4,
    )

pub returns-clause-ours : goal.returns-clause-ours
unfolding returns-clause-delivers
returns-clause-ours g c =
    let d = returns-clause-delivers g c in
    let was : ℕ → List Moment → History → Type 0 = λ r M H. g.L.LogLink.is_ours c.args.link.now c.args.walk.now.log r M H in
    let is : ℕ → List Moment → History → Type 0 = λ r M H. g.L.LogLink.is_ours c.loop-done.link c.args.walk.now.log r M H in (
      d.0,
      d.1,
      in_window_of was is c.args.walk.now c.loop-done.walk c.args.steps (put_items d.0)
          (λ r M H ours. g.met.L.LogLink.serves c.args.link.now c.args.walk.now.log r M H ours)
          (headline_of was is c.args.transactions.now.retries (g.L.LogLink.failures c.args.link.now) (g.L.LogLink.failures c.loop-done.link)
          c.args.walk.now c.loop-done.walk c.args.steps StepLimit (put_items d.0) d.4),
    )

pub returns-clause-transacted : goal.returns-clause-transacted
returns-clause-transacted g c =
    let all : c.loop-done.done ≡ c.args.steps = omega arith in
    let P : ℕ → Type 0 = λ n. BroughtIntoBy g.L.LogLink.asks (sink_filled g.S.Sink.puts c.args.sink.now c.loop-done.sink) (walk_by c.args.link.now c.args.transactions.now c.args.walk.now) n StepLimit (walk_by c.loop-done.link c.loop-done.transactions c.loop-done.walk) in
    subst P all c.loop-done.invariant.transacted

pub returns-clause-brought : goal.returns-clause-brought
unfolding returns-clause-transacted
returns-clause-brought g c =
    into_plain g.L.LogLink.asks c.args.transactions.now c.loop-done.transactions g.S.Sink.puts c.args.link.now c.loop-done.link
    c.args.sink.now c.loop-done.sink c.args.walk.now c.loop-done.walk c.args.steps StepLimit (returns-clause-transacted g c)

pub returns-clause-headline : goal.returns-clause-headline
unfolding returns-clause-transacted
returns-clause-headline g c =
    into_said g.L.LogLink.asks c.args.transactions.now c.loop-done.transactions g.S.Sink.puts c.args.link.now c.loop-done.link
    c.args.sink.now c.loop-done.sink c.args.walk.now c.loop-done.walk c.args.steps StepLimit (returns-clause-transacted g c)

pub returns-clause-growing : goal.returns-clause-growing
unfolding returns-clause-transacted
returns-clause-growing g c =
    into_growing g.L.LogLink.asks c.args.transactions.now c.loop-done.transactions g.S.Sink.puts c.args.link.now c.loop-done.link
    c.args.sink.now c.loop-done.sink c.args.walk.now c.loop-done.walk c.args.steps StepLimit (returns-clause-transacted g c)
