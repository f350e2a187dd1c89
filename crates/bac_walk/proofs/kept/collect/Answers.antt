use Rattle.std.specs.Prelude.{IfSome}
use Rattle.std.proofs.Common.{◌≡◌, ◌<◌, ◌≤◌, ◌+◌, Option, ◌++◌, ℕ, List, [], ◌∷◌, length, vec_capacity, Some, inr, refl, sym, ap, subst, ◌∙◌, arith, rules, length-append}
use Rattle.bac_wire.specs.Primitive.{Id}
use Rattle.bac_link.specs.declared.item.Item.{Item}
use Rattle.bac_walk.specs.declared.kept.Kept.{Kept}
use Rattle.bac_walk.specs.declared.outcome.Ended.{Ended}
use Rattle.bac_walk.specs.declared.outcome.Ended.TheVariants.{CaughtUp, StepLimit, Stopped, Fault}
use Rattle.bac_walk.specs.declared.outcome.Why.{Why}
use Rattle.bac_walk.specs.declared.outcome.Why.TheVariants.{StepLimit as WasLimit, Memory}
use Rattle.bac_link.specs.Delivery.{History, Moment}
use Rattle.bac_link.specs.Laws.{after_answers}
use Rattle.bac_walk.specs.Sinks.{gaps, put_items, is_stopped, IsRun, sink_filled, ours_around}
use Rattle.bac_walk.specs.Outcomes.{IsRunOf, why_of}
use Rattle.bac_walk.specs.Rests.{rest, Rests}
use Rattle.bac_walk.specs.Collects.{MissingEnd, MissingWhy, losses_of}
use Rattle.bac_walk.proofs.Runs.{headline_of, join_run, no_run, run_early, ends_run, not_limit, not_stopped, goes_on, why_limit}
use Rattle.bac_walk.proofs.Near.{fewer_steps, next_step, rest_near, windows_near}
use Rattle.bac_walk.proofs.Keeps.{kept_all, put_length}
use Rattle.bac_walk.proofs.Told.{told_same, told_why}
use Rattle.bac_walk.proofs.TransactedRuns.{no_brought, brought_joins, brought_early}
use Rattle.bac_walk.proofs.Transacted.{brought_plain}
use Rattle.bac_walk.specs.Came.{Came}
use Rattle.bac_walk.specs.Transacted.{BroughtBy, BroughtIntoBy, walk_by}
use Rattle.bac_walk.specs.Kept.{IsKept}
use Rattle.bac_walk.specs.Place.{WalkPlace}
use Rattle.bac_walk.specs.Near.{StaysNear}
use Rattle.bac_walk.proofs.Told.{Asking}
use Rattle.bac_link.specs.Path.{towards}
use Rattle.bac_link.specs.declared.transactions.Transactions.{Transactions}
use Rattle.bac_walk.proofs.Rests.{rested}
use Rattle.bac_walk.proofs.Growing.{growing_run}
use Rattle.bac_walk.proofs.Honest.{delivers_run}
use Rattle.bac_walk.proofs.kept.collect.Goals as goal

abbrev room : Kept → ℕ
room k = vec_capacity k.items

abbrev items_in_sink : Kept → List Item
items_in_sink k = k.items.items

-- what came to this step, behind what came before it
step_joined : {S : Type 0} (asks : Asking S) (t between last : Transactions) (old half new : S) (before kept after : Kept) (w mid left : WalkPlace) (n : ℕ) (ended : Ended) →
    kept.items.items ≡ before.items.items → length kept.items.items + 101 ≤ vec_capacity kept.items →
    (came : List Came) × BroughtBy asks (walk_by old t w) n came before.items.items StepLimit (walk_by half between mid) →
    BroughtIntoBy asks (sink_filled (λ a gap x taken b. IsKept (room a) (items_in_sink a) gap x taken (room b) (items_in_sink b)) kept after) (walk_by half between mid) 1 ended (walk_by new last left) →
    (came : List Came) × BroughtBy asks (walk_by old t w) (n + 1) came after.items.items ended (walk_by new last left)
step_joined asks t between last old half new before kept after w mid left n ended same wide first one =
    let all = kept_all room items_in_sink kept one.0 (is_stopped ended) after one.1 (omega (arith, one.2, one.3, wide)) in
    let is : before.items.items ++ put_items one.0 ≡ after.items.items = ap (λ l. l ++ put_items one.0) (sym same) ∙ sym all.1 in
    let P : List Item → Type 0 = λ l. (came : List Came) × BroughtBy asks (walk_by old t w) (n + 1) came l ended (walk_by new last left) in
    subst P is (brought_joins asks t between last old half new w mid left n 1 before.items.items (put_items one.0) ended first one.4)

pub loop-done-init : goal.loop-done-init
loop-done-init g c =
    let was : ℕ → List Moment → History → Type 0 = λ r M H. g.L.LogLink.is_ours c.args.link.now c.args.walk.now.log r M H in
    let P : List Item → Type 0 = λ l. IsRun (ours_around was was) (losses_of c.args.transactions.now.retries (g.L.LogLink.failures c.args.link.now) (g.L.LogLink.failures c.args.link.now)) c.args.walk.now c.args.walk.now 0 StepLimit l in
    record {
      log = refl;
      count = refl;
      retries = refl;
      route = refl;
      begun = omega arith;
      never_falls = omega arith;
      sure = λ h. h;
      unchanged = λ h. g.met.L.LogLink.keeps_itself c.args.link.now;
      missing = λ h. (h, refl);
      none = λ h. (search rules, refl, refl, refl, refl);
      many = omega arith;
      few = search rules;
      run = subst P (search rules) (no_run was c.args.transactions.now.retries (g.L.LogLink.failures c.args.link.now) c.args.walk.now);
      transacted =
          let B : List Item → Type 0 = λ l. (came : List Came) × BroughtBy g.L.LogLink.asks (walk_by c.args.link.now c.args.transactions.now c.args.walk.now) 0 came l StepLimit (walk_by c.args.link.now c.args.transactions.now c.args.walk.now) in
          subst B (search rules) (no_brought g.L.LogLink.asks c.args.transactions.now c.args.link.now c.args.walk.now);
    }

pub returns-then-not-make_room-clause-delivers : goal.returns-then-not-make_room-clause-delivers
returns-then-not-make_room-clause-delivers g c =
    let P : List Item → Type 0 = λ l. IsRun (ours_around (λ r M H. g.L.LogLink.is_ours c.args.link.now c.args.walk.now.log r M H) (λ r M H. g.L.LogLink.is_ours c.loop-done.link c.args.walk.now.log r M H)) (losses_of c.args.transactions.now.retries (g.L.LogLink.failures c.args.link.now) (g.L.LogLink.failures c.loop-done.link)) c.args.walk.now c.loop-done.walk c.loop-done.done StepLimit l in (
      c.loop-done.done,
      StepLimit,
      (omega arith, refl),
      subst P (sym c.make_room.ensures.items) c.loop-done.invariant.run,
      omega (arith, ap length c.make_room.ensures.items, c.loop-done.invariant.few),
      c.loop-done.invariant.begun,
    )

pub returns-in-Some-clause-delivers : goal.returns-in-Some-clause-delivers
returns-in-Some-clause-delivers g c =
    let was : ℕ → List Moment → History → Type 0 = λ r M H. g.L.LogLink.is_ours c.args.link.now c.args.walk.now.log r M H in
    let mid : ℕ → List Moment → History → Type 0 = λ r M H. g.L.LogLink.is_ours c.loop-done.link c.args.walk.now.log r M H in
    let is : ℕ → List Moment → History → Type 0 = λ r M H. g.L.LogLink.is_ours c.deliver-ended.new.link c.args.walk.now.log r M H in
    let put = c.deliver-ended.ensures.delivers in
    let all = kept_all room items_in_sink c.make_room.new.kept put.0 (is_stopped c.deliver-ended.result) c.deliver-ended.new.sink put.1
    (omega (arith, put.2, put.3, c.make_room.ensures.room (cc))) in
    let more : length c.deliver-ended.new.sink.items.items ≡ length c.loop-done.kept.items.items + (length put.0 + gaps put.0) =
    omega (arith, ap length all.1, length-append c.make_room.new.kept.items.items (put_items put.0), put_length put.0, ap length c.make_room.ensures.items) in
    let P : Id → Type 0 = λ n. IsRun (ours_around (λ r M H. g.L.LogLink.is_ours c.loop-done.link n r M H) (λ r M H. g.L.LogLink.is_ours c.deliver-ended.new.link n r M H)) (losses_of c.loop-done.transactions.retries (g.L.LogLink.failures c.loop-done.link) (g.L.LogLink.failures c.deliver-ended.new.link)) c.loop-done.walk c.deliver-ended.new.walk 1 c.deliver-ended.result (put_items put.0) in
    let Q : ℕ → Type 0 = λ n. IsRun (ours_around mid is) (losses_of n (g.L.LogLink.failures c.loop-done.link) (g.L.LogLink.failures c.deliver-ended.new.link)) c.loop-done.walk c.deliver-ended.new.walk 1 c.deliver-ended.result (put_items put.0) in
    let step = subst Q c.loop-done.invariant.retries (subst P c.loop-done.invariant.log put.4) in
    let joined = join_run was mid is c.args.transactions.now.retries (g.L.LogLink.failures c.args.link.now) (g.L.LogLink.failures c.loop-done.link)
    (g.L.LogLink.failures c.deliver-ended.new.link) c.args.walk.now c.loop-done.walk c.deliver-ended.new.walk c.loop-done.done c.deliver-ended.result
    c.loop-done.kept.items.items (put_items put.0) c.loop-done.invariant.run step c.loop-done.invariant.never_falls c.loop-done.invariant.count in
    let same : c.loop-done.kept.items.items ++ put_items put.0 ≡ c.deliver-ended.new.sink.items.items =
    ap (λ l. l ++ put_items put.0) (sym c.make_room.ensures.items) ∙ sym all.1 in
    let R : List Item → Type 0 = λ l. IsRun (ours_around was is) (losses_of c.args.transactions.now.retries (g.L.LogLink.failures c.args.link.now) (g.L.LogLink.failures c.deliver-ended.new.link)) c.args.walk.now c.deliver-ended.new.walk (c.loop-done.done + 1) c.deliver-ended.result l in
    let run = subst R same joined in
    let some = sym c.why.ensures ∙ c.in-Some.is in (
      c.args.steps,
      c.deliver-ended.result,
      ends_run c.deliver-ended.result c.in-Some.why c.args.steps all.0 some,
      run_early was is c.args.transactions.now.retries (g.L.LogLink.failures c.args.link.now) (g.L.LogLink.failures c.deliver-ended.new.link)
          c.args.walk.now c.deliver-ended.new.walk (c.loop-done.done + 1) c.args.steps c.deliver-ended.result c.deliver-ended.new.sink.items.items
          (not_limit c.deliver-ended.result c.in-Some.why some) (omega arith) run,
      omega (arith, more, put.2, put.3, c.loop-done.invariant.few),
      omega (arith, c.loop-done.invariant.begun, c.deliver-ended.ensures.begun),
    )

pub returns-in-Some-clause-resting : goal.returns-in-Some-clause-resting
returns-in-Some-clause-resting g c r m H s sure ours next near =
    let was : ℕ → List Moment → History → Type 0 = λ r M H. g.L.LogLink.is_ours c.args.link.now c.args.walk.now.log r M H in
    let mid : ℕ → List Moment → History → Type 0 = λ r M H. g.L.LogLink.is_ours c.loop-done.link c.args.walk.now.log r M H in
    let is : ℕ → List Moment → History → Type 0 = λ r M H. g.L.LogLink.is_ours c.deliver-ended.new.link c.args.walk.now.log r M H in
    let put = c.deliver-ended.ensures.delivers in
    let all = kept_all room items_in_sink c.make_room.new.kept put.0 (is_stopped c.deliver-ended.result) c.deliver-ended.new.sink put.1
    (omega (arith, put.2, put.3, c.make_room.ensures.room (cc))) in
    let P : Id → Type 0 = λ n. IsRun (ours_around (λ r M H. g.L.LogLink.is_ours c.loop-done.link n r M H) (λ r M H. g.L.LogLink.is_ours c.deliver-ended.new.link n r M H)) (losses_of c.loop-done.transactions.retries (g.L.LogLink.failures c.loop-done.link) (g.L.LogLink.failures c.deliver-ended.new.link)) c.loop-done.walk c.deliver-ended.new.walk 1 c.deliver-ended.result (put_items put.0) in
    let Q : ℕ → Type 0 = λ n. IsRun (ours_around mid is) (losses_of n (g.L.LogLink.failures c.loop-done.link) (g.L.LogLink.failures c.deliver-ended.new.link)) c.loop-done.walk c.deliver-ended.new.walk 1 c.deliver-ended.result (put_items put.0) in
    let step = subst Q c.loop-done.invariant.retries (subst P c.loop-done.invariant.log put.4) in
    let joined = join_run was mid is c.args.transactions.now.retries (g.L.LogLink.failures c.args.link.now) (g.L.LogLink.failures c.loop-done.link)
    (g.L.LogLink.failures c.deliver-ended.new.link) c.args.walk.now c.loop-done.walk c.deliver-ended.new.walk c.loop-done.done c.deliver-ended.result
    c.loop-done.kept.items.items (put_items put.0) c.loop-done.invariant.run step c.loop-done.invariant.never_falls c.loop-done.invariant.count in
    let same : c.loop-done.kept.items.items ++ put_items put.0 ≡ c.deliver-ended.new.sink.items.items =
    ap (λ l. l ++ put_items put.0) (sym c.make_room.ensures.items) ∙ sym all.1 in
    let R : List Item → Type 0 = λ l. IsRun (ours_around was is) (losses_of c.args.transactions.now.retries (g.L.LogLink.failures c.args.link.now) (g.L.LogLink.failures c.deliver-ended.new.link)) c.args.walk.now c.deliver-ended.new.walk (c.loop-done.done + 1) c.deliver-ended.result l in
    let run = subst R same joined in
    let some = sym c.why.ensures ∙ c.in-Some.is in
    let early = run_early was is c.args.transactions.now.retries (g.L.LogLink.failures c.args.link.now) (g.L.LogLink.failures c.deliver-ended.new.link)
    c.args.walk.now c.deliver-ended.new.walk (c.loop-done.done + 1) c.args.steps c.deliver-ended.result c.deliver-ended.new.sink.items.items
    (not_limit c.deliver-ended.result c.in-Some.why some) (omega arith) run in
    let stays = rest_near r c.args.walk.now.count H m c.args.walk.now.fresh s c.args.steps (g.met.L.LogLink.serves c.args.link.now c.args.walk.now.log r (m ∷ []) H ours) near in
    let half = c.loop-done.invariant.run.1 r (m ∷ []) H s ours next (fewer_steps r c.args.walk.now.count H (m ∷ []) c.args.walk.now.fresh s c.loop-done.done c.args.steps (omega arith) stays) in
    let N : Id → Type 0 = λ n. g.L.LogLink.is_ours c.loop-done.link n r (after_answers (length half.0) (m ∷ [])) H in
    let F : ℕ → Type 0 = λ n. StaysNear r n H (after_answers (length half.0) (m ∷ [])) c.loop-done.walk.fresh half.1 1 in
    let found = c.deliver-ended.ensures.answered r (after_answers (length half.0) (m ∷ [])) H half.1 (c.loop-done.invariant.sure sure)
    (subst N (sym c.loop-done.invariant.log) half.4) half.2
    (subst F (sym c.loop-done.invariant.count) (next_step r c.args.walk.now.count H (m ∷ []) c.args.walk.now.fresh c.loop-done.walk.fresh s c.loop-done.done c.args.transactions.now.retries
    (g.L.LogLink.failures c.args.link.now) (g.L.LogLink.failures c.loop-done.link) half.1 c.loop-done.kept.items.items half.0
    (fewer_steps r c.args.walk.now.count H (m ∷ []) c.args.walk.now.fresh s (c.loop-done.done + 1) c.args.steps (omega arith) stays) half.3 half.5)) in
    let whole = early.1 r (m ∷ []) H s ours next stays in
    let rests = rested r c.args.walk.now.count H m c.args.walk.now.fresh s c.args.steps c.args.transactions.now.retries (g.L.LogLink.failures c.args.link.now)
    (g.L.LogLink.failures c.deliver-ended.new.link) c.deliver-ended.new.sink.items.items whole.1 c.deliver-ended.new.walk.next c.deliver-ended.result whole.0
    found (not_stopped c.deliver-ended.result all.0) whole.3 whole.2 in
    let E : Ended → Type 0 = λ e. IsRunOf c.in-Some.why c.args.steps c.args.steps e in
    inr (rests.0, c.next_number-in-Some.ensures.next ∙ rests.1, subst E rests.2 (ends_run c.deliver-ended.result c.in-Some.why c.args.steps all.0 some))

pub loop-done-preserved : goal.loop-done-preserved
loop-done-preserved g c =
    let was : ℕ → List Moment → History → Type 0 = λ r M H. g.L.LogLink.is_ours c.args.link.now c.args.walk.now.log r M H in
    let mid : ℕ → List Moment → History → Type 0 = λ r M H. g.L.LogLink.is_ours c.loop-done.link c.args.walk.now.log r M H in
    let is : ℕ → List Moment → History → Type 0 = λ r M H. g.L.LogLink.is_ours c.deliver-ended.new.link c.args.walk.now.log r M H in
    let put = c.deliver-ended.ensures.delivers in
    let all = kept_all room items_in_sink c.make_room.new.kept put.0 (is_stopped c.deliver-ended.result) c.deliver-ended.new.sink put.1
    (omega (arith, put.2, put.3, c.make_room.ensures.room (cc))) in
    let more : length c.deliver-ended.new.sink.items.items ≡ length c.loop-done.kept.items.items + (length put.0 + gaps put.0) =
    omega (arith, ap length all.1, length-append c.make_room.new.kept.items.items (put_items put.0), put_length put.0, ap length c.make_room.ensures.items) in
    let P : Id → Type 0 = λ n. IsRun (ours_around (λ r M H. g.L.LogLink.is_ours c.loop-done.link n r M H) (λ r M H. g.L.LogLink.is_ours c.deliver-ended.new.link n r M H)) (losses_of c.loop-done.transactions.retries (g.L.LogLink.failures c.loop-done.link) (g.L.LogLink.failures c.deliver-ended.new.link)) c.loop-done.walk c.deliver-ended.new.walk 1 c.deliver-ended.result (put_items put.0) in
    let Q : ℕ → Type 0 = λ n. IsRun (ours_around mid is) (losses_of n (g.L.LogLink.failures c.loop-done.link) (g.L.LogLink.failures c.deliver-ended.new.link)) c.loop-done.walk c.deliver-ended.new.walk 1 c.deliver-ended.result (put_items put.0) in
    let step = subst Q c.loop-done.invariant.retries (subst P c.loop-done.invariant.log put.4) in
    let joined = join_run was mid is c.args.transactions.now.retries (g.L.LogLink.failures c.args.link.now) (g.L.LogLink.failures c.loop-done.link)
    (g.L.LogLink.failures c.deliver-ended.new.link) c.args.walk.now c.loop-done.walk c.deliver-ended.new.walk c.loop-done.done c.deliver-ended.result
    c.loop-done.kept.items.items (put_items put.0) c.loop-done.invariant.run step c.loop-done.invariant.never_falls c.loop-done.invariant.count in
    let same : c.loop-done.kept.items.items ++ put_items put.0 ≡ c.deliver-ended.new.sink.items.items =
    ap (λ l. l ++ put_items put.0) (sym c.make_room.ensures.items) ∙ sym all.1 in
    let R : List Item → Type 0 = λ l. IsRun (ours_around was is) (losses_of c.args.transactions.now.retries (g.L.LogLink.failures c.args.link.now) (g.L.LogLink.failures c.deliver-ended.new.link)) c.args.walk.now c.deliver-ended.new.walk (c.loop-done.done + 1) c.deliver-ended.result l in
    let run = subst R same joined in
    let limit = goes_on c.deliver-ended.result (sym c.why.ensures ∙ c.in_default.is) in
    let S : Ended → Type 0 = λ e. IsRun (ours_around was is) (losses_of c.args.transactions.now.retries (g.L.LogLink.failures c.args.link.now) (g.L.LogLink.failures c.deliver-ended.new.link)) c.args.walk.now c.deliver-ended.new.walk (c.loop-done.done + 1) e c.deliver-ended.new.sink.items.items in
    let K : Id → Type 0 = λ n. g.L.LogLink.lacks c.loop-done.link n in
    let E : Ended → Type 0 = λ e. MissingEnd 1 e in
    record {
      log = c.deliver-ended.ensures.log ∙ c.loop-done.invariant.log;
      count = c.deliver-ended.ensures.count ∙ c.loop-done.invariant.count;
      retries = c.deliver-ended.ensures.retries ∙ c.loop-done.invariant.retries;
      route = c.deliver-ended.ensures.route ∙ c.loop-done.invariant.route;
      begun = omega (arith, c.loop-done.invariant.begun, c.deliver-ended.ensures.begun);
      never_falls = omega (arith, c.loop-done.invariant.never_falls, c.deliver-ended.ensures.never_falls);
      sure = λ h. c.deliver-ended.ensures.sure (c.loop-done.invariant.sure h);
      unchanged = λ h. g.met.L.LogLink.keeps_on c.args.link.now c.loop-done.link c.deliver-ended.new.link
          (c.loop-done.invariant.unchanged h) (c.deliver-ended.ensures.kept (c.loop-done.invariant.sure h));
      missing = λ lacks.
          let gone = c.deliver-ended.ensures.lacking (subst K (sym c.loop-done.invariant.log) (c.loop-done.invariant.missing lacks).0) in
          absurd (omega (arith, subst E limit gone.0));
      none = λ h. absurd (omega (arith, h));
      many = omega (arith, more, put.5 limit, c.loop-done.invariant.many);
      few = omega (arith, more, put.2, put.3, c.loop-done.invariant.few);
      run = subst S limit run;
      transacted =
          let B : Ended → Type 0 = λ e. (came : List Came) × BroughtBy g.L.LogLink.asks (walk_by c.args.link.now c.args.transactions.now c.args.walk.now) (c.loop-done.done + 1) came c.deliver-ended.new.sink.items.items e (walk_by c.deliver-ended.new.link c.deliver-ended.new.transactions c.deliver-ended.new.walk) in
          subst B limit (step_joined g.L.LogLink.asks c.args.transactions.now c.loop-done.transactions c.deliver-ended.new.transactions
          c.args.link.now c.loop-done.link c.deliver-ended.new.link c.loop-done.kept c.make_room.new.kept c.deliver-ended.new.sink c.args.walk.now c.loop-done.walk c.deliver-ended.new.walk
          c.loop-done.done c.deliver-ended.result c.make_room.ensures.items (c.make_room.ensures.room (cc))
          c.loop-done.invariant.transacted c.deliver-ended.ensures.transacted);
    }

pub returns-clause-delivers : goal.returns-clause-delivers
returns-clause-delivers g c =
    let all : c.loop-done.done ≡ c.args.steps = omega arith in
    (c.loop-done.done, StepLimit, (all, refl), c.loop-done.invariant.run, c.loop-done.invariant.few, c.loop-done.invariant.begun)

pub returns-clause-resting : goal.returns-clause-resting
returns-clause-resting g c r m H s sure ours next near =
    let all : c.loop-done.done ≡ c.args.steps = omega arith in
    let stays = rest_near r c.args.walk.now.count H m c.args.walk.now.fresh s c.loop-done.done (g.met.L.LogLink.serves c.args.link.now c.args.walk.now.log r (m ∷ []) H ours) near in
    let whole = c.loop-done.invariant.run.1 r (m ∷ []) H s ours next stays in
    let rests = rested r c.args.walk.now.count H m c.args.walk.now.fresh s c.loop-done.done c.args.transactions.now.retries (g.L.LogLink.failures c.args.link.now)
    (g.L.LogLink.failures c.loop-done.link) c.loop-done.kept.items.items whole.1 c.loop-done.walk.next StepLimit whole.0
    tt (λ e. cc) whole.3 whole.2 in
    let E : Ended → Type 0 = λ e. IsRunOf WasLimit c.args.steps c.args.steps e in
    let R : ℕ → Type 0 = λ n. Rests (rest r c.args.walk.now.count H m c.args.walk.now.fresh s n) c.args.steps c.loop-done.kept.items.items c.next_number-2.result WasLimit in
    subst R all (inr (rests.0, c.next_number-2.ensures.next ∙ rests.1, subst E rests.2 (refl, refl)))

pub returns-then-not-make_room-clause-near : goal.returns-then-not-make_room-clause-near
unfolding returns-then-not-make_room-clause-delivers
returns-then-not-make_room-clause-near g c r M H s ours next near =
    let d = returns-then-not-make_room-clause-delivers g c in
    headline_of (λ r M H. g.L.LogLink.is_ours c.args.link.now c.args.walk.now.log r M H) (λ r M H. g.L.LogLink.is_ours c.loop-done.link c.args.walk.now.log r M H)
    c.args.transactions.now.retries (g.L.LogLink.failures c.args.link.now) (g.L.LogLink.failures c.loop-done.link) c.args.walk.now c.loop-done.walk d.0 d.1 c.make_room.new.kept.items.items d.3 r M H s ours next
    (fewer_steps r c.args.walk.now.count H M c.args.walk.now.fresh s c.loop-done.done c.args.steps (omega arith) near)

pub returns-in-Some-clause-near : goal.returns-in-Some-clause-near
unfolding returns-in-Some-clause-delivers
returns-in-Some-clause-near g c r M H s ours next near =
    let d = returns-in-Some-clause-delivers g c in
    headline_of (λ r M H. g.L.LogLink.is_ours c.args.link.now c.args.walk.now.log r M H) (λ r M H. g.L.LogLink.is_ours c.deliver-ended.new.link c.args.walk.now.log r M H)
    c.args.transactions.now.retries (g.L.LogLink.failures c.args.link.now) (g.L.LogLink.failures c.deliver-ended.new.link) c.args.walk.now c.deliver-ended.new.walk d.0 d.1 c.deliver-ended.new.sink.items.items d.3 r M H s ours next near

pub returns-clause-near : goal.returns-clause-near
unfolding returns-clause-delivers
returns-clause-near g c r M H s ours next near =
    let d = returns-clause-delivers g c in
    headline_of (λ r M H. g.L.LogLink.is_ours c.args.link.now c.args.walk.now.log r M H) (λ r M H. g.L.LogLink.is_ours c.loop-done.link c.args.walk.now.log r M H)
    c.args.transactions.now.retries (g.L.LogLink.failures c.args.link.now) (g.L.LogLink.failures c.loop-done.link) c.args.walk.now c.loop-done.walk d.0 d.1 c.loop-done.kept.items.items d.3 r M H s ours next
    (fewer_steps r c.args.walk.now.count H M c.args.walk.now.fresh s c.loop-done.done c.args.steps (omega arith) near)

pub returns-in-Some-clause-told : goal.returns-in-Some-clause-told
returns-in-Some-clause-told g c =
    told_why g.L.LogLink.asks (towards c.args.transactions.now.route) c.args.transactions.now.retries c.deliver-ended.result c.in-Some.why c.deliver-ended.new.walk c.deliver-ended.new.link
    (sym c.why.ensures ∙ c.in-Some.is)
    (told_same g.L.LogLink.asks (towards c.args.transactions.now.route) (towards c.loop-done.transactions.route) c.args.transactions.now.retries c.loop-done.transactions.retries
    c.deliver-ended.result c.deliver-ended.new.walk c.deliver-ended.new.link (ap towards c.loop-done.invariant.route) c.loop-done.invariant.retries c.deliver-ended.ensures.told)

pub returns-then-not-make_room-clause-none : goal.returns-then-not-make_room-clause-none
returns-then-not-make_room-clause-none g c h = absurd (omega (arith, h))

pub returns-in-Some-clause-none : goal.returns-in-Some-clause-none
returns-in-Some-clause-none g c h = absurd (omega (arith, h))

pub returns-clause-none : goal.returns-clause-none
returns-clause-none g c h =
    let same = c.loop-done.invariant.none (omega (arith, h)) in (refl, same.0, same.2, same.3, same.4)

pub returns-then-not-make_room-clause-lacking : goal.returns-then-not-make_room-clause-lacking
returns-then-not-make_room-clause-lacking g c lacks = (c.loop-done.invariant.missing lacks).0

pub returns-in-Some-clause-lacking : goal.returns-in-Some-clause-lacking
returns-in-Some-clause-lacking g c lacks =
    let K : Id → Type 0 = λ n. g.L.LogLink.lacks c.loop-done.link n in
    let L : Id → Type 0 = λ n. g.L.LogLink.lacks c.deliver-ended.new.link n in
    subst L c.loop-done.invariant.log (c.deliver-ended.ensures.lacking (subst K (sym c.loop-done.invariant.log) (c.loop-done.invariant.missing lacks).0)).3

pub returns-clause-lacking : goal.returns-clause-lacking
returns-clause-lacking g c lacks = (c.loop-done.invariant.missing lacks).0

pub returns-then-not-make_room-clause-limit : goal.returns-then-not-make_room-clause-limit
returns-then-not-make_room-clause-limit g c is = absurd (cc)

pub returns-in-Some-clause-limit : goal.returns-in-Some-clause-limit
returns-in-Some-clause-limit g c is = absurd (why_limit c.deliver-ended.result (sym c.why.ensures ∙ c.in-Some.is ∙ ap (λ (w : Why). Some w) is))

pub returns-clause-limit : goal.returns-clause-limit
returns-clause-limit g c is = omega (arith, c.loop-done.invariant.many)

pub returns-then-not-make_room-clause-transacted : goal.returns-then-not-make_room-clause-transacted
returns-then-not-make_room-clause-transacted g c =
    let B : List Item → Type 0 = λ l. (came : List Came) × BroughtBy g.L.LogLink.asks (walk_by c.args.link.now c.args.transactions.now c.args.walk.now) c.loop-done.done came l StepLimit (walk_by c.loop-done.link c.loop-done.transactions c.loop-done.walk) in
    (c.loop-done.done, StepLimit, (omega arith, refl), subst B (sym c.make_room.ensures.items) c.loop-done.invariant.transacted)

pub returns-in-Some-clause-transacted : goal.returns-in-Some-clause-transacted
returns-in-Some-clause-transacted g c =
    let put = c.deliver-ended.ensures.delivers in
    let all = kept_all room items_in_sink c.make_room.new.kept put.0 (is_stopped c.deliver-ended.result) c.deliver-ended.new.sink put.1
    (omega (arith, put.2, put.3, c.make_room.ensures.room (cc))) in
    let some = sym c.why.ensures ∙ c.in-Some.is in (
      c.args.steps,
      c.deliver-ended.result,
      ends_run c.deliver-ended.result c.in-Some.why c.args.steps all.0 some,
      brought_early g.L.LogLink.asks c.args.transactions.now c.deliver-ended.new.transactions c.args.link.now c.deliver-ended.new.link c.args.walk.now c.deliver-ended.new.walk
          (c.loop-done.done + 1) c.args.steps c.deliver-ended.new.sink.items.items c.deliver-ended.result (not_limit c.deliver-ended.result c.in-Some.why some) (omega arith)
          (step_joined g.L.LogLink.asks c.args.transactions.now c.loop-done.transactions c.deliver-ended.new.transactions
          c.args.link.now c.loop-done.link c.deliver-ended.new.link c.loop-done.kept c.make_room.new.kept c.deliver-ended.new.sink c.args.walk.now c.loop-done.walk c.deliver-ended.new.walk
          c.loop-done.done c.deliver-ended.result c.make_room.ensures.items (c.make_room.ensures.room (cc))
          c.loop-done.invariant.transacted c.deliver-ended.ensures.transacted),
    )

pub returns-clause-transacted : goal.returns-clause-transacted
returns-clause-transacted g c =
    let all : c.loop-done.done ≡ c.args.steps = omega arith in
    (c.loop-done.done, StepLimit, (all, refl), c.loop-done.invariant.transacted)

pub returns-then-not-make_room-clause-ours : goal.returns-then-not-make_room-clause-ours
returns-then-not-make_room-clause-ours g c r M H s low ours next window at =
    returns-then-not-make_room-clause-near g c r M H s ours next
    (windows_near r c.args.walk.now.count H M low s c.args.steps c.args.walk.now.fresh (g.met.L.LogLink.serves c.args.link.now c.args.walk.now.log r M H ours) window at)

pub returns-in-Some-clause-ours : goal.returns-in-Some-clause-ours
returns-in-Some-clause-ours g c r M H s low ours next window at =
    returns-in-Some-clause-near g c r M H s ours next
    (windows_near r c.args.walk.now.count H M low s c.args.steps c.args.walk.now.fresh (g.met.L.LogLink.serves c.args.link.now c.args.walk.now.log r M H ours) window at)

pub returns-clause-ours : goal.returns-clause-ours
returns-clause-ours g c r M H s low ours next window at =
    returns-clause-near g c r M H s ours next
    (windows_near r c.args.walk.now.count H M low s c.args.steps c.args.walk.now.fresh (g.met.L.LogLink.serves c.args.link.now c.args.walk.now.log r M H ours) window at)

missing_why : (steps : ℕ) (ended : Ended) (why : Why) → 0 < steps → why_of ended ≡ Some why → MissingEnd 1 ended → MissingWhy steps why
missing_why steps CaughtUp why some is gone = absurd gone
missing_why steps StepLimit why some is gone = absurd (omega (arith, gone))
missing_why steps Stopped why some is gone = absurd gone
missing_why steps (Fault e) why some is gone =
    let P : Option Why → Type 0 = λ o. IfSome o (λ y. MissingWhy steps y) in subst P is (some, gone.1)

pub returns-then-not-make_room-clause-unknown : goal.returns-then-not-make_room-clause-unknown
returns-then-not-make_room-clause-unknown g c lacks =
    let same = c.loop-done.invariant.none (c.loop-done.invariant.missing lacks).1 in
    (c.make_room.ensures.items ∙ same.0, c.next_number.ensures.next ∙ same.1, tt)

pub returns-in-Some-clause-unknown : goal.returns-in-Some-clause-unknown
returns-in-Some-clause-unknown g c lacks =
    let K : Id → Type 0 = λ n. g.L.LogLink.lacks c.loop-done.link n in
    let here = c.loop-done.invariant.missing lacks in
    let same = c.loop-done.invariant.none here.1 in
    let gone = c.deliver-ended.ensures.lacking (subst K (sym c.loop-done.invariant.log) here.0) in (
      ap (λ (k : Kept). k.items.items) gone.1 ∙ c.make_room.ensures.items ∙ same.0,
      c.next_number-in-Some.ensures.next ∙ gone.2 ∙ same.1,
      missing_why c.args.steps c.deliver-ended.result c.in-Some.why (omega arith) (sym c.why.ensures ∙ c.in-Some.is) gone.0,
    )

pub returns-clause-unknown : goal.returns-clause-unknown
returns-clause-unknown g c lacks =
    let here = c.loop-done.invariant.missing lacks in
    let same = c.loop-done.invariant.none here.1 in
    (same.0, c.next_number-2.ensures.next ∙ same.1, omega (arith, here.1))

pub returns-then-not-make_room-clause-brought : goal.returns-then-not-make_room-clause-brought
unfolding returns-then-not-make_room-clause-transacted
returns-then-not-make_room-clause-brought g c =
    let run = returns-then-not-make_room-clause-transacted g c in
    (run.0, run.1, run.2, (run.3.0, brought_plain g.L.LogLink.asks c.args.transactions.now c.loop-done.transactions c.args.link.now c.loop-done.link c.args.walk.now c.loop-done.walk run.0 run.3.0 c.make_room.new.kept.items.items run.1 run.3.1))

pub returns-then-not-make_room-clause-headline : goal.returns-then-not-make_room-clause-headline
unfolding returns-then-not-make_room-clause-transacted
returns-then-not-make_room-clause-headline g c =
    delivers_run g.L.LogLink.asks c.args.transactions.now c.loop-done.transactions c.args.link.now c.loop-done.link c.args.walk.now c.loop-done.walk
    c.args.steps c.make_room.new.kept.items.items Memory (returns-then-not-make_room-clause-transacted g c)

pub returns-in-Some-clause-brought : goal.returns-in-Some-clause-brought
unfolding returns-in-Some-clause-transacted
returns-in-Some-clause-brought g c =
    let run = returns-in-Some-clause-transacted g c in
    (run.0, run.1, run.2, (run.3.0, brought_plain g.L.LogLink.asks c.args.transactions.now c.deliver-ended.new.transactions c.args.link.now c.deliver-ended.new.link c.args.walk.now c.deliver-ended.new.walk run.0 run.3.0 c.deliver-ended.new.sink.items.items run.1 run.3.1))

pub returns-in-Some-clause-headline : goal.returns-in-Some-clause-headline
unfolding returns-in-Some-clause-transacted
returns-in-Some-clause-headline g c =
    delivers_run g.L.LogLink.asks c.args.transactions.now c.deliver-ended.new.transactions c.args.link.now c.deliver-ended.new.link c.args.walk.now c.deliver-ended.new.walk
    c.args.steps c.deliver-ended.new.sink.items.items c.in-Some.why (returns-in-Some-clause-transacted g c)

pub returns-clause-brought : goal.returns-clause-brought
unfolding returns-clause-transacted
returns-clause-brought g c =
    let run = returns-clause-transacted g c in
    (run.0, run.1, run.2, (run.3.0, brought_plain g.L.LogLink.asks c.args.transactions.now c.loop-done.transactions c.args.link.now c.loop-done.link c.args.walk.now c.loop-done.walk run.0 run.3.0 c.loop-done.kept.items.items run.1 run.3.1))

pub returns-clause-headline : goal.returns-clause-headline
unfolding returns-clause-transacted
returns-clause-headline g c =
    delivers_run g.L.LogLink.asks c.args.transactions.now c.loop-done.transactions c.args.link.now c.loop-done.link c.args.walk.now c.loop-done.walk
    c.args.steps c.loop-done.kept.items.items WasLimit (returns-clause-transacted g c)

pub returns-then-not-make_room-clause-growing : goal.returns-then-not-make_room-clause-growing
unfolding returns-then-not-make_room-clause-transacted
returns-then-not-make_room-clause-growing g c =
    growing_run g.L.LogLink.asks c.args.transactions.now c.loop-done.transactions c.args.link.now c.loop-done.link c.args.walk.now c.loop-done.walk
    c.args.steps c.make_room.new.kept.items.items Memory (returns-then-not-make_room-clause-transacted g c)

pub returns-in-Some-clause-growing : goal.returns-in-Some-clause-growing
unfolding returns-in-Some-clause-transacted
returns-in-Some-clause-growing g c =
    growing_run g.L.LogLink.asks c.args.transactions.now c.deliver-ended.new.transactions c.args.link.now c.deliver-ended.new.link c.args.walk.now c.deliver-ended.new.walk
    c.args.steps c.deliver-ended.new.sink.items.items c.in-Some.why (returns-in-Some-clause-transacted g c)

pub returns-clause-growing : goal.returns-clause-growing
unfolding returns-clause-transacted
returns-clause-growing g c =
    growing_run g.L.LogLink.asks c.args.transactions.now c.loop-done.transactions c.args.link.now c.loop-done.link c.args.walk.now c.loop-done.walk
    c.args.steps c.loop-done.kept.items.items WasLimit (returns-clause-transacted g c)
