-- A run and one after it are one run, also into a sink.
use Rattle.std.proofs.Common.{◌≡◌, ◌≢◌, ℕ, Bool, false, ◌+◌, ◌≤◌, inl, inr, Option, Some, None, List, [], ◌∷◌, ◌++◌, length, refl, sym, ap, subst, ◌∙◌, arith, length-append, append_assoc}
use Rattle.bac_link.specs.declared.item.Item.{Item}
use Rattle.bac_walk.specs.declared.batch.Gap.{Gap as GapOf}
use Rattle.bac_walk.specs.declared.batch.Numbered.{Numbered}
use Rattle.bac_walk.specs.Place.{WalkPlace}
use Rattle.bac_walk.specs.declared.outcome.Ended.{Ended}
use Rattle.bac_walk.specs.declared.outcome.Ended.TheVariants.{CaughtUp, StepLimit, Stopped, Fault}
use Rattle.bac_walk.specs.declared.outcome.Why.{Why}
use Rattle.bac_walk.specs.declared.outcome.Why.TheVariants.{CaughtUp as WasUp, StepLimit as WasLimit, Fault as WasFault, Memory}
use Rattle.bac_walk.specs.Outcomes.{IsRunOf, why_of}
use Rattle.bac_log.specs.TrendLog.{sequence_number}
use Rattle.bac_link.specs.Delivery.{History, Moment, DeliversTo}
use Rattle.bac_link.specs.Laws.{after_answers}
use Rattle.bac_walk.specs.Near.{StaysNear}
use Rattle.bac_walk.specs.Walks.{gap_items, item_of}
use Rattle.bac_walk.specs.Collects.{start_of, Collected, IsFreshAfter, our_log, started_at, losses_of, yield}
use Rattle.bac_walk.specs.Sinks.{Call, put_items, gaps, Takes, is_stopped, IsRun, Delivery, sink_filled, ours_around}
use Rattle.bac_walk.proofs.Joins.{join, fresh_join, no_steps, ended_early, after_answers-add}
use Rattle.bac_walk.proofs.Came.{start_old}
use Rattle.bac_walk.proofs.Goes.{join_goes, stays_goes}
use Rattle.bac_walk.proofs.Headline.{leads}
use Rattle.bac_walk.proofs.Near.{fewer_steps, next_steps}

pub no_run : (was : ℕ → List Moment → History → Type 0) (retries old : ℕ) (w : WalkPlace) → IsRun (ours_around was was) (losses_of retries old old) w w 0 StepLimit []
no_run was retries old w = (
  (λ s. stays_goes w.fresh w.next s),
  (λ r M H s ours next near. ([], s, next, no_steps r w.count H M w.fresh s retries old, ours, record { none = λ h. refl; some = λ h. absurd (omega arith) })),
)

pub join_runs : (was mid is : ℕ → List Moment → History → Type 0) (retries old half new : ℕ) (before middle after : WalkPlace) (i j : ℕ) (ended : Ended) (xs ys : List Item) →
    IsRun (ours_around was mid) (losses_of retries old half) before middle i StepLimit xs → IsRun (ours_around mid is) (losses_of retries half new) middle after j ended ys → old ≤ half → middle.count ≡ before.count →
    IsRun (ours_around was is) (losses_of retries old new) before after (i + j) ended (xs ++ ys)
join_runs was mid is retries old half new before middle after i j ended xs ys first rest up same = (
  (λ s. join_goes before.fresh before.next xs middle.fresh middle.next ys after.fresh after.next first.0 rest.0 s),
  (λ r M H s ours next near.
      let a = first.1 r M H s ours next (fewer_steps r before.count H M before.fresh s i (i + j) (omega arith) near) in
      let R : ℕ → Type 0 = λ count. (r : ℕ) (N : List Moment) (G : History) (k : ℕ) → mid r N G → middle.next ≡ sequence_number k → StaysNear r count G N middle.fresh k j →
      (answers : List (List Item)) × (t : ℕ) × (after.next ≡ sequence_number t) × Collected (our_log r N G) (started_at count middle.fresh k) j (losses_of retries half new) (yield ys ended) t answers
      × is r (after_answers (length answers) N) G × IsFreshAfter middle.fresh answers after.fresh in
      let b = subst R same rest.1 r (after_answers (length a.0) M) H a.1 a.4 a.2
      (next_steps r before.count H M before.fresh middle.fresh s i j retries old half a.1 xs a.0 near a.3 a.5) in
      let P : List Moment → Type 0 = λ N. is r N H in
      let e : after_answers (length (a.0 ++ b.0)) M ≡ after_answers (length b.0) (after_answers (length a.0) M) =
      ap (λ n. after_answers n M) (length-append a.0 b.0) ∙ after_answers-add (length a.0) (length b.0) M in (
        a.0 ++ b.0,
        b.1,
        b.2,
        join r before.count H M before.fresh middle.fresh s i j retries old half new xs ys a.1 b.1 ended a.0 b.0 a.3 a.5 b.3 up,
        subst P (sym e) b.4,
        fresh_join before.fresh middle.fresh after.fresh a.0 b.0 a.5 b.5,
      )),
)

pub join_run : (was mid is : ℕ → List Moment → History → Type 0) (retries old half new : ℕ) (before middle after : WalkPlace) (i : ℕ) (ended : Ended) (xs ys : List Item) →
    IsRun (ours_around was mid) (losses_of retries old half) before middle i StepLimit xs → IsRun (ours_around mid is) (losses_of retries half new) middle after 1 ended ys → old ≤ half → middle.count ≡ before.count →
    IsRun (ours_around was is) (losses_of retries old new) before after (i + 1) ended (xs ++ ys)
join_run was mid is retries old half new before middle after i ended xs ys first rest up same =
    join_runs was mid is retries old half new before middle after i 1 ended xs ys first rest up same

pub run_early : (was is : ℕ → List Moment → History → Type 0) (retries old new : ℕ) (before after : WalkPlace) (i n : ℕ) (ended : Ended) (xs : List Item) →
    ended ≢ StepLimit → i ≤ n → IsRun (ours_around was is) (losses_of retries old new) before after i ended xs → IsRun (ours_around was is) (losses_of retries old new) before after n ended xs
run_early was is retries old new before after i n ended xs not_limit le run = (
  run.0,
  (λ r M H s ours next near.
      let a = run.1 r M H s ours next (fewer_steps r before.count H M before.fresh s i n le near) in
      (a.0, a.1, a.2, ended_early r before.count H M before.fresh s i n retries old new xs a.1 ended a.0 not_limit le a.3, a.4, a.5)),
)

pub Takes-append : {S : Type 0} (puts : S → Option GapOf → Numbered → Bool → S → Type 0) (old mid new : S) (xs ys : List Call) (stopped : Bool) →
    Takes puts old xs false mid → Takes puts mid ys stopped new → Takes puts old (xs ++ ys) stopped new
Takes-append {S = S} puts old mid new [] ys stopped first rest = let P : S → Type 0 = λ z. Takes puts z ys stopped new in subst P first.0 rest
Takes-append puts old mid new (x ∷ xs) ys stopped first rest =
    elim first [
      | inl over ↦ absurd (let e = over.2 in cc)
      | inr more ↦ inr (more.0, more.1, Takes-append puts more.0 mid new xs ys stopped more.2 rest)
    ]

pub put_items-append : (xs ys : List Call) → put_items (xs ++ ys) ≡ put_items xs ++ put_items ys
put_items-append [] ys = refl
put_items-append (x ∷ xs) ys =
    ap (λ l. gap_items x.gap ++ item_of x.record_put ∷ l) (put_items-append xs ys)
    ∙ sym (append_assoc (gap_items x.gap) (item_of x.record_put ∷ put_items xs) (put_items ys))

pub gaps-append : (xs ys : List Call) → gaps (xs ++ ys) ≡ gaps xs + gaps ys
gaps-append [] ys = omega arith
gaps-append (x ∷ xs) ys = omega (arith, gaps-append xs ys)

pub no_delivery : {S : Type 0} (puts : S → Option GapOf → Numbered → Bool → S → Type 0) (sink : S) (was : ℕ → List Moment → History → Type 0)
    (retries old : ℕ) (w : WalkPlace) → Delivery (sink_filled puts sink sink) (ours_around was was) (losses_of retries old old) w w 0 StepLimit
no_delivery puts sink was retries old w = ([], (refl, refl), omega arith, omega arith, no_run was retries old w, λ e. omega arith)

pub join_delivers : {S : Type 0} (puts : S → Option GapOf → Numbered → Bool → S → Type 0) (sink held left : S) (was mid is : ℕ → List Moment → History → Type 0)
    (retries old half new : ℕ) (before middle after : WalkPlace) (i : ℕ) (ended : Ended) →
    Delivery (sink_filled puts sink held) (ours_around was mid) (losses_of retries old half) before middle i StepLimit → Delivery (sink_filled puts held left) (ours_around mid is) (losses_of retries half new) middle after 1 ended → old ≤ half → middle.count ≡ before.count →
    Delivery (sink_filled puts sink left) (ours_around was is) (losses_of retries old new) before after (i + 1) ended
join_delivers puts sink held left was mid is retries old half new before middle after i ended first rest up same =
    let P : List Item → Type 0 = λ l. IsRun (ours_around was is) (losses_of retries old new) before after (i + 1) ended l in (
      first.0 ++ rest.0,
      Takes-append puts sink held left first.0 rest.0 (is_stopped ended) first.1 rest.1,
      omega (arith, length-append first.0 rest.0, first.2, rest.2),
      omega (arith, gaps-append first.0 rest.0, first.3, rest.3),
      subst P (sym (put_items-append first.0 rest.0)) (join_run was mid is retries old half new before middle after i ended (put_items first.0) (put_items rest.0) first.4 rest.4 up same),
      λ e. omega (arith, length-append first.0 rest.0, first.5 refl, rest.5 e),
    )

pub delivers_early : {S : Type 0} (puts : S → Option GapOf → Numbered → Bool → S → Type 0) (sink left : S) (was is : ℕ → List Moment → History → Type 0)
    (retries old new : ℕ) (before after : WalkPlace) (i n : ℕ) (ended : Ended) → ended ≢ StepLimit → i ≤ n →
    Delivery (sink_filled puts sink left) (ours_around was is) (losses_of retries old new) before after i ended → Delivery (sink_filled puts sink left) (ours_around was is) (losses_of retries old new) before after n ended
delivers_early puts sink left was is retries old new before after i n ended not_limit le run = (
  run.0,
  run.1,
  omega (arith, run.2),
  omega (arith, run.3),
  run_early was is retries old new before after i n ended (put_items run.0) not_limit le run.4,
  λ e. absurd (not_limit e),
)

-- a step that ends a run, and one that doesn't
pub ends_run : (ended : Ended) (why : Why) (steps : ℕ) → is_stopped ended ≡ false → why_of ended ≡ Some why → IsRunOf why steps steps ended
ends_run CaughtUp WasUp steps on is = (refl, refl)
ends_run CaughtUp WasLimit steps on is = absurd (cc)
ends_run CaughtUp (WasFault e) steps on is = absurd (cc)
ends_run CaughtUp Memory steps on is = absurd (cc)
ends_run StepLimit why steps on is = absurd (cc)
ends_run Stopped why steps on is = absurd (cc)
ends_run (Fault e) WasUp steps on is = absurd (cc)
ends_run (Fault e) WasLimit steps on is = absurd (cc)
ends_run (Fault e) (WasFault d) steps on is = (refl, (let same : WasFault e ≡ WasFault d = cc in let inner : e ≡ d = cc in ap (λ x. Fault x) inner))
ends_run (Fault e) Memory steps on is = absurd (cc)

pub not_limit : (ended : Ended) (why : Why) → why_of ended ≡ Some why → ended ≢ StepLimit
not_limit CaughtUp why is = λ e. cc
not_limit StepLimit why is = absurd (cc)
not_limit Stopped why is = λ e. cc
not_limit (Fault f) why is = λ e. cc

pub why_limit : (ended : Ended) → why_of ended ≡ Some WasLimit → ⊥
why_limit CaughtUp is = absurd (cc)
why_limit StepLimit is = absurd (cc)
why_limit Stopped is = absurd (cc)
why_limit (Fault e) is = absurd (cc)

pub goes_on : (ended : Ended) → why_of ended ≡ None → ended ≡ StepLimit
goes_on CaughtUp is = absurd (cc)
goes_on StepLimit is = refl
goes_on Stopped is = absurd (cc)
goes_on (Fault e) is = absurd (cc)

pub runs_on : (ended : Ended) → ended ≢ Stopped → is_stopped ended ≡ false
runs_on CaughtUp on = refl
runs_on StepLimit on = refl
runs_on Stopped on = absurd (on refl)
runs_on (Fault e) on = refl

pub not_stopped : (ended : Ended) → is_stopped ended ≡ false → ended ≢ Stopped
not_stopped CaughtUp on = λ e. cc
not_stopped StepLimit on = λ e. cc
not_stopped Stopped on = absurd (cc)
not_stopped (Fault f) on = λ e. cc

-- what a run over a link of ours delivers
pub collected_delivers : (r count : ℕ) (H : History) (M : List Moment) (fresh : Bool) (s steps retries old new : ℕ) (items : List Item) (t : ℕ) (ended : Ended) (answers : List (List Item)) →
    Collected (our_log r M H) (started_at count fresh s) steps (losses_of retries old new) (yield items ended) t answers → DeliversTo H (start_of fresh s M answers) items t M (length answers)
collected_delivers r count H M fresh s steps retries old new items t ended answers run =
    (answers, refl, run.all, leads ended r count H M false (start_of fresh s M answers) t answers run.leads)

pub headline_of : (was is : ℕ → List Moment → History → Type 0) (retries old new : ℕ) (before after : WalkPlace) (n : ℕ) (ended : Ended) (items : List Item) →
    IsRun (ours_around was is) (losses_of retries old new) before after n ended items → (r : ℕ) (M : List Moment) (H : History) (s : ℕ) → was r M H → before.next ≡ sequence_number s →
    StaysNear r before.count H M before.fresh s n → (b : ℕ) × (a : ℕ) × (t : ℕ) × (before.fresh ≡ false → b ≡ s) × (after.next ≡ sequence_number t) × DeliversTo H b items t M a × is r (after_answers a M) H
headline_of was is retries old new before after n ended items run r M H s ours next near =
    let c = run.1 r M H s ours next near in
    let b = start_of before.fresh s M c.0 in
    (b, length c.0, c.1, start_old before.fresh s M c.0, c.2, collected_delivers r before.count H M before.fresh s n retries old new items c.1 ended c.0 c.3, c.4)
