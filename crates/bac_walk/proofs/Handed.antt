-- A step whose batch is put into a sink is a run of one step.
use Rattle.std.proofs.Common.{◌≡◌, ℕ, suc, Bool, true, false, ◌+◌, ◌<◌, ◌≤◌, inl, inr, Option, Some, None, Result, Ok, Err, List, [], ◌∷◌, ◌++◌, length, map, refl, sym, ap, subst, ◌∙◌, arith, length-append, append-nil, append_assoc}
use Rattle.bac_log.specs.declared.entry.Entry.{Entry}
use Rattle.bac_link.specs.declared.item.Item.{Item}
use Rattle.bac_link.specs.declared.item.Item.TheVariants.{Logged}
use Rattle.bac_walk.specs.declared.batch.Gap.{Gap as GapOf}
use Rattle.bac_walk.specs.declared.batch.Numbered.{Numbered}
use Rattle.bac_walk.specs.declared.batch.Batch.{Batch}
use Rattle.bac_walk.specs.Place.{WalkPlace}
use Rattle.bac_walk.specs.declared.outcome.Step.{Step}
use Rattle.bac_walk.specs.declared.outcome.Step.TheVariants.{Batch as StepOf, CaughtUp as NoStep}
use Rattle.bac_walk.specs.declared.outcome.WalkFault.{WalkFault}
use Rattle.bac_walk.specs.declared.outcome.Ended.{Ended}
use Rattle.bac_walk.specs.declared.outcome.Ended.TheVariants.{CaughtUp, StepLimit, Stopped, Fault}
use Rattle.bac_log.specs.TrendLog.{sequence_number}
use Rattle.bac_link.specs.Ordinals.{number_after}
use Rattle.bac_link.specs.Delivery.{History, Moment, now, later, Brings}
use Rattle.bac_link.specs.Laws.{after_answers}
use Rattle.bac_link.proofs.Delivers.{brings_cut}
use Rattle.bac_walk.specs.Near.{IsNearStep}
use Rattle.bac_walk.specs.Walks.{gap_items, item_of, items_in}
use Rattle.bac_walk.specs.Collects.{Goes, Collected, LeadsInSteps, start_of, IsFreshAfter, FoundEnd, FoundStep, batches, step_items, step_ended, is_fresh_after, our_log, started_at, losses_of, yield}
use Rattle.bac_walk.specs.Sinks.{Call, put_items, gaps, Takes, PutAll, IsRun, Delivery, sink_filled, ours_around}
use Rattle.bac_walk.specs.Handing.{walk_after, ended_after, HandedOn}
use Rattle.bac_walk.proofs.Goes.{cut_goes}
use Rattle.bac_walk.proofs.Shown.{after-number}
use Rattle.bac_walk.proofs.Joins.{step_fresh, whole_some}
use Rattle.bac_walk.proofs.Near.{at_once}

-- the calls that put so many records, the first with the gap
abbrev pub calls_of : Option GapOf → List Numbered → List Call
calls_of gap [] = []
calls_of gap (x ∷ xs) = record { gap = gap; record_put = x } ∷ calls_of None xs

pub length-calls : (gap : Option GapOf) (xs : List Numbered) → length (calls_of gap xs) ≡ length xs
length-calls gap [] = refl
length-calls gap (x ∷ xs) = ap suc (length-calls None xs)

gaps-none : (xs : List Numbered) → gaps (calls_of None xs) ≡ 0
gaps-none [] = refl
gaps-none (x ∷ xs) = omega (arith, gaps-none xs)

pub gaps-one : (gap : Option GapOf) (xs : List Numbered) → gaps (calls_of gap xs) ≤ 1
gaps-one gap [] = omega arith
gaps-one None (x ∷ xs) = omega (arith, gaps-none xs)
gaps-one (Some g) (x ∷ xs) = omega (arith, gaps-none xs)

items-none : (xs : List Numbered) → put_items (calls_of None xs) ≡ map item_of xs
items-none [] = refl
items-none (x ∷ xs) = ap (λ l. item_of x ∷ l) (items-none xs)

pub items-calls : (gap : Option GapOf) (xs : List Numbered) → 0 < length xs → put_items (calls_of gap xs) ≡ gap_items gap ++ map item_of xs
items-calls gap [] some = absurd (omega arith)
items-calls gap (x ∷ xs) some = ap (λ l. gap_items gap ++ item_of x ∷ l) (items-none xs)

-- all records of a batch were put
pub put_whole : {S : Type 0} (puts : S → Option GapOf → Numbered → Bool → S → Type 0) (old : S) (gap : Option GapOf) (xs : List Numbered) (new : S) →
    PutAll puts old gap xs None new → Takes puts old (calls_of gap xs) false new
put_whole puts old gap [] new put = (put.0, refl)
put_whole puts old gap (x ∷ xs) new put =
    elim put [
      | inl stopped ↦ absurd (let e = stopped.1 in cc)
      | inr more ↦ inr (more.0, more.1, put_whole puts more.0 None xs new more.2)
    ]

-- the records of a batch up to one
pub record UpTo {S : Type 0} (puts : S → Option GapOf → Numbered → Bool → S → Type 0) (old : S) (gap : Option GapOf) (xs : List Numbered) (n : ℕ) (new : S) : Type 0 where
  pub before : List Numbered
  pub last : Numbered
  pub after : List Numbered
  pub is : xs ≡ before ++ last ∷ after
  pub shown : last.number ≡ n
  pub takes : Takes puts old (calls_of gap (before ++ last ∷ [])) true new

pub put_up_to : {S : Type 0} (puts : S → Option GapOf → Numbered → Bool → S → Type 0) (old : S) (gap : Option GapOf) (xs : List Numbered) (n : ℕ) (new : S) →
    PutAll puts old gap xs (Some n) new → UpTo puts old gap xs n new
put_up_to puts old gap [] n new put = absurd (let e = put.1 in cc)
put_up_to puts old gap (x ∷ xs) n new put =
    elim put [
      | inl stopped ↦ record { before = []; last = x; after = xs; is = refl; shown = (let e = stopped.1 in cc); takes = inl (stopped.0, refl, refl) }
      | inr more ↦
          let rest = put_up_to puts more.0 None xs n new more.2 in
          record { before = x ∷ rest.before; last = rest.last; after = rest.after; is = ap (λ l. x ∷ l) rest.is; shown = rest.shown; takes = inr (more.0, more.1, rest.takes) }
    ]

-- the first item of a batch that was cut
first_of : (pre : List Item) (z : Item) → (y : Item) × (ys : List Item) × (pre ++ z ∷ [] ≡ y ∷ ys)
first_of [] z = (z, [], refl)
first_of (p ∷ pre) z = (p, pre ++ z ∷ [], refl)

-- the answers of a run of one step, cut after an entry
record CutRun (r count : ℕ) (H : History) (M : List Moment) (fresh : Bool) (next retries old new k : ℕ) (items : List Item) (answers : List (List Item)) : Type 0 where
  t : ℕ
  shown : number_after k 1 ≡ sequence_number t
  cut : List (List Item)
  many : length cut ≡ length answers
  some : 0 < batches cut
  run : Collected (our_log r M H) (started_at count fresh next) 1 (losses_of retries old new) (yield items Stopped) t cut

-- one batch, from an ordinal
cut_batch : (H : History) (m : Moment) (s t k : ℕ) (e : Entry) (pre post : List Item) (batch reply : List Item) (y : Item) (ys : List Item) →
    batch ≡ pre ++ Logged k e ∷ post → pre ++ Logged k e ∷ [] ≡ y ∷ ys → Brings H m s batch t → batch ≡ reply →
    (u : ℕ) × (number_after k 1 ≡ sequence_number u) × Brings H m s (y ∷ ys) u × ((dropped : List Item) × ((y ∷ ys) ++ dropped ≡ reply))
cut_batch H m s t k e pre post batch reply y ys is cut brings whole =
    let P : List Item → Type 0 = λ l. Brings H m s l t in
    let c = brings_cut H m s t k e pre post (subst P is brings) in
    let Q : List Item → Type 0 = λ l. Brings H m s l (c.k + 1) in (
      c.k + 1,
      ap (λ n. number_after n 1) c.shows ∙ after-number c.k 1,
      subst Q cut c.are,
      (post, ap (λ l. l ++ post) (sym cut) ∙ append_assoc pre (Logged k e ∷ []) post ∙ sym is ∙ whole),
    )

-- a run begins where it did
same_first : (fresh : Bool) (next : ℕ) (M : List Moment) (x y : Item) (b ys : List Item) →
    start_of fresh next M ((x ∷ b) ∷ []) ≡ start_of fresh next M ((y ∷ ys) ∷ [])
same_first true next M x y b ys = refl
same_first false next M x y b ys = refl

same_second : (fresh : Bool) (next : ℕ) (M : List Moment) (x y : Item) (b ys : List Item) →
    start_of fresh next M ([] ∷ (x ∷ b) ∷ []) ≡ start_of fresh next M ([] ∷ (y ∷ ys) ∷ [])
same_second true next M x y b ys = refl
same_second false next M x y b ys = refl

cut_run : (r count : ℕ) (H : History) (M : List Moment) (fresh : Bool) (next retries old new t k : ℕ) (e : Entry) (pre post : List Item) (answers : List (List Item)) →
    Collected (our_log r M H) (started_at count fresh next) 1 (losses_of retries old new) (yield (pre ++ Logged k e ∷ post) StepLimit) t answers →
    CutRun r count H M fresh next retries old new k (pre ++ Logged k e ∷ []) answers
cut_run r count H M fresh next retries old new t k e [] post [] run = absurd (let h = run.all in cc)
cut_run r count H M fresh next retries old new t k e (p ∷ pre) post [] run = absurd (let h = run.all in cc)
cut_run r count H M fresh next retries old new t k e pre post ([] ∷ []) run = absurd run.end.1
cut_run r count H M fresh next retries old new t k e pre post ([] ∷ [] ∷ answers) run = absurd run.end.1
cut_run r count H M fresh next retries old new t k e pre post ((x ∷ b) ∷ z ∷ answers) run = absurd (omega (arith, run.end.0, whole_some z answers run.end.1))
cut_run r count H M fresh next retries old new t k e pre post ([] ∷ (x ∷ b) ∷ z ∷ answers) run = absurd (omega (arith, run.end.0, whole_some z answers run.end.1))
cut_run r count H M fresh next retries old new t k e pre post ((x ∷ b) ∷ []) run =
    let (y, ys, same) = first_of pre (Logged k e) in
    let c = cut_batch H (now M) (start_of fresh next M ((x ∷ b) ∷ [])) run.leads.0 k e pre post (x ∷ b) _ y ys
    (sym (append-nil (x ∷ b)) ∙ run.all) same run.leads.1 run.leads.2 in
    let P : List Item → Type 0 = λ l. CutRun r count H M fresh next retries old new k l ((x ∷ b) ∷ []) in
    let Q : ℕ → Type 0 = λ n. LeadsInSteps Stopped (our_log r M H) count false n ((y ∷ ys) ∷ []) c.0 in
    subst P (sym same) (record {
      t = c.0;
      shown = c.1;
      cut = (y ∷ ys) ∷ [];
      many = refl;
      some = omega arith;
      run = record {
        all = append-nil (y ∷ ys);
        leads = subst Q (same_first fresh next M x y b ys) (c.0, c.2, c.3, refl);
        twice_steps = omega arith;
        twice_batches = omega arith;
        end = (omega arith, omega arith, tt);
      };
    })
cut_run r count H M fresh next retries old new t k e pre post ([] ∷ (x ∷ b) ∷ []) run =
    let (y, ys, same) = first_of pre (Logged k e) in
    let c = cut_batch H (now (later M)) (start_of fresh next M ([] ∷ (x ∷ b) ∷ [])) run.leads.1.0 k e pre post (x ∷ b) _ y ys
    (sym (append-nil (x ∷ b)) ∙ run.all) same run.leads.1.1 run.leads.1.2 in
    let P : List Item → Type 0 = λ l. CutRun r count H M fresh next retries old new k l ([] ∷ (x ∷ b) ∷ []) in
    let Q : ℕ → Type 0 = λ n. LeadsInSteps Stopped (our_log r M H) count false n ([] ∷ (y ∷ ys) ∷ []) c.0 in
    subst P (sym same) (record {
      t = c.0;
      shown = c.1;
      cut = [] ∷ (y ∷ ys) ∷ [];
      many = refl;
      some = omega arith;
      run = record {
        all = append-nil (y ∷ ys);
        leads = subst Q (same_second fresh next M x y b ys) (run.leads.0, (c.0, c.2, c.3, refl));
        twice_steps = omega arith;
        twice_batches = omega arith;
        end = (omega arith, omega arith, tt);
      };
    })

-- what a step ensures
abbrev pub IsStep : (ℕ → List Moment → History → Type 0) → (ℕ → List Moment → History → Type 0) → ℕ → ℕ → ℕ → WalkPlace → WalkPlace → Result Step WalkFault → Type 0
IsStep was is retries old new before after z =
    ((s : ℕ) → Goes before.fresh before.next s (step_items z) after.fresh after.next)
    × ((r : ℕ) (M : List Moment) (H : History) (s : ℕ) → was r M H → before.next ≡ sequence_number s → (before.fresh ≡ false → IsNearStep before.count s M) →
    (answers : List (List Item)) × (t : ℕ) × (after.next ≡ sequence_number t)
    × Collected (our_log r M H) (started_at before.count before.fresh s) 1 (losses_of retries old new) (yield (step_items z) (step_ended z)) t answers
    × is r (after_answers (length answers) M) H × (after.fresh ≡ is_fresh_after before.fresh z))

-- a step is a run of one step
run_of_step : (was is : ℕ → List Moment → History → Type 0) (retries old new : ℕ) (before after : WalkPlace) (z : Result Step WalkFault) →
    IsStep was is retries old new before after z → IsRun (ours_around was is) (losses_of retries old new) before after 1 (step_ended z) (step_items z)
run_of_step was is retries old new before after z step = (
  step.0,
  λ r M H s ours next near.
      let run = step.1 r M H s ours next (at_once r before.count H M before.fresh s 1 retries old (omega arith) near) in
      (run.0, run.1, run.2, run.3, run.4, step_fresh r before.count H M before.fresh after.fresh s retries old new run.1 z run.0 run.3 run.5),
)

-- a step whose batch was cut
run_of_cut : (was is : ℕ → List Moment → History → Type 0) (retries old new k : ℕ) (e : Entry) (before after : WalkPlace) (pre post : List Item) →
    IsRun (ours_around was is) (losses_of retries old new) before after 1 StepLimit (pre ++ Logged k e ∷ post) →
    IsRun (ours_around was is) (losses_of retries old new) before (record after { next = number_after k 1; fresh = false; asks_oldest = false }) 1 Stopped (pre ++ Logged k e ∷ [])
run_of_cut was is retries old new k e before after pre post run = (
  (λ s. cut_goes before.fresh before.next s pre k e post after.fresh after.next (run.0 s)),
  (λ r M H s ours next near.
      let whole = run.1 r M H s ours next near in
      let c = cut_run r before.count H M before.fresh s retries old new whole.1 k e pre post whole.0 whole.3 in
      let P : ℕ → Type 0 = λ a. is r (after_answers a M) H in
      let some : 0 < batches whole.0 = omega (arith, whole.3.end.0) in
      let fresh : IsFreshAfter before.fresh c.cut false = record { none = λ h. absurd (omega (arith, h, c.some)); some = λ h. refl } in
      (c.cut, c.t, c.shown, c.run, subst P (sym c.many) whole.4, fresh)),
)

pub map-append : (xs ys : List Numbered) → map item_of (xs ++ ys) ≡ map item_of xs ++ map item_of ys
map-append [] ys = refl
map-append (x ∷ xs) ys = ap (λ l. item_of x ∷ l) (map-append xs ys)

-- a batch that was put, as far as it was
of_batch : {S : Type 0} (puts : S → Option GapOf → Numbered → Bool → S → Type 0) (sink left : S) (was is : ℕ → List Moment → History → Type 0)
    (retries old new : ℕ) (before mid : WalkPlace) (b : Batch) (refused : Option ℕ) → length b.entries.items ≤ 100 → 0 < length b.entries.items →
    IsRun (ours_around was is) (losses_of retries old new) before mid 1 StepLimit (items_in b) → PutAll puts sink b.gap b.entries.items refused left →
    Delivery (sink_filled puts sink left) (ours_around was is) (losses_of retries old new) before (walk_after mid refused) 1 (ended_after refused)
of_batch puts sink left was is retries old new before mid b None most some run put =
    let P : List Item → Type 0 = λ l. IsRun (ours_around was is) (losses_of retries old new) before mid 1 StepLimit l in (
      calls_of b.gap b.entries.items,
      put_whole puts sink b.gap b.entries.items left put,
      omega (arith, length-calls b.gap b.entries.items),
      gaps-one b.gap b.entries.items,
      subst P (sym (items-calls b.gap b.entries.items some)) run,
      λ e. omega (arith, some, length-calls b.gap b.entries.items),
    )
of_batch puts sink left was is retries old new before mid b (Some n) most some run put =
    let c = put_up_to puts sink b.gap b.entries.items n left put in
    let pre = gap_items b.gap ++ map item_of c.before in
    let post = map item_of c.after in
    let one = Logged c.last.number c.last.entry in
    let whole : items_in b ≡ pre ++ one ∷ post =
    ap (λ l. gap_items b.gap ++ map item_of l) c.is ∙ ap (λ l. gap_items b.gap ++ l) (map-append c.before (c.last ∷ c.after))
    ∙ sym (append_assoc (gap_items b.gap) (map item_of c.before) (one ∷ post)) in
    let cut : put_items (calls_of b.gap (c.before ++ c.last ∷ [])) ≡ pre ++ one ∷ [] =
    items-calls b.gap (c.before ++ c.last ∷ []) (omega (arith, length-append c.before (c.last ∷ [])))
    ∙ ap (λ l. gap_items b.gap ++ l) (map-append c.before (c.last ∷ []))
    ∙ sym (append_assoc (gap_items b.gap) (map item_of c.before) (one ∷ [])) in
    let P : List Item → Type 0 = λ l. IsRun (ours_around was is) (losses_of retries old new) before mid 1 StepLimit l in
    let Q : ℕ → Type 0 = λ m. IsRun (ours_around was is) (losses_of retries old new) before (record mid { next = number_after m 1; fresh = false; asks_oldest = false }) 1 Stopped (pre ++ one ∷ []) in
    let R : List Item → Type 0 = λ l. IsRun (ours_around was is) (losses_of retries old new) before (record mid { next = number_after n 1; fresh = false; asks_oldest = false }) 1 Stopped l in (
      calls_of b.gap (c.before ++ c.last ∷ []),
      c.takes,
      omega (arith, length-calls b.gap (c.before ++ c.last ∷ []), ap length c.is, length-append c.before (c.last ∷ c.after), length-append c.before (c.last ∷ [])),
      gaps-one b.gap (c.before ++ c.last ∷ []),
      subst R (sym cut) (subst Q c.shown (run_of_cut was is retries old new c.last.number c.last.entry before mid pre post (subst P whole run))),
      λ e. absurd (cc),
    )

-- a step and what was made of it
pub handed : {S : Type 0} (puts : S → Option GapOf → Numbered → Bool → S → Type 0) (sink left : S) (was is : ℕ → List Moment → History → Type 0)
    (retries old new : ℕ) (before mid after : WalkPlace) (z : Result Step WalkFault) (ended : Ended) →
    IsStep was is retries old new before mid z → HandedOn puts sink mid z ended after left →
    Delivery (sink_filled puts sink left) (ours_around was is) (losses_of retries old new) before after 1 ended
handed puts sink left was is retries old new before mid after (Err e) ended step put =
    let run = run_of_step was is retries old new before mid (Err e) step in
    let P : WalkPlace → Type 0 = λ w. IsRun (ours_around was is) (losses_of retries old new) before w 1 (Fault e) [] in
    let Q : Ended → Type 0 = λ x. Delivery (sink_filled puts sink left) (ours_around was is) (losses_of retries old new) before after 1 x in
    subst Q (sym put.2) ([], (put.0, refl), omega arith, omega arith, subst P (sym put.1) run, λ e. absurd (cc))
handed puts sink left was is retries old new before mid after (Ok NoStep) ended step put =
    let run = run_of_step was is retries old new before mid (Ok NoStep) step in
    let P : WalkPlace → Type 0 = λ w. IsRun (ours_around was is) (losses_of retries old new) before w 1 CaughtUp [] in
    let Q : Ended → Type 0 = λ x. Delivery (sink_filled puts sink left) (ours_around was is) (losses_of retries old new) before after 1 x in
    subst Q (sym put.2) ([], (put.0, refl), omega arith, omega arith, subst P (sym put.1) run, λ e. absurd (cc))
handed puts sink left was is retries old new before mid after (Ok (StepOf b)) ended step put =
    let run = run_of_step was is retries old new before mid (Ok (StepOf b)) step in
    let done = of_batch puts sink left was is retries old new before mid b put.0 b.most b.some run put.1 in
    let P : WalkPlace → Type 0 = λ w. Delivery (sink_filled puts sink left) (ours_around was is) (losses_of retries old new) before w 1 (ended_after put.0) in
    let Q : Ended → Type 0 = λ x. Delivery (sink_filled puts sink left) (ours_around was is) (losses_of retries old new) before after 1 x in
    subst Q (sym put.3) (subst P (sym put.2) done)

-- a step that isn't lost doesn't end as lost
pub found_end : {S : Type 0} (puts : S → Option GapOf → Numbered → Bool → S → Type 0) (sink : S) (mid : WalkPlace) (z : Result Step WalkFault) (ended : Ended) (after : WalkPlace) (left : S) →
    HandedOn puts sink mid z ended after left → FoundStep z → FoundEnd ended
found_end puts sink mid (Err e) ended after left put found = let P : Ended → Type 0 = λ x. FoundEnd x in subst P (sym put.2) found
found_end puts sink mid (Ok NoStep) ended after left put found = let P : Ended → Type 0 = λ x. FoundEnd x in subst P (sym put.2) tt
found_end puts sink mid (Ok (StepOf b)) ended after left put found = let P : Ended → Type 0 = λ x. FoundEnd x in subst P (sym put.3) (of_put put.0)
  where
    of_put : (refused : Option ℕ) → FoundEnd (ended_after refused)
    of_put None = tt
    of_put (Some n) = tt
