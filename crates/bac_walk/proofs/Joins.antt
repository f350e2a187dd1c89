-- A run and one after it are one run.
use Rattle.std.proofs.Common.{◌≡◌, ℕ, zero, suc, Bool, true, false, ◌+◌, ◌*◌, ◌<◌, ◌≤◌, List, [], ◌∷◌, ◌++◌, length, drop, refl, sym, ap, subst, ◌∙◌, arith, length-append, zero-add, append-nil, ◌≢◌, Result, Ok, Err}
use Rattle.bac_link.specs.declared.item.Item.{Item}
use Rattle.bac_walk.specs.declared.outcome.Step.{Step}
use Rattle.bac_walk.specs.declared.outcome.Step.TheVariants.{Batch as StepOf, CaughtUp as NoStep}
use Rattle.bac_walk.specs.declared.outcome.WalkFault.{WalkFault}
use Rattle.bac_walk.specs.declared.outcome.WalkFault.TheVariants.{Lost, Refused, BadReply}
use Rattle.bac_walk.specs.declared.outcome.Ended.{Ended}
use Rattle.bac_walk.specs.declared.outcome.Ended.TheVariants.{CaughtUp, StepLimit, Stopped, Fault}
use Rattle.bac_link.specs.Delivery.{History, Moment, now, later, items_of}
use Rattle.bac_link.specs.Laws.{after_answers}
use Rattle.bac_walk.specs.Delivers.{NoneFrom}
use Rattle.bac_walk.specs.Collects.{IsOfReply, LeadsInSteps, batches, IsWhole, start_of, IsEnded, Collected, IsFreshAfter, step_items, step_ended, is_fresh_after, our_log, started_at, losses_of, yield}
use Rattle.bac_walk.proofs.Cuts.{items_of-append}

pub batches-append : (xs ys : List (List Item)) → batches (xs ++ ys) ≡ batches xs + batches ys
batches-append [] ys = omega arith
batches-append ([] ∷ xs) ys = batches-append xs ys
batches-append ((x ∷ b) ∷ xs) ys = omega (arith, batches-append xs ys)

IsWhole-append : (xs ys : List (List Item)) → IsWhole xs → IsWhole ys → IsWhole (xs ++ ys)
IsWhole-append [] ys first rest = rest
IsWhole-append ([] ∷ []) ys first rest = absurd first
IsWhole-append ([] ∷ [] ∷ xs) ys first rest = absurd first
IsWhole-append ([] ∷ (x ∷ b) ∷ xs) ys first rest = IsWhole-append xs ys first rest
IsWhole-append ((x ∷ b) ∷ xs) ys first rest = IsWhole-append xs ys first rest

whole_twice : (xs : List (List Item)) → IsWhole xs → length xs ≤ 2 * batches xs
whole_twice [] h = omega arith
whole_twice ([] ∷ []) h = absurd h
whole_twice ([] ∷ [] ∷ xs) h = absurd h
whole_twice ([] ∷ (x ∷ b) ∷ xs) h = omega (arith, whole_twice xs h)
whole_twice ((x ∷ b) ∷ xs) h = omega (arith, whole_twice xs h)

-- the whole of a reply is of it in any run, whatever comes after it
whole_of : (ended : Ended) (xs ys : List (List Item)) (items reply : List Item) → IsOfReply xs StepLimit items reply → IsOfReply (xs ++ ys) ended items reply
whole_of ended (z ∷ xs) ys items reply is = is
whole_of ended [] (y ∷ ys) items reply is = is
whole_of CaughtUp [] [] items reply is = is
whole_of StepLimit [] [] items reply is = is
whole_of Stopped [] [] items reply is = ([], append-nil items ∙ is)
whole_of (Fault e) [] [] items reply is = is

-- whole steps, and others after them
LeadsInSteps-append : (ended : Ended) (r count : ℕ) (H : History) (M : List Moment) (s t u : ℕ) (xs ys : List (List Item)) → IsWhole xs →
    LeadsInSteps StepLimit (our_log r M H) count false s xs t → LeadsInSteps ended (our_log r (after_answers (length xs) M) H) count false t ys u → LeadsInSteps ended (our_log r M H) count false s (xs ++ ys) u
LeadsInSteps-append ended r count H M s t u [] ys whole first rest = let P : ℕ → Type 0 = λ n. LeadsInSteps ended (our_log r M H) count false n ys u in subst P first rest
LeadsInSteps-append ended r count H M s t u ([] ∷ []) ys whole first rest = absurd whole
LeadsInSteps-append ended r count H M s t u ([] ∷ [] ∷ xs) ys whole first rest = absurd whole
LeadsInSteps-append ended r count H M s t u ([] ∷ (x ∷ b) ∷ xs) ys whole first rest = (
  first.0,
  (
    first.1.0,
    first.1.1,
    whole_of ended xs ys (x ∷ b) _ first.1.2,
    LeadsInSteps-append ended r count H (later (later M)) first.1.0 t u xs ys whole first.1.3 rest,
  ),
)
LeadsInSteps-append ended r count H M s t u ((x ∷ b) ∷ xs) ys whole first rest = (
  first.0,
  first.1,
  whole_of ended xs ys (x ∷ b) _ first.2,
  LeadsInSteps-append ended r count H (later M) first.0 t u xs ys whole first.3 rest,
)

pub whole_some : (y : List Item) (ys : List (List Item)) → IsWhole (y ∷ ys) → 0 < batches (y ∷ ys)
whole_some [] [] h = absurd h
whole_some [] ([] ∷ ys) h = absurd h
whole_some [] ((x ∷ b) ∷ ys) h = omega arith
whole_some (x ∷ b) ys h = omega arith

start_of-append : (fresh : Bool) (next : ℕ) (M : List Moment) (x : List Item) (xs ys : List (List Item)) → IsWhole (x ∷ xs) →
    start_of fresh next M ((x ∷ xs) ++ ys) ≡ start_of fresh next M (x ∷ xs)
start_of-append false next M x xs ys h = refl
start_of-append true next M [] [] ys h = absurd h
start_of-append true next M [] ([] ∷ xs) ys h = absurd h
start_of-append true next M [] ((x ∷ b) ∷ xs) ys h = refl
start_of-append true next M (x ∷ b) xs ys h = refl

pub start_of-nil : (fresh : Bool) (next : ℕ) (M : List Moment) → start_of fresh next M [] ≡ next
start_of-nil true next M = refl
start_of-nil false next M = refl

pub after_answers-add : (a b : ℕ) (M : List Moment) → after_answers (a + b) M ≡ after_answers b (after_answers a M)
after_answers-add zero b M = rw zero-add refl
after_answers-add (suc a) b M =
    let e : suc a + b ≡ suc (a + b) = omega arith in
    rw e (after_answers-add a b (later M))

drop-past : (xs ys : List (List Item)) (i : ℕ) → drop (length xs + i) (xs ++ ys) ≡ drop i ys
drop-past [] ys i = rw zero-add refl
drop-past (x ∷ xs) ys i =
    let e : suc (length xs) + i ≡ suc (length xs + i) = omega arith in
    rw e (drop-past xs ys i)

no_items : (ys : List (List Item)) → items_of ys ≡ [] → batches ys ≡ 0
no_items [] h = refl
no_items ([] ∷ ys) h = no_items ys h
no_items ((x ∷ b) ∷ ys) h = absurd (cc)

ended_after : (why : Ended) (fresh mid_fresh : Bool) (t : ℕ) (M : List Moment) (xs ys : List (List Item)) (i j retries old mid new : ℕ) →
    (batches xs ≡ 0 → mid_fresh ≡ fresh) → batches xs ≡ i → IsWhole xs → old ≤ mid →
    IsEnded why mid_fresh t (after_answers (length xs) M) ys j (losses_of retries mid new) → IsEnded why fresh t M (xs ++ ys) (i + j) (losses_of retries old new)
ended_after CaughtUp fresh mid_fresh t M xs ys i j retries old mid new same count whole up ended =
    let P : List (List Item) → Type 0 = λ l. batches l ≡ 0 in
    let Q : List Moment → Type 0 = λ N. NoneFrom t (now N) in
    let R : List Moment → Type 0 = λ N. (now N).newest < (now N).oldest in (
      omega (arith, batches-append xs ys, count, ended.0),
      (
        length xs + ended.1.0,
        omega (arith, length-append xs ys, ended.1.1),
        subst P (sym (drop-past xs ys ended.1.0)) ended.1.2,
        subst Q (sym (after_answers-add (length xs) ended.1.0 M)) ended.1.3,
        λ f none. subst R (sym (after_answers-add (length xs) ended.1.0 M))
            (ended.1.4 (same (omega (arith, batches-append xs ys, none)) ∙ f) (omega (arith, batches-append xs ys, none))),
      ),
    )
ended_after StepLimit fresh mid_fresh t M xs ys i j retries old mid new same count whole up ended =
    (omega (arith, batches-append xs ys, count, ended.0), IsWhole-append xs ys whole ended.1)
ended_after Stopped fresh mid_fresh t M xs ys i j retries old mid new same count whole up ended =
    (omega (arith, batches-append xs ys, count, ended.0), omega (arith, batches-append xs ys, count, ended.1), IsWhole-append xs ys whole ended.2)
ended_after (Fault Lost) fresh mid_fresh t M xs ys i j retries old mid new same count whole up ended = omega arith
ended_after (Fault (Refused refusal)) fresh mid_fresh t M xs ys i j retries old mid new same count whole up ended = ended
ended_after (Fault BadReply) fresh mid_fresh t M xs ys i j retries old mid new same count whole up ended = ended

-- a run that brought something, and one after it
join_some : (r count : ℕ) (H : History) (M : List Moment) (fresh : Bool) (next i j retries old mid new : ℕ) (items more : List Item) (t u : ℕ) (why : Ended)
    (x : List Item) (xs ys : List (List Item)) →
    Collected (our_log r M H) (started_at count fresh next) i (losses_of retries old mid) (yield items StepLimit) t (x ∷ xs) →
    Collected (our_log r (after_answers (length (x ∷ xs)) M) H) (started_at count false t) j (losses_of retries mid new) (yield more why) u ys → old ≤ mid →
    Collected (our_log r M H) (started_at count fresh next) (i + j) (losses_of retries old new) (yield (items ++ more) why) u ((x ∷ xs) ++ ys)
join_some r count H M fresh next i j retries old mid new items more t u why x xs ys first rest up =
    let whole : IsWhole (x ∷ xs) = first.end.1 in
    let start : start_of fresh next M ((x ∷ xs) ++ ys) ≡ start_of fresh next M (x ∷ xs) = start_of-append fresh next M x xs ys whole in
    let P : ℕ → Type 0 = λ n. LeadsInSteps why (our_log r M H) count false n ((x ∷ xs) ++ ys) u in
    record {
      all = items_of-append (x ∷ xs) ys ∙ ap (λ n. n ++ items_of ys) first.all ∙ ap (λ n. items ++ n) rest.all;
      leads = subst P (sym start) (LeadsInSteps-append why r count H M (start_of fresh next M (x ∷ xs)) t u (x ∷ xs) ys whole first.leads rest.leads);
      twice_steps = omega (arith, length-append (x ∷ xs) ys, first.twice_steps, rest.twice_steps);
      twice_batches = omega (arith, length-append (x ∷ xs) ys, batches-append (x ∷ xs) ys, whole_twice (x ∷ xs) whole, rest.twice_batches);
      end = ended_after why fresh false u M (x ∷ xs) ys i j retries old mid new (λ h. absurd (omega (arith, h, whole_some x xs whole))) first.end.0 whole up rest.end;
    }

-- a run that brought nothing, and one after it
join_none : (r count : ℕ) (H : History) (M : List Moment) (fresh : Bool) (next i j retries old mid new : ℕ) (items more : List Item) (t u : ℕ) (why : Ended)
    (ys : List (List Item)) →
    Collected (our_log r M H) (started_at count fresh next) i (losses_of retries old mid) (yield items StepLimit) t [] →
    Collected (our_log r M H) (started_at count fresh t) j (losses_of retries mid new) (yield more why) u ys → old ≤ mid →
    Collected (our_log r M H) (started_at count fresh next) (i + j) (losses_of retries old new) (yield (items ++ more) why) u ys
join_none r count H M fresh next i j retries old mid new [] more t u why ys first rest up =
    let same : t ≡ next = first.leads ∙ start_of-nil fresh next M in
    let S : ℕ → Type 0 = λ n. Collected (our_log r M H) (started_at count fresh n) j (losses_of retries mid new) (yield more why) u ys in
    let moved = subst S same rest in
    record {
      all = moved.all;
      leads = moved.leads;
      twice_steps = omega (arith, moved.twice_steps);
      twice_batches = moved.twice_batches;
      end = ended_after why fresh fresh u M [] ys i j retries old mid new (λ h. refl) first.end.0 tt up moved.end;
    }
join_none r count H M fresh next i j retries old mid new (x ∷ items) more t u why ys first rest up = absurd (let e = first.all in cc)

pub join : (r count : ℕ) (H : History) (M : List Moment) (fresh mid_fresh : Bool) (next i j retries old mid new : ℕ) (items more : List Item) (t u : ℕ) (why : Ended)
    (xs ys : List (List Item)) →
    Collected (our_log r M H) (started_at count fresh next) i (losses_of retries old mid) (yield items StepLimit) t xs → IsFreshAfter fresh xs mid_fresh →
    Collected (our_log r (after_answers (length xs) M) H) (started_at count mid_fresh t) j (losses_of retries mid new) (yield more why) u ys → old ≤ mid →
    Collected (our_log r M H) (started_at count fresh next) (i + j) (losses_of retries old new) (yield (items ++ more) why) u (xs ++ ys)
join r count H M fresh mid_fresh next i j retries old mid new items more t u why [] ys first left rest up =
    let P : Bool → Type 0 = λ b. Collected (our_log r M H) (started_at count b t) j (losses_of retries mid new) (yield more why) u ys in
    join_none r count H M fresh next i j retries old mid new items more t u why ys first (subst P (left.none refl) rest) up
join r count H M fresh mid_fresh next i j retries old mid new items more t u why (x ∷ xs) ys first left rest up =
    let P : Bool → Type 0 = λ b. Collected (our_log r (after_answers (length (x ∷ xs)) M) H) (started_at count b t) j (losses_of retries mid new) (yield more why) u ys in
    join_some r count H M fresh next i j retries old mid new items more t u why x xs ys first (subst P (left.some (whole_some x xs first.end.1)) rest) up

pub fresh_join : (fresh mid_fresh new_fresh : Bool) (xs ys : List (List Item)) →
    IsFreshAfter fresh xs mid_fresh → IsFreshAfter mid_fresh ys new_fresh → IsFreshAfter fresh (xs ++ ys) new_fresh
fresh_join fresh mid_fresh new_fresh xs ys first rest = record {
  none = λ h. rest.none (omega (arith, batches-append xs ys, h)) ∙ first.none (omega (arith, batches-append xs ys, h));
  some = λ h. fresh_some fresh mid_fresh new_fresh xs ys first rest (batches ys) refl (omega (arith, batches-append xs ys, h));
}
  where
    fresh_some : (fresh mid_fresh new_fresh : Bool) (xs ys : List (List Item)) →
        IsFreshAfter fresh xs mid_fresh → IsFreshAfter mid_fresh ys new_fresh → (n : ℕ) → batches ys ≡ n → 0 < batches xs + n → new_fresh ≡ false
    fresh_some fresh mid_fresh new_fresh xs ys first rest zero is h = rest.none is ∙ first.some (omega arith)
    fresh_some fresh mid_fresh new_fresh xs ys first rest (suc n) is h = rest.some (omega arith)

-- how whole steps end has nothing to do with what was lost
pub at_limit : (r count : ℕ) (H : History) (M : List Moment) (fresh : Bool) (s i retries old new tries was is : ℕ) (items : List Item) (t : ℕ) (answers : List (List Item)) →
    Collected (our_log r M H) (started_at count fresh s) i (losses_of retries old new) (yield items StepLimit) t answers → Collected (our_log r M H) (started_at count fresh s) i (losses_of tries was is) (yield items StepLimit) t answers
at_limit r count H M fresh s i retries old new tries was is items t answers run = record {
  all = run.all;
  leads = run.leads;
  twice_steps = run.twice_steps;
  twice_batches = run.twice_batches;
  end = run.end;
}

-- a run of no steps
pub no_steps : (r count : ℕ) (H : History) (M : List Moment) (fresh : Bool) (next retries old : ℕ) → Collected (our_log r M H) (started_at count fresh next) 0 (losses_of retries old old) (yield [] StepLimit) next []
no_steps r count H M fresh next retries old = record {
  all = refl;
  leads = sym (start_of-nil fresh next M);
  twice_steps = omega arith;
  twice_batches = omega arith;
  end = (refl, tt);
}

-- a run that ended before its last step
pub ended_early : (r count : ℕ) (H : History) (M : List Moment) (fresh : Bool) (next i n retries old new : ℕ) (items : List Item) (t : ℕ) (why : Ended) (xs : List (List Item)) →
    why ≢ StepLimit → i ≤ n → Collected (our_log r M H) (started_at count fresh next) i (losses_of retries old new) (yield items why) t xs → Collected (our_log r M H) (started_at count fresh next) n (losses_of retries old new) (yield items why) t xs
ended_early r count H M fresh next i n retries old new items t why xs not_limit le run = record {
  all = run.all;
  leads = run.leads;
  twice_steps = omega (arith, run.twice_steps);
  twice_batches = run.twice_batches;
  end = early why fresh t M xs i n retries old new not_limit le run.end;
}
  where
    early : (why : Ended) (fresh : Bool) (t : ℕ) (M : List Moment) (xs : List (List Item)) (i n retries old new : ℕ) → why ≢ StepLimit → i ≤ n →
        IsEnded why fresh t M xs i (losses_of retries old new) → IsEnded why fresh t M xs n (losses_of retries old new)
    early CaughtUp fresh t M xs i n retries old new not_limit le e = (omega (arith, e.0), e.1)
    early StepLimit fresh t M xs i n retries old new not_limit le e = absurd (not_limit refl)
    early Stopped fresh t M xs i n retries old new not_limit le e = (e.0, omega (arith, e.1), e.2)
    early (Fault Lost) fresh t M xs i n retries old new not_limit le e = e
    early (Fault (Refused refusal)) fresh t M xs i n retries old new not_limit le e = e
    early (Fault BadReply) fresh t M xs i n retries old new not_limit le e = e

pub step_fresh : (r count : ℕ) (H : History) (M : List Moment) (before after : Bool) (t retries old new u : ℕ) (s : Result Step WalkFault) (ys : List (List Item)) →
    Collected (our_log r M H) (started_at count before t) 1 (losses_of retries old new) (yield (step_items s) (step_ended s)) u ys → after ≡ is_fresh_after before s → IsFreshAfter before ys after
step_fresh r count H M before after t retries old new u (Ok (StepOf b)) ys run is = record {
  none = λ h. absurd (omega (arith, run.end.0));
  some = λ h. is;
}
step_fresh r count H M before after t retries old new u (Ok NoStep) ys run is = record {
  none = λ h. is;
  some = λ h. absurd (omega (arith, no_items ys run.all));
}
step_fresh r count H M before after t retries old new u (Err e) ys run is = record {
  none = λ h. is;
  some = λ h. absurd (omega (arith, no_items ys run.all));
}
