-- The answers of one step.
use Rattle.std.proofs.Common.{◌≡◌, ℕ, Bool, true, false, ◌+◌, ◌<◌, ◌≤◌, ◌⊎◌, inl, inr, if◌then◌else◌, ◌||◌, Result, Ok, Err, List, [], ◌∷◌, length, refl, ap, subst, ◌∙◌, arith, append-nil}
use Rattle.bac_link.specs.declared.item.Item.{Item}
use Rattle.bac_walk.specs.Place.{WalkPlace}
use Rattle.bac_wire.specs.Primitive.{Id}
use Rattle.bac_walk.specs.declared.outcome.Progress.{Progress}
use Rattle.bac_walk.specs.declared.outcome.Progress.TheVariants.{Batch as BatchOf, AskOldest, CaughtUp as IsUp}
use Rattle.bac_walk.specs.declared.outcome.WalkFault.{WalkFault}
use Rattle.bac_walk.specs.declared.outcome.WalkFault.TheVariants.{Lost, Refused, BadReply}
use Rattle.bac_walk.specs.declared.outcome.Ended.TheVariants.{CaughtUp, StepLimit, Fault}
use Rattle.bac_log.specs.TrendLog.{sequence_number}
use Rattle.bac_link.specs.Delivery.{History, Moment, now, later, Brings}
use Rattle.bac_link.specs.Laws.{after_answers}
use Rattle.bac_link.specs.Moments.{AreServed}
use Rattle.bac_walk.specs.Turns.{whole_reply, NoneOfAsked}
use Rattle.bac_link.specs.Links.{RisesBy}
use Rattle.bac_walk.specs.Collects.{Collected, asks_next, finished, step_items, step_ended, is_fresh_after, our_log, started_at, losses_of, yield}
use Rattle.bac_walk.specs.Turned.{IsTurned}
use Rattle.bac_walk.proofs.Held.{Rises, Rises-later}
use Rattle.bac_walk.specs.Walks.{asks_oldest_now}

pub one_batch : (r count : ℕ) (H : History) (M : List Moment) (fresh : Bool) (next retries old new : ℕ) (items : List Item) (t : ℕ) →
    Brings H (now M) (if fresh then (now M).oldest else next) items t → 0 < length items →
    items ≡ whole_reply r count H (now M) false (if fresh then (now M).oldest else next) →
    Collected (our_log r M H) (started_at count fresh next) 1 (losses_of retries old new) (yield items StepLimit) t (items ∷ [])
one_batch r count H M fresh next retries old new [] t brings some whole = absurd (omega arith)
one_batch r count H M true next retries old new (x ∷ xs) t brings some whole = record {
  all = append-nil (x ∷ xs);
  leads = (t, brings, whole, refl);
  twice_steps = omega arith;
  twice_batches = omega arith;
  end = (refl, tt);
}
one_batch r count H M false next retries old new (x ∷ xs) t brings some whole = record {
  all = append-nil (x ∷ xs);
  leads = (t, brings, whole, refl);
  twice_steps = omega arith;
  twice_batches = omega arith;
  end = (refl, tt);
}

pub idle_batch : (r count : ℕ) (H : History) (M : List Moment) (next retries old new : ℕ) (items : List Item) (t : ℕ) →
    NoneOfAsked count next (now M) → Brings H (now (later M)) next items t → 0 < length items →
    items ≡ whole_reply r count H (now (later M)) true next →
    Collected (our_log r M H) (started_at count false next) 1 (losses_of retries old new) (yield items StepLimit) t ([] ∷ items ∷ [])
idle_batch r count H M next retries old new [] t none brings some whole = absurd (omega arith)
idle_batch r count H M next retries old new (x ∷ xs) t none brings some whole = record {
  all = append-nil (x ∷ xs);
  leads = (none, (t, brings, whole, refl));
  twice_steps = omega arith;
  twice_batches = omega arith;
  end = (refl, tt);
}

pub none_held : (r count : ℕ) (H : History) (M : List Moment) (next retries old new : ℕ) → (now M).newest < (now M).oldest →
    Collected (our_log r M H) (started_at count true next) 1 (losses_of retries old new) (yield [] CaughtUp) next ([] ∷ [])
none_held r count H M next retries old new none = record {
  all = refl;
  twice_steps = omega arith;
  twice_batches = omega arith;
  leads = (λ k low high held. omega (arith, held.0, held.1), refl);
  end = (omega arith, (0, omega arith, refl, (λ k low held. omega (arith, held.0, held.1)), λ f b. none));
}

pub none_left : (r count : ℕ) (H : History) (M : List Moment) (next retries old new : ℕ) → 0 < count → NoneOfAsked count next (now M) →
    Rises (now M) (now (later M)) →
    ((now (later M)).newest < (now (later M)).oldest) ⊎ ((now (later M)).oldest < next) →
    Collected (our_log r M H) (started_at count false next) 1 (losses_of retries old new) (yield [] CaughtUp) next ([] ∷ [] ∷ [])
none_left r count H M next retries old new some none rises (inl empty) = record {
  all = refl;
  twice_steps = omega arith;
  twice_batches = omega arith;
  leads = (none, (refl, refl, refl));
  end = (omega arith, (1, omega arith, refl, (λ k low held. omega (arith, held.0, held.1)), λ f b. absurd (cc)));
}
none_left r count H M next retries old new some none rises (inr past) = record {
  all = refl;
  twice_steps = omega arith;
  twice_batches = omega arith;
  leads = (none, (refl, refl, refl));
  end = (
    omega arith,
    (
      0,
      omega arith,
      refl,
      (λ k low held.
          none next (omega arith) (omega (arith, some)) (omega (arith, rises.oldest), omega (arith, held.1))),
      λ f b. absurd (cc),
    ),
  );
}

pub lost_first : (r count : ℕ) (H : History) (M : List Moment) (fresh : Bool) (next retries old new : ℕ) → RisesBy (retries + 1) old new →
    Collected (our_log r M H) (started_at count fresh next) 1 (losses_of retries old new) (yield [] (Fault Lost)) next []
lost_first r count H M true next retries old new rises = record {
  all = refl;
  twice_steps = omega arith;
  twice_batches = omega arith;
  leads = refl;
  end = rises;
}
lost_first r count H M false next retries old new rises = record {
  all = refl;
  twice_steps = omega arith;
  twice_batches = omega arith;
  leads = refl;
  end = rises;
}

pub lost_second : (r count : ℕ) (H : History) (M : List Moment) (next retries old mid new : ℕ) → NoneOfAsked count next (now M) →
    old ≤ mid → RisesBy (retries + 1) mid new →
    Collected (our_log r M H) (started_at count false next) 1 (losses_of retries old new) (yield [] (Fault Lost)) next ([] ∷ [])
lost_second r count H M next retries old mid new none first rises = record {
  all = refl;
  twice_steps = omega arith;
  twice_batches = omega arith;
  leads = (none, refl);
  end = omega arith;
}

-- what a step over a link of ours ensures
abbrev pub Stepped : (List Moment → Type 0) → (r count : ℕ) → History → List Moment → Bool → ℕ → ℕ → ℕ → ℕ → Result Progress WalkFault → WalkPlace → Type 0
Stepped stays r count H M fresh s retries old new p after =
    (answers : List (List Item)) × (t : ℕ) × (after.next ≡ sequence_number t)
    × Collected (our_log r M H) (started_at count fresh s) 1 (losses_of retries old new) (yield (step_items (finished p)) (step_ended (finished p))) t answers
    × stays (after_answers (length answers) M)
    × (after.fresh ≡ is_fresh_after fresh (finished p))

-- a step that its first answer ends
first_core : (stays : List Moment → Type 0) (r count : ℕ) (H : History) (M : List Moment) (log : Id) (next s : ℕ) (fresh : Bool) (retries old new : ℕ) (p : Result Progress WalkFault) (after : WalkPlace) →
    next ≡ sequence_number s →
    IsTurned stays (our_log r M H) s (record { log = log; next = next; fresh = fresh; asks_oldest = false; count = count }) (losses_of retries old new) p after →
    asks_next p ≡ false → Stepped stays r count H M fresh s retries old new p after
first_core stays r count H M log next s fresh retries old new (Ok (BatchOf b)) after is turned done = (
  _,
  turned.0.0,
  ap (λ (v : WalkPlace). v.next) turned.0.3,
  one_batch r count H M fresh s retries old new _ turned.0.0 turned.0.1 turned.0.2 turned.0.4,
  turned.1,
  ap (λ (v : WalkPlace). v.fresh) turned.0.3,
)
first_core stays r count H M log next s fresh retries old new (Ok AskOldest) after is turned done = absurd (cc)
first_core stays r count H M log next s true retries old new (Ok IsUp) after is turned done =
    elim turned.0.1 [
      | inl empty ↦ (_, s, ap (λ (v : WalkPlace). v.next) turned.0.2 ∙ is, none_held r count H M s retries old new empty, turned.1, ap (λ (v : WalkPlace). v.fresh) turned.0.2)
      | inr past ↦ absurd (let e = past.0 in cc)
    ]
first_core stays r count H M log next s false retries old new (Ok IsUp) after is turned done = absurd (let e = turned.0.0 in cc)
first_core stays r count H M log next s fresh retries old new (Err Lost) after is turned done =
    ([], s, ap (λ (v : WalkPlace). v.next) turned.2 ∙ is, lost_first r count H M fresh s retries old new turned.0, turned.1, ap (λ (v : WalkPlace). v.fresh) turned.2)
first_core stays r count H M log next s fresh retries old new (Err (Refused refusal)) after is turned done = absurd turned
first_core stays r count H M log next s fresh retries old new (Err BadReply) after is turned done = absurd turned

pub first_at : (stays : List Moment → Type 0) (r : ℕ) (H : History) (M : List Moment) (s : ℕ) (w v : WalkPlace) (retries old new : ℕ) (p : Result Progress WalkFault) (after : WalkPlace) →
    w.next ≡ sequence_number s → v ≡ record w { asks_oldest = false } → IsTurned stays (our_log r M H) s v (losses_of retries old new) p after → asks_next p ≡ false →
    Stepped stays r w.count H M w.fresh s retries old new p after
first_at stays r H M s w v retries old new p after next is turned done =
    let P : WalkPlace → Type 0 = λ u. IsTurned stays (our_log r M H) s u (losses_of retries old new) p after in
    first_core stays r w.count H M w.log w.next s w.fresh retries old new p after next (subst P is turned) done

-- a step of two answers, the first of which brought nothing
second_core : (stays : List Moment → Type 0) (r count : ℕ) (H : History) (M : List Moment) (log : Id) (next s : ℕ) (fresh : Bool) (retries old mid new : ℕ) (p : Result Progress WalkFault) (after : WalkPlace) →
    next ≡ sequence_number s → Rises (now M) (now (later M)) → (fresh || false) ≡ false → 0 < count → NoneOfAsked count s (now M) → old ≤ mid →
    IsTurned stays (our_log r (later M) H) s (record { log = log; next = next; fresh = fresh; asks_oldest = true; count = count }) (losses_of retries mid new) p after →
    Stepped stays r count H M fresh s retries old new p after
second_core stays r count H M log next s true retries old mid new p after is rises old_walk positive none up turned = absurd (cc)
second_core stays r count H M log next s false retries old mid new (Ok (BatchOf b)) after is rises old_walk positive none up turned = (
  _,
  turned.0.0,
  ap (λ (v : WalkPlace). v.next) turned.0.3,
  idle_batch r count H M s retries old new _ turned.0.0 none turned.0.1 turned.0.2 turned.0.4,
  turned.1,
  ap (λ (v : WalkPlace). v.fresh) turned.0.3,
)
second_core stays r count H M log next s false retries old mid new (Ok AskOldest) after is rises old_walk positive none up turned = absurd (let e = turned.0.0 in cc)
second_core stays r count H M log next s false retries old mid new (Ok IsUp) after is rises old_walk positive none up turned = (
  _,
  s,
  ap (λ (v : WalkPlace). v.next) turned.0.2 ∙ is,
  none_left r count H M s retries old new positive none rises (elim turned.0.1 [ inl empty ↦ inl empty | inr past ↦ inr past.1 ]),
  turned.1,
  ap (λ (v : WalkPlace). v.fresh) turned.0.2,
)
second_core stays r count H M log next s false retries old mid new (Err Lost) after is rises old_walk positive none up turned =
    (_, s, ap (λ (v : WalkPlace). v.next) turned.2 ∙ is, lost_second r count H M s retries old mid new none up turned.0, turned.1, ap (λ (v : WalkPlace). v.fresh) turned.2)
second_core stays r count H M log next s false retries old mid new (Err (Refused refusal)) after is rises old_walk positive none up turned = absurd turned
second_core stays r count H M log next s false retries old mid new (Err BadReply) after is rises old_walk positive none up turned = absurd turned

-- asked on, the first answer having brought nothing
asked_on : (stays : List Moment → Type 0) (r : ℕ) (H : History) (M : List Moment) (s : ℕ) (w : WalkPlace) (retries old new : ℕ) (p : Result Progress WalkFault) (after : WalkPlace) →
    IsTurned stays (our_log r M H) s w (losses_of retries old new) p after → asks_next p ≡ true →
    (asks_oldest_now w ≡ false) × NoneOfAsked w.count s (now M) × (after ≡ record w { asks_oldest = true }) × stays (later M)
asked_on stays r H M s w retries old new (Ok AskOldest) after turned asks = (turned.0.0, turned.0.1, turned.0.2, turned.1)
asked_on stays r H M s w retries old new (Ok IsUp) after turned asks = absurd (cc)
asked_on stays r H M s w retries old new (Ok (BatchOf b)) after turned asks = absurd (cc)
asked_on stays r H M s w retries old new (Err e) after turned asks = absurd (cc)

-- the first answer of a step of two
pub asked : (stays : List Moment → Type 0) (r : ℕ) (H : History) (M : List Moment) (s : ℕ) (w v : WalkPlace) (retries old new : ℕ) (p : Result Progress WalkFault) (after : WalkPlace) →
    v ≡ record w { asks_oldest = false } → IsTurned stays (our_log r M H) s v (losses_of retries old new) p after → asks_next p ≡ true →
    ((w.fresh || false) ≡ false) × NoneOfAsked w.count s (now M) × (after ≡ record w { asks_oldest = true }) × stays (later M)
asked stays r H M s w v retries old new p after is turned asks =
    let P : WalkPlace → Type 0 = λ u. IsTurned stays (our_log r M H) s u (losses_of retries old new) p after in
    asked_on stays r H M s (record w { asks_oldest = false }) retries old new p after (subst P is turned) asks

pub second_at : (stays : List Moment → Type 0) (r : ℕ) (H : History) (M : List Moment) (s : ℕ) (w v : WalkPlace) (retries old mid new : ℕ) (p : Result Progress WalkFault) (after : WalkPlace) →
    w.next ≡ sequence_number s → AreServed r M H → (w.fresh || false) ≡ false → 0 < w.count → NoneOfAsked w.count s (now M) → old ≤ mid →
    v ≡ record w { asks_oldest = true } → IsTurned stays (our_log r (later M) H) s v (losses_of retries mid new) p after →
    Stepped stays r w.count H M w.fresh s retries old new p after
second_at stays r H M s w v retries old mid new p after next served old_walk positive none up is turned =
    let P : WalkPlace → Type 0 = λ u. IsTurned stays (our_log r (later M) H) s u (losses_of retries mid new) p after in
    second_core stays r w.count H M w.log w.next s w.fresh retries old mid new p after next (Rises-later r M H served) old_walk positive none up (subst P is turned)
