-- Where a run may bring a walk, and how near to its log it stays.
use Rattle.std.proofs.Common.{◌≡◌, ℕ, zero, suc, Bool, true, false, ◌+◌, ◌<◌, ◌≤◌, List, [], ◌∷◌, ◌++◌, length, refl, sym, ap, subst, ◌∙◌, arith, length-append}
use Rattle.bac_link.specs.declared.item.Item.{Item}
use Rattle.bac_link.specs.declared.item.Item.TheVariants.{Gap, Logged}
use Rattle.bac_link.specs.Delivery.{History, Moment, now, later, Brings, Leads}
use Rattle.bac_link.specs.Laws.{after_answers}
use Rattle.bac_link.specs.Moments.{AreServed}
use Rattle.bac_link.proofs.Delivers.{after_one, held_end, first_held}
use Rattle.bac_walk.specs.declared.outcome.Ended.TheVariants.{StepLimit}
use Rattle.bac_walk.specs.Collects.{batches, start_of, Collected, IsFreshAfter, our_log, started_at, losses_of, yield}
use Rattle.bac_link.specs.Moments.{IsInWindow, AreInWindow}
use Rattle.bac_walk.specs.Near.{IsNear, IsNearStep, StaysNear}
use Rattle.bac_walk.proofs.Headline.{leads}
use Rattle.bac_walk.proofs.Held.{Sound, AllSound, all_sound}
use Rattle.bac_walk.proofs.Joins.{after_answers-add, at_limit, batches-append, join, no_steps}

-- ---- fewer steps, the first, and one more

pub fewer_steps : (r count : ℕ) (H : History) (M : List Moment) (fresh : Bool) (s i n : ℕ) → i ≤ n → StaysNear r count H M fresh s n → StaysNear r count H M fresh s i
fewer_steps r count H M fresh s i n le near = λ j retries old new t items answers lt run not_fresh.
    near j retries old new t items answers (omega (arith, lt, le)) run not_fresh

pub at_once : (r count : ℕ) (H : History) (M : List Moment) (fresh : Bool) (s steps retries old : ℕ) → 0 < steps → StaysNear r count H M fresh s steps → fresh ≡ false → IsNearStep count s M
at_once r count H M fresh s steps retries old some near not_fresh = near 0 retries old old s [] [] some (no_steps r count H M fresh s retries old) (λ none. not_fresh)

pub next_steps : (r count : ℕ) (H : History) (M : List Moment) (fresh mid_fresh : Bool) (s i j retries old mid t : ℕ) (items : List Item) (answers : List (List Item)) →
    StaysNear r count H M fresh s (i + j) → Collected (our_log r M H) (started_at count fresh s) i (losses_of retries old mid) (yield items StepLimit) t answers → IsFreshAfter fresh answers mid_fresh →
    StaysNear r count H (after_answers (length answers) M) mid_fresh t j
next_steps r count H M fresh mid_fresh s i j retries old mid t items answers near run left = λ k tries was is u more others lt rest not_fresh.
    let N : List Moment = after_answers (length answers) M in
    let first = at_limit r count H M fresh s i retries old mid 0 0 0 items t answers run in
    let second = at_limit r count H N mid_fresh t k tries was is 0 0 0 more u others rest in
    let both = join r count H M fresh mid_fresh s i k 0 0 0 0 items more t u StepLimit answers others first left second (omega arith) in
    let place : after_answers (length (answers ++ others)) M ≡ after_answers (length others) N =
    ap (λ n. after_answers n M) (length-append answers others) ∙ after_answers-add (length answers) (length others) M in
    let P : List Moment → Type 0 = λ l. IsNearStep count u l in
    subst P place (near (i + k) 0 0 0 u (items ++ more) (answers ++ others) (omega (arith, lt)) both
    (λ none. sym (left.none (omega (arith, batches-append answers others, none))) ∙ not_fresh (omega (arith, batches-append answers others, none))))

pub next_step : (r count : ℕ) (H : History) (M : List Moment) (fresh mid_fresh : Bool) (s i retries old mid t : ℕ) (items : List Item) (answers : List (List Item)) →
    StaysNear r count H M fresh s (i + 1) → Collected (our_log r M H) (started_at count fresh s) i (losses_of retries old mid) (yield items StepLimit) t answers → IsFreshAfter fresh answers mid_fresh →
    StaysNear r count H (after_answers (length answers) M) mid_fresh t 1
next_step r count H M fresh mid_fresh s i retries old mid t items answers near run left = next_steps r count H M fresh mid_fresh s i 1 retries old mid t items answers near run left

-- ---- what an answer brings

-- a batch brings a walk into what is held, or right after it
pub brings_end : (H : History) (m : Moment) (s u : ℕ) (x : Item) (items : List Item) → Brings H m s (x ∷ items) u → (m.oldest ≤ u) × (u ≤ m.newest + 1)
brings_end H m s u (Gap f b) items brings =
    let first = first_held H m m.oldest u items brings.3 brings.4 in
    held_end H m m.oldest u items brings.4 (omega (arith, first.1))
brings_end H m s u (Logged k e) items brings =
    let rest = held_end H m s u (Logged k e ∷ items) brings (omega (arith, brings.1.1)) in (omega (arith, brings.1.0, rest.0), rest.1)

-- ---- one moment

near_within : (H : History) (m : Moment) (t : ℕ) → Sound H m → m.oldest ≤ t → t ≤ m.newest + 1 → IsNear t m
near_within H m t sound low high = record { above = omega (arith, low); below = omega (arith, high, sound.few) }

stays_within : (H : History) (m : Moment) (s t : ℕ) (answers : List (List Item)) → Leads H (m ∷ []) s answers t → m.oldest ≤ s → s ≤ m.newest + 1 →
    (m.oldest ≤ t) × (t ≤ m.newest + 1)
stays_within H m s t [] goes low high = (omega (arith, goes, low), omega (arith, goes, high))
stays_within H m s t ([] ∷ answers) goes low high = stays_within H m goes.0 t answers goes.2 (omega (arith, goes.1, low)) (omega (arith, goes.1, high))
stays_within H m s t ((x ∷ xs) ∷ answers) goes low high =
    let one = brings_end H m s goes.0 x xs goes.1 in stays_within H m goes.0 t answers goes.2 one.0 one.1

-- near where it began, a walk stays near
rest_at : (H : History) (m : Moment) (s t : ℕ) (answers : List (List Item)) → Sound H m → (batches answers ≡ 0 → IsNear s m) → Leads H (m ∷ []) s answers t → IsNear t m
rest_at H m s t [] sound near goes = let P : ℕ → Type 0 = λ n. IsNear n m in subst P (sym goes) (near refl)
rest_at H m s t ([] ∷ answers) sound near goes =
    let P : ℕ → Type 0 = λ n. IsNear n m in
    rest_at H m goes.0 t answers sound (λ none. subst P (sym goes.1) (near none)) goes.2
rest_at H m s t ((x ∷ xs) ∷ answers) sound near goes =
    let one = brings_end H m s goes.0 x xs goes.1 in
    let all = stays_within H m goes.0 t answers goes.2 one.0 one.1 in
    near_within H m t sound all.0 all.1

pub rest_near : (r count : ℕ) (H : History) (m : Moment) (fresh : Bool) (s steps : ℕ) → AreServed r (m ∷ []) H → (fresh ≡ false → IsNear s m) → StaysNear r count H (m ∷ []) fresh s steps
rest_near r count H m fresh s steps served near = λ i retries old new t items answers lt run not_fresh.
    let P : List Moment → Type 0 = λ N. IsNearStep count t N in
    let close : IsNear t m = rest_at H m (start_of fresh s (m ∷ []) answers) t answers (all_sound r (m ∷ []) H served).0
    (λ none. begins fresh (near (not_fresh none)) (not_fresh none) answers) (leads StepLimit r count H (m ∷ []) false _ t answers run.leads) in
    subst P (sym (after_one (length answers) m)) (close, λ none. close)
  where
    begins : (b : Bool) → IsNear s m → b ≡ false → (answers : List (List Item)) → IsNear (start_of b s (m ∷ []) answers) m
    begins true here is answers = absurd (cc)
    begins false here is answers = here

-- ---- a window

-- moments of one log, all in the window
pub record Windowed (H : History) (low : ℕ) (M : List Moment) : Type 0 where
  pub some : 0 < length M
  pub sound : AllSound H M
  pub within : AreInWindow low M

windowed_now : (H : History) (low : ℕ) (M : List Moment) → Windowed H low M → Sound H (now M) × IsInWindow low (now M)
windowed_now H low [] w = absurd (omega (arith, w.some))
windowed_now H low (m ∷ M) w = (w.sound.0, w.within.0)

windowed_later : (H : History) (low : ℕ) (M : List Moment) → Windowed H low M → Windowed H low (later M)
windowed_later H low [] w = w
windowed_later H low (m ∷ []) w = w
windowed_later H low (m ∷ n ∷ M) w = record { some = omega arith; sound = w.sound.1; within = w.within.1 }

windowed_after : (H : History) (low count : ℕ) (M : List Moment) → Windowed H low M → Windowed H low (after_answers count M)
windowed_after H low zero M w = w
windowed_after H low (suc count) M w = windowed_after H low count (later M) (windowed_later H low M w)

leads_within : (H : History) (low : ℕ) (M : List Moment) (s t : ℕ) (answers : List (List Item)) → Windowed H low M → low ≤ s → s < low + 2147483648 →
    Leads H M s answers t → (low ≤ t) × (t < low + 2147483648)
leads_within H low M s t [] w above below goes = (omega (arith, goes, above), omega (arith, goes, below))
leads_within H low M s t ([] ∷ answers) w above below goes =
    leads_within H low (later M) goes.0 t answers (windowed_later H low M w) (omega (arith, goes.1, above)) (omega (arith, goes.1, below)) goes.2
leads_within H low M s t ((x ∷ xs) ∷ answers) w above below goes =
    let one = brings_end H (now M) s goes.0 x xs goes.1 in
    let here = (windowed_now H low M w).1 in
    leads_within H low (later M) goes.0 t answers (windowed_later H low M w) (omega (arith, one.0, here.oldest)) (omega (arith, one.1, here.newest)) goes.2

near_in : (H : History) (low t : ℕ) (m : Moment) → Sound H m × IsInWindow low m → low ≤ t → t < low + 2147483648 → IsNear t m
near_in H low t m w above below = record { above = omega (arith, w.1.newest, w.0.close, above); below = omega (arith, w.1.oldest, below) }

pub windowed : (r : ℕ) (H : History) (M : List Moment) (low : ℕ) → AreServed r M H → AreInWindow low M → Windowed H low M
windowed r H M low served are = record { some = served.some; sound = all_sound r M H served; within = are }

-- a run begins in the window, one from the oldest entry by its first batch
start_in : (H : History) (low : ℕ) (M : List Moment) (fresh : Bool) (s : ℕ) (answers : List (List Item)) → Windowed H low M →
    (fresh ≡ false → (low ≤ s) × (s < low + 2147483648)) → (batches answers ≡ 0 → fresh ≡ false) →
    (low ≤ start_of fresh s M answers) × (start_of fresh s M answers < low + 2147483648)
start_in H low M false s answers w at old = at refl
start_in H low M true s [] w at old = at (old refl)
start_in H low M true s ([] ∷ answers) w at old = start_in H low (later M) true s answers (windowed_later H low M w) at old
start_in H low M true s ((x ∷ xs) ∷ answers) w at old =
    let here = windowed_now H low M w in (here.1.oldest, omega (arith, here.1.newest, here.0.close))

pub windows_near : (r count : ℕ) (H : History) (M : List Moment) (low s steps : ℕ) (fresh : Bool) → AreServed r M H → AreInWindow low M →
    (fresh ≡ false → (low ≤ s) × (s < low + 2147483648)) → StaysNear r count H M fresh s steps
windows_near r count H M low s steps fresh served are at = λ i retries old new t items answers lt run not_fresh.
    let w = windowed r H M low served are in
    let begins = start_in H low M fresh s answers w at not_fresh in
    let place = leads_within H low M (start_of fresh s M answers) t answers w begins.0 begins.1 (leads StepLimit r count H M false _ t answers run.leads) in
    let N : List Moment = after_answers (length answers) M in
    let v = windowed_after H low (length answers) M w in (
      near_in H low t (now N) (windowed_now H low N v) place.0 place.1,
      λ none. near_in H low t (now (later N)) (windowed_now H low (later N) (windowed_later H low N v)) place.0 place.1,
    )

-- where answers led a walk, the moments that are left are in the window too
pub stays_in : (r : ℕ) (H : History) (M : List Moment) (low s t : ℕ) (answers : List (List Item)) → AreServed r M H → AreInWindow low M → low ≤ s → s < low + 2147483648 →
    Leads H M s answers t → (low ≤ t) × (t < low + 2147483648) × AreInWindow low (after_answers (length answers) M)
stays_in r H M low s t answers served are above below goes =
    let w = windowed r H M low served are in
    let place = leads_within H low M s t answers w above below goes in
    (place.0, place.1, (windowed_after H low (length answers) M w).within)
