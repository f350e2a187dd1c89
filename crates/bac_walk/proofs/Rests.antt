-- A run over one moment is a walk over a log that doesn't change.
use Rattle.std.proofs.Common.{◌≡◌, ◌≢◌, ℕ, zero, suc, Bool, true, false, ◌+◌, ◌<◌, ◌≤◌, ◌-◌, min, max, drop, length-take, nat_le, nat_lt, if◌then◌else◌, Result, Ok, Err, List, [], ◌∷◌, ◌++◌, length, refl, sym, ap, subst, ◌∙◌, arith}
use Rattle.std.proofs.lemmas.Bool.{leb-false, ltb-false, lt-leb, lt-ltb, le-ltb}
use Rattle.bac_link.specs.declared.item.Item.{Item}
use Rattle.bac_link.specs.declared.item.Item.TheVariants.{Gap, Logged}
use Rattle.bac_walk.specs.declared.outcome.Ended.{Ended}
use Rattle.bac_walk.specs.declared.outcome.Ended.TheVariants.{CaughtUp, StepLimit, Stopped, Fault}
use Rattle.bac_walk.specs.declared.outcome.WalkFault.{WalkFault}
use Rattle.bac_walk.specs.declared.outcome.WalkFault.TheVariants.{Lost, Refused, BadReply}
use Rattle.bac_log.specs.TrendLog.{sequence_number}
use Rattle.bac_link.specs.Delivery.{History, Moment, Holds, now, later, items_of, Brings}
use Rattle.bac_link.specs.Moments.{entries_from}
use Rattle.bac_link.proofs.Delivers.{after_one, held_length, first_held}
use Rattle.bac_walk.specs.Turns.{NoneOfAsked, whole_reply, reply_count}
use Rattle.bac_walk.specs.Delivers.{NoneFrom}
use Rattle.bac_walk.specs.Walks.{items_in, logged_from}
use Rattle.bac_log.specs.declared.entry.Entry.{Entry}
use Rattle.bac_walk.specs.declared.outcome.Step.{Step}
use Rattle.bac_walk.specs.declared.outcome.Step.TheVariants.{Batch as StepOf, CaughtUp as NoStep}
use Rattle.bac_walk.specs.Collects.{Collected, IsEnded, FoundEnd, FoundStep, step_items, step_ended, batches, IsWhole, IsOfReply, LeadsInSteps, start_of, our_log, started_at, losses_of, yield}
use Rattle.bac_walk.proofs.Bridge.{fitting_most}
use Rattle.bac_walk.proofs.Shown.{length-logged_from}
use Rattle.bac_walk.specs.Rests.{Rested, rest_from, rest_oldest, rest, IsRest}

-- the first entry of a batch is held
batch_held : (H : History) (m : Moment) (s u : ℕ) (items : List Item) → 0 < length items → Brings H m s items u → Holds m (max s m.oldest)
batch_held H m s u [] some brings = absurd (omega arith)
batch_held H m s u (Gap f b ∷ items) some brings =
    let held = first_held H m m.oldest u items brings.3 brings.4 in (omega arith, omega (arith, held.1, brings.1))
batch_held H m s u (Logged n e ∷ items) some brings = (omega arith, omega (arith, brings.1.0, brings.1.1))

-- as many entries as fit are there
entries_all : (H : History) (f c n : ℕ) → c ≤ length (entries_from H f n) → length (entries_from H f c) ≡ c
entries_all H f c n le =
    let xs = drop (f - (H.logged + 1)) H.entries in omega (arith, le, length-take c xs, length-take n xs)

logged_end : (H : History) (m : Moment) (s u k : ℕ) (es : List Entry) → Brings H m s (logged_from k es) u → u ≡ s + length es
logged_end H m s u k [] brings = omega (arith, brings)
logged_end H m s u k (e ∷ es) brings = omega (arith, held_length H m s u (logged_from k (e ∷ es)) brings, length-logged_from k (e ∷ es))

-- where entries bring a walk, with the gap before them
reply_end : (H : History) (m : Moment) (s u : ℕ) (es : List Entry) (lt : Bool) → nat_lt s m.oldest ≡ lt →
    Brings H m s ((if lt then Gap (sequence_number s) (sequence_number m.oldest) ∷ [] else []) ++ logged_from (max s m.oldest) es) u →
    0 < length ((if lt then Gap (sequence_number s) (sequence_number m.oldest) ∷ [] else []) ++ logged_from (max s m.oldest) es) →
    (0 < length es) × (u ≡ max s m.oldest + length es)
reply_end H m s u es true is brings some =
    let many = length-logged_from (max s m.oldest) es in
    (omega (arith, brings.3, many), omega (arith, brings.1, held_length H m m.oldest u (logged_from (max s m.oldest) es) brings.4, many))
reply_end H m s u es false is brings some =
    let ge : m.oldest ≤ s = ltb-false s m.oldest is in
    (omega (arith, some, length-logged_from (max s m.oldest) es), omega (arith, logged_end H m s u (max s m.oldest) es brings, ge))

-- where a whole reply brings it, and that it has an entry
whole_end : (r count : ℕ) (H : History) (m : Moment) (by_oldest : Bool) (s u : ℕ) (items : List Item) → 0 < length items → Brings H m s items u →
    items ≡ whole_reply r count H m by_oldest s → (0 < reply_count r count H m by_oldest s) × (u ≡ max s m.oldest + reply_count r count H m by_oldest s)
whole_end r count H m by_oldest s u items some brings is =
    let f = max s m.oldest in
    let c = reply_count r count H m by_oldest s in
    let n = min ((if by_oldest then max s m.oldest else s) + count) (m.newest + 1) - max s m.oldest in
    let all : length (entries_from H f c) ≡ c = entries_all H f c n (fitting_most r f (entries_from H f n)) in
    let P : List Item → Type 0 = λ xs. Brings H m s xs u × (0 < length xs) in
    let both = subst P is (brings, some) in
    let end = reply_end H m s u (entries_from H f c) (nat_lt s m.oldest) refl both.0 both.1 in
    (omega (arith, end.0, all), omega (arith, end.1, all))

count_most : (r count : ℕ) (H : History) (m : Moment) (by_oldest : Bool) (s : ℕ) →
    reply_count r count H m by_oldest s ≤ min ((if by_oldest then max s m.oldest else s) + count) (m.newest + 1) - max s m.oldest
count_most r count H m by_oldest s =
    let c = min ((if by_oldest then max s m.oldest else s) + count) (m.newest + 1) - max s m.oldest in
    omega (arith, fitting_most r (max s m.oldest) (entries_from H (max s m.oldest) c), length-take c (drop (max s m.oldest - (H.logged + 1)) H.entries))

-- a batch that the question by number brought, and one that the question for the oldest brought
near_first : (r count : ℕ) (H : History) (m : Moment) (s u : ℕ) (items : List Item) → 0 < length items → Brings H m s items u →
    items ≡ whole_reply r count H m false s → nat_le (s + count) (max s m.oldest) ≡ false
near_first r count H m s u items some brings is =
    lt-leb (s + count) (max s m.oldest) (omega (arith, (whole_end r count H m false s u items some brings is).0, count_most r count H m false s))

far_first : (count : ℕ) (H : History) (m : Moment) (s u : ℕ) (items : List Item) → 0 < length items → Brings H m s items u → NoneOfAsked count s m →
    (b : Bool) → nat_le (s + count) (max s m.oldest) ≡ b → b ≡ true
far_first count H m s u items some brings none true is = refl
far_first count H m s u items some brings none false is =
    let lt : max s m.oldest < s + count = leb-false _ _ is in
    absurd (none (max s m.oldest) (omega arith) lt (batch_held H m s u items some brings))

-- one step of a walk over one moment
rest_step : (r count : ℕ) (H : History) (m : Moment) (s u n : ℕ) (batch more : List Item) (t : ℕ) (why : Ended) (b : Bool) →
    0 < length batch → Brings H m s batch u → nat_le (s + count) (max s m.oldest) ≡ b → batch ≡ whole_reply r count H m b s →
    record { items = more; next = t; ended = why } ≡ rest_from r count H m u n →
    record { items = batch ++ more; next = t; ended = why } ≡ rest_from r count H m s (suc n)
rest_step r count H m s u n batch more t why b some brings far whole rest =
    let held : nat_lt m.newest (max s m.oldest) ≡ false = le-ltb m.newest (max s m.oldest) (batch_held H m s u batch some brings).1 in
    let end : u ≡ max s m.oldest + reply_count r count H m b s = (whole_end r count H m b s u batch some brings whole).1 in
    let after : ℕ → List Item → Rested = λ k xs. (let next = rest_from r count H m k n in record { items = xs ++ next.items; next = next.next; ended = next.ended }) in
    let one : record { items = batch ++ more; next = t; ended = why } ≡ after u batch =
    ap (λ (x : Rested). record { items = batch ++ x.items; next = x.next; ended = x.ended }) rest in
    let two : after u batch ≡ after (max s m.oldest + reply_count r count H m b s) (whole_reply r count H m b s) = ap (λ k. after k batch) end ∙ ap (after _) whole in
    let by : Bool → Rested = λ c. after (max s m.oldest + reply_count r count H m c s) (whole_reply r count H m c s) in
    one ∙ two ∙ ap by (sym far) ∙ rw held refl

-- nothing is left
rest_end : (r count : ℕ) (H : History) (m : Moment) (s n : ℕ) (b : Bool) → nat_lt m.newest (max s m.oldest) ≡ b → NoneFrom s m →
    record { items = []; next = s; ended = CaughtUp } ≡ rest_from r count H m s (suc n)
rest_end r count H m s n true is none = rw is refl
rest_end r count H m s n false is none =
    let le : max s m.oldest ≤ m.newest = ltb-false _ _ is in
    absurd (none (max s m.oldest) (omega arith) (omega arith, le))

-- how a run over one moment may end
abbrev pub Ends : Ended → Moment → ℕ → List (List Item) → ℕ → Type 0
Ends CaughtUp m t answers steps = (batches answers < steps) × NoneFrom t m
Ends StepLimit m t answers steps = (batches answers ≡ steps) × IsWhole answers
Ends (Fault e) m t answers steps = ⊥
Ends Stopped m t answers steps = ⊥

stops_at : (r count : ℕ) (H : History) (m : Moment) (s steps : ℕ) (why : Ended) → Ends why m s [] steps →
    record { items = []; next = s; ended = why } ≡ rest_from r count H m s steps
stops_at r count H m s zero CaughtUp ends = absurd (omega (arith, ends.0))
stops_at r count H m s (suc n) CaughtUp ends = rest_end r count H m s n _ refl ends.1
stops_at r count H m s zero StepLimit ends = refl
stops_at r count H m s (suc n) StepLimit ends = absurd (omega (arith, ends.0))
stops_at r count H m s steps (Fault e) ends = absurd ends
stops_at r count H m s steps Stopped ends = absurd ends

stops : (r count : ℕ) (H : History) (m : Moment) (s t steps : ℕ) (why : Ended) → t ≡ s → Ends why m t [] steps →
    record { items = []; next = t; ended = why } ≡ rest_from r count H m s steps
stops r count H m s t steps why is ends =
    let P : ℕ → Type 0 = λ n. Ends why m n [] steps in
    ap (λ (n : ℕ). record { items = []; next = n; ended = why }) is ∙ stops_at r count H m s steps why (subst P is ends)

-- the ends of a run whose first answers are left out
ends_more : (why : Ended) (m : Moment) (t n : ℕ) (x : Item) (xs : List Item) (answers : List (List Item)) →
    Ends why m t ((x ∷ xs) ∷ answers) (suc n) → Ends why m t answers n
ends_more CaughtUp m t n x xs answers ends = (omega (arith, ends.0), ends.1)
ends_more StepLimit m t n x xs answers ends = (omega (arith, ends.0), ends.1)
ends_more (Fault e) m t n x xs answers ends = absurd ends
ends_more Stopped m t n x xs answers ends = absurd ends

ends_idle : (why : Ended) (m : Moment) (t n : ℕ) (x : Item) (xs : List Item) (answers : List (List Item)) →
    Ends why m t ([] ∷ (x ∷ xs) ∷ answers) (suc n) → Ends why m t answers n
ends_idle CaughtUp m t n x xs answers ends = (omega (arith, ends.0), ends.1)
ends_idle StepLimit m t n x xs answers ends = (omega (arith, ends.0), ends.1)
ends_idle (Fault e) m t n x xs answers ends = absurd ends
ends_idle Stopped m t n x xs answers ends = absurd ends

ends_none : (why : Ended) (m : Moment) (t steps : ℕ) → Ends why m t ([] ∷ []) steps → Ends why m t [] steps
ends_none CaughtUp m t steps ends = ends
ends_none StepLimit m t steps ends = absurd ends.1
ends_none (Fault e) m t steps ends = absurd ends
ends_none Stopped m t steps ends = absurd ends

ends_two : (why : Ended) (m : Moment) (t steps : ℕ) (answers : List (List Item)) → answers ≡ [] → Ends why m t ([] ∷ [] ∷ answers) steps → Ends why m t [] steps
ends_two CaughtUp m t steps [] is ends = ends
ends_two CaughtUp m t steps (x ∷ xs) is ends = absurd (cc)
ends_two StepLimit m t steps answers is ends = absurd ends.1
ends_two (Fault e) m t steps answers is ends = absurd ends
ends_two Stopped m t steps answers is ends = absurd ends

some_step : (why : Ended) (m : Moment) (t : ℕ) (answers : List (List Item)) → 0 < batches answers → Ends why m t answers zero → ⊥
some_step CaughtUp m t answers some ends = omega (arith, ends.0)
some_step StepLimit m t answers some ends = omega (arith, some, ends.0)
some_step (Fault e) m t answers some ends = ends
some_step Stopped m t answers some ends = ends

-- a batch of a run that wasn't stopped is the whole of a reply
whole_head : (why : Ended) (m : Moment) (t steps : ℕ) (answers all : List (List Item)) (items reply : List Item) →
    Ends why m t all steps → IsOfReply answers why items reply → items ≡ reply
whole_head why m t steps (y ∷ answers) all items reply ends is = is
whole_head CaughtUp m t steps [] all items reply ends is = is
whole_head StepLimit m t steps [] all items reply ends is = is
whole_head Stopped m t steps [] all items reply ends is = absurd ends
whole_head (Fault e) m t steps [] all items reply ends is = absurd ends

pub rests : (r count : ℕ) (H : History) (m : Moment) (why : Ended) (s t steps : ℕ) (answers : List (List Item)) →
    LeadsInSteps why (our_log r (m ∷ []) H) count false s answers t → Ends why m t answers steps →
    record { items = items_of answers; next = t; ended = why } ≡ rest_from r count H m s steps
rests r count H m why s t steps [] leads ends = stops r count H m s t steps why leads ends
rests r count H m why s t steps ([] ∷ []) leads ends = stops r count H m s t steps why leads.1 (ends_none why m t steps ends)
rests r count H m why s t steps ([] ∷ [] ∷ []) leads ends = stops r count H m s t steps why leads.1.2 (ends_two why m t steps [] refl ends)
rests r count H m why s t steps ([] ∷ [] ∷ a ∷ answers) leads ends = absurd (let e = leads.1.0 in cc)
rests r count H m why s t zero ([] ∷ (x ∷ xs) ∷ answers) leads ends = absurd (some_step why m t ([] ∷ (x ∷ xs) ∷ answers) (omega arith) ends)
rests r count H m why s t (suc n) ([] ∷ (x ∷ xs) ∷ answers) leads ends =
    let u = leads.1.0 in
    let brings = leads.1.1 in
    let whole = whole_head why m t (suc n) answers ([] ∷ (x ∷ xs) ∷ answers) (x ∷ xs) _ ends leads.1.2 in
    rest_step r count H m s u n (x ∷ xs) (items_of answers) t why true (omega arith) brings
    (far_first count H m s u (x ∷ xs) (omega arith) brings leads.0 _ refl) whole (rests r count H m why u t n answers leads.1.3 (ends_idle why m t n x xs answers ends))
rests r count H m why s t zero ((x ∷ xs) ∷ answers) leads ends = absurd (some_step why m t ((x ∷ xs) ∷ answers) (omega arith) ends)
rests r count H m why s t (suc n) ((x ∷ xs) ∷ answers) leads ends =
    let u = leads.0 in
    let brings = leads.1 in
    let whole = whole_head why m t (suc n) answers ((x ∷ xs) ∷ answers) (x ∷ xs) _ ends leads.2 in
    rest_step r count H m s u n (x ∷ xs) (items_of answers) t why false (omega arith) brings
    (near_first r count H m s u (x ∷ xs) (omega arith) brings whole) whole (rests r count H m why u t n answers leads.3 (ends_more why m t n x xs answers ends))

ends_of : (why : Ended) (m : Moment) (fresh : Bool) (t : ℕ) (answers : List (List Item)) (steps retries old new : ℕ) → FoundEnd why → why ≢ Stopped →
    IsEnded why fresh t (m ∷ []) answers steps (losses_of retries old new) → Ends why m t answers steps
ends_of CaughtUp m fresh t answers steps retries old new found on end =
    let P : List Moment → Type 0 = λ N. NoneFrom t (now N) in
    (end.0, subst P (after_one end.1.0 m) end.1.3)
ends_of StepLimit m fresh t answers steps retries old new found on end = end
ends_of Stopped m fresh t answers steps retries old new found on end = absurd (on refl)
ends_of (Fault Lost) m fresh t answers steps retries old new found on end = absurd found
ends_of (Fault (Refused refusal)) m fresh t answers steps retries old new found on end = absurd end
ends_of (Fault BadReply) m fresh t answers steps retries old new found on end = absurd end

-- from an ordinal
rest_at : (r count : ℕ) (H : History) (m : Moment) (s steps : ℕ) (items : List Item) (t shown : ℕ) (why : Ended) (answers : List (List Item)) →
    items_of answers ≡ items → LeadsInSteps why (our_log r (m ∷ []) H) count false s answers t → Ends why m t answers steps → shown ≡ sequence_number t →
    IsRest (rest_from r count H m s steps) items shown why
rest_at r count H m s steps items t shown why answers all leads ends is =
    let eq = rests r count H m why s t steps answers leads ends in
    (sym all ∙ ap (λ (x : Rested). x.items) eq, is ∙ ap sequence_number (ap (λ (x : Rested). x.next) eq), ap (λ (x : Rested). x.ended) eq)

-- where a walk from the oldest entry begins
start_none : (next : ℕ) (M : List Moment) (answers : List (List Item)) → batches answers ≡ 0 → start_of true next M answers ≡ next
start_none next M [] none = refl
start_none next M ([] ∷ answers) none = start_none next (later M) answers none
start_none next M ((x ∷ xs) ∷ answers) none = absurd (omega (arith, none))

start_some : (next : ℕ) (m : Moment) (answers : List (List Item)) → 0 < batches answers → start_of true next (m ∷ []) answers ≡ m.oldest
start_some next m [] some = absurd (omega arith)
start_some next m ([] ∷ answers) some = start_some next m answers some
start_some next m ((x ∷ xs) ∷ answers) some = refl

some_held : (why : Ended) (r count : ℕ) (H : History) (m : Moment) (by_oldest : Bool) (s t : ℕ) (answers : List (List Item)) → 0 < batches answers →
    LeadsInSteps why (our_log r (m ∷ []) H) count by_oldest s answers t → m.oldest ≤ m.newest
some_held why r count H m by_oldest s t [] some leads = absurd (omega arith)
some_held why r count H m false s t ([] ∷ answers) some leads = some_held why r count H m true s t answers some leads.1
some_held why r count H m true s t ([] ∷ answers) some leads = absurd (omega (arith, some, ap batches leads.0))
some_held why r count H m by_oldest s t ((x ∷ xs) ∷ answers) some leads =
    let held = batch_held H m s leads.0 (x ∷ xs) (omega arith) leads.1 in omega (arith, held.0, held.1)

idle_stays : (why : Ended) (r count : ℕ) (H : History) (M : List Moment) (by_oldest : Bool) (s t : ℕ) (answers : List (List Item)) → batches answers ≡ 0 →
    LeadsInSteps why (our_log r M H) count by_oldest s answers t → t ≡ s
idle_stays why r count H M by_oldest s t [] none leads = leads
idle_stays why r count H M false s t ([] ∷ answers) none leads = idle_stays why r count H (later M) true s t answers none leads.1
idle_stays why r count H M true s t ([] ∷ answers) none leads = leads.2
idle_stays why r count H M by_oldest s t ((x ∷ xs) ∷ answers) none leads = absurd (omega (arith, none))

no_items_of : (answers : List (List Item)) → batches answers ≡ 0 → items_of answers ≡ []
no_items_of [] none = refl
no_items_of ([] ∷ answers) none = no_items_of answers none
no_items_of ((x ∷ xs) ∷ answers) none = absurd (omega (arith, none))

rest_some : (r count : ℕ) (H : History) (m : Moment) (s steps : ℕ) → 0 < steps → m.oldest ≤ m.newest → rest_from r count H m m.oldest steps ≡ rest_oldest r count H m s steps
rest_some r count H m s zero some held = absurd (omega arith)
rest_some r count H m s (suc n) some held = let no : nat_lt m.newest m.oldest ≡ false = le-ltb m.newest m.oldest held in rw no refl

idle_oldest : (r count : ℕ) (H : History) (m : Moment) (s steps t shown retries old new : ℕ) (why : Ended) (answers : List (List Item)) → FoundEnd why → why ≢ Stopped →
    batches answers ≡ 0 → t ≡ s → shown ≡ sequence_number t → IsEnded why true t (m ∷ []) answers steps (losses_of retries old new) →
    IsRest (rest_oldest r count H m s steps) [] shown why
idle_oldest r count H m s zero t shown retries old new CaughtUp answers found on none same is end = absurd (omega (arith, end.0))
idle_oldest r count H m s (suc n) t shown retries old new CaughtUp answers found on none same is end =
    let P : List Moment → Type 0 = λ N. (now N).newest < (now N).oldest in
    let empty : nat_lt m.newest m.oldest ≡ true = lt-ltb m.newest m.oldest (subst P (after_one end.1.0 m) (end.1.4 refl none)) in
    let Q : Bool → Type 0 = λ b. IsRest (if b then record { items = []; next = s; ended = CaughtUp } else rest_from r count H m m.oldest (suc n)) [] shown CaughtUp in
    subst Q (sym empty) (refl, is ∙ ap sequence_number same, refl)
idle_oldest r count H m s zero t shown retries old new StepLimit answers found on none same is end = (refl, is ∙ ap sequence_number same, refl)
idle_oldest r count H m s (suc n) t shown retries old new StepLimit answers found on none same is end = absurd (omega (arith, end.0, none))
idle_oldest r count H m s steps t shown retries old new Stopped answers found on none same is end = absurd (on refl)
idle_oldest r count H m s steps t shown retries old new (Fault Lost) answers found on none same is end = absurd found
idle_oldest r count H m s steps t shown retries old new (Fault (Refused refusal)) answers found on none same is end = absurd end
idle_oldest r count H m s steps t shown retries old new (Fault BadReply) answers found on none same is end = absurd end

oldest_at : (r count : ℕ) (H : History) (m : Moment) (s steps retries old new : ℕ) (items : List Item) (t shown : ℕ) (why : Ended) (answers : List (List Item)) (n : ℕ) →
    batches answers ≡ n → FoundEnd why → why ≢ Stopped → Collected (our_log r (m ∷ []) H) (started_at count true s) steps (losses_of retries old new) (yield items why) t answers → shown ≡ sequence_number t →
    IsRest (rest_oldest r count H m s steps) items shown why
oldest_at r count H m s steps retries old new items t shown why answers zero none found on run is =
    let nothing : items ≡ [] = sym run.all ∙ no_items_of answers none in
    let same : t ≡ s = idle_stays why r count H (m ∷ []) false _ t answers none run.leads ∙ start_none s (m ∷ []) answers none in
    let Q : List Item → Type 0 = λ l. IsRest (rest_oldest r count H m s steps) l shown why in
    subst Q (sym nothing) (idle_oldest r count H m s steps t shown retries old new why answers found on none same is run.end)
oldest_at r count H m s steps retries old new items t shown why answers (suc n) many found on run is =
    let some : 0 < batches answers = omega (arith, many) in
    let start : start_of true s (m ∷ []) answers ≡ m.oldest = start_some s m answers some in
    let ends = ends_of why m true t answers steps retries old new found on run.end in
    let A : ℕ → Type 0 = λ u. LeadsInSteps why (our_log r (m ∷ []) H) count false u answers t in
    let R : Rested → Type 0 = λ x. IsRest x items shown why in
    let leads = subst A start run.leads in
    subst R (rest_some r count H m s steps (some_steps steps refl some ends) (some_held why r count H m false m.oldest t answers some leads))
    (rest_at r count H m m.oldest steps items t shown why answers run.all leads ends is)
  where
    some_steps : (k : ℕ) → k ≡ steps → 0 < batches answers → Ends why m t answers steps → 0 < steps
    some_steps zero is some ends =
        let E : ℕ → Type 0 = λ n. Ends why m t answers n in absurd (some_step why m t answers some (subst E (sym is) ends))
    some_steps (suc k) is some ends = omega (arith, is)

pub rested : (r count : ℕ) (H : History) (m : Moment) (fresh : Bool) (s steps retries old new : ℕ) (items : List Item) (t shown : ℕ) (why : Ended) (answers : List (List Item)) →
    FoundEnd why → why ≢ Stopped → Collected (our_log r (m ∷ []) H) (started_at count fresh s) steps (losses_of retries old new) (yield items why) t answers → shown ≡ sequence_number t →
    IsRest (rest r count H m fresh s steps) items shown why
rested r count H m false s steps retries old new items t shown why answers found on run is =
    rest_at r count H m s steps items t shown why answers run.all run.leads (ends_of why m false t answers steps retries old new found on run.end) is
rested r count H m true s steps retries old new items t shown why answers found on run is =
    oldest_at r count H m s steps retries old new items t shown why answers (batches answers) refl found on run is

-- a step
pub rested_step : (r count : ℕ) (H : History) (m : Moment) (fresh : Bool) (s retries old new : ℕ) (t shown : ℕ) (z : Result Step WalkFault) (answers : List (List Item)) →
    FoundStep z → Collected (our_log r (m ∷ []) H) (started_at count fresh s) 1 (losses_of retries old new) (yield (step_items z) (step_ended z)) t answers → shown ≡ sequence_number t →
    IsRest (rest r count H m fresh s 1) (step_items z) shown (step_ended z)
rested_step r count H m fresh s retries old new t shown (Ok (StepOf b)) answers found run is =
    rested r count H m fresh s 1 retries old new (items_in b) t shown StepLimit answers tt (λ e. cc) run is
rested_step r count H m fresh s retries old new t shown (Ok NoStep) answers found run is =
    rested r count H m fresh s 1 retries old new [] t shown CaughtUp answers tt (λ e. cc) run is
rested_step r count H m fresh s retries old new t shown (Err e) answers found run is =
    rested r count H m fresh s 1 retries old new [] t shown (Fault e) answers found (λ x. cc) run is
