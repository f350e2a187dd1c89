-- What an answer brings, whoever gave it.
use Rattle.std.proofs.Common.{◌≡◌, ℕ, Bool, true, false, ◌&&◌, ◌+◌, ◌≤◌, if◌then◌else◌, nat_lt, nat_le, ◌==◌, Option, Some, None, Result, Ok, Err, List, [], ◌∷◌, ◌++◌, length, refl, sym, ap, subst, ◌∙◌, arith, append-nil}
use Rattle.bac_log.specs.declared.entry.Entry.{Entry}
use Rattle.std.proofs.lemmas.Bool.{ltb-true, ltb-false, and_parts}
use Rattle.bac_link.specs.declared.item.Item.{Item}
use Rattle.bac_link.specs.declared.item.Item.TheVariants.{Gap, Logged}
use Rattle.bac_walk.specs.Place.{WalkPlace}
use Rattle.bac_link.specs.Heard.{AckParameters}
use Rattle.bac_wire.specs.Primitive.{Id}
use Rattle.bac_walk.specs.declared.outcome.WalkFault.{WalkFault}
use Rattle.bac_walk.specs.declared.outcome.Progress.{Progress}
use Rattle.bac_walk.specs.declared.outcome.Progress.TheVariants.{Batch as BatchOf, AskOldest, CaughtUp}
use Rattle.bac_walk.specs.declared.outcome.Step.{Step}
use Rattle.bac_log.specs.TrendLog.{sequence_number}
use Rattle.bac_link.specs.Laws.{CoversEach}
use Rattle.bac_link.specs.Ordinals.{is_number, distance, number_after}
use Rattle.bac_link.proofs.Delivers.{CoversEach-append}
use Rattle.bac_walk.specs.Walks.{shown_from, brought, asks_oldest_now, is_past, fits, items_in, NextAct, Refuse, Ask, End, Bring, verdict, IsTaken, IsTakenFrom}
use Rattle.bac_walk.specs.Collects.{Goes, turn_items, asks_next, finished, step_items}
use Rattle.bac_walk.proofs.Shown.{covers_logged, after-number, shown_logged, number-distance}
use Rattle.bac_walk.proofs.Cuts.{covers_cut}

-- entries with the numbers from that of ordinal s on
covers_shown : (s shown : ℕ) (es : List Entry) → shown ≡ sequence_number s →
    (number_after shown (length es) ≡ sequence_number (s + length es)) × CoversEach s (shown_from shown es) (s + length es)
covers_shown s shown es is =
    let P : List Item → Type 0 = λ xs. CoversEach s xs (s + length es) in
    let Q : ℕ → Type 0 = λ n. (number_after n (length es) ≡ sequence_number (s + length es)) × CoversEach s (shown_from n es) (s + length es) in
    subst Q (sym is) (after-number s (length es), subst P (sym (shown_logged s es)) (covers_logged s es))

-- a batch of a walk that isn't one from the oldest entry any more
goes_on : (next first s : ℕ) (e : Entry) (es : List Entry) (lt : Bool) → nat_lt 0 (distance next first) ≡ lt → is_number first ≡ true →
    next ≡ sequence_number s →
    (t : ℕ) × (number_after first (length (e ∷ es)) ≡ sequence_number t)
    × CoversEach s ((if lt then Gap next first ∷ [] else []) ++ shown_from first (e ∷ es)) t
goes_on next first s e es true is shows here =
    let far : first ≡ sequence_number (s + distance next first) = number-distance next first s shows here in
    let rest = covers_shown (s + distance next first) first (e ∷ es) far in
    (_, rest.0, (s + distance next first, omega (arith, ltb-true 0 (distance next first) is), here, far, rest.1))
goes_on next first s e es false is shows here =
    let none : distance next first ≤ 0 = ltb-false 0 (distance next first) is in
    let same : s + distance next first ≡ s = omega (arith, none) in
    let far : first ≡ sequence_number s = number-distance next first s shows here ∙ ap sequence_number same in
    let rest = covers_shown s first (e ∷ es) far in
    (_, rest.0, rest.1)

-- the batch of a walk in either state
goes_batch : (log : Id) (next s first count : ℕ) (fresh asks : Bool) (e : Entry) (es : List Entry) (items : List Item) →
    fits (record { log = log; next = next; fresh = fresh; asks_oldest = asks; count = count }) first (length (e ∷ es)) ≡ true →
    items ≡ brought (record { log = log; next = next; fresh = fresh; asks_oldest = asks; count = count }) first (e ∷ es) →
    Goes fresh next s items false (number_after first (length (e ∷ es)))
goes_batch log next s first count true asks e es items fit is =
    let P : List Item → Type 0 = λ xs. Goes true next s xs false (number_after first (length (e ∷ es))) in
    subst P (sym is) (λ here. (_, (covers_shown s first (e ∷ es) here).0, (covers_shown s first (e ∷ es) here).1), refl)
goes_batch log next s first count false asks e es items fit is =
    let shows : is_number first ≡ true = (and_parts (is_number first) _ (and_parts (nat_le (length (e ∷ es)) count) _ fit).1).0 in
    gone (nat_lt 0 (distance next first)) refl shows is
  where
    gone : (lt : Bool) → nat_lt 0 (distance next first) ≡ lt → is_number first ≡ true →
        items ≡ (if nat_lt 0 (distance next first) then Gap next first ∷ [] else []) ++ shown_from first (e ∷ es) →
        Goes false next s items false (number_after first (length (e ∷ es)))
    gone true lt shows eq =
        let P : List Item → Type 0 = λ xs. Goes false next s xs false (number_after first (length (e ∷ es))) in
        subst P (sym (eq ∙ ap (λ b. (if b then Gap next first ∷ [] else []) ++ shown_from first (e ∷ es)) lt))
        ((λ here. goes_on next first s e es true lt shows here), refl)
    gone false lt shows eq =
        let P : List Item → Type 0 = λ xs. Goes false next s xs false (number_after first (length (e ∷ es))) in
        subst P (sym (eq ∙ ap (λ b. (if b then Gap next first ∷ [] else []) ++ shown_from first (e ∷ es)) lt))
        ((λ here. goes_on next first s e es false lt shows here), refl)

idle : (fresh : Bool) (before s : ℕ) (after_fresh : Bool) (next : ℕ) → next ≡ before → after_fresh ≡ fresh → Goes fresh before s [] after_fresh next
idle true before s after_fresh next a b = (a, b)
idle false before s after_fresh next a b = (a, b)

brings : (w : WalkPlace) (s : ℕ) (first : Option ℕ) (count : ℕ) (es : List Entry) (f : ℕ) (items : List Item) → verdict w first count es ≡ Bring f →
    items ≡ brought w f es → Goes w.fresh w.next s items false (number_after f (length es))
brings w s first count [] f items is eq = none_empty (asks_oldest_now w) is
  where
    none_empty : (b : Bool) → (if b then End else Ask) ≡ Bring f → Goes w.fresh w.next s items false (number_after f 0)
    none_empty true h = absurd (cc)
    none_empty false h = absurd (cc)
brings w s None count (e ∷ es) f items is eq = absurd (cc)
brings w s (Some g) count (e ∷ es) f items is eq = of_some (is_past w g) (count == length (e ∷ es)) (fits w g (length (e ∷ es))) refl is
  where
    of_some : (a c b : Bool) → fits w g (length (e ∷ es)) ≡ b →
        (if a then End else (if c && b then Bring g else Refuse)) ≡ Bring f → Goes w.fresh w.next s items false (number_after f (length (e ∷ es)))
    of_some true c b fit h = absurd (cc)
    of_some false false b fit h = absurd (cc)
    of_some false true false fit h = absurd (cc)
    of_some false true true fit h =
        let same : g ≡ f = cc in
        let Q : ℕ → Type 0 = λ n. fits w n (length (e ∷ es)) ≡ true in
        goes_batch w.log w.next s f w.count w.fresh w.asks_oldest e es items (subst Q same fit) eq

by_verdict : (w : WalkPlace) (s : ℕ) (first : Option ℕ) (count : ℕ) (es : List Entry) (p : Progress) (after : WalkPlace) (v : NextAct) → verdict w first count es ≡ v →
    IsTaken w es v (Ok p) after → Goes w.fresh w.next s (turn_items (Ok p)) after.fresh after.next
by_verdict w s first count es p after Refuse is taken = absurd taken
by_verdict w s first count es AskOldest after Ask is taken =
    idle w.fresh w.next s after.fresh after.next (ap (λ (u : WalkPlace). u.next) taken) (ap (λ (u : WalkPlace). u.fresh) taken)
by_verdict w s first count es (BatchOf b) after Ask is taken = absurd taken
by_verdict w s first count es CaughtUp after Ask is taken = absurd taken
by_verdict w s first count es CaughtUp after End is taken =
    idle w.fresh w.next s after.fresh after.next (ap (λ (u : WalkPlace). u.next) taken) (ap (λ (u : WalkPlace). u.fresh) taken)
by_verdict w s first count es AskOldest after End is taken = absurd taken
by_verdict w s first count es (BatchOf b) after End is taken = absurd taken
by_verdict w s first count es AskOldest after (Bring f) is taken = absurd taken
by_verdict w s first count es CaughtUp after (Bring f) is taken = absurd taken
by_verdict w s first count es (BatchOf b) after (Bring f) is taken =
    let nf : after.next ≡ number_after f (length es) = ap (λ (u : WalkPlace). u.next) taken.1 in
    let ff : after.fresh ≡ false = ap (λ (u : WalkPlace). u.fresh) taken.1 in
    let P : ℕ → Type 0 = λ n. Goes w.fresh w.next s (items_in b) false n in
    let Q : Bool → Type 0 = λ x. Goes w.fresh w.next s (items_in b) x after.next in
    subst Q (sym ff) (subst P (sym nf) (brings w s first count es f (items_in b) is taken.0))

-- an answer that is taken
pub turn_goes : (w : WalkPlace) (s : ℕ) (heard : Option AckParameters) (p : Progress) (after : WalkPlace) →
    IsTakenFrom w heard (Ok p) after → Goes w.fresh w.next s (turn_items (Ok p)) after.fresh after.next
turn_goes w s None p after taken = absurd taken
turn_goes w s (Some h) p after taken = by_verdict w s h.first h.count h.entries p after (verdict w h.first h.count h.entries) refl taken

-- a step's items are those of its last answer
same_items : (p : Result Progress WalkFault) → turn_items p ≡ step_items (finished p)
same_items (Ok (BatchOf b)) = refl
same_items (Ok AskOldest) = refl
same_items (Ok CaughtUp) = refl
same_items (Err e) = refl

pub step_goes : (fresh : Bool) (before s : ℕ) (p : Result Progress WalkFault) (z : Result Step WalkFault) (after : Bool) (next : ℕ) →
    z ≡ finished p → Goes fresh before s (turn_items p) after next → Goes fresh before s (step_items z) after next
step_goes fresh before s p z after next is goes =
    let P : List Item → Type 0 = λ xs. Goes fresh before s xs after next in
    subst P (same_items p ∙ ap step_items (sym is)) goes

asks_nothing : (p : Result Progress WalkFault) → asks_next p ≡ true → turn_items p ≡ []
asks_nothing (Ok (BatchOf b)) h = absurd (cc)
asks_nothing (Ok AskOldest) h = refl
asks_nothing (Ok CaughtUp) h = refl
asks_nothing (Err e) h = refl

-- an answer without items leaves the walk where it is
pub nothing_goes : (fresh : Bool) (before s : ℕ) (p : Result Progress WalkFault) (after : Bool) (next : ℕ) → asks_next p ≡ true →
    Goes fresh before s (turn_items p) after next → (next ≡ before) × (after ≡ fresh)
nothing_goes fresh before s p after next asks goes =
    let P : List Item → Type 0 = λ xs. Goes fresh before s xs after next in
    of_none fresh (subst P (asks_nothing p asks) goes)
  where
    of_none : (f : Bool) → Goes f before s [] after next → (next ≡ before) × (after ≡ f)
    of_none true h = h
    of_none false h = h

pub moved_goes : (fresh mid_fresh : Bool) (before mid s : ℕ) (items : List Item) (after : Bool) (next : ℕ) → mid ≡ before → mid_fresh ≡ fresh →
    Goes mid_fresh mid s items after next → Goes fresh before s items after next
moved_goes fresh mid_fresh before mid s items after next is same goes =
    let P : ℕ → Type 0 = λ n. Goes mid_fresh n s items after next in
    let Q : Bool → Type 0 = λ b. Goes b before s items after next in
    subst Q same (subst P is goes)

pub stays_goes : (fresh : Bool) (before s : ℕ) → Goes fresh before s [] fresh before
stays_goes true before s = (refl, refl)
stays_goes false before s = (refl, refl)

left_goes : (fresh : Bool) (before s : ℕ) (after : Bool) (next : ℕ) → Goes fresh before s [] after next → (next ≡ before) × (after ≡ fresh)
left_goes true before s after next h = h
left_goes false before s after next h = h

-- two runs in a row
pub join_goes : (fresh : Bool) (before : ℕ) (xs : List Item) (mid_fresh : Bool) (mid : ℕ) (ys : List Item) (after : Bool) (next : ℕ) →
    ((s : ℕ) → Goes fresh before s xs mid_fresh mid) → ((s : ℕ) → Goes mid_fresh mid s ys after next) →
    (s : ℕ) → Goes fresh before s (xs ++ ys) after next
join_goes fresh before [] mid_fresh mid ys after next first rest s =
    let left = left_goes fresh before s mid_fresh mid (first s) in
    moved_goes fresh mid_fresh before mid s ys after next left.0 left.1 (rest s)
join_goes false before (x ∷ xs) mid_fresh mid [] after next first rest s =
    let left = left_goes mid_fresh mid s after next (rest s) in
    let P : List Item → Type 0 = λ l. Goes false before s l after next in
    let Q : ℕ → Type 0 = λ n. Goes false before s (x ∷ xs) after n in
    let R : Bool → Type 0 = λ b. Goes false before s (x ∷ xs) b mid in
    subst P (sym (append-nil (x ∷ xs))) (subst Q (sym left.0) (subst R (sym left.1) (first s)))
join_goes false before (x ∷ xs) mid_fresh mid (y ∷ ys) after next first rest s =
    let R : Bool → Type 0 = λ b. (u : ℕ) → Goes b mid u (y ∷ ys) after next in
    let more = subst R (first s).1 rest in
    ((λ here. let a = (first s).0 here in let b = (more a.0).0 a.1 in (b.0, b.1, CoversEach-append s a.0 b.0 (x ∷ xs) (y ∷ ys) a.2 b.2)), (more s).1)
join_goes true before (Gap f u ∷ xs) mid_fresh mid ys after next first rest s = absurd (first s)
join_goes true before (Logged k e ∷ xs) mid_fresh mid [] after next first rest s =
    let left = left_goes mid_fresh mid s after next (rest s) in
    let P : List Item → Type 0 = λ l. Goes true before s l after next in
    let Q : ℕ → Type 0 = λ n. Goes true before s (Logged k e ∷ xs) after n in
    let R : Bool → Type 0 = λ b. Goes true before s (Logged k e ∷ xs) b mid in
    subst P (sym (append-nil (Logged k e ∷ xs))) (subst Q (sym left.0) (subst R (sym left.1) (first s)))
join_goes true before (Logged k e ∷ xs) mid_fresh mid (y ∷ ys) after next first rest s =
    let R : Bool → Type 0 = λ b. (u : ℕ) → Goes b mid u (y ∷ ys) after next in
    let more = subst R (first s).1 rest in
    ((λ here. let a = (first s).0 here in let b = (more a.0).0 a.1 in (b.0, b.1, CoversEach-append s a.0 b.0 (Logged k e ∷ xs) (y ∷ ys) a.2 b.2)), (more s).1)

-- up to a record the items go to the number after its own
cut_shown : (s t k : ℕ) (e : Entry) (before after : List Item) → CoversEach s (before ++ Logged k e ∷ after) t →
    (u : ℕ) × (number_after k 1 ≡ sequence_number u) × CoversEach s (before ++ Logged k e ∷ []) u
cut_shown s t k e before after covers =
    let cut = covers_cut s t k e before after covers in (cut.0 + 1, ap (λ n. number_after n 1) cut.1 ∙ after-number cut.0 1, cut.2)

pub cut_goes : (fresh : Bool) (before s : ℕ) (xs : List Item) (k : ℕ) (e : Entry) (after : List Item) (left : Bool) (next : ℕ) →
    Goes fresh before s (xs ++ Logged k e ∷ after) left next → Goes fresh before s (xs ++ Logged k e ∷ []) false (number_after k 1)
cut_goes false before s [] k e after left next goes =
    ((λ at. let all = goes.0 at in cut_shown s all.0 k e [] after all.2), refl)
cut_goes false before s (x ∷ xs) k e after left next goes =
    ((λ at. let all = goes.0 at in cut_shown s all.0 k e (x ∷ xs) after all.2), refl)
cut_goes true before s [] k e after left next goes =
    ((λ at. let all = goes.0 at in cut_shown s all.0 k e [] after all.2), refl)
cut_goes true before s (Gap f b ∷ xs) k e after left next goes = absurd goes
cut_goes true before s (Logged l d ∷ xs) k e after left next goes =
    ((λ at. let all = goes.0 at in cut_shown s all.0 k e (Logged l d ∷ xs) after all.2), refl)
