-- What one answer of ours means to a walk.
use Rattle.std.proofs.Common.{◌≡◌, ℕ, zero, suc, max, Bool, true, false, not, ◌&&◌, ◌||◌, ◌+◌, ◌-◌, ◌<◌, ◌≤◌, ◌⊎◌, inl, inr, if◌then◌else◌, nat_lt, nat_le, Option, Some, None, Result, Ok, Err, List, [], ◌∷◌, ◌++◌, length, drop, refl, sym, ap, subst, ◌∙◌, arith, length-take, length-drop, length-append}
use Rattle.std.proofs.lemmas.Bool.{ltb-true, ltb-false, leb-true, leb-false, lt-ltb, le-ltb, le-leb, or_parts, not-true, not-false}
use Rattle.bac_link.specs.declared.item.Item.{Item}
use Rattle.bac_link.specs.declared.item.Item.TheVariants.{Gap}
use Rattle.bac_walk.specs.Place.{WalkPlace}
use Rattle.bac_walk.specs.declared.outcome.BadReply.{BadReply}
use Rattle.bac_walk.specs.declared.outcome.Progress.{Progress}
use Rattle.bac_walk.specs.declared.outcome.Progress.TheVariants.{Batch as BatchOf, AskOldest, CaughtUp}
use Rattle.bac_log.specs.declared.entry.Entry.{Entry}
use Rattle.bac_log.specs.TrendLog.{sequence_number}
use Rattle.bac_link.specs.Delivery.{History, Moment, now, AreHeld, Brings}
use Rattle.bac_link.specs.Moments.{AreServed, entries_from}
use Rattle.bac_walk.specs.Replies.{Wanted, FromOrdinal, FromOldest, how_many, asked_count, fitting}
use Rattle.bac_walk.specs.Replies.{IsAnswer}
use Rattle.bac_link.specs.Heard.{AckParameters}
use Rattle.bac_walk.specs.Walks.{shown_from, gap_of, asks_oldest_now, wanted_at, is_past, fits, items_in, NextAct, Bring, End, Ask, verdict, IsTaken, IsTakenFrom, logged_from}
use Rattle.bac_walk.specs.Near.{IsNear}
use Rattle.bac_walk.specs.Takes.{Says}
use Rattle.bac_walk.specs.Turns.{NoneOfAsked, base, reply_count, whole_reply, IsTurn}
use Rattle.bac_link.specs.Ordinals.{distance, number_after, is_ahead}
use Rattle.bac_walk.proofs.Shown.{number-is, distance-number, after-number, ahead-number, shown_logged, records, length-logged_from}
use Rattle.bac_walk.proofs.Held.{Sound, Sound-now, In-now}
use Rattle.bac_walk.proofs.WalkTakes.{verdict-bring}

-- entries of the ordinals from f on bring a walk past them, with the gap before them
brings_held : (H : History) (m : Moment) (f u : ℕ) (es : List Entry) → AreHeld H m f (logged_from f es) u → Brings H m f (logged_from f es) u
brings_held H m f u [] are = are
brings_held H m f u (e ∷ es) are = are

pub gapped : (H : History) (m : Moment) (s u : ℕ) (es : List Entry) (lt : Bool) → nat_lt s m.oldest ≡ lt →
    0 < length es → AreHeld H m (max s m.oldest) (logged_from (max s m.oldest) es) u →
    Brings H m s ((if lt then Gap (sequence_number s) (sequence_number m.oldest) ∷ [] else []) ++ logged_from (max s m.oldest) es) u
gapped H m s u es true is some are =
    let lt : s < m.oldest = ltb-true s m.oldest is in
    let top : max s m.oldest ≡ m.oldest = omega arith in
    let P : ℕ → Type 0 = λ n. AreHeld H m n (logged_from (max s m.oldest) es) u in
    (refl, lt, refl, omega (arith, length-logged_from (max s m.oldest) es), subst P top are)
gapped H m s u es false is some are =
    let ge : m.oldest ≤ s = ltb-false s m.oldest is in
    let same : max s m.oldest ≡ s = omega arith in
    let P : ℕ → Type 0 = λ n. Brings H m n (logged_from (max s m.oldest) es) u in
    subst P same (brings_held H m (max s m.oldest) u es are)

some_shown : (G : List Item) (f : ℕ) (es : List Entry) → 0 < length es → 0 < length (G ++ logged_from f es)
some_shown G f es some = omega (arith, length-append G (logged_from f es), length-logged_from f es)

-- the gap that a walk reports
pub gap_same : (w : WalkPlace) (s : ℕ) (m : Moment) (lt : Bool) → nat_lt s m.oldest ≡ lt → m.oldest < s + 4294967295 → w.next ≡ sequence_number s → w.fresh ≡ false →
    gap_of w (sequence_number (max s m.oldest)) ≡ (if lt then Gap (sequence_number s) (sequence_number m.oldest) ∷ [] else [])
gap_same w s m true is near next old =
    let lt : s < m.oldest = ltb-true s m.oldest is in
    let top : max s m.oldest ≡ m.oldest = omega arith in
    let some : nat_lt 0 (distance (sequence_number s) (sequence_number m.oldest)) ≡ true = lt-ltb _ _ (omega (arith, distance-number s m.oldest (omega arith) near)) in
    rw (old, next, top, some) refl
gap_same w s m false is near next old =
    let ge : m.oldest ≤ s = ltb-false s m.oldest is in
    let same : max s m.oldest ≡ s = omega arith in
    let none : distance (sequence_number s) (sequence_number s) ≡ 0 = omega (arith, distance-number s s (omega arith) (omega arith)) in
    rw (old, next, same, none) refl

-- a turn that has an answer
abbrev pub TurnOf : ℕ → History → Moment → ℕ → WalkPlace → Result Progress BadReply → WalkPlace → Type 0
TurnOf r H m s w (Ok p) after = IsTurn r H m s w p after
TurnOf r H m s w (Err e) after = ⊥

-- a batch that is taken
bring : (r : ℕ) (H : History) (m : Moment) (s u : ℕ) (w : WalkPlace) (es : List Entry) (p : Result Progress BadReply) (after : WalkPlace) →
    base w s m ≡ u → IsTaken w es (Bring (sequence_number (max u m.oldest))) p after →
    0 < length es → AreHeld H m (max u m.oldest) (logged_from (max u m.oldest) es) (max u m.oldest + length es) →
    gap_of w (sequence_number (max u m.oldest)) ≡ (if nat_lt u m.oldest then Gap (sequence_number u) (sequence_number m.oldest) ∷ [] else []) →
    es ≡ entries_from H (max u m.oldest) (reply_count r w.count H m w.asks_oldest u) → TurnOf r H m s w p after
bring r H m s u w es (Err e) after from taken some are gap is = absurd taken
bring r H m s u w es (Ok AskOldest) after from taken some are gap is = absurd taken
bring r H m s u w es (Ok CaughtUp) after from taken some are gap is = absurd taken
bring r H m s u w es (Ok (BatchOf b)) after from taken some are gap is =
    let f = max u m.oldest in
    let G : List Item = (if nat_lt u m.oldest then Gap (sequence_number u) (sequence_number m.oldest) ∷ [] else []) in
    let items : items_in b ≡ G ++ logged_from f es =
    taken.0 ∙ ap (λ g. g ++ shown_from (sequence_number f) es) gap ∙ ap (λ x. G ++ x) (shown_logged f es) in
    let next : number_after (sequence_number f) (length es) ≡ sequence_number (f + length es) = after-number f (length es) in
    let P : List Item → Type 0 = λ xs. Brings H m u xs (f + length es) × (0 < length xs) in
    let both = subst P (sym items) (gapped H m u (f + length es) es (nat_lt u m.oldest) refl some are, some_shown G f es some) in
    let C : ℕ → Type 0 = λ n. (t : ℕ) × Brings H m n (items_in b) t × (0 < length (items_in b))
    × (after ≡ record w { next = sequence_number t; fresh = false; asks_oldest = false })
    × (items_in b ≡ whole_reply r w.count H m w.asks_oldest n) in
    subst C (sym from) (
      f + length es,
      both.0,
      both.1,
      taken.1 ∙ ap (λ (n : ℕ). record w { next = n; fresh = false; asks_oldest = false }) next,
      items ∙ ap (λ x. G ++ logged_from f x) is,
    )

ask : (r : ℕ) (H : History) (m : Moment) (s : ℕ) (w : WalkPlace) (es : List Entry) (p : Result Progress BadReply) (after : WalkPlace) →
    IsTaken w es Ask p after → asks_oldest_now w ≡ false → NoneOfAsked w.count s m → TurnOf r H m s w p after
ask r H m s w es (Err e) after taken by none = absurd taken
ask r H m s w es (Ok (BatchOf b)) after taken by none = absurd taken
ask r H m s w es (Ok CaughtUp) after taken by none = absurd taken
ask r H m s w es (Ok AskOldest) after taken by none = (by, none, taken)

end : (r : ℕ) (H : History) (m : Moment) (s : ℕ) (w : WalkPlace) (es : List Entry) (p : Result Progress BadReply) (after : WalkPlace) →
    IsTaken w es End p after → asks_oldest_now w ≡ true →
    (m.newest < m.oldest) ⊎ ((w.fresh ≡ false) × (m.oldest < s)) → TurnOf r H m s w p after
end r H m s w es (Err e) after taken by none = absurd taken
end r H m s w es (Ok (BatchOf b)) after taken by none = absurd taken
end r H m s w es (Ok AskOldest) after taken by none = absurd taken
end r H m s w es (Ok CaughtUp) after taken by none = (by, none, taken)

-- the entries of an answer are as many as it says
pub entries_count : (H : History) (m : Moment) (f c : ℕ) → Sound H m → m.newest ≤ H.logged + length H.entries →
    m.oldest ≤ f → (0 < c → f + c ≤ m.newest + 1) → length (entries_from H f c) ≡ c
entries_count H m f zero s within low high = omega (arith, length-take 0 (drop (f - (H.logged + 1)) H.entries))
entries_count H m f (suc c) s within low high =
    let most : f + suc c ≤ m.newest + 1 = high (omega arith) in
    omega (
      arith,
      s.above,
      length-take (suc c) (drop (f - (H.logged + 1)) H.entries),
      length-drop (f - (H.logged + 1)) H.entries,
    )

pub both_true : (a b c : Bool) → (a && b && c) ≡ true → (b ≡ true) × (c ≡ true)
both_true true true true h = (refl, refl)
both_true true true false h = absurd (cc)
both_true true false c h = absurd (cc)
both_true false b c h = absurd (cc)

pub last_false : (a b c : Bool) → (a && b && c) ≡ false → a ≡ true → b ≡ true → c ≡ false
last_false a b true h g k = cc
last_false a b false h g k = refl

count_at : (r : ℕ) (H : History) (f g c d : ℕ) → f ≡ g → c ≡ d → fitting r f (entries_from H f c) ≡ fitting r g (entries_from H g d)
count_at r H f g c d p q = ap (λ n. fitting r n (entries_from H n c)) p ∙ ap (λ n. fitting r g (entries_from H g n)) q

count_same : (r count : ℕ) (H : History) (m : Moment) (b : Bool) (u : ℕ) → u ≤ m.oldest → (b ≡ false → u ≡ m.oldest) →
    reply_count r count H m b u ≡ how_many r H (FromOldest count) m
count_same r count H m true u le same = count_at r H (max u m.oldest) m.oldest _ (asked_count (FromOldest count) m) (omega arith) (omega arith)
count_same r count H m false u le same = let e : u ≡ m.oldest = same refl in count_at r H (max u m.oldest) m.oldest _ (asked_count (FromOldest count) m) (omega arith) (omega (arith, e))

pub or_second : (a b : Bool) → a ≡ false → (a || b) ≡ b
or_second true b h = absurd (cc)
or_second false b h = refl

pub or_left : (a b : Bool) → (a || b) ≡ false → a ≡ false
or_left true b h = h
or_left false b h = refl

-- the batch of an answer to a question by number
by_number : (H : History) (m : Moment) (r s : ℕ) (w : WalkPlace) (first : Option ℕ) (count : ℕ) (es : List Entry) (p : Result Progress BadReply) (after : WalkPlace) →
    Sound H m → m.newest ≤ H.logged + length H.entries → (0 < asked_count (FromOrdinal s w.count) m → 0 < reply_count r w.count H m false s) → reply_count r w.count H m false s ≤ asked_count (FromOrdinal s w.count) m → asks_oldest_now w ≡ false → w.next ≡ sequence_number s → IsNear s m → count ≡ length es →
    es ≡ entries_from H (max s m.oldest) (reply_count r w.count H m false s) →
    (0 < reply_count r w.count H m false s → first ≡ Some (sequence_number (max s m.oldest))) →
    IsTaken w es (verdict w first count es) p after → TurnOf r H m s w p after
by_number H m r s w first count [] p after sound within room few by next near counted is some taken =
    let n : 0 ≡ reply_count r w.count H m false s =
    ap length is ∙ entries_count H m (max s m.oldest) (reply_count r w.count H m false s) sound within (omega arith) (λ h. omega (arith, few)) in
    let none : NoneOfAsked w.count s m = λ k low high held. let asked : 0 < asked_count (FromOrdinal s w.count) m = omega (arith, low, high, held.0, held.1) in omega (arith, n, room asked) in
    let P : Bool → Type 0 = λ b. IsTaken w [] (if b then End else Ask) p after in
    ask r H m s w [] p after (subst P by taken) by none
by_number H m r s w first count (e ∷ es) p after sound within room few by next near counted is some taken =
    let f = max s m.oldest in
    let same : length (entries_from H f (reply_count r w.count H m false s)) ≡ reply_count r w.count H m false s =
    entries_count H m f (reply_count r w.count H m false s) sound within (omega arith) (λ h. omega (arith, few)) in
    let n : length (e ∷ es) ≡ reply_count r w.count H m false s = ap length is ∙ same in
    let here : first ≡ Some (sequence_number f) = some (omega (arith, n)) in
    let past : is_past w (sequence_number f) ≡ false = rw by refl in
    let high : nat_le (distance (sequence_number s) (sequence_number f) + length (e ∷ es)) w.count ≡ true =
    le-leb _ _ (omega (arith, n, distance-number s f (omega arith) (omega (arith, near.above)), few)) in
    let few_asked : nat_le (length (e ∷ es)) w.count ≡ true = le-leb _ _ (omega (arith, n, few)) in
    let fitting_in : fits w (sequence_number f) (length (e ∷ es)) ≡ true = rw (few_asked, number-is f, by, next, high) refl in
    let v : verdict w first count (e ∷ es) ≡ Bring (sequence_number f) =
    ap (λ o. verdict w o count (e ∷ es)) here ∙ verdict-bring w (sequence_number f) count (e ∷ es) (omega arith) past counted fitting_in in
    let P : NextAct → Type 0 = λ u. IsTaken w (e ∷ es) u p after in
    let Q : List Entry → Type 0 = λ xs. AreHeld H m f (logged_from f xs) (f + length xs) in
    let old : w.fresh ≡ false = or_left w.fresh w.asks_oldest by in
    let asks : w.asks_oldest ≡ false = (or_parts w.fresh w.asks_oldest by).1 in
    let E : Bool → Type 0 = λ b. (e ∷ es) ≡ entries_from H f (reply_count r w.count H m b s) in
    bring r H m s s w (e ∷ es) p after (rw old refl) (subst P v taken) (omega arith)
    (subst Q (sym is) (records H m f (reply_count r w.count H m false s) (omega (arith, sound.above)) (omega arith) (omega (arith, n, same, few))))
    (gap_same w s m (nat_lt s m.oldest) refl (omega (arith, near.above)) next old) (subst E (sym asks) is)

-- entries from the oldest, which lie behind the walk or are its next batch
oldest_batch : (r : ℕ) (H : History) (m : Moment) (s u : ℕ) (w : WalkPlace) (e : Entry) (es : List Entry) (p : Result Progress BadReply) (after : WalkPlace) →
    base w s m ≡ u → u ≤ m.oldest → (w.asks_oldest ≡ false → u ≡ m.oldest) →
    gap_of w (sequence_number (max u m.oldest)) ≡ (if nat_lt u m.oldest then Gap (sequence_number u) (sequence_number m.oldest) ∷ [] else []) →
    AreHeld H m m.oldest (logged_from m.oldest (e ∷ es)) (m.oldest + length (e ∷ es)) → (e ∷ es) ≡ entries_from H m.oldest (how_many r H (FromOldest w.count) m) →
    IsTaken w (e ∷ es) (Bring (sequence_number m.oldest)) p after → TurnOf r H m s w p after
oldest_batch r H m s u w e es p after from le asks gap are is taken =
    let top : m.oldest ≡ max u m.oldest = omega arith in
    let P : ℕ → Type 0 = λ f. IsTaken w (e ∷ es) (Bring (sequence_number f)) p after in
    let Q : ℕ → Type 0 = λ f. AreHeld H m f (logged_from f (e ∷ es)) (f + length (e ∷ es)) in
    let R : ℕ → Type 0 = λ f. (e ∷ es) ≡ entries_from H f (how_many r H (FromOldest w.count) m) in
    let S : ℕ → Type 0 = λ c. (e ∷ es) ≡ entries_from H (max u m.oldest) c in
    bring r H m s u w (e ∷ es) p after from (subst P top taken) (omega arith) (subst Q top are) gap
    (subst S (sym (count_same r w.count H m w.asks_oldest u le asks)) (subst R top is))

oldest_some : (r : ℕ) (H : History) (m : Moment) (s : ℕ) (w : WalkPlace) (count : ℕ) (e : Entry) (es : List Entry) (p : Result Progress BadReply) (after : WalkPlace) →
    w.next ≡ sequence_number s → asks_oldest_now w ≡ true → (past fresh : Bool) → is_past w (sequence_number m.oldest) ≡ past → w.fresh ≡ fresh →
    (w.fresh ≡ false → IsNear s m) → length (e ∷ es) ≤ w.count → count ≡ length (e ∷ es) →
    AreHeld H m m.oldest (logged_from m.oldest (e ∷ es)) (m.oldest + length (e ∷ es)) → (e ∷ es) ≡ entries_from H m.oldest (how_many r H (FromOldest w.count) m) →
    IsTaken w (e ∷ es) (verdict w (Some (sequence_number m.oldest)) count (e ∷ es)) p after → TurnOf r H m s w p after
oldest_some r H m s w count e es p after next by true fresh past is_fresh near few counted are is taken =
    let v : verdict w (Some (sequence_number m.oldest)) count (e ∷ es) ≡ End = rw past refl in
    let P : NextAct → Type 0 = λ u. IsTaken w (e ∷ es) u p after in
    let both = both_true (asks_oldest_now w) (not w.fresh) (not (is_ahead w.next (sequence_number m.oldest))) past in
    let close = near (not-true w.fresh both.0) in
    let behind : nat_le s m.oldest ≡ false =
    sym (ahead-number s m.oldest close.below close.above) ∙ ap (λ n. is_ahead n (sequence_number m.oldest)) (sym next) ∙ not-true _ both.1 in
    end r H m s w (e ∷ es) p after (subst P v taken) by (inr (not-true w.fresh both.0, leb-false s m.oldest behind))
oldest_some r H m s w count e es p after next by false true past is_fresh near few counted are is taken =
    let few_asked : nat_le (length (e ∷ es)) w.count ≡ true = le-leb _ _ few in
    let fitting_in : fits w (sequence_number m.oldest) (length (e ∷ es)) ≡ true = rw (few_asked, number-is m.oldest, by) refl in
    let v : verdict w (Some (sequence_number m.oldest)) count (e ∷ es) ≡ Bring (sequence_number m.oldest) = verdict-bring w (sequence_number m.oldest) count (e ∷ es) (omega arith) past counted fitting_in in
    let P : NextAct → Type 0 = λ u. IsTaken w (e ∷ es) u p after in
    let none : nat_lt m.oldest m.oldest ≡ false = le-ltb m.oldest m.oldest (omega arith) in
    oldest_batch r H m s m.oldest w e es p after (rw is_fresh refl) (omega arith) (λ h. refl) (rw (is_fresh, none) refl) are is (subst P v taken)
oldest_some r H m s w count e es p after next by false false past is_fresh near few counted are is taken =
    let close = near is_fresh in
    let few_asked : nat_le (length (e ∷ es)) w.count ≡ true = le-leb _ _ few in
    let fitting_in : fits w (sequence_number m.oldest) (length (e ∷ es)) ≡ true = rw (few_asked, number-is m.oldest, by) refl in
    let v : verdict w (Some (sequence_number m.oldest)) count (e ∷ es) ≡ Bring (sequence_number m.oldest) = verdict-bring w (sequence_number m.oldest) count (e ∷ es) (omega arith) past counted fitting_in in
    let P : NextAct → Type 0 = λ u. IsTaken w (e ∷ es) u p after in
    let ahead : nat_le s m.oldest ≡ true =
    sym (ahead-number s m.oldest close.below close.above) ∙ ap (λ n. is_ahead n (sequence_number m.oldest)) (sym next)
    ∙ not-false _ (last_false (asks_oldest_now w) (not w.fresh) (not (is_ahead w.next (sequence_number m.oldest))) past by (ap not is_fresh)) in
    let asks : w.asks_oldest ≡ true = sym (or_second w.fresh w.asks_oldest is_fresh) ∙ by in
    oldest_batch r H m s s w e es p after (rw is_fresh refl) (leb-true s m.oldest ahead) (λ h. absurd (cc))
    (gap_same w s m (nat_lt s m.oldest) refl (omega (arith, close.above)) next is_fresh) are is (subst P v taken)

-- the same for a question from the oldest
by_oldest : (H : History) (m : Moment) (r s : ℕ) (w : WalkPlace) (first : Option ℕ) (count : ℕ) (es : List Entry) (p : Result Progress BadReply) (after : WalkPlace) →
    0 < w.count → Sound H m → m.newest ≤ H.logged + length H.entries → (0 < asked_count (FromOldest w.count) m → 0 < how_many r H (FromOldest w.count) m) → how_many r H (FromOldest w.count) m ≤ asked_count (FromOldest w.count) m → asks_oldest_now w ≡ true → w.next ≡ sequence_number s → (w.fresh ≡ false → IsNear s m) → count ≡ length es →
    es ≡ entries_from H m.oldest (how_many r H (FromOldest w.count) m) →
    (0 < how_many r H (FromOldest w.count) m → first ≡ Some (sequence_number m.oldest)) →
    IsTaken w es (verdict w first count es) p after → TurnOf r H m s w p after
by_oldest H m r s w first count [] p after asks sound within room few by next near counted is some taken =
    let n : 0 ≡ how_many r H (FromOldest w.count) m =
    ap length is ∙ entries_count H m m.oldest (how_many r H (FromOldest w.count) m) sound within (omega arith) (λ h. omega (arith, few)) in
    let P : Bool → Type 0 = λ b. IsTaken w [] (if b then End else Ask) p after in
    end r H m s w [] p after (subst P by taken) by (inl (none_held n (nat_lt m.newest m.oldest) refl))
  where
    none_held : 0 ≡ how_many r H (FromOldest w.count) m → (b : Bool) → nat_lt m.newest m.oldest ≡ b → m.newest < m.oldest
    none_held n true e = ltb-true m.newest m.oldest e
    none_held n false e = let ge : m.oldest ≤ m.newest = ltb-false m.newest m.oldest e in let asked : 0 < asked_count (FromOldest w.count) m = omega (arith, ge, asks) in absurd (omega (arith, n, room asked))
by_oldest H m r s w first count (e ∷ es) p after asks sound within room few by next near counted is some taken =
    let same : length (entries_from H m.oldest (how_many r H (FromOldest w.count) m)) ≡ how_many r H (FromOldest w.count) m =
    entries_count H m m.oldest (how_many r H (FromOldest w.count) m) sound within (omega arith) (λ h. omega (arith, few)) in
    let n : length (e ∷ es) ≡ how_many r H (FromOldest w.count) m = ap length is ∙ same in
    let here : first ≡ Some (sequence_number m.oldest) = some (omega (arith, n)) in
    let P : Option ℕ → Type 0 = λ o. IsTaken w (e ∷ es) (verdict w o count (e ∷ es)) p after in
    let Q : List Entry → Type 0 = λ xs. AreHeld H m m.oldest (logged_from m.oldest xs) (m.oldest + length xs) in
    oldest_some r H m s w count e es p after next by (is_past w (sequence_number m.oldest)) w.fresh refl refl near (omega (arith, n, few)) counted
    (subst Q (sym is) (records H m m.oldest (how_many r H (FromOldest w.count) m) sound.above (omega arith) (omega (arith, n, same, few))))
    is (subst P here taken)

turn_by : (H : History) (M : List Moment) (r s : ℕ) (w : WalkPlace) (h : AckParameters) (p : Result Progress BadReply) (after : WalkPlace) →
    (oldest : Bool) → 0 < w.count → asks_oldest_now w ≡ oldest → w.next ≡ sequence_number s → (w.fresh ≡ false → IsNear s (now M)) →
    AreServed r M H → IsAnswer r (now M) H (wanted_at w s) h.first h.entries → h.count ≡ length h.entries →
    IsTaken w h.entries (verdict w h.first h.count h.entries) p after → TurnOf r H (now M) s w p after
turn_by H M r s w h p after true asks by next near served answer counted taken =
    let q : wanted_at w s ≡ FromOldest w.count = rw by refl in
    let P : Wanted → Type 0 = λ x. IsAnswer r (now M) H x h.first h.entries in
    let a = subst P q answer in
    by_oldest H (now M) r s w h.first h.count h.entries p after asks (Sound-now r M H served) (In-now r M H served) a.some a.most by next near counted a.entries a.first_is taken
turn_by H M r s w h p after false asks by next near served answer counted taken =
    let q : wanted_at w s ≡ FromOrdinal s w.count = rw by refl in
    let P : Wanted → Type 0 = λ x. IsAnswer r (now M) H x h.first h.entries in
    let a = subst P q answer in
    by_number H (now M) r s w h.first h.count h.entries p after (Sound-now r M H served) (In-now r M H served) a.some a.most by next (near (or_left w.fresh w.asks_oldest by)) counted a.entries a.first_is taken

-- what an answer of ours means
pub turn_of : (H : History) (M : List Moment) (r s : ℕ) (w : WalkPlace) (heard : Option AckParameters) (p : Result Progress BadReply) (after : WalkPlace) →
    0 < w.count → w.next ≡ sequence_number s → (w.fresh ≡ false → IsNear s (now M)) → AreServed r M H → Says r (now M) H (wanted_at w s) heard → IsTakenFrom w heard p after → TurnOf r H (now M) s w p after
turn_of H M r s w None p after asks next near served says taken = absurd says
turn_of H M r s w (Some h) p after asks next near served says taken = turn_by H M r s w h p after (asks_oldest_now w) asks refl next near served says.0 says.1 taken
