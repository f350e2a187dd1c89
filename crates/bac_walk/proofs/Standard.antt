-- What a reply by the standard means to a walk.
use Rattle.std.proofs.Common.{◌≡◌, ℕ, suc, max, Bool, true, false, not, ◌+◌, ◌<◌, ◌≤◌, ◌⊎◌, inl, inr, if◌then◌else◌, nat_lt, nat_le, Option, Some, Result, Ok, Err, List, [], ◌∷◌, ◌++◌, length, refl, sym, ap, subst, ◌∙◌, arith}
use Rattle.std.proofs.lemmas.Bool.{cases_lt, leb-true, leb-false, le-ltb, le-leb, not-true, not-false}
use Rattle.bac_link.specs.declared.item.Item.{Item}
use Rattle.bac_link.specs.declared.item.Item.TheVariants.{Gap}
use Rattle.bac_link.specs.Delivery.{History, Moment, AreHeld, Brings}
use Rattle.bac_log.specs.declared.entry.Entry.{Entry}
use Rattle.bac_log.specs.TrendLog.{sequence_number}
use Rattle.bac_link.specs.Heard.{AckParameters}
use Rattle.bac_walk.specs.Meant.{MeansOf}
use Rattle.bac_link.specs.Moments.{IsInWindow}
use Rattle.bac_link.specs.Ordinals.{distance, number_after, is_ahead}
use Rattle.bac_walk.specs.Place.{WalkPlace}
use Rattle.bac_link.specs.Standard.{Asked, FromNumber, FromOldest, IsCount, count_asked, HoldsNumber, AreHeldFrom, AreFrom, SaysAt}
use Rattle.bac_walk.specs.Turns.{base}
use Rattle.bac_walk.specs.Walks.{shown_from, gap_of, asked_by, asks_oldest_now, is_past, fits, items_in, NextAct, Bring, End, Ask, verdict, IsTaken, IsTakenFrom, logged_from}
use Rattle.bac_walk.specs.declared.outcome.BadReply.{BadReply}
use Rattle.bac_walk.specs.declared.outcome.Progress.{Progress}
use Rattle.bac_walk.specs.declared.outcome.Progress.TheVariants.{Batch as BatchOf, AskOldest, CaughtUp}
use Rattle.bac_walk.proofs.Shown.{number-is, distance-number, distance-behind, after-number, ahead-number, shown_logged}
use Rattle.bac_walk.proofs.Turns.{gapped, gap_same, or_left, both_true, last_false}
use Rattle.bac_walk.proofs.WalkTakes.{verdict-bring}

-- ---- entries

-- held entries, as items
held_items : (H : History) (m : Moment) (k : ℕ) (es : List Entry) → AreHeldFrom H m k es → AreHeld H m k (logged_from k es) (k + length es)
held_items H m k [] are = omega arith
held_items H m k (e ∷ es) are =
    let P : ℕ → Type 0 = λ n. AreHeld H m (k + 1) (logged_from (k + 1) es) n in
    let same : (k + 1) + length es ≡ k + suc (length es) = omega arith in
    (refl, are.0, are.1, subst P same (held_items H m (k + 1) es are.2))

-- the last of them is held too
rest_within : (H : History) (m : Moment) (k : ℕ) (es : List Entry) → k ≤ m.newest → AreHeldFrom H m (k + 1) es → k + suc (length es) ≤ m.newest + 1
rest_within H m k [] le are = omega (arith, le)
rest_within H m k (e ∷ es) le are = omega (arith, rest_within H m (k + 1) es are.0.1 are.2)

held_within : (H : History) (m : Moment) (k : ℕ) (es : List Entry) → 0 < length es → AreHeldFrom H m k es → (m.oldest ≤ k) × (k + length es ≤ m.newest + 1)
held_within H m k [] some are = absurd (omega arith)
held_within H m k (e ∷ es) some are = (are.0.0, rest_within H m k es are.0.1 are.2)

-- ---- one reply

bring : (H : History) (m : Moment) (low s u : ℕ) (w : WalkPlace) (es : List Entry) (p : Result Progress BadReply) (after : WalkPlace) →
    IsInWindow low m → base w s m ≡ u → IsTaken w es (Bring (sequence_number (max u m.oldest))) p after →
    0 < length es → AreHeldFrom H m (max u m.oldest) es →
    gap_of w (sequence_number (max u m.oldest)) ≡ (if nat_lt u m.oldest then Gap (sequence_number u) (sequence_number m.oldest) ∷ [] else []) →
    MeansOf H m low s w p after
bring H m low s u w es (Err e) after window from taken some are gap = absurd taken
bring H m low s u w es (Ok AskOldest) after window from taken some are gap = absurd taken
bring H m low s u w es (Ok CaughtUp) after window from taken some are gap = absurd taken
bring H m low s u w es (Ok (BatchOf b)) after window from taken some are gap =
    let f = max u m.oldest in
    let G : List Item = (if nat_lt u m.oldest then Gap (sequence_number u) (sequence_number m.oldest) ∷ [] else []) in
    let items : items_in b ≡ G ++ logged_from f es =
    taken.0 ∙ ap (λ g. g ++ shown_from (sequence_number f) es) gap ∙ ap (λ x. G ++ x) (shown_logged f es) in
    let P : List Item → Type 0 = λ xs. Brings H m u xs (f + length es) in
    let next : number_after (sequence_number f) (length es) ≡ sequence_number (f + length es) = after-number f (length es) in
    let in_log = held_within H m f es some are in
    let B : ℕ → Type 0 = λ n. (t : ℕ) × Brings H m n (items_in b) t
    × (after ≡ record w { next = sequence_number t; fresh = false; asks_oldest = false })
    × (low ≤ t) × (t < low + 2147483648) in
    subst B (sym from) (
      f + length es,
      subst P (sym items) (gapped H m u (f + length es) es (nat_lt u m.oldest) refl some (held_items H m f es are)),
      taken.1 ∙ ap (λ (n : ℕ). record w { next = n; fresh = false; asks_oldest = false }) next,
      omega (arith, window.oldest, in_log.0),
      omega (arith, window.newest, in_log.1),
    )

ask : (H : History) (m : Moment) (low s : ℕ) (w : WalkPlace) (p : Result Progress BadReply) (after : WalkPlace) →
    IsTaken w [] Ask p after → asks_oldest_now w ≡ false → (HoldsNumber m w.next → ⊥) → MeansOf H m low s w p after
ask H m low s w (Err e) after taken by none = absurd taken
ask H m low s w (Ok (BatchOf b)) after taken by none = absurd taken
ask H m low s w (Ok CaughtUp) after taken by none = absurd taken
ask H m low s w (Ok AskOldest) after taken by none = (by, none, taken)

end : (H : History) (m : Moment) (low s : ℕ) (w : WalkPlace) (es : List Entry) (p : Result Progress BadReply) (after : WalkPlace) →
    IsTaken w es End p after → asks_oldest_now w ≡ true →
    (m.newest < m.oldest) ⊎ ((w.fresh ≡ false) × (m.oldest < s)) → MeansOf H m low s w p after
end H m low s w es (Err e) after taken by none = absurd taken
end H m low s w es (Ok (BatchOf b)) after taken by none = absurd taken
end H m low s w es (Ok AskOldest) after taken by none = absurd taken
end H m low s w es (Ok CaughtUp) after taken by none = (by, none, taken)

-- ordinals of one number that lie in one window are the same
same_ordinal : (low s k : ℕ) → low ≤ s → s < low + 2147483648 → low ≤ k → k < low + 2147483648 → sequence_number s ≡ sequence_number k → s ≡ k
same_ordinal low s k a b c d e = omega (arith, a, b, c, d, e)

-- where records begin that were asked for by number
first_place : (H : History) (m : Moment) (low s k count : ℕ) (next : ℕ) (first : Option ℕ) (es : List Entry) → count ≤ 100 → IsInWindow low m → next ≡ sequence_number s →
    low ≤ s → s < low + 2147483648 → 0 < length es → AreFrom H m k count first es →
    (next ≡ sequence_number k) ⊎ ((HoldsNumber m next → ⊥) × (k ≡ m.oldest) × (distance next (sequence_number k) + length es ≤ count)) →
    (k ≡ max s m.oldest) × (distance next (sequence_number k) + length es ≤ count)
first_place H m low s k count next first es small window is above below some (first_is, few, are) (inl same) =
    let in_log = held_within H m k es some are in
    let here : s ≡ k = same_ordinal low s k above below (omega (arith, window.oldest, in_log.0)) (omega (arith, window.newest, in_log.1, some)) (sym is ∙ same) in
    let zero : distance (sequence_number k) (sequence_number k) ≡ 0 = omega (arith, distance-number k k (omega arith) (omega arith)) in
    let near : distance next (sequence_number k) ≡ 0 = ap (λ n. distance n (sequence_number k)) same ∙ zero in
    (omega (arith, here, in_log.0), omega (arith, near, few))
first_place H m low s k count next first es small window is above below some (first_is, few, are) (inr gone) =
    elim (cases_lt m.oldest s) [
      | inl lt ↦
          let far : 2147483648 ≤ distance (sequence_number s) (sequence_number m.oldest) = distance-behind s m.oldest lt (omega (arith, window.oldest, below)) in
          let as_is : distance next (sequence_number k) ≡ distance (sequence_number s) (sequence_number m.oldest) =
          ap (λ n. distance n (sequence_number k)) is ∙ ap (λ n. distance (sequence_number s) (sequence_number n)) gone.1 in
          absurd (omega (arith, far, as_is, gone.2, small))
      | inr ge ↦ (omega (arith, ge, gone.1), gone.2)
    ]

by_number : (H : History) (m : Moment) (low s : ℕ) (w : WalkPlace) (first : Option ℕ) (count : ℕ) (es : List Entry) (p : Result Progress BadReply) (after : WalkPlace) →
    IsCount w.count → IsInWindow low m → asks_oldest_now w ≡ false → w.next ≡ sequence_number s → low ≤ s → s < low + 2147483648 → count ≡ length es →
    SaysAt m H (FromNumber w.next w.count) first es → IsTaken w es (verdict w first count es) p after → MeansOf H m low s w p after
by_number H m low s w first count [] p after asks window by next above below counted says taken =
    let P : Bool → Type 0 = λ b. IsTaken w [] (if b then End else Ask) p after in
    ask H m low s w p after (subst P by taken) by says
by_number H m low s w first count (e ∷ es) p after asks window by next above below counted (k, from, which) taken =
    let f = max s m.oldest in
    let place = first_place H m low s k w.count w.next first (e ∷ es) asks.most window next above below (omega arith) from which in
    let F : ℕ → Type 0 = λ n. AreFrom H m n w.count first (e ∷ es) × (distance w.next (sequence_number n) + length (e ∷ es) ≤ w.count) in
    let at = subst F place.0 (from, place.1) in
    let past : is_past w (sequence_number f) ≡ false = rw by refl in
    let few_asked : nat_le (length (e ∷ es)) w.count ≡ true = le-leb _ _ at.0.1 in
    let within : nat_le (distance w.next (sequence_number f) + length (e ∷ es)) w.count ≡ true = le-leb _ _ at.1 in
    let fitting_in : fits w (sequence_number f) (length (e ∷ es)) ≡ true = rw (few_asked, number-is f, by, within) refl in
    let v : verdict w first count (e ∷ es) ≡ Bring (sequence_number f) =
    ap (λ o. verdict w o count (e ∷ es)) at.0.0 ∙ verdict-bring w (sequence_number f) count (e ∷ es) (omega arith) past counted fitting_in in
    let P : NextAct → Type 0 = λ u. IsTaken w (e ∷ es) u p after in
    let old : w.fresh ≡ false = or_left w.fresh w.asks_oldest by in
    let in_log = held_within H m f (e ∷ es) (omega arith) at.0.2 in
    bring H m low s s w (e ∷ es) p after window (rw old refl) (subst P v taken) (omega arith) at.0.2
    (gap_same w s m (nat_lt s m.oldest) refl (omega (arith, above, window.newest, in_log.0, in_log.1)) next old)

oldest_some : (H : History) (m : Moment) (low s : ℕ) (w : WalkPlace) (count : ℕ) (e : Entry) (es : List Entry) (p : Result Progress BadReply) (after : WalkPlace) →
    IsInWindow low m → w.next ≡ sequence_number s → asks_oldest_now w ≡ true → (past fresh : Bool) → is_past w (sequence_number m.oldest) ≡ past → w.fresh ≡ fresh →
    (w.fresh ≡ false → (low ≤ s) × (s < low + 2147483648)) → length (e ∷ es) ≤ w.count → count ≡ length (e ∷ es) →
    AreHeldFrom H m m.oldest (e ∷ es) →
    IsTaken w (e ∷ es) (verdict w (Some (sequence_number m.oldest)) count (e ∷ es)) p after → MeansOf H m low s w p after
oldest_some H m low s w count e es p after window next by true fresh past is_fresh at few counted are taken =
    let v : verdict w (Some (sequence_number m.oldest)) count (e ∷ es) ≡ End = rw past refl in
    let P : NextAct → Type 0 = λ u. IsTaken w (e ∷ es) u p after in
    let both = both_true (asks_oldest_now w) (not w.fresh) (not (is_ahead w.next (sequence_number m.oldest))) past in
    let here = at (not-true w.fresh both.0) in
    let in_log = held_within H m m.oldest (e ∷ es) (omega arith) are in
    let behind : nat_le s m.oldest ≡ false =
    sym (ahead-number s m.oldest (omega (arith, here.1, window.oldest)) (omega (arith, here.0, window.newest, in_log.1))) ∙ ap (λ n. is_ahead n (sequence_number m.oldest)) (sym next) ∙ not-true _ both.1 in
    end H m low s w (e ∷ es) p after (subst P v taken) by (inr (not-true w.fresh both.0, leb-false s m.oldest behind))
oldest_some H m low s w count e es p after window next by false true past is_fresh at few counted are taken =
    let few_asked : nat_le (length (e ∷ es)) w.count ≡ true = le-leb _ _ few in
    let fitting_in : fits w (sequence_number m.oldest) (length (e ∷ es)) ≡ true = rw (few_asked, number-is m.oldest, by) refl in
    let v : verdict w (Some (sequence_number m.oldest)) count (e ∷ es) ≡ Bring (sequence_number m.oldest) = verdict-bring w (sequence_number m.oldest) count (e ∷ es) (omega arith) past counted fitting_in in
    let top : m.oldest ≡ max m.oldest m.oldest = omega arith in
    let P : NextAct → Type 0 = λ u. IsTaken w (e ∷ es) u p after in
    let Q : ℕ → Type 0 = λ f. IsTaken w (e ∷ es) (Bring (sequence_number f)) p after in
    let R : ℕ → Type 0 = λ f. AreHeldFrom H m f (e ∷ es) in
    let none : nat_lt m.oldest m.oldest ≡ false = le-ltb m.oldest m.oldest (omega arith) in
    bring H m low s m.oldest w (e ∷ es) p after window (rw is_fresh refl) (subst Q top (subst P v taken)) (omega arith) (subst R top are) (rw (is_fresh, none) refl)
oldest_some H m low s w count e es p after window next by false false past is_fresh at few counted are taken =
    let here = at is_fresh in
    let in_log = held_within H m m.oldest (e ∷ es) (omega arith) are in
    let few_asked : nat_le (length (e ∷ es)) w.count ≡ true = le-leb _ _ few in
    let fitting_in : fits w (sequence_number m.oldest) (length (e ∷ es)) ≡ true = rw (few_asked, number-is m.oldest, by) refl in
    let v : verdict w (Some (sequence_number m.oldest)) count (e ∷ es) ≡ Bring (sequence_number m.oldest) = verdict-bring w (sequence_number m.oldest) count (e ∷ es) (omega arith) past counted fitting_in in
    let ahead : nat_le s m.oldest ≡ true =
    sym (ahead-number s m.oldest (omega (arith, here.1, window.oldest)) (omega (arith, here.0, window.newest, in_log.1))) ∙ ap (λ n. is_ahead n (sequence_number m.oldest)) (sym next)
    ∙ not-false _ (last_false (asks_oldest_now w) (not w.fresh) (not (is_ahead w.next (sequence_number m.oldest))) past by (ap not is_fresh)) in
    let le : s ≤ m.oldest = leb-true s m.oldest ahead in
    let top : m.oldest ≡ max s m.oldest = omega (arith, le) in
    let P : NextAct → Type 0 = λ u. IsTaken w (e ∷ es) u p after in
    let Q : ℕ → Type 0 = λ f. IsTaken w (e ∷ es) (Bring (sequence_number f)) p after in
    let R : ℕ → Type 0 = λ f. AreHeldFrom H m f (e ∷ es) in
    bring H m low s s w (e ∷ es) p after window (rw is_fresh refl) (subst Q top (subst P v taken)) (omega arith) (subst R top are)
    (gap_same w s m (nat_lt s m.oldest) refl (omega (arith, here.0, window.newest, in_log.1)) next is_fresh)

by_oldest : (H : History) (m : Moment) (low s : ℕ) (w : WalkPlace) (first : Option ℕ) (count : ℕ) (es : List Entry) (p : Result Progress BadReply) (after : WalkPlace) →
    IsInWindow low m → asks_oldest_now w ≡ true → w.next ≡ sequence_number s → (w.fresh ≡ false → (low ≤ s) × (s < low + 2147483648)) → count ≡ length es →
    SaysAt m H (FromOldest w.count) first es → IsTaken w es (verdict w first count es) p after → MeansOf H m low s w p after
by_oldest H m low s w first count [] p after window by next at counted says taken =
    let P : Bool → Type 0 = λ b. IsTaken w [] (if b then End else Ask) p after in
    end H m low s w [] p after (subst P by taken) by (inl says)
by_oldest H m low s w first count (e ∷ es) p after window by next at counted says taken =
    let P : Option ℕ → Type 0 = λ o. IsTaken w (e ∷ es) (verdict w o count (e ∷ es)) p after in
    oldest_some H m low s w count e es p after window next by (is_past w (sequence_number m.oldest)) w.fresh refl refl at says.1 counted says.2 (subst P says.0 taken)

by_asked : (H : History) (m : Moment) (low s : ℕ) (w : WalkPlace) (h : AckParameters) (p : Result Progress BadReply) (after : WalkPlace) →
    (oldest : Bool) → asks_oldest_now w ≡ oldest → IsCount (count_asked (asked_by w)) → IsInWindow low m → w.next ≡ sequence_number s → (w.fresh ≡ false → (low ≤ s) × (s < low + 2147483648)) →
    h.count ≡ length h.entries → SaysAt m H (asked_by w) h.first h.entries → IsTaken w h.entries (verdict w h.first h.count h.entries) p after → MeansOf H m low s w p after
by_asked H m low s w h p after true by asks window next at counted says taken =
    let q : asked_by w ≡ FromOldest w.count = rw by refl in
    let P : Asked → Type 0 = λ x. SaysAt m H x h.first h.entries in
    by_oldest H m low s w h.first h.count h.entries p after window by next at counted (subst P q says) taken
by_asked H m low s w h p after false by asks window next at counted says taken =
    let q : asked_by w ≡ FromNumber w.next w.count = rw by refl in
    let P : Asked → Type 0 = λ x. SaysAt m H x h.first h.entries in
    let here = at (or_left w.fresh w.asks_oldest by) in
    let C : Asked → Type 0 = λ x. IsCount (count_asked x) in
    by_number H m low s w h.first h.count h.entries p after (subst C q asks) window by next here.0 here.1 counted (subst P q says) taken

pub said_means : (H : History) (m : Moment) (low s : ℕ) (w : WalkPlace) (heard : Option AckParameters) (h : AckParameters) (p : Result Progress BadReply) (after : WalkPlace) →
    heard ≡ Some h → IsCount (count_asked (asked_by w)) → IsInWindow low m → w.next ≡ sequence_number s → (w.fresh ≡ false → (low ≤ s) × (s < low + 2147483648)) →
    h.count ≡ length h.entries → SaysAt m H (asked_by w) h.first h.entries → IsTakenFrom w heard p after → MeansOf H m low s w p after
said_means H m low s w heard h p after is asks window next at counted says taken =
    let P : Option AckParameters → Type 0 = λ o. IsTakenFrom w o p after in
    by_asked H m low s w h p after (asks_oldest_now w) refl asks window next at counted says (subst P is taken)
