-- What one right answer means to a walk, by the verdict on it.
use Rattle.std.proofs.Common.{◌≡◌, ℕ, Bool, true, false, not, ◌&&◌, ◌==◌, ◌<◌, ◌≤◌, ◌⊎◌, if◌then◌else◌, nat_lt, Option, Some, None, Ok, Err, List, [], ◌∷◌, ◌++◌, length, map, refl, sym, ap, subst, ◌∙◌, arith}
use Rattle.std.proofs.lemmas.Bool.{and_parts}
use Rattle.bac_link.specs.Standard.{IsCount}
use Rattle.bac_link.specs.declared.item.Item.{Item}
use Rattle.bac_log.specs.declared.entry.Entry.{Entry}
use Rattle.bac_log.specs.TrendLog.{sequence_number}
use Rattle.bac_link.specs.Delivery.{History, Moment, now, Brings}
use Rattle.bac_link.specs.Moments.{AreServed}
use Rattle.bac_walk.specs.Near.{IsNear}
use Rattle.bac_walk.specs.Place.{WalkPlace}
use Rattle.bac_link.specs.Heard.{AckParameters}
use Rattle.bac_link.specs.Ordinals.{distance, number_after}
use Rattle.bac_walk.specs.Takes.{Says}
use Rattle.bac_walk.specs.Turns.{NoneOfAsked, base}
use Rattle.bac_walk.specs.Walks.{asks_oldest_now, brought, fits, gap_items, gap_of, is_past, item_of, items_in, verdict, wanted_at, with_numbers, IsTaken, NextAct, Bring, Refuse, Ask, End}
use Rattle.bac_walk.specs.declared.batch.Batch.{Batch}
use Rattle.bac_walk.specs.declared.batch.Gap.{Gap as GapOf}
use Rattle.bac_walk.specs.declared.outcome.BadReply.{BadReply}
use Rattle.bac_walk.specs.declared.outcome.Progress.TheVariants.{Batch as BatchOf, AskOldest, CaughtUp}
use Rattle.bac_walk.proofs.Numbers.{map-with_numbers, length-with_numbers}
use Rattle.bac_walk.proofs.Turns.{turn_of}
use Rattle.bac_walk.proofs.WalkTakes.{fits_few}

abbrev pub VerdictOf : History → Moment → ℕ → WalkPlace → NextAct → List Entry → Type 0
VerdictOf H m s w Refuse es = ⊥
VerdictOf H m s w Ask es = (asks_oldest_now w ≡ false) × NoneOfAsked w.count s m
VerdictOf H m s w End es = (asks_oldest_now w ≡ true) × ((m.newest < m.oldest) ⊎ ((w.fresh ≡ false) × (m.oldest < s)))
VerdictOf H m s w (Bring f) es =
    (t : ℕ) × Brings H m (base w s m) (brought w f es) t × (0 < length (brought w f es)) × (number_after f (length es) ≡ sequence_number t)

-- ---- records that are brought are as many as were asked for at most

bring_fits : (w : WalkPlace) (g count : ℕ) (e : Entry) (es : List Entry) (f : ℕ) (past ok : Bool) → ((count == length (e ∷ es)) && fits w g (length (e ∷ es))) ≡ ok →
    (if past then End else (if ok then Bring g else Refuse)) ≡ Bring f → fits w g (length (e ∷ es)) ≡ true
bring_fits w g count e es f true ok here is = absurd (cc)
bring_fits w g count e es f false false here is = absurd (cc)
bring_fits w g count e es f false true here is = (and_parts (count == length (e ∷ es)) _ here).1

none_brought : (oldest : Bool) (f : ℕ) → (if oldest then End else Ask) ≡ Bring f → ⊥
none_brought true f is = cc
none_brought false f is = cc

bring_few : (w : WalkPlace) (first : Option ℕ) (count : ℕ) (es : List Entry) (f : ℕ) → verdict w first count es ≡ Bring f → (0 < length es) × (length es ≤ w.count)
bring_few w first count [] f is = absurd (none_brought (asks_oldest_now w) f is)
bring_few w None count (e ∷ es) f is = absurd (cc)
bring_few w (Some g) count (e ∷ es) f is =
    (omega arith, (fits_few w g (length (e ∷ es)) (bring_fits w g count e es f (is_past w g) _ refl is)))

-- ---- the batch of them

abbrev gap_from : Bool → ℕ → ℕ → Option GapOf
gap_from true next first = Some (record { first = next; before = first })
gap_from false next first = None

gap_same : (w : WalkPlace) (f : ℕ) (b : Bool) → (not w.fresh && nat_lt 0 (distance w.next f)) ≡ b → gap_items (gap_from b w.next f) ≡ gap_of w f
gap_same w f true is = rw is refl
gap_same w f false is = rw is refl

-- ---- the verdict

pub verdict_of : (H : History) (M : List Moment) (r s : ℕ) (w : WalkPlace) (h : AckParameters) (v : NextAct) → verdict w h.first h.count h.entries ≡ v →
    w.next ≡ sequence_number s → IsCount w.count → (w.fresh ≡ false → IsNear s (now M)) → AreServed r M H → Says r (now M) H (wanted_at w s) (Some h) → VerdictOf H (now M) s w v h.entries
verdict_of H M r s w h Refuse is next many near served says =
    let e : BadReply = record {} in
    let P : NextAct → Type 0 = λ u. IsTaken w h.entries u (Err e) w in
    turn_of H M r s w (Some h) (Err e) w many.some next near served says (subst P (sym is) refl)
verdict_of H M r s w h Ask is next many near served says =
    let after : WalkPlace = record w { asks_oldest = true } in
    let P : NextAct → Type 0 = λ u. IsTaken w h.entries u (Ok AskOldest) after in
    let turn = turn_of H M r s w (Some h) (Ok AskOldest) after many.some next near served says (subst P (sym is) refl) in
    (turn.0, turn.1)
verdict_of H M r s w h End is next many near served says =
    let P : NextAct → Type 0 = λ u. IsTaken w h.entries u (Ok CaughtUp) w in
    let turn = turn_of H M r s w (Some h) (Ok CaughtUp) w many.some next near served says (subst P (sym is) refl) in
    (turn.0, turn.1)
verdict_of H M r s w h (Bring f) is next many near served says =
    let few = bring_few w h.first h.count h.entries f is in
    let test : Bool = not w.fresh && nat_lt 0 (distance w.next f) in
    let size : length (with_numbers f h.entries) ≡ length h.entries = length-with_numbers f h.entries (with_numbers f h.entries) refl in
    let b : Batch = record {
      gap = gap_from test w.next f;
      entries = record { items = with_numbers f h.entries };
      some = omega (arith, few.0, size);
      most = omega (arith, few.1, size, many.most);
    } in
    let after : WalkPlace = record w { next = number_after f (length h.entries); fresh = false; asks_oldest = false } in
    let same : items_in b ≡ brought w f h.entries =
    ap (λ g. g ++ map item_of (with_numbers f h.entries)) (gap_same w f test refl) ∙ ap (λ l. gap_of w f ++ l) (map-with_numbers f h.entries) in
    let P : NextAct → Type 0 = λ u. IsTaken w h.entries u (Ok (BatchOf b)) after in
    let turn = turn_of H M r s w (Some h) (Ok (BatchOf b)) after many.some next near served says (subst P (sym is) (same, refl)) in
    let Q : List Item → Type 0 = λ xs. Brings H (now M) (base w s (now M)) xs turn.0 in
    let R : List Item → Type 0 = λ xs. 0 < length xs in
    (turn.0, subst Q same turn.1, subst R same turn.2, ap (λ (p : WalkPlace). p.next) turn.3)
