-- An answer that a walk takes.
use Rattle.std.proofs.Common.{◌≡◌, ℕ, true, false, ◌<◌, ◌≤◌, Option, None, Some, Ok, List, [], ◌∷◌, ◌++◌, length, map, refl, sym, ap, subst, ◌∙◌, arith}
use Rattle.std.specs.Prelude.{nat_le}
use Rattle.std.proofs.lemmas.Bool.{leb-true, and_parts, eq-eqb}
use Rattle.bac_log.specs.declared.entry.Entry.{Entry}
use Rattle.bac_link.specs.Heard.{AckParameters}
use Rattle.bac_link.specs.Ordinals.{number_after}
use Rattle.bac_walk.specs.Place.{WalkPlace}
use Rattle.bac_walk.specs.declared.batch.Batch.{Batch}
use Rattle.bac_walk.specs.declared.outcome.Progress.{Progress}
use Rattle.bac_walk.specs.declared.outcome.Progress.TheVariants.{Batch as BatchOf, AskOldest, CaughtUp}
use Rattle.bac_walk.specs.Walks.{with_numbers, item_of, gap_items, gap_of, is_past, fits, NextAct, Refuse, Ask, End, Bring, verdict, IsTaken, IsTakenFrom}
use Rattle.bac_walk.proofs.Numbers.{map-with_numbers}
use Rattle.bac_walk.specs.Replies.{fitting}

pub fits_few : (w : WalkPlace) (f n : ℕ) → fits w f n ≡ true → n ≤ w.count
fits_few w f n e = leb-true n w.count (and_parts (nat_le n w.count) _ e).0

pub verdict-bring : (w : WalkPlace) (f count : ℕ) (es : List Entry) → 0 < length es → is_past w f ≡ false → count ≡ length es →
    fits w f (length es) ≡ true → verdict w (Some f) count es ≡ Bring f
verdict-bring w f count [] some current same fitting = absurd (omega arith)
verdict-bring w f count (e ∷ es) some current same fitting = rw (current, fitting, eq-eqb count (length (e ∷ es)) same) refl

pub taken : (w : WalkPlace) (h : AckParameters) (heard : Option AckParameters) (f : ℕ) (b : Batch) (new : WalkPlace) → heard ≡ Some h → h.first ≡ Some f →
    0 < length h.entries → is_past w f ≡ false → h.count ≡ length h.entries → fits w f (length h.entries) ≡ true →
    gap_items b.gap ≡ gap_of w f → b.entries.items ≡ with_numbers f h.entries →
    new ≡ record w { next = number_after f (length h.entries); fresh = false; asks_oldest = false } →
    IsTakenFrom w heard (Ok (BatchOf b)) new
taken w h heard f b new said is some current count fitting gap entries after =
    let v : verdict w h.first h.count h.entries ≡ Bring f = ap (λ o. verdict w o h.count h.entries) is ∙ verdict-bring w f h.count h.entries some current count fitting in
    let P : NextAct → Type 0 = λ u. IsTaken w h.entries u (Ok (BatchOf b)) new in
    let Q : Option AckParameters → Type 0 = λ o. IsTakenFrom w o (Ok (BatchOf b)) new in
    subst Q (sym said) (subst P (sym v) (
      ap (λ g. g ++ map item_of b.entries.items) gap ∙ ap (λ n. gap_of w f ++ map item_of n) entries
          ∙ ap (λ n. gap_of w f ++ n) (map-with_numbers f h.entries),
      after,
    ))

-- the log stays
log_of : (w : WalkPlace) (es : List Entry) (v : NextAct) (p : Progress) (after : WalkPlace) → IsTaken w es v (Ok p) after → after.log ≡ w.log
log_of w es Refuse p after taken = absurd taken
log_of w es Ask AskOldest after taken = ap (λ (u : WalkPlace). u.log) taken
log_of w es Ask CaughtUp after taken = absurd taken
log_of w es Ask (BatchOf b) after taken = absurd taken
log_of w es End AskOldest after taken = absurd taken
log_of w es End CaughtUp after taken = ap (λ (u : WalkPlace). u.log) taken
log_of w es End (BatchOf b) after taken = absurd taken
log_of w es (Bring f) AskOldest after taken = absurd taken
log_of w es (Bring f) CaughtUp after taken = absurd taken
log_of w es (Bring f) (BatchOf b) after taken = ap (λ (u : WalkPlace). u.log) taken.1

-- and so does how many records it asks for
count_of : (w : WalkPlace) (es : List Entry) (v : NextAct) (p : Progress) (after : WalkPlace) → IsTaken w es v (Ok p) after → after.count ≡ w.count
count_of w es Refuse p after taken = absurd taken
count_of w es Ask AskOldest after taken = ap (λ (u : WalkPlace). u.count) taken
count_of w es Ask CaughtUp after taken = absurd taken
count_of w es Ask (BatchOf b) after taken = absurd taken
count_of w es End AskOldest after taken = absurd taken
count_of w es End CaughtUp after taken = ap (λ (u : WalkPlace). u.count) taken
count_of w es End (BatchOf b) after taken = absurd taken
count_of w es (Bring f) AskOldest after taken = absurd taken
count_of w es (Bring f) CaughtUp after taken = absurd taken
count_of w es (Bring f) (BatchOf b) after taken = ap (λ (u : WalkPlace). u.count) taken.1

pub count_stays : (w : WalkPlace) (heard : Option AckParameters) (p : Progress) (after : WalkPlace) → IsTakenFrom w heard (Ok p) after → after.count ≡ w.count
count_stays w None p after taken = absurd taken
count_stays w (Some h) p after taken = count_of w h.entries (verdict w h.first h.count h.entries) p after taken
