-- Where a poll stands, once rows are put.
use Rattle.std.proofs.Common.{arith, ◌≡◌, ℕ, suc, ◌+◌, ◌-◌, ◌<◌, ◌≤◌, nat_lt, List, [], ◌∷◌, take, length, get_or, Option, None, Some, inl, inr, refl, sym, ap, subst, ◌∙◌}
use Rattle.std.specs.List.{slice_get}
use Rattle.std.specs.Option.{option_map}
use Rattle.std.proofs.lemmas.Bool.{cond-true, eqb-true, lt-ltb}
use Rattle.std.proofs.lemmas.Option.{none-some, same_Some, slice_get-get_or}
use Rattle.sqlite_value.specs.Order.{Row as Values}
use Rattle.bac_link.specs.Ordinals.{number_after}
use Rattle.bac_walk.specs.declared.batch.Numbered.{Numbered}
use Rattle.bac_poll.specs.DateTime.{dated}
use Rattle.bac_poll.specs.State.{KeptAs, PollState, StandingAs, kept_of}
use Rattle.bac_poll.specs.Turns.{before_last, behind, kept_or, last_in, number_before, third_known}
use Rattle.bac_known.specs.declared.date_time.DateTime.{DateTime}
use Rattle.bac_resume.specs.Laws.{FullGoesOnAtOne, GoesOnAnew, GoesOnBehindGap, GoesOnBehindRecords, JoinsThere, SayRun, SaysRecord, kept_undayed, place_of, undayed, with_rows}
use Rattle.bac_resume.specs.Resumed.{Agree, IsKept, IsStamped, StandsBy}
use Rattle.bac_resume.specs.Stands.{known_at, known_before, last_number}
use Rattle.bac_resume.specs.Texts.{HasDate}
use Rattle.bac_resume.proofs.Known.{known_cut, known_more, known_none, last_of_gap, last_of_record, newest_is, number_back, number_behind, record_is}
use Rattle.bac_resume.proofs.Written.{day_same}

-- ---- a row of a record says what the poll knows of it

dated_says : (held : Numbered) (item : Values) → SaysRecord held item → HasDate item (undayed (dated held.entry))
dated_says held item says = inl (says.stamp ∙ day_same held.entry.date held.entry.time, refl)

kept_says : (held : Numbered) (item : Values) → SaysRecord held item → IsKept item (kept_undayed (kept_of held))
kept_says held item says = record {
  number = sym says.number;
  stamp = dated_says held item says;
  datum = sym says.datum;
  flags = sym says.flags;
}

-- ---- one record

behind_one : (begins : ℕ) (rows : List Values) (p : PollState) (held : Numbered) (item : Values) → StandsBy begins (take 3 rows) (place_of p) → SaysRecord held item →
    held.number ≡ p.next → 0 < p.next → p.next ≤ 4294967295 → StandsBy begins (take 3 (item ∷ rows)) (place_of (behind p (held ∷ []) held))
behind_one begins rows p held item stands says at more few =
    let known : known_before (number_after held.number 1) (item ∷ take 2 rows) ≡ item ∷ known_before p.next (take 2 rows) =
    known_more (number_after held.number 1) p.next item (take 2 rows) (ap (λ (m : ℕ). number_before (number_after m 1)) at ∙ number_back p.next more few) (record_is p.next item says.no_gap (says.number ∙ at)) in
    let first : known_at p.next (take 3 rows) 0 ≡ known_at p.next (take 2 rows) 0 = known_cut p.next 3 2 0 rows (omega arith) (omega arith) in
    let second : known_at p.next (take 3 rows) 1 ≡ known_at p.next (take 2 rows) 1 = known_cut p.next 3 2 1 rows (omega arith) (omega arith) in
    record {
      next = ap (λ (m : ℕ). number_after m 1) (sym (last_of_record item says.no_gap ∙ says.number));
      newest = subst (λ (l : List Values). Agree IsKept (slice_get l 0) (Some (kept_undayed (kept_of held)))) (sym known) (kept_says held item says);
      earlier = subst (λ (l : List Values). Agree IsKept (slice_get l 1) (option_map kept_undayed p.newest)) (sym known)
          (subst (λ (o : Option Values). Agree IsKept o (option_map kept_undayed p.newest)) first stands.newest);
      earliest = subst (λ (l : List Values). Agree IsKept (slice_get l 2) (option_map kept_undayed p.earlier)) (sym known)
          (subst (λ (o : Option Values). Agree IsKept o (option_map kept_undayed p.earlier)) second stands.earlier);
    }

stamped_one : (rows : List Values) (p : PollState) (held : Numbered) (item : Values) → SaysRecord held item → IsStamped (take 3 (item ∷ rows)) (place_of (behind p (held ∷ []) held))
stamped_one rows p held item says =
    subst (λ (o : Option Values). Agree HasDate o (Some (undayed (dated held.entry)))) (sym (newest_is item (take 2 rows) says.no_gap)) (dated_says held item says)

-- ---- the last three of records are those of the records behind the first, and that

last_some : (x : Numbered) (xs : List Numbered) (k : ℕ) → k < length xs → (z : Numbered) × (before_last xs k ≡ Some z) × (before_last (x ∷ xs) k ≡ Some z)
last_some x xs k less =
    let within : length xs - 1 - k < length xs = omega (arith, less) in
    let here : slice_get xs (length xs - 1 - k) ≡ Some (get_or xs (length xs - 1 - k) x) = slice_get-get_or xs (length xs - 1 - k) x within in
    let place : suc (length xs) - 1 - k ≡ suc (length xs - 1 - k) = omega (arith, less) in (
      get_or xs (length xs - 1 - k) x,
      cond-true (nat_lt k (length xs)) (slice_get xs (length xs - 1 - k)) None (lt-ltb k (length xs) less) ∙ here,
      cond-true (nat_lt k (suc (length xs))) (slice_get (x ∷ xs) (suc (length xs) - 1 - k)) None (lt-ltb k (suc (length xs)) (omega (arith, less)))
          ∙ ap (slice_get (x ∷ xs)) place ∙ here,
    )

-- where a poll stands behind a record, with these known before it
abbrev standing : PollState → Numbered → Option KeptAs → Option KeptAs → StandingAs
standing p last earlier earliest = record {
  next = number_after last.number 1;
  newest = Some (kept_undayed (kept_of last));
  earlier = option_map kept_undayed earlier;
  earliest = option_map kept_undayed earliest;
  stamp = Some (undayed (dated last.entry));
  word = p.word;
}

-- what is known before the last of records that came
abbrev earlier_of : PollState → List Numbered → Option KeptAs
earlier_of p records = kept_or (option_map kept_of (before_last records 1)) p.newest

abbrev earliest_of : PollState → List Numbered → Option KeptAs
earliest_of p records = third_known p (option_map kept_of (before_last records 1)) (option_map kept_of (before_last records 2))

one_more : (p : PollState) (held second : Numbered) (more : List Numbered) → earlier_of (behind p (held ∷ []) held) (second ∷ more) ≡ earlier_of p (held ∷ second ∷ more)
one_more p held second [] = refl
one_more p held second (third ∷ more) =
    let was = last_some held (second ∷ third ∷ more) 1 (omega arith) in
    ap (λ (o : Option Numbered). kept_or (option_map kept_of o) (Some (kept_of held))) was.1
    ∙ sym (ap (λ (o : Option Numbered). kept_or (option_map kept_of o) p.newest) was.2)

two_more : (p : PollState) (held second : Numbered) (more : List Numbered) → earliest_of (behind p (held ∷ []) held) (second ∷ more) ≡ earliest_of p (held ∷ second ∷ more)
two_more p held second [] = refl
two_more p held second (third ∷ []) = refl
two_more p held second (third ∷ fourth ∷ more) =
    let was = last_some held (second ∷ third ∷ fourth ∷ more) 1 (omega arith) in
    let then' = last_some held (second ∷ third ∷ fourth ∷ more) 2 (omega arith) in
    (λ i. third_known (behind p (held ∷ []) held) (option_map kept_of (was.1 i)) (option_map kept_of (then'.1 i)))
    ∙ sym (λ i. third_known p (option_map kept_of (was.2 i)) (option_map kept_of (then'.2 i)))

-- records that come at once leave a poll where they leave it that come one by one
by_one : (p : PollState) (held second last : Numbered) (more : List Numbered) → place_of (behind (behind p (held ∷ []) held) (second ∷ more) last) ≡ place_of (behind p (held ∷ second ∷ more) last)
by_one p held second last more = λ i. standing p last (one_more p held second more i) (two_more p held second more i)

last_more : (held second last : Numbered) (more : List Numbered) → last_in (held ∷ second ∷ more) ≡ Some last → last_in (second ∷ more) ≡ Some last
last_more held second last more is =
    let here : suc (length more) - 1 ≡ length more = omega arith in
    let there : suc (suc (length more)) - 1 ≡ suc (length more) = omega arith in
    ap (slice_get (second ∷ more)) here ∙ sym (ap (slice_get (held ∷ second ∷ more)) there) ∙ is

-- ---- all of them

-- it stands so, and the newest record has that date and time
abbrev StandsDated : ℕ → List Values → StandingAs → Type 0
StandsDated begins rows at = StandsBy begins rows at × IsStamped rows at

behind_all : (begins : ℕ) (rows items : List Values) (p : PollState) (records : List Numbered) (last : Numbered) → StandsBy begins (take 3 rows) (place_of p) → SayRun p.next records items →
    last_in records ≡ Some last → StandsDated begins (take 3 (with_rows rows items)) (place_of (behind p records last))
behind_all begins rows items p [] last stands say is = absurd (none-some last is)
behind_all begins rows [] p (held ∷ more) last stands say is = absurd say
behind_all begins rows (item ∷ []) p (held ∷ []) last stands say is =
    subst (λ (h : Numbered). StandsDated begins (take 3 (item ∷ rows)) (place_of (behind p (held ∷ []) h))) (same_Some held last is)
    (behind_one begins rows p held item stands say.0 say.1 say.2 say.3, stamped_one rows p held item say.0)
behind_all begins rows (item ∷ other ∷ items) p (held ∷ []) last stands say is = absurd say.4
behind_all begins rows (item ∷ []) p (held ∷ second ∷ more) last stands say is = absurd say.4
behind_all begins rows (item ∷ other ∷ items) p (held ∷ second ∷ more) last stands say is =
    let one = behind_one begins rows p held item stands say.0 say.1 say.2 say.3 in
    let next : p.next + 1 ≡ number_after held.number 1 = sym (ap (λ (m : ℕ). number_after m 1) say.1 ∙ number_behind p.next (omega (arith, say.4.3))) in
    let others = subst (λ (m : ℕ). SayRun m (second ∷ more) (other ∷ items)) next say.4 in
    subst (λ (at : StandingAs). StandsDated begins (take 3 (with_rows (item ∷ rows) (other ∷ items))) at) (by_one p held second last more)
    (behind_all begins (item ∷ rows) (other ∷ items) (behind p (held ∷ []) held) (second ∷ more) last one others (last_more held second last more is))

pub behind_records : GoesOnBehindRecords
behind_records begins rows items p records last stands say is = behind_all begins rows items p records last stands say is

-- ---- a gap, and an epoch that begins

pub behind_gap : GoesOnBehindGap
behind_gap begins last rows item p gap =
    let known : known_before (number_after last 1) (item ∷ take 2 rows) ≡ [] = known_none (number_after last 1) last item (take 2 rows) gap in
    record {
      next = sym (ap (λ (m : ℕ). number_after m 1) (last_of_gap item last gap));
      newest = subst (λ (l : List Values). Agree IsKept (slice_get l 0) None) (sym known) tt;
      earlier = subst (λ (l : List Values). Agree IsKept (slice_get l 1) None) (sym known) tt;
      earliest = subst (λ (l : List Values). Agree IsKept (slice_get l 2) None) (sym known) tt;
    }

pub full_one : FullGoesOnAtOne
full_one begins [] is = absurd (cc)
full_one begins (item ∷ items) is = ap (λ (m : ℕ). number_after m 1) (eqb-true (last_number item) 4294967295 is)

pub anew : GoesOnAnew
anew first p word = (
  record { next = refl; newest = tt; earlier = tt; earliest = tt },
  record { next = refl; newest = tt; earlier = tt; earliest = tt },
  tt,
)

-- ---- the poll that is made of what rows say

kept_again : (item : Values) (kept : KeptAs) → IsKept item kept → IsKept item (kept_undayed kept)
kept_again item kept is = record {
  number = is.number;
  stamp = date_again item kept.stamp is.stamp;
  datum = is.datum;
  flags = is.flags;
}
  where
    date_again : (item : Values) (at : DateTime) → HasDate item at → HasDate item (undayed at)
    date_again item at (inl says) = inl (says.0 ∙ day_same at.date at.time, refl)
    date_again item at (inr none) = inr (none.0, ap undayed none.1)

agree_again : (item : Option Values) (kept : Option KeptAs) → Agree IsKept item kept → Agree IsKept item (option_map kept_undayed kept)
agree_again None None is = tt
agree_again None (Some kept) is = absurd is
agree_again (Some item) None is = absurd is
agree_again (Some item) (Some kept) is = kept_again item kept is

pub joins : JoinsThere
joins log device count begins rows at told stands = record {
  next = stands.next;
  newest = agree_again (known_at at.next rows 0) at.newest stands.newest;
  earlier = agree_again (known_at at.next rows 1) at.earlier stands.earlier;
  earliest = agree_again (known_at at.next rows 2) at.earliest stands.earliest;
}
