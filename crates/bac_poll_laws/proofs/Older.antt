-- Each question backwards but one brings an older record.
use Rattle.std.proofs.Common.{arith, ◌≡◌, ℕ, ◌+◌, ◌*◌, ◌-◌, ◌≤◌, ◌<◌, ◌==◌, ◌&&◌, ◌||◌, not, nat_le, nat_lt, Bool, true}
use Rattle.std.proofs.Common.{false, if◌then◌else◌, Option, None, Some, List, [], ◌∷◌, length, refl, sym, ap, subst}
use Rattle.std.proofs.Common.{◌∙◌, ◌⊎◌, inl, inr}
use Rattle.std.proofs.lemmas.Bool.{and_from, eq-eqb, eqb-true, leb-false, leb-true, ltb-false, ltb-true}
use Rattle.std.proofs.lemmas.Slice.Eq.{bytes_eq-Decides}
use Rattle.std.specs.Cmp.{nat_cmp_is}
use Rattle.std.specs.Ordering.{is_eq, nat_cmp, ordering_then}
use Rattle.std.specs.Str.{bytes_eq}
use Rattle.std.specs.declared.cmp.Ordering.{Ordering}
use Rattle.std.specs.declared.cmp.Ordering.TheVariants.{Equal}
use Rattle.bac_log.specs.TrendLog.{sequence_number}
use Rattle.bac_log.specs.declared.entry.Entry.{Entry}
use Rattle.bac_link.specs.Delivery.{History, IsEntry}
use Rattle.bac_link.specs.Ordinals.{distance, is_ahead, number_after}
use Rattle.bac_walk.specs.declared.batch.Numbered.{Numbered}
use Rattle.bac_walk.proofs.Shown.{after-number, distance-behind, distance-number}
use Rattle.bac_poll.specs.Back.{back, back_alone, back_by, back_done, back_more, back_shown, is_front, shown_last}
use Rattle.bac_poll.specs.Back.{went_back}
use Rattle.bac_poll.specs.DateTime.{is_same_time}
use Rattle.bac_poll.specs.Epochs.{another, another_by, renews}
use Rattle.bac_poll.specs.Gone.{asks_restart, asks_revision, asks_word, by_gone, by_word, retold}
use Rattle.bac_poll.specs.Joins.{asks_each, found}
use Rattle.bac_poll.specs.Known.{is_same_value, means_in, number_in, record_at, records_behind, shift_of, shown_as}
use Rattle.bac_poll.specs.Oldest.{sees_by, sees_newest, sees_none, sees_same}
use Rattle.bac_poll.specs.Starts.{starts_at}
use Rattle.bac_poll.specs.State.{KeptAs, PollState, kept_of}
use Rattle.bac_poll.specs.Turns.{Turned, anew, brings, brings_to, confirmed, first_in, first_number, last_in}
use Rattle.bac_poll.specs.Turns.{number_before, number_or, renewed, standing_at}
use Rattle.bac_known.specs.declared.date_time.DateTime.{DateTime}
use Rattle.bac_poll_steps.specs.declared.gone.Gone.{Gone}
use Rattle.bac_poll_steps.specs.declared.gone.Gone.TheVariants.{Dropped, Doubtful, Both}
use Rattle.bac_known.specs.declared.known.Means.{Means}
use Rattle.bac_known.specs.declared.known.Means.TheVariants.{Shifted, Partly, Same, Unshown, Another}
use Rattle.bac_known.specs.declared.known.Shown.{Shown}
use Rattle.bac_known.specs.declared.known.Shown.TheVariants as shown
use Rattle.bac_poll_steps.specs.declared.stage.Aim.{Aim}
use Rattle.bac_poll_steps.specs.declared.stage.Aim.TheVariants.{Finds, Renews, Starts}
use Rattle.bac_poll_steps.specs.declared.stage.Stage.{Stage}
use Rattle.bac_poll_steps.specs.declared.turn.Line.{Line}
use Rattle.bac_poll_steps.specs.declared.turn.Line.TheVariants.{BeganAnew, BeganOrDropped}
use Rattle.bac_poll_steps.specs.declared.stage.Stage.TheVariants as stage
use Rattle.bac_poll_laws.specs.Backwards.{IsLoggedIn}
use Rattle.bac_poll_laws.specs.Bounds.{oldest_one}
use Rattle.bac_poll_laws.specs.Delivers.{LiesIn}
use Rattle.bac_poll_laws.specs.Laws.{HasSome, IsRun, Whichever}
use Rattle.bac_poll_laws.proofs.Ordered.{near_ordinal}
use Rattle.bac_poll_laws.proofs.Wholes.{last_step, split}

-- ---- where a turn goes on backwards

-- A turn that begins an epoch goes on backwards only for its oldest, and from what was looked for in the old one. Else
-- this holds of what is held back, and of the number up to which is asked, for so many records.
abbrev pub BackAt : (List Numbered → ℕ → Type 0) → (c : ℕ) → Aim → (anew : Bool) → PollState → Aim → Type 0
BackAt Z c from false p aim = Z p.held p.reference × (p.walk.count ≡ c)
BackAt Z c from true p aim = (aim ≡ Renews) × (from ≡ Finds)

-- the same by the stage; it isn't begun again
abbrev pub AtBack : (List Numbered → ℕ → Type 0) → (c : ℕ) → Aim → (anew : Bool) → PollState → Stage → Type 0
AtBack Z c from anew p stage.Joins = Unit {0}
AtBack Z c from anew p stage.Prior = Unit {0}
AtBack Z c from anew p stage.Ahead = Unit {0}
AtBack Z c from anew p stage.Again = Unit {0}
AtBack Z c from anew p stage.Each = Unit {0}
AtBack Z c from anew p stage.ByNumber = Unit {0}
AtBack Z c from anew p (stage.Oldest aim) = anew ≡ true
AtBack Z c from anew p (stage.Counts aim) = anew ≡ true
AtBack Z c from anew p (stage.UpTo aim) = Unit {0}
AtBack Z c from anew p (stage.Back aim) = BackAt Z c from anew p aim
AtBack Z c from anew p stage.Revision = Unit {0}
AtBack Z c from anew p stage.Restart = Unit {0}

-- where a turn goes on backwards, from this aim
abbrev pub Steps : (List Numbered → ℕ → Type 0) → ℕ → Aim → Turned → Type 0
Steps Z c from t = t.end ≡ None → AtBack Z c from t.anew t.poll t.poll.stage

module _ (P : Numbered → Type 0) (Z : List Numbered → ℕ → Type 0) (c : ℕ) where
  pick : (o : Aim) (b : Bool) (x y : Turned) → (b ≡ true → Steps Z c o x) → (b ≡ false → Steps Z c o y) → Steps Z c o (if b then x else y)
  pick o b x y f g = split P Whichever (Steps Z c o) b x y f g

  brings_steps_to : (o : Aim) (p : PollState) (rs : List Numbered) (last : Option Numbered) → Steps Z c o (brings_to p rs last)
  brings_steps_to o p rs None = λ going. absurd (cc)
  brings_steps_to o p rs (Some l) = λ going. tt

  brings_steps : (o : Aim) (p : PollState) (rs : List Numbered) → Steps Z c o (brings p rs)
  brings_steps o p rs = brings_steps_to o p rs (last_in rs)

  -- records are kept of a new epoch
  anew_steps_to : (p : PollState) (rs : List Numbered) (last : Option Numbered) (why : Line) → Steps Z c Finds (anew (brings_to p rs last) why)
  anew_steps_to p rs None why = λ going. absurd (cc)
  anew_steps_to p rs (Some l) why = λ going. tt

  another_steps : (p : PollState) → Steps Z c Finds (another p)
  another_steps p = pick Finds (p.lives == 2) _ _ (λ third. λ going. absurd (cc)) (λ more. λ going. refl)

  renews_steps : (p : PollState) (rs : List Numbered) → Steps Z c Finds (anew (renews p rs) BeganAnew)
  renews_steps p rs =
      split P Whichever (λ t. Steps Z c Finds (anew t BeganAnew)) (first_number rs == 1) _ _ (λ first. anew_steps_to p rs (last_in rs) BeganAnew) (λ later. λ going. (refl, refl))

  another_by_steps : (p : PollState) (rs : List Numbered) → Steps Z c Finds (another_by p rs)
  another_by_steps p rs = pick Finds (p.lives == 2) _ _ (λ third. λ going. absurd (cc)) (λ more. renews_steps (renewed p p.told) rs)

  gone_steps : (p : PollState) (first : ℕ) (held : List Numbered) (gone : Gone) → Steps Z c Finds (by_gone p first held gone)
  gone_steps p first held Dropped = brings_steps Finds (standing_at (confirmed (retold p)) first) held
  gone_steps p first held Doubtful = brings_steps Finds (standing_at (confirmed (retold p)) first) held
  gone_steps p first held Both = anew_steps_to (standing_at (renewed (retold p) p.told) first) held (last_in held) BeganOrDropped

  by_word_steps : (p : PollState) (held : List Numbered) → Steps Z c Finds (by_word p held)
  by_word_steps p held = gone_steps p _ held _

  restart_steps : (p : PollState) (held : List Numbered) (restart : List ℕ) → Steps Z c Finds (asks_restart p held restart)
  restart_steps p held [] = by_word_steps p held
  restart_steps p held (octet ∷ octets) = λ going. tt

  revision_steps : (p : PollState) (held : List Numbered) (revision : Option ℕ) → Steps Z c Finds (asks_revision p held revision)
  revision_steps p held None = restart_steps p held p.word.restart
  revision_steps p held (Some was) = λ going. tt

  word_steps : (p : PollState) (held : List Numbered) → Steps Z c Finds (asks_word p held)
  word_steps p held = revision_steps (record p { again = p.told }) held p.word.revision

  -- records that are seen, where those before them were looked for
  sees_none_steps : (p : PollState) (records : List Numbered) → Steps Z c Finds (sees_none p false false records)
  sees_none_steps p records = pick Finds (is_ahead p.next (first_number records)) _ _ (λ behind. word_steps p records) (λ before. another_by_steps p records)

  sees_newest_steps : (p : PollState) (kept : KeptAs) (records : List Numbered) (at : Option Numbered) → Steps Z c Finds (sees_newest p kept false records at)
  sees_newest_steps p kept records None = pick Finds p.alone _ _ (λ alone. another_by_steps p records) (λ other. λ going. tt)
  sees_newest_steps p kept records (Some held) =
      pick Finds ((length (records_behind kept.number records) == 0) && not p.alone) _ _ (λ none. λ going. tt)
      (λ some. pick Finds ((length (records_behind kept.number records) == 0) && false) _ _ (λ short. λ going. tt) (λ more. brings_steps Finds (found p held) (records_behind kept.number records)))

  sees_same_steps : (p : PollState) (records : List Numbered) (newest : Option KeptAs) → Steps Z c Finds (sees_same p false records newest)
  sees_same_steps p records None = another_by_steps p records
  sees_same_steps p records (Some kept) = sees_newest_steps p kept records (record_at kept.number records)

  each_steps : (p : PollState) (held : List Numbered) (number : Option ℕ) → Steps Z c Finds (asks_each p held number)
  each_steps p held None = another_steps p
  each_steps p held (Some number) = λ going. tt

  sees_steps : (p : PollState) (records : List Numbered) (means : Means) → Steps Z c Finds (sees_by p false false records means)
  sees_steps p records Unshown = sees_none_steps p records
  sees_steps p records Same = sees_same_steps p records p.newest
  sees_steps p records (Shifted by) = pick Finds (by == 100) _ _ (λ same. sees_same_steps p records p.newest) (λ moved. sees_same_steps p records p.newest)
  sees_steps p records Partly = each_steps p [] (number_in p.newest)
  sees_steps p records Another = another_by_steps p records

  starts_steps : (o : Aim) (p : PollState) (first : ℕ) (held : List Numbered) (counted : Option ℕ) → Steps Z c o (starts_at p first held counted)
  starts_steps o p first held None = brings_steps o (standing_at (confirmed p) first) held
  starts_steps o p first held (Some counted) =
      pick o (is_ahead counted first) _ _ (λ behind. brings_steps o (standing_at (confirmed p) first) held) (λ before. brings_steps o (standing_at (confirmed p) first) held)

  done_steps : (p : PollState) (aim : Aim) (records : List Numbered) → Steps Z c aim (back_done p aim records)
  done_steps p Finds records = sees_steps p records (means_in p records)
  done_steps p Renews records = brings_steps Renews p records
  done_steps p Starts records = starts_steps Starts p _ records p.counted

  more_steps : (p : PollState) (aim : Aim) (records : List Numbered) → p.walk.count ≡ c → Z records (first_number records) → Steps Z c aim (back_more p aim records)
  more_steps p aim records many older = pick aim (is_front p records (means_in p records)) _ _ (λ front. done_steps p aim records) (λ back. λ going. (older, many))

  alone_steps : (p : PollState) (aim : Aim) (held : List Numbered) → p.walk.count ≡ c → Z held (number_before (first_number held)) → Steps Z c aim (back_alone p aim held)
  alone_steps p aim held many before = pick aim (p.more || (p.walk.count == 1)) _ _ (λ more. λ going. (before, many)) (λ none. done_steps p aim held)

  -- the first that is held back is shown as it was
  shown_steps : (p : PollState) (aim : Aim) (held records : List Numbered) → p.walk.count ≡ c → ((length records == 1) ≡ true → Z held (number_before (first_number held))) →
      ((length records == 1) ≡ false → Z records (first_number records)) → Steps Z c aim (back_shown p aim held records shown.Equal)
  shown_steps p aim held records many before older = pick aim (length records == 1) _ _ (λ alone. alone_steps p aim held many (before alone)) (λ more. more_steps p aim records many (older more))

  -- by the last record of the reply
  abbrev pub Ends : List Numbered → List Numbered → Numbered → Type 0
  Ends held records last =
      ((last.number == first_number held) ≡ true → (shown_last (first_in held) last ≡ shown.Equal) × ((length records == 1) ≡ true → Z held (number_before (first_number held)))
      × ((length records == 1) ≡ false → Z records (first_number records)))
      × ((last.number == first_number held) ≡ false → Z records (first_number records))

  by_steps : (p : PollState) (aim : Aim) (held records : List Numbered) (last : Option Numbered) → p.walk.count ≡ c → ((l : Numbered) → last ≡ Some l → Ends held records l) → Steps Z c aim (back_by p aim held records last)
  by_steps p aim held records None many ends = done_steps p aim held
  by_steps p aim held records (Some l) many ends =
      let all = ends l refl in
      pick aim (l.number == first_number held) _ _ (λ ended. let both = all.0 ended in
      subst (λ (seen : Shown). Steps Z c aim (back_shown p aim held records seen)) (sym both.0) (shown_steps p aim held records many both.1 both.2))
      (λ short. more_steps p aim records many (all.1 short))

  pub back_steps : (p : PollState) (aim : Aim) (held records : List Numbered) → p.walk.count ≡ c → ((l : Numbered) → last_in records ≡ Some l → Ends held records l) → Steps Z c aim (back p aim held records)
  back_steps p aim held records many ends =
      pick aim (nat_lt p.back 2147483648) _ _ (λ near. by_steps (went_back p records) aim held records (last_in records) many ends) (λ far. λ going. absurd (cc))

-- ---- an entry is shown as it was

equal_part : (n : ℕ) → nat_cmp n n ≡ Equal
equal_part n = sym (nat_cmp_is n n Equal refl)

equal_then : (n : ℕ) (rest : Ordering) → ordering_then (nat_cmp n n) rest ≡ rest
equal_then n rest = subst (λ (o : Ordering). ordering_then o rest ≡ rest) (sym (equal_part n)) refl

same_time : (s : DateTime) → is_same_time s s ≡ true
same_time s =
    ap is_eq (equal_then s.date.year _ ∙ equal_then s.date.month _ ∙ equal_then s.date.day _ ∙ equal_then s.time.hour _ ∙ equal_then s.time.minute _ ∙ equal_then s.time.second _
    ∙ equal_part s.time.hundredth)

both_true : (a b : Bool) (x y : Shown) → a ≡ true → b ≡ true → (if a then (if b then shown.Equal else x) else y) ≡ shown.Equal
both_true true true x y is too = refl
both_true false b x y is too = absurd (cc)
both_true true false x y is too = absurd (cc)

same_self : (kept : KeptAs) (number : ℕ) → shown_as kept (record kept { number = number }) ≡ shown.Equal
same_self kept number =
    both_true (is_same_value kept (record kept { number = number })) (is_same_time kept.stamp kept.stamp) (shift_of kept.stamp kept.stamp) shown.Another
    (and_from (bytes_eq kept.datum kept.datum) (bytes_eq kept.flags kept.flags) ((bytes_eq-Decides kept.datum kept.datum).1 refl) ((bytes_eq-Decides kept.flags kept.flags).1 refl))
    (same_time kept.stamp)

same_entry : (f l : Numbered) → f.entry ≡ l.entry → shown_as (kept_of f) (kept_of l) ≡ shown.Equal
same_entry f l same =
    subst (λ (e : Entry). shown_as (kept_of f) (kept_of (record { number = l.number; entry = e })) ≡ shown.Equal) same (same_self (kept_of f) l.number)

-- a turn that goes on so asks for no oldest again
pub none_again : (Z : List Numbered → ℕ → Type 0) (c : ℕ) (o : Aim) (anew : Bool) (p : PollState) (s : Stage) → AtBack Z c o anew p s → anew ≡ false → oldest_one s ≡ 0
none_again Z c o anew p stage.Joins at sure = refl
none_again Z c o anew p stage.Prior at sure = refl
none_again Z c o anew p stage.Ahead at sure = refl
none_again Z c o anew p stage.Again at sure = refl
none_again Z c o anew p stage.Each at sure = refl
none_again Z c o anew p stage.ByNumber at sure = refl
none_again Z c o anew p (stage.Oldest aim) at sure = absurd (cc)
none_again Z c o anew p (stage.Counts aim) at sure = absurd (cc)
none_again Z c o anew p (stage.UpTo aim) at sure = refl
none_again Z c o anew p (stage.Back aim) at sure = refl
none_again Z c o anew p stage.Revision at sure = refl
none_again Z c o anew p stage.Restart at sure = refl

-- ---- numbers of older records

near_up : (low i j : ℕ) → LiesIn low i → LiesIn low j → distance (sequence_number i) (sequence_number j) < 100 → (i ≤ j) × (distance (sequence_number i) (sequence_number j) ≡ j - i)
near_up low i j here there near = by (nat_le i j) refl
  where
    by : (c : Bool) → nat_le i j ≡ c → (i ≤ j) × (distance (sequence_number i) (sequence_number j) ≡ j - i)
    by true is = let le : i ≤ j = leb-true i j is in (le, distance-number i j le (omega (arith, here.0, there.1)))
    by false is =
        let less : j < i = leb-false i j is in
        let far = distance-behind i j less (omega (arith, here.1, there.0)) in
        let never : ⊥ = omega (arith, far, near) in absurd never

-- the number before that of an ordinal is that of the one before
before_is : (j : ℕ) → 0 < j → number_before (sequence_number j) ≡ sequence_number (j - 1)
before_is j some = by (sequence_number j == 1) refl
  where
    by : (c : Bool) → (sequence_number j == 1) ≡ c → (if c then 4294967295 else sequence_number j - 1) ≡ sequence_number (j - 1)
    by true is = let one : sequence_number j ≡ 1 = eqb-true (sequence_number j) 1 is in omega (arith, some, one)
    by false is = other (nat_lt 1 (sequence_number j)) refl
      where
        other : (d : Bool) → nat_lt 1 (sequence_number j) ≡ d → sequence_number j - 1 ≡ sequence_number (j - 1)
        other true more = let above : 1 < sequence_number j = ltb-true 1 (sequence_number j) more in omega (arith, some, above)
        other false none =
            let low : sequence_number j ≤ 1 = ltb-false 1 (sequence_number j) none in
            let one : (sequence_number j == 1) ≡ true = eq-eqb (sequence_number j) 1 (omega (arith, low)) in absurd (cc)

before_up : (low i j : ℕ) → 0 < low → LiesIn low i → LiesIn low j → distance (sequence_number i) (sequence_number (j - 1)) < 100 →
    (i < j) × (distance (sequence_number i) (sequence_number (j - 1)) ≡ j - 1 - i)
before_up low i j some here there near = by (nat_lt i j) refl
  where
    by : (c : Bool) → nat_lt i j ≡ c → (i < j) × (distance (sequence_number i) (sequence_number (j - 1)) ≡ j - 1 - i)
    by true is = let less : i < j = ltb-true i j is in (less, distance-number i (j - 1) (omega (arith, less)) (omega (arith, here.0, there.1)))
    by false is =
        let ge : j ≤ i = ltb-false i j is in
        let far = distance-behind i (j - 1) (omega (arith, ge, some, there.0)) (omega (arith, here.1, there.0, some)) in
        let never : ⊥ = omega (arith, far, near) in absurd never

module _ (H : History) (low : ℕ) where
  -- the number of the last of a run
  run_last : (i : ℕ) (r : Numbered) (rs : List Numbered) → IsRun (IsLoggedIn H low) (sequence_number i) (r ∷ rs) → (l : Numbered) → last_in (r ∷ rs) ≡ Some l →
      l.number ≡ sequence_number (i + length rs)
  run_last i r [] run l is =
      let same : r.number ≡ l.number = ap (λ (o : Option Numbered). number_or 0 o) is in
      let at : i + length {A = Numbered} [] ≡ i = omega arith in
      sym same ∙ run.0 ∙ ap sequence_number (sym at)
  run_last i r (s ∷ rs) run l is =
      let next : number_after r.number 1 ≡ sequence_number (i + 1) = ap (λ (k : ℕ). number_after k 1) run.0 ∙ after-number i 1 in
      let rest = run_last (i + 1) s rs (subst (λ (k : ℕ). IsRun (IsLoggedIn H low) k (s ∷ rs)) next run.2) l (sym (last_step (IsLoggedIn H low) Whichever r s rs) ∙ is) in
      let at : i + 1 + length rs ≡ i + length (s ∷ rs) = omega arith in
      rest ∙ ap sequence_number at

  -- the last of a run is an entry
  pub last_logged : (n : ℕ) (rs : List Numbered) (l : Numbered) → IsRun (IsLoggedIn H low) n rs → last_in rs ≡ Some l → IsLoggedIn H low l
  last_logged n [] l run is = absurd (cc)
  last_logged n (r ∷ []) l run is = let same : r ≡ l = cc in subst (IsLoggedIn H low) same run.1
  last_logged n (r ∷ s ∷ rs) l run is = last_logged (number_after r.number 1) (s ∷ rs) l run.2 (sym (last_step (IsLoggedIn H low) Whichever r s rs) ∙ is)

  -- the first that is held back is shown as it was
  pub first_same : (held : List Numbered) (l : Numbered) → IsRun (IsLoggedIn H low) (first_number held) held → HasSome held → IsLoggedIn H low l → (l.number == first_number held) ≡ true →
      shown_last (first_in held) l ≡ shown.Equal
  first_same [] l run some is ended = absurd some
  first_same (f ∷ fs) l run some is ended =
      let at = run.1 in
      let number : l.number ≡ f.number = eqb-true l.number f.number ended in
      let same : is.0 ≡ at.0 = near_ordinal low is.0 at.0 (is.3, omega (arith, is.4)) (at.3, omega (arith, at.4)) (sym is.1 ∙ number ∙ at.1) in
      let there : IsEntry H at.0 l.entry = subst (λ (k : ℕ). IsEntry H k l.entry) same is.2 in
      let both : Some f.entry ≡ Some l.entry = sym at.2.1 ∙ there.1 in
      same_entry f l (one_entry f.entry l.entry both)
    where
      one_entry : (a b : Entry) → Some a ≡ Some b → a ≡ b
      one_entry a b both = cc

  -- so many questions backwards are left: from the first of the records that are held back on, or from before it
  abbrev pub Refers : ℕ → (j : ℕ) → (number : ℕ) → (reference : ℕ) → Type 0
  Refers n j number reference = ((reference ≡ number) × (n ≡ 2 * (j - low) + 2)) ⊎ ((reference ≡ number_before number) × (n ≡ 2 * (j - low) + 1))

  abbrev pub Left : ℕ → List Numbered → ℕ → Type 0
  Left n held reference = (j : ℕ) × (first_number held ≡ sequence_number j) × LiesIn low j × Refers n j (first_number held) reference

  abbrev pub Below : ℕ → List Numbered → ℕ → Type 0
  Below n held reference = (m : ℕ) × (m < n) × Left m held reference

  -- records that are older than the first that is held back
  older : (n i j : ℕ) (rs : List Numbered) → first_number rs ≡ sequence_number i → low ≤ i → i + 1 < low + 2147483647 → i < j → 2 * (j - low) + 1 ≤ n → Below n rs (first_number rs)
  older n i j rs at above below less enough = (2 * (i - low) + 2, omega (arith, above, less, enough), (i, at, (above, omega (arith, below)), inl (refl, refl)))

  pub from_first : (n j : ℕ) (held : List Numbered) (reference : ℕ) → first_number held ≡ sequence_number j → LiesIn low j → reference ≡ first_number held → n ≡ 2 * (j - low) + 2 →
      (r : Numbered) (rs : List Numbered) → IsRun (IsLoggedIn H low) r.number (r ∷ rs) → distance r.number reference < 100 → length (r ∷ rs) ≤ distance r.number reference + 1 →
      (l : Numbered) → last_in (r ∷ rs) ≡ Some l → ((l.number == first_number held) ≡ true → shown_last (first_in held) l ≡ shown.Equal) → Ends (IsLoggedIn H low) (Below n) 0 held (r ∷ rs) l
  from_first n j held reference at lies from left r rs run near upto l last equal =
      let P = run.1 in
      let i = P.0 in
      let same : distance r.number reference ≡ distance (sequence_number i) (sequence_number j) = ap (λ (k : ℕ). distance k reference) P.1 ∙ ap (λ (k : ℕ). distance (sequence_number i) k) (from ∙ at) in
      let up = near_up low i j (P.3, omega (arith, P.4)) lies (omega (arith, near, same)) in
      let old : i < j → Below n (r ∷ rs) r.number = λ less. older n i j (r ∷ rs) P.1 P.3 P.4 less (omega (arith, left)) in (
        λ ended. (
          equal ended,
          λ alone. (2 * (j - low) + 1, omega (arith, left), (j, at, lies, inr (refl, refl))),
          λ more. old (many rs more up.0 (omega (arith, upto, same, up.1))),
        ),
        λ short. old (other rs last short up.0 (omega (arith, upto, same, up.1))),
      )
    where
      many : (rs : List Numbered) → (length (r ∷ rs) == 1) ≡ false → run.1.0 ≤ j → length (r ∷ rs) ≤ j - run.1.0 + 1 → run.1.0 < j
      many [] more le upto = absurd (cc)
      many (s ∷ rs) more le upto = omega (arith, le, upto)

      other : (rs : List Numbered) → last_in (r ∷ rs) ≡ Some l → (l.number == first_number held) ≡ false → run.1.0 ≤ j → length (r ∷ rs) ≤ j - run.1.0 + 1 → run.1.0 < j
      other (s ∷ rs) last short le upto = omega (arith, le, upto)
      other [] last short le upto = by (nat_lt run.1.0 j) refl
        where
          by : (c : Bool) → nat_lt run.1.0 j ≡ c → run.1.0 < j
          by true is = ltb-true run.1.0 j is
          by false is =
              let ge : j ≤ run.1.0 = ltb-false run.1.0 j is in
              let equal : run.1.0 ≡ j = omega (arith, ge, le) in
              let one : r.number ≡ l.number = ap (λ (o : Option Numbered). number_or 0 o) last in
              let number : l.number ≡ first_number held = sym one ∙ run.1.1 ∙ ap sequence_number equal ∙ sym at in
              let yes : (l.number == first_number held) ≡ true = eq-eqb l.number (first_number held) number in absurd (cc)

  pub from_before : (n j : ℕ) (held : List Numbered) (reference : ℕ) → 0 < low → first_number held ≡ sequence_number j → LiesIn low j → reference ≡ number_before (first_number held) → n ≡ 2 * (j - low) + 1 →
      (r : Numbered) (rs : List Numbered) → IsRun (IsLoggedIn H low) r.number (r ∷ rs) → distance r.number reference < 100 → length (r ∷ rs) ≤ distance r.number reference + 1 →
      (l : Numbered) → last_in (r ∷ rs) ≡ Some l → Ends (IsLoggedIn H low) (Below n) 0 held (r ∷ rs) l
  from_before n j held reference some at lies from left r rs run near upto l last =
      let P = run.1 in
      let i = P.0 in
      let before : reference ≡ sequence_number (j - 1) = from ∙ ap number_before at ∙ before_is j (omega (arith, some, lies.0)) in
      let same : distance r.number reference ≡ distance (sequence_number i) (sequence_number (j - 1)) = ap (λ (k : ℕ). distance k reference) P.1 ∙ ap (λ (k : ℕ). distance (sequence_number i) k) before in
      let up = before_up low i j some (P.3, omega (arith, P.4)) lies (omega (arith, near, same)) in
      let end : i + length rs < j = omega (arith, upto, same, up.0, up.1) in
      let number : l.number ≡ sequence_number (i + length rs) = run_last i r rs (subst (λ (k : ℕ). IsRun (IsLoggedIn H low) k (r ∷ rs)) P.1 run) l last in (
        λ ended.
            let is : l.number ≡ first_number held = eqb-true l.number (first_number held) ended in
            let equal : i + length rs ≡ j = near_ordinal low (i + length rs) j (omega (arith, P.3), omega (arith, end, lies.1)) lies (sym number ∙ is ∙ at) in
            let never : ⊥ = omega (arith, equal, end) in absurd never,
        λ short. older n i j (r ∷ rs) P.1 P.3 P.4 up.0 (omega (arith, left)),
      )
