-- What turns say of a poll that stands in an epoch: the oldest records, the count, and each stage.
use Rattle.std.proofs.Common.{arith, is_some, ◌≡◌, ℕ, ◌-◌, ◌<◌, ◌≤◌, ◌==◌, ◌&&◌, ◌||◌, not, Bool, true, false}
use Rattle.std.proofs.Common.{if◌then◌else◌, nat_lt, Option, None, Some, List, [], ◌∷◌, length, refl, sym, ap, subst}
use Rattle.std.proofs.Common.{◌∙◌, ◌⊎◌, inl, inr}
use Rattle.std.proofs.lemmas.Bool.{eq-eqb, eqb-true, ltb-false, and_parts}
use Rattle.bac_link.specs.Ordinals.{is_ahead, number_after}
use Rattle.bac_walk.specs.declared.batch.Numbered.{Numbered}
use Rattle.bac_walk.specs.declared.outcome.WalkFault.TheVariants.{BadReply}
use Rattle.bac_poll.specs.Back.{back, back_alone, back_by, back_done, back_more, back_shown, is_front, shown_last}
use Rattle.bac_poll.specs.Back.{went_back}
use Rattle.bac_poll_laws.specs.Delivers.{is_finding}
use Rattle.bac_poll.specs.Gone.{has_logged}
use Rattle.bac_poll.specs.Joins.{found}
use Rattle.bac_poll.specs.Known.{means_in, number_in, record_at, records_behind}
use Rattle.bac_poll_laws.specs.Laws.{HasSome, IsAt, IsBefore, IsClearAt, Whichever}
use Rattle.bac_poll.specs.Oldest.{by_count, by_number, drops, is_cut, is_first, logged, sees, sees_before, sees_by}
use Rattle.bac_poll.specs.Oldest.{sees_newest, sees_none, sees_same, weighed}
use Rattle.bac_poll.specs.Poll.{at_stage, count_at, oldest, up_to}
use Rattle.bac_poll.specs.State.{KeptAs, PollState, Reply}
use Rattle.bac_poll.specs.Turns.{confirmed, first_in, first_number, last_in, number_before}
use Rattle.bac_known.specs.declared.known.Means.{Means}
use Rattle.bac_known.specs.declared.known.Means.TheVariants.{Shifted, Partly, Same, Unshown, Another}
use Rattle.bac_known.specs.declared.known.Shown.{Shown}
use Rattle.bac_known.specs.declared.known.Shown.TheVariants as shown
use Rattle.bac_poll_steps.specs.declared.stage.Aim.{Aim}
use Rattle.bac_poll_steps.specs.declared.stage.Aim.TheVariants.{Finds, Renews, Starts}
use Rattle.bac_poll_steps.specs.declared.stage.Stage.{Stage}
use Rattle.bac_poll_steps.specs.declared.stage.Stage.TheVariants as stage
use Rattle.bac_poll_steps.specs.declared.turn.PollEnd.TheVariants.{CaughtUp, Contradicts, Fault, NoneByNumber}
use Rattle.bac_poll_steps.specs.declared.turn.PollEnd.TheVariants.{ShowsNone}
use Rattle.bac_poll_laws.proofs.Fronts.{AgainUp, Front, JoinsUp, Knows, Says, again_says, ahead_says, another_by_says}
use Rattle.bac_poll_laws.proofs.Fronts.{another_of_says, brings_says, each_asks, each_says, ends_says, first_of}
use Rattle.bac_poll_laws.proofs.Fronts.{hour_says, joins_says, last_known, never_none, none_of, oldest_says, pick}
use Rattle.bac_poll_laws.proofs.Fronts.{prior_says, some_last, some_of, word_says}

module _ (P : Numbered → Type 0) (F U V : ℕ → Type 0) where
  -- ---- 2. the oldest records

  -- a reply that was asked for without the known records ends with the newest of them: nothing behind it is held
  abbrev pub SeesUp : PollState → List Numbered → Type 0
  SeesUp p records =
      (l : Numbered) → last_in records ≡ Some l → number_after l.number 1 ≡ p.next → p.alone ≡ true → 1 < p.walk.count → p.more ≡ false → U p.next

  -- a gap may end in front of these, where no others are looked for
  abbrev pub IsDone : PollState → Bool → List Numbered → Type 0
  IsDone p back records =
      (back && not (is_first p (first_number records))) ≡ false → (is_first p (first_number records) ≡ true) ⊎ F (first_number records)

  -- the first of some records
  some_first : (p : PollState) (records : List Numbered) → HasSome records → first_of P F U V p records ≡ first_number records
  some_first p [] some = absurd some
  some_first p (r ∷ rs) some = refl

  front_at : (p : PollState) (n : ℕ) → (is_first p n ≡ true) ⊎ F n → is_ahead p.next n ≡ true → Front P F U V p.next n
  front_at p n (inl is) ahead =
      let both = and_parts (n == 1) _ is in
      inl (eqb-true p.next 1 (and_parts (p.next == 1) _ both.1).0, eqb-true n 1 both.0)
  front_at p n (inr front) ahead = inr (front, inl ahead)

  drops_says : (p : PollState) (back : Bool) (records : List Numbered) → HasSome records → is_ahead p.next (first_number records) ≡ true →
      means_in p records ≡ Unshown → IsDone p back records → Says P F U V p.next p.walk (drops p back records)
  drops_says p back records some ahead none done =
      pick (Says P F U V p.next p.walk) (back && not (is_first p (first_number records))) _ _
      (λ look. (refl, inl refl, inl refl, refl, λ up. absurd (cc), λ go finding. (none, λ begun. absurd (cc), inl refl)))
      (λ front. word_says P F U V p records (
        subst (Front P F U V p.next) (sym (some_first p records some)) (front_at p (first_number records) (done front) ahead),
        λ empty. never_none _ records some empty,
      ))

  sees_before_says : (p : PollState) (cut : Bool) (records : List Numbered) → HasSome records → Says P F U V p.next p.walk (sees_before p cut records)
  sees_before_says p cut records some =
      pick (Says P F U V p.next p.walk) cut _ _
      (λ short. (refl, inl refl, inl refl, refl, λ up. absurd (cc), λ go finding. (tt, λ begun. absurd (cc), inl refl)))
      (λ whole. another_by_says P F U V p records some)

  by_number_says : (p : PollState) (held records : List Numbered) → HasSome held → Says P F U V p.next p.walk (by_number p held records)
  by_number_says p held records some =
      pick (Says P F U V p.next p.walk) (length records == 0) _ _ (λ none. ends_says P F U V p NoneByNumber (λ up. absurd (cc))) (λ more. another_by_says P F U V p held some)

  sees_none_says : (p : PollState) (back cut : Bool) (records : List Numbered) → HasSome records → means_in p records ≡ Unshown → IsDone p back records →
      Says P F U V p.next p.walk (sees_none p back cut records)
  sees_none_says p back cut records some none done =
      pick (Says P F U V p.next p.walk) (is_ahead p.next (first_number records)) _ _ (λ ahead. drops_says p back records some ahead none done)
      (λ before. sees_before_says p cut records some)

  none_at : (rs : List Numbered) → rs ≡ [] → (length rs == 0) ≡ true
  none_at [] none = refl
  none_at (r ∷ rs) none = absurd (cc)

  was_alone : (a b : Bool) → a ≡ true → (a && not b) ≡ false → b ≡ true
  was_alone true true is none = refl
  was_alone true false is none = absurd (cc)
  was_alone false b is none = absurd (cc)

  not_cut : (a b : Bool) → a ≡ true → (a && b) ≡ false → b ≡ false
  not_cut true b is none = none
  not_cut false b is none = absurd (cc)

  sees_newest_says : (p : PollState) (kept : KeptAs) (cut : Bool) (records : List Numbered) (at : Option Numbered) → record_at kept.number records ≡ at →
      p.next ≡ number_after kept.number 1 → HasSome records → (cut ≡ false → SeesUp p records) → Says P F U V p.next p.walk (sees_newest p kept cut records at)
  sees_newest_says p kept cut records None is here some up =
      pick (Says P F U V p.next p.walk) p.alone _ _ (λ asked. sees_before_says p cut records some)
      (λ other. (refl, inl refl, inl refl, refl, λ caught. absurd (cc), λ go finding. (tt, λ begun. absurd (cc), inl refl)))
  sees_newest_says p kept cut records (Some held) is here some up =
      let news = records_behind kept.number records in
      pick (Says P F U V p.next p.walk) ((length news == 0) && not p.alone) _ _
      (λ none. (refl, inl refl, inl refl, refl, λ caught. absurd (cc), λ go finding. (tt, λ begun. absurd (cc), inl refl)))
      (λ more. pick (Says P F U V p.next p.walk) ((length news == 0) && cut) _ _ (λ short. ends_says P F U V (found p held) NoneByNumber (λ up. absurd (cc)))
      (λ other. brings_says P F U V (found p held) news
      (λ empty many no. let l = last_known kept.number records held is empty in
      up (not_cut (length news == 0) cut (none_at news empty) other) l.0 l.1 (ap (λ (k : ℕ). number_after k 1) l.2 ∙ sym here)
      (was_alone (length news == 0) p.alone (none_at news empty) more) many no)))

  sees_same_says : (p : PollState) (cut : Bool) (records : List Numbered) (newest : Option KeptAs) → IsBefore newest p.next → HasSome records → (cut ≡ false → SeesUp p records) →
      Says P F U V p.next p.walk (sees_same p cut records newest)
  sees_same_says p cut records None here some up = another_by_says P F U V p records some
  sees_same_says p cut records (Some kept) here some up = sees_newest_says p kept cut records (record_at kept.number records) refl here some up

  sees_by_says : (p : PollState) (back cut : Bool) (records : List Numbered) (means : Means) → means_in p records ≡ means → IsBefore p.newest p.next → HasSome records →
      (means ≡ Unshown → IsDone p back records) → ((means ≡ Unshown → ⊥) → cut ≡ false → SeesUp p records) → Says P F U V p.next p.walk (sees_by p back cut records means)
  sees_by_says p back cut records Unshown is here some done up = sees_none_says p back cut records some is (done refl)
  sees_by_says p back cut records Same is here some done up = sees_same_says p cut records p.newest here some (up (λ no. absurd (cc)))
  sees_by_says p back cut records (Shifted by) is here some done up =
      hour_says P F U V p.next p.walk by _ _ (sees_same_says p cut records p.newest here some (up (λ no. absurd (cc))))
  sees_by_says p back cut records Partly is here some done up = each_asks P F U V p [] (number_in p.newest)
  sees_by_says p back cut records Another is here some done up = another_by_says P F U V p records some

  -- records came, or were held back of which none is known
  sees_says : (p : PollState) (back cut : Bool) (records : List Numbered) → IsBefore p.newest p.next → HasSome records →
      (means_in p records ≡ Unshown → IsDone p back records) → ((means_in p records ≡ Unshown → ⊥) → cut ≡ false → SeesUp p records) →
      Says P F U V p.next p.walk (sees p back cut records)
  sees_says p back cut records here some done up = sees_by_says p back cut records (means_in p records) refl here some done up

  not_false : (b : Bool) → not b ≡ false → b ≡ true
  not_false true is = refl
  not_false false is = absurd (cc)

  -- by time, or up to a count
  came_says : (p : PollState) (cut : Bool) (records : List Numbered) → IsBefore p.newest p.next → HasSome records → (cut ≡ false → SeesUp p records) →
      Says P F U V p.next p.walk (sees p true cut records)
  came_says p cut records here some up =
      sees_says p true cut records here some (λ none done. inl (not_false (is_first p (first_number records)) done)) (λ shown. up)

  oldest_takes : (p : PollState) (reply : Reply) → IsBefore p.newest p.next → (is_cut p reply ≡ false → SeesUp p reply.records) → Says P F U V p.next p.walk (oldest p Finds reply)
  oldest_takes p reply here up =
      pick (Says P F U V p.next p.walk) (length reply.records == 0) _ _
      (λ none. (refl, inl refl, inl refl, refl, λ caught. absurd (cc), λ go finding. (tt, λ begun. absurd (cc), inl refl)))
      (λ some. came_says p (is_cut p reply) reply.records here (some_of reply.records some) up)

  -- ---- 3. the count

  before_after : (n : ℕ) (b : Bool) → (b ≡ true → n ≡ 1) → (b ≡ false → (n ≡ 1) → ⊥) → 0 < n → n < 4294967296 →
      number_after (if b then 4294967295 else n - 1) 1 ≡ n
  before_after n true one other some few = let same : n ≡ 1 = one refl in omega (arith, same)
  before_after n false one other some few = omega (arith, some, few)

  -- the number behind those that were logged is the one that comes next
  logged_after : (b : Bool) (n : ℕ) → (b ≡ false → n ≡ 1) → 0 < n → n < 4294967296 → number_after (if b then number_before n else 0) 1 ≡ n
  logged_after true n first some few =
      before_after n (n == 1) (eqb-true n 1) (λ no yes. let same : (n == 1) ≡ true = eq-eqb n 1 yes in absurd (cc)) some few
  logged_after false n first some few = sym (first refl)

  or_false : (a b : Bool) → (a || b) ≡ false → b ≡ false
  or_false true b is = absurd (cc)
  or_false false b is = is

  first_logged : (p : PollState) → 0 < p.next → has_logged p ≡ false → p.next ≡ 1
  first_logged p some none = let few : p.next ≤ 1 = ltb-false 1 p.next (or_false (is_some p.newest || is_some p.stamp) (nat_lt 1 p.next) none) in omega (arith, some, few)

  counted_says : (p : PollState) (total : ℕ) → 0 < p.next → p.next < 4294967296 → U (number_after total 1) → Says P F U V p.next p.walk (weighed p total)
  counted_says p total some few front =
      pick (Says P F U V p.next p.walk) (total == logged p) _ _
      (λ same. ends_says P F U V (confirmed p) CaughtUp (λ up many.
      subst U (ap (λ (k : ℕ). number_after k 1) (eqb-true total (logged p) same) ∙ logged_after (has_logged p) p.next (first_logged p some) some few) front))
      (λ other. pick (Says P F U V p.next p.walk) (nat_lt 0 total && is_ahead p.next total) _ _
      (λ ahead. (refl, inl refl, inl refl, refl, λ up. absurd (cc), λ go finding. (((and_parts _ _ ahead).1, front), λ begun. absurd (cc), inl refl)))
      (λ before. another_of_says P F U V p total front))

  by_count_says : (p : PollState) (count : Option ℕ) → 0 < p.next → p.next < 4294967296 → ((total : ℕ) → count ≡ Some total → U (number_after total 1)) →
      Says P F U V p.next p.walk (by_count p count)
  by_count_says p None some few front = ends_says P F U V p ShowsNone (λ up. absurd (cc))
  by_count_says p (Some total) some few front = counted_says p total some few (front total refl)

  up_to_takes : (p : PollState) (records : List Numbered) → IsBefore p.newest p.next → Knows P F U V U p (stage.UpTo Finds) → (records ≡ [] → F (number_after p.total 1)) →
      SeesUp p records → Says P F U V p.next p.walk (up_to p Finds records)
  up_to_takes p records here knows none up =
      pick (Says P F U V p.next p.walk) (length records == 0) _ _
      (λ empty. word_says P F U V p [] (inr (none (none_of records empty), inr (p.total, refl, knows.0)), λ e. knows.1))
      (λ some. came_says p false records here (some_of records some) (λ whole. up))

  -- ---- before the first of the records that are held back

  none_front : (p : PollState) (records : List Numbered) (means : Means) → is_front p records means ≡ false → means ≡ Unshown
  none_front p records Unshown is = refl
  none_front p records Same is = absurd (cc)
  none_front p records (Shifted by) is = absurd (cc)
  none_front p records Partly is = absurd (cc)
  none_front p records Another is = absurd (cc)

  done_says : (p : PollState) (records : List Numbered) → IsBefore p.newest p.next → HasSome records →
      (means_in p records ≡ Unshown → (is_first p (first_number records) ≡ true) ⊎ F (first_number records)) → ((means_in p records ≡ Unshown → ⊥) → SeesUp p records) →
      Says P F U V p.next p.walk (back_done p Finds records)
  done_says p records here some front up = sees_says p false false records here some (λ none done. front none) (λ shown whole. up shown)

  more_says : (p : PollState) (records : List Numbered) → IsBefore p.newest p.next → HasSome records → SeesUp p records → Says P F U V p.next p.walk (back_more p Finds records)
  more_says p records here some up =
      pick (Says P F U V p.next p.walk) (is_front p records (means_in p records)) _ _
      (λ front. done_says p records here some (λ none. inl (subst (λ means. is_front p records means ≡ true) none front)) (λ shown. up))
      (λ back. (
        refl,
        inl refl,
        inl refl,
        refl,
        λ caught. absurd (cc),
        λ go finding. (none_front p records (means_in p records) back, λ begun. absurd (cc), inl refl),
      ))

  -- of what is held back no known one is among it
  held_says : (p : PollState) (held : List Numbered) → IsBefore p.newest p.next → HasSome held → means_in p held ≡ Unshown → F (first_number held) →
      Says P F U V p.next p.walk (back_done p Finds held)
  held_says p held here some none front = done_says p held here some (λ same. inr front) (λ shown. absurd (shown none))

  alone_says : (p : PollState) (held : List Numbered) → IsBefore p.newest p.next → HasSome held → means_in p held ≡ Unshown →
      ((p.more || (p.walk.count == 1)) ≡ false → F (first_number held)) → Says P F U V p.next p.walk (back_alone p Finds held)
  alone_says p held here some none bare =
      pick (Says P F U V p.next p.walk) (p.more || (p.walk.count == 1)) _ _
      (λ more. (refl, inl refl, inl refl, refl, λ caught. absurd (cc), λ go finding. (none, λ begun. absurd (cc), inl refl)))
      (λ whole. held_says p held here some none (bare whole))

  shown_says : (p : PollState) (held records : List Numbered) (seen : Shown) → IsBefore p.newest p.next → HasSome held → HasSome records → means_in p held ≡ Unshown → SeesUp p records →
      ((length records == 1) ≡ true → (p.more || (p.walk.count == 1)) ≡ false → F (first_number held)) → Says P F U V p.next p.walk (back_shown p Finds held records seen)
  shown_says p held records shown.Equal here kept some none up bare =
      pick (Says P F U V p.next p.walk) (length records == 1) _ _ (λ alone. alone_says p held here kept none (bare alone)) (λ more. more_says p records here some up)
  shown_says p held records shown.Unshown here kept some none up bare = oldest_says P F U V p Finds
  shown_says p held records (shown.Moved by) here kept some none up bare = oldest_says P F U V p Finds
  shown_says p held records shown.Another here kept some none up bare = oldest_says P F U V p Finds

  back_by_says : (p : PollState) (held records : List Numbered) (last : Numbered) → IsBefore p.newest p.next → HasSome held → HasSome records → means_in p held ≡ Unshown → SeesUp p records →
      ((length records == 1) ≡ true → (last.number == first_number held) ≡ true → (p.more || (p.walk.count == 1)) ≡ false → F (first_number held)) →
      Says P F U V p.next p.walk (back_by p Finds held records (Some last))
  back_by_says p held records last here kept some none up bare =
      pick (Says P F U V p.next p.walk) (last.number == first_number held) _ _
      (λ ended. shown_says p held records (shown_last (first_in held) last) here kept some none up (λ alone whole. bare alone ended whole))
      (λ short. more_says p records here some up)

  bare_front : (n : ℕ) (a b c : Bool) → a ≡ true → b ≡ true → c ≡ false → ((a && (b && not c)) ≡ true → F n) → F n
  bare_front n true true false x y z front = front refl
  bare_front n false b c x y z front = absurd (cc)
  bare_front n true false c x y z front = absurd (cc)
  bare_front n true true true x y z front = absurd (cc)

  takes : (p : PollState) (held records : List Numbered) → IsBefore p.newest p.next → HasSome held → means_in p held ≡ Unshown → SeesUp p records →
      (((length records == 0) || ((length records == 1) && ((first_number records == first_number held) && not (p.more || (p.walk.count == 1))))) ≡ true → F (first_number held)) →
      Says P F U V p.next p.walk (back_by p Finds held records (last_in records))
  takes p held [] here kept none up bare = held_says p held here kept none (bare refl)
  takes p held (r ∷ []) here kept none up bare =
      back_by_says p held (r ∷ []) r here kept tt none up
      (λ alone ended whole. bare_front (first_number held) (length (r ∷ []) == 1) (r.number == first_number held) (p.more || (p.walk.count == 1)) alone ended whole bare)
  takes p held (r ∷ s ∷ rs) here kept none up bare =
      let e = some_last r (s ∷ rs) in
      subst (λ last. Says P F U V p.next p.walk (back_by p Finds held (r ∷ s ∷ rs) last)) (sym e.1)
      (back_by_says p held (r ∷ s ∷ rs) e.0 here kept tt none up
      (λ alone ended whole. let same : length (r ∷ s ∷ rs) ≡ 1 = eqb-true _ _ alone in let never : ⊥ = omega (arith, same) in absurd never))

  back_takes : (p : PollState) (held records : List Numbered) → IsBefore p.newest p.next → HasSome held → means_in p held ≡ Unshown → SeesUp p records →
      (((length records == 0) || ((length records == 1) && ((first_number records == first_number held) && not (p.more || (p.walk.count == 1))))) ≡ true → F (first_number held)) →
      Says P F U V p.next p.walk (back p Finds held records)
  back_takes p held records here kept none up bare =
      pick (Says P F U V p.next p.walk) (nat_lt p.back 2147483648) _ _
      (λ near. takes (went_back p records) held records here kept none up bare)
      (λ far. ends_says P F U V p Contradicts (λ caught. absurd (cc)))

  -- ---- by what it is for

  abbrev pub Rises : Type 0
  Rises = (r : Numbered) → P r → V r.number → V (number_after r.number 1)

  -- what the flags of a reply say, by what it is for
  pub record Ups (p : PollState) (what : Stage) (reply : Reply) : Type 0 where
    pub joins : what ≡ stage.Joins → JoinsUp P F U V p reply
    pub again : what ≡ stage.Again → AgainUp P F U V p reply.records
    pub oldest : (aim : Aim) → what ≡ stage.Oldest aim → is_cut p reply ≡ false → SeesUp p reply.records
    pub up_to : (aim : Aim) → what ≡ stage.UpTo aim → SeesUp p reply.records
    pub back : (aim : Aim) → what ≡ stage.Back aim → SeesUp p reply.records

  pub stage_says : Rises → ((n : ℕ) → V n → U n) → (p : PollState) (more : Bool) (what : Stage) (reply : Reply) → is_finding what ≡ true → IsBefore p.newest p.next →
      IsAt P Whichever p what → Knows P F U V U p what → IsClearAt F p more what reply → ((aim : Aim) → what ≡ stage.UpTo aim → reply.records ≡ [] → F (number_after p.total 1)) →
      (reply.records ≡ [] → more ≡ p.more) → Ups (record p { more = more; held = [] }) what reply → Says P F U V p.next p.walk (at_stage (record p { more = more; held = [] }) what p.held reply)
  stage_says step old p more stage.Joins reply find here at knows clear none same ups = joins_says P F U V (record p { more = more; held = [] }) reply here (ups.joins refl)
  stage_says step old p more stage.Prior reply find here at knows clear none same ups = prior_says P F U V (record p { more = more; held = [] }) reply.records
  stage_says step old p more stage.Ahead reply find here at knows clear none same ups =
      ahead_says P F U V (record p { more = more; held = [] }) reply.records (λ empty many no. knows many (sym (same empty) ∙ no))
  stage_says step old p more stage.Again reply find here at knows clear none same ups =
      again_says P F U V step old (record p { more = more; held = [] }) p.held reply.records here at (ups.again refl)
  stage_says step old p more stage.Each reply find here at knows clear none same ups = each_says P F U V (record p { more = more; held = [] }) p.held reply.records
  stage_says step old p more stage.ByNumber reply find here at knows clear none same ups = by_number_says (record p { more = more; held = [] }) p.held reply.records at.1
  stage_says step old p more (stage.Oldest Finds) reply find here at knows clear none same ups =
      oldest_takes (record p { more = more; held = [] }) reply here (ups.oldest Finds refl)
  stage_says step old p more (stage.Oldest Renews) reply find here at knows clear none same ups = absurd (cc)
  stage_says step old p more (stage.Oldest Starts) reply find here at knows clear none same ups = absurd (cc)
  stage_says step old p more (stage.UpTo Finds) reply find here at knows clear none same ups =
      up_to_takes (record p { more = more; held = [] }) reply.records here knows (none Finds refl) (ups.up_to Finds refl)
  stage_says step old p more (stage.UpTo Renews) reply find here at knows clear none same ups = absurd (cc)
  stage_says step old p more (stage.UpTo Starts) reply find here at knows clear none same ups = absurd (cc)
  stage_says step old p more (stage.Back Finds) reply find here at knows clear none same ups =
      back_takes (record p { more = more; held = [] }) p.held reply.records here at.2 knows (ups.back Finds refl) clear
  stage_says step old p more (stage.Back Renews) reply find here at knows clear none same ups = absurd (cc)
  stage_says step old p more (stage.Back Starts) reply find here at knows clear none same ups = absurd (cc)
  stage_says step old p more (stage.Counts aim) reply find here at knows clear none same ups =
      ends_says P F U V (record p { more = more; held = [] }) (Fault BadReply) (λ up. absurd (cc))
  stage_says step old p more stage.Revision reply find here at knows clear none same ups =
      ends_says P F U V (record p { more = more; held = [] }) (Fault BadReply) (λ up. absurd (cc))
  stage_says step old p more stage.Restart reply find here at knows clear none same ups =
      ends_says P F U V (record p { more = more; held = [] }) (Fault BadReply) (λ up. absurd (cc))

  pub count_says : (p : PollState) (what : Stage) (count : Option ℕ) → is_finding what ≡ true → 0 < p.next → p.next < 4294967296 →
      ((total : ℕ) → count ≡ Some total → U (number_after total 1)) → Says P F U V p.next p.walk (count_at p what count)
  count_says p (stage.Counts Finds) count find some few front = by_count_says (record p { more = false }) count some few front
  count_says p (stage.Counts Renews) count find some few front = absurd (cc)
  count_says p (stage.Counts Starts) count find some few front = absurd (cc)
  count_says p stage.Joins count find some few front = ends_says P F U V p (Fault BadReply) (λ up. absurd (cc))
  count_says p stage.Prior count find some few front = ends_says P F U V p (Fault BadReply) (λ up. absurd (cc))
  count_says p stage.Ahead count find some few front = ends_says P F U V p (Fault BadReply) (λ up. absurd (cc))
  count_says p stage.Again count find some few front = ends_says P F U V p (Fault BadReply) (λ up. absurd (cc))
  count_says p stage.Each count find some few front = ends_says P F U V p (Fault BadReply) (λ up. absurd (cc))
  count_says p stage.ByNumber count find some few front = ends_says P F U V p (Fault BadReply) (λ up. absurd (cc))
  count_says p (stage.Oldest aim) count find some few front = ends_says P F U V p (Fault BadReply) (λ up. absurd (cc))
  count_says p (stage.UpTo aim) count find some few front = ends_says P F U V p (Fault BadReply) (λ up. absurd (cc))
  count_says p (stage.Back aim) count find some few front = ends_says P F U V p (Fault BadReply) (λ up. absurd (cc))
  count_says p stage.Revision count find some few front = ends_says P F U V p (Fault BadReply) (λ up. absurd (cc))
  count_says p stage.Restart count find some few front = ends_says P F U V p (Fault BadReply) (λ up. absurd (cc))
