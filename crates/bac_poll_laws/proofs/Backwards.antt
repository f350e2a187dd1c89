-- What replies bring that are asked backwards, before the first of the records that are held back.
use Rattle.std.proofs.Common.{arith, is_some, ◌≡◌, ℕ, ◌==◌, ◌&&◌, ◌||◌, not, Bool, true, false, nat_lt, Option, None}
use Rattle.std.proofs.Common.{Some, List, [], ◌∷◌, length, refl, sym, subst}
use Rattle.std.proofs.lemmas.Bool.{eqb-true}
use Rattle.bac_walk.specs.declared.batch.Numbered.{Numbered}
use Rattle.bac_poll.specs.Back.{back, back_alone, back_by, back_done, back_lost, back_more, back_shown, is_front}
use Rattle.bac_poll.specs.Back.{shown_last, went_back}
use Rattle.bac_poll.specs.Known.{heeding, means_in, means_of, shown_in}
use Rattle.bac_poll_laws.specs.Laws.{Goes, IsAimed, IsBefore, HasSome, IsBegun, IsRun}
use Rattle.bac_poll.specs.Oldest.{is_first}
use Rattle.bac_poll.specs.State.{KeptAs, PollState}
use Rattle.bac_poll.specs.Turns.{first_in, first_number, last_in, number_before}
use Rattle.bac_known.specs.declared.known.Means.TheVariants.{Unshown}
use Rattle.bac_known.specs.declared.known.Shown.{Shown}
use Rattle.bac_known.specs.declared.known.Shown.TheVariants as shown
use Rattle.bac_poll_steps.specs.declared.stage.Aim.{Aim}
use Rattle.bac_poll_steps.specs.declared.stage.Aim.TheVariants.{Finds, Renews, Starts}
use Rattle.bac_poll_steps.specs.declared.stage.Stage.TheVariants.{Back}
use Rattle.bac_poll_steps.specs.declared.turn.PollEnd.TheVariants.{Contradicts}
use Rattle.bac_poll_laws.proofs.Wholes.{ends_goes, run_ends, split}
use Rattle.bac_poll_laws.proofs.Rules.{back_goes, behind_goes, first_is, front_of, oldest_goes, sees_goes, starts_goes}

module _ (P : Numbered → Type 0) (F : ℕ → Type 0) where
  -- records are a run of one at least
  abbrev FullRun : List Numbered → Type 0
  FullRun rs = IsRun P (first_number rs) rs × HasSome rs

  done_goes : (p : PollState) (aim : Aim) (records : List Numbered) → IsBefore p.newest p.next → FullRun records →
      (means_in p records ≡ Unshown → F (first_number records)) → (IsBegun p → F (first_number records)) → IsAimed p aim →
      Goes P F p.next (back_done p aim records)
  done_goes p Finds records known run front begun aimed = sees_goes P F p false false records known run (λ none done. front none)
  done_goes p Renews records known run front begun aimed = behind_goes P F p records (run.0, front_of P F p records run.1 (begun aimed))
  done_goes p Starts records known run front begun aimed = starts_goes P F p records (run.0, front_of P F p records run.1 (begun aimed))

  -- of no known record nothing is shown
  shows_none : (p : PollState) (newest earlier earliest : Option KeptAs) (records : List Numbered) → newest ≡ None → earlier ≡ None → earliest ≡ None →
      heeding p (means_of (is_some earliest) (shown_in newest records) (shown_in earlier records) (shown_in earliest records)) ≡ Unshown
  shows_none p None None None records a b c = refl
  shows_none p None None (Some kept) records a b c = absurd (cc)
  shows_none p None (Some kept) earliest records a b c = absurd (cc)
  shows_none p (Some kept) earlier earliest records a b c = absurd (cc)

  -- those in front of which nothing is looked for show a known one, or begin at 1
  front_at : (p : PollState) (records : List Numbered) → is_front p records (means_in p records) ≡ true → F 1 → means_in p records ≡ Unshown → F (first_number records)
  front_at p records front one none =
      let is : is_first p (first_number records) ≡ true = subst (λ means. is_front p records means ≡ true) none front in
      first_is P F p (first_number records) is one

  begun_at : (p : PollState) (records : List Numbered) → is_front p records (means_in p records) ≡ true → F 1 → IsBegun p → F (first_number records)
  begun_at p records front one begun =
      front_at p records front one (shows_none p p.newest p.earlier p.earliest records begun.1 begun.2 begun.3)

  lost_back : (p : PollState) (aim : Aim) → IsBefore p.newest p.next → IsAimed p aim → Goes P F p.next (back_lost p aim)
  lost_back p Finds known aimed = oldest_goes P F p Finds known tt
  lost_back p Renews known aimed = oldest_goes P F p Renews known aimed
  lost_back p Starts known aimed = (record { mid = p.next; before = refl; behind = refl; fronts = λ sure. (tt, tt) }, λ none. (known, aimed))

  more_goes : (p : PollState) (aim : Aim) (records : List Numbered) → IsBefore p.newest p.next → IsAimed p aim → FullRun records → F 1 →
      Goes P F p.next (back_more p aim records)
  more_goes p aim records known aimed run one =
      split P F (Goes P F p.next) (is_front p records (means_in p records)) _ _
      (λ front. done_goes p aim records known run (front_at p records front one) (begun_at p records front one) aimed)
      (λ back. back_goes P F p aim records known aimed run)

  alone_goes : (p : PollState) (aim : Aim) (held : List Numbered) → IsBefore p.newest p.next → IsAimed p aim → FullRun held →
      ((p.more || (p.walk.count == 1)) ≡ false → F (first_number held)) → Goes P F p.next (back_alone p aim held)
  alone_goes p aim held known aimed kept bare =
      split P F (Goes P F p.next) (p.more || (p.walk.count == 1)) _ _
      (λ more. (record { mid = p.next; before = refl; behind = refl; fronts = λ sure. (tt, tt) }, λ none. (known, (aimed_at aim aimed, kept.0, kept.1))))
      (λ none. done_goes p aim held known kept (λ unshown. bare none) (λ begun. bare none) aimed)
    where
      aimed_at : (aim : Aim) → IsAimed p aim → IsAimed (record p { stage = Back aim; reference = number_before (first_number held); held = held }) aim
      aimed_at Finds aimed = tt
      aimed_at Renews aimed = aimed
      aimed_at Starts aimed = aimed

  shown_goes : (p : PollState) (aim : Aim) (held records : List Numbered) (seen : Shown) → IsBefore p.newest p.next → IsAimed p aim →
      FullRun held → FullRun records → F 1 → ((length records == 1) ≡ true → (p.more || (p.walk.count == 1)) ≡ false → F (first_number held)) →
      Goes P F p.next (back_shown p aim held records seen)
  shown_goes p aim held records shown.Equal known aimed kept run one bare =
      split P F (Goes P F p.next) (length records == 1) _ _ (λ alone. alone_goes p aim held known aimed kept (bare alone))
      (λ more. more_goes p aim records known aimed run one)
  shown_goes p aim held records shown.Unshown known aimed kept run one bare = lost_back p aim known aimed
  shown_goes p aim held records (shown.Moved by) known aimed kept run one bare = lost_back p aim known aimed
  shown_goes p aim held records shown.Another known aimed kept run one bare = lost_back p aim known aimed

  -- by the last of the records of a reply, which has one at least
  back_by_goes : (p : PollState) (aim : Aim) (held records : List Numbered) (last : Numbered) → IsBefore p.newest p.next → IsAimed p aim →
      FullRun held → FullRun records → F 1 →
      ((length records == 1) ≡ true → (last.number == first_number held) ≡ true → (p.more || (p.walk.count == 1)) ≡ false → F (first_number held)) →
      Goes P F p.next (back_by p aim held records (Some last))
  back_by_goes p aim held records last known aimed kept run one bare =
      split P F (Goes P F p.next) (last.number == first_number held) _ _
      (λ ended. shown_goes p aim held records (shown_last (first_in held) last) known aimed kept run one (λ alone none. bare alone ended none))
      (λ short. more_goes p aim records known aimed run one)

  bare_front : (n : ℕ) (a b c : Bool) → a ≡ true → b ≡ true → c ≡ false → ((a && (b && not c)) ≡ true → F n) → F n
  bare_front n true true false x y z front = front refl
  bare_front n false b c x y z front = absurd (cc)
  bare_front n true false c x y z front = absurd (cc)
  bare_front n true true true x y z front = absurd (cc)

  takes : (p : PollState) (aim : Aim) (held records : List Numbered) → IsBefore p.newest p.next → IsAimed p aim → FullRun held →
      IsRun P (first_number records) records → F 1 →
      (((length records == 0) || ((length records == 1) && ((first_number records == first_number held) && not (p.more || (p.walk.count == 1))))) ≡ true → F (first_number held)) →
      Goes P F p.next (back_by p aim held records (last_in records))
  takes p aim held [] known aimed kept run one bare = done_goes p aim held known kept (λ none. bare refl) (λ begun. bare refl) aimed
  takes p aim held (r ∷ []) known aimed kept run one bare =
      back_by_goes p aim held (r ∷ []) r known aimed kept (run, tt) one
      (λ alone ended none. bare_front (first_number held) (length (r ∷ []) == 1) (r.number == first_number held) (p.more || (p.walk.count == 1)) alone ended none bare)
  takes p aim held (r ∷ s ∷ rs) known aimed kept run one bare =
      let e = run_ends P F r.number r (s ∷ rs) run in
      subst (λ last. Goes P F p.next (back_by p aim held (r ∷ s ∷ rs) last)) (sym e.1)
      (back_by_goes p aim held (r ∷ s ∷ rs) e.0 known aimed kept (run, tt) one
      (λ alone ended none. let same : length (r ∷ s ∷ rs) ≡ 1 = eqb-true _ _ alone in let never : ⊥ = omega (arith, same) in absurd never))

  pub back_takes : (p : PollState) (aim : Aim) (held records : List Numbered) → IsBefore p.newest p.next → IsAimed p aim →
      FullRun held → IsRun P (first_number records) records → F 1 →
      (((length records == 0) || ((length records == 1) && ((first_number records == first_number held) && not (p.more || (p.walk.count == 1))))) ≡ true → F (first_number held)) →
      Goes P F p.next (back p aim held records)
  back_takes p aim held records known aimed kept run one bare =
      split P F (Goes P F p.next) (nat_lt p.back 2147483648) _ _
      (λ near. takes (went_back p records) aim held records known (aimed_so aim aimed) kept run one bare)
      (λ far. ends_goes P F p Contradicts)
    where
      aimed_so : (aim : Aim) → IsAimed p aim → IsAimed (went_back p records) aim
      aimed_so Finds aimed = tt
      aimed_so Renews aimed = aimed
      aimed_so Starts aimed = aimed
