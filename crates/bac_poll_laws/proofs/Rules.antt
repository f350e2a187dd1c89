-- What turns bring: the rule, section by section.
use Rattle.std.proofs.Common.{is_some, ◌≡◌, ℕ, ◌==◌, ◌&&◌, not, Bool, true, false, if◌then◌else◌, nat_lt, Option, None}
use Rattle.std.proofs.Common.{Some, List, [], ◌∷◌, ◌++◌, length, map, refl, sym, ap, subst, ◌∙◌}
use Rattle.std.proofs.lemmas.Bool.{eq-eqb, eqb-true, and_parts}
use Rattle.bac_link.specs.Ordinals.{is_ahead, number_after}
use Rattle.bac_link.specs.declared.item.Item.TheVariants.{Gap}
use Rattle.bac_walk.specs.Walks.{item_of}
use Rattle.bac_walk.specs.declared.batch.Numbered.{Numbered}
use Rattle.bac_poll.specs.Back.{back}
use Rattle.bac_poll.specs.Epochs.{another, another_by, another_of, asks_back, asks_oldest, brings_behind, renews}
use Rattle.bac_poll.specs.Epochs.{renews_none, renews_of}
use Rattle.bac_poll.specs.Gone.{asks_restart, asks_revision, asks_word, by_gone, by_word, retold}
use Rattle.bac_poll.specs.Joins.{again, again_by, again_equal, again_from, ahead, asks_again, asks_each, asks_newest}
use Rattle.bac_poll.specs.Joins.{at_hour, brings_ahead, each, each_all, each_by, each_means, each_next, found}
use Rattle.bac_poll.specs.Joins.{goes_nowhere, hour, joined, joins, joins_by, joins_from, lost, lost_ahead, moved_ahead}
use Rattle.bac_poll.specs.Joins.{prior}
use Rattle.bac_poll.specs.Known.{means_in, number_in, record_at, records_behind, shown_in, word_of}
use Rattle.bac_poll_laws.specs.Laws.{EndAt, Goes, IsAimed, IsAt, IsBefore, IsEach, HasSome, IsBegun, IsFrontOf, IsRun}
use Rattle.bac_poll.specs.Oldest.{by_count, by_number, drops, is_first, logged, sees, sees_before, sees_by, sees_newest}
use Rattle.bac_poll.specs.Oldest.{sees_none, sees_same}
use Rattle.bac_poll.specs.Starts.{beginning, is_doubted, starts, starts_at, starts_behind, starts_by, starts_from}
use Rattle.bac_poll.specs.Starts.{starts_here, starts_none, starts_refused, starts_told}
use Rattle.bac_poll.specs.State.{KeptAs, PollState, Reply, kept_of}
use Rattle.bac_poll.specs.Turns.{Turned, anew, asks, brings, confirmed, end_of, first_in, first_number, gap_up_to}
use Rattle.bac_poll.specs.Turns.{last_in, renewed, standing_alone, standing_at}
use Rattle.bac_poll_steps.specs.declared.gone.Gone.{Gone}
use Rattle.bac_poll_steps.specs.declared.gone.Gone.TheVariants.{Dropped, Doubtful, Both}
use Rattle.bac_known.specs.declared.known.Means.{Means}
use Rattle.bac_known.specs.declared.known.Means.TheVariants.{Shifted, Partly, Same, Unshown, Another}
use Rattle.bac_known.specs.declared.known.Shown.{Shown}
use Rattle.bac_known.specs.declared.known.Shown.TheVariants as shown
use Rattle.bac_poll_steps.specs.declared.stage.Aim.{Aim}
use Rattle.bac_poll_steps.specs.declared.stage.Aim.TheVariants.{Finds, Renews, Starts}
use Rattle.bac_poll_steps.specs.declared.stage.Stage.TheVariants.{Back}
use Rattle.bac_poll_steps.specs.declared.stage.Stage.TheVariants as stage
use Rattle.bac_poll_steps.specs.declared.turn.Line.{Line}
use Rattle.bac_poll_steps.specs.declared.turn.Line.TheVariants as line
use Rattle.bac_poll_steps.specs.declared.turn.PollEnd.TheVariants.{CaughtUp, Contradicts, NoneByNumber, ShowsNone}
use Rattle.bac_poll_laws.proofs.Wholes.{gap_ends, brings_by, brings_goes, ends_goes, found_number, gap_alone, gap_front}
use Rattle.bac_poll_laws.proofs.Wholes.{run_behind, run_ends, run_or, split}

module _ (P : Numbered → Type 0) (F : ℕ → Type 0) where
  -- records are a run, in front of which a gap may end
  abbrev FrontRun : PollState → List Numbered → Type 0
  FrontRun p rs = IsRun P (first_number rs) rs × IsFrontOf F p rs

  -- they are a run of one at least
  abbrev FullRun : List Numbered → Type 0
  FullRun rs = IsRun P (first_number rs) rs × HasSome rs

  -- of one at least the first is there
  pub front_of : (p : PollState) (rs : List Numbered) → HasSome rs → F (first_number rs) → IsFrontOf F p rs
  front_of p [] some front = absurd some
  front_of p (r ∷ rs) some front = front

  -- nothing stands before 1, where that comes next
  pub first_is : (p : PollState) (n : ℕ) → is_first p n ≡ true → F 1 → F n
  first_is p n is one = subst F (sym (eqb-true n 1 (and_parts _ _ is).0)) one

  -- ---- 6. new epochs

  pub oldest_goes : (p : PollState) (aim : Aim) → IsBefore p.newest p.next → IsAimed p aim → Goes P F p.next (asks_oldest p aim)
  oldest_goes p aim known aimed = (record { mid = p.next; before = refl; behind = refl; fronts = λ sure. (tt, tt) }, λ none. (known, aimed))

  pub back_goes : (p : PollState) (aim : Aim) (rs : List Numbered) → IsBefore p.newest p.next → IsAimed p aim → FullRun rs →
      Goes P F p.next (asks_back p aim rs)
  back_goes p aim rs known aimed run = (record { mid = p.next; before = refl; behind = refl; fronts = λ sure. (tt, tt) }, λ none. (known, (aimed_of aim aimed, run.0, run.1)))
    where
      aimed_of : (aim : Aim) → IsAimed p aim → IsAimed (record p { stage = Back aim; reference = first_number rs; held = rs }) aim
      aimed_of Finds aimed = tt
      aimed_of Renews aimed = aimed
      aimed_of Starts aimed = aimed

  pub another_goes : (p : PollState) → Goes P F p.next (another p)
  another_goes p =
      split P F (Goes P F p.next) (p.lives == 2) _ _ (λ third. ends_goes P F p Contradicts)
      (λ more. (record { mid = p.next; before = refl; behind = refl; fronts = λ sure. (tt, tt) }, λ none. (tt, (refl, refl, refl, refl))))

  -- an epoch has begun, and these are the oldest that are held
  pub renews_goes : (p : PollState) (rs : List Numbered) → IsBefore p.newest p.next → IsBegun p → FullRun rs → Goes P F p.next (renews p rs)
  renews_goes p rs known one run =
      split P F (Goes P F p.next) (first_number rs == 1) _ _
      (λ first. brings_goes P F p rs (subst (λ k. IsRun P k rs) (eqb-true (first_number rs) 1 first ∙ sym one.0) run.0))
      (λ later. back_goes p Renews rs known one run)

  pub another_by_goes : (p : PollState) (rs : List Numbered) → FullRun rs → Goes P F p.next (another_by p rs)
  another_by_goes p rs run =
      let q = renewed p p.told in
      split P F (Goes P F p.next) (p.lives == 2) _ _ (λ third. ends_goes P F p Contradicts)
      (λ more. split P F (λ t. Goes P F p.next (anew t line.BeganAnew)) (first_number rs == 1) _ _
      (λ first. brings_by P F (λ t. Goes P F p.next (anew t line.BeganAnew)) q 1 rs (subst (λ k. IsRun P k rs) (eqb-true (first_number rs) 1 first) run.0)
      (λ empty. (record { mid = p.next; before = refl; behind = refl; fronts = λ sure. (tt, tt) }, λ none. absurd (cc)))
      (λ l cov. (record { mid = p.next; before = refl; behind = cov; fronts = λ sure. (tt, tt) }, λ none. (refl, tt))))
      (λ later. (record { mid = p.next; before = refl; behind = refl; fronts = λ sure. (tt, tt) }, λ none. (tt, ((refl, refl, refl, refl), run.0, run.1)))))

  pub renews_none_goes : (p : PollState) (total : ℕ) → F (number_after total 1) → Goes P F p.next (renews_none p total)
  renews_none_goes p total front =
      (record { mid = number_after total 1; before = gap_alone P F p.next (number_after total 1); behind = refl; fronts = λ sure. (gap_ends P F p.next (number_after total 1) front, tt) }, λ none. absurd (cc))

  pub renews_of_goes : (p : PollState) (total : ℕ) → IsBefore p.newest p.next → IsBegun p → Goes P F p.next (renews_of p total)
  renews_of_goes p total known one =
      split P F (Goes P F p.next) (total == 0) _ _ (λ none. ends_goes P F p (end_of p))
      (λ some. (record { mid = p.next; before = refl; behind = refl; fronts = λ sure. (tt, tt) }, λ none. (known, one)))

  pub another_of_goes : (p : PollState) (total : ℕ) → Goes P F p.next (another_of p total)
  another_of_goes p total =
      split P F (Goes P F p.next) (p.lives == 2) _ _ (λ third. ends_goes P F p Contradicts)
      (λ more. split P F (λ t. Goes P F p.next (anew t line.BeganAnew)) (total == 0) _ _
      (λ empty. (record { mid = p.next; before = refl; behind = refl; fronts = λ sure. (tt, tt) }, λ none. absurd (cc)))
      (λ some. (record { mid = p.next; before = refl; behind = refl; fronts = λ sure. (tt, tt) }, λ none. (tt, (refl, refl, refl, refl)))))

  -- records behind a gap from where the log stands
  pub gap_brings : (n : ℕ) (q : PollState) (rs : List Numbered) → IsRun P q.next rs → F q.next → Goes P F n (record (brings q rs) { missing = gap_up_to n q.next })
  gap_brings n q rs run front =
      brings_by P F (λ t. Goes P F n (record t { missing = gap_up_to n q.next })) q q.next rs run
      (λ empty. (record { mid = q.next; before = gap_alone P F n q.next; behind = refl; fronts = λ sure. (gap_ends P F n q.next front, tt) }, λ none. absurd (cc)))
      (λ l cov. (record { mid = q.next; before = gap_alone P F n q.next; behind = cov; fronts = λ sure. (gap_ends P F n q.next front, tt) }, λ none. (refl, tt)))

  same_ends : (a : ℕ) → EndAt F (gap_up_to a a)
  same_ends a = subst (λ (c : Bool). EndAt F (if c then [] else Gap a a ∷ [])) (sym (eq-eqb a a refl)) tt

  pub behind_goes : (p : PollState) (rs : List Numbered) → FrontRun p rs → Goes P F p.next (brings_behind p rs)
  behind_goes p [] run = (record { mid = p.next; before = gap_alone P F p.next p.next; behind = refl; fronts = λ sure. (same_ends p.next, tt) }, λ none. absurd (cc))
  behind_goes p (r ∷ rs) run =
      brings_by P F (λ t. Goes P F p.next (record t { missing = gap_up_to p.next r.number })) p r.number (r ∷ rs) run.0
      (λ empty. absurd (cc))
      (λ l cov. (record { mid = r.number; before = gap_alone P F p.next r.number; behind = cov; fronts = λ sure. (gap_ends P F p.next r.number run.1, tt) }, λ none. (refl, tt)))

  -- ---- 4. dropped, or another life

  by_gone_goes : (p : PollState) (first : ℕ) (held : List Numbered) (gone : Gone) → IsRun P first held → F first → Goes P F p.next (by_gone p first held gone)
  by_gone_goes p first held Dropped run front = gap_brings p.next (standing_at (confirmed (retold p)) first) held run front
  by_gone_goes p first held Doubtful run front =
      let q = confirmed (retold p) in
      brings_by P F (λ t. Goes P F p.next (record t { missing = gap_up_to p.next first; doubtful = true; line = Some (line.DroppedOrBegan q.next first) })) (standing_at q first) first held run
      (λ empty. (record { mid = first; before = gap_alone P F p.next first; behind = refl; fronts = λ sure. absurd (cc) }, λ none. absurd (cc)))
      (λ l cov. (record { mid = first; before = gap_alone P F p.next first; behind = cov; fronts = λ sure. absurd (cc) }, λ none. (refl, tt)))
  by_gone_goes p first held Both run front =
      let q = standing_at (renewed (retold p) p.told) first in
      brings_by P F (λ t. Goes P F p.next (record (anew t line.BeganOrDropped) { missing = gap_up_to p.next first; gap = gap_up_to 1 first })) q first held run
      (λ empty. (record { mid = first; before = gap_alone P F p.next first; behind = gap_front P F 1 first [] first refl; fronts = λ sure. (gap_ends P F p.next first front, gap_ends P F 1 first front) }, λ none. absurd (cc)))
      (λ l cov. (record { mid = first; before = gap_alone P F p.next first; behind = gap_front P F 1 first (map item_of held) _ cov; fronts = λ sure. (gap_ends P F p.next first front, gap_ends P F 1 first front) }, λ none. (refl, tt)))

  pub by_word_goes : (p : PollState) (held : List Numbered) → FrontRun p held → Goes P F p.next (by_word p held)
  by_word_goes p held run = by_gone_goes p _ held _ (run_or P F (number_after p.total 1) held run.0) run.1

  pub restart_goes : (p : PollState) (held : List Numbered) (restart : List ℕ) → IsBefore p.newest p.next → FrontRun p held →
      Goes P F p.next (asks_restart p held restart)
  restart_goes p held [] known run = by_word_goes p held run
  restart_goes p held (octet ∷ octets) known run = (record { mid = p.next; before = refl; behind = refl; fronts = λ sure. (tt, tt) }, λ none. (known, run))

  revision_goes : (p : PollState) (held : List Numbered) (revision : Option ℕ) → IsBefore p.newest p.next → FrontRun p held →
      Goes P F p.next (asks_revision p held revision)
  revision_goes p held None known run = restart_goes p held p.word.restart known run
  revision_goes p held (Some was) known run = (record { mid = p.next; before = refl; behind = refl; fronts = λ sure. (tt, tt) }, λ none. (known, run))

  pub word_goes : (p : PollState) (held : List Numbered) → IsBefore p.newest p.next → FrontRun p held → Goes P F p.next (asks_word p held)
  word_goes p held known run = revision_goes (record p { again = p.told }) held p.word.revision known run

  -- ---- 1. each question shows the record before it

  each_asks : (p : PollState) (held : List Numbered) (number : Option ℕ) → IsBefore p.newest p.next →
      ((n : ℕ) → number ≡ Some n → IsAt P F (record p { reference = n; held = held }) stage.Each) → Goes P F p.next (asks_each p held number)
  each_asks p held None known at = another_goes p
  each_asks p held (Some n) known at = (record { mid = p.next; before = refl; behind = refl; fronts = λ sure. (tt, tt) }, λ none. (known, at n refl))

  pub each_begins : (p : PollState) (newest : Option KeptAs) → p.newest ≡ newest → IsBefore newest p.next → IsBefore p.newest p.next →
      Goes P F p.next (asks_each p [] (number_in newest))
  each_begins p None is here known = another_goes p
  each_begins p (Some kept) is here known = (record { mid = p.next; before = refl; behind = refl; fronts = λ sure. (tt, tt) }, λ none. (known, here))

  nowhere_goes : (p : PollState) (done alone : Bool) → IsBefore p.newest p.next → IsAt P F p p.stage → Goes P F p.next (goes_nowhere p done alone)
  nowhere_goes p done alone known at =
      split P F (Goes P F p.next) done _ _ (λ last. ends_goes P F p CaughtUp)
      (λ more. split P F (Goes P F p.next) alone _ _
      (λ one. (record { mid = p.next; before = refl; behind = refl; fronts = λ sure. (tt, tt) }, λ none. (known, tt)))
      (λ some. (record { mid = p.next; before = refl; behind = refl; fronts = λ sure. (tt, tt) }, λ none. (known, at))))

  joined_goes : (p : PollState) (kept : KeptAs) (reply : Reply) (n : ℕ) (found : Option Numbered) → record_at kept.number reply.records ≡ found →
      IsRun P n reply.records → p.next ≡ number_after kept.number 1 → IsBefore p.newest p.next → Goes P F p.next (joined p kept reply found)
  joined_goes p kept reply n None is run here known = (record { mid = p.next; before = refl; behind = refl; fronts = λ sure. (tt, tt) }, λ none. (known, tt))
  joined_goes p kept reply n (Some held) is run here known =
      let same : held.number ≡ kept.number = found_number P F kept.number reply.records held is in
      let behind : IsRun P p.next (records_behind kept.number reply.records) =
      subst (λ k. IsRun P k (records_behind kept.number reply.records)) (sym here) (run_behind P F kept.number n reply.records run) in
      split P F (Goes P F p.next) (length (records_behind kept.number reply.records) == 0) _ _
      (λ none. nowhere_goes (found p held) _ _ (here ∙ ap (λ (k : ℕ). number_after k 1) (sym same)) tt)
      (λ some. brings_goes P F (found p held) (records_behind kept.number reply.records) behind)

  from_goes : (p : PollState) (reply : Reply) (n : ℕ) (newest : Option KeptAs) → p.newest ≡ newest → IsBefore newest p.next → IsBefore p.newest p.next →
      IsRun P n reply.records → Goes P F p.next (joins_from p reply newest)
  from_goes p reply n None is here known run = oldest_goes p Finds known tt
  from_goes p reply n (Some kept) is here known run = joined_goes p kept reply n _ refl run here known

  pub hour_goes : (n by : ℕ) (told : Line) (t : Turned) → Goes P F n t → Goes P F n (at_hour by told t)
  hour_goes n by told t goes = split P F (Goes P F n) (by == 100) _ _ (λ same. goes) (λ moved. (record { mid = goes.0.mid; before = goes.0.before; behind = goes.0.behind; fronts = goes.0.fronts }, goes.1))

  joins_by_goes : (p : PollState) (reply : Reply) (n : ℕ) (means : Means) → IsBefore p.newest p.next → IsRun P n reply.records → Goes P F p.next (joins_by p reply means)
  joins_by_goes p reply n Unshown known run = oldest_goes p Finds known tt
  joins_by_goes p reply n Same known run = from_goes p reply n p.newest refl known known run
  joins_by_goes p reply n (Shifted by) known run = hour_goes p.next by _ _ (from_goes p reply n p.newest refl known known run)
  joins_by_goes p reply n Partly known run = each_begins p p.newest refl known known
  joins_by_goes p reply n Another known run = another_goes p

  pub joins_goes : (p : PollState) (reply : Reply) (n : ℕ) → IsBefore p.newest p.next → IsRun P n reply.records → Goes P F p.next (joins p reply)
  joins_goes p reply n known run = joins_by_goes p reply n (means_in p reply.records) known run

  pub prior_goes : (p : PollState) (records : List Numbered) → IsBefore p.newest p.next → Goes P F p.next (prior p records)
  prior_goes p records known =
      split P F (Goes P F p.next) (first_number records == p.reference) _ _ (λ there. another_goes p) (λ gone. oldest_goes p Finds known tt)

  again_asks : (p : PollState) (held : List Numbered) (number : Option ℕ) → IsBefore p.newest p.next → IsRun P p.next held → Goes P F p.next (asks_again p held number)
  again_asks p held None known run = oldest_goes p Finds known tt
  again_asks p held (Some n) known run = (record { mid = p.next; before = refl; behind = refl; fronts = λ sure. (tt, tt) }, λ none. (known, run))

  pub ahead_goes : (p : PollState) (records : List Numbered) → IsBefore p.newest p.next → IsRun P (first_number records) records → Goes P F p.next (ahead p records)
  ahead_goes p records known run =
      split P F (Goes P F p.next) (length records == 0) _ _
      (λ none. split P F (Goes P F p.next) p.more _ _ (λ more. again_asks p [] (number_in p.newest) known tt) (λ done. ends_goes P F p CaughtUp))
      (λ some. split P F (Goes P F p.next) (first_number records == p.next) _ _
      (λ here. again_asks p records (number_in p.newest) known (subst (λ k. IsRun P k records) (eqb-true (first_number records) p.next here) run))
      (λ other. oldest_goes p Finds known tt))

  lost_goes : (p : PollState) (seen : Shown) → IsBefore p.newest p.next → Goes P F p.next (lost p seen)
  lost_goes p shown.Unshown known = oldest_goes p Finds known tt
  lost_goes p shown.Equal known = oldest_goes p Finds known tt
  lost_goes p (shown.Moved by) known = another_goes p
  lost_goes p shown.Another known = another_goes p

  -- the same in a turn with a gap, from which it goes on
  gap_another : (n : ℕ) (q : PollState) → Goes P F n (record (another q) { missing = gap_up_to n q.next; doubtful = true })
  gap_another n q =
      split P F (λ t. Goes P F n (record t { missing = gap_up_to n q.next; doubtful = true })) (q.lives == 2) _ _
      (λ third. (record { mid = q.next; before = gap_alone P F n q.next; behind = refl; fronts = λ sure. absurd (cc) }, λ none. absurd (cc)))
      (λ more. (record { mid = q.next; before = gap_alone P F n q.next; behind = refl; fronts = λ sure. absurd (cc) }, λ none. (tt, (refl, refl, refl, refl))))

  gap_lost : (n : ℕ) (q : PollState) (seen : Shown) → IsBefore q.newest q.next → Goes P F n (record (lost q seen) { missing = gap_up_to n q.next; doubtful = true })
  gap_lost n q shown.Unshown known = (record { mid = q.next; before = gap_alone P F n q.next; behind = refl; fronts = λ sure. absurd (cc) }, λ none. (known, tt))
  gap_lost n q shown.Equal known = (record { mid = q.next; before = gap_alone P F n q.next; behind = refl; fronts = λ sure. absurd (cc) }, λ none. (known, tt))
  gap_lost n q (shown.Moved by) known = gap_another n q
  gap_lost n q shown.Another known = gap_another n q

  lost_ahead_goes : (p : PollState) (seen : Shown) (last : Option Numbered) → IsBefore p.newest p.next → Goes P F p.next (lost_ahead p seen last)
  lost_ahead_goes p seen None known = lost_goes p seen known
  lost_ahead_goes p seen (Some last) known = gap_lost p.next (standing_at p (number_after last.number 1)) seen tt

  moved_goes_ahead : (p : PollState) (held : List Numbered) (seen : Shown) → IsBefore p.newest p.next → Goes P F p.next (moved_ahead p held seen)
  moved_goes_ahead p held seen known =
      split P F (Goes P F p.next) (is_some p.earliest) _ _ (λ three. each_begins p p.newest refl known known)
      (λ fewer. lost_ahead_goes p seen (last_in held) known)

  ahead_brings : (p : PollState) (held : List Numbered) → IsRun P p.next held → Goes P F p.next (brings_ahead p held (last_in held))
  ahead_brings p [] run = ends_goes P F p (end_of p)
  ahead_brings p (r ∷ rs) run =
      let e = run_ends P F p.next r rs run in
      let Q : Option Numbered → Type 0 = λ last. Goes P F p.next (brings_ahead p (r ∷ rs) last) in
      subst Q (sym e.1) (record { mid = p.next; before = refl; behind = e.2; fronts = λ sure. (tt, tt) }, λ none. (refl, tt))

  equal_goes : (p : PollState) (held : List Numbered) (kept : KeptAs) (n : ℕ) (records : List Numbered) → p.next ≡ number_after kept.number 1 →
      IsRun P p.next held → IsRun P n records → Goes P F p.next (again_equal p held kept records)
  equal_goes p held kept n records here ahead run =
      let behind : IsRun P p.next (records_behind kept.number records) =
      subst (λ k. IsRun P k (records_behind kept.number records)) (sym here) (run_behind P F kept.number n records run) in
      split P F (Goes P F p.next) (length held == 0) _ _ (λ none. brings_goes P F p (records_behind kept.number records) behind)
      (λ some. split P F (Goes P F p.next) (length records == 1) _ _ (λ alone. ahead_brings p held ahead) (λ more. brings_goes P F p held ahead))

  again_by_goes : (p : PollState) (held : List Numbered) (kept : KeptAs) (n : ℕ) (records : List Numbered) (seen : Shown) →
      p.next ≡ number_after kept.number 1 → IsBefore p.newest p.next → IsRun P p.next held → IsRun P n records → Goes P F p.next (again_by p held kept records seen)
  again_by_goes p held kept n records shown.Equal here known ahead run = equal_goes p held kept n records here ahead run
  again_by_goes p held kept n records shown.Unshown here known ahead run = lost_ahead_goes p shown.Unshown (last_in held) known
  again_by_goes p held kept n records (shown.Moved by) here known ahead run = moved_goes_ahead p held (shown.Moved by) known
  again_by_goes p held kept n records shown.Another here known ahead run = lost_ahead_goes p shown.Another (last_in held) known

  again_from_goes : (p : PollState) (held : List Numbered) (n : ℕ) (records : List Numbered) (newest : Option KeptAs) → IsBefore newest p.next →
      IsBefore p.newest p.next → IsRun P p.next held → IsRun P n records → Goes P F p.next (again_from p held records newest)
  again_from_goes p held n records None here known ahead run = oldest_goes p Finds known tt
  again_from_goes p held n records (Some kept) here known ahead run =
      again_by_goes p held kept n records (shown_in (Some kept) records) here known ahead run

  pub again_goes : (p : PollState) (held : List Numbered) (n : ℕ) (records : List Numbered) → IsBefore p.newest p.next → IsRun P p.next held →
      IsRun P n records → Goes P F p.next (again p held records)
  again_goes p held n records known ahead run = again_from_goes p held n records p.newest known known ahead run

  each_means_goes : (p : PollState) (held : Numbered) (means : Means) → p.next ≡ number_after held.number 1 → Goes P F p.next (each_means p held means)
  each_means_goes p held Same here = (record { mid = p.next; before = refl; behind = refl; fronts = λ sure. (tt, tt) }, λ none. (here, tt))
  each_means_goes p held (Shifted by) here =
      hour_goes p.next by (hour p by) (asks (standing_alone p (kept_of held))) (record { mid = p.next; before = refl; behind = refl; fronts = λ sure. (tt, tt) }, λ none. (here, tt))
  each_means_goes p held Unshown here = another_goes p
  each_means_goes p held Partly here = another_goes p
  each_means_goes p held Another here = another_goes p

  each_all_goes : (p : PollState) (held : List Numbered) (first : Option Numbered) → first_in held ≡ first →
      ((a : Numbered) → first ≡ Some a → p.next ≡ number_after a.number 1) → Goes P F p.next (each_all p held first)
  each_all_goes p held None is here = another_goes p
  each_all_goes p held (Some a) is here = each_means_goes p a (means_in p held) (here a refl)

  -- at least one was shown
  each_next_goes : (p : PollState) (a : Numbered) (others : List Numbered) → IsBefore p.newest p.next → p.next ≡ number_after a.number 1 →
      Goes P F p.next (each_next p (a ∷ others))
  each_next_goes p a others known here =
      split P F (Goes P F p.next) (length (a ∷ others) == 1) _ _ (λ one. each_asks p (a ∷ others) (number_in p.earlier) known (λ n is. here))
      (λ more. split P F (Goes P F p.next) (length (a ∷ others) == 2) _ _
      (λ two. each_asks p (a ∷ others) (number_in p.earliest) known (λ n is. here))
      (λ three. each_means_goes p a (means_in p (a ∷ others)) here))

  each_shown : (p : PollState) (held : List Numbered) (shown : Numbered) → IsBefore p.newest p.next → IsEach p.reference p.next held →
      shown.number ≡ p.reference → Goes P F p.next (each_next p (held ++ shown ∷ []))
  each_shown p [] shown known at same = each_next_goes p shown [] known (at ∙ ap (λ (k : ℕ). number_after k 1) (sym same))
  each_shown p (a ∷ others) shown known at same = each_next_goes p a (others ++ shown ∷ []) known at

  each_by_goes : (p : PollState) (held : List Numbered) (first : Option Numbered) → IsBefore p.newest p.next → IsEach p.reference p.next held →
      Goes P F p.next (each_by p held first)
  each_by_goes p held None known at = another_goes p
  each_by_goes p held (Some shown) known at =
      split P F (Goes P F p.next) ((shown.number == p.reference) && nat_lt (length held) 3) _ _
      (λ asked. each_shown p held shown known at (eqb-true shown.number p.reference (and_parts _ _ asked).0)) (λ other. another_goes p)

  pub each_goes : (p : PollState) (held records : List Numbered) → IsBefore p.newest p.next → IsEach p.reference p.next held → Goes P F p.next (each p held records)
  each_goes p held records known at = each_by_goes p held (first_in records) known at

  -- ---- 2. the oldest records

  -- a gap may end in front of these, where no others are looked for
  abbrev IsDone : PollState → Bool → List Numbered → Type 0
  IsDone p back records = (back && not (is_first p (first_number records))) ≡ false → F (first_number records)

  drops_goes : (p : PollState) (back : Bool) (records : List Numbered) → IsBefore p.newest p.next → FullRun records → IsDone p back records →
      Goes P F p.next (drops p back records)
  drops_goes p back records known run done =
      split P F (Goes P F p.next) (back && not (is_first p (first_number records))) _ _ (λ look. back_goes p Finds records known tt run)
      (λ front. word_goes p records known (run.0, front_of p records run.1 (done front)))

  sees_before_goes : (p : PollState) (cut : Bool) (records : List Numbered) → IsBefore p.newest p.next → FullRun records →
      Goes P F p.next (sees_before p cut records)
  sees_before_goes p cut records known run =
      split P F (Goes P F p.next) cut _ _
      (λ short. (record { mid = p.next; before = refl; behind = refl; fronts = λ sure. (tt, tt) }, λ none. (known, run)))
      (λ whole. another_by_goes p records run)

  pub by_number_goes : (p : PollState) (held records : List Numbered) → FullRun held → Goes P F p.next (by_number p held records)
  by_number_goes p held records run =
      split P F (Goes P F p.next) (length records == 0) _ _ (λ none. ends_goes P F p NoneByNumber) (λ some. another_by_goes p held run)

  sees_none_goes : (p : PollState) (back cut : Bool) (records : List Numbered) → IsBefore p.newest p.next → FullRun records → IsDone p back records →
      Goes P F p.next (sees_none p back cut records)
  sees_none_goes p back cut records known run done =
      split P F (Goes P F p.next) (is_ahead p.next (first_number records)) _ _ (λ behind. drops_goes p back records known run done)
      (λ before. sees_before_goes p cut records known run)

  newest_goes : (p : PollState) (number : ℕ) → IsBefore p.newest p.next → Goes P F p.next (asks_newest p number)
  newest_goes p number known = (record { mid = p.next; before = refl; behind = refl; fronts = λ sure. (tt, tt) }, λ none. (known, tt))

  sees_newest_goes : (p : PollState) (kept : KeptAs) (cut : Bool) (records : List Numbered) (found : Option Numbered) → record_at kept.number records ≡ found →
      p.next ≡ number_after kept.number 1 → IsBefore p.newest p.next → FullRun records → Goes P F p.next (sees_newest p kept cut records found)
  sees_newest_goes p kept cut records None is here known run =
      split P F (Goes P F p.next) p.alone _ _ (λ asked. sees_before_goes p cut records known run) (λ other. newest_goes p kept.number known)
  sees_newest_goes p kept cut records (Some held) is here known run =
      let shown_here : p.next ≡ number_after held.number 1 = here ∙ ap (λ (k : ℕ). number_after k 1) (sym (found_number P F kept.number records held is)) in
      let behind : IsRun P p.next (records_behind kept.number records) =
      subst (λ k. IsRun P k (records_behind kept.number records)) (sym here) (run_behind P F kept.number (first_number records) records run.0) in
      split P F (Goes P F p.next) ((length (records_behind kept.number records) == 0) && not p.alone) _ _
      (λ none. (record { mid = p.next; before = refl; behind = refl; fronts = λ sure. (tt, tt) }, λ none. (shown_here, tt)))
      (λ some. split P F (Goes P F p.next) ((length (records_behind kept.number records) == 0) && cut) _ _
      (λ short. ends_goes P F (found p held) NoneByNumber)
      (λ more. brings_goes P F (found p held) (records_behind kept.number records) behind))

  sees_same_goes : (p : PollState) (cut : Bool) (records : List Numbered) (newest : Option KeptAs) → IsBefore newest p.next → IsBefore p.newest p.next → FullRun records →
      Goes P F p.next (sees_same p cut records newest)
  sees_same_goes p cut records None here known run = another_by_goes p records run
  sees_same_goes p cut records (Some kept) here known run = sees_newest_goes p kept cut records (record_at kept.number records) refl here known run

  sees_by_goes : (p : PollState) (back cut : Bool) (records : List Numbered) (means : Means) → IsBefore p.newest p.next → FullRun records →
      (means ≡ Unshown → IsDone p back records) → Goes P F p.next (sees_by p back cut records means)
  sees_by_goes p back cut records Unshown known run done = sees_none_goes p back cut records known run (done refl)
  sees_by_goes p back cut records Same known run done = sees_same_goes p cut records p.newest known known run
  sees_by_goes p back cut records (Shifted by) known run done = hour_goes p.next by _ _ (sees_same_goes p cut records p.newest known known run)
  sees_by_goes p back cut records Partly known run done = each_begins p p.newest refl known known
  sees_by_goes p back cut records Another known run done = another_by_goes p records run

  pub sees_goes : (p : PollState) (back cut : Bool) (records : List Numbered) → IsBefore p.newest p.next → FullRun records →
      (means_in p records ≡ Unshown → IsDone p back records) → Goes P F p.next (sees p back cut records)
  sees_goes p back cut records known run done = sees_by_goes p back cut records (means_in p records) known run done

  not_false : (b : Bool) → not b ≡ false → b ≡ true
  not_false true is = refl
  not_false false is = absurd (cc)

  -- they came by time, or up to a count
  pub came_sees : (p : PollState) (cut : Bool) (records : List Numbered) → IsBefore p.newest p.next → FullRun records → F 1 →
      Goes P F p.next (sees p true cut records)
  came_sees p cut records known run one =
      sees_goes p true cut records known run (λ none done. first_is p (first_number records) (not_false (is_first p (first_number records)) done) one)

  -- ---- 3. the count

  pub counted_goes : (p : PollState) (count : Option ℕ) → IsBefore p.newest p.next → Goes P F p.next (by_count p count)
  counted_goes p None known = ends_goes P F p ShowsNone
  counted_goes p (Some total) known =
      split P F (Goes P F p.next) (total == logged p) _ _ (λ same. ends_goes P F (confirmed p) CaughtUp)
      (λ other. split P F (Goes P F p.next) (nat_lt 0 total && is_ahead p.next total) _ _
      (λ behind. (record { mid = p.next; before = refl; behind = refl; fronts = λ sure. (tt, tt) }, λ none. (known, tt))) (λ before. another_of_goes p total))

  -- ---- 5. a first run

  starts_here_goes : (p : PollState) (first : ℕ) (held : List Numbered) → IsRun P first held → Goes P F p.next (starts_here p first held)
  starts_here_goes p first held run =
      brings_by P F (λ t. Goes P F p.next (record t { begins = beginning first false })) (standing_at (confirmed p) first) first held run
      (λ empty. (record { mid = first; before = refl; behind = refl; fronts = λ sure. (tt, tt) }, λ none. absurd (cc)))
      (λ l cov. (record { mid = first; before = refl; behind = cov; fronts = λ sure. (tt, tt) }, λ none. (refl, tt)))

  starts_behind_goes : (p : PollState) (begins first : ℕ) (held : List Numbered) → IsRun P first held → F first → Goes P F p.next (starts_behind p begins first held)
  starts_behind_goes p begins first held run front =
      brings_by P F (λ t. Goes P F p.next (record t { begins = beginning begins false; missing = gap_up_to begins first; doubtful = is_doubted p (word_of p.word p.told) }))
      (standing_at (confirmed p) first) first held run
      (λ empty. (record { mid = first; before = gap_alone P F begins first; behind = refl; fronts = λ sure. (gap_ends P F begins first front, tt) }, λ none. absurd (cc)))
      (λ l cov. (record { mid = first; before = gap_alone P F begins first; behind = cov; fronts = λ sure. (gap_ends P F begins first front, tt) }, λ none. (refl, tt)))

  starts_at_goes : (p : PollState) (first : ℕ) (held : List Numbered) (begins : Option ℕ) → IsRun P first held → F first → Goes P F p.next (starts_at p first held begins)
  starts_at_goes p first held None run front = starts_here_goes p first held run
  starts_at_goes p first held (Some begins) run front =
      split P F (Goes P F p.next) (is_ahead begins first) _ _ (λ behind. starts_behind_goes p begins first held run front) (λ before. starts_here_goes p first held run)

  pub starts_goes : (p : PollState) (held : List Numbered) → FrontRun p held → Goes P F p.next (starts p held)
  starts_goes p held run = starts_at_goes p _ held p.counted (run_or P F (number_after p.total 1) held run.0) run.1

  -- a poll that goes on with another number
  moved_goes : (n m : ℕ) (t : Turned) → n ≡ m → Goes P F m t → Goes P F n t
  moved_goes n m t same goes = subst (λ (k : ℕ). Goes P F k t) (sym same) goes

  pub starts_by_goes : (p : PollState) (records : List Numbered) → IsBegun p → FullRun records → F 1 → Goes P F p.next (starts_by p records)
  starts_by_goes p records begun run one =
      moved_goes p.next 1 (starts_by p records) begun.0
      (split P F (Goes P F 1) (is_first (standing_at p 1) (first_number records)) _ _
      (λ first. starts_goes (standing_at p 1) records (run.0, front_of (standing_at p 1) records run.1 (first_is (standing_at p 1) (first_number records) first one)))
      (λ later. back_goes (standing_at p 1) Starts records tt (refl, refl, refl, refl) run))

  pub starts_none_goes : (p : PollState) → F (number_after p.total 1) → Goes P F p.next (starts_none p)
  starts_none_goes p front =
      split P F (Goes P F p.next) (p.refused && is_some p.counted) _ _ (λ stays. ends_goes P F p ShowsNone) (λ told. starts_goes p [] (tt, front))

  told_goes : (p : PollState) (begins : Option ℕ) (next : ℕ) → IsBefore p.newest p.next → IsAimed p Starts → Goes P F p.next (starts_told p begins next)
  told_goes p None next known aimed = (record { mid = p.next; before = refl; behind = refl; fronts = λ sure. (tt, tt) }, λ none. (known, aimed))
  told_goes p (Some begins) next known aimed = oldest_goes p Starts known aimed

  refused_goes : (p : PollState) (counted : Option ℕ) → IsBefore p.newest p.next → IsAimed p Starts → Goes P F p.next (starts_refused p counted)
  refused_goes p None known aimed = (record { mid = p.next; before = refl; behind = refl; fronts = λ sure. (tt, tt) }, λ none. (known, aimed))
  refused_goes p (Some counted) known aimed = oldest_goes p Starts known aimed

  pub starts_from_goes : (p : PollState) (count : Option ℕ) → IsBefore p.newest p.next → IsAimed p Starts → Goes P F p.next (starts_from p count)
  starts_from_goes p None known aimed = refused_goes (record p { total = 0; refused = true }) p.counted known aimed
  starts_from_goes p (Some total) known aimed =
      told_goes (record p { total = total; refused = false }) p.begins (number_after total 1) known aimed
