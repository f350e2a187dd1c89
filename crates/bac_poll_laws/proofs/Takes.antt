-- How many questions may follow the turns of the rule, section by section.
use Rattle.std.proofs.Common.{arith, is_some, ◌≡◌, ℕ, ◌+◌, ◌-◌, ◌≤◌, ◌<◌, ◌==◌, ◌&&◌, ◌++◌, nat_lt, Bool, true, false}
use Rattle.std.proofs.Common.{Option, None, Some, List, [], ◌∷◌, cond, length, refl, sym, ap, subst, ◌∙◌}
use Rattle.std.proofs.lemmas.Bool.{and_parts, eqb-true, ltb-true}
use Rattle.std.proofs.lemmas.List.{length-append}
use Rattle.bac_link.specs.Ordinals.{distance, number_after}
use Rattle.bac_walk.specs.Place.{WalkPlace}
use Rattle.bac_walk.specs.declared.batch.Numbered.{Numbered}
use Rattle.bac_poll.specs.Epochs.{another}
use Rattle.bac_poll.specs.Joins.{again, again_by, again_equal, again_from, ahead, asks_again, asks_each, asks_newest}
use Rattle.bac_poll.specs.Joins.{at_hour, brings_ahead, each, each_by, each_means, each_next, found, goes_nowhere, hour}
use Rattle.bac_poll.specs.Joins.{joined, joins, joins_by, joins_from, lost, lost_ahead, moved_ahead, prior}
use Rattle.bac_poll.specs.Known.{heeding, maybe_shown, means_in, means_of, number_in, record_at, records_behind}
use Rattle.bac_poll.specs.Known.{shown_in}
use Rattle.bac_poll.specs.Poll.{kept_number}
use Rattle.bac_poll.specs.State.{KeptAs, PollState, Reply, kept_of}
use Rattle.bac_poll.specs.Turns.{Turned, asks, brings, end_of, first_in, first_number, last_in, number_or}
use Rattle.bac_poll.specs.Turns.{standing_alone, standing_at}
use Rattle.bac_known.specs.declared.known.Means.{Means}
use Rattle.bac_known.specs.declared.known.Means.TheVariants.{Shifted, Partly, Same, Unshown, Another}
use Rattle.bac_known.specs.declared.known.Shown.{Shown}
use Rattle.bac_known.specs.declared.known.Shown.TheVariants as shown
use Rattle.bac_poll_steps.specs.declared.stage.Aim.TheVariants.{Finds}
use Rattle.bac_poll_steps.specs.declared.stage.Stage.TheVariants as stage
use Rattle.bac_poll_steps.specs.declared.turn.Line.{Line}
use Rattle.bac_poll_steps.specs.declared.turn.PollEnd.TheVariants.{CaughtUp}
use Rattle.bac_poll_laws.specs.Bounds.{FollowsOn}
use Rattle.bac_poll_laws.specs.Laws.{HasSome, IsBefore, IsRun, Whichever}
use Rattle.bac_poll_laws.proofs.Fronts.{last_known, none_of}
use Rattle.bac_poll_laws.proofs.Lefts.{Costs, IsSame, Refers, Row, another_costs, brings_costs, by_alone, ends_costs}
use Rattle.bac_poll_laws.proofs.Lefts.{knows, left_oldest, oldest_costs, pick}
use Rattle.bac_poll_laws.proofs.Wholes.{found_number, last_step, run_behind}

-- ---- numbers near another one

step_near : (a m : ℕ) → a ≤ 4294967295 → distance a m + 1 < 4294967295 → distance a (number_after m 1) ≡ distance a m + 1
step_near a m low near = omega (arith, low, near)

module _ (P : Numbered → Type 0) where
  not_at : (c : Bool) (r : Numbered) (rest : Option Numbered) → (c ≡ true → ⊥) → rest ≡ None → cond c (Some r) rest ≡ None
  not_at true r rest never none = absurd (never refl)
  not_at false r rest never none = none

  -- a number that isn't near isn't that of one of these
  far : (a x m : ℕ) (rs : List Numbered) → a ≤ 4294967295 → 100 ≤ distance a x → distance a m + length rs ≤ 100 → IsRun P m rs → record_at x rs ≡ None
  far a x m [] low behind near run = refl
  far a x m (r ∷ rs) low behind near run =
      let rest : distance a (number_after m 1) ≡ distance a m + 1 = step_near a m low (omega (arith, near)) in
      let on : distance a (number_after m 1) + length rs ≤ 100 = omega (arith, rest, near) in
      not_at (r.number == x) r (record_at x rs) (λ same. let is : m ≡ x = sym run.0 ∙ eqb-true r.number x same in let d : distance a m ≡ distance a x = ap (λ (k : ℕ). distance a k) is in omega (arith, d, near, behind))
      (far a x (number_after m 1) rs low behind on (subst (λ (k : ℕ). IsRun P (number_after k 1) rs) run.0 run.2))

  -- the last of a run lies so far from its first
  last_near : (a m : ℕ) (r : Numbered) (rs : List Numbered) → a ≤ 4294967295 → distance a m + length (r ∷ rs) ≤ 100 → IsRun P m (r ∷ rs) → (l : Numbered) → last_in (r ∷ rs) ≡ Some l →
      distance a l.number ≡ distance a m + length rs
  last_near a m r [] low near run l is =
      let same : r.number ≡ l.number = ap (λ (o : Option Numbered). number_or 0 o) is in
      let d : distance a l.number ≡ distance a m = ap (λ (k : ℕ). distance a k) (sym same ∙ run.0) in
      omega (arith, d)
  last_near a m r (s ∷ rs) low near run l is =
      let rest : distance a (number_after m 1) ≡ distance a m + 1 = step_near a m low (omega (arith, near)) in
      let on : distance a (number_after m 1) + length (s ∷ rs) ≤ 100 = omega (arith, rest, near) in
      let all : distance a l.number ≡ distance a (number_after m 1) + length rs =
      last_near a (number_after m 1) s rs low on (subst (λ (k : ℕ). IsRun P (number_after k 1) (s ∷ rs)) run.0 run.2) l (sym (last_step P Whichever r s rs) ∙ is) in
      omega (arith, all, rest)

  -- and is a number
  last_low : (m : ℕ) (r : Numbered) (rs : List Numbered) → m ≤ 4294967295 → IsRun P m (r ∷ rs) → (l : Numbered) → last_in (r ∷ rs) ≡ Some l → l.number ≤ 4294967295
  last_low m r [] low run l is =
      let same : r.number ≡ l.number = ap (λ (o : Option Numbered). number_or 0 o) is in
      omega (arith, same, low, run.0)
  last_low m r (s ∷ rs) low run l is = last_low (number_after r.number 1) s rs (omega arith) run.2 l (sym (last_step P Whichever r s rs) ∙ is)

  -- where records from a number on end with it, that one came alone
  one_alone : (a : ℕ) (rs : List Numbered) (l : Numbered) → (HasSome rs → distance a (first_number rs) + length rs ≤ 100) → IsRun P (first_number rs) rs → last_in rs ≡ Some l →
      l.number ≡ a → length rs ≡ 1
  one_alone a [] l near run is at = absurd (cc)
  one_alone a (r ∷ []) l near run is at = refl
  one_alone a (r ∷ s ∷ rs) l near run is at =
      let bound : l.number ≤ 4294967295 = last_low (number_after r.number 1) s rs (omega arith) run.2 l (sym (last_step P Whichever r s rs) ∙ is) in
      let low : a ≤ 4294967295 = omega (arith, bound, at) in
      let d : distance a l.number ≡ distance a r.number + length (s ∷ rs) = last_near a r.number r (s ∷ rs) low (near tt) run l is in
      let zero : distance a l.number ≡ 0 = omega (arith, at, low) in
      let never : ⊥ = omega (arith, d, zero) in absurd never

  -- ---- what is known isn't shown from behind it on

  none_shown : (o : Option KeptAs) (rs : List Numbered) → ((kept : KeptAs) → o ≡ Some kept → record_at kept.number rs ≡ None) → shown_in o rs ≡ shown.Unshown
  none_shown None rs none = refl
  none_shown (Some kept) rs none = ap (λ (at : Option Numbered). maybe_shown kept at) (none kept refl)

  pub unshown : (p : PollState) (rs : List Numbered) → shown_in p.newest rs ≡ shown.Unshown → shown_in p.earlier rs ≡ shown.Unshown → shown_in p.earliest rs ≡ shown.Unshown →
      means_in p rs ≡ Unshown
  unshown p rs a b c =
      ap (λ x. heeding p (means_of (is_some p.earliest) x (shown_in p.earlier rs) (shown_in p.earliest rs))) a
      ∙ ap (λ x. heeding p (means_of (is_some p.earliest) shown.Unshown x (shown_in p.earliest rs))) b
      ∙ ap (λ x. heeding p (means_of (is_some p.earliest) shown.Unshown shown.Unshown x)) c

  none_known : (newest earlier earliest : Option KeptAs) → newest ≡ None → FollowsOn newest earlier → FollowsOn earlier earliest → (earlier ≡ None) × (earliest ≡ None)
  none_known newest None None none later early = (refl, refl)
  none_known newest None (Some t) none later early = absurd early
  none_known None (Some m) earliest none later early = absurd later
  none_known (Some kept) (Some m) earliest none later early = absurd (cc)

  -- where some of those that are known are shown at another hour, the newest is known
  pub some_known : (p : PollState) (rs : List Numbered) → Row p → means_in p rs ≡ Partly → p.newest ≡ None → ⊥
  some_known p rs row partly none =
      let others = none_known p.newest p.earlier p.earliest none row.0 row.1 in
      let means : means_in p rs ≡ Unshown =
      unshown p rs (ap (λ (o : Option KeptAs). shown_in o rs) none) (ap (λ (o : Option KeptAs). shown_in o rs) others.0) (ap (λ (o : Option KeptAs). shown_in o rs) others.1) in
      let never : Partly ≡ Unshown = sym partly ∙ means in absurd (cc)

  far_all : (a x : ℕ) (rs : List Numbered) → a ≤ 4294967295 → 100 ≤ distance a x → (HasSome rs → distance a (first_number rs) + length rs ≤ 100) → IsRun P (first_number rs) rs →
      record_at x rs ≡ None
  far_all a x [] low behind near run = refl
  far_all a x (r ∷ rs) low behind near run = far a x r.number (r ∷ rs) low behind (near tt) run

  -- where the newest one isn't either, among records from its number on
  from_newest : (p : PollState) (newest earlier earliest : Option KeptAs) (rs : List Numbered) → p.newest ≡ newest → p.earlier ≡ earlier → p.earliest ≡ earliest →
      FollowsOn newest earlier → FollowsOn earlier earliest → ((kept : KeptAs) → newest ≡ Some kept → record_at kept.number rs ≡ None) →
      ((kept : KeptAs) → newest ≡ Some kept → HasSome rs → distance kept.number (first_number rs) + length rs ≤ 100) → IsRun P (first_number rs) rs → means_in p rs ≡ Unshown
  from_newest p newest None None rs one two three later early none near run =
      unshown p rs (ap (λ (o : Option KeptAs). shown_in o rs) one ∙ none_shown newest rs none) (ap (λ (o : Option KeptAs). shown_in o rs) two) (ap (λ (o : Option KeptAs). shown_in o rs) three)
  from_newest p newest None (Some t) rs one two three later early none near run = absurd early
  from_newest p None (Some m) earliest rs one two three later early none near run = absurd later
  from_newest p (Some kept) (Some m) earliest rs one two three later early none near run =
      let a = kept.number in
      let low : a ≤ 4294967295 = omega (arith, later) in
      unshown p rs (ap (λ (o : Option KeptAs). shown_in o rs) one ∙ none_shown (Some kept) rs none)
      (ap (λ (o : Option KeptAs). shown_in o rs) two ∙ none_shown (Some m) rs (λ k is. let same : m.number ≡ k.number = ap (λ (o : Option KeptAs). kept_number o 0) is in
      far_all a k.number rs low (omega (arith, later, same)) (near kept refl) run))
      (ap (λ (o : Option KeptAs). shown_in o rs) three ∙ none_shown earliest rs (λ k is. let back : m.number ≡ number_after k.number 1 = subst (λ (o : Option KeptAs). FollowsOn (Some m) o) is early in
      far_all a k.number rs low (omega (arith, later, back)) (near kept refl) run))

-- ---- 1. each question shows the record before it

module _ (P : Numbered → Type 0) (e : ℕ) (w : WalkPlace) (b : ℕ) where
  pub hour_costs : (n by : ℕ) (told : Line) (t : Turned) → Costs e w b n t → Costs e w b n (at_hour by told t)
  hour_costs n by told t costs = pick P e w b n (by == 100) _ _ (λ same. costs) (λ moved. costs)

  -- a known one alone is asked for
  each_asks : (n : ℕ) (p : PollState) (held : List Numbered) (number : Option ℕ) → Row p → IsSame w b p → 4 ≤ n → 1 + (9 + (2 - length held)) ≤ n + e →
      ((k : ℕ) → number ≡ Some k → Refers (record p { reference = k; held = held }) stage.Each) → Costs e w b n (asks_each p held number)
  each_asks n p held None row same four enough refers = another_costs P e w b n p same four
  each_asks n p held (Some k) row same four enough refers = λ none. (omega (arith, enough), row, refers k refl, same)

  -- the newest known one first
  pub each_begins : (n : ℕ) (p : PollState) → Row p → IsSame w b p → (p.newest ≡ None → 4 ≤ n) → 12 ≤ n + e → Costs e w b n (asks_each p [] (number_in p.newest))
  each_begins n p row same four enough = by p.newest refl
    where
      by : (newest : Option KeptAs) → p.newest ≡ newest → Costs e w b n (asks_each p [] (number_in newest))
      by None is = another_costs P e w b n p same (four is)
      by (Some kept) is =
          λ none. (omega (arith, enough), row, (λ one at. let both : Some kept ≡ Some one = sym is ∙ at in ap (λ (o : Option KeptAs). kept_number o 0) both), same)

  -- the known ones follow one another where the newest is known as it is shown
  shown_row : (newest earlier : Option KeptAs) (kept : KeptAs) (held : Numbered) → newest ≡ Some kept → held.number ≡ kept.number → FollowsOn newest earlier → FollowsOn (Some (kept_of held)) earlier
  shown_row newest None kept held is at follows = tt
  shown_row None (Some m) kept held is at follows = absurd follows
  shown_row (Some one) (Some m) kept held is at follows =
      let same : one.number ≡ kept.number = ap (λ (o : Option KeptAs). kept_number o 0) is in at ∙ sym same ∙ follows

  pub found_row : (p : PollState) (kept : KeptAs) (held : Numbered) → p.newest ≡ Some kept → held.number ≡ kept.number → Row p → Row (found p held)
  found_row p kept held is at row = (shown_row p.newest p.earlier kept held is at row.0, row.1)

  pub found_refers : (p : PollState) (held : Numbered) → Refers (found p held) stage.Joins
  found_refers p held = λ asked kept is. ap (λ (o : Option KeptAs). kept_number o 0) is

  -- what follows a known one is kept
  pub news_costs : (n : ℕ) (p : PollState) (kept : KeptAs) (held : Numbered) (m : ℕ) (rs : List Numbered) → p.newest ≡ Some kept → held.number ≡ kept.number → Row p → IsSame w b p →
      IsRun P m rs → 1 ≤ n → Costs e w b n (brings (found p held) (records_behind kept.number rs))
  news_costs n p kept held m rs is at row same run enough =
      brings_costs P e w b n (found p held) (number_after kept.number 1) (records_behind kept.number rs) (run_behind P Whichever kept.number m rs run)
      (ap (λ (k : ℕ). number_after k 1) (sym at)) (found_row p kept held is at row).0 same enough

  pub newest_costs : (n : ℕ) (p : PollState) (kept : KeptAs) → p.newest ≡ Some kept → Row p → IsSame w b p → 9 ≤ n → Costs e w b n (asks_newest p kept.number)
  newest_costs n p kept is row same enough =
      λ none. (omega (arith, enough), row, (λ asked k at. let both : Some kept ≡ Some k = sym is ∙ at in ap (λ (o : Option KeptAs). kept_number o 0) both), same)

  nowhere_costs : (n : ℕ) (p : PollState) (held : Numbered) (done alone : Bool) → Row (found p held) → IsSame w b p → 8 ≤ n → (alone ≡ false → 9 ≤ n) →
      Costs e w b n (goes_nowhere (found p held) done alone)
  nowhere_costs n p held done alone row same enough more =
      pick P e w b n done _ _ (λ last. ends_costs P e w b n (found p held) CaughtUp)
      (λ other. pick P e w b n alone _ _ (λ one. λ none. (omega (arith, enough), row, tt, same)) (λ some. λ none. (omega (arith, more some), row, found_refers p held, same)))

  joined_costs : (n : ℕ) (p : PollState) (kept : KeptAs) (reply : Reply) (m : ℕ) (at : Option Numbered) → record_at kept.number reply.records ≡ at → p.newest ≡ Some kept → Row p → IsSame w b p →
      IsRun P m reply.records → 8 ≤ n → (at ≡ None → 9 ≤ n) →
      ((held : Numbered) → at ≡ Some held → records_behind kept.number reply.records ≡ [] → (length reply.records == 1) ≡ false → 9 ≤ n) → Costs e w b n (joined p kept reply at)
  joined_costs n p kept reply m None at is row same run enough without more = newest_costs n p kept is row same (without refl)
  joined_costs n p kept reply m (Some held) at is row same run enough without more =
      let number : held.number ≡ kept.number = found_number P Whichever kept.number reply.records held at in
      pick P e w b n (length (records_behind kept.number reply.records) == 0) _ _
      (λ none. nowhere_costs n p held _ _ (found_row p kept held is number row) same enough (λ some. more held refl (none_of _ none) some))
      (λ some. news_costs n p kept held m reply.records is number row same run (omega (arith, enough)))

  -- where that doesn't come to pass, it asks for the newest one once more
  joins_from_costs : (n : ℕ) (p : PollState) (reply : Reply) (m : ℕ) (newest : Option KeptAs) → p.newest ≡ newest → Row p → IsSame w b p → IsRun P m reply.records →
      8 ≤ n → 1 + left_oldest p.alone Finds ≤ n → ((kept : KeptAs) → newest ≡ Some kept → record_at kept.number reply.records ≡ None → 9 ≤ n) →
      ((kept : KeptAs) (held : Numbered) → newest ≡ Some kept → record_at kept.number reply.records ≡ Some held → records_behind kept.number reply.records ≡ [] →
      (length reply.records == 1) ≡ false → 9 ≤ n) → Costs e w b n (joins_from p reply newest)
  joins_from_costs n p reply m None is row same run enough old without more = oldest_costs P e w b n p Finds row same old
  joins_from_costs n p reply m (Some kept) is row same run enough old without more =
      joined_costs n p kept reply m (record_at kept.number reply.records) refl is row same run enough (without kept refl) (λ held at. more kept held refl at)

  joins_by_costs : (n : ℕ) (p : PollState) (reply : Reply) (m : ℕ) (means : Means) → Row p → IsSame w b p → IsRun P m reply.records →
      8 ≤ n → 12 ≤ n + e → 1 + left_oldest p.alone Finds ≤ n → ((kept : KeptAs) → p.newest ≡ Some kept → record_at kept.number reply.records ≡ None → 9 ≤ n) →
      ((kept : KeptAs) (held : Numbered) → p.newest ≡ Some kept → record_at kept.number reply.records ≡ Some held → records_behind kept.number reply.records ≡ [] →
      (length reply.records == 1) ≡ false → 9 ≤ n) → Costs e w b n (joins_by p reply means)
  joins_by_costs n p reply m Unshown row same run enough each old without more = oldest_costs P e w b n p Finds row same old
  joins_by_costs n p reply m Same row same run enough each old without more = joins_from_costs n p reply m p.newest refl row same run enough old without more
  joins_by_costs n p reply m (Shifted by) row same run enough each old without more =
      hour_costs n by _ _ (joins_from_costs n p reply m p.newest refl row same run enough old without more)
  joins_by_costs n p reply m Partly row same run enough each old without more = each_begins n p row same (λ none. omega (arith, enough)) each
  joins_by_costs n p reply m Another row same run enough each old without more = another_costs P e w b n p same (omega (arith, enough))

  -- records from the newest known one's number on
  near_costs : (p : PollState) (reply : Reply) (newest : Option KeptAs) → p.newest ≡ newest → p.alone ≡ true → Row p → IsSame w b p → IsRun P (first_number reply.records) reply.records → 4 ≤ e →
      ((kept : KeptAs) → newest ≡ Some kept → HasSome reply.records → distance kept.number (first_number reply.records) + length reply.records ≤ 100) → Costs e w b 8 (joins p reply)
  near_costs p reply newest is alone row same run four near =
      by (at newest) refl
    where
      old : 1 + left_oldest p.alone Finds ≤ 8
      old = let five : left_oldest p.alone Finds ≡ 5 = ap (λ (a : Bool). left_oldest a Finds) alone in omega (arith, five)

      at : Option KeptAs → Option Numbered
      at None = None
      at (Some kept) = record_at kept.number reply.records

      by : (shown : Option Numbered) → at newest ≡ shown → Costs e w b 8 (joins p reply)
      by None none =
          let means : means_in p reply.records ≡ Unshown =
          from_newest P p newest p.earlier p.earliest reply.records is refl refl (subst (λ (o : Option KeptAs). FollowsOn o p.earlier) is row.0) row.1
          (λ kept so. sym (ap at so) ∙ none) near run in
          subst (λ (means : Means). Costs e w b 8 (joins_by p reply means)) (sym means) (oldest_costs P e w b 8 p Finds row same old)
      by (Some held) shown =
          joins_by_costs 8 p reply (first_number reply.records) (means_in p reply.records) row same run (omega arith) (omega (arith, four)) old
          (λ kept so none. let known : newest ≡ Some kept = sym is ∙ so in let never : Some held ≡ None = sym shown ∙ ap at known ∙ none in absurd (cc))
          (λ kept held so found none some. let known : newest ≡ Some kept = sym is ∙ so in
          let last = last_known kept.number reply.records held found none in
          let one : length reply.records ≡ 1 = one_alone P kept.number reply.records last.0 (near kept known) run last.1 last.2 in
          let never : true ≡ false = sym (ap (λ (k : ℕ). k == 1) one) ∙ some in absurd (cc))

  pub joins_costs : (p : PollState) (reply : Reply) → Row p → Refers p stage.Joins → IsSame w b p → IsRun P (first_number reply.records) reply.records → 4 ≤ e →
      (HasSome reply.records → distance p.reference (first_number reply.records) + length reply.records ≤ 100) → Costs e w b (by_alone p.alone 8 12) (joins p reply)
  joins_costs p reply row refers same run four near = by p.alone refl
    where
      by : (a : Bool) → p.alone ≡ a → Costs e w b (by_alone a 8 12) (joins p reply)
      by true alone = near_costs p reply p.newest refl alone row same run four (λ kept is some. subst (λ (k : ℕ). distance k (first_number reply.records) + length reply.records ≤ 100) (refers alone kept is) (near some))
      by false other =
          let old : left_oldest p.alone Finds ≡ 11 = ap (λ (a : Bool). left_oldest a Finds) other in
          joins_by_costs 12 p reply (first_number reply.records) (means_in p reply.records) row same run (omega arith) (omega (arith, four)) (omega (arith, old))
          (λ kept is none. omega arith) (λ kept held is at none some. omega arith)

  pub prior_costs : (p : PollState) (records : List Numbered) → Row p → IsSame w b p → Costs e w b (by_alone p.alone 6 12) (prior p records)
  prior_costs p records row same = by p.alone refl
    where
      by : (a : Bool) → p.alone ≡ a → Costs e w b (by_alone a 6 12) (prior p records)
      by true alone =
          let old : left_oldest p.alone Finds ≡ 5 = ap (λ (a : Bool). left_oldest a Finds) alone in
          pick P e w b 6 (first_number records == p.reference) _ _ (λ there. another_costs P e w b 6 p same (omega arith)) (λ gone. oldest_costs P e w b 6 p Finds row same (omega (arith, old)))
      by false other =
          let old : left_oldest p.alone Finds ≡ 11 = ap (λ (a : Bool). left_oldest a Finds) other in
          pick P e w b 12 (first_number records == p.reference) _ _ (λ there. another_costs P e w b 12 p same (omega arith)) (λ gone. oldest_costs P e w b 12 p Finds row same (omega (arith, old)))

  -- ---- what follows by number

  again_asks : (n : ℕ) (p : PollState) (held : List Numbered) (number : Option ℕ) → Row p → IsSame w b p → 1 + by_alone p.alone 6 12 ≤ n → Costs e w b n (asks_again p held number)
  again_asks n p held None row same enough = oldest_costs P e w b n p Finds row same (by p.alone (omega (arith, enough)))
    where
      by : (a : Bool) → 1 + by_alone a 6 12 ≤ n → 1 + left_oldest a Finds ≤ n
      by true enough = omega (arith, enough)
      by false enough = omega (arith, enough)
  again_asks n p held (Some k) row same enough = λ none. (omega (arith, enough), row, tt, same)

  pub ahead_costs : (p : PollState) (records : List Numbered) → Row p → IsSame w b p → Costs e w b (by_alone p.alone 7 13) (ahead p records)
  ahead_costs p records row same =
      let n = by_alone p.alone 7 13 in
      pick P e w b n (length records == 0) _ _
      (λ none. pick P e w b n p.more _ _ (λ more. again_asks n p [] (number_in p.newest) row same (again p.alone)) (λ done. ends_costs P e w b n p CaughtUp))
      (λ some. pick P e w b n (first_number records == p.next) _ _ (λ here. again_asks n p records (number_in p.newest) row same (again p.alone))
      (λ other. oldest_costs P e w b n p Finds row same (old p.alone)))
    where
      again : (a : Bool) → 1 + by_alone a 6 12 ≤ by_alone a 7 13
      again true = omega arith
      again false = omega arith

      old : (a : Bool) → 1 + left_oldest a Finds ≤ by_alone a 7 13
      old true = omega arith
      old false = omega arith

  -- ---- the newest known one once more

  lost_costs : (n : ℕ) (p : PollState) (seen : Shown) → Row p → IsSame w b p → 4 ≤ n → 1 + left_oldest p.alone Finds ≤ n → Costs e w b n (lost p seen)
  lost_costs n p shown.Unshown row same four old = oldest_costs P e w b n p Finds row same old
  lost_costs n p shown.Equal row same four old = oldest_costs P e w b n p Finds row same old
  lost_costs n p (shown.Moved by) row same four old = another_costs P e w b n p same four
  lost_costs n p shown.Another row same four old = another_costs P e w b n p same four

  lost_ahead_costs : (n : ℕ) (p : PollState) (seen : Shown) (last : Option Numbered) → Row p → IsSame w b p → 4 ≤ n → 1 + left_oldest p.alone Finds ≤ n → Costs e w b n (lost_ahead p seen last)
  lost_ahead_costs n p seen None row same four old = lost_costs n p seen row same four old
  lost_ahead_costs n p seen (Some last) row same four old = lost_costs n (standing_at p (number_after last.number 1)) seen (tt, tt) same four old

  moved_costs : (n : ℕ) (p : PollState) (held : List Numbered) (seen : Shown) → Row p → IsSame w b p → 4 ≤ n → 12 ≤ n + e → 1 + left_oldest p.alone Finds ≤ n → Costs e w b n (moved_ahead p held seen)
  moved_costs n p held seen row same four each old =
      pick P e w b n (is_some p.earliest) _ _ (λ three. each_begins n p row same (λ none. four) each) (λ fewer. lost_ahead_costs n p seen (last_in held) row same four old)

  ahead_brings : (n : ℕ) (p : PollState) (held : List Numbered) → IsRun P p.next held → IsBefore p.newest p.next → Row p → IsSame w b p → 1 ≤ n → Costs e w b n (brings_ahead p held (last_in held))
  ahead_brings n p [] run known row same enough = ends_costs P e w b n p (end_of p)
  ahead_brings n p (r ∷ rs) run known row same enough =
      let k = knows P p p.next r rs run known row.0 in
      subst (λ last. Costs e w b n (brings_ahead p (r ∷ rs) last)) (sym k.1) (λ none. (omega (arith, enough), k.2, tt, same))

  equal_costs : (n : ℕ) (p : PollState) (held : List Numbered) (kept : KeptAs) (m : ℕ) (records : List Numbered) → p.newest ≡ Some kept → IsBefore p.newest p.next → IsRun P p.next held →
      IsRun P m records → Row p → IsSame w b p → 1 ≤ n → Costs e w b n (again_equal p held kept records)
  equal_costs n p held kept m records is known ahead run row same enough =
      pick P e w b n (length held == 0) _ _
      (λ none. brings_costs P e w b n p (number_after kept.number 1) (records_behind kept.number records) (run_behind P Whichever kept.number m records run)
      (subst (λ (o : Option KeptAs). IsBefore o (number_after kept.number 1)) (sym is) refl) row.0 same enough)
      (λ some. pick P e w b n (length records == 1) _ _ (λ alone. ahead_brings n p held ahead known row same enough)
      (λ more. brings_costs P e w b n p p.next held ahead known row.0 same enough))

  again_by_costs : (n : ℕ) (p : PollState) (held : List Numbered) (kept : KeptAs) (m : ℕ) (records : List Numbered) (seen : Shown) → p.newest ≡ Some kept → IsBefore p.newest p.next →
      IsRun P p.next held → IsRun P m records → Row p → IsSame w b p → 4 ≤ n → 12 ≤ n + e → 1 + left_oldest p.alone Finds ≤ n → Costs e w b n (again_by p held kept records seen)
  again_by_costs n p held kept m records shown.Equal is known ahead run row same four each old = equal_costs n p held kept m records is known ahead run row same (omega (arith, four))
  again_by_costs n p held kept m records shown.Unshown is known ahead run row same four each old = lost_ahead_costs n p shown.Unshown (last_in held) row same four old
  again_by_costs n p held kept m records (shown.Moved by) is known ahead run row same four each old = moved_costs n p held (shown.Moved by) row same four each old
  again_by_costs n p held kept m records shown.Another is known ahead run row same four each old = lost_ahead_costs n p shown.Another (last_in held) row same four old

  again_from_costs : (n : ℕ) (p : PollState) (held : List Numbered) (m : ℕ) (records : List Numbered) (newest : Option KeptAs) → p.newest ≡ newest → IsBefore p.newest p.next →
      IsRun P p.next held → IsRun P m records → Row p → IsSame w b p → 4 ≤ n → 12 ≤ n + e → 1 + left_oldest p.alone Finds ≤ n → Costs e w b n (again_from p held records newest)
  again_from_costs n p held m records None is known ahead run row same four each old = oldest_costs P e w b n p Finds row same old
  again_from_costs n p held m records (Some kept) is known ahead run row same four each old =
      again_by_costs n p held kept m records (shown_in (Some kept) records) is known ahead run row same four each old

  pub again_costs : (p : PollState) (held : List Numbered) (m : ℕ) (records : List Numbered) → IsBefore p.newest p.next → IsRun P p.next held → IsRun P m records → Row p → IsSame w b p → 6 ≤ e →
      Costs e w b (by_alone p.alone 6 12) (again p held records)
  again_costs p held m records known ahead run row same six =
      again_from_costs (by_alone p.alone 6 12) p held m records p.newest refl known ahead run row same (four p.alone) (each p.alone) (old p.alone)
    where
      four : (a : Bool) → 4 ≤ by_alone a 6 12
      four true = omega arith
      four false = omega arith

      each : (a : Bool) → 12 ≤ by_alone a 6 12 + e
      each true = omega (arith, six)
      each false = omega (arith, six)

      old : (a : Bool) → 1 + left_oldest a Finds ≤ by_alone a 6 12
      old true = omega arith
      old false = omega arith

  -- ---- the known ones, one by one

  each_means_costs : (n : ℕ) (p : PollState) (first : Numbered) (means : Means) → ((kept : KeptAs) → p.newest ≡ Some kept → first.number ≡ kept.number) → Row p → IsSame w b p → 9 ≤ n →
      Costs e w b n (each_means p first means)
  each_means_costs n p first means refers row same nine = at means
    where
      stands : Costs e w b n (asks (standing_alone p (kept_of first)))
      stands = λ none. (omega (arith, nine), (tt, tt), (λ asked kept is. ap (λ (o : Option KeptAs). kept_number o 0) is), same)

      other : Costs e w b n (another p)
      other = another_costs P e w b n p same (omega (arith, nine))

      at : (means : Means) → Costs e w b n (each_means p first means)
      at Same = stands
      at (Shifted by) = hour_costs n by (hour p by) (asks (standing_alone p (kept_of first))) stands
      at Unshown = other
      at Partly = other
      at Another = other

  -- one at least was shown, and the first of them was asked for by the number of the newest
  each_next_costs : (n : ℕ) (p : PollState) (a : Numbered) (others : List Numbered) → ((kept : KeptAs) → p.newest ≡ Some kept → a.number ≡ kept.number) → Row p → IsSame w b p →
      n ≡ 9 + (3 - length (a ∷ others)) → Costs e w b n (each_next p (a ∷ others))
  each_next_costs n p a others refers row same left =
      pick P e w b n (length (a ∷ others) == 1) _ _
      (λ one. let is : length (a ∷ others) ≡ 1 = eqb-true _ _ one in
      each_asks n p (a ∷ others) (number_in p.earlier) row same (omega (arith, left)) (omega (arith, left, is)) (λ k at kept so. refers kept so))
      (λ more. pick P e w b n (length (a ∷ others) == 2) _ _
      (λ two. let is : length (a ∷ others) ≡ 2 = eqb-true _ _ two in
      each_asks n p (a ∷ others) (number_in p.earliest) row same (omega (arith, left)) (omega (arith, left, is)) (λ k at kept so. refers kept so))
      (λ three. each_means_costs n p a (means_in p (a ∷ others)) refers row same (omega (arith, left))))

  each_shown : (p : PollState) (held : List Numbered) (shown : Numbered) → Refers (record p { held = held }) stage.Each → shown.number ≡ p.reference → length held < 3 → Row p → IsSame w b p →
      Costs e w b (9 + (2 - length held)) (each_next p (held ++ shown ∷ []))
  each_shown p [] shown refers asked less row same = each_next_costs 11 p shown [] (λ kept is. asked ∙ refers kept is) row same (omega arith)
  each_shown p (a ∷ others) shown refers asked less row same =
      let more : length (a ∷ (others ++ shown ∷ [])) ≡ length (a ∷ others) + 1 = length-append (a ∷ others) (shown ∷ []) in
      each_next_costs (9 + (2 - length (a ∷ others))) p a (others ++ shown ∷ []) refers row same (omega (arith, more, less))

  each_by_costs : (p : PollState) (held : List Numbered) (first : Option Numbered) → Refers (record p { held = held }) stage.Each → Row p → IsSame w b p →
      Costs e w b (9 + (2 - length held)) (each_by p held first)
  each_by_costs p held None refers row same = another_costs P e w b _ p same (omega arith)
  each_by_costs p held (Some shown) refers row same =
      pick P e w b (9 + (2 - length held)) ((shown.number == p.reference) && nat_lt (length held) 3) _ _
      (λ both. let parts = and_parts _ _ both in each_shown p held shown refers (eqb-true shown.number p.reference parts.0) (ltb-true (length held) 3 parts.1) row same)
      (λ other. another_costs P e w b _ p same (omega arith))

  pub each_costs : (p : PollState) (held records : List Numbered) → Refers (record p { held = held }) stage.Each → Row p → IsSame w b p → Costs e w b (9 + (2 - length held)) (each p held records)
  each_costs p held records refers row same = each_by_costs p held (first_in records) refers row same
