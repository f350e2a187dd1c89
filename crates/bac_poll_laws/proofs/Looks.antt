-- How many questions may follow the turns of the rule: the oldest records, the count, first runs, and backwards.
use Rattle.std.proofs.Common.{arith, is_some, ◌≡◌, ℕ, ◌+◌, ◌*◌, ◌≤◌, ◌==◌, ◌&&◌, ◌||◌, not, nat_lt, Bool, true, false}
use Rattle.std.proofs.Common.{if◌then◌else◌, Option, None, Some, List, [], length, refl, inr}
use Rattle.std.proofs.lemmas.Bool.{and_parts}
use Rattle.bac_link.specs.Ordinals.{is_ahead, number_after}
use Rattle.bac_walk.specs.Place.{WalkPlace}
use Rattle.bac_walk.specs.declared.batch.Numbered.{Numbered}
use Rattle.bac_poll.specs.Back.{back_alone, back_by, back_done, back_lost, back_more, back_shown, is_front, shown_last}
use Rattle.bac_poll.specs.Joins.{found}
use Rattle.bac_poll.specs.Known.{means_in, record_at, records_behind}
use Rattle.bac_poll.specs.Oldest.{by_count, by_number, drops, is_first, logged, sees, sees_before, sees_by, sees_newest}
use Rattle.bac_poll.specs.Oldest.{sees_none, sees_same}
use Rattle.bac_poll.specs.Poll.{came, oldest, oldest_none, renews_by, up_to, up_to_none}
use Rattle.bac_poll.specs.Oldest.{is_cut}
use Rattle.bac_poll.specs.Starts.{starts, starts_at, starts_by, starts_from, starts_none, starts_refused, starts_told}
use Rattle.bac_poll.specs.State.{KeptAs, PollState, Reply}
use Rattle.bac_poll.specs.Turns.{Turned, asks, confirmed, end_of, first_in, first_number, last_in, standing_at}
use Rattle.bac_known.specs.declared.known.Means.{Means}
use Rattle.bac_known.specs.declared.known.Means.TheVariants.{Shifted, Partly, Same, Unshown, Another}
use Rattle.bac_known.specs.declared.known.Shown.{Shown}
use Rattle.bac_known.specs.declared.known.Shown.TheVariants as shown
use Rattle.bac_poll_steps.specs.declared.stage.Aim.{Aim}
use Rattle.bac_poll_steps.specs.declared.stage.Aim.TheVariants.{Finds, Renews, Starts}
use Rattle.bac_poll_steps.specs.declared.turn.PollEnd.TheVariants.{CaughtUp, NoneByNumber, ShowsNone}
use Rattle.bac_poll_laws.specs.Bounds.{again_one}
use Rattle.bac_poll_laws.specs.Laws.{IsAimed, IsRun, Whichever}
use Rattle.bac_poll_laws.proofs.Lefts.{Costs, IsSame, Row, another_by_costs, another_of_costs, back_costs, behind_costs}
use Rattle.bac_poll_laws.proofs.Lefts.{ends_costs, fresh_costs, left_back, left_counts, left_oldest, left_up, pick}
use Rattle.bac_poll_laws.proofs.Lefts.{renews_costs, renews_of_costs, word_costs}
use Rattle.bac_poll_laws.proofs.Takes.{each_begins, found_refers, found_row, hour_costs, newest_costs, news_costs}
use Rattle.bac_poll_laws.proofs.Takes.{some_known}
use Rattle.bac_poll_laws.proofs.Wholes.{found_number}

not_true : (c : Bool) → not c ≡ true → c ≡ false
not_true false is = refl
not_true true is = absurd (cc)

module _ (P : Numbered → Type 0) (e : ℕ) (w : WalkPlace) (b : ℕ) where
  -- ---- 2. the oldest records

  drops_costs : (n : ℕ) (p : PollState) (back : Bool) (records : List Numbered) → Row p → IsSame w b p → IsRun P (first_number records) records → 3 ≤ n →
      (back ≡ true → 1 + left_back p.alone Finds ≤ n) → Costs e w b n (drops p back records)
  drops_costs n p back records row same run three enough =
      pick P e w b n (back && not (is_first p (first_number records))) _ _ (λ look. back_costs P e w b n p Finds records row same (enough (and_parts _ _ look).0))
      (λ front. word_costs P e w b n p records row run same three)

  sees_before_costs : (n : ℕ) (p : PollState) (cut : Bool) (records : List Numbered) → Row p → IsSame w b p → IsRun P (first_number records) records → 2 ≤ n → Costs e w b n (sees_before p cut records)
  sees_before_costs n p cut records row same run enough =
      pick P e w b n cut _ _ (λ short. λ none. (omega (arith, enough), row, tt, same)) (λ whole. another_by_costs P e w b n p records run same (omega (arith, enough)))

  sees_none_costs : (n : ℕ) (p : PollState) (back cut : Bool) (records : List Numbered) → Row p → IsSame w b p → IsRun P (first_number records) records → 3 ≤ n →
      (back ≡ true → 1 + left_back p.alone Finds ≤ n) → Costs e w b n (sees_none p back cut records)
  sees_none_costs n p back cut records row same run three enough =
      pick P e w b n (is_ahead p.next (first_number records)) _ _ (λ behind. drops_costs n p back records row same run three enough)
      (λ before. sees_before_costs n p cut records row same run (omega (arith, three)))

  found_costs : (n : ℕ) (p : PollState) (kept : KeptAs) (held : Numbered) → p.newest ≡ Some kept → held.number ≡ kept.number → Row p → IsSame w b p → 9 ≤ n → Costs e w b n (asks (found p held))
  found_costs n p kept held is number row same enough = λ going. (omega (arith, enough), found_row P e w b p kept held is number row, found_refers P e w b p held, same)

  sees_newest_costs : (n : ℕ) (p : PollState) (kept : KeptAs) (cut : Bool) (records : List Numbered) (at : Option Numbered) → record_at kept.number records ≡ at → p.newest ≡ Some kept → Row p →
      IsSame w b p → IsRun P (first_number records) records → 3 ≤ n → (p.alone ≡ false → 9 ≤ n) → Costs e w b n (sees_newest p kept cut records at)
  sees_newest_costs n p kept cut records None at is row same run three nine =
      pick P e w b n p.alone _ _ (λ alone. sees_before_costs n p cut records row same run (omega (arith, three))) (λ other. newest_costs P e w b n p kept is row same (nine other))
  sees_newest_costs n p kept cut records (Some held) at is row same run three nine =
      let number : held.number ≡ kept.number = found_number P Whichever kept.number records held at in
      pick P e w b n ((length (records_behind kept.number records) == 0) && not p.alone) _ _
      (λ none. found_costs n p kept held is number row same (nine (not_true p.alone (and_parts _ _ none).1)))
      (λ some. pick P e w b n ((length (records_behind kept.number records) == 0) && cut) _ _
      (λ short. ends_costs P e w b n (found p held) NoneByNumber)
      (λ more. news_costs P e w b n p kept held (first_number records) records is number row same run (omega (arith, three))))

  sees_same_costs : (n : ℕ) (p : PollState) (cut : Bool) (records : List Numbered) (newest : Option KeptAs) → p.newest ≡ newest → Row p → IsSame w b p → IsRun P (first_number records) records → 3 ≤ n →
      (p.alone ≡ false → 9 ≤ n) → Costs e w b n (sees_same p cut records newest)
  sees_same_costs n p cut records None is row same run three nine = another_by_costs P e w b n p records run same (omega (arith, three))
  sees_same_costs n p cut records (Some kept) is row same run three nine = sees_newest_costs n p kept cut records (record_at kept.number records) refl is row same run three nine

  sees_by_costs : (n : ℕ) (p : PollState) (back cut : Bool) (records : List Numbered) (means : Means) → means_in p records ≡ means → Row p → IsSame w b p → IsRun P (first_number records) records → 3 ≤ n → 12 ≤ n + e →
      (p.alone ≡ false → 9 ≤ n) → (back ≡ true → 1 + left_back p.alone Finds ≤ n) → Costs e w b n (sees_by p back cut records means)
  sees_by_costs n p back cut records Unshown is row same run three each nine enough = sees_none_costs n p back cut records row same run three enough
  sees_by_costs n p back cut records Same is row same run three each nine enough = sees_same_costs n p cut records p.newest refl row same run three nine
  sees_by_costs n p back cut records (Shifted by) is row same run three each nine enough =
      hour_costs P e w b n by _ _ (sees_same_costs n p cut records p.newest refl row same run three nine)
  sees_by_costs n p back cut records Partly is row same run three each nine enough = each_begins P e w b n p row same (λ none. absurd (some_known P p records row is none)) each
  sees_by_costs n p back cut records Another is row same run three each nine enough = another_by_costs P e w b n p records run same (omega (arith, three))

  pub sees_costs : (n : ℕ) (p : PollState) (back cut : Bool) (records : List Numbered) → Row p → IsSame w b p → IsRun P (first_number records) records → 3 ≤ n → 12 ≤ n + e →
      (p.alone ≡ false → 9 ≤ n) → (back ≡ true → 1 + left_back p.alone Finds ≤ n) → Costs e w b n (sees p back cut records)
  sees_costs n p back cut records row same run three each nine enough = sees_by_costs n p back cut records (means_in p records) refl row same run three each nine enough

  pub by_number_costs : (p : PollState) (held records : List Numbered) → IsRun P (first_number held) held → IsSame w b p → Costs e w b 1 (by_number p held records)
  by_number_costs p held records run same =
      pick P e w b 1 (length records == 0) _ _ (λ none. ends_costs P e w b 1 p NoneByNumber) (λ some. another_by_costs P e w b 1 p held run same (omega arith))

  -- ---- 3. the count

  pub counted_costs : (p : PollState) (count : Option ℕ) → Row p → IsSame w b p → Costs e w b (left_counts p.alone Finds) (by_count p count)
  counted_costs p None row same = ends_costs P e w b _ p ShowsNone
  counted_costs p (Some total) row same =
      let n = left_counts p.alone Finds in
      pick P e w b n (total == logged p) _ _ (λ is. ends_costs P e w b n (confirmed p) CaughtUp)
      (λ other. pick P e w b n (nat_lt 0 total && is_ahead p.next total) _ _ (λ behind. λ none. (omega (arith, up p.alone), row, tt, same))
      (λ before. another_of_costs P e w b n p total same (two p.alone)))
    where
      up : (a : Bool) → 1 + left_up a Finds ≤ left_counts a Finds
      up true = omega arith
      up false = omega arith

      two : (a : Bool) → 2 ≤ left_counts a Finds
      two true = omega arith
      two false = omega arith

  pub renewed_costs : (p : PollState) (count : Option ℕ) → Row p → IsSame w b p → Costs e w b 2 (renews_by p count)
  renewed_costs p None row same = ends_costs P e w b 2 p (end_of p)
  renewed_costs p (Some total) row same = renews_of_costs P e w b 2 p total row same (omega arith)

  -- ---- 5. a first run

  starts_at_costs : (n : ℕ) (p : PollState) (first : ℕ) (held : List Numbered) (counted : Option ℕ) → IsSame w b p → IsRun P (first_number held) held → 1 ≤ n → Costs e w b n (starts_at p first held counted)
  starts_at_costs n p first held None same run enough = fresh_costs P e w b n (confirmed p) first held run same enough
  starts_at_costs n p first held (Some counted) same run enough =
      pick P e w b n (is_ahead counted first) _ _ (λ behind. fresh_costs P e w b n (confirmed p) first held run same enough) (λ before. fresh_costs P e w b n (confirmed p) first held run same enough)

  pub starts_costs : (n : ℕ) (p : PollState) (held : List Numbered) → IsSame w b p → IsRun P (first_number held) held → 1 ≤ n → Costs e w b n (starts p held)
  starts_costs n p held same run enough = starts_at_costs n p _ held p.counted same run enough

  pub starts_by_costs : (n : ℕ) (p : PollState) (records : List Numbered) → IsSame w b p → IsRun P (first_number records) records → 1 ≤ n → Costs e w b n (starts_by p records)
  starts_by_costs n p records same run enough =
      pick P e w b n (is_first (standing_at p 1) (first_number records)) _ _ (λ first. starts_costs n (standing_at p 1) records same run enough)
      (λ later. back_costs P e w b n (standing_at p 1) Starts records (tt, tt) same (omega (arith, enough)))

  pub starts_none_costs : (n : ℕ) (p : PollState) → IsSame w b p → 1 ≤ n → Costs e w b n (starts_none p)
  starts_none_costs n p same enough =
      pick P e w b n (p.refused && is_some p.counted) _ _ (λ stays. ends_costs P e w b n p ShowsNone) (λ told. starts_costs n p [] same tt enough)

  told_costs : (p : PollState) (begins : Option ℕ) (next : ℕ) → Row p → IsSame w b p → Costs e w b 3 (starts_told p begins next)
  told_costs p None next row same = λ none. (omega arith, row, tt, same)
  told_costs p (Some begins) next row same = λ none. (omega arith, row, tt, same)

  refused_costs : (p : PollState) (counted : Option ℕ) → Row p → IsSame w b p → Costs e w b 3 (starts_refused p counted)
  refused_costs p None row same = λ none. (omega arith, row, tt, same)
  refused_costs p (Some counted) row same = λ none. (omega arith, row, tt, same)

  pub starts_from_costs : (p : PollState) (count : Option ℕ) → Row p → IsSame w b p → Costs e w b 3 (starts_from p count)
  starts_from_costs p None row same = refused_costs (record p { total = 0; refused = true }) p.counted row same
  starts_from_costs p (Some total) row same = told_costs (record p { total = total; refused = false }) p.begins (number_after total 1) row same

  -- ---- by what they were asked for

  came_costs : (n : ℕ) (p : PollState) (aim : Aim) (cut : Bool) (records : List Numbered) → Row p → IsSame w b p → IsAimed p aim → IsRun P (first_number records) records → 1 ≤ n →
      (aim ≡ Finds → (3 ≤ n) × (12 ≤ n + e) × (p.alone ≡ false → 9 ≤ n) × (1 + left_back p.alone Finds ≤ n)) → Costs e w b n (came p aim cut records)
  came_costs n p Finds cut records row same aimed run one finds =
      let all = finds refl in sees_costs n p true cut records row same run all.0 all.1 all.2 (λ back. all.3)
  came_costs n p Renews cut records row same aimed run one finds = renews_costs P e w b n p records aimed.1 row run same one
  came_costs n p Starts cut records row same aimed run one finds = starts_by_costs n p records same run one

  -- at least one question is left
  one_oldest : (a : Bool) (aim : Aim) → 1 ≤ left_oldest a aim
  one_oldest true Finds = omega arith
  one_oldest false Finds = omega arith
  one_oldest a Renews = omega arith
  one_oldest a Starts = omega arith

  one_up : (a : Bool) (aim : Aim) → 1 ≤ left_up a aim
  one_up true Finds = omega arith
  one_up false Finds = omega arith
  one_up a Renews = omega arith
  one_up a Starts = omega arith

  -- those of the oldest that find known records
  Finding : Bool → ℕ → Type 0
  Finding a n = (3 ≤ n) × (12 ≤ n + e) × (a ≡ false → 9 ≤ n) × (1 + left_back a Finds ≤ n)

  oldest_finding : (a : Bool) (aim : Aim) → 7 ≤ e → aim ≡ Finds → Finding a (left_oldest a aim)
  unfolding Finding
  oldest_finding true Finds seven is = (omega arith, omega (arith, seven), λ other. absurd (cc), omega arith)
  oldest_finding false Finds seven is = (omega arith, omega (arith, seven), λ other. omega arith, omega arith)
  oldest_finding a Renews seven is = absurd (cc)
  oldest_finding a Starts seven is = absurd (cc)

  up_finding : (a : Bool) (aim : Aim) → 9 ≤ e → aim ≡ Finds → Finding a (left_up a aim)
  unfolding Finding
  up_finding true Finds nine is = (omega arith, omega (arith, nine), λ other. absurd (cc), omega arith)
  up_finding false Finds nine is = (omega arith, omega (arith, nine), λ other. omega arith, omega arith)
  up_finding a Renews nine is = absurd (cc)
  up_finding a Starts nine is = absurd (cc)

  oldest_none_costs : (p : PollState) (aim : Aim) → Row p → IsSame w b p → Costs e w b (left_oldest p.alone aim) (oldest_none p aim)
  oldest_none_costs p Finds row same = λ none. (omega (arith, counts p.alone), row, tt, same)
    where
      counts : (a : Bool) → 1 + left_counts a Finds ≤ left_oldest a Finds
      counts true = omega arith
      counts false = omega arith
  oldest_none_costs p Renews row same = λ none. (omega arith, row, tt, same)
  oldest_none_costs p Starts row same =
      pick P e w b 2 (p.total == 0) _ _ (λ empty. starts_none_costs 2 p same (omega arith)) (λ some. λ none. (omega arith, row, tt, same))

  pub oldest_takes : (p : PollState) (aim : Aim) (reply : Reply) → Row p → IsSame w b p → IsAimed p aim → IsRun P (first_number reply.records) reply.records → 7 ≤ e →
      Costs e w b (left_oldest p.alone aim) (oldest p aim reply)
  unfolding Finding
  oldest_takes p aim reply row same aimed run seven =
      pick P e w b (left_oldest p.alone aim) (length reply.records == 0) _ _ (λ none. oldest_none_costs p aim row same)
      (λ some. came_costs (left_oldest p.alone aim) p aim (is_cut p reply) reply.records row same aimed run (one_oldest p.alone aim) (oldest_finding p.alone aim seven))

  up_to_none_costs : (p : PollState) (aim : Aim) → Row p → IsSame w b p → Costs e w b (left_up p.alone aim) (up_to_none p aim)
  up_to_none_costs p Finds row same = word_costs P e w b (left_up p.alone Finds) p [] row tt same (three p.alone)
    where
      three : (a : Bool) → 3 ≤ left_up a Finds
      three true = omega arith
      three false = omega arith
  up_to_none_costs p Renews row same = λ none. absurd (cc)
  up_to_none_costs p Starts row same = starts_costs 1 p [] same tt (omega arith)

  pub up_to_takes : (p : PollState) (aim : Aim) (records : List Numbered) → Row p → IsSame w b p → IsAimed p aim → IsRun P (first_number records) records → 9 ≤ e →
      Costs e w b (left_up p.alone aim) (up_to p aim records)
  unfolding Finding
  up_to_takes p aim records row same aimed run nine =
      pick P e w b (left_up p.alone aim) (length records == 0) _ _ (λ none. up_to_none_costs p aim row same)
      (λ some. came_costs (left_up p.alone aim) p aim false records row same aimed run (one_up p.alone aim) (up_finding p.alone aim nine))

  -- ---- backwards

  -- what a question backwards costs, and three more where it begins again
  CostsBack : ℕ → Turned → Type 0
  CostsBack n t = Costs e w b (n + 3 * again_one t.end t.anew t.poll.stage) t

  no_less : (n : ℕ) (t : Turned) → Costs e w b n t → CostsBack n t
  unfolding CostsBack
  no_less n t costs = λ none. let all = costs none in (omega (arith, all.0), all.1, all.2, all.3)

  done_costs : (p : PollState) (aim : Aim) (records : List Numbered) → Row p → IsSame w b p → IsAimed p aim → IsRun P (first_number records) records → 9 ≤ e →
      Costs e w b (1 + left_back p.alone aim) (back_done p aim records)
  done_costs p Finds records row same aimed run nine =
      sees_costs (1 + left_back p.alone Finds) p false false records row same run (three p.alone) (omega (arith, three p.alone, nine)) (far p.alone) (λ never. absurd (cc))
    where
      three : (a : Bool) → 3 ≤ 1 + left_back a Finds
      three true = omega arith
      three false = omega arith

      far : (a : Bool) → a ≡ false → 9 ≤ 1 + left_back a Finds
      far true other = absurd (cc)
      far false other = omega arith
  done_costs p Renews records row same aimed run nine = behind_costs P e w b 1 p records aimed.1 row run same (omega arith)
  done_costs p Starts records row same aimed run nine = starts_costs 1 p records same run (omega arith)

  lost_costs : (p : PollState) (aim : Aim) → Row p → IsSame w b p → CostsBack (1 + left_back p.alone aim) (back_lost p aim)
  unfolding CostsBack
  lost_costs p Finds row same = λ none. (omega (arith, old p.alone), row, tt, same)
    where
      old : (a : Bool) → 1 + left_oldest a Finds ≤ 1 + left_back a Finds + 3
      old true = omega arith
      old false = omega arith
  lost_costs p Renews row same = λ none. (omega arith, row, tt, same)
  lost_costs p Starts row same = λ none. (omega arith, row, tt, same)

  more_costs : (p : PollState) (aim : Aim) (records : List Numbered) → Row p → IsSame w b p → IsAimed p aim → IsRun P (first_number records) records → 9 ≤ e →
      Costs e w b (1 + left_back p.alone aim) (back_more p aim records)
  more_costs p aim records row same aimed run nine =
      pick P e w b (1 + left_back p.alone aim) (is_front p records (means_in p records)) _ _ (λ front. done_costs p aim records row same aimed run nine)
      (λ back. back_costs P e w b (1 + left_back p.alone aim) p aim records row same (omega arith))

  alone_costs : (p : PollState) (aim : Aim) (held : List Numbered) → Row p → IsSame w b p → IsAimed p aim → IsRun P (first_number held) held → 9 ≤ e →
      Costs e w b (1 + left_back p.alone aim) (back_alone p aim held)
  alone_costs p aim held row same aimed run nine =
      pick P e w b (1 + left_back p.alone aim) (p.more || (p.walk.count == 1)) _ _ (λ more. λ none. (omega arith, row, inr refl, same))
      (λ done. done_costs p aim held row same aimed run nine)

  back_shown_costs : (p : PollState) (aim : Aim) (held records : List Numbered) (seen : Shown) → Row p → IsSame w b p → IsAimed p aim → IsRun P (first_number held) held →
      IsRun P (first_number records) records → 9 ≤ e → CostsBack (1 + left_back p.alone aim) (back_shown p aim held records seen)
  back_shown_costs p aim held records shown.Equal row same aimed kept run nine =
      no_less (1 + left_back p.alone aim) (back_shown p aim held records shown.Equal)
      (pick P e w b (1 + left_back p.alone aim) (length records == 1) _ _ (λ alone. alone_costs p aim held row same aimed kept nine) (λ more. more_costs p aim records row same aimed run nine))
  back_shown_costs p aim held records shown.Unshown row same aimed kept run nine = lost_costs p aim row same
  back_shown_costs p aim held records (shown.Moved by) row same aimed kept run nine = lost_costs p aim row same
  back_shown_costs p aim held records shown.Another row same aimed kept run nine = lost_costs p aim row same

  back_by_costs : (p : PollState) (aim : Aim) (held records : List Numbered) (last : Option Numbered) → Row p → IsSame w b p → IsAimed p aim → IsRun P (first_number held) held →
      IsRun P (first_number records) records → 9 ≤ e → Costs e w b (1 + left_back p.alone aim + 3 * again_one (back_by p aim held records last).end (back_by p aim held records last).anew (back_by p aim held records last).poll.stage) (back_by p aim held records last)
  unfolding CostsBack
  back_by_costs p aim held records None row same aimed kept run nine =
      no_less (1 + left_back p.alone aim) (back_done p aim held) (done_costs p aim held row same aimed kept nine)
  back_by_costs p aim held records (Some last) row same aimed kept run nine = by (last.number == first_number held)
    where
      by : (c : Bool) → CostsBack (1 + left_back p.alone aim) (if c then back_shown p aim held records (shown_last (first_in held) last) else back_more p aim records)
      by true = back_shown_costs p aim held records (shown_last (first_in held) last) row same aimed kept run nine
      by false = no_less (1 + left_back p.alone aim) (back_more p aim records) (more_costs p aim records row same aimed run nine)

  pub back_takes : (p : PollState) (aim : Aim) (held records : List Numbered) → Row p → IsSame w b p → IsAimed p aim → IsRun P (first_number held) held → IsRun P (first_number records) records → 9 ≤ e →
      Costs e w b (1 + left_back p.alone aim + 3 * again_one (back_by p aim held records (last_in records)).end (back_by p aim held records (last_in records)).anew (back_by p aim held records (last_in records)).poll.stage) (back_by p aim held records (last_in records))
  back_takes p aim held records row same aimed kept run nine = back_by_costs p aim held records (last_in records) row same aimed kept run nine
