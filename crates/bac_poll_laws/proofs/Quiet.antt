-- A turn of a poll that knows fewer than three records: none of the known ones is asked for alone behind it.
use Rattle.std.proofs.Common.{is_some, ◌≡◌, ℕ, ◌==◌, ◌&&◌, ◌||◌, not, nat_lt, Bool, true, false, if◌then◌else◌, Option}
use Rattle.std.proofs.Common.{None, Some, List, [], ◌∷◌, length, refl, sym, subst}
use Rattle.bac_link.specs.Ordinals.{is_ahead}
use Rattle.bac_walk.specs.declared.batch.Numbered.{Numbered}
use Rattle.bac_poll.specs.Back.{back, back_alone, back_by, back_done, back_lost, back_more, back_shown, is_front}
use Rattle.bac_poll.specs.Back.{went_back}
use Rattle.bac_poll.specs.Epochs.{another, another_by, another_of, renews, renews_of}
use Rattle.bac_poll.specs.Gone.{asks_restart, asks_revision, asks_word, by_gone, by_word, retold}
use Rattle.bac_poll.specs.Joins.{again_by, again_equal, again_from, ahead, asks_again, at_hour, brings_ahead, found}
use Rattle.bac_poll.specs.Joins.{goes_nowhere, joined, joins, joins_by, joins_from, lost, lost_ahead, moved_ahead}
use Rattle.bac_poll.specs.Joins.{prior}
use Rattle.bac_poll.specs.Known.{heeding, is_another, is_equal, is_other_word, is_steady, is_unshown, means_in}
use Rattle.bac_poll.specs.Known.{means_of, number_in, record_at, records_behind, shift_in, shown_in}
use Rattle.bac_poll.specs.Oldest.{by_count, by_number, drops, is_first, logged, sees, sees_before, sees_by, sees_newest}
use Rattle.bac_poll.specs.Oldest.{sees_news, sees_none, sees_same}
use Rattle.bac_poll.specs.Poll.{came, oldest, oldest_none, renews_by, up_to, up_to_none}
use Rattle.bac_poll.specs.Starts.{starts, starts_at, starts_by, starts_from, starts_none, starts_refused, starts_told}
use Rattle.bac_poll.specs.State.{KeptAs, PollState, Reply}
use Rattle.bac_poll.specs.Turns.{Turned, brings, brings_to, confirmed, ends, first_number, last_in, renewed}
use Rattle.bac_poll.specs.Turns.{standing_at}
use Rattle.bac_poll_steps.specs.declared.gone.Gone.{Gone}
use Rattle.bac_poll_steps.specs.declared.gone.Gone.TheVariants.{Dropped, Doubtful, Both}
use Rattle.bac_known.specs.declared.known.Means.{Means}
use Rattle.bac_known.specs.declared.known.Means.TheVariants.{Shifted, Partly, Same, Unshown, Another}
use Rattle.bac_known.specs.declared.known.Shown.{Shown}
use Rattle.bac_known.specs.declared.known.Shown.TheVariants as shown
use Rattle.bac_poll_steps.specs.declared.stage.Aim.{Aim}
use Rattle.bac_poll_steps.specs.declared.stage.Aim.TheVariants.{Finds, Renews, Starts}
use Rattle.bac_poll_steps.specs.declared.turn.Line.{Line}
use Rattle.bac_poll_steps.specs.declared.turn.PollEnd.{PollEnd}
use Rattle.bac_poll_steps.specs.declared.turn.PollEnd.TheVariants.{CaughtUp, Contradicts, NoneByNumber, ShowsNone}
use Rattle.bac_poll_laws.specs.Laws.{Whichever}
use Rattle.bac_poll_laws.specs.Bounds.{WhicheverRecord}
use Rattle.bac_poll_laws.proofs.Lefts.{each_one}
use Rattle.bac_poll_laws.proofs.Wholes.{split}

-- where a turn keeps no record, no three are known then, and none is asked for alone
unfoldable pub Quiet : Turned → Type 0
Quiet t = t.end ≡ None → t.records ≡ [] → (t.poll.earliest ≡ None) × (each_one t.poll.stage ≡ 0)

-- ---- a turn of a poll that doesn't know three

pick : (c : Bool) (x y : Turned) → (c ≡ true → Quiet x) → (c ≡ false → Quiet y) → Quiet (if c then x else y)
pick c x y f g = split WhicheverRecord Whichever Quiet c x y f g

ends_quiet : (p : PollState) (why : PollEnd) → Quiet (ends p why)
unfolding Quiet
ends_quiet p why = λ going none. absurd (cc)

brings_to_quiet : (p : PollState) (rs : List Numbered) (last : Option Numbered) → last_in rs ≡ last → Quiet (brings_to p rs last)
unfolding Quiet
brings_to_quiet p rs None is = λ going none. absurd (cc)
brings_to_quiet p rs (Some l) is = λ going none. let never : last_in [] ≡ Some l = subst (λ (xs : List Numbered). last_in xs ≡ Some l) none is in absurd (cc)

brings_quiet : (p : PollState) (rs : List Numbered) → Quiet (brings p rs)
brings_quiet p rs = brings_to_quiet p rs (last_in rs) refl

another_quiet : (p : PollState) → Quiet (another p)
unfolding Quiet
another_quiet p = pick (p.lives == 2) _ _ (λ third. λ going none. absurd (cc)) (λ more. λ going none. (refl, refl))

renews_quiet : (p : PollState) (rs : List Numbered) → p.earliest ≡ None → Quiet (renews p rs)
unfolding Quiet
renews_quiet p rs few = pick (first_number rs == 1) _ _ (λ first. brings_quiet p rs) (λ later. λ going none. (few, refl))

another_by_quiet : (p : PollState) (rs : List Numbered) → Quiet (another_by p rs)
unfolding Quiet
another_by_quiet p rs = pick (p.lives == 2) _ _ (λ third. λ going none. absurd (cc)) (λ more. renews_quiet (renewed p p.told) rs refl)

renews_of_quiet : (p : PollState) (total : ℕ) → p.earliest ≡ None → Quiet (renews_of p total)
unfolding Quiet
renews_of_quiet p total few = pick (total == 0) _ _ (λ nothing. λ going none. absurd (cc)) (λ some. λ going none. (few, refl))

another_of_quiet : (p : PollState) (total : ℕ) → Quiet (another_of p total)
unfolding Quiet
another_of_quiet p total = pick (p.lives == 2) _ _ (λ third. λ going none. absurd (cc)) (λ more. renews_of_quiet (renewed p p.told) total refl)

gone_quiet : (p : PollState) (first : ℕ) (held : List Numbered) (gone : Gone) → Quiet (by_gone p first held gone)
unfolding Quiet
gone_quiet p first held Dropped = brings_quiet (standing_at (confirmed (retold p)) first) held
gone_quiet p first held Doubtful = brings_quiet (standing_at (confirmed (retold p)) first) held
gone_quiet p first held Both = brings_quiet (standing_at (renewed (retold p) p.told) first) held

pub by_word_quiet : (p : PollState) (held : List Numbered) → Quiet (by_word p held)
by_word_quiet p held = gone_quiet p _ held _

pub restart_quiet : (p : PollState) (held : List Numbered) (restart : List ℕ) → p.earliest ≡ None → Quiet (asks_restart p held restart)
unfolding Quiet
restart_quiet p held [] few = by_word_quiet p held
restart_quiet p held (octet ∷ octets) few = λ going none. (few, refl)

revision_quiet : (p : PollState) (held : List Numbered) (revision : Option ℕ) → p.earliest ≡ None → Quiet (asks_revision p held revision)
unfolding Quiet
revision_quiet p held None few = restart_quiet p held p.word.restart few
revision_quiet p held (Some was) few = λ going none. (few, refl)

word_quiet : (p : PollState) (held : List Numbered) → p.earliest ≡ None → Quiet (asks_word p held)
word_quiet p held few = revision_quiet (record p { again = p.told }) held p.word.revision few

-- ---- none of fewer than three is shown in part

other_means : (c : Bool) (x y : Means) → (x ≡ Partly → ⊥) → (y ≡ Partly → ⊥) → (if c then x else y) ≡ Partly → ⊥
other_means true x y f g = f
other_means false x y f g = g

none_part : Unshown ≡ Partly → ⊥
none_part is = absurd (cc)

same_part : Same ≡ Partly → ⊥
same_part is = absurd (cc)

shift_part : (by : ℕ) → Shifted by ≡ Partly → ⊥
shift_part by is = absurd (cc)

other_part : Another ≡ Partly → ⊥
other_part is = absurd (cc)

never_partly : (newest earlier earliest : Shown) → means_of false newest earlier earliest ≡ Partly → ⊥
never_partly newest earlier earliest =
    other_means (is_unshown newest && (is_unshown earlier && is_unshown earliest)) _ _ none_part
    (other_means (is_equal newest && (is_equal earlier && is_equal earliest)) _ _ same_part
    (other_means (is_another newest || (is_another earlier || is_another earliest)) _ _ other_part
    (other_means (is_unshown newest || (is_unshown earlier || is_unshown earliest)) _ _ other_part
    (other_means ((shift_in newest == shift_in earlier) || (shift_in earlier == shift_in earliest)) _ _ (shift_part (shift_in newest)) other_part))))

heeded : (p : PollState) (means : Means) → (means ≡ Partly → ⊥) → heeding p means ≡ Partly → ⊥
heeded p Unshown never = never
heeded p Same never = never
heeded p (Shifted by) never = other_means (is_steady p && is_other_word p.word p.told) _ _ other_part never
heeded p Partly never = never
heeded p Another never = never

few_partly : (p : PollState) (rs : List Numbered) → p.earliest ≡ None → means_in p rs ≡ Partly → ⊥
few_partly p rs few =
    heeded p _ (subst (λ (o : Option KeptAs). means_of (is_some o) (shown_in p.newest rs) (shown_in p.earlier rs) (shown_in p.earliest rs) ≡ Partly → ⊥) (sym few)
    (never_partly (shown_in p.newest rs) (shown_in p.earlier rs) (shown_in p.earliest rs)))

-- ---- 1. each question shows the record before it

hour_quiet : (by : ℕ) (told : Line) (t : Turned) → Quiet t → Quiet (at_hour by told t)
unfolding Quiet
hour_quiet by told t quiet = pick (by == 100) _ _ (λ same. quiet) (λ moved. quiet)

nowhere_quiet : (p : PollState) (done alone : Bool) → p.earliest ≡ None → each_one p.stage ≡ 0 → Quiet (goes_nowhere p done alone)
unfolding Quiet
nowhere_quiet p done alone few at =
    pick done _ _ (λ last. λ going none. absurd (cc)) (λ other. pick alone _ _ (λ one. λ going none. (few, refl)) (λ some. λ going none. (few, at)))

joined_quiet : (p : PollState) (kept : KeptAs) (reply : Reply) (at : Option Numbered) → p.earliest ≡ None → Quiet (joined p kept reply at)
unfolding Quiet
joined_quiet p kept reply None few = λ going none. (few, refl)
joined_quiet p kept reply (Some held) few =
    pick (length (records_behind kept.number reply.records) == 0) _ _ (λ none. nowhere_quiet (found p held) _ _ few refl) (λ some. brings_quiet (found p held) (records_behind kept.number reply.records))

joins_from_quiet : (p : PollState) (reply : Reply) (newest : Option KeptAs) → p.earliest ≡ None → Quiet (joins_from p reply newest)
unfolding Quiet
joins_from_quiet p reply None few = λ going none. (few, refl)
joins_from_quiet p reply (Some kept) few = joined_quiet p kept reply (record_at kept.number reply.records) few

joins_by_quiet : (p : PollState) (reply : Reply) (means : Means) → p.earliest ≡ None → (means ≡ Partly → ⊥) → Quiet (joins_by p reply means)
unfolding Quiet
joins_by_quiet p reply Unshown few never = λ going none. (few, refl)
joins_by_quiet p reply Same few never = joins_from_quiet p reply p.newest few
joins_by_quiet p reply (Shifted by) few never = hour_quiet by _ _ (joins_from_quiet p reply p.newest few)
joins_by_quiet p reply Partly few never = absurd (never refl)
joins_by_quiet p reply Another few never = another_quiet p

pub joins_quiet : (p : PollState) (reply : Reply) → p.earliest ≡ None → Quiet (joins p reply)
joins_quiet p reply few = joins_by_quiet p reply (means_in p reply.records) few (few_partly p reply.records few)

pub prior_quiet : (p : PollState) (records : List Numbered) → p.earliest ≡ None → Quiet (prior p records)
unfolding Quiet
prior_quiet p records few = pick (first_number records == p.reference) _ _ (λ there. another_quiet p) (λ gone. λ going none. (few, refl))

asks_again_quiet : (p : PollState) (held : List Numbered) (number : Option ℕ) → p.earliest ≡ None → Quiet (asks_again p held number)
unfolding Quiet
asks_again_quiet p held None few = λ going none. (few, refl)
asks_again_quiet p held (Some number) few = λ going none. (few, refl)

pub ahead_quiet : (p : PollState) (records : List Numbered) → p.earliest ≡ None → Quiet (ahead p records)
unfolding Quiet
ahead_quiet p records few =
    pick (length records == 0) _ _ (λ empty. pick p.more _ _ (λ more. asks_again_quiet p [] (number_in p.newest) few) (λ done. ends_quiet p CaughtUp))
    (λ some. pick (first_number records == p.next) _ _ (λ next. asks_again_quiet p records (number_in p.newest) few) (λ behind. λ going none. (few, refl)))

lost_quiet : (p : PollState) (seen : Shown) → p.earliest ≡ None → Quiet (lost p seen)
unfolding Quiet
lost_quiet p shown.Unshown few = λ going none. (few, refl)
lost_quiet p shown.Equal few = λ going none. (few, refl)
lost_quiet p (shown.Moved by) few = another_quiet p
lost_quiet p shown.Another few = another_quiet p

lost_ahead_quiet : (p : PollState) (seen : Shown) (last : Option Numbered) → p.earliest ≡ None → Quiet (lost_ahead p seen last)
unfolding Quiet
lost_ahead_quiet p seen None few = lost_quiet p seen few
lost_ahead_quiet p seen (Some last) few = lost_quiet (standing_at p _) seen refl

never_some : {A : Type 0} (o : Option KeptAs) → o ≡ None → is_some o ≡ true → A
never_some None few three = absurd (cc)
never_some (Some kept) few three = absurd (cc)

moved_quiet : (p : PollState) (held : List Numbered) (seen : Shown) → p.earliest ≡ None → Quiet (moved_ahead p held seen)
unfolding Quiet
moved_quiet p held seen few =
    pick (is_some p.earliest) _ _
    (λ three. never_some p.earliest few three)
    (λ other. lost_ahead_quiet p seen (last_in held) few)

brings_ahead_quiet : (p : PollState) (held : List Numbered) (last : Option Numbered) → last_in held ≡ last → Quiet (brings_ahead p held last)
unfolding Quiet
brings_ahead_quiet p held None is = λ going none. absurd (cc)
brings_ahead_quiet p held (Some l) is = λ going none. let never : last_in [] ≡ Some l = subst (λ (xs : List Numbered). last_in xs ≡ Some l) none is in absurd (cc)

equal_quiet : (p : PollState) (held : List Numbered) (kept : KeptAs) (records : List Numbered) → Quiet (again_equal p held kept records)
unfolding Quiet
equal_quiet p held kept records =
    pick (length held == 0) _ _ (λ empty. brings_quiet p (records_behind kept.number records))
    (λ some. pick (length records == 1) _ _ (λ one. brings_ahead_quiet p held (last_in held) refl) (λ more. brings_quiet p held))

again_by_quiet : (p : PollState) (held : List Numbered) (kept : KeptAs) (records : List Numbered) (seen : Shown) → p.earliest ≡ None → Quiet (again_by p held kept records seen)
again_by_quiet p held kept records shown.Equal few = equal_quiet p held kept records
again_by_quiet p held kept records shown.Unshown few = lost_ahead_quiet p shown.Unshown (last_in held) few
again_by_quiet p held kept records (shown.Moved by) few = moved_quiet p held (shown.Moved by) few
again_by_quiet p held kept records shown.Another few = lost_ahead_quiet p shown.Another (last_in held) few

pub again_from_quiet : (p : PollState) (held records : List Numbered) (newest : Option KeptAs) → p.earliest ≡ None → Quiet (again_from p held records newest)
unfolding Quiet
again_from_quiet p held records None few = λ going none. (few, refl)
again_from_quiet p held records (Some kept) few = again_by_quiet p held kept records _ few

-- ---- 2 and 3. the oldest, and the count

drops_quiet : (p : PollState) (back : Bool) (records : List Numbered) → p.earliest ≡ None → Quiet (drops p back records)
unfolding Quiet
drops_quiet p back records few = pick (back && not (is_first p (first_number records))) _ _ (λ front. λ going none. (few, refl)) (λ done. word_quiet p records few)

sees_before_quiet : (p : PollState) (cut : Bool) (records : List Numbered) → p.earliest ≡ None → Quiet (sees_before p cut records)
unfolding Quiet
sees_before_quiet p cut records few = pick cut _ _ (λ short. λ going none. (few, refl)) (λ whole. another_by_quiet p records)

pub by_number_quiet : (p : PollState) (held records : List Numbered) → Quiet (by_number p held records)
unfolding Quiet
by_number_quiet p held records = pick (length records == 0) _ _ (λ empty. ends_quiet p NoneByNumber) (λ some. another_by_quiet p held)

sees_none_quiet : (p : PollState) (back cut : Bool) (records : List Numbered) → p.earliest ≡ None → Quiet (sees_none p back cut records)
sees_none_quiet p back cut records few = pick (is_ahead p.next (first_number records)) _ _ (λ behind. drops_quiet p back records few) (λ before. sees_before_quiet p cut records few)

sees_news_quiet : (p : PollState) (asked cut : Bool) (news : List Numbered) → p.earliest ≡ None → each_one p.stage ≡ 0 → Quiet (sees_news p asked cut news)
unfolding Quiet
sees_news_quiet p asked cut news few at =
    pick ((length news == 0) && not asked) _ _ (λ none. λ going none. (few, at)) (λ some. pick ((length news == 0) && cut) _ _ (λ short. ends_quiet p NoneByNumber) (λ more. brings_quiet p news))

sees_newest_quiet : (p : PollState) (kept : KeptAs) (cut : Bool) (records : List Numbered) (at : Option Numbered) → p.earliest ≡ None → Quiet (sees_newest p kept cut records at)
unfolding Quiet
sees_newest_quiet p kept cut records None few = pick p.alone _ _ (λ alone. sees_before_quiet p cut records few) (λ other. λ going none. (few, refl))
sees_newest_quiet p kept cut records (Some held) few = sees_news_quiet (found p held) p.alone cut (records_behind kept.number records) few refl

sees_same_quiet : (p : PollState) (cut : Bool) (records : List Numbered) (newest : Option KeptAs) → p.earliest ≡ None → Quiet (sees_same p cut records newest)
sees_same_quiet p cut records None few = another_by_quiet p records
sees_same_quiet p cut records (Some kept) few = sees_newest_quiet p kept cut records (record_at kept.number records) few

sees_by_quiet : (p : PollState) (back cut : Bool) (records : List Numbered) (means : Means) → p.earliest ≡ None → (means ≡ Partly → ⊥) → Quiet (sees_by p back cut records means)
sees_by_quiet p back cut records Unshown few never = sees_none_quiet p back cut records few
sees_by_quiet p back cut records Same few never = sees_same_quiet p cut records p.newest few
sees_by_quiet p back cut records (Shifted by) few never = hour_quiet by _ _ (sees_same_quiet p cut records p.newest few)
sees_by_quiet p back cut records Partly few never = absurd (never refl)
sees_by_quiet p back cut records Another few never = another_by_quiet p records

sees_quiet : (p : PollState) (back cut : Bool) (records : List Numbered) → p.earliest ≡ None → Quiet (sees p back cut records)
sees_quiet p back cut records few = sees_by_quiet p back cut records (means_in p records) few (few_partly p records few)

pub by_count_quiet : (p : PollState) (count : Option ℕ) → p.earliest ≡ None → Quiet (by_count p count)
unfolding Quiet
by_count_quiet p None few = λ going none. absurd (cc)
by_count_quiet p (Some total) few =
    pick (total == logged p) _ _ (λ same. ends_quiet (confirmed p) CaughtUp) (λ other. pick (nat_lt 0 total && is_ahead p.next total) _ _ (λ behind. λ going none. (few, refl)) (λ before. another_of_quiet p total))

-- ---- 5. a first run

starts_at_quiet : (p : PollState) (first : ℕ) (held : List Numbered) (counted : Option ℕ) → Quiet (starts_at p first held counted)
unfolding Quiet
starts_at_quiet p first held None = brings_quiet (standing_at (confirmed p) first) held
starts_at_quiet p first held (Some counted) =
    pick (is_ahead counted first) _ _ (λ behind. brings_quiet (standing_at (confirmed p) first) held) (λ here. brings_quiet (standing_at (confirmed p) first) held)

starts_quiet : (p : PollState) (held : List Numbered) → Quiet (starts p held)
starts_quiet p held = starts_at_quiet p _ held p.counted

starts_by_quiet : (p : PollState) (records : List Numbered) → Quiet (starts_by p records)
unfolding Quiet
starts_by_quiet p records = pick (is_first (standing_at p 1) (first_number records)) _ _ (λ first. starts_quiet (standing_at p 1) records) (λ later. λ going none. (refl, refl))

starts_none_quiet : (p : PollState) → Quiet (starts_none p)
unfolding Quiet
starts_none_quiet p = pick (p.refused && is_some p.counted) _ _ (λ refused. ends_quiet p ShowsNone) (λ told. starts_quiet p [])

starts_told_quiet : (p : PollState) (begins : Option ℕ) (next : ℕ) → p.earliest ≡ None → Quiet (starts_told p begins next)
unfolding Quiet
starts_told_quiet p None next few = λ going none. (few, refl)
starts_told_quiet p (Some begins) next few = λ going none. (few, refl)

starts_refused_quiet : (p : PollState) (counted : Option ℕ) → p.earliest ≡ None → Quiet (starts_refused p counted)
unfolding Quiet
starts_refused_quiet p None few = λ going none. (few, refl)
starts_refused_quiet p (Some counted) few = λ going none. (few, refl)

pub starts_from_quiet : (p : PollState) (count : Option ℕ) → p.earliest ≡ None → Quiet (starts_from p count)
starts_from_quiet p None few = starts_refused_quiet (record p { total = 0; refused = true }) p.counted few
starts_from_quiet p (Some total) few = starts_told_quiet (record p { total = total; refused = false }) p.begins _ few

-- ---- before a gap

back_done_quiet : (p : PollState) (aim : Aim) (records : List Numbered) → p.earliest ≡ None → Quiet (back_done p aim records)
unfolding Quiet
back_done_quiet p Finds records few = sees_quiet p false false records few
back_done_quiet p Renews records few = brings_quiet p records
back_done_quiet p Starts records few = starts_quiet p records

back_lost_quiet : (p : PollState) (aim : Aim) → p.earliest ≡ None → Quiet (back_lost p aim)
unfolding Quiet
back_lost_quiet p Finds few = λ going none. (few, refl)
back_lost_quiet p Renews few = λ going none. (few, refl)
back_lost_quiet p Starts few = λ going none. (few, refl)

back_more_quiet : (p : PollState) (aim : Aim) (records : List Numbered) → p.earliest ≡ None → Quiet (back_more p aim records)
unfolding Quiet
back_more_quiet p aim records few = pick (is_front p records (means_in p records)) _ _ (λ front. back_done_quiet p aim records few) (λ other. λ going none. (few, refl))

back_alone_quiet : (p : PollState) (aim : Aim) (held : List Numbered) → p.earliest ≡ None → Quiet (back_alone p aim held)
unfolding Quiet
back_alone_quiet p aim held few = pick (p.more || (p.walk.count == 1)) _ _ (λ more. λ going none. (few, refl)) (λ done. back_done_quiet p aim held few)

back_shown_quiet : (p : PollState) (aim : Aim) (held records : List Numbered) (seen : Shown) → p.earliest ≡ None → Quiet (back_shown p aim held records seen)
back_shown_quiet p aim held records shown.Equal few = pick (length records == 1) _ _ (λ one. back_alone_quiet p aim held few) (λ more. back_more_quiet p aim records few)
back_shown_quiet p aim held records shown.Unshown few = back_lost_quiet p aim few
back_shown_quiet p aim held records (shown.Moved by) few = back_lost_quiet p aim few
back_shown_quiet p aim held records shown.Another few = back_lost_quiet p aim few

back_by_quiet : (p : PollState) (aim : Aim) (held records : List Numbered) (last : Option Numbered) → p.earliest ≡ None → Quiet (back_by p aim held records last)
back_by_quiet p aim held records None few = back_done_quiet p aim held few
back_by_quiet p aim held records (Some last) few = pick (last.number == first_number held) _ _ (λ same. back_shown_quiet p aim held records _ few) (λ other. back_more_quiet p aim records few)

pub back_quiet : (p : PollState) (aim : Aim) (held records : List Numbered) → p.earliest ≡ None → Quiet (back p aim held records)
unfolding Quiet
back_quiet p aim held records few = pick (nat_lt p.back 2147483648) _ _ (λ near. back_by_quiet (went_back p records) aim held records (last_in records) few) (λ far. ends_quiet p Contradicts)

-- ---- answers

oldest_none_quiet : (p : PollState) (aim : Aim) → p.earliest ≡ None → Quiet (oldest_none p aim)
unfolding Quiet
oldest_none_quiet p Finds few = λ going none. (few, refl)
oldest_none_quiet p Renews few = λ going none. (few, refl)
oldest_none_quiet p Starts few = pick (p.total == 0) _ _ (λ nothing. starts_none_quiet p) (λ some. λ going none. (few, refl))

up_to_none_quiet : (p : PollState) (aim : Aim) → p.earliest ≡ None → Quiet (up_to_none p aim)
unfolding Quiet
up_to_none_quiet p Finds few = word_quiet p [] few
up_to_none_quiet p Renews few = λ going none. absurd (cc)
up_to_none_quiet p Starts few = starts_quiet p []

came_quiet : (p : PollState) (aim : Aim) (cut : Bool) (records : List Numbered) → p.earliest ≡ None → Quiet (came p aim cut records)
came_quiet p Finds cut records few = sees_quiet p true cut records few
came_quiet p Renews cut records few = renews_quiet p records few
came_quiet p Starts cut records few = starts_by_quiet p records

pub oldest_quiet : (p : PollState) (aim : Aim) (reply : Reply) → p.earliest ≡ None → Quiet (oldest p aim reply)
oldest_quiet p aim reply few = pick (length reply.records == 0) _ _ (λ empty. oldest_none_quiet p aim few) (λ some. came_quiet p aim _ reply.records few)

pub up_to_quiet : (p : PollState) (aim : Aim) (records : List Numbered) → p.earliest ≡ None → Quiet (up_to p aim records)
up_to_quiet p aim records few = pick (length records == 0) _ _ (λ empty. up_to_none_quiet p aim few) (λ some. came_quiet p aim false records few)

pub renews_by_quiet : (p : PollState) (count : Option ℕ) → p.earliest ≡ None → Quiet (renews_by p count)
unfolding Quiet
renews_by_quiet p None few = λ going none. absurd (cc)
renews_by_quiet p (Some total) few = renews_of_quiet p total few
