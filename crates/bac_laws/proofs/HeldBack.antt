-- What the poll of a log keeps, and what it holds back, is what replies showed.
use Rattle.std.proofs.Common.{◌≡◌, ℕ, ◌==◌, ◌&&◌, ◌||◌, not, nat_lt, Bool, true, false, if◌then◌else◌}
use Rattle.std.proofs.Common.{Option, None, Some, List, [], ◌∷◌, ◌++◌, length, is_some, refl, subst}
use Rattle.bac_link.specs.Ordinals.{is_ahead, number_after}
use Rattle.bac_wire.specs.Primitive.{Id}
use Rattle.bac_walk.specs.declared.batch.Numbered.{Numbered}
use Rattle.bac_known.specs.declared.date_time.DateTime.{DateTime}
use Rattle.bac_known.specs.declared.known.Means.{Means}
use Rattle.bac_known.specs.declared.known.Means.TheVariants.{Shifted, Partly, Same, Unshown, Another}
use Rattle.bac_known.specs.declared.known.Shown.{Shown}
use Rattle.bac_known.specs.declared.known.Shown.TheVariants as shown
use Rattle.bac_poll.specs.Back.{back, back_by, back_done, back_lost, back_more, back_shown, is_front, shown_last, went_back}
use Rattle.bac_poll.specs.Epochs.{another, another_by, another_of, renews, renews_of}
use Rattle.bac_poll.specs.Gone.{asks_restart, asks_word, by_word}
use Rattle.bac_poll.specs.Joins.{again, again_by, again_equal, again_from, ahead, asks_again, asks_each, at_hour}
use Rattle.bac_poll.specs.Joins.{brings_ahead, each, each_all, each_by, each_means, each_next, found, goes_nowhere, goes_on, hour, joined}
use Rattle.bac_poll.specs.Joins.{joins, joins_by, joins_from, lost, lost_ahead, moved_ahead, prior}
use Rattle.bac_poll.specs.Known.{means_in, number_in, record_at, records_behind, shown_in}
use Rattle.bac_poll.specs.Oldest.{by_count, by_number, drops, is_cut, is_first, logged, sees, sees_before, sees_by, sees_newest}
use Rattle.bac_poll.specs.Oldest.{sees_news, sees_none, sees_same}
use Rattle.bac_poll.specs.Poll.{after, after_count, after_heard, after_restart, after_revision, at_stage, came, count_at, more_of}
use Rattle.bac_poll.specs.Poll.{oldest_none, renews_by, reply_in, up_to_none}
use Rattle.bac_poll.specs.Starts.{starts, starts_by, starts_from, starts_none}
use Rattle.bac_poll.specs.State.{KeptAs, PollState, Reply}
use Rattle.bac_poll.specs.Turns.{Turned, brings, brings_to, confirmed, first_in, first_number, last_in}
use Rattle.bac_poll.specs.Turns.{number_or, renewed, standing_at}
use Rattle.bac_poll_steps.specs.Gone.{asks_revision, by_gone, gone_of, retold}
use Rattle.bac_poll_steps.specs.Known.{word_of}
use Rattle.bac_poll_steps.specs.Starts.{starts_at, starts_here, starts_refused, starts_told}
use Rattle.bac_poll_steps.specs.declared.gone.Gone.{Gone}
use Rattle.bac_poll_steps.specs.declared.gone.Gone.TheVariants.{Dropped, Doubtful, Both}
use Rattle.bac_poll_steps.specs.declared.stage.Aim.{Aim}
use Rattle.bac_poll_steps.specs.declared.stage.Aim.TheVariants.{Finds, Renews, Starts}
use Rattle.bac_poll_steps.specs.declared.stage.Stage.{Stage}
use Rattle.bac_poll_steps.specs.declared.stage.Stage.TheVariants.{Joins, Prior, Ahead, Again, Each as EachStage, Oldest, ByNumber}
use Rattle.bac_poll_steps.specs.declared.stage.Stage.TheVariants.{Counts, UpTo, Back, Revision, Restart}
use Rattle.bac_poll_steps.specs.declared.turn.Line.{Line}
use Rattle.bac_laws.proofs.Shown.{Each, Shows}

module _ (P : Numbered → Type 0) (L : Id) where
  -- what is held back is such, of the poll of this log
  abbrev pub Held : PollState → Type 0
  Held p = Each P p.held × (p.walk.log ≡ L)

  -- what a turn brings is, and so is what is held back then
  abbrev pub Fits : Turned → Type 0
  Fits t = Each P t.records × Held t.poll

  either : (b : Bool) (x y : Turned) → Fits x → Fits y → Fits (if b then x else y)
  either true x y f g = f
  either false x y f g = g

  -- ---- records

  each_if : (b : Bool) (xs ys : List Numbered) → Each P xs → Each P ys → Each P (if b then xs else ys)
  each_if true xs ys f g = f
  each_if false xs ys f g = g

  behind_each : (number : ℕ) (rs : List Numbered) → Each P rs → Each P (records_behind number rs)
  behind_each number [] all = tt
  behind_each number (r ∷ rs) all = each_if (r.number == number) rs (records_behind number rs) all.1 (behind_each number rs all.1)

  pub each_more : (xs ys : List Numbered) → Each P xs → Each P ys → Each P (xs ++ ys)
  each_more [] ys all more = more
  each_more (x ∷ xs) ys all more = (all.0, each_more xs ys all.1 more)

  first_each : (rs : List Numbered) (r : Numbered) → first_in rs ≡ Some r → Each P rs → P r
  first_each [] r is all = absurd (let e : None ≡ Some r = is in cc)
  first_each (x ∷ rs) r is all = subst P (let e : Some x ≡ Some r = is in cc) all.0

  -- ---- steps

  brings_fits : (p : PollState) (rs : List Numbered) → Held p → Each P rs → Fits (brings p rs)
  brings_fits p rs held all = by (last_in rs)
    where
      by : (last : Option Numbered) → Fits (brings_to p rs last)
      by None = (tt, held)
      by (Some last) = (all, held)

  renews_fits : (p : PollState) (rs : List Numbered) → Held p → Each P rs → Fits (renews p rs)
  renews_fits p rs held all = either (first_number rs == 1) _ _ (brings_fits p rs held all) (tt, (all, held.1))

  another_fits : (p : PollState) → Held p → Fits (another p)
  another_fits p held = either (p.lives == 2) _ _ (tt, held) (tt, held)

  another_by_fits : (p : PollState) (rs : List Numbered) → Held p → Each P rs → Fits (another_by p rs)
  another_by_fits p rs held all = either (p.lives == 2) _ _ (tt, held) (renews_fits (renewed p p.told) rs held all)

  renews_of_fits : (p : PollState) (total : ℕ) → Held p → Fits (renews_of p total)
  renews_of_fits p total held = either (total == 0) _ _ (tt, held) (tt, held)

  another_of_fits : (p : PollState) (total : ℕ) → Held p → Fits (another_of p total)
  another_of_fits p total held = either (p.lives == 2) _ _ (tt, held) (renews_of_fits (renewed p p.told) total held)

  -- ---- a first run

  starts_fits : (p : PollState) (rs : List Numbered) → Held p → Each P rs → Fits (starts p rs)
  starts_fits p rs held all = by (number_or (number_after p.total 1) (first_in rs)) p.counted
    where
      here : (first : ℕ) → Fits (starts_here p first rs)
      here first = brings_fits (standing_at (confirmed p) first) rs held all

      by : (first : ℕ) (counted : Option ℕ) → Fits (starts_at p first rs counted)
      by first None = here first
      by first (Some counted) = either (is_ahead counted first) _ _ (here first) (here first)

  starts_by_fits : (p : PollState) (rs : List Numbered) → Held p → Each P rs → Fits (starts_by p rs)
  starts_by_fits p rs held all = either (is_first (standing_at p 1) (first_number rs)) _ _ (starts_fits (standing_at p 1) rs held all) (tt, (all, held.1))

  starts_none_fits : (p : PollState) → Held p → Fits (starts_none p)
  starts_none_fits p held = either (p.refused && is_some p.counted) _ _ (tt, held) (starts_fits p [] held tt)

  starts_from_fits : (p : PollState) (count : Option ℕ) → Held p → Fits (starts_from p count)
  starts_from_fits p None held = by p.counted
    where
      by : (counted : Option ℕ) → Fits (starts_refused (record p { total = 0; refused = true }) counted)
      by None = (tt, held)
      by (Some counted) = (tt, held)
  starts_from_fits p (Some total) held = by p.begins
    where
      by : (begins : Option ℕ) → Fits (starts_told (record p { total = total; refused = false }) begins (number_after total 1))
      by None = (tt, held)
      by (Some begins) = (tt, held)

  -- ---- the word

  by_gone_fits : (p : PollState) (first : ℕ) (rs : List Numbered) (gone : Gone) → Held p → Each P rs → Fits (by_gone p first rs gone)
  by_gone_fits p first rs Dropped held all = brings_fits (standing_at (confirmed (retold p)) first) rs held all
  by_gone_fits p first rs Doubtful held all = brings_fits (standing_at (confirmed (retold p)) first) rs held all
  by_gone_fits p first rs Both held all = brings_fits (standing_at (renewed (retold p) p.told) first) rs held all

  by_word_fits : (p : PollState) (rs : List Numbered) → Held p → Each P rs → Fits (by_word p rs)
  by_word_fits p rs held all =
      by_gone_fits p (number_or (number_after p.total 1) (first_in rs)) rs (gone_of p (first_in rs) (word_of p.word p.again)) held all

  asks_restart_fits : (p : PollState) (rs : List Numbered) (restart : List ℕ) → Held p → Each P rs → Fits (asks_restart p rs restart)
  asks_restart_fits p rs [] held all = by_word_fits p rs held all
  asks_restart_fits p rs (octet ∷ octets) held all = (tt, (all, held.1))

  asks_word_fits : (p : PollState) (rs : List Numbered) → Held p → Each P rs → Fits (asks_word p rs)
  asks_word_fits p rs held all = by p.word.revision
    where
      q : PollState
      q = record p { again = p.told }

      by : (revision : Option ℕ) → Fits (asks_revision q rs revision)
      by None = asks_restart_fits q rs p.word.restart held all
      by (Some was) = (tt, (all, held.1))

  -- ---- each question shows the record before it

  asks_each_fits : (p : PollState) (rs : List Numbered) (number : Option ℕ) → Held p → Each P rs → Fits (asks_each p rs number)
  asks_each_fits p rs None held all = another_fits p held
  asks_each_fits p rs (Some number) held all = (tt, (all, held.1))

  asks_again_fits : (p : PollState) (rs : List Numbered) (number : Option ℕ) → Held p → Each P rs → Fits (asks_again p rs number)
  asks_again_fits p rs None held all = (tt, held)
  asks_again_fits p rs (Some number) held all = (tt, (all, held.1))

  nowhere_fits : (p : PollState) (done alone : Bool) → Held p → Fits (goes_nowhere p done alone)
  nowhere_fits p done alone held = either done _ _ (tt, held) (either alone _ _ (tt, held) (tt, held))

  goes_on_fits : (p : PollState) (reply : Reply) (news : List Numbered) → Held p → Each P news → Fits (goes_on p reply news)
  goes_on_fits p reply news held all =
      either (length news == 0) _ _ (nowhere_fits p (reply.last && not reply.more) (length reply.records == 1) held) (brings_fits p news held all)

  joins_from_fits : (p : PollState) (reply : Reply) (newest : Option KeptAs) → Held p → Each P reply.records → Fits (joins_from p reply newest)
  joins_from_fits p reply None held all = (tt, held)
  joins_from_fits p reply (Some kept) held all = by (record_at kept.number reply.records)
    where
      by : (one : Option Numbered) → Fits (joined p kept reply one)
      by None = (tt, held)
      by (Some one) = goes_on_fits (found p one) reply (records_behind kept.number reply.records) held (behind_each kept.number reply.records all)

  at_hour_fits : (by : ℕ) (line : Line) (t : Turned) → Fits t → Fits (at_hour by line t)
  at_hour_fits by line t fits = either (by == 100) _ _ fits fits

  joins_fits : (p : PollState) (reply : Reply) → Held p → Each P reply.records → Fits (joins p reply)
  joins_fits p reply held all = by (means_in p reply.records)
    where
      by : (means : Means) → Fits (joins_by p reply means)
      by Unshown = (tt, held)
      by Same = joins_from_fits p reply p.newest held all
      by (Shifted some) = at_hour_fits some (hour p some) (joins_from p reply p.newest) (joins_from_fits p reply p.newest held all)
      by Partly = asks_each_fits p [] (number_in p.newest) held tt
      by Another = another_fits p held

  prior_fits : (p : PollState) (rs : List Numbered) → Held p → Fits (prior p rs)
  prior_fits p rs held = either (first_number rs == p.reference) _ _ (another_fits p held) (tt, held)

  ahead_fits : (p : PollState) (rs : List Numbered) → Held p → Each P rs → Fits (ahead p rs)
  ahead_fits p rs held all =
      either (length rs == 0) _ _ (either p.more _ _ (asks_again_fits p [] (number_in p.newest) held tt) (tt, held))
      (either (first_number rs == p.next) _ _ (asks_again_fits p rs (number_in p.newest) held all) (tt, held))

  lost_fits : (p : PollState) (seen : Shown) → Held p → Fits (lost p seen)
  lost_fits p shown.Unshown held = (tt, held)
  lost_fits p shown.Equal held = (tt, held)
  lost_fits p (shown.Moved by) held = another_fits p held
  lost_fits p shown.Another held = another_fits p held

  lost_ahead_fits : (p : PollState) (seen : Shown) (last : Option Numbered) → Held p → Fits (lost_ahead p seen last)
  lost_ahead_fits p seen None held = lost_fits p seen held
  lost_ahead_fits p seen (Some last) held = lost_fits (standing_at p (number_after last.number 1)) seen held

  moved_fits : (p : PollState) (rs : List Numbered) (seen : Shown) → Held p → Fits (moved_ahead p rs seen)
  moved_fits p rs seen held =
      either (is_some p.earliest) _ _ (asks_each_fits p [] (number_in p.newest) held tt) (lost_ahead_fits p seen (last_in rs) held)

  brings_ahead_fits : (p : PollState) (rs : List Numbered) (last : Option Numbered) → Held p → Each P rs → Fits (brings_ahead p rs last)
  brings_ahead_fits p rs None held all = (tt, held)
  brings_ahead_fits p rs (Some last) held all = (all, held)

  again_equal_fits : (p : PollState) (rs : List Numbered) (kept : KeptAs) (records : List Numbered) → Held p → Each P rs → Each P records
      → Fits (again_equal p rs kept records)
  again_equal_fits p rs kept records held all shows =
      either (length rs == 0) _ _ (brings_fits p (records_behind kept.number records) held (behind_each kept.number records shows))
      (either (length records == 1) _ _ (brings_ahead_fits p rs (last_in rs) held all) (brings_fits p rs held all))

  again_fits : (p : PollState) (rs records : List Numbered) → Held p → Each P rs → Each P records → Fits (again p rs records)
  again_fits p rs records held all shows = from p.newest
    where
      by : (kept : KeptAs) (seen : Shown) → Fits (again_by p rs kept records seen)
      by kept shown.Equal = again_equal_fits p rs kept records held all shows
      by kept shown.Unshown = lost_ahead_fits p shown.Unshown (last_in rs) held
      by kept (shown.Moved some) = moved_fits p rs (shown.Moved some) held
      by kept shown.Another = lost_ahead_fits p shown.Another (last_in rs) held

      from : (newest : Option KeptAs) → Fits (again_from p rs records newest)
      from None = (tt, held)
      from (Some kept) = by kept (shown_in (Some kept) records)

  each_all_fits : (p : PollState) (rs : List Numbered) (first : Option Numbered) → Held p → Fits (each_all p rs first)
  each_all_fits p rs None held = another_fits p held
  each_all_fits p rs (Some first) held = by (means_in p rs)
    where
      by : (means : Means) → Fits (each_means p first means)
      by Same = (tt, held)
      by (Shifted some) = at_hour_fits some (hour p some) _ (tt, held)
      by Unshown = another_fits p held
      by Partly = another_fits p held
      by Another = another_fits p held

  each_fits : (p : PollState) (rs records : List Numbered) → Held p → Each P rs → Each P records → Fits (each p rs records)
  each_fits p rs records held all shows = by (first_in records) refl
    where
      next : (more : List Numbered) → Each P more → Fits (each_next p more)
      next more both =
          either (length more == 1) _ _ (asks_each_fits p more (number_in p.earlier) held both)
          (either (length more == 2) _ _ (asks_each_fits p more (number_in p.earliest) held both) (each_all_fits p more (first_in more) held))

      by : (one : Option Numbered) → first_in records ≡ one → Fits (each_by p rs one)
      by None is = another_fits p held
      by (Some one) is =
          either ((one.number == p.reference) && nat_lt (length rs) 3) _ _
          (next (rs ++ one ∷ []) (each_more rs (one ∷ []) all (first_each records one is shows, tt))) (another_fits p held)

  -- ---- the oldest

  sees_before_fits : (p : PollState) (cut : Bool) (rs : List Numbered) → Held p → Each P rs → Fits (sees_before p cut rs)
  sees_before_fits p cut rs held all = either cut _ _ (tt, (all, held.1)) (another_by_fits p rs held all)

  drops_fits : (p : PollState) (back : Bool) (rs : List Numbered) → Held p → Each P rs → Fits (drops p back rs)
  drops_fits p back rs held all = either (back && not (is_first p (first_number rs))) _ _ (tt, (all, held.1)) (asks_word_fits p rs held all)

  sees_none_fits : (p : PollState) (back cut : Bool) (rs : List Numbered) → Held p → Each P rs → Fits (sees_none p back cut rs)
  sees_none_fits p back cut rs held all =
      either (is_ahead p.next (first_number rs)) _ _ (drops_fits p back rs held all) (sees_before_fits p cut rs held all)

  sees_news_fits : (p : PollState) (asked cut : Bool) (news : List Numbered) → Held p → Each P news → Fits (sees_news p asked cut news)
  sees_news_fits p asked cut news held all =
      either ((length news == 0) && not asked) _ _ (tt, held) (either ((length news == 0) && cut) _ _ (tt, held) (brings_fits p news held all))

  sees_same_fits : (p : PollState) (cut : Bool) (rs : List Numbered) (newest : Option KeptAs) → Held p → Each P rs → Fits (sees_same p cut rs newest)
  sees_same_fits p cut rs None held all = another_by_fits p rs held all
  sees_same_fits p cut rs (Some kept) held all = by (record_at kept.number rs)
    where
      by : (one : Option Numbered) → Fits (sees_newest p kept cut rs one)
      by None = either p.alone _ _ (sees_before_fits p cut rs held all) (tt, held)
      by (Some one) = sees_news_fits (found p one) p.alone cut (records_behind kept.number rs) held (behind_each kept.number rs all)

  sees_fits : (p : PollState) (back cut : Bool) (rs : List Numbered) → Held p → Each P rs → Fits (sees p back cut rs)
  sees_fits p back cut rs held all = by (means_in p rs)
    where
      by : (means : Means) → Fits (sees_by p back cut rs means)
      by Unshown = sees_none_fits p back cut rs held all
      by Same = sees_same_fits p cut rs p.newest held all
      by (Shifted some) = at_hour_fits some (hour p some) (sees_same p cut rs p.newest) (sees_same_fits p cut rs p.newest held all)
      by Partly = asks_each_fits p [] (number_in p.newest) held tt
      by Another = another_by_fits p rs held all

  by_number_fits : (p : PollState) (rs records : List Numbered) → Held p → Each P rs → Fits (by_number p rs records)
  by_number_fits p rs records held all = either (length records == 0) _ _ (tt, held) (another_by_fits p rs held all)

  by_count_fits : (p : PollState) (count : Option ℕ) → Held p → Fits (by_count p count)
  by_count_fits p None held = (tt, held)
  by_count_fits p (Some total) held =
      either (total == logged p) _ _ (tt, held)
      (either (nat_lt 0 total && is_ahead p.next total) _ _ (tt, held) (another_of_fits p total held))

  -- ---- backwards

  back_done_fits : (p : PollState) (aim : Aim) (rs : List Numbered) → Held p → Each P rs → Fits (back_done p aim rs)
  back_done_fits p Finds rs held all = sees_fits p false false rs held all
  back_done_fits p Renews rs held all = brings_fits p rs held all
  back_done_fits p Starts rs held all = starts_fits p rs held all

  back_lost_fits : (p : PollState) (aim : Aim) → Held p → Fits (back_lost p aim)
  back_lost_fits p Finds held = (tt, held)
  back_lost_fits p Renews held = (tt, held)
  back_lost_fits p Starts held = (tt, held)

  back_more_fits : (p : PollState) (aim : Aim) (rs : List Numbered) → Held p → Each P rs → Fits (back_more p aim rs)
  back_more_fits p aim rs held all = either (is_front p rs (means_in p rs)) _ _ (back_done_fits p aim rs held all) (tt, (all, held.1))

  back_shown_fits : (p : PollState) (aim : Aim) (rs records : List Numbered) (seen : Shown) → Held p → Each P rs → Each P records
      → Fits (back_shown p aim rs records seen)
  back_shown_fits p aim rs records shown.Equal held all shows =
      either (length records == 1) _ _ (either (p.more || (p.walk.count == 1)) _ _ (tt, (all, held.1)) (back_done_fits p aim rs held all))
      (back_more_fits p aim records held shows)
  back_shown_fits p aim rs records shown.Unshown held all shows = back_lost_fits p aim held
  back_shown_fits p aim rs records (shown.Moved by) held all shows = back_lost_fits p aim held
  back_shown_fits p aim rs records shown.Another held all shows = back_lost_fits p aim held

  back_fits : (p : PollState) (aim : Aim) (rs records : List Numbered) → Held p → Each P rs → Each P records → Fits (back p aim rs records)
  back_fits p aim rs records held all shows = either (nat_lt p.back 2147483648) _ _ (by (last_in records)) (tt, held)
    where
      q : PollState
      q = went_back p records

      by : (last : Option Numbered) → Fits (back_by q aim rs records last)
      by None = back_done_fits q aim rs held all
      by (Some last) =
          either (last.number == first_number rs) _ _ (back_shown_fits q aim rs records (shown_last (first_in rs) last) held all shows)
          (back_more_fits q aim records held shows)

  -- ---- answers

  oldest_none_fits : (p : PollState) (aim : Aim) → Held p → Fits (oldest_none p aim)
  oldest_none_fits p Finds held = (tt, held)
  oldest_none_fits p Renews held = (tt, held)
  oldest_none_fits p Starts held = either (p.total == 0) _ _ (starts_none_fits p held) (tt, held)

  up_to_none_fits : (p : PollState) (aim : Aim) → Held p → Fits (up_to_none p aim)
  up_to_none_fits p Finds held = asks_word_fits p [] held tt
  up_to_none_fits p Renews held = (tt, held)
  up_to_none_fits p Starts held = starts_fits p [] held tt

  came_fits : (p : PollState) (aim : Aim) (cut : Bool) (rs : List Numbered) → Held p → Each P rs → Fits (came p aim cut rs)
  came_fits p Finds cut rs held all = sees_fits p true cut rs held all
  came_fits p Renews cut rs held all = renews_fits p rs held all
  came_fits p Starts cut rs held all = starts_by_fits p rs held all

  stage_fits : (p : PollState) (stage : Stage) (rs : List Numbered) (reply : Reply) → Held p → Each P rs → Each P reply.records
      → Fits (at_stage p stage rs reply)
  stage_fits p Joins rs reply held all shows = joins_fits p reply held shows
  stage_fits p Prior rs reply held all shows = prior_fits p reply.records held
  stage_fits p Ahead rs reply held all shows = ahead_fits p reply.records held shows
  stage_fits p Again rs reply held all shows = again_fits p rs reply.records held all shows
  stage_fits p EachStage rs reply held all shows = each_fits p rs reply.records held all shows
  stage_fits p ByNumber rs reply held all shows = by_number_fits p rs reply.records held all
  stage_fits p (Oldest aim) rs reply held all shows =
      either (length reply.records == 0) _ _ (oldest_none_fits p aim held) (came_fits p aim (is_cut p reply) reply.records held shows)
  stage_fits p (UpTo aim) rs reply held all shows =
      either (length reply.records == 0) _ _ (up_to_none_fits p aim held) (came_fits p aim false reply.records held shows)
  stage_fits p (Back aim) rs reply held all shows = back_fits p aim rs reply.records held all shows
  stage_fits p (Counts aim) rs reply held all shows = (tt, held)
  stage_fits p Revision rs reply held all shows = (tt, held)
  stage_fits p Restart rs reply held all shows = (tt, held)

  heard_fits : (p : PollState) (reply : Option Reply) → Held p → Shows P reply → Fits (after_heard p reply)
  heard_fits p None held shows = (tt, held)
  heard_fits p (Some reply) held shows = stage_fits (record p { more = more_of p reply; held = [] }) p.stage p.held reply (tt, held.1) held.0 shows

  pub after_fits : (p : PollState) (datagram : List ℕ) → Held p → Shows P (reply_in p datagram) → Fits (after p datagram)
  after_fits p datagram held shows = heard_fits p (reply_in p datagram) held shows

  pub count_fits : (p : PollState) (count : Option ℕ) → Held p → Fits (after_count p count)
  count_fits p count held = by p.stage
    where
      renewing : (total : Option ℕ) → Fits (renews_by p total)
      renewing None = (tt, held)
      renewing (Some total) = renews_of_fits p total held

      by : (stage : Stage) → Fits (count_at p stage count)
      by (Counts Finds) = by_count_fits (record p { more = false }) count held
      by (Counts Renews) = renewing count
      by (Counts Starts) = starts_from_fits p count held
      by Joins = (tt, held)
      by Prior = (tt, held)
      by Ahead = (tt, held)
      by Again = (tt, held)
      by EachStage = (tt, held)
      by ByNumber = (tt, held)
      by (Oldest aim) = (tt, held)
      by (UpTo aim) = (tt, held)
      by (Back aim) = (tt, held)
      by Revision = (tt, held)
      by Restart = (tt, held)

  pub revision_fits : (p : PollState) (revision : Option ℕ) → Held p → Fits (after_revision p revision)
  revision_fits p revision held = asks_restart_fits (record p { again = record p.again { revision = revision }; held = [] }) p.held p.word.restart (tt, held.1) held.0

  pub restart_fits : (p : PollState) (restart : List ℕ) (moment : DateTime) → Held p → Fits (after_restart p restart moment)
  restart_fits p restart moment held = by_word_fits (record p { again = record p.again { restart = restart; moment = moment }; held = [] }) p.held (tt, held.1) held.0
