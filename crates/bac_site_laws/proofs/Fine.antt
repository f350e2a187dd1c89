-- What a turn puts in front of its records: a beginning only where an epoch's first number comes next, and gaps.
use Rattle.std.proofs.Common.{◌≡◌, inl, inr, ℕ, ◌==◌, ◌&&◌, ◌||◌, nat_lt, not, Bool, true, false}
use Rattle.std.proofs.Common.{if◌then◌else◌, Option, None, Some, List, [], ◌∷◌, ◌++◌, length, refl, sym}
use Rattle.std.proofs.Common.{◌∙◌}
use Rattle.std.proofs.lemmas.Bool.{eqb-false}
use Rattle.std.specs.Option.{is_some}
use Rattle.bac_link.specs.Ordinals.{is_ahead, number_after}
use Rattle.bac_link.specs.declared.item.Item.TheVariants.{Gap}
use Rattle.bac_walk.specs.declared.batch.Numbered.{Numbered}
use Rattle.bac_known.specs.declared.known.Means.{Means}
use Rattle.bac_known.specs.declared.known.Means.TheVariants as means
use Rattle.bac_known.specs.declared.known.Shown.{Shown}
use Rattle.bac_known.specs.declared.known.Shown.TheVariants as shown
use Rattle.bac_poll.specs.Back.{back, back_alone, back_by, back_done, back_lost, back_more, back_shown, is_front}
use Rattle.bac_poll.specs.Back.{shown_last, went_back}
use Rattle.bac_poll.specs.Epochs.{another, another_by, another_of, asks_oldest, brings_behind, renews}
use Rattle.bac_poll.specs.Epochs.{renews_none, renews_of}
use Rattle.bac_poll.specs.Gone.{asks_restart, asks_revision, asks_word, brings_both, brings_doubtful, brings_gone}
use Rattle.bac_poll.specs.Gone.{by_gone, by_word, gone_of, retold}
use Rattle.bac_poll.specs.Joins.{again_by, again_equal, again_from, ahead, ahead_none, asks_again, asks_each}
use Rattle.bac_poll.specs.Joins.{at_hour, brings_ahead, each_all, each_by, each_means, each_next}
use Rattle.bac_poll.specs.Joins.{found, goes_nowhere, goes_on, hour, joined, joins_by, joins_from, lost}
use Rattle.bac_poll.specs.Joins.{lost_ahead, moved_ahead, prior}
use Rattle.bac_poll.specs.Known.{means_in, number_in, record_at, records_behind, shown_in}
use Rattle.bac_poll_steps.specs.Known.{word_of}
use Rattle.bac_poll.specs.Oldest.{by_count, by_number, drops, is_cut, sees, sees_before, sees_by, sees_last, sees_newest}
use Rattle.bac_poll.specs.Oldest.{is_first, logged, sees_news, sees_none, sees_same, weighed}
use Rattle.bac_poll.specs.Poll.{after_heard, at_stage, came, count_at, more_of, oldest, oldest_none}
use Rattle.bac_poll.specs.Poll.{renews_by, up_to, up_to_none}
use Rattle.bac_poll.specs.Starts.{starts, starts_at, starts_at_count, starts_by, starts_from, starts_here}
use Rattle.bac_poll.specs.Starts.{starts_none, starts_refused, starts_told}
use Rattle.bac_poll.specs.State.{KeptAs, PollState, Reply, ToldAs}
use Rattle.bac_poll.specs.Turns.{Turned, anew, asks, brings, brings_to, confirmed, ends, first_in}
use Rattle.bac_poll.specs.Turns.{first_number, gap_up_to, last_in, number_or, renewed, standing_at}
use Rattle.bac_poll_steps.specs.declared.gone.Gone.{Gone}
use Rattle.bac_poll_steps.specs.declared.gone.Gone.TheVariants as gone
use Rattle.bac_poll_steps.specs.declared.stage.Aim.{Aim}
use Rattle.bac_poll_steps.specs.declared.stage.Aim.TheVariants.{Finds, Renews, Starts}
use Rattle.bac_poll_steps.specs.declared.stage.Stage.{Stage}
use Rattle.bac_poll_steps.specs.declared.stage.Stage.TheVariants.{Joins, Prior, Ahead, Again, Each, Oldest, ByNumber}
use Rattle.bac_poll_steps.specs.declared.stage.Stage.TheVariants.{Counts, UpTo, Back, Revision, Restart}
use Rattle.bac_poll_steps.specs.declared.turn.Line.{Line}
use Rattle.bac_poll_steps.specs.declared.turn.Line.TheVariants.{BeganAnew}
use Rattle.bac_poll_steps.specs.declared.turn.PollEnd.TheVariants.{Contradicts}
use Rattle.bac_poll_steps.specs.declared.turn.PollEnd.{PollEnd}
use Rattle.bac_site_laws.proofs.Front.{AreGaps, Fine, HasFirst, IsNumber, IsOne, after_some, first_some, gap_fine}

module _ (n : ℕ) where
  split : (b : Bool) (x y : Turned) → Fine n x → Fine n y → Fine n (if b then x else y)
  split true x y f g = f
  split false x y f g = g

  pub quiet : (p : PollState) → Fine n (asks p)
  quiet p = (record { begins = inl refl; missing = tt; gap = tt; alone = λ d. refl })

  pub end_fine : (p : PollState) (why : PollEnd) → Fine n (ends p why)
  end_fine p why = (record { begins = inl refl; missing = tt; gap = tt; alone = λ d. refl })

  to_fine : (p : PollState) (rs : List Numbered) (o : Option Numbered) → Fine n (brings_to p rs o)
  to_fine p rs None = (record { begins = inl refl; missing = tt; gap = tt; alone = λ d. refl })
  to_fine p rs (Some last) = (record { begins = inl refl; missing = tt; gap = tt; alone = λ d. refl })

  brings_fine : (p : PollState) (rs : List Numbered) → Fine n (brings p rs)
  brings_fine p rs = to_fine p rs (last_in rs)

  brings_gap : (p : PollState) (rs : List Numbered) → (brings p rs).gap ≡ []
  brings_gap p rs = by (last_in rs)
    where
      by : (o : Option Numbered) → (brings_to p rs o).gap ≡ []
      by None = refl
      by (Some last) = refl

  brings_sure : (p : PollState) (rs : List Numbered) → (brings p rs).doubtful ≡ false
  brings_sure p rs = by (last_in rs)
    where
      by : (o : Option Numbered) → (brings_to p rs o).doubtful ≡ false
      by None = refl
      by (Some last) = refl

  anew_fine : (t : Turned) (why : Line) → Fine n t → Fine n (anew t why)
  anew_fine t why f = record { begins = f.begins; missing = f.missing; gap = f.gap; alone = f.alone }

  -- ---- epochs

  another_fine : (p : PollState) → Fine n (another p)
  another_fine p = split (p.lives == 2) _ _ (record { begins = inl refl; missing = tt; gap = tt; alone = λ d. refl }) (record { begins = inl refl; missing = tt; gap = tt; alone = λ d. refl })

  renews_fine : (p : PollState) (rs : List Numbered) → Fine n (renews p rs)
  renews_fine p rs = split (first_number rs == 1) _ _ (brings_fine p rs) (record { begins = inl refl; missing = tt; gap = tt; alone = λ d. refl })

  another_by_fine : (p : PollState) (rs : List Numbered) → Fine n (another_by p rs)
  another_by_fine p rs = split (p.lives == 2) _ _ (record { begins = inl refl; missing = tt; gap = tt; alone = λ d. refl }) (anew_fine _ _ (renews_fine (renewed p p.told) rs))

  renews_of_fine : (p : PollState) (total : ℕ) → Fine n (renews_of p total)
  renews_of_fine p total = split (total == 0) _ _ (record { begins = inl refl; missing = tt; gap = tt; alone = λ d. refl }) (record { begins = inl refl; missing = tt; gap = tt; alone = λ d. refl })

  another_of_fine : (p : PollState) (total : ℕ) → Fine n (another_of p total)
  another_of_fine p total = split (p.lives == 2) _ _ (record { begins = inl refl; missing = tt; gap = tt; alone = λ d. refl }) (anew_fine _ _ (renews_of_fine (renewed p p.told) total))

  renews_none_fine : (p : PollState) (total : ℕ) → Fine n (renews_none p total)
  renews_none_fine p total =
      record { begins = inl refl; missing = gap_fine p.next (number_after total 1) (after_some total 1); gap = tt; alone = λ d. refl }

  behind_some : (a : ℕ) (rs : List Numbered) → HasFirst rs → AreGaps (gap_up_to a (number_or a (first_in rs)))
  behind_some a (r ∷ rs) has = gap_fine a r.number has
  behind_some a [] has = same (a == a) refl
    where
      same : (c : Bool) → c ≡ (a == a) → AreGaps (if c then [] else Gap a a ∷ [])
      same true is = tt
      same false is = absurd (eqb-false a a (sym is) refl)

  brings_behind_fine : (p : PollState) (rs : List Numbered) → HasFirst rs → Fine n (brings_behind p rs)
  brings_behind_fine p rs has =
      record { begins = (brings_fine p rs).begins; missing = behind_some p.next rs has; gap = (brings_fine p rs).gap; alone = λ d. brings_gap p rs }

  -- ---- the known records

  nowhere_fine : (p : PollState) (done alone : Bool) → Fine n (goes_nowhere p done alone)
  nowhere_fine p done alone = split done _ _ (record { begins = inl refl; missing = tt; gap = tt; alone = λ d. refl }) (split alone _ _ (record { begins = inl refl; missing = tt; gap = tt; alone = λ d. refl }) (record { begins = inl refl; missing = tt; gap = tt; alone = λ d. refl }))

  goes_on_fine : (p : PollState) (reply : Reply) (news : List Numbered) → Fine n (goes_on p reply news)
  goes_on_fine p reply news =
      split (length news == 0) _ _ (nowhere_fine p (reply.last && not reply.more) (length reply.records == 1)) (brings_fine p news)

  joined_fine : (p : PollState) (kept : KeptAs) (reply : Reply) (o : Option Numbered) → Fine n (joined p kept reply o)
  joined_fine p kept reply None = (record { begins = inl refl; missing = tt; gap = tt; alone = λ d. refl })
  joined_fine p kept reply (Some held) = goes_on_fine (found p held) reply (records_behind kept.number reply.records)

  joins_from_fine : (p : PollState) (reply : Reply) (o : Option KeptAs) → Fine n (joins_from p reply o)
  joins_from_fine p reply None = (record { begins = inl refl; missing = tt; gap = tt; alone = λ d. refl })
  joins_from_fine p reply (Some kept) = joined_fine p kept reply (record_at kept.number reply.records)

  hour_fine : (by : ℕ) (line : Line) (t : Turned) → Fine n t → Fine n (at_hour by line t)
  hour_fine by line t f = split (by == 100) _ _ f (record { begins = f.begins; missing = f.missing; gap = f.gap; alone = f.alone })

  asks_each_fine : (p : PollState) (rs : List Numbered) (o : Option ℕ) → Fine n (asks_each p rs o)
  asks_each_fine p rs None = another_fine p
  asks_each_fine p rs (Some number) = (record { begins = inl refl; missing = tt; gap = tt; alone = λ d. refl })

  joins_by_fine : (p : PollState) (reply : Reply) (m : Means) → Fine n (joins_by p reply m)
  joins_by_fine p reply means.Unshown = (record { begins = inl refl; missing = tt; gap = tt; alone = λ d. refl })
  joins_by_fine p reply means.Same = joins_from_fine p reply p.newest
  joins_by_fine p reply (means.Shifted by) = hour_fine by (hour p by) _ (joins_from_fine p reply p.newest)
  joins_by_fine p reply means.Partly = asks_each_fine p [] (number_in p.newest)
  joins_by_fine p reply means.Another = another_fine p

  prior_fine : (p : PollState) (rs : List Numbered) → Fine n (prior p rs)
  prior_fine p rs = split (first_number rs == p.reference) _ _ (another_fine p) (record { begins = inl refl; missing = tt; gap = tt; alone = λ d. refl })

  asks_again_fine : (p : PollState) (rs : List Numbered) (o : Option ℕ) → Fine n (asks_again p rs o)
  asks_again_fine p rs None = (record { begins = inl refl; missing = tt; gap = tt; alone = λ d. refl })
  asks_again_fine p rs (Some number) = (record { begins = inl refl; missing = tt; gap = tt; alone = λ d. refl })

  ahead_none_fine : (p : PollState) → Fine n (ahead_none p)
  ahead_none_fine p = split p.more _ _ (asks_again_fine p [] (number_in p.newest)) (record { begins = inl refl; missing = tt; gap = tt; alone = λ d. refl })

  ahead_fine : (p : PollState) (rs : List Numbered) → Fine n (ahead p rs)
  ahead_fine p rs =
      split (length rs == 0) _ _ (ahead_none_fine p)
      (split (first_number rs == p.next) _ _ (asks_again_fine p rs (number_in p.newest)) (record { begins = inl refl; missing = tt; gap = tt; alone = λ d. refl }))

  lost_fine : (p : PollState) (s : Shown) → Fine n (lost p s)
  lost_fine p shown.Unshown = (record { begins = inl refl; missing = tt; gap = tt; alone = λ d. refl })
  lost_fine p shown.Equal = (record { begins = inl refl; missing = tt; gap = tt; alone = λ d. refl })
  lost_fine p (shown.Moved by) = another_fine p
  lost_fine p shown.Another = another_fine p

  another_gap : (p : PollState) → (another p).gap ≡ []
  another_gap p = by (p.lives == 2)
    where
      by : (b : Bool) → (if b then ends p Contradicts else anew (asks_oldest (renewed p p.told) Renews) BeganAnew).gap ≡ []
      by true = refl
      by false = refl

  lost_gap : (p : PollState) (s : Shown) → (lost p s).gap ≡ []
  lost_gap p shown.Unshown = refl
  lost_gap p shown.Equal = refl
  lost_gap p (shown.Moved by) = another_gap p
  lost_gap p shown.Another = another_gap p

  lost_ahead_fine : (p : PollState) (s : Shown) (o : Option Numbered) → Fine n (lost_ahead p s o)
  lost_ahead_fine p s None = lost_fine p s
  lost_ahead_fine p s (Some last) =
      let f = lost_fine (standing_at p (number_after last.number 1)) s in
      record { begins = f.begins; missing = gap_fine p.next (number_after last.number 1) (after_some last.number 1); gap = f.gap; alone = λ d. lost_gap (standing_at p (number_after last.number 1)) s }

  moved_fine : (p : PollState) (rs : List Numbered) (s : Shown) → Fine n (moved_ahead p rs s)
  moved_fine p rs s =
      split (is_some p.earliest) _ _ (asks_each_fine p [] (number_in p.newest)) (lost_ahead_fine p s (last_in rs))

  brings_ahead_fine : (p : PollState) (rs : List Numbered) (o : Option Numbered) → Fine n (brings_ahead p rs o)
  brings_ahead_fine p rs None = (record { begins = inl refl; missing = tt; gap = tt; alone = λ d. refl })
  brings_ahead_fine p rs (Some last) = (record { begins = inl refl; missing = tt; gap = tt; alone = λ d. refl })

  again_equal_fine : (p : PollState) (held : List Numbered) (kept : KeptAs) (rs : List Numbered) → Fine n (again_equal p held kept rs)
  again_equal_fine p held kept rs =
      split (length held == 0) _ _ (brings_fine p (records_behind kept.number rs))
      (split (length rs == 1) _ _ (brings_ahead_fine p held (last_in held)) (brings_fine p held))

  again_by_fine : (p : PollState) (held : List Numbered) (kept : KeptAs) (rs : List Numbered) (s : Shown) → Fine n (again_by p held kept rs s)
  again_by_fine p held kept rs shown.Equal = again_equal_fine p held kept rs
  again_by_fine p held kept rs shown.Unshown = lost_ahead_fine p shown.Unshown (last_in held)
  again_by_fine p held kept rs (shown.Moved by) = moved_fine p held (shown.Moved by)
  again_by_fine p held kept rs shown.Another = lost_ahead_fine p shown.Another (last_in held)

  again_from_fine : (p : PollState) (held rs : List Numbered) (o : Option KeptAs) → Fine n (again_from p held rs o)
  again_from_fine p held rs None = (record { begins = inl refl; missing = tt; gap = tt; alone = λ d. refl })
  again_from_fine p held rs (Some kept) = again_by_fine p held kept rs (shown_in (Some kept) rs)

  each_means_fine : (p : PollState) (held : Numbered) (m : Means) → Fine n (each_means p held m)
  each_means_fine p held means.Same = (record { begins = inl refl; missing = tt; gap = tt; alone = λ d. refl })
  each_means_fine p held (means.Shifted by) = hour_fine by (hour p by) _ (record { begins = inl refl; missing = tt; gap = tt; alone = λ d. refl })
  each_means_fine p held means.Unshown = another_fine p
  each_means_fine p held means.Partly = another_fine p
  each_means_fine p held means.Another = another_fine p

  each_all_fine : (p : PollState) (held : List Numbered) (o : Option Numbered) → Fine n (each_all p held o)
  each_all_fine p held None = another_fine p
  each_all_fine p held (Some first) = each_means_fine p first (means_in p held)

  each_next_fine : (p : PollState) (held : List Numbered) → Fine n (each_next p held)
  each_next_fine p held =
      split (length held == 1) _ _ (asks_each_fine p held (number_in p.earlier))
      (split (length held == 2) _ _ (asks_each_fine p held (number_in p.earliest)) (each_all_fine p held (first_in held)))

  each_by_fine : (p : PollState) (held : List Numbered) (o : Option Numbered) → Fine n (each_by p held o)
  each_by_fine p held None = another_fine p
  each_by_fine p held (Some s) =
      split ((s.number == p.reference) && nat_lt (length held) 3) _ _ (each_next_fine p (held ++ s ∷ [])) (another_fine p)

  -- ---- what was dropped

  gone_fine : (p : PollState) (first : ℕ) (held : List Numbered) → IsNumber first → Fine n (brings_gone p first held)
  gone_fine p first held some =
      let f = brings_fine (standing_at p first) held in
      record { begins = f.begins; missing = gap_fine p.next first some; gap = f.gap; alone = f.alone }

  both_fine : (p : PollState) (told : ToldAs) (first : ℕ) (held : List Numbered) → IsNumber first → Fine n (brings_both p told first held)
  both_fine p told first held some =
      let f = brings_fine (standing_at (renewed p told) first) held in
      record { begins = f.begins; missing = gap_fine p.next first some; gap = gap_fine 1 first some; alone = λ d. absurd (let e = sym (brings_sure (standing_at (renewed p told) first) held) ∙ d in cc) }

  doubtful_fine : (p : PollState) (first : ℕ) (held : List Numbered) → IsNumber first → Fine n (brings_doubtful p first held)
  doubtful_fine p first held some =
      let f = gone_fine p first held some in record { begins = f.begins; missing = f.missing; gap = f.gap; alone = λ d. brings_gap (standing_at p first) held }

  by_gone_fine : (p : PollState) (first : ℕ) (held : List Numbered) (g : Gone) → IsNumber first → Fine n (by_gone p first held g)
  by_gone_fine p first held gone.Dropped some = gone_fine (confirmed (retold p)) first held some
  by_gone_fine p first held gone.Doubtful some = doubtful_fine (confirmed (retold p)) first held some
  by_gone_fine p first held gone.Both some = both_fine (retold p) p.told first held some

  by_word_fine : (p : PollState) (held : List Numbered) → HasFirst held → Fine n (by_word p held)
  by_word_fine p held has =
      by_gone_fine p (number_or (number_after p.total 1) (first_in held)) held (gone_of p (first_in held) (word_of p.word p.again))
      (first_some p.total 1 held has)

  restart_fine : (p : PollState) (held : List Numbered) (restart : List ℕ) → HasFirst held → Fine n (asks_restart p held restart)
  restart_fine p held [] has = by_word_fine p held has
  restart_fine p held (octet ∷ octets) has = (record { begins = inl refl; missing = tt; gap = tt; alone = λ d. refl })

  revision_fine : (p : PollState) (held : List Numbered) (o : Option ℕ) → HasFirst held → Fine n (asks_revision p held o)
  revision_fine p held None has = restart_fine p held p.word.restart has
  revision_fine p held (Some was) has = (record { begins = inl refl; missing = tt; gap = tt; alone = λ d. refl })

  word_fine : (p : PollState) (held : List Numbered) → HasFirst held → Fine n (asks_word p held)
  word_fine p held has = revision_fine (record p { again = p.told }) held p.word.revision has

  -- ---- the oldest

  drops_fine : (p : PollState) (back : Bool) (rs : List Numbered) → HasFirst rs → Fine n (drops p back rs)
  drops_fine p back rs has = split (back && not (is_first p (first_number rs))) _ _ (record { begins = inl refl; missing = tt; gap = tt; alone = λ d. refl }) (word_fine p rs has)

  before_fine : (p : PollState) (cut : Bool) (rs : List Numbered) → Fine n (sees_before p cut rs)
  before_fine p cut rs = split cut _ _ (record { begins = inl refl; missing = tt; gap = tt; alone = λ d. refl }) (another_by_fine p rs)

  by_number_fine : (p : PollState) (held rs : List Numbered) → Fine n (by_number p held rs)
  by_number_fine p held rs = split (length rs == 0) _ _ (record { begins = inl refl; missing = tt; gap = tt; alone = λ d. refl }) (another_by_fine p held)

  sees_none_fine : (p : PollState) (back cut : Bool) (rs : List Numbered) → HasFirst rs → Fine n (sees_none p back cut rs)
  sees_none_fine p back cut rs has =
      split (is_ahead p.next (first_number rs)) _ _ (drops_fine p back rs has) (before_fine p cut rs)

  sees_last_fine : (p : PollState) (cut : Bool) (rs : List Numbered) → Fine n (sees_last p cut rs)
  sees_last_fine p cut rs = split ((length rs == 0) && cut) _ _ (record { begins = inl refl; missing = tt; gap = tt; alone = λ d. refl }) (brings_fine p rs)

  sees_news_fine : (p : PollState) (asked cut : Bool) (rs : List Numbered) → Fine n (sees_news p asked cut rs)
  sees_news_fine p asked cut rs = split ((length rs == 0) && not asked) _ _ (record { begins = inl refl; missing = tt; gap = tt; alone = λ d. refl }) (sees_last_fine p cut rs)

  newest_fine : (p : PollState) (kept : KeptAs) (cut : Bool) (rs : List Numbered) (o : Option Numbered) → Fine n (sees_newest p kept cut rs o)
  newest_fine p kept cut rs None = split p.alone _ _ (before_fine p cut rs) (record { begins = inl refl; missing = tt; gap = tt; alone = λ d. refl })
  newest_fine p kept cut rs (Some held) = sees_news_fine (found p held) p.alone cut (records_behind kept.number rs)

  same_fine : (p : PollState) (cut : Bool) (rs : List Numbered) (o : Option KeptAs) → Fine n (sees_same p cut rs o)
  same_fine p cut rs None = another_by_fine p rs
  same_fine p cut rs (Some kept) = newest_fine p kept cut rs (record_at kept.number rs)

  sees_by_fine : (p : PollState) (back cut : Bool) (rs : List Numbered) (m : Means) → HasFirst rs → Fine n (sees_by p back cut rs m)
  sees_by_fine p back cut rs means.Unshown has = sees_none_fine p back cut rs has
  sees_by_fine p back cut rs means.Same has = same_fine p cut rs p.newest
  sees_by_fine p back cut rs (means.Shifted by) has = hour_fine by (hour p by) _ (same_fine p cut rs p.newest)
  sees_by_fine p back cut rs means.Partly has = asks_each_fine p [] (number_in p.newest)
  sees_by_fine p back cut rs means.Another has = another_by_fine p rs

  sees_fine : (p : PollState) (back cut : Bool) (rs : List Numbered) → HasFirst rs → Fine n (sees p back cut rs)
  sees_fine p back cut rs has = sees_by_fine p back cut rs (means_in p rs) has

  weighed_fine : (p : PollState) (total : ℕ) → Fine n (weighed p total)
  weighed_fine p total =
      split (total == logged p) _ _ (record { begins = inl refl; missing = tt; gap = tt; alone = λ d. refl }) (split (nat_lt 0 total && is_ahead p.next total) _ _ (record { begins = inl refl; missing = tt; gap = tt; alone = λ d. refl }) (another_of_fine p total))

  by_count_fine : (p : PollState) (o : Option ℕ) → Fine n (by_count p o)
  by_count_fine p None = (record { begins = inl refl; missing = tt; gap = tt; alone = λ d. refl })
  by_count_fine p (Some total) = weighed_fine p total

  -- ---- a first run

  here_fine : (p : PollState) (first : ℕ) (held : List Numbered) → n ≡ 1 → Fine n (starts_here p first held)
  here_fine p first held one =
      let f = brings_fine (standing_at (confirmed p) first) held in
      record { begins = inr one; missing = f.missing; gap = f.gap; alone = f.alone }

  starts_at_fine : (p : PollState) (first : ℕ) (held : List Numbered) (o : Option ℕ) → n ≡ 1 → IsNumber first → Fine n (starts_at p first held o)
  starts_at_fine p first held None one some = here_fine p first held one
  starts_at_fine p first held (Some counted) one some =
      let f = brings_fine (standing_at (confirmed p) first) held in
      split (is_ahead counted first) _ _
      (record { begins = inr one; missing = gap_fine counted first some; gap = f.gap; alone = λ d. brings_gap (standing_at (confirmed p) first) held }) (here_fine p first held one)

  starts_fine : (p : PollState) (held : List Numbered) → n ≡ 1 → HasFirst held → Fine n (starts p held)
  starts_fine p held one has =
      starts_at_fine p (number_or (number_after p.total 1) (first_in held)) held p.counted one (first_some p.total 1 held has)

  starts_by_fine : (p : PollState) (rs : List Numbered) → n ≡ 1 → HasFirst rs → Fine n (starts_by p rs)
  starts_by_fine p rs one has =
      split (is_first (standing_at p 1) (first_number rs)) _ _ (starts_fine (standing_at p 1) rs one has) (record { begins = inl refl; missing = tt; gap = tt; alone = λ d. refl })

  starts_none_fine : (p : PollState) → n ≡ 1 → Fine n (starts_none p)
  starts_none_fine p one = split (p.refused && is_some p.counted) _ _ (record { begins = inl refl; missing = tt; gap = tt; alone = λ d. refl }) (starts_fine p [] one tt)

  at_count_fine : (p : PollState) (number : ℕ) → n ≡ 1 → Fine n (starts_at_count p number)
  at_count_fine p number one = record { begins = inr one; missing = tt; gap = tt; alone = λ d. refl }

  told_fine : (p : PollState) (o : Option ℕ) (next : ℕ) → n ≡ 1 → Fine n (starts_told p o next)
  told_fine p None next one = at_count_fine (record p { counted = Some next }) next one
  told_fine p (Some begins) next one = (record { begins = inl refl; missing = tt; gap = tt; alone = λ d. refl })

  refused_fine : (p : PollState) (o : Option ℕ) → n ≡ 1 → Fine n (starts_refused p o)
  refused_fine p None one = at_count_fine p 1 one
  refused_fine p (Some counted) one = (record { begins = inl refl; missing = tt; gap = tt; alone = λ d. refl })

  starts_from_fine : (p : PollState) (o : Option ℕ) → n ≡ 1 → Fine n (starts_from p o)
  starts_from_fine p None one = refused_fine (record p { total = 0; refused = true }) p.counted one
  starts_from_fine p (Some total) one = told_fine (record p { total = total; refused = false }) p.begins (number_after total 1) one

  -- ---- backwards

  back_done_fine : (p : PollState) (aim : Aim) (rs : List Numbered) → IsOne n aim → HasFirst rs → Fine n (back_done p aim rs)
  back_done_fine p Finds rs one has = sees_fine p false false rs has
  back_done_fine p Renews rs one has = brings_behind_fine p rs has
  back_done_fine p Starts rs one has = starts_fine p rs one has

  back_lost_fine : (p : PollState) (aim : Aim) → Fine n (back_lost p aim)
  back_lost_fine p Finds = (record { begins = inl refl; missing = tt; gap = tt; alone = λ d. refl })
  back_lost_fine p Renews = (record { begins = inl refl; missing = tt; gap = tt; alone = λ d. refl })
  back_lost_fine p Starts = (record { begins = inl refl; missing = tt; gap = tt; alone = λ d. refl })

  back_more_fine : (p : PollState) (aim : Aim) (rs : List Numbered) → IsOne n aim → HasFirst rs → Fine n (back_more p aim rs)
  back_more_fine p aim rs one has = split (is_front p rs (means_in p rs)) _ _ (back_done_fine p aim rs one has) (record { begins = inl refl; missing = tt; gap = tt; alone = λ d. refl })

  back_alone_fine : (p : PollState) (aim : Aim) (held : List Numbered) → IsOne n aim → HasFirst held → Fine n (back_alone p aim held)
  back_alone_fine p aim held one has = split (p.more || (p.walk.count == 1)) _ _ (record { begins = inl refl; missing = tt; gap = tt; alone = λ d. refl }) (back_done_fine p aim held one has)

  back_shown_fine : (p : PollState) (aim : Aim) (held rs : List Numbered) (s : Shown) → IsOne n aim → HasFirst held → HasFirst rs → Fine n (back_shown p aim held rs s)
  back_shown_fine p aim held rs shown.Equal one has new =
      split (length rs == 1) _ _ (back_alone_fine p aim held one has) (back_more_fine p aim rs one new)
  back_shown_fine p aim held rs shown.Unshown one has new = back_lost_fine p aim
  back_shown_fine p aim held rs (shown.Moved by) one has new = back_lost_fine p aim
  back_shown_fine p aim held rs shown.Another one has new = back_lost_fine p aim

  back_by_fine : (p : PollState) (aim : Aim) (held rs : List Numbered) (o : Option Numbered) → IsOne n aim → HasFirst held → HasFirst rs → Fine n (back_by p aim held rs o)
  back_by_fine p aim held rs None one has new = back_done_fine p aim held one has
  back_by_fine p aim held rs (Some last) one has new =
      split (last.number == first_number held) _ _ (back_shown_fine p aim held rs (shown_last (first_in held) last) one has new)
      (back_more_fine p aim rs one new)

  back_fine : (p : PollState) (aim : Aim) (held rs : List Numbered) → IsOne n aim → HasFirst held → HasFirst rs → Fine n (back p aim held rs)
  back_fine p aim held rs one has new =
      split (nat_lt p.back 2147483648) _ _ (back_by_fine (went_back p rs) aim held rs (last_in rs) one has new) (record { begins = inl refl; missing = tt; gap = tt; alone = λ d. refl })

  -- ---- an answer

  oldest_none_fine : (p : PollState) (aim : Aim) → IsOne n aim → Fine n (oldest_none p aim)
  oldest_none_fine p Finds one = (record { begins = inl refl; missing = tt; gap = tt; alone = λ d. refl })
  oldest_none_fine p Renews one = (record { begins = inl refl; missing = tt; gap = tt; alone = λ d. refl })
  oldest_none_fine p Starts one = split (p.total == 0) _ _ (starts_none_fine p one) (record { begins = inl refl; missing = tt; gap = tt; alone = λ d. refl })

  up_to_none_fine : (p : PollState) (aim : Aim) → IsOne n aim → Fine n (up_to_none p aim)
  up_to_none_fine p Finds one = word_fine p [] tt
  up_to_none_fine p Renews one = renews_none_fine p p.total
  up_to_none_fine p Starts one = starts_fine p [] one tt

  came_fine : (p : PollState) (aim : Aim) (cut : Bool) (rs : List Numbered) → IsOne n aim → HasFirst rs → Fine n (came p aim cut rs)
  came_fine p Finds cut rs one has = sees_fine p true cut rs has
  came_fine p Renews cut rs one has = renews_fine p rs
  came_fine p Starts cut rs one has = starts_by_fine p rs one has

  oldest_fine : (p : PollState) (aim : Aim) (reply : Reply) → IsOne n aim → HasFirst reply.records → Fine n (oldest p aim reply)
  oldest_fine p aim reply one has =
      split (length reply.records == 0) _ _ (oldest_none_fine p aim one) (came_fine p aim (is_cut p reply) reply.records one has)

  up_to_fine : (p : PollState) (aim : Aim) (rs : List Numbered) → IsOne n aim → HasFirst rs → Fine n (up_to p aim rs)
  up_to_fine p aim rs one has = split (length rs == 0) _ _ (up_to_none_fine p aim one) (came_fine p aim false rs one has)

  -- what is held back where it counts has a number first; and where the first epoch's beginning is looked for, 1 comes next
  abbrev pub IsReady : Stage → List Numbered → Type 0
  IsReady Joins held = Unit {0}
  IsReady Prior held = Unit {0}
  IsReady Ahead held = Unit {0}
  IsReady Again held = Unit {0}
  IsReady Each held = Unit {0}
  IsReady ByNumber held = Unit {0}
  IsReady (Oldest aim) held = IsOne n aim
  IsReady (UpTo aim) held = IsOne n aim
  IsReady (Counts aim) held = IsOne n aim
  IsReady (Back aim) held = IsOne n aim × HasFirst held
  IsReady Revision held = HasFirst held
  IsReady Restart held = HasFirst held

  stage_fine : (p : PollState) (stage : Stage) (held : List Numbered) (reply : Reply) → IsReady stage held → HasFirst reply.records → Fine n (at_stage p stage held reply)
  stage_fine p Joins held reply is has = joins_by_fine p reply (means_in p reply.records)
  stage_fine p Prior held reply is has = prior_fine p reply.records
  stage_fine p Ahead held reply is has = ahead_fine p reply.records
  stage_fine p Again held reply is has = again_from_fine p held reply.records p.newest
  stage_fine p Each held reply is has = each_by_fine p held (first_in reply.records)
  stage_fine p ByNumber held reply is has = by_number_fine p held reply.records
  stage_fine p (Oldest aim) held reply is has = oldest_fine p aim reply is has
  stage_fine p (UpTo aim) held reply is has = up_to_fine p aim reply.records is has
  stage_fine p (Back aim) held reply is has = back_fine p aim held reply.records is.0 is.1 has
  stage_fine p (Counts aim) held reply is has = (record { begins = inl refl; missing = tt; gap = tt; alone = λ d. refl })
  stage_fine p Revision held reply is has = (record { begins = inl refl; missing = tt; gap = tt; alone = λ d. refl })
  stage_fine p Restart held reply is has = (record { begins = inl refl; missing = tt; gap = tt; alone = λ d. refl })

  -- the first of the records that a reply has
  abbrev pub HasFirstOf : Option Reply → Type 0
  HasFirstOf None = Unit {0}
  HasFirstOf (Some reply) = HasFirst reply.records

  pub heard_fine : (p : PollState) (o : Option Reply) → IsReady p.stage p.held → HasFirstOf o → Fine n (after_heard p o)
  heard_fine p None is has = (record { begins = inl refl; missing = tt; gap = tt; alone = λ d. refl })
  heard_fine p (Some reply) is has = stage_fine (record p { more = more_of p reply; held = [] }) p.stage p.held reply is has

  renews_by_fine : (p : PollState) (o : Option ℕ) → Fine n (renews_by p o)
  renews_by_fine p None = (record { begins = inl refl; missing = tt; gap = tt; alone = λ d. refl })
  renews_by_fine p (Some total) = renews_of_fine p total

  pub count_fine : (p : PollState) (stage : Stage) (o : Option ℕ) → IsReady stage p.held → Fine n (count_at p stage o)
  count_fine p (Counts Finds) o is = by_count_fine (record p { more = false }) o
  count_fine p (Counts Renews) o is = renews_by_fine p o
  count_fine p (Counts Starts) o is = starts_from_fine p o is
  count_fine p Joins o is = (record { begins = inl refl; missing = tt; gap = tt; alone = λ d. refl })
  count_fine p Prior o is = (record { begins = inl refl; missing = tt; gap = tt; alone = λ d. refl })
  count_fine p Ahead o is = (record { begins = inl refl; missing = tt; gap = tt; alone = λ d. refl })
  count_fine p Again o is = (record { begins = inl refl; missing = tt; gap = tt; alone = λ d. refl })
  count_fine p Each o is = (record { begins = inl refl; missing = tt; gap = tt; alone = λ d. refl })
  count_fine p ByNumber o is = (record { begins = inl refl; missing = tt; gap = tt; alone = λ d. refl })
  count_fine p (Oldest aim) o is = (record { begins = inl refl; missing = tt; gap = tt; alone = λ d. refl })
  count_fine p (UpTo aim) o is = (record { begins = inl refl; missing = tt; gap = tt; alone = λ d. refl })
  count_fine p (Back aim) o is = (record { begins = inl refl; missing = tt; gap = tt; alone = λ d. refl })
  count_fine p Revision o is = (record { begins = inl refl; missing = tt; gap = tt; alone = λ d. refl })
  count_fine p Restart o is = (record { begins = inl refl; missing = tt; gap = tt; alone = λ d. refl })

  pub revised_fine : (p : PollState) (held : List Numbered) (restart : List ℕ) → HasFirst held → Fine n (asks_restart p held restart)
  revised_fine p held restart has = restart_fine p held restart has

  pub restarted_fine : (p : PollState) (held : List Numbered) → HasFirst held → Fine n (by_word p held)
  restarted_fine p held has = by_word_fine p held has
