-- Each number comes once, whatever is answered.
use Rattle.std.proofs.Common.{◌≡◌, ℕ, ◌==◌, Bool, true, false, if◌then◌else◌, Option, None, Some, List, [], ◌∷◌, ◌++◌}
use Rattle.std.proofs.Common.{length, refl, sym, subst}
use Rattle.std.proofs.lemmas.Bool.{eqb-true}
use Rattle.bac_link.specs.Heard.{AckParameters, heard_in}
use Rattle.bac_log.specs.declared.entry.Entry.{Entry}
use Rattle.bac_walk.specs.Walks.{Ask, Bring, End, NextAct, Refuse, verdict, with_numbers}
use Rattle.bac_walk.specs.declared.batch.Numbered.{Numbered}
use Rattle.bac_walk.specs.declared.outcome.WalkFault.TheVariants.{BadReply}
use Rattle.bac_poll_laws.specs.Laws.{Answer, Answers, AreAnswers, Counted, Covers, Epoch, Goes, IsAimed, IsAt, IsBefore}
use Rattle.bac_poll_laws.specs.Laws.{IsRun, IsStanding, IsWhole, Replied, Restarted, Revised, ShowsOnly, Clears}
use Rattle.bac_poll_laws.specs.Laws.{HasSome, IsBegun, IsClearAt, Whichever, after_all, after_answer, epoch_after}
use Rattle.bac_poll_laws.specs.Laws.{epoch_after_all, epoch_from, items_of, start_of}
use Rattle.bac_poll.specs.Poll.{ack_in, first_stage, joining, starting, after, after_count, after_heard, after_restart}
use Rattle.bac_poll.specs.Poll.{after_revision, are_asked, at_stage, came, count_at, has_last, has_more, more_of}
use Rattle.bac_poll.specs.Poll.{oldest, oldest_none, renews_by, reply_from, reply_in, reply_of, up_to, up_to_none}
use Rattle.bac_poll.specs.Oldest.{is_cut}
use Rattle.bac_poll.specs.State.{KeptAs, PollState, Reply, StandingAs, ToldAs}
use Rattle.bac_poll.specs.Turns.{Turned, end_of, first_number}
use Rattle.bac_known.specs.declared.date_time.DateTime.{DateTime}
use Rattle.bac_poll_steps.specs.declared.stage.Aim.{Aim}
use Rattle.bac_poll_steps.specs.declared.stage.Aim.TheVariants.{Finds, Renews, Starts}
use Rattle.bac_poll_steps.specs.declared.stage.Stage.{Stage}
use Rattle.bac_poll_steps.specs.declared.stage.Stage.TheVariants.{Joins, Prior, Ahead, Again, Each, Oldest, ByNumber}
use Rattle.bac_poll_steps.specs.declared.stage.Stage.TheVariants.{Counts}
use Rattle.bac_poll_steps.specs.declared.stage.Stage.TheVariants.{UpTo, Back, Revision, Restart}
use Rattle.bac_poll_steps.specs.declared.turn.PollEnd.TheVariants.{Fault}
use Rattle.bac_poll_laws.proofs.Backwards.{back_takes}
use Rattle.bac_poll_laws.proofs.Rules.{again_goes, ahead_goes, by_number_goes, by_word_goes, counted_goes, each_goes}
use Rattle.bac_poll_laws.proofs.Rules.{joins_goes, prior_goes, renews_goes, renews_none_goes, renews_of_goes}
use Rattle.bac_poll_laws.proofs.Rules.{restart_goes, came_sees, starts_by_goes, starts_from_goes, starts_goes}
use Rattle.bac_poll_laws.proofs.Rules.{starts_none_goes, word_goes}
use Rattle.bac_poll_laws.proofs.Wholes.{ends_goes, numbered_run, run_first, split}
use Rattle.bac_wire.specs.Primitive.{Id}
use Rattle.bac_link.specs.Ordinals.{number_after}
use Rattle.bac_link.specs.declared.item.Item.{Item}
use Rattle.bac_link.specs.declared.item.Item.TheVariants.{Gap, Logged}
use Rattle.bac_poll_steps.specs.declared.turn.Beginning.{Beginning}

module _ (P : Numbered → Type 0) (F : ℕ → Type 0) where
  -- ---- a reply is a run

  abbrev pub IsRunReply : Option Reply → Type 0
  IsRunReply None = Unit {0}
  IsRunReply (Some reply) = IsRun P (first_number reply.records) reply.records

  with_run : (b : Bool) (first : ℕ) (es : List Entry) (last more : Bool) →
      ShowsOnly P (if b then Some (record { records = with_numbers first es; last = last; more = more }) else None) →
      IsRunReply (if b then Some (record { records = with_numbers first es; last = last; more = more }) else None)
  with_run true first es last more shows = run_first P F first (with_numbers first es) (numbered_run P F first es shows)
  with_run false first es last more shows = tt

  act_run : (p : PollState) (act : NextAct) (es : List Entry) (last more : Bool) → ShowsOnly P (reply_of p act es last more) →
      IsRunReply (reply_of p act es last more)
  act_run p Refuse es last more shows = tt
  act_run p Ask es last more shows = tt
  act_run p End es last more shows = tt
  act_run p (Bring first) es last more shows =
      with_run (are_asked p p.stage (first_number (with_numbers first es)) (length (with_numbers first es))) first es last more shows

  pub heard_run : (p : PollState) (heard : Option AckParameters) (last more : Bool) → ShowsOnly P (reply_from p heard last more) →
      IsRunReply (reply_from p heard last more)
  heard_run p None last more shows = tt
  heard_run p (Some h) last more shows = act_run p (verdict p.walk h.first h.count h.entries) h.entries last more shows

  -- ---- by what it is for

  came_goes : (p : PollState) (aim : Aim) (cut : Bool) (records : List Numbered) → IsBefore p.newest p.next → IsAimed p aim →
      IsRun P (first_number records) records × HasSome records → F 1 → Goes P F p.next (came p aim cut records)
  came_goes p Finds cut records known aimed run one = came_sees P F p cut records known run one
  came_goes p Renews cut records known aimed run one = renews_goes P F p records known aimed run
  came_goes p Starts cut records known aimed run one = starts_by_goes P F p records aimed run one

  oldest_none_goes : (p : PollState) (aim : Aim) → IsBefore p.newest p.next → IsAimed p aim → F 1 → Goes P F p.next (oldest_none p aim)
  oldest_none_goes p Finds known aimed one = (record { mid = p.next; before = refl; behind = refl; fronts = λ sure. (tt, tt) }, λ none. (known, tt))
  oldest_none_goes p Renews known aimed one = (record { mid = p.next; before = refl; behind = refl; fronts = λ sure. (tt, tt) }, λ none. (known, aimed))
  oldest_none_goes p Starts known aimed one =
      split P F (Goes P F p.next) (p.total == 0) _ _ (λ empty. starts_none_goes P F p (subst (λ (n : ℕ). F (number_after n 1)) (sym (eqb-true p.total 0 empty)) one))
      (λ some. (record { mid = p.next; before = refl; behind = refl; fronts = λ sure. (tt, tt) }, λ none. (known, aimed)))

  up_to_none_goes : (p : PollState) (aim : Aim) → IsBefore p.newest p.next → F (number_after p.total 1) → Goes P F p.next (up_to_none p aim)
  up_to_none_goes p Finds known told = word_goes P F p [] known (tt, told)
  up_to_none_goes p Renews known told = renews_none_goes P F p p.total told
  up_to_none_goes p Starts known told = starts_goes P F p [] (tt, told)

  some_of : (records : List Numbered) → (length records == 0) ≡ false → HasSome records
  some_of [] some = absurd (cc)
  some_of (r ∷ rs) some = tt

  oldest_takes : (p : PollState) (aim : Aim) (reply : Reply) → IsBefore p.newest p.next → IsAimed p aim →
      IsRun P (first_number reply.records) reply.records → F 1 → Goes P F p.next (oldest p aim reply)
  oldest_takes p aim reply known aimed run one =
      split P F (Goes P F p.next) (length reply.records == 0) _ _ (λ none. oldest_none_goes p aim known aimed one)
      (λ some. came_goes p aim (is_cut p reply) reply.records known aimed (run, some_of reply.records some) one)

  up_to_takes : (p : PollState) (aim : Aim) (records : List Numbered) → IsBefore p.newest p.next → IsAimed p aim → ((length records == 0) ≡ true → F (number_after p.total 1)) →
      IsRun P (first_number records) records → F 1 → Goes P F p.next (up_to p aim records)
  up_to_takes p aim [] known aimed clear run one = up_to_none_goes p aim known (clear refl)
  up_to_takes p aim (r ∷ rs) known aimed clear run one =
      split P F (Goes P F p.next) (length (r ∷ rs) == 0) _ _ (λ none. up_to_none_goes p aim known (clear none))
      (λ some. came_goes p aim false (r ∷ rs) known aimed (run, tt) one)

  -- the aim doesn't look at what is held back
  pub aimed_so : (p : PollState) (more : Bool) (aim : Aim) → IsAimed p aim → IsAimed (record p { more = more; held = [] }) aim
  aimed_so p more Finds aimed = tt
  aimed_so p more Renews aimed = aimed
  aimed_so p more Starts aimed = aimed

  stage_goes : (p : PollState) (more : Bool) (stage : Stage) (reply : Reply) → IsBefore p.newest p.next → IsAt P F p stage →
      IsRun P (first_number reply.records) reply.records → F 1 → IsClearAt F p more stage reply → Goes P F p.next (at_stage (record p { more = more; held = [] }) stage p.held reply)
  stage_goes p more Joins reply known at run one clear = joins_goes P F (record p { more = more; held = [] }) reply (first_number reply.records) known run
  stage_goes p more Prior reply known at run one clear = prior_goes P F (record p { more = more; held = [] }) reply.records known
  stage_goes p more Ahead reply known at run one clear = ahead_goes P F (record p { more = more; held = [] }) reply.records known run
  stage_goes p more Again reply known at run one clear = again_goes P F (record p { more = more; held = [] }) p.held (first_number reply.records) reply.records known at run
  stage_goes p more Each reply known at run one clear = each_goes P F (record p { more = more; held = [] }) p.held reply.records known at
  stage_goes p more ByNumber reply known at run one clear = by_number_goes P F (record p { more = more; held = [] }) p.held reply.records at
  stage_goes p more (Oldest aim) reply known at run one clear =
      oldest_takes (record p { more = more; held = [] }) aim reply known (aimed_so p more aim at) run one
  stage_goes p more (UpTo aim) reply known at run one clear =
      up_to_takes (record p { more = more; held = [] }) aim reply.records known (aimed_so p more aim at) clear run one
  stage_goes p more (Back aim) reply known at run one clear =
      back_takes P F (record p { more = more; held = [] }) aim p.held reply.records known (aimed_so p more aim at.0) (at.1, at.2) run one clear
  stage_goes p more (Counts aim) reply known at run one clear = ends_goes P F (record p { more = more; held = [] }) (Fault BadReply)
  stage_goes p more Revision reply known at run one clear = ends_goes P F (record p { more = more; held = [] }) (Fault BadReply)
  stage_goes p more Restart reply known at run one clear = ends_goes P F (record p { more = more; held = [] }) (Fault BadReply)

  heard_goes : (p : PollState) (reply : Option Reply) → IsStanding P F p → IsRunReply reply → F 1 → Clears F p reply → Goes P F p.next (after_heard p reply)
  heard_goes p None is run one clear = ends_goes P F p (Fault BadReply)
  heard_goes p (Some reply) is run one clear = stage_goes p (more_of p reply) p.stage reply is.0 is.1 run one clear

  -- ---- the count

  renews_by_goes : (p : PollState) (count : Option ℕ) → IsBefore p.newest p.next → IsBegun p → Goes P F p.next (renews_by p count)
  renews_by_goes p None known one = ends_goes P F p (end_of p)
  renews_by_goes p (Some total) known one = renews_of_goes P F p total known one

  count_goes : (p : PollState) (stage : Stage) (count : Option ℕ) → IsBefore p.newest p.next → IsAt P F p stage → Goes P F p.next (count_at p stage count)
  count_goes p (Counts Finds) count known at = counted_goes P F (record p { more = false }) count known
  count_goes p (Counts Renews) count known at = renews_by_goes p count known at
  count_goes p (Counts Starts) count known at = starts_from_goes P F p count known at
  count_goes p Joins count known at = ends_goes P F p (Fault BadReply)
  count_goes p Prior count known at = ends_goes P F p (Fault BadReply)
  count_goes p Ahead count known at = ends_goes P F p (Fault BadReply)
  count_goes p Again count known at = ends_goes P F p (Fault BadReply)
  count_goes p Each count known at = ends_goes P F p (Fault BadReply)
  count_goes p ByNumber count known at = ends_goes P F p (Fault BadReply)
  count_goes p (Oldest aim) count known at = ends_goes P F p (Fault BadReply)
  count_goes p (UpTo aim) count known at = ends_goes P F p (Fault BadReply)
  count_goes p (Back aim) count known at = ends_goes P F p (Fault BadReply)
  count_goes p Revision count known at = ends_goes P F p (Fault BadReply)
  count_goes p Restart count known at = ends_goes P F p (Fault BadReply)

  pub answers : F 1 → (p : PollState) → IsStanding P F p →
      ((datagram : List ℕ) → ShowsOnly P (reply_in p datagram) → Clears F p (reply_in p datagram) → Goes P F p.next (after p datagram))
      × ((count : Option ℕ) → Goes P F p.next (after_count p count))
      × ((p.stage ≡ Revision) → (revision : Option ℕ) → Goes P F p.next (after_revision p revision))
      × ((p.stage ≡ Restart) → (restart : List ℕ) → (moment : DateTime) → Goes P F p.next (after_restart p restart moment))
  answers one p is = (
    λ datagram shows clear. heard_goes p (reply_in p datagram) is
        (heard_run p (heard_in p.walk.log datagram) (has_last (ack_in datagram)) (has_more (ack_in datagram)) shows) one clear,
    λ count. count_goes p p.stage count is.0 is.1,
    λ at revision. restart_goes P F (record p { again = record p.again { revision = revision }; held = [] }) p.held p.word.restart is.0
        (subst (IsAt P F p) at is.1),
    λ at restart moment. by_word_goes P F (record p { again = record p.again { restart = restart; moment = moment }; held = [] }) p.held
        (subst (IsAt P F p) at is.1),
  )

  -- an answer's fronts
  pub AnswersFront : PollState → Answer → Type 0
  AnswersFront p (Replied datagram) = Clears F p (reply_in p datagram)
  AnswersFront p (Counted count) = Unit {0}
  AnswersFront p (Revised revision) = Unit {0}
  AnswersFront p (Restarted restart moment) = Unit {0}

  pub one_answer : F 1 → (p : PollState) (answer : Answer) → IsStanding P F p → Answers P p answer → AnswersFront p answer → Goes P F p.next (after_answer p answer)
  unfolding AnswersFront
  one_answer one p (Replied datagram) is shows front = (answers one p is).0 datagram shows front
  one_answer one p (Counted count) is asked front = (answers one p is).1 count
  one_answer one p (Revised revision) is at front = (answers one p is).2 at revision
  one_answer one p (Restarted restart moment) is at front = (answers one p is).3 at restart moment

  -- ---- one answer after the other

  covers_append : (a b c : ℕ) (xs ys : List Item) → Covers P a xs b → Covers P b ys c → Covers P a (xs ++ ys) c
  covers_append a b c [] ys first rest = subst (λ k. Covers P k ys c) first rest
  covers_append a b c (Gap gone before ∷ xs) ys first rest = (first.0, covers_append before b c xs ys first.1 rest)
  covers_append a b c (Logged shown entry ∷ xs) ys first rest =
      (first.0, first.1, covers_append (number_after shown 1) b c xs ys first.2 rest)

  by_count : (e : Epoch) (number next : ℕ) (c : Bool) → Covers P e.first e.items next → (x : Epoch) →
      x ≡ (if c then e else record { first = number; items = [] }) → Covers P x.first x.items (if c then next else number)
  by_count e number next true is x same = subst (λ (y : Epoch). Covers P y.first y.items next) (sym same) is
  by_count e number next false is x same = subst (λ (y : Epoch). Covers P y.first y.items number) (sym same) refl

  from_covers : (e : Epoch) (next : ℕ) (begins : Option Beginning) → Covers P e.first e.items next →
      Covers P (epoch_from e begins).first (epoch_from e begins).items (start_of begins next)
  from_covers e next None is = is
  from_covers e next (Some begins) is = by_count e begins.number next begins.counted is (epoch_from e (Some begins)) refl

  -- an epoch covers its numbers up to this one
  IsCovered : Epoch → ℕ → Type 0
  IsCovered e next = Covers P e.first e.items next

  by_anew : (c : Bool) (whole begun : Epoch) (next : ℕ) → (c ≡ true → IsCovered begun next) → (c ≡ false → IsCovered whole next) →
      IsCovered (if c then begun else whole) next
  by_anew true whole begun next f g = f refl
  by_anew false whole begun next f g = g refl

  anew_covers : (c : Bool) (mid next : ℕ) (items : List Item) → c ≡ true → Covers P (if c then 1 else mid) items next → Covers P 1 items next
  anew_covers true mid next items is covers = covers
  anew_covers false mid next items is covers = absurd (cc)

  same_covers : (c : Bool) (mid next : ℕ) (items : List Item) → c ≡ false → Covers P (if c then 1 else mid) items next → Covers P mid items next
  same_covers true mid next items is covers = absurd (cc)
  same_covers false mid next items is covers = covers

  after_covers : (e : Epoch) (next : ℕ) (t : Turned) → IsCovered e next → IsWhole P F next t → IsCovered (epoch_after e t) t.poll.next
  unfolding IsCovered by_anew
  after_covers e next t is whole =
      by_anew t.anew _ _ t.poll.next (λ anew. anew_covers t.anew whole.mid t.poll.next (items_of t) anew whole.behind)
      (λ same. covers_append (epoch_from e t.begins).first (start_of t.begins next) t.poll.next (epoch_from e t.begins).items (t.missing ++ items_of t)
      (from_covers e next t.begins is)
      (covers_append (start_of t.begins next) whole.mid t.poll.next t.missing (items_of t) whole.before
      (same_covers t.anew whole.mid t.poll.next (items_of t) same whole.behind)))

  pub all_answers : F 1 → (p : PollState) (e : Epoch) (answers : List Answer) → IsStanding P F p → Covers P e.first e.items p.next → AreAnswers P p answers →
      ((q : PollState) (answer : Answer) → AnswersFront q answer) →
      Covers P (epoch_after_all e p answers).first (epoch_after_all e p answers).items (after_all p answers).next
  unfolding IsCovered
  all_answers front p e [] is covers are fronts = covers
  all_answers front p e (answer ∷ []) is covers are fronts =
      after_covers e p.next (after_answer p answer) covers (one_answer front p answer is are.0 (fronts p answer)).0
  all_answers front p e (answer ∷ next ∷ rest) is covers are fronts =
      let one = one_answer front p answer is are.0 (fronts p answer) in
      all_answers front (after_answer p answer).poll (epoch_after e (after_answer p answer)) (next ∷ rest) (one.1 are.1)
      (after_covers e p.next (after_answer p answer) covers one.0) are.2 fronts

  -- ---- beginnings

  first_at : (newest : Option KeptAs) (q : PollState) → IsAt P F q (first_stage newest q.next)
  first_at (Some kept) q = tt
  first_at None q = by_one (q.next == 1)
    where
      by_one : (c : Bool) → IsAt P F q (if c then Oldest Finds else Prior)
      by_one true = tt
      by_one false = tt

  pub begins_standing : (log device : Id) (many : ℕ) (told : ToldAs) →
      ((at : StandingAs) → IsBefore at.newest at.next → IsStanding P F (joining log device many at told))
      × ((begins : Option ℕ) (word : ToldAs) → IsStanding P F (starting log device many begins word told))
  begins_standing log device many told =
      (λ at known. (known, first_at at.newest (joining log device many at told)), λ begins word. (tt, (refl, refl, refl, refl)))

-- ---- whichever number a gap ends at

any_at : (p : PollState) (more : Bool) (stage : Stage) (reply : Reply) → IsClearAt Whichever p more stage reply
any_at p more Joins reply = tt
any_at p more Prior reply = tt
any_at p more Ahead reply = tt
any_at p more Again reply = tt
any_at p more Each reply = tt
any_at p more ByNumber reply = tt
any_at p more (Oldest aim) reply = tt
any_at p more (Counts aim) reply = tt
any_at p more (UpTo aim) reply = λ none. tt
any_at p more (Back aim) reply = λ bare. tt
any_at p more Revision reply = tt
any_at p more Restart reply = tt

any_reply : (p : PollState) (reply : Option Reply) → Clears Whichever p reply
any_reply p None = tt
any_reply p (Some reply) = any_at p (more_of p reply) p.stage reply

pub any_answer : (P : Numbered → Type 0) (p : PollState) (answer : Answer) → AnswersFront P Whichever p answer
unfolding AnswersFront
any_answer P p (Replied datagram) = any_reply p (reply_in p datagram)
any_answer P p (Counted count) = tt
any_answer P p (Revised revision) = tt
any_answer P p (Restarted restart moment) = tt

pub whole_epochs : (P : Numbered → Type 0) (p : PollState) (e : Epoch) (answers : List Answer) → IsStanding P Whichever p →
    Covers P e.first e.items p.next → AreAnswers P p answers →
    Covers P (epoch_after_all e p answers).first (epoch_after_all e p answers).items (after_all p answers).next
whole_epochs P p e answers is covers are = all_answers P Whichever tt p e answers is covers are (any_answer P)
