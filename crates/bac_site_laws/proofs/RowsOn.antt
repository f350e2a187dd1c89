-- The rows of a log's poll go on, one turn after the other.
use Rattle.std.proofs.Common.{◌≡◌, ◌≤◌, ℕ, ◌==◌, ◌&&◌, nat_le, Bool, true, false, if◌then◌else◌, Option, None, Some}
use Rattle.std.proofs.Common.{List, [], ◌∷◌, length, refl, subst, arith}
use Rattle.std.proofs.lemmas.Bool.{leb-true}
use Rattle.bac_log.specs.declared.entry.Entry.{Entry}
use Rattle.bac_link.specs.Heard.{AckParameters, heard_in}
use Rattle.bac_link.specs.Ordinals.{is_number, number_after}
use Rattle.bac_walk.specs.Walks.{Ask, Bring, End, NextAct, Refuse, asks_oldest_now, fits, is_past, verdict, with_numbers}
use Rattle.bac_walk.specs.Place.{WalkPlace}
use Rattle.bac_walk.specs.declared.batch.Numbered.{Numbered}
use Rattle.bac_poll.specs.Poll.{ack_in, are_asked, has_last, has_more, more_of, reply_from, reply_in, reply_of}
use Rattle.bac_poll.specs.State.{PollState, Reply}
use Rattle.bac_poll.specs.Turns.{Turned, first_number}
use Rattle.bac_poll_steps.specs.declared.stage.Aim.{Aim}
use Rattle.bac_poll_steps.specs.declared.stage.Aim.TheVariants.{Finds, Renews, Starts}
use Rattle.bac_poll_steps.specs.declared.stage.Stage.{Stage}
use Rattle.bac_poll_steps.specs.declared.stage.Stage.TheVariants.{Joins, Prior, Ahead, Again, Each, Oldest, ByNumber}
use Rattle.bac_poll_steps.specs.declared.stage.Stage.TheVariants.{Counts, UpTo, Back, Revision, Restart}
use Rattle.bac_poll_laws.specs.Laws.{Clears, Counted, EachShownOnce, HoldsOfEach, IsAimed, IsAt, IsClearAt}
use Rattle.bac_poll_laws.specs.Laws.{IsRun, IsStanding, Replied, Restarted, Revised, ShowsOnly, Whichever}
use Rattle.bac_device_poller.specs.Puts.{Puts}
use Rattle.bac_site_laws.specs.Rows.{GoOn, IsNumbered, Stand, number_at}
use Rattle.bac_site_laws.specs.Steps.{AreAsked, AreSteps, Ended, Fewer, IsAskedBy, IsStep, Step, Took, after_step}
use Rattle.bac_site_laws.specs.Steps.{put_of, rows_by}
use Rattle.bac_site_laws.proofs.Front.{Fine, HasFirst, IsOne}
use Rattle.bac_site_laws.proofs.Fine.{HasFirstOf, IsReady, count_fine, end_fine, heard_fine, quiet}
use Rattle.bac_site_laws.proofs.Fine.{restarted_fine, revised_fine}
use Rattle.bac_site_laws.proofs.Standing.{one_step}
use Rattle.bac_site_laws.proofs.TurnRows.{go_both, turn_on}

both_of : (b c : Bool) → (b && c) ≡ true → (b ≡ true) × (c ≡ true)
both_of true true is = (refl, refl)
both_of true false is = absurd (cc)
both_of false c is = absurd (cc)

module _ (P : Numbered → Type 0) (F : ℕ → Type 0) (number : (h : Numbered) → P h → (1 ≤ h.number) × (h.number ≤ 4294967295)) where
  first_of : (n : ℕ) (rs : List Numbered) → IsRun P n rs → HasFirst rs
  first_of n [] run = tt
  first_of n (r ∷ rs) run = number r run.1

  one_at : (p : PollState) (aim : Aim) → IsAimed p aim → IsOne p.next aim
  one_at p Finds aimed = tt
  one_at p Renews aimed = tt
  one_at p Starts aimed = aimed.0

  ready : (p : PollState) (stage : Stage) → IsAt P F p stage → IsReady p.next stage p.held
  ready p Joins is = tt
  ready p Prior is = tt
  ready p Ahead is = tt
  ready p Again is = tt
  ready p Each is = tt
  ready p ByNumber is = tt
  ready p (Oldest aim) is = one_at p aim is
  ready p (UpTo aim) is = one_at p aim is
  ready p (Counts aim) is = one_at p aim is
  ready p (Back aim) is = (one_at p aim is.0, first_of (first_number p.held) p.held is.1)
  ready p Revision is = first_of (first_number p.held) p.held is.0
  ready p Restart is = first_of (first_number p.held) p.held is.0

  shown_first : (n : ℕ) (o : Option Reply) → ShowsOnly P o → HasFirstOf n o
  shown_first n None shows = tt
  shown_first n (Some reply) shows = by reply.records shows
    where
      by : (rs : List Numbered) → HoldsOfEach P rs → HasFirst rs
      by [] all = tt
      by (r ∷ rs) all = number r all.0

  held_first : (p : PollState) (stage : Stage) → p.stage ≡ stage → IsAt P F p p.stage → IsReady p.next stage p.held
  held_first p stage is at = let X : Stage → Type 0 = λ s. IsReady p.next s p.held in subst X is (ready p p.stage at)

  step_fine : (p : PollState) (step : Step) → IsStanding P F p → IsStep P F p step → Fine p.next (after_step p step)
  step_fine p (Took (Replied datagram)) stands is =
      heard_fine p.next p (reply_in p datagram) (ready p p.stage stands.1) (shown_first p.next (reply_in p datagram) is.1.0)
  step_fine p (Took (Counted count)) stands is = count_fine p.next p p.stage count (ready p p.stage stands.1)
  step_fine p (Took (Revised revision)) stands is =
      revised_fine p.next (record p { again = record p.again { revision = revision }; held = [] }) p.held p.word.restart (held_first p Revision is.0 stands.1)
  step_fine p (Took (Restarted restart moment)) stands is =
      restarted_fine p.next (record p { again = record p.again { restart = restart; moment = moment }; held = [] }) p.held (held_first p Restart is.0 stands.1)
  step_fine p (Ended why) stands is = end_fine p.next p why
  step_fine p Fewer stands is = quiet p.next _

  -- one turn, and the others behind it
  module _ (law : EachShownOnce) (one : F 1) (log : ℕ) where
    turn_rows : (epoch next : ℕ) (full : Bool) (p : PollState) (step : Step) → number_at full next ≡ p.next → IsStanding P F p → IsStep P F p step →
        let s : Puts = put_of log epoch full (after_step p step) in
        (u : Stand) × GoOn P F log (record { epoch = epoch; next = next }) s.puts u
        × (s.epoch ≡ u.epoch) × (number_at s.full u.next ≡ (after_step p step).poll.next)
    turn_rows epoch next full p step there stands is =
        turn_on P F log (record { epoch = epoch; next = next }) number epoch full p.next (after_step p step) refl there (step_fine p step stands is)
        (one_step P F law one p step stands is).0

    pub rows_on : (epoch next : ℕ) (full : Bool) (p : PollState) (steps : List Step) → number_at full next ≡ p.next → IsStanding P F p → AreSteps P F p steps →
        (t : Stand) × GoOn P F log (record { epoch = epoch; next = next }) (rows_by log epoch full p steps) t
    rows_on epoch next full p [] there stands are = (record { epoch = epoch; next = next }, refl)
    rows_on epoch next full p (step ∷ []) there stands are =
        let a = turn_rows epoch next full p step there stands are in
        (a.0, go_both P F log (record { epoch = epoch; next = next }) (put_of log epoch full (after_step p step)).puts a.0 [] a.0 a.1 refl)
    rows_on epoch next full p (step ∷ second ∷ steps) there stands are =
        let a = turn_rows epoch next full p step there stands are.0 in
        let t : Turned = after_step p step in
        let s : Puts = put_of log epoch full t in
        let u : Stand = a.0 in
        let b = rows_on s.epoch u.next s.full t.poll (second ∷ steps) a.3 ((one_step P F law one p step stands are.0).1 are.1) are.2 in
        let X : ℕ → Type 0 = λ e. GoOn P F log (record { epoch = e; next = u.next }) (rows_by log s.epoch s.full t.poll (second ∷ steps)) b.0 in
        (b.0, go_both P F log (record { epoch = epoch; next = next }) s.puts u _ b.0 a.1 (subst X a.2 b.1))

-- ---- whatever is answered

numbered_from : (n : ℕ) (es : List Entry) → (1 ≤ n) × (n ≤ 4294967295) → HoldsOfEach IsNumbered (with_numbers n es)
numbered_from n [] is = tt
numbered_from n (e ∷ es) is = (is, numbered_from (number_after n 1) es (omega arith, omega arith))

numbered_if : (b : Bool) (first : ℕ) (es : List Entry) (last more : Bool) → (1 ≤ first) × (first ≤ 4294967295) →
    ShowsOnly IsNumbered (if b then Some (record { records = with_numbers first es; last = last; more = more }) else None)
numbered_if true first es last more is = numbered_from first es is
numbered_if false first es last more is = tt

-- what is brought begins at a number
BringsOne : NextAct → Type 0
BringsOne (Bring first) = (1 ≤ first) × (first ≤ 4294967295)
BringsOne Ask = Unit {0}
BringsOne End = Unit {0}
BringsOne Refuse = Unit {0}

is_one : (n : ℕ) → is_number n ≡ true → (1 ≤ n) × (n ≤ 4294967295)
is_one n is = let b = both_of (nat_le 1 n) (nat_le n 4294967295) is in (leb-true 1 n b.0, leb-true n 4294967295 b.1)

act_one : (w : WalkPlace) (o : Option ℕ) (count : ℕ) (es : List Entry) → BringsOne (verdict w o count es)
unfolding BringsOne
act_one w o count [] = by (asks_oldest_now w)
  where
    by : (b : Bool) → BringsOne (if b then End else Ask)
    by true = tt
    by false = tt
act_one w None count (e ∷ es) = tt
act_one w (Some first) count (e ∷ es) = by (is_past w first) ((count == length (e ∷ es)) && fits w first (length (e ∷ es))) refl
  where
    fit : fits w first (length (e ∷ es)) ≡ true → (1 ≤ first) × (first ≤ 4294967295)
    fit is =
        is_one first (both_of (is_number first) _ (both_of (nat_le (length (e ∷ es)) w.count) _ is).1).0

    by : (b c : Bool) → ((count == length (e ∷ es)) && fits w first (length (e ∷ es))) ≡ c → BringsOne (if b then End else (if c then Bring first else Refuse))
    by true c is = tt
    by false false is = tt
    by false true is = fit (both_of (count == length (e ∷ es)) _ is).1

shows_numbers : (p : PollState) (act : NextAct) (es : List Entry) (last more : Bool) → BringsOne act → ShowsOnly IsNumbered (reply_of p act es last more)
unfolding BringsOne
shows_numbers p Refuse es last more is = tt
shows_numbers p Ask es last more is = tt
shows_numbers p End es last more is = tt
shows_numbers p (Bring first) es last more is =
    numbered_if (are_asked p p.stage (first_number (with_numbers first es)) (length (with_numbers first es))) first es last more is

heard_numbers : (p : PollState) (o : Option AckParameters) (last more : Bool) → ShowsOnly IsNumbered (reply_from p o last more)
heard_numbers p None last more = tt
heard_numbers p (Some h) last more =
    shows_numbers p (verdict p.walk h.first h.count h.entries) h.entries last more (act_one p.walk h.first h.count h.entries)

any_at : (p : PollState) (more : Bool) (stage : Stage) (reply : Reply) → IsClearAt Whichever p more stage reply
any_at p more Joins reply = tt
any_at p more Prior reply = tt
any_at p more Ahead reply = tt
any_at p more Again reply = tt
any_at p more Each reply = tt
any_at p more ByNumber reply = tt
any_at p more (Oldest aim) reply = tt
any_at p more (Counts aim) reply = tt
any_at p more (UpTo aim) reply = λ none. tt
any_at p more (Back aim) reply = λ bare. tt
any_at p more Revision reply = tt
any_at p more Restart reply = tt

any_reply : (p : PollState) (o : Option Reply) → Clears Whichever p o
any_reply p None = tt
any_reply p (Some reply) = any_at p (more_of p reply) p.stage reply

any_step : (p : PollState) (step : Step) → IsAskedBy p step → IsStep IsNumbered Whichever p step
any_step p (Took (Replied datagram)) is =
    (tt, (heard_numbers p (heard_in p.walk.log datagram) (has_last (ack_in datagram)) (has_more (ack_in datagram)), any_reply p (reply_in p datagram)))
any_step p (Took (Counted count)) is = (is, tt)
any_step p (Took (Revised revision)) is = (is, tt)
any_step p (Took (Restarted restart moment)) is = (is, tt)
any_step p (Ended why) is = tt
any_step p Fewer is = tt

pub any_steps : (p : PollState) (steps : List Step) → AreAsked p steps → AreSteps IsNumbered Whichever p steps
any_steps p [] are = tt
any_steps p (step ∷ []) are = any_step p step are
any_steps p (step ∷ next ∷ steps) are = (any_step p step are.0, are.1, any_steps (after_step p step).poll (next ∷ steps) are.2)

pub numbered : (h : Numbered) → IsNumbered h → (1 ≤ h.number) × (h.number ≤ 4294967295)
numbered h is = is
