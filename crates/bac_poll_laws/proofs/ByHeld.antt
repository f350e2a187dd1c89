-- How many questions a poll asks at most by the records that it keeps, and those that the log held.
use Rattle.std.proofs.Common.{arith, ◌≡◌, ℕ, ◌+◌, ◌*◌, ◌-◌, ◌≤◌, ◌<◌, ◌==◌, Bool, true, false, if◌then◌else◌, Option}
use Rattle.std.proofs.Common.{None, Some, List, [], ◌∷◌, length, refl, sym, ap, subst, ◌∙◌, ◌⊎◌, inl, inr}
use Rattle.std.proofs.Common.{mul-le-mul_right}
use Rattle.bac_link.specs.Delivery.{History, Moment}
use Rattle.bac_walk.specs.declared.batch.Numbered.{Numbered}
use Rattle.bac_poll.specs.Poll.{first_stage, joining, reply_in, starting}
use Rattle.bac_poll.specs.State.{KeptAs, PollState, Reply}
use Rattle.bac_poll.specs.Turns.{Turned, asks, first_number, number_before}
use Rattle.bac_poll_steps.specs.declared.stage.Aim.{Aim}
use Rattle.bac_poll_steps.specs.declared.stage.Aim.TheVariants.{Finds, Renews}
use Rattle.bac_poll_steps.specs.declared.stage.Stage.{Stage}
use Rattle.bac_poll_steps.specs.declared.stage.Stage.TheVariants as stage
use Rattle.bac_poll_laws.specs.Backwards.{IsLoggedIn}
use Rattle.bac_poll_laws.specs.Bounds.{AnswerIt, AreBounded, WhicheverRecord, back_one, count_of, kept_one, lost_one}
use Rattle.bac_poll_laws.specs.ByHeld.{AreFew, QuestionsByHeld, ShowHolding, ShowsHolding}
use Rattle.bac_poll_laws.specs.Delivers.{Given, after_given, asking_less}
use Rattle.bac_poll_laws.specs.Delivers.{WasHeld}
use Rattle.bac_poll_laws.specs.Held.{kept_by}
use Rattle.bac_poll_laws.specs.Laws.{Answer, Answers, Counted, HasSome, HoldsOfEach, IsAt, IsRun, IsStanding, Replied}
use Rattle.bac_poll_laws.specs.Laws.{Restarted, Revised, ShowsOnly, Whichever}
use Rattle.bac_poll_laws.specs.Questions.{one_if_kept}
use Rattle.bac_poll_laws.proofs.Backs.{SayLogged, all_found, left_some, one_found, one_older, one_stands}
use Rattle.bac_poll_laws.proofs.Bounds.{Inv, first_inv, one_back, one_paid, questions_bounded, start_inv, step_inv}
use Rattle.bac_poll_laws.proofs.ByRecords.{any_reply, kept_count}
use Rattle.bac_poll_laws.proofs.Delivered.{shows_of}
use Rattle.bac_poll_laws.proofs.Hours.{hours, hours_low}
use Rattle.bac_poll_laws.proofs.Lefts.{Refers, each_one, hour_one, left, left_at, left_back}
use Rattle.bac_poll_laws.proofs.Older.{AtBack, BackAt, Below, Left}
use Rattle.bac_poll_laws.proofs.Once.{begins_standing}
use Rattle.bac_poll_laws.proofs.Ordered.{IsOf}
use Rattle.bac_poll_laws.proofs.Runs.{adds_once, adds_same, goes_back, runs, runs_anew, runs_low, runs_start}
use Rattle.bac_poll_laws.proofs.Runs.{stays_often}

-- a stage is for a question backwards, or not
Kind : Stage → Type 0
Kind s = ((aim : Aim) × (s ≡ stage.Back aim)) ⊎ ((t : Turned) → back_one s t ≡ 0)

kind : (s : Stage) → Kind s
unfolding Kind
kind stage.Joins = inr (λ t. refl)
kind stage.Prior = inr (λ t. refl)
kind stage.Ahead = inr (λ t. refl)
kind stage.Again = inr (λ t. refl)
kind stage.Each = inr (λ t. refl)
kind stage.ByNumber = inr (λ t. refl)
kind (stage.Oldest aim) = inr (λ t. refl)
kind (stage.Counts aim) = inr (λ t. refl)
kind (stage.UpTo aim) = inr (λ t. refl)
kind (stage.Back aim) = inl (aim, refl)
kind stage.Revision = inr (λ t. refl)
kind stage.Restart = inr (λ t. refl)

module _ (H : History) (low high : ℕ) where
  -- ---- records that are shown

  -- a record is an entry of one of these ordinals
  abbrev LiesBelow : Numbered → Type 0
  LiesBelow held = (is : IsLoggedIn H low held) × (is.0 < high)

  below : (m : Moment) (k : ℕ) → m.newest < high → WasHeld (m ∷ []) k → k < high
  below m k under (inl holds) = omega (arith, holds.1, under)
  below m k under (inr never) = absurd never

  each_below : (m : Moment) → m.newest < high → (rs : List Numbered) → HoldsOfEach (IsOf H low (m ∷ [])) rs → HoldsOfEach LiesBelow rs
  each_below m under [] all = tt
  each_below m under (r ∷ rs) all = (((all.0.0, all.0.1, all.0.2, all.0.4, all.0.5), below m all.0.0 under all.0.3), each_below m under rs all.1)

  shows_below : (m : Moment) → m.newest < high → (reply : Option Reply) → ShowsOnly (IsOf H low (m ∷ [])) reply → ShowsOnly LiesBelow reply
  shows_below m under None shows = tt
  shows_below m under (Some reply) shows = each_below m under reply.records shows

  one_below : (m : Moment) (p : PollState) (answer : Answer) → low ≤ m.oldest → m.newest < high → high < low + 2147483647 → ShowsHolding m H p answer → Answers LiesBelow p answer
  one_below m p (Replied datagram) over under wide shows =
      shows_below m under (reply_in p datagram) (shows_of H low m [] (record { oldest = over; newest = omega (arith, under, wide) }) p datagram shows)
  one_below m p (Counted count) over under wide shows = tt
  one_below m p (Revised revision) over under wide shows = shows
  one_below m p (Restarted restart moment) over under wide shows = shows

  each_logged : (rs : List Numbered) → HoldsOfEach LiesBelow rs → HoldsOfEach (IsLoggedIn H low) rs
  each_logged [] all = tt
  each_logged (r ∷ rs) all = (all.0.0, each_logged rs all.1)

  shows_logged : (reply : Option Reply) → ShowsOnly LiesBelow reply → ShowsOnly (IsLoggedIn H low) reply
  shows_logged None shows = tt
  shows_logged (Some reply) shows = each_logged reply.records shows

  one_logged : (p : PollState) (answer : Answer) → Answers LiesBelow p answer → Answers (IsLoggedIn H low) p answer
  one_logged p (Replied datagram) shows = shows_logged (reply_in p datagram) shows
  one_logged p (Counted count) shows = tt
  one_logged p (Revised revision) shows = shows
  one_logged p (Restarted restart moment) shows = shows

  one_any : (p : PollState) (answer : Answer) → Answers LiesBelow p answer → Answers WhicheverRecord p answer
  one_any p (Replied datagram) shows = any_reply (reply_in p datagram)
  one_any p (Counted count) shows = tt
  one_any p (Revised revision) shows = shows
  one_any p (Restarted restart moment) shows = shows

  -- answers, all together
  say_logged : high < low + 2147483647 → (p : PollState) (given : List Given) → ShowHolding low high H p given → SayLogged H low p given
  say_logged wide p [] says = tt
  say_logged wide p (given ∷ others) says =
      let q = asking_less given.less p in
      (one_logged q given.answer (one_below given.moment q given.answer says.0 says.1 wide says.2), says.3, say_logged wide (after_given p given).poll others says.4)

  answer_it : high < low + 2147483647 → (p : PollState) (given : List Given) → ShowHolding low high H p given → AnswerIt p given
  answer_it wide p [] says = tt
  answer_it wide p (given ∷ others) says =
      let q = asking_less given.less p in
      (one_any q given.answer (one_below given.moment q given.answer says.0 says.1 wide says.2), says.3, answer_it wide (after_given p given).poll others says.4)

  -- ---- where a poll goes backwards

  -- what is known of it
  abbrev Known : PollState → Type 0
  Known p = Inv p × IsStanding (IsLoggedIn H low) Whichever p × IsStanding LiesBelow Whichever p

  -- so many questions backwards are left, if it goes backwards
  abbrev LeftOf : ℕ → PollState → Type 0
  LeftOf n p = (aim : Aim) → p.stage ≡ stage.Back aim → Left H low n p.held p.reference

  -- at most two for each record that the log held
  fresh : (p : PollState) (aim : Aim) → p.stage ≡ stage.Back aim → Known p → (n : ℕ) × Left H low n p.held p.reference × (n ≤ 2 * (high - low))
  fresh p aim at is =
      let held = subst (IsAt LiesBelow Whichever p) at is.2.1 in
      from p.held held.1 held.2 (subst (Refers p) at is.0.2)
    where
      from : (held : List Numbered) → IsRun LiesBelow (first_number held) held → HasSome held →
          (p.reference ≡ first_number held) ⊎ (p.reference ≡ number_before (first_number held)) → (n : ℕ) × Left H low n held p.reference × (n ≤ 2 * (high - low))
      from [] run some refers = absurd some
      from (r ∷ rs) run some (inl here) =
          let k = run.1.0 in
          (2 * (k.0 - low) + 2, (k.0, k.1, (k.3, omega (arith, k.4)), inl (here, refl)), omega (arith, run.1.1, k.3))
      from (r ∷ rs) run some (inr before) =
          let k = run.1.0 in
          (2 * (k.0 - low) + 1, (k.0, k.1, (k.3, omega (arith, k.4)), inr (before, refl)), omega (arith, run.1.1, k.3))

  -- ---- one answer

  -- how often a poll may go backwards yet
  abbrev often : PollState → ℕ
  often p = runs (left p) + 3 * hours p

  -- It goes on as often, or goes backwards once.
  abbrev OneMore : ℕ → PollState → Turned → Type 0
  OneMore n p t =
      (m : ℕ) × LeftOf m t.poll
      × (((back_one p.stage t + m ≤ n) × (often t.poll ≤ often p + 6 * one_if_kept t.records))
      ⊎ ((back_one p.stage t + m ≤ n + 2 * (high - low)) × (often t.poll + 1 ≤ often p + 6 * one_if_kept t.records)))

  -- a poll that doesn't go backwards has none of these questions left
  none_left : (p : PollState) → ((t : Turned) → back_one p.stage t ≡ 0) → LeftOf 0 p
  none_left p other = λ aim at. let never : 1 ≡ 0 = subst (λ (s : Stage). back_one s (asks p) ≡ 0) at (other (asks p)) in let none : ⊥ = omega (arith, never) in absurd none

  -- the question is paid, and it isn't begun again
  abbrev Pays : PollState → Turned → Type 0
  Pays p t =
      (1 + left t.poll ≤ left p + (back_one p.stage t + 3 * lost_one p.stage t + 8 * one_if_kept t.records + 9 * hour_one p.stage t))
      × (hour_one p.stage t + hours t.poll ≤ hours p + one_if_kept t.records) × (lost_one p.stage t ≡ 0)

  stays : (p : PollState) (t : Turned) → Pays p t → often t.poll ≤ often p + 6 * one_if_kept t.records
  stays p t pays =
      stays_often (left p) (left t.poll) (back_one p.stage t) (lost_one p.stage t) (one_if_kept t.records) (hour_one p.stage t) (hours p) (hours t.poll) pays.0 pays.1 (one_back p.stage t) pays.2

  left_there : (p : PollState) (aim : Aim) → p.stage ≡ stage.Back aim → left p ≡ left_back p.alone aim
  left_there p aim at = ap (λ (s : Stage). left_at p.alone (length p.held) s) at

  -- where it goes backwards no known record is asked for alone
  no_hour : (s : Stage) (t : Turned) (aim : Aim) → t.poll.stage ≡ stage.Back aim → hour_one s t ≡ 0
  no_hour s t aim at = subst (λ (x : Stage). each_one x - each_one s ≡ 0) (sym at) (omega arith)

  begins : (p : PollState) (t : Turned) (aim : Aim) → back_one p.stage t ≡ 0 → t.poll.stage ≡ stage.Back aim → Pays p t → often t.poll + 1 ≤ often p + 6 * one_if_kept t.records
  begins p t aim none at pays =
      let is = left_there t.poll aim at in
      subst (λ (l : ℕ). runs l + 3 * hours t.poll + 1 ≤ often p + 6 * one_if_kept t.records) (sym is)
      (goes_back (left p) t.poll.alone aim (lost_one p.stage t) (one_if_kept t.records) (hour_one p.stage t) (hours p) (hours t.poll) (omega (arith, pays.0, is, none)) pays.1 pays.2
      (no_hour p.stage t aim at))

  from_other : (n : ℕ) (p : PollState) (t : Turned) → Known t.poll → Pays p t → back_one p.stage t ≡ 0 → Kind t.poll.stage → OneMore n p t
  unfolding Kind
  from_other n p t is pays none (inl back) =
      let f = fresh t.poll back.0 back.1 is in
      (f.0, (λ aim at. f.1), inr (omega (arith, none, f.2), begins p t back.0 none back.1 pays))
  from_other n p t is pays none (inr other) = (0, none_left t.poll other, inl (omega (arith, none), stays p t pays))

  from_back : (n : ℕ) (p : PollState) (t : Turned) (c : ℕ) (aim : Aim) → p.stage ≡ stage.Back aim → 1 ≤ n → Known t.poll → Pays p t →
      AtBack (Below H low n) c aim t.anew t.poll t.poll.stage → Kind t.poll.stage → OneMore n p t
  unfolding Kind
  from_back n p t c aim at one is pays steps (inr other) = let most = one_back p.stage t in (0, none_left t.poll other, inl (omega (arith, one, most), stays p t pays))
  from_back n p t c aim at one is pays steps (inl back) = by t.anew (subst (AtBack (Below H low n) c aim t.anew t.poll) back.1 steps)
    where
      by : (anew : Bool) → BackAt (Below H low n) c aim anew t.poll back.0 → OneMore n p t
      by false older =
          let most = one_back p.stage t in
          let m = older.0 in
          (m.0, (λ other there. m.2), inl (omega (arith, most, m.1), stays p t pays))
      by true began =
          let most = one_back p.stage t in
          let f = fresh t.poll back.0 back.1 is in
          let now : runs (left t.poll) ≡ runs (left_back t.poll.alone Renews) = ap runs (left_there t.poll back.0 back.1 ∙ ap (λ (a : Aim). left_back t.poll.alone a) began.0) in
          let was : runs (left p) ≡ runs (left_back p.alone Finds) = ap runs (left_there p aim at ∙ ap (λ (a : Aim). left_back p.alone a) began.1) in
          let less = runs_anew p.alone t.poll.alone in
          let spent = pays.1 in
          (f.0, (λ other there. f.1), inr (omega (arith, most, one, f.2), omega (arith, now, was, less, spent)))

  stays_known : (p : PollState) (given : Given) → Known p → Answers LiesBelow (asking_less given.less p) given.answer → (after_given p given).end ≡ None → Known (after_given p given).poll
  stays_known p given is shows going =
      let q = asking_less given.less p in (
        step_inv p given is.0 (one_any q given.answer shows) going,
        one_stands H low (IsLoggedIn H low) p given is.1 (one_logged q given.answer shows) going,
        one_stands H low LiesBelow p given is.2 shows going,
      )

  one_more : (n : ℕ) (p : PollState) (given : Given) → 0 < low → Known p → LeftOf n p → Answers LiesBelow (asking_less given.less p) given.answer → (after_given p given).end ≡ None →
      OneMore n p (after_given p given)
  unfolding Kind
  one_more n p given some is remain shows going = by (kind p.stage)
    where
      pays : Pays p (after_given p given)
      pays =
          let q = asking_less given.less p in
          let paid = one_paid p given is.0 (one_any q given.answer shows) going in
          (paid.0, paid.1, one_found H low p given p.stage refl is.1 (one_logged q given.answer shows))

      by : Kind p.stage → OneMore n p (after_given p given)
      by (inr other) = from_other n p (after_given p given) (stays_known p given is shows going) pays (other (after_given p given)) (kind (after_given p given).poll.stage)
      by (inl back) =
          let q = asking_less given.less p in
          let here = remain back.0 back.1 in
          let steps = one_older H low n p given back.0 some back.1 is.1 here is.0.3 (one_logged q given.answer shows) going in
          from_back n p (after_given p given) q.walk.count back.0 back.1 (left_some H low n p.held p.reference here) (stays_known p given is shows going) pays steps (kind (after_given p given).poll.stage)

  -- ---- one answer after the other

  last_left : (n : ℕ) (p : PollState) (t : Turned) → LeftOf n p → Kind p.stage → back_one p.stage t ≤ n
  unfolding Kind
  last_left n p t remain (inl back) = let one = left_some H low n p.held p.reference (remain back.0 back.1) in let most = one_back p.stage t in omega (arith, one, most)
  last_left n p t remain (inr other) = let none = other t in omega (arith, none)

  last_sum : (b n x : ℕ) → b ≤ n → b + 0 ≤ n + x
  last_sum b n x low = omega (arith, low)

  adds : (n : ℕ) (p : PollState) (t : Turned) (later kept : ℕ) (one : OneMore n p t) → later ≤ one.0 + (often t.poll + 6 * kept) * (2 * (high - low)) →
      back_one p.stage t + later ≤ n + (often p + 6 * (one_if_kept t.records + kept)) * (2 * (high - low))
  adds n p t later kept (m, remain, inl same) rest = adds_same (back_one p.stage t) n m (often t.poll) (often p) (one_if_kept t.records) kept (2 * (high - low)) later same.0 same.1 rest
  adds n p t later kept (m, remain, inr once) rest = adds_once (back_one p.stage t) n m (often t.poll) (often p) (one_if_kept t.records) kept (2 * (high - low)) later once.0 once.1 rest

  all_back : (n : ℕ) (p : PollState) (given : List Given) → 0 < low → high < low + 2147483647 → Known p → LeftOf n p → ShowHolding low high H p given →
      count_of back_one p given ≤ n + (often p + 6 * count_of kept_one p given) * (2 * (high - low))
  all_back n p [] some wide is remain says = last_sum 0 n ((often p + 6 * 0) * (2 * (high - low))) (omega arith)
  all_back n p (given ∷ []) some wide is remain says =
      let t = after_given p given in
      last_sum (back_one p.stage t) n ((often p + 6 * (one_if_kept t.records + 0)) * (2 * (high - low))) (last_left n p t remain (kind p.stage))
  all_back n p (given ∷ next ∷ rest) some wide is remain says =
      let q = asking_less given.less p in
      let t = after_given p given in
      let shows = one_below given.moment q given.answer says.0 says.1 wide says.2 in
      let one = one_more n p given some is remain shows says.3 in
      let others = all_back one.0 t.poll (next ∷ rest) some wide (stays_known p given is shows says.3) one.1 says.4 in
      adds n p t (count_of back_one t.poll (next ∷ rest)) (count_of kept_one t.poll (next ∷ rest)) one others

  -- ---- all of it

  few_of : (many most : ℕ) (p : PollState) (given : List Given) → 0 < low → high < low + 2147483647 → Known p → LeftOf 0 p → AreBounded many p given → often p ≤ most →
      ShowHolding low high H p given → AreFew many most (high - low) p given
  few_of many most p given some wide is remain bound low_often says =
      let back = all_back 0 p given some wide is remain says in
      let kept = kept_count p given in
      let never = all_found H low p given is.1 (say_logged wide p given says) in
      let more = mul-le-mul_right {m = often p + 6 * count_of kept_one p given} {n = most + 6 * length (kept_by p given)} (2 * (high - low)) (omega (arith, low_often, kept)) in
      sums (length given) many (count_of back_one p given) (count_of lost_one p given) (count_of kept_one p given) (length (kept_by p given)) _ _ bound.0 back more kept never
    where
      sums : (l m b x k r now all : ℕ) → l ≤ m + b + 3 * x + 17 * k → b ≤ 0 + now → now ≤ all → k ≤ r → x ≡ 0 → (l ≤ m + 17 * r + all) × (b ≤ all)
      sums l m b x k r now all bound back more kept never = (omega (arith, bound, back, more, kept, never), omega (arith, back, more))

first_kind : (newest : Option KeptAs) (next : ℕ) (t : Turned) → back_one (first_stage newest next) t ≡ 0
first_kind (Some kept) next t = refl
first_kind None next t = by (next == 1)
  where
    by : (c : Bool) → back_one (if c then stage.Oldest Finds else stage.Prior) t ≡ 0
    by true = refl
    by false = refl

pub by_held : QuestionsByHeld
by_held H low high log device many told given some wide few = (
  λ at row says.
      let p : PollState = joining log device many at told in
      let inv = first_inv log device many told at few row in
      let logged = (begins_standing (IsLoggedIn H low) Whichever log device many told).0 at row.0 in
      let under = (begins_standing (LiesBelow H low high) Whichever log device many told).0 at row.0 in
      let once = hours_low p.stage p.earliest in
      let three = runs_low (left p) in
      few_of H low high 21 6 p given some wide (inv, logged, under) (none_left H low high p (first_kind at.newest at.next))
      ((questions_bounded log device many told given few).0 at row (answer_it H low high wide p given says)) (omega (arith, once, three)) says,
  λ counted word says.
      let p : PollState = starting log device many counted word told in
      let inv = start_inv log device many told counted word few in
      let logged = (begins_standing (IsLoggedIn H low) Whichever log device many told).1 counted word in
      let under = (begins_standing (LiesBelow H low high) Whichever log device many told).1 counted word in
      let two = runs_start in
      few_of H low high 3 2 p given some wide (inv, logged, under) (none_left H low high p (λ t. refl))
      ((questions_bounded log device many told given few).1 counted word (answer_it H low high wide p given says)) (omega (arith, two)) says,
)
