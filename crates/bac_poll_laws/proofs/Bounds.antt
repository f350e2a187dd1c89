-- How many questions a poll asks at most.
use Rattle.std.proofs.Common.{arith, ◌≡◌, ℕ, zero, suc, ◌+◌, ◌*◌, ◌-◌, ◌/◌, ◌≤◌, ◌<◌, ◌==◌, nat_le, nat_lt, Bool, true}
use Rattle.std.proofs.Common.{false, if◌then◌else◌, Option, None, Some, List, [], ◌∷◌, length, refl, sym, ap, subst}
use Rattle.std.proofs.Common.{◌∙◌}
use Rattle.std.proofs.lemmas.Bool.{leb-true, ltb-true}
use Rattle.std.specs.Option.{is_none}
use Rattle.bac_wire.specs.Primitive.{Id}
use Rattle.bac_link.specs.Heard.{AckParameters, heard_in}
use Rattle.bac_link.specs.Ordinals.{distance}
use Rattle.bac_log.specs.declared.entry.Entry.{Entry}
use Rattle.bac_walk.specs.Walks.{Ask, Bring, End, NextAct, Refuse, verdict, with_numbers}
use Rattle.bac_walk.specs.declared.batch.Numbered.{Numbered}
use Rattle.bac_poll.specs.Back.{back_by, went_back}
use Rattle.bac_poll.specs.Poll.{ack_in, after_heard, after_too_many, are_asked, at_stage, count_at, first_reference}
use Rattle.bac_poll.specs.Poll.{first_stage, has_last, has_more, joining, kept_number, more_of, reply_from, reply_in}
use Rattle.bac_poll.specs.Poll.{reply_of, starting}
use Rattle.bac_poll.specs.State.{KeptAs, PollState, Reply, StandingAs, ToldAs}
use Rattle.bac_poll.specs.Turns.{Turned, first_number, last_in, number_before}
use Rattle.bac_poll_steps.specs.declared.stage.Aim.{Aim}
use Rattle.bac_poll_steps.specs.declared.stage.Aim.TheVariants.{Finds, Renews, Starts}
use Rattle.bac_poll_steps.specs.declared.stage.Stage.{Stage}
use Rattle.bac_poll_steps.specs.declared.stage.Stage.TheVariants as stage
use Rattle.bac_poll_steps.specs.declared.stage.Stage.TheVariants.{Oldest}
use Rattle.bac_poll_laws.specs.Bounds.{AnswerIt, AreBounded, AreInRow, FollowsOn, QuestionsAreBounded, WhicheverRecord}
use Rattle.bac_poll_laws.specs.Bounds.{again_one, back_one, count_of, kept_one, lost_one}
use Rattle.bac_poll_laws.specs.Delivers.{Given, after_given, asking_less}
use Rattle.bac_poll_laws.specs.Laws.{Answer, Answers, Counted, HasSome, IsAimed, IsAt, IsBefore, IsRun, IsStanding}
use Rattle.bac_poll_laws.specs.Laws.{Replied, Restarted, Revised, Whichever, after_answer}
use Rattle.bac_poll_laws.specs.Questions.{one_if_kept}
use Rattle.bac_poll_laws.proofs.Delivered.{less_at, less_stage}
use Rattle.bac_poll_laws.proofs.Hours.{answer_spends, hours, hours_low, less_hours}
use Rattle.bac_poll_laws.proofs.Lefts.{Costs, Refers, Row, by_word_costs, each_cost, each_one, hour_one, left, left_at}
use Rattle.bac_poll_laws.proofs.Lefts.{left_back, restart_costs}
use Rattle.bac_poll_laws.proofs.Looks.{back_takes, by_number_costs, counted_costs, oldest_takes, renewed_costs}
use Rattle.bac_poll_laws.proofs.Looks.{starts_from_costs, up_to_takes}
use Rattle.bac_poll_laws.proofs.Once.{IsRunReply, aimed_so, any_answer, begins_standing, heard_run, one_answer}
use Rattle.bac_poll_laws.proofs.Takes.{again_costs, ahead_costs, each_costs, joins_costs, prior_costs}
use Rattle.bac_poll_laws.proofs.Wholes.{split}

-- ---- a reply that was asked for

-- what a reply has of records that were asked for by number lies near that
abbrev IsNear : PollState → Option Reply → Type 0
IsNear p None = Unit {0}
IsNear p (Some reply) =
    p.stage ≡ stage.Joins → HasSome reply.records → distance p.reference (first_number reply.records) + length reply.records ≤ p.walk.count

with_near : (p : PollState) (c : Bool) (rs : List Numbered) (last more : Bool) →
    (c ≡ true → p.stage ≡ stage.Joins → distance p.reference (first_number rs) + length rs ≤ p.walk.count) →
    IsNear p (if c then Some (record { records = rs; last = last; more = more }) else None)
with_near p true rs last more near = λ joins some. near refl joins
with_near p false rs last more near = tt

asked_near : (p : PollState) (first count : ℕ) → are_asked p p.stage first count ≡ true → p.stage ≡ stage.Joins → distance p.reference first + count ≤ p.walk.count
asked_near p first count asked joins = leb-true _ _ (subst (λ (s : Stage). are_asked p s first count ≡ true) joins asked)

act_near : (p : PollState) (act : NextAct) (es : List Entry) (last more : Bool) → IsNear p (reply_of p act es last more)
act_near p Refuse es last more = tt
act_near p Ask es last more = λ joins some. absurd some
act_near p End es last more = λ joins some. absurd some
act_near p (Bring first) es last more =
    let rs = with_numbers first es in
    with_near p (are_asked p p.stage (first_number rs) (length rs)) rs last more (asked_near p (first_number rs) (length rs))

heard_near : (p : PollState) (heard : Option AckParameters) (last more : Bool) → IsNear p (reply_from p heard last more)
heard_near p None last more = tt
heard_near p (Some h) last more = act_near p (verdict p.walk h.first h.count h.entries) h.entries last more

-- ---- what an answer costs

-- Of what is left of a poll at a stage the question is paid, with what is counted of the turn; and what is left of the
-- numbers that it may go back.
abbrev Paid : PollState → Stage → Turned → Type 0
Paid p s t =
    t.end ≡ None →
    (1 + left t.poll ≤ left_at p.alone (length p.held) s + (back_one s t + 3 * lost_one s t + 8 * one_if_kept t.records + 9 * hour_one s t))
    × Row t.poll × Refers t.poll t.poll.stage × (t.poll.walk ≡ p.walk) × ((2147483648 - t.poll.back) + back_one s t ≤ 2147483648 - p.back)

hour_nine : (s : Stage) → each_cost 9 s ≡ 9 * (each_one s - 0)
hour_nine stage.Joins = refl
hour_nine stage.Prior = refl
hour_nine stage.Ahead = refl
hour_nine stage.Again = refl
hour_nine stage.Each = refl
hour_nine stage.ByNumber = refl
hour_nine (stage.Oldest aim) = refl
hour_nine (stage.Counts aim) = refl
hour_nine (stage.UpTo aim) = refl
hour_nine (stage.Back aim) = refl
hour_nine stage.Revision = refl
hour_nine stage.Restart = refl

hour_none : (s : Stage) → each_cost 0 s ≡ 0
hour_none stage.Joins = refl
hour_none stage.Prior = refl
hour_none stage.Ahead = refl
hour_none stage.Again = refl
hour_none stage.Each = refl
hour_none stage.ByNumber = refl
hour_none (stage.Oldest aim) = refl
hour_none (stage.Counts aim) = refl
hour_none (stage.UpTo aim) = refl
hour_none (stage.Back aim) = refl
hour_none stage.Revision = refl
hour_none stage.Restart = refl

plain_sum : (n l k c h z x : ℕ) → 1 + l ≤ n + (8 * k + c) → c ≡ 9 * h → 1 + l ≤ n + (z + 3 * x + 8 * k + 9 * h)
plain_sum n l k c h z x costs nine = omega (arith, costs, nine)

-- at a stage that is for nothing backwards, nor for known records one by one
plain : (p : PollState) (s : Stage) (t : Turned) → back_one s t ≡ 0 → each_one s ≡ 0 → Costs 9 p.walk p.back (left_at p.alone (length p.held) s) t → Paid p s t
plain p s t none each costs = λ going.
    let all = costs going in
    let nine : each_cost 9 t.poll.stage ≡ 9 * hour_one s t = hour_nine t.poll.stage ∙ ap (λ (k : ℕ). 9 * (each_one t.poll.stage - k)) (sym each) in (
      plain_sum _ (left t.poll) (one_if_kept t.records) _ (hour_one s t) (back_one s t) (lost_one s t) all.0 nine,
      all.1,
      all.2,
      all.3.0,
      omega (arith, none, all.3.1),
    )

each_sum : (n l k c z x h : ℕ) → 1 + l ≤ n + (8 * k + c) → c ≡ 0 → 1 + l ≤ n + (z + 3 * x + 8 * k + 9 * h)
each_sum n l k c z x h costs none = omega (arith, costs, none)

-- at one that is
by_each : (p : PollState) (t : Turned) → Costs 0 p.walk p.back (left_at p.alone (length p.held) stage.Each) t → Paid p stage.Each t
by_each p t costs = λ going.
    let all = costs going in (
      each_sum _ (left t.poll) (one_if_kept t.records) _ (back_one stage.Each t) (lost_one stage.Each t) (hour_one stage.Each t) all.0 (hour_none t.poll.stage),
      all.1,
      all.2,
      all.3.0,
      omega (arith, all.3.1),
    )

back_sum : (n l o k c h x : ℕ) → 1 + l ≤ 1 + n + 3 * o + (8 * k + c) → c ≡ 9 * h → x ≡ 1 * o → 1 + l ≤ n + (1 + 3 * x + 8 * k + 9 * h)
back_sum n l o k c h x costs nine lost = omega (arith, costs, nine, lost)

-- at one that is for those before, from which it went back so far
by_back : (p : PollState) (aim : Aim) (back : ℕ) (t : Turned) → p.back < 2147483648 → p.back + 1 ≤ back →
    Costs 9 p.walk back (1 + left_back p.alone aim + 3 * again_one t.end t.anew t.poll.stage) t → Paid p (stage.Back aim) t
by_back p aim back t near went costs = λ going.
    let all = costs going in
    let nine : each_cost 9 t.poll.stage ≡ 9 * hour_one (stage.Back aim) t = hour_nine t.poll.stage in (
      back_sum (left_back p.alone aim) (left t.poll) (again_one t.end t.anew t.poll.stage) (one_if_kept t.records) _ (hour_one (stage.Back aim) t) (lost_one (stage.Back aim) t) all.0 nine refl,
      all.1,
      all.2,
      all.3.0,
      omega (arith, near, went, all.3.1),
    )

-- ---- by the stage

back_aimed : (p : PollState) (records : List Numbered) (aim : Aim) → IsAimed p aim → IsAimed (went_back p records) aim
back_aimed p records Finds aimed = tt
back_aimed p records Renews aimed = aimed
back_aimed p records Starts aimed = aimed

-- what is known of a poll: where it stands, and that the known records follow one another
abbrev pub Inv : PollState → Type 0
Inv p = IsStanding WhicheverRecord Whichever p × Row p × Refers p p.stage × (p.walk.count ≤ 100)

stage_paid : (p : PollState) (more : Bool) (s : Stage) (reply : Reply) → IsBefore p.newest p.next → IsAt WhicheverRecord Whichever p s → Row p → Refers p s →
    IsRun WhicheverRecord (first_number reply.records) reply.records →
    (s ≡ stage.Joins → HasSome reply.records → distance p.reference (first_number reply.records) + length reply.records ≤ 100) →
    Paid p s (at_stage (record p { more = more; held = [] }) s p.held reply)
stage_paid p more stage.Joins reply known at row refers run near =
    plain p stage.Joins (at_stage (record p { more = more; held = [] }) stage.Joins p.held reply) refl refl (joins_costs WhicheverRecord 9 p.walk p.back (record p { more = more; held = [] }) reply row refers (refl, refl) run (omega arith) (near refl))
stage_paid p more stage.Prior reply known at row refers run near =
    plain p stage.Prior (at_stage (record p { more = more; held = [] }) stage.Prior p.held reply) refl refl (prior_costs WhicheverRecord 9 p.walk p.back (record p { more = more; held = [] }) reply.records row (refl, refl))
stage_paid p more stage.Ahead reply known at row refers run near =
    plain p stage.Ahead (at_stage (record p { more = more; held = [] }) stage.Ahead p.held reply) refl refl (ahead_costs WhicheverRecord 9 p.walk p.back (record p { more = more; held = [] }) reply.records row (refl, refl))
stage_paid p more stage.Again reply known at row refers run near =
    plain p stage.Again (at_stage (record p { more = more; held = [] }) stage.Again p.held reply) refl refl
    (again_costs WhicheverRecord 9 p.walk p.back (record p { more = more; held = [] }) p.held (first_number reply.records) reply.records known at run row (refl, refl) (omega arith))
stage_paid p more stage.Each reply known at row refers run near =
    by_each p (at_stage (record p { more = more; held = [] }) stage.Each p.held reply) (each_costs WhicheverRecord 0 p.walk p.back (record p { more = more; held = [] }) p.held reply.records refers row (refl, refl))
stage_paid p more stage.ByNumber reply known at row refers run near =
    plain p stage.ByNumber (at_stage (record p { more = more; held = [] }) stage.ByNumber p.held reply) refl refl (by_number_costs WhicheverRecord 9 p.walk p.back (record p { more = more; held = [] }) p.held reply.records at.0 (refl, refl))
stage_paid p more (stage.Oldest aim) reply known at row refers run near =
    plain p (stage.Oldest aim) (at_stage (record p { more = more; held = [] }) (stage.Oldest aim) p.held reply) refl refl
    (oldest_takes WhicheverRecord 9 p.walk p.back (record p { more = more; held = [] }) aim reply row (refl, refl) (aimed_so WhicheverRecord Whichever p more aim at) run (omega arith))
stage_paid p more (stage.UpTo aim) reply known at row refers run near =
    plain p (stage.UpTo aim) (at_stage (record p { more = more; held = [] }) (stage.UpTo aim) p.held reply) refl refl
    (up_to_takes WhicheverRecord 9 p.walk p.back (record p { more = more; held = [] }) aim reply.records row (refl, refl) (aimed_so WhicheverRecord Whichever p more aim at) run (omega arith))
stage_paid p more (stage.Back aim) reply known at row refers run near =
    let q : PollState = record p { more = more; held = [] } in
    let r : PollState = went_back q reply.records in
    split WhicheverRecord Whichever (Paid p (stage.Back aim)) (nat_lt p.back 2147483648) _ _
    (λ less. by_back p aim r.back (back_by r aim p.held reply.records (last_in reply.records)) (ltb-true p.back 2147483648 less) (omega arith)
    (back_takes WhicheverRecord 9 p.walk r.back r aim p.held reply.records row (refl, refl) (back_aimed q reply.records aim (aimed_so WhicheverRecord Whichever p more aim at.0)) at.1 run (omega arith)))
    (λ far. λ going. absurd (cc))
stage_paid p more (stage.Counts aim) reply known at row refers run near = λ going. absurd (cc)
stage_paid p more stage.Revision reply known at row refers run near = λ going. absurd (cc)
stage_paid p more stage.Restart reply known at row refers run near = λ going. absurd (cc)

heard_paid : (p : PollState) (reply : Option Reply) → Inv p → IsRunReply WhicheverRecord Whichever reply → IsNear p reply → Paid p p.stage (after_heard p reply)
heard_paid p None is run near = λ going. absurd (cc)
heard_paid p (Some reply) is run near =
    stage_paid p (more_of p reply) p.stage reply is.0.0 is.0.1 is.1 is.2 run (λ joins some. let far = near joins some in omega (arith, far, is.3))

count_paid : (p : PollState) (s : Stage) (count : Option ℕ) → Row p → Paid p s (count_at p s count)
count_paid p (stage.Counts Finds) count row =
    plain p (stage.Counts Finds) (count_at p (stage.Counts Finds) count) refl refl (counted_costs WhicheverRecord 9 p.walk p.back (record p { more = false }) count row (refl, refl))
count_paid p (stage.Counts Renews) count row = plain p (stage.Counts Renews) (count_at p (stage.Counts Renews) count) refl refl (renewed_costs WhicheverRecord 9 p.walk p.back p count row (refl, refl))
count_paid p (stage.Counts Starts) count row = plain p (stage.Counts Starts) (count_at p (stage.Counts Starts) count) refl refl (starts_from_costs WhicheverRecord 9 p.walk p.back p count row (refl, refl))
count_paid p stage.Joins count row = λ going. absurd (cc)
count_paid p stage.Prior count row = λ going. absurd (cc)
count_paid p stage.Ahead count row = λ going. absurd (cc)
count_paid p stage.Again count row = λ going. absurd (cc)
count_paid p stage.Each count row = λ going. absurd (cc)
count_paid p stage.ByNumber count row = λ going. absurd (cc)
count_paid p (stage.Oldest aim) count row = λ going. absurd (cc)
count_paid p (stage.UpTo aim) count row = λ going. absurd (cc)
count_paid p (stage.Back aim) count row = λ going. absurd (cc)
count_paid p stage.Revision count row = λ going. absurd (cc)
count_paid p stage.Restart count row = λ going. absurd (cc)

answer_paid : (p : PollState) (answer : Answer) → Inv p → Answers WhicheverRecord p answer → Paid p p.stage (after_answer p answer)
answer_paid p (Replied datagram) is shows =
    let last = has_last (ack_in datagram) in
    let more = has_more (ack_in datagram) in
    let heard = heard_in p.walk.log datagram in
    heard_paid p (reply_in p datagram) is (heard_run WhicheverRecord Whichever p heard last more shows) (heard_near p heard last more)
answer_paid p (Counted count) is shows = count_paid p p.stage count is.1
answer_paid p (Revised revision) is at =
    let stands = subst (IsAt WhicheverRecord Whichever p) at is.0.1 in
    let q : PollState = record p { again = record p.again { revision = revision }; held = [] } in
    subst (λ (s : Stage). Paid p s (after_answer p (Revised revision))) (sym at)
    (plain p stage.Revision (after_answer p (Revised revision)) refl refl (restart_costs WhicheverRecord 9 p.walk p.back 2 q p.held p.word.restart is.1 stands.0 (refl, refl) (omega arith)))
answer_paid p (Restarted restart moment) is at =
    let stands = subst (IsAt WhicheverRecord Whichever p) at is.0.1 in
    let q : PollState = record p { again = record p.again { restart = restart; moment = moment }; held = [] } in
    subst (λ (s : Stage). Paid p s (after_answer p (Restarted restart moment))) (sym at)
    (plain p stage.Restart (after_answer p (Restarted restart moment)) refl refl (by_word_costs WhicheverRecord 9 p.walk p.back 1 q p.held stands.0 (refl, refl) (omega arith)))

-- ---- fewer records are asked for

less_refers : (p : PollState) (s : Stage) → Refers p s → Refers (after_too_many p) s
less_refers p stage.Joins is = is
less_refers p stage.Prior is = tt
less_refers p stage.Ahead is = tt
less_refers p stage.Again is = tt
less_refers p stage.Each is = is
less_refers p stage.ByNumber is = tt
less_refers p (stage.Oldest aim) is = tt
less_refers p (stage.Counts aim) is = tt
less_refers p (stage.UpTo aim) is = tt
less_refers p (stage.Back aim) is = is
less_refers p stage.Revision is = tt
less_refers p stage.Restart is = tt

pub half_low : (count : ℕ) (c : Bool) → count ≤ 100 → (if c then 1 else count / 2) ≤ 100
half_low count true low = omega arith
half_low count false low = omega (arith, low)

less_inv : (n : ℕ) (p : PollState) → Inv p → Inv (asking_less n p)
less_inv zero p is = is
less_inv (suc n) p is =
    less_inv n (after_too_many p)
    ((is.0.0, less_at WhicheverRecord Whichever p p.stage is.0.1), is.1, less_refers p p.stage is.2, half_low p.walk.count (nat_le p.walk.count 1) is.3)

less_left : (n : ℕ) (p : PollState) → left (asking_less n p) ≡ left p
less_left zero p = refl
less_left (suc n) p = less_left n (after_too_many p)

less_back : (n : ℕ) (p : PollState) → (asking_less n p).back ≡ p.back
less_back zero p = refl
less_back (suc n) p = less_back n (after_too_many p)

-- ---- one answer after the other

-- the last question is left
one_left : (a : Bool) (h : ℕ) (s : Stage) (t : Turned) → 1 ≤ left_at a h s + back_one s t
one_left true h stage.Joins t = omega arith
one_left false h stage.Joins t = omega arith
one_left true h stage.Prior t = omega arith
one_left false h stage.Prior t = omega arith
one_left true h stage.Ahead t = omega arith
one_left false h stage.Ahead t = omega arith
one_left true h stage.Again t = omega arith
one_left false h stage.Again t = omega arith
one_left a h stage.Each t = omega arith
one_left a h stage.ByNumber t = omega arith
one_left true h (stage.Oldest Finds) t = omega arith
one_left false h (stage.Oldest Finds) t = omega arith
one_left a h (stage.Oldest Renews) t = omega arith
one_left a h (stage.Oldest Starts) t = omega arith
one_left true h (stage.Counts Finds) t = omega arith
one_left false h (stage.Counts Finds) t = omega arith
one_left a h (stage.Counts Renews) t = omega arith
one_left a h (stage.Counts Starts) t = omega arith
one_left true h (stage.UpTo Finds) t = omega arith
one_left false h (stage.UpTo Finds) t = omega arith
one_left a h (stage.UpTo Renews) t = omega arith
one_left a h (stage.UpTo Starts) t = omega arith
one_left a h (stage.Back aim) t = omega arith
one_left a h stage.Revision t = omega arith
one_left a h stage.Restart t = omega arith

pub one_back : (s : Stage) (t : Turned) → back_one s t ≤ 1
one_back stage.Joins t = omega arith
one_back stage.Prior t = omega arith
one_back stage.Ahead t = omega arith
one_back stage.Again t = omega arith
one_back stage.Each t = omega arith
one_back stage.ByNumber t = omega arith
one_back (stage.Oldest aim) t = omega arith
one_back (stage.Counts aim) t = omega arith
one_back (stage.UpTo aim) t = omega arith
one_back (stage.Back aim) t = omega arith
one_back stage.Revision t = omega arith
one_back stage.Restart t = omega arith

-- all of it
abbrev Within : ℕ → ℕ → PollState → List Given → Type 0
Within n m p given =
    (length given ≤ n + count_of back_one p given + 3 * count_of lost_one p given + 17 * count_of kept_one p given)
    × (count_of back_one p given ≤ m)

pub step_inv : (p : PollState) (given : Given) → Inv p → Answers WhicheverRecord (asking_less given.less p) given.answer → (after_given p given).end ≡ None → Inv (after_given p given).poll
step_inv p given is shows going =
    let q = asking_less given.less p in
    let here = less_inv given.less p is in
    let paid = answer_paid q given.answer here shows going in
    let stands = (one_answer WhicheverRecord Whichever tt q given.answer here.0 shows (any_answer WhicheverRecord q given.answer)).1 going in
    (stands, paid.1, paid.2, subst (λ w. w.count ≤ 100) (sym paid.3) here.3)

last_within : (p : PollState) (given : Given) (others : List Given) → others ≡ [] → Within (left p + 9 * hours p) (2147483648 - p.back + 1) p (given ∷ others)
last_within p given [] none =
    let t = after_given p given in
    let one = one_left p.alone (length p.held) p.stage t in
    let back = one_back p.stage t in
    (omega (arith, one), omega (arith, back))
last_within p given (next ∷ rest) none = absurd (cc)

-- What one answer costs, and what it spends of what may be asked for alone.
pub one_paid : (p : PollState) (given : Given) → Inv p → Answers WhicheverRecord (asking_less given.less p) given.answer → (after_given p given).end ≡ None →
    (1 + left (after_given p given).poll
    ≤ left p
    + (back_one p.stage (after_given p given) + 3 * lost_one p.stage (after_given p given) + 8 * one_if_kept (after_given p given).records + 9 * hour_one p.stage (after_given p given)))
    × (hour_one p.stage (after_given p given) + hours (after_given p given).poll ≤ hours p + one_if_kept (after_given p given).records)
    × ((2147483648 - (after_given p given).poll.back) + back_one p.stage (after_given p given) ≤ 2147483648 - p.back)
one_paid p given is shows going =
    let q = asking_less given.less p in
    let t = after_given p given in
    let here = less_inv given.less p is in
    let spent : hour_one p.stage t + hours t.poll ≤ hours p + one_if_kept t.records =
    subst (λ (n : ℕ). hour_one p.stage t + hours t.poll ≤ n + one_if_kept t.records) (less_hours given.less p)
    (subst (λ (s : Stage). hour_one s t + hours t.poll ≤ hours q + one_if_kept t.records) (less_stage given.less p) (answer_spends q given.answer shows going)) in
    let paid = subst (λ (s : Stage). (1 + left t.poll ≤ left q + (back_one s t + 3 * lost_one s t + 8 * one_if_kept t.records + 9 * hour_one s t))
    × ((2147483648 - t.poll.back) + back_one s t ≤ 2147483648 - q.back)) (less_stage given.less p)
    (let all = answer_paid q given.answer here shows going in (all.0, all.4)) in
    let same = less_left given.less p in
    let went = less_back given.less p in
    (omega (arith, paid.0, same), spent, omega (arith, paid.1, went))

-- A question is paid of what is left, also of what may be asked for alone.
paid_with : (l n b x k h u v : ℕ) → 1 + l ≤ n + (b + 3 * x + 8 * k + 9 * h) → h + u ≤ v + k → 1 + (l + 9 * u) ≤ n + 9 * v + (b + 3 * x + 17 * k)
paid_with l n b x k h u v paid spent = omega (arith, paid, spent)

all_within : (p : PollState) (given : List Given) → Inv p → AnswerIt p given → Within (left p + 9 * hours p) (2147483648 - p.back + 1) p given
all_within p [] is answers = (omega arith, omega arith)
all_within p (given ∷ []) is answers = last_within p given [] refl
all_within p (given ∷ next ∷ rest) is answers =
    let t = after_given p given in
    let paid = one_paid p given is answers.0 answers.1 in
    let all_paid = paid_with (left t.poll) (left p) _ _ _ _ (hours t.poll) (hours p) paid.0 paid.1 in
    let others = all_within t.poll (next ∷ rest) (step_inv p given is answers.0 answers.1) answers.2 in
    (omega (arith, all_paid, others.0), omega (arith, paid.2, others.1))

-- ---- from where it begins

first_refers : (p : PollState) (at : StandingAs) → p.newest ≡ at.newest → p.alone ≡ is_none at.earlier → p.reference ≡ first_reference at → AreInRow at → Refers p (first_stage at.newest at.next)
first_refers p at newest alone reference row = by at.newest refl
  where
    from : (earlier earliest : Option KeptAs) (kept : KeptAs) → is_none earlier ≡ true → FollowsOn earlier earliest → kept_number earliest (kept_number earlier kept.number) ≡ kept.number
    from None None kept none follows = refl
    from None (Some t) kept none follows = absurd follows
    from (Some m) earliest kept none follows = absurd (cc)

    by_one : (c : Bool) → Refers p (if c then Oldest Finds else stage.Prior)
    by_one true = tt
    by_one false = tt

    by : (first : Option KeptAs) → at.newest ≡ first → Refers p (first_stage first at.next)
    by None is = by_one (at.next == 1)
    by (Some kept) is = λ asked one known.
        let same : one.number ≡ kept.number = let both : Some one ≡ Some kept = sym known ∙ newest ∙ is in ap (λ (o : Option KeptAs). kept_number o 0) both in
        let here : first_reference at ≡ kept.number =
        ap (λ (o : Option KeptAs). kept_number at.earliest (kept_number at.earlier (kept_number o (number_before at.next)))) is ∙ from at.earlier at.earliest kept (sym alone ∙ asked) row.2 in
        reference ∙ here ∙ sym same

first_left : (alone : Bool) (held : ℕ) (newest : Option KeptAs) (next : ℕ) → left_at alone held (first_stage newest next) ≤ 12
first_left true held (Some kept) next = omega arith
first_left false held (Some kept) next = omega arith
first_left alone held None next = by alone (next == 1)
  where
    by : (a c : Bool) → left_at a held (if c then Oldest Finds else stage.Prior) ≤ 12
    by true true = omega arith
    by true false = omega arith
    by false true = omega arith
    by false false = omega arith

-- what is known of a poll where it begins
pub first_inv : (log device : Id) (many : ℕ) (told : ToldAs) (at : StandingAs) → many ≤ 100 → AreInRow at → Inv (joining log device many at told)
first_inv log device many told at low row =
    ((begins_standing WhicheverRecord Whichever log device many told).0 at row.0, (row.1, row.2), first_refers (joining log device many at told) at refl refl refl row, low)

pub start_inv : (log device : Id) (many : ℕ) (told : ToldAs) (counted : Option ℕ) (word : ToldAs) → many ≤ 100 → Inv (starting log device many counted word told)
start_inv log device many told counted word low = ((begins_standing WhicheverRecord Whichever log device many told).1 counted word, (tt, tt), tt, low)

bounded : (n : ℕ) (p : PollState) (given : List Given) → Inv p → AnswerIt p given → left p + 9 * hours p ≤ n → p.back ≡ 0 → AreBounded n p given
bounded n p given is answers low none =
    let all = all_within p given is answers in
    (omega (arith, all.0, low), omega (arith, all.1, none))

pub questions_bounded : QuestionsAreBounded
questions_bounded log device many told given low = (
  λ at row answers.
      let p : PollState = joining log device many at told in
      let once = hours_low p.stage p.earliest in
      let most = first_left p.alone 0 at.newest at.next in
      bounded 21 p given (first_inv log device many told at low row) answers (omega (arith, once, most)) refl,
  λ counted word answers.
      let p : PollState = starting log device many counted word told in
      let no_more : hours p ≡ 0 = refl in
      bounded 3 p given (start_inv log device many told counted word low) answers (omega (arith, no_more)) refl,
)
