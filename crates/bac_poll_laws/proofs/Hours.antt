-- How often known records are asked for one by one: while three are known, and so once in the beginning and once for
-- each answer by which records are kept.
use Rattle.std.proofs.Common.{arith, ◌≡◌, ℕ, zero, suc, ◌+◌, ◌≤◌, ◌==◌, ◌&&◌, nat_lt, Bool, true, false, if◌then◌else◌}
use Rattle.std.proofs.Common.{Option, None, Some, List, [], ◌∷◌, ◌++◌, length, refl, sym, ap, subst}
use Rattle.bac_walk.specs.declared.batch.Numbered.{Numbered}
use Rattle.bac_poll.specs.Epochs.{another}
use Rattle.bac_poll.specs.Joins.{asks_each, each, each_all, each_by, each_means, each_next}
use Rattle.bac_poll.specs.Known.{means_in, number_in}
use Rattle.bac_poll.specs.Poll.{after_heard, after_too_many, at_stage, count_at, more_of, reply_in}
use Rattle.bac_poll.specs.State.{KeptAs, PollState, Reply}
use Rattle.bac_poll.specs.Turns.{Turned, first_in}
use Rattle.bac_known.specs.declared.known.Means.{Means}
use Rattle.bac_known.specs.declared.known.Means.TheVariants.{Shifted, Partly, Same, Unshown, Another}
use Rattle.bac_poll_steps.specs.declared.stage.Aim.TheVariants.{Finds, Renews, Starts}
use Rattle.bac_poll_steps.specs.declared.stage.Stage.{Stage}
use Rattle.bac_poll_steps.specs.declared.stage.Stage.TheVariants as stage
use Rattle.bac_poll_laws.specs.Delivers.{asking_less}
use Rattle.bac_poll_laws.specs.Laws.{Answer, Answers, Counted, Replied, Restarted, Revised, Whichever, after_answer}
use Rattle.bac_poll_laws.specs.Questions.{one_if_kept}
use Rattle.bac_poll_laws.specs.Bounds.{WhicheverRecord}
use Rattle.bac_poll_laws.proofs.Lefts.{each_one, hour_one}
use Rattle.bac_poll_laws.proofs.Wholes.{split}
use Rattle.bac_poll_laws.proofs.Quiet.{Quiet, again_from_quiet, ahead_quiet, back_quiet, by_count_quiet}
use Rattle.bac_poll_laws.proofs.Quiet.{by_number_quiet, by_word_quiet, joins_quiet, oldest_quiet, prior_quiet}
use Rattle.bac_poll_laws.proofs.Quiet.{renews_by_quiet, restart_quiet, starts_from_quiet, up_to_quiet}

-- ---- the known ones, one by one

-- one where three are known
abbrev pub three : Option KeptAs → ℕ
three None = 0
three (Some kept) = 1

-- Where three are known each of them may be asked for, unless that is done now: none of them is known behind that.
abbrev pub hours_at : Stage → ℕ → ℕ
hours_at stage.Joins n = n
hours_at stage.Prior n = n
hours_at stage.Ahead n = n
hours_at stage.Again n = n
hours_at stage.Each n = 0
hours_at stage.ByNumber n = n
hours_at (stage.Oldest aim) n = n
hours_at (stage.Counts aim) n = n
hours_at (stage.UpTo aim) n = n
hours_at (stage.Back aim) n = n
hours_at stage.Revision n = n
hours_at stage.Restart n = n

-- how often that may be
abbrev pub hours : PollState → ℕ
hours p = hours_at p.stage (three p.earliest)

-- behind a turn while that is done
Over : Turned → Type 0
Over t = t.end ≡ None → hours t.poll ≡ 0

over_pick : (c : Bool) (x y : Turned) → (c ≡ true → Over x) → (c ≡ false → Over y) → Over (if c then x else y)
over_pick c x y f g = split WhicheverRecord Whichever Over c x y f g

another_over : (p : PollState) → Over (another p)
unfolding Over
another_over p = over_pick (p.lives == 2) _ _ (λ third. λ going. absurd (cc)) (λ more. λ going. refl)

asks_over : (p : PollState) (held : List Numbered) (number : Option ℕ) → Over (asks_each p held number)
unfolding Over
asks_over p held None = another_over p
asks_over p held (Some number) = λ going. refl

means_over : (p : PollState) (first : Numbered) (means : Means) → Over (each_means p first means)
unfolding Over
means_over p first Same = λ going. refl
means_over p first (Shifted by) = over_pick (by == 100) _ _ (λ same. λ going. refl) (λ moved. λ going. refl)
means_over p first Unshown = another_over p
means_over p first Partly = another_over p
means_over p first Another = another_over p

all_over : (p : PollState) (held : List Numbered) (first : Option Numbered) → Over (each_all p held first)
all_over p held None = another_over p
all_over p held (Some first) = means_over p first (means_in p held)

next_over : (p : PollState) (held : List Numbered) → Over (each_next p held)
next_over p held =
    over_pick (length held == 1) _ _ (λ one. asks_over p held (number_in p.earlier)) (λ more. over_pick (length held == 2) _ _ (λ two. asks_over p held (number_in p.earliest)) (λ all. all_over p held (first_in held)))

each_over : (p : PollState) (held : List Numbered) (first : Option Numbered) → Over (each_by p held first)
each_over p held None = another_over p
each_over p held (Some shown) = over_pick ((shown.number == p.reference) && nat_lt (length held) 3) _ _ (λ asked. next_over p (held ++ shown ∷ [])) (λ other. another_over p)

-- ---- what an answer makes of that

one_at_most : (s : Stage) (n : ℕ) → n ≤ 1 → each_one s + hours_at s n ≤ 1
one_at_most stage.Joins n low = omega (arith, low)
one_at_most stage.Prior n low = omega (arith, low)
one_at_most stage.Ahead n low = omega (arith, low)
one_at_most stage.Again n low = omega (arith, low)
one_at_most stage.Each n low = omega arith
one_at_most stage.ByNumber n low = omega (arith, low)
one_at_most (stage.Oldest aim) n low = omega (arith, low)
one_at_most (stage.Counts aim) n low = omega (arith, low)
one_at_most (stage.UpTo aim) n low = omega (arith, low)
one_at_most (stage.Back aim) n low = omega (arith, low)
one_at_most stage.Revision n low = omega (arith, low)
one_at_most stage.Restart n low = omega (arith, low)

none_of_none : (s : Stage) (n : ℕ) → n ≡ 0 → hours_at s n ≡ 0
none_of_none stage.Joins n none = none
none_of_none stage.Prior n none = none
none_of_none stage.Ahead n none = none
none_of_none stage.Again n none = none
none_of_none stage.Each n none = refl
none_of_none stage.ByNumber n none = none
none_of_none (stage.Oldest aim) n none = none
none_of_none (stage.Counts aim) n none = none
none_of_none (stage.UpTo aim) n none = none
none_of_none (stage.Back aim) n none = none
none_of_none stage.Revision n none = none
none_of_none stage.Restart n none = none

three_low : (o : Option KeptAs) → three o ≤ 1
three_low None = omega arith
three_low (Some kept) = omega arith

pub hours_low : (s : Stage) (o : Option KeptAs) → hours_at s (three o) ≤ 1
hours_low s o = let low = one_at_most s (three o) (three_low o) in omega (arith, low)

-- An answer at this stage: where known ones are asked for one by one then, that is taken of what may be, or paid by the
-- records that are kept.
abbrev pub Spends : PollState → Stage → Turned → Type 0
Spends p s t = t.end ≡ None → hour_one s t + hours t.poll ≤ hours_at s (three p.earliest) + one_if_kept t.records

quietly : (p : PollState) (s : Stage) (t : Turned) → each_one s ≡ 0 → hours_at s (three p.earliest) ≡ three p.earliest → (p.earliest ≡ None → Quiet t) → Spends p s t
unfolding Quiet
quietly p s t other all quiet = λ going. by p.earliest refl t.records refl going
  where
    most : each_one t.poll.stage + hours t.poll ≤ 1
    most = one_at_most t.poll.stage (three t.poll.earliest) (three_low t.poll.earliest)

    by : (o : Option KeptAs) → p.earliest ≡ o → (rs : List Numbered) → t.records ≡ rs → t.end ≡ None → hour_one s t + hours t.poll ≤ hours_at s (three p.earliest) + one_if_kept t.records
    by (Some kept) known rs is going = let one : three p.earliest ≡ 1 = ap three known in omega (arith, most, all, one)
    by None few (r ∷ rs) is going = let one : one_if_kept t.records ≡ 1 = ap one_if_kept is in omega (arith, most, one)
    by None few [] is going =
        let none = quiet few going is in
        let no_more : hours t.poll ≡ 0 = none_of_none t.poll.stage (three t.poll.earliest) (ap three none.0) in
        omega (arith, none.1, no_more)

stage_spends : (p : PollState) (more : Bool) (s : Stage) (reply : Reply) → Spends p s (at_stage (record p { more = more; held = [] }) s p.held reply)
unfolding Over
stage_spends p more stage.Joins reply = quietly p stage.Joins _ refl refl (λ few. joins_quiet (record p { more = more; held = [] }) reply few)
stage_spends p more stage.Prior reply = quietly p stage.Prior _ refl refl (λ few. prior_quiet (record p { more = more; held = [] }) reply.records few)
stage_spends p more stage.Ahead reply = quietly p stage.Ahead _ refl refl (λ few. ahead_quiet (record p { more = more; held = [] }) reply.records few)
stage_spends p more stage.Again reply = quietly p stage.Again _ refl refl (λ few. again_from_quiet (record p { more = more; held = [] }) p.held reply.records p.newest few)
stage_spends p more stage.Each reply = λ going.
    let q : PollState = record p { more = more; held = [] } in
    let t : Turned = each q p.held reply.records in
    let over : hours t.poll ≡ 0 = each_over q p.held (first_in reply.records) going in
    let low = one_at_most t.poll.stage (three t.poll.earliest) (three_low t.poll.earliest) in
    omega (arith, over, low)
stage_spends p more stage.ByNumber reply = quietly p stage.ByNumber _ refl refl (λ few. by_number_quiet (record p { more = more; held = [] }) p.held reply.records)
stage_spends p more (stage.Oldest aim) reply = quietly p (stage.Oldest aim) _ refl refl (λ few. oldest_quiet (record p { more = more; held = [] }) aim reply few)
stage_spends p more (stage.UpTo aim) reply = quietly p (stage.UpTo aim) _ refl refl (λ few. up_to_quiet (record p { more = more; held = [] }) aim reply.records few)
stage_spends p more (stage.Back aim) reply = quietly p (stage.Back aim) _ refl refl (λ few. back_quiet (record p { more = more; held = [] }) aim p.held reply.records few)
stage_spends p more (stage.Counts aim) reply = λ going. absurd (cc)
stage_spends p more stage.Revision reply = λ going. absurd (cc)
stage_spends p more stage.Restart reply = λ going. absurd (cc)

heard_spends : (p : PollState) (reply : Option Reply) → Spends p p.stage (after_heard p reply)
heard_spends p None = λ going. absurd (cc)
heard_spends p (Some reply) = stage_spends p (more_of p reply) p.stage reply

count_spends : (p : PollState) (s : Stage) (count : Option ℕ) → Spends p s (count_at p s count)
count_spends p (stage.Counts Finds) count = quietly p (stage.Counts Finds) _ refl refl (λ few. by_count_quiet (record p { more = false }) count few)
count_spends p (stage.Counts Renews) count = quietly p (stage.Counts Renews) _ refl refl (λ few. renews_by_quiet p count few)
count_spends p (stage.Counts Starts) count = quietly p (stage.Counts Starts) _ refl refl (λ few. starts_from_quiet p count few)
count_spends p stage.Joins count = λ going. absurd (cc)
count_spends p stage.Prior count = λ going. absurd (cc)
count_spends p stage.Ahead count = λ going. absurd (cc)
count_spends p stage.Again count = λ going. absurd (cc)
count_spends p stage.Each count = λ going. absurd (cc)
count_spends p stage.ByNumber count = λ going. absurd (cc)
count_spends p (stage.Oldest aim) count = λ going. absurd (cc)
count_spends p (stage.UpTo aim) count = λ going. absurd (cc)
count_spends p (stage.Back aim) count = λ going. absurd (cc)
count_spends p stage.Revision count = λ going. absurd (cc)
count_spends p stage.Restart count = λ going. absurd (cc)

pub answer_spends : (p : PollState) (answer : Answer) → Answers WhicheverRecord p answer → Spends p p.stage (after_answer p answer)
answer_spends p (Replied datagram) shows = heard_spends p (reply_in p datagram)
answer_spends p (Counted count) shows = count_spends p p.stage count
answer_spends p (Revised revision) at =
    let q : PollState = record p { again = record p.again { revision = revision }; held = [] } in
    subst (λ (s : Stage). Spends p s (after_answer p (Revised revision))) (sym at) (quietly p stage.Revision _ refl refl (λ few. restart_quiet q p.held p.word.restart few))
answer_spends p (Restarted restart moment) at =
    let q : PollState = record p { again = record p.again { restart = restart; moment = moment }; held = [] } in
    subst (λ (s : Stage). Spends p s (after_answer p (Restarted restart moment))) (sym at) (quietly p stage.Restart _ refl refl (λ few. by_word_quiet q p.held))

-- where fewer records are asked for it is the same
pub less_hours : (n : ℕ) (p : PollState) → hours (asking_less n p) ≡ hours p
less_hours zero p = refl
less_hours (suc n) p = less_hours n (after_too_many p)
