-- How many questions a poll asks at most by the records that it keeps.
use Rattle.std.proofs.Common.{arith, ◌≡◌, ℕ, ◌+◌, ◌≤◌, Option, None, Some, List, [], ◌∷◌, ◌++◌, length, sym, subst}
use Rattle.std.proofs.lemmas.List.{length-append}
use Rattle.bac_link.specs.Delivery.{History, Moment}
use Rattle.bac_walk.specs.declared.batch.Numbered.{Numbered}
use Rattle.bac_poll.specs.Poll.{reply_in}
use Rattle.bac_poll.specs.State.{PollState, Reply}
use Rattle.bac_poll.specs.Turns.{Turned}
use Rattle.bac_poll_laws.specs.Bounds.{AnswerIt, AreBounded, WhicheverRecord, count_of, kept_one, lost_one}
use Rattle.bac_poll_laws.specs.ByRecords.{QuestionsByRecords}
use Rattle.bac_poll_laws.specs.Delivers.{Given, GoesOn, ShowHeld, ShowsHeld, after_given, asking_less}
use Rattle.bac_poll_laws.specs.Held.{kept_by}
use Rattle.bac_poll_laws.specs.Laws.{Answer, Answers, Counted, HoldsOfEach, IsLast, Replied, Restarted, Revised}
use Rattle.bac_poll_laws.specs.Laws.{ShowsOnly}
use Rattle.bac_poll_laws.specs.Questions.{one_if_kept}
use Rattle.bac_poll_laws.proofs.Backs.{none_again_begun}
use Rattle.bac_poll_laws.proofs.Bounds.{questions_bounded}

-- what says what the log holds is an answer

any_records : (rs : List Numbered) → HoldsOfEach WhicheverRecord rs
any_records [] = tt
any_records (r ∷ rs) = (tt, any_records rs)

pub any_reply : (reply : Option Reply) → ShowsOnly WhicheverRecord reply
any_reply None = tt
any_reply (Some reply) = any_records reply.records

answers_it : (low : ℕ) (m : Moment) (H : History) (p : PollState) (answer : Answer) → ShowsHeld low m H p answer → Answers WhicheverRecord p answer
answers_it low m H p (Replied datagram) shows = any_reply (reply_in p datagram)
answers_it low m H p (Counted count) shows = tt
answers_it low m H p (Revised revision) shows = shows
answers_it low m H p (Restarted restart moment) shows = shows

is_last : (t : Turned) (others : List Given) → GoesOn t others → IsLast t others
is_last t [] going = tt
is_last t (given ∷ others) going = going.0

answer_it : (low : ℕ) (H : History) (p : PollState) (given : List Given) → ShowHeld low H p given → AnswerIt p given
answer_it low H p [] show = tt
answer_it low H p (given ∷ others) show =
    (answers_it low given.moment H (asking_less given.less p) given.answer show.1, is_last (after_given p given) others show.2, answer_it low H (after_given p given).poll others show.3)

-- an answer by which records are kept keeps one at least
one_at_least : (rs : List Numbered) → one_if_kept rs ≤ length rs
one_at_least [] = omega arith
one_at_least (r ∷ rs) = omega arith

pub kept_count : (p : PollState) (given : List Given) → count_of kept_one p given ≤ length (kept_by p given)
kept_count p [] = omega arith
kept_count p (given ∷ others) =
    let rs = (after_given p given).records in
    let all : length (rs ++ kept_by (after_given p given).poll others) ≡ length rs + length (kept_by (after_given p given).poll others) =
    length-append rs (kept_by (after_given p given).poll others) in
    let here = one_at_least rs in
    let rest = kept_count (after_given p given).poll others in
    omega (arith, all, here, rest)

pub by_records : QuestionsByRecords
by_records H low s p answers joined row many show =
    let from = (questions_bounded joined.log joined.device joined.many joined.told answers many).0 joined.at row in
    let bound : AreBounded 21 p answers = subst (λ (q : PollState). AnswerIt q answers → AreBounded 21 q answers) (sym joined.is) from (answer_it low H p answers show) in
    let never : count_of lost_one p answers ≡ 0 = none_again_begun H low s p answers joined show in
    let kept = kept_count p answers in
    omega (arith, bound.0, never, kept)
