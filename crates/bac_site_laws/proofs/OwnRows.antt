-- What a device's poll keeps while a log is polled is the rows of that log's own turns.
use Rattle.std.proofs.Common.{◌≡◌, ◌∙◌, ◌⊎◌, inl, inr, ℕ, nat_le, nat_lt, Bool, true, false, if◌then◌else◌, List, [], ◌∷◌, ◌++◌, Option, None, Some}
use Rattle.std.proofs.Common.{refl, sym, ap, subst}
use Rattle.bac_wire.specs.Primitive.{Id}
use Rattle.bac_drive.specs.Chain.{Chain}
use Rattle.bac_poll.specs.State.{PollState}
use Rattle.bac_poll.specs.Turns.{Turned}
use Rattle.bac_poll_steps.specs.declared.turn.PollEnd.{PollEnd}
use Rattle.bac_walk.specs.declared.batch.Numbered.{Numbered}
use Rattle.bac_poll_laws.specs.Laws.{EachShownOnce, IsAmong, IsOneOf, Whichever}
use Rattle.bac_poll_laws.specs.Logged.{IsLogged}
use Rattle.bac_archive.specs.declared.row.Put.{Put}
use Rattle.bac_link.specs.declared.transactions.Pending.{Pending}
use Rattle.bac_walk.specs.declared.outcome.WalkFault.TheVariants as walk
use Rattle.bac_drive.specs.declared.machine.Next.{Next}
use Rattle.bac_drive.specs.declared.machine.Next.TheVariants as next
use Rattle.bac_poll_steps.specs.declared.turn.PollEnd.TheVariants.{Fault}
use Rattle.bac_device_poll.specs.Logs.{after_end, has_ended, left_behind}
use Rattle.bac_device_poll.specs.Poll.{asked_of_device}
use Rattle.bac_device_poll.specs.Turns.{Turned as DeviceTurned}
use Rattle.bac_device_poll.specs.declared.question.Question.{Question}
use Rattle.bac_device_poll.specs.declared.question.Question.TheVariants.{Confirmed, Nothing, WhoIs}
use Rattle.bac_device_poll.specs.declared.turn.DeviceEnd.{DeviceEnd}
use Rattle.bac_device_poller.specs.Poller.{AsksNext, PollerAs, Settles, TellsNext, doing_behind, doing_with, hearing}
use Rattle.bac_device_poller.specs.Poller.{is_answer, is_none_told}
use Rattle.bac_device_poller.specs.Poller.{lost_of, missed, seeks, without_answer}
use Rattle.bac_device_poller.specs.Telling.{LineAs}
use Rattle.bac_device_poller.specs.declared.doing.Doing.{Doing}
use Rattle.bac_device_poller.specs.declared.doing.Doing.TheVariants as doing
use Rattle.bac_site_poller.specs.Seat.{Wants, lent}
use Rattle.bac_device_poller.specs.Puts.{PlaceAs, PutAs, Puts}
use Rattle.bac_device_poller.specs.Turns.{IsPlaced}
use Rattle.bac_site_poller.specs.SiteLaws.{Answered, Missed, Own, OwnStep, Wanted}
use Rattle.bac_site_laws.specs.Own.{AreOf, AreRowsOf, EndsBy, HadTurns, IsAtLog, IsOf, IsOneAmong, IsPolled, KeepsTurns, NumbersOnce, OwnStepAt, answers_of}
use Rattle.bac_site_laws.specs.Laws.{WasGoneBefore}
use Rattle.bac_site_laws.specs.Own.{RowsAreTold, heard_of, is_last, kept_of, left_after, poll_after}
use Rattle.bac_site_laws.specs.Rows.{GoOn, IsNumbered, Stand}
use Rattle.bac_site_laws.specs.Steps.{AreAsked, AreSteps, Ended, IsAskedBy, IsStep, Step, after_step, put_of, rows_by}
use Rattle.bac_site_laws.proofs.OwnSteps.{ComesBy, HasNoTurn, HasTurn, own_went, step_rows}
use Rattle.bac_site_laws.proofs.Logged.{logged_number, one_gone}
use Rattle.bac_site_laws.proofs.RowsOn.{any_steps, numbered, rows_on}
use Rattle.bac_site_laws.proofs.Standing.{each_all}

-- the rows of turns of a log with a place; of one without nothing is kept
abbrev pub rows_at : Option PlaceAs → PollState → List Step → List PutAs
rows_at None q steps = []
rows_at (Some place) q steps = rows_by place.log place.epoch place.full q steps

-- of these answers none is lacking among those
abbrev pub IsWithin : List (List ℕ) → List (List ℕ) → Type 0
IsWithin some all = (datagram : List ℕ) → IsOneAmong some datagram → IsOneAmong all datagram

-- a step is by one of these answers, or its question was lost
abbrev pub IsFrom : List (List ℕ) → PollState → Step → Type 0
IsFrom answers q step = ((datagram : List ℕ) × IsOneAmong answers datagram × IsOf q datagram step) ⊎ (step ≡ Ended (Fault walk.Lost))

from_more : (some all : List (List ℕ)) (q : PollState) (step : Step) → IsWithin some all → IsFrom some q step → IsFrom all q step
from_more some all q step within (inl (datagram, one, is)) = inl (datagram, within datagram one, is)
from_more some all q step within (inr lost) = inr lost

of_more : (some all : List (List ℕ)) (q : PollState) (steps : List Step) → IsWithin some all → AreOf some q steps → AreOf all q steps
of_more some all q [] within are = tt
of_more some all q (step ∷ steps) within are =
    (from_more some all q step within are.0, of_more some all (after_step q step).poll steps within are.1)

within_left : (xs ys : List (List ℕ)) → IsWithin xs (xs ++ ys)
within_left [] ys datagram is = elim is [ ]
within_left (x ∷ xs) ys datagram (inl same) = inl same
within_left (x ∷ xs) ys datagram (inr rest) = inr (within_left xs ys datagram rest)

within_right : (xs ys : List (List ℕ)) → IsWithin ys (xs ++ ys)
within_right [] ys datagram is = is
within_right (x ∷ xs) ys datagram is = inr (within_right xs ys datagram is)

kept_cons : (log : Id) (own : Own) (more : List Own) → kept_of (own ∷ more) ≡ step_rows log own ++ kept_of more
kept_cons log (Wanted ids wanted) more = refl
kept_cons log (Answered from datagram now) more = refl
kept_cons log Missed more = refl

-- ---- one turn, and those behind it

asked_more : (q : PollState) (step : Step) (steps : List Step) → AreAsked (after_step q step).poll steps → (after_step q step).end ≡ None →
    IsAskedBy q step → AreAsked q (step ∷ steps)
asked_more q step [] are none is = is
asked_more q step (next ∷ steps) are none is = (is, none, are)

ends_more : (n : Option ℕ) (q : PollState) (step : Step) (steps : List Step) → EndsBy (left_behind n (after_step q step).records) (after_step q step).poll steps →
    EndsBy n q (step ∷ steps)
ends_more n q step [] ends = elim ends [ ]
ends_more n q step (next ∷ steps) ends = ends

-- one that doesn't end it, doesn't by itself
goes_none : (e : Option PollEnd) (n : Option ℕ) → has_ended e n ≡ false → e ≡ None
goes_none None n goes = refl
goes_none (Some why) n goes = absurd (cc)

-- ---- what is heard

-- nothing is
IsQuiet : PollerAs → Type 0
IsQuiet p = heard_of p.doing ≡ []

with_quiet : (end : Option DeviceEnd) (b : Bool) → heard_of (doing_with end b) ≡ []
with_quiet None true = refl
with_quiet (Some why) true = refl
with_quiet end false = refl

settled_quiet : (t : DeviceTurned) (p : PollerAs) (puts : List Put) (new : PollerAs) → Settles t p puts new → IsQuiet new
unfolding IsQuiet
settled_quiet t p puts new (mid, takes, (rows, is)) = ap (λ (x : PollerAs). heard_of x.doing) is ∙ with_quiet _ _

-- the same of one that is as another
same_quiet : (p x : PollerAs) → p ≡ x → heard_of x.doing ≡ [] → IsQuiet p
unfolding IsQuiet
same_quiet p x is quiet = ap (λ (y : PollerAs). heard_of y.doing) is ∙ quiet

asks_quiet : (k : Question) (p : PollerAs) (wanted : Next) (new : PollerAs) → AsksNext k p wanted new → IsQuiet new
asks_quiet (Confirmed request) p (next.Send octets to) new gives = same_quiet new _ gives.2 refl
asks_quiet WhoIs p (next.Send octets to) new gives = same_quiet new _ gives.2 refl
asks_quiet Nothing p (next.Keep puts) new gives = settled_quiet (after_end p.poll) p puts.items new gives
asks_quiet (Confirmed request) p (next.Wait most) new gives = absurd gives
asks_quiet (Confirmed request) p next.Read new gives = absurd gives
asks_quiet (Confirmed request) p (next.Keep puts) new gives = absurd gives
asks_quiet (Confirmed request) p (next.Print text) new gives = absurd gives
asks_quiet (Confirmed request) p (next.Warn text) new gives = absurd gives
asks_quiet (Confirmed request) p next.End new gives = absurd gives
asks_quiet WhoIs p (next.Wait most) new gives = absurd gives
asks_quiet WhoIs p next.Read new gives = absurd gives
asks_quiet WhoIs p (next.Keep puts) new gives = absurd gives
asks_quiet WhoIs p (next.Print text) new gives = absurd gives
asks_quiet WhoIs p (next.Warn text) new gives = absurd gives
asks_quiet WhoIs p next.End new gives = absurd gives
asks_quiet Nothing p (next.Send octets to) new gives = absurd gives
asks_quiet Nothing p (next.Wait most) new gives = absurd gives
asks_quiet Nothing p next.Read new gives = absurd gives
asks_quiet Nothing p (next.Print text) new gives = absurd gives
asks_quiet Nothing p (next.Warn text) new gives = absurd gives
asks_quiet Nothing p next.End new gives = absurd gives

tells_quiet : (lines : List LineAs) (end : Option DeviceEnd) (p : PollerAs) (wanted : Next) (new : PollerAs) → TellsNext lines end p wanted new → IsQuiet new
tells_quiet (line ∷ lines) end p wanted new tells = same_quiet new _ tells.1 (with_quiet end (is_none_told lines))
tells_quiet [] end p wanted new tells = same_quiet new _ tells.1 (behind_quiet end)
  where
    behind_quiet : (end : Option DeviceEnd) → heard_of (doing_behind end) ≡ []
    behind_quiet None = refl
    behind_quiet (Some why) = refl

gives_quiet : (what : Doing) (p : PollerAs) (wanted : Next) (new : PollerAs) → p.doing ≡ what → Wants what p wanted new → IsQuiet new
gives_quiet (doing.Ended why) p wanted new at gives = same_quiet new p gives.1 (ap heard_of at)
gives_quiet doing.Asks p wanted new at gives = asks_quiet (asked_of_device p.poll) p wanted new gives
gives_quiet (doing.Resends datagram) p (next.Send octets to) new at gives = same_quiet new _ gives.2 refl
gives_quiet doing.Waits p wanted new at gives = same_quiet new p gives.1 (ap heard_of at)
gives_quiet (doing.Hears came) p (next.Keep puts) new at (t, comes, settles) = settled_quiet t p puts.items new settles
gives_quiet doing.Loses p (next.Keep puts) new at settles = settled_quiet (lost_of p) p puts.items new settles
gives_quiet (doing.Tells end) p wanted new at gives = tells_quiet p.rows.lines end p wanted new gives
gives_quiet (doing.Resends datagram) p (next.Wait most) new at gives = absurd gives
gives_quiet (doing.Resends datagram) p next.Read new at gives = absurd gives
gives_quiet (doing.Resends datagram) p (next.Keep puts) new at gives = absurd gives
gives_quiet (doing.Resends datagram) p (next.Print text) new at gives = absurd gives
gives_quiet (doing.Resends datagram) p (next.Warn text) new at gives = absurd gives
gives_quiet (doing.Resends datagram) p next.End new at gives = absurd gives
gives_quiet (doing.Hears came) p (next.Send octets to) new at gives = absurd gives
gives_quiet (doing.Hears came) p (next.Wait most) new at gives = absurd gives
gives_quiet (doing.Hears came) p next.Read new at gives = absurd gives
gives_quiet (doing.Hears came) p (next.Print text) new at gives = absurd gives
gives_quiet (doing.Hears came) p (next.Warn text) new at gives = absurd gives
gives_quiet (doing.Hears came) p next.End new at gives = absurd gives
gives_quiet doing.Loses p (next.Send octets to) new at gives = absurd gives
gives_quiet doing.Loses p (next.Wait most) new at gives = absurd gives
gives_quiet doing.Loses p next.Read new at gives = absurd gives
gives_quiet doing.Loses p (next.Print text) new at gives = absurd gives
gives_quiet doing.Loses p (next.Warn text) new at gives = absurd gives
gives_quiet doing.Loses p next.End new at gives = absurd gives

quiet_if : (b : Bool) (x y : PollerAs) → IsQuiet x → IsQuiet y → IsQuiet (if b then x else y)
quiet_if true x y f g = f
quiet_if false x y f g = g

quiet_at : (p : PollerAs) → heard_of p.doing ≡ [] → IsQuiet p
unfolding IsQuiet
quiet_at p is = is

without_quiet : (p : PollerAs) (o : Option Pending) → IsQuiet (without_answer p o)
without_quiet p None = quiet_at (without_answer p None) refl
without_quiet p (Some request) = quiet_if (nat_le p.transactions.retries request.repeats) _ _ (quiet_at _ refl) (quiet_at _ refl)

missed_quiet : (p : PollerAs) → IsQuiet (missed p)
missed_quiet p =
    quiet_if (seeks p) _ _ (quiet_if (nat_lt p.sought p.retries) _ _ (quiet_at _ refl) (quiet_at _ refl))
    (quiet_if p.poll.doubt _ _ (quiet_at _ refl) (without_quiet p p.transactions.pending))

-- what is heard of a device, and comes behind that
all_of : PollerAs → List Own → List (List ℕ)
all_of p own = heard_of p.doing ++ answers_of own

quiet_within : (p mid : PollerAs) (answers : List (List ℕ)) → IsQuiet mid → IsWithin (heard_of mid.doing ++ answers) (heard_of p.doing ++ answers)
unfolding IsQuiet
quiet_within p mid answers quiet =
    let X : List (List ℕ) → Type 0 = λ l. IsWithin (l ++ answers) (heard_of p.doing ++ answers) in
    subst X (sym quiet) (within_right (heard_of p.doing) answers)

step_within : (p : PollerAs) (own : Own) (mid : PollerAs) (more : List Own) → OwnStep p own mid → IsWithin (all_of mid more) (all_of p (own ∷ more))
unfolding all_of
step_within p (Wanted ids wanted) mid more gives = quiet_within p mid (answers_of more) (gives_quiet p.doing (lent ids p) wanted mid refl gives)
step_within p Missed mid more (waits, is) =
    let Q : PollerAs → Type 0 = λ x. IsQuiet x in quiet_within p mid (answers_of more) (subst Q (sym is) (missed_quiet p))
step_within p (Answered from datagram now) mid more (fits, is) =
    let doing_is : heard_of mid.doing ≡ datagram ∷ [] = ap (λ (x : PollerAs). heard_of x.doing) is ∙ by (is_answer p from datagram) fits in
    let X : List (List ℕ) → Type 0 = λ l. IsWithin (l ++ answers_of more) (heard_of p.doing ++ (datagram ∷ answers_of more)) in
    subst X (sym doing_is) (within_right (heard_of p.doing) (datagram ∷ answers_of more))
  where
    by : (b : Bool) → b ≡ true → heard_of (if b then hearing from datagram now p else p).doing ≡ datagram ∷ []
    by true is = refl
    by false is = absurd (cc)

module _ (log : Id) where
  -- nothing is kept of a log that isn't polled
  over_none : (own : List Own) (p new : PollerAs) → (IsPolled log p → ⊥) → Chain (OwnStepAt log) p own new → kept_of own ≡ []
  over_none [] p new not chain = refl
  over_none (own ∷ more) p new not (mid, (polled, is), chain) = absurd (not polled)

  comes_from : (what : Doing) (q : PollState) (step : Step) → ComesBy log what q step → IsFrom (heard_of what) q step
  comes_from (doing.Hears came) q step (inl is) = inl (came.datagram, inl refl, is)
  comes_from (doing.Hears came) q step (inr is) = inr is
  comes_from doing.Loses q step is = inr is
  comes_from doing.Asks q step is = absurd is
  comes_from (doing.Resends datagram) q step is = absurd is
  comes_from doing.Waits q step is = absurd is
  comes_from (doing.Tells end) q step is = absurd is
  comes_from (doing.Ended why) q step is = absurd is

  -- a poll had turns by these answers, and this is kept of it
  Kept : List (List ℕ) → Option PlaceAs → Option ℕ → PollState → List PutAs → PollerAs → Type 0
  Kept answers o n q rows new = (steps : List Step) × HadTurns n log o q answers rows new steps

  turn_more : (answers : List (List ℕ)) (o : Option PlaceAs) (n : Option ℕ) (q : PollState) (step : Step) (behind : Option PlaceAs) (rows more : List PutAs) (new : PollerAs) → IsAskedBy q step →
      IsFrom answers q step → IsPlaced o (after_step q step) behind rows → is_last n q step ≡ false → Kept answers behind (left_behind n (after_step q step).records) (after_step q step).poll more new →
      Kept answers o n q (rows ++ more) new
  unfolding Kept
  turn_more answers o n q step behind rows more new is from placed none (steps, had) = (
    step ∷ steps,
    record {
      asked = asked_more q step steps had.asked (goes_none (after_step q step).end (left_behind n (after_step q step).records) none) is;
      of = (from, had.of);
      rows_are = (behind, rows, more, refl, placed, had.rows_are);
      leads = on had.leads;
    },
  )
    where
      on : ((b : Option PlaceAs) × IsAtLog log b (left_after (left_behind n (after_step q step).records) (after_step q step).poll steps) (poll_after (after_step q step).poll steps) new)
          ⊎ EndsBy (left_behind n (after_step q step).records) (after_step q step).poll steps →
          ((b : Option PlaceAs) × IsAtLog log b (left_after n q (step ∷ steps)) (poll_after q (step ∷ steps)) new) ⊎ EndsBy n q (step ∷ steps)
      on (inl there) = inl there
      on (inr ends) = inr (ends_more n q step steps ends)

  -- a turn that ends the poll is the last
  turn_last : (answers : List (List ℕ)) (o : Option PlaceAs) (n : Option ℕ) (q : PollState) (step : Step) (behind : Option PlaceAs) (rows more : List PutAs) (new : PollerAs) → IsAskedBy q step →
      IsFrom answers q step → IsPlaced o (after_step q step) behind rows → is_last n q step ≡ true → more ≡ [] → Kept answers o n q (rows ++ more) new
  unfolding Kept
  turn_last answers o n q step behind rows more new is from placed last none = (
    step ∷ [],
    record { asked = is; of = (from, tt); rows_are = (behind, rows, more, refl, placed, none); leads = inr last },
  )

  -- behind one step, by what is kept behind it
  one_more : (own : Own) (p mid : PollerAs) (o : Option PlaceAs) (n : Option ℕ) (q : PollState) (answers : List (List ℕ)) (more : List PutAs) (new : PollerAs) → IsAtLog log o n q p → OwnStep p own mid →
      IsWithin (heard_of p.doing) answers →
      ((o2 : Option PlaceAs) (n2 : Option ℕ) (q2 : PollState) → IsAtLog log o2 n2 q2 mid → Kept answers o2 n2 q2 more new) → ((IsPolled log mid → ⊥) → more ≡ []) →
      Kept answers o n q (step_rows log own ++ more) new
  one_more own p mid o n q answers more new at is heard rest over = by (own_went log o n q p own mid at is)
    where
      ends : (t : HasTurn log p.doing o n q (step_rows log own) mid) (e : Bool) → is_last n q t.step ≡ e → Kept answers o n q (step_rows log own ++ more) new
      ends t false goes =
          turn_more answers o n q t.step t.behind (step_rows log own) more new t.asked
          (from_more (heard_of p.doing) answers q t.step heard (comes_from p.doing q t.step t.comes)) t.placed goes
          (rest t.behind (left_behind n (after_step q t.step).records) (after_step q t.step).poll (t.goes goes))
      ends t true last =
          turn_last answers o n q t.step t.behind (step_rows log own) more new t.asked
          (from_more (heard_of p.doing) answers q t.step heard (comes_from p.doing q t.step t.comes)) t.placed last (over (t.over last))

      by : HasNoTurn log o n q (step_rows log own) mid ⊎ HasTurn log p.doing o n q (step_rows log own) mid → Kept answers o n q (step_rows log own ++ more) new
      by (inl same) =
          let Y : List PutAs → Type 0 = λ l. Kept answers o n q (l ++ more) new in
          subst Y (sym same.none) (rest o n q same.stays)
      by (inr turn) = ends turn (is_last n q turn.step) refl

  kept_more : (some all : List (List ℕ)) (o : Option PlaceAs) (n : Option ℕ) (q : PollState) (rows : List PutAs) (new : PollerAs) → IsWithin some all → Kept some o n q rows new → Kept all o n q rows new
  unfolding Kept
  kept_more some all o n q rows new within (steps, had) = (
    steps,
    record { asked = had.asked; of = of_more some all q steps within had.of; rows_are = had.rows_are; leads = had.leads },
  )

  none_kept : (answers : List (List ℕ)) (o : Option PlaceAs) (n : Option ℕ) (q : PollState) (new : PollerAs) → IsAtLog log o n q new → Kept answers o n q [] new
  unfolding Kept
  none_kept answers o n q new at = ([], record { asked = tt; of = tt; rows_are = refl; leads = inl (o, at) })

  own_rows : (own : List Own) (p new : PollerAs) (o : Option PlaceAs) (n : Option ℕ) (q : PollState) → IsAtLog log o n q p → Chain (OwnStepAt log) p own new →
      Kept (heard_of p.doing ++ answers_of own) o n q (kept_of own) new
  unfolding all_of
  own_rows [] p new o n q at same =
      let X : PollerAs → Type 0 = λ x. IsAtLog log o n q x in none_kept (heard_of p.doing ++ []) o n q new (subst X (sym same) at)
  own_rows (own ∷ more) p new o n q at (mid, (polled, is), chain) =
      let A = heard_of p.doing ++ answers_of (own ∷ more) in
      let X : List PutAs → Type 0 = λ l. Kept A o n q l new in
      subst X (sym (kept_cons log own more))
      (one_more own p mid o n q A (kept_of more) new at is (within_left (heard_of p.doing) (answers_of (own ∷ more)))
      (λ o2 n2 q2 there. kept_more (heard_of mid.doing ++ answers_of more) A o2 n2 q2 (kept_of more) new (step_within p own mid more is) (own_rows more mid new o2 n2 q2 there chain))
      (λ not. over_none more mid new not chain))

  pub had_turns : (own : List Own) (p new : PollerAs) (o : Option PlaceAs) (n : Option ℕ) (q : PollState) → IsAtLog log o n q p → Chain (OwnStepAt log) p own new →
      (steps : List Step) × HadTurns n log o q (heard_of p.doing ++ answers_of own) (kept_of own) new steps
  unfolding Kept
  had_turns own p new o n q at chain = own_rows own p new o n q at chain

pub keeps_turns : KeepsTurns
keeps_turns = λ log place left q p new own at chain. had_turns log own p new place left q at chain

-- ---- from a place on

asked_first : (q : PollState) (step : Step) (steps : List Step) → AreAsked q (step ∷ steps) → IsAskedBy q step
asked_first q step [] are = are
asked_first q step (next ∷ steps) are = are.0

asked_rest : (q : PollState) (step : Step) (steps : List Step) → AreAsked q (step ∷ steps) → AreAsked (after_step q step).poll steps
asked_rest q step [] are = tt
asked_rest q step (next ∷ steps) are = are.2

-- other steps behind the first, of which there are none if it ends the poll
asked_other : (q : PollState) (step : Step) (steps some : List Step) → AreAsked q (step ∷ steps) → (steps ≡ [] → some ≡ []) → AreAsked (after_step q step).poll some → AreAsked q (step ∷ some)
asked_other q step steps [] are none some = asked_first q step steps are
asked_other q step [] (next ∷ others) are none some = absurd (let e = none refl in cc)
asked_other q step (s ∷ steps) (next ∷ others) are none some = (are.0, are.1, some)

-- some steps are the first of others
IsFront : List Step → List Step → Type 0
IsFront [] steps = Unit {0}
IsFront (step ∷ some) [] = ⊥
IsFront (step ∷ some) (next ∷ steps) = (step ≡ next) × IsFront some steps

none_front : (some steps : List Step) → IsFront some steps → steps ≡ [] → some ≡ []
unfolding IsFront
none_front [] steps is none = refl
none_front (step ∷ some) [] is none = elim is [ ]
none_front (step ∷ some) (next ∷ steps) is none = absurd (cc)

-- so the first of steps that show some are such
front_steps : (P : Numbered → Type 0) (F : ℕ → Type 0) (q : PollState) (some steps : List Step) → IsFront some steps → AreSteps P F q steps → AreSteps P F q some
unfolding IsFront
front_steps P F q [] steps is are = tt
front_steps P F q (step ∷ some) [] is are = elim is [ ]
front_steps P F q (step ∷ []) (one ∷ []) is are = let X : Step → Type 0 = λ x. IsStep P F q x in subst X (sym is.0) are
front_steps P F q (step ∷ []) (one ∷ next ∷ steps) is are = let X : Step → Type 0 = λ x. IsStep P F q x in subst X (sym is.0) are.0
front_steps P F q (step ∷ second ∷ some) (one ∷ []) is are = elim is.1 [ ]
front_steps P F q (step ∷ second ∷ some) (one ∷ next ∷ steps) is are =
    let X : Step → Type 0 = λ x. IsStep P F q x in
    let Y : Step → Type 0 = λ x. (after_step q x).end ≡ None in
    let Z : Step → Type 0 = λ x. AreSteps P F (after_step q x).poll (second ∷ some) in (
      subst X (sym is.0) are.0,
      subst Y (sym is.0) are.1,
      subst Z (sym is.0) (front_steps P F (after_step q one).poll (second ∷ some) (next ∷ steps) is.1 are.2),
    )

-- the rows of turns are those of as many of them as the log has epochs for
rows_of_steps : (o : Option PlaceAs) (q : PollState) (steps : List Step) (rows : List PutAs) → AreAsked q steps → AreRowsOf o q steps rows →
    (some : List Step) × AreAsked q some × (rows ≡ rows_at o q some) × IsFront some steps
unfolding IsFront
rows_of_steps None q [] rows are is = ([], tt, is, tt)
rows_of_steps (Some place) q [] rows are is = ([], tt, is, tt)
rows_of_steps None q (step ∷ steps) rows are (behind, now, more, same, placed, rest) =
    let X : Option PlaceAs → Type 0 = λ x. AreRowsOf x (after_step q step).poll steps more in
    let b = rows_of_steps None (after_step q step).poll steps more (asked_rest q step steps are) (subst X placed.0 rest) in
    ([], tt, same ∙ ap (λ (l : List PutAs). l ++ more) placed.1 ∙ b.2, tt)
rows_of_steps (Some place) q (step ∷ steps) rows are (None, now, more, same, placed, rest) =
    let b = rows_of_steps None (after_step q step).poll steps more (asked_rest q step steps are) rest in
    ([], tt, same ∙ ap (λ (l : List PutAs). l ++ more) placed ∙ b.2, tt)
rows_of_steps (Some place) q (step ∷ steps) rows are (Some behind, now, more, same, placed, rest) =
    let t : Turned = after_step q step in
    let b = rows_of_steps (Some behind) t.poll steps more (asked_rest q step steps are) rest in
    let s : Puts = put_of place.log place.epoch place.full t in
    let X : ℕ → Type 0 = λ n. more ≡ rows_by n behind.epoch behind.full t.poll b.0 in
    let Y : ℕ → Type 0 = λ n. more ≡ rows_by place.log n behind.full t.poll b.0 in
    let Z : Bool → Type 0 = λ f. more ≡ rows_by place.log s.epoch f t.poll b.0 in
    let epoch : behind.epoch ≡ s.epoch = ap (λ (x : PlaceAs). x.epoch) placed.1 in
    let full : behind.full ≡ s.full = ap (λ (x : PlaceAs). x.full) placed.1 in (
      step ∷ b.0,
      asked_other q step steps b.0 are (none_front b.0 steps b.3) b.1,
      same ∙ ap (λ (l : List PutAs). l ++ more) placed.0 ∙ ap (λ (l : List PutAs). s.puts ++ l) (subst Z full (subst Y epoch (subst X placed.2 b.2))),
      (refl, b.3),
    )

pub numbers_once : EachShownOnce → NumbersOnce
numbers_once law = λ log place next left q p new own at there stands chain.
    let (steps, had) = had_turns log own p new (Some place) left q at chain in
    let b = rows_of_steps (Some place) q steps (kept_of own) had.asked had.rows_are in
    let rows = rows_on IsNumbered Whichever numbered law tt place.log place.epoch next place.full q b.0 there stands (any_steps q b.0 b.1) in
    let X : List PutAs → Type 0 = λ l. GoOn IsNumbered Whichever place.log (record { epoch = place.epoch; next = next }) l rows.0 in
    (rows.0, subst X (sym b.2) rows.1)

pub rows_are_told : EachShownOnce → RowsAreTold
rows_are_told law = λ log place next left q p new own at there chain.
    let (steps, had) = had_turns log own p new (Some place) left q at chain in
    let b = rows_of_steps (Some place) q steps (kept_of own) had.asked had.rows_are in
    let start : Stand = record { epoch = place.epoch; next = next } in (
      steps,
      had,
      λ shown fronts numbers one stands are.
          let rows = rows_on (IsAmong shown) (IsOneOf fronts) (each_all IsNumbered shown numbers) law one place.log place.epoch next place.full q b.0 there stands
          (front_steps (IsAmong shown) (IsOneOf fronts) q b.0 steps b.3 are) in
          let X : List PutAs → Type 0 = λ l. GoOn (IsAmong shown) (IsOneOf fronts) place.log start l rows.0 in
          (rows.0, subst X (sym b.2) rows.1),
      λ H moments stands are.
          let rows = rows_on (IsLogged H) (WasGoneBefore moments) (logged_number H) law (one_gone moments) place.log place.epoch next place.full q b.0 there stands
          (front_steps (IsLogged H) (WasGoneBefore moments) q b.0 steps b.3 are) in
          let X : List PutAs → Type 0 = λ l. GoOn (IsLogged H) (WasGoneBefore moments) place.log start l rows.0 in
          (rows.0, subst X (sym b.2) rows.1),
    )
