-- What answers, one after the other, deliver of a log that goes on.
use Rattle.std.proofs.Common.{arith, ◌≡◌, ℕ, ◌+◌, ◌<◌, ◌==◌, ◌&&◌, ◌||◌, not, Bool, true, false, if◌then◌else◌, Option}
use Rattle.std.proofs.Common.{None, Some, List, [], ◌∷◌, length, refl, sym, ap, subst, ◌∙◌, ◌⊎◌, inl, inr, zero, suc}
use Rattle.std.proofs.Common.{◌/◌, nat_le}
use Rattle.std.proofs.lemmas.Bool.{eq-eqb, eqb-true}
use Rattle.bac_log.specs.TrendLog.{sequence_number}
use Rattle.bac_log.specs.declared.entry.Entry.{Entry}
use Rattle.bac_link.specs.Delivery.{History, Moment}
use Rattle.bac_link.specs.Heard.{AckParameters}
use Rattle.bac_link.specs.Ordinals.{number_after}
use Rattle.bac_link.specs.Standard.{AreHeldFrom}
use Rattle.bac_walk.specs.Place.{WalkPlace}
use Rattle.bac_walk.specs.Walks.{Ask, Bring, End, NextAct, Refuse, asks_oldest_now, fits, is_past, verdict}
use Rattle.bac_walk.specs.Walks.{with_numbers}
use Rattle.bac_walk.specs.declared.batch.Numbered.{Numbered}
use Rattle.bac_walk.specs.declared.outcome.WalkFault.TheVariants.{BadReply}
use Rattle.bac_walk.proofs.Shown.{after-number}
use Rattle.bac_poll_laws.specs.Caught.{SayNewest, SaysNewest, ShowsNewest, ends_newest, last_turn, since, since_turn}
use Rattle.bac_poll_laws.specs.Delivers.{Brings, Delivers, Given, IsWithin, LiesIn, NoneBefore, ShowHeld, ShowsHeld}
use Rattle.bac_poll_laws.specs.Delivers.{after_given, asking_less, is_finding}
use Rattle.bac_poll_laws.specs.Laws.{Answer, Clears, Counted, Goes, HoldsOfEach, HasSome, IsAimed, IsAt, IsClearAt}
use Rattle.bac_poll_laws.specs.Laws.{IsRun, IsStanding, Replied, Restarted, Revised, ShowsOnly, Whichever, after_answer}
use Rattle.bac_poll_laws.specs.Logged.{AreShown, IsShownAt}
use Rattle.bac_poll.specs.Poll.{ack_in, after_heard, after_too_many, are_asked, has_last, has_more, more_of, reply_from}
use Rattle.bac_poll.specs.Poll.{reply_in, reply_of}
use Rattle.bac_poll.specs.State.{PollState, Reply}
use Rattle.bac_poll.specs.Turns.{Turned, first_number, last_in}
use Rattle.bac_poll_steps.specs.declared.stage.Aim.{Aim}
use Rattle.bac_poll_steps.specs.declared.stage.Aim.TheVariants.{Finds, Renews, Starts}
use Rattle.bac_poll_steps.specs.declared.stage.Stage.{Stage}
use Rattle.bac_poll_steps.specs.declared.stage.Stage.TheVariants as stage
use Rattle.bac_poll_steps.specs.declared.turn.PollEnd.TheVariants.{CaughtUp, Fault}
use Rattle.bac_poll_laws.proofs.Fronts.{Front, IsWeighed, Knows, Says, by_word_says, ends_says, restart_says}
use Rattle.bac_poll_laws.proofs.Once.{answers}
use Rattle.bac_poll_laws.proofs.Ordered.{IsFrontOf, IsOf, brings_of}
use Rattle.bac_poll_laws.proofs.Tells.{Rises, Ups, count_says, stage_says}

-- ---- fewer records are asked for

pub less_next : (n : ℕ) (p : PollState) → (asking_less n p).next ≡ p.next
less_next zero p = refl
less_next (suc n) p = less_next n (after_too_many p)

pub less_stage : (n : ℕ) (p : PollState) → (asking_less n p).stage ≡ p.stage
less_stage zero p = refl
less_stage (suc n) p = less_stage n (after_too_many p)

half_at : (count : ℕ) (b : Bool) → 1 < (if b then 1 else count / 2) → 1 < count
half_at count true more = absurd (omega (arith, more))
half_at count false more = omega (arith, more)

less_aimed : (p : PollState) (aim : Aim) → IsAimed p aim → IsAimed (after_too_many p) aim
less_aimed p Finds is = tt
less_aimed p Renews is = is
less_aimed p Starts is = is

pub less_at : (P : Numbered → Type 0) (F : ℕ → Type 0) (p : PollState) (what : Stage) → IsAt P F p what → IsAt P F (after_too_many p) what
less_at P F p stage.Joins at = tt
less_at P F p stage.Prior at = tt
less_at P F p stage.Ahead at = tt
less_at P F p stage.Again at = at
less_at P F p stage.Each at = at
less_at P F p stage.ByNumber at = at
less_at P F p (stage.Oldest aim) at = less_aimed p aim at
less_at P F p (stage.Counts aim) at = less_aimed p aim at
less_at P F p (stage.UpTo aim) at = less_aimed p aim at
less_at P F p (stage.Back aim) at = (less_aimed p aim at.0, at.1, at.2)
less_at P F p stage.Revision at = at
less_at P F p stage.Restart at = at

pub less_standing : (P : Numbered → Type 0) (F : ℕ → Type 0) (n : ℕ) (p : PollState) → IsStanding P F p → IsStanding P F (asking_less n p)
less_standing P F zero p is = is
less_standing P F (suc n) p is = less_standing P F n (after_too_many p) (is.0, less_at P F p p.stage is.1)

module _ (P : Numbered → Type 0) (F U V C : ℕ → Type 0) where
  less_knows_at : (p : PollState) (what : Stage) → Knows P F U V C p what → Knows P F U V C (after_too_many p) what
  less_knows_at p stage.Joins knows = tt
  less_knows_at p stage.Prior knows = tt
  less_knows_at p stage.Ahead knows = λ many whole. knows (half_at p.walk.count (nat_le p.walk.count 1) many) whole
  less_knows_at p stage.Again knows = tt
  less_knows_at p stage.Each knows = tt
  less_knows_at p stage.ByNumber knows = tt
  less_knows_at p (stage.Oldest aim) knows = tt
  less_knows_at p (stage.Counts aim) knows = tt
  less_knows_at p (stage.UpTo aim) knows = knows
  less_knows_at p (stage.Back aim) knows = knows
  less_knows_at p stage.Revision knows = knows
  less_knows_at p stage.Restart knows = knows

  less_knows : (n : ℕ) (p : PollState) → Knows P F U V C p p.stage → Knows P F U V C (asking_less n p) (asking_less n p).stage
  less_knows zero p knows = knows
  less_knows (suc n) p knows = less_knows n (after_too_many p) (less_knows_at p p.stage knows)

-- ---- what a reply says of where gaps end

-- asked for the records up to a count, a reply has none: nothing up to that count is held
abbrev pub ClearsCount : (ℕ → Type 0) → PollState → Option Reply → Type 0
ClearsCount F p None = Unit {0}
ClearsCount F p (Some reply) =
    (aim : Aim) → p.stage ≡ stage.UpTo aim → reply.records ≡ [] → F (number_after p.total 1)

pub counts_of : (F : ℕ → Type 0) (p : PollState) (reply : Option Reply) → Clears F p reply → ClearsCount F p reply
counts_of F p None clear = tt
counts_of F p (Some reply) clear = λ aim at none. subst (λ what. IsClearAt F p (more_of p reply) what reply) at clear (ap (λ (records : List Numbered). length records == 0) none)

clear_by : (F G : ℕ → Type 0) → ((n : ℕ) → F n → G n) → (p : PollState) (more : Bool) (what : Stage) (reply : Reply) → IsClearAt F p more what reply → IsClearAt G p more what reply
clear_by F G f p more stage.Joins reply clear = tt
clear_by F G f p more stage.Prior reply clear = tt
clear_by F G f p more stage.Ahead reply clear = tt
clear_by F G f p more stage.Again reply clear = tt
clear_by F G f p more stage.Each reply clear = tt
clear_by F G f p more stage.ByNumber reply clear = tt
clear_by F G f p more (stage.Oldest aim) reply clear = tt
clear_by F G f p more (stage.Counts aim) reply clear = tt
clear_by F G f p more (stage.UpTo aim) reply clear = λ none. f _ (clear none)
clear_by F G f p more (stage.Back aim) reply clear = λ bare. f _ (clear bare)
clear_by F G f p more stage.Revision reply clear = tt
clear_by F G f p more stage.Restart reply clear = tt

pub clears_by : (F G : ℕ → Type 0) → ((n : ℕ) → F n → G n) → (p : PollState) (reply : Option Reply) → Clears F p reply → Clears G p reply
clears_by F G f p None clear = tt
clears_by F G f p (Some reply) clear = clear_by F G f p (more_of p reply) p.stage reply clear

-- ---- what a reply says of the newest record

more_none : (a b : Bool) (rs : List Numbered) → rs ≡ [] → (if length rs == 0 then a else b) ≡ a
more_none a b [] none = refl
more_none a b (r ∷ rs) none = absurd (cc)

more_some : (a b : Bool) (rs : List Numbered) (l : Numbered) → last_in rs ≡ Some l → (if length rs == 0 then a else b) ≡ b
more_some a b [] l is = absurd (cc)
more_some a b (r ∷ rs) l is = some_at (length (r ∷ rs) == 0) refl
  where
    some_at : (c : Bool) → (length (r ∷ rs) == 0) ≡ c → (if c then a else b) ≡ b
    some_at true none = let same : length (r ∷ rs) ≡ 0 = eqb-true _ _ none in let never : ⊥ = omega (arith, same) in absurd never
    some_at false some = refl

or_left : (a b : Bool) → a ≡ true → (a || b) ≡ true
or_left true b is = refl
or_left false b is = absurd (cc)

or_right : (a b : Bool) → b ≡ true → (a || b) ≡ true
or_right true b is = refl
or_right false b is = is

and_both : (a b : Bool) → a ≡ true → b ≡ true → (a && b) ≡ true
and_both true true x y = refl
and_both false b x y = absurd (cc)
and_both true false x y = absurd (cc)

and_not : (a b : Bool) → (a && not b) ≡ true → (a ≡ true) × (b ≡ false)
and_not true false is = (refl, refl)
and_not true true is = absurd (cc)
and_not false b is = absurd (cc)

module _ (P : Numbered → Type 0) (F U V : ℕ → Type 0) where
  -- by what it is for
  ups_of : ((n : ℕ) → V n → U n) → (p : PollState) (reply : Reply) → ShowsNewest V p (Some reply) →
      Ups P F U V (record p { more = more_of p reply; held = [] }) p.stage reply
  ups_of old p reply newest = record {
    joins = λ at l last many how.
        let whole : reply.more ≡ false = joins_more l last how in
        let tells : ends_newest p reply l p.stage ≡ true = ap (ends_newest p reply l) at ∙ joins_tells how in
        old _ (newest l last many whole tells);
    again = λ at l last here many whole.
        newest l last many (sym (more_some p.more reply.more reply.records l last) ∙ whole)
        (ap (ends_newest p reply l) at ∙ eq-eqb (number_after l.number 1) p.next here);
    oldest = λ aim at uncut l last here alone many whole.
        seen l last here alone many whole
        (ap (ends_newest p reply l) at ∙ ap (λ (b : Bool). not b && (p.alone && (number_after l.number 1 == p.next))) uncut);
    up_to = λ aim at l last here alone many whole. seen l last here alone many whole (ap (ends_newest p reply l) at);
    back = λ aim at l last here alone many whole. seen l last here alone many whole (ap (ends_newest p reply l) at);
  }
    where
      joins_more : (l : Numbered) → last_in reply.records ≡ Some l →
          ((reply.last && not reply.more) ≡ true) ⊎ (((length reply.records == 1) ≡ true) × (more_of p reply ≡ false)) → reply.more ≡ false
      joins_more l last (inl done) = (and_not reply.last reply.more done).1
      joins_more l last (inr alone) = sym (more_some p.more reply.more reply.records l last) ∙ alone.1

      joins_tells : ((reply.last && not reply.more) ≡ true) ⊎ (((length reply.records == 1) ≡ true) × (more_of p reply ≡ false)) →
          (reply.last || (length reply.records == 1)) ≡ true
      joins_tells (inl done) = or_left reply.last (length reply.records == 1) (and_not reply.last reply.more done).0
      joins_tells (inr alone) = or_right reply.last (length reply.records == 1) alone.0

      seen : (l : Numbered) → last_in reply.records ≡ Some l → number_after l.number 1 ≡ p.next → p.alone ≡ true → 1 < p.walk.count → more_of p reply ≡ false →
          ends_newest p reply l p.stage ≡ (p.alone && (number_after l.number 1 == p.next)) → U p.next
      seen l last here alone many whole tells =
          subst U here (old _ (newest l last many (sym (more_some p.more reply.more reply.records l last) ∙ whole)
          (tells ∙ and_both p.alone (number_after l.number 1 == p.next) alone (eq-eqb (number_after l.number 1) p.next here))))

  heard_says : Rises P F U V → ((n : ℕ) → V n → U n) → (p : PollState) (reply : Option Reply) → is_finding p.stage ≡ true → IsStanding P Whichever p → Knows P F U V U p p.stage →
      Clears F p reply → ClearsCount F p reply → ShowsNewest V p reply → Says P F U V p.next p.walk (after_heard p reply)
  heard_says step old p None find is knows clear none newest = ends_says P F U V p (Fault BadReply) (λ up. absurd (cc))
  heard_says step old p (Some reply) find is knows clear none newest =
      stage_says P F U V step old p (more_of p reply) p.stage reply find is.0 is.1 knows clear none (more_none p.more reply.more reply.records) (ups_of old p reply newest)

module _ (H : History) (low : ℕ) where
  -- ---- records that a reply shows were held at its moment

  numbered_of : (m : Moment) (M : List Moment) → IsWithin low m → (k n : ℕ) (es : List Entry) → n ≡ sequence_number k → AreHeldFrom H m k es →
      HoldsOfEach (IsOf H low (m ∷ M)) (with_numbers n es)
  numbered_of m M within k n [] is held = tt
  numbered_of m M within k n (e ∷ es) is held = (
    (k, is, held.1, inl held.0, omega (arith, within.oldest, held.0.0), omega (arith, within.newest, held.0.1)),
    numbered_of m M within (k + 1) (number_after n 1) es (ap (λ (x : ℕ). number_after x 1) is ∙ after-number k 1) held.2,
  )

  asked_of : (P : Numbered → Type 0) (b : Bool) (records : List Numbered) (last more : Bool) → HoldsOfEach P records →
      ShowsOnly P (if b then Some (record { records = records; last = last; more = more }) else None)
  asked_of P true records last more all = all
  asked_of P false records last more all = tt

  act_of : (T : NextAct → Type 0) (b : Bool) (x y : NextAct) → T x → T y → T (if b then x else y)
  act_of T true x y f g = f
  act_of T false x y f g = g

  first_of : (m : Moment) (M : List Moment) → IsWithin low m → (p : PollState) (first : Option ℕ) (count : ℕ) (es : List Entry) (last more : Bool) → AreShown m H first es →
      ShowsOnly (IsOf H low (m ∷ M)) (reply_of p (verdict p.walk first count es) es last more)
  first_of m M within p first count [] last more shows =
      act_of (λ act. ShowsOnly (IsOf H low (m ∷ M)) (reply_of p act [] last more)) (asks_oldest_now p.walk) End Ask tt tt
  first_of m M within p None count (e ∷ es) last more shows = tt
  first_of m M within p (Some first) count (e ∷ es) last more shows =
      let same : first ≡ sequence_number shows.0 = cc in
      let all = numbered_of m M within shows.0 first (e ∷ es) same shows.2 in
      act_of (λ act. ShowsOnly (IsOf H low (m ∷ M)) (reply_of p act (e ∷ es) last more)) (is_past p.walk first) End _ tt
      (act_of (λ act. ShowsOnly (IsOf H low (m ∷ M)) (reply_of p act (e ∷ es) last more))
      ((count == length (e ∷ es)) && fits p.walk first (length (e ∷ es))) (Bring first) Refuse
      (asked_of (IsOf H low (m ∷ M)) (are_asked p p.stage (first_number (with_numbers first (e ∷ es))) (length (with_numbers first (e ∷ es)))) (with_numbers first (e ∷ es)) last more all)
      tt)

  pub shows_of : (m : Moment) (M : List Moment) → IsWithin low m → (p : PollState) (datagram : List ℕ) → IsShownAt m H p.walk.log datagram →
      ShowsOnly (IsOf H low (m ∷ M)) (reply_in p datagram)
  shows_of m M within p datagram shown =
      let last = has_last (ack_in datagram) in
      let more = has_more (ack_in datagram) in
      let T : Option AckParameters → Type 0 = λ heard. ShowsOnly (IsOf H low (m ∷ M)) (reply_from p heard last more) in
      subst T (sym shown.reads) (first_of m M within p shown.heard.first shown.heard.count shown.heard.entries last more shown.shows)

  -- ---- one moment more

  run_more : (m : Moment) (M : List Moment) (n : ℕ) (rs : List Numbered) → IsRun (IsOf H low M) n rs → IsRun (IsOf H low (m ∷ M)) n rs
  run_more m M n [] run = tt
  run_more m M n (r ∷ rs) run =
      (run.0, (run.1.0, run.1.1, run.1.2, inr run.1.3, run.1.4, run.1.5), run_more m M (number_after r.number 1) rs run.2)

  pub at_more : (m : Moment) (M : List Moment) (p : PollState) (what : Stage) → IsAt (IsOf H low M) Whichever p what → IsAt (IsOf H low (m ∷ M)) Whichever p what
  at_more m M p stage.Joins at = tt
  at_more m M p stage.Prior at = tt
  at_more m M p stage.Ahead at = tt
  at_more m M p stage.Again at = run_more m M p.next p.held at
  at_more m M p stage.Each at = at
  at_more m M p stage.ByNumber at = (run_more m M _ p.held at.0, at.1)
  at_more m M p (stage.Oldest aim) at = at
  at_more m M p (stage.Counts aim) at = at
  at_more m M p (stage.UpTo aim) at = at
  at_more m M p (stage.Back aim) at = (at.0, run_more m M _ p.held at.1, at.2)
  at_more m M p stage.Revision at = (run_more m M _ p.held at.0, at.1)
  at_more m M p stage.Restart at = (run_more m M _ p.held at.0, at.1)

  front_more : (m : Moment) (M : List Moment) (n : ℕ) → IsFrontOf H low M n → IsFrontOf H low (m ∷ M) n
  front_more m M n is = (is.0, is.1, is.2, inr is.3)

  -- ---- one answer, by numbers

  pub before_front : (m : Moment) (M : List Moment) (n : ℕ) → NoneBefore low m n → IsFrontOf H low (m ∷ M) n
  before_front m M n is = (is.0, is.1, is.2, inl is.3)

  pub counts_by : (m : Moment) (M : List Moment) (p : PollState) (reply : Option Reply) → ClearsCount (NoneBefore low m) p reply → ClearsCount (IsFrontOf H low (m ∷ M)) p reply
  counts_by m M p None clear = tt
  counts_by m M p (Some reply) clear = λ aim at none. before_front m M _ (clear aim at none)

  pub answer_goes : (m : Moment) (M : List Moment) (p : PollState) (answer : Answer) → IsWithin low m → IsStanding (IsOf H low (m ∷ M)) Whichever p → ShowsHeld low m H p answer →
      Goes (IsOf H low (m ∷ M)) Whichever p.next (after_answer p answer)
  answer_goes m M p (Replied datagram) within is shows =
      (answers (IsOf H low (m ∷ M)) Whichever tt p is).0 datagram (shows_of m M within p datagram shows.0) (clears_by (NoneBefore low m) Whichever (λ n front. tt) p (reply_in p datagram) shows.1)
  answer_goes m M p (Counted count) within is shows = (answers (IsOf H low (m ∷ M)) Whichever tt p is).1 count
  answer_goes m M p (Revised revision) within is shows = (answers (IsOf H low (m ∷ M)) Whichever tt p is).2 shows revision
  answer_goes m M p (Restarted restart moment) within is shows = (answers (IsOf H low (m ∷ M)) Whichever tt p is).3 shows restart moment

  -- what is known of the end of a log, at these moments
  module _ (C : List Moment → ℕ → Type 0) (older : (m : Moment) (M : List Moment) (n : ℕ) → C M n → C (m ∷ M) n)
      (newer : (m : Moment) (M : List Moment) (n : ℕ) → C (m ∷ []) n → C (m ∷ M) n)
      (rises : (m : Moment) (M : List Moment) (r : Numbered) → IsOf H low M r → C (m ∷ []) r.number → C (m ∷ []) (number_after r.number 1)) where
    -- what is known by the stage
    abbrev pub KnowsAt : List Moment → List Moment → PollState → Type 0
    KnowsAt M N p = Knows (IsOf H low M) (IsFrontOf H low M) Whichever Whichever (C N) p p.stage

    front_by : (m : Moment) (M : List Moment) (n b : ℕ) → Front (IsOf H low M) (IsFrontOf H low M) Whichever Whichever n b →
        Front (IsOf H low (m ∷ M)) (IsFrontOf H low (m ∷ M)) Whichever Whichever n b
    front_by m M n b (inl one) = inl one
    front_by m M n b (inr front) = inr (front_more m M _ front.0, front.1)

    weighed_more : (m : Moment) (M N : List Moment) (p : PollState) (held : List Numbered) → IsWeighed (IsOf H low M) (IsFrontOf H low M) Whichever Whichever (C N) p held →
        IsWeighed (IsOf H low (m ∷ M)) (IsFrontOf H low (m ∷ M)) Whichever Whichever (C (m ∷ N)) p held
    weighed_more m M N p held is = (front_by m M p.next _ is.0, λ none. older m N _ (is.1 none))

    knows_more : (m : Moment) (M N : List Moment) (p : PollState) (what : Stage) → Knows (IsOf H low M) (IsFrontOf H low M) Whichever Whichever (C N) p what →
        Knows (IsOf H low (m ∷ M)) (IsFrontOf H low (m ∷ M)) Whichever Whichever (C (m ∷ N)) p what
    knows_more m M N p stage.Joins knows = tt
    knows_more m M N p stage.Prior knows = tt
    knows_more m M N p stage.Ahead knows = λ many whole. older m N _ (knows many whole)
    knows_more m M N p stage.Again knows = tt
    knows_more m M N p stage.Each knows = tt
    knows_more m M N p stage.ByNumber knows = tt
    knows_more m M N p (stage.Oldest aim) knows = tt
    knows_more m M N p (stage.Counts aim) knows = tt
    knows_more m M N p (stage.UpTo aim) knows = (knows.0, older m N _ knows.1)
    knows_more m M N p (stage.Back aim) knows = knows
    knows_more m M N p stage.Revision knows = weighed_more m M N p p.held knows
    knows_more m M N p stage.Restart knows = weighed_more m M N p p.held knows

    -- ---- one answer

    abbrev SaysAt : Moment → List Moment → List Moment → PollState → Turned → Type 0
    SaysAt m M N p t = Says (IsOf H low (m ∷ M)) (IsFrontOf H low (m ∷ M)) (C (m ∷ N)) (C (m ∷ [])) p.next p.walk t

    answer_says : (m : Moment) (M N : List Moment) (p : PollState) (s : ℕ) (answer : Answer) → p.next ≡ sequence_number s → is_finding p.stage ≡ true →
        IsStanding (IsOf H low (m ∷ M)) Whichever p → KnowsAt (m ∷ M) (m ∷ N) p → ShowsHeld low m H p answer → SaysNewest (C (m ∷ [])) p answer →
        SaysAt m M N p (after_answer p answer)
    answer_says m M N p s (Replied datagram) here find is knows shows newest =
        heard_says (IsOf H low (m ∷ M)) (IsFrontOf H low (m ∷ M)) (C (m ∷ N)) (C (m ∷ [])) (rises m (m ∷ M)) (newer m N) p (reply_in p datagram) find is knows
        (clears_by (NoneBefore low m) (IsFrontOf H low (m ∷ M)) (before_front m M) p (reply_in p datagram) shows.1) (counts_by m M p (reply_in p datagram) (counts_of (NoneBefore low m) p (reply_in p datagram) shows.1)) newest
    answer_says m M N p s (Counted count) here find is knows shows newest =
        count_says (IsOf H low (m ∷ M)) (IsFrontOf H low (m ∷ M)) (C (m ∷ N)) (C (m ∷ [])) p p.stage count find (omega (arith, here)) (omega (arith, here))
        (λ total told. newer m N _ (newest total told))
    answer_says m M N p s (Revised revision) here find is knows shows newest =
        restart_says (IsOf H low (m ∷ M)) (IsFrontOf H low (m ∷ M)) (C (m ∷ N)) (C (m ∷ [])) (record p { again = record p.again { revision = revision }; held = [] }) p.held p.word.restart
        (subst (Knows (IsOf H low (m ∷ M)) (IsFrontOf H low (m ∷ M)) Whichever Whichever (C (m ∷ N)) p) shows knows)
    answer_says m M N p s (Restarted restart moment) here find is knows shows newest =
        by_word_says (IsOf H low (m ∷ M)) (IsFrontOf H low (m ∷ M)) (C (m ∷ N)) (C (m ∷ [])) (record p { again = record p.again { restart = restart; moment = moment }; held = [] }) p.held
        (subst (Knows (IsOf H low (m ∷ M)) (IsFrontOf H low (m ∷ M)) Whichever Whichever (C (m ∷ N)) p) shows knows)

    -- ---- one answer after the other

    by_records : (K : List Moment → Type 0) (m : Moment) (N : List Moment) (rs : List Numbered) → K (m ∷ N) → ((rs ≡ []) ⊎ K (m ∷ [])) → K (since_turn N m rs)
    by_records K m N [] all fresh = all
    by_records K m N (r ∷ rs) all (inl none) = absurd (cc)
    by_records K m N (r ∷ rs) all (inr fresh) = fresh

    -- behind the last of them nothing is held, where the poll is caught up
    abbrev pub IsUp : List Moment → Turned → ℕ → Type 0
    IsUp N t s = t.end ≡ Some CaughtUp → t.anew ≡ false → 1 < t.poll.walk.count → C N (sequence_number s) × LiesIn low s

    up_of : (m : Moment) (M N : List Moment) (p : PollState) (s u : ℕ) (t : Turned) → SaysAt m M N p t → Brings H (m ∷ M) s t u → ((t.anew ≡ true → HasSome t.records) → LiesIn low u) →
        IsUp (since_turn N m t.records) t u
    up_of m M N p s u t says brings lies = λ up same many.
        let asked : 1 < p.walk.count = subst (λ (w : WalkPlace). 1 < w.count) says.3 many in
        let end = says.4 up asked in
        let kept : since_turn N m t.records ≡ m ∷ N = ap (since_turn N m) end.1 in
        (subst (λ (N : List Moment). C N (sequence_number u)) (sym kept) (subst (C (m ∷ N)) brings.next end.0), lies (λ begun. absurd (cc)))

    -- all of one answer, behind which others may come
    abbrev One : List Moment → List Moment → PollState → ℕ → Given → Type 0
    One M N p s given =
        (u : ℕ) × Brings H (given.moment ∷ M) s (after_given p given) u × IsUp (since_turn N given.moment (after_given p given).records) (after_given p given) u
        × ((after_given p given).end ≡ None → is_finding (after_given p given).poll.stage ≡ true →
        LiesIn low u × IsStanding (IsOf H low (given.moment ∷ M)) Whichever (after_given p given).poll
        × KnowsAt (given.moment ∷ M) (since_turn N given.moment (after_given p given).records) (after_given p given).poll)

    one_given : (M N : List Moment) (p : PollState) (s : ℕ) (given : Given) → 0 < low → p.next ≡ sequence_number s → LiesIn low s →
        IsStanding (IsOf H low M) Whichever p → is_finding p.stage ≡ true → KnowsAt M N p → IsWithin low given.moment → ShowsHeld low given.moment H (asking_less given.less p) given.answer →
        SaysNewest (C (given.moment ∷ [])) (asking_less given.less p) given.answer → One M N p s given
    one_given M N p s given some here lies is find knows within shows newest =
        let m = given.moment in
        let q = asking_less given.less p in
        let turn = after_given p given in
        let begins : q.next ≡ sequence_number s = less_next given.less p ∙ here in
        let still = less_standing (IsOf H low M) Whichever given.less p is in
        let standing : IsStanding (IsOf H low (m ∷ M)) Whichever q = (still.0, at_more m M q q.stage still.1) in
        let finding : is_finding q.stage ≡ true = ap is_finding (less_stage given.less p) ∙ find in
        let known = less_knows (IsOf H low M) (IsFrontOf H low M) Whichever Whichever (C N) given.less p knows in
        let goes = answer_goes m M q given.answer within standing shows in
        let says = answer_says m M N q s given.answer begins finding standing (knows_more m M N q q.stage known) shows newest in
        let b = brings_of H low (C (m ∷ N)) (C (m ∷ [])) (m ∷ M) some s q.next q.walk turn begins lies goes.0 says in (
          b.0,
          b.1,
          up_of m M N q s b.0 turn says b.1 b.2,
          λ none stage.
              let stays = says.5 none stage in
              (b.2 stays.1, goes.1 none, by_records (λ (N : List Moment). KnowsAt (m ∷ M) N turn.poll) m N turn.records stays.0 stays.2),
        )

    pub runs : (M N : List Moment) (p : PollState) (s : ℕ) (t : Turned) (given : List Given) → 0 < low → p.next ≡ sequence_number s → LiesIn low s →
        IsStanding (IsOf H low M) Whichever p → is_finding p.stage ≡ true → KnowsAt M N p → ShowHeld low H p given → SayNewest (λ m. C (m ∷ [])) p given → IsUp N t s →
        (u : ℕ) × Delivers H M p s given u × IsUp (since N p given) (last_turn t p given) u
    runs M N p s t [] some here lies is find knows shows newest up = (s, refl, up)
    runs M N p s t (given ∷ []) some here lies is find knows shows newest up =
        let one = one_given M N p s given some here lies is find knows shows.0 shows.1 newest.0 in
        (one.0, (one.0, one.1, refl), one.2)
    runs M N p s t (given ∷ next ∷ rest) some here lies is find knows shows newest up =
        let m = given.moment in
        let turn = after_given p given in
        let one = one_given M N p s given some here lies is find knows shows.0 shows.1 newest.0 in
        let goes = one.3 shows.2.0 shows.2.1 in
        let all = runs (m ∷ M) (since_turn N m turn.records) turn.poll one.0 turn (next ∷ rest) some one.1.next goes.0 goes.1 shows.2.1 goes.2 shows.3 newest.1 one.2 in
        (all.0, (one.0, one.1, all.1), all.2)
