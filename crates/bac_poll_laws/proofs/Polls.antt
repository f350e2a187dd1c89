-- What a poll delivers from where its rows stand, and where it is caught up.
use Rattle.std.proofs.Common.{arith, ◌≡◌, ℕ, ◌+◌, ◌==◌, Bool, true, false, if◌then◌else◌, Option, None, Some, List, []}
use Rattle.std.proofs.Common.{◌∷◌, refl, sym, ap, subst, ◌∙◌, ◌⊎◌, inl, inr, ◌<◌}
use Rattle.bac_log.specs.TrendLog.{sequence_number}
use Rattle.bac_link.specs.Delivery.{History, Moment}
use Rattle.bac_link.specs.Ordinals.{number_after}
use Rattle.bac_walk.specs.Delivers.{NoneFrom}
use Rattle.bac_walk.specs.declared.batch.Numbered.{Numbered}
use Rattle.bac_walk.proofs.Shown.{after-number}
use Rattle.bac_poll_laws.specs.Caught.{PollsDeliver, IsUpAt, NoneBehind, SayNewest, SaysNewest, ShowsNewest, WasNone}
use Rattle.bac_poll_laws.specs.Caught.{last_turn, since}
use Rattle.bac_poll_laws.specs.Delivers.{Delivers, Given, IsJoined, LiesIn, ShowHeld, after_given, asking_less}
use Rattle.bac_poll_laws.specs.Delivers.{is_finding}
use Rattle.bac_poll_laws.specs.Laws.{Answer, Counted, IsStanding, Replied, Restarted, Revised, Whichever}
use Rattle.bac_poll.specs.Poll.{first_stage, joining, reply_in}
use Rattle.bac_poll.specs.State.{KeptAs, PollState, Reply}
use Rattle.bac_poll.specs.Turns.{Turned, asks}
use Rattle.bac_poll_steps.specs.declared.stage.Aim.TheVariants.{Finds}
use Rattle.bac_poll_steps.specs.declared.stage.Stage.TheVariants.{Oldest, Prior}
use Rattle.bac_poll_steps.specs.declared.turn.PollEnd.TheVariants.{CaughtUp}
use Rattle.bac_poll_laws.proofs.Delivered.{runs}
use Rattle.bac_poll_laws.proofs.Fronts.{Knows}
use Rattle.bac_poll_laws.proofs.Once.{begins_standing}
use Rattle.bac_poll_laws.proofs.Ordered.{IsFrontOf, IsOf, near_ordinal}

-- ---- the first question

finding_by : (b : Bool) → is_finding (if b then Oldest Finds else Prior) ≡ true
finding_by true = refl
finding_by false = refl

finding_first : (newest : Option KeptAs) (next : ℕ) → is_finding (first_stage newest next) ≡ true
finding_first (Some kept) next = refl
finding_first None next = finding_by (next == 1)

module _ (P : Numbered → Type 0) (F U V C : ℕ → Type 0) where
  knows_by : (p : PollState) (b : Bool) → Knows P F U V C p (if b then Oldest Finds else Prior)
  knows_by p true = tt
  knows_by p false = tt

  knows_first : (p : PollState) (newest : Option KeptAs) (next : ℕ) → Knows P F U V C p (first_stage newest next)
  knows_first p (Some kept) next = tt
  knows_first p None next = knows_by p (next == 1)

-- ---- what is said of the newest record

newest_by : (C D : ℕ → Type 0) → ((n : ℕ) → C n → D n) → (p : PollState) (reply : Option Reply) → ShowsNewest C p reply → ShowsNewest D p reply
newest_by C D f p None newest = tt
newest_by C D f p (Some reply) newest = λ last at many whole ends. f _ (newest last at many whole ends)

says_by : (C D : ℕ → Type 0) → ((n : ℕ) → C n → D n) → (p : PollState) (answer : Answer) → SaysNewest C p answer → SaysNewest D p answer
says_by C D f p (Replied datagram) says = newest_by C D f p (reply_in p datagram) says
says_by C D f p (Counted count) says = λ total told. f _ (says total told)
says_by C D f p (Revised revision) says = tt
says_by C D f p (Restarted restart moment) says = tt

say_by : (C D : Moment → ℕ → Type 0) → ((m : Moment) (n : ℕ) → C m n → D m n) → (p : PollState) (given : List Given) → SayNewest C p given → SayNewest D p given
say_by C D f p [] say = tt
say_by C D f p (given ∷ others) say =
    (says_by (C given.moment) (D given.moment) (f given.moment) (asking_less given.less p) given.answer say.0, say_by C D f (after_given p given).poll others say.1)

-- ---- the laws

-- what is known of a poll that begins
module _ (H : History) (low s : ℕ) (p : PollState) (joined : IsJoined low s p) where
  starts_at : p.next ≡ sequence_number s
  starts_at = ap (λ (q : PollState). q.next) joined.is ∙ joined.next

  starts_standing : IsStanding (IsOf H low []) Whichever p
  starts_standing =
      subst (IsStanding (IsOf H low []) Whichever) (sym joined.is)
      ((begins_standing (IsOf H low []) Whichever joined.log joined.device joined.many joined.told).0 joined.at joined.known)

  starts_finding : is_finding p.stage ≡ true
  starts_finding = ap (λ (q : PollState). is_finding q.stage) joined.is ∙ finding_first joined.at.newest joined.at.next

  starts_knowing : (C : ℕ → Type 0) → Knows (IsOf H low []) (IsFrontOf H low []) Whichever Whichever C p p.stage
  starts_knowing C =
      subst (λ (q : PollState). Knows (IsOf H low []) (IsFrontOf H low []) Whichever Whichever C q q.stage) (sym joined.is)
      (knows_first (IsOf H low []) (IsFrontOf H low []) Whichever Whichever C (joining joined.log joined.device joined.many joined.at joined.told) joined.at.newest joined.at.next)

-- nothing from the ordinal of this number on was held at one of these moments
abbrev pub IsNone : ℕ → List Moment → ℕ → Type 0
IsNone low M n = (k : ℕ) × (n ≡ sequence_number k) × LiesIn low k × WasNone M k

pub none_newer : (low : ℕ) (m : Moment) (M : List Moment) (n : ℕ) → IsNone low (m ∷ []) n → IsNone low (m ∷ M) n
none_newer low m M n is = (is.0, is.1, is.2, by is.3)
  where
    by : NoneFrom is.0 m ⊎ ⊥ → WasNone (m ∷ M) is.0
    by (inl none) = inl none
    by (inr never) = absurd never

pub none_rises : (H : History) (low : ℕ) (m : Moment) (M : List Moment) (r : Numbered) → IsOf H low M r → IsNone low (m ∷ []) r.number →
    IsNone low (m ∷ []) (number_after r.number 1)
none_rises H low m M r is none =
    let same : is.0 ≡ none.0 = near_ordinal low is.0 none.0 (is.4, omega (arith, is.5)) none.2 (sym is.1 ∙ none.1) in
    (is.0 + 1, ap (λ (k : ℕ). number_after k 1) is.1 ∙ after-number is.0 1, (omega (arith, is.4), omega (arith, is.5)), by same none.3)
  where
    by : is.0 ≡ none.0 → NoneFrom none.0 m ⊎ ⊥ → WasNone (m ∷ []) (is.0 + 1)
    by same (inl nothing) = inl (λ k from held. nothing k (omega (arith, same, from)) held)
    by same (inr never) = absurd never

-- what is said on a condition
newest_if : (Y : Type 0) (D : ℕ → Type 0) (p : PollState) (reply : Option Reply) → (Y → ShowsNewest D p reply) → ShowsNewest (λ n. Y → D n) p reply
newest_if Y D p None says = tt
newest_if Y D p (Some reply) says = λ last at many whole ends y. says y last at many whole ends

says_if : (Y : Type 0) (D : ℕ → Type 0) (p : PollState) (answer : Answer) → (Y → SaysNewest D p answer) → SaysNewest (λ n. Y → D n) p answer
says_if Y D p (Replied datagram) says = newest_if Y D p (reply_in p datagram) says
says_if Y D p (Counted count) says = λ total told y. says y total told
says_if Y D p (Revised revision) says = tt
says_if Y D p (Restarted restart moment) says = tt

say_if : (Y : Type 0) (D : Moment → ℕ → Type 0) (p : PollState) (given : List Given) → (Y → SayNewest D p given) → SayNewest (λ m n. Y → D m n) p given
say_if Y D p [] say = tt
say_if Y D p (given ∷ others) say =
    (says_if Y (D given.moment) (asking_less given.less p) given.answer (λ y. (say y).0), say_if Y D (after_given p given).poll others (λ y. (say y).1))

-- up to where answers deliver the log, and are caught up where they tell their newest record
pub run_up : (H : History) (low : ℕ) (M N : List Moment) (p : PollState) (s : ℕ) (t : Turned) (given : List Given) → 0 < low → p.next ≡ sequence_number s → LiesIn low s →
    IsStanding (IsOf H low M) Whichever p → is_finding p.stage ≡ true →
    ((C : ℕ → Type 0) → Knows (IsOf H low M) (IsFrontOf H low M) Whichever Whichever C p p.stage) → ShowHeld low H p given → (t.end ≡ Some CaughtUp → ⊥) → t.poll ≡ p →
    (u : ℕ) × Delivers H M p s given u × IsUpAt low N t given u
run_up H low M N p s t given some here lies is find knows shows going same =
    let Y = SayNewest (NoneBehind low) p given in
    let D : Moment → ℕ → Type 0 = λ m. IsNone low (m ∷ []) in
    let all = runs H low (λ M n. Y → IsNone low M n) (λ m M n none y. let k = none y in (k.0, k.1, k.2, inr k.3)) (λ m M n none y. none_newer low m M n (none y))
    (λ m M r is none y. none_rises H low m M r is (none y)) M N p s t given some here lies is find (knows (λ n. Y → IsNone low N n)) shows
    (say_if Y D p given (λ y. say_by (NoneBehind low) D (λ m n is. (is.0, is.1, is.2, inl is.3)) p given y)) (λ up. absurd (going up)) in
    let up : 1 < (last_turn t p given).poll.walk.count → Y → (last_turn t p given).end ≡ Some CaughtUp → (last_turn t p given).anew ≡ false → WasNone (since N p given) all.0 × LiesIn low all.0 = λ more y up kept.
    let end = all.2 up kept more in
    let none = end.0 y in
    let k : none.0 ≡ all.0 = near_ordinal low none.0 all.0 none.2 end.1 (sym none.1) in
    (subst (WasNone (since N p given)) k none.3, end.1) in (
      all.0,
      all.1,
      subst (λ (q : PollState). 1 < (last_turn t q given).poll.walk.count → SayNewest (NoneBehind low) q given → (last_turn t q given).end ≡ Some CaughtUp → (last_turn t q given).anew ≡ false →
          WasNone (since N q given) all.0 × LiesIn low all.0) (sym same) up,
    )

pub delivers : PollsDeliver
delivers H low s p given joined shows =
    run_up H low [] [] p s (asks p) given joined.some (starts_at H low s p joined) joined.lies (starts_standing H low s p joined) (starts_finding H low s p joined)
    (starts_knowing H low s p joined) shows (λ up. absurd (cc)) refl
