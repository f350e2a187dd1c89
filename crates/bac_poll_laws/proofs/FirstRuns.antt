-- What answers deliver to a poll that knows no record yet.
use Rattle.std.proofs.Common.{arith, ◌≡◌, ℕ, ◌<◌, Bool, true, false, if◌then◌else◌, Option, None, Some, List, [], ◌∷◌}
use Rattle.std.proofs.Common.{◌++◌, map, refl, sym, ap, subst, ◌∙◌, ◌⊎◌, inl, inr, zero, suc}
use Rattle.bac_log.specs.TrendLog.{sequence_number}
use Rattle.bac_link.specs.Delivery.{History, Moment}
use Rattle.bac_walk.specs.Walks.{item_of}
use Rattle.bac_walk.specs.declared.batch.Numbered.{Numbered}
use Rattle.bac_poll_laws.specs.Caught.{IsUpAt}
use Rattle.bac_poll_laws.specs.Delivers.{AreOf, BeginsAt, Brings, Delivers, Given, IsGap, LiesIn, NoneBefore, ShowHeld}
use Rattle.bac_poll_laws.specs.Delivers.{ShowsHeld, WasFront, after_given, asking_less, is_finding}
use Rattle.bac_poll_laws.specs.Firsts.{CountsIn, DeliversFirst, FirstsDeliver, IsFirst, IsNumberIn, ShowFirst}
use Rattle.bac_poll_laws.specs.Laws.{Answer, Clears, Counted, Covers, Goes, HasSome, IsAt, IsBefore, IsBegun}
use Rattle.bac_poll_laws.specs.Laws.{IsStanding, IsWhole, Replied, Restarted, Revised, Whichever, after_answer}
use Rattle.bac_poll_laws.specs.Laws.{start_of, IsLast}
use Rattle.bac_poll.specs.Poll.{after_heard, after_too_many, more_of, reply_in}
use Rattle.bac_poll.specs.State.{PollState, Reply}
use Rattle.bac_poll.specs.Turns.{Turned, gap_up_to}
use Rattle.bac_poll_steps.specs.declared.stage.Aim.TheVariants.{Finds, Renews, Starts}
use Rattle.bac_poll_steps.specs.declared.stage.Stage.{Stage}
use Rattle.bac_poll_steps.specs.declared.stage.Stage.TheVariants as stage
use Rattle.bac_poll_steps.specs.declared.turn.Beginning.{Beginning}
use Rattle.bac_poll_steps.specs.declared.turn.PollEnd.TheVariants.{CaughtUp}
use Rattle.bac_poll_laws.proofs.Delivered.{ClearsCount, answer_goes, at_more, less_standing, before_front, clears_by}
use Rattle.bac_poll_laws.proofs.Delivered.{counts_by, counts_of}
use Rattle.bac_poll_laws.proofs.Firsts.{BeginsWith, FrontAt, SaysFirst, Seeks, count_first, stage_first}
use Rattle.bac_poll_laws.proofs.Fronts.{Knows}
use Rattle.bac_poll_laws.proofs.Ordered.{IsFrontOf, IsOf, fore_ahead, gap_is, gap_mid, one_before, one_is, records_of}
use Rattle.bac_poll_laws.proofs.Polls.{run_up}

-- ---- what is known by the stage

module _ (F G N : ℕ → Type 0) (more : (n : ℕ) → F n → G n) where
  seeks_more : (p : PollState) (what : Stage) → Seeks F N p what → Seeks G N p what
  seeks_more p stage.Joins seeks = seeks
  seeks_more p stage.Prior seeks = seeks
  seeks_more p stage.Ahead seeks = seeks
  seeks_more p stage.Again seeks = seeks
  seeks_more p stage.Each seeks = seeks
  seeks_more p stage.ByNumber seeks = seeks
  seeks_more p (stage.Oldest Finds) seeks = seeks
  seeks_more p (stage.Oldest Renews) seeks = tt
  seeks_more p (stage.Oldest Starts) seeks = (seeks.0, λ none told. more 1 (seeks.1 none told))
  seeks_more p (stage.Counts Finds) seeks = seeks
  seeks_more p (stage.Counts Renews) seeks = tt
  seeks_more p (stage.Counts Starts) seeks = seeks
  seeks_more p (stage.UpTo Finds) seeks = seeks
  seeks_more p (stage.UpTo Renews) seeks = tt
  seeks_more p (stage.UpTo Starts) seeks = seeks
  seeks_more p (stage.Back Finds) seeks = seeks
  seeks_more p (stage.Back Renews) seeks = tt
  seeks_more p (stage.Back Starts) seeks = seeks
  seeks_more p stage.Revision seeks = seeks
  seeks_more p stage.Restart seeks = seeks

module _ (F N : ℕ → Type 0) where
  -- fewer records are asked for
  seeks_less_at : (p : PollState) (what : Stage) → Seeks F N p what → Seeks F N (after_too_many p) what
  seeks_less_at p stage.Joins seeks = seeks
  seeks_less_at p stage.Prior seeks = seeks
  seeks_less_at p stage.Ahead seeks = seeks
  seeks_less_at p stage.Again seeks = seeks
  seeks_less_at p stage.Each seeks = seeks
  seeks_less_at p stage.ByNumber seeks = seeks
  seeks_less_at p (stage.Oldest Finds) seeks = seeks
  seeks_less_at p (stage.Oldest Renews) seeks = tt
  seeks_less_at p (stage.Oldest Starts) seeks = seeks
  seeks_less_at p (stage.Counts Finds) seeks = seeks
  seeks_less_at p (stage.Counts Renews) seeks = tt
  seeks_less_at p (stage.Counts Starts) seeks = seeks
  seeks_less_at p (stage.UpTo Finds) seeks = seeks
  seeks_less_at p (stage.UpTo Renews) seeks = tt
  seeks_less_at p (stage.UpTo Starts) seeks = seeks
  seeks_less_at p (stage.Back Finds) seeks = seeks
  seeks_less_at p (stage.Back Renews) seeks = tt
  seeks_less_at p (stage.Back Starts) seeks = seeks
  seeks_less_at p stage.Revision seeks = seeks
  seeks_less_at p stage.Restart seeks = seeks

  seeks_less : (n : ℕ) (p : PollState) → Seeks F N p p.stage → Seeks F N (asking_less n p) (asking_less n p).stage
  seeks_less zero p seeks = seeks
  seeks_less (suc n) p seeks = seeks_less n (after_too_many p) (seeks_less_at p p.stage seeks)

module _ (P : Numbered → Type 0) (F N : ℕ → Type 0) where
  -- such a poll is at the beginning of an epoch
  begun_at : (p : PollState) (what : Stage) → Seeks F N p what → IsAt P Whichever p what → IsBegun p × (is_finding what ≡ false)
  begun_at p stage.Joins seeks at = absurd seeks
  begun_at p stage.Prior seeks at = absurd seeks
  begun_at p stage.Ahead seeks at = absurd seeks
  begun_at p stage.Again seeks at = absurd seeks
  begun_at p stage.Each seeks at = absurd seeks
  begun_at p stage.ByNumber seeks at = absurd seeks
  begun_at p (stage.Oldest Finds) seeks at = absurd seeks
  begun_at p (stage.Oldest Renews) seeks at = (at, refl)
  begun_at p (stage.Oldest Starts) seeks at = (at, refl)
  begun_at p (stage.Counts Finds) seeks at = absurd seeks
  begun_at p (stage.Counts Renews) seeks at = (at, refl)
  begun_at p (stage.Counts Starts) seeks at = (at, refl)
  begun_at p (stage.UpTo Finds) seeks at = absurd seeks
  begun_at p (stage.UpTo Renews) seeks at = (at, refl)
  begun_at p (stage.UpTo Starts) seeks at = (at, refl)
  begun_at p (stage.Back Finds) seeks at = absurd seeks
  begun_at p (stage.Back Renews) seeks at = (at.0, refl)
  begun_at p (stage.Back Starts) seeks at = (at.0, refl)
  begun_at p stage.Revision seeks at = absurd seeks
  begun_at p stage.Restart seeks at = absurd seeks

-- the first number of what is kept
start_is : (begins : Option Beginning) (first next : ℕ) → next ≡ 1 → IsFirst begins first → start_of begins next ≡ first
start_is None first next one is = one ∙ sym is
start_is (Some begins) first next one is = ap (λ (c : Bool). if c then next else begins.number) is.1 ∙ is.0

module _ (H : History) (low : ℕ) where
  -- ---- one answer

  heard_first : (m : Moment) (M : List Moment) (p : PollState) (reply : Option Reply) → IsStanding (IsOf H low (m ∷ M)) Whichever p →
      Seeks (IsFrontOf H low (m ∷ M)) (IsNumberIn low) p p.stage → IsBegun p → Clears (IsFrontOf H low (m ∷ M)) p reply → ClearsCount (IsFrontOf H low (m ∷ M)) p reply →
      SaysFirst (IsFrontOf H low (m ∷ M)) (IsNumberIn low) (after_heard p reply)
  heard_first m M p None is seeks begun clear none = inl (refl, refl, refl, refl, λ go. absurd (cc))
  heard_first m M p (Some reply) is seeks begun clear none =
      stage_first (IsFrontOf H low (m ∷ M)) (IsNumberIn low) (λ n front. (front.0, front.1, front.2)) (IsOf H low (m ∷ M)) p (more_of p reply) p.stage reply seeks is.1 begun clear none

  answer_first : (m : Moment) (M : List Moment) (p : PollState) (answer : Answer) → IsStanding (IsOf H low (m ∷ M)) Whichever p →
      Seeks (IsFrontOf H low (m ∷ M)) (IsNumberIn low) p p.stage → IsBegun p → ShowsHeld low m H p answer → CountsIn low m answer →
      SaysFirst (IsFrontOf H low (m ∷ M)) (IsNumberIn low) (after_answer p answer)
  answer_first m M p (Replied datagram) is seeks begun shows counts =
      heard_first m M p (reply_in p datagram) is seeks begun
      (clears_by (NoneBefore low m) (IsFrontOf H low (m ∷ M)) (before_front H low m M) p (reply_in p datagram) shows.1) (counts_by H low m M p (reply_in p datagram) (counts_of (NoneBefore low m) p (reply_in p datagram) shows.1))
  answer_first m M p (Counted count) is seeks begun shows counts =
      count_first (IsFrontOf H low (m ∷ M)) (IsNumberIn low) p p.stage count seeks
      (λ total told. ((counts total told).0, λ none. before_front H low m M 1 ((counts total told).1 none)))
  answer_first m M p (Revised revision) is seeks begun shows counts = absurd (subst (Seeks (IsFrontOf H low (m ∷ M)) (IsNumberIn low) p) shows seeks)
  answer_first m M p (Restarted restart moment) is seeks begun shows counts = absurd (subst (Seeks (IsFrontOf H low (m ∷ M)) (IsNumberIn low) p) shows seeks)

  -- ---- where an epoch begins

  -- the ordinal of a number from which records lead, and where to
  PlaceOf : List Moment → ℕ → List Numbered → ℕ → Type 0
  PlaceOf M n rs next = (k : ℕ) × (n ≡ sequence_number k) × ((u : ℕ) × AreOf H M k rs u × (next ≡ sequence_number u) × (HasSome rs → LiesIn low u))

  place_of : (M : List Moment) (n next : ℕ) (rs : List Numbered) → HasSome rs ⊎ (IsNumberIn low n ⊎ (n ≡ 1)) → Covers (IsOf H low M) n (map item_of rs) next → PlaceOf M n rs next
  unfolding PlaceOf
  place_of M n next [] (inl some) cov = absurd some
  place_of M n next [] (inr (inl number)) cov = (number.0, number.1, (number.0, refl, cov ∙ number.1, λ some. number.2))
  place_of M n next [] (inr (inr one)) cov = (1, one, (1, refl, cov ∙ one, λ some. absurd some))
  place_of M n next (r ∷ rs) any cov =
      let is : IsOf H low M (record { number = r.number; entry = r.entry }) = cov.1 in
      let here : n ≡ sequence_number is.0 = sym cov.0 ∙ is.1 in
      let e = records_of H low M is.0 n next (r ∷ rs) here (is.4, omega (arith, is.5)) cov in
      (is.0, here, (e.0, e.1, e.2, λ some. e.3))

  -- what a turn brings with which an epoch begins
  Begun : List Moment → Turned → Type 0
  Begun M t = (s : ℕ) × IsFirst t.begins (sequence_number s) × ((u : ℕ) × Brings H M s t u × (HasSome t.records → LiesIn low u))

  brings_at : (M : List Moment) (s mid u : ℕ) (t : Turned) → t.anew ≡ false → t.gap ≡ [] → IsGap s t.missing mid → (s < mid → WasFront M mid) → AreOf H M mid t.records u →
      t.poll.next ≡ sequence_number u → Brings H M s t u
  brings_at M s mid u t same none gap gone records next = record {
    mid = mid;
    missing = gap;
    gone = λ more. inl (gone more);
    start = mid;
    first = mid;
    begins = subst (λ (c : Bool). BeginsAt c mid mid mid) (sym same) (refl, refl);
    gap = subst (λ items. IsGap mid items mid) (sym none) refl;
    dropped = λ more. absurd (omega (arith, more));
    records = records;
    next = next;
  }

  begun_by : 0 < low → (M : List Moment) (b first : ℕ) (t : Turned) → IsFirst t.begins b → t.missing ≡ gap_up_to b first → t.gap ≡ [] → t.anew ≡ false →
      FrontAt (IsFrontOf H low M) (IsNumberIn low) b first t.records → Covers (IsOf H low M) first (map item_of t.records) t.poll.next → Begun M t
  unfolding Begun PlaceOf
  begun_by some M b first t is missing none same (inl (equal, at)) cov =
      let e = place_of M first t.poll.next t.records (subst (λ (n : ℕ). HasSome t.records ⊎ (IsNumberIn low n ⊎ (n ≡ 1))) equal at) cov in
      let number : b ≡ sequence_number e.0 = equal ∙ e.1 in (
        e.0,
        subst (IsFirst t.begins) number is,
        (
          e.2.0,
          brings_at M e.0 e.0 e.2.0 t same none (subst (λ items. IsGap e.0 items e.0) (sym missing) (gap_is e.0 e.0 b first number e.1 (omega arith) (omega arith)))
              (λ more. absurd (omega (arith, more))) e.2.1 e.2.2,
          e.2.3,
        ),
      )
  begun_by some M b first t is missing none same (inr (front, inl one)) cov =
      let e = records_of H low M front.0 first t.poll.next t.records front.1 front.2 cov in
      let at = one_is front.0 (omega (arith, some, front.2.0)) in
      let number : b ≡ sequence_number (one_before front.0) = one ∙ at.0 in (
        one_before front.0,
        subst (IsFirst t.begins) number is,
        (
          e.0,
          brings_at M (one_before front.0) front.0 e.0 t same none
              (subst (λ items. IsGap (one_before front.0) items front.0) (sym missing) (gap_is (one_before front.0) front.0 b first number front.1 at.1 at.2)) (λ more. front.3) e.1 e.2,
          λ has. e.3,
        ),
      )
  begun_by some M b first t is missing none same (inr (front, inr (number, ahead))) cov =
      let e = records_of H low M front.0 first t.poll.next t.records front.1 front.2 cov in
      let le = fore_ahead low number.0 front.0 b first number.1 front.1 number.2 front.2 ahead in (
        number.0,
        subst (IsFirst t.begins) number.1 is,
        (
          e.0,
          brings_at M number.0 front.0 e.0 t same none
              (subst (λ items. IsGap number.0 items front.0) (sym missing) (gap_is number.0 front.0 b first number.1 front.1 le (omega (arith, number.2.0, front.2.1)))) (λ more. front.3) e.1 e.2,
          λ has. e.3,
        ),
      )

  begun_of : 0 < low → (M : List Moment) (next : ℕ) (t : Turned) → next ≡ 1 → IsWhole (IsOf H low M) Whichever next t → BeginsWith (IsFrontOf H low M) (IsNumberIn low) t → Begun M t
  begun_of some M next t one whole (b, first, is, missing, none, same, front, go, goes) =
      let P = IsOf H low M in
      let before : Covers P b t.missing whole.mid = subst (λ (n : ℕ). Covers P n t.missing whole.mid) (start_is t.begins b next one is) whole.before in
      let end : whole.mid ≡ first = gap_mid P b first whole.mid (subst (λ items. Covers P b items whole.mid) missing before) in
      let rest : Covers P whole.mid (t.gap ++ map item_of t.records) t.poll.next =
      subst (λ (c : Bool). Covers P (if c then 1 else whole.mid) (t.gap ++ map item_of t.records) t.poll.next) same whole.behind in
      let records : Covers P whole.mid (map item_of t.records) t.poll.next = subst (λ items. Covers P whole.mid (items ++ map item_of t.records) t.poll.next) none rest in
      begun_by some M b first t is missing none same front (subst (λ (n : ℕ). Covers P n (map item_of t.records) t.poll.next) end records)

  -- ---- one answer after the other

  more_front : (m : Moment) (M : List Moment) (n : ℕ) → IsFrontOf H low M n → IsFrontOf H low (m ∷ M) n
  more_front m M n is = (is.0, is.1, is.2, inr is.3)

  -- a poll that begins its epoch goes on
  goes_first : 0 < low → (m : Moment) (M : List Moment) (u : ℕ) (t : Turned) (others : List Given) → t.poll.next ≡ sequence_number u → (HasSome t.records → LiesIn low u) →
      (t.end ≡ None → (t.poll.stage ≡ stage.Joins) × HasSome t.records) → (HasSome t.records → t.end ≡ None) →
      (t.end ≡ None → IsStanding (IsOf H low (m ∷ M)) Whichever t.poll) → IsLast t others →
      (is_finding t.poll.stage ≡ true → ShowHeld low H t.poll others) →
      (x : ℕ) × Delivers H (m ∷ M) t.poll u others x × (HasSome t.records → IsUpAt low (m ∷ []) t others x)
  goes_first some m M u t [] here lies joins goes is last shows = (u, refl, λ has more say up same. absurd (never up (goes has)))
    where
      never : t.end ≡ Some CaughtUp → t.end ≡ None → ⊥
      never up none = let both : Some CaughtUp ≡ None = sym up ∙ none in absurd (cc)
  goes_first some m M u t (given ∷ others) here lies joins goes is last shows =
      let joined = joins last in
      let all = run_up H low (m ∷ M) (m ∷ []) t.poll u t (given ∷ others) some here (lies joined.1) (is last) (ap is_finding joined.0)
      (λ C. subst (Knows (IsOf H low (m ∷ M)) (IsFrontOf H low (m ∷ M)) Whichever Whichever C t.poll) (sym joined.0) tt) (shows (ap is_finding joined.0)) (λ up. never up last) refl in
      (all.0, all.1, λ has. all.2)
    where
      never : t.end ≡ Some CaughtUp → t.end ≡ None → ⊥
      never up none = let both : Some CaughtUp ≡ None = sym up ∙ none in absurd (cc)

  -- a poll that doesn't yet goes on
  quiet_goes : (m : Moment) (M : List Moment) (t : Turned) (others : List Given) → (t.end ≡ None → Seeks (IsFrontOf H low (m ∷ M)) (IsNumberIn low) t.poll t.poll.stage) →
      (t.end ≡ None → IsStanding (IsOf H low (m ∷ M)) Whichever t.poll) → IsLast t others → (is_finding t.poll.stage ≡ false → ShowFirst low H t.poll others) →
      (IsStanding (IsOf H low (m ∷ M)) Whichever t.poll → Seeks (IsFrontOf H low (m ∷ M)) (IsNumberIn low) t.poll t.poll.stage → ShowFirst low H t.poll others →
      DeliversFirst low H (m ∷ M) t.poll others) → DeliversFirst low H (m ∷ M) t.poll others
  quiet_goes m M t [] seeks is last shows rest = tt
  quiet_goes m M t (given ∷ others) seeks is last shows rest =
      let standing = is last in
      let seeking = seeks last in
      rest standing seeking (shows (begun_at (IsOf H low (m ∷ M)) (IsFrontOf H low (m ∷ M)) (IsNumberIn low) t.poll t.poll.stage seeking standing.1).1)

  begun_in : (m : Moment) (M : List Moment) (next : ℕ) (t : Turned) (others : List Given) → 0 < low → next ≡ 1 → Goes (IsOf H low (m ∷ M)) Whichever next t →
      BeginsWith (IsFrontOf H low (m ∷ M)) (IsNumberIn low) t → IsLast t others → (is_finding t.poll.stage ≡ true → ShowHeld low H t.poll others) →
      (s : ℕ) × IsFirst t.begins (sequence_number s) × ((u : ℕ) × Brings H (m ∷ M) s t u × ((x : ℕ) × Delivers H (m ∷ M) t.poll u others x × (HasSome t.records → IsUpAt low (m ∷ []) t others x)))
  unfolding Begun
  begun_in m M next t others some one goes begins last shows =
      let e = begun_of some (m ∷ M) next t one goes.0 begins in
      (e.0, e.1, (e.2.0, e.2.1, goes_first some m M e.2.0 t others e.2.1.next e.2.2 begins.7 begins.8 goes.1 last shows))

  first_runs : 0 < low → (M : List Moment) (p : PollState) (given : List Given) → IsStanding (IsOf H low M) Whichever p → Seeks (IsFrontOf H low M) (IsNumberIn low) p p.stage →
      ShowFirst low H p given → DeliversFirst low H M p given
  first_runs some M p [] is seeks shows = tt
  first_runs some M p (given ∷ others) is seeks shows =
      let m = given.moment in
      let q = asking_less given.less p in
      let still = less_standing (IsOf H low M) Whichever given.less p is in
      let standing : IsStanding (IsOf H low (m ∷ M)) Whichever q = (still.0, at_more H low m M q q.stage still.1) in
      let sought = seeks_less (IsFrontOf H low M) (IsNumberIn low) given.less p seeks in
      let seeking = seeks_more (IsFrontOf H low M) (IsFrontOf H low (m ∷ M)) (IsNumberIn low) (more_front m M) q q.stage sought in
      let begun = (begun_at (IsOf H low (m ∷ M)) (IsFrontOf H low (m ∷ M)) (IsNumberIn low) q q.stage seeking standing.1).0 in
      let goes = answer_goes H low m M q given.answer shows.0 standing shows.1 in
      by begun.0 goes (answer_first m M q given.answer standing seeking begun shows.1 shows.2)
      (λ is seeks shows. first_runs some (m ∷ M) (after_given p given).poll others is seeks shows)
    where
      by : (asking_less given.less p).next ≡ 1 → Goes (IsOf H low (given.moment ∷ M)) Whichever (asking_less given.less p).next (after_given p given) →
          SaysFirst (IsFrontOf H low (given.moment ∷ M)) (IsNumberIn low) (after_given p given) →
          (IsStanding (IsOf H low (given.moment ∷ M)) Whichever (after_given p given).poll →
          Seeks (IsFrontOf H low (given.moment ∷ M)) (IsNumberIn low) (after_given p given).poll (after_given p given).poll.stage →
          ShowFirst low H (after_given p given).poll others → DeliversFirst low H (given.moment ∷ M) (after_given p given).poll others) →
          DeliversFirst low H M p (given ∷ others)
      by one goes (inl quiet) rest =
          inl ((quiet.0, quiet.1, quiet.2, quiet.3), quiet_goes given.moment M (after_given p given) others quiet.4 goes.1 shows.3 shows.5 rest)
      by one goes (inr begins) rest = inr (begun_in given.moment M (asking_less given.less p).next (after_given p given) others some one goes begins shows.3 shows.4)

pub firsts : FirstsDeliver
firsts H low p given fresh shows = first_runs H low fresh.some [] p given (standing fresh.asks) (seeks fresh.asks) shows
  where
    at_stage : (what : Stage) → p.stage ≡ what → IsAt (IsOf H low []) Whichever p what → IsStanding (IsOf H low []) Whichever p
    at_stage what is at = (subst (λ newest. IsBefore newest p.next) (sym fresh.begun.1) tt, subst (IsAt (IsOf H low []) Whichever p) (sym is) at)

    standing : (p.stage ≡ stage.Oldest Renews) ⊎ (p.stage ≡ stage.Counts Starts) → IsStanding (IsOf H low []) Whichever p
    standing (inl is) = at_stage (stage.Oldest Renews) is fresh.begun
    standing (inr is) = at_stage (stage.Counts Starts) is fresh.begun

    seeks : (p.stage ≡ stage.Oldest Renews) ⊎ (p.stage ≡ stage.Counts Starts) → Seeks (IsFrontOf H low []) (IsNumberIn low) p p.stage
    seeks (inl is) = subst (Seeks (IsFrontOf H low []) (IsNumberIn low) p) (sym is) tt
    seeks (inr is) = subst (Seeks (IsFrontOf H low []) (IsNumberIn low) p) (sym is) fresh.counted
