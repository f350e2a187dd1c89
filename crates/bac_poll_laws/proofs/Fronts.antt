-- Where gaps lie, and when a poll is caught up: what turns say of a poll that stands in an epoch.
use Rattle.std.proofs.Common.{arith, is_some, ◌≡◌, ℕ, ◌<◌, ◌==◌, ◌&&◌, not, Bool, true, false, if◌then◌else◌, nat_lt}
use Rattle.std.proofs.Common.{Option, None, Some, List, [], ◌∷◌, ◌++◌, length, map, refl, sym, ap, subst, ◌∙◌, ◌⊎◌, inl}
use Rattle.std.proofs.Common.{inr, suc, ◌-◌, slice_get, cond}
use Rattle.std.proofs.lemmas.Bool.{eqb-true}
use Rattle.bac_link.specs.Ordinals.{is_ahead, number_after}
use Rattle.bac_walk.specs.Place.{WalkPlace}
use Rattle.bac_walk.specs.Walks.{item_of}
use Rattle.bac_walk.specs.declared.batch.Numbered.{Numbered}
use Rattle.bac_poll_laws.specs.Delivers.{is_finding}
use Rattle.bac_poll.specs.Epochs.{another, another_by, another_of, asks_oldest}
use Rattle.bac_poll.specs.Gone.{asks_restart, asks_revision, asks_word, by_gone, by_word, gone_of, retold}
use Rattle.bac_poll.specs.Joins.{ahead, asks_again, asks_each, at_hour, each, each_all, each_by, each_means, each_next}
use Rattle.bac_poll.specs.Joins.{found, goes_nowhere, hour, joined, joins, joins_by, joins_from, lost, lost_ahead}
use Rattle.bac_poll.specs.Joins.{moved_ahead, prior, again, again_by, again_equal, again_from, brings_ahead}
use Rattle.bac_poll.specs.Known.{means_in, number_in, record_at, records_behind, shown_in, maybe_shown, word_of}
use Rattle.bac_poll_laws.specs.Laws.{Covers, HasSome, IsBefore, IsRun}
use Rattle.bac_poll.specs.State.{KeptAs, PollState, Reply, kept_of}
use Rattle.bac_poll.specs.Turns.{Turned, anew, asks, behind, brings, brings_to, confirmed, end_of, ends, first_in}
use Rattle.bac_poll.specs.Turns.{first_number, gap_up_to, last_in, number_or, renewed, standing_alone, standing_at}
use Rattle.bac_poll_steps.specs.declared.gone.Gone.{Gone}
use Rattle.bac_poll_steps.specs.declared.gone.Gone.TheVariants.{Dropped, Doubtful, Both}
use Rattle.bac_known.specs.declared.known.Means.{Means}
use Rattle.bac_known.specs.declared.known.Means.TheVariants.{Shifted, Partly, Same, Unshown, Another}
use Rattle.bac_known.specs.declared.known.Shown.{Shown}
use Rattle.bac_known.specs.declared.known.Shown.TheVariants as shown
use Rattle.bac_poll_steps.specs.declared.stage.Aim.{Aim}
use Rattle.bac_poll_steps.specs.declared.stage.Aim.TheVariants.{Finds}
use Rattle.bac_poll_steps.specs.declared.stage.Stage.{Stage}
use Rattle.bac_poll_steps.specs.declared.stage.Stage.TheVariants as stage
use Rattle.bac_poll_steps.specs.declared.turn.Line.{Line}
use Rattle.bac_poll_steps.specs.declared.turn.Line.TheVariants as line
use Rattle.bac_poll_steps.specs.declared.turn.PollEnd.{PollEnd}
use Rattle.bac_poll_steps.specs.declared.turn.PollEnd.TheVariants.{CaughtUp, Contradicts, SaysMore}
use Rattle.bac_poll_laws.proofs.Wholes.{run_ends}

-- ---- choices

-- a turn by a choice
pub pick : (T : Turned → Type 0) (b : Bool) (x y : Turned) → (b ≡ true → T x) → (b ≡ false → T y) → T (if b then x else y)
pick T true x y f g = f refl
pick T false x y f g = g refl

next_last : (r s : Numbered) (rs : List Numbered) → last_in (r ∷ s ∷ rs) ≡ last_in (s ∷ rs)
next_last r s rs =
    let at : length (r ∷ s ∷ rs) - 1 ≡ suc (length (s ∷ rs) - 1) = omega arith in
    ap (λ (i : ℕ). slice_get (r ∷ s ∷ rs) i) at

-- records have a last one
pub some_last : (r : Numbered) (rs : List Numbered) → (l : Numbered) × (last_in (r ∷ rs) ≡ Some l)
some_last r [] = (r, refl)
some_last r (s ∷ rs) = let rest = some_last s rs in (rest.0, next_last r s rs ∙ rest.1)

-- a turn of records, by whether there are any
pub brings_by : (T : Turned → Type 0) (p : PollState) (rs : List Numbered) → (rs ≡ [] → T (ends p (end_of p))) →
    ((l : Numbered) → HasSome rs → T (record (asks (behind p rs l)) { records = rs })) → T (brings p rs)
brings_by T p [] none some = none refl
brings_by T p (r ∷ rs) none some =
    let e = some_last r rs in
    let Q : Option Numbered → Type 0 = λ last. T (brings_to p (r ∷ rs) last) in
    subst Q (sym e.1) (some e.0 tt)

caught_at : (b : Bool) → (if b then SaysMore else CaughtUp) ≡ CaughtUp → b ≡ false
caught_at true up = absurd (cc)
caught_at false up = refl

-- no records, none
pub none_of : (rs : List Numbered) → (length rs == 0) ≡ true → rs ≡ []
none_of [] none = refl
none_of (r ∷ rs) none = let same : length (r ∷ rs) ≡ 0 = eqb-true _ _ none in let never : ⊥ = omega (arith, same) in absurd never

pub some_of : (rs : List Numbered) → (length rs == 0) ≡ false → HasSome rs
some_of [] some = absurd (cc)
some_of (r ∷ rs) some = tt

pub never_none : (T : Type 0) (rs : List Numbered) → HasSome rs → rs ≡ [] → T
never_none T [] some none = absurd some
never_none T (r ∷ rs) some none = absurd (cc)

-- ---- the record of a number, with none behind it

last_at : (b : Bool) (n : ℕ) (r held : Numbered) (rs : List Numbered) → (b ≡ true → r.number ≡ n) →
    cond b (Some r) (record_at n rs) ≡ Some held → (if b then rs else records_behind n rs) ≡ [] →
    (record_at n rs ≡ Some held → records_behind n rs ≡ [] → (l : Numbered) × (last_in rs ≡ Some l) × (l.number ≡ n)) →
    (l : Numbered) × (last_in (r ∷ rs) ≡ Some l) × (l.number ≡ n)
last_at true n r held [] same at none rest = (r, refl, same refl)
last_at true n r held (s ∷ rs) same at none rest = absurd (cc)
last_at false n r held [] same at none rest = absurd (cc)
last_at false n r held (s ∷ rs) same at none rest = let e = rest at none in (e.0, next_last r s rs ∙ e.1, e.2)

-- it is the last
pub last_known : (n : ℕ) (rs : List Numbered) (held : Numbered) → record_at n rs ≡ Some held → records_behind n rs ≡ [] →
    (l : Numbered) × (last_in rs ≡ Some l) × (l.number ≡ n)
last_known n [] held at none = absurd (cc)
last_known n (r ∷ rs) held at none =
    last_at (r.number == n) n r held rs (eqb-true r.number n) at none (last_known n rs held)

alone_at : (b : Bool) (rs : List Numbered) → (if b then rs else rs) ≡ rs
alone_at true rs = refl
alone_at false rs = refl

-- of one record none is behind it
pub alone_behind : (n : ℕ) (rs : List Numbered) (held : Numbered) → (length rs == 1) ≡ true → record_at n rs ≡ Some held → records_behind n rs ≡ []
alone_behind n [] held one at = absurd (cc)
alone_behind n (r ∷ []) held one at = alone_at (r.number == n) []
alone_behind n (r ∷ s ∷ rs) held one at = let same : length (r ∷ s ∷ rs) ≡ 1 = eqb-true _ _ one in let never : ⊥ = omega (arith, same) in absurd never

-- what is shown as it is known is shown
equal_at : (kept : KeptAs) (at : Option Numbered) → maybe_shown kept at ≡ shown.Equal → (held : Numbered) × (at ≡ Some held)
equal_at kept None is = absurd (cc)
equal_at kept (Some held) is = (held, refl)

-- ---- what turns say

module _ (P : Numbered → Type 0) (F U V : ℕ → Type 0) where
  -- this number lies ahead of that, or is behind a count that does
  abbrev pub Fore : ℕ → ℕ → Type 0
  Fore n b = (is_ahead n b ≡ true) ⊎ ((total : ℕ) × (b ≡ number_after total 1) × (is_ahead n total ≡ true))

  -- a gap may lie from this number up to that: nothing before its end is held; there is none at 1
  abbrev pub Front : ℕ → ℕ → Type 0
  Front n b = ((n ≡ 1) × (b ≡ 1)) ⊎ (F b × Fore n b)

  -- the number in front of which a gap ends
  abbrev pub first_of : PollState → List Numbered → ℕ
  first_of p held = number_or (number_after p.total 1) (first_in held)

  -- what is held back has a gap in front of it; nothing is, and the poll is caught up behind the gap
  abbrev pub IsWeighed : (ℕ → Type 0) → PollState → List Numbered → Type 0
  IsWeighed C p held = Front p.next (first_of p held) × (held ≡ [] → C (first_of p held))

  -- what is known by the stage: behind this number nothing is held
  abbrev pub Knows : (ℕ → Type 0) → PollState → Stage → Type 0
  Knows C p stage.Joins = Unit {0}
  Knows C p stage.Prior = Unit {0}
  Knows C p stage.Ahead = 1 < p.walk.count → p.more ≡ false → C p.next
  Knows C p stage.Again = Unit {0}
  Knows C p stage.Each = Unit {0}
  Knows C p stage.ByNumber = Unit {0}
  Knows C p (stage.Oldest aim) = Unit {0}
  Knows C p (stage.Counts aim) = Unit {0}
  Knows C p (stage.UpTo aim) = (is_ahead p.next p.total ≡ true) × C (number_after p.total 1)
  Knows C p (stage.Back aim) = means_in p p.held ≡ Unshown
  Knows C p stage.Revision = IsWeighed C p p.held
  Knows C p stage.Restart = IsWeighed C p p.held

  -- the gap of a turn: none; one that may lie there; or one over records that came, which is doubtful
  abbrev pub Left : ℕ → Turned → Type 0
  Left n t =
      (t.missing ≡ []) ⊎ (((b : ℕ) × (t.missing ≡ gap_up_to n b) × Front n b)
      ⊎ ((t.doubtful ≡ true) × ((held : List Numbered) × (b : ℕ) × (t.missing ≡ gap_up_to n b) × Covers P n (map item_of held) b)))

  -- the gap of a new epoch
  abbrev pub LeftAnew : Turned → Type 0
  LeftAnew t = (t.gap ≡ []) ⊎ ((t.anew ≡ true) × ((b : ℕ) × (t.gap ≡ gap_up_to 1 b) × ((b ≡ 1) ⊎ F b)))

  -- the poll goes on
  abbrev pub Stays : Turned → Type 0
  Stays t =
      Knows U t.poll t.poll.stage × (t.anew ≡ true → HasSome t.records) × ((t.records ≡ []) ⊎ Knows V t.poll t.poll.stage)

  -- all of a turn of a poll at this number
  abbrev pub Says : ℕ → WalkPlace → Turned → Type 0
  Says n w t =
      (t.begins ≡ None) × Left n t × LeftAnew t × (t.poll.walk ≡ w)
      × (t.end ≡ Some CaughtUp → 1 < w.count → U t.poll.next × (t.records ≡ []))
      × (t.end ≡ None → is_finding t.poll.stage ≡ true → Stays t)

  -- ---- questions, ends, records

  pub asks_says : (p : PollState) → (is_finding p.stage ≡ true → Knows U p p.stage) → Says p.next p.walk (asks p)
  asks_says p knows = (refl, inl refl, inl refl, refl, λ up. absurd (cc), λ none finding. (knows finding, λ begun. absurd (cc), inl refl))

  pub ends_says : (p : PollState) (why : PollEnd) → (why ≡ CaughtUp → 1 < p.walk.count → U p.next) → Says p.next p.walk (ends p why)
  ends_says p why caught = (refl, inl refl, inl refl, refl, λ up many. (caught (cc) many, refl), λ none finding. absurd (cc))

  pub brings_says : (p : PollState) (rs : List Numbered) → (rs ≡ [] → 1 < p.walk.count → p.more ≡ false → U p.next) → Says p.next p.walk (brings p rs)
  brings_says p rs caught =
      brings_by (Says p.next p.walk) p rs (λ none. ends_says p (end_of p) (λ up many. caught none many (caught_at p.more up)))
      (λ l some. (refl, inl refl, inl refl, refl, λ up. absurd (cc), λ none finding. (tt, λ begun. some, inr tt)))

  -- ---- 6. new epochs

  pub oldest_says : (p : PollState) (aim : Aim) → Says p.next p.walk (asks_oldest p aim)
  oldest_says p aim = (refl, inl refl, inl refl, refl, λ up. absurd (cc), λ none finding. (tt, λ begun. absurd (cc), inl refl))

  pub another_says : (p : PollState) → Says p.next p.walk (another p)
  another_says p =
      pick (Says p.next p.walk) (p.lives == 2) _ _ (λ third. ends_says p Contradicts (λ up. absurd (cc)))
      (λ more. (refl, inl refl, inl refl, refl, λ up. absurd (cc), λ none finding. absurd (cc)))

  pub another_by_says : (p : PollState) (rs : List Numbered) → HasSome rs → Says p.next p.walk (another_by p rs)
  another_by_says p rs some =
      let q = renewed p p.told in
      pick (Says p.next p.walk) (p.lives == 2) _ _ (λ third. ends_says p Contradicts (λ up. absurd (cc)))
      (λ more. pick (λ t. Says p.next p.walk (anew t line.BeganAnew)) (first_number rs == 1) _ _
      (λ first. brings_by (λ t. Says p.next p.walk (anew t line.BeganAnew)) q rs (λ empty. never_none _ rs some empty)
      (λ l has. (refl, inl refl, inl refl, refl, λ up. absurd (cc), λ none finding. (tt, λ begun. has, inr tt))))
      (λ later. (refl, inl refl, inl refl, refl, λ up. absurd (cc), λ none finding. absurd (cc))))

  pub another_of_says : (p : PollState) (total : ℕ) → U (number_after total 1) → Says p.next p.walk (another_of p total)
  another_of_says p total front =
      pick (Says p.next p.walk) (p.lives == 2) _ _ (λ third. ends_says p Contradicts (λ up. absurd (cc)))
      (λ more. pick (λ t. Says p.next p.walk (anew t line.BeganAnew)) (total == 0) _ _
      (λ empty. let none : number_after total 1 ≡ 1 = ap (λ (k : ℕ). number_after k 1) (eqb-true total 0 empty) in
      (refl, inl refl, inl refl, refl, λ up many. (subst U none front, refl), λ none finding. absurd (cc)))
      (λ some. (refl, inl refl, inl refl, refl, λ up. absurd (cc), λ none finding. absurd (cc))))

  -- ---- 4. dropped, or another life

  front_anew : (n b : ℕ) → Front n b → (b ≡ 1) ⊎ F b
  front_anew n b (inl one) = inl one.1
  front_anew n b (inr front) = inr front.0

  by_gone_says : (p : PollState) (first : ℕ) (held : List Numbered) (gone : Gone) → Front p.next first → (held ≡ [] → U first) →
      Says p.next p.walk (by_gone p first held gone)
  by_gone_says p first held Dropped front up =
      brings_by (λ t. Says p.next p.walk (record t { missing = gap_up_to p.next first })) (standing_at (confirmed (retold p)) first) held
      (λ empty. (refl, inr (inl (first, refl, front)), inl refl, refl, λ caught many. (up empty, refl), λ none finding. absurd (cc)))
      (λ l some. (refl, inr (inl (first, refl, front)), inl refl, refl, λ caught. absurd (cc), λ none finding. (tt, λ begun. some, inr tt)))
  by_gone_says p first held Doubtful front up =
      let q = confirmed (retold p) in
      brings_by (λ t. Says p.next p.walk (record t { missing = gap_up_to p.next first; doubtful = true; line = Some (line.DroppedOrBegan q.next first) })) (standing_at q first) held
      (λ empty. (refl, inr (inl (first, refl, front)), inl refl, refl, λ caught many. (up empty, refl), λ none finding. absurd (cc)))
      (λ l some. (refl, inr (inl (first, refl, front)), inl refl, refl, λ caught. absurd (cc), λ none finding. (tt, λ begun. some, inr tt)))
  by_gone_says p first held Both front up =
      let q = standing_at (renewed (retold p) p.told) first in
      brings_by (λ t. Says p.next p.walk (record (anew t line.BeganOrDropped) { missing = gap_up_to p.next first; gap = gap_up_to 1 first })) q held
      (λ empty. (refl, inr (inl (first, refl, front)), inr (refl, (first, refl, front_anew p.next first front)), refl, λ caught many. (up empty, refl), λ none finding. absurd (cc)))
      (λ l some. (
        refl,
        inr (inl (first, refl, front)),
        inr (refl, (first, refl, front_anew p.next first front)),
        refl,
        λ caught. absurd (cc),
        λ none finding. (tt, λ begun. some, inr tt),
      ))

  pub by_word_says : (p : PollState) (held : List Numbered) → IsWeighed U p held → Says p.next p.walk (by_word p held)
  by_word_says p held weighed = by_gone_says p (first_of p held) held (gone_of p (first_in held) (word_of p.word p.again)) weighed.0 weighed.1

  pub restart_says : (p : PollState) (held : List Numbered) (restart : List ℕ) → IsWeighed U p held → Says p.next p.walk (asks_restart p held restart)
  restart_says p held [] weighed = by_word_says p held weighed
  restart_says p held (octet ∷ octets) weighed =
      (refl, inl refl, inl refl, refl, λ up. absurd (cc), λ none finding. (weighed, λ begun. absurd (cc), inl refl))

  pub revision_says : (p : PollState) (held : List Numbered) (revision : Option ℕ) → IsWeighed U p held → Says p.next p.walk (asks_revision p held revision)
  revision_says p held None weighed = restart_says p held p.word.restart weighed
  revision_says p held (Some was) weighed =
      (refl, inl refl, inl refl, refl, λ up. absurd (cc), λ none finding. (weighed, λ begun. absurd (cc), inl refl))

  pub word_says : (p : PollState) (held : List Numbered) → IsWeighed U p held → Says p.next p.walk (asks_word p held)
  word_says p held weighed = revision_says (record p { again = p.told }) held p.word.revision weighed

  -- ---- 1. each question shows the record before it

  pub each_asks : (p : PollState) (held : List Numbered) (number : Option ℕ) → Says p.next p.walk (asks_each p held number)
  each_asks p held None = another_says p
  each_asks p held (Some n) = (refl, inl refl, inl refl, refl, λ up. absurd (cc), λ none finding. (tt, λ begun. absurd (cc), inl refl))

  pub hour_says : (n : ℕ) (w : WalkPlace) (by : ℕ) (told : Line) (t : Turned) → Says n w t → Says n w (at_hour by told t)
  hour_says n w by told t says =
      pick (Says n w) (by == 100) _ _ (λ same. says) (λ moved. (says.0, says.1, says.2, says.3, says.4, says.5))

  -- a reply that ends with the newest known record, as the flags say or alone: nothing behind it is held
  abbrev pub JoinsUp : PollState → Reply → Type 0
  JoinsUp p reply =
      (l : Numbered) → last_in reply.records ≡ Some l → 1 < p.walk.count →
      ((reply.last && not reply.more) ≡ true) ⊎ (((length reply.records == 1) ≡ true) × (p.more ≡ false)) →
      U (number_after l.number 1)

  nowhere_says : (p : PollState) (done alone : Bool) → p.stage ≡ stage.Joins → (done ≡ true → 1 < p.walk.count → U p.next) →
      (alone ≡ true → 1 < p.walk.count → p.more ≡ false → U p.next) → Says p.next p.walk (goes_nowhere p done alone)
  nowhere_says p done alone at up one =
      pick (Says p.next p.walk) done _ _ (λ last. ends_says p CaughtUp (λ caught many. up last many))
      (λ more. pick (Says p.next p.walk) alone _ _
      (λ only. (refl, inl refl, inl refl, refl, λ caught. absurd (cc), λ none finding. (one only, λ begun. absurd (cc), inl refl)))
      (λ some. asks_says p (λ finding. subst (Knows U p) (sym at) tt)))

  joined_says : (p : PollState) (kept : KeptAs) (reply : Reply) (at : Option Numbered) → record_at kept.number reply.records ≡ at →
      p.next ≡ number_after kept.number 1 → JoinsUp p reply → Says p.next p.walk (joined p kept reply at)
  joined_says p kept reply None is here up = (refl, inl refl, inl refl, refl, λ caught. absurd (cc), λ none finding. (tt, λ begun. absurd (cc), inl refl))
  joined_says p kept reply (Some held) is here up =
      let news = records_behind kept.number reply.records in
      pick (Says p.next p.walk) (length news == 0) _ _
      (λ empty. let l = last_known kept.number reply.records held is (none_of news empty) in
      let behind : number_after l.0.number 1 ≡ p.next = ap (λ (k : ℕ). number_after k 1) l.2 ∙ sym here in
      nowhere_says (found p held) (reply.last && not reply.more) (length reply.records == 1) refl
      (λ done many. subst U behind (up l.0 l.1 many (inl done))) (λ alone many none. subst U behind (up l.0 l.1 many (inr (alone, none)))))
      (λ some. brings_says (found p held) news (λ empty. never_none _ news (some_of news some) empty))

  from_says : (p : PollState) (reply : Reply) (newest : Option KeptAs) → IsBefore newest p.next → JoinsUp p reply →
      Says p.next p.walk (joins_from p reply newest)
  from_says p reply None here up = oldest_says p Finds
  from_says p reply (Some kept) here up = joined_says p kept reply _ refl here up

  joins_by_says : (p : PollState) (reply : Reply) (means : Means) → IsBefore p.newest p.next → JoinsUp p reply → Says p.next p.walk (joins_by p reply means)
  joins_by_says p reply Unshown here up = oldest_says p Finds
  joins_by_says p reply Same here up = from_says p reply p.newest here up
  joins_by_says p reply (Shifted by) here up = hour_says p.next p.walk by _ _ (from_says p reply p.newest here up)
  joins_by_says p reply Partly here up = each_asks p [] (number_in p.newest)
  joins_by_says p reply Another here up = another_says p

  pub joins_says : (p : PollState) (reply : Reply) → IsBefore p.newest p.next → JoinsUp p reply → Says p.next p.walk (joins p reply)
  joins_says p reply here up = joins_by_says p reply (means_in p reply.records) here up

  pub prior_says : (p : PollState) (records : List Numbered) → Says p.next p.walk (prior p records)
  prior_says p records = pick (Says p.next p.walk) (first_number records == p.reference) _ _ (λ there. another_says p) (λ gone. oldest_says p Finds)

  again_asks : (p : PollState) (held : List Numbered) (number : Option ℕ) → Says p.next p.walk (asks_again p held number)
  again_asks p held None = oldest_says p Finds
  again_asks p held (Some n) = (refl, inl refl, inl refl, refl, λ up. absurd (cc), λ none finding. (tt, λ begun. absurd (cc), inl refl))

  pub ahead_says : (p : PollState) (records : List Numbered) → (records ≡ [] → 1 < p.walk.count → p.more ≡ false → U p.next) → Says p.next p.walk (ahead p records)
  ahead_says p records up =
      pick (Says p.next p.walk) (length records == 0) _ _
      (λ empty. pick (Says p.next p.walk) p.more _ _ (λ more. again_asks p [] (number_in p.newest))
      (λ done. ends_says p CaughtUp (λ caught many. up (none_of records empty) many done)))
      (λ some. pick (Says p.next p.walk) (first_number records == p.next) _ _ (λ here. again_asks p records (number_in p.newest)) (λ other. oldest_says p Finds))

  lost_says : (p : PollState) (seen : Shown) → Says p.next p.walk (lost p seen)
  lost_says p shown.Unshown = oldest_says p Finds
  lost_says p shown.Equal = oldest_says p Finds
  lost_says p (shown.Moved by) = another_says p
  lost_says p shown.Another = another_says p

  -- a gap over records that came
  Over : ℕ → ℕ → Type 0
  Over n b = (held : List Numbered) × Covers P n (map item_of held) b

  over_oldest : (n : ℕ) (q : PollState) → Over n q.next → Says n q.walk (record (asks_oldest q Finds) { missing = gap_up_to n q.next; doubtful = true })
  unfolding Over
  over_oldest n q over =
      (refl, inr (inr (refl, (over.0, q.next, refl, over.1))), inl refl, refl, λ up. absurd (cc), λ none finding. (tt, λ begun. absurd (cc), inl refl))

  over_another : (n : ℕ) (q : PollState) → Over n q.next → Says n q.walk (record (another q) { missing = gap_up_to n q.next; doubtful = true })
  unfolding Over
  over_another n q over =
      pick (λ t. Says n q.walk (record t { missing = gap_up_to n q.next; doubtful = true })) (q.lives == 2) _ _
      (λ third. (refl, inr (inr (refl, (over.0, q.next, refl, over.1))), inl refl, refl, λ up. absurd (cc), λ none finding. absurd (cc)))
      (λ more. (refl, inr (inr (refl, (over.0, q.next, refl, over.1))), inl refl, refl, λ up. absurd (cc), λ none finding. absurd (cc)))

  over_lost : (n : ℕ) (q : PollState) (seen : Shown) → Over n q.next → Says n q.walk (record (lost q seen) { missing = gap_up_to n q.next; doubtful = true })
  over_lost n q shown.Unshown over = over_oldest n q over
  over_lost n q shown.Equal over = over_oldest n q over
  over_lost n q (shown.Moved by) over = over_another n q over
  over_lost n q shown.Another over = over_another n q over

  lost_ahead_says : (p : PollState) (seen : Shown) (held : List Numbered) → IsRun P p.next held → Says p.next p.walk (lost_ahead p seen (last_in held))
  unfolding Over
  lost_ahead_says p seen [] run = lost_says p seen
  lost_ahead_says p seen (r ∷ rs) run =
      let e = run_ends P F p.next r rs run in
      let Q : Option Numbered → Type 0 = λ last. Says p.next p.walk (lost_ahead p seen last) in
      subst Q (sym e.1) (over_lost p.next (standing_at p (number_after e.0.number 1)) seen (r ∷ rs, e.2))

  moved_says : (p : PollState) (held : List Numbered) (seen : Shown) → IsRun P p.next held → Says p.next p.walk (moved_ahead p held seen)
  moved_says p held seen run =
      pick (Says p.next p.walk) (is_some p.earliest) _ _ (λ three. each_asks p [] (number_in p.newest)) (λ fewer. lost_ahead_says p seen held run)

  -- the newest known record once more: nothing behind it is held
  abbrev pub AgainUp : PollState → List Numbered → Type 0
  AgainUp p records = (l : Numbered) → last_in records ≡ Some l → number_after l.number 1 ≡ p.next → 1 < p.walk.count → p.more ≡ false → V (number_after l.number 1)

  -- nor behind what was held behind it
  rising : ((r : Numbered) → P r → V r.number → V (number_after r.number 1)) → (n : ℕ) (r : Numbered) (rs : List Numbered) → IsRun P n (r ∷ rs) → V n →
      (l : Numbered) × (last_in (r ∷ rs) ≡ Some l) × V (number_after l.number 1)
  rising step n r [] run up = (r, refl, step r run.1 (subst V (sym run.0) up))
  rising step n r (s ∷ rs) run up =
      let rest = rising step (number_after r.number 1) s rs run.2 (step r run.1 (subst V (sym run.0) up)) in
      (rest.0, next_last r s rs ∙ rest.1, rest.2)

  ahead_brings : ((r : Numbered) → P r → V r.number → V (number_after r.number 1)) → ((n : ℕ) → V n → U n) → (p : PollState) (held : List Numbered) → IsRun P p.next held → HasSome held →
      (1 < p.walk.count → p.more ≡ false → V p.next) → Says p.next p.walk (brings_ahead p held (last_in held))
  ahead_brings step old p [] run some up = absurd some
  ahead_brings step old p (r ∷ rs) run some up =
      let e = some_last r rs in
      let Q : Option Numbered → Type 0 = λ last. Says p.next p.walk (brings_ahead p (r ∷ rs) last) in
      let fresh : 1 < p.walk.count → p.more ≡ false → V (number_after e.0.number 1) = λ many none.
      let far = rising step p.next r rs run (up many none) in
      let same : e.0 ≡ far.0 = let both : Some e.0 ≡ Some far.0 = sym e.1 ∙ far.1 in cc in
      subst (λ (l : Numbered). V (number_after l.number 1)) (sym same) far.2 in
      subst Q (sym e.1)
      (refl, inl refl, inl refl, refl, λ caught. absurd (cc), λ none finding. (λ many no. old _ (fresh many no), λ begun. absurd (cc), inr fresh))

  equal_says : ((r : Numbered) → P r → V r.number → V (number_after r.number 1)) → ((n : ℕ) → V n → U n) → (p : PollState) (held : List Numbered) (kept : KeptAs) (records : List Numbered) (shown : Numbered) →
      record_at kept.number records ≡ Some shown → p.next ≡ number_after kept.number 1 → IsRun P p.next held → AgainUp p records →
      Says p.next p.walk (again_equal p held kept records)
  equal_says step old p held kept records shown at here run up =
      let news = records_behind kept.number records in
      let caught : news ≡ [] → 1 < p.walk.count → p.more ≡ false → V p.next = λ none many no.
      let l = last_known kept.number records shown at none in
      let behind : number_after l.0.number 1 ≡ p.next = ap (λ (k : ℕ). number_after k 1) l.2 ∙ sym here in
      subst V behind (up l.0 l.1 behind many no) in
      pick (Says p.next p.walk) (length held == 0) _ _ (λ empty. brings_says p news (λ none many no. old _ (caught none many no)))
      (λ some. pick (Says p.next p.walk) (length records == 1) _ _
      (λ alone. ahead_brings step old p held run (some_of held some) (caught (alone_behind kept.number records shown alone at)))
      (λ more. brings_says p held (λ empty. never_none _ held (some_of held some) empty)))

  again_by_says : ((r : Numbered) → P r → V r.number → V (number_after r.number 1)) → ((n : ℕ) → V n → U n) → (p : PollState) (held : List Numbered) (kept : KeptAs) (records : List Numbered) (seen : Shown) →
      shown_in (Some kept) records ≡ seen → p.next ≡ number_after kept.number 1 → IsRun P p.next held → AgainUp p records →
      Says p.next p.walk (again_by p held kept records seen)
  again_by_says step old p held kept records shown.Equal is here run up =
      let e = equal_at kept (record_at kept.number records) is in equal_says step old p held kept records e.0 e.1 here run up
  again_by_says step old p held kept records shown.Unshown is here run up = lost_ahead_says p shown.Unshown held run
  again_by_says step old p held kept records (shown.Moved by) is here run up = moved_says p held (shown.Moved by) run
  again_by_says step old p held kept records shown.Another is here run up = lost_ahead_says p shown.Another held run

  again_from_says : ((r : Numbered) → P r → V r.number → V (number_after r.number 1)) → ((n : ℕ) → V n → U n) → (p : PollState) (held records : List Numbered) (newest : Option KeptAs) → IsBefore newest p.next →
      IsRun P p.next held → AgainUp p records → Says p.next p.walk (again_from p held records newest)
  again_from_says step old p held records None here run up = oldest_says p Finds
  again_from_says step old p held records (Some kept) here run up = again_by_says step old p held kept records _ refl here run up

  pub again_says : ((r : Numbered) → P r → V r.number → V (number_after r.number 1)) → ((n : ℕ) → V n → U n) → (p : PollState) (held records : List Numbered) → IsBefore p.newest p.next →
      IsRun P p.next held → AgainUp p records → Says p.next p.walk (again p held records)
  again_says step old p held records here run up = again_from_says step old p held records p.newest here run up

  each_means_says : (p : PollState) (held : Numbered) (means : Means) → Says p.next p.walk (each_means p held means)
  each_means_says p held Same = (refl, inl refl, inl refl, refl, λ up. absurd (cc), λ none finding. (tt, λ begun. absurd (cc), inl refl))
  each_means_says p held (Shifted by) =
      hour_says p.next p.walk by (hour p by) (asks (standing_alone p (kept_of held)))
      (refl, inl refl, inl refl, refl, λ up. absurd (cc), λ none finding. (tt, λ begun. absurd (cc), inl refl))
  each_means_says p held Unshown = another_says p
  each_means_says p held Partly = another_says p
  each_means_says p held Another = another_says p

  each_all_says : (p : PollState) (held : List Numbered) (first : Option Numbered) → Says p.next p.walk (each_all p held first)
  each_all_says p held None = another_says p
  each_all_says p held (Some first) = each_means_says p first (means_in p held)

  each_next_says : (p : PollState) (held : List Numbered) → Says p.next p.walk (each_next p held)
  each_next_says p held =
      pick (Says p.next p.walk) (length held == 1) _ _ (λ one. each_asks p held (number_in p.earlier))
      (λ more. pick (Says p.next p.walk) (length held == 2) _ _ (λ two. each_asks p held (number_in p.earliest)) (λ three. each_all_says p held (first_in held)))

  each_by_says : (p : PollState) (held : List Numbered) (first : Option Numbered) → Says p.next p.walk (each_by p held first)
  each_by_says p held None = another_says p
  each_by_says p held (Some shown) =
      pick (Says p.next p.walk) ((shown.number == p.reference) && nat_lt (length held) 3) _ _ (λ asked. each_next_says p (held ++ shown ∷ [])) (λ other. another_says p)

  pub each_says : (p : PollState) (held records : List Numbered) → Says p.next p.walk (each p held records)
  each_says p held records = each_by_says p held (first_in records)
