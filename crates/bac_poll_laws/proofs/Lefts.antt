-- How many questions may follow a turn: what is left at each stage, and what the steps of the rule take of it.
use Rattle.std.proofs.Common.{arith, ◌≡◌, ℕ, suc, ◌+◌, ◌*◌, ◌-◌, ◌≤◌, ◌<◌, ◌==◌, Bool, true, false, if◌then◌else◌}
use Rattle.std.proofs.Common.{Option, None, Some, List, [], ◌∷◌, length, slice_get, refl, sym, ap, subst, ◌∙◌, ◌⊎◌, inl}
use Rattle.std.proofs.lemmas.Bool.{lt-ltb}
use Rattle.std.specs.Option.{option_map}
use Rattle.bac_link.specs.Ordinals.{number_after}
use Rattle.bac_walk.specs.Place.{WalkPlace}
use Rattle.bac_walk.specs.declared.batch.Numbered.{Numbered}
use Rattle.bac_poll.specs.Epochs.{another, another_by, another_of, asks_back, asks_oldest, brings_behind, renews}
use Rattle.bac_poll.specs.Epochs.{renews_of}
use Rattle.bac_poll.specs.Gone.{asks_restart, asks_revision, asks_word, by_gone, by_word, retold}
use Rattle.bac_poll.specs.Poll.{kept_number}
use Rattle.bac_poll.specs.State.{KeptAs, PollState, kept_of}
use Rattle.bac_poll.specs.Turns.{Turned, before_last, brings, brings_to, confirmed, end_of, ends, first_in}
use Rattle.bac_poll.specs.Turns.{first_number, kept_or, knowing, last_in, number_before, number_or, renewed}
use Rattle.bac_poll.specs.Turns.{standing_at, third_known}
use Rattle.bac_poll_steps.specs.declared.gone.Gone.{Gone}
use Rattle.bac_poll_steps.specs.declared.gone.Gone.TheVariants.{Dropped, Doubtful, Both}
use Rattle.bac_poll_steps.specs.declared.stage.Aim.{Aim}
use Rattle.bac_poll_steps.specs.declared.stage.Aim.TheVariants.{Finds, Renews, Starts}
use Rattle.bac_poll_steps.specs.declared.stage.Stage.{Stage}
use Rattle.bac_poll_steps.specs.declared.stage.Stage.TheVariants as stage
use Rattle.bac_poll_steps.specs.declared.turn.PollEnd.{PollEnd}
use Rattle.bac_poll_steps.specs.declared.turn.PollEnd.TheVariants.{Contradicts}
use Rattle.bac_poll_laws.specs.Bounds.{FollowsOn}
use Rattle.bac_poll_laws.specs.Laws.{IsBefore, IsRun, Whichever}
use Rattle.bac_poll_laws.specs.Questions.{one_if_kept}
use Rattle.bac_poll_laws.proofs.Wholes.{last_step, split}

-- ---- what is left

-- by whether the newest known record was asked for by its own number
abbrev pub by_alone : Bool → (alone : ℕ) → (other : ℕ) → ℕ
by_alone true alone other = alone
by_alone false alone other = other

abbrev pub left_oldest : Bool → Aim → ℕ
left_oldest alone Finds = by_alone alone 5 11
left_oldest alone Renews = 3
left_oldest alone Starts = 2

abbrev pub left_counts : Bool → Aim → ℕ
left_counts alone Finds = by_alone alone 4 10
left_counts alone Renews = 2
left_counts alone Starts = 3

abbrev pub left_up : Bool → Aim → ℕ
left_up alone Finds = by_alone alone 3 9
left_up alone Renews = 1
left_up alone Starts = 1

abbrev pub left_back : Bool → Aim → ℕ
left_back alone Finds = by_alone alone 2 8
left_back alone Renews = 0
left_back alone Starts = 0

-- The most questions from a stage on, if none goes back, none is for known records one by one, and nothing is kept
-- before the last of them.
abbrev pub left_at : (alone : Bool) → (held : ℕ) → Stage → ℕ
left_at alone held stage.Joins = by_alone alone 8 12
left_at alone held stage.Prior = by_alone alone 6 12
left_at alone held stage.Ahead = by_alone alone 7 13
left_at alone held stage.Again = by_alone alone 6 12
left_at alone held stage.Each = 9 + (2 - held)
left_at alone held stage.ByNumber = 1
left_at alone held (stage.Oldest aim) = left_oldest alone aim
left_at alone held (stage.Counts aim) = left_counts alone aim
left_at alone held (stage.UpTo aim) = left_up alone aim
left_at alone held (stage.Back aim) = left_back alone aim
left_at alone held stage.Revision = 2
left_at alone held stage.Restart = 1

abbrev pub left : PollState → ℕ
left p = left_at p.alone (length p.held) p.stage

-- What is asked for from the newest known record on is asked for from its number on; and of the known ones that are
-- asked for one by one it is the first. Backwards is asked up to the first that is held back, or before it.
abbrev pub Refers : PollState → Stage → Type 0
Refers p stage.Joins = p.alone ≡ true → (kept : KeptAs) → p.newest ≡ Some kept → p.reference ≡ kept.number
Refers p stage.Prior = Unit {0}
Refers p stage.Ahead = Unit {0}
Refers p stage.Again = Unit {0}
Refers p stage.Each = (kept : KeptAs) → p.newest ≡ Some kept → number_or p.reference (first_in p.held) ≡ kept.number
Refers p stage.ByNumber = Unit {0}
Refers p (stage.Oldest aim) = Unit {0}
Refers p (stage.Counts aim) = Unit {0}
Refers p (stage.UpTo aim) = Unit {0}
Refers p (stage.Back aim) = (p.reference ≡ first_number p.held) ⊎ (p.reference ≡ number_before (first_number p.held))
Refers p stage.Revision = Unit {0}
Refers p stage.Restart = Unit {0}

-- the known records follow one another
abbrev pub Row : PollState → Type 0
Row p = FollowsOn p.newest p.earlier × FollowsOn p.earlier p.earliest

-- behind which a known record is asked for alone
abbrev pub each_one : Stage → ℕ
each_one stage.Joins = 0
each_one stage.Prior = 0
each_one stage.Ahead = 0
each_one stage.Again = 0
each_one stage.Each = 1
each_one stage.ByNumber = 0
each_one (stage.Oldest aim) = 0
each_one (stage.Counts aim) = 0
each_one (stage.UpTo aim) = 0
each_one (stage.Back aim) = 0
each_one stage.Revision = 0
each_one stage.Restart = 0

-- the first of three behind which it is: they are shown at another hour
abbrev pub hour_one : Stage → Turned → ℕ
hour_one s t = each_one t.poll.stage - each_one s

-- what a turn may cost more where it asks for known records one by one
abbrev pub each_cost : (e : ℕ) → Stage → ℕ
each_cost e stage.Joins = 0
each_cost e stage.Prior = 0
each_cost e stage.Ahead = 0
each_cost e stage.Again = 0
each_cost e stage.Each = e
each_cost e stage.ByNumber = 0
each_cost e (stage.Oldest aim) = 0
each_cost e (stage.Counts aim) = 0
each_cost e (stage.UpTo aim) = 0
each_cost e (stage.Back aim) = 0
each_cost e stage.Revision = 0
each_cost e stage.Restart = 0

-- its walk, and how many numbers it went back
abbrev pub IsSame : WalkPlace → ℕ → PollState → Type 0
IsSame w b p = (p.walk ≡ w) × (p.back ≡ b)

-- Of so many questions that are left, that of this turn is one, and what is left then is within the others, and what is
-- counted of the turn.
abbrev pub Costs : (e : ℕ) → WalkPlace → (b : ℕ) → ℕ → Turned → Type 0
Costs e w b n t =
    t.end ≡ None → (1 + left t.poll ≤ n + (8 * one_if_kept t.records + each_cost e t.poll.stage)) × Row t.poll × Refers t.poll t.poll.stage × IsSame w b t.poll

-- ---- the last three of a run

module _ (P : Numbered → Type 0) where
  -- they are these, and each is right before the next
  LastThree : List Numbered → Type 0
  LastThree rs =
      (l : Numbered) × (m : Numbered) × (t : Numbered) × (last_in rs ≡ Some l) × (before_last rs 1 ≡ Some m) × (before_last rs 2 ≡ Some t)
      × (l.number ≡ number_after m.number 1) × (m.number ≡ number_after t.number 1)

  before_at : (rs : List Numbered) (back : ℕ) → back < length rs → before_last rs back ≡ slice_get rs (length rs - 1 - back)
  before_at rs back less =
      subst (λ (b : Bool). (if b then slice_get rs (length rs - 1 - back) else None) ≡ slice_get rs (length rs - 1 - back)) (sym (lt-ltb back (length rs) less)) refl

  before_next : (r : Numbered) (rs : List Numbered) (back : ℕ) → back < length rs → before_last (r ∷ rs) back ≡ before_last rs back
  before_next r rs back less =
      let on : length (r ∷ rs) - 1 - back ≡ suc (length rs - 1 - back) = omega (arith, less) in
      before_at (r ∷ rs) back (omega (arith, less)) ∙ ap (λ (i : ℕ). slice_get (r ∷ rs) i) on ∙ sym (before_at rs back less)

  last_three : (n : ℕ) (r s u : Numbered) (rs : List Numbered) → IsRun P n (r ∷ s ∷ u ∷ rs) → LastThree (r ∷ s ∷ u ∷ rs)
  unfolding LastThree
  last_three n r s u [] run = (u, s, r, refl, refl, refl, run.2.2.0, run.2.0)
  last_three n r s u (v ∷ rs) run =
      let rest = last_three (number_after r.number 1) s u v rs run.2 in
      let xs : List Numbered = s ∷ u ∷ v ∷ rs in (
        rest.0,
        rest.1,
        rest.2,
        last_step P Whichever r s (u ∷ v ∷ rs) ∙ rest.3,
        before_next r xs 1 (omega arith) ∙ rest.4,
        before_next r xs 2 (omega arith) ∙ rest.5,
        rest.6,
        rest.7,
      )

  -- ---- what is known behind records

  follows : (newest : Option KeptAs) (n : ℕ) (r : Numbered) → IsBefore newest n → r.number ≡ n → FollowsOn (Some (kept_of r)) newest
  follows None n r here at = tt
  follows (Some kept) n r here at = at ∙ here

  knows_three : (q : PollState) (rs : List Numbered) (l m t : Numbered) → before_last rs 1 ≡ Some m → before_last rs 2 ≡ Some t →
      l.number ≡ number_after m.number 1 → m.number ≡ number_after t.number 1 → Row (knowing q rs l)
  knows_three q rs l m t one two last middle = by (before_last rs 1) (before_last rs 2) one two
    where
      by : (a b : Option Numbered) → a ≡ Some m → b ≡ Some t →
          FollowsOn (Some (kept_of l)) (kept_or (option_map kept_of a) q.newest)
          × FollowsOn (kept_or (option_map kept_of a) q.newest) (third_known q (option_map kept_of a) (option_map kept_of b))
      by None b is too = absurd (cc)
      by (Some x) None is too = absurd (cc)
      by (Some x) (Some y) is too =
          let a : x.number ≡ m.number = ap (λ (o : Option Numbered). number_or 0 o) is in
          let b : y.number ≡ t.number = ap (λ (o : Option Numbered). number_or 0 o) too in
          (last ∙ ap (λ (k : ℕ). number_after k 1) (sym a), a ∙ middle ∙ ap (λ (k : ℕ). number_after k 1) (sym b))

  -- once these are known, the known ones follow one another
  pub knows : (q : PollState) (n : ℕ) (r : Numbered) (rs : List Numbered) → IsRun P n (r ∷ rs) → IsBefore q.newest n → FollowsOn q.newest q.earlier →
      (l : Numbered) × (last_in (r ∷ rs) ≡ Some l) × Row (knowing q (r ∷ rs) l)
  unfolding LastThree
  knows q n r [] run here row = (r, refl, (follows q.newest n r here run.0, row))
  knows q n r (s ∷ []) run here row = (s, refl, (run.2.0, follows q.newest n r here run.0))
  knows q n r (s ∷ u ∷ rs) run here row =
      let all = last_three n r s u rs run in
      (all.0, all.3, knows_three q (r ∷ s ∷ u ∷ rs) all.0 all.1 all.2 all.4 all.5 all.6 all.7)

-- ---- the steps

module _ (P : Numbered → Type 0) (e : ℕ) (w : WalkPlace) (b : ℕ) where
  pub pick : (n : ℕ) (c : Bool) (x y : Turned) → (c ≡ true → Costs e w b n x) → (c ≡ false → Costs e w b n y) → Costs e w b n (if c then x else y)
  pick n c x y f g = split P Whichever (Costs e w b n) c x y f g

  pub ends_costs : (n : ℕ) (p : PollState) (why : PollEnd) → Costs e w b n (ends p why)
  ends_costs n p why = λ none. absurd (cc)

  pub oldest_costs : (n : ℕ) (p : PollState) (aim : Aim) → Row p → IsSame w b p → 1 + left_oldest p.alone aim ≤ n → Costs e w b n (asks_oldest p aim)
  oldest_costs n p aim row same enough = λ none. (omega (arith, enough), row, tt, same)

  pub back_costs : (n : ℕ) (p : PollState) (aim : Aim) (rs : List Numbered) → Row p → IsSame w b p → 1 + left_back p.alone aim ≤ n → Costs e w b n (asks_back p aim rs)
  back_costs n p aim rs row same enough = λ none. (omega (arith, enough), row, inl refl, same)

  -- records are kept behind the newest known one
  pub brings_costs : (n : ℕ) (q : PollState) (s : ℕ) (rs : List Numbered) → IsRun P s rs → IsBefore q.newest s → FollowsOn q.newest q.earlier → IsSame w b q → 1 ≤ n →
      Costs e w b n (brings q rs)
  brings_costs n q s [] run here row same enough = λ none. absurd (cc)
  brings_costs n q s (r ∷ rs) run here row same enough =
      let k = knows P q s r rs run here row in
      subst (λ last. Costs e w b n (brings_to q (r ∷ rs) last)) (sym k.1)
      (λ none. (omega (arith, enough), k.2, (λ asked kept is. ap (λ (o : Option KeptAs). kept_number o 0) is), same))

  -- where none is known
  pub fresh_costs : (n : ℕ) (q : PollState) (first : ℕ) (rs : List Numbered) → IsRun P (first_number rs) rs → IsSame w b q → 1 ≤ n → Costs e w b n (brings (standing_at q first) rs)
  fresh_costs n q first rs run same enough = brings_costs n (standing_at q first) (first_number rs) rs run tt tt same enough

  -- ---- 6. new epochs

  pub another_costs : (n : ℕ) (p : PollState) → IsSame w b p → 4 ≤ n → Costs e w b n (another p)
  another_costs n p same enough =
      pick n (p.lives == 2) _ _ (λ third. ends_costs n p Contradicts) (λ more. λ none. (omega (arith, enough), (tt, tt), tt, same))

  pub renews_costs : (n : ℕ) (p : PollState) (rs : List Numbered) → p.newest ≡ None → Row p → IsRun P (first_number rs) rs → IsSame w b p → 1 ≤ n → Costs e w b n (renews p rs)
  renews_costs n p rs begun row run same enough =
      pick n (first_number rs == 1) _ _
      (λ first. brings_costs n p (first_number rs) rs run (subst (λ (k : Option KeptAs). IsBefore k (first_number rs)) (sym begun) tt) row.0 same enough)
      (λ later. back_costs n p Renews rs row same enough)

  pub another_by_costs : (n : ℕ) (p : PollState) (rs : List Numbered) → IsRun P (first_number rs) rs → IsSame w b p → 1 ≤ n → Costs e w b n (another_by p rs)
  another_by_costs n p rs run same enough =
      pick n (p.lives == 2) _ _ (λ third. ends_costs n p Contradicts) (λ more. renews_costs n (renewed p p.told) rs refl (tt, tt) run same enough)

  pub behind_costs : (n : ℕ) (p : PollState) (rs : List Numbered) → p.newest ≡ None → Row p → IsRun P (first_number rs) rs → IsSame w b p → 1 ≤ n → Costs e w b n (brings_behind p rs)
  behind_costs n p rs begun row run same enough =
      brings_costs n p (first_number rs) rs run (subst (λ (k : Option KeptAs). IsBefore k (first_number rs)) (sym begun) tt) row.0 same enough

  pub renews_of_costs : (n : ℕ) (p : PollState) (total : ℕ) → Row p → IsSame w b p → 2 ≤ n → Costs e w b n (renews_of p total)
  renews_of_costs n p total row same enough =
      pick n (total == 0) _ _ (λ none. ends_costs n p (end_of p)) (λ some. λ none. (omega (arith, enough), row, tt, same))

  pub another_of_costs : (n : ℕ) (p : PollState) (total : ℕ) → IsSame w b p → 2 ≤ n → Costs e w b n (another_of p total)
  another_of_costs n p total same enough =
      pick n (p.lives == 2) _ _ (λ third. ends_costs n p Contradicts) (λ more. renews_of_costs n (renewed p p.told) total (tt, tt) same enough)

  -- ---- 4. dropped, or another life

  gone_costs : (n : ℕ) (p : PollState) (first : ℕ) (held : List Numbered) (gone : Gone) → IsRun P (first_number held) held → IsSame w b p → 1 ≤ n → Costs e w b n (by_gone p first held gone)
  gone_costs n p first held Dropped run same enough = fresh_costs n (confirmed (retold p)) first held run same enough
  gone_costs n p first held Doubtful run same enough = fresh_costs n (confirmed (retold p)) first held run same enough
  gone_costs n p first held Both run same enough = fresh_costs n (renewed (retold p) p.told) first held run same enough

  pub by_word_costs : (n : ℕ) (p : PollState) (held : List Numbered) → IsRun P (first_number held) held → IsSame w b p → 1 ≤ n → Costs e w b n (by_word p held)
  by_word_costs n p held run same enough = gone_costs n p _ held _ run same enough

  pub restart_costs : (n : ℕ) (p : PollState) (held : List Numbered) (restart : List ℕ) → Row p → IsRun P (first_number held) held → IsSame w b p → 2 ≤ n →
      Costs e w b n (asks_restart p held restart)
  restart_costs n p held [] row run same enough = by_word_costs n p held run same (omega (arith, enough))
  restart_costs n p held (octet ∷ octets) row run same enough = λ none. (omega (arith, enough), row, tt, same)

  revision_costs : (n : ℕ) (p : PollState) (held : List Numbered) (revision : Option ℕ) → Row p → IsRun P (first_number held) held → IsSame w b p → 3 ≤ n →
      Costs e w b n (asks_revision p held revision)
  revision_costs n p held None row run same enough = restart_costs n p held p.word.restart row run same (omega (arith, enough))
  revision_costs n p held (Some was) row run same enough = λ none. (omega (arith, enough), row, tt, same)

  pub word_costs : (n : ℕ) (p : PollState) (held : List Numbered) → Row p → IsRun P (first_number held) held → IsSame w b p → 3 ≤ n → Costs e w b n (asks_word p held)
  word_costs n p held row run same enough = revision_costs n (record p { again = p.told }) held p.word.revision row run same enough
