-- What turns say of a poll that knows no record yet.
use Rattle.std.proofs.Common.{arith, is_some, ◌≡◌, ℕ, ◌==◌, ◌&&◌, ◌||◌, not, Bool, true, false, if◌then◌else◌, nat_lt}
use Rattle.std.proofs.Common.{Option, None, Some, List, [], ◌∷◌, length, refl, sym, ap, subst, ◌∙◌, ◌⊎◌, inl, inr}
use Rattle.std.proofs.lemmas.Bool.{eq-eqb, eqb-true, and_parts}
use Rattle.bac_link.specs.Ordinals.{is_ahead, number_after}
use Rattle.bac_link.specs.declared.item.Item.TheVariants.{Gap}
use Rattle.bac_walk.specs.declared.batch.Numbered.{Numbered}
use Rattle.bac_walk.specs.declared.outcome.WalkFault.TheVariants.{BadReply}
use Rattle.bac_poll.specs.Back.{back, back_alone, back_by, back_done, back_lost, back_more, back_shown, is_front}
use Rattle.bac_poll.specs.Back.{shown_last, went_back}
use Rattle.bac_poll.specs.Epochs.{brings_behind, renews, renews_none, renews_of}
use Rattle.bac_poll_laws.specs.Firsts.{IsFirst}
use Rattle.bac_poll.specs.Known.{heeding, means_in, means_of, shown_in, word_of}
use Rattle.bac_poll_laws.specs.Laws.{HasSome, IsAt, IsBegun, IsClearAt, Whichever}
use Rattle.bac_poll.specs.Oldest.{is_first, is_since}
use Rattle.bac_poll.specs.Poll.{at_stage, count_at}
use Rattle.bac_poll.specs.Starts.{beginning, is_doubted, starts, starts_at, starts_behind, starts_by, starts_here}
use Rattle.bac_poll.specs.Starts.{starts_none, starts_refused, starts_told}
use Rattle.bac_poll.specs.State.{KeptAs, PollState, Reply}
use Rattle.bac_poll.specs.Turns.{Turned, asks, confirmed, end_of, ends, first_in, first_number, gap_up_to, last_in}
use Rattle.bac_poll.specs.Turns.{number_before, number_or, standing_at}
use Rattle.bac_known.specs.declared.known.Means.TheVariants.{Unshown}
use Rattle.bac_known.specs.declared.known.Shown.{Shown}
use Rattle.bac_known.specs.declared.known.Shown.TheVariants as shown
use Rattle.bac_poll_steps.specs.declared.stage.Aim.{Aim}
use Rattle.bac_poll_steps.specs.declared.stage.Aim.TheVariants.{Finds, Renews, Starts}
use Rattle.bac_poll_steps.specs.declared.stage.Stage.{Stage}
use Rattle.bac_poll_steps.specs.declared.stage.Stage.TheVariants as stage
use Rattle.bac_poll_steps.specs.declared.turn.PollEnd.{PollEnd}
use Rattle.bac_poll_steps.specs.declared.turn.PollEnd.TheVariants.{Contradicts, Fault, ShowsNone}
use Rattle.bac_poll_laws.proofs.Fronts.{brings_by, never_none, none_of, pick, some_last, some_of}

module _ (F N : ℕ → Type 0) where
  -- the beginning by a count has a number
  abbrev pub IsCounted : PollState → Type 0
  IsCounted p = (number : ℕ) → p.counted ≡ Some number → N number

  -- what is known by the stage
  abbrev pub Seeks : PollState → Stage → Type 0
  Seeks p stage.Joins = ⊥
  Seeks p stage.Prior = ⊥
  Seeks p stage.Ahead = ⊥
  Seeks p stage.Again = ⊥
  Seeks p stage.Each = ⊥
  Seeks p stage.ByNumber = ⊥
  Seeks p (stage.Oldest Finds) = ⊥
  Seeks p (stage.Oldest Renews) = Unit {0}
  Seeks p (stage.Oldest Starts) = IsCounted p × (p.total ≡ 0 → p.refused ≡ false → F 1)
  Seeks p (stage.Counts Finds) = ⊥
  Seeks p (stage.Counts Renews) = Unit {0}
  Seeks p (stage.Counts Starts) = IsCounted p
  Seeks p (stage.UpTo Finds) = ⊥
  Seeks p (stage.UpTo Renews) = Unit {0}
  Seeks p (stage.UpTo Starts) = IsCounted p
  Seeks p (stage.Back Finds) = ⊥
  Seeks p (stage.Back Renews) = Unit {0}
  Seeks p (stage.Back Starts) = IsCounted p
  Seeks p stage.Revision = ⊥
  Seeks p stage.Restart = ⊥

  -- a turn keeps nothing
  abbrev pub Quiet : Turned → Type 0
  Quiet t = (t.missing ≡ []) × (t.gap ≡ []) × (t.records ≡ []) × (t.anew ≡ false) × (t.end ≡ None → Seeks t.poll t.poll.stage)

  -- where an epoch begins, and where its first gap ends: there, or behind where nothing is held
  abbrev pub FrontAt : ℕ → ℕ → List Numbered → Type 0
  FrontAt b first records =
      ((b ≡ first) × (HasSome records ⊎ (N b ⊎ (b ≡ 1)))) ⊎ (F first × ((b ≡ 1) ⊎ (N b × (is_ahead b first ≡ true))))

  -- a turn begins the epoch
  abbrev pub BeginsWith : Turned → Type 0
  BeginsWith t =
      (b : ℕ) × (first : ℕ) × IsFirst t.begins b × (t.missing ≡ gap_up_to b first) × (t.gap ≡ []) × (t.anew ≡ false) × FrontAt b first t.records
      × (t.end ≡ None → (t.poll.stage ≡ stage.Joins) × HasSome t.records) × (HasSome t.records → t.end ≡ None)

  abbrev pub SaysFirst : Turned → Type 0
  SaysFirst t = Quiet t ⊎ BeginsWith t

  quiet_ends : (p : PollState) (why : PollEnd) → SaysFirst (ends p why)
  quiet_ends p why = inl (refl, refl, refl, refl, λ none. absurd (cc))

  -- ---- a new epoch

  renews_says : (p : PollState) (rs : List Numbered) → HasSome rs → SaysFirst (renews p rs)
  renews_says p rs some =
      pick SaysFirst (first_number rs == 1) _ _
      (λ first. brings_by SaysFirst p rs (λ empty. never_none _ rs some empty)
      (λ l has. inr (1, 1, refl, refl, refl, refl, inl (refl, inl has), λ none. (refl, has), λ some. refl)))
      (λ later. inl (refl, refl, refl, refl, λ none. tt))

  renews_none_says : (p : PollState) (total : ℕ) → p.next ≡ 1 → F (number_after total 1) → SaysFirst (renews_none p total)
  renews_none_says p total begun front =
      inr (1, number_after total 1, refl, ap (λ (k : ℕ). gap_up_to k (number_after total 1)) begun, refl, refl, inr (front, inl refl), λ none. absurd (cc), λ some. absurd some)

  renews_of_says : (p : PollState) (total : ℕ) → SaysFirst (renews_of p total)
  renews_of_says p total = pick SaysFirst (total == 0) _ _ (λ none. quiet_ends p (end_of p)) (λ some. inl (refl, refl, refl, refl, λ none. tt))

  -- the first of them has nothing before it, or number 1
  behind_says : (p : PollState) (rs : List Numbered) → p.next ≡ 1 → HasSome rs → (first_number rs ≡ 1) ⊎ F (first_number rs) → SaysFirst (brings_behind p rs)
  behind_says p [] begun some front = absurd some
  behind_says p (r ∷ rs) begun some front =
      brings_by (λ t. SaysFirst (record t { missing = gap_up_to p.next r.number })) p (r ∷ rs) (λ empty. absurd (cc))
      (λ l has. inr (1, r.number, refl, ap (λ (k : ℕ). gap_up_to k r.number) begun, refl, refl, by front, λ none. (refl, has), λ some. refl))
    where
      by : (r.number ≡ 1) ⊎ F r.number → FrontAt 1 r.number (r ∷ rs)
      by (inl one) = inl (sym one, inl tt)
      by (inr front) = inr (front, inl refl)

  -- ---- a first run

  -- the first number has nothing before it, or is 1 and no count is behind it
  abbrev pub IsClear : PollState → ℕ → Type 0
  IsClear p first = F first ⊎ ((first ≡ 1) × (is_since p.counted ≡ false))

  here_says : (p : PollState) (first : ℕ) (held : List Numbered) → HasSome held ⊎ (N first ⊎ (first ≡ 1)) → SaysFirst (starts_here p first held)
  here_says p first held at =
      brings_by (λ t. SaysFirst (record t { begins = beginning first false })) (standing_at (confirmed p) first) held
      (λ empty. inr (first, first, (refl, refl), sym (same first), refl, refl, inl (refl, none at empty), λ go. absurd (cc), λ some. absurd some))
      (λ l has. inr (first, first, (refl, refl), sym (same first), refl, refl, inl (refl, inl has), λ go. (refl, has), λ some. refl))
    where
      same : (n : ℕ) → gap_up_to n n ≡ []
      same n = ap (λ (c : Bool). if c then [] else Gap n n ∷ []) (eq-eqb n n refl)

      none : HasSome held ⊎ (N first ⊎ (first ≡ 1)) → held ≡ [] → HasSome [] ⊎ (N first ⊎ (first ≡ 1))
      none (inl some) empty = never_none _ held some empty
      none (inr number) empty = inr number

  behind_first : (p : PollState) (counted first : ℕ) (held : List Numbered) → F first → N counted → is_ahead counted first ≡ true → SaysFirst (starts_behind p counted first held)
  behind_first p counted first held front number ahead =
      brings_by (λ t. SaysFirst (record t { begins = beginning counted false; missing = gap_up_to counted first; doubtful = is_doubted p (word_of p.word p.told) }))
      (standing_at (confirmed p) first) held
      (λ empty. inr (counted, first, (refl, refl), refl, refl, refl, inr (front, inr (number, ahead)), λ go. absurd (cc), λ some. absurd some))
      (λ l has. inr (counted, first, (refl, refl), refl, refl, refl, inr (front, inr (number, ahead)), λ go. (refl, has), λ some. refl))

  starts_at_says : (p : PollState) (first : ℕ) (held : List Numbered) (counted : Option ℕ) → p.counted ≡ counted → IsCounted p → IsClear p first →
      HasSome held ⊎ (N first ⊎ (first ≡ 1)) → SaysFirst (starts_at p first held counted)
  starts_at_says p first held None is count clear at = here_says p first held at
  starts_at_says p first held (Some counted) is count clear at =
      pick SaysFirst (is_ahead counted first) _ _ (λ ahead. by clear ahead) (λ before. here_says p first held at)
    where
      by : IsClear p first → is_ahead counted first ≡ true → SaysFirst (starts_behind p counted first held)
      by (inl front) ahead = behind_first p counted first held front (count counted is) ahead
      by (inr (one, none)) ahead =
          let since : is_ahead counted 1 ≡ false = sym (ap is_since is) ∙ none in
          let never : true ≡ false = sym ahead ∙ ap (is_ahead counted) one ∙ since in absurd (cc)

  starts_says : (p : PollState) (held : List Numbered) → IsCounted p → IsClear p (number_or (number_after p.total 1) (first_in held)) →
      HasSome held ⊎ (N (number_or (number_after p.total 1) (first_in held)) ⊎ (number_or (number_after p.total 1) (first_in held) ≡ 1)) → SaysFirst (starts p held)
  starts_says p held count clear at = starts_at_says p _ held p.counted refl count clear at

  first_clear : (p : PollState) (n : ℕ) → is_first p n ≡ true → IsClear p n
  first_clear p n is =
      let both = and_parts (n == 1) _ is in
      inr (eqb-true n 1 both.0, not_true (is_since p.counted) (and_parts (p.next == 1) _ both.1).1)
    where
      not_true : (b : Bool) → not b ≡ true → b ≡ false
      not_true true is = absurd (cc)
      not_true false is = refl

  some_says : (p : PollState) (records : List Numbered) → IsCounted p → HasSome records → IsClear p (first_number records) → SaysFirst (starts p records)
  some_says p [] count some clear = absurd some
  some_says p (r ∷ rs) count some clear = starts_says p (r ∷ rs) count clear (inl tt)

  starts_by_says : (p : PollState) (records : List Numbered) → IsCounted p → HasSome records → SaysFirst (starts_by p records)
  starts_by_says p records count some =
      pick SaysFirst (is_first (standing_at p 1) (first_number records)) _ _
      (λ first. some_says (standing_at p 1) records count some (first_clear (standing_at p 1) (first_number records) first))
      (λ later. inl (refl, refl, refl, refl, λ none. count))

  none_says : (p : PollState) → p.total ≡ 0 → IsCounted p → (p.total ≡ 0 → p.refused ≡ false → F 1) → SaysFirst (starts_none p)
  none_says p empty count zero =
      pick SaysFirst (p.refused && is_some p.counted) _ _ (λ stays. quiet_ends p ShowsNone)
      (λ goes. starts_says p [] count (by p.refused refl goes) (inr (inr one)))
    where
      one : number_after p.total 1 ≡ 1
      one = ap (λ (k : ℕ). number_after k 1) empty

      uncounted : (counted : Option ℕ) → is_some counted ≡ false → is_since counted ≡ false
      uncounted None none = refl
      uncounted (Some number) none = absurd (cc)

      by : (refused : Bool) → p.refused ≡ refused → (refused && is_some p.counted) ≡ false → IsClear p (number_after p.total 1)
      by true is goes = inr (one, uncounted p.counted goes)
      by false is goes = inl (subst F (sym one) (zero empty is))

  -- ---- the count

  pub count_first : (p : PollState) (what : Stage) (count : Option ℕ) → Seeks p what → ((total : ℕ) → count ≡ Some total → N (number_after total 1) × (total ≡ 0 → F 1)) →
      SaysFirst (count_at p what count)
  count_first p (stage.Counts Finds) count seeks told = absurd seeks
  count_first p (stage.Counts Renews) None seeks told = quiet_ends p (end_of p)
  count_first p (stage.Counts Renews) (Some total) seeks told = renews_of_says p total
  count_first p (stage.Counts Starts) None seeks told = by p.counted
    where
      by : (counted : Option ℕ) → SaysFirst (starts_refused (record p { total = 0; refused = true }) counted)
      by None = inl (refl, refl, refl, refl, λ none. (seeks, λ empty no. absurd (cc)))
      by (Some counted) = inl (refl, refl, refl, refl, λ none. (seeks, λ empty no. absurd (cc)))
  count_first p (stage.Counts Starts) (Some total) seeks told = by p.begins
    where
      by : (begins : Option ℕ) → SaysFirst (starts_told (record p { total = total; refused = false }) begins (number_after total 1))
      by None = inl (refl, refl, refl, refl, λ none. (λ number is. let same : number_after total 1 ≡ number = cc in subst N same (told total refl).0, λ empty no. (told total refl).1 empty))
      by (Some begins) = inl (refl, refl, refl, refl, λ none. (seeks, λ empty no. (told total refl).1 empty))
  count_first p stage.Joins count seeks told = absurd seeks
  count_first p stage.Prior count seeks told = absurd seeks
  count_first p stage.Ahead count seeks told = absurd seeks
  count_first p stage.Again count seeks told = absurd seeks
  count_first p stage.Each count seeks told = absurd seeks
  count_first p stage.ByNumber count seeks told = absurd seeks
  count_first p (stage.Oldest aim) count seeks told = quiet_ends p (Fault BadReply)
  count_first p (stage.UpTo aim) count seeks told = quiet_ends p (Fault BadReply)
  count_first p (stage.Back aim) count seeks told = quiet_ends p (Fault BadReply)
  count_first p stage.Revision count seeks told = absurd seeks
  count_first p stage.Restart count seeks told = absurd seeks

  -- ---- before the first of the records that are held back

  -- of no known record nothing is shown
  unshown : (p : PollState) (newest earlier earliest : Option KeptAs) (records : List Numbered) → newest ≡ None → earlier ≡ None → earliest ≡ None →
      heeding p (means_of (is_some earliest) (shown_in newest records) (shown_in earlier records) (shown_in earliest records)) ≡ Unshown
  unshown p None None None records a b c = refl
  unshown p None None (Some kept) records a b c = absurd (cc)
  unshown p None (Some kept) earliest records a b c = absurd (cc)
  unshown p (Some kept) earlier earliest records a b c = absurd (cc)

  back_quiet : (p : PollState) (aim : Aim) (reference : ℕ) (held : List Numbered) → Seeks p (stage.Back aim) →
      SaysFirst (asks (record p { stage = stage.Back aim; reference = reference; held = held }))
  back_quiet p Finds reference held seeks = absurd seeks
  back_quiet p Renews reference held seeks = inl (refl, refl, refl, refl, λ none. tt)
  back_quiet p Starts reference held seeks = inl (refl, refl, refl, refl, λ none. seeks)

  done_first : (p : PollState) (aim : Aim) (records : List Numbered) → p.next ≡ 1 → Seeks p (stage.Back aim) → HasSome records → IsClear p (first_number records) →
      SaysFirst (back_done p aim records)
  done_first p Finds records begun seeks some clear = absurd seeks
  done_first p Renews records begun seeks some clear = behind_says p records begun some (by clear)
    where
      by : IsClear p (first_number records) → (first_number records ≡ 1) ⊎ F (first_number records)
      by (inl front) = inr front
      by (inr one) = inl one.0
  done_first p Starts records begun seeks some clear = some_says p records seeks some clear

  lost_first : (p : PollState) (aim : Aim) → Seeks p (stage.Back aim) → SaysFirst (back_lost p aim)
  lost_first p Finds seeks = absurd seeks
  lost_first p Renews seeks = inl (refl, refl, refl, refl, λ none. tt)
  lost_first p Starts seeks = inl (refl, refl, refl, refl, λ none. seeks)

  more_first : (p : PollState) (aim : Aim) (records : List Numbered) → IsBegun p → Seeks p (stage.Back aim) → HasSome records → SaysFirst (back_more p aim records)
  more_first p aim records begun seeks some =
      pick SaysFirst (is_front p records (means_in p records)) _ _
      (λ front. done_first p aim records begun.0 seeks some (first_clear p (first_number records)
      (subst (λ means. is_front p records means ≡ true) (unshown p p.newest p.earlier p.earliest records begun.1 begun.2 begun.3) front)))
      (λ back. back_quiet p aim (first_number records) records seeks)

  alone_first : (p : PollState) (aim : Aim) (held : List Numbered) → IsBegun p → Seeks p (stage.Back aim) → HasSome held →
      ((p.more || (p.walk.count == 1)) ≡ false → F (first_number held)) → SaysFirst (back_alone p aim held)
  alone_first p aim held begun seeks some bare =
      pick SaysFirst (p.more || (p.walk.count == 1)) _ _ (λ more. back_quiet p aim (number_before (first_number held)) held seeks)
      (λ whole. done_first p aim held begun.0 seeks some (inl (bare whole)))

  shown_first : (p : PollState) (aim : Aim) (held records : List Numbered) (seen : Shown) → IsBegun p → Seeks p (stage.Back aim) → HasSome held → HasSome records →
      ((length records == 1) ≡ true → (p.more || (p.walk.count == 1)) ≡ false → F (first_number held)) → SaysFirst (back_shown p aim held records seen)
  shown_first p aim held records shown.Equal begun seeks kept some bare =
      pick SaysFirst (length records == 1) _ _ (λ alone. alone_first p aim held begun seeks kept (bare alone)) (λ more. more_first p aim records begun seeks some)
  shown_first p aim held records shown.Unshown begun seeks kept some bare = lost_first p aim seeks
  shown_first p aim held records (shown.Moved by) begun seeks kept some bare = lost_first p aim seeks
  shown_first p aim held records shown.Another begun seeks kept some bare = lost_first p aim seeks

  by_first : (p : PollState) (aim : Aim) (held records : List Numbered) (last : Numbered) → IsBegun p → Seeks p (stage.Back aim) → HasSome held → HasSome records →
      ((length records == 1) ≡ true → (last.number == first_number held) ≡ true → (p.more || (p.walk.count == 1)) ≡ false → F (first_number held)) →
      SaysFirst (back_by p aim held records (Some last))
  by_first p aim held records last begun seeks kept some bare =
      pick SaysFirst (last.number == first_number held) _ _
      (λ ended. shown_first p aim held records (shown_last (first_in held) last) begun seeks kept some (λ alone whole. bare alone ended whole))
      (λ short. more_first p aim records begun seeks some)

  bare_front : (n : ℕ) (a b c : Bool) → a ≡ true → b ≡ true → c ≡ false → ((a && (b && not c)) ≡ true → F n) → F n
  bare_front n true true false x y z front = front refl
  bare_front n false b c x y z front = absurd (cc)
  bare_front n true false c x y z front = absurd (cc)
  bare_front n true true true x y z front = absurd (cc)

  takes : (p : PollState) (aim : Aim) (held records : List Numbered) → IsBegun p → Seeks p (stage.Back aim) → HasSome held →
      (((length records == 0) || ((length records == 1) && ((first_number records == first_number held) && not (p.more || (p.walk.count == 1))))) ≡ true → F (first_number held)) →
      SaysFirst (back_by p aim held records (last_in records))
  takes p aim held [] begun seeks kept bare = done_first p aim held begun.0 seeks kept (inl (bare refl))
  takes p aim held (r ∷ []) begun seeks kept bare =
      by_first p aim held (r ∷ []) r begun seeks kept tt
      (λ alone ended whole. bare_front (first_number held) (length (r ∷ []) == 1) (r.number == first_number held) (p.more || (p.walk.count == 1)) alone ended whole bare)
  takes p aim held (r ∷ s ∷ rs) begun seeks kept bare =
      let e = some_last r (s ∷ rs) in
      subst (λ last. SaysFirst (back_by p aim held (r ∷ s ∷ rs) last)) (sym e.1)
      (by_first p aim held (r ∷ s ∷ rs) e.0 begun seeks kept tt
      (λ alone ended whole. let same : length (r ∷ s ∷ rs) ≡ 1 = eqb-true _ _ alone in let never : ⊥ = omega (arith, same) in absurd never))

  back_first : (p : PollState) (aim : Aim) (held records : List Numbered) → IsBegun p → Seeks p (stage.Back aim) → HasSome held →
      (((length records == 0) || ((length records == 1) && ((first_number records == first_number held) && not (p.more || (p.walk.count == 1))))) ≡ true → F (first_number held)) →
      SaysFirst (back p aim held records)
  back_first p aim held records begun seeks kept bare =
      pick SaysFirst (nat_lt p.back 2147483648) _ _ (λ near. takes (went_back p records) aim held records begun (by aim seeks) kept bare) (λ far. quiet_ends p Contradicts)
    where
      by : (aim : Aim) → Seeks p (stage.Back aim) → Seeks (went_back p records) (stage.Back aim)
      by Finds seeks = seeks
      by Renews seeks = tt
      by Starts seeks = seeks

  -- ---- by what it is for

  pub stage_first : ((n : ℕ) → F n → N n) → (P : Numbered → Type 0) (p : PollState) (more : Bool) (what : Stage) (reply : Reply) → Seeks p what → IsAt P Whichever p what → IsBegun p →
      IsClearAt F p more what reply → ((aim : Aim) → what ≡ stage.UpTo aim → reply.records ≡ [] → F (number_after p.total 1)) →
      SaysFirst (at_stage (record p { more = more; held = [] }) what p.held reply)
  stage_first number P p more stage.Joins reply seeks at begun clear none = absurd seeks
  stage_first number P p more stage.Prior reply seeks at begun clear none = absurd seeks
  stage_first number P p more stage.Ahead reply seeks at begun clear none = absurd seeks
  stage_first number P p more stage.Again reply seeks at begun clear none = absurd seeks
  stage_first number P p more stage.Each reply seeks at begun clear none = absurd seeks
  stage_first number P p more stage.ByNumber reply seeks at begun clear none = absurd seeks
  stage_first number P p more (stage.Oldest Finds) reply seeks at begun clear none = absurd seeks
  stage_first number P p more (stage.Oldest Renews) reply seeks at begun clear none =
      pick SaysFirst (length reply.records == 0) _ _ (λ empty. inl (refl, refl, refl, refl, λ go. tt))
      (λ some. renews_says (record p { more = more; held = [] }) reply.records (some_of reply.records some))
  stage_first number P p more (stage.Oldest Starts) reply seeks at begun clear none =
      pick SaysFirst (length reply.records == 0) _ _
      (λ empty. pick SaysFirst (p.total == 0) _ _
      (λ zero. none_says (record p { more = more; held = [] }) (eqb-true p.total 0 zero) seeks.0 seeks.1)
      (λ some. inl (refl, refl, refl, refl, λ go. seeks.0)))
      (λ some. starts_by_says (record p { more = more; held = [] }) reply.records seeks.0 (some_of reply.records some))
  stage_first number P p more (stage.UpTo Finds) reply seeks at begun clear none = absurd seeks
  stage_first number P p more (stage.UpTo Renews) reply seeks at begun clear none =
      pick SaysFirst (length reply.records == 0) _ _
      (λ empty. renews_none_says (record p { more = more; held = [] }) p.total begun.0 (none Renews refl (none_of reply.records empty)))
      (λ some. renews_says (record p { more = more; held = [] }) reply.records (some_of reply.records some))
  stage_first number P p more (stage.UpTo Starts) reply seeks at begun clear none =
      pick SaysFirst (length reply.records == 0) _ _
      (λ empty. let front : F (number_after p.total 1) = none Starts refl (none_of reply.records empty) in
      starts_says (record p { more = more; held = [] }) [] seeks (inl front) (inr (inl (number _ front))))
      (λ some. starts_by_says (record p { more = more; held = [] }) reply.records seeks (some_of reply.records some))
  stage_first number P p more (stage.Back Finds) reply seeks at begun clear none = absurd seeks
  stage_first number P p more (stage.Back Renews) reply seeks at begun clear none =
      back_first (record p { more = more; held = [] }) Renews p.held reply.records begun tt at.2 clear
  stage_first number P p more (stage.Back Starts) reply seeks at begun clear none =
      back_first (record p { more = more; held = [] }) Starts p.held reply.records begun seeks at.2 clear
  stage_first number P p more (stage.Counts aim) reply seeks at begun clear none = quiet_ends (record p { more = more; held = [] }) (Fault BadReply)
  stage_first number P p more stage.Revision reply seeks at begun clear none = absurd seeks
  stage_first number P p more stage.Restart reply seeks at begun clear none = absurd seeks
