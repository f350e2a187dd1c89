-- What is held is kept.
use Rattle.std.proofs.Common.{arith, ◌≡◌, ℕ, suc, ◌+◌, ◌<◌, ◌≤◌, ◌==◌, nat_lt, Bool, true, false, if◌then◌else◌, List}
use Rattle.std.proofs.Common.{[], ◌∷◌, ◌++◌, refl, sym, ap, subst, ◌∙◌, ◌⊎◌, inl, inr}
use Rattle.std.proofs.lemmas.Bool.{eq-eqb, eqb-true, ltb-true, ltb-false}
use Rattle.bac_log.specs.TrendLog.{sequence_number}
use Rattle.bac_link.specs.Delivery.{History, Holds, IsEntry, Moment}
use Rattle.bac_link.specs.declared.item.Item.{Item}
use Rattle.bac_link.specs.declared.item.Item.TheVariants.{Gap, Logged}
use Rattle.bac_walk.specs.declared.batch.Numbered.{Numbered}
use Rattle.bac_poll_laws.specs.Caught.{WasNone, last_turn, since}
use Rattle.bac_poll_laws.specs.Delivers.{AreOf, BeginsAt, Brings, CameInDoubt, Delivers, Given, IsGap, LiesIn, WasFront}
use Rattle.bac_poll_laws.specs.Delivers.{after_given}
use Rattle.bac_poll_laws.specs.Held.{AreRising, AreSure, AtSome, HeldIsKept, IsKeptOnce, kept_by, last_oldest, times}
use Rattle.bac_poll_laws.specs.Laws.{IsAmong}
use Rattle.bac_poll.specs.State.{PollState}
use Rattle.bac_poll.specs.Turns.{Turned, asks}
use Rattle.bac_poll_laws.proofs.Ordered.{near_ordinal}
use Rattle.bac_poll_laws.proofs.Polls.{delivers}

-- ---- how often a number comes

times_both : (n : ℕ) (rs others : List Numbered) → times n (rs ++ others) ≡ times n rs + times n others
times_both n [] others = omega arith
times_both n (r ∷ rs) others = by (r.number == n) (times_both n rs others)
  where
    by : (b : Bool) → times n (rs ++ others) ≡ times n rs + times n others →
        (if b then suc (times n (rs ++ others)) else times n (rs ++ others)) ≡ (if b then suc (times n rs) else times n rs) + times n others
    by true same = omega (arith, same)
    by false same = same

among_left : (rs others : List Numbered) (held : Numbered) → IsAmong rs held → IsAmong (rs ++ others) held
among_left [] others held is = absurd is
among_left (r ∷ rs) others held (inl same) = inl same
among_left (r ∷ rs) others held (inr is) = inr (among_left rs others held is)

among_right : (rs others : List Numbered) (held : Numbered) → IsAmong others held → IsAmong (rs ++ others) held
among_right [] others held is = is
among_right (r ∷ rs) others held is = inr (among_right rs others held is)

-- ---- the ordinals of what is kept

gap_le : (s : ℕ) (items : List Item) (t : ℕ) → IsGap s items t → s ≤ t
gap_le s [] t is = omega (arith, is)
gap_le s (Gap first before ∷ []) t is = omega (arith, is.2)
gap_le s (Gap first before ∷ item ∷ items) t is = absurd is
gap_le s (Logged shown entry ∷ items) t is = absurd is

module _ (H : History) where
  of_le : (M : List Moment) (s t : ℕ) (rs : List Numbered) → AreOf H M s rs t → s ≤ t
  of_le M s t [] are = omega (arith, are)
  of_le M s t (r ∷ rs) are = let le = of_le M (s + 1) t rs are.3 in omega (arith, le)

  -- where the records of a turn begin that begins no epoch
  turn_first : (M : List Moment) (s t : ℕ) (turn : Turned) → turn.anew ≡ false → (b : Brings H M s turn t) → b.first ≡ b.mid
  turn_first M s t turn same b = (subst (λ (c : Bool). BeginsAt c b.mid b.start b.first) same b.begins).1

  turn_le : (M : List Moment) (s t : ℕ) (turn : Turned) → turn.anew ≡ false → (b : Brings H M s turn t) → s ≤ t
  turn_le M s t turn same b =
      let low = gap_le s turn.missing b.mid b.missing in
      let high = of_le M b.first t turn.records b.records in
      let first = turn_first M s t turn same b in
      omega (arith, low, high, first)

  all_le : (M : List Moment) (p : PollState) (s t : ℕ) (given : List Given) → AreSure p given → Delivers H M p s given t → s ≤ t
  all_le M p s t [] sure all = omega (arith, all)
  all_le M p s t (given ∷ others) sure all =
      let here = turn_le (given.moment ∷ M) s all.0 (after_given p given) sure.0 all.1 in
      let rest = all_le (given.moment ∷ M) (after_given p given).poll all.0 t others sure.2 all.2 in
      omega (arith, here, rest)

  -- ---- how often an ordinal comes

  -- before records, or behind them, not at all
  none_of : (low : ℕ) (M : List Moment) (s t k : ℕ) (rs : List Numbered) → low ≤ s → t ≤ low + 2147483647 → LiesIn low k → (k < s) ⊎ (t ≤ k) → AreOf H M s rs t →
      times (sequence_number k) rs ≡ 0
  none_of low M s t k [] above below lies out are = refl
  none_of low M s t k (r ∷ rs) above below lies out are = by (r.number == sequence_number k) refl (none_of low M (s + 1) t k rs (omega (arith, above)) below lies (still out) are.3)
    where
      still : (k < s) ⊎ (t ≤ k) → (k < s + 1) ⊎ (t ≤ k)
      still (inl before) = inl (omega (arith, before))
      still (inr behind) = inr behind

      other : (k < s) ⊎ (t ≤ k) → s ≡ k → ⊥
      other (inl before) same = omega (arith, before, same)
      other (inr behind) same = let le = of_le M (s + 1) t rs are.3 in omega (arith, behind, same, le)

      by : (b : Bool) → (r.number == sequence_number k) ≡ b → times (sequence_number k) rs ≡ 0 → (if b then suc (times (sequence_number k) rs) else times (sequence_number k) rs) ≡ 0
      by true is rest =
          let le = of_le M (s + 1) t rs are.3 in
          let same : s ≡ k = near_ordinal low s k (above, omega (arith, below, le)) lies (sym are.0 ∙ eqb-true r.number (sequence_number k) is) in
          absurd (other out same)
      by false is rest = rest

  -- the entry of an ordinal comes among records, and its number once
  Once : ℕ → List Numbered → Type 0
  Once k kept = IsKeptOnce H kept k

  once_in : (low : ℕ) (M : List Moment) (s t k : ℕ) (rs : List Numbered) → low ≤ s → t ≤ low + 2147483647 → LiesIn low k → s ≤ k → k < t → AreOf H M s rs t → Once k rs
  unfolding Once
  once_in low M s t k [] above below lies from upto are = let never : ⊥ = omega (arith, from, upto, are) in absurd never
  once_in low M s t k (r ∷ rs) above below lies from upto are = by (nat_lt s k) refl (λ later. once_in low M (s + 1) t k rs (omega (arith, above)) below lies later upto are.3)
    where
      skip : (b : Bool) → (r.number == sequence_number k) ≡ b → s < k → times (sequence_number k) rs ≡ 1 → (if b then suc (times (sequence_number k) rs) else times (sequence_number k) rs) ≡ 1
      skip true is less once =
          let same : s ≡ k = near_ordinal low s k (above, omega (arith, lies.1, less)) lies (sym are.0 ∙ eqb-true r.number (sequence_number k) is) in
          let never : ⊥ = omega (arith, same, less) in absurd never
      skip false is less once = once

      by : (b : Bool) → nat_lt s k ≡ b → (s + 1 ≤ k → IsKeptOnce H rs k) → IsKeptOnce H (r ∷ rs) k
      by true is rest =
          let less : s < k = ltb-true s k is in
          let e = rest (omega (arith, less)) in
          (e.0, e.1, inr e.2, skip (r.number == sequence_number k) refl less e.3)
      by false is rest =
          let ge : k ≤ s = ltb-false s k is in
          let same : s ≡ k = omega (arith, from, ge) in
          let number : r.number ≡ sequence_number k = are.0 ∙ ap sequence_number same in
          let none : times (sequence_number k) rs ≡ 0 = none_of low M (s + 1) t k rs (omega (arith, above)) below lies (inl (omega (arith, same))) are.3 in
          let shown : r ≡ record { number = sequence_number k; entry = r.entry } = ap (λ (n : ℕ). record { number = n; entry = r.entry }) number in (
            r.entry,
            subst (λ (j : ℕ). IsEntry H j r.entry) same are.1,
            inl shown,
            subst (λ (b : Bool). (if b then suc (times (sequence_number k) rs) else times (sequence_number k) rs) ≡ 1) (sym (eq-eqb r.number (sequence_number k) number)) (ap suc none),
          )

  -- before the ordinals of answers, or behind them, not at all
  none_all : (low : ℕ) (M : List Moment) (p : PollState) (s t k : ℕ) (given : List Given) → low ≤ s → t ≤ low + 2147483647 → LiesIn low k → (k < s) ⊎ (t ≤ k) → AreSure p given →
      Delivers H M p s given t → times (sequence_number k) (kept_by p given) ≡ 0
  none_all low M p s t k [] above below lies out sure all = refl
  none_all low M p s t k (given ∷ others) above below lies out sure all =
      let turn = after_given p given in
      let M2 = given.moment ∷ M in
      let here = turn_le M2 s all.0 turn sure.0 all.1 in
      let gap = gap_le s turn.missing all.1.mid all.1.missing in
      let first = turn_first M2 s all.0 turn sure.0 all.1 in
      let rest = all_le M2 turn.poll all.0 t others sure.2 all.2 in
      let now = none_of low M2 all.1.first all.0 k turn.records (omega (arith, above, gap, first)) (omega (arith, below, rest)) lies
      (before out gap first rest) all.1.records in
      let later = none_all low M2 turn.poll all.0 t k others (omega (arith, above, here)) below lies (still out here) sure.2 all.2 in
      times_both (sequence_number k) turn.records (kept_by turn.poll others) ∙ omega (arith, now, later)
    where
      before : {first mid u : ℕ} → (k < s) ⊎ (t ≤ k) → s ≤ mid → first ≡ mid → u ≤ t → (k < first) ⊎ (u ≤ k)
      before (inl less) gap first rest = inl (omega (arith, less, gap, first))
      before (inr more) gap first rest = inr (omega (arith, more, rest))

      still : {u : ℕ} → (k < s) ⊎ (t ≤ k) → s ≤ u → (k < u) ⊎ (t ≤ k)
      still (inl less) here = inl (omega (arith, less, here))
      still (inr more) here = inr more

  -- ---- what gaps lie over

  -- an ordinal from which on something was held at each of these moments
  Reaches : List Moment → ℕ → Type 0
  Reaches [] k = Unit {0}
  Reaches (m ∷ M) k = (m.oldest ≤ k) × Reaches M k

  not_front : (M : List Moment) (mid k : ℕ) → Reaches M k → k < mid → WasFront M mid → ⊥
  unfolding Reaches
  not_front [] mid k reaches less front = front
  not_front (m ∷ M) mid k reaches less (inl here) = omega (arith, reaches.0, less, here)
  not_front (m ∷ M) mid k reaches less (inr front) = not_front M mid k reaches.1 less front

  not_doubtful : (M : List Moment) (s mid : ℕ) (turn : Turned) → turn.doubtful ≡ false → CameInDoubt H M s mid turn.doubtful → ⊥
  not_doubtful M s mid turn sure came = let never : true ≡ false = sym came.0 ∙ sure in absurd (cc)

  rising_last : (oldest : ℕ) (given : List Given) → AreRising oldest given → oldest ≤ last_oldest oldest given
  rising_last oldest [] rising = omega arith
  rising_last oldest (given ∷ others) rising = let rest = rising_last given.moment.oldest others rising.1 in omega (arith, rising.0, rest)

  -- an ordinal that answers deliver, and that is reached by the moment of each, is kept once
  once_all : (low : ℕ) (M : List Moment) (p : PollState) (s t k oldest : ℕ) (given : List Given) → low ≤ s → t ≤ low + 2147483647 → LiesIn low k → s ≤ k → k < t → AreSure p given →
      AreRising oldest given → last_oldest oldest given ≤ k → Reaches M k → Delivers H M p s given t → Once k (kept_by p given)
  unfolding Once Reaches
  once_all low M p s t k oldest [] above below lies from upto sure rising last reaches all = let never : ⊥ = omega (arith, from, upto, all) in absurd never
  once_all low M p s t k oldest (given ∷ others) above below lies from upto sure rising last reaches all =
      let turn = after_given p given in
      let M2 = given.moment ∷ M in
      let near = rising_last given.moment.oldest others rising.1 in
      let reached : Reaches M2 k = (omega (arith, near, last), reaches) in
      let here = turn_le M2 s all.0 turn sure.0 all.1 in
      let gap = gap_le s turn.missing all.1.mid all.1.missing in
      let first = turn_first M2 s all.0 turn sure.0 all.1 in
      let rest = all_le M2 turn.poll all.0 t others sure.2 all.2 in
      let reach_mid = behind_gap M2 all.1 reached sure.1 in
      by all.1 first gap reach_mid here rest (λ less. none_all low M2 turn.poll all.0 t k others (omega (arith, above, here)) below lies (inl less) sure.2 all.2)
      (λ later. once_all low M2 turn.poll all.0 t k given.moment.oldest others (omega (arith, above, here)) below lies later upto sure.2 rising.1 last reached all.2)
    where
      behind_gap : (M2 : List Moment) {u : ℕ} (b : Brings H M2 s (after_given p given) u) → Reaches M2 k → (after_given p given).doubtful ≡ false → b.mid ≤ k
      behind_gap M2 b reached sure = at (nat_lt k b.mid) refl
        where
          at : (c : Bool) → nat_lt k b.mid ≡ c → b.mid ≤ k
          at false is = ltb-false k b.mid is
          at true is =
              let less : k < b.mid = ltb-true k b.mid is in
              absurd (either (b.gone (omega (arith, from, less))) less)
            where
              either : WasFront M2 b.mid ⊎ CameInDoubt H M2 s b.mid (after_given p given).doubtful → k < b.mid → ⊥
              either (inl front) less = not_front M2 b.mid k reached less front
              either (inr came) less = not_doubtful M2 s b.mid (after_given p given) sure came

      by : {u : ℕ} (b : Brings H (given.moment ∷ M) s (after_given p given) u) → b.first ≡ b.mid → s ≤ b.mid → b.mid ≤ k → s ≤ u → u ≤ t →
          (k < u → times (sequence_number k) (kept_by (after_given p given).poll others) ≡ 0) →
          (u ≤ k → IsKeptOnce H (kept_by (after_given p given).poll others) k) → IsKeptOnce H (kept_by p (given ∷ others)) k
      by {u} b first gap mid here rest none once = at (nat_lt k u) refl
        where
          at : (c : Bool) → nat_lt k u ≡ c → IsKeptOnce H ((after_given p given).records ++ kept_by (after_given p given).poll others) k
          at true is =
              let less : k < u = ltb-true k u is in
              let e = once_in low (given.moment ∷ M) b.first u k (after_given p given).records (omega (arith, above, gap, first)) (omega (arith, below, rest)) lies (omega (arith, mid, first)) less b.records in
              let zero = none less in (
                e.0,
                e.1,
                among_left (after_given p given).records _ _ e.2,
                times_both (sequence_number k) (after_given p given).records _ ∙ omega (arith, zero, e.3),
              )
          at false is =
              let ge : u ≤ k = ltb-false k u is in
              let e = once ge in
              let zero = none_of low (given.moment ∷ M) b.first u k (after_given p given).records (omega (arith, above, gap, first)) (omega (arith, below, rest)) lies (inr ge) b.records in (
                e.0,
                e.1,
                among_right (after_given p given).records _ _ e.2,
                times_both (sequence_number k) (after_given p given).records _ ∙ omega (arith, zero, e.3),
              )

some_by : (Q : Moment → Type 0) (t : ℕ) → ((m : Moment) → ((k : ℕ) → t ≤ k → Holds m k → ⊥) → Q m) → (M : List Moment) → WasNone M t → AtSome Q M
some_by Q t f [] none = none
some_by Q t f (m ∷ M) (inl none) = inl (f m none)
some_by Q t f (m ∷ M) (inr none) = inr (some_by Q t f M none)

-- what is held, and isn't from an ordinal on, lies before it
before_end : (m : Moment) (t k : ℕ) → ((j : ℕ) → t ≤ j → Holds m j → ⊥) → Holds m k → k < t
before_end m t k none held = by (nat_lt k t) refl
  where
    by : (b : Bool) → nat_lt k t ≡ b → k < t
    by true is = ltb-true k t is
    by false is = absurd (none k (ltb-false k t is) held)

pub held_kept : HeldIsKept
unfolding Reaches Once
held_kept H low s p given joined more shows newest sure rising end =
    let all = delivers H low s p given joined shows in
    let up = all.2 more newest end (last_sure (asks p) p given refl sure) in
    some_by _ all.0 (λ m none k from held last.
    let less = before_end m all.0 k none held in
    once_all H low [] p s all.0 k 0 given joined.lies.0 (omega (arith, up.1.1)) (omega (arith, joined.lies.0, from), omega (arith, less, up.1.1)) from less sure rising last tt all.1)
    (since [] p given) up.0
  where
    last_sure : (t : Turned) (q : PollState) (given : List Given) → t.anew ≡ false → AreSure q given → (last_turn t q given).anew ≡ false
    last_sure t q [] same sure = same
    last_sure t q (g ∷ others) same sure = last_sure (after_given q g) (after_given q g).poll others sure.0 sure.2
