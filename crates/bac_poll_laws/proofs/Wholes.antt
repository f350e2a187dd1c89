-- What turns bring: the steps of which the rule is made.
use Rattle.std.proofs.Common.{◌≡◌, ℕ, suc, ◌-◌, ◌==◌, Bool, true, false, if◌then◌else◌, Option, Some, List, [], ◌∷◌}
use Rattle.std.proofs.Common.{◌++◌, length, map, slice_get, cond, refl, sym, ap, subst, ◌∙◌, arith}
use Rattle.std.proofs.lemmas.Bool.{eqb-true}
use Rattle.bac_log.specs.declared.entry.Entry.{Entry}
use Rattle.bac_link.specs.Ordinals.{number_after}
use Rattle.bac_link.specs.declared.item.Item.{Item}
use Rattle.bac_link.specs.declared.item.Item.TheVariants.{Gap}
use Rattle.bac_walk.specs.Walks.{item_of, with_numbers}
use Rattle.bac_walk.specs.declared.batch.Numbered.{Numbered}
use Rattle.bac_poll.specs.Known.{record_at, records_behind}
use Rattle.bac_poll_laws.specs.Laws.{Covers, EndAt, Goes, HoldsOfEach, IsRun, IsStanding}
use Rattle.bac_poll.specs.State.{PollState}
use Rattle.bac_poll.specs.Turns.{Turned, asks, behind, brings, brings_to, end_of, ends, first_in, first_number}
use Rattle.bac_poll.specs.Turns.{gap_up_to, last_in, number_or}
use Rattle.bac_poll_steps.specs.declared.turn.PollEnd.{PollEnd}

module _ (P : Numbered → Type 0) (F : ℕ → Type 0) where
  -- ---- runs

  -- records that are numbered are a run
  pub numbered_run : (n : ℕ) (es : List Entry) → HoldsOfEach P (with_numbers n es) → IsRun P n (with_numbers n es)
  numbered_run n [] all = tt
  numbered_run n (e ∷ es) all = (refl, all.0, numbered_run (number_after n 1) es all.1)

  -- from its first number on
  pub run_first : (n : ℕ) (rs : List Numbered) → IsRun P n rs → IsRun P (first_number rs) rs
  run_first n [] run = tt
  run_first n (r ∷ rs) run = (refl, run.1, run.2)

  behind_at : (b : Bool) (number : ℕ) (r : Numbered) (rs : List Numbered) → (b ≡ true → r.number ≡ number) →
      IsRun P (number_after r.number 1) rs → IsRun P (number_after number 1) (records_behind number rs) →
      IsRun P (number_after number 1) (if b then rs else records_behind number rs)
  behind_at true number r rs same run rest = subst (λ k. IsRun P (number_after k 1) rs) (same refl) run
  behind_at false number r rs same run rest = rest

  -- what follows one of its records is a run from the number behind that
  pub run_behind : (number n : ℕ) (rs : List Numbered) → IsRun P n rs → IsRun P (number_after number 1) (records_behind number rs)
  run_behind number n [] run = tt
  run_behind number n (r ∷ rs) run =
      behind_at (r.number == number) number r rs (eqb-true r.number number) run.2 (run_behind number (number_after r.number 1) rs run.2)

  pub last_step : (r s : Numbered) (rs : List Numbered) → last_in (r ∷ s ∷ rs) ≡ last_in (s ∷ rs)
  last_step r s rs =
      let at : length (r ∷ s ∷ rs) - 1 ≡ suc (length (s ∷ rs) - 1) = omega arith in
      ap (λ (i : ℕ). slice_get (r ∷ s ∷ rs) i) at

  -- it covers its numbers, up to the one behind its last
  pub run_ends : (n : ℕ) (r : Numbered) (rs : List Numbered) → IsRun P n (r ∷ rs) →
      (l : Numbered) × (last_in (r ∷ rs) ≡ Some l) × Covers P n (map item_of (r ∷ rs)) (number_after l.number 1)
  run_ends n r [] run = (r, refl, (run.0, run.1, refl))
  run_ends n r (s ∷ rs) run =
      let rest = run_ends (number_after r.number 1) s rs run.2 in
      (rest.0, last_step r s rs ∙ rest.1, (run.0, run.1, rest.2))

  -- ---- gaps

  gap_at : (c : Bool) (a b : ℕ) (items : List Item) (m : ℕ) → (c ≡ true → a ≡ b) → Covers P b items m →
      Covers P a ((if c then [] else Gap a b ∷ []) ++ items) m
  gap_at true a b items m same cov = subst (λ k. Covers P k items m) (sym (same refl)) cov
  gap_at false a b items m same cov = (refl, cov)

  -- a gap in front of what is covered
  pub gap_front : (a b : ℕ) (items : List Item) (m : ℕ) → Covers P b items m → Covers P a (gap_up_to a b ++ items) m
  gap_front a b items m cov = gap_at (a == b) a b items m (eqb-true a b) cov

  alone_at : (c : Bool) (a b : ℕ) → (c ≡ true → a ≡ b) → Covers P a (if c then [] else Gap a b ∷ []) b
  alone_at true a b same = sym (same refl)
  alone_at false a b same = (refl, refl)

  -- a gap alone
  pub gap_alone : (a b : ℕ) → Covers P a (gap_up_to a b) b
  gap_alone a b = alone_at (a == b) a b (eqb-true a b)

  ends_at : (c : Bool) (a b : ℕ) → F b → EndAt F (if c then [] else Gap a b ∷ [])
  ends_at true a b is = tt
  ends_at false a b is = (is, tt)

  -- it ends there
  pub gap_ends : (a b : ℕ) → F b → EndAt F (gap_up_to a b)
  gap_ends a b is = ends_at (a == b) a b is

  -- ---- turns

  -- by a choice
  pub split : (T : Turned → Type 0) (b : Bool) (x y : Turned) → (b ≡ true → T x) → (b ≡ false → T y) → T (if b then x else y)
  split T true x y f g = f refl
  split T false x y f g = g refl

  pub asks_goes : (p : PollState) → IsStanding P F p → Goes P F p.next (asks p)
  asks_goes p is = (record { mid = p.next; before = refl; behind = refl; fronts = λ sure. (tt, tt) }, λ none. is)

  pub ends_goes : (p : PollState) (why : PollEnd) → Goes P F p.next (ends p why)
  ends_goes p why = (record { mid = p.next; before = refl; behind = refl; fronts = λ sure. (tt, tt) }, λ none. absurd (cc))

  -- what is kept of a run, in any turn
  pub brings_by : (T : Turned → Type 0) (p : PollState) (n : ℕ) (rs : List Numbered) → IsRun P n rs → (rs ≡ [] → T (ends p (end_of p))) →
      ((l : Numbered) → Covers P n (map item_of rs) (number_after l.number 1) →
      T (record (asks (behind p rs l)) { records = rs })) → T (brings p rs)
  brings_by T p n [] run none some = none refl
  brings_by T p n (r ∷ rs) run none some =
      let e = run_ends n r rs run in
      let Q : Option Numbered → Type 0 = λ last. T (brings_to p (r ∷ rs) last) in
      subst Q (sym e.1) (some e.0 e.2)

  -- behind the newest known record
  pub brings_goes : (p : PollState) (rs : List Numbered) → IsRun P p.next rs → Goes P F p.next (brings p rs)
  brings_goes p rs run =
      brings_by (Goes P F p.next) p p.next rs run (λ none. ends_goes p (end_of p))
      (λ l cov. (record { mid = p.next; before = refl; behind = cov; fronts = λ sure. (tt, tt) }, λ none. (refl, tt)))

  cond_found : (b : Bool) (n : ℕ) (r held : Numbered) (rest : Option Numbered) → (b ≡ true → r.number ≡ n) → (rest ≡ Some held → held.number ≡ n) →
      cond b (Some r) rest ≡ Some held → held.number ≡ n
  cond_found true n r held rest same later is = let e : r ≡ held = cc in subst (λ (x : Numbered). x.number ≡ n) e (same refl)
  cond_found false n r held rest same later is = later is

  -- the record of a number has it
  pub found_number : (n : ℕ) (rs : List Numbered) (held : Numbered) → record_at n rs ≡ Some held → held.number ≡ n
  found_number n [] held is = absurd (cc)
  found_number n (r ∷ rs) held is =
      cond_found (r.number == n) n r held (record_at n rs) (eqb-true r.number n) (λ e. found_number n rs held e) is

  -- a run from its first number on is one from there, or from anywhere if it is empty
  pub run_or : (n : ℕ) (rs : List Numbered) → IsRun P (first_number rs) rs → IsRun P (number_or n (first_in rs)) rs
  run_or n [] run = tt
  run_or n (r ∷ rs) run = run
