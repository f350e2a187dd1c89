-- The laws of a run of batches.
use Rattle.std.proofs.Common.{◌≡◌, ◌∙◌, inl, inr, ℕ, ◌-◌, ◌<◌, ◌≤◌, min, true, List, [], ◌∷◌, ◌++◌, All, refl, sym}
use Rattle.std.proofs.Common.{ap, subst, append-nil, arith}
use Rattle.std.specs.Prelude.{◌==◌, ◌&&◌, ◌||◌, Bool, false, if◌then◌else◌, suc, zero}
use Rattle.std.proofs.lemmas.List.Elements.{All-head, All-nil}
use Rattle.bac_archive.specs.declared.row.Put.{Put}
use Rattle.bac_drive.specs.Chain.{Chain}
use Rattle.bac_ports.specs.Port.{Receiving}
use Rattle.bac_drive.specs.Event.{Event}
use Rattle.bac_drive.specs.Happens.{Steps}
use Rattle.bac_drive.specs.Laws.{puts_of}
use Rattle.bac_drive.specs.declared.machine.Next.{Next}
use Rattle.bac_drive.specs.declared.machine.Next.TheVariants as next
use Rattle.bac_batch.specs.Batch.{Answers, Batched, GivesBatched, HearsBatched, HoldsRows, IsFilled, ReadsBatched}
use Rattle.bac_batch.specs.Batch.{cut_short, is_nearly_full, left}
use Rattle.bac_batch.specs.Laws.{BatchedSteps, EndsWhole, HoldsNothing, Inside, IsAt, IsLine, LinesStandBehind}
use Rattle.bac_batch.specs.Laws.{LosesNothing, WaitsWithYoungRows}
use Rattle.bac_batch.specs.Laws.{is_line, joined, lines_held, lines_of}
use Rattle.bac_batch.proofs.Given.{is_line_given, line_no_keep, line_no_puts, line_told}
use Rattle.bac_batch.proofs.Parts.{last_step, puts_append}
use Rattle.bac_batch.proofs.Ran.{AreReplies, Ran, both_ran, none_ran}
use Rattle.bac_batch.proofs.Stepped.{cons_parts, no_snoc, stepped}

module _ {M : Type 0} (gives : M → Next → M → Type 0) (hears : M → Receiving → M → Type 0) (reads : M → ℕ → M →
    Type 0) where
  ran : (start : M) (before : List (List Put)) (old new : Batched M) (es : List Event) → IsAt gives start old →
      AreReplies old before → Chain (BatchedSteps gives hears reads) old es new →
      Ran gives hears reads start before old es new
  ran start before old new [] at replies same =
      let P : Batched M → Type 0 = λ b. Ran gives hears reads start before old [] b in
      subst P (sym same) (none_ran gives hears reads start before old at replies)
  ran start before old new (e ∷ es) at replies (mid, one, more) =
      let a = stepped gives hears reads start before old mid e at replies one in
      both_ran gives hears reads start before old mid new (e ∷ []) es a
      (ran a.last a.held mid new es a.at a.is_held more)

  held_is : (b : Batched M) (held : List (List Put)) → AreReplies b held → joined held ≡ b.puts
  held_is b held (inl (none, bare)) = ap joined bare ∙ sym none
  held_is b held (inr (holds, of, count, room)) = of

  pub inside : (old new : Batched M) (es : List Event) → HoldsNothing old →
      Chain (BatchedSteps gives hears reads) old es new →
      (inner : List Event) × (last : M) × Inside gives (Steps gives hears reads) old.machine es new inner last
  inside old new es (none, bare) chain =
      let P : List Next → Type 0 = λ l. All IsLine l in
      let r = ran old.machine [] old new es (inl (refl, subst P (sym bare) (All-nil IsLine))) (inl (none, refl))
      chain in (
        r.inner,
        r.last,
        record {
          run = r.run;
          at = r.at;
          traffic = r.traffic;
          rows = ap (λ (l : List Put). l ++ puts_of r.inner) (sym none) ∙ r.rows;
          lines = ap (λ (l : List Next). lines_held l ++ lines_of r.inner) (sym bare) ∙ r.lines;
          batches = (r.groups, r.held, r.replies, r.kept, held_is new r.held r.is_held, r.small);
        },
      )

  pub loses_nothing : LosesNothing gives hears reads
  loses_nothing = λ old new es nothing chain. inside old new es nothing chain

  -- ---- the end

  -- where it ends, nothing is held but the end
  record AtEnd (last : M) (b new : Batched M) : Type 0 where
    pub gives_end : gives last next.End new.machine
    pub no_rows : b.puts ≡ []
    pub no_lines : lines_held b.behind ≡ []

  filled_no_end : (mid new : Batched M) → IsFilled mid next.End new → ⊥
  filled_no_end mid new (inl (room, (keeps, same))) = keeps
  filled_no_end mid new (inr (none, (keeps, same))) = keeps

  -- it is asked, and ends
  end_asked : (m : M) (b new : Batched M) (wanted : Next) → gives b.machine wanted m → (b.puts ≡ [] → b.behind ≡ []) →
      Answers wanted (record b { machine = m }) next.End new → AtEnd b.machine b new
  end_asked m b new next.End gave free (inl (none, (wanted, same))) =
      let P : M → Type 0 = λ x. gives b.machine next.End x in
      record {
        gives_end = subst P (sym (ap (λ (x : Batched M). x.machine) same)) gave;
        no_rows = none;
        no_lines = ap lines_held (free none);
      }
  end_asked m b new next.End gave free (inr (holds, (keeps, same))) = absurd keeps
  end_asked m b new (next.Send octets to) gave free (wanted, same) = absurd (cc)
  end_asked m b new next.Read gave free (wanted, same) = absurd (cc)
  end_asked m b new (next.Wait most) gave free (inl (none, (wanted, same))) = absurd (cc)
  end_asked m b new (next.Wait most) gave free (inr (holds, inl (none, (keeps, same)))) = absurd keeps
  end_asked m b new (next.Wait most) gave free (inr (holds, inr (some, (wanted, same)))) = absurd (cc)
  end_asked m b new (next.Print text) gave free (inl (none, (wanted, same))) = absurd (cc)
  end_asked m b new (next.Print text) gave free (inr (holds, (keeps, same))) = absurd keeps
  end_asked m b new (next.Warn text) gave free (inl (none, (wanted, same))) = absurd (cc)
  end_asked m b new (next.Warn text) gave free (inr (holds, (keeps, same))) = absurd keeps
  end_asked m b new (next.Keep puts) gave free (inl (empty, (keeps, same))) = absurd keeps
  end_asked m b new (next.Keep puts) gave free (inr (some, (mid, held, filled))) = absurd (filled_no_end mid new filled)

  -- the end that stood behind the batch
  end_out : (last : M) (b new : Batched M) (wish : Next) (lines others : List Next) → b.puts ≡ [] →
      b.behind ≡ lines ++ wish ∷ [] → All IsLine lines → gives last wish b.machine → b.behind ≡ next.End ∷ others →
      new.machine ≡ b.machine → AtEnd last b new
  end_out last b new wish [] others none is all gave behind same =
      let (one, rest) = cons_parts next.End wish others [] (sym behind ∙ is) in
      let P : Next → Type 0 = λ x. gives last x b.machine in
      let Q : M → Type 0 = λ x. gives last next.End x in
      record {
        gives_end = subst Q (sym same) (subst P (sym one) gave);
        no_rows = none;
        no_lines = ap lines_held (behind ∙ ap (λ (l : List Next). next.End ∷ l) rest);
      }
  end_out last b new wish (line ∷ lines) others none is all gave behind same =
      let (one, rest) = cons_parts next.End line others (lines ++ wish ∷ []) (sym behind ∙ is) in
      let P : Next → Type 0 = λ x. IsLine x in
      absurd (subst P (sym one) (All-head IsLine line lines all))

  at_end : (last : M) (b new : Batched M) → IsAt gives last b → GivesBatched gives b next.End new → AtEnd last b new
  at_end last b new (inl (here, all)) (inl (others, none, behind, same)) =
      let P : List Next → Type 0 = λ l. All IsLine l in absurd (All-head IsLine next.End others (subst P behind all))
  at_end last b new (inl (here, all)) (inr (free, (wanted, m, gave, answers))) =
      let P : M → Type 0 = λ x. AtEnd x b new in subst P (sym here) (end_asked m b new wanted gave free answers)
  at_end last b new (inr (wish, lines, none, is, all, wishes, gave)) (inl (others, empty, behind, same)) =
      end_out last b new wish lines others none is all gave behind (ap (λ (x : Batched M). x.machine) same)
  at_end last b new (inr (wish, lines, none, is, all, wishes, gave)) (inr (free, asks)) =
      absurd (no_snoc lines wish (sym is ∙ free none))

  pub ends_whole : EndsWhole gives hears reads
  ends_whole = λ old last new es nothing chain end.
      let (inner, here, i) = inside old last es nothing chain in
      let e = at_end here last new i.at end in (
        inner,
        here,
        i.run,
        e.gives_end,
        i.traffic,
        i.rows ∙ ap (λ (l : List Put). puts_of es ++ l) e.no_rows ∙ append-nil (puts_of es),
        i.lines ∙ ap (λ (l : List Event). lines_of es ++ l) e.no_lines ∙ append-nil (lines_of es),
      )

  -- ---- lines

  line_no_rows : (b new : Batched M) (wanted given : Next) → IsLine given → Answers wanted b given new → new.puts ≡ []
  line_no_rows b new (next.Print text) given is (inl (none, (wanted, same))) =
      ap (λ (x : Batched M). x.puts) same ∙ none
  line_no_rows b new (next.Warn text) given is (inl (none, (wanted, same))) = ap (λ (x : Batched M). x.puts) same ∙ none
  line_no_rows b new next.End given is (inl (none, (wanted, same))) = ap (λ (x : Batched M). x.puts) same ∙ none
  line_no_rows b new (next.Wait most) given is (inl (none, (wanted, same))) = ap (λ (x : Batched M). x.puts) same ∙ none
  line_no_rows b new (next.Print text) given is (inr (holds, (keeps, same))) = absurd (line_no_keep [] given is keeps)
  line_no_rows b new (next.Warn text) given is (inr (holds, (keeps, same))) = absurd (line_no_keep [] given is keeps)
  line_no_rows b new next.End given is (inr (holds, (keeps, same))) = absurd (line_no_keep b.puts given is keeps)
  line_no_rows b new (next.Wait most) given is (inr (holds, inl (none, (keeps, same)))) =
      absurd (line_no_keep b.puts given is keeps)
  line_no_rows b new (next.Wait most) given is (inr (holds, inr (some, (wanted, same)))) =
      let P : Next → Type 0 = λ x. IsLine x in absurd (subst P wanted is)
  line_no_rows b new (next.Send octets to) given is (wanted, same) = let P : Next → Type 0 = λ x. IsLine x in
      absurd (subst P wanted is)
  line_no_rows b new next.Read given is (wanted, same) = let P : Next → Type 0 = λ x. IsLine x in
      absurd (subst P wanted is)
  line_no_rows b new (next.Keep puts) given is (inl (empty, (keeps, same))) = absurd (line_no_keep [] given is keeps)
  line_no_rows b new (next.Keep puts) given is (inr (some, (mid, held, inl (room, (keeps, same))))) =
      absurd (line_no_keep [] given is keeps)
  line_no_rows b new (next.Keep puts) given is (inr (some, (mid, held, inr (none, (keeps, same))))) =
      absurd (line_no_keep mid.puts given is keeps)

  line_gives : (old mid : Batched M) (given : Next) → IsLine given → GivesBatched gives old given mid → mid.puts ≡ []
  line_gives old mid given is (inl (others, none, behind, same)) = ap (λ (x : Batched M). x.puts) same ∙ none
  line_gives old mid given is (inr (free, (wanted, m, gave, answers))) =
      line_no_rows (record old { machine = m }) mid wanted given is answers

  line_step : (old new : Batched M) (line : Event) → is_line line ≡ true →
      BatchedSteps gives hears reads old line new → new.puts ≡ []
  line_step old new line is (given, mid, said, does, told) =
      ap (λ (x : Batched M). x.puts) (line_told (HearsBatched hears) (ReadsBatched reads) mid new line is told)
      ∙ line_gives old mid given (is_line_given given line is does) said

  pub lines_stand_behind : LinesStandBehind gives hears reads
  lines_stand_behind = λ old new es line nothing is chain.
      let (inner, last, i) = inside old new (es ++ line ∷ []) nothing chain in
      let step = last_step (BatchedSteps gives hears reads) old new es line chain in
      let none = line_step step.0 new line is step.2 in (
        inner,
        last,
        i,
        i.rows ∙ ap (λ (l : List Put). puts_of (es ++ line ∷ []) ++ l) none ∙ append-nil (puts_of (es ++ line ∷ []))
            ∙ puts_append es (line ∷ [])
            ∙ ap (λ (l : List Put). puts_of es ++ l) (line_no_puts line is) ∙ append-nil (puts_of es),
      )

  -- ---- waits

  -- what isn't due may be held still
  not_due : (n : ℕ) (more : Bool) → ((n == 0) || more) ≡ false → 0 < n
  not_due zero more is = absurd (let f : true ≡ false = is in cc)
  not_due (suc n) more is = omega arith

  -- and is waited for no longer
  short_enough : (most : ℕ) (b : Batched M) → cut_short most b ≤ left b
  short_enough most b = by (is_nearly_full b)
    where
      by : (full : Bool) → (if full then 0 else min most (left b)) ≤ left b
      by true = omega arith
      by false = omega arith

  wait_asked : (b new : Batched M) (wanted : Next) (most : ℕ) → Answers wanted b (next.Wait most) new → HoldsRows new →
      (new.time - new.since < 100) × (most ≤ 100 - (new.time - new.since))
  wait_asked b new (next.Wait wish) most (inl (none, (wanted, same))) holds =
      absurd (holds (ap (λ (x : Batched M). x.puts) same ∙ none))
  wait_asked b new (next.Wait wish) most (inr (rows, inl (none, (keeps, same)))) holds = absurd keeps
  wait_asked b new (next.Wait wish) most (inr (rows, inr (young, (wanted, same)))) holds =
      let time : new.time ≡ b.time = ap (λ (x : Batched M). x.time) same in
      let since : new.since ≡ b.since = ap (λ (x : Batched M). x.since) same in
      let is : most ≡ cut_short wish b = cc in
      let some = not_due (left b) (is_nearly_full b && b.quiet) young in
      (omega (arith, some, time, since), omega (arith, some, time, since, is, short_enough wish b))
  wait_asked b new next.End most (inl (none, (wanted, same))) holds = absurd (cc)
  wait_asked b new next.End most (inr (rows, (keeps, same))) holds = absurd keeps
  wait_asked b new (next.Print text) most (inl (none, (wanted, same))) holds = absurd (cc)
  wait_asked b new (next.Print text) most (inr (rows, (keeps, same))) holds = absurd keeps
  wait_asked b new (next.Warn text) most (inl (none, (wanted, same))) holds = absurd (cc)
  wait_asked b new (next.Warn text) most (inr (rows, (keeps, same))) holds = absurd keeps
  wait_asked b new (next.Send octets to) most (wanted, same) holds = absurd (cc)
  wait_asked b new next.Read most (wanted, same) holds = absurd (cc)
  wait_asked b new (next.Keep puts) most (inl (empty, (keeps, same))) holds = absurd keeps
  wait_asked b new (next.Keep puts) most (inr (some, (mid, held, inl (room, (keeps, same))))) holds = absurd keeps
  wait_asked b new (next.Keep puts) most (inr (some, (mid, held, inr (none, (keeps, same))))) holds = absurd keeps

  pub waits_with_young_rows : WaitsWithYoungRows gives
  waits_with_young_rows old new most (inl (others, none, behind, same)) holds =
      absurd (holds (ap (λ (x : Batched M). x.puts) same ∙ none))
  waits_with_young_rows old new most (inr (free, (wanted, m, gave, answers))) holds =
      wait_asked (record old { machine = m }) new wanted most answers holds
