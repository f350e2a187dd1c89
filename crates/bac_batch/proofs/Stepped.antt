-- What the machine inside makes of one event of its batches.
use Rattle.std.proofs.Common.{◌≡◌, ◌∙◌, inl, inr, ℕ, ◌+◌, ◌-◌, ◌<◌, ◌≤◌, max, min, List, [], ◌∷◌, ◌++◌, All, Option}
use Rattle.std.proofs.Common.{length, refl, sym, ap, subst, append-nil, length-append, arith}
use Rattle.std.specs.Prelude.{Bool, true, false, is_err, if◌then◌else◌}
use Rattle.std.specs.List.{cons_option}
use Rattle.std.proofs.lemmas.List.Elements.{All-cons, All-head, All-nil, All-push, All-tail, filter_map-append}
use Rattle.bac_archive.specs.declared.row.Put.{Put}
use Rattle.bac_ports.specs.Port.{Receiving}
use Rattle.bac_drive.specs.Event.{Event, Kept, Printed, Read, Sent, Waited, Warned}
use Rattle.bac_drive.specs.Happens.{Does, Learns, Steps}
use Rattle.bac_drive.specs.Laws.{puts_of}
use Rattle.bac_drive.specs.declared.machine.Next.{Next}
use Rattle.bac_drive.specs.declared.machine.Next.TheVariants as next
use Rattle.bac_batch.specs.Batch.{Answers, Batched, HearsBatched, HoldsRows, IsBatchBefore, IsFilled, IsFreed, IsHeld}
use Rattle.bac_batch.specs.Batch.{NoneFreed, ReadsBatched, Tells, cut_short, is_nearly_full, left}
use Rattle.bac_batch.specs.Laws.{AreCutShort, BatchedSteps, IsAt, IsLine, IsWish, joined, keeps_of, line_held}
use Rattle.bac_batch.specs.Laws.{lines_held, lines_of, traffic_of}
use Rattle.bac_batch.proofs.Given.{AsLine, as_line, does_end, does_keep, does_read, does_send, does_wait, keeps_some}
use Rattle.bac_batch.proofs.Given.{line_learns, line_told, wish_no_line}
use Rattle.bac_batch.proofs.Parts.{joined_append}
use Rattle.bac_batch.proofs.Ran.{AreReplies, Ran}

-- a wait that is cut short is no longer
shorter : {M : Type 0} (most : ℕ) (b : Batched M) → cut_short most b ≤ most
shorter {M = M} most b = by (is_nearly_full b)
  where
    by : (full : Bool) → (if full then 0 else min most (left b)) ≤ most
    by true = omega arith
    by false = omega arith

pub no_snoc : {X : Type 0} (xs : List X) (x : X) → xs ++ x ∷ [] ≡ [] → ⊥
no_snoc xs x is = omega (arith, ap length is, length-append xs (x ∷ []))

pub cons_parts : {X : Type 0} (x y : X) (xs ys : List X) → x ∷ xs ≡ y ∷ ys → (x ≡ y) × (xs ≡ ys)
cons_parts x y xs ys is = (cc, cc)

module _ {M : Type 0} (gives : M → Next → M → Type 0) (hears : M → Receiving → M → Type 0) (reads : M → ℕ → M →
    Type 0) where
  -- where one event of the machine inside goes on at once, or is held
  passed : (start last : M) (before : List (List Put)) (old new : Batched M) (e f : Event) →
      Steps gives hears reads start f last → IsAt gives last new → AreReplies new before →
      new.puts ≡ old.puts → AreCutShort (traffic_of (e ∷ [])) (traffic_of (f ∷ [])) → puts_of (e ∷ []) ≡ [] →
      puts_of (f ∷ []) ≡ [] →
      keeps_of (e ∷ []) ≡ [] → keeps_of (f ∷ []) ≡ [] →
      lines_held old.behind ++ lines_of (f ∷ []) ≡ lines_of (e ∷ []) ++ lines_held new.behind →
      Ran gives hears reads start before old (e ∷ []) new
  passed start last before old new e f one at replies same traffic no_put none_put no_keep none_kept lines = record {
    inner = f ∷ [];
    last = last;
    groups = [];
    held = before;
    run = (last, one, refl);
    at = at;
    traffic = traffic;
    rows =
        ap (λ (l : List Put). old.puts ++ l) none_put ∙ append-nil old.puts ∙ sym same
        ∙ ap (λ (l : List Put). l ++ new.puts) (sym no_put);
    lines = lines;
    replies = ap (λ (l : List (List Put)). before ++ l) none_kept ∙ append-nil before;
    kept = no_keep;
    small = All-nil (λ group. length group ≤ 64);
    is_held = replies;
  }

  -- a line that was held is told
  line_freed : (start : M) (before : List (List Put)) (old : Batched M) (line : Next) (others : List Next)
      (e : Event) → AsLine line e → old.behind ≡ line ∷ others →
      IsAt gives start (record old { behind = others }) → AreReplies old before →
      Ran gives hears reads start before old (e ∷ []) (record old { behind = others })
  line_freed start before old line others e is behind at replies = record {
    inner = [];
    last = start;
    groups = [];
    held = before;
    run = refl;
    at = at;
    traffic = let P : List Event → Type 0 = λ l. AreCutShort l [] in subst P (sym is.traffic) tt;
    rows = append-nil old.puts ∙ ap (λ (l : List Put). l ++ old.puts) (sym is.puts);
    lines =
        append-nil (lines_held old.behind) ∙ ap lines_held behind
        ∙ ap (λ (o : Option Event). cons_option o (lines_held others)) is.held
        ∙ ap (λ (l : List Event). l ++ lines_held others) (sym is.lines);
    replies = append-nil before;
    kept = is.keeps;
    small = All-nil (λ group. length group ≤ 64);
    is_held = replies;
  }

  -- the batch is put, and a wait or the end stands behind it
  batch_before : (m : M) (before : List (List Put)) (old : Batched M) (wish : Next) → IsWish wish →
      gives old.machine wish m → All IsLine old.behind → HoldsRows old → AreReplies old before →
      Ran gives hears reads old.machine before old (Kept old.puts ∷ [])
      (record old { machine = m; puts = []; behind = old.behind ++ wish ∷ [] })
  batch_before m before old wish is gave all some (inl (none, bare)) = absurd (some none)
  batch_before m before old wish is gave all some (inr (holds, of, count, room)) = record {
    inner = [];
    last = old.machine;
    groups = before ∷ [];
    held = [];
    run = refl;
    at = inr (wish, old.behind, refl, refl, all, is, gave);
    traffic = tt;
    rows = sym (append-nil (old.puts ++ []));
    lines =
        ap (λ (o : Option Event). lines_held old.behind ++ cons_option o []) (sym (wish_no_line wish is))
        ∙ sym (filter_map-append line_held old.behind (wish ∷ []));
    replies = sym (append-nil (before ++ []));
    kept = keeps_some old.puts some ∙ ap (λ (l : List Put). l ∷ []) (sym of);
    small = All-cons (λ group. length group ≤ 64) before [] (omega (arith, count))
        (All-nil (λ group. length group ≤ 64));
    is_held = inl (refl, refl);
  }

  -- ---- rows of one more reply

  record Fuller (before : List (List Put)) (rows puts : List Put) (mid : Batched M) : Type 0 where
    pub all : mid.puts ≡ puts ++ rows
    pub of : joined (before ++ rows ∷ []) ≡ mid.puts
    pub count : length (before ++ rows ∷ []) + mid.room ≡ 64
    pub holds : HoldsRows mid

  fuller : (before : List (List Put)) (rows : List Put) (old mid : Batched M) → (rows ≡ [] → ⊥) →
      AreReplies old before → IsHeld rows old mid → Fuller before rows old.puts mid
  fuller before rows old mid some (inl (none, bare)) (inl (empty, is)) =
      let puts : mid.puts ≡ rows = ap (λ (b : Batched M). b.puts) is in
      let room : mid.room ≡ 63 = ap (λ (b : Batched M). b.room) is in
      record {
        all = puts ∙ ap (λ (l : List Put). l ++ rows) (sym none);
        of = ap (λ (l : List (List Put)). joined (l ++ rows ∷ [])) bare ∙ append-nil rows ∙ sym puts;
        count = ap (λ (l : List (List Put)). length (l ++ rows ∷ []) + mid.room) bare ∙ omega (arith, room);
        holds = λ empty. some (sym puts ∙ empty);
      }
  fuller before rows old mid some (inl (none, bare)) (inr (holds, is)) = absurd (holds none)
  fuller before rows old mid some (inr (holds, of, count, room)) (inl (empty, is)) = absurd (holds empty)
  fuller before rows old mid some (inr (holds, of, count, some_room)) (inr (also, is)) =
      let puts : mid.puts ≡ old.puts ++ rows = ap (λ (b : Batched M). b.puts) is in
      let room : mid.room ≡ old.room - 1 = ap (λ (b : Batched M). b.room) is in
      record {
        all = puts;
        of =
            joined_append before (rows ∷ []) ∙ ap (λ (l : List Put). l ++ (rows ++ [])) of
            ∙ ap (λ (l : List Put). old.puts ++ l) (append-nil rows) ∙ sym puts;
        count = omega (arith, length-append before (rows ∷ []), count, room, some_room);
        holds = λ empty. some_left old.puts rows some (sym puts ∙ empty);
      }
    where
      some_left : (xs ys : List Put) → (ys ≡ [] → ⊥) → xs ++ ys ≡ [] → ⊥
      some_left [] ys some empty = some empty
      some_left (x ∷ xs) ys some empty = omega (arith, ap length empty)

  -- what else stays
  held_behind : (rows : List Put) (old mid : Batched M) → IsHeld rows old mid →
      (mid.behind ≡ old.behind) × (mid.machine ≡ old.machine)
  held_behind rows old mid (inl (empty, is)) = (
    ap (λ (b : Batched M). b.behind) is,
    ap (λ (b : Batched M). b.machine)
        is,
  )
  held_behind rows old mid (inr (holds, is)) = (
    ap (λ (b : Batched M). b.behind) is,
    ap (λ (b : Batched M). b.machine)
        is,
  )

  -- they are held, and nothing is put
  rows_held : (start : M) (before : List (List Put)) (rows : List Put) (old new : Batched M) →
      Steps gives hears reads start (Kept rows) new.machine → All IsLine old.behind → (rows ≡ [] → ⊥) →
      Fuller before rows old.puts new → new.behind ≡ old.behind → 0 < new.room →
      Ran gives hears reads start before old (Kept [] ∷ []) new
  rows_held start before rows old new one all some more behind room = record {
    inner = Kept rows ∷ [];
    last = new.machine;
    groups = [];
    held = before ++ rows ∷ [];
    run = (new.machine, one, refl);
    at = inl (refl, let P : List Next → Type 0 = λ l. All IsLine l in subst P (sym behind) all);
    traffic = tt;
    rows = ap (λ (l : List Put). old.puts ++ l) (append-nil rows) ∙ sym more.all;
    lines = append-nil (lines_held old.behind) ∙ ap lines_held (sym behind);
    replies = ap (λ (l : List (List Put)). before ++ l) (keeps_some rows some);
    kept = refl;
    small = All-nil (λ group. length group ≤ 64);
    is_held = inr (more.holds, more.of, more.count, room);
  }

  -- the batch is put
  rows_put : (start : M) (before : List (List Put)) (rows : List Put) (old mid : Batched M) →
      Steps gives hears reads start (Kept rows) mid.machine → All IsLine old.behind → (rows ≡ [] → ⊥) →
      Fuller before rows old.puts mid → mid.behind ≡ old.behind →
      Ran gives hears reads start before old (Kept mid.puts ∷ []) (record mid { puts = [] })
  rows_put start before rows old mid one all some more behind = record {
    inner = Kept rows ∷ [];
    last = mid.machine;
    groups = (before ++ rows ∷ []) ∷ [];
    held = [];
    run = (mid.machine, one, refl);
    at = inl (refl, let P : List Next → Type 0 = λ l. All IsLine l in subst P (sym behind) all);
    traffic = tt;
    rows =
        ap (λ (l : List Put). old.puts ++ l) (append-nil rows) ∙ sym more.all ∙ sym (append-nil mid.puts)
        ∙ sym (append-nil (mid.puts ++ []));
    lines = append-nil (lines_held old.behind) ∙ ap lines_held (sym behind);
    replies =
        ap (λ (l : List (List Put)). before ++ l) (keeps_some rows some) ∙ sym (append-nil (before ++ rows ∷ []))
        ∙ sym (append-nil (before ++ rows ∷ [] ++ []));
    kept = keeps_some mid.puts more.holds ∙ ap (λ (l : List Put). l ∷ []) (sym more.of);
    small = All-cons (λ group. length group ≤ 64) (before ++ rows ∷ []) [] (let n = more.count in
        omega (arith, n)) (All-nil (λ group. length group ≤ 64));
    is_held = inl (refl, refl);
  }

  -- ---- what is said of an event, at what it is

  moved : (start : M) (before : List (List Put)) (old new now : Batched M) (e f : Event) → e ≡ f → new ≡ now →
      Ran gives hears reads start before old (f ∷ []) now → Ran gives hears reads start before old (e ∷ []) new
  moved start before old new now e f same is ran =
      let P : Event → Type 0 = λ x. Ran gives hears reads start before old (x ∷ []) new in
      let Q : Batched M → Type 0 = λ x. Ran gives hears reads start before old (f ∷ []) x in
      subst P (sym same) (subst Q (sym is) ran)

  abbrev Told : Batched M → Event → Batched M → Type 0
  Told mid e new = Learns (HearsBatched hears) (ReadsBatched reads) mid e new

  told_at : (mid now new : Batched M) (e f : Event) → mid ≡ now → e ≡ f → Told mid e new → Told now f new
  told_at mid now new e f same is told =
      let P : Batched M → Type 0 = λ x. Told x e new in
      let Q : Event → Type 0 = λ x. Told now x new in
      subst Q is (subst P same told)

  does_at : (given wanted : Next) (e : Event) → given ≡ wanted → Does given e → Does wanted e
  does_at given wanted e is does = let P : Next → Type 0 = λ x. Does x e in subst P is does

  -- ---- the machine inside is asked

  -- a line is told at once
  line_now : (m : M) (before : List (List Put)) (old : Batched M) (line : Next) (e : Event) → IsLine line →
      Does line e → gives old.machine line m → old.behind ≡ [] → AreReplies old before →
      Ran gives hears reads old.machine before old (e ∷ []) (record old { machine = m })
  line_now m before old line e is does gave empty replies =
      let a = as_line line e is does in
      let L = lines_of (e ∷ []) in
      let P : List Event → Type 0 = λ l. AreCutShort l l in
      let Q : List Next → Type 0 = λ l. All IsLine l in
      passed old.machine m before old (record old { machine = m }) e e
      (line, m, gave, does, line_learns hears reads m e a.is) (inl (refl, subst Q (sym empty) (All-nil IsLine)))
      replies
      refl (subst P (sym a.traffic) tt) a.puts a.puts a.keeps a.keeps
      (ap (λ (l : List Next). lines_held l ++ L) empty ∙ sym (append-nil L)
      ∙ ap (λ (l : List Next). L ++ lines_held l) (sym empty))

  -- a line stands behind the rows that are held
  line_later : (m : M) (before : List (List Put)) (old : Batched M) (line : Next) (f : Event) → IsLine line →
      Does line f → gives old.machine line m → All IsLine old.behind → AreReplies old before →
      Ran gives hears reads old.machine before old (Kept [] ∷ [])
      (record old { machine = m; behind = old.behind ++ line ∷ [] })
  line_later m before old line f is does gave all replies =
      let a = as_line line f is does in
      let P : List Event → Type 0 = λ l. AreCutShort [] l in
      passed old.machine m before old (record old { machine = m; behind = old.behind ++ line ∷ [] }) (Kept []) f
      (line, m, gave, does, line_learns hears reads m f a.is)
      (inl (refl, All-push IsLine old.behind line all is)) replies refl (subst P (sym a.traffic) tt) refl a.puts refl
      a.keeps
      (ap (λ (l : List Event). lines_held old.behind ++ l) (a.lines
      ∙ ap (λ (o : Option Event). cons_option o []) (sym a.held))
      ∙ sym (filter_map-append line_held old.behind (line ∷ [])))

  line_asked : (m : M) (before : List (List Put)) (old mid new : Batched M) (given line : Next) (e f : Event) →
      IsLine line → Does line f → gives old.machine line m → NoneFreed old → All IsLine old.behind →
      AreReplies old before →
      Tells line (record old { machine = m }) given mid → Does given e → Told mid e new →
      Ran gives hears reads old.machine before old (e ∷ []) new
  line_asked m before old mid new given line e f is comes gave free all replies (inl (none, (wanted, same))) does told =
      let does_line = does_at given line e wanted does in
      let a = as_line line e is does_line in
      let stays : new ≡ mid = line_told (HearsBatched hears) (ReadsBatched reads) mid new e a.is told in
      moved old.machine before old new (record old { machine = m }) e e refl (stays ∙ same)
      (line_now m before old line e is does_line gave (free none) replies)
  line_asked m before old mid new given line e f is comes gave free all replies (inr (holds, (keeps, same))) does told =
      let kept = does_keep [] given e keeps does in
      let stays : new ≡ mid = told_at mid mid new e (Kept []) refl kept told in
      moved old.machine before old new (record old { machine = m; behind = old.behind ++ line ∷ [] }) e (Kept []) kept
      (stays ∙ same) (line_later m before old line f is comes gave all replies)

  -- a wait or the end stands behind the batch
  wish_asked : (m : M) (before : List (List Put)) (old mid new : Batched M) (given wish : Next) (e : Event) →
      IsWish wish → gives old.machine wish m → All IsLine old.behind → AreReplies old before → HoldsRows old →
      IsBatchBefore wish (record old { machine = m }) given mid → Does given e → Told mid e new →
      Ran gives hears reads old.machine before old (e ∷ []) new
  wish_asked m before old mid new given wish e is gave all replies holds (keeps, same) does told =
      let kept = does_keep old.puts given e keeps does in
      let stays : new ≡ mid = told_at mid mid new e (Kept old.puts) refl kept told in
      moved old.machine before old new (record old { machine = m; puts = []; behind = old.behind ++ wish ∷ [] }) e
      (Kept old.puts) kept (stays ∙ same) (batch_before m before old wish is gave all holds replies)

  -- it waits, for as long as it wants or less
  wait_asked : (m : M) (before : List (List Put)) (old mid new : Batched M) (given : Next) (less most : ℕ)
      (e : Event) → less ≤ most → gives old.machine (next.Wait most) m → All IsLine old.behind → AreReplies old before →
      given ≡ next.Wait less → mid ≡ record old { machine = m } → Does given e → Told mid e new →
      Ran gives hears reads old.machine before old (e ∷ []) new
  wait_asked m before old mid new given less most e within gave all replies wanted same does told =
      let b : Batched M = record old { machine = m } in
      let (heard, is) = does_wait less e (does_at given (next.Wait less) e wanted does) in
      let (n, hears_it, now) = told_at mid b new e (Waited less heard) same is told in
      moved old.machine before old new (record old { machine = n; quiet = is_err heard }) e (Waited less heard) is now
      (passed old.machine n before old (record old { machine = n; quiet = is_err heard }) (Waited less heard)
      (Waited most heard)
      (next.Wait most, m, gave, refl, hears_it) (inl (refl, all)) replies
      refl ((within, refl), tt) refl refl refl refl (append-nil (lines_held old.behind)))

  reply_asked : (m : M) (before : List (List Put)) (old mid new full : Batched M) (given wanted : Next)
      (rows : List Put) (e : Event) → Does wanted (Kept rows) → gives old.machine wanted m → All IsLine old.behind →
      AreReplies old before →
      (rows ≡ [] → ⊥) → IsHeld rows (record old { machine = m }) full → IsFilled full given mid → Does given e →
      Told mid e new → Ran gives hears reads old.machine before old (e ∷ []) new
  reply_asked m before old mid new full given wanted rows e comes gave all replies some held filled does told =
      by filled
    where
      b : Batched M
      b = record old { machine = m }

      more : Fuller before rows old.puts full
      more = fuller before rows b full some replies held

      one : Steps gives hears reads old.machine (Kept rows) full.machine
      one = (wanted, m, gave, comes, (held_behind rows b full held).1)

      by : IsFilled full given mid → Ran gives hears reads old.machine before old (e ∷ []) new
      by (inl (room, (keeps, same))) =
          let kept = does_keep [] given e keeps does in
          let stays : new ≡ mid = told_at mid mid new e (Kept []) refl kept told in
          moved old.machine before old new full e (Kept []) kept (stays ∙ same)
          (rows_held old.machine before rows old full one all some more (held_behind rows b full held).0 room)
      by (inr (none, (keeps, same))) =
          let kept = does_keep full.puts given e keeps does in
          let stays : new ≡ mid = told_at mid mid new e (Kept full.puts) refl kept told in
          moved old.machine before old new (record full { puts = [] }) e (Kept full.puts) kept (stays ∙ same)
          (rows_put old.machine before rows old full one all some more (held_behind rows b full held).0)

  asked : (m : M) (before : List (List Put)) (old mid new : Batched M) (given wanted : Next) (e : Event) →
      gives old.machine wanted m → NoneFreed old → All IsLine old.behind → AreReplies old before →
      Answers wanted (record old { machine = m }) given mid → Does given e → Told mid e new →
      Ran gives hears reads old.machine before old (e ∷ []) new
  asked m before old mid new given (next.Send octets to) e gave free all replies (wanted, same) does told =
      let b : Batched M = record old { machine = m } in
      let (answer, is) = does_send octets to e (does_at given (next.Send octets to) e wanted does) in
      let stays : new ≡ b = told_at mid b new e (Sent octets to answer) same is told in
      moved old.machine before old new b e (Sent octets to answer) is stays
      (passed old.machine m before old b (Sent octets to answer) (Sent octets to answer)
      (next.Send octets to, m, gave, (refl, refl), refl) (inl (refl, all)) replies
      refl (refl, tt) refl refl refl refl (append-nil (lines_held old.behind)))
  asked m before old mid new given next.Read e gave free all replies (wanted, same) does told =
      let b : Batched M = record old { machine = m } in
      let (ms, is) = does_read e (does_at given next.Read e wanted does) in
      let (n, reads_it, now) = told_at mid b new e (Read ms) same is told in
      moved old.machine before old new (record old { machine = n; time = max old.time ms }) e (Read ms) is now
      (passed old.machine n before old (record old { machine = n; time = max old.time ms }) (Read ms) (Read ms)
      (next.Read, m, gave, tt, reads_it) (inl (refl, all)) replies
      refl (refl, tt) refl refl refl refl (append-nil (lines_held old.behind)))
  asked m before old mid new given (next.Wait most) e gave free all replies (inl (none, (wanted, same))) does told =
      wait_asked m before old mid new given most most e (omega arith) gave all replies wanted same does told
  asked m before old mid new given (next.Wait most) e gave free all replies (inr (holds, inl (none, batch))) does told =
      wish_asked m before old mid new given (next.Wait most) e tt gave all replies holds batch does told
  asked m before old mid new given (next.Wait most) e gave free all replies (inr (holds, inr (some, (wanted, same))))
      does told =
      wait_asked m before old mid new given (cut_short most old) most e (shorter most old) gave all replies wanted same
      does told
  asked m before old mid new given next.End e gave free all replies (inl (none, (wanted, same))) does told =
      absurd (does_end e (does_at given next.End e wanted does))
  asked m before old mid new given next.End e gave free all replies (inr (holds, batch)) does told =
      wish_asked m before old mid new given next.End e tt gave all replies holds batch does told
  asked m before old mid new given (next.Print text) e gave free all replies tells does told =
      line_asked m before old mid new given (next.Print text) e (Printed text.items) tt refl gave free all replies
      tells does told
  asked m before old mid new given (next.Warn text) e gave free all replies tells does told =
      line_asked m before old mid new given (next.Warn text) e (Warned text.items) tt refl gave free all replies tells
      does told
  asked m before old mid new given (next.Keep puts) e gave free all replies (inl (empty, (keeps, same))) does told =
      let b : Batched M = record old { machine = m } in
      let kept = does_keep [] given e keeps does in
      let stays : new ≡ b = told_at mid b new e (Kept []) same kept told in
      moved old.machine before old new b e (Kept []) kept stays
      (passed old.machine m before old b (Kept []) (Kept []) (next.Keep puts, m, gave, sym empty, refl)
      (inl (refl, all)) replies refl tt refl refl refl refl (append-nil (lines_held old.behind)))
  asked m before old mid new given (next.Keep puts) e gave free all replies (inr (some, (full, held, filled))) does
      told =
      reply_asked m before old mid new full given (next.Keep puts) puts.items e refl gave all replies some held filled
      does told

  -- ---- what stood behind a batch is done

  line_out : (start : M) (before : List (List Put)) (old mid new : Batched M) (given : Next) (others : List Next)
      (e : Event) → IsLine given → AreReplies old before → old.behind ≡ given ∷ others →
      mid ≡ record old { behind = others } → IsAt gives start (record old { behind = others }) → Does given e →
      Told mid e new → Ran gives hears reads start before old (e ∷ []) new
  line_out start before old mid new given others e is replies behind same at does told =
      let a = as_line given e is does in
      let stays : new ≡ mid = line_told (HearsBatched hears) (ReadsBatched reads) mid new e a.is told in
      moved start before old new (record old { behind = others }) e e refl (stays ∙ same)
      (line_freed start before old given others e a behind at replies)

  wish_out : (start : M) (before : List (List Put)) (old mid new : Batched M) (given wish : Next) (others : List Next)
      (e : Event) → IsWish wish → gives start wish old.machine → AreReplies old before → old.behind ≡ wish ∷ [] →
      given ≡ wish → others ≡ [] → mid ≡ record old { behind = others } → Does given e → Told mid e new →
      Ran gives hears reads start before old (e ∷ []) new
  wish_out start before old mid new given (next.Wait most) others e is gave replies behind wanted none same does told =
      let b : Batched M = record old { behind = others } in
      let (heard, comes) = does_wait most e (does_at given (next.Wait most) e wanted does) in
      let (n, hears_it, now) = told_at mid b new e (Waited most heard) same comes told in
      let Q : List Next → Type 0 = λ l. All IsLine l in
      moved start before old new (record old { machine = n; behind = others; quiet = is_err heard }) e
      (Waited most heard) comes now
      (passed start n before old (record old { machine = n; behind = others; quiet = is_err heard })
      (Waited most heard) (Waited most heard)
      (next.Wait most, old.machine, gave, refl, hears_it) (inl (refl, subst Q (sym none) (All-nil IsLine))) replies
      refl ((omega arith, refl), tt) refl refl refl refl (append-nil (lines_held old.behind) ∙ ap lines_held behind
      ∙ ap lines_held (sym none)))
  wish_out start before old mid new given next.End others e is gave replies behind wanted none same does told =
      absurd (does_end e (does_at given next.End e wanted does))
  wish_out start before old mid new given (next.Send octets to) others e is gave replies behind wanted none same does
      told = absurd is
  wish_out start before old mid new given next.Read others e is gave replies behind wanted none same does told =
      absurd is
  wish_out start before old mid new given (next.Keep puts) others e is gave replies behind wanted none same does told =
      absurd is
  wish_out start before old mid new given (next.Print text) others e is gave replies behind wanted none same does
      told = absurd is
  wish_out start before old mid new given (next.Warn text) others e is gave replies behind wanted none same does told =
      absurd is

  ahead_out : (start : M) (before : List (List Put)) (old mid new : Batched M) (given wish : Next)
      (lines others : List Next) (e : Event) → old.puts ≡ [] → old.behind ≡ lines ++ wish ∷ [] → All IsLine lines →
      IsWish wish →
      gives start wish old.machine → AreReplies old before → old.behind ≡ given ∷ others →
      mid ≡ record old { behind = others } → Does given e → Told mid e new →
      Ran gives hears reads start before old (e ∷ []) new
  ahead_out start before old mid new given wish [] others e none is all wishes gave replies behind same does told =
      let (one, rest) = cons_parts given wish others [] (sym behind ∙ is) in
      wish_out start before old mid new given wish others e wishes gave replies is one rest same does told
  ahead_out start before old mid new given wish (line ∷ lines) others e none is all wishes gave replies behind same
      does told =
      let (one, rest) = cons_parts given line others (lines ++ wish ∷ []) (sym behind ∙ is) in
      let L : Next → Type 0 = λ x. IsLine x in
      line_out start before old mid new given others e (subst L (sym one) (All-head IsLine line lines all)) replies
      behind same (inr (wish, lines, none, rest, All-tail IsLine line lines all, wishes, gave)) does told

  freed : (start : M) (before : List (List Put)) (old mid new : Batched M) (given : Next) (e : Event) →
      IsAt gives start old → AreReplies old before → IsFreed old given mid → Does given e → Told mid e new →
      Ran gives hears reads start before old (e ∷ []) new
  freed start before old mid new given e (inl (here, all)) replies (others, none, behind, same) does told =
      let P : List Next → Type 0 = λ l. All IsLine l in
      let lines = subst P behind all in
      line_out start before old mid new given others e (All-head IsLine given others lines) replies behind same
      (inl (here, All-tail IsLine given others lines)) does told
  freed start before old mid new given e (inr (wish, lines, empty, is, all, wishes, gave)) replies
      (others, none, behind, same) does told =
      ahead_out start before old mid new given wish lines others e none is all wishes gave replies behind same does told

  pub stepped : (start : M) (before : List (List Put)) (old new : Batched M) (e : Event) → IsAt gives start old →
      AreReplies old before → BatchedSteps gives hears reads old e new →
      Ran gives hears reads start before old (e ∷ []) new
  stepped start before old new e at replies (given, mid, inl out, does, told) =
      freed start before old mid new given e at replies out does told
  stepped start before old new e (inl (here, all)) replies
      (given, mid, inr (free, (wanted, m, gave, answers)), does, told) =
      let P : M → Type 0 = λ s. Ran gives hears reads s before old (e ∷ []) new in
      subst P (sym here) (asked m before old mid new given wanted e gave free all replies answers does told)
  stepped start before old new e (inr (wish, lines, none, is, all, wishes, gave)) replies
      (given, mid, inr (free, asks), does, told) =
      absurd (no_snoc lines wish (sym is ∙ free none))
