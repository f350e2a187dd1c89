-- What came over a link by transactions: steps, and the runs that they make.
use Rattle.std.proofs.Common.{◌≡◌, ◌≢◌, ℕ, ◌+◌, ◌<◌, ◌≤◌, Bool, Option, Some, None, Result, Ok, Err, List, [], ◌∷◌, ◌++◌, length, map, refl, sym, ap, subst, ◌∙◌, arith, append_assoc, append-nil}
use Rattle.std.proofs.lemmas.List.{length-append}
use Rattle.bac_link.specs.declared.item.Item.{Item}
use Rattle.bac_link.specs.declared.item.Item.TheVariants.{Logged}
use Rattle.bac_link.specs.Delivery.{items_of}
use Rattle.bac_link.specs.declared.transactions.Transactions.{Transactions}
use Rattle.bac_link.specs.Path.{towards}
use Rattle.bac_walk.specs.Came.{Came, EndsFull, EndsWith, AreOf, answers_of, restarted}
use Rattle.bac_walk.specs.Transacted.{BroughtBy, BroughtIntoBy, ComesBy, EndsAfter, asked as asked_at, walk_by}
use Rattle.bac_walk.proofs.Joined.{came_batches, came_items, empty_append, ends_behind, full_append, full_place}
use Rattle.bac_walk.proofs.Transacted.{comes_plain}
use Rattle.bac_walk.specs.Collects.{batches, step_ended, step_items}
use Rattle.bac_walk.specs.Handing.{walk_after, ended_after, HandedOn}
use Rattle.bac_link.specs.Ordinals.{number_after}
use Rattle.bac_walk.specs.Place.{WalkPlace}
use Rattle.bac_walk.specs.Sinks.{PutAll, is_stopped, put_items, sink_filled}
use Rattle.bac_walk.specs.Walks.{gap_items, item_of, items_in}
use Rattle.bac_walk.specs.declared.batch.Batch.{Batch}
use Rattle.bac_walk.specs.declared.batch.Gap.{Gap as GapOf}
use Rattle.bac_walk.specs.declared.batch.Numbered.{Numbered}
use Rattle.bac_walk.specs.declared.outcome.Ended.{Ended}
use Rattle.bac_walk.specs.declared.outcome.Ended.TheVariants.{CaughtUp, StepLimit, Stopped, Fault}
use Rattle.bac_walk.specs.declared.outcome.Step.{Step}
use Rattle.bac_walk.specs.declared.outcome.Step.TheVariants.{Batch as StepOf, CaughtUp as NoStep}
use Rattle.bac_walk.specs.declared.outcome.WalkFault.{WalkFault}
use Rattle.bac_walk.proofs.Handed.{calls_of, length-calls, gaps-one, items-calls, put_whole, put_up_to, map-append}
use Rattle.bac_walk.proofs.Runs.{Takes-append, put_items-append, gaps-append}
use Rattle.bac_walk.proofs.Told.{Asking}
use Rattle.bac_walk.proofs.Joins.{batches-append}

pub comes_append : {S : Type 0} (asks : Asking S) (xs ys : List Came) (t between last : Transactions) (old mid new : S) (w here after : WalkPlace) →
    ComesBy asks (walk_by old t w) xs (walk_by mid between here) → ComesBy asks (walk_by mid between here) ys (walk_by new last after) → ComesBy asks (walk_by old t w) (xs ++ ys) (walk_by new last after)
comes_append {S = S} asks [] ys t between last old mid new w here after first rest =
    let P : WalkPlace → Type 0 = λ v. ComesBy asks (walk_by mid between v) ys (walk_by new last after) in
    let Q : S → Type 0 = λ l. ComesBy asks (walk_by l between w) ys (walk_by new last after) in
    let R : Transactions → Type 0 = λ u. ComesBy asks (walk_by old u w) ys (walk_by new last after) in
    subst R first.2 (subst Q first.1 (subst P first.0 rest))
comes_append asks (c ∷ xs) ys t between last old mid new w here after (half, next, p, place, asked, taken, is, more) rest =
    (half, next, p, place, asked, taken, is, comes_append asks xs ys (asked_at w t) between last half mid new next here after more rest)

pub no_brought : {S : Type 0} (asks : Asking S) (t : Transactions) (old : S) (w : WalkPlace) →
    (came : List Came) × BroughtBy asks (walk_by old t w) 0 came [] StepLimit (walk_by old t w)
no_brought asks t old w =
    ([], record { here = restarted w; mid = old; half = t; comes = (refl, refl, refl); ends = (tt, refl, refl, refl, refl); are = refl; few = omega arith })

-- a run whose steps were all whole, and one more
pub brought_joins : {S : Type 0} (asks : Asking S) (t between last : Transactions) (old half new : S) (w mid after : WalkPlace) (n more : ℕ) (xs ys : List Item) (ended : Ended) →
    (came : List Came) × BroughtBy asks (walk_by old t w) n came xs StepLimit (walk_by half between mid) →
    (came : List Came) × BroughtBy asks (walk_by half between mid) more came ys ended (walk_by new last after) →
    (came : List Came) × BroughtBy asks (walk_by old t w) (n + more) came (xs ++ ys) ended (walk_by new last after)
brought_joins {S = S} asks t between last old half new w mid after n more xs ys ended (first, one) (rest, two) =
    let at : restarted mid ≡ one.here = one.ends.2 ∙ full_place asks (towards t.route) t.retries first old one.mid (restarted w) one.here
    (comes_plain asks first t one.half old one.mid (restarted w) one.here one.comes) one.ends.0 refl in
    let P : WalkPlace → Type 0 = λ v. ComesBy asks (walk_by half between v) rest (walk_by two.mid two.half two.here) in
    let Q : S → Type 0 = λ l. ComesBy asks (walk_by l between one.here) rest (walk_by two.mid two.half two.here) in
    let R : Transactions → Type 0 = λ u. ComesBy asks (walk_by one.mid u one.here) rest (walk_by two.mid two.half two.here) in (
      first ++ rest,
      record {
        here = two.here;
        mid = two.mid;
        half = two.half;
        comes = comes_append asks first rest t one.half two.half old one.mid two.mid (restarted w) one.here two.here one.comes
            (subst R one.ends.4 (subst Q one.ends.3 (subst P at two.comes)));
        ends = both ended two.ends;
        are = all ended two.are;
        few = omega (arith, length-append first rest, came_batches first rest, one.few, two.few);
      },
    )
  where
    count : batches (answers_of (first ++ rest)) ≡ n + batches (answers_of rest)
    count = omega (arith, came_batches first rest, one.ends.1)

    both : (why : Ended) → EndsAfter asks more rest (walk_by two.mid two.half two.here) why (walk_by new last after) →
        EndsAfter asks (n + more) (first ++ rest) (walk_by two.mid two.half two.here) why (walk_by new last after)
    both CaughtUp over = (empty_append first rest over.0, omega (arith, count, over.1), over.2, over.3, over.4)
    both StepLimit over = (full_append first rest one.ends.0 over.0, omega (arith, count, over.1), over.2, over.3, over.4)
    both Stopped over = (full_append first rest one.ends.0 over.0, omega (arith, count, over.1), omega (arith, count, over.2), over.3, over.4)
    both (Fault e) over = (omega (arith, count, over.0), over.1, over.2, over.3)

    whole : ys ≡ items_of (answers_of rest) → xs ++ ys ≡ items_of (answers_of (first ++ rest))
    whole is = ap (λ l. l ++ ys) one.are ∙ ap (λ l. items_of (answers_of first) ++ l) is ∙ sym (came_items first rest)

    all : (why : Ended) → AreOf why rest ys after → AreOf why (first ++ rest) (xs ++ ys) after
    all CaughtUp is = whole is
    all StepLimit is = whole is
    all Stopped is = (
      xs ++ is.0,
      is.1,
      is.2,
      is.3,
      ap (λ l. xs ++ l) is.4 ∙ sym (append_assoc xs is.0 (Logged is.1 is.2 ∷ [])),
      append_assoc xs ys is.3 ∙ ap (λ l. l ++ (ys ++ is.3)) one.are ∙ ap (λ l. items_of (answers_of first) ++ l) is.5 ∙ sym (came_items first rest),
      is.6,
      is.7,
      ends_behind (Logged is.1 is.2) is.3 first rest is.8,
    )
    all (Fault e) is = whole is

-- with more steps left
pub brought_early : {S : Type 0} (asks : Asking S) (t last : Transactions) (old new : S) (w after : WalkPlace) (n steps : ℕ) (xs : List Item) (ended : Ended) → ended ≢ StepLimit → n ≤ steps →
    (came : List Came) × BroughtBy asks (walk_by old t w) n came xs ended (walk_by new last after) → (came : List Came) × BroughtBy asks (walk_by old t w) steps came xs ended (walk_by new last after)
brought_early asks t last old new w after n steps xs ended other le (came, run) =
    (came, record { here = run.here; mid = run.mid; half = run.half; comes = run.comes; ends = more ended other run.ends; are = run.are; few = run.few })
  where
    more : (why : Ended) → why ≢ StepLimit → EndsAfter asks n came (walk_by run.mid run.half run.here) why (walk_by new last after) →
        EndsAfter asks steps came (walk_by run.mid run.half run.here) why (walk_by new last after)
    more CaughtUp other ends = (ends.0, omega (arith, le, ends.1), ends.2, ends.3, ends.4)
    more StepLimit other ends = absurd (other refl)
    more Stopped other ends = (ends.0, ends.1, omega (arith, le, ends.2), ends.3, ends.4)
    more (Fault e) other ends = (omega (arith, le, ends.0), ends.1, ends.2, ends.3)

-- ---- into a sink

abbrev pub Putting : Type 0 → Type 1
Putting T = T → Option GapOf → Numbered → Bool → T → Type 0

-- of one batch the last reply brought all
last_is : (items : List Item) (came : List Came) → EndsFull came → batches (answers_of came) ≡ 1 → items ≡ items_of (answers_of came) → (item : Item) (rest front : List Item) → front ++ item ∷ rest ≡ items →
    EndsWith item rest (answers_of came)
last_is items [] full one are item rest front is = absurd (omega (arith, one))
last_is items (c ∷ []) full one are item rest front is = (front, is ∙ are ∙ append-nil c.items)
last_is items (c ∷ d ∷ came) full one are item rest front is =
    none c.items refl (λ one are. last_is items (d ∷ came) full one are item rest front is)
  where
    some : (c : Came) (came : List Came) → EndsFull (c ∷ came) → 0 < batches (answers_of (c ∷ came))
    some c [] full = first c.items full
      where
        first : (xs : List Item) → 0 < length xs → 0 < batches (xs ∷ [])
        first [] more = absurd (omega (arith, more))
        first (x ∷ xs) more = omega arith
    some c (d ∷ came) full = omega (arith, batches-append (c.items ∷ []) (answers_of (d ∷ came)), some d came full)

    none : (xs : List Item) → c.items ≡ xs →
        (batches (answers_of (d ∷ came)) ≡ 1 → items ≡ items_of (answers_of (d ∷ came)) → EndsWith item rest (answers_of (d ∷ came))) →
        EndsWith item rest (answers_of (c ∷ d ∷ came))
    none [] empty behind =
        let P : List Item → Type 0 = λ l. items ≡ l ++ items_of (answers_of (d ∷ came)) in
        let B : List Item → Type 0 = λ l. batches (l ∷ answers_of (d ∷ came)) ≡ 1 in
        behind (subst B empty one) (subst P empty are)
    none (x ∷ xs) more behind =
        let B : List Item → Type 0 = λ l. batches (l ∷ answers_of (d ∷ came)) ≡ 1 in
        absurd (omega (arith, subst B more one, some d came full))

handed_batch : {S T : Type 0} (asks : Asking S) (t last : Transactions) (puts : Putting T) (old new : S) (sink left : T) (before mid : WalkPlace) (b : Batch) (refused : Option ℕ) →
    (came : List Came) × BroughtBy asks (walk_by old t before) 1 came (items_in b) StepLimit (walk_by new last mid) → PutAll puts sink b.gap b.entries.items refused left →
    BroughtIntoBy asks (sink_filled puts sink left) (walk_by old t before) 1 (ended_after refused) (walk_by new last (walk_after mid refused))
handed_batch asks t last puts old new sink left before mid b None brought put =
    let P : List Item → Type 0 = λ l. (came : List Came) × BroughtBy asks (walk_by old t before) 1 came l StepLimit (walk_by new last mid) in (
      calls_of b.gap b.entries.items,
      put_whole puts sink b.gap b.entries.items left put,
      omega (arith, length-calls b.gap b.entries.items, b.most),
      gaps-one b.gap b.entries.items,
      subst P (sym (items-calls b.gap b.entries.items b.some)) brought,
    )
handed_batch asks t last puts old new sink left before mid b (Some n) (came, run) put =
    let c = put_up_to puts sink b.gap b.entries.items n left put in
    let pre = gap_items b.gap ++ map item_of c.before in
    let post = map item_of c.after in
    let one = Logged c.last.number c.last.entry in
    let whole : items_in b ≡ pre ++ one ∷ post =
    ap (λ l. gap_items b.gap ++ map item_of l) c.is ∙ ap (λ l. gap_items b.gap ++ l) (map-append c.before (c.last ∷ c.after))
    ∙ sym (append_assoc (gap_items b.gap) (map item_of c.before) (one ∷ post)) in
    let cut : put_items (calls_of b.gap (c.before ++ c.last ∷ [])) ≡ pre ++ one ∷ [] =
    items-calls b.gap (c.before ++ c.last ∷ []) (omega (arith, length-append c.before (c.last ∷ [])))
    ∙ ap (λ l. gap_items b.gap ++ l) (map-append c.before (c.last ∷ []))
    ∙ sym (append_assoc (gap_items b.gap) (map item_of c.before) (one ∷ [])) in (
      calls_of b.gap (c.before ++ c.last ∷ []),
      c.takes,
      omega (arith, length-calls b.gap (c.before ++ c.last ∷ []), ap length c.is, length-append c.before (c.last ∷ c.after), length-append c.before (c.last ∷ []), b.most),
      gaps-one b.gap (c.before ++ c.last ∷ []),
      (
        came,
        record {
          here = run.here;
          mid = run.mid;
          half = run.half;
          comes = run.comes;
          ends = (run.ends.0, omega (arith, run.ends.1), omega (arith, run.ends.1), run.ends.3, run.ends.4);
          are = (
            pre,
            c.last.number,
            c.last.entry,
            post,
            cut,
            ap (λ l. l ++ post) cut ∙ append_assoc pre (one ∷ []) post ∙ sym whole ∙ run.are,
            ap (λ m. number_after m 1) (sym c.shown),
            refl,
            last_is (items_in b) came run.ends.0 run.ends.1 run.are one post pre (sym whole),
          );
          few = run.few;
        },
      ),
    )

pub handed_brought : {S T : Type 0} (asks : Asking S) (t last : Transactions) (puts : Putting T) (old new : S) (sink left : T) (before mid after : WalkPlace) (z : Result Step WalkFault) (ended : Ended) →
    (came : List Came) × BroughtBy asks (walk_by old t before) 1 came (step_items z) (step_ended z) (walk_by new last mid) → HandedOn puts sink mid z ended after left →
    BroughtIntoBy asks (sink_filled puts sink left) (walk_by old t before) 1 ended (walk_by new last after)
handed_brought asks t last puts old new sink left before mid after (Err e) ended brought put =
    let P : WalkPlace → Type 0 = λ w. (came : List Came) × BroughtBy asks (walk_by old t before) 1 came [] (Fault e) (walk_by new last w) in
    let Q : Ended → Type 0 = λ x. BroughtIntoBy asks (sink_filled puts sink left) (walk_by old t before) 1 x (walk_by new last after) in
    subst Q (sym put.2) ([], (put.0, refl), omega arith, omega arith, subst P (sym put.1) brought)
handed_brought asks t last puts old new sink left before mid after (Ok NoStep) ended brought put =
    let P : WalkPlace → Type 0 = λ w. (came : List Came) × BroughtBy asks (walk_by old t before) 1 came [] CaughtUp (walk_by new last w) in
    let Q : Ended → Type 0 = λ x. BroughtIntoBy asks (sink_filled puts sink left) (walk_by old t before) 1 x (walk_by new last after) in
    subst Q (sym put.2) ([], (put.0, refl), omega arith, omega arith, subst P (sym put.1) brought)
handed_brought asks t last puts old new sink left before mid after (Ok (StepOf b)) ended brought put =
    let P : WalkPlace → Type 0 = λ w. BroughtIntoBy asks (sink_filled puts sink left) (walk_by old t before) 1 (ended_after put.0) (walk_by new last w) in
    let Q : Ended → Type 0 = λ x. BroughtIntoBy asks (sink_filled puts sink left) (walk_by old t before) 1 x (walk_by new last after) in
    subst Q (sym put.3) (subst P (sym put.2) (handed_batch asks t last puts old new sink left before mid b put.0 brought put.1))

pub no_into : {S T : Type 0} (asks : Asking S) (t : Transactions) (puts : Putting T) (old : S) (sink : T) (w : WalkPlace) →
    BroughtIntoBy asks (sink_filled puts sink sink) (walk_by old t w) 0 StepLimit (walk_by old t w)
no_into asks t puts old sink w = ([], (refl, refl), omega arith, omega arith, no_brought asks t old w)

pub into_joins : {S T : Type 0} (asks : Asking S) (t between last : Transactions) (puts : Putting T) (old half new : S) (sink held left : T) (w mid after : WalkPlace) (n more : ℕ) (ended : Ended) →
    BroughtIntoBy asks (sink_filled puts sink held) (walk_by old t w) n StepLimit (walk_by half between mid) → BroughtIntoBy asks (sink_filled puts held left) (walk_by half between mid) more ended (walk_by new last after) →
    BroughtIntoBy asks (sink_filled puts sink left) (walk_by old t w) (n + more) ended (walk_by new last after)
into_joins asks t between last puts old half new sink held left w mid after n more ended first rest =
    let P : List Item → Type 0 = λ l. (came : List Came) × BroughtBy asks (walk_by old t w) (n + more) came l ended (walk_by new last after) in (
      first.0 ++ rest.0,
      Takes-append puts sink held left first.0 rest.0 (is_stopped ended) first.1 rest.1,
      omega (arith, length-append first.0 rest.0, first.2, rest.2),
      omega (arith, gaps-append first.0 rest.0, first.3, rest.3),
      subst P (sym (put_items-append first.0 rest.0)) (brought_joins asks t between last old half new w mid after n more (put_items first.0) (put_items rest.0) ended first.4 rest.4),
    )

pub into_early : {S T : Type 0} (asks : Asking S) (t last : Transactions) (puts : Putting T) (old new : S) (sink left : T) (w after : WalkPlace) (n steps : ℕ) (ended : Ended) → ended ≢ StepLimit → n ≤ steps →
    BroughtIntoBy asks (sink_filled puts sink left) (walk_by old t w) n ended (walk_by new last after) → BroughtIntoBy asks (sink_filled puts sink left) (walk_by old t w) steps ended (walk_by new last after)
into_early asks t last puts old new sink left w after n steps ended other le run =
    (run.0, run.1, omega (arith, le, run.2), omega (arith, le, run.3), brought_early asks t last old new w after n steps (put_items run.0) ended other le run.4)
