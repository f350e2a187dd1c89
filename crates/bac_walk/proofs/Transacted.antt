-- What came over a link by transactions: turns, and the steps that they make; and that it came over the link.
use Rattle.std.proofs.Common.{◌≡◌, ℕ, ◌+◌, ◌*◌, ◌≤◌, Bool, true, false, ◌||◌, Option, Result, Ok, Err, List, [], ◌∷◌, length, refl, sym, ap, subst, ◌∙◌, arith, inr}
use Rattle.std.proofs.Math.Nat.{min-le_left}
use Rattle.bac_walk.specs.declared.batch.Gap.{Gap as GapOf}
use Rattle.bac_walk.specs.Sinks.{put_items, sink_filled}
use Rattle.bac_link.specs.declared.exchanges.ExchangeFault.{ExchangeFault}
use Rattle.bac_link.specs.declared.item.Item.{Item}
use Rattle.bac_link.specs.declared.request.Request.{Request}
use Rattle.bac_link.specs.Exchanges.{Exchanges, next_way}
use Rattle.bac_link.specs.Links.{question}
use Rattle.bac_link.specs.Path.{Path, towards}
use Rattle.bac_link.specs.Requests.{next_invoke}
use Rattle.bac_link.specs.declared.transactions.Transactions.{Transactions}
use Rattle.bac_walk.specs.Came.{Came, Comes, BroughtInto, EndsBy, AreOf, answers_of, restarted, reaching, walk_over, reaching_by}
use Rattle.bac_walk.specs.Transacted.{AsksBy, ComesBy, TurnBy, EndsAfter, BroughtBy, BroughtIntoBy, TransactedIsBounded, TransactedIsBrought, asked as asked_at, spare, walk_by}
use Rattle.bac_walk.specs.Collects.{asks_next, batches, finished, step_ended, step_items}
use Rattle.bac_walk.specs.Place.{WalkPlace}
use Rattle.bac_link.specs.Heard.{heard_in}
use Rattle.bac_walk.specs.Replied.{progress_of}
use Rattle.bac_walk.specs.Walks.{items_in, question_of, IsTakenFrom}
use Rattle.bac_walk.specs.declared.batch.Numbered.{Numbered}
use Rattle.bac_walk.specs.declared.outcome.BadReply.{BadReply as NotTaken}
use Rattle.bac_walk.specs.declared.outcome.Ended.{Ended}
use Rattle.bac_walk.specs.declared.outcome.Ended.TheVariants.{CaughtUp, StepLimit, Stopped, Fault}
use Rattle.bac_walk.specs.declared.outcome.Progress.{Progress}
use Rattle.bac_walk.specs.declared.outcome.Progress.TheVariants.{Batch as BatchOf, AskOldest, CaughtUp as IsUp}
use Rattle.bac_walk.specs.declared.outcome.Step.{Step}
use Rattle.bac_walk.specs.declared.outcome.Step.TheVariants as stepped
use Rattle.bac_walk.specs.declared.outcome.WalkFault.{WalkFault}
use Rattle.bac_walk.specs.declared.outcome.WalkFault.TheVariants.{BadReply}
use Rattle.bac_walk.specs.declared.reply.Turned.{Turned}
use Rattle.bac_walk.specs.declared.reply.Turned.TheVariants as turned
use Rattle.bac_walk.proofs.Told.{Asking, asks_here, refused_here}
use Rattle.bac_walk.proofs.Brought.{all_items, full_batch, one_batch, up_asks}

-- ---- a turn

pub asks_from : {S : Type 0} (asks : Asking S) (t : Transactions) (w : WalkPlace) (r : Request) (old : S) (result : Result (List ℕ) ExchangeFault) (new : S) →
    r ≡ question w.log (question_of w) → Exchanges asks (next_way t) r old result new → AsksBy asks t old w result new
asks_from asks t w r old result new is exchanged =
    let P : Request → Type 0 = λ x. Exchanges asks (next_way t) x old result new in subst P is exchanged

pub came_turned : {S : Type 0} (asks : Asking S) (t : Transactions) (old : S) (w : WalkPlace) (datagram : List ℕ) (b : Turned) (after : WalkPlace) (new : S) →
    AsksBy asks t old w (Ok datagram) new → IsTakenFrom w (heard_in w.log datagram) (progress_of (Ok b)) after →
    TurnBy asks t old w (progress_of (Ok b)) after new
came_turned asks t old w datagram (turned.Reply b) after new asked taken = (datagram, asked, taken)
came_turned asks t old w datagram turned.AskOldest after new asked taken = (datagram, asked, taken)
came_turned asks t old w datagram turned.CaughtUp after new asked taken = (datagram, asked, taken)

pub came_bad : {S : Type 0} (asks : Asking S) (t : Transactions) (old : S) (w : WalkPlace) (datagram : List ℕ) (bad : NotTaken) (after : WalkPlace) (new : S) →
    AsksBy asks t old w (Ok datagram) new → IsTakenFrom w (heard_in w.log datagram) (Err bad) after →
    TurnBy asks t old w (Err BadReply) after new
came_bad asks t old w datagram bad after new asked taken =
    let same = refused_here w (heard_in w.log datagram) bad after taken in
    let P : WalkPlace → Type 0 = λ p. IsTakenFrom w (heard_in w.log datagram) (Err bad) p in
    (Ok datagram, asked, inr (datagram, bad, refl, subst P same taken), same)

-- replies leave the route and the retries
pub comes_same : {S : Type 0} (asks : Asking S) (came : List Came) (t last : Transactions) (old new : S) (w after : WalkPlace) →
    ComesBy asks (walk_by old t w) came (walk_by new last after) → (last.route ≡ t.route) × (last.retries ≡ t.retries)
comes_same asks [] t last old new w after comes = (ap (λ (u : Transactions). u.route) comes.2, ap (λ (u : Transactions). u.retries) comes.2)
comes_same asks (c ∷ came) t last old new w after comes = comes_same asks came (asked_at w t) last comes.0 new comes.1 after comes.7

-- ---- what came over the link

pub comes_plain : {S : Type 0} (asks : Asking S) (came : List Came) (t last : Transactions) (old new : S) (w after : WalkPlace) →
    ComesBy asks (walk_by old t w) came (walk_by new last after) → Comes (reaching_by asks t) (walk_over old w) came (walk_over new after)
comes_plain asks [] t last old new w after (at, same, left) = (at, same)
comes_plain asks (c ∷ came) t last old new w after (mid, next, p, place, asked, taken, is, more) =
    (mid, next, p, place, (next_invoke t.invoke, asked), taken, is, comes_plain asks came (asked_at w t) last mid new next after more)

ends_plain : {S : Type 0} (asks : Asking S) (t last : Transactions) (steps : ℕ) (came : List Came) (here : WalkPlace) (mid : S) (ended : Ended) (after : WalkPlace) (new : S) →
    EndsAfter asks steps came (walk_by mid t here) ended (walk_by new last after) → EndsBy (reaching_by asks t) steps came (walk_over mid here) ended (walk_over new after)
ends_plain asks t last steps came here mid CaughtUp after new (empty, few, same, end, left) = (empty, few, same, end)
ends_plain asks t last steps came here mid StepLimit after new (full, all, same, end, left) = (full, all, same, end)
ends_plain asks t last steps came here mid Stopped after new (full, some, few, end, left) = (full, some, few, end)
ends_plain asks t last steps came here mid (Fault e) after new (few, (result, asked, told), same, left) =
    (few, (result, (next_invoke t.invoke, asked), told), same)

pub brought_plain : {S : Type 0} (asks : Asking S) → TransactedIsBrought asks
brought_plain asks = λ t last old new before after steps came items ended run.
    let same = comes_same asks came t run.half old run.mid (restarted before) run.here run.comes in
    let P : Path → Type 0 = λ q. EndsBy (reaching asks q run.half.retries) steps came (walk_over run.mid run.here) ended (walk_over new after) in
    let Q : ℕ → Type 0 = λ n. EndsBy (reaching asks (towards t.route) n) steps came (walk_over run.mid run.here) ended (walk_over new after) in (
      run.here,
      run.mid,
      comes_plain asks came t run.half old run.mid (restarted before) run.here run.comes,
      subst Q same.1 (subst P (ap towards same.0) (ends_plain asks run.half last steps came run.here run.mid ended after new run.ends)),
      run.are,
    )

pub into_plain : {S T : Type 0} (asks : Asking S) (t last : Transactions) (puts : T → Option GapOf → Numbered → Bool → T → Type 0) (old new : S) (sink left : T) (w after : WalkPlace) (steps : ℕ) (ended : Ended) →
    BroughtIntoBy asks (sink_filled puts sink left) (walk_by old t w) steps ended (walk_by new last after) → BroughtInto (reaching_by asks t) (sink_filled puts sink left) (walk_over old w) steps ended (walk_over new after)
into_plain asks t last puts old new sink left w after steps ended (calls, takes, few, gaps, (came, run)) =
    (calls, takes, few, gaps, (came, brought_plain asks t last old new w after steps came (put_items calls) ended run))

-- with as many retries and by the same networks
pub into_same : {S T : Type 0} (asks : Asking S) (path way : Path) (retries tries : ℕ) (puts : T → Option GapOf → Numbered → Bool → T → Type 0) (old new : S) (sink left : T) (w after : WalkPlace) (n : ℕ) (ended : Ended) → way ≡ path → tries ≡ retries →
    BroughtInto (reaching asks way tries) (sink_filled puts sink left) (walk_over old w) n ended (walk_over new after) → BroughtInto (reaching asks path retries) (sink_filled puts sink left) (walk_over old w) n ended (walk_over new after)
into_same asks path way retries tries puts old new sink left w after n ended same_path same_retries run =
    let P : Path → Type 0 = λ q. BroughtInto (reaching asks q tries) (sink_filled puts sink left) (walk_over old w) n ended (walk_over new after) in
    let Q : ℕ → Type 0 = λ k. BroughtInto (reaching asks path k) (sink_filled puts sink left) (walk_over old w) n ended (walk_over new after) in
    subst Q same_retries (subst P same_path run)

-- ---- how many there were

begun_by : {S : Type 0} (asks : Asking S) (came : List Came) (t last : Transactions) (old new : S) (w after : WalkPlace) →
    ComesBy asks (walk_by old t w) came (walk_by new last after) → last.begun ≤ t.begun + length came
begun_by asks [] t last old new w after (at, same, left) = omega (arith, ap (λ (u : Transactions). u.begun) left)
begun_by asks (c ∷ came) t last old new w after (mid, next, p, place, asked, taken, is, more) =
    omega (arith, begun_by asks came (asked_at w t) last mid new next after more, min-le_left (t.begun + 1) 18446744073709551615)

-- how a run ended leaves them
ended_by : {S : Type 0} (asks : Asking S) (half last : Transactions) (steps : ℕ) (came : List Came) (here : WalkPlace) (mid : S) (ended : Ended) (after : WalkPlace) (new : S) →
    EndsAfter asks steps came (walk_by mid half here) ended (walk_by new last after) → length came ≤ 2 * batches (answers_of came) + spare ended →
    (length came ≤ 2 * steps) × (last.begun + length came ≤ half.begun + 2 * steps) × (last.route ≡ half.route) × (last.retries ≡ half.retries)
ended_by asks half last steps came here mid CaughtUp after new (empty, less, same, end, left) few = (
  omega (arith, few, less),
  omega (arith, few, less, ap (λ (u : Transactions). u.begun) left),
  ap (λ (u : Transactions). u.route) left,
  ap (λ (u : Transactions). u.retries) left,
)
ended_by asks half last steps came here mid StepLimit after new (full, all, same, end, left) few = (
  omega (arith, few, all),
  omega (arith, few, all, ap (λ (u : Transactions). u.begun) left),
  ap (λ (u : Transactions). u.route) left,
  ap (λ (u : Transactions). u.retries) left,
)
ended_by asks half last steps came here mid Stopped after new (full, some, most, end, left) few = (
  omega (arith, few, most),
  omega (arith, few, most, ap (λ (u : Transactions). u.begun) left),
  ap (λ (u : Transactions). u.route) left,
  ap (λ (u : Transactions). u.retries) left,
)
ended_by asks half last steps came here mid (Fault e) after new (less, told, same, left) few = (
  omega (arith, few, less),
  omega (arith, few, less, ap (λ (u : Transactions). u.begun) left, min-le_left (half.begun + 1) 18446744073709551615),
  ap (λ (u : Transactions). u.route) left,
  ap (λ (u : Transactions). u.retries) left,
)

pub transacted_bounded : {S : Type 0} (asks : Asking S) → TransactedIsBounded asks
transacted_bounded asks = λ t last old new before after steps came items ended run.
    let at = comes_same asks came t run.half old run.mid (restarted before) run.here run.comes in
    let end = ended_by asks run.half last steps came run.here run.mid ended after new run.ends run.few in
    (end.0, omega (arith, begun_by asks came t run.half old run.mid (restarted before) run.here run.comes, end.1), end.2 ∙ at.0, end.3 ∙ at.1)

-- ---- a step

-- what a run of one step brought whose first question is this place's, with so many replies fewer than it may have
abbrev Ran : {S : Type 0} → Asking S → Transactions → S → WalkPlace → List Item → Ended → ℕ → WalkPlace → Transactions → S → Type 0
Ran {S = S} asks t old w items ended fewer after last new =
    (came : List Came) × (here : WalkPlace) × (mid : S) × (half : Transactions) × ComesBy asks (walk_by old t w) came (walk_by mid half here)
    × EndsAfter asks 1 came (walk_by mid half here) ended (walk_by new last after) × AreOf ended came items after
    × (length came + fewer ≤ 2 * batches (answers_of came) + spare ended)

last_turn : {S : Type 0} (asks : Asking S) (t : Transactions) (old : S) (w : WalkPlace) (p : Result Progress WalkFault) (after : WalkPlace) (new : S) →
    (p ≡ Ok AskOldest → ⊥) → TurnBy asks t old w p after new →
    Ran asks t old w (step_items (finished p)) (step_ended (finished p)) 1 after (asked_at w t) new
last_turn asks t old w (Ok (BatchOf b)) after new other came = (
  record { place = w; datagram = came.0; items = items_in b } ∷ [],
  after,
  new,
  asked_at w t,
  (new, after, BatchOf b, refl, came.1, came.2, refl, (refl, refl, refl)),
  (full_batch b, one_batch (items_in b) (full_batch b), refl, refl, refl),
  all_items (items_in b),
  omega (arith, one_batch (items_in b) (full_batch b)),
)
last_turn asks t old w (Ok AskOldest) after new other came = absurd (other refl)
last_turn asks t old w (Ok IsUp) after new other came = (
  record { place = w; datagram = came.0; items = [] } ∷ [],
  after,
  new,
  asked_at w t,
  (new, after, IsUp, refl, came.1, came.2, refl, (refl, refl, refl)),
  ((refl, up_asks w (heard_in w.log came.0) after came.2), omega arith, refl, refl, refl),
  refl,
  omega arith,
)
last_turn asks t old w (Err e) after new other came =
    ([], w, old, t, (refl, refl, refl), (omega arith, (came.0, came.1, came.2), ap restarted came.3, refl), refl, omega arith)

-- a reply without records before it
one_more : {S : Type 0} (asks : Asking S) (t : Transactions) (old : S) (w : WalkPlace) (datagram : List ℕ) (next : WalkPlace) (half : S)
    (items : List Item) (ended : Ended) (after : WalkPlace) (last : Transactions) (new : S) → (ended ≡ Stopped → ⊥) →
    AsksBy asks t old w (Ok datagram) half → IsTakenFrom w (heard_in w.log datagram) (Ok AskOldest) next →
    Ran asks (asked_at w t) half next items ended 1 after last new → Ran asks t old w items ended 0 after last new
one_more asks t old w datagram next half items ended after last new whole asked taken (came, here, mid, passed, comes, ends, are, few) = (
  record { place = w; datagram = datagram; items = [] } ∷ came,
  here,
  mid,
  passed,
  (half, next, AskOldest, refl, asked, taken, refl, comes),
  more ended whole came ends,
  same ended whole are,
  omega (arith, few),
)
  where
    c : Came
    c = record { place = w; datagram = datagram; items = [] }

    more : (why : Ended) → (why ≡ Stopped → ⊥) → (came : List Came) → EndsAfter asks 1 came (walk_by mid passed here) why (walk_by new last after) → EndsAfter asks 1 (c ∷ came) (walk_by mid passed here) why (walk_by new last after)
    more CaughtUp whole [] ends = absurd ends.0
    more CaughtUp whole (d ∷ came) ends = ends
    more StepLimit whole [] ends = absurd (omega (arith, ends.1))
    more StepLimit whole (d ∷ came) ends = ends
    more Stopped whole came ends = absurd (whole refl)
    more (Fault e) whole came ends = ends

    same : (why : Ended) → (why ≡ Stopped → ⊥) → AreOf why came items after → AreOf why (c ∷ came) items after
    same CaughtUp whole are = are
    same StepLimit whole are = are
    same Stopped whole are = absurd (whole refl)
    same (Fault e) whole are = are

never_stopped : (z : Result Step WalkFault) → step_ended z ≡ Stopped → ⊥
never_stopped z is = no z is
  where
    no : (z : Result Step WalkFault) → step_ended z ≡ Stopped → ⊥
    no (Ok (stepped.Batch b)) h = absurd (cc)
    no (Ok stepped.CaughtUp) h = absurd (cc)
    no (Err e) h = absurd (cc)

as_step : {S : Type 0} (asks : Asking S) (t : Transactions) (old : S) (w v : WalkPlace) (p : Result Progress WalkFault) (z : Result Step WalkFault) (fewer : ℕ) (after : WalkPlace) (last end : Transactions) (new : S) →
    v ≡ restarted w → z ≡ finished p → last ≡ end → Ran asks t old v (step_items (finished p)) (step_ended (finished p)) fewer after end new →
    (came : List Came) × BroughtBy asks (walk_by old t w) 1 came (step_items z) (step_ended z) (walk_by new last after)
as_step asks t old w v p z fewer after last end new from is left ran =
    let P : Result Step WalkFault → Type 0 = λ x. Ran asks t old (restarted w) (step_items x) (step_ended x) fewer after last new in
    let Q : WalkPlace → Type 0 = λ u. Ran asks t old u (step_items (finished p)) (step_ended (finished p)) fewer after last new in
    let R : Transactions → Type 0 = λ u. Ran asks t old v (step_items (finished p)) (step_ended (finished p)) fewer after u new in
    let r = subst P (sym is) (subst Q from (subst R (sym left) ran)) in
    (r.0, record { here = r.1; mid = r.2; half = r.3; comes = r.4; ends = r.5; are = r.6; few = omega (arith, r.7) })

never : (q : Result Progress WalkFault) → q ≡ Ok AskOldest → asks_next q ≡ false → ⊥
never (Ok (BatchOf b)) asked over = absurd (cc)
never (Ok AskOldest) asked over = absurd (cc)
never (Ok IsUp) asked over = absurd (cc)
never (Err e) asked over = absurd (cc)

-- the only turn of a step
pub brought_first : {S : Type 0} (asks : Asking S) (t : Transactions) (old : S) (w v : WalkPlace) (p : Result Progress WalkFault) (z : Result Step WalkFault) (after : WalkPlace) (last : Transactions) (new : S) →
    v ≡ restarted w → z ≡ finished p → asks_next p ≡ false → TurnBy asks t old v p after new → last ≡ asked_at v t →
    (came : List Came) × BroughtBy asks (walk_by old t w) 1 came (step_items z) (step_ended z) (walk_by new last after)
brought_first asks t old w v p z after last new from is over came left =
    as_step asks t old w v p z 1 after last (asked_at v t) new from is left (last_turn asks t old v p after new (λ asked. never p asked over) came)

-- the second, which asks for the oldest records, after the first
pub brought_second : {S : Type 0} (asks : Asking S) (t between : Transactions) (old : S) (w v : WalkPlace) (q : Result Progress WalkFault) (next : WalkPlace) (half : S) (p : Result Progress WalkFault) (z : Result Step WalkFault) (after : WalkPlace) (last : Transactions) (new : S) →
    v ≡ restarted w → z ≡ finished p → asks_next q ≡ true → TurnBy asks t old v q next half → between ≡ asked_at v t → TurnBy asks between half next p after new → last ≡ asked_at next between →
    (came : List Came) × BroughtBy asks (walk_by old t w) 1 came (step_items z) (step_ended z) (walk_by new last after)
brought_second asks t between old w v q next half p z after last new from is more first passed second left =
    as_step asks t old w v p z 0 after last (asked_at next (asked_at v t)) new from is (left ∙ ap (λ u. asked_at next u) passed) (both q more first)
  where
    either : (a b : Bool) → (a || b) ≡ false → b ≡ true → ⊥
    either true b neither asks_oldest = absurd (cc)
    either false b neither asks_oldest = absurd (cc)

    oldest : (datagram : List ℕ) → IsTakenFrom v (heard_in v.log datagram) (Ok AskOldest) next → (p : Result Progress WalkFault) → p ≡ Ok AskOldest → TurnBy asks between half next p after new → ⊥
    oldest datagram taken (Ok (BatchOf b)) asked came = absurd (cc)
    oldest datagram taken (Ok IsUp) asked came = absurd (cc)
    oldest datagram taken (Err e) asked came = absurd (cc)
    oldest datagram taken (Ok AskOldest) asked came =
        either next.fresh next.asks_oldest (asks_here next (heard_in next.log came.0) after came.2).0 (asks_here v (heard_in v.log datagram) next taken).1

    second_asked : TurnBy asks (asked_at v t) half next p after new
    second_asked = let P : Transactions → Type 0 = λ u. TurnBy asks u half next p after new in subst P passed second

    both : (q : Result Progress WalkFault) → asks_next q ≡ true → TurnBy asks t old v q next half →
        Ran asks t old v (step_items (finished p)) (step_ended (finished p)) 0 after (asked_at next (asked_at v t)) new
    both (Ok (BatchOf b)) more first = absurd (cc)
    both (Ok IsUp) more first = absurd (cc)
    both (Err e) more first = absurd (cc)
    both (Ok AskOldest) more first =
        one_more asks t old v first.0 next half (step_items (finished p)) (step_ended (finished p)) after (asked_at next (asked_at v t)) new (never_stopped (finished p))
        first.1 first.2 (last_turn asks (asked_at v t) half next p after new (λ asked. oldest first.0 first.2 p asked second) second_asked)
