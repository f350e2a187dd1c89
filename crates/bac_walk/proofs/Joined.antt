-- What came over a link: steps, and the runs that they make.
use Rattle.std.proofs.Common.{◌≡◌, ℕ, ◌+◌, ◌<◌, Option, Some, None, Ok, List, [], ◌∷◌, ◌++◌, length, refl, sym, ap, subst, ◌∙◌, arith, append_assoc}
use Rattle.bac_link.specs.declared.item.Item.{Item}
use Rattle.bac_link.specs.declared.item.Item.TheVariants.{Logged}
use Rattle.bac_link.specs.Delivery.{items_of}
use Rattle.bac_link.specs.Path.{Path}
use Rattle.bac_log.specs.declared.entry.Entry.{Entry}
use Rattle.bac_walk.specs.Came.{Came, Comes, Brought, EndsBy, EndsEmpty, EndsFull, EndsWith, AreOf, answers_of, restarted, reaching, walk_over}
use Rattle.bac_walk.specs.Collects.{batches, turn_items}
use Rattle.bac_link.specs.Heard.{AckParameters}
use Rattle.bac_walk.specs.Place.{WalkPlace}
use Rattle.bac_link.specs.Heard.{heard_in}
use Rattle.bac_walk.specs.Walks.{verdict, NextAct, Refuse, Ask, End, Bring, IsTaken, IsTakenFrom}
use Rattle.bac_walk.specs.declared.batch.Batch.{Batch}
use Rattle.bac_walk.specs.declared.outcome.Ended.{Ended}
use Rattle.bac_walk.specs.declared.outcome.Ended.TheVariants.{CaughtUp, StepLimit, Stopped, Fault}
use Rattle.bac_walk.specs.declared.outcome.Progress.{Progress}
use Rattle.bac_walk.specs.declared.outcome.Progress.TheVariants.{Batch as BatchOf, AskOldest, CaughtUp as IsUp}
use Rattle.bac_walk.proofs.Told.{Asking}
use Rattle.bac_walk.proofs.WalkTakes.{count_stays}
use Rattle.bac_walk.proofs.Joins.{batches-append}
use Rattle.bac_walk.proofs.Cuts.{items_of-append}

-- ---- how many records are asked for

pub comes_count : {S : Type 0} (asks : Asking S) (path : Path) (retries : ℕ) (came : List Came) (old new : S) (w after : WalkPlace) →
    Comes (reaching asks path retries) (walk_over old w) came (walk_over new after) → after.count ≡ w.count
comes_count asks path retries [] old new w after comes = ap (λ (v : WalkPlace). v.count) comes.0
comes_count asks path retries (c ∷ came) old new w after (half, next, p, place, asked, taken, is, more) =
    comes_count asks path retries came half new next after more ∙ count_stays w (heard_in w.log c.datagram) p next taken

-- a run whose steps were all whole leaves that
pub limit_count : {S : Type 0} (asks : Asking S) (path : Path) (retries : ℕ) (old new : S) (w after : WalkPlace) (steps : ℕ) (came : List Came) (items : List Item) →
    Brought (reaching asks path retries) (walk_over old w) steps came items StepLimit (walk_over new after) → after.count ≡ w.count
limit_count asks path retries old new w after steps came items (here, mid, comes, ends, are) =
    ap (λ (v : WalkPlace). v.count) ends.2 ∙ comes_count asks path retries came old mid (restarted w) here comes

-- ---- two in a row

comes_append : {S : Type 0} (asks : Asking S) (path : Path) (retries : ℕ) (xs ys : List Came) (old mid new : S) (w here after : WalkPlace) →
    Comes (reaching asks path retries) (walk_over old w) xs (walk_over mid here) → Comes (reaching asks path retries) (walk_over mid here) ys (walk_over new after) → Comes (reaching asks path retries) (walk_over old w) (xs ++ ys) (walk_over new after)
comes_append {S = S} asks path retries [] ys old mid new w here after first rest =
    let P : WalkPlace → Type 0 = λ v. Comes (reaching asks path retries) (walk_over mid v) ys (walk_over new after) in
    let Q : S → Type 0 = λ l. Comes (reaching asks path retries) (walk_over l w) ys (walk_over new after) in
    subst Q first.1 (subst P first.0 rest)
comes_append asks path retries (c ∷ xs) ys old mid new w here after (half, next, p, place, asked, taken, is, more) rest =
    (half, next, p, place, asked, taken, is, comes_append asks path retries xs ys half mid new next here after more rest)

answers-append : (xs ys : List Came) → answers_of (xs ++ ys) ≡ answers_of xs ++ answers_of ys
answers-append [] ys = refl
answers-append (c ∷ xs) ys = ap (λ l. c.items ∷ l) (answers-append xs ys)

pub came_batches : (xs ys : List Came) → batches (answers_of (xs ++ ys)) ≡ batches (answers_of xs) + batches (answers_of ys)
came_batches xs ys = ap batches (answers-append xs ys) ∙ batches-append (answers_of xs) (answers_of ys)

pub came_items : (xs ys : List Came) → items_of (answers_of (xs ++ ys)) ≡ items_of (answers_of xs) ++ items_of (answers_of ys)
came_items xs ys = ap items_of (answers-append xs ys) ∙ items_of-append (answers_of xs) (answers_of ys)

pub full_append : (xs ys : List Came) → EndsFull xs → EndsFull ys → EndsFull (xs ++ ys)
full_append [] ys first rest = rest
full_append (c ∷ []) [] first rest = first
full_append (c ∷ []) (d ∷ ys) first rest = rest
full_append (c ∷ d ∷ xs) ys first rest = full_append (d ∷ xs) ys first rest

pub empty_append : (xs ys : List Came) → EndsEmpty ys → EndsEmpty (xs ++ ys)
empty_append [] ys rest = rest
empty_append (c ∷ []) [] rest = absurd rest
empty_append (c ∷ []) (d ∷ ys) rest = rest
empty_append (c ∷ d ∷ xs) ys rest = empty_append (d ∷ xs) ys rest

pub ends_behind : (item : Item) (rest : List Item) (xs ys : List Came) → EndsWith item rest (answers_of ys) → EndsWith item rest (answers_of (xs ++ ys))
ends_behind item rest [] ys ends = ends
ends_behind item rest (c ∷ []) [] ends = absurd ends
ends_behind item rest (c ∷ []) (d ∷ ys) ends = ends
ends_behind item rest (c ∷ d ∷ xs) ys ends = ends_behind item rest (d ∷ xs) ys ends

-- behind a batch the walk asks by number
batch_by : (w : WalkPlace) (es : List Entry) (v : NextAct) (b : Batch) (after : WalkPlace) → IsTaken w es v (Ok (BatchOf b)) after → restarted after ≡ after
batch_by w es Refuse b after taken = absurd taken
batch_by w es Ask b after taken = absurd taken
batch_by w es End b after taken = absurd taken
batch_by w es (Bring f) b after taken = ap restarted taken.1 ∙ sym taken.1

batch_place : (w : WalkPlace) (heard : Option AckParameters) (b : Batch) (after : WalkPlace) → IsTakenFrom w heard (Ok (BatchOf b)) after → restarted after ≡ after
batch_place w None b after taken = absurd taken
batch_place w (Some h) b after taken = batch_by w h.entries (verdict w h.first h.count h.entries) b after taken

full_turn : (w : WalkPlace) (heard : Option AckParameters) (p : Progress) (items : List Item) (after : WalkPlace) → IsTakenFrom w heard (Ok p) after →
    items ≡ turn_items (Ok p) → 0 < length items → restarted after ≡ after
full_turn w heard (BatchOf b) items after taken is full = batch_place w heard b after taken
full_turn w heard AskOldest items after taken is full = absurd (omega (arith, full, ap length is))
full_turn w heard IsUp items after taken is full = absurd (omega (arith, full, ap length is))

pub full_place : {S : Type 0} (asks : Asking S) (path : Path) (retries : ℕ) (came : List Came) (old new : S) (w here : WalkPlace) →
    Comes (reaching asks path retries) (walk_over old w) came (walk_over new here) → EndsFull came → restarted w ≡ w → restarted here ≡ here
full_place asks path retries [] old new w here comes full by_number = ap restarted comes.0 ∙ by_number ∙ sym comes.0
full_place asks path retries (c ∷ []) old new w here (half, next, p, place, asked, taken, is, more) full by_number =
    let same : here ≡ next = more.0 in
    ap restarted same ∙ full_turn w (heard_in w.log c.datagram) p c.items next taken is full ∙ sym same
full_place asks path retries (c ∷ d ∷ came) old new w here (half, next, p, place, asked, taken, is, more) full by_number =
    behind asks path retries d came half new next here more full
  where
    behind : {S : Type 0} (asks : Asking S) (path : Path) (retries : ℕ) (d : Came) (came : List Came) (old new : S) (w here : WalkPlace) →
        Comes (reaching asks path retries) (walk_over old w) (d ∷ came) (walk_over new here) → EndsFull (d ∷ came) → restarted here ≡ here
    behind asks path retries d [] old new w here (half, next, p, place, asked, taken, is, more) full =
        let same : here ≡ next = more.0 in
        ap restarted same ∙ full_turn w (heard_in w.log d.datagram) p d.items next taken is full ∙ sym same
    behind asks path retries d (e ∷ came) old new w here (half, next, p, place, asked, taken, is, more) full =
        behind asks path retries e came half new next here more full

pub no_brought : {S : Type 0} (asks : Asking S) (path : Path) (retries : ℕ) (old : S) (w : WalkPlace) →
    (came : List Came) × Brought (reaching asks path retries) (walk_over old w) 0 came [] StepLimit (walk_over old w)
no_brought asks path retries old w = ([], (restarted w, old, (refl, refl), (tt, refl, refl, refl), refl))

-- a run whose steps were all whole, and one more
pub brought_joins : {S : Type 0} (asks : Asking S) (path : Path) (retries : ℕ) (old half new : S) (w mid after : WalkPlace) (n more : ℕ) (xs ys : List Item) (ended : Ended) →
    (came : List Came) × Brought (reaching asks path retries) (walk_over old w) n came xs StepLimit (walk_over half mid) →
    (came : List Came) × Brought (reaching asks path retries) (walk_over half mid) more came ys ended (walk_over new after) →
    (came : List Came) × Brought (reaching asks path retries) (walk_over old w) (n + more) came (xs ++ ys) ended (walk_over new after)
brought_joins {S = S} asks path retries old half new w mid after n more xs ys ended (first, (here, link, comes, ends, are)) (rest, (there, last, goes, over, same)) =
    let at : restarted mid ≡ here = ends.2 ∙ full_place asks path retries first old link (restarted w) here comes ends.0 refl in
    let P : WalkPlace → Type 0 = λ v. Comes (reaching asks path retries) (walk_over half v) rest (walk_over last there) in
    let Q : S → Type 0 = λ l. Comes (reaching asks path retries) (walk_over l here) rest (walk_over last there) in
    (first ++ rest, (there, last, comes_append asks path retries first rest old link last (restarted w) here there comes (subst Q ends.3 (subst P at goes)), both ended over, all ended same))
  where
    count : batches (answers_of (first ++ rest)) ≡ n + batches (answers_of rest)
    count = omega (arith, came_batches first rest, ends.1)

    both : (why : Ended) → EndsBy (reaching asks path retries) more rest (walk_over last there) why (walk_over new after) → EndsBy (reaching asks path retries) (n + more) (first ++ rest) (walk_over last there) why (walk_over new after)
    both CaughtUp over = (empty_append first rest over.0, omega (arith, count, over.1), over.2, over.3)
    both StepLimit over = (full_append first rest ends.0 over.0, omega (arith, count, over.1), over.2, over.3)
    both Stopped over = (full_append first rest ends.0 over.0, omega (arith, count, over.1), omega (arith, count, over.2), over.3)
    both (Fault e) over = (omega (arith, count, over.0), over.1, over.2)

    whole : ys ≡ items_of (answers_of rest) → xs ++ ys ≡ items_of (answers_of (first ++ rest))
    whole is = ap (λ l. l ++ ys) are ∙ ap (λ l. items_of (answers_of first) ++ l) is ∙ sym (came_items first rest)

    all : (why : Ended) → AreOf why rest ys after → AreOf why (first ++ rest) (xs ++ ys) after
    all CaughtUp is = whole is
    all StepLimit is = whole is
    all Stopped is = (
      xs ++ is.0,
      is.1,
      is.2,
      is.3,
      ap (λ l. xs ++ l) is.4 ∙ sym (append_assoc xs is.0 (Logged is.1 is.2 ∷ [])),
      append_assoc xs ys is.3 ∙ ap (λ l. l ++ (ys ++ is.3)) are ∙ ap (λ l. items_of (answers_of first) ++ l) is.5 ∙ sym (came_items first rest),
      is.6,
      is.7,
      ends_behind (Logged is.1 is.2) is.3 first rest is.8,
    )
    all (Fault e) is = whole is
