-- Why a run ended, and that its numbers go on: from what came alone.
use Rattle.std.proofs.Common.{◌≡◌, ℕ, Bool, true, false, Ok, List, [], ◌∷◌, ◌++◌, length, refl, sym, ap, subst, ◌∙◌, arith, append_assoc, ◌⊎◌, inl, inr}
use Rattle.bac_link.specs.declared.item.Item.{Item}
use Rattle.bac_link.specs.declared.item.Item.TheVariants.{Logged}
use Rattle.bac_link.specs.Delivery.{items_of}
use Rattle.bac_link.specs.Path.{Path}
use Rattle.bac_walk.specs.declared.outcome.Ended.{Ended}
use Rattle.bac_walk.specs.declared.outcome.Ended.TheVariants.{CaughtUp, StepLimit, Stopped, Fault}
use Rattle.bac_walk.specs.declared.outcome.Progress.{Progress}
use Rattle.bac_walk.specs.declared.outcome.Progress.TheVariants.{Batch as BatchOf, AskOldest, CaughtUp as IsUp}
use Rattle.bac_walk.specs.Came.{Came, Asks, AreOf, Comes, EndsBy, EndsEmpty, answers_of, restarted, reaching, walk_over}
use Rattle.bac_walk.specs.Collects.{Goes, turn_items}
use Rattle.bac_walk.specs.Follows.{BroughtGoes, BroughtTells}
use Rattle.bac_walk.specs.Place.{WalkPlace}
use Rattle.bac_link.specs.Heard.{heard_in}
use Rattle.bac_walk.specs.Told.{Told, ToldUp}
use Rattle.bac_walk.specs.Walks.{asks_oldest_now, IsTakenFrom}
use Rattle.bac_walk.proofs.Brought.{full_batch}
use Rattle.bac_walk.proofs.Came.{Asking}
use Rattle.bac_walk.proofs.Goes.{cut_goes, join_goes, stays_goes, turn_goes}
use Rattle.bac_walk.proofs.Told.{asks_here, up_here}

-- ---- why it ended

-- a reply without items to a walk that asked for the oldest says that there is no more
says_up : {S : Type 0} (asks : Asking S) (path : Path) (retries : ℕ) (old new : S) (w : WalkPlace) (c : Came) (p : Progress) (next : WalkPlace) →
    Asks asks path retries old w (Ok c.datagram) new → IsTakenFrom w (heard_in w.log c.datagram) (Ok p) next → c.items ≡ turn_items (Ok p) →
    c.items ≡ [] → asks_oldest_now w ≡ true → ToldUp asks path retries next new
says_up asks path retries old new w c (BatchOf b) next asked taken is none oldest = absurd (omega (arith, full_batch b, ap length is, ap length none))
says_up asks path retries old new w c AskOldest next asked taken is none oldest =
    absurd (let e = sym (asks_here w (heard_in w.log c.datagram) next taken).0 ∙ oldest in cc)
says_up asks path retries old new w c IsUp next asked taken is none oldest =
    let same : next ≡ w = up_here w (heard_in w.log c.datagram) next taken in
    let P : WalkPlace → Type 0 = λ v. IsTakenFrom w (heard_in w.log c.datagram) (Ok IsUp) v in
    let Q : WalkPlace → Type 0 = λ v. ToldUp asks path retries v new in
    subst Q (sym same) (c.datagram, (old, asked.0, asked.1), subst P same taken)

last_up : {S : Type 0} (asks : Asking S) (path : Path) (retries : ℕ) (old new : S) (w here : WalkPlace) (came : List Came) →
    Comes (reaching asks path retries) (walk_over old w) came (walk_over new here) → EndsEmpty came → ToldUp asks path retries here new
last_up asks path retries old new w here [] comes ends = absurd ends
last_up {S = S} asks path retries old new w here (c ∷ []) comes ends =
    let N : WalkPlace → Type 0 = λ v. asks_oldest_now v ≡ true in
    let P : WalkPlace → Type 0 = λ v. ToldUp asks path retries v new in
    let Q : S → Type 0 = λ l. ToldUp asks path retries comes.1 l in
    let told = says_up asks path retries old comes.0 w c comes.2 comes.1 comes.4 comes.5 comes.6 ends.0 (subst N comes.3 ends.1) in
    subst P (sym comes.7.0) (subst Q (sym comes.7.1) told)
last_up asks path retries old new w here (c ∷ d ∷ came) comes ends = last_up asks path retries comes.0 new comes.1 here (d ∷ came) comes.7 ends

tells : {S : Type 0} (asks : Asking S) (path : Path) (retries steps : ℕ) (old mid new : S) (w here after : WalkPlace) (came : List Came) (ended : Ended) →
    Comes (reaching asks path retries) (walk_over old w) came (walk_over mid here) → EndsBy (reaching asks path retries) steps came (walk_over mid here) ended (walk_over new after) →
    (restarted here ≡ restarted after) × Told asks path retries ended here new ⊎ (ended ≡ Stopped)
tells {S = S} asks path retries steps old mid new w here after came CaughtUp comes ends =
    let P : S → Type 0 = λ l. ToldUp asks path retries here l in
    inl (sym ends.2, subst P (sym ends.3) (last_up asks path retries old mid w here came comes ends.0))
tells asks path retries steps old mid new w here after came StepLimit comes ends = inl (sym ends.2, tt)
tells asks path retries steps old mid new w here after came Stopped comes ends = inr refl
tells asks path retries steps old mid new w here after came (Fault fault) comes ends =
    inl (sym ends.2, (ends.1.0, (mid, ends.1.1.0, ends.1.1.1), ends.1.2))

pub brought_tells : {S : Type 0} (asks : Asking S) → BroughtTells asks
brought_tells asks path retries old new before after steps came items ended brought =
    elim (tells asks path retries steps old brought.1 new (restarted before) brought.0 after came ended brought.2 brought.3) [
      | inl told ↦ (brought.0, told.0, told.1)
      | inr stopped ↦
          let P : Ended → Type 0 = λ e. Told asks path retries e after new in (after, refl, subst P (sym stopped) tt)
    ]

-- ---- its numbers go on

replies_go : {S : Type 0} (asks : Asking S) (path : Path) (retries : ℕ) (old new : S) (w here : WalkPlace) (came : List Came) →
    Comes (reaching asks path retries) (walk_over old w) came (walk_over new here) → (s : ℕ) → Goes w.fresh w.next s (items_of (answers_of came)) here.fresh here.next
replies_go asks path retries old new w here [] comes s =
    let P : WalkPlace → Type 0 = λ v. Goes w.fresh w.next s [] v.fresh v.next in subst P (sym comes.0) (stays_goes w.fresh w.next s)
replies_go asks path retries old new w here (c ∷ came) comes s =
    let next = comes.1 in
    let P : List Item → Type 0 = λ xs. (u : ℕ) → Goes w.fresh w.next u xs next.fresh next.next in
    let first : (u : ℕ) → Goes w.fresh w.next u c.items next.fresh next.next =
    subst P (sym comes.6) (λ u. turn_goes w u (heard_in w.log c.datagram) comes.2 next comes.5) in
    join_goes w.fresh w.next c.items next.fresh next.next (items_of (answers_of came)) here.fresh here.next first
    (λ u. replies_go asks path retries comes.0 new next here came comes.7 u) s

whole_goes : (fresh : Bool) (before : ℕ) (here after : WalkPlace) (whole items : List Item) → restarted after ≡ restarted here → items ≡ whole →
    ((s : ℕ) → Goes fresh before s whole here.fresh here.next) → (s : ℕ) → Goes fresh before s items after.fresh after.next
whole_goes fresh before here after whole items same is goes s =
    let P : WalkPlace → Type 0 = λ v. Goes fresh before s items v.fresh v.next in
    let Q : List Item → Type 0 = λ xs. Goes fresh before s xs here.fresh here.next in
    subst P (sym same) (subst Q (sym is) (goes s))

ends_go : {S : Type 0} (asks : Asking S) (path : Path) (retries steps : ℕ) (mid new : S) (fresh : Bool) (before : ℕ) (here after : WalkPlace)
    (came : List Came) (items : List Item) (ended : Ended) →
    EndsBy (reaching asks path retries) steps came (walk_over mid here) ended (walk_over new after) → AreOf ended came items after →
    ((s : ℕ) → Goes fresh before s (items_of (answers_of came)) here.fresh here.next) →
    (s : ℕ) → Goes fresh before s items after.fresh after.next
ends_go asks path retries steps mid new fresh before here after came items CaughtUp ends are goes =
    whole_goes fresh before here after (items_of (answers_of came)) items ends.2 are goes
ends_go asks path retries steps mid new fresh before here after came items StepLimit ends are goes =
    whole_goes fresh before here after (items_of (answers_of came)) items ends.2 are goes
ends_go asks path retries steps mid new fresh before here after came items (Fault e) ends are goes =
    whole_goes fresh before here after (items_of (answers_of came)) items ends.2 are goes
ends_go asks path retries steps mid new fresh before here after came items Stopped ends are goes = λ s.
    let xs = are.0 in
    let k = are.1 in
    let e = are.2 in
    let dropped = are.3 in
    let parts : items_of (answers_of came) ≡ xs ++ Logged k e ∷ dropped =
    sym are.5 ∙ ap (λ l. l ++ dropped) are.4 ∙ append_assoc xs (Logged k e ∷ []) dropped in
    let P : List Item → Type 0 = λ l. Goes fresh before s l here.fresh here.next in
    let Q : List Item → Type 0 = λ l. Goes fresh before s l after.fresh after.next in
    let R : ℕ → Type 0 = λ n. Goes fresh before s (xs ++ Logged k e ∷ []) false n in
    let F : Bool → Type 0 = λ f. Goes fresh before s (xs ++ Logged k e ∷ []) f after.next in
    subst Q (sym are.4) (subst F (sym are.7) (subst R (sym are.6) (cut_goes fresh before s xs k e dropped here.fresh here.next (subst P parts (goes s)))))

pub brought_goes : {S : Type 0} (asks : Asking S) → BroughtGoes asks
brought_goes asks path retries old new before after steps came items ended brought =
    ends_go asks path retries steps brought.1 new before.fresh before.next brought.0 after came items ended brought.3 brought.4
    (replies_go asks path retries old brought.1 (restarted before) brought.0 came brought.2)
