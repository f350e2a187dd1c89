-- Runs over a link by transactions, with the replies that they had: two in a row, and one with more steps left.
use Rattle.std.proofs.Common.{◌≡◌, ◌≢◌, ℕ, ◌+◌, ◌≤◌, List, [], ◌∷◌, ◌++◌, refl, sym, ap, subst, ◌∙◌, arith, append_assoc}
use Rattle.std.proofs.lemmas.List.{length-append}
use Rattle.bac_link.specs.declared.item.Item.{Item}
use Rattle.bac_link.specs.declared.item.Item.TheVariants.{Logged}
use Rattle.bac_link.specs.declared.transactions.Transactions.{Transactions}
use Rattle.bac_link.specs.Delivery.{items_of}
use Rattle.bac_link.specs.Path.{towards}
use Rattle.bac_walk.specs.Came.{AreOf, Came, answers_of, restarted}
use Rattle.bac_walk.specs.Collects.{batches}
use Rattle.bac_walk.specs.Place.{WalkPlace}
use Rattle.bac_walk.specs.Transacted.{BroughtBy, ComesBy, EndsAfter, walk_by}
use Rattle.bac_walk.specs.declared.outcome.Ended.{Ended}
use Rattle.bac_walk.specs.declared.outcome.Ended.TheVariants.{CaughtUp, StepLimit, Stopped, Fault}
use Rattle.bac_walk.proofs.Joined.{came_batches, came_items, empty_append, ends_behind, full_append, full_place}
use Rattle.bac_walk.proofs.Told.{Asking}
use Rattle.bac_walk.proofs.Transacted.{comes_plain}
use Rattle.bac_walk.proofs.TransactedRuns.{comes_append}

pub none_by : {S : Type 0} (asks : Asking S) (t : Transactions) (old : S) (w : WalkPlace) → BroughtBy asks (walk_by old t w) 0 [] [] StepLimit (walk_by old t w)
none_by asks t old w = record { here = restarted w; mid = old; half = t; comes = (refl, refl, refl); ends = (tt, refl, refl, refl, refl); are = refl; few = omega arith }

-- a run whose steps were all whole, and one more: its replies are those of both
pub joins_by : {S : Type 0} (asks : Asking S) (t between last : Transactions) (old half new : S) (w mid after : WalkPlace) (n more : ℕ) (first rest : List Came) (xs ys : List Item) (ended : Ended) →
    BroughtBy asks (walk_by old t w) n first xs StepLimit (walk_by half between mid) → BroughtBy asks (walk_by half between mid) more rest ys ended (walk_by new last after) →
    BroughtBy asks (walk_by old t w) (n + more) (first ++ rest) (xs ++ ys) ended (walk_by new last after)
joins_by {S = S} asks t between last old half new w mid after n more first rest xs ys ended one two =
    let at : restarted mid ≡ one.here = one.ends.2 ∙ full_place asks (towards t.route) t.retries first old one.mid (restarted w) one.here
    (comes_plain asks first t one.half old one.mid (restarted w) one.here one.comes) one.ends.0 refl in
    let P : WalkPlace → Type 0 = λ v. ComesBy asks (walk_by half between v) rest (walk_by two.mid two.half two.here) in
    let Q : S → Type 0 = λ l. ComesBy asks (walk_by l between one.here) rest (walk_by two.mid two.half two.here) in
    let R : Transactions → Type 0 = λ u. ComesBy asks (walk_by one.mid u one.here) rest (walk_by two.mid two.half two.here) in
    record {
      here = two.here;
      mid = two.mid;
      half = two.half;
      comes = comes_append asks first rest t one.half two.half old one.mid two.mid (restarted w) one.here two.here one.comes
          (subst R one.ends.4 (subst Q one.ends.3 (subst P at two.comes)));
      ends = both ended two.ends;
      are = all ended two.are;
      few = omega (arith, length-append first rest, came_batches first rest, one.few, two.few);
    }
  where
    count : batches (answers_of (first ++ rest)) ≡ n + batches (answers_of rest)
    count = omega (arith, came_batches first rest, one.ends.1)

    both : (why : Ended) → EndsAfter asks more rest (walk_by two.mid two.half two.here) why (walk_by new last after) →
        EndsAfter asks (n + more) (first ++ rest) (walk_by two.mid two.half two.here) why (walk_by new last after)
    both CaughtUp over = (empty_append first rest over.0, omega (arith, count, over.1), over.2, over.3, over.4)
    both StepLimit over = (full_append first rest one.ends.0 over.0, omega (arith, count, over.1), over.2, over.3, over.4)
    both Stopped over = (full_append first rest one.ends.0 over.0, omega (arith, count, over.1), omega (arith, count, over.2), over.3, over.4)
    both (Fault e) over = (omega (arith, count, over.0), over.1, over.2, over.3)

    whole : ys ≡ items_of (answers_of rest) → xs ++ ys ≡ items_of (answers_of (first ++ rest))
    whole is = ap (λ l. l ++ ys) one.are ∙ ap (λ l. items_of (answers_of first) ++ l) is ∙ sym (came_items first rest)

    all : (why : Ended) → AreOf why rest ys after → AreOf why (first ++ rest) (xs ++ ys) after
    all CaughtUp is = whole is
    all StepLimit is = whole is
    all Stopped is = (
      xs ++ is.0,
      is.1,
      is.2,
      is.3,
      ap (λ l. xs ++ l) is.4 ∙ sym (append_assoc xs is.0 (Logged is.1 is.2 ∷ [])),
      append_assoc xs ys is.3 ∙ ap (λ l. l ++ (ys ++ is.3)) one.are ∙ ap (λ l. items_of (answers_of first) ++ l) is.5 ∙ sym (came_items first rest),
      is.6,
      is.7,
      ends_behind (Logged is.1 is.2) is.3 first rest is.8,
    )
    all (Fault e) is = whole is

pub early_by : {S : Type 0} (asks : Asking S) (t last : Transactions) (old new : S) (w after : WalkPlace) (n steps : ℕ) (came : List Came) (xs : List Item) (ended : Ended) → ended ≢ StepLimit → n ≤ steps →
    BroughtBy asks (walk_by old t w) n came xs ended (walk_by new last after) → BroughtBy asks (walk_by old t w) steps came xs ended (walk_by new last after)
early_by asks t last old new w after n steps came xs ended other le run =
    record { here = run.here; mid = run.mid; half = run.half; comes = run.comes; ends = more ended other run.ends; are = run.are; few = run.few }
  where
    more : (why : Ended) → why ≢ StepLimit → EndsAfter asks n came (walk_by run.mid run.half run.here) why (walk_by new last after) →
        EndsAfter asks steps came (walk_by run.mid run.half run.here) why (walk_by new last after)
    more CaughtUp other ends = (ends.0, omega (arith, le, ends.1), ends.2, ends.3, ends.4)
    more StepLimit other ends = absurd (other refl)
    more Stopped other ends = (ends.0, ends.1, omega (arith, le, ends.2), ends.3, ends.4)
    more (Fault e) other ends = (omega (arith, le, ends.0), ends.1, ends.2, ends.3)
