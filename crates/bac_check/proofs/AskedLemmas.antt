-- What an archive is as, once it was asked, and why it isn't counted.
use Rattle.std.proofs.Common.{◌≡◌, inl, inr, ap, subst, sym, Result, Ok, Err, OnOk, IfOk, IfErr}
use Rattle.sqlite.specs.Effect.{Database as Db}
use Rattle.sqlite.specs.declared.error.Error.{Error}
use Rattle.sqlite.specs.Held.{Held, state}
use Rattle.sqlite.specs.State.{IsUnchanged}
use Rattle.sqlite.proofs.Callers.{unchanged_then}
use Rattle.sqlite_trees.specs.declared.store.Store.{Ghosts}
use Rattle.bac_archive.specs.Ask.{IsAsWas, IsLeft}
use Rattle.bac_archive.specs.Known.{FailsToKnow, HasUnreadKnown}
use Rattle.bac_archive.specs.Schema.{HasArchive}
use Rattle.bac_archive.proofs.AskLemmas.{left_then}
pub use Rattle.bac_archive.proofs.AskLemmas.{as_was_behind}
use Rattle.bac_check.specs.Uncounts.{FailsToCount, FailsToRange, HasBackward, HasOverlap, HasTooMany, HasUnreadItem, IsAsLeft, IsUncounted, WhyUncounted}
use Rattle.bac_check.specs.declared.tally.Uncounted.{Uncounted}
use Rattle.bac_check.specs.declared.tally.Uncounted.TheVariants.{Overlap, Backward, Memory, Database}

pub on_ok_then : {A E : Type 0} (r : Result A E) (X Y : Type 0) → OnOk r X → (X → Y) → OnOk r Y
on_ok_then (Ok a) X Y h f = f h
on_ok_then (Err e) X Y h f = tt

pub if_ok_then : {A E : Type 0} (r : Result A E) (P Q : A → Type 0) → IfOk r P → ((a : A) → P a → Q a) → IfOk r Q
if_ok_then (Ok a) P Q h f = f a h
if_ok_then (Err e) P Q h f = tt

pub if_err_then : {A E : Type 0} (r : Result A E) (P Q : E → Type 0) → IfErr r P → ((e : E) → P e → Q e) → IfErr r Q
if_err_then (Ok a) P Q h f = tt
if_err_then (Err e) P Q h f = f e h

module _ {S : Type 0} (g : Ghosts S) where
  pub still : (a b : Held S) → IsAsWas g a b → (state g b).now ≡ (state g a).now
  still a b (inl none) = ap (λ h. (state g h).now) none
  still a b (inr same) = same.0.now_is

  pub has_was : (a b : Held S) → IsAsWas g a b → HasArchive (state g a).now.schema → HasArchive (state g b).now.schema
  has_was a b was has = subst (λ (d : Db). HasArchive d.schema) (sym (still a b was)) has

  pub as_was_both : (a b c : Held S) → IsAsWas g a b → IsAsWas g b c → IsAsWas g a c
  as_was_both a b c (inl none) it = subst (λ h. IsAsWas g h c) none it
  as_was_both a b c (inr same) it = as_was_behind g a b c same it

  pub unchanged_behind : (a b c : Held S) → IsUnchanged (state g a) (state g b) → IsAsWas g b c → IsUnchanged (state g a) (state g c)
  unchanged_behind a b c one (inl none) = subst (λ h. IsUnchanged (state g a) (state g h)) (sym none) one
  unchanged_behind a b c one (inr two) = unchanged_then (state g a) (state g b) (state g c) one two

  pub as_left_then : (a b c : Held S) → IsAsWas g a b → IsAsLeft g b c → IsAsLeft g a c
  as_left_then a b c (inl none) it = subst (λ h. IsAsLeft g h c) none it
  as_left_then a b c (inr same) (inl none) = inr (inl (subst (λ h. IsUnchanged (state g a) (state g h)) (sym none) same))
  as_left_then a b c (inr same) (inr left) = inr (left_then (state g a) (state g b) (state g c) same left)

  pub was_left : (a b : Held S) → IsAsWas g a b → IsAsLeft g a b
  was_left a b (inl none) = inl none
  was_left a b (inr same) = inr (inl same)

  -- what a database that was as it was fails by, it fails by
  knows_then : (a b c : Held S) (e : Error) → IsAsWas g a b → FailsToKnow g b c e → FailsToKnow g a c e
  knows_then a b c e was (inl (question, asks, (mid, is, fails))) = inl (question, asks, (mid, as_was_both a b mid was is, fails))
  knows_then a b c e was (inr it) = inr (subst (λ (d : Db). HasUnreadKnown d.trees e) (still a b was) it)

  range_then : (a b c : Held S) (e : Error) → IsAsWas g a b → FailsToRange g b c e → FailsToRange g a c e
  range_then a b c e was (range, mid, is, fails) = (range, mid, as_was_both a b mid was is, fails)

  counts_then : (a b c : Held S) (e : Error) → IsAsWas g a b → FailsToCount g b c e → FailsToCount g a c e
  counts_then a b c e was (inl it) = inl (knows_then a b c e was it)
  counts_then a b c e was (inr (inl it)) = inr (inl (range_then a b c e was it))
  counts_then a b c e was (inr (inr (inl it))) = inr (inr (inl (subst (λ (d : Db). HasUnreadItem (d.trees 5) e) (still a b was) it)))
  counts_then a b c e was (inr (inr (inr it))) = inr (inr (inr (subst (λ (d : Db). HasTooMany (d.trees 5) e) (still a b was) it)))

  why_then : (a b c : Held S) (why : Uncounted) → IsAsWas g a b → WhyUncounted g b c why → WhyUncounted g a c why
  why_then a b c (Overlap epoch before row) was it = subst (λ (d : Db). HasOverlap (d.trees 5) epoch before row) (still a b was) it
  why_then a b c (Backward epoch row) was it = subst (λ (d : Db). HasBackward (d.trees 5) epoch row) (still a b was) it
  why_then a b c Memory was it = tt
  why_then a b c (Database e) was it = counts_then a b c e was it

  -- so its rows aren't counted, if those of what it was as aren't
  pub uncounted_then : (a b c : Held S) (why : Uncounted) → IsAsWas g a b → IsUncounted g b c why → IsUncounted g a c why
  uncounted_then a b c why was it = record {
    left = as_left_then a b c was it.left;
    cause = why_then a b c why was it.cause;
  }

  -- nothing was asked, or nothing changed, and memory was wanting
  pub no_memory : (a b : Held S) → IsAsWas g a b → IsUncounted g a b Memory
  no_memory a b was = record { left = was_left a b was; cause = tt }

  -- what it has on record isn't told, so nothing is counted
  pub unknown : (a b : Held S) (e : Error) → IsLeft (state g a) (state g b) → FailsToKnow g a b e → IsUncounted g a b (Database e)
  unknown a b e left why = record { left = inr left; cause = inl why }
