-- What a transaction of one call leaves.
use Rattle.std.proofs.Common.{◌≡◌, ◌⊎◌, inl, inr, sym, subst, ◌∙◌, arith, IsTrue, Option, Some, None, Result, Ok, Err, OnOk, OnErr, IfErr}
use Rattle.std.specs.Result.{result_err}
use Rattle.sqlite_trees.specs.Tree.{Trees}
use Rattle.sqlite.specs.declared.error.Error.{Error}
use Rattle.sqlite.specs.Effect.{Database}
use Rattle.sqlite.specs.State.{State, HasCleanDisk, Survives, KeepsCommit, IsRolledBack}
use Rattle.sqlite.proofs.StateLemmas.{survives_then}
use Rattle.bac_archive.proofs.RowsLemmas.{undone}

-- what was to be put, and whether it failed
module _ {A : Type 0} (put : Result A Error) (failed : Option Error) (is : failed ≡ result_err put) where
  -- it was put, where it didn't fail
  pub put_well : (X : Type 0) → OnOk put X → failed ≡ None → X
  put_well X h none = go put h (sym is ∙ none)
    where
      go : (r : Result A Error) → OnOk r X → result_err r ≡ None → X
      go (Ok a) h none = h
      go (Err e) h none = absurd cc

  -- and it failed for this reason otherwise
  pub put_failed : (X : Error → Type 0) (e : Error) → IfErr put X → failed ≡ Some e → X e
  put_failed X e h some = go put h (sym is ∙ some)
    where
      go : (r : Result A Error) → IfErr r X → result_err r ≡ Some e → X e
      go (Ok a) h some = absurd cc
      go (Err d) h some = let same : d ≡ e = cc in subst X same h

  module _ {B : Type 0} (r : Result B Error) where
    -- all of it is there, and committed
    pub all_there : (mid new : State) (P : Database → Type 0) → OnOk r ((failed ≡ None) × (new.now ≡ mid.now) × (new.committed ≡ mid.now)) → (failed ≡ None → P mid.now)
        → OnOk r (P new.now × (new.committed ≡ new.now))
    all_there mid new P ended has = go r ended
      where
        go : (r : Result B Error) → OnOk r ((failed ≡ None) × (new.now ≡ mid.now) × (new.committed ≡ mid.now)) → OnOk r (P new.now × (new.committed ≡ new.now))
        go (Ok b) ended = (subst P (sym ended.1) (has ended.0), ended.2 ∙ sym ended.1)
        go (Err e) ended = tt

    -- nothing of it is
    pub none_there : (old mid new : State) → (IsTrue old.is_open → old.now ≡ old.committed) → KeepsCommit old mid → OnErr r (IsRolledBack mid new) → IsTrue new.is_open
        → OnErr r ((new.now ≡ old.now) × (new.committed ≡ old.committed))
    none_there old mid new settled kept rolled is_open = go r rolled
      where
        go : (r : Result B Error) → OnErr r (IsRolledBack mid new) → OnErr r ((new.now ≡ old.now) × (new.committed ≡ old.committed))
        go (Ok b) rolled = tt
        go (Err e) rolled = undone old mid new settled kept rolled is_open

    -- why it isn't
    pub not_there : (Gives Fails X : Error → Type 0) → IfErr r (λ e. (failed ≡ Some e) ⊎ ((failed ≡ None) × Fails e)) → IfErr put Gives → ((e : Error) → Gives e → X e)
        → (failed ≡ None → (e : Error) → Fails e → X e) → IfErr r X
    not_there Gives Fails X ended why one two = go r ended
      where
        go : (r : Result B Error) → IfErr r (λ e. (failed ≡ Some e) ⊎ ((failed ≡ None) × Fails e)) → IfErr r X
        go (Ok b) ended = tt
        go (Err e) (inl some) = one e (put_failed Gives e why some)
        go (Err e) (inr (none, fails)) = two none e fails

-- after a crash it is there or not
pub there_or_not : (failed : Option Error) (old mid new : State) (P : Trees → Type 0) → Survives old mid (λ _. ⊥)
    → Survives mid new (λ trees. (failed ≡ None) × (trees ≡ mid.now.trees)) → (HasCleanDisk mid → failed ≡ None → P mid.now.trees) → Survives old new P
there_or_not failed old mid new P one two has =
    survives_then old mid new _ _ P (λ _ db none. absurd none) (λ clean db it. subst P (sym it.1) (has (omega (arith, clean, two.clean)) it.0)) one two
