-- Steps that bring the same.
use Rattle.std.proofs.Common.{◌≡◌, ℕ, Bool, Result, Ok, Err, map, refl, ap, subst, ◌∙◌, ◌++◌}
use Rattle.std.specs.Prelude.{OnErr}
use Rattle.bac_walk.specs.declared.outcome.Step.{Step}
use Rattle.bac_walk.specs.declared.outcome.Step.TheVariants.{Batch as StepOf, CaughtUp as NoStep}
use Rattle.bac_walk.specs.declared.outcome.WalkFault.{WalkFault}
use Rattle.bac_walk.specs.Walks.{gap_items, item_of}
use Rattle.bac_walk.specs.Collects.{step_items, step_ended, is_fresh_after, FoundStep, MissingStep}
use Rattle.bac_walk.specs.Replied.{IsSame}

-- what of a step is the same of another
pub record AreSame (a b : Result Step WalkFault) : Type 0 where
  pub items : step_items a ≡ step_items b
  pub ended : step_ended a ≡ step_ended b
  pub fresh : (was : Bool) → is_fresh_after was a ≡ is_fresh_after was b
  pub found : FoundStep a → FoundStep b
  pub missing : MissingStep a → MissingStep b
  pub fault : (m n : ℕ) → OnErr a (m ≡ n) → OnErr b (m ≡ n)

pub same_step : (a b : Result Step WalkFault) → IsSame a b → AreSame a b
same_step (Ok (StepOf b)) (Ok (StepOf c)) h = record {
  items = ap (λ g. gap_items g ++ map item_of b.entries.items) h.0 ∙ ap (λ l. gap_items c.gap ++ map item_of l) h.1;
  ended = refl;
  fresh = λ was. refl;
  found = λ f. f;
  missing = λ f. f;
  fault = λ m n f. f;
}
same_step (Ok NoStep) (Ok NoStep) h = record { items = refl; ended = refl; fresh = λ was. refl; found = λ f. f; missing = λ f. f; fault = λ m n f. f }
same_step (Err e) (Err d) h =
    let P : WalkFault → Type 0 = λ x. AreSame (Err e) (Err x) in
    subst P h (record { items = refl; ended = refl; fresh = λ was. refl; found = λ f. f; missing = λ f. f; fault = λ m n f. f })
same_step (Ok (StepOf b)) (Ok NoStep) h = absurd h
same_step (Ok (StepOf b)) (Err d) h = absurd h
same_step (Ok NoStep) (Ok (StepOf c)) h = absurd h
same_step (Ok NoStep) (Err d) h = absurd h
same_step (Err e) (Ok p) h = absurd h
