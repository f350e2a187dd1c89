-- How the answers of a run lead from one ordinal to another.
use Rattle.std.proofs.Common.{ℕ, Bool, true, false, List, [], ◌∷◌, refl, sym, subst}
use Rattle.bac_link.specs.declared.item.Item.{Item}
use Rattle.bac_link.specs.Delivery.{History, Moment, later, Leads}
use Rattle.bac_walk.specs.declared.outcome.Ended.{Ended}
use Rattle.bac_walk.specs.Collects.{LeadsInSteps, our_log}

pub leads : (ended : Ended) (r count : ℕ) (H : History) (M : List Moment) (by_oldest : Bool) (s t : ℕ) (answers : List (List Item)) →
    LeadsInSteps ended (our_log r M H) count by_oldest s answers t → Leads H M s answers t
leads ended r count H M by_oldest s t [] steps = steps
leads ended r count H M false s t ([] ∷ answers) steps = (s, refl, leads ended r count H (later M) true s t answers steps.1)
leads ended r count H M true s t ([] ∷ answers) steps =
    let P : List (List Item) → Type 0 = λ xs. Leads H (later M) s xs t in (s, refl, subst P (sym steps.0) steps.2)
leads ended r count H M by_oldest s t ((x ∷ xs) ∷ answers) steps = (steps.0, steps.1, leads ended r count H (later M) false steps.0 t answers steps.3)
