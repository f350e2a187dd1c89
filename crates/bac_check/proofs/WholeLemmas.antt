-- What it means that nothing is missing.
use Rattle.std.proofs.Common.{◌≡◌, ◌⊎◌, ◌&&◌, ◌==◌, inl, inr, refl, sym, subst, Bool, true, false, List, [], ◌∷◌, Option, None, Some, not, if◌then◌else◌}
use Rattle.std.specs.List.{Contains, list_all}
use Rattle.std.proofs.lemmas.Bool.{and_parts, eq-eqb}
use Rattle.bac_check.specs.Holes.{Rise}
use Rattle.bac_check.specs.Joins.{log_of}
use Rattle.bac_check.specs.Lines.{has_lost, holes_in, is_all_there, is_complete, is_gone, is_none_of, is_whole}
use Rattle.bac_check.specs.Tallies.{IsTallied}
use Rattle.bac_check.specs.Whole.{WholeHasEach}
use Rattle.bac_check.specs.declared.tally.Hole.{Hole}
use Rattle.bac_check.specs.declared.tally.Span.{Span}
use Rattle.bac_check.specs.declared.tally.Tally.{Tally}
use Rattle.bac_check.proofs.HoleLemmas.{in_cases, in_none, none_missing}
use Rattle.bac_check.proofs.TallyLemmas.{holes_are}

all_of : {X : Type 0} (p : X → Bool) (xs : List X) (x : X) → list_all p xs ≡ true → Contains xs x → p x ≡ true
all_of p [] x all there = absurd (in_none x there)
all_of {X = X} p (y ∷ xs) x all there = go (in_cases x y xs there) (λ rest. all_of p xs x both.1 rest)
  where
    both : (p y ≡ true) × (list_all p xs ≡ true)
    both = and_parts (p y) (list_all p xs) all

    go : (y ≡ x) ⊎ Contains xs x → (Contains xs x → p x ≡ true) → p x ≡ true
    go (inl is) more = subst (λ (z : X). p z ≡ true) is both.0
    go (inr rest) more = more rest

none_there : (holes : List Hole) → is_none_of holes ≡ true → holes ≡ []
none_there [] is = refl
none_there (hole ∷ holes) is = absurd (let e : false ≡ true = is in cc)

not_so : (b : Bool) → not b ≡ true → b ≡ false
not_so true is = absurd (let e : false ≡ true = is in cc)
not_so false is = refl

rises : (spans : List Span) (counted : Option Tally) → IsTallied spans counted → Rise 0 spans
rises spans None it = subst (Rise 0) (sym it) tt
rises spans (Some t) it = it.rise

pub whole_has_each : WholeHasEach
whole_has_each counts log course spans all known there of_log it =
    let courses = counts.courses.items in
    let from = course.begun.number in
    let one : is_all_there counts log ≡ true = all_of (is_all_there counts) counts.logs.items log all known in
    let so : is_whole log.id courses course ≡ true = all_of (is_whole log.id courses) courses course one there in
    let here : (log_of course.begun.id == log.id) ≡ true = eq-eqb (log_of course.begun.id) log.id of_log in
    let whole : is_complete courses course ≡ true = subst (λ (b : Bool). (if b then is_complete courses course else true) ≡ true) here so in
    let lost = and_parts (not (has_lost courses course)) (not (is_gone courses course) && is_none_of (holes_in course)) whole in
    let gone = and_parts (not (is_gone courses course)) (is_none_of (holes_in course)) lost.1 in
    let none = none_there (holes_in course) gone.1 in (
      not_so (is_gone courses course) gone.0,
      not_so (has_lost courses course) lost.0,
      λ n m have le begun. (none_missing (Some from) spans (holes_in course) (rises spans course.tally it) (holes_are (Some from) spans course.tally it)).0 none n m have le begun,
    )
