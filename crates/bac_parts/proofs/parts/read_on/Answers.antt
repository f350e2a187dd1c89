use Rattle.std.proofs.Common.{◌≡◌, ◌∙◌, ◌++◌, ◌∷◌, ◌+◌, [], arith, false, inl, inr, length, List, map, refl, rules, String, Global, subst, sym, true}
use Rattle.std.proofs.lemmas.List.{nil_from_length}
use Rattle.std.specs.String.{string_bytes}
use Rattle.bac_parts.specs.Visits.{Visit, at_visit, path_of, visit_rules}
use Rattle.bac_parts.proofs.VisitLemmas.{on_more, one_longer, paths_more, visits_more}
use Rattle.bac_parts.proofs.parts.read_on.Goals as goal

pub returns-in_default : goal.returns-in_default
returns-in_default g c =
    let it = c.loop-step.invariant in
    let none : c.loop-step.newer.now ≡ [] = search rules in
    (it.0, [], subst (λ (o : List (String Global)). map string_bytes c.args.paths.now ≡ map path_of it.0 ++ map string_bytes o) none it.1, sym it.3, it.2, inl refl)

pub returns-then-not-wants_more : goal.returns-then-not-wants_more
returns-then-not-wants_more g c =
    let it = c.loop-step.invariant in
    let wants : g.V.Visitor.wants c.loop-step.visitor ≡ false = search rules in
    (it.0, map string_bytes c.loop-step.newer.now, it.1, sym it.3, it.2, inr wants)

pub loop-step-preserved : goal.loop-step-preserved
loop-step-preserved g c =
    let it = c.loop-step.invariant in
    let rules' = visit_rules g.P.Parts.holds g.P.Parts.bars g.V.Reader.reads g.V.Visitor.wants g.V.Visitor.ends in
    let old = at_visit c.args.parts.now c.args.visitor.now (g.O.Write.contents c.args.output.now) in
    let mid = at_visit c.loop-step.parts c.loop-step.visitor (g.O.Write.contents c.loop-step.output) in
    let new = at_visit c.visit.new.parts c.visit.new.visitor (g.O.Write.contents c.visit.new.output) in
    let one = c.visit.ensures in
    let rest = c.in-Some.rest.now in
    let first = c.in-Some.first.now in
    let all : c.loop-step.newer.now ≡ first ∷ rest = search rules in
    let wants : g.V.Visitor.wants c.loop-step.visitor ≡ true = search rules in
    let paths = paths_more it.0 one.0 (string_bytes first) (one.1 ∙ c.as_str.ensures.value) in
    let longer = one_longer it.0 one.0 (it.0 ++ one.0 ∷ []) refl in
    let shorter : length c.loop-step.newer.now ≡ length rest + 1 = rw all (omega arith) in (
      it.0 ++ one.0 ∷ [],
      on_more (map string_bytes c.args.paths.now) rest first (map path_of it.0) (map path_of (it.0 ++ one.0 ∷ []))
          (subst (λ (o : List (String Global)). map string_bytes c.args.paths.now ≡ map path_of it.0 ++ map string_bytes o) all it.1) paths,
      visits_more rules' it.0 one.0 old mid new it.2 wants one.2,
      omega (arith, it.3, longer),
      omega (arith, it.4, shorter),
      omega (arith, it.5),
    )

pub returns : goal.returns
returns g c =
    let it = c.loop-step.invariant in
    let none : c.loop-step.newer.now ≡ [] = nil_from_length c.loop-step.newer.now (omega (arith, it.4, c.loop-step-test.false)) in
    (it.0, [], subst (λ (o : List (String Global)). map string_bytes c.args.paths.now ≡ map path_of it.0 ++ map string_bytes o) none it.1, sym it.3, it.2, inl refl)
