use Rattle.std.proofs.Common.{◌≡◌, inl, inr, refl, subst, arith}
use Rattle.std.proofs.lemmas.Bool.{cases_lt}
use Rattle.bac_wire.specs.Primitive.{Id}
use Rattle.bac_query.specs.ObjectList.{IsObject, octets_at}
use Rattle.bac_query.proofs.object_list.are_objects.Goals as goal

pub returns-in_default-clause-none : goal.returns-in_default-clause-none
returns-in_default-clause-none c = λ no are.
    let it = are.1 c.loop-place.place c.loop-place-test.true in
    c.in_default.ensures.none refl it.0 it.1

pub loop-place-preserved : goal.loop-place-preserved
loop-place-preserved c = λ k lt. elim (cases_lt k c.loop-place.place) [
  | inl less ↦ c.loop-place.invariant k less
  | inr le ↦
      let is : c.loop-place.place ≡ k = omega (arith, lt, le) in
      subst (λ n. (object : Id) × IsObject object (octets_at n c.args.values.now)) is (c.in-Some._object, c.in-Some.ensures.found)
]

pub returns-clause-are : goal.returns-clause-are
returns-clause-are c = λ yes. (omega (arith, c.from.ensures, c.if-values-from.false), λ place lt. c.loop-place.invariant place (omega (arith, lt, c.loop-place-test.false)))
