use Rattle.std.proofs.Common.{◌≡◌, ℕ, suc, ◌+◌, ◌-◌, List, [], ◌∷◌, ◌++◌, length, refl, sym, ap, ◌∙◌, append_assoc, append-nil, length-append, arith}
use Rattle.bac_log.specs.RecordReading.{entries_at}
use Rattle.bac_walk.specs.declared.batch.Numbered.{Numbered}
use Rattle.bac_walk.specs.Spelled.{spelled}
use Rattle.bac_link.specs.Ordinals.{number_after}
use Rattle.bac_walk.specs.Walks.{with_numbers}
use Rattle.bac_walk.proofs.Numbers.{length-with_numbers}
use Rattle.bac_walk.proofs.Spellings.{left_none, left_some, left_last}
use Rattle.bac_walk.proofs.walk.numbered_from.Goals as goal

pub loop-taken-init : goal.loop-taken-init
loop-taken-init c = (
  spelled c.args.octets.now,
  ap (λ n. entries_at n c.args.octets.now) (omega arith) ∙ c.requires.read,
  omega (arith, c.requires.most, length-with_numbers c.args.first (spelled c.args.octets.now) _ refl, ap length c.new-numbered.ensures),
  ap (λ (l : List Numbered). l ++ with_numbers c.args.first (spelled c.args.octets.now)) (sym c.new-numbered.ensures),
)

pub push-requires : goal.push-requires
push-requires c =
    let m = c.loop-taken.invariant in
    let n : ℕ = length c.args.octets.now in
    let place : n - c.loop-taken.taken ≡ suc (n - (c.loop-taken.taken + 1)) = omega (arith, c.loop-taken-test.true) in
    let more = left_some (n - c.loop-taken.taken) (n - (c.loop-taken.taken + 1)) c.loop-taken.rest.now c.in-Some.entry c.in-Some.after.now m.0 place (c.in-Some.ensures {u = tt}) m.1 in
    omega (arith, m.2, more.3)

pub loop-taken-preserved : goal.loop-taken-preserved
loop-taken-preserved c =
    let m = c.loop-taken.invariant in
    let n : ℕ = length c.args.octets.now in
    let place : n - c.loop-taken.taken ≡ suc (n - (c.loop-taken.taken + 1)) = omega (arith, c.loop-taken-test.true) in
    let more = left_some (n - c.loop-taken.taken) (n - (c.loop-taken.taken + 1)) c.loop-taken.rest.now c.in-Some.entry c.in-Some.after.now m.0 place (c.in-Some.ensures {u = tt}) m.1 in
    let one : Numbered = record { number = c.loop-taken.number; entry = c.in-Some.entry } in (
      more.0,
      more.2,
      omega (arith, m.2, more.3, ap length c.push.ensures.items, length-append c.loop-taken.numbered.items (one ∷ [])),
      m.3 ∙ ap (λ es. c.loop-taken.numbered.items ++ with_numbers c.loop-taken.number es) more.1
          ∙ sym (append_assoc c.loop-taken.numbered.items (one ∷ []) (with_numbers (number_after c.loop-taken.number 1) more.0))
          ∙ ap (λ (l : List Numbered). l ++ with_numbers (number_after c.loop-taken.number 1) more.0) (sym c.push.ensures.items)
          ∙ ap (λ n. c.push.new.self.items ++ with_numbers n more.0) (sym c.number_after-number.ensures),
    )

pub returns-in_default : goal.returns-in_default
returns-in_default c =
    let m = c.loop-taken.invariant in
    let none = left_none (length c.args.octets.now - c.loop-taken.taken) c.loop-taken.rest.now m.0 (c.in_default.ensures {u = tt}) m.1 in
    sym (m.3 ∙ ap (λ es. c.loop-taken.numbered.items ++ with_numbers c.loop-taken.number es) none ∙ append-nil c.loop-taken.numbered.items)

pub returns : goal.returns
returns c =
    let m = c.loop-taken.invariant in
    let none = left_last (length c.args.octets.now - c.loop-taken.taken) c.loop-taken.rest.now m.0 (omega (arith, c.loop-taken-test.false)) m.1 in
    sym (m.3 ∙ ap (λ es. c.loop-taken.numbered.items ++ with_numbers c.loop-taken.number es) none ∙ append-nil c.loop-taken.numbered.items)
