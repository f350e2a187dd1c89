use Rattle.std.proofs.Common.{◌≡◌, ℕ, suc, ◌+◌, ◌-◌, List, [], ◌∷◌, ◌++◌, length, take, drop, sym, ap, ◌∙◌, arith}
use Rattle.std.proofs.lemmas.List.{take_all, length-drop}
use Rattle.std.specs.Result.{result_ok}
use Rattle.bac_log.specs.RecordReading.{entries_at}
use Rattle.bac_link.specs.Ordinals.{number_after}
use Rattle.bac_walk.specs.declared.batch.Numbered.{Numbered}
use Rattle.bac_known.proofs.OneByOne.{joined, no_more, no_record, no_turns, one_more}
use Rattle.bac_known.proofs.records.records_in.Goals as goal

-- what is left after a record
going : (n len : ℕ) (rest : List ℕ) (came : List Numbered) (number : ℕ) →
    joined came number (result_ok (entries_at n (drop len rest))) ≡ joined came number (result_ok (entries_at n (take (length rest - len) (drop len rest))))
going n len rest came number =
    ap (λ (octets : List ℕ). joined came number (result_ok (entries_at n octets))) (sym (take_all (length rest - len) (drop len rest) (omega (arith, length-drop len rest))))

pub returns-then-is_empty : goal.returns-then-is_empty
returns-then-is_empty c =
    c.loop-taken.invariant.whole
    ∙ no_more (length c.args.octets.now - c.loop-taken.taken) c.loop-taken.rest.now c.loop-taken.records.items c.loop-taken.number (sym c.is_empty.ensures ∙ c.if-is_empty.true)

pub returns-in_default : goal.returns-in_default
returns-in_default c =
    let n : ℕ = length c.args.octets.now in
    c.loop-taken.invariant.whole
    ∙ no_record (n - c.loop-taken.taken) (n - (c.loop-taken.taken + 1)) c.loop-taken.rest.now c.loop-taken.records.items c.loop-taken.number (omega (arith, c.loop-taken-test.true)) (sym c.is_empty.ensures ∙ c.if-is_empty.false) (c.in_default.ensures {u = tt}).exact

pub loop-taken-preserved : goal.loop-taken-preserved
loop-taken-preserved c =
    let n : ℕ = length c.args.octets.now in
    let left : ℕ = n - (c.loop-taken.taken + 1) in
    let rest : List ℕ = c.loop-taken.rest.now in
    let after : List ℕ = drop c.in-Some.len rest in
    let number : ℕ = number_after c.loop-taken.number 1 in
    let place : n - c.loop-taken.taken ≡ suc left = omega (arith, c.loop-taken-test.true) in
    record {
      few = omega (arith, c.loop-taken-test.true);
      whole = c.loop-taken.invariant.whole
          ∙ one_more (n - c.loop-taken.taken) left rest c.in-Some.entry after c.loop-taken.records.items c.loop-taken.number place (sym c.is_empty.ensures ∙ c.if-is_empty.false) (c.in-Some.ensures {u = tt}).exact
          ∙ ap (λ (came : List Numbered). joined came number (result_ok (entries_at left after))) (sym c.in_ok-push.ensures.items)
          ∙ ap (λ (k : ℕ). joined c.push.new.self.items k (result_ok (entries_at left after))) (sym c.number_behind-number.ensures)
          ∙ going left c.in-Some.len rest c.push.new.self.items c.number_behind-number.result;
    }

pub returns-then-is_empty-2 : goal.returns-then-is_empty-2
returns-then-is_empty-2 c =
    c.loop-taken.invariant.whole
    ∙ no_more (length c.args.octets.now - c.loop-taken.taken) c.loop-taken.rest.now c.loop-taken.records.items c.loop-taken.number (sym c.is_empty-2.ensures ∙ c.if-is_empty-2.true)

pub returns-else-is_empty-2 : goal.returns-else-is_empty-2
returns-else-is_empty-2 c =
    c.loop-taken.invariant.whole
    ∙ no_turns (length c.args.octets.now - c.loop-taken.taken) c.loop-taken.rest.now c.loop-taken.records.items c.loop-taken.number (omega (arith, c.loop-taken-test.false)) (sym c.is_empty-2.ensures ∙ c.if-is_empty-2.false)
