use Rattle.std.proofs.Common.{◌≡◌, ℕ, suc, ◌+◌, ◌-◌, List, [], ◌∷◌, length, take, drop, Result, Ok, Err, sym, ap, ◌∙◌, arith}
use Rattle.std.proofs.lemmas.List.{take_all, length-drop}
use Rattle.std.specs.Result.{result_ok}
use Rattle.bac_wire.specs.declared.fault.WireFault.{WireFault}
use Rattle.bac_wire.specs.declared.fault.WireFault.TheVariants.{Ended}
use Rattle.bac_log.specs.declared.entry.Entry.{Entry}
use Rattle.bac_log.specs.RecordReading.{entries_at}
use Rattle.bac_link.specs.Heard.{records_in}
use Rattle.bac_walk.proofs.Counting.{empty_read, next_ok, next_err, none_read, too_many}
use Rattle.bac_walk.proofs.read.count_of.Goals as goal

same_read : (octets : List ℕ) (n : ℕ) (r : Result (List Entry) WireFault) → n ≡ length octets → entries_at n octets ≡ r → records_in octets ≡ r
same_read octets n r is e = ap (λ k. entries_at k octets) (sym is) ∙ e

-- what is left after a record
going : (n len : ℕ) (rest : List ℕ) (r : Result (List Entry) WireFault) → entries_at n (take (length rest - len) (drop len rest)) ≡ r → entries_at n (drop len rest) ≡ r
going n len rest r e = ap (entries_at n) (sym (take_all (length rest - len) (drop len rest) (omega (arith, length-drop len rest)))) ∙ e

pub loop-taken-init : goal.loop-taken-init
loop-taken-init c = record {
  few = omega arith;
  more = λ es e. (es, same_read c.args.octets.now (length c.args.octets.now - 0) (Ok es) (omega arith) e, omega arith);
  fault = λ f e. (f, same_read c.args.octets.now (length c.args.octets.now - 0) (Err f) (omega arith) e);
}

pub returns-then-is_empty : goal.returns-then-is_empty
returns-then-is_empty c =
    let m = c.loop-taken.invariant.more [] (empty_read (length c.args.octets.now - c.loop-taken.taken) c.loop-taken.rest.now (sym c.is_empty.ensures ∙ c.if-is_empty.true)) in
    (m.0, m.1, omega (arith, m.2))

pub returns-in-None : goal.returns-in-None
returns-in-None c =
    let n : ℕ = length c.args.octets.now in
    let none = c.in-None.ensures {u = tt} in
    let f = none_read (n - c.loop-taken.taken) (n - (c.loop-taken.taken + 1)) c.loop-taken.rest.now (omega (arith, c.loop-taken-test.true)) (sym c.is_empty.ensures ∙ c.if-is_empty.false) (ap result_ok none.1) in
    c.loop-taken.invariant.fault f.0 f.1

pub loop-taken-preserved : goal.loop-taken-preserved
loop-taken-preserved c =
    let n : ℕ = length c.args.octets.now in
    let one = c.in-Some.ensures {u = tt} in
    let x : Entry = one.0 in
    let some = sym c.is_empty.ensures ∙ c.if-is_empty.false in
    let after = drop c.in-Some.len c.loop-taken.rest.now in
    let place : n - c.loop-taken.taken ≡ suc (n - (c.loop-taken.taken + 1)) = omega (arith, c.loop-taken-test.true) in
    record {
      few = omega (arith, c.loop-taken-test.true);
      more = λ es e.
          let m = c.loop-taken.invariant.more (x ∷ es) (next_ok (n - c.loop-taken.taken) (n - (c.loop-taken.taken + 1)) c.loop-taken.rest.now x after es place some (ap result_ok one.2) (going (n - (c.loop-taken.taken + 1)) c.in-Some.len c.loop-taken.rest.now (Ok es) e)) in
          (m.0, m.1, omega (arith, m.2));
      fault = λ f e. c.loop-taken.invariant.fault f (next_err (n - c.loop-taken.taken) (n - (c.loop-taken.taken + 1)) c.loop-taken.rest.now x after f place some (ap result_ok one.2) (going (n - (c.loop-taken.taken + 1)) c.in-Some.len c.loop-taken.rest.now (Err f) e));
    }

pub returns-then-is_empty-2 : goal.returns-then-is_empty-2
returns-then-is_empty-2 c =
    let m = c.loop-taken.invariant.more [] (empty_read (length c.args.octets.now - c.loop-taken.taken) c.loop-taken.rest.now (sym c.is_empty-2.ensures ∙ c.if-is_empty-2.true)) in
    (m.0, m.1, omega (arith, m.2, c.loop-taken.invariant.few, c.loop-taken-test.false))

pub returns-else-is_empty-2 : goal.returns-else-is_empty-2
returns-else-is_empty-2 c =
    c.loop-taken.invariant.fault Ended (too_many (length c.args.octets.now - c.loop-taken.taken) c.loop-taken.rest.now (omega (arith, c.loop-taken-test.false)) (sym c.is_empty-2.ensures ∙ c.if-is_empty-2.false))
