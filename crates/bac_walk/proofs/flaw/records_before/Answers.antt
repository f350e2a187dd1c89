use Rattle.std.proofs.Common.{◌≡◌, ℕ, suc, ◌+◌, ◌-◌, List, length, drop, Ok, Err, refl, ap, arith}
use Rattle.std.proofs.lemmas.List.{take_all, length-drop}
use Rattle.bac_wire.specs.declared.fault.WireFault.{WireFault}
use Rattle.bac_log.specs.declared.entry.Entry.{Entry}
use Rattle.bac_log.specs.RecordReading.{entry_at}
use Rattle.bac_walk.specs.Flaws.{one_more, records_before}
use Rattle.bac_walk.proofs.flaw.records_before.Goals as goal

none_left : (n : ℕ) (rest : List ℕ) → n ≡ 0 → records_before n rest ≡ 0
unfolding records_before
none_left n rest is = rw is refl

none_here : (n most : ℕ) (rest : List ℕ) (fault : WireFault) → n ≡ suc most → entry_at rest ≡ Err fault → records_before n rest ≡ 0
unfolding records_before
none_here n most rest fault is read = rw is (ap (one_more (records_before most)) read)

one_here : (n most : ℕ) (rest after : List ℕ) (entry : Entry) → n ≡ suc most → entry_at rest ≡ Ok (entry, after) →
    records_before n rest ≡ suc (records_before most after)
unfolding records_before
one_here n most rest after entry is read = rw is (ap (one_more (records_before most)) read)

none_yet : (n : ℕ) (octets : List ℕ) → 0 + records_before (n - 0) octets ≡ records_before n octets
none_yet n octets =
    let all : n - 0 ≡ n = omega arith in
    let same = ap (λ k. records_before k octets) all in
    omega (arith, same)

pub loop-taken-init : goal.loop-taken-init
loop-taken-init c = record { few = omega arith; all = none_yet (length c.args.octets.now) c.args.octets.now }

pub returns-in-None : goal.returns-in-None
returns-in-None c =
    let n : ℕ = length c.args.octets.now in
    let none = c.in-None.ensures {u = tt} in
    let here = none_here (n - c.loop-taken.taken) (n - (c.loop-taken.taken + 1)) c.loop-taken.rest.now none.0 (omega (arith, c.loop-taken-test.true)) none.1 in
    record { records = omega (arith, here, c.loop-taken.invariant.all); few = c.loop-taken.invariant.few }

pub loop-taken-preserved : goal.loop-taken-preserved
loop-taken-preserved c =
    let n : ℕ = length c.args.octets.now in
    let one = c.in-Some.ensures {u = tt} in
    let rest = c.loop-taken.rest.now in
    let after = drop c.in-Some.len rest in
    let here = one_here (n - c.loop-taken.taken) (n - (c.loop-taken.taken + 1)) rest after one.0 (omega (arith, c.loop-taken-test.true)) one.2 in
    let same = ap (records_before (n - (c.loop-taken.taken + 1))) (take_all (length rest - c.in-Some.len) after (omega (arith, length-drop c.in-Some.len rest))) in
    record {
      few = omega (arith, c.loop-taken-test.true);
      all = omega (arith, here, same, c.loop-taken.invariant.all);
    }

pub returns : goal.returns
returns c =
    let n : ℕ = length c.args.octets.now in
    let none = none_left (n - c.loop-taken.taken) c.loop-taken.rest.now (omega (arith, c.loop-taken-test.false)) in
    record { records = omega (arith, none, c.loop-taken.invariant.all, c.loop-taken.invariant.few, c.loop-taken-test.false); few = omega arith }
