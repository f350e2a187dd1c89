use Rattle.std.proofs.Common.{◌≡◌, ℕ, Bool, suc, ◌+◌, ◌-◌, List, Some, None, length, inl, inr, refl, sym, ap, subst, ◌∙◌, arith}
use Rattle.bac_log.specs.declared.entry.Entry.{Entry}
use Rattle.bac_log.specs.RecordReading.{entries_at}
use Rattle.bac_walk.specs.Sinks.{PutAll}
use Rattle.bac_walk.specs.Spelled.{spelled}
use Rattle.bac_walk.specs.Walks.{with_numbers}
use Rattle.bac_walk.proofs.Spellings.{left_none, left_some, left_last}
use Rattle.bac_walk.proofs.sink.put_all.Goals as goal

pub loop-taken-init : goal.loop-taken-init
loop-taken-init g c = (
  spelled c.args.octets.now,
  ap (λ n. entries_at n c.args.octets.now) (omega arith) ∙ c.requires.read,
  λ refused new put. put,
)

pub returns-in_default : goal.returns-in_default
returns-in_default g c =
    let m = c.loop-taken.invariant in
    let none = left_none (length c.args.octets.now - c.loop-taken.taken) c.loop-taken.rest.now m.0 (c.in_default.ensures {u = tt}) m.1 in
    let P : List Entry → Type 0 = λ es. PutAll g.S.Sink.puts c.loop-taken.sink c.loop-taken.before (with_numbers c.loop-taken.number es) None c.loop-taken.sink in
    m.2 None c.loop-taken.sink (subst P (sym none) (refl, refl))

pub returns : goal.returns
returns g c =
    let m = c.loop-taken.invariant in
    let none = left_last (length c.args.octets.now - c.loop-taken.taken) c.loop-taken.rest.now m.0 (omega (arith, c.loop-taken-test.false)) m.1 in
    let P : List Entry → Type 0 = λ es. PutAll g.S.Sink.puts c.loop-taken.sink c.loop-taken.before (with_numbers c.loop-taken.number es) None c.loop-taken.sink in
    m.2 None c.loop-taken.sink (subst P (sym none) (refl, refl))

pub returns-then-not-put : goal.returns-then-not-put
returns-then-not-put g c =
    let m = c.loop-taken.invariant in
    let n : ℕ = length c.args.octets.now in
    let place : n - c.loop-taken.taken ≡ suc (n - (c.loop-taken.taken + 1)) = omega (arith, c.loop-taken-test.true) in
    let more = left_some (n - c.loop-taken.taken) (n - (c.loop-taken.taken + 1)) c.loop-taken.rest.now c.in-Some.entry c.in-Some.after.now m.0 place (c.in-Some.ensures {u = tt}) m.1 in
    let P : List Entry → Type 0 = λ es. PutAll g.S.Sink.puts c.loop-taken.sink c.loop-taken.before (with_numbers c.loop-taken.number es) (Some c.loop-taken.number) c.put.new.self in
    let Q : Bool → Type 0 = λ b. g.S.Sink.puts c.loop-taken.sink c.loop-taken.before (record { number = c.loop-taken.number; entry = c.in-Some.entry }) b c.put.new.self in
    m.2 (Some c.loop-taken.number) c.put.new.self (subst P (sym more.1) (inl (subst Q c.if-not-put.true c.put.ensures, refl)))

pub loop-taken-preserved : goal.loop-taken-preserved
loop-taken-preserved g c =
    let m = c.loop-taken.invariant in
    let n : ℕ = length c.args.octets.now in
    let place : n - c.loop-taken.taken ≡ suc (n - (c.loop-taken.taken + 1)) = omega (arith, c.loop-taken-test.true) in
    let more = left_some (n - c.loop-taken.taken) (n - (c.loop-taken.taken + 1)) c.loop-taken.rest.now c.in-Some.entry c.in-Some.after.now m.0 place (c.in-Some.ensures {u = tt}) m.1 in
    let Q : Bool → Type 0 = λ b. g.S.Sink.puts c.loop-taken.sink c.loop-taken.before (record { number = c.loop-taken.number; entry = c.in-Some.entry }) b c.put.new.self in (
      more.0,
      more.2,
      λ refused new put.
          let P : List Entry → Type 0 = λ es. PutAll g.S.Sink.puts c.loop-taken.sink c.loop-taken.before (with_numbers c.loop-taken.number es) refused new in
          let R : ℕ → Type 0 = λ n. PutAll g.S.Sink.puts c.put.new.self None (with_numbers n more.0) refused new in
          m.2 refused new (subst P (sym more.1) (inr (c.put.new.self, subst Q c.if-not-put.false c.put.ensures, subst R c.number_after-number.ensures put))),
    )
