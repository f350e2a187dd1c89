use Rattle.std.proofs.Common.{true, false, ◌≡◌, ℕ, length, Result, Ok, Err, sym, ap, subst, ◌∙◌, arith}
use Rattle.std.proofs.lemmas.Bool.{or_parts}
use Rattle.bac_wire.specs.Primitive.{Id}
use Rattle.bac_walk.specs.Place.{WalkPlace}
use Rattle.bac_walk.specs.declared.outcome.Step.{Step}
use Rattle.bac_walk.specs.declared.outcome.WalkFault.{WalkFault}
use Rattle.bac_log.specs.TrendLog.{sequence_number}
use Rattle.bac_link.specs.Delivery.{later}
use Rattle.bac_link.specs.Laws.{after_answers}
use Rattle.bac_walk.specs.Collects.{asks_next, FoundTurn, FoundStep, MissingTurn, MissingStep, Collected, finished, step_items, step_ended, is_fresh_after, our_log, started_at, losses_of, yield}
use Rattle.bac_walk.specs.Turned.{IsTurned}
use Rattle.bac_walk.proofs.Steps.{first_at, asked, second_at}
use Rattle.bac_walk.specs.Replied.{progress_of, step_of}
use Rattle.bac_walk.proofs.Goes.{step_goes, nothing_goes, moved_goes}
use Rattle.bac_walk.specs.declared.outcome.Progress.{Progress}
use Rattle.bac_walk.specs.declared.outcome.Progress.TheVariants.{Batch as BatchOf, AskOldest, CaughtUp as IsUp}
use Rattle.std.specs.Prelude.{OnErr}
use Rattle.bac_walk.proofs.Told.{told_first, told_second, turn_same}
use Rattle.bac_walk.proofs.Transacted.{brought_first, brought_second, brought_plain}
use Rattle.bac_link.specs.Path.{towards}
use Rattle.bac_walk.proofs.walk.Walk.reply.Goals as goal

kept : (p : Result Progress WalkFault) (before after : WalkPlace) (next : ℕ) → before.next ≡ next → OnErr p (after ≡ before) →
    OnErr (finished p) (after.next ≡ next)
kept (Ok (BatchOf b)) before after next is h = h
kept (Ok AskOldest) before after next is h = h
kept (Ok IsUp) before after next is h = h
kept (Err e) before after next is h = ap (λ (v : WalkPlace). v.next) h ∙ is

found_turn : (p : Result Progress WalkFault) → FoundTurn p → FoundStep (finished p)
found_turn (Ok (BatchOf b)) h = h
found_turn (Ok AskOldest) h = h
found_turn (Ok IsUp) h = h
found_turn (Err e) h = h

found_step : (p : Result Progress WalkFault) (z : Result Step WalkFault) → z ≡ finished p → FoundTurn p → FoundStep z
found_step p z is h = let P : Result Step WalkFault → Type 0 = λ x. FoundStep x in subst P (sym is) (found_turn p h)

missing_turn : (p : Result Progress WalkFault) → MissingTurn p → MissingStep (finished p)
missing_turn (Ok p) h = absurd h
missing_turn (Err e) h = h

missing_step : (p : Result Progress WalkFault) (z : Result Step WalkFault) → z ≡ finished p → MissingTurn p → MissingStep z
missing_step p z is h = let P : Result Step WalkFault → Type 0 = λ x. MissingStep x in subst P (sym is) (missing_turn p h)

no_more : (p : Result Progress WalkFault) → asks_next p ≡ true → MissingTurn p → ⊥
no_more (Ok p) asks h = h
no_more (Err e) asks h = absurd (cc)

pub returns-then-not-asks_next-clause-ours : goal.returns-then-not-asks_next-clause-ours
returns-then-not-asks_next-clause-ours g c r M H s ours next near =
    let log : c.restart.new.self.log ≡ c.args.self.now.log = ap (λ (v : WalkPlace). v.log) c.restart.ensures in
    let P : Id → Type 0 = λ n. g.L.LogLink.is_ours c.args.link.now n r M H in
    let shown : c.restart.new.self.next ≡ sequence_number s = ap (λ (v : WalkPlace). v.next) c.restart.ensures ∙ next in
    let fresh : c.restart.new.self.fresh ≡ c.args.self.now.fresh = ap (λ (v : WalkPlace). v.fresh) c.restart.ensures in
    let done = first_at (λ N. g.L.LogLink.is_ours c.turn-first.new.link c.restart.new.self.log r N H) r H M s
    c.args.self.now c.restart.new.self c.args.transactions.now.retries (g.L.LogLink.failures c.args.link.now) (g.L.LogLink.failures c.turn-first.new.link) (progress_of c.turn-first.result) c.turn-first.new.self next c.restart.ensures
    (c.turn-first.ensures.ours r M H s (subst P (sym log) ours) shown (λ old. (near (sym fresh ∙ old)).0)) (cc) in
    let Q : Result Step WalkFault → Type 0 = λ z. Collected (our_log r M H) (started_at c.args.self.now.count c.args.self.now.fresh s) 1 (losses_of c.args.transactions.now.retries (g.L.LogLink.failures c.args.link.now) (g.L.LogLink.failures c.turn-first.new.link)) (yield (step_items z) (step_ended z)) done.1 done.0 in
    let R : Id → Type 0 = λ n. g.L.LogLink.is_ours c.turn-first.new.link n r (after_answers (length done.0) M) H in
    let S : Result Step WalkFault → Type 0 = λ s. c.turn-first.new.self.fresh ≡ is_fresh_after c.args.self.now.fresh s in
    (done.0, done.1, done.2, subst Q (sym c.finished.ensures) done.3, subst R log done.4, subst S (sym c.finished.ensures) done.5)

pub returns-clause-fault : goal.returns-clause-fault
returns-clause-fault g c =
    let next : c.turn-first.new.self.next ≡ c.args.self.now.next =
    c.turn-first.ensures.asks (cc) ∙ ap (λ (v : WalkPlace). v.next) c.restart.ensures in
    let P : Result Step WalkFault → Type 0 = λ s. OnErr s (c.turn.new.self.next ≡ c.args.self.now.next) in
    subst P (sym c.finished-2.ensures) (kept _ _ _ _ next c.turn.ensures.fault)

pub returns-clause-ours : goal.returns-clause-ours
returns-clause-ours g c r M H s ours next near =
    let log : c.restart.new.self.log ≡ c.args.self.now.log = ap (λ (v : WalkPlace). v.log) c.restart.ensures in
    let logs : c.turn-first.new.self.log ≡ c.args.self.now.log = c.turn-first.ensures.log ∙ log in
    let P : Id → Type 0 = λ n. g.L.LogLink.is_ours c.args.link.now n r M H in
    let shown : c.restart.new.self.next ≡ sequence_number s = ap (λ (v : WalkPlace). v.next) c.restart.ensures ∙ next in
    let fresh : c.restart.new.self.fresh ≡ c.args.self.now.fresh = ap (λ (v : WalkPlace). v.fresh) c.restart.ensures in
    let first = asked (λ N. g.L.LogLink.is_ours c.turn-first.new.link c.restart.new.self.log r N H) r H M s
    c.args.self.now c.restart.new.self c.args.transactions.now.retries (g.L.LogLink.failures c.args.link.now) (g.L.LogLink.failures c.turn-first.new.link) (progress_of c.turn-first.result) c.turn-first.new.self c.restart.ensures
    (c.turn-first.ensures.ours r M H s (subst P (sym log) ours) shown (λ old. (near (sym fresh ∙ old)).0)) (cc) in
    let shown_next : c.turn-first.new.self.next ≡ sequence_number s = c.turn-first.ensures.asks (cc) ∙ shown in
    let U : Id → Type 0 = λ n. g.L.LogLink.is_ours c.turn-first.new.link n r (later M) H in
    let V : ℕ → Type 0 = λ n. IsTurned (λ N. g.L.LogLink.is_ours c.turn.new.link c.turn-first.new.self.log r N H) (our_log r (later M) H) s c.turn-first.new.self (losses_of n (g.L.LogLink.failures c.turn-first.new.link) (g.L.LogLink.failures c.turn.new.link)) (progress_of c.turn.result) c.turn.new.self in
    let done = second_at (λ N. g.L.LogLink.is_ours c.turn.new.link c.turn-first.new.self.log r N H) r H M s
    c.args.self.now c.turn-first.new.self c.args.transactions.now.retries (g.L.LogLink.failures c.args.link.now)
    (g.L.LogLink.failures c.turn-first.new.link) (g.L.LogLink.failures c.turn.new.link) (progress_of c.turn.result) c.turn.new.self
    next (g.met.L.LogLink.serves c.args.link.now c.args.self.now.log r M H ours)
    first.0 (omega (arith, c.count-count.ensures.count, c.count-count.ensures.bounds.some)) first.1 c.turn-first.ensures.never_falls first.2
    (subst V c.turn-first.ensures.retries (c.turn.ensures.ours r (later M) H s (subst U (sym c.turn-first.ensures.log) first.3) shown_next
    (λ old. (near (or_parts c.args.self.now.fresh false first.0).0).1 first.1))) in
    let Q : Result Step WalkFault → Type 0 = λ z. Collected (our_log r M H) (started_at c.args.self.now.count c.args.self.now.fresh s) 1 (losses_of c.args.transactions.now.retries (g.L.LogLink.failures c.args.link.now) (g.L.LogLink.failures c.turn.new.link)) (yield (step_items z) (step_ended z)) done.1 done.0 in
    let R : Id → Type 0 = λ n. g.L.LogLink.is_ours c.turn.new.link n r (after_answers (length done.0) M) H in
    let S : Result Step WalkFault → Type 0 = λ s. c.turn.new.self.fresh ≡ is_fresh_after c.args.self.now.fresh s in
    (done.0, done.1, done.2, subst Q (sym c.finished-2.ensures) done.3, subst R logs done.4, subst S (sym c.finished-2.ensures) done.5)

pub returns-then-not-asks_next-clause-goes : goal.returns-then-not-asks_next-clause-goes
returns-then-not-asks_next-clause-goes g c s =
    moved_goes c.args.self.now.fresh c.restart.new.self.fresh c.args.self.now.next c.restart.new.self.next s _ c.turn-first.new.self.fresh c.turn-first.new.self.next
    (ap (λ (v : WalkPlace). v.next) c.restart.ensures) (ap (λ (v : WalkPlace). v.fresh) c.restart.ensures)
    (step_goes c.restart.new.self.fresh c.restart.new.self.next s (progress_of c.turn-first.result) _ c.turn-first.new.self.fresh c.turn-first.new.self.next
    c.finished.ensures (c.turn-first.ensures.goes s))

pub returns-clause-goes : goal.returns-clause-goes
returns-clause-goes g c s =
    let none = nothing_goes c.restart.new.self.fresh c.restart.new.self.next s (progress_of c.turn-first.result) c.turn-first.new.self.fresh c.turn-first.new.self.next
    (cc) (c.turn-first.ensures.goes s) in
    moved_goes c.args.self.now.fresh c.turn-first.new.self.fresh c.args.self.now.next c.turn-first.new.self.next s _ c.turn.new.self.fresh c.turn.new.self.next
    (none.0 ∙ ap (λ (v : WalkPlace). v.next) c.restart.ensures) (none.1 ∙ ap (λ (v : WalkPlace). v.fresh) c.restart.ensures)
    (step_goes c.turn-first.new.self.fresh c.turn-first.new.self.next s (progress_of c.turn.result) _ c.turn.new.self.fresh c.turn.new.self.next
    c.finished-2.ensures (c.turn.ensures.goes s))

pub returns-clause-answered : goal.returns-clause-answered
returns-clause-answered g c r M H s sure ours next near =
    let log : c.restart.new.self.log ≡ c.args.self.now.log = ap (λ (v : WalkPlace). v.log) c.restart.ensures in
    let P : Id → Type 0 = λ n. g.L.LogLink.is_ours c.args.link.now n r M H in
    let shown : c.restart.new.self.next ≡ sequence_number s = ap (λ (v : WalkPlace). v.next) c.restart.ensures ∙ next in
    let fresh : c.restart.new.self.fresh ≡ c.args.self.now.fresh = ap (λ (v : WalkPlace). v.fresh) c.restart.ensures in
    let first = asked (λ N. g.L.LogLink.is_ours c.turn-first.new.link c.restart.new.self.log r N H) r H M s
    c.args.self.now c.restart.new.self c.args.transactions.now.retries (g.L.LogLink.failures c.args.link.now) (g.L.LogLink.failures c.turn-first.new.link) (progress_of c.turn-first.result) c.turn-first.new.self c.restart.ensures
    (c.turn-first.ensures.ours r M H s (subst P (sym log) ours) shown (λ old. (near (sym fresh ∙ old)).0)) (cc) in
    let U : Id → Type 0 = λ n. g.L.LogLink.is_ours c.turn-first.new.link n r (later M) H in
    found_step (progress_of c.turn.result) (step_of c.finished-2.result) c.finished-2.ensures
    (c.turn.ensures.answered r (later M) H (c.turn-first.ensures.sure sure) (subst U (sym c.turn-first.ensures.log) first.3))

pub returns-then-not-asks_next-clause-answered : goal.returns-then-not-asks_next-clause-answered
returns-then-not-asks_next-clause-answered g c r M H s sure ours next near =
    let P : Id → Type 0 = λ n. g.L.LogLink.is_ours c.args.link.now n r M H in
    let log : c.restart.new.self.log ≡ c.args.self.now.log = ap (λ (v : WalkPlace). v.log) c.restart.ensures in
    found_step (progress_of c.turn-first.result) (step_of c.finished.result) c.finished.ensures
    (c.turn-first.ensures.answered r M H sure (subst P (sym log) ours))

pub returns-then-not-asks_next-clause-lacking : goal.returns-then-not-asks_next-clause-lacking
returns-then-not-asks_next-clause-lacking g c lacks =
    let P : Id → Type 0 = λ n. g.L.LogLink.lacks c.args.link.now n in
    let Q : Id → Type 0 = λ n. g.L.LogLink.lacks c.turn-first.new.link n in
    let log : c.restart.new.self.log ≡ c.args.self.now.log = ap (λ (v : WalkPlace). v.log) c.restart.ensures in
    let both = c.turn-first.ensures.lacking (subst P (sym log) lacks) in
    (missing_step (progress_of c.turn-first.result) (step_of c.finished.result) c.finished.ensures both.0, subst Q log both.1)

pub returns-then-not-asks_next-clause-refused : goal.returns-then-not-asks_next-clause-refused
returns-then-not-asks_next-clause-refused g c lacks sure =
    let P : Id → Type 0 = λ n. g.L.LogLink.lacks c.args.link.now n in
    let log : c.restart.new.self.log ≡ c.args.self.now.log = ap (λ (v : WalkPlace). v.log) c.restart.ensures in
    found_step (progress_of c.turn-first.result) (step_of c.finished.result) c.finished.ensures ((c.turn-first.ensures.lacking (subst P (sym log) lacks)).2 sure)

pub returns-clause-lacking : goal.returns-clause-lacking
returns-clause-lacking g c lacks =
    let P : Id → Type 0 = λ n. g.L.LogLink.lacks c.args.link.now n in
    let log : c.restart.new.self.log ≡ c.args.self.now.log = ap (λ (v : WalkPlace). v.log) c.restart.ensures in
    absurd (no_more (progress_of c.turn-first.result) (cc) (c.turn-first.ensures.lacking (subst P (sym log) lacks)).0)

pub returns-clause-refused : goal.returns-clause-refused
returns-clause-refused g c lacks sure =
    let P : Id → Type 0 = λ n. g.L.LogLink.lacks c.args.link.now n in
    let log : c.restart.new.self.log ≡ c.args.self.now.log = ap (λ (v : WalkPlace). v.log) c.restart.ensures in
    absurd (no_more (progress_of c.turn-first.result) (cc) (c.turn-first.ensures.lacking (subst P (sym log) lacks)).0)

pub returns-then-not-asks_next-clause-told : goal.returns-then-not-asks_next-clause-told
returns-then-not-asks_next-clause-told g c =
    told_first g.L.LogLink.asks (towards c.args.transactions.now.route) c.args.transactions.now.retries c.restart.new.self (progress_of c.turn-first.result)
    (step_of c.finished.result) c.turn-first.new.self c.turn-first.new.link c.finished.ensures (cc) c.turn-first.ensures.told

pub returns-clause-told : goal.returns-clause-told
returns-clause-told g c =
    told_second g.L.LogLink.asks (towards c.args.transactions.now.route) c.args.transactions.now.retries c.restart.new.self (progress_of c.turn-first.result)
    c.turn-first.new.self c.turn-first.new.link (progress_of c.turn.result) (step_of c.finished-2.result) c.turn.new.self c.turn.new.link
    c.finished-2.ensures (cc) c.turn-first.ensures.told
    (turn_same g.L.LogLink.asks (towards c.args.transactions.now.route) (towards c.turn-first.new.transactions.route) c.args.transactions.now.retries c.turn-first.new.transactions.retries
    c.turn-first.new.self (progress_of c.turn.result) c.turn.new.self c.turn.new.link (ap towards c.turn-first.ensures.route) c.turn-first.ensures.retries c.turn.ensures.told)

pub returns-then-not-asks_next-clause-transacted : goal.returns-then-not-asks_next-clause-transacted
returns-then-not-asks_next-clause-transacted g c =
    brought_first g.L.LogLink.asks c.args.transactions.now c.args.link.now c.args.self.now c.restart.new.self
    (progress_of c.turn-first.result) (step_of c.finished.result) c.turn-first.new.self c.turn-first.new.transactions c.turn-first.new.link c.restart.ensures c.finished.ensures (cc)
    c.turn-first.ensures.came c.turn-first.ensures.begins

pub returns-clause-transacted : goal.returns-clause-transacted
returns-clause-transacted g c =
    brought_second g.L.LogLink.asks c.args.transactions.now c.turn-first.new.transactions c.args.link.now c.args.self.now c.restart.new.self
    (progress_of c.turn-first.result) c.turn-first.new.self c.turn-first.new.link (progress_of c.turn.result) (step_of c.finished-2.result) c.turn.new.self c.turn.new.transactions c.turn.new.link
    c.restart.ensures c.finished-2.ensures (cc) c.turn-first.ensures.came c.turn-first.ensures.begins c.turn.ensures.came c.turn.ensures.begins

pub returns-then-not-asks_next-clause-brought : goal.returns-then-not-asks_next-clause-brought
unfolding returns-then-not-asks_next-clause-transacted
returns-then-not-asks_next-clause-brought g c =
    let run = returns-then-not-asks_next-clause-transacted g c in (
      run.0,
      brought_plain g.L.LogLink.asks c.args.transactions.now c.turn-first.new.transactions c.args.link.now c.turn-first.new.link c.args.self.now c.turn-first.new.self 1
          run.0 (step_items (step_of c.finished.result)) (step_ended (step_of c.finished.result)) run.1,
    )

pub returns-clause-brought : goal.returns-clause-brought
unfolding returns-clause-transacted
returns-clause-brought g c =
    let run = returns-clause-transacted g c in (
      run.0,
      brought_plain g.L.LogLink.asks c.args.transactions.now c.turn.new.transactions c.args.link.now c.turn.new.link c.args.self.now c.turn.new.self 1
          run.0 (step_items (step_of c.finished-2.result)) (step_ended (step_of c.finished-2.result)) run.1,
    )
