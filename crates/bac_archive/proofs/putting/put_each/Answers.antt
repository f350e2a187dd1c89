use Rattle.std.proofs.Common.{◌≡◌, ◌++◌, [], rules, arith, refl, sym, ap, subst, ◌∙◌, append_assoc, append-nil, false}
use Rattle.std.proofs.lemmas.List.{nil_from_length}
use Rattle.sqlite.specs.State.{HasCleanDisk}
use Rattle.sqlite.specs.Held.{state}
use Rattle.sqlite.proofs.StateLemmas.{survives_then}
use Rattle.sqlite.proofs.InsideLemmas.{keeps_then, inside_keeps}
use Rattle.bac_archive.specs.Put.{AreAtOnce, Puts, GivesUp}
use Rattle.bac_archive.proofs.RowsLemmas.{because, stays}
use Rattle.bac_archive.proofs.PutLemmas.{puts_nothing, puts_these, puts_then}
use Rattle.bac_archive.proofs.AroundLemmas.{has_still}
use Rattle.bac_archive.proofs.putting.put_each.Goals as goal

pub loop-behind-init : goal.loop-behind-init
loop-behind-init g c =
    (refl, λ clean inside has. ([], refl, puts_nothing (state g.S.Store c.args.tx.now.conn.now) inside), stays (state g.S.Store c.args.tx.now.conn.now), λ clean inside has. record { was_open = λ h. h; committed = λ _. refl })

pub returns-in_err-put_these-clause-crash : goal.returns-in_err-put_these-clause-crash
returns-in_err-put_these-clause-crash g c =
    survives_then (state g.S.Store c.args.tx.now.conn.now) (state g.S.Store c.loop-behind.tx.conn.now) (state g.S.Store c.put_these.new.tx.conn.now) _ _ _ (λ _ db none. none) (λ _ db none. none)
    c.loop-behind.invariant.2 c.put_these.ensures.crash

pub loop-behind-preserved : goal.loop-behind-preserved
loop-behind-preserved g c = (
  c.put_these.ensures.same_reference ∙ c.loop-behind.invariant.0,
  λ clean inside has.
      let old = state g.S.Store c.args.tx.now.conn.now in
      let mid = state g.S.Store c.loop-behind.tx.conn.now in
      let new = state g.S.Store c.put_these.new.tx.conn.now in
      let these = c.split_at.result.0.now in
      let more = c.split_at.result.1.now in
      let was = c.loop-behind.invariant.1 (omega (arith, c.put_these.ensures.crash.clean)) inside has in
      let at_once : AreAtOnce these = subst AreAtOnce (sym c.split_at.ensures.front) c.at_once.ensures.so_many in
      let some = puts_these these mid new _ at_once (has_still _ _ has was.2.put.schema) (c.in_ok-put_these.ensures.runs clean was.2.mode) in
      (was.0 ++ these, was.1 ∙ ap (λ r. was.0 ++ r) c.split_at.ensures.by_index.0 ∙ sym (append_assoc was.0 these more), puts_then old mid new _ _ was.2 some),
  survives_then (state g.S.Store c.args.tx.now.conn.now) (state g.S.Store c.loop-behind.tx.conn.now) (state g.S.Store c.put_these.new.tx.conn.now) _ _ _ (λ _ db none. none) (λ _ db none. none)
      c.loop-behind.invariant.2 c.put_these.ensures.crash,
  λ clean inside has.
      let mid = state g.S.Store c.loop-behind.tx.conn.now in
      let new = state g.S.Store c.put_these.new.tx.conn.now in
      let early : HasCleanDisk mid = omega (arith, c.put_these.ensures.crash.clean) in
      keeps_then (state g.S.Store c.args.tx.now.conn.now) mid new (c.loop-behind.invariant.3 early inside has)
      (inside_keeps mid new 0 false _ _ c.put_these.result (c.put_these.ensures.runs clean (c.loop-behind.invariant.1 early inside has).2.mode)),
)

pub returns-clause-put : goal.returns-clause-put
returns-clause-put g c clean inside has =
    let was = c.loop-behind.invariant.1 clean inside has in
    let none : c.loop-behind.behind.now ≡ [] = nil_from_length _ (search rules) in
    let all : c.args.puts.now ≡ was.0 = was.1 ∙ ap (λ r. was.0 ++ r) none ∙ append-nil was.0 in
    subst (Puts (state g.S.Store c.args.tx.now.conn.now) (state g.S.Store c.loop-behind.tx.conn.now)) (sym all) was.2

pub returns-clause-kept : goal.returns-clause-kept
returns-clause-kept g c = c.loop-behind.invariant.3

pub returns-in_err-put_these-clause-kept : goal.returns-in_err-put_these-clause-kept
returns-in_err-put_these-clause-kept g c clean inside has =
    let mid = state g.S.Store c.loop-behind.tx.conn.now in
    let new = state g.S.Store c.put_these.new.tx.conn.now in
    let early : HasCleanDisk mid = omega (arith, c.put_these.ensures.crash.clean) in
    keeps_then (state g.S.Store c.args.tx.now.conn.now) mid new (c.loop-behind.invariant.3 early inside has)
    (inside_keeps mid new 0 false _ _ c.put_these.result (c.put_these.ensures.runs clean (c.loop-behind.invariant.1 early inside has).2.mode))

pub returns-in_err-put_these-clause-cause : goal.returns-in_err-put_these-clause-cause
returns-in_err-put_these-clause-cause g c clean inside has =
    let early : HasCleanDisk (state g.S.Store c.loop-behind.tx.conn.now) = omega (arith, c.put_these.ensures.crash.clean) in
    let was = c.loop-behind.invariant.1 early inside has in
    let it : GivesUp g.S.Store c.args.tx.now.conn.now c.put_these.new.tx.conn.now c.args.puts.now c.in_err-put_these.field-0.0 =
    record {
      before = was.0;
      these = c.split_at.result.0.now;
      behind = c.split_at.result.1.now;
      at = was.1 ∙ ap (λ r. was.0 ++ r) c.split_at.ensures.by_index.0 ∙ sym (append_assoc was.0 _ _);
      mid = c.loop-behind.tx.conn.now;
      done = was.2;
      why = c.in_err-put_these.ensures.runs clean was.2.mode;
    } in
    because c.from_residual.result c.in_err-put_these.field-0.0 _ (search rules) it
