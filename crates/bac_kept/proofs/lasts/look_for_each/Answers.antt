use Rattle.std.proofs.Common.{◌∷◌, ◌+◌, List, drop, map, take, sym, subst, rules}
use Rattle.sqlite.specs.Effect.{Database}
use Rattle.sqlite.specs.Held.{state}
use Rattle.sqlite.proofs.StateLemmas.{survives_then}
use Rattle.bac_archive.proofs.RowsLemmas.{because}
use Rattle.bac_archive.specs.Schema.{HasArchive}
use Rattle.bac_kept.specs.Lasts.{LooksFor, LooksForEach}
use Rattle.bac_kept.specs.Shown.{Told, told_of}
use Rattle.bac_kept.proofs.LastLemmas.{as_was_twice, fails_then, looks_more}
use Rattle.bac_kept.proofs.PartsLemmas.{more_told, now_at, rest_told}
use Rattle.bac_kept.proofs.RowsLemmas.{on_err}
use Rattle.bac_kept.proofs.lasts.look_for_each.Goals as goal

pub loop-shown-preserved : goal.loop-shown-preserved
loop-shown-preserved g c =
    let old = state g.A.Store c.args.conn.now in
    let items = old.now.trees 5 in
    let it = c.in_ok-look_for.ensures in
    let shown = c.shown-item.result in
    let more = more_told c.args.logs.now c.loop-shown.shown-index shown (search rules) (search rules) in (
      λ late. c.loop-shown.invariant.0 (it.clean late),
      λ late has.
          let was = c.loop-shown.invariant.1 (it.clean late) has in
          let same = now_at g.A.Store c.args.conn.now c.loop-shown.conn was.0 in
          let schema = subst (λ (d : Database). HasArchive d.schema) (sym same) has in
          let mine = subst (λ (d : Database). LooksFor (d.trees 5) (told_of shown).log.id c.loop-shown.found.items c.look_for.new.found.items) same (it.ok late schema) in (
            as_was_twice g.A.Store c.args.conn.now c.loop-shown.conn c.look_for.new.conn was.0 (it.same late schema),
            subst (λ (l : List Told). LooksForEach items l c.args.found.now.items c.look_for.new.found.items) (sym more)
                (looks_more items (map told_of (take c.loop-shown.shown-index c.args.logs.now)) (told_of shown) c.args.found.now.items c.loop-shown.found.items c.look_for.new.found.items was.1 mine),
          ),
      λ late has.
          let clean = it.clean late in
          let schema = subst (λ (d : Database). HasArchive d.schema) (sym (now_at g.A.Store c.args.conn.now c.loop-shown.conn (c.loop-shown.invariant.1 clean has).0)) has in
          survives_then old (state g.A.Store c.loop-shown.conn) (state g.A.Store c.look_for.new.conn) _ _ _ (λ _ db none. none) (λ _ db none. none) (c.loop-shown.invariant.2 clean has) (it.crash schema),
    )

pub returns-in_err-look_for-clause-err : goal.returns-in_err-look_for-clause-err
returns-in_err-look_for-clause-err g c late has =
    let items = (state g.A.Store c.args.conn.now).now.trees 5 in
    let shown = c.shown-item.result in
    let at = c.loop-shown.shown-index in
    let was = c.loop-shown.invariant.1 (c.look_for.ensures.clean late) has in
    on_err c.from_residual.result _ (
      map told_of (take at c.args.logs.now),
      told_of shown ∷ map told_of (drop (at + 1) c.args.logs.now),
      rest_told c.args.logs.now at shown (search rules) (search rules),
      subst (λ f. LooksForEach items (map told_of (take at c.args.logs.now)) c.args.found.now.items f) (sym c.in_err-look_for.ensures.err) was.1,
    )

pub returns-in_err-look_for-clause-fault : goal.returns-in_err-look_for-clause-fault
returns-in_err-look_for-clause-fault g c late has =
    let clean = c.look_for.ensures.clean late in
    let was = c.loop-shown.invariant.1 clean has in
    let schema = subst (λ (d : Database). HasArchive d.schema) (sym (now_at g.A.Store c.args.conn.now c.loop-shown.conn was.0)) has in
    because c.from_residual.result c.in_err-look_for.field-0.0 _ (search rules)
    (fails_then _ _ c.in_err-look_for.field-0.0 (λ e why. ((told_of c.shown-item.result).log.id, c.loop-shown.conn, was.0, why)) (c.in_err-look_for.ensures.fault late schema))
