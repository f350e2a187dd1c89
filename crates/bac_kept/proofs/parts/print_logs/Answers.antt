use Rattle.std.proofs.Common.{◌++◌, ◌+◌, List, drop, map, take, sym, subst, rules}
use Rattle.std.specs.List.{Contains}
use Rattle.std.proofs.KnownBytes.{Appends-trans}
use Rattle.sqlite.specs.Effect.{Database}
use Rattle.sqlite.specs.Held.{state}
use Rattle.sqlite.proofs.StateLemmas.{survives_then}
use Rattle.bac_archive.proofs.RowsLemmas.{because}
use Rattle.bac_archive.specs.Schema.{HasArchive}
use Rattle.bac_kept.specs.Parts.{HasFront, PrintsLog, PrintsLogs, PrintsSome}
use Rattle.bac_kept.specs.Shown.{Told, told_of}
use Rattle.bac_kept.proofs.PartsLemmas.{as_was_then, logs_more, more_told, now_at, rest_told, some_more, some_there}
use Rattle.bac_kept.proofs.RowsLemmas.{behind_first, ends_then, on_err}
use Rattle.bac_kept.proofs.parts.print_logs.Goals as goal

pub loop-shown-preserved : goal.loop-shown-preserved
loop-shown-preserved g c =
    let old = state g.A.Store c.args.conn.now in
    let items = old.now.trees 5 in
    let it = c.in_ok-print_log.ensures in
    let shown = c.shown-item.result in
    let words = c.args.words.now in
    let more = more_told c.args.all.now c.loop-shown.shown-index shown (search rules) (search rules) in (
      λ late. c.loop-shown.invariant.0 (it.clean late),
      λ late has.
          let was = c.loop-shown.invariant.1 (it.clean late) has in
          let same = now_at g.A.Store c.args.conn.now c.loop-shown.conn was.0 in
          let schema = subst (λ (d : Database). HasArchive d.schema) (sym same) has in
          let one = it.ok late schema in
          let mine = subst (λ (d : Database). PrintsLog words c.args.heads (told_of shown) (d.trees 5) c.loop-shown.seen one.0 c.print_log.new.seen) same one.1 in (
            as_was_then g.A.Store c.args.conn.now c.loop-shown.conn c.print_log.new.conn was.0 (it.same late schema),
            was.1 ++ one.0,
            subst (λ (l : List Told). PrintsLogs words c.args.heads l items c.args.seen.now (was.1 ++ one.0) c.print_log.new.seen) (sym more)
                (logs_more words c.args.heads items (map told_of (take c.loop-shown.shown-index c.args.all.now)) (told_of shown) c.args.seen.now c.loop-shown.seen c.print_log.new.seen was.1 one.0 was.2 mine),
            Appends-trans (g.O.Write.contents c.args.output.now) (g.O.Write.contents c.loop-shown.output) (g.O.Write.contents c.print_log.new.output) was.1 one.0 was.3 one.2,
          ),
      λ late has.
          let clean = it.clean late in
          let schema = subst (λ (d : Database). HasArchive d.schema) (sym (now_at g.A.Store c.args.conn.now c.loop-shown.conn (c.loop-shown.invariant.1 clean has).0)) has in
          survives_then old (state g.A.Store c.loop-shown.conn) (state g.A.Store c.print_log.new.conn) _ _ _ (λ _ db none. none) (λ _ db none. none) (c.loop-shown.invariant.2 clean has) (it.crash schema),
    )

pub returns-in_err-print_log-clause-err : goal.returns-in_err-print_log-clause-err
returns-in_err-print_log-clause-err g c late has =
    let items = (state g.A.Store c.args.conn.now).now.trees 5 in
    let shown = c.shown-item.result in
    let words = c.args.words.now in
    let at = c.loop-shown.shown-index in
    let clean = c.print_log.ensures.clean late in
    let was = c.loop-shown.invariant.1 clean has in
    let same = now_at g.A.Store c.args.conn.now c.loop-shown.conn was.0 in
    let schema = subst (λ (d : Database). HasArchive d.schema) (sym same) has in
    let one = c.in_err-print_log.ensures.err late schema in
    let mine = subst (λ (d : Database). HasFront words c.args.heads (told_of shown) (d.trees 5) c.loop-shown.seen one.0) same one.1 in
    on_err c.from_residual.result _ (
      was.1 ++ one.0,
      subst (λ (l : List Told). PrintsSome words c.args.heads l items c.args.seen.now (was.1 ++ one.0)) (sym (rest_told c.args.all.now at shown (search rules) (search rules)))
          (some_more words c.args.heads items (map told_of (take at c.args.all.now)) (map told_of (drop (at + 1) c.args.all.now)) (told_of shown) c.args.seen.now c.loop-shown.seen was.1 one.0 was.2 mine),
      behind_first (g.O.Write.contents c.args.output.now) (g.O.Write.contents c.loop-shown.output) (g.O.Write.contents c.print_log.new.output) was.1 one.0 was.3 one.2,
    )

pub returns-in_err-print_log-clause-fault : goal.returns-in_err-print_log-clause-fault
returns-in_err-print_log-clause-fault g c late has =
    let shown = c.shown-item.result in
    let at = c.loop-shown.shown-index in
    let clean = c.print_log.ensures.clean late in
    let was = c.loop-shown.invariant.1 clean has in
    let schema = subst (λ (d : Database). HasArchive d.schema) (sym (now_at g.A.Store c.args.conn.now c.loop-shown.conn was.0)) has in
    let there = subst (λ (l : List Told). Contains l (told_of shown)) (sym (rest_told c.args.all.now at shown (search rules) (search rules)))
    (some_there (map told_of (take at c.args.all.now)) (map told_of (drop (at + 1) c.args.all.now)) (told_of shown)) in
    because c.from_residual.result c.in_err-print_log.field-0.0 _ (search rules)
    (ends_then _ _ c.in_err-print_log.field-0.0 (λ e why. (told_of shown, there, (c.loop-shown.conn, was.0, why))) (c.in_err-print_log.ensures.fault late schema))
