use Rattle.std.proofs.Common.{◌≡◌, ◌∙◌, inl, inr, refl, ap, sym, subst, map, rules}
use Rattle.sqlite.specs.Effect.{Database}
use Rattle.sqlite.specs.State.{HasCleanDisk}
use Rattle.sqlite.specs.Held.{state}
use Rattle.sqlite.proofs.StateLemmas.{survives_then}
use Rattle.bac_archive.specs.Schema.{HasArchive}
use Rattle.bac_archive.proofs.AskLemmas.{as_was_behind}
use Rattle.bac_archive.proofs.RowsLemmas.{because}
use Rattle.bac_kept.specs.Parts.{PrintsLogs, PrintsSome}
use Rattle.bac_kept.specs.Shown.{shown_logs, told_of}
use Rattle.bac_kept.proofs.PartsLemmas.{any_is, front_is, left_behind_same, part_is, same_behind_same}
use Rattle.bac_kept.proofs.RowsLemmas.{ends_then, on_err}
use Rattle.bac_kept.proofs.parts.print_part.Goals as goal

pub returns-in-Err-clause-fault : goal.returns-in-Err-clause-fault
returns-in-Err-clause-fault g c clean = inr (c.in-Err.error, refl, inl (c.in-Err.ensures.cause clean (c.requires (c.read_known.ensures.clean clean))))

pub returns-clause-ok : goal.returns-clause-ok
returns-clause-ok g c clean =
    let old = state g.A.Store c.args.conn.now in
    let mid = state g.A.Store c.read_known.new.conn in
    let late : HasCleanDisk mid = c.print_logs.ensures.clean clean in
    let has = c.requires (c.read_known.ensures.clean late) in
    let same = (c.in-Ok.ensures.same late has).0.now_is in
    let schema = subst (λ (d : Database). HasArchive d.schema) (sym same) has in
    let one = c.in_ok-print_logs.ensures.ok clean schema in
    let all = c.as_slice-all.result.now in
    let known = c.in-Ok.known in
    let words = c.args.words.now in
    let are : map told_of all ≡ shown_logs known words.choice = ap (map told_of) c.as_slice-all.ensures.value ∙ c.in-Ok-shown_logs.ensures in
    let mine = subst (λ (d : Database). PrintsLogs words c.has_heads-heads.result (map told_of all) (d.trees 5) c.args.seen.now one.0 c.print_logs.new.seen) same one.1 in (
      known,
      c.in-Ok.ensures.known late has,
      any_is words known all are c.is_empty.result c.is_empty.ensures,
      one.0,
      part_is words old.now.trees known all c.has_heads-heads.result are c.has_heads-heads.ensures c.args.seen.now c.print_logs.new.seen one.0 mine,
      one.2,
    )

pub returns-clause-same : goal.returns-clause-same
returns-clause-same g c clean =
    let late : HasCleanDisk (state g.A.Store c.read_known.new.conn) = c.print_logs.ensures.clean clean in
    let has = c.requires (c.read_known.ensures.clean late) in
    let same = c.in-Ok.ensures.same late has in
    let schema = subst (λ (d : Database). HasArchive d.schema) (sym same.0.now_is) has in
    same_behind_same g.A.Store c.args.conn.now c.read_known.new.conn c.print_logs.new.conn same (c.in_ok-print_logs.ensures.same clean schema)

pub returns-clause-left : goal.returns-clause-left
returns-clause-left g c clean =
    let late : HasCleanDisk (state g.A.Store c.read_known.new.conn) = c.print_logs.ensures.clean clean in
    let has = c.requires (c.read_known.ensures.clean late) in
    let same = c.in-Ok.ensures.same late has in
    let schema = subst (λ (d : Database). HasArchive d.schema) (sym same.0.now_is) has in
    left_behind_same g.A.Store c.args.conn.now c.read_known.new.conn c.print_logs.new.conn same (c.print_logs.ensures.left clean schema)

pub returns-in_err-print_logs-clause-left : goal.returns-in_err-print_logs-clause-left
returns-in_err-print_logs-clause-left g c clean =
    let late : HasCleanDisk (state g.A.Store c.read_known.new.conn) = c.print_logs.ensures.clean clean in
    let has = c.requires (c.read_known.ensures.clean late) in
    let same = c.in-Ok.ensures.same late has in
    let schema = subst (λ (d : Database). HasArchive d.schema) (sym same.0.now_is) has in
    left_behind_same g.A.Store c.args.conn.now c.read_known.new.conn c.print_logs.new.conn same (c.print_logs.ensures.left clean schema)

pub returns-in_err-print_logs-clause-err : goal.returns-in_err-print_logs-clause-err
returns-in_err-print_logs-clause-err g c clean =
    let old = state g.A.Store c.args.conn.now in
    let mid = state g.A.Store c.read_known.new.conn in
    let late : HasCleanDisk mid = c.print_logs.ensures.clean clean in
    let has = c.requires (c.read_known.ensures.clean late) in
    let same = (c.in-Ok.ensures.same late has).0.now_is in
    let schema = subst (λ (d : Database). HasArchive d.schema) (sym same) has in
    let one = c.in_err-print_logs.ensures.err clean schema in
    let all = c.as_slice-all.result.now in
    let known = c.in-Ok.known in
    let words = c.args.words.now in
    let are : map told_of all ≡ shown_logs known words.choice = ap (map told_of) c.as_slice-all.ensures.value ∙ c.in-Ok-shown_logs.ensures in
    let mine = subst (λ (d : Database). PrintsSome words c.has_heads-heads.result (map told_of all) (d.trees 5) c.args.seen.now one.0) same one.1 in
    on_err c.from_residual.result _
    (one.0, front_is words old.now.trees known all c.has_heads-heads.result are c.has_heads-heads.ensures c.args.seen.now one.0 (c.in-Ok.ensures.known late has) mine, one.2)

pub returns-in_err-print_logs-clause-fault : goal.returns-in_err-print_logs-clause-fault
returns-in_err-print_logs-clause-fault g c clean =
    let late : HasCleanDisk (state g.A.Store c.read_known.new.conn) = c.print_logs.ensures.clean clean in
    let has = c.requires (c.read_known.ensures.clean late) in
    let same = c.in-Ok.ensures.same late has in
    let schema = subst (λ (d : Database). HasArchive d.schema) (sym same.0.now_is) has in
    because c.from_residual.result c.in_err-print_logs.field-0.0 _ (search rules)
    (ends_then _ _ c.in_err-print_logs.field-0.0
    (λ e why. inr (why.0.log.id, (why.2.0, as_was_behind g.A.Store c.args.conn.now c.read_known.new.conn why.2.0 same why.2.1, why.2.2)))
    (c.in_err-print_logs.ensures.fault clean schema))

pub returns-clause-crash : goal.returns-clause-crash
returns-clause-crash g c clean =
    let late : HasCleanDisk (state g.A.Store c.read_known.new.conn) = c.print_logs.ensures.clean clean in
    let has = c.requires (c.read_known.ensures.clean late) in
    let same = c.in-Ok.ensures.same late has in
    let schema = subst (λ (d : Database). HasArchive d.schema) (sym same.0.now_is) has in
    survives_then (state g.A.Store c.args.conn.now) (state g.A.Store c.read_known.new.conn) (state g.A.Store c.print_logs.new.conn) _ _ _ (λ _ db none. none) (λ _ db none. none)
    (c.read_known.ensures.crash c.requires) (c.print_logs.ensures.crash clean schema)

pub returns-in_err-print_logs-clause-crash : goal.returns-in_err-print_logs-clause-crash
returns-in_err-print_logs-clause-crash g c clean =
    let late : HasCleanDisk (state g.A.Store c.read_known.new.conn) = c.print_logs.ensures.clean clean in
    let has = c.requires (c.read_known.ensures.clean late) in
    let same = c.in-Ok.ensures.same late has in
    let schema = subst (λ (d : Database). HasArchive d.schema) (sym same.0.now_is) has in
    survives_then (state g.A.Store c.args.conn.now) (state g.A.Store c.read_known.new.conn) (state g.A.Store c.print_logs.new.conn) _ _ _ (λ _ db none. none) (λ _ db none. none)
    (c.read_known.ensures.crash c.requires) (c.print_logs.ensures.crash clean schema)
