use Rattle.std.proofs.Common.{◌≡◌, inl, inr, refl, rules, None}
use Rattle.sqlite.specs.Held.{state}
use Rattle.sqlite.proofs.StateLemmas.{survives_weaker}
use Rattle.sqlite_wal.specs.Files.{image_at}
use Rattle.bac_archive.specs.Schema.{no_schema}
use Rattle.bac_files.proofs.FileGhosts.{file_ghosts}
use Rattle.bac_keeping.proofs.Untouched.{has_some}
use Rattle.bac_historian.proofs.Remains.{follows_one, on_ok_two}
use Rattle.bac_historian.proofs.ready.make_ready.Goals as goal

pub returns-then-is_none-clause-ready : goal.returns-then-is_none-clause-ready
returns-then-is_none-clause-ready g c clean = inl (refl, λ none. search rules)

pub returns-then-not-is_nothing-clause-ready : goal.returns-then-not-is_nothing-clause-ready
returns-then-not-is_nothing-clause-ready g c clean =
    inl (refl, λ none. absurd (has_some c.is_nothing.result c.schema.result.now (state g.A.Store c.args.conn.now).now.schema c.schema.ensures.value c.if-not-is_nothing.true c.is_nothing.ensures none))

pub returns-clause-ready : goal.returns-clause-ready
returns-clause-ready g c clean =
    let disk = file_ghosts g.row.G g.G.Start g.G.Start-dict g.G.Destruct-dict in
    let some : c.args.place.now.before ≡ None → ⊥ = search rules in
    let none : (state g.A.Store c.args.conn.now).now.schema ≡ no_schema = search rules in
    on_ok_two c.begin_archive.result _ _ _
    (λ begun committed. inr (
      follows_one disk (image_at g.G.Start) c.args.made.now c.args.place.now.before c.begin_archive.new.parts (state g.A.Store c.args.conn.now).now (state g.A.Store c.begin_archive.new.conn).now some none (begun.begins none),
      committed,
    ))
    (c.begin_archive.ensures.archive clean) (c.begin_archive.ensures.committed clean)

pub returns-clause-crash : goal.returns-clause-crash
returns-clause-crash g c =
    let disk = file_ghosts g.row.G g.G.Start g.G.Start-dict g.G.Destruct-dict in
    let some : c.args.place.now.before ≡ None → ⊥ = search rules in
    survives_weaker (state g.A.Store c.args.conn.now) (state g.A.Store c.begin_archive.new.conn) _ _
    (λ clean trees it. (it.1.0, follows_one disk (image_at g.G.Start) c.args.made.now c.args.place.now.before c.begin_archive.new.parts (state g.A.Store c.args.conn.now).now it.1.0 some it.0 it.1.1, it.1.2))
    c.begin_archive.ensures.crash
