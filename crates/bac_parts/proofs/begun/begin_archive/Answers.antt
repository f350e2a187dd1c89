use Rattle.std.proofs.Common.{◌≡◌, refl, rules}
use Rattle.sqlite.proofs.StateLemmas.{survives_weaker}
use Rattle.sqlite.specs.Held.{state}
use Rattle.sqlite_wal.specs.Files.{image_at}
use Rattle.bac_archive.specs.Schema.{no_schema}
use Rattle.bac_files.proofs.FileGhosts.{file_ghosts}
use Rattle.bac_parts.proofs.BegunLemmas.{begins_so, begun_as, had_nothing, if_err_so, on_ok_so}
use Rattle.bac_parts.proofs.begun.begin_archive.Goals as goal

pub begin_from-requires : goal.begin_from-requires
begin_from-requires g c =
    let disk = file_ghosts g.row.G g.G.Start g.G.Start-dict g.G.Destruct-dict in
    had_nothing disk (image_at g.G.Start) c.told_before.new.parts c.is_nothing-has_nothing.result c.args.place.now.before c.in-Ok.told _ c.in-Ok.ensures.told
    (λ nothing. let none = c.is_nothing-has_nothing.ensures.0 nothing in search rules)

pub returns-clause-archive : goal.returns-clause-archive
returns-clause-archive g c clean =
    let disk = file_ghosts g.row.G g.G.Start g.G.Start-dict g.G.Destruct-dict in
    on_ok_so c.begin_from.result _ _
    (begun_as disk (image_at g.G.Start) c.args.made.now c.told_before.new.parts (state g.A.Store c.args.conn.now).now (state g.A.Store c.begin_from.new.conn).now c.is_nothing-has_nothing.result
    c.args.place.now.before c.in-Ok.told (λ none. let there : c.schema.result.now ≡ no_schema = search rules in c.is_nothing-has_nothing.ensures.1 there) c.in-Ok.ensures.told)
    (c.begin_from.ensures.archive clean)

pub returns-clause-refused : goal.returns-clause-refused
returns-clause-refused g c =
    if_err_so c.begin_from.result _ _
    (λ why it. (c.is_nothing-has_nothing.result, c.in-Ok.told, (λ nothing. let none = c.is_nothing-has_nothing.ensures.0 nothing in search rules), c.in-Ok.ensures.told, it))
    c.begin_from.ensures.refused

pub returns-clause-crash : goal.returns-clause-crash
returns-clause-crash g c =
    let disk = file_ghosts g.row.G g.G.Start g.G.Start-dict g.G.Destruct-dict in
    survives_weaker (state g.A.Store c.args.conn.now) (state g.A.Store c.begin_from.new.conn) _ _
    (λ _ trees it. (
      it.0,
      (
        it.1.0,
        begins_so disk (image_at g.G.Start) c.args.made.now c.told_before.new.parts (state g.A.Store c.args.conn.now).now it.1.0 c.is_nothing-has_nothing.result
            c.args.place.now.before c.in-Ok.told (λ none. let there : c.schema.result.now ≡ no_schema = search rules in c.is_nothing-has_nothing.ensures.1 there) c.in-Ok.ensures.told it.1.1 it.0,
        it.1.2,
      ),
    ))
    c.begin_from.ensures.crash

pub returns-in-Err-clause-refused : goal.returns-in-Err-clause-refused
returns-in-Err-clause-refused g c =
    let it = c.in-Err.ensures.why in
    let none = c.is_nothing-has_nothing.ensures.0 it.0 in
    let empty : (state g.A.Store c.args.conn.now).now.schema ≡ no_schema = search rules in
    (empty, refl, it.1)
