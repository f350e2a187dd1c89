use Rattle.std.proofs.Common.{◌≡◌, [], sym, subst, ◌∙◌}
use Rattle.sqlite.specs.Held.{state}
use Rattle.bac_archive.specs.Put.{IsPut}
use Rattle.bac_archive.proofs.PutLemmas.{put_nothing}
use Rattle.bac_drive.proofs.Leaving.{is_none}
use Rattle.bac_keeping.proofs.naming.put_any.Goals as goal

pub returns-then-is_empty-clause-told : goal.returns-then-is_empty-clause-told
returns-then-is_empty-clause-told g c clean =
    let db = (state g.S.Store c.args.conn.now).now in
    let empty : c.args.puts.now ≡ [] = is_none c.args.puts.now (sym c.is_empty.ensures ∙ c.if-is_empty.true) in
    (subst (IsPut db db) (sym empty) (put_nothing db), c.requires.told clean)
