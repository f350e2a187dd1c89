use Rattle.std.proofs.Common.{◌∙◌, Bool, List, inl, inr, refl, ℕ, arith, subst₂}
use Rattle.sqlite.specs.Effect.{Database}
use Rattle.sqlite_wal.specs.Files.{image_at}
use Rattle.bac_files.proofs.FileGhosts.{file_ghosts}
use Rattle.bac_files.specs.Files.{IsNamed}
use Rattle.bac_parts.proofs.BegunLemmas.{ok_is}
use Rattle.bac_parts.proofs.FileLemmas.{none_closed, shut_so}
use Rattle.bac_parts.specs.Archives.{IsUnopenedAs}
use Rattle.bac_site_poller.specs.SiteLaws.{site_acts}
use Rattle.bac_historian.specs.Kept.{IsLeftFrom}
use Rattle.bac_historian.specs.Room.{in_room}
use Rattle.bac_historian.proofs.Closed.{kept_at, left_at}
use Rattle.bac_historian.proofs.files.keep_file.Goals as goal

pub returns-in-Ok-clause-runs : goal.returns-in-Ok-clause-runs
returns-in-Ok-clause-runs g c =
    let did = c.keep_over-came in
    let close = c.close-closed.ensures in
    inr (record {
      opened = c.in-Ok.conn;
      last = did.new.conn;
      is = c.in-Ok.ensures.opened;
      named = subst₂ (λ (p : List ℕ) (b : Bool). IsNamed p b c.close-closed.new.self) c.as_str.ensures.value c.may_make.ensures (close.named c.as_str.result.now c.may_make.result c.in-Ok.ensures.named);
      came = did.result;
      keeps = did.ensures.keeps;
      halts = did.ensures.halts;
      blamed = did.ensures.blamed;
      committed = did.ensures.committed;
      crash = did.ensures.crash;
      shut = c.close-closed.result;
      is_shut = shut_so did.new.conn c.args.files.now c.open_file.new.files c.close-closed.new.self c.close-closed.result c.open_file.ensures.kept close.closed close.unclosed close.failed close.unfailed;
      ends = c.ended.ensures;
    })

pub returns-in-Ok-clause-kept : goal.returns-in-Ok-clause-kept
returns-in-Ok-clause-kept g c =
    let disk = file_ghosts g.row.G g.G.Start g.G.Start-dict g.G.Destruct-dict in
    let acts = site_acts g.P.Port.sends g.P.Port.receives_within g.C.Clock.reads in
    let did = c.keep_over-came in
    ok_is _ _ _ c.ended.ensures
    (kept_at (image_at g.F.Start) c.in-Ok.conn did.new.conn c.open_file.new.files c.close-closed.new.self c.in-Ok.ensures.opened (λ honest. omega (arith, honest, did.ensures.crash.clean)) disk (image_at g.G.Start) acts
    c.args.run.now c.args.place.now did.new.parts (in_room g.W.Write.contents g.V.Write.contents c.args.room.now) (in_room g.W.Write.contents g.V.Write.contents did.new.room) did.result c.close-closed.result did.ensures.keeps
    did.ensures.committed c.close-closed.ensures.closed)

pub returns-in-Ok-clause-left : goal.returns-in-Ok-clause-left
returns-in-Ok-clause-left g c unused =
    let disk = file_ghosts g.row.G g.G.Start g.G.Start-dict g.G.Destruct-dict in
    let acts = site_acts g.P.Port.sends g.P.Port.receives_within g.C.Clock.reads in
    let did = c.keep_over-came in
    left_at (image_at g.F.Start) c.in-Ok.conn did.new.conn c.open_file.new.files c.close-closed.new.self c.in-Ok.ensures.opened (λ honest. omega (arith, honest, did.ensures.crash.clean))
    (λ (found left : Database). IsLeftFrom disk (image_at g.G.Start) acts c.args.run.now c.args.place.now.before did.new.parts (in_room g.W.Write.contents g.V.Write.contents c.args.room.now) found left.trees) c.close-closed.result
    (c.open_file.ensures.kept.0 ∙ unused) did.ensures.left c.close-closed.ensures.closed c.close-closed.ensures.unclosed

pub returns-in-Err-clause-runs : goal.returns-in-Err-clause-runs
returns-in-Err-clause-runs g c =
    inl (
      c.in-Err.why,
      refl,
      refl,
      refl,
      subst₂ (λ (p : List ℕ) (b : Bool). IsUnopenedAs p b c.open_file.new.files c.in-Err.why) c.as_str.ensures.value c.may_make.ensures c.in-Err.ensures.fault,
      c.open_file.ensures.kept.0,
      c.open_file.ensures.kept.1,
    )

pub returns-in-Err-clause-left : goal.returns-in-Err-clause-left
returns-in-Err-clause-left g c unused = none_closed c.open_file.new.files.closed _ (c.open_file.ensures.kept.0 ∙ unused)

pub returns-in-Err-clause-alone : goal.returns-in-Err-clause-alone
returns-in-Err-clause-alone g c unused = none_closed c.args.parts.now.closed _ unused
