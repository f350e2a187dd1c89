use Rattle.std.proofs.Common.{◌≡◌, rules, subst, sym}
use Rattle.bac_keeper.proofs.keeping.keep_opened.Goals as goal

closed_so : {S P : Type 0} (closes : S → P → S → Type 0) (between new : S) (found last : P) → found ≡ last → closes between found new → closes between last new
closed_so {P = P} closes between new found last same closed = let P' : P → Type 0 = λ port. closes between port new in subst P' same closed

pub returns-in-Ok-clause-runs : goal.returns-in-Ok-clause-runs
returns-in-Ok-clause-runs g c =
    let same = sym c.keep_file-came.ensures.room.port in (
      c.in-Ok.port,
      c.open.new.self,
      c.keep_file-came.new.room.port.now,
      c.in-Ok.ensures,
      record {
        runs = c.keep_file-came.ensures.runs;
        kept = c.keep_file-came.ensures.kept;
        left = c.keep_file-came.ensures.left;
      },
      closed_so g.S.Sockets.closes c.open.new.self c.close.new.self _ c.keep_file-came.new.room.port.now (search (rules, same)) c.close.ensures,
    )
