use Rattle.std.proofs.Common.{◌≡◌, IsTrue, Result, Ok, Err, OnOk, OnErr, sym, ◌∙◌}
use Rattle.std.proofs.lemmas.Result.{on_ok_weaker}
use Rattle.sqlite.specs.Held.{state}
use Rattle.sqlite.specs.State.{HasCleanDisk, State}
use Rattle.bac_archive.specs.declared.opening.Refused.{Refused}
use Rattle.bac_drive.specs.Happens.{StaysSettled}
use Rattle.bac_keeping.proofs.Opened.{opened_at, refused_as}
use Rattle.bac_keeping.proofs.opening.open_at.Goals as goal

pub returns-clause-opened : goal.returns-clause-opened
returns-clause-opened g c clean =
    opened_at c.open.result c.args.moment.now (state g.S.Store c.args.conn.now) (state g.S.Store c.open.new.conn) (c.open.ensures.same clean) c.open.ensures.taken (c.open.ensures.made clean)

pub returns-clause-archive : goal.returns-clause-archive
returns-clause-archive g c clean = on_ok_weaker c.open.result (λ it. it.schema) (c.open.ensures.archive clean)

pub returns-clause-refused : goal.returns-clause-refused
returns-clause-refused g c clean =
    refused_as g.S.Store c.args.moment.now c.args.conn.now c.open.new.conn c.open.result c.open.ensures.why (c.open.ensures.cause clean) (c.open.ensures.left clean)

settled_by : (r : Result (Unit {0}) Refused) (old new : State) → (HasCleanDisk new → OnOk r (new.committed ≡ new.now))
    → (HasCleanDisk new → IsTrue new.is_open → OnErr r ((new.now ≡ old.now) × (new.committed ≡ old.committed))) → StaysSettled old new r
settled_by (Ok done) old new all neither = λ clean was. all clean
settled_by (Err why) old new all neither = λ clean was is_open. let it = neither clean is_open in it.1 ∙ was ∙ sym it.0

pub returns-clause-settled : goal.returns-clause-settled
returns-clause-settled g c =
    settled_by c.open.result (state g.S.Store c.args.conn.now) (state g.S.Store c.open.new.conn) c.open.ensures.committed c.open.ensures.left
