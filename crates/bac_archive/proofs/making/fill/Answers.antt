use Rattle.std.proofs.Common.{arith, rules, inl, inr}
use Rattle.std.proofs.lemmas.Result.{IfErr-weaker}
use Rattle.sqlite.specs.State.{HasCleanDisk}
use Rattle.sqlite.specs.Held.{state}
use Rattle.sqlite.proofs.InsideLemmas.{keeps_then}
use Rattle.sqlite.proofs.StateLemmas.{survives_then}
use Rattle.bac_archive.proofs.AroundLemmas.{made_is}
use Rattle.bac_archive.proofs.RowsLemmas.{because}
use Rattle.bac_archive.proofs.PutLemmas.{filled}
use Rattle.bac_archive.specs.Making.{FailsToFill}
use Rattle.bac_archive.specs.Put.{GivesUp}
use Rattle.bac_archive.proofs.making.fill.Goals as goal

pub returns-clause-fills : goal.returns-clause-fills
returns-clause-fills g c clean inside none =
    let one = state g.S.Store c.lay_all.new.tx.conn.now in
    let first : HasCleanDisk one = omega (arith, clean, c.put_each.ensures.crash.clean) in
    let made = c.in_ok-lay_all.ensures.makes first inside none in
    filled c.args.made.now (state g.S.Store c.args.tx.now.conn.now) one (state g.S.Store c.put_each.new.tx.conn.now) c.args.puts.now c.put_each.result made
    (c.put_each.ensures.put clean made.mode (made_is _ made.made.schema))

pub returns-clause-kept : goal.returns-clause-kept
returns-clause-kept g c clean inside none =
    let one = state g.S.Store c.lay_all.new.tx.conn.now in
    let first : HasCleanDisk one = omega (arith, clean, c.put_each.ensures.crash.clean) in
    let made = c.in_ok-lay_all.ensures.makes first inside none in
    keeps_then (state g.S.Store c.args.tx.now.conn.now) one (state g.S.Store c.put_each.new.tx.conn.now) (c.lay_all.ensures.kept first inside none)
    (c.put_each.ensures.kept clean made.mode (made_is _ made.made.schema))

pub returns-clause-crash : goal.returns-clause-crash
returns-clause-crash g c =
    survives_then (state g.S.Store c.args.tx.now.conn.now) (state g.S.Store c.lay_all.new.tx.conn.now) (state g.S.Store c.put_each.new.tx.conn.now) _ _ _ (λ _ db none. none) (λ _ db none. none)
    c.lay_all.ensures.crash c.put_each.ensures.crash

pub returns-clause-cause : goal.returns-clause-cause
returns-clause-cause g c clean inside none =
    let one = c.lay_all.new.tx.conn.now in
    let two = c.put_each.new.tx.conn.now in
    let first : HasCleanDisk (state g.S.Store one) = omega (arith, clean, c.put_each.ensures.crash.clean) in
    let made = c.in_ok-lay_all.ensures.makes first inside none in
    IfErr-weaker c.put_each.result (GivesUp g.S.Store one two c.args.puts.now) (FailsToFill g.S.Store c.args.made.now c.args.tx.now.conn.now two c.args.puts.now)
    (λ e why. inr (one, made, why)) (c.put_each.ensures.cause clean made.mode (made_is _ made.made.schema))

pub returns-in_err-lay_all-clause-cause : goal.returns-in_err-lay_all-clause-cause
returns-in_err-lay_all-clause-cause g c clean inside none =
    because c.from_residual.result c.in_err-lay_all.field-0.0 _ (search rules) (inl (c.in_err-lay_all.ensures.cause clean inside none))
