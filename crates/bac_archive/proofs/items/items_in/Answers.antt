use Rattle.std.proofs.Common.{refl, arith}
use Rattle.sqlite.specs.Held.{state}
use Rattle.bac_archive.proofs.AskLemmas.{if_ok}
use Rattle.bac_archive.proofs.ItemsLemmas.{on_err_then, refused_items}
use Rattle.bac_archive.proofs.ItemsLemmas.{begins_items, items_commit_nothing}
use Rattle.bac_archive.proofs.items.items_in.Goals as goal

pub returns : goal.returns
returns g c =
    let are = c.bound_for-count.ensures.values in
    let asks = c.text_of.ensures in (
      (
        refl,
        c.query.follows.holds,
        on_err_then c.query.result _ _ c.query.follows.holds-at-none
            (λ it. refused_items g.S.Store c.args.range _ _ c.args.conn.now c.query.follows.lender-at-none c.query.result asks are it),
      ),
      record {
        refused = tt;
        same_reference = c.query.ensures.same_reference;
        begun = if_ok c.query.result _ _ c.query.ensures.begun
            (λ rows begun clean has. begins_items g.S.Store c.args.range _ _ c.args.conn.now rows.conn.now asks are has (begun clean));
        crash = if_ok c.query.result _ _ c.query.ensures.survives
            (λ rows kept has. items_commit_nothing c.args.range _ _ (state g.S.Store c.args.conn.now) (state g.S.Store rows.conn.now) asks has kept);
        clean = if_ok c.query.result _ _ c.query.ensures.survives (λ rows kept clean. omega (arith, kept.clean, clean));
      },
    )
