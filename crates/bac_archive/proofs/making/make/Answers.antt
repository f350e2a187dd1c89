use Rattle.std.proofs.Common.{true, ◌≡◌, sym, refl, subst, arith, rules, inl, inr, IsTrue, OnOk, OnErr}
use Rattle.sqlite.specs.Tree.{Trees}
use Rattle.sqlite.specs.Effect.{Database}
use Rattle.sqlite.specs.State.{HasCleanDisk, Survives, KeepsCommit}
use Rattle.sqlite.specs.Steps.{FailsToCommit}
use Rattle.sqlite.specs.declared.error.Error.{Error}
use Rattle.sqlite.specs.Held.{state}
use Rattle.sqlite.proofs.Callers.{survives_begin}
use Rattle.bac_archive.specs.Making.{FailsToMake, FailsToFill, IsFilled, IsMadeOf}
use Rattle.bac_archive.proofs.EndLemmas.{all_there, none_there, not_there, put_well, there_or_not}
use Rattle.bac_archive.proofs.making.make.Goals as goal

pub returns-clause-all : goal.returns-clause-all
returns-clause-all g c clean =
    let old = c.args.conn.now in
    let mid = c.fill-filled.new.tx.conn.now in
    let end = c.finish.new.tx.0 in
    let begun = c.transaction-tx.ensures.begun in
    let same : end ≡ c.conn-1.given.0 = search rules in
    let late : HasCleanDisk (state g.S.Store end) = subst (λ h. HasCleanDisk (state g.S.Store h)) (sym same) clean in
    let early : HasCleanDisk (state g.S.Store mid) = omega (arith, late, c.finish.ensures.crash.clean) in
    let P = λ (db : Database). IsMadeOf c.args.made.now db c.args.puts.now in
    let there : IsFilled c.args.made.now (state g.S.Store (record old { in_transaction = true })) (state g.S.Store mid) c.args.puts.now → P (state g.S.Store mid).now = λ p. p.of_puts in
    subst (λ h. OnOk c.finish.result (P (state g.S.Store h).now × ((state g.S.Store h).committed ≡ (state g.S.Store h).now))) same
    (all_there c.fill-filled.result c.err.result c.err.ensures.value c.finish.result (state g.S.Store mid) (state g.S.Store end) P (c.finish.ensures.committed late)
    (λ none. there (put_well c.fill-filled.result c.err.result c.err.ensures.value _ (rw begun at (c.fill-filled.ensures.fills early (rw begun) (rw begun c.requires))) none)))

pub returns-clause-neither : goal.returns-clause-neither
returns-clause-neither g c clean is_open =
    let old = state g.S.Store c.args.conn.now in
    let mid = state g.S.Store c.fill-filled.new.tx.conn.now in
    let end = c.finish.new.tx.0 in
    let begun = c.transaction-tx.ensures.begun in
    let same : end ≡ c.conn-1.given.0 = search rules in
    let late : HasCleanDisk (state g.S.Store end) = subst (λ h. HasCleanDisk (state g.S.Store h)) (sym same) clean in
    let still : IsTrue (state g.S.Store end).is_open = subst (λ h. IsTrue (state g.S.Store h).is_open) (sym same) is_open in
    let early : HasCleanDisk mid = omega (arith, late, c.finish.ensures.crash.clean) in
    let k = c.fill-filled.ensures.kept early (rw begun) (rw begun c.requires) in
    let kept : KeepsCommit old mid = record { was_open = rw begun at k.was_open; committed = rw begun at k.committed } in
    let put = c.fill-filled.ensures.fills early (rw begun) (rw begun c.requires) in
    subst (λ h. OnErr c.finish.result (((state g.S.Store h).now ≡ old.now) × ((state g.S.Store h).committed ≡ old.committed))) same
    (none_there c.fill-filled.result c.err.result c.err.ensures.value c.finish.result old mid (state g.S.Store end) (c.if-not-is_autocommit.ensures.settled refl) kept
    (c.finish.ensures.undone late (λ none. (put_well c.fill-filled.result c.err.result c.err.ensures.value _ put none).mode)) still)

pub returns-clause-crash : goal.returns-clause-crash
returns-clause-crash g c =
    let old = c.args.conn.now in
    let mid = c.fill-filled.new.tx.conn.now in
    let end = c.finish.new.tx.0 in
    let begun = c.transaction-tx.ensures.begun in
    let P = λ (trees : Trees). (db : Database) × IsMadeOf c.args.made.now db c.args.puts.now × (trees ≡ db.trees) in
    let there : IsFilled c.args.made.now (state g.S.Store (record old { in_transaction = true })) (state g.S.Store mid) c.args.puts.now → IsMadeOf c.args.made.now (state g.S.Store mid).now c.args.puts.now = λ p. p.of_puts in
    let same : end ≡ c.conn-1.given.0 = search rules in
    subst (λ h. Survives (state g.S.Store old) (state g.S.Store h) P) same
    (there_or_not c.err.result (state g.S.Store old) (state g.S.Store mid) (state g.S.Store end) P
    (survives_begin g.S.Store old (state g.S.Store mid) _ (rw begun at c.fill-filled.ensures.crash)) c.finish.ensures.crash
    (λ early none. (_, there (put_well c.fill-filled.result c.err.result c.err.ensures.value _ (rw begun at (c.fill-filled.ensures.fills early (rw begun) (rw begun c.requires))) none), refl)))

pub returns-clause-cause : goal.returns-clause-cause
returns-clause-cause g c clean =
    let old = c.args.conn.now in
    let mid = c.fill-filled.new.tx.conn.now in
    let end = c.finish.new.tx.0 in
    let begun = c.transaction-tx.ensures.begun in
    let same : end ≡ c.conn-1.given.0 = search rules in
    let late : HasCleanDisk (state g.S.Store end) = subst (λ h. HasCleanDisk (state g.S.Store h)) (sym same) clean in
    let early : HasCleanDisk (state g.S.Store mid) = omega (arith, late, c.finish.ensures.crash.clean) in
    let put = rw begun at (c.fill-filled.ensures.fills early (rw begun) (rw begun c.requires)) in
    let Gives = λ (e : Error). FailsToFill g.S.Store c.args.made.now (record old { in_transaction = true }) mid c.args.puts.now e in
    not_there c.fill-filled.result c.err.result c.err.ensures.value c.finish.result Gives (FailsToCommit (state g.S.Store mid) (state g.S.Store end)) (FailsToMake g.S.Store c.args.made.now old c.args.puts.now) (c.finish.ensures.cause late)
    (rw begun at (c.fill-filled.ensures.cause early (rw begun) (rw begun c.requires))) (λ e why. inr (inl (mid, why)))
    (λ none e why. inr (inr (mid, end, put_well c.fill-filled.result c.err.result c.err.ensures.value _ put none, why)))
