use Rattle.std.proofs.Common.{◌≡◌, ◌∙◌, inl, inr, refl, subst}
use Rattle.sqlite.specs.Effect.{Database}
use Rattle.sqlite.specs.Held.{state}
use Rattle.sqlite.proofs.StateLemmas.{survives_then}
use Rattle.bac_archive.specs.Archive.{IsArchive}
use Rattle.bac_archive.specs.Stands.{StandsAs}
use Rattle.bac_parts.proofs.ArchiveLemmas.{still_committed, unchanged_twice}
use Rattle.bac_parts.proofs.begun.told_of.Goals as goal

pub returns-in-Ok-stands-clause-told : goal.returns-in-Ok-stands-clause-told
returns-in-Ok-stands-clause-told g c clean =
    let old = state g.A.Store c.args.conn.now in
    let mid = state g.A.Store c.take_archive.new.conn in
    let new = state g.A.Store c.stands.new.conn in
    let taken = c.in-Ok.ensures.archive (c.stands.ensures.clean clean) in
    let same : mid.now ≡ old.now = taken.1.0.now_is in (
      subst IsArchive same taken.0,
      subst (λ (d : Database). StandsAs d.trees c.in-Ok-stands.told) same (c.in-Ok-stands.ensures.stands clean),
      unchanged_twice old mid new taken.1 (c.in-Ok-stands.ensures.same clean),
    )

pub returns-in-Ok-stands-clause-alone : goal.returns-in-Ok-stands-clause-alone
returns-in-Ok-stands-clause-alone g c clean held was =
    let taken = c.in-Ok.ensures.archive (c.stands.ensures.clean clean) in
    still_committed (state g.A.Store c.take_archive.new.conn) (state g.A.Store c.stands.new.conn) (c.stands.ensures.left clean) held ∙ taken.1.0.committed_is

pub returns-in-Err-stands-clause-alone : goal.returns-in-Err-stands-clause-alone
returns-in-Err-stands-clause-alone g c clean held was =
    let taken = c.in-Ok.ensures.archive (c.stands.ensures.clean clean) in
    still_committed (state g.A.Store c.take_archive.new.conn) (state g.A.Store c.stands.new.conn) (c.stands.ensures.left clean) held ∙ taken.1.0.committed_is

pub returns-in-Err-clause-alone : goal.returns-in-Err-clause-alone
returns-in-Err-clause-alone g c clean held was = (c.in-Err.ensures.left clean held).1

pub returns-in-Ok-stands-clause-crash : goal.returns-in-Ok-stands-clause-crash
returns-in-Ok-stands-clause-crash g c =
    survives_then (state g.A.Store c.args.conn.now) (state g.A.Store c.take_archive.new.conn) (state g.A.Store c.stands.new.conn) (λ _. ⊥) (λ _. ⊥) (λ _. ⊥)
    (λ _ trees it. it) (λ _ trees it. it) c.take_archive.ensures.crash c.stands.ensures.crash

pub returns-in-Err-stands-clause-crash : goal.returns-in-Err-stands-clause-crash
returns-in-Err-stands-clause-crash g c =
    survives_then (state g.A.Store c.args.conn.now) (state g.A.Store c.take_archive.new.conn) (state g.A.Store c.stands.new.conn) (λ _. ⊥) (λ _. ⊥) (λ _. ⊥)
    (λ _ trees it. it) (λ _ trees it. it) c.take_archive.ensures.crash c.stands.ensures.crash

pub returns-in-Err-stands-clause-why : goal.returns-in-Err-stands-clause-why
returns-in-Err-stands-clause-why g c =
    inr (
      c.in-Err-stands.error,
      refl,
      λ clean.
          let taken = c.in-Ok.ensures.archive (c.stands.ensures.clean clean) in
          (c.take_archive.new.conn, taken.0, taken.1, c.in-Err-stands.ensures.cause clean),
    )

pub returns-in-Err-clause-why : goal.returns-in-Err-clause-why
returns-in-Err-clause-why g c = inl c.in-Err.ensures.refused
