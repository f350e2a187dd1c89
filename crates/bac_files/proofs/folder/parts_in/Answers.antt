use Rattle.std.proofs.Common.{List, ℕ, ◌++◌, ◌∷◌, [], refl, subst, sym}
use Rattle.std.specs.Fs.{dir_entry_name}
use Rattle.std.specs.Iterator.{Yields}
use Rattle.bac_files.specs.Parts.{AreNamed, ArePartsOf}
use Rattle.bac_files.proofs.PartsFound.{named_more, nothing}
use Rattle.bac_files.proofs.folder.parts_in.Goals as goal

pub loop-entry-init : goal.loop-entry-init
loop-entry-init g c = ([], ([], refl, refl), nothing)

pub loop-entry-preserved : goal.loop-entry-preserved
loop-entry-preserved g c =
    let (names, named, are) = c.loop-entry.invariant in
    let entry = c.in-Ok.entry in (
      names ++ dir_entry_name entry ∷ [],
      subst (λ e. AreNamed (c.loop-entry.yielded ++ e ∷ []) (names ++ dir_entry_name entry ∷ [])) (sym c.in-Ok.is)
          (named_more c.loop-entry.yielded names entry named),
      subst (λ (name : List ℕ). ArePartsOf (names ++ name ∷ []) c.and_part-found.result) c.file_name.ensures (c.and_part-found.ensures names are),
    )

pub returns-clause-found : goal.returns-clause-found
returns-clause-found g c =
    let (names, named, are) = c.loop-entry.invariant in
    let yielded = subst (λ s. Yields g.I.Iterator.next_gives s c.loop-entry.yielded c.loop-entry.entry-iterator)
    c.into_iter-entry-iterator.ensures.into_iter_gives c.loop-entry.yielded_by in
    (names, (c.loop-entry.yielded, (c.next.new.self, (c.loop-entry.entry-iterator, yielded, c.in-None.ensures.steps)), named), are)
