use Rattle.std.proofs.Common.{◌≡◌, Global, IsSomeAnd, List, Option, Some, String, rules, subst, sym, true, ℕ}
use Rattle.std.specs.String.{string_bytes}
use Rattle.sqlite_wal.specs.Files.{image_at}
use Rattle.bac_files.proofs.FileGhosts.{file_ghosts}
use Rattle.bac_parts.specs.Begun.{FailsBefore}
use Rattle.bac_parts.proofs.begun.told_before.Goals as goal

pub returns-in-Err-clause-why : goal.returns-in-Err-clause-why
returns-in-Err-clause-why g c =
    let disk = file_ghosts g.row.G g.G.Start g.G.Start-dict g.G.Destruct-dict in
    let nothing : c.args.has_nothing ≡ true = search rules in
    let there : c.args.before.now ≡ Some c.in-Some.before = search rules in
    let fails = FailsBefore disk (image_at g.G.Start) in (
      nothing,
      subst (λ (o : Option (String Global)). IsSomeAnd o (λ path. fails (string_bytes path) c.told_in.new.parts c.in-Err.why)) (sym there)
          (subst (λ (p : List ℕ). fails p c.told_in.new.parts c.in-Err.why) c.as_str.ensures.value c.in-Err.ensures.why),
    )
