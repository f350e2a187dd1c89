use Rattle.std.proofs.Common.{◌≡◌, ◌+◌, ◌-◌, ◌++◌, ◌∷◌, ◌∙◌, [], ap, ap₂, map, sym, arith}
use Rattle.std.specs.List.{range_with_len}
use Rattle.std.specs.String.{string_bytes}
use Rattle.std.proofs.lemmas.List.{map-append}
use Rattle.bac_files.specs.Parts.{part_path}
use Rattle.bac_files.proofs.PartsFound.{no_paths, one_path}
use Rattle.bac_files.proofs.folder.paths_of.Goals as goal

pub loop-number-init : goal.loop-number-init
loop-number-init c = (
  ap (map string_bytes) c.new-paths.ensures.items ∙ sym (no_paths c.args.folder.now c.args.least),
  omega (arith, c.requires.order),
)

pub loop-number-preserved : goal.loop-number-preserved
loop-number-preserved c = (
  ap (map string_bytes) c.in_ok-push.ensures.items ∙ map-append string_bytes c.loop-number.paths.items (c.in_ok-part_path.field-0 ∷ [])
      ∙ ap₂ (λ all path. all ++ path ∷ []) c.loop-number.invariant.0 c.in_ok-part_path.ensures
      ∙ sym (one_path c.args.folder.now c.args.least c.loop-number.number c.loop-number.auto.number),
  omega (arith, c.loop-number-test.true),
)

pub returns : goal.returns
returns c =
    let all : c.loop-number.number ≡ c.args.greatest + 1 = omega (arith, c.loop-number-test.false, c.loop-number.invariant.1) in
    c.loop-number.invariant.0 ∙ ap (λ n. map (part_path c.args.folder.now) (range_with_len c.args.least (n - c.args.least))) all
