use Rattle.std.proofs.Common.{List, ℕ, [], ◌∷◌, ◌++◌, ◌∙◌, ap, sym, subst}
use Rattle.std.proofs.lemmas.List.{take_rest}
use Rattle.bac_wire.specs.View.{view}
use Rattle.bac_query.proofs.Lines.{Covers, covers_more, covers_all, covers_no_more, covers_none, none_left, some_left}
use Rattle.bac_query.proofs.values.push_lines.Goals as goal

pub loop-rest-init : goal.loop-rest-init
loop-rest-init c = covers_none c.args.reals c.args.octets.now c.args.text.now.items

pub loop-rest-preserved : goal.loop-rest-preserved
loop-rest-preserved c =
    let rest = c.loop-rest.rest.now in
    let n = c.in-Ok.len in
    let (one, shown, grown) = c.in_ok-push_shown-in-Ok.ensures in
    covers_more c.args.reals c.args.octets.now c.args.text.now.items c.loop-rest.text.items c.extend_from_slice.new.self.items rest _ one (view c.in-Ok.value) n
    (take_rest rest n) (some_left rest (sym c.loop-rest-test.ensures)) c.in-Ok.ensures.found.1 c.in-Ok.ensures.only shown
    (c.in_ok-extend_from_slice-in-Ok.ensures.items ∙ ap (λ l. l ++ 10 ∷ []) grown) c.loop-rest.invariant

pub returns-in-Err : goal.returns-in-Err
returns-in-Err c =
    covers_no_more c.args.reals c.args.octets.now c.args.text.now.items c.loop-rest.text.items c.loop-rest.rest.now (some_left c.loop-rest.rest.now (sym c.loop-rest-test.ensures)) c.in-Err.ensures.only c.loop-rest.invariant

pub returns : goal.returns
returns c =
    let P : List ℕ → _ = λ l. Covers c.args.reals c.args.octets.now c.args.text.now.items c.loop-rest.text.items l in
    covers_all c.args.reals c.args.octets.now c.args.text.now.items c.loop-rest.text.items (subst P (none_left c.loop-rest.rest.now (sym c.loop-rest-test.ensures)) c.loop-rest.invariant)
