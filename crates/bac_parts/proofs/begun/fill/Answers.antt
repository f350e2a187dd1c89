use Rattle.std.proofs.Common.{◌≡◌, ◌∙◌, inl, inr, List, ℕ, rules, subst₂}
use Rattle.std.specs.String.{string_bytes}
use Rattle.sqlite.proofs.StateLemmas.{survives_weaker}
use Rattle.sqlite.specs.Held.{state}
use Rattle.bac_archive.specs.Follow.{puts_of}
use Rattle.bac_archive.specs.Making.{FailsToMake, IsMadeOf}
use Rattle.bac_archive.specs.declared.row.Put.{Put}
use Rattle.bac_parts.proofs.BegunLemmas.{if_err_so, on_ok_so}
use Rattle.bac_parts.proofs.begun.fill.Goals as goal

pub returns-clause-filled : goal.returns-clause-filled
returns-clause-filled g c clean =
    let told = c.args.told in
    let moment : c.as_str.result.now ≡ string_bytes told.made = search rules in
    let puts : c.as_slice.result.now ≡ puts_of told = c.as_slice.ensures.value ∙ c.in_ok-puts.ensures.puts in
    let new = state g.A.Store c.make.new.conn in
    on_ok_so c.make.result _ _ (λ it. subst₂ (λ (m : List ℕ) (p : List Put). IsMadeOf m new.now p) moment puts it.0) (c.make.ensures.all clean)

pub returns-clause-cause : goal.returns-clause-cause
returns-clause-cause g c clean =
    let told = c.args.told in
    let moment : c.as_str.result.now ≡ string_bytes told.made = search rules in
    let puts : c.as_slice.result.now ≡ puts_of told = c.as_slice.ensures.value ∙ c.in_ok-puts.ensures.puts in
    if_err_so c.make.result _ _ (λ e why. inr (subst₂ (λ (m : List ℕ) (p : List Put). FailsToMake g.A.Store m c.args.conn.now p e) moment puts why)) (c.make.ensures.cause clean)

pub returns-clause-crash : goal.returns-clause-crash
returns-clause-crash g c =
    let told = c.args.told in
    let moment : c.as_str.result.now ≡ string_bytes told.made = search rules in
    let puts : c.as_slice.result.now ≡ puts_of told = c.as_slice.ensures.value ∙ c.in_ok-puts.ensures.puts in
    survives_weaker (state g.A.Store c.args.conn.now) (state g.A.Store c.make.new.conn) _ _
    (λ _ trees it. (it.0, subst₂ (λ (m : List ℕ) (p : List Put). IsMadeOf m it.0 p) moment puts it.1, it.2)) c.make.ensures.crash
