use Rattle.std.proofs.Common.{◌≡◌, ◌∙◌, rules, inl, inr, subst₂, Result, Ok, Err, OnOk, List, ℕ}
use Rattle.std.specs.String.{string_bytes}
use Rattle.sqlite.specs.Held.{state}
use Rattle.sqlite.proofs.StateLemmas.{survives_weaker}
use Rattle.bac_archive.specs.Follow.{FailsToFollow, puts_of}
use Rattle.bac_archive.specs.Making.{FailsToMake, IsMadeOf}
use Rattle.bac_archive.specs.declared.row.Put.{Put}
use Rattle.bac_archive.proofs.RowsLemmas.{because, if_err}
use Rattle.bac_archive.proofs.following.follow_on.Goals as goal

on_ok_then : {A E : Type 0} (r : Result A E) (X Y : Type 0) → OnOk r X → (X → Y) → OnOk r Y
on_ok_then (Ok a) X Y h f = f h
on_ok_then (Err e) X Y h f = tt

pub returns-in_err-told-clause-cause : goal.returns-in_err-told-clause-cause
returns-in_err-told-clause-cause g c first clean =
    because c.from_residual.result c.in_err-told.field-0.0 _ (search rules) (inl (c.in_err-told.ensures.cause clean))

pub returns-clause-all : goal.returns-clause-all
returns-clause-all g c clean second =
    let told = c.in_ok-told.told in
    let moment : c.as_str.result.now ≡ string_bytes told.made = search rules in
    let puts : c.as_slice.result.now ≡ puts_of told = c.as_slice.ensures.value ∙ c.in_ok-puts.ensures.puts in
    let new = state g.A.Store c.make.new.conn in
    on_ok_then c.make.result _ _ (c.make.ensures.all clean)
    (λ it. ((told, c.in_ok-told.ensures.stands second, subst₂ (λ (m : List ℕ) (p : List Put). IsMadeOf m new.now p) moment puts it.0), it.1))

pub returns-clause-part_crash : goal.returns-clause-part_crash
returns-clause-part_crash g c second =
    let told = c.in_ok-told.told in
    let moment : c.as_str.result.now ≡ string_bytes told.made = search rules in
    let puts : c.as_slice.result.now ≡ puts_of told = c.as_slice.ensures.value ∙ c.in_ok-puts.ensures.puts in
    survives_weaker (state g.A.Store c.args.part.now) (state g.A.Store c.make.new.conn) _ _
    (λ _ trees it. (it.0, (told, c.in_ok-told.ensures.stands second, subst₂ (λ (m : List ℕ) (p : List Put). IsMadeOf m it.0 p) moment puts it.1), it.2)) c.make.ensures.crash

pub returns-clause-cause : goal.returns-clause-cause
returns-clause-cause g c clean second =
    let told = c.in_ok-told.told in
    let moment : c.as_str.result.now ≡ string_bytes told.made = search rules in
    let puts : c.as_slice.result.now ≡ puts_of told = c.as_slice.ensures.value ∙ c.in_ok-puts.ensures.puts in
    if_err c.make.result _ (FailsToFollow g.A.Store g.B.Store c.args.part.now c.args.archive.now c.stands.new.conn) (c.make.ensures.cause clean)
    (λ e why. inr (inr (told, c.in_ok-told.ensures.stands second, subst₂ (λ (m : List ℕ) (p : List Put). FailsToMake g.A.Store m c.args.part.now p e) moment puts why)))
