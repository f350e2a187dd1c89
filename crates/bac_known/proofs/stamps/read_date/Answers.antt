-- Part by part.
use Rattle.std.proofs.Common.{◌∷◌, ◌++◌, refl, inl, sym, ◌∙◌}
use Rattle.bac_print.specs.Moments.{part_text}
use Rattle.bac_known.proofs.ReadBack.{day_is, year_split}
use Rattle.bac_known.proofs.stamps.read_date.Goals as goal

pub returns-in_err-digits : goal.returns-in_err-digits
returns-in_err-digits c d all is =
    let cut = rw c.in_err-digits.was at (year_split 45 d.year c.args.text.now (part_text d.month ++ (45 ∷ part_text d.day)) c.split_once.result c.split_once.ensures.cases (inl refl) all.0 (is ∙ day_is d)) in
    absurd cut

pub returns-in_err-year : goal.returns-in_err-year
returns-in_err-year c d all is =
    let cut = rw c.in_ok-digits.was at (year_split 45 d.year c.args.text.now (part_text d.month ++ (45 ∷ part_text d.day)) c.split_once.result c.split_once.ensures.cases (inl refl) all.0 (is ∙ day_is d)) in
    let none = sym c.in_err-year.was ∙ c.read_year.ensures d.year all.0 cut.0 in absurd cc

pub returns-in_err-month : goal.returns-in_err-month
returns-in_err-month c d all is =
    let cut = rw c.in_ok-digits.was at (year_split 45 d.year c.args.text.now (part_text d.month ++ (45 ∷ part_text d.day)) c.split_once.result c.split_once.ensures.cases (inl refl) all.0 (is ∙ day_is d)) in
    let month = rw c.in_err-month.was at (c.part_before.ensures d.month (part_text d.day) all.1 cut.1) in
    absurd month

pub returns-in_err-read_part : goal.returns-in_err-read_part
returns-in_err-read_part c d all is =
    let cut = rw c.in_ok-digits.was at (year_split 45 d.year c.args.text.now (part_text d.month ++ (45 ∷ part_text d.day)) c.split_once.result c.split_once.ensures.cases (inl refl) all.0 (is ∙ day_is d)) in
    let month = rw c.in_ok-month.was at (c.part_before.ensures d.month (part_text d.day) all.1 cut.1) in
    let none = sym c.in_err-read_part.was ∙ c.read_part.ensures d.day all.2 month.1 in absurd cc

pub returns : goal.returns
returns c d all is =
    let cut = rw c.in_ok-digits.was at (year_split 45 d.year c.args.text.now (part_text d.month ++ (45 ∷ part_text d.day)) c.split_once.result c.split_once.ensures.cases (inl refl) all.0 (is ∙ day_is d)) in
    let month = rw c.in_ok-month.was at (c.part_before.ensures d.month (part_text d.day) all.1 cut.1) in
    let year = sym c.in_ok-year.was ∙ c.read_year.ensures d.year all.0 cut.0 in
    let day = sym c.in_ok-read_part.was ∙ c.read_part.ensures d.day all.2 month.1 in
    let first = month.0 in
    cc
