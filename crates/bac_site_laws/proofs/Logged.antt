-- Entries of a log have numbers.
use Rattle.std.proofs.Common.{◌≤◌, inr, ℕ, ◌+◌, ◌%◌, List, [], ◌∷◌, refl, sym, subst, arith}
use Rattle.bac_link.specs.Delivery.{History, Moment}
use Rattle.bac_log.specs.TrendLog.{sequence_number}
use Rattle.bac_walk.specs.declared.batch.Numbered.{Numbered}
use Rattle.bac_poll_laws.specs.Laws.{EachShownOnce}
use Rattle.bac_poll_laws.specs.Logged.{IsLogged}
use Rattle.bac_site_laws.specs.Laws.{RowsAreLogged, WasGoneBefore}
use Rattle.bac_site_laws.proofs.RowsOn.{rows_on}

shown_number : (k : ℕ) → (1 ≤ sequence_number k) × (sequence_number k ≤ 4294967295)
shown_number k = let m : ℕ = (k + 4294967294) % 4294967295 in (omega arith, omega arith)

pub logged_number : (H : History) (h : Numbered) → IsLogged H h → (1 ≤ h.number) × (h.number ≤ 4294967295)
logged_number H h (k, is, entry) =
    let X : ℕ → Type 0 = λ n. (1 ≤ n) × (n ≤ 4294967295) in subst X (sym is) (shown_number k)

pub one_gone : (moments : List Moment) → WasGoneBefore moments 1
one_gone [] = refl
one_gone (m ∷ moments) = inr (one_gone moments)

pub rows_are_logged : EachShownOnce → RowsAreLogged
rows_are_logged law = λ H moments log epoch next full p steps there stands are.
    rows_on (IsLogged H) (WasGoneBefore moments) (logged_number H) law (one_gone moments) log epoch next full p steps there stands are
