-- What is printed of logs, with one more.
use Rattle.std.proofs.Common.{◌≡◌, inl, inr, refl, sym, ap, subst, ◌∙◌, ℕ, suc, ◌+◌, ◌<◌, ◌==◌, nat_lt, not, Bool, List, [], ◌∷◌, ◌++◌, append_assoc, append-nil, length, get_or, take, drop, map, Option, arith}
use Rattle.std.specs.List.{Contains}
use Rattle.std.proofs.lemmas.Bool.{lt-ltb, ne_eqb}
use Rattle.std.proofs.lemmas.List.{length-map, map-append, take-append-drop}
use Rattle.sqlite_value.specs.Order.{Row as Values}
use Rattle.sqlite_trees.specs.declared.store.Store.{Ghosts}
use Rattle.sqlite.specs.State.{IsUnchanged}
use Rattle.sqlite.specs.Held.{Held, state}
use Rattle.sqlite.proofs.Callers.{unchanged_then}
use Rattle.bac_archive.specs.Ask.{IsAsWas, IsLeft}
use Rattle.bac_archive.proofs.AskLemmas.{left_then}
use Rattle.bac_kept.specs.Faults.{IsLeftAs}
use Rattle.sqlite_trees.specs.Tree.{Trees}
use Rattle.bac_archive.specs.Items.{AreItems}
use Rattle.bac_archive.specs.Known.{IsKnown}
use Rattle.bac_archive.specs.declared.known.Known.{Known}
use Rattle.bac_archive.specs.declared.items.Range.{Range}
use Rattle.bac_kept.specs.Items.{Manner, PrintsFirst, PrintsRows}
use Rattle.bac_kept.specs.Parts.{HasFront, PrintsFront, PrintsLog, PrintsLogs, PrintsPart, PrintsSome}
use Rattle.bac_kept.specs.Shown.{Told, has_heads, shown_logs, told_of}
use Rattle.bac_kept.specs.declared.seen.Newest.{Newest}
use Rattle.bac_kept.specs.declared.shown.ShownLog.{ShownLog}
use Rattle.bac_kept.proofs.ShownLemmas.{take_one}
use Rattle.bac_kept.specs.declared.seen.Seen.{Seen}
use Rattle.bac_kept.specs.declared.words.Words.{Words}

module _ (words : Words) (heads : Bool) (items : List Values) where
  -- the text of one log more
  pub logs_more : (logs : List Told) (told : Told) (seen mid new : Seen) (text one : List _) → PrintsLogs words heads logs items seen text mid → PrintsLog words heads told items mid one new
      → PrintsLogs words heads (logs ++ told ∷ []) items seen (text ++ one) new
  logs_more [] told seen mid new text one all it =
      (one, [], new, ap (λ l. l ++ one) all.0 ∙ sym (append-nil one), subst (λ s. PrintsLog words heads told items s one new) all.1 it, (refl, refl))
  logs_more (l ∷ logs) told seen mid new text one all it =
      (all.0, all.1 ++ one, all.2, ap (λ x. x ++ one) all.3 ∙ append_assoc all.0 all.1 one, all.4, logs_more logs told all.2 mid new all.1 one all.5 it)

  -- or a front of it
  pub some_more : (logs more : List Told) (told : Told) (seen mid : Seen) (text one : List _) → PrintsLogs words heads logs items seen text mid → HasFront words heads told items mid one
      → PrintsSome words heads (logs ++ told ∷ more) items seen (text ++ one)
  some_more [] more told seen mid text one all it =
      inl (subst (λ t. HasFront words heads told items seen (t ++ one)) (sym all.0) (subst (λ s. HasFront words heads told items s one) all.1 it))
  some_more (l ∷ logs) more told seen mid text one all it =
      inr (all.0, all.1 ++ one, all.2, ap (λ x. x ++ one) all.3 ∙ append_assoc all.0 all.1 one, all.4, some_more logs more told all.2 mid all.1 one all.5 it)

-- ---- what reads leave

module _ {S : Type 0} (g : Ghosts S) (a b c : Held S) where
  -- what an archive that is as it was is asked then
  pub as_was_then : IsAsWas g a b → IsUnchanged (state g b) (state g c) → IsAsWas g a c
  as_was_then (inl same) two = inr (subst (λ h. IsUnchanged (state g h) (state g c)) same two)
  as_was_then (inr one) two = inr (unchanged_then (state g a) (state g b) (state g c) one two)

  pub left_as_then : IsAsWas g a b → IsLeftAs g b c → IsLeftAs g a c
  left_as_then (inl same) two = subst (λ h. IsLeftAs g h c) same two
  left_as_then (inr one) (inl same) = inr (inl (subst (λ h. IsUnchanged (state g a) (state g h)) (sym same) one))
  left_as_then (inr one) (inr two) = inr (left_then (state g a) (state g b) (state g c) one two)

  pub left_behind_same : IsUnchanged (state g a) (state g b) → IsLeftAs g b c → IsLeft (state g a) (state g c)
  left_behind_same one (inl same) = inl (subst (λ h. IsUnchanged (state g a) (state g h)) (sym same) one)
  left_behind_same one (inr two) = left_then (state g a) (state g b) (state g c) one two

  pub same_behind_same : IsUnchanged (state g a) (state g b) → IsAsWas g b c → IsUnchanged (state g a) (state g c)
  same_behind_same one (inl same) = subst (λ h. IsUnchanged (state g a) (state g h)) (sym same) one
  same_behind_same one (inr two) = unchanged_then (state g a) (state g b) (state g c) one two

module _ {S : Type 0} (g : Ghosts S) (a b : Held S) where
  pub now_at : IsAsWas g a b → (state g b).now ≡ (state g a).now
  now_at (inl same) = ap (λ h. (state g h).now) same
  now_at (inr one) = one.0.now_is

-- ---- the logs of an archive

module _ (words : Words) (trees : Trees) (known : Known) (all : List ShownLog) (heads : Bool) (are : map told_of all ≡ shown_logs known words.choice) (names : heads ≡ has_heads words.choice (length all)) where
  pub same_count : length all ≡ length (shown_logs known words.choice)
  same_count = sym (length-map all told_of) ∙ ap length are

  same_heads : heads ≡ has_heads words.choice (length (shown_logs known words.choice))
  same_heads = names ∙ ap (has_heads words.choice) same_count

  pub part_is : (seen new : Seen) (text : List _) → PrintsLogs words heads (map told_of all) (trees 5) seen text new → PrintsPart words trees known seen text new
  part_is seen new text it =
      subst (λ h. PrintsLogs words h (shown_logs known words.choice) (trees 5) seen text new) same_heads (subst (λ l. PrintsLogs words heads l (trees 5) seen text new) are it)

  pub front_is : (seen : Seen) (text : List _) → IsKnown trees known → PrintsSome words heads (map told_of all) (trees 5) seen text → PrintsFront words trees seen text
  front_is seen text is it =
      inr (known, is, subst (λ h. PrintsSome words h (shown_logs known words.choice) (trees 5) seen text) same_heads (subst (λ l. PrintsSome words heads l (trees 5) seen text) are it))

-- one of these is one of those logs
pub some_there : (before more : List Told) (told : Told) → Contains (before ++ told ∷ more) told
some_there [] more told = (0, omega arith, refl)
some_there (x ∷ before) more told = let it = some_there before more told in (suc it.0, omega (arith, it.1), it.2)

-- a list, where one of its elements stands
pub rest_of : {X : Type 0} (all : List X) (at : ℕ) (x : X) → at < length all → x ≡ get_or all at x → all ≡ take at all ++ x ∷ drop (at + 1) all
rest_of all at x lt is =
    sym (take-append-drop (at + 1) all) ∙ ap (λ l. l ++ drop (at + 1) all) (take_one all at x lt is) ∙ append_assoc (take at all) (x ∷ []) (drop (at + 1) all)

pub rest_told : (all : List ShownLog) (at : ℕ) (x : ShownLog) → at < length all → x ≡ get_or all at x → map told_of all ≡ map told_of (take at all) ++ told_of x ∷ map told_of (drop (at + 1) all)
rest_told all at x lt is = ap (map told_of) (rest_of all at x lt is) ∙ map-append told_of (take at all) (x ∷ drop (at + 1) all)

pub more_told : (all : List ShownLog) (at : ℕ) (x : ShownLog) → at < length all → x ≡ get_or all at x → map told_of (take (at + 1) all) ≡ map told_of (take at all) ++ told_of x ∷ []
more_told all at x lt is = ap (map told_of) (take_one all at x lt is) ∙ map-append told_of (take at all) (x ∷ [])

-- the whole text of a log is a front of it
pub whole_front : (m : Manner) (range : Range) (behind newest : Option Newest) (items : List Values) (text : List _) → PrintsRows m range behind items text newest → PrintsFirst m range behind items text
whole_front m range behind newest items text it = (it.0, inr ([], subst (AreItems range items) (sym (append-nil it.0)) it.1), it.2)

-- and so is nothing
pub no_front : (m : Manner) (range : Range) (behind : Option Newest) (items : List Values) → PrintsFirst m range behind items []
no_front m range behind items = ([], inl refl, refl)

some_count : {X : Type 0} (xs : List X) → not (length xs == 0) ≡ nat_lt 0 (length xs)
some_count [] = refl
some_count (x ∷ xs) = rw (ne_eqb (suc (length xs)) 0 (λ is. omega (arith, is)), lt-ltb 0 (suc (length xs)) (omega arith)) refl

-- whether one of the logs is shown
pub any_is : (words : Words) (known : Known) (all : List ShownLog) → map told_of all ≡ shown_logs known words.choice → (none : Bool) → none ≡ (length all == 0)
    → not none ≡ nat_lt 0 (length (shown_logs known words.choice))
any_is words known all are none is =
    ap not is ∙ some_count all ∙ ap (λ n. nat_lt 0 n) (sym (length-map all told_of) ∙ ap length are)
