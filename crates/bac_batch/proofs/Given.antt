-- What is to be done, and the event that it comes to.
use Rattle.std.proofs.Common.{◌≡◌, ◌∙◌, ℕ, false, true, List, [], ◌∷◌, None, Some, refl, sym, ap}
use Rattle.bac_archive.specs.declared.row.Put.{Put}
use Rattle.bac_ports.specs.Port.{Receiving, Sending}
use Rattle.bac_drive.specs.Event.{Event, Kept, Printed, Read, Sent, Waited, Warned}
use Rattle.bac_drive.specs.Happens.{Does, Learns}
use Rattle.bac_drive.specs.Laws.{puts_of}
use Rattle.bac_drive.specs.declared.machine.Next.{Next}
use Rattle.bac_drive.specs.declared.machine.Next.TheVariants as next
use Rattle.bac_batch.specs.Batch.{IsKeep}
use Rattle.bac_batch.specs.Laws.{IsLine, IsWish, is_line, keeps_of, line_held, lines_of, traffic_of}

-- rows
pub does_keep : (puts : List Put) (given : Next) (e : Event) → IsKeep puts given → Does given e → e ≡ Kept puts
does_keep puts (next.Keep all) (Kept rows) is does = ap Kept (does ∙ is)
does_keep puts (next.Keep all) (Sent octets to answer) is does = absurd does
does_keep puts (next.Keep all) (Waited within heard) is does = absurd does
does_keep puts (next.Keep all) (Read ms) is does = absurd does
does_keep puts (next.Keep all) (Printed text) is does = absurd does
does_keep puts (next.Keep all) (Warned text) is does = absurd does
does_keep puts (next.Send octets to) e is does = absurd is
does_keep puts (next.Wait most) e is does = absurd is
does_keep puts next.Read e is does = absurd is
does_keep puts (next.Print text) e is does = absurd is
does_keep puts (next.Warn text) e is does = absurd is
does_keep puts next.End e is does = absurd is

pub does_send : (octets to : List ℕ) (e : Event) → Does (next.Send octets to) e →
    (answer : Sending) × (e ≡ Sent octets to answer)
does_send octets to (Sent sent peer answer) (same, there) =
    (answer, ap (λ (l : List ℕ). Sent l peer answer) same ∙ ap (λ (l : List ℕ). Sent octets l answer) there)
does_send octets to (Waited within heard) does = absurd does
does_send octets to (Read ms) does = absurd does
does_send octets to (Kept rows) does = absurd does
does_send octets to (Printed text) does = absurd does
does_send octets to (Warned text) does = absurd does

pub does_read : (e : Event) → Does next.Read e → (ms : ℕ) × (e ≡ Read ms)
does_read (Read ms) does = (ms, refl)
does_read (Sent octets to answer) does = absurd does
does_read (Waited within heard) does = absurd does
does_read (Kept rows) does = absurd does
does_read (Printed text) does = absurd does
does_read (Warned text) does = absurd does

pub does_wait : (most : ℕ) (e : Event) → Does (next.Wait most) e → (heard : Receiving) × (e ≡ Waited most heard)
does_wait most (Waited within heard) does = (heard, ap (λ (n : ℕ). Waited n heard) does)
does_wait most (Sent octets to answer) does = absurd does
does_wait most (Read ms) does = absurd does
does_wait most (Kept rows) does = absurd does
does_wait most (Printed text) does = absurd does
does_wait most (Warned text) does = absurd does

-- the end comes to no event
pub does_end : (e : Event) → Does next.End e → ⊥
does_end (Sent octets to answer) does = does
does_end (Waited within heard) does = does
does_end (Read ms) does = does
does_end (Kept rows) does = does
does_end (Printed text) does = does
does_end (Warned text) does = does

-- a line, and the event that it comes to
pub record AsLine (line : Next) (e : Event) : Type 0 where
  pub is : is_line e ≡ true
  pub held : line_held line ≡ Some e
  pub traffic : traffic_of (e ∷ []) ≡ []
  pub lines : lines_of (e ∷ []) ≡ e ∷ []
  pub keeps : keeps_of (e ∷ []) ≡ []
  pub puts : puts_of (e ∷ []) ≡ []

pub as_line : (line : Next) (e : Event) → IsLine line → Does line e → AsLine line e
as_line (next.Print text) (Printed all) is does =
    record {
      is = refl;
      held = ap (λ (l : List ℕ). Some (Printed l)) (sym does);
      traffic = refl;
      lines = refl;
      keeps =
          refl;
      puts = refl;
    }
as_line (next.Warn text) (Warned all) is does =
    record {
      is = refl;
      held = ap (λ (l : List ℕ). Some (Warned l)) (sym does);
      traffic = refl;
      lines = refl;
      keeps =
          refl;
      puts = refl;
    }
as_line (next.Print text) (Sent octets to answer) is does = absurd does
as_line (next.Print text) (Waited within heard) is does = absurd does
as_line (next.Print text) (Read ms) is does = absurd does
as_line (next.Print text) (Kept rows) is does = absurd does
as_line (next.Print text) (Warned all) is does = absurd does
as_line (next.Warn text) (Sent octets to answer) is does = absurd does
as_line (next.Warn text) (Waited within heard) is does = absurd does
as_line (next.Warn text) (Read ms) is does = absurd does
as_line (next.Warn text) (Kept rows) is does = absurd does
as_line (next.Warn text) (Printed all) is does = absurd does
as_line (next.Send octets to) e is does = absurd is
as_line (next.Wait most) e is does = absurd is
as_line next.Read e is does = absurd is
as_line (next.Keep all) e is does = absurd is
as_line next.End e is does = absurd is

-- it changes nothing of a machine
pub line_told : {M : Type 0} (hears : M → Receiving → M → Type 0) (reads : M → ℕ → M →
    Type 0) (mid new : M) (e : Event) → is_line e ≡ true → Learns hears reads mid e new → new ≡ mid
line_told hears reads mid new (Printed all) is told = told
line_told hears reads mid new (Warned all) is told = told
line_told hears reads mid new (Sent octets to answer) is told = told
line_told hears reads mid new (Kept rows) is told = told
line_told hears reads mid new (Waited within heard) is told = absurd (let f : false ≡ true = is in cc)
line_told hears reads mid new (Read ms) is told = absurd (let f : false ≡ true = is in cc)

pub line_learns : {M : Type 0} (hears : M → Receiving → M → Type 0) (reads : M → ℕ → M → Type 0) (m : M) (e : Event) →
    is_line e ≡ true → Learns hears reads m e m
line_learns hears reads m (Printed all) is = refl
line_learns hears reads m (Warned all) is = refl
line_learns hears reads m (Sent octets to answer) is = refl
line_learns hears reads m (Kept rows) is = refl
line_learns hears reads m (Waited within heard) is = absurd (let f : false ≡ true = is in cc)
line_learns hears reads m (Read ms) is = absurd (let f : false ≡ true = is in cc)

-- what comes to a line is one
pub is_line_given : (given : Next) (e : Event) → is_line e ≡ true → Does given e → IsLine given
is_line_given (next.Print text) e is does = tt
is_line_given (next.Warn text) e is does = tt
is_line_given (next.Keep all) e is does = absurd (let same = does_keep all.items (next.Keep all) e refl does in
    let f : false ≡ true = ap is_line (sym same) ∙ is in cc)
is_line_given (next.Send octets to) e is does = absurd (let r = does_send octets to e does in let f : false ≡ true =
    ap is_line (sym r.1) ∙ is in cc)
is_line_given (next.Wait most) e is does = absurd (let r = does_wait most e does in let f : false ≡ true =
    ap is_line (sym r.1) ∙ is in cc)
is_line_given next.Read e is does = absurd (let r = does_read e does in let f : false ≡ true =
    ap is_line (sym r.1) ∙ is in cc)
is_line_given next.End e is does = absurd (does_end e does)

-- a wait and the end are no lines
pub wish_no_line : (wish : Next) → IsWish wish → line_held wish ≡ None
wish_no_line (next.Wait most) is = refl
wish_no_line next.End is = refl
wish_no_line (next.Print text) is = absurd is
wish_no_line (next.Warn text) is = absurd is
wish_no_line (next.Send octets to) is = absurd is
wish_no_line next.Read is = absurd is
wish_no_line (next.Keep all) is = absurd is

-- rows that there are
pub keeps_some : (puts : List Put) → (puts ≡ [] → ⊥) → keeps_of (Kept puts ∷ []) ≡ puts ∷ []
keeps_some [] some = absurd (some refl)
keeps_some (put ∷ puts) some = refl

-- a line is no rows
pub line_no_keep : (puts : List Put) (given : Next) → IsLine given → IsKeep puts given → ⊥
line_no_keep puts (next.Keep all) is keeps = is
line_no_keep puts (next.Print text) is keeps = keeps
line_no_keep puts (next.Warn text) is keeps = keeps
line_no_keep puts (next.Send octets to) is keeps = keeps
line_no_keep puts (next.Wait most) is keeps = keeps
line_no_keep puts next.Read is keeps = keeps
line_no_keep puts next.End is keeps = keeps

pub line_no_puts : (e : Event) → is_line e ≡ true → puts_of (e ∷ []) ≡ []
line_no_puts (Printed text) is = refl
line_no_puts (Warned text) is = refl
line_no_puts (Sent octets to answer) is = refl
line_no_puts (Waited within heard) is = refl
line_no_puts (Read ms) is = refl
line_no_puts (Kept puts) is = absurd (let f : false ≡ true = is in cc)
