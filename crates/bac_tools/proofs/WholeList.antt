-- A list that was read to its end.
use Rattle.std.proofs.Common.{ℕ, List, Ok, Err, Result, Vec, Global, subst}
use Rattle.std.specs.Io.KnownBytes.{IsAtEnd}
use Rattle.bac_query.specs.Reading.{Held}
use Rattle.bac_tools.specs.Finding.{IsListIn, IsListWithin, IsTextWithin}
use Rattle.bac_command_line.specs.Listing.{Lists}
use Rattle.bac_command_line.specs.declared.listing.ListFault.{ListFault}
use Rattle.bac_command_line.specs.declared.listing.ListFault.TheVariants.{BadLine, TooMany, Empty, TooLong, Read, Memory}

module _ {A : Type 0} (lists : List ℕ → Result (List A) ListFault) (limit : ℕ) (input left : Held) where
  whole : (read : List ℕ) (list : Result (List A) ListFault) → IsAtEnd left → Lists (lists read) list → IsListIn lists limit read left list
  whole read (Ok these) end h = (end, h)
  whole read (Err (BadLine n)) end h = (end, h)
  whole read (Err (TooMany n)) end h = (end, h)
  whole read (Err Empty) end h = (end, h)
  whole read (Err TooLong) end h = absurd h
  whole read (Err Read) end h = absurd h
  whole read (Err Memory) end h = tt

  -- all of the text is the list
  pub whole_list : (text : Vec ℕ Global) (list : Result (List A) ListFault) → IsTextWithin limit input left (Ok text) → Lists (lists text.items) list
      → IsListWithin lists limit input left list
  whole_list text list (read, consumes, (end, is)) h = (read, consumes, whole read list end (subst (λ (l : List ℕ). Lists (lists l) list) is h))

  -- there is no text
  pub no_list : (fault : ListFault) → IsTextWithin limit input left (Err fault) → IsListWithin lists limit input left (Err fault)
  no_list TooLong it = it
  no_list Read it = it
  no_list Memory it = it
  no_list (BadLine n) it = absurd it.2
  no_list (TooMany n) it = absurd it.2
  no_list Empty it = absurd it.2
