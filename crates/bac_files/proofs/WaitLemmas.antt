-- A file that is in use once more, and how often it is asked.
use Rattle.std.proofs.Common.{◌≡◌, ◌≢◌, ◌+◌, ◌*◌, ◌≤◌, arith, ap, inl, inr, Bool, true, false, Err, subst, zero, suc, ℕ}
use Rattle.bac_ports.specs.Port.{Receiving}
use Rattle.bac_ports.specs.Sockets.{SocketRules}
use Rattle.bac_ports.specs.declared.port.SocketFault.TheVariants.{Failed}
use Rattle.bac_files.specs.Waiting.{AsksAgain, AtWait, CountsAsks, EndsWait, Waits, WaitsInVain, WaitsWhileInUse, at_wait}

pub vain_more : {U P : Type 0} (asks : U → Bool → U → Type 0) (waits : P → ℕ → Receiving → P → Type 0) (n : ℕ) (old mid new : AtWait U P) (heard : Receiving)
    → WaitsInVain asks waits n old mid → heard ≢ Err Failed → waits mid.port 100 heard new.port → asks mid.file true new.file → WaitsInVain asks waits (n + 1) old new
vain_more asks waits n old mid new heard before well waited asked =
    let one : suc n ≡ n + 1 = omega arith in
    subst (λ (k : ℕ). WaitsInVain asks waits k old new) one (mid, before, (heard, well, waited, asked))

module _ {U P : Type 0} (asks : U → Bool → U → Type 0) (waits : P → ℕ → Receiving → P → Type 0) (count : U → ℕ) (counts : CountsAsks asks count) where
  -- each wait in vain asks once
  vain_counts : (n : ℕ) (old new : AtWait U P) → WaitsInVain asks waits n old new → count new.file ≤ count old.file + n
  vain_counts zero old new same = let is : count new.file ≡ count old.file = ap (λ (a : AtWait U P). count a.file) same in omega (arith, is)
  vain_counts (suc n) old new (mid, before, (heard, well, waited, asked)) =
      let some = vain_counts n old mid before in
      let one = counts mid.file true new.file asked in omega (arith, some, one)

  -- and so does the wait that ends it
  ends_counts : (old : AtWait U P) (still : Bool) (new : AtWait U P) → EndsWait asks waits old still new → count new.file ≤ count old.file + 1
  ends_counts old still new (heard, waited, inl (failed, is, same)) =
      let it : count new.file ≡ count old.file = ap count same in omega (arith, it)
  ends_counts old still new (heard, waited, inr (well, is, asked)) = counts old.file false new.file asked

  pub again_counts : (most : ℕ) (old : AtWait U P) (still : Bool) (new : AtWait U P) → AsksAgain asks waits most old still new → count new.file ≤ count old.file + most
  again_counts most old still new (inl (is, vain)) = vain_counts most old new vain
  again_counts most old still new (inr (n, below, mid, vain, ends)) =
      let some = vain_counts n old mid vain in
      let one = ends_counts mid still new ends in omega (arith, some, one, below)

-- it is asked once, and ten times a second at most behind that
pub asks_bounded : {U S P : Type 0} (asks : U → Bool → U → Type 0) (rules : SocketRules S P) (count : U → ℕ) → CountsAsks asks count
    → (seconds : ℕ) (old : U) (sockets : S) (still : Bool) (new : U) (after : S) → WaitsWhileInUse asks rules seconds old sockets still new after
    → count new ≤ count old + (10 * seconds + 1)
asks_bounded {U} {S} {P} asks rules count counts seconds old sockets still new after (inl (asked, is, same)) =
    let one = counts old false new asked in omega (arith, one)
asks_bounded {U} {S} {P} asks rules count counts seconds old sockets still new after (inr (first, asked, inl (port, last, between, opened, again, closed))) =
    let one = counts old true first asked in
    let more = again_counts asks rules.receives_within count counts (seconds * 10) (at_wait first port) still (at_wait new last) again in omega (arith, one, more)
asks_bounded {U} {S} {P} asks rules count counts seconds old sockets still new after (inr (first, asked, inr (why, opened, is, same))) =
    let one = counts old true first asked in
    let it : count new ≡ count first = ap count same in omega (arith, one, it)
