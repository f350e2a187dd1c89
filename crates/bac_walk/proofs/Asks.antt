-- What a question by number brings, in the words of a walk.
use Rattle.std.proofs.Common.{◌≡◌, ℕ, zero, suc, ◌+◌, ◌-◌, ◌<◌, ◌≤◌, pos, max, Bool, true, false, List, length, take, drop, refl, sym, ap, ◌∙◌, arith, inl, inr}
use Rattle.std.specs.Prelude.{nat_le, nat_lt, ◌&&◌}
use Rattle.std.proofs.lemmas.Bool.{cases_Bool, cases_lt, cond-true, cond-false, le-ltb, lt-leb}
use Rattle.std.proofs.lemmas.Bool.Decides.{nat_tests}
use Rattle.bac_apdu.specs.declared.service.extent.Extent.TheVariants.{ByNumber}
use Rattle.bac_log.specs.declared.entry.Entry.{Entry}
use Rattle.bac_log.specs.Select.{numbered, selected, is_asked, greatest}
use Rattle.bac_log.specs.TrendLog.{Log, oldest, sequence_number}
use Rattle.bac_log.proofs.Runs.{filter_run}
use Rattle.bac_link.specs.Ordinals.{distance}
use Rattle.bac_walk.proofs.Shown.{distance-number, distance-behind}

-- among the ordinals held, those of so many numbers from that of an ordinal which is near
asked_near : (low high s k count : ℕ) → count ≤ 2147483648 → low ≤ k → k ≤ high → high < low + 65535 → low < s + 2147483648 → s < low + 2147483648
    → nat_lt (distance (sequence_number s) (sequence_number k)) count ≡ (nat_le (max s low) k && nat_lt k (s + count))
asked_near low high s k count small p q few above below = elim (cases_lt k s) [
  | inl lt ↦
      let far : 2147483648 ≤ distance (sequence_number s) (sequence_number k) = distance-behind s k lt (omega arith) in
      rw (le-ltb (distance (sequence_number s) (sequence_number k)) count (omega (arith, far, small)), lt-leb (max s low) k (omega arith)) refl
  | inr ge ↦
      let place : distance (sequence_number s) (sequence_number k) ≡ k - s = distance-number s k ge (omega arith) in
      ap (λ n. nat_lt n count) place ∙ within low s k count p ge
]
  where
    within : (low s k count : ℕ) → low ≤ k → s ≤ k → nat_lt (k - s) count ≡ (nat_le (max s low) k && nat_lt k (s + count))
    within low s k count p ge = grind (arith, nat_tests)

-- so many ordinals from s on: those that are held
abbrev pub held_from : Log → (s count : ℕ) → List Entry
held_from log s count = take ((s + count) - max s (oldest log)) (drop (max s (oldest log) - oldest log) log.entries)

pub selected-by_number : (log : Log) (s count : ℕ) → count ≤ 2147483648 → length log.entries ≤ 65535 → oldest log < s + 2147483648 → s < oldest log + 2147483648
    → selected log (ByNumber (sequence_number s) (pos count)) ≡ numbered (max s (oldest log)) (held_from log s count)
selected-by_number log s count small few above below =
    filter_run (is_asked log (ByNumber (sequence_number s) (pos count))) (max s (oldest log)) (s + count) (oldest log) log.entries (omega arith)
    (λ k p q. asked_near (oldest log) k s k count small p (omega arith) (omega (arith, few, q)) above below)

-- the greatest is some if 1 passes
pub greatest_some : (passes : ℕ → Bool) (most : ℕ) → 0 < most → passes 1 ≡ true → 0 < greatest passes most
greatest_some passes zero some one = absurd (omega arith)
greatest_some passes (suc n) some one = elim (cases_Bool (passes (suc n))) [
  | inl p ↦ let same = cond-true (passes (suc n)) (suc n) (greatest passes n) p in omega (arith, same)
  | inr p ↦ let same = cond-false (passes (suc n)) (suc n) (greatest passes n) p in elim (cases_lt 0 n) [
    | inl more ↦ omega (arith, same, greatest_some passes n more one)
    | inr none ↦ let is : suc n ≡ 1 = omega arith in absurd (let bad : true ≡ false = sym one ∙ ap passes (sym is) ∙ p in cc bad)
  ]
]
