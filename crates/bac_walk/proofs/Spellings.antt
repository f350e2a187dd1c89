-- Records that are decoded one after the other from octets that are right as a whole.
use Rattle.std.proofs.Common.{◌≡◌, ℕ, zero, suc, ◌<◌, ◌≤◌, List, [], ◌∷◌, length, Option, Some, None, Result, Ok, Err, refl, sym, ap, ◌∙◌, arith}
use Rattle.std.specs.Result.{result_ok}
use Rattle.bac_wire.specs.OptionChain.{GivesSome}
use Rattle.bac_wire.specs.Chain.{◌>>=◌}
use Rattle.bac_wire.specs.Reading.{mark_at}
use Rattle.bac_wire.specs.declared.fault.WireFault.{WireFault}
use Rattle.bac_apdu.specs.Service.ReadRangeAck.{range_ack_of, read_range_ack_at}
use Rattle.bac_apdu.specs.declared.service.read_range_ack.ReadRangeAck.{ReadRangeAck}
use Rattle.bac_log.specs.declared.entry.Entry.{Entry}
use Rattle.bac_log.specs.RecordReading.{entry_at, entries_at}
use Rattle.bac_link.specs.Heard.{records_in}
use Rattle.bac_walk.specs.Walks.{with_numbers}
use Rattle.bac_walk.specs.Spelled.{item_data, data_in, spelled, records_from, all_or_none, IsWhole}
use Rattle.bac_walk.proofs.Counting.{ok_of}
use Rattle.bac_walk.proofs.Numbers.{length-with_numbers}

-- the item data of what was read
abbrev data_of_ack : Option ReadRangeAck → List ℕ
data_of_ack None = []
data_of_ack (Some a) = a.items.now

pub data_fields : (bytes : List ℕ) (o : Option ReadRangeAck) → GivesSome range_ack_of o (read_range_ack_at bytes) → data_in bytes ≡ data_of_ack o
data_fields bytes None e = ap item_data e
data_fields bytes (Some a) e = ap item_data e

-- octets that were read as these records are right as a whole, if there are few enough
pub whole_of : (first : ℕ) (octets : List ℕ) (es : List Entry) → records_in octets ≡ Ok es → 0 < length es → length es ≤ 100 → IsWhole first octets
whole_of first octets es read some most =
    let is : spelled octets ≡ es = ap (λ r. all_or_none (result_ok r)) read in
    let count : length (with_numbers first (spelled octets)) ≡ length es = length-with_numbers first (spelled octets) _ refl ∙ ap length is in
    record {
      read = read ∙ ap (λ (l : List Entry). Ok l) (sym is);
      some = omega (arith, count, some);
      most = omega (arith, count, most);
    }

-- if no record is at the front, none is left
pub left_none : (n : ℕ) (rest : List ℕ) (es : List Entry) → result_ok (entry_at rest) ≡ None → entries_at n rest ≡ Ok es → es ≡ []
unfolding entries_at
left_none zero [] es none read = cc
left_none (suc n) [] es none read = cc
left_none zero (b ∷ rest) es none read = absurd cc
left_none (suc n) (b ∷ rest) es none read = absurd (no_front (entry_at (b ∷ rest)) _ es none read)
  where
    no_front : (r : Result (Entry × List ℕ) WireFault) (f : Entry × List ℕ → Result (List Entry) WireFault) (ys : List Entry) →
        result_ok r ≡ None → (r >>= f) ≡ Ok ys → ⊥
    no_front (Ok y) f ys none read = absurd cc
    no_front (Err e) f ys none read = absurd cc

none_at_end : result_ok (entry_at []) ≡ None
unfolding entry_at mark_at
none_at_end = refl

rest_of : (x : Entry) (r : Result (List Entry) WireFault) (es : List Entry) → (r >>= (λ more. Ok (x ∷ more))) ≡ Ok es →
    (more : List Entry) × (es ≡ x ∷ more) × (r ≡ Ok more) × (length es ≡ suc (length more))
rest_of x (Ok more) es e = let is : es ≡ x ∷ more = cc in (more, is, refl, ap length is)
rest_of x (Err f) es e = absurd cc

front_read : (most b : ℕ) (rest : List ℕ) (x : Entry) (after : List ℕ) → entry_at (b ∷ rest) ≡ Ok (x, after) →
    entries_at (suc most) (b ∷ rest) ≡ (entries_at most after >>= (λ more. Ok (x ∷ more)))
unfolding entries_at
front_read most b rest x after e = rw e refl

too_few : (b : ℕ) (rest : List ℕ) (es : List Entry) → entries_at 0 (b ∷ rest) ≡ Ok es → ⊥
unfolding entries_at
too_few b rest es e = absurd cc

-- a record at the front is the first of those that are left
pub left_some : (n most : ℕ) (rest : List ℕ) (x : Entry) (after : List ℕ) (es : List Entry) → n ≡ suc most → result_ok (entry_at rest) ≡ Some (x, after) →
    entries_at n rest ≡ Ok es → (more : List Entry) × (es ≡ x ∷ more) × (entries_at most after ≡ Ok more) × (length es ≡ suc (length more))
left_some n most [] x after es is some read = absurd (let e = none_at_end in cc)
left_some n most (b ∷ rest) x after es is some read =
    let here : entries_at (suc most) (b ∷ rest) ≡ Ok es = ap (λ k. entries_at k (b ∷ rest)) (sym is) ∙ read in
    rest_of x (entries_at most after) es (sym (front_read most b rest x after (ok_of (entry_at (b ∷ rest)) (x, after) some)) ∙ here)

-- when there were as many turns as octets, none is left
pub left_last : (n : ℕ) (rest : List ℕ) (es : List Entry) → n ≡ 0 → entries_at n rest ≡ Ok es → es ≡ []
left_last n [] es is read = left_none n [] es none_at_end read
left_last n (b ∷ rest) es is read = absurd (too_few b rest es (ap (λ k. entries_at k (b ∷ rest)) (sym is) ∙ read))

-- the records of octets that were read as these
pub records_are : (first : ℕ) (octets : List ℕ) (es : List Entry) → records_in octets ≡ Ok es → records_from first octets ≡ with_numbers first es
records_are first octets es read = ap (λ r. with_numbers first (all_or_none (result_ok r))) read
