-- How often a poll may go backwards yet: of what is left of it, and of what may be asked for alone.
use Rattle.std.proofs.Common.{arith, ◌≡◌, ℕ, zero, suc, ◌+◌, ◌*◌, ◌≤◌, ◌<◌, nat_lt, Bool, true, false, refl, sym, subst}
use Rattle.std.proofs.Common.{mul-le-mul_right}
use Rattle.std.proofs.Math.Nat.{add-mul, one-mul}
use Rattle.std.proofs.lemmas.Bool.{lt-ltb, ltb-true}
use Rattle.bac_poll_steps.specs.declared.stage.Aim.{Aim}
use Rattle.bac_poll_steps.specs.declared.stage.Aim.TheVariants.{Finds, Renews, Starts}
use Rattle.bac_poll_laws.proofs.Lefts.{left_back}

-- more is left than where a poll goes backwards with so much left
abbrev one_if : Bool → ℕ
one_if true = 1
one_if false = 0

over : ℕ → ℕ → ℕ
over at left = one_if (nat_lt at left)

over_low : (at left : ℕ) → over at left ≤ 1
unfolding over
over_low at left = by (nat_lt at left)
  where
    by : (c : Bool) → one_if c ≤ 1
    by true = omega arith
    by false = omega arith

over_one : (at left : ℕ) → at < left → over at left ≡ 1
unfolding over
over_one at left less = subst (λ (c : Bool). one_if c ≡ 1) (sym (lt-ltb at left less)) refl

over_more : (at left later : ℕ) → later ≤ left → over at later ≤ over at left
unfolding over
over_more at left later fewer = by (nat_lt at later) refl
  where
    by : (c : Bool) → nat_lt at later ≡ c → one_if c ≤ over at left
    by false is = omega arith
    by true is = let less : at < later = ltb-true at later is in let one = over_one at left (omega (arith, less, fewer)) in omega (arith, one)

-- So often: with what is left it goes backwards for known records, asked for alone or behind others, or for the oldest.
pub runs : ℕ → ℕ
runs left = over 0 left + over 2 left + over 8 left

pub runs_low : (left : ℕ) → runs left ≤ 3
unfolding runs
runs_low left =
    let a = over_low 0 left in
    let b = over_low 2 left in
    let c = over_low 8 left in
    omega (arith, a, b, c)

pub runs_more : (left later : ℕ) → later ≤ left → runs later ≤ runs left
unfolding runs
runs_more left later fewer =
    let a = over_more 0 left later fewer in
    let b = over_more 2 left later fewer in
    let c = over_more 8 left later fewer in
    omega (arith, a, b, c)

-- a poll that goes backwards does so once less
pub runs_fewer : (alone : Bool) (aim : Aim) (left : ℕ) → left_back alone aim < left → runs (left_back alone aim) + 1 ≤ runs left
unfolding runs over
runs_fewer true Finds left less =
    let a = over_one 0 left (omega (arith, less)) in
    let b = over_one 2 left less in
    omega (arith, a, b)
runs_fewer false Finds left less =
    let a = over_one 0 left (omega (arith, less)) in
    let b = over_one 2 left (omega (arith, less)) in
    let c = over_one 8 left less in
    omega (arith, a, b, c)
runs_fewer alone Renews left less = let a = over_one 0 left less in omega (arith, a)
runs_fewer alone Starts left less = let a = over_one 0 left less in omega (arith, a)

pub runs_few : (alone : Bool) (aim : Aim) → runs (left_back alone aim) ≤ 2
runs_few true Finds = let less = runs_fewer true Finds 9 (omega arith) in let low = runs_low 9 in omega (arith, less, low)
runs_few false Finds = let less = runs_fewer false Finds 9 (omega arith) in let low = runs_low 9 in omega (arith, less, low)
runs_few alone Renews = let less = runs_fewer alone Renews 9 (omega arith) in let low = runs_low 9 in omega (arith, less, low)
runs_few alone Starts = let less = runs_fewer alone Starts 9 (omega arith) in let low = runs_low 9 in omega (arith, less, low)

-- where a first run begins
pub runs_start : runs 3 ≤ 2
unfolding runs over
runs_start = omega arith

-- a new epoch's oldest are looked for behind known records
pub runs_anew : (a alone : Bool) → runs (left_back alone Renews) + 1 ≤ runs (left_back a Finds)
runs_anew true alone = runs_fewer alone Renews 2 (omega arith)
runs_anew false alone = runs_fewer alone Renews 8 (omega arith)

-- ---- what one answer takes of it

-- none: records that are kept, and known ones that are asked for alone, bring back what may be
pub stays_often : (left later b x k h hours after : ℕ) → 1 + later ≤ left + (b + 3 * x + 8 * k + 9 * h) → h + after ≤ hours + k → b ≤ 1 → x ≡ 0 →
    runs later + 3 * after ≤ runs left + 3 * hours + 6 * k
stays_often left later b x (suc k) h hours after paid spent one none = let low = runs_low later in omega (arith, low, spent)
stays_often left later b x zero (suc h) hours after paid spent one none = let low = runs_low later in omega (arith, low, spent)
stays_often left later b x zero zero hours after paid spent one none =
    let fewer : later ≤ left = omega (arith, paid, one, none) in
    let more = runs_more left later fewer in
    omega (arith, more, spent)

-- once: it goes backwards
pub goes_back : (left : ℕ) (alone : Bool) (aim : Aim) (x k h hours after : ℕ) → 1 + left_back alone aim ≤ left + (0 + 3 * x + 8 * k + 9 * h) → h + after ≤ hours + k → x ≡ 0 → h ≡ 0 →
    runs (left_back alone aim) + 3 * after + 1 ≤ runs left + 3 * hours + 6 * k
goes_back left alone aim x (suc k) h hours after paid spent none no_hour = let low = runs_few alone aim in omega (arith, low, spent)
goes_back left alone aim x zero h hours after paid spent none no_hour =
    let less : left_back alone aim < left = omega (arith, paid, none, no_hour) in
    let fewer = runs_fewer alone aim left less in
    omega (arith, fewer, spent)

-- ---- sums

-- it goes on as often
pub adds_same : (b c d f l k r : ℕ) (held n : ℕ) → b + d ≤ c → f ≤ l + 6 * k → n ≤ d + (f + 6 * r) * held → b + n ≤ c + (l + 6 * (k + r)) * held
adds_same b c d f l k r held n left often rest =
    let all = mul-le-mul_right {m = f + 6 * r} {n = l + 6 * (k + r)} held (omega (arith, often)) in
    by ((f + 6 * r) * held) ((l + 6 * (k + r)) * held) rest all
  where
    by : (x y : ℕ) → n ≤ d + x → x ≤ y → b + n ≤ c + y
    by x y rest all = omega (arith, left, rest, all)

-- or once less, and costs that much
pub adds_once : (b c d f l k r : ℕ) (held n : ℕ) → b + d ≤ c + held → f + 1 ≤ l + 6 * k → n ≤ d + (f + 6 * r) * held → b + n ≤ c + (l + 6 * (k + r)) * held
adds_once b c d f l k r held n left often rest =
    let all = mul-le-mul_right {m = f + 6 * r + 1} {n = l + 6 * (k + r)} held (omega (arith, often)) in
    by ((f + 6 * r) * held) ((l + 6 * (k + r)) * held) ((f + 6 * r + 1) * held) (1 * held) rest all (add-mul (f + 6 * r) 1 held) (one-mul held)
  where
    by : (x y z o : ℕ) → n ≤ d + x → z ≤ y → z ≡ x + o → o ≡ held → b + n ≤ c + y
    by x y z o rest all sum one = omega (arith, left, rest, all, sum, one)
