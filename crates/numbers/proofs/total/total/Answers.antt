-- `numbers::total::total` meets its contract: no sum wraps, and the result is the total as a difference.
use mathlib.Core.Path.{◌≡◌, ap₂}
use Prim.Native.Nat.{ℕ, ◌+◌, ◌*◌, ◌^◌, ◌≤◌}
use native.Mathlib.Omega.{arith}
use lib.IntN.{ℤ, pos, ◌+ℤ◌, ◌-ℤ◌}
use mir.Syntax.{w32, w64}
use mir.Val.{to_z, of_z}
use Rattle.numbers.specs.Total.{total_from}
use Rattle.numbers.proofs.Whole.{up, down, ◌≐◌⊖◌, nat, again, plus, less, equal, fits, range, size, kept, wide}
use Rattle.numbers.proofs.Totals.{total_is}
use Rattle.numbers.proofs.total.total.Goals as goal

-- what is added and what is taken away
abbrev added : goal.After-from-7 → ℕ
added c = c.args.products + c.args.n * c.args.z * c.args.v

abbrev taken : goal.After-from-7 → ℕ
taken c = c.args.v * c.args.bytes + c.args.z * c.args.sum

small : (c : goal.After-from-7) → (added c ≤ 2 ^ 31) × (taken c ≤ 2 ^ 31)
small c = (grind arith, grind arith)

-- the bias and what is added, and those less what is taken away, as the machine makes them
abbrev sum : goal.After-from-7 → ℤ
sum c = to_z w64 (of_z w64 c.from-5.result) +ℤ to_z w64 (of_z w64 c.from-6.result)

abbrev rest : goal.After-from-7 → ℤ
rest c = to_z w64 (of_z w64 (sum c)) -ℤ to_z w64 (of_z w64 c.from-7.result)

-- the two numbers as the code reads them, each byte by the answer of its widening
added_is : (c : goal.After-from-7) → c.args.products + c.args.n * c.from.result * c.from-2.result ≡ added c
added_is c = ap₂ (λ x y. c.args.products + c.args.n * x * y) c.from.ensures c.from-2.ensures

taken_is : (c : goal.After-from-7) → c.from-3.result * c.args.bytes + c.from-4.result * c.args.sum ≡ taken c
taken_is c = ap₂ (λ x y. x * c.args.bytes + y * c.args.sum) c.from-3.ensures c.from-4.ensures

few : (c : goal.After-from-7) → (c.args.products + c.args.n * c.from.result * c.from-2.result ≤ 2 ^ 31) × (c.from-3.result * c.args.bytes + c.from-4.result * c.args.sum ≤ 2 ^ 31)
few c = (omega (arith, small c, added_is c), omega (arith, small c, taken_is c))

natural : {n : ℕ} {z : ℤ} → z ≡ pos n → n ≤ 2 ^ 31 → to_z w64 (of_z w64 z) ≐ n ⊖ 0
natural {n} e h = rw e (kept w64 (fits w64 (nat n) (omega arith) (omega arith)) (nat n))

-- of whatever is added and taken away, as long as it is small: what they are only the last two answers need
sum_is : (c : goal.After-from-7) {n : ℕ} → c.from-6.result ≡ pos n → n ≤ 2 ^ 31 → sum c ≐ up c.args.bias + n ⊖ down c.args.bias
sum_is c e h =
    let bias : to_z w64 (of_z w64 c.from-5.result) ≐ up c.args.bias ⊖ down c.args.bias = rw c.from-5.ensures (wide c.args.bias c.ranges.bias) in
    again _ _ (plus bias (natural e h)) (omega arith)

rest_is :
    (c : goal.After-from-7) {n m : ℕ} →
    c.from-6.result ≡ pos n →
    n ≤ 2 ^ 31 →
    c.from-7.result ≡ pos m →
    m ≤ 2 ^ 31 →
    rest c ≐ up c.args.bias + n ⊖ down c.args.bias + m
rest_is c e h f k =
    let sides = range w32 c.args.bias c.ranges.bias in
    let first = kept w64 (fits w64 (sum_is c e h) (omega arith) (omega arith)) (sum_is c e h) in
    again _ _ (less first (natural f k)) (omega arith)

pub overflow_sub-result : goal.overflow_sub-result
overflow_sub-result c =
    let sides = range w32 c.args.bias c.ranges.bias in
    fits w64 (rest_is c c.from-6.ensures (omega (arith, few c)) c.from-7.ensures (omega (arith, few c)))
    (omega (arith, few c)) (omega (arith, few c))

-- the total as a difference
exact :
    (c : goal.After-from-7) →
    total_from c.args.bias c.args.products c.args.bytes c.args.sum c.args.n c.args.z c.args.v ≐
    up c.args.bias + added c ⊖ down c.args.bias + taken c
exact c = again _ _ (total_is c.args.bias c.args.products c.args.bytes c.args.sum c.args.n c.args.z c.args.v) (omega arith)

pub overflow_cast-result : goal.overflow_cast-result
overflow_cast-result c =
    fits w32 (kept w64 (overflow_sub-result c) (rest_is c c.from-6.ensures (omega (arith, few c)) c.from-7.ensures (omega (arith, few c))))
    (omega (arith, size (exact c), added_is c, taken_is c)) (omega (arith, size (exact c), added_is c, taken_is c))

pub returns : goal.returns
returns c =
    equal (kept w32 (overflow_cast-result c) (kept w64 (overflow_sub-result c) (rest_is c c.from-6.ensures (omega (arith, few c)) c.from-7.ensures (omega (arith, few c)))))
    (exact c) (omega (arith, added_is c, taken_is c))
