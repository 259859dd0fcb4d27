-- `ring_check::above` meets its contract: the goals that the check does not find by itself. What is said of the sizes is said of any radices. Assumes nothing.
use Rattle.std.proofs.Common.{◌≡◌, refl, ap, sym, ◌∙◌, List, [], ◌∷◌, ℕ, zero, suc, ◌+◌, ◌*◌, ◌<◌, ◌≤◌, arith, length, get_or, drop, drop-cons}
use Rattle.std.proofs.Math.Nat.{mul_assoc}
use Rattle.std.proofs.lemmas.List.{drop_all}
use native.Mathlib.Nat.{mul-le-mul}
use Rattle.base.specs.Digits.{product, Positive, above}
use Rattle.base.proofs.Digits.{product-pos}
use Rattle.network.specs.Sizes.{shape_of, size, nodes, dimensions}
use Rattle.network.specs.declared.Sizes.{Sizes}
use Rattle.network.proofs.TorusLaws.{sizes-torus, sizes-nodes}
use Rattle.ring_check.proofs.above.Goals as goal

-- the radices from one on: one by one, above 0, and with a product that is no more than that of all
next : (ks : List ℕ) (j : ℕ) → j < length ks → product (drop j ks) ≡ get_or ks j 0 * product (drop (suc j) ks)
unfolding product
next ks j h = ap product (drop-cons ks j 0 h)

positive-from : (ks : List ℕ) (j : ℕ) → Positive ks → Positive (drop j ks)
unfolding Positive
positive-from ks zero p = p
positive-from [] (suc j) p = p
positive-from (k ∷ ks) (suc j) p = positive-from ks j p.1

most-from : (ks : List ℕ) (j : ℕ) → Positive ks → product (drop j ks) ≤ product ks
unfolding product Positive
most-from ks zero p = omega arith
most-from [] (suc j) p = omega arith
most-from (k ∷ ks) (suc j) p =
    let l = most-from ks j p.1 in
    let m : 1 * product ks ≤ k * product ks = mul-le-mul p.0 (omega arith) in
    omega arith

-- the product p of some radices and those from j on are all that is wanted: so are p times radix j, and those behind it
on : (ks : List ℕ) (j p k all : ℕ) → j < length ks → k ≡ get_or ks j 0 → p * product (drop j ks) ≡ all → p * k * product (drop (j + 1) ks) ≡ all
on ks j p k all h e v =
    let n : j + 1 ≡ suc j = omega arith in
    ap (λ i. p * k * product (drop i ks)) n
    ∙ mul_assoc p k (product (drop (suc j) ks))
    ∙ ap (λ m. p * m) (ap (λ m. m * product (drop (suc j) ks)) e ∙ sym (next ks j h))
    ∙ v

-- of a network's sizes
ended : (s : Sizes) → length (shape_of s).sizes ≡ dimensions
unfolding shape_of
ended s = refl

pub loop-j-init : goal.loop-j-init
unfolding above
loop-j-init c =
    let n : c.args.i + 1 ≡ suc c.args.i = omega arith in
    let one : 1 * product (drop (c.args.i + 1) (shape_of c.args.s).sizes) ≡ product (drop (c.args.i + 1) (shape_of c.args.s).sizes) = omega arith in
    one ∙ ap (λ k. product (drop k (shape_of c.args.s).sizes)) n

pub loop-j-preserved : goal.loop-j-preserved
unfolding size
loop-j-preserved c =
    on (shape_of c.args.s).sizes c.loop-j.j c.loop-j.product c.size-product.result _ (omega (arith, c.loop-j-test.true, ended c.args.s)) c.size-product.ensures c.loop-j.invariant

pub overflow_mul-product : goal.overflow_mul-product
unfolding size nodes above
overflow_mul-product c =
    let ks = (shape_of c.args.s).sizes in
    let p = (sizes-torus c.args.s c.requires.0).positive in
    let t = c.loop-j-test.true in
    let d = ended c.args.s in
    let e = on ks c.loop-j.j c.loop-j.product c.size-product.result _ (omega arith) c.size-product.ensures c.loop-j.invariant in
    let some = product-pos (drop (c.loop-j.j + 1) ks) (positive-from ks (c.loop-j.j + 1) p) in
    let m : c.loop-j.product * c.size-product.result * 1 ≤ c.loop-j.product * c.size-product.result * product (drop (c.loop-j.j + 1) ks) = mul-le-mul (omega arith) some in
    let a = most-from ks (suc c.args.i) p in
    let n = sizes-nodes c.args.s c.requires.0 in
    record { fits = omega arith }

pub returns : goal.returns
unfolding product
returns c =
    let ks = (shape_of c.args.s).sizes in
    let d = ended c.args.s in
    let l = c.loop-j-test.false in
    let none : product (drop c.loop-j.j ks) ≡ 1 = ap product (drop_all c.loop-j.j ks (omega arith)) in
    let v : c.loop-j.product * 1 ≡ above ks c.args.i = ap (λ m. c.loop-j.product * m) (sym none) ∙ c.loop-j.invariant in
    omega arith
