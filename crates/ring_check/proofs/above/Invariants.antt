-- `ring_check::above` meets its contract. The loop's invariant: times the sizes that are left it is the product. Assumes nothing.
use Rattle.std.proofs.Common.{◌≡◌, ◌*◌, drop}
use Rattle.base.specs.Digits.{product, above}
use Rattle.network.specs.Sizes.{shape_of}
use Rattle.ring_check.proofs.above.Given as goal

abbrev pub invariant-loop-j : goal.invariant-loop-j
invariant-loop-j l = l.product * product (drop l.j (shape_of l.s).sizes) ≡ above (shape_of l.s).sizes l.i
