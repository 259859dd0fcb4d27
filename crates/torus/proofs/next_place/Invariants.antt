-- `torus::next_place` meets its contract. The loop's invariant: the coordinates below i have gone round. Assumes nothing.
use Rattle.torus.specs.GeometryLaws.{Carrying}
use Rattle.torus.proofs.next_place.Given as goal

abbrev pub invariant-loop-i : goal.invariant-loop-i
invariant-loop-i l = Carrying l.s (record { at = l.initial.at }) l.at l.i
