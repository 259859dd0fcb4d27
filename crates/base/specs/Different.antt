-- Lists in which no element stands twice, whatever the elements are, if they can be compared. Order: the test; that it passes exactly if every element
-- stands in the list once at most; of a list of two parts, and of a rearrangement; three rows. Assumes nothing.
use Rattle.std.specs.Prelude.{Bool, true, ◌&&◌, eqb}
use mathlib.Core.HLevel.{Discrete}
use mathlib.Core.List.{List, [], ◌∷◌}
use Rattle.base.specs.Rearrangement.{count}

-- no element stands behind itself once more
unfoldable pub all_different : {A : Type 0} → Discrete A → List A → Bool
all_different same? [] = true
all_different same? (x ∷ xs) = eqb (count same? x xs) 0 && all_different same? xs
