-- R149: the cases of Selection.antt are the routes of a head, for each queue number and all offsets that a packet word can carry: every route, no
-- other, in the same order. Order: the sign of an offset; lines 1 and 2; line 3 and the delivery; the whole; the same by the offsets.
-- Assumes nothing.
use Rattle.std.specs.Prelude.{◌≡◌, ℕ}
use mathlib.Core.List.{List, [], ◌∷◌}
use Rattle.network.specs.declared.Sign.{Sign}
use Rattle.network.specs.Sizes.{plus, minus, adaptive_queue}

-- The sign of an offset ---------------------------------------------------------------------------------------------------------------

-- the direction of an offset of dimension i, if it has one
unfoldable pub ways : ℕ → Sign → List ℕ
ways i Sign.Plus = plus i ∷ []
ways i Sign.Minus = minus i ∷ []
ways i Sign.Zero = []

-- Lines 1 and 2 -----------------------------------------------------------------------------------------------------------------------

-- cases that give the adaptive queue along dimension i, in the direction of the sign
pub record Along (i : ℕ) (cases : Sign → List ℕ) : Type 0 where
  pub at-plus : cases Sign.Plus ≡ adaptive_queue (plus i) ∷ []
  pub at-minus : cases Sign.Minus ≡ adaptive_queue (minus i) ∷ []
  pub at_zero : cases Sign.Zero ≡ []
