-- R148: the routes of a head case by case, to be laid beside the selection list of the paper (section 2.3). SelectionLaws.antt shows that they are the
-- routes of Routes.antt, for each queue number and all offsets.
--   line 1 of the list  the adaptive queue along the incoming dimension: what `in_turn` has first in the row of the head's queue number
--   line 2              the adaptive queue along another dimension; here there are two others, in the order x, y, z: what it has second and third there
--                       (which queue that is, by the sign of the offset, or none where the offset is 0: `adaptive_x`, `adaptive_y`, `adaptive_z`)
--   line 3              the escape queue of x, where dx is 0 that of y, and where dy is 0 too that of z: all of `last_case` but its last row
--   not in the list     a head that has arrived is delivered (R141): the last row of `last_case`
-- The paper's first dimension, of which its line 3 speaks, is x, and the others follow in order: y, then z.
-- Order: the sign of an offset; lines 1 and 2; line 3; the list. The numbers are those of queues and so of outputs (R32 to R34, R107). Assumes nothing.
use Rattle.std.specs.Prelude.{List, [], ◌∷◌, ◌++◌, ℕ, zero, suc, ℤ, pos, negsuc, get_or}
use Rattle.network.specs.declared.Sign.{Sign}
use Rattle.network.specs.Packet.{offset}

-- R145: above 0, below 0, or neither
abbrev pub sign : ℤ → Sign
sign (pos (suc n)) = Sign.Plus
sign (negsuc n) = Sign.Minus
sign (pos zero) = Sign.Zero

-- R142, R143, lines 1 and 2: the adaptive queue along x, of x+ or of x−
abbrev pub adaptive_x : Sign → List ℕ
adaptive_x Sign.Plus = 1 ∷ []
adaptive_x Sign.Minus = 2 ∷ []
adaptive_x Sign.Zero = []

-- along y, of y+ or of y−
abbrev pub adaptive_y : Sign → List ℕ
adaptive_y Sign.Plus = 3 ∷ []
adaptive_y Sign.Minus = 4 ∷ []
adaptive_y Sign.Zero = []

-- and along z, of z+ or of z−
abbrev pub adaptive_z : Sign → List ℕ
adaptive_z Sign.Plus = 5 ∷ []
adaptive_z Sign.Minus = 6 ∷ []
adaptive_z Sign.Zero = []

-- R146, R147, lines 1 and 2: along which dimension line 1 is, a row for each queue number: the one along which the head came, and x in the injection
-- queue; behind it the two others
unfoldable pub in_turn : ℕ → List ℕ → List ℕ → List ℕ → List ℕ
in_turn q x y z =
    get_or
    ((x ++ (y ++ z))  -- 0, injection
    ∷ (x ++ (y ++ z))  -- 1, adaptive, x+
    ∷ (x ++ (y ++ z))  -- 2, adaptive, x−
    ∷ (y ++ (x ++ z))  -- 3, adaptive, y+
    ∷ (y ++ (x ++ z))  -- 4, adaptive, y−
    ∷ (z ++ (x ++ y))  -- 5, adaptive, z+
    ∷ (z ++ (x ++ y))  -- 6, adaptive, z−
    ∷ (x ++ (y ++ z))  -- 7, escape, x+
    ∷ (x ++ (y ++ z))  -- 8, escape, x−
    ∷ (y ++ (x ++ z))  -- 9, escape, y+
    ∷ (y ++ (x ++ z))  -- 10, escape, y−
    ∷ (z ++ (x ++ y))  -- 11, escape, z+
    ∷ (z ++ (x ++ y))  -- 12, escape, z−
    ∷ [])
    q
    []

-- R144, line 3: the escape queues of x+, x−, y+, y−, z+, z−, by the signs of dx, dy and dz; and R141, the delivery
abbrev pub last_case : Sign → Sign → Sign → ℕ
last_case Sign.Plus dy dz = 7
last_case Sign.Minus dy dz = 8
last_case Sign.Zero Sign.Plus dz = 9
last_case Sign.Zero Sign.Minus dz = 10
last_case Sign.Zero Sign.Zero Sign.Plus = 11
last_case Sign.Zero Sign.Zero Sign.Minus = 12
last_case Sign.Zero Sign.Zero Sign.Zero = 0

-- R148: the list, from its first line to its last
unfoldable pub selection : ℕ → Sign → Sign → Sign → List ℕ
selection q dx dy dz = in_turn q (adaptive_x dx) (adaptive_y dy) (adaptive_z dz) ++ (last_case dx dy dz ∷ [])

-- of the head p of queue q
unfoldable pub selected : ℕ → ℕ → List ℕ
selected q p = selection q (sign (offset 0 p)) (sign (offset 1 p)) (sign (offset 2 p))
