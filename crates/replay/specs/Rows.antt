-- Kept rows: whole sheets and the bytes of their dumps, worked out by hand from docs/RULES.md and computed from the definitions. A must-fail edit of a
-- definition names the row that it breaks. Order: what the rows are computed with; a dump; its start; the next dump; single lines. Assumes nothing.
use Rattle.std.specs.Prelude.{List, ℕ}
use Rattle.network.specs.Sizes.{shape_of, sized}
use Rattle.network.specs.Calls.{offer_words}
use Rattle.network.specs.ByHand.{empty}
use Rattle.sheet.specs.Text.{text}

-- 2 by 1 by 1, J 1: a T; an O that is taken, one that is refused by 7, and a line that is none; a D. The header has 21 + 27 bytes before the variables; of
-- these 10 lines have 24 bytes, 10 have 25 and 6 have 26; then 14 + 21, 3 for the stamp, 10, the values, 10 lines of 5 bytes and 16 of 6, and 5: 893 bytes
abbrev pub sheet : List ℕ
sheet = text "T,2,1,1,2,1,1\nO,0,1,7,1\nO,0,1,8,1\nx\nD,9\n"

-- R424: and so does the next T; one that is refused writes nothing, and neither does a D that makes no move
abbrev pub two-dumps : List ℕ
two-dumps = text "T,2,1,1,2,1,1\nT,2,1,1,1,1,1\nD,5\nT,2,1,1,2,1,1\n"

-- R423: where a packet waits in the one slot of queue 0, an O is refused by 7, one of nine chunks by 2, a T with E 1 by 2, and none of them writes anything
abbrev pub one-waiting : List ℕ
one-waiting = offer_words (empty (shape_of (sized 2 1 1 2 1 1))) 0 1 7 1
