-- Whole sheets, input and output, computed from the definitions: the worked example (R257); every letter that is printed; a packet moved by hand; the last
-- network that the store has words for, with one that needs a word more (R251). Then single commands, which the edits of the others leave as they are; and a D
-- that fills its ledger (R246). Assumes nothing.
use Rattle.std.specs.Prelude.{List, [], ◌∷◌, ℕ, ◌+◌, ◌*◌, ◌^◌, replicate}
use Rattle.network.specs.Sizes.{shape_of, sized}
use Rattle.network.specs.Calls.{offer_words}
use Rattle.network.specs.ByHand.{empty, holding}

-- two nodes, and the same with a packet for node 1 in queue 0 of node 0
abbrev pub two-nodes : List ℕ
two-nodes = empty (shape_of (sized 2 1 1 2 1 1))

abbrev pub one-waiting : List ℕ
one-waiting = offer_words two-nodes 0 1 9 1

-- R246: 2 by 1 by 1, E 2, A 2, J 1. 65 packets of one chunk that have arrived, tag 7: at both nodes sixteen in queue 1 and sixteen in queue 2, and at node 1 one
-- in queue 7
abbrev sixteen : ℕ → List ℕ
sixteen n = replicate 16 (7 * 2 ^ 32 + n * 2 ^ 16)

abbrev pub sixty-five : List ℕ
sixty-five =
    holding (holding (holding (holding (holding (empty (shape_of (sized 2 1 1 2 2 1))) 0 1 (sixteen 0)) 0 2 (sixteen 0)) 1 1 (sixteen 1)) 1 2 (sixteen 1))
    1 7 ((7 * 2 ^ 32 + 2 ^ 16) ∷ [])
