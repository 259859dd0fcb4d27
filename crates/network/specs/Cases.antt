-- The kept cases K1 to K12 as rows of one theorem about the definitions that the contracts cite, those of the third dimension and the table of routes with
-- them, and the kept rows (Rows.antt, and TogetherRows.antt of moves in either order). A row like `k5` is computed from them; where the case is meant of any
-- network, a row like `k5-every` beside it says so of each one (K2 and K8 say it at once).
-- Order: how the rows' networks are written down (and in ByHand.antt); what the rows about every network speak of; the rows; what proves them; the theorem.
-- Assumes nothing.
use Rattle.std.specs.Prelude.{◌≡◌, ◌⊎◌, ◌≢◌, ◌↔◌, not, cond, ◌&&◌, ◌||◌, leb, ltb, eqb, ℤ, pos, negsuc, length, get_or, take, set, replicate, Some, Ok}
use Rattle.std.proofs.Math.Bool.{false}
use mathlib.Core.List.{List, [], ◌∷◌, ◌++◌, map}
use Prim.Native.Nat.{ℕ, zero, suc, ◌+◌, ◌*◌, ◌-◌, ◌/◌, ◌%◌, ◌^◌, ◌<◌, ◌≤◌}
use Rattle.std.proofs.Math.Dec.{T}
use Rattle.base.specs.Tests.{elem}
use Rattle.base.specs.Sums.{sum_below}
use Rattle.network.specs.declared.Stop.{Stop}
use Rattle.network.specs.declared.Sizes.{Sizes}
use Rattle.network.specs.Sizes.{Shape, shape_of, sized, size, within, sizes_in_range, most_chunks, nodes, queues, directions, dimensions, dimension_of, direction_of, is_plus, injection_queue, escape_queue}
use Rattle.network.specs.Packet.{signed, tag, destination, chunks, spare, upper_spare, offset, with_offset, distance, hops, hops_left, hop, label}
use Rattle.network.specs.Torus.{coordinate, along, neighbour}
use Rattle.network.specs.Layout.{header_words, shape, moves_at, need, held}
use Rattle.network.specs.Check.{packet_fits, queues_fit, ring_has_room, packets_held, counters_fit}
use Rattle.network.specs.Routes.{deliver, in_order, routes, target}
use Rattle.network.specs.Selection.{selected}
use Rattle.network.specs.Refusals.{network_refusal, make_refusal, offer_refusal, head, move_refusal, credit_refusal, look_refusal}
use Rattle.network.specs.Calls.{offered_steps, offered, offer_words, move_words, move_answer, first_answer, drain_ledger, drain_answer, drain_of, move_of}
use Rattle.network.specs.CheckLaws.{Loaded}
use Rattle.network.specs.ByHand.{packet, here, straight, of_chunks, empty, holding, only, chosen}
use Rattle.network.specs.Rows.{KeptRows}
use Rattle.network.specs.TogetherRows.{TogetherRows}

-- the offset of one hop in direction d
abbrev one_way : ℕ → ℤ
one_way d = cond (is_plus d) (pos 1) (negsuc 0)

-- so many words are what these sizes need: enough for Make, whatever they hold, and one less is refused, by Check too
abbrev Enough : Shape → ℕ → Type 0
Enough S words =
    (need S ≡ words)
    × ((w : List ℕ) → length w ≡ words → make_refusal S w ≡ 0)
    × ((w : List ℕ) → length w ≡ words - 1 → make_refusal S w ≡ 1)
    × ((w : List ℕ) → length w ≡ words - 1 → shape w ≡ S → network_refusal w ≡ 1)

-- the word of an offer in an empty network, by its tag and chunks, and that it stands in the injection queue of the node
abbrev pub Offered : Shape → ℕ → ℕ → ℕ → ℕ → ℕ → Type 0
Offered S n destination tag chunks word =
    (offered S n destination tag chunks ≡ word) × (held S (offer_words (empty S) n destination tag chunks) n injection_queue ≡ word ∷ [])

-- K1, K3, K4: 4 by 3 by 1, E 2, A 1, J 1
abbrev pub four-by-three : Shape
four-by-three = shape_of (sized 4 3 1 2 1 1)

-- K2: the largest sizes in two dimensions, and in three
abbrev pub largest-plane : Shape
largest-plane = shape_of (sized 16 16 1 8 8 8)

abbrev pub largest : Shape
largest = shape_of (sized 16 16 16 8 8 8)

-- K3: 6 by 2 by 1, where half-way round leads from an even column or row to an odd one, and back
abbrev pub six-by-two : Shape
six-by-two = shape_of (sized 6 2 1 2 1 1)

-- 2 by 2 by 2, where it does so along each dimension
abbrev pub two-cubed : Shape
two-cubed = shape_of (sized 2 2 2 2 1 1)

-- 4 by 2 by 1, and by hand two packets half-way round both dimensions: plus from an odd column and an odd row, minus from an even column and an even row
abbrev pub four-by-two : Shape
four-by-two = shape_of (sized 4 2 1 2 1 1)

abbrev pub against-parity : List ℕ
against-parity =
    holding (holding (empty four-by-two) 5 injection_queue (packet 3 (pos 2) (pos 1) (pos 0) ∷ []))
    0 injection_queue (packet 6 (negsuc 1) (negsuc 0) (pos 0) ∷ [])

-- one size along dimension i, another along the others; E 2, A 1, J 1
abbrev pub long_along : ℕ → ℕ → ℕ → Shape
long_along long others i = shape_of (sized (cond (eqb i 0) long others) (cond (eqb i 1) long others) (cond (eqb i 2) long others) 2 1 1)

-- K5 to K7: 4 along the dimension of direction d, 2 along the others; the node so many steps from node 0 in direction d, round the edge with the first step
-- for the minus directions
abbrev four-along : ℕ → Shape
four-along d = long_along 4 2 (dimension_of d)

unfoldable pub on_ring : ℕ → ℕ → ℕ
on_ring d zero = 0
on_ring d (suc steps) = neighbour (four-along d) d (on_ring d steps)

-- a packet at that node with one hop left, in direction d
unfoldable pub one_hop : ℕ → ℕ → ℕ
one_hop d steps = straight (on_ring d (suc steps)) (dimension_of d) (one_way d)

-- outside that packet's ring: every other queue of its node in which the check lets it stand. Its sign keeps it from the adaptive and escape queues
-- of the opposite direction, and a hop left along one dimension from the escape queues of the later ones; so into an x ring there is no turn from an
-- escape queue
unfoldable pub outside : ℕ → List ℕ
outside d = chosen (λ q. packet_fits (four-along d) 0 q (one_hop d 0) && not (eqb q (escape_queue d))) (in_order 0 queues)

-- where it may come from: its own ring first
unfoldable pub sources : ℕ → List ℕ
sources d = escape_queue d ∷ outside d

-- the packet alone in each of these queues of node n
unfoldable pub in_each : List ℕ → ℕ → ℕ → List ℕ → List ℕ
in_each w n p [] = w
in_each w n p (q ∷ qs) = holding (in_each w n p qs) n q (p ∷ [])

-- at one node the packet in each of its sources, and behind it in the ring's own queue as many that have arrived as are given
unfoldable pub in_sources : List ℕ → ℕ → ℕ → ℕ → List ℕ
in_sources w d steps behind =
    holding (in_each w (on_ring d steps) (one_hop d steps) (outside d)) (on_ring d steps) (escape_queue d) (one_hop d steps ∷ replicate behind (here (on_ring d steps)))

-- so at three nodes of the ring one after the other: in the escape queue ahead of node 0 stands one packet, two stand ahead of the second node and none ahead
-- of the third. The check is computed once for the three cases of a direction
unfoldable pub crossing : ℕ → List ℕ
crossing d = in_sources (in_sources (in_sources (empty (four-along d)) d 2 1) d 1 0) d 0 0

-- the refusals of that node's packets on their way into the escape queue ahead: from the ring's own queue, and from each one outside
abbrev pub Entries : ℕ → ℕ → ℕ → ℕ → Type 0
Entries d steps own others =
    map (λ q. move_refusal (crossing d) (on_ring d steps) q (escape_queue d)) (sources d) ≡ own ∷ replicate (length (outside d)) others

-- K9, K10: 4 by 1 by 1, and by hand a packet in the injection queue of node 0 with one hop left in x+, and one in the escape queue x+ of node 1 that has
-- arrived
abbrev pub before-and-after : List ℕ
before-and-after = holding (only (long_along 4 1 0) injection_queue (packet 1 (pos 1) (pos 0) (pos 0))) 1 7 (here 1 ∷ [])

-- 2 by 1 by 2, and 1 by 2 by 2: rings of x and z alone, and of y and z
abbrev along-x-and-z : Shape
along-x-and-z = shape_of (sized 2 1 2 2 1 1)

abbrev along-y-and-z : Shape
along-y-and-z = shape_of (sized 1 2 2 2 1 1)

-- a turn: by hand a packet in the escape queue x+ of node 0 with one hop left in z+, to node 2, and in the escape queue z+ there as many that have arrived
-- as are given
abbrev pub turning : ℕ → List ℕ
turning count = holding (only along-x-and-z 7 (packet 2 (pos 0) (pos 0) (pos 1))) 2 11 (replicate count (here 2))

-- 2 by 2 by 4, and by hand a packet in the adaptive queue z+ of node 0 with one hop left in x+, in y+ and in z+; the adaptive queues of these outputs are
-- full, each by one packet of eight chunks
unfoldable pub blocked : List ℕ → List ℕ
blocked [] = only (long_along 4 2 2) 5 (packet 7 (pos 1) (pos 1) (pos 1))
blocked (o ∷ os) = holding (blocked os) (target (long_along 4 2 2) 0 o) o (of_chunks 8 (here (target (long_along 4 2 2) 0 o)) ∷ [])

-- First names these outputs of that packet, each where those before it are full
abbrev TriedInTurn : ℕ → ℕ → ℕ → ℕ → Type 0
TriedInTurn first second third last =
    (first_answer (blocked []) ≡ Ok (Some (move_of 0 5 first)))
    × (first_answer (blocked (first ∷ [])) ≡ Ok (Some (move_of 0 5 second)))
    × (first_answer (blocked (second ∷ first ∷ [])) ≡ Ok (Some (move_of 0 5 third)))
    × (first_answer (blocked (third ∷ second ∷ first ∷ [])) ≡ Ok (Some (move_of 0 5 last)))

-- of this packet in the injection queue of node 0 of 2 by 2 by 2: the refusals by each output
abbrev pub leaving : ℕ → List ℕ
leaving p = map (λ o. move_refusal (only two-cubed injection_queue p) 0 injection_queue o) (in_order 0 queues)

-- in which queues of that node it may stand
abbrev pub standing : ℕ → List ℕ
standing p = chosen (λ q. packet_fits two-cubed 0 q p) (in_order 0 queues)

-- K11: 2 along the dimension of direction d and 1 along the others, E 2; the escape queues of that direction at nodes 0 and 1 hold what is given
abbrev pair : ℕ → List ℕ → List ℕ → List ℕ
pair d ps qs = holding (holding (empty (long_along 2 1 (dimension_of d))) 0 (escape_queue d) ps) 1 (escape_queue d) qs

-- K12: 1 by 1 by 1, and by hand a packet for its own node in the injection queue
abbrev one-node : Shape
one-node = shape_of (sized 1 1 1 2 1 1)

abbrev pub alone : List ℕ
alone = only one-node injection_queue (here 0)

-- 2 by 2 by 2, and by hand such a packet in each queue of node 0
abbrev pub in-every-queue : List ℕ
in-every-queue = in_each (empty two-cubed) 0 (here 0) (in_order 0 queues)

-- three sizes that all differ
abbrev two-three-five : Shape
two-three-five = shape_of (sized 2 3 5 2 1 1)

-- a word with all fields: tag 7, bit 31, 5 chunks, destination 6, bit 15, dx −2, dy 3 and dz −16: 7 × 2^32 + 2^31 + 4 × 2^28 + 6 × 2^16 + 2^15 + 30 × 2^10 +
-- 3 × 2^5 + 16
abbrev pub a_word : ℕ
a_word = 33286453360

-- the table of R149: a head by its offsets, and its routes in the queues where x is the incoming dimension, where y is, and where z is
pub record TableRow : Type 0 where
  pub head : ℕ
  pub from-x : List ℕ
  pub from-y : List ℕ
  pub from-z : List ℕ

abbrev row : ℤ → ℤ → ℤ → List ℕ → List ℕ → List ℕ → TableRow
row dx dy dz x y z = record { head = packet 0 dx dy dz; from-x = x; from-y = y; from-z = z }

-- the signs, by the largest and the least number that the field of an offset holds
abbrev pub none : ℤ
none = pos 0

abbrev pub most : ℤ
most = pos 15

abbrev least : ℤ
least = negsuc 15

abbrev table : List TableRow
table =
    row none none none (0 ∷ []) (0 ∷ []) (0 ∷ [])
    ∷ row most none none (1 ∷ 7 ∷ []) (1 ∷ 7 ∷ []) (1 ∷ 7 ∷ [])
    ∷ row least none none (2 ∷ 8 ∷ []) (2 ∷ 8 ∷ []) (2 ∷ 8 ∷ [])
    ∷ row none most none (3 ∷ 9 ∷ []) (3 ∷ 9 ∷ []) (3 ∷ 9 ∷ [])
    ∷ row none least none (4 ∷ 10 ∷ []) (4 ∷ 10 ∷ []) (4 ∷ 10 ∷ [])
    ∷ row none none most (5 ∷ 11 ∷ []) (5 ∷ 11 ∷ []) (5 ∷ 11 ∷ [])
    ∷ row none none least (6 ∷ 12 ∷ []) (6 ∷ 12 ∷ []) (6 ∷ 12 ∷ [])
    ∷ row most most none (1 ∷ 3 ∷ 7 ∷ []) (3 ∷ 1 ∷ 7 ∷ []) (1 ∷ 3 ∷ 7 ∷ [])
    ∷ row most least none (1 ∷ 4 ∷ 7 ∷ []) (4 ∷ 1 ∷ 7 ∷ []) (1 ∷ 4 ∷ 7 ∷ [])
    ∷ row least most none (2 ∷ 3 ∷ 8 ∷ []) (3 ∷ 2 ∷ 8 ∷ []) (2 ∷ 3 ∷ 8 ∷ [])
    ∷ row least least none (2 ∷ 4 ∷ 8 ∷ []) (4 ∷ 2 ∷ 8 ∷ []) (2 ∷ 4 ∷ 8 ∷ [])
    ∷ row most none most (1 ∷ 5 ∷ 7 ∷ []) (1 ∷ 5 ∷ 7 ∷ []) (5 ∷ 1 ∷ 7 ∷ [])
    ∷ row most none least (1 ∷ 6 ∷ 7 ∷ []) (1 ∷ 6 ∷ 7 ∷ []) (6 ∷ 1 ∷ 7 ∷ [])
    ∷ row least none most (2 ∷ 5 ∷ 8 ∷ []) (2 ∷ 5 ∷ 8 ∷ []) (5 ∷ 2 ∷ 8 ∷ [])
    ∷ row least none least (2 ∷ 6 ∷ 8 ∷ []) (2 ∷ 6 ∷ 8 ∷ []) (6 ∷ 2 ∷ 8 ∷ [])
    ∷ row none most most (3 ∷ 5 ∷ 9 ∷ []) (3 ∷ 5 ∷ 9 ∷ []) (5 ∷ 3 ∷ 9 ∷ [])
    ∷ row none most least (3 ∷ 6 ∷ 9 ∷ []) (3 ∷ 6 ∷ 9 ∷ []) (6 ∷ 3 ∷ 9 ∷ [])
    ∷ row none least most (4 ∷ 5 ∷ 10 ∷ []) (4 ∷ 5 ∷ 10 ∷ []) (5 ∷ 4 ∷ 10 ∷ [])
    ∷ row none least least (4 ∷ 6 ∷ 10 ∷ []) (4 ∷ 6 ∷ 10 ∷ []) (6 ∷ 4 ∷ 10 ∷ [])
    ∷ row most most most (1 ∷ 3 ∷ 5 ∷ 7 ∷ []) (3 ∷ 1 ∷ 5 ∷ 7 ∷ []) (5 ∷ 1 ∷ 3 ∷ 7 ∷ [])
    ∷ row most most least (1 ∷ 3 ∷ 6 ∷ 7 ∷ []) (3 ∷ 1 ∷ 6 ∷ 7 ∷ []) (6 ∷ 1 ∷ 3 ∷ 7 ∷ [])
    ∷ row most least most (1 ∷ 4 ∷ 5 ∷ 7 ∷ []) (4 ∷ 1 ∷ 5 ∷ 7 ∷ []) (5 ∷ 1 ∷ 4 ∷ 7 ∷ [])
    ∷ row most least least (1 ∷ 4 ∷ 6 ∷ 7 ∷ []) (4 ∷ 1 ∷ 6 ∷ 7 ∷ []) (6 ∷ 1 ∷ 4 ∷ 7 ∷ [])
    ∷ row least most most (2 ∷ 3 ∷ 5 ∷ 8 ∷ []) (3 ∷ 2 ∷ 5 ∷ 8 ∷ []) (5 ∷ 2 ∷ 3 ∷ 8 ∷ [])
    ∷ row least most least (2 ∷ 3 ∷ 6 ∷ 8 ∷ []) (3 ∷ 2 ∷ 6 ∷ 8 ∷ []) (6 ∷ 2 ∷ 3 ∷ 8 ∷ [])
    ∷ row least least most (2 ∷ 4 ∷ 5 ∷ 8 ∷ []) (4 ∷ 2 ∷ 5 ∷ 8 ∷ []) (5 ∷ 2 ∷ 4 ∷ 8 ∷ [])
    ∷ row least least least (2 ∷ 4 ∷ 6 ∷ 8 ∷ []) (4 ∷ 2 ∷ 6 ∷ 8 ∷ []) (6 ∷ 2 ∷ 4 ∷ 8 ∷ [])
    ∷ []

abbrev x-column : List (List ℕ)
x-column = map (λ r. r.from-x) table

abbrev y-column : List (List ℕ)
y-column = map (λ r. r.from-y) table

abbrev z-column : List (List ℕ)
z-column = map (λ r. r.from-z) table

-- two nodes, a chunk number and a dimension of any sizes in range
pub record Between (w : List ℕ) (n destination chunks i : ℕ) : Type 0 where
  pub in-range : T (sizes_in_range (shape w))
  pub from : n < nodes (shape w)
  pub to : destination < nodes (shape w)
  pub few : chunks ≤ most_chunks
  pub dimension : i < dimensions

-- sizes with no node along some dimension, or one more than a ring may have
abbrev pub NoRing : Sizes → Type 0
NoRing s = (i : ℕ) × (i < dimensions) × ((size (shape_of s) i ≡ 0) ⊎ (size (shape_of s) i ≡ 17))

-- in any words: the head of queue q of node n, and that it is there to be moved
abbrev pub head_of : List ℕ → ℕ → ℕ → ℕ
head_of w n q = head (held (shape w) w n q)

pub record Standing (w : List ℕ) (n q : ℕ) : Type 0 where
  pub passes : network_refusal w ≡ 0
  pub node : n < nodes (shape w)
  pub queue : q < queues
  pub holds : length (held (shape w) w n q) ≢ 0

-- in any words, of which X, Y and Z are the first three: there are X × Y × Z nodes, and node n is (z × Y + y) × X + x
abbrev pub Numbered : List ℕ → ℕ → Type 0
Numbered w n =
    (nodes (shape w) ≡ get_or w 0 0 * (get_or w 1 0 * get_or w 2 0))
    × (n ≡ (coordinate (shape w) 2 n * get_or w 1 0 + coordinate (shape w) 1 n) * get_or w 0 0 + coordinate (shape w) 0 n)

-- a packet that a network holds, in queue q of node n
pub record Within (w : List ℕ) (n q p : ℕ) : Type 0 where
  pub passes : network_refusal w ≡ 0
  pub node : n < nodes (shape w)
  pub queue : q < queues
  pub held-there : T (elem p (held (shape w) w n q))

-- E is 2, and the escape queue of direction d at the neighbour is a route of that head
pub record Entering (w : List ℕ) (n q d : ℕ) : Type 0 where
  pub standing : Standing w n q
  pub two-slots : (shape w).escape ≡ 2
  pub direction : d < directions
  pub route : T (elem (escape_queue d) (routes q (head_of w n q)))

-- the packets that stand there already
abbrev pub ahead : List ℕ → ℕ → ℕ → ℕ
ahead w n d = length (held (shape w) w (target (shape w) n (escape_queue d)) (escape_queue d))

-- the packets in the escape ring of direction d through node n
abbrev pub in_ring : List ℕ → ℕ → ℕ → ℕ
in_ring w d n = sum_below (size (shape w) (dimension_of d)) (λ j. length (held (shape w) w (along (shape w) d j n) (escape_queue d)))

-- the rings of direction d go through two nodes each, and E is 2
pub record RingsOfTwo (w : List ℕ) (d : ℕ) : Type 0 where
  pub in-range : T (sizes_in_range (shape w))
  pub long : need (shape w) ≤ length w
  pub direction : d < directions
  pub two-nodes : size (shape w) (dimension_of d) ≡ 2
  pub two-slots : (shape w).escape ≡ 2

pub record KeptCases : Type 0 where
  -- the words that the sizes 4 by 3 by 1, E 2, A 1, J 1 need
  pub k1 : need four-by-three ≡ 897
  -- the words that the largest sizes with Z 1 need, and those of the largest network
  pub k2 : Enough largest-plane 115977
  pub k2-largest : Enough largest 1855497
  -- the word of an offer from node 0 to node 6 with tag 7, of one chunk and of eight, and where it stands
  pub k3 : Offered four-by-three 0 6 7 1 30065166368 × Offered four-by-three 0 6 7 8 31944214560
  -- the same one column on: half-way round from an odd column is minus
  pub k3-odd-column : Offered four-by-three 1 7 7 1 30065260576
  -- from an odd row, of a node with an even number, to an even row
  pub k3-odd-row : Offered six-by-two 6 0 7 1 30064772064
  -- from an odd column of an even row, and from an even column of an odd row: each offset by its own coordinate
  pub k3-parities-differ : Offered six-by-two 1 10 7 1 30065456160 × Offered six-by-two 6 3 7 1 30064971744
  -- from (0, 0, 1) to (1, 1, 0), and back: along z half-way round goes by the parity of z, whatever that of x, of y and of the node's number
  pub k3-parity-of-z : Offered two-cubed 4 3 7 1 30064968767 × Offered two-cubed 3 4 7 1 30065065953
  -- any sizes in range, and each dimension: where one way is shorter the offset is that way, from every coordinate; where both are equal it is plus
  -- from an even coordinate of the sending node and minus from an odd one; and no ring of an odd size has two equal ways
  pub k3-every : (w : List ℕ) (n destination tag chunks i : ℕ) → Between w n destination chunks i
      → (2 * offered_steps (shape w) n destination i ≢ size (shape w) i
      → offset i (offered (shape w) n destination tag chunks)
      ≡ cond (ltb (2 * offered_steps (shape w) n destination i) (size (shape w) i)) (pos (offered_steps (shape w) n destination i))
      (negsuc (size (shape w) i - offered_steps (shape w) n destination i - 1)))
      × (2 * offered_steps (shape w) n destination i ≡ size (shape w) i
      → offset i (offered (shape w) n destination tag chunks)
      ≡ cond (eqb (coordinate (shape w) i n % 2) 0) (pos (size (shape w) i / 2)) (negsuc (size (shape w) i / 2 - 1)))
      × (size (shape w) i % 2 ≢ 0 → 2 * offered_steps (shape w) n destination i ≢ size (shape w) i)
  -- R304, packets held half-way round against the parity of their column and row: they pass the check, their moves are those of their signs and
  -- all others are refused by 10; a hop along y, in the same column, leaves dx as it was, and one along x, in the same row, dy; the next hop is along x
  pub k3-held : (network_refusal against-parity ≡ 0)
      × (map (λ o. move_refusal against-parity 5 0 o) (in_order 0 queues) ≡ 10 ∷ 0 ∷ 10 ∷ 0 ∷ 10 ∷ 10 ∷ 10 ∷ 0 ∷ 10 ∷ 10 ∷ 10 ∷ 10 ∷ 10 ∷ [])
      × (map (λ o. move_refusal against-parity 0 0 o) (in_order 0 queues) ≡ 10 ∷ 10 ∷ 0 ∷ 10 ∷ 0 ∷ 10 ∷ 10 ∷ 10 ∷ 0 ∷ 10 ∷ 10 ∷ 10 ∷ 10 ∷ [])
      × (held four-by-two (move_words against-parity 5 0 3) 1 3 ≡ packet 3 (pos 2) (pos 0) (pos 0) ∷ [])
      × (held four-by-two (move_words against-parity 0 0 4) 4 4 ≡ packet 6 (negsuc 1) (pos 0) (pos 0) ∷ [])
      × (held four-by-two (move_words against-parity 5 0 1) 6 1 ≡ packet 3 (pos 1) (pos 1) (pos 0) ∷ [])
      × (held four-by-two (move_words against-parity 0 0 2) 3 2 ≡ packet 6 (negsuc 0) (negsuc 0) (pos 0) ∷ [])
      × (held four-by-two (move_words (move_words against-parity 5 0 3) 1 3 1) 2 1 ≡ packet 3 (pos 1) (pos 0) (pos 0) ∷ [])
      × (held four-by-two (move_words (move_words against-parity 0 0 4) 4 4 2) 7 2 ≡ packet 6 (negsuc 0) (pos 0) (pos 0) ∷ [])
  -- any packet: no hop adds hops left in any direction
  pub k3-held-every : (i d p : ℕ) → i < dimensions → d < directions → hops d (hop i p) ≤ hops d p
  -- any sizes, node, queue and packet: half-way round the check judges both signs alike
  pub k3-fits-every : (w : List ℕ) (n q i h p : ℕ) → T (sizes_in_range (shape w)) → n < nodes (shape w) → i < dimensions
      → 2 * h ≡ size (shape w) i
      → packet_fits (shape w) n q (with_offset i (pos h) p) ≡ packet_fits (shape w) n q (with_offset i (negsuc (h - 1)) p)
  -- from node 0 to node 11, dx and dy negative
  pub k4 : Offered four-by-three 0 11 0 1 753632
  -- the rows K5 to K7 go through these queues, for x+, x−, y+, y−, z+ and z− (directions 0 to 5): the ring's own, then the injection queue, the adaptive
  -- queues but that of the opposite direction, and for y and z the escape queues of the lower dimensions, from which a packet turns
  pub k5-sources : (sources 0 ≡ 7 ∷ 0 ∷ 1 ∷ 3 ∷ 4 ∷ 5 ∷ 6 ∷ [])
      × (sources 1 ≡ 8 ∷ 0 ∷ 2 ∷ 3 ∷ 4 ∷ 5 ∷ 6 ∷ [])
      × (sources 2 ≡ 9 ∷ 0 ∷ 1 ∷ 2 ∷ 3 ∷ 5 ∷ 6 ∷ 7 ∷ 8 ∷ [])
      × (sources 3 ≡ 10 ∷ 0 ∷ 1 ∷ 2 ∷ 4 ∷ 5 ∷ 6 ∷ 7 ∷ 8 ∷ [])
      × (sources 4 ≡ 11 ∷ 0 ∷ 1 ∷ 2 ∷ 3 ∷ 4 ∷ 5 ∷ 7 ∷ 8 ∷ 9 ∷ 10 ∷ [])
      × (sources 5 ≡ 12 ∷ 0 ∷ 1 ∷ 2 ∷ 3 ∷ 4 ∷ 6 ∷ 7 ∷ 8 ∷ 9 ∷ 10 ∷ [])
  -- in each direction, one packet ahead: the ring's own queue may go on, every other one lacks the bubble
  pub k5-passes : (d : ℕ) → d < directions → network_refusal (crossing d) ≡ 0
  pub k5 : (d : ℕ) → d < directions → Entries d 0 0 12
  pub k5-every : (w : List ℕ) (n q d : ℕ) → Entering w n q d → ahead w n d ≡ 1
      → move_refusal w n q (escape_queue d) ≡ cond (eqb q (escape_queue d)) 0 12
  -- a turn from an x ring into a z ring enters that ring: one packet ahead, none, two
  pub k5-turn-into-z : (map (λ count. network_refusal (turning count)) (0 ∷ 1 ∷ 2 ∷ []) ≡ 0 ∷ 0 ∷ 0 ∷ [])
      × (move_refusal (turning 1) 0 7 11 ≡ 12)
      × (move_refusal (turning 0) 0 7 11 ≡ 0)
      × (move_refusal (turning 2) 0 7 11 ≡ 11)
  -- two ahead: no slot, wherever the packet stands
  pub k6 : (d : ℕ) → d < directions → Entries d 1 11 11
  pub k6-every : (w : List ℕ) (n q d : ℕ) → Entering w n q d → ahead w n d ≡ 2 → move_refusal w n q (escape_queue d) ≡ 11
  -- none ahead: permitted, wherever it stands
  pub k7 : (d : ℕ) → d < directions → Entries d 2 0 0
  pub k7-every : (w : List ℕ) (n q d : ℕ) → Entering w n q d → ahead w n d ≡ 0 → move_refusal w n q (escape_queue d) ≡ 0
  -- one of these sizes, E 1 or along any one dimension 0 or 17, is enough, whatever the others are and the words hold: for Make in a store of any length,
  -- for Check in one that has a header
  pub k8 : (s : Sizes) (w : List ℕ) → (s.escape ≡ 1) ⊎ NoRing s
      → (make_refusal (shape_of s) w ≡ 2) × (header_words ≤ length w → shape w ≡ shape_of s → network_refusal w ≡ 2)
  -- a packet with a hop left in x+ is not delivered, and one that has arrived does not go on in the ring
  pub k9 : (network_refusal before-and-after ≡ 0) × (move_refusal before-and-after 0 0 0 ≡ 10) × (move_refusal before-and-after 1 7 7 ≡ 10)
  pub k9-every : (w : List ℕ) (n q : ℕ) → Standing w n q
      → ((i : ℕ) → i < dimensions → distance i (head_of w n q) ≢ 0 → move_refusal w n q 0 ≡ 10)
      × (((i : ℕ) → i < dimensions → distance i (head_of w n q) ≡ 0) → (d : ℕ) → d < directions → move_refusal w n q (escape_queue d) ≡ 10)
  -- no move is made without a budget, and nothing held goes before nothing left to spend
  pub k10 : (room : ℕ)
      → (drain_answer (empty four-by-three) 0 room ≡ Ok (drain_of 0 0 Stop.Emptied))
      × (drain_answer before-and-after 0 room ≡ Ok (drain_of 0 0 Stop.Spent))
  pub k10-every : (w : List ℕ) (room : ℕ) → network_refusal w ≡ 0
      → drain_answer w 0 room ≡ Ok (drain_of 0 0 (cond (eqb (packets_held (shape w) w) 0) Stop.Emptied Stop.Spent))
  -- in each direction, a ring of four slots: full it is refused, with one slot free it passes; a hop left in a queue of a ring of two nodes is refused
  pub k11 : (d : ℕ) → d < directions
      → (network_refusal (pair d (here 0 ∷ here 0 ∷ []) (here 1 ∷ here 1 ∷ [])) ≡ 3)
      × (network_refusal (pair d (here 0 ∷ here 0 ∷ []) (here 1 ∷ [])) ≡ 0)
      × (network_refusal (pair d (here 0 ∷ straight 1 (dimension_of d) (one_way d) ∷ []) (here 1 ∷ [])) ≡ 3)
  -- any words that are long enough for sizes in range, and rings of any direction: one full ring is refused; where no ring of the direction holds
  -- more than three, and the queues, the other rings and the counters are right, they pass
  pub k11-every : (w : List ℕ) (d : ℕ) → RingsOfTwo w d
      → ((n : ℕ) → n < nodes (shape w) → in_ring w d n ≡ 4 → network_refusal w ≡ 3)
      × (T (queues_fit (shape w) w)
      → ((e n : ℕ) → e < directions → n < nodes (shape w) → e ≢ d → T (ring_has_room (shape w) w e n))
      → T (counters_fit (shape w) w)
      → ((n : ℕ) → n < nodes (shape w) → in_ring w d n ≤ 3)
      → network_refusal w ≡ 0)
  -- the offer of a one-node torus to itself is refused, and writes nothing
  pub k12 : (offer_refusal (empty one-node) 0 0 1 ≡ 14) × ((tag : ℕ) → offer_words (empty one-node) 0 0 tag 1 ≡ empty one-node)
  -- any network, whatever it has accepted and however full its queues are: 14 is told exactly where a node offers to itself by a chunk number from 1 to 8, so
  -- in a network of one node of every such offer between nodes; of one number twice that is no node 4 is told, whatever the chunk number
  pub k12-every : (w : List ℕ) (n destination chunks : ℕ) → network_refusal w ≡ 0
      → ((offer_refusal w n destination chunks ≡ 14) ↔ ((n < nodes (shape w)) × (n ≡ destination) × T (within 1 8 chunks)))
      × (nodes (shape w) ≡ 1 → n < nodes (shape w) → destination < nodes (shape w) → 1 ≤ chunks → chunks ≤ 8 → offer_refusal w n destination chunks ≡ 14)
      × (nodes (shape w) ≤ n → offer_refusal w n n chunks ≡ 4)
  -- any network: 2 is told of an offer exactly where node and destination are nodes and the chunk number is outside 1 to 8, whatever 14, 8 and 7 would say
  pub chunk-number-every : (w : List ℕ) (n destination chunks : ℕ) → network_refusal w ≡ 0
      → (offer_refusal w n destination chunks ≡ 2) ↔ ((n < nodes (shape w)) × (destination < nodes (shape w)) × T (not (within 1 8 chunks)))
  -- any network, whatever chunks its packets have: in each queue the load is the number held at least and eight times that at most, and no more packets are held
  -- than the capacity, so in an adaptive queue 8 × A
  pub load-every : (w : List ℕ) (n q : ℕ) → network_refusal w ≡ 0 → n < nodes (shape w) → q < queues → Loaded (shape w) w n q
  -- R86, a packet for its own node that is held already passes: First names its delivery, no other output is permitted, a Drain needs that move alone
  -- and puts its word into the ledger
  pub k12-held : (network_refusal alone ≡ 0)
      × (first_answer alone ≡ Ok (Some (move_of 0 0 0)))
      × (map (λ o. move_refusal alone 0 0 o) (in_order 0 queues) ≡ 0 ∷ replicate 12 10)
      × ((budget room : ℕ) → drain_answer alone (suc budget) (suc room) ≡ Ok (drain_of 1 1 Stop.Emptied))
      × ((budget l : ℕ) (ledger : List ℕ) → drain_ledger alone (suc budget) (l ∷ ledger) ≡ here 0 ∷ ledger)
  -- in each of the thirteen queues: all pass, and a Drain hands out all thirteen, in thirteen moves
  pub k12-in-every-queue : (network_refusal in-every-queue ≡ 0)
      × (drain_answer in-every-queue 13 13 ≡ Ok (drain_of 13 13 Stop.Emptied))
      × (drain_ledger in-every-queue 13 (replicate 13 0) ≡ replicate 13 (here 0))
  -- any network: a head without hops left is delivered by output 0 and goes nowhere else; and the check lets such a packet stand in the injection
  -- queue of its destination and in the queues of a dimension of two nodes or more, if the bits 15 and 31 are clear
  pub k12-held-every : (w : List ℕ) (n q : ℕ) → Standing w n q → hops_left (head_of w n q) ≡ 0
      → (move_answer w n q deliver ≡ Ok (Some (head_of w n q))) × ((o : ℕ) → o < queues → o ≢ deliver → move_refusal w n q o ≡ 10)
  pub k12-fits-every : (w : List ℕ) (n q p : ℕ) → T (sizes_in_range (shape w)) → n < nodes (shape w) → spare p ≡ 0 → upper_spare p ≡ 0 → hops_left p ≡ 0
      → destination p ≡ n
      → packet_fits (shape w) n q p ≡ (eqb q injection_queue || leb 2 (size (shape w) (dimension_of (direction_of q))))
  -- the table of routes, R149: for queues 0 to 12 the column that holds there
  pub routes-table : map (λ q. map (λ r. routes q r.head) table) (in_order 0 queues)
      ≡ x-column ∷ x-column ∷ x-column ∷ y-column ∷ y-column ∷ z-column ∷ z-column
      ∷ x-column ∷ x-column ∷ y-column ∷ y-column ∷ z-column ∷ z-column ∷ []
  -- any head in any queue: its routes are what Selection.antt gives case by case
  pub routes-every : (q p : ℕ) → q < queues → selected q p ≡ routes q p
  -- the third dimension, a row for each clause that came with it, with Z above 1 wherever the clause speaks of more than one node
  -- R142, R143, R147, a head with hops left in x+, y+ and z+: in the injection queue and the x queues x is first, then y and z; in the y queues y, then x and
  -- z; in the z queues z, then x and y; after them in each the escape queue of x. First tries them in this order
  pub adaptive-order : (map (λ q. routes q (packet 0 (pos 1) (pos 1) (pos 1))) (0 ∷ 1 ∷ 2 ∷ 7 ∷ 8 ∷ []) ≡ replicate 5 (1 ∷ 3 ∷ 5 ∷ 7 ∷ []))
      × (map (λ q. routes q (packet 0 (pos 1) (pos 1) (pos 1))) (3 ∷ 4 ∷ 9 ∷ 10 ∷ []) ≡ replicate 4 (3 ∷ 1 ∷ 5 ∷ 7 ∷ []))
      × (map (λ q. routes q (packet 0 (pos 1) (pos 1) (pos 1))) (5 ∷ 6 ∷ 11 ∷ 12 ∷ []) ≡ replicate 4 (5 ∷ 1 ∷ 3 ∷ 7 ∷ []))
      × TriedInTurn 5 1 3 7
  -- R144, of three heads, with hops left along x, y and z, along y and z, and along z: which outputs are permitted, and of the escape queues only that of
  -- the first of x, y, z
  pub escape-order : (leaving (packet 7 (pos 1) (pos 1) (pos 1)) ≡ 10 ∷ 0 ∷ 10 ∷ 0 ∷ 10 ∷ 0 ∷ 10 ∷ 0 ∷ 10 ∷ 10 ∷ 10 ∷ 10 ∷ 10 ∷ [])
      × (leaving (packet 6 (pos 0) (pos 1) (pos 1)) ≡ 10 ∷ 10 ∷ 10 ∷ 0 ∷ 10 ∷ 0 ∷ 10 ∷ 10 ∷ 10 ∷ 0 ∷ 10 ∷ 10 ∷ 10 ∷ [])
      × (leaving (packet 4 (pos 0) (pos 0) (pos 1)) ≡ 10 ∷ 10 ∷ 10 ∷ 10 ∷ 10 ∷ 0 ∷ 10 ∷ 10 ∷ 10 ∷ 10 ∷ 10 ∷ 0 ∷ 10 ∷ [])
  -- R30, R36, 2 by 3 by 5: the header that Make writes, the node (1, 2, 3), the neighbours of node 0 in x+, x−, y+, y−, z+ and z−; and any sizes in range
  pub node-number : (take header_words (empty two-three-five) ≡ 2 ∷ 3 ∷ 5 ∷ 2 ∷ 1 ∷ 1 ∷ 0 ∷ 0 ∷ 0 ∷ [])
      × (map (λ i. coordinate two-three-five i 23) (in_order 0 dimensions) ≡ 1 ∷ 2 ∷ 3 ∷ [])
      × (map (λ d. neighbour two-three-five d 0) (in_order 0 directions) ≡ 1 ∷ 1 ∷ 2 ∷ 4 ∷ 6 ∷ 24 ∷ [])
  pub node-number-every : (w : List ℕ) (n : ℕ) → T (sizes_in_range (shape w)) → n < nodes (shape w) → Numbered w n
  -- R60, R62, R228: the fields of a word, and its label, which keeps the chunks and both spare bits
  pub fields-of-a-word : (tag a_word ∷ upper_spare a_word ∷ chunks a_word ∷ destination a_word ∷ spare a_word ∷ [] ≡ 7 ∷ 1 ∷ 5 ∷ 6 ∷ 1 ∷ [])
      × (map (λ i. offset i a_word) (in_order 0 dimensions) ≡ negsuc 1 ∷ pos 3 ∷ negsuc 15 ∷ [])
      × (label a_word ≡ 33286422528)
  -- R87, R88, 2 by 2 by 2: bit 15 set, bit 31 set, and both clear; and any network: they are clear in every packet held
  pub spare-bit : map (λ bit. network_refusal (only two-cubed injection_queue (here 0 + bit))) (2 ^ 15 ∷ 2 ^ 31 ∷ 0 ∷ []) ≡ 3 ∷ 3 ∷ 0 ∷ []
  pub spare-bit-every : (w : List ℕ) (n q p : ℕ) → Within w n q p → (p / 2 ^ 15 % 2 ≡ 0) × (p / 2 ^ 31 % 2 ≡ 0)
  -- R76: offsets are judged as they stand, not as they would be round the ring. In a ring of 16 along each dimension, of the 32 numbers that the field can
  -- have, each with the node to which it leads: 0 to 8 pass, and 24 to 31, which stand for −8 to −1. Along z what Check says of −16, −8, 8 and 15
  pub widest-offsets : ((i : ℕ) → i < dimensions
      → chosen (λ b. packet_fits (long_along 16 1 i) 0 injection_queue (straight (b % 16) i (signed b))) (in_order 0 32) ≡ in_order 0 9 ++ in_order 24 8)
      × (map (λ b. network_refusal (only (long_along 16 1 2) injection_queue (straight (b % 16) 2 (signed b)))) (16 ∷ 24 ∷ 8 ∷ 15 ∷ [])
      ≡ 3 ∷ 0 ∷ 0 ∷ 3 ∷ [])
  -- any network: no packet held has more hops left along a dimension than half of its size
  pub widest-offsets-every : (w : List ℕ) (n q p i : ℕ) → Within w n q p → i < dimensions → distance i p ≤ size (shape w) i / 2
  -- R79: dx not 0 in the escape queue z+, dy not 0 there, and the same packets in the adaptive queue z+
  pub lower-offsets : (network_refusal (only along-x-and-z 11 (packet 1 (pos 1) (pos 0) (pos 0))) ≡ 3)
      × (network_refusal (only along-y-and-z 11 (packet 1 (pos 0) (pos 1) (pos 0))) ≡ 3)
      × (network_refusal (only along-x-and-z 5 (packet 1 (pos 1) (pos 0) (pos 0))) ≡ 0)
      × (network_refusal (only along-y-and-z 5 (packet 1 (pos 0) (pos 1) (pos 0))) ≡ 0)
  -- R77, R79, 2 by 2 by 2, every queue in which a packet with one hop left may stand: along x neither in the x queues nor in the escape queues of y and z,
  -- along y neither in the y queues nor in the escape queues of z, along z not in the z queues
  pub lower-offsets-queues : (standing (packet 1 (pos 1) (pos 0) (pos 0)) ≡ 0 ∷ 3 ∷ 4 ∷ 5 ∷ 6 ∷ [])
      × (standing (packet 2 (pos 0) (pos 1) (pos 0)) ≡ 0 ∷ 1 ∷ 2 ∷ 5 ∷ 6 ∷ 7 ∷ 8 ∷ [])
      × (standing (packet 4 (pos 0) (pos 0) (pos 1)) ≡ 0 ∷ 1 ∷ 2 ∷ 3 ∷ 4 ∷ 7 ∷ 8 ∷ 9 ∷ 10 ∷ [])
  -- any network: in an escape queue no hop is left along a lower dimension than the queue's
  pub lower-offsets-every : (w : List ℕ) (n d p i : ℕ) → Within w n (escape_queue d) p → i < dimension_of d → distance i p ≡ 0
  -- R85: a packet that has arrived, with 24 moves made, and with 25
  pub most-work : (network_refusal (set alone moves_at 24) ≡ 0) × (network_refusal (set alone moves_at 25) ≡ 3)
  -- R161, R181: eight words are no header, whatever they hold, so neither those that would be one without Z; nine go on to the sizes, and where these are
  -- in range to the need
  pub nine_words : (network_refusal (4 ∷ 3 ∷ 2 ∷ 1 ∷ 1 ∷ 0 ∷ 0 ∷ 0 ∷ []) ≡ 1)
      × ((w : List ℕ) → length w ≤ 8 → network_refusal w ≡ 1)
      × ((w : List ℕ) → 9 ≤ length w → sizes_in_range (shape w) ≡ false → network_refusal w ≡ 2)
      × (network_refusal (take header_words (empty one-node)) ≡ 1)
  -- R165, R166: queue 12 and output 12 are the last; Credit knows no output 0
  pub twelve-is-the-last : (move_refusal alone 0 12 0 ≡ 9)
      × (move_refusal alone 0 13 0 ≡ 5)
      × (move_refusal alone 0 0 12 ≡ 10)
      × (move_refusal alone 0 0 13 ≡ 6)
      × (look_refusal alone 0 12 ≡ 0)
      × (look_refusal alone 0 13 ≡ 5)
      × (credit_refusal alone 0 0 ≡ 6)
      × (credit_refusal alone 0 12 ≡ 0)
      × (credit_refusal alone 0 13 ≡ 6)
  -- each clause once more, in small networks: the rows of Rows.antt
  pub rows : KeptRows
  pub together : TogetherRows
