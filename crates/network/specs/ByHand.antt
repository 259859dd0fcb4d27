-- Networks written down by hand, for the kept cases (Cases.antt) and the kept rows (Rows.antt): packets; an empty network; packets put into a queue; and one name
-- for all definitions with which a row is computed. Assumes nothing.
use Rattle.std.specs.Prelude.{Bool, cond, List, [], ◌∷◌, ◌++◌, ℕ, ◌+◌, ◌*◌, ◌-◌, ◌^◌, eqb, ℤ, pos, length, get_or, take, drop, replicate}
use Rattle.base.specs.Tests.{all_below, some_below, all_of, elem, EachBelow}
use Rattle.base.specs.Sums.{sum_below, sum_of}
use Rattle.base.specs.Digits.{product, digit, put_digit, rotate}
use Rattle.network.specs.Sizes.{Shape, shape_of, size, within, sizes_in_range, nodes, capacity}
use Rattle.network.specs.Packet.{signed, unsigned, packet_word, tag, destination, chunks, spare, upper_spare, offset, with_offset, with_offsets, distance, forward, backward, hops, heading, hops_left, work, shrunk, hop, label, goes_plus, shorter_way}
use Rattle.network.specs.Torus.{coordinate, stride, along, neighbour, moved_below, moved_by}
use Rattle.network.specs.Layout.{shape, accepted, delivered, moves_made, raised, accepted_at, queue_length, node_words, queue_start, queue_end, need, queue_words, queue_part, count_of, packets_of, unused_of, held, load, taken, put_queue, total}
use Rattle.network.specs.Check.{spare_clear, upper_spare_clear, right_place, is_queue_of, reach, near_enough, opposite, right_sign, lower_done, packet_fits, queue_fits, queues_fit, has_room, ring_has_room, rings_have_room, packets_held, work_left, counters_fit, is_network}
use Rattle.network.specs.Routes.{in_order, without, incoming, incoming_first, headings, routes, target, free_load, enters_ring, load_needed}
use Rattle.network.specs.Refusals.{network_refusal, make_refusal, offer_rules, offer_refusal, head, flow_rules, move_rules, move_refusal, credit_rules, credit_refusal, look_rules, look_refusal}
use Rattle.network.specs.Calls.{empty_header, empty_network, make_words, offered, after_offer, offer_words, head_leaves, packet_arrives, after_move, move_words, move_answer, credit_answer, look_part, look_at, first_output, first_in_queue, or_else, search, first_in_node, first_move, first_answer, stopped, one_more, deliver_next, move_next, drain_from, drained, drain_words, drain_ledger, drain_answer}

-- a packet of one chunk with tag 0, this destination and these offsets dx, dy and dz
abbrev pub packet : ℕ → ℤ → ℤ → ℤ → ℕ
packet to dx dy dz = packet_word 0 1 to (λ i. get_or (dx ∷ dy ∷ dz ∷ []) i (pos 0))

-- one that has arrived, and one with an offset along dimension i alone
abbrev pub here : ℕ → ℕ
here n = packet n (pos 0) (pos 0) (pos 0)

abbrev pub straight : ℕ → ℕ → ℤ → ℕ
straight to i z = packet_word 0 1 to (λ j. cond (eqb j i) z (pos 0))

-- a packet of one chunk, with so many instead
abbrev pub of_chunks : ℕ → ℕ → ℕ
of_chunks c p = p + (c - 1) * 2 ^ 28

-- an empty network of these sizes
abbrev pub empty : Shape → List ℕ
empty S = make_words S (replicate (need S) 0)

-- the words with these packets in a queue and as many packets more accepted
abbrev pub holding : List ℕ → ℕ → ℕ → List ℕ → List ℕ
holding w n q ps = take accepted_at w ++ ((accepted w + length ps) ∷ drop (accepted_at + 1) (put_queue (shape w) w n q ps))

-- an empty network but for this packet in queue q of node 0
abbrev pub only : Shape → ℕ → ℕ → List ℕ
only S q p = holding (empty S) 0 q (p ∷ [])

-- the queues of a list that pass a test
unfoldable pub chosen : (ℕ → Bool) → List ℕ → List ℕ
chosen f [] = []
chosen f (q ∷ qs) = cond (f q) (q ∷ chosen f qs) (chosen f qs)

-- all of them, to be unfolded by one name
unfoldable pub definitions : Unit {0}
unfolding chosen all_below some_below all_of elem EachBelow sum_below sum_of product digit put_digit rotate size within sizes_in_range nodes capacity signed unsigned packet_word tag destination chunks spare upper_spare offset with_offset with_offsets distance forward backward hops heading hops_left work shrunk hop label goes_plus shorter_way coordinate stride along neighbour moved_below moved_by shape accepted delivered moves_made raised queue_length node_words queue_start queue_end need queue_words queue_part count_of packets_of unused_of held load taken put_queue total spare_clear upper_spare_clear right_place is_queue_of reach near_enough opposite right_sign lower_done packet_fits queue_fits queues_fit has_room ring_has_room rings_have_room packets_held work_left counters_fit is_network in_order without incoming incoming_first headings routes target free_load enters_ring load_needed network_refusal make_refusal offer_rules offer_refusal head flow_rules move_rules move_refusal credit_rules credit_refusal look_rules look_refusal shape_of empty_header empty_network make_words offered after_offer offer_words head_leaves packet_arrives after_move move_words move_answer credit_answer look_part look_at first_output first_in_queue or_else search first_in_node first_move first_answer stopped one_more deliver_next move_next drain_from drained drain_words drain_ledger drain_answer
definitions = tt
