-- The calls (RULES R90 to R134): what each answers and what it leaves in the lent words, refused or not. `w` is the words at the call.
-- Order: Make, Check, Offer, Move, Credit, Look, First, Drain; then the number and the values of each case of an answer. Assumes nothing.
use Rattle.std.specs.Prelude.{cond, List, [], ◌∷◌, ◌++◌, map, ℕ, zero, suc, ◌+◌, ◌*◌, eqb, ℤ, length, drop, replicate, Option, None, Some, Result, Ok, Err}
use Rattle.network.specs.declared.NamedMove.{NamedMove}
use Rattle.network.specs.declared.Stop.{Stop}
use Rattle.network.specs.declared.Drained.{Drained}
use Rattle.network.specs.Sizes.{Shape, size, nodes, queues, injection_queue, direction_of, dimension_of}
use Rattle.network.specs.Packet.{packet_word, steps_ahead, shorter_way, hop}
use Rattle.network.specs.Torus.{coordinate}
use Rattle.network.specs.Layout.{shape, need, node_words, queue_start, held, put_queue, raised, accepted_at, delivered_at, moves_at}
use Rattle.network.specs.Check.{packets_held}
use Rattle.network.specs.Routes.{routes, target, free_load, deliver}
use Rattle.network.specs.Refusals.{network_refusal, make_refusal, offer_refusal, move_refusal, move_rules, credit_refusal, look_refusal, head}

-- R190 to R194, what a call leaves or tells, by its refusal: `before` where it is refused, words as they were or no value, else `after`
abbrev pub unless_refused : {A : Type 0} → ℕ → A → A → A
unless_refused refusal after before = cond (eqb refusal 0) after before

-- what a call answers: a value, or the number of the rule that refuses it
abbrev pub Answer : Type 0 → Type 0
Answer A = Result A ℕ

-- Make --------------------------------------------------------------------------------------------------------------------------------

-- R42, R92: the header of an empty network: its six sizes, the three counters 0
unfoldable pub empty_header : Shape → List ℕ
empty_header S = S.sizes ++ (S.escape ∷ S.adaptive ∷ S.injection ∷ 0 ∷ 0 ∷ 0 ∷ [])

-- R91: no packet in any queue
unfoldable pub empty_network : Shape → List ℕ
empty_network S = empty_header S ++ replicate (nodes S * node_words S) 0

-- R48: what lies behind the last node stays
unfoldable pub make_words : Shape → List ℕ → List ℕ
make_words S w = unless_refused (make_refusal S w) (empty_network S ++ drop (need S) w) w

-- Check (R95): network_refusal; the words are lent to be read only -----------------------------------------------------------------------

-- Offer -------------------------------------------------------------------------------------------------------------------------------

-- R66 to R68, in each dimension i: the steps from node n to the destination, going plus; and the offset of an offer, by the shorter way, half-way round
-- by n's own coordinate
abbrev pub offered_steps : Shape → ℕ → ℕ → ℕ → ℕ
offered_steps S n destination i = steps_ahead (size S i) (coordinate S i n) (coordinate S i destination)

abbrev pub offered_way : Shape → ℕ → ℕ → ℕ → ℤ
offered_way S n destination i = shorter_way (size S i) (offered_steps S n destination i) (coordinate S i n)

-- R60: the packet of an offer
unfoldable pub offered : Shape → ℕ → ℕ → ℕ → ℕ → ℕ
offered S n destination tag chunks = packet_word tag chunks destination (offered_way S n destination)

-- R101, R102
unfoldable pub after_offer : Shape → List ℕ → ℕ → ℕ → ℕ → ℕ → List ℕ
after_offer S w n destination tag chunks =
    raised accepted_at (put_queue S w n injection_queue (held S w n injection_queue ++ (offered S n destination tag chunks ∷ [])))

unfoldable pub offer_words : List ℕ → ℕ → ℕ → ℕ → ℕ → List ℕ
offer_words w n destination tag chunks =
    unless_refused (offer_refusal w n destination chunks) (after_offer (shape w) w n destination tag chunks) w

-- Move --------------------------------------------------------------------------------------------------------------------------------

-- R108
unfoldable pub head_leaves : Shape → List ℕ → ℕ → ℕ → List ℕ
head_leaves S w n q = put_queue S w n q (drop 1 (held S w n q))

-- R109: a packet joins a queue as its newest
unfoldable pub packet_arrives : Shape → List ℕ → ℕ → ℕ → ℕ → List ℕ
packet_arrives S w n q p = put_queue S w n q (held S w n q ++ (p ∷ []))

-- R106 to R112: a delivery takes the head out and raises delivered; any other output passes it on, one hop nearer; moves made rises in both cases
unfoldable pub after_move : Shape → List ℕ → ℕ → ℕ → ℕ → List ℕ
after_move S w n q o =
    raised moves_at
    (cond (eqb o deliver)
    (raised delivered_at (head_leaves S w n q))
    (packet_arrives S (head_leaves S w n q) (target S n o) o (hop (dimension_of (direction_of o)) (head (held S w n q)))))

unfoldable pub move_words : List ℕ → ℕ → ℕ → ℕ → List ℕ
move_words w n q o = unless_refused (move_refusal w n q o) (after_move (shape w) w n q o) w

unfoldable pub move_answer : List ℕ → ℕ → ℕ → ℕ → Answer (Option ℕ)
move_answer w n q o =
    unless_refused (move_refusal w n q o)
    (Ok (cond (eqb o deliver) (Some (head (held (shape w) w n q))) None))
    (Err (move_refusal w n q o))

-- Credit (R116) -----------------------------------------------------------------------------------------------------------------------

unfoldable pub credit_answer : List ℕ → ℕ → ℕ → Answer ℕ
credit_answer w n o = unless_refused (credit_refusal w n o) (Ok (free_load (shape w) w n o)) (Err (credit_refusal w n o))

-- Look (R119 to R121): what the part holds that it gives back, and where in the lent words it begins; its companion answers look_refusal ------

unfoldable pub look_part : List ℕ → ℕ → ℕ → List ℕ
look_part w n q = unless_refused (look_refusal w n q) (held (shape w) w n q) []

-- the index of the queue's first packet word, which stands behind its number held
unfoldable pub look_at : List ℕ → ℕ → ℕ → ℕ
look_at w n q = queue_start (shape w) n q + 1

-- First (R123, R124): node by node, queue by queue, and a head's routes in their order; Choices.antt says what comes of it ---------------

-- the move of the head of queue q of node n by output o
abbrev pub move_of : ℕ → ℕ → ℕ → NamedMove
move_of n q o = record { node = n; queue = q; output = o }

-- the first of the outputs by which the head of queue q of node n may move
unfoldable pub first_output : Shape → List ℕ → ℕ → ℕ → List ℕ → Option NamedMove
first_output S w n q [] = None
first_output S w n q (o ∷ os) = cond (eqb (move_rules S w n q o) 0) (Some (move_of n q o)) (first_output S w n q os)

unfoldable pub first_in_queue : Shape → List ℕ → ℕ → ℕ → Option NamedMove
first_in_queue S w n q = first_output S w n q (routes q (head (held S w n q)))

unfoldable pub or_else : Option NamedMove → Option NamedMove → Option NamedMove
or_else None later = later
or_else (Some m) later = Some m

-- the first found at i, i + 1, .., so many of them
unfoldable pub search : (ℕ → Option NamedMove) → ℕ → ℕ → Option NamedMove
search f i zero = None
search f i (suc count) = or_else (f i) (search f (suc i) count)

unfoldable pub first_in_node : Shape → List ℕ → ℕ → Option NamedMove
first_in_node S w n = search (λ q. first_in_queue S w n q) 0 queues

unfoldable pub first_move : Shape → List ℕ → Option NamedMove
first_move S w = search (λ n. first_in_node S w n) 0 (nodes S)

unfoldable pub first_answer : List ℕ → Answer (Option NamedMove)
first_answer w = unless_refused (network_refusal w) (Ok (first_move (shape w) w)) (Err (network_refusal w))

-- Drain -------------------------------------------------------------------------------------------------------------------------------

-- a packet word handed out, and the node of its move
pub record Delivery : Type 0 where
  pub node : ℕ
  pub packet : ℕ

-- where moves made one after another have come to: the words, the moves and the packets handed out, both in order, and why they stopped
pub record Progress : Type 0 where
  pub words : List ℕ
  pub moves : List NamedMove
  pub deliveries : List Delivery
  pub stop : Stop

unfoldable pub stopped : List ℕ → Stop → Progress
stopped w why = record { words = w; moves = []; deliveries = []; stop = why }

-- one move more, made first, with what it handed out
unfoldable pub one_more : NamedMove → List Delivery → Progress → Progress
one_more m ds r = record { words = r.words; moves = m ∷ r.moves; deliveries = ds ++ r.deliveries; stop = r.stop }

-- R132, full: a delivery is next and no ledger word is left. `room` is the number of ledger words left, and `on` goes on from there
unfoldable pub deliver_next : Shape → List ℕ → ℕ → ℕ → ℕ → (ℕ → List ℕ → Progress) → Progress
deliver_next S w n q zero on = stopped w Stop.Full
deliver_next S w n q (suc room) on =
    one_more (move_of n q deliver) (record { node = n; packet = head (held S w n q) } ∷ [])
    (on room (after_move S w n q deliver))

-- R127: the move that First names, and on. While anything is held it names one, so the first case does not come up (run/specs/Stops.antt)
unfoldable pub move_next : Shape → List ℕ → ℕ → Option NamedMove → (ℕ → List ℕ → Progress) → Progress
move_next S w room None on = stopped w Stop.Emptied
move_next S w room (Some m) on =
    cond (eqb m.output deliver) (deliver_next S w m.node m.queue room on) (one_more m [] (on room (after_move S w m.node m.queue m.output)))

-- R130 to R133: the stops, tested in this order before every move: emptied, spent, full
unfoldable pub drain_from : Shape → ℕ → ℕ → List ℕ → Progress
drain_from S zero room w = cond (eqb (packets_held S w) 0) (stopped w Stop.Emptied) (stopped w Stop.Spent)
drain_from S (suc budget) room w =
    cond (eqb (packets_held S w) 0) (stopped w Stop.Emptied) (move_next S w room (first_move S w) (λ room' w'. drain_from S budget room' w'))

-- what it tells
abbrev pub drain_of : ℕ → ℕ → Stop → Drained
drain_of moves delivered stop = record { moves = moves; delivered = delivered; stop = stop }

-- a Drain that is not refused, with a ledger of so many words
unfoldable pub drained : List ℕ → ℕ → ℕ → Progress
drained w budget room = drain_from (shape w) budget room w

unfoldable pub drain_words : List ℕ → ℕ → ℕ → List ℕ
drain_words w budget room = unless_refused (network_refusal w) (drained w budget room).words w

-- R128, R134: the words delivered stand at the front of the ledger, and behind them it is as it was lent
unfoldable pub drain_ledger : List ℕ → ℕ → List ℕ → List ℕ
drain_ledger w budget ledger = unless_refused (network_refusal w) (written (drained w budget (length ledger)).deliveries ledger) ledger
  where
    written : List Delivery → List ℕ → List ℕ
    written ds ledger = map (λ d. d.packet) ds ++ drop (length ds) ledger

-- R129
unfoldable pub drain_answer : List ℕ → ℕ → ℕ → Answer Drained
drain_answer w budget room =
    unless_refused (network_refusal w)
    (Ok (drain_of (length (drained w budget room).moves) (length (drained w budget room).deliveries) (drained w budget room).stop))
    (Err (network_refusal w))

-- R321, the number and the values of each answer that has any, case by case: the refusal, or 0; and on a refusal no packet, no move, no stop and
-- zero for a count. Answers.antt says what each call tells through these ---------------------------------------------------------------

unfoldable pub moved_number : Answer (Option ℕ) → ℕ
moved_number (Err r) = r
moved_number (Ok handed_out) = 0

-- the packet words handed out
unfoldable pub moved_packets : Answer (Option ℕ) → List ℕ
moved_packets (Err r) = []
moved_packets (Ok None) = []
moved_packets (Ok (Some p)) = p ∷ []

unfoldable pub credit_number : Answer ℕ → ℕ
credit_number (Err r) = r
credit_number (Ok n) = 0

unfoldable pub credit_free : Answer ℕ → ℕ
credit_free (Err r) = 0
credit_free (Ok n) = n

unfoldable pub found_number : Answer (Option NamedMove) → ℕ
found_number (Err r) = r
found_number (Ok m) = 0

-- the move that is named, if one is
unfoldable pub found_move : Answer (Option NamedMove) → List NamedMove
found_move (Err r) = []
found_move (Ok None) = []
found_move (Ok (Some m)) = m ∷ []

unfoldable pub drained_number : Answer Drained → ℕ
drained_number (Err r) = r
drained_number (Ok d) = 0

unfoldable pub drained_moves : Answer Drained → ℕ
drained_moves (Err r) = 0
drained_moves (Ok d) = d.moves

unfoldable pub drained_delivered : Answer Drained → ℕ
drained_delivered (Err r) = 0
drained_delivered (Ok d) = d.delivered

-- the stop that is named, if one is
unfoldable pub drained_stop : Answer Drained → List Stop
drained_stop (Err r) = []
drained_stop (Ok d) = d.stop ∷ []
