-- R160 to R189: the numbers, and for each call the first of its tests that applies, in its order; 0 if none does.
-- Order: the numbers, and the code's refusals by them; the tests by what each finds; the tests that all calls but Make share; Make; Offer; Move; Credit; Look. Assumes nothing.
use Rattle.std.specs.Prelude.{Bool, true, false, not, cond, ◌||◌, List, ℕ, leb, ltb, eqb, length, get_or, Result, Ok, Err}
use Rattle.base.specs.Tests.{elem}
use Rattle.network.specs.declared.Refusal.{Refusal}
use Rattle.network.specs.Sizes.{Shape, within, sizes_in_range, most_chunks, nodes, queues, injection_queue, capacity}
use Rattle.network.specs.Layout.{shape, header_words, need, held, load, taken, accepted}
use Rattle.network.specs.Check.{is_network, most_accepted}
use Rattle.network.specs.Routes.{routes, deliver, free_load, load_needed}

-- R161 to R175, with the trade's words where they are others
abbrev pub short_store : ℕ
short_store = 1

abbrev pub wrong_size : ℕ
wrong_size = 2

abbrev pub no_network : ℕ
no_network = 3

abbrev pub no_such_node : ℕ
no_such_node = 4

abbrev pub no_such_queue : ℕ
no_such_queue = 5

abbrev pub no_such_output : ℕ
no_such_output = 6

-- "gate full"
abbrev pub injection_full : ℕ
injection_full = 7

abbrev pub count_spent : ℕ
count_spent = 8

-- "nobody there"
abbrev pub queue_empty : ℕ
queue_empty = 9

-- "not its way"
abbrev pub no_route : ℕ
no_route = 10

abbrev pub no_slot : ℕ
no_slot = 11

abbrev pub no_bubble : ℕ
no_bubble = 12

-- R173: of a line that is no command, and of bytes that are no step of a dump
abbrev pub bad_line : ℕ
bad_line = 13

-- "to oneself"
abbrev pub own_node : ℕ
own_node = 14

-- R175: of a page or a list of fills that is too short for a step of a dump
abbrev pub short_page : ℕ
short_page = 15

-- the number of each refusal of the code; and what the code answers, a value or a refusal, as these definitions have it: by the number, or with
-- the number in its place
abbrev pub refusal_number : Refusal → ℕ
refusal_number Refusal.ShortStore = short_store
refusal_number Refusal.WrongSize = wrong_size
refusal_number Refusal.NoNetwork = no_network
refusal_number Refusal.NoSuchNode = no_such_node
refusal_number Refusal.NoSuchQueue = no_such_queue
refusal_number Refusal.NoSuchOutput = no_such_output
refusal_number Refusal.InjectionFull = injection_full
refusal_number Refusal.CountSpent = count_spent
refusal_number Refusal.QueueEmpty = queue_empty
refusal_number Refusal.NoRoute = no_route
refusal_number Refusal.NoSlot = no_slot
refusal_number Refusal.NoBubble = no_bubble
refusal_number Refusal.BadLine = bad_line
refusal_number Refusal.OwnNode = own_node
refusal_number Refusal.ShortPage = short_page

abbrev pub number_of : {A : Type 0} → Result A Refusal → ℕ
number_of (Ok value) = 0
number_of (Err refusal) = refusal_number refusal

abbrev pub numbered : {A : Type 0} → Result A Refusal → Result A ℕ
numbered (Ok value) = Ok value
numbered (Err refusal) = Err (refusal_number refusal)

-- refused by this number if the test applies, else whatever the later tests say
abbrev pub refuse : Bool → ℕ → ℕ → ℕ
refuse true number later = number
refuse false number later = later

-- what earlier tests say, else what later ones say
abbrev pub else_by : ℕ → ℕ → ℕ
else_by earlier later = cond (eqb earlier 0) later earlier

-- the head of a queue, the oldest packet
unfoldable pub head : List ℕ → ℕ
head packets = get_or packets 0 0

-- What a test finds, by the clause of its number

-- R162, of an offer: no packet has so many chunks
abbrev pub wrong_chunks : ℕ → Bool
wrong_chunks chunks = not (within 1 most_chunks chunks)

-- R164
abbrev pub no_node : Shape → ℕ → Bool
no_node S n = leb (nodes S) n

-- R165
abbrev pub no_queue : ℕ → Bool
no_queue q = leb queues q

-- R166
abbrev pub no_output : ℕ → Bool
no_output o = leb queues o

-- R167: all of its slots are taken
abbrev pub injection_is_full : Shape → List ℕ → ℕ → Bool
injection_is_full S w n = eqb (taken S w n injection_queue) (capacity S injection_queue)

-- R168
abbrev pub count_is_spent : List ℕ → Bool
count_is_spent w = eqb (accepted w) most_accepted

-- R169
abbrev pub is_empty : Shape → List ℕ → ℕ → ℕ → Bool
is_empty S w n q = eqb (length (held S w n q)) 0

-- R170
abbrev pub no_route_for : Shape → List ℕ → ℕ → ℕ → ℕ → Bool
no_route_for S w n q o = not (elem o (routes q (head (held S w n q))))

-- R171: less is free than the packet takes there
abbrev pub no_slot_for : Shape → List ℕ → ℕ → ℕ → ℕ → Bool
no_slot_for S w n o p = ltb (free_load S w n o) (load o p)

-- R172
abbrev pub no_bubble_for : Shape → List ℕ → ℕ → ℕ → ℕ → ℕ → Bool
no_bubble_for S w n q o p = ltb (free_load S w n o) (load_needed q o p)

-- R174: an offer to the node at which it is made
abbrev pub is_own_node : ℕ → ℕ → Bool
is_own_node n destination = eqb n destination

-- R181: 1 for the header, 2, 1 for the need, 3
unfoldable pub network_refusal : List ℕ → ℕ
network_refusal w =
    refuse (ltb (length w) header_words) short_store
    (refuse (not (sizes_in_range (shape w))) wrong_size
    (refuse (ltb (length w) (need (shape w))) short_store
    (refuse (not (is_network (shape w) w)) no_network 0)))

-- R180: 2, 1
unfoldable pub make_refusal : Shape → List ℕ → ℕ
make_refusal S w = refuse (not (sizes_in_range S)) wrong_size (refuse (ltb (length w) (need S)) short_store 0)

-- R189: 4, 2, 14, 8, 7
unfoldable pub offer_rules : Shape → List ℕ → ℕ → ℕ → ℕ → ℕ
offer_rules S w n destination chunks =
    refuse (no_node S n || no_node S destination) no_such_node
    (refuse (wrong_chunks chunks) wrong_size
    (refuse (is_own_node n destination) own_node
    (refuse (count_is_spent w) count_spent
    (refuse (injection_is_full S w n) injection_full 0))))

unfoldable pub offer_refusal : List ℕ → ℕ → ℕ → ℕ → ℕ
offer_refusal w n destination chunks = else_by (network_refusal w) (offer_rules (shape w) w n destination chunks)

-- R184: 4, 5, 6, 9, 10, 11, 12; a delivery has no target and needs no slot (R153). The last two are of packet p, the head of queue q of node n
unfoldable pub flow_rules : Shape → List ℕ → ℕ → ℕ → ℕ → ℕ → ℕ
flow_rules S w n q o p =
    cond (eqb o deliver) 0
    (refuse (no_slot_for S w n o p) no_slot
    (refuse (no_bubble_for S w n q o p) no_bubble 0))

unfoldable pub move_rules : Shape → List ℕ → ℕ → ℕ → ℕ → ℕ
move_rules S w n q o =
    refuse (no_node S n) no_such_node
    (refuse (no_queue q) no_such_queue
    (refuse (no_output o) no_such_output
    (refuse (is_empty S w n q) queue_empty
    (refuse (no_route_for S w n q o) no_route
    (flow_rules S w n q o (head (held S w n q)))))))

unfoldable pub move_refusal : List ℕ → ℕ → ℕ → ℕ → ℕ
move_refusal w n q o = else_by (network_refusal w) (move_rules (shape w) w n q o)

-- R185: 4, 6; here output 0 is none (R166)
unfoldable pub credit_rules : Shape → ℕ → ℕ → ℕ
credit_rules S n o =
    refuse (no_node S n) no_such_node
    (refuse (eqb o deliver || no_output o) no_such_output 0)

unfoldable pub credit_refusal : List ℕ → ℕ → ℕ → ℕ
credit_refusal w n o = else_by (network_refusal w) (credit_rules (shape w) n o)

-- R186: 4, 5
unfoldable pub look_rules : Shape → ℕ → ℕ → ℕ
look_rules S n q =
    refuse (no_node S n) no_such_node
    (refuse (no_queue q) no_such_queue 0)

unfoldable pub look_refusal : List ℕ → ℕ → ℕ → ℕ
look_refusal w n q = else_by (network_refusal w) (look_rules (shape w) n q)
