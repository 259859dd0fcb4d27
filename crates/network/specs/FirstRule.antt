-- "The first rule that it breaks" (R160, R180 to R189, R201, R207), said once for all calls: a list of tests, each with the number that it tells and when it
-- applies, in the words of docs/RULES.md; and what an answer must be, by that list. Refusals.antt has the same as chains that compute; FirstRuleLaws.antt shows
-- for each call that its answer is right by its list. Order: a test; the statement; the tests of each call; their numbers in order. Assumes nothing.
use Rattle.std.specs.Prelude.{◌≡◌, ◌⊎◌, ◌↔◌, ◌≢◌, List, [], ◌∷◌, ◌++◌, map, ℕ, ◌<◌, ◌≤◌, T, length}
use Rattle.base.specs.Tests.{elem}
use Rattle.network.specs.Sizes.{Shape, sizes_in_range, nodes, injection_queue}
use Rattle.network.specs.Layout.{shape, need, held, load, accepted}
use Rattle.network.specs.Check.{is_network}
use Rattle.network.specs.Routes.{routes, free_load}
use Rattle.network.specs.Refusals.{head}
use Rattle.network.specs.FlowControl.{Enters}

-- the number that a test tells, and when it applies
pub record Test : Type 1 where
  pub number : ℕ
  pub Applies : Type 0

abbrev pub test : ℕ → Type 0 → Test
test number Applies = record { number = number; Applies = Applies }

-- no test applies
unfoldable pub NoneApplies : List Test → Type 0
NoneApplies [] = Unit
NoneApplies (t ∷ ts) = (t.Applies → ⊥) × NoneApplies ts

-- some test with the number r applies, and no test before it does
unfoldable pub Breaks : ℕ → List Test → Type 0
Breaks r [] = ⊥
Breaks r (t ∷ ts) = ((t.number ≡ r) × t.Applies) ⊎ ((t.Applies → ⊥) × Breaks r ts)

-- the answer is r, above 0, exactly if r is the number of the first test that applies; and 0 exactly if none does
pub record FirstRule (tests : List Test) (answer : ℕ) : Type 0 where
  pub refused : (r : ℕ) → 0 < r → (answer ≡ r) ↔ Breaks r tests
  pub passed : (answer ≡ 0) ↔ NoneApplies tests

-- The tests of each call --------------------------------------------------------------------------------------------------------------

-- R180
abbrev pub make_tests : Shape → List ℕ → List Test
make_tests S w = test 2 (T (sizes_in_range S) → ⊥) ∷ test 1 (length w < need S) ∷ []

-- R181, R182: of Check, First and Drain, and what every other call begins with
abbrev pub network_tests : List ℕ → List Test
network_tests w =
    test 1 (length w < 9)
    ∷ test 2 (T (sizes_in_range (shape w)) → ⊥)
    ∷ test 1 (length w < need (shape w))
    ∷ test 3 (T (is_network (shape w) w) → ⊥)
    ∷ []

-- R189: of a node, a destination, a number of chunks
abbrev pub offer_tests : List ℕ → ℕ → ℕ → ℕ → List Test
offer_tests w n destination chunks =
    test 4 ((nodes (shape w) ≤ n) ⊎ (nodes (shape w) ≤ destination))
    ∷ test 2 ((chunks < 1) ⊎ (8 < chunks))
    ∷ test 14 (n ≡ destination)
    ∷ test 8 (accepted w ≡ 4294967295)
    ∷ test 7 (length (held (shape w) w n injection_queue) ≡ (shape w).injection)
    ∷ []

-- R184: of a node, a queue, an output; 10 speaks of a head, and 11 and 12 of its target, which a delivery has not
abbrev pub flow_tests : Shape → List ℕ → ℕ → ℕ → ℕ → List Test
flow_tests S w n q o =
    test 11 ((o ≢ 0) × (free_load S w n o < load o (head (held S w n q))))
    ∷ test 12 ((o ≢ 0) × (free_load S w n o ≡ load o (head (held S w n q))) × Enters q o)
    ∷ []

abbrev pub move_tests : List ℕ → ℕ → ℕ → ℕ → List Test
move_tests w n q o =
    test 4 (nodes (shape w) ≤ n)
    ∷ test 5 (13 ≤ q)
    ∷ test 6 (13 ≤ o)
    ∷ test 9 (held (shape w) w n q ≡ [])
    ∷ test 10 (T (elem o (routes q (head (held (shape w) w n q)))) → ⊥)
    ∷ flow_tests (shape w) w n q o

-- R185: of a node and an output
abbrev pub credit_tests : List ℕ → ℕ → ℕ → List Test
credit_tests w n o = test 4 (nodes (shape w) ≤ n) ∷ test 6 ((o ≡ 0) ⊎ (13 ≤ o)) ∷ []

-- R186: of a node and a queue
abbrev pub look_tests : List ℕ → ℕ → ℕ → List Test
look_tests w n q = test 4 (nodes (shape w) ≤ n) ∷ test 5 (13 ≤ q) ∷ []

-- Their numbers in order, to be laid beside R180 to R189 -------------------------------------------------------------------------------

abbrev pub numbers : List Test → List ℕ
numbers ts = map (λ (t : Test). t.number) ts

pub record InOrder (S : Shape) (w : List ℕ) (n q o destination chunks : ℕ) : Type 0 where
  pub make : numbers (make_tests S w) ≡ 2 ∷ 1 ∷ []
  pub check : numbers (network_tests w) ≡ 1 ∷ 2 ∷ 1 ∷ 3 ∷ []
  pub offer : numbers (network_tests w ++ offer_tests w n destination chunks) ≡ 1 ∷ 2 ∷ 1 ∷ 3 ∷ 4 ∷ 2 ∷ 14 ∷ 8 ∷ 7 ∷ []
  pub move : numbers (network_tests w ++ move_tests w n q o) ≡ 1 ∷ 2 ∷ 1 ∷ 3 ∷ 4 ∷ 5 ∷ 6 ∷ 9 ∷ 10 ∷ 11 ∷ 12 ∷ []
  pub credit : numbers (network_tests w ++ credit_tests w n o) ≡ 1 ∷ 2 ∷ 1 ∷ 3 ∷ 4 ∷ 6 ∷ []
  pub look : numbers (network_tests w ++ look_tests w n q) ≡ 1 ∷ 2 ∷ 1 ∷ 3 ∷ 4 ∷ 5 ∷ []
