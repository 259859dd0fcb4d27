-- Rings in the words: the numbers held by a ring's queues stand at equal distances, so do the rings of a group, and so do the groups.
-- Order: the distances; one ring, a group, all groups; what the code asks of the words. Assumes nothing.
use Rattle.std.specs.Prelude.{◌≡◌, Bool, List, ℕ, ◌+◌, ◌*◌, ◌<◌, ◌≤◌, ltb, length, get_or}
use Rattle.base.specs.Tests.{all_below, some_below}
use Rattle.base.specs.Digits.{weight, above}
use Rattle.network.specs.Sizes.{Shape, size}
use Rattle.network.specs.Layout.{node_words}
use Rattle.ring_check.specs.declared.Rings.{Rings}

-- R30, R43: the distances along dimension i, and how many of each there are. Nodes that differ by one there are a weight apart, and a ring of all of
-- them makes a group.
unfoldable pub rings_of : Shape → ℕ → Rings
rings_of S i =
    record {
      slots = S.escape;
      node = node_words S;
      rings = weight S.sizes i;
      step = weight S.sizes i * node_words S;
      nodes = size S i;
      group = size S i * (weight S.sizes i * node_words S);
      groups = above S.sizes i;
    }

-- R81: one of the queues of the ring whose first queue stands at `first` holds fewer packets than it has slots
unfoldable pub ring_room : List ℕ → Rings → ℕ → Bool
ring_room w r first = some_below r.nodes (λ j. ltb (get_or w (first + j * r.step) 0) r.slots)

-- each ring of a group: they begin at one node after the other
unfoldable pub group_room : List ℕ → Rings → ℕ → Bool
group_room w r first = all_below r.rings (λ b. ring_room w r (first + b * r.node))

unfoldable pub groups_room : List ℕ → Rings → ℕ → Bool
groups_room w r first = all_below r.groups (λ a. group_room w r (first + a * r.group))

-- a distance made up of so many steps, one at least
pub record Steps (count step far : ℕ) : Type 0 where
  pub short : step ≤ far
  pub whole : count * step ≡ far

-- places a step apart, the first at `first` and the last before `far` words on, are among the words, as all distances are
pub record RingsIn (w : List ℕ) (r : Rings) (first far step : ℕ) : Type 0 where
  pub rings : Steps r.rings r.node r.step
  pub ring : Steps r.nodes r.step r.group
  pub groups : Steps r.groups r.group (r.groups * r.group)
  pub short : r.groups * r.group ≤ length w
  pub among : first + far < length w + step
