-- The rings of a direction by their distances in the words, in every dimension alike. Order: the walk over places a step apart; the distances of a
-- dimension; the steps from one node of a ring to another; each ring once; what the code computes. `i` is a dimension, `d` a direction, `w` are the
-- words; a node has b below its coordinate j along i, and a above it. Assumes nothing.
use mathlib.Core.Path.{◌≡◌, refl, ap, ap₂, sym, subst, ◌∙◌}
use mathlib.Core.Bool.{Bool, true, false, cond, ◌&&◌, ◌||◌}
use mathlib.Core.List.{List}
use Prim.Native.Nat.{ℕ, zero, suc, ◌+◌, ◌*◌, ◌-◌, ◌/◌, ◌%◌, ◌<◌, ◌≤◌}
use native.Mathlib.Nat.{add-zero, mod-lt, mod-eq_of_lt, mod-add-div, add-mul-mod_self_right, mul-le-mul_right}
use native.Mathlib.Omega.{arith}
use lib.Dec.{T, ltb, ltb→lt, lt→ltb}
use lib.ListN.{length, get_or, take, drop, length-take, length-drop}
use Rattle.std.specs.List.{list_all, list_any, range_with_len}
use Rattle.base.specs.Tests.{all_below, some_below}
use Rattle.base.proofs.Tests.{all-at, all-by, some_at, some-by}
use Rattle.base.proofs.Parts.{get_or-span}
use Rattle.base.proofs.Bools.{same_test}
use Rattle.base.specs.Digits.{product, digit, put_digit, weight, rotate, above, around}
use Rattle.base.proofs.Digits.{digit_lt, product-pos, weight-pos, product-weight, digit-around, put-around, around-lt, is-around, above-lt}
use Rattle.network.specs.Sizes.{Shape, shape_of, size, nodes, dimensions, directions, dimension_of, is_plus, queues, escape_queue, capacity, is_adaptive}
use Rattle.network.proofs.SizesLaws.{escape-slots, escape-capacity}
use Rattle.network.proofs.PacketLaws.{dimension-lt}
use Rattle.network.specs.Torus.{stride, along}
use Rattle.network.specs.TorusLaws.{Torus}
use Rattle.network.proofs.TorusLaws.{size-pos, sizes-torus}
use Rattle.network.specs.Layout.{need, node_words, queue_start, queue_end, queue_length, queue_part, count_of, packets_of, held}
use Rattle.network.specs.LayoutLaws.{Fits}
use Rattle.network.proofs.LayoutLaws.{end-node, end-start, length-queue_part}
use Rattle.network.specs.Check.{has_room, ring_has_room}
use Rattle.network.proofs.CheckLaws.{has-room-held}
use Rattle.network.specs.declared.Sizes.{Sizes}
use Rattle.queue.specs.Queue.{EnoughWords}
use Rattle.ring_check.specs.RingLines.{Steps, RingsIn, rings_of, ring_room, group_room, groups_room}
use Rattle.ring_check.specs.declared.Rings.{Rings}

-- Tests over the numbers of a range -------------------------------------------------------------------------------------------------------

both_joined : (a b c : Bool) → a && (b && c) ≡ a && b && c
both_joined true b c = refl
both_joined false b c = refl

either_joined : (a b c : Bool) → a || (b || c) ≡ a || b || c
either_joined true b c = refl
either_joined false b c = refl

module _ (f : ℕ → Bool) where
  all-from : (a n : ℕ) → all_below a f && list_all f (range_with_len a n) ≡ all_below (a + n) f
  unfolding all_below
  all-from a zero = none (all_below a f) ∙ ap (λ (k : ℕ). all_below k f) (sym (add-zero a))
    where
      none : (b : Bool) → b && true ≡ b
      none true = refl
      none false = refl
  all-from a (suc n) =
      let e : a + 1 ≡ suc a = omega arith in
      let g : suc a + n ≡ a + suc n = omega arith in
      both_joined (all_below a f) (f a) (list_all f (range_with_len (a + 1) n))
      ∙ ap (λ (k : ℕ). all_below (suc a) f && list_all f (range_with_len k n)) e
      ∙ all-from (suc a) n
      ∙ ap (λ (k : ℕ). all_below k f) g

  some-from : (a n : ℕ) → some_below a f || list_any f (range_with_len a n) ≡ some_below (a + n) f
  unfolding some_below
  some-from a zero = none (some_below a f) ∙ ap (λ (k : ℕ). some_below k f) (sym (add-zero a))
    where
      none : (b : Bool) → b || false ≡ b
      none true = refl
      none false = refl
  some-from a (suc n) =
      let e : a + 1 ≡ suc a = omega arith in
      let g : suc a + n ≡ a + suc n = omega arith in
      either_joined (some_below a f) (f a) (list_any f (range_with_len (a + 1) n))
      ∙ ap (λ (k : ℕ). some_below (suc a) f || list_any f (range_with_len k n)) e
      ∙ some-from (suc a) n
      ∙ ap (λ (k : ℕ). some_below k f) g

  pub all-range : (n : ℕ) → list_all f (range_with_len 0 n) ≡ all_below n f
  unfolding all_below
  all-range n = let e : 0 + n ≡ n = omega arith in all-from 0 n ∙ ap (λ (k : ℕ). all_below k f) e

  pub some-range : (n : ℕ) → list_any f (range_with_len 0 n) ≡ some_below n f
  unfolding some_below
  some-range n = let e : 0 + n ≡ n = omega arith in some-from 0 n ∙ ap (λ (k : ℕ). some_below k f) e

-- Places a step apart -----------------------------------------------------------------------------------------------------------------------

-- the one after is not past the end
pub next-inside : {count step far : ℕ} → Steps count step far → (j : ℕ) → j < count → j * step + step ≤ far
next-inside {count} {step} {far} s j h =
    let m : suc j * step ≤ count * step = mul-le-mul_right step h in
    let w = s.whole in
    omega arith

-- the same distances from another place
pub rings-at : {w : List ℕ} {r : Rings} {first far step at on by : ℕ} → RingsIn w r first far step → at + on < length w + by → RingsIn w r at on by
rings-at p h = record { rings = p.rings; ring = p.ring; groups = p.groups; short = p.short; among = h }

-- The distances of a dimension --------------------------------------------------------------------------------------------------------------

steps_of : (m step : ℕ) → 0 < m → Steps m step (m * step)
steps_of m step h = record { short = let l : 1 * step ≤ m * step = mul-le-mul_right step h in omega arith; whole = refl }

module _ (S : Shape) (i : ℕ) (torus : Torus S) (hi : i < dimensions) where
  on : i < length S.sizes
  on = let e = torus.dims in omega arith

  node-pos : 0 < node_words S
  unfolding node_words
  node-pos = omega arith

  -- the nodes are so many groups
  all-is : nodes S * node_words S ≡ above S.sizes i * (size S i * (weight S.sizes i * node_words S))
  unfolding nodes size
  all-is =
      let e : product S.sizes * node_words S ≡ weight S.sizes i * (get_or S.sizes i 0 * above S.sizes i) * node_words S =
      ap (λ (n : ℕ). n * node_words S) (product-weight S.sizes i on) in
      omega arith

  above-pos : 0 < above S.sizes i
  above-pos = let l = above-lt S.sizes i on 0 torus.positive (product-pos S.sizes torus.positive) in omega arith

  -- they fit into the words, where queue q of node 0 is the first
  pub rings-in : (w : List ℕ) (q : ℕ) → EnoughWords S w → q < queues
      → RingsIn w (rings_of S i) (queue_start S 0 q) (above S.sizes i * (size S i * (weight S.sizes i * node_words S))) (node_words S)
  unfolding rings_of need
  rings-in w q enough hq =
      record {
        rings = steps_of (weight S.sizes i) (node_words S) (weight-pos S.sizes i torus.positive);
        ring = steps_of (size S i) (weight S.sizes i * node_words S) (size-pos S i torus hi);
        groups = steps_of (above S.sizes i) (size S i * (weight S.sizes i * node_words S)) above-pos;
        short = rw (← all-is) (let l = enough.long in omega arith);
        among =
            rw (← all-is)
            (let l = enough.long in
            let e = end-node S 0 q hq in
            let f = end-start S 0 q in
            omega arith);
      }

-- The steps from one node of a ring to another ----------------------------------------------------------------------------------------------

-- from coordinate j to coordinate t, going on in direction d
steps : (S : Shape) (d j t : ℕ) → j < size S (dimension_of d) → t < size S (dimension_of d)
    → (c : ℕ) × (c < size S (dimension_of d)) × ((j + c * stride S d) % size S (dimension_of d) ≡ t)
unfolding stride
steps S d j t hj ht = go (is_plus d)
  where
    k : ℕ
    k = size S (dimension_of d)

    -- any number of steps that leads to t, round as often as it may, less the rounds in it
    by : (stride x rounds : ℕ) → j + x * stride ≡ t + rounds * k → (c : ℕ) × (c < k) × ((j + c * stride) % k ≡ t)
    by stride x rounds e =
        let f : x * stride ≡ (x % k + k * (x / k)) * stride = ap (λ (y : ℕ). y * stride) (sym (mod-add-div x k)) in
        let g : j + x % k * stride + x / k * stride * k ≡ t + rounds * k = omega arith in (
          x % k,
          mod-lt x (omega arith),
          sym (add-mul-mod_self_right (j + x % k * stride) (x / k * stride) k) ∙ ap (λ (y : ℕ). y % k) g ∙ add-mul-mod_self_right t rounds k ∙ mod-eq_of_lt ht,
        )

    go : (p : Bool) → (c : ℕ) × (c < k) × ((j + c * cond p 1 (k - 1)) % k ≡ t)
    go true = by 1 (t + k - j) 1 (omega arith)
    go false =
        let a : (j + k - t) * k ≡ (j + k - t) * (k - 1) + (j + k - t) = ap (λ (y : ℕ). (j + k - t) * y) (let e : k ≡ k - 1 + 1 = omega arith in e) ∙ omega arith in
        let b : (j + k - t) * k ≡ (j + k - t - 1) * k + k = ap (λ (y : ℕ). y * k) (let e : j + k - t ≡ j + k - t - 1 + 1 = omega arith in e) ∙ omega arith in
        by (k - 1) (j + k - t) (j + k - t - 1) (omega arith)

-- Each ring once ----------------------------------------------------------------------------------------------------------------------------

ltb-same : (a b c : ℕ) → (a < c → b < c) → (b < c → a < c) → ltb a c ≡ ltb b c
ltb-same a b c f g = same_test (ltb a c) (ltb b c) (λ h. lt→ltb b c (f (ltb→lt a c h))) (λ h. lt→ltb a c (g (ltb→lt b c h)))

-- the first word of a queue tells whether it has room, even if it says too much
room-is : (S : Shape) (w : List ℕ) (n q : ℕ) → Fits S w n q → is_adaptive q ≡ false → ltb (get_or w (queue_start S n q) 0) (capacity S q) ≡ has_room S w n q
unfolding held packets_of count_of queue_part queue_length
room-is S w n q fits slots =
    let part : List ℕ = queue_part S w n q in
    let e : get_or part 0 0 ≡ get_or w (queue_start S n q + 0) 0 = get_or-span w (queue_start S n q) (queue_end S n q) 0 (let e = end-start S n q in omega arith) in
    let z : get_or w (queue_start S n q + 0) 0 ≡ get_or w (queue_start S n q) 0 = ap (λ (m : ℕ). get_or w m 0) (add-zero (queue_start S n q)) in
    let t = length-take (get_or part 0 0) (drop 1 part) in
    let l = length-drop 1 part in
    let m : length part ≡ 1 + capacity S q = length-queue_part S w n q fits in
    ltb-same (get_or w (queue_start S n q) 0) (length (take (get_or part 0 0) (drop 1 part))) (capacity S q) (omega arith) (omega arith)
    ∙ sym (has-room-held S w n q slots)

module _ (S : Shape) (w : List ℕ) (d : ℕ) (enough : EnoughWords S w) (torus : Torus S) (hd : d < directions) where
  hi : dimension_of d < dimensions
  hi = dimension-lt d hd

  in_list : dimension_of d < length S.sizes
  in_list = on S (dimension_of d) torus hi

  node : ℕ → ℕ → ℕ → ℕ
  node b j a = around S.sizes (dimension_of d) b j a

  along-node : (c b j a : ℕ) → b < weight S.sizes (dimension_of d) → j < size S (dimension_of d)
      → along S d c (node b j a) ≡ node b ((j + c * stride S d) % size S (dimension_of d)) a
  unfolding along rotate size node
  along-node c b j a hb hj =
      ap (λ (x : ℕ). put_digit S.sizes (dimension_of d) ((x + c * stride S d) % get_or S.sizes (dimension_of d) 0) (around S.sizes (dimension_of d) b j a))
      (digit-around S.sizes (dimension_of d) in_list b j a hb hj)
      ∙ put-around S.sizes (dimension_of d) in_list b j a ((j + c * stride S d) % get_or S.sizes (dimension_of d) 0) hb hj

  -- where its escape queue stands
  place : ℕ → ℕ → ℕ → ℕ
  place b j a =
      queue_start S 0 (escape_queue d)
      + a * (size S (dimension_of d) * (weight S.sizes (dimension_of d) * node_words S))
      + b * node_words S
      + j * (weight S.sizes (dimension_of d) * node_words S)

  place_is : (b j a : ℕ) → place b j a ≡ queue_start S (node b j a) (escape_queue d)
  unfolding place node around queue_start size
  place_is b j a = omega arith

  room_at : (b j a : ℕ) → b < weight S.sizes (dimension_of d) → j < size S (dimension_of d) → a < above S.sizes (dimension_of d)
      → ltb (get_or w (place b j a) 0) S.escape ≡ has_room S w (node b j a) (escape_queue d)
  unfolding size nodes node
  room_at b j a hb hj ha =
      ap₂ (λ (m c : ℕ). ltb (get_or w m 0) c) (place_is b j a) (sym (escape-capacity S d))
      ∙ room-is S w (node b j a) (escape_queue d)
      (record { node = around-lt S.sizes (dimension_of d) in_list b j a hb hj ha; queue = omega arith; long = enough.long })
      (escape-slots (escape_queue d) (omega arith))

  -- a queue with room in each ring
  Each : Type 0
  Each = (b a : ℕ) → b < weight S.sizes (dimension_of d) → a < above S.sizes (dimension_of d)
      → (j : ℕ) × (j < size S (dimension_of d)) × T (has_room S w (node b j a) (escape_queue d))

  groups-each : T (groups_room w (rings_of S (dimension_of d)) (queue_start S 0 (escape_queue d))) → Each
  unfolding groups_room group_room ring_room rings_of place Each
  groups-each t b a hb ha =
      let (j, hj, u) = some_at _ _ (all-at _ _ (all-at _ _ t a ha) b hb) in
      (j, hj, subst T (room_at b j a hb hj ha) u)

  each-groups : Each → T (groups_room w (rings_of S (dimension_of d)) (queue_start S 0 (escape_queue d)))
  unfolding groups_room group_room ring_room rings_of place Each
  each-groups each =
      all-by _ _
      (λ a ha.
      all-by _ _
      (λ b hb.
      let (j, hj, u) = each b a hb ha in
      some-by _ _ j hj (subst T (sym (room_at b j a hb hj ha)) u)))

  nodes-each : T (all_below (nodes S) (λ n. ring_has_room S w d n)) → Each
  unfolding ring_has_room Each nodes node
  nodes-each t b a hb ha =
      let pos = size-pos S (dimension_of d) torus hi in
      let (c, hc, u) = some_at _ _ (all-at (nodes S) (λ n. ring_has_room S w d n) t (node b 0 a) (around-lt S.sizes (dimension_of d) in_list b 0 a hb (unfold size in pos) ha)) in
      ((0 + c * stride S d) % size S (dimension_of d), mod-lt _ pos, subst (λ (m : ℕ). T (has_room S w m (escape_queue d))) (along-node c b 0 a hb pos) u)

  each-nodes : Each → (n : ℕ) → n < nodes S → T (ring_has_room S w d n)
  unfolding ring_has_room Each nodes size node
  each-nodes each n hn =
      let j : ℕ = digit S.sizes (dimension_of d) n in
      let b : ℕ = n % weight S.sizes (dimension_of d) in
      let a : ℕ = n / weight S.sizes (dimension_of d) / get_or S.sizes (dimension_of d) 0 in
      let hb : b < weight S.sizes (dimension_of d) = mod-lt n (weight-pos S.sizes (dimension_of d) torus.positive) in
      let hj : j < size S (dimension_of d) = digit_lt S.sizes (dimension_of d) n torus.positive in_list in
      let (t, ht, u) = each b a hb (above-lt S.sizes (dimension_of d) in_list n torus.positive hn) in
      let (c, hc, e) = steps S d j t hj ht in
      some-by _ _ c hc
      (subst (λ (m : ℕ). T (has_room S w m (escape_queue d)))
      (sym (ap (along S d c) (is-around S.sizes (dimension_of d) in_list n) ∙ along-node c b j a hb hj ∙ ap (λ (x : ℕ). node b x a) e))
      u)

  pub groups-are : groups_room w (rings_of S (dimension_of d)) (queue_start S 0 (escape_queue d)) ≡ all_below (nodes S) (λ n. ring_has_room S w d n)
  groups-are =
      same_test (groups_room w (rings_of S (dimension_of d)) (queue_start S 0 (escape_queue d))) (all_below (nodes S) (λ n. ring_has_room S w d n))
      (λ t. all-by (nodes S) (λ n. ring_has_room S w d n) (each-nodes (groups-each t)))
      (λ t. each-groups (nodes-each t))

-- What the code computes --------------------------------------------------------------------------------------------------------------------

-- for direction d: a node's words, the weight and the size of its dimension, how many nodes lie above it, and where the first of its queues stands
pub record Found (s : Sizes) (d node weigh round behind first : ℕ) : Type 0 where
  pub one : node ≡ node_words (shape_of s)
  pub apart : weigh ≡ weight (shape_of s).sizes (dimension_of d)
  pub ring : round ≡ size (shape_of s) (dimension_of d)
  pub rest : behind ≡ above (shape_of s).sizes (dimension_of d)
  pub start : first ≡ queue_start (shape_of s) 0 (escape_queue d)

-- the distances made of these
abbrev pub made : ℕ → ℕ → ℕ → ℕ → ℕ → Rings
made slots node weigh round behind =
    record { slots = slots; node = node; rings = weigh; step = weigh * node; nodes = round; group = round * (weigh * node); groups = behind }

module _
    {s : Sizes}
    {w : List ℕ}
    {d node weigh round behind first : ℕ}
    (enough : EnoughWords (shape_of s) w)
    (hd : d < directions)
    (found : Found s d node weigh round behind first) where
  made-is : made s.escape node weigh round behind ≡ rings_of (shape_of s) (dimension_of d)
  unfolding rings_of shape_of
  made-is = λ t. made s.escape (found.one t) (found.apart t) (found.ring t) (found.rest t)

  pub found_in : RingsIn w (made s.escape node weigh round behind) first (behind * (round * (weigh * node))) node
  unfolding rings_of
  found_in =
      subst (λ (m : Rings). RingsIn w m first (m.groups * m.group) m.node) (sym made-is)
      (rw found.start (rings-in (shape_of s) (dimension_of d) (sizes-torus s enough.sizes) (dimension-lt d hd) w (escape_queue d) enough (omega arith)))

  pub found-are : (b : Bool) → b ≡ groups_room w (made s.escape node weigh round behind) first → b ≡ all_below (nodes (shape_of s)) (λ n. ring_has_room (shape_of s) w d n)
  found-are b e = e ∙ ap₂ (groups_room w) made-is found.start ∙ groups-are (shape_of s) w d enough (sizes-torus s enough.sizes) hd
