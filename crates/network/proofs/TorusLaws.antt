-- Laws of the torus (Torus.antt). Order: sizes that make a torus; going along a direction; coordinates; a node moved by a packet's offsets, and
-- what a hop does to it; neighbours are apart. `i` is a dimension, `d` and `e` are directions, `p` is any number. Assumes nothing.
use Rattle.std.specs.Prelude.{◌≡◌, Bool, true, false, cond, List, [], ◌∷◌, ◌⊎◌, ◌≢◌, T, length, get_or}
use Rattle.std.proofs.Math.Path.{refl, ap, ap₂}
use Rattle.std.proofs.Common.{sym, ◌∙◌, inl, inr, add-mul, mul_right_comm, le_refl, zero-mul, one-mul, le_of_suc-le-suc, not-suc-le-zero, eq-or-lt_of_le, mod-eq_of_lt, add_assoc, mul-le-mul, eq-eqb, ne_eqb}
use Prim.Native.Nat.{ℕ, zero, suc, ◌+◌, ◌*◌, ◌-◌, ◌%◌, ◌^◌, ◌<◌, ◌≤◌}
use Rattle.std.proofs.Math.Nat.{pow-succ', le_of_suc-le, mod-eq-sub-mod, mod-add-mod}
use native.Mathlib.Omega.{arith}
use Rattle.std.proofs.Math.Decide.{ℕ_discrete, dec_lt}
use Rattle.base.specs.Tests.{all_of}
use Rattle.base.proofs.Tests.{all_of-head, all_of-tail}
use Rattle.base.specs.Digits.{product, rotate, Positive}
use Rattle.base.proofs.Digits.{product-pos, digit_lt, digits-eq, radix-pos, rotate-lt, rotate-rotate, rotate-comm, rotate-rounds, digit-rotate-same, digit-rotate-other}
use Rattle.network.specs.Sizes.{Shape, shape_of, size, nodes, most_nodes, within, sizes_in_range, dimensions, directions, dimension_of, is_plus, plus, minus, largest_ring}
use Rattle.network.specs.declared.Sizes.{Sizes}
use Rattle.network.proofs.SizesLaws.{between-of, range-of}
use Rattle.network.specs.Packet.{offset, hops, hops_left, hop}
use Rattle.network.specs.PacketLaws.{landing}
use Rattle.network.proofs.PacketLaws.{dimension-lt, hops-hop-same, hops-hop-other, one_way, hops-plus, hops-minus, arrived-hops}
use Rattle.network.specs.Torus.{coordinate, stride, along, neighbour, moved_below, moved_by}
use Rattle.network.specs.TorusLaws.{Torus}

-- what sizes in range come to, in any number of dimensions
all-positive : (ks : List ℕ) → T (all_of (within 1 largest_ring) ks) → Positive ks
unfolding Positive
all-positive [] t = tt
all-positive (k ∷ ks) t = ((between-of 1 largest_ring k (all_of-head (within 1 largest_ring) k ks t)).low, all-positive ks (all_of-tail (within 1 largest_ring) k ks t))

all_most : (ks : List ℕ) (i : ℕ) → T (all_of (within 1 largest_ring) ks) → get_or ks i 0 ≤ largest_ring
all_most [] i t = omega arith
all_most (k ∷ ks) zero t = (between-of 1 largest_ring k (all_of-head (within 1 largest_ring) k ks t)).high
all_most (k ∷ ks) (suc i) t = all_most ks i (all_of-tail (within 1 largest_ring) k ks t)

product-most : (ks : List ℕ) → T (all_of (within 1 largest_ring) ks) → product ks ≤ largest_ring ^ length ks
unfolding product
product-most [] t = omega arith
product-most (k ∷ ks) t =
    rw (pow-succ' largest_ring (length ks))
    (mul-le-mul (between-of 1 largest_ring k (all_of-head (within 1 largest_ring) k ks t)).high (product-most ks (all_of-tail (within 1 largest_ring) k ks t)))

pub in_range-torus : (S : Shape) → T (sizes_in_range S) → length S.sizes ≡ dimensions → Torus S
in_range-torus S t l = record { positive = all-positive S.sizes (range-of S t).sizes; dims = l }

pub in_range-size : (S : Shape) (i : ℕ) → T (sizes_in_range S) → size S i ≤ largest_ring
unfolding size
in_range-size S i t = all_most S.sizes i (range-of S t).sizes

pub in_range-nodes : (S : Shape) → T (sizes_in_range S) → length S.sizes ≡ dimensions → nodes S ≤ most_nodes
unfolding nodes
in_range-nodes S t l = let m : product S.sizes ≤ largest_ring ^ length S.sizes = product-most S.sizes (range-of S t).sizes in rw l at m

-- the code's sizes
pub sizes-torus : (s : Sizes) → T (sizes_in_range (shape_of s)) → Torus (shape_of s)
unfolding shape_of
sizes-torus s t = in_range-torus (shape_of s) t refl

pub sizes-nodes : (s : Sizes) → T (sizes_in_range (shape_of s)) → nodes (shape_of s) ≤ most_nodes
unfolding shape_of
sizes-nodes s t = in_range-nodes (shape_of s) t refl

pub size-pos : (S : Shape) (i : ℕ) → Torus S → i < dimensions → 0 < size S i
unfolding size
size-pos S i t h = let l = t.dims in radix-pos S.sizes i t.positive (omega arith)

pub nodes-pos : (S : Shape) → Torus S → 0 < nodes S
unfolding nodes
nodes-pos S t = product-pos S.sizes t.positive

-- the dimension of a direction is one of the sizes
on_list : (S : Shape) (d : ℕ) → Torus S → d < directions → dimension_of d < length S.sizes
on_list S d t h = let l = t.dims in omega arith

-- Going along a direction -------------------------------------------------------------------------------------------------------------

pub along-lt : (S : Shape) (d c n : ℕ) → Torus S → d < directions → n < nodes S → along S d c n < nodes S
unfolding along nodes
along-lt S d c n t h k = rotate-lt S.sizes (dimension_of d) (c * stride S d) n t.positive (on_list S d t h) k

pub neighbour-lt : (S : Shape) (d n : ℕ) → Torus S → d < directions → n < nodes S → neighbour S d n < nodes S
unfolding neighbour
neighbour-lt S d n t h k = along-lt S d 1 n t h k

pub along-add : (S : Shape) (d a b n : ℕ) → Torus S → d < directions → along S d a (along S d b n) ≡ along S d (b + a) n
unfolding along
along-add S d a b n t h =
    rotate-rotate S.sizes (dimension_of d) (b * stride S d) (a * stride S d) n t.positive (on_list S d t h)
    ∙ ap (λ (c : ℕ). rotate S.sizes (dimension_of d) c n) (sym (add-mul b a (stride S d)))

pub along-comm : (S : Shape) (d e a b n : ℕ) → Torus S → d < directions → e < directions
    → along S d a (along S e b n) ≡ along S e b (along S d a n)
unfolding along
along-comm S d e a b n t h k =
    rotate-comm S.sizes (dimension_of d) (dimension_of e) (a * stride S d) (b * stride S e) n t.positive (on_list S d t h) (on_list S e t k)

-- whole rounds: any number of them, one, none
pub along-rounds : (S : Shape) (d m n : ℕ) → Torus S → d < directions → along S d (m * size S (dimension_of d)) n ≡ n
unfolding along size
along-rounds S d m n t h =
    ap (λ (c : ℕ). rotate S.sizes (dimension_of d) c n) (mul_right_comm m (get_or S.sizes (dimension_of d) 0) (stride S d))
    ∙ rotate-rounds S.sizes (dimension_of d) (m * stride S d) n t.positive (on_list S d t h)

pub along-round : (S : Shape) (d n : ℕ) → Torus S → d < directions → along S d (size S (dimension_of d)) n ≡ n
along-round S d n t h = ap (λ (c : ℕ). along S d c n) (sym (one-mul (size S (dimension_of d)))) ∙ along-rounds S d 1 n t h

pub along-zero : (S : Shape) (d n : ℕ) → Torus S → d < directions → along S d 0 n ≡ n
along-zero S d n t h = ap (λ (c : ℕ). along S d c n) (sym (zero-mul (size S (dimension_of d)))) ∙ along-rounds S d 0 n t h

-- Coordinates -------------------------------------------------------------------------------------------------------------------------

pub coordinate-lt : (S : Shape) (i n : ℕ) → Torus S → i < dimensions → coordinate S i n < size S i
unfolding coordinate size
coordinate-lt S i n t h = let l = t.dims in digit_lt S.sizes i n t.positive (omega arith)

pub coordinate-along-same : (S : Shape) (d c n : ℕ) → Torus S → d < directions
    → coordinate S (dimension_of d) (along S d c n) ≡ (coordinate S (dimension_of d) n + c * stride S d) % size S (dimension_of d)
unfolding coordinate along size
coordinate-along-same S d c n t h = digit-rotate-same S.sizes (dimension_of d) (c * stride S d) n t.positive (on_list S d t h)

pub coordinate-along-other : (S : Shape) (i d c n : ℕ) → Torus S → d < directions → i ≢ dimension_of d
    → coordinate S i (along S d c n) ≡ coordinate S i n
unfolding coordinate along
coordinate-along-other S i d c n t h ne =
    digit-rotate-other S.sizes (dimension_of d) i (c * stride S d) n t.positive (on_list S d t h) ne

-- nodes with the same coordinates are the same
pub coordinates-eq : (S : Shape) (n m : ℕ) → Torus S → n < nodes S → m < nodes S
    → ((i : ℕ) → i < dimensions → coordinate S i n ≡ coordinate S i m) → n ≡ m
unfolding coordinate nodes
coordinates-eq S n m t h k same =
    digits-eq S.sizes n m t.positive h k (λ i l. let e = t.dims in same i (omega arith))

-- A node moved by a packet's offsets --------------------------------------------------------------------------------------------------

moved_below-lt : (S : Shape) (p e n : ℕ) → Torus S → e ≤ directions → n < nodes S → moved_below S p e n < nodes S
unfolding moved_below
moved_below-lt S p zero n t k h = h
moved_below-lt S p (suc e) n t k h = along-lt S e (hops e p) (moved_below S p e n) t k (moved_below-lt S p e n t (le_of_suc-le k) h)

pub moved_by-lt : (S : Shape) (n p : ℕ) → Torus S → n < nodes S → moved_by S p n < nodes S
unfolding moved_by
moved_by-lt S n p t h = moved_below-lt S p directions n t (le_refl directions) h

-- with no hop left the node itself
moved_below-here : (S : Shape) (p e n : ℕ) → Torus S → e ≤ directions → hops_left p ≡ 0 → moved_below S p e n ≡ n
unfolding moved_below
moved_below-here S p zero n t k z = refl
moved_below-here S p (suc e) n t k z =
    ap₂ (λ (c m : ℕ). along S e c m) (arrived-hops e p k z) (moved_below-here S p e n t (le_of_suc-le k) z) ∙ along-zero S e n t k

pub moved_by-here : (S : Shape) (n p : ℕ) → Torus S → n < nodes S → hops_left p ≡ 0 → moved_by S p n ≡ n
unfolding moved_by
moved_by-here S n p t h z = moved_below-here S p directions n t (le_refl directions) z

-- a hop in direction d leaves the hops in every other direction: those the other way along its dimension are none
hops-rest : (d e p : ℕ) → d < directions → e < directions → e ≢ d → hops d p ≢ 0 → hops e (hop (dimension_of d) p) ≡ hops e p
hops-rest d e p h k ne some = go (ℕ_discrete (dimension_of e) (dimension_of d))
  where
    none : dimension_of e ≡ dimension_of d → hops e p ≡ 0
    none s = way (one_way (dimension_of d) p) (ℕ_discrete e (plus (dimension_of d)))
      where
        way : (hops (plus (dimension_of d)) p ≡ 0) ⊎ (hops (minus (dimension_of d)) p ≡ 0) → Dec (e ≡ plus (dimension_of d)) → hops e p ≡ 0
        way (inl z) (yes x) = ap (λ (f : ℕ). hops f p) x ∙ z
        way (inl z) (no x) = absurd (some (ap (λ (f : ℕ). hops f p) (let y : d ≡ plus (dimension_of d) = omega arith in y) ∙ z))
        way (inr z) (yes x) = absurd (some (ap (λ (f : ℕ). hops f p) (let y : d ≡ minus (dimension_of d) = omega arith in y) ∙ z))
        way (inr z) (no x) = ap (λ (f : ℕ). hops f p) (let y : e ≡ minus (dimension_of d) = omega arith in y) ∙ z

    go : Dec (dimension_of e ≡ dimension_of d) → hops e (hop (dimension_of d) p) ≡ hops e p
    go (no x) = hops-hop-other (dimension_of d) e p (dimension-lt d h) k x
    go (yes s) =
        let z = none s in
        let a : hops e (hop (dimension_of e) p) ≡ hops e p - 1 = hops-hop-same e p k in
        ap (λ (i : ℕ). hops e (hop i p)) (sym s) ∙ a ∙ omega arith

-- the directions up to d, then d, then those above it
hop-under : (S : Shape) (d n p e : ℕ) → Torus S → d < directions → e ≤ d → hops d p ≢ 0
    → moved_below S (hop (dimension_of d) p) e (along S d 1 n) ≡ along S d 1 (moved_below S p e n)
unfolding moved_below
hop-under S d n p zero t h k some = refl
hop-under S d n p (suc e) t h k some =
    ap₂ (λ (c m : ℕ). along S e c m)
    (hops-rest d e p h (omega arith) (omega arith) some)
    (hop-under S d n p e t h (le_of_suc-le k) some)
    ∙ along-comm S e d (hops e p) 1 (moved_below S p e n) t (omega arith) h

hop-at : (S : Shape) (d n p : ℕ) → Torus S → d < directions → hops d p ≢ 0
    → moved_below S (hop (dimension_of d) p) (suc d) (along S d 1 n) ≡ moved_below S p (suc d) n
unfolding moved_below
hop-at S d n p t h some =
    ap₂ (λ (c m : ℕ). along S d c m) (hops-hop-same d p h) (hop-under S d n p d t h (le_refl d) some)
    ∙ along-add S d (hops d p - 1) 1 (moved_below S p d n) t h
    ∙ ap (λ (c : ℕ). along S d c (moved_below S p d n)) (omega arith)

hop-over : (S : Shape) (d n p e : ℕ) → Torus S → d < directions → e ≤ directions → d < e → hops d p ≢ 0
    → moved_below S (hop (dimension_of d) p) e (along S d 1 n) ≡ moved_below S p e n
unfolding moved_below
hop-over S d n p zero t h k l some = absurd (not-suc-le-zero l)
hop-over S d n p (suc e) t h k l some = go (eq-or-lt_of_le (le_of_suc-le-suc l)) (λ l'. hop-over S d n p e t h (le_of_suc-le k) l' some)
  where
    go : (d ≡ e) ⊎ (d < e) → (d < e → moved_below S (hop (dimension_of d) p) e (along S d 1 n) ≡ moved_below S p e n)
        → along S e (hops e (hop (dimension_of d) p)) (moved_below S (hop (dimension_of d) p) e (along S d 1 n)) ≡ along S e (hops e p) (moved_below S p e n)
    go (inl q) r = rw (← q) (hop-at S d n p t h some)
    go (inr l') r = ap₂ (λ (c m : ℕ). along S e c m) (hops-rest d e p h k (omega arith) some) (r l')

-- a packet hops to the neighbour, and what is left of its offsets leads to where it was to go
pub moved_by-hop : (S : Shape) (d n p : ℕ) → Torus S → d < directions → n < nodes S → hops d p ≢ 0
    → moved_by S (hop (dimension_of d) p) (neighbour S d n) ≡ moved_by S p n
unfolding moved_by neighbour
moved_by-hop S d n p t h k some = hop-over S d n p directions t h (le_refl directions) h some

-- the coordinates of a node moved: each by the hops of its own dimension. Both directions of dimension j come after those of the dimensions below it
both_ways : (S : Shape) (p j n : ℕ)
    → moved_below S p (2 * suc j) n ≡ along S (minus j) (hops (minus j) p) (along S (plus j) (hops (plus j) p) (moved_below S p (2 * j) n))
unfolding moved_below
both_ways S p j n =
    ap (λ (e : ℕ). moved_below S p e n) (let e : 2 * suc j ≡ suc (suc (2 * j)) = omega arith in e)
    ∙ ap (λ (d : ℕ). along S d (hops d p) (along S (plus j) (hops (plus j) p) (moved_below S p (2 * j) n))) (let e : suc (2 * j) ≡ minus j = omega arith in e)

module _ (S : Shape) (i n p : ℕ) (t : Torus S) (h : i < dimensions) where
  moved : ℕ
  moved = (coordinate S i n + (hops (plus i) p * 1 + hops (minus i) p * (size S i - 1))) % size S i

  -- along dimension i, and along another
  own : (d c m : ℕ) → d < directions → dimension_of d ≡ i → coordinate S i (along S d c m) ≡ (coordinate S i m + c * stride S d) % size S i
  own d c m k e = rw (← e) (coordinate-along-same S d c m t k)

  other : (j m : ℕ) → j < dimensions → i ≢ j
      → coordinate S i (along S (minus j) (hops (minus j) p) (along S (plus j) (hops (plus j) p) m)) ≡ coordinate S i m
  other j m k ne =
      coordinate-along-other S i (minus j) (hops (minus j) p) (along S (plus j) (hops (plus j) p) m) t (omega arith) (apart (minus j) (omega arith))
      ∙ coordinate-along-other S i (plus j) (hops (plus j) p) m t (omega arith) (apart (plus j) (omega arith))
    where
      apart : (d : ℕ) → dimension_of d ≡ j → i ≢ dimension_of d
      apart d e f = ne (f ∙ e)

  strides : (stride S (plus i) ≡ 1) × (stride S (minus i) ≡ size S i - 1)
  unfolding stride
  strides = (
    rw (eq-eqb (plus i % 2) 0 (omega arith)),
    rw (ne_eqb (minus i % 2) 0 (λ e. odd i e)) (ap (λ (j : ℕ). size S j - 1) (let e : dimension_of (minus i) ≡ i = omega arith in e)),
  )
    where
      odd : (i : ℕ) → minus i % 2 ≡ 0 → ⊥
      odd i e = omega arith

  not_yet : (j : ℕ) → j ≤ i → coordinate S i (moved_below S p (2 * j) n) ≡ coordinate S i n
  unfolding moved_below
  not_yet zero l = refl
  not_yet (suc j) l =
      ap (coordinate S i) (both_ways S p j n) ∙ other j (moved_below S p (2 * j) n) (omega arith) (apart i j l) ∙ not_yet j (omega arith)
    where
      apart : (i j : ℕ) → j < i → i ≢ j
      apart i j l e = omega arith

  now : coordinate S i (moved_below S p (2 * suc i) n) ≡ moved
  unfolding moved
  now =
      ap (coordinate S i) (both_ways S p i n)
      ∙ own (minus i) (hops (minus i) p) (along S (plus i) (hops (plus i) p) before) (omega arith) (omega arith)
      ∙ ap (λ (c : ℕ). (c + hops (minus i) p * stride S (minus i)) % size S i) (own (plus i) (hops (plus i) p) before (omega arith) (omega arith))
      ∙ mod-add-mod (coordinate S i before + hops (plus i) p * stride S (plus i)) (size S i) (hops (minus i) p * stride S (minus i))
      ∙ ap (λ (c : ℕ). c % size S i)
      (add_assoc (coordinate S i before) (hops (plus i) p * stride S (plus i)) (hops (minus i) p * stride S (minus i))
      ∙ ap (λ (c : ℕ). c + (hops (plus i) p * stride S (plus i) + hops (minus i) p * stride S (minus i))) (not_yet i (le_refl i))
      ∙ ap₂ (λ (a b : ℕ). coordinate S i n + (hops (plus i) p * a + hops (minus i) p * b)) strides.0 strides.1)
    where
      before : ℕ
      before = moved_below S p (2 * i) n

  by-then : (j : ℕ) → i < j → j ≤ dimensions → coordinate S i (moved_below S p (2 * j) n) ≡ moved
  by-then zero l k = absurd (not-suc-le-zero l)
  by-then (suc j) l k = go (eq-or-lt_of_le (le_of_suc-le-suc l)) (λ m. by-then j m (le_of_suc-le k))
    where
      apart : (i j : ℕ) → i < j → i ≢ j
      apart i j l e = omega arith

      go : (i ≡ j) ⊎ (i < j) → (i < j → coordinate S i (moved_below S p (2 * j) n) ≡ moved) → coordinate S i (moved_below S p (2 * suc j) n) ≡ moved
      go (inl e) r = rw (← e) now
      go (inr m) r = ap (coordinate S i) (both_ways S p j n) ∙ other j (moved_below S p (2 * j) n) k (apart i j m) ∙ r m

pub coordinate-moved_by : (S : Shape) (i n p : ℕ) → Torus S → i < dimensions
    → coordinate S i (moved_by S p n) ≡ (coordinate S i n + (hops (plus i) p * 1 + hops (minus i) p * (size S i - 1))) % size S i
unfolding moved_by moved
coordinate-moved_by S i n p t h = by-then S i n p t h dimensions h (le_refl dimensions)

-- so in each dimension it is where the offset leads
pub coordinate-landing : (S : Shape) (i n p : ℕ) → Torus S → i < dimensions
    → coordinate S i (moved_by S p n) ≡ landing (size S i) (coordinate S i n) (offset i p)
coordinate-landing S i n p t h =
    coordinate-moved_by S i n p t h
    ∙ ap₂ (λ (a b : ℕ). (coordinate S i n + (a * 1 + b * (size S i - 1))) % size S i) (hops-plus i p) (hops-minus i p)

-- Neighbours are apart ----------------------------------------------------------------------------------------------------------------

-- fewer steps than a round lead elsewhere
turned_apart : (c s k : ℕ) → c < k → 0 < s → s < k → (c + s) % k ≢ c
turned_apart c s k h l m e = go (dec_lt (c + s) k)
  where
    go : Dec (c + s < k) → ⊥
    go (yes f) = let q = mod-eq_of_lt f in omega arith
    go (no g) =
        let q : (c + s) % k ≡ (c + s - k) % k = mod-eq-sub-mod (omega arith) in
        let r : (c + s - k) % k ≡ c + s - k = mod-eq_of_lt (omega arith) in
        omega arith

stride-within : (S : Shape) (d : ℕ) → 1 < size S (dimension_of d) → (0 < stride S d) × (stride S d < size S (dimension_of d))
unfolding stride
stride-within S d h = go (is_plus d)
  where
    go : (b : Bool) → (0 < cond b 1 (size S (dimension_of d) - 1)) × (cond b 1 (size S (dimension_of d) - 1) < size S (dimension_of d))
    go true = (omega arith, h)
    go false = (omega arith, omega arith)

pub neighbour-apart : (S : Shape) (d n : ℕ) → Torus S → d < directions → n < nodes S → 1 < size S (dimension_of d) → neighbour S d n ≢ n
unfolding neighbour
neighbour-apart S d n t h k l e =
    turned_apart (coordinate S (dimension_of d) n) (stride S d) (size S (dimension_of d))
    (coordinate-lt S (dimension_of d) n t (dimension-lt d h))
    (stride-within S d l).0 (stride-within S d l).1
    (ap (λ (s : ℕ). (coordinate S (dimension_of d) n + s) % size S (dimension_of d)) (sym (one-mul (stride S d)))
    ∙ sym (coordinate-along-same S d 1 n t h)
    ∙ ap (coordinate S (dimension_of d)) e)
