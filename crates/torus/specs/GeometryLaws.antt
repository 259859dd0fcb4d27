-- Laws of the code's sizes and places. Order: the nodes; a coordinate by its weight; the neighbour by the weight; a node by its
-- place; the next place; a walk over all nodes; a coordinate moved; the dimensions one by one. `s` are the code's sizes, `n` is a node. Assumes nothing.
use Rattle.std.specs.Prelude.{◌≡◌, refl, List, ◌≢◌, ℕ, zero, suc, ◌+◌, ◌*◌, ◌-◌, ◌/◌, ◌%◌, ◌<◌, ◌≤◌, T, length, set, replicate}
use Rattle.std.proofs.Math.Path.{ap, ap₂, sym}
use Rattle.std.proofs.Common.{subst, ◌∙◌, mul_assoc, mul-le-mul_left, mul-one, one-mul, zero-mul, mod-eq_of_lt, mul-suc, add-one, length-set, get_or-set_same, get_or-set_other, eq-eqb, ne_eqb}
use Rattle.std.proofs.Math.Bool.{cond}
use Rattle.std.proofs.Math.Nat.{add-mul, mul_comm, mod_self, add-mod_right, add-mul-mod_self_right}
use Rattle.std.proofs.Math.Decide.{ℕ_discrete}
use native.Mathlib.Omega.{arith}
use Rattle.std.proofs.Math.ListN.{get_or}
use Rattle.std.proofs.lemmas.List.{length-replicate}
use Rattle.base.specs.Digits.{product, digit, put_digit, rotate, weight}
use Rattle.base.proofs.Digits.{weight-pos, digit-weight, put-weight}
use Rattle.base.specs.Numbers.{number}
use Rattle.base.proofs.Numbers.{weight-first, weight-next, weight-all, number-zero, number-set, number_lt, digit-number}
use Rattle.network.specs.Sizes.{Shape, shape_of, size, nodes, most_nodes, largest_ring, dimensions, directions, dimension_of, sizes_in_range}
use Rattle.network.proofs.PacketLaws.{dimension-lt}
use Rattle.network.specs.Torus.{coordinate, stride, along, neighbour}
use Rattle.network.specs.TorusLaws.{Torus}
use Rattle.network.proofs.TorusLaws.{sizes-torus, in_range-size, size-pos, coordinate-lt, neighbour-lt}
use Rattle.network.specs.declared.Sizes.{Sizes}
use Rattle.torus.specs.declared.Place.{Place}
use Rattle.torus.specs.Geometry.{node_at, OnTorus, WalkTo}

-- The nodes -----------------------------------------------------------------------------------------------------------

pub nodes-is : (s : Sizes) → s.x * s.y * s.z ≡ nodes (shape_of s)
unfolding nodes shape_of product
nodes-is s = mul_assoc s.x s.y s.z ∙ ap (λ (z : ℕ). s.x * (s.y * z)) (sym (mul-one s.z))

-- the nodes of a plane are no more than all
pub plane-most : (s : Sizes) → T (sizes_in_range (shape_of s)) → s.x * s.y ≤ nodes (shape_of s)
unfolding shape_of size
plane-most s t =
    let m = mul-le-mul_left (s.x * s.y) (size-pos (shape_of s) 2 (sizes-torus s t) (omega arith)) in
    let o = mul-one (s.x * s.y) in
    subst (λ (n : ℕ). s.x * s.y ≤ n) (nodes-is s) (omega arith)

-- A coordinate by its weight ------------------------------------------------------------------------------------------------------------

pub coordinate-is : (s : Sizes) (i n k w : ℕ) → i < dimensions → k ≡ size (shape_of s) i → w ≡ weight (shape_of s).sizes i
    → n / w % k ≡ coordinate (shape_of s) i n
unfolding coordinate size shape_of
coordinate-is s i n k w h ek ew = ap₂ (λ (a b : ℕ). n / a % b) ew ek ∙ sym (digit-weight (shape_of s).sizes i n h)

pub weight-some : (s : Sizes) (i : ℕ) → T (sizes_in_range (shape_of s)) → i < dimensions → 0 < weight (shape_of s).sizes i
unfolding shape_of
weight-some s i t h = weight-pos (shape_of s).sizes i (sizes-torus s t).positive

-- a coordinate c is on its ring of k nodes
pub on-ring : {c k : ℕ} (s : Sizes) (i n : ℕ) → T (sizes_in_range (shape_of s)) → i < dimensions → c ≡ coordinate (shape_of s) i n → k ≡ size (shape_of s) i
    → (c < k) × (k ≤ largest_ring)
on-ring s i n t h ec ek =
    let l = coordinate-lt (shape_of s) i n (sizes-torus s t) h in
    let m = in_range-size (shape_of s) i t in
    (omega arith, omega arith)

-- The neighbour by the weight ---------------------------------------------------------------------------------------------------------

-- what the code knows of a node n and a direction d: the coordinate c, the size k of the ring and the weight w
pub record Ring (S : Shape) (d n c k w : ℕ) : Type 0 where
  pub torus : Torus S
  pub way : d < directions
  pub node : n < nodes S
  pub few : nodes S ≤ most_nodes
  pub at : c ≡ coordinate S (dimension_of d) n
  pub round : k ≡ size S (dimension_of d)
  pub short : k ≤ largest_ring
  pub step : w ≡ weight S.sizes (dimension_of d)

module _ {S : Shape} {d n c k w : ℕ} (r : Ring S d n c k w) where
  pub within-ring : c < k
  within-ring =
      let l = coordinate-lt S (dimension_of d) n r.torus (dimension-lt d r.way) in
      let a = r.at in
      let b = r.round in
      omega arith

  pub neighbour-small : neighbour S d n < most_nodes
  neighbour-small = let l = neighbour-lt S d n r.torus r.way r.node in let m = r.few in omega arith

  -- where the neighbour has the coordinate b
  lands : (b : ℕ) → (c + stride S d) % k ≡ b → neighbour S d n + c * w ≡ n + b * w
  unfolding neighbour along rotate coordinate size
  lands b e =
      let l = r.torus.dims in
      let h = r.way in
      let at : (digit S.sizes (dimension_of d) n + 1 * stride S d) % size S (dimension_of d) ≡ b =
      ap₂ (λ (a q : ℕ). (a + 1 * stride S d) % q) (sym r.at) (sym r.round)
      ∙ ap (λ (q : ℕ). (c + q) % k) (one-mul (stride S d))
      ∙ e in
      ap₂ (λ (a q : ℕ). put_digit S.sizes (dimension_of d) ((digit S.sizes (dimension_of d) n + 1 * stride S d) % size S (dimension_of d)) n + a * q)
      r.at r.step
      ∙ put-weight S.sizes (dimension_of d) ((digit S.sizes (dimension_of d) n + 1 * stride S d) % size S (dimension_of d)) n (omega arith)
      ∙ ap₂ (λ (a q : ℕ). n + a * q) at (sym r.step)

  stride-plus : d % 2 ≡ 0 → stride S d ≡ 1
  unfolding stride
  stride-plus e = ap (λ b. cond b 1 (size S (dimension_of d) - 1)) (eq-eqb (d % 2) 0 e)

  stride-minus : d % 2 ≢ 0 → stride S d ≡ k - 1
  unfolding stride
  stride-minus ne = ap (λ b. cond b 1 (size S (dimension_of d) - 1)) (ne_eqb (d % 2) 0 ne) ∙ ap (λ (q : ℕ). q - 1) (sym r.round)

  pub step-on : d % 2 ≡ 0 → c + 1 < k → n + w ≡ neighbour S d n
  step-on e l =
      let f : neighbour S d n + c * w ≡ n + (c + 1) * w =
      lands (c + 1) (ap (λ (q : ℕ). (c + q) % k) (stride-plus e) ∙ mod-eq_of_lt l) in
      let g = add-mul c 1 w in
      let o = one-mul w in
      omega arith

  pub step-round : d % 2 ≡ 0 → k ≤ c + 1 → neighbour S d n + c * w ≡ n
  step-round e l =
      let i = within-ring in
      let q : c + 1 ≡ k = omega arith in
      let f : neighbour S d n + c * w ≡ n + 0 * w =
      lands 0 (ap (λ (q : ℕ). (c + q) % k) (stride-plus e) ∙ ap (λ (m : ℕ). m % k) q ∙ mod_self k) in
      let z = zero-mul w in
      omega arith

  pub step_back : d % 2 ≢ 0 → 0 < c → neighbour S d n + w ≡ n
  step_back ne l =
      let i = within-ring in
      let q : c + (k - 1) ≡ c - 1 + k = omega arith in
      let f : neighbour S d n + c * w ≡ n + (c - 1) * w =
      lands (c - 1)
      (ap (λ (q : ℕ). (c + q) % k) (stride-minus ne)
      ∙ ap (λ (m : ℕ). m % k) q
      ∙ add-mod_right (c - 1) k
      ∙ mod-eq_of_lt (let j : c - 1 < k = omega arith in j)) in
      let g = add-mul (c - 1) 1 w in
      let o = one-mul w in
      let p : (c - 1 + 1) * w ≡ c * w = ap (λ (m : ℕ). m * w) (let j : c - 1 + 1 ≡ c = omega arith in j) in
      omega arith

  pub step-back-round : d % 2 ≢ 0 → c ≤ 0 → n + (k - 1) * w ≡ neighbour S d n
  step-back-round ne l =
      let i = within-ring in
      let q : c + (k - 1) ≡ k - 1 = omega arith in
      let f : neighbour S d n + c * w ≡ n + (k - 1) * w =
      lands (k - 1)
      (ap (λ (q : ℕ). (c + q) % k) (stride-minus ne)
      ∙ ap (λ (m : ℕ). m % k) q
      ∙ mod-eq_of_lt (let j : k - 1 < k = omega arith in j)) in
      let z : c * w ≡ 0 * w = ap (λ (m : ℕ). m * w) (let j : c ≡ 0 = omega arith in j) in
      let y = zero-mul w in
      omega arith

-- A node by its place -----------------------------------------------------------------------------------------------------------------

module _ {s : Sizes} {place : Place} (on : OnTorus s place) where
  -- as many sizes as coordinates
  sizes-length : length place.at ≡ length (shape_of s).sizes
  unfolding shape_of
  sizes-length = on.whole

  sizes-below : (i : ℕ) → i < length (shape_of s).sizes → get_or place.at i 0 < get_or (shape_of s).sizes i 0
  unfolding shape_of size
  sizes-below i h = on.below i h

  pub place-node : node_at s place < nodes (shape_of s)
  unfolding nodes
  place-node = number_lt (shape_of s).sizes place.at sizes-length sizes-below

  pub place-coordinate : (i : ℕ) → i < dimensions → get_or place.at i 0 ≡ coordinate (shape_of s) i (node_at s place)
  unfolding coordinate shape_of
  place-coordinate i h = sym (digit-number (shape_of s).sizes place.at i sizes-length sizes-below h)

-- The next place ------------------------------------------------------------------------------------------------------------------------

-- the coordinates below i have gone round to 0, and the one of dimension i is to go on by one
pub record Carrying (s : Sizes) (place : Place) (at : List ℕ) (i : ℕ) : Type 0 where
  pub on : OnTorus s (record { at = at })
  pub carried : number (shape_of s).sizes at + weight (shape_of s).sizes i ≡ node_at s place + 1
  pub within : i ≤ dimensions

-- one coordinate replaced by another of its ring
place_set : (s : Sizes) (at : List ℕ) (i c : ℕ) → OnTorus s (record { at = at }) → i < dimensions → c < size (shape_of s) i → OnTorus s (record { at = set at i c })
place_set s at i c on h l =
    record {
      sizes = on.sizes;
      whole = length-set at i c ∙ on.whole;
      below = λ j k. each j k (ℕ_discrete j i);
    }
  where
    each : (j : ℕ) → j < dimensions → Dec (j ≡ i) → get_or (set at i c) j 0 < size (shape_of s) j
    each j k (yes e) =
        let w = on.whole in
        let v : get_or (set at i c) j 0 ≡ c = ap (λ (m : ℕ). get_or (set at i c) m 0) e ∙ get_or-set_same at i c 0 (omega arith) in
        let z : size (shape_of s) j ≡ size (shape_of s) i = ap (size (shape_of s)) e in
        omega arith
    each j k (no ne) = let v = get_or-set_other at i j c 0 ne in let b = on.below j k in omega arith

module _ (s : Sizes) (place : Place) where
  ks : List ℕ
  ks = (shape_of s).sizes

  -- the number with one coordinate replaced
  number_put : (at : List ℕ) (i c : ℕ) → OnTorus s (record { at = at }) → i < dimensions
      → number ks (set at i c) + get_or at i 0 * weight ks i ≡ number ks at + c * weight ks i
  unfolding ks shape_of
  number_put at i c on h = number-set (shape_of s).sizes at i c h (let w = on.whole in omega arith)

  pub carry-start : OnTorus s place → Carrying s place place.at 0
  carry-start on =
      record {
        on = record { sizes = on.sizes; whole = on.whole; below = on.below };
        carried = ap (λ (w : ℕ). node_at s place + w) (weight-first (shape_of s).sizes);
        within = omega arith;
      }

  -- it goes on
  pub carry-end : (at : List ℕ) (i c k : ℕ) → OnTorus s place → Carrying s place at i → i < dimensions → c ≡ get_or at i 0 + 1 → k ≡ size (shape_of s) i → c < k
      → OnTorus s (record { at = set at i c }) × (number (shape_of s).sizes (set at i c) ≡ (node_at s place + 1) % nodes (shape_of s))
  unfolding ks
  carry-end at i c k on carry h e f l =
      let after = place_set s at i c carry.on h (omega arith) in
      let p = number_put at i c carry.on h in
      let m : c * weight ks i ≡ get_or at i 0 * weight ks i + weight ks i =
      ap (λ (b : ℕ). b * weight ks i) e ∙ add-mul (get_or at i 0) 1 (weight ks i) ∙ ap (λ (b : ℕ). get_or at i 0 * weight ks i + b) (one-mul (weight ks i)) in
      let q = carry.carried in
      let same : number ks (set at i c) ≡ node_at s place + 1 = omega arith in
      let b = place-node after in
      (after, same ∙ sym (mod-eq_of_lt (let d : node_at s place + 1 < nodes (shape_of s) = omega arith in d)))

  -- it goes round to 0, and the next one is to go on
  pub carry-more : (at : List ℕ) (i c k : ℕ) → Carrying s place at i → i < dimensions → c ≡ get_or at i 0 + 1 → k ≡ size (shape_of s) i → k ≤ c
      → Carrying s place (set at i 0) (i + 1)
  unfolding ks shape_of size
  carry-more at i c k carry h e f l =
      let b : get_or at i 0 < get_or ks i 0 = carry.on.below i h in
      let full : get_or ks i 0 ≡ get_or at i 0 + 1 = omega arith in
      let p = number_put at i 0 carry.on h in
      let w : weight ks (suc i) ≡ weight ks i * get_or ks i 0 = weight-next ks i h in
      let m : weight ks i * get_or ks i 0 ≡ get_or at i 0 * weight ks i + weight ks i =
      mul_comm (weight ks i) (get_or ks i 0) ∙ ap (λ (k : ℕ). k * weight ks i) full ∙ add-mul (get_or at i 0) 1 (weight ks i)
      ∙ ap (λ (k : ℕ). get_or at i 0 * weight ks i + k) (one-mul (weight ks i)) in
      let q = carry.carried in
      record {
        on = place_set s at i 0 carry.on h (omega arith);
        carried = ap (λ (j : ℕ). number ks (set at i 0) + weight ks j) (add-one i) ∙ omega arith;
        within = omega arith;
      }

  -- all went round
  pub carry-round : (at : List ℕ) (i : ℕ) → OnTorus s place → Carrying s place at i → dimensions ≤ i
      → OnTorus s (record { at = at }) × (number (shape_of s).sizes at ≡ (node_at s place + 1) % nodes (shape_of s))
  unfolding ks nodes shape_of
  carry-round at i on carry h =
      let within = carry.within in
      let all : weight ks i ≡ product ks = ap (weight ks) (let e : i ≡ dimensions = omega arith in e) ∙ weight-all ks in
      let q = carry.carried in
      let l = place-node on in
      let m = place-node carry.on in
      let last : node_at s place + 1 ≡ product ks = omega arith in
      let none : number ks at ≡ 0 = omega arith in
      (carry.on, none ∙ sym (ap (λ (k : ℕ). k % product ks) last ∙ mod_self (product ks)))

-- A walk over all nodes -------------------------------------------------------------------------------------------------------------------

-- it starts at node 0
zeros : (k i : ℕ) → get_or {A = ℕ} (replicate k 0) i 0 ≡ 0
zeros zero i = refl
zeros (suc k) zero = refl
zeros (suc k) (suc i) = zeros k i

pub walk_start : (s : Sizes) → T (sizes_in_range (shape_of s)) → WalkTo s 0 (record { at = replicate dimensions 0 })
walk_start s t =
    record {
      on =
          record {
            sizes = t;
            whole = length-replicate {A = ℕ} dimensions 0;
            below = λ i h. let p = size-pos (shape_of s) i (sizes-torus s t) h in let b = zeros dimensions i in omega arith;
          };
      node = λ h. number-zero (shape_of s).sizes (replicate dimensions 0) (zeros dimensions);
    }

pub walk-next : (s : Sizes) (n : ℕ) (place next : Place) → WalkTo s n place → n < nodes (shape_of s) → OnTorus s next
    → node_at s next ≡ (node_at s place + 1) % nodes (shape_of s) → WalkTo s (n + 1) next
walk-next s n place next walk h on e =
    record {
      on = on;
      node = λ l. e ∙ ap (λ (m : ℕ). (m + 1) % nodes (shape_of s)) (walk.node h) ∙ mod-eq_of_lt l;
    }

-- a coordinate moved: b steps back are b rounds forward but for b steps
pub moved-is : (c f b k : ℕ) → 0 < k → b ≤ k → (c + f + k - b) % k ≡ (c + (f * 1 + b * (k - 1))) % k
moved-is c f b k h l =
    let r : b * k ≡ b * (k - 1) + b = ap (λ (x : ℕ). b * x) (let e : k ≡ suc (k - 1) = omega arith in e) ∙ mul-suc b (k - 1) in
    let t : c + f + k - b + b * k ≡ c + (f * 1 + b * (k - 1)) + k = omega arith in
    sym (add-mul-mod_self_right (c + f + k - b) b k) ∙ ap (λ (x : ℕ). x % k) t ∙ add-mod_right (c + (f * 1 + b * (k - 1))) k

-- The dimensions one by one -----------------------------------------------------------------------------------------------------------

pub last-dimension : (i : ℕ) → i < dimensions → (i ≡ 0 → ⊥) → (i ≡ 1 → ⊥) → i ≡ 2
last-dimension i h no-x no-y = omega arith

pub size-x : (s : Sizes) (i : ℕ) → i ≡ 0 → s.x ≡ size (shape_of s) i
unfolding size shape_of
size-x s i e = rw e refl

pub size-y : (s : Sizes) (i : ℕ) → i ≡ 1 → s.y ≡ size (shape_of s) i
unfolding size shape_of
size-y s i e = rw e refl

pub size-z : (s : Sizes) (i : ℕ) → i ≡ 2 → s.z ≡ size (shape_of s) i
unfolding size shape_of
size-z s i e = rw e refl

pub weight-x : (s : Sizes) (i : ℕ) → i ≡ 0 → 1 ≡ weight (shape_of s).sizes i
unfolding weight shape_of
weight-x s i e = rw e refl

pub weight-y : (s : Sizes) (i : ℕ) → i ≡ 1 → s.x ≡ weight (shape_of s).sizes i
unfolding weight shape_of
weight-y s i e = rw e (sym (mul-one s.x))

pub weight-z : (s : Sizes) (i : ℕ) → i ≡ 2 → s.x * s.y ≡ weight (shape_of s).sizes i
unfolding weight shape_of
weight-z s i e = rw e (ap (λ (y : ℕ). s.x * y) (sym (mul-one s.y)))
