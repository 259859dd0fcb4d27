-- The routes of a head as facts: which outputs are routes, and that a head always has an escape route or is delivered; what is free in a target, and what
-- a packet needs there. Order: headings; the routes; a target; free slots; slots needed. Assumes nothing.
use Rattle.std.specs.Prelude.{◌≡◌, refl, ◌⊎◌, ◌≢◌, Bool, true, false, cond, not, ◌&&◌, ◌||◌, List, [], ◌∷◌, ◌++◌, map, ℕ, zero, suc, ◌+◌, ◌-◌, ◌<◌, ◌≤◌, T, eqb, length, take}
use Rattle.std.proofs.Common.{ap, sym, ◌∙◌, inl, inr, zero-le, le_of_eq, arith, eq-eqb, ne_eqb, lt-ltb, le-ltb, eqb→eq}
use Rattle.std.proofs.Math.Decide.{ℕ_discrete, dec_le}
use Rattle.std.proofs.Math.Dec.{eqb_refl}
use Rattle.base.specs.Tests.{elem}
use Rattle.base.proofs.Tests.{or-e, or_l, or_r, elem-append-r}
use Rattle.network.specs.Sizes.{Shape, capacity, most_chunks, is_adaptive, dimensions, directions, dimension_of, direction_of, adaptive_queue, escape_queue}
use Rattle.network.specs.Packet.{distance, heading, hops_left}
use Rattle.base.specs.Sums.{sum_below}
use Rattle.base.proofs.Sums.{sum-zero}
use Rattle.network.specs.Torus.{neighbour}
use Rattle.network.specs.Layout.{held, load, taken}
use Rattle.network.proofs.LayoutLaws.{load-most, load-escape, taken-length}
use Rattle.network.specs.Routes.{in_order, without, incoming, incoming_first, headings, routes, deliver, target, free_load, enters_ring, load_needed}
use Rattle.network.specs.RoutesLaws.{Heads, LowestHeading, AllDone, Onward, EscapeRoute}

-- a member of two lists joined, or of a list mapped
elem-either : (a : ℕ) (xs ys : List ℕ) → T (elem a (xs ++ ys)) → T (elem a xs) ⊎ T (elem a ys)
unfolding elem
elem-either a [] ys t = inr t
elem-either a (x ∷ xs) ys t = go (or-e (eqb a x) (elem a (xs ++ ys)) t) (λ s. elem-either a xs ys s)
  where
    go : T (eqb a x) ⊎ T (elem a (xs ++ ys)) → (T (elem a (xs ++ ys)) → T (elem a xs) ⊎ T (elem a ys)) → T (eqb a x || elem a xs) ⊎ T (elem a ys)
    go (inl s) r = inl (or_l (eqb a x) (elem a xs) s)
    go (inr s) r = later (r s)
      where
        later : T (elem a xs) ⊎ T (elem a ys) → T (eqb a x || elem a xs) ⊎ T (elem a ys)
        later (inl u) = inl (or_r (eqb a x) (elem a xs) u)
        later (inr u) = inr u

elem-map : (f : ℕ → ℕ) (a : ℕ) (xs : List ℕ) → T (elem a (map f xs)) → (x : ℕ) × T (elem x xs) × (a ≡ f x)
unfolding elem
elem-map f a [] t = absurd t
elem-map f a (x ∷ xs) t = go (or-e (eqb a (f x)) (elem a (map f xs)) t) (λ s. elem-map f a xs s)
  where
    go : T (eqb a (f x)) ⊎ T (elem a (map f xs)) → (T (elem a (map f xs)) → (y : ℕ) × T (elem y xs) × (a ≡ f y)) → (y : ℕ) × T (eqb y x || elem y xs) × (a ≡ f y)
    go (inl s) r = (x, or_l (eqb x x) (elem x xs) (eqb_refl x), eqb→eq a (f x) s)
    go (inr s) r = let (y, u, e) = r s in (y, or_r (eqb y x) (elem y xs) u, e)

elem-here : (a : ℕ) (xs : List ℕ) → T (elem a (a ∷ xs))
unfolding elem
elem-here a xs = or_l (eqb a a) (elem a xs) (eqb_refl a)

elem-one : (a b : ℕ) → T (elem a (b ∷ [])) → a ≡ b
unfolding elem
elem-one a b t = go (or-e (eqb a b) false t)
  where
    go : T (eqb a b) ⊎ T false → a ≡ b
    go (inl s) = eqb→eq a b s
    go (inr s) = absurd s

pub heads : (is : List ℕ) (p d : ℕ) → T (elem d (headings is p)) → Heads is p d
unfolding headings elem
heads [] p d t = absurd t
heads (i ∷ is) p d t = go (ℕ_discrete (distance i p) 0) (λ s. heads is p d s)
  where
    later : Heads is p d → Heads (i ∷ is) p d
    later h = record { dimension = h.dimension; listed = or_r (eqb h.dimension i) (elem h.dimension is) h.listed; far = h.far; this-way = h.this-way }

    first : distance i p ≢ 0 → T (eqb d (heading i p)) ⊎ T (elem d (headings is p)) → (T (elem d (headings is p)) → Heads is p d) → Heads (i ∷ is) p d
    first ne (inl s) r = record { dimension = i; listed = or_l (eqb i i) (elem i is) (eqb_refl i); far = ne; this-way = eqb→eq d (heading i p) s }
    first ne (inr s) r = later (r s)

    go : Dec (distance i p ≡ 0) → (T (elem d (headings is p)) → Heads is p d) → Heads (i ∷ is) p d
    go (yes z) r = later (r (rw (eq-eqb (distance i p) 0 z) at t))
    go (no ne) r = first ne (or-e (eqb d (heading i p)) (elem d (headings is p)) (rw (ne_eqb (distance i p) 0 ne) at t)) r

pub lowest : (i count p : ℕ) → LowestHeading i count p ⊎ AllDone i count p
unfolding headings in_order
lowest i zero p = inr (record { done = λ j a b. absurd (outside j a b); none = refl })
  where
    outside : (j : ℕ) → i ≤ j → j < i + 0 → ⊥
    outside j a b = omega arith
lowest i (suc count) p = go (ℕ_discrete (distance i p) 0) (lowest (suc i) count p)
  where
    here-or-above : distance i p ≡ 0 → (k : ℕ) → ((j : ℕ) → suc i ≤ j → j < k → distance j p ≡ 0) → (j : ℕ) → i ≤ j → j < k → distance j p ≡ 0
    here-or-above z k up j a b = split (ℕ_discrete i j)
      where
        split : Dec (i ≡ j) → distance j p ≡ 0
        split (yes e) = rw (← e) z
        split (no ne) = up j (omega arith) b

    go : Dec (distance i p ≡ 0) → LowestHeading (suc i) count p ⊎ AllDone (suc i) count p → LowestHeading i (suc count) p ⊎ AllDone i (suc count) p
    go (no ne) r =
        inl
        (record {
          dimension = i;
          from = omega arith;
          below = omega arith;
          far = ne;
          lower = λ j a b. absurd (outside j a b);
          only = ap (λ (t : Bool). take 1 (cond t (headings (in_order (suc i) count) p) (heading i p ∷ headings (in_order (suc i) count) p))) (ne_eqb (distance i p) 0 ne);
        })
      where
        outside : (j : ℕ) → i ≤ j → j < i → ⊥
        outside j a b = omega arith
    go (yes z) (inl l) =
        let at : ℕ = l.dimension in
        let lo : suc i ≤ at = l.from in
        let hi : at < suc i + count = l.below in
        inl
        (record {
          dimension = at;
          from = omega arith;
          below = omega arith;
          far = l.far;
          lower = here-or-above z at l.lower;
          only =
              ap (λ (t : Bool). take 1 (cond t (headings (in_order (suc i) count) p) (heading i p ∷ headings (in_order (suc i) count) p))) (eq-eqb (distance i p) 0 z)
              ∙ l.only;
        })
    go (yes z) (inr n) =
        inr
        (record {
          done = λ j a b. here-or-above z (suc i + count) n.done j a (omega arith);
          none =
              ap (λ (t : Bool). cond t (headings (in_order (suc i) count) p) (heading i p ∷ headings (in_order (suc i) count) p)) (eq-eqb (distance i p) 0 z)
              ∙ n.none;
        })

-- the dimensions in order are those below the number of dimensions
in_order-below : (i count j : ℕ) → T (elem j (in_order i count)) → j < i + count
unfolding in_order elem
in_order-below i zero j t = absurd t
in_order-below i (suc count) j t = go (or-e (eqb j i) (elem j (in_order (suc i) count)) t) (λ s. in_order-below (suc i) count j s)
  where
    go : T (eqb j i) ⊎ T (elem j (in_order (suc i) count)) → (T (elem j (in_order (suc i) count)) → j < suc i + count) → j < i + suc count
    go (inl s) r = let e : j ≡ i = eqb→eq j i s in omega arith
    go (inr s) r = let h : j < suc i + count = r s in omega arith

without-elem : (i j : ℕ) (js : List ℕ) → T (elem j (without i js)) → T (elem j js)
unfolding without elem
without-elem i j [] t = t
without-elem i j (k ∷ js) t = go (eqb i k) t (λ s. without-elem i j js s)
  where
    go : (b : Bool) → T (elem j (cond b (without i js) (k ∷ without i js))) → (T (elem j (without i js)) → T (elem j js)) → T (eqb j k || elem j js)
    go true s r = or_r (eqb j k) (elem j js) (r s)
    go false s r = split (or-e (eqb j k) (elem j (without i js)) s)
      where
        split : T (eqb j k) ⊎ T (elem j (without i js)) → T (eqb j k || elem j js)
        split (inl u) = or_l (eqb j k) (elem j js) u
        split (inr u) = or_r (eqb j k) (elem j js) (r u)

incoming_first-below : (q : ℕ) → incoming q < dimensions → (j : ℕ) → T (elem j (incoming_first q)) → j < dimensions
unfolding incoming_first elem
incoming_first-below q h j t = go (or-e (eqb j (incoming q)) (elem j (without (incoming q) (in_order 0 dimensions))) t)
  where
    go : T (eqb j (incoming q)) ⊎ T (elem j (without (incoming q) (in_order 0 dimensions))) → j < dimensions
    go (inl s) = let e : j ≡ incoming q = eqb→eq j (incoming q) s in omega arith
    go (inr s) = in_order-below 0 dimensions j (without-elem (incoming q) j (in_order 0 dimensions) s)

-- incoming is a dimension
incoming-lt : (q : ℕ) → incoming q < dimensions
unfolding incoming
incoming-lt q = go (eqb q 0)
  where
    go : (b : Bool) → cond b 0 (dimension_of (direction_of q)) < dimensions
    go true = omega arith
    go false = omega arith

pub route-of : (q p o : ℕ) → T (elem o (routes q p)) → ((o ≡ deliver) × (hops_left p ≡ 0)) ⊎ Onward p o
unfolding routes elem
route-of q p o t = go (ℕ_discrete (hops_left p) 0)
  where
    adaptives : List ℕ
    adaptives = map adaptive_queue (headings (incoming_first q) p)

    escapes : List ℕ
    escapes = map escape_queue (take 1 (headings (in_order 0 dimensions) p))

    adaptive : T (elem o adaptives) → Onward p o
    adaptive s =
        let (d, u, e) = elem-map adaptive_queue o (headings (incoming_first q) p) s in
        let h : Heads (incoming_first q) p d = heads (incoming_first q) p d u in
        record {
          dimension = h.dimension;
          below = incoming_first-below q (incoming-lt q) h.dimension h.listed;
          far = h.far;
          by = inl (e ∙ ap adaptive_queue h.this-way);
        }

    escape : LowestHeading 0 dimensions p ⊎ AllDone 0 dimensions p → T (elem o escapes) → Onward p o
    escape (inl l) s =
        let e : o ≡ escape_queue (heading l.dimension p) = elem-one o (escape_queue (heading l.dimension p)) (rw l.only at s) in
        record {
          dimension = l.dimension;
          below = below-dimensions l.dimension l.below;
          far = l.far;
          by = inr (e, λ j h. l.lower j zero-le h);
        }
      where
        below-dimensions : (i : ℕ) → i < 0 + dimensions → i < dimensions
        below-dimensions i h = omega arith
    escape (inr n) s = absurd (nothing (rw n.none at s))
      where
        nothing : T (elem o []) → ⊥
        nothing u = u

    either : T (elem o adaptives) ⊎ T (elem o escapes) → Onward p o
    either (inl s) = adaptive s
    either (inr s) = escape (lowest 0 dimensions p) s

    go : Dec (hops_left p ≡ 0) → ((o ≡ deliver) × (hops_left p ≡ 0)) ⊎ Onward p o
    go (yes z) = inl (elem-one o deliver (rw (eq-eqb (hops_left p) 0 z) at t), z)
    go (no ne) = inr (either (elem-either o adaptives escapes (rw (ne_eqb (hops_left p) 0 ne) at t)))

-- a head that has arrived is delivered
pub arrived-route : (q p : ℕ) → hops_left p ≡ 0 → T (elem deliver (routes q p))
unfolding routes
arrived-route q p z = rw (eq-eqb (hops_left p) 0 z) (elem-here deliver [])

pub escape-route : (q p : ℕ) → hops_left p ≢ 0 → EscapeRoute q p
unfolding routes hops_left
escape-route q p ne = go (lowest 0 dimensions p)
  where
    go : LowestHeading 0 dimensions p ⊎ AllDone 0 dimensions p → EscapeRoute q p
    go (inl l) =
        record {
          dimension = l.dimension;
          below = below-dimensions l.dimension l.below;
          far = l.far;
          lower = λ j h. l.lower j zero-le h;
          route =
              rw (ne_eqb (sum_below dimensions (λ i. distance i p)) 0 ne)
              (elem-append-r (escape_queue (heading l.dimension p)) (map adaptive_queue (headings (incoming_first q) p))
              (map escape_queue (take 1 (headings (in_order 0 dimensions) p)))
              (rw l.only (elem-here (escape_queue (heading l.dimension p)) [])));
        }
      where
        below-dimensions : (i : ℕ) → i < 0 + dimensions → i < dimensions
        below-dimensions i h = omega arith
    go (inr n) = absurd (ne (sum-zero dimensions (λ i. distance i p) (λ i h. n.done i zero-le (below i h))))
      where
        below : (i : ℕ) → i < dimensions → i < 0 + dimensions
        below i h = omega arith

-- the node of a target is the neighbour in the direction of the output
pub target_is : (S : Shape) (n o d r : ℕ) → d ≡ direction_of o → r ≡ neighbour S d n → r ≡ target S n o
unfolding target
target_is S n o d r e h = h ∙ ap (λ (k : ℕ). neighbour S k n) e

-- what is free of a target, by what is taken of it, and where it counts slots by the number that it holds
pub free-load-is : (S : Shape) (w : List ℕ) (n o : ℕ) → free_load S w n o ≡ capacity S o - taken S w (target S n o) o
unfolding free_load
free-load-is S w n o = refl

pub free-load-held : (S : Shape) (w : List ℕ) (n o : ℕ) → is_adaptive o ≡ false → free_load S w n o ≡ capacity S o - length (held S w (target S n o) o)
free-load-held S w n o e = free-load-is S w n o ∙ ap (λ (k : ℕ). capacity S o - k) (taken-length S w (target S n o) o e)

-- where no less is taken, no more is free
pub free-load-fewer : (S : Shape) (w v : List ℕ) (n o : ℕ) → taken S w (target S n o) o ≤ taken S v (target S n o) o → free_load S v n o ≤ free_load S w n o
free-load-fewer S w v n o l = let a = free-load-is S w n o in let b = free-load-is S v n o in omega arith

-- R151, R152: into an escape queue one slot for whoever stands in that queue, two for whoever enters its ring
pub needed-escape : (q d p : ℕ) → load_needed q (escape_queue d) p ≡ cond (eqb q (escape_queue d)) 1 2
unfolding enters_ring load_needed
needed-escape q d p =
    rw (lt-ltb directions (escape_queue d) (omega arith), load-escape (escape_queue d) p (omega arith)) (go (eqb q (escape_queue d)))
  where
    go : (own : Bool) → ◌≡◌ {A = ℕ} (cond (true && not own) 2 1) (cond own 1 2)
    go true = refl
    go false = refl

-- R150: into an adaptive queue what the packet takes there
pub needed-adaptive : (q o p : ℕ) → o ≤ directions → load_needed q o p ≡ load o p
unfolding enters_ring load_needed
needed-adaptive q o p h = rw (le-ltb directions o h)

-- into any queue no less than that
pub load-needed : (q o p : ℕ) → load o p ≤ load_needed q o p
unfolding load_needed
load-needed q o p = go (dec_le o directions)
  where
    either : (enters : Bool) → load o p ≡ 1 → load o p ≤ cond enters 2 (load o p)
    either true l = omega arith
    either false l = omega arith

    go : Dec (o ≤ directions) → load o p ≤ load_needed q o p
    go (yes h) = le_of_eq (sym (needed-adaptive q o p h))
    go (no h) = either (enters_ring q o) (load-escape o p (omega arith))

-- and never more than the largest packet has chunks
pub needed-most : (q o p : ℕ) → load_needed q o p ≤ most_chunks
unfolding load_needed
needed-most q o p = go (enters_ring q o)
  where
    go : (enters : Bool) → cond enters 2 (load o p) ≤ most_chunks
    go true = omega arith
    go false = load-most o p
