-- While anything is held, some move is permitted. The argument, once over the direction: take the last direction whose escape queues hold anything;
-- a head there is delivered, or enters a later ring, which is empty, or goes along its own ring, where a slot is free. If no escape queue holds
-- anything, any head is delivered or enters an empty ring. Order: two searches; a step round a ring; one head; the theorem. Assumes nothing.
use Rattle.std.specs.Prelude.{◌≡◌, refl, ◌⊎◌, ◌≢◌, Bool, List, eqb, length}
use Rattle.std.proofs.Common.{ap, sym, ◌∙◌, inl, inr, lt-suc_self, not-suc-le-zero, eq-or-lt_of_le, le_of_suc-le-suc, add-one, eq-eqb}
use Rattle.std.proofs.Math.Bool.{true, false, cond}
use Prim.Native.Nat.{ℕ, zero, suc, ◌+◌, ◌-◌, ◌<◌, ◌≤◌}
use Rattle.std.proofs.Math.Nat.{le_step}
use Rattle.std.proofs.Math.Decide.{ℕ_discrete, dec_lt}
use native.Mathlib.Omega.{arith}
use Rattle.network.specs.Sizes.{Shape, size, nodes, queues, directions, dimension_of, direction_of, escape_queue, capacity}
use Rattle.network.proofs.SizesLaws.{range-of, escape-capacity}
use Rattle.network.specs.Packet.{distance, hops, heading, hops_left}
use Rattle.network.proofs.PacketLaws.{dimension-lt, heading-lt, heading-dimension, heading-of}
use Rattle.network.specs.Torus.{along, neighbour}
use Rattle.network.specs.TorusLaws.{Torus}
use Rattle.network.proofs.TorusLaws.{along-lt, along-add, along-zero, along-round, neighbour-lt, size-pos}
use Rattle.network.specs.Layout.{held, taken}
use Rattle.network.proofs.LayoutLaws.{taken_none, taken-some, some-held}
use Rattle.network.specs.Check.{packets_held, opposite}
use Rattle.network.specs.CheckLaws.{PacketFits, Network}
use Rattle.network.proofs.CheckLaws.{both_zero}
use Rattle.network.specs.Routes.{deliver, target, load_needed, free_load}
use Rattle.network.specs.RoutesLaws.{EscapeRoute}
use Rattle.network.proofs.RoutesLaws.{escape-route, arrived-route, free-load-is, needed-escape}
use Rattle.network.specs.Refusals.{head}
use Rattle.network.specs.RefusalLaws.{Permitted}
use Rattle.network.proofs.AfterLaws.{head-fits}
use Rattle.run.specs.Rings.{Room, RingRoom, ring_of, escape-direction, escape-lt, escape-is}

-- a number below n at which f is not 0, or f is 0 at all of them
pub some_or_none : (n : ℕ) (f : ℕ → ℕ) → ((i : ℕ) × (i < n) × (f i ≢ 0)) ⊎ ((i : ℕ) → i < n → f i ≡ 0)
some_or_none zero f = inr (λ i h. absurd (not-suc-le-zero h))
some_or_none (suc n) f = go (ℕ_discrete (f n) 0) (some_or_none n f)
  where
    go : Dec (f n ≡ 0) → ((i : ℕ) × (i < n) × (f i ≢ 0)) ⊎ ((i : ℕ) → i < n → f i ≡ 0)
        → ((i : ℕ) × (i < suc n) × (f i ≢ 0)) ⊎ ((i : ℕ) → i < suc n → f i ≡ 0)
    go (no ne) r = inl (n, lt-suc_self n, ne)
    go (yes z) (inl s) = inl (s.0, le_step s.1, s.2)
    go (yes z) (inr a) = inr (λ i h. at i (eq-or-lt_of_le (le_of_suc-le-suc h)))
      where
        at : (i : ℕ) → (i ≡ n) ⊎ (i < n) → f i ≡ 0
        at i (inl e) = ap f e ∙ z
        at i (inr h) = a i h

-- all escape queues of a direction are empty
unfoldable pub Empty : Shape → List ℕ → ℕ → Type 0
Empty S w d = (n : ℕ) → n < nodes S → length (held S w n (escape_queue d)) ≡ 0

-- the last direction below m whose escape queues hold anything, if there is one
pub record Last (S : Shape) (w : List ℕ) (m : ℕ) : Type 0 where
  pub direction : ℕ
  pub below : direction < m
  pub node : ℕ
  pub inside : node < nodes S
  pub holds : length (held S w node (escape_queue direction)) ≢ 0
  pub later : (e : ℕ) → direction < e → e < m → Empty S w e

pub last : (S : Shape) (w : List ℕ) (m : ℕ) → Last S w m ⊎ ((e : ℕ) → e < m → Empty S w e)
unfolding Empty
last S w zero = inr (λ e h. absurd (not-suc-le-zero h))
last S w (suc m) = go (some_or_none (nodes S) (λ n. length (held S w n (escape_queue m)))) (last S w m)
  where
    go : ((n : ℕ) × (n < nodes S) × (length (held S w n (escape_queue m)) ≢ 0)) ⊎ ((n : ℕ) → n < nodes S → length (held S w n (escape_queue m)) ≡ 0)
        → Last S w m ⊎ ((e : ℕ) → e < m → (n : ℕ) → n < nodes S → length (held S w n (escape_queue e)) ≡ 0)
        → Last S w (suc m) ⊎ ((e : ℕ) → e < suc m → (n : ℕ) → n < nodes S → length (held S w n (escape_queue e)) ≡ 0)
    go (inl s) r =
        inl (record { direction = m; below = lt-suc_self m; node = s.0; inside = s.1; holds = s.2; later = λ e a b. absurd (between e a b) })
      where
        between : (e : ℕ) → m < e → e < suc m → ⊥
        between e a b = omega arith
    go (inr z) (inl l) =
        inl
        (record {
          direction = l.direction;
          below = le_step l.below;
          node = l.node;
          inside = l.inside;
          holds = l.holds;
          later = λ e a b. at e a (eq-or-lt_of_le (le_of_suc-le-suc b));
        })
      where
        at : (e : ℕ) → l.direction < e → (e ≡ m) ⊎ (e < m) → (n : ℕ) → n < nodes S → length (held S w n (escape_queue e)) ≡ 0
        at e a (inl s) n h = rw s (z n h)
        at e a (inr b) n h = l.later e a b n h
    go (inr z) (inr a) = inr (λ e h. at e (eq-or-lt_of_le (le_of_suc-le-suc h)))
      where
        at : (e : ℕ) → (e ≡ m) ⊎ (e < m) → (n : ℕ) → n < nodes S → length (held S w n (escape_queue e)) ≡ 0
        at e (inl s) n h = rw s (z n h)
        at e (inr b) n h = a e b n h

-- from a place that holds something to a later one with room there are two next to each other, the first of which holds something and the second
-- of which has room: `f j` is how much is taken at the j-th place
pub step-over : (c : ℕ) (f : ℕ → ℕ) (j : ℕ) → f 0 ≢ 0 → f (suc j) < c → 0 < c → (i : ℕ) × (f i ≢ 0) × (f (suc i) < c)
step-over c f zero start room pos = (0, start, room)
step-over c f (suc j) start room pos = go (ℕ_discrete (f (suc j)) 0) (λ r. step-over c f j start r pos)
  where
    go : Dec (f (suc j) ≡ 0) → (f (suc j) < c → (i : ℕ) × (f i ≢ 0) × (f (suc i) < c)) → (i : ℕ) × (f i ≢ 0) × (f (suc i) < c)
    go (yes z) r = r (let e : f (suc j) ≡ 0 = z in omega arith)
    go (no ne) r = (suc j, ne, room)

-- a permitted move, whichever
pub record PermittedMove (S : Shape) (w : List ℕ) : Type 0 where
  pub node : ℕ
  pub queue : ℕ
  pub output : ℕ
  pub permitted : Permitted S w node queue output

-- one node further along
one_more : (S : Shape) (d i n : ℕ) → Torus S → d < directions → neighbour S d (along S d i n) ≡ along S d (suc i) n
unfolding neighbour
one_more S d i n tor hd = along-add S d 1 i n tor hd ∙ ap (λ (x : ℕ). along S d x n) (add-one i)

-- along its own ring a packet needs one slot
fits_one : (S : Shape) (w : List ℕ) (n d p : ℕ) → d < directions → Room S w (neighbour S d n) (escape_queue d)
    → load_needed (escape_queue d) (escape_queue d) p ≤ free_load S w n (escape_queue d)
unfolding target Room
fits_one S w n d p hd room =
    rw (needed-escape (escape_queue d) d p, eq-eqb (escape_queue d) (escape_queue d) refl, free-load-is S w n (escape_queue d), escape-direction d hd) (omega arith)

-- in an escape queue of direction d a packet goes on along that dimension in that direction
the-sign : (S : Shape) (n d p : ℕ) → d < directions → PacketFits S n (escape_queue d) p → (i : ℕ) → i ≡ dimension_of d → distance i p ≢ 0 → heading i p ≡ d
the-sign S n d p hd f i e far = go (ℕ_discrete (hops d p) 0)
  where
    none-back : hops (opposite d) p ≡ 0
    none-back = rw (escape-direction d hd) at (f.sign (λ z. nonzero d z))
      where
        nonzero : (d : ℕ) → escape_queue d ≡ 0 → ⊥
        nonzero d z = omega arith

    go : Dec (hops d p ≡ 0) → heading i p ≡ d
    go (no ne) = ap (λ (j : ℕ). heading j p) e ∙ heading-of d p ne
    go (yes z) = absurd (far (ap (λ (j : ℕ). distance j p) e ∙ both_zero d p z none-back))

module _ (S : Shape) (w : List ℕ) (tor : Torus S) (N : Network S w) where
  two-slots : (d : ℕ) → 2 ≤ capacity S (escape_queue d)
  two-slots d = rw (escape-capacity S d) (range-of S N.in-range).escape.low

  -- a head that has arrived is delivered
  delivers : (n q : ℕ) → n < nodes S → q < queues → length (held S w n q) ≢ 0 → hops_left (head (held S w n q)) ≡ 0 → PermittedMove S w
  delivers n q hn hq holds z =
      record {
        node = n;
        queue = q;
        output = deliver;
        permitted =
            record {
              node = hn;
              queue = hq;
              output = omega arith;
              holds = holds;
              route = arrived-route q (head (held S w n q)) z;
              room = λ ne. absurd (ne refl);
            };
      }

  -- a head may take its escape route e where the target has as many free slots as it needs
  escapes : (n q : ℕ) → n < nodes S → q < queues → length (held S w n q) ≢ 0 → (r : EscapeRoute q (head (held S w n q)))
      → load_needed q (escape_queue (heading r.dimension (head (held S w n q)))) (head (held S w n q))
      ≤ free_load S w n (escape_queue (heading r.dimension (head (held S w n q)))) → PermittedMove S w
  escapes n q hn hq holds r flow =
      record {
        node = n;
        queue = q;
        output = escape_queue (heading r.dimension (head (held S w n q)));
        permitted =
            record {
              node = hn;
              queue = hq;
              output = escape-lt (heading r.dimension (head (held S w n q))) (heading-lt r.dimension (head (held S w n q)) r.below);
              holds = holds;
              route = r.route;
              room = λ ne. flow;
            };
      }

  -- an empty ring takes anybody
  into-empty : (n q e p : ℕ) → n < nodes S → e < directions → Empty S w e → load_needed q (escape_queue e) p ≤ free_load S w n (escape_queue e)
  unfolding target Empty
  into-empty n q e p hn he z =
      let a : taken S w (target S n (escape_queue e)) (escape_queue e) ≡ 0 =
      taken_none S w (target S n (escape_queue e)) (escape_queue e)
      (z (target S n (escape_queue e)) (neighbour-lt S (direction_of (escape_queue e)) n tor (rw (escape-direction e he) he) hn)) in
      let b : 2 ≤ capacity S (escape_queue e) = two-slots e in
      rw (needed-escape q e p, free-load-is S w n (escape_queue e))
      (go (eqb q (escape_queue e)) (capacity S (escape_queue e)) (taken S w (target S n (escape_queue e)) (escape_queue e)) a b)
    where
      go : (own : Bool) (c l : ℕ) → l ≡ 0 → 2 ≤ c → cond own 1 2 ≤ c - l
      go true c l a b = omega arith
      go false c l a b = omega arith

  -- nothing in any escape queue: whoever is held moves
  all-empty : ((e : ℕ) → e < directions → Empty S w e) → (n q : ℕ) → n < nodes S → q < queues → length (held S w n q) ≢ 0 → PermittedMove S w
  all-empty z n q hn hq holds = go (ℕ_discrete (hops_left p) 0)
    where
      p : ℕ
      p = head (held S w n q)

      go : Dec (hops_left p ≡ 0) → PermittedMove S w
      go (yes a) = delivers n q hn hq holds a
      go (no ne) =
          let r : EscapeRoute q p = escape-route q p ne in
          let he : heading r.dimension p < directions = heading-lt r.dimension p r.below in
          escapes n q hn hq holds r (into-empty n q (heading r.dimension p) p hn he (z (heading r.dimension p) he))

  -- a head in the last direction that holds anything moves, if it does not go along its own ring, or if there is room ahead
  along-or-later : (d : ℕ) → d < directions → ((e : ℕ) → d < e → e < directions → Empty S w e)
      → (n : ℕ) → n < nodes S → length (held S w n (escape_queue d)) ≢ 0 → Room S w (neighbour S d n) (escape_queue d) → PermittedMove S w
  unfolding Room
  along-or-later d hd later n hn holds room = go (ℕ_discrete (hops_left p) 0)
    where
      q : ℕ
      q = escape_queue d

      hq : q < queues
      hq = escape-lt d hd

      p : ℕ
      p = head (held S w n q)

      f : PacketFits S n q p
      f = head-fits S w n q N hn hq holds

      -- the lowest dimension in which a hop is left is not below the ring's own
      not_lower : (r : EscapeRoute q p) → dimension_of d ≤ r.dimension
      not_lower r = at (dec_lt r.dimension (dimension_of d))
        where
          at : Dec (r.dimension < dimension_of d) → dimension_of d ≤ r.dimension
          at (yes h) = absurd (r.far (f.lower (escape-is d) r.dimension (rw (escape-direction d hd) h)))
          at (no h) = omega arith

      go : Dec (hops_left p ≡ 0) → PermittedMove S w
      go (yes a) = delivers n q hn hq holds a
      go (no ne) = way (escape-route q p ne)
        where
          way : EscapeRoute q p → PermittedMove S w
          way r = split (ℕ_discrete r.dimension (dimension_of d))
            where
              e : ℕ
              e = heading r.dimension p

              he : e < directions
              he = heading-lt r.dimension p r.below

              split : Dec (r.dimension ≡ dimension_of d) → PermittedMove S w
              split (yes same) = escapes n q hn hq holds r (rw own (fits_one S w n d p hd room))
                where
                  own : e ≡ d
                  own = the-sign S n d p hd f r.dimension same r.far
              split (no other) =
                  escapes n q hn hq holds r
                  (into-empty n q e p hn he (later e (above (not_lower r) other) he))
                where
                  above : dimension_of d ≤ r.dimension → r.dimension ≢ dimension_of d → d < e
                  above l x = let y : dimension_of e ≡ r.dimension = heading-dimension r.dimension p in omega arith

  -- the last direction that holds anything: step over from a queue that holds something to one with room
  ring-moves : Last S w directions → PermittedMove S w
  unfolding Room
  ring-moves l = go (step-over (capacity S (escape_queue d)) at (old.steps + (k - 1)) start room pos)
    where
      d : ℕ
      d = l.direction

      hd : d < directions
      hd = l.below

      k : ℕ
      k = size S (dimension_of d)

      old : RingRoom S w d l.node
      old = ring_of S w d l.node (N.ring d l.node hd l.inside)

      at : ℕ → ℕ
      at j = taken S w (along S d j l.node) (escape_queue d)

      start : at 0 ≢ 0
      start z = taken-some S w l.node (escape_queue d) l.holds (sym (ap (λ (n : ℕ). taken S w n (escape_queue d)) (along-zero S d l.node tor hd)) ∙ z)

      -- once round the ring and on to the free slot
      round : along S d (suc (old.steps + (k - 1))) l.node ≡ along S d old.steps l.node
      round =
          let p : 0 < size S (dimension_of d) = size-pos S (dimension_of d) tor (dimension-lt d hd) in
          let e : suc (old.steps + (k - 1)) ≡ size S (dimension_of d) + old.steps = omega arith in
          ap (λ (x : ℕ). along S d x l.node) e
          ∙ sym (along-add S d old.steps (size S (dimension_of d)) l.node tor hd)
          ∙ ap (λ (x : ℕ). along S d old.steps x) (along-round S d l.node tor hd)

      room : at (suc (old.steps + (k - 1))) < capacity S (escape_queue d)
      room = rw round old.room

      pos : 0 < capacity S (escape_queue d)
      pos = let two : 2 ≤ capacity S (escape_queue d) = two-slots d in omega arith

      go : (i : ℕ) × (at i ≢ 0) × (at (suc i) < capacity S (escape_queue d)) → PermittedMove S w
      go r =
          along-or-later d hd l.later (along S d r.0 l.node) (along-lt S d r.0 l.node tor hd l.inside)
          (λ z. r.1 (taken_none S w (along S d r.0 l.node) (escape_queue d) z))
          (rw (one_more S d r.0 l.node tor hd) r.2)

  pub alive : packets_held S w ≢ 0 → PermittedMove S w
  unfolding packets_held
  alive ne = go (last S w directions)
    where
      go : Last S w directions ⊎ ((e : ℕ) → e < directions → Empty S w e) → PermittedMove S w
      go (inl l) = ring-moves l
      go (inr z) = let (n, q, hn, hq, holds) = some-held S w ne in all-empty z n q hn hq holds
