-- A packet's clauses of the check are the limits on its hops, with the node that they lead to. Order: the limits by the queue's direction; limits
-- are small; the limits from the clauses, and the clauses from the limits. `d` is a direction, `i` a dimension. Assumes nothing.
use Rattle.std.specs.Prelude.{◌≡◌, refl, ◌⊎◌, ◌≢◌, not, ◌&&◌, ℕ, ◌+◌, ◌/◌, ◌%◌, ◌<◌, ◌≤◌, T}
use Rattle.std.proofs.Common.{ap, sym, ◌∙◌, inl, inr, ltb→lt, lt→ltb, eqb→eq}
use Rattle.std.proofs.Math.Bool.{Bool, true, false, cond}
use mathlib.Core.List.{List, [], ◌∷◌}
use Rattle.std.proofs.Math.Decide.{ℕ_discrete, dec_lt}
use native.Mathlib.Omega.{arith}
use borrow.Author.Tests.{eq-eqb, ne_eqb, lt-ltb, le-ltb}
use Rattle.std.proofs.Math.Dec.{ltb, eqb}
use Rattle.base.specs.Tests.{all_pass, EachPasses}
use Rattle.base.proofs.Tests.{clauses-of, clauses-by, all-at, all-by, and_l, and_r, and_i, T_true, passed?, T_false}
use Rattle.base.proofs.Bools.{same_test}
use Rattle.network.specs.Sizes.{Shape, shape_of, sizes_in_range, size, nodes, dimensions, directions, dimension_of, direction_of, is_escape, is_plus, plus, minus, injection_queue}
use Rattle.network.specs.Packet.{destination, spare, upper_spare, distance, hops}
use Rattle.network.specs.PacketLaws.{half_offsets}
use Rattle.network.proofs.PacketLaws.{one_way, distance_is, hops-le, dimension-lt}
use Rattle.network.specs.Torus.{moved_by}
use Rattle.network.specs.TorusLaws.{Torus}
use Rattle.network.proofs.TorusLaws.{sizes-torus, size-pos, in_range-size, moved_by-lt}
use Rattle.network.specs.Check.{longest, is_queue_of, reach, opposite, spare_clear, upper_spare_clear, packet_fits}
use Rattle.network.specs.CheckLaws.{PacketFits}
use Rattle.network.proofs.CheckLaws.{packet-of, packet-by, eq-T, reach-least, reach-other, opposite-dimension, opposite-lt}
use Rattle.network.specs.declared.Sizes.{Sizes}
use Rattle.packet_check.specs.PacketLimits.{spares_clear, limit, below_both, below_along, below_limits}

-- The limits by the queue's direction -------------------------------------------------------------------------------------------------

module _ (S : Shape) (q d : ℕ) where
  pub limit-injection : q ≡ injection_queue → limit S q d ≡ longest S (dimension_of d) + 1
  unfolding limit
  limit-injection e = rw (eq-eqb q injection_queue e)

  pub limit-own : q ≢ injection_queue → direction_of q ≡ d → limit S q d ≡ longest S (dimension_of d)
  unfolding limit
  limit-own ne e = rw (ne_eqb q injection_queue ne, eq-eqb (direction_of q) d e)

  pub limit-back : q ≢ injection_queue → direction_of q ≢ d → dimension_of (direction_of q) ≡ dimension_of d → limit S q d ≡ 1
  unfolding limit
  limit-back ne nd e = rw (ne_eqb q injection_queue ne, ne_eqb (direction_of q) d nd, eq-eqb (dimension_of (direction_of q)) (dimension_of d) e)

  pub limit-lower : q ≢ injection_queue → T (is_escape q) → dimension_of d < dimension_of (direction_of q) → limit S q d ≡ 1
  unfolding limit
  limit-lower ne t l =
      let nd : direction_of q ≢ d = λ e. differ (direction_of q) d l e in
      let ni : dimension_of (direction_of q) ≢ dimension_of d = λ e. apart (dimension_of (direction_of q)) (dimension_of d) l e in
      rw (
        ne_eqb q injection_queue ne,
        ne_eqb (direction_of q) d nd,
        ne_eqb (dimension_of (direction_of q)) (dimension_of d) ni,
        T_true (is_escape q) t,
        lt-ltb (dimension_of d) (dimension_of (direction_of q)) l,
      )
    where
      differ : (a b : ℕ) → dimension_of b < dimension_of a → a ≡ b → ⊥
      differ a b l e = omega arith

      apart : (a b : ℕ) → b < a → a ≡ b → ⊥
      apart a b l e = omega arith

  -- in every other case
  pub limit-adaptive : q ≢ injection_queue → dimension_of (direction_of q) ≢ dimension_of d → is_escape q ≡ false → limit S q d ≡ longest S (dimension_of d) + 1
  unfolding limit
  limit-adaptive ne ni t =
      let nd : direction_of q ≢ d = λ e. ni (ap dimension_of e) in
      rw (ne_eqb q injection_queue ne, ne_eqb (direction_of q) d nd, ne_eqb (dimension_of (direction_of q)) (dimension_of d) ni, t)

  pub limit-higher : q ≢ injection_queue → dimension_of (direction_of q) < dimension_of d → limit S q d ≡ longest S (dimension_of d) + 1
  unfolding limit
  limit-higher ne l =
      let ni : dimension_of (direction_of q) ≢ dimension_of d = λ e. apart (dimension_of (direction_of q)) (dimension_of d) l e in
      let nd : direction_of q ≢ d = λ e. ni (ap dimension_of e) in
      rw (ne_eqb q injection_queue ne, ne_eqb (direction_of q) d nd, ne_eqb (dimension_of (direction_of q)) (dimension_of d) ni, le-ltb (dimension_of d) (dimension_of (direction_of q)) (omega arith))
      (other (is_escape q))
    where
      apart : (a b : ℕ) → a < b → a ≡ b → ⊥
      apart a b l e = omega arith

      other : (b : Bool) → cond (b && false) 1 (longest S (dimension_of d) + 1) ≡ longest S (dimension_of d) + 1
      other true = refl
      other false = refl

  -- none is more than one above half of the ring
  pub limit-most : limit S q d ≤ longest S (dimension_of d) + 1
  unfolding limit
  limit-most = go (eqb q injection_queue) (eqb (direction_of q) d) (eqb (dimension_of (direction_of q)) (dimension_of d)) (is_escape q && ltb (dimension_of d) (dimension_of (direction_of q)))
    where
      go : (a b c e : Bool)
          → cond a (longest S (dimension_of d) + 1) (cond b (longest S (dimension_of d)) (cond c 1 (cond e 1 (longest S (dimension_of d) + 1)))) ≤ longest S (dimension_of d) + 1
      go true b c e = omega arith
      go false true c e = omega arith
      go false false true e = omega arith
      go false false false true = omega arith
      go false false false false = omega arith

-- Limits are small --------------------------------------------------------------------------------------------------------------------

half-most : (k : ℕ) → 1 ≤ k → k / 2 + 1 ≤ k
half-most k h = omega arith

-- none is more than the whole ring
pub limit-size : (s : Sizes) (q d : ℕ) → T (sizes_in_range (shape_of s)) → d < directions → limit (shape_of s) q d ≤ size (shape_of s) (dimension_of d)
limit-size s q d t h =
    let m : limit (shape_of s) q d ≤ longest (shape_of s) (dimension_of d) + 1 = limit-most (shape_of s) q d in
    let k = half-most (size (shape_of s) (dimension_of d)) (size-pos (shape_of s) (dimension_of d) (sizes-torus s t) (dimension-lt d h)) in
    omega arith

-- nor more than lets every offset that a ring can need pass
pub limit-half : (s : Sizes) (q d : ℕ) → T (sizes_in_range (shape_of s)) → limit (shape_of s) q d ≤ half_offsets
limit-half s q d t =
    let m : limit (shape_of s) q d ≤ longest (shape_of s) (dimension_of d) + 1 = limit-most (shape_of s) q d in
    let k = in_range-size (shape_of s) (dimension_of d) t in
    omega arith

-- 0 is the limit of the queue's own direction alone, on a ring of one node; the other way it is 1 then
module _ (S : Shape) (q d : ℕ) where
  limit-some : direction_of q ≢ d → 1 ≤ limit S q d
  unfolding limit
  limit-some nd =
      rw (ne_eqb (direction_of q) d nd) (by (eqb q injection_queue) (eqb (dimension_of (direction_of q)) (dimension_of d)) (is_escape q && ltb (dimension_of d) (dimension_of (direction_of q))))
    where
      by : (a c t : Bool) → 1 ≤ cond a (longest S (dimension_of d) + 1) (cond c 1 (cond t 1 (longest S (dimension_of d) + 1)))
      by true c t = omega arith
      by false true t = omega arith
      by false false true = omega arith
      by false false false = omega arith

  pub limit-none : limit S q d ≡ 0 → (e : ℕ) → e ≢ d → dimension_of e ≡ dimension_of d → limit S q e ≡ 1
  limit-none z e ne s = go (ℕ_discrete q injection_queue) (ℕ_discrete (direction_of q) d)
    where
      go : Dec (q ≡ injection_queue) → Dec (direction_of q ≡ d) → limit S q e ≡ 1
      go (yes i) o = absurd (let l = limit-injection S q d i in let n : ⊥ = omega arith in n)
      go (no i) (no nd) = absurd (let l = limit-some nd in let n : ⊥ = omega arith in n)
      go (no i) (yes o) = limit-back S q e i (λ x. ne (sym x ∙ o)) (ap dimension_of o ∙ sym s)

-- hops that are below limits, direction by direction
below_of : (S : Shape) (q p : ℕ) → T (below_limits S q p) → (d : ℕ) → d < directions → hops d p < limit S q d
unfolding below_limits below_along below_both
below_of S q p t d h = by (ℕ_discrete d (plus (dimension_of d)))
  where
    test : ℕ → Bool
    test e = ltb (hops e p) (limit S q e)

    both : T (test (plus (dimension_of d)) && test (minus (dimension_of d)))
    both = all-at dimensions (λ i. test (plus i) && test (minus i)) t (dimension_of d) (dimension-lt d h)

    passed : (e : ℕ) → d ≡ e → T (test e) → hops d p < limit S q d
    passed e s u = rw s (ltb→lt (hops e p) (limit S q e) u)

    by : Dec (d ≡ plus (dimension_of d)) → hops d p < limit S q d
    by (yes e) = passed (plus (dimension_of d)) e (and_l (test (plus (dimension_of d))) (test (minus (dimension_of d))) both)
    by (no ne) = passed (minus (dimension_of d)) (omega arith) (and_r (test (plus (dimension_of d))) (test (minus (dimension_of d))) both)

below_by : (S : Shape) (q p : ℕ) → ((d : ℕ) → d < directions → hops d p < limit S q d) → T (below_limits S q p)
unfolding below_limits below_along below_both
below_by S q p h = all-by dimensions (λ i. test (plus i) && test (minus i)) (λ i k. and_i (test (plus i)) (test (minus i)) (passes (plus i) (omega arith)) (passes (minus i) (omega arith)))
  where
    test : ℕ → Bool
    test e = ltb (hops e p) (limit S q e)

    passes : (d : ℕ) → d < directions → T (test d)
    passes d k = lt→ltb (hops d p) (limit S q d) (h d k)

-- The limits from the clauses, and the clauses from the limits ------------------------------------------------------------------------

-- in a queue of a dimension one more than the distance is bounded
reach-own : (q p : ℕ) → q ≢ injection_queue → reach (dimension_of (direction_of q)) q p ≡ distance (dimension_of (direction_of q)) p + 1
unfolding reach is_queue_of
reach-own q p ne = rw (ne_eqb q injection_queue ne, eq-eqb (dimension_of (direction_of q)) (dimension_of (direction_of q)) refl)

reach-injection : (i q p : ℕ) → q ≡ injection_queue → reach i q p ≡ distance i p
unfolding reach is_queue_of
reach-injection i q p e = rw (eq-eqb q injection_queue e)

-- the other direction along the queue's dimension
is-opposite : (e d : ℕ) → e ≢ d → dimension_of e ≡ dimension_of d → opposite e ≡ d
unfolding opposite
is-opposite e d ne s = go (ℕ_discrete (e % 2) 0)
  where
    go : Dec (e % 2 ≡ 0) → cond (is_plus e) (minus (dimension_of e)) (plus (dimension_of e)) ≡ d
    go (yes z) = rw (eq-eqb (e % 2) 0 z) (omega arith)
    go (no z) = rw (ne_eqb (e % 2) 0 z) (omega arith)

-- a direction is not its opposite, and the hops both ways are the distance
away : (e : ℕ) → e ≢ opposite e
unfolding opposite
away e s = by (ℕ_discrete (e % 2) 0)
  where
    by : Dec (e % 2 ≡ 0) → ⊥
    by (yes z) = let t : e ≡ minus (dimension_of e) = rw (eq-eqb (e % 2) 0 z) at s in omega arith
    by (no z) = let t : e ≡ plus (dimension_of e) = rw (ne_eqb (e % 2) 0 z) at s in omega arith

both_ways : (d p : ℕ) → distance (dimension_of d) p ≡ hops d p + hops (opposite d) p
unfolding opposite
both_ways d p = by (ℕ_discrete (d % 2) 0) (distance_is (dimension_of d) p)
  where
    same : (e : ℕ) → e ≡ d → hops e p ≡ hops d p
    same e s = ap (λ (x : ℕ). hops x p) s

    by : Dec (d % 2 ≡ 0) → distance (dimension_of d) p ≡ hops (plus (dimension_of d)) p + hops (minus (dimension_of d)) p
        → distance (dimension_of d) p ≡ hops d p + hops (cond (is_plus d) (minus (dimension_of d)) (plus (dimension_of d))) p
    by (yes z) e = rw (eq-eqb (d % 2) 0 z) (let w = same (plus (dimension_of d)) (omega arith) in omega arith)
    by (no z) e = rw (ne_eqb (d % 2) 0 z) (let w = same (minus (dimension_of d)) (omega arith) in omega arith)

module _ (S : Shape) (n q p : ℕ) where
  hops-below : PacketFits S n q p → (d : ℕ) → d < directions → hops d p < limit S q d
  hops-below f d h =
      go (ℕ_discrete q injection_queue) (ℕ_discrete (direction_of q) d) (ℕ_discrete (dimension_of (direction_of q)) (dimension_of d)) (passed? (is_escape q))
      (dec_lt (dimension_of d) (dimension_of (direction_of q)))
    where
      -- what half of the ring bounds
      far : hops d p < longest S (dimension_of d) + 1
      far =
          let a = hops-le d p in
          let b = reach-least (dimension_of d) q p in
          let m : reach (dimension_of d) q p ≤ longest S (dimension_of d) = f.near (dimension_of d) (dimension-lt d h) in
          omega arith

      own : q ≢ injection_queue → direction_of q ≡ d → hops d p < limit S q d
      own ne e =
          let a = hops-le d p in
          let b : reach (dimension_of d) q p ≡ distance (dimension_of d) p + 1 = rw e at (reach-own q p ne) in
          let m : reach (dimension_of d) q p ≤ longest S (dimension_of d) = f.near (dimension_of d) (dimension-lt d h) in
          let l : limit S q d ≡ longest S (dimension_of d) = limit-own S q d ne e in
          omega arith

      back : q ≢ injection_queue → direction_of q ≢ d → dimension_of (direction_of q) ≡ dimension_of d → hops d p < limit S q d
      back ne nd s =
          let z : hops d p ≡ 0 = ap (λ (e : ℕ). hops e p) (sym (is-opposite (direction_of q) d nd s)) ∙ f.sign ne in
          let l = limit-back S q d ne nd s in
          omega arith

      lower : q ≢ injection_queue → T (is_escape q) → dimension_of d < dimension_of (direction_of q) → hops d p < limit S q d
      lower ne t b =
          let a = hops-le d p in
          let z = f.lower t (dimension_of d) b in
          let l = limit-lower S q d ne t b in
          omega arith

      go : Dec (q ≡ injection_queue) → Dec (direction_of q ≡ d) → Dec (dimension_of (direction_of q) ≡ dimension_of d) → T (is_escape q) ⊎ T (not (is_escape q))
          → Dec (dimension_of d < dimension_of (direction_of q)) → hops d p < limit S q d
      go (yes e) x y z w = let l = limit-injection S q d e in let m = far in omega arith
      go (no ne) (yes e) y z w = own ne e
      go (no ne) (no nd) (yes s) z w = back ne nd s
      go (no ne) (no nd) (no ni) (inl t) (yes b) = lower ne t b
      go (no ne) (no nd) (no ni) (inl t) (no g) = let l = limit-higher S q d ne (omega arith) in let m = far in omega arith
      go (no ne) (no nd) (no ni) (inr t) w = let l = limit-adaptive S q d ne ni (T_false (is_escape q) t) in let m = far in omega arith

  -- the distance along a dimension is bounded as the hops both ways are, since there are none one way
  distance-below : (i : ℕ) → hops (plus i) p < longest S i + 1 → hops (minus i) p < longest S i + 1 → distance i p ≤ longest S i
  distance-below i a b = go (one_way i p) (distance_is i p)
    where
      go : (hops (plus i) p ≡ 0) ⊎ (hops (minus i) p ≡ 0) → distance i p ≡ hops (plus i) p + hops (minus i) p → distance i p ≤ longest S i
      go (inl z) e = omega arith
      go (inr z) e = omega arith

  clauses : Torus S → n < nodes S → ((d : ℕ) → d < directions → hops d p < limit S q d) → spare p ≡ 0 → upper_spare p ≡ 0 → moved_by S p n ≡ destination p
      → PacketFits S n q p
  clauses torus hn h clear upper e =
      record {
        clear = clear;
        upper-clear = upper;
        addressed = let l = moved_by-lt S n p torus hn in omega arith;
        arrives = e;
        near = λ i k. near i k (ℕ_discrete q injection_queue) (ℕ_discrete (dimension_of (direction_of q)) i);
        sign = sign;
        lower = lower;
      }
    where
      own-lt : direction_of q < directions
      own-lt = omega arith

      sign : q ≢ injection_queue → hops (opposite (direction_of q)) p ≡ 0
      sign ne =
          let d = opposite (direction_of q) in
          let l : limit S q d ≡ 1 = limit-back S q d ne (away (direction_of q)) (sym (opposite-dimension (direction_of q))) in
          let b = h d (opposite-lt (direction_of q) own-lt) in
          omega arith

      lower : T (is_escape q) → (i : ℕ) → i < dimension_of (direction_of q) → distance i p ≡ 0
      lower t i k = go (distance_is i p)
        where
          escape : q ≢ injection_queue
          escape z = no-escape q (ltb→lt directions q t) z
            where
              no-escape : (q : ℕ) → directions < q → q ≡ 0 → ⊥
              no-escape q l z = omega arith

          none : (d : ℕ) → dimension_of d ≡ i → d < directions → hops d p ≡ 0
          none d s b =
              let l = limit-lower S q d escape t (omega arith) in
              let m = h d b in
              omega arith

          go : distance i p ≡ hops (plus i) p + hops (minus i) p → distance i p ≡ 0
          go e =
              let a = none (plus i) (omega arith) (omega arith) in
              let b = none (minus i) (omega arith) (omega arith) in
              omega arith

      far : (i : ℕ) → i < dimensions → distance i p ≤ longest S i
      far i k = distance-below i (each (plus i) (omega arith) (omega arith)) (each (minus i) (omega arith) (omega arith))
        where
          each : (d : ℕ) → d < directions → dimension_of d ≡ i → hops d p < longest S i + 1
          each d l e =
              let a = h d l in
              let b = limit-most S q d in
              let c : longest S (dimension_of d) ≡ longest S i = ap (longest S) e in
              omega arith

      near : (i : ℕ) → i < dimensions → Dec (q ≡ injection_queue) → Dec (dimension_of (direction_of q) ≡ i) → reach i q p ≤ longest S i
      near i k (yes z) d = let r = reach-injection i q p z in let l = far i k in omega arith
      near i k (no ne) (no a) = let r = reach-other i q p a in let l = far i k in omega arith
      near i k (no ne) (yes a) = rw (← a) within
        where
          within : reach (dimension_of (direction_of q)) q p ≤ longest S (dimension_of (direction_of q))
          within =
              let r = reach-own q p ne in
              let z = sign ne in
              let b : hops (direction_of q) p < limit S q (direction_of q) = h (direction_of q) own-lt in
              let l : limit S q (direction_of q) ≡ longest S (dimension_of (direction_of q)) = limit-own S q (direction_of q) ne refl in
              let e = both_ways (direction_of q) p in
              omega arith

  -- the check of a packet is that of its limits
  pub fits-is : Torus S → n < nodes S → packet_fits S n q p ≡ spares_clear p && (below_limits S q p && eqb (destination p) (moved_by S p n))
  unfolding spare_clear upper_spare_clear all_pass EachPasses
  fits-is torus hn =
      same_test (packet_fits S n q p) (all_pass tests)
      (λ t.
      let f = packet-of S n q p t in
      clauses-by tests (
        clauses-by spares (eq-T (spare p) 0 f.clear, eq-T (upper_spare p) 0 f.upper-clear),
        (below_by S q p (hops-below f), eq-T (destination p) (moved_by S p n) (sym f.arrives)),
      ))
      (λ t.
      let (both, (near, there)) = clauses-of tests t in
      let (clear, upper) = clauses-of spares both in
      packet-by S n q p
      (clauses torus hn (below_of S q p near) (eqb→eq (spare p) 0 clear) (eqb→eq (upper_spare p) 0 upper) (sym (eqb→eq (destination p) (moved_by S p n) there))))
    where
      spares : List Bool
      spares = eqb (spare p) 0 ∷ eqb (upper_spare p) 0 ∷ []

      tests : List Bool
      tests = spares_clear p ∷ below_limits S q p ∷ eqb (destination p) (moved_by S p n) ∷ []
