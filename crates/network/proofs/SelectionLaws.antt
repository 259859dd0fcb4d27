-- R149: the cases of Selection.antt are the routes of a head, for each queue number and all offsets that a packet word can carry: every route, no
-- other, in the same order. Order: the sign of an offset; lines 1 and 2; line 3 and the delivery; the whole; the same by the offsets.
-- Assumes nothing.
use Rattle.std.specs.Prelude.{◌≡◌, refl, false, cond, ◌≢◌, ℕ, zero, suc, ◌<◌, eqb, ℤ, pos, negsuc, nat_abs, take}
use Rattle.std.proofs.Math.Path.{ap, sym}
use Rattle.std.proofs.Common.{ap₂, ◌∙◌, arith, eq-eqb, ne_eqb}
use mathlib.Core.List.{List, [], ◌∷◌, ◌++◌, map, append-nil, map-append}
use Rattle.std.proofs.Math.Decide.{ℕ_discrete}
use Rattle.base.specs.Tests.{EachBelow}
use Rattle.base.proofs.Tests.{each_at}
use Rattle.base.specs.Sums.{sum_below}
use Rattle.network.specs.declared.Sign.{Sign}
use Rattle.network.specs.Sizes.{dimensions, queues, plus, minus, adaptive_queue, escape_queue}
use Rattle.network.specs.Packet.{offset, with_offsets, distance, backward, heading, hops_left}
use Rattle.network.specs.PacketLaws.{OffsetsInRange}
use Rattle.network.proofs.PacketLaws.{offset-withs, arrived-distance}
use Rattle.network.specs.Routes.{in_order, without, incoming, incoming_first, headings, routes, deliver}
use Rattle.network.specs.Selection.{sign, adaptive_x, adaptive_y, adaptive_z, in_turn, last_case, selection, selected}
use Rattle.network.specs.SelectionLaws.{ways, Along}

above_zero : (n : ℕ) → eqb (suc n) 0 ≡ false
above_zero n = ne_eqb (suc n) 0 (λ e. omega arith)

headings-by : (i : ℕ) (is : List ℕ) (p : ℕ) → headings (i ∷ is) p ≡ ways i (sign (offset i p)) ++ headings is p
unfolding headings distance heading backward ways
headings-by i is p = go (offset i p)
  where
    go : (z : ℤ)
        → cond (eqb (nat_abs z) 0) (headings is p) (cond (eqb (backward z) 0) (plus i) (minus i) ∷ headings is p) ≡ ways i (sign z) ++ headings is p
    go (pos zero) = refl
    go (pos (suc n)) = rw (above_zero n)
    go (negsuc n) = rw (above_zero n)

-- no hop is left exactly where the sign is Zero
zero-done : (i p : ℕ) → sign (offset i p) ≡ Sign.Zero → distance i p ≡ 0
unfolding distance
zero-done i p e = go (offset i p) e
  where
    go : (z : ℤ) → sign z ≡ Sign.Zero → nat_abs z ≡ 0
    go (pos zero) e = refl
    go (pos (suc n)) e = cc
    go (negsuc n) e = cc

done-zero : (i p : ℕ) → distance i p ≡ 0 → sign (offset i p) ≡ Sign.Zero
unfolding distance
done-zero i p e = go (offset i p) e
  where
    go : (z : ℤ) → nat_abs z ≡ 0 → sign z ≡ Sign.Zero
    go (pos zero) e = refl
    go (pos (suc n)) e = absurd (omega arith)
    go (negsuc n) e = absurd (omega arith)

along-x : Along 0 adaptive_x
along-x = record { at-plus = refl; at-minus = refl; at_zero = refl }

along-y : Along 1 adaptive_y
along-y = record { at-plus = refl; at-minus = refl; at_zero = refl }

along-z : Along 2 adaptive_z
along-z = record { at-plus = refl; at-minus = refl; at_zero = refl }

adaptive-by : {i : ℕ} {cases : Sign → List ℕ} → Along i cases → (s : Sign) → map adaptive_queue (ways i s) ≡ cases s
unfolding ways
adaptive-by a Sign.Plus = sym a.at-plus
adaptive-by a Sign.Minus = sym a.at-minus
adaptive-by a Sign.Zero = sym a.at_zero

-- one dimension more
module _ (p : ℕ) where
  adaptive-then : {i : ℕ} {cases : Sign → List ℕ} → Along i cases → (is : List ℕ)
      → map adaptive_queue (headings (i ∷ is) p) ≡ cases (sign (offset i p)) ++ map adaptive_queue (headings is p)
  adaptive-then {i} a is =
      ap (map adaptive_queue) (headings-by i is p)
      ∙ map-append adaptive_queue (ways i (sign (offset i p))) (headings is p)
      ∙ ap (λ (l : List ℕ). l ++ map adaptive_queue (headings is p)) (adaptive-by a (sign (offset i p)))

  all_three : {i j k : ℕ} {f g h : Sign → List ℕ} → Along i f → Along j g → Along k h
      → f (sign (offset i p)) ++ (g (sign (offset j p)) ++ h (sign (offset k p))) ≡ map adaptive_queue (headings (i ∷ j ∷ k ∷ []) p)
  unfolding headings
  all_three {i} {j} {k} {f} {g} {h} a b c =
      sym
      (adaptive-then a (j ∷ k ∷ [])
      ∙ ap (λ (l : List ℕ). f (sign (offset i p)) ++ l)
      (adaptive-then b (k ∷ [])
      ∙ ap (λ (l : List ℕ). g (sign (offset j p)) ++ l) (adaptive-then c [] ∙ append-nil (h (sign (offset k p))))))

-- the row of each queue
adaptives : (q p : ℕ) → q < queues
    → in_turn q (adaptive_x (sign (offset 0 p))) (adaptive_y (sign (offset 1 p))) (adaptive_z (sign (offset 2 p))) ≡ map adaptive_queue (headings (incoming_first q) p)
unfolding in_turn incoming_first incoming without in_order EachBelow
adaptives q p h =
    each_at row queues
    (((((((((((((tt, x-first), x-first), x-first), y-first), y-first), z-first), z-first), x-first), x-first), y-first), y-first), z-first), z-first) q h
  where
    row : ℕ → Type 0
    row q = in_turn q (adaptive_x (sign (offset 0 p))) (adaptive_y (sign (offset 1 p))) (adaptive_z (sign (offset 2 p))) ≡ map adaptive_queue (headings (incoming_first q) p)

    x-first : adaptive_x (sign (offset 0 p)) ++ (adaptive_y (sign (offset 1 p)) ++ adaptive_z (sign (offset 2 p))) ≡ map adaptive_queue (headings (0 ∷ 1 ∷ 2 ∷ []) p)
    x-first = all_three p along-x along-y along-z

    y-first : adaptive_y (sign (offset 1 p)) ++ (adaptive_x (sign (offset 0 p)) ++ adaptive_z (sign (offset 2 p))) ≡ map adaptive_queue (headings (1 ∷ 0 ∷ 2 ∷ []) p)
    y-first = all_three p along-y along-x along-z

    z-first : adaptive_z (sign (offset 2 p)) ++ (adaptive_x (sign (offset 0 p)) ++ adaptive_y (sign (offset 1 p))) ≡ map adaptive_queue (headings (2 ∷ 0 ∷ 1 ∷ []) p)
    z-first = all_three p along-z along-x along-y

-- Line 3 and the delivery -------------------------------------------------------------------------------------------------------------

escapes : (p : ℕ) → map escape_queue (take 1 (headings (in_order 0 dimensions) p))
    ≡ map escape_queue (take 1 (ways 0 (sign (offset 0 p)) ++ (ways 1 (sign (offset 1 p)) ++ (ways 2 (sign (offset 2 p)) ++ []))))
unfolding in_order headings
escapes p =
    ap (λ (ds : List ℕ). map escape_queue (take 1 ds))
    (headings-by 0 (1 ∷ 2 ∷ []) p
    ∙ ap (λ (ds : List ℕ). ways 0 (sign (offset 0 p)) ++ ds)
    (headings-by 1 (2 ∷ []) p ∙ ap (λ (ds : List ℕ). ways 1 (sign (offset 1 p)) ++ ds) (headings-by 2 [] p)))

escape-case : (dx dy dz : Sign) → (dx ≡ Sign.Zero → dy ≡ Sign.Zero → dz ≢ Sign.Zero)
    → map escape_queue (take 1 (ways 0 dx ++ (ways 1 dy ++ (ways 2 dz ++ [])))) ≡ last_case dx dy dz ∷ []
unfolding ways
escape-case Sign.Plus dy dz some = refl
escape-case Sign.Minus dy dz some = refl
escape-case Sign.Zero Sign.Plus dz some = refl
escape-case Sign.Zero Sign.Minus dz some = refl
escape-case Sign.Zero Sign.Zero Sign.Plus some = refl
escape-case Sign.Zero Sign.Zero Sign.Minus some = refl
escape-case Sign.Zero Sign.Zero Sign.Zero some = absurd (some refl refl refl)

-- with all Zero, lines 1 and 2 have no case and the last one delivers
delivery-case : (q : ℕ) → q < queues → selection q Sign.Zero Sign.Zero Sign.Zero ≡ deliver ∷ []
unfolding selection in_turn EachBelow
delivery-case q h =
    each_at (λ (q : ℕ). selection q Sign.Zero Sign.Zero Sign.Zero ≡ deliver ∷ []) queues
    (((((((((((((tt, refl), refl), refl), refl), refl), refl), refl), refl), refl), refl), refl), refl), refl) q h

-- The whole ---------------------------------------------------------------------------------------------------------------------------

-- where all are Zero no hop is left, and the other way round
not-all : (p : ℕ) → hops_left p ≢ 0 → sign (offset 0 p) ≡ Sign.Zero → sign (offset 1 p) ≡ Sign.Zero → sign (offset 2 p) ≢ Sign.Zero
unfolding hops_left sum_below
not-all p ne x y z = ne (let a = zero-done 0 p x in let b = zero-done 1 p y in let c = zero-done 2 p z in omega arith)

all-zero : (q p : ℕ) → hops_left p ≡ 0 → selected q p ≡ selection q Sign.Zero Sign.Zero Sign.Zero
unfolding selected
all-zero q p e = rw (none 0 (omega arith), none 1 (omega arith), none 2 (omega arith))
  where
    none : (i : ℕ) → i < dimensions → sign (offset i p) ≡ Sign.Zero
    none i h = done-zero i p (arrived-distance i p h e)

-- the cases are the routes, of every head that a word can be and in each queue
pub selection-routes : (q p : ℕ) → q < queues → selected q p ≡ routes q p
unfolding routes selected selection
selection-routes q p h = go (ℕ_discrete (hops_left p) 0)
  where
    go : Dec (hops_left p ≡ 0) → selected q p ≡ routes q p
    go (yes z) = rw (eq-eqb (hops_left p) 0 z) (all-zero q p z ∙ delivery-case q h)
    go (no ne) =
        rw (ne_eqb (hops_left p) 0 ne)
        (ap₂ (λ (xs ys : List ℕ). xs ++ ys) (adaptives q p h)
        (sym (escapes p ∙ escape-case (sign (offset 0 p)) (sign (offset 1 p)) (sign (offset 2 p)) (not-all p ne))))

-- the same by the offsets: all that their fields can hold, from −16 to 15, whatever else the word says
pub selection-offsets : (q p : ℕ) (offsets : ℕ → ℤ) → q < queues → OffsetsInRange dimensions offsets
    → selection q (sign (offsets 0)) (sign (offsets 1)) (sign (offsets 2)) ≡ routes q (with_offsets dimensions offsets p)
unfolding selected
selection-offsets q p offsets h r =
    sym (rw (carried 0 (omega arith), carried 1 (omega arith), carried 2 (omega arith)))
    ∙ selection-routes q (with_offsets dimensions offsets p) h
  where
    carried : (i : ℕ) → i < dimensions → offset i (with_offsets dimensions offsets p) ≡ offsets i
    carried i l = offset-withs offsets dimensions i p (omega arith) l r
