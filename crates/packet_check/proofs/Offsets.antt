-- An offset by how far it stands above the least that its field can stand for. Order: its hops forward and back; whether it passes; its distance; a
-- coordinate moved by it. Assumes nothing.
use mathlib.Core.Path.{◌≡◌, ap, sym, ◌∙◌}
use mathlib.Core.Logic.{◌⊎◌, inl, inr}
use mathlib.Core.Bool.{◌&&◌}
use Prim.Native.Nat.{ℕ, ◌+◌, ◌*◌, ◌-◌, ◌%◌, ◌<◌, ◌≤◌}
use native.Mathlib.Decide.{dec_lt, ℕ_discrete}
use native.Mathlib.Omega.{arith}
use lib.Dec.{T, leb, ltb, leb→le, le→leb, ltb→lt, lt→ltb}
use Rattle.base.proofs.Tests.{and_l, and_r, and_i}
use Rattle.base.proofs.Bools.{same_test}
use Rattle.base.specs.Bits.{bit}
use Rattle.base.proofs.Bits.{bit-row}
use Rattle.base.specs.Digits.{digit}
use Rattle.network.specs.Sizes.{shape_of, sizes_in_range, plus, minus}
use Rattle.network.specs.Packet.{fields, offset_field, signed, forward, backward, offset, hops, offset_values}
use Rattle.network.specs.PacketLaws.{half_offsets}
use Rattle.network.proofs.PacketLaws.{signed-small, signed-large, hops-plus, hops-minus}
use Rattle.torus.specs.GeometryLaws.{moved-is}
use Rattle.network.specs.declared.Sizes.{Sizes}
use Rattle.packet_check.specs.PacketLimits.{limit, OneWay, below_both}
use Rattle.packet_check.specs.LimitLaws.{limit-none, limit-half}
use Rattle.packet_check.specs.Tables.{row, passing, distance_at}

-- half of the values more than the number that a field stands for
signed_above : (b : ℕ) → b < offset_values → (b + half_offsets) % offset_values + backward (signed b) ≡ half_offsets + forward (signed b)
unfolding forward backward
signed_above b h = go (dec_lt b half_offsets)
  where
    go : Dec (b < half_offsets) → (b + half_offsets) % offset_values + backward (signed b) ≡ half_offsets + forward (signed b)
    go (yes l) = rw (signed-small b l) (omega arith)
    go (no g) = rw (signed-large b (omega arith)) (omega arith)

-- the field of the offset of dimension i, wherever it is taken from
pub above-is : (i p b : ℕ) → b ≡ digit fields (offset_field i) p → b < offset_values → (b + half_offsets) % offset_values + hops (minus i) p ≡ half_offsets + hops (plus i) p
unfolding offset
above-is i p b e small =
    ap (λ (v : ℕ). (b + half_offsets) % offset_values + v) (hops-minus i p ∙ ap (λ (x : ℕ). backward (signed x)) (sym e))
    ∙ signed_above b small
    ∙ ap (λ (v : ℕ). half_offsets + v) (ap (λ (x : ℕ). forward (signed x)) e ∙ sym (hops-plus i p))

-- neither limit is 0, or one is and the other is 1
abbrev SomePass : ℕ → ℕ → Type 0
SomePass forward back = ((1 ≤ forward) × (1 ≤ back)) ⊎ (forward + back ≡ 1)

-- Offsets in a row: as many as both limits let pass, 0 being counted once, from the last one back on. Where a limit is 0, none passes.
module _ (forward back a f b : ℕ) where
  abbrev first : ℕ
  first = half_offsets + 1 - back

  abbrev end : ℕ
  end = half_offsets + 1 - back + (forward + back - 1)

  there : SomePass forward back → OneWay f b → back ≤ half_offsets → a + b ≡ half_offsets + f → first ≤ a → a < end → (f < forward) × (b < back)
  there (inl n) (inl z) h e l m = let x = n.0 in let y = n.1 in (omega arith, omega arith)
  there (inl n) (inr z) h e l m = let x = n.0 in let y = n.1 in (omega arith, omega arith)
  there (inr n) w h e l m = absurd (let x : ⊥ = omega arith in x)

  in_row : SomePass forward back → OneWay f b → back ≤ half_offsets → a + b ≡ half_offsets + f → leb first a && ltb a end ≡ ltb f forward && ltb b back
  in_row some way h e =
      same_test (leb first a && ltb a end) (ltb f forward && ltb b back)
      (λ t.
      let p = there some way h e (leb→le first a (and_l (leb first a) (ltb a end) t)) (ltb→lt a end (and_r (leb first a) (ltb a end) t)) in
      and_i (ltb f forward) (ltb b back) (lt→ltb f forward p.0) (lt→ltb b back p.1))
      (λ t.
      let l = ltb→lt f forward (and_l (ltb f forward) (ltb b back) t) in
      let m = ltb→lt b back (and_r (ltb f forward) (ltb b back) t) in
      and_i (leb first a) (ltb a end) (le→leb first a (omega arith)) (lt→ltb a end (omega arith)))

-- those of dimension i in queue q
module _ (s : Sizes) (q i : ℕ) (t : T (sizes_in_range (shape_of s))) where
  abbrev forwards : ℕ
  forwards = limit (shape_of s) q (plus i)

  abbrev backs : ℕ
  backs = limit (shape_of s) q (minus i)

  some-passing : SomePass forwards backs
  some-passing = by (ℕ_discrete forwards 0) (ℕ_discrete backs 0)
    where
      by : Dec (forwards ≡ 0) → Dec (backs ≡ 0) → SomePass forwards backs
      by (yes z) d = let e = limit-none (shape_of s) q (plus i) z (minus i) (λ x. omega arith) (omega arith) in inr (omega arith)
      by (no x) (yes z) = let e = limit-none (shape_of s) q (minus i) z (plus i) (λ x. omega arith) (omega arith) in inr (omega arith)
      by (no x) (no y) = inl (omega arith, omega arith)

  pub passing-is : (a f b : ℕ) → OneWay f b → a + b ≡ half_offsets + f → bit (passing (shape_of s) q i) a ≡ below_both (shape_of s) q i f b
  unfolding passing row below_both
  passing-is a f b way e =
      bit-row (forwards + backs - 1) (half_offsets + 1 - backs) a ∙ in_row forwards backs a f b some-passing way (limit-half s q (minus i) t) e

-- how far from 0
pub distance-of : (a f b : ℕ) → OneWay f b → a + b ≡ half_offsets + f → distance_at a ≡ f + b
unfolding distance_at
distance-of a f b (inl z) e = omega arith
distance-of a f b (inr z) e = omega arith

pub moved-above : (c k above f b : ℕ) → 0 < k → b ≤ k → above + b ≡ half_offsets + f → half_offsets < above + k → (c + above + k - half_offsets) % k ≡ (c + (f * 1 + b * (k - 1))) % k
moved-above c k above f b h l e m = ap (λ (n : ℕ). n % k) (same) ∙ moved-is c f b k h l
  where
    same : c + above + k - half_offsets ≡ c + f + k - b
    same = omega arith
