-- The tables. Order: a part filled word by word; a ring's coordinates one after the other; the parts of the dimensions; a coordinate moved, looked up. Assumes nothing.
use mathlib.Core.Path.{◌≡◌, ap, sym, subst, ◌∙◌}
use mathlib.Core.Logic.{◌≢◌}
use mathlib.Core.List.{List}
use Prim.Native.Nat.{ℕ, ◌+◌, ◌*◌, ◌-◌, ◌%◌, ◌<◌, ◌≤◌}
use native.Mathlib.Nat.{mod-eq_of_lt, mod_self, mod-add-mod}
use native.Mathlib.Decide.{ℕ_discrete}
use native.Mathlib.Omega.{arith}
use lib.Dec.{T}
use lib.ListN.{length, get_or, set, length-set}
use lib.Seq.{get_or-set_same, get_or-set_other}
use Rattle.network.specs.PacketLaws.{half_offsets}
use Rattle.base.specs.Digits.{weight}
use Rattle.network.specs.Sizes.{shape_of, sizes_in_range, size, queues}
use Rattle.network.proofs.TorusLaws.{in_range-size}
use Rattle.network.specs.declared.Sizes.{Sizes}
use Rattle.packet_check.specs.Tables.{ring_words, dimension_words, passing, Part, PartWritten, RingTable, DimensionPart}
use Rattle.packet_check.proofs.Offsets.{moved-above}

-- A part filled word by word ---------------------------------------------------------------------------------------------------------------

module _ (before : List ℕ) (start : ℕ) (g : ℕ → ℕ) where
  pub filled_more : (tables : List ℕ) (j v : ℕ) → start + j < length before → PartWritten before tables start j g → v ≡ g j → PartWritten before (set tables (start + j) v) start (j + 1) g
  filled_more tables j v within f e =
      record {
        words = length-set tables (start + j) v ∙ f.words;
        part = λ m l. each m l (ℕ_discrete m j);
        kept = λ m l. get_or-set_other tables (start + j) m v 0 (λ s. apart m l s) ∙ f.kept m l;
      }
    where
      apart : (m : ℕ) → m < start → m ≡ start + j → ⊥
      apart m l s = omega arith

      behind : (m : ℕ) → m ≢ j → start + m ≢ start + j
      behind m n s = n (omega arith)

      each : (m : ℕ) → m < j + 1 → Dec (m ≡ j) → get_or (set tables (start + j) v) (start + m) 0 ≡ g m
      each m l (yes s) =
          let w = f.words in
          ap (λ (n : ℕ). get_or (set tables (start + j) v) (start + n) 0) s ∙ get_or-set_same tables (start + j) v 0 (omega arith) ∙ e ∙ ap g (sym s)
      each m l (no n) = get_or-set_other tables (start + j) (start + m) v 0 (behind m n) ∙ f.part m (omega arith)

-- a part that ends before another one is filled stays
pub part-kept : (before after : List ℕ) (start count other more : ℕ) (g h : ℕ → ℕ) → Part before start count g → PartWritten before after other more h
    → start + count ≤ other → Part after start count g
part-kept before after start count other more g h part f l j k = f.kept (start + j) (omega arith) ∙ part j k

-- A ring ---------------------------------------------------------------------------------------------------------------------------------

pub next-round : (c k : ℕ) → c + 1 ≡ k → 0 ≡ (c + 1) % k
next-round c k e = sym (ap (λ (n : ℕ). n % k) e ∙ mod_self k)

pub next-on : (c k : ℕ) → c + 1 < k → c + 1 ≡ (c + 1) % k
next-on c k h = sym (mod-eq_of_lt h)

-- the coordinate that is carried along
pub carried : (j c k next : ℕ) → c ≡ j % k → next ≡ (c + 1) % k → next ≡ (j + 1) % k
carried j c k next here e = e ∙ ap (λ (n : ℕ). (n + 1) % k) here ∙ mod-add-mod j k 1

-- The parts of the dimensions --------------------------------------------------------------------------------------------------------------

-- one that ends before a part that is filled stays
pub dimension-kept : (s : Sizes) (i : ℕ) (before after : List ℕ) (start count : ℕ) (g : ℕ → ℕ) → T (sizes_in_range (shape_of s)) → DimensionPart s i before → PartWritten before after start count g
    → (i + 1) * dimension_words ≤ start → DimensionPart s i after
dimension-kept s i before after start count g t part f h =
    let short = in_range-size (shape_of s) i t in
    record {
      ring = part-kept before after (i * dimension_words) (3 * size (shape_of s) i) start count _ g part.ring f (omega arith);
      passes = part-kept before after (i * dimension_words + ring_words) queues start count _ g part.passes f (omega arith);
    }

-- one more: its ring is filled, and then the offsets that pass
pub dimension-more : (s : Sizes) (i k w : ℕ) (before between after : List ℕ) → T (sizes_in_range (shape_of s)) → ((m : ℕ) → m < i → DimensionPart s m before)
    → k ≡ size (shape_of s) i → w ≡ weight (shape_of s).sizes i → PartWritten before between (i * dimension_words) (3 * k) (λ j. w * (j % k))
    → PartWritten between after (i * dimension_words + ring_words) queues (λ q. passing (shape_of s) q i) → (m : ℕ) → m < i + 1 → DimensionPart s m after
dimension-more s i k w before between after t parts ek ew f g m l = each (ℕ_discrete m i)
  where
    own : DimensionPart s i after
    own =
        let short = in_range-size (shape_of s) i t in
        record {
          ring = part-kept between after (i * dimension_words) (3 * size (shape_of s) i) (i * dimension_words + ring_words) queues _ _ (rw (← ek, ← ew) f.part) g (omega arith);
          passes = g.part;
        }

    each : Dec (m ≡ i) → DimensionPart s m after
    each (yes e) = subst (λ (n : ℕ). DimensionPart s n after) (sym e) own
    each (no n) =
        dimension-kept s m between after (i * dimension_words + ring_words) queues _ t
        (dimension-kept s m before between (i * dimension_words) (3 * k) _ t (parts m (omega arith)) f (omega arith)) g (omega arith)

-- c moved by f hops forward or b back
pub moved-read : (tables : List ℕ) (start c k a f b w : ℕ) → c < k → a < half_offsets + k → half_offsets < a + k → RingTable tables start k w → b ≤ k → a + b ≡ half_offsets + f
    → get_or tables (start + (c + a + k - half_offsets)) 0 ≡ w * ((c + (f * 1 + b * (k - 1))) % k)
moved-read tables start c k a f b w h l m table lb e =
    table (c + a + k - half_offsets) (omega arith) ∙ ap (λ (n : ℕ). w * n) (moved-above c k a f b (omega arith) lb e m)
