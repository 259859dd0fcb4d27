-- Laws of the packet word (Packet.antt). Order: signed offsets; a word with one offset replaced; a hop; hops left by direction and in all; the
-- label; the word that fields make; the shorter way round. `i` and `j` are dimensions, `d` a direction, `p` any number. Assumes nothing.
use Rattle.std.specs.Prelude.{◌≡◌, Bool, true, false, cond, ◌&&◌, ◌||◌, ◌⊎◌, ◌≢◌, leb, ltb, eqb, ℤ, pos, negsuc, nat_abs, length, get_or, drop, replicate}
use Rattle.std.proofs.Math.Path.{refl, ap}
use Rattle.std.proofs.Common.{ap₂, sym, ◌∙◌, inl, inr, lt-ltb, le-ltb, le-leb, eq-eqb, ne_eqb}
use Prim.Native.Nat.{ℕ, zero, suc, ◌+◌, ◌*◌, ◌-◌, ◌/◌, ◌%◌, ◌^◌, ◌<◌, ◌≤◌}
use native.Mathlib.Nat.{mod-lt, add-mod-mod, add-mod_right, mod-eq_of_lt, add-mul-mod_self_right, suc-mul, mul-suc}
use native.Mathlib.Omega.{arith}
use Rattle.std.proofs.Math.Decide.{ℕ_discrete, dec_lt, dec_le}
use Rattle.std.proofs.lemmas.Bool.{lt-leb}
use Rattle.std.proofs.lemmas.List.{get_or-replicate}
use Rattle.std.proofs.Math.ListN.{get_or-append}
use Rattle.base.specs.Tests.{all_of}
use Rattle.base.specs.Sums.{sum_below}
use Rattle.base.proofs.Sums.{sum-change, sum-most, term-le}
use Rattle.network.specs.Sizes.{dimensions, directions, most_chunks, dimension_of, is_plus, plus, minus}
use Rattle.base.specs.Digits.{product, digit, put_digit, weight, Positive}
use Rattle.base.proofs.Digits.{positive-by, digit-weight, digit_lt, digit-multiple, digit-put-same, digit-put-other, put-put, put-comm, put-digit, above-put}
use Rattle.network.specs.Packet.{offset_values, destination_values, chunk_values, fields, offset_field, spare_field, destination_field, chunk_field, upper_spare_field, with_offsets, signed, unsigned, packet_word, tag, destination, chunks, spare, upper_spare, offset, with_offset, distance, forward, backward, hops, heading, hops_left, work, shrunk, hop, label, steps_ahead, goes_plus, shorter_way}
use Rattle.network.specs.PacketLaws.{half_offsets, OffsetRange, OffsetsInRange, landing}

-- a choice whose test is known
chosen : {A : Type 0} (b : Bool) (x y : A) → b ≡ true → cond b x y ≡ x
chosen b x y e = ap (λ c. cond c x y) e

passed_over : {A : Type 0} (b : Bool) (x y : A) → b ≡ false → cond b x y ≡ y
passed_over b x y e = ap (λ c. cond c x y) e

pub signed-small : (b : ℕ) → b < half_offsets → signed b ≡ pos b
unfolding signed
signed-small b h = chosen (ltb (2 * b) offset_values) (pos b) (negsuc (offset_values - 1 - b)) (lt-ltb (2 * b) offset_values (omega arith))

pub signed-large : (b : ℕ) → half_offsets ≤ b → signed b ≡ negsuc (offset_values - 1 - b)
unfolding signed
signed-large b h = passed_over (ltb (2 * b) offset_values) (pos b) (negsuc (offset_values - 1 - b)) (le-ltb (2 * b) offset_values (omega arith))

pub signed-unsigned : (b : ℕ) → b < offset_values → unsigned (signed b) ≡ b
unfolding unsigned
signed-unsigned b h = go (dec_lt b half_offsets)
  where
    go : Dec (b < half_offsets) → unsigned (signed b) ≡ b
    go (yes l) = ap unsigned (signed-small b l)
    go (no g) = ap unsigned (signed-large b (omega arith)) ∙ omega arith

pub unsigned_signed : (z : ℤ) → OffsetRange z → signed (unsigned z) ≡ z
unfolding unsigned forward backward
unsigned_signed (pos n) r = signed-small n r.most
unsigned_signed (negsuc n) r = let l : suc n ≤ half_offsets = r.least in signed-large (offset_values - 1 - n) (omega arith) ∙ ap negsuc (omega arith)

pub unsigned-lt : {z : ℤ} → OffsetRange z → unsigned z < offset_values
unfolding unsigned forward backward
unsigned-lt {z} r = go z r
  where
    go : (z : ℤ) → OffsetRange z → unsigned z < offset_values
    go (pos n) r = let l : n < half_offsets = r.most in omega arith
    go (negsuc n) r = omega arith

pub signed_range : (b : ℕ) → OffsetRange (signed b)
unfolding forward backward
signed_range b = go (dec_lt b half_offsets)
  where
    go : Dec (b < half_offsets) → OffsetRange (signed b)
    go (yes l) = rw (signed-small b l) (record { most = l; least = omega arith })
    go (no g) = rw (signed-large b (omega arith)) (record { most = omega arith; least = omega arith })

pub offset-range : (i p : ℕ) → OffsetRange (offset i p)
unfolding offset
offset-range i p = signed_range (digit fields (offset_field i) p)

pub shrunk-range : (z : ℤ) → OffsetRange z → OffsetRange (shrunk z)
unfolding shrunk forward backward
shrunk-range (pos n) r = let l : n < half_offsets = r.most in record { most = omega arith; least = omega arith }
shrunk-range (negsuc zero) r = record { most = omega arith; least = omega arith }
shrunk-range (negsuc (suc n)) r = let l : suc (suc n) ≤ half_offsets = r.least in record { most = omega arith; least = omega arith }

-- The fields of a word ----------------------------------------------------------------------------------------------------------------
-- Everything below rests on these three facts of the fields.

pub fields-positive : Positive fields
unfolding all_of
fields-positive = positive-by fields tt

pub offset-values : (i : ℕ) → i < dimensions → get_or fields (offset_field i) 0 ≡ offset_values
offset-values i h =
    get_or-append (replicate dimensions offset_values) (drop dimensions fields) 0 (offset_field i) (omega arith)
    ∙ get_or-replicate dimensions (offset_field i) offset_values 0 (omega arith)

pub offset-field-lt : (i : ℕ) → i < dimensions → offset_field i < length fields
offset-field-lt i h = omega arith

pub field_lt : (i p : ℕ) → i < dimensions → digit fields (offset_field i) p < offset_values
field_lt i p h = let l = digit_lt fields (offset_field i) p fields-positive (offset-field-lt i h) in let e = offset-values i h in omega arith

-- fields of different dimensions, and those above the offsets, stand apart
offset-apart : (i j : ℕ) → i < dimensions → j < dimensions → j ≢ i → offset_field j ≢ offset_field i
offset-apart i j h k ne e = ne (omega arith)

above_apart : (k i : ℕ) → dimensions ≤ k → i < dimensions → k ≢ offset_field i
above_apart k i l h e = omega arith

small : (i : ℕ) (z : ℤ) → i < dimensions → OffsetRange z → unsigned z < get_or fields (offset_field i) 0
small i z h r = rw (offset-values i h) (unsigned-lt r)

-- as the code divides them out
pub tag_is : (p : ℕ) → tag p ≡ p / 2 ^ 32
unfolding tag product
tag_is p = refl

pub destination-is : (p : ℕ) → destination p ≡ p / 2 ^ 16 % 2 ^ 12
unfolding destination weight
destination-is p = digit-weight fields destination_field p (omega arith)

pub spare-is : (p : ℕ) → spare p ≡ p / 2 ^ 15 % 2
unfolding spare weight
spare-is p = digit-weight fields spare_field p (omega arith)

pub chunks-is : (p : ℕ) → chunks p ≡ p / 2 ^ 28 % 2 ^ 3 + 1
unfolding chunks weight
chunks-is p = ap (λ (c : ℕ). c + 1) (digit-weight fields chunk_field p (omega arith))

pub upper_spare-is : (p : ℕ) → upper_spare p ≡ p / 2 ^ 31 % 2
unfolding upper_spare weight
upper_spare-is p = digit-weight fields upper_spare_field p (omega arith)

pub destination-within : (p : ℕ) → destination p < 2 ^ 12
unfolding destination
destination-within p = digit_lt fields destination_field p fields-positive (omega arith)

-- R26: every word has 1 to 8 chunks
pub chunks-pos : (p : ℕ) → 0 < chunks p
unfolding chunks
chunks-pos p = omega arith

pub chunks-most : (p : ℕ) → chunks p ≤ most_chunks
unfolding chunks
chunks-most p = let l : digit fields chunk_field p < most_chunks = digit_lt fields chunk_field p fields-positive (omega arith) in omega arith

-- one field replaced: it is what is put there, and any other is as it was
put-field : (k j c p : ℕ) → j < length fields → c < get_or fields j 0 → digit fields k (put_digit fields j c p) ≡ cond (eqb k j) c (digit fields k p)
put-field k j c p l h = go (ℕ_discrete k j)
  where
    go : Dec (k ≡ j) → digit fields k (put_digit fields j c p) ≡ cond (eqb k j) c (digit fields k p)
    go (yes e) =
        ap (λ (i : ℕ). digit fields i (put_digit fields j c p)) e
        ∙ digit-put-same fields j c p fields-positive l h
        ∙ sym (chosen (eqb k j) c (digit fields k p) (eq-eqb k j e))
    go (no ne) = digit-put-other fields j k c p fields-positive ne h ∙ sym (passed_over (eqb k j) c (digit fields k p) (ne_eqb k j ne))

-- A word with offsets replaced --------------------------------------------------------------------------------------------------------

pub offset-with-same : (i : ℕ) (z : ℤ) (p : ℕ) → i < dimensions → OffsetRange z → offset i (with_offset i z p) ≡ z
unfolding offset with_offset
offset-with-same i z p h r =
    ap signed (digit-put-same fields (offset_field i) (unsigned z) p fields-positive (offset-field-lt i h) (small i z h r)) ∙ unsigned_signed z r

pub offset-with-other : (i j : ℕ) (z : ℤ) (p : ℕ) → i < dimensions → j < dimensions → j ≢ i → OffsetRange z → offset j (with_offset i z p) ≡ offset j p
unfolding offset with_offset
offset-with-other i j z p h k ne r =
    ap signed (digit-put-other fields (offset_field i) (offset_field j) (unsigned z) p fields-positive (offset-apart i j h k ne) (small i z h r))

-- a field above the offsets, by its place among the fields, stays
pub field-with : (k i : ℕ) (z : ℤ) (p : ℕ) → dimensions ≤ k → i < dimensions → OffsetRange z → digit fields k (with_offset i z p) ≡ digit fields k p
unfolding with_offset
field-with k i z p l h r = digit-put-other fields (offset_field i) k (unsigned z) p fields-positive (above_apart k i l h) (small i z h r)

pub tag-with : (i : ℕ) (z : ℤ) (p : ℕ) → i < dimensions → OffsetRange z → tag (with_offset i z p) ≡ tag p
unfolding tag with_offset
tag-with i z p h r = above-put fields (offset_field i) (unsigned z) p fields-positive (small i z h r)

with-comm : (i j : ℕ) (y z : ℤ) (p : ℕ) → i < dimensions → j < dimensions → i ≢ j → OffsetRange y → OffsetRange z
    → with_offset i y (with_offset j z p) ≡ with_offset j z (with_offset i y p)
unfolding with_offset
with-comm i j y z p h k ne r s =
    put-comm fields (offset_field i) (offset_field j) (unsigned y) (unsigned z) p fields-positive (offset-apart j i k h ne) (small i y h r) (small j z k s)

with-with : (i : ℕ) (y z : ℤ) (p : ℕ) → i < dimensions → OffsetRange y → with_offset i z (with_offset i y p) ≡ with_offset i z p
unfolding with_offset
with-with i y z p h r = put-put fields (offset_field i) (unsigned y) (unsigned z) p fields-positive (small i y h r)

pub tag-within : (p : ℕ) → p < 2 ^ 64 → tag p < 2 ^ 32
unfolding tag product
tag-within p h = omega arith

module _ (offs : ℕ → ℤ) where
  tag-withs : (m : ℕ) (p : ℕ) → m ≤ dimensions → OffsetsInRange m offs → tag (with_offsets m offs p) ≡ tag p
  unfolding with_offsets
  tag-withs zero p h r = refl
  tag-withs (suc m) p h r = tag-with m (offs m) (with_offsets m offs p) (omega arith) (r m (omega arith)) ∙ tag-withs m p (omega arith) (λ i l. r i (omega arith))

  field-withs : (k m : ℕ) (p : ℕ) → dimensions ≤ k → m ≤ dimensions → OffsetsInRange m offs → digit fields k (with_offsets m offs p) ≡ digit fields k p
  unfolding with_offsets
  field-withs k zero p l h r = refl
  field-withs k (suc m) p l h r =
      field-with k m (offs m) (with_offsets m offs p) l (omega arith) (r m (omega arith)) ∙ field-withs k m p l (omega arith) (λ i j. r i (omega arith))

  pub offset-withs : (m i : ℕ) (p : ℕ) → m ≤ dimensions → i < m → OffsetsInRange m offs → offset i (with_offsets m offs p) ≡ offs i
  unfolding with_offsets
  offset-withs zero i p h l r = absurd (omega arith)
  offset-withs (suc m) i p h l r = go (ℕ_discrete i m) (λ k. offset-withs m i p (omega arith) k (λ j q. r j (omega arith)))
    where
      go : Dec (i ≡ m) → (i < m → offset i (with_offsets m offs p) ≡ offs i) → offset i (with_offset m (offs m) (with_offsets m offs p)) ≡ offs i
      go (yes e) later = rw e (offset-with-same m (offs m) (with_offsets m offs p) (omega arith) (r m (omega arith)))
      go (no ne) later = offset-with-other m i (offs m) (with_offsets m offs p) (omega arith) (omega arith) ne (r m (omega arith)) ∙ later (omega arith)

  -- another dimension's offset may be replaced before or after
  withs-comm : (m i : ℕ) (z : ℤ) (p : ℕ) → m ≤ i → i < dimensions → OffsetRange z → OffsetsInRange m offs
      → with_offsets m offs (with_offset i z p) ≡ with_offset i z (with_offsets m offs p)
  unfolding with_offsets
  withs-comm zero i z p h k s r = refl
  withs-comm (suc m) i z p h k s r =
      ap (with_offset m (offs m)) (withs-comm m i z p (omega arith) k s (λ j q. r j (omega arith)))
      ∙ with-comm m i (offs m) z (with_offsets m offs p) (omega arith) k (λ e. omega arith) (r m (omega arith)) s

  -- and one of their own is replaced anyway
  withs-over : (m i : ℕ) (z : ℤ) (p : ℕ) → i < m → m ≤ dimensions → OffsetRange z → OffsetsInRange m offs → with_offsets m offs (with_offset i z p) ≡ with_offsets m offs p
  unfolding with_offsets
  withs-over zero i z p h k s r = absurd (omega arith)
  withs-over (suc m) i z p h k s r = go (ℕ_discrete i m) (λ l. withs-over m i z p l (omega arith) s (λ j q. r j (omega arith)))
    where
      go : Dec (i ≡ m) → (i < m → with_offsets m offs (with_offset i z p) ≡ with_offsets m offs p)
          → with_offset m (offs m) (with_offsets m offs (with_offset i z p)) ≡ with_offset m (offs m) (with_offsets m offs p)
      go (yes e) later =
          ap (with_offset m (offs m)) (withs-comm m i z p (omega arith) (omega arith) s (λ j q. r j (omega arith)))
          ∙ ap (λ (j : ℕ). with_offset m (offs m) (with_offset j z (with_offsets m offs p))) e
          ∙ with-with m z (offs m) (with_offsets m offs p) (omega arith) s
      go (no ne) later = ap (with_offset m (offs m)) (later (omega arith))

  -- an offset that is there already
  withs-own : (m : ℕ) (p : ℕ) → m ≤ dimensions → ((i : ℕ) → i < m → unsigned (offs i) ≡ digit fields (offset_field i) p) → with_offsets m offs p ≡ p
  unfolding with_offsets with_offset
  withs-own zero p h e = refl
  withs-own (suc m) p h e =
      ap (put_digit fields (offset_field m) (unsigned (offs m))) (withs-own m p (omega arith) (λ i l. e i (omega arith)))
      ∙ ap (λ (c : ℕ). put_digit fields (offset_field m) c p) (e m (omega arith))
      ∙ put-digit fields (offset_field m) p

zero-range : OffsetRange (pos 0)
unfolding forward backward
zero-range = record { most = omega arith; least = omega arith }

pub label-with : (i : ℕ) (z : ℤ) (p : ℕ) → i < dimensions → OffsetRange z → label (with_offset i z p) ≡ label p
unfolding label
label-with i z p h r = withs-over (λ j. pos 0) dimensions i z p h (omega arith) r (λ j q. zero-range)

-- A hop -------------------------------------------------------------------------------------------------------------------------------

hop-range : (i p : ℕ) → OffsetRange (shrunk (offset i p))
hop-range i p = shrunk-range (offset i p) (offset-range i p)

pub field-hop : (k i p : ℕ) → dimensions ≤ k → i < dimensions → digit fields k (hop i p) ≡ digit fields k p
unfolding hop
field-hop k i p l h = field-with k i (shrunk (offset i p)) p l h (hop-range i p)

pub tag-hop : (i p : ℕ) → i < dimensions → tag (hop i p) ≡ tag p
unfolding hop
tag-hop i p h = tag-with i (shrunk (offset i p)) p h (hop-range i p)

pub label-hop : (i p : ℕ) → i < dimensions → label (hop i p) ≡ label p
unfolding hop
label-hop i p h = label-with i (shrunk (offset i p)) p h (hop-range i p)

pub offset-hop-same : (i p : ℕ) → i < dimensions → offset i (hop i p) ≡ shrunk (offset i p)
unfolding hop
offset-hop-same i p h = offset-with-same i (shrunk (offset i p)) p h (hop-range i p)

pub offset-hop-other : (i j p : ℕ) → i < dimensions → j < dimensions → j ≢ i → offset j (hop i p) ≡ offset j p
unfolding hop
offset-hop-other i j p h k ne = offset-with-other i j (shrunk (offset i p)) p h k ne (hop-range i p)

nat_abs-shrunk : (z : ℤ) → nat_abs (shrunk z) ≡ nat_abs z - 1
unfolding shrunk
nat_abs-shrunk (pos n) = refl
nat_abs-shrunk (negsuc zero) = refl
nat_abs-shrunk (negsuc (suc n)) = omega arith

pub distance-hop-same : (i p : ℕ) → i < dimensions → distance i (hop i p) ≡ distance i p - 1
unfolding distance
distance-hop-same i p h = ap nat_abs (offset-hop-same i p h) ∙ nat_abs-shrunk (offset i p)

pub distance-hop-other : (i j p : ℕ) → i < dimensions → j < dimensions → j ≢ i → distance j (hop i p) ≡ distance j p
unfolding distance
distance-hop-other i j p h k ne = ap nat_abs (offset-hop-other i j p h k ne)

-- Hops left by direction --------------------------------------------------------------------------------------------------------------

shrunk-part : (b : Bool) (z : ℤ) → cond b (forward (shrunk z)) (backward (shrunk z)) ≡ cond b (forward z) (backward z) - 1
unfolding shrunk forward backward
shrunk-part true (pos n) = refl
shrunk-part true (negsuc zero) = refl
shrunk-part true (negsuc (suc n)) = refl
shrunk-part false (pos n) = refl
shrunk-part false (negsuc zero) = refl
shrunk-part false (negsuc (suc n)) = omega arith

pub dimension-lt : (d : ℕ) → d < directions → dimension_of d < dimensions
dimension-lt d h = omega arith

pub hops-hop-same : (d p : ℕ) → d < directions → hops d (hop (dimension_of d) p) ≡ hops d p - 1
unfolding hops
hops-hop-same d p h =
    ap (λ z. cond (is_plus d) (forward z) (backward z)) (offset-hop-same (dimension_of d) p (dimension-lt d h))
    ∙ shrunk-part (is_plus d) (offset (dimension_of d) p)

pub hops-hop-other : (i d p : ℕ) → i < dimensions → d < directions → dimension_of d ≢ i → hops d (hop i p) ≡ hops d p
unfolding hops
hops-hop-other i d p h k ne =
    ap (λ z. cond (is_plus d) (forward z) (backward z)) (offset-hop-other i (dimension_of d) p h (dimension-lt d k) ne)

-- so a hop adds hops left in no direction: no packet is turned round
pub hops-hop-le : (i d p : ℕ) → i < dimensions → d < directions → hops d (hop i p) ≤ hops d p
hops-hop-le i d p h k = go (ℕ_discrete (dimension_of d) i)
  where
    go : Dec (dimension_of d ≡ i) → hops d (hop i p) ≤ hops d p
    go (yes e) = rw (← e) (let same = hops-hop-same d p k in omega arith)
    go (no ne) = let same = hops-hop-other i d p h k ne in omega arith

-- of an even direction, and of an odd one
pub even-hops : (d p : ℕ) → d % 2 ≡ 0 → hops d p ≡ forward (offset (dimension_of d) p)
unfolding hops
even-hops d p e = chosen (is_plus d) (forward (offset (dimension_of d) p)) (backward (offset (dimension_of d) p)) (eq-eqb (d % 2) 0 e)

pub odd-hops : (d p : ℕ) → d % 2 ≢ 0 → hops d p ≡ backward (offset (dimension_of d) p)
unfolding hops
odd-hops d p ne = passed_over (is_plus d) (forward (offset (dimension_of d) p)) (backward (offset (dimension_of d) p)) (ne_eqb (d % 2) 0 ne)

pub hops-plus : (i p : ℕ) → hops (plus i) p ≡ forward (offset i p)
hops-plus i p = even-hops (plus i) p (omega arith) ∙ ap (λ (j : ℕ). forward (offset j p)) (omega arith)

pub hops-minus : (i p : ℕ) → hops (minus i) p ≡ backward (offset i p)
hops-minus i p = odd-hops (minus i) p (omega arith) ∙ ap (λ (j : ℕ). backward (offset j p)) (omega arith)

nat_abs-is : (z : ℤ) → nat_abs z ≡ forward z + backward z
unfolding forward backward
nat_abs-is (pos n) = omega arith
nat_abs-is (negsuc n) = omega arith

pub distance_is : (i p : ℕ) → distance i p ≡ hops (plus i) p + hops (minus i) p
unfolding distance
distance_is i p = nat_abs-is (offset i p) ∙ ap₂ (λ (a b : ℕ). a + b) (sym (hops-plus i p)) (sym (hops-minus i p))

one-sign : (z : ℤ) → (forward z ≡ 0) ⊎ (backward z ≡ 0)
unfolding forward backward
one-sign (pos n) = inr refl
one-sign (negsuc n) = inl refl

pub one_way : (i p : ℕ) → (hops (plus i) p ≡ 0) ⊎ (hops (minus i) p ≡ 0)
one_way i p = go (one-sign (offset i p))
  where
    go : (forward (offset i p) ≡ 0) ⊎ (backward (offset i p) ≡ 0) → (hops (plus i) p ≡ 0) ⊎ (hops (minus i) p ≡ 0)
    go (inl e) = inl (hops-plus i p ∙ e)
    go (inr e) = inr (hops-minus i p ∙ e)

pub hops-le : (d p : ℕ) → hops d p ≤ distance (dimension_of d) p
unfolding distance
hops-le d p = go (ℕ_discrete (d % 2) 0)
  where
    go : Dec (d % 2 ≡ 0) → hops d p ≤ nat_abs (offset (dimension_of d) p)
    go (yes e) = let a = even-hops d p e in let b = nat_abs-is (offset (dimension_of d) p) in omega arith
    go (no ne) = let a = odd-hops d p ne in let b = nat_abs-is (offset (dimension_of d) p) in omega arith

-- The direction in which a packet goes on ---------------------------------------------------------------------------------------------

heading-plus : (i p : ℕ) → backward (offset i p) ≡ 0 → heading i p ≡ plus i
unfolding heading
heading-plus i p e = chosen (eqb (backward (offset i p)) 0) (plus i) (minus i) (eq-eqb (backward (offset i p)) 0 e)

heading-minus : (i p : ℕ) → backward (offset i p) ≢ 0 → heading i p ≡ minus i
unfolding heading
heading-minus i p ne = passed_over (eqb (backward (offset i p)) 0) (plus i) (minus i) (ne_eqb (backward (offset i p)) 0 ne)

pub heading-dimension : (i p : ℕ) → dimension_of (heading i p) ≡ i
heading-dimension i p = go (ℕ_discrete (backward (offset i p)) 0)
  where
    go : Dec (backward (offset i p) ≡ 0) → dimension_of (heading i p) ≡ i
    go (yes e) = let h = heading-plus i p e in omega arith
    go (no ne) = let h = heading-minus i p ne in omega arith

pub heading-lt : (i p : ℕ) → i < dimensions → heading i p < directions
heading-lt i p h = let e = heading-dimension i p in omega arith

pub hops-heading : (i p : ℕ) → hops (heading i p) p ≡ distance i p
unfolding distance
hops-heading i p = go (ℕ_discrete (backward (offset i p)) 0) (one-sign (offset i p)) (nat_abs-is (offset i p))
  where
    go : Dec (backward (offset i p) ≡ 0) → (forward (offset i p) ≡ 0) ⊎ (backward (offset i p) ≡ 0)
        → nat_abs (offset i p) ≡ forward (offset i p) + backward (offset i p) → hops (heading i p) p ≡ nat_abs (offset i p)
    go (yes e) o a = ap (λ (d : ℕ). hops d p) (heading-plus i p e) ∙ hops-plus i p ∙ omega arith
    go (no ne) (inl f) a = ap (λ (d : ℕ). hops d p) (heading-minus i p ne) ∙ hops-minus i p ∙ omega arith
    go (no ne) (inr e) a = absurd (ne e)

pub heading-of : (d p : ℕ) → hops d p ≢ 0 → heading (dimension_of d) p ≡ d
heading-of d p some = go (ℕ_discrete (d % 2) 0) (one-sign (offset (dimension_of d) p))
  where
    go : Dec (d % 2 ≡ 0) → (forward (offset (dimension_of d) p) ≡ 0) ⊎ (backward (offset (dimension_of d) p) ≡ 0) → heading (dimension_of d) p ≡ d
    go (yes e) (inl f) = absurd (some (even-hops d p e ∙ f))
    go (yes e) (inr b) = heading-plus (dimension_of d) p b ∙ omega arith
    go (no ne) o = heading-minus (dimension_of d) p (λ b. some (odd-hops d p ne ∙ b)) ∙ omega arith

-- Hops left in all --------------------------------------------------------------------------------------------------------------------

pub hops_left-hop : (i p : ℕ) → i < dimensions → distance i p ≢ 0 → suc (hops_left (hop i p)) ≡ hops_left p
unfolding hops_left
hops_left-hop i p h some =
    let one : distance i (hop i p) ≡ distance i p - 1 = distance-hop-same i p h in
    let sum : sum_below dimensions (λ j. distance j (hop i p)) + distance i p ≡ sum_below dimensions (λ j. distance j p) + distance i (hop i p) =
    sum-change dimensions (λ j. distance j (hop i p)) (λ j. distance j p) i h (λ j k ne. distance-hop-other i j p h k ne) in
    omega arith

pub work-hop : (i p : ℕ) → i < dimensions → distance i p ≢ 0 → suc (work (hop i p)) ≡ work p
unfolding work
work-hop i p h some = let e = hops_left-hop i p h some in omega arith

distance-le-hops_left : (i p : ℕ) → i < dimensions → distance i p ≤ hops_left p
unfolding hops_left
distance-le-hops_left i p h = term-le dimensions (λ j. distance j p) i h

-- a packet that has arrived has no hop left along any dimension, in any direction
pub arrived-distance : (i p : ℕ) → i < dimensions → hops_left p ≡ 0 → distance i p ≡ 0
arrived-distance i p h z = let l = distance-le-hops_left i p h in omega arith

pub arrived-hops : (d p : ℕ) → d < directions → hops_left p ≡ 0 → hops d p ≡ 0
arrived-hops d p h z = let l = hops-le d p in let e = arrived-distance (dimension_of d) p (dimension-lt d h) z in omega arith

-- an offset's sign and value bound them
pub distance_most : (i p : ℕ) → distance i p ≤ half_offsets
unfolding distance
distance_most i p = let r = offset-range i p in go (one-sign (offset i p)) r.most r.least (nat_abs-is (offset i p))
  where
    go : (forward (offset i p) ≡ 0) ⊎ (backward (offset i p) ≡ 0) → forward (offset i p) < half_offsets → backward (offset i p) ≤ half_offsets
        → nat_abs (offset i p) ≡ forward (offset i p) + backward (offset i p) → nat_abs (offset i p) ≤ half_offsets
    go (inl e) m l a = omega arith
    go (inr e) m l a = omega arith

pub hops_left-most : (p : ℕ) → hops_left p ≤ half_offsets * dimensions
unfolding hops_left
hops_left-most p = let m = sum-most dimensions half_offsets (λ i. distance i p) (λ i h. distance_most i p) in omega arith

-- The label ---------------------------------------------------------------------------------------------------------------------------

signed-zero : (b : ℕ) → nat_abs (signed b) ≡ 0 → b ≡ 0
signed-zero b e = go (dec_lt b half_offsets)
  where
    go : Dec (b < half_offsets) → b ≡ 0
    go (yes l) = ap nat_abs (sym (signed-small b l)) ∙ e
    go (no g) = let f : suc (offset_values - 1 - b) ≡ 0 = ap nat_abs (sym (signed-large b (omega arith))) ∙ e in omega arith

pub arrived-label : (p : ℕ) → hops_left p ≡ 0 → label p ≡ p
unfolding label unsigned distance offset
arrived-label p e = withs-own (λ j. pos 0) dimensions p (omega arith) (λ i h. sym (none i h))
  where
    none : (i : ℕ) → i < dimensions → digit fields (offset_field i) p ≡ 0
    none i h = signed-zero (digit fields (offset_field i) p) (arrived-distance i p h e)

pub field-label : (k p : ℕ) → dimensions ≤ k → digit fields k (label p) ≡ digit fields k p
unfolding label
field-label k p l = field-withs (λ j. pos 0) k dimensions p l (omega arith) (λ i h. zero-range)

pub tag-label : (p : ℕ) → tag (label p) ≡ tag p
unfolding label
tag-label p = tag-withs (λ j. pos 0) dimensions p (omega arith) (λ i h. zero-range)

-- The word that fields make -----------------------------------------------------------------------------------------------------------

module _ (t c dest : ℕ) (offs : ℕ → ℤ) (few : c ≤ most_chunks) (h : dest < destination_values) (r : OffsetsInRange dimensions offs) where
  -- the word before its offsets are set
  abbrev chunked : ℕ
  chunked = put_digit fields chunk_field (c - 1) (t * product fields)

  abbrev addressed : ℕ
  addressed = put_digit fields destination_field dest chunked

  small-chunks : c - 1 < chunk_values
  small-chunks = omega arith

  pub tag-packet : tag (packet_word t c dest offs) ≡ t
  unfolding packet_word tag product
  tag-packet =
      tag-withs offs dimensions addressed (omega arith) r
      ∙ above-put fields destination_field dest chunked fields-positive h
      ∙ above-put fields chunk_field (c - 1) (t * product fields) fields-positive small-chunks
      ∙ omega arith

  -- of the fields above the offsets the destination and the chunks are given, and any other is 0
  pub field-packet : (k : ℕ) → dimensions ≤ k
      → digit fields k (packet_word t c dest offs) ≡ cond (eqb k destination_field) dest (cond (eqb k chunk_field) (c - 1) 0)
  unfolding packet_word
  field-packet k l =
      field-withs offs k dimensions addressed l (omega arith) r
      ∙ put-field k destination_field dest chunked (omega arith) h
      ∙ ap (cond (eqb k destination_field) dest)
      (put-field k chunk_field (c - 1) (t * product fields) (omega arith) small-chunks
      ∙ ap (cond (eqb k chunk_field) (c - 1)) (digit-multiple fields k t fields-positive))

  pub offset-packet : (i : ℕ) → i < dimensions → offset i (packet_word t c dest offs) ≡ offs i
  unfolding packet_word
  offset-packet i k = offset-withs offs dimensions i addressed (omega arith) k r

-- The shorter way round ---------------------------------------------------------------------------------------------------------------

-- as the code tests it: the parity, added to twice the steps, decides between equal ways, and is too little to change any other
goes_plus-is : (size ahead from : ℕ) → goes_plus size ahead from ≡ leb (2 * ahead + from % 2) size
unfolding goes_plus
goes_plus-is size ahead from = go (dec_lt (2 * ahead) size) (ℕ_discrete (2 * ahead) size) (ℕ_discrete (from % 2) 0)
  where
    go : Dec (2 * ahead < size) → Dec (2 * ahead ≡ size) → Dec (from % 2 ≡ 0)
        → (ltb (2 * ahead) size || (eqb (2 * ahead) size && eqb (from % 2) 0)) ≡ leb (2 * ahead + from % 2) size
    go (yes l) e z = rw (lt-ltb (2 * ahead) size l, le-leb (2 * ahead + from % 2) size (omega arith))
    go (no g) (yes e) (yes z) =
        rw (le-ltb (2 * ahead) size (omega arith), eq-eqb (2 * ahead) size e, eq-eqb (from % 2) 0 z, le-leb (2 * ahead + from % 2) size (omega arith))
    go (no g) (yes e) (no z) =
        rw (le-ltb (2 * ahead) size (omega arith), eq-eqb (2 * ahead) size e, ne_eqb (from % 2) 0 z, lt-leb (2 * ahead + from % 2) size (omega arith))
    go (no g) (no e) z =
        rw (le-ltb (2 * ahead) size (omega arith), ne_eqb (2 * ahead) size e, lt-leb (2 * ahead + from % 2) size (omega arith))

pub shorter_way-plus : (size ahead from : ℕ) → 2 * ahead + from % 2 ≤ size → shorter_way size ahead from ≡ pos ahead
unfolding shorter_way
shorter_way-plus size ahead from h =
    chosen (goes_plus size ahead from) (pos ahead) (negsuc (size - ahead - 1)) (goes_plus-is size ahead from ∙ le-leb (2 * ahead + from % 2) size h)

pub shorter_way-minus : (size ahead from : ℕ) → size < 2 * ahead + from % 2 → shorter_way size ahead from ≡ negsuc (size - ahead - 1)
unfolding shorter_way
shorter_way-minus size ahead from h =
    passed_over (goes_plus size ahead from) (pos ahead) (negsuc (size - ahead - 1)) (goes_plus-is size ahead from ∙ lt-leb (2 * ahead + from % 2) size h)

-- where one way is shorter it is that one, from every coordinate; where both are equal the coordinate's parity decides
pub shorter_way-nearer : (size ahead from : ℕ) → 2 * ahead ≢ size
    → shorter_way size ahead from ≡ cond (ltb (2 * ahead) size) (pos ahead) (negsuc (size - ahead - 1))
unfolding shorter_way goes_plus
shorter_way-nearer size ahead from ne = rw (ne_eqb (2 * ahead) size ne) (go (ltb (2 * ahead) size))
  where
    go : (b : Bool) → cond (b || false) (pos ahead) (negsuc (size - ahead - 1)) ≡ cond b (pos ahead) (negsuc (size - ahead - 1))
    go true = refl
    go false = refl

pub shorter_way-halfway : (size ahead from : ℕ) → 2 * ahead ≡ size → shorter_way size ahead from ≡ cond (eqb (from % 2) 0) (pos ahead) (negsuc (ahead - 1))
unfolding shorter_way goes_plus
shorter_way-halfway size ahead from e =
    rw (le-ltb (2 * ahead) size (omega arith), eq-eqb (2 * ahead) size e)
    (ap (λ (m : ℕ). cond (eqb (from % 2) 0) (pos ahead) (negsuc m)) (let rest : size - ahead - 1 ≡ ahead - 1 = omega arith in rest))

-- what holds of both, each where it is no longer than the other, holds of the way that is taken
shorter_way-by : (P : ℤ → Type 0) (size ahead from : ℕ) → (2 * ahead ≤ size → P (pos ahead)) → (size ≤ 2 * ahead → P (negsuc (size - ahead - 1)))
    → P (shorter_way size ahead from)
shorter_way-by P size ahead from plus minus = go (dec_le (2 * ahead + from % 2) size)
  where
    go : Dec (2 * ahead + from % 2 ≤ size) → P (shorter_way size ahead from)
    go (yes l) = rw (shorter_way-plus size ahead from l) (plus (omega arith))
    go (no g) = rw (shorter_way-minus size ahead from (omega arith)) (minus (omega arith))

pub shorter_way-half : (size ahead from : ℕ) → ahead < size → nat_abs (shorter_way size ahead from) ≤ size / 2
shorter_way-half size ahead from h = shorter_way-by (λ z. nat_abs z ≤ size / 2) size ahead from (λ l. omega arith) (λ l. omega arith)

pub shorter_way-range : (size ahead from : ℕ) → ahead < size → size < offset_values → OffsetRange (shorter_way size ahead from)
shorter_way-range size ahead from h s =
    let half = shorter_way-half size ahead from h in
    let parts = nat_abs-is (shorter_way size ahead from) in
    record { most = omega arith; least = omega arith }

-- fewer steps than a round are ahead
pub ahead-lt : (size from to : ℕ) → from < size → steps_ahead size from to < size
ahead-lt size from to h = mod-lt (to + (size - from)) (omega arith)

-- going the rest of the round back
back-is-ahead : (from size a : ℕ) → a < size → (from + suc (size - a - 1) * (size - 1)) % size ≡ (from + a) % size
back-is-ahead from zero a h = absurd (native.Mathlib.Nat.not-suc-le-zero h)
back-is-ahead from (suc k) a h = go (suc k - a - 1) refl
  where
    go : (c : ℕ) → suc k - a - 1 ≡ c → (from + suc c * (suc k - 1)) % suc k ≡ (from + a) % suc k
    go c e =
        let l : suc c * (suc k - 1) ≡ c * (suc k - 1) + (suc k - 1) = suc-mul c (suc k - 1) in
        let m : c * suc k ≡ c * k + c = mul-suc c k in
        let one : suc k - 1 ≡ k = omega arith in
        let n : c * (suc k - 1) ≡ c * k = ap (λ (x : ℕ). c * x) one in
        let total : from + suc c * (suc k - 1) ≡ from + a + c * suc k = omega arith in
        ap (λ (x : ℕ). x % suc k) total ∙ add-mul-mod_self_right (from + a) c (suc k)

-- so the steps ahead and the rest of the round back lead to the same coordinate
pub landing-plus : (size from a : ℕ) → landing size from (pos a) ≡ (from + a) % size
unfolding forward backward
landing-plus size from a = let z = native.Mathlib.Nat.zero-mul (size - 1) in ap (λ (n : ℕ). (from + n) % size) (omega arith)

pub landing-minus : (size from a : ℕ) → a < size → landing size from (negsuc (size - a - 1)) ≡ (from + a) % size
unfolding forward backward
landing-minus size from a h = ap (λ (n : ℕ). (from + n) % size) (plain (suc (size - a - 1) * (size - 1))) ∙ back-is-ahead from size a h
  where
    plain : (b : ℕ) → 0 * 1 + b ≡ b
    plain b = omega arith

ahead-reaches : (size from to : ℕ) → from < size → to < size → (from + steps_ahead size from to) % size ≡ to
ahead-reaches size from to h k =
    add-mod-mod from (to + (size - from)) size
    ∙ ap (λ (n : ℕ). n % size) (omega arith)
    ∙ add-mod_right to size
    ∙ mod-eq_of_lt k

pub shorter_way-reaches : (size from to c : ℕ) → from < size → to < size → landing size from (shorter_way size (steps_ahead size from to) c) ≡ to
shorter_way-reaches size from to c h k =
    shorter_way-by (λ z. landing size from z ≡ to) size (steps_ahead size from to) c
    (λ l. landing-plus size from (steps_ahead size from to) ∙ ahead-reaches size from to h k)
    (λ l. landing-minus size from (steps_ahead size from to) (ahead-lt size from to h) ∙ ahead-reaches size from to h k)
