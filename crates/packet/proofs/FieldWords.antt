-- The fields of a word as the code reads and writes them. Order: their weights; an offset's field; the word with an offset replaced; the word of an
-- offer, from its start to its last offset. Assumes nothing.
use mathlib.Core.Path.{◌≡◌, refl, ap, ap₂, sym, ◌∙◌}
use Prim.Native.Nat.{ℕ, ◌+◌, ◌*◌, ◌-◌, ◌/◌, ◌%◌, ◌^◌, ◌<◌, ◌≤◌}
use native.Mathlib.Numerals.{add-one}
use native.Mathlib.Omega.{arith}
use lib.Dec.{T}
use lib.IntN.{ℤ}
use Rattle.network.specs.Sizes.{shape_of, sizes_in_range, dimensions, most_chunks}
use Rattle.network.specs.declared.Sizes.{Sizes}
use Rattle.network.specs.PacketLaws.{OffsetRange}
use Rattle.network.proofs.PacketLaws.{fields-positive, offset-values, offset-field-lt, tag_is, tag-with}
use Rattle.base.specs.Digits.{product, digit, put_digit, weight}
use Rattle.base.proofs.Digits.{weight-pos, digit-multiple, digit-put-other, digit-weight, put-weight}
use native.Mathlib.Nat.{zero-mul}
use Rattle.network.specs.Packet.{offset_values, fields, offset_field, destination_field, chunk_field, unsigned, with_offset, with_offsets}
use Rattle.network.proofs.TorusLaws.{sizes-torus, in_range-size}
use Rattle.network.specs.Calls.{offered_way}
use Rattle.network.proofs.OfferLaws.{offered-range}

pub field-weight-some : (i : ℕ) → 0 < weight fields (offset_field i)
field-weight-some i = weight-pos fields (offset_field i) fields-positive

-- an offset's field by its weight w
module _ (i p w : ℕ) (h : i < dimensions) (e : w ≡ weight fields (offset_field i)) where
  pub field-by : p / w % offset_values ≡ digit fields (offset_field i) p
  field-by = ap₂ (λ (a k : ℕ). p / a % k) e (sym (offset-values i h)) ∙ sym (digit-weight fields (offset_field i) p (offset-field-lt i h))

  -- and the word with another field there
  module _ (z : ℤ) (f b : ℕ) (ef : f ≡ digit fields (offset_field i) p) (eb : b ≡ unsigned z) where
    balance : with_offset i z p + f * w ≡ p + b * w
    unfolding with_offset
    balance = rw (ef, eb, e) (put-weight fields (offset_field i) (unsigned z) p (offset-field-lt i h))

    pub field-within : f * w ≤ p
    field-within =
        let s = put-weight fields (offset_field i) 0 p (offset-field-lt i h) in
        let z = zero-mul (weight fields (offset_field i)) in
        rw (ef, e) (omega arith)

    pub with-by : p - f * w + b * w ≡ with_offset i z p
    with-by = let s = balance in let l = field-within in omega arith

    -- what stands above the offsets stays, so the word stays one
    pub with-fits : OffsetRange z → p < 2 ^ 64 → p - f * w + b * w < 2 ^ 64
    with-fits r l =
        let s = with-by in
        let t = tag-with i z p h r in
        let u = tag_is (with_offset i z p) in
        let v = tag_is p in
        omega arith

-- the way of an offer is of an offset's range
pub sizes-way : (s : Sizes) (n destination i : ℕ) → T (sizes_in_range (shape_of s)) → i < dimensions → OffsetRange (offered_way (shape_of s) n destination i)
sizes-way s n destination i t h = offered-range (shape_of s) n destination i (sizes-torus s t) (λ j k. in_range-size (shape_of s) j t) h

-- the word of a tag, chunks and a destination, before any offset
abbrev pub word_start : ℕ → ℕ → ℕ → ℕ
word_start t c dest = put_digit fields destination_field dest (put_digit fields chunk_field (c - 1) (t * product fields))

pub word-start : (t c dest : ℕ) (offs : ℕ → ℤ) → 1 ≤ c → c ≤ most_chunks → dest < 4096
    → t * 4294967296 + (c - 1) * 268435456 + dest * 65536 ≡ with_offsets 0 offs (word_start t c dest)
unfolding with_offsets weight product
word-start t c dest offs l m h =
    let base : ℕ = t * product fields in
    let e : base ≡ t * 4294967296 = refl in
    let chunked : ℕ = put_digit fields chunk_field (c - 1) base in
    let a : chunked + digit fields chunk_field base * 268435456 ≡ base + (c - 1) * 268435456 = put-weight fields chunk_field (c - 1) base (omega arith) in
    let b : word_start t c dest + digit fields destination_field chunked * 65536 ≡ chunked + dest * 65536 =
    put-weight fields destination_field dest chunked (omega arith) in
    let none : digit fields chunk_field base ≡ 0 = digit-multiple fields chunk_field t fields-positive in
    let none' : digit fields destination_field chunked ≡ 0 =
    digit-put-other fields chunk_field destination_field (c - 1) base fields-positive (λ e. omega arith) (omega arith)
    ∙ digit-multiple fields destination_field t fields-positive in
    omega arith

-- one offset more
pub word_more : (i p r w : ℕ) (z : ℤ) (offs : ℕ → ℤ) → r ≡ with_offset i z p → z ≡ offs i → p ≡ with_offsets i offs w → r ≡ with_offsets (i + 1) offs w
unfolding with_offsets
word_more i p r w z offs e f g = e ∙ ap₂ (λ (y : ℤ) (q : ℕ). with_offset i y q) f g ∙ ap (λ (j : ℕ). with_offsets j offs w) (sym (add-one i))

-- all of them
pub word_end : (i p w : ℕ) (offs : ℕ → ℤ) → p ≡ with_offsets i offs w → i ≡ dimensions → p ≡ with_offsets dimensions offs w
word_end i p w offs e f = e ∙ ap (λ (j : ℕ). with_offsets j offs w) f
