-- Sizes in range as facts, and back; then the kinds of the queues, their capacities and the bounds of these. Assumes nothing.
use Rattle.std.specs.Prelude.{◌≡◌, Bool, true, false, cond, ◌≢◌, List, [], ◌∷◌, ℕ, ◌*◌, ◌<◌, ◌≤◌, T, leb, eqb}
use Rattle.std.proofs.Common.{sym, ◌∙◌, true≢false, arith, ne_eqb, lt-ltb, le-ltb, leb→le, le→leb}
use Rattle.std.proofs.Math.Decide.{ℕ_discrete, dec_le}
use Rattle.base.specs.Tests.{all_of, all_pass, EachPasses}
use Rattle.base.proofs.Tests.{clauses-of, clauses-by}
use Rattle.network.specs.Sizes.{Shape, within, sizes_in_range, injection_queue, escape_queue, is_escape, is_adaptive, directions, capacity, largest_ring, fewest_escape, most_slots, most_chunks, largest_capacity}
use Rattle.network.specs.SizesLaws.{Between, InRange}

pub between-of : (least most n : ℕ) → T (within least most n) → Between least most n
unfolding within all_pass EachPasses
between-of least most n t = let (l, h) = clauses-of (leb least n ∷ leb n most ∷ []) t in record { low = leb→le least n l; high = leb→le n most h }

pub between-by : (least most n : ℕ) → Between least most n → T (within least most n)
unfolding within all_pass EachPasses
between-by least most n b = clauses-by (leb least n ∷ leb n most ∷ []) (le→leb least n b.low, le→leb n most b.high)

range_clauses : Shape → List Bool
range_clauses S =
    all_of (within 1 largest_ring) S.sizes
    ∷ within fewest_escape most_slots S.escape
    ∷ within 1 most_slots S.adaptive
    ∷ within 1 most_slots S.injection
    ∷ []

pub range-of : (S : Shape) → T (sizes_in_range S) → InRange S
unfolding sizes_in_range range_clauses all_pass EachPasses
range-of S t =
    let (sizes, (escape, (adaptive, injection))) = clauses-of (range_clauses S) t in
    record {
      sizes = sizes;
      escape = between-of fewest_escape most_slots S.escape escape;
      adaptive = between-of 1 most_slots S.adaptive adaptive;
      injection = between-of 1 most_slots S.injection injection;
    }

pub range-by : (S : Shape) → InRange S → T (sizes_in_range S)
unfolding sizes_in_range range_clauses all_pass EachPasses
range-by S r =
    clauses-by (range_clauses S) (
      r.sizes,
      (
        between-by fewest_escape most_slots S.escape r.escape,
        (between-by 1 most_slots S.adaptive r.adaptive, between-by 1 most_slots S.injection r.injection),
      ),
    )

-- the kind of a queue by its number
pub injection-slots : (q : ℕ) → q ≡ injection_queue → is_adaptive q ≡ false
injection-slots q e = rw (e, le-ltb directions injection_queue (omega arith))

pub escape-slots : (q : ℕ) → directions < q → is_adaptive q ≡ false
escape-slots q h = rw (lt-ltb directions q h)

pub adaptive-chunks : (q : ℕ) → q ≢ injection_queue → q ≤ directions → is_adaptive q ≡ true
adaptive-chunks q ne h = rw (le-ltb directions q h, ne_eqb q injection_queue ne)

pub adaptive-of : (q : ℕ) → is_adaptive q ≡ true → (0 < q) × (q ≤ directions)
adaptive-of q e = go (ℕ_discrete q injection_queue) (dec_le q directions)
  where
    go : Dec (q ≡ injection_queue) → Dec (q ≤ directions) → (0 < q) × (q ≤ directions)
    go (yes z) l = absurd (true≢false (sym e ∙ injection-slots q z))
    go (no ne) (no l) = absurd (true≢false (sym e ∙ escape-slots q (omega arith)))
    go (no ne) (yes l) = (omega arith, l)

-- every queue takes a packet, an escape queue two, and none more than is the most
pub capacity-most : (S : Shape) (q : ℕ) → InRange S → capacity S q ≤ largest_capacity
unfolding capacity
capacity-most S q r = go (eqb q injection_queue) (is_escape q)
  where
    go : (a b : Bool) → cond a S.injection (cond b S.escape (most_chunks * S.adaptive)) ≤ largest_capacity
    go true b = let l = r.injection.high in omega arith
    go false true = let l = r.escape.high in omega arith
    go false false = let l = r.adaptive.high in omega arith

pub capacity-pos : (S : Shape) (q : ℕ) → InRange S → 0 < capacity S q
unfolding capacity
capacity-pos S q r = go (eqb q injection_queue) (is_escape q)
  where
    go : (a b : Bool) → 0 < cond a S.injection (cond b S.escape (most_chunks * S.adaptive))
    go true b = r.injection.low
    go false true = let e : 2 ≤ S.escape = r.escape.low in omega arith
    go false false = let l = r.adaptive.low in omega arith

pub adaptive-capacity : (S : Shape) (q : ℕ) → q ≢ injection_queue → q ≤ directions → capacity S q ≡ most_chunks * S.adaptive
unfolding capacity
adaptive-capacity S q ne h = rw (ne_eqb q injection_queue ne, le-ltb directions q h)

pub escape-capacity : (S : Shape) (d : ℕ) → capacity S (escape_queue d) ≡ S.escape
unfolding capacity
escape-capacity S d = rw (ne_eqb (escape_queue d) injection_queue (λ e. nonzero d e), lt-ltb directions (escape_queue d) (omega arith))
  where
    nonzero : (d : ℕ) → escape_queue d ≡ 0 → ⊥
    nonzero d e = omega arith
