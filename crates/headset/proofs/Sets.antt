-- Laws of the words: what each function leaves or finds, from the bits of the words that it computes or reads. What goes from level to level is one
-- law for all: upwards `late-above`, downwards `lowest-below` and `none_below`.
-- Order: a word replaced, a bit set or cleared; what is said of a word that has changed; heads in; one head out; the heads of the nodes below a number;
-- the lowest head. Assumes nothing.
use mathlib.Core.Path.{◌≡◌, refl, ap, ap₂, sym, ◌∙◌}
use mathlib.Core.Bool.{Bool, true, false, cond, not, ◌&&◌, ◌||◌, and-false, and-or_distrib_right}
use mathlib.Core.List.{List}
use mathlib.Core.Logic.{◌≢◌}
use Prim.Native.Nat.{ℕ, zero, suc, ◌+◌, ◌-◌, ◌*◌, ◌/◌, ◌%◌, ◌^◌, ◌<◌, ◌≤◌}
use native.Mathlib.Nat.{mod-lt, zero-lt-suc}
use native.Mathlib.Decide.{ℕ_discrete, dec_lt}
use native.Mathlib.Omega.{arith}
use borrow.Author.Tests.{eq-eqb, ne_eqb, lt-ltb, le-ltb, eqb-true, eqb-false, not-true, not-false}
use lib.Bits.{bit_and, bit_or, or_add_and, and_le_r}
use lib.Dec.{eqb, ltb, lit<}
use lib.ListN.{length, get_or, set, length-set, replicate, length-replicate, get_or-eq_default}
use lib.Pow.{pow_pos, shl_exact}
use lib.Seq.{get_or-set_same, get_or-set_other}
use Rattle.std.specs.Prelude.{None}
use Rattle.std.proofs.lemmas.Nat.{or_comm, and_comm}
use Rattle.network.specs.Sizes.{queues}
use Rattle.base.specs.Bits.{bit, one_bit}
use Rattle.base.proofs.Bits.{bit-none, bit-or, bit-ones, bit-one, one-exact, shifted-below, shifted-from}
use Rattle.headset.specs.Set.{node_heads, heads, first_word, first_head, set_words, word_nodes, node_bits, bit_of, member, IsSet, Replaced, put, BitPut, HeadsBelow, United, Inserted, NodeInserted, Removed, LowestBit, LowestHead, LowestMember}
use Rattle.headset.proofs.WordBits.{bit-put}

-- A word replaced, a bit set or cleared --------------------------------------------------------------------------------------------------

place-small : (m : ℕ) → m % 64 < 64
place-small m = mod-lt m (zero-lt-suc 63)

pub replaced : (s : List ℕ) (i w v : ℕ) → i < length s → w ≡ v → Replaced s (set s i w) i v
replaced s i w v l e = record { words = length-set s i w; own = get_or-set_same s i w 0 l ∙ e; others = λ k ne. get_or-set_other s i k w 0 ne }

-- as the code computes the word
pub bit-set : (s : List ℕ) (k : ℕ) → k / 64 < length s → BitPut s (set s (k / 64) (bit_or (get_or s (k / 64) 0) (one_bit (k % 64)))) k true
unfolding put
bit-set s k l = rw (one-exact (k % 64) (place-small k)) (replaced s (k / 64) _ _ l (or_comm (get_or s (k / 64) 0) _))

pub bit-cleared : (s : List ℕ) (k : ℕ) → k / 64 < length s → BitPut s (set s (k / 64) (bit_and (get_or s (k / 64) 0) (2 ^ 64 - 1 - one_bit (k % 64)))) k false
unfolding put
bit-cleared s k l = rw (one-exact (k % 64) (place-small k)) (replaced s (k / 64) _ _ l (and_comm (get_or s (k / 64) 0) _))

-- the bits of the other words
other-bits : (s a : List ℕ) (i w k : ℕ) → Replaced s a i w → k / 64 ≢ i → bit_of a k ≡ bit_of s k
unfolding bit_of
other-bits s a i w k r ne = ap (λ (x : ℕ). bit x (k % 64)) (r.others (k / 64) ne)

-- all bits, where word i has changed by f at the places of p
changed-bits : (f : Bool → Bool → Bool) (p : ℕ → Bool) (s a : List ℕ) (i w : ℕ) → Replaced s a i w → ((b : Bool) → f false b ≡ b)
    → ((j : ℕ) → j < 64 → bit w j ≡ f (p j) (bit (get_or s i 0) j))
    → (k : ℕ) → bit_of a k ≡ f (eqb (k / 64) i && p (k % 64)) (bit_of s k)
unfolding bit_of
changed-bits f p s a i w r keep e k = go (ℕ_discrete (k / 64) i)
  where
    go : Dec (k / 64 ≡ i) → bit_of a k ≡ f (eqb (k / 64) i && p (k % 64)) (bit_of s k)
    go (yes z) =
        ap (λ (x : ℕ). bit x (k % 64)) (ap (λ (x : ℕ). get_or a x 0) z ∙ r.own)
        ∙ e (k % 64) (place-small k)
        ∙ ap₂ f (sym (ap (λ (b : Bool). b && p (k % 64)) (eq-eqb (k / 64) i z))) (ap (λ (x : ℕ). bit (get_or s x 0) (k % 64)) (sym z))
    go (no z) = other-bits s a i w k r z ∙ sym (ap (λ (b : Bool). f (b && p (k % 64)) (bit_of s k)) (ne_eqb (k / 64) i z) ∙ keep (bit_of s k))

-- the word and the place tell which bit it is
same_bit : (m k : ℕ) → (eqb (m / 64) (k / 64) && eqb (m % 64) (k % 64)) ≡ eqb m k
same_bit m k = go (ℕ_discrete (m / 64) (k / 64)) (ℕ_discrete (m % 64) (k % 64))
  where
    go : Dec (m / 64 ≡ k / 64) → Dec (m % 64 ≡ k % 64) → (eqb (m / 64) (k / 64) && eqb (m % 64) (k % 64)) ≡ eqb m k
    go (yes z) (yes y) = ap₂ ◌&&◌ (eq-eqb (m / 64) (k / 64) z) (eq-eqb (m % 64) (k % 64) y) ∙ sym (eq-eqb m k (omega arith))
    go (yes z) (no y) =
        ap₂ ◌&&◌ (eq-eqb (m / 64) (k / 64) z) (ne_eqb (m % 64) (k % 64) y) ∙ sym (ne_eqb m k (λ e. y (ap (λ (x : ℕ). x % 64) e)))
    go (no z) y = ap (λ (b : Bool). b && eqb (m % 64) (k % 64)) (ne_eqb (m / 64) (k / 64) z) ∙ sym (ne_eqb m k (λ e. z (ap (λ (x : ℕ). x / 64) e)))

put-bits : (s a : List ℕ) (k m : ℕ) (b : Bool) → BitPut s a k b → bit_of a m ≡ cond (eqb m k) b (bit_of s m)
put-bits s a k m b r =
    changed-bits (λ x y. cond x b y) (λ j. eqb j (k % 64)) s a (k / 64) _ r (λ y. refl)
    (λ j l. bit-put b (k % 64) (get_or s (k / 64) 0) j (place-small k) l) m
    ∙ ap (λ (x : Bool). cond x b (bit_of s m)) (same_bit m k)

-- a word is not 0 where a bit of it was set, and a word that is not 0 where a bit of it was cleared was not 0 before
united-some : (a b : ℕ) → 0 < a → bit_or a b ≢ 0
united-some a b h e =
    let s = or_add_and a b in
    let l = and_le_r a b in
    omega arith

set-some : (s a : List ℕ) (k : ℕ) → BitPut s a k true → get_or a (k / 64) 0 ≢ 0
unfolding put
set-some s a k r e = united-some (2 ^ (k % 64)) (get_or s (k / 64) 0) (pow_pos (k % 64)) (sym r.own ∙ e)

cleared-some : (s a : List ℕ) (k : ℕ) → BitPut s a k false → get_or a (k / 64) 0 ≢ 0 → get_or s (k / 64) 0 ≢ 0
unfolding put
cleared-some s a k r some e =
    let less = and_le_r (2 ^ 64 - 1 - 2 ^ (k % 64)) (get_or s (k / 64) 0) in
    let own = r.own in
    some (omega arith)

-- What is said of a word that has changed ------------------------------------------------------------------------------------------------

-- a set, but that the bit for word w still says whether `old` is not 0
record Late (s : List ℕ) (w old : ℕ) : Type 0 where
  words : length s ≡ set_words
  own : (k : ℕ) → k < first_head → 1 + k ≡ w → bit_of s k ≡ not (eqb old 0)
  others : (k : ℕ) → k < first_head → 1 + k ≢ w → bit_of s k ≡ not (eqb (get_or s (1 + k) 0) 0)

-- a word of heads has changed
late-heads : (s a : List ℕ) (w x : ℕ) → IsSet s → first_word ≤ w → Replaced s a w x → Late a w (get_or s w 0)
late-heads s a w x i h r =
    record {
      words = r.words ∙ i.words;
      own = λ k l e. as_before k l ∙ ap (λ (y : ℕ). not (eqb (get_or s y 0) 0)) e;
      others = λ k l ne. as_before k l ∙ ap (λ (y : ℕ). not (eqb y 0)) (sym (r.others (1 + k) ne));
    }
  where
    as_before : (k : ℕ) → k < first_head → bit_of a k ≡ not (eqb (get_or s (1 + k) 0) 0)
    as_before k l = other-bits s a w x k r (λ e. omega (arith, h)) ∙ i.tells k l

-- its bit says now what is so, and with that the word of this bit has changed
late-above : (s a : List ℕ) (w old k : ℕ) (b : Bool) → Late s w old → w ≡ 1 + k → k < first_head → b ≡ not (eqb (get_or s w 0) 0) → BitPut s a k b
    → Late a (k / 64) (get_or s (k / 64) 0)
late-above s a w old k b late e h say r =
    record {
      words = r.words ∙ late.words;
      own = λ m l z. told m l (ℕ_discrete m k) ∙ ap (λ (y : ℕ). not (eqb (get_or s y 0) 0)) z;
      others = λ m l ne. told m l (ℕ_discrete m k) ∙ ap (λ (y : ℕ). not (eqb y 0)) (sym (r.others (1 + m) ne));
    }
  where
    told : (m : ℕ) → m < first_head → Dec (m ≡ k) → bit_of a m ≡ not (eqb (get_or s (1 + m) 0) 0)
    told m l (yes z) =
        put-bits s a k m b r
        ∙ ap (λ (x : Bool). cond x b (bit_of s m)) (eq-eqb m k z)
        ∙ say
        ∙ ap (λ (y : ℕ). not (eqb (get_or s y 0) 0)) (omega (arith, e, z))
    told m l (no z) =
        put-bits s a k m b r
        ∙ ap (λ (x : Bool). cond x b (bit_of s m)) (ne_eqb m k z)
        ∙ late.others m l (λ y. z (omega (arith, e, y)))

-- a set again: word 0 has no bit in the index, and what is said of a word that was not 0 is so while it is not 0
late-top : (s : List ℕ) (w old : ℕ) → Late s w old → w ≡ 0 → IsSet s
late-top s w old late e = record { words = late.words; tells = λ k l. late.others k l (λ z. omega arith) }

late-same : (s : List ℕ) (w old : ℕ) → Late s w old → old ≢ 0 → get_or s w 0 ≢ 0 → IsSet s
late-same s w old late was is = record { words = late.words; tells = λ k l. go k l (ℕ_discrete (1 + k) w) }
  where
    go : (k : ℕ) → k < first_head → Dec (1 + k ≡ w) → bit_of s k ≡ not (eqb (get_or s (1 + k) 0) 0)
    go k l (yes e) = late.own k l e ∙ ap not (ne_eqb old 0 was ∙ sym (ap (λ (y : ℕ). eqb (get_or s y 0) 0) e ∙ ne_eqb (get_or s w 0) 0 is))
    go k l (no ne) = late.others k l ne

-- the members, where a bit before those of the heads has changed
same-members : (s a : List ℕ) (k m : ℕ) (b : Bool) → k < first_head → BitPut s a k b → member a m ≡ member s m
unfolding member
same-members s a k m b h r = other-bits s a (k / 64) _ (first_head + m) r (λ e. omega (arith, h))

-- Heads in -------------------------------------------------------------------------------------------------------------------------------

same_sum : (c m h : ℕ) → eqb (c + m) (c + h) ≡ eqb m h
same_sum c m h = go (ℕ_discrete m h)
  where
    go : Dec (m ≡ h) → eqb (c + m) (c + h) ≡ eqb m h
    go (yes e) = eq-eqb (c + m) (c + h) (omega arith) ∙ sym (eq-eqb m h e)
    go (no ne) = ne_eqb (c + m) (c + h) (λ e. ne (omega arith)) ∙ sym (ne_eqb m h ne)

united-members : (s a : List ℕ) (i bits m : ℕ) → Replaced s a (first_word + i) (bit_or bits (get_or s (first_word + i) 0))
    → member a m ≡ ((eqb (m / 64) i && bit bits (m % 64)) || member s m)
unfolding member
united-members s a i bits m r =
    changed-bits ◌||◌ (bit bits) s a (first_word + i) _ r (λ b. refl) (λ j l. bit-or j bits (get_or s (first_word + i) 0)) (first_head + m)
    ∙ ap₂ (λ (x : Bool) (y : ℕ). (x && bit bits y) || bit_of s (first_head + m))
    (ap (λ (x : ℕ). eqb x (first_word + i)) (omega arith) ∙ same_sum first_word (m / 64) i)
    (omega arith)

pub united : (s a b c : List ℕ) (i bits : ℕ) → IsSet s → i < heads / 64 → 0 < bits
    → Replaced s a (first_word + i) (bit_or bits (get_or s (first_word + i) 0)) → BitPut a b (64 + i) true → BitPut b c (i / 64) true → United s c i bits
united s a b c i bits k h some ra rb rc =
    let word = get_or s (first_word + i) 0 in
    let la : Late a (first_word + i) word = late-heads s a (first_word + i) _ k (omega arith) ra in
    let lb : Late b ((64 + i) / 64) _ = late-above a b _ _ (64 + i) true la (omega arith) (omega arith) (used (first_word + i) a (λ e. united-some bits word some (sym ra.own ∙ e))) rb in
    let lc : Late c (i / 64 / 64) _ = late-above b c _ _ (i / 64) true lb (omega arith) (omega arith) (used ((64 + i) / 64) b (set-some a b (64 + i) rb)) rc in
    record {
      set = late-top c _ _ lc (omega arith);
      members = λ m. same-members b c (i / 64) m true (omega arith) rc ∙ same-members a b (64 + i) m true (omega arith) rb ∙ united-members s a i bits m ra;
    }
  where
    used : (w : ℕ) (l : List ℕ) → get_or l w 0 ≢ 0 → true ≡ not (eqb (get_or l w 0) 0)
    used w l ne = sym (ap not (ne_eqb (get_or l w 0) 0 ne))

pub inserted : (s after : List ℕ) (h : ℕ) → United s after (h / 64) (one_bit (h % 64)) → Inserted s after h
inserted s after h u =
    record {
      set = u.set;
      members = λ m. u.members m
          ∙ ap (λ (b : Bool). b || member s m)
          (ap (λ (b : Bool). eqb (m / 64) (h / 64) && b) (bit-one (h % 64) (m % 64) (place-small h)) ∙ same_bit m h);
    }

-- the word with the heads of node n alone, as the code computes it
abbrev pub node-bits : ℕ → ℕ
node-bits n = node_bits * 2 ^ (n % word_nodes * node_heads) % 2 ^ 64

node-exact : (n : ℕ) → node-bits n ≡ node_bits * 2 ^ (n % word_nodes * node_heads)
node-exact n = shl_exact {a = node_bits} queues (n % word_nodes * node_heads) 64 (lit< tt) (omega arith)

node-heads : (m n : ℕ) → (eqb (m / 64) (n / word_nodes) && bit (node-bits n) (m % 64)) ≡ (eqb (m / node_heads) n && ltb (m % node_heads) queues)
node-heads m n =
    ap (λ (x : ℕ). eqb (m / 64) (n / word_nodes) && bit x (m % 64)) (node-exact n)
    ∙ go (ℕ_discrete (m / 64) (n / word_nodes)) (ℕ_discrete (m / node_heads) n) (dec_lt (m % 64) (n % word_nodes * node_heads))
  where
    low : ℕ
    low = n % word_nodes * node_heads

    from : low ≤ m % 64 → bit (node_bits * 2 ^ low) (m % 64) ≡ ltb (m % 64 - low) queues
    from l = ap (bit (node_bits * 2 ^ low)) (omega arith) ∙ shifted-from node_bits low (m % 64 - low) ∙ bit-ones queues (m % 64 - low)

    own : m / node_heads ≡ n → bit (node_bits * 2 ^ low) (m % 64) ≡ ltb (m % node_heads) queues
    own y =
        let e : m % 64 - low ≡ m % node_heads = omega arith in
        from (omega arith) ∙ ap (λ (k : ℕ). ltb k queues) e

    none : m / 64 ≡ n / word_nodes → m / node_heads ≢ n → Dec (m % 64 < low) → bit (node_bits * 2 ^ low) (m % 64) ≡ false
    none z y (yes x) = shifted-below node_bits low (m % 64) x
    none z y (no x) = from (omega arith) ∙ le-ltb (m % 64 - low) queues (omega arith)

    go : Dec (m / 64 ≡ n / word_nodes) → Dec (m / node_heads ≡ n) → Dec (m % 64 < low)
        → (eqb (m / 64) (n / word_nodes) && bit (node_bits * 2 ^ low) (m % 64)) ≡ (eqb (m / node_heads) n && ltb (m % node_heads) queues)
    go (no z) y x =
        ap (λ (b : Bool). b && bit (node_bits * 2 ^ low) (m % 64)) (ne_eqb (m / 64) (n / word_nodes) z)
        ∙ sym (ap (λ (b : Bool). b && ltb (m % node_heads) queues) (ne_eqb (m / node_heads) n (λ e. z (omega arith))))
    go (yes z) (yes y) x =
        ap₂ ◌&&◌ (eq-eqb (m / 64) (n / word_nodes) z) (own y) ∙ sym (ap (λ (b : Bool). b && ltb (m % node_heads) queues) (eq-eqb (m / node_heads) n y))
    go (yes z) (no y) x =
        ap₂ ◌&&◌ (eq-eqb (m / 64) (n / word_nodes) z) (none z y x) ∙ sym (ap (λ (b : Bool). b && ltb (m % node_heads) queues) (ne_eqb (m / node_heads) n y))

pub node-inserted : (s after : List ℕ) (n : ℕ) → United s after (n / word_nodes) (node-bits n) → NodeInserted s after n
node-inserted s after n u =
    record {
      set = u.set;
      members = λ m. u.members m ∙ ap (λ (b : Bool). b || member s m) (node-heads m n);
    }

-- One head out ---------------------------------------------------------------------------------------------------------------------------

-- a is s with the bit of head h cleared
module _ (s a : List ℕ) (h : ℕ) (i : IsSet s) (l : h < heads) (ra : BitPut s a (first_head + h) false) where
  removed-members : (m : ℕ) → member a m ≡ (not (eqb m h) && member s m)
  unfolding member
  removed-members m =
      put-bits s a (first_head + h) (first_head + m) false ra
      ∙ ap (λ (x : Bool). cond x false (bit_of s (first_head + m))) (same_sum first_head m h)
      ∙ go (eqb m h)
    where
      go : (x : Bool) → cond x false (bit_of s (first_head + m)) ≡ (not x && bit_of s (first_head + m))
      go true = refl
      go false = refl

  late-word : Late a ((first_head + h) / 64) (get_or s ((first_head + h) / 64) 0)
  late-word = late-heads s a ((first_head + h) / 64) _ i (omega arith) ra

  -- the word still holds a head
  pub removed-one : eqb (get_or a ((first_head + h) / 64) 0) 0 ≡ false → Removed s a h
  removed-one some =
      let is = eqb-false _ _ some in
      record { set = late-same a _ _ late-word (cleared-some s a (first_head + h) ra is) is; members = removed-members }

  -- it is 0 now; b is a with its bit in the index cleared
  module _ (b : List ℕ) (none : eqb (get_or a ((first_head + h) / 64) 0) 0 ≡ true) (rb : BitPut a b (64 + h / 64) false) where
    late-part : Late b ((64 + h / 64) / 64) (get_or a ((64 + h / 64) / 64) 0)
    late-part = late-above a b _ _ (64 + h / 64) false late-word (omega arith) (omega arith) (sym (ap not none)) rb

    part-members : (m : ℕ) → member b m ≡ (not (eqb m h) && member s m)
    part-members m = same-members a b (64 + h / 64) m false (omega arith) rb ∙ removed-members m

    -- the word of that bit still has one set
    pub removed-two : eqb (get_or b ((64 + h / 64) / 64) 0) 0 ≡ false → Removed s b h
    removed-two some =
        let is = eqb-false _ _ some in
        record { set = late-same b _ _ late-part (cleared-some a b (64 + h / 64) rb is) is; members = part-members }

    -- it too is 0 now; c is b with its bit of word 0 cleared
    pub removed-three : (c : List ℕ) → eqb (get_or b ((64 + h / 64) / 64) 0) 0 ≡ true → BitPut b c (h / 64 / 64) false → Removed s c h
    removed-three c none_above rc =
        record {
          set = late-top c _ _ (late-above b c _ _ (h / 64 / 64) false late-part (omega arith) (omega arith) (sym (ap not none_above)) rc) (omega arith);
          members = λ m. same-members b c (h / 64 / 64) m false (omega arith) rc ∙ part-members m;
        }

-- The heads of the nodes below a number --------------------------------------------------------------------------------------------------

-- what fill starts from
abbrev pub zeros : ℕ → List ℕ
zeros n = replicate n 0

zeros-word : (n i : ℕ) → get_or (zeros n) i 0 ≡ 0
zeros-word zero i = refl
zeros-word (suc n) zero = refl
zeros-word (suc n) (suc i) = zeros-word n i

zeros-bit : (n k : ℕ) → bit_of (zeros n) k ≡ false
unfolding bit_of
zeros-bit n k = ap (λ (x : ℕ). bit x (k % 64)) (zeros-word n (k / 64)) ∙ bit-none (k % 64)

pub filled_none : (s : List ℕ) → s ≡ zeros set_words → HeadsBelow s 0
unfolding member
filled_none s e =
    rw e (record {
      set = record {
        words = length-replicate {A = ℕ} set_words 0;
        tells = λ k l. zeros-bit set_words k ∙ sym (ap (λ (x : ℕ). not (eqb x 0)) (zeros-word set_words (1 + k)));
      };
      members = λ m.
          zeros-bit set_words (first_head + m)
          ∙ sym (ap (λ (b : Bool). b && ltb (m % node_heads) queues) (le-ltb (m / node_heads) 0 (omega arith)));
    })

one_more : (x n : ℕ) (b : Bool) → ((eqb x n && b) || (ltb x n && b)) ≡ (ltb x (n + 1) && b)
one_more x n b = sym (and-or_distrib_right (eqb x n) (ltb x n) b) ∙ ap (λ (c : Bool). c && b) (go (ℕ_discrete x n) (dec_lt x n))
  where
    go : Dec (x ≡ n) → Dec (x < n) → (eqb x n || ltb x n) ≡ ltb x (n + 1)
    go (yes y) z = ap (λ (c : Bool). c || ltb x n) (eq-eqb x n y) ∙ sym (lt-ltb x (n + 1) (omega arith))
    go (no y) (yes z) = ap₂ ◌||◌ (ne_eqb x n y) (lt-ltb x n z) ∙ sym (lt-ltb x (n + 1) (omega arith))
    go (no y) (no z) = ap₂ ◌||◌ (ne_eqb x n y) (le-ltb x n (omega arith)) ∙ sym (le-ltb x (n + 1) (omega arith))

pub filled_more : (before after : List ℕ) (n : ℕ) → HeadsBelow before n → NodeInserted before after n → HeadsBelow after (n + 1)
filled_more before after n f i =
    record {
      set = i.set;
      members = λ m. i.members m
          ∙ ap (λ (b : Bool). (eqb (m / node_heads) n && ltb (m % node_heads) queues) || b) (f.members m)
          ∙ one_more (m / node_heads) n (ltb (m % node_heads) queues);
    }

-- The lowest head ------------------------------------------------------------------------------------------------------------------------

-- what bit k says of word 1 + k
empty-word : (s : List ℕ) (k : ℕ) → IsSet s → k < first_head → bit_of s k ≡ false → get_or s (1 + k) 0 ≡ 0
empty-word s k i l e = eqb-true (get_or s (1 + k) 0) 0 (not-false (eqb (get_or s (1 + k) 0) 0) (sym (i.tells k l) ∙ e))

used-word : (s : List ℕ) (k : ℕ) → IsSet s → k < first_head → bit_of s k ≡ true → get_or s (1 + k) 0 ≢ 0
used-word s k i l e = eqb-false (get_or s (1 + k) 0) 0 (not-true (eqb (get_or s (1 + k) 0) 0) (sym (i.tells k l) ∙ e))

-- a word that is not 0 is there
used-there : (s : List ℕ) (k : ℕ) → get_or s (1 + k) 0 ≢ 0 → 1 + k < length s
used-there s k some = go (dec_lt (1 + k) (length s))
  where
    go : Dec (1 + k < length s) → 1 + k < length s
    go (yes l) = l
    go (no l) = absurd (some (get_or-eq_default s 0 (omega arith)))

-- of the bits from `from` on, bit b is the lowest that is set
record LowestFrom (s : List ℕ) (from b : ℕ) : Type 0 where
  below : (m : ℕ) → m < b → bit_of s (from + m) ≡ false
  found : bit_of s (from + b) ≡ true

bit_at : (s : List ℕ) (k i j : ℕ) → k / 64 ≡ i → k % 64 ≡ j → bit_of s k ≡ bit (get_or s i 0) j
unfolding bit_of
bit_at s k i j e f = ap₂ (λ (x y : ℕ). bit (get_or s x 0) y) e f

-- a bit of the index that is set belongs to a word in which one is set
lowest-small : (s : List ℕ) (from b w t : ℕ) → IsSet s → LowestFrom s from b → from + b < first_head → w ≡ 1 + (from + b) → LowestBit (get_or s w 0) t → t < 64
lowest-small s from b w t i first h e l = l.some (λ z. used-word s (from + b) i h first.found (ap (λ (x : ℕ). get_or s x 0) (sym e) ∙ z))

-- one level down: bit k from `from` on is the index of the bits 64 * k to 64 * k + 63 from 64 * (1 + from) on
none_below : (s : List ℕ) (from n : ℕ) → IsSet s → from + n ≤ first_head → ((k : ℕ) → k < n → bit_of s (from + k) ≡ false)
    → (m : ℕ) → m < 64 * n → bit_of s (64 * (1 + from) + m) ≡ false
none_below s from n i h none m l =
    bit_at s (64 * (1 + from) + m) (1 + (from + m / 64)) (m % 64) (omega arith) (omega arith)
    ∙ ap (λ (x : ℕ). bit x (m % 64)) (empty-word s (from + m / 64) i (omega arith) (none (m / 64) (omega arith)))
    ∙ bit-none (m % 64)

lowest-below : (s : List ℕ) (from b w t : ℕ) → IsSet s → LowestFrom s from b → from + b < first_head → w ≡ 1 + (from + b) → LowestBit (get_or s w 0) t
    → LowestFrom s (64 * (1 + from)) (64 * b + t)
lowest-below s from b w t i first h e l =
    let most : t < 64 = lowest-small s from b w t i first h e l in
    record {
      below = λ m z. before m z (dec_lt m (64 * b));
      found = bit_at s (64 * (1 + from) + (64 * b + t)) w t (omega arith) (omega arith) ∙ l.found most;
    }
  where
    before : (m : ℕ) → m < 64 * b + t → Dec (m < 64 * b) → bit_of s (64 * (1 + from) + m) ≡ false
    before m z (yes y) = none_below s from b i (omega (arith, h)) first.below m y
    before m z (no y) =
        let most = l.most in
        bit_at s (64 * (1 + from) + m) w (m % 64) (omega (arith, e)) (omega arith) ∙ l.below (m % 64) (omega arith)

top_bit : (s : List ℕ) (k : ℕ) → k < 64 → bit_of s (0 + k) ≡ bit (get_or s 0 0) k
top_bit s k l = bit_at s (0 + k) 0 k (omega arith) (omega arith)

pub lowest-empty : (s : List ℕ) → IsSet s → get_or s 0 0 ≡ 0 → LowestMember s None
unfolding member
lowest-empty s i e = λ m l.
    none_below s 64 (heads / 64) i (omega arith)
    (λ k h. none_below s 0 64 i (omega arith) (λ j b. top_bit s j b ∙ ap (λ (x : ℕ). bit x j) e ∙ bit-none j) k (omega arith)) m (omega arith)

-- i is the lowest bit of word 0, t that of the word whose bit i is, and u that of the word of heads whose bit t is
lowest-first : (s : List ℕ) (i : ℕ) → i < 64 → LowestBit (get_or s 0 0) i → LowestFrom s 0 i
lowest-first s i h l = record { below = λ m b. top_bit s m (omega arith) ∙ l.below m b; found = top_bit s i h ∙ l.found h }

lowest-second : (s : List ℕ) (i t : ℕ) → IsSet s → i < 64 → LowestBit (get_or s 0 0) i → LowestBit (get_or s (1 + i) 0) t → LowestFrom s 64 (64 * i + t)
lowest-second s i t k h first l = lowest-below s 0 i (1 + i) t k (lowest-first s i h first) (omega arith) (omega arith) l

pub lowest-there : (s : List ℕ) (i t : ℕ) → IsSet s → i < 64 → LowestBit (get_or s 0 0) i → LowestBit (get_or s (1 + i) 0) t → first_word + (64 * i + t) < length s
lowest-there s i t k h first l =
    let small = lowest-small s 0 i (1 + i) t k (lowest-first s i h first) (omega arith) (omega arith) l in
    let there = used-there s _ (used-word s (64 + (64 * i + t)) k (omega arith) (lowest-second s i t k h first l).found) in
    omega arith

pub lowest-at : (s : List ℕ) (i t u : ℕ) → IsSet s → i < 64 → LowestBit (get_or s 0 0) i → LowestBit (get_or s (1 + i) 0) t
    → LowestBit (get_or s (first_word + (64 * i + t)) 0) u → LowestHead s (64 * (64 * i + t) + u)
unfolding member
lowest-at s i t u k h first second l =
    let words = k.words in
    let there = lowest-there s i t k h first second in
    let level = lowest-second s i t k h first second in
    let small = lowest-small s 64 (64 * i + t) (first_word + (64 * i + t)) u k level (omega arith) (omega arith) l in
    let third = lowest-below s 64 (64 * i + t) (first_word + (64 * i + t)) u k level (omega arith) (omega arith) l in
    record { most = omega arith; below = third.below; found = third.found }

-- The lowest one out ------------------------------------------------------------------------------------------------------------------

-- below the lowest there was no member, and it is out itself: the next one is at the lowest bit of the same word, if that has one left
pub lowest-next : (s a : List ℕ) (h u : ℕ) → LowestHead s h → Removed s a h → LowestBit (get_or a (first_word + h / 64) 0) u → u < 64
    → LowestHead a (64 * (h / 64) + u)
unfolding member
lowest-next s a h u l r b few =
    record {
      most = let small = l.most in omega arith;
      below = λ m lt. go m lt (ℕ_discrete (m / 64) (h / 64));
      found = bit_at a (first_head + (64 * (h / 64) + u)) (first_word + h / 64) u (omega arith) (omega arith) ∙ b.found few;
    }
  where
    go : (m : ℕ) → m < 64 * (h / 64) + u → Dec (m / 64 ≡ h / 64) → bit_of a (first_head + m) ≡ false
    go m lt (yes e) = bit_at a (first_head + m) (first_word + h / 64) (m % 64) (omega arith) (omega arith) ∙ b.below (m % 64) (omega arith)
    go m lt (no ne) = r.members m ∙ ap (λ c. not (eqb m h) && c) (l.below m (omega arith)) ∙ and-false (not (eqb m h))
