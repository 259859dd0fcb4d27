-- The set of heads that goes along with a Drain: it holds every head that has a permitted move. The head of queue q of node n is number 16 n + q.
-- Order: what it covers; a head taken out that has none; First's move from its lowest head; the set after a move; the search. Assumes nothing.
use Rattle.std.specs.Prelude.{◌≡◌, refl, ◌⊎◌, ◌≢◌, Bool, true, false, cond, not, ◌&&◌, ◌||◌, List, ℕ, ◌+◌, ◌*◌, ◌-◌, ◌/◌, ◌%◌, ◌<◌, ◌≤◌, eqb, ltb, Option, None, Some, unwrap_or}
use Rattle.std.proofs.Common.{ap, ap₂, sym, ◌∙◌, subst, inl, inr, true≢false, arith}
use Rattle.std.proofs.lemmas.Bool.{false≢true}
use native.Mathlib.Nat.{lt_trans}
use Rattle.std.proofs.Math.Decide.{ℕ_discrete, dec_lt}
use borrow.Author.Tests.{eq-eqb, ne_eqb, lt-ltb, ltb-true, eqb-false}
use Rattle.network.specs.declared.NamedMove.{NamedMove}
use Rattle.network.specs.Sizes.{Shape, nodes, queues, directions, direction_of, most_nodes}
use Rattle.network.specs.Torus.{neighbour}
use Rattle.network.specs.TorusLaws.{Torus}
use Rattle.network.proofs.TorusLaws.{neighbour-lt}
use Rattle.network.specs.Check.{opposite}
use Rattle.network.specs.CheckLaws.{Network}
use Rattle.network.specs.RefusalLaws.{Permitted}
use Rattle.network.specs.Routes.{deliver, target}
use Rattle.network.specs.Calls.{after_move, first_in_queue, first_move}
use Rattle.run.specs.NewHeads.{before, Untouched, still-nothing, first-at, first-nowhere}
use Rattle.headset.specs.Set.{member, IsSet, HeadsBelow, Inserted, NodeInserted, Removed, LowestHead, LowestMember, node_heads, heads}

abbrev pub head_of : ℕ → ℕ → ℕ
head_of n q = node_heads * n + q

-- every member is the head of a queue that exists
abbrev pub Heads : Shape → List ℕ → Type 0
Heads S set = (h : ℕ) → member set h ≡ true → (h / node_heads < nodes S) × (h % node_heads < queues)

-- a head that is not in the set has no permitted move
pub record Covered (S : Shape) (w set : List ℕ) : Type 0 where
  pub set-of : IsSet set
  pub heads : Heads S set
  pub others : (n q : ℕ) → n < nodes S → q < queues → member set (head_of n q) ≡ false → first_in_queue S w n q ≡ None

-- the two tests of a number that is a head's
head-node : (n q : ℕ) → q < queues → head_of n q / node_heads ≡ n
head-node n q h = omega arith

head-queue : (n q : ℕ) → q < queues → head_of n q % node_heads ≡ q
head-queue n q h = omega arith

-- all heads
both_true : (a b : Bool) → (a && b) ≡ true → (a ≡ true) × (b ≡ true)
both_true true b e = (refl, e)
both_true false b e = absurd (false≢true e)

pub covered-filled : (S : Shape) (w set : List ℕ) → HeadsBelow set (nodes S) → Covered S w set
covered-filled S w set f =
    record {
      set-of = f.set;
      heads =
          λ h e.
          let (a, b) = both_true (ltb (h / node_heads) (nodes S)) (ltb (h % node_heads) queues) (sym (f.members h) ∙ e) in
          (ltb-true (h / node_heads) (nodes S) a, ltb-true (h % node_heads) queues b);
      others = λ n q hn hq e. absurd (true≢false (sym (f.members (head_of n q) ∙ here n q hn hq) ∙ e));
    }
  where
    here : (n q : ℕ) → n < nodes S → q < queues → (ltb (head_of n q / node_heads) (nodes S) && ltb (head_of n q % node_heads) queues) ≡ true
    here n q hn hq =
        ap₂ (λ (a b : ℕ). ltb a (nodes S) && ltb b queues) (head-node n q hq) (head-queue n q hq)
        ∙ ap₂ (λ (a b : Bool). a && b) (lt-ltb n (nodes S) hn) (lt-ltb q queues hq)

-- one without a move taken out
pub covered-removed : (S : Shape) (w set after : List ℕ) (h : ℕ) → Covered S w set → first_in_queue S w (h / node_heads) (h % node_heads) ≡ None → Removed set after h
    → Covered S w after
covered-removed S w set after h c none r =
    record {
      set-of = r.set;
      heads = λ m e. c.heads m (both_true (not (eqb m h)) (member set m) (sym (r.members m) ∙ e)).1;
      others = λ n q hn hq e. go n q hn hq (ℕ_discrete (head_of n q) h) (sym (r.members (head_of n q)) ∙ e);
    }
  where
    go : (n q : ℕ) → n < nodes S → q < queues → Dec (head_of n q ≡ h) → (not (eqb (head_of n q) h) && member set (head_of n q)) ≡ false
        → first_in_queue S w n q ≡ None
    go n q hn hq (yes e) x =
        ap₂ (λ (a b : ℕ). first_in_queue S w a b) (sym (head-node n q hq) ∙ ap (λ (m : ℕ). m / node_heads) e) (sym (head-queue n q hq) ∙ ap (λ (m : ℕ). m % node_heads) e) ∙ none
    go n q hn hq (no ne) x = c.others n q hn hq (rw (ne_eqb (head_of n q) h ne) at x)

-- First's move: that of the lowest head of the set which has one
pub lowest-first : (S : Shape) (w set : List ℕ) (h : ℕ) (f : Option NamedMove) → Covered S w set → LowestHead set h → first_in_queue S w (h / node_heads) (h % node_heads) ≡ f
    → f ≢ None → first_move S w ≡ f
lowest-first S w set h f c l e ne =
    let (hn, hq) = c.heads h l.found in
    first-at S w (h / node_heads) (h % node_heads) f hn hq
    (λ k r hk hr. c.others k r (lt_trans hk hn) hr (l.below (head_of k r) (omega arith)))
    (λ r hr. c.others (h / node_heads) r hn (lt_trans hr hq) (l.below (head_of (h / node_heads) r) (omega arith)))
    e ne

-- the set after holds what the set before did, all of it heads of queues that exist; a head that is not in it then is apart from those that were put in
pub record Added (S : Shape) (set after : List ℕ) (Apart : ℕ → ℕ → Type 0) : Type 0 where
  pub set-of : IsSet after
  pub heads : Heads S set → Heads S after
  pub others : (k r : ℕ) → r < queues → member after (head_of k r) ≡ false → (member set (head_of k r) ≡ false) × Apart k r

-- put in were the heads that a move of queue q of node n by output o may have given a move
abbrev pub Marked : Shape → ℕ → ℕ → ℕ → List ℕ → List ℕ → Type 0
Marked S n q o set after = Added S set after (λ k r. Untouched S n q o k r)

-- of these its source alone, its target alone, and those of the node that feeds its source alone
abbrev pub SourceMarked : Shape → ℕ → ℕ → List ℕ → List ℕ → Type 0
SourceMarked S n q set after = Added S set after (λ k r. (n ≡ k) × (q ≡ r) → ⊥)

abbrev pub ArrivalMarked : Shape → ℕ → ℕ → List ℕ → List ℕ → Type 0
ArrivalMarked S n o set after = Added S set after (λ k r. o ≢ deliver → (target S n o ≡ k) × (o ≡ r) → ⊥)

abbrev pub FeederMarked : Shape → ℕ → ℕ → List ℕ → List ℕ → Type 0
FeederMarked S n q set after = Added S set after (λ k r. q ≢ deliver → k ≢ before S n q)

pub covered-moved : (S : Shape) (w set after : List ℕ) (n q o : ℕ) → Torus S → Network S w → Permitted S w n q o → Covered S w set → Marked S n q o set after
    → Covered S (after_move S w n q o) after
covered-moved S w set after n q o tor N P c m =
    record {
      set-of = m.set-of;
      heads = m.heads c.heads;
      others = λ k r hk hr e. still-nothing S w n q o tor N P k r (m.others k r hr e).1 (c.others k r hk hr (m.others k r hr e).0);
    }

-- one head put in: it is a queue's, and a head that is not in the set then is another, and was not in it
either : (a b : Bool) → (a || b) ≡ true → (a ≡ true) ⊎ (b ≡ true)
either true b e = inl refl
either false b e = inr e

neither : (a b : Bool) → (a || b) ≡ false → (a ≡ false) × (b ≡ false)
neither true b e = absurd (true≢false e)
neither false b e = (refl, e)

pub source-marked : (S : Shape) (n q : ℕ) (set after : List ℕ) → n < nodes S → q < queues → Inserted set after (head_of n q) → SourceMarked S n q set after
source-marked S n q set after hn hq i =
    record {
      set-of = i.set;
      heads = λ hs h e. all hs h (ℕ_discrete h (head_of n q)) (sym (i.members h) ∙ e);
      others = λ k r hr e. apart k r (neither (eqb (head_of k r) (head_of n q)) (member set (head_of k r)) (sym (i.members (head_of k r)) ∙ e));
    }
  where
    all : Heads S set → (h : ℕ) → Dec (h ≡ head_of n q) → (eqb h (head_of n q) || member set h) ≡ true → (h / node_heads < nodes S) × (h % node_heads < queues)
    all hs h (yes z) x = (omega (arith, hn), omega arith)
    all hs h (no ne) x = hs h (rw (ne_eqb h (head_of n q) ne) at x)

    apart : (k r : ℕ) → (eqb (head_of k r) (head_of n q) ≡ false) × (member set (head_of k r) ≡ false) → (member set (head_of k r) ≡ false) × ((n ≡ k) × (q ≡ r) → ⊥)
    apart k r x = (x.1, λ e. eqb-false (head_of k r) (head_of n q) x.0 (ap₂ head_of (sym e.0) (sym e.1)))

pub arrival-marked : (S : Shape) (n o there : ℕ) (set after : List ℕ) → there ≡ target S n o → SourceMarked S there o set after → ArrivalMarked S n o set after
arrival-marked S n o there set after t m =
    record {
      set-of = m.set-of;
      heads = m.heads;
      others = λ k r hr e. let (x, apart) = m.others k r hr e in (x, λ ne y. apart (t ∙ y.0, y.1));
    }

pub feeder-marked : (S : Shape) (n q there : ℕ) (set after : List ℕ) → there < nodes S → there ≡ before S n q → NodeInserted set after there → FeederMarked S n q set after
feeder-marked S n q there set after ht t i =
    record {
      set-of = i.set;
      heads = λ hs h e. all hs h (either (eqb (h / node_heads) there && ltb (h % node_heads) queues) (member set h) (sym (i.members h) ∙ e));
      others = λ k r hr e. apart k r hr (neither (eqb (head_of k r / node_heads) there && ltb (head_of k r % node_heads) queues) (member set (head_of k r)) (sym (i.members (head_of k r)) ∙ e));
    }
  where
    all : Heads S set → (h : ℕ) → ((eqb (h / node_heads) there && ltb (h % node_heads) queues) ≡ true) ⊎ (member set h ≡ true) → (h / node_heads < nodes S) × (h % node_heads < queues)
    all hs h (inl x) =
        let (a, b) = both_true (eqb (h / node_heads) there) (ltb (h % node_heads) queues) x in
        (subst (λ (k : ℕ). k < nodes S) (sym (borrow.Author.Tests.eqb-true (h / node_heads) there a)) ht, ltb-true (h % node_heads) queues b)
    all hs h (inr x) = hs h x

    one : (k r : ℕ) → r < queues → k ≡ there → (eqb (head_of k r / node_heads) there && ltb (head_of k r % node_heads) queues) ≡ true
    one k r hr z = ap₂ (λ (a b : Bool). a && b) (eq-eqb (head_of k r / node_heads) there (head-node k r hr ∙ z)) (lt-ltb (head_of k r % node_heads) queues (omega arith))

    apart : (k r : ℕ) → r < queues → ((eqb (head_of k r / node_heads) there && ltb (head_of k r % node_heads) queues) ≡ false) × (member set (head_of k r) ≡ false)
        → (member set (head_of k r) ≡ false) × (q ≢ deliver → k ≢ before S n q)
    apart k r hr x = (x.1, λ ne z. true≢false (sym (one k r hr (z ∙ sym t)) ∙ x.0))

pub marked : (S : Shape) (n q o : ℕ) (a b c d : List ℕ) → SourceMarked S n q a b → ArrivalMarked S n o b c → FeederMarked S n q c d → Marked S n q o a d
marked S n q o a b c d i x y =
    record {
      set-of = y.set-of;
      heads = λ hs. y.heads (x.heads (i.heads hs));
      others =
          λ k r hr e.
          let (ec, feeds) = y.others k r hr e in
          let (eb, arrives) = x.others k r hr ec in
          let (ea, apart) = i.others k r hr eb in
          (ea, record { source = apart; arrival = arrives; feeder = feeds });
    }

-- what the code computes: the direction back, and the nodes
pub direction-back : (d : ℕ) → d / 2 * 2 + (1 - d % 2) ≡ opposite d
unfolding opposite
direction-back d = go (ℕ_discrete (d % 2) 0)
  where
    go : Dec (d % 2 ≡ 0) → d / 2 * 2 + (1 - d % 2) ≡ cond (eqb (d % 2) 0) (2 * (d / 2) + 1) (2 * (d / 2))
    go (yes e) = rw (eq-eqb (d % 2) 0 e) (omega arith)
    go (no ne) = rw (ne_eqb (d % 2) 0 ne) (omega arith)

pub neighbour-node : (S : Shape) (d n r : ℕ) → Torus S → n < nodes S → d < directions → r ≡ neighbour S d n → r < nodes S
neighbour-node S d n r tor h hd e = let a : neighbour S d n < nodes S = neighbour-lt S d n tor hd h in omega arith

pub before-is : (S : Shape) (n q d r : ℕ) → d ≡ direction_of q → r ≡ neighbour S (d / 2 * 2 + (1 - d % 2)) n → r ≡ before S n q
unfolding before
before-is S n q d r e h = h ∙ ap (λ (k : ℕ). neighbour S k n) (direction-back d ∙ ap opposite e)

-- the search through the set goes on upwards: the lowest head left is above the one that was taken out
pub lowest-rises : (set after : List ℕ) (h : ℕ) (r : Option ℕ) → LowestHead set h → Removed set after h → LowestMember after r → h < unwrap_or r heads
lowest-rises set after h None l out none = l.most
lowest-rises set after h (Some r) l out l' = go (dec_lt h r)
  where
    gone : r ≤ h → member after r ≡ false
    gone b = out.members r ∙ at_most (ℕ_discrete r h)
      where
        at_most : Dec (r ≡ h) → (not (eqb r h) && member set r) ≡ false
        at_most (yes e) = rw (eq-eqb r h e)
        at_most (no ne) = rw (ne_eqb r h ne) (l.below r (omega arith))

    go : Dec (h < r) → h < r
    go (yes b) = b
    go (no b) = absurd (true≢false (sym l'.found ∙ gone (omega arith)))

-- where no head is left, there is no move
pub lowest-none : (S : Shape) (w set : List ℕ) → Covered S w set → LowestMember set None → nodes S ≤ most_nodes → first_move S w ≡ None
lowest-none S w set c l few = first-nowhere S w (λ k r hk hr. c.others k r hk hr (l (head_of k r) (omega arith)))

-- what is named is not nothing
pub move_some : (f : Option NamedMove) (m : NamedMove) → f ≡ Some m → f ≢ None
move_some f m e z = let y : ◌≡◌ {A = ℕ} 0 1 = cc in native.Mathlib.Nat.suc-ne-zero 0 (sym y)
