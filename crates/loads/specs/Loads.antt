-- A table of loads: the entry of direction d of node n is how much is taken of the adaptive queue of that direction (R27). Order: the table; what is
-- read from it; one entry changed; the table after a move. Assumes nothing.
use Rattle.std.specs.Prelude.{◌≡◌, refl, Bool, true, false, cond, List, ◌≢◌, set}
use Rattle.std.proofs.Math.Path.{ap}
use Rattle.std.proofs.Common.{sym, ◌∙◌, length-set, get_or-set_same, get_or-set_other}
use Prim.Native.Nat.{ℕ, ◌+◌, ◌*◌, ◌-◌, ◌/◌, ◌%◌, ◌^◌, ◌<◌, ◌≤◌}
use native.Mathlib.Omega.{arith}
use Rattle.std.proofs.Math.ListN.{length, get_or}
use Rattle.network.specs.Sizes.{Shape, nodes, queues, directions, dimension_of, direction_of, adaptive_queue, is_adaptive, largest_capacity}
use Rattle.network.proofs.SizesLaws.{adaptive-of, adaptive-chunks, range-of, capacity-most}
use Rattle.network.specs.TorusLaws.{Torus}
use Rattle.network.specs.Packet.{chunks}
use Rattle.network.proofs.PacketLaws.{chunks-most}
use Rattle.network.specs.Layout.{held, taken}
use Rattle.network.proofs.LayoutLaws.{load-chunks, load-hop, taken-same}
use Rattle.network.specs.CheckLaws.{Network}
use Rattle.network.specs.Routes.{deliver, target}
use Rattle.network.specs.Refusals.{head}
use Rattle.network.specs.RefusalLaws.{Permitted}
use Rattle.network.specs.Calls.{after_move}
use Rattle.network.specs.AfterLaws.{MoveMade, Role, is-source, is-target, is-neither}
use Rattle.network.proofs.AfterLaws.{ahead, move-made, role, source-taken, target-taken}
use Rattle.near.specs.Table.{Table, entry-within, entry_at}

abbrev pub load_in : Shape → List ℕ → ℕ → ℕ → ℕ
load_in S w d n = taken S w n (adaptive_queue d)

abbrev pub Loads : Shape → List ℕ → List ℕ → Type 0
Loads S w loads = Table S (load_in S w) loads

-- the place of queue q of node n in it, an adaptive one
abbrev pub entry_of : ℕ → ℕ → ℕ
entry_of n q = directions * n + (q - 1)

-- the table with x for queue q of node n, which stands in it only if it is adaptive
unfoldable pub with_load : ℕ → ℕ → ℕ → List ℕ → List ℕ
with_load n q x loads = cond (is_adaptive q) (set loads (entry_of n q) x) loads

-- What is read from it ------------------------------------------------------------------------------------------------------------------

pub load-within : (S : Shape) (w loads : List ℕ) (n q : ℕ) → Loads S w loads → n < nodes S → is_adaptive q ≡ true → entry_of n q < length loads
load-within S w loads n q t h a = let k = adaptive-of q a in entry-within n (q - 1) t h (omega arith)

pub load_at : (S : Shape) (w loads : List ℕ) (n q : ℕ) → Loads S w loads → n < nodes S → is_adaptive q ≡ true → get_or loads (entry_of n q) 0 ≡ taken S w n q
load_at S w loads n q t h a =
    let k = adaptive-of q a in
    let e : adaptive_queue (q - 1) ≡ q = omega arith in
    entry_at S (load_in S w) loads n (q - 1) t h (omega arith) ∙ ap (taken S w n) e

-- a byte holds what a network's queue takes
pub load-small : (S : Shape) (w : List ℕ) (n q : ℕ) → Network S w → n < nodes S → q < queues → taken S w n q ≤ largest_capacity
load-small S w n q N hn hq = let l = (N.queue n q hn hq).light in let m = capacity-most S q (range-of S N.in-range) in omega arith

-- One entry changed -----------------------------------------------------------------------------------------------------------------------

pub with-length : (n q x : ℕ) (loads : List ℕ) → length (with_load n q x loads) ≡ length loads
unfolding with_load
with-length n q x loads = go (is_adaptive q)
  where
    go : (b : Bool) → length (cond b (set loads (entry_of n q) x) loads) ≡ length loads
    go true = length-set loads (entry_of n q) x
    go false = refl

pub with_none : (n q x : ℕ) (loads : List ℕ) → is_adaptive q ≡ false → loads ≡ with_load n q x loads
unfolding with_load
with_none n q x loads a = rw a

pub with-some : (n q x : ℕ) (loads : List ℕ) → is_adaptive q ≡ true → set loads (entry_of n q) x ≡ with_load n q x loads
unfolding with_load
with-some n q x loads a = rw a

pub with-same : (n q x : ℕ) (loads : List ℕ) → is_adaptive q ≡ true → entry_of n q < length loads → get_or (with_load n q x loads) (entry_of n q) 0 ≡ x
unfolding with_load
with-same n q x loads a h = rw a (get_or-set_same loads (entry_of n q) x 0 h)

pub with-other : (n q x i : ℕ) (loads : List ℕ) → (is_adaptive q ≡ true → i ≢ entry_of n q) → get_or (with_load n q x loads) i 0 ≡ get_or loads i 0
unfolding with_load
with-other n q x i loads ne = go (is_adaptive q) ne
  where
    go : (b : Bool) → (b ≡ true → i ≢ entry_of n q) → get_or (cond b (set loads (entry_of n q) x) loads) i 0 ≡ get_or loads i 0
    go true ne = get_or-set_other loads (entry_of n q) i x 0 (ne refl)
    go false ne = refl

-- two adaptive queues have two places
pub entry-apart : (n q m r : ℕ) → is_adaptive q ≡ true → is_adaptive r ≡ true → ((n ≡ m) × (q ≡ r) → ⊥) → entry_of n q ≢ entry_of m r
entry-apart n q m r a b ne e =
    let k = adaptive-of q a in
    let l = adaptive-of r b in
    ne (omega arith, omega arith)

-- After a move ----------------------------------------------------------------------------------------------------------------------------

-- the source loses the chunks of its head, and the target gains them
module _ (S : Shape) (w loads : List ℕ) (n q o c there : ℕ) (tor : Torus S) (N : Network S w) (P : Permitted S w n q o) (t : Loads S w loads)
    (ec : c ≡ chunks (head (held S w n q))) (et : o ≢ deliver → there ≡ target S n o) where
  v : List ℕ
  v = after_move S w n q o

  M : MoveMade S w v n q o
  unfolding v
  M = move-made S w n q o tor N P

  -- the source takes no less than its head
  pub source-enough : is_adaptive q ≡ true → c ≤ get_or loads (entry_of n q) 0
  source-enough a =
      let e = load_at S w loads n q t P.node a in
      let k = source-taken S w v n q o P M in
      let l = load-chunks q (head (held S w n q)) a in
      omega arith

  -- and a byte holds it
  pub source-small : is_adaptive q ≡ true → get_or loads (entry_of n q) 0 < 2 ^ 8
  source-small a = let e = load_at S w loads n q t P.node a in let l = load-small S w n q N P.node P.queue in omega arith

  away : is_adaptive o ≡ true → o ≢ deliver
  away a z = let k = adaptive-of o a in omega arith

  there-apart : is_adaptive o ≡ true → there ≢ n
  there-apart a e = M.apart (away a) (sym (et (away a)) ∙ e)

  pub there-node : is_adaptive o ≡ true → there < nodes S
  there-node a = let e = et (away a) in let l = (ahead S w n q o tor N P (away a)).node in omega arith

  -- where the source has lost them
  module _ (mid : List ℕ) (em : mid ≡ with_load n q (get_or loads (entry_of n q) 0 - c) loads) where
    same_length : length mid ≡ length loads
    same_length = ap length em ∙ with-length n q (get_or loads (entry_of n q) 0 - c) loads

    pub there-within : is_adaptive o ≡ true → entry_of there o < length mid
    there-within a = let l = load-within S w loads there o t (there-node a) a in let e = same_length in omega arith

    there-load : is_adaptive o ≡ true → get_or mid (entry_of there o) 0 ≡ taken S w there o
    there-load a =
        ap (λ (l : List ℕ). get_or l (entry_of there o) 0) em
        ∙ with-other n q (get_or loads (entry_of n q) 0 - c) (entry_of there o) loads (λ b. entry-apart there o n q a b (λ e. there-apart a e.0))
        ∙ load_at S w loads there o t (there-node a) a

    -- a byte holds what the target takes with them
    pub there-small : is_adaptive o ≡ true → get_or mid (entry_of there o) 0 + c < 2 ^ 8
    there-small a =
        let e = there-load a in
        let f = load-small S w there o N (there-node a) P.output in
        let k = chunks-most (head (held S w n q)) in
        omega arith

    -- where the target has gained them
    module _ (last : List ℕ) (el : last ≡ with_load there o (get_or mid (entry_of there o) 0 + c) mid) where
      -- an entry that the target does not have is as it was
      unchanged : (m r : ℕ) → is_adaptive r ≡ true → (is_adaptive o ≡ true → (there ≡ m) × (o ≡ r) → ⊥) → get_or last (entry_of m r) 0 ≡ get_or mid (entry_of m r) 0
      unchanged m r a ne =
          ap (λ (l : List ℕ). get_or l (entry_of m r) 0) el
          ∙ with-other there o (get_or mid (entry_of there o) 0 + c) (entry_of m r) mid (λ b. entry-apart m r there o a b (λ e. ne b (sym e.0, sym e.1)))

      source-after : is_adaptive q ≡ true → get_or last (entry_of n q) 0 ≡ taken S v n q
      source-after a =
          unchanged n q a (λ b e. there-apart b e.0)
          ∙ ap (λ (l : List ℕ). get_or l (entry_of n q) 0) em
          ∙ with-same n q (get_or loads (entry_of n q) 0 - c) loads a (load-within S w loads n q t P.node a)
          ∙ less
        where
          less : get_or loads (entry_of n q) 0 - c ≡ taken S v n q
          less =
              let e = load_at S w loads n q t P.node a in
              let k = source-taken S w v n q o P M in
              let l = load-chunks q (head (held S w n q)) a in
              omega arith

      target-after : is_adaptive o ≡ true → get_or last (entry_of there o) 0 ≡ taken S v there o
      target-after a =
          ap (λ (l : List ℕ). get_or l (entry_of there o) 0) el
          ∙ with-same there o (get_or mid (entry_of there o) 0 + c) mid a (there-within a)
          ∙ more
        where
          more : get_or mid (entry_of there o) 0 + c ≡ taken S v there o
          more =
              let e = there-load a in
              let k = target-taken S w v n q o P M (away a) in
              let x = ap (λ (m : ℕ). taken S w m o) (et (away a)) in
              let y = ap (λ (m : ℕ). taken S v m o) (et (away a)) in
              let l = load-chunks o (head (held S w n q)) a in
              let h = load-hop o (dimension_of (direction_of o)) (head (held S w n q)) (omega arith) in
              omega arith

      by-role : (m r : ℕ) → m < nodes S → r < queues → is_adaptive r ≡ true → Role S n q o m r → get_or last (entry_of m r) 0 ≡ taken S v m r
      by-role m r hm hr a (is-source e) = rw (← e.0, ← e.1) (source-after (rw e.1 a))
      by-role m r hm hr a (is-target ne e) =
          let f : there ≡ m = et ne ∙ e.0 in
          rw (← f, ← e.1) (target-after (rw e.1 a))
      by-role m r hm hr a (is-neither ne ne') =
          unchanged m r a (λ b e. ne' (away b) (sym (et (away b)) ∙ e.0, e.1))
          ∙ ap (λ (l : List ℕ). get_or l (entry_of m r) 0) em
          ∙ with-other n q (get_or loads (entry_of n q) 0 - c) (entry_of m r) loads (λ b. entry-apart m r n q a b (λ e. ne (sym e.0, sym e.1)))
          ∙ load_at S w loads m r t hm a
          ∙ sym (taken-same S w v m r (M.others m r hm hr ne ne'))

      pub loads-after : Loads S (after_move S w n q o) last
      unfolding v
      loads-after =
          record {
            entries =
                let k = t.entries in
                let a = ap length el ∙ with-length there o (get_or mid (entry_of there o) 0 + c) mid ∙ same_length in
                omega arith;
            at =
                λ i h.
                let m : ℕ = i / directions in
                let r : ℕ = adaptive_queue (i % directions) in
                let e : i ≡ entry_of m r = omega arith in
                ap (λ (j : ℕ). get_or last j 0) e
                ∙ by-role m r (omega arith) (omega arith) (adaptive-chunks r (λ z. omega arith) (omega arith)) (role S n q o m r);
          }
