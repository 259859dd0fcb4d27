-- Laws that the proofs of this crate cite, over plain variables. Order: the header of an empty network; a counter that may rise; a packet that
-- joins a queue; a move. Assumes nothing.
use mathlib.Core.Path.{◌≡◌, ap, ap₂, sym, subst, ◌∙◌}
use mathlib.Core.Logic.{◌≢◌}
use mathlib.Core.List.{List, [], ◌∷◌, ◌++◌}
use Prim.Native.Nat.{ℕ, ◌+◌, ◌*◌, ◌-◌, ◌^◌, ◌<◌, ◌≤◌}
use native.Mathlib.Omega.{arith}
use borrow.Author.Tests.{eq-eqb, ne_eqb}
use lib.ListN.{length, get_or, drop, replicate, length-append, length-drop, length-replicate, replicate-append-replicate}
use Rattle.network.specs.Sizes.{Shape, shape_of, nodes, capacity, injection_queue, direction_of, dimension_of}
use Rattle.network.specs.Packet.{hop}
use Rattle.network.specs.Torus.{neighbour}
use Rattle.network.specs.TorusLaws.{Torus}
use Rattle.network.specs.Layout.{header_words, need, node_words, held, put_queue, raised, accepted, delivered, moves_made, accepted_at, delivered_at, moves_at}
use Rattle.network.specs.LayoutLaws.{Fits}
use Rattle.network.proofs.LayoutLaws.{need-header, header-long, length-put, word-put, length-raised, raised-other}
use Rattle.network.specs.Check.{most_accepted, most_work, packets_held, work_left}
use Rattle.network.specs.CheckLaws.{Network}
use Rattle.network.specs.Routes.{deliver, target}
use Rattle.network.specs.Refusals.{head}
use Rattle.network.specs.RefusalLaws.{Permitted}
use Rattle.network.specs.Calls.{empty_header, empty_network, offered, after_offer, head_leaves, packet_arrives, after_move}
use Rattle.network.proofs.SameWords.{stored-few, network-stored}
use Rattle.network.specs.AfterLaws.{Ahead}
use Rattle.network.proofs.AfterLaws.{ahead}
use Rattle.queue.specs.Queue.{CheckedQueue}
use Rattle.network.specs.declared.Sizes.{Sizes}
use Rattle.queue.specs.QueueLaws.{checked, checked-put, checked-fits}

-- The header of an empty network ---------------------------------------------------------------------------------------------------------

-- the zeros of a network have room for its six sizes
pub room-for-sizes : (S : Shape) (n : ℕ) (w v : List ℕ) → n ≡ need S → v ≡ replicate n 0 → 6 ≤ length (v ++ drop n w)
room-for-sizes S n w v en ev =
    let a = length-append v (drop n w) in
    let l = ap length ev ∙ length-replicate {A = ℕ} n 0 in
    let h = need-header S in
    omega arith

-- these copied over them
pub empty-words : (s : Sizes) (n : ℕ) (w v six : List ℕ) → n ≡ need (shape_of s) → v ≡ replicate n 0
    → six ≡ s.x ∷ s.y ∷ s.z ∷ s.escape ∷ s.adaptive ∷ s.injection ∷ []
    → six ++ drop 6 (v ++ drop n w) ≡ empty_network (shape_of s) ++ drop (need (shape_of s)) w
unfolding empty_header empty_network need shape_of
empty-words s n w v six en ev e =
    ap₂ (λ (l zeros : List ℕ). l ++ drop 6 (zeros ++ drop n w)) e ev
    ∙ ap (λ (k : ℕ). (s.x ∷ s.y ∷ s.z ∷ s.escape ∷ s.adaptive ∷ s.injection ∷ []) ++ drop 6 (replicate k 0 ++ drop k w)) en
    ∙ ap (λ (l : List ℕ). (s.x ∷ s.y ∷ s.z ∷ s.escape ∷ s.adaptive ∷ s.injection ∷ []) ++ drop 6 (l ++ drop (header_words + rest) w))
    (sym (replicate-append-replicate header_words rest 0))
  where
    rest : ℕ
    rest = nodes (shape_of s) * node_words (shape_of s)

-- A counter that may rise ---------------------------------------------------------------------------------------------------------------

abbrev pub Raisable : ℕ → List ℕ → Type 0
Raisable at w = (at < length w) × (get_or w at 0 < 2 ^ 64 - 1)

module _ {S : Shape} {w : List ℕ} (N : Network S w) where
  pub accepted-may : Raisable accepted_at w
  unfolding accepted
  accepted-may = let h = header-long S w N.long in let a : get_or w accepted_at 0 ≤ most_accepted = N.few-accepted in (omega arith, omega arith)

  pub delivered-may : Raisable delivered_at w
  unfolding accepted delivered
  delivered-may =
      let h = header-long S w N.long in
      let a : get_or w accepted_at 0 ≤ most_accepted = N.few-accepted in
      let b : get_or w delivered_at 0 + packets_held S w ≡ get_or w accepted_at 0 = N.counted in
      (omega arith, omega arith)

  pub moves-may : Raisable moves_at w
  unfolding accepted moves_made
  moves-may =
      let h = header-long S w N.long in
      let a : get_or w accepted_at 0 ≤ most_accepted = N.few-accepted in
      let b : get_or w moves_at 0 + work_left S w ≤ most_work * get_or w accepted_at 0 = N.bounded in
      (omega arith, omega arith)

-- still so when a queue is replaced, or another counter raised
put-may : (S : Shape) (w : List ℕ) (n q : ℕ) (ps : List ℕ) (at : ℕ) → Fits S w n q → length ps ≤ capacity S q → at < header_words → Raisable at w
    → Raisable at (put_queue S w n q ps)
put-may S w n q ps at fits few h may =
    let a = length-put S w n q ps fits few in
    let b = word-put S w n q ps at fits few h in
    let x = may.0 in
    let y = may.1 in
    (omega arith, omega arith)

pub raised-may : (i at : ℕ) (w v : List ℕ) → v ≡ raised i w → at ≢ i → Raisable at w → Raisable at v
raised-may i at w v e ne may = subst (λ (l : List ℕ). Raisable at l) (sym e) here
  where
    here : Raisable at (raised i w)
    here =
        let a = length-raised i w in
        let b = raised-other i w at ne in
        let x = may.0 in
        let y = may.1 in
        (omega arith, omega arith)

-- A packet that joins a queue -----------------------------------------------------------------------------------------------------------

pub arrives-may : (S : Shape) (w v : List ℕ) (n q p at : ℕ) → v ≡ packet_arrives S w n q p → Fits S w n q → length (held S w n q) < capacity S q
    → at < header_words → Raisable at w → Raisable at v
unfolding packet_arrives
arrives-may S w v n q p at e fits room h may = subst (λ (l : List ℕ). Raisable at l) (sym e) (put-may S w n q (held S w n q ++ (p ∷ [])) at fits few h may)
  where
    few : length (held S w n q ++ (p ∷ [])) ≤ capacity S q
    few = let a = length-append (held S w n q) (p ∷ []) in omega arith

pub offered-words : (S : Shape) (w v u : List ℕ) (n dest tag chunks p : ℕ) → p ≡ offered S n dest tag chunks → v ≡ packet_arrives S w n injection_queue p
    → u ≡ raised accepted_at v → u ≡ after_offer S w n dest tag chunks
unfolding after_offer packet_arrives
offered-words S w v u n dest tag chunks p ep ev eu =
    eu ∙ ap (raised accepted_at) (ev ∙ ap (λ (k : ℕ). put_queue S w n injection_queue (held S w n injection_queue ++ (k ∷ []))) ep)

-- A move --------------------------------------------------------------------------------------------------------------------------------

-- v is what the head of queue q of node n left behind in the words w, on its way by output o
pub record Left (S : Shape) (w v : List ℕ) (n q o : ℕ) : Type 0 where
  pub torus : Torus S
  pub network : Network S w
  pub permitted : Permitted S w n q o
  pub left : v ≡ head_leaves S w n q

module _ {S : Shape} {w v : List ℕ} {n q o : ℕ} (L : Left S w v n q o) where
  place : Fits S w n q
  place = record { node = L.permitted.node; queue = L.permitted.queue; long = L.network.long }

  few : length (drop 1 (held S w n q)) ≤ capacity S q
  few =
      let a = length-drop 1 (held S w n q) in
      let b = stored-few S w n q place ((network-stored S w L.network).queue n q L.permitted.node L.permitted.queue) in
      omega arith

  left-may : (at : ℕ) → at < header_words → Raisable at w → Raisable at v
  unfolding head_leaves
  left-may at h may = subst (λ (l : List ℕ). Raisable at l) (sym L.left) (put-may S w n q (drop 1 (held S w n q)) at place few h may)

  -- a delivery raises both counters
  pub delivered-left : Raisable delivered_at v
  delivered-left = left-may delivered_at (omega arith) (delivered-may L.network)

  pub moves-handed : (u : List ℕ) → u ≡ raised delivered_at v → Raisable moves_at u
  moves-handed u e = raised-may delivered_at moves_at v u e (λ z. unequal z) (left-may moves_at (omega arith) (moves-may L.network))
    where
      unequal : moves_at ≡ delivered_at → ⊥
      unequal z = omega arith

  pub handed-words : (u x : List ℕ) → o ≡ deliver → u ≡ raised delivered_at v → x ≡ raised moves_at u → x ≡ after_move S w n q o
  unfolding after_move
  handed-words u x e eu ex = rw (eq-eqb o deliver e) (ex ∙ ap (raised moves_at) (eu ∙ ap (raised delivered_at) L.left))

  -- any other output has a target t, which is as `push` asks it
  module _ (t : ℕ) (away : o ≢ deliver) (next : t ≡ neighbour S (direction_of o) n) where
    front : Ahead S w n q o
    front = ahead S w n q o L.torus L.network L.permitted away

    pub target-checked : CheckedQueue S v t o
    unfolding head_leaves target
    target-checked =
        subst (λ (l : List ℕ). CheckedQueue S l t o) (sym L.left)
        (checked-put S w n q (drop 1 (held S w n q)) t o place few
        (checked S w t o L.network (subst (λ (m : ℕ). m < nodes S) (sym next) front.node) L.permitted.output))

    pub target_room : length (held S v t o) < capacity S o
    unfolding target
    target_room =
        subst (λ (l : List ℕ). length (held S l t o) < capacity S o) (sym L.left)
        (subst (λ (m : ℕ). length (held S (head_leaves S w n q) m o) < capacity S o) (sym next) front.room)

    pub moves-arrived : (p : ℕ) (u : List ℕ) → u ≡ packet_arrives S v t o p → Raisable moves_at u
    moves-arrived p u e =
        arrives-may S v u t o p moves_at e (checked-fits S v t o target-checked) target_room (omega arith)
        (left-may moves_at (omega arith) (moves-may L.network))

    pub moved-words : (p h : ℕ) (u x : List ℕ) → p ≡ head (held S w n q) → h ≡ hop (dimension_of (direction_of o)) p → u ≡ packet_arrives S v t o h
        → x ≡ raised moves_at u → x ≡ after_move S w n q o
    unfolding after_move target
    moved-words p h u x ep eh eu ex =
        rw (ne_eqb o deliver away)
        (ex
        ∙ ap (raised moves_at)
        (eu
        ∙ ap₂ (λ (l : List ℕ) (m : ℕ). packet_arrives S l m o h) L.left next
        ∙ ap (packet_arrives S (head_leaves S w n q) (neighbour S (direction_of o) n) o) (eh ∙ ap (hop (dimension_of (direction_of o))) ep)))
