-- After a move, only few heads can have come to have a permitted move: that of its source queue, that of its target, and those of the node whose output
-- leads into the source queue. A Drain need not look at any other head again. Order: the node before; a permitted move of another head was permitted
-- before; First at another head; First's move from the heads. Assumes nothing.
use Rattle.std.specs.Prelude.{◌≡◌, refl, ◌≢◌, List, ℕ, ◌<◌, ◌≤◌, T, length, Option, None}
use Rattle.std.proofs.Common.{ap, sym, ◌∙◌, subst, le_trans, arith}
use Rattle.base.specs.Tests.{elem}
use Rattle.network.specs.declared.NamedMove.{NamedMove}
use Rattle.network.specs.Sizes.{Shape, nodes, queues, directions, direction_of}
use Rattle.network.specs.Torus.{neighbour}
use Rattle.network.specs.TorusLaws.{Torus}
use Rattle.network.proofs.TorusLaws.{neighbour-lt}
use Rattle.network.specs.Layout.{held, taken}
use Rattle.network.specs.Check.{opposite}
use Rattle.network.specs.CheckLaws.{Network}
use Rattle.network.proofs.CheckLaws.{neighbour-back}
use Rattle.network.specs.Routes.{routes, deliver, target, free_load, load_needed}
use Rattle.network.proofs.RoutesLaws.{free-load-fewer}
use Rattle.network.specs.Refusals.{head}
use Rattle.network.specs.RefusalLaws.{Permitted}
use Rattle.network.specs.FirstLaws.{Finds, nothing, named, Its}
use Rattle.network.proofs.FirstLaws.{queue-finds, queue-nothing, search-at, search-nowhere}
use Rattle.network.specs.Calls.{after_move, first_in_queue, first_in_node, first_move}
use Rattle.run.specs.Step.{Elsewhere, step-elsewhere}

-- the node whose output q leads into queue q of node n
unfoldable pub before : Shape → ℕ → ℕ → ℕ
before S n q = neighbour S (opposite (direction_of q)) n

pub direction-lt : (q : ℕ) → direction_of q < directions
direction-lt q = omega arith

pub target-lt : (S : Shape) (k o : ℕ) → Torus S → k < nodes S → target S k o < nodes S
unfolding target
target-lt S k o tor h = neighbour-lt S (direction_of o) k tor (direction-lt o) h

before-is : (S : Shape) (k n o : ℕ) → Torus S → target S k o ≡ n → before S n o ≡ k
unfolding before target
before-is S k n o tor e = rw (← e) (neighbour-back S (direction_of o) k tor (direction-lt o))

-- the head of queue r of node k is none of those that a move of queue q of node n by output o may give a permitted move
pub record Untouched (S : Shape) (n q o k r : ℕ) : Type 0 where
  pub source : (n ≡ k) × (q ≡ r) → ⊥
  pub arrival : o ≢ deliver → (target S n o ≡ k) × (o ≡ r) → ⊥
  pub feeder : q ≢ deliver → k ≢ before S n q

-- a permitted move of such a head was permitted before
pub permitted-before : (S : Shape) (w : List ℕ) (n q o : ℕ) → Torus S → Network S w → Permitted S w n q o → (k r t : ℕ) → Untouched S n q o k r
    → Permitted S (after_move S w n q o) k r t → Permitted S w k r t
permitted-before S w n q o tor N P k r t u p =
    record {
      node = p.node;
      queue = p.queue;
      output = p.output;
      holds = subst (λ (ps : List ℕ). length ps ≢ 0) same p.holds;
      route = subst (λ (ps : List ℕ). T (elem t (routes r (head ps)))) same p.route;
      room =
          λ ne.
          subst (λ (ps : List ℕ). load_needed r t (head ps) ≤ free_load S w k t) same (le_trans (p.room ne) (free-load-fewer S w v k t (grown ne)));
    }
  where
    v : List ℕ
    v = after_move S w n q o

    away : Elsewhere S w v n q o
    away = step-elsewhere S w n q o tor N P

    same : held S v k r ≡ held S w k r
    same = away.same k r p.node p.queue u.source u.arrival

    grown : t ≢ deliver → taken S w (target S k t) t ≤ taken S v (target S k t) t
    grown ne =
        away.no_less (target S k t) t (target-lt S k t tor p.node) p.output
        (λ e. u.feeder (λ z. ne (sym e.1 ∙ z)) (sym (before-is S k n q tor (ap (target S k) e.1 ∙ sym e.0))))

-- so a head at which First found nothing has nothing still
pub still-nothing : (S : Shape) (w : List ℕ) (n q o : ℕ) → Torus S → Network S w → Permitted S w n q o → (k r : ℕ) → Untouched S n q o k r
    → first_in_queue S w k r ≡ None → first_in_queue S (after_move S w n q o) k r ≡ None
still-nothing S w n q o tor N P k r u e = go (first_in_queue S (after_move S w n q o) k r) (queue-finds S (after_move S w n q o) k r)
  where
    v : List ℕ
    v = after_move S w n q o

    go : (f : Option NamedMove) → Finds (Its S v k r) f → f ≡ None
    go f nothing = refl
    go f (named {n = k'} {q = r'} {o = t} h) =
        let p : Permitted S v k r t = subst (λ (x : ℕ). Permitted S v x r t) h.0 (subst (λ (y : ℕ). Permitted S v k' y t) h.1 h.2) in
        absurd (queue-nothing S w k r e t (permitted-before S w n q o tor N P k r t u p))

-- First's move where no head before that of queue q of node n has one, and none where no head has
pub first-at : (S : Shape) (w : List ℕ) (n q : ℕ) (f : Option NamedMove) → n < nodes S → q < queues
    → ((k r : ℕ) → k < n → r < queues → first_in_queue S w k r ≡ None) → ((r : ℕ) → r < q → first_in_queue S w n r ≡ None)
    → first_in_queue S w n q ≡ f → f ≢ None → first_move S w ≡ f
unfolding first_move first_in_node
first-at S w n q f hn hq earlier lower e ne =
    search-at (λ k. first_in_node S w k) 0 (nodes S) n f (omega arith) (omega arith)
    (λ k a b. search-nowhere (λ r. first_in_queue S w k r) 0 queues (λ r x y. earlier k r b (omega arith)))
    (search-at (λ r. first_in_queue S w n r) 0 queues q f (omega arith) (omega arith) (λ r x y. lower r y) e ne)
    ne

pub first-nowhere : (S : Shape) (w : List ℕ) → ((k r : ℕ) → k < nodes S → r < queues → first_in_queue S w k r ≡ None) → first_move S w ≡ None
unfolding first_move first_in_node
first-nowhere S w none =
    search-nowhere (λ k. first_in_node S w k) 0 (nodes S)
    (λ k a b. search-nowhere (λ r. first_in_queue S w k r) 0 queues (λ r x y. none k r (omega arith) (omega arith)))
