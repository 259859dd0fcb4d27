-- First names the earliest permitted move, and none exactly where no move is permitted: theorem `first-right`, for all words.
-- Order: where a search took its move from; the outputs before the one that is named; what stands before it in the whole search; two permitted moves
-- compared; the theorem. Assumes nothing.
use Rattle.std.specs.Prelude.{◌≡◌, ◌⊎◌, ◌≢◌, ℕ, zero, suc, ◌+◌, ◌<◌, ◌≤◌, T, eqb, Option, None, Some, Ok}
use Rattle.std.proofs.Math.Path.{refl, sym}
use Rattle.std.proofs.Common.{ap, ap₂, ◌∙◌, subst, inl, inr, arith, eq-eqb, ne_eqb, eqb→eq}
use Rattle.std.specs.Option.{option_map_or}
use mathlib.Core.List.{List, [], ◌∷◌}
use Rattle.std.proofs.Math.Nat.{suc-ne-zero, suc_inj}
use Rattle.std.proofs.Math.Decide.{ℕ_discrete, dec_lt}
use Rattle.std.proofs.Math.ListN.{length}
use Rattle.base.specs.Tests.{elem}
use Rattle.base.proofs.Tests.{or-e}
use Rattle.network.specs.declared.NamedMove.{NamedMove}
use Rattle.network.specs.Sizes.{Shape, nodes, queues}
use Rattle.network.specs.Layout.{shape, held}
use Rattle.network.specs.Routes.{routes}
use Rattle.network.specs.Refusals.{network_refusal, move_rules, move_refusal, head}
use Rattle.network.specs.RefusalLaws.{Permitted}
use Rattle.network.proofs.RefusalLaws.{permitted-of, permitted-by, neither, else_by-zero}
use Rattle.network.specs.Calls.{move_of, first_output, first_in_queue, or_else, search, first_in_node, first_move, first_answer, found_move}
use Rattle.network.specs.Choices.{Permits, place_among, route_place, Earlier, by-node, by-queue, by-route, FirstRight}
use Rattle.network.specs.FirstLaws.{Finds, nothing, named, Its}
use Rattle.network.proofs.FirstLaws.{search-finds, finds-map, queue-finds, queue-nothing, node-nothing, first_finds, first-nothing}
use Rattle.network.specs.ChoiceLaws.{At, Foremost, Allowed}

at_once : (f : ℕ → Option NamedMove) (i count : ℕ) (r : Option NamedMove) → f i ≡ r → At f i (suc count) r
at_once f i count r h = record { place = i; from = omega arith; to = omega arith; here = h; before = λ j a b. absurd (outside j a b) }
  where
    outside : (j : ℕ) → i ≤ j → j < i → ⊥
    outside j a b = omega arith

at-later : (f : ℕ → Option NamedMove) (i count : ℕ) (r : Option NamedMove) → f i ≡ None → At f (suc i) count r → At f i (suc count) r
at-later f i count r h a =
    let to : a.place < suc i + count = a.to in
    let from : suc i ≤ a.place = a.from in
    record {
      place = a.place;
      from = omega arith;
      to = omega arith;
      here = a.here;
      before = λ j x z. none j x z (ℕ_discrete i j);
    }
  where
    none : (j : ℕ) → i ≤ j → j < a.place → Dec (i ≡ j) → f j ≡ None
    none j x z (yes same) = rw (← same) h
    none j x z (no apart) = a.before j (omega arith) z

search-found : (f : ℕ → Option NamedMove) (i count : ℕ) (r : Option NamedMove) → search f i count ≡ r → r ≢ None → At f i count r
unfolding search or_else
search-found f i zero r e ne = absurd (ne (sym e))
search-found f i (suc count) r e ne = go (f i) refl e (λ x. search-found f (suc i) count r x ne)
  where
    go : (x : Option NamedMove) → f i ≡ x → or_else x (search f (suc i) count) ≡ r → (search f (suc i) count ≡ r → At f (suc i) count r) → At f i (suc count) r
    go None h y later = at-later f i count r h (later y)
    go (Some m) h y later = at_once f i count r (h ∙ y)

move-something : {n q o : ℕ} → Some (move_of n q o) ≢ None
move-something {n} {q} {o} e = let z : ◌≡◌ {A = ℕ} 0 1 = cc in suc-ne-zero 0 (sym z)

-- a move that a queue, or a node, is asked for is one of its own
its_own : (P : ℕ → ℕ → ℕ → Type 0) (f : Option NamedMove) (m r p : ℕ) → Finds P f → f ≡ Some (move_of m r p) → P m r p
its_own P f m r p nothing e = absurd (move-something (sym e))
its_own P f m r p (named {n} {q} {o} h) e =
    let a : n ≡ m = ap (λ (x : Option NamedMove). option_map_or (λ k. k.node) x 0) e in
    let b : q ≡ r = ap (λ (x : Option NamedMove). option_map_or (λ k. k.queue) x 0) e in
    let c : o ≡ p = ap (λ (x : Option NamedMove). option_map_or (λ k. k.output) x 0) e in
    subst (λ (x : ℕ). P x r p) a (subst (λ (x : ℕ). P n x p) b (subst (λ (x : ℕ). P n q x) c h))

-- the outputs before the one that is named are refused
output-first : (S : Shape) (w : List ℕ) (n q o : ℕ) (os : List ℕ) → first_output S w n q os ≡ Some (move_of n q o)
    → (p : ℕ) → place_among p os < place_among o os → move_rules S w n q p ≢ 0
unfolding first_output place_among
output-first S w n q o [] e p l = absurd (move-something (sym e))
output-first S w n q o (x ∷ os) e p l = go (ℕ_discrete (move_rules S w n q x) 0) (ℕ_discrete o x) (ℕ_discrete p x) (λ e' l'. output-first S w n q o os e' p l')
  where
    named_here : move_rules S w n q x ≡ 0 → x ≡ o
    named_here z = let h : Some (move_of n q x) ≡ Some (move_of n q o) = (rw (eq-eqb (move_rules S w n q x) 0 z) at e) in ap (λ (y : Option NamedMove). option_map_or (λ k. k.output) y 0) h

    go : Dec (move_rules S w n q x ≡ 0) → Dec (o ≡ x) → Dec (p ≡ x)
        → (first_output S w n q os ≡ Some (move_of n q o) → place_among p os < place_among o os → move_rules S w n q p ≢ 0) → move_rules S w n q p ≢ 0
    go r (yes same) s later = absurd (none (rw (eq-eqb o x same) at l))
      where
        none : {k : ℕ} → k < 0 → ⊥
        none h = omega arith
    go (yes z) (no apart) s later = absurd (apart (sym (named_here z)))
    go (no ne) (no apart) (yes same) later = rw same ne
    go (no ne) (no apart) (no other) later =
        later (rw (ne_eqb (move_rules S w n q x) 0 ne) at e) (less (rw (ne_eqb o x apart, ne_eqb p x other) at l))
      where
        less : {a b : ℕ} → suc a < suc b → a < b
        less h = omega arith

-- a search through places, each of which finds moves of its own: nothing is found before the place of the move that is named
search-first : (f : ℕ → Option NamedMove) (count : ℕ) (own : ℕ → ℕ → ℕ → ℕ) (n q o : ℕ) → search f 0 count ≡ Some (move_of n q o)
    → ((i : ℕ) → Finds (λ m r p. own m r p ≡ i) (f i)) → (f (own n q o) ≡ Some (move_of n q o)) × ((j : ℕ) → j < own n q o → f j ≡ None)
search-first f count own n q o e finds =
    let a : At f 0 count (Some (move_of n q o)) = search-found f 0 count (Some (move_of n q o)) e move-something in
    let same : own n q o ≡ a.place = its_own (λ m r p. own m r p ≡ a.place) (f a.place) n q o (finds a.place) a.here in
    (ap f same ∙ a.here, λ j l. a.before j (omega arith) (omega arith))

first-foremost : (S : Shape) (w : List ℕ) (n q o : ℕ) → first_move S w ≡ Some (move_of n q o) → Foremost S w n q o
unfolding first_move first_in_node
first-foremost S w n q o e =
    let (node, nodes-before) = search-first (λ m. first_in_node S w m) (nodes S) (λ m r p. m) n q o e (λ m. node-own m) in
    let (queue, queues-before) = search-first (λ r. first_in_queue S w n r) queues (λ m r p. r) n q o node (λ r. queue-own n r) in
    record { nodes-before = nodes-before; queues-before = queues-before; in-queue = queue }
  where
    queue-own : (m r : ℕ) → Finds (λ m' r' p. r' ≡ r) (first_in_queue S w m r)
    queue-own m r = finds-map (Its S w m r) (λ m' r' p. r' ≡ r) (λ m' r' p h. h.1) (first_in_queue S w m r) (queue-finds S w m r)

    node-own : (m : ℕ) → Finds (λ m' r p. m' ≡ m) (search (λ r. first_in_queue S w m r) 0 queues)
    node-own m =
        search-finds (λ m' r p. m' ≡ m) (λ r. first_in_queue S w m r) 0 queues
        (λ r a b. finds-map (Its S w m r) (λ m' r' p. m' ≡ m) (λ m' r' p h. h.0) (first_in_queue S w m r) (queue-finds S w m r))

-- two permitted moves: one is earlier, or they are the same
place_same : (os : List ℕ) (o p : ℕ) → T (elem o os) → place_among o os ≡ place_among p os → o ≡ p
unfolding elem place_among
place_same [] o p t e = absurd t
place_same (x ∷ os) o p t e = go (ℕ_discrete o x) (ℕ_discrete p x) (or-e (eqb o x) (elem o os) t) (λ t' e'. place_same os o p t' e')
  where
    go : Dec (o ≡ x) → Dec (p ≡ x) → T (eqb o x) ⊎ T (elem o os) → (T (elem o os) → place_among o os ≡ place_among p os → o ≡ p) → o ≡ p
    go (yes a) (yes b) s later = a ∙ sym b
    go (yes a) (no b) s later = absurd (suc-ne-zero _ (sym (rw (eq-eqb o x a, ne_eqb p x b) at e)))
    go (no a) (yes b) s later = absurd (suc-ne-zero _ (rw (ne_eqb o x a, eq-eqb p x b) at e))
    go (no a) (no b) (inl s) later = absurd (a (eqb→eq o x s))
    go (no a) (no b) (inr s) later = later s (suc_inj (rw (ne_eqb o x a, ne_eqb p x b) at e))

same_move : (a b : NamedMove) → a.node ≡ b.node → a.queue ≡ b.queue → a.output ≡ b.output → a ≡ b
same_move a b x y z = λ i. record { node = x i; queue = y i; output = z i }

in_order : (w : List ℕ) (a b : NamedMove) → Allowed w a → Allowed w b → Earlier w a b ⊎ (Earlier w b a ⊎ (a ≡ b))
unfolding route_place
in_order w a b A B = nodes? (dec_lt a.node b.node) (dec_lt b.node a.node)
  where
    routes? : a.node ≡ b.node → a.queue ≡ b.queue → Dec (route_place w a < route_place w b) → Dec (route_place w b < route_place w a)
        → Earlier w a b ⊎ (Earlier w b a ⊎ (a ≡ b))
    routes? x y (yes l) d = inl (by-route x y l)
    routes? x y (no g) (yes l) = inr (inl (by-route (sym x) (sym y) l))
    routes? x y (no g) (no h) =
        let e : route_place w a ≡ route_place w b = omega arith in
        let here : route_place w b ≡ place_among b.output (routes a.queue (head (held (shape w) w a.node a.queue))) =
        ap₂ (λ (n q : ℕ). place_among b.output (routes q (head (held (shape w) w n q)))) (sym x) (sym y) in
        inr (inr (same_move a b x y (place_same (routes a.queue (head (held (shape w) w a.node a.queue))) a.output b.output A.route (e ∙ here))))

    queues? : a.node ≡ b.node → Dec (a.queue < b.queue) → Dec (b.queue < a.queue) → Earlier w a b ⊎ (Earlier w b a ⊎ (a ≡ b))
    queues? x (yes l) d = inl (by-queue x l)
    queues? x (no g) (yes l) = inr (inl (by-queue (sym x) l))
    queues? x (no g) (no h) = routes? x (omega arith) (dec_lt (route_place w a) (route_place w b)) (dec_lt (route_place w b) (route_place w a))

    nodes? : Dec (a.node < b.node) → Dec (b.node < a.node) → Earlier w a b ⊎ (Earlier w b a ⊎ (a ≡ b))
    nodes? (yes l) d = inl (by-node l)
    nodes? (no g) (yes l) = inr (inl (by-node l))
    nodes? (no g) (no h) = queues? (omega arith) (dec_lt a.queue b.queue) (dec_lt b.queue a.queue)

-- nothing earlier than the move that the search names is permitted
none-earlier : (w : List ℕ) (m : NamedMove) → Foremost (shape w) w m.node m.queue m.output → (e : NamedMove) → Earlier w e m → Allowed w e → ⊥
unfolding first_in_queue route_place
none-earlier w m F e (by-node l) P = node-nothing (shape w) w e.node (F.nodes-before e.node l) e.queue e.output P
none-earlier w m F e (by-queue x l) P =
    queue-nothing (shape w) w m.node e.queue (F.queues-before e.queue l) e.output
    (subst (λ (n : ℕ). Permitted (shape w) w n e.queue e.output) x P)
none-earlier w m F e (by-route x y l) P =
    let there : route_place w e ≡ place_among e.output (routes m.queue (head (held (shape w) w m.node m.queue))) =
    ap₂ (λ (n q : ℕ). place_among e.output (routes q (head (held (shape w) w n q)))) x y in
    output-first (shape w) w m.node m.queue m.output (routes m.queue (head (held (shape w) w m.node m.queue))) F.in-queue e.output
    (subst (λ (k : ℕ). k < route_place w m) there l)
    (subst (λ (q : ℕ). move_rules (shape w) w m.node q e.output ≡ 0) y
    (subst (λ (n : ℕ). move_rules (shape w) w n e.queue e.output ≡ 0) x (permitted-by (shape w) w e.node e.queue e.output P)))

-- an answer that names a move
pub names : (f : Option NamedMove) (m : NamedMove) → found_move (Ok f) ≡ m ∷ [] → f ≡ Some (move_of m.node m.queue m.output)
unfolding found_move
names None m e = absurd (suc-ne-zero 0 (sym (ap length e)))
names (Some k) m e = let same : k ≡ m = cc in ap (λ (x : NamedMove). Some x) same

module _ (w : List ℕ) where
  allowed : (m : NamedMove) → Permits w m → (network_refusal w ≡ 0) × Allowed w m
  unfolding move_refusal
  allowed m p =
      let (z, r) = neither (network_refusal w) (move_rules (shape w) w m.node m.queue m.output) p in
      (z, permitted-of (shape w) w m.node m.queue m.output r)

  pub permits : (m : NamedMove) → network_refusal w ≡ 0 → Allowed w m → Permits w m
  unfolding move_refusal
  permits m z P =
      else_by-zero (network_refusal w) (move_rules (shape w) w m.node m.queue m.output) z
      ∙ permitted-by (shape w) w m.node m.queue m.output P

  searched : network_refusal w ≡ 0 → found_move (first_answer w) ≡ found_move (Ok (first_move (shape w) w))
  unfolding first_answer
  searched z = rw (eq-eqb (network_refusal w) 0 z)

  refused : network_refusal w ≢ 0 → found_move (first_answer w) ≡ []
  unfolding first_answer found_move
  refused ne = rw (ne_eqb (network_refusal w) 0 ne)

  -- what is named is permitted and foremost
  named-right : (m : NamedMove) → found_move (first_answer w) ≡ m ∷ [] → Permits w m × ((e : NamedMove) → Earlier w e m → Permits w e → ⊥)
  named-right m h = go (ℕ_discrete (network_refusal w) 0)
    where
      go : Dec (network_refusal w ≡ 0) → Permits w m × ((e : NamedMove) → Earlier w e m → Permits w e → ⊥)
      go (no ne) = absurd (suc-ne-zero 0 (ap length (sym h ∙ refused ne)))
      go (yes z) =
          let f : first_move (shape w) w ≡ Some (move_of m.node m.queue m.output) = names (first_move (shape w) w) m (sym (searched z) ∙ h) in (
            permits m z (its_own (Permitted (shape w) w) (first_move (shape w) w) m.node m.queue m.output (first_finds (shape w) w) f),
            λ e l p. none-earlier w m (first-foremost (shape w) w m.node m.queue m.output f) e l (allowed e p).1,
          )

  -- what is permitted and foremost is named
  right-named : (m : NamedMove) → Permits w m × ((e : NamedMove) → Earlier w e m → Permits w e → ⊥) → found_move (first_answer w) ≡ m ∷ []
  unfolding found_move
  right-named m (p, before) = go (first_move (shape w) w) refl (first_finds (shape w) w)
    where
      z : network_refusal w ≡ 0
      z = (allowed m p).0

      go : (f : Option NamedMove) → first_move (shape w) w ≡ f → Finds (Permitted (shape w) w) f → found_move (first_answer w) ≡ m ∷ []
      go f e nothing = absurd (first-nothing (shape w) w e m.node m.queue m.output (allowed m p).1)
      go f e (named {n} {q} {o} P) =
          let k : NamedMove = move_of n q o in
          let found : found_move (first_answer w) ≡ k ∷ [] = searched z ∙ ap (λ (x : Option NamedMove). found_move (Ok x)) e in
          by k found (in_order w k m P (allowed m p).1) (permits k z P)
        where
          by : (k : NamedMove) → found_move (first_answer w) ≡ k ∷ [] → Earlier w k m ⊎ (Earlier w m k ⊎ (k ≡ m)) → Permits w k → found_move (first_answer w) ≡ m ∷ []
          by k found (inl l) P = absurd (before k l P)
          by k found (inr (inl l)) P = absurd ((named-right k found).1 m l p)
          by k found (inr (inr same)) P = found ∙ ap (λ (x : NamedMove). x ∷ []) same

  none_right : found_move (first_answer w) ≡ [] → (m : NamedMove) → Permits w m → ⊥
  unfolding found_move
  none_right h m p = go (first_move (shape w) w) refl (first_finds (shape w) w)
    where
      go : (f : Option NamedMove) → first_move (shape w) w ≡ f → Finds (Permitted (shape w) w) f → ⊥
      go f e nothing = first-nothing (shape w) w e m.node m.queue m.output (allowed m p).1
      go f e (named {n} {q} {o} P) =
          suc-ne-zero 0 (ap length (sym (ap (λ (x : Option NamedMove). found_move (Ok x)) e) ∙ sym (searched (allowed m p).0) ∙ h))

  right-none : ((m : NamedMove) → Permits w m → ⊥) → found_move (first_answer w) ≡ []
  unfolding found_move
  right-none no_move = go (ℕ_discrete (network_refusal w) 0)
    where
      by : network_refusal w ≡ 0 → (f : Option NamedMove) → Finds (Permitted (shape w) w) f → found_move (Ok f) ≡ []
      by z f nothing = refl
      by z f (named {n} {q} {o} P) = absurd (no_move (move_of n q o) (permits (move_of n q o) z P))

      go : Dec (network_refusal w ≡ 0) → found_move (first_answer w) ≡ []
      go (no ne) = refused ne
      go (yes z) = searched z ∙ by z (first_move (shape w) w) (first_finds (shape w) w)

  pub first-right : FirstRight w
  first-right = record { named = λ m. (named-right m, right-named m); none = (none_right, right-none) }
