-- What First's search names: a move that no rule refuses, and none only where every move is refused. ChoiceLaws.antt has that it is the earliest.
-- Order: one search; the outputs of a head; the queues of a node and the nodes; where a search ends. Assumes nothing.
use Rattle.std.specs.Prelude.{◌≡◌, refl, ◌⊎◌, ◌≢◌, cond, List, [], ◌∷◌, ℕ, zero, suc, ◌+◌, ◌<◌, ◌≤◌, T, eqb, Option, None, Some}
use Rattle.std.proofs.Common.{ap, sym, ◌∙◌, inl, inr, arith, eq-eqb, ne_eqb, eqb→eq}
use Rattle.std.proofs.Math.Decide.{ℕ_discrete}
use Rattle.base.specs.Tests.{elem}
use Rattle.base.proofs.Tests.{or-e}
use Rattle.network.specs.declared.NamedMove.{NamedMove}
use Rattle.network.specs.Sizes.{Shape, nodes, queues}
use Rattle.network.specs.Layout.{held}
use Rattle.network.specs.Routes.{routes}
use Rattle.network.specs.Refusals.{move_rules, head}
use Rattle.network.specs.RefusalLaws.{Permitted}
use Rattle.network.proofs.RefusalLaws.{permitted-of, permitted-by}
use Rattle.network.specs.Calls.{first_output, first_in_queue, or_else, search, first_in_node, first_move, move_of}
use Rattle.network.specs.FirstLaws.{Finds, nothing, named, Its}

-- the first of two
or_else-finds : (P : ℕ → ℕ → ℕ → Type 0) (a b : Option NamedMove) → Finds P a → Finds P b → Finds P (or_else a b)
unfolding or_else
or_else-finds P a b nothing s = s
or_else-finds P a b (named r) s = named r

pub search-finds : (P : ℕ → ℕ → ℕ → Type 0) (f : ℕ → Option NamedMove) (i count : ℕ) → ((j : ℕ) → i ≤ j → j < i + count → Finds P (f j)) → Finds P (search f i count)
unfolding search
search-finds P f i zero h = nothing
search-finds P f i (suc count) h =
    or_else-finds P (f i) (search f (suc i) count) (h i (omega arith) (omega arith))
    (search-finds P f (suc i) count (λ j a b. h j (omega arith) (omega arith)))

-- nothing is found only where there is nothing at every place
or_else-nothing : (a b : Option NamedMove) → or_else a b ≡ None → (a ≡ None) × (b ≡ None)
unfolding or_else
or_else-nothing None b e = (refl, e)
or_else-nothing (Some m) b e = absurd (let z : ◌≡◌ {A = ℕ} 0 1 = cc in native.Mathlib.Nat.suc-ne-zero 0 (sym z))

pub search-nothing : (f : ℕ → Option NamedMove) (i count : ℕ) → search f i count ≡ None → (j : ℕ) → i ≤ j → j < i + count → f j ≡ None
unfolding search
search-nothing f i zero e j a b = absurd (outside i j a b)
  where
    outside : (i j : ℕ) → i ≤ j → j < i + 0 → ⊥
    outside i j a b = omega arith
search-nothing f i (suc count) e j a b = go (ℕ_discrete i j) (or_else-nothing (f i) (search f (suc i) count) e)
    (λ e' a'. search-nothing f (suc i) count e' j a' (omega arith))
  where
    go : Dec (i ≡ j) → (f i ≡ None) × (search f (suc i) count ≡ None)
        → (search f (suc i) count ≡ None → suc i ≤ j → f j ≡ None) → f j ≡ None
    go (yes here) r later = rw (← here) r.0
    go (no ne) r later = later r.1 (omega arith)

pub finds-map : (P Q : ℕ → ℕ → ℕ → Type 0) → ((n q o : ℕ) → P n q o → Q n q o) → (f : Option NamedMove) → Finds P f → Finds Q f
finds-map P Q h f nothing = nothing
finds-map P Q h f (named {n} {q} {o} r) = named (h n q o r)

output-finds : (S : Shape) (w : List ℕ) (n q : ℕ) (os : List ℕ) → Finds (Its S w n q) (first_output S w n q os)
unfolding first_output
output-finds S w n q [] = nothing
output-finds S w n q (o ∷ os) = go (ℕ_discrete (move_rules S w n q o) 0) (output-finds S w n q os)
  where
    go : Dec (move_rules S w n q o ≡ 0) → Finds (Its S w n q) (first_output S w n q os)
        → Finds (Its S w n q) (cond (eqb (move_rules S w n q o) 0) (Some (move_of n q o)) (first_output S w n q os))
    go (yes z) r = rw (eq-eqb (move_rules S w n q o) 0 z) (named (refl, refl, permitted-of S w n q o z))
    go (no ne) r = rw (ne_eqb (move_rules S w n q o) 0 ne) r

output-nothing : (S : Shape) (w : List ℕ) (n q : ℕ) (os : List ℕ) → first_output S w n q os ≡ None → (o : ℕ) → T (elem o os) → move_rules S w n q o ≢ 0
unfolding first_output elem
output-nothing S w n q [] e o t = absurd t
output-nothing S w n q (x ∷ os) e o t = go (ℕ_discrete (move_rules S w n q x) 0) (or-e (eqb o x) (elem o os) t) (λ e' s. output-nothing S w n q os e' o s)
  where
    go : Dec (move_rules S w n q x ≡ 0) → T (eqb o x) ⊎ T (elem o os)
        → (first_output S w n q os ≡ None → T (elem o os) → move_rules S w n q o ≢ 0) → move_rules S w n q o ≢ 0
    go (yes z) s later = absurd (found (rw (eq-eqb (move_rules S w n q x) 0 z) at e))
      where
        found : Some (move_of n q x) ≡ None → ⊥
        found e' = let z' : ◌≡◌ {A = ℕ} 0 1 = cc in native.Mathlib.Nat.suc-ne-zero 0 (sym z')
    go (no ne) (inl s) later = rw (eqb→eq o x s) ne
    go (no ne) (inr s) later = later (rw (ne_eqb (move_rules S w n q x) 0 ne) at e) s

-- a queue by its head
pub queue-finds : (S : Shape) (w : List ℕ) (n q : ℕ) → Finds (Its S w n q) (first_in_queue S w n q)
unfolding first_in_queue
queue-finds S w n q = output-finds S w n q (routes q (head (held S w n q)))

pub queue-nothing : (S : Shape) (w : List ℕ) (n q : ℕ) → first_in_queue S w n q ≡ None → (o : ℕ) → Permitted S w n q o → ⊥
unfolding first_in_queue
queue-nothing S w n q e o p = output-nothing S w n q (routes q (head (held S w n q))) e o p.route (permitted-by S w n q o p)

-- the queues of a node
node-finds : (S : Shape) (w : List ℕ) (n : ℕ) → Finds (Permitted S w) (first_in_node S w n)
unfolding first_in_node
node-finds S w n =
    search-finds (Permitted S w) (λ q. first_in_queue S w n q) 0 queues
    (λ q a b. finds-map (Its S w n q) (Permitted S w) (λ m r o h. h.2) (first_in_queue S w n q) (queue-finds S w n q))

pub node-nothing : (S : Shape) (w : List ℕ) (n : ℕ) → first_in_node S w n ≡ None → (q o : ℕ) → Permitted S w n q o → ⊥
unfolding first_in_node
node-nothing S w n e q o p =
    queue-nothing S w n q (search-nothing (λ r. first_in_queue S w n r) 0 queues e q (omega arith) (omega (arith, p.queue))) o p

-- the whole search
pub first_finds : (S : Shape) (w : List ℕ) → Finds (Permitted S w) (first_move S w)
unfolding first_move
first_finds S w =
    search-finds (Permitted S w) (λ n. first_in_node S w n) 0 (nodes S) (λ n a b. node-finds S w n)

pub first-nothing : (S : Shape) (w : List ℕ) → first_move S w ≡ None → (n q o : ℕ) → Permitted S w n q o → ⊥
unfolding first_move
first-nothing S w e n q o p =
    node-nothing S w n (search-nothing (λ m. first_in_node S w m) 0 (nodes S) e n (omega arith) (omega (arith, p.node))) q o p

-- where a search ends: at the first place that has anything, or nowhere
pub search-at : (f : ℕ → Option NamedMove) (i count place : ℕ) (r : Option NamedMove) → i ≤ place → place < i + count → ((j : ℕ) → i ≤ j → j < place → f j ≡ None) → f place ≡ r
    → r ≢ None → search f i count ≡ r
unfolding search or_else
search-at f i zero place r a b none e ne = absurd (outside i place a b)
  where
    outside : (i j : ℕ) → i ≤ j → j < i + 0 → ⊥
    outside i j a b = omega arith
search-at f i (suc count) place r a b none e ne = go (ℕ_discrete i place) (λ a'. search-at f (suc i) count place r a' (omega arith) (λ j x y. none j (omega arith) y) e ne)
  where
    kept : (r : Option NamedMove) (later : Option NamedMove) → r ≢ None → or_else r later ≡ r
    kept None later ne = absurd (ne refl)
    kept (Some m) later ne = refl

    go : Dec (i ≡ place) → (suc i ≤ place → search f (suc i) count ≡ r) → or_else (f i) (search f (suc i) count) ≡ r
    go (yes here) on = ap (λ (x : Option NamedMove). or_else x (search f (suc i) count)) (ap f here ∙ e) ∙ kept r (search f (suc i) count) ne
    go (no apart) on = ap (λ (x : Option NamedMove). or_else x (search f (suc i) count)) (none i (omega arith) (omega arith)) ∙ on (omega arith)

pub search-nowhere : (f : ℕ → Option NamedMove) (i count : ℕ) → ((j : ℕ) → i ≤ j → j < i + count → f j ≡ None) → search f i count ≡ None
unfolding search or_else
search-nowhere f i zero none = refl
search-nowhere f i (suc count) none =
    ap (λ (x : Option NamedMove). or_else x (search f (suc i) count)) (none i (omega arith) (omega arith))
    ∙ search-nowhere f (suc i) count (λ j a b. none j (omega arith) (omega arith))
