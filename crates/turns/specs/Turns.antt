-- One turn of a Drain, and that turns one after the other are the Drain of the definitions. Order: what a turn comes to and leaves; a Drain by its first
-- turn; a Drain by the turns made so far. Assumes nothing.
use Rattle.std.specs.Option.{unwrap_or}
use Rattle.std.specs.Prelude.{◌≡◌, refl, ◌≢◌, cond, eqb, Option, None, Some, Err}
use Rattle.std.proofs.Common.{ap, ap₂, sym, ◌∙◌, subst, arith}
use mathlib.Core.List.{List, [], ◌∷◌, ◌++◌, append_assoc}
use Prim.Native.Nat.{ℕ, zero, suc, ◌+◌}
use Rattle.std.proofs.Math.Decide.{ℕ_discrete}
use borrow.Author.Tests.{eq-eqb, ne_eqb}
use Rattle.network.specs.declared.NamedMove.{NamedMove}
use Rattle.network.specs.declared.Stop.{Stop}
use Rattle.network.specs.Sizes.{Shape}
use Rattle.network.specs.TorusLaws.{Torus}
use Rattle.network.specs.Layout.{held, accepted, delivered}
use Rattle.network.specs.Check.{packets_held}
use Rattle.network.specs.CheckLaws.{Network}
use Rattle.network.specs.Routes.{deliver}
use Rattle.network.specs.Refusals.{head}
use Rattle.network.specs.RefusalLaws.{Permitted}
use Rattle.network.specs.FirstLaws.{Finds, nothing, named}
use Rattle.network.proofs.FirstLaws.{first_finds}
use Rattle.network.specs.Calls.{move_of, Delivery, Progress, after_move, first_move, stopped, one_more, deliver_next, move_next, drain_from}
use Rattle.run.specs.Step.{step}
use Rattle.turns.specs.declared.Turn.{Turn}

-- what a turn comes to, by the move that First names: the stops come first
unfoldable pub turn_by : Shape → List ℕ → ℕ → Option NamedMove → Turn
turn_by S w room None = Turn.Stopped Stop.Emptied
turn_by S w room (Some m) =
    cond (eqb m.output deliver) (cond (eqb room 0) (Turn.Stopped Stop.Full) (Turn.Delivered (head (held S w m.node m.queue)))) Turn.Passed

unfoldable pub turn_answer : Shape → List ℕ → ℕ → ℕ → Turn
turn_answer S w budget room =
    cond (eqb (packets_held S w) 0) (Turn.Stopped Stop.Emptied) (cond (eqb budget 0) (Turn.Stopped Stop.Spent) (turn_by S w room (first_move S w)))

-- the words that a turn leaves: as they were at a stop, else after the move
unfoldable pub unless_stopped : Turn → List ℕ → List ℕ → List ℕ
unless_stopped (Turn.Stopped why) after before = before
unless_stopped Turn.Passed after before = after
unless_stopped (Turn.Delivered p) after before = after

unfoldable pub made_by : Shape → List ℕ → Option NamedMove → List ℕ
made_by S w None = w
made_by S w (Some m) = after_move S w m.node m.queue m.output

unfoldable pub by_words : Shape → List ℕ → ℕ → Option NamedMove → List ℕ
by_words S w room f = unless_stopped (turn_by S w room f) (made_by S w f) w

unfoldable pub turn_words : Shape → List ℕ → ℕ → ℕ → List ℕ
turn_words S w budget room = unless_stopped (turn_answer S w budget room) (made_by S w (first_move S w)) w

-- a Drain that has made the moves ms and handed out ds before r
unfoldable pub after_turns : List NamedMove → List Delivery → Progress → Progress
after_turns ms ds r = record { words = r.words; moves = ms ++ r.moves; deliveries = ds ++ r.deliveries; stop = r.stop }

-- a Drain by its first turn, which leaves the words v: it stops there, or goes on from v with one move less in its budget
pub data ByTurn (S : Shape) (w : List ℕ) (budget room : ℕ) : Turn → List ℕ → Type 0 where
  stops : {why : Stop} → drain_from S budget room w ≡ stopped w why → ByTurn S w budget room (Turn.Stopped why) w
  passes : {v : List ℕ} (m : NamedMove) (b : ℕ) → budget ≡ suc b → Network S v → drain_from S budget room w ≡ one_more m [] (drain_from S b room v)
      → ByTurn S w budget room Turn.Passed v
  delivers : {v : List ℕ} {p : ℕ} (m : NamedMove) (n b r : ℕ) → budget ≡ suc b → room ≡ suc r → Network S v
      → drain_from S budget room w ≡ one_more m (record { node = n; packet = p } ∷ []) (drain_from S b r v) → ByTurn S w budget room (Turn.Delivered p) v

-- the first stop that holds, or the next move
empty-drain : (S : Shape) (w : List ℕ) (budget room : ℕ) → packets_held S w ≡ 0 → drain_from S budget room w ≡ stopped w Stop.Emptied
unfolding drain_from
empty-drain S w zero room z = rw (eq-eqb (packets_held S w) 0 z)
empty-drain S w (suc b) room z = rw (eq-eqb (packets_held S w) 0 z)

spent-drain : (S : Shape) (w : List ℕ) (room : ℕ) → packets_held S w ≢ 0 → drain_from S 0 room w ≡ stopped w Stop.Spent
unfolding drain_from
spent-drain S w room ne = rw (ne_eqb (packets_held S w) 0 ne)

next-drain : (S : Shape) (w : List ℕ) (b room : ℕ) → packets_held S w ≢ 0
    → drain_from S (suc b) room w ≡ move_next S w room (first_move S w) (λ r v. drain_from S b r v)
unfolding drain_from
next-drain S w b room ne = rw (ne_eqb (packets_held S w) 0 ne)

module _ (S : Shape) (tor : Torus S) (w : List ℕ) (N : Network S w) where
  -- the turn by the move that First names
  by-found : (b room : ℕ) (f : Option NamedMove) → Finds (Permitted S w) f
      → drain_from S (suc b) room w ≡ move_next S w room f (λ r v. drain_from S b r v)
      → ByTurn S w (suc b) room (turn_by S w room f) (unless_stopped (turn_by S w room f) (made_by S w f) w)
  unfolding turn_by unless_stopped made_by move_next deliver_next
  by-found b room f nothing e = stops e
  by-found b room f (named {n} {q} {o} P) e = go (ℕ_discrete o deliver) room e
    where
      v : List ℕ
      v = after_move S w n q o

      M : Network S v
      M = (step S w n q o tor N P).network

      t : ℕ → Turn
      t room' = cond (eqb o deliver) (cond (eqb room' 0) (Turn.Stopped Stop.Full) (Turn.Delivered (head (held S w n q)))) Turn.Passed

      home : o ≡ deliver → (room' : ℕ) → drain_from S (suc b) room' w ≡ deliver_next S w n q room' (λ r u. drain_from S b r u)
          → ByTurn S w (suc b) room' (cond (eqb room' 0) (Turn.Stopped Stop.Full) (Turn.Delivered (head (held S w n q))))
          (unless_stopped (cond (eqb room' 0) (Turn.Stopped Stop.Full) (Turn.Delivered (head (held S w n q)))) v w)
      home z zero e' = stops e'
      home z (suc r) e' =
          rw (ne_eqb (suc r) 0 (native.Mathlib.Nat.suc-ne-zero r))
          (delivers (move_of n q deliver) n b r refl refl M
          (e'
          ∙ ap
          (λ (x : ℕ). one_more (move_of n q deliver) (record { node = n; packet = head (held S w n q) } ∷ []) (drain_from S b r (after_move S w n q x)))
          (sym z)))

      go : Dec (o ≡ deliver) → (room' : ℕ)
          → drain_from S (suc b) room' w
          ≡ cond (eqb o deliver) (deliver_next S w n q room' (λ r u. drain_from S b r u)) (one_more (move_of n q o) [] (drain_from S b room' v))
          → ByTurn S w (suc b) room' (t room') (unless_stopped (t room') v w)
      go (yes z) room' e' = rw (eq-eqb o deliver z) (home z room' (rw (eq-eqb o deliver z) at e'))
      go (no ne) room' e' = rw (ne_eqb o deliver ne) (passes (move_of n q o) b refl M (rw (ne_eqb o deliver ne) at e'))

  pub by_turn : (budget room : ℕ) → ByTurn S w budget room (turn_answer S w budget room) (turn_words S w budget room)
  unfolding turn_answer turn_words unless_stopped
  by_turn budget room = go (ℕ_discrete (packets_held S w) 0) budget
    where
      go : Dec (packets_held S w ≡ 0) → (b : ℕ) → ByTurn S w b room (turn_answer S w b room) (turn_words S w b room)
      go (yes z) zero = rw (eq-eqb (packets_held S w) 0 z) (stops (empty-drain S w 0 room z))
      go (yes z) (suc b) = rw (eq-eqb (packets_held S w) 0 z) (stops (empty-drain S w (suc b) room z))
      go (no ne) zero = rw (ne_eqb (packets_held S w) 0 ne) (stops (spent-drain S w room ne))
      go (no ne) (suc b) =
          rw (ne_eqb (packets_held S w) 0 ne, ne_eqb (suc b) 0 (native.Mathlib.Nat.suc-ne-zero b))
          (by-found b room (first_move S w) (first_finds S w) (next-drain S w b room ne))

-- the whole of a Drain from what its turns so far have come to: the moves ms made, ds handed out
pub after_none : (r : Progress) → after_turns [] [] r ≡ r
unfolding after_turns
after_none r = refl

pub after_more : (ms : List NamedMove) (m : NamedMove) (ds es : List Delivery) (r : Progress)
    → after_turns ms ds (one_more m es r) ≡ after_turns (ms ++ (m ∷ [])) (ds ++ es) r
unfolding after_turns one_more
after_more ms m ds es r =
    λ i.
    record {
      words = r.words;
      moves = sym (append_assoc ms (m ∷ []) r.moves) i;
      deliveries = sym (append_assoc ds es r.deliveries) i;
      stop = r.stop;
    }

-- the turn by a move, at each place where the code returns
pub by-passed : (S : Shape) (w : List ℕ) (room n q o : ℕ) → o ≢ 0 → turn_by S w room (Some (move_of n q o)) ≡ Turn.Passed
unfolding turn_by
by-passed S w room n q o ne = rw (ne_eqb o deliver ne)

pub by-full : (S : Shape) (w : List ℕ) (room n q o : ℕ) → o ≡ 0 → room ≡ 0 → turn_by S w room (Some (move_of n q o)) ≡ Turn.Stopped Stop.Full
unfolding turn_by
by-full S w room n q o e z = rw (eq-eqb o deliver e, eq-eqb room 0 z)

pub by-delivered : (S : Shape) (w : List ℕ) (room n q o p : ℕ) → o ≡ 0 → room ≢ 0 → p ≡ head (held S w n q) → turn_by S w room (Some (move_of n q o)) ≡ Turn.Delivered p
unfolding turn_by
by-delivered S w room n q o p e ne h = rw (eq-eqb o deliver e, ne_eqb room 0 ne) (ap Turn.Delivered (sym h))

pub words-moved : (S : Shape) (w : List ℕ) (room n q o : ℕ) (t : Turn) → turn_by S w room (Some (move_of n q o)) ≡ t → unless_stopped t (after_move S w n q o) w ≡ by_words S w room (Some (move_of n q o))
unfolding by_words made_by
words-moved S w room n q o t e = ap (λ (x : Turn). unless_stopped x (after_move S w n q o) w) (sym e)

-- the whole turn
pub turn-emptied : (S : Shape) (w : List ℕ) (budget room : ℕ) → packets_held S w ≡ 0 → turn_answer S w budget room ≡ Turn.Stopped Stop.Emptied
unfolding turn_answer
turn-emptied S w budget room z = rw (eq-eqb (packets_held S w) 0 z)

pub turn-spent : (S : Shape) (w : List ℕ) (budget room : ℕ) → packets_held S w ≢ 0 → budget ≡ 0 → turn_answer S w budget room ≡ Turn.Stopped Stop.Spent
unfolding turn_answer
turn-spent S w budget room ne z = rw (ne_eqb (packets_held S w) 0 ne, eq-eqb budget 0 z)

pub turn_by-some : (S : Shape) (w : List ℕ) (budget room : ℕ) (f : Option NamedMove) → packets_held S w ≢ 0 → budget ≢ 0 → f ≡ first_move S w → turn_by S w room f ≡ turn_answer S w budget room
unfolding turn_answer
turn_by-some S w budget room f ne nb e = rw (ne_eqb (packets_held S w) 0 ne, ne_eqb budget 0 nb) (ap (turn_by S w room) e)

pub turn-by-words : (S : Shape) (w : List ℕ) (budget room : ℕ) (f : Option NamedMove) → packets_held S w ≢ 0 → budget ≢ 0 → f ≡ first_move S w → by_words S w room f ≡ turn_words S w budget room
unfolding by_words turn_words
turn-by-words S w budget room f ne nb e = ap₂ (λ (t : Turn) (g : Option NamedMove). unless_stopped t (made_by S w g) w) (turn_by-some S w budget room f ne nb e) e

pub stopped-words : (S : Shape) (w : List ℕ) (budget room : ℕ) (why : Stop) → turn_answer S w budget room ≡ Turn.Stopped why → w ≡ turn_words S w budget room
unfolding turn_words unless_stopped
stopped-words S w budget room why e = sym (ap (λ (t : Turn). unless_stopped t (made_by S w (first_move S w)) w) e)

-- First's move is permitted
pub first-permitted : (S : Shape) (w : List ℕ) (m : NamedMove) → Some m ≡ first_move S w → Permitted S w m.node m.queue m.output
first-permitted S w m e = go (first_move S w) (first_finds S w) e
  where
    go : (f : Option NamedMove) → Finds (Permitted S w) f → Some m ≡ f → Permitted S w m.node m.queue m.output
    go f nothing x = absurd (let z : ◌≡◌ {A = ℕ} 0 1 = cc in native.Mathlib.Nat.suc-ne-zero 0 (sym z))
    go f (named {n} {q} {o} P) x =
        let same : move_of n q o ≡ m = sym (ap (λ (k : Option NamedMove). unwrap_or k m) x) in
        subst (λ (k : NamedMove). Permitted S w k.node k.queue k.output) same P

-- nothing is held exactly when as many were delivered as accepted
pub none-held : (S : Shape) (w : List ℕ) → Network S w → accepted w ≡ delivered w → packets_held S w ≡ 0
none-held S w N e = let c : delivered w + packets_held S w ≡ accepted w = N.counted in omega arith

pub some-held : (S : Shape) (w : List ℕ) → Network S w → (accepted w ≡ delivered w → ⊥) → packets_held S w ≢ 0
some-held S w N ne z = ne (let c : delivered w + packets_held S w ≡ accepted w = N.counted in omega arith)
