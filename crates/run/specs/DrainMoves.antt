-- What a Drain does: the same fact as a move's, and that each of its moves is the one that First names by then, and so one that Move makes. Order: the next
-- move; a whole Drain; its moves one by one. Assumes nothing.
use Rattle.std.specs.Prelude.{◌≡◌, ◌≢◌, Bool, cond, List, [], ◌∷◌, ◌++◌, eqb, length, Option, Some}
use Rattle.std.proofs.Math.Path.{refl}
use Rattle.std.proofs.Common.{sym, ◌∙◌, subst, one-add, eq-eqb, ne_eqb}
use Rattle.std.proofs.Math.Bool.{true, false}
use Prim.Native.Nat.{ℕ, zero, suc}
use Rattle.std.proofs.Math.Decide.{ℕ_discrete}
use Rattle.network.specs.declared.NamedMove.{NamedMove}
use Rattle.network.specs.declared.Stop.{Stop}
use Rattle.network.specs.Sizes.{Shape}
use Rattle.network.specs.TorusLaws.{Torus}
use Rattle.network.specs.Layout.{shape, held}
use Rattle.network.specs.Check.{packets_held}
use Rattle.network.specs.CheckLaws.{Network}
use Rattle.network.specs.Routes.{deliver}
use Rattle.network.specs.Refusals.{network_refusal, head}
use Rattle.network.specs.RefusalLaws.{Permitted}
use Rattle.network.proofs.RefusalLaws.{network-passes}
use Rattle.network.specs.FirstLaws.{Finds, nothing, named}
use Rattle.network.proofs.FirstLaws.{first_finds}
use Rattle.network.specs.Calls.{move_of, Delivery, Progress, after_move, first_move, stopped, one_more, deliver_next, move_next, drain_from}
use Rattle.network.specs.Run.{Leads}
use Rattle.network.specs.FirstMoves.{ByFirst}
use Rattle.network.proofs.FirstMovesLaws.{search-named, by-first-leads, by-first-one, by-first-append}
use Rattle.run.specs.Step.{Ran, ran-none, ran_then, hands_out, step}

-- moves that led from w to where r has come
abbrev pub RanTo : Shape → List ℕ → Progress → Type 0
RanTo S w r = Ran S w r.words r.deliveries (length r.moves)

stops : (S : Shape) (w : List ℕ) (why : Stop) → Network S w → RanTo S w (stopped w why)
unfolding stopped
stops S w why N = ran-none S w N

goes_on : (S : Shape) (u w : List ℕ) (m : NamedMove) (ds : List Delivery) (r : Progress) → Ran S u w ds 1 → RanTo S w r → RanTo S u (one_more m ds r)
unfolding one_more
goes_on S u w m ds r a b =
    subst (λ (k : ℕ). Ran S u r.words (ds ++ r.deliveries) k) (one-add (length r.moves))
    (ran_then S u w r.words ds r.deliveries 1 (length r.moves) a b)

hands_out-delivered : (S : Shape) (w : List ℕ) (n q o : ℕ) → o ≡ deliver → hands_out S w n q o ≡ record { node = n; packet = head (held S w n q) } ∷ []
unfolding hands_out
hands_out-delivered S w n q o e = rw (eq-eqb o deliver e)

hands-nothing : (S : Shape) (w : List ℕ) (n q o : ℕ) → o ≢ deliver → hands_out S w n q o ≡ []
unfolding hands_out
hands-nothing S w n q o ne = rw (ne_eqb o deliver ne)

module _ (S : Shape) (tor : Torus S) where
  -- the next move, if First names one, and what comes after it
  next : (w : List ℕ) (room : ℕ) (f : Option NamedMove) (on : ℕ → List ℕ → Progress) → Network S w → Finds (Permitted S w) f
      → ((r : ℕ) (v : List ℕ) → Network S v → RanTo S v (on r v)) → RanTo S w (move_next S w room f on)
  unfolding move_next deliver_next
  next w room f on N nothing rec = stops S w Stop.Emptied N
  next w room f on N (named {n} {q} {o} P) rec = go (ℕ_discrete o deliver) room
    where
      a : Ran S w (after_move S w n q o) (hands_out S w n q o) 1
      a = step S w n q o tor N P

      delivers : o ≡ deliver → (room' : ℕ) → RanTo S w (deliver_next S w n q room' on)
      delivers e zero = stops S w Stop.Full N
      delivers e (suc room') =
          let b : Ran S w (after_move S w n q deliver) (record { node = n; packet = head (held S w n q) } ∷ []) 1 =
          subst (λ (x : ℕ). Ran S w (after_move S w n q x) (record { node = n; packet = head (held S w n q) } ∷ []) 1) e
          (subst (λ (ds : List Delivery). Ran S w (after_move S w n q o) ds 1) (hands_out-delivered S w n q o e) a) in
          goes_on S w (after_move S w n q deliver) (move_of n q deliver) (record { node = n; packet = head (held S w n q) } ∷ []) (on room' (after_move S w n q deliver)) b
          (rec room' (after_move S w n q deliver) b.network)

      go : Dec (o ≡ deliver) → (room' : ℕ) → RanTo S w (cond (eqb o deliver) (deliver_next S w n q room' on) (one_more (move_of n q o) [] (on room' (after_move S w n q o))))
      go (yes e) room' = rw (eq-eqb o deliver e) (delivers e room')
      go (no ne) room' =
          let b : Ran S w (after_move S w n q o) [] 1 = subst (λ (ds : List Delivery). Ran S w (after_move S w n q o) ds 1) (hands-nothing S w n q o ne) a in
          rw (ne_eqb o deliver ne) (goes_on S w (after_move S w n q o) (move_of n q o) [] (on room' (after_move S w n q o)) b (rec room' (after_move S w n q o) b.network))

  -- a whole Drain
  pub drain-ran : (budget room : ℕ) (w : List ℕ) → Network S w → RanTo S w (drain_from S budget room w)
  unfolding drain_from
  drain-ran zero room w N = go (eqb (packets_held S w) 0)
    where
      go : (t : Bool) → RanTo S w (cond t (stopped w Stop.Emptied) (stopped w Stop.Spent))
      go true = stops S w Stop.Emptied N
      go false = stops S w Stop.Spent N
  drain-ran (suc budget) room w N =
      go (eqb (packets_held S w) 0)
      (next w room (first_move S w) (λ room' w'. drain_from S budget room' w') N (first_finds S w) (λ r v M. drain-ran budget r v M))
    where
      go : (t : Bool) → RanTo S w (move_next S w room (first_move S w) (λ room' w'. drain_from S budget room' w'))
          → RanTo S w (cond t (stopped w Stop.Emptied) (move_next S w room (first_move S w) (λ room' w'. drain_from S budget room' w')))
      go true r = stops S w Stop.Emptied N
      go false r = r

  -- each move of a Drain is the one that First names in the words by then, and does what Move does
  first_next : (w : List ℕ) (room : ℕ) (f : Option NamedMove) (on : ℕ → List ℕ → Progress) → shape w ≡ S → Network S w → first_move S w ≡ f → Finds (Permitted S w) f
      → ((r : ℕ) (v : List ℕ) → shape v ≡ S → Network S v → ByFirst v (on r v).moves (on r v).words)
      → ByFirst w (move_next S w room f on).moves (move_next S w room f on).words
  unfolding move_next deliver_next stopped one_more ByFirst
  first_next w room f on same N first nothing rec = refl
  first_next w room f on same N first (named {n} {q} {o} P) rec = go (ℕ_discrete o deliver) room
    where
      a : Ran S w (after_move S w n q o) (hands_out S w n q o) 1
      a = step S w n q o tor N P

      m : NamedMove
      m = move_of n q o

      passed : network_refusal w ≡ 0
      passed = network-passes w (subst (λ (T : Shape). Network T w) (sym same) N)

      one : ByFirst w (m ∷ []) (after_move S w n q o)
      one =
          subst (λ (T : Shape). ByFirst w (m ∷ []) (after_move T w n q o)) same
          (by-first-one w m (search-named w m passed (subst (λ (T : Shape). first_move T w ≡ Some (move_of n q o)) (sym same) first)))

      later : (r : ℕ) → ByFirst w (m ∷ (on r (after_move S w n q o)).moves) (on r (after_move S w n q o)).words
      later r =
          by-first-append w (after_move S w n q o) (on r (after_move S w n q o)).words (m ∷ []) (on r (after_move S w n q o)).moves one
          (rec r (after_move S w n q o) (a.same_shape ∙ same) a.network)

      delivers : o ≡ deliver → (room' : ℕ) → ByFirst w (deliver_next S w n q room' on).moves (deliver_next S w n q room' on).words
      delivers e zero = refl
      delivers e (suc room') =
          subst (λ (x : ℕ). ByFirst w (move_of n q x ∷ (on room' (after_move S w n q x)).moves) (on room' (after_move S w n q x)).words) e (later room')

      go : Dec (o ≡ deliver) → (room' : ℕ)
          → ByFirst w (cond (eqb o deliver) (deliver_next S w n q room' on) (one_more m [] (on room' (after_move S w n q o)))).moves
          (cond (eqb o deliver) (deliver_next S w n q room' on) (one_more m [] (on room' (after_move S w n q o)))).words
      go (yes e) room' = rw (eq-eqb o deliver e) (delivers e room')
      go (no ne) room' = rw (ne_eqb o deliver ne) (later room')

  pub drain-by-first : (budget room : ℕ) (w : List ℕ) → shape w ≡ S → Network S w → ByFirst w (drain_from S budget room w).moves (drain_from S budget room w).words
  unfolding drain_from stopped ByFirst
  drain-by-first zero room w same N = go (eqb (packets_held S w) 0)
    where
      go : (t : Bool) → ByFirst w (cond t (stopped w Stop.Emptied) (stopped w Stop.Spent)).moves (cond t (stopped w Stop.Emptied) (stopped w Stop.Spent)).words
      go true = refl
      go false = refl
  drain-by-first (suc budget) room w same N =
      go (eqb (packets_held S w) 0)
      (first_next w room (first_move S w) (λ room' w'. drain_from S budget room' w') same N refl (first_finds S w) (λ r v s M. drain-by-first budget r v s M))
    where
      rest : Progress
      rest = move_next S w room (first_move S w) (λ room' w'. drain_from S budget room' w')

      go : (t : Bool) → ByFirst w rest.moves rest.words → ByFirst w (cond t (stopped w Stop.Emptied) rest).moves (cond t (stopped w Stop.Emptied) rest).words
      go true l = refl
      go false l = l

  -- so each of them is permitted
  pub drain-leads : (budget room : ℕ) (w : List ℕ) → shape w ≡ S → Network S w → Leads w (drain_from S budget room w).moves (drain_from S budget room w).words
  drain-leads budget room w same N = by-first-leads w (drain_from S budget room w).moves (drain_from S budget room w).words (drain-by-first budget room w same N)
