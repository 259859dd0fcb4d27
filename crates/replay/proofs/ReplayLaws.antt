-- A D replayed move by move leaves the words that the D leaves: theorem `drain-replayed`, and `command-replayed` for every command. Order: a Drain with no
-- budget; the next move of a Drain, if there is one; one move and the rest; the theorems. Assumes nothing.
use Rattle.std.specs.Prelude.{◌≡◌, refl, ◌⊎◌, Bool, not, eqb, Option}
use Rattle.std.proofs.Math.Path.{ap}
use Rattle.std.proofs.Common.{ap₂, sym, ◌∙◌, subst, inl, inr, true≢false, eq-eqb, ne_eqb}
use Rattle.std.proofs.Math.Bool.{true, false, cond}
use mathlib.Core.List.{List, []}
use Prim.Native.Nat.{ℕ, zero, suc, ◌-◌}
use Rattle.std.proofs.Math.Decide.{ℕ_discrete}
use native.Mathlib.Omega.{arith}
use Rattle.std.proofs.Math.ListN.{length}
use Rattle.network.specs.declared.NamedMove.{NamedMove}
use Rattle.network.specs.declared.Stop.{Stop}
use Rattle.network.specs.Sizes.{Shape}
use Rattle.network.specs.TorusLaws.{Torus}
use Rattle.network.specs.Layout.{shape}
use Rattle.network.specs.Check.{packets_held}
use Rattle.network.specs.CheckLaws.{Network}
use Rattle.network.specs.Routes.{deliver}
use Rattle.network.specs.Refusals.{network_refusal}
use Rattle.network.specs.RefusalLaws.{Permitted}
use Rattle.network.proofs.RefusalLaws.{network-passed, network-passes}
use Rattle.network.specs.FirstLaws.{Finds, nothing, named}
use Rattle.network.proofs.FirstLaws.{first_finds}
use Rattle.network.specs.Calls.{Progress, after_move, first_move, stopped, one_more, deliver_next, move_next, drain_from, drained, drain_words, drain_answer, drained_moves, drained_delivered}
use Rattle.network.proofs.CallLaws.{torus}
use Rattle.run.specs.Step.{step}
use Rattle.sheet.specs.declared.Command.{Command}
use Rattle.session.specs.Session.{perform, ledger_words}
use Rattle.replay.specs.Replay.{carried_out, moves_asked, one_word, moved_on, makes_move, room_left, replayed}
use Rattle.replay.specs.ReplayLaws.{Still, Next, stays, goes, NoMoveMade, NextMoveMade}

still : (w : List ℕ) (why : Stop) → Still w (stopped w why)
unfolding stopped
still w why = record { words = refl; moves = refl; deliveries = refl }

drain-none : (S : Shape) (room : ℕ) (w : List ℕ) → Still w (drain_from S zero room w)
unfolding drain_from
drain-none S room w = go (eqb (packets_held S w) 0)
  where
    go : (t : Bool) → Still w (cond t (stopped w Stop.Emptied) (stopped w Stop.Spent))
    go true = still w Stop.Emptied
    go false = still w Stop.Spent

module _ (S : Shape) (w : List ℕ) (tor : Torus S) (N : Network S w) where
  -- Drains whose next move is a delivery, or another
  handing : ℕ → ℕ → ℕ → ℕ → Progress
  handing n q room budget = deliver_next S w n q room (λ room' w'. drain_from S budget room' w')

  passing : ℕ → ℕ → ℕ → ℕ → ℕ → Progress
  passing n q o room budget = one_more (record { node = n; queue = q; output = o }) [] (drain_from S budget room (after_move S w n q o))

  next-handed : (n q room : ℕ) → Network S (after_move S w n q deliver) → shape (after_move S w n q deliver) ≡ shape w
      → Next S room w (handing n q room) (handing n q (one_word room) zero)
  unfolding handing deliver_next one_more one_word
  next-handed n q zero M same = stays (λ budget. (still w Stop.Full).words) (still w Stop.Full)
  next-handed n q (suc left) M same =
      let v : List ℕ = after_move S w n q deliver in
      let none : Still v (drain_from S zero zero v) = drain-none S zero v in
      let few : left ≡ suc left - suc (length (drain_from S zero zero v).deliveries) = let d = none.deliveries in omega arith in
      goes v M same none.words (ap suc none.moves) (λ budget. ap (λ k. (drain_from S budget k v).words) few)

  next-passed : (n q o room : ℕ) → Network S (after_move S w n q o) → shape (after_move S w n q o) ≡ shape w
      → Next S room w (passing n q o room) (passing n q o (one_word room) zero)
  unfolding passing one_more
  next-passed n q o room M same =
      let v : List ℕ = after_move S w n q o in
      let none : Still v (drain_from S zero (one_word room) v) = drain-none S (one_word room) v in
      let few : room ≡ room - length (drain_from S zero (one_word room) v).deliveries = let d = none.deliveries in omega arith in
      goes v M same none.words (ap suc none.moves) (λ budget. ap (λ k. (drain_from S budget k v).words) few)

  -- Drains whose next move is the one found
  onward : Option NamedMove → ℕ → ℕ → Progress
  onward f room budget = move_next S w room f (λ room' w'. drain_from S budget room' w')

  next-found : (room : ℕ) (f : Option NamedMove) → Finds (Permitted S w) f → Next S room w (onward f room) (onward f (one_word room) zero)
  unfolding onward move_next handing passing
  next-found room f nothing = stays (λ budget. (still w Stop.Emptied).words) (still w Stop.Emptied)
  next-found room f (named {n} {q} {o} P) = go (ℕ_discrete o deliver)
    where
      v : List ℕ
      v = after_move S w n q o

      made : Network S v × (shape v ≡ shape w)
      made = let r = step S w n q o tor N P in (r.network, r.same_shape)

      by : Bool → Type 0
      by t =
          Next S room w (λ budget. cond t (handing n q room budget) (passing n q o room budget))
          (cond t (handing n q (one_word room) zero) (passing n q o (one_word room) zero))

      go : Dec (o ≡ deliver) → by (eqb o deliver)
      go (yes e) =
          let given : Network S (after_move S w n q deliver) × (shape (after_move S w n q deliver) ≡ shape w)
          = subst (λ x. Network S (after_move S w n q x) × (shape (after_move S w n q x) ≡ shape w)) e made in
          subst by (sym (eq-eqb o deliver e)) (next-handed n q room given.0 given.1)
      go (no ne) = subst by (sym (ne_eqb o deliver ne)) (next-passed n q o room made.0 made.1)

  next-move : (room : ℕ) → Next S room w (λ budget. drain_from S (suc budget) room w) (drain_from S (suc zero) (one_word room) w)
  unfolding drain_from onward
  next-move room = go (eqb (packets_held S w) 0)
    where
      go : (t : Bool)
          → Next S room w (λ budget. cond t (stopped w Stop.Emptied) (onward (first_move S w) room budget))
          (cond t (stopped w Stop.Emptied) (onward (first_move S w) (one_word room) zero))
      go true = stays (λ budget. (still w Stop.Emptied).words) (still w Stop.Emptied)
      go false = next-found room (first_move S w) (first_finds S w)

-- a D of no moves, on any words
pub drain-unspent : (w : List ℕ) (room : ℕ) → drain_words w zero room ≡ w
unfolding drain_words drained
drain-unspent w room = go (eqb (network_refusal w) 0)
  where
    go : (t : Bool) → cond t (drain_from (shape w) zero room w).words w ≡ w
    go true = (drain-none (shape w) room w).words
    go false = refl

-- a Drain that is not refused
drain-made : (w : List ℕ) (budget room : ℕ) (S : Shape) → network_refusal w ≡ 0 → shape w ≡ S → drain_words w budget room ≡ (drain_from S budget room w).words
unfolding drain_words drained
drain-made w budget room S z same = rw (eq-eqb (network_refusal w) 0 z) (ap (λ T. (drain_from T budget room w).words) same)

pub move-told : (w : List ℕ) (room : ℕ) → NoMoveMade w room ⊎ NextMoveMade w room
unfolding makes_move moved_on room_left drain_words drain_answer drained drained_moves drained_delivered
move-told w room = go (ℕ_discrete (network_refusal w) 0)
  where
    go : Dec (network_refusal w ≡ 0) → NoMoveMade w room ⊎ NextMoveMade w room
    go (no ne) =
        let e : eqb (network_refusal w) 0 ≡ false = ne_eqb (network_refusal w) 0 ne in
        inl (record { none = rw e; same = rw e; all = λ budget. rw e })
    go (yes z) = by (next-move (shape w) w (torus w N) N room)
      where
        N : Network (shape w) w
        N = network-passed w z

        e : eqb (network_refusal w) 0 ≡ true
        e = eq-eqb (network_refusal w) 0 z

        one : Progress
        one = drain_from (shape w) (suc zero) (one_word room) w

        moved : moved_on w room ≡ one.words
        moved = rw e refl

        left : room_left w room ≡ room - length one.deliveries
        left = rw e refl

        makes : makes_move w room ≡ not (eqb (length one.moves) 0)
        makes = rw e refl

        by : Next (shape w) room w (λ budget. drain_from (shape w) (suc budget) room w) one → NoMoveMade w room ⊎ NextMoveMade w room
        by (stays all here) =
            inl
            (record {
              none = makes ∙ ap (λ k. not (eqb k 0)) here.moves;
              same = moved ∙ here.words;
              all = with all;
            })
          where
            with : ((budget : ℕ) → (drain_from (shape w) (suc budget) room w).words ≡ w) → (budget : ℕ) → drain_words w budget room ≡ w
            with all zero = drain-unspent w room
            with all (suc budget) = drain-made w (suc budget) room (shape w) z refl ∙ all budget
        by (goes v M same there moves rest) =
            let passes : network_refusal v ≡ 0 = network-passes v (subst (λ S. Network S v) (sym same) M) in
            inr
            (record {
              one = makes ∙ ap (λ k. not (eqb k 0)) moves;
              network = z;
              same_shape = ap shape (moved ∙ there) ∙ same;
              passes = ap network_refusal (moved ∙ there) ∙ passes;
              rest =
                  λ budget.
                  drain-made w (suc budget) room (shape w) z refl
                  ∙ rest budget
                  ∙ sym (drain-made v budget (room - length one.deliveries) (shape w) passes same)
                  ∙ ap₂ (λ u k. drain_words u budget k) (sym (moved ∙ there)) (sym left);
            })

-- where no move is made the words stay as they are
pub move-stays : (w : List ℕ) (room : ℕ) → makes_move w room ≡ false → moved_on w room ≡ w
move-stays w room e = by (move-told w room)
  where
    by : NoMoveMade w room ⊎ NextMoveMade w room → moved_on w room ≡ w
    by (inl s) = s.same
    by (inr g) = absurd (true≢false (sym g.one ∙ e))

-- a D replayed with any budget and any room leaves what it leaves made at once
pub drain-replayed : (budget room : ℕ) (w : List ℕ) → replayed budget room w ≡ drain_words w budget room
unfolding replayed
drain-replayed zero room w = sym (drain-unspent w room)
drain-replayed (suc budget) room w = by (move-told w room) (drain-replayed budget (room_left w room) (moved_on w room))
  where
    by : NoMoveMade w room ⊎ NextMoveMade w room → replayed budget (room_left w room) (moved_on w room) ≡ drain_words (moved_on w room) budget (room_left w room)
        → cond (makes_move w room) (replayed budget (room_left w room) (moved_on w room)) w ≡ drain_words w (suc budget) room
    by (inl s) later = rw s.none (sym (s.all (suc budget)))
    by (inr g) later = rw g.one (later ∙ sym (g.rest budget))

-- what a command does at once, and a D of the moves that it asks for besides, are together what the bench does with it
pub command-drained : (c : Command) (w : List ℕ) → drain_words (carried_out c w) (moves_asked c) ledger_words ≡ (perform c w).store
unfolding moves_asked carried_out perform
command-drained (Command.Make x y z e a j) w = drain-unspent (perform (Command.Make x y z e a j) w).store ledger_words
command-drained (Command.Offer node destination tag chunks) w = drain-unspent (perform (Command.Offer node destination tag chunks) w).store ledger_words
command-drained (Command.Move node queue output) w = drain-unspent (perform (Command.Move node queue output) w).store ledger_words
command-drained (Command.Drain budget) w = refl
command-drained Command.Bad w = drain-unspent w ledger_words

-- and so is its replay
pub command-replayed : (c : Command) (w : List ℕ) → replayed (moves_asked c) ledger_words (carried_out c w) ≡ (perform c w).store
command-replayed c w = drain-replayed (moves_asked c) ledger_words (carried_out c w) ∙ command-drained c w
