-- Moves that First names one after the other (FirstMoves.antt). Order: they are permitted moves; one of them, and more behind others; how a Drain begins and goes
-- on. Assumes nothing.
use Rattle.std.specs.Prelude.{◌≡◌, ◌≢◌, cond, List, [], ◌∷◌, ◌++◌, ℕ, suc, eqb, length, Option, Some, Ok}
use Rattle.std.proofs.Common.{ap, sym, ◌∙◌, eq-eqb, ne_eqb}
use Rattle.std.proofs.Math.Decide.{ℕ_discrete}
use Rattle.network.specs.declared.NamedMove.{NamedMove}
use Rattle.network.specs.Sizes.{Shape}
use Rattle.network.specs.Layout.{shape}
use Rattle.network.proofs.LayoutLaws.{total-zero}
use Rattle.network.specs.Check.{packets_held}
use Rattle.network.specs.Routes.{deliver}
use Rattle.network.specs.Refusals.{network_refusal, move_rules, move_refusal}
use Rattle.network.specs.RefusalLaws.{Permitted}
use Rattle.network.proofs.RefusalLaws.{neither, permitted-of}
use Rattle.network.specs.Calls.{move_of, Progress, after_move, move_words, found_move, first_move, first_answer, one_more, deliver_next, move_next, drain_from, drained}
use Rattle.network.specs.Choices.{Permits}
use Rattle.network.proofs.ChoiceLaws.{names, first-right}
use Rattle.network.specs.Run.{Leads}
use Rattle.network.specs.FirstMoves.{ByFirst}
use Rattle.network.specs.FirstMovesLaws.{room_before}

-- a permitted move's queue holds something
pub held-some : (S : Shape) (w : List ℕ) (n q o : ℕ) → Permitted S w n q o → packets_held S w ≢ 0
unfolding packets_held
held-some S w n q o P z = P.holds (ap length (total-zero S w n q z P.node P.queue))

-- the move that First names is permitted, and in a network it is the one that its search comes to
named-permits : (w : List ℕ) (m : NamedMove) → found_move (first_answer w) ≡ m ∷ [] → Permits w m
named-permits w m h = (((first-right w).named m).0 h).0

named-after : (w : List ℕ) (m : NamedMove) → found_move (first_answer w) ≡ m ∷ []
    → move_words w m.node m.queue m.output ≡ after_move (shape w) w m.node m.queue m.output
unfolding move_words
named-after w m h = rw (eq-eqb (move_refusal w m.node m.queue m.output) 0 (named-permits w m h))

pub search-named : (w : List ℕ) (m : NamedMove) → network_refusal w ≡ 0 → first_move (shape w) w ≡ Some (move_of m.node m.queue m.output)
    → found_move (first_answer w) ≡ m ∷ []
unfolding first_answer found_move
search-named w m z f = rw (eq-eqb (network_refusal w) 0 z) (ap (λ (x : Option NamedMove). found_move (Ok x)) f)

named-search : (w : List ℕ) (m : NamedMove) → network_refusal w ≡ 0 → found_move (first_answer w) ≡ m ∷ []
    → first_move (shape w) w ≡ Some (move_of m.node m.queue m.output)
unfolding first_answer
named-search w m z h = names (first_move (shape w) w) m (rw (eq-eqb (network_refusal w) 0 z) at h)

-- R127, R226: they lead from words to words as permitted moves do
pub by-first-leads : (w : List ℕ) (ms : List NamedMove) (v : List ℕ) → ByFirst w ms v → Leads w ms v
unfolding ByFirst Leads
by-first-leads w [] v e = e
by-first-leads w (m ∷ ms) v b = (named-permits w m b.0, by-first-leads (move_words w m.node m.queue m.output) ms v b.1)

pub by-first-one : (w : List ℕ) (m : NamedMove) → found_move (first_answer w) ≡ m ∷ []
    → ByFirst w (m ∷ []) (after_move (shape w) w m.node m.queue m.output)
unfolding ByFirst
by-first-one w m h = (h, named-after w m h)

pub by-first-append : (u w v : List ℕ) (ms ns : List NamedMove) → ByFirst u ms w → ByFirst w ns v → ByFirst u (ms ++ ns) v
unfolding ByFirst
by-first-append u w v [] ns e b = rw e b
by-first-append u w v (m ∷ ms) ns a b = (a.0, by-first-append (move_words u m.node m.queue m.output) w v ms ns a.1 b)

-- R127: where First names a move, a Drain that has budget, and a ledger word if the move delivers, makes this move and goes on with the words that Move leaves
pub drain-begins : (w : List ℕ) (m : NamedMove) (budget room : ℕ) → found_move (first_answer w) ≡ m ∷ []
    → (drained w (suc budget) (room_before m room)).moves ≡ m ∷ (drain_from (shape w) budget room (move_words w m.node m.queue m.output)).moves
unfolding drained drain_from move_next deliver_next one_more move_refusal
drain-begins w m budget room h = go (ℕ_discrete o deliver)
  where
    S : Shape
    S = shape w

    n : ℕ
    n = m.node

    q : ℕ
    q = m.queue

    o : ℕ
    o = m.output

    both : (network_refusal w ≡ 0) × (move_rules S w n q o ≡ 0)
    both = neither (network_refusal w) (move_rules S w n q o) (named-permits w m h)

    on : ℕ → List ℕ → Progress
    on room' w' = drain_from S budget room' w'

    next : (room' : ℕ) → drain_from S (suc budget) room' w ≡ move_next S w room' (Some (move_of n q o)) on
    next room' =
        rw (ne_eqb (packets_held S w) 0 (held-some S w n q o (permitted-of S w n q o both.1)))
        (ap (λ (x : Option NamedMove). move_next S w room' x on) (named-search w m both.0 h))

    go : Dec (o ≡ deliver) → (drain_from S (suc budget) (cond (eqb o deliver) (suc room) room) w).moves ≡ m ∷ (drain_from S budget room (move_words w n q o)).moves
    go (yes e) =
        rw (eq-eqb o deliver e)
        (ap (λ (r : Progress). r.moves) (next (suc room))
        ∙ rw (eq-eqb o deliver e) (ap (λ (x : ℕ). move_of n q x ∷ (on room (after_move S w n q x)).moves) (sym e))
        ∙ ap (λ (v : List ℕ). m ∷ (on room v).moves) (sym (named-after w m h)))
    go (no ne) =
        rw (ne_eqb o deliver ne)
        (ap (λ (r : Progress). r.moves) (next room)
        ∙ rw (ne_eqb o deliver ne) (ap (λ (v : List ℕ). m ∷ (on room v).moves) (sym (named-after w m h))))
