-- `replay::drain_move` meets its contract: the Drain's answer, and the step of the words that it left. Assumes nothing.
use Rattle.std.proofs.Common.{◌≡◌, ◌≢◌, refl, ap, sym, ◌∙◌, true, false, not, List, [], ◌∷◌, ℕ, zero, suc, ◌-◌, ◌≤◌, min, arith, eqb, eq-eqb, ne_eqb, length, take, length-take-le}
use Rattle.network.specs.declared.Drained.{Drained}
use Rattle.network.specs.Refusals.{numbered}
use Rattle.network.specs.Calls.{Answer, drain_words, drain_answer, drained_moves, drained_delivered}
use Rattle.network.proofs.DrainLaws.{delivered-within}
use Rattle.replay.specs.Replay.{Shown, shown, step_shown, one_word, moved_on, makes_move, room_left, move_shown}
use Rattle.replay.specs.Steps.{bytes_shown}
use Rattle.replay.proofs.Whole.{shown-some, shown-none, step-within}
use Rattle.replay.proofs.drain_move.Goals as goal
use Rattle.replay.proofs.drain_move.Goals.{After-min-words}

-- a single word is lent at most, and no more than are left
word : (room : ℕ) → min room 1 ≡ one_word room
unfolding one_word
word zero = refl
word (suc room) = omega arith

-- the words that are lent are as many as a single move may have
lent : (c : After-min-words) → length (take {A = ℕ} c.min-words.result (0 ∷ [])) ≡ one_word c.args.room
lent c = length-take-le c.min-words.result (0 ∷ []) (omega arith) ∙ (c.min-words.ensures ∙ word c.args.room)

pub slice_bounds-drain-end : goal.slice_bounds-drain-end
slice_bounds-drain-end c = (c.min-words.ensures ∙ word c.args.room) ∙ sym (lent (goal.at.slice_bounds-drain-end c).After-min-words)

pub overflow_sub-left : goal.overflow_sub-left
overflow_sub-left c =
    let room = c.args.room in
    let within : drained_delivered (numbered c.drain-answer.result) ≤ one_word room
    = rw (c.drain-answer.ensures.answer, lent (goal.at.overflow_sub-left c).After-min-words) (delivered-within _ _ (one_word room)) in
    let few = word room in
    let e = c.drained_delivered.ensures in
    omega arith

-- what a Drain of one move leaves, answers and shows
module _ (w : List ℕ) (room words : ℕ) (answer : Answer Drained) (w' : List ℕ) (moves : ℕ) (e : words ≡ one_word room) (a : answer ≡ drain_answer w 1 words) (b : w' ≡ drain_words w 1 words) (m : moves ≡ drained_moves answer) where
  left : w' ≡ moved_on w room
  unfolding moved_on
  left = b ∙ ap (drain_words w 1) e

  told : answer ≡ drain_answer w 1 (one_word room)
  told = a ∙ ap (drain_answer w 1) e

  made : not (eqb moves 0) ≡ makes_move w room
  unfolding makes_move
  made = ap (λ k. not (eqb k 0)) (m ∙ ap drained_moves told)

  rest : (delivered : ℕ) → delivered ≡ drained_delivered answer → room - delivered ≡ room_left w room
  unfolding room_left
  rest delivered d = ap (λ k. room - k) (d ∙ ap drained_delivered told)

  none : moves ≡ 0 → (false ≡ makes_move w room) × ((list page : List ℕ) → shown 0 list page ≡ move_shown w room list page)
  unfolding move_shown
  none z =
      let idle : false ≡ makes_move w room = sym (ap not (eq-eqb moves 0 z)) ∙ made in
      (idle, λ list page. shown-none _ false (moved_on w room) list page (sym idle))

  some : moves ≢ 0 → (true ≡ makes_move w room) × ((list page : List ℕ) (s : Shown) → s ≡ step_shown false w' list page → (s ≡ move_shown w room list page) × (s.bytes ≤ length page))
  unfolding move_shown
  some n =
      let moving : true ≡ makes_move w room = sym (ap not (ne_eqb moves 0 n)) ∙ made in (
        moving,
        λ list page s h. (
          h ∙ (λ i. step_shown false (left i) list page) ∙ shown-some _ false (moved_on w room) list page (sym moving),
          rw h (step-within false w' list page),
        ),
      )

pub returns-then-moves-eq0 : goal.returns-then-moves-eq0
unfolding bytes_shown
returns-then-moves-eq0 c =
    let e = lent (goal.at.returns-then-moves-eq0 c).After-min-words in
    let call = c.drain-answer.ensures in
    let m = c.drained_moves-moves.ensures in
    let idle = none _ c.args.room _ _ _ _ e call.answer call.words m c.if-moves-eq0.true in
    record { store = left _ c.args.room _ _ _ _ e call.answer call.words m; moved = idle.0; room = tt; shown = idle.1 _ _; within = tt }

pub returns : goal.returns
unfolding bytes_shown
returns c =
    let e = lent (goal.at.returns c).After-min-words in
    let call = c.drain-answer.ensures in
    let m = c.drained_moves-moves.ensures in
    let (moving, shows) = some _ c.args.room _ _ _ _ e call.answer call.words m c.if-moves-eq0.false in
    let step = shows _ _ (shown _ _ _) c.show-bytes.ensures in
    record {
      store = left _ c.args.room _ _ _ _ e call.answer call.words m;
      moved = moving;
      room = rest _ c.args.room _ _ _ _ e call.answer call.words m _ c.drained_delivered.ensures;
      shown = step.0;
      within = step.1;
    }
