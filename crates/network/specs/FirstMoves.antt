-- Drain's moves are First's (R127, R208, R225): moves one after the other, each the one that First names in the words by then. Drain computes them by going on
-- (Calls.antt); this says what comes of it. FirstMovesLaws.antt has that a Drain begins so and goes on so, the crate `run` that all of its moves are such, in every
-- run. Order: such moves; a run whose Drains make them. Assumes nothing.
use Rattle.std.specs.Prelude.{◌≡◌, List, [], ◌∷◌, ℕ}
use Rattle.network.specs.declared.NamedMove.{NamedMove}
use Rattle.network.specs.Calls.{move_words, found_move, first_answer}
use Rattle.network.specs.Run.{Call, move, drain, outcome}

-- each move is the one that First names in the words by then, and what Move does leads on
unfoldable pub ByFirst : List ℕ → List NamedMove → List ℕ → Type 0
ByFirst w [] v = w ≡ v
ByFirst w (m ∷ ms) v = (found_move (first_answer w) ≡ m ∷ []) × ByFirst (move_words w m.node m.queue m.output) ms v

-- of a list of calls, each lent the words that the one before it left: the moves of every Drain are such
unfoldable pub DrainsByFirst : List Call → List ℕ → Type 0
DrainsByFirst [] w = Unit
DrainsByFirst (move m ∷ calls) w = DrainsByFirst calls (outcome (move m) w).words
DrainsByFirst (drain budget ledger ∷ calls) w =
    ByFirst w (outcome (drain budget ledger) w).moves (outcome (drain budget ledger) w).words
    × DrainsByFirst calls (outcome (drain budget ledger) w).words
