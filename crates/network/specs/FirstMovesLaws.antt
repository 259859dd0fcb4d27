-- Moves that First names one after the other (FirstMoves.antt). Order: they are permitted moves; one of them, and more behind others; how a Drain begins and goes
-- on. Assumes nothing.
use Rattle.std.specs.Prelude.{cond, ℕ, suc, eqb}
use Rattle.network.specs.declared.NamedMove.{NamedMove}
use Rattle.network.specs.Routes.{deliver}

-- How a Drain begins and goes on ----------------------------------------------------------------------------------------------------------

-- the ledger words that there are before a move if `room` are left behind it
abbrev pub room_before : NamedMove → ℕ → ℕ
room_before m room = cond (eqb m.output deliver) (suc room) room
