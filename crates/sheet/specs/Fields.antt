-- Laws of the bytes before a stop, whichever byte stops, for whoever reads a text field by field. Order: one byte; the front of the bytes, with the stop or
-- the end behind it; bytes that were joined with a stop; digits are no stop; a field that starts at a place. Assumes nothing.
use Rattle.std.specs.Prelude.{Bool, not, List, ℕ, ◌+◌, ◌-◌, eqb, length, take, drop}
use Rattle.base.specs.Tests.{all_of}
use Rattle.sheet.specs.Commands.{up_to}

-- no byte is the stop
abbrev pub lacks : ℕ → List ℕ → Bool
lacks stop bs = all_of (λ b. not (eqb b stop)) bs

-- where the field that starts at a place ends, and the field as a part of the text
abbrev pub end_from : ℕ → List ℕ → ℕ → ℕ
end_from stop bs from = from + length (up_to stop (drop from bs))

abbrev pub field_at : ℕ → List ℕ → ℕ → List ℕ
field_at stop bs from = take (end_from stop bs from - from) (drop from bs)
