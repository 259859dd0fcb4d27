-- How long the lines and the steps of a dump are. Order: a line; lines one after another; a step, and a page that is never too short for one. Assumes nothing.
use Rattle.std.specs.Prelude.{ℕ, ◌+◌, ◌*◌}

-- a line of a variable that a network may have, and its value's
abbrev pub variable_room : ℕ
variable_room = 32

abbrev pub value_room : ℕ
value_room = 16

-- R413: a page of so many bytes has room for any step of a network with so many variables
abbrev pub page_room : ℕ → ℕ
page_room variables = 120 + 48 * variables
