-- A part of a list of words, from place a up to place e, and the list with that part replaced.
-- Order: the two definitions; their lengths; what is read at a place; the part itself, and what lies outside it; a part put back, a word set, a part put in twice.
-- Assumes nothing.
use Rattle.std.specs.Prelude.{List, ◌++◌, ℕ, ◌-◌, take, drop}

abbrev pub span : List ℕ → ℕ → ℕ → List ℕ
span w a e = take (e - a) (drop a w)

abbrev pub splice : List ℕ → ℕ → ℕ → List ℕ → List ℕ
splice w a e p = take a w ++ (p ++ drop (e - a) (drop a w))
