-- Laws of a dump's bytes. Order: the fills of the first queues, and of a network; variables' lines; changes and their lines; lists that give the same
-- step. Assumes nothing.
use Rattle.std.specs.Prelude.{List, ℕ, get_or}
use Rattle.waveform.specs.Dump.{Change}

-- the change that variable i tells if it tells one
abbrev pub change_at : List ℕ → ℕ → Change
change_at counts i = record { variable = i; fill = get_or counts i 0 }
