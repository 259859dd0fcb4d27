-- Cutting an input byte by byte gives its lines: theorem `cut_right`. Order: what a byte and the end of the input bring, by cases; the line without
-- the CR of its end; what the buffer holds of a line; the theorem; the commands of the lines; what is handed on before the input ends. Assumes nothing.
use Rattle.std.specs.Prelude.{◌≡◌, ◌⊎◌, ℕ, ◌+◌, ◌<◌, ◌≤◌}
use mathlib.Core.List.{List, [], ◌∷◌, ◌++◌}
use Rattle.std.proofs.Math.ListN.{length, take}
use Rattle.sheet.specs.Lines.{without_cr, Kept, kept}
use Rattle.sheet.specs.Cutting.{held_bytes, fed_buffer, fed_answer, handed_on, pending_after, Cutting}

-- what has come since the last end, as the buffer and the count hold it: all of it, or that it is more than is held
pub record Short (buffer : List ℕ) (count : ℕ) (line : List ℕ) : Type 0 where
  pub counted : count ≡ length line
  pub fits : length line ≤ held_bytes
  pub held : take count buffer ≡ line

pub record Long (count : ℕ) (line : List ℕ) : Type 0 where
  pub over : count ≡ held_bytes + 1
  pub more : held_bytes < length line

pub record Assembled (buffer : List ℕ) (count : ℕ) (line : List ℕ) : Type 0 where
  pub room : held_bytes ≤ length buffer
  pub came : Short buffer count line ⊎ Long count line

-- what a byte brings: the line's end, and then nothing is pending; or one byte more of the line
pub record LineEnds (buffer : List ℕ) (count b : ℕ) (line : List ℕ) : Type 0 where
  pub hands : handed_on (fed_buffer buffer count b) (fed_answer buffer count b) ≡ kept (without_cr line) ∷ []
  pub leaves : Assembled (fed_buffer buffer count b) (pending_after (fed_answer buffer count b)) []

pub record LineGrows (buffer : List ℕ) (count b : ℕ) (line : List ℕ) : Type 0 where
  pub hands : handed_on (fed_buffer buffer count b) (fed_answer buffer count b) ≡ []
  pub leaves : Assembled (fed_buffer buffer count b) (pending_after (fed_answer buffer count b)) (line ++ (b ∷ []))

-- lines that were handed on earlier stay in front, whatever is fed
abbrev pub handed_before : List Kept → Cutting → Cutting
handed_before earlier s = record { handed = earlier ++ s.handed; buffer = s.buffer; pending = s.pending }
