-- Input cut into lines a byte at a time, as the code does it in bounded memory, and what comes of a whole input that is read in pieces of any size.
-- That this gives the lines of Lines.antt is the theorem `cut_right` in Cuts.antt. Order: a byte; the end of the input; the lines that come of it.
-- Assumes nothing.
use Rattle.std.specs.Prelude.{◌≡◌, cond, List, [], ◌∷◌, ◌++◌, ℕ, ◌+◌, ◌-◌, ltb, eqb, get_or, take, set}
use Rattle.sheet.specs.declared.Pending.{Pending}
use Rattle.sheet.specs.declared.Fed.{Fed}
use Rattle.sheet.specs.Text.{lf, cr}
use Rattle.sheet.specs.Lines.{line_limit, Kept, whole, too_long}

-- the longest line, and a CR that may belong to its end
abbrev pub held_bytes : ℕ
held_bytes = 65

abbrev pub waiting : ℕ → Pending
waiting count = record { count = count }

-- an LF where `count` bytes of the line are in the buffer, or more than it holds
unfoldable pub ended_answer : List ℕ → ℕ → Fed
ended_answer buffer count =
    cond (eqb count 0) (Fed.Line 0)
    (cond (ltb held_bytes count) Fed.TooLong
    (cond (eqb (get_or buffer (count - 1) 0) cr) (Fed.Line (count - 1))
    (cond (ltb line_limit count) Fed.TooLong (Fed.Line count))))

-- a byte: what the buffer is then, and what it brings
unfoldable pub fed_buffer : List ℕ → ℕ → ℕ → List ℕ
fed_buffer buffer count b = cond (eqb b lf) buffer (cond (ltb count held_bytes) (set buffer count b) buffer)

unfoldable pub fed_answer : List ℕ → ℕ → ℕ → Fed
fed_answer buffer count b =
    cond (eqb b lf) (ended_answer buffer count) (Fed.More (waiting (cond (ltb count held_bytes) (count + 1) (held_bytes + 1))))

-- what `feed` leaves in the buffer and answers
pub record ByteFed (before : List ℕ) (count b : ℕ) (after : List ℕ) (answer : Fed) : Type 0 where
  pub leaves : after ≡ fed_buffer before count b
  pub answers : answer ≡ fed_answer before count b

-- the end of the input
unfoldable pub finished_answer : ℕ → Fed
finished_answer count = cond (eqb count 0) (Fed.More (waiting 0)) (cond (ltb line_limit count) Fed.TooLong (Fed.Line count))

-- the line that an answer hands on, if it does, and how many bytes are pending after it
unfoldable pub handed_on : List ℕ → Fed → List Kept
handed_on buffer (Fed.More p) = []
handed_on buffer (Fed.Line n) = whole (take n buffer) ∷ []
handed_on buffer Fed.TooLong = too_long ∷ []

unfoldable pub pending_after : Fed → ℕ
pending_after (Fed.More p) = p.count
pending_after (Fed.Line n) = 0
pending_after Fed.TooLong = 0

-- how far the cutting of an input has come
pub record Cutting : Type 0 where
  pub handed : List Kept
  pub buffer : List ℕ
  pub pending : ℕ

unfoldable pub feed_byte : Cutting → ℕ → Cutting
feed_byte s b = after s (fed_buffer s.buffer s.pending b) (fed_answer s.buffer s.pending b)
  where
    after : Cutting → List ℕ → Fed → Cutting
    after s buffer answer = record { handed = s.handed ++ handed_on buffer answer; buffer = buffer; pending = pending_after answer }

-- the bytes of one read, then those of every read
unfoldable pub feed_bytes : Cutting → List ℕ → Cutting
feed_bytes s [] = s
feed_bytes s (b ∷ bs) = feed_bytes (feed_byte s b) bs

unfoldable pub feed_reads : Cutting → List (List ℕ) → Cutting
feed_reads s [] = s
feed_reads s (bytes ∷ reads) = feed_reads (feed_bytes s bytes) reads

unfoldable pub start_cutting : List ℕ → Cutting
start_cutting buffer = record { handed = []; buffer = buffer; pending = 0 }

-- all the lines that have been handed on where the input ends
unfoldable pub finish_cutting : Cutting → List Kept
finish_cutting s = s.handed ++ handed_on s.buffer (finished_answer s.pending)
