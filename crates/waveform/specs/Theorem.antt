-- R421, R422: a dump written step after step and read step after step. Order: calls of the writer one after another; the reader's; what is read is what was
-- written; no step is refused as outside the subset; then the proofs of both. Assumes nothing.
use Rattle.std.specs.Prelude.{◌≡◌, ◌≢◌, Bool, true, false, List, [], ◌∷◌, ◌++◌, map, ℕ, ◌<◌, ◌≤◌, length, get_or, take, drop}
use Rattle.network.specs.Sizes.{Shape}
use Rattle.network.specs.Layout.{shape, moves_made}
use Rattle.network.specs.Refusals.{network_refusal, bad_line}
use Rattle.waveform.specs.Dump.{variables_of, fills}
use Rattle.waveform.specs.Calls.{write_refusal, write_answer, write_page, write_list, written_length, written_step, read_answer, read_list, read_number, read_time}

-- a call of the writer: the words and the page that it is lent
pub record Call : Type 0 where
  pub words : List ℕ
  pub page : List ℕ

-- each call in turn passes the check with the same sizes, and finds page and list long enough; the first one writes a header
unfoldable pub WrittenAll : Shape → Bool → List ℕ → List Call → Type 0
WrittenAll S first list [] = Unit
WrittenAll S first list (c ∷ cs) =
    (shape c.words ≡ S)
    × (write_refusal first c.words list c.page ≡ 0)
    × WrittenAll S false (write_list first c.words list c.page) cs

-- the steps: of each page as many bytes as the call answers
unfoldable pub steps_of : Bool → List ℕ → List Call → List (List ℕ)
steps_of first list [] = []
steps_of first list (c ∷ cs) =
    take (written_length (write_answer first c.words list c.page)) (write_page first c.words list c.page)
    ∷ steps_of false (write_list first c.words list c.page) cs

-- what the reader answers to each step, and its list then
pub record Told : Type 0 where
  pub number : ℕ
  pub time : ℕ
  pub list : List ℕ

unfoldable pub read_all : List ℕ → List (List ℕ) → List Told
read_all list [] = []
read_all list (step ∷ steps) =
    record { number = read_number (read_answer step list); time = read_time (read_answer step list); list = read_list step list }
    ∷ read_all (read_list step list) steps

-- R421: whatever both lists hold at the start, after every step the reader's list begins with the fills of the words at that step, and the time is their moves
unfoldable pub DumpRead : Type 0
DumpRead =
    (S : Shape) (list list' : List ℕ) (cs : List Call)
    → WrittenAll S true list cs
    → variables_of S ≤ length list'
    → read_all list' (steps_of true list cs)
    ≡ map (λ (c : Call). record { number = 0; time = moves_made c.words; list = fills S c.words ++ drop (variables_of S) list' }) cs

-- R422: whatever the lists hold and however long they are
unfoldable pub NeverBad : Type 0
NeverBad =
    (first : Bool) (w list list' : List ℕ) → network_refusal w ≡ 0 → read_number (read_answer (written_step first w list) list') ≢ bad_line

-- what the reader answers, and its list then
abbrev pub told : List ℕ → List ℕ → Told
told step list = record { number = read_number (read_answer step list); time = read_time (read_answer step list); list = read_list step list }

-- the writer's list and the reader's agree on the variables, or a header is to be written
abbrev pub Agree : Shape → Bool → List ℕ → List ℕ → Type 0
Agree S first list list' = (j : ℕ) → j < variables_of S → first ≡ false → get_or list j 0 ≡ get_or list' j 0

-- what is to be told of the words, where `rest` is what the reader's list has behind the variables
abbrev pub told_of : Shape → List ℕ → List ℕ → Told
told_of S rest w = record { number = 0; time = moves_made w; list = fills S w ++ rest }
