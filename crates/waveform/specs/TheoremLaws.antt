-- What the helpers of R421 state, said without them, by the place of a call in the list of calls: no list of fills goes from call to call here. Order: the step of
-- a place; calls that are written (`WrittenAll`); their steps (`steps_of`); what is read (`read_all`); R421 once more. Assumes nothing.
use Rattle.std.specs.Prelude.{◌≡◌, Bool, true, false, List, [], ◌++◌, ℕ, zero, suc, ◌<◌, ◌≤◌, get_or}
use Rattle.std.proofs.Math.ListN.{length, drop}
use Rattle.network.specs.Sizes.{Shape}
use Rattle.network.specs.Layout.{shape, moves_made}
use Rattle.network.specs.Refusals.{network_refusal}
use Rattle.waveform.specs.Dump.{variables_of, fills, step_bytes}
use Rattle.waveform.specs.Calls.{read_answer, read_list, read_number, read_time}
use Rattle.waveform.specs.Theorem.{Call, Told}

-- The step of a place ---------------------------------------------------------------------------------------------------------------------

abbrev pub no_call : Call
no_call = record { words = []; page = [] }

abbrev pub words_at : List Call → ℕ → List ℕ
words_at cs i = (get_or cs i no_call).words

-- the first step is by the list at the start, a later one by the fills of the words before it
unfoldable pub bytes_from : Shape → Bool → List ℕ → List Call → ℕ → List ℕ
bytes_from S first list cs zero = step_bytes first (moves_made (words_at cs 0)) (fills S (words_at cs 0)) list
bytes_from S first list cs (suc i) = step_bytes false (moves_made (words_at cs (suc i))) (fills S (words_at cs (suc i))) (fills S (words_at cs i))

-- the steps of a dump: the header does not hang on any list
abbrev pub bytes_at : Shape → List Call → ℕ → List ℕ
bytes_at S cs i = bytes_from S true [] cs i

-- `WrittenAll` -----------------------------------------------------------------------------------------------------------------------------

-- one call: its words have the sizes and pass the check; list and page have room for its step
pub record Fits (S : Shape) (list : List ℕ) (c : Call) (bytes : List ℕ) : Type 0 where
  pub sized : shape c.words ≡ S
  pub passes : network_refusal c.words ≡ 0
  pub list-room : variables_of S ≤ length list
  pub page-room : length bytes ≤ length c.page

abbrev pub Each : Shape → Bool → List ℕ → List Call → Type 0
Each S first list cs = (i : ℕ) → i < length cs → Fits S list (get_or cs i no_call) (bytes_from S first list cs i)

-- `read_all` --------------------------------------------------------------------------------------------------------------------------------

abbrev pub none_told : Told
none_told = record { number = 0; time = 0; list = [] }

-- what ReadStep answers, and the list that it leaves
abbrev pub answered : List ℕ → List ℕ → Told
answered step list = record { number = read_number (read_answer step list); time = read_time (read_answer step list); list = read_list step list }

-- the reader's list before step i: the one that step i − 1 left
unfoldable pub list_before : List ℕ → List Told → ℕ → List ℕ
list_before list ts zero = list
list_before list ts (suc i) = (get_or ts i none_told).list

-- the reader's list before step i of a dump of these words: its own at the start, then the fills of the words before
unfoldable pub fills_before : Shape → List ℕ → List Call → ℕ → List ℕ
fills_before S list' cs zero = list'
fills_before S list' cs (suc i) = fills S (words_at cs i) ++ drop (variables_of S) list'
