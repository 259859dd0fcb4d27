-- What the helpers of R421 state, said without them, by the place of a call in the list of calls: no list of fills goes from call to call here. Order: the step of
-- a place; calls that are written (`WrittenAll`); their steps (`steps_of`); what is read (`read_all`); R421 once more. Assumes nothing.
use Rattle.std.specs.Prelude.{◌≡◌, refl, ◌↔◌, Bool, true, false, List, [], ◌∷◌, ◌++◌, map, ℕ, zero, suc, ◌<◌, ◌≤◌, get_or, take}
use Rattle.std.proofs.Math.Path.{ap}
use Rattle.std.proofs.Common.{ap₂, sym, ◌∙◌, subst, true≢false, suc-le-suc, le_of_suc-le-suc, not-suc-le-zero, arith, eq-eqb}
use Rattle.std.proofs.Math.ListN.{length, drop, get_or-append, get_or-map}
use Rattle.std.proofs.lemmas.List.{length-map}
use Rattle.std.proofs.Math.Seq.{take-append_seam}
use Rattle.network.specs.Sizes.{Shape}
use Rattle.network.specs.Layout.{shape, moves_made}
use Rattle.waveform.specs.Dump.{variables_of, fills, step_bytes}
use Rattle.waveform.specs.Calls.{written_step, write_refusal, write_answer, write_page, write_list, written_length, read_list}
use Rattle.waveform.proofs.DumpLaws.{fills-length, step_same}
use Rattle.waveform.proofs.CallsLaws.{write-exactly, list_length}
use Rattle.waveform.specs.Theorem.{Call, WrittenAll, steps_of, Told, read_all, DumpRead}
use Rattle.waveform.proofs.Theorem.{dump-read}
use Rattle.waveform.specs.TheoremLaws.{no_call, words_at, bytes_from, bytes_at, Fits, Each, none_told, answered, list_before, fills_before}

-- the first call is done: the steps of the others, by a list that begins with its fills
bytes-later : (S : Shape) (first : Bool) (list rest : List ℕ) (c : Call) (cs : List Call) (i : ℕ)
    → bytes_from S false (fills S c.words ++ rest) cs i ≡ bytes_from S first list (c ∷ cs) (suc i)
unfolding bytes_from
bytes-later S first list rest c cs zero =
    let w : List ℕ = words_at cs 0 in
    let m : length (fills S w) ≡ variables_of S = fills-length S w in
    let l : length (fills S c.words) ≡ variables_of S = fills-length S c.words in
    step_same false (moves_made w) (fills S w) (fills S c.words ++ rest) (fills S c.words)
    (λ j h f. get_or-append (fills S c.words) rest 0 j (omega arith))
bytes-later S first list rest c cs (suc i) = refl

bytes-first : (S : Shape) (list list' : List ℕ) (cs : List Call) (i : ℕ) → bytes_from S true list cs i ≡ bytes_from S true list' cs i
unfolding bytes_from
bytes-first S list list' cs zero =
    step_same true (moves_made (words_at cs 0)) (fills S (words_at cs 0)) list list' (λ j h f. absurd (true≢false f))
bytes-first S list list' cs (suc i) = refl

-- the first call, and the list that it leaves
module _ (S : Shape) (first : Bool) (list : List ℕ) (c : Call) (cs : List Call) (sized : shape c.words ≡ S) where
  here : length (written_step first c.words list) ≡ length (bytes_from S first list (c ∷ cs) 0)
  unfolding written_step bytes_from
  here = ap (λ T. length (step_bytes first (moves_made c.words) (fills T c.words) list)) sized

  left : write_refusal first c.words list c.page ≡ 0 → write_list first c.words list c.page ≡ fills S c.words ++ drop (variables_of S) list
  unfolding write_list
  left z =
      rw (eq-eqb (write_refusal first c.words list c.page) 0 z) (ap (λ T. fills T c.words ++ drop (variables_of T) list) sized)

  later : (z : write_refusal first c.words list c.page ≡ 0) (i : ℕ)
      → bytes_from S false (write_list first c.words list c.page) cs i ≡ bytes_from S first list (c ∷ cs) (suc i)
  later z i = ap (λ l. bytes_from S false l cs i) (left z) ∙ bytes-later S first list (drop (variables_of S) list) c cs i

fits-same : (S : Shape) (list list' : List ℕ) (c : Call) (bytes bytes' : List ℕ) → length list ≡ length list' → bytes ≡ bytes' → Fits S list c bytes
    → Fits S list' c bytes'
fits-same S list list' c bytes bytes' l e f =
    record {
      sized = f.sized;
      passes = f.passes;
      list-room = subst (λ n. variables_of S ≤ n) l f.list-room;
      page-room = subst (λ b. length b ≤ length c.page) e f.page-room;
    }

each-written : (S : Shape) (first : Bool) (list : List ℕ) (cs : List Call) → WrittenAll S first list cs → Each S first list cs
unfolding WrittenAll
each-written S first list [] all i h = absurd (not-suc-le-zero h)
each-written S first list (c ∷ cs) (sized, z, all) zero h =
    let (passed, list-room, page-room) = (write-exactly first c.words list c.page).0 z in
    record {
      sized = sized;
      passes = passed;
      list-room = subst (λ T. variables_of T ≤ length list) sized list-room;
      page-room = subst (λ n. n ≤ length c.page) (here S first list c cs sized) page-room;
    }
each-written S first list (c ∷ cs) (sized, z, all) (suc i) h =
    let next : List ℕ = write_list first c.words list c.page in
    fits-same S next list (get_or cs i no_call) (bytes_from S false next cs i) (bytes_from S first list (c ∷ cs) (suc i))
    (list_length first c.words list c.page) (later S first list c cs sized z i)
    (each-written S false next cs all i (le_of_suc-le-suc h))

written-each : (S : Shape) (first : Bool) (list : List ℕ) (cs : List Call) → Each S first list cs → WrittenAll S first list cs
unfolding WrittenAll
written-each S first list [] each = tt
written-each S first list (c ∷ cs) each =
    let f : Fits S list c (bytes_from S first list (c ∷ cs) 0) = each 0 (omega arith) in
    let next : List ℕ = write_list first c.words list c.page in
    let z : write_refusal first c.words list c.page ≡ 0
    = (write-exactly first c.words list c.page).1 (
      f.passes,
      subst (λ T. variables_of T ≤ length list) (sym f.sized) f.list-room,
      subst (λ n. n ≤ length c.page) (sym (here S first list c cs f.sized)) f.page-room,
    ) in (
      f.sized,
      z,
      written-each S false next cs
          (λ i h. fits-same S list next (get_or cs i no_call) (bytes_from S first list (c ∷ cs) (suc i)) (bytes_from S false next cs i)
          (sym (list_length first c.words list c.page)) (sym (later S first list c cs f.sized z i))
          (each (suc i) (suc-le-suc h))),
    )

-- `WrittenAll`, of a dump: each call by itself
pub written-exactly : (S : Shape) (list : List ℕ) (cs : List Call)
    → WrittenAll S true list cs ↔ ((i : ℕ) → i < length cs → Fits S list (get_or cs i no_call) (bytes_at S cs i))
written-exactly S list cs = (
  (λ all i h. fits-same S list list (get_or cs i no_call) (bytes_from S true list cs i) (bytes_at S cs i) refl (bytes-first S list [] cs i)
      (each-written S true list cs all i h)),
  (λ each. written-each S true list cs
      (λ i h. fits-same S list list (get_or cs i no_call) (bytes_at S cs i) (bytes_from S true list cs i) refl (bytes-first S [] list cs i) (each i h))),
)

-- `steps_of` --------------------------------------------------------------------------------------------------------------------------------

-- as many as there are calls
pub steps-number : (first : Bool) (list : List ℕ) (cs : List Call) → length (steps_of first list cs) ≡ length cs
unfolding steps_of
steps-number first list [] = refl
steps-number first list (c ∷ cs) = ap suc (steps-number false (write_list first c.words list c.page) cs)

step-front : (first : Bool) (w list page : List ℕ) → write_refusal first w list page ≡ 0
    → take (written_length (write_answer first w list page)) (write_page first w list page) ≡ written_step first w list
unfolding write_answer write_page written_length
step-front first w list page z =
    rw (eq-eqb (write_refusal first w list page) 0 z) (take-append_seam (written_step first w list) (drop (length (written_step first w list)) page))

step_from : (S : Shape) (first : Bool) (list : List ℕ) (cs : List Call) → WrittenAll S first list cs → (i : ℕ) → i < length cs
    → get_or (steps_of first list cs) i [] ≡ bytes_from S first list cs i
unfolding WrittenAll steps_of written_step bytes_from
step_from S first list [] all i h = absurd (not-suc-le-zero h)
step_from S first list (c ∷ cs) (sized, z, all) zero h = step-front first c.words list c.page z ∙ bytes sized
  where
    bytes : shape c.words ≡ S → written_step first c.words list ≡ bytes_from S first list (c ∷ cs) 0
    bytes sized = ap (λ T. step_bytes first (moves_made c.words) (fills T c.words) list) sized
step_from S first list (c ∷ cs) (sized, z, all) (suc i) h =
    step_from S false (write_list first c.words list c.page) cs all i (le_of_suc-le-suc h) ∙ later S first list c cs sized z i

-- step i is the header of the first words, or what has changed since the words before
pub steps-at : (S : Shape) (list : List ℕ) (cs : List Call) → WrittenAll S true list cs → (i : ℕ) → i < length cs
    → get_or (steps_of true list cs) i [] ≡ bytes_at S cs i
steps-at S list cs all i h = step_from S true list cs all i h ∙ bytes-first S list [] cs i

pub read_all-length : (list : List ℕ) (steps : List (List ℕ)) → length (read_all list steps) ≡ length steps
unfolding read_all
read_all-length list [] = refl
read_all-length list (step ∷ steps) = ap suc (read_all-length (read_list step list) steps)

pub read_at : (list : List ℕ) (steps : List (List ℕ)) (i : ℕ) → i < length steps
    → get_or (read_all list steps) i none_told ≡ answered (get_or steps i []) (list_before list (read_all list steps) i)
unfolding read_all list_before
read_at list [] i h = absurd (not-suc-le-zero h)
read_at list (step ∷ steps) zero h = refl
read_at list (step ∷ steps) (suc i) h =
    read_at (read_list step list) steps i (le_of_suc-le-suc h) ∙ ap (answered (get_or steps i [])) (before i)
  where
    before : (k : ℕ) → list_before (read_list step list) (read_all (read_list step list) steps) k ≡ list_before list (answered step list ∷ read_all (read_list step list) steps) (suc k)
    before zero = refl
    before (suc k) = refl

-- R421 once more ---------------------------------------------------------------------------------------------------------------------------

-- an element within the list does not hang on the default
default : (ts : List Told) (k : ℕ) (d e : Told) → k < length ts → get_or ts k d ≡ get_or ts k e
default [] k d e h = absurd (not-suc-le-zero h)
default (t ∷ ts) zero d e h = refl
default (t ∷ ts) (suc k) d e h = default ts k d e (le_of_suc-le-suc h)

-- ReadStep, given step i and the list that it has then, answers 0 and the moves made, and leaves the fills
pub DumpInPlaces : Type 0
DumpInPlaces =
    (S : Shape) (list list' : List ℕ) (cs : List Call)
    → ((i : ℕ) → i < length cs → Fits S list (get_or cs i no_call) (bytes_at S cs i))
    → variables_of S ≤ length list'
    → (i : ℕ)
    → i < length cs
    → answered (bytes_at S cs i) (fills_before S list' cs i)
    ≡ record { number = 0; time = moves_made (words_at cs i); list = fills_before S list' cs (suc i) }

pub dump-in-places : DumpInPlaces
unfolding DumpInPlaces DumpRead list_before fills_before
dump-in-places S list list' cs each room i h =
    sym (ap₂ answered (steps-at S list cs all i h) (before i h))
    ∙ sym (read_at list' steps i (let n = steps-number true list cs in omega arith))
    ∙ is i h
  where
    all : WrittenAll S true list cs
    all = (written-exactly S list cs).1 each

    steps : List (List ℕ)
    steps = steps_of true list cs

    expected : Call → Told
    expected c = record { number = 0; time = moves_made c.words; list = fills S c.words ++ drop (variables_of S) list' }

    -- what is read, place by place
    is : (k : ℕ) → k < length cs → get_or (read_all list' steps) k none_told ≡ record { number = 0; time = moves_made (words_at cs k); list = fills_before S list' cs (suc k) }
    is k l =
        ap (λ (ts : List Told). get_or ts k none_told) (dump-read S list list' cs all room)
        ∙ default (map expected cs) k none_told (expected no_call) (let n = length-map cs expected in omega arith)
        ∙ get_or-map expected cs k no_call

    before : (k : ℕ) → k < length cs → list_before list' (read_all list' steps) k ≡ fills_before S list' cs k
    before zero l = refl
    before (suc k) l = ap (λ (t : Told). t.list) (is k (omega arith))
