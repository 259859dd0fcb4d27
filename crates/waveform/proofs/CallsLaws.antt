-- What the helpers of the calls that write and read a step state, said without them. Order: when a step is written (R413); what is left then (R406, R411, R414);
-- when a step is read (R417, R418). Assumes nothing.
use Rattle.std.specs.Prelude.{◌≡◌, refl, ◌↔◌, Bool, true, false, not, cond, ◌||◌, List, ◌++◌, ℕ, ◌/◌, ◌%◌, ◌<◌, ◌≤◌, eqb, ltb, length, get_or, drop}
use Rattle.std.proofs.Common.{ap, ◌∙◌, true≢false, arith, eq-eqb, ne_eqb, le-ltb, ltb-false, eqb-true, length-append, length-drop, drop_at}
use Rattle.std.proofs.lemmas.Bool.{false≢true}
use Rattle.std.proofs.Math.Decide.{ℕ_discrete}
use Rattle.std.proofs.Math.ListN.{get_or-append}
use Rattle.std.proofs.Math.Seq.{drop-append_seam}
use Rattle.network.specs.Layout.{shape, held}
use Rattle.network.specs.Refusals.{network_refusal, refuse, bad_line, short_page}
use Rattle.network.proofs.RefusalLaws.{not-refused, neither}
use Rattle.network.specs.Calls.{unless_refused}
use Rattle.waveform.specs.Dump.{variables_of, fills, Change}
use Rattle.waveform.specs.Reading.{Step, read_step, needed}
use Rattle.waveform.specs.Calls.{fills_now, written_step, write_rules, write_refusal, write_answer, write_page, write_list, read_refusal, written_length}
use Rattle.waveform.proofs.DumpLaws.{fills_to-at, fills-length}
use Rattle.waveform.specs.Lengths.{page_room}
use Rattle.waveform.proofs.Lengths.{step_room}
use Rattle.waveform.specs.ReadingLaws.{step_of}
use Rattle.waveform.specs.Exact.{StepIn, OnlySteps}
use Rattle.waveform.proofs.Exact.{only-steps, every-step}
use Rattle.waveform.specs.ChangesLaws.{IsTold}
use Rattle.waveform.proofs.ChangesLaws.{needed-exactly}

-- When a step is written (R413) -----------------------------------------------------------------------------------------------------------

neither-holds : (a b : Bool) → a || b ≡ false → (a ≡ false) × (b ≡ false)
neither-holds true b e = absurd (true≢false e)
neither-holds false b e = (refl, e)

-- `write_refusal`, `write_rules`: it is 0 where the words pass the check, the list has a byte for each queue and the page one for each of the step
pub write-exactly : (first : Bool) (w list page : List ℕ)
    → (write_refusal first w list page ≡ 0)
    ↔ ((network_refusal w ≡ 0) × (variables_of (shape w) ≤ length list) × (length (written_step first w list) ≤ length page))
unfolding write_refusal write_rules
write-exactly first w list page = (of, by)
  where
    variables : ℕ
    variables = variables_of (shape w)

    bytes : ℕ
    bytes = length (written_step first w list)

    of : write_refusal first w list page ≡ 0 → (network_refusal w ≡ 0) × (variables ≤ length list) × (bytes ≤ length page)
    of z =
        let (passed, rules) = neither (network_refusal w) _ z in
        let (none, rest) = not-refused (ltb (length list) variables || ltb (length page) bytes) 14 _ rules in
        let (a, b) = neither-holds (ltb (length list) variables) (ltb (length page) bytes) none in
        (passed, ltb-false (length list) variables a, ltb-false (length page) bytes b)

    by : (network_refusal w ≡ 0) × (variables ≤ length list) × (bytes ≤ length page) → write_refusal first w list page ≡ 0
    by (passed, a, b) = rw (eq-eqb (network_refusal w) 0 passed, le-ltb (length list) variables a, le-ltb (length page) bytes b) refl

-- a page of 120 bytes and 48 more for each queue is never refused
pub page-enough : (first : Bool) (w list page : List ℕ) → network_refusal w ≡ 0 → variables_of (shape w) ≤ length list
    → page_room (variables_of (shape w)) ≤ length page
    → write_refusal first w list page ≡ 0
page-enough first w list page passed room long =
    (write-exactly first w list page).1 (passed, room, let h = step_room first w list passed in omega arith)

-- What is left then (R406, R411, R414) -----------------------------------------------------------------------------------------------------

-- n elements in front of what is lent, put there unless a call is refused: what is behind them stays, and as many as there were
module _ (refusal : ℕ) (front lent : List ℕ) (n : ℕ) (long : length front ≡ n) where
  same-behind : drop n (unless_refused refusal (front ++ drop n lent) lent) ≡ drop n lent
  same-behind = go (eqb refusal 0)
    where
      go : (b : Bool) → drop n (cond b (front ++ drop n lent) lent) ≡ drop n lent
      go true = drop_at front (drop n lent) n long
      go false = refl

  same_length : (refusal ≡ 0 → n ≤ length lent) → length (unless_refused refusal (front ++ drop n lent) lent) ≡ length lent
  same_length room = go (eqb refusal 0) refl
    where
      go : (b : Bool) → eqb refusal 0 ≡ b → length (cond b (front ++ drop n lent) lent) ≡ length lent
      go true e =
          let h : n ≤ length lent = room (eqb-true refusal 0 e) in
          let a = length-append front (drop n lent) in
          let d = length-drop n lent in
          omega (arith, long)
      go false e = refl

-- `write_page`: as long as it was, and the same behind the step; refused, a step has no bytes
pub page-length : (first : Bool) (w list page : List ℕ) → length (write_page first w list page) ≡ length page
unfolding write_page
page-length first w list page =
    same_length (write_refusal first w list page) (written_step first w list) page (length (written_step first w list)) refl
    (λ z. ((write-exactly first w list page).0 z).2)

pub page-behind : (first : Bool) (w list page : List ℕ)
    → drop (written_length (write_answer first w list page)) (write_page first w list page) ≡ drop (written_length (write_answer first w list page)) page
unfolding write_answer write_page written_length
page-behind first w list page = go (ℕ_discrete refusal 0)
  where
    refusal : ℕ
    refusal = write_refusal first w list page

    go : Dec (refusal ≡ 0)
        → drop (written_length (write_answer first w list page)) (write_page first w list page) ≡ drop (written_length (write_answer first w list page)) page
    go (yes z) = rw (eq-eqb refusal 0 z) (drop-append_seam (written_step first w list) _)
    go (no ne) = rw (ne_eqb refusal 0 ne) refl

-- `write_list`: as long as it was, the same behind the fills, and in place 13 · n + q the packets that queue q of node n holds
pub list_length : (first : Bool) (w list page : List ℕ) → length (write_list first w list page) ≡ length list
unfolding write_list
list_length first w list page =
    same_length (write_refusal first w list page) (fills_now w) list (variables_of (shape w)) (fills-length (shape w) w)
    (λ z. ((write-exactly first w list page).0 z).1)

pub list-behind : (first : Bool) (w list page : List ℕ) → drop (variables_of (shape w)) (write_list first w list page) ≡ drop (variables_of (shape w)) list
unfolding write_list
list-behind first w list page = same-behind (write_refusal first w list page) (fills_now w) list (variables_of (shape w)) (fills-length (shape w) w)

pub list_at : (first : Bool) (w list page : List ℕ) (i : ℕ) → write_refusal first w list page ≡ 0 → i < variables_of (shape w)
    → get_or (write_list first w list page) i 0 ≡ length (held (shape w) w (i / 13) (i % 13))
unfolding write_list fills
list_at first w list page i z h =
    let l : length (fills_now w) ≡ variables_of (shape w) = fills-length (shape w) w in
    rw (eq-eqb (write_refusal first w list page) 0 z)
    (get_or-append (fills_now w) (drop (variables_of (shape w)) list) 0 i (omega arith) ∙ fills_to-at (shape w) w (variables_of (shape w)) i h)

-- When a step is read (R417, R418) ---------------------------------------------------------------------------------------------------------

-- the same facts of the step that has these parts
same_step : (bytes : List ℕ) (s : Step) → StepIn bytes s → StepIn bytes (step_of s.header s.time s.changes)
same_step bytes s i = record { bytes = i.bytes; early = i.early; rising = i.rising; all = i.all }

is-good : (bytes : List ℕ) (s : Step) → StepIn bytes s → (read_step bytes).good ≡ true
is-good bytes s i = ap (λ (r : Step). r.good) (every-step bytes s.header s.time s.changes (same_step bytes s i))

-- `read_refusal` is 13 where the bytes are those of no step of the subset
pub bad-exactly : (bytes list : List ℕ) → (read_refusal bytes list ≡ bad_line) ↔ ((s : Step) → StepIn bytes s → ⊥)
unfolding read_refusal OnlySteps
bad-exactly bytes list = ((λ z s i. of (read_step bytes).good (is-good bytes s i) z), by (read_step bytes).good refl)
  where
    short : ℕ
    short = refuse (ltb (length list) (needed (read_step bytes).changes)) short_page 0

    no-thirteen : (b : Bool) → refuse b short_page 0 ≡ bad_line → ⊥
    no-thirteen true z = omega arith
    no-thirteen false z = omega arith

    of : (good : Bool) → good ≡ true → refuse (not good) bad_line short ≡ bad_line → ⊥
    of true e z = no-thirteen (ltb (length list) (needed (read_step bytes).changes)) z
    of false e z = false≢true e

    by : (good : Bool) → (read_step bytes).good ≡ good → ((s : Step) → StepIn bytes s → ⊥) → refuse (not good) bad_line short ≡ bad_line
    by true e none = absurd (none (read_step bytes) (only-steps bytes e))
    by false e none = refl

-- and 0 where they are those of a step all of whose variables stand in the list
pub read-exactly : (bytes list : List ℕ)
    → (read_refusal bytes list ≡ 0)
    ↔ ((s : Step) × StepIn bytes s × ((c : Change) → IsTold c s.changes → c.variable < length list))
unfolding read_refusal OnlySteps
read-exactly bytes list = (of (read_step bytes).good refl, by)
  where
    n : ℕ
    n = needed (read_step bytes).changes

    In : Type 0
    In = (s : Step) × StepIn bytes s × ((c : Change) → IsTold c s.changes → c.variable < length list)

    of : (good : Bool) → (read_step bytes).good ≡ good → refuse (not good) bad_line (refuse (ltb (length list) n) short_page 0) ≡ 0 → In
    of true e z =
        let i : StepIn bytes (read_step bytes) = only-steps bytes e in
        let (room, rest) = not-refused (ltb (length list) n) 14 0 z in
        (read_step bytes, i, (needed-exactly (read_step bytes).changes (length list) i.rising).0 (ltb-false (length list) n room))
    of false e z = absurd (omega arith)

    by : In → refuse (not (read_step bytes).good) bad_line (refuse (ltb (length list) n) short_page 0) ≡ 0
    by (s, i, within) =
        let is : read_step bytes ≡ step_of s.header s.time s.changes = every-step bytes s.header s.time s.changes (same_step bytes s i) in
        rw is (rw (le-ltb (length list) (needed s.changes) ((needed-exactly s.changes (length list) i.rising).1 within)))
