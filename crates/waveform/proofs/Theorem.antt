-- R421, R422: a dump written step after step and read step after step. Order: calls of the writer one after another; the reader's; what is read is what was
-- written; no step is refused as outside the subset; then the proofs of both. Assumes nothing.
use Rattle.std.specs.Prelude.{◌≡◌, refl, Bool, true, false, List, [], ◌∷◌, ◌++◌, map, ℕ, ◌%◌, ◌≤◌, ltb, length, take, drop}
use Rattle.std.proofs.Common.{ap, ap₂, sym, ◌∙◌, subst, true≢false, arith, eq-eqb, le-ltb, length-append, drop_at}
use Rattle.std.proofs.Math.ListN.{get_or-append}
use Rattle.std.proofs.Math.Seq.{take-append_seam}
use Rattle.network.specs.Sizes.{Shape, queues}
use Rattle.network.specs.Layout.{shape, moves_made}
use Rattle.network.specs.Refusals.{network_refusal, refuse, bad_line, short_page}
use Rattle.network.proofs.RefusalLaws.{neither}
use Rattle.waveform.specs.Dump.{variables_of, fills, Change, changes}
use Rattle.waveform.specs.Reading.{read_step, needed, applied}
use Rattle.waveform.specs.Calls.{fills_now, write_rules, write_refusal, write_answer, write_page, write_list, written_length, written_step, read_refusal, step_told, read_answer, read_list, read_number, read_time}
use Rattle.waveform.proofs.StepAnswers.{read-tells}
use Rattle.waveform.proofs.DumpLaws.{fills-length, fill-most, variables-most, variables-some, time-most}
use Rattle.waveform.specs.ReadingLaws.{Tellable, step_of}
use Rattle.waveform.proofs.ReadingLaws.{step-read, changes-rise, untold, applied-changes}
use Rattle.waveform.specs.Theorem.{Call, WrittenAll, steps_of, Told, read_all, DumpRead, NeverBad, told, Agree, told_of}

-- Both are proved from here on: a step as the words give it; one call; calls one after another -------------------------

-- what the network's check lets pass can be told
tellable : (w : List ℕ) → network_refusal w ≡ 0 → Tellable (moves_made w) (fills_now w)
tellable w e =
    let l : length (fills_now w) ≡ variables_of (shape w) = fills-length (shape w) w in
    let some = variables-some w e in
    let few = variables-most w e in
    record {
      some = omega arith;
      few = omega arith;
      whole = ap (λ n. n % queues) l ∙ omega arith;
      fills = λ j h. fill-most w e j (omega arith);
      early = time-most w e;
    }

written_read : (first : Bool) (w list : List ℕ) → network_refusal w ≡ 0
    → read_step (written_step first w list) ≡ step_of first (moves_made w) (changes first (fills_now w) list)
unfolding written_step
written_read first w list e = step-read first (moves_made w) (fills_now w) list (tellable w e)

-- R422
pub never-bad : NeverBad
unfolding NeverBad read_refusal
never-bad first w list list' passed bad = go (ltb (length list') (needed cs)) (sym e ∙ bad)
  where
    cs : List Change
    cs = changes first (fills_now w) list

    e : read_number (read_answer (written_step first w list) list') ≡ refuse (ltb (length list') (needed cs)) short_page 0
    e = (read-tells (written_step first w list) list').number ∙ rw (written_read first w list passed) refl

    go : (b : Bool) → refuse b short_page 0 ≡ bad_line → ⊥
    go true z = omega arith
    go false z = omega arith

-- a step that is written is the front of its page
step-written : (first : Bool) (w list page : List ℕ) → write_refusal first w list page ≡ 0
    → take (written_length (write_answer first w list page)) (write_page first w list page) ≡ written_step first w list
unfolding write_answer write_page written_length
step-written first w list page z =
    rw (eq-eqb (write_refusal first w list page) 0 z) (take-append_seam (written_step first w list) (drop (length (written_step first w list)) page))

list_written : (first : Bool) (w list page : List ℕ) → write_refusal first w list page ≡ 0
    → write_list first w list page ≡ fills_now w ++ drop (variables_of (shape w)) list
unfolding write_list
list_written first w list page z = rw (eq-eqb (write_refusal first w list page) 0 z) refl

network-written : (first : Bool) (w list page : List ℕ) → write_refusal first w list page ≡ 0 → network_refusal w ≡ 0
unfolding write_refusal
network-written first w list page z = (neither (network_refusal w) (write_rules first w list page) z).0

read_told : (bytes list : List ℕ) (first : Bool) (time : ℕ) (cs : List Change) → read_step bytes ≡ step_of first time cs → needed cs ≤ length list
    → told bytes list ≡ record { number = 0; time = time; list = applied cs list }
unfolding read_answer read_refusal read_list step_told read_number read_time
read_told bytes list true time cs e h = rw (e, le-ltb (length list) (needed cs) h) refl
read_told bytes list false time cs e h = rw (e, le-ltb (length list) (needed cs) h) refl

told-written : (first : Bool) (w list list' : List ℕ) → network_refusal w ≡ 0 → variables_of (shape w) ≤ length list' → Agree (shape w) first list list'
    → told (written_step first w list) list' ≡ told_of (shape w) (drop (variables_of (shape w)) list') w
unfolding changes
told-written first w list list' passed room agree =
    let l : length (fills_now w) ≡ variables_of (shape w) = fills-length (shape w) w in
    let t : Tellable (moves_made w) (fills_now w) = tellable w passed in
    let (r, n) = changes-rise first (fills_now w) list (length (fills_now w)) t.few t.fills in
    read_told (written_step first w list) list' first (moves_made w) (changes first (fills_now w) list) (written_read first w list passed) (omega arith)
    ∙ ap (λ a. record { number = 0; time = moves_made w; list = a })
    (applied-changes first (fills_now w) list list' (omega arith)
    (λ j h e. let (later, same) = untold first (fills_now w) list j e in same ∙ agree j (omega arith) later))
    ∙ ap (λ m. told_of (shape w) (drop m list') w) l

-- one call and the reading of its step: what is told, and the writer's list
call-told : (S : Shape) (first : Bool) (list list' : List ℕ) (c : Call) → shape c.words ≡ S → write_refusal first c.words list c.page ≡ 0
    → variables_of S ≤ length list' → Agree S first list list'
    → told (take (written_length (write_answer first c.words list c.page)) (write_page first c.words list c.page)) list'
    ≡ told_of S (drop (variables_of S) list') c.words
call-told S first list list' c sized written room agree =
    let w : List ℕ = c.words in
    ap (λ s. told s list') (step-written first w list c.page written)
    ∙ subst
    (λ T. variables_of T ≤ length list' → Agree T first list list' → told (written_step first w list) list' ≡ told_of T (drop (variables_of T) list') w)
    sized
    (told-written first w list list' (network-written first w list c.page written))
    room
    agree

call-list : (S : Shape) (first : Bool) (list : List ℕ) (c : Call) → shape c.words ≡ S → write_refusal first c.words list c.page ≡ 0
    → write_list first c.words list c.page ≡ fills S c.words ++ drop (variables_of S) list
call-list S first list c sized written =
    list_written first c.words list c.page written ∙ ap (λ T. fills T c.words ++ drop (variables_of T) list) sized

-- lists that begin with the fills of the same words agree, and are long enough
module _ (S : Shape) (w : List ℕ) where
  fills-agree : (rest rest' : List ℕ) → Agree S false (fills S w ++ rest) (fills S w ++ rest')
  fills-agree rest rest' j h f =
      let l = fills-length S w in
      get_or-append (fills S w) rest 0 j (omega arith) ∙ sym (get_or-append (fills S w) rest' 0 j (omega arith))

  fills-room : (rest : List ℕ) → variables_of S ≤ length (fills S w ++ rest)
  fills-room rest =
      let l = fills-length S w in
      let a = length-append (fills S w) rest in
      omega arith

  fills-behind : (rest : List ℕ) → drop (variables_of S) (fills S w ++ rest) ≡ rest
  fills-behind rest = drop_at (fills S w) rest (variables_of S) (fills-length S w)

-- calls one after another
calls-told : (S : Shape) (first : Bool) (list list' : List ℕ) (cs : List Call) → WrittenAll S first list cs → variables_of S ≤ length list'
    → Agree S first list list'
    → read_all list' (steps_of first list cs) ≡ map (λ c. told_of S (drop (variables_of S) list') c.words) cs
unfolding WrittenAll steps_of read_all
calls-told S first list list' [] written room agree = refl
calls-told S first list list' (c ∷ cs) (sized, here, later) room agree =
    let w : List ℕ = c.words in
    let next : List ℕ = write_list first w list c.page in
    let step : List ℕ = take (written_length (write_answer first w list c.page)) (write_page first w list c.page) in
    let rest : List ℕ = drop (variables_of S) list in
    let rest' : List ℕ = drop (variables_of S) list' in
    let t : told step list' ≡ told_of S rest' w = call-told S first list list' c sized here room agree in
    let n : next ≡ fills S w ++ rest = call-list S first list c sized here in
    ap₂ (λ a more. a ∷ more) t
    (ap (λ (a : Told). read_all a.list (steps_of false next cs)) t
    ∙ calls-told S false next (fills S w ++ rest') cs later (fills-room S w rest') (subst (λ l. Agree S false l (fills S w ++ rest')) (sym n) (fills-agree S w rest rest'))
    ∙ ap (λ l. map (λ c. told_of S l c.words) cs) (fills-behind S w rest'))

-- R421
pub dump-read : DumpRead
unfolding DumpRead
dump-read S list list' cs written room = calls-told S true list list' cs written room (λ j h f. absurd (true≢false f))
