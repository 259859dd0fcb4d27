-- Values one after another: a run of them, line by line, and the loops of `read_run` and `apply_run`. Order: any bound of lines serves; what a run needs; one
-- line read at a place; the loop that counts; the loop that puts the fills into the list. Assumes nothing.
use mathlib.Core.Path.{◌≡◌, refl, ap, sym, subst, ◌∙◌}
use Rattle.std.specs.Prelude.{Option, Some, None}
use mathlib.Core.List.{List, [], ◌∷◌}
use Prim.Native.Nat.{ℕ, zero, suc, ◌+◌, ◌<◌, ◌≤◌}
use native.Mathlib.Numerals.{add-one}
use native.Mathlib.Omega.{arith}
use lib.ListN.{length, drop, set, length-drop, length-set}
use lib.Seq.{drop-drop}
use Rattle.waveform.specs.declared.ValueLine.{ValueLine}
use Rattle.waveform.specs.Dump.{most_variables}
use Rattle.waveform.specs.Reading.{is_value_line, read_value, next_value, ValueRun, one_more, no_run, run_within, value_run, needed_from, needed, applied}
use Rattle.dump_reader.specs.Parsing.{RunOf}
use Rattle.dump_reader.proofs.Lines.{onward, onward-drop, Within, next-within}

-- the run that goes on where one has come to variable `from`
abbrev rest : ℕ → List ℕ → ValueRun
rest from bs = run_within (length bs) from bs

within-stop : (n from : ℕ) (bs : List ℕ) → next_value from bs ≡ None → run_within n from bs ≡ no_run
unfolding run_within
within-stop zero from bs e = refl
within-stop (suc n) from bs e = rw e refl

within_more : (n from : ℕ) (bs : List ℕ) (l : ValueLine) → next_value from bs ≡ Some l
    → run_within (suc n) from bs ≡ one_more l (run_within n (suc l.variable) (drop l.length bs))
unfolding run_within
within_more n from bs l e = rw e refl

next-empty : (from : ℕ) (bs : List ℕ) → length bs ≤ 0 → next_value from bs ≡ None
unfolding next_value read_value is_value_line
next-empty from [] h = refl
next-empty from (b ∷ bs) h = absurd (omega arith)

-- any bound that is not below the number of bytes
within-any : (n m from : ℕ) (bs : List ℕ) → length bs ≤ n → length bs ≤ m → run_within n from bs ≡ run_within m from bs
within-any zero m from bs h k = within-stop zero from bs (next-empty from bs h) ∙ sym (within-stop m from bs (next-empty from bs h))
within-any (suc n) zero from bs h k = within-stop (suc n) from bs (next-empty from bs k) ∙ sym (within-stop zero from bs (next-empty from bs k))
within-any (suc n) (suc m) from bs h k =
    go (next_value from bs) refl (λ l p q. within-any n m (suc l.variable) (drop l.length bs) p q)
  where
    next : ℕ → ValueLine → ValueRun
    next lines l = run_within lines (suc l.variable) (drop l.length bs)

    go : (o : Option ValueLine) → next_value from bs ≡ o
        → ((l : ValueLine) → length (drop l.length bs) ≤ n → length (drop l.length bs) ≤ m → next n l ≡ next m l)
        → run_within (suc n) from bs ≡ run_within (suc m) from bs
    go (Some l) e r =
        let s : 1 ≤ l.length = (next-within from bs l e).0.some in
        let d = length-drop l.length bs in
        within_more n from bs l e ∙ ap (one_more l) (r l (omega arith) (omega arith)) ∙ sym (within_more m from bs l e)
    go None e r = within-stop (suc n) from bs e ∙ sym (within-stop (suc m) from bs e)

rest_more : (from : ℕ) (bs : List ℕ) (l : ValueLine) → next_value from bs ≡ Some l → rest from bs ≡ one_more l (rest (suc l.variable) (drop l.length bs))
rest_more from bs l e =
    let d = length-drop l.length bs in
    within-any (length bs) (suc (length bs)) from bs (omega arith) (omega arith)
    ∙ within_more (length bs) from bs l e
    ∙ ap (one_more l) (within-any (length bs) (length (drop l.length bs)) (suc l.variable) (drop l.length bs) (omega arith) (omega arith))

-- what a run needs only grows
needed-grows : (n from : ℕ) (bs : List ℕ) → from ≤ needed_from from (run_within n from bs).changes
unfolding run_within needed_from one_more
needed-grows zero from bs = omega arith
needed-grows (suc n) from bs = go (next_value from bs) refl (λ l. needed-grows n (suc l.variable) (drop l.length bs))
  where
    next : ValueLine → ValueRun
    next l = run_within n (suc l.variable) (drop l.length bs)

    go : (o : Option ValueLine) → next_value from bs ≡ o → ((l : ValueLine) → suc l.variable ≤ needed_from (suc l.variable) (next l).changes)
        → from ≤ needed_from from (run_within (suc n) from bs).changes
    go (Some l) e h = let m = (next-within from bs l e).1 in let r = h l in rw (within_more n from bs l e) (omega arith)
    go None e h = rw (within-stop (suc n) from bs e) (omega arith)

-- a line that goes on with a run ends among the bytes, and its variable is one of those of the largest network
pub record LineContinues (bs : List ℕ) (at : ℕ) (line : ValueLine) : Type 0 where
  pub within : at + line.length ≤ length bs
  pub some : 1 ≤ line.length
  pub small : line.variable < most_variables

-- a line read at a place, where the run has come to variable `from`
module _ (bs : List ℕ) (at from : ℕ) {read : Option ValueLine} (r : read ≡ next_value from (onward bs at)) where
  read-there : next_value from (drop at bs) ≡ read
  read-there = sym (r ∙ ap (next_value from) (onward-drop bs at))

  rest-stop : read ≡ None → rest from (drop at bs) ≡ no_run
  rest-stop e = within-stop (length (drop at bs)) from (drop at bs) (read-there ∙ e)

  module _ (line : ValueLine) (e : read ≡ Some line) where
    rest-next : rest from (drop at bs) ≡ one_more line (rest (line.variable + 1) (drop (at + line.length) bs))
    rest-next =
        rest_more from (drop at bs) line (read-there ∙ e)
        ∙ ap (λ s. one_more line (rest (suc line.variable) s)) (drop-drop line.length at bs)
        ∙ ap (λ n. one_more line (rest n (drop (at + line.length) bs))) (sym (add-one line.variable))

    pub line-goes : at ≤ length bs → LineContinues bs at line
    line-goes h =
        let w : Within (drop at bs) line = (next-within from (drop at bs) line (read-there ∙ e)).0 in
        let d = length-drop at bs in
        record { within = omega arith; some = w.some; small = w.small }

-- `named` lines have been read, with `at` bytes
pub record Reading (bs : List ℕ) (at from named : ℕ) : Type 0 where
  pub within : at ≤ length bs
  pub few : named ≤ at
  pub counted : length (value_run bs).changes ≡ named + length (rest from (drop at bs)).changes
  pub needs : needed (value_run bs).changes ≡ needed_from from (rest from (drop at bs)).changes
  pub bytes : (value_run bs).length ≡ at + (rest from (drop at bs)).length

pub reading-none : (bs : List ℕ) → Reading bs 0 0 0
unfolding value_run
reading-none bs = record { within = omega arith; few = omega arith; counted = omega arith; needs = refl; bytes = omega arith }

module _ {bs : List ℕ} {at from named : ℕ} (p : Reading bs at from named) {read : Option ValueLine} (v : read ≡ next_value from (onward bs at)) where
  pub reading-end : read ≡ None → RunOf bs (record { named = named; needed = from; length = at })
  unfolding needed_from
  reading-end e =
      let done = rest-stop bs at from v e in
      let c = rw done at p.counted in
      let b = rw done at p.bytes in
      record { named = omega arith; needed = sym (rw done at p.needs); length = omega arith; within = p.within }

  pub reading-more : (line : ValueLine) → read ≡ Some line → Reading bs (at + line.length) (line.variable + 1) (named + 1)
  unfolding one_more needed_from
  reading-more line e =
      let w = line-goes bs at from v line e p.within in
      let k = p.few in
      let n = rest-next bs at from v line e in
      let c = rw n at p.counted in
      let b = rw n at p.bytes in
      record {
        within = omega arith;
        few = omega arith;
        counted = omega arith;
        needs =
            p.needs
            ∙ ap (λ (r : ValueRun). needed_from from r.changes) n
            ∙ ap (λ m. needed_from m (rest (line.variable + 1) (drop (at + line.length) bs)).changes) (sym (add-one line.variable));
        bytes = omega arith;
      }

-- the lines before `at` have been put into the list
pub record Applying (bs list : List ℕ) (at from : ℕ) (fills : List ℕ) : Type 0 where
  pub within : at ≤ length bs
  pub same : length fills ≡ length list
  pub left : applied (value_run bs).changes list ≡ applied (rest from (drop at bs)).changes fills
  pub room : needed_from from (rest from (drop at bs)).changes ≤ length fills

pub applying-none : (bs list : List ℕ) → needed (value_run bs).changes ≤ length list → Applying bs list 0 0 list
unfolding value_run
applying-none bs list h = record { within = omega arith; same = refl; left = refl; room = h }

module _ {bs list : List ℕ} {at from : ℕ} {fills : List ℕ} (p : Applying bs list at from fills) {read : Option ValueLine}
    (v : read ≡ next_value from (onward bs at)) where
  pub applying-end : read ≡ None → fills ≡ applied (value_run bs).changes list
  unfolding applied
  applying-end e = sym (p.left ∙ ap (λ (r : ValueRun). applied r.changes fills) (rest-stop bs at from v e))

  module _ (line : ValueLine) (e : read ≡ Some line) where
    next : ValueRun
    next = rest (line.variable + 1) (drop (at + line.length) bs)

    next-room : needed_from (line.variable + 1) next.changes ≤ length fills
    unfolding one_more needed_from next
    next-room =
        let n = rest-next bs at from v line e in
        subst (λ m. needed_from m next.changes ≤ length fills) (sym (add-one line.variable)) (rw n at p.room)

    pub applying-index : line.variable < length fills
    unfolding next
    applying-index =
        let g = needed-grows (length (drop (at + line.length) bs)) (line.variable + 1) (drop (at + line.length) bs) in
        let r = next-room in
        omega arith

    pub applying-more : Applying bs list (at + line.length) (line.variable + 1) (set fills line.variable line.fill)
    unfolding one_more applied next
    applying-more =
        let w = line-goes bs at from v line e p.within in
        let r = next-room in
        let l = length-set fills line.variable line.fill in
        record {
          within = omega arith;
          same = l ∙ p.same;
          left = p.left ∙ ap (λ (r : ValueRun). applied r.changes fills) (rest-next bs at from v line e);
          room = omega arith;
        }
