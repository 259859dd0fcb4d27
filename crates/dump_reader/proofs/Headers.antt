-- The names of a header: the line of a variable, and the lines one after another. Order: a line put at the start of a buffer; the loop of
-- `count_variables`; how long the names are. Assumes nothing.
use mathlib.Core.Path.{◌≡◌, refl, ap, ap₂, sym, subst, ◌∙◌}
use Rattle.std.specs.Prelude.{Option, Some, None, is_some}
use Rattle.std.specs.Bool.{then_some}
use Rattle.std.proofs.lemmas.Option.{cond_some}
use Rattle.reader.specs.Reading.{number-there}
use Rattle.waveform.specs.declared.Names.{Names}
use mathlib.Core.Bool.{Bool, true, false, not, cond, ◌&&◌}
use mathlib.Core.List.{List}
use Prim.Native.Nat.{ℕ, zero, suc, ◌+◌, ◌-◌, ◌%◌, ◌<◌, ◌≤◌}
use native.Mathlib.Nat.{zero-add}
use native.Mathlib.Numerals.{add-one}
use native.Mathlib.Omega.{arith}
use lib.Dec.{eqb}
use lib.ListN.{length, take, drop, length-append, length-drop}
use lib.Seq.{take_at, length-take-le, drop-drop}
use Rattle.base.proofs.Tests.{and_r, T_true, true-T}
use Rattle.network.specs.Sizes.{queues}
use Rattle.sheet.specs.Output.{written, Room, Put}
use Rattle.sheet.proofs.Puts.{put-length}
use Rattle.waveform.specs.Dump.{most_variables, variables_begin, variables_end, variable_line, variable_lines}
use Rattle.waveform.proofs.DumpLaws.{variable_lines-more}
use Rattle.waveform.specs.Reading.{starts_with, variables_from, variables_in, behind_variables, are_names, read_names}
use Rattle.waveform.proofs.StartLaws.{starts-long}
use Rattle.dump_reader.specs.Parsing.{CountedOf}

-- bytes that were put at the start of a buffer are its front
module _ {out bytes after : List ℕ} {next : ℕ} (p : Put out 0 bytes after next) (room : Room out 0 bytes) where
  pub front : take next after ≡ bytes
  unfolding written
  front =
      ap₂ take (p.answers ∙ zero-add (length bytes)) p.leaves
      ∙ take_at bytes (drop (0 + length bytes) out) (length bytes) refl

  pub front-within : next ≤ length after
  front-within =
      let l = put-length p room in
      let n = p.answers in
      omega arith

  pub front_length : next ≡ length (take next after)
  front_length = sym (length-take-le next after front-within)

  -- how long it is, if it stands at the start of others
  pub front-there : (bs : List ℕ) {r : Bool} → r ≡ starts_with (take next after) bs → then_some r next ≡ cond (starts_with bytes bs) (Some (length bytes)) None
  front-there bs {r} e = go r ∙ ap₂ (λ b n. cond b (Some n) None) (e ∙ ap (λ l. starts_with l bs) front) (p.answers ∙ zero-add (length bytes))
    where
      go : (b : Bool) → then_some b next ≡ cond b (Some next) None
      go true = refl
      go false = refl

-- one line more, or none
from-stop : (more i : ℕ) (bs : List ℕ) → starts_with (variable_line i) bs ≡ false → variables_from more i bs ≡ i
unfolding variables_from
from-stop zero i bs e = refl
from-stop (suc more) i bs e = rw e refl

from_more : (more i : ℕ) (bs : List ℕ) → starts_with (variable_line i) bs ≡ true
    → variables_from (suc more) i bs ≡ variables_from more (suc i) (drop (length (variable_line i)) bs)
unfolding variables_from
from_more more i bs e = rw e refl

-- `count` lines have been read, and end at `at`
pub record Counting (bs : List ℕ) (start count at : ℕ) : Type 0 where
  pub within : at ≤ length bs
  pub few : count ≤ most_variables
  pub place : at ≡ start + length (variable_lines 0 count)
  pub left : variables_from most_variables 0 (drop start bs) ≡ variables_from (most_variables - count) count (drop at bs)

pub counting-none : (bs : List ℕ) (start : ℕ) → start ≤ length bs → Counting bs start 0 start
unfolding variable_lines
counting-none bs start h = record { within = h; few = omega arith; place = omega arith; left = refl }

module _ {bs : List ℕ} {start count at : ℕ} (p : Counting bs start count at) where
  counting-done : variables_from (most_variables - count) count (drop at bs) ≡ count → CountedOf bs start (record { count = count; end = at })
  counting-done e = record { count = sym (p.left ∙ e); end = p.place; within = p.within }

  pub counting-end : most_variables ≤ count → CountedOf bs start (record { count = most_variables; end = at })
  unfolding variables_from
  counting-end h =
      let w = p.few in
      let c : count ≡ most_variables = omega arith in
      let z : most_variables - count ≡ 0 = omega arith in
      subst (λ n. CountedOf bs start (record { count = n; end = at })) c (counting-done (ap (λ m. variables_from m count (drop at bs)) z))

  module _ (h : count < most_variables) {r : Option ℕ}
      (e : r ≡ cond (starts_with (variable_line count) (drop at bs)) (Some (length (variable_line count))) None) where
    pub counting-stop : r ≡ None → CountedOf bs start (record { count = count; end = at })
    counting-stop z = counting-done (from-stop (most_variables - count) count (drop at bs) (sym (number-there _ _) ∙ ap is_some (sym e ∙ z)))

    pub counting_more : (n : ℕ) → r ≡ Some n → Counting bs start (count + 1) (at + n)
    counting_more n z =
        let (s, q) = cond_some _ _ n (sym e ∙ z) in
        let l = starts-long (variable_line count) (drop at bs) s in
        let d = length-drop at bs in
        let w = p.within in
        let m : most_variables - count ≡ suc (most_variables - (count + 1)) = omega arith in
        let lines : length (variable_lines 0 (count + 1)) ≡ length (variable_lines 0 count) + length (variable_line count)
        = ap (λ n. length (variable_lines 0 n)) (add-one count)
        ∙ ap length (variable_lines-more 0 count)
        ∙ length-append (variable_lines 0 count) (variable_line (0 + count))
        ∙ ap (λ n. length (variable_lines 0 count) + length (variable_line n)) (zero-add count) in
        let at-is = p.place in
        record {
          within = omega arith;
          few = omega arith;
          place = omega arith;
          left =
              p.left
              ∙ ap (λ n. variables_from n count (drop at bs)) m
              ∙ from_more (most_variables - (count + 1)) count (drop at bs) s
              ∙ ap₂ (λ n s. variables_from (most_variables - (count + 1)) n s)
              (sym (add-one count))
              (drop-drop (length (variable_line count)) at bs ∙ ap (λ n. drop (at + n) bs) q);
        }

-- how long the names are
pub names-within : (bs : List ℕ) (n : Names) → read_names bs ≡ Some n → n.length ≤ length bs
unfolding read_names are_names
names-within bs n e =
    let (is, same) = cond_some (are_names bs) _ n e in
    let last = starts_with variables_end (drop (behind_variables bs) bs) in
    let whole = eqb (variables_in bs % queues) 0 in
    let some = not (eqb (variables_in bs) 0) in
    let t = and_r whole last (and_r some (whole && last) (and_r (starts_with variables_begin bs) (some && (whole && last)) (true-T (are_names bs) is))) in
    let l = starts-long variables_end (drop (behind_variables bs) bs) (T_true last t) in
    let d = length-drop (behind_variables bs) bs in
    rw (sym same) (omega arith)
