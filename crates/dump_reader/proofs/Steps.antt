-- A step as the code finds it, and the answer of the call. Order: values that tell every variable; no step; a later step; a header; what the call
-- answers and leaves. Assumes nothing.
use mathlib.Core.Path.{◌≡◌, refl, ap, ap₂, sym, subst, ◌∙◌}
use Rattle.network.specs.Calls.{Answer}
use Rattle.std.specs.Prelude.{Option, Some, None, is_some, Ok, Err}
use Rattle.std.proofs.lemmas.Option.{none-some, same_Some}
use mathlib.Core.Logic.{◌≢◌}
use mathlib.Core.Bool.{Bool, true, false, ◌&&◌}
use mathlib.Core.List.{List}
use Prim.Native.Nat.{ℕ, ◌+◌, ◌-◌, ◌<◌, ◌≤◌}
use native.Mathlib.Omega.{arith}
use lib.Dec.{eqb, ltb}
use lib.ListN.{length, drop, length-drop}
use lib.Seq.{drop-drop}
use borrow.Author.Tests.{lt-ltb, le-ltb, eq-eqb, ne_eqb, eqb-true}
use Rattle.base.proofs.Tests.{and_l, and_r, T_true, true-T}
use Rattle.network.specs.Refusals.{refuse, bad_line, short_page}
use Rattle.waveform.specs.declared.TimeStamp.{TimeStamp}
use Rattle.waveform.specs.declared.Names.{Names}
use Rattle.waveform.specs.declared.StepRead.{StepRead}
use Rattle.waveform.specs.Dump.{values_begin, values_end}
use Rattle.waveform.specs.Reading.{starts_with, read_stamp, value_run, needed, read_names, Step, applied}
use Rattle.waveform.specs.Reading.{later_step, read_later, tells_all, header_step, read_stamped, read_header, read_step}
use Rattle.waveform.proofs.StartLaws.{starts-long}
use Rattle.waveform.specs.Calls.{read_refusal, step_told, read_answer, read_list}
use Rattle.waveform.specs.StepAnswers.{ReadTells}
use Rattle.waveform.proofs.StepAnswers.{read-tells}
use Rattle.dump_reader.specs.declared.ValueRun.{ValueRun}
use Rattle.dump_reader.specs.declared.Parsed.{Parsed}
use Rattle.dump_reader.specs.Parsing.{RunOf, IsStep, ParsedOf, LaterOf, HeaderOf, StepOf}
use Rattle.dump_reader.proofs.Lines.{onward, onward-drop, stamp-within}
use Rattle.dump_reader.proofs.Headers.{names-within}

-- so many changes, and a list as long
tells-count : (count : ℕ) (bs : List ℕ) → tells_all count bs ≡ true → (length (value_run bs).changes ≡ count) × (needed (value_run bs).changes ≡ count)
unfolding tells_all
tells-count count bs e =
    let named = eqb (length (value_run bs).changes) count in
    let long = eqb (needed (value_run bs).changes) count in
    let end = starts_with values_end (drop (value_run bs).length bs) && eqb ((value_run bs).length + length values_end) (length bs) in
    let t = true-T (tells_all count bs) e in (
      eqb-true (length (value_run bs).changes) count (T_true named (and_l named (long && end) t)),
      eqb-true (needed (value_run bs).changes) count (T_true long (and_l long end (and_r named (long && end) t))),
    )

-- no step, and one
pub step-missing : (bs : List ℕ) (s : Step) → s.good ≡ false → ParsedOf bs s None
step-missing bs s e = record { good = sym e; step = λ p n. absurd (none-some p n) }

step-found : (bs : List ℕ) (s : Step) (p : Parsed) → s.good ≡ true → IsStep bs s p → ParsedOf bs s (Some p)
step-found bs s p e i = record { good = sym e; step = λ q n. subst (IsStep bs s) (same_Some p q n) i }

-- a later step
module _ (bs : List ℕ) {read : Option TimeStamp} (s : read ≡ read_stamp bs) where
  module _ (stamp : TimeStamp) (e : read ≡ Some stamp) where
    pub later-place : stamp.length ≤ length bs
    later-place = stamp-within bs stamp (sym s ∙ e)

    later-is : read_later bs ≡ later_step stamp (drop stamp.length bs)
    unfolding read_later
    later-is = rw (sym s ∙ e) refl

    module _ {r : ValueRun} (f : RunOf (onward bs stamp.length) r) where
      told : RunOf (drop stamp.length bs) r
      told = rw (onward-drop bs stamp.length) at f

      later-good : (later_step stamp (drop stamp.length bs)).good ≡ eqb r.length (length bs - stamp.length)
      unfolding later_step
      later-good = ap₂ eqb (sym told.length) (length-drop stamp.length bs)

      pub later-found : r.length ≡ length bs - stamp.length
          → LaterOf bs (Some (record { header = false; time = stamp.time; named = r.named; needed = r.needed; values = stamp.length }))
      unfolding later_step
      later-found n =
          rw later-is
          (step-found bs (later_step stamp (drop stamp.length bs)) _ (later-good ∙ eq-eqb r.length (length bs - stamp.length) n)
          (record { header = refl; time = refl; named = told.named; needed = told.needed; values = refl; within = later-place }))

-- a header
module _ (bs : List ℕ) {found : Option Names} (n : found ≡ read_names bs) where
  module _ (names : Names) (e : found ≡ Some names) where
    pub names-place : names.length ≤ length bs
    names-place = names-within bs names (sym n ∙ e)

    stamped-is : read_header bs ≡ read_stamped names (drop names.length bs)
    unfolding read_header
    stamped-is = rw (sym n ∙ e) refl

    module _ {read : Option TimeStamp} (s : read ≡ read_stamp (onward bs names.length)) where
      stamp-there : read_stamp (drop names.length bs) ≡ read
      stamp-there = sym (s ∙ ap read_stamp (onward-drop bs names.length))

      module _ (stamp : TimeStamp) (z : read ≡ Some stamp) where
        pub stamp-place : names.length + stamp.length ≤ length bs
        stamp-place =
            let w = stamp-within (drop names.length bs) stamp (stamp-there ∙ z) in
            let d = length-drop names.length bs in
            let p = names-place in
            omega arith

        -- what stands behind the time stamp, and the values
        begin : List ℕ
        begin = drop (names.length + stamp.length) bs

        values : List ℕ
        values = drop (names.length + stamp.length + length values_begin) bs

        header-is : read_header bs ≡ header_step names stamp begin
        unfolding read_stamped begin
        header-is =
            stamped-is
            ∙ rw (stamp-there ∙ z) refl
            ∙ ap (header_step names stamp) (drop-drop stamp.length names.length bs)

        values-there : drop (length values_begin) begin ≡ values
        unfolding begin values
        values-there = drop-drop (length values_begin) (names.length + stamp.length) bs

        header-good : (header_step names stamp begin).good ≡ (starts_with values_begin begin && tells_all names.count values)
        unfolding header_step
        header-good = ap (λ l. starts_with values_begin begin && tells_all names.count l) values-there

        module _ (o : starts_with values_begin (drop (names.length + stamp.length) bs) ≡ true) where
          pub values-place : names.length + stamp.length + length values_begin ≤ length bs
          values-place =
              let l = starts-long values_begin (drop (names.length + stamp.length) bs) o in
              let d = length-drop (names.length + stamp.length) bs in
              omega arith

          module _ {t : Bool} (a : t ≡ tells_all names.count (onward bs (names.length + stamp.length + length values_begin))) where
            tells-there : t ≡ tells_all names.count values
            unfolding values
            tells-there = a ∙ ap (tells_all names.count) (onward-drop bs (names.length + stamp.length + length values_begin))

            good-by : (header_step names stamp begin).good ≡ t
            unfolding begin
            good-by = header-good ∙ rw o (sym tells-there)

            pub header-values : t ≡ false → HeaderOf bs None
            header-values f = rw header-is (step-missing bs (header_step names stamp begin) (good-by ∙ f))

            pub header-found : t ≡ true
                → HeaderOf bs
                (Some
                (record {
                  header = true;
                  time = stamp.time;
                  named = names.count;
                  needed = names.count;
                  values = names.length + stamp.length + length values_begin;
                }))
            unfolding header_step values
            header-found f =
                let (l, m) = tells-count names.count values (sym tells-there ∙ f) in
                let v : values ≡ drop (length values_begin) begin = sym values-there in
                rw header-is
                (step-found bs (header_step names stamp begin) _ (good-by ∙ f)
                (record {
                  header = refl;
                  time = refl;
                  named = sym l ∙ ap (λ s. length (value_run s).changes) v;
                  needed = sym m ∙ ap (λ s. needed (value_run s).changes) v;
                  values = ap (λ s. (value_run s).changes) v;
                  within = values-place;
                }))

-- what the call answers and leaves in the list
abbrev Answered : List ℕ → List ℕ → List ℕ → Answer StepRead → Type 0
Answered bs list after r = (r ≡ read_answer bs list) × ((after ≡ read_list bs list) × ReadTells bs list r)

answered : (bs list after : List ℕ) (r : Answer StepRead) → r ≡ read_answer bs list → after ≡ read_list bs list → Answered bs list after r
answered bs list after r a l = (a, (l, rw a (read-tells bs list)))

refused : (bs list : List ℕ) (number : ℕ) → read_refusal bs list ≡ number → number ≢ 0 → Answered bs list list (Err number)
unfolding read_answer read_list
refused bs list number e f =
    let n : read_refusal bs list ≢ 0 = λ z. f (sym e ∙ z) in
    answered bs list list (Err number) (rw (ne_eqb (read_refusal bs list) 0 n, e) refl) (rw (ne_eqb (read_refusal bs list) 0 n) refl)

module _ (bs list : List ℕ) {parsed : Option Parsed} (f : StepOf bs parsed) where
  pub answer-bad : parsed ≡ None → Answered bs list list (Err bad_line)
  unfolding read_refusal
  answer-bad e = refused bs list bad_line (rw (sym f.good ∙ ap is_some e) refl) (λ z. omega arith)

  module _ (p : Parsed) (e : parsed ≡ Some p) where
    is : IsStep bs (read_step bs) p
    is = f.step p e

    refusal-by : read_refusal bs list ≡ refuse (ltb (length list) p.needed) short_page 0
    unfolding read_refusal
    refusal-by = rw (sym f.good ∙ ap is_some e, is.needed) refl

    pub answer-short : length list < p.needed → Answered bs list list (Err short_page)
    answer-short h = refused bs list short_page (refusal-by ∙ rw (lt-ltb (length list) p.needed h) refl) (λ z. omega arith)

    module _ (h : p.needed ≤ length list) where
      pub values-room : needed (value_run (onward bs p.values)).changes ≤ length list
      values-room =
          let e : needed (value_run (onward bs p.values)).changes ≡ p.needed
          = ap (λ s. needed (value_run s).changes) (onward-drop bs p.values) ∙ ap needed (is.values) ∙ sym (is.needed) in
          omega arith

      module _ {after : List ℕ} (a : after ≡ applied (value_run (onward bs p.values)).changes list) where
        passed : (r : StepRead) → r ≡ step_told (read_step bs) → Answered bs list after (Ok r)
        unfolding read_answer read_list
        passed r e =
            let z : read_refusal bs list ≡ 0 = refusal-by ∙ rw (le-ltb (length list) p.needed h) refl in
            answered bs list after (Ok r)
            (ap (λ (k : StepRead). Ok k) e ∙ rw (eq-eqb (read_refusal bs list) 0 z) refl)
            (a
            ∙ ap (λ s. applied (value_run s).changes list) (onward-drop bs p.values)
            ∙ ap (λ cs. applied cs list) (is.values)
            ∙ rw (eq-eqb (read_refusal bs list) 0 z) refl)

        pub answer-header : p.header ≡ true → Answered bs list after (Ok (StepRead.Header p.time p.named))
        unfolding step_told
        answer-header e = passed (StepRead.Header p.time p.named) (rw (sym (is.header) ∙ e, is.time, is.named) refl)

        pub answer-later : p.header ≡ false → Answered bs list after (Ok (StepRead.Later p.time p.named))
        unfolding step_told
        answer-later e = passed (StepRead.Later p.time p.named) (rw (sym (is.header) ∙ e, is.time, is.named) refl)
