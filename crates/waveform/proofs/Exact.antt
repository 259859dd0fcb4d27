-- R417: the reader takes nothing but the subset. Order: the bytes of a step; what holds of its time and its changes; the theorem; then its proof: bytes that
-- begin with others; a byte and a field; a time stamp; a value line; value lines one after another; the header's names; its values; a step. Assumes nothing.
use Rattle.std.specs.Prelude.{◌≡◌, refl, ◌≢◌, Bool, true, false, not, cond, Option, Some, None, List, [], ◌∷◌, ◌++◌, ℕ, zero, suc, ◌+◌, ◌-◌, ◌%◌, ◌≤◌, eqb, leb, length, get_or, drop}
use Rattle.std.proofs.Common.{ap, ap₂, sym, ◌∙◌, subst, append-nil, append_assoc, arith, ltb-true, leb-true, eqb-true, length-append, drop_of_length-le, drop-drop}
use Rattle.std.proofs.Math.Bool.{and-eq-true_iff}
use Rattle.std.proofs.lemmas.Bool.{false≢true, eqb-false, not-true}
use Rattle.std.specs.Option.{option_map_or}
use Rattle.std.proofs.lemmas.Option.{cond_some, option_and_then_some}
use Prim.Native.Char.{code}
use Rattle.std.proofs.Math.Seq.{append_snoc}
use Rattle.network.specs.Sizes.{queues}
use Rattle.sheet.specs.Text.{lf}
use Rattle.sheet.specs.Commands.{up_to, ten, value, is_number}
use Rattle.sheet.specs.Output.{numeral, decimal}
use Rattle.sheet.proofs.Fields.{up_to-split}
use Rattle.sheet.proofs.Numerals.{number-parts, number-is-numeral}
use Rattle.waveform.specs.declared.ValueLine.{ValueLine}
use Rattle.waveform.specs.declared.TimeStamp.{TimeStamp}
use Rattle.waveform.specs.declared.Names.{Names}
use Rattle.waveform.specs.Dump.{most_variables, variables_begin, variables_end, values_begin, values_end, variable_line, variable_lines, stamp_line, Change, two, value_line, value_lines}
use Rattle.waveform.specs.Reading.{is_ended, behind, largest_time, is_stamp, read_stamp, largest_fill, blank, fill_field, variable_field, is_value_line, read_value, not_before, next_value, ValueRun, one_more, no_run, run_within, value_run, starts_with, variables_from, variables_in, behind_variables, are_names, read_names, needed_from, needed, Step, no_step, later_step, read_later, tells_all, header_step, read_stamped, read_header, read_step}
use Rattle.waveform.proofs.StartLaws.{starts-split}
use Rattle.waveform.specs.ReadingLaws.{Rising, names_of, step_of, header_of}
use Rattle.waveform.proofs.ReadingLaws.{later-read, header_read}
use Rattle.waveform.specs.Exact.{bytes_of, OneByOne, AllTold, StepIn, OnlySteps, Begins, IsStamp, change_of, IsValue, IsRun, Counted, IsNames, AreValues}

begins-as : (bs xs ys : List ℕ) (n m : ℕ) → xs ≡ ys → n ≡ m → Begins bs xs n → Begins bs ys m
begins-as bs xs ys n m e l b = b ∙ ap₂ (λ zs k. zs ++ drop k bs) e l

-- and others behind them
begins-more : (bs xs ys : List ℕ) (n m : ℕ) → Begins bs xs n → Begins (drop n bs) ys m → Begins bs (xs ++ ys) (n + m)
begins-more bs xs ys n m b c =
    b ∙ ap (λ l. xs ++ l) (c ∙ ap (λ l. ys ++ l) (drop-drop m n bs)) ∙ sym (append_assoc xs ys (drop (n + m) bs))

-- and none
begins-all : (bs xs : List ℕ) (n : ℕ) → n ≡ length bs → Begins bs xs n → bs ≡ xs
begins-all bs xs n l b = b ∙ ap (λ r. xs ++ r) (drop_of_length-le bs {i = n} (omega arith)) ∙ append-nil xs

-- one byte; a number, and the byte that ends it
byte-begins : (b : ℕ) (bs : List ℕ) → 1 ≤ b → eqb (get_or bs 0 0) b ≡ true → Begins bs (b ∷ []) 1
byte-begins b [] h e = let z : 0 ≡ b = eqb-true 0 b e in absurd (omega arith)
byte-begins b (c ∷ bs) h e = ap (λ d. d ∷ bs) (eqb-true c b e)

field-begins : (base stop most : ℕ) (bs : List ℕ) → 2 ≤ base → is_ended stop bs ≡ true → is_number base most (up_to stop bs) ≡ true
    → Begins bs (numeral base (value base (up_to stop bs)) ++ (stop ∷ [])) (suc (length (up_to stop bs)))
field-begins base stop most bs two ended number =
    up_to-split stop bs (ltb-true (length (up_to stop bs)) (length bs) ended)
    ∙ ap (λ f. f ++ (stop ∷ behind stop bs)) (sym (number-is-numeral base two most (up_to stop bs) number))
    ∙ sym (append_snoc (numeral base (value base (up_to stop bs))) stop (behind stop bs))

-- what a reader makes of bytes where its test passes
some-only : {A : Type 0} (P : A → Type 0) (test : Bool) (x y : A) → (test ≡ true → P x) → cond test (Some x) None ≡ Some y → P y
some-only P test x y p e = let (t, same) = cond_some test x y e in subst P same (p t)

stamp-only : (bs : List ℕ) (s : TimeStamp) → read_stamp bs ≡ Some s → IsStamp bs s
unfolding read_stamp is_stamp stamp_line
stamp-only bs s = some-only (IsStamp bs) (is_stamp bs) _ s stamp
  where
    field : List ℕ
    field = up_to lf (drop 1 bs)

    stamp : is_stamp bs ≡ true → IsStamp bs (record { time = value ten field; length = length field + 2 })
    stamp t =
        let (first, t₁) = (and-eq-true_iff (eqb (get_or bs 0 0) (code "#")) _).0 t in
        let (ended, number) = (and-eq-true_iff (is_ended lf (drop 1 bs)) (is_number ten largest_time field)).0 t₁ in
        let digits : List ℕ = decimal (value ten field) ++ (lf ∷ []) in
        record {
          begins =
              begins-as bs (code "#" ∷ digits) (stamp_line (value ten field)) (1 + suc (length field)) (length field + 2) refl (omega arith)
              (begins-more bs (code "#" ∷ []) digits 1 (suc (length field))
              (byte-begins (code "#") bs (omega arith) first)
              (field-begins ten lf largest_time (drop 1 bs) (omega arith) ended number));
          early = (number-parts ten largest_time field number).small;
        }

value-only : (bs : List ℕ) (l : ValueLine) → read_value bs ≡ Some l → IsValue bs l
unfolding read_value is_value_line value_line
value-only bs l = some-only (IsValue bs) (is_value_line bs) _ l line
  where
    middle : List ℕ
    middle = behind blank (drop 1 bs)

    c : Change
    c = record { variable = value ten (variable_field bs); fill = value two (fill_field bs) }

    n : ℕ
    n = length (fill_field bs)

    m : ℕ
    m = length (variable_field bs)

    line : is_value_line bs ≡ true → IsValue bs (record { variable = c.variable; fill = c.fill; length = n + m + 3 })
    line t =
        let (first, t₁) = (and-eq-true_iff (eqb (get_or bs 0 0) (code "b")) _).0 t in
        let (fill_ended, t₂) = (and-eq-true_iff (is_ended blank (drop 1 bs)) _).0 t₁ in
        let (fill_number, t₃) = (and-eq-true_iff (is_number two largest_fill (fill_field bs)) _).0 t₂ in
        let (ended, number) = (and-eq-true_iff (is_ended lf middle) (is_number ten (most_variables - 1) (variable_field bs))).0 t₃ in
        let v : c.variable ≤ most_variables - 1 = (number-parts ten (most_variables - 1) (variable_field bs) number).small in
        let fill : List ℕ = numeral two c.fill ++ (blank ∷ []) in
        let variable : List ℕ = decimal c.variable ++ (lf ∷ []) in
        record {
          begins =
              begins-as bs (code "b" ∷ (fill ++ variable)) (value_line c) (1 + (suc n + suc m)) (n + m + 3)
              (ap (λ l. code "b" ∷ l) (append_snoc (numeral two c.fill) blank variable))
              (omega arith)
              (begins-more bs (code "b" ∷ []) (fill ++ variable) 1 (suc n + suc m)
              (byte-begins (code "b") bs (omega arith) first)
              (begins-more (drop 1 bs) fill variable (suc n) (suc m)
              (field-begins two blank largest_fill (drop 1 bs) (omega arith) fill_ended fill_number)
              (field-begins ten lf (most_variables - 1) middle (omega arith) ended number)));
          small = record { variable = omega arith; fill = (number-parts two largest_fill (fill_field bs) fill_number).small };
        }

-- one that goes on with a run
from-only : (from : ℕ) (bs : List ℕ) (l : ValueLine) → next_value from bs ≡ Some l → IsValue bs l × (from ≤ l.variable)
unfolding next_value
from-only from bs l e =
    option_and_then_some (not_before from) (read_value bs) l e
    (λ m is e. let (t, same) = cond_some (leb from m.variable) m l e in
    subst (λ (k : ValueLine). IsValue bs k × (from ≤ k.variable)) same (value-only bs m is, leb-true from m.variable t))

runs-only : (lines from : ℕ) (bs : List ℕ) → IsRun from bs (run_within lines from bs)
unfolding run_within one_more value_lines Rising
runs-only zero from bs = record { begins = refl; rising = tt }
runs-only (suc lines) from bs =
    go (next_value from bs) (from-only from bs) (λ l. runs-only lines (suc l.variable) (drop l.length bs))
  where
    rest : ValueLine → ValueRun
    rest l = run_within lines (suc l.variable) (drop l.length bs)

    go : (o : Option ValueLine) → ((l : ValueLine) → o ≡ Some l → IsValue bs l × (from ≤ l.variable))
        → ((l : ValueLine) → IsRun (suc l.variable) (drop l.length bs) (rest l))
        → IsRun from bs (option_map_or (λ l. one_more l (rest l)) o no_run)
    go (Some l) only next =
        let (v, rises) = only l refl in
        let r = next l in
        record {
          begins = begins-more bs (value_line (change_of l)) (value_lines (rest l).changes) l.length (rest l).length v.begins r.begins;
          rising = (v.small, rises, r.rising);
        }
    go None only next = record { begins = refl; rising = tt }

run_only : (bs : List ℕ) → IsRun 0 bs (value_run bs)
unfolding value_run
run_only bs = runs-only (length bs) 0 bs

count-only : (more i : ℕ) (bs : List ℕ) → Counted more i bs (variables_from more i bs)
unfolding variables_from variable_lines
count-only zero i bs = record { count = 0; is = omega arith; few = omega arith; begins = refl }
count-only (suc more) i bs = go (starts_with (variable_line i) bs) refl (count-only more (suc i) (drop (length (variable_line i)) bs))
  where
    line : List ℕ
    line = variable_line i

    rest : List ℕ
    rest = drop (length line) bs

    go : (t : Bool) → starts_with line bs ≡ t → Counted more (suc i) rest (variables_from more (suc i) rest)
        → Counted (suc more) i bs (cond t (variables_from more (suc i) rest) i)
    go true t c =
        let lines : List ℕ = variable_lines (suc i) c.count in
        record {
          count = suc c.count;
          is = c.is ∙ omega arith;
          few = let h = c.few in omega arith;
          begins =
              begins-as bs (line ++ lines) (line ++ lines) (length line + length lines) (length (line ++ lines)) refl (sym (length-append line lines))
              (begins-more bs line lines (length line) (length lines) (starts-split line bs t) c.begins);
        }
    go false t c = record { count = 0; is = omega arith; few = omega arith; begins = refl }

names-only : (bs : List ℕ) (n : Names) → read_names bs ≡ Some n → IsNames bs n
unfolding read_names are_names
names-only bs n = some-only (IsNames bs) (are_names bs) _ n names
  where
    count : ℕ
    count = variables_in bs

    lines : List ℕ
    lines = variable_lines 0 count

    names : are_names bs ≡ true → IsNames bs (record { count = variables_in bs; length = behind_variables bs + length variables_end })
    names t =
        let (opened, t₁) = (and-eq-true_iff (starts_with variables_begin bs) _).0 t in
        let (some, t₂) = (and-eq-true_iff (not (eqb count 0)) _).0 t₁ in
        let (whole, closed) = (and-eq-true_iff (eqb (count % queues) 0) (starts_with variables_end (drop (behind_variables bs) bs))).0 t₂ in
        let k : Counted most_variables 0 (drop (length variables_begin) bs) count = count-only most_variables 0 (drop (length variables_begin) bs) in
        let n : count ≡ 0 + k.count = k.is in
        let m : k.count ≤ most_variables = k.few in
        let e : k.count ≡ count = omega arith in
        let f : count ≢ 0 = eqb-false count 0 (not-true (eqb count 0) some) in
        record {
          begins =
              begins-more bs (variables_begin ++ lines) variables_end (behind_variables bs) (length variables_end)
              (begins-more bs variables_begin lines (length variables_begin) (length lines) (starts-split variables_begin bs opened)
              (subst (λ i. Begins (drop (length variables_begin) bs) (variable_lines 0 i) (length (variable_lines 0 i))) e k.begins))
              (starts-split variables_end (drop (behind_variables bs) bs) closed)
              ∙ ap (λ l. variables_begin ++ l) (append_assoc lines variables_end (drop (behind_variables bs + length variables_end) bs));
          some = omega arith;
          few = omega arith;
          whole = eqb-true (count % queues) 0 whole;
        }

-- changes that rise need a list as long as they are, and if no longer, they are of one variable after another
rising-needs : (from : ℕ) (cs : List Change) → Rising from cs → from + length cs ≤ needed_from from cs
unfolding Rising needed_from
rising-needs from [] r = omega arith
rising-needs from (c ∷ cs) r =
    let l : suc c.variable + length cs ≤ needed_from (suc c.variable) cs = rising-needs (suc c.variable) cs r.2 in
    let h : from ≤ c.variable = r.1 in
    omega arith

one_by_one : (from : ℕ) (cs : List Change) → Rising from cs → needed_from from cs ≡ from + length cs → OneByOne from cs
unfolding Rising needed_from OneByOne
one_by_one from [] r e = tt
one_by_one from (c ∷ cs) r e =
    let l : suc c.variable + length cs ≤ needed_from (suc c.variable) cs = rising-needs (suc c.variable) cs r.2 in
    let h : from ≤ c.variable = r.1 in
    let v : c.variable ≡ from = omega arith in
    (v, one_by_one (suc from) cs (subst (λ n. Rising (suc n) cs) v r.2) (ap (λ n. needed_from (suc n) cs) (sym v) ∙ e ∙ omega arith))

values-only : (count : ℕ) (bs : List ℕ) → tells_all count bs ≡ true → AreValues count bs (value_run bs).changes
unfolding tells_all
values-only count bs t =
    let r : IsRun 0 bs (value_run bs) = run_only bs in
    let cs : List Change = (value_run bs).changes in
    let n : ℕ = (value_run bs).length in
    let (long, t₁) = (and-eq-true_iff (eqb (length cs) count) _).0 t in
    let (need, t₂) = (and-eq-true_iff (eqb (needed cs) count) _).0 t₁ in
    let (closed, end) = (and-eq-true_iff (starts_with values_end (drop n bs)) (eqb (n + length values_end) (length bs))).0 t₂ in
    let l : length cs ≡ count = eqb-true (length cs) count long in
    let m : needed cs ≡ count = eqb-true (needed cs) count need in
    record {
      bytes =
          begins-all bs (value_lines cs ++ values_end) (n + length values_end) (eqb-true (n + length values_end) (length bs) end)
          (begins-more bs (value_lines cs) values_end n (length values_end) r.begins (starts-split values_end (drop n bs) closed));
      long = sym l;
      rising = r.rising;
      ordered = one_by_one 0 cs r.rising (omega arith);
    }

-- R415: a later step, and a header
later-step : (bs : List ℕ) (s : TimeStamp) → IsStamp bs s → (later_step s (drop s.length bs)).good ≡ true → StepIn bs (later_step s (drop s.length bs))
unfolding later_step bytes_of
later-step bs s i end =
    let rest : List ℕ = drop s.length bs in
    let r : IsRun 0 rest (value_run rest) = run_only rest in
    record {
      bytes =
          i.begins
          ∙ ap (λ l. stamp_line s.time ++ l)
          (begins-all rest (value_lines (value_run rest).changes) (value_run rest).length (eqb-true (value_run rest).length (length rest) end) r.begins);
      early = i.early;
      rising = r.rising;
      all = λ h. absurd (false≢true h);
    }

header-step : (bs : List ℕ) (n : Names) (s : TimeStamp) → IsNames bs n → IsStamp (drop n.length bs) s
    → (header_step n s (drop s.length (drop n.length bs))).good ≡ true
    → StepIn bs (header_step n s (drop s.length (drop n.length bs)))
unfolding header_step bytes_of
header-step bs n s i j t =
    let rest : List ℕ = drop s.length (drop n.length bs) in
    let values : List ℕ = drop (length values_begin) rest in
    let (opened, told) = (and-eq-true_iff (starts_with values_begin rest) (tells_all n.count values)).0 t in
    let v : AreValues n.count values (value_run values).changes = values-only n.count values told in
    let e : n.count ≡ length (value_run values).changes = v.long in
    record {
      bytes =
          i.begins
          ∙ ap (names_of n.count)
          (j.begins ∙ ap (λ l. stamp_line s.time ++ l) (starts-split values_begin rest opened ∙ ap (λ l. values_begin ++ l) v.bytes))
          ∙ ap (λ k. header_of k s.time (value_run values).changes) e;
      early = j.early;
      rising = v.rising;
      all =
          λ h. record {
            some = subst (λ k. 1 ≤ k) e i.some;
            few = subst (λ k. k ≤ most_variables) e i.few;
            whole = subst (λ k. k % queues ≡ 0) e i.whole;
            ordered = v.ordered;
          };
    }

-- what is made of what was read, or no step: if it is good, something was read, and made good
good-only : {A : Type 0} (bs : List ℕ) (step : A → Step) (o : Option A) → ((x : A) → o ≡ Some x → (step x).good ≡ true → StepIn bs (step x))
    → (option_map_or step o no_step).good ≡ true
    → StepIn bs (option_map_or step o no_step)
good-only bs step (Some x) made g = made x refl g
good-only bs step None made g = absurd (false≢true g)

later-only : (bs : List ℕ) → (read_later bs).good ≡ true → StepIn bs (read_later bs)
unfolding read_later
later-only bs = good-only bs (λ s. later_step s (drop s.length bs)) (read_stamp bs) (λ s e. later-step bs s (stamp-only bs s e))

header-only : (bs : List ℕ) → (read_header bs).good ≡ true → StepIn bs (read_header bs)
unfolding read_header read_stamped
header-only bs =
    good-only bs (λ n. read_stamped n (drop n.length bs)) (read_names bs)
    (λ n e. good-only bs (λ s. header_step n s (drop s.length (drop n.length bs))) (read_stamp (drop n.length bs))
    (λ s f. header-step bs n s (names-only bs n e) (stamp-only (drop n.length bs) s f)))

-- R417
pub only-steps : OnlySteps
unfolding OnlySteps read_step
only-steps bs = go (eqb (get_or bs 0 0) (code "#"))
  where
    go : (b : Bool) → (cond b (read_later bs) (read_header bs)).good ≡ true → StepIn bs (cond b (read_later bs) (read_header bs))
    go true = later-only bs
    go false = header-only bs

-- The other way: of the bytes of any step of the subset the reader makes that step
one-by-one-needs : (from : ℕ) (cs : List Change) → OneByOne from cs → needed_from from cs ≡ from + length cs
unfolding needed_from OneByOne
one-by-one-needs from [] o = omega arith
one-by-one-needs from (c ∷ cs) (v, o) = ap (λ n. needed_from (suc n) cs) v ∙ one-by-one-needs (suc from) cs o ∙ omega arith

pub every-step : (bs : List ℕ) (header : Bool) (time : ℕ) (cs : List Change) → StepIn bs (step_of header time cs) → read_step bs ≡ step_of header time cs
unfolding read_step bytes_of stamp_line
every-step bs true time cs s =
    let a : AllTold cs = s.all refl in
    ap read_step s.bytes
    ∙ header_read (length cs) time cs a.some a.few a.whole s.early s.rising refl (one-by-one-needs 0 cs a.ordered ∙ omega arith)
every-step bs false time cs s = ap read_step s.bytes ∙ later-read time cs s.early s.rising
