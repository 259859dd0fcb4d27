-- Laws of what the reader makes of bytes: of a step's bytes it makes that step. Order: a field that holds a number; a time stamp; a value line; value lines
-- one after another; the changes of a step; what they leave in a list; the header's names; a step. Assumes nothing.
use Rattle.std.specs.Prelude.{◌≡◌, refl, Bool, true, false, cond, Some, None, List, [], ◌∷◌, ◌++◌, ℕ, zero, suc, ◌+◌, ◌-◌, ◌%◌, ◌<◌, ◌≤◌, eqb, ltb, length, get_or, take, drop, set}
use Rattle.std.proofs.Common.{ap, sym, ◌∙◌, true≢false, append-nil, append_assoc, not-suc-le-zero, add-one, arith, lt-ltb, le-leb, eq-eqb, ne_eqb, eqb-true, length-append, drop-drop, drop-cons, take-suc, length-take-le}
use Prim.Native.Char.{code}
use Rattle.std.proofs.lemmas.Bool.{not-false}
use Rattle.std.proofs.Math.Seq.{append_snoc, drop-append_seam, drop-append-add, take-length}
use Rattle.std.proofs.lemmas.List.{set_at}
use Rattle.network.specs.Sizes.{queues}
use Rattle.sheet.specs.Text.{lf}
use Rattle.sheet.specs.Commands.{up_to, ten, value, is_number}
use Rattle.sheet.specs.Output.{numeral, decimal}
use Rattle.sheet.proofs.Fields.{up_to-before, digits-lack}
use Rattle.sheet.proofs.Numerals.{numeral-digits, numeral-is-number, value-numeral}
use Rattle.waveform.specs.Dump.{most_variables, variables_begin, variables_end, values_begin, values_end, variable_line, variable_lines, stamp_line, Change, two, value_line, value_lines, tells, changes_to, changes, step_bytes}
use Rattle.waveform.specs.Reading.{behind, largest_time, is_stamp, read_stamp, largest_fill, blank, is_value_line, read_value, next_value, ValueRun, one_more, run_within, value_run, starts_with, variables_from, variables_in, are_names, read_names, needed_from, needed, later_step, read_later, tells_all, header_step, read_stamped, read_header, read_step, applied}
use Rattle.waveform.proofs.Lengths.{stamp-length, value-length}
use Rattle.waveform.specs.DumpLaws.{change_at}
use Rattle.waveform.proofs.StartLaws.{starts-append}
use Rattle.waveform.specs.ReadingLaws.{Field, Small, line_of, Rising, before, ran, names_of, names_length, step_of, header_of, Tellable}

-- a number's digits and a byte that ends them are such a field
pub numeral-field : (base stop most n : ℕ) (rest : List ℕ) → 2 ≤ base → stop < code "0" → n ≤ most
    → Field base stop most (numeral base n ++ (stop ∷ rest)) n rest
numeral-field base stop most n rest b h l =
    let field : List ℕ = numeral base n in
    let is : up_to stop (field ++ (stop ∷ rest)) ≡ field
    = up_to-before stop field rest (digits-lack base stop h field (numeral-digits base b n)) in
    let size : length (field ++ (stop ∷ rest)) ≡ length field + suc (length rest) = length-append field (stop ∷ rest) in
    record {
      ended = ap (λ f. ltb (length f) (length (field ++ (stop ∷ rest)))) is ∙ lt-ltb (length field) (length (field ++ (stop ∷ rest))) (omega arith);
      number = ap (is_number base most) is ∙ numeral-is-number base b most n l;
      tells = ap (value base) is ∙ value-numeral base b n;
      long = ap length is;
      leaves =
          ap (λ f. drop (suc (length f)) (field ++ (stop ∷ rest))) is
          ∙ ap (λ k. drop k (field ++ (stop ∷ rest))) (sym (add-one (length field)))
          ∙ drop-append-add field (stop ∷ rest) 1;
    }

-- R404: a time stamp, whatever stands behind it
stamp-front : (time : ℕ) (rest : List ℕ) → stamp_line time ++ rest ≡ code "#" ∷ (decimal time ++ (lf ∷ rest))
unfolding stamp_line
stamp-front time rest = ap (λ l. code "#" ∷ l) (append_snoc (decimal time) lf rest)

stamp-field : (bs : List ℕ) (time : ℕ) (rest : List ℕ) → Field ten lf largest_time bs time rest
    → read_stamp (code "#" ∷ bs) ≡ Some (record { time = time; length = length (decimal time) + 2 })
unfolding read_stamp is_stamp
stamp-field bs time rest f = rw (f.ended, f.number, f.tells, f.long) refl

pub stamp-read : (time : ℕ) (rest : List ℕ) → time ≤ largest_time
    → read_stamp (stamp_line time ++ rest) ≡ Some (record { time = time; length = length (stamp_line time) })
stamp-read time rest h =
    ap read_stamp (stamp-front time rest)
    ∙ stamp-field (decimal time ++ (lf ∷ rest)) time rest (numeral-field ten lf largest_time time rest (omega arith) (omega arith) h)
    ∙ ap (λ n. Some (record { time = time; length = n })) (sym (stamp-length time))

-- R405: a value line, whatever stands behind it
value-front : (c : Change) (rest : List ℕ) → value_line c ++ rest ≡ code "b" ∷ (numeral two c.fill ++ (blank ∷ (decimal c.variable ++ (lf ∷ rest))))
unfolding value_line
value-front c rest =
    ap (λ l. code "b" ∷ l)
    (append_assoc (numeral two c.fill) (blank ∷ (decimal c.variable ++ (lf ∷ []))) rest
    ∙ ap (λ l. numeral two c.fill ++ (blank ∷ l)) (append_snoc (decimal c.variable) lf rest))

value-fields : (bs : List ℕ) (c : Change) (middle rest : List ℕ) → Field two blank largest_fill bs c.fill middle
    → Field ten lf (most_variables - 1) middle c.variable rest
    → read_value (code "b" ∷ bs)
    ≡ Some (record { variable = c.variable; fill = c.fill; length = length (numeral two c.fill) + length (decimal c.variable) + 3 })
unfolding read_value is_value_line
value-fields bs c middle rest f g =
    rw (f.leaves, f.ended, f.number, f.tells, f.long, g.ended, g.number, g.tells, g.long) refl

pub value_read : (c : Change) (rest : List ℕ) → Small c → read_value (value_line c ++ rest) ≡ Some (line_of c)
value_read c rest s =
    let v : c.variable < most_variables = s.variable in
    ap read_value (value-front c rest)
    ∙ value-fields (numeral two c.fill ++ (blank ∷ (decimal c.variable ++ (lf ∷ rest)))) c (decimal c.variable ++ (lf ∷ rest)) rest
    (numeral-field two blank largest_fill c.fill (decimal c.variable ++ (lf ∷ rest)) (omega arith) (omega arith) s.fill)
    (numeral-field ten lf (most_variables - 1) c.variable rest (omega arith) (omega arith) (omega arith))
    ∙ ap (λ n. Some (record { variable = c.variable; fill = c.fill; length = n })) (sym (value-length c))

-- no value line stands where the bytes begin otherwise, or there are none
pub value-missing : (bs : List ℕ) → eqb (get_or bs 0 0) (code "b") ≡ false → read_value bs ≡ None
unfolding read_value is_value_line
value-missing bs e = rw e refl

run_more : (lines from : ℕ) (c : Change) (rest : List ℕ) → Small c → from ≤ c.variable
    → run_within (suc lines) from (value_line c ++ rest) ≡ before c (run_within lines (suc c.variable) rest)
unfolding next_value run_within one_more
run_more lines from c rest s h =
    rw (value_read c rest s, le-leb from c.variable h)
    (ap (λ bs. before c (run_within lines (suc c.variable) bs)) (drop-append_seam (value_line c) rest))

run_end : (lines from : ℕ) (rest : List ℕ) → read_value rest ≡ None → run_within lines from rest ≡ ran []
unfolding next_value run_within value_lines
run_end zero from rest e = refl
run_end (suc lines) from rest e = rw e refl

-- read, the lines of changes are those changes, if no value line stands behind them
run-lines : (lines from : ℕ) (cs : List Change) (rest : List ℕ) → Rising from cs → length cs ≤ lines → read_value rest ≡ None
    → run_within lines from (value_lines cs ++ rest) ≡ ran cs
unfolding Rising value_lines
run-lines lines from [] rest r h e = run_end lines from rest e
run-lines zero from (c ∷ cs) rest r h e = absurd (not-suc-le-zero h)
run-lines (suc lines) from (c ∷ cs) rest r h e =
    ap (run_within (suc lines) from) (append_assoc (value_line c) (value_lines cs) rest)
    ∙ run_more lines from c (value_lines cs ++ rest) r.0 r.1
    ∙ ap (before c) (run-lines lines (suc c.variable) cs rest r.2 (omega arith) e)
    ∙ ap (λ n. record { changes = c ∷ cs; length = n }) (sym (length-append (value_line c) (value_lines cs)))

lines-length : (cs : List Change) → length cs ≤ length (value_lines cs)
unfolding value_lines
lines-length [] = omega arith
lines-length (c ∷ cs) =
    let l = lines-length cs in
    let a = length-append (value_line c) (value_lines cs) in
    let b = value-length c in
    omega arith

pub run-read : (cs : List Change) (rest : List ℕ) → Rising 0 cs → read_value rest ≡ None → value_run (value_lines cs ++ rest) ≡ ran cs
unfolding value_run
run-read cs rest r e =
    let l = lines-length cs in
    let a = length-append (value_lines cs) rest in
    run-lines (length (value_lines cs ++ rest)) 0 cs rest r (omega arith) e

-- the changes of a step: one more behind changes that rise
rising-more : (from : ℕ) (cs : List Change) (c : Change) → Rising from cs → needed_from from cs ≤ c.variable → Small c → Rising from (cs ++ (c ∷ []))
unfolding Rising needed_from
rising-more from [] c r h s = (s, h, tt)
rising-more from (d ∷ cs) c r h s = (r.0, r.1, rising-more (suc d.variable) cs c r.2 h s)

needed-more : (least : ℕ) (cs : List Change) (c : Change) → needed_from least (cs ++ (c ∷ [])) ≡ suc c.variable
unfolding needed_from
needed-more least [] c = refl
needed-more least (d ∷ cs) c = needed-more (suc d.variable) cs c

-- they rise, and a list as long as the variables is long enough for them
pub changes-rise : (every : Bool) (counts list : List ℕ) (i : ℕ) → i ≤ most_variables → ((j : ℕ) → j < i → get_or counts j 0 ≤ largest_fill)
    → Rising 0 (changes_to every counts list i) × (needed (changes_to every counts list i) ≤ i)
unfolding changes_to Rising needed_from
changes-rise every counts list zero h f = (tt, omega arith)
changes-rise every counts list (suc i) h f =
    go (tells every counts list i) (changes-rise every counts list i (omega arith) (λ j l. f j (omega arith)))
  where
    cs : List Change
    cs = changes_to every counts list i

    go : (t : Bool) → Rising 0 cs × (needed cs ≤ i)
        → Rising 0 (cs ++ cond t (change_at counts i ∷ []) []) × (needed (cs ++ cond t (change_at counts i ∷ []) []) ≤ suc i)
    go true (r, n) =
        let m = needed-more 0 cs (change_at counts i) in
        (rising-more 0 cs (change_at counts i) r n (record { variable = h; fill = f i (omega arith) }), omega arith)
    go false (r, n) = rw append-nil (r, omega arith)

-- a header tells every variable
pub changes-all : (counts list : List ℕ) (i : ℕ) → (length (changes_to true counts list i) ≡ i) × (needed (changes_to true counts list i) ≡ i)
unfolding changes_to tells needed_from
changes-all counts list zero = (refl, refl)
changes-all counts list (suc i) =
    let cs : List Change = changes_to true counts list i in
    let (l, n) = changes-all counts list i in
    let a = length-append cs (change_at counts i ∷ []) in
    (omega arith, needed-more 0 cs (change_at counts i))

-- a step that does not tell a variable is a later one, and finds its fill in the list
pub untold : (every : Bool) (counts list : List ℕ) (i : ℕ) → tells every counts list i ≡ false → (every ≡ false) × (get_or counts i 0 ≡ get_or list i 0)
unfolding tells
untold true counts list i e = absurd (true≢false e)
untold false counts list i e = (refl, eqb-true (get_or counts i 0) (get_or list i 0) (not-false (eqb (get_or counts i 0) (get_or list i 0)) e))

-- R416: what changes leave in a list
applied-behind : (cs ds : List Change) (list : List ℕ) → applied (cs ++ ds) list ≡ applied ds (applied cs list)
unfolding applied
applied-behind [] ds list = refl
applied-behind (c ∷ cs) ds list = applied-behind cs ds (set list c.variable c.fill)

-- one place more of a list that begins with fills
module _ (counts list : List ℕ) (i : ℕ) (within : i < length counts) (room : length counts ≤ length list) where
  one_more-taken : (a : ℕ) → a ≡ get_or counts i 0 → take i counts ++ (a ∷ drop (suc i) list) ≡ take (suc i) counts ++ drop (suc i) list
  one_more-taken a e =
      ap (λ b. take i counts ++ (b ∷ drop (suc i) list)) e
      ∙ sym (append_snoc (take i counts) (get_or counts i 0) (drop (suc i) list))
      ∙ ap (λ l. l ++ drop (suc i) list) (sym (take-suc counts i 0 within))

  place-told : set (take i counts ++ drop i list) i (get_or counts i 0) ≡ take (suc i) counts ++ drop (suc i) list
  place-told =
      ap (λ l. set (take i counts ++ l) i (get_or counts i 0)) (drop-cons list i 0 (omega arith))
      ∙ set_at (take i counts) (get_or list i 0) (drop (suc i) list) (get_or counts i 0) i (length-take-le i counts (omega arith))
      ∙ one_more-taken (get_or counts i 0) refl

  place-untold : get_or counts i 0 ≡ get_or list i 0 → take i counts ++ drop i list ≡ take (suc i) counts ++ drop (suc i) list
  place-untold e = ap (λ l. take i counts ++ l) (drop-cons list i 0 (omega arith)) ∙ one_more-taken (get_or list i 0) (sym e)

-- a list becomes the fills, if it has those already that are not told
applied-to : (every : Bool) (counts list list' : List ℕ) → length counts ≤ length list'
    → ((j : ℕ) → j < length counts → tells every counts list j ≡ false → get_or counts j 0 ≡ get_or list' j 0)
    → (i : ℕ) → i ≤ length counts
    → applied (changes_to every counts list i) list' ≡ take i counts ++ drop i list'
unfolding changes_to applied
applied-to every counts list list' room same zero h = refl
applied-to every counts list list' room same (suc i) h =
    go (tells every counts list i) (same i h) (applied-to every counts list list' room same i (omega arith))
  where
    cs : List Change
    cs = changes_to every counts list i

    go : (t : Bool) → (t ≡ false → get_or counts i 0 ≡ get_or list' i 0) → applied cs list' ≡ take i counts ++ drop i list'
        → applied (cs ++ cond t (change_at counts i ∷ []) []) list' ≡ take (suc i) counts ++ drop (suc i) list'
    go true s e =
        applied-behind cs (change_at counts i ∷ []) list' ∙ ap (λ l. set l i (get_or counts i 0)) e ∙ place-told counts list' i h room
    go false s e = ap (λ ds. applied ds list') (append-nil cs) ∙ e ∙ place-untold counts list' i h room (s refl)

pub applied-changes : (every : Bool) (counts list list' : List ℕ) → length counts ≤ length list'
    → ((j : ℕ) → j < length counts → tells every counts list j ≡ false → get_or counts j 0 ≡ get_or list' j 0)
    → applied (changes every counts list) list' ≡ counts ++ drop (length counts) list'
unfolding changes
applied-changes every counts list list' room same =
    applied-to every counts list list' room same (length counts) (omega arith) ∙ ap (λ l. l ++ drop (length counts) list') (take-length counts)

-- R403: the lines of variables are counted, if no other such line stands behind them
count-lines : (more i count : ℕ) (rest : List ℕ) → count ≤ more → ((k : ℕ) → starts_with (variable_line k) rest ≡ false)
    → variables_from more i (variable_lines i count ++ rest) ≡ i + count
unfolding variables_from variable_lines
count-lines zero i zero rest h e = omega arith
count-lines zero i (suc count) rest h e = absurd (not-suc-le-zero h)
count-lines (suc more) i zero rest h e = rw (e i) (omega arith)
count-lines (suc more) i (suc count) rest h e =
    let behind : List ℕ = variable_lines (suc i) count ++ rest in
    ap (variables_from (suc more) i) (append_assoc (variable_line i) (variable_lines (suc i) count) rest)
    ∙ one behind (starts-append (variable_line i) behind)
    ∙ ap (variables_from more (suc i)) (drop-append_seam (variable_line i) behind)
    ∙ count-lines more (suc i) count rest (omega arith) e
    ∙ omega arith
  where
    one : (behind : List ℕ) → starts_with (variable_line i) (variable_line i ++ behind) ≡ true
        → variables_from (suc more) i (variable_line i ++ behind) ≡ variables_from more (suc i) (drop (length (variable_line i)) (variable_line i ++ behind))
    one behind s = rw s refl

end_none : (rest : List ℕ) (k : ℕ) → starts_with (variable_line k) (variables_end ++ rest) ≡ false
unfolding starts_with variable_line
end_none rest k = refl

names-counted : (count : ℕ) (rest : List ℕ) → count ≤ most_variables → variables_in (names_of count rest) ≡ count
names-counted count rest h = count-lines most_variables 0 count (variables_end ++ rest) h (end_none rest) ∙ omega arith

names-behind : (count : ℕ) (rest : List ℕ) → drop (length variables_begin + length (variable_lines 0 count)) (names_of count rest) ≡ variables_end ++ rest
names-behind count rest =
    drop-append-add variables_begin (variable_lines 0 count ++ (variables_end ++ rest)) (length (variable_lines 0 count))
    ∙ drop-append_seam (variable_lines 0 count) (variables_end ++ rest)

names-by : (bs : List ℕ) (count : ℕ) → starts_with variables_begin bs ≡ true → variables_in bs ≡ count → 1 ≤ count → count % queues ≡ 0
    → starts_with variables_end (drop (length variables_begin + length (variable_lines 0 count)) bs) ≡ true
    → read_names bs ≡ Some (record { count = count; length = names_length count })
unfolding read_names are_names
names-by bs count s e some whole c = rw (e, s, ne_eqb count 0 (λ z. omega arith), eq-eqb (count % queues) 0 whole, c) refl

pub names-read : (count : ℕ) (rest : List ℕ) → 1 ≤ count → count ≤ most_variables → count % queues ≡ 0
    → read_names (names_of count rest) ≡ Some (record { count = count; length = names_length count })
names-read count rest some few whole =
    names-by (names_of count rest) count (starts-append variables_begin (variable_lines 0 count ++ (variables_end ++ rest))) (names-counted count rest few) some whole
    (ap (starts_with variables_end) (names-behind count rest) ∙ starts-append variables_end rest)

behind-names : (count : ℕ) (rest : List ℕ) → drop (names_length count) (names_of count rest) ≡ rest
behind-names count rest =
    sym (drop-drop (length variables_end) (length variables_begin + length (variable_lines 0 count)) (names_of count rest))
    ∙ ap (drop (length variables_end)) (names-behind count rest)
    ∙ drop-append_seam variables_end rest

later-by : (bs : List ℕ) (time n : ℕ) (cs : List Change) → read_stamp bs ≡ Some (record { time = time; length = n }) → drop n bs ≡ value_lines cs
    → value_run (value_lines cs) ≡ ran cs → read_later bs ≡ step_of false time cs
unfolding later_step read_later
later-by bs time n cs s d r = rw (s, d, r, eq-eqb (length (value_lines cs)) (length (value_lines cs)) refl) refl

run-last : (cs : List Change) → Rising 0 cs → value_run (value_lines cs) ≡ ran cs
run-last cs r = ap value_run (sym (append-nil (value_lines cs))) ∙ run-read cs [] r (value-missing [] refl)

pub later-read : (time : ℕ) (cs : List Change) → time ≤ largest_time → Rising 0 cs → read_later (stamp_line time ++ value_lines cs) ≡ step_of false time cs
later-read time cs h r =
    later-by (stamp_line time ++ value_lines cs) time (length (stamp_line time)) cs (stamp-read time (value_lines cs) h)
    (drop-append_seam (stamp_line time) (value_lines cs)) (run-last cs r)

-- and a header
header-by : (bs middle values lines : List ℕ) (count time n m : ℕ) (cs : List Change)
    → read_names bs ≡ Some (record { count = count; length = n }) → drop n bs ≡ middle
    → read_stamp middle ≡ Some (record { time = time; length = m }) → drop m middle ≡ values
    → starts_with values_begin values ≡ true → drop (length values_begin) values ≡ lines
    → (value_run lines).changes ≡ cs → tells_all count lines ≡ true
    → read_header bs ≡ step_of true time cs
unfolding header_step read_stamped read_header
header-by bs middle values lines count time n m cs names b stamp v s d r t = rw (names, b, stamp, v, s, d, r, t) refl

tells_all-told : (count : ℕ) (lines : List ℕ) (cs : List Change) → value_run lines ≡ ran cs → length cs ≡ count → needed cs ≡ count
    → drop (length (value_lines cs)) lines ≡ values_end → length (value_lines cs) + length values_end ≡ length lines
    → tells_all count lines ≡ true
unfolding tells_all starts_with
tells_all-told count lines cs r l n d e =
    rw (r, eq-eqb (length cs) count l, eq-eqb (needed cs) count n, d, eq-eqb (length (value_lines cs) + length values_end) (length lines) e) refl

pub header_read : (count time : ℕ) (cs : List Change) → 1 ≤ count → count ≤ most_variables → count % queues ≡ 0 → time ≤ largest_time → Rising 0 cs
    → length cs ≡ count → needed cs ≡ count → read_header (header_of count time cs) ≡ step_of true time cs
header_read count time cs some few whole h r l n =
    let lines : List ℕ = value_lines cs ++ values_end in
    let values : List ℕ = values_begin ++ lines in
    let told : value_run lines ≡ ran cs = run-read cs values_end r (value-missing values_end refl) in
    header-by (header_of count time cs) (stamp_line time ++ values) values lines count time (names_length count) (length (stamp_line time)) cs
    (names-read count (stamp_line time ++ values) some few whole)
    (behind-names count (stamp_line time ++ values))
    (stamp-read time values h)
    (drop-append_seam (stamp_line time) values)
    (starts-append values_begin lines)
    (drop-append_seam values_begin lines)
    (ap (λ (a : ValueRun). a.changes) told)
    (tells_all-told count lines cs told l n (drop-append_seam (value_lines cs) values_end) (sym (length-append (value_lines cs) values_end)))

-- R421, R422: of the bytes of a step the reader makes that step
pub step-read : (first : Bool) (time : ℕ) (counts list : List ℕ) → Tellable time counts
    → read_step (step_bytes first time counts list) ≡ step_of first time (changes first counts list)
unfolding read_step step_bytes stamp_line changes
step-read true time counts list t =
    let (r, n) = changes-rise true counts list (length counts) t.few t.fills in
    let (l, m) = changes-all counts list (length counts) in
    header_read (length counts) time (changes_to true counts list (length counts)) t.some t.few t.whole t.early r l m
step-read false time counts list t =
    let (r, n) = changes-rise false counts list (length counts) t.few t.fills in
    later-read time (changes_to false counts list (length counts)) t.early r
