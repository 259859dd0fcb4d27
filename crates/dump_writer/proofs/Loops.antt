-- The loops of the writer of a dump, turn by turn. Order: the lines of the variables, counted and put; those of the values, counted and put. Assumes nothing.
use mathlib.Core.Path.{◌≡◌, refl, ap, sym, ◌∙◌}
use mathlib.Core.Bool.{Bool, true, false, not, ◌||◌}
use mathlib.Core.List.{List, [], ◌++◌}
use mathlib.Core.Logic.{◌⊎◌, inl, inr}
use Prim.Native.Nat.{ℕ, zero, suc, ◌+◌, ◌*◌, ◌-◌, ◌<◌, ◌≤◌}
use native.Mathlib.Nat.{eq-or-lt_of_le}
use native.Mathlib.Omega.{arith}
use lib.Dec.{eqb}
use lib.ListN.{length, get_or, length-append}
use Rattle.sheet.proofs.Puts.{put-none, put-length}
use Rattle.fields.specs.declared.Page.{Page}
use Rattle.fields.specs.Puts.{Fits, Puts}
use Rattle.fields.proofs.Pages.{Left, left-as, left-room, left-behind, left-none, puts-behind}
use Rattle.waveform.specs.Dump.{most_variables, variable_line, variable_lines, value_line, value_lines, tells, changes_to, changes}
use Rattle.waveform.specs.Reading.{largest_fill}
use Rattle.waveform.specs.DumpLaws.{change_at}
use Rattle.waveform.proofs.DumpLaws.{lines-told, lines-untold}
use Rattle.waveform.specs.Lengths.{variable_room, value_room}
use Rattle.waveform.proofs.Lengths.{variables-room, values-room}

-- the lines of the variables from number i on
left : (i count : ℕ) → i < count → variable_lines i (count - i) ≡ variable_line i ++ variable_lines (i + 1) (count - (i + 1))
unfolding variable_lines
left i count h = ap (variable_lines i) n ∙ ap (λ k. variable_line i ++ variable_lines k (count - (i + 1))) m
  where
    n : count - i ≡ suc (count - (i + 1))
    n = omega arith

    m : suc i ≡ i + 1
    m = omega arith

none_left : (i count : ℕ) → count ≤ i → variable_lines i (count - i) ≡ []
unfolding variable_lines
none_left i count h = ap (variable_lines i) n
  where
    n : count - i ≡ 0
    n = omega arith

-- the lines before number i have been counted
pub record Counted (count total i : ℕ) : Type 0 where
  pub all : total + length (variable_lines i (count - i)) ≡ length (variable_lines 0 count)

pub counted-more : {count total i : ℕ} (n : ℕ) → Counted count total i → i < count → n ≡ length (variable_line i) → Counted count (total + n) (i + 1)
counted-more {count} {total} {i} n c h e =
    let a = c.all in
    let l : length (variable_lines i (count - i)) ≡ length (variable_line i) + length (variable_lines (i + 1) (count - (i + 1)))
    = ap length (left i count h) ∙ length-append (variable_line i) (variable_lines (i + 1) (count - (i + 1))) in
    record { all = omega arith }

-- the sum stays small, with one line more too
pub counted-few : {count total i : ℕ} (n : ℕ) → Counted count total i → i < count → n ≡ length (variable_line i) → count ≤ most_variables
    → total + n ≤ variable_room * most_variables
counted-few {count} {total} {i} n c h e m =
    let a = (counted-more n c h e).all in
    let r = variables-room 0 count (omega arith) in
    omega arith

pub counted-all : {count total i : ℕ} → Counted count total i → count ≤ i → total ≡ length (variable_lines 0 count)
counted-all {count} {total} {i} c h =
    let a = c.all in
    let l : length (variable_lines i (count - i)) ≡ 0 = ap length (none_left i count h) in
    omega arith

-- the lines from number i on are left to put
abbrev pub VariablesPut : Page → ℕ → Page → ℕ → Type 0
VariablesPut before count page i = Left before (variable_lines 0 count) page (variable_lines i (count - i))

module _ {before : Page} {count : ℕ} {page : Page} {i : ℕ} (v : VariablesPut before count page i) where
  pub variable-room : i < count → Fits page (variable_line i)
  variable-room h = left-room (variable_line i) _ (left-as (left i count h) v)

  pub variables-more : {page' : Page} → i < count → Puts page (variable_line i) page' → VariablesPut before count page' (i + 1)
  variables-more h p = left-behind (variable_line i) _ (left-as (left i count h) v) p

  pub variables-all : count ≤ i → Puts before (variable_lines 0 count) page
  variables-all h = left-none (left-as (none_left i count h) v)

-- the values of the first variables are no longer than all
values-grow : (every : Bool) (counts list : List ℕ) (i n : ℕ) → i ≤ n
    → length (value_lines (changes_to every counts list i)) ≤ length (value_lines (changes_to every counts list n))
values-grow every counts list i zero h = let e : i ≡ 0 = omega arith in rw e (omega arith)
values-grow every counts list i (suc n) h = go (eq-or-lt_of_le h) (λ l. values-grow every counts list i n l)
  where
    one : (b : Bool) → tells every counts list n ≡ b
        → length (value_lines (changes_to every counts list n)) ≤ length (value_lines (changes_to every counts list (suc n)))
    one true e =
        let l : length (value_lines (changes_to every counts list (suc n))) ≡ length (value_lines (changes_to every counts list n)) + length (value_line (change_at counts n))
        = ap length (lines-told every counts list n e) ∙ length-append (value_lines (changes_to every counts list n)) (value_line (change_at counts n)) in
        omega arith
    one false e =
        let l : length (value_lines (changes_to every counts list (suc n))) ≡ length (value_lines (changes_to every counts list n))
        = ap length (lines-untold every counts list n e) in
        omega arith

    go : (i ≡ suc n) ⊎ (i < suc n) → (i ≤ n → length (value_lines (changes_to every counts list i)) ≤ length (value_lines (changes_to every counts list n)))
        → length (value_lines (changes_to every counts list i)) ≤ length (value_lines (changes_to every counts list (suc n)))
    go (inl e) r = rw e (omega arith)
    go (inr l) r = let a = r (omega arith) in let b = one (tells every counts list n) refl in omega arith

-- what `dump_writer::tells` answers is whether the variable is told
pub told_is : (every : Bool) (counts list : List ℕ) (i : ℕ) {r b : Bool} → r ≡ (every || not (eqb (get_or counts i 0) (get_or list i 0))) → r ≡ b
    → tells every counts list i ≡ b
unfolding tells
told_is every counts list i e f = sym e ∙ f

-- the values of the variables before number i have been counted
pub record ValuesCounted (every : Bool) (counts list : List ℕ) (total i : ℕ) : Type 0 where
  pub all : total ≡ length (value_lines (changes_to every counts list i))

module _ (every : Bool) (counts list : List ℕ) where
  pub values-none : ValuesCounted every counts list 0 0
  unfolding changes_to value_lines
  values-none = record { all = refl }

  told-length : (i : ℕ) → tells every counts list i ≡ true
      → length (value_lines (changes_to every counts list (i + 1))) ≡ length (value_lines (changes_to every counts list i)) + length (value_line (change_at counts i))
  told-length i e =
      let n : i + 1 ≡ suc i = omega arith in
      ap (λ k. length (value_lines (changes_to every counts list k))) n
      ∙ ap length (lines-told every counts list i e)
      ∙ length-append (value_lines (changes_to every counts list i)) (value_line (change_at counts i))

  untold-lines : (i : ℕ) → tells every counts list i ≡ false → value_lines (changes_to every counts list (i + 1)) ≡ value_lines (changes_to every counts list i)
  untold-lines i e = let n : i + 1 ≡ suc i = omega arith in ap (λ k. value_lines (changes_to every counts list k)) n ∙ lines-untold every counts list i e

  module _ {total i : ℕ} (c : ValuesCounted every counts list total i) (h : i < length counts) where
    pub values-told : (n : ℕ) → tells every counts list i ≡ true → n ≡ length (value_line (change_at counts i)) → ValuesCounted every counts list (total + n) (i + 1)
    values-told n t e =
        let a = c.all in
        let l = told-length i t in
        record { all = omega arith }

    pub values-untold : tells every counts list i ≡ false → ValuesCounted every counts list total (i + 1)
    values-untold t = record { all = c.all ∙ sym (ap length (untold-lines i t)) }

    pub values-few : (n : ℕ) → tells every counts list i ≡ true → n ≡ length (value_line (change_at counts i)) → length counts ≤ most_variables
        → ((j : ℕ) → get_or counts j 0 ≤ largest_fill) → total + n ≤ value_room * most_variables
    values-few n t e m small =
        let a = (values-told n t e).all in
        let r = values-room every counts list (i + 1) (omega arith) (λ j l. small j) in
        omega arith

  pub values-all : {total i : ℕ} → ValuesCounted every counts list total i → i ≡ length counts → total ≡ length (value_lines (changes every counts list))
  unfolding changes
  values-all {total} {i} c e =
      c.all ∙ ap (λ k. length (value_lines (changes_to every counts list k))) e

-- the values of the variables before number i have been put
abbrev pub ValuesPut : Bool → List ℕ → List ℕ → Page → Page → ℕ → Type 0
ValuesPut every counts list before page i = Puts before (value_lines (changes_to every counts list i)) page

module _ (every : Bool) (counts list : List ℕ) (before : Page) (room : Fits before (value_lines (changes every counts list))) where
  room-to : (i : ℕ) → i ≤ length counts → Fits before (value_lines (changes_to every counts list i))
  unfolding changes
  room-to i h = let g = values-grow every counts list i (length counts) h in omega arith

  pub put-values-none : ValuesPut every counts list before before 0
  unfolding changes_to value_lines
  put-values-none = record { put = put-none before.out.now before.at (omega arith); same_reference = refl }

  module _ {page : Page} {i : ℕ} (v : ValuesPut every counts list before page i) where
    module _ (h : i < length counts) where
      pub value_line_room : tells every counts list i ≡ true → Fits page (value_line (change_at counts i))
      value_line_room t =
          let l = told-length every counts list i t in
          let r = room-to (i + 1) (omega arith) in
          let k = put-length v.put (room-to i (omega arith)) in
          let n = v.put.answers in
          omega arith

      pub put-values-told : {page' : Page} → tells every counts list i ≡ true → Puts page (value_line (change_at counts i)) page'
          → ValuesPut every counts list before page' (i + 1)
      put-values-told t p =
          let n : i + 1 ≡ suc i = omega arith in
          rw (ap (λ k. value_lines (changes_to every counts list k)) n ∙ lines-told every counts list i t) (puts-behind v p (room-to i (omega arith)))

      pub put-values-untold : tells every counts list i ≡ false → ValuesPut every counts list before page (i + 1)
      put-values-untold t = rw (untold-lines every counts list i t) v

    pub put-values-all : i ≡ length counts → Puts before (value_lines (changes every counts list)) page
    unfolding changes
    put-values-all e = rw e at v
