-- A field, a time stamp and a value by the tests of the code, and what their lengths are. Order: bytes from a place on; a field; a time stamp; a
-- value; how long they are. Assumes nothing.
use mathlib.Core.Path.{◌≡◌, refl, ap, ap₂, sym, ◌∙◌}
use mathlib.Core.Logic.{◌≢◌}
use mathlib.Core.Bool.{Bool, true, false, ◌&&◌, and_assoc, and-false}
use mathlib.Core.List.{List}
use Prim.Native.Nat.{ℕ, suc, ◌+◌, ◌-◌, ◌<◌, ◌≤◌}
use Prim.Native.Char.{code}
use native.Mathlib.Omega.{arith}
use lib.Dec.{T, leb, eqb}
use lib.ListN.{length, get_or, take, drop, length-drop}
use lib.Seq.{take_all, drop-drop}
use borrow.Author.Tests.{lt-ltb, le-ltb, ltb-true, leb-true}
use Rattle.base.specs.Tests.{all_of}
use Rattle.base.proofs.Tests.{and_l, and_r, T_true, true-T}
use Rattle.std.specs.Prelude.{Option, Some, None, cond, option_map, option_and_then}
use Rattle.std.proofs.lemmas.Option.{cond_some, option_and_then_some}
use mathlib.Core.Path.{subst}
use Rattle.reader.specs.Reading.{number_of, is-number, number_is, number_fits, not-number}
use Rattle.sheet.specs.Text.{lf}
use Rattle.sheet.specs.Commands.{up_to, ten, value, is_number, is_digit, no_leading_zero}
use Rattle.sheet.specs.Fields.{end_from}
use Rattle.sheet.proofs.Fields.{field-up_to, end-within}
use Rattle.waveform.specs.declared.ValueLine.{ValueLine}
use Rattle.waveform.specs.declared.TimeStamp.{TimeStamp}
use Rattle.waveform.specs.Dump.{most_variables, two}
use Rattle.waveform.specs.Reading.{is_ended, behind, largest_time, is_stamp, read_stamp, largest_fill, blank, fill_field, variable_field, is_value_line, read_value, not_before, next_value}
use Rattle.dump_reader.specs.declared.Field.{Field}
use Rattle.dump_reader.specs.Parsing.{is_field, field_from}

-- the bytes from a place on, as the code lends them
abbrev pub onward : List ℕ → ℕ → List ℕ
onward bs at = take (length bs - at) (drop at bs)

pub onward-drop : (bs : List ℕ) (at : ℕ) → onward bs at ≡ drop at bs
onward-drop bs at = take_all (length bs - at) (drop at bs) (omega (arith, length-drop at bs))

-- a field, by where it ends and what was read in it
module _ (stop base most : ℕ) (bs : List ℕ) (from : ℕ) (w : from ≤ length bs) where
  no-field : is_field stop base most (drop from bs) ≡ false → None ≡ field_from stop base most bs from
  unfolding field_from
  no-field e = rw e refl

  module _ {end : ℕ} (q : end ≡ end_from stop bs from) where
    pub field_open : end ≡ length bs → None ≡ field_from stop base most bs from
    field_open e =
        let d = length-drop from bs in
        let l : length (drop from bs) ≤ length (up_to stop (drop from bs)) = omega arith in
        no-field (ap (λ b. b && is_number base most (up_to stop (drop from bs))) (le-ltb (length (up_to stop (drop from bs))) (length (drop from bs)) l))

    pub field-end-within : end ≤ length bs
    field-end-within = let l = end-within stop bs from w in omega arith

    module _ {read : Option ℕ} (r : read ≡ number_of base most (take (end - from) (drop from bs))) where
      read-there : read ≡ number_of base most (up_to stop (drop from bs))
      read-there = r ∙ ap (λ k. number_of base most (take (k - from) (drop from bs))) q ∙ ap (number_of base most) (field-up_to stop bs from)

      pub field-none : read ≡ None → None ≡ field_from stop base most bs from
      field-none e =
          no-field
          (ap (λ b. is_ended stop (drop from bs) && b) (not-number base most (up_to stop (drop from bs)) (sym e ∙ read-there))
          ∙ and-false (is_ended stop (drop from bs)))

      module _ (n : ℕ) (e : read ≡ Some n) where
        pub field-fits : n ≤ most
        field-fits = number_fits base most (up_to stop (drop from bs)) n (sym e ∙ read-there)

        pub field-number : end ≢ length bs → Some (record { value = n; next = end + 1 }) ≡ field_from stop base most bs from
        unfolding field_from
        field-number f =
            let field : List ℕ = up_to stop (drop from bs) in
            let v : Some n ≡ number_of base most field = sym e ∙ read-there in
            let d = length-drop from bs in
            let l = field-end-within in
            let s : length field < length (drop from bs) = omega (arith, f) in
            let there : is_field stop base most (drop from bs) ≡ true
            = ap₂ (λ a b. a && b) (lt-ltb (length field) (length (drop from bs)) s) (is-number base most field n v) in
            rw (there, number_is base most field n v, q) refl

-- a time stamp by its first byte and its field
abbrev stamp_of : Field → TimeStamp
stamp_of f = record { time = f.value; length = f.next }

pub stamp_by : (bs : List ℕ) → read_stamp bs ≡ cond (eqb (get_or bs 0 0) (code "#")) (option_map stamp_of (field_from lf ten largest_time bs 1)) None
unfolding read_stamp is_stamp field_from
stamp_by bs = go (eqb (get_or bs 0 0) (code "#")) (is_field lf ten largest_time (drop 1 bs))
  where
    stamp : ℕ → TimeStamp
    stamp n = record { time = value ten (up_to lf (drop 1 bs)); length = n }

    field : Field
    field = record { value = value ten (up_to lf (drop 1 bs)); next = end_from lf bs 1 + 1 }

    long : length (up_to lf (drop 1 bs)) + 2 ≡ end_from lf bs 1 + 1
    long = omega arith

    go : (a b : Bool)
        → cond (a && b) (Some (stamp (length (up_to lf (drop 1 bs)) + 2))) None ≡ cond a (option_map stamp_of (cond b (Some field) None)) None
    go true true = ap (λ n. Some (stamp n)) long
    go true false = refl
    go false b = refl

-- a value, if its variable is `least` or a later one, by its first byte and its fields
abbrev line_by : Field → Field → ValueLine
line_by f v = record { variable = v.value; fill = f.value; length = v.next }

module _ (least : ℕ) (bs : List ℕ) where
  is-value : is_value_line bs
      ≡ (eqb (get_or bs 0 0) (code "b") && (is_field blank two largest_fill (drop 1 bs) && is_field lf ten (most_variables - 1) (behind blank (drop 1 bs))))
  unfolding is_value_line
  is-value =
      ap (λ b. eqb (get_or bs 0 0) (code "b") && b)
      (sym
      (and_assoc (is_ended blank (drop 1 bs)) (is_number two largest_fill (fill_field bs)) (is_field lf ten (most_variables - 1) (behind blank (drop 1 bs)))))

  -- the fill's field, and the variable's behind it
  fill_is : Field
  fill_is = record { value = value two (fill_field bs); next = end_from blank bs 1 + 1 }

  variable_is : Field
  variable_is = record { value = value ten (variable_field bs); next = length (fill_field bs) + length (variable_field bs) + 3 }

  place : drop (end_from blank bs 1 + 1) bs ≡ behind blank (drop 1 bs)
  place =
      let n : end_from blank bs 1 + 1 ≡ 1 + suc (length (fill_field bs)) = omega arith in
      ap (λ k. drop k bs) n ∙ sym (drop-drop (suc (length (fill_field bs))) 1 bs)

  variable-by : field_from lf ten (most_variables - 1) bs (end_from blank bs 1 + 1)
      ≡ cond (is_field lf ten (most_variables - 1) (behind blank (drop 1 bs))) (Some variable_is) None
  unfolding field_from variable_is
  variable-by =
      let at : ℕ = end_from blank bs 1 + 1 in
      let n : at + length (variable_field bs) + 1 ≡ length (fill_field bs) + length (variable_field bs) + 3 = omega arith in
      ap (λ s. cond (is_field lf ten (most_variables - 1) s) (Some (record { value = value ten (up_to lf s); next = at + length (up_to lf s) + 1 })) None) place
      ∙ ap
      (λ k. cond (is_field lf ten (most_variables - 1) (behind blank (drop 1 bs))) (Some (record { value = value ten (variable_field bs); next = k })) None)
      n

  pub value_by : next_value least bs
      ≡ cond (eqb (get_or bs 0 0) (code "b"))
      (option_and_then (λ f. option_and_then (λ v. not_before least (line_by f v)) (field_from lf ten (most_variables - 1) bs f.next))
      (field_from blank two largest_fill bs 1))
      None
  unfolding next_value read_value field_from fill_is variable_is
  value_by =
      ap (λ t. option_and_then (not_before least) (cond t (Some (line_by fill_is variable_is)) None)) is-value
      ∙ go (eqb (get_or bs 0 0) (code "b")) (is_field blank two largest_fill (drop 1 bs)) (is_field lf ten (most_variables - 1) (behind blank (drop 1 bs)))
      (λ f. field_from lf ten (most_variables - 1) bs f.next)
      variable-by
    where
      go : (a b c : Bool) (next : Field → Option Field) → next fill_is ≡ cond c (Some variable_is) None
          → option_and_then (not_before least) (cond (a && (b && c)) (Some (line_by fill_is variable_is)) None)
          ≡ cond a (option_and_then (λ f. option_and_then (λ v. not_before least (line_by f v)) (next f)) (cond b (Some fill_is) None)) None
      go true true true next e = rw e refl
      go true true false next e = rw e refl
      go true false c next e = refl
      go false b c next e = refl

-- what a number is, and a field that is ended
number_small : (base most : ℕ) (field : List ℕ) → T (is_number base most field) → value base field ≤ most
unfolding is_number
number_small base most field t =
    let small = leb (value base field) most in
    let digits = all_of (is_digit base) field in
    leb-true (value base field) most (T_true small (and_r digits small (and_r (no_leading_zero field) (digits && small) t)))

ended : (stop : ℕ) (bs : List ℕ) → T (is_ended stop bs) → length (up_to stop bs) < length bs
ended stop bs t = ltb-true (length (up_to stop bs)) (length bs) (T_true (is_ended stop bs) t)

-- how many bytes a time stamp and a value have; a value has some, and its variable is one of those of the largest network
pub stamp-within : (bs : List ℕ) (s : TimeStamp) → read_stamp bs ≡ Some s → s.length ≤ length bs
unfolding read_stamp is_stamp
stamp-within bs s e =
    let (t, same) = cond_some (is_stamp bs) _ s e in
    let n = is_number ten largest_time (up_to lf (drop 1 bs)) in
    let l = ended lf (drop 1 bs) (and_l (is_ended lf (drop 1 bs)) n (and_r (eqb (get_or bs 0 0) (code "#")) (is_ended lf (drop 1 bs) && n) (true-T (is_stamp bs) t))) in
    let d = length-drop 1 bs in
    rw (sym same) (omega arith)

pub record Within (bs : List ℕ) (r : ValueLine) : Type 0 where
  pub within : r.length ≤ length bs
  pub some : 1 ≤ r.length
  pub small : r.variable < most_variables

pub value-within : (bs : List ℕ) (l : ValueLine) → read_value bs ≡ Some l → Within bs l
unfolding read_value
value-within bs line e =
    let (is, same) = cond_some (is_value_line bs) _ line e in
    let t = rw (is-value 0 bs) at (true-T (is_value_line bs) is) in
    let s : List ℕ = behind blank (drop 1 bs) in
    let fill = is_field blank two largest_fill (drop 1 bs) in
    let variable = is_field lf ten (most_variables - 1) s in
    let u = and_r (eqb (get_or bs 0 0) (code "b")) (fill && variable) t in
    let l = ended blank (drop 1 bs) (and_l (is_ended blank (drop 1 bs)) (is_number two largest_fill (fill_field bs)) (and_l fill variable u)) in
    let v = and_r fill variable u in
    let m = ended lf s (and_l (is_ended lf s) (is_number ten (most_variables - 1) (variable_field bs)) v) in
    let k = number_small ten (most_variables - 1) (variable_field bs) (and_r (is_ended lf s) (is_number ten (most_variables - 1) (variable_field bs)) v) in
    let d = length-drop 1 bs in
    let d' = length-drop (suc (length (fill_field bs))) (drop 1 bs) in
    rw (sym same) (record { within = omega arith; some = omega arith; small = omega arith })

-- one that goes on with values that have come to variable `least`
pub next-within : (least : ℕ) (bs : List ℕ) (l : ValueLine) → next_value least bs ≡ Some l → Within bs l × (least ≤ l.variable)
unfolding next_value
next-within least bs l e =
    option_and_then_some (not_before least) (read_value bs) l e
    (λ m is f. let (t, same) = cond_some (leb least m.variable) m l f in
    subst (λ (k : ValueLine). Within bs k × (least ≤ k.variable)) same (value-within bs m is, leb-true least m.variable t))
