-- The command of a line whose first field is a letter and whose other fields are numbers. Assumes nothing.
use mathlib.Core.Path.{◌≡◌, refl, ap, sym, ◌∙◌}
use mathlib.Core.List.{List, map}
use Prim.Native.Nat.{ℕ, ◌+◌, ◌<◌, ◌≤◌}
use native.Mathlib.Omega.{arith}
use lib.ListN.{length, get_or, take, length-map}
use lib.Seq.{get_or-take}
use borrow.Author.Tests.{le-leb, eq-eqb}
use Rattle.sheet.specs.declared.Command.{Command}
use Rattle.reader.specs.declared.Numbers.{Numbers}
use Rattle.sheet.specs.Lines.{line_limit}
use Rattle.sheet.specs.Commands.{first_field, later_fields, ten, value, command_with, well_formed, command_of}
use Rattle.sheet.specs.Text.{comma}
use Rattle.sheet.proofs.Fields.{up_to-length, up_to-take}
use Rattle.reader.specs.Reading.{first_numbers, numbers_of}
use Rattle.std.specs.Prelude.{Option, Some}
use Rattle.std.proofs.lemmas.Option.{cond_some}

module _ (line : List ℕ) {end : ℕ} (q : end ≡ 0 + length (first_field line)) where
  first-length-is : length (first_field line) ≡ end
  first-length-is = omega arith

  pub not-empty : end ≡ 1 → 0 < length line
  not-empty one = let h = up_to-length comma line in omega arith

  module _ {r : Option Numbers} (read : r ≡ numbers_of (later_fields line)) where
    pub letter-and-numbers : (n : Numbers) (answer : Command)
        → ((ns : List ℕ) → n.count ≡ length ns → n.values ≡ first_numbers ns → answer ≡ command_with (get_or line 0 0) ns)
        → length line ≤ line_limit → end ≡ 1 → r ≡ Some n → answer ≡ command_of line
    unfolding numbers_of command_of well_formed
    letter-and-numbers n answer is h one e =
        let first : get_or (first_field line) 0 0 ≡ get_or line 0 0
        = ap (λ s. get_or s 0 0) (sym (up_to-take comma line) ∙ ap (λ k. take k line) (first-length-is ∙ one)) ∙ get_or-take 1 line 0 0 (omega arith) in
        let (valid, numbers) = cond_some _ _ n (sym read ∙ e) in
        let ns : List ℕ = map (value ten) (later_fields line) in
        is ns (sym (ap (λ (m : Numbers). m.count) numbers) ∙ sym (length-map (later_fields line) (value ten))) (sym (ap (λ (m : Numbers). m.values) numbers))
        ∙ rw (le-leb (length line) line_limit h, eq-eqb (length (first_field line)) 1 (first-length-is ∙ one), valid, first) refl
