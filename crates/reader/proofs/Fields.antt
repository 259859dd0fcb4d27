-- Fields of a line: the byte where one ends, and the fields behind the first. The laws of one field are those of `sheet`,
-- specs/Fields.antt. Order: where it stands; what stands where a field ends; the fields behind it. Assumes nothing.
use mathlib.Core.Path.{◌≡◌, refl, ap, ap₂, sym, ◌∙◌}
use mathlib.Core.Logic.{◌≢◌}
use mathlib.Core.Bool.{Bool, true, false, not, cond}
use mathlib.Core.List.{List, [], ◌∷◌}
use Rattle.std.specs.Prelude.{Option, Some, None, is_some, ltb, eqb}
use Rattle.std.specs.List.{position_or_len, onto_first, slice_split}
use Rattle.std.proofs.lemmas.List.Splits.{slice_split-cons_yes, slice_split-cons_no}
use Rattle.std.proofs.Common.{ltb-false}
use Rattle.std.proofs.lemmas.Option.{cond_some}
use Prim.Native.Nat.{ℕ, ◌+◌, ◌<◌}
use native.Mathlib.Decide.{ℕ_discrete}
use native.Mathlib.Omega.{arith}
use lib.ListN.{length, get_or, drop}
use borrow.Author.Tests.{eq-eqb, ne_eqb}
use Rattle.sheet.specs.Text.{comma}
use Rattle.sheet.specs.Commands.{up_to, first_field, later_fields}
use Rattle.sheet.proofs.Fields.{up_to-length, up_to-stop, up_to-other}
use Rattle.reader.specs.Reading.{number-there}

-- the field that bytes begin with ends where the byte that ends it stands first, or with them
stops-at : (stop : ℕ) (bs : List ℕ) → position_or_len (λ b. eqb b stop) bs ≡ length (up_to stop bs)
unfolding up_to
stops-at stop [] = refl
stops-at stop (b ∷ bs) = go (eqb b stop) (stops-at stop bs)
  where
    go : (t : Bool) → position_or_len (λ b. eqb b stop) bs ≡ length (up_to stop bs)
        → cond (not t) (1 + position_or_len (λ b. eqb b stop) bs) 0 ≡ length (cond t [] (b ∷ up_to stop bs))
    go true e = refl
    go false e = omega arith

abbrev pub Found : ℕ → List ℕ → Option ℕ → Type 0
Found stop bs r = r ≡ cond (ltb (position_or_len (λ b. eqb b stop) bs) (length bs)) (Some (position_or_len (λ b. eqb b stop) bs)) None

module _ (stop : ℕ) (bs : List ℕ) {r : Option ℕ} (f : Found stop bs r) where
  pub found-at : (n : ℕ) → r ≡ Some n → n ≡ length (up_to stop bs)
  found-at n e = sym (cond_some _ _ n (sym f ∙ e)).1 ∙ stops-at stop bs

  pub found-none : r ≡ None → length bs ≡ length (up_to stop bs)
  found-none e =
      let none : ltb (position_or_len (λ b. eqb b stop) bs) (length bs) ≡ false = sym (number-there _ _) ∙ ap is_some (sym f ∙ e) in
      let h = ltb-false _ _ none in
      let l = up_to-length stop bs in
      let s = stops-at stop bs in
      omega arith

later-comma : (b : ℕ) (bs : List ℕ) → b ≡ comma → later_fields (b ∷ bs) ≡ first_field bs ∷ later_fields bs
unfolding later_fields
later-comma b bs e = rw (eq-eqb b comma e) refl

later-other : (b : ℕ) (bs : List ℕ) → b ≢ comma → later_fields (b ∷ bs) ≡ later_fields bs
unfolding later_fields
later-other b bs f = rw (ne_eqb b comma f) refl

-- cut at its commas, a line is its first field and the later ones
pub cut-fields : (line : List ℕ) → slice_split (λ b. eqb b comma) line ≡ first_field line ∷ later_fields line
unfolding up_to later_fields
cut-fields [] = refl
cut-fields (b ∷ bs) = go (ℕ_discrete b comma) (cut-fields bs)
  where
    go : Dec (b ≡ comma) → slice_split (λ b. eqb b comma) bs ≡ first_field bs ∷ later_fields bs
        → slice_split (λ b. eqb b comma) (b ∷ bs) ≡ first_field (b ∷ bs) ∷ later_fields (b ∷ bs)
    go (yes e) h =
        slice_split-cons_yes (λ b. eqb b comma) b bs (eq-eqb b comma e)
        ∙ ap (λ fs. [] ∷ fs) h
        ∙ sym (ap₂ (λ f fs. f ∷ fs) (up_to-stop comma b bs e) (later-comma b bs e))
    go (no f) h =
        slice_split-cons_no (λ b. eqb b comma) b bs (ne_eqb b comma f)
        ∙ ap (onto_first b) h
        ∙ sym (ap₂ (λ f fs. f ∷ fs) (up_to-other comma b bs f) (later-other b bs f))

-- the field that comes when so many have come, of all behind the first
module _ (line : List ℕ) where
  rest-fields : drop 1 (slice_split (λ b. eqb b comma) line) ≡ later_fields line
  rest-fields = ap (drop 1) (cut-fields line)

  pub next_field : (n m : ℕ) (f : List ℕ) → n ≡ m
      → (m < length (drop 1 (slice_split (λ b. eqb b comma) line))) × (f ≡ get_or (drop 1 (slice_split (λ b. eqb b comma) line)) m f)
      → (n < length (later_fields line)) × (f ≡ get_or (later_fields line) n f)
  next_field n m f e h = rw e (rw rest-fields at h)

  pub last_field : (n m : ℕ) → n ≡ m → m ≡ length (drop 1 (slice_split (λ b. eqb b comma) line)) → n ≡ length (later_fields line)
  last_field n m e h = e ∙ h ∙ ap length rest-fields
