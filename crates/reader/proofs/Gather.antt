-- The fields behind the first, read one after another: the invariant of the loop of `read_numbers`, its steps and its ways out.
-- Order: one more number; one more of the first; the invariant. Assumes nothing.
use mathlib.Core.Path.{◌≡◌, refl, ap, ap₂, sym, ◌∙◌}
use mathlib.Core.Bool.{Bool, true, false, ◌&&◌, false≢true}
use mathlib.Core.List.{List, [], ◌∷◌, ◌++◌, map}
use Prim.Native.Nat.{ℕ, suc, ◌+◌, ◌<◌, ◌≤◌}
use native.Mathlib.Omega.{arith}
use lib.ListN.{length, get_or, set, take, drop, length-map}
use lib.Seq.{set_out, take_all, drop-cons}
use Rattle.std.proofs.Common.{take-suc, length-take-le}
use Rattle.std.proofs.lemmas.List.{take-append-drop}
use native.Mathlib.Numerals.{add-one}
use Rattle.base.specs.Tests.{all_of}
use Rattle.std.specs.Prelude.{Option, Some, None}
use Rattle.sheet.specs.Commands.{ten, largest_number, is_number, value}
use Rattle.reader.specs.Reading.{number_of, is-number, number_is, not-number, first_numbers, numbers_of}

-- what is appended to numbers, and their values
all_append : (f : List ℕ → Bool) (xs ys : List (List ℕ)) → all_of f xs ≡ true → all_of f (xs ++ ys) ≡ all_of f ys
unfolding all_of
all_append f [] ys e = refl
all_append f (x ∷ xs) ys e = go (f x) (λ e'. all_append f xs ys e') e
  where
    go : (b : Bool) → (all_of f xs ≡ true → all_of f (xs ++ ys) ≡ all_of f ys) → (b && all_of f xs) ≡ true → (b && all_of f (xs ++ ys)) ≡ all_of f ys
    go true r e = r e
    go false r e = absurd (false≢true e)

map_snoc : (f : List ℕ → ℕ) (xs : List (List ℕ)) (x : List ℕ) → map f (xs ++ (x ∷ [])) ≡ map f xs ++ (f x ∷ [])
map_snoc f [] x = refl
map_snoc f (y ∷ xs) x = ap (λ l. f y ∷ l) (map_snoc f xs x)

-- a number behind those that a command can take is left out
first-snoc : (ns : List ℕ) (n : ℕ) → first_numbers (ns ++ (n ∷ [])) ≡ set (first_numbers ns) (length ns) n
unfolding first_numbers
first-snoc [] n = refl
first-snoc (a ∷ []) n = refl
first-snoc (a ∷ b ∷ []) n = refl
first-snoc (a ∷ b ∷ c ∷ []) n = refl
first-snoc (a ∷ b ∷ c ∷ d ∷ []) n = refl
first-snoc (a ∷ b ∷ c ∷ d ∷ e ∷ []) n = refl
first-snoc (a ∷ b ∷ c ∷ d ∷ e ∷ f ∷ ns) n = refl

-- so many of the fields have been read as numbers
pub record Gathered (fields : List (List ℕ)) (values : List ℕ) (count : ℕ) : Type 0 where
  pub within : count ≤ length fields
  pub valid : all_of (is_number ten largest_number) (take count fields) ≡ true
  pub stored : values ≡ first_numbers (map (value ten) (take count fields))

pub none : (fields : List (List ℕ)) → Gathered fields (0 ∷ 0 ∷ 0 ∷ 0 ∷ 0 ∷ 0 ∷ []) 0
unfolding all_of first_numbers
none fields = record { within = omega arith; valid = refl; stored = refl }

-- the next field, and what is read in it
module _ {fields : List (List ℕ)} {values : List ℕ} {count : ℕ} (g : Gathered fields values count) (field : List ℕ)
    (h : (count < length fields) × (field ≡ get_or fields count field)) {read : Option ℕ} (r : read ≡ number_of ten largest_number field) where
  done-next : take (count + 1) fields ≡ take count fields ++ (field ∷ [])
  done-next =
      ap (λ n. take n fields) (add-one count)
      ∙ take-suc fields count field h.0
      ∙ ap (λ f. take count fields ++ (f ∷ [])) (sym h.1)

  done_length : count ≡ length (map (value ten) (take count fields))
  done_length = sym (length-map (take count fields) (value ten) ∙ length-take-le count fields g.within)

  pub more : (n : ℕ) → read ≡ Some n → Gathered fields (set values count n) (count + 1)
  unfolding all_of
  more n e =
      let s : Some n ≡ number_of ten largest_number field = sym e ∙ r in
      let l = h.0 in
      record {
        within = omega arith;
        valid =
            ap (all_of (is_number ten largest_number)) done-next
            ∙ all_append (is_number ten largest_number) (take count fields) (field ∷ []) g.valid
            ∙ ap (λ b. b && true) (is-number ten largest_number field n s);
        stored =
            ap₂ (λ vs k. set vs k n) g.stored done_length
            ∙ sym (first-snoc (map (value ten) (take count fields)) n)
            ∙ ap (λ v. first_numbers (map (value ten) (take count fields) ++ (v ∷ []))) (number_is ten largest_number field n s)
            ∙ ap first_numbers (sym (map_snoc (value ten) (take count fields) field) ∙ ap (map (value ten)) (sym done-next));
      }

  -- the number is left out where there are as many already
  pub left_out : (n : ℕ) → 6 ≤ count → read ≡ Some n → Gathered fields values (count + 1)
  unfolding first_numbers
  left_out n many e =
      let l : length values ≡ 6 = ap length g.stored in
      rw (set_out values count n (omega arith)) at (more n e)

  pub broken : read ≡ None → None ≡ numbers_of fields
  unfolding numbers_of all_of
  broken e =
      let rest : List (List ℕ) = drop (suc count) fields in
      let parts : fields ≡ take count fields ++ (field ∷ rest)
      = sym (take-append-drop count fields) ∙ ap (λ fs. take count fields ++ fs) (drop-cons fields count field h.0 ∙ ap (λ f. f ∷ rest) (sym h.1)) in
      let bad : all_of (is_number ten largest_number) fields ≡ false
      = ap (all_of (is_number ten largest_number)) parts
      ∙ all_append (is_number ten largest_number) (take count fields) (field ∷ rest) g.valid
      ∙ ap (λ b. b && all_of (is_number ten largest_number) rest) (not-number ten largest_number field (sym e ∙ r)) in
      rw bad refl

pub all : {fields : List (List ℕ)} {values : List ℕ} {count : ℕ} → Gathered fields values count → count ≡ length fields
    → Some (record { count = count; values = values }) ≡ numbers_of fields
unfolding numbers_of
all {fields} {values} {count} g l =
    let e : take count fields ≡ fields = take_all count fields (omega arith) in
    let valid = rw e at g.valid in
    let stored = rw e at g.stored in
    rw (valid, l, stored) refl
