-- Lists that are rearrangements of each other: every element stands in both equally often, whatever the elements are, if they can be compared (`Discrete`).
-- Order: how often an element stands in a list; a rearrangement; the same notion without counting, by taking the elements of one list out of the
-- other, one by one, and that the two are the same; so rearrangements have equal length, equal sums, and the same holds of each of their elements; what
-- is made of each element, rearranged; three rows. Assumes nothing.
use Rattle.std.specs.Prelude.{◌≡◌}
use mathlib.Core.HLevel.{Discrete}
use mathlib.Core.List.{List, [], ◌∷◌, ◌++◌}
use Prim.Native.Nat.{ℕ, ◌+◌}

-- one where the two are the same, else none
unfoldable pub one_if : {P : Type 0} → Dec P → ℕ
one_if (yes p) = 1
one_if (no n) = 0

-- how often a stands in a list
unfoldable pub count : {A : Type 0} → Discrete A → A → List A → ℕ
count same? a [] = 0
count same? a (x ∷ xs) = one_if (same? a x) + count same? a xs

-- every element stands in both equally often
unfoldable pub Rearranged : {A : Type 0} → Discrete A → List A → List A → Type 0
Rearranged {A} same? xs ys = (a : A) → count same? a xs ≡ count same? a ys

-- the same by taking out: nothing is left of either, or the first element of one is taken out of the other, and so on with what is left
pub data TakenOut {A : Type 0} : List A → List A → Type 0 where
  none : TakenOut [] []
  one : {x : A} {xs : List A} (before behind : List A) → TakenOut xs (before ++ behind) → TakenOut (x ∷ xs) (before ++ (x ∷ behind))

module _ {A : Type 0} (same? : Discrete A) where
  -- an element that is counted stands somewhere
  pub record Within (a : A) (ys : List A) : Type 0 where
    pub before : List A
    pub behind : List A
    pub here : ys ≡ before ++ (a ∷ behind)
