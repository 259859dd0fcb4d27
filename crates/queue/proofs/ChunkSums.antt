-- The chunks of packets added up. Assumes nothing.
use mathlib.Core.Path.{◌≡◌, refl, ap, ◌∙◌}
use mathlib.Core.List.{List, [], ◌∷◌}
use Prim.Native.Nat.{ℕ, ◌+◌}
use Rattle.std.specs.List.{sum_by}
use Rattle.std.proofs.lemmas.List.Sums.{sum_by-cons}
use Rattle.base.specs.Sums.{sum_of}

pub by-of : (f : ℕ → ℕ) (l : List ℕ) → sum_by f l ≡ sum_of f l
unfolding sum_of
by-of f [] = refl
by-of f (x ∷ l) = sum_by-cons f x l ∙ ap (λ (n : ℕ). f x + n) (by-of f l)
