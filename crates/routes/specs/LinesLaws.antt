-- The lines taken one after the other. Assumes nothing.
use Rattle.std.specs.Prelude.{◌≡◌, Bool, true, false, cond, List, [], ◌∷◌, ℕ, zero, suc, ◌+◌, ◌<◌, T, eqb, length, get_or, drop}
use Rattle.std.proofs.Common.{ap, sym, ◌∙◌, add-zero, zero-add, add-suc, suc-add, not-suc-le-zero, le_of_suc-le-suc, add-one, drop-cons}
use Rattle.std.proofs.Math.Dec.{eqb_refl}
use Rattle.std.proofs.Math.Seq.{drop-length}
use Rattle.base.specs.Tests.{elem}
use Rattle.base.proofs.Tests.{or_l, or_r}
use Rattle.routes.specs.Lines.{applies, outputs_from}

step : (r : List ℕ) (k : ℕ) → k < length r
    → outputs_from k (drop k r)
    ≡ cond (applies k (get_or r k 0)) (get_or r k 0 ∷ outputs_from (k + 1) (drop (k + 1) r)) (outputs_from (k + 1) (drop (k + 1) r))
unfolding outputs_from
step r k h =
    ap (outputs_from k) (drop-cons r k 0 h)
    ∙ ap (λ (i : ℕ). cond (applies k (get_or r k 0)) (get_or r k 0 ∷ outputs_from i (drop i r)) (outputs_from i (drop i r))) (sym (add-one k))

-- a line that gives an output, one that gives none, and no more lines
pub line_taken : (r : List ℕ) (k : ℕ) → k < length r → applies k (get_or r k 0) ≡ true
    → outputs_from k (drop k r) ≡ get_or r k 0 ∷ outputs_from (k + 1) (drop (k + 1) r)
line_taken r k h e = rw e at (step r k h)

pub line-passed : (r : List ℕ) (k : ℕ) → k < length r → applies k (get_or r k 0) ≡ false → outputs_from k (drop k r) ≡ outputs_from (k + 1) (drop (k + 1) r)
line-passed r k h e = rw e at (step r k h)

pub lines_end : (r : List ℕ) (k : ℕ) → k ≡ length r → outputs_from k (drop k r) ≡ []
unfolding outputs_from
lines_end r k e = ap (λ (i : ℕ). outputs_from k (drop i r)) e ∙ ap (outputs_from k) (drop-length r)

-- what a line gives is one of the outputs of all lines
member : (i : ℕ) (r : List ℕ) (k : ℕ) → k < length r → applies (i + k) (get_or r k 0) ≡ true → T (elem (get_or r k 0) (outputs_from i r))
unfolding outputs_from elem
member i [] k h a = absurd (not-suc-le-zero h)
member i (o ∷ os) zero h a =
    rw (ap (λ (j : ℕ). applies j o) (sym (add-zero i)) ∙ a) (or_l (eqb o o) (elem o (outputs_from (suc i) os)) (eqb_refl o))
member i (o ∷ os) (suc k) h a = go (applies i o) (member (suc i) os k (le_of_suc-le-suc h) (ap (λ (j : ℕ). applies j (get_or os k 0)) (suc-add i k ∙ sym (add-suc i k)) ∙ a))
  where
    go : (b : Bool) → T (elem (get_or os k 0) (outputs_from (suc i) os)) → T (elem (get_or os k 0) (cond b (o ∷ outputs_from (suc i) os) (outputs_from (suc i) os)))
    go true t = or_r (eqb (get_or os k 0) o) (elem (get_or os k 0) (outputs_from (suc i) os)) t
    go false t = t

pub line-member : (r : List ℕ) (k : ℕ) → k < length r → applies k (get_or r k 0) ≡ true → T (elem (get_or r k 0) (outputs_from 0 r))
line-member r k h a = member 0 r k h (ap (λ (j : ℕ). applies j (get_or r k 0)) (zero-add k) ∙ a)
