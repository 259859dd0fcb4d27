-- Laws that the proofs of this crate cite. Order: what four lines give; the order of a queue number; a dimension's cases; the list of cases; an
-- output looked for among the lines. Assumes nothing.
use mathlib.Core.Path.{◌≡◌, refl, ap, ap₂, sym, ◌∙◌}
use mathlib.Core.Bool.{Bool, true, false, cond, not, ◌||◌}
use mathlib.Core.List.{List, [], ◌∷◌, ◌++◌, append_assoc}
use mathlib.Core.Logic.{◌⊎◌, inl, inr, ◌≢◌}
use Prim.Native.Nat.{ℕ, suc, ◌+◌, ◌<◌, ◌≤◌}
use borrow.Author.Tests.{eq-eqb, ne_eqb}
use lib.Dec.{eqb}
use lib.ListN.{length, get_or, drop}
use Rattle.base.specs.Tests.{elem, EachBelow}
use Rattle.base.proofs.Tests.{each_at, each_from}
use Rattle.network.specs.declared.Sign.{Sign}
use Rattle.network.specs.Sizes.{queues}
use Rattle.network.specs.Packet.{offset}
use Rattle.network.specs.Routes.{routes}
use Rattle.network.specs.Selection.{sign, adaptive_x, adaptive_y, adaptive_z, in_turn, last_case, selection, selected}
use Rattle.network.proofs.SelectionLaws.{selection-routes}
use Rattle.routes.specs.Lines.{last_selection_line, applies, outputs_from, unless_zero, adaptive}
use Rattle.routes.specs.LinesLaws.{line_taken, line-passed, lines_end}

-- What four lines give ----------------------------------------------------------------------------------------------------------------

before_last : (k o : ℕ) (os : List ℕ) → eqb k last_selection_line ≡ false → outputs_from k (o ∷ os) ≡ unless_zero o ++ outputs_from (suc k) os
unfolding outputs_from applies
before_last k o os e = rw e (go (eqb o 0))
  where
    go : (none : Bool) → cond (not none) (o ∷ outputs_from (suc k) os) (outputs_from (suc k) os) ≡ cond none [] (o ∷ []) ++ outputs_from (suc k) os
    go true = refl
    go false = refl

four-lines : (first second third last : ℕ)
    → outputs_from 0 (first ∷ second ∷ third ∷ last ∷ []) ≡ (unless_zero first ++ (unless_zero second ++ unless_zero third)) ++ (last ∷ [])
unfolding outputs_from applies
four-lines first second third last =
    before_last 0 first (second ∷ third ∷ last ∷ []) refl
    ∙ ap (λ (l : List ℕ). unless_zero first ++ l)
    (before_last 1 second (third ∷ last ∷ []) refl
    ∙ ap (λ (l : List ℕ). unless_zero second ++ l) (before_last 2 third (last ∷ []) refl)
    ∙ sym (append_assoc (unless_zero second) (unless_zero third) (last ∷ [])))
    ∙ sym (append_assoc (unless_zero first) (unless_zero second ++ unless_zero third) (last ∷ []))

-- The order of a queue number ---------------------------------------------------------------------------------------------------------

-- as the arms of the code's match lie, in ranges: from one number on, below another
abbrev Range : ℕ → ℕ → ℕ → Type 0
Range from below q = (from ≤ q) × (q < below)

x-first : (q : ℕ) → (q < 3) ⊎ Range 7 9 q → (x y z : List ℕ) → x ++ (y ++ z) ≡ in_turn q x y z
unfolding in_turn EachBelow
x-first q (inl h) x y z = each_at (λ (q : ℕ). x ++ (y ++ z) ≡ in_turn q x y z) 3 (((tt, refl), refl), refl) q h
x-first q (inr (l, h)) x y z = each_from (λ (q : ℕ). x ++ (y ++ z) ≡ in_turn q x y z) 7 2 ((tt, refl), refl) q l h

y-first : (q : ℕ) → Range 3 5 q ⊎ Range 9 11 q → (x y z : List ℕ) → y ++ (x ++ z) ≡ in_turn q x y z
unfolding in_turn EachBelow
y-first q (inl (l, h)) x y z = each_from (λ (q : ℕ). y ++ (x ++ z) ≡ in_turn q x y z) 3 2 ((tt, refl), refl) q l h
y-first q (inr (l, h)) x y z = each_from (λ (q : ℕ). y ++ (x ++ z) ≡ in_turn q x y z) 9 2 ((tt, refl), refl) q l h

z-first : (q : ℕ) → Range 5 7 q ⊎ Range 11 13 q → (x y z : List ℕ) → z ++ (x ++ y) ≡ in_turn q x y z
unfolding in_turn EachBelow
z-first q (inl (l, h)) x y z = each_from (λ (q : ℕ). z ++ (x ++ y) ≡ in_turn q x y z) 5 2 ((tt, refl), refl) q l h
z-first q (inr (l, h)) x y z = each_from (λ (q : ℕ). z ++ (x ++ y) ≡ in_turn q x y z) 11 2 ((tt, refl), refl) q l h

-- A dimension's cases ----------------------------------------------------------------------------------------------------------------

-- what a line gives by itself, where its two queues are those of the cases
pub along : (plus minus : ℕ) (cases : Sign → List ℕ) → unless_zero plus ≡ cases Sign.Plus → unless_zero minus ≡ cases Sign.Minus → [] ≡ cases Sign.Zero
    → (d : Sign) → unless_zero (adaptive plus minus d) ≡ cases d
along plus minus cases p m z Sign.Plus = p
along plus minus cases p m z Sign.Minus = m
along plus minus cases p m z Sign.Zero = z

-- The list of cases -------------------------------------------------------------------------------------------------------------------

-- what the code has decided by the signs of dx, dy and dz
pub record Decided (dx dy dz : Sign) (x y z last : ℕ) : Type 0 where
  pub x-is : unless_zero x ≡ adaptive_x dx
  pub y-is : unless_zero y ≡ adaptive_y dy
  pub z-is : unless_zero z ≡ adaptive_z dz
  pub last-is : last ≡ last_case dx dy dz

module _ {x y z last : ℕ} {dx dy dz : Sign} (d : Decided dx dy dz x y z last) where
  -- whichever of them comes first
  answer : (q first second third : ℕ) {a b c : List ℕ} → unless_zero first ≡ a → unless_zero second ≡ b → unless_zero third ≡ c
      → a ++ (b ++ c) ≡ in_turn q (adaptive_x dx) (adaptive_y dy) (adaptive_z dz)
      → outputs_from 0 (first ∷ second ∷ third ∷ last ∷ []) ≡ selection q dx dy dz
  unfolding selection
  answer q first second third e f g order =
      four-lines first second third last
      ∙ ap₂ (λ (l : List ℕ) (o : ℕ). l ++ (o ∷ []))
      (ap₂ (λ (a b : List ℕ). a ++ b) e (ap₂ (λ (a b : List ℕ). a ++ b) f g) ∙ order)
      d.last-is

  pub by-x-first : {q : ℕ} → (q < 3) ⊎ Range 7 9 q → outputs_from 0 (x ∷ y ∷ z ∷ last ∷ []) ≡ selection q dx dy dz
  by-x-first {q} row = answer q x y z d.x-is d.y-is d.z-is (x-first q row (adaptive_x dx) (adaptive_y dy) (adaptive_z dz))

  pub by-y-first : {q : ℕ} → Range 3 5 q ⊎ Range 9 11 q → outputs_from 0 (y ∷ x ∷ z ∷ last ∷ []) ≡ selection q dx dy dz
  by-y-first {q} row = answer q y x z d.y-is d.x-is d.z-is (y-first q row (adaptive_x dx) (adaptive_y dy) (adaptive_z dz))

  pub by-z-first : {q : ℕ} → Range 5 7 q ⊎ Range 11 13 q → outputs_from 0 (z ∷ x ∷ y ∷ last ∷ []) ≡ selection q dx dy dz
  by-z-first {q} row = answer q z x y d.z-is d.x-is d.y-is (z-first q row (adaptive_x dx) (adaptive_y dy) (adaptive_z dz))

-- the list of the signs of a head's offsets is its routes
pub are-cases : (q p : ℕ) {dx dy dz : Sign} → dx ≡ sign (offset 0 p) → dy ≡ sign (offset 1 p) → dz ≡ sign (offset 2 p)
    → selection q dx dy dz ≡ selection q (sign (offset 0 p)) (sign (offset 1 p)) (sign (offset 2 p))
are-cases q p {dx} {dy} {dz} x y z =
    ap₂ (λ (a b : Sign). selection q a b dz) x y ∙ ap (selection q (sign (offset 0 p)) (sign (offset 1 p))) z

pub are-routes : (q p : ℕ) → q < queues → selection q (sign (offset 0 p)) (sign (offset 1 p)) (sign (offset 2 p)) ≡ routes q p
unfolding selected
are-routes q p h = selection-routes q p h

-- An output looked for among the lines ------------------------------------------------------------------------------------------------

module _ (o : ℕ) (r : List ℕ) (k : ℕ) (h : k < length r) where
  pub elem-here : get_or r k 0 ≡ o → applies k (get_or r k 0) ≡ true → elem o (outputs_from k (drop k r)) ≡ true
  unfolding elem
  elem-here e a =
      ap (elem o) (line_taken r k h a) ∙ ap (λ b. b || elem o (outputs_from (k + 1) (drop (k + 1) r))) (eq-eqb o (get_or r k 0) (sym e))

  pub elem-passed : applies k (get_or r k 0) ≡ false → elem o (outputs_from (k + 1) (drop (k + 1) r)) ≡ elem o (outputs_from k (drop k r))
  elem-passed a = sym (ap (elem o) (line-passed r k h a))

  pub elem-other : get_or r k 0 ≢ o → elem o (outputs_from (k + 1) (drop (k + 1) r)) ≡ elem o (outputs_from k (drop k r))
  unfolding elem
  elem-other ne = go (applies k (get_or r k 0)) refl
    where
      go : (b : Bool) → applies k (get_or r k 0) ≡ b → elem o (outputs_from (k + 1) (drop (k + 1) r)) ≡ elem o (outputs_from k (drop k r))
      go true a =
          sym
          (ap (elem o) (line_taken r k h a)
          ∙ ap (λ b. b || elem o (outputs_from (k + 1) (drop (k + 1) r))) (ne_eqb o (get_or r k 0) (λ e. ne (sym e))))
      go false a = elem-passed a

pub elem_end : (o : ℕ) (r : List ℕ) (k : ℕ) → k ≡ length r → elem o (outputs_from k (drop k r)) ≡ false
unfolding elem
elem_end o r k e = ap (elem o) (lines_end r k e)
