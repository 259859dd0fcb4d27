-- Laws of bytes that stand at the start of others. Order: too few bytes; what stands behind; byte by byte; the bytes themselves. Assumes nothing.
use Rattle.std.specs.Prelude.{◌≡◌, refl, ◌≢◌, true, false, List, [], ◌∷◌, ◌++◌, eqb, get_or}
use Rattle.std.proofs.Math.Path.{ap, sym}
use Rattle.std.proofs.Common.{ap₂, ◌∙◌, length-append, drop-cons, eq-eqb, ne_eqb, eqb-true}
use Rattle.std.proofs.Math.Bool.{and-false, and-eq-true_iff}
use Rattle.std.proofs.lemmas.Bool.{false≢true}
use Prim.Native.Nat.{ℕ, suc, ◌+◌, ◌<◌, ◌≤◌}
use native.Mathlib.Omega.{arith}
use Rattle.std.proofs.Math.ListN.{length, drop}
use Rattle.std.proofs.Math.Seq.{drop-length}
use Rattle.waveform.specs.Reading.{starts_with}
use Rattle.waveform.specs.StartLaws.{SameTo}

pub starts-short : (xs bs : List ℕ) → length bs < length xs → starts_with xs bs ≡ false
unfolding starts_with
starts-short [] bs h = absurd (omega arith)
starts-short (x ∷ xs) [] h = refl
starts-short (x ∷ xs) (b ∷ bs) h = rw (starts-short xs bs (omega arith)) (and-false (eqb x b))

-- bytes that begin with others are those, and what stands behind them
pub starts-split : (xs bs : List ℕ) → starts_with xs bs ≡ true → bs ≡ xs ++ drop (length xs) bs
unfolding starts_with
starts-split [] bs e = refl
starts-split (x ∷ xs) [] e = absurd (false≢true e)
starts-split (x ∷ xs) (b ∷ bs) e =
    let (same, rest) = (and-eq-true_iff (eqb x b) (starts_with xs bs)).0 e in
    ap₂ (λ c cs. c ∷ cs) (sym (eqb-true x b same)) (starts-split xs bs rest)

pub starts-long : (xs bs : List ℕ) → starts_with xs bs ≡ true → length xs ≤ length bs
starts-long xs bs e =
    let l : length bs ≡ length xs + length (drop (length xs) bs)
    = ap length (starts-split xs bs e) ∙ length-append xs (drop (length xs) bs) in
    omega arith

pub same_none : (xs bs : List ℕ) (at : ℕ) → SameTo xs bs at 0
same_none xs bs at = let e : at ≡ at + 0 = omega arith in record { within = omega arith; left = ap (λ n. starts_with xs (drop n bs)) e }

module _ {xs bs : List ℕ} {at i : ℕ} (s : SameTo xs bs at i) where
  byte : i < length xs → at + i < length bs
      → starts_with xs (drop at bs) ≡ starts_with (get_or xs i 0 ∷ drop (suc i) xs) (get_or bs (at + i) 0 ∷ drop (suc (at + i)) bs)
  byte h k = s.left ∙ ap₂ starts_with (drop-cons xs i 0 h) (drop-cons bs (at + i) 0 k)

  pub same_more : i < length xs → at + i < length bs → get_or xs i 0 ≡ get_or bs (at + i) 0 → SameTo xs bs at (i + 1)
  unfolding starts_with
  same_more h k e =
      let a : suc i ≡ i + 1 = omega arith in
      let b : suc (at + i) ≡ at + (i + 1) = omega arith in
      record {
        within = omega arith;
        left = byte h k ∙ rw (eq-eqb (get_or xs i 0) (get_or bs (at + i) 0) e) (ap₂ (λ m n. starts_with (drop m xs) (drop n bs)) a b);
      }

  pub same_not : i < length xs → at + i < length bs → get_or xs i 0 ≢ get_or bs (at + i) 0 → false ≡ starts_with xs (drop at bs)
  unfolding starts_with
  same_not h k f = sym (byte h k ∙ rw (ne_eqb (get_or xs i 0) (get_or bs (at + i) 0) f) refl)

  pub same-all : length xs ≤ i → true ≡ starts_with xs (drop at bs)
  unfolding starts_with
  same-all h =
      let w = s.within in
      let e : i ≡ length xs = omega arith in
      sym (s.left ∙ ap (λ l. starts_with l (drop (at + i) bs)) (ap (λ n. drop n xs) e ∙ drop-length xs))

-- bytes stand at the start of themselves and more
pub starts-append : (xs bs : List ℕ) → starts_with xs (xs ++ bs) ≡ true
unfolding starts_with
starts-append [] bs = refl
starts-append (x ∷ xs) bs = rw (eq-eqb x x refl) (starts-append xs bs)
