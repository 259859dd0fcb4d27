-- Laws of the bytes before a stop, whichever byte stops, for whoever reads a text field by field. Order: one byte; the front of the bytes, with the stop or
-- the end behind it; bytes that were joined with a stop; digits are no stop; a field that starts at a place. Assumes nothing.
use Rattle.std.specs.Prelude.{◌≡◌, refl, ◌≢◌, not, List, [], ◌∷◌, ◌++◌, ℕ, suc, ◌+◌, ◌<◌, ◌≤◌, T, leb, ltb, eqb, length, get_or, take, drop}
use Rattle.std.proofs.Common.{ap, ap₂, sym, ◌∙◌, arith, length-drop, get_or-drop, eq-eqb, ne_eqb, leb-true, ltb-true}
use Rattle.std.proofs.Math.Decide.{ℕ_discrete}
use Rattle.std.proofs.Math.Nat.{add-sub_cancel_left}
use Rattle.std.proofs.Math.Seq.{split_at}
use Rattle.base.specs.Tests.{all_of}
use Rattle.base.proofs.Tests.{all_of-head, all_of-tail, and_l, and_r, and_i, T_true}
use Rattle.sheet.specs.Commands.{up_to, is_digit}
use Rattle.sheet.specs.Fields.{lacks, end_from, field_at}

pub up_to-stop : (stop b : ℕ) (bs : List ℕ) → b ≡ stop → up_to stop (b ∷ bs) ≡ []
unfolding up_to
up_to-stop stop b bs e = rw (eq-eqb b stop e) refl

pub up_to-other : (stop b : ℕ) (bs : List ℕ) → b ≢ stop → up_to stop (b ∷ bs) ≡ b ∷ up_to stop bs
unfolding up_to
up_to-other stop b bs f = rw (ne_eqb b stop f) refl

-- the front of the bytes; where it ends before they do, the stop stands behind it
pub up_to-length : (stop : ℕ) (bs : List ℕ) → length (up_to stop bs) ≤ length bs
unfolding up_to
up_to-length stop [] = omega arith
up_to-length stop (b ∷ bs) = go (ℕ_discrete b stop) (up_to-length stop bs)
  where
    go : Dec (b ≡ stop) → length (up_to stop bs) ≤ length bs → length (up_to stop (b ∷ bs)) ≤ suc (length bs)
    go (yes e) h = rw (up_to-stop stop b bs e) (omega arith)
    go (no f) h = rw (up_to-other stop b bs f) (omega arith)

pub up_to-take : (stop : ℕ) (bs : List ℕ) → take (length (up_to stop bs)) bs ≡ up_to stop bs
unfolding up_to
up_to-take stop [] = refl
up_to-take stop (b ∷ bs) = go (ℕ_discrete b stop) (up_to-take stop bs)
  where
    go : Dec (b ≡ stop) → take (length (up_to stop bs)) bs ≡ up_to stop bs → take (length (up_to stop (b ∷ bs))) (b ∷ bs) ≡ up_to stop (b ∷ bs)
    go (yes e) h = rw (up_to-stop stop b bs e) refl
    go (no f) h = rw (up_to-other stop b bs f) (ap (λ s. b ∷ s) h)

pub up_to-stops : (stop : ℕ) (bs : List ℕ) → length (up_to stop bs) < length bs → get_or bs (length (up_to stop bs)) 0 ≡ stop
unfolding up_to
up_to-stops stop [] h = absurd (omega arith)
up_to-stops stop (b ∷ bs) h = go (ℕ_discrete b stop) (λ l. up_to-stops stop bs l) h
  where
    go : Dec (b ≡ stop) → (length (up_to stop bs) < length bs → get_or bs (length (up_to stop bs)) 0 ≡ stop)
        → length (up_to stop (b ∷ bs)) < suc (length bs) → get_or (b ∷ bs) (length (up_to stop (b ∷ bs))) 0 ≡ stop
    go (yes e) r h = rw (up_to-stop stop b bs e) e
    go (no f) r h = rw (up_to-other stop b bs f) (r (let l = rw (up_to-other stop b bs f) at h in omega arith))

-- so the bytes are the front, the stop, and what stands behind it
pub up_to-split : (stop : ℕ) (bs : List ℕ) → length (up_to stop bs) < length bs → bs ≡ up_to stop bs ++ (stop ∷ drop (suc (length (up_to stop bs))) bs)
up_to-split stop bs h =
    split_at bs (length (up_to stop bs)) 0 h
    ∙ ap₂ (λ front b. front ++ (b ∷ drop (suc (length (up_to stop bs))) bs)) (up_to-take stop bs) (up_to-stops stop bs h)

-- what was put before a stop is found again
pub up_to-before : (stop : ℕ) (xs rest : List ℕ) → T (lacks stop xs) → up_to stop (xs ++ (stop ∷ rest)) ≡ xs
up_to-before stop [] rest t = up_to-stop stop stop rest refl
up_to-before stop (b ∷ xs) rest t =
    up_to-other stop b (xs ++ (stop ∷ rest)) (other (all_of-head (λ c. not (eqb c stop)) b xs t))
    ∙ ap (λ s. b ∷ s) (up_to-before stop xs rest (all_of-tail (λ c. not (eqb c stop)) b xs t))
  where
    other : T (not (eqb b stop)) → b ≢ stop
    other t e = rw (eq-eqb b stop e) at t

-- a digit stands between 0 and the base in ASCII
pub digit-bounds : (base b : ℕ) → T (is_digit base b) → (48 ≤ b) × (b < 48 + base)
unfolding is_digit
digit-bounds base b t = (
  leb-true 48 b (T_true (leb 48 b) (and_l (leb 48 b) (ltb b (48 + base)) t)),
  ltb-true b (48 + base) (T_true (ltb b (48 + base)) (and_r (leb 48 b) (ltb b (48 + base)) t)),
)

-- digits lack every byte that stands before 0 in ASCII: a blank, a comma, the ends of a line
pub digits-lack : (base stop : ℕ) → stop < 48 → (xs : List ℕ) → T (all_of (is_digit base) xs) → T (lacks stop xs)
unfolding all_of
digits-lack base stop h [] t = tt
digits-lack base stop h (b ∷ xs) t =
    and_i (not (eqb b stop)) (lacks stop xs) (digit (all_of-head (is_digit base) b xs t)) (digits-lack base stop h xs (all_of-tail (is_digit base) b xs t))
  where
    digit : T (is_digit base b) → T (not (eqb b stop))
    digit t =
        let l : 48 ≤ b = (digit-bounds base b t).0 in
        rw (ne_eqb b stop (λ e. omega arith)) tt

module _ (stop : ℕ) (bs : List ℕ) (from : ℕ) where
  pub field-up_to : field_at stop bs from ≡ up_to stop (drop from bs)
  field-up_to =
      ap (λ n. take n (drop from bs)) (add-sub_cancel_left from (length (up_to stop (drop from bs)))) ∙ up_to-take stop (drop from bs)

  pub end-within : from ≤ length bs → end_from stop bs from ≤ length bs
  end-within h =
      let l = up_to-length stop (drop from bs) in
      let d = length-drop from bs in
      omega arith

  pub end-stops : end_from stop bs from < length bs → get_or bs (end_from stop bs from) 0 ≡ stop
  end-stops h =
      let d = length-drop from bs in
      let s : length (up_to stop (drop from bs)) < length (drop from bs) = omega arith in
      sym (get_or-drop from bs (length (up_to stop (drop from bs))) 0) ∙ up_to-stops stop (drop from bs) s
