-- `dump_text::starts_with` meets its contract: the library's test is the definition's. Assumes nothing.
use Rattle.std.proofs.Common.{◌≡◌, refl, ap, ◌∙◌, arith, List, [], ◌∷◌, ℕ, ◌&&◌, eqb, length, drop}
use Rattle.std.specs.List.{starts_with as at_start}
use Rattle.std.proofs.lemmas.Slice.{between_to_end}
use Rattle.waveform.specs.Reading.{starts_with}
use Rattle.dump_text.proofs.starts_with.Goals as goal

same : (fixed bytes : List ℕ) → at_start eqb bytes fixed ≡ starts_with fixed bytes
unfolding starts_with
same [] bytes = refl
same (x ∷ xs) [] = refl
same (x ∷ xs) (b ∷ bs) = ap (λ r. eqb x b && r) (same xs bs)

pub returns : goal.returns
returns c =
    let a = c.args in
    c.starts_with.ensures.value
    ∙ ap (λ l. at_start eqb l a.fixed.now) (between_to_end a.bytes.now a.at (length a.bytes.now) (omega arith))
    ∙ same a.fixed.now (drop a.at a.bytes.now)
