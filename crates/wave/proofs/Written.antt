-- What a step that was made leaves to be written of a read. Order: a step that was done; a read that is used up. Assumes nothing.
use Rattle.std.proofs.Common.{◌≡◌, Option, None, Some, ℕ, List, [], ◌++◌, take, ap, ◌∙◌}
use Rattle.replay.specs.declared.ReplayCursor.{ReplayCursor}
use Rattle.replay.specs.Replay.{FillsOf}
use Rattle.replay.specs.Steps.{unwritten, unwritten_by, Shows}

module _ (piece w buffer list : List ℕ) (c : ReplayCursor) (v buffer' page : List ℕ) (c' : ReplayCursor) (r : Option ℕ) (s : Shows piece w buffer list c v buffer' page c' r) (is : FillsOf w list) where
  pub shown_on : (n : ℕ) → r ≡ Some n → unwritten piece w buffer c ≡ take n page ++ unwritten piece v buffer' c'
  unfolding Shows unwritten_by
  shown_on n d = s is ∙ ap (unwritten_by piece v buffer' page c') d

  pub shown_up : r ≡ None → unwritten piece w buffer c ≡ []
  unfolding Shows unwritten_by
  shown_up d = s is ∙ ap (unwritten_by piece v buffer' page c') d
