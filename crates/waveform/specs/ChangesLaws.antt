-- What the helpers of a step's changes state, said without them: by the changes that stand in a list, and by the places of a list of fills. `IsTold` is the
-- library's notion of standing in a list. Order: what is told; what it needs; what it leaves in a list. That variables rise, and so each is told once, is
-- `changes-rise` (ReadingLaws.antt). Assumes nothing.
use Rattle.std.specs.Prelude.{◌≡◌, ◌≢◌, ◌⊎◌, Bool, true, ℕ, ◌<◌, get_or}
use mathlib.Core.List.{List, Memᴰ}
use Rattle.waveform.specs.Dump.{Change}

-- What is told (R407 to R409) -------------------------------------------------------------------------------------------------------------

abbrev pub IsTold : Change → List Change → Type 0
IsTold c cs = Memᴰ c cs

-- `tells`: a header tells every variable, a later step those whose fill is another
abbrev pub Differs : Bool → List ℕ → List ℕ → ℕ → Type 0
Differs every counts list i = (every ≡ true) ⊎ (get_or counts i 0 ≢ get_or list i 0)

-- a change that is due among the first i variables: it has the fill of the words
pub record Due (every : Bool) (counts list : List ℕ) (i : ℕ) (c : Change) : Type 0 where
  pub below : c.variable < i
  pub fill : c.fill ≡ get_or counts c.variable 0
  pub differs : Differs every counts list c.variable
