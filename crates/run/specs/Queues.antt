-- The queue clause of the check by how a queue is stored and by its packets; a queue's oldest packet apart from the rest, and its newest;
-- the number of packets as a sum. Assumes nothing.
use Rattle.std.specs.Prelude.{◌≡◌, refl, List, [], ◌∷◌, ◌++◌, ℕ, ◌≤◌, T, drop}
use Rattle.std.proofs.Common.{ap, sym}
use Rattle.std.proofs.Math.Path.{fun_ext}
use Rattle.base.specs.Tests.{all_of}
use Rattle.base.proofs.Tests.{all_of-tail, all_of-append}
use Rattle.base.specs.Sums.{sum_of}
use Rattle.base.proofs.Sums.{sum_of-ones}
use Rattle.network.specs.Sizes.{Shape, capacity}
use Rattle.network.specs.Layout.{held, taken, total}
use Rattle.network.specs.Check.{packet_fits, packets_held}
use Rattle.network.specs.CheckLaws.{QueueFits}
use Rattle.network.specs.SameWords.{QueueStored}

-- a queue stored as it should be fits if its load and its packets do
pub fits_by : (S : Shape) (w : List ℕ) (n q : ℕ) → QueueStored S w n q → taken S w n q ≤ capacity S q → T (all_of (packet_fits S n q) (held S w n q))
    → QueueFits S w n q
fits_by S w n q l h t = record { few = l.few; unused = l.unused; light = h; packets = t }

pub all_of-rest : (f : ℕ → mathlib.Core.Bool.Bool) (ps : List ℕ) → T (all_of f ps) → T (all_of f (drop 1 ps))
all_of-rest f [] t = t
all_of-rest f (p ∷ ps) t = all_of-tail f p ps t

pub all_of-newest : (f : ℕ → mathlib.Core.Bool.Bool) (ps : List ℕ) (p : ℕ) → T (all_of f ps) → T (f p) → T (all_of f (ps ++ (p ∷ [])))
unfolding all_of
all_of-newest f ps p s t = all_of-append f ps (p ∷ []) s (Rattle.base.proofs.Tests.and_i (f p) mathlib.Core.Bool.true t tt)

-- the number of packets is the sum of one for each
abbrev pub one : ℕ → ℕ
one p = 1

pub packets-sum : (S : Shape) (w : List ℕ) → packets_held S w ≡ total S w (sum_of one)
unfolding packets_held
packets-sum S w = ap (total S w) (fun_ext (λ ps. sym (sum_of-ones one ps (λ p. refl))))
