-- Laws of Together.antt. Order: how often a queue is a source or a target of moves; the words after no move; after one move more, which is permitted as it
-- was at the start; the header's part by itself; after the same moves in another order the same words; which outputs have the same target. Assumes nothing.
use Rattle.std.specs.Prelude.{◌≡◌}
use mathlib.Core.HLevel.{Discrete}
use mathlib.Core.List.{List}
use Prim.Native.Nat.{ℕ, ◌<◌}
use Rattle.std.proofs.Math.Decide.{ℕ_discrete}
use Rattle.base.specs.Tests.{pair-discrete}
use Rattle.network.specs.declared.NamedMove.{NamedMove}
use Rattle.network.specs.Sizes.{Shape, nodes, queues}
use Rattle.network.specs.Layout.{held}
use Rattle.network.specs.AfterLaws.{LayoutKept}
use Rattle.network.specs.Together.{held_after, HeaderAfter}

-- The words after moves -------------------------------------------------------------------------------------------------------------------

-- R612, R613: v is the words w after the moves ms, whatever their order
pub record AfterAll (S : Shape) (w : List ℕ) (ms : List NamedMove) (v : List ℕ) : Type 0 where
  pub queue : (n q : ℕ) → n < nodes S → q < queues → held S v n q ≡ held_after S w ms n q
  pub header : HeaderAfter w ms v
  pub kept : LayoutKept S w v

-- so the targets differ exactly if the outputs do that are named
abbrev pub same_pair? : Discrete (ℕ × ℕ)
same_pair? = pair-discrete ℕ_discrete ℕ_discrete
