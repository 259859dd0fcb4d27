-- The queue that an output leads to. Order: it is one of the network's; no more of it is taken than its capacity; the rest is free. Assumes nothing.
use mathlib.Core.Path.{◌≡◌, ap, ap₂, sym, ◌∙◌}
use mathlib.Core.List.{List}
use Prim.Native.Nat.{ℕ, ◌-◌, ◌≤◌}
use native.Mathlib.Omega.{arith}
use Rattle.network.specs.Sizes.{shape_of, direction_of, capacity}
use Rattle.network.specs.Layout.{taken}
use Rattle.network.proofs.TorusLaws.{neighbour-lt, sizes-torus}
use Rattle.network.specs.Routes.{target, free_load}
use Rattle.network.proofs.RoutesLaws.{free-load-is}
use Rattle.network.specs.declared.Sizes.{Sizes}
use Rattle.queue.specs.QueueOf.{QueueOf}

module _ (s : Sizes) (w : List ℕ) (n o there : ℕ) (k : QueueOf (shape_of s) w n o) (e : there ≡ target (shape_of s) n o) where
  -- it is one of the network's
  pub at_target : QueueOf (shape_of s) w there o
  unfolding target
  at_target =
      let l = neighbour-lt (shape_of s) (direction_of o) n (sizes-torus s k.network.in-range) (omega arith) k.node in
      record { network = k.network; node = omega arith; queue = k.queue }

  -- no more of it is taken than its capacity, and the rest is free
  pub target-few : (slots sum : ℕ) → slots ≡ capacity (shape_of s) o → sum ≡ taken (shape_of s) w there o → sum ≤ slots
  target-few slots sum f g = let l = (at_target.network.queue there o at_target.node k.queue).light in omega arith

  pub target_free : (slots sum : ℕ) → slots ≡ capacity (shape_of s) o → sum ≡ taken (shape_of s) w there o → slots - sum ≡ free_load (shape_of s) w n o
  target_free slots sum f g =
      ap₂ (λ (a b : ℕ). a - b) f (g ∙ ap (λ (i : ℕ). taken (shape_of s) w i o) e) ∙ sym (free-load-is (shape_of s) w n o)
