-- The node that a packet's hops lead to, by its coordinates, dimension after dimension. Assumes nothing.
use mathlib.Core.Path.{◌≡◌, ap, sym, ◌∙◌}
use Prim.Native.Nat.{ℕ, ◌+◌, ◌*◌, ◌-◌, ◌%◌, ◌<◌, ◌≤◌}
use native.Mathlib.Nat.{mod-le}
use native.Mathlib.Omega.{arith}
use lib.ListN.{get_or}
use Rattle.base.specs.Digits.{weight}
use Rattle.base.proofs.Numbers.{lowest-none, lowest-more, lowest-all}
use Rattle.network.specs.Sizes.{shape_of, size, nodes, dimensions, most_nodes, plus, minus}
use Rattle.network.specs.Packet.{hops}
use Rattle.network.specs.Torus.{coordinate, moved_by}
use Rattle.network.proofs.TorusLaws.{sizes-torus, sizes-nodes, coordinate-moved_by, moved_by-lt}
use Rattle.network.specs.declared.Sizes.{Sizes}
use Rattle.torus.specs.declared.Place.{Place}
use Rattle.torus.specs.Geometry.{node_at, OnTorus}
use Rattle.torus.specs.GeometryLaws.{place-node, place-coordinate}

module _ (s : Sizes) (place : Place) (p : ℕ) where
  led : ℕ
  led = moved_by (shape_of s) p (node_at s place)

  -- its coordinates of the first i dimensions, each times its weight, summed up
  pub led_below : ℕ → ℕ
  led_below i = led % weight (shape_of s).sizes i

  pub led-none : led_below 0 ≡ 0
  unfolding led_below
  led-none = lowest-none (shape_of s).sizes led

  led-lt : OnTorus s place → led < nodes (shape_of s)
  unfolding led
  led-lt on = moved_by-lt (shape_of s) (node_at s place) p (sizes-torus s on.sizes) (place-node on)

  pub led-small : OnTorus s place → (i : ℕ) → led_below i < most_nodes
  unfolding led_below
  led-small on i =
      let l = led-lt on in
      let m = sizes-nodes s on.sizes in
      let d = mod-le led (weight (shape_of s).sizes i) in
      omega arith

  pub led-more : OnTorus s place → (i r : ℕ) → i < dimensions
      → r ≡ weight (shape_of s).sizes i * ((get_or place.at i 0 + (hops (plus i) p * 1 + hops (minus i) p * (size (shape_of s) i - 1))) % size (shape_of s) i)
      → led_below i + r ≡ led_below (i + 1)
  unfolding led_below led coordinate shape_of
  led-more on i r h e =
      ap (λ (c : ℕ). led_below i + c)
      (e
      ∙ ap (λ (c : ℕ). weight (shape_of s).sizes i * c)
      (ap (λ (c : ℕ). (c + (hops (plus i) p * 1 + hops (minus i) p * (size (shape_of s) i - 1))) % size (shape_of s) i) (place-coordinate on i h)
      ∙ sym (coordinate-moved_by (shape_of s) i (node_at s place) p (sizes-torus s on.sizes) h)))
      ∙ lowest-more (shape_of s).sizes led i h

  pub led-all : OnTorus s place → (i : ℕ) → i ≤ dimensions → dimensions ≤ i → led_below i ≡ moved_by (shape_of s) p (node_at s place)
  unfolding led_below led nodes shape_of
  led-all on i h l =
      ap (λ (j : ℕ). led % weight (shape_of s).sizes j) (let e : i ≡ dimensions = omega arith in e) ∙ lowest-all (shape_of s).sizes led (led-lt on)
