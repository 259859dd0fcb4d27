-- Laws of the packet of an offer (`offered` of Calls.antt), between nodes of a torus whose rings are no longer than the largest. Order: its fields; its
-- direction; how far it has to go; that its offsets lead from its node to its destination, and have a hop left where the two differ. Assumes nothing.
use Rattle.std.specs.Prelude.{◌≡◌, cond, ◌≢◌, ℕ, ◌+◌, ◌*◌, ◌-◌, ◌/◌, ◌%◌, ◌<◌, ◌≤◌, ltb, eqb, pos, negsuc}
use Rattle.std.proofs.Math.Path.{ap}
use Rattle.std.proofs.Common.{sym, ◌∙◌}
use native.Mathlib.Omega.{arith}
use Rattle.std.proofs.Math.IntN.{nat_abs}
use Rattle.base.proofs.Sums.{sum-most}
use Rattle.base.specs.Digits.{digit}
use Rattle.network.specs.Sizes.{Shape, size, nodes, dimensions, most_chunks}
use Rattle.network.specs.Packet.{destination_values, fields, destination_field, chunk_field, tag, chunks, offset, distance, hops_left, work}
use Rattle.network.specs.PacketLaws.{OffsetRange, landing}
use Rattle.network.proofs.PacketLaws.{tag-packet, field-packet, offset-packet, ahead-lt, shorter_way-nearer, shorter_way-halfway, shorter_way-range, shorter_way-half, shorter_way-reaches}
use Rattle.network.specs.Torus.{coordinate, moved_by}
use Rattle.network.specs.TorusLaws.{Torus}
use Rattle.network.proofs.TorusLaws.{coordinate-lt, coordinates-eq, coordinate-landing, moved_by-lt, moved_by-here}
use Rattle.network.specs.Check.{longest, most_work}
use Rattle.network.specs.Calls.{offered_steps, offered_way, offered}
use Rattle.network.specs.OfferLaws.{ShortRings}

steps-lt : (S : Shape) (n dest i : ℕ) → Torus S → i < dimensions → offered_steps S n dest i < size S i
steps-lt S n dest i t h = ahead-lt (size S i) (coordinate S i n) (coordinate S i dest) (coordinate-lt S i n t h)

pub offered-range : (S : Shape) (n dest i : ℕ) → Torus S → ShortRings S → i < dimensions → OffsetRange (offered_way S n dest i)
offered-range S n dest i t s h =
    let m = s i h in
    shorter_way-range (size S i) (offered_steps S n dest i) _ (steps-lt S n dest i t h) (omega arith)

-- Its fields --------------------------------------------------------------------------------------------------------------------------

module _ (S : Shape) (n dest tag' chunks' : ℕ) (t : Torus S) (h : n < nodes S) (hd : dest < nodes S) (fits : nodes S ≤ destination_values)
    (few : chunks' ≤ most_chunks) (s : ShortRings S) where
  small : dest < destination_values
  small = omega arith

  ranges : (i : ℕ) → i < dimensions → OffsetRange (offered_way S n dest i)
  ranges i k = offered-range S n dest i t s k

  pub tag-offered : tag (offered S n dest tag' chunks') ≡ tag'
  unfolding offered
  tag-offered = tag-packet tag' chunks' dest (λ i. offered_way S n dest i) few small ranges

  -- of the others the destination is the one offered to, the chunks are those offered, and any other is 0
  pub field-offered : (k : ℕ) → dimensions ≤ k
      → digit fields k (offered S n dest tag' chunks') ≡ cond (eqb k destination_field) dest (cond (eqb k chunk_field) (chunks' - 1) 0)
  unfolding offered
  field-offered k l = field-packet tag' chunks' dest (λ i. offered_way S n dest i) few small ranges k l

  pub chunks-offered : 0 < chunks' → chunks (offered S n dest tag' chunks') ≡ chunks'
  unfolding chunks
  chunks-offered some = ap (λ (c : ℕ). c + 1) (field-offered chunk_field (omega arith)) ∙ omega arith

  pub offset-offered : (i : ℕ) → i < dimensions → offset i (offered S n dest tag' chunks') ≡ offered_way S n dest i
  unfolding offered
  offset-offered i k = offset-packet tag' chunks' dest (λ i. offered_way S n dest i) few small ranges i k

  -- Its direction ---------------------------------------------------------------------------------------------------------------------

  -- R67: where one way is shorter it is that one, from every coordinate
  pub offset-nearer : (i : ℕ) → i < dimensions → 2 * offered_steps S n dest i ≢ size S i
      → offset i (offered S n dest tag' chunks')
      ≡ cond (ltb (2 * offered_steps S n dest i) (size S i)) (pos (offered_steps S n dest i)) (negsuc (size S i - offered_steps S n dest i - 1))
  offset-nearer i k ne = offset-offered i k ∙ shorter_way-nearer (size S i) (offered_steps S n dest i) _ ne

  -- R68: half-way round it is plus from an even coordinate of the sending node and minus from an odd one, in each dimension by its own
  pub offset-halfway : (i : ℕ) → i < dimensions → 2 * offered_steps S n dest i ≡ size S i
      → offset i (offered S n dest tag' chunks') ≡ cond (eqb (coordinate S i n % 2) 0) (pos (size S i / 2)) (negsuc (size S i / 2 - 1))
  offset-halfway i k e =
      let half : offered_steps S n dest i ≡ size S i / 2 = omega arith in
      offset-offered i k
      ∙ shorter_way-halfway (size S i) (offered_steps S n dest i) (coordinate S i n) e
      ∙ ap (λ (h : ℕ). cond (eqb (coordinate S i n % 2) 0) (pos h) (negsuc (h - 1))) half

  -- How far it has to go -------------------------------------------------------------------------------------------------------------

  pub distance-offered : (i : ℕ) → i < dimensions → distance i (offered S n dest tag' chunks') ≤ longest S i
  unfolding distance
  distance-offered i k =
      let e : nat_abs (offset i (offered S n dest tag' chunks')) ≡ nat_abs (offered_way S n dest i) = ap nat_abs (offset-offered i k) in
      let l : nat_abs (offered_way S n dest i) ≤ longest S i =
      shorter_way-half (size S i) (offered_steps S n dest i) _ (steps-lt S n dest i t k) in
      omega arith

  pub work-offered : work (offered S n dest tag' chunks') ≤ most_work
  unfolding work hops_left
  work-offered =
      let m = sum-most dimensions 8 (λ i. distance i (offered S n dest tag' chunks')) (λ i k. let d = distance-offered i k in let a = s i k in omega arith) in
      omega arith

  -- It leads to its destination -------------------------------------------------------------------------------------------------------

  pub moved_by-offered : moved_by S (offered S n dest tag' chunks') n ≡ dest
  moved_by-offered =
      coordinates-eq S (moved_by S (offered S n dest tag' chunks') n) dest t (moved_by-lt S n (offered S n dest tag' chunks') t h) hd
      (λ i k.
      coordinate-landing S i n (offered S n dest tag' chunks') t k
      ∙ ap (landing (size S i) (coordinate S i n)) (offset-offered i k)
      ∙ shorter_way-reaches (size S i) (coordinate S i n) (coordinate S i dest) _ (coordinate-lt S i n t k) (coordinate-lt S i dest t k))

  pub hops-offered : n ≢ dest → hops_left (offered S n dest tag' chunks') ≢ 0
  hops-offered apart none = apart (sym (moved_by-here S n (offered S n dest tag' chunks') t h none) ∙ moved_by-offered)
