-- `packet_check::moved` meets its contract. Assumes nothing.
use Rattle.std.proofs.Common.{ap, ◌∙◌, ℕ, ◌+◌, ◌*◌, ◌-◌, ◌%◌, ◌<◌, ◌≤◌, arith}
use Rattle.network.specs.PacketLaws.{half_offsets}
use Rattle.base.specs.Digits.{weight}
use Rattle.network.specs.Sizes.{shape_of, largest_ring}
use Rattle.network.proofs.TorusLaws.{in_range-size}
use Rattle.packet_check.specs.Tables.{dimension_words, RingTable}
use Rattle.packet_check.proofs.TableLaws.{moved-read}
use Rattle.packet_check.proofs.moved.Goals as goal
use Rattle.packet_check.proofs.moved.Goals.{After-size-k}

-- what is known of the ring
record Ring (i c k a : ℕ) : Type 0 where
  ring : k ≤ largest_ring
  on : c < k
  least : half_offsets < a + k
  most : a < half_offsets + k

ring : (c : After-size-k) → Ring c.args.i c.args.c c.size-k.result c.args.a
ring c =
    let a = c.args in
    let p = c.requires in
    let e = c.size-k.ensures in
    let m = in_range-size (shape_of a.s) a.i p.1 in
    let n = p.3 in
    let l = p.4 in
    let h = p.5 in
    record { ring = omega arith; on = omega arith; least = omega arith; most = omega arith }

pub overflow_add-result : goal.overflow_add-result
overflow_add-result c = let r = ring (goal.at.overflow_add-result c).After-size-k in omega arith

pub overflow_add-result-2 : goal.overflow_add-result-2
overflow_add-result-2 c = let r = ring (goal.at.overflow_add-result-2 c).After-size-k in omega arith

pub overflow_sub-result : goal.overflow_sub-result
overflow_sub-result c = let r = ring (goal.at.overflow_sub-result c).After-size-k in omega arith

pub overflow_add-result-3 : goal.overflow_add-result-3
overflow_add-result-3 c = let r = ring (goal.at.overflow_add-result-3 c).After-size-k in omega arith

pub offset_bounds-tables-i : goal.offset_bounds-tables-i
offset_bounds-tables-i c = let r = ring (goal.at.offset_bounds-tables-i c).After-size-k in omega arith

pub bounds-tables-i : goal.bounds-tables-i
bounds-tables-i c = let r = ring (goal.at.bounds-tables-i c).After-size-k in let w = c.requires.0.words in omega arith

pub returns : goal.returns
returns d =
    let a = d.args in
    let p = d.requires in
    let r = ring (goal.at.returns d).After-size-k in
    let e = d.size-k.ensures in
    let table : RingTable a.tables.now (a.i * dimension_words) d.size-k.result (weight (shape_of a.s).sizes a.i) = rw e (p.0.dimension a.i p.2).ring in
    λ f b l h.
    moved-read a.tables.now (a.i * dimension_words) a.c d.size-k.result a.a f b _ r.on r.most r.least table (omega arith) h
    ∙ ap (λ (k : ℕ). weight (shape_of a.s).sizes a.i * ((a.c + (f * 1 + b * (k - 1))) % k)) e
