-- `changes::write_empty` meets its contract: six words copied over zeros are the empty network. Assumes nothing.
use Rattle.std.proofs.Common.{◌≡◌, ◌++◌, ◌≤◌, rules, length, drop, replicate, length-take-le}
use Rattle.network.specs.Sizes.{shape_of}
use Rattle.changes.proofs.ChangeLaws.{room-for-sizes, empty-words}
use Rattle.changes.proofs.write_empty.Goals as goal
use Rattle.changes.proofs.write_empty.Goals.{After-fill}

zeros : (c : After-fill) → c.fill.new.self ≡ replicate c.need.result 0
zeros c = search rules

room : (c : After-fill) → 6 ≤ length (c.fill.new.self ++ drop c.need.result c.args.words.now)
room c = room-for-sizes (shape_of c.args.s) c.need.result c.args.words.now c.fill.new.self c.need.ensures (zeros c)

pub slice_bounds-copy_from_slice-end : goal.slice_bounds-copy_from_slice-end
slice_bounds-copy_from_slice-end c = room (goal.at.slice_bounds-copy_from_slice-end c).After-fill

pub slice_bounds-copy_from_slice-end-2 : goal.slice_bounds-copy_from_slice-end-2
slice_bounds-copy_from_slice-end-2 c = let l = room (goal.at.slice_bounds-copy_from_slice-end-2 c).After-fill in search rules

pub copy_from_slice-requires : goal.copy_from_slice-requires
copy_from_slice-requires c = length-take-le _ _ (room (goal.at.copy_from_slice-requires c).After-fill)

pub returns : goal.returns
returns c = empty-words c.args.s c.need.result c.args.words.now c.fill.new.self c.copy_from_slice.new.self c.need.ensures (zeros (goal.at.returns c).After-fill) c.copy_from_slice.ensures.after
