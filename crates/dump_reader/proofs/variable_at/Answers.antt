-- `dump_reader::variable_at` meets its contract: the line that was put is the front of its buffer. Assumes nothing.
use Rattle.std.proofs.Common.{◌∙◌, arith, drop}
use Rattle.waveform.proofs.Lengths.{variable-room}
use Rattle.dump_reader.proofs.Headers.{front-within, front_length, front-there}
use Rattle.dump_reader.proofs.variable_at.Goals as goal

pub print_variable-length-requires : goal.print_variable-length-requires
print_variable-length-requires c = omega (arith, variable-room c.args.i c.requires.i_lt_most_variables)

pub slice_bounds-line-end : goal.slice_bounds-line-end
slice_bounds-line-end c = front-within c.print_variable-length.ensures (omega (arith, variable-room c.args.i c.requires.i_lt_most_variables))

pub slice_bounds-starts_with-end : goal.slice_bounds-starts_with-end
slice_bounds-starts_with-end c = front_length c.print_variable-length.ensures (omega (arith, variable-room c.args.i c.requires.i_lt_most_variables))

pub returns : goal.returns
returns c =
    c.then_some.ensures
    ∙ front-there c.print_variable-length.ensures (omega (arith, variable-room c.args.i c.requires.i_lt_most_variables)) (drop c.args.at c.args.bytes.now)
    c.starts_with.ensures
