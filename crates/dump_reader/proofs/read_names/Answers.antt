-- `dump_reader::read_names` meets its contract, by the laws of a header's names in proofs/Headers.antt. Assumes nothing.
use Rattle.std.proofs.Common.{◌≡◌, sym, ◌∙◌, true}
use Rattle.waveform.specs.Dump.{variables_begin}
use Rattle.waveform.specs.Reading.{starts_with}
use Rattle.waveform.proofs.StartLaws.{starts-long}
use Rattle.dump_reader.proofs.read_names.Goals as goal
use Rattle.dump_reader.proofs.read_names.Goals.{Else-not-starts_with}

-- the bytes before the variables stand there
begun : (c : Else-not-starts_with) → starts_with variables_begin c.args.bytes.now ≡ true
begun c = sym c.starts_with.ensures ∙ c.if-not-starts_with.false

pub count_variables-counted-requires : goal.count_variables-counted-requires
count_variables-counted-requires c = starts-long variables_begin c.args.bytes.now (begun (goal.at.count_variables-counted-requires c).Else-not-starts_with)
