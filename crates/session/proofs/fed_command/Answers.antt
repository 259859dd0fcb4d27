-- `session::fed_command` meets its contract, by cases on the answer of the line cutter. Assumes nothing.
use Rattle.std.proofs.Common.{◌≡◌, Some, refl, sym, ap, List, ℕ, take, length-take-le}
use Rattle.sheet.specs.declared.Fed.{Fed}
use Rattle.sheet.specs.declared.Command.{Command}
use Rattle.sheet.specs.Commands.{command_of}
use Rattle.session.specs.Coming.{fed_command}
use Rattle.session.proofs.RunningLaws.{line-within}
use Rattle.session.proofs.fed_command.Goals as goal

pub slice_bounds-read_command-end : goal.slice_bounds-read_command-end
slice_bounds-read_command-end c =
    let line = c.args.line.now in
    sym (length-take-le c.in-Line.n line (line-within _ c.in-Line.n line c.in-Line.is c.requires))

line_read : (line : List ℕ) (fed : Fed) (n : ℕ) (command : Command) → fed ≡ Fed.Line n → command ≡ command_of (take n line) → Some command ≡ fed_command line fed
unfolding fed_command
line_read line fed n command e r = rw e (ap Some r)

pub returns-in-More : goal.returns-in-More
unfolding fed_command
returns-in-More c = rw c.in-More.is refl

pub returns-in-Line : goal.returns-in-Line
returns-in-Line c = line_read _ _ _ _ c.in-Line.is c.read_command.ensures

pub returns-in-TooLong : goal.returns-in-TooLong
unfolding fed_command
returns-in-TooLong c = rw c.in-TooLong.is refl
