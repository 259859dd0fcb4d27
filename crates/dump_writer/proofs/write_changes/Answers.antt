-- `dump_writer::write_changes` meets its contract. Assumes nothing.
use Rattle.std.proofs.Common.{sym, subst, false}
use Rattle.waveform.specs.StepAnswers.{WriteTells}
use Rattle.waveform.proofs.StepAnswers.{write-tells}
use Rattle.dump_writer.proofs.write_changes.Goals as goal

pub returns-clause-told : goal.returns-clause-told
returns-clause-told c =
    let a = c.args in
    subst (WriteTells false a.words.now a.fills.now a.page.now) (sym c.write_step.ensures.answer) (write-tells false a.words.now a.fills.now a.page.now)
