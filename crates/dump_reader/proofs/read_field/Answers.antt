-- `dump_reader::read_field` meets its contract, by the laws of a field in proofs/Lines.antt. Assumes nothing.
use Rattle.std.proofs.Common.{◌∙◌}
use Rattle.dump_reader.proofs.Lines.{field_open, field-end-within, field-none, field-fits, field-number}
use Rattle.dump_reader.proofs.read_field.Goals as goal

pub returns-then-end-bytes-clause-field : goal.returns-then-end-bytes-clause-field
returns-then-end-bytes-clause-field c =
    let a = c.args in
    field_open a.stop a.base a.most a.bytes.now a.from c.requires.from_in_bounds c.field_end-end.ensures c.if-end-bytes.true

pub slice_bounds-read_number-end : goal.slice_bounds-read_number-end
slice_bounds-read_number-end c =
    let a = c.args in
    field-end-within a.stop a.base a.most a.bytes.now a.from c.requires.from_in_bounds c.field_end-end.ensures

pub returns-in_err-value-clause-field : goal.returns-in_err-value-clause-field
returns-in_err-value-clause-field c =
    let a = c.args in
    c.from_residual.ensures
    ∙ field-none a.stop a.base a.most a.bytes.now a.from c.requires.from_in_bounds c.field_end-end.ensures c.read_number.ensures c.in_err-value.was

pub returns-clause-field : goal.returns-clause-field
returns-clause-field c =
    let a = c.args in
    field-number a.stop a.base a.most a.bytes.now a.from c.requires.from_in_bounds c.field_end-end.ensures c.read_number.ensures _ c.in_ok-value.was
    c.if-end-bytes.false

pub returns-clause-fits : goal.returns-clause-fits
returns-clause-fits c =
    let a = c.args in
    field-fits a.stop a.base a.most a.bytes.now a.from c.requires.from_in_bounds c.field_end-end.ensures c.read_number.ensures _ c.in_ok-value.was
